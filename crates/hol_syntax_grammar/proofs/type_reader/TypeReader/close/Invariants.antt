use Rattle.std.proofs.Common.{◌≡◌, List, Some, vec_len}
use Rattle.hol_model.specs.Texts.TypeGrammar.{TypeTree}
use Rattle.hol_syntax_grammar.specs.TypeReader.{Pending, close}
use Rattle.hol_syntax_grammar.specs.TypeStates.{IsState}
use Rattle.hol_syntax_grammar.proofs.type_reader.TypeReader.close.Given as goal

-- what is left to close closes as all of it does
abbrev pub invariant-loop-self : goal.invariant-loop-self
invariant-loop-self l = (opens : List Pending) (t : TypeTree) → IsState l.initial.self opens (Some t)
    → (opens' : List Pending) × (t' : TypeTree) × (close opens' t' ≡ close opens t) × IsState l.self opens' (Some t')

abbrev pub decreases-loop-self : goal.decreases-loop-self
decreases-loop-self l = vec_len l.self.opens
