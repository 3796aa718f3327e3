use Rattle.std.proofs.Common.{◌≡◌, List, Some, vec_len}
use Rattle.hol_model.specs.Texts.TermGrammar.{TermTree}
use Rattle.hol_syntax_grammar.specs.TermReader.{Pending, close}
use Rattle.hol_syntax_grammar.specs.TermStates.{IsState}
use Rattle.hol_syntax_grammar.proofs.term_reader.TermReader.close.Given as goal

-- what is left to close closes as all of it does
abbrev pub invariant-loop-waiting : goal.invariant-loop-waiting
invariant-loop-waiting l = (opens : List Pending) (t : TermTree) → IsState l.initial.self opens (Some t)
    → (opens' : List Pending) × (t' : TermTree) × (close l.level opens' t' ≡ close l.level opens t) × IsState l.self opens' (Some t')

abbrev pub decreases-loop-waiting : goal.decreases-loop-waiting
decreases-loop-waiting l = vec_len l.self.opens
