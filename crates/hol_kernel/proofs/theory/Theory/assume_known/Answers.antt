use Rattle.std.proofs.Common.{◌≡◌, [], ◌∷◌}
use Rattle.hol_kernel.proofs.KnownLemmas.{no_unknown}
use Rattle.hol_kernel.proofs.RuleLemmas.{theorem-alike, known_is_formula, assume-theorem, assume-concluded, answers-made}
use Rattle.hol_kernel.proofs.theory.Theory.assume_known.Goals as goal

pub new-requires : goal.new-requires
new-requires c =
    let theory = c.args.self.now in
    let term = c.args.term.now in
    let items : c.in_ok-hypotheses.hypotheses.items ≡ term ∷ [] = cc (c.in_ok-hypotheses.ensures.ok, c.in_ok-copy.ensures.ok) in
    theorem-alike _ _ _ _ _ _ c.entries.ensures.value items c.in_ok-conclusion.ensures.ok
    (assume-theorem theory c.entries.ensures.legal term (known_is_formula theory term c.requires) (no_unknown theory term c.requires.known))

pub returns-clause-outcome : goal.returns-clause-outcome
returns-clause-outcome c =
    let theory = c.args.self.now in
    let term = c.args.term.now in
    let items : c.in_ok-hypotheses.hypotheses.items ≡ term ∷ [] = cc (c.in_ok-hypotheses.ensures.ok, c.in_ok-copy.ensures.ok) in
    answers-made c.new.result _ _ _ _ _ _ _ (assume-concluded theory term c.requires) c.entries.ensures.value items c.in_ok-conclusion.ensures.ok c.new.ensures.ok c.new.ensures.err
