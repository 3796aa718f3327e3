use Rattle.std.proofs.Common.{◌≡◌, [], Some, refl}
use Rattle.hol_model.specs.Terms.NamedTerm.{equation}
use Rattle.hol_model.specs.Kernel.Rules.{dest_trivial_redex, beta_outcome, concluded}
use Rattle.hol_kernel.proofs.KnownLemmas.{no_unknown}
use Rattle.hol_kernel.proofs.RuleLemmas.{theorem-alike, beta-theorem, answers-concluded}
use Rattle.hol_kernel.proofs.theory.Theory.beta_known.Goals as goal

pub equation_theorem-requires-clause-theorem : goal.equation_theorem-requires-clause-theorem
equation_theorem-requires-clause-theorem c = λ ty typed.
    let redex : dest_trivial_redex c.args.term.now ≡ Some c.in-Some.body.now = cc (c.in-Some.ensures) in
    theorem-alike _ _ _ _ _ _ c.entries.ensures.value c.new.ensures.items refl
    (beta-theorem c.args.self.now c.entries.ensures.legal c.args.term.now c.in-Some.body.now ty redex (no_unknown c.args.self.now c.args.term.now c.requires) typed)

pub returns-clause-outcome : goal.returns-clause-outcome
returns-clause-outcome c =
    let theory = c.args.self.now in
    let term = c.args.term.now in
    let body = c.in-Some.body.now in
    let redex : dest_trivial_redex term ≡ Some body = cc (c.in-Some.ensures) in
    let is : beta_outcome theory term ≡ concluded theory [] (equation term body) = rw (redex, no_unknown theory term c.requires) refl in
    answers-concluded c.equation_theorem.result (beta_outcome theory term) theory c.entries.result.now [] c.new.result.items term body term body is
    c.entries.ensures.value c.new.ensures.items refl refl c.equation_theorem.ensures.outcome
