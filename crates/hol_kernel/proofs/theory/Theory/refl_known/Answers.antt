use Rattle.std.proofs.Common.{◌≡◌, [], refl}
use Rattle.hol_model.specs.Terms.NamedTerm.{equation}
use Rattle.hol_model.specs.Kernel.Rules.{refl_outcome, concluded}
use Rattle.hol_kernel.proofs.KnownLemmas.{no_unknown}
use Rattle.hol_kernel.proofs.RuleLemmas.{theorem-alike, refl-theorem, answers-concluded}
use Rattle.hol_kernel.proofs.theory.Theory.refl_known.Goals as goal

pub equation_theorem-requires-clause-theorem : goal.equation_theorem-requires-clause-theorem
equation_theorem-requires-clause-theorem c = λ ty typed.
    theorem-alike _ _ _ _ _ _ c.entries.ensures.value c.new.ensures.items refl
    (refl-theorem c.args.self.now c.entries.ensures.legal c.args.term.now ty (no_unknown c.args.self.now c.args.term.now c.requires) typed)

pub returns-clause-outcome : goal.returns-clause-outcome
returns-clause-outcome c =
    let theory = c.args.self.now in
    let term = c.args.term.now in
    let is : refl_outcome theory term ≡ concluded theory [] (equation term term) = rw (no_unknown theory term c.requires) refl in
    answers-concluded c.equation_theorem.result (refl_outcome theory term) theory c.entries.result.now [] c.new.result.items term term term term is
    c.entries.ensures.value c.new.ensures.items refl refl c.equation_theorem.ensures.outcome
