use Rattle.std.proofs.Common.{◌≡◌, ℕ, length, rules, ◌∙◌, sym, ap, subst}
use Rattle.std.proofs.lemmas.Option.{same_Some}
use Rattle.std.proofs.lemmas.List.{length-map}
use Rattle.hol_journal.specs.Journal.{Recorded}
use Rattle.hol_model.specs.Kernel.Rules.{dest_equation}
use Rattle.hol_model.specs.Kernel.Theorem.{Theorem}
use Rattle.hol_model.specs.Terms.NamedTerm.{NamedTerm}
use Rattle.hol_model.specs.Refining.Refiners.{IsStep, converted}
use Rattle.hol_theorem_library.specs.Library.{store_in}
use Rattle.hol_model.specs.Goals.Replays.{IsProvedOver}
use Rattle.hol_just.specs.Steps.{goal_of, step_of}
use Rattle.hol_laws_refiners.proofs.Equations.{equations-of-targets}
use Rattle.hol_refine.proofs.lemmas.by_equation.Goals as goal

pub returns-clause-outcome : goal.returns-clause-outcome
returns-clause-outcome c =
    let held = sym c.are_assumed.ensures ∙ c.if-not-are_assumed.false in
    let goal = goal_of c.args.goal.now in
    let step = step_of c.in_ok-step.step in
    let is = c.in-Some.ensures.sides ∙ (ap dest_equation (c.concl.ensures.value ∙ ap (λ (t : Theorem). t.conclusion) c.theorem-3.ensures) ∙ c.requires.equation.is_equation) in
    let right : c.in-Some.sides.right.now ≡ c.requires.equation.sides.1 = ap (λ (sides : NamedTerm × NamedTerm). sides.1) (same_Some _ _ is) in
    let count = c.lemma_count.ensures ∙ sym (length-map c.args.library.now.store.lemmas.items (λ (made : Recorded). made.theorem)) in
    let proved : IsProvedOver c.args.library.now.recorder.theory c.args.theorem.theorem = search rules in
    record {
      assumed = rw (c.hyps.ensures.value, c.theorem-2.ensures) at held;
      proved = proved;
      sides = c.requires.equation.sides;
      is_equation = c.requires.equation.is_equation;
      equates = equations-of-targets c.args.library.now.recorder.theory (goal_of c.args.goal.now) c.args.theorem.theorem c.theory_is_legal.ensures c.requires.known proved c.requires.equation;
      is_step = subst (λ (right : NamedTerm). IsStep (converted (length (store_in c.args.library.now).lemmas) goal right) step) right
          (subst (λ (count : ℕ). IsStep (converted count goal c.in-Some.sides.right.now) step) count c.in_ok-step.ensures);
      stored = c.in_ok-add_lemma.ensures.ok;
    }
