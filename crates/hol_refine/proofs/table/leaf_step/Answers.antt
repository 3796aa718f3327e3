use Rattle.std.proofs.Common.{ℕ, List, subst}
use Rattle.std.specs.Option.{option_map}
use Rattle.hol_model.specs.Refining.Refiners.{all_tac, no_tac, accept_tac, assumption_tac, assume_tac, refl_tac, conj_tac, eq_tac}
use Rattle.hol_model.specs.Refining.Refiners.{disj1_tac, disj2_tac, disch_tac, exists_tac, mp_tac, disj_cases_tac, choose_tac, undisch_tac}
use Rattle.hol_just.specs.Steps.{goal_of}
use Rattle.hol_theorem_store.specs.Store.{stored_of}
use Rattle.hol_theorem_store.specs.Stored.{theorems_in}
use Rattle.hol_refine.specs.TableAnswers.{step_in, AnswersLeaf}
use Rattle.hol_refine.proofs.FreshAnswers.{row_answers, named_answers}
use Rattle.hol_refine.proofs.KnownGoals.{target-typed, assumed-typed, right-typed}
use Rattle.hol_refine.proofs.table.leaf_step.Goals as goal

pub returns-in-All : goal.returns-in-All
returns-in-All c =
    rw c.in-All.is
    (row_answers c.args.theory.now (theorems_in (stored_of c.args.store.now)) all_tac (goal_of c.args.goal.now) (step_in c.all_tac.result) tt c.all_tac.ensures)

pub returns-in-Assumption : goal.returns-in-Assumption
returns-in-Assumption c =
    rw c.in-Assumption.is
    (row_answers c.args.theory.now (theorems_in (stored_of c.args.store.now)) assumption_tac (goal_of c.args.goal.now) (step_in c.assumption_tac.result) tt c.assumption_tac.ensures)

pub returns-in-Refl : goal.returns-in-Refl
returns-in-Refl c =
    rw c.in-Refl.is
    (row_answers c.args.theory.now (theorems_in (stored_of c.args.store.now)) refl_tac (goal_of c.args.goal.now) (step_in c.refl_tac.result) tt c.refl_tac.ensures)

pub returns-in-Conj : goal.returns-in-Conj
returns-in-Conj c =
    rw c.in-Conj.is
    (row_answers c.args.theory.now (theorems_in (stored_of c.args.store.now)) conj_tac (goal_of c.args.goal.now) (step_in c.conj_tac.result) tt c.conj_tac.ensures)

pub returns-in-Eq : goal.returns-in-Eq
returns-in-Eq c =
    rw c.in-Eq.is
    (row_answers c.args.theory.now (theorems_in (stored_of c.args.store.now)) eq_tac (goal_of c.args.goal.now) (step_in c.eq_tac.result) tt c.eq_tac.ensures)

pub returns-in-Disj1 : goal.returns-in-Disj1
returns-in-Disj1 c =
    rw c.in-Disj1.is
    (row_answers c.args.theory.now (theorems_in (stored_of c.args.store.now)) disj1_tac (goal_of c.args.goal.now) (step_in c.disj1_tac.result) tt c.disj1_tac.ensures)

pub returns-in-Disj2 : goal.returns-in-Disj2
returns-in-Disj2 c =
    rw c.in-Disj2.is
    (row_answers c.args.theory.now (theorems_in (stored_of c.args.store.now)) disj2_tac (goal_of c.args.goal.now) (step_in c.disj2_tac.result) tt c.disj2_tac.ensures)

pub returns-in-Disch : goal.returns-in-Disch
returns-in-Disch c =
    rw c.in-Disch.is
    (row_answers c.args.theory.now (theorems_in (stored_of c.args.store.now)) disch_tac (goal_of c.args.goal.now) (step_in c.disch_tac.result) tt c.disch_tac.ensures)

pub returns-in-No : goal.returns-in-No
returns-in-No c =
    rw c.in-No.is
    (row_answers c.args.theory.now (theorems_in (stored_of c.args.store.now)) no_tac (goal_of c.args.goal.now) (step_in c.no_tac.result) tt (c.no_tac.ensures (goal_of c.args.goal.now)))

pub returns-in-Gen : goal.returns-in-Gen
returns-in-Gen c = rw c.in-Gen.is (c.gen_tac.ensures (theorems_in (stored_of c.args.store.now)))

pub returns-in-Exists : goal.returns-in-Exists
returns-in-Exists c =
    rw c.in-Exists.is
    (row_answers c.args.theory.now (theorems_in (stored_of c.args.store.now)) (exists_tac c.in-Exists.witness) (goal_of c.args.goal.now) (step_in c.exists_tac.result) tt c.exists_tac.ensures)

pub returns-in-Undisch : goal.returns-in-Undisch
returns-in-Undisch c =
    rw c.in-Undisch.is
    (row_answers c.args.theory.now (theorems_in (stored_of c.args.store.now)) (undisch_tac c.in-Undisch.p) (goal_of c.args.goal.now) (step_in c.undisch_tac.result) tt c.undisch_tac.ensures)

pub returns-in-Accept : goal.returns-in-Accept
returns-in-Accept c =
    rw c.in-Accept.is
    (subst (λ (name : List ℕ). AnswersLeaf c.args.theory.now (theorems_in (stored_of c.args.store.now)) (accept_tac name) (goal_of c.args.goal.now) (step_in c.accept_tac.result))
    c.cite.ensures.name
    (named_answers c.args.theory.now (theorems_in (stored_of c.args.store.now)) (accept_tac c.cite.result.name.now) c.cite.result.name.now
    (option_map (λ t. t.now) c.cite.result.theorem) (goal_of c.args.goal.now) (step_in c.accept_tac.result) tt c.cite.ensures.theorem c.accept_tac.ensures))

pub returns-in-Assume : goal.returns-in-Assume
returns-in-Assume c =
    rw c.in-Assume.is
    (subst (λ (name : List ℕ). AnswersLeaf c.args.theory.now (theorems_in (stored_of c.args.store.now)) (assume_tac name) (goal_of c.args.goal.now) (step_in c.assume_tac.result))
    c.cite-in-Assume.ensures.name
    (named_answers c.args.theory.now (theorems_in (stored_of c.args.store.now)) (assume_tac c.cite-in-Assume.result.name.now) c.cite-in-Assume.result.name.now
    (option_map (λ t. t.now) c.cite-in-Assume.result.theorem) (goal_of c.args.goal.now) (step_in c.assume_tac.result) tt c.cite-in-Assume.ensures.theorem c.assume_tac.ensures))

pub returns-in-Mp : goal.returns-in-Mp
returns-in-Mp c =
    rw c.in-Mp.is
    (subst (λ (name : List ℕ). AnswersLeaf c.args.theory.now (theorems_in (stored_of c.args.store.now)) (mp_tac name) (goal_of c.args.goal.now) (step_in c.mp_tac.result))
    c.cite-in-Mp.ensures.name
    (named_answers c.args.theory.now (theorems_in (stored_of c.args.store.now)) (mp_tac c.cite-in-Mp.result.name.now) c.cite-in-Mp.result.name.now
    (option_map (λ t. t.now) c.cite-in-Mp.result.theorem) (goal_of c.args.goal.now) (step_in c.mp_tac.result) tt c.cite-in-Mp.ensures.theorem c.mp_tac.ensures))

pub returns-in-DisjCases : goal.returns-in-DisjCases
returns-in-DisjCases c =
    rw c.in-DisjCases.is
    (subst (λ (name : List ℕ). AnswersLeaf c.args.theory.now (theorems_in (stored_of c.args.store.now)) (disj_cases_tac name) (goal_of c.args.goal.now) (step_in c.disj_cases_tac.result))
    c.cite-in-DisjCases.ensures.name
    (named_answers c.args.theory.now (theorems_in (stored_of c.args.store.now)) (disj_cases_tac c.cite-in-DisjCases.result.name.now) c.cite-in-DisjCases.result.name.now
    (option_map (λ t. t.now) c.cite-in-DisjCases.result.theorem) (goal_of c.args.goal.now) (step_in c.disj_cases_tac.result) tt c.cite-in-DisjCases.ensures.theorem c.disj_cases_tac.ensures))

pub returns-in-Choose : goal.returns-in-Choose
returns-in-Choose c =
    rw c.in-Choose.is
    (subst (λ (name : List ℕ). AnswersLeaf c.args.theory.now (theorems_in (stored_of c.args.store.now)) (choose_tac name) (goal_of c.args.goal.now) (step_in c.choose_tac.result))
    c.cite-in-Choose.ensures.name (c.choose_tac.ensures (theorems_in (stored_of c.args.store.now)) c.cite-in-Choose.ensures.theorem))

pub mp_tac-requires : goal.mp_tac-requires
mp_tac-requires c = target-typed c.args.theory.now (goal_of c.args.goal.now) c.requires.known

pub undisch_tac-requires-clause-target : goal.undisch_tac-requires-clause-target
undisch_tac-requires-clause-target c = target-typed c.args.theory.now (goal_of c.args.goal.now) c.requires.known

pub undisch_tac-requires-clause-assumption : goal.undisch_tac-requires-clause-assumption
undisch_tac-requires-clause-assumption c = assumed-typed c.args.theory.now (goal_of c.args.goal.now) c.requires.known c.in-Undisch.p

pub eq_tac-requires-clause-target : goal.eq_tac-requires-clause-target
eq_tac-requires-clause-target c = target-typed c.args.theory.now (goal_of c.args.goal.now) c.requires.known

pub eq_tac-requires-clause-sides : goal.eq_tac-requires-clause-sides
eq_tac-requires-clause-sides c = right-typed c.args.theory.now c.requires.legal (goal_of c.args.goal.now) c.requires.known
