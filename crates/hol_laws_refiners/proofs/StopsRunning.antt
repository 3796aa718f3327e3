-- A refiner is refused for want of steps only where none is left.
use Rattle.std.proofs.Common.{◌≡◌, ℕ, List, [], ◌∷◌, Bool, true, false, refl, subst, inl, inr, Option, Some, None, Result, Ok, Err, if◌then◌else◌}
use Rattle.std.specs.Prelude.{length, nat_le}
use Rattle.std.specs.Option.{option_map}
use Rattle.hol_model.specs.declared.fault.Fault.{Fault}
use Rattle.hol_model.specs.declared.fault.Fault.TheVariants.{TooLarge, TypeMismatch, BadShape, RefineFails, UnknownName, NotBool, NotTautology, TooManyAtoms}
use Rattle.hol_model.specs.declared.limits.TheConstants.{ATOMS_LIMIT}
use Rattle.hol_model.specs.Terms.NamedTerm.{NamedTerm, variable}
use Rattle.hol_model.specs.Terms.Nameless.{image}
use Rattle.hol_model.specs.Logic.Theory.{Theory}
use Rattle.hol_model.specs.Kernel.Theorem.{Theorem, are_alpha_equivalent}
use Rattle.hol_model.specs.Terms.Measures.{nameless_within_limits}
use Rattle.hol_model.specs.Logic.NamedLogic.{implication, dest_conjunction, dest_disjunction, dest_implication, dest_negation, dest_forall, dest_exists}
use Rattle.hol_model.specs.Kernel.Rules.{first_unknown, is_formula, dest_equation}
use Rattle.hol_model.specs.Derived.DerivedRules.{Stated, body_with, is_of_type}
use Rattle.hol_model.specs.Goals.Goals.{Goal}
use Rattle.hol_model.specs.Goals.ValidSteps.{Step}
use Rattle.hol_model.specs.Goals.Replays.{Store}
use Rattle.hol_model.specs.Refining.HostFunctions.{Host, HostConversions}
use Rattle.hol_model.specs.Propositional.Tautologies.{falsity_of, falsifying_row, row_in_full, tautology_outcome}
use Rattle.hol_model.specs.Propositional.Propositions.{atoms_of}
use Rattle.hol_model.specs.Refining.Refiners.{Leaf, all_tac, no_tac, accept_tac, assumption_tac, assume_tac, refl_tac, conj_tac, eq_tac, disj1_tac, disj2_tac, disch_tac, gen_tac, exists_tac}
use Rattle.hol_model.specs.Refining.Refiners.{mp_tac, disj_cases_tac, choose_tac, undisch_tac, conv_tac, rewrite_tac, taut_tac, StatedStep, table, discharged, AnswersTable, AnswersIfSmall}
use Rattle.hol_model.specs.Refining.Refiners.{AnswersTautology, AnswersAllRules, IsRefusedBefore}
use Rattle.hol_model.specs.Refining.Combinators.{Tactic, Links, Stage, with_step, Runs, RunsOn, RunsEach, no_step_is_left, leaf_refines, leaf_is_refused, conversion_is_refused}
use Rattle.hol_model.specs.Refining.Combinators.{conversion_is_not_assumed, conversion_refines, taut_is_refused, taut_refines, host_is_unknown, host_fails, host_refines, first_is_refused}
use Rattle.hol_model.specs.Refining.Combinators.{first_goes_on, first_answers, first_is_not_caught, last_is_refused, first_is_caught, repeat_is_too_deep, runs_as_defined, finds_no_memory, ends}
use Rattle.hol_model.specs.Refining.Combinators.{lengths_differ, next_is_refused, splice_is_too_deep, next_goes_on, goes_on_without_memory, none_is_left, one_is_refused, one_is_done}
use Rattle.hol_model.specs.Refining.Combinators.{each_finds_no_memory}
use Rattle.hol_model.specs.Goals.Achieving.{are_assumed, is_assumed}
use Rattle.hol_laws_refiners.specs.Laws.{StopsAtEnd, ConversionsSpend, RefinersSpend}
use Rattle.hol_laws_refiners.proofs.Spending.{converts-spends}
use Rattle.hol_laws_refiners.proofs.Later.{runs-later}
use Rattle.hol_laws_refiners.proofs.Costs.{converts-costs, runs-costs}
use Rattle.hol_laws_refiners.proofs.Stops.{Never, never-ok, never-err, NeverOption, never-stops, never-other, never-want, never-unless, never-given, never-refused, unknown-never, rules-never}
use Rattle.hol_laws_refiners.proofs.Stops.{stops-over, stops-as, host_step-never, converts-stops}

discharged-never : (goal : Goal) (sides : Option (NamedTerm × NamedTerm)) (negated : Option NamedTerm) → Never (discharged goal sides negated)
discharged-never goal (Some sides) negated = never-ok
discharged-never goal None (Some p) = never-ok
discharged-never goal None None = never-err refl

table-never : (store : Store) (l : Leaf) (goal : Goal) (fresh : List ℕ) → Never (table store l goal fresh)
table-never store all_tac goal fresh = never-ok
table-never store no_tac goal fresh = never-err refl
table-never store (accept_tac name) goal fresh = never-given (store.named name) UnknownName _ refl (λ theorem.
    never-unless (are_alpha_equivalent theorem.conclusion goal.target) RefineFails _ refl (never-unless (are_assumed theorem.hypotheses goal) RefineFails _ refl never-ok))
table-never store assumption_tac goal fresh = never-unless (is_assumed goal.target goal) RefineFails _ refl never-ok
table-never store (assume_tac name) goal fresh = never-given (store.named name) UnknownName _ refl (λ theorem. never-unless (are_assumed theorem.hypotheses goal) RefineFails _ refl never-ok)
table-never store refl_tac goal fresh = never-given (dest_equation goal.target) BadShape _ refl (λ sides. never-unless (are_alpha_equivalent sides.0 sides.1) RefineFails _ refl never-ok)
table-never store conj_tac goal fresh = never-given (dest_conjunction goal.target) BadShape _ refl (λ sides. never-ok)
table-never store eq_tac goal fresh = never-given (dest_equation goal.target) BadShape _ refl (λ sides.
    never-unless (is_formula sides.0) BadShape _ refl (never-unless (nameless_within_limits (image (implication sides.1 sides.0))) TooLarge _ refl never-ok))
table-never store disj1_tac goal fresh = never-given (dest_disjunction goal.target) BadShape _ refl (λ sides. never-ok)
table-never store disj2_tac goal fresh = never-given (dest_disjunction goal.target) BadShape _ refl (λ sides. never-ok)
table-never store disch_tac goal fresh = discharged-never goal (dest_implication goal.target) (dest_negation goal.target)
table-never store gen_tac goal fresh = never-given (dest_forall goal.target) BadShape _ refl (λ q. never-unless (nameless_within_limits (body_with q (variable fresh q.ty))) TooLarge _ refl never-ok)
table-never store (exists_tac witness) goal fresh = never-given (dest_exists goal.target) BadShape _ refl (λ q.
    never-unless (is_of_type q.ty witness) TypeMismatch _ refl (never-unless (nameless_within_limits (body_with q witness)) TooLarge _ refl never-ok))
table-never store (mp_tac name) goal fresh = never-given (store.named name) UnknownName _ refl (λ theorem.
    never-unless (are_assumed theorem.hypotheses goal) RefineFails _ refl (never-unless (nameless_within_limits (image (implication theorem.conclusion goal.target))) TooLarge _ refl never-ok))
table-never store (disj_cases_tac name) goal fresh = never-given (store.named name) UnknownName _ refl (λ theorem.
    never-given (dest_disjunction theorem.conclusion) BadShape _ refl (λ sides. never-unless (are_assumed theorem.hypotheses goal) RefineFails _ refl never-ok))
table-never store (choose_tac name) goal fresh = never-given (store.named name) UnknownName _ refl (λ theorem.
    never-given (dest_exists theorem.conclusion) BadShape _ refl (λ q.
    never-unless (are_assumed theorem.hypotheses goal) RefineFails _ refl (never-unless (nameless_within_limits (body_with q (variable fresh q.ty))) TooLarge _ refl never-ok)))
table-never store (undisch_tac p) goal fresh = never-unless (is_assumed p goal) RefineFails _ refl (never-unless (nameless_within_limits (image (implication p goal.target))) TooLarge _ refl never-ok)
table-never store (conv_tac c) goal fresh = never-err refl
table-never store (rewrite_tac names) goal fresh = never-err refl
table-never store taut_tac goal fresh = never-err refl

answers-never : (theory : Theory) (store : Store) (l : Leaf) (goal : Goal) (answer : Result Step Fault) → AnswersTable theory store l goal answer → Never answer
answers-never theory store l goal (Ok step) answers = never-ok
answers-never theory store l goal (Err fault) answers = never-err (subst (λ (r : Result StatedStep Fault). Never r) answers.1 (table-never store l goal answers.0)).other

falsity-never : (term : NamedTerm) → NeverOption (falsity_of term)
falsity-never term = go (nat_le (length (atoms_of term)) ATOMS_LIMIT) (falsifying_row term)
  where
    go : (test : Bool) (row : Option (List Bool)) → NeverOption (if test then option_map (λ r. NotTautology (length (atoms_of term)) (row_in_full r)) row else Some TooManyAtoms)
    go true None = tt
    go true (Some row) = refl
    go false row = refl

if_small-never : (small : Bool) (outcome : Result Stated Fault) (answer : Result Theorem Fault) → Never outcome → AnswersIfSmall small outcome answer → Never answer
if_small-never small (Ok stated) (Ok theorem) never answers = never-ok
if_small-never small (Err refusal) (Ok theorem) never answers = never-ok
if_small-never small (Ok stated) (Err fault) never want = never-err (never-want fault small want)
if_small-never small (Err refusal) (Err fault) never (inl is) = never-err (never-other fault refusal is never.other)
if_small-never small (Err refusal) (Err fault) never (inr memory) = never-err (never-want fault small (inl memory))

tautology-never : (theory : Theory) (term : NamedTerm) (answer : Result Theorem Fault) → AnswersTautology theory term answer → Never answer
tautology-never theory term answer answers =
    if_small-never _ (tautology_outcome theory term) answer
    (never-unless (is_formula term) NotBool _ refl (never-refused (first_unknown theory term) _ (unknown-never theory term) (never-refused (falsity_of term) _ (falsity-never term) never-ok))) answers

all_rules-never : (theorems : List Theorem) (fault : Fault) → AnswersAllRules theorems (Err fault) → Never {A = Step} (Err fault)
all_rules-never [] fault answers = absurd answers
all_rules-never (theorem ∷ theorems) fault (inl refuses) = never-err (rules-never theorem fault refuses)
all_rules-never (theorem ∷ theorems) fault (inr refuses) = all_rules-never theorems fault refuses

before-never : (store : Store) (l : Leaf) (fault : Fault) → IsRefusedBefore store l fault → Never {A = Step} (Err fault)
before-never store (rewrite_tac names) fault (inl is) = never-err (never-other fault UnknownName is.1 refl)
before-never store (rewrite_tac names) fault (inr refuses) = all_rules-never refuses.0 fault refuses.2
before-never store all_tac fault answers = absurd answers
before-never store no_tac fault answers = absurd answers
before-never store (accept_tac name) fault answers = absurd answers
before-never store assumption_tac fault answers = absurd answers
before-never store (assume_tac name) fault answers = absurd answers
before-never store refl_tac fault answers = absurd answers
before-never store conj_tac fault answers = absurd answers
before-never store eq_tac fault answers = absurd answers
before-never store disj1_tac fault answers = absurd answers
before-never store disj2_tac fault answers = absurd answers
before-never store disch_tac fault answers = absurd answers
before-never store gen_tac fault answers = absurd answers
before-never store (exists_tac witness) fault answers = absurd answers
before-never store (mp_tac name) fault answers = absurd answers
before-never store (disj_cases_tac name) fault answers = absurd answers
before-never store (choose_tac name) fault answers = absurd answers
before-never store (undisch_tac p) fault answers = absurd answers
before-never store (conv_tac c) fault answers = absurd answers
before-never store taut_tac fault answers = absurd answers

stops-with : (step : Step) (others answer : Result (List Step) Fault) (left : ℕ) → answer ≡ with_step step others → StopsAtEnd others left → StopsAtEnd answer left
stops-with step (Ok steps) answer left is stops = stops-as answer (Ok (step ∷ steps)) left is (never-stops (Ok (step ∷ steps)) left never-ok)
stops-with step (Err fault) answer left is stops = stops-as answer (Err fault) left is stops

conversion-stops : (fault : Fault) (left : ℕ) → StopsAtEnd {A = Theorem} (Err fault) left → StopsAtEnd {A = Step} (Err fault) left
conversion-stops fault left stops = stops-over {A = Theorem} {B = Step} fault left (Err fault) refl stops (Err fault) refl

steps-stop : (fault : Fault) (left : ℕ) → StopsAtEnd {A = List Step} (Err fault) left → StopsAtEnd {A = Step} (Err fault) left
steps-stop fault left stops = stops-over {A = List Step} {B = Step} fault left (Err fault) refl stops (Err fault) refl

step-stops : (fault : Fault) (left : ℕ) → StopsAtEnd {A = Step} (Err fault) left → StopsAtEnd {A = List Step} (Err fault) left
step-stops fault left stops = stops-over {A = Step} {B = List Step} fault left (Err fault) refl stops (Err fault) refl

module _ (theory : Theory) (host : Host) where
  mutual
    pub runs-stops : {before after : Stage} {t : Tactic} {goal : Goal} {answer : Result Step Fault} → Runs theory host before t goal answer after → StopsAtEnd answer after.steps
    runs-stops (no_step_is_left {store} spends) = λ e. refl
    runs-stops (leaf_refines {store} {left} {l} {goal} {answer} listed is) = never-stops answer left (answers-never theory store l goal answer is)
    runs-stops (leaf_is_refused {store} {left} {l} {fault} is) = never-stops (Err fault) left (before-never store l fault is)
    runs-stops (conversion_is_refused {store} {left} {fault} by r) = conversion-stops fault left (converts-stops theory store host.conversions r)
    runs-stops (conversion_is_not_assumed {left} by r foreign) = never-stops _ left (never-err refl)
    runs-stops (conversion_refines {left} by r assumed proved dest equates is) = never-stops _ left never-ok
    runs-stops (taut_is_refused {left} {goal} {fault} is) = conversion-stops fault left (never-stops (Err fault) left (tautology-never theory goal.target (Err fault) is))
    runs-stops (taut_refines {left} answers proved is) = never-stops _ left never-ok
    runs-stops (host_is_unknown {left} lacks) = never-stops _ left (never-err refl)
    runs-stops (host_fails {left} is fails) = never-stops _ left (never-err refl)
    runs-stops (host_refines {store} {left} {goal} {answer} answered is says answers) = never-stops answer left (host_step-never theory store goal answered answer answers)
    runs-stops (first_is_refused r) = runs-stops r
    runs-stops (first_goes_on r s) = runs_on-stops s
    runs-stops (first_answers {after} r) = never-stops _ after.steps never-ok
    runs-stops (first_is_not_caught r passes) = runs-stops r
    runs-stops (last_is_refused r) = runs-stops r
    runs-stops (first_is_caught r caught s) = runs-stops s
    runs-stops (repeat_is_too_deep {after} r deep) = never-stops _ after.steps (never-err refl)
    runs-stops (runs_as_defined is r) = runs-stops r
    runs-stops (finds_no_memory {after} later) = never-stops _ after.steps (never-err refl)

    pub runs_on-stops : {before after : Stage} {step : Step} {links : Links} {answer : Result Step Fault} → RunsOn theory host before step links answer after → StopsAtEnd answer after.steps
    runs_on-stops (ends {stage}) = never-stops _ stage.steps never-ok
    runs_on-stops (lengths_differ {stage} differ) = never-stops _ stage.steps (never-err refl)
    runs_on-stops (next_is_refused {after} {fault} is r) = steps-stop fault after.steps (runs_each-stops r)
    runs_on-stops (splice_is_too_deep {after} is r deep) = never-stops _ after.steps (never-err refl)
    runs_on-stops (next_goes_on is r fits s) = runs_on-stops s
    runs_on-stops (goes_on_without_memory {after} later) = never-stops _ after.steps (never-err refl)

    pub runs_each-stops : {before after : Stage} {tasks : List (Tactic × Goal)} {answer : Result (List Step) Fault} → RunsEach theory host before tasks answer after
        → StopsAtEnd answer after.steps
    runs_each-stops (none_is_left {stage}) = never-stops _ stage.steps never-ok
    runs_each-stops (one_is_refused {after} {fault} r) = step-stops fault after.steps (runs-stops r)
    runs_each-stops (one_is_done {after} {step} {others} {answer} r s is) = stops-with step others answer after.steps is (runs_each-stops s)
    runs_each-stops (each_finds_no_memory {after} later) = never-stops _ after.steps (never-err refl)

pub conversions-spend : (hosts : HostConversions) → ConversionsSpend hosts
conversions-spend hosts theory store = record {
  spends = λ depth steps left c t answer r. converts-spends theory store hosts r;
  costs = λ depth steps left c t answer r. converts-costs theory store hosts r;
  stops = λ depth steps left c t answer r. converts-stops theory store hosts r;
}

pub refiners-spend : (host : Host) → RefinersSpend host
refiners-spend host theory = record {
  spends = λ before after t goal answer r. runs-later theory host r;
  costs = λ before after t goal answer r. runs-costs theory host r;
  stops = λ before after t goal answer r. runs-stops theory host r;
}
