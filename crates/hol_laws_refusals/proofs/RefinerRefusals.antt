-- What a refiner expression for a known goal is refused for is one of its refusals.
use Rattle.std.proofs.Common.{◌≡◌, ℕ, List, [], ◌∷◌, ◌++◌, length, Bool, true, false, refl, sym, subst, inl, inr, Option, Some, None, Result, Ok, Err, if◌then◌else◌}
use Rattle.std.specs.Prelude.{nat_le}
use Rattle.std.specs.Option.{option_map}
use Rattle.hol_model.specs.declared.fault.Fault.{Fault}
use Rattle.hol_model.specs.declared.fault.Fault.TheVariants.{TooLarge, TypeMismatch, BadShape, RefineFails, LengthMismatch, UnknownName, InvalidStep, NotBool, NotTautology, TooManyAtoms}
use Rattle.hol_model.specs.declared.limits.TheConstants.{ATOMS_LIMIT}
use Rattle.hol_model.specs.Terms.HolType.{bool_type}
use Rattle.hol_model.specs.Terms.NamedTerm.{NamedTerm, variable}
use Rattle.hol_model.specs.Terms.Nameless.{image}
use Rattle.hol_model.specs.Terms.Measures.{nameless_within_limits}
use Rattle.hol_model.specs.Logic.Theory.{Theory, IsKnown}
use Rattle.hol_model.specs.Logic.NamedLogic.{implication, dest_conjunction, dest_disjunction, dest_implication, dest_negation, dest_forall, dest_exists}
use Rattle.hol_model.specs.Kernel.Outcome.{unless, given, refused}
use Rattle.hol_model.specs.Kernel.Theorem.{Theorem, are_alpha_equivalent}
use Rattle.hol_model.specs.Kernel.Rules.{dest_equation, first_unknown, is_formula}
use Rattle.hol_model.specs.Derived.DerivedRules.{Stated, body_with, is_of_type}
use Rattle.hol_model.specs.Goals.Goals.{Goal}
use Rattle.hol_model.specs.Goals.ValidSteps.{Step}
use Rattle.hol_model.specs.Goals.Splicing.{goals_of_steps}
use Rattle.hol_model.specs.Goals.Justifications.{joined}
use Rattle.hol_model.specs.Goals.Achieving.{are_assumed, is_assumed}
use Rattle.hol_model.specs.Goals.Replays.{Store, IsWant, IsStoreOver, IsKnownGoal, AreKnownGoals}
use Rattle.hol_model.specs.Propositional.Propositions.{atoms_of}
use Rattle.hol_model.specs.Propositional.Tautologies.{falsity_of, falsifying_row, row_in_full, tautology_outcome}
use Rattle.hol_model.specs.Refining.HostFunctions.{Host, AnswersHostStep}
use Rattle.hol_model.specs.Refining.Conversions.{Conversion}
use Rattle.hol_model.specs.Refining.Refiners.{Leaf, all_tac, no_tac, accept_tac, assumption_tac, assume_tac, refl_tac, conj_tac, eq_tac, disj1_tac, disj2_tac, disch_tac, gen_tac, exists_tac}
use Rattle.hol_model.specs.Refining.Refiners.{mp_tac, disj_cases_tac, choose_tac, undisch_tac, conv_tac, rewrite_tac, taut_tac, table, discharged, AnswersTable, AnswersIfSmall, AnswersTautology}
use Rattle.hol_model.specs.Refining.Refiners.{AnswersAllRules, IsRefusedBefore, GoesBy, theorems_named}
use Rattle.hol_model.specs.Refining.RefinerConditions.{HasLogic, HasKnownWitnesses, HaveKnownWitnesses, HasKnownWitnessesInLink, HaveKnownWitnessesInLinks}
use Rattle.hol_model.specs.Refining.Combinators as tac
use Rattle.hol_model.specs.Refining.Combinators.{Tactic, Tactics, Link, Links, on_all, paired, paired_before, assigned, defined_as, with_step, Stage, Runs, RunsOn, RunsEach}
use Rattle.hol_laws_refiners.proofs.Later.{runs-later, runs_each-later}
use Rattle.hol_laws_refiners.proofs.GoodSteps.{store-later}
use Rattle.hol_laws_refiners.proofs.Lemmas.{refiners-answer-valid}
use Rattle.hol_laws_refusals.specs.Faults.{IsConversionFault, IsRefinerFault}
use Rattle.hol_laws_refusals.specs.KnownRules.{AreKnownRules, HasKnownRules, LeafHasKnownRules, TacticHasKnownRules, TacticsHaveKnownRules, LinkHasKnownRules, LinksHaveKnownRules}
use Rattle.hol_laws_refusals.specs.Laws.{RefinersRefuse}
use Rattle.hol_laws_refusals.proofs.Known.{no-unknown, is-formula, theorem-known}
use Rattle.hol_laws_refusals.proofs.RulesOf.{rules-known}
use Rattle.hol_laws_refusals.proofs.ConversionRefusals.{want-listed, rules-listed, conversions-refuse}

-- ---- faults

of-conversion : (fault : Fault) → IsConversionFault fault → IsRefinerFault fault
of-conversion BadShape listed = absurd listed
of-conversion TypeMismatch listed = absurd listed
of-conversion RefineFails listed = absurd listed
of-conversion (NotTautology atoms row) listed = absurd listed
of-conversion TooManyAtoms listed = absurd listed
of-conversion LengthMismatch listed = absurd listed
of-conversion _ listed = listed

fault-is : (fault same : Fault) → fault ≡ same → IsRefinerFault same → IsRefinerFault fault
fault-is fault same is listed = subst IsRefinerFault (sym is) listed

want : (fault : Fault) (room : Bool) → IsWant fault room → IsRefinerFault fault
want fault room is = of-conversion fault (want-listed fault room is)

-- where it is a refusal, it is one of the refusals
record Lists {A : Type 0} (answer : Result A Fault) : Type 0 where
  listed : (fault : Fault) → answer ≡ Err fault → IsRefinerFault fault

lists-ok : {A : Type 0} (x : A) → Lists (Ok x)
lists-ok {A = A} x = record { listed = λ fault is. cc }

lists-err : {A : Type 0} (fault : Fault) → IsRefinerFault fault → Lists {A = A} (Err fault)
lists-err {A = A} fault listed = record { listed = λ other is. let same : fault ≡ other = cc in subst IsRefinerFault same listed }

lists-over : {A B : Type 0} (fault : Fault) → Lists {A = A} (Err fault) → Lists {A = B} (Err fault)
lists-over {A = A} {B = B} fault lists = lists-err fault (lists.listed fault refl)

lists-unless : {A : Type 0} (test : Bool) (fault : Fault) (next : Result A Fault) → IsRefinerFault fault → Lists next → Lists (unless test fault next)
lists-unless {A = A} true fault next listed lists = lists
lists-unless {A = A} false fault next listed lists = lists-err fault listed

lists-passed : {A : Type 0} (test : Bool) (fault : Fault) (next : Result A Fault) → test ≡ true → Lists next → Lists (unless test fault next)
lists-passed {A = A} true fault next passed lists = lists
lists-passed {A = A} false fault next passed lists = cc

lists-given : {A B : Type 0} (found : Option A) (fault : Fault) (next : A → Result B Fault) → IsRefinerFault fault → ((x : A) → Lists (next x)) → Lists (given found fault next)
lists-given {A = A} {B = B} None fault next listed lists = lists-err fault listed
lists-given {A = A} {B = B} (Some x) fault next listed lists = lists x

lists-refused : {A : Type 0} (found : Option Fault) (next : Result A Fault) → ((fault : Fault) → found ≡ Some fault → IsRefinerFault fault) → Lists next → Lists (refused found next)
lists-refused {A = A} None next listed lists = lists
lists-refused {A = A} (Some fault) next listed lists = lists-err fault (listed fault refl)

-- ---- the table

discharged-lists : (goal : Goal) (sides : Option (NamedTerm × NamedTerm)) (negated : Option NamedTerm) → Lists (discharged goal sides negated)
discharged-lists goal (Some sides) negated = lists-ok _
discharged-lists goal None (Some p) = lists-ok _
discharged-lists goal None None = lists-err BadShape tt

table-lists : (store : Store) (l : Leaf) (goal : Goal) (fresh : List ℕ) → Lists (table store l goal fresh)
table-lists store all_tac goal fresh = lists-ok _
table-lists store no_tac goal fresh = lists-err RefineFails tt
table-lists store (accept_tac name) goal fresh = lists-given (store.named name) UnknownName _ tt (λ theorem.
    lists-unless (are_alpha_equivalent theorem.conclusion goal.target) RefineFails _ tt (lists-unless (are_assumed theorem.hypotheses goal) RefineFails _ tt (lists-ok _)))
table-lists store assumption_tac goal fresh = lists-unless (is_assumed goal.target goal) RefineFails _ tt (lists-ok _)
table-lists store (assume_tac name) goal fresh = lists-given (store.named name) UnknownName _ tt (λ theorem. lists-unless (are_assumed theorem.hypotheses goal) RefineFails _ tt (lists-ok _))
table-lists store refl_tac goal fresh = lists-given (dest_equation goal.target) BadShape _ tt (λ sides. lists-unless (are_alpha_equivalent sides.0 sides.1) RefineFails _ tt (lists-ok _))
table-lists store conj_tac goal fresh = lists-given (dest_conjunction goal.target) BadShape _ tt (λ sides. lists-ok _)
table-lists store eq_tac goal fresh = lists-given (dest_equation goal.target) BadShape _ tt (λ sides.
    lists-unless (is_formula sides.0) BadShape _ tt (lists-unless (nameless_within_limits (image (implication sides.1 sides.0))) TooLarge _ tt (lists-ok _)))
table-lists store disj1_tac goal fresh = lists-given (dest_disjunction goal.target) BadShape _ tt (λ sides. lists-ok _)
table-lists store disj2_tac goal fresh = lists-given (dest_disjunction goal.target) BadShape _ tt (λ sides. lists-ok _)
table-lists store disch_tac goal fresh = discharged-lists goal (dest_implication goal.target) (dest_negation goal.target)
table-lists store gen_tac goal fresh = lists-given (dest_forall goal.target) BadShape _ tt (λ q. lists-unless (nameless_within_limits (body_with q (variable fresh q.ty))) TooLarge _ tt (lists-ok _))
table-lists store (exists_tac witness) goal fresh = lists-given (dest_exists goal.target) BadShape _ tt (λ q.
    lists-unless (is_of_type q.ty witness) TypeMismatch _ tt (lists-unless (nameless_within_limits (body_with q witness)) TooLarge _ tt (lists-ok _)))
table-lists store (mp_tac name) goal fresh = lists-given (store.named name) UnknownName _ tt (λ theorem.
    lists-unless (are_assumed theorem.hypotheses goal) RefineFails _ tt (lists-unless (nameless_within_limits (image (implication theorem.conclusion goal.target))) TooLarge _ tt (lists-ok _)))
table-lists store (disj_cases_tac name) goal fresh = lists-given (store.named name) UnknownName _ tt (λ theorem.
    lists-given (dest_disjunction theorem.conclusion) BadShape _ tt (λ sides. lists-unless (are_assumed theorem.hypotheses goal) RefineFails _ tt (lists-ok _)))
table-lists store (choose_tac name) goal fresh = lists-given (store.named name) UnknownName _ tt (λ theorem.
    lists-given (dest_exists theorem.conclusion) BadShape _ tt (λ q.
    lists-unless (are_assumed theorem.hypotheses goal) RefineFails _ tt (lists-unless (nameless_within_limits (body_with q (variable fresh q.ty))) TooLarge _ tt (lists-ok _))))
table-lists store (undisch_tac p) goal fresh = lists-unless (is_assumed p goal) RefineFails _ tt (lists-unless (nameless_within_limits (image (implication p goal.target))) TooLarge _ tt (lists-ok _))
table-lists store (conv_tac c) goal fresh = lists-err RefineFails tt
table-lists store (rewrite_tac names) goal fresh = lists-err RefineFails tt
table-lists store taut_tac goal fresh = lists-err RefineFails tt

answers-lists : (theory : Theory) (store : Store) (l : Leaf) (goal : Goal) (answer : Result Step Fault) → AnswersTable theory store l goal answer → Lists answer
answers-lists theory store l goal (Ok step) answers = lists-ok step
answers-lists theory store l goal (Err fault) answers = lists-err fault ((table-lists store l goal answers.0).listed fault answers.1)

-- ---- TAUT_TAC

falsity-listed : (term : NamedTerm) (fault : Fault) → falsity_of term ≡ Some fault → IsRefinerFault fault
falsity-listed term fault is = go (nat_le (length (atoms_of term)) ATOMS_LIMIT) (falsifying_row term) is
  where
    go : (test : Bool) (row : Option (List Bool))
        → (if test then option_map (λ r. NotTautology (length (atoms_of term)) (row_in_full r)) row else Some TooManyAtoms) ≡ Some fault → IsRefinerFault fault
    go true None is = cc
    go true (Some row) is = let same : NotTautology (length (atoms_of term)) (row_in_full row) ≡ fault = cc in subst IsRefinerFault same tt
    go false row is = let same : TooManyAtoms ≡ fault = cc in subst IsRefinerFault same tt

if_small-listed : (small : Bool) (outcome : Result Stated Fault) (fault : Fault) → Lists outcome → AnswersIfSmall small outcome (Err fault) → IsRefinerFault fault
if_small-listed small (Ok stated) fault lists wanted = want fault small wanted
if_small-listed small (Err refusal) fault lists (inl is) = fault-is fault refusal is (lists.listed refusal refl)
if_small-listed small (Err refusal) fault lists (inr memory) = want fault small (inl memory)

tautology-listed : (theory : Theory) (term : NamedTerm) (fault : Fault) → IsKnown theory (image term) bool_type → AnswersTautology theory term (Err fault) → IsRefinerFault fault
tautology-listed theory term fault known answers =
    if_small-listed _ (tautology_outcome theory term) fault
    (lists-passed (is_formula term) NotBool _ (is-formula theory term known)
    (lists-refused (first_unknown theory term) _ (λ other is. let none = no-unknown theory term bool_type known in cc)
    (lists-refused (falsity_of term) _ (falsity-listed term) (lists-ok _)))) answers

-- ---- a host's refiners

host_step-lists : (theory : Theory) (store : Store) (goal : Goal) (answered : Step) (answer : Result Step Fault) → AnswersHostStep theory store goal answered answer → Lists answer
host_step-lists theory store goal answered (Ok step) answers = lists-ok step
host_step-lists theory store goal answered (Err fault) (inl is) = lists-err fault (fault-is fault InvalidStep is.0 tt)
host_step-lists theory store goal answered (Err fault) (inr wanted) = lists-err fault (want fault _ wanted)

-- ---- refiners by a conversion

all_rules-listed : (theorems : List Theorem) (fault : Fault) → AnswersAllRules theorems (Err fault) → IsRefinerFault fault
all_rules-listed [] fault answers = absurd answers
all_rules-listed (theorem ∷ theorems) fault (inl refuses) = of-conversion fault (rules-listed theorem fault refuses)
all_rules-listed (theorem ∷ theorems) fault (inr refuses) = all_rules-listed theorems fault refuses

before-listed : (store : Store) (l : Leaf) (fault : Fault) → IsRefusedBefore store l fault → IsRefinerFault fault
before-listed store (rewrite_tac names) fault (inl is) = fault-is fault UnknownName is.1 tt
before-listed store (rewrite_tac names) fault (inr refuses) = all_rules-listed refuses.0 fault refuses.2
before-listed store _ fault answers = absurd answers

module _ (theory : Theory) (has : HasLogic theory) where
  rules-append : (xs ys : List Theorem) → AreKnownRules theory xs → AreKnownRules theory ys → AreKnownRules theory (xs ++ ys)
  rules-append [] ys h k = k
  rules-append (x ∷ xs) ys h k = (h.0, rules-append xs ys h.1 k)

  all_rules-known : (theorems rules : List Theorem) → AreKnownRules theory theorems → AnswersAllRules theorems (Ok rules) → AreKnownRules theory rules
  all_rules-known [] rules known is = subst (AreKnownRules theory) (sym is) tt
  all_rules-known (theorem ∷ theorems) rules known answers =
      subst (AreKnownRules theory) (sym answers.4)
      (rules-append answers.0 answers.1 (rules-known theory has theorem answers.0 known.0 answers.2) (all_rules-known theorems answers.1 known.1 answers.3))

  module _ (store : Store) (over : IsStoreOver theory store) where
    record AreStored (found : Option (List Theorem)) : Type 0 where
      known : (theorems : List Theorem) → found ≡ Some theorems → AreKnownRules theory theorems

    stored : (names : List (List ℕ)) → AreStored (theorems_named store names)
    stored [] = record { known = λ theorems is. let same : [] ≡ theorems = cc in subst (AreKnownRules theory) same tt }
    stored (name ∷ names) = go (store.named name) refl (theorems_named store names) (stored names)
      where
        go : (found : Option Theorem) → store.named name ≡ found → (others : Option (List Theorem)) → AreStored others → AreStored (joined found others)
        go None is others rest = record { known = λ theorems is. cc }
        go (Some theorem) is None rest = record { known = λ theorems is. cc }
        go (Some theorem) is (Some others) rest = record {
          known = λ theorems js. let same : theorem ∷ others ≡ theorems = cc in
              subst (AreKnownRules theory) same (theorem-known theory has.legal theorem (over.named name theorem is), rest.known others refl);
        }

    goes-by-known : (l : Leaf) (c : Conversion) → GoesBy store l c → LeafHasKnownRules theory l → HasKnownRules theory c
    goes-by-known (conv_tac own) c by h = subst (HasKnownRules theory) (sym by) h
    goes-by-known (rewrite_tac names) c by h = subst (HasKnownRules theory) (sym by.4) (all_rules-known by.0 by.1 ((stored names).known by.0 by.2) by.3)
    goes-by-known _ c by h = absurd by

  -- ---- which refiner runs on which goal

  abbrev AreReady : List (Tactic × Goal) → Type 0
  AreReady [] = Unit {0}
  AreReady (task ∷ tasks) = HasKnownWitnesses theory task.0 × TacticHasKnownRules theory task.0 × IsKnownGoal theory task.1 × AreReady tasks

  record AssignsReady (found : Option (List (Tactic × Goal))) : Type 0 where
    ready : (tasks : List (Tactic × Goal)) → found ≡ Some tasks → AreReady tasks

  assigns-none : AssignsReady None
  assigns-none = record { ready = λ tasks is. cc }

  assigns : (tasks : List (Tactic × Goal)) → AreReady tasks → AssignsReady (Some tasks)
  assigns tasks ready = record { ready = λ others is. let same : tasks ≡ others = cc in subst AreReady same ready }

  on_all-ready : (t : Tactic) (goals : List Goal) → HasKnownWitnesses theory t → TacticHasKnownRules theory t → AreKnownGoals theory goals → AreReady (on_all t goals)
  on_all-ready t [] w h k = tt
  on_all-ready t (goal ∷ goals) w h k = (w, h, k.0, on_all-ready t goals w h k.1)

  before-ready : (t : Tactic) (goal : Goal) (tasks : Option (List (Tactic × Goal))) → HasKnownWitnesses theory t → TacticHasKnownRules theory t → IsKnownGoal theory goal → AssignsReady tasks
      → AssignsReady (paired_before t goal tasks)
  before-ready t goal None w h k rest = assigns-none
  before-ready t goal (Some tasks) w h k rest = assigns ((t, goal) ∷ tasks) (w, h, k, rest.ready tasks refl)

  paired-ready : (ts : Tactics) (goals : List Goal) → HaveKnownWitnesses theory ts → TacticsHaveKnownRules theory ts → AreKnownGoals theory goals → AssignsReady (paired ts goals)
  paired-ready tac.no_more [] w h k = assigns [] tt
  paired-ready tac.no_more (goal ∷ goals) w h k = assigns-none
  paired-ready (tac.more t ts) [] w h k = assigns-none
  paired-ready (tac.more t ts) (goal ∷ goals) w h k = before-ready t goal (paired ts goals) w.0 h.0 k.0 (paired-ready ts goals w.1 h.1 k.1)

  assigned-ready : (l : Link) (goals : List Goal) → HasKnownWitnessesInLink theory l → LinkHasKnownRules theory l → AreKnownGoals theory goals → AssignsReady (assigned l goals)
  assigned-ready (tac.then_all t) goals w h k = assigns (on_all t goals) (on_all-ready t goals w h k)
  assigned-ready (tac.then_each ts) [] w h k = assigns [] tt
  assigned-ready (tac.then_each ts) (goal ∷ goals) w h k = paired-ready ts (goal ∷ goals) w h k

  -- ---- the refiners that stand for others

  abbrev ReadyIn : Option Tactic → Type 0
  ReadyIn None = Unit {0}
  ReadyIn (Some t) = HasKnownWitnesses theory t × TacticHasKnownRules theory t

  defined-ready : (t : Tactic) → HasKnownWitnesses theory t → TacticHasKnownRules theory t → ReadyIn (defined_as t)
  defined-ready (tac.repeat t) w h = (((w, (w, tt)), (tt, tt)), ((h, (h, tt)), (tt, tt)))
  defined-ready (tac.try t) w h = ((w, (tt, tt)), (h, (tt, tt)))
  defined-ready _ w h = tt

  definition-ready : (t u : Tactic) → defined_as t ≡ Some u → HasKnownWitnesses theory t → TacticHasKnownRules theory t → HasKnownWitnesses theory u × TacticHasKnownRules theory u
  definition-ready t u is w h = subst ReadyIn is (defined-ready t w h)

  -- ---- runs

  goals-append : (xs ys : List Goal) → AreKnownGoals theory xs → AreKnownGoals theory ys → AreKnownGoals theory (xs ++ ys)
  goals-append [] ys h k = k
  goals-append (x ∷ xs) ys h k = (h.0, goals-append xs ys h.1 k)

  with-step : (step : Step) (others answer : Result (List Step) Fault) → answer ≡ with_step step others → Lists others → Lists answer
  with-step step (Ok steps) answer is lists = subst (λ (a : Result (List Step) Fault). Lists a) (sym is) (lists-ok (step ∷ steps))
  with-step step (Err fault) answer is lists = subst (λ (a : Result (List Step) Fault). Lists a) (sym is) lists

  module _ (host : Host) where
    -- the subgoals of the steps are known
    record AreKnownSteps (answer : Result (List Step) Fault) : Type 0 where
      known : (steps : List Step) → answer ≡ Ok steps → AreKnownGoals theory (goals_of_steps steps)

    steps-ok : (steps : List Step) → AreKnownGoals theory (goals_of_steps steps) → AreKnownSteps (Ok steps)
    steps-ok steps known = record { known = λ others is. let same : steps ≡ others = cc in subst (λ (all : List Step). AreKnownGoals theory (goals_of_steps all)) same known }

    steps-err : (fault : Fault) → AreKnownSteps (Err fault)
    steps-err fault = record { known = λ steps is. cc }

    steps-more : (step : Step) (others answer : Result (List Step) Fault) → answer ≡ with_step step others → AreKnownGoals theory step.goals → AreKnownSteps others → AreKnownSteps answer
    steps-more step (Ok steps) answer is known rest =
        subst AreKnownSteps (sym is) (steps-ok (step ∷ steps) (goals-append step.goals (goals_of_steps steps) known (rest.known steps refl)))
    steps-more step (Err fault) answer is known rest = subst AreKnownSteps (sym is) (steps-err fault)

    each-known : {before after : Stage} {tasks : List (Tactic × Goal)} {answer : Result (List Step) Fault} → RunsEach theory host before tasks answer after
        → IsStoreOver theory before.store → AreReady tasks → AreKnownSteps answer
    each-known tac.none_is_left over ready = steps-ok [] tt
    each-known (tac.one_is_refused r) over ready = steps-err _
    each-known (tac.one_is_done {before} {mid} {t} {goal} {step} {others} {answer} r s is) over ready =
        steps-more step others answer is (refiners-answer-valid host theory before mid t goal step has over ready.0 ready.2 r).known
        (each-known s (store-later theory before mid (runs-later theory host r) over) ready.3)
    each-known (tac.each_finds_no_memory later) over ready = steps-err _

    mutual
      runs-lists : {before after : Stage} {t : Tactic} {goal : Goal} {answer : Result Step Fault} → Runs theory host before t goal answer after
          → IsStoreOver theory before.store → HasKnownWitnesses theory t → TacticHasKnownRules theory t → IsKnownGoal theory goal → Lists answer
      runs-lists (tac.no_step_is_left spends) over w h k = lists-err _ tt
      runs-lists (tac.leaf_refines {store} {l} {goal} {answer} there is) over w h k = answers-lists theory store l goal answer is
      runs-lists (tac.leaf_is_refused {store} {l} {fault} is) over w h k = lists-err fault (before-listed store l fault is)
      runs-lists (tac.conversion_is_refused {store} {steps} {left} {l} {goal} {c} {fault} by r) over w h k =
          lists-err fault (of-conversion fault (conversions-refuse host.conversions theory store 0 steps left c goal.target bool_type fault has over (goes-by-known store over l c by h) k.target r))
      runs-lists (tac.conversion_is_not_assumed by r foreign) over w h k = lists-err _ tt
      runs-lists (tac.conversion_refines by r assumed proved dest equates is) over w h k = lists-ok _
      runs-lists (tac.taut_is_refused {goal} {fault} is) over w h k = lists-err fault (tautology-listed theory goal.target fault k.target is)
      runs-lists (tac.taut_refines answers proved is) over w h k = lists-ok _
      runs-lists (tac.host_is_unknown lacks) over w h k = lists-err _ tt
      runs-lists (tac.host_fails is fails) over w h k = lists-err _ tt
      runs-lists (tac.host_refines {store} {goal} {answer} answered is says answers) over w h k = host_step-lists theory store goal answered answer answers
      runs-lists (tac.first_is_refused r) over w h k = runs-lists r over w.0 h.0 k
      runs-lists (tac.first_goes_on {before} {mid} {t} {goal} {step} r s) over w h k =
          runs_on-lists s (store-later theory before mid (runs-later theory host r) over) w.1 h.1 (refiners-answer-valid host theory before mid t goal step has over w.0 k r).known
      runs-lists (tac.first_answers r) over w h k = lists-ok _
      runs-lists (tac.first_is_not_caught r passes) over w h k = runs-lists r over w.0 h.0 k
      runs-lists (tac.last_is_refused r) over w h k = runs-lists r over w.0 h.0 k
      runs-lists (tac.first_is_caught {before} {mid} r caught s) over w h k = runs-lists s (store-later theory before mid (runs-later theory host r) over) w.1 h.1 k
      runs-lists (tac.repeat_is_too_deep r deep) over w h k = lists-err _ tt
      runs-lists (tac.runs_as_defined {t} {u} is r) over w h k = let ready = definition-ready t u is w h in runs-lists r over ready.0 ready.1 k
      runs-lists (tac.finds_no_memory later) over w h k = lists-err _ tt

      runs_on-lists : {before after : Stage} {step : Step} {links : Links} {answer : Result Step Fault} → RunsOn theory host before step links answer after
          → IsStoreOver theory before.store → HaveKnownWitnessesInLinks theory links → LinksHaveKnownRules theory links → AreKnownGoals theory step.goals → Lists answer
      runs_on-lists tac.ends over w h k = lists-ok _
      runs_on-lists (tac.lengths_differ differ) over w h k = lists-err _ tt
      runs_on-lists (tac.next_is_refused {step} {l} {tasks} {fault} is r) over w h k =
          lists-over fault (runs_each-lists r over ((assigned-ready l step.goals w.0 h.0 k).ready tasks is))
      runs_on-lists (tac.splice_is_too_deep is r deep) over w h k = lists-err _ tt
      runs_on-lists (tac.next_goes_on {before} {mid} {step} {l} {tasks} {steps} is r fits s) over w h k =
          let ready = (assigned-ready l step.goals w.0 h.0 k).ready tasks is in
          runs_on-lists s (store-later theory before mid (runs_each-later theory host r) over) w.1 h.1 ((each-known r over ready).known steps refl)
      runs_on-lists (tac.goes_on_without_memory later) over w h k = lists-err _ tt

      runs_each-lists : {before after : Stage} {tasks : List (Tactic × Goal)} {answer : Result (List Step) Fault} → RunsEach theory host before tasks answer after
          → IsStoreOver theory before.store → AreReady tasks → Lists answer
      runs_each-lists tac.none_is_left over ready = lists-ok _
      runs_each-lists (tac.one_is_refused {fault} r) over ready = lists-over fault (runs-lists r over ready.0 ready.1 ready.2)
      runs_each-lists (tac.one_is_done {before} {mid} {step} {others} {answer} r s is) over ready =
          with-step step others answer is (runs_each-lists s (store-later theory before mid (runs-later theory host r) over) ready.3)
      runs_each-lists (tac.each_finds_no_memory later) over ready = lists-err _ tt

pub refiners-refuse : (host : Host) → RefinersRefuse host
refiners-refuse host theory before final t goal fault has over w rules known r = (runs-lists theory has host r over w rules known).listed fault refl
