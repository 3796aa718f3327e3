-- The refiners that make lemmas answer valid steps, and so does every refiner.
use Rattle.std.proofs.Common.{◌≡◌, ℕ, List, [], ◌∷◌, ◌++◌, length, map, Bool, true, false, refl, ap, subst, Option, Some, None, Result, Ok, if◌then◌else◌}
use Rattle.std.specs.Prelude.{slice_get}
use Rattle.hol_model.specs.declared.fault.Fault.{Fault}
use Rattle.hol_model.specs.declared.fault.Fault.TheVariants.{NotBool}
use Rattle.hol_model.specs.Terms.HolType.{bool_type}
use Rattle.hol_model.specs.Terms.NamedTerm.{NamedTerm}
use Rattle.hol_model.specs.Terms.Nameless.{Nameless, image}
use Rattle.hol_model.specs.Logic.Theory.{Theory, IsKnown}
use Rattle.hol_model.specs.Logic.Derivable.{nameless_equation}
use Rattle.hol_model.specs.Logic.Logic.{true_name, true_term}
use Rattle.hol_model.specs.Logic.NamedLogic.{is_true}
use Rattle.hol_model.specs.Kernel.Outcome.{unless, refused}
use Rattle.hol_model.specs.Kernel.Theorem.{Theorem}
use Rattle.hol_model.specs.Kernel.Rules.{is_formula, first_unknown}
use Rattle.hol_model.specs.Derived.DerivedRules.{Stated, States, stated, named}
use Rattle.hol_model.specs.Goals.Goals.{Sequent, Goal}
use Rattle.hol_model.specs.declared.rule.Rule.TheVariants as rules
use Rattle.hol_model.proofs.Logic.Later.{Derivable-earlier}
use Rattle.hol_model.proofs.Logic.Known.{Derivable-known, equation-sides}
use Rattle.hol_model.specs.Goals.Justifications as tree
use Rattle.hol_model.specs.Goals.Justifications.{sequent_of}
use Rattle.hol_model.specs.Goals.ValidSteps.{Step}
use Rattle.hol_model.specs.Goals.Replays.{Store, sequents_in, sequent_of_theorem, with_lemma, IsStoreOver, IsProvedOver, IsKnownGoal}
use Rattle.hol_model.specs.Refining.HostFunctions.{Host}
use Rattle.hol_model.specs.Propositional.Tautologies.{falsity_of}
use Rattle.hol_model.specs.Refining.Refiners.{Leaf, all_tac, no_tac, accept_tac, assumption_tac, assume_tac, refl_tac, conj_tac, eq_tac, disj1_tac, disj2_tac, disch_tac, gen_tac, exists_tac}
use Rattle.hol_model.specs.Refining.Refiners.{mp_tac, disj_cases_tac, choose_tac, undisch_tac, conv_tac, rewrite_tac, taut_tac, StatedStep, toward, from_first, one_part, two_parts, IsFresh}
use Rattle.hol_model.specs.Refining.Refiners.{table, IsStep, EquatesTarget, converted, proved_by_lemma, AnswersIfSmall, AnswersTautology}
use Rattle.hol_model.specs.Goals.Achieving.{are_assumed}
use Rattle.hol_model.specs.Goals.GoodSteps.{IsGoodStep}
use Rattle.hol_model.specs.Refining.RefinerConditions.{HasKnownWitness, HasLogic}
use Rattle.hol_laws_refiners.specs.Laws.{RefinersAnswerValid}
use Rattle.hol_laws_refiners.proofs.FormulaParts.{logical-type, constant-is}
use Rattle.hol_laws_refiners.proofs.Proving.{Proves, of_one, of_two, by_eq_mp, by_sym, by_eqt_elim}
use Rattle.hol_laws_refiners.proofs.StatedSteps.{meets-none, with_none, with_one, known-from, known-none, assumptions-known, IsGoodStated, IsGoodOutcome, good-step, assumed-included}
use Rattle.hol_laws_refiners.proofs.Leaves.{all-good, accept-good, assumption-good, assume-good, refl-good, conj-good, eq-good, disj1-good, disj2-good, disch-good, gen-good, exists-good, mp-good}
use Rattle.hol_laws_refiners.proofs.Leaves.{disj_cases-good, choose-good, undisch-good}
use Rattle.hol_laws_refiners.proofs.Running.{LeavesAreGood, runs-good}

-- ---- the table

outcome-step : (theory : Theory) (store : Store) (goal : Goal) (outcome : Result StatedStep Fault) (one : StatedStep) (step : Step)
    → IsGoodOutcome theory store goal outcome → outcome ≡ Ok one → IsStep one step → IsGoodStep theory store goal step
outcome-step theory store goal outcome one step good is is_step = good-step theory store goal one step (subst (IsGoodOutcome theory store goal) is good) is_step

table-good : (theory : Theory) (store : Store) (goal : Goal) → HasLogic theory → IsStoreOver theory store → IsKnownGoal theory goal → (l : Leaf)
    → HasKnownWitness theory l → (fresh : List ℕ) → IsFresh theory store l goal fresh
    → IsGoodOutcome theory store goal (table store l goal fresh)
table-good theory store goal has over known all_tac w fresh new = all-good theory store goal has over known
table-good theory store goal has over known no_tac w fresh new = tt
table-good theory store goal has over known (accept_tac name) w fresh new = accept-good theory store goal has over known name
table-good theory store goal has over known assumption_tac w fresh new = assumption-good theory store goal has over known
table-good theory store goal has over known (assume_tac name) w fresh new = assume-good theory store goal has over known name
table-good theory store goal has over known refl_tac w fresh new = refl-good theory store goal has over known
table-good theory store goal has over known conj_tac w fresh new = conj-good theory store goal has over known
table-good theory store goal has over known eq_tac w fresh new = eq-good theory store goal has over known
table-good theory store goal has over known disj1_tac w fresh new = disj1-good theory store goal has over known
table-good theory store goal has over known disj2_tac w fresh new = disj2-good theory store goal has over known
table-good theory store goal has over known disch_tac w fresh new = disch-good theory store goal has over known
table-good theory store goal has over known gen_tac w fresh new = gen-good theory store goal has over known fresh new
table-good theory store goal has over known (exists_tac witness) w fresh new = exists-good theory store goal has over known witness w.0 w.1
table-good theory store goal has over known (mp_tac name) w fresh new = mp-good theory store goal has over known name
table-good theory store goal has over known (disj_cases_tac name) w fresh new = disj_cases-good theory store goal has over known name
table-good theory store goal has over known (choose_tac name) w fresh new = choose-good theory store goal has over known name fresh new
table-good theory store goal has over known (undisch_tac p) w fresh new = undisch-good theory store goal has over known p
table-good theory store goal has over known (conv_tac c) w fresh new = tt
table-good theory store goal has over known (rewrite_tac names) w fresh new = tt
table-good theory store goal has over known taut_tac w fresh new = tt

-- ---- lemmas

get-last : (xs : List Theorem) (theorem : Theorem) → slice_get (map sequent_of_theorem (xs ++ theorem ∷ [])) (length xs) ≡ Some (sequent_of_theorem theorem)
get-last [] theorem = refl
get-last (x ∷ xs) theorem = get-last xs theorem

module _ (theory : Theory) (store : Store) (goal : Goal) (theorem : Theorem) where
  abbrev after : Store
  after = with_lemma store theorem

  abbrev h : List Nameless
  h = map image goal.assumptions

  -- the lemma that was made last
  abbrev last : tree.Justification
  last = tree.lemma (length store.lemmas)

  last-proves : (sequents : List Sequent) → are_assumed theorem.hypotheses goal ≡ true → Proves h (image theorem.conclusion) (sequent_of theory (sequents_in after) sequents last)
  last-proves sequents assumed = record {
    sequent = sequent_of_theorem theorem;
    is_given = get-last store.lemmas theorem;
    same_conclusion = refl;
    included = assumed-included theorem.hypotheses goal assumed;
  }

  converted-good : HasLogic theory → IsKnownGoal theory goal → (right : NamedTerm) → are_assumed theorem.hypotheses goal ≡ true → IsProvedOver theory theorem
      → EquatesTarget goal right theorem
      → IsGoodStated theory after goal (converted (length store.lemmas) goal right)
  converted-good has known right assumed proved equates = go (is_true right) refl
    where
      equation_known : IsKnown theory (nameless_equation bool_type (image goal.target) (image right)) bool_type
      equation_known =
          subst (λ (t : Nameless). IsKnown theory t bool_type) equates
          (Derivable-known theory has.legal (Derivable-earlier theorem.theory theory proved.earlier has.legal (map image theorem.hypotheses) (image theorem.conclusion)
          proved.proved.derivable)).conclusion

      lemma_is : (sequents : List Sequent) → Proves h (nameless_equation bool_type (image goal.target) (image right)) (sequent_of theory (sequents_in after) sequents last)
      lemma_is sequents = subst (λ (c : Nameless). Proves h c (sequent_of theory (sequents_in after) sequents last)) equates (last-proves sequents assumed)

      right_known : IsKnown theory (image right) bool_type
      right_known = (equation-sides theory bool_type (image goal.target) (image right) equation_known).right

      go : (test : Bool) → is_true right ≡ test → IsGoodStated theory after goal (if test then record { goals = []; justification = tree.by_rule rules.EqtElim (one_part last) }
          else record { goals = toward goal (named right) ∷ []; justification = tree.by_rule rules.EqMp (two_parts (tree.by_rule rules.Sym (one_part last)) from_first) })
      go true is =
          let right_is : image right ≡ true_term = constant-is theory true_name right bool_type (logical-type theory has true_name bool_type refl) is right_known in
          record {
            proves = with_none (λ sequents. Proves h (image goal.target) (sequent_of theory (sequents_in after) sequents (tree.by_rule rules.EqtElim (one_part last))))
                (of_one theory rules.EqtElim h (image goal.target) h (nameless_equation bool_type (image goal.target) true_term) (sequent_of theory (sequents_in after) [] last)
                (subst (λ (t : Nameless). Proves h (nameless_equation bool_type (image goal.target) t) (sequent_of theory (sequents_in after) [] last)) right_is (lemma_is []))
                (λ a a_is a_in. by_eqt_elim theory h (image goal.target) a a_is a_in));
            known = tt;
          }
      go false is = record {
        proves = with_one (toward goal (named right)) (λ sequents. Proves h (image goal.target)
            (sequent_of theory (sequents_in after) sequents (tree.by_rule rules.EqMp (two_parts (tree.by_rule rules.Sym (one_part last)) from_first))))
            (λ s m. of_two theory rules.EqMp h (image goal.target) h h (nameless_equation bool_type (image right) (image goal.target)) (image right)
            (sequent_of theory (sequents_in after) (s ∷ []) (tree.by_rule rules.Sym (one_part last))) (Some s)
            (of_one theory rules.Sym h (nameless_equation bool_type (image right) (image goal.target)) h (nameless_equation bool_type (image goal.target) (image right))
            (sequent_of theory (sequents_in after) (s ∷ []) last)
            (lemma_is (s ∷ [])) (λ a a_is a_in. by_sym theory h (image goal.target) (image right) a a_is a_in))
            (record { sequent = s; is_given = refl; same_conclusion = m.conclusion; included = meets-none goal.assumptions (named right) s m })
            (λ a b a_is a_in b_is b_in. by_eq_mp theory h (image right) (image goal.target) a b a_is a_in b_is b_in));
        known = (known-from theory goal.assumptions [] (named right) (assumptions-known theory goal known) (known-none theory) right_known, tt);
      }

  -- ---- TAUT_TAC

  abbrev TautologyStates : Result Stated Fault → Type 0
  TautologyStates outcome = (small : Bool) → AnswersIfSmall small outcome (Ok theorem) → States (record { hypotheses = []; conclusion = named goal.target }) theorem

  states : AnswersTautology theory goal.target (Ok theorem) → States (record { hypotheses = []; conclusion = named goal.target }) theorem
  states answers = by_tests (is_formula goal.target) (first_unknown theory goal.target) (falsity_of goal.target) _ answers
    where
      by_tests : (test : Bool) (unknown false_row : Option Fault) → TautologyStates (unless test NotBool (refused unknown (refused false_row (stated [] goal.target))))
      by_tests false unknown false_row small answers = absurd answers
      by_tests true (Some fault) false_row small answers = absurd answers
      by_tests true None (Some fault) small answers = absurd answers
      by_tests true None None small answers = answers

  tautology-good : AnswersTautology theory goal.target (Ok theorem) → IsGoodStated theory after goal (proved_by_lemma (length store.lemmas))
  tautology-good answers =
      let stated_so = states answers in
      record {
        proves = with_none (λ sequents. Proves h (image goal.target) (sequent_of theory (sequents_in after) sequents last))
            (record {
              sequent = sequent_of_theorem theorem;
              is_given = get-last store.lemmas theorem;
              same_conclusion = ap image stated_so.conclusion;
              included = λ x member. absurd (stated_so.hypotheses.to x member);
            });
        known = tt;
      }

-- ---- all refiners

leaves-are-good : (theory : Theory) → HasLogic theory → LeavesAreGood theory
leaves-are-good theory has = record {
  of_table = λ store l goal step over w known answers.
      outcome-step theory store goal (table store l goal answers.0) answers.1 step (table-good theory store goal has over known l w answers.0 answers.2) answers.3 answers.4;
  of_conversion = λ store goal right theorem step known assumed proved equates is.
      good-step theory (with_lemma store theorem) goal (converted (length store.lemmas) goal right) step (converted-good theory store goal theorem has known right assumed proved equates) is;
  of_tautology = λ store goal theorem step answers is.
      good-step theory (with_lemma store theorem) goal (proved_by_lemma (length store.lemmas)) step (tautology-good theory store goal theorem answers) is;
}

pub refiners-answer-valid : (host : Host) → RefinersAnswerValid host
refiners-answer-valid host theory before final t goal step has over w known runs = runs-good theory host has (leaves-are-good theory has) runs over w known
