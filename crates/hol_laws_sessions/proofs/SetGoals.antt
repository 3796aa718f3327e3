-- The goal of the proof under way is one that a text of the script sets, in whatever state of the theory.
use Rattle.std.proofs.Common.{◌≡◌, ℕ, List, [], ◌∷◌, map, inl, refl, sym, ap, ◌∙◌, subst, Option, Some, None, Ok}
use Rattle.hol_model.specs.declared.fault.Fault.TheVariants.{TooLarge, NotBool}
use Rattle.hol_model.specs.Terms.NamedTerm.{NamedTerm, equation, is_within_limits}
use Rattle.hol_model.specs.Terms.Nameless.{Nameless, image}
use Rattle.hol_model.specs.Logic.Theory.{Theory, IsEarlier}
use Rattle.hol_model.specs.Logic.Derivable.{IsMember, Derivable}
use Rattle.hol_model.specs.Models.Holds.{Holds}
use Rattle.hol_model.specs.Kernel.Answers.{goes_on, stops}
use Rattle.hol_model.specs.Kernel.Outcome.{unless, refused}
use Rattle.hol_model.specs.Kernel.Rules.{first_unknown, is_formula}
use Rattle.hol_model.specs.Goals.Goals.{Goal}
use Rattle.hol_model.specs.Goals.GoalStates.{Stage, underway, proved, Proof, begun, goal_of, set_outcome, restored, back_outcome, rotated_stage, rotate_outcome, advanced, rotated, Expansion}
use Rattle.hol_model_sessions.specs.TacticGrammar.{Tactic}
use Rattle.hol_model_sessions.specs.Replies.{count_text}
use Rattle.hol_model_sessions.specs.ScriptSessions.{State, Tools, IsExpansion, IsFinished}
use Rattle.hol_model_sessions.specs.Headline.{IsGoalOf, IsProvedLine}
use Rattle.hol_model.proofs.Logic.Earlier.{earlier-twice}
use Rattle.hol_laws_goals.proofs.Passing.{passed, not_refused}
use Rattle.hol_laws_goals.proofs.ValidProofs.{focus-is}

-- ---- the goal stays as it was set

pub set-goal : (theory : Theory) (term : NamedTerm) (proof : Proof) → set_outcome theory term ≡ Ok proof → proof.goal ≡ goal_of term
set-goal theory term proof same =
    let formula = passed (is_formula term) NotBool (refused (first_unknown theory term) (unless (is_within_limits (equation term term)) TooLarge (Ok (begun (goal_of term))))) proof same in
    let known = not_refused (first_unknown theory term) (unless (is_within_limits (equation term term)) TooLarge (Ok (begun (goal_of term)))) proof formula.1 in
    let fits = passed (is_within_limits (equation term term)) TooLarge (Ok (begun (goal_of term))) proof known.1 in
    let whole : Ok (begun (goal_of term)) ≡ Ok proof = fits.1 in
    let one : proof ≡ begun (goal_of term) = cc in
    ap (λ (p : Proof). p.goal) one

-- the proof is of the goal of the proof that was there
abbrev pub IsOfGoal : Option Proof → Proof → Type 0
IsOfGoal None proof = ⊥
IsOfGoal (Some old) proof = proof.goal ≡ old.goal

pub back-goal : (found : Option Proof) (proof : Proof) → back_outcome found ≡ Ok proof → IsOfGoal found proof
back-goal None proof same = cc
back-goal (Some old) proof same = go old.kept same
  where
    go : (kept : List Stage) → restored old.goal kept ≡ Ok proof → proof.goal ≡ old.goal
    go [] same = cc
    go (stage ∷ kept) same =
        let made : Proof = record { goal = old.goal; stage = stage; kept = kept } in
        let one : proof ≡ made = cc in
        ap (λ (p : Proof). p.goal) one

pub rotate-goal : (found : Option Proof) (n : ℕ) (proof : Proof) → rotate_outcome found n ≡ Ok proof → IsOfGoal found proof
rotate-goal None n proof same = cc
rotate-goal (Some old) n proof same = go old.stage same
  where
    go : (stage : Stage) → rotated_stage old stage n ≡ Ok proof → proof.goal ≡ old.goal
    go (underway step) same =
        let one : proof ≡ advanced old (underway (rotated n step)) = cc in
        ap (λ (p : Proof). p.goal) one
    go (proved theorem) same = cc

pub expansion-goal : (tools : Tools) (state : State) (tactic : Tactic NamedTerm) (expansion : Expansion) → IsExpansion tools state tactic (Ok expansion) → IsOfGoal state.proof expansion.proof
expansion-goal tools state tactic expansion (stops fault is same) = cc
expansion-goal tools state tactic expansion (goes_on focus is_focus (stops fault is same)) = cc
expansion-goal tools state tactic expansion (goes_on focus is_focus (goes_on refinement is_refined (stops fault is same))) = cc
expansion-goal tools state tactic expansion (goes_on focus is_focus (goes_on refinement is_refined (goes_on proof (stops fault is_stage stopped) same))) = cc
expansion-goal tools state tactic expansion (goes_on focus is_focus (goes_on refinement is_refined (goes_on proof (goes_on stage is_stage reached) same))) =
    let made : Expansion = record { proof = proof; lemmas = refinement.lemmas; left = refinement.left } in
    let one : expansion ≡ made = cc in
    let two : proof ≡ advanced focus.proof stage = cc in
    let kept : expansion.proof.goal ≡ focus.proof.goal = ap (λ (e : Expansion). e.proof.goal) one ∙ ap (λ (p : Proof). p.goal) two in
    subst (λ (found : Option Proof). IsOfGoal found expansion.proof) (sym (focus-is state.proof focus (sym is_focus)).is_found) kept

-- ---- what sets it

-- the proof's goal is one that a text sets over the theory, or over what it has grown from
pub record HasSetGoal (texts : List (List ℕ)) (theory : Theory) (proof : Proof) : Type 0 where
  pub term : NamedTerm
  pub is_goal : proof.goal ≡ goal_of term
  pub is_set : IsGoalOf texts theory term

-- the same of the proof under way, if any
abbrev pub HasSetGoalIfAny : List (List ℕ) → Theory → Option Proof → Type 0
HasSetGoalIfAny texts theory None = Unit {0}
HasSetGoalIfAny texts theory (Some proof) = HasSetGoal texts theory proof

pub set-kept : (texts : List (List ℕ)) (theory : Theory) (found : Option Proof) (proof : Proof) → IsOfGoal found proof → HasSetGoalIfAny texts theory found → HasSetGoal texts theory proof
set-kept texts theory None proof kept set = absurd kept
set-kept texts theory (Some old) proof kept set = record { term = set.term; is_goal = kept ∙ set.is_goal; is_set = set.is_set }

pub goal-later : (texts : List (List ℕ)) (earlier now : Theory) (term : NamedTerm) → IsEarlier earlier now → IsGoalOf texts earlier term → IsGoalOf texts now term
goal-later texts earlier now term is_earlier set = record {
  text = set.text;
  there = set.there;
  earlier = set.earlier;
  is_earlier = earlier-twice set.earlier earlier now set.is_earlier is_earlier;
  sets = set.sets;
}

pub set-later : (texts : List (List ℕ)) (earlier now : Theory) → IsEarlier earlier now → (found : Option Proof) → HasSetGoalIfAny texts earlier found → HasSetGoalIfAny texts now found
set-later texts earlier now is_earlier None set = tt
set-later texts earlier now is_earlier (Some proof) set = record { term = set.term; is_goal = set.is_goal; is_set = goal-later texts earlier now set.term is_earlier set.is_set }

-- ---- a finished proof

pub nothing : (terms : List Nameless) → ((term : Nameless) → IsMember term terms → IsMember term []) → terms ≡ []
nothing [] none = refl
nothing (term ∷ terms) none = absurd (none term (inl refl))

-- where no goal is open, the goal that was set follows and holds
pub finished-told : (texts : List (List ℕ)) (state : State) → IsFinished state → HasSetGoalIfAny texts state.library.theory state.proof
    → IsProvedLine texts state.library.theory (count_text [])
finished-told texts state finished set_if_any =
    let theory : Theory = state.library.theory in
    let set : HasSetGoal texts theory finished.proof = subst (λ (found : Option Proof). HasSetGoalIfAny texts theory found) finished.is_here set_if_any in
    let none : map image finished.theorem.hypotheses ≡ [] =
    nothing (map image finished.theorem.hypotheses)
    (λ term member. subst (λ (goal : Goal). IsMember term (map image goal.assumptions)) set.is_goal (finished.achieves.assumed term member)) in
    let same : image finished.theorem.conclusion ≡ image set.term =
    finished.achieves.same_conclusion ∙ ap (λ (goal : Goal). image goal.target) set.is_goal in
    record {
      spelled = refl;
      goal = set.term;
      is_goal = set.is_set;
      legal = finished.is_proved.legal;
      derivable = subst (λ (h : List Nameless). Derivable theory h (image set.term)) none
          (subst (λ (c : Nameless). Derivable theory (map image finished.theorem.hypotheses) c) same finished.is_proved.derivable);
      holds = subst (λ (h : List Nameless). Holds theory h (image set.term)) none
          (subst (λ (c : Nameless). Holds theory (map image finished.theorem.hypotheses) c) same finished.is_proved.holds);
    }
