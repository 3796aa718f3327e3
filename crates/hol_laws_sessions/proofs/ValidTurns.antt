-- Each turn keeps the proof under way sound.
use Rattle.std.proofs.Common.{◌≡◌, ℕ, zero, suc, List, [], ◌∷◌, ◌++◌, map, Bool, true, false, refl, sym, subst, ap, ◌⊎◌, inl, inr, Option, None, Some, Result, Ok, Err}
use Rattle.std.specs.Prelude.{not, is_some, slice_get}
use Rattle.std.specs.Option.{option_map}
use Rattle.hol_model.specs.declared.fault.Fault.{Fault}
use Rattle.hol_model.specs.declared.fault.Fault.TheVariants.{BadName, NameTaken, NoGoal, UnknownName, Memory, TooLarge}
use Rattle.hol_model.specs.Terms.NamedTerm.{NamedTerm}
use Rattle.hol_model.specs.Logic.Theory.{Theory, IsLegal, IsEarlier}
use Rattle.hol_model.specs.Kernel.Outcome.{given}
use Rattle.hol_model.specs.Kernel.Theorem.{Theorem}
use Rattle.hol_model.specs.Kernel.Rules.{new_type_outcome}
use Rattle.hol_model.specs.Goals.Goals.{Sequent, Goal}
use Rattle.hol_model.specs.Texts.TypeGrammar.{TypeTree}
use Rattle.hol_model.specs.Texts.TermGrammar.{TermTree}
use Rattle.hol_model.specs.Texts.Lexing.{numeral_value}
use Rattle.hol_model.specs.Texts.Reading.{type_meaning, meaning, ◌>>=◌}
use Rattle.hol_model_sessions.specs.Sessions.{with_variable, over_theory, is_theorem_name, definition_name, def_outcome, with_definition, newconst_outcome}
use Rattle.hol_model.specs.Goals.Strength.{AnswersAsStrong}
use Rattle.hol_model.specs.Goals.Justifications.{Justification}
use Rattle.hol_model.specs.Goals.ValidSteps.{Step}
use Rattle.hol_model.specs.Goals.JustificationLaws.{IsLaterStore}
use Rattle.hol_laws_steps.proofs.FewerHypotheses.{IsAsStrong-self}
use Rattle.hol_model_sessions.specs.TacticGrammar.{Tactic, read_tactic}
use Rattle.hol_model_sessions.specs.CommandGrammar.{CommandTree, var_command, newtype_command, newconst_command, def_command, thm_command, show_command, goal_command, e_command, b_command}
use Rattle.hol_model_sessions.specs.CommandGrammar.{p_command, r_command, save_command}
use Rattle.hol_model.specs.Kernel.Answers.{Is, Unless, Then, goes_on, stops}
use Rattle.hol_model.specs.Goals.Replays.{Store, sequent_of_theorem, sequents_in, IsKnownGoal, AreKnownGoals, is_within_depth}
use Rattle.hol_model.specs.Goals.GoalStates.{Stage, Proof, open_goals, set_outcome, back_outcome, rotate_outcome, top_outcome, Focus, focus_outcome, Refinement, Expansion, IsStageOf, IsExpanded}
use Rattle.hol_model.specs.Goals.GoalStates.{expanded}
use Rattle.hol_model.specs.Goals.GoalLaws.{IsValidIfAny, IsValidProof, Replays}
use Rattle.hol_model_sessions.specs.Replies.{refusal_of, goal_lines}
use Rattle.hol_model_sessions.specs.ScriptSessions.{State, scope_in, store_in, with_library, with_goal, with_lemmas, Tools, Accepted, Outcome, state_after, Plainly, says_nothing, says_theorem}
use Rattle.hol_model_sessions.specs.ScriptSessions.{stores, says_goals, var_outcome, newtype_outcome, newconst_accepted, def_accepted, show_outcome, goal_outcome, p_outcome, save_outcome}
use Rattle.hol_model_sessions.specs.ScriptSessions.{IsTheoremAnswer, NamesTheorem, IsExpansion, IsRefined, May, Allows, finds_no_memory, is_unfinished, is_no_command, is_refused, is_done, Turn}
use Rattle.hol_model.specs.Goals.GoodSteps.{IsGoodStep}
use Rattle.hol_laws_sessions.specs.ValidSessions.{IsTold, GoesOn, RefinesValidly, HasValidProof, TurnsKeepValid, RefusesExpansion, by_terms, without_goal, by_refiner, for_size, ExpansionsAreRefused}
use Rattle.hol_model.proofs.Logic.Earlier.{earlier-same}
use Rattle.hol_laws_goals.proofs.Passing.{followed}
use Rattle.hol_laws_sessions.proofs.Turns.{turn-grows}
use Rattle.hol_laws_sessions.proofs.StoredTheorems.{Keeps, turn-follows}
use Rattle.hol_laws_goals.proofs.ValidProofs.{focus-sound, set-valid, back-valid, rotate-valid, expand-valid, expand-refused, if_any-stays}

-- ---- stores

self : (found : Option Sequent) → AnswersAsStrong found found
self None = tt
self (Some sequent) = IsAsStrong-self sequent

-- what was stored is stored still
kept_named : (old new : Option Theorem) → ((theorem : Theorem) → old ≡ Some theorem → new ≡ Some theorem) → AnswersAsStrong (option_map sequent_of_theorem new) (option_map sequent_of_theorem old)
kept_named None new stays = tt
kept_named (Some theorem) new stays = (let same : new ≡ Some theorem = stays theorem refl in rw same (IsAsStrong-self (sequent_of_theorem theorem)))

kept_lemmas : (lemmas added : List Theorem) (k : ℕ) → AnswersAsStrong (slice_get (map sequent_of_theorem (lemmas ++ added)) k) (slice_get (map sequent_of_theorem lemmas) k)
kept_lemmas [] added k = tt
kept_lemmas (lemma ∷ lemmas) added zero = IsAsStrong-self (sequent_of_theorem lemma)
kept_lemmas (lemma ∷ lemmas) added (suc k) = kept_lemmas lemmas added k

more_lemmas : (state : State) (lemmas : List Theorem) → GoesOn state.lemmas lemmas → IsLaterStore (sequents_in (store_in state)) (sequents_in (store_in (with_lemmas state lemmas)))
more_lemmas state lemmas more = record {
  named = λ name. self (option_map sequent_of_theorem (state.library.theorems name));
  lemmas = λ k. subst (λ (l : List Theorem). AnswersAsStrong (slice_get (map sequent_of_theorem l) k) (slice_get (map sequent_of_theorem state.lemmas) k)) (sym more.is_added)
      (kept_lemmas state.lemmas more.added k);
}

later_library : (old new : State) → IsTold old.library → Keeps old.library new.library → new.lemmas ≡ old.lemmas → IsLaterStore (sequents_in (store_in old)) (sequents_in (store_in new))
later_library old new told keeps same = record {
  named = λ name. kept_named (old.library.theorems name) (new.library.theorems name) (λ theorem is. keeps.stays told name theorem is);
  lemmas = λ k. subst (λ (l : List Theorem). AnswersAsStrong (slice_get (map sequent_of_theorem l) k) (slice_get (map sequent_of_theorem old.lemmas) k)) (sym same)
      (self (slice_get (map sequent_of_theorem old.lemmas) k));
}

-- ---- replays as they are

stage-as_is : (theory : Theory) (replays others : Justification → Result Theorem Fault → Type 0) → ((j : Justification) (answer : Result Theorem Fault) → replays j answer → others j answer)
    → (goal : Goal) (step : Step) (deep : Bool) (goals : List Goal) (answer : Result Stage Fault) → IsStageOf theory replays goal step deep goals answer →
    IsStageOf theory others goal step deep goals answer
stage-as_is theory replays others as_is goal step false goals answer is = is
stage-as_is theory replays others as_is goal step true (first ∷ rest) answer is = is
stage-as_is theory replays others as_is goal step true [] answer (goes_on theorem is_first same) = goes_on theorem (as_is step.justification (Ok theorem) is_first) same
stage-as_is theory replays others as_is goal step true [] answer (stops fault is_first same) = stops fault (as_is step.justification (Err fault) is_first) same

expanded-as_is : (theory : Theory) (replays others : Justification → Result Theorem Fault → Type 0) → ((j : Justification) (answer : Result Theorem Fault) → replays j answer → others j answer)
    → (focus : Focus) (refinement : Step) (answer : Result Proof Fault) → IsExpanded theory replays focus refinement answer → IsExpanded theory others focus refinement answer
expanded-as_is theory replays others as_is focus refinement answer (goes_on stage is_stage same) =
    goes_on stage (stage-as_is theory replays others as_is focus.proof.goal (expanded focus refinement) (is_within_depth (expanded focus refinement).justification)
    (expanded focus refinement).goals (Ok stage) is_stage) same
expanded-as_is theory replays others as_is focus refinement answer (stops fault is_stage same) =
    stops fault (stage-as_is theory replays others as_is focus.proof.goal (expanded focus refinement) (is_within_depth (expanded focus refinement).justification)
    (expanded focus refinement).goals (Err fault) is_stage) same

-- ---- expansions

known_first : (theory : Theory) (goals : List Goal) (goal : Goal) (others : List Goal) → goals ≡ goal ∷ others → AreKnownGoals theory goals → IsKnownGoal theory goal
known_first theory goals goal others same known = (subst (λ (g : List Goal). AreKnownGoals theory g) same known).0

module _ (tools : Tools) (state : State) (legal : IsLegal state.library.theory) (sound : RefinesValidly tools state) (valid : HasValidProof state) where
  abbrev here : Theory
  here = state.library.theory

  -- the proof over the lemmas that a refiner leaves
  later_valid : (lemmas : List Theorem) → GoesOn state.lemmas lemmas → IsValidIfAny here (store_in (with_lemmas state lemmas)) state.proof
  later_valid lemmas more =
      if_any-stays here here (store_in state) (store_in (with_lemmas state lemmas)) (earlier-same here here refl) legal (more_lemmas state lemmas more) state.proof valid

  refined-valid : (tree : Tactic TermTree) (tactic : Tactic NamedTerm) → read_tactic (meaning (scope_in state) []) tree ≡ Ok tactic → (focus : Focus) (refinement : Refinement) →
      focus_outcome state.proof ≡ Ok focus → tools.refines here (store_in state) tactic focus.goal (Ok refinement)
      → IsGoodStep here (store_in (with_lemmas state refinement.lemmas)) focus.goal refinement.step
  refined-valid tree tactic is_read focus refinement is_focus is_refined =
      let focused = focus-sound here (store_in state) state.proof focus valid is_focus in
      sound.valid tree tactic focus.goal refinement is_read (known_first here focus.step.goals focus.goal focus.others focused.goals focused.opening.known) is_refined

  expansion-valid : (tree : Tactic TermTree) (tactic : Tactic NamedTerm) → read_tactic (meaning (scope_in state) []) tree ≡ Ok tactic → (expansion : Expansion) →
      IsExpansion tools state tactic (Ok expansion) → IsValidProof here (store_in (with_lemmas state expansion.lemmas)) expansion.proof
  expansion-valid tree tactic is_read expansion (stops fault is same) = cc
  expansion-valid tree tactic is_read expansion (goes_on focus is_focus (stops fault is same)) = cc
  expansion-valid tree tactic is_read expansion (goes_on focus is_focus (goes_on refinement is_refined (stops fault is same))) = cc
  expansion-valid tree tactic is_read expansion (goes_on focus is_focus (goes_on refinement is_refined (goes_on proof is_expanded same))) =
      let store : Store = store_in (with_lemmas state refinement.lemmas) in
      let reached = expand-valid here store (sound.room refinement.lemmas) state.proof focus refinement.step proof
      (later_valid refinement.lemmas (sound.lemmas tactic focus.goal refinement is_refined)) (sym is_focus) (refined-valid tree tactic is_read focus refinement (sym is_focus) is_refined)
      (expanded-as_is here (tools.replays here store) (Replays here store (sound.room refinement.lemmas)) (sound.replays refinement.lemmas) focus refinement.step (Ok proof) is_expanded) in
      let made : Expansion = record { proof = proof; lemmas = refinement.lemmas; left = refinement.left } in
      let one : expansion ≡ made = cc in
      subst (λ (e : Expansion). IsValidProof here (store_in (with_lemmas state e.lemmas)) e.proof) (sym one) reached

  expansion-refused : (tree : Tactic TermTree) (tactic : Tactic NamedTerm) → read_tactic (meaning (scope_in state) []) tree ≡ Ok tactic → (fault : Fault) →
      IsExpansion tools state tactic (Err fault) → RefusesExpansion tools state tree fault
  expansion-refused tree tactic is_read fault (stops other is same) = (let one : fault ≡ other = cc in without_goal (subst (λ (f : Fault). focus_outcome state.proof ≡ Err f) (sym one) (sym is)))
  expansion-refused tree tactic is_read fault (goes_on focus is_focus (stops other is same)) =
      (let one : fault ≡ other = cc in by_refiner tactic focus (sym is_focus) (subst (λ (f : Fault). tools.refines here (store_in state) tactic focus.goal (Err f)) (sym one) is))
  expansion-refused tree tactic is_read fault (goes_on focus is_focus (goes_on refinement is_refined (goes_on proof is_expanded same))) = cc
  expansion-refused tree tactic is_read fault (goes_on focus is_focus (goes_on refinement is_refined (stops other is_expanded same))) =
      let store : Store = store_in (with_lemmas state refinement.lemmas) in
      let one : fault ≡ other = cc in
      for_size (subst (λ (f : Fault). (f ≡ Memory) ⊎ (f ≡ TooLarge)) (sym one)
      (expand-refused here store (sound.room refinement.lemmas) state.proof focus refinement.step other
      (later_valid refinement.lemmas (sound.lemmas tactic focus.goal refinement is_refined)) (sym is_focus) (refined-valid tree tactic is_read focus refinement (sym is_focus) is_refined)
      (expanded-as_is here (tools.replays here store) (Replays here store (sound.room refinement.lemmas)) (sound.replays refinement.lemmas) focus refinement.step (Err other) is_expanded)))

  refusal-is : (tree : Tactic TermTree) (fault : Fault) → IsRefined tools state tree (Err fault) → RefusesExpansion tools state tree fault
  refusal-is tree fault (stops other is same) = (let one : fault ≡ other = cc in by_terms (subst (λ (f : Fault). read_tactic (meaning (scope_in state) []) tree ≡ Err f) (sym one) (sym is)))
  refusal-is tree fault (goes_on tactic is_read (stops other is same)) =
      (let one : fault ≡ other = cc in subst (λ (f : Fault). RefusesExpansion tools state tree f) (sym one) (expansion-refused tree tactic (sym is_read) other is))
  refusal-is tree fault (goes_on tactic is_read (goes_on expansion is same)) = cc

  -- ---- accepted commands

  -- the goals and the lemmas stay
  record KeepsGoals (accepted : Accepted) : Type 0 where
    proof : accepted.after.proof ≡ state.proof
    lemmas : accepted.after.lemmas ≡ state.lemmas

  abbrev Fares : Accepted → Type 0
  Fares accepted = KeepsGoals accepted ⊎ HasValidProof accepted.after

  fares-said : {E : Type 0} (said accepted : Accepted) → ◌≡◌ {A = Result Accepted E} (Ok said) (Ok accepted) → Fares said → Fares accepted
  fares-said said accepted same fares = (let one : accepted ≡ said = cc in subst (λ (a : Accepted). Fares a) (sym one) fares)

  var-fares : (name : List ℕ) (tree : TypeTree) (accepted : Accepted) → Ok accepted ≡ var_outcome state name tree → Fares accepted
  var-fares name tree accepted same =
      let f = followed (type_meaning (scope_in state) tree) (λ ty. Ok (says_nothing (with_library state (with_variable state.library name ty)))) accepted (sym same) in
      fares-said (says_nothing (with_library state (with_variable state.library name f.value))) accepted f.is (inl (record { proof = refl; lemmas = refl }))

  newtype-fares : (name : List ℕ) (accepted : Accepted) → Ok accepted ≡ newtype_outcome state name → Fares accepted
  newtype-fares name accepted same =
      let f = followed (new_type_outcome state.library.theory name) (λ theory. Ok (says_nothing (with_library state (over_theory state.library theory)))) accepted (sym same) in
      fares-said (says_nothing (with_library state (over_theory state.library f.value))) accepted f.is (inl (record { proof = refl; lemmas = refl }))

  newconst-fares : (name : List ℕ) (tree : TypeTree) (accepted : Accepted) → Ok accepted ≡ newconst_accepted state name tree → Fares accepted
  newconst-fares name tree accepted same =
      let f = followed (newconst_outcome state.library name tree) (λ theory. Ok (says_nothing (with_library state (over_theory state.library theory)))) accepted (sym same) in
      fares-said (says_nothing (with_library state (over_theory state.library f.value))) accepted f.is (inl (record { proof = refl; lemmas = refl }))

  def-fares : (name : List ℕ) (tree : TermTree) (accepted : Accepted) → Ok accepted ≡ def_accepted state name tree → Fares accepted
  def-fares name tree accepted same =
      let f = followed (def_outcome state.library name tree) (λ theorem. Ok (says_theorem (definition_name name) theorem (with_library state (with_definition state.library name theorem))))
      accepted (sym same) in
      fares-said (says_theorem (definition_name name) f.value (with_library state (with_definition state.library name f.value))) accepted f.is (inl (record { proof = refl; lemmas = refl }))

  show-fares : (name : List ℕ) (accepted : Accepted) → Ok accepted ≡ show_outcome state name → Fares accepted
  show-fares name accepted same = go (state.library.theorems name) (sym same)
    where
      go : (found : Option Theorem) → given found UnknownName (λ theorem. Ok (says_theorem name theorem state)) ≡ Ok accepted → Fares accepted
      go None same = cc
      go (Some theorem) same = fares-said (says_theorem name theorem state) accepted same (inl (record { proof = refl; lemmas = refl }))

  goal-fares : (tree : TermTree) (accepted : Accepted) → Ok accepted ≡ goal_outcome state tree → Fares accepted
  goal-fares tree accepted same =
      let f = followed (meaning (scope_in state) [] tree >>= λ term. set_outcome here term)
      (λ proof. Ok (record { message = goal_lines (open_goals proof.stage); after = with_goal state proof })) accepted (sym same) in
      let g = followed (meaning (scope_in state) [] tree) (λ term. set_outcome here term) f.value f.is_read in
      fares-said (record { message = goal_lines (open_goals f.value.stage); after = with_goal state f.value }) accepted f.is
      (inr (set-valid here (record { named = state.library.theorems; lemmas = [] }) g.value f.value g.is))

  proof-fares : (answer : Result Proof Fault) (accepted : Accepted) → ((proof : Proof) → answer ≡ Ok proof → IsValidProof here (store_in state) proof) →
      (answer >>= λ proof. Ok (says_goals state proof)) ≡ Ok accepted → Fares accepted
  proof-fares answer accepted good same =
      let f = followed answer (λ proof. Ok (says_goals state proof)) accepted same in
      fares-said (says_goals state f.value) accepted f.is (inr (good f.value f.is_read))

  p-fares : (accepted : Accepted) → Ok accepted ≡ p_outcome state → Fares accepted
  p-fares accepted same = go state.proof refl valid (sym same)
    where
      go : (found : Option Proof) → state.proof ≡ found → IsValidIfAny here (store_in state) found → given found NoGoal (λ proof. Ok (says_goals state proof)) ≡ Ok accepted → Fares accepted
      go None is good same = cc
      go (Some proof) is good same = fares-said (says_goals state proof) accepted same (inr good)

  save-fares : (name : List ℕ) (accepted : Accepted) → Ok accepted ≡ save_outcome state name → Fares accepted
  save-fares name accepted same =
      let f = followed (top_outcome state.proof) (λ theorem. Ok (stores state name theorem)) accepted (sym same) in
      fares-said (stores state name f.value) accepted f.is (inl (record { proof = refl; lemmas = refl }))

  after-test : {E : Type 0} (accepted : Accepted) (test : Bool) (fault : E) (next : Result Accepted E → Type 0) → (next (Ok accepted) → Fares accepted) →
      Unless test fault next (Ok accepted) → Fares accepted
  after-test accepted true fault next go may = go may
  after-test accepted false fault next go may = cc

  named-fares : (name : List ℕ) (accepted : Accepted) (next : Outcome → Type 0) → (next (Ok accepted) → Fares accepted) → NamesTheorem state name next (Ok accepted) → Fares accepted
  named-fares name accepted next go may =
      after-test accepted (is_theorem_name name) (refusal_of BadName) (Unless (not (is_some (state.library.theorems name))) (refusal_of NameTaken) next)
      (λ rest. after-test accepted (not (is_some (state.library.theorems name))) (refusal_of NameTaken) next go rest) may

  refined-fares : (tree : Tactic TermTree) (accepted : Accepted) → IsRefined tools state tree (Ok accepted) → Fares accepted
  refined-fares tree accepted (stops fault is same) = cc
  refined-fares tree accepted (goes_on tactic is_read (stops fault is same)) = cc
  refined-fares tree accepted (goes_on tactic is_read (goes_on expansion is same)) =
      fares-said (says_goals (with_lemmas state expansion.lemmas) expansion.proof) accepted (sym same) (inr (expansion-valid tree tactic (sym is_read) expansion is))

  thm-fares : {E : Type 0} (name : List ℕ) (accepted : Accepted) (first : Result Theorem E → Type 0) → Then first (λ theorem. Is (Ok (stores state name theorem))) (Ok accepted) → Fares accepted
  thm-fares name accepted first (stops fault is same) = cc
  thm-fares name accepted first (goes_on theorem is same) = fares-said (stores state name theorem) accepted (sym same) (inl (record { proof = refl; lemmas = refl }))

  command-fares : (tree : CommandTree) (accepted : Accepted) → May tools state tree (Ok accepted) → Fares accepted
  command-fares (var_command name tree) accepted may = var-fares name tree accepted may
  command-fares (newtype_command name) accepted may = newtype-fares name accepted may
  command-fares (newconst_command name tree) accepted may = newconst-fares name tree accepted may
  command-fares (def_command name tree) accepted may = def-fares name tree accepted may
  command-fares (thm_command name tree) accepted may =
      named-fares name accepted (Then (IsTheoremAnswer tools state tree) (λ theorem. Is (Ok (stores state name theorem)))) (λ rest. thm-fares name accepted (IsTheoremAnswer tools state tree) rest) may
  command-fares (show_command name) accepted may = show-fares name accepted may
  command-fares (goal_command tree) accepted may = goal-fares tree accepted may
  command-fares (e_command tree) accepted may = refined-fares tree accepted may
  command-fares b_command accepted may = proof-fares (back_outcome state.proof) accepted (λ proof is. back-valid here (store_in state) state.proof proof valid is) (sym may)
  command-fares p_command accepted may = p-fares accepted may
  command-fares (r_command digits) accepted may =
      proof-fares (rotate_outcome state.proof (numeral_value digits)) accepted (λ proof is. rotate-valid here (store_in state) state.proof (numeral_value digits) proof valid is) (sym may)
  command-fares (save_command name) accepted may = named-fares name accepted (Plainly (Is (save_outcome state name))) (λ rest. save-fares name accepted rest) may

-- ---- turns

fared : (tools : Tools) (state after : State) → IsTold state.library → HasValidProof state → Keeps state.library after.library → IsEarlier state.library.theory after.library.theory →
    IsLegal after.library.theory
    → after.proof ≡ state.proof → after.lemmas ≡ state.lemmas → HasValidProof after
fared tools state after told valid keeps is_earlier legal same_proof same_lemmas =
    subst (λ (found : Option Proof). IsValidIfAny after.library.theory (store_in after) found) (sym same_proof)
    (if_any-stays state.library.theory after.library.theory (store_in state) (store_in after) is_earlier legal (later_library state after told keeps same_lemmas) state.proof valid)

outcome-valid : (tools : Tools) (state : State) (text : Option (List ℕ)) (outcome : Outcome) → IsLegal state.library.theory → IsTold state.library → RefinesValidly tools state → HasValidProof state
    → Keeps state.library (state_after state outcome).library → IsEarlier state.library.theory (state_after state outcome).library.theory → IsLegal (state_after state outcome).library.theory
    → Allows tools state text outcome → HasValidProof (state_after state outcome)
outcome-valid tools state text outcome legal told sound valid keeps is_earlier now_legal finds_no_memory = valid
outcome-valid tools state text outcome legal told sound valid keeps is_earlier now_legal is_unfinished = valid
outcome-valid tools state text outcome legal told sound valid keeps is_earlier now_legal (is_no_command none) = valid
outcome-valid tools state text outcome legal told sound valid keeps is_earlier now_legal (is_refused tree spelled may) = valid
outcome-valid tools state text outcome legal told sound valid keeps is_earlier now_legal (is_done {accepted} tree spelled may) =
    elim (command-fares tools state legal sound valid tree accepted may) [
      | inl kept ↦ fared tools state accepted.after told valid keeps is_earlier now_legal kept.proof kept.lemmas
      | inr good ↦ good
    ]

pub turn-valid : (tools : Tools) → TurnsKeepValid tools
turn-valid tools state request turn legal told sound valid takes =
    let grows = turn-grows tools state request turn takes in
    let follows = turn-follows tools state request turn takes in
    let leaves : turn.after ≡ state_after state takes.outcome = ap (λ (t : Turn). t.after) takes.is_turn in
    subst (λ (s : State). HasValidProof s) (sym leaves)
    (outcome-valid tools state request.text takes.outcome legal told sound valid
    (subst (λ (s : State). Keeps state.library s.library) leaves follows.keeps)
    (subst (λ (s : State). IsEarlier state.library.theory s.library.theory) leaves grows.earlier)
    (subst (λ (s : State). IsLegal s.library.theory) leaves (grows.stays_legal legal)) takes.allowed)

pub expansions-refused : (tools : Tools) → ExpansionsAreRefused tools
expansions-refused tools state tree refusal legal sound valid may = refusal-is tools state legal sound valid tree refusal.fault may.0
