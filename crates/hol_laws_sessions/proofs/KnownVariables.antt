-- Declared variables have known types.
use Rattle.std.proofs.Common.{◌≡◌, ℕ, List, [], Bool, true, false, refl, sym, subst, ap, ◌∙◌, ◌⊎◌, inl, inr, Option, None, Some, Result, Ok, if◌then◌else◌}
use Rattle.std.specs.Prelude.{not, is_some}
use Rattle.std.specs.Str.{bytes_eq}
use Rattle.hol_model.specs.declared.fault.Fault.{Fault}
use Rattle.hol_model.specs.declared.fault.Fault.TheVariants.{BadName, NameTaken, NoGoal, UnknownName}
use Rattle.hol_model.specs.Terms.HolType.{HolType}
use Rattle.hol_model.specs.Logic.Theory.{IsLegal}
use Rattle.hol_model.specs.Logic.KnownTerm.{knows_type}
use Rattle.hol_model.specs.Kernel.Outcome.{given}
use Rattle.hol_model.specs.Kernel.Theorem.{Theorem}
use Rattle.hol_model.specs.Kernel.Rules.{new_type_outcome}
use Rattle.hol_model.specs.Texts.TypeGrammar.{TypeTree}
use Rattle.hol_model.specs.Texts.TermGrammar.{TermTree}
use Rattle.hol_model.specs.Texts.Lexing.{numeral_value}
use Rattle.hol_model.specs.Texts.Reading.{type_meaning, meaning, ◌>>=◌}
use Rattle.hol_model_sessions.specs.Sessions.{with_variable, over_theory, is_theorem_name, definition_name, def_outcome, with_definition, newconst_outcome}
use Rattle.hol_model_sessions.specs.TacticGrammar.{Tactic}
use Rattle.hol_model_sessions.specs.CommandGrammar.{CommandTree, var_command, newtype_command, newconst_command, def_command, thm_command, show_command, goal_command, e_command, b_command}
use Rattle.hol_model_sessions.specs.CommandGrammar.{p_command, r_command, save_command}
use Rattle.hol_model.specs.Kernel.Answers.{Is, Unless, Then, goes_on, stops}
use Rattle.hol_model.specs.Goals.GoalStates.{Proof, open_goals, set_outcome, back_outcome, rotate_outcome, top_outcome}
use Rattle.hol_model_sessions.specs.Replies.{refusal_of, goal_lines}
use Rattle.hol_laws_sessions.specs.ReadTerms.{HasKnownVariables, VariablesStayKnown, ScopesAreOver}
use Rattle.hol_model_sessions.specs.ScriptSessions.{State, scope_in, with_library, with_goal, with_lemmas, Tools, Accepted, Outcome, state_after, Plainly, says_nothing, says_theorem, stores}
use Rattle.hol_model_sessions.specs.ScriptSessions.{says_goals, var_outcome, newtype_outcome, newconst_accepted, def_accepted, show_outcome, goal_outcome, p_outcome, save_outcome}
use Rattle.hol_model_sessions.specs.ScriptSessions.{IsTheoremAnswer, NamesTheorem, IsRefined, May, Allows, finds_no_memory, is_unfinished, is_no_command, is_refused, is_done, Turn}
use Rattle.hol_laws_goals.proofs.Passing.{followed}
use Rattle.hol_laws_sessions.proofs.Growth.{GrowsLegally}
use Rattle.hol_laws_goals.proofs.Knowledge.{knows_type-stays}
use Rattle.hol_laws_sessions.proofs.KnownReadings.{read_type-known}
use Rattle.hol_laws_sessions.proofs.Turns.{turn-grows}

pub scope-over : ScopesAreOver
scope-over state known = record { constants = λ name. refl; types = λ name. refl; variables = known }

module _ (tools : Tools) (state : State) (legal : IsLegal state.library.theory) (known : HasKnownVariables state) where
  -- the variables stay, or have known types
  abbrev Fares : Accepted → Type 0
  Fares accepted = (accepted.after.library.variables ≡ state.library.variables) ⊎ HasKnownVariables accepted.after

  fares-said : {E : Type 0} (said accepted : Accepted) → ◌≡◌ {A = Result Accepted E} (Ok said) (Ok accepted) → Fares said → Fares accepted
  fares-said said accepted same fares = (let one : accepted ≡ said = cc in subst (λ (a : Accepted). Fares a) (sym one) fares)

  var-fares : (name : List ℕ) (tree : TypeTree) (accepted : Accepted) → Ok accepted ≡ var_outcome state name tree → Fares accepted
  var-fares name tree accepted same =
      let f = followed (type_meaning (scope_in state) tree) (λ ty. Ok (says_nothing (with_library state (with_variable state.library name ty)))) accepted (sym same) in
      fares-said (says_nothing (with_library state (with_variable state.library name f.value))) accepted f.is
      (inr (λ other ty is. go f.value (read_type-known state.library.theory legal (scope_in state) (scope-over state known) tree f.value f.is_read) other ty (bytes_eq name other) is))
    where
      go : (new : HolType) → knows_type state.library.theory new ≡ true → (other : List ℕ) (ty : HolType) (test : Bool) →
          (if test then Some new else state.library.variables other) ≡ Some ty → knows_type state.library.theory ty ≡ true
      go new good other ty true is = (let one : new ≡ ty = cc in subst (λ (t : HolType). knows_type state.library.theory t ≡ true) one good)
      go new good other ty false is = known other ty is

  newtype-fares : (name : List ℕ) (accepted : Accepted) → Ok accepted ≡ newtype_outcome state name → Fares accepted
  newtype-fares name accepted same =
      let f = followed (new_type_outcome state.library.theory name) (λ theory. Ok (says_nothing (with_library state (over_theory state.library theory)))) accepted (sym same) in
      fares-said (says_nothing (with_library state (over_theory state.library f.value))) accepted f.is (inl refl)

  newconst-fares : (name : List ℕ) (tree : TypeTree) (accepted : Accepted) → Ok accepted ≡ newconst_accepted state name tree → Fares accepted
  newconst-fares name tree accepted same =
      let f = followed (newconst_outcome state.library name tree) (λ theory. Ok (says_nothing (with_library state (over_theory state.library theory)))) accepted (sym same) in
      fares-said (says_nothing (with_library state (over_theory state.library f.value))) accepted f.is (inl refl)

  def-fares : (name : List ℕ) (tree : TermTree) (accepted : Accepted) → Ok accepted ≡ def_accepted state name tree → Fares accepted
  def-fares name tree accepted same =
      let f = followed (def_outcome state.library name tree) (λ theorem. Ok (says_theorem (definition_name name) theorem (with_library state (with_definition state.library name theorem))))
      accepted (sym same) in
      fares-said (says_theorem (definition_name name) f.value (with_library state (with_definition state.library name f.value))) accepted f.is (inl refl)

  show-fares : (name : List ℕ) (accepted : Accepted) → Ok accepted ≡ show_outcome state name → Fares accepted
  show-fares name accepted same = go (state.library.theorems name) (sym same)
    where
      go : (found : Option Theorem) → given found UnknownName (λ theorem. Ok (says_theorem name theorem state)) ≡ Ok accepted → Fares accepted
      go None same = cc
      go (Some theorem) same = fares-said (says_theorem name theorem state) accepted same (inl refl)

  goal-fares : (tree : TermTree) (accepted : Accepted) → Ok accepted ≡ goal_outcome state tree → Fares accepted
  goal-fares tree accepted same =
      let f = followed (meaning (scope_in state) [] tree >>= λ term. set_outcome state.library.theory term)
      (λ proof. Ok (record { message = goal_lines (open_goals proof.stage); after = with_goal state proof })) accepted (sym same) in
      fares-said (record { message = goal_lines (open_goals f.value.stage); after = with_goal state f.value }) accepted f.is (inl refl)

  proof-fares : (answer : Result Proof Fault) (accepted : Accepted) → (answer >>= λ proof. Ok (says_goals state proof)) ≡ Ok accepted → Fares accepted
  proof-fares answer accepted same =
      let f = followed answer (λ proof. Ok (says_goals state proof)) accepted same in
      fares-said (says_goals state f.value) accepted f.is (inl refl)

  p-fares : (accepted : Accepted) → Ok accepted ≡ p_outcome state → Fares accepted
  p-fares accepted same = go state.proof (sym same)
    where
      go : (found : Option Proof) → given found NoGoal (λ proof. Ok (says_goals state proof)) ≡ Ok accepted → Fares accepted
      go None same = cc
      go (Some proof) same = fares-said (says_goals state proof) accepted same (inl refl)

  save-fares : (name : List ℕ) (accepted : Accepted) → Ok accepted ≡ save_outcome state name → Fares accepted
  save-fares name accepted same =
      let f = followed (top_outcome state.proof) (λ theorem. Ok (stores state name theorem)) accepted (sym same) in
      fares-said (stores state name f.value) accepted f.is (inl refl)

  after-test : {E : Type 0} (accepted : Accepted) (test : Bool) (fault : E) (next : Result Accepted E → Type 0) → (next (Ok accepted) → Fares accepted) →
      Unless test fault next (Ok accepted) → Fares accepted
  after-test accepted true fault next go may = go may
  after-test accepted false fault next go may = cc

  named-fares : (name : List ℕ) (accepted : Accepted) (next : Outcome → Type 0) → (next (Ok accepted) → Fares accepted) → NamesTheorem state name next (Ok accepted) → Fares accepted
  named-fares name accepted next go may =
      after-test accepted (is_theorem_name name) (refusal_of BadName) (Unless (not (is_some (state.library.theorems name))) (refusal_of NameTaken) next)
      (λ rest. after-test accepted (not (is_some (state.library.theorems name))) (refusal_of NameTaken) next go rest) may

  refined-fares : (tree : Tactic TermTree) (accepted : Accepted) → IsRefined tools state tree (Ok accepted) → Fares accepted
  refined-fares tree accepted (stops fault is same) = cc
  refined-fares tree accepted (goes_on tactic is_read (stops fault is same)) = cc
  refined-fares tree accepted (goes_on tactic is_read (goes_on expansion is same)) =
      fares-said (says_goals (with_lemmas state expansion.lemmas) expansion.proof) accepted (sym same) (inl refl)

  thm-fares : {E : Type 0} (name : List ℕ) (accepted : Accepted) (first : Result Theorem E → Type 0) → Then first (λ theorem. Is (Ok (stores state name theorem))) (Ok accepted) → Fares accepted
  thm-fares name accepted first (stops fault is same) = cc
  thm-fares name accepted first (goes_on theorem is same) = fares-said (stores state name theorem) accepted (sym same) (inl refl)

  command-fares : (tree : CommandTree) (accepted : Accepted) → May tools state tree (Ok accepted) → Fares accepted
  command-fares (var_command name tree) accepted may = var-fares name tree accepted may
  command-fares (newtype_command name) accepted may = newtype-fares name accepted may
  command-fares (newconst_command name tree) accepted may = newconst-fares name tree accepted may
  command-fares (def_command name tree) accepted may = def-fares name tree accepted may
  command-fares (thm_command name tree) accepted may =
      named-fares name accepted (Then (IsTheoremAnswer tools state tree) (λ theorem. Is (Ok (stores state name theorem)))) (λ rest. thm-fares name accepted (IsTheoremAnswer tools state tree) rest) may
  command-fares (show_command name) accepted may = show-fares name accepted may
  command-fares (goal_command tree) accepted may = goal-fares tree accepted may
  command-fares (e_command tree) accepted may = refined-fares tree accepted may
  command-fares b_command accepted may = proof-fares (back_outcome state.proof) accepted (sym may)
  command-fares p_command accepted may = p-fares accepted may
  command-fares (r_command digits) accepted may =
      proof-fares (rotate_outcome state.proof (numeral_value digits)) accepted (sym may)
  command-fares (save_command name) accepted may = named-fares name accepted (Plainly (Is (save_outcome state name))) (λ rest. save-fares name accepted rest) may

-- ---- turns

fared : (tools : Tools) (state after : State) → GrowsLegally state.library.theory after.library.theory → IsLegal after.library.theory → HasKnownVariables state →
    after.library.variables ≡ state.library.variables → HasKnownVariables after
fared tools state after grows legal known same name ty is =
    knows_type-stays state.library.theory after.library.theory grows.earlier legal ty (known name ty (ap (λ (v : List ℕ → Option HolType). v name) (sym same) ∙ is))

outcome-known : (tools : Tools) (state : State) (text : Option (List ℕ)) (outcome : Outcome) → IsLegal state.library.theory → HasKnownVariables state →
    GrowsLegally state.library.theory (state_after state outcome).library.theory
    → Allows tools state text outcome → HasKnownVariables (state_after state outcome)
outcome-known tools state text outcome legal known grows finds_no_memory = known
outcome-known tools state text outcome legal known grows is_unfinished = known
outcome-known tools state text outcome legal known grows (is_no_command none) = known
outcome-known tools state text outcome legal known grows (is_refused tree spelled may) = known
outcome-known tools state text outcome legal known grows (is_done {accepted} tree spelled may) =
    elim (command-fares tools state legal known tree accepted may) [
      | inl same ↦ fared tools state accepted.after grows (grows.stays_legal legal) known same
      | inr good ↦ good
    ]

pub variables-stay : (tools : Tools) → VariablesStayKnown tools
variables-stay tools state request turn legal known takes =
    let leaves : turn.after ≡ state_after state takes.outcome = ap (λ (t : Turn). t.after) takes.is_turn in
    subst (λ (s : State). HasKnownVariables s) (sym leaves)
    (outcome-known tools state request.text takes.outcome legal known
    (subst (λ (s : State). GrowsLegally state.library.theory s.library.theory) leaves (turn-grows tools state request turn takes)) takes.allowed)
