-- What each turn of a session keeps.
use Rattle.std.proofs.Common.{◌≡◌, ℕ, List, [], ◌∷◌, Bool, true, false, inl, inr, refl, sym, subst, ap, ◌∙◌, Option, None, Some, Result, Ok, Err}
use Rattle.std.specs.Prelude.{not, is_some, IfSome}
use Rattle.hol_model.specs.declared.fault.Fault.{Fault}
use Rattle.hol_model.specs.declared.fault.Fault.TheVariants.{BadName, NameTaken, NoGoal, UnknownName}
use Rattle.hol_model.specs.Logic.Theory.{Theory, IsLegal, IsEarlier}
use Rattle.hol_model.specs.Logic.Derivable.{IsMember}
use Rattle.hol_model.specs.Kernel.Outcome.{given}
use Rattle.hol_model.specs.Kernel.Theorem.{Theorem}
use Rattle.hol_model.specs.Kernel.Rules.{define_outcome, new_type_outcome, new_const_outcome}
use Rattle.hol_model.specs.Texts.TypeGrammar.{TypeTree}
use Rattle.hol_model.specs.Texts.TermGrammar.{TermTree}
use Rattle.hol_model.specs.Texts.Lexing.{numeral_value}
use Rattle.hol_model.specs.Texts.Reading.{type_meaning, meaning, ◌>>=◌}
use Rattle.hol_model_sessions.specs.Script.{Request}
use Rattle.hol_model.specs.Texts.SequentTexts.{SequentsReadBack}
use Rattle.hol_model_sessions.specs.Sessions.{with_variable, over_theory, is_theorem_name, definition_name, def_outcome, with_definition, newconst_outcome}
use Rattle.hol_model_sessions.specs.TacticGrammar.{Tactic, read_tactic}
use Rattle.hol_model_sessions.specs.CommandGrammar.{CommandTree, var_command, newtype_command, newconst_command, def_command, thm_command, show_command, goal_command, e_command, b_command}
use Rattle.hol_model_sessions.specs.CommandGrammar.{p_command, r_command, save_command}
use Rattle.hol_model.specs.Kernel.Answers.{Is, Unless, Then, goes_on, stops}
use Rattle.hol_model.specs.Goals.GoalStates.{Proof, open_goals, set_outcome, back_outcome, rotate_outcome, top_outcome}
use Rattle.hol_model_sessions.specs.Replies.{goal_lines, refusal_of, NamedTheorem, theorem_in, goals_in}
use Rattle.hol_model_sessions.specs.ScriptSessions.{State, scope_in, with_library, with_goal, Tools, Accepted, Outcome, Plainly, state_after, says_nothing, says_theorem, stores, says_goals}
use Rattle.hol_model_sessions.specs.ScriptSessions.{var_outcome, newtype_outcome, newconst_accepted, def_accepted, show_outcome, goal_outcome, p_outcome, save_outcome, with_lemmas}
use Rattle.hol_model_sessions.specs.ScriptSessions.{IsTheoremAnswer, NamesTheorem, IsExpansion, IsRefined, May, Allows, finds_no_memory, is_unfinished, is_no_command, is_refused, is_done, Turn}
use Rattle.hol_model_sessions.specs.ScriptSessions.{Takes, Session, last_state, AreShown, IsProved, IsFinished}
use Rattle.hol_laws_sessions.specs.SessionLaws.{fault_left, all_without_memory, IsTold}
use Rattle.hol_laws_goals.proofs.Passing.{followed}
use Rattle.hol_laws_sessions.proofs.Growth.{GrowsLegally, stays, grows_twice, type-grows, const-grows, definition-grows}
use Rattle.hol_laws_sessions.proofs.ReadTerms.{read-typed}

-- ---- no memory

refused-left : (tools : Tools) (state : State) (text : Option (List ℕ)) → Allows tools state text (Err (refusal_of (fault_left text)))
refused-left tools state None = is_unfinished
refused-left tools state (Some text) = finds_no_memory

pub may-lack-memory : (tools : Tools) (state : State) (requests : List Request) → Session tools state requests (all_without_memory state requests)
may-lack-memory tools state [] = tt
may-lack-memory tools state (request ∷ requests) = (
  record {
    outcome = Err (refusal_of (fault_left request.text));
    is_turn = refl;
    allowed = refused-left tools state request.text;
    is_true = record { theorem = tt; goals = tt; row = tt };
  },
  may-lack-memory tools state requests,
)

-- ---- what a command makes of the theory

abbrev theory_of : Accepted → Theory
theory_of accepted = accepted.after.library.theory

-- the accepted command keeps the theory, or adds a legal entry
abbrev Grows : State → Accepted → Type 0
Grows state accepted = GrowsLegally state.library.theory (theory_of accepted)

same-accepted : (a b : Accepted) → ◌≡◌ {A = Result Accepted Fault} (Ok a) (Ok b) → b ≡ a
same-accepted a b same = cc

-- a command that says this
keeps : (state : State) (said accepted : Accepted) → ◌≡◌ {A = Result Accepted Fault} (Ok said) (Ok accepted) → theory_of said ≡ state.library.theory → Grows state accepted
keeps state said accepted same kept = stays state.library.theory (theory_of accepted) (ap theory_of (same-accepted said accepted same) ∙ kept)

grows-said : (state : State) (said accepted : Accepted) → ◌≡◌ {A = Result Accepted Fault} (Ok said) (Ok accepted) → Grows state said → Grows state accepted
grows-said state said accepted same grows = subst (λ (a : Accepted). Grows state a) (sym (same-accepted said accepted same)) grows

var-grows : (state : State) (name : List ℕ) (tree : TypeTree) (accepted : Accepted) → Ok accepted ≡ var_outcome state name tree → Grows state accepted
var-grows state name tree accepted same =
    let f = followed (type_meaning (scope_in state) tree) (λ ty. Ok (says_nothing (with_library state (with_variable state.library name ty)))) accepted (sym same) in
    keeps state (says_nothing (with_library state (with_variable state.library name f.value))) accepted f.is refl

newtype-grows : (state : State) (name : List ℕ) (accepted : Accepted) → Ok accepted ≡ newtype_outcome state name → Grows state accepted
newtype-grows state name accepted same =
    let f = followed (new_type_outcome state.library.theory name) (λ theory. Ok (says_nothing (with_library state (over_theory state.library theory)))) accepted (sym same) in
    grows-said state (says_nothing (with_library state (over_theory state.library f.value))) accepted f.is (type-grows state.library.theory f.value name f.is_read)

newconst-grows : (state : State) (name : List ℕ) (tree : TypeTree) (accepted : Accepted) → Ok accepted ≡ newconst_accepted state name tree → Grows state accepted
newconst-grows state name tree accepted same =
    let f = followed (newconst_outcome state.library name tree) (λ theory. Ok (says_nothing (with_library state (over_theory state.library theory)))) accepted (sym same) in
    let g = followed (type_meaning (scope_in state) tree) (λ ty. new_const_outcome state.library.theory name ty) f.value f.is_read in
    grows-said state (says_nothing (with_library state (over_theory state.library f.value))) accepted f.is (const-grows state.library.theory f.value name g.value g.is)

def-grows : (state : State) (name : List ℕ) (tree : TermTree) (accepted : Accepted) → Ok accepted ≡ def_accepted state name tree → Grows state accepted
def-grows state name tree accepted same =
    let f = followed (def_outcome state.library name tree) (λ theorem. Ok (says_theorem (definition_name name) theorem (with_library state (with_definition state.library name theorem))))
    accepted (sym same) in
    let g = followed (meaning (scope_in state) [] tree) (λ term. define_outcome state.library.theory name term) f.value f.is_read in
    grows-said state (says_theorem (definition_name name) f.value (with_library state (with_definition state.library name f.value))) accepted f.is
    (definition-grows state.library.theory name g.value f.value (read-typed (scope_in state) tree g.value g.is_read) g.is)

show-grows : (state : State) (name : List ℕ) (accepted : Accepted) → Ok accepted ≡ show_outcome state name → Grows state accepted
show-grows state name accepted same = go (state.library.theorems name) (sym same)
  where
    go : (found : Option Theorem) → given found UnknownName (λ theorem. Ok (says_theorem name theorem state)) ≡ Ok accepted → Grows state accepted
    go None same = cc
    go (Some theorem) same = keeps state (says_theorem name theorem state) accepted same refl

goal-grows : (state : State) (tree : TermTree) (accepted : Accepted) → Ok accepted ≡ goal_outcome state tree → Grows state accepted
goal-grows state tree accepted same =
    let f = followed (meaning (scope_in state) [] tree >>= λ term. set_outcome state.library.theory term)
    (λ proof. Ok (record { message = goal_lines (open_goals proof.stage); after = with_goal state proof })) accepted (sym same) in
    keeps state (record { message = goal_lines (open_goals f.value.stage); after = with_goal state f.value }) accepted f.is refl

proof-grows : (state : State) (answer : Result Proof Fault) (accepted : Accepted) → (answer >>= λ proof. Ok (says_goals state proof)) ≡ Ok accepted → Grows state accepted
proof-grows state answer accepted same =
    let f = followed answer (λ proof. Ok (says_goals state proof)) accepted same in
    keeps state (says_goals state f.value) accepted f.is refl

p-grows : (state : State) (accepted : Accepted) → Ok accepted ≡ p_outcome state → Grows state accepted
p-grows state accepted same = go state.proof (sym same)
  where
    go : (found : Option Proof) → given found NoGoal (λ proof. Ok (says_goals state proof)) ≡ Ok accepted → Grows state accepted
    go None same = cc
    go (Some proof) same = keeps state (says_goals state proof) accepted same refl

-- after a test and behind another answer

after-test : {E : Type 0} (state : State) (accepted : Accepted) (test : Bool) (fault : E) (next : Result Accepted E → Type 0) → (next (Ok accepted) → Grows state accepted)
    → Unless test fault next (Ok accepted) → Grows state accepted
after-test state accepted true fault next go may = go may
after-test state accepted false fault next go may = cc

behind : {A E : Type 0} (state : State) (accepted : Accepted) (first : Result A E → Type 0) (next : A → Result Accepted E → Type 0) → ((x : A) → next x (Ok accepted) → Grows state accepted)
    → Then first next (Ok accepted) → Grows state accepted
behind state accepted first next go (goes_on x is_first is_next) = go x is_next
behind state accepted first next go (stops fault is_first same) = cc

named-grows : (state : State) (name : List ℕ) (accepted : Accepted) (next : Outcome → Type 0) → (next (Ok accepted) → Grows state accepted) → NamesTheorem state name next (Ok accepted) →
    Grows state accepted
named-grows state name accepted next go may =
    after-test state accepted (is_theorem_name name) (refusal_of BadName) (Unless (not (is_some (state.library.theorems name))) (refusal_of NameTaken) next)
    (λ rest. after-test state accepted (not (is_some (state.library.theorems name))) (refusal_of NameTaken) next go rest) may

stored-grows : {E : Type 0} (state : State) (name : List ℕ) (theorem : Theorem) (accepted : Accepted) → ◌≡◌ {A = Result Accepted E} (Ok accepted) (Ok (stores state name theorem)) →
    Grows state accepted
stored-grows state name theorem accepted same =
    (let one : accepted ≡ stores state name theorem = cc in stays state.library.theory (theory_of accepted) (ap theory_of one))

said-grows : (state : State) (lemmas : List Theorem) (proof : Proof) (accepted : Accepted) →
    ◌≡◌ {A = Result Accepted Fault} (Ok accepted) (Ok (says_goals (with_lemmas state lemmas) proof)) → Grows state accepted
said-grows state lemmas proof accepted same =
    (let one : accepted ≡ says_goals (with_lemmas state lemmas) proof = cc in stays state.library.theory (theory_of accepted) (ap theory_of one))

refined-grows : (tools : Tools) (state : State) (tree : Tactic TermTree) (accepted : Accepted) → IsRefined tools state tree (Ok accepted) → Grows state accepted
refined-grows tools state tree accepted may =
    behind state accepted (Is (read_tactic (meaning (scope_in state) []) tree)) (λ tactic. Then (IsExpansion tools state tactic)
    (λ expansion. Is (Ok (says_goals (with_lemmas state expansion.lemmas) expansion.proof))))
    (λ tactic rest.
    behind state accepted (IsExpansion tools state tactic) (λ expansion. Is (Ok (says_goals (with_lemmas state expansion.lemmas) expansion.proof)))
    (λ expansion same. said-grows state expansion.lemmas expansion.proof accepted same) rest) may

save-grows : (state : State) (name : List ℕ) (accepted : Accepted) → Ok accepted ≡ save_outcome state name → Grows state accepted
save-grows state name accepted same =
    let f = followed (top_outcome state.proof) (λ theorem. Ok (stores state name theorem)) accepted (sym same) in
    keeps state (stores state name f.value) accepted f.is refl

-- each command that is accepted keeps the theory, or adds a legal entry
command-grows : (tools : Tools) (state : State) (tree : CommandTree) (accepted : Accepted) → May tools state tree (Ok accepted) → Grows state accepted
command-grows tools state (var_command name tree) accepted may = var-grows state name tree accepted may
command-grows tools state (newtype_command name) accepted may = newtype-grows state name accepted may
command-grows tools state (newconst_command name tree) accepted may = newconst-grows state name tree accepted may
command-grows tools state (def_command name tree) accepted may = def-grows state name tree accepted may
command-grows tools state (thm_command name tree) accepted may =
    named-grows state name accepted (Then (IsTheoremAnswer tools state tree) (λ theorem. Is (Ok (stores state name theorem))))
    (λ rest.
    behind state accepted (IsTheoremAnswer tools state tree) (λ theorem. Is (Ok (stores state name theorem)))
    (λ theorem same. stored-grows state name theorem accepted same) rest) may
command-grows tools state (show_command name) accepted may = show-grows state name accepted may
command-grows tools state (goal_command tree) accepted may = goal-grows state tree accepted may
command-grows tools state (e_command tree) accepted may = refined-grows tools state tree accepted may
command-grows tools state b_command accepted may = proof-grows state (back_outcome state.proof) accepted (sym may)
command-grows tools state p_command accepted may = p-grows state accepted may
command-grows tools state (r_command digits) accepted may = proof-grows state (rotate_outcome state.proof (numeral_value digits)) accepted (sym may)
command-grows tools state (save_command name) accepted may =
    named-grows state name accepted (Plainly (Is (save_outcome state name))) (λ rest. save-grows state name accepted rest) may

-- ---- turns

abbrev TheoryGrows : State → State → Type 0
TheoryGrows old new = GrowsLegally old.library.theory new.library.theory

outcome-grows : (tools : Tools) (state : State) (text : Option (List ℕ)) (outcome : Outcome) → Allows tools state text outcome → TheoryGrows state (state_after state outcome)
outcome-grows tools state text outcome finds_no_memory = stays state.library.theory state.library.theory refl
outcome-grows tools state text outcome is_unfinished = stays state.library.theory state.library.theory refl
outcome-grows tools state text outcome (is_no_command none) = stays state.library.theory state.library.theory refl
outcome-grows tools state text outcome (is_refused tree spelled may) = stays state.library.theory state.library.theory refl
outcome-grows tools state text outcome (is_done {accepted} tree spelled may) = command-grows tools state tree accepted may

pub turn-grows : (tools : Tools) (state : State) (request : Request) (turn : Turn) → Takes tools state request turn → TheoryGrows state turn.after
turn-grows tools state request turn takes =
    subst (λ (t : Turn). TheoryGrows state t.after) (sym takes.is_turn) (outcome-grows tools state request.text takes.outcome takes.allowed)

pub session-grows : (tools : Tools) (state : State) (requests : List Request) (turns : List Turn) → Session tools state requests turns →
    IsEarlier state.library.theory (last_state state turns).library.theory
session-grows tools state requests turns session = (grows state requests turns session).earlier
  where
    grows : (state : State) (requests : List Request) (turns : List Turn) → Session tools state requests turns → TheoryGrows state (last_state state turns)
    grows state [] [] session = stays state.library.theory state.library.theory refl
    grows state [] (turn ∷ turns) session = absurd session
    grows state (request ∷ requests) [] session = absurd session
    grows state (request ∷ requests) (turn ∷ turns) session =
        grows_twice state.library.theory turn.after.library.theory (last_state turn.after turns).library.theory (turn-grows tools state request turn session.0)
        (grows turn.after requests turns session.1)

pub turns-legal : (tools : Tools) (state : State) (requests : List Request) (turns : List Turn) → Session tools state requests turns → IsLegal state.library.theory
    → (turn : Turn) → IsMember turn turns → IsLegal turn.after.library.theory
turns-legal tools state [] [] session legal turn member = absurd member
turns-legal tools state [] (first ∷ turns) session legal turn member = absurd session
turns-legal tools state (request ∷ requests) [] session legal turn member = absurd member
turns-legal tools state (request ∷ requests) (first ∷ turns) session legal turn (inl same) =
    subst (λ (t : Turn). IsLegal t.after.library.theory) (sym same) ((turn-grows tools state request first session.0).stays_legal legal)
turns-legal tools state (request ∷ requests) (first ∷ turns) session legal turn (inr later) =
    turns-legal tools first.after requests turns session.1 ((turn-grows tools state request first session.0).stays_legal legal) turn later

-- ---- what is printed

-- the request and the state of a turn
record IsTaken (tools : Tools) (turn : Turn) : Type 0 where
  state : State
  request : Request
  takes : Takes tools state request turn

taken : (tools : Tools) (state : State) (requests : List Request) (turns : List Turn) → Session tools state requests turns → (turn : Turn) → IsMember turn turns → IsTaken tools turn
taken tools state [] [] session turn member = absurd member
taken tools state [] (first ∷ turns) session turn member = absurd session
taken tools state (request ∷ requests) [] session turn member = absurd member
taken tools state (request ∷ requests) (first ∷ turns) session turn (inl same) = record {
  state = state;
  request = request;
  takes =
      subst (λ (t : Turn). Takes tools state request t) (sym same) session.0;
}
taken tools state (request ∷ requests) (first ∷ turns) session turn (inr later) = taken tools first.after requests turns session.1 turn later

if_some : {A : Type 0} (fact : A → Type 0) (found : Option A) (x : A) → found ≡ Some x → IfSome found fact → fact x
if_some fact None x same holds = cc
if_some fact (Some y) x same holds = (let one : y ≡ x = cc in subst fact one holds)

pub printed-proved : (tools : Tools) → SequentsReadBack → (state : State) (requests : List Request) (turns : List Turn) → Session tools state requests turns
    → (turn : Turn) (shown : NamedTheorem) → IsMember turn turns → theorem_in turn.reply ≡ Some shown → IsTold turn.after shown.theorem
printed-proved tools read_back state requests turns session turn shown member is =
    let t = taken tools state requests turns session turn member in
    let proved = if_some (λ (s : NamedTheorem). IsProved turn.after s.theorem) (theorem_in turn.reply) shown is t.takes.is_true.theorem in
    record { proved = proved; reads = read_back (scope_in turn.after) shown.theorem.hypotheses shown.theorem.conclusion proved.readable_hypotheses proved.readable_conclusion }

pub no_subgoals-proved : (tools : Tools) (state : State) (requests : List Request) (turns : List Turn) → Session tools state requests turns
    → (turn : Turn) → IsMember turn turns → goals_in turn.reply ≡ Some [] → IsFinished turn.after
no_subgoals-proved tools state requests turns session turn member is =
    let t = taken tools state requests turns session turn member in
    if_some (AreShown turn.after) (goals_in turn.reply) [] is t.takes.is_true.goals
