-- What a run writes is told piece by piece: each piece moves a place, and is answered over the place that it leads to.
use Rattle.std.proofs.Common.{◌≡◌, ℕ, ◌+◌, List, [], ◌∷◌, ◌++◌, map, Bool, true, false, refl, sym, ap, ◌∙◌, subst, append_assoc, append-nil, codes, Option, Some, None, Result, Ok, Err}
use Rattle.std.specs.Prelude.{not, is_some}
use Rattle.hol_model.specs.declared.fault.Fault.{Fault}
use Rattle.hol_model.specs.declared.fault.Fault.TheVariants.{BadName, NameTaken, NoGoal, UnknownName, Syntax}
use Rattle.hol_model.specs.Terms.Name.{is_identifier}
use Rattle.hol_model.specs.Terms.NamedTerm.{NamedTerm}
use Rattle.hol_model.specs.Terms.Nameless.{Nameless, image}
use Rattle.hol_model.specs.Logic.Theory.{Theory, Entry, definition, declaration_of_type, declaration_of_constant}
use Rattle.hol_model.specs.Logic.Legality.{own_type}
use Rattle.hol_model.specs.Logic.Derivable.{Derivable, IsMember}
use Rattle.hol_model.specs.Logic.Logic.{logical_definitions}
use Rattle.hol_model.specs.Models.Holds.{Holds}
use Rattle.hol_model.specs.Kernel.Outcome.{given}
use Rattle.hol_model.specs.Kernel.Theorem.{Theorem}
use Rattle.hol_model.specs.Kernel.Rules.{define_outcome, new_type_outcome, new_const_outcome}
use Rattle.hol_model.specs.Kernel.Answers.{Is, Unless, Then, goes_on, stops}
use Rattle.hol_model.specs.Derived.Prelude.{stored_theorems}
use Rattle.hol_model.specs.Texts.TypeGrammar.{TypeTree}
use Rattle.hol_model.specs.Texts.TermGrammar.{TermTree}
use Rattle.hol_model.specs.Texts.Lexing.{numeral_value, Lexes}
use Rattle.hol_model.specs.Texts.Texts.{text_of_goal}
use Rattle.hol_model.specs.Texts.Reading.{meaning, type_meaning, ◌>>=◌}
use Rattle.hol_model.specs.Texts.Scopes.{scope_over}
use Rattle.hol_model.specs.Goals.Goals.{Goal}
use Rattle.hol_model.specs.Goals.GoalStates.{Proof, goal_of, open_goals, set_outcome, back_outcome, rotate_outcome, top_outcome}
use Rattle.hol_model_sessions.specs.Script.{Request, requested, request_and, is_blank_text, line_feeds, leading_line_feeds}
use Rattle.hol_model_sessions.specs.Sessions.{with_variable, over_theory, is_theorem_name, definition_name, def_outcome, with_definition, newconst_outcome}
use Rattle.hol_model_sessions.specs.TacticGrammar.{Tactic}
use Rattle.hol_model_sessions.specs.CommandGrammar.{CommandTree, var_command, newtype_command, newconst_command, def_command, thm_command, show_command, goal_command, e_command, b_command}
use Rattle.hol_model_sessions.specs.CommandGrammar.{p_command, r_command, save_command, command_tokens, SpellsCommand}
use Rattle.hol_model_sessions.specs.Replies.{nothing, theorem_line, goal_lines, Refusal, refusal_of, Reply, NamedTheorem, theorem_in, text_of_theorem, count_text, goals_text, text_of_refusal}
use Rattle.hol_model_sessions.specs.Replies.{reply_text}
use Rattle.hol_model_sessions.specs.ScriptSessions.{State, start, scope_in, with_library, with_goal, with_lemmas, Tools, Accepted, Outcome, Plainly, turn_of, state_after, says_nothing}
use Rattle.hol_model_sessions.specs.ScriptSessions.{says_theorem, stores, says_goals, var_outcome, newtype_outcome, newconst_accepted, def_accepted, show_outcome, goal_outcome, p_outcome}
use Rattle.hol_model_sessions.specs.ScriptSessions.{save_outcome, IsTheoremAnswer, NamesTheorem, IsFinished, IsRefined, May, Allows, finds_no_memory, is_unfinished, is_no_command, is_refused}
use Rattle.hol_model_sessions.specs.ScriptSessions.{is_done, AreReadableGoals, IsTrueReply, Turn, Takes, Session, text_of_turn, text_of_turns}
use Rattle.hol_model_sessions.specs.Headline.{SetsGoal, Defines, DeclaresConstant, Declares, text_of_lines}
use Rattle.hol_model_sessions.specs.Walking.{Place, first_place, Moves, stays, declares, sets, AreReadable, goal_line, IsSettled, IsAnswer, silence, theorem as tells_theorem}
use Rattle.hol_model_sessions.specs.Walking.{refusal as tells_refusal, open_goals as leaves_open, no_goals, Answered, EndsWith, Walks}
use Rattle.hol_laws_goals.proofs.Passing.{followed}
use Rattle.hol_laws_sessions.specs.HeadlineLaws.{TextsArePrinted, IsWalkedFrom, RunsAreWalked}
use Rattle.hol_laws_sessions.proofs.Growth.{type-added, const-added, definition-accepted}
use Rattle.hol_laws_sessions.proofs.StoredTheorems.{turn-follows}
use Rattle.hol_laws_sessions.proofs.SetGoals.{set-goal, IsOfGoal, back-goal, rotate-goal, expansion-goal, nothing as none_left}
use Rattle.hol_laws_sessions.proofs.ToldTexts.{formula_over, formulas_over, theorem-told, refusal-same}
use Rattle.hol_laws_sessions.proofs.ToldRuns.{lexed, unstored, with_theorems-theory}

-- ---- the place of a state

-- the goal that was set last is that of the proof under way
abbrev Agrees : Option NamedTerm → Option Proof → Type 0
Agrees None None = Unit {0}
Agrees None (Some proof) = ⊥
Agrees (Some goal) None = ⊥
Agrees (Some goal) (Some proof) = proof.goal ≡ goal_of goal

-- where a script has come to in a state
abbrev here : State → Option NamedTerm → Place
here state goal = record { theory = state.library.theory; goal = goal }

-- the proof is of the same goal
agrees-kept : (goal : Option NamedTerm) (found : Option Proof) (proof : Proof) → Agrees goal found → IsOfGoal found proof → Agrees goal (Some proof)
agrees-kept goal None proof agrees kept = absurd kept
agrees-kept None (Some old) proof agrees kept = absurd agrees
agrees-kept (Some goal) (Some old) proof agrees kept = kept ∙ agrees

-- ---- accepted commands

module _ (text : List ℕ) (goal : Option NamedTerm) where
  -- the text moves the place of a state to one of the state that it leaves
  record Moved (state after : State) : Type 0 where
    now : Option NamedTerm
    moves : Moves (here state goal) text (here after now)
    agrees : Agrees now after.proof

  -- a state with the theory and the goal as they were
  stood : (state : State) → Agrees goal state.proof → Moved state state
  stood state agrees = record { now = goal; moves = stays; agrees = agrees }

  -- a state with one entry more
  entry-moved : (state after : State) (entry : Entry) → Declares state.library.theory text entry → after.library.theory ≡ entry ∷ state.library.theory → after.proof ≡ state.proof
      → Agrees goal state.proof → Moved state after
  entry-moved state after entry declared grown same agrees = record {
    now = goal;
    moves = subst (λ (theory : Theory). Moves (here state goal) text (record { theory = theory; goal = goal })) (sym grown) (declares entry declared);
    agrees = subst (λ (found : Option Proof). Agrees goal found) (sym same) agrees;
  }

  said-moved : {E : Type 0} (state : State) (said accepted : Accepted) → ◌≡◌ {A = Result Accepted E} (Ok said) (Ok accepted) → Moved state said.after → Moved state accepted.after
  said-moved state said accepted same moved = (let one : said ≡ accepted = cc in subst (λ (a : Accepted). Moved state a.after) one moved)

  var-moved : (state : State) (name : List ℕ) (tree : TypeTree) (accepted : Accepted) → Agrees goal state.proof → Ok accepted ≡ var_outcome state name tree → Moved state accepted.after
  var-moved state name tree accepted agrees same =
      let f = followed (type_meaning (scope_in state) tree) (λ ty. Ok (says_nothing (with_library state (with_variable state.library name ty)))) accepted (sym same) in
      said-moved state (says_nothing (with_library state (with_variable state.library name f.value))) accepted f.is (record { now = goal; moves = stays; agrees = agrees })

  newtype-moved : (state : State) (name : List ℕ) (accepted : Accepted) → Agrees goal state.proof → SpellsCommand text (newtype_command name) → Ok accepted ≡ newtype_outcome state name
      → Moved state accepted.after
  newtype-moved state name accepted agrees spelled same =
      let f = followed (new_type_outcome state.library.theory name) (λ theory. Ok (says_nothing (with_library state (over_theory state.library theory)))) accepted (sym same) in
      said-moved state (says_nothing (with_library state (over_theory state.library f.value))) accepted f.is
      (entry-moved state (with_library state (over_theory state.library f.value)) (declaration_of_type name) (lexed text (newtype_command name) spelled)
      (type-added state.library.theory f.value name f.is_read) refl agrees)

  newconst-moved : (state : State) (name : List ℕ) (tree : TypeTree) (accepted : Accepted) → Agrees goal state.proof → SpellsCommand text (newconst_command name tree)
      → Ok accepted ≡ newconst_accepted state name tree → Moved state accepted.after
  newconst-moved state name tree accepted agrees spelled same =
      let f = followed (newconst_outcome state.library name tree) (λ theory. Ok (says_nothing (with_library state (over_theory state.library theory)))) accepted (sym same) in
      let g = followed (type_meaning (scope_in state) tree) (λ ty. new_const_outcome state.library.theory name ty) f.value f.is_read in
      let declared : DeclaresConstant state.library.theory text name g.value = record {
        tree = tree;
        variables = state.library.variables;
        within = spelled.read.grammatical;
        spelled = lexed text (newconst_command name tree) spelled;
        meant = g.is_read;
      } in
      said-moved state (says_nothing (with_library state (over_theory state.library f.value))) accepted f.is
      (entry-moved state (with_library state (over_theory state.library f.value)) (declaration_of_constant name g.value) declared
      (const-added state.library.theory f.value name g.value g.is) refl agrees)

  def-moved : (state : State) (name : List ℕ) (tree : TermTree) (accepted : Accepted) → Agrees goal state.proof → SpellsCommand text (def_command name tree)
      → Ok accepted ≡ def_accepted state name tree → Moved state accepted.after
  def-moved state name tree accepted agrees spelled same =
      let f = followed (def_outcome state.library name tree) (λ theorem. Ok (says_theorem (definition_name name) theorem (with_library state (with_definition state.library name theorem))))
      accepted (sym same) in
      let g = followed (meaning (scope_in state) [] tree) (λ term. define_outcome state.library.theory name term) f.value f.is_read in
      let defines : Defines state.library.theory text name (own_type g.value) (image g.value) = record {
        tree = tree;
        variables = state.library.variables;
        term = g.value;
        quotable = spelled.read.grammatical;
        spelled = lexed text (def_command name tree) spelled;
        meant = g.is_read;
        typed = refl;
        is_body = refl;
      } in
      said-moved state (says_theorem (definition_name name) f.value (with_library state (with_definition state.library name f.value))) accepted f.is
      (entry-moved state (with_library state (with_definition state.library name f.value)) (definition name (own_type g.value) (image g.value)) defines
      (definition-accepted state.library.theory name g.value f.value g.is) refl agrees)

  show-moved : (state : State) (name : List ℕ) (accepted : Accepted) → Agrees goal state.proof → Ok accepted ≡ show_outcome state name → Moved state accepted.after
  show-moved state name accepted agrees same = go (state.library.theorems name) (sym same)
    where
      go : (found : Option Theorem) → given found UnknownName (λ theorem. Ok (says_theorem name theorem state)) ≡ Ok accepted → Moved state accepted.after
      go None same = cc
      go (Some theorem) same = said-moved state (says_theorem name theorem state) accepted same (stood state agrees)

  -- a theorem that is stored
  stored-moved : {E : Type 0} (state : State) (name : List ℕ) (theorem : Theorem) (accepted : Accepted) → Agrees goal state.proof
      → ◌≡◌ {A = Result Accepted E} (Ok (stores state name theorem)) (Ok accepted) → Moved state accepted.after
  stored-moved state name theorem accepted agrees same =
      said-moved state (stores state name theorem) accepted same (record { now = goal; moves = stays; agrees = agrees })

  -- the goal is what the command's term is read as
  goal-moved : (state : State) (tree : TermTree) (accepted : Accepted) → SpellsCommand text (goal_command tree) → Ok accepted ≡ goal_outcome state tree → Moved state accepted.after
  goal-moved state tree accepted spelled same =
      let theory : Theory = state.library.theory in
      let f = followed (meaning (scope_in state) [] tree >>= λ term. set_outcome theory term) (λ proof. Ok (record { message = goal_lines (open_goals proof.stage); after = with_goal state proof }))
      accepted (sym same) in
      let g = followed (meaning (scope_in state) [] tree) (λ term. set_outcome theory term) f.value f.is_read in
      let set : SetsGoal theory text g.value = record {
        tree = tree;
        variables = state.library.variables;
        quotable = spelled.read.grammatical;
        spelled = lexed text (goal_command tree) spelled;
        meant = g.is_read;
      } in
      said-moved state (record { message = goal_lines (open_goals f.value.stage); after = with_goal state f.value }) accepted f.is
      (record { now = Some g.value; moves = sets g.value set; agrees = set-goal theory g.value f.value g.is })

  -- the proof of the same goal
  kept-moved : (state : State) (lemmas : List Theorem) (proof : Proof) → Agrees goal state.proof → IsOfGoal state.proof proof
      → Moved state (says_goals (with_lemmas state lemmas) proof).after
  kept-moved state lemmas proof agrees kept = record { now = goal; moves = stays; agrees = agrees-kept goal state.proof proof agrees kept }

  proof-moved : (state : State) (answer : Result Proof Fault) (accepted : Accepted) → Agrees goal state.proof → ((proof : Proof) → answer ≡ Ok proof → IsOfGoal state.proof proof)
      → (answer >>= λ proof. Ok (says_goals state proof)) ≡ Ok accepted → Moved state accepted.after
  proof-moved state answer accepted agrees kept same =
      let f = followed answer (λ proof. Ok (says_goals state proof)) accepted same in
      said-moved state (says_goals state f.value) accepted f.is (kept-moved state state.lemmas f.value agrees (kept f.value f.is_read))

  p-moved : (state : State) (accepted : Accepted) → Agrees goal state.proof → Ok accepted ≡ p_outcome state → Moved state accepted.after
  p-moved state accepted agrees same = go state.proof refl (sym same)
    where
      go : (found : Option Proof) → state.proof ≡ found → given found NoGoal (λ proof. Ok (says_goals state proof)) ≡ Ok accepted → Moved state accepted.after
      go None is same = cc
      go (Some proof) is same =
          said-moved state (says_goals state proof) accepted same
          (kept-moved state state.lemmas proof agrees (subst (λ (found : Option Proof). IsOfGoal found proof) (sym is) refl))

  refined-moved : (tools : Tools) (state : State) (tree : Tactic TermTree) (accepted : Accepted) → Agrees goal state.proof → IsRefined tools state tree (Ok accepted) → Moved state accepted.after
  refined-moved tools state tree accepted agrees (stops fault is same) = cc
  refined-moved tools state tree accepted agrees (goes_on tactic is_read (stops fault is same)) = cc
  refined-moved tools state tree accepted agrees (goes_on tactic is_read (goes_on expansion is same)) =
      said-moved state (says_goals (with_lemmas state expansion.lemmas) expansion.proof) accepted (sym same)
      (kept-moved state expansion.lemmas expansion.proof agrees (expansion-goal tools state tactic expansion is))

  save-moved : (state : State) (name : List ℕ) (accepted : Accepted) → Agrees goal state.proof → Ok accepted ≡ save_outcome state name → Moved state accepted.after
  save-moved state name accepted agrees same =
      let f = followed (top_outcome state.proof) (λ theorem. Ok (stores state name theorem)) accepted (sym same) in
      stored-moved state name f.value accepted agrees f.is

  thm-moved : {E : Type 0} (state : State) (name : List ℕ) (accepted : Accepted) (first : Result Theorem E → Type 0) → Agrees goal state.proof
      → Then first (λ theorem. Is (Ok (stores state name theorem))) (Ok accepted) → Moved state accepted.after
  thm-moved state name accepted first agrees (stops fault is same) = cc
  thm-moved state name accepted first agrees (goes_on theorem is same) = stored-moved state name theorem accepted agrees (sym same)

  after-test : {E : Type 0} (state : State) (accepted : Accepted) (test : Bool) (fault : E) (next : Result Accepted E → Type 0) → (next (Ok accepted) → Moved state accepted.after)
      → Unless test fault next (Ok accepted) → Moved state accepted.after
  after-test state accepted true fault next go may = go may
  after-test state accepted false fault next go may = cc

  named-moved : (state : State) (name : List ℕ) (accepted : Accepted) (next : Outcome → Type 0) → (next (Ok accepted) → Moved state accepted.after) → NamesTheorem state name next (Ok accepted)
      → Moved state accepted.after
  named-moved state name accepted next go may =
      after-test state accepted (is_theorem_name name) (refusal_of BadName) (Unless (not (is_some (state.library.theorems name))) (refusal_of NameTaken) next)
      (λ rest. after-test state accepted (not (is_some (state.library.theorems name))) (refusal_of NameTaken) next go rest) may

  command-moved : (tools : Tools) (state : State) (tree : CommandTree) (accepted : Accepted) → Agrees goal state.proof → SpellsCommand text tree → May tools state tree (Ok accepted)
      → Moved state accepted.after
  command-moved tools state (var_command name tree) accepted agrees spelled may = var-moved state name tree accepted agrees may
  command-moved tools state (newtype_command name) accepted agrees spelled may = newtype-moved state name accepted agrees spelled may
  command-moved tools state (newconst_command name tree) accepted agrees spelled may = newconst-moved state name tree accepted agrees spelled may
  command-moved tools state (def_command name tree) accepted agrees spelled may = def-moved state name tree accepted agrees spelled may
  command-moved tools state (thm_command name tree) accepted agrees spelled may =
      named-moved state name accepted (Then (IsTheoremAnswer tools state tree) (λ theorem. Is (Ok (stores state name theorem))))
      (λ rest. thm-moved state name accepted (IsTheoremAnswer tools state tree) agrees rest) may
  command-moved tools state (show_command name) accepted agrees spelled may = show-moved state name accepted agrees may
  command-moved tools state (goal_command tree) accepted agrees spelled may = goal-moved state tree accepted spelled may
  command-moved tools state (e_command tree) accepted agrees spelled may = refined-moved tools state tree accepted agrees may
  command-moved tools state b_command accepted agrees spelled may =
      proof-moved state (back_outcome state.proof) accepted agrees (λ proof is. back-goal state.proof proof is) (sym may)
  command-moved tools state p_command accepted agrees spelled may = p-moved state accepted agrees may
  command-moved tools state (r_command digits) accepted agrees spelled may =
      proof-moved state (rotate_outcome state.proof (numeral_value digits)) accepted agrees (λ proof is. rotate-goal state.proof (numeral_value digits) proof is) (sym may)
  command-moved tools state (save_command name) accepted agrees spelled may =
      named-moved state name accepted (Plainly (Is (save_outcome state name))) (λ rest. save-moved state name accepted agrees rest) may

  -- ---- turns

  outcome-moved : (tools : Tools) (state : State) (outcome : Outcome) → Agrees goal state.proof → Allows tools state (Some text) outcome → Moved state (state_after state outcome)
  outcome-moved tools state outcome agrees finds_no_memory = stood state agrees
  outcome-moved tools state outcome agrees (is_no_command none) = stood state agrees
  outcome-moved tools state outcome agrees (is_refused tree spelled may) = stood state agrees
  outcome-moved tools state outcome agrees (is_done {accepted} tree spelled may) = command-moved tools state tree accepted agrees spelled may

  turn-moved : (tools : Tools) (state : State) (line : ℕ) (turn : Turn) → Agrees goal state.proof → Takes tools state (record { line = line; text = Some text }) turn → Moved state turn.after
  turn-moved tools state line turn agrees takes =
      subst (λ (t : Turn). Moved state t.after) (sym takes.is_turn) (outcome-moved tools state takes.outcome agrees takes.allowed)

-- ---- answers

lines-append : (first others : List (List ℕ)) → text_of_lines (first ++ others) ≡ text_of_lines first ++ text_of_lines others
lines-append [] others = refl
lines-append (line ∷ first) others = ap (λ (behind : List ℕ). line ++ behind) (lines-append first others) ∙ sym (append_assoc line (text_of_lines first) (text_of_lines others))

-- where no goal is open, the goal that was set last follows and holds
settled : (state : State) (goal : Option NamedTerm) → IsFinished state → Agrees goal state.proof → IsSettled (here state goal)
settled state goal finished agrees = go goal (subst (λ (found : Option Proof). Agrees goal found) finished.is_here agrees)
  where
    go : (set : Option NamedTerm) → Agrees set (Some finished.proof) → IsSettled (here state set)
    go None agrees = absurd agrees
    go (Some term) agrees =
        let theory : Theory = state.library.theory in
        let none : map image finished.theorem.hypotheses ≡ [] =
        none_left (map image finished.theorem.hypotheses)
        (λ other member. subst (λ (g : Goal). IsMember other (map image g.assumptions)) agrees (finished.achieves.assumed other member)) in
        let same : image finished.theorem.conclusion ≡ image term = finished.achieves.same_conclusion ∙ ap (λ (g : Goal). image g.target) agrees in
        record {
          goal = term;
          is_goal = refl;
          legal = finished.is_proved.legal;
          derivable = subst (λ (h : List Nameless). Derivable theory h (image term)) none
              (subst (λ (c : Nameless). Derivable theory (map image finished.theorem.hypotheses) c) same finished.is_proved.derivable);
          holds = subst (λ (h : List Nameless). Holds theory h (image term)) none
              (subst (λ (c : Nameless). Holds theory (map image finished.theorem.hypotheses) c) same finished.is_proved.holds);
        }

module _ (printed : TextsArePrinted) where
  goals-readable : (state : State) (goals : List Goal) → AreReadableGoals state goals → AreReadable state.library.theory goals
  goals-readable state [] are = tt
  goals-readable state (goal ∷ goals) are = (
    record {
      assumptions = formulas_over state goal.assumptions are.0.readable_assumptions;
      target = formula_over state goal.target are.0.readable_target;
    },
    goals-readable state goals are.1,
  )

  -- goals that are open, a line for each
  goals-spelled : (state : State) (goals : List Goal) → text_of_lines (map (goal_line state.library.theory) goals) ≡ goals_text (scope_in state) goals
  goals-spelled state [] = refl
  goals-spelled state (goal ∷ goals) =
      let one : text_of_goal (scope_over state.library.theory) goal.assumptions goal.target ≡ text_of_goal (scope_in state) goal.assumptions goal.target =
      sym (printed.goals_ignore_variables (scope_in state) (scope_over state.library.theory) refl goal.assumptions goal.target) in
      ap (λ (behind : List ℕ). goal_line state.library.theory goal ++ behind) (goals-spelled state goals)
      ∙ ap (λ (text : List ℕ). (text ++ codes "\n") ++ goals_text (scope_in state) goals) one

  refusal-spelled : (state : State) (line : ℕ) (refused : Refusal) → text_of_refusal line (scope_over state.library.theory) refused ≡ text_of_refusal line (scope_in state) refused
  refusal-spelled state line refused = sym (refusal-same printed (scope_in state) (scope_over state.library.theory) refl line refused)

  -- what a reply is, in lines
  record AnswersIn (state : State) (goal : Option NamedTerm) (line : ℕ) (text : List ℕ) : Type 0 where
    lines : List (List ℕ)
    answer : IsAnswer line (here state goal) lines
    whole : text_of_lines lines ≡ text

  reply-answers : (state : State) (goal : Option NamedTerm) (line : ℕ) (reply : Reply) → Agrees goal state.proof
      → ((shown : NamedTheorem) → theorem_in reply ≡ Some shown → is_identifier shown.name ≡ true) → IsTrueReply state reply → AnswersIn state goal line (reply_text line (scope_in state) reply)
  reply-answers state goal line (Ok nothing) agrees named true' = record { lines = []; answer = silence; whole = refl }
  reply-answers state goal line (Ok (theorem_line name proved)) agrees named true' =
      let shown : NamedTheorem = record { name = name; theorem = proved } in
      record {
        lines = text_of_theorem (scope_in state) shown ∷ [];
        answer = tells_theorem (theorem-told printed state shown (named shown refl) true'.theorem);
        whole = refl;
      }
  reply-answers state goal line (Ok (goal_lines [])) agrees named true' = record {
    lines = count_text [] ∷ [];
    answer = no_goals (settled state goal true'.goals agrees);
    whole = refl;
  }
  reply-answers state goal line (Ok (goal_lines (first ∷ others))) agrees named true' = record {
    lines = count_text (first ∷ others) ∷ map (goal_line state.library.theory) (first ∷ others);
    answer = leaves_open first others (goals-readable state (first ∷ others) true'.goals);
    whole = ap (λ (behind : List ℕ). count_text (first ∷ others) ++ behind) (goals-spelled state (first ∷ others));
  }
  reply-answers state goal line (Err refused) agrees named true' = record {
    lines = text_of_refusal line (scope_over state.library.theory) refused ∷ [];
    answer = tells_refusal refused (formulas_over state (map (λ value. value.0) refused.row) true'.row);
    whole = append-nil (text_of_refusal line (scope_over state.library.theory) refused) ∙ refusal-spelled state line refused;
  }

  -- ---- pieces

  -- a piece, and what follows it
  record PassesPiece (test : Bool) (number : ℕ) (place : Place) (piece : List ℕ) (Behind : Place → List (List ℕ) → Type 0) (text : List ℕ) : Type 0 where
    now : Place
    first : List (List ℕ)
    later : List (List ℕ)
    answered : Answered test number place piece now first
    behind : Behind now later
    whole : text_of_lines (first ++ later) ≡ text

  -- what is left when there is no piece more
  record EndsIn (test : Bool) (number : ℕ) (place : Place) (text : List ℕ) : Type 0 where
    lines : List (List ℕ)
    ends : EndsWith test number place lines
    whole : text_of_lines lines ≡ text

  module _ (tools : Tools) where
    last-ends : (test : Bool) (number : ℕ) (state : State) (goal : Option NamedTerm) (turns : List Turn)
        → Session tools state (request_and test (record { line = number; text = None }) []) turns → EndsIn test number (here state goal) (text_of_turns turns)
    last-ends true number state goal [] session = record { lines = []; ends = refl; whole = refl }
    last-ends true number state goal (turn ∷ turns) session = absurd session
    last-ends false number state goal [] session = absurd session
    last-ends false number state goal (turn ∷ []) session =
        let refused = refusal_of Syntax in
        let is : turn ≡ turn_of number state (Err refused) = unfinished-turn session.0.outcome session.0.is_turn session.0.allowed in
        record {
          lines = text_of_refusal number (scope_over state.library.theory) refused ∷ [];
          ends = refl;
          whole = ap (λ (text : List ℕ). text ++ []) (refusal-spelled state number refused ∙ ap text_of_turn (sym is));
        }
      where
        unfinished-turn : (outcome : Outcome) → turn ≡ turn_of number state outcome → Allows tools state None outcome → turn ≡ turn_of number state (Err (refusal_of Syntax))
        unfinished-turn outcome is is_unfinished = is
    last-ends false number state goal (turn ∷ other ∷ turns) session = absurd session.1

    piece-passes : (test : Bool) (number : ℕ) (piece : List ℕ) (requests : List Request) (Behind : Place → List (List ℕ) → Type 0) (state : State) (goal : Option NamedTerm) (turns : List Turn)
        → Agrees goal state.proof → Session tools state (request_and test (record { line = number; text = Some piece }) requests) turns
        → ((after : State) (now : Option NamedTerm) (more : List Turn) → Agrees now after.proof → Session tools after requests more
        → (lines : List (List ℕ)) × Behind (here after now) lines × (text_of_lines lines ≡ text_of_turns more))
        → PassesPiece test number (here state goal) piece Behind (text_of_turns turns)
    piece-passes true number piece requests Behind state goal turns agrees session go =
        let others = go state goal turns agrees session in
        record { now = here state goal; first = []; later = others.0; answered = (refl, refl); behind = others.1; whole = others.2 }
    piece-passes false number piece requests Behind state goal [] agrees session go = absurd session
    piece-passes false number piece requests Behind state goal (turn ∷ turns) agrees session go =
        let moved = turn-moved piece goal tools state number turn agrees session.0 in
        let follows = turn-follows tools state (record { line = number; text = Some piece }) turn session.0 in
        let answers = reply-answers turn.after moved.now number turn.reply moved.agrees follows.named session.0.is_true in
        let others = go turn.after moved.now turns moved.agrees session.1 in
        let line_is : turn.line ≡ number = ap (λ (t : Turn). t.line) session.0.is_turn in
        record {
          now = here turn.after moved.now;
          first = answers.lines;
          later = others.0;
          answered = (moved.moves, answers.answer);
          behind = others.1;
          whole = lines-append answers.lines others.0
              ∙ ap (λ (text : List ℕ). text ++ text_of_lines others.0) (answers.whole ∙ ap (λ (n : ℕ). reply_text n (scope_in turn.after) turn.reply) (sym line_is))
              ∙ ap (λ (behind : List ℕ). text_of_turn turn ++ behind) others.2;
        }

    session-walks : (line : ℕ) (pieces : List (List ℕ)) (last : List ℕ) (state : State) (goal : Option NamedTerm) (turns : List Turn) → Agrees goal state.proof
        → Session tools state (requested line pieces last) turns → IsWalkedFrom line (here state goal) pieces last (text_of_turns turns)
    session-walks line [] last state goal turns agrees session =
        let ended = last-ends (is_blank_text last) (line + leading_line_feeds last) state goal turns session in
        record { lines = ended.lines; walks = ended.ends; whole = ended.whole }
    session-walks line (piece ∷ pieces) last state goal turns agrees session =
        let next : ℕ = line + line_feeds piece in
        let passed = piece-passes (is_blank_text piece) (line + leading_line_feeds piece) piece (requested next pieces last) (λ now lines. Walks next now pieces last lines) state goal turns
        agrees session
        (λ after now more agrees' session'. (let others = session-walks next pieces last after now more agrees' session' in (others.lines, others.walks, others.whole))) in
        record {
          lines = passed.first ++ passed.later;
          walks = (passed.now, passed.first, passed.later, refl, passed.answered, passed.behind);
          whole = passed.whole;
        }

-- ---- runs

pub runs-walked : (tools : Tools) → RunsAreWalked tools
runs-walked tools printed script turns is_run =
    subst (λ (theory : Theory). IsWalkedFrom 1 (record { theory = theory; goal = None }) is_run.pieces is_run.last (text_of_turns turns)) (with_theorems-theory unstored stored_theorems)
    (session-walks printed tools 1 is_run.pieces is_run.last start None turns tt is_run.session)
