-- What a run writes is told by the pieces of its script.
use Rattle.std.proofs.Common.{◌≡◌, ℕ, ◌+◌, List, [], ◌∷◌, ◌++◌, Bool, true, false, inl, inr, refl, sym, ap, ◌∙◌, subst, append_assoc, append-nil, codes, Option, Some, None, Result, Ok, Err}
use Rattle.std.specs.Prelude.{not, is_some}
use Rattle.hol_model.specs.declared.fault.Fault.{Fault}
use Rattle.hol_model.specs.declared.fault.Fault.TheVariants.{BadName, NameTaken, NoGoal, UnknownName}
use Rattle.hol_model.specs.Terms.Name.{is_identifier}
use Rattle.hol_model.specs.Terms.Nameless.{image}
use Rattle.hol_model.specs.Logic.Theory.{Theory, Entry, definition, declaration_of_type, declaration_of_constant}
use Rattle.hol_model.specs.Logic.Legality.{own_type}
use Rattle.hol_model.specs.Logic.Derivable.{IsMember}
use Rattle.hol_model.specs.Logic.Logic.{logical_definitions}
use Rattle.hol_model.specs.Kernel.Outcome.{given}
use Rattle.hol_model.specs.Kernel.Theorem.{Theorem}
use Rattle.hol_model.specs.Kernel.Rules.{define_outcome, new_type_outcome, new_const_outcome}
use Rattle.hol_model.specs.Derived.Prelude.{stored_theorems}
use Rattle.hol_model.specs.Texts.TypeGrammar.{TypeTree}
use Rattle.hol_model.specs.Texts.TermGrammar.{TermTree}
use Rattle.hol_model.specs.Texts.Lexing.{numeral_value, Lexes}
use Rattle.hol_model.specs.Texts.Texts.{text_of_goal}
use Rattle.hol_model.specs.Texts.Reading.{meaning, type_meaning, ◌>>=◌}
use Rattle.hol_model_sessions.specs.Script.{Request, requested, request_and, is_blank_text, line_feeds, leading_line_feeds}
use Rattle.hol_model_sessions.specs.Sessions.{with_variable, over_theory, is_theorem_name, definition_name, def_outcome, with_definition, newconst_outcome, with_theorem, with_theorems}
use Rattle.hol_model_sessions.specs.Sessions.{State as Library}
use Rattle.hol_model_sessions.specs.TacticGrammar.{Tactic}
use Rattle.hol_model_sessions.specs.CommandGrammar.{CommandTree, var_command, newtype_command, newconst_command, def_command, thm_command, show_command, goal_command, e_command, b_command}
use Rattle.hol_model_sessions.specs.CommandGrammar.{p_command, r_command, save_command, command_tokens, SpellsCommand}
use Rattle.hol_model.specs.Kernel.Answers.{Is, Unless, Then, goes_on, stops}
use Rattle.hol_model.specs.Goals.Goals.{Goal}
use Rattle.hol_model.specs.Goals.GoalStates.{Proof, open_goals, set_outcome, back_outcome, rotate_outcome, top_outcome}
use Rattle.hol_model_sessions.specs.Replies.{nothing, theorem_line, goal_lines, refusal_of, Reply, NamedTheorem, theorem_in, text_of_theorem, count_text, goals_text, text_of_refusal, reply_text}
use Rattle.hol_model_sessions.specs.ScriptSessions.{State, start, scope_in, with_library, with_goal, with_lemmas, Tools, Accepted, Outcome, Plainly, state_after, says_nothing, says_theorem}
use Rattle.hol_model_sessions.specs.ScriptSessions.{stores, says_goals, var_outcome, newtype_outcome, newconst_accepted, def_accepted, show_outcome, goal_outcome, p_outcome, save_outcome}
use Rattle.hol_model_sessions.specs.ScriptSessions.{IsTheoremAnswer, NamesTheorem, IsRefined, May, Allows, finds_no_memory, is_unfinished, is_no_command, is_refused, is_done, AreReadableGoals}
use Rattle.hol_model_sessions.specs.ScriptSessions.{IsTrueReply, Turn, Takes, Session, text_of_turns}
use Rattle.hol_model_sessions.specs.Headline.{Defines, DeclaresConstant, Declares, AreDeclared, IsGrownBy, of_theorem, of_refusal, of_count, of_goal, of_proof, AreTold}
use Rattle.hol_laws_sessions.specs.HeadlineLaws.{TextsArePrinted, IsToldFrom, RunsAreTold}
use Rattle.hol_laws_goals.proofs.Passing.{followed}
use Rattle.hol_laws_sessions.proofs.Growth.{type-added, const-added, definition-accepted}
use Rattle.hol_laws_sessions.proofs.StoredTheorems.{turn-follows}
use Rattle.hol_model.proofs.Logic.Earlier.{earlier-same}
use Rattle.hol_laws_sessions.proofs.SetGoals.{set-goal, IsOfGoal, back-goal, rotate-goal, expansion-goal, HasSetGoal, HasSetGoalIfAny, set-kept, set-later, finished-told}
use Rattle.hol_laws_sessions.proofs.ToldTexts.{theorem-told, goal-told, refusal-told}

-- the tokens of a command's text
pub lexed : (text : List ℕ) (tree : CommandTree) → SpellsCommand text tree → Lexes text (command_tokens tree)
lexed text tree spelled = subst (λ tokens. Lexes text tokens) spelled.read.spelled spelled.lexed

-- ---- theories grow by what the texts declare

module _ (texts : List (List ℕ)) where
  pub same-grown : (theory : Theory) → IsGrownBy texts theory theory
  same-grown theory = record { added = []; is_added = refl; declared = tt }

  pub one-grown : (text : List ℕ) (entry : Entry) (before now : Theory) → IsMember text texts → Declares before text entry → now ≡ entry ∷ before → IsGrownBy texts before now
  one-grown text entry before now there declares is = record { added = entry ∷ []; is_added = is; declared = ((text, there, declares), tt) }

  more-declared : (entries before : List Entry) (theory middle : Theory) → middle ≡ before ++ theory → AreDeclared texts entries middle → AreDeclared texts before theory
      → AreDeclared texts (entries ++ before) theory
  more-declared [] before theory middle is entries_are before_are = before_are
  more-declared (entry ∷ entries) before theory middle is entries_are before_are =
      let whole : entries ++ middle ≡ (entries ++ before) ++ theory = ap (λ (l : Theory). entries ++ l) is ∙ sym (append_assoc entries before theory) in
      let one = entries_are.0 in
      ((one.0, one.1, subst (λ (t : Theory). Declares t one.0 entry) whole one.2), more-declared entries before theory middle is entries_are.1 before_are)

  pub twice-grown : (first second third : Theory) → IsGrownBy texts first second → IsGrownBy texts second third → IsGrownBy texts first third
  twice-grown first second third one two = record {
    added = two.added ++ one.added;
    is_added = two.is_added ∙ ap (λ (l : Theory). two.added ++ l) one.is_added ∙ sym (append_assoc two.added one.added first);
    declared = more-declared two.added one.added first second one.is_added two.declared one.declared;
  }

  -- ---- accepted commands

  -- the theory grows by what the texts declare, and the goal under way is one that they set
  record Advances (state after : State) : Type 0 where
    grown : IsGrownBy texts state.library.theory after.library.theory
    sets : HasSetGoalIfAny texts state.library.theory state.proof → HasSetGoalIfAny texts after.library.theory after.proof

  -- a state with the theory and the goal as they were
  stands : (state : State) → Advances state state
  stands state = record { grown = same-grown state.library.theory; sets = λ set. set }

  -- a state with one entry more
  entry-advances : (state after : State) → IsGrownBy texts state.library.theory after.library.theory → after.proof ≡ state.proof → Advances state after
  entry-advances state after grown same = record {
    grown = grown;
    sets = λ set. set-later texts state.library.theory after.library.theory (record { added = grown.added; is_added = grown.is_added }) after.proof
        (subst (λ (found : Option Proof). HasSetGoalIfAny texts state.library.theory found) (sym same) set);
  }

  advances-said : {E : Type 0} (state : State) (said accepted : Accepted) → ◌≡◌ {A = Result Accepted E} (Ok said) (Ok accepted) → Advances state said.after → Advances state accepted.after
  advances-said state said accepted same advances = (let one : said ≡ accepted = cc in subst (λ (a : Accepted). Advances state a.after) one advances)

  var-advances : (state : State) (name : List ℕ) (tree : TypeTree) (accepted : Accepted) → Ok accepted ≡ var_outcome state name tree → Advances state accepted.after
  var-advances state name tree accepted same =
      let f = followed (type_meaning (scope_in state) tree) (λ ty. Ok (says_nothing (with_library state (with_variable state.library name ty)))) accepted (sym same) in
      advances-said state (says_nothing (with_library state (with_variable state.library name f.value))) accepted f.is (record { grown = same-grown state.library.theory; sets = λ set. set })

  newtype-advances : (state : State) (text name : List ℕ) (accepted : Accepted) → IsMember text texts → SpellsCommand text (newtype_command name) → Ok accepted ≡ newtype_outcome state name
      → Advances state accepted.after
  newtype-advances state text name accepted there spelled same =
      let f = followed (new_type_outcome state.library.theory name) (λ theory. Ok (says_nothing (with_library state (over_theory state.library theory)))) accepted (sym same) in
      advances-said state (says_nothing (with_library state (over_theory state.library f.value))) accepted f.is
      (entry-advances state (with_library state (over_theory state.library f.value))
      (one-grown text (declaration_of_type name) state.library.theory f.value there (lexed text (newtype_command name) spelled) (type-added state.library.theory f.value name f.is_read)) refl)

  newconst-advances : (state : State) (text name : List ℕ) (tree : TypeTree) (accepted : Accepted) → IsMember text texts → SpellsCommand text (newconst_command name tree)
      → Ok accepted ≡ newconst_accepted state name tree → Advances state accepted.after
  newconst-advances state text name tree accepted there spelled same =
      let f = followed (newconst_outcome state.library name tree) (λ theory. Ok (says_nothing (with_library state (over_theory state.library theory)))) accepted (sym same) in
      let g = followed (type_meaning (scope_in state) tree) (λ ty. new_const_outcome state.library.theory name ty) f.value f.is_read in
      let declares : DeclaresConstant state.library.theory text name g.value = record {
        tree = tree;
        variables = state.library.variables;
        within = spelled.read.grammatical;
        spelled = lexed text (newconst_command name tree) spelled;
        meant = g.is_read;
      } in
      advances-said state (says_nothing (with_library state (over_theory state.library f.value))) accepted f.is
      (entry-advances state (with_library state (over_theory state.library f.value))
      (one-grown text (declaration_of_constant name g.value) state.library.theory f.value there declares (const-added state.library.theory f.value name g.value g.is)) refl)

  def-advances : (state : State) (text name : List ℕ) (tree : TermTree) (accepted : Accepted) → IsMember text texts → SpellsCommand text (def_command name tree)
      → Ok accepted ≡ def_accepted state name tree → Advances state accepted.after
  def-advances state text name tree accepted there spelled same =
      let f = followed (def_outcome state.library name tree) (λ theorem. Ok (says_theorem (definition_name name) theorem (with_library state (with_definition state.library name theorem))))
      accepted (sym same) in
      let g = followed (meaning (scope_in state) [] tree) (λ term. define_outcome state.library.theory name term) f.value f.is_read in
      let defines : Defines state.library.theory text name (own_type g.value) (image g.value) = record {
        tree = tree;
        variables = state.library.variables;
        term = g.value;
        quotable = spelled.read.grammatical;
        spelled = lexed text (def_command name tree) spelled;
        meant = g.is_read;
        typed = refl;
        is_body = refl;
      } in
      advances-said state (says_theorem (definition_name name) f.value (with_library state (with_definition state.library name f.value))) accepted f.is
      (entry-advances state (with_library state (with_definition state.library name f.value))
      (one-grown text (definition name (own_type g.value) (image g.value)) state.library.theory f.value.theory there defines
      (definition-accepted state.library.theory name g.value f.value g.is)) refl)

  show-advances : (state : State) (name : List ℕ) (accepted : Accepted) → Ok accepted ≡ show_outcome state name → Advances state accepted.after
  show-advances state name accepted same = go (state.library.theorems name) (sym same)
    where
      go : (found : Option Theorem) → given found UnknownName (λ theorem. Ok (says_theorem name theorem state)) ≡ Ok accepted → Advances state accepted.after
      go None same = cc
      go (Some theorem) same = advances-said state (says_theorem name theorem state) accepted same (stands state)

  -- a theorem that is stored
  stored-advances : {E : Type 0} (state : State) (name : List ℕ) (theorem : Theorem) (accepted : Accepted) → ◌≡◌ {A = Result Accepted E} (Ok (stores state name theorem)) (Ok accepted)
      → Advances state accepted.after
  stored-advances state name theorem accepted same =
      advances-said state (stores state name theorem) accepted same (record { grown = same-grown state.library.theory; sets = λ set. set })

  -- the goal is what the command's term is read as
  goal-advances : (state : State) (text : List ℕ) (tree : TermTree) (accepted : Accepted) → IsMember text texts → SpellsCommand text (goal_command tree) → Ok accepted ≡ goal_outcome state tree
      → Advances state accepted.after
  goal-advances state text tree accepted there spelled same =
      let theory : Theory = state.library.theory in
      let f = followed (meaning (scope_in state) [] tree >>= λ term. set_outcome theory term) (λ proof. Ok (record { message = goal_lines (open_goals proof.stage); after = with_goal state proof }))
      accepted (sym same) in
      let g = followed (meaning (scope_in state) [] tree) (λ term. set_outcome theory term) f.value f.is_read in
      let set : HasSetGoal texts theory f.value = record {
        term = g.value;
        is_goal = set-goal theory g.value f.value g.is;
        is_set = record {
          text = text;
          there = there;
          earlier = theory;
          is_earlier = earlier-same theory theory refl;
          sets = record {
            tree = tree;
            variables = state.library.variables;
            quotable = spelled.read.grammatical;
            spelled = lexed text (goal_command tree) spelled;
            meant = g.is_read;
          };
        };
      } in
      advances-said state (record { message = goal_lines (open_goals f.value.stage); after = with_goal state f.value }) accepted f.is
      (record { grown = same-grown theory; sets = λ earlier. set })

  -- the proof of the same goal
  said-advances : (state : State) (lemmas : List Theorem) (proof : Proof) → IsOfGoal state.proof proof → Advances state (says_goals (with_lemmas state lemmas) proof).after
  said-advances state lemmas proof kept = record {
    grown = same-grown state.library.theory;
    sets = λ set. set-kept texts state.library.theory state.proof proof kept set;
  }

  proof-advances : (state : State) (answer : Result Proof Fault) (accepted : Accepted) → ((proof : Proof) → answer ≡ Ok proof → IsOfGoal state.proof proof)
      → (answer >>= λ proof. Ok (says_goals state proof)) ≡ Ok accepted → Advances state accepted.after
  proof-advances state answer accepted kept same =
      let f = followed answer (λ proof. Ok (says_goals state proof)) accepted same in
      advances-said state (says_goals state f.value) accepted f.is (said-advances state state.lemmas f.value (kept f.value f.is_read))

  p-advances : (state : State) (accepted : Accepted) → Ok accepted ≡ p_outcome state → Advances state accepted.after
  p-advances state accepted same = go state.proof refl (sym same)
    where
      go : (found : Option Proof) → state.proof ≡ found → given found NoGoal (λ proof. Ok (says_goals state proof)) ≡ Ok accepted → Advances state accepted.after
      go None is same = cc
      go (Some proof) is same =
          advances-said state (says_goals state proof) accepted same
          (said-advances state state.lemmas proof (subst (λ (found : Option Proof). IsOfGoal found proof) (sym is) refl))

  refined-advances : (tools : Tools) (state : State) (tree : Tactic TermTree) (accepted : Accepted) → IsRefined tools state tree (Ok accepted) → Advances state accepted.after
  refined-advances tools state tree accepted (stops fault is same) = cc
  refined-advances tools state tree accepted (goes_on tactic is_read (stops fault is same)) = cc
  refined-advances tools state tree accepted (goes_on tactic is_read (goes_on expansion is same)) =
      advances-said state (says_goals (with_lemmas state expansion.lemmas) expansion.proof) accepted (sym same)
      (said-advances state expansion.lemmas expansion.proof (expansion-goal tools state tactic expansion is))

  save-advances : (state : State) (name : List ℕ) (accepted : Accepted) → Ok accepted ≡ save_outcome state name → Advances state accepted.after
  save-advances state name accepted same =
      let f = followed (top_outcome state.proof) (λ theorem. Ok (stores state name theorem)) accepted (sym same) in
      stored-advances state name f.value accepted f.is

  thm-advances : {E : Type 0} (state : State) (name : List ℕ) (accepted : Accepted) (first : Result Theorem E → Type 0) → Then first (λ theorem. Is (Ok (stores state name theorem))) (Ok accepted)
      → Advances state accepted.after
  thm-advances state name accepted first (stops fault is same) = cc
  thm-advances state name accepted first (goes_on theorem is same) = stored-advances state name theorem accepted (sym same)

  after-test : {E : Type 0} (state : State) (accepted : Accepted) (test : Bool) (fault : E) (next : Result Accepted E → Type 0) → (next (Ok accepted) → Advances state accepted.after)
      → Unless test fault next (Ok accepted) → Advances state accepted.after
  after-test state accepted true fault next go may = go may
  after-test state accepted false fault next go may = cc

  named-advances : (state : State) (name : List ℕ) (accepted : Accepted) (next : Outcome → Type 0) → (next (Ok accepted) → Advances state accepted.after) → NamesTheorem state name next (Ok accepted)
      → Advances state accepted.after
  named-advances state name accepted next go may =
      after-test state accepted (is_theorem_name name) (refusal_of BadName) (Unless (not (is_some (state.library.theorems name))) (refusal_of NameTaken) next)
      (λ rest. after-test state accepted (not (is_some (state.library.theorems name))) (refusal_of NameTaken) next go rest) may

  command-advances : (tools : Tools) (state : State) (text : List ℕ) (tree : CommandTree) (accepted : Accepted) → IsMember text texts → SpellsCommand text tree
      → May tools state tree (Ok accepted) → Advances state accepted.after
  command-advances tools state text (var_command name tree) accepted there spelled may = var-advances state name tree accepted may
  command-advances tools state text (newtype_command name) accepted there spelled may = newtype-advances state text name accepted there spelled may
  command-advances tools state text (newconst_command name tree) accepted there spelled may = newconst-advances state text name tree accepted there spelled may
  command-advances tools state text (def_command name tree) accepted there spelled may = def-advances state text name tree accepted there spelled may
  command-advances tools state text (thm_command name tree) accepted there spelled may =
      named-advances state name accepted (Then (IsTheoremAnswer tools state tree) (λ theorem. Is (Ok (stores state name theorem))))
      (λ rest. thm-advances state name accepted (IsTheoremAnswer tools state tree) rest) may
  command-advances tools state text (show_command name) accepted there spelled may = show-advances state name accepted may
  command-advances tools state text (goal_command tree) accepted there spelled may = goal-advances state text tree accepted there spelled may
  command-advances tools state text (e_command tree) accepted there spelled may = refined-advances tools state tree accepted may
  command-advances tools state text b_command accepted there spelled may =
      proof-advances state (back_outcome state.proof) accepted (λ proof is. back-goal state.proof proof is) (sym may)
  command-advances tools state text p_command accepted there spelled may = p-advances state accepted may
  command-advances tools state text (r_command digits) accepted there spelled may =
      proof-advances state (rotate_outcome state.proof (numeral_value digits)) accepted (λ proof is. rotate-goal state.proof (numeral_value digits) proof is) (sym may)
  command-advances tools state text (save_command name) accepted there spelled may =
      named-advances state name accepted (Plainly (Is (save_outcome state name))) (λ rest. save-advances state name accepted rest) may

  -- ---- turns

  -- the text of a request is one of the texts
  abbrev IsOne : Option (List ℕ) → Type 0
  IsOne None = Unit {0}
  IsOne (Some text) = IsMember text texts

  outcome-advances : (tools : Tools) (state : State) (text : Option (List ℕ)) (outcome : Outcome) → IsOne text → Allows tools state text outcome → Advances state (state_after state outcome)
  outcome-advances tools state text outcome one finds_no_memory = stands state
  outcome-advances tools state text outcome one is_unfinished = stands state
  outcome-advances tools state text outcome one (is_no_command none) = stands state
  outcome-advances tools state text outcome one (is_refused tree spelled may) = stands state
  outcome-advances tools state text outcome one (is_done {text = t} {accepted} tree spelled may) = command-advances tools state t tree accepted one spelled may

  turn-advances : (tools : Tools) (state : State) (request : Request) (turn : Turn) → IsOne request.text → Takes tools state request turn → Advances state turn.after
  turn-advances tools state request turn one takes =
      subst (λ (t : Turn). Advances state t.after) (sym takes.is_turn) (outcome-advances tools state request.text takes.outcome one takes.allowed)

  -- ---- sessions

  -- what is told over a later theory is told over an earlier one
  pub told-before : (before now : Theory) (lines : List (List ℕ)) → IsGrownBy texts before now → AreTold texts now lines → AreTold texts before lines
  told-before before now [] is told = tt
  told-before before now (line ∷ lines) is (later, then', one, others) = (later, twice-grown before now later is then', one, others)

  module _ (printed : TextsArePrinted) where
    -- goals that are open, a line for each
    goals-told : (state : State) (goals : List Goal) (rest : List ℕ) → AreReadableGoals state goals → IsToldFrom state.library.theory texts rest
        → IsToldFrom state.library.theory texts (goals_text (scope_in state) goals ++ rest)
    goals-told state [] rest are more = more
    goals-told state (goal ∷ goals) rest are more =
        let scope = scope_in state in
        let here : List ℕ = text_of_goal scope goal.assumptions goal.target ++ codes "\n" in
        let others = goals-told state goals rest are.1 more in
        record {
          lines = here ∷ others.lines;
          told = (state.library.theory, same-grown state.library.theory, of_goal (goal-told printed state goal are.0), others.told);
          whole = ap (λ (behind : List ℕ). here ++ behind) others.whole ∙ sym (append_assoc here (goals_text scope goals) rest);
        }

    -- one more reply
    reply-told : (before : Theory) (after : State) (line : ℕ) (reply : Reply) (rest : List ℕ) → IsGrownBy texts before after.library.theory
        → HasSetGoalIfAny texts after.library.theory after.proof → ((shown : NamedTheorem) → theorem_in reply ≡ Some shown → is_identifier shown.name ≡ true) → IsTrueReply after reply
        → IsToldFrom after.library.theory texts rest → IsToldFrom before texts (reply_text line (scope_in after) reply ++ rest)
    reply-told before after line (Ok nothing) rest grown set named true' more = record {
      lines = more.lines;
      told = told-before before after.library.theory more.lines grown more.told;
      whole = more.whole;
    }
    reply-told before after line (Ok (theorem_line name theorem)) rest grown set named true' more =
        let shown : NamedTheorem = record { name = name; theorem = theorem } in
        let here : List ℕ = text_of_theorem (scope_in after) shown in
        record {
          lines = here ∷ more.lines;
          told = (after.library.theory, grown, of_theorem (theorem-told printed after shown (named shown refl) true'.theorem), more.told);
          whole = ap (λ (behind : List ℕ). here ++ behind) more.whole ∙ ap (λ (text : List ℕ). text ++ rest) (sym (append-nil here));
        }
    reply-told before after line (Ok (goal_lines [])) rest grown set named true' more =
        let here : List ℕ = count_text [] in
        record {
          lines = here ∷ more.lines;
          told = (after.library.theory, grown, of_proof (finished-told texts after true'.goals set), more.told);
          whole = ap (λ (behind : List ℕ). here ++ behind) more.whole;
        }
    reply-told before after line (Ok (goal_lines (goal ∷ goals))) rest grown set named true' more =
        let here : List ℕ = count_text (goal ∷ goals) in
        let others = goals-told after (goal ∷ goals) rest true'.goals more in
        record {
          lines = here ∷ others.lines;
          told = (after.library.theory, grown, of_count (record { first = goal; others = goals; spelled = refl }), others.told);
          whole = ap (λ (behind : List ℕ). here ++ behind) others.whole ∙ sym (append_assoc here (goals_text (scope_in after) (goal ∷ goals)) rest);
        }
    reply-told before after line (Err refusal) rest grown set named true' more =
        let here : List ℕ = text_of_refusal line (scope_in after) refusal in
        record {
          lines = here ∷ more.lines;
          told = (after.library.theory, grown, of_refusal (refusal-told printed after line refusal true'.row), more.told);
          whole = ap (λ (behind : List ℕ). here ++ behind) more.whole;
        }

    -- so is the text of each of some requests
    abbrev AreOfTexts : List Request → Type 0
    AreOfTexts [] = Unit {0}
    AreOfTexts (request ∷ requests) = IsOne request.text × AreOfTexts requests

    session-told : (tools : Tools) (state : State) (requests : List Request) (turns : List Turn) → HasSetGoalIfAny texts state.library.theory state.proof → AreOfTexts requests
        → Session tools state requests turns → IsToldFrom state.library.theory texts (text_of_turns turns)
    session-told tools state [] [] set ones session = record { lines = []; told = tt; whole = refl }
    session-told tools state [] (turn ∷ turns) set ones session = absurd session
    session-told tools state (request ∷ requests) [] set ones session = absurd session
    session-told tools state (request ∷ requests) (turn ∷ turns) set ones session =
        let advances = turn-advances tools state request turn ones.0 session.0 in
        let follows = turn-follows tools state request turn session.0 in
        let now = advances.sets set in
        reply-told state.library.theory turn.after turn.line turn.reply (text_of_turns turns) advances.grown now follows.named session.0.is_true
        (session-told tools turn.after requests turns now ones.1 session.1)

    -- the requests of pieces that are among the texts
    requests-of_texts : (line : ℕ) (pieces : List (List ℕ)) (last : List ℕ) → ((piece : List ℕ) → IsMember piece pieces → IsMember piece texts) → AreOfTexts (requested line pieces last)
    requests-of_texts line [] last among = go (is_blank_text last)
      where
        go : (test : Bool) → AreOfTexts (request_and test (record { line = line + leading_line_feeds last; text = None }) [])
        go true = tt
        go false = (tt, tt)
    requests-of_texts line (piece ∷ pieces) last among =
        go (is_blank_text piece) (requests-of_texts (line + line_feeds piece) pieces last (λ other there. among other (inr there)))
      where
        go : (test : Bool) → AreOfTexts (requested (line + line_feeds piece) pieces last)
            → AreOfTexts (request_and test (record { line = line + leading_line_feeds piece; text = Some piece }) (requested (line + line_feeds piece) pieces last))
        go true others = others
        go false others = (among piece (inl refl), others)

-- ---- runs

pub with_theorems-theory : (library : Library) (named : List (List ℕ × Theorem)) → (with_theorems library named).theory ≡ library.theory
with_theorems-theory library [] = refl
with_theorems-theory library (one ∷ others) = with_theorems-theory (with_theorem library one.0 one.1) others

-- before the theorems of the prelude are stored
abbrev pub unstored : Library
unstored = record { theory = logical_definitions; variables = λ _. None; theorems = λ _. None }

pub runs-told : (tools : Tools) → RunsAreTold tools
runs-told tools printed script turns is_run =
    subst (λ (theory : Theory). IsToldFrom theory is_run.pieces (text_of_turns turns)) (with_theorems-theory unstored stored_theorems)
    (session-told is_run.pieces printed tools start (requested 1 is_run.pieces is_run.last) turns tt
    (requests-of_texts is_run.pieces printed 1 is_run.pieces is_run.last (λ piece there. there)) is_run.session)
