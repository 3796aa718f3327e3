-- Stored theorems stay under their names, which are identifiers.
use Rattle.std.proofs.Common.{◌≡◌, inl, inr, ◌⊎◌, ℕ, ◌-◌, List, [], ◌∷◌, ◌++◌, length, drop, length-append, refl, sym, ap, subst, ◌∙◌, Option, None, Some, Result, Ok, Err}
use Rattle.std.specs.Prelude.{Bool, true, false, not, ◌&&◌, ◌||◌, cond, codes, nat_eq, is_some}
use Rattle.std.specs.Cmp.Lexicographic.{pointwise}
use Rattle.std.specs.Str.{bytes_eq}
use Rattle.std.proofs.lemmas.List.{append_cancel_right}
use Rattle.std.proofs.Math.Nat.{add-sub_cancel}
use Rattle.std.proofs.Math.Seq.{drop-append_seam}
use Rattle.std.proofs.lemmas.Slice.Eq.{bytes_eq-Decides}
use Rattle.std.proofs.lemmas.List.Folds.{list_all-append}
use Rattle.hol_model.specs.declared.fault.Fault.{Fault}
use Rattle.hol_model.specs.declared.fault.Fault.TheVariants.{Memory, Syntax, BadName, NameTaken, NoGoal, UnknownName}
use Rattle.hol_model.specs.declared.symbol.Symbol.TheVariants.{Equal}
use Rattle.hol_model.specs.Terms.NamedTerm.{NamedTerm}
use Rattle.hol_model.specs.Terms.Nameless.{image}
use Rattle.hol_model.specs.Terms.Name.{is_capital, is_small, continues_name, all_continue, is_identifier}
use Rattle.hol_model.specs.Logic.Theory.{Theory, Entry, definition, declaration_of_type, declaration_of_constant, generic_type}
use Rattle.hol_model.specs.Logic.KnownTerm.{is_declared}
use Rattle.hol_model.specs.Logic.Legality.{is_new_name, own_type}
use Rattle.hol_model.specs.Logic.Derivable.{IsMember}
use Rattle.hol_model.specs.Kernel.Outcome.{given}
use Rattle.hol_model.specs.Kernel.Theorem.{Theorem}
use Rattle.hol_model.specs.Kernel.Rules.{define_outcome, new_type_outcome, new_const_outcome}
use Rattle.hol_model.specs.Texts.Reading.{meaning, type_meaning, ◌>>=◌}
use Rattle.hol_model.specs.Texts.TermGrammar.{TermTree}
use Rattle.hol_model.specs.Texts.TypeGrammar.{TypeTree}
use Rattle.hol_model.specs.Texts.Token.{Token, Name, Mark}
use Rattle.hol_model.specs.Texts.Lexing.{numeral_value, is_name_byte, Every, IsIdentifier, IsToken, Lexes}
use Rattle.hol_model_sessions.specs.Script.{Request}
use Rattle.hol_model.specs.Logic.Logic.{logical_definitions}
use Rattle.hol_model.specs.Derived.Prelude.{stored_theorems}
use Rattle.hol_model_sessions.specs.Commands.{quote_tokens}
use Rattle.hol_model_sessions.specs.Sessions.{with_theorem, with_theorems, with_variable, over_theory, is_theorem_name, definition_name, def_outcome, with_definition, newconst_outcome}
use Rattle.hol_model_sessions.specs.Sessions.{State as Library, start as first_library}
use Rattle.hol_model.proofs.Tests.{first_of_both, second_of_both}
use Rattle.hol_model_sessions.specs.TacticGrammar.{Tactic, read_tactic}
use Rattle.hol_model_sessions.specs.CommandGrammar.{CommandTree, var_command, newtype_command, newconst_command, def_command, thm_command, show_command, goal_command, e_command, b_command}
use Rattle.hol_model_sessions.specs.CommandGrammar.{p_command, r_command, save_command, theorem_tokens, command_tokens, SpellsCommand}
use Rattle.hol_model.specs.Kernel.Answers.{Is, Unless, Then, goes_on, stops}
use Rattle.hol_model.specs.Goals.GoalStates.{Proof, open_goals, set_outcome, back_outcome, rotate_outcome, top_outcome}
use Rattle.hol_model_sessions.specs.Replies.{Message, nothing, goal_lines, Refusal, refusal_of, NamedTheorem, theorem_in_message, theorem_in}
use Rattle.hol_model_sessions.specs.ScriptSessions.{State, start, scope_in, with_library, with_proof, with_goal, with_lemmas, Tools, Accepted, Outcome, Plainly, turn_of, says_nothing}
use Rattle.hol_model_sessions.specs.ScriptSessions.{says_theorem, stores, says_goals, var_outcome, newtype_outcome, newconst_accepted, def_accepted, show_outcome, goal_outcome, p_outcome}
use Rattle.hol_model_sessions.specs.ScriptSessions.{save_outcome, IsTheoremAnswer, NamesTheorem, IsExpansion, IsRefined, May, Allows, finds_no_memory, is_unfinished, is_no_command, is_refused}
use Rattle.hol_model_sessions.specs.ScriptSessions.{is_done, Turn, Takes, Session, last_state, as_list, theorems_in_turns}
use Rattle.hol_laws_sessions.specs.SessionLaws.{PrintedTheoremsStay}
use Rattle.hol_laws_sessions.specs.ValidSessions.{IsTold}
use Rattle.hol_laws_goals.proofs.Passing.{followed}
use Rattle.hol_laws_sessions.proofs.Growth.{definition-accepted, definition-was_new, type-added, const-added}

-- what is stored stays
pub record Keeps (old new : Library) : Type 0 where
  pub is_told : IsTold old → IsTold new
  pub stays : IsTold old → (name : List ℕ) (theorem : Theorem) → old.theorems name ≡ Some theorem → new.theorems name ≡ Some theorem

-- ---- names

same_name : (a b : List ℕ) → bytes_eq a b ≡ true → a ≡ b
same_name a b same = (bytes_eq-Decides a b).0 same

eq_self : (name : List ℕ) → bytes_eq name name ≡ true
eq_self name = (bytes_eq-Decides name name).1 refl

-- a name stays known as a theory grows
still_known : (entry : Entry) (theory : Theory) (name : List ℕ) → is_new_name theory name ≡ false → is_new_name (entry ∷ theory) name ≡ false
still_known (definition new ty body) theory name known = go (bytes_eq new name)
  where
    go : (test : Bool) → (not (is_some (cond test (Some ty) (generic_type theory name))) && not (is_declared theory name)) ≡ false
    go true = refl
    go false = known
still_known (declaration_of_type new) theory name known = go (is_some (generic_type theory name)) (bytes_eq new name) (is_declared theory name) known
  where
    go : (constant test declared : Bool) → (not constant && not declared) ≡ false → (not constant && not (test || declared)) ≡ false
    go true test declared is = refl
    go false true declared is = refl
    go false false declared is = is
still_known (declaration_of_constant new ty) theory name known = go (bytes_eq new name)
  where
    go : (test : Bool) → (not (is_some (cond test (Some ty) (generic_type theory name))) && not (is_declared theory name)) ≡ false
    go true = refl
    go false = known

now_known : (theory : Theory) (name : List ℕ) (term : NamedTerm) → is_new_name (definition name (own_type term) (image term) ∷ theory) name ≡ false
now_known theory name term = rw (eq_self name) refl

-- ---- libraries

pub keeps-itself : (library : Library) → Keeps library library
keeps-itself library = record { is_told = λ told. told; stays = λ told name theorem is. is }

-- what a name stands for once it is given a theorem
put : (theorems : List ℕ → Option Theorem) (name : List ℕ) (theorem : Theorem) → cond (bytes_eq name name) (Some theorem) (theorems name) ≡ Some theorem
put theorems name theorem = rw (eq_self name) refl

put-stays : (theorems : List ℕ → Option Theorem) (name : List ℕ) (theorem : Theorem) (other : List ℕ) (there : Theorem) → (theorems name ≡ None) → theorems other ≡ Some there
    → cond (bytes_eq name other) (Some theorem) (theorems other) ≡ Some there
put-stays theorems name theorem other there none is = go (bytes_eq name other) refl
  where
    go : (test : Bool) → bytes_eq name other ≡ test → cond test (Some theorem) (theorems other) ≡ Some there
    go true same = (let one : theorems name ≡ theorems other = ap theorems (same_name name other same) in cc)
    go false same = is

-- the name of a definition's theorem ends so
ends_so : (name : List ℕ) → is_theorem_name (definition_name name) ≡ false
ends_so name =
    let behind : length (name ++ codes "_def") - length (codes "_def") ≡ length name =
    ap (λ (n : ℕ). n - length (codes "_def")) (length-append name (codes "_def")) ∙ add-sub_cancel (length name) (length (codes "_def")) in
    let last : drop (length (name ++ codes "_def") - length (codes "_def")) (name ++ codes "_def") ≡ codes "_def" =
    ap (λ (n : ℕ). drop n (name ++ codes "_def")) behind ∙ drop-append_seam name (codes "_def") in
    ap (λ (bytes : List ℕ). not (pointwise nat_eq (codes "_def") bytes)) last

pub stored-keeps : (library : Library) (name : List ℕ) (theorem : Theorem) → is_theorem_name name ≡ true → library.theorems name ≡ None → Keeps library (with_theorem library name theorem)
stored-keeps library name theorem is_name none = record {
  is_told = λ told. record { told = λ other there is. go told other there (bytes_eq name (definition_name other)) refl is };
  stays = λ told other there is. put-stays library.theorems name theorem other there none is;
}
  where
    go : IsTold library → (other : List ℕ) (there : Theorem) (test : Bool) → bytes_eq name (definition_name other) ≡ test →
        cond test (Some theorem) (library.theorems (definition_name other)) ≡ Some there
        → is_new_name library.theory other ≡ false
    go told other there true same is =
        let one : is_theorem_name name ≡ is_theorem_name (definition_name other) = ap is_theorem_name (same_name name (definition_name other) same) in
        let two = ends_so other in
        cc
    go told other there false same is = told.told other there is

pub defined-keeps : (library : Library) (name : List ℕ) (term : NamedTerm) (theorem : Theorem) → define_outcome library.theory name term ≡ Ok theorem →
    Keeps library (with_definition library name theorem)
defined-keeps library name term theorem outcome = record {
  is_told = λ told. record {
    told = λ other there is. subst (λ (t : Theory). is_new_name t other ≡ false) (sym grown)
        (go told other there (bytes_eq (definition_name name) (definition_name other)) refl is);
  };
  stays = λ told other there is. put-stays library.theorems (definition_name name) theorem other there (none told (library.theorems (definition_name name)) refl) is;
}
  where
    grown : theorem.theory ≡ definition name (own_type term) (image term) ∷ library.theory
    grown = definition-accepted library.theory name term theorem outcome

    none : IsTold library → (found : Option Theorem) → library.theorems (definition_name name) ≡ found → library.theorems (definition_name name) ≡ None
    none told None is = is
    none told (Some there) is =
        let known = told.told name there is in
        let was_new = definition-was_new library.theory name term theorem outcome in
        cc

    go : IsTold library → (other : List ℕ) (there : Theorem) (test : Bool) → bytes_eq (definition_name name) (definition_name other) ≡ test
        → cond test (Some theorem) (library.theorems (definition_name other)) ≡ Some there → is_new_name (definition name (own_type term) (image term) ∷ library.theory) other ≡ false
    go told other there true same is =
        subst (λ (n : List ℕ). is_new_name (definition name (own_type term) (image term) ∷ library.theory) n ≡ false)
        (append_cancel_right name other (codes "_def") (same_name (definition_name name) (definition_name other) same)) (now_known library.theory name term)
    go told other there false same is = still_known (definition name (own_type term) (image term)) library.theory other (told.told other there is)

pub grown-keeps : (library : Library) (theory : Theory) (entry : Entry) → theory ≡ entry ∷ library.theory → Keeps library (over_theory library theory)
grown-keeps library theory entry grown = record {
  is_told = λ told. record { told = λ name theorem is. subst (λ (t : Theory). is_new_name t name ≡ false) (sym grown) (still_known entry library.theory name (told.told name theorem is)) };
  stays = λ told name theorem is. is;
}

-- ---- names of printed theorems

all_continue-every : (bytes : List ℕ) → Every is_name_byte bytes → all_continue bytes ≡ true
all_continue-every [] every = refl
all_continue-every (byte ∷ bytes) every = let more = all_continue-every bytes every.1 in rw (every.0, more) refl

token-identifier : (name : List ℕ) → IsIdentifier name → is_identifier name ≡ true
token-identifier [] is = absurd is
token-identifier (first ∷ rest) is = let more = all_continue-every rest is.1 in rw (is.0, more) refl

definition-identifier : (name : List ℕ) → is_identifier name ≡ true → is_identifier (definition_name name) ≡ true
definition-identifier [] is = cc
definition-identifier (first ∷ rest) is =
    let letter = first_of_both (is_capital first || is_small first) (all_continue rest) is in
    let more = second_of_both (is_capital first || is_small first) (all_continue rest) is in
    let whole : all_continue (rest ++ codes "_def") ≡ true = list_all-append continues_name rest (codes "_def") ∙ rw more refl in
    rw (letter, whole) refl

-- the second token of a command is its name
second_token : (text : List ℕ) (first second : Token) (more : List Token) → Lexes text (first ∷ second ∷ more) → IsToken second
second_token text first second more (gap, behind, rest, blank, split, begins, (next_gap, next_behind, next_rest, next_blank, next_split, next_begins, others)) = next_begins.valid

command-identifier : (text : List ℕ) (tree : CommandTree) (word name : List ℕ) (more : List Token) → command_tokens tree ≡ Name word ∷ Name name ∷ more → SpellsCommand text tree →
    is_identifier name ≡ true
command-identifier text tree word name more named spelled =
    token-identifier name (second_token text (Name word) (Name name) more (subst (λ (ts : List Token). Lexes text ts) (spelled.read.spelled ∙ named) spelled.lexed))

-- ---- accepted commands

-- what is stored stays, and what is printed is stored, under an identifier
record Follows (old : State) (accepted : Accepted) : Type 0 where
  keeps : Keeps old.library accepted.after.library
  printed : (shown : NamedTheorem) → theorem_in_message accepted.message ≡ Some shown → accepted.after.library.theorems shown.name ≡ Some shown.theorem
  named : (shown : NamedTheorem) → theorem_in_message accepted.message ≡ Some shown → is_identifier shown.name ≡ true

follows-said : (old : State) (said accepted : Accepted) → ◌≡◌ {A = Result Accepted Fault} (Ok said) (Ok accepted) → Follows old said → Follows old accepted
follows-said old said accepted same is = (let one : accepted ≡ said = cc in subst (λ (a : Accepted). Follows old a) (sym one) is)

-- no theorem is printed
none_printed : (old after : State) (message : Message) → theorem_in_message message ≡ None → Keeps old.library after.library → Follows old (record { message = message; after = after })
none_printed old after message none kept = record { keeps = kept; printed = λ shown is. go shown is; named = λ shown is. never shown is }
  where
    never : (shown : NamedTheorem) → theorem_in_message message ≡ Some shown → is_identifier shown.name ≡ true
    never shown is = cc

    go : (shown : NamedTheorem) → theorem_in_message message ≡ Some shown → after.library.theorems shown.name ≡ Some shown.theorem
    go shown is = cc

-- a theorem is printed that is stored under its name
one_printed : (old after : State) (name : List ℕ) (theorem : Theorem) → is_identifier name ≡ true → after.library.theorems name ≡ Some theorem → Keeps old.library after.library →
    Follows old (says_theorem name theorem after)
one_printed old after name theorem is_name stored kept = record { keeps = kept; printed = λ shown is. go shown is; named = λ shown is. own shown is }
  where
    own : (shown : NamedTheorem) → Some (record { name = name; theorem = theorem }) ≡ Some shown → is_identifier shown.name ≡ true
    own shown is =
        let made : NamedTheorem = record { name = name; theorem = theorem } in
        let one : made ≡ shown = cc in
        subst (λ (s : NamedTheorem). is_identifier s.name ≡ true) one is_name

    go : (shown : NamedTheorem) → Some (record { name = name; theorem = theorem }) ≡ Some shown → after.library.theorems shown.name ≡ Some shown.theorem
    go shown is =
        let made : NamedTheorem = record { name = name; theorem = theorem } in
        let one : made ≡ shown = cc in
        subst (λ (s : NamedTheorem). after.library.theorems s.name ≡ Some s.theorem) one stored

stores-follows : (state : State) (name : List ℕ) (theorem : Theorem) → is_identifier name ≡ true → is_theorem_name name ≡ true → state.library.theorems name ≡ None →
    Follows state (stores state name theorem)
stores-follows state name theorem identifier is_name none =
    one_printed state (with_library state (with_theorem state.library name theorem)) name theorem identifier (put state.library.theorems name theorem)
    (stored-keeps state.library name theorem is_name none)

var-follows : (state : State) (name : List ℕ) (tree : TypeTree) (accepted : Accepted) → Ok accepted ≡ var_outcome state name tree → Follows state accepted
var-follows state name tree accepted same =
    let f = followed (type_meaning (scope_in state) tree) (λ ty. Ok (says_nothing (with_library state (with_variable state.library name ty)))) accepted (sym same) in
    let kept : Keeps state.library (with_variable state.library name f.value) = record { is_told = λ told. record { told = told.told }; stays = λ told name theorem is. is } in
    follows-said state (says_nothing (with_library state (with_variable state.library name f.value))) accepted f.is
    (none_printed state (with_library state (with_variable state.library name f.value)) nothing refl kept)

newtype-follows : (state : State) (name : List ℕ) (accepted : Accepted) → Ok accepted ≡ newtype_outcome state name → Follows state accepted
newtype-follows state name accepted same =
    let f = followed (new_type_outcome state.library.theory name) (λ theory. Ok (says_nothing (with_library state (over_theory state.library theory)))) accepted (sym same) in
    follows-said state (says_nothing (with_library state (over_theory state.library f.value))) accepted f.is
    (none_printed state (with_library state (over_theory state.library f.value)) nothing refl
    (grown-keeps state.library f.value (declaration_of_type name) (type-added state.library.theory f.value name f.is_read)))

newconst-follows : (state : State) (name : List ℕ) (tree : TypeTree) (accepted : Accepted) → Ok accepted ≡ newconst_accepted state name tree → Follows state accepted
newconst-follows state name tree accepted same =
    let f = followed (newconst_outcome state.library name tree) (λ theory. Ok (says_nothing (with_library state (over_theory state.library theory)))) accepted (sym same) in
    let g = followed (type_meaning (scope_in state) tree) (λ ty. new_const_outcome state.library.theory name ty) f.value f.is_read in
    follows-said state (says_nothing (with_library state (over_theory state.library f.value))) accepted f.is
    (none_printed state (with_library state (over_theory state.library f.value)) nothing refl
    (grown-keeps state.library f.value (declaration_of_constant name g.value) (const-added state.library.theory f.value name g.value g.is)))

def-follows : (state : State) (name : List ℕ) (tree : TermTree) (accepted : Accepted) → is_identifier name ≡ true → Ok accepted ≡ def_accepted state name tree → Follows state accepted
def-follows state name tree accepted identifier same =
    let f = followed (def_outcome state.library name tree) (λ theorem. Ok (says_theorem (definition_name name) theorem (with_library state (with_definition state.library name theorem))))
    accepted (sym same) in
    let g = followed (meaning (scope_in state) [] tree) (λ term. define_outcome state.library.theory name term) f.value f.is_read in
    follows-said state (says_theorem (definition_name name) f.value (with_library state (with_definition state.library name f.value))) accepted f.is
    (one_printed state (with_library state (with_definition state.library name f.value)) (definition_name name) f.value (definition-identifier name identifier)
    (put state.library.theorems (definition_name name) f.value)
    (defined-keeps state.library name g.value f.value g.is))

show-follows : (state : State) (name : List ℕ) (accepted : Accepted) → is_identifier name ≡ true → Ok accepted ≡ show_outcome state name → Follows state accepted
show-follows state name accepted identifier same = go (state.library.theorems name) refl (sym same)
  where
    go : (found : Option Theorem) → state.library.theorems name ≡ found → given found UnknownName (λ theorem. Ok (says_theorem name theorem state)) ≡ Ok accepted → Follows state accepted
    go None is same = cc
    go (Some theorem) is same = follows-said state (says_theorem name theorem state) accepted same (one_printed state state name theorem identifier is (keeps-itself state.library))

goal-follows : (state : State) (tree : TermTree) (accepted : Accepted) → Ok accepted ≡ goal_outcome state tree → Follows state accepted
goal-follows state tree accepted same =
    let f = followed (meaning (scope_in state) [] tree >>= λ term. set_outcome state.library.theory term)
    (λ proof. Ok (record { message = goal_lines (open_goals proof.stage); after = with_goal state proof })) accepted (sym same) in
    follows-said state (record { message = goal_lines (open_goals f.value.stage); after = with_goal state f.value }) accepted f.is
    (none_printed state (with_goal state f.value) (goal_lines (open_goals f.value.stage)) refl (keeps-itself state.library))

said-follows : (state : State) (lemmas : List Theorem) (proof : Proof) → Follows state (says_goals (with_lemmas state lemmas) proof)
said-follows state lemmas proof =
    none_printed state (with_proof (with_lemmas state lemmas) proof) (goal_lines (open_goals proof.stage)) refl (keeps-itself state.library)

proof-follows : (state : State) (answer : Result Proof Fault) (accepted : Accepted) → (answer >>= λ proof. Ok (says_goals state proof)) ≡ Ok accepted → Follows state accepted
proof-follows state answer accepted same =
    let f = followed answer (λ proof. Ok (says_goals state proof)) accepted same in
    follows-said state (says_goals state f.value) accepted f.is (said-follows state state.lemmas f.value)

p-follows : (state : State) (accepted : Accepted) → Ok accepted ≡ p_outcome state → Follows state accepted
p-follows state accepted same = go state.proof (sym same)
  where
    go : (found : Option Proof) → given found NoGoal (λ proof. Ok (says_goals state proof)) ≡ Ok accepted → Follows state accepted
    go None same = cc
    go (Some proof) same = follows-said state (says_goals state proof) accepted same (said-follows state state.lemmas proof)

save-follows : (state : State) (name : List ℕ) (accepted : Accepted) → is_identifier name ≡ true → is_theorem_name name ≡ true → state.library.theorems name ≡ None →
    Ok accepted ≡ save_outcome state name → Follows state accepted
save-follows state name accepted identifier is_name none same =
    let f = followed (top_outcome state.proof) (λ theorem. Ok (stores state name theorem)) accepted (sym same) in
    follows-said state (stores state name f.value) accepted f.is (stores-follows state name f.value identifier is_name none)

-- behind a name that is new
untaken : (found : Option Theorem) → not (is_some found) ≡ true → found ≡ None
untaken None is = refl
untaken (Some theorem) is = cc

after-test : {E A : Type 0} (accepted : Accepted) (test : Bool) (fault : E) (next : Result Accepted E → Type 0) → (test ≡ true → next (Ok accepted) → A) → Unless test fault next (Ok accepted) → A
after-test accepted true fault next go may = go refl may
after-test accepted false fault next go may = cc

named-follows : (state : State) (name : List ℕ) (accepted : Accepted) (next : Outcome → Type 0)
    → (is_theorem_name name ≡ true → state.library.theorems name ≡ None → next (Ok accepted) → Follows state accepted) → NamesTheorem state name next (Ok accepted) → Follows state accepted
named-follows state name accepted next go may =
    after-test accepted (is_theorem_name name) (refusal_of BadName) (Unless (not (is_some (state.library.theorems name))) (refusal_of NameTaken) next)
    (λ is_name rest.
    after-test accepted (not (is_some (state.library.theorems name))) (refusal_of NameTaken) next
    (λ is_new rest. go is_name (untaken (state.library.theorems name) is_new) rest) rest) may

behind : {A E B : Type 0} (accepted : Accepted) (first : Result A E → Type 0) (next : A → Result Accepted E → Type 0) → ((x : A) → next x (Ok accepted) → B) → Then first next (Ok accepted) → B
behind accepted first next go (goes_on x is_first is_next) = go x is_next
behind accepted first next go (stops fault is_first same) = cc

refined-follows : (tools : Tools) (state : State) (tree : Tactic TermTree) (accepted : Accepted) → IsRefined tools state tree (Ok accepted) → Follows state accepted
refined-follows tools state tree accepted may =
    behind accepted (Is (read_tactic (meaning (scope_in state) []) tree)) (λ tactic. Then (IsExpansion tools state tactic)
    (λ expansion. Is (Ok (says_goals (with_lemmas state expansion.lemmas) expansion.proof))))
    (λ tactic rest.
    behind accepted (IsExpansion tools state tactic) (λ expansion. Is (Ok (says_goals (with_lemmas state expansion.lemmas) expansion.proof)))
    (λ expansion same. follows-said state (says_goals (with_lemmas state expansion.lemmas) expansion.proof) accepted (sym same) (said-follows state expansion.lemmas expansion.proof)) rest) may

thm-follows : {E : Type 0} (state : State) (name : List ℕ) (theorem : Theorem) (accepted : Accepted) → is_identifier name ≡ true → is_theorem_name name ≡ true → state.library.theorems name ≡ None
    → ◌≡◌ {A = Result Accepted E} (Ok accepted) (Ok (stores state name theorem)) → Follows state accepted
thm-follows state name theorem accepted identifier is_name none same =
    (let one : accepted ≡ stores state name theorem = cc in subst (λ (a : Accepted). Follows state a) (sym one) (stores-follows state name theorem identifier is_name none))

command-follows : (tools : Tools) (state : State) (text : List ℕ) (tree : CommandTree) (accepted : Accepted) → SpellsCommand text tree → May tools state tree (Ok accepted) → Follows state accepted
command-follows tools state text (var_command name tree) accepted spelled may = var-follows state name tree accepted may
command-follows tools state text (newtype_command name) accepted spelled may = newtype-follows state name accepted may
command-follows tools state text (newconst_command name tree) accepted spelled may = newconst-follows state name tree accepted may
command-follows tools state text (def_command name tree) accepted spelled may =
    def-follows state name tree accepted (command-identifier text (def_command name tree) (codes "def") name (Mark Equal ∷ quote_tokens tree []) refl spelled) may
command-follows tools state text (thm_command name tree) accepted spelled may =
    named-follows state name accepted (Then (IsTheoremAnswer tools state tree) (λ theorem. Is (Ok (stores state name theorem))))
    (λ is_name none rest.
    behind accepted (IsTheoremAnswer tools state tree) (λ theorem. Is (Ok (stores state name theorem)))
    (λ theorem same. thm-follows state name theorem accepted (command-identifier text (thm_command name tree) (codes "thm") name (Mark Equal ∷ theorem_tokens tree) refl spelled) is_name none
    same) rest) may
command-follows tools state text (show_command name) accepted spelled may = show-follows state name accepted (command-identifier text (show_command name) (codes "show") name [] refl spelled) may
command-follows tools state text (goal_command tree) accepted spelled may = goal-follows state tree accepted may
command-follows tools state text (e_command tree) accepted spelled may = refined-follows tools state tree accepted may
command-follows tools state text b_command accepted spelled may = proof-follows state (back_outcome state.proof) accepted (sym may)
command-follows tools state text p_command accepted spelled may = p-follows state accepted may
command-follows tools state text (r_command digits) accepted spelled may = proof-follows state (rotate_outcome state.proof (numeral_value digits)) accepted (sym may)
command-follows tools state text (save_command name) accepted spelled may =
    named-follows state name accepted (Plainly (Is (save_outcome state name))) (λ is_name none rest. save-follows state name accepted
    (command-identifier text (save_command name) (codes "save") name [] refl spelled) is_name none rest) may

-- ---- turns

-- what a turn keeps, and the theorem that it prints
pub record TurnFollows (old : State) (turn : Turn) : Type 0 where
  pub keeps : Keeps old.library turn.after.library
  printed : (shown : NamedTheorem) → theorem_in turn.reply ≡ Some shown → turn.after.library.theorems shown.name ≡ Some shown.theorem
  pub named : (shown : NamedTheorem) → theorem_in turn.reply ≡ Some shown → is_identifier shown.name ≡ true

refused-follows : (state : State) (line : ℕ) (refusal : Refusal) → TurnFollows state (turn_of line state (Err refusal))
refused-follows state line refusal = record { keeps = keeps-itself state.library; printed = λ shown is. printed shown is; named = λ shown is. named shown is }
  where
    printed : (shown : NamedTheorem) → None ≡ Some shown → state.library.theorems shown.name ≡ Some shown.theorem
    printed shown is = cc

    named : (shown : NamedTheorem) → None ≡ Some shown → is_identifier shown.name ≡ true
    named shown is = cc

outcome-follows : (tools : Tools) (state : State) (line : ℕ) (text : Option (List ℕ)) (outcome : Outcome) → Allows tools state text outcome → TurnFollows state (turn_of line state outcome)
outcome-follows tools state line text outcome finds_no_memory = refused-follows state line (refusal_of Memory)
outcome-follows tools state line text outcome is_unfinished = refused-follows state line (refusal_of Syntax)
outcome-follows tools state line text outcome (is_no_command none) = refused-follows state line (refusal_of Syntax)
outcome-follows tools state line text outcome (is_refused {refusal} tree spelled may) = refused-follows state line refusal
outcome-follows tools state line text outcome (is_done {text = t} {accepted} tree spelled may) =
    let follows = command-follows tools state t tree accepted spelled may in
    record { keeps = follows.keeps; printed = λ shown is. follows.printed shown is; named = λ shown is. follows.named shown is }

pub turn-follows : (tools : Tools) (state : State) (request : Request) (turn : Turn) → Takes tools state request turn → TurnFollows state turn
turn-follows tools state request turn takes =
    subst (λ (t : Turn). TurnFollows state t) (sym takes.is_turn) (outcome-follows tools state request.line request.text takes.outcome takes.allowed)

-- ---- sessions

-- a theorem of the first turn, or of a later one
of_first : (found : Option NamedTheorem) (later : List NamedTheorem) (shown : NamedTheorem) → IsMember shown (as_list found ++ later) → (found ≡ Some shown) ⊎ IsMember shown later
of_first None later shown member = inr member
of_first (Some x) later shown (inl same) = inl (ap (λ (s : NamedTheorem). Some s) (sym same))
of_first (Some x) later shown (inr member) = inr member

-- to the end of a session
record Lasts (old final : State) (theorems : List NamedTheorem) : Type 0 where
  stays : (name : List ℕ) (theorem : Theorem) → old.library.theorems name ≡ Some theorem → final.library.theorems name ≡ Some theorem
  printed : (shown : NamedTheorem) → IsMember shown theorems → final.library.theorems shown.name ≡ Some shown.theorem
  named : (shown : NamedTheorem) → IsMember shown theorems → is_identifier shown.name ≡ true

lasts : (tools : Tools) (requests : List Request) (turns : List Turn) (state : State) → IsTold state.library → Session tools state requests turns →
    Lasts state (last_state state turns) (theorems_in_turns turns)
lasts tools [] [] state told session = record { stays = λ name theorem is. is; printed = λ shown member. absurd member; named = λ shown member. absurd member }
lasts tools [] (turn ∷ turns) state told session = absurd session
lasts tools (request ∷ requests) [] state told session = absurd session
lasts tools (request ∷ requests) (turn ∷ turns) state told session =
    let here = turn-follows tools state request turn session.0 in
    let there = lasts tools requests turns turn.after (here.keeps.is_told told) session.1 in
    record {
      stays = λ name theorem is. there.stays name theorem (here.keeps.stays told name theorem is);
      printed = λ shown member. elim (of_first (theorem_in turn.reply) (theorems_in_turns turns) shown member) [
        | inl same ↦ there.stays shown.name shown.theorem (here.printed shown same)
        | inr further ↦ there.printed shown further
      ];
      named = λ shown member. elim (of_first (theorem_in turn.reply) (theorems_in_turns turns) shown member) [
        | inl same ↦ here.named shown same
        | inr further ↦ there.named shown further
      ];
    }

-- ---- the beginning

-- no theorem of a definition is stored
record IsUntold (library : Library) : Type 0 where
  none : (name : List ℕ) → library.theorems (definition_name name) ≡ None

-- none of the names is that of a definition's theorem
abbrev AreTheoremNames : List (List ℕ × Theorem) → Type 0
AreTheoremNames [] = Unit {0}
AreTheoremNames (named ∷ others) = (is_theorem_name named.0 ≡ true) × AreTheoremNames others

untold-more : (library : Library) (name : List ℕ) (theorem : Theorem) → is_theorem_name name ≡ true → IsUntold library → IsUntold (with_theorem library name theorem)
untold-more library name theorem is_name untold = record { none = λ other. go other (bytes_eq name (definition_name other)) refl }
  where
    go : (other : List ℕ) (test : Bool) → bytes_eq name (definition_name other) ≡ test → cond test (Some theorem) (library.theorems (definition_name other)) ≡ None
    go other true same =
        let one : is_theorem_name name ≡ is_theorem_name (definition_name other) = ap is_theorem_name (same_name name (definition_name other) same) in
        let two = ends_so other in
        cc
    go other false same = untold.none other

untold-all : (library : Library) (all : List (List ℕ × Theorem)) → AreTheoremNames all → IsUntold library → IsUntold (with_theorems library all)
untold-all library [] are untold = untold
untold-all library (named ∷ others) are untold = untold-all (with_theorem library named.0 named.1) others are.1 (untold-more library named.0 named.1 are.0 untold)

not_there : {A B : Type 0} (found : Option A) (x : A) → found ≡ None → found ≡ Some x → B
not_there None x none there = cc
not_there (Some other) x none there = cc

start-untold : IsUntold first_library
start-untold = untold-all (record { theory = logical_definitions; variables = λ _. None; theorems = λ _. None }) stored_theorems
    (refl, (refl, (refl, (refl, (refl, (refl, (refl, (refl, (refl, (refl, (refl, (refl, tt)))))))))))) (record { none = λ name. refl })

pub start-told : IsTold first_library
start-told = record { told = λ name theorem is. not_there (first_library.theorems (definition_name name)) theorem (start-untold.none name) is }

pub printed-stay : (tools : Tools) → PrintedTheoremsStay tools
printed-stay tools = record {
  named = λ requests turns session. (lasts tools requests turns start start-told session).named;
  stays = λ requests turns session. (lasts tools requests turns start start-told session).printed;
}
