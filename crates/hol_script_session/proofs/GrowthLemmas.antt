-- What a definition and a declaration are accepted or refused for, and the session over the theory that they make.
use Rattle.std.proofs.Common.{◌≡◌, ◌⊎◌, ⊎_elim, ℕ, List, [], ◌∷◌, map, refl, sym, subst, ap, ◌∙◌, Option, None, Some, Result, Ok, Err}
use Rattle.std.specs.Prelude.{Bool, true, false, not, ◌&&◌, ◌||◌, cond, is_some}
use Rattle.std.specs.Map.{update}
use Rattle.std.specs.Str.{bytes_eq}
use Rattle.std.proofs.lemmas.Slice.Eq.{bytes_eq-Decides}
use Rattle.hol_model.specs.declared.fault.Fault.{Fault}
use Rattle.hol_model.specs.declared.fault.Fault.TheVariants.{Memory, TooLarge, TypeMismatch, UnknownType, BadName, NotClosed, TypeVarsNotReflected, AlreadyDefined}
use Rattle.hol_model.specs.Terms.Name.{is_constant_name, is_declared_type_name}
use Rattle.hol_model.specs.Terms.HolType.{HolType}
use Rattle.hol_model.specs.Terms.NamedTerm.{NamedTerm, constant, type_of, equation, is_within_limits}
use Rattle.hol_model.specs.Terms.Nameless.{image}
use Rattle.hol_model.specs.Logic.Theory.{Theory, definition, declaration_of_type, declaration_of_constant, generic_type, IsEarlier, IsLegal}
use Rattle.hol_model.specs.Logic.KnownTerm.{is_declared, knows_type}
use Rattle.hol_model.specs.Logic.Legality.{is_closed, reflects, is_fixed, is_new_name, own_type}
use Rattle.hol_model.specs.Kernel.Outcome.{Answers, unless, refused}
use Rattle.hol_model.specs.Kernel.Constructors.{constant_outcome, typed_outcome, equation_outcome}
use Rattle.hol_model.specs.Kernel.Theorem.{Theorem}
use Rattle.hol_model.specs.Kernel.Rules.{first_unknown, is_full, with_definition, concluded, define_outcome, new_type_outcome, new_const_outcome}
use Rattle.hol_model.specs.Texts.Reading.{Scope, meaning, type_meaning, ◌>>=◌}
use Rattle.hol_model.specs.Texts.TermGrammar.{TermTree}
use Rattle.hol_model.specs.Texts.TypeGrammar.{TypeTree}
use Rattle.hol_model_sessions.specs.CommandGrammar.{def_command}
use Rattle.hol_model_sessions.specs.Sessions.{State, scope_in, with_variable, over_theory, definition_name, def_outcome, newconst_outcome}
use Rattle.hol_model_sessions.specs.Sessions as sessions
use Rattle.hol_model_sessions.specs.Replies.{theorem_line, text_of_theorem}
use Rattle.hol_model_sessions.specs.ScriptSessions.{Tools}
use Rattle.hol_laws_sessions.specs.ReadTerms.{IsScopeOver}
use Rattle.hol_laws_sessions.proofs.Growth.{type-added, type-grows, const-added, const-grows, definition-accepted}
use Rattle.hol_laws_goals.proofs.Knowledge.{knows_type-stays}
use Rattle.hol_laws_goals.proofs.Passing.{passed, not_refused}
use Rattle.hol_model.proofs.Kernel.Outcomes.{passed_value}
use Rattle.hol_kernel.proofs.LimitLemmas.{equation-limited}
use Rattle.hol_sound.specs.Laws.{IsSound}
use Rattle.hol_syntax.specs.declared.scope.Scope.{Scope as ScopeHere}
use Rattle.hol_syntax.specs.Scope.{scope_of, SetsConstant, SetsVariable, SetsType, KeepsScope}
use Rattle.hol_script_session.specs.declared.lines.TheoremLine.{TheoremLine}
use Rattle.hol_script_session.specs.declared.session.Session.{Session}
use Rattle.hol_script_session.specs.declared.reply.Printed.TheVariants.{Line}
use Rattle.hol_journal.specs.Journal.{Journal, Recorded, IsMade}
use Rattle.hol_journal.specs.Growth.{IsGrown}
use Rattle.hol_prelude.specs.HasLogic.{HasLogic}
use Rattle.hol_taut_laws.specs.HasLaws.{HasLaws}
use Rattle.hol_theorem_library.specs.declared.library.Library.{Library}
use Rattle.hol_script_session.specs.SessionState.{state_of, theorem_of, lemmas_of, IsSession, StaysMade, LibrariesGrow}
use Rattle.hol_script_session.specs.Growth.{IsRefused, LeavesNone, MakesEquation, KeepsLaws, Defines, KeepsSession}
use Rattle.hol_script_session.specs.Answers.{with_beside, IsLineOf, PerformsWith}
use Rattle.hol_script_session.proofs.RuleLemmas.{proved, same_is_earlier}
use Rattle.hol_theorem_store.specs.Stored.{Stored, IsStoreOf, StoresTheorem, KeepsStore, theorems_in}
use Rattle.hol_theorem_store.specs.Store.{stored_of}
use Rattle.hol_theorem_store.specs.declared.store.Store.{Store}
use Rattle.hol_theorem_store.proofs.StoreLemmas.{stores-stay, stored-made}
use Rattle.hol_script_session.proofs.RecordingLemmas.{kept-made, stored_theorem, libraries-stay, store-stays}
use Rattle.hol_model.specs.Kernel.Theorem.{IsWellFormed}
use Rattle.hol_model.specs.Goals.Replays.{IsStoreOver}
use Rattle.hol_script_session.proofs.ProvedStores.{proved_later, proved_same, proved_more}
use Rattle.hol_script_session.proofs.AllowedLemmas.{AllowsMessage, def_defines}
use Rattle.hol_script_session.proofs.SessionLemmas.{scope_same, prints}

-- ---- tests of outcomes

-- what is refused later, or by a test, is refused
later : {A : Type 0} (test : Bool) (fault : Fault) (next : Result A Fault) → IsRefused next → IsRefused (unless test fault next)
later true fault next is = is
later false fault next is = (fault, refl)

fails : {A : Type 0} (test : Bool) (fault : Fault) (next : Result A Fault) → test ≡ false → IsRefused (unless test fault next)
fails true fault next failed = cc
fails false fault next failed = (fault, refl)

later_refused : {A : Type 0} (refusal : Option Fault) (next : Result A Fault) → IsRefused next → IsRefused (refused refusal next)
later_refused None next is = is
later_refused (Some fault) next is = (fault, refl)

-- a name that stands for something is not new
known_constant-not_new : (theory : Theory) (name : List ℕ) → is_some (generic_type theory name) ≡ true → is_new_name theory name ≡ false
known_constant-not_new theory name known = rw known refl

declared_type-not_new : (theory : Theory) (name : List ℕ) → is_declared theory name ≡ true → is_new_name theory name ≡ false
declared_type-not_new theory name known = go (is_some (generic_type theory name)) (is_declared theory name) known
  where
    go : (p q : Bool) → q ≡ true → (not p && not q) ≡ false
    go true q is = refl
    go false true is = refl
    go false false is = cc

-- ---- definitions, from the last test to the first

abbrev in_limits : Theory → List ℕ → NamedTerm → Result Theorem Fault
in_limits theory name term = concluded (with_definition theory name term) [] (equation (constant name (own_type term)) term)

abbrev with_room : Theory → List ℕ → NamedTerm → Result Theorem Fault
with_room theory name term = unless (not (is_full theory)) TooLarge (in_limits theory name term)

abbrev of_new_name : Theory → List ℕ → NamedTerm → Result Theorem Fault
of_new_name theory name term = unless (is_new_name theory name) AlreadyDefined (with_room theory name term)

abbrev of_reflecting : Theory → List ℕ → NamedTerm → Result Theorem Fault
of_reflecting theory name term = unless (reflects (own_type term) term) TypeVarsNotReflected (of_new_name theory name term)

abbrev of_closed : Theory → List ℕ → NamedTerm → Result Theorem Fault
of_closed theory name term = unless (is_closed term) NotClosed (of_reflecting theory name term)

abbrev of_known : Theory → List ℕ → NamedTerm → Result Theorem Fault
of_known theory name term = refused (first_unknown theory term) (of_closed theory name term)

-- a refusal from the test of the name on refuses the definition
of_new_name-refused : (theory : Theory) (name : List ℕ) (term : NamedTerm) → IsRefused (of_new_name theory name term) → IsRefused (define_outcome theory name term)
of_new_name-refused theory name term is =
    later (is_constant_name name) BadName (of_known theory name term)
    (later_refused (first_unknown theory term) (of_closed theory name term)
    (later (is_closed term) NotClosed (of_reflecting theory name term)
    (later (reflects (own_type term) term) TypeVarsNotReflected (of_new_name theory name term) is)))

pub definition-not_new : (theory : Theory) (name : List ℕ) (term : NamedTerm) → is_some (generic_type theory name) ≡ true → IsRefused (define_outcome theory name term)
definition-not_new theory name term known =
    of_new_name-refused theory name term (fails (is_new_name theory name) AlreadyDefined (with_room theory name term) (known_constant-not_new theory name known))

pub definition-too_large : (theory : Theory) (name : List ℕ) (term : NamedTerm) → is_within_limits (equation (constant name (own_type term)) term) ≡ false → IsRefused (define_outcome theory name term)
definition-too_large theory name term large =
    let theorem : Theorem = record { theory = with_definition theory name term; hypotheses = []; conclusion = equation (constant name (own_type term)) term } in
    of_new_name-refused theory name term
    (later (is_new_name theory name) AlreadyDefined (with_room theory name term)
    (later (not (is_full theory)) TooLarge (in_limits theory name term)
    (fails (is_within_limits (equation (constant name (own_type term)) term)) TooLarge (Ok theorem) large)))

pub definition-bad_name : (theory : Theory) (name : List ℕ) (term : NamedTerm) → is_constant_name name ≡ false → IsRefused (define_outcome theory name term)
definition-bad_name theory name term bad = fails (is_constant_name name) BadName (of_known theory name term) bad

-- a test that a refusal shows to have failed
failed_test : {A : Type 0} (test : Bool) (refusal : Fault) (value : A) (fault : Fault) → unless test refusal (Ok value) ≡ Err fault → test ≡ false
failed_test true refusal value fault is = cc
failed_test false refusal value fault is = refl

-- what is answered for a term is the term
answered_term : (term made : NamedTerm) → typed_outcome term ≡ Ok made → made ≡ term
answered_term term made = go (is_some (type_of term)) (is_within_limits term)
  where
    go : (typed fits : Bool) → unless typed TypeMismatch (unless fits TooLarge (Ok term)) ≡ Ok made → made ≡ term
    go true true is = cc
    go true false is = cc
    go false fits is = cc

own_type-is : (term : NamedTerm) (ty : HolType) → type_of term ≡ Some ty → own_type term ≡ ty
own_type-is term ty typed = rw typed refl

-- without its constant a definition has no equation
pub unnamed_equation : (result : Result (Option NamedTerm) Fault) (fault : Fault) (name : List ℕ) (ty : HolType) (term : NamedTerm) → LeavesNone result fault
    → (fault ≡ Memory) ⊎ (constant_outcome name ty ≡ Err fault) → MakesEquation result name term
unnamed_equation (Ok (Some made)) fault name ty term left answered = absurd left
unnamed_equation (Ok None) fault name ty term left answered = λ theory. definition-bad_name theory name term
    (⊎_elim (λ memory. absurd (left memory)) (λ refused. failed_test (is_constant_name name) BadName (constant name ty) fault refused) answered)
unnamed_equation (Err told) fault name ty term left answered = left

-- an equation that is refused is past the limits
pub large_equation : (result : Result (Option NamedTerm) Fault) (fault : Fault) (name : List ℕ) (ty : HolType) (term made : NamedTerm) → type_of term ≡ Some ty
    → constant_outcome name ty ≡ Ok made → LeavesNone result fault → Answers {A = NamedTerm} (Err fault) (equation_outcome made term) → MakesEquation result name term
large_equation (Ok (Some answer)) fault name ty term made typed named left answered = absurd left
large_equation (Ok None) fault name ty term made typed named left answered = λ theory. definition-too_large theory name term
    (⊎_elim (λ memory. absurd (left memory))
    (λ refused. failed_test (is_within_limits (equation (constant name (own_type term)) term)) TooLarge (equation (constant name (own_type term)) term) fault refused)
    (equation-limited (Err fault) (constant name (own_type term)) term (own_type term) refl
    (sym (typed ∙ ap (λ t. Some t) (sym (own_type-is term ty typed))))
    (subst (λ c. Answers {A = NamedTerm} (Err fault) (equation_outcome c term))
    (passed_value (is_constant_name name) BadName (constant name ty) made named ∙ ap (constant name) (sym (own_type-is term ty typed))) answered)))
large_equation (Err told) fault name ty term made typed named left answered = left

pub equation_answered : (name : List ℕ) (ty : HolType) (term made answer : NamedTerm) → type_of term ≡ Some ty → constant_outcome name ty ≡ Ok made
    → equation_outcome made term ≡ Ok answer → answer ≡ equation (constant name (own_type term)) term
equation_answered name ty term made answer typed named is =
    answered_term (equation made term) answer is
    ∙ ap (λ c. equation c term) (passed_value (is_constant_name name) BadName (constant name ty) made named ∙ ap (constant name) (sym (own_type-is term ty typed)))

-- the theorem of a definition that is accepted
pub definition-theorem : (theory : Theory) (name : List ℕ) (term : NamedTerm) (theorem : Theorem) → define_outcome theory name term ≡ Ok theorem
    → theorem ≡ record { theory = with_definition theory name term; hypotheses = []; conclusion = equation (constant name (own_type term)) term }
definition-theorem theory name term theorem same =
    let made : Theorem = record { theory = with_definition theory name term; hypotheses = []; conclusion = equation (constant name (own_type term)) term } in
    let known = passed (is_constant_name name) BadName (of_known theory name term) theorem same in
    let closed = not_refused (first_unknown theory term) (of_closed theory name term) theorem known.1 in
    let reflecting = passed (is_closed term) NotClosed (of_reflecting theory name term) theorem closed.1 in
    let new_name = passed (reflects (own_type term) term) TypeVarsNotReflected (of_new_name theory name term) theorem reflecting.1 in
    let room = passed (is_new_name theory name) AlreadyDefined (with_room theory name term) theorem new_name.1 in
    let limits = passed (not (is_full theory)) TooLarge (in_limits theory name term) theorem room.1 in
    let last = passed (is_within_limits (equation (constant name (own_type term)) term)) TooLarge (Ok made) theorem limits.1 in
    let whole : Ok made ≡ Ok theorem = last.1 in
    let is : made ≡ theorem = cc in
    sym is

-- its line
pub definition-line : (theory : Theory) (scope : Scope) (name stored : List ℕ) (term : NamedTerm) (theorem : Theorem) (line : TheoremLine)
    → define_outcome theory name term ≡ Ok theorem → stored ≡ definition_name name
    → IsLineOf line scope stored (record { theory = []; hypotheses = []; conclusion = equation (constant name (own_type term)) term }) → IsLineOf line scope (definition_name name) theorem
definition-line theory scope name stored term theorem line same named made = record {
  named = made.named ∙ named;
  spelled =
      made.spelled
      ∙ ap (λ (n : List ℕ). text_of_theorem scope (record { name = n; theorem = record { theory = []; hypotheses = []; conclusion = equation (constant name (own_type term)) term } })) named
      ∙ ap (λ (t : Theorem). text_of_theorem scope (record { name = definition_name name; theorem = t })) (sym (definition-theorem theory name term theorem same));
}

-- ---- declarations

abbrev type_with_room : Theory → List ℕ → Result Theory Fault
type_with_room theory name = unless (not (is_full theory)) TooLarge (Ok (declaration_of_type name ∷ theory))

abbrev type_of_new_name : Theory → List ℕ → Result Theory Fault
type_of_new_name theory name = unless (is_new_name theory name) AlreadyDefined (type_with_room theory name)

pub type-not_new : (theory : Theory) (name : List ℕ) → is_declared theory name ≡ true → IsRefused (new_type_outcome theory name)
type-not_new theory name known =
    later (is_declared_type_name name) BadName (type_of_new_name theory name)
    (fails (is_new_name theory name) AlreadyDefined (type_with_room theory name) (declared_type-not_new theory name known))

abbrev const_with_room : Theory → List ℕ → HolType → Result Theory Fault
const_with_room theory name ty = unless (not (is_full theory)) TooLarge (Ok (declaration_of_constant name ty ∷ theory))

abbrev const_of_new_name : Theory → List ℕ → HolType → Result Theory Fault
const_of_new_name theory name ty = unless (is_new_name theory name) AlreadyDefined (const_with_room theory name ty)

abbrev const_of_fixed : Theory → List ℕ → HolType → Result Theory Fault
const_of_fixed theory name ty = unless (is_fixed ty) TypeVarsNotReflected (const_of_new_name theory name ty)

abbrev const_of_known : Theory → List ℕ → HolType → Result Theory Fault
const_of_known theory name ty = unless (knows_type theory ty) UnknownType (const_of_fixed theory name ty)

pub const-not_new : (theory : Theory) (name : List ℕ) (ty : HolType) → is_some (generic_type theory name) ≡ true → IsRefused (new_const_outcome theory name ty)
const-not_new theory name ty known =
    later (is_constant_name name) BadName (const_of_known theory name ty)
    (later (knows_type theory ty) UnknownType (const_of_fixed theory name ty)
    (later (is_fixed ty) TypeVarsNotReflected (const_of_new_name theory name ty)
    (fails (is_new_name theory name) AlreadyDefined (const_with_room theory name ty) (known_constant-not_new theory name known))))

-- ---- sessions

-- the session with another journal and another scope
abbrev pub made : Session → Journal → ScopeHere → Session
made session recorder scope = record session { library = record session.library { recorder = recorder }; scope = scope }

abbrev pub with_scope : Session → ScopeHere → Session
with_scope session scope = record session { scope = scope }

pub same_store : (stored : Stored) → KeepsStore stored stored
same_store stored = record { theorems = λ name. refl; lemmas = refl }

-- a session with the journal, the names and the theorems of before
pub kept_state : (old new : Session) → new.library.recorder ≡ old.library.recorder → KeepsScope (scope_of old.scope) (scope_of new.scope)
    → KeepsStore (stored_of old.library.store) (stored_of new.library.store) → state_of new ≡ state_of old
kept_state old new same keeps stored = λ i. record { theory = (same i).theory; variables = λ name. keeps.variables name i; theorems = λ name. theorem_of (stored.theorems name i) }

-- the same names over the same theory
kept_scope : (theory other : Theory) (old new : Scope) → IsScopeOver theory old → other ≡ theory → KeepsScope old new → IsScopeOver other new
kept_scope theory other old new over same keeps = subst (λ (t : Theory). IsScopeOver t new) (sym same) (record {
  constants = λ name. keeps.constants name ∙ over.constants name;
  types = λ name. keeps.types name ∙ over.types name;
  variables = λ name ty is. over.variables name ty (sym (keeps.variables name) ∙ is);
})

pub kept_session : (old new : Session) → IsSession old → new.library.recorder ≡ old.library.recorder → KeepsScope (scope_of old.scope) (scope_of new.scope)
    → KeepsStore (stored_of old.library.store) (stored_of new.library.store) → KeepsLaws old.library new.library → IsSession new
kept_session old new known same keeps stored laws = record {
  legal = subst (λ (j : Journal). IsLegal j.theory) (sym same) known.legal;
  scope = kept_scope old.library.recorder.theory new.library.recorder.theory (scope_of old.scope) (scope_of new.scope) known.scope (ap (λ (j : Journal). j.theory) same) keeps;
  library = record {
    has_logic = subst (HasLogic new.library.recorder) (sym laws.logic) (subst (λ (j : Journal). HasLogic j old.library.logic) (sym same) known.library.has_logic);
    has_laws = subst (HasLaws new.library.recorder) (sym laws.laws) (subst (λ (j : Journal). HasLaws j old.library.laws) (sym same) known.library.has_laws);
    stored = subst (λ (j : Journal). IsStoreOf j (stored_of new.library.store)) (sym same)
        (kept-made old.library.recorder (stored_of old.library.store) (stored_of new.library.store) stored known.library.stored);
  };
  proved = subst (λ (j : Journal). IsStoreOver j.theory (theorems_in (stored_of new.library.store))) (sym same)
      (proved_same old.library.recorder.theory (stored_of old.library.store) (stored_of new.library.store) stored known.proved);
}

pub same_laws : (library : Library) → KeepsLaws library library
same_laws library = record { logic = refl; laws = refl }

-- a session with a store alone that is another
abbrev pub with_store : Session → Store → Session
with_store session store = record session { library = record session.library { store = store } }

-- what is stored is that of before
pub kept_store : (old : Session) (store : Store) → IsSession old → KeepsStore (stored_of old.library.store) (stored_of store) → IsSession (with_store old store)
kept_store old store known keeps = record {
  legal = known.legal;
  scope = known.scope;
  library = record {
    has_logic = known.library.has_logic;
    has_laws = known.library.has_laws;
    stored = kept-made old.library.recorder (stored_of old.library.store) (stored_of store) keeps known.library.stored;
  };
  proved = proved_same old.library.recorder.theory (stored_of old.library.store) (stored_of store) keeps known.proved;
}

-- one theorem more is stored, which the recorder made
pub stored_session : (old : Session) (store : Store) (name : List ℕ) (answer : Recorded) → IsSession old → IsMade old.library.recorder answer → IsWellFormed answer.theorem
    → StoresTheorem (stored_of old.library.store) (stored_of store) name answer → IsSession (with_store old store)
stored_session old store name answer known is_made formed stores = record {
  legal = known.legal;
  scope = known.scope;
  library = record {
    has_logic = known.library.has_logic;
    has_laws = known.library.has_laws;
    stored = stored-made old.library.recorder (stored_of old.library.store) (stored_of store) name answer stores known.library.stored is_made;
  };
  proved = proved_more old.library.recorder.theory (stored_of old.library.store) (stored_of store) name answer stores (record { proved = formed.is_theorem; earlier = is_made.earlier }) known.proved;
}

-- a scope from which a name was taken that was put in before
pub const_removed : (old mid new : Scope) (name : List ℕ) (ty : HolType) → SetsConstant old mid name (Some ty) → SetsConstant mid new name None → old.generic_type name ≡ None → KeepsScope old new
const_removed old mid new name ty added removed none = record {
  constants = λ other. removed.constants other ∙ go other (bytes_eq name other) refl;
  variables = λ other. removed.variables other ∙ added.variables other;
  types = λ other. removed.types other ∙ added.types other;
}
  where
    go : (other : List ℕ) (test : Bool) → bytes_eq name other ≡ test → update bytes_eq mid.generic_type name None other ≡ old.generic_type other
    go other true is = rw is (sym none ∙ ap old.generic_type ((bytes_eq-Decides name other).0 is))
    go other false is = rw is (added.constants other ∙ rw is refl)

-- the same where a definition was refused in between
pub removed_after : (old : Session) (mid : ScopeHere) (after : Session) (new : ScopeHere) (name : List ℕ) (ty : HolType) → SetsConstant (scope_of old.scope) (scope_of mid) name (Some ty)
    → KeepsSession (made old old.library.recorder mid) after → SetsConstant (scope_of after.scope) (scope_of new) name None
    → (scope_of old.scope).generic_type name ≡ None → KeepsScope (scope_of old.scope) (scope_of new)
removed_after old mid after new name ty added keeps removed none =
    const_removed (scope_of old.scope) (scope_of mid) (scope_of new) name ty added
    (subst (λ (s : ScopeHere). SetsConstant (scope_of s) (scope_of new) name None) keeps.scope removed) none

pub type_removed : (old mid new : Scope) (name : List ℕ) → SetsType old mid name true → SetsType mid new name false → old.declares_type name ≡ false → KeepsScope old new
type_removed old mid new name added removed none = record {
  constants = λ other. removed.constants other ∙ added.constants other;
  variables = λ other. removed.variables other ∙ added.variables other;
  types = λ other. removed.types other ∙ go other (bytes_eq name other) refl;
}
  where
    go : (other : List ℕ) (test : Bool) → bytes_eq name other ≡ test → cond (bytes_eq name other) false (mid.declares_type other) ≡ old.declares_type other
    go other true is = rw is (sym none ∙ ap old.declares_type ((bytes_eq-Decides name other).0 is))
    go other false is = rw is (added.types other ∙ rw is refl)

-- a call that succeeds was not refused
pub never : {A E : Type 0} {x : A} {e : E} → Ok x ≡ Err e → ⊥
never same = cc

pub not_true : (test : Bool) → (test ≡ true → ⊥) → test ≡ false
not_true true none = absurd (none refl)
not_true false none = refl

pub not_some : {A : Type 0} (found : Option A) → (is_some found ≡ true → ⊥) → found ≡ None
not_some None none = refl
not_some (Some x) none = absurd (none refl)

-- ---- variables

pub var_state : (old : Session) (scope : ScopeHere) (name : List ℕ) (ty : HolType) → SetsVariable (scope_of old.scope) (scope_of scope) name ty
    → state_of (made old old.library.recorder scope) ≡ with_variable (state_of old) name ty
var_state old scope name ty sets = λ i.
    record {
      theory = old.library.recorder.theory;
      variables = λ other. sets.variables other i;
      theorems = λ other.
          theorem_of ((stored_of old.library.store).theorems other);
    }

pub var_session : (old : Session) (scope : ScopeHere) (name : List ℕ) (ty : HolType) → IsSession old → knows_type old.library.recorder.theory ty ≡ true
    → SetsVariable (scope_of old.scope) (scope_of scope) name ty → IsSession (made old old.library.recorder scope)
var_session old scope name ty known knows sets = record {
  legal = known.legal;
  scope = record {
    constants = λ other. sets.constants other ∙ known.scope.constants other;
    types = λ other. sets.types other ∙ known.scope.types other;
    variables = λ other found is. go other found (bytes_eq name other) (sym (sets.variables other) ∙ is);
  };
  library = known.library;
  proved = known.proved;
}
  where
    go : (other : List ℕ) (found : HolType) (test : Bool) → cond test (Some ty) ((scope_of old.scope).variable_type other) ≡ Some found → knows_type old.library.recorder.theory found ≡ true
    go other found true is = (let one : ty ≡ found = cc in subst (λ (t : HolType). knows_type old.library.recorder.theory t ≡ true) one knows)
    go other found false is = known.scope.variables other found is

-- ---- declared types

pub grown_state : (old : Session) (grown : Journal) (scope : ScopeHere) → ((name : List ℕ) → (scope_of scope).variable_type name ≡ (scope_of old.scope).variable_type name)
    → state_of (made old grown scope) ≡ over_theory (state_of old) grown.theory
grown_state old grown scope same = λ i. record { theory = grown.theory; variables = λ name. same name i; theorems = λ name. theorem_of ((stored_of old.library.store).theorems name) }

-- the declared variables of before are of types that a later theory knows
variables-later : (old : Session) (scope : Scope) (later : Theory) → IsSession old → ((name : List ℕ) → scope.variable_type name ≡ (scope_of old.scope).variable_type name)
    → IsEarlier old.library.recorder.theory later → IsLegal later → (name : List ℕ) (ty : HolType) → scope.variable_type name ≡ Some ty → knows_type later ty ≡ true
variables-later old scope later known same earlier legal name ty is =
    knows_type-stays old.library.recorder.theory later earlier legal ty (known.scope.variables name ty (sym (same name) ∙ is))

either : (test known : Bool) → cond test true known ≡ (test || known)
either true known = refl
either false known = refl

pub type_session : (old : Session) (grown : Journal) (scope : ScopeHere) (name : List ℕ) → LibrariesGrow → IsSession old → SetsType (scope_of old.scope) (scope_of scope) name true
    → new_type_outcome old.library.recorder.theory name ≡ Ok grown.theory → IsGrown old.library.recorder grown → IsSession (made old grown scope)
type_session old grown scope name stay known sets outcome is_grown =
    let theory = old.library.recorder.theory in
    let added = type-added theory grown.theory name outcome in
    let legal = (type-grows theory grown.theory name outcome).stays_legal known.legal in
    record {
      legal = legal;
      scope = record {
        constants = λ other. sets.constants other ∙ known.scope.constants other ∙ ap (λ (t : Theory). generic_type t other) (sym added);
        types = λ other. sets.types other ∙ ap (λ (b : Bool). cond (bytes_eq name other) true b) (known.scope.types other) ∙ either (bytes_eq name other) (is_declared theory other)
            ∙ ap (λ (t : Theory). is_declared t other) (sym added);
        variables = variables-later old (scope_of scope) grown.theory known sets.variables is_grown.earlier legal;
      };
      library = store-stays stay old.library (made old grown scope).library known.library is_grown refl refl refl;
      proved = proved_later theory grown.theory (theorems_in (stored_of old.library.store)) is_grown.earlier known.proved;
    }

-- ---- declared constants

pub const_session : (old : Session) (grown : Journal) (scope : ScopeHere) (name : List ℕ) (ty : HolType) → LibrariesGrow → IsSession old
    → SetsConstant (scope_of old.scope) (scope_of scope) name (Some ty)
    → new_const_outcome old.library.recorder.theory name ty ≡ Ok grown.theory → IsGrown old.library.recorder grown → IsSession (made old grown scope)
const_session old grown scope name ty stay known sets outcome is_grown =
    let theory = old.library.recorder.theory in
    let added = const-added theory grown.theory name ty outcome in
    let legal = (const-grows theory grown.theory name ty outcome).stays_legal known.legal in
    record {
      legal = legal;
      scope = record {
        constants = λ other. sets.constants other ∙ ap (λ (g : Option HolType). cond (bytes_eq name other) (Some ty) g) (known.scope.constants other)
            ∙ ap (λ (t : Theory). generic_type t other) (sym added);
        types = λ other. sets.types other ∙ known.scope.types other ∙ ap (λ (t : Theory). is_declared t other) (sym added);
        variables = variables-later old (scope_of scope) grown.theory known sets.variables is_grown.earlier legal;
      };
      library = store-stays stay old.library (made old grown scope).library known.library is_grown refl refl refl;
      proved = proved_later theory grown.theory (theorems_in (stored_of old.library.store)) is_grown.earlier known.proved;
    }

pub newconst_outcome-is : (state : State) (name : List ℕ) (tree : TypeTree) (ty : HolType) → type_meaning (scope_in state) tree ≡ Ok ty
    → newconst_outcome state name tree ≡ new_const_outcome state.theory name ty
newconst_outcome-is state name tree ty meant = ap (λ (r : Result HolType Fault). r >>= λ t. new_const_outcome state.theory name t) meant

-- a refusal of an argument is one of the command
pub newconst-argument_refused : (state : State) (name : List ℕ) (tree : TypeTree) (fault : Fault) → type_meaning (scope_in state) tree ≡ Err fault → newconst_outcome state name tree ≡ Err fault
newconst-argument_refused state name tree fault meant = ap (λ (r : Result HolType Fault). r >>= λ t. new_const_outcome state.theory name t) meant

-- ---- definitions

pub def_outcome-is : (state : State) (name : List ℕ) (tree : TermTree) (term : NamedTerm) → meaning (scope_in state) [] tree ≡ Ok term
    → def_outcome state name tree ≡ define_outcome state.theory name term
def_outcome-is state name tree term meant = ap (λ (r : Result NamedTerm Fault). r >>= λ t. define_outcome state.theory name t) meant

pub def-argument_refused : (state : State) (name : List ℕ) (tree : TermTree) (fault : Fault) → meaning (scope_in state) [] tree ≡ Err fault → def_outcome state name tree ≡ Err fault
def-argument_refused state name tree fault meant = ap (λ (r : Result NamedTerm Fault). r >>= λ t. define_outcome state.theory name t) meant

-- the session of a definition: the old one, the scope with the constant, and what `define` made of them
module _ (old new : Session) (scope : ScopeHere) (name : List ℕ) (term : NamedTerm) (ty : HolType) (line : TheoremLine) where
  pub def_session : LibrariesGrow → IsSession old → type_of term ≡ Some ty → SetsConstant (scope_of old.scope) (scope_of scope) name (Some ty)
      → Defines (made old old.library.recorder scope) new name term line → IsSession new
  def_session stay known typed sets d =
      let theory = old.library.recorder.theory in
      let grown : d.answer.theorem.theory ≡ definition name (own_type term) (image term) ∷ theory = definition-accepted theory name term d.answer.theorem d.outcome in
      let own : own_type term ≡ ty = rw typed refl in
      let whole : new.library.recorder.theory ≡ definition name (own_type term) (image term) ∷ theory = d.theory ∙ grown in
      let legal : IsLegal new.library.recorder.theory = subst IsLegal (sym d.theory) d.well_formed.is_theorem.legal in
      record {
        legal = legal;
        scope = record {
          constants = λ other. ap (λ (s : ScopeHere). (scope_of s).generic_type other) d.scope ∙ sets.constants other
              ∙ ap (λ (g : Option HolType). cond (bytes_eq name other) (Some ty) g) (known.scope.constants other)
              ∙ ap (λ (t : HolType). cond (bytes_eq name other) (Some t) (generic_type theory other)) (sym own)
              ∙ ap (λ (t : Theory). generic_type t other) (sym whole);
          types = λ other. ap (λ (s : ScopeHere). (scope_of s).declares_type other) d.scope ∙ sets.types other ∙ known.scope.types other ∙ ap (λ (t : Theory). is_declared t other) (sym whole);
          variables = variables-later old (scope_of new.scope) new.library.recorder.theory known
              (λ other. ap (λ (s : ScopeHere). (scope_of s).variable_type other) d.scope ∙ sets.variables other) d.grown.earlier legal;
        };
        library = libraries-stay stay old.library new.library known.library d.grown d.kept.logic d.kept.laws
            (stored-made new.library.recorder (stored_of old.library.store) (stored_of new.library.store) (definition_name name) d.answer d.stored
            (stores-stay stay.grow old.library.recorder new.library.recorder (stored_of old.library.store) d.grown known.library.stored) d.made);
        proved = proved_more new.library.recorder.theory (stored_of old.library.store) (stored_of new.library.store) (definition_name name) d.answer d.stored
            (record { proved = d.well_formed.is_theorem; earlier = d.made.earlier })
            (proved_later theory new.library.recorder.theory (theorems_in (stored_of old.library.store)) d.grown.earlier known.proved);
      }

  pub def_state : SetsConstant (scope_of old.scope) (scope_of scope) name (Some ty) → (d : Defines (made old old.library.recorder scope) new name term line)
      → state_of new ≡ sessions.with_definition (state_of old) name d.answer.theorem
  def_state sets d =
      let variables : (other : List ℕ) → (scope_of new.scope).variable_type other ≡ (scope_of old.scope).variable_type other =
      λ other. ap (λ (s : ScopeHere). (scope_of s).variable_type other) d.scope ∙ sets.variables other in
      let theorems = stored_theorem d.answer (definition_name name) (stored_of old.library.store) (stored_of new.library.store) d.stored in
      λ i. record { theory = d.theory i; variables = λ other. variables other i; theorems = λ other. theorems other i }

pub def_performs : {tools : Tools} {lemmas : List Theorem} (old new : Session) (scope : ScopeHere) (name : List ℕ) (tree : TermTree) (term : NamedTerm) (ty : HolType) (line : TheoremLine)
    → IsSound → LibrariesGrow → IsSession old → meaning (scope_in (state_of old)) [] tree ≡ Ok term → type_of term ≡ Some ty → SetsConstant (scope_of old.scope) (scope_of scope) name (Some ty)
    → Defines (made old old.library.recorder scope) new name term line → PerformsWith tools lemmas (state_of old) (def_command name tree) (Ok (Line line)) (state_of new)
def_performs {tools} {lemmas} old new scope name tree term ty line sound stay known meant typed sets d =
    let after : IsSession new = def_session old new scope name term ty line stay known typed sets d in
    let outcome : def_outcome (state_of old) name tree ≡ Ok d.answer.theorem = def_outcome-is (state_of old) name tree term meant ∙ d.outcome in
    let allowed : AllowsMessage tools lemmas (state_of old) (def_command name tree) (theorem_line (definition_name name) d.answer.theorem) (state_of new) =
    subst (λ (state : State). AllowsMessage tools lemmas (state_of old) (def_command name tree) (theorem_line (definition_name name) d.answer.theorem) state)
    (sym (def_state old new scope name term ty line sets d)) (def_defines outcome) in
    let printed : IsLineOf line (scope_in (state_of new)) (definition_name name) d.answer.theorem =
    subst (λ (s : Scope). IsLineOf line s (definition_name name) d.answer.theorem) (ap scope_of (sym d.scope) ∙ scope_same new after) d.line_is in
    prints (state_of old) (state_of new) (def_command name tree) (definition_name name) d.answer.theorem line allowed
    (λ beside. proved (with_beside beside (state_of new)) d.answer.theorem sound after.legal d.well_formed (same_is_earlier new.library.recorder.theory d.answer.theorem.theory (sym d.theory))) printed

-- ---- what stays

-- what a recorder made that has grown, or is the same
pub grown_stays : (old new : Session) → LibrariesGrow → IsGrown old.library.recorder new.library.recorder → StaysMade old new
grown_stays old new stay grown = λ made is. stay.grow.stays old.library.recorder new.library.recorder made grown is

pub same_stays : (old new : Session) → new.library.recorder ≡ old.library.recorder → StaysMade old new
same_stays old new same = λ made is. subst (λ (journal : Journal). IsMade journal made) (sym same) is

-- the lemmas of a store that is kept
pub same_lemmas : (old new : Session) → (stored_of new.library.store).lemmas ≡ (stored_of old.library.store).lemmas → lemmas_of new ≡ lemmas_of old
same_lemmas old new same = ap (map (λ (made : Recorded). made.theorem)) same
