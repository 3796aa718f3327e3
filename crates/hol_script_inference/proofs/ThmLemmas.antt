-- What may come of `thm`, what the call says of it, and what it leaves.
use Rattle.std.proofs.Common.{◌≡◌, ◌⊎◌, inl, inr, ℕ, List, Bool, true, false, not, Option, None, Some, Ok, Err, refl, sym, ap, subst, ◌∙◌, append-nil}
use Rattle.std.specs.Prelude.{is_some}
use Rattle.hol_model.specs.declared.fault.Fault.{Fault}
use Rattle.hol_model.specs.declared.fault.Fault.TheVariants.{Memory, BadName, NameTaken}
use Rattle.hol_model.specs.Kernel.Theorem.{Theorem}
use Rattle.hol_model.specs.Kernel.Answers.{Unless, goes_on, stops}
use Rattle.hol_model_sessions.specs.CommandGrammar.{TheoremTree, thm_command}
use Rattle.hol_model_sessions.specs.Sessions.{scope_in, with_theorem, is_theorem_name}
use Rattle.hol_model_sessions.specs.Sessions.{State as Library}
use Rattle.hol_model_sessions.specs.Replies.{theorem_line, Refusal, refusal_of, text_of_theorem}
use Rattle.hol_model_sessions.specs.ScriptSessions.{Tools, Outcome, says_theorem, with_library}
use Rattle.hol_script_session.specs.declared.session.Session.{Session}
use Rattle.hol_script_session.specs.declared.reply.Printed.{Printed}
use Rattle.hol_script_session.specs.declared.reply.Refused.{Refused}
use Rattle.hol_script_session.specs.SessionState.{state_of, IsLaterLibrary}
use Rattle.hol_script_session.specs.Performing.{ComesTo}
use Rattle.hol_script_session.specs.Answers.{Beside, with_beside, plain, IsNewName, TestsName, PerformsWith}
use Rattle.hol_script_session.specs.Growth.{Stores}
use Rattle.hol_script_session.proofs.AllowedLemmas.{AllowsRefusal, AllowsMessage}
use Rattle.hol_script_session.proofs.SessionLemmas.{refuses}
use Rattle.hol_script_inference.specs.Answers.{MayGive, RefusesTheorem}

-- ---- what may come of it

pub thm_has_bad_name : {tools : Tools} {lemmas : List Theorem} {library : Library} {name : List ℕ} {tree : TheoremTree}
    → is_theorem_name name ≡ false → AllowsRefusal tools lemmas library (thm_command name tree) BadName
thm_has_bad_name {tools} {lemmas} {library} {name} {tree} bad = record {
  allowed = λ beside same. inr (go _ (is_theorem_name name) bad);
}
  where
    go : (next : Outcome → Type 0) (test : Bool) → test ≡ false → Unless test (refusal_of BadName) next (Err (refusal_of BadName))
    go next true is = cc
    go next false is = refl

-- a name that is given anew
named-anew : (next : Outcome → Type 0) (outcome : Outcome) (test : Bool) (found : Option Theorem) → test ≡ true → found ≡ None → next outcome
    → Unless test (refusal_of BadName) (Unless (not (is_some found)) (refusal_of NameTaken) next) outcome
named-anew next outcome true None named none given = given
named-anew next outcome true (Some there) named none given = cc
named-anew next outcome false found named none given = cc

-- a name that is taken
named-twice : (next : Outcome → Type 0) (test : Bool) (found : Option Theorem) (there : Theorem) → test ≡ true → found ≡ Some there
    → Unless test (refusal_of BadName) (Unless (not (is_some found)) (refusal_of NameTaken) next) (Err (refusal_of NameTaken))
named-twice next true (Some other) there named is = refl
named-twice next true None there named is = cc
named-twice next false found there named is = cc

pub thm_has_taken_name : {tools : Tools} {lemmas : List Theorem} {library : Library} {name : List ℕ} {tree : TheoremTree} {there : Theorem}
    → is_theorem_name name ≡ true → library.theorems name ≡ Some there → AllowsRefusal tools lemmas library (thm_command name tree) NameTaken
thm_has_taken_name {tools} {lemmas} {library} {name} {tree} {there} named is = record {
  allowed = λ beside same. inr (named-twice _ (is_theorem_name name) (library.theorems name) there named is);
}

-- what is asked for is refused, perhaps with a row
pub thm_is_refused : (tools : Tools) (lemmas : List Theorem) (library : Library) (name : List ℕ) (tree : TheoremTree) (refusal : Refusal)
    → is_theorem_name name ≡ true → library.theorems name ≡ None → MayGive tools lemmas library tree (Err refusal)
    → (beside : Beside) → beside.lemmas ≡ lemmas → ComesTo tools (with_beside beside library) (thm_command name tree) (Err refusal)
thm_is_refused tools lemmas library name tree refusal named none may = λ beside same.
    inr (named-anew _ (Err refusal) (is_theorem_name name) (library.theorems name) named none (stops refusal (may beside same) refl))

pub thm_stores : {tools : Tools} {lemmas : List Theorem} {library : Library} {name : List ℕ} {tree : TheoremTree} {theorem : Theorem}
    → is_theorem_name name ≡ true → library.theorems name ≡ None → MayGive tools lemmas library tree (Ok theorem)
    → AllowsMessage tools lemmas library (thm_command name tree) (theorem_line name theorem) (with_theorem library name theorem)
thm_stores {tools} {lemmas} {library} {name} {tree} {theorem} named none may = record {
  allowed = λ beside same.
      inr (named-anew _ (Ok (says_theorem name theorem (with_library (with_beside beside library) (with_theorem library name theorem)))) (is_theorem_name name) (library.theorems name) named none
      (goes_on theorem (may beside same) refl));
}

-- ---- what the call says

some_there : (found : Option Theorem) → is_some found ≡ true → (there : Theorem) × (found ≡ Some there)
some_there None is = cc
some_there (Some there) is = (there, refl)

-- a name that may not be given
pub misnamed : {tools : Tools} {lemmas : List Theorem} (state : Library) (name : List ℕ) (tree : TheoremTree) (fault : Fault)
    → TestsName {A = Unit {0}} state name (Err fault) → PerformsWith tools lemmas state (thm_command name tree) (Err (plain fault)) state
misnamed {tools} {lemmas} state name tree fault (inl bad) =
    subst (λ (f : Fault). PerformsWith tools lemmas state (thm_command name tree) (Err (plain f)) state) (sym bad.0) (refuses state (thm_command name tree) BadName (thm_has_bad_name bad.1))
misnamed {tools} {lemmas} state name tree fault (inr taken) =
    let there = some_there (state.theorems name) taken.2 in
    subst (λ (f : Fault). PerformsWith tools lemmas state (thm_command name tree) (Err (plain f)) state) (sym taken.0)
    (refuses state (thm_command name tree) NameTaken (thm_has_taken_name taken.1 there.1))

-- what is asked for is refused
pub thm_refuses : {tools : Tools} {lemmas : List Theorem} (old new : Library) (name : List ℕ) (tree : TheoremTree) (refused : Refused) → new ≡ old
    → is_theorem_name name ≡ true → old.theorems name ≡ None → RefusesTheorem tools lemmas old tree refused → PerformsWith tools lemmas old (thm_command name tree) (Err refused) new
thm_refuses {tools} {lemmas} old new name tree refused same named none r =
    subst (λ (state : Library). PerformsWith tools lemmas old (thm_command name tree) (Err refused) state) (sym same) (record {
      performs = λ beside own. record {
        outcome = Err r.refusal;
        comes = go beside own r.may;
        leaves = refl;
        says = r.says;
        is_true = record { theorem = tt; goals = tt; row = r.readable beside };
      };
    })
  where
    go : (beside : Beside) → beside.lemmas ≡ lemmas → (r.refusal ≡ refusal_of Memory) ⊎ MayGive tools lemmas old tree (Err r.refusal)
        → ComesTo tools (with_beside beside old) (thm_command name tree) (Err r.refusal)
    go beside own (inl memory) = inl (ap (λ (refusal : Refusal). Err refusal) memory)
    go beside own (inr may) = thm_is_refused tools lemmas old name tree r.refusal named none may beside own

-- the theorem is stored and printed, over a state that is that of before
pub thm_keeps : {tools : Tools} {lemmas : List Theorem} (old mid new : Session) (name : List ℕ) (tree : TheoremTree) (theorem : Theorem) (printed : Printed) → state_of mid ≡ state_of old
    → IsNewName (state_of old) name → MayGive tools lemmas (state_of old) tree (Ok theorem) → Stores mid new name theorem printed
    → PerformsWith tools lemmas (state_of old) (thm_command name tree) (Ok printed) (state_of new)
thm_keeps {tools} {lemmas} old mid new name tree theorem printed same free may stores =
    let whole : state_of new ≡ with_theorem (state_of old) name theorem = stores.state ∙ ap (λ (s : Library). with_theorem s name theorem) same in
    let allows : AllowsMessage tools lemmas (state_of old) (thm_command name tree) (theorem_line name theorem) (state_of new) =
    subst (λ (s : Library). AllowsMessage tools lemmas (state_of old) (thm_command name tree) (theorem_line name theorem) s) (sym whole) (thm_stores free.named free.none may) in
    record {
      performs = λ beside own. record {
        outcome = Ok (record { message = theorem_line name theorem; after = with_beside beside (state_of new) });
        comes = allows.allowed beside own;
        leaves = refl;
        says = record {
          spelled = stores.spelled ∙ sym (append-nil (text_of_theorem (scope_in (state_of new)) (record { name = name; theorem = theorem })));
          named = stores.named;
        };
        is_true = record { theorem = stores.proved beside; goals = tt; row = tt };
      };
    }

-- ---- what it leaves

-- the library of before is itself the same as another
pub later_from : (old mid new : Library) → mid ≡ old → IsLaterLibrary mid new → IsLaterLibrary old new
later_from old mid new same later = subst (λ (s : Library). IsLaterLibrary s new) same later
