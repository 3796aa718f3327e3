-- What a rule leaves of a session.
use Rattle.std.proofs.Common.{◌≡◌, [], refl, sym, subst, ap, append-nil, Result, Err}
use Rattle.hol_model.specs.declared.fault.Fault.{Fault}
use Rattle.hol_model.specs.Logic.Theory.{Theory, IsLegal}
use Rattle.hol_model.specs.Goals.Replays.{IsStoreOver}
use Rattle.hol_journal.specs.Journal.{Journal, Recorded}
use Rattle.hol_journal.specs.Growth.{IsGrown, Continues}
use Rattle.hol_syntax.specs.declared.scope.Scope.{Scope as ScopeHere}
use Rattle.hol_syntax.specs.Scope.{scope_of}
use Rattle.hol_laws_sessions.specs.ReadTerms.{IsScopeOver}
use Rattle.hol_script_session.specs.declared.session.Session.{Session}
use Rattle.hol_theorem_store.specs.Stored.{theorems_in}
use Rattle.hol_theorem_store.specs.declared.store.Store.{Store}
use Rattle.hol_theorem_store.specs.Store.{stored_of}
use Rattle.hol_script_session.specs.SessionState.{state_of, theorem_of, lemmas_of, IsSession, StaysMade, LibrariesGrow}
use Rattle.hol_script_inference.specs.Recording.{over_journal, GrowsJournal, MakesTheorem}
use Rattle.hol_script_session.proofs.RecordingLemmas.{store-stays}

no_growth : (journal : Journal) → IsGrown journal journal
no_growth journal = record { added = []; entries = sym (append-nil journal.entries); earlier = record { added = []; is_added = refl } }

-- a refusal before any rule
pub nothing-grows : (session : Session) (fault : Fault) → GrowsJournal session session (Err fault)
nothing-grows session fault = record { continues = record { grown = no_growth session.library.recorder; theory = refl; held = tt }; kept = refl }

-- it does not matter for which fault a rule is refused
pub refused-grows : (session : Session) (new : Journal) (fault other : Fault) → Continues session.library.recorder new (Err fault) → GrowsJournal session (over_journal session new) (Err other)
refused-grows session new fault other continues = record { continues = record { grown = continues.grown; theory = continues.theory; held = tt }; kept = refl }

-- the session after what is made for `thm`
module _ (old new : Session) (result : Result Recorded Fault) (makes : MakesTheorem old new result) where
  scope_kept : new.scope ≡ old.scope
  scope_kept = ap (λ (s : Session). s.scope) makes.kept

  store_kept : new.library.store ≡ old.library.store
  store_kept = ap (λ (s : Session). s.library.store) makes.kept

  pub made_state : state_of new ≡ state_of old
  made_state = λ i. record {
    theory = makes.theory i;
    variables = (scope_of (scope_kept i)).variable_type;
    theorems = λ name. theorem_of ((stored_of (store_kept i)).theorems name);
  }

  pub made_session : LibrariesGrow → IsSession old → IsSession new
  made_session stay known = record {
    legal = subst IsLegal (sym makes.theory) known.legal;
    scope = subst (λ (theory : Theory). IsScopeOver theory (scope_of new.scope)) (sym makes.theory)
        (subst (λ (s : ScopeHere). IsScopeOver old.library.recorder.theory (scope_of s)) (sym scope_kept) known.scope);
    library = store-stays stay old.library new.library known.library makes.grown (ap (λ (s : Session). s.library.logic) makes.kept)
        (ap (λ (s : Session). s.library.laws) makes.kept) store_kept;
    proved = subst (λ (theory : Theory). IsStoreOver theory (theorems_in (stored_of new.library.store))) (sym makes.theory)
        (subst (λ (s : Store). IsStoreOver old.library.recorder.theory (theorems_in (stored_of s))) (sym store_kept) known.proved);
  }

  pub made_lemmas : lemmas_of new ≡ lemmas_of old
  made_lemmas = ap (λ (s : Store). (theorems_in (stored_of s)).lemmas) store_kept

  pub made_stays : LibrariesGrow → StaysMade old new
  made_stays stay = λ made is. stay.grow.stays old.library.recorder new.library.recorder made makes.grown is
