-- What the commands leave of a library: the theory of before is an earlier one, and what was stored is stored still.
use Rattle.std.proofs.Common.{◌≡◌, ◌∷◌, List, ℕ, refl, sym, subst, None, Ok}
use Rattle.std.specs.Prelude.{true}
use Rattle.hol_model.specs.Terms.HolType.{HolType}
use Rattle.hol_model.specs.Terms.NamedTerm.{NamedTerm}
use Rattle.hol_model.specs.Terms.Nameless.{image}
use Rattle.hol_model.specs.Logic.Theory.{Theory, Entry, definition, IsEarlier}
use Rattle.hol_model.specs.Logic.Legality.{own_type}
use Rattle.hol_model.specs.Kernel.Theorem.{Theorem}
use Rattle.hol_model.specs.Kernel.Rules.{define_outcome}
use Rattle.hol_model.proofs.Logic.Earlier.{earlier-same, earlier-more}
use Rattle.hol_model_sessions.specs.Sessions.{State, with_theorem, with_variable, over_theory, with_definition, is_theorem_name}
use Rattle.hol_laws_sessions.proofs.Growth.{definition-accepted}
use Rattle.hol_laws_sessions.proofs.StoredTheorems.{Keeps, stored-keeps, defined-keeps, grown-keeps}
use Rattle.hol_script_session.specs.SessionState.{IsLaterLibrary}

later_same : (library : State) → IsLaterLibrary library library
later_same library = record { earlier = earlier-same library.theory library.theory refl; told = λ told. told; stays = λ told name theorem is. is }

-- nothing changed
pub later_as : (old new : State) → new ≡ old → IsLaterLibrary old new
later_as old new same = subst (IsLaterLibrary old) (sym same) (later_same old)

later_by : (old new : State) → IsEarlier old.theory new.theory → Keeps old new → IsLaterLibrary old new
later_by old new earlier keeps = record { earlier = earlier; told = keeps.is_told; stays = keeps.stays }

-- a variable declared
pub later_var : (old new : State) (name : List ℕ) (ty : HolType) → new ≡ with_variable old name ty → IsLaterLibrary old new
later_var old new name ty same = subst (IsLaterLibrary old) (sym same) (record {
  earlier = earlier-same old.theory old.theory refl;
  told = λ told. record { told = told.told };
  stays = λ told other theorem is. is;
})

-- a theorem stored under a new name
pub later_stored : (old new : State) (name : List ℕ) (theorem : Theorem) → is_theorem_name name ≡ true → old.theorems name ≡ None → new ≡ with_theorem old name theorem → IsLaterLibrary old new
later_stored old new name theorem named none same = subst (IsLaterLibrary old) (sym same)
    (later_by old (with_theorem old name theorem) (earlier-same old.theory old.theory refl) (stored-keeps old name theorem named none))

-- one more entry of the theory
pub later_grown : (old new : State) (theory : Theory) (entry : Entry) → theory ≡ entry ∷ old.theory → new ≡ over_theory old theory → IsLaterLibrary old new
later_grown old new theory entry grown same = subst (IsLaterLibrary old) (sym same)
    (later_by old (over_theory old theory) (earlier-more entry old.theory theory grown) (grown-keeps old theory entry grown))

-- a definition, whose theorem is stored
pub later_defined : (old new : State) (name : List ℕ) (term : NamedTerm) (theorem : Theorem) → define_outcome old.theory name term ≡ Ok theorem
    → new ≡ with_definition old name theorem → IsLaterLibrary old new
later_defined old new name term theorem outcome same = subst (IsLaterLibrary old) (sym same)
    (later_by old (with_definition old name theorem) (earlier-more (definition name (own_type term) (image term)) old.theory theorem.theory (definition-accepted old.theory name term theorem outcome))
    (defined-keeps old name term theorem outcome))
