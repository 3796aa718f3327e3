-- How the theorems of the prelude are stored, one after another.
use Rattle.std.proofs.Common.{◌≡◌, ◌<◌, inl, inr, ℕ, List, [], ◌∷◌, length, drop, ◌∙◌, ap, sym, subst, Option, None, Some, Result, Ok, Err, get_or, drop-cons, add-one}
use Rattle.std.specs.Prelude.{slice_get, slice_index_or, OnOk, ◌+◌}
use Rattle.std.proofs.lemmas.Option.{slice_get_cases}
use Rattle.hol_model.specs.Kernel.Theorem.{Theorem}
use Rattle.hol_model.specs.Logic.Theory.{Theory}
use Rattle.hol_model.specs.Terms.HolType.{HolType}
use Rattle.hol_model.specs.Texts.Reading.{Scope}
use Rattle.hol_laws_sessions.specs.ReadTerms.{IsScopeOver}
use Rattle.hol_model_sessions.specs.Sessions.{State, with_theorem, with_theorems}
use Rattle.hol_model.specs.declared.fault.Fault.{Fault}
use Rattle.hol_journal.specs.Journal.{Recorded}
use Rattle.hol_prelude.specs.Prelude.{prelude_theorems}
use Rattle.hol_script_session.specs.Beginning.{StoredTheorem, IsScopeOf, AreStoredTheorems, StoresNumbered}

-- the item at a place, before what is left behind it
pub item-at : {X : Type 0} → (items : List X) (at : ℕ) (default : X) → at < length items → drop at items ≡ get_or items at default ∷ drop (at + 1) items
item-at items at default within = drop-cons items at default within ∙ ap (λ (n : ℕ). get_or items at default ∷ drop n items) (sym (add-one at))

within : {A : Type 0} → (items : List A) (at : ℕ) (x : A) → slice_get items at ≡ Some x → at < length items
within items at x there = elim (slice_get_cases items at).1 [
  | inl found ↦ found.1
  | inr past ↦ (let none = past.1 in cc)
]

-- the theorems up to what is left are stored
pub record IsStoringTo (old now : State) (left : List StoredTheorem) (all : List (List ℕ × Theorem)) : Type 0 where
  pub later : List (List ℕ × Theorem)
  pub matched : AreStoredTheorems left later
  pub same : with_theorems now later ≡ with_theorems old all

pub storing-further : (old now new : State) (stored : StoredTheorem) (left : List StoredTheorem) (all : List (List ℕ × Theorem)) → IsStoringTo old now (stored ∷ left) all
    → StoresNumbered now new stored.0.now stored.1 → IsStoringTo old new left all
storing-further old now new stored left all storing stores = go storing.later storing.matched storing.same
  where
    go : (later : List (List ℕ × Theorem)) → AreStoredTheorems (stored ∷ left) later → with_theorems now later ≡ with_theorems old all → IsStoringTo old new left all
    go [] matched same = absurd matched
    go (named ∷ later) matched same = record {
      later = later;
      matched = matched.1;
      same = ap (λ (s : State). with_theorems s later) (stores.stores named.1 matched.0.1 ∙ ap (λ (n : List ℕ). with_theorem now n named.1) matched.0.0) ∙ same;
    }

-- the number of a theorem that is stored next is one of the prelude
pub storing-within : (old now : State) (stored : StoredTheorem) (left : List StoredTheorem) (all : List (List ℕ × Theorem))
    → IsStoringTo old now (stored ∷ left) all → stored.1 < length prelude_theorems
storing-within old now stored left all storing = go storing.later storing.matched
  where
    go : (later : List (List ℕ × Theorem)) → AreStoredTheorems (stored ∷ left) later → stored.1 < length prelude_theorems
    go [] matched = absurd matched
    go (named ∷ later) matched = within prelude_theorems stored.1 named.1 matched.0.1

-- the theorem of a number is stored
pub numbered-stored : {A : Type 0} → (result : Result A Fault) (old new : State) (name : List ℕ) (number : ℕ) (made answer : Recorded)
    → made ≡ answer → slice_get prelude_theorems number ≡ Some answer.theorem
    → OnOk result (new ≡ with_theorem old name made.theorem) → OnOk result (StoresNumbered old new name number)
numbered-stored (Ok done) old new name number made answer same there stored = record {
  stores = λ theorem found. (let is : answer.theorem ≡ theorem = cc in stored ∙ ap (λ (t : Theorem). with_theorem old name t) (ap (λ (m : Recorded). m.theorem) same ∙ is));
}
numbered-stored (Err fault) old new name number made answer same there stored = tt

-- the same at a place of the table
pub storing-next : (old now : State) (table : List StoredTheorem) (at : ℕ) (default : StoredTheorem) (all : List (List ℕ × Theorem)) → at < length table → IsStoringTo old now (drop at table) all
    → IsStoringTo old now (slice_index_or table at default ∷ drop (at + 1) table) all
storing-next old now table at default all inside storing = subst (λ (left : List StoredTheorem). IsStoringTo old now left all) (item-at table at default inside) storing

pub next-number : (old now : State) (table : List StoredTheorem) (at : ℕ) (default : StoredTheorem) (all : List (List ℕ × Theorem)) → at < length table → IsStoringTo old now (drop at table) all
    → (slice_index_or table at default).1 < length prelude_theorems
next-number old now table at default all inside storing =
    storing-within old now (slice_index_or table at default) (drop (at + 1) table) all (storing-next old now table at default all inside storing)

-- the scope of a theory that has no variables is one over it
pub logical_over : (scope : Scope) (theory other : Theory) → IsScopeOf scope theory → other ≡ theory → IsScopeOver other scope
logical_over scope theory other of same = subst (λ (t : Theory). IsScopeOver t scope) (sym same) (record {
  constants = of.constants;
  types = of.types;
  variables = λ name ty is. (let none : ◌≡◌ {A = Option HolType} None (Some ty) = sym (of.variables name) ∙ is in cc);
})
