-- Searching a term for a variable, part by part.
use Rattle.std.proofs.Common.{◌≡◌, ℕ, ◌<◌, List, [], length, Bool, true, false, ◌||◌, refl, sym, ◌∙◌, ap, subst, Some, Result, Ok, Err, IfOk}
use Rattle.std.specs.Prelude.{slice_get}
use Rattle.std.proofs.lemmas.Option.{slice_get-get_or}
use Rattle.hol_model.specs.declared.fault.Fault.{Fault}
use Rattle.hol_model.specs.Terms.HolType.{HolType}
use Rattle.hol_model.specs.Terms.NamedTerm.{same_variable}
use Rattle.hol_model.specs.Terms.Nameless.{Nameless, free, const, bound, app, lam}
use Rattle.hol_model.specs.Logic.Checks.{has_no_free}
use Rattle.hol_model.specs.Terms.Substitution.{occurs_free}
use Rattle.hol_model.proofs.Logic.Conditions.{first_of_both, second_of_both}
use Rattle.hol_model.proofs.Tests.{same_variable-self, same_name, same_variable-type}
use Rattle.hol_check_terms.specs.Table.{HaveOneNumber}
use Rattle.hol_check_terms.specs.Terms.{term_at}
use Rattle.hol_check_terms.specs.Occurs.{AreAbsent, IsSearched}
use Rattle.hol_check_terms.specs.Numbers.{IsNotedWhere}
use Rattle.hol_check_terms.proofs.NumberLemmas.{noted-all}
use Rattle.hol_check_terms.proofs.GrowthLemmas.{term-there}

-- a term without free variables has not this one
none_free : (name : List ℕ) (ty : HolType) (t : Nameless) → has_no_free t ≡ true → occurs_free name ty t ≡ false
none_free name ty (free other s) none = cc
none_free name ty (const other s) none = refl
none_free name ty (bound index) none = refl
none_free name ty (app f a) none = cc (none_free name ty f (first_of_both (has_no_free f) (has_no_free a) none), none_free name ty a (second_of_both (has_no_free f) (has_no_free a) none))
none_free name ty (lam s body) none = none_free name ty body none

pub searched-variable : (name : List ℕ) (ty : HolType) (terms : List Nameless) (numbers : List ℕ) (number variable : ℕ) → slice_get terms variable ≡ Some (free name ty) → number ≡ variable →
    AreAbsent terms name ty numbers
    → IsSearched name ty (term_at terms number) (Ok true) terms numbers
searched-variable name ty terms numbers number variable there same absent =
    let term : term_at terms number ≡ free name ty = ap (term_at terms) same ∙ term-there terms variable _ there in
    record { found = sym (ap (occurs_free name ty) term ∙ same_variable-self name ty); absent = absent }

pub searched-none_free : (name : List ℕ) (ty : HolType) (terms : List Nameless) (numbers : List ℕ) (number : ℕ) → has_no_free (term_at terms number) ≡ true → AreAbsent terms name ty numbers
    → IsSearched name ty (term_at terms number) (Ok false) terms numbers
searched-none_free name ty terms numbers number none absent = record { found = sym (none_free name ty (term_at terms number) none); absent = absent }

pub searched-free : (name : List ℕ) (ty : HolType) (terms : List Nameless) → HaveOneNumber terms → (numbers : List ℕ) (number variable : ℕ) (other : List ℕ) (s : HolType) →
    number < length terms → slice_get terms variable ≡ Some (free name ty) → ¬ (number ≡ variable)
    → term_at terms number ≡ free other s → AreAbsent terms name ty numbers → IsSearched name ty (term_at terms number) (Ok false) terms numbers
searched-free name ty terms one numbers number variable other s within there differ is absent =
    record { found = sym (ap (occurs_free name ty) is ∙ go (same_variable name ty other s) refl); absent = absent }
  where
    go : (test : Bool) → same_variable name ty other s ≡ test → test ≡ false
    go true passed =
        let names : name ≡ other = same_name name other ty s passed in
        let types : ty ≡ s = same_variable-type name other ty s passed in
        let terms_same : free name ty ≡ free other s = (λ i. free (names i) (types i)) in
        absurd (differ (one number variable (free other s) (slice_get-get_or terms number (bound 0) within ∙ ap Some is) (there ∙ ap Some terms_same)))
    go false passed = refl

-- neither part of a combination has the variable, or the argument has it
pub searched-argument : (name : List ℕ) (ty : HolType) (t f a : Nameless) (first found : Bool) → t ≡ app f a → first ≡ false → first ≡ occurs_free name ty f → found ≡ occurs_free name ty a →
    found ≡ occurs_free name ty t
searched-argument name ty t f a first found is failed left right =
    let none : occurs_free name ty f ≡ false = sym left ∙ failed in
    right ∙ sym (ap (occurs_free name ty) is ∙ ap (λ test. test || occurs_free name ty a) none)

-- the search of a whole, after its parts
pub searched-whole : (name : List ℕ) (ty : HolType) (terms : List Nameless) (numbers now : List ℕ) (number : ℕ) (found : Bool) (result : Result Bool Fault) →
    found ≡ occurs_free name ty (term_at terms number) → IfOk result (λ same. same ≡ found)
    → IsNotedWhere found false number numbers now → AreAbsent terms name ty numbers → IsSearched name ty (term_at terms number) result terms now
searched-whole name ty terms numbers now number found result is same noted absent = record { found = handed result same; absent = after }
  where
    handed : (result : Result Bool Fault) → IfOk result (λ same. same ≡ found) → IfOk result (λ occurs. occurs ≡ occurs_free name ty (term_at terms number))
    handed (Ok test) same = same ∙ is
    handed (Err fault) same = tt

    after : AreAbsent terms name ty now
    after other there = noted-all (λ n. occurs_free name ty (term_at terms n) ≡ false) found false number numbers now absent (λ none. sym is ∙ none) noted other there

pub nothing-noted : (terms : List Nameless) (name : List ℕ) (ty : HolType) (numbers : List ℕ) → numbers ≡ [] → AreAbsent terms name ty numbers
nothing-noted terms name ty numbers none number noted =
    let there : slice_get {X = ℕ} [] noted.0 ≡ Some number = subst (λ l. slice_get l noted.0 ≡ Some number) none noted.1 in
    cc
