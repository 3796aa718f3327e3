-- Binders whose variables are not free in a term.
use Rattle.std.proofs.Common.{◌≡◌, ℕ, suc, ◌+◌, List, [], ◌∷◌, ◌++◌, Bool, true, false, ◌&&◌, ◌||◌, not, refl, sym, ◌∙◌, ap, subst, Option, Some, None, if◌then◌else◌, arith}
use Rattle.std.specs.Prelude.{slice_get}
use Rattle.std.specs.Option.{option_map, option_map_or}
use Rattle.hol_model.specs.Terms.HolType.{HolType}
use Rattle.hol_model.specs.Terms.NamedTerm.{NamedTerm, variable, constant, combination, abstraction, Binder, same_variable, is_free}
use Rattle.hol_model.specs.Terms.Nameless.{Nameless, free, bound, app, lam, image, image_under, binder_index}
use Rattle.hol_model.specs.Logs.LogSequents.{variable_name}
use Rattle.hol_model.specs.Logs.LogState.{term_type}
use Rattle.hol_model.proofs.Tests.{same_variable-type, same_variable-self, same_variable-sym, same_name}
use Rattle.hol_check_terms.specs.Table.{HaveOneNumber}
use Rattle.hol_check_terms.specs.Terms.{term_at}
use Rattle.hol_check_written.specs.Variables.{IsAmong}
use Rattle.hol_check_written.specs.Written.{IsFree, AreCounted}
use Rattle.hol_check_written.specs.Making.{binders_in, AreCovered, AreBinders}
use Rattle.hol_check_written.specs.declared.variables.Variables.{Variables}
use Rattle.hol_check_written.specs.declared.making.Binders.{Binders, Outermost, Under'}
use Rattle.hol_check_written.proofs.WritesLemmas.{free-there}

-- no variable that is free in the term has one of the binders outside as its own
abbrev IsOutside : List Binder → List Binder → NamedTerm → Type 0
IsOutside inner outer term = (name : List ℕ) (ty : HolType) → is_free name ty term ≡ true → binder_index inner name ty ≡ None → binder_index outer name ty ≡ None

variable-outside : (inner outer : List Binder) (name : List ℕ) (ty : HolType) → (binder_index inner name ty ≡ None → binder_index outer name ty ≡ None) →
    binder_index (inner ++ outer) name ty ≡ binder_index inner name ty
variable-outside [] outer name ty none = none refl
variable-outside (binder ∷ inner) outer name ty none = go (same_variable binder.0 binder.1 name ty) (binder_index inner name ty) refl none (variable-outside inner outer name ty)
  where
    differ : (index : ℕ) → ¬ (Some index ≡ None)
    differ index same = cc

    go : (test : Bool) (found : Option ℕ) → binder_index inner name ty ≡ found → ((if test then Some 0 else option_map suc found) ≡ None → binder_index outer name ty ≡ None)
        → ((binder_index inner name ty ≡ None → binder_index outer name ty ≡ None) → binder_index (inner ++ outer) name ty ≡ binder_index inner name ty)
        → (if test then Some 0 else option_map suc (binder_index (inner ++ outer) name ty)) ≡ (if test then Some 0 else option_map suc (binder_index inner name ty))
    go true found is none deeper = refl
    go false None is none deeper = ap (option_map suc) (deeper (λ _. none refl))
    go false (Some index) is none deeper = ap (option_map suc) (deeper (λ absent. absurd (differ index (sym is ∙ absent))))

skipped : (inner outer : List Binder) (other : List ℕ) (s : HolType) (body : NamedTerm) → IsOutside inner outer (abstraction other s body) → (name : List ℕ) (ty : HolType) →
    is_free name ty body ≡ true
    → (test : Bool) (found : Option ℕ) → same_variable other s name ty ≡ test → binder_index inner name ty ≡ found → (if test then Some 0 else option_map suc found) ≡ None →
    binder_index outer name ty ≡ None
skipped inner outer other s body absent name ty occurs true found same is none = cc
skipped inner outer other s body absent name ty occurs false None same is none = absent name ty (ap (λ b. not b && is_free name ty body) (same_variable-sym name other ty s ∙ same) ∙ occurs) is
skipped inner outer other s body absent name ty occurs false (Some index) same is none = cc

abstraction-outside : (inner outer : List Binder) (other : List ℕ) (s : HolType) (body : NamedTerm) → IsOutside inner outer (abstraction other s body) → IsOutside ((other, s) ∷ inner) outer body
abstraction-outside inner outer other s body absent = λ name ty occurs none.
    let go : (test : Bool) (found : Option ℕ) → same_variable other s name ty ≡ test → binder_index inner name ty ≡ found → (if test then Some 0 else option_map suc found) ≡ None →
    binder_index outer name ty ≡ None =
    skipped inner outer other s body absent name ty occurs in
    go (same_variable other s name ty) (binder_index inner name ty) refl refl none

pub outside : (inner outer : List Binder) (term : NamedTerm) → IsOutside inner outer term → image_under (inner ++ outer) term ≡ image_under inner term
outside inner outer (variable name ty) absent = ap (λ found. option_map_or bound found (free name ty)) (variable-outside inner outer name ty (absent name ty (same_variable-self name ty)))
outside inner outer (constant name ty) absent = refl
outside inner outer (combination f x) absent =
    let function = outside inner outer f (λ name ty occurs. absent name ty (ap (λ b. b || is_free name ty x) occurs)) in
    let argument = outside inner outer x (λ name ty occurs. absent name ty (second_holds (is_free name ty f) (is_free name ty x) occurs)) in
    λ i. app (function i) (argument i)
  where
    second_holds : (p q : Bool) → q ≡ true → (p || q) ≡ true
    second_holds true q is = refl
    second_holds false q is = is
outside inner outer (abstraction other s body) absent = ap (lam s) (outside ((other, s) ∷ inner) outer body (abstraction-outside inner outer other s body absent))

-- tables

variable-there : (terms : List Nameless) (number : ℕ) (name : List ℕ) (ty : HolType) → IsFree terms number →
    same_variable (variable_name (term_at terms number)) (term_type (term_at terms number)) name ty ≡ true → slice_get terms number ≡ Some (free name ty)
variable-there terms number name ty is same =
    let there = free-there terms number is in
    let names : is.name ≡ name = sym (ap variable_name there) ∙ same_name (variable_name (term_at terms number)) name (term_type (term_at terms number)) ty same in
    let types : is.ty ≡ ty = sym (ap term_type there) ∙ same_variable-type (variable_name (term_at terms number)) name (term_type (term_at terms number)) ty same in
    is.is_variable ∙ (λ i. Some (free (names i) (types i)))

absent : (terms : List Nameless) (binders : Binders) (covers : Variables) (number : ℕ) (name : List ℕ) (ty : HolType) → HaveOneNumber terms → AreBinders terms binders →
    AreCovered covers binders → slice_get terms number ≡ Some (free name ty)
    → (IsAmong covers number → ⊥) → binder_index (binders_in terms binders) name ty ≡ None
absent terms Outermost covers number name ty one are covered there apart = refl
absent terms (Under' binder all p outer) covers number name ty one are covered there apart =
    go (same_variable (variable_name (term_at terms binder)) (term_type (term_at terms binder)) name ty) refl (absent terms outer covers number name ty one are.3 covered.1 there apart)
  where
    go : (test : Bool) → same_variable (variable_name (term_at terms binder)) (term_type (term_at terms binder)) name ty ≡ test → binder_index (binders_in terms outer) name ty ≡ None
        → (if test then Some 0 else option_map suc (binder_index (binders_in terms outer) name ty)) ≡ None
    go true same deeper = absurd (apart (subst (IsAmong covers) (one binder number (free name ty) (variable-there terms binder name ty are.0 same) there) covered.0))
    go false same deeper = ap (option_map suc) deeper

pub apart : (terms : List Nameless) (binders : Binders) (covers part : Variables) → HaveOneNumber terms → AreBinders terms binders → AreCovered covers binders →
    ((number : ℕ) → IsAmong covers number → IsAmong part number → ⊥)
    → (term : NamedTerm) → AreCounted terms term part → image_under (binders_in terms binders) term ≡ image term
apart terms binders covers part one are covered differ term counted =
    outside [] (binders_in terms binders) term
    (λ name ty occurs none. let free_there = counted name ty occurs in absent terms binders covers free_there.number name ty one are covered free_there.is_there
    (λ among. differ free_there.number among free_there.among))

-- the index of a variable

same-number : (terms : List Nameless) (a b : ℕ) → a ≡ b → same_variable (variable_name (term_at terms a)) (term_type (term_at terms a)) (variable_name (term_at terms b))
    (term_type (term_at terms b)) ≡ true
same-number terms a b same =
    subst (λ n. same_variable (variable_name (term_at terms a)) (term_type (term_at terms a)) (variable_name (term_at terms n)) (term_type (term_at terms n)) ≡ true) same
    (same_variable-self (variable_name (term_at terms a)) (term_type (term_at terms a)))

other-number : (terms : List Nameless) (a b : ℕ) → HaveOneNumber terms → IsFree terms a → IsFree terms b → (a ≡ b → ⊥) →
    same_variable (variable_name (term_at terms a)) (term_type (term_at terms a)) (variable_name (term_at terms b)) (term_type (term_at terms b)) ≡ false
other-number terms a b one first second differ = go (same_variable (variable_name (term_at terms a)) (term_type (term_at terms a)) (variable_name (term_at terms b)) (term_type (term_at terms b))) refl
  where
    go : (test : Bool) → same_variable (variable_name (term_at terms a)) (term_type (term_at terms a)) (variable_name (term_at terms b)) (term_type (term_at terms b)) ≡ test → test ≡ false
    go true same =
        let there = free-there terms b second in
        let here : slice_get terms a ≡ Some (free second.name second.ty) = variable-there terms a (variable_name (term_at terms b)) (term_type (term_at terms b)) first same ∙
        (λ i. Some (free (variable_name (there i)) (term_type (there i)))) in
        absurd (differ (one a b (free second.name second.ty) here second.is_variable))
    go false same = refl

module _ (terms : List Nameless) (around rest : List Binder) (other number : ℕ) (is : around ≡ (variable_name (term_at terms other), term_type (term_at terms other)) ∷ rest)
    (one : HaveOneNumber terms) (binder : IsFree terms other) (is_free : IsFree terms number) where
  index-is : (test : Bool) → same_variable (variable_name (term_at terms other)) (term_type (term_at terms other)) (variable_name (term_at terms number)) (term_type (term_at terms number)) ≡ test
      → binder_index around (variable_name (term_at terms number)) (term_type (term_at terms number)) ≡
      (if test then Some 0 else option_map suc (binder_index rest (variable_name (term_at terms number)) (term_type (term_at terms number))))
  index-is test same =
      ap (λ (bs : List Binder). binder_index bs (variable_name (term_at terms number)) (term_type (term_at terms number))) is
      ∙ ap (λ b. if b then Some 0 else option_map suc (binder_index rest (variable_name (term_at terms number)) (term_type (term_at terms number)))) same

  pub index-here : other ≡ number → Some 0 ≡ binder_index around (variable_name (term_at terms number)) (term_type (term_at terms number))
  index-here same = sym (index-is true (same-number terms other number same))

  pub index-deeper : (index : ℕ) → (other ≡ number → ⊥) → Some index ≡ binder_index rest (variable_name (term_at terms number)) (term_type (term_at terms number))
      → Some (index + 1) ≡ binder_index around (variable_name (term_at terms number)) (term_type (term_at terms number))
  index-deeper index differ found =
      let more : index + 1 ≡ suc index = omega arith in
      ap (λ n. Some n) more ∙ (ap (option_map suc) found ∙ sym (index-is false (other-number terms other number one binder is_free differ)))

  pub index-none : (other ≡ number → ⊥) → None ≡ binder_index rest (variable_name (term_at terms number)) (term_type (term_at terms number))
      → None ≡ binder_index around (variable_name (term_at terms number)) (term_type (term_at terms number))
  index-none differ found = ap (option_map suc) found ∙ sym (index-is false (other-number terms other number one binder is_free differ))
