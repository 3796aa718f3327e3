-- A variable that is bound in the pattern, and the term's part in its place.
use Rattle.std.proofs.Common.{◌≡◌, ℕ, suc, List, [], ◌∷◌, Bool, true, false, ◌||◌, refl, sym, ◌∙◌, ap, Option, Some, None, if◌then◌else◌}
use Rattle.std.specs.Bool.{Decides}
use Rattle.std.specs.Option.{option_map, option_map_or}
use Rattle.hol_model.specs.Terms.HolType.{HolType}
use Rattle.hol_model.specs.Terms.NamedTerm.{NamedTerm, variable, constant, combination, abstraction, Binder, same_variable, is_bound_by}
use Rattle.hol_model.specs.Terms.Nameless.{Nameless, free, bound, image_under, binder_index}
use Rattle.hol_model.specs.Terms.Substitution.{is_variable_named}
use Rattle.hol_model.proofs.Tests.{same_variable-sym}
use Rattle.hol_match.specs.Walk.{Sides, left_of, right_of, bound_alike}

-- the image of a variable, from the number of its binder
abbrev at : List ℕ → HolType → Option ℕ → Nameless
at name ty found = option_map_or bound found (free name ty)

zero_of : (name : List ℕ) (ty : HolType) (found : Option ℕ) → at name ty (option_map suc found) ≡ bound 0 → ⊥
zero_of name ty None e = cc
zero_of name ty (Some index) e = cc

shifted : (name : List ℕ) (ty : HolType) (found : Option ℕ) (index : ℕ) → at name ty found ≡ bound index → at name ty (option_map suc found) ≡ bound (suc index)
shifted name ty None index e = cc
shifted name ty (Some other) index e = cc

shifted_back : (name : List ℕ) (ty : HolType) (found : Option ℕ) (index : ℕ) → at name ty (option_map suc found) ≡ bound (suc index) → at name ty found ≡ bound index
shifted_back name ty None index e = cc
shifted_back name ty (Some other) index e = cc

-- a term that is the variable of the innermost binder
innermost : (binder : Binder) (binders : List Binder) (term : NamedTerm) → is_variable_named binder.0 binder.1 term ≡ true → image_under (binder ∷ binders) term ≡ bound 0
innermost binder binders (variable name ty) passed =
    ap (λ (test : Bool). at name ty (if test then Some 0 else option_map suc (binder_index binders name ty))) (same_variable-sym binder.0 name binder.1 ty ∙ passed)
innermost binder binders (constant name ty) passed = cc
innermost binder binders (combination f x) passed = cc
innermost binder binders (abstraction name ty body) passed = cc

-- one that is not
passed_over : (binder : Binder) (binders : List Binder) (name : List ℕ) (ty : HolType) → is_variable_named binder.0 binder.1 (variable name ty) ≡ false
    → image_under (binder ∷ binders) (variable name ty) ≡ at name ty (option_map suc (binder_index binders name ty))
passed_over binder binders name ty failed =
    ap (λ (test : Bool). at name ty (if test then Some 0 else option_map suc (binder_index binders name ty))) (same_variable-sym binder.0 name binder.1 ty ∙ failed)

not_innermost : (binder : Binder) (binders : List Binder) (term : NamedTerm) → is_variable_named binder.0 binder.1 term ≡ false → image_under (binder ∷ binders) term ≡ bound 0 → ⊥
not_innermost binder binders (variable name ty) failed e = zero_of name ty (binder_index binders name ty) (sym (passed_over binder binders name ty failed) ∙ e)
not_innermost binder binders (constant name ty) failed e = cc
not_innermost binder binders (combination f x) failed e = cc
not_innermost binder binders (abstraction name ty body) failed e = cc

outside : (binder : Binder) (binders : List Binder) (term : NamedTerm) (index : ℕ) → is_variable_named binder.0 binder.1 term ≡ false
    → image_under binders term ≡ bound index → image_under (binder ∷ binders) term ≡ bound (suc index)
outside binder binders (variable name ty) index failed e = passed_over binder binders name ty failed ∙ shifted name ty (binder_index binders name ty) index e
outside binder binders (constant name ty) index failed e = cc
outside binder binders (combination f x) index failed e = cc
outside binder binders (abstraction name ty body) index failed e = cc

outside_back : (binder : Binder) (binders : List Binder) (term : NamedTerm) (index : ℕ) → is_variable_named binder.0 binder.1 term ≡ false
    → image_under (binder ∷ binders) term ≡ bound (suc index) → image_under binders term ≡ bound index
outside_back binder binders (variable name ty) index failed e = shifted_back name ty (binder_index binders name ty) index (sym (passed_over binder binders name ty failed) ∙ e)
outside_back binder binders (constant name ty) index failed e = cc
outside_back binder binders (combination f x) index failed e = cc
outside_back binder binders (abstraction name ty body) index failed e = cc

-- what the test for a bound variable says of its binder
abbrev BoundBy : List Binder → List ℕ → HolType → Bool → Type 0
BoundBy binders name ty true = (index : ℕ) × (binder_index binders name ty ≡ Some index)
BoundBy binders name ty false = binder_index binders name ty ≡ None

bound_by : (binders : List Binder) (name : List ℕ) (ty : HolType) → BoundBy binders name ty (is_bound_by binders name ty)
bound_by [] name ty = refl
bound_by (binder ∷ binders) name ty = go (same_variable binder.0 binder.1 name ty) refl (is_bound_by binders name ty) (bound_by binders name ty)
  where
    index_is : (test : Bool) → same_variable binder.0 binder.1 name ty ≡ test
        → binder_index (binder ∷ binders) name ty ≡ (if test then Some 0 else option_map suc (binder_index binders name ty))
    index_is test is = ap (λ (t : Bool). if t then Some 0 else option_map suc (binder_index binders name ty)) is

    go : (test : Bool) → same_variable binder.0 binder.1 name ty ≡ test → (rest : Bool) → BoundBy binders name ty rest
        → BoundBy (binder ∷ binders) name ty (test || rest)
    go true is rest deeper = (0, index_is true is)
    go false is true deeper = (suc deeper.0, index_is false is ∙ ap (option_map suc) deeper.1)
    go false is false deeper = index_is false is ∙ ap (option_map suc) deeper

-- what the walk over the binders says
abbrev pub BoundAlike : Sides → List ℕ → HolType → NamedTerm → Option Bool → Type 0
BoundAlike sides name ty term None = binder_index (left_of sides) name ty ≡ None
BoundAlike sides name ty term (Some alike) =
    (index : ℕ) × (binder_index (left_of sides) name ty ≡ Some index) × Decides alike (image_under (right_of sides) term ≡ bound index)

pub bound_alike-is : (sides : Sides) (name : List ℕ) (ty : HolType) (term : NamedTerm) → BoundAlike sides name ty term (bound_alike sides name ty term)
bound_alike-is [] name ty term = refl
bound_alike-is (side ∷ outer) name ty term =
    go (same_variable side.0.0 side.0.1 name ty) refl (is_variable_named side.1.0 side.1.1 term) refl
    (is_bound_by (left_of outer) name ty) (bound_by (left_of outer) name ty) (bound_alike outer name ty term) (bound_alike-is outer name ty term)
  where
    index_is : (test : Bool) → same_variable side.0.0 side.0.1 name ty ≡ test
        → binder_index (left_of (side ∷ outer)) name ty ≡ (if test then Some 0 else option_map suc (binder_index (left_of outer) name ty))
    index_is test is = ap (λ (t : Bool). if t then Some 0 else option_map suc (binder_index (left_of outer) name ty)) is

    decided : (test : Bool) → is_variable_named side.1.0 side.1.1 term ≡ test → Decides test (image_under (right_of (side ∷ outer)) term ≡ bound 0)
    decided true is = (λ passed. innermost side.1 (right_of outer) term is, λ e. refl)
    decided false is = (λ passed. cc, λ e. absurd (not_innermost side.1 (right_of outer) term is e))

    shadowed : is_variable_named side.1.0 side.1.1 term ≡ true → (index : ℕ) → Decides false (image_under (right_of (side ∷ outer)) term ≡ bound (suc index))
    shadowed is index = (λ passed. cc, λ e. let first : image_under (right_of (side ∷ outer)) term ≡ bound 0 = innermost side.1 (right_of outer) term is in cc)

    deeper_decided : is_variable_named side.1.0 side.1.1 term ≡ false → (alike : Bool) (index : ℕ)
        → Decides alike (image_under (right_of outer) term ≡ bound index) → Decides alike (image_under (right_of (side ∷ outer)) term ≡ bound (suc index))
    deeper_decided is alike index decides = (
      λ passed. outside side.1 (right_of outer) term index is (decides.0 passed),
      λ e. decides.1 (outside_back side.1 (right_of outer) term index is e),
    )

    go : (left : Bool) → same_variable side.0.0 side.0.1 name ty ≡ left → (right : Bool) → is_variable_named side.1.0 side.1.1 term ≡ right
        → (known : Bool) → BoundBy (left_of outer) name ty known → (rest : Option Bool) → BoundAlike outer name ty term rest
        → BoundAlike (side ∷ outer) name ty term (if left then Some right else (if right then (if known then Some false else None) else rest))
    go true l right r known k rest deeper = (0, index_is true l, decided right r)
    go false l true r true k rest deeper = (suc k.0, index_is false l ∙ ap (option_map suc) k.1, shadowed r k.0)
    go false l true r false k rest deeper = index_is false l ∙ ap (option_map suc) k
    go false l false r known k None deeper = index_is false l ∙ ap (option_map suc) deeper
    go false l false r known k (Some alike) deeper = (suc deeper.0, index_is false l ∙ ap (option_map suc) deeper.1, deeper_decided r alike deeper.0 deeper.2)
