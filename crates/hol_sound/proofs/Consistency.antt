-- Each legal theory has a model, in which falsity is not true.
use Rattle.std.proofs.Common.{◌≡◌, ℕ, List, [], ◌∷◌, ◌++◌, refl, sym, ◌∙◌, subst, inl, Option, Some, None}
use Rattle.std.specs.Str.{bytes_eq}
use Rattle.std.proofs.lemmas.Slice.Eq.{bytes_eq-Decides}
use Rattle.hol_model.specs.Terms.HolType.{HolType, bool_type}
use Rattle.hol_model.specs.Logic.Theory.{Theory, Entry, definition, declaration_of_type, declaration_of_constant, IsLegal, generic_type}
use Rattle.hol_model.specs.Models.Values.{Value, number, truth, falsity}
use Rattle.hol_model.specs.Models.Tables.{first_of}
use Rattle.hol_model.specs.Models.Models.{Model, carrier_over, constant_meaning, term_meaning}
use Rattle.hol_model.specs.Models.Holds.{IsModel, IsCarrier, HasConstants}
use Rattle.hol_model.specs.Logic.Derivable.{IsMember, Derivable}
use Rattle.hol_model.specs.Logic.Logic.{logical_definitions, false_name, false_term}
use Rattle.hol_model.proofs.Logic.Conditions.{if_same}
use Rattle.hol_model.proofs.Logic.Later.{head_is_new, rest_is_legal, generic_type-later}
use Rattle.hol_sound.proofs.Carriers.{carrier_over-IsCarrier}
use Rattle.hol_sound.proofs.Extensions.{constant_meaning-later}
use Rattle.hol_sound.proofs.Soundness.{derivable-holds}

-- the model of one value

abbrev pub one : List ℕ → List Value
one v = number 0 ∷ []

one-IsCarrier : (v : List ℕ) → IsCarrier (one v)
one-IsCarrier v = record { inhabited = inl refl; distinct = ((λ m. m), tt) }

-- the first value of a constant's type
abbrev pub first_value : Option HolType → Value
first_value None = number 0
first_value (Some a) = first_of (carrier_over one one a)

abbrev pub smallest_model : Theory → Model
smallest_model theory = record {
  type_variables = one;
  declared_types = one;
  free_variables = λ n a. first_of (carrier_over one one a);
  declared_constants = λ n. first_value (generic_type theory n);
}

first-member : (a : HolType) → IsMember (first_of (carrier_over one one a)) (carrier_over one one a)
first-member a = (carrier_over-IsCarrier one one one-IsCarrier one-IsCarrier a).inhabited

-- the constants of a part of the theory
constants_of : (theory part : Theory) → IsLegal part → ((c : List ℕ) (a : HolType) → generic_type part c ≡ Some a → generic_type theory c ≡ Some a)
    → HasConstants part (smallest_model theory)
constants_of theory [] legal h = tt
constants_of theory (definition n a body ∷ rest) legal h =
    constants_of theory rest legal.1 (λ c b e. h c b (generic_type-later (definition n a body) rest legal.0.is_new c b e))
constants_of theory (declaration_of_type n ∷ rest) legal h = constants_of theory rest legal.1 h
constants_of theory (declaration_of_constant n a ∷ rest) legal h = (
  subst (λ (o : Option HolType). IsMember (first_value o) (carrier_over one one a)) (sym (h n a (if_same (bytes_eq n n) (bytes_eq-Decides n n) (Some a) (generic_type rest n) refl))) (first-member a),
  constants_of theory rest legal.1 (λ c b e. h c b (generic_type-later (declaration_of_constant n a) rest legal.0.is_new c b e)),
)

pub smallest_model-IsModel : (theory : Theory) → IsLegal theory → IsModel theory (smallest_model theory)
smallest_model-IsModel theory legal = record {
  variables = one-IsCarrier;
  declared = one-IsCarrier;
  members = λ n a. first-member a;
  constants = constants_of theory theory legal (λ c a e. e);
}

-- falsity over the logical definitions and whatever was added

generic_type-more : (more : List Entry) (theory : Theory) → IsLegal (more ++ theory) → (c : List ℕ) (a : HolType) → generic_type theory c ≡ Some a
    → generic_type (more ++ theory) c ≡ Some a
generic_type-more [] theory legal c a e = e
generic_type-more (entry ∷ more) theory legal c a e =
    generic_type-later entry (more ++ theory) (head_is_new entry (more ++ theory) legal) c a (generic_type-more more theory (rest_is_legal entry (more ++ theory) legal) c a e)

constant_meaning-more : (more : List Entry) (theory : Theory) → IsLegal (more ++ theory) → (m : Model) (c : List ℕ) (ty a : HolType) → generic_type theory c ≡ Some a
    → constant_meaning (more ++ theory) m c ty ≡ constant_meaning theory m c ty
constant_meaning-more [] theory legal m c ty a e = refl
constant_meaning-more (entry ∷ more) theory legal m c ty a e =
    constant_meaning-later entry (more ++ theory) (head_is_new entry (more ++ theory) legal) m c ty a (generic_type-more more theory (rest_is_legal entry (more ++ theory) legal) c a e)
    ∙ constant_meaning-more more theory (rest_is_legal entry (more ++ theory) legal) m c ty a e

false_term-meaning : (m : Model) → constant_meaning logical_definitions m false_name bool_type ≡ falsity
false_term-meaning m = refl

pub falsity-underivable : (more : List Entry) → IsLegal (more ++ logical_definitions) → ¬ (Derivable (more ++ logical_definitions) [] false_term)
falsity-underivable more legal d =
    let theory = more ++ logical_definitions in
    let m = smallest_model theory in
    let holds : term_meaning theory m false_term ≡ truth = derivable-holds theory legal [] false_term d m (smallest_model-IsModel theory legal) (λ t e. absurd e) in
    let fails : term_meaning theory m false_term ≡ falsity = constant_meaning-more more logical_definitions legal m false_name bool_type bool_type refl ∙ false_term-meaning m in
    cc (sym holds ∙ fails)
