-- A known quantified formula by its parts.
use Rattle.std.proofs.Common.{◌≡◌, ℕ, List, [], true, sym, ◌∙◌, ap, subst, Option, Some}
use Rattle.std.specs.Prelude.{codes}
use Rattle.std.specs.Option.{option_map, option_map_or}
use Rattle.std.proofs.lemmas.Slice.Eq.{bytes_eq-Decides}
use Rattle.hol_model.specs.Terms.HolType.{HolType, bool_type, function_type, instantiate_type}
use Rattle.hol_model.specs.Terms.NamedTerm.{NamedTerm, variable, constant, combination, abstraction, type_of, dest_abstraction}
use Rattle.hol_model.specs.Logic.NamedLogic.{Abstracted, is_constant_named, dest_quantified}
use Rattle.hol_model.specs.Terms.Nameless.{Nameless, const, app, HasType, image}
use Rattle.hol_model.specs.Logic.Logic.{predicate, quantifier}
use Rattle.hol_model.specs.Logic.Theory.{Theory, IsKnown, generic_type, type_a}
use Rattle.hol_model.proofs.Terms.Images.{image-type, image-abstraction}
use Rattle.hol_model.proofs.Terms.Measures.{some_type}
use Rattle.hol_equal.specs.Conversions.{closed}
pub use Rattle.hol_quant.specs.QuantifiedParts.{IsQuantified}

-- the type of the quantifier, and of the body
pub record IsTyped (theory : Theory) (s : HolType) (name : List ℕ) (ty : HolType) (body : NamedTerm) : Type 0 where
  pub quantifier_type : s ≡ quantifier ty
  pub body_typed : type_of body ≡ Some bool_type
  pub function_known : IsKnown theory (closed name ty body) (predicate ty)

same_domain : (a b c d : HolType) → function_type a b ≡ function_type c d → a ≡ c
same_domain a b c d same = cc

same_codomain : (a b c d : HolType) → function_type a b ≡ function_type c d → b ≡ d
same_codomain a b c d same = cc

same_type : (s t : HolType) → Some s ≡ Some t → s ≡ t
same_type s t same = cc

abstraction_body : (name : List ℕ) (ty : HolType) (body : NamedTerm) → HasType [] (closed name ty body) (predicate ty) → type_of body ≡ Some bool_type
abstraction_body name ty body typed =
    let whole : type_of (abstraction name ty body) ≡ Some (predicate ty) =
    image-type (abstraction name ty body) (predicate ty) (subst (λ (t : Nameless). HasType [] t (predicate ty)) (sym (image-abstraction name ty body)) typed) in
    let found = some_type (type_of body) ty (predicate ty) whole in
    let same : Some (function_type ty found.0) ≡ Some (predicate ty) = ap (option_map (function_type ty)) (sym found.1) ∙ whole in
    found.1 ∙ ap Some (same_codomain ty found.0 ty bool_type (same_type (function_type ty found.0) (predicate ty) same))

pub typed-at : (theory : Theory) (quantifier_name : List ℕ) → generic_type theory quantifier_name ≡ Some (quantifier type_a)
    → (s : HolType) (name : List ℕ) (ty : HolType) (body : NamedTerm) (whole : HolType)
    → IsKnown theory (app (const quantifier_name s) (closed name ty body)) whole → IsTyped theory s name ty body
typed-at theory quantifier_name generic s name ty body whole known =
    let there = known.parts.0.1 in
    let element : HolType = there.is_instance.instance (codes "A") in
    let generic_is : there.generic ≡ quantifier type_a = same_type there.generic (quantifier type_a) (sym there.is_generic ∙ generic) in
    let instance_is : s ≡ quantifier element = there.is_instance.is_instance ∙ ap (instantiate_type there.is_instance.instance) generic_is in
    let domain : known.typed.0 ≡ predicate element = same_domain known.typed.0 whole (predicate element) bool_type (sym known.typed.1 ∙ instance_is) in
    let function_type_is : function_type ty known.typed.2.0 ≡ predicate element = known.typed.2.2 ∙ domain in
    let element_is : ty ≡ element = same_domain ty known.typed.2.0 element bool_type function_type_is in
    let codomain_is : known.typed.2.0 ≡ bool_type = same_codomain ty known.typed.2.0 element bool_type function_type_is in
    let function_typed : HasType [] (closed name ty body) (predicate ty) = (known.typed.2.0, known.typed.2.1, ap (function_type ty) codomain_is) in
    record {
      quantifier_type = instance_is ∙ ap quantifier (sym element_is);
      body_typed = abstraction_body name ty body function_typed;
      function_known = record { typed = function_typed; parts = known.parts.1 };
    }

same_pair : (name : List ℕ) (ty : HolType) (inner binder body : NamedTerm) → dest_abstraction (abstraction name ty inner) ≡ Some (binder, body) → (variable name ty ≡ binder) × (inner ≡ body)
same_pair name ty inner binder body same = (
  ap (λ (o : Option (NamedTerm × NamedTerm)). option_map_or (λ (p : NamedTerm × NamedTerm). p.0) o inner) same,
  ap (λ (o : Option (NamedTerm × NamedTerm)). option_map_or (λ (p : NamedTerm × NamedTerm). p.1) o inner) same,
)

-- the parts of a formula with a quantifier over an abstraction
pub record HasParts (quantifier_name : List ℕ) (formula function binder body : NamedTerm) : Type 0 where
  pub name : List ℕ
  pub ty : HolType
  pub function_is : function ≡ abstraction name ty body
  pub binder_is : binder ≡ variable name ty
  pub dest : dest_quantified quantifier_name formula ≡ Some (record { name = name; ty = ty; body = body })

parts-of : (quantifier_name : List ℕ) (constant_term function binder body : NamedTerm) → is_constant_named quantifier_name constant_term ≡ true → dest_abstraction function ≡ Some (binder, body)
    → HasParts quantifier_name (combination constant_term function) function binder body
parts-of quantifier_name (constant other s) (abstraction name ty inner) binder body is_named dest =
    let same = same_pair name ty inner binder body dest in
    record { name = name; ty = ty; function_is = ap (abstraction name ty) same.1; binder_is = sym same.0; dest = rw is_named (ap (λ (b : NamedTerm). Some (abstracted b)) same.1) }
  where
    abstracted : NamedTerm → Abstracted
    abstracted b = record { name = name; ty = ty; body = b }
parts-of quantifier_name (constant other s) (variable name ty) binder body is_named dest = cc
parts-of quantifier_name (constant other s) (constant name ty) binder body is_named dest = cc
parts-of quantifier_name (constant other s) (combination f x) binder body is_named dest = cc
parts-of quantifier_name (variable other s) function binder body is_named dest = cc
parts-of quantifier_name (combination f x) function binder body is_named dest = cc
parts-of quantifier_name (abstraction other s inner) function binder body is_named dest = cc

pub has-parts : (quantifier_name : List ℕ) (formula constant_term function binder body : NamedTerm) → formula ≡ combination constant_term function
    → is_constant_named quantifier_name constant_term ≡ true
    → dest_abstraction function ≡ Some (binder, body) → HasParts quantifier_name formula function binder body
has-parts quantifier_name formula constant_term function binder body is is_named dest =
    subst (λ (t : NamedTerm). HasParts quantifier_name t function binder body) (sym is) (parts-of quantifier_name constant_term function binder body is_named dest)

-- the parts of a formula that is known
by_parts : (theory : Theory) (quantifier_name : List ℕ) → generic_type theory quantifier_name ≡ Some (quantifier type_a) → (constant_term function binder body : NamedTerm) (whole : HolType)
    → IsKnown theory (image (combination constant_term function)) whole → is_constant_named quantifier_name constant_term ≡ true → dest_abstraction function ≡ Some (binder, body)
    → IsQuantified theory quantifier_name (combination constant_term function) function binder body
unfolding parts-of
by_parts theory quantifier_name generic (constant other s) (abstraction name ty inner) binder body whole known is_named dest =
    let other_is : other ≡ quantifier_name = (bytes_eq-Decides other quantifier_name).0 is_named in
    let same = same_pair name ty inner binder body dest in
    let inner_is : inner ≡ body = same.1 in
    let image_is : image (combination (constant other s) (abstraction name ty inner)) ≡ app (const quantifier_name s) (closed name ty body) =
    λ i. app (const (other_is i) s) ((image-abstraction name ty inner ∙ ap (closed name ty) inner_is) i) in
    let typed = typed-at theory quantifier_name generic s name ty body whole (subst (λ (t : Nameless). IsKnown theory t whole) image_is known) in
    let parts = parts-of quantifier_name (constant other s) (abstraction name ty inner) binder body is_named dest in
    record {
      name = name;
      ty = ty;
      function_is = parts.function_is;
      binder_is = parts.binder_is;
      dest = parts.dest;
      formula_image = image_is ∙ ap (λ (q : HolType). app (const quantifier_name q) (closed name ty body)) typed.quantifier_type;
      body_typed = typed.body_typed;
      function_known = typed.function_known;
    }
by_parts theory quantifier_name generic (constant other s) (variable name ty) binder body whole known is_named dest = cc
by_parts theory quantifier_name generic (constant other s) (constant name ty) binder body whole known is_named dest = cc
by_parts theory quantifier_name generic (constant other s) (combination f x) binder body whole known is_named dest = cc
by_parts theory quantifier_name generic (variable other s) function binder body whole known is_named dest = cc
by_parts theory quantifier_name generic (combination f x) function binder body whole known is_named dest = cc
by_parts theory quantifier_name generic (abstraction other s inner) function binder body whole known is_named dest = cc

pub quantified-at : (theory : Theory) (quantifier_name : List ℕ) → generic_type theory quantifier_name ≡ Some (quantifier type_a)
    → (formula constant_term function binder body : NamedTerm) (whole : HolType)
    → IsKnown theory (image formula) whole → formula ≡ combination constant_term function → is_constant_named quantifier_name constant_term ≡ true → dest_abstraction function ≡ Some (binder, body)
    → IsQuantified theory quantifier_name formula function binder body
quantified-at theory quantifier_name generic formula constant_term function binder body whole known is is_named dest =
    subst (λ (t : NamedTerm). IsQuantified theory quantifier_name t function binder body) (sym is)
    (by_parts theory quantifier_name generic constant_term function binder body whole (subst (λ (t : NamedTerm). IsKnown theory (image t) whole) is known) is_named dest)
