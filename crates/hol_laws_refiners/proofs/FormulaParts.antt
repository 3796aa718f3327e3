-- Known formulas of a theory with the logical definitions, by their parts.
use Rattle.std.proofs.Common.{◌≡◌, ℕ, List, [], ◌∷◌, ◌++◌, Bool, true, false, refl, sym, ◌∙◌, ap, subst, Option, Some, None, if◌then◌else◌}
use Rattle.std.specs.Prelude.{codes}
use Rattle.std.specs.Str.{bytes_eq}
use Rattle.std.proofs.lemmas.Slice.Eq.{bytes_eq-Decides}
use Rattle.hol_model.specs.Terms.HolType.{HolType, bool_type, function_type, instantiate_type}
use Rattle.hol_model.specs.Terms.NamedTerm.{NamedTerm, variable, constant, combination, abstraction}
use Rattle.hol_model.specs.Terms.Nameless.{Nameless, const, app, lam, HasType, image}
use Rattle.hol_model.specs.Terms.Substitution.{close}
use Rattle.hol_model.specs.Logic.Theory.{Theory, IsLegal, IsKnown, IsKnownType, HasKnownParts, IsKnownConstant, generic_type, type_a, equality_name, equality_type}
use Rattle.hol_model.specs.Logic.Derivable.{nameless_equation}
use Rattle.hol_model.specs.Logic.Logic.{logical_definitions, not_name, unary, binary, predicate, quantifier}
use Rattle.hol_model.specs.Logic.NamedLogic.{Abstracted, is_constant_named, dest_connected, dest_negation, dest_quantified}
use Rattle.hol_model.specs.Kernel.Rules.{dest_equation}
use Rattle.hol_model.specs.Refining.RefinerConditions.{HasLogic}
use Rattle.hol_model.proofs.Logic.Later.{head_is_new, rest_is_legal, generic_type-later}
use Rattle.hol_model.proofs.Logic.Known.{generic_type-logical}
use Rattle.hol_model.proofs.Terms.Images.{image-abstraction}

-- ---- the logical constants

generic_type-added : (added rest : Theory) → IsLegal (added ++ rest) → (name : List ℕ) (generic : HolType) → generic_type rest name ≡ Some generic
    → generic_type (added ++ rest) name ≡ Some generic
generic_type-added [] rest legal name generic is = is
generic_type-added (entry ∷ added) rest legal name generic is =
    generic_type-later entry (added ++ rest) (head_is_new entry (added ++ rest) legal) name generic (generic_type-added added rest (rest_is_legal entry (added ++ rest) legal) name generic is)

pub logical-type : (theory : Theory) → HasLogic theory → (name : List ℕ) (generic : HolType) → generic_type logical_definitions name ≡ Some generic → generic_type theory name ≡ Some generic
logical-type theory has name generic is =
    subst (λ (t : Theory). generic_type t name ≡ Some generic) (sym has.logic.is_added)
    (generic_type-added has.logic.added logical_definitions (subst (λ (t : Theory). IsLegal t) has.logic.is_added has.legal) name generic is)

-- a constant whose generic type has no type variables has that type
fixed-type : (theory : Theory) (name : List ℕ) (generic ty : HolType) → generic_type theory name ≡ Some generic → ((tau : List ℕ → HolType) → instantiate_type tau generic ≡ generic)
    → IsKnownConstant theory name ty → ty ≡ generic
fixed-type theory name generic ty is fixed known =
    let found = known.is_generic in
    let same : known.generic ≡ generic = cc in
    known.is_instance.is_instance ∙ ap (instantiate_type known.is_instance.instance) same ∙ fixed known.is_instance.instance

-- ---- connectives

-- the formula is these two formulas under a binary connective
pub record AreSides (theory : Theory) (name : List ℕ) (term : NamedTerm) (sides : NamedTerm × NamedTerm) : Type 0 where
  pub same : image term ≡ app (app (const name binary) (image sides.0)) (image sides.1)
  pub left : IsKnown theory (image sides.0) bool_type
  pub right : IsKnown theory (image sides.1) bool_type

pub connected-parts : (theory : Theory) (name : List ℕ) → generic_type theory name ≡ Some binary → (term : NamedTerm) (sides : NamedTerm × NamedTerm) → dest_connected name term ≡ Some sides
    → IsKnown theory (image term) bool_type → AreSides theory name term sides
connected-parts theory name generic (combination (combination (constant other ty) a) b) sides dest known = go (bytes_eq other name) refl dest
  where
    go : (test : Bool) → bytes_eq other name ≡ test → if◌then◌else◌ {A = Option (NamedTerm × NamedTerm)} test (Some (a, b)) None ≡ Some sides
        → AreSides theory name (combination (combination (constant other ty) a) b) sides
    go false tested dest = cc
    go true tested dest =
        let named : other ≡ name = (bytes_eq-Decides other name).0 tested in
        let found : NamedTerm × NamedTerm = (a, b) in
        let same : found ≡ sides = cc in
        let a_is : a ≡ sides.0 = ap (λ (s : NamedTerm × NamedTerm). s.0) same in
        let b_is : b ≡ sides.1 = ap (λ (s : NamedTerm × NamedTerm). s.1) same in
        let generic_here : generic_type theory other ≡ Some binary = ap (generic_type theory) named ∙ generic in
        let ty_is : ty ≡ binary = fixed-type theory other binary ty generic_here (λ tau. refl) known.parts.0.0.1 in
        let typed : HasType [] (app (app (const other binary) (image a)) (image b)) bool_type =
        subst (λ (t : HolType). HasType [] (app (app (const other t) (image a)) (image b)) bool_type) ty_is known.typed in
        let first : typed.1.0 ≡ bool_type = cc in
        let second : typed.0 ≡ bool_type = cc in
        let left_known : IsKnown theory (image a) bool_type = record { typed = subst (λ (t : HolType). HasType [] (image a) t) first typed.1.2; parts = known.parts.0.1 } in
        let right_known : IsKnown theory (image b) bool_type = record { typed = subst (λ (t : HolType). HasType [] (image b) t) second typed.2; parts = known.parts.1 } in
        record {
          same = λ i. app (app (const (named i) (ty_is i)) (image (a_is i))) (image (b_is i));
          left = subst (λ (t : NamedTerm). IsKnown theory (image t) bool_type) a_is left_known;
          right = subst (λ (t : NamedTerm). IsKnown theory (image t) bool_type) b_is right_known;
        }
connected-parts theory name generic (combination (combination (variable other ty) a) b) sides dest known = cc
connected-parts theory name generic (combination (combination (combination f x) a) b) sides dest known = cc
connected-parts theory name generic (combination (combination (abstraction other ty x) a) b) sides dest known = cc
connected-parts theory name generic (combination (variable other ty) b) sides dest known = cc
connected-parts theory name generic (combination (constant other ty) b) sides dest known = cc
connected-parts theory name generic (combination (abstraction other ty x) b) sides dest known = cc
connected-parts theory name generic (variable other ty) sides dest known = cc
connected-parts theory name generic (constant other ty) sides dest known = cc
connected-parts theory name generic (abstraction other ty x) sides dest known = cc

-- the formula under a negation
pub record IsNegated (theory : Theory) (term part : NamedTerm) : Type 0 where
  pub same : image term ≡ app (const not_name unary) (image part)
  pub known : IsKnown theory (image part) bool_type

pub negated-part : (theory : Theory) → generic_type theory not_name ≡ Some unary → (term part : NamedTerm) → dest_negation term ≡ Some part → IsKnown theory (image term) bool_type
    → IsNegated theory term part
negated-part theory generic (combination (constant other ty) a) part dest known = go (bytes_eq other not_name) refl dest
  where
    go : (test : Bool) → bytes_eq other not_name ≡ test → (if test then Some a else None) ≡ Some part → IsNegated theory (combination (constant other ty) a) part
    go false tested dest = cc
    go true tested dest =
        let named : other ≡ not_name = (bytes_eq-Decides other not_name).0 tested in
        let a_is : a ≡ part = cc in
        let generic_here : generic_type theory other ≡ Some unary = ap (generic_type theory) named ∙ generic in
        let ty_is : ty ≡ unary = fixed-type theory other unary ty generic_here (λ tau. refl) known.parts.0.1 in
        let typed : HasType [] (app (const other unary) (image a)) bool_type = subst (λ (t : HolType). HasType [] (app (const other t) (image a)) bool_type) ty_is known.typed in
        let domain : typed.0 ≡ bool_type = cc in
        let part_known : IsKnown theory (image a) bool_type = record { typed = subst (λ (t : HolType). HasType [] (image a) t) domain typed.2; parts = known.parts.1 } in
        record {
          same = λ i. app (const (named i) (ty_is i)) (image (a_is i));
          known = subst (λ (t : NamedTerm). IsKnown theory (image t) bool_type) a_is part_known;
        }
negated-part theory generic (combination (variable other ty) a) part dest known = cc
negated-part theory generic (combination (combination f x) a) part dest known = cc
negated-part theory generic (combination (abstraction other ty x) a) part dest known = cc
negated-part theory generic (variable other ty) part dest known = cc
negated-part theory generic (constant other ty) part dest known = cc
negated-part theory generic (abstraction other ty x) part dest known = cc

-- T and F, where the theory knows them
pub constant-is : (theory : Theory) (name : List ℕ) (term : NamedTerm) (found : HolType) → generic_type theory name ≡ Some bool_type → is_constant_named name term ≡ true
    → IsKnown theory (image term) found
    → image term ≡ const name bool_type
constant-is theory name (constant other ty) found generic named known =
    let name_is : other ≡ name = (bytes_eq-Decides other name).0 named in
    let ty_is : ty ≡ bool_type = fixed-type theory other bool_type ty (ap (generic_type theory) name_is ∙ generic) (λ tau. refl) known.parts.1 in
    λ i. const (name_is i) (ty_is i)
constant-is theory name (variable other ty) found generic named known = cc
constant-is theory name (combination f x) found generic named known = cc
constant-is theory name (abstraction other ty x) found generic named known = cc

-- ---- equations

pub record IsEquation (theory : Theory) (term : NamedTerm) (sides : NamedTerm × NamedTerm) : Type 0 where
  pub ty : HolType
  pub same : image term ≡ nameless_equation ty (image sides.0) (image sides.1)
  pub left : IsKnown theory (image sides.0) ty
  pub right : IsKnown theory (image sides.1) ty

same_domain : (a b c d : HolType) → function_type a b ≡ function_type c d → a ≡ c
same_domain a b c d same = cc

same_codomain : (a b c d : HolType) → function_type a b ≡ function_type c d → b ≡ d
same_codomain a b c d same = cc

same_type : (s t : HolType) → Some s ≡ Some t → s ≡ t
same_type s t same = cc

pub equation-parts : (theory : Theory) → IsLegal theory → (term : NamedTerm) (sides : NamedTerm × NamedTerm) → dest_equation term ≡ Some sides
    → IsKnown theory (image term) bool_type → IsEquation theory term sides
equation-parts theory legal (combination (combination (constant other ty) a) b) sides dest known = go (bytes_eq other equality_name) refl dest
  where
    go : (test : Bool) → bytes_eq other equality_name ≡ test → if◌then◌else◌ {A = Option (NamedTerm × NamedTerm)} test (Some (a, b)) None ≡ Some sides
        → IsEquation theory (combination (combination (constant other ty) a) b) sides
    go false tested dest = cc
    go true tested dest =
        let named : other ≡ equality_name = (bytes_eq-Decides other equality_name).0 tested in
        let found : NamedTerm × NamedTerm = (a, b) in
        let same : found ≡ sides = cc in
        let a_is : a ≡ sides.0 = ap (λ (s : NamedTerm × NamedTerm). s.0) same in
        let b_is : b ≡ sides.1 = ap (λ (s : NamedTerm × NamedTerm). s.1) same in
        let there : IsKnownConstant theory other ty = known.parts.0.0.1 in
        let element : HolType = there.is_instance.instance (codes "A") in
        let generic_here : generic_type theory other ≡ Some (equality_type type_a) = ap (generic_type theory) named ∙ generic_type-logical theory legal equality_name (equality_type type_a) refl in
        let generic_is : there.generic ≡ equality_type type_a = same_type there.generic (equality_type type_a) (sym there.is_generic ∙ generic_here) in
        let ty_is : ty ≡ equality_type element = there.is_instance.is_instance ∙ ap (instantiate_type there.is_instance.instance) generic_is in
        let typed : HasType [] (app (app (const other (equality_type element)) (image a)) (image b)) bool_type =
        subst (λ (t : HolType). HasType [] (app (app (const other t) (image a)) (image b)) bool_type) ty_is known.typed in
        let first : typed.1.0 ≡ element = cc in
        let second : typed.0 ≡ element = cc in
        let left_known : IsKnown theory (image a) element = record { typed = subst (λ (t : HolType). HasType [] (image a) t) first typed.1.2; parts = known.parts.0.1 } in
        let right_known : IsKnown theory (image b) element = record { typed = subst (λ (t : HolType). HasType [] (image b) t) second typed.2; parts = known.parts.1 } in
        record {
          ty = element;
          same = λ i. app (app (const (named i) (ty_is i)) (image (a_is i))) (image (b_is i));
          left = subst (λ (t : NamedTerm). IsKnown theory (image t) element) a_is left_known;
          right = subst (λ (t : NamedTerm). IsKnown theory (image t) element) b_is right_known;
        }
equation-parts theory legal (combination (combination (variable other ty) a) b) sides dest known = cc
equation-parts theory legal (combination (combination (combination f x) a) b) sides dest known = cc
equation-parts theory legal (combination (combination (abstraction other ty x) a) b) sides dest known = cc
equation-parts theory legal (combination (variable other ty) b) sides dest known = cc
equation-parts theory legal (combination (constant other ty) b) sides dest known = cc
equation-parts theory legal (combination (abstraction other ty x) b) sides dest known = cc
equation-parts theory legal (variable other ty) sides dest known = cc
equation-parts theory legal (constant other ty) sides dest known = cc
equation-parts theory legal (abstraction other ty x) sides dest known = cc

-- ---- quantifiers

-- the formula is a quantifier over this body
pub record IsQuantified (theory : Theory) (name : List ℕ) (term : NamedTerm) (at : Abstracted) : Type 0 where
  pub same : image term ≡ app (const name (quantifier at.ty)) (lam at.ty (close at.name at.ty (image at.body)))
  pub type_known : IsKnownType theory at.ty
  pub body_typed : HasType (at.ty ∷ []) (close at.name at.ty (image at.body)) bool_type
  pub body_parts : HasKnownParts theory (close at.name at.ty (image at.body))

pub quantified-parts : (theory : Theory) (quantifier_name : List ℕ) → generic_type theory quantifier_name ≡ Some (quantifier type_a)
    → (term : NamedTerm) (at : Abstracted) → dest_quantified quantifier_name term ≡ Some at
    → IsKnown theory (image term) bool_type → IsQuantified theory quantifier_name term at
quantified-parts theory quantifier_name generic (combination (constant other s) (abstraction name ty body)) at dest known = go (bytes_eq other quantifier_name) refl dest
  where
    found : Abstracted
    found = record { name = name; ty = ty; body = body }

    whole : Nameless
    whole = app (const other s) (lam ty (close name ty (image body)))

    of_found : other ≡ quantifier_name → IsKnown theory (app (const other s) (lam ty (close name ty (image body)))) bool_type
        → IsQuantified theory quantifier_name (combination (constant other s) (abstraction name ty body)) (record { name = name; ty = ty; body = body })
    of_found named k =
        let there : IsKnownConstant theory other s = k.parts.0.1 in
        let element : HolType = there.is_instance.instance (codes "A") in
        let generic_here : generic_type theory other ≡ Some (quantifier type_a) = ap (generic_type theory) named ∙ generic in
        let generic_is : there.generic ≡ quantifier type_a = same_type there.generic (quantifier type_a) (sym there.is_generic ∙ generic_here) in
        let s_is : s ≡ quantifier element = there.is_instance.is_instance ∙ ap (instantiate_type there.is_instance.instance) generic_is in
        let domain : k.typed.0 ≡ predicate element = same_domain k.typed.0 bool_type (predicate element) bool_type (sym k.typed.1 ∙ s_is) in
        let arrow : function_type ty k.typed.2.0 ≡ predicate element = k.typed.2.2 ∙ domain in
        let element_is : ty ≡ element = same_domain ty k.typed.2.0 element bool_type arrow in
        let codomain_is : k.typed.2.0 ≡ bool_type = same_codomain ty k.typed.2.0 element bool_type arrow in
        record {
          same = λ i. app (const (named i) ((s_is ∙ ap quantifier (sym element_is)) i)) (image-abstraction name ty body i);
          type_known = k.parts.1.0;
          body_typed = subst (λ (t : HolType). HasType (ty ∷ []) (close name ty (image body)) t) codomain_is k.typed.2.1;
          body_parts = k.parts.1.1;
        }

    go : (test : Bool) → bytes_eq other quantifier_name ≡ test → (if test then Some (record { name = name; ty = ty; body = body }) else None) ≡ Some at
        → IsQuantified theory quantifier_name (combination (constant other s) (abstraction name ty body)) at
    go false tested dest = cc
    go true tested dest =
        let one : Abstracted = record { name = name; ty = ty; body = body } in
        let same : one ≡ at = cc in
        let k : IsKnown theory (app (const other s) (lam ty (close name ty (image body)))) bool_type =
        subst (λ (t : Nameless). IsKnown theory (app (const other s) t) bool_type) (image-abstraction name ty body) known in
        subst (IsQuantified theory quantifier_name (combination (constant other s) (abstraction name ty body))) same (of_found ((bytes_eq-Decides other quantifier_name).0 tested) k)
quantified-parts theory quantifier_name generic (combination (constant other s) (variable name ty)) at dest known = cc
quantified-parts theory quantifier_name generic (combination (constant other s) (constant name ty)) at dest known = cc
quantified-parts theory quantifier_name generic (combination (constant other s) (combination f x)) at dest known = cc
quantified-parts theory quantifier_name generic (combination (variable other s) x) at dest known = cc
quantified-parts theory quantifier_name generic (combination (combination f y) x) at dest known = cc
quantified-parts theory quantifier_name generic (combination (abstraction other s b) x) at dest known = cc
quantified-parts theory quantifier_name generic (variable other ty) at dest known = cc
quantified-parts theory quantifier_name generic (constant other ty) at dest known = cc
quantified-parts theory quantifier_name generic (abstraction other ty x) at dest known = cc
