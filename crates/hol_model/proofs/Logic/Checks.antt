-- The tests of known terms and legal theories are right.
use Rattle.std.proofs.Common.{◌≡◌, ℕ, List, [], ◌∷◌, refl, ap, subst, Option, Some, None, Bool, true, false}
use Rattle.std.specs.Option.{option_map, option_map_or}
use Rattle.std.specs.Bool.{Decides}
use Rattle.std.proofs.lemmas.Bool.Decides.{Decides-and, Decides-like}
use Rattle.hol_model.specs.Terms.Name.{is_constant_name, is_declared_type_name}
use Rattle.hol_model.specs.Terms.HolType.{HolType, function_type, type_eq, OccursInType, is_instance, IsInstance}
use Rattle.hol_model.specs.Terms.Nameless.{Nameless, free, const, bound, app, lam, HasType}
use Rattle.hol_model.specs.Terms.Substitution.{HasNoFree, OccursInTerm}
use Rattle.hol_model.specs.Logic.Theory.{Theory, definition, declaration_of_type, declaration_of_constant, generic_type, IsKnownConstant, HasKnownParts, IsKnown, IsLegalDefinition}
use Rattle.hol_model.specs.Logic.Theory.{IsLegalConstant, IsLegalType, IsLegal}
use Rattle.hol_model.specs.Logic.KnownTerm.{knows_type}
use Rattle.hol_model.specs.Logic.Legality.{reflects_type, is_fixed, is_new_name}
use Rattle.hol_model.specs.Logic.Checks.{found_type, has_type, knows_constant, has_known_parts, knows_nameless, has_no_free, reflects_nameless, is_legal_definition, is_legal_constant}
use Rattle.hol_model.specs.Logic.Checks.{is_legal_type, is_legal}
use Rattle.hol_model.proofs.Logic.Conditions.{always, never}
use Rattle.hol_model.proofs.Terms.HolTypeEq.{type_eq-self, type_eq-Decides}
use Rattle.hol_model.proofs.Terms.Images.{application-typed}
use Rattle.hol_model.proofs.Terms.Instances.{is_instance-Decides}
use Rattle.hol_model.proofs.Terms.TypeTests.{Decides-parts, knows_type-Decides, reflects_type-Decides, is_fixed-Decides, is_new_name-Decides}

-- a test decides whether it passes
itself : (test : Bool) → Decides test (test ≡ true)
itself test = ((λ e. e), (λ e. e))

-- terms

pub reflects_nameless-Decides : (whole : HolType) (term : Nameless)
    → Decides (reflects_nameless whole term) ((name : List ℕ) → OccursInTerm name term → OccursInType name whole)
reflects_nameless-Decides whole (free name ty) = reflects_type-Decides whole ty
reflects_nameless-Decides whole (const name ty) = reflects_type-Decides whole ty
reflects_nameless-Decides whole (bound index) = always (λ name o. absurd o)
reflects_nameless-Decides whole (app f x) =
    Decides-parts (reflects_nameless whole f) (reflects_nameless whole x) (reflects_nameless-Decides whole f) (reflects_nameless-Decides whole x)
reflects_nameless-Decides whole (lam ty body) =
    Decides-parts (reflects_type whole ty) (reflects_nameless whole body) (reflects_type-Decides whole ty) (reflects_nameless-Decides whole body)

pub has_no_free-Decides : (term : Nameless) → Decides (has_no_free term) (HasNoFree term)
has_no_free-Decides (free name ty) = never (λ h. h)
has_no_free-Decides (const name ty) = always tt
has_no_free-Decides (bound index) = always tt
has_no_free-Decides (app f x) = Decides-and (has_no_free f) (has_no_free x) (has_no_free-Decides f) (has_no_free-Decides x)
has_no_free-Decides (lam ty body) = has_no_free-Decides body

found_type-from : (term : Nameless) (binders : List HolType) (ty : HolType) → HasType binders term ty → found_type binders term ≡ Some ty
found_type-from (free name a) binders ty h = ap Some h
found_type-from (const name a) binders ty h = ap Some h
found_type-from (bound index) binders ty h = h
found_type-from (app f x) binders ty h = rw (found_type-from f binders (function_type h.0 ty) h.1, found_type-from x binders h.0 h.2, type_eq-self h.0) refl
found_type-from (lam a body) binders ty h = rw (found_type-from body (a ∷ binders) h.0 h.1) (ap Some h.2)

found_type-gives : (term : Nameless) (binders : List HolType) (ty : HolType) → found_type binders term ≡ Some ty → HasType binders term ty
found_type-gives (free name a) binders ty e = cc
found_type-gives (const name a) binders ty e = cc
found_type-gives (bound index) binders ty e = e
found_type-gives (app f x) binders ty e =
    let parts = application-typed (found_type binders f) (found_type binders x) ty e in
    (parts.0, found_type-gives f binders (function_type parts.0 ty) parts.1, found_type-gives x binders parts.0 parts.2)
found_type-gives (lam a body) binders ty e = go (found_type (a ∷ binders) body) (λ c k. found_type-gives body (a ∷ binders) c k) e
  where
    go : (found : Option HolType) → ((c : HolType) → found ≡ Some c → HasType (a ∷ binders) body c) → option_map (function_type a) found ≡ Some ty
        → (c : HolType) × HasType (a ∷ binders) body c × (function_type a c ≡ ty)
    go (Some c) h k = (c, h c refl, cc)
    go None h k = cc

is_found-Decides : (found : Option HolType) (ty : HolType) → Decides (option_map_or (λ a. type_eq a ty) found false) (found ≡ Some ty)
is_found-Decides None ty = never (λ e. cc)
is_found-Decides (Some a) ty = Decides-like (type_eq a ty) (λ e. ap Some e) (λ e. cc) (type_eq-Decides a ty)

has_type-Decides : (term : Nameless) (ty : HolType) → Decides (has_type term ty) (HasType [] term ty)
has_type-Decides term ty = Decides-like (has_type term ty) (found_type-gives term [] ty) (found_type-from term [] ty) (is_found-Decides (found_type [] term) ty)

pub knows_constant-Decides : (theory : Theory) (name : List ℕ) (ty : HolType) → Decides (knows_constant theory name ty) (IsKnownConstant theory name ty)
knows_constant-Decides theory name ty = go (generic_type theory name) refl
  where
    go : (found : Option HolType) → generic_type theory name ≡ found
        → Decides (option_map_or (λ generic. is_instance generic ty) found false) (IsKnownConstant theory name ty)
    go None e = never (λ k. let p = k.is_generic in cc)
    go (Some generic) e =
        Decides-like (is_instance generic ty)
        (λ q. record { generic = generic; is_generic = e; is_instance = q })
        (λ k. let same : k.generic ≡ generic = (let p = k.is_generic in cc) in subst (λ (g : HolType). IsInstance g ty) same k.is_instance)
        (is_instance-Decides generic ty)

has_known_parts-Decides : (theory : Theory) (term : Nameless) → Decides (has_known_parts theory term) (HasKnownParts theory term)
has_known_parts-Decides theory (free name ty) = knows_type-Decides theory ty
has_known_parts-Decides theory (const name ty) =
    Decides-and (knows_type theory ty) (knows_constant theory name ty) (knows_type-Decides theory ty) (knows_constant-Decides theory name ty)
has_known_parts-Decides theory (bound index) = always tt
has_known_parts-Decides theory (app f x) =
    Decides-and (has_known_parts theory f) (has_known_parts theory x) (has_known_parts-Decides theory f) (has_known_parts-Decides theory x)
has_known_parts-Decides theory (lam ty body) =
    Decides-and (knows_type theory ty) (has_known_parts theory body) (knows_type-Decides theory ty) (has_known_parts-Decides theory body)

pub knows_nameless-Decides : (theory : Theory) (term : Nameless) (ty : HolType) → Decides (knows_nameless theory term ty) (IsKnown theory term ty)
knows_nameless-Decides theory term ty =
    Decides-like (knows_nameless theory term ty) (λ p. record { typed = p.0; parts = p.1 }) (λ k. (k.typed, k.parts))
    (Decides-and (has_type term ty) (has_known_parts theory term) (has_type-Decides term ty) (has_known_parts-Decides theory term))

-- theories

is_legal_definition-Decides : (theory : Theory) (name : List ℕ) (ty : HolType) (body : Nameless)
    → Decides (is_legal_definition theory name ty body) (IsLegalDefinition theory name ty body)
is_legal_definition-Decides theory name ty body =
    Decides-like (is_legal_definition theory name ty body)
    (λ p. record { is_name = p.0; is_new = p.1.0; known = p.1.1.0; closed = p.1.1.1.0; reflected = p.1.1.1.1 })
    (λ k. (k.is_name, (k.is_new, (k.known, (k.closed, k.reflected)))))
    (Decides-and (is_constant_name name) _ (itself (is_constant_name name))
    (Decides-and (is_new_name theory name) _ (is_new_name-Decides theory name)
    (Decides-and (knows_nameless theory body ty) _ (knows_nameless-Decides theory body ty)
    (Decides-and (has_no_free body) (reflects_nameless ty body) (has_no_free-Decides body) (reflects_nameless-Decides ty body)))))

is_legal_constant-Decides : (theory : Theory) (name : List ℕ) (ty : HolType) → Decides (is_legal_constant theory name ty) (IsLegalConstant theory name ty)
is_legal_constant-Decides theory name ty =
    Decides-like (is_legal_constant theory name ty)
    (λ p. record { is_name = p.0; is_new = p.1.0; known = p.1.1.0; fixed = p.1.1.1 })
    (λ k. (k.is_name, (k.is_new, (k.known, k.fixed))))
    (Decides-and (is_constant_name name) _ (itself (is_constant_name name))
    (Decides-and (is_new_name theory name) _ (is_new_name-Decides theory name)
    (Decides-and (knows_type theory ty) (is_fixed ty) (knows_type-Decides theory ty) (is_fixed-Decides ty))))

is_legal_type-Decides : (theory : Theory) (name : List ℕ) → Decides (is_legal_type theory name) (IsLegalType theory name)
is_legal_type-Decides theory name =
    Decides-like (is_legal_type theory name) (λ p. record { is_name = p.0; is_new = p.1 }) (λ k. (k.is_name, k.is_new))
    (Decides-and (is_declared_type_name name) (is_new_name theory name) (itself (is_declared_type_name name)) (is_new_name-Decides theory name))

pub is_legal-Decides : (theory : Theory) → Decides (is_legal theory) (IsLegal theory)
is_legal-Decides [] = always tt
is_legal-Decides (definition name ty body ∷ rest) =
    Decides-and (is_legal_definition rest name ty body) (is_legal rest) (is_legal_definition-Decides rest name ty body) (is_legal-Decides rest)
is_legal-Decides (declaration_of_type name ∷ rest) = Decides-and (is_legal_type rest name) (is_legal rest) (is_legal_type-Decides rest name) (is_legal-Decides rest)
is_legal-Decides (declaration_of_constant name ty ∷ rest) =
    Decides-and (is_legal_constant rest name ty) (is_legal rest) (is_legal_constant-Decides rest name ty) (is_legal-Decides rest)
