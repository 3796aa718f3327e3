-- What passes the tests of definitions and declarations makes a legal theory, and the theorem of a definition.
use Rattle.std.proofs.Common.{◌≡◌, ℕ, List, [], ◌∷◌, true, false, refl, sym, ◌∙◌, subst, inl, Some, None, Result, Ok, Err, OnOk, OnErr}
use Rattle.hol_model.specs.Terms.HolType.{HolType}
use Rattle.hol_model.specs.Terms.NamedTerm.{NamedTerm, constant, type_of, equation}
use Rattle.hol_model.specs.Terms.Name.{is_constant_name, is_declared_type_name}
use Rattle.hol_model.specs.Terms.Nameless.{image}
use Rattle.hol_model.specs.Logic.Theory.{Theory, Entry, IsEarlier, IsLegal, IsLegalDefinition, IsLegalConstant, IsLegalType, definition, declaration_of_type, declaration_of_constant}
use Rattle.hol_model.specs.Logic.KnownTerm.{knows_type}
use Rattle.hol_model.specs.Logic.Legality.{is_closed, reflects, is_fixed, is_new_name, own_type}
use Rattle.hol_model.specs.Logic.Derivable.Derivable.{definition_rule}
use Rattle.hol_model.specs.declared.fault.Fault.{Fault}
use Rattle.hol_model.proofs.Logic.Earlier.{earlier-same, earlier-more}
use Rattle.hol_model.proofs.Terms.Images.{image-equation}
use Rattle.hol_model.proofs.Logic.KnownTerms.{knows_type-IsKnownType}
use Rattle.hol_model.proofs.Logic.LegalEntries.{closed-HasNoFree, reflects-image, fixed-has_none, new_name-IsNewName}
use Rattle.hol_model.specs.Kernel.Theorem.{IsTheorem}
use Rattle.hol_model.specs.Kernel.Rules.{first_unknown, is_full, concluded, define_outcome}
use Rattle.hol_kernel.proofs.RuleLemmas.{known_term}

pub own_type-is : (term : NamedTerm) (ty : HolType) → type_of term ≡ Some ty → own_type term ≡ ty
own_type-is term ty typed = rw typed refl

pub definition-legal : (theory : Theory) → IsLegal theory → (name : List ℕ) (term : NamedTerm) (ty : HolType) → type_of term ≡ Some ty
    → is_constant_name name ≡ true → first_unknown theory term ≡ None → is_closed term ≡ true → reflects ty term ≡ true → is_new_name theory name ≡ true
    → IsLegal (definition name ty (image term) ∷ theory)
definition-legal theory legal name term ty typed named known closed reflected new =
    let entry : IsLegalDefinition theory name ty (image term) = record {
      is_name = named;
      is_new = new_name-IsNewName theory name new;
      known = known_term theory term ty known typed;
      closed = closed-HasNoFree term closed;
      reflected = reflects-image ty term reflected;
    } in
    (entry, legal)

pub definition-theorem : (theory : Theory) (name : List ℕ) (term : NamedTerm) (ty : HolType) → IsLegal (definition name ty (image term) ∷ theory)
    → IsTheorem (record { theory = definition name ty (image term) ∷ theory; hypotheses = []; conclusion = equation (constant name ty) term })
definition-theorem theory name term ty legal = record {
  legal = legal;
  derivable = rw (image-equation (constant name ty) term ty refl) (definition_rule name ty (image term) (inl refl));
  ordered = tt;
}

pub declared_type-legal : (theory : Theory) → IsLegal theory → (name : List ℕ) → is_declared_type_name name ≡ true → is_new_name theory name ≡ true → IsLegal (declaration_of_type name ∷ theory)
declared_type-legal theory legal name named new =
    let entry : IsLegalType theory name = record { is_name = named; is_new = new_name-IsNewName theory name new } in
    (entry, legal)

pub declared_constant-legal : (theory : Theory) → IsLegal theory → (name : List ℕ) (ty : HolType) → is_constant_name name ≡ true
    → knows_type theory ty ≡ true → is_fixed ty ≡ true → is_new_name theory name ≡ true
    → IsLegal (declaration_of_constant name ty ∷ theory)
declared_constant-legal theory legal name ty named known fixed new =
    let entry : IsLegalConstant theory name ty = record {
      is_name = named;
      is_new = new_name-IsNewName theory name new;
      known = knows_type-IsKnownType theory ty known;
      fixed = fixed-has_none ty fixed;
    } in
    (entry, legal)

-- what a definition comes to, where nothing but the limits can refuse
pub define-concluded : (theory : Theory) (name : List ℕ) (term : NamedTerm) (ty : HolType) → type_of term ≡ Some ty → is_constant_name name ≡ true
    → first_unknown theory term ≡ None → is_closed term ≡ true → reflects ty term ≡ true → is_new_name theory name ≡ true → is_full theory ≡ false
    → define_outcome theory name term ≡ concluded (definition name ty (image term) ∷ theory) [] (equation (constant name ty) term)
define-concluded theory name term ty typed named known closed reflected new room = rw (typed, named, known, closed, reflected, new, room) refl

-- a theory that takes an entry, where the call succeeds, only grows
pub only_grows : (entry : Entry) (old new entries : Theory) (result : Result (Unit {0}) Fault) → entries ≡ entry ∷ old
    → OnOk result (new ≡ entries) → OnErr result (new ≡ old) → IsEarlier old new
only_grows entry old new entries (Ok _) is grown kept = earlier-more entry old new (grown ∙ is)
only_grows entry old new entries (Err _) is grown kept = earlier-same old new (sym kept)

-- what is earlier than a state is earlier than each later one
pub earlier_too : (first old new : Theory) → first ≡ old → IsEarlier old new → IsEarlier first new
earlier_too first old new same earlier = subst (λ (state : Theory). IsEarlier state new) (sym same) earlier
