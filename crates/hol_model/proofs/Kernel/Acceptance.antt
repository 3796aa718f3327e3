-- Definitions and declarations are accepted exactly where they are legal, within the limits.
use Rattle.std.proofs.Common.{◌≡◌, List, [], ◌∷◌, ℕ, Bool, true, false, ◌&&◌, not, refl, sym, ◌∙◌, ap, Option, Some, None, Result, Ok, if◌then◌else◌}
use Rattle.hol_model.specs.declared.fault.Fault.{Fault}
use Rattle.hol_model.specs.declared.fault.Fault.TheVariants.{UnknownType, UnknownConst, NotInstance, BadName, NotClosed, TypeVarsNotReflected, AlreadyDefined}
use Rattle.hol_model.specs.Terms.HolType.{HolType}
use Rattle.hol_model.specs.Terms.Name.{is_constant_name, is_declared_type_name}
use Rattle.hol_model.specs.Terms.NamedTerm.{NamedTerm, constant, type_of, equation}
use Rattle.hol_model.specs.Terms.Nameless.{image}
use Rattle.hol_model.specs.Logic.Theory.{Theory, IsLegalDefinition, IsLegalConstant, IsLegalType, declaration_of_type, declaration_of_constant}
use Rattle.hol_model.specs.Logic.KnownTerm.{knows_type, knows_types, knows_constants, has_instances}
use Rattle.hol_model.specs.Logic.Legality.{is_closed, reflects, is_fixed, is_new_name, own_type}
use Rattle.hol_model.specs.Kernel.Outcome.{unless, refused}
use Rattle.hol_model.specs.Kernel.Theorem.{Theorem}
use Rattle.hol_model.specs.Kernel.Rules.{first_unknown, concluded, with_definition, define_outcome, new_type_outcome, new_const_outcome}
use Rattle.hol_model.specs.Kernel.Acceptance.{if_room, AcceptsTheLegal}
use Rattle.hol_model.proofs.Terms.TypeTests.{knows_type-Decides, is_fixed-Decides, is_new_name-Decides}
use Rattle.hol_model.proofs.Terms.NamedTests.{is_known-Decides}
use Rattle.hol_model.proofs.Logic.LegalEntries.{is_closed-Decides, reflects-Decides}

-- a refusal that does not apply, and one that did not

module _ {A : Type 0} where
  unless-passed : (test : Bool) (fault : Fault) (next : Result A Fault) → test ≡ true → unless test fault next ≡ next
  unless-passed true fault next passed = refl
  unless-passed false fault next passed = cc

  refused-none : (found : Option Fault) (next : Result A Fault) → found ≡ None → refused found next ≡ next
  refused-none None next none = refl
  refused-none (Some fault) next none = cc

  passed : (test : Bool) (fault : Fault) (next : Result A Fault) (answer : A) → unless test fault next ≡ Ok answer → (test ≡ true) × (next ≡ Ok answer)
  passed true fault next answer is = (refl, is)
  passed false fault next answer is = cc

  not_refused : (found : Option Fault) (next : Result A Fault) (answer : A) → refused found next ≡ Ok answer → (found ≡ None) × (next ≡ Ok answer)
  not_refused None next answer is = (refl, is)
  not_refused (Some fault) next answer is = cc

none_unknown : (types constants instances : Bool) → (types && constants && instances) ≡ true
    → (if not types then Some UnknownType else (if not constants then Some UnknownConst else (if not instances then Some NotInstance else None))) ≡ None
none_unknown true true true known = refl
none_unknown true true false known = cc
none_unknown true false instances known = cc
none_unknown false constants instances known = cc

unknown_none : (types constants instances : Bool)
    → (if not types then Some UnknownType else (if not constants then Some UnknownConst else (if not instances then Some NotInstance else None))) ≡ None
    → (types && constants && instances) ≡ true
unknown_none true true true none = refl
unknown_none true true false none = cc
unknown_none true false instances none = cc
unknown_none false constants instances none = cc

own_type-is : (term : NamedTerm) (ty : HolType) → type_of term ≡ Some ty → own_type term ≡ ty
own_type-is term ty typed = rw typed refl

legal_definition : (theory : Theory) (name : List ℕ) (term : NamedTerm) (ty : HolType) → type_of term ≡ Some ty → IsLegalDefinition theory name ty (image term)
    → define_outcome theory name term ≡ if_room theory (concluded (with_definition theory name term) [] (equation (constant name ty) term))
legal_definition theory name term ty typed legal =
    let own = own_type-is term ty typed in
    let known : first_unknown theory term ≡ None = none_unknown (knows_types theory term) (knows_constants theory term) (has_instances theory term)
    ((is_known-Decides theory term ty typed).1 legal.known) in
    let reflected : reflects (own_type term) term ≡ true = ap (λ whole. reflects whole term) own ∙ (reflects-Decides ty term).1 legal.reflected in
    unless-passed (is_constant_name name) BadName _ legal.is_name
    ∙ refused-none (first_unknown theory term) _ known
    ∙ unless-passed (is_closed term) NotClosed _ ((is_closed-Decides term).1 legal.closed)
    ∙ unless-passed (reflects (own_type term) term) TypeVarsNotReflected _ reflected
    ∙ unless-passed (is_new_name theory name) AlreadyDefined _ ((is_new_name-Decides theory name).1 legal.is_new)
    ∙ ap (λ whole. if_room theory (concluded (with_definition theory name term) [] (equation (constant name whole) term))) own

accepted_definition : (theory : Theory) (name : List ℕ) (term : NamedTerm) (ty : HolType) (theorem : Theorem) → type_of term ≡ Some ty
    → define_outcome theory name term ≡ Ok theorem → IsLegalDefinition theory name ty (image term)
accepted_definition theory name term ty theorem typed accepted =
    let named = passed (is_constant_name name) BadName _ theorem accepted in
    let known = not_refused (first_unknown theory term) _ theorem named.1 in
    let closed = passed (is_closed term) NotClosed _ theorem known.1 in
    let reflected = passed (reflects (own_type term) term) TypeVarsNotReflected _ theorem closed.1 in
    let new = passed (is_new_name theory name) AlreadyDefined _ theorem reflected.1 in
    record {
      is_name = named.0;
      is_new = (is_new_name-Decides theory name).0 new.0;
      known = (is_known-Decides theory term ty typed).0 (unknown_none (knows_types theory term) (knows_constants theory term) (has_instances theory term) known.0);
      closed = (is_closed-Decides term).0 closed.0;
      reflected = (reflects-Decides ty term).0 (ap (λ whole. reflects whole term) (sym (own_type-is term ty typed)) ∙ reflected.0);
    }

legal_type : (theory : Theory) (name : List ℕ) → IsLegalType theory name → new_type_outcome theory name ≡ if_room theory (Ok (declaration_of_type name ∷ theory))
legal_type theory name legal =
    unless-passed (is_declared_type_name name) BadName _ legal.is_name
    ∙ unless-passed (is_new_name theory name) AlreadyDefined _ ((is_new_name-Decides theory name).1 legal.is_new)

accepted_type : (theory : Theory) (name : List ℕ) (now : Theory) → new_type_outcome theory name ≡ Ok now → IsLegalType theory name
accepted_type theory name now accepted =
    let named = passed (is_declared_type_name name) BadName _ now accepted in
    let new = passed (is_new_name theory name) AlreadyDefined _ now named.1 in
    record { is_name = named.0; is_new = (is_new_name-Decides theory name).0 new.0 }

legal_constant : (theory : Theory) (name : List ℕ) (ty : HolType) → IsLegalConstant theory name ty
    → new_const_outcome theory name ty ≡ if_room theory (Ok (declaration_of_constant name ty ∷ theory))
legal_constant theory name ty legal =
    unless-passed (is_constant_name name) BadName _ legal.is_name
    ∙ unless-passed (knows_type theory ty) UnknownType _ ((knows_type-Decides theory ty).1 legal.known)
    ∙ unless-passed (is_fixed ty) TypeVarsNotReflected _ ((is_fixed-Decides ty).1 legal.fixed)
    ∙ unless-passed (is_new_name theory name) AlreadyDefined _ ((is_new_name-Decides theory name).1 legal.is_new)

accepted_constant : (theory : Theory) (name : List ℕ) (ty : HolType) (now : Theory) → new_const_outcome theory name ty ≡ Ok now → IsLegalConstant theory name ty
accepted_constant theory name ty now accepted =
    let named = passed (is_constant_name name) BadName _ now accepted in
    let known = passed (knows_type theory ty) UnknownType _ now named.1 in
    let fixed = passed (is_fixed ty) TypeVarsNotReflected _ now known.1 in
    let new = passed (is_new_name theory name) AlreadyDefined _ now fixed.1 in
    record {
      is_name = named.0;
      is_new = (is_new_name-Decides theory name).0 new.0;
      known = (knows_type-Decides theory ty).0 known.0;
      fixed = (is_fixed-Decides ty).0 fixed.0;
    }

pub accepts_the_legal : AcceptsTheLegal
accepts_the_legal = record {
  legal_definition = legal_definition;
  legal_type = legal_type;
  legal_constant = legal_constant;
  accepted_definition = accepted_definition;
  accepted_type = accepted_type;
  accepted_constant = accepted_constant;
}
