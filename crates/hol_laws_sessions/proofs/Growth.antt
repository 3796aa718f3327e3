-- How a theory grows by what a command accepts.
use Rattle.std.proofs.Common.{◌≡◌, ℕ, List, [], ◌∷◌, true, refl, sym, subst, ap, Option, None, Some, Result, Ok}
use Rattle.std.specs.Prelude.{not, is_some}
use Rattle.hol_model.specs.declared.fault.Fault.{Fault}
use Rattle.hol_model.specs.declared.fault.Fault.TheVariants.{TooLarge, BadName, NotClosed, TypeVarsNotReflected, AlreadyDefined, UnknownType}
use Rattle.hol_model.specs.Terms.Name.{is_constant_name, is_declared_type_name}
use Rattle.hol_model.specs.Terms.HolType.{HolType}
use Rattle.hol_model.specs.Terms.NamedTerm.{NamedTerm, constant, type_of, equation, is_within_limits}
use Rattle.hol_model.specs.Terms.Nameless.{image}
use Rattle.hol_model.specs.Logic.Theory.{Theory, Entry, definition, declaration_of_type, declaration_of_constant, IsLegal, IsLegalDefinition, IsLegalType, IsLegalConstant, IsEarlier}
use Rattle.hol_model.specs.Logic.KnownTerm.{knows_type}
use Rattle.hol_model.specs.Logic.Legality.{is_closed, reflects, is_fixed, is_new_name, own_type}
use Rattle.hol_model.specs.Kernel.Outcome.{unless, refused}
use Rattle.hol_model.specs.Kernel.Theorem.{Theorem}
use Rattle.hol_model.specs.Kernel.Rules.{first_unknown, is_full, with_definition, concluded, define_outcome, new_type_outcome, new_const_outcome}
use Rattle.hol_model.proofs.Logic.Earlier.{earlier-same, earlier-more, earlier-twice}
use Rattle.hol_model.proofs.Logic.KnownTerms.{knows_type-IsKnownType, image-known}
use Rattle.hol_model.proofs.Logic.LegalEntries.{closed-HasNoFree, reflects-image, fixed-has_none, new_name-IsNewName}
use Rattle.hol_laws_goals.proofs.Passing.{passed, not_refused, passes_tests}

-- a theory with no more than legal entries added
pub record GrowsLegally (old new : Theory) : Type 0 where
  pub earlier : IsEarlier old new
  pub stays_legal : IsLegal old → IsLegal new

pub stays : (old new : Theory) → new ≡ old → GrowsLegally old new
stays old new same = record { earlier = earlier-same old new (sym same); stays_legal = λ legal. subst IsLegal (sym same) legal }

pub grows_twice : (first second third : Theory) → GrowsLegally first second → GrowsLegally second third → GrowsLegally first third
grows_twice first second third one two = record { earlier = earlier-twice first second third one.earlier two.earlier; stays_legal = λ legal. two.stays_legal (one.stays_legal legal) }

-- one more entry, which is legal over a legal theory
grows-by : (entry : Entry) (old new : Theory) → new ≡ entry ∷ old → (IsLegal old → IsLegal (entry ∷ old)) → GrowsLegally old new
grows-by entry old new grown legal = record { earlier = earlier-more entry old new grown; stays_legal = λ is. subst IsLegal (sym grown) (legal is) }

-- ---- declared types and constants

abbrev type_with_room : Theory → List ℕ → Result Theory Fault
type_with_room theory name = unless (not (is_full theory)) TooLarge (Ok (declaration_of_type name ∷ theory))

abbrev type_of_new_name : Theory → List ℕ → Result Theory Fault
type_of_new_name theory name = unless (is_new_name theory name) AlreadyDefined (type_with_room theory name)

-- the entry that is added
pub type-added : (theory new : Theory) (name : List ℕ) → new_type_outcome theory name ≡ Ok new → new ≡ declaration_of_type name ∷ theory
type-added theory new name same =
    let named = passed (is_declared_type_name name) BadName (type_of_new_name theory name) new same in
    let is_new = passed (is_new_name theory name) AlreadyDefined (type_with_room theory name) new named.1 in
    let room = passed (not (is_full theory)) TooLarge (Ok (declaration_of_type name ∷ theory)) new is_new.1 in
    let whole : Ok (declaration_of_type name ∷ theory) ≡ Ok new = room.1 in
    cc

pub type-grows : (theory new : Theory) (name : List ℕ) → new_type_outcome theory name ≡ Ok new → GrowsLegally theory new
type-grows theory new name same =
    let named = passed (is_declared_type_name name) BadName (type_of_new_name theory name) new same in
    let is_new = passed (is_new_name theory name) AlreadyDefined (type_with_room theory name) new named.1 in
    let room = passed (not (is_full theory)) TooLarge (Ok (declaration_of_type name ∷ theory)) new is_new.1 in
    let whole : Ok (declaration_of_type name ∷ theory) ≡ Ok new = room.1 in
    let grown : new ≡ declaration_of_type name ∷ theory = cc in
    let entry : IsLegalType theory name = record { is_name = named.0; is_new = new_name-IsNewName theory name is_new.0 } in
    grows-by (declaration_of_type name) theory new grown (λ legal. (entry, legal))

abbrev const_with_room : Theory → List ℕ → HolType → Result Theory Fault
const_with_room theory name ty = unless (not (is_full theory)) TooLarge (Ok (declaration_of_constant name ty ∷ theory))

abbrev const_of_new_name : Theory → List ℕ → HolType → Result Theory Fault
const_of_new_name theory name ty = unless (is_new_name theory name) AlreadyDefined (const_with_room theory name ty)

abbrev const_of_fixed : Theory → List ℕ → HolType → Result Theory Fault
const_of_fixed theory name ty = unless (is_fixed ty) TypeVarsNotReflected (const_of_new_name theory name ty)

abbrev const_of_known : Theory → List ℕ → HolType → Result Theory Fault
const_of_known theory name ty = unless (knows_type theory ty) UnknownType (const_of_fixed theory name ty)

pub const-added : (theory new : Theory) (name : List ℕ) (ty : HolType) → new_const_outcome theory name ty ≡ Ok new → new ≡ declaration_of_constant name ty ∷ theory
const-added theory new name ty same =
    let named = passed (is_constant_name name) BadName (const_of_known theory name ty) new same in
    let known = passed (knows_type theory ty) UnknownType (const_of_fixed theory name ty) new named.1 in
    let fixed = passed (is_fixed ty) TypeVarsNotReflected (const_of_new_name theory name ty) new known.1 in
    let is_new = passed (is_new_name theory name) AlreadyDefined (const_with_room theory name ty) new fixed.1 in
    let room = passed (not (is_full theory)) TooLarge (Ok (declaration_of_constant name ty ∷ theory)) new is_new.1 in
    let whole : Ok (declaration_of_constant name ty ∷ theory) ≡ Ok new = room.1 in
    cc

pub const-grows : (theory new : Theory) (name : List ℕ) (ty : HolType) → new_const_outcome theory name ty ≡ Ok new → GrowsLegally theory new
const-grows theory new name ty same =
    let named = passed (is_constant_name name) BadName (const_of_known theory name ty) new same in
    let known = passed (knows_type theory ty) UnknownType (const_of_fixed theory name ty) new named.1 in
    let fixed = passed (is_fixed ty) TypeVarsNotReflected (const_of_new_name theory name ty) new known.1 in
    let is_new = passed (is_new_name theory name) AlreadyDefined (const_with_room theory name ty) new fixed.1 in
    let room = passed (not (is_full theory)) TooLarge (Ok (declaration_of_constant name ty ∷ theory)) new is_new.1 in
    let whole : Ok (declaration_of_constant name ty ∷ theory) ≡ Ok new = room.1 in
    let grown : new ≡ declaration_of_constant name ty ∷ theory = cc in
    let entry : IsLegalConstant theory name ty = record {
      is_name = named.0;
      is_new = new_name-IsNewName theory name is_new.0;
      known = knows_type-IsKnownType theory ty known.0;
      fixed = fixed-has_none ty fixed.0;
    } in
    grows-by (declaration_of_constant name ty) theory new grown (λ legal. (entry, legal))

-- ---- definitions

abbrev in_limits : Theory → List ℕ → NamedTerm → Result Theorem Fault
in_limits theory name term = concluded (with_definition theory name term) [] (equation (constant name (own_type term)) term)

abbrev with_room : Theory → List ℕ → NamedTerm → Result Theorem Fault
with_room theory name term = unless (not (is_full theory)) TooLarge (in_limits theory name term)

abbrev of_new_name : Theory → List ℕ → NamedTerm → Result Theorem Fault
of_new_name theory name term = unless (is_new_name theory name) AlreadyDefined (with_room theory name term)

abbrev of_reflecting : Theory → List ℕ → NamedTerm → Result Theorem Fault
of_reflecting theory name term = unless (reflects (own_type term) term) TypeVarsNotReflected (of_new_name theory name term)

abbrev of_closed : Theory → List ℕ → NamedTerm → Result Theorem Fault
of_closed theory name term = unless (is_closed term) NotClosed (of_reflecting theory name term)

abbrev of_known : Theory → List ℕ → NamedTerm → Result Theorem Fault
of_known theory name term = refused (first_unknown theory term) (of_closed theory name term)

own_type-is : (term : NamedTerm) → is_some (type_of term) ≡ true → type_of term ≡ Some (own_type term)
own_type-is term typed = go (type_of term) refl typed
  where
    go : (found : Option HolType) → type_of term ≡ found → is_some found ≡ true → type_of term ≡ Some (own_type term)
    go None is typed = cc
    go (Some ty) is typed = rw is refl

pub definition-grows : (theory : Theory) (name : List ℕ) (term : NamedTerm) (theorem : Theorem) → is_some (type_of term) ≡ true → define_outcome theory name term ≡ Ok theorem
    → GrowsLegally theory theorem.theory
definition-grows theory name term theorem typed same =
    let named = passed (is_constant_name name) BadName (of_known theory name term) theorem same in
    let known = not_refused (first_unknown theory term) (of_closed theory name term) theorem named.1 in
    let closed = passed (is_closed term) NotClosed (of_reflecting theory name term) theorem known.1 in
    let reflecting = passed (reflects (own_type term) term) TypeVarsNotReflected (of_new_name theory name term) theorem closed.1 in
    let is_new = passed (is_new_name theory name) AlreadyDefined (with_room theory name term) theorem reflecting.1 in
    let room = passed (not (is_full theory)) TooLarge (in_limits theory name term) theorem is_new.1 in
    let made : Theorem = record { theory = with_definition theory name term; hypotheses = []; conclusion = equation (constant name (own_type term)) term } in
    let fits = passed (is_within_limits (equation (constant name (own_type term)) term)) TooLarge (Ok made) theorem room.1 in
    let whole : Ok made ≡ Ok theorem = fits.1 in
    let grown : theorem ≡ made = cc in
    let tests = passes_tests theory term known.0 in
    let entry : IsLegalDefinition theory name (own_type term) (image term) = record {
      is_name = named.0;
      is_new = new_name-IsNewName theory name is_new.0;
      known = image-known theory term (own_type term) (own_type-is term typed) tests.types tests.instances;
      closed = closed-HasNoFree term closed.0;
      reflected = reflects-image (own_type term) term reflecting.0;
    } in
    grows-by (definition name (own_type term) (image term)) theory theorem.theory (ap (λ (t : Theorem). t.theory) grown) (λ legal. (entry, legal))

pub definition-was_new : (theory : Theory) (name : List ℕ) (term : NamedTerm) (theorem : Theorem) → define_outcome theory name term ≡ Ok theorem → is_new_name theory name ≡ true
definition-was_new theory name term theorem same =
    let named = passed (is_constant_name name) BadName (of_known theory name term) theorem same in
    let known = not_refused (first_unknown theory term) (of_closed theory name term) theorem named.1 in
    let closed = passed (is_closed term) NotClosed (of_reflecting theory name term) theorem known.1 in
    let reflecting = passed (reflects (own_type term) term) TypeVarsNotReflected (of_new_name theory name term) theorem closed.1 in
    (passed (is_new_name theory name) AlreadyDefined (with_room theory name term) theorem reflecting.1).0

pub definition-accepted : (theory : Theory) (name : List ℕ) (term : NamedTerm) (theorem : Theorem) → define_outcome theory name term ≡ Ok theorem
    → theorem.theory ≡ definition name (own_type term) (image term) ∷ theory
definition-accepted theory name term theorem same =
    let named = passed (is_constant_name name) BadName (of_known theory name term) theorem same in
    let known = not_refused (first_unknown theory term) (of_closed theory name term) theorem named.1 in
    let closed = passed (is_closed term) NotClosed (of_reflecting theory name term) theorem known.1 in
    let reflecting = passed (reflects (own_type term) term) TypeVarsNotReflected (of_new_name theory name term) theorem closed.1 in
    let is_new = passed (is_new_name theory name) AlreadyDefined (with_room theory name term) theorem reflecting.1 in
    let room = passed (not (is_full theory)) TooLarge (in_limits theory name term) theorem is_new.1 in
    let made : Theorem = record { theory = with_definition theory name term; hypotheses = []; conclusion = equation (constant name (own_type term)) term } in
    let fits = passed (is_within_limits (equation (constant name (own_type term)) term)) TooLarge (Ok made) theorem room.1 in
    let whole : Ok made ≡ Ok theorem = fits.1 in
    let grown : theorem ≡ made = cc in
    ap (λ (t : Theorem). t.theory) grown
