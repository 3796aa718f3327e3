-- Formulas of a recorder's theory: conclusions, their parts, and terms that come in.
use Rattle.std.proofs.Common.{◌≡◌, ◌⊎◌, ℕ, List, true, false, refl, inl, inr, sym, ◌∙◌, ap, subst, Option, Some, None, Result, Ok, Err, IfSome, IfErr}
use Rattle.std.specs.Prelude.{OnOk}
use Rattle.std.specs.Option.{option_map, option_map_or}
use Rattle.hol_model.specs.declared.fault.Fault.{Fault}
use Rattle.hol_model.specs.declared.fault.Fault.TheVariants.{Memory, NotBool}
use Rattle.hol_model.specs.Terms.HolType.{HolType, type_variable, bool_type, type_eq}
use Rattle.hol_model.specs.Terms.NamedTerm.{NamedTerm, constant, equation, type_of}
use Rattle.hol_model.specs.Terms.Nameless.{Nameless, const, app, image}
use Rattle.hol_model.specs.Logic.Derivable.{nameless_equation}
use Rattle.hol_model.proofs.Logic.Known.{equation-sides, equation-known, app-known}
use Rattle.hol_model.proofs.Terms.Images.{image-equation}
use Rattle.hol_model.specs.Logic.Theory.{Theory, IsLegal, IsKnown, generic_type}
use Rattle.hol_model.specs.Logic.Logic.{logical_definitions, true_name, false_name, not_name, unary, binary}
use Rattle.hol_model.specs.Logic.NamedLogic.{true_term, false_term, is_true, is_false, connected, negation, dest_connected, dest_negation}
use Rattle.hol_model.specs.Kernel.Theorem.{Theorem, IsTheorem}
use Rattle.hol_model.specs.Kernel.Rules.{dest_equation, is_formula, first_unknown}
use Rattle.hol_model.proofs.Terms.HolTypeEq.{type_eq-Decides}
use Rattle.hol_kernel.proofs.RuleLemmas.{known_term}
use Rattle.hol_journal.specs.Journal.{Journal}
use Rattle.hol_journal.proofs.Showing.{sides_of}
use Rattle.hol_equal.proofs.StepLemmas.{equation-typed}
use Rattle.hol_prelude.specs.HasLogic.{HasLogic}
use Rattle.hol_equal.specs.Formulas.{IsFormula, AreSides, IsNegated, IsPassed, IsRefused}
use Rattle.hol_prelude.specs.declared.stored.Bool.{Bool as Stored}
use Rattle.hol_bool.proofs.RoomLemmas.{connected-typed, negation-typed}
use Rattle.hol_bool.proofs.LogicLemmas.{logical-type, connected-parts, negated-part, constant-is}

abbrev pub sides_in : {S : Type 0} → (S → NamedTerm) → (S → NamedTerm) → Option S → Option (NamedTerm × NamedTerm)
sides_in left right found = option_map (λ s. (left s, right s)) found

pub parts-of : {S : Type 0} (left right : S → NamedTerm) (result : Option S) (journal : Journal) (logic : Stored) → HasLogic journal logic
    → IsLegal journal.theory → (name : List ℕ) → generic_type logical_definitions name ≡ Some binary
    → (term : NamedTerm) → IsFormula journal.theory term → sides_in left right result ≡ dest_connected name term → IfSome result (λ s. AreSides journal.theory name term (left s) (right s))
parts-of left right None journal logic has legal name generic term formula dest = tt
parts-of left right (Some s) journal logic has legal name generic term formula dest =
    connected-parts journal.theory name (logical-type journal logic has legal name binary generic) term (left s) (right s) (sym dest) formula.known

-- two formulas under a binary connective
pub connected-formula : (theory : Theory) (name : List ℕ) → generic_type theory name ≡ Some binary → (left right : NamedTerm) → IsFormula theory left
    → IsFormula theory right → IsFormula theory (connected name left right)
connected-formula theory name generic left right one two =
    let connective : IsKnown theory (const name binary) binary = record {
      typed = refl;
      parts = ((tt, (tt, tt)), record { generic = binary; is_generic = generic; is_instance = record { instance = type_variable; is_instance = refl } });
    } in
    record {
      typed = connected-typed name left right one.typed two.typed;
      known = app-known theory bool_type bool_type (app (const name binary) (image left)) (image right)
          (app-known theory bool_type unary (const name binary) (image left) connective one.known) two.known;
    }

-- an equation of two formulas
pub equation-formula : (theory : Theory) → IsLegal theory → (left right : NamedTerm) → IsFormula theory left → IsFormula theory right → IsFormula theory (equation left right)
equation-formula theory legal left right one two = record {
  typed = equation-typed left right bool_type one.typed two.typed;
  known = subst (λ (t : Nameless). IsKnown theory t bool_type) (sym (image-equation left right bool_type one.typed))
      (equation-known theory legal bool_type (image left) (image right) one.known two.known);
}

-- a negated formula
pub negation-formula : (theory : Theory) → generic_type theory not_name ≡ Some unary → (part : NamedTerm) → IsFormula theory part → IsFormula theory (negation part)
negation-formula theory generic part formula =
    let connective : IsKnown theory (const not_name unary) unary = record {
      typed = refl;
      parts = ((tt, tt), record { generic = unary; is_generic = generic; is_instance = record { instance = type_variable; is_instance = refl } });
    } in
    record { typed = negation-typed part formula.typed; known = app-known theory bool_type bool_type (const not_name unary) (image part) connective formula.known }

-- `T` and `F`
pub constant-formula : (theory : Theory) (name : List ℕ) → generic_type theory name ≡ Some bool_type → IsFormula theory (constant name bool_type)
constant-formula theory name generic = record {
  typed = refl;
  known = record { typed = refl; parts = (tt, record { generic = bool_type; is_generic = generic; is_instance = record { instance = type_variable; is_instance = refl } }) };
}

-- the same, where the theory has the logical constants
module _ (journal : Journal) (logic : Stored) (has : HasLogic journal logic) (legal : IsLegal journal.theory) where
  pub connects : (name : List ℕ) → generic_type logical_definitions name ≡ Some binary → (left right : NamedTerm) → IsFormula journal.theory left → IsFormula journal.theory right
      → IsFormula journal.theory (connected name left right)
  connects name generic left right one two = connected-formula journal.theory name (logical-type journal logic has legal name binary generic) left right one two

  pub negates : (part : NamedTerm) → IsFormula journal.theory part → IsFormula journal.theory (negation part)
  negates part formula = negation-formula journal.theory (logical-type journal logic has legal not_name unary refl) part formula

  pub truth_is_formula : IsFormula journal.theory true_term
  truth_is_formula = constant-formula journal.theory true_name (logical-type journal logic has legal true_name bool_type refl)

  pub falsity_is_formula : IsFormula journal.theory false_term
  falsity_is_formula = constant-formula journal.theory false_name (logical-type journal logic has legal false_name bool_type refl)

-- a term that is made as a formula is made is one
pub made-formula : (theory : Theory) (made term : NamedTerm) → made ≡ term → IsFormula theory term → IsFormula theory made
made-formula theory made term is formula = subst (λ (t : NamedTerm). IsFormula theory t) (sym is) formula

-- and a formula stays one
pub formula_in : (now old : Theory) (term : NamedTerm) → now ≡ old → IsFormula old term → IsFormula now term
formula_in now old term same formula = subst (λ (t : Theory). IsFormula t term) (sym same) formula

abbrev pub part_in : {S : Type 0} → (S → NamedTerm) → Option S → Option NamedTerm
part_in part found = option_map part found

pub part-of : {S : Type 0} (part : S → NamedTerm) (result : Option S) (journal : Journal) (logic : Stored) → HasLogic journal logic → IsLegal journal.theory
    → (term : NamedTerm) → IsFormula journal.theory term → part_in part result ≡ dest_negation term → IfSome result (λ s. IsNegated journal.theory term (part s))
part-of part None journal logic has legal term formula dest = tt
part-of part (Some s) journal logic has legal term formula dest =
    negated-part journal.theory (logical-type journal logic has legal not_name unary refl) term (part s) (sym dest) formula.known

-- a conclusion that is an equation with `T`
pub record IsTruthEquation (theory : Theory) (term left : NamedTerm) : Type 0 where
  pub formula : IsFormula theory left
  pub image_is : image term ≡ nameless_equation bool_type (image left) (image true_term)

pub truth-equation : (journal : Journal) (logic : Stored) → HasLogic journal logic → IsLegal journal.theory → (theorem : Theorem) → IsTheorem theorem
    → IsFormula journal.theory theorem.conclusion → (left right : NamedTerm)
    → dest_equation theorem.conclusion ≡ Some (left, right) → is_true right ≡ true → IsTruthEquation journal.theory theorem.conclusion left
truth-equation journal logic has legal theorem is formula left right dest true_right =
    let theory = journal.theory in
    let e = sides_of theorem is left right dest in
    let sides = equation-sides theory e.ty (image left) (image right) (subst (λ (t : Nameless). IsKnown theory t bool_type) e.image_is formula.known) in
    let right_is = constant-is theory true_name right e.ty (logical-type journal logic has legal true_name bool_type refl) true_right sides.right in
    let same : Some e.ty ≡ Some bool_type = sym e.right_typed ∙ ap type_of right_is in
    let ty_is : e.ty ≡ bool_type = cc in
    record {
      formula = record { typed = e.left_typed ∙ same; known = subst (λ (t : HolType). IsKnown theory (image left) t) ty_is sides.left };
      image_is = e.image_is ∙ (λ i. nameless_equation (ty_is i) (image left) (image (right_is i)));
    }

-- a conclusion that is `F`
pub false-is : (journal : Journal) (logic : Stored) → HasLogic journal logic → IsLegal journal.theory → (term : NamedTerm) → IsFormula journal.theory term → is_false term ≡ true → term ≡ false_term
false-is journal logic has legal term formula is = constant-is journal.theory false_name term bool_type (logical-type journal logic has legal false_name bool_type refl) is formula.known

abbrev pub sides_as : NamedTerm → NamedTerm → Option (NamedTerm × NamedTerm)
sides_as left right = Some (left, right)

typed-formula : (term : NamedTerm) → is_formula term ≡ true → type_of term ≡ Some bool_type
typed-formula term is = go (type_of term) refl is
  where
    go : (found : Option HolType) → type_of term ≡ found → option_map_or (λ ty. type_eq ty bool_type) found false ≡ true → type_of term ≡ Some bool_type
    go None found is = cc
    go (Some ty) found is = found ∙ ap Some ((type_eq-Decides ty bool_type).0 is)

-- a term's type tells whether it is a formula
pub formula-test : (term : NamedTerm) (ty : HolType) → type_of term ≡ Some ty → is_formula term ≡ type_eq ty bool_type
formula-test term ty typed = rw typed refl

pub no-formula : (theory : Theory) (term : NamedTerm) → is_formula term ≡ false → IsRefused theory term NotBool
no-formula theory term is = inr (λ next. rw is refl)

pub unknown-formula : (theory : Theory) (term : NamedTerm) (fault : Fault) → is_formula term ≡ true → first_unknown theory term ≡ Some fault → IsRefused theory term fault
unknown-formula theory term fault is unknown = inr (λ next. rw (is, unknown) refl)

pub passed : (theory : Theory) (term : NamedTerm) → is_formula term ≡ true → first_unknown theory term ≡ None → IsPassed theory term
passed theory term is known =
    let typed = typed-formula term is in
    record { is_formula = is; is_known = known; formula = record { typed = typed; known = known_term theory term bool_type known typed } }

pub formula-refused : {T : Type 0} (theory : Theory) (term : NamedTerm) (result : Result T Fault) → is_formula term ≡ true
    → IfErr result (λ fault. (fault ≡ Memory) ⊎ (first_unknown theory term ≡ Some fault)) → IfErr result (IsRefused theory term)
formula-refused theory term (Ok done) is refused = tt
formula-refused theory term (Err fault) is refused = elim refused [
  | inl memory ↦ inl memory
  | inr unknown ↦ unknown-formula theory term fault is unknown
]

pub formula-passed : {T : Type 0} (theory : Theory) (term : NamedTerm) (result : Result T Fault) → is_formula term ≡ true
    → OnOk result (first_unknown theory term ≡ None) → OnOk result (IsPassed theory term)
formula-passed theory term (Ok done) is known = passed theory term is known
formula-passed theory term (Err fault) is known = tt
