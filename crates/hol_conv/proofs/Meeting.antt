-- Equations that meet, and so fit.
use Rattle.std.proofs.Common.{◌≡◌, [], inl, inr, refl, sym, ◌∙◌, subst, Result, Ok, Err, IfOk}
use Rattle.hol_model.specs.declared.fault.Fault.{Fault}
use Rattle.hol_model.specs.Terms.NamedTerm.{NamedTerm, equation}
use Rattle.hol_model.specs.Terms.Nameless.{Nameless, HasType, image}
use Rattle.hol_model.specs.Logic.Theory.{Theory, IsLegal}
use Rattle.hol_model.specs.Logic.Derivable.{nameless_equation}
use Rattle.hol_model.specs.Kernel.Theorem.{Theorem}
use Rattle.hol_model.specs.Kernel.Rules.{first_unknown, concluded, refl_outcome}
use Rattle.hol_model.proofs.Terms.Typing.{one_type}
use Rattle.hol_laws_refiners.specs.Laws.{IsEquationOf}
use Rattle.hol_laws_refiners.proofs.Equations.{equation-sides}
use Rattle.hol_laws_refiners.proofs.FormulaParts.{equation-parts}
use Rattle.hol_kernel.specs.Fits.{TransFits}
use Rattle.hol_journal.proofs.Showing.{refused-is, concluded-is}
use Rattle.hol_equal.specs.Formulas.{IsFormula}
use Rattle.hol_conv.specs.Makes.{Joins, Meets, IsRightSide}
use Rattle.hol_conv.specs.declared.converted.Converted.{Converted}
use Rattle.hol_conv.specs.Converted.{same_theorem, theorem_of}
use Rattle.hol_conv.proofs.Same.{same-side, side-same}

-- of one type, since a term has one

pub meets-fits : (theory : Theory) → IsLegal theory → (first second : Theorem) → IsFormula theory first.conclusion → IsFormula theory second.conclusion → Meets first second → TransFits first second
meets-fits theory legal first second one_formula other_formula meets =
    let one = equation-parts theory legal first.conclusion meets.sides meets.first_is one_formula.known in
    let other = equation-parts theory legal second.conclusion meets.further meets.second_is other_formula.known in
    let there : HasType [] (image meets.sides.1) other.ty = subst (λ (t : Nameless). HasType [] t other.ty) meets.middle other.left.typed in
    let same : other.ty ≡ one.ty = one_type (image meets.sides.1) other.ty one.ty there one.right.typed in
    record {
      ty = one.ty;
      left = image meets.sides.0;
      middle = image meets.sides.1;
      right = image meets.further.1;
      first_is = one.same;
      second_is = other.same ∙ λ i. nameless_equation (same i) (meets.middle i) (image meets.further.1);
    }

-- an equation of the right side meets what it stands behind
pub side-meets : {first second : Theorem} {right : NamedTerm} → IsRightSide first right → IsEquationOf right second → Meets first second
side-meets {first} {second} {right} side of = record { sides = (side.left, right); further = of.sides; first_is = side.is; second_is = of.is_equation; middle = of.same_left }

-- ---- what REFL proves

no-theorem : {A : Type 0} {fault : Fault} {theorem : Theorem} → Err fault ≡ Ok theorem → A
no-theorem is = cc

pub refl-made : (theory : Theory) (t : NamedTerm) {made : Theorem} → Joins (refl_outcome theory t) (Ok made) → made ≡ same_theorem theory t
refl-made theory t {made} (inl is) = concluded-is theory [] (equation t t) made (refused-is (first_unknown theory t) (concluded theory [] (equation t t)) made (sym is))
refl-made theory t (inr is) = no-theorem (sym is)

pub refl-side : (theory : Theory) (t : NamedTerm) {made : Theorem} → Joins (refl_outcome theory t) (Ok made) → IsRightSide made t
refl-side theory t joins = subst (λ (made : Theorem). IsRightSide made t) (sym (refl-made theory t joins)) (same-side theory t)

pub same-equation : (theory : Theory) (t : NamedTerm) → IsEquationOf t (same_theorem theory t)
same-equation theory t = record { sides = (t, t); is_equation = equation-sides t t; same_left = refl }

pub refl-equation : (theory : Theory) (t : NamedTerm) {made : Theorem} → Joins (refl_outcome theory t) (Ok made) → IsEquationOf t made
refl-equation theory t joins = subst (λ (made : Theorem). IsEquationOf t made) (sym (refl-made theory t joins)) (same-equation theory t)

-- ---- two answers

pub side-as : (theory : Theory) (t right : NamedTerm) (first other : Converted) → first ≡ other → IsRightSide (theorem_of theory t first) right → IsRightSide (theorem_of theory t other) right
side-as theory t right first other is side = subst (λ (first : Converted). IsRightSide (theorem_of theory t first) right) is side

pub equation-as : (theory : Theory) (right : NamedTerm) (next : Result Converted Fault) (other : Converted) → next ≡ Ok other
    → IfOk next (λ next. IsEquationOf right (theorem_of theory right next)) → IsEquationOf right (theorem_of theory right other)
equation-as theory right next other is equation = subst (λ (next : Result Converted Fault). IfOk next (λ next. IsEquationOf right (theorem_of theory right next))) is equation

-- an equation of the right side of that a term equals itself
pub equation-of-same : (theory : Theory) (t right : NamedTerm) (theorem : Theorem) → IsRightSide (same_theorem theory t) right → IsEquationOf right theorem → IsEquationOf t theorem
equation-of-same theory t right theorem side of = subst (λ (u : NamedTerm). IsEquationOf u theorem) (side-same theory t right side) of
