-- Parts of formulas are formulas.
use Rattle.std.proofs.Common.{◌≡◌, ℕ, List, [], subst}
use Rattle.hol_model.specs.Terms.HolType.{HolType, bool_type}
use Rattle.hol_model.specs.Terms.NamedTerm.{NamedTerm}
use Rattle.hol_model.specs.Terms.Nameless.{const, app, HasType, image}
use Rattle.hol_model.specs.Logic.Theory.{Theory, IsKnown}
use Rattle.hol_model.specs.Logic.Logic.{not_name, unary, binary}
use Rattle.hol_model.specs.Logic.NamedLogic.{connected, negation}
use Rattle.hol_model.proofs.Terms.Images.{image-type}
use Rattle.hol_equal.specs.Formulas.{IsFormula}

-- the sides of a formula of a binary connective are formulas
pub record AreFormulas (theory : Theory) (left right : NamedTerm) : Type 0 where
  pub left_formula : IsFormula theory left
  pub right_formula : IsFormula theory right

pub sides-formulas : (theory : Theory) (name : List ℕ) (left right : NamedTerm) → IsFormula theory (connected name left right) → AreFormulas theory left right
sides-formulas theory name left right formula =
    let known = formula.known in
    let typed : HasType [] (app (app (const name binary) (image left)) (image right)) bool_type = known.typed in
    let first : typed.1.0 ≡ bool_type = cc in
    let second : typed.0 ≡ bool_type = cc in
    let left_known : IsKnown theory (image left) bool_type = record { typed = subst (λ (t : HolType). HasType [] (image left) t) first typed.1.2; parts = known.parts.0.1 } in
    let right_known : IsKnown theory (image right) bool_type = record { typed = subst (λ (t : HolType). HasType [] (image right) t) second typed.2; parts = known.parts.1 } in
    record {
      left_formula = record { typed = image-type left bool_type left_known.typed; known = left_known };
      right_formula = record { typed = image-type right bool_type right_known.typed; known = right_known };
    }

pub part-formula : (theory : Theory) (part : NamedTerm) → IsFormula theory (negation part) → IsFormula theory part
part-formula theory part formula =
    let known = formula.known in
    let typed : HasType [] (app (const not_name unary) (image part)) bool_type = known.typed in
    let domain : typed.0 ≡ bool_type = cc in
    let part_known : IsKnown theory (image part) bool_type = record { typed = subst (λ (t : HolType). HasType [] (image part) t) domain typed.2; parts = known.parts.1 } in
    record { typed = image-type part bool_type part_known.typed; known = part_known }
