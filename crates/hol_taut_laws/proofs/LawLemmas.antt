-- The laws stay as the journal grows, and each stands at its place.
use Rattle.std.proofs.Common.{◌≡◌, ◌<◌, List, length, refl, sym, ◌∙◌, ap, subst, Option, Some, None, arith}
use Rattle.std.proofs.lemmas.List.{length-map}
use Rattle.std.proofs.lemmas.Option.{slice_get-map}
use Rattle.std.specs.Prelude.{slice_get}
use Rattle.std.specs.Option.{option_map}
use Rattle.hol_model.specs.Kernel.Theorem.{Theorem}
use Rattle.hol_model.specs.Logic.Theory.{IsEarlier}
use Rattle.hol_model.specs.Logic.Logic.{logical_definitions}
use Rattle.hol_journal.specs.Journal.{Journal, Recorded}
use Rattle.hol_prelude_derivations.specs.Derivations.{theorems}
use Rattle.hol_taut_laws.specs.LawTheorems.{tautology_theorems, law_theorem, place}
use Rattle.hol_taut_laws.specs.HasLaws.{HasLaws, LawsStay}
use Rattle.hol_taut_formulas.specs.declared.law.Law.{Law}
use Rattle.hol_taut_laws.specs.declared.stored.Laws.{Laws}
use Rattle.hol_taut_formulas.specs.declared.law.Law.TheVariants.{Truth, Contr, Conj, Mp, Disj1, Disj2, AndFalseLeft, AndFalseRight}
use Rattle.hol_taut_formulas.specs.declared.law.Law.TheVariants.{ImpFalseLeft, ImpTrueRight, NotTrue, NotFalse, IffTrueLeft, IffTrueRight, IffFalseLeft, OrFalseLeft, NotFalseElim}
use Rattle.hol_taut_laws.proofs.Copies.{made-grown}

pub laws-stay : LawsStay
laws-stay old new laws grown has = record { theorems_are = has.theorems_are; made = made-grown old new laws.theorems.items grown has.made }

place-within : (law : Law) → place law < length tautology_theorems
place-within Truth = omega arith
place-within Contr = omega arith
place-within Conj = omega arith
place-within Mp = omega arith
place-within Disj1 = omega arith
place-within Disj2 = omega arith
place-within AndFalseLeft = omega arith
place-within AndFalseRight = omega arith
place-within ImpFalseLeft = omega arith
place-within ImpTrueRight = omega arith
place-within NotTrue = omega arith
place-within NotFalse = omega arith
place-within IffTrueLeft = omega arith
place-within IffTrueRight = omega arith
place-within IffFalseLeft = omega arith
place-within OrFalseLeft = omega arith
place-within NotFalseElim = omega arith

stands-there : (law : Law) → slice_get tautology_theorems (place law) ≡ Some (law_theorem law)
stands-there Truth = refl
stands-there Contr = refl
stands-there Conj = refl
stands-there Mp = refl
stands-there Disj1 = refl
stands-there Disj2 = refl
stands-there AndFalseLeft = refl
stands-there AndFalseRight = refl
stands-there ImpFalseLeft = refl
stands-there ImpTrueRight = refl
stands-there NotTrue = refl
stands-there NotFalse = refl
stands-there IffTrueLeft = refl
stands-there IffTrueRight = refl
stands-there IffFalseLeft = refl
stands-there OrFalseLeft = refl
stands-there NotFalseElim = refl

-- a list of these theorems has one at the law's place, and it is the law's

pub law-within : (all : List Recorded) (law : Law) → theorems all ≡ tautology_theorems → place law < length all
law-within all law are =
    let same : length all ≡ length tautology_theorems = sym (length-map all (λ made. made.theorem)) ∙ ap length are in
    subst (λ n. place law < n) (sym same) (place-within law)

one_theorem : (theorem other : Theorem) → Some theorem ≡ Some other → theorem ≡ other
one_theorem theorem other are = cc

pub law-is : (all : List Recorded) (law : Law) (made : Recorded) → theorems all ≡ tautology_theorems → slice_get all (place law) ≡ Some made → made.theorem ≡ law_theorem law
law-is all law made are there =
    one_theorem made.theorem (law_theorem law)
    (sym (ap (option_map (λ (m : Recorded). m.theorem)) there) ∙ sym (slice_get-map (λ made. made.theorem) all (place law)) ∙ ap (λ (l : List Theorem). slice_get l (place law)) are
    ∙ stands-there law)

-- the theory stands on the definitions of the logical constants
pub stands-on-logic : (journal : Journal) (laws : Laws) → HasLaws journal laws → IsEarlier logical_definitions journal.theory
stands-on-logic journal laws has =
    go (slice_get laws.theorems.items 8) refl (sym (slice_get-map (λ (m : Recorded). m.theorem) laws.theorems.items 8) ∙ ap (λ (l : List Theorem). slice_get l 8) has.theorems_are)
  where
    go : (found : Option Recorded) → slice_get laws.theorems.items 8 ≡ found → option_map (λ (m : Recorded). m.theorem) found ≡ Some (law_theorem Truth) → IsEarlier logical_definitions journal.theory
    go None found is = cc
    go (Some made) found is = subst (λ (t : Theorem). IsEarlier t.theory journal.theory) (one_theorem made.theorem (law_theorem Truth) is) (has.made.each 8 made found).earlier
