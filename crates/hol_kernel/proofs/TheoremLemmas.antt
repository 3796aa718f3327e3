-- The theory of a theorem knows its formulas.
use Rattle.std.proofs.Common.{List, [], ◌∷◌, map, refl, inl, inr}
use Rattle.std.specs.List.{All}
use Rattle.std.proofs.lemmas.List.Elements.{All-nil, All-cons}
use Rattle.hol_model.specs.Terms.HolType.{bool_type}
use Rattle.hol_model.specs.Terms.NamedTerm.{NamedTerm}
use Rattle.hol_model.specs.Terms.Nameless.{image}
use Rattle.hol_model.specs.Logic.Theory.{Theory, IsKnown}
use Rattle.hol_model.specs.Logic.Derivable.{AreKnown}
use Rattle.hol_model.specs.Kernel.Theorem.{Theorem, IsTheorem}
use Rattle.hol_model.proofs.Terms.Images.{image-type}
use Rattle.hol_model.proofs.Logic.Known.{Derivable-known}
use Rattle.hol_model.proofs.Terms.NamedTests.{is_known-Decides}
use Rattle.hol_kernel.specs.KnownFormula.{IsKnownFormula}

-- a formula whose image is known is known
known_formula : (theory : Theory) (term : NamedTerm) → IsKnown theory (image term) bool_type → IsKnownFormula theory term
known_formula theory term known =
    let typed = image-type term bool_type known.typed in
    record { known = (is_known-Decides theory term bool_type typed).1 known; typed = typed }

known_formulas : (theory : Theory) (terms : List NamedTerm) → AreKnown theory (map image terms) → All (IsKnownFormula theory) terms
known_formulas theory [] known = All-nil (IsKnownFormula theory)
known_formulas theory (term ∷ terms) known =
    All-cons (IsKnownFormula theory) term terms (known_formula theory term (known (image term) (inl refl))) (known_formulas theory terms (λ t m. known t (inr m)))

pub known_conclusion : (theorem : Theorem) → IsTheorem theorem → IsKnownFormula theorem.theory theorem.conclusion
known_conclusion theorem is = known_formula theorem.theory theorem.conclusion (Derivable-known theorem.theory is.legal is.derivable).conclusion

pub known_hypotheses : (theorem : Theorem) → IsTheorem theorem → All (IsKnownFormula theorem.theory) theorem.hypotheses
known_hypotheses theorem is = known_formulas theorem.theory theorem.hypotheses (Derivable-known theorem.theory is.legal is.derivable).hypotheses
