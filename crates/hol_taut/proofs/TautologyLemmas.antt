-- From the denial of a denial to the formula.
use Rattle.std.proofs.Common.{◌≡◌, Bool, true, false, refl, sym, ◌∙◌, ap, subst}
use Rattle.hol_model.specs.Terms.HolType.{bool_type}
use Rattle.hol_model.specs.Terms.NamedTerm.{NamedTerm, equation}
use Rattle.hol_model.specs.Logic.NamedLogic.{false_term}
use Rattle.hol_model.specs.Terms.Nameless.{Nameless, image}
use Rattle.hol_model.specs.Logic.Logic as nameless
use Rattle.hol_model.specs.Logic.Theory.{Theory}
use Rattle.hol_model.proofs.Terms.Images.{image-equation}
use Rattle.hol_bool.specs.PreludeInstances.{at_p_q}
use Rattle.hol_equal.specs.Formulas.{IsFormula}
use Rattle.hol_equal.specs.Room.{FitsIf}
use Rattle.hol_prelude.specs.Prelude.{p}
use Rattle.hol_taut.proofs.LawLemmas.{leads-p_q}
use Rattle.hol_taut.specs.LawSteps.{LeadsTo}
use Rattle.hol_taut_formulas.specs.declared.law.Law.TheVariants.{NotFalseElim}
use Rattle.hol_model.specs.Propositional.Connectives.{fact}
use Rattle.hol_taut.specs.Ways.{IsSmallIf}
use Rattle.hol_taut.proofs.WayLemmas.{fact-fits, facts-fit, falsity-small}

pub denial-image : (theory : Theory) (term denial : NamedTerm) → IsFormula theory term → denial ≡ equation term false_term → image denial ≡ fact false (image term)
denial-image theory term denial formula is = ap image is ∙ image-equation term false_term bool_type formula.typed

pub denial-fits : (room : Bool) (a denial : Nameless) → denial ≡ fact false a → IsSmallIf room a → FitsIf room denial
denial-fits room a denial is small = subst (λ (t : Nameless). FitsIf room t) (sym is) (fact-fits false room a small)

pub denied-fits : (room : Bool) (a denial : Nameless) → denial ≡ fact false a → IsSmallIf room a → FitsIf room (fact false denial)
denied-fits room a denial is small = subst (λ (t : Nameless). FitsIf room (fact false t)) (sym is) (facts-fit false true room a nameless.false_term small (falsity-small room))

pub denied-leads : (theory : Theory) (a : NamedTerm) (denial : Nameless) (room : Bool) → denial ≡ fact false (image a) → IsFormula theory a → IsSmallIf room (image a)
    → LeadsTo theory NotFalseElim (at_p_q a a) room (fact false denial) (image a)
denied-leads theory a denial room is formula small =
    leads-p_q theory NotFalseElim (equation (equation p false_term) false_term) p a a (at_p_q a a) refl refl formula formula refl room (fact false denial) (image a) (ap (fact false) is) refl
    (denied-fits room (image a) denial is small) (fact-fits true room (image a) small)
