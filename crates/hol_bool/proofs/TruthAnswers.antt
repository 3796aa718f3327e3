-- EQT_INTRO and EQT_ELIM: what is made of a conclusion, and its parts.
use Rattle.std.proofs.Common.{◌≡◌, Bool, true, refl, arith}
use Rattle.hol_model.specs.Terms.HolType.{bool_type}
use Rattle.hol_model.specs.Logic.NamedLogic.{true_term}
use Rattle.hol_model.specs.Terms.Nameless.{Nameless, image}
use Rattle.hol_model.specs.Logic.Derivable.{nameless_equation}
use Rattle.hol_equal.specs.Room.{IsSized, FitsIf}
use Rattle.hol_equal.proofs.Sizes.{sized-equation}
use Rattle.hol_bool.proofs.RuleAnswers.{sized-fits}

sized-truth : IsSized 1000 1 (image true_term)
sized-truth = record { height = omega arith; nodes = omega arith; types = refl }

pub truth-fits : (room : Bool) (p : Nameless) → (room ≡ true → IsSized 1000 5000 p) → FitsIf room (nameless_equation bool_type p (image true_term))
truth-fits room p sized =
    sized-fits 1002 5004 room (nameless_equation bool_type p (image true_term)) (omega arith) (omega arith)
    (λ is. sized-equation 1000 5000 1 bool_type p (image true_term) (omega arith) (omega arith) (sized is) sized-truth)
