-- Type variables of a whole, from those of its parts.
use Rattle.std.proofs.Common.{◌≡◌, Bool, true, sym, ◌∙◌, ap}
use Rattle.hol_model.specs.Terms.HolType.{HolType}
use Rattle.hol_model.specs.Terms.Nameless.{Nameless, app, lam}
use Rattle.hol_model.specs.Logic.Legality.{reflects_type}
use Rattle.hol_model.specs.Logic.Checks.{reflects_nameless}
use Rattle.hol_model.proofs.Tests.{both}

pub reflected-application : (whole : HolType) (t f a : Nameless) (first second : Bool) → t ≡ app f a → first ≡ true → first ≡ reflects_nameless whole f → second ≡ reflects_nameless whole a →
    second ≡ true → reflects_nameless whole t ≡ true
reflected-application whole t f a first second is passed left right answer =
    ap (reflects_nameless whole) is ∙ both (reflects_nameless whole f) (reflects_nameless whole a) (sym left ∙ passed) (sym right ∙ answer)

pub reflected-abstraction : (whole : HolType) (t : Nameless) (ty : HolType) (body : Nameless) (first second : Bool) → t ≡ lam ty body → first ≡ true → first ≡ reflects_type whole ty →
    second ≡ reflects_nameless whole body → second ≡ true → reflects_nameless whole t ≡ true
reflected-abstraction whole t ty body first second is passed left right answer =
    ap (reflects_nameless whole) is ∙ both (reflects_type whole ty) (reflects_nameless whole body) (sym left ∙ passed) (sym right ∙ answer)
