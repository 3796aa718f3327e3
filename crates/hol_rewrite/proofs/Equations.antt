-- Equations and their images.
use Rattle.std.proofs.Common.{◌≡◌, true, refl, Some}
use Rattle.std.specs.Str.{bytes_eq}
use Rattle.std.proofs.lemmas.Slice.Eq.{bytes_eq-Decides}
use Rattle.hol_model.specs.Terms.HolType.{HolType}
use Rattle.hol_model.specs.Terms.NamedTerm.{NamedTerm, variable, constant, combination, abstraction}
use Rattle.hol_model.specs.Terms.Nameless.{Nameless, const, app, image}
use Rattle.hol_model.specs.Logic.Theory.{equality_name}
use Rattle.hol_model.specs.Kernel.Rules.{dest_equation}

-- a term of such an image is an equation
pub equation-there : (conclusion : NamedTerm) (ty : HolType) (a b : Nameless) → image conclusion ≡ app (app (const equality_name ty) a) b
    → (sides : NamedTerm × NamedTerm) × (dest_equation conclusion ≡ Some sides)
equation-there (combination (combination (constant name s) left) right) ty a b is =
    let named : name ≡ equality_name = cc in
    ((left, right), rw ((bytes_eq-Decides name equality_name).1 named) refl)
equation-there (combination (combination (variable name s) left) right) ty a b is = cc
equation-there (combination (combination (combination f x) left) right) ty a b is = cc
equation-there (combination (combination (abstraction name s body) left) right) ty a b is = cc
equation-there (combination (constant name s) right) ty a b is = cc
equation-there (combination (variable name s) right) ty a b is = cc
equation-there (combination (abstraction name s body) right) ty a b is = cc
equation-there (constant name s) ty a b is = cc
equation-there (variable name s) ty a b is = cc
equation-there (abstraction name s body) ty a b is = cc
