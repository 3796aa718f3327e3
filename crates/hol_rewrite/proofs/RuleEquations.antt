-- The rules of a theorem are equations.
use Rattle.std.proofs.Common.{◌≡◌, ℕ, List, [], ◌∷◌, ◌++◌, Bool, true, false, if◌then◌else◌, refl, sym, ◌∙◌, ap, subst, Option, Some, None, Ok}
use Rattle.std.specs.Str.{bytes_eq}
use Rattle.std.proofs.lemmas.Slice.Eq.{bytes_eq-Decides}
use Rattle.hol_model.specs.Terms.HolType.{HolType}
use Rattle.hol_model.specs.Terms.NamedTerm.{NamedTerm, variable, constant, combination, abstraction, equality, equation, type_of}
use Rattle.hol_model.specs.Terms.Nameless.{Nameless, const, app, image}
use Rattle.hol_model.specs.Logic.Theory.{equality_name}
use Rattle.hol_model.specs.Logic.NamedLogic.{Abstracted, false_term, true_term, dest_conjunction, dest_forall, dest_negation}
use Rattle.hol_model.specs.Kernel.Rules.{dest_equation}
use Rattle.hol_model.specs.Kernel.Theorem.{Theorem}
use Rattle.hol_model.specs.Rewrites.RewriteRules.{RuleForm, both, every, equal, denied, stated, both_or, every_or, equal_or, denied_or_stated}
use Rattle.hol_model.specs.Rewrites.RewriteRules.{rule_form, RulesOf, RulesOfForm, rules_of_form, of_both, of_every, of_equal, of_denied, of_stated}
use Rattle.hol_model.specs.Rewrites.Rewriting.{IsRule, AreRules, AnswersRules}
use Rattle.hol_rewrite.specs.RuleSides.{IsEquation, AreEquations}
use Rattle.hol_rewrite.proofs.Equations.{equation-there}

-- `=` applied to two terms
record IsEqualityImage (term : Nameless) : Type 0 where
  ty : HolType
  left : Nameless
  right : Nameless
  is : term ≡ app (app (const equality_name ty) left) right

abbrev AreEqualityImages : List Nameless → Type 0
AreEqualityImages [] = Unit {0}
AreEqualityImages (term ∷ terms) = IsEqualityImage term × AreEqualityImages terms

are-append : (first second : List Nameless) → AreEqualityImages first → AreEqualityImages second → AreEqualityImages (first ++ second)
are-append [] second one two = two
are-append (term ∷ terms) second one two = (one.0, are-append terms second one.1 two)

-- the image of an equation
equation-image : (formula left right : NamedTerm) → dest_equation formula ≡ Some (left, right) → IsEqualityImage (image formula)
equation-image (combination (combination (constant name ty) a) b) left right dest = go (bytes_eq name equality_name) refl dest
  where
    go : (test : Bool) → bytes_eq name equality_name ≡ test → if◌then◌else◌ {A = Option (NamedTerm × NamedTerm)} test (Some (a, b)) None ≡ Some (left, right)
        → IsEqualityImage (app (app (const name ty) (image a)) (image b))
    go false tested dest = cc
    go true tested dest =
        let name_is : name ≡ equality_name = (bytes_eq-Decides name equality_name).0 tested in
        record { ty = ty; left = image a; right = image b; is = λ i. app (app (const (name_is i) ty) (image a)) (image b) }
equation-image (combination (combination (variable name ty) a) b) left right dest = cc
equation-image (combination (combination (combination f x) a) b) left right dest = cc
equation-image (combination (combination (abstraction name ty body) a) b) left right dest = cc
equation-image (combination (variable name ty) b) left right dest = cc
equation-image (combination (constant name ty) b) left right dest = cc
equation-image (combination (abstraction name ty body) b) left right dest = cc
equation-image (variable name ty) left right dest = cc
equation-image (constant name ty) left right dest = cc
equation-image (abstraction name ty body) left right dest = cc

stated-image : (left right : NamedTerm) → IsEqualityImage (image (equation left right))
stated-image left right = go (type_of left)
  where
    go : (ty : Option HolType) → IsEqualityImage (image (combination (combination (equality ty) left) right))
    go None = record { ty = _; left = image left; right = image right; is = refl }
    go (Some ty) = record { ty = _; left = image left; right = image right; is = refl }

-- the tests of the form, one after another
equal-tested : (found : Option (NamedTerm × NamedTerm)) (universal : Option Abstracted) (sides : Option (NamedTerm × NamedTerm)) (negated : Option NamedTerm) (formula p q : NamedTerm)
    → both_or found (every_or universal (equal_or sides (denied_or_stated formula negated))) ≡ equal p q → sides ≡ Some (p, q)
equal-tested (Some (a, b)) universal sides negated formula p q is = cc
equal-tested None (Some other) sides negated formula p q is = cc
equal-tested None None (Some (a, b)) negated formula p q is = cc
equal-tested None None None (Some r) formula p q is = cc
equal-tested None None None None formula p q is = cc

mutual
  images-of : (hypotheses : List NamedTerm) (conclusion : NamedTerm) (equations : List Nameless) → RulesOf hypotheses conclusion equations → AreEqualityImages equations
  images-of hypotheses conclusion equations (rules_of_form c rules of) = images-of-form hypotheses conclusion (rule_form conclusion) equations refl of

  images-of-form : (hypotheses : List NamedTerm) (whole : NamedTerm) (form : RuleForm) (equations : List Nameless) → rule_form whole ≡ form
      → RulesOfForm hypotheses whole form equations → AreEqualityImages equations
  images-of-form hypotheses whole form equations is (of_both w p q first second one two) = are-append first second (images-of hypotheses p first one) (images-of hypotheses q second two)
  images-of-form hypotheses whole form equations is (of_every w bound fresh instance rules first put keeps_names of) = images-of hypotheses instance equations of
  images-of-form hypotheses whole form equations is (of_equal w a b) =
      (equation-image whole a b (equal-tested (dest_conjunction whole) (dest_forall whole) (dest_equation whole) (dest_negation whole) whole a b is), tt)
  images-of-form hypotheses whole form equations is (of_denied w p) = (stated-image p false_term, tt)
  images-of-form hypotheses whole form equations is (of_stated w p) = (stated-image p true_term, tt)

are-equations : (hypotheses : List NamedTerm) (equations : List Nameless) (rules : List Theorem) → AreEqualityImages equations → AreRules hypotheses equations rules → AreEquations rules
are-equations hypotheses [] [] images are = tt
are-equations hypotheses [] (rule ∷ rules) images are = absurd are
are-equations hypotheses (equation ∷ equations) [] images are = absurd are
are-equations hypotheses (equation ∷ equations) (rule ∷ rules) images are =
    let found = equation-there rule.conclusion images.0.ty images.0.left images.0.right (are.0.conclusion ∙ images.0.is) in
    (record { sides = found.0; is = found.1 }, are-equations hypotheses equations rules images.1 are.1)

pub rules-are-equations : (theorem : Theorem) (rules : List Theorem) → AnswersRules theorem (Ok rules) → AreEquations rules
rules-are-equations theorem rules answers = are-equations theorem.hypotheses answers.0 rules (images-of theorem.hypotheses theorem.conclusion answers.0 answers.1) answers.2

pub equations-append : (first second : List Theorem) → AreEquations first → AreEquations second → AreEquations (first ++ second)
equations-append [] second one two = two
equations-append (rule ∷ rules) second one two = (one.0, equations-append rules second one.1 two)
