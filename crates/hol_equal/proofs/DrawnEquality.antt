-- The rules of equality and conjunction draw what their outcomes state.
use Rattle.std.proofs.Common.{◌≡◌, ℕ, List, [], ◌∷◌, ◌++◌, map, Bool, true, false, ◌&&◌, ◌||◌, not, if◌then◌else◌, refl, sym, ◌∙◌, ap, subst, Option, Some, None}
use Rattle.std.specs.Str.{bytes_eq}
use Rattle.std.proofs.lemmas.Slice.Eq.{bytes_eq-Decides}
use Rattle.hol_model.specs.declared.fault.Fault.TheVariants.{NotEquation, NotBool}
use Rattle.hol_model.specs.Terms.HolType.{HolType, bool_type, type_eq, domain_of}
use Rattle.hol_model.specs.Terms.NamedTerm.{NamedTerm, variable, constant, combination, abstraction, type_of, equation, same_variable}
use Rattle.hol_model.specs.Terms.Nameless.{Nameless, const, app, lam, image, image_under, same_term, nameless_type}
use Rattle.hol_model.specs.Terms.Substitution.{close, fill}
use Rattle.hol_model.specs.Logic.Theory.{Theory, IsLegal, equality_name, equality_type}
use Rattle.hol_model.specs.Kernel.Theorem.{Theorem}
use Rattle.hol_model.specs.Logic.Derivable.{without, nameless_equation}
use Rattle.hol_model.specs.Kernel.Outcome.{given as stated_given, refused}
use Rattle.hol_model.specs.Kernel.Rules.{dest_equation, first_unknown}
use Rattle.hol_model.specs.Derived.DerivedRules.{Conclusion, images, is_among, stated, stated_with_left, beta_conv_outcome, sym_outcome}
use Rattle.hol_model.specs.Derived.DerivedRules.{add_assum_outcome, prove_hyp_outcome, eqt_intro_outcome, conj_outcome}
use Rattle.hol_model.specs.declared.rule.Rule.TheVariants as rules
use Rattle.hol_model.specs.Logic.NamedLogic as named
use Rattle.hol_model.specs.Logic.NamelessLogic as nameless
use Rattle.hol_model.specs.Derived.Inference.{unchanged, require, is_known_term, given, conclude, all, drawn}
use Rattle.hol_model.proofs.Terms.Images.{image-equation, image-abstraction}
use Rattle.hol_model.proofs.Tests.{same_term-Decides, same_variable-self}
use Rattle.hol_kernel.proofs.RuleLemmas.{IsEquation, sides}
use Rattle.hol_equal.proofs.DrawnTerms.{IsStated, StatesDrawn, IsPremise, Draws, walked, walked_known, one_premise, two_premises, same_set}

-- a rule whose hypotheses are those of one premise
pub drawn-of_one : (theorem : Theorem) (conclusion : NamedTerm) (found : Nameless) → image conclusion ≡ found
    → StatesDrawn (stated (images theorem) conclusion) (given (conclude (all ∷ []) found) (λ inference. drawn inference (images theorem ∷ [])))
drawn-of_one theorem conclusion found same = record { hypotheses = same_set (sym (one_premise (images theorem))); conclusion = same }

-- a rule whose hypotheses are those of two premises
pub drawn-of_two : (first second : Theorem) (conclusion : NamedTerm) (found : Nameless) → image conclusion ≡ found
    → StatesDrawn (stated (images first ++ images second) conclusion) (given (conclude (all ∷ all ∷ []) found) (λ inference. drawn inference (images first ∷ images second ∷ [])))
drawn-of_two first second conclusion found same = record { hypotheses = same_set (sym (two_premises (images first) (images second))); conclusion = same }

-- a constant of another name is another constant
pub other-name : (name other : List ℕ) (s ty : HolType) → bytes_eq other name ≡ false → same_variable name s other ty ≡ false
other-name name other s ty differ = go (bytes_eq name other) refl
  where
    go : (test : Bool) → bytes_eq name other ≡ test → (test && type_eq s ty) ≡ false
    go false is = refl
    go true is =
        let same : other ≡ name = sym ((bytes_eq-Decides name other).0 is) in
        let equal : bytes_eq other name ≡ true = (bytes_eq-Decides other name).1 same in
        cc

-- the image of no equation is none
pub no-equation : (term : NamedTerm) → dest_equation term ≡ None → nameless.dest_equation (image term) ≡ None
no-equation (combination (combination (constant name ty) left) right) none = go (bytes_eq name equality_name) refl none
  where
    go : (test : Bool) → bytes_eq name equality_name ≡ test → if◌then◌else◌ {A = Option (NamedTerm × NamedTerm)} test (Some (left, right)) None ≡ None
        → nameless.dest_equation (app (app (const name ty) (image left)) (image right)) ≡ None
    go true is none = cc
    go false is none = rw (other-name equality_name name (equality_type (domain_of ty)) ty is) refl
no-equation (combination (combination (variable name ty) left) right) none = refl
no-equation (combination (combination (combination f x) left) right) none = refl
no-equation (combination (combination (abstraction name ty body) left) right) none = refl
no-equation (combination (variable name ty) right) none = refl
no-equation (combination (constant name ty) right) none = refl
no-equation (combination (abstraction name ty body) right) none = refl
no-equation (variable name ty) none = refl
no-equation (constant name ty) none = refl
no-equation (abstraction name ty body) none = refl

abbrev equation_of : HolType → Nameless → Nameless → nameless.Equation
equation_of ty left right = record { ty = ty; left = left; right = right }

-- the image of an equation is one
pub equation-drawn : (term left right : NamedTerm) (e : IsEquation term left right) → nameless.dest_equation (image term) ≡ Some (equation_of e.ty (image left) (image right))
equation-drawn term left right e = ap nameless.dest_equation e.image_is ∙ rw (same_variable-self equality_name (equality_type e.ty)) refl

pub drawn-sym : (theory : Theory) → IsLegal theory → (a : Theorem) → IsPremise theory a → Draws theory rules.Sym (a ∷ []) (sym_outcome a)
drawn-sym theory legal a premise = go (dest_equation a.conclusion) refl
  where
    go : (found : Option (NamedTerm × NamedTerm)) → dest_equation a.conclusion ≡ found
        → StatesDrawn (stated_given found NotEquation (λ sides. stated (images a) (equation sides.1 sides.0)))
        (given (given (nameless.dest_equation (image a.conclusion)) (λ e. conclude (all ∷ []) (nameless_equation e.ty e.right e.left)))
        (λ inference. drawn inference (images a ∷ [])))
    go None is = rw (no-equation a.conclusion is) tt
    go (Some (left, right)) is =
        let e = sides theory legal a.conclusion left right premise.known is in
        rw (equation-drawn a.conclusion left right e)
        (drawn-of_one a (equation right left) (nameless_equation e.ty (image right) (image left)) (image-equation right left e.ty e.right_typed))

pub drawn-add_assum : (theory : Theory) (p : NamedTerm) (ty : HolType) (a : Theorem) → type_of p ≡ Some ty → Draws theory (rules.AddAssum p) (a ∷ []) (add_assum_outcome theory p a)
drawn-add_assum theory p ty a typed =
    walked theory p ty bool_type typed NotBool (stated (image p ∷ images a) a.conclusion)
    (record { passing = all ∷ []; supposed = image p ∷ []; conclusion = image a.conclusion }) (λ inference. drawn inference (images a ∷ []))
    (record { hypotheses = same_set (ap (λ (h : List Nameless). image p ∷ h) (sym (one_premise (images a)))); conclusion = refl })

pub drawn-eqt_intro : (theory : Theory) (a : Theorem) → IsPremise theory a → Draws theory rules.EqtIntro (a ∷ []) (eqt_intro_outcome a)
drawn-eqt_intro theory a premise =
    drawn-of_one a (equation a.conclusion named.true_term) (nameless_equation bool_type (image a.conclusion) (image named.true_term))
    (image-equation a.conclusion named.true_term bool_type premise.typed)

pub drawn-conj : (theory : Theory) (a b : Theorem) → Draws theory rules.Conj (a ∷ b ∷ []) (conj_outcome a b)
drawn-conj theory a b = drawn-of_two a b (named.conjunction a.conclusion b.conclusion) (image (named.conjunction a.conclusion b.conclusion)) refl

-- a term that is not among some is not taken out of them
pub without-absent : (p : Nameless) (h : List Nameless) → is_among p h ≡ false → without p h ≡ h
without-absent p [] absent = refl
without-absent p (first ∷ rest) absent = go (same_term first p) refl (same_term p first) refl absent (without-absent p rest)
  where
    go : (test : Bool) → same_term first p ≡ test → (other : Bool) → same_term p first ≡ other → (other || is_among p rest) ≡ false → (is_among p rest ≡ false → without p rest ≡ rest)
        → (if not test then first ∷ without p rest else without p rest) ≡ (first ∷ rest)
    go false is false back absent deeper = ap (λ (l : List Nameless). first ∷ l) (deeper absent)
    go false is true back absent deeper = cc
    go true is other back absent deeper =
        let same : p ≡ first = sym ((same_term-Decides first p).0 is) in
        let equal : same_term p first ≡ true = (same_term-Decides p first).1 same in
        cc

pub drawn-prove_hyp : (theory : Theory) (a b : Theorem) → Draws theory rules.ProveHyp (a ∷ b ∷ []) (prove_hyp_outcome a b)
drawn-prove_hyp theory a b = go (is_among (image a.conclusion) (images b)) refl
  where
    go : (test : Bool) → is_among (image a.conclusion) (images b) ≡ test
        → IsStated (record { hypotheses = if test then images a ++ without (image a.conclusion) (images b) else images b; conclusion = Conclusion.named b.conclusion })
        (record { hypotheses = (if test then map unchanged (images a) else []) ++ (map unchanged (without (image a.conclusion) (images b)) ++ []); conclusion = image b.conclusion })
    go true is = record { hypotheses = same_set (sym (two_premises (images a) (without (image a.conclusion) (images b)))); conclusion = refl }
    go false is = record { hypotheses = same_set (sym (without-absent (image a.conclusion) (images b) is) ∙ sym (one_premise (without (image a.conclusion) (images b)))); conclusion = refl }

-- the body of an abstraction as an image
pub body-image : (name : List ℕ) (ty : HolType) (body : NamedTerm) → image_under ((name, ty) ∷ []) body ≡ close name ty (image body)
body-image name ty body =
    let whole : lam ty (image_under ((name, ty) ∷ []) body) ≡ lam ty (close name ty (image body)) = image-abstraction name ty body in
    cc

pub drawn-beta_conv : (theory : Theory) (t : NamedTerm) (ty : HolType) → type_of t ≡ Some ty → Draws theory (rules.BetaConv t) [] (beta_conv_outcome theory t)
drawn-beta_conv theory (combination (abstraction name s body) argument) ty typed =
    let redex : NamedTerm = combination (abstraction name s body) argument in
    let filled : Nameless = nameless_equation (nameless_type [] (image redex)) (image redex) (fill (image argument) (close name s (image body))) in
    subst (λ (b : Nameless). StatesDrawn (refused (first_unknown theory redex) (stated_with_left [] redex filled))
    (given (require (is_known_term theory (image redex)) (conclude [] (nameless_equation (nameless_type [] (image redex)) (image redex) (fill (image argument) b)))) (λ inference. drawn inference [])))
    (sym (body-image name s body))
    (walked_known theory redex ty typed (stated_with_left [] redex filled) (record { passing = []; supposed = []; conclusion = filled }) (λ inference. drawn inference [])
    (record { hypotheses = same_set refl; conclusion = refl }))
drawn-beta_conv theory (combination (variable name s) argument) ty typed = tt
drawn-beta_conv theory (combination (constant name s) argument) ty typed = tt
drawn-beta_conv theory (combination (combination f x) argument) ty typed = tt
drawn-beta_conv theory (variable name s) ty typed = tt
drawn-beta_conv theory (constant name s) ty typed = tt
drawn-beta_conv theory (abstraction name s body) ty typed = tt
