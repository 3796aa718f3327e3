-- Hypotheses as sets, and equations: what the kernel makes, and what a log's line says, are the same images.
use Rattle.std.proofs.Common.{◌≡◌, List, [], ◌∷◌, ◌++◌, map, refl, sym, ◌∙◌, ap, inl, Some, arith}
use Rattle.std.specs.declared.cmp.Ordering.{Ordering}
use Rattle.std.specs.declared.cmp.Ordering.TheVariants.{Less, Equal, Greater}
use Rattle.hol_model.specs.Terms.HolType.{HolType}
use Rattle.hol_model.specs.Terms.NamedTerm.{NamedTerm, type_of, equation}
use Rattle.hol_model.specs.Terms.Nameless.{Nameless, image, nameless_cmp}
use Rattle.hol_model.specs.Logic.Derivable.{nameless_equation}
use Rattle.hol_model.specs.Kernel.Theorem.{AreOrdered, by_order, with_hypothesis, with_hypotheses}
use Rattle.hol_model.specs.Logs.LogState.{with_term, with_terms, set_of, term_type}
use Rattle.hol_model.specs.Logs.LogSequents.{equation_of}
use Rattle.hol_model.proofs.Terms.Typing.{nameless_type-is}
use Rattle.hol_model.proofs.Terms.Images.{image-typed, image-equation}
use Rattle.hol_kernel.proofs.OrderLemmas.{merged-last}

image-with_hypothesis : (xs : List NamedTerm) (new : NamedTerm) → map image (with_hypothesis xs new) ≡ with_term (map image xs) (image new)
image-with_hypothesis [] new = refl
image-with_hypothesis (x ∷ xs) new = go (nameless_cmp (image new) (image x)) (image-with_hypothesis xs new)
  where
    go : (order : Ordering) → map image (with_hypothesis xs new) ≡ with_term (map image xs) (image new)
        → map image (by_order order (new ∷ x ∷ xs) (x ∷ xs) (x ∷ with_hypothesis xs new))
        ≡ by_order order (image new ∷ image x ∷ map image xs) (image x ∷ map image xs) (image x ∷ with_term (map image xs) (image new))
    go Less h = refl
    go Equal h = refl
    go Greater h = ap (λ l. image x ∷ l) h

image-with_hypotheses : (xs ys : List NamedTerm) → map image (with_hypotheses xs ys) ≡ with_terms (map image xs) (map image ys)
image-with_hypotheses xs [] = refl
image-with_hypotheses xs (y ∷ ys) = image-with_hypotheses (with_hypothesis xs y) ys ∙ ap (λ l. with_terms l (map image ys)) (image-with_hypothesis xs y)

with_terms-append : (xs ys zs : List Nameless) → with_terms xs (ys ++ zs) ≡ with_terms (with_terms xs ys) zs
with_terms-append xs [] zs = refl
with_terms-append xs (y ∷ ys) zs = with_terms-append (with_term xs y) ys zs

-- ordered hypotheses, put in order again
ordered-again : (xs : List NamedTerm) → AreOrdered xs → with_hypotheses [] xs ≡ xs
ordered-again xs ordered = sym (merged-last [] xs 0 0 [] ordered (record { left_within = omega arith; right_within = omega arith; rest = refl }) (inl (omega arith)))

-- any hypotheses, put in order
pub set_of-images : (xs : List NamedTerm) → set_of (map image xs) ≡ map image (with_hypotheses [] xs)
set_of-images xs = sym (image-with_hypotheses [] xs)

pub set_of-ordered : (xs : List NamedTerm) → AreOrdered xs → set_of (map image xs) ≡ map image xs
set_of-ordered xs ordered = set_of-images xs ∙ ap (map image) (ordered-again xs ordered)

pub set_of-merged : (xs ys : List NamedTerm) → AreOrdered xs → set_of (map image xs ++ map image ys) ≡ map image (with_hypotheses xs ys)
set_of-merged xs ys ordered =
    with_terms-append [] (map image xs) (map image ys)
    ∙ ap (λ l. with_terms l (map image ys)) (set_of-ordered xs ordered)
    ∙ sym (image-with_hypotheses xs ys)

pub term_type-image : (term : NamedTerm) (ty : HolType) → type_of term ≡ Some ty → term_type (image term) ≡ ty
term_type-image term ty typed = nameless_type-is (image term) [] ty (image-typed term ty typed)

pub equation_of-images : (a b : NamedTerm) (ty : HolType) → type_of a ≡ Some ty → equation_of (image a) (image b) ≡ image (equation a b)
equation_of-images a b ty typed = ap (λ t. nameless_equation t (image a) (image b)) (term_type-image a ty typed) ∙ sym (image-equation a b ty typed)
