-- The test for one term without bound names, part by part.
use Rattle.std.proofs.Common.{◌≡◌, ◌∙◌, ℕ, List, Bool, true, false, ◌&&◌, refl, sym, ap}
use Rattle.std.proofs.lemmas.Map.Text.{is_eq-slice_cmp}
use Rattle.std.specs.Cmp.{Equal-is}
use Rattle.std.specs.Ordering.{nat_cmp, ordering_then, is_eq}
use Rattle.std.specs.Cmp.Lexicographic.{slice_cmp}
use Rattle.std.specs.Str.{bytes_eq}
use Rattle.std.specs.declared.cmp.Ordering.{Ordering}
use Rattle.std.specs.declared.cmp.Ordering.TheVariants.{Less, Equal, Greater}
use Rattle.hol_model.specs.Terms.HolType.{HolType, type_cmp, type_eq}
use Rattle.hol_model.specs.Terms.NamedTerm.{NamedTerm, Binder, nodes, same_variable}
use Rattle.hol_model.specs.Terms.Nameless.{Nameless, free, const, app, lam, nameless_cmp, image_under, same_term}
use Rattle.hol_model.specs.Terms.Measures.{nameless_nodes}
use Rattle.hol_model.proofs.Terms.Measures.{nodes-image}
use Rattle.hol_model.proofs.Terms.HolTypeEq.{type_eq-Decides}
use Rattle.hol_model.proofs.Terms.Orders.{type_cmp-self, same_from_type_cmp}
use Rattle.hol_model.proofs.Tests.{same_answer, same_term-Decides}

is_eq-then : (o p : Ordering) → is_eq (ordering_then o p) ≡ (is_eq o && is_eq p)
is_eq-then Equal p = refl
is_eq-then Less p = refl
is_eq-then Greater p = refl

is_eq-type_cmp : (s t : HolType) → is_eq (type_cmp s t) ≡ type_eq s t
is_eq-type_cmp s t = same_answer (is_eq (type_cmp s t)) (type_eq s t)
    (λ passed. (type_eq-Decides s t).1 (same_from_type_cmp s t ((Equal-is (type_cmp s t)).0 passed)))
    (λ passed. (Equal-is (type_cmp s t)).1 (rw ((type_eq-Decides s t).0 passed) (type_cmp-self t)))

leaves : (a b : List ℕ) (s t : HolType) → is_eq (ordering_then (slice_cmp nat_cmp a b) (type_cmp s t)) ≡ same_variable a s b t
leaves a b s t =
    is_eq-then (slice_cmp nat_cmp a b) (type_cmp s t)
    ∙ ap (λ named. named && is_eq (type_cmp s t)) (is_eq-slice_cmp a b)
    ∙ ap (λ typed. bytes_eq a b && typed) (is_eq-type_cmp s t)

pub same_constants : (a b : List ℕ) (s t : HolType) → same_term (const a s) (const b t) ≡ (bytes_eq a b && type_eq s t)
same_constants a b s t = leaves a b s t

pub same_free : (a b : List ℕ) (s t : HolType) → same_term (free a s) (free b t) ≡ same_variable a s b t
same_free a b s t = leaves a b s t

pub same_combinations : (f g x y : Nameless) → same_term (app f x) (app g y) ≡ (same_term f g && same_term x y)
same_combinations f g x y = is_eq-then (nameless_cmp f g) (nameless_cmp x y)

pub same_abstractions : (s t : HolType) (p q : Nameless) → same_term (lam s p) (lam t q) ≡ (type_eq s t && same_term p q)
same_abstractions s t p q =
    is_eq-then (type_cmp s t) (nameless_cmp p q) ∙ ap (λ typed. typed && same_term p q) (is_eq-type_cmp s t)

different : (test : Bool) → (test ≡ true → ⊥) → false ≡ test
different true failed = absurd (failed refl)
different false failed = refl

-- terms of different numbers of nodes have different images
pub other_nodes : (lefts rights : List Binder) (a b : NamedTerm) → (nodes a ≡ nodes b → ⊥) → false ≡ same_term (image_under lefts a) (image_under rights b)
other_nodes lefts rights a b differ = different (same_term (image_under lefts a) (image_under rights b)) (λ passed.
    differ (sym (nodes-image lefts a)
    ∙ ap nameless_nodes ((same_term-Decides (image_under lefts a) (image_under rights b)).0 passed)
    ∙ nodes-image rights b))

pub ruleset same_parts = (same_constants, same_combinations, same_abstractions)
