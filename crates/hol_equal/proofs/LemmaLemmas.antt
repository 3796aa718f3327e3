-- Instances of lemmas, and what is past the limits on the way.
use Rattle.std.proofs.Common.{◌≡◌, List, [], ◌∷◌, ◌++◌, map, Bool, true, false, ◌&&◌, ◌==◌, ℕ, suc, arith, length, refl, sym, ◌∙◌, ap, subst, inl, inr, Result, append-nil}
use Rattle.std.specs.List.{list_all}
use Rattle.std.proofs.lemmas.Bool.{eqb-true}
use Rattle.hol_model.specs.declared.fault.Fault.{Fault}
use Rattle.hol_model.specs.Terms.NamedTerm.{NamedTerm}
use Rattle.hol_model.specs.Terms.Nameless.{Nameless, image}
use Rattle.hol_model.specs.Logic.Derivable.{IsMember, without}
use Rattle.hol_model.specs.Kernel.Theorem.{Theorem, without_hypothesis}
use Rattle.hol_model.proofs.Tests.{first_of_both, second_of_both, same_term-Decides}
use Rattle.hol_kernel.specs.Fits.{DeductFits}
use Rattle.hol_journal.specs.Journal.{Recorded}
use Rattle.hol_equal.specs.Sequents.{Shows, DerivesIf, DerivesInstance, instance_of}
use Rattle.hol_equal.proofs.CutLemmas.{derives-where}
use Rattle.hol_model.specs.Terms.HolType.{HolType, type_variable, bool_type, function_type, declared_type, type_put}
use Rattle.hol_model.specs.Terms.Nameless.{free, const, bound, app, lam}
use Rattle.hol_model.specs.Terms.Measures.{nameless_within_limits}
use Rattle.hol_model.specs.Terms.Substitution.{put_all}
use Rattle.hol_model.specs.Kernel.Instantiation.{instantiate_all}

map-twice : (f g : Nameless → Nameless) (h : List Nameless) → map g (map f h) ≡ map (λ t. g (f t)) h
map-twice f g [] = refl
map-twice f g (t ∷ h) = ap (λ l. g (f t) ∷ l) (map-twice f g h)

pub derives-map : (fits : Bool) (result : Result Recorded Fault) (f g : Nameless → Nameless) (h : List Nameless) (c : Nameless)
    → DerivesIf fits result (map g (map f h)) c → DerivesIf fits result (map (λ t. g (f t)) h) c
derives-map fits result f g h c derives = subst (λ (l : List Nameless). DerivesIf fits result l c) (map-twice f g h) derives

-- all of the first list, and all of the second
pub front_passes : (test : Nameless → Bool) (xs ys : List Nameless) → list_all test (xs ++ ys) ≡ true → list_all test xs ≡ true
front_passes test [] ys all = refl
front_passes test (x ∷ xs) ys all =
    both_of (test x) (list_all test xs) (first_of_both (test x) (list_all test (xs ++ ys)) all) (front_passes test xs ys (second_of_both (test x) (list_all test (xs ++ ys)) all))
  where
    both_of : (p q : Bool) → p ≡ true → q ≡ true → (p && q) ≡ true
    both_of true true one two = refl
    both_of true false one two = cc
    both_of false q one two = cc

pub back_passes : (test : Nameless → Bool) (xs ys : List Nameless) → list_all test (xs ++ ys) ≡ true → list_all test ys ≡ true
back_passes test [] ys all = all
back_passes test (x ∷ xs) ys all = back_passes test xs ys (second_of_both (test x) (list_all test (xs ++ ys)) all)

-- the second list, as it stands after two changes
pub later_passes : (test : Nameless → Bool) (f g : Nameless → Nameless) (xs h : List Nameless) → list_all test (xs ++ map (λ t. g (f t)) h) ≡ true → list_all test (map g (map f h)) ≡ true
later_passes test f g xs h all = ap (list_all test) (map-twice f g h) ∙ back_passes test xs (map (λ t. g (f t)) h) all

-- a term without itself
pub without-itself : (h : List Nameless) (p : Nameless) → h ++ without p (p ∷ []) ≡ h
without-itself h p = ap (λ l. h ++ l) none ∙ append-nil h
  where
    none : without p (p ∷ []) ≡ []
    none = rw ((same_term-Decides p p).1 refl) refl

-- nor does a hypothesis stay where each is the first theorem's conclusion
pub premise-fits : (first second : Theorem) (p q : Nameless) → image first.conclusion ≡ p → Shows second (p ∷ []) q → DeductFits first second
premise-fits first second p q is shown = record {
  none_stays = none second.hypotheses (λ t m. elim (shown.same_set.back t m) [ inl e ↦ e ∙ sym is | inr k ↦ absurd k ]);
}
  where
    none : (hypotheses : List NamedTerm) → ((t : Nameless) → IsMember t (map image hypotheses) → t ≡ image first.conclusion) → without_hypothesis first.conclusion hypotheses ≡ []
    none [] each = refl
    none (h ∷ hypotheses) each = rw ((same_term-Decides (image h) (image first.conclusion)).1 (each (image h) (inl refl))) (none hypotheses (λ t m. each t (inr m)))

pub derives-same : (fits : Bool) (result : Result Recorded Fault) (h k : List Nameless) (c : Nameless) → h ≡ k → DerivesIf fits result h c → DerivesIf fits result k c
derives-same fits result h k c same derives = subst (λ (l : List Nameless). DerivesIf fits result l c) same derives

-- the fifth of five tests, and the first four
pub fifth : (a b c d e : Bool) → (a && (b && (c && (d && (e && true))))) ≡ true → e ≡ true
fifth true true true true true all = refl
fifth true true true true false all = cc
fifth true true true false e all = cc
fifth true true false d e all = cc
fifth true false c d e all = cc
fifth false b c d e all = cc

pub first_four : (a b c d e : Bool) → (a && (b && (c && (d && (e && true))))) ≡ true → (a && (b && (c && (d && true)))) ≡ true
first_four true true true true e all = refl
first_four true true true false e all = cc
first_four true true false d e all = cc
first_four true false c d e all = cc
first_four false b c d e all = cc

-- where no types are replaced, a term stays

type-stays : (ty : HolType) → type_put [] ty ≡ ty
type-stays (type_variable name) = refl
type-stays bool_type = refl
type-stays (function_type domain codomain) = λ i. function_type (type-stays domain i) (type-stays codomain i)
type-stays (declared_type name) = refl

term-stays : (term : Nameless) → instantiate_all [] term ≡ term
term-stays (free name ty) = ap (free name) (type-stays ty)
term-stays (const name ty) = ap (const name) (type-stays ty)
term-stays (bound index) = refl
term-stays (app function argument) = λ i. app (term-stays function i) (term-stays argument i)
term-stays (lam ty body) = λ i. lam (type-stays ty i) (term-stays body i)

-- a list of length 0 is empty
pub none-listed : {X : Type 0} (xs : List X) → (length xs == 0) ≡ true → xs ≡ []
none-listed [] none = refl
none-listed (x ∷ xs) none = absurd (not_none (length xs) (eqb-true (length (x ∷ xs)) 0 none))
  where
    not_none : (n : ℕ) → suc n ≡ 0 → ⊥
    not_none n is = omega arith

-- so the instance by terms alone is the whole instance
pub untyped-derives : (types : List (HolType × HolType)) (terms : List (NamedTerm × NamedTerm)) (result : Result Recorded Fault) (h : List Nameless) (c : Nameless) → types ≡ []
    → DerivesInstance result (map (put_all terms) h) (put_all terms c)
    → DerivesIf (list_all nameless_within_limits (map (instantiate_all types) (c ∷ h) ++ map (instance_of types terms) (c ∷ h))) result (map (instance_of types terms) h) (instance_of types terms c)
untyped-derives types terms result h c none derives =
    let put = put_all terms in
    let same : (λ (t : Nameless). t) ≡ instantiate_all types = (λ i t. sym (term-stays t) i) ∙ ap instantiate_all (sym none) in
    subst (λ (f : Nameless → Nameless). DerivesIf (list_all nameless_within_limits (map f (c ∷ h) ++ map (λ t. put (f t)) (c ∷ h))) result (map (λ t. put (f t)) h) (put (f c))) same
    (derives-where (list_all nameless_within_limits (map put (c ∷ h))) (list_all nameless_within_limits (map (λ t. t) (c ∷ h) ++ map put (c ∷ h))) result (map put h) (put c)
    (back_passes nameless_within_limits (map (λ t. t) (c ∷ h)) (map put (c ∷ h))) derives)
