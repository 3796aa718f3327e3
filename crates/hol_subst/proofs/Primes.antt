-- Why a name with enough primes is not taken.
use Rattle.std.proofs.Common.{◌≡◌, ℕ, suc, ◌+◌, ◌<◌, ◌≤◌, max, List, [], ◌∷◌, ◌++◌, Bool, true, false, ◌&&◌, ◌||◌, length, ◌-◌, refl, ◌∙◌, ap, arith, below_more, length-append, Some, Ok, Err, IfOk}
use Rattle.std.specs.Prelude.{Result}
use Rattle.hol_model.specs.Terms.HolType.{HolType}
use Rattle.hol_model.specs.Terms.Name.{is_identifier, is_capital, is_small, continues_name, all_continue}
use Rattle.hol_model.specs.Terms.NamedTerm.{NamedTerm, variable, constant, combination, abstraction, dest_variable, is_free}
use Rattle.hol_model.specs.Terms.Nameless.{Nameless, free, const, bound, app, lam, image}
use Rattle.hol_model.specs.Terms.Substitution.{is_free_in_some, occurs_free, primed, IsFirstFree, IsVariantOf}
use Rattle.hol_model.proofs.Tests.{same_name}
use Rattle.hol_model.proofs.Terms.Images.{occurs_free-image}

-- the length of the longest name of a free variable in a term
abbrev pub longest_free : Nameless → ℕ
longest_free (free name ty) = length name
longest_free (const name ty) = 0
longest_free (bound index) = 0
longest_free (app function argument) = max (longest_free function) (longest_free argument)
longest_free (lam ty body) = longest_free body

abbrev pub longest_of : List NamedTerm → ℕ
longest_of [] = 0
longest_of (term ∷ rest) = max (longest_free (image term)) (longest_of rest)

either_bound : (p q : Bool) (n a b : ℕ) → (p ≡ true → n ≤ a) → (q ≡ true → n ≤ b) → (p || q) ≡ true → n ≤ max a b
either_bound true q n a b left right some = let below : n ≤ a = left refl in omega arith
either_bound false q n a b left right some = let below : n ≤ b = right some in omega arith

-- a variable that is free in a term has no longer name than the longest there
pub free_is_bounded : (term : Nameless) (name : List ℕ) (ty : HolType) → occurs_free name ty term ≡ true → length name ≤ longest_free term
free_is_bounded (free other s) name ty occurs = let same : name ≡ other = same_name name other ty s occurs in rw same (omega arith)
free_is_bounded (const other s) name ty occurs = cc
free_is_bounded (bound index) name ty occurs = cc
free_is_bounded (app f a) name ty occurs =
    either_bound (occurs_free name ty f) (occurs_free name ty a) (length name) (longest_free f) (longest_free a) (free_is_bounded f name ty) (free_is_bounded a name ty) occurs
free_is_bounded (lam s body) name ty occurs = free_is_bounded body name ty occurs

pub free_in_some_is_bounded : (terms : List NamedTerm) (name : List ℕ) (ty : HolType) → is_free_in_some terms name ty ≡ true → length name ≤ longest_of terms
free_in_some_is_bounded [] name ty occurs = cc
free_in_some_is_bounded (term ∷ rest) name ty occurs =
    either_bound (is_free name ty term) (is_free_in_some rest name ty) (length name) (longest_free (image term)) (longest_of rest)
    (λ here. free_is_bounded (image term) name ty (occurs_free-image name ty term ∙ here)) (free_in_some_is_bounded rest name ty) occurs

all_continue-prime : (bytes : List ℕ) → all_continue bytes ≡ true → all_continue (bytes ++ 39 ∷ []) ≡ true
all_continue-prime [] all = refl
all_continue-prime (byte ∷ rest) all = both (continues_name byte) (all_continue rest) (all_continue (rest ++ 39 ∷ [])) (all_continue-prime rest) all
  where
    both : (p q r : Bool) → (q ≡ true → r ≡ true) → (p && q) ≡ true → (p && r) ≡ true
    both true q r step all = step all
    both false q r step all = all

-- an identifier stays one with a prime at its end
pub is_identifier-prime : (name : List ℕ) → is_identifier name ≡ true → is_identifier (name ++ 39 ∷ []) ≡ true
is_identifier-prime [] named = cc
is_identifier-prime (first ∷ rest) named =
    both (is_capital first || is_small first) (all_continue rest) (all_continue (rest ++ 39 ∷ [])) (all_continue-prime rest) named
  where
    both : (p q r : Bool) → (q ≡ true → r ≡ true) → (p && q) ≡ true → (p && r) ≡ true
    both true q r step named = step named
    both false q r step named = named

-- what is known of a name to which primes are put: each name before it was taken
pub record HasPrimes (taken : List ℕ → Bool) (name fresh : List ℕ) : Type 0 where
  pub primes : ℕ
  pub is_primed : fresh ≡ primed primes name
  pub all_taken : (fewer : ℕ) → fewer < primes → taken (primed fewer name) ≡ true
  pub is_named : is_identifier fresh ≡ true

-- a taken name gets one more
pub one_more_prime : (taken : List ℕ → Bool) (name fresh next : List ℕ) → HasPrimes taken name fresh
    → taken fresh ≡ true → next ≡ fresh ++ 39 ∷ [] → HasPrimes taken name next
one_more_prime taken name fresh next known is_taken is =
    record {
      primes = suc known.primes;
      is_primed = rw (is, known.is_primed) refl;
      all_taken =
          λ fewer below.
          let at_most : fewer < known.primes + 1 = omega arith in
          below_more (λ k. taken (primed k name) ≡ true) known.primes known.all_taken (rw (← known.is_primed) is_taken) fewer at_most;
      is_named = rw is (is_identifier-prime fresh known.is_named);
    }

-- how many primes more may be needed
abbrev pub primes_left : ℕ → List ℕ → ℕ
primes_left longest fresh = longest + 1 - length fresh

pub primes_left-prime : (longest : ℕ) (fresh next : List ℕ) → length fresh ≤ longest → next ≡ fresh ++ 39 ∷ [] → primes_left longest next < primes_left longest fresh
primes_left-prime longest fresh next bounded is =
    let longer : length next ≡ length fresh + 1 = ap length is ∙ length-append fresh (39 ∷ []) in
    omega arith

-- the variable whose name is the first free one is the variant
pub is_variant : (avoid : List NamedTerm) (name : List ℕ) (ty : HolType) (fresh : List ℕ) (result : NamedTerm)
    → IsFirstFree (λ other. is_free_in_some avoid other ty) name fresh → result ≡ variable fresh ty → IsVariantOf avoid (variable name ty) result
is_variant avoid name ty fresh result first is = rw is (first, refl)

-- the same, for a variable as a term, and for what a call answers
pub variant_answered : {E : Type 0} (avoid : List NamedTerm) (term : NamedTerm) (name : List ℕ) (ty : HolType) (fresh : List ℕ) (result : Result NamedTerm E)
    → Some (name, ty) ≡ dest_variable term → IsFirstFree (λ other. is_free_in_some avoid other ty) name fresh
    → IfOk result (λ new. new ≡ variable fresh ty) → IfOk result (IsVariantOf avoid term)
variant_answered avoid term name ty fresh (Err fault) is first answered = tt
variant_answered avoid (variable other s) name ty fresh (Ok new) is first answered =
    let same : (name, ty) ≡ (other, s) = cc in
    let same_name : name ≡ other = ap (λ (p : List ℕ × HolType). p.0) same in
    let same_type : ty ≡ s = ap (λ (p : List ℕ × HolType). p.1) same in
    rw (← same_name, ← same_type) (is_variant avoid name ty fresh new first answered)
variant_answered avoid (constant other s) name ty fresh (Ok new) is first answered = cc
variant_answered avoid (combination f x) name ty fresh (Ok new) is first answered = cc
variant_answered avoid (abstraction other s body) name ty fresh (Ok new) is first answered = cc
