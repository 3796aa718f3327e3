-- Why a name with enough primes is not taken.
use Rattle.std.proofs.Common.{◌≡◌, ℕ, zero, suc, ◌+◌, ◌-◌, ◌<◌, ◌≤◌, max, arith, below_more, refl, ◌∙◌, ap}
use Rattle.std.proofs.Common.{List, [], ◌∷◌, ◌++◌, Bool, true, false, ◌&&◌, ◌||◌, length, length-append}
use Rattle.hol_model.specs.Terms.HolType.{HolType}
use Rattle.hol_model.specs.Terms.Name.{is_identifier, is_capital, is_small, continues_name, all_continue}
use Rattle.hol_model.specs.Terms.NamedTerm.{NamedTerm}
use Rattle.hol_model.specs.Terms.Nameless.{Nameless, free, const, bound, app, lam, image}
use Rattle.hol_model.specs.Terms.Substitution.{occurs_free, primed, IsFirstFree}
use Rattle.hol_model.proofs.Tests.{same_name}

-- the length of the longest name of a free variable in a term
abbrev pub longest_free : Nameless → ℕ
longest_free (free name ty) = length name
longest_free (const name ty) = 0
longest_free (bound index) = 0
longest_free (app function argument) = max (longest_free function) (longest_free argument)
longest_free (lam ty body) = longest_free body

abbrev pub longest_of : List NamedTerm → ℕ
longest_of [] = 0
longest_of (term ∷ rest) = max (longest_free (image term)) (longest_of rest)

either_bound : (p q : Bool) (n a b : ℕ) → (p ≡ true → n ≤ a) → (q ≡ true → n ≤ b) → (p || q) ≡ true → n ≤ max a b
either_bound true q n a b left right some = let below : n ≤ a = left refl in omega arith
either_bound false q n a b left right some = let below : n ≤ b = right some in omega arith

-- a variable that is free in a term has no longer name than the longest there
pub free_is_bounded : (term : Nameless) (name : List ℕ) (ty : HolType) → occurs_free name ty term ≡ true → length name ≤ longest_free term
free_is_bounded (free other s) name ty occurs = let same : name ≡ other = same_name name other ty s occurs in rw same (omega arith)
free_is_bounded (const other s) name ty occurs = cc
free_is_bounded (bound index) name ty occurs = cc
free_is_bounded (app f a) name ty occurs =
    either_bound (occurs_free name ty f) (occurs_free name ty a) (length name) (longest_free f) (longest_free a) (free_is_bounded f name ty) (free_is_bounded a name ty) occurs
free_is_bounded (lam s body) name ty occurs = free_is_bounded body name ty occurs

all_continue-prime : (bytes : List ℕ) → all_continue bytes ≡ true → all_continue (bytes ++ 39 ∷ []) ≡ true
all_continue-prime [] all = refl
all_continue-prime (byte ∷ rest) all = both (continues_name byte) (all_continue rest) (all_continue (rest ++ 39 ∷ [])) (all_continue-prime rest) all
  where
    both : (p q r : Bool) → (q ≡ true → r ≡ true) → (p && q) ≡ true → (p && r) ≡ true
    both true q r step all = step all
    both false q r step all = all

-- an identifier stays one with a prime at its end
pub is_identifier-prime : (name : List ℕ) → is_identifier name ≡ true → is_identifier (name ++ 39 ∷ []) ≡ true
is_identifier-prime [] named = cc
is_identifier-prime (first ∷ rest) named =
    both (is_capital first || is_small first) (all_continue rest) (all_continue (rest ++ 39 ∷ [])) (all_continue-prime rest) named
  where
    both : (p q r : Bool) → (q ≡ true → r ≡ true) → (p && q) ≡ true → (p && r) ≡ true
    both true q r step named = step named
    both false q r step named = named

-- what is known of a name to which primes are put: each name before it was taken
pub record HasPrimes (taken : List ℕ → Bool) (name fresh : List ℕ) : Type 0 where
  pub primes : ℕ
  pub is_primed : fresh ≡ primed primes name
  pub all_taken : (fewer : ℕ) → fewer < primes → taken (primed fewer name) ≡ true
  pub is_named : is_identifier fresh ≡ true

-- the name itself has none
pub no_primes : (taken : List ℕ → Bool) (name fresh : List ℕ) → is_identifier name ≡ true → fresh ≡ name → HasPrimes taken name fresh
no_primes taken name fresh named same =
    record { primes = zero; is_primed = same; all_taken = λ fewer below. absurd (omega arith); is_named = rw same named }

-- a taken name gets one more
pub one_more_prime : (taken : List ℕ → Bool) (name fresh next : List ℕ) → HasPrimes taken name fresh
    → taken fresh ≡ true → next ≡ fresh ++ 39 ∷ [] → HasPrimes taken name next
one_more_prime taken name fresh next known is_taken is =
    record {
      primes = suc known.primes;
      is_primed = rw (is, known.is_primed) refl;
      all_taken =
          λ fewer below.
          let at_most : fewer < known.primes + 1 = omega arith in
          below_more (λ k. taken (primed k name) ≡ true) known.primes known.all_taken (rw (← known.is_primed) is_taken) fewer at_most;
      is_named = rw is (is_identifier-prime fresh known.is_named);
    }

-- the name that is not taken is the first one
pub free_at_last : (taken : List ℕ → Bool) (name fresh : List ℕ) → HasPrimes taken name fresh → taken fresh ≡ false → IsFirstFree taken name fresh
free_at_last taken name fresh known is_free =
    record { primes = known.primes; is_primed = known.is_primed; is_fresh = is_free; is_first = known.all_taken }

-- how many primes more may be needed
abbrev pub primes_left : ℕ → List ℕ → ℕ
primes_left longest fresh = longest + 1 - length fresh

pub primes_left-prime : (longest : ℕ) (fresh next : List ℕ) → length fresh ≤ longest → next ≡ fresh ++ 39 ∷ [] → primes_left longest next < primes_left longest fresh
primes_left-prime longest fresh next bounded is =
    let longer : length next ≡ length fresh + 1 = ap length is ∙ length-append fresh (39 ∷ []) in
    omega arith
