-- Conjunctions of tests, and choices by a test that decides a question.
use Rattle.std.proofs.Common.{◌≡◌, Bool, true, false, ◌&&◌, refl, if◌then◌else◌}
use Rattle.std.specs.Bool.{Decides}

-- both halves of a conjunction
pub first_of_both : (p q : Bool) → (p && q) ≡ true → p ≡ true
first_of_both true q both = refl
first_of_both false q both = both

pub second_of_both : (p q : Bool) → (p && q) ≡ true → q ≡ true
second_of_both true q both = both
second_of_both false q both = cc

pub if_same : {P A : Type 0} (test : Bool) → Decides test P → (x y : A) → P → (if test then x else y) ≡ x
if_same true d x y p = refl
if_same false d x y p = let wrong : false ≡ true = d.1 p in cc

pub if_other : {P A : Type 0} (test : Bool) → Decides test P → (x y : A) → ¬ P → (if test then x else y) ≡ y
if_other true d x y n = absurd (n (d.0 refl))
if_other false d x y n = refl

-- a question answered, and a test that decides it
pub always : {P : Type 0} → P → Decides true P
always p = ((λ e. p), (λ q. refl))

pub never : {P : Type 0} → ¬ P → Decides false P
never n = ((λ e. cc), (λ p. absurd (n p)))
