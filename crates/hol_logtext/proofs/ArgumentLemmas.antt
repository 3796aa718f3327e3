-- What fields are where they are read as names and numbers, and how names and numbers are read from what is written.
use Rattle.std.proofs.Common.{◌≡◌, ℕ, List, [], ◌∷◌, Bool, true, false, Option, Some, None, refl, sym, subst, ◌∙◌, ap, map, if◌then◌else◌}
use Rattle.std.specs.Prelude.{decimal}
use Rattle.std.specs.Option.{option_map}
use Rattle.hol_logtext.specs.Fields.{is_log_name, name_of, number_of}
use Rattle.hol_logtext.specs.LineText.{pair_fields, IsLogName, IsLogNumber, AreLogNumbers, ArePairsOfNumbers}
use Rattle.hol_logtext.specs.LineReading.{both, both_numbers, both_kinds, no_field, one_name, one_number, two_numbers, name_and_number, before_all, numbers_of, pairs_of, number_and_pairs}
use Rattle.hol_logtext.specs.LineReading.{parts_of_claim}
use Rattle.hol_logtext.proofs.FieldLemmas.{number_of-is, number_of-decimal}

-- from what was read

-- what a value was made of
pub mapped : {A B : Type 0} (make : A → B) (found : Option A) (y : B) → option_map make found ≡ Some y → (x : A) × (found ≡ Some x) × (y ≡ make x)
mapped make None y is = cc
mapped make (Some x) y is = (x, refl, cc)

pub both-are : {A B : Type 0} (first : Option A) (second : Option B) (pair : A × B) → both first second ≡ Some pair → (first ≡ Some pair.0) × (second ≡ Some pair.1)
both-are (Some x) (Some y) pair is = (cc, cc)
both-are (Some x) None pair is = cc
both-are None second pair is = cc

before_all-are : {A : Type 0} (first : Option A) (rest : Option (List A)) (all : List A) → before_all first rest ≡ Some all
    → (x : A) × (xs : List A) × (first ≡ Some x) × (rest ≡ Some xs) × (all ≡ x ∷ xs)
before_all-are (Some x) (Some xs) all is = (x, xs, refl, refl, cc)
before_all-are (Some x) None all is = cc
before_all-are None rest all is = cc

pub name_of-is : (field name : List ℕ) → name_of field ≡ Some name → (field ≡ name) × IsLogName name
name_of-is field name is = go (is_log_name field) refl is
  where
    go : (test : Bool) → is_log_name field ≡ test → (if test then Some field else None) ≡ Some name → (field ≡ name) × IsLogName name
    go true passed found = let same : field ≡ name = cc in (same, sym (ap is_log_name same) ∙ passed)
    go false passed found = cc

pub no_field-is : (fields : List (List ℕ)) (x : Unit {0}) → no_field fields ≡ Some x → fields ≡ []
no_field-is [] x is = refl
no_field-is (field ∷ fields) x is = cc

pub one_name-is : (fields : List (List ℕ)) (name : List ℕ) → one_name fields ≡ Some name → (fields ≡ name ∷ []) × IsLogName name
one_name-is [] name is = cc
one_name-is (field ∷ []) name is = let k = name_of-is field name is in (ap (λ f. f ∷ []) k.0, k.1)
one_name-is (field ∷ more ∷ fields) name is = cc

pub one_number-is : (fields : List (List ℕ)) (number : ℕ) → one_number fields ≡ Some number → (fields ≡ decimal number ∷ []) × IsLogNumber number
one_number-is [] number is = cc
one_number-is (field ∷ []) number is = let k = number_of-is field number is in (ap (λ f. f ∷ []) k.0, k.1)
one_number-is (field ∷ more ∷ fields) number is = cc

both_numbers-are : (first second : List ℕ) (pair : ℕ × ℕ) → both_numbers first second ≡ Some pair
    → (first ≡ decimal pair.0) × (second ≡ decimal pair.1) × IsLogNumber pair.0 × IsLogNumber pair.1
both_numbers-are first second pair is =
    let parts = both-are (number_of first) (number_of second) pair is in
    let one = number_of-is first pair.0 parts.0 in
    let two = number_of-is second pair.1 parts.1 in
    (one.0, two.0, one.1, two.1)

pub two_numbers-are : (fields : List (List ℕ)) (pair : ℕ × ℕ) → two_numbers fields ≡ Some pair → (fields ≡ decimal pair.0 ∷ decimal pair.1 ∷ []) × (IsLogNumber pair.0 × IsLogNumber pair.1)
two_numbers-are [] pair is = cc
two_numbers-are (first ∷ []) pair is = cc
two_numbers-are (first ∷ second ∷ []) pair is =
    let k = both_numbers-are first second pair is in ((λ i. k.0 i ∷ k.1 i ∷ []), (k.2, k.3))
two_numbers-are (first ∷ second ∷ third ∷ fields) pair is = cc

both_kinds-are : (name number : List ℕ) (pair : List ℕ × ℕ) → both_kinds name number ≡ Some pair
    → (name ≡ pair.0) × (number ≡ decimal pair.1) × IsLogName pair.0 × IsLogNumber pair.1
both_kinds-are name number pair is =
    let parts = both-are (name_of name) (number_of number) pair is in
    let one = name_of-is name pair.0 parts.0 in
    let two = number_of-is number pair.1 parts.1 in
    (one.0, two.0, one.1, two.1)

pub name_and_number-are : (fields : List (List ℕ)) (pair : List ℕ × ℕ) → name_and_number fields ≡ Some pair → (fields ≡ pair.0 ∷ decimal pair.1 ∷ []) × (IsLogName pair.0 × IsLogNumber pair.1)
name_and_number-are [] pair is = cc
name_and_number-are (name ∷ []) pair is = cc
name_and_number-are (name ∷ number ∷ []) pair is =
    let k = both_kinds-are name number pair is in ((λ i. k.0 i ∷ k.1 i ∷ []), (k.2, k.3))
name_and_number-are (name ∷ number ∷ third ∷ fields) pair is = cc

pub numbers_of-are : (fields : List (List ℕ)) (numbers : List ℕ) → numbers_of fields ≡ Some numbers → (fields ≡ map decimal numbers) × AreLogNumbers numbers
numbers_of-are [] [] is = (refl, tt)
numbers_of-are [] (number ∷ numbers) is = cc
numbers_of-are (field ∷ fields) all is =
    go all (before_all-are (number_of field) (numbers_of fields) all is) (numbers_of-are fields)
  where
    go : (all : List ℕ) → ((x : ℕ) × (xs : List ℕ) × (number_of field ≡ Some x) × (numbers_of fields ≡ Some xs) × (all ≡ x ∷ xs))
        → ((xs : List ℕ) → numbers_of fields ≡ Some xs → (fields ≡ map decimal xs) × AreLogNumbers xs)
        → (field ∷ fields ≡ map decimal all) × AreLogNumbers all
    go all (x, xs, one, rest, same) deeper =
        let here = number_of-is field x one in
        let there = deeper xs rest in
        subst (λ (l : List ℕ). (field ∷ fields ≡ map decimal l) × AreLogNumbers l) (sym same) ((λ i. here.0 i ∷ there.0 i), (here.1, there.1))

pub pairs_of-are : (fields : List (List ℕ)) (pairs : List (ℕ × ℕ)) → pairs_of fields ≡ Some pairs → (fields ≡ pair_fields pairs) × ArePairsOfNumbers pairs
pairs_of-are [] [] is = (refl, tt)
pairs_of-are [] (pair ∷ pairs) is = cc
pairs_of-are (field ∷ []) pairs is = cc
pairs_of-are (first ∷ second ∷ fields) all is =
    go all (before_all-are (both_numbers first second) (pairs_of fields) all is) (pairs_of-are fields)
  where
    go : (all : List (ℕ × ℕ)) → ((x : ℕ × ℕ) × (xs : List (ℕ × ℕ)) × (both_numbers first second ≡ Some x) × (pairs_of fields ≡ Some xs) × (all ≡ x ∷ xs))
        → ((xs : List (ℕ × ℕ)) → pairs_of fields ≡ Some xs → (fields ≡ pair_fields xs) × ArePairsOfNumbers xs)
        → (first ∷ second ∷ fields ≡ pair_fields all) × ArePairsOfNumbers all
    go all (x, xs, one, rest, same) deeper =
        let here = both_numbers-are first second x one in
        let there = deeper xs rest in
        subst (λ (l : List (ℕ × ℕ)). (first ∷ second ∷ fields ≡ pair_fields l) × ArePairsOfNumbers l) (sym same)
        ((λ i. here.0 i ∷ here.1 i ∷ there.0 i), (here.2, here.3, there.1))

pub number_and_pairs-are : (fields : List (List ℕ)) (pair : ℕ × List (ℕ × ℕ)) → number_and_pairs fields ≡ Some pair
    → (fields ≡ decimal pair.0 ∷ pair_fields pair.1) × (IsLogNumber pair.0 × ArePairsOfNumbers pair.1)
number_and_pairs-are [] pair is = cc
number_and_pairs-are (number ∷ fields) pair is =
    let parts = both-are (number_of number) (pairs_of fields) pair is in
    let one = number_of-is number pair.0 parts.0 in
    let more = pairs_of-are fields pair.1 parts.1 in
    ((λ i. one.0 i ∷ more.0 i), (one.1, more.1))

pub parts_of_claim-are : (name theorem conclusion : List ℕ) (hypotheses : List (List ℕ)) (parts : (List ℕ × ℕ) × (ℕ × List ℕ))
    → parts_of_claim name theorem conclusion hypotheses ≡ Some parts
    → (name ∷ theorem ∷ conclusion ∷ hypotheses ≡ parts.0.0 ∷ decimal parts.0.1 ∷ decimal parts.1.0 ∷ map decimal parts.1.1)
    × (IsLogName parts.0.0 × IsLogNumber parts.0.1 × IsLogNumber parts.1.0 × AreLogNumbers parts.1.1)
parts_of_claim-are name theorem conclusion hypotheses parts is =
    let halves = both-are (both_kinds name theorem) (both (number_of conclusion) (numbers_of hypotheses)) parts is in
    let first = both_kinds-are name theorem parts.0 halves.0 in
    let rest = both-are (number_of conclusion) (numbers_of hypotheses) parts.1 halves.1 in
    let third = number_of-is conclusion parts.1.0 rest.0 in
    let last = numbers_of-are hypotheses parts.1.1 rest.1 in
    ((λ i. first.0 i ∷ first.1 i ∷ third.0 i ∷ last.0 i), (first.2, first.3, third.1, last.1))

-- from what is written

pub both-some : {A B : Type 0} (first : Option A) (second : Option B) (x : A) (y : B) → first ≡ Some x → second ≡ Some y → both first second ≡ Some (x, y)
both-some first second x y one two = rw (one, two) refl

before_all-some : {A : Type 0} (first : Option A) (rest : Option (List A)) (x : A) (xs : List A) → first ≡ Some x → rest ≡ Some xs → before_all first rest ≡ Some (x ∷ xs)
before_all-some first rest x xs one more = rw (one, more) refl

pub name-read : (name : List ℕ) → IsLogName name → name_of name ≡ Some name
name-read name is = rw is refl

pub two-read : (a b : ℕ) → IsLogNumber a → IsLogNumber b → both_numbers (decimal a) (decimal b) ≡ Some (a, b)
two-read a b one two = both-some (number_of (decimal a)) (number_of (decimal b)) a b (number_of-decimal a one) (number_of-decimal b two)

pub name_and-read : (name : List ℕ) (a : ℕ) → IsLogName name → IsLogNumber a → both_kinds name (decimal a) ≡ Some (name, a)
name_and-read name a is one = both-some (name_of name) (number_of (decimal a)) name a (name-read name is) (number_of-decimal a one)

pub numbers-read : (numbers : List ℕ) → AreLogNumbers numbers → numbers_of (map decimal numbers) ≡ Some numbers
numbers-read [] are = refl
numbers-read (number ∷ numbers) are =
    before_all-some (number_of (decimal number)) (numbers_of (map decimal numbers)) number numbers (number_of-decimal number are.0) (numbers-read numbers are.1)

pub pairs-read : (pairs : List (ℕ × ℕ)) → ArePairsOfNumbers pairs → pairs_of (pair_fields pairs) ≡ Some pairs
pairs-read [] are = refl
pairs-read (pair ∷ pairs) are =
    before_all-some (both_numbers (decimal pair.0) (decimal pair.1)) (pairs_of (pair_fields pairs)) pair pairs (two-read pair.0 pair.1 are.0 are.1) (pairs-read pairs are.2)

pub number_and_pairs-read : (number : ℕ) (pairs : List (ℕ × ℕ)) → IsLogNumber number → ArePairsOfNumbers pairs → number_and_pairs (decimal number ∷ pair_fields pairs) ≡ Some (number, pairs)
number_and_pairs-read number pairs is are =
    both-some (number_of (decimal number)) (pairs_of (pair_fields pairs)) number pairs (number_of-decimal number is) (pairs-read pairs are)

pub claim-read : (name : List ℕ) (theorem conclusion : ℕ) (hypotheses : List ℕ) → IsLogName name → IsLogNumber theorem → IsLogNumber conclusion → AreLogNumbers hypotheses
    → parts_of_claim name (decimal theorem) (decimal conclusion) (map decimal hypotheses) ≡ Some ((name, theorem), (conclusion, hypotheses))
claim-read name theorem conclusion hypotheses named one two all =
    both-some (both_kinds name (decimal theorem)) (both (number_of (decimal conclusion)) (numbers_of (map decimal hypotheses))) (name, theorem) (conclusion, hypotheses)
    (name_and-read name theorem named one)
    (both-some (number_of (decimal conclusion)) (numbers_of (map decimal hypotheses)) conclusion hypotheses (number_of-decimal conclusion two) (numbers-read hypotheses all))
