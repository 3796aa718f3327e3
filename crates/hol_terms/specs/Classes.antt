-- The classes of names: sets of numbers below 64, written as the bits of a number.
use Rattle.std.specs.Prelude.{ℕ, ◌+◌, ◌*◌, ◌%◌, ◌^◌, List, Bool, not, nat_eq, fold, bit_and, bit_or}
use Rattle.hol_model.specs.Terms.NamedTerm.{NamedTerm, variable, constant, combination, abstraction}

-- the bytes as the digits of a number to the base 37, modulo 64
abbrev pub class_number : List ℕ → ℕ
class_number name = fold (λ sum byte. (sum * 37 % 256 + byte) % 256) 0 name % 64

-- the set of the name's class alone
abbrev pub class_of_name : List ℕ → ℕ
class_of_name name = 2 ^ class_number name

abbrev pub have_common_class : ℕ → ℕ → Bool
have_common_class a b = not (nat_eq (bit_and a b) 0)

-- the classes of the names of all variables of a term, binders left out
abbrev pub classes_of_names : NamedTerm → ℕ
classes_of_names (variable name ty) = class_of_name name
classes_of_names (constant name ty) = 0
classes_of_names (combination function argument) = bit_or (classes_of_names function) (classes_of_names argument)
classes_of_names (abstraction name ty body) = classes_of_names body
