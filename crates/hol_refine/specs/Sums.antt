-- The sums that the classes of names are made of.
use Rattle.std.specs.Prelude.{ℕ, ◌+◌, ◌*◌, ◌%◌, List, fold}

-- the sum with one byte more
abbrev pub longer_sum : ℕ → ℕ → ℕ
longer_sum sum byte = (sum * 37 % 256 + byte) % 256

-- the bytes as the digits of a number to the base 37, modulo 256: the class of a name is the class of this number
abbrev pub name_sum : List ℕ → ℕ
name_sum name = fold longer_sum 0 name

-- the sum with a prime more
abbrev pub primed_sum : ℕ → ℕ
primed_sum sum = longer_sum sum 39
