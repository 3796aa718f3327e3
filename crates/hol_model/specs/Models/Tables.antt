-- Tables: functions over finite lists of values.
use Rattle.std.specs.Prelude.{List, [], ◌∷◌, ◌++◌, map, Bool, if◌then◌else◌}
use Rattle.hol_model.specs.Models.Values.{Value, number, rows, Values, no_values, one_more, same_value, table, truth, falsity}

-- a test's answer as a value
abbrev pub truth_of : Bool → Value
truth_of test = if test then truth else falsity

-- the first value, or the number 0 where there is none
abbrev pub first_of : List Value → Value
first_of [] = number 0
first_of (v ∷ vs) = v

-- the value beside an argument
abbrev pub value_beside : List Value → Values → Value → Value
value_beside [] vs x = number 0
value_beside (a ∷ arguments) no_values x = number 0
value_beside (a ∷ arguments) (one_more v vs) x = if same_value x a then v else value_beside arguments vs x

-- a table's value at an argument, the table's arguments being given in order
abbrev pub look_up : List Value → Value → Value → Value
look_up arguments (number n) x = number 0
look_up arguments (rows vs) x = value_beside arguments vs x

-- the table of a function
abbrev pub tabulate : List Value → (Value → Value) → Value
tabulate arguments f = table (map f arguments)

-- each list that begins with one of the values and goes on with one of the lists, in lexicographic order
abbrev pub each_before : List Value → List (List Value) → List (List Value)
each_before [] lists = []
each_before (v ∷ vs) lists = map (λ l. v ∷ l) lists ++ each_before vs lists

-- each list of one of the values for each argument, in lexicographic order
abbrev pub each_row : List Value → List Value → List (List Value)
each_row [] values = [] ∷ []
each_row (a ∷ arguments) values = each_before values (each_row arguments values)

-- identity, as a table of tables
abbrev pub equality_table : List Value → Value
equality_table values = tabulate values (λ x. tabulate values (λ y. truth_of (same_value x y)))

-- the first member where the table has truth
abbrev pub first_true : List Value → Value → List Value → Value
first_true all p [] = first_of all
first_true all p (x ∷ rest) = if same_value (look_up all p x) truth then x else first_true all p rest

-- choice, as a table over the tables of truth values
abbrev pub choice_table : List Value → List Value → Value
choice_table values predicates = tabulate predicates (λ p. first_true values p values)
