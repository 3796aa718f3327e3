-- The rows of elements that vectors hold.
use Rattle.std.proofs.Common.{List, map, Vec, Global}
use Rattle.hol_model.specs.Models.Values.{Value}

abbrev pub rows_of : List (Vec Value Global) → List (List Value)
rows_of rows = map (λ row. row.items) rows
