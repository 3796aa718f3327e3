-- The names of the functions that are stored, in the order in which they came.
use Rattle.std.specs.Prelude.{ℕ, List, map}
use Rattle.std.specs.String.{string_bytes}
use Rattle.hol_host.specs.declared.conversions.HostConvs.{HostConvs}
use Rattle.hol_host.specs.declared.host.Host.{Host}

abbrev pub conversion_names : {a : _} {b : _} {c : _} → HostConvs a b c → List (List ℕ)
conversion_names host = map (λ entry. string_bytes entry.name) host.conversions.items

abbrev pub refiner_names : {a : _} {b : _} {c : _} {d : _} {e : _} {f : _} → Host a b c d e f → List (List ℕ)
refiner_names host = map (λ entry. string_bytes entry.name) host.refiners.items
