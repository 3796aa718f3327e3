-- Terms that a theory knows, one after another.
use Rattle.std.proofs.Common.{◌≡◌, List, [], ◌∷◌, Bool, true, false, ◌&&◌, not, Option, None, Some, if◌then◌else◌, refl, sym, ap, ◌∙◌}
use Rattle.std.specs.List.{list_all}
use Rattle.hol_model.specs.declared.fault.Fault.{Fault}
use Rattle.hol_model.specs.declared.fault.Fault.TheVariants.{UnknownType, UnknownConst, NotInstance}
use Rattle.hol_model.specs.Terms.NamedTerm.{NamedTerm}
use Rattle.hol_model.specs.Logic.Theory.{Theory}
use Rattle.hol_model.specs.Logic.KnownTerm.{knows_types, knows_constants, has_instances, is_known}
use Rattle.hol_model.specs.Kernel.Rules.{first_unknown}

by-threes : (a b c d e f : Bool) → (a && b && c) && (d && e && f) ≡ (a && d) && (b && e) && (c && f)
by-threes false b c d e f = refl
by-threes true false c false e f = refl
by-threes true false c true e f = refl
by-threes true true false false e f = refl
by-threes true true false true false f = refl
by-threes true true false true true f = refl
by-threes true true true d e f = refl

abbrev know-types : Theory → List (NamedTerm × NamedTerm) → Bool
know-types theory theta = list_all (λ pair. knows_types theory pair.0) theta

abbrev know-constants : Theory → List (NamedTerm × NamedTerm) → Bool
know-constants theory theta = list_all (λ pair. knows_constants theory pair.0) theta

abbrev have-instances : Theory → List (NamedTerm × NamedTerm) → Bool
have-instances theory theta = list_all (λ pair. has_instances theory pair.0) theta

all-known : (theory : Theory) (theta : List (NamedTerm × NamedTerm)) → list_all (λ pair. is_known theory pair.0) theta ≡ know-types theory theta
    && know-constants theory theta && have-instances theory theta
all-known theory [] = refl
all-known theory (pair ∷ rest) =
    ap (λ b. is_known theory pair.0 && b) (all-known theory rest)
    ∙ by-threes (knows_types theory pair.0) (knows_constants theory pair.0) (has_instances theory pair.0) (know-types theory rest) (know-constants theory rest) (have-instances theory rest)

-- the refusal for what is not known
abbrev unknown : Bool → Bool → Bool → Option Fault → Option Fault → Option Fault
unknown types constants instances no_type no_constant =
    if not types then no_type else (if not constants then no_constant else (if not instances then Some NotInstance else None))

none-unknown : (types constants instances : Bool) (no_type no_constant : Option Fault) → types && constants && instances ≡ true → None ≡ unknown types constants instances no_type no_constant
none-unknown true true true no_type no_constant is = refl
none-unknown true true false no_type no_constant is = cc
none-unknown true false instances no_type no_constant is = cc
none-unknown false constants instances no_type no_constant is = cc

last-unknown : (types constants instances : Bool) (no_type no_constant : Option Fault) → types && constants && instances ≡ false → types ≡ true → constants ≡ true
    → Some NotInstance ≡ unknown types constants instances no_type no_constant
last-unknown true true true no_type no_constant is types constants = cc
last-unknown true true false no_type no_constant is types constants = refl
last-unknown true false instances no_type no_constant is types constants = cc
last-unknown false constants instances no_type no_constant is types there = cc

-- where all are known, there is no refusal
pub known-refusal : (theory : Theory) (theta : List (NamedTerm × NamedTerm)) (no_type no_constant : Option Fault) → list_all (λ pair. is_known theory pair.0) theta ≡ true
    → None ≡ unknown (know-types theory theta) (know-constants theory theta) (have-instances theory theta) no_type no_constant
known-refusal theory theta no_type no_constant known =
    none-unknown (know-types theory theta) (know-constants theory theta) (have-instances theory theta) no_type no_constant (sym (all-known theory theta) ∙ known)

-- where all types are known and all constants are there, one is at no instance of its generic type
pub unknown-refusal : (theory : Theory) (theta : List (NamedTerm × NamedTerm)) (no_type no_constant : Option Fault) → list_all (λ pair. is_known theory pair.0) theta ≡ false
    → know-types theory theta ≡ true → know-constants theory theta ≡ true
    → Some NotInstance ≡ unknown (know-types theory theta) (know-constants theory theta) (have-instances theory theta) no_type no_constant
unknown-refusal theory theta no_type no_constant unknowns types constants =
    last-unknown (know-types theory theta) (know-constants theory theta) (have-instances theory theta) no_type no_constant (sym (all-known theory theta) ∙ unknowns) types constants

-- a term is known where there is no refusal for it, and only there
pub no_unknown : (theory : Theory) (term : NamedTerm) → is_known theory term ≡ true → first_unknown theory term ≡ None
no_unknown theory term known =
    sym (none-unknown (knows_types theory term) (knows_constants theory term) (has_instances theory term) (Some UnknownType) (Some UnknownConst) known)

pub known_where_none : (theory : Theory) (term : NamedTerm) → first_unknown theory term ≡ None → is_known theory term ≡ true
known_where_none theory term none = go (knows_types theory term) (knows_constants theory term) (has_instances theory term) none
  where
    go : (types constants instances : Bool) → unknown types constants instances (Some UnknownType) (Some UnknownConst) ≡ None → types && constants && instances ≡ true
    go true true true none = refl
    go true true false none = cc
    go true false instances none = cc
    go false constants instances none = cc
