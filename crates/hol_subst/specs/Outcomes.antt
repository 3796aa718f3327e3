-- The refusals of substitution, instantiation and variants.
use Rattle.std.specs.Prelude.{List, Option, Some, None, not, if◌then◌else◌}
use Rattle.hol_model.specs.declared.fault.Fault.{Fault}
use Rattle.hol_model.specs.declared.fault.Fault.TheVariants.{NotVariable, TypeMismatch}
use Rattle.hol_model.specs.Terms.HolType.{HolType, replaces_type_variables}
use Rattle.hol_model.specs.Terms.NamedTerm.{NamedTerm, is_variable}
use Rattle.hol_model.specs.Terms.Nameless.{image}
use Rattle.hol_model.specs.Terms.Measures.{nameless_within_limits}
use Rattle.hol_model.specs.Terms.Substitution.{put_all, replaces_variables, keeps_types}
use Rattle.hol_model.specs.Kernel.Instantiation.{or_too_large, instantiate_all}

-- the refusal for a list of replacements (new, old) of variables
abbrev pub pairs_refusal : List (NamedTerm × NamedTerm) → Option Fault
pairs_refusal theta =
    if not (replaces_variables theta) then Some NotVariable
    else (if not (keeps_types theta) then Some TypeMismatch
    else None)

-- the refusal of a substitution
abbrev pub vsubst_refusal : List (NamedTerm × NamedTerm) → NamedTerm → Option Fault
vsubst_refusal theta term = or_too_large (pairs_refusal theta) (nameless_within_limits (put_all theta (image term)))

-- the refusal for a list of replacements (new, old) of type variables
abbrev pub type_pairs_refusal : List (HolType × HolType) → Option Fault
type_pairs_refusal theta = if not (replaces_type_variables theta) then Some NotVariable else None

-- the refusal of an instantiation
abbrev pub inst_refusal : List (HolType × HolType) → NamedTerm → Option Fault
inst_refusal theta term = or_too_large (type_pairs_refusal theta) (nameless_within_limits (instantiate_all theta (image term)))

-- the refusal of a variant
abbrev pub variant_refusal : NamedTerm → Option Fault
variant_refusal term = if is_variable term then None else Some NotVariable
