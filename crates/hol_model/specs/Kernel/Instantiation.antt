-- What INST and INST_TYPE answer. Which names bound variables take in it is left open.
use Rattle.std.specs.Prelude.{◌≡◌, List, [], ◌∷◌, Bool, Option, Some, None, not, map, if◌then◌else◌}
use Rattle.std.specs.List.{list_all}
use Rattle.hol_model.specs.declared.fault.Fault.{Fault}
use Rattle.hol_model.specs.declared.fault.Fault.TheVariants.{TooLarge, NotVariable, TypeMismatch, UnknownType, UnknownConst, NotInstance}
use Rattle.hol_model.specs.Terms.HolType.{HolType, replaces_type_variables, type_instance_of}
use Rattle.hol_model.specs.Terms.NamedTerm.{NamedTerm}
use Rattle.hol_model.specs.Terms.Nameless.{Nameless, image}
use Rattle.hol_model.specs.Terms.Measures.{nameless_within_limits}
use Rattle.hol_model.specs.Terms.Substitution.{put_all, instantiate, replaces_variables, keeps_types}
use Rattle.hol_model.specs.Logic.Theory.{Theory}
use Rattle.hol_model.specs.Logic.KnownTerm.{knows_type, knows_types, knows_constants, has_instances}
use Rattle.hol_model.specs.Kernel.Theorem.{Theorem, with_hypotheses}

-- a change of each part of a theorem: of the hypotheses, which are put in order again, and of the conclusion
pub record IsChanged (theory : Theory) (change : Nameless → Nameless) (theorem answer : Theorem) : Type 0 where
  pub stands_on : answer.theory ≡ theory
  pub instances : List NamedTerm
  pub images : map image instances ≡ map change (map image theorem.hypotheses)
  pub hypotheses : answer.hypotheses ≡ with_hypotheses [] instances
  pub conclusion : image answer.conclusion ≡ change (image theorem.conclusion)

-- what the terms become under a change is within the limits
abbrev pub all_fit : (Nameless → Nameless) → List NamedTerm → Bool
all_fit change terms = list_all (λ term. nameless_within_limits (change (image term))) terms

-- the refusal, where there is one, else that for the limits
abbrev pub or_too_large : Option Fault → Bool → Option Fault
or_too_large (Some fault) fits = Some fault
or_too_large None fits = if fits then None else Some TooLarge

-- the refusal for a list of replacements (new, old)
abbrev pub replacements_refusal : Theory → List (NamedTerm × NamedTerm) → Option Fault
replacements_refusal theory theta =
    if not (replaces_variables theta) then Some NotVariable
    else (if not (keeps_types theta) then Some TypeMismatch
    else (if not (list_all (λ pair. knows_types theory pair.0) theta) then Some UnknownType
    else (if not (list_all (λ pair. knows_constants theory pair.0) theta) then Some UnknownConst
    else (if not (list_all (λ pair. has_instances theory pair.0) theta) then Some NotInstance
    else None))))

-- the refusal of INST
abbrev pub inst_refusal : Theory → List (NamedTerm × NamedTerm) → Theorem → Option Fault
inst_refusal theory theta theorem = or_too_large (replacements_refusal theory theta) (all_fit (put_all theta) (theorem.conclusion ∷ theorem.hypotheses))

-- INST: free variables replaced
abbrev pub IsInst : Theory → List (NamedTerm × NamedTerm) → Theorem → Theorem → Type 0
IsInst theory theta theorem answer = IsChanged theory (put_all theta) theorem answer

-- a term with its type variables replaced, all at once, by a list of replacements
abbrev pub instantiate_all : List (HolType × HolType) → Nameless → Nameless
instantiate_all theta term = instantiate (type_instance_of theta) term

-- the refusal for a list of replacements (new, old) of type variables
abbrev pub type_replacements_refusal : Theory → List (HolType × HolType) → Option Fault
type_replacements_refusal theory theta =
    if not (replaces_type_variables theta) then Some NotVariable
    else (if not (list_all (λ pair. knows_type theory pair.0) theta) then Some UnknownType
    else None)

-- the refusal of INST_TYPE
abbrev pub inst_type_refusal : Theory → List (HolType × HolType) → Theorem → Option Fault
inst_type_refusal theory theta theorem = or_too_large (type_replacements_refusal theory theta) (all_fit (instantiate_all theta) (theorem.conclusion ∷ theorem.hypotheses))

-- INST_TYPE: type variables replaced
abbrev pub IsInstType : Theory → List (HolType × HolType) → Theorem → Theorem → Type 0
IsInstType theory theta theorem answer = IsChanged theory (instantiate_all theta) theorem answer
