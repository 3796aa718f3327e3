-- A host's functions in front of their callers: what may be answered, and what storing a name comes to.
use Rattle.std.specs.Prelude.{ℕ, suc, ◌+◌, ◌<◌, ◌≡◌, List, [], ◌∷◌, ◌++◌, length, Bool, not, Contains, Option, Some, None, Result, Ok, Err, nat_le, slice_index_or, ◌⊎◌}
use Rattle.std.specs.List.{list_any}
use Rattle.std.specs.Str.{bytes_eq}
use Rattle.std.proofs.Common.{Bor}
use Rattle.hol_model.specs.declared.fault.Fault.{Fault}
use Rattle.hol_model.specs.declared.fault.Fault.TheVariants.{BadName, NameTaken, TooLong}
use Rattle.hol_model.specs.declared.fault.Fault.TheVariants as faults
use Rattle.hol_model.specs.declared.limits.TheConstants.{HOST_FUNCTIONS_LIMIT}
use Rattle.hol_model.specs.Terms.Name.{is_identifier}
use Rattle.hol_model.specs.Terms.NamedTerm.{NamedTerm}
use Rattle.hol_model.specs.Kernel.Outcome.{unless}
use Rattle.hol_model.specs.Goals.Goals.{Goal}
use Rattle.hol_model.specs.Goals.ValidSteps.{Step}
use Rattle.hol_model.specs.Refining.HostFunctions.{Host, HostConversions, HostEquation}
use Rattle.hol_just.specs.declared.just.Just.{Just}
use Rattle.hol_just.specs.declared.goal.Step as code_step
use Rattle.hol_just.specs.Steps.{step_of, tree_of}
use Rattle.hol_host.specs.declared.functions.HostFail.{HostFail}
use Rattle.hol_host.specs.declared.functions.HostFail.TheVariants.{Failed, Memory}

-- ---- answers: what a function's result tells, none where it fails; nothing is told where it finds no memory

abbrev pub step_answered : Result code_step.Step HostFail → Option (Option Step)
step_answered (Ok step) = Some (Some (step_of step))
step_answered (Err Failed) = Some None
step_answered (Err Memory) = None

abbrev pub equation_answered : Result (NamedTerm × Just) HostFail → Option (Option HostEquation)
equation_answered (Ok answer) = Some (Some (record { term = answer.0; justification = tree_of answer.1 }))
equation_answered (Err Failed) = Some None
equation_answered (Err Memory) = None

-- what a refused call makes a function fail with
abbrev pub fail_of : Fault → HostFail
fail_of faults.Memory = Memory
fail_of _ = Failed

-- the refiners of a host: their names, and what the one of a name may answer for a goal
pub record HostRefiners : Type 1 where
  pub names : List (List ℕ)
  pub refines : List ℕ → Goal → Option Step → Type 0

abbrev pub no_host_refiners : HostRefiners
no_host_refiners = record { names = []; refines = λ name goal answer. ⊥ }

-- the functions of a host
abbrev pub host_of : HostRefiners → HostConversions → Host
host_of refiners conversions = record { refiners = refiners.names; refines = refiners.refines; conversions = conversions }

-- two hosts side by side: where the first has the name it may answer, and else the second
abbrev pub FirstThatHas : List (List ℕ) → List ℕ → Type 0 → Type 0 → Type 0
FirstThatHas names name First Second = (Contains names name × First) ⊎ ((¬ (Contains names name)) × Second)

abbrev pub refiners_beside : HostRefiners → HostRefiners → HostRefiners
refiners_beside first second = record {
  names = first.names ++ second.names;
  refines = λ name goal answer. FirstThatHas first.names name (first.refines name goal answer) (second.refines name goal answer);
}

abbrev pub conversions_beside : HostConversions → HostConversions → HostConversions
conversions_beside first second = record {
  names = first.names ++ second.names;
  converts = λ name term answer. FirstThatHas first.names name (first.converts name term answer) (second.converts name term answer);
}

-- a call that gives its results by `post` may answer so, where its argument and its result are read in this way
pub record MayAnswer {Alloc Given Asked Gives Answer : Type 0} (post : Alloc → Bor Given → Gives → Type 0) (reads : Given → Asked) (tells : Gives → Option Answer)
    (asked : Asked) (answer : Answer) : Type 0 where
  pub alloc : Alloc
  pub given : Bor Given
  pub gives : Gives
  pub asks : reads given.now ≡ asked
  pub may : post alloc given gives
  pub is : tells gives ≡ Some answer

-- an entry of this name may answer so
pub record IsAnswerOfOne {Entry : Type 0} (entries : List Entry) (name_of : Entry → List ℕ) (answers : Entry → Type 0) (name : List ℕ) : Type 0 where
  pub entry : Entry
  pub listed : Contains entries entry
  pub named : name_of entry ≡ name
  pub answered : answers entry

-- ---- storing

abbrev pub is_listed : List ℕ → List (List ℕ) → Bool
is_listed name names = list_any (bytes_eq name) names

-- one more function may be stored
abbrev pub has_room : ℕ → ℕ → Bool
has_room others count = nat_le (suc (others + count)) HOST_FUNCTIONS_LIMIT

-- a name is put behind its list, where so many names stand in other lists, or the first refusal that applies
abbrev pub stored_outcome : ℕ → List (List ℕ) → List ℕ → Result (List (List ℕ)) Fault
stored_outcome others names name =
    unless (is_identifier name) BadName
    (unless (not (is_listed name names)) NameTaken
    (unless (has_room others (length names)) TooLong
    (Ok (names ++ name ∷ []))))

-- what a call that answers nothing leaves
abbrev pub leaving : Result Unit Fault → List (List ℕ) → Result (List (List ℕ)) Fault
leaving (Ok done) names = Ok names
leaving (Err fault) names = Err fault

-- ---- looking up

-- the name stands at the place
abbrev pub IsPlace : List (List ℕ) → List ℕ → ℕ → Type 0
IsPlace names name place = (place < length names) × (slice_index_or names place name ≡ name)
