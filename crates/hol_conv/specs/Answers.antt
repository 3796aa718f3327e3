-- What is asked before a conversion is tried on a term, and what it answers.
use Rattle.std.specs.Prelude.{◌≡◌, ℕ, true, Result}
use Rattle.hol_model.specs.declared.fault.Fault.{Fault}
use Rattle.hol_model.specs.Terms.NamedTerm.{NamedTerm}
use Rattle.hol_model.specs.Logic.KnownTerm.{is_known}
use Rattle.hol_model.specs.Refining.HostFunctions.{HostConversions}
use Rattle.hol_model.specs.Refining.Conversions.{Conversion, try_conv, changed_conv, sub_conv, thenc, one_more, top_depth_conv, Converts}
use Rattle.hol_laws_refiners.proofs.Repeating.{IsFinal, JoinedSoFar}
use Rattle.hol_journal.specs.Journal.{Recorded, theorem_in}
use Rattle.hol_theorem_library.specs.Library.{IsLibrary, store_in}
use Rattle.hol_theorem_library.specs.declared.library.Library.{Library}
use Rattle.hol_conv.specs.declared.converted.Converted.{Converted}
use Rattle.hol_conv.specs.Converted.{answered}
use Rattle.hol_conv.specs.Chains.{proved_by}
use Rattle.hol_conv.specs.declared.chain.Chain.{Chain}

-- a term that the library's theory knows, and leaves that are ready for the library
pub record IsAsked (IsReady : Library → Type 0) (library : Library) (t : NamedTerm) : Type 0 where
  pub is_library : IsLibrary library
  pub ready : IsReady library
  pub known : is_known library.recorder.theory t ≡ true

-- over the library's theory and what is stored, the conversion may answer this
abbrev pub ConvertsOver : Library → HostConversions → ℕ → ℕ → Conversion → NamedTerm → Result Recorded Fault → ℕ → Type 0
ConvertsOver library hosts depth steps conversion t result left =
    Converts library.recorder.theory (store_in library) hosts depth steps conversion t (theorem_in result) left

-- the same of an answer that may be that nothing changes
abbrev pub AnswersOver : Library → HostConversions → ℕ → ℕ → Conversion → NamedTerm → Result Converted Fault → ℕ → Type 0
AnswersOver library hosts depth steps conversion t result left =
    Converts library.recorder.theory (store_in library) hosts depth steps conversion t (answered library.recorder.theory t result) left

-- what the rest of a conversion answers behind a chain from the term: where that rest decides what the whole answers, the whole may answer this
abbrev pub AnswersBehind : Library → HostConversions → ℕ → Conversion → NamedTerm → Conversion → Chain → ℕ → Result Converted Fault → ℕ → Type 0
AnswersBehind library hosts depth whole t rest chain steps result left =
    (first : ℕ) → JoinedSoFar library.recorder.theory (store_in library) hosts depth first whole t steps rest (proved_by library.recorder.theory chain) chain.current
    → AnswersOver library hosts depth first whole t result left × IsFinal (answered library.recorder.theory t result)

-- what TOP_DEPTH_CONV goes on with where something has changed below
abbrev pub top_depth_again : Conversion → Conversion
top_depth_again c = try_conv (thenc c (one_more (top_depth_conv c)))

-- what it goes on with behind REPEATC
abbrev pub rest_of_top_depth : Conversion → Conversion
rest_of_top_depth c = try_conv (thenc (changed_conv (sub_conv (top_depth_conv c))) (one_more (top_depth_again c)))
