-- What holds of a library after calls that make theorems.
use Rattle.std.proofs.Common.{◌≡◌, [], refl, sym, ◌∙◌, Result, Ok, Err, IfOk, append-nil}
use Rattle.hol_model.specs.declared.fault.Fault.{Fault}
use Rattle.hol_model.proofs.Logic.Earlier.{earlier-same}
use Rattle.hol_journal.specs.Journal.{Journal, Recorded, IsMade}
use Rattle.hol_journal.specs.Growth.{IsGrown, Continues, IsHeld}
use Rattle.hol_journal.proofs.GrowthLemmas.{journals-grow}
use Rattle.hol_theorem_library.specs.Library.{IsLibrary, IsContinued}
use Rattle.hol_theorem_library.specs.declared.library.Library.{Library}
use Rattle.hol_theorem_library.proofs.Continuing.{libraries-continue}
use Rattle.hol_conv.specs.Makes.{Makes}

held-made : (journal : Journal) (result : Result Recorded Fault) → IfOk result (IsHeld journal) → IfOk result (IsMade journal)
held-made journal (Ok made) held = held.made
held-made journal (Err fault) held = tt

-- a library with another state of its recorder
abbrev pub with_recorder : Library → Journal → Library
with_recorder library recorder = record library { recorder = recorder }

-- after calls of the recorder alone
pub makes : (library : Library) (recorder : Journal) (result : Result Recorded Fault) → IsLibrary library → IsGrown library.recorder recorder → recorder.theory ≡ library.recorder.theory
    → IfOk result (IsMade recorder) → Makes library (with_recorder library recorder) result
makes library recorder result is grown theory made =
    let new : Library = with_recorder library recorder in
    let continued : IsContinued library new = record { grown = grown; theory = theory; logic = refl; laws = refl; stored = refl } in
    record { library = libraries-continue library new continued is; continued = continued; made = made }

pub continued-makes : (library : Library) (recorder : Journal) (result : Result Recorded Fault) → IsLibrary library → Continues library.recorder recorder result
    → Makes library (with_recorder library recorder) result
continued-makes library recorder result is continues = makes library recorder result is continues.grown continues.theory (held-made recorder result continues.held)

-- after no call
pub makes_nothing : (library : Library) (fault : Fault) → IsLibrary library → Makes library library (Err fault)
makes_nothing library fault is = record {
  library = is;
  continued = record {
    grown = record { added = []; entries = sym (append-nil library.recorder.entries); earlier = earlier-same library.recorder.theory library.recorder.theory refl };
    theory = refl;
    logic = refl;
    laws = refl;
    stored = refl;
  };
  made = tt;
}

-- after two calls
pub makes_then : (first second third : Library) (one two : Result Recorded Fault) → Makes first second one → Makes second third two → Makes first third two
makes_then first second third one two before after = record {
  library = after.library;
  continued = record {
    grown = journals-grow.twice first.recorder second.recorder third.recorder before.continued.grown after.continued.grown;
    theory = after.continued.theory ∙ before.continued.theory;
    logic = after.continued.logic ∙ before.continued.logic;
    laws = after.continued.laws ∙ before.continued.laws;
    stored = after.continued.stored ∙ before.continued.stored;
  };
  made = after.made;
}

-- what was made stays so
pub still_made : (old new : Library) (result : Result Recorded Fault) (made : Recorded) → Makes old new result → IsMade old.recorder made → IsMade new.recorder made
still_made old new result made makes is = journals-grow.stays old.recorder new.recorder made makes.continued.grown is
