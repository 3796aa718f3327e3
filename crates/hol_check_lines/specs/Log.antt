-- What the state of a log stands for.
use Rattle.hol_model.specs.Logs.LogState.{LogState}
use Rattle.hol_check_rules.specs.State.{state_of, IsContents}
use Rattle.hol_check_lines.specs.declared.log.Log.TheInside.{Inside}

abbrev pub viewed_log : Inside → LogState
viewed_log log = state_of log.table log.contents

abbrev pub IsLog : Inside → Type 0
IsLog log = IsContents log.table log.contents
