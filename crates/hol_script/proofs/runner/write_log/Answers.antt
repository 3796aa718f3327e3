use Rattle.hol_script.proofs.DeviceLemmas.{failure-told}
use Rattle.hol_script.proofs.RunLogLemmas.{write_fault-listed}
use Rattle.hol_script.proofs.runner.write_log.Goals as goal

pub returns-clause-refusals : goal.returns-clause-refusals
returns-clause-refusals g c = write_fault-listed c.write_all.result c.write_all.ensures.kinds

pub returns-clause-told : goal.returns-clause-told
returns-clause-told g c = failure-told c.write_all.result c.write_all.ensures.unfailed c.write_all.ensures.kinds
