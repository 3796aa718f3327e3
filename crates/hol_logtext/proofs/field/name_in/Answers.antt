use Rattle.std.proofs.Common.{rules}
use Rattle.hol_logtext.proofs.FieldLemmas.{name-utf8}
use Rattle.hol_logtext.proofs.field.name_in.Goals as goal

pub returns-in-Err : goal.returns-in-Err
returns-in-Err c = absurd (c.in-Err.ensures.cases.0 (name-utf8 c.args.field.now (search rules)))
