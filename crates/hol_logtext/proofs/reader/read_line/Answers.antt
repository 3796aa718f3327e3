use Rattle.std.proofs.Common.{ap, ◌∙◌}
use Rattle.hol_logtext.specs.Lines.{fields_in}
use Rattle.hol_logtext.proofs.LineLemmas.{exact_where_read}
use Rattle.hol_logtext.proofs.reader.read_line.Goals as goal

pub returns-clause-exact : goal.returns-clause-exact
returns-clause-exact c =
    exact_where_read c.read_fields.result c.args.text.now (fields_in c.deref.result.now) (ap fields_in c.deref.ensures.value ∙ c.in_ok-fields.ensures) c.read_fields.ensures
