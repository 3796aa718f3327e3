use Rattle.std.proofs.Common.{◌≡◌, ◌++◌, length}
use Rattle.hol_logtext.specs.Fields.{split_fields}
use Rattle.hol_logtext.specs.Lines.{fields_in}
use Rattle.hol_logtext.proofs.field.split_fields.Given as goal

abbrev pub invariant-loop-field : goal.invariant-loop-field
invariant-loop-field l = fields_in l.fields.items ++ split_fields l.rest ≡ split_fields l.fn.text

abbrev pub decreases-loop-field : goal.decreases-loop-field
decreases-loop-field l = length l.rest
