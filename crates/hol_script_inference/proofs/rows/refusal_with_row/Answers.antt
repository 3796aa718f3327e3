use Rattle.hol_syntax.specs.Scope.{scope_of}
use Rattle.hol_script_inference.proofs.RowLemmas.{no-row, tells-none, tells-memory, tells-row}
use Rattle.hol_script_inference.proofs.rows.refusal_with_row.Goals as goal

pub returns-in_default : goal.returns-in_default
returns-in_default c = tells-none (scope_of c.args.scope.now) c.args.term.now c.args.fault (no-row c.args.fault c.in_default.not-NotTautology)

pub returns-in-Ok : goal.returns-in-Ok
returns-in-Ok c =
    tells-row (scope_of c.args.scope.now) c.args.term.now c.args.fault c.in-NotTautology.atoms c.in-NotTautology.row c.in-Ok.text c.in-NotTautology.is c.in-Ok.ensures

pub returns-in-Err : goal.returns-in-Err
returns-in-Err c = tells-memory (scope_of c.args.scope.now) c.args.term.now c.args.fault
