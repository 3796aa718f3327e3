use Rattle.std.proofs.Common.{rules, ◌≡◌, ◌∙◌, [], ◌++◌, string_bytes}
use Rattle.std.specs.Prelude.{codes}
use Rattle.hol_model.specs.Propositional.Propositions.{atoms_of}
use Rattle.hol_model_sessions.specs.ScriptSessions.{values_of}
use Rattle.hol_syntax.specs.Scope.{scope_of}
use Rattle.hol_script_inference.specs.Rows.{values_behind}
use Rattle.hol_script_inference.proofs.RowLemmas.{row_behind}
use Rattle.hol_script_inference.proofs.rows.row_text.Goals as goal

pub returns : goal.returns
returns c =
    let scope = scope_of c.args.scope.now in
    let empty : string_bytes c.new-text.result ≡ [] = search rules in
    let same : values_of c.deref.result.now c.args.row.now ≡ values_of (atoms_of c.args.term.now) c.args.row.now = search rules in
    let written : string_bytes c.push_values.new.out ≡ string_bytes c.new-text.result ++ values_behind scope (codes " ") (values_of c.deref.result.now c.args.row.now) =
    c.in_ok-push_values.ensures.ok in
    written ∙ rw (empty, same) (row_behind scope (values_of (atoms_of c.args.term.now) c.args.row.now))
