use Rattle.std.proofs.Common.{[], subst}
use Rattle.std.specs.String.{string_bytes}
use Rattle.hol_model.specs.Texts.Printing.{term_tree}
use Rattle.hol_model.specs.Texts.Texts.{term_bytes}
use Rattle.hol_syntax_print.specs.Output.{Appends}
use Rattle.hol_syntax.specs.Scope.{scope_of}
use Rattle.hol_syntax_print.proofs.Printed.{on_ok, enclose_none}
use Rattle.hol_syntax_print.proofs.printer.print_whole.Goals as goal

pub returns : goal.returns
returns c = record {
  ok = on_ok c.print_term.result (c.print_term.ensures.ok [] c.requires.none)
      (subst (λ tree. Appends (string_bytes c.args.out.now) (string_bytes c.print_term.new.out) (term_bytes tree)) (enclose_none (term_tree (scope_of c.args.scope.now) [] c.args.term.now)));
  kept = c.print_term.ensures.kept [] c.requires.none;
}
