use Rattle.std.proofs.Common.{[], sym, subst}
use Rattle.std.specs.String.{string_bytes}
use Rattle.hol_model.specs.Texts.Printing.{term_tree}
use Rattle.hol_model.specs.Texts.Texts.{term_bytes, ReadsTerm}
use Rattle.hol_syntax.specs.Scope.{scope_of}
use Rattle.hol_syntax_print.proofs.Printed.{from_nothing}
use Rattle.hol_syntax_print.proofs.ReadableTerms.{known_readable}
use Rattle.hol_syntax_print.proofs.TextsReadBack.{terms_read_back}
use Rattle.hol_syntax_print.proofs.printer.text_of_term.Goals as goal

pub returns-clause-reads_back : goal.returns-clause-reads_back
returns-clause-reads_back c = λ known.
    subst (λ text. ReadsTerm (scope_of c.args.scope.now) text c.args.term.now)
    (sym (from_nothing (string_bytes c.new-out.result) (string_bytes c.print_whole.new.out) (term_bytes (term_tree (scope_of c.args.scope.now) [] c.args.term.now))
    c.new-out.ensures.bytes c.in_ok-print_whole.ensures.ok))
    (terms_read_back (scope_of c.args.scope.now) c.args.term.now
    (known_readable (scope_of c.args.scope.now) c.args.term.now c.well_formed-2.ensures.typed c.well_formed-2.ensures.within_limits known))
