use Rattle.std.proofs.Common.{sym, subst, arith}
use Rattle.std.specs.String.{string_bytes}
use Rattle.hol_model.specs.Texts.Printing.{type_tree}
use Rattle.hol_model.specs.Texts.Texts.{type_bytes, ReadsType}
use Rattle.hol_syntax_print.proofs.Printed.{from_nothing}
use Rattle.hol_syntax_print.proofs.ReadableTerms.{named_readable}
use Rattle.hol_syntax_print.proofs.TextsReadBack.{types_read_back}
use Rattle.hol_syntax_print.proofs.printer.text_of_type.Goals as goal

pub returns-clause-reads_back : goal.returns-clause-reads_back
returns-clause-reads_back c = λ scope named.
    subst (λ text. ReadsType scope text c.args.ty.now)
    (sym (from_nothing (string_bytes c.new-out.result) (string_bytes c.print_type.new.out) (type_bytes (type_tree c.args.ty.now)) c.new-out.ensures.bytes c.in_ok-print_type.ensures.ok))
    (types_read_back scope c.args.ty.now (named_readable scope c.args.ty.now (omega (arith, c.nodes-within_limit.ensures.count, c.nodes-within_limit.ensures.limit)) named))
