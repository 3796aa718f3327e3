use Rattle.std.proofs.Common.{sym, ◌∙◌}
use Rattle.hol_model.specs.Terms.HolType.{bool_type}
use Rattle.hol_model.specs.Logic.Logic.{unary}
use Rattle.hol_model.proofs.Terms.HolTypeEq.{same_from_type_eq}
use Rattle.hol_journal_log.proofs.WriterLemmas.{function-is}
use Rattle.hol_journal_log.proofs.connectives.is_binary.Goals as goal

pub returns-then-is_bool : goal.returns-then-is_bool
returns-then-is_bool c = λ is.
    let a = c.in-Function.domain.now in
    let b = c.in-Function.codomain.now in
    function-is c.args.ty.now a b bool_type unary c.in-Function.ensures.value (same_from_type_eq a bool_type (sym c.is_bool.ensures ∙ c.if-is_bool.true)) (c.is_unary.ensures is)
