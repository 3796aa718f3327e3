use Rattle.std.proofs.Common.{refl}
use Rattle.std.specs.String.{string_bytes}
use Rattle.hol_syntax.specs.Scope.{scope_of}
use Rattle.hol_check_review.proofs.TextLemmas.{type_text}
use Rattle.hol_check_review.proofs.texts.text_of_constant_type.Goals as goal

pub returns : goal.returns
returns c =
    type_text string_bytes c.text_of_type.result (scope_of c.args.scope.now) c.in_ok-ty.ty c.args.ty.now c.in_ok-ty.ensures (c.if-not-knows_type.ensures refl) c.text_of_type.ensures.reads_back
