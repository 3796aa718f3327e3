use Rattle.std.specs.String.{string_bytes}
use Rattle.hol_syntax.specs.Scope.{scope_of}
use Rattle.hol_check_review.proofs.TextLemmas.{claim_text}
use Rattle.hol_check_review.proofs.texts.text_of_claim.Goals as goal

pub returns : goal.returns
returns c =
    claim_text string_bytes c.text_of_sequent.result (scope_of c.args.scope.now) c.args.claim.now.sequent c.in_ok-hyps.hyps.items c.as_slice.result.now c.concl.result c.in_ok-concl.concl
    c.as_slice.ensures.value c.concl.ensures c.in_ok-hyps.ensures c.in_ok-concl.ensures c.text_of_sequent.ensures.reads_back
