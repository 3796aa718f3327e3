use Rattle.std.proofs.Common.{subst, Some, ◌≡◌, IfOk}
use Rattle.std.specs.Prelude.{slice_get}
use Rattle.hol_check_written.proofs.MemoLemmas.{kept-made}
use Rattle.hol_check_written.proofs.making.keep_made.Goals as goal

pub returns-in-Ok : goal.returns-in-Ok
returns-in-Ok c = λ wanted earlier now grown is.
    kept-made wanted c.args.is_apart c.args.line c.in-Ok.number earlier now c.args.made.now.entries c.keep.new.made.entries c.args.known.now.entries
    c.keep.new.known.entries c.keep.result
    (subst (λ r. IfOk r (λ number. slice_get now.terms number ≡ Some wanted)) c.in-Ok.is is) grown c.keep.ensures.same c.keep.ensures.refused c.keep.ensures.kept
