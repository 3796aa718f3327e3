use Rattle.hol_check_review.proofs.WrittenLemmas.{review_written}
use Rattle.hol_syntax.specs.Scope.{scope_of}
use Rattle.hol_check_review.proofs.review.write_review.Goals as goal

pub returns-clause-ok : goal.returns-clause-ok
returns-clause-ok g c =
    review_written c.args.entries.now c.args.claims.now (scope_of c.in_ok-scope.scope)
    (g.W.Sink.contents c.args.writer.now) (g.W.Sink.contents c.write_all.new.writer) (g.W.Sink.contents c.write_entries.new.writer) (g.W.Sink.contents c.write_all-2.new.writer)
    (g.W.Sink.contents c.write_claims.new.writer) (g.W.Sink.contents c.write_all-3.new.writer) (g.W.Sink.contents c.write_claims-2.new.writer)
    c.as_slice.result.now c.as_slice-2.result.now c.as_slice-3.result.now
    c.in_ok-scope.ensures c.as_slice.ensures c.in_ok-write_all.ensures.ok c.in_ok-write_entries.ensures.ok
    c.as_slice-2.ensures c.in_ok-write_all-2.ensures.ok c.in_ok-write_claims.ensures.ok
    c.as_slice-3.ensures c.in_ok-write_all-3.ensures.ok c.in_ok-write_claims-2.ensures.ok
