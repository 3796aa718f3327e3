use Rattle.std.proofs.Common.{◌≡◌, false}
use Rattle.hol_script.specs.Managers.{IsManager}
use Rattle.hol_explain.proofs.walk.explain_pieces.Given as goal

abbrev pub invariant-loop : goal.invariant-loop
invariant-loop g l = record {
  manager : IsManager l.manager;
  unfailed : g.W.Sink.has_failed l.writer ≡ false;
}
