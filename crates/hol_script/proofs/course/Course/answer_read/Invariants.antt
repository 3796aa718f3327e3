use Rattle.std.proofs.Common.{◌≡◌, ◌-◌, ℕ, List, Option, false, length}
use Rattle.hol_script_manager.specs.Session.{session_tools}
use Rattle.hol_script.specs.Courses.{IsWithin, IsUnderway}
use Rattle.hol_script.proofs.course.Course.answer_read.Given as goal

abbrev pub invariant-loop : goal.invariant-loop
invariant-loop g l = record {
  within : IsWithin l.fn.read l.self;
  unfailed : g.W.Sink.has_failed l.writer ≡ false;
  goes_on : (written : Option (List ℕ)) → IsUnderway (session_tools (g.H.Refiners.refiners l.fn.host) (g.H.Converters.conversions l.fn.host)) l.fn.read written
      (g.W.Sink.contents l.fn.writer) l.fn.self
      → IsUnderway (session_tools (g.H.Refiners.refiners l.fn.host) (g.H.Converters.conversions l.fn.host)) l.fn.read written (g.W.Sink.contents l.writer) l.self;
}

abbrev pub decreases-loop : goal.decreases-loop
decreases-loop g l = length l.fn.read - l.self.at
