use Rattle.std.proofs.Common.{◌≡◌, ◌≤◌, ◌-◌, false, drop, length}
use Rattle.std.specs.Io.KnownBytes.{Consumes}
use Rattle.hol_model_sessions.specs.Script.{has_mark}
use Rattle.hol_script_manager.specs.Session.{session_tools}
use Rattle.hol_script.specs.Courses.{IsWithin, IsUnderway}
use Rattle.hol_script.proofs.conversation.answer_source.Given as goal

abbrev pub invariant-pulls : goal.invariant-pulls
invariant-pulls g l = record {
  underway : IsUnderway (session_tools (g.H.Refiners.refiners l.fn.host) (g.H.Converters.conversions l.fn.host)) l.read.items (g.W.Sink.contents l.fn.writer) (g.W.Sink.contents l.writer) l.course;
  within : IsWithin l.read.items l.course;
  waits : has_mark (drop l.course.at l.read.items) ≡ false;
  consumed : Consumes (g.R.Source.remaining l.fn.reader) (g.R.Source.remaining l.reader) l.read.items;
  reader_unfailed : g.R.Source.has_failed l.reader ≡ false;
  writer_unfailed : g.W.Sink.has_failed l.writer ≡ false;
  within_limit : length l.read.items ≤ 16777216;
}

abbrev pub decreases-pulls : goal.decreases-pulls
decreases-pulls g l = 16777217 - length l.read.items
