use Rattle.std.proofs.Common.{[], ◌∷◌, ◌++◌, Err}
use Rattle.hol_model.specs.declared.fault.Cause.TheVariants.{Cut, Header}
use Rattle.hol_logtext.specs.Fields.{line_feed}
use Rattle.hol_logtext.specs.Lines.{version_of}
use Rattle.hol_check.proofs.LogAnswerLemmas.{begun, refused_first, cut_first, headless_first, line_within, passed_on, line_told, fault_told, refusal_told, memory_told}
use Rattle.hol_check.proofs.log_reader.begin.Goals as goal

pub returns-in_err-is_line-clause-refused : goal.returns-in_err-is_line-clause-refused
returns-in_err-is_line-clause-refused g c = λ input unread.
    rw (passed_on c.from_residual.result c.in_err-is_line.field-0.0 c.from_residual.ensures.1)
    (line_told c.in_err-is_line.field-0.0 input (g.R.Source.remaining c.next_line.new.reader) c.in_err-is_line.ensures.refusals
    (c.in_err-is_line.ensures.too_long input [] unread) (c.in_err-is_line.ensures.memory input [] unread))

pub returns-in_err-version-clause-refused : goal.returns-in_err-version-clause-refused
returns-in_err-version-clause-refused g c = λ input unread.
    rw (passed_on c.from_residual-in_err-version.result c.in_err-version.field-0.0 c.from_residual-in_err-version.ensures.1)
    (memory_told (Err c.in_err-version.field-0.0) input (g.R.Source.remaining c.next_line.new.reader) c.in_err-version.ensures.refused
    (line_within input (g.R.Source.remaining c.next_line.new.reader) [] c.next_line.new.line.items c.next_line.new.self c.in_ok-is_line.is_line
    (c.in_ok-is_line.ensures.read input [] unread) c.in_ok-is_line.ensures.room))

pub returns-then-not-is_line-clause-refused : goal.returns-then-not-is_line-clause-refused
returns-then-not-is_line-clause-refused g c = λ input unread. refusal_told input (g.R.Source.remaining c.next_line.new.reader) 1 Cut (record {
  text = [] ++ c.next_line.new.line.items;
  read = rw c.if-not-is_line.true at (c.in_ok-is_line.ensures.read input [] unread);
  refused = cut_first c.next_line.new.line.items (version_of c.in-Some.version) c.in_ok-is_line.ensures.one (rw (c.in-Some.is, c.as_slice.ensures.value) at c.in_ok-version.ensures.header);
})

pub returns-in-Some-clause-begun : goal.returns-in-Some-clause-begun
returns-in-Some-clause-begun g c = λ input unread.
    begun c.new.result input c.next_line.new.self (g.R.Source.remaining c.next_line.new.reader) c.next_line.new.line.items (version_of c.in-Some.version) c.new.ensures.log
    (rw c.if-not-is_line.false at (c.in_ok-is_line.ensures.read input [] unread)) c.in_ok-is_line.ensures.one (rw (c.in-Some.is, c.as_slice.ensures.value) at c.in_ok-version.ensures.header)

pub returns-in-Some-clause-refused : goal.returns-in-Some-clause-refused
returns-in-Some-clause-refused g c = λ input unread.
    memory_told c.new.result input (g.R.Source.remaining c.next_line.new.reader) c.new.ensures.refused
    (line_within input (g.R.Source.remaining c.next_line.new.reader) [] c.next_line.new.line.items c.next_line.new.self c.in_ok-is_line.is_line
    (c.in_ok-is_line.ensures.read input [] unread) c.in_ok-is_line.ensures.room)

pub returns-then-not-is_line-2-clause-refused : goal.returns-then-not-is_line-2-clause-refused
returns-then-not-is_line-2-clause-refused g c = λ input unread. refusal_told input (g.R.Source.remaining c.next_line.new.reader) 1 Header (record {
  text = [] ++ c.next_line.new.line.items;
  read = rw c.if-not-is_line-2.true at (c.in_ok-is_line.ensures.read input [] unread);
  refused = headless_first c.next_line.new.line.items c.in_ok-is_line.ensures.one (rw (c.in-None.is, c.as_slice.ensures.value) at c.in_ok-version.ensures.header);
})

pub returns-clause-refused : goal.returns-clause-refused
returns-clause-refused g c = λ input unread.
    let handed = ([] ++ c.next_line.new.line.items) ++ line_feed ∷ [] in
    let behind = rw c.if-not-is_line-2.false at (c.in_ok-is_line.ensures.read input [] unread) in
    fault_told c.refuse.result input (g.R.Source.remaining c.refuse.new.reader)
    (c.refuse.ensures.refused input handed behind
    (refused_first c.next_line.new.line.items c.in_ok-is_line.ensures.one (rw (c.in-None.is, c.as_slice.ensures.value) at c.in_ok-version.ensures.header)))
    (c.refuse.ensures.too_long input handed behind) (λ same. absurd (c.refuse.ensures.no_memory same))
