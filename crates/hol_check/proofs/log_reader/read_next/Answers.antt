use Rattle.std.proofs.Common.{◌++◌, ◌∷◌, [], Err, ◌∙◌}
use Rattle.hol_logtext.specs.Fields.{line_feed}
use Rattle.hol_check.proofs.LogAnswerLemmas.{leads_on, refused_on, ended_on, line_within, passed_on, line_told, fault_told, refusal_told, memory_told}
use Rattle.hol_check.proofs.log_reader.read_next.Goals as goal

pub returns-in_err-is_line-clause-refused : goal.returns-in_err-is_line-clause-refused
returns-in_err-is_line-clause-refused g c = λ input underway.
    rw (passed_on c.from_residual.result c.in_err-is_line.field-0.0 c.from_residual.ensures.1)
    (line_told c.in_err-is_line.field-0.0 input (g.R.Source.remaining c.next_line.new.reader) c.in_err-is_line.ensures.refusals
    (c.in_err-is_line.ensures.too_long input underway.handed underway.behind) (c.in_err-is_line.ensures.memory input underway.handed underway.behind))

pub returns-in_err-go_on-clause-refused : goal.returns-in_err-go_on-clause-refused
returns-in_err-go_on-clause-refused g c = λ input underway.
    rw (passed_on c.from_residual-in_err-go_on.result c.in_err-go_on.field-0.0 c.from_residual-in_err-go_on.ensures.1)
    (memory_told (Err c.in_err-go_on.field-0.0) input (g.R.Source.remaining c.next_line.new.reader) c.in_err-go_on.ensures.refused
    (line_within input (g.R.Source.remaining c.next_line.new.reader) underway.handed c.next_line.new.line.items c.next_line.new.self c.in_ok-is_line.is_line
    (c.in_ok-is_line.ensures.read input underway.handed underway.behind) c.in_ok-is_line.ensures.room))

pub returns-in-Ok-clause-judged : goal.returns-in-Ok-clause-judged
returns-in-Ok-clause-judged g c = λ input underway. record {
  handed = (underway.handed ++ c.next_line.new.line.items) ++ line_feed ∷ [];
  behind = rw c.if-is_line.true at (c.in_ok-is_line.ensures.read input underway.handed underway.behind);
  leads = leads_on underway.handed c.next_line.new.line.items c.args.number c.args.log.now c.go_on.new.log underway.leads c.in_ok-is_line.ensures.one
      (rw (c.in-Ok.is, c.as_slice.ensures.value) at c.in_ok-go_on.ensures.taken);
}

pub returns-in-Err-clause-refused : goal.returns-in-Err-clause-refused
returns-in-Err-clause-refused g c = λ input underway.
    let handed = (underway.handed ++ c.next_line.new.line.items) ++ line_feed ∷ [] in
    let behind = rw c.if-is_line.true at (c.in_ok-is_line.ensures.read input underway.handed underway.behind) in
    fault_told c.refuse.result input (g.R.Source.remaining c.refuse.new.reader)
    (c.refuse.ensures.refused input handed behind
    (refused_on underway.handed c.next_line.new.line.items c.args.number c.args.log.now c.go_on.new.log c.in-Err.cause underway.leads c.in_ok-is_line.ensures.one
    (rw (c.in-Err.is, c.as_slice.ensures.value) at c.in_ok-go_on.ensures.taken)))
    (c.refuse.ensures.too_long input handed behind) (λ same. absurd (c.refuse.ensures.no_memory same))

pub returns-in-Err-end-clause-refused : goal.returns-in-Err-end-clause-refused
returns-in-Err-end-clause-refused g c = λ input underway. refusal_told input (g.R.Source.remaining c.next_line.new.reader) c.args.number c.in-Err-end.cause (record {
  text = underway.handed ++ c.next_line.new.line.items;
  read = rw c.if-is_line.false at (c.in_ok-is_line.ensures.read input underway.handed underway.behind);
  refused = ended_on underway.handed c.next_line.new.line.items c.args.number c.args.log.now underway.leads c.in_ok-is_line.ensures.one ∙
      (rw c.as_slice-else-is_line.ensures.value at c.in-Err-end.ensures);
})
