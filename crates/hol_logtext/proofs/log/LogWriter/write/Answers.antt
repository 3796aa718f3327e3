use Rattle.std.proofs.Common.{sym, subst, ◌∙◌}
use Rattle.hol_logtext.specs.Lines.{line_of}
use Rattle.hol_logtext.proofs.WrittenLemmas.{IsNext, line_kept, line_lost}
use Rattle.hol_logtext.proofs.log.LogWriter.write.Goals as goal
use Rattle.hol_logtext.proofs.log.LogWriter.write.Goals.{then-not-self+in_ok-write_line, else-not-self}

pub invariant_of-self-2 : goal.invariant_of-self-2
invariant_of-self-2 c = elim c.if-not-self.branch [
  | then-not-self+in_ok-write_line w ↦ subst (IsNext (line_of c.args.line.now) c.with-self-inside.result) (sym w.self-inside-is)
      (line_kept c.self.inside _ _ w.write_line.new.out w.len.result c.self.invariant w.if-not-self.true w.in_ok-write_line.ensures.ok (w.len.ensures ∙ w.write_line.new.out.ok.0))
      c.with-self-inside.ensures
  | else-not-self w ↦ subst (IsNext (line_of c.args.line.now) c.with-self-inside.result) (sym w.self-inside-is)
      (line_lost c.self.inside _ _ c.self.invariant w.if-not-self.false) c.with-self-inside.ensures
]
