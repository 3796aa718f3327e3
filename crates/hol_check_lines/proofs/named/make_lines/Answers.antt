use Rattle.hol_check_rules.specs.Judged.{IsMadeLine}
use Rattle.hol_check_lines.proofs.NamedLemmas.{Makes_trans, so-far-more, so-far-done, line-stays}
use Rattle.hol_check_lines.proofs.named.make_lines.Goals as goal

pub loop-line-preserved : goal.loop-line-preserved
loop-line-preserved c =
    so-far-more (λ contents. IsMadeLine contents) line-stays c.args.lines.now c.loop-line.line-index c.args.terms.now c.loop-line.terms c.make_line.new.terms c.args.contents.now
    c.loop-line.contents c.make_line.new.contents _
    c.loop-line.invariant c.make_line.ensures.makes c.in_ok-make_line.ensures.made

pub returns-in_err-make_line-clause-makes : goal.returns-in_err-make_line-clause-makes
returns-in_err-make_line-clause-makes c = Makes_trans c.args.terms.now c.loop-line.terms c.make_line.new.terms c.args.contents.now c.loop-line.contents c.make_line.new.contents
    c.loop-line.invariant.makes c.make_line.ensures.makes

pub returns-clause-made : goal.returns-clause-made
returns-clause-made c = so-far-done (λ contents. IsMadeLine contents) c.args.lines.now c.loop-line.line-index c.args.terms.now c.loop-line.terms c.args.contents.now c.loop-line.contents
    c.loop-line.invariant c.loop-line-test.false
