use Rattle.hol_check_lines.specs.Named.{IsMadePair}
use Rattle.hol_check_lines.proofs.NamedLemmas.{Makes_trans, made_both, pair-stays, so-far-more, so-far-done}
use Rattle.hol_check_lines.proofs.named.make_pairs.Goals as goal

pub loop-pair-preserved : goal.loop-pair-preserved
loop-pair-preserved c =
    let first = c.make_line.ensures.makes in
    let second = c.make_line-in-loop-pair.ensures.makes in
    so-far-more (λ contents. IsMadePair contents) pair-stays c.args.pairs.now c.loop-pair.pair-index c.args.terms.now c.loop-pair.terms c.make_line-in-loop-pair.new.terms c.args.contents.now
    c.loop-pair.contents c.make_line-in-loop-pair.new.contents _
    c.loop-pair.invariant (Makes_trans c.loop-pair.terms c.make_line.new.terms c.make_line-in-loop-pair.new.terms c.loop-pair.contents c.make_line.new.contents c.make_line-in-loop-pair.new.contents first second)
    (made_both c.make_line.new.terms c.make_line-in-loop-pair.new.terms c.make_line.new.contents c.make_line-in-loop-pair.new.contents _ second c.in_ok-make_line.ensures.made c.in_ok-make_line-2.ensures.made)

pub returns-in_err-make_line-clause-makes : goal.returns-in_err-make_line-clause-makes
returns-in_err-make_line-clause-makes c = Makes_trans c.args.terms.now c.loop-pair.terms c.make_line.new.terms c.args.contents.now c.loop-pair.contents c.make_line.new.contents
    c.loop-pair.invariant.makes c.make_line.ensures.makes

pub returns-in_err-make_line-2-clause-makes : goal.returns-in_err-make_line-2-clause-makes
returns-in_err-make_line-2-clause-makes c =
    Makes_trans c.args.terms.now c.make_line.new.terms c.make_line-in-loop-pair.new.terms c.args.contents.now c.make_line.new.contents c.make_line-in-loop-pair.new.contents
    (Makes_trans c.args.terms.now c.loop-pair.terms c.make_line.new.terms c.args.contents.now c.loop-pair.contents c.make_line.new.contents c.loop-pair.invariant.makes c.make_line.ensures.makes)
    c.make_line-in-loop-pair.ensures.makes

pub returns-clause-made : goal.returns-clause-made
returns-clause-made c = so-far-done (λ contents. IsMadePair contents) c.args.pairs.now c.loop-pair.pair-index c.args.terms.now c.loop-pair.terms c.args.contents.now c.loop-pair.contents
    c.loop-pair.invariant c.loop-pair-test.false
