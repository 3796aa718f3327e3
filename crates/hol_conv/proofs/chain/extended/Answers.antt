use Rattle.hol_conv.proofs.Chaining.{extends-by, begins-by, pushes-made, pushes-equation}
use Rattle.hol_conv.proofs.chain.extended.Goals as goal

pub returns-in-Changed-clause-extends : goal.returns-in-Changed-clause-extends
returns-in-Changed-clause-extends c =
    let theory = c.args.library.now.recorder.theory in
    extends-by theory c.args.chain c.in_ok-chain.chain c.in-Changed.made c.in-Changed.stands_here c.args.answer c.pushed.result c.in_ok-chain.ensures.settles c.in-Changed.is
    (c.pushed.ensures.extends theory)

pub returns-in-Changed-clause-begun : goal.returns-in-Changed-clause-begun
returns-in-Changed-clause-begun c = begins-by c.args.chain c.pushed.result c.pushed.ensures.begun

pub pushed-requires-clause-equation : goal.pushed-requires-clause-equation
pushed-requires-clause-equation c =
    pushes-equation c.args.chain c.in_ok-chain.chain c.in-Changed.made c.in-Changed.stands_here c.args.answer c.in_ok-chain.ensures.settles c.in-Changed.is c.requires.equation

pub pushed-requires-clause-made : goal.pushed-requires-clause-made
pushed-requires-clause-made c = pushes-made c.args.chain.current c.in-Changed.made c.in-Changed.stands_here c.args.answer c.in_ok-chain.ensures.continued c.in-Changed.is c.requires.answer
