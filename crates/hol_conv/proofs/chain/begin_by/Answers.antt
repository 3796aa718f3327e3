use Rattle.hol_conv.proofs.Chaining.{begun-answer, begun-equation, begun-chain, begun-extends}
use Rattle.hol_conv.proofs.chain.begin_by.Goals as goal

pub extended-requires-clause-answer : goal.extended-requires-clause-answer
extended-requires-clause-answer c = begun-answer c.args.library.now c.in_ok-chain.chain c.args.answer c.in_ok-chain.ensures.current c.requires.answer

pub extended-requires-clause-equation : goal.extended-requires-clause-equation
extended-requires-clause-equation c = begun-equation c.args.library.now.recorder.theory c.in_ok-chain.chain c.args.answer c.in_ok-chain.ensures.current c.requires.equation

pub returns-clause-chain : goal.returns-clause-chain
returns-clause-chain c =
    begun-chain c.extended.new.library c.in_ok-chain.chain c.extended.result (c.in_ok-chain.ensures.begins c.args.library.now c.requires.known) c.extended.ensures.chain c.extended.ensures.begun

pub returns-clause-extends : goal.returns-clause-extends
returns-clause-extends c =
    begun-extends c.args.library.now.recorder.theory c.in_ok-chain.chain c.args.answer c.extended.result (c.in_ok-chain.ensures.theorems c.args.library.now.recorder.theory) c.in_ok-chain.ensures.current c.extended.ensures.extends
