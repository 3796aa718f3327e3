use Rattle.std.proofs.Common.{rules, ◌≡◌, true, refl}
use Rattle.hol_conv.proofs.Leading.{refl-equates}
use Rattle.hol_conv.proofs.Chaining.{chain-behind, known-there, settles-made}
use Rattle.hol_conv.proofs.chain.settled.Goals as goal

pub returns-in-Ok-clause-chain : goal.returns-in-Ok-clause-chain
returns-in-Ok-clause-chain c =
    let makes = c.in_ok-same.ensures.makes in
    chain-behind c.args.chain _ c.in_ok-same.same makes.continued c.requires.chain makes.made c.in-Ok.ensures.items (refl-equates c.args.library.now.recorder.theory c.args.chain.current c.in_ok-same.ensures.joins)
    (known-there c.args.chain.current makes.continued c.requires.chain.known) refl refl

pub returns-in-Ok-clause-settles : goal.returns-in-Ok-clause-settles
returns-in-Ok-clause-settles c =
    let same : c.args.chain.is_same ≡ true = search rules in
    settles-made c.args.library.now.recorder.theory c.args.chain _ c.in_ok-same.same same c.requires.chain.known (c.requires.chain.roomy same) c.in_ok-same.ensures.joins c.in-Ok.ensures.items refl refl
