use Rattle.std.proofs.Common.{rules, ◌≡◌, refl}
use Rattle.hol_conv.proofs.Chaining.{chain-begun}
use Rattle.hol_conv.proofs.chain.begin.Goals as goal

pub returns-clause-begins : goal.returns-clause-begins
returns-clause-begins c library known =
    let current : c.in_ok-current.current ≡ c.args.t.now = search rules in
    chain-begun {library = library} {t = c.args.t.now} _ c.new.ensures.items current refl refl known
