use Rattle.std.proofs.Common.{false, subst}
use Rattle.hol_model.specs.Terms.Nameless.{Nameless, image}
use Rattle.hol_taut.specs.Proved.{Proves}
use Rattle.hol_taut.proofs.ShownLemmas.{equation-joined, chain-joined, chain_back-joined, chained}
use Rattle.hol_taut.proofs.taken.with_second.Goals as goal

pub returns-in-Equation-clause-proves : goal.returns-in-Equation-clause-proves
returns-in-Equation-clause-proves c allowed room p q whole joins first second =
    let is = equation-joined c.args.way c.in-Equation.field-0 c.in-Equation.field-1 c.in-Equation.field-2 room p q whole c.in-Equation.is joins in
    c.by_equation.ensures.proves allowed q whole room (subst (λ (t : Nameless). Proves c.args.first.now.theorem allowed t) is first) second

pub returns-in-Chain-clause-proves : goal.returns-in-Chain-clause-proves
returns-in-Chain-clause-proves c allowed room p q whole joins first second =
    chained c.by_chain.result c.args.first.now.theorem c.args.second.now.theorem allowed room p q whole
    (chain-joined c.args.way c.in-Chain.field-0 c.in-Chain.field-1 room p q whole c.in-Chain.is joins) first second
    (λ l m r. c.by_chain.ensures.proves allowed l m r room)

pub returns-in-ChainFromRight-clause-proves : goal.returns-in-ChainFromRight-clause-proves
returns-in-ChainFromRight-clause-proves c allowed room p q whole joins first second =
    chained c.by_chain-in-ChainFromRight.result c.args.first.now.theorem c.args.second.now.theorem allowed room p q whole
    (chain_back-joined c.args.way c.in-ChainFromRight.field-0 room p q whole c.in-ChainFromRight.is joins) first second
    (λ l m r. c.by_chain-in-ChainFromRight.ensures.proves allowed l m r room)

pub by_equation-requires-clause-fits : goal.by_equation-requires-clause-fits
by_equation-requires-clause-fits c =
    let joined = c.requires.joins in
    record {
      right = joined.whole;
      first_is = equation-joined c.args.way c.in-Equation.field-0 c.in-Equation.field-1 c.in-Equation.field-2 false (image c.args.first.now.theorem.conclusion)
          (image c.args.second.now.theorem.conclusion) joined.whole c.in-Equation.is joined.joins;
    }

pub by_chain-requires-clause-fits : goal.by_chain-requires-clause-fits
by_chain-requires-clause-fits c =
    let joined = c.requires.joins in
    let chain = chain-joined c.args.way c.in-Chain.field-0 c.in-Chain.field-1 false (image c.args.first.now.theorem.conclusion) (image c.args.second.now.theorem.conclusion) joined.whole
    c.in-Chain.is joined.joins in
    record { left = chain.left; middle = chain.middle; right = chain.right; first_is = chain.first_is; second_is = chain.second_is }

pub by_chain-requires-in-ChainFromRight-clause-fits : goal.by_chain-requires-in-ChainFromRight-clause-fits
by_chain-requires-in-ChainFromRight-clause-fits c =
    let joined = c.requires.joins in
    let chain = chain_back-joined c.args.way c.in-ChainFromRight.field-0 false (image c.args.first.now.theorem.conclusion) (image c.args.second.now.theorem.conclusion) joined.whole
    c.in-ChainFromRight.is joined.joins in
    record { left = chain.left; middle = chain.middle; right = chain.right; first_is = chain.first_is; second_is = chain.second_is }
