use Rattle.std.proofs.Common.{rules, ◌≡◌, refl, sym, subst, true}
use Rattle.hol_model.specs.Terms.NamedTerm.{NamedTerm}
use Rattle.hol_model.specs.Logic.KnownTerm.{is_known}
use Rattle.hol_conv.specs.Makes.{IsRightSide}
use Rattle.hol_conv.proofs.Leading.{is-equation-of, equates-on}
use Rattle.hol_conv.proofs.Chaining.{chain-pushed}
use Rattle.hol_conv.proofs.chain.pushed.Goals as goal

pub right_side-requires-clause-equation : goal.right_side-requires-clause-equation
right_side-requires-clause-equation c = is-equation-of c.requires.equation

pub returns-in-Ok-clause-chain : goal.returns-in-Ok-clause-chain
returns-in-Ok-clause-chain c =
    let theory = c.args.library.now.recorder.theory in
    let current : c.in_ok-current.current ≡ c.right_side.result.now = search rules in
    let side = subst (λ (right : NamedTerm). IsRightSide c.args.made.theorem right) (sym current) c.right_side.ensures.right in
    let known = subst (λ (right : NamedTerm). is_known theory right ≡ true) (sym current) c.right_side.ensures.known in
    chain-pushed c.args.chain _ c.args.made c.requires.chain c.requires.made.is_made c.in-Ok.ensures.items (equates-on c.requires.equation side) known refl
    (λ said. (c.requires.made.stands said, side))

pub right_side-requires-clause-made : goal.right_side-requires-clause-made
right_side-requires-clause-made c = c.requires.made.is_made
