use Rattle.hol_check_lines.proofs.TypeLineLemmas.{judged-function}
use Rattle.hol_check_lines.proofs.type_lines.judge_function_type.Goals as goal

pub returns : goal.returns
returns c =
    judged-function c.args.terms.now c.function_type-made.new.self c.args.contents.now c.args.domain c.args.codomain c.in-Some-Some.a c.in-Some-Some.b c.in_ok-number.number c.requires
    (c.in-Some-Some.ensures c.args.terms.now c.requires) (c.in-Some-Some.ensures' c.args.terms.now c.requires)
    c.in_ok-number.ensures.number c.in_ok-number.ensures.within_limit c.in_ok-number.ensures.grows
