use Rattle.std.proofs.Common.{arith}
use Rattle.hol_script_commands.proofs.CommandLemmas.{digit-within}
use Rattle.hol_script_commands.proofs.goals.number_of.Goals as goal

pub overflow_mul-value : goal.overflow_mul-value
overflow_mul-value c =
    let next = digit-within c.args.digits.now c.loop-digit.digit-index c.loop-digit.value c.loop-digit.invariant (omega arith) in
    omega (arith, next, c.requires)

pub overflow_add-value : goal.overflow_add-value
overflow_add-value c =
    let next = digit-within c.args.digits.now c.loop-digit.digit-index c.loop-digit.value c.loop-digit.invariant (omega arith) in
    omega (arith, next, c.requires, c.from.ensures, c.saturating_sub.ensures)
