use Rattle.std.specs.Prelude.{◌+◌, ◌*◌}
use Rattle.hol_terms.specs.Term.{weight}
use Rattle.hol_syntax_print.specs.Shape.{weight_of_parts}
use Rattle.hol_syntax_print.proofs.printer.«+print_term».Given as goal

abbrev pub decreases-print_term : goal.decreases-print_term
decreases-print_term l = 5 * weight l.term.now + 4

abbrev pub decreases-print_short : goal.decreases-print_short
decreases-print_short l = 5 * weight l.part.now + 3

abbrev pub decreases-print_enclosed : goal.decreases-print_enclosed
decreases-print_enclosed l = 5 * weight l.whole.now + 2

abbrev pub decreases-print_shape : goal.decreases-print_shape
decreases-print_shape l = 5 * weight_of_parts l.shape + 6

abbrev pub decreases-print_application : goal.decreases-print_application
decreases-print_application l = 5 * (weight l.function.now + weight l.argument.now) + 5

abbrev pub decreases-print_negation : goal.decreases-print_negation
decreases-print_negation l = 5 * weight l.operand.now + 5

abbrev pub decreases-print_infix : goal.decreases-print_infix
decreases-print_infix l = 5 * (weight l.left.now + weight l.right.now) + 5

abbrev pub decreases-print_binding : goal.decreases-print_binding
decreases-print_binding l = 5 * weight l.body.now + 5
