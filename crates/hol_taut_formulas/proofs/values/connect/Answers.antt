use Rattle.hol_taut_formulas.proofs.Bits.{is_set_and, is_set_or, is_set_implies, is_set_iff}
use Rattle.hol_taut_formulas.proofs.values.connect.Goals as goal

pub returns-in-And : goal.returns-in-And
returns-in-And c = λ row within. rw c.in-And.is (is_set_and c.args.left c.args.right row)

pub returns-in-Or : goal.returns-in-Or
returns-in-Or c = λ row within. rw c.in-Or.is (is_set_or c.args.left c.args.right row)

pub returns-in-Implies : goal.returns-in-Implies
returns-in-Implies c = λ row within. rw c.in-Implies.is (is_set_implies c.args.left c.args.right row c.ranges.left.fits within)

pub returns-in-Iff : goal.returns-in-Iff
returns-in-Iff c = λ row within. rw c.in-Iff.is (is_set_iff c.args.left c.args.right row c.ranges.left.fits c.ranges.right.fits within)
