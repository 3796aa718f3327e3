use Rattle.std.proofs.Common.{◌+◌, ◌*◌}
use Rattle.hol_tactics_rules.proofs.stripping.Stripping.«+assuming».Given as goal

abbrev pub decreases-assume_next : goal.decreases-assume_next
decreases-assume_next l = 2 * l.depth

abbrev pub decreases-assume_both : goal.decreases-assume_both
decreases-assume_both l = 2 * l.depth + 1

abbrev pub decreases-assume_either : goal.decreases-assume_either
decreases-assume_either l = 2 * l.depth + 1

abbrev pub decreases-assume_witness : goal.decreases-assume_witness
decreases-assume_witness l = 2 * l.depth + 1
