use Rattle.std.proofs.Common.{rules}
use Rattle.hol_alpha.specs.Frames.{left_binders, right_binders}
use Rattle.hol_alpha.proofs.SameBinders.{one_more}
use Rattle.hol_alpha.proofs.compare.+cmp_under.Goals as goal

-- src/compare.rt:63:21
pub cmp_under-requires-then-eq : goal.cmp_under-requires-then-eq
cmp_under-requires-then-eq t c = (
  search rules,
  λ _. one_more (left_binders c.args.frames.now) (right_binders c.args.frames.now)
      c.in-Abstraction-Abstraction.name.now c.in-Abstraction-Abstraction.other.now c.in-Abstraction-Abstraction.ty.now c.in-Abstraction-Abstraction.s.now
      (c.requires (search rules)) (search rules) (search rules),
)
