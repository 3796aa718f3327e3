use Rattle.std.proofs.Common.{sym, subst, Bool, Result}
use Rattle.hol_model.specs.declared.fault.Fault.{Fault}
use Rattle.hol_model.specs.Kernel.Theorem.{Theorem}
use Rattle.hol_model.specs.Refining.Conversions.{Converts}
use Rattle.hol_theorem_library.specs.Library.{store_in}
use Rattle.hol_conv.specs.Makes.{StandsIf}
use Rattle.hol_conv.specs.Leaves.{stands_for}
use Rattle.hol_conv.proofs.converting.Level.leaf.Goals as goal

pub returns-clause-converts : goal.returns-clause-converts
returns-clause-converts g c depth =
    let library = c.args.library.now in
    subst
    (λ (answer : Result Theorem Fault).
    Converts library.recorder.theory (store_in library) (g.L.Leaves.hosts c.args.self.now.leaves.now) depth c.args.fuel.now.left
    (stands_for (g.L.Leaves.means c.args.self.now.leaves.now) c.args.conv.now) c.args.t.now answer
    c.try_leaf-made.new.fuel.left)
    (sym (c.as_answer.ensures.answered library.recorder.theory c.args.t.now)) (c.try_leaf-made.ensures.converts depth)

pub returns-clause-makes : goal.returns-clause-makes
returns-clause-makes g c =
    c.as_answer.ensures.made c.args.library.now c.try_leaf-made.new.library c.args.t.now c.try_leaf-made.ensures.makes
    (subst (λ (stands : Bool). StandsIf stands c.args.library.now.recorder.theory c.try_leaf-made.result) (sym c.is_made_anew.ensures) c.try_leaf-made.ensures.stands)
