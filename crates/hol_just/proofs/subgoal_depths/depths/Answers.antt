use Rattle.std.proofs.Common.{rules, arith, ◌≡◌, ◌++◌, ◌∷◌, [], ◌∙◌}
use Rattle.hol_just.specs.Lines.{flat_line}
use Rattle.hol_just.proofs.SubgoalDepths.{depths-next, line-within}
use Rattle.hol_just.proofs.subgoal_depths.depths.Goals as goal

pub loop-line-preserved : goal.loop-line-preserved
loop-line-preserved c =
    let found = rw c.deref.ensures.value at c.depth_of_line-depth.ensures in
    let more : c.push.new.self.items ≡ c.loop-line.depths.items ++ c.depth_of_line-depth.result ∷ [] = search rules in (
      depths-next c.args.number c.loop-line.depths.items c.push.new.self.items c.args.lines.now c.loop-line.line-index c.line-item.result c.depth_of_line-depth.result (omega arith)
          c.line-item.is more found
          ∙ c.loop-line.invariant.0,
      line-within c.args.number c.loop-line.depths.items c.push.new.self.items (flat_line c.line-item.result) c.depth_of_line-depth.result more found c.loop-line.invariant.1,
    )
