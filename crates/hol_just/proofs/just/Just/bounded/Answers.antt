use Rattle.std.proofs.Common.{rules, ◌≡◌}
use Rattle.hol_just.specs.Lines.{flat_lines}
use Rattle.hol_just.proofs.Bounds.{cited_bounded, numbers_bounded}
use Rattle.hol_just.proofs.just.Just.bounded.Goals as goal

pub invariant_of-new : goal.invariant_of-new
invariant_of-new c =
    let same : c.deref-4.result.now ≡ c.deref-5.result.now.lines.items = search rules in
    let made = rw same at c.in_ok-lines.ensures.ok in
    record {
      well_cited = cited_bounded c.args.count c.deref-5.result.now.root (flat_lines c.deref-5.result.now.lines.items) (flat_lines c.in_ok-lines.lines.items) made
          c.deref-5.result.now.well_cited;
    }

pub returns-clause-numbers : goal.returns-clause-numbers
returns-clause-numbers c =
    let value : c.in_ok-new.field-0.value.lines.items ≡ c.in_ok-lines.lines.items = search rules in
    rw value (numbers_bounded c.args.count (flat_lines c.deref-4.result.now) (flat_lines c.in_ok-lines.lines.items) c.in_ok-lines.ensures.ok)
