use Rattle.std.proofs.Common.{List, map, ◌↔◌, IsTrue, subst}
use Rattle.hol_model.specs.Logic.Derivable.{IsMember}
use Rattle.hol_model_evaluator.specs.Trees.{entry_of}
use Rattle.hol_model_evaluator.specs.declared.tree.EntryTree.{EntryTree}
use Rattle.hol_check_review.proofs.UsualLemmas.{among-Decides}
use Rattle.hol_check_review.proofs.usual.is_usual.Goals as goal

pub returns : goal.returns
returns c =
    subst (λ (trees : List EntryTree). IsTrue c.is_one_of.result ↔ IsMember c.args.entry.now (map entry_of trees)) c.as_slice.ensures
    (among-Decides c.args.entry.now c.as_slice.result.now c.is_one_of.result c.is_one_of.ensures)
