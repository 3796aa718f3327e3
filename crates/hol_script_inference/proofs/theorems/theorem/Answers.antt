use Rattle.std.proofs.Common.{Err, sym, subst}
use Rattle.hol_journal.specs.Journal.{Journal}
use Rattle.hol_script_inference.specs.Recording.{MakesTheorem, over_journal, without_row}
use Rattle.hol_script_inference.proofs.theorems.theorem.Goals as goal

pub returns-in-Err-clause-makes : goal.returns-in-Err-clause-makes
returns-in-Err-clause-makes g c =
    subst (λ (journal : Journal). MakesTheorem c.args.session.now (over_journal c.inferred.new.session journal) (without_row (Err c.in-Err.refused))) (sym c.give_back.ensures) c.in-Err.ensures.makes
