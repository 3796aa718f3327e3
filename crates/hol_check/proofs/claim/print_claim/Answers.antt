use Rattle.std.proofs.Common.{rules}
use Rattle.hol_check.proofs.ClaimLemmas.{claim_at}
use Rattle.hol_check.proofs.claim.print_claim.Goals as goal

pub returns : goal.returns
returns c =
    rw (claim_at c.args.table.now c.args.contents.now c.args.place c.index-claim.result.now c.index.result.now c.requires.kept c.requires.placed c.index-claim.ensures c.index.ensures)
    (search rules)
