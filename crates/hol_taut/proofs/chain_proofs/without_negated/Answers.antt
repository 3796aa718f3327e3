use Rattle.hol_equal.proofs.StepLemmas.{still_made}
use Rattle.hol_taut.proofs.LawLemmas.{still_lawful}
use Rattle.hol_taut.proofs.chain_proofs.without_negated.Goals as goal

pub chain_law-requires-2 : goal.chain_law-requires-2
chain_law-requires-2 c =
    still_lawful c.args.recorder.now c.chain_law.new.recorder c.chain_law.result c.args.laws.now c.chain_law.ensures.continues c.requires.laws

pub chain_law-requires-3 : goal.chain_law-requires-3
chain_law-requires-3 c =
    still_lawful c.chain_law.new.recorder c.chain_law-2.new.recorder c.chain_law-2.result c.args.laws.now c.chain_law-2.ensures.continues
    (still_lawful c.args.recorder.now c.chain_law.new.recorder c.chain_law.result c.args.laws.now c.chain_law.ensures.continues c.requires.laws)

pub without_negations-requires : goal.without_negations-requires
without_negations-requires c = record {
  laws = record {
    left = still_made c.chain_law-2.new.recorder c.chain_law-3.new.recorder c.chain_law-3.result c.in_ok-left.left c.chain_law-3.ensures.continues
        (still_made c.chain_law.new.recorder c.chain_law-2.new.recorder c.chain_law-2.result c.in_ok-left.left c.chain_law-2.ensures.continues c.in_ok-left.ensures.continues.held.made);
    right = still_made c.chain_law-2.new.recorder c.chain_law-3.new.recorder c.chain_law-3.result c.in_ok-right.right c.chain_law-3.ensures.continues
        c.in_ok-right.ensures.continues.held.made;
    twice = c.in_ok-twice.ensures.continues.held.made;
  };
}
