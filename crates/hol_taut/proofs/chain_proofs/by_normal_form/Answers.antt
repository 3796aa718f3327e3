use Rattle.std.proofs.Common.{sym, subst}
use Rattle.hol_journal.specs.Journal.{Recorded, IsMade}
use Rattle.hol_equal.proofs.StepLemmas.{still_made}
use Rattle.hol_taut.proofs.LawLemmas.{still_lawful}
use Rattle.hol_taut.proofs.chain_proofs.by_normal_form.Goals as goal

pub chain_law-requires-2 : goal.chain_law-requires-2
chain_law-requires-2 c =
    still_lawful c.args.recorder.now c.chain_law.new.recorder c.chain_law.result c.args.laws.now c.chain_law.ensures.continues c.requires.laws

pub chain_law-requires-3 : goal.chain_law-requires-3
chain_law-requires-3 c =
    still_lawful c.chain_law.new.recorder c.chain_law-2.new.recorder c.chain_law-2.result c.args.laws.now c.chain_law-2.ensures.continues
    (still_lawful c.args.recorder.now c.chain_law.new.recorder c.chain_law.result c.args.laws.now c.chain_law.ensures.continues c.requires.laws)

pub law_theorem-requires : goal.law_theorem-requires
law_theorem-requires c =
    still_lawful c.chain_law-2.new.recorder c.chain_law-3.new.recorder c.chain_law-3.result c.args.laws.now c.chain_law-3.ensures.continues
    (still_lawful c.chain_law.new.recorder c.chain_law-2.new.recorder c.chain_law-2.result c.args.laws.now c.chain_law-2.ensures.continues
    (still_lawful c.args.recorder.now c.chain_law.new.recorder c.chain_law.result c.args.laws.now c.chain_law.ensures.continues c.requires.laws))

pub by_chain_laws-requires-clause-laws : goal.by_chain_laws-requires-clause-laws
by_chain_laws-requires-clause-laws c =
    still_lawful c.chain_law-2.new.recorder c.chain_law-3.new.recorder c.chain_law-3.result c.args.laws.now c.chain_law-3.ensures.continues
    (still_lawful c.chain_law.new.recorder c.chain_law-2.new.recorder c.chain_law-2.result c.args.laws.now c.chain_law-2.ensures.continues
    (still_lawful c.args.recorder.now c.chain_law.new.recorder c.chain_law.result c.args.laws.now c.chain_law.ensures.continues c.requires.laws))

pub by_chain_laws-requires-clause-chain_laws : goal.by_chain_laws-requires-clause-chain_laws
by_chain_laws-requires-clause-chain_laws c = record {
  truth = subst (λ (made : Recorded). IsMade c.chain_law-3.new.recorder made) (sym c.in_ok-truth.ensures.ok) c.law_theorem.ensures.made;
  commuted = still_made c.chain_law-2.new.recorder c.chain_law-3.new.recorder c.chain_law-3.result c.in_ok-commuted.commuted c.chain_law-3.ensures.continues
      (still_made c.chain_law.new.recorder c.chain_law-2.new.recorder c.chain_law-2.result c.in_ok-commuted.commuted c.chain_law-2.ensures.continues c.in_ok-commuted.ensures.continues.held.made);
  exchanged = still_made c.chain_law-2.new.recorder c.chain_law-3.new.recorder c.chain_law-3.result c.in_ok-exchanged.exchanged c.chain_law-3.ensures.continues
      c.in_ok-exchanged.ensures.continues.held.made;
  paired = c.in_ok-paired.ensures.continues.held.made;
}
