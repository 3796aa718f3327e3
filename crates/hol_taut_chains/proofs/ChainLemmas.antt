-- Calls in a row, each of which goes on with the journal.
use Rattle.hol_model.specs.declared.fault.Fault.{Fault}
use Rattle.std.proofs.Common.{[], Ok, Err, refl, sym, append-nil}
use Rattle.std.specs.Prelude.{Result}
use Rattle.std.specs.Result.{IsErr}
use Rattle.hol_model.proofs.Logic.Earlier.{earlier-same}
use Rattle.hol_journal.specs.Journal.{Journal, Recorded}
use Rattle.hol_journal.specs.Growth.{Continues}
use Rattle.hol_equal.proofs.StepLemmas.{continues-twice, still_made, now_made}
use Rattle.hol_taut_chains.specs.Chains.{HasChainLaws}
use Rattle.hol_taut_chains.specs.Negations.{HasNegationLaws}
use Rattle.hol_taut_chains.specs.declared.negations.NegationLaws.{NegationLaws}
use Rattle.hol_taut_chains.specs.declared.pulled.ChainLaws.{ChainLaws}

-- what `?` answers before the first call
pub unchanged : (journal : Journal) (result : Result Recorded Fault) → IsErr result → Continues journal journal result
unchanged journal (Ok made) is = cc
unchanged journal (Err fault) is = record {
  grown = record { added = []; entries = sym (append-nil journal.entries); earlier = earlier-same journal.theory journal.theory refl };
  theory = refl;
  held = tt;
}

pub continued_twice : (first second third : Journal) (one two : Result Recorded Fault) → Continues first second one → Continues second third two → Continues first third two
continued_twice = continues-twice

pub still_chain_laws : (old new : Journal) (result : Result Recorded Fault) (laws : ChainLaws) → Continues old new result → HasChainLaws old laws → HasChainLaws new laws
still_chain_laws old new result laws continues has = record {
  truth = still_made old new result laws.truth continues has.truth;
  commuted = still_made old new result laws.commuted continues has.commuted;
  exchanged = still_made old new result laws.exchanged continues has.exchanged;
  paired = still_made old new result laws.paired continues has.paired;
}

pub still_negation_laws : (old new : Journal) (result : Result Recorded Fault) (laws : NegationLaws) → Continues old new result → HasNegationLaws old laws → HasNegationLaws new laws
still_negation_laws old new result laws continues has = record {
  left = still_made old new result laws.left continues has.left;
  right = still_made old new result laws.right continues has.right;
  twice = still_made old new result laws.twice continues has.twice;
}

-- for calls of the recorder one after another
pub ruleset in_a_row = (still_made, now_made, continued_twice, still_chain_laws)
