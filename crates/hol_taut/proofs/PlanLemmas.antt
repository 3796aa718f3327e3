-- The theorems of a plan's steps, as they are made.
use Rattle.std.proofs.Common.{◌≡◌, List, [], ◌∷◌, ◌++◌, Result, Ok, Err, refl, sym, ◌∙◌, subst}
use Rattle.hol_model.specs.declared.fault.Fault.{Fault}
use Rattle.hol_journal.specs.Journal.{Journal, Recorded}
use Rattle.hol_journal.specs.Growth.{IsGrown, Continues}
use Rattle.hol_journal.proofs.GrowthLemmas.{journals-grow}
use Rattle.hol_prelude_derivations.specs.Derivations.{AreMade}
use Rattle.hol_prelude_derivations.proofs.DerivationLemmas.{one_more_made}
use Rattle.hol_taut.proofs.TautAnswers.{continues-unchanged}

-- the journal has grown over the same theory, and the recorder made these theorems
pub record IsTaking (old now : Journal) (made : List Recorded) : Type 0 where
  pub grown : IsGrown old now
  pub theory : now.theory ≡ old.theory
  pub are_made : AreMade now made

pub none-taken : (journal : Journal) (fault : Fault) (made : List Recorded) → made ≡ [] → IsTaking journal journal made
none-taken journal fault made none = record {
  grown = (continues-unchanged journal fault).grown;
  theory = refl;
  are_made = subst (AreMade journal) (sym none) (record { each = λ number found there. cc });
}

pub one-more-taken : (old now new : Journal) (made longer : List Recorded) (theorem : Recorded) → IsTaking old now made → Continues now new (Ok theorem)
    → longer ≡ made ++ theorem ∷ [] → IsTaking old new longer
one-more-taken old now new made longer theorem taking continues is = record {
  grown = journals-grow.twice old now new taking.grown continues.grown;
  theory = continues.theory ∙ taking.theory;
  are_made = subst (AreMade new) (sym is) (one_more_made now new made theorem continues.grown taking.are_made continues.held.made);
}

pub continued-behind : (old now new : Journal) (result : Result Recorded Fault) → IsGrown old now → now.theory ≡ old.theory → Continues now new result → Continues old new result
continued-behind old now new result grown theory continues = record {
  grown = journals-grow.twice old now new grown continues.grown;
  theory = continues.theory ∙ theory;
  held = continues.held;
}

pub refused-behind : (old now : Journal) (fault : Fault) → IsGrown old now → now.theory ≡ old.theory → Continues old now (Err fault)
refused-behind old now fault grown theory = record { grown = grown; theory = theory; held = tt }
