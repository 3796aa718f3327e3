-- What calls that refine leave of a session.
use Rattle.std.specs.Prelude.{◌≡◌, refl}
use Rattle.std.proofs.Common.{◌∙◌}
use Rattle.hol_journal.proofs.GrowthLemmas.{journals-grow}
use Rattle.hol_goals.specs.Made.{StaysMade}
use Rattle.hol_refine.specs.Growth.{IsExtended, extended-same, extended-twice}
use Rattle.hol_script_manager.specs.declared.prover.Prover.{Prover}

-- its library is further: the journal has grown, and lemmas may have come; what names stand for is the same
pub record IsFurther (old new : Prover) : Type 0 where
  pub extended : IsExtended old.session.library new.session.library
  pub scope : new.session.scope ≡ old.session.scope

-- ---- one call after another

pub further-same : (prover : Prover) → IsFurther prover prover
further-same prover = record { extended = extended-same prover.session.library; scope = refl }

pub further-twice : (first second third : Prover) → IsFurther first second → IsFurther second third → IsFurther first third
further-twice first second third one two = record {
  extended = extended-twice first.session.library second.session.library third.session.library one.extended two.extended;
  scope = two.scope ∙ one.scope;
}

-- what the recorder made stays its own
pub further-makes : (old new : Prover) → IsFurther old new → StaysMade old.session.library.recorder new.session.library.recorder
further-makes old new further made is = journals-grow.stays old.session.library.recorder new.session.library.recorder made further.extended.grown is
