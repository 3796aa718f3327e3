-- What TAUT answers: TooLarge never comes for a small term.
use Rattle.std.specs.Prelude.{◌≡◌, ◌⊎◌, false, Result, Ok, Err}
use Rattle.hol_model.specs.declared.fault.Fault.{Fault}
use Rattle.hol_model.specs.declared.fault.Fault.TheVariants.{Memory, TooLarge}
use Rattle.hol_model.specs.Terms.Nameless.{Nameless}
use Rattle.hol_model.specs.Kernel.Theorem.{Theorem}
use Rattle.hol_model.specs.Derived.DerivedRules.{Stated, States}
use Rattle.hol_model.specs.Rewrites.SmallTerms.{is_small}

-- the call answers a theorem as it is stated, or the refusal; TooLarge may come in a theorem's place only where the term
-- is not small, and Memory always
abbrev pub AnswersSmall : Result Theorem Fault → Nameless → Result Stated Fault → Type 0
AnswersSmall (Ok theorem) term (Ok sequent) = States sequent theorem
AnswersSmall (Ok theorem) term (Err refusal) = ⊥
AnswersSmall (Err fault) term (Ok sequent) = (fault ≡ Memory) ⊎ ((fault ≡ TooLarge) × (is_small term ≡ false))
AnswersSmall (Err fault) term (Err refusal) = (fault ≡ Memory) ⊎ (fault ≡ refusal)
