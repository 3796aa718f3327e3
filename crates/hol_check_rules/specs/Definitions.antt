-- What a definition gives, by numbers.
use Rattle.std.specs.Prelude.{◌≡◌, None, Some, Result, Ok, Err, slice_get}
use Rattle.hol_model.specs.declared.fault.Cause.{Cause}
use Rattle.hol_model.specs.Terms.Nameless.{Nameless}
use Rattle.hol_model.specs.Logs.LogState.{term_type}
use Rattle.hol_check_terms.specs.Terms.{TermTable}
use Rattle.hol_check_rules.specs.Steps.{Step, step_cause}
use Rattle.hol_check_rules.specs.declared.steps.definition.Definition.{Definition}

-- the type of the body, and the conclusion of the step, or the first cause that refuses it
abbrev pub IsDefined : Step → Nameless → TermTable → Result Definition Cause → Type 0
IsDefined step body table (Ok given) = (step_cause step ≡ None) × (slice_get table.types given.ty ≡ Some (term_type body)) × (slice_get table.terms given.conclusion ≡ Some step.sequent.conclusion)
IsDefined step body table (Err cause) = step_cause step ≡ Some cause
