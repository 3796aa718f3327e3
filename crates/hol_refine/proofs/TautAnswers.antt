-- What TAUT answers, in the words of the definition of TAUT_TAC.
use Rattle.std.proofs.Common.{Result, Ok, Err, inl, inr}
use Rattle.hol_model.specs.declared.fault.Fault.{Fault}
use Rattle.hol_model.specs.Terms.NamedTerm.{NamedTerm}
use Rattle.hol_model.specs.Terms.Nameless.{Nameless, image}
use Rattle.hol_model.specs.Logic.Theory.{Theory}
use Rattle.hol_model.specs.Kernel.Theorem.{Theorem}
use Rattle.hol_model.specs.Derived.DerivedRules.{Stated}
use Rattle.hol_model.specs.Rewrites.SmallTerms.{is_small}
use Rattle.hol_model.specs.Propositional.Tautologies.{tautology_outcome}
use Rattle.hol_model.specs.Refining.Refiners.{AnswersIfSmall, AnswersTautology}
use Rattle.hol_taut.specs.Answers.{AnswersSmall}

if-small : (term : Nameless) (outcome : Result Stated Fault) (answer : Result Theorem Fault) → AnswersSmall answer term outcome → AnswersIfSmall (is_small term) outcome answer
if-small term (Ok stated) (Ok theorem) h = h
if-small term (Err refusal) (Ok theorem) h = absurd h
if-small term (Ok stated) (Err fault) h = h
if-small term (Err refusal) (Err fault) (inl memory) = inr memory
if-small term (Err refusal) (Err fault) (inr same) = inl same

pub taut-answers : (theory : Theory) (term : NamedTerm) (answer : Result Theorem Fault) → AnswersSmall answer (image term) (tautology_outcome theory term)
    → AnswersTautology theory term answer
taut-answers theory term answer h = if-small (image term) (tautology_outcome theory term) answer h
