-- What a step does to the terms and the binders that the code holds.
use Rattle.std.specs.Prelude.{◌≡◌, ◌⊎◌, reverse, Result, Ok, Err}
use Rattle.hol_model.specs.declared.fault.Fault.{Fault}
use Rattle.hol_model.specs.declared.fault.Fault.TheVariants.{Memory}
use Rattle.hol_model.specs.Terms.NamedTerm.{NamedTerm}
use Rattle.hol_model.specs.Texts.Reading.{◌>>=◌}
use Rattle.hol_syntax.specs.declared.evaluate.Evaluator.{Evaluator}
use Rattle.hol_syntax.specs.OpenBinders.{IsOpened}
use Rattle.hol_syntax_grammar.specs.TermSteps.{Workspace, push}

-- a term that is made goes on those that wait
abbrev pub pushed : Workspace → Result NamedTerm Fault → Result Workspace Fault
pushed work made = made >>= push work

-- these binders are open and these terms wait; the newest term stands last in the code
pub record IsHeld (here : Evaluator) (work : Workspace) : Type 0 where
  pub binders : IsOpened here.binders work.0
  pub terms : reverse here.terms.items ≡ work.1

pub record Reaches (here : Evaluator) (wanted : Result Workspace Fault) : Type 0 where
  pub work : Workspace
  pub is : wanted ≡ Ok work
  pub held : IsHeld here work

-- the answer is what is wanted, unless memory runs out
abbrev pub Arrives : Result (Unit {0}) Fault → Evaluator → Result Workspace Fault → Type 0
Arrives (Ok x) here wanted = Reaches here wanted
Arrives (Err fault) here wanted = (fault ≡ Memory) ⊎ (wanted ≡ Err fault)
