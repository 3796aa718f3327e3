-- What a list of definitions and derivations comes to.
use Rattle.std.specs.Prelude.{◌≡◌, List, [], ◌∷◌, ◌++◌, Result, Ok, Err}
use Rattle.std.specs.declared.vec.Vec.{Vec}
use Rattle.std.specs.declared.alloc.Global.{Global}
use Rattle.hol_model.specs.declared.fault.Fault.{Fault}
use Rattle.hol_model.specs.Kernel.Outcome.{Answers}
use Rattle.hol_model.specs.Logic.Theory.{Theory}
use Rattle.hol_model.specs.Logic.Logic.{logical_definitions}
use Rattle.hol_model.specs.Kernel.Theorem.{Theorem}
use Rattle.hol_model.specs.Kernel.Rules.{define_outcome}
use Rattle.hol_journal.specs.Journal.{Recorded}
use Rattle.hol_prelude_derivations.specs.Sketches.{followed, term_outcome}
use Rattle.hol_prelude_derivations.specs.Derivations.{theorems, derived_outcome}
use Rattle.hol_prelude_derivations.specs.declared.making.Making.{Making}
use Rattle.hol_prelude_derivations.specs.declared.making.Making.TheVariants.{Define, Derive}

abbrev pub made_outcome : Theory → List Theorem → Making → Result Theorem Fault
made_outcome theory earlier (Define name body) = followed (term_outcome body.now) (λ body. define_outcome theory name.now body)
made_outcome theory earlier (Derive derivation) = derived_outcome theory earlier derivation.now

-- the theory after a definition or a derivation of this theorem
abbrev pub next_theory : Theory → Making → Theorem → Theory
next_theory theory (Define name body) theorem = theorem.theory
next_theory theory (Derive derivation) theorem = theory

-- a theory, and the theorems that were made so far
pub record Made : Type 0 where
  pub theory : Theory
  pub theorems : List Theorem

-- the earlier theorems, and those of the list
abbrev pub all_made : Theory → List Theorem → List Making → Result Made Fault
all_made theory earlier [] = Ok (record { theory = theory; theorems = earlier })
all_made theory earlier (making ∷ makings) =
    followed (made_outcome theory earlier making) (λ theorem. all_made (next_theory theory making theorem) (earlier ++ theorem ∷ []) makings)

-- the theory after a call, and what it answers
abbrev pub made_in : Theory → Result (Vec Recorded Global) Fault → Result Made Fault
made_in theory (Ok all) = Ok (record { theory = theory; theorems = theorems all.items })
made_in theory (Err fault) = Err fault

-- what a call answers that makes the list over a theory, behind earlier theorems
pub record MakesAll (old : Theory) (earlier : List Theorem) (makings : List Making) (new : Theory) (result : Result (Vec Recorded Global) Fault) : Type 0 where
  pub answers : Answers (made_in new result) (all_made old earlier makings)

-- the recorder has the logical definitions, and these are the theorems
pub record HasMade (theory : Theory) (all : List Recorded) (wanted : List Theorem) : Type 0 where
  pub defined : theory ≡ logical_definitions
  pub theorems_are : theorems all ≡ wanted
