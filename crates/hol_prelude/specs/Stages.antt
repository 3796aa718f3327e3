-- What a call answers that makes the first tables of the prelude.
use Rattle.std.specs.Prelude.{◌≡◌, List, Result, IfOk, IfErr}
use Rattle.std.specs.declared.vec.Vec.{Vec}
use Rattle.std.specs.declared.alloc.Global.{Global}
use Rattle.hol_model.specs.declared.fault.Fault.{Fault}
use Rattle.hol_model.specs.declared.fault.Fault.TheVariants.{Memory}
use Rattle.hol_model.specs.Logic.Theory.{Theory}
use Rattle.hol_model.specs.Kernel.Theorem.{Theorem}
use Rattle.hol_journal.specs.Journal.{Recorded}
use Rattle.hol_prelude_derivations.specs.Makings.{HasMade}

-- it answers these theorems over the logical definitions, or that there is no memory
pub record MakesTheorems (wanted : List Theorem) (new : Theory) (result : Result (Vec Recorded Global) Fault) : Type 0 where
  pub ok : IfOk result (λ all. HasMade new all.items wanted)
  pub err : IfErr result (λ fault. fault ≡ Memory)
