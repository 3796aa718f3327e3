-- A sink that has failed is told by what a call of it answers.
use Rattle.std.proofs.Common.{◌≡◌, Bool, ap, sym, ◌∙◌, Ok, Err, Result}
use Rattle.std.specs.Prelude.{true, false, OnOk, IfErr, IsErrOf}
use Rattle.hol_model.specs.declared.fault.Fault.{Fault}
use Rattle.hol_model.specs.declared.fault.Fault.TheVariants.{WriteFault}

has-not-failed : false ≡ true → ⊥
has-not-failed same = cc

pub failure-told : {A : Type 0} {failed : Bool} (result : Result A Fault) → OnOk result (failed ≡ false) → IfErr result (λ fault. fault ≡ WriteFault) → failed ≡ true → IsErrOf result WriteFault
failure-told (Ok answer) unfailed kinds has_failed = absurd (has-not-failed (sym unfailed ∙ has_failed))
failure-told (Err fault) unfailed kinds has_failed = ap (λ (e : Fault). Err e) kinds
