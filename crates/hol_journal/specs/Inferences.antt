-- Inferences: a primitive rule or an axiom, with what it takes.
use Rattle.std.specs.Prelude.{◌≡◌, true, None, Result, Ok, IsSome}
use Rattle.std.specs.List.{list_all}
use Rattle.hol_model.specs.declared.fault.Fault.{Fault}
use Rattle.hol_model.specs.Terms.NamedTerm.{NamedTerm, type_of, is_within_limits}
use Rattle.hol_model.specs.Logic.Theory.{Theory}
use Rattle.hol_model.specs.Logic.KnownTerm.{is_known}
use Rattle.hol_model.specs.Kernel.Theorem.{Theorem, IsTheorem}
use Rattle.hol_model.specs.Kernel.Outcome.{Answers, AnswersSuch}
use Rattle.hol_model.specs.Kernel.Rules as outcome
use Rattle.hol_model.specs.Kernel.Instantiation as instance
use Rattle.hol_model.specs.Kernel.NamedAxioms as axioms
use Rattle.hol_kernel.specs.KnownFormula.{IsKnownFormula}
use Rattle.hol_kernel.specs.Fits.{TransFits, EqMpFits, DeductFits}
use Rattle.hol_journal.specs.Steps as steps
use Rattle.hol_journal.specs.Journal.{Journal, Recorded, IsMade}
use Rattle.hol_journal.specs.Limits.{pair_fits, type_pair_fits}
use Rattle.hol_journal.specs.declared.inference.Inference.{Inference}
use Rattle.hol_journal.specs.declared.inference.Inference.TheVariants.{Refl, Trans, MkComb, Abs, Beta, Assume, EqMp, DeductAntisym, Inst, InstType, Eta, Select}

-- the step that records the inference
abbrev pub step_of_inference : Inference → steps.Step
step_of_inference (Refl term) = steps.by_refl term.now
step_of_inference (Trans first second) = steps.by_trans first.now.entry second.now.entry
step_of_inference (MkComb first second) = steps.by_mk_comb first.now.entry second.now.entry
step_of_inference (Abs binder theorem) = steps.by_abs binder.now theorem.now.entry
step_of_inference (Beta term) = steps.by_beta term.now
step_of_inference (Assume term) = steps.by_assume term.now
step_of_inference (EqMp first second) = steps.by_eq_mp first.now.entry second.now.entry
step_of_inference (DeductAntisym first second) = steps.by_deduct first.now.entry second.now.entry
step_of_inference (Inst theta theorem) = steps.by_inst theorem.now.entry theta.now
step_of_inference (InstType theta theorem) = steps.by_inst_type theorem.now.entry theta.now
step_of_inference Eta = steps.by_eta
step_of_inference Select = steps.by_select

-- the recorder made each theorem in it
abbrev pub AreMade : Journal → Inference → Type 0
AreMade journal (Trans first second) = IsMade journal first.now × IsMade journal second.now
AreMade journal (MkComb first second) = IsMade journal first.now × IsMade journal second.now
AreMade journal (Abs binder theorem) = IsMade journal theorem.now
AreMade journal (EqMp first second) = IsMade journal first.now × IsMade journal second.now
AreMade journal (DeductAntisym first second) = IsMade journal first.now × IsMade journal second.now
AreMade journal (Inst theta theorem) = IsMade journal theorem.now
AreMade journal (InstType theta theorem) = IsMade journal theorem.now
AreMade journal _ = Unit {0}

-- what a call answers is what the rule concludes over the theory
abbrev pub IsInferred : Theory → Inference → Result Theorem Fault → Type 0
IsInferred theory (Refl term) answer = Answers answer (outcome.refl_outcome theory term.now)
IsInferred theory (Trans first second) answer = Answers answer (outcome.trans_outcome theory first.now.theorem second.now.theorem)
IsInferred theory (MkComb first second) answer = Answers answer (outcome.mk_comb_outcome theory first.now.theorem second.now.theorem)
IsInferred theory (Abs binder theorem) answer = Answers answer (outcome.abs_outcome theory binder.now theorem.now.theorem)
IsInferred theory (Beta term) answer = Answers answer (outcome.beta_outcome theory term.now)
IsInferred theory (Assume term) answer = Answers answer (outcome.assume_outcome theory term.now)
IsInferred theory (EqMp first second) answer = Answers answer (outcome.eq_mp_outcome theory first.now.theorem second.now.theorem)
IsInferred theory (DeductAntisym first second) answer = Answers answer (outcome.deduct_antisym_outcome theory first.now.theorem second.now.theorem)
IsInferred theory (Inst theta theorem) answer = AnswersSuch answer (instance.inst_refusal theory theta.now theorem.now.theorem) (instance.IsInst theory theta.now theorem.now.theorem)
IsInferred theory (InstType theta theorem) answer = AnswersSuch answer (instance.inst_type_refusal theory theta.now theorem.now.theorem) (instance.IsInstType theory theta.now theorem.now.theorem)
IsInferred theory Eta answer = Answers answer (Ok (axioms.eta_theorem theory))
IsInferred theory Select answer = Answers answer (Ok (axioms.select_theorem theory))

-- its parts fit, so that the rule has neither to walk nor to compare them
abbrev pub Fits : Theory → Inference → Type 0
Fits theory (Refl term) = is_known theory term.now ≡ true
Fits theory (Trans first second) = TransFits first.now.theorem second.now.theorem
Fits theory (Beta term) = is_known theory term.now ≡ true
Fits theory (Assume term) = IsKnownFormula theory term.now
Fits theory (EqMp first second) = EqMpFits first.now.theorem second.now.theorem
Fits theory (DeductAntisym first second) = DeductFits first.now.theorem second.now.theorem
Fits theory (Inst theta theorem) = instance.replacements_refusal theory theta.now ≡ None
Fits theory _ = Unit {0}

-- the term has a type, and is within the limits
abbrev pub IsSoundTerm : NamedTerm → Type 0
IsSoundTerm term = IsSome (type_of term) × (is_within_limits term ≡ true)

abbrev pub AreTheorems : Recorded → Recorded → Type 0
AreTheorems first second = IsTheorem first.theorem × IsTheorem second.theorem

-- the terms and types in it are within the limits, and the theorems are theorems
abbrev pub HasSoundParts : Inference → Type 0
HasSoundParts (Refl term) = IsSoundTerm term.now
HasSoundParts (Trans first second) = AreTheorems first.now second.now
HasSoundParts (MkComb first second) = AreTheorems first.now second.now
HasSoundParts (Abs binder theorem) = IsSoundTerm binder.now × IsTheorem theorem.now.theorem
HasSoundParts (Beta term) = IsSoundTerm term.now
HasSoundParts (Assume term) = IsSoundTerm term.now
HasSoundParts (EqMp first second) = AreTheorems first.now second.now
HasSoundParts (DeductAntisym first second) = AreTheorems first.now second.now
HasSoundParts (Inst theta theorem) = (list_all pair_fits theta.now ≡ true) × IsTheorem theorem.now.theorem
HasSoundParts (InstType theta theorem) = (list_all type_pair_fits theta.now ≡ true) × IsTheorem theorem.now.theorem
HasSoundParts Eta = Unit {0}
HasSoundParts Select = Unit {0}
