-- Inferences: what they answer, and that a journal may hold it.
use Rattle.std.proofs.Common.{◌≡◌, refl, sym, ◌∙◌, ap, subst, inl, Ok, Err, Result, IfOk, IfErr, OnErr}
use Rattle.hol_model.specs.declared.fault.Fault.{Fault}
use Rattle.hol_model.specs.declared.fault.Fault.TheVariants.{Memory}
use Rattle.hol_model.specs.Terms.NamedTerm.{type_of}
use Rattle.hol_model.specs.Logic.Theory.{Theory}
use Rattle.hol_model.specs.Kernel.Theorem.{Theorem}
use Rattle.hol_model.specs.Kernel.Outcome.{Answers}
use Rattle.hol_journal.specs.Steps.{Step, sequent_of_theorem}
use Rattle.hol_journal.specs.Limits.{FitsLog}
use Rattle.hol_journal.specs.Journal.{Journal, Recorded, IsRecorded, Follows, IsJournal, theorem_in}
use Rattle.hol_journal.specs.Growth.{Continues}
use Rattle.hol_journal.specs.Inferences.{step_of_inference, AreMade, IsInferred, HasSoundParts}
use Rattle.hol_journal.specs.declared.inference.Inference.{Inference}
use Rattle.hol_journal.specs.declared.inference.Inference.TheVariants.{Refl, Trans, MkComb, Abs, Beta, Assume, EqMp, DeductAntisym, Inst, InstType, Eta, Select}
use Rattle.hol_journal.proofs.GrowthLemmas.{continued}
use Rattle.hol_journal.proofs.Showing.{value_of, ok_is}
use Rattle.hol_journal.proofs.FollowLemmas.{refl-follows, trans-follows, mk_comb-follows, abs-follows, beta-follows, assume-follows, eq_mp-follows, deduct-follows}
use Rattle.hol_journal.proofs.FollowLemmas.{inst-follows, inst_type-follows, eta-follows, select-follows}

-- a want of memory is an answer of each inference
pub memory-inferred : (theory : Theory) (inference : Inference) → IsInferred theory inference (Err Memory)
memory-inferred theory (Refl term) = inl refl
memory-inferred theory (Trans first second) = inl refl
memory-inferred theory (MkComb first second) = inl refl
memory-inferred theory (Abs binder theorem) = inl refl
memory-inferred theory (Beta term) = inl refl
memory-inferred theory (Assume term) = inl refl
memory-inferred theory (EqMp first second) = inl refl
memory-inferred theory (DeductAntisym first second) = inl refl
memory-inferred theory (Inst theta theorem) = inl refl
memory-inferred theory (InstType theta theorem) = inl refl
memory-inferred theory Eta = inl refl
memory-inferred theory Select = inl refl

-- so is what is inferred and then recorded
pub recorded_inferred : (theory : Theory) (inference : Inference) (theorem : Theorem) (result : Result Recorded Fault) → IsInferred theory inference (Ok theorem)
    → IfOk result (λ made. made.theorem ≡ theorem) → IfErr result (λ fault. fault ≡ Memory) → IsInferred theory inference (theorem_in result)
recorded_inferred theory inference theorem (Ok made) inferred same _ = subst (λ (t : Theorem). IsInferred theory inference (Ok t)) (sym same) inferred
recorded_inferred theory inference theorem (Err fault) inferred _ same = subst (λ (f : Fault). IsInferred theory inference (Err f)) (sym same) (memory-inferred theory inference)

-- an axiom is answered, unless there is no memory
pub answers_axiom : (result : Result Theorem Fault) (law : Theorem) → IfOk result (λ theorem. theorem ≡ law) → IfErr result (λ fault. fault ≡ Memory) → Answers result (Ok law)
answers_axiom (Ok theorem) law is failed = ap (λ (t : Theorem). Ok t) (sym is)
answers_axiom (Err fault) law is failed = inl failed

-- a theorem that stands on the theory, and is recorded, continues the journal
pub inferred_continues : (theorem : Theorem) (result : Result Recorded Fault) (old new : Journal) (step : Step) → theorem.theory ≡ old.theory
    → IfOk result (λ made. made.theorem ≡ theorem) → IfOk result (IsRecorded old new step) → OnErr result (new ≡ old) → Continues old new result
inferred_continues theorem (Ok made) old new step stands same recorded kept = continued (Ok made) old new step (ap (λ (t : Theorem). t.theory) same ∙ stands) recorded kept
inferred_continues theorem (Err fault) old new step stands same recorded kept = continued (Err fault) old new step tt recorded kept

module _ (journal : Journal) (is : IsJournal journal) (answer : Theorem) (fits : FitsLog answer) where
  followed : (inference : Inference) → AreMade journal inference → HasSoundParts inference → IsInferred journal.theory inference (Ok answer)
      → Follows journal.entries (step_of_inference inference) (sequent_of_theorem answer)
  followed (Refl term) made sound inferred = let typed = value_of (type_of term.now) sound.0 in refl-follows journal is term.now typed.0 answer typed.1 sound.1 inferred fits
  followed (Trans first second) made sound inferred = trans-follows journal is first.now second.now answer made.0 made.1 sound.0 sound.1 inferred fits
  followed (MkComb first second) made sound inferred = mk_comb-follows journal is first.now second.now answer made.0 made.1 sound.0 sound.1 inferred fits
  followed (Abs binder theorem) made sound inferred = abs-follows journal is binder.now theorem.now answer sound.0.1 made sound.1 inferred fits
  followed (Beta term) made sound inferred = let typed = value_of (type_of term.now) sound.0 in beta-follows journal is term.now typed.0 answer typed.1 sound.1 inferred fits
  followed (Assume term) made sound inferred = let typed = value_of (type_of term.now) sound.0 in assume-follows journal is term.now typed.0 answer typed.1 sound.1 inferred fits
  followed (EqMp first second) made sound inferred = eq_mp-follows journal is first.now second.now answer made.0 made.1 sound.0 sound.1 inferred fits
  followed (DeductAntisym first second) made sound inferred = deduct-follows journal is first.now second.now answer made.0 made.1 sound.0 sound.1 inferred fits
  followed (Inst theta theorem) made sound inferred = inst-follows journal is theta.now theorem.now answer sound.0 made sound.1 inferred.0 inferred.1 fits
  followed (InstType theta theorem) made sound inferred = inst_type-follows journal is theta.now theorem.now answer sound.0 made sound.1 inferred.0 inferred.1 fits
  followed Eta made sound inferred = eta-follows journal is answer (sym (ok_is _ answer inferred)) fits
  followed Select made sound inferred = select-follows journal is answer (sym (ok_is _ answer inferred)) fits

  -- what is inferred from theorems of the journal follows in it
  pub inference-follows : (inference : Inference) (step : Step) → step ≡ step_of_inference inference → AreMade journal inference → HasSoundParts inference
      → IsInferred journal.theory inference (Ok answer) → Follows journal.entries step (sequent_of_theorem answer)
  inference-follows inference step same made sound inferred =
      subst (λ (s : Step). Follows journal.entries s (sequent_of_theorem answer)) (sym same) (followed inference made sound inferred)
