-- Theorems of the prelude without hypotheses, stated again.
use Rattle.std.proofs.Common.{◌≡◌, List, [], ◌∷◌, map, Bool, true, refl, sym, ◌∙◌, subst, inl, inr, Some, Result, Ok, Err, IfOk, IfErr}
use Rattle.std.specs.Prelude.{ℕ, slice_get}
use Rattle.hol_model.specs.declared.fault.Fault.{Fault}
use Rattle.hol_model.specs.declared.fault.Fault.TheVariants.{Memory}
use Rattle.hol_model.specs.Terms.NamedTerm.{NamedTerm}
use Rattle.hol_model.specs.Terms.Nameless.{image}
use Rattle.hol_model.specs.Logic.Derivable.{IsSameSet}
use Rattle.hol_model.specs.Kernel.Theorem.{Theorem}
use Rattle.hol_journal.specs.Journal.{Journal, Recorded}
use Rattle.hol_bool.specs.Axioms.{IsAxiom}
use Rattle.hol_prelude.specs.Prelude.{prelude_theorems, shown}
use Rattle.hol_journal.specs.Growth.{Continues}
use Rattle.hol_equal.specs.Sequents.{Shows, DerivesIf}
use Rattle.hol_equal.proofs.CutLemmas.{shows-itself}

-- the theorem of the number
pub axiom-is : (number : ℕ) (conclusion : NamedTerm) (theorem : Theorem) → IsAxiom number conclusion → slice_get prelude_theorems number ≡ Some theorem → shown [] conclusion ≡ theorem
axiom-is number conclusion theorem is there = let same : Some (shown [] conclusion) ≡ Some theorem = sym is.theorem_is ∙ there in cc

pub axiom-shown : (number : ℕ) (conclusion : NamedTerm) (theorem : Theorem) → IsAxiom number conclusion → slice_get prelude_theorems number ≡ Some theorem → Shows theorem [] (image conclusion)
axiom-shown number conclusion theorem is there = subst (λ (t : Theorem). Shows t [] (image conclusion)) (axiom-is number conclusion theorem is there) (shows-itself (shown [] conclusion))

no-hypotheses : (hypotheses : List NamedTerm) → IsSameSet [] (map image hypotheses) → hypotheses ≡ []
no-hypotheses [] same = refl
no-hypotheses (t ∷ hypotheses) same = absurd (same.back (image t) (inl refl))

pub restated-ok : (result : Result Recorded Fault) (old new : Journal) (fits : Bool) (conclusion : NamedTerm) → Continues old new result → IfOk result (λ made. made.theorem.conclusion ≡ conclusion)
    → DerivesIf fits result [] (image conclusion) → IfOk result (λ made. made.theorem ≡ record { theory = old.theory; hypotheses = []; conclusion = conclusion })
restated-ok (Ok made) old new fits conclusion continues names shown =
    let theory_is : made.theorem.theory ≡ old.theory = continues.held.stands_on ∙ continues.theory in
    let hypotheses_are : made.theorem.hypotheses ≡ [] = no-hypotheses made.theorem.hypotheses shown.same_set in
    λ i. record { theory = theory_is i; hypotheses = hypotheses_are i; conclusion = names i }
restated-ok (Err fault) old new fits conclusion continues names shown = tt

pub restated-err : (result : Result Recorded Fault) (fits : Bool) (conclusion : NamedTerm) → fits ≡ true → DerivesIf fits result [] (image conclusion) → IfErr result (λ fault. fault ≡ Memory)
restated-err (Ok made) fits conclusion is past = tt
restated-err (Err fault) fits conclusion is (inl memory) = memory
restated-err (Err fault) fits conclusion is (inr past) = let is_not = past.1 in cc
