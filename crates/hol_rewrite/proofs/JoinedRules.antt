-- The rules of two parts, one after the other.
use Rattle.std.proofs.Common.{◌≡◌, List, [], ◌∷◌, ◌++◌, refl, sym, ◌∙◌, ap, subst, Result, Ok, Err, IfOk}
use Rattle.hol_model.specs.Terms.NamedTerm.{NamedTerm}
use Rattle.hol_model.specs.Kernel.Theorem.{Theorem}
use Rattle.hol_journal.specs.Journal.{Journal, Recorded}
use Rattle.hol_prelude_derivations.specs.Derivations.{theorems}
use Rattle.hol_rewrite.specs.Rules.{HasRules}
use Rattle.hol_rewrite.specs.Reduction.{AreParts}

theorems-joined : (first second : List Recorded) → theorems (first ++ second) ≡ theorems first ++ theorems second
theorems-joined [] second = refl
theorems-joined (x ∷ first) second = ap (λ (all : List Theorem). x.theorem ∷ all) (theorems-joined first second)

pub rules-joined : (journal : Journal) (hypotheses : List NamedTerm) (premise : Theorem) (left right : Recorded) (first second all : List Recorded) → AreParts journal hypotheses premise left right
    → HasRules hypotheses left.theorem.conclusion (theorems first) → HasRules hypotheses right.theorem.conclusion (theorems second) → all ≡ first ++ second
    → HasRules hypotheses premise.conclusion (theorems all)
rules-joined journal hypotheses premise left right first second all are one two is =
    subst (HasRules hypotheses premise.conclusion) (sym (ap theorems is ∙ theorems-joined first second)) (are.rules (theorems first) (theorems second) one two)

pub if-ok : {A E : Type 0} (P Q : A → Type 0) (result : Result A E) → ((answer : A) → P answer → Q answer) → IfOk result P → IfOk result Q
if-ok P Q (Ok answer) gives holds = gives answer holds
if-ok P Q (Err fault) gives holds = tt
