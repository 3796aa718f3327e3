-- What the terms and theorems of a rule are read as, and what the rule answers for them.
use Rattle.std.proofs.Common.{◌≡◌, ◌⊎◌, inl, inr, ℕ, suc, List, [], ◌∷◌, ◌++◌, length, map, refl, sym, ◌∙◌, ap, subst, None, Some, Result, Ok, Err, Bor}
use Rattle.std.proofs.lemmas.List.{map-append}
use Rattle.std.specs.Option.{option_map}
use Rattle.hol_model.specs.declared.fault.Fault.{Fault}
use Rattle.hol_model.specs.declared.fault.Fault.TheVariants.{Memory, UnknownName}
use Rattle.hol_model.specs.Kernel.Outcome.{given}
use Rattle.hol_model.specs.Kernel.Theorem.{Theorem}
use Rattle.hol_model.specs.Terms.NamedTerm.{NamedTerm}
use Rattle.hol_model.specs.Texts.Reading.{◌>>=◌, meaning}
use Rattle.hol_model.specs.Texts.TermGrammar.{TermTree}
use Rattle.hol_model.specs.Derived.InferenceRules.{InferenceRule}
use Rattle.hol_model_rules.specs.declared.rule_name.RuleName.{RuleName}
use Rattle.hol_model_rules.specs.RuleForms.{form_of}
use Rattle.hol_model_rules.specs.RuleOutcomes.{rule_with, IsOutcome}
use Rattle.hol_model_sessions.specs.Commands.{by_name}
use Rattle.hol_model_sessions.specs.Sessions.{State, scope_in, each, theorem_named, arguments_in, IsNamedAnswer, IsOutcomeWith}
use Rattle.hol_journal.specs.Journal.{Journal, Recorded, IsMade}
use Rattle.hol_theorem_store.specs.Stored.{Stored}
use Rattle.hol_just_replay.specs.Outcomes.{AreLent, lent_theorems}
use Rattle.hol_script_inference.specs.Answers.{AnswersRule, stored_theorem}
use Rattle.hol_script_inference.proofs.ReplacementLemmas.{preceded, preceded-more}

-- ---- one name after another

-- the theorems of the names up to what is left were found
pub record IsFoundTo (stored : Stored) (left : List (Bor (List ℕ))) (found : List (Bor Recorded)) (names : List (Bor (List ℕ))) : Type 0 where
  pub same : each (stored_theorem stored) (map (λ name. name.now) names) ≡ preceded (lent_theorems found) (each (stored_theorem stored) (map (λ name. name.now) left))

pub found-further : (stored : Stored) (name : Bor (List ℕ)) (left : List (Bor (List ℕ))) (found : List (Bor Recorded)) (made : Bor Recorded) (names : List (Bor (List ℕ)))
    → IsFoundTo stored (name ∷ left) found names → Some made.now ≡ stored.theorems name.now → IsFoundTo stored left (found ++ made ∷ []) names
found-further stored name left found made names under is = record {
  same = under.same ∙ ap (λ r. preceded (lent_theorems found) (given (option_map (λ (x : Recorded). x.theorem) r) UnknownName (λ theorem. Ok theorem) >>= λ x. behind >>= λ others. Ok (x ∷ others))) (sym is)
      ∙ preceded-more (lent_theorems found) made.now.theorem behind ∙ ap (λ done. preceded done behind) (sym (map-append (λ made. made.now.theorem) found (made ∷ [])));
}
  where
    behind : Result (List Theorem) Fault
    behind = each (stored_theorem stored) (map (λ name. name.now) left)

pub lent-further : (journal : Journal) (found : List (Bor Recorded)) (made : Bor Recorded) → AreLent journal found → IsMade journal made.now → AreLent journal (found ++ made ∷ [])
lent-further journal [] made lent is = (is, tt)
lent-further journal (other ∷ found) made lent is = (lent.0, lent-further journal found made lent.1 is)

-- ---- the number of terms

each-length : {A B : Type 0} → (read : A → Result B Fault) (items : List A) (done : List B) → each read items ≡ Ok done → length done ≡ length items
each-length read [] done is = (let none : done ≡ [] = cc in rw none refl)
each-length read (item ∷ items) done is = go (read item) (each read items) (λ xs behind. each-length read items xs behind) is
  where
    go : (first : Result _ Fault) (others : Result (List _) Fault) → ((xs : List _) → others ≡ Ok xs → length xs ≡ length items)
        → (first >>= λ x. others >>= λ xs. Ok (x ∷ xs)) ≡ Ok done → length done ≡ suc (length items)
    go (Ok x) (Ok xs) lengths same =
        let whole : done ≡ x ∷ xs = cc in
        rw whole (ap suc (lengths xs refl))
    go (Ok x) (Err fault) lengths same = cc
    go (Err fault) others lengths same = cc

-- so many terms are read as the rule takes
pub takes-terms : (state : State) (rule : RuleName) (trees : List TermTree) (terms : List NamedTerm) → length trees ≡ (form_of rule).terms → each (meaning (scope_in state) []) trees ≡ Ok terms
    → length terms ≡ (form_of rule).terms
takes-terms state rule trees terms lengths meant = each-length (meaning (scope_in state) []) trees terms meant ∙ lengths

-- ---- what a rule answers

module _ (state : State) (rule : RuleName) (trees : List TermTree) (names : List (List ℕ)) where
  arguments-are : (terms : List NamedTerm) (found : Result (List Theorem) Fault) → each (meaning (scope_in state) []) trees ≡ Ok terms → each (theorem_named state) names ≡ found
      → arguments_in state trees names ≡ (found >>= λ theorems. Ok (terms, theorems))
  arguments-are terms found meant is =
      ap (λ r. r >>= λ terms. each (theorem_named state) names >>= λ theorems. Ok (terms, theorems)) meant ∙ ap (λ r. r >>= λ theorems. Ok (terms, theorems)) is

  -- a theorem is not found
  pub unfound-theorems : (terms : List NamedTerm) (fault : Fault) → each (meaning (scope_in state) []) trees ≡ Ok terms → (fault ≡ Memory) ⊎ (each (theorem_named state) names ≡ Err fault)
      → AnswersRule (Err fault) state (by_name rule trees names)
  unfound-theorems terms fault meant (inl memory) = inl memory
  unfound-theorems terms fault meant (inr is) =
      inr (subst (λ r. IsNamedAnswer state.theory rule r (Err fault)) (sym (arguments-are terms (Err fault) meant is)) refl)

  -- the rule's own outcome
  pub named-answers : (terms : List NamedTerm) (theorems : List Theorem) (own : InferenceRule) (result : Result Theorem Fault) → each (meaning (scope_in state) []) trees ≡ Ok terms
      → each (theorem_named state) names ≡ Ok theorems → Some own ≡ rule_with rule terms → IsOutcome state.theory own theorems result → AnswersRule result state (by_name rule trees names)
  named-answers terms theorems own result meant found is outcome = go result answer
    where
      answer : IsNamedAnswer state.theory rule (arguments_in state trees names) result
      answer = subst (λ r. IsNamedAnswer state.theory rule r result) (sym (arguments-are terms (Ok theorems) meant found))
          (subst (λ o. IsOutcomeWith state.theory o theorems result) is outcome)

      go : (result : Result Theorem Fault) → IsNamedAnswer state.theory rule (arguments_in state trees names) result → AnswersRule result state (by_name rule trees names)
      go (Ok theorem) given = given
      go (Err fault) given = inr given
