-- The words of rules.
use Rattle.std.proofs.Common.{◌≡◌, refl, sym, ◌∙◌, ap, List, [], ◌∷◌, ℕ, Bool, true, false, Option, Some, cond}
use Rattle.std.specs.List.{find}
use Rattle.std.proofs.lemmas.Slice.Eq.{bytes_eq-Decides}
use Rattle.hol_model_rules.specs.declared.rule_name.RuleName.{RuleName}
use Rattle.hol_model_rules.specs.declared.rule_name.RuleName.TheVariants.{Refl}
use Rattle.hol_model_rules.specs.declared.rule_name.TheConstants.{RULES}
use Rattle.hol_model_rules.specs.RuleForms.{form_of, has_word, IsRuleOf}

-- what is found passes the test
found-passes : {X : Type 0} (test : X → Bool) (xs : List X) (x : X) → find test xs ≡ Some x → test x ≡ true
found-passes test [] x found = cc
found-passes {X} test (first ∷ xs) x found = by (test first) refl found (λ later. found-passes test xs x later) where
  by : (b : Bool) → test first ≡ b → cond b (Some first) (find test xs) ≡ Some x → (find test xs ≡ Some x → test x ≡ true) → test x ≡ true
  by true passes found later = let same : first ≡ x = cc in sym (ap test same) ∙ passes
  by false fails found later = later found

-- no two rules have one word
pub own-word : (rule : RuleName) → find (has_word (form_of rule).word) RULES ≡ Some rule
own-word Refl = refl
own-word rule = refl

-- and so two with one word are one
pub same-word : (a b : RuleName) → (form_of a).word ≡ (form_of b).word → a ≡ b
same-word a b same =
    let both : Some a ≡ Some b = sym (own-word a) ∙ ap (λ (word : List ℕ). find (has_word word) RULES) same ∙ own-word b in
    cc

pub found-word : (word : List ℕ) (found : Option RuleName) → found ≡ find (has_word word) RULES → IsRuleOf word found
found-word word found is rule = (
  (λ known. sym ((bytes_eq-Decides (form_of rule).word word).0 (found-passes (has_word word) RULES rule (sym is ∙ known)))),
  (λ same. is ∙ ap (λ (it : List ℕ). find (has_word it) RULES) same ∙ own-word rule),
)
