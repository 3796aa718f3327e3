-- The rules of a theorem, and rewriting at one place: the first rule of a list that applies to a term, and what it makes of the term. A rule is a
-- theorem that is an equation.
use Rattle.std.specs.Prelude.{◌≡◌, ◌⊎◌, List, [], ◌∷◌, ◌++◌, map, Bool, false, true, Some, Result, Ok, Err}
use Rattle.std.specs.List.{list_all}
use Rattle.hol_model.specs.declared.fault.Fault.{Fault}
use Rattle.hol_model.specs.declared.fault.Fault.TheVariants.{Memory, TooLarge, NoMatch}
use Rattle.hol_model.specs.Terms.HolType.{HolType}
use Rattle.hol_model.specs.Terms.NamedTerm.{NamedTerm, free_variables}
use Rattle.hol_model.specs.Terms.Nameless.{Nameless, image}
use Rattle.hol_model.specs.Terms.Measures.{nameless_within_limits}
use Rattle.hol_model.specs.Terms.Substitution.{put_all}
use Rattle.hol_model.specs.Kernel.Instantiation.{instantiate_all}
use Rattle.hol_model.specs.Logic.Derivable.{IsSameSet}
use Rattle.hol_model.specs.Kernel.Theorem.{Theorem}
use Rattle.hol_model.specs.Kernel.Rules.{dest_equation}
use Rattle.hol_model.specs.Derived.DerivedRules.{terms_of_theorem}
use Rattle.hol_model.specs.Rewrites.RewriteRules.{RulesOf}
use Rattle.hol_model.specs.Rewrites.SmallTerms.{is_small}
use Rattle.hol_model.specs.Rewrites.Matching.{Matches, HasNoMatch}

-- replacements (new, old) of type variables, and then of variables
pub record Replacements : Type 0 where
  pub types : List (HolType × HolType)
  pub terms : List (NamedTerm × NamedTerm)

-- what a term becomes
abbrev pub replaced : Replacements → Nameless → Nameless
replaced by term = put_all by.terms (instantiate_all by.types term)

-- the free variables of the hypotheses, which stay where a rule is used
abbrev pub fixed_variables : List NamedTerm → List NamedTerm
fixed_variables [] = []
fixed_variables (hypothesis ∷ hypotheses) = free_variables hypothesis ++ fixed_variables hypotheses

-- the replacements make the rule's left side the term
pub record Applies (rule : Theorem) (term : NamedTerm) (by : Replacements) : Type 0 where
  pub sides : NamedTerm × NamedTerm
  pub is_equation : dest_equation rule.conclusion ≡ Some sides
  pub matches : Matches (fixed_variables rule.hypotheses) sides.0 term by.types by.terms

-- the rule's left side matches the term in no way
abbrev pub DoesNotApply : Theorem → NamedTerm → Type 0
DoesNotApply rule term =
    (sides : NamedTerm × NamedTerm) → dest_equation rule.conclusion ≡ Some sides → HasNoMatch (fixed_variables rule.hypotheses) sides.0 term

abbrev pub NoneApplies : List Theorem → NamedTerm → Type 0
NoneApplies [] term = Unit {0}
NoneApplies (rule ∷ rules) term = DoesNotApply rule term × NoneApplies rules term

-- the first rule of a list that applies to the term, and the replacements
pub record IsFirstRule (rules : List Theorem) (term : NamedTerm) (rule : Theorem) (by : Replacements) : Type 0 where
  pub before : List Theorem
  pub after : List Theorem
  pub is_there : rules ≡ before ++ rule ∷ after
  pub is_first : NoneApplies before term
  pub applies : Applies rule term by

-- the theorem is the rule with the replacements made, hypotheses as a set: as the rule's left side becomes the term, it
-- says that the term equals what the right side becomes
pub record IsRewritten (rule : Theorem) (by : Replacements) (theorem : Theorem) : Type 0 where
  pub hypotheses : IsSameSet (map image theorem.hypotheses) (map (replaced by) (map image rule.hypotheses))
  pub conclusion : image theorem.conclusion ≡ replaced by (image rule.conclusion)

-- what the rule becomes is within the limits
abbrev pub has_fitting_instance : Theorem → Replacements → Bool
has_fitting_instance rule by = list_all (λ term. nameless_within_limits (replaced by term)) (terms_of_theorem rule)

-- what the rules make of the term: the instance of the first that applies, where that is within the limits
pub data Rewrites (rules : List Theorem) (term : NamedTerm) : Result Theorem Fault → Type 0 where
  none_matches : NoneApplies rules term → Rewrites rules term (Err NoMatch)
  rewrites : {rule theorem : Theorem} {by : Replacements} → IsFirstRule rules term rule by → has_fitting_instance rule by ≡ true → IsRewritten rule by theorem → Rewrites rules term (Ok theorem)
  instance_is_too_large : {rule : Theorem} {by : Replacements} → IsFirstRule rules term rule by → has_fitting_instance rule by ≡ false → Rewrites rules term (Err TooLarge)

-- ---- the rules of a theorem

-- the theorem states the equation under the hypotheses, which are a set
pub record IsRule (hypotheses : List NamedTerm) (equation : Nameless) (rule : Theorem) : Type 0 where
  pub same_hypotheses : IsSameSet (map image rule.hypotheses) (map image hypotheses)
  pub conclusion : image rule.conclusion ≡ equation

abbrev pub AreRules : List NamedTerm → List Nameless → List Theorem → Type 0
AreRules hypotheses [] [] = Unit {0}
AreRules hypotheses (equation ∷ equations) (rule ∷ rules) = IsRule hypotheses equation rule × AreRules hypotheses equations rules
AreRules hypotheses _ _ = ⊥

-- the rules of the theorem; TooLarge may come in their place only where a term of the theorem is not small
abbrev pub AnswersRules : Theorem → Result (List Theorem) Fault → Type 0
AnswersRules theorem (Ok rules) = (equations : List Nameless) × RulesOf theorem.hypotheses theorem.conclusion equations × AreRules theorem.hypotheses equations rules
AnswersRules theorem (Err fault) = (fault ≡ Memory) ⊎ ((fault ≡ TooLarge) × (list_all is_small (terms_of_theorem theorem) ≡ false))
