-- Rules that a recorder made: their left sides by place, and what the first that matches makes of a term.
use Rattle.std.proofs.Common.{◌≡◌, ◌⊎◌, ℕ, zero, suc, ◌<◌, List, [], ◌∷◌, map, length, refl, sym, ◌∙◌, ap, subst, inl, inr, Some, Result, Ok, Err, IfOk, IfErr, true, false, arith}
use Rattle.std.specs.Prelude.{slice_get}
use Rattle.hol_model.specs.declared.fault.Fault.{Fault}
use Rattle.hol_model.specs.declared.fault.Fault.TheVariants.{Memory, TooLarge, NoMatch}
use Rattle.hol_model.specs.Terms.NamedTerm.{NamedTerm}
use Rattle.hol_model.specs.Kernel.Theorem.{Theorem}
use Rattle.hol_model.specs.Rewrites.Choice.{Side, IsFirstMatch, NoneMatches}
use Rattle.hol_model.specs.Rewrites.Rewriting.{Replacements, IsFirstRule, IsRewritten, Rewrites, has_fitting_instance}
use Rattle.hol_model.specs.Rewrites.Rewriting.Rewrites.{none_matches, rewrites, instance_is_too_large}
use Rattle.hol_match.specs.declared.matching.Match.{Match}
use Rattle.hol_journal.specs.Journal.{Recorded, theorem_in}
use Rattle.hol_prelude_derivations.specs.Derivations.{theorems}
use Rattle.hol_rewrite.specs.RuleSides.{AreEquations, side_of_rule, sides_of_rules}
use Rattle.hol_rewrite.specs.Instances.{replacements_of}
use Rattle.hol_rewrite.proofs.FirstRules.{first_applies, none_applies}

sides_are : (rules : List Recorded) → sides_of_rules rules ≡ map side_of_rule (theorems rules)
sides_are [] = refl
sides_are (rule ∷ rules) = ap (λ l. side_of_rule rule.theorem ∷ l) (sides_are rules)

theorem_at : (rules : List Recorded) (place : ℕ) (rule : Recorded) → slice_get rules place ≡ Some rule → slice_get (theorems rules) place ≡ Some rule.theorem
theorem_at [] place rule there = cc
theorem_at (first ∷ rules) zero rule there = let same : first ≡ rule = cc in ap (λ (r : Recorded). Some r.theorem) same
theorem_at (first ∷ rules) (suc place) rule there = theorem_at rules place rule there

side_within : (rules : List Recorded) (place : ℕ) (side : Side) → slice_get (sides_of_rules rules) place ≡ Some side → place < length rules
side_within [] place side there = cc
side_within (first ∷ rules) zero side there = omega arith
side_within (first ∷ rules) (suc place) side there = let deeper : place < length rules = side_within rules place side there in omega arith

-- the place of the first match is a rule's
pub place_within : (rules : List Recorded) (choice : List Side) (term : NamedTerm) (place : ℕ) (found : Match) → choice ≡ sides_of_rules rules
    → IsFirstMatch choice term place found.types.items found.terms.items → place < length rules
place_within rules choice term place found is first = side_within rules place first.side (ap (λ (sides : List Side). slice_get sides place) (sym is) ∙ first.is_at_place)

pub first_rule : (rules : List Recorded) (choice : List Side) (term : NamedTerm) (place : ℕ) (rule : Recorded) (found : Match) → AreEquations (theorems rules)
    → choice ≡ sides_of_rules rules → slice_get rules place ≡ Some rule → IsFirstMatch choice term place found.types.items found.terms.items
    → IsFirstRule (theorems rules) term rule.theorem (replacements_of found)
first_rule rules choice term place rule found equations is there first =
    first_applies (theorems rules) term place rule.theorem found.types.items found.terms.items equations (theorem_at rules place rule there)
    (subst (λ (sides : List Side). IsFirstMatch sides term place found.types.items found.terms.items) (is ∙ sides_are rules) first)

-- what is answered where a rule matches
pub rewritten : (rules : List Theorem) (term : NamedTerm) (rule : Theorem) (by : Replacements) (result : Result Recorded Fault) → IsFirstRule rules term rule by
    → IfOk result (λ made. IsRewritten rule by made.theorem) → IfOk result (λ made. has_fitting_instance rule by ≡ true)
    → IfErr result (λ fault. (fault ≡ Memory) ⊎ ((fault ≡ TooLarge) × (has_fitting_instance rule by ≡ false)))
    → Rewrites rules term (theorem_in result) ⊎ (theorem_in result ≡ Err Memory)
rewritten rules term rule by (Ok made) first is fits err = inl (rewrites first fits is)
rewritten rules term rule by (Err fault) first is fits (inl memory) = inr (ap (λ (f : Fault). Err f) memory)
rewritten rules term rule by (Err fault) first is fits (inr large) =
    inl (subst (λ (f : Fault). Rewrites rules term (Err f)) (sym large.0) (instance_is_too_large first large.1))

-- and where none does
pub not_rewritten : (rules : List Recorded) (choice : List Side) (term : NamedTerm) (fault : Fault) → choice ≡ sides_of_rules rules
    → (fault ≡ Memory) ⊎ ((fault ≡ NoMatch) × NoneMatches choice term) → Rewrites (theorems rules) term (Err fault) ⊎ (theorem_in (Err fault) ≡ Err Memory)
not_rewritten rules choice term fault is (inl memory) = inr (ap (λ (f : Fault). Err f) memory)
not_rewritten rules choice term fault is (inr none) =
    inl (subst (λ (f : Fault). Rewrites (theorems rules) term (Err f)) (sym none.0)
    (none_matches (none_applies (theorems rules) term (subst (λ (sides : List Side). NoneMatches sides term) (is ∙ sides_are rules) none.1))))
