-- The equations that a theorem gives for rewriting.
use Rattle.std.specs.Prelude.{◌≡◌, ℕ, List, [], ◌∷◌, ◌++◌, Option, Some, None}
use Rattle.hol_model.specs.Terms.NamedTerm.{NamedTerm, equation}
use Rattle.hol_model.specs.Terms.Nameless.{Nameless, free, image}
use Rattle.hol_model.specs.Terms.Substitution.{IsFirstFree, is_free_in_some, put, only, with_new_name}
use Rattle.hol_model.specs.Logic.NamedLogic.{true_term, false_term, Abstracted, dest_conjunction, dest_forall, dest_negation}
use Rattle.hol_model.specs.Kernel.Rules.{dest_equation}

-- what a conclusion is for rewriting
pub data RuleForm : Type 0 where
  -- p /\ q: the rules of both
  both : NamedTerm → NamedTerm → RuleForm
  -- !x. p: the rules of p, for any x
  every : Abstracted → RuleForm
  -- a = b: itself
  equal : NamedTerm → NamedTerm → RuleForm
  -- ~p: p <=> F
  denied : NamedTerm → RuleForm
  -- another p: p <=> T
  stated : NamedTerm → RuleForm

abbrev pub denied_or_stated : NamedTerm → Option NamedTerm → RuleForm
denied_or_stated formula (Some p) = denied p
denied_or_stated formula None = stated formula

abbrev pub equal_or : Option (NamedTerm × NamedTerm) → RuleForm → RuleForm
equal_or (Some sides) form = equal sides.0 sides.1
equal_or None form = form

abbrev pub every_or : Option Abstracted → RuleForm → RuleForm
every_or (Some abstracted) form = every abstracted
every_or None form = form

abbrev pub both_or : Option (NamedTerm × NamedTerm) → RuleForm → RuleForm
both_or (Some sides) form = both sides.0 sides.1
both_or None form = form

-- a formula is of one form
abbrev pub rule_form : NamedTerm → RuleForm
rule_form formula =
    both_or (dest_conjunction formula) (every_or (dest_forall formula) (equal_or (dest_equation formula) (denied_or_stated formula (dest_negation formula))))

-- a conclusion under these hypotheses gives these equations, in order, each up to the names of bound variables
mutual
  pub data RulesOf (hypotheses : List NamedTerm) : NamedTerm → List Nameless → Type 0 where
    rules_of_form : (conclusion : NamedTerm) (rules : List Nameless) → RulesOfForm hypotheses conclusion (rule_form conclusion) rules → RulesOf hypotheses conclusion rules

  pub data RulesOfForm (hypotheses : List NamedTerm) : NamedTerm → RuleForm → List Nameless → Type 0 where
    of_both : (whole p q : NamedTerm) (first second : List Nameless) → RulesOf hypotheses p first → RulesOf hypotheses q second
        → RulesOfForm hypotheses whole (both p q) (first ++ second)
    -- the variable gets primes until it is free neither in the hypotheses nor in the conclusion; where no binder in the body
    -- captures the new name, the instance is the body with that name, and bound names are the body's
    of_every : (whole : NamedTerm) (bound : Abstracted) (fresh : List ℕ) (instance : NamedTerm) (rules : List Nameless)
        → IsFirstFree (λ other. is_free_in_some (whole ∷ hypotheses) other bound.ty) bound.name fresh
        → image instance ≡ put (only bound.name bound.ty (free fresh bound.ty)) (image bound.body)
        → (image (with_new_name bound.name bound.ty fresh bound.body) ≡ put (only bound.name bound.ty (free fresh bound.ty)) (image bound.body)
        → instance ≡ with_new_name bound.name bound.ty fresh bound.body)
        → RulesOf hypotheses instance rules → RulesOfForm hypotheses whole (every bound) rules
    of_equal : (whole a b : NamedTerm) → RulesOfForm hypotheses whole (equal a b) (image whole ∷ [])
    of_denied : (whole p : NamedTerm) → RulesOfForm hypotheses whole (denied p) (image (equation p false_term) ∷ [])
    of_stated : (whole p : NamedTerm) → RulesOfForm hypotheses whole (stated p) (image (equation p true_term) ∷ [])
