-- What each rule makes of its premises. The conclusions of the premises and the rule's own terms determine the
-- conclusion, and for each premise which of its hypotheses pass, whatever these are.
use Rattle.std.specs.Prelude.{ℕ, List, [], ◌∷◌, ◌++◌, map, Bool, true, false, ◌&&◌, ◌||◌, not, Option, Some, None, if◌then◌else◌}
use Rattle.std.specs.List.{list_all}
use Rattle.std.specs.Option.{option_map, option_and_then}
use Rattle.hol_model.specs.Terms.HolType.{HolType, bool_type, function_type, type_eq, dest_function_type, type_instance_of, replaces_type_variables}
use Rattle.hol_model.specs.Terms.NamedTerm.{NamedTerm, Binder, dest_variable}
use Rattle.hol_model.specs.Terms.Nameless.{Nameless, free, app, lam, image, nameless_type, same_term}
use Rattle.hol_model.specs.Terms.Substitution.{close, fill, put, instantiate, occurs_free, replacement, replaces_variables}
use Rattle.hol_model.specs.Logic.Theory.{Theory}
use Rattle.hol_model.specs.Logic.KnownTerm.{knows_type}
use Rattle.hol_model.specs.Logic.Derivable.{nameless_equation, without, eta_axiom, select_hypothesis, select_conclusion}
use Rattle.hol_model.specs.Logic.Logic.{true_term, false_term, conjunction, implication, forall_term}
use Rattle.hol_model.specs.Logic.Checks.{knows_nameless}
use Rattle.hol_model.specs.Kernel.Rules.{dest_trivial_redex}
use Rattle.hol_model.specs.Derived.DerivedRules.{is_among}
use Rattle.hol_model.specs.Goals.Goals.{Sequent}
use Rattle.hol_model.specs.Logic.NamelessLogic.{disjunction, negation, dest_equation, dest_equivalence, dest_conjunction, dest_disjunction, dest_implication, dest_negation, dest_forall}
use Rattle.hol_model.specs.Logic.NamelessLogic.{dest_exists, dest_redex}
use Rattle.hol_model.specs.Derived.InferenceRules.{InferenceRule}
use Rattle.hol_model.specs.declared.rule.Rule.TheVariants as rules

-- which hypotheses of a premise pass, and as what
pub record Passing : Type 0 where
  -- the premise counts only where this term, if any, is a hypothesis of the next premise
  pub wanted : Option Nameless
  -- this term, if any, is taken out
  pub dropped : Option Nameless
  -- this variable, if any, may be free in none of the others
  pub fresh : Option Binder
  -- what stands for each of the others
  pub change : Nameless → Nameless

-- what a rule makes of premises with given conclusions
pub record Inference : Type 0 where
  pub passing : List Passing
  pub supposed : List Nameless
  pub conclusion : Nameless

-- how hypotheses pass

abbrev pub unchanged : Nameless → Nameless
unchanged term = term

-- all pass
abbrev pub all : Passing
all = record { wanted = None; dropped = None; fresh = None; change = unchanged }

-- all but one term
abbrev pub all_but : Nameless → Passing
all_but term = record { wanted = None; dropped = Some term; fresh = None; change = unchanged }

-- all, and the variable is free in none
abbrev pub all_without_variable : List ℕ → HolType → Passing
all_without_variable name ty = record { wanted = None; dropped = None; fresh = Some (name, ty); change = unchanged }

-- all but one term, and the variable is free in none of them
abbrev pub all_but_without_variable : Nameless → List ℕ → HolType → Passing
all_but_without_variable term name ty = record { wanted = None; dropped = Some term; fresh = Some (name, ty); change = unchanged }

-- all, each changed
abbrev pub all_changed : (Nameless → Nameless) → Passing
all_changed change = record { wanted = None; dropped = None; fresh = None; change = change }

-- all, where the term is a hypothesis of the next premise
abbrev pub all_where_wanted : Nameless → Passing
all_where_wanted term = record { wanted = Some term; dropped = None; fresh = None; change = unchanged }

abbrev pub without_some : Option Nameless → List Nameless → List Nameless
without_some None terms = terms
without_some (Some term) terms = without term terms

abbrev pub is_free_in_none : Option Binder → List Nameless → Bool
is_free_in_none None terms = true
is_free_in_none (Some binder) terms = list_all (λ term. not (occurs_free binder.0 binder.1 term)) terms

abbrev pub is_wanted : Option Nameless → List (List Nameless) → Bool
is_wanted None later = true
is_wanted (Some term) [] = false
is_wanted (Some term) (next ∷ later) = is_among term next

-- what passes of the hypotheses of one premise, before those of later premises
abbrev pub passed_of_one : Passing → List Nameless → List (List Nameless) → List Nameless
passed_of_one passing hypotheses later =
    if is_wanted passing.wanted later then map passing.change (without_some passing.dropped hypotheses) else []

-- what passes of the hypotheses of all premises
abbrev pub passed : List Passing → List (List Nameless) → Option (List Nameless)
passed [] [] = Some []
passed [] (hypotheses ∷ later) = None
passed (passing ∷ rest) [] = None
passed (passing ∷ rest) (hypotheses ∷ later) =
    if is_free_in_none passing.fresh (without_some passing.dropped hypotheses)
    then option_map (λ others. passed_of_one passing hypotheses later ++ others) (passed rest later)
    else None

-- what a rule makes of the conclusions of its premises

abbrev pub require : {A : Type 0} → Bool → Option A → Option A
require true answer = answer
require false answer = None

abbrev pub given : {A B : Type 0} → Option A → (A → Option B) → Option B
given found rest = option_and_then rest found

abbrev pub is_known_formula : Theory → Nameless → Bool
is_known_formula theory term = knows_nameless theory term bool_type

-- the term has a type, and is known
abbrev pub is_known_term : Theory → Nameless → Bool
is_known_term theory term = knows_nameless theory term (nameless_type [] term)

abbrev pub conclude : List Passing → Nameless → Option Inference
conclude passing conclusion = Some (record { passing = passing; supposed = []; conclusion = conclusion })

abbrev pub conclude_supposing : List Passing → Nameless → Nameless → Option Inference
conclude_supposing passing supposed conclusion = Some (record { passing = passing; supposed = supposed ∷ []; conclusion = conclusion })

-- each new term is known, and of the type of the variable that it replaces
abbrev pub may_replace : Theory → List (NamedTerm × NamedTerm) → Bool
may_replace theory theta =
    replaces_variables theta && list_all (λ pair. knows_nameless theory (image pair.0) (nameless_type [] (image pair.1))) theta

abbrev pub may_replace_types : Theory → List (HolType × HolType) → Bool
may_replace_types theory theta = replaces_type_variables theta && list_all (λ pair. knows_type theory pair.0) theta

abbrev pub inst_term : List (NamedTerm × NamedTerm) → Nameless → Nameless
inst_term theta term = put (replacement theta) term

abbrev pub inst_type_term : List (HolType × HolType) → Nameless → Nameless
inst_type_term theta term = instantiate (type_instance_of theta) term

abbrev pub infer : Theory → InferenceRule → List Nameless → Option Inference
-- |- t = t
infer theory (rules.Refl t) [] =
    require (is_known_term theory (image t)) (conclude [] (nameless_equation (nameless_type [] (image t)) (image t) (image t)))
-- a = b and b = c give a = c
infer theory rules.Trans (first ∷ second ∷ []) =
    given (dest_equation first) (λ left.
    given (dest_equation second) (λ right.
    require (same_term left.right right.left && type_eq left.ty right.ty)
    (conclude (all ∷ all ∷ []) (nameless_equation left.ty left.left right.right))))
-- f = g and x = y give f x = g y
infer theory rules.MkComb (first ∷ second ∷ []) =
    given (dest_equation first) (λ functions.
    given (dest_equation second) (λ arguments.
    given (dest_function_type functions.ty) (λ arrow.
    require (type_eq arrow.0 arguments.ty)
    (conclude (all ∷ all ∷ []) (nameless_equation arrow.1 (app functions.left arguments.left) (app functions.right arguments.right))))))
-- s = t gives (\x. s) = (\x. t), x free in no hypothesis
infer theory (rules.Abs x) (premise ∷ []) =
    given (dest_variable x) (λ binder.
    given (dest_equation premise) (λ sides.
    require (knows_type theory binder.1)
    (conclude (all_without_variable binder.0 binder.1 ∷ [])
    (nameless_equation (function_type binder.1 sides.ty) (lam binder.1 (close binder.0 binder.1 sides.left)) (lam binder.1 (close binder.0 binder.1 sides.right))))))
-- |- (\x. t) x = t
infer theory (rules.Beta t) [] =
    given (dest_trivial_redex t) (λ body.
    require (is_known_term theory (image t))
    (conclude [] (nameless_equation (nameless_type [] (image t)) (image t) (image body))))
-- p |- p
infer theory (rules.Assume p) [] = require (is_known_formula theory (image p)) (conclude_supposing [] (image p) (image p))
-- p <=> q and p give q
infer theory rules.EqMp (first ∷ second ∷ []) =
    given (dest_equivalence first) (λ sides.
    require (same_term sides.0 second)
    (conclude (all ∷ all ∷ []) sides.1))
-- p and q give p <=> q, each without the other among its hypotheses
infer theory rules.DeductAntisym (p ∷ q ∷ []) = conclude (all_but q ∷ all_but p ∷ []) (nameless_equation bool_type p q)
infer theory (rules.Inst theta) (premise ∷ []) =
    require (may_replace theory theta.items) (conclude (all_changed (inst_term theta.items) ∷ []) (inst_term theta.items premise))
infer theory (rules.InstType theta) (premise ∷ []) =
    require (may_replace_types theory theta.items) (conclude (all_changed (inst_type_term theta.items) ∷ []) (inst_type_term theta.items premise))
infer theory rules.EtaAxiom [] = conclude [] eta_axiom
infer theory rules.SelectAxiom [] = conclude_supposing [] select_hypothesis select_conclusion
-- a = b gives b = a
infer theory rules.Sym (premise ∷ []) =
    given (dest_equation premise) (λ sides. conclude (all ∷ []) (nameless_equation sides.ty sides.right sides.left))
infer theory (rules.AddAssum p) (q ∷ []) = require (is_known_formula theory (image p)) (conclude_supposing (all ∷ []) (image p) q)
-- p, and q from p, give q
infer theory rules.ProveHyp (p ∷ q ∷ []) = conclude (all_where_wanted p ∷ all_but p ∷ []) q
-- p gives p <=> T
infer theory rules.EqtIntro (p ∷ []) = conclude (all ∷ []) (nameless_equation bool_type p true_term)
infer theory rules.EqtElim (premise ∷ []) =
    given (dest_equivalence premise) (λ sides.
    require (same_term sides.1 true_term)
    (conclude (all ∷ []) sides.0))
-- |- (\x. b) a = b[a/x]
infer theory (rules.BetaConv t) [] =
    given (dest_redex (image t)) (λ redex.
    require (is_known_term theory (image t))
    (conclude [] (nameless_equation (nameless_type [] (image t)) (image t) (fill redex.argument redex.body))))
infer theory rules.Conj (p ∷ q ∷ []) = conclude (all ∷ all ∷ []) (conjunction p q)
infer theory rules.Conjunct1 (premise ∷ []) = given (dest_conjunction premise) (λ sides. conclude (all ∷ []) sides.0)
infer theory rules.Conjunct2 (premise ∷ []) = given (dest_conjunction premise) (λ sides. conclude (all ∷ []) sides.1)
-- q gives p ==> q, without the hypothesis p
infer theory (rules.Disch p) (q ∷ []) = require (is_known_formula theory (image p)) (conclude (all_but (image p) ∷ []) (implication (image p) q))
infer theory rules.Undisch (premise ∷ []) = given (dest_implication premise) (λ sides. conclude_supposing (all ∷ []) sides.0 sides.1)
infer theory rules.Mp (first ∷ second ∷ []) =
    given (dest_implication first) (λ sides.
    require (same_term sides.0 second)
    (conclude (all ∷ all ∷ []) sides.1))
-- !x. p gives p[t/x]
infer theory (rules.Spec t) (premise ∷ []) =
    given (dest_forall premise) (λ quantified.
    require (knows_nameless theory (image t) quantified.0)
    (conclude (all ∷ []) (fill (image t) quantified.1)))
-- p gives !x. p, x free in no hypothesis
infer theory (rules.Gen x) (p ∷ []) =
    given (dest_variable x) (λ binder.
    require (knows_type theory binder.1)
    (conclude (all_without_variable binder.0 binder.1 ∷ []) (forall_term binder.1 (close binder.0 binder.1 p))))
infer theory (rules.Disj1 q) (p ∷ []) = require (is_known_formula theory (image q)) (conclude (all ∷ []) (disjunction p (image q)))
infer theory (rules.Disj2 p) (q ∷ []) = require (is_known_formula theory (image p)) (conclude (all ∷ []) (disjunction (image p) q))
-- p \/ q, r from p, and r from q give r
infer theory rules.DisjCases (premise ∷ first ∷ second ∷ []) =
    given (dest_disjunction premise) (λ sides.
    require (same_term first second)
    (conclude (all ∷ all_but sides.0 ∷ all_but sides.1 ∷ []) first))
infer theory (rules.Contr p) (premise ∷ []) =
    require (same_term premise false_term && is_known_formula theory (image p)) (conclude (all ∷ []) (image p))
infer theory rules.NotIntro (premise ∷ []) =
    given (dest_implication premise) (λ sides.
    require (same_term sides.1 false_term)
    (conclude (all ∷ []) (negation sides.0)))
infer theory rules.NotElim (premise ∷ []) = given (dest_negation premise) (λ p. conclude (all ∷ []) (implication p false_term))
-- p[w/x] gives ?x. p
infer theory (rules.Exists e w) (premise ∷ []) =
    given (dest_exists (image e)) (λ quantified.
    require (is_known_formula theory (image e) && knows_nameless theory (image w) quantified.0 && same_term (fill (image w) quantified.1) premise)
    (conclude (all ∷ []) (image e)))
-- ?x. p, and q from p[v/x], give q, v free neither in these nor in other hypotheses of q
infer theory (rules.Choose v) (premise ∷ q ∷ []) =
    given (dest_variable v) (λ binder.
    given (dest_exists premise) (λ quantified.
    require (type_eq binder.1 quantified.0 && not (occurs_free binder.0 binder.1 premise || occurs_free binder.0 binder.1 q))
    (conclude (all ∷ all_but_without_variable (fill (free binder.0 binder.1) quantified.1) binder.0 binder.1 ∷ []) q)))
infer theory rule conclusions = None

-- the conclusion, under what is supposed and what passes
abbrev pub drawn : Inference → List (List Nameless) → Option Sequent
drawn inference hypotheses =
    option_map (λ others. record { hypotheses = inference.supposed ++ others; conclusion = inference.conclusion }) (passed inference.passing hypotheses)

abbrev pub conclusions_of : List Sequent → List Nameless
conclusions_of sequents = map (λ sequent. sequent.conclusion) sequents

abbrev pub hypotheses_of : List Sequent → List (List Nameless)
hypotheses_of sequents = map (λ sequent. sequent.hypotheses) sequents

-- the sequent that a rule makes of its premises; none where their number is wrong or the rule refuses
abbrev pub rule_sequent : Theory → InferenceRule → List Sequent → Option Sequent
rule_sequent theory rule premises = given (infer theory rule (conclusions_of premises)) (λ inference. drawn inference (hypotheses_of premises))
