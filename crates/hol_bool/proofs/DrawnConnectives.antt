-- The rules of the connectives draw what their outcomes state.
use Rattle.std.proofs.Common.{◌≡◌, ℕ, List, [], ◌∷◌, ◌++◌, map, Bool, true, false, ◌&&◌, if◌then◌else◌, refl, sym, ◌∙◌, ap, subst, Option, Some, None, append_assoc}
use Rattle.std.specs.Str.{bytes_eq}
use Rattle.hol_model.specs.declared.fault.Fault.TheVariants.{BadShape, NotBool, NotAlpha}
use Rattle.hol_model.specs.Terms.HolType.{HolType, bool_type}
use Rattle.hol_model.specs.Terms.NamedTerm.{NamedTerm, variable, constant, combination, abstraction, type_of, same_variable}
use Rattle.hol_model.specs.Terms.Nameless.{Nameless, const, app, image, same_term}
use Rattle.hol_model.specs.Logic.Logic.{logical_definitions, true_name, and_name, or_name, implies_name, false_name, not_name, unary, binary}
use Rattle.hol_model.specs.Logic.Theory.{Theory, IsLegal, IsKnown, generic_type, equality_name, equality_type}
use Rattle.hol_model.specs.Kernel.Theorem.{Theorem}
use Rattle.hol_model.specs.Logic.Derivable.{without}
use Rattle.hol_model.specs.Kernel.Outcome.{unless, given as stated_given, refused}
use Rattle.hol_model.specs.Kernel.Rules.{dest_equation, first_unknown, is_formula}
use Rattle.hol_model.specs.Derived.DerivedRules.{images, stated, conjunct1_outcome, conjunct2_outcome, disch_outcome, undisch_outcome, mp_outcome}
use Rattle.hol_model.specs.Derived.DerivedRules.{disj1_outcome, disj2_outcome, disj_cases_outcome, contr_outcome, not_intro_outcome, not_elim_outcome}
use Rattle.hol_model.specs.Derived.DerivedRules.{eqt_elim_outcome}
use Rattle.hol_model.specs.declared.rule.Rule.TheVariants as rules
use Rattle.hol_model.specs.Logic.NamedLogic as named
use Rattle.hol_model.specs.Logic.NamelessLogic as nameless
use Rattle.hol_model.specs.Logic.Logic as nameless_formulas
use Rattle.hol_model.specs.Derived.Inference.{given, require, conclude, all, all_but, drawn, unchanged, is_known_formula}
use Rattle.hol_model.proofs.Tests.{same_variable-self, same_term-Decides}
use Rattle.hol_model.proofs.Terms.Images.{image-type}
use Rattle.hol_model.proofs.Logic.Known.{equation-sides}
use Rattle.hol_kernel.proofs.RuleLemmas.{sides}
use Rattle.hol_journal.specs.Journal.{Journal}
use Rattle.hol_prelude.specs.HasLogic.{HasLogic}
use Rattle.hol_equal.specs.Formulas.{IsFormula, AreSides, IsNegated}
use Rattle.hol_prelude.specs.declared.stored.Bool.{Bool as Stored}
use Rattle.hol_bool.proofs.LogicLemmas.{logical-type, connected-parts, negated-part, constant-is}
use Rattle.hol_equal.proofs.DrawnTerms.{StatesDrawn, IsPremise, Draws, walked, not-constant, one_premise, two_premises, unchanged_all, same_set}
use Rattle.hol_equal.proofs.DrawnEquality.{other-name, drawn-of_one, drawn-of_two}

-- ---- parts

-- the image of a term without the connective has none
pub not-applied : (name : List ℕ) (s : HolType) (term : NamedTerm) → named.dest_connected name term ≡ None → nameless.dest_binary name s (image term) ≡ None
not-applied name s (combination (combination (constant other ty) left) right) none = go (bytes_eq other name) refl none
  where
    go : (test : Bool) → bytes_eq other name ≡ test → if◌then◌else◌ {A = Option (NamedTerm × NamedTerm)} test (Some (left, right)) None ≡ None
        → nameless.dest_binary name s (app (app (const other ty) (image left)) (image right)) ≡ None
    go true is none = cc
    go false is none = rw (other-name name other s ty is) refl
not-applied name s (combination (combination (variable other ty) left) right) none = refl
not-applied name s (combination (combination (combination f x) left) right) none = refl
not-applied name s (combination (combination (abstraction other ty body) left) right) none = refl
not-applied name s (combination (variable other ty) right) none = refl
not-applied name s (combination (constant other ty) right) none = refl
not-applied name s (combination (abstraction other ty body) right) none = refl
not-applied name s (variable other ty) none = refl
not-applied name s (constant other ty) none = refl
not-applied name s (abstraction other ty body) none = refl

-- an equation is taken apart as a connective is
pub equation-connected : (term : NamedTerm) → dest_equation term ≡ named.dest_connected equality_name term
equation-connected (combination (combination (constant other ty) left) right) = refl
equation-connected (combination (combination (variable other ty) left) right) = refl
equation-connected (combination (combination (combination f x) left) right) = refl
equation-connected (combination (combination (abstraction other ty body) left) right) = refl
equation-connected (combination (variable other ty) right) = refl
equation-connected (combination (constant other ty) right) = refl
equation-connected (combination (abstraction other ty body) right) = refl
equation-connected (variable other ty) = refl
equation-connected (constant other ty) = refl
equation-connected (abstraction other ty body) = refl

abbrev pair : Nameless → Nameless → Option (Nameless × Nameless)
pair left right = Some (left, right)

-- the image of a term with the connective has it
connected-image : (theory : Theory) (name : List ℕ) (term left right : NamedTerm) → AreSides theory name term left right
    → nameless.dest_binary name binary (image term) ≡ pair (image left) (image right)
connected-image theory name term left right sides =
    ap (λ (t : NamedTerm). nameless.dest_binary name binary (image t)) sides.is ∙ rw (same_variable-self name binary) refl

-- a formula under a connective, or without it, as its image shows
pub data Connected (theory : Theory) (name : List ℕ) (term : NamedTerm) : Type 0 where
  parted : (left right : NamedTerm) → named.dest_connected name term ≡ Some (left, right) → AreSides theory name term left right
      → nameless.dest_binary name binary (image term) ≡ Some (image left, image right) → Connected theory name term
  apart : named.dest_connected name term ≡ None → nameless.dest_binary name binary (image term) ≡ None → Connected theory name term

pub connected : (theory : Theory) (name : List ℕ) → generic_type theory name ≡ Some binary → (term : NamedTerm) → IsFormula theory term → Connected theory name term
connected theory name generic term formula = go (named.dest_connected name term) refl
  where
    go : (found : Option (NamedTerm × NamedTerm)) → named.dest_connected name term ≡ found → Connected theory name term
    go None is = apart is (not-applied name binary term is)
    go (Some (left, right)) is =
        let sides = connected-parts theory name generic term left right is formula.known in
        parted left right is sides (connected-image theory name term left right sides)

-- the image of no negation is none
not-negation : (term : NamedTerm) → named.dest_negation term ≡ None → nameless.dest_negation (image term) ≡ None
not-negation (combination (constant other ty) part) none = go (bytes_eq other not_name) refl none
  where
    go : (test : Bool) → bytes_eq other not_name ≡ test → (if test then Some part else None) ≡ None → nameless.dest_negation (app (const other ty) (image part)) ≡ None
    go true is none = cc
    go false is none = rw (other-name not_name other unary ty is) refl
not-negation (combination (variable other ty) part) none = refl
not-negation (combination (combination f x) part) none = refl
not-negation (combination (abstraction other ty body) part) none = refl
not-negation (variable other ty) none = refl
not-negation (constant other ty) none = refl
not-negation (abstraction other ty body) none = refl

-- the image of a negation is one
negation-image : (theory : Theory) (term part : NamedTerm) → IsNegated theory term part → nameless.dest_negation (image term) ≡ Some (image part)
negation-image theory term part negated = ap (λ (t : NamedTerm). nameless.dest_negation (image t)) negated.is

-- ---- rules

module _ (journal : Journal) (logic : Stored) (has : HasLogic journal logic) (legal : IsLegal journal.theory) where
  at : (name : List ℕ) → generic_type logical_definitions name ≡ Some binary → (a : Theorem) → IsPremise journal.theory a → Connected journal.theory name a.conclusion
  at name generic a premise = connected journal.theory name (logical-type journal logic has legal name binary generic) a.conclusion premise

  pub drawn-conjunct1 : (a : Theorem) → IsPremise journal.theory a → Draws journal.theory rules.Conjunct1 (a ∷ []) (conjunct1_outcome a)
  drawn-conjunct1 a premise = elim (at and_name refl a premise) [
    | parted left right dest sides shown ↦ rw (dest, shown) (drawn-of_one a left (image left) refl)
    | apart dest shown ↦ rw (dest, shown) tt
  ]

  pub drawn-conjunct2 : (a : Theorem) → IsPremise journal.theory a → Draws journal.theory rules.Conjunct2 (a ∷ []) (conjunct2_outcome a)
  drawn-conjunct2 a premise = elim (at and_name refl a premise) [
    | parted left right dest sides shown ↦ rw (dest, shown) (drawn-of_one a right (image right) refl)
    | apart dest shown ↦ rw (dest, shown) tt
  ]

  pub drawn-undisch : (a : Theorem) → IsPremise journal.theory a → Draws journal.theory rules.Undisch (a ∷ []) (undisch_outcome a)
  drawn-undisch a premise = elim (at implies_name refl a premise) [
    | parted left right dest sides shown ↦ rw (dest, shown) (record { hypotheses = same_set (ap (λ (h : List Nameless). image left ∷ h) (sym (one_premise (images a)))); conclusion = refl })
    | apart dest shown ↦ rw (dest, shown) tt
  ]

  pub drawn-mp : (a b : Theorem) → IsPremise journal.theory a → Draws journal.theory rules.Mp (a ∷ b ∷ []) (mp_outcome a b)
  drawn-mp a b premise = elim (at implies_name refl a premise) [
    | parted left right dest sides shown ↦ rw (dest, shown) (go left right (same_term (image left) (image b.conclusion)))
    | apart dest shown ↦ rw (dest, shown) tt
  ]
    where
      go : (left right : NamedTerm) (test : Bool) → StatesDrawn (unless test NotAlpha (stated (images a ++ images b) right))
          (given (require test (conclude (all ∷ all ∷ []) (image right))) (λ inference. drawn inference (images a ∷ images b ∷ [])))
      go left right true = drawn-of_two a b right (image right) refl
      go left right false = tt

  pub drawn-disj_cases : (a b c : Theorem) → IsPremise journal.theory a → Draws journal.theory rules.DisjCases (a ∷ b ∷ c ∷ []) (disj_cases_outcome a b c)
  drawn-disj_cases a b c premise = elim (at or_name refl a premise) [
    | parted left right dest sides shown ↦ rw (dest, shown) (go left right (same_term (image b.conclusion) (image c.conclusion)))
    | apart dest shown ↦ rw (dest, shown) tt
  ]
    where
      passes : (p q : Nameless) → (images a ++ without p (images b) ++ without q (images c)) ≡
          (map unchanged (images a) ++ (map unchanged (without p (images b)) ++ (map unchanged (without q (images c)) ++ [])))
      passes p q = append_assoc (images a) (without p (images b)) (without q (images c)) ∙ (λ i. sym (unchanged_all (images a)) i ++ sym (two_premises (without p (images b)) (without q (images c))) i)

      go : (left right : NamedTerm) (test : Bool) → StatesDrawn (unless test NotAlpha (stated (images a ++ without (image left) (images b) ++ without (image right) (images c)) b.conclusion))
          (given (require test (conclude (all ∷ all_but (image left) ∷ all_but (image right) ∷ []) (image b.conclusion))) (λ inference. drawn inference (images a ∷ images b ∷ images c ∷ [])))
      go left right true = record { hypotheses = same_set (passes (image left) (image right)); conclusion = refl }
      go left right false = tt

  pub drawn-not_elim : (a : Theorem) → IsPremise journal.theory a → Draws journal.theory rules.NotElim (a ∷ []) (not_elim_outcome a)
  drawn-not_elim a premise = go (named.dest_negation a.conclusion) refl
    where
      go : (found : Option NamedTerm) → named.dest_negation a.conclusion ≡ found
          → StatesDrawn (stated_given found BadShape (λ p. stated (images a) (named.implication p named.false_term)))
          (given (given (nameless.dest_negation (image a.conclusion))
          (λ p. conclude (all ∷ []) (nameless_formulas.implication p nameless_formulas.false_term)))
          (λ inference. drawn inference (images a ∷ [])))
      go None is = rw (not-negation a.conclusion is) tt
      go (Some p) is =
          let part = negated-part journal.theory (logical-type journal logic has legal not_name unary refl) a.conclusion p is premise.known in
          rw (negation-image journal.theory a.conclusion p part) (drawn-of_one a (named.implication p named.false_term) (nameless_formulas.implication (image p) nameless_formulas.false_term) refl)

  -- whether a known formula is a logical constant, its image shows
  same-constant : (name : List ℕ) → generic_type logical_definitions name ≡ Some bool_type → (term : NamedTerm) (ty : HolType) → IsKnown journal.theory (image term) ty
      → same_term (image term) (const name bool_type) ≡ named.is_constant_named name term
  same-constant name generic term ty known = go (named.is_constant_named name term) refl
    where
      go : (test : Bool) → named.is_constant_named name term ≡ test → same_term (image term) (const name bool_type) ≡ test
      go true is =
          let term_is = constant-is journal.theory name term ty (logical-type journal logic has legal name bool_type generic) is known in
          ap (λ (t : NamedTerm). same_term (image t) (const name bool_type)) term_is ∙ (same_term-Decides (const name bool_type) (const name bool_type)).1 refl
      go false is = not-constant name bool_type term is

  pub drawn-not_intro : (a : Theorem) → IsPremise journal.theory a → Draws journal.theory rules.NotIntro (a ∷ []) (not_intro_outcome a)
  drawn-not_intro a premise = elim (at implies_name refl a premise) [
    | parted left right dest sides shown ↦ rw (dest, shown, same-constant false_name refl right bool_type sides.right_formula.known) (go left (named.is_false right))
    | apart dest shown ↦ rw (dest, shown) tt
  ]
    where
      go : (left : NamedTerm) (test : Bool) → StatesDrawn (unless test BadShape (stated (images a) (named.negation left)))
          (given (require test (conclude (all ∷ []) (nameless.negation (image left)))) (λ inference. drawn inference (images a ∷ [])))
      go left true = drawn-of_one a (named.negation left) (nameless.negation (image left)) refl
      go left false = tt

  pub drawn-contr : (p : NamedTerm) (ty : HolType) (a : Theorem) → type_of p ≡ Some ty → IsPremise journal.theory a → Draws journal.theory (rules.Contr p) (a ∷ []) (contr_outcome journal.theory p a)
  drawn-contr p ty a typed premise = rw (same-constant false_name refl a.conclusion bool_type premise.known) (go (named.is_false a.conclusion))
    where
      go : (test : Bool) → StatesDrawn (unless test BadShape (unless (is_formula p) NotBool (refused (first_unknown journal.theory p) (stated (images a) p))))
          (given (require (test && is_known_formula journal.theory (image p)) (conclude (all ∷ []) (image p))) (λ inference. drawn inference (images a ∷ [])))
      go true =
          walked journal.theory p ty bool_type typed NotBool (stated (images a) p) (record { passing = all ∷ []; supposed = []; conclusion = image p }) (λ inference. drawn inference (images a ∷ []))
          (drawn-of_one a p (image p) refl)
      go false = tt

  pub drawn-eqt_elim : (a : Theorem) → IsPremise journal.theory a → Draws journal.theory rules.EqtElim (a ∷ []) (eqt_elim_outcome a)
  drawn-eqt_elim a premise = go (dest_equation a.conclusion) refl
    where
      at_type : (left right : NamedTerm) (s : HolType) (test : Bool)
          → same_variable equality_name (equality_type bool_type) equality_name (equality_type s) ≡ test → (truth : Bool)
          → named.is_true right ≡ truth
          → same_term (image right) nameless_formulas.true_term ≡ truth → IsKnown journal.theory (image right) s
          → StatesDrawn (unless truth BadShape (stated (images a) left))
          (given (given (if◌then◌else◌ {A = Option (Nameless × Nameless)} test (Some (image left, image right)) None)
          (λ sides. require (same_term sides.1 nameless_formulas.true_term) (conclude (all ∷ []) sides.0)))
          (λ inference. drawn inference (images a ∷ [])))
      at_type left right s true tested true is shown known = rw shown (drawn-of_one a left (image left) refl)
      at_type left right s true tested false is shown known = rw shown tt
      at_type left right s false tested false is shown known = tt
      at_type left right s false tested true is shown known =
          let right_is = constant-is journal.theory true_name right s (logical-type journal logic has legal true_name bool_type refl) is known in
          let typed : Some bool_type ≡ Some s = sym (ap type_of right_is) ∙ image-type right s known.typed in
          let ty_is : bool_type ≡ s = cc in
          let same : same_variable equality_name (equality_type bool_type) equality_name (equality_type s) ≡ true =
          ap (λ (t : HolType). same_variable equality_name (equality_type bool_type) equality_name (equality_type t)) (sym ty_is) in
          cc

      go : (found : Option (NamedTerm × NamedTerm)) → dest_equation a.conclusion ≡ found
          → StatesDrawn (stated_given found BadShape (λ sides. unless (named.is_true sides.1) BadShape (stated (images a) sides.0)))
          (given (given (nameless.dest_equivalence (image a.conclusion))
          (λ sides. require (same_term sides.1 nameless_formulas.true_term) (conclude (all ∷ []) sides.0)))
          (λ inference. drawn inference (images a ∷ [])))
      go None is = rw (not-applied equality_name (equality_type bool_type) a.conclusion (sym (equation-connected a.conclusion) ∙ is)) tt
      go (Some (left, right)) is =
          let e = sides journal.theory legal a.conclusion left right premise.known is in
          let known = equation-sides journal.theory e.ty (image left) (image right) (subst (λ (t : Nameless). IsKnown journal.theory t bool_type) e.image_is premise.known) in
          rw e.image_is
          (at_type left right e.ty (same_variable equality_name (equality_type bool_type) equality_name (equality_type e.ty)) refl (named.is_true right) refl
          (same-constant true_name refl right e.ty known.right) known.right)

-- ---- rules of a term that comes in

pub drawn-disch : (theory : Theory) (p : NamedTerm) (ty : HolType) (a : Theorem) → type_of p ≡ Some ty → Draws theory (rules.Disch p) (a ∷ []) (disch_outcome theory p a)
drawn-disch theory p ty a typed =
    walked theory p ty bool_type typed NotBool (stated (without (image p) (images a)) (named.implication p a.conclusion))
    (record { passing = all_but (image p) ∷ []; supposed = []; conclusion = nameless_formulas.implication (image p) (image a.conclusion) }) (λ inference. drawn inference (images a ∷ []))
    (record { hypotheses = same_set (sym (one_premise (without (image p) (images a)))); conclusion = refl })

pub drawn-disj1 : (theory : Theory) (q : NamedTerm) (ty : HolType) (a : Theorem) → type_of q ≡ Some ty → Draws theory (rules.Disj1 q) (a ∷ []) (disj1_outcome theory q a)
drawn-disj1 theory q ty a typed =
    walked theory q ty bool_type typed NotBool (stated (images a) (named.disjunction a.conclusion q))
    (record { passing = all ∷ []; supposed = []; conclusion = nameless.disjunction (image a.conclusion) (image q) }) (λ inference. drawn inference (images a ∷ []))
    (drawn-of_one a (named.disjunction a.conclusion q) (nameless.disjunction (image a.conclusion) (image q)) refl)

pub drawn-disj2 : (theory : Theory) (p : NamedTerm) (ty : HolType) (a : Theorem) → type_of p ≡ Some ty → Draws theory (rules.Disj2 p) (a ∷ []) (disj2_outcome theory p a)
drawn-disj2 theory p ty a typed =
    walked theory p ty bool_type typed NotBool (stated (images a) (named.disjunction p a.conclusion))
    (record { passing = all ∷ []; supposed = []; conclusion = nameless.disjunction (image p) (image a.conclusion) }) (λ inference. drawn inference (images a ∷ []))
    (drawn-of_one a (named.disjunction p a.conclusion) (nameless.disjunction (image p) (image a.conclusion)) refl)
