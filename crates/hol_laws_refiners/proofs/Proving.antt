-- What rules of inference prove of what their premises prove.
use Rattle.std.proofs.Common.{◌≡◌, ◌⊎◌, ℕ, List, [], ◌∷◌, ◌++◌, map, Bool, true, false, ◌&&◌, ◌||◌, not, refl, sym, subst, inl, inr, Option, Some, if◌then◌else◌}
use Rattle.hol_model.specs.Terms.HolType.{HolType, bool_type, type_eq}
use Rattle.hol_model.specs.Terms.NamedTerm.{NamedTerm, variable}
use Rattle.hol_model.specs.Terms.Nameless.{Nameless, free, const, app, lam, image, same_term}
use Rattle.hol_model.specs.Terms.Substitution.{close, fill, occurs_free}
use Rattle.hol_model.specs.Logic.Theory.{Theory, IsKnown, IsKnownType}
use Rattle.hol_model.specs.Logic.KnownTerm.{knows_type}
use Rattle.hol_model.specs.Logic.Checks.{knows_nameless}
use Rattle.hol_model.specs.Logic.Derivable.{IsMember, nameless_equation, without}
use Rattle.hol_model.specs.Logic.Logic.{true_term, false_term, conjunction, implication, forall_term, exists_name, quantifier}
use Rattle.hol_model.specs.Logic.NamelessLogic.{disjunction, negation, dest_exists}
use Rattle.hol_model.specs.Goals.Goals.{Sequent}
use Rattle.hol_model.specs.Derived.DerivedRules.{is_among}
use Rattle.hol_model.specs.Derived.InferenceRules.{InferenceRule}
use Rattle.hol_model.specs.declared.rule.Rule.TheVariants as rules
use Rattle.hol_model.specs.Derived.Inference.{infer, require, conclude, all, all_but_without_variable, given, drawn, rule_sequent, unchanged, is_free_in_none, is_known_term, is_known_formula}
use Rattle.hol_model.proofs.Logic.Checks.{knows_nameless-Decides}
use Rattle.hol_model.proofs.Terms.TypeTests.{knows_type-Decides}
use Rattle.hol_model.proofs.Terms.HolTypeEq.{type_eq-Decides}
use Rattle.hol_model.proofs.Tests.{same_term-Decides, same_variable-self}
use Rattle.hol_model.proofs.Terms.Typing.{nameless_type-is}
use Rattle.hol_model.proofs.Terms.Membership.{of_append, of_map}
use Rattle.hol_model.proofs.Logic.Known.{of_without}
use Rattle.hol_model.proofs.Logs.LogTests.{close-fill}
use Rattle.hol_model.specs.Goals.Strength.{Includes}
use Rattle.hol_model.specs.Goals.Justifications.{joined}
use Rattle.hol_laws_steps.proofs.Members.{differs, list_all-from}

-- a sequent is there, of this conclusion, and from no other hypotheses than these
pub record Proves (h : List Nameless) (c : Nameless) (answer : Option Sequent) : Type 0 where
  pub sequent : Sequent
  pub is_given : answer ≡ Some sequent
  pub same_conclusion : sequent.conclusion ≡ c
  pub included : Includes sequent.hypotheses h

-- ---- lists

of_passed : (h k : List Nameless) → Includes h k → Includes (map unchanged h) k
of_passed h k included x member = let found = of_map unchanged x h member in subst (λ (y : Nameless). IsMember y k) (sym found.2) (included found.0 found.1)

pub both_included : (a b k : List Nameless) → Includes a k → Includes b k → Includes (a ++ b) k
both_included a b k first second x member = elim (of_append x a b member) [ inl left ↦ first x left | inr right ↦ second x right ]

pub none_included : (k : List Nameless) → Includes [] k
none_included k x member = absurd member

pub one_included : (term : Nameless) (k : List Nameless) → IsMember term k → Includes (term ∷ []) k
one_included term k there x (inl same) = subst (λ (y : Nameless). IsMember y k) (sym same) there
one_included term k there x (inr member) = absurd member

-- what passes of one premise, of two and of three
from_one : (h k : List Nameless) → Includes h k → Includes (map unchanged h ++ []) k
from_one h k a = both_included (map unchanged h) [] k (of_passed h k a) (none_included k)

from_two : (g h k : List Nameless) → Includes g k → Includes h k → Includes (map unchanged g ++ (map unchanged h ++ [])) k
from_two g h k a b = both_included (map unchanged g) (map unchanged h ++ []) k (of_passed g k a) (from_one h k b)

from_three : (f g h k : List Nameless) → Includes f k → Includes g k → Includes h k → Includes (map unchanged f ++ (map unchanged g ++ (map unchanged h ++ []))) k
from_three f g h k a b c = both_included (map unchanged f) (map unchanged g ++ (map unchanged h ++ [])) k (of_passed f k a) (from_two g h k b c)

-- hypotheses without a term, of which they have this one more
pub without_last : (term : Nameless) (h k : List Nameless) → Includes h (k ++ term ∷ []) → Includes (without term h) k
without_last term h k included x member = go (of_append x k (term ∷ []) (included x (of_without x term h member)))
  where
    go : IsMember x k ⊎ IsMember x (term ∷ []) → IsMember x k
    go (inl there) = there
    go (inr (inl same)) = let other : same_term x term ≡ false = differs x term h member in let is : same_term x term ≡ true = (same_term-Decides x term).1 same in cc
    go (inr (inr member)) = absurd member

same_term-self : (t : Nameless) → same_term t t ≡ true
same_term-self t = (same_term-Decides t t).1 refl

-- the variable is free in none of the hypotheses
pub absent-test : (name : List ℕ) (ty : HolType) (h : List Nameless) → ((x : Nameless) → IsMember x h → occurs_free name ty x ≡ false) → is_free_in_none (Some (name, ty)) h ≡ true
absent-test name ty h absent = list_all-from (λ term. not (occurs_free name ty term)) h (λ x member. rw (absent x member) refl)

-- ---- tests of known terms

pub known_formula : (theory : Theory) (p : Nameless) → IsKnown theory p bool_type → is_known_formula theory p ≡ true
known_formula theory p known = (knows_nameless-Decides theory p bool_type).1 known

known_term : (theory : Theory) (t : Nameless) (ty : HolType) → IsKnown theory t ty → is_known_term theory t ≡ true
known_term theory t ty known =
    rw (nameless_type-is t [] ty known.typed) ((knows_nameless-Decides theory t ty).1 known)

-- ---- premises

-- the rule draws from sequents what it draws from their conclusions

module _ (theory : Theory) (rule : InferenceRule) (h : List Nameless) (c : Nameless) where
  abbrev Draws1 : Sequent → Nameless → Type 0
  Draws1 s a = Proves h c (given (infer theory rule (a ∷ [])) (λ inference. drawn inference (s.hypotheses ∷ [])))

  pub at_one : (s : Sequent) (a : Nameless) → s.conclusion ≡ a → Draws1 s a → Proves h c (rule_sequent theory rule (s ∷ []))
  at_one s a is draws = subst (Draws1 s) (sym is) draws

  abbrev Draws2 : Sequent → Sequent → Nameless × Nameless → Type 0
  Draws2 s t pair = Proves h c (given (infer theory rule (pair.0 ∷ pair.1 ∷ [])) (λ inference. drawn inference (s.hypotheses ∷ t.hypotheses ∷ [])))

  pub at_two : (s t : Sequent) (a b : Nameless) → s.conclusion ≡ a → t.conclusion ≡ b → Draws2 s t (a, b) → Proves h c (rule_sequent theory rule (s ∷ t ∷ []))
  at_two s t a b is js draws = subst (λ (x : Nameless). Draws2 s t (x, t.conclusion)) (sym is) (subst (λ (y : Nameless). Draws2 s t (a, y)) (sym js) draws)

  abbrev Draws3 : Sequent → Sequent → Sequent → Nameless × Nameless × Nameless → Type 0
  Draws3 s t u three = Proves h c (given (infer theory rule (three.0 ∷ three.1 ∷ three.2 ∷ [])) (λ inference. drawn inference (s.hypotheses ∷ t.hypotheses ∷ u.hypotheses ∷ [])))

  pub at_three : (s t u : Sequent) (a b d : Nameless) → s.conclusion ≡ a → t.conclusion ≡ b → u.conclusion ≡ d → Draws3 s t u (a, b, d)
      → Proves h c (rule_sequent theory rule (s ∷ t ∷ u ∷ []))
  at_three s t u a b d is js ks draws =
      subst (λ (x : Nameless). Draws3 s t u (x, t.conclusion, u.conclusion)) (sym is)
      (subst (λ (y : Nameless). Draws3 s t u (a, y, u.conclusion)) (sym js) (subst (λ (z : Nameless). Draws3 s t u (a, b, z)) (sym ks) draws))

  -- a rule over parts
  pub of_one : (h1 : List Nameless) (c1 : Nameless) (first : Option Sequent) → Proves h1 c1 first
      → ((s : Sequent) → s.conclusion ≡ c1 → Includes s.hypotheses h1 → Proves h c (rule_sequent theory rule (s ∷ [])))
      → Proves h c (given (joined first (Some [])) (rule_sequent theory rule))
  of_one h1 c1 first p next =
      subst (λ (x : Option Sequent). Proves h c (given (joined x (Some [])) (rule_sequent theory rule))) (sym p.is_given) (next p.sequent p.same_conclusion p.included)

  pub of_two : (h1 h2 : List Nameless) (c1 c2 : Nameless) (first second : Option Sequent) → Proves h1 c1 first → Proves h2 c2 second
      → ((s t : Sequent) → s.conclusion ≡ c1 → Includes s.hypotheses h1 → t.conclusion ≡ c2 → Includes t.hypotheses h2 → Proves h c (rule_sequent theory rule (s ∷ t ∷ [])))
      → Proves h c (given (joined first (joined second (Some []))) (rule_sequent theory rule))
  of_two h1 h2 c1 c2 first second p q next =
      subst (λ (x : Option Sequent). Proves h c (given (joined x (joined second (Some []))) (rule_sequent theory rule))) (sym p.is_given)
      (subst (λ (y : Option Sequent). Proves h c (given (joined (Some p.sequent) (joined y (Some []))) (rule_sequent theory rule))) (sym q.is_given)
      (next p.sequent q.sequent p.same_conclusion p.included q.same_conclusion q.included))

  pub of_three : (h1 h2 h3 : List Nameless) (c1 c2 c3 : Nameless) (first second third : Option Sequent) → Proves h1 c1 first → Proves h2 c2 second → Proves h3 c3 third
      → ((s t u : Sequent) → s.conclusion ≡ c1 → Includes s.hypotheses h1 → t.conclusion ≡ c2 → Includes t.hypotheses h2 → u.conclusion ≡ c3 → Includes u.hypotheses h3
      → Proves h c (rule_sequent theory rule (s ∷ t ∷ u ∷ [])))
      → Proves h c (given (joined first (joined second (joined third (Some [])))) (rule_sequent theory rule))
  of_three h1 h2 h3 c1 c2 c3 first second third p q r next =
      subst (λ (x : Option Sequent). Proves h c (given (joined x (joined second (joined third (Some [])))) (rule_sequent theory rule))) (sym p.is_given)
      (subst (λ (y : Option Sequent). Proves h c (given (joined (Some p.sequent) (joined y (joined third (Some [])))) (rule_sequent theory rule))) (sym q.is_given)
      (subst (λ (z : Option Sequent). Proves h c (given (joined (Some p.sequent) (joined (Some q.sequent) (joined z (Some [])))) (rule_sequent theory rule))) (sym r.is_given)
      (next p.sequent q.sequent r.sequent p.same_conclusion p.included q.same_conclusion q.included r.same_conclusion r.included)))

pub proved : (h : List Nameless) (s : Sequent) → Includes s.hypotheses h → Proves h s.conclusion (Some s)
proved h s included = record { sequent = s; is_given = refl; same_conclusion = refl; included = included }

-- ---- rules

exists-shape : (ty : HolType) (body : Nameless) → dest_exists (app (const exists_name (quantifier ty)) (lam ty body)) ≡ Some (ty, body)
exists-shape ty body = rw (same_variable-self exists_name (quantifier ty)) refl

module _ (theory : Theory) (h : List Nameless) where
  pub by_conj : (p q : Nameless) (s t : Sequent) → s.conclusion ≡ p → Includes s.hypotheses h → t.conclusion ≡ q → Includes t.hypotheses h
      → Proves h (conjunction p q) (rule_sequent theory rules.Conj (s ∷ t ∷ []))
  by_conj p q s t is a js b = at_two theory rules.Conj h (conjunction p q) s t p q is js (proved h _ (from_two s.hypotheses t.hypotheses h a b))

  pub by_disj1 : (p q : Nameless) (right : NamedTerm) (s : Sequent) → image right ≡ q → IsKnown theory q bool_type → s.conclusion ≡ p → Includes s.hypotheses h
      → Proves h (disjunction p q) (rule_sequent theory (rules.Disj1 right) (s ∷ []))
  by_disj1 p q right s same known is a =
      let test : is_known_formula theory (image right) ≡ true = known_formula theory (image right) (subst (λ (t : Nameless). IsKnown theory t bool_type) (sym same) known) in
      subst (λ (x : Nameless). Proves h (disjunction p x) (rule_sequent theory (rules.Disj1 right) (s ∷ []))) same
      (at_one theory (rules.Disj1 right) h (disjunction p (image right)) s p is (rw test (proved h _ (from_one s.hypotheses h a))))

  pub by_disj2 : (p q : Nameless) (left : NamedTerm) (s : Sequent) → image left ≡ p → IsKnown theory p bool_type → s.conclusion ≡ q → Includes s.hypotheses h
      → Proves h (disjunction p q) (rule_sequent theory (rules.Disj2 left) (s ∷ []))
  by_disj2 p q left s same known is a =
      let test : is_known_formula theory (image left) ≡ true = known_formula theory (image left) (subst (λ (t : Nameless). IsKnown theory t bool_type) (sym same) known) in
      subst (λ (x : Nameless). Proves h (disjunction x q) (rule_sequent theory (rules.Disj2 left) (s ∷ []))) same
      (at_one theory (rules.Disj2 left) h (disjunction (image left) q) s q is (rw test (proved h _ (from_one s.hypotheses h a))))

  pub by_undisch : (p q : Nameless) (s : Sequent) → s.conclusion ≡ implication p q → Includes s.hypotheses h → IsMember p h → Proves h q (rule_sequent theory rules.Undisch (s ∷ []))
  by_undisch p q s is a there =
      at_one theory rules.Undisch h q s (implication p q) is
      (proved h _ (both_included (p ∷ []) (map unchanged s.hypotheses ++ []) h (one_included p h there) (from_one s.hypotheses h a)))

  pub by_disch : (p q : Nameless) (left : NamedTerm) (s : Sequent) → image left ≡ p → IsKnown theory p bool_type → s.conclusion ≡ q → Includes s.hypotheses (h ++ p ∷ [])
      → Proves h (implication p q) (rule_sequent theory (rules.Disch left) (s ∷ []))
  by_disch p q left s same known is a =
      let test : is_known_formula theory (image left) ≡ true = known_formula theory (image left) (subst (λ (t : Nameless). IsKnown theory t bool_type) (sym same) known) in
      let b : Includes s.hypotheses (h ++ image left ∷ []) = subst (λ (t : Nameless). Includes s.hypotheses (h ++ t ∷ [])) (sym same) a in
      subst (λ (x : Nameless). Proves h (implication x q) (rule_sequent theory (rules.Disch left) (s ∷ []))) same
      (at_one theory (rules.Disch left) h (implication (image left) q) s q is
      (rw test (proved h _ (from_one (without (image left) s.hypotheses) h (without_last (image left) s.hypotheses h b)))))

  pub by_not_intro : (p : Nameless) (s : Sequent) → s.conclusion ≡ implication p false_term → Includes s.hypotheses h → Proves h (negation p) (rule_sequent theory rules.NotIntro (s ∷ []))
  by_not_intro p s is a = at_one theory rules.NotIntro h (negation p) s (implication p false_term) is (proved h _ (from_one s.hypotheses h a))

  pub by_mp : (p q : Nameless) (s t : Sequent) → s.conclusion ≡ implication p q → Includes s.hypotheses h → t.conclusion ≡ p → Includes t.hypotheses h
      → Proves h q (rule_sequent theory rules.Mp (s ∷ t ∷ []))
  by_mp p q s t is a js b = at_two theory rules.Mp h q s t (implication p q) p is js (rw (same_term-self p) (proved h _ (from_two s.hypotheses t.hypotheses h a b)))

  pub by_eq_mp : (p q : Nameless) (s t : Sequent) → s.conclusion ≡ nameless_equation bool_type p q → Includes s.hypotheses h → t.conclusion ≡ p → Includes t.hypotheses h
      → Proves h q (rule_sequent theory rules.EqMp (s ∷ t ∷ []))
  by_eq_mp p q s t is a js b = at_two theory rules.EqMp h q s t (nameless_equation bool_type p q) p is js (rw (same_term-self p) (proved h _ (from_two s.hypotheses t.hypotheses h a b)))

  pub by_sym : (p q : Nameless) (s : Sequent) → s.conclusion ≡ nameless_equation bool_type p q → Includes s.hypotheses h
      → Proves h (nameless_equation bool_type q p) (rule_sequent theory rules.Sym (s ∷ []))
  by_sym p q s is a = at_one theory rules.Sym h (nameless_equation bool_type q p) s (nameless_equation bool_type p q) is (proved h _ (from_one s.hypotheses h a))

  pub by_eqt_elim : (p : Nameless) (s : Sequent) → s.conclusion ≡ nameless_equation bool_type p true_term → Includes s.hypotheses h → Proves h p (rule_sequent theory rules.EqtElim (s ∷ []))
  by_eqt_elim p s is a = at_one theory rules.EqtElim h p s (nameless_equation bool_type p true_term) is (proved h _ (from_one s.hypotheses h a))

  pub by_deduct : (p q : Nameless) (s t : Sequent) → s.conclusion ≡ p → Includes s.hypotheses (h ++ q ∷ []) → t.conclusion ≡ q → Includes t.hypotheses (h ++ p ∷ [])
      → Proves h (nameless_equation bool_type p q) (rule_sequent theory rules.DeductAntisym (s ∷ t ∷ []))
  by_deduct p q s t is a js b =
      at_two theory rules.DeductAntisym h (nameless_equation bool_type p q) s t p q is js
      (proved h _ (from_two (without q s.hypotheses) (without p t.hypotheses) h (without_last q s.hypotheses h a) (without_last p t.hypotheses h b)))

  pub by_disj_cases : (p q r : Nameless) (s t u : Sequent) → s.conclusion ≡ disjunction p q → Includes s.hypotheses h → t.conclusion ≡ r
      → Includes t.hypotheses (h ++ p ∷ []) → u.conclusion ≡ r → Includes u.hypotheses (h ++ q ∷ [])
      → Proves h r (rule_sequent theory rules.DisjCases (s ∷ t ∷ u ∷ []))
  by_disj_cases p q r s t u is a js b ks d =
      at_three theory rules.DisjCases h r s t u (disjunction p q) r r is js ks
      (rw (same_term-self r) (proved h _ (from_three s.hypotheses (without p t.hypotheses) (without q u.hypotheses) h a (without_last p t.hypotheses h b) (without_last q u.hypotheses h d))))

  pub by_refl : (left : NamedTerm) (ty : HolType) → IsKnown theory (image left) ty → Proves h (nameless_equation ty (image left) (image left)) (rule_sequent theory (rules.Refl left) [])
  by_refl left ty known =
      let test = known_term theory (image left) ty known in
      subst (λ (s : HolType). Proves h (nameless_equation s (image left) (image left)) (rule_sequent theory (rules.Refl left) [])) (nameless_type-is (image left) [] ty known.typed)
      (rw test (proved h _ (none_included h)))

  pub by_assume : (term : NamedTerm) → IsKnown theory (image term) bool_type → IsMember (image term) h → Proves h (image term) (rule_sequent theory (rules.Assume term) [])
  by_assume term known there = rw (known_formula theory (image term) known) (proved h _ (both_included (image term ∷ []) [] h (one_included (image term) h there) (none_included h)))

  pub by_gen : (name : List ℕ) (ty : HolType) (body : Nameless) (s : Sequent) → IsKnownType theory ty → occurs_free name ty body ≡ false → ((x : Nameless) → IsMember x h
      → occurs_free name ty x ≡ false)
      → s.conclusion ≡ fill (free name ty) body → Includes s.hypotheses h → Proves h (forall_term ty body) (rule_sequent theory (rules.Gen (variable name ty)) (s ∷ []))
  by_gen name ty body s known absent fresh is a =
      let test : knows_type theory ty ≡ true = (knows_type-Decides theory ty).1 known in
      let free_in_none : is_free_in_none (Some (name, ty)) s.hypotheses ≡ true = absent-test name ty s.hypotheses (λ x member. fresh x (a x member)) in
      subst (λ (b : Nameless). Proves h (forall_term ty b) (rule_sequent theory (rules.Gen (variable name ty)) (s ∷ []))) (close-fill name ty body absent)
      (at_one theory (rules.Gen (variable name ty)) h (forall_term ty (close name ty (fill (free name ty) body))) s (fill (free name ty) body) is
      (rw (test, free_in_none) (proved h _ (from_one s.hypotheses h a))))

  -- p with p a hypothesis of the second, which is wanted or not
  pub by_prove_hyp : (p q : Nameless) (s t : Sequent) → s.conclusion ≡ p → Includes s.hypotheses h → t.conclusion ≡ q → Includes t.hypotheses (h ++ p ∷ [])
      → Proves h q (rule_sequent theory rules.ProveHyp (s ∷ t ∷ []))
  by_prove_hyp p q s t is a js b =
      at_two theory rules.ProveHyp h q s t p q is js
      (proved h _ (both_included (if is_among p t.hypotheses then map unchanged s.hypotheses else []) (map unchanged (without p t.hypotheses) ++ []) h
      (go (is_among p t.hypotheses)) (from_one (without p t.hypotheses) h (without_last p t.hypotheses h b))))
    where
      go : (test : Bool) → Includes (if test then map unchanged s.hypotheses else []) h
      go true = of_passed s.hypotheses h a
      go false = none_included h

  pub by_exists : (e w : NamedTerm) (ty : HolType) (body : Nameless) (s : Sequent) → image e ≡ app (const exists_name (quantifier ty)) (lam ty body)
      → IsKnown theory (image e) bool_type → IsKnown theory (image w) ty
      → s.conclusion ≡ fill (image w) body → Includes s.hypotheses h → Proves h (image e) (rule_sequent theory (rules.Exists e w) (s ∷ []))
  by_exists e w ty body s same known witness is a =
      let whole : Nameless = app (const exists_name (quantifier ty)) (lam ty body) in
      let filled : Nameless = fill (image w) body in
      let first : is_known_formula theory whole ≡ true = known_formula theory whole (subst (λ (t : Nameless). IsKnown theory t bool_type) same known) in
      let second : knows_nameless theory (image w) ty ≡ true = (knows_nameless-Decides theory (image w) ty).1 witness in
      at_one theory (rules.Exists e w) h (image e) s filled is
      (subst (λ (x : Nameless). Proves h x (given (given (dest_exists x) (λ quantified.
      require (is_known_formula theory x && knows_nameless theory (image w) quantified.0 && same_term (fill (image w) quantified.1) filled)
      (conclude (all ∷ []) x))) (λ inference. drawn inference (s.hypotheses ∷ [])))) (sym same)
      (subst (λ (found : Option (HolType × Nameless)). Proves h whole (given (given found (λ quantified.
      require (is_known_formula theory whole && knows_nameless theory (image w) quantified.0 && same_term (fill (image w) quantified.1) filled)
      (conclude (all ∷ []) whole))) (λ inference. drawn inference (s.hypotheses ∷ [])))) (sym (exists-shape ty body))
      (rw (first, second, same_term-self filled) (proved h _ (from_one s.hypotheses h a)))))

  pub by_choose : (name : List ℕ) (ty : HolType) (body q : Nameless) (s t : Sequent)
      → occurs_free name ty (app (const exists_name (quantifier ty)) (lam ty body)) ≡ false → occurs_free name ty q ≡ false → ((x : Nameless) → IsMember x h → occurs_free name ty x ≡ false)
      → s.conclusion ≡ app (const exists_name (quantifier ty)) (lam ty body) → Includes s.hypotheses h → t.conclusion ≡ q → Includes t.hypotheses (h ++ fill (free name ty) body ∷ [])
      → Proves h q (rule_sequent theory (rules.Choose (variable name ty)) (s ∷ t ∷ []))
  by_choose name ty body q s t not_first not_second fresh is a js b =
      let whole : Nameless = app (const exists_name (quantifier ty)) (lam ty body) in
      let others = without_last (fill (free name ty) body) t.hypotheses h b in
      let free_in_none : is_free_in_none (Some (name, ty)) (without (fill (free name ty) body) t.hypotheses) ≡ true =
      absent-test name ty (without (fill (free name ty) body) t.hypotheses) (λ x member. fresh x (others x member)) in
      let same_type : type_eq ty ty ≡ true = (type_eq-Decides ty ty).1 refl in
      let not_in_body : occurs_free name ty body ≡ false = not_first in
      at_two theory (rules.Choose (variable name ty)) h q s t whole q is js
      (subst (λ (found : Option (HolType × Nameless)). Proves h q (given (given found (λ quantified.
      require (type_eq ty quantified.0 && not (occurs_free name ty whole || occurs_free name ty q))
      (conclude (all ∷ all_but_without_variable (fill (free name ty) quantified.1) name ty ∷ []) q))) (λ inference. drawn inference (s.hypotheses ∷ t.hypotheses ∷ [])))) (sym (exists-shape ty body))
      (rw (same_type, not_in_body, not_second, free_in_none) (proved h _ (from_two s.hypotheses (without (fill (free name ty) body) t.hypotheses) h a others))))
