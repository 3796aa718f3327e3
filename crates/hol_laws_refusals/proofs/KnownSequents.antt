-- What rules draw from known formulas is a known formula, and so is what a justification gives over a store of theorems.
use Rattle.std.proofs.Common.{◌≡◌, ℕ, zero, suc, List, [], ◌∷◌, ◌++◌, map, Bool, true, false, ◌&&◌, refl, sym, ◌∙◌, ap, subst, inl, inr, Option, Some, None, if◌then◌else◌}
use Rattle.std.specs.Prelude.{slice_get}
use Rattle.std.specs.Option.{option_map}
use Rattle.hol_model.specs.Terms.HolType.{HolType, bool_type, function_type, type_eq, dest_function_type, domain_of}
use Rattle.hol_model.specs.Terms.NamedTerm.{NamedTerm, variable, combination, abstraction, same_variable}
use Rattle.hol_model.specs.Terms.Nameless.{Nameless, const, bound, app, lam, HasType, image}
use Rattle.hol_model.specs.Terms.Substitution.{close, fill}
use Rattle.hol_model.specs.Logic.Theory.{Theory, IsKnown, IsKnownType, HasKnownParts, generic_type, equality_name, equality_type, type_a, type_b}
use Rattle.hol_model.specs.Logic.KnownTerm.{knows_type}
use Rattle.hol_model.specs.Logic.Checks.{knows_nameless}
use Rattle.hol_model.specs.Logic.Derivable.{IsMember, nameless_equation, eta_variable}
use Rattle.hol_model.specs.Logic.Logic.{logical_definitions, not_name, false_name, unary, binary, quantifier, predicate, true_term, false_term, forall_term}
use Rattle.hol_model.specs.Logic.NamelessLogic.{negation, Equation, Redex, dest_equation, dest_binary, dest_quantified, dest_negation, dest_redex}
use Rattle.hol_model.specs.Kernel.Theorem.{Theorem}
use Rattle.hol_model.specs.Kernel.Rules.{dest_trivial_redex}
use Rattle.hol_model.specs.Goals.Goals.{Sequent}
use Rattle.hol_model.specs.Derived.InferenceRules.{InferenceRule}
use Rattle.hol_model.specs.declared.rule.Rule.TheVariants as rules
use Rattle.hol_model.specs.Derived.Inference.{Inference, infer, require, given, drawn, passed, may_replace, may_replace_types, conclusions_of, hypotheses_of}
use Rattle.hol_model.specs.Derived.Inference.{rule_sequent}
use Rattle.hol_model.specs.Goals.Justifications.{Justification, sub, named, lemma, by_rule, Parts, no_parts, part, NamedSequents, Subgoals, joined, sequent_over, sequents_over, sequent_of}
use Rattle.hol_model.specs.Goals.Replays.{Store, sequents_in, sequent_of_theorem, IsStoreOver}
use Rattle.hol_model.specs.Refining.RefinerConditions.{HasLogic}
use Rattle.hol_model.proofs.Tests.{same_variable-type}
use Rattle.hol_model.proofs.Logic.Checks.{knows_nameless-Decides}
use Rattle.hol_model.proofs.Logic.Known.{equation-known, app-known, close-known, eta_abstraction-known, eta_variable-known, select_conclusion-known}
use Rattle.hol_model.proofs.Terms.HolTypeEq.{type_eq-Decides}
use Rattle.hol_model.proofs.Terms.TypeTests.{knows_type-Decides}
use Rattle.hol_laws_refiners.proofs.FormulaParts.{logical-type}
use Rattle.hol_laws_refiners.proofs.FillingKnown.{connected-known, false-known, fill-known}
use Rattle.hol_laws_refusals.proofs.Known.{IsFormula, AreFormulas, combination-parts, abstraction-parts, true-known, negation-known, forall-known, theorem-known}
use Rattle.hol_laws_refusals.proofs.KnownInstances.{inst-known, inst_type-known}

-- ---- parts of known formulas

module _ (theory : Theory) where
  binary-parts : (name : List ℕ) (t : Nameless) (sides : Nameless × Nameless) → dest_binary name binary t ≡ Some sides → IsFormula theory t → IsFormula theory sides.0 × IsFormula theory sides.1
  binary-parts name (app (app (const other s) a) b) sides dest known = go (same_variable name binary other s) refl dest
    where
      go : (test : Bool) → same_variable name binary other s ≡ test → if◌then◌else◌ {A = Option (Nameless × Nameless)} test (Some (a, b)) None ≡ Some sides
          → IsKnown theory sides.0 bool_type × IsKnown theory sides.1 bool_type
      go false tested dest = cc
      go true tested dest =
          let found : Nameless × Nameless = (a, b) in
          let same : found ≡ sides = cc in
          let s_is : s ≡ binary = sym (same_variable-type name other binary s tested) in
          let typed : HasType [] (app (app (const other binary) a) b) bool_type = subst (λ (t : HolType). HasType [] (app (app (const other t) a) b) bool_type) s_is known.typed in
          let first : typed.1.0 ≡ bool_type = cc in
          let second : typed.0 ≡ bool_type = cc in
          let left : IsKnown theory a bool_type = record { typed = subst (λ (t : HolType). HasType [] a t) first typed.1.2; parts = known.parts.0.1 } in
          let right : IsKnown theory b bool_type = record { typed = subst (λ (t : HolType). HasType [] b t) second typed.2; parts = known.parts.1 } in
          subst (λ (s : Nameless × Nameless). IsKnown theory s.0 bool_type × IsKnown theory s.1 bool_type) same (left, right)
  binary-parts name _ sides dest known = cc

  negated : (t p : Nameless) → dest_negation t ≡ Some p → IsFormula theory t → IsFormula theory p
  negated (app (const other s) a) p dest known = go (same_variable not_name unary other s) refl dest
    where
      go : (test : Bool) → same_variable not_name unary other s ≡ test → (if test then Some a else None) ≡ Some p → IsKnown theory p bool_type
      go false tested dest = cc
      go true tested dest =
          let same : a ≡ p = cc in
          let s_is : s ≡ unary = sym (same_variable-type not_name other unary s tested) in
          let typed : HasType [] (app (const other unary) a) bool_type = subst (λ (t : HolType). HasType [] (app (const other t) a) bool_type) s_is known.typed in
          let domain : typed.0 ≡ bool_type = cc in
          subst (λ (t : Nameless). IsKnown theory t bool_type) same (record { typed = subst (λ (t : HolType). HasType [] a t) domain typed.2; parts = known.parts.1 })
  negated _ p dest known = cc

  -- an equation whose sides are known
  pub record IsKnownEquation (sides : Equation) : Type 0 where
    pub left : IsKnown theory sides.left sides.ty
    pub right : IsKnown theory sides.right sides.ty

  equation-parts : (t : Nameless) (sides : Equation) → dest_equation t ≡ Some sides → IsFormula theory t → IsKnownEquation sides
  equation-parts (app (app (const other s) a) b) sides dest known = go (same_variable equality_name (equality_type (domain_of s)) other s) refl dest
    where
      go : (test : Bool) → same_variable equality_name (equality_type (domain_of s)) other s ≡ test
          → (if test then Some (record { ty = domain_of s; left = a; right = b }) else None) ≡ Some sides → IsKnownEquation sides
      go false tested dest = cc
      go true tested dest =
          let ty : HolType = domain_of s in
          let found : Equation = record { ty = ty; left = a; right = b } in
          let same : found ≡ sides = cc in
          let s_is : s ≡ equality_type ty = sym (same_variable-type equality_name other (equality_type ty) s tested) in
          let typed : HasType [] (app (app (const other (equality_type ty)) a) b) bool_type = subst (λ (t : HolType). HasType [] (app (app (const other t) a) b) bool_type) s_is known.typed in
          let first : typed.1.0 ≡ ty = cc in
          let second : typed.0 ≡ ty = cc in
          let left : IsKnown theory a ty = record { typed = subst (λ (t : HolType). HasType [] a t) first typed.1.2; parts = known.parts.0.1 } in
          let right : IsKnown theory b ty = record { typed = subst (λ (t : HolType). HasType [] b t) second typed.2; parts = known.parts.1 } in
          subst IsKnownEquation same (record { left = left; right = right })
  equation-parts _ sides dest known = cc

  -- the body under a quantifier
  pub record IsKnownBody (quantified : HolType × Nameless) : Type 0 where
    pub type_known : IsKnownType theory quantified.0
    pub typed : HasType (quantified.0 ∷ []) quantified.1 bool_type
    pub parts : HasKnownParts theory quantified.1

  quantified-parts : (name : List ℕ) (t : Nameless) (quantified : HolType × Nameless) → dest_quantified name t ≡ Some quantified → IsFormula theory t → IsKnownBody quantified
  quantified-parts name (app (const other s) (lam ty body)) quantified dest known = go (same_variable name (quantifier ty) other s) refl dest
    where
      go : (test : Bool) → same_variable name (quantifier ty) other s ≡ test → if◌then◌else◌ {A = Option (HolType × Nameless)} test (Some (ty, body)) None ≡ Some quantified
          → IsKnownBody quantified
      go false tested dest = cc
      go true tested dest =
          let found : HolType × Nameless = (ty, body) in
          let same : found ≡ quantified = cc in
          let s_is : s ≡ quantifier ty = sym (same_variable-type name other (quantifier ty) s tested) in
          let typed : HasType [] (app (const other (quantifier ty)) (lam ty body)) bool_type = subst (λ (t : HolType). HasType [] (app (const other t) (lam ty body)) bool_type) s_is known.typed in
          let domain : typed.0 ≡ predicate ty = cc in
          let arrow : function_type ty typed.2.0 ≡ predicate ty = typed.2.2 ∙ domain in
          let codomain : typed.2.0 ≡ bool_type = cc in
          subst IsKnownBody same (record { type_known = known.parts.1.0; typed = subst (λ (t : HolType). HasType (ty ∷ []) body t) codomain typed.2.1; parts = known.parts.1.1 })
  quantified-parts name _ quantified dest known = cc

-- ---- what a rule draws

of_arrow : (ty : HolType) (arrow : HolType × HolType) → dest_function_type ty ≡ Some arrow → ty ≡ function_type arrow.0 arrow.1
of_arrow (function_type a b) arrow is = let found : HolType × HolType = (a, b) in let same : found ≡ arrow = cc in ap (λ (s : HolType × HolType). function_type s.0 s.1) same
of_arrow _ arrow is = cc

closed-typed : (ty : HolType) (body : Nameless) → HasType [] (lam ty body) (function_type ty bool_type) → HasType (ty ∷ []) body bool_type
closed-typed ty body typed = let codomain : typed.0 ≡ bool_type = cc in subst (λ (c : HolType). HasType (ty ∷ []) body c) codomain typed.1

module _ (theory : Theory) (has : HasLogic theory) where
  -- a known formula is concluded, where anything is
  record Concludes (found : Option Inference) : Type 0 where
    known : (inference : Inference) → found ≡ Some inference → IsKnown theory inference.conclusion bool_type

  none : Concludes None
  none = record { known = λ inference is. cc }

  some : (inference : Inference) → IsKnown theory inference.conclusion bool_type → Concludes (Some inference)
  some inference conclusion = record {
    known = λ other is. let same : inference ≡ other = cc in subst (λ (i : Inference). IsKnown theory i.conclusion bool_type) same conclusion;
  }

  required : (test : Bool) (next : Option Inference) → (test ≡ true → Concludes next) → Concludes (require test next)
  required true next after = after refl
  required false next after = none

  required-both : (first second : Bool) (next : Option Inference) → Concludes (require first (require second next)) → Concludes (require (first && second) next)
  required-both true second next after = after
  required-both false second next after = none

  from_given : {A : Type 0} (found : Option A) (next : A → Option Inference) → ((x : A) → found ≡ Some x → Concludes (next x)) → Concludes (given found next)
  from_given {A = A} None next after = none
  from_given {A = A} (Some x) next after = after x refl

  -- ---- what is taken apart

  both_formulas : (name : List ℕ) (t : Nameless) (next : Nameless × Nameless → Option Inference) → IsKnown theory t bool_type
      → ((sides : Nameless × Nameless) → IsKnown theory sides.0 bool_type → IsKnown theory sides.1 bool_type → Concludes (next sides)) → Concludes (given (dest_binary name binary t) next)
  both_formulas name t next known after =
      from_given (dest_binary name binary t) next (λ sides is. let parts = binary-parts theory name t sides is known in after sides parts.0 parts.1)

  equation_sides : (t : Nameless) (next : Equation → Option Inference) → IsKnown theory t bool_type
      → ((sides : Equation) → IsKnown theory sides.left sides.ty → IsKnown theory sides.right sides.ty → Concludes (next sides)) → Concludes (given (dest_equation t) next)
  equation_sides t next known after =
      from_given (dest_equation t) next (λ sides is. let parts = equation-parts theory t sides is known in after sides parts.left parts.right)

  quantified_body : (name : List ℕ) (t : Nameless) (next : HolType × Nameless → Option Inference) → IsKnown theory t bool_type
      → ((quantified : HolType × Nameless) → IsKnownBody theory quantified → Concludes (next quantified)) → Concludes (given (dest_quantified name t) next)
  quantified_body name t next known after = from_given (dest_quantified name t) next (λ quantified is. after quantified (quantified-parts theory name t quantified is known))

  denied : (t : Nameless) (next : Nameless → Option Inference) → IsKnown theory t bool_type
      → ((p : Nameless) → IsKnown theory p bool_type → Concludes (next p)) → Concludes (given (dest_negation t) next)
  denied t next known after = from_given (dest_negation t) next (λ p is. after p (negated theory t p is known))

  -- ---- what is put together

  equates : (ty : HolType) (l r : Nameless) → IsKnown theory l ty → IsKnown theory r ty → IsKnown theory (nameless_equation ty l r) bool_type
  equates ty l r left right = equation-known theory has.legal ty l r left right

  connects : (name : List ℕ) → generic_type logical_definitions name ≡ Some binary → (p q : Nameless) → IsFormula theory p → IsFormula theory q
      → IsKnown theory (app (app (const name binary) p) q) bool_type
  connects name is p q left right = connected-known theory name (logical-type theory has name binary is) p q left right

  denies : (p : Nameless) → IsKnown theory p bool_type → IsKnown theory (negation p) bool_type
  denies p known = negation-known theory has p known

  truth : IsKnown theory true_term bool_type
  truth = true-known theory has

  falsity : IsKnown theory false_term bool_type
  falsity = false-known theory (logical-type theory has false_name bool_type refl)

  tested : (term : Nameless) (ty : HolType) → knows_nameless theory term ty ≡ true → IsKnown theory term ty
  tested term ty test = (knows_nameless-Decides theory term ty).0 test

  tested-type : (ty : HolType) → knows_type theory ty ≡ true → IsKnownType theory ty
  tested-type ty test = (knows_type-Decides theory ty).0 test

  of-one-type : (term : Nameless) (a b : HolType) → type_eq a b ≡ true → IsKnown theory term b → IsKnown theory term a
  of-one-type term a b test known = subst (λ (ty : HolType). IsKnown theory term ty) (sym ((type_eq-Decides a b).0 test)) known

  closed : (name : List ℕ) (a b : HolType) (term : Nameless) → IsKnownType theory a → IsKnown theory term b → IsKnown theory (lam a (close name a term)) (function_type a b)
  closed name a b term there known = close-known theory name a b term there known

  generalized : (name : List ℕ) (ty : HolType) (p : Nameless) → IsKnownType theory ty → IsKnown theory p bool_type → IsKnown theory (forall_term ty (close name ty p)) bool_type
  generalized name ty p there known =
      let whole = close-known theory name ty bool_type p there known in
      forall-known theory has ty (close name ty p) there (closed-typed ty (close name ty p) whole.typed) whole.parts.1

  filled : (term : Nameless) (quantified : HolType × Nameless) → IsKnownBody theory quantified → IsKnown theory term quantified.0 → IsKnown theory (fill term quantified.1) bool_type
  filled term quantified inside known = fill-known theory term quantified.0 bool_type quantified.1 known inside.typed inside.parts

  -- (\x. b) a
  redex-known : (t : Nameless) (redex : Redex) (ty : HolType) → dest_redex t ≡ Some redex → IsKnown theory t ty → IsKnown theory (fill redex.argument redex.body) ty
  redex-known (app (lam s body) argument) redex ty dest known =
      let found : Redex = record { ty = s; body = body; argument = argument } in
      let same : found ≡ redex = cc in
      let domain : s ≡ known.typed.0 = cc in
      let codomain : known.typed.1.0 ≡ ty = cc in
      let argument_known : IsKnown theory argument s = record { typed = subst (λ (a : HolType). HasType [] argument a) (sym domain) known.typed.2; parts = known.parts.1 } in
      let filled : IsKnown theory (fill argument body) ty =
      fill-known theory argument s ty body argument_known (subst (λ (a : HolType). HasType (s ∷ []) body a) codomain known.typed.1.1) known.parts.0.1 in
      subst (λ (r : Redex). IsKnown theory (fill r.argument r.body) ty) same filled
  redex-known _ redex ty dest known = cc

  -- (\x. t) x
  trivial-known : (t body : NamedTerm) (ty : HolType) → dest_trivial_redex t ≡ Some body → IsKnown theory (image t) ty → IsKnown theory (image body) ty
  trivial-known (combination (abstraction name s inner) (variable other a)) body ty dest known = go (same_variable name s other a) dest
    where
      go : (test : Bool) → (if test then Some inner else None) ≡ Some body → IsKnown theory (image body) ty
      go false dest = cc
      go true dest =
          let same : inner ≡ body = cc in
          let parts = combination-parts theory (abstraction name s inner) (variable other a) ty known in
          let inside = abstraction-parts theory name s (function_type parts.domain ty) inner parts.function in
          let arrow = inside.whole in
          let codomain : inside.codomain ≡ ty = cc in
          subst (λ (t : NamedTerm). IsKnown theory (image t) ty) same (subst (λ (c : HolType). IsKnown theory (image inner) c) codomain inside.known)
  trivial-known _ body ty dest known = cc

  ruleset shown = (
    none,
    some,
    required-both,
    both_formulas,
    equation_sides,
    quantified_body,
    denied,
    required,
    from_given,
    equates,
    connects,
    denies,
    truth,
    falsity,
    tested,
    tested-type,
    of-one-type,
    closed,
    generalized,
    filled,
    redex-known,
    trivial-known,
  )

  -- ---- rules

  of_none : (rule : InferenceRule) → Concludes (infer theory rule [])
  of_none rules.EtaAxiom = some _ (equates (function_type type_a type_b) (lam type_a (app eta_variable (bound 0))) eta_variable eta_abstraction-known eta_variable-known)
  of_none rules.SelectAxiom = some _ (select_conclusion-known theory has.legal)
  of_none rule = search shown depth 10

  of_one : (rule : InferenceRule) (a : Nameless) → IsKnown theory a bool_type → Concludes (infer theory rule (a ∷ []))
  of_one (rules.Inst theta) a known = required (may_replace theory theta.items) _ (λ test. some _ (inst-known theory theta.items a test known))
  of_one (rules.InstType theta) a known = required (may_replace_types theory theta.items) _ (λ test. some _ (inst_type-known theory theta.items a test known))
  of_one rule a known = search shown depth 10

  of_two : (rule : InferenceRule) (a b : Nameless) → IsKnown theory a bool_type → IsKnown theory b bool_type → Concludes (infer theory rule (a ∷ b ∷ []))
  of_two rules.MkComb a b first second = equation_sides a _ first (λ f left right. equation_sides b _ second (λ x low high.
      from_given (dest_function_type f.ty) _ (λ arrow is. required (type_eq arrow.0 x.ty) _ (λ test. some _ (equates arrow.1 (app f.left x.left) (app f.right x.right)
      (applied f.ty x.ty arrow f.left x.left is test left low) (applied f.ty x.ty arrow f.right x.right is test right high))))))
    where
      applied : (f_type x_type : HolType) (arrow : HolType × HolType) (f x : Nameless) → dest_function_type f_type ≡ Some arrow → type_eq arrow.0 x_type ≡ true → IsKnown theory f f_type
          → IsKnown theory x x_type → IsKnown theory (app f x) arrow.1
      applied f_type x_type arrow f x is test known there =
          app-known theory arrow.0 arrow.1 f x (subst (λ (ty : HolType). IsKnown theory f ty) (of_arrow f_type arrow is) known) (of-one-type x arrow.0 x_type test there)
  of_two rule a b first second = search shown depth 10

  of_three : (rule : InferenceRule) (a b c : Nameless) → IsKnown theory a bool_type → IsKnown theory b bool_type → IsKnown theory c bool_type → Concludes (infer theory rule (a ∷ b ∷ c ∷ []))
  of_three rules.EtaAxiom a b c first second third = none
  of_three rule a b c first second third = search shown depth 10

  infer-known : (rule : InferenceRule) (conclusions : List Nameless) → AreFormulas theory conclusions → Concludes (infer theory rule conclusions)
  infer-known rule [] k = of_none rule
  infer-known rule (a ∷ []) k = of_one rule a k.0
  infer-known rule (a ∷ b ∷ []) k = of_two rule a b k.0 k.1.0
  infer-known rule (a ∷ b ∷ c ∷ []) k = of_three rule a b c k.0 k.1.0 k.1.1.0
  infer-known rules.EtaAxiom (a ∷ b ∷ c ∷ d ∷ more) k = none
  infer-known rule (a ∷ b ∷ c ∷ d ∷ more) k = none

  -- ---- justifications

  -- what comes is a known formula
  pub record GivesFormula (found : Option Sequent) : Type 0 where
    pub known : (sequent : Sequent) → found ≡ Some sequent → IsKnown theory sequent.conclusion bool_type

  record GivesFormulas (found : Option (List Sequent)) : Type 0 where
    known : (sequents : List Sequent) → found ≡ Some sequents → AreFormulas theory (conclusions_of sequents)

  gives-nothing : GivesFormula None
  gives-nothing = record { known = λ sequent is. cc }

  gives : (sequent : Sequent) → IsKnown theory sequent.conclusion bool_type → GivesFormula (Some sequent)
  gives sequent conclusion = record { known = λ other is. let same : sequent ≡ other = cc in subst (λ (s : Sequent). IsKnown theory s.conclusion bool_type) same conclusion }

  rule-known : (rule : InferenceRule) (premises : List Sequent) → AreFormulas theory (conclusions_of premises) → GivesFormula (rule_sequent theory rule premises)
  rule-known rule premises formulas = go (infer theory rule (conclusions_of premises)) (infer-known rule (conclusions_of premises) formulas)
    where
      drawn-known : (inference : Inference) → IsKnown theory inference.conclusion bool_type → (others : Option (List Nameless))
          → GivesFormula (option_map (λ rest. record { hypotheses = inference.supposed ++ rest; conclusion = inference.conclusion }) others)
      drawn-known inference known None = gives-nothing
      drawn-known inference known (Some rest) = gives _ known

      go : (first : Option Inference) → Concludes first → GivesFormula (given first (λ inference. drawn inference (hypotheses_of premises)))
      go None concludes = gives-nothing
      go (Some inference) concludes = drawn-known inference (concludes.known inference refl) (passed inference.passing (hypotheses_of premises))

  by-rule : (rule : InferenceRule) (premises : Option (List Sequent)) → GivesFormulas premises → GivesFormula (given premises (rule_sequent theory rule))
  by-rule rule None formulas = gives-nothing
  by-rule rule (Some premises) formulas = rule-known rule premises (formulas.known premises refl)

  joined-known : (first : Option Sequent) (rest : Option (List Sequent)) → GivesFormula first → GivesFormulas rest → GivesFormulas (joined first rest)
  joined-known None rest one others = record { known = λ sequents is. cc }
  joined-known (Some s) None one others = record { known = λ sequents is. cc }
  joined-known (Some s) (Some ss) one others = record {
    known = λ sequents is. let same : s ∷ ss ≡ sequents = cc in subst (λ (all : List Sequent). AreFormulas theory (conclusions_of all)) same (one.known s refl, others.known ss refl);
  }

  record NamesFormulas (store : NamedSequents) (subgoals : Subgoals) : Type 0 where
    named : (name : List ℕ) → GivesFormula (store.named name)
    lemmas : (k : ℕ) → GivesFormula (slice_get store.lemmas k)
    subgoals_known : (i : ℕ) → GivesFormula (subgoals i)

  mutual
    sequent_over-known : (store : NamedSequents) (subgoals : Subgoals) → NamesFormulas store subgoals → (justification : Justification)
        → GivesFormula (sequent_over theory store subgoals justification)
    sequent_over-known store subgoals names (sub i) = names.subgoals_known i
    sequent_over-known store subgoals names (named name) = names.named name
    sequent_over-known store subgoals names (lemma k) = names.lemmas k
    sequent_over-known store subgoals names (by_rule rule parts) = by-rule rule (sequents_over theory store subgoals parts) (sequents_over-known store subgoals names parts)

    sequents_over-known : (store : NamedSequents) (subgoals : Subgoals) → NamesFormulas store subgoals → (parts : Parts) → GivesFormulas (sequents_over theory store subgoals parts)
    sequents_over-known store subgoals names no_parts =
        record { known = λ sequents is. let same : [] ≡ sequents = cc in subst (λ (all : List Sequent). AreFormulas theory (conclusions_of all)) same tt }
    sequents_over-known store subgoals names (part first rest) =
        joined-known (sequent_over theory store subgoals first) (sequents_over theory store subgoals rest)
        (sequent_over-known store subgoals names first) (sequents_over-known store subgoals names rest)

  -- ---- stores

  theorem-gives : (found : Option Theorem) → ((theorem : Theorem) → found ≡ Some theorem → IsKnown theory (image theorem.conclusion) bool_type) → GivesFormula (option_map sequent_of_theorem found)
  theorem-gives None known = gives-nothing
  theorem-gives (Some theorem) known = gives (sequent_of_theorem theorem) (known theorem refl)

  lemma-gives : (lemmas : List Theorem) → ((theorem : Theorem) → IsMember theorem lemmas → IsKnown theory (image theorem.conclusion) bool_type) → (k : ℕ)
      → GivesFormula (slice_get (map sequent_of_theorem lemmas) k)
  lemma-gives [] known k = gives-nothing
  lemma-gives (theorem ∷ lemmas) known zero = gives (sequent_of_theorem theorem) (known theorem (inl refl))
  lemma-gives (theorem ∷ lemmas) known (suc k) = lemma-gives lemmas (λ other member. known other (inr member)) k

  -- what a justification without subgoals gives is a known formula
  pub sequent_of-known : (store : Store) → IsStoreOver theory store → (justification : Justification) (sequent : Sequent) → sequent_of theory (sequents_in store) [] justification ≡ Some sequent
      → IsKnown theory sequent.conclusion bool_type
  sequent_of-known store over justification sequent is =
      (sequent_over-known (sequents_in store) (slice_get []) (record {
        named = λ name. theorem-gives (store.named name) (λ theorem stored. theorem-known theory has.legal theorem (over.named name theorem stored));
        lemmas = λ k. lemma-gives store.lemmas (λ theorem member. theorem-known theory has.legal theorem (over.lemmas theorem member)) k;
        subgoals_known = λ i. gives-nothing;
      }) justification).known sequent is
