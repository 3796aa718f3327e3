-- What each rule answers is a theorem.
use Rattle.std.proofs.Common.{◌≡◌, ◌⊎◌, ℕ, List, [], ◌∷◌, ◌++◌, map, Bool, true, false, ◌&&◌, ◌||◌, not, refl, sym, ◌∙◌, ap, subst, inl, inr, Option}
use Rattle.std.proofs.Common.{Some, None, Result, Ok, Err, IfOk, IfErr, if◌then◌else◌}
use Rattle.std.specs.Prelude.{IsSome}
use Rattle.std.specs.Option.{option_map, option_map_or}
use Rattle.std.specs.Str.{bytes_eq}
use Rattle.std.proofs.lemmas.Slice.Eq.{bytes_eq-Decides}
use Rattle.hol_model.specs.declared.fault.Fault.{Fault}
use Rattle.hol_model.specs.declared.fault.Fault.TheVariants.{Memory}
use Rattle.hol_model.specs.Terms.HolType.{HolType, bool_type, function_type, type_eq, instantiate_type}
use Rattle.hol_model.specs.Terms.NamedTerm.{NamedTerm, variable, constant, combination, abstraction, type_of, application_type, same_variable, is_free, dest_variable, dest_combination, equality, equation}
use Rattle.hol_model.specs.Terms.Nameless.{free, const, app, lam, HasType, image}
use Rattle.hol_model.specs.Terms.Substitution.{close, occurs_free}
use Rattle.hol_model.specs.Logic.Theory.{Theory, IsLegal, IsEarlier, IsKnown, IsKnownType, equality_name, equality_type, type_a, generic_type}
use Rattle.hol_model.specs.Logic.KnownTerm.{knows_type, knows_types, knows_constants, has_instances}
use Rattle.hol_model.specs.Logic.Derivable.{Derivable, IsMember, NotFreeInAny, nameless_equation}
use Rattle.hol_model.specs.Logic.Derivable.Derivable.{same_hypotheses, refl_rule, trans_rule, mk_comb_rule, abs_rule, beta_rule, assume_rule, eq_mp_rule, deduct_antisym_rule, eta_rule, select_rule}
use Rattle.hol_model.proofs.Terms.HolTypeEq.{type_eq-Decides}
use Rattle.hol_model.proofs.Tests.{same_name, same_variable-type, same_term-Decides, first_of_both, second_of_both}
use Rattle.hol_model.proofs.Logic.Later.{Derivable-earlier}
use Rattle.hol_model.proofs.Terms.Typing.{one_type}
use Rattle.hol_model.proofs.Logic.Known.{Derivable-known, generic_type-logical}
use Rattle.hol_model.proofs.Terms.Images.{image-typed, image-type, image-equation, image-abstraction, occurs_free-image, application-typed}
use Rattle.hol_model.proofs.Logic.KnownTerms.{image-known, knows_type-IsKnownType}
use Rattle.hol_model.specs.Kernel.NamedAxioms.{eta_conclusion, select_hypothesis, select_conclusion}
use Rattle.hol_model.specs.Kernel.Outcome.{Answers}
use Rattle.hol_model.specs.Kernel.Theorem.{Theorem, IsTheorem, are_alpha_equivalent, with_hypotheses, without_hypothesis}
use Rattle.hol_model.specs.Kernel.Rules.{first_unknown, dest_equation, dest_trivial_redex, is_formula, is_free_in_hypotheses, concluded}
use Rattle.hol_model.specs.Kernel.Rules.{assume_outcome, mk_comb_outcome, abs_outcome, trans_outcome, eq_mp_outcome, deduct_antisym_outcome}
use Rattle.hol_kernel.specs.KnownFormula.{IsKnownFormula}
use Rattle.hol_kernel.specs.Fits.{TransFits, EqMpFits, DeductFits}
use Rattle.hol_kernel.proofs.KnownLemmas.{no_unknown, known_where_none}
use Rattle.hol_kernel.proofs.HypothesesLemmas.{with_hypotheses-same_set, image-without_hypothesis}
use Rattle.hol_kernel.proofs.LimitLemmas.{equation-typed}
use Rattle.hol_kernel.proofs.OrderLemmas.{with_hypotheses-ordered, kept-ordered}

-- known terms

-- the term passes the tests of known terms
record PassesTests (theory : Theory) (term : NamedTerm) : Type 0 where
  types : knows_types theory term ≡ true
  instances : has_instances theory term ≡ true

passes_tests : (theory : Theory) (term : NamedTerm) → first_unknown theory term ≡ None → PassesTests theory term
passes_tests theory term none = go (knows_types theory term) refl (knows_constants theory term) (has_instances theory term) refl none
  where
    go : (types : Bool) → knows_types theory term ≡ types → (constants instances : Bool) → has_instances theory term ≡ instances
        → (if not types then Some Fault.UnknownType else (if not constants then Some Fault.UnknownConst else (if not instances then Some Fault.NotInstance else None))) ≡ None
        → PassesTests theory term
    go false is_types constants instances is_instances none = cc
    go true is_types false instances is_instances none = cc
    go true is_types true false is_instances none = cc
    go true is_types true true is_instances none = record { types = is_types; instances = is_instances }

-- a formula that is known passes the test of formulas, and one that passes both tests is a known formula
pub known_is_formula : (theory : Theory) (term : NamedTerm) → IsKnownFormula theory term → is_formula term ≡ true
known_is_formula theory term known = rw known.typed refl

pub passed_formula : (theory : Theory) (term : NamedTerm) → is_formula term ≡ true → first_unknown theory term ≡ None → IsKnownFormula theory term
passed_formula theory term formula none = record { known = known_where_none theory term none; typed = is_typed (type_of term) refl formula }
  where
    is_typed : (found : Option HolType) → type_of term ≡ found → option_map_or (λ ty. type_eq ty bool_type) found false ≡ true → type_of term ≡ Some bool_type
    is_typed None is passed = cc
    is_typed (Some ty) is passed = is ∙ ap Some ((type_eq-Decides ty bool_type).0 passed)

pub known_term : (theory : Theory) (term : NamedTerm) (ty : HolType) → first_unknown theory term ≡ None → type_of term ≡ Some ty → IsKnown theory (image term) ty
known_term theory term ty none typed =
    let passes = passes_tests theory term none in
    image-known theory term ty typed passes.types passes.instances

-- theorems handed in

-- a theorem of an earlier state of a theory is derivable over it
pub standing : (theory : Theory) → IsLegal theory → (theorem : Theorem) → IsEarlier theorem.theory theory → IsTheorem theorem
    → Derivable theory (map image theorem.hypotheses) (image theorem.conclusion)
standing theory legal theorem earlier is = Derivable-earlier theorem.theory theory earlier legal _ _ is.derivable

-- the sides of an equation, their type and the image
pub record IsEquation (conclusion left right : NamedTerm) : Type 0 where
  pub ty : HolType
  pub is : conclusion ≡ equation left right
  pub image_is : image conclusion ≡ nameless_equation ty (image left) (image right)
  pub left_typed : type_of left ≡ Some ty
  pub right_typed : type_of right ≡ Some ty

equation_parts : (theory : Theory) → IsLegal theory → (name : List ℕ) (s : HolType) (left right : NamedTerm) → name ≡ equality_name
    → IsKnown theory (app (app (const name s) (image left)) (image right)) bool_type → IsEquation (combination (combination (constant name s) left) right) left right
equation_parts theory legal name s left right is_equality known =
    let declared = known.parts.0.0.1 in
    let generic : generic_type theory name ≡ Some (equality_type type_a) = rw is_equality (generic_type-logical theory legal equality_name (equality_type type_a) refl) in
    let found = declared.is_generic in
    let same : declared.generic ≡ equality_type type_a = cc in
    let ty = declared.is_instance.instance (65 ∷ []) in
    let is_type : s ≡ equality_type ty = declared.is_instance.is_instance ∙ ap (λ g. instantiate_type declared.is_instance.instance g) same in
    let typed = known.typed.1.1 in
    let first : known.typed.1.0 ≡ ty = cc in
    let second : known.typed.0 ≡ ty = cc in
    let left_typed : type_of left ≡ Some ty = image-type left ty (subst (λ (t : HolType). HasType [] (image left) t) first known.typed.1.2) in
    record {
      ty = ty;
      is = (λ i. combination (combination (constant (is_equality i) (is_type i)) left) right) ∙ ap (λ o. combination (combination (equality o) left) right) (sym left_typed);
      image_is = rw (is_equality, is_type) refl;
      left_typed = left_typed;
      right_typed = image-type right ty (subst (λ (t : HolType). HasType [] (image right) t) second known.typed.2);
    }

pub sides : (theory : Theory) → IsLegal theory → (conclusion left right : NamedTerm) → IsKnown theory (image conclusion) bool_type
    → dest_equation conclusion ≡ Some (left, right) → IsEquation conclusion left right
sides theory legal (combination (combination (constant name s) left) right) a b known is =
    go (bytes_eq name equality_name) refl is
  where
    go : (test : Bool) → bytes_eq name equality_name ≡ test
        → if◌then◌else◌ {A = Option (NamedTerm × NamedTerm)} test (Some (left, right)) None ≡ Some (a, b)
        → IsEquation (combination (combination (constant name s) left) right) a b
    go true passed is =
        let first : left ≡ a = ap (λ (o : Option (NamedTerm × NamedTerm)). option_map_or (λ (p : NamedTerm × NamedTerm). p.0) o left) is in
        let second : right ≡ b = ap (λ (o : Option (NamedTerm × NamedTerm)). option_map_or (λ (p : NamedTerm × NamedTerm). p.1) o right) is in
        subst (λ (l : NamedTerm). IsEquation (combination (combination (constant name s) left) right) l b) first
        (subst (λ (r : NamedTerm). IsEquation (combination (combination (constant name s) left) right) left r) second
        (equation_parts theory legal name s left right ((bytes_eq-Decides name equality_name).0 passed) known))
    go false passed is = cc
sides theory legal _ a b known is = cc

-- the sides of a theorem that is an equation
own_sides : (theorem : Theorem) → IsTheorem theorem → (left right : NamedTerm) → dest_equation theorem.conclusion ≡ Some (left, right) → IsEquation theorem.conclusion left right
own_sides theorem is left right dest = sides theorem.theory is.legal theorem.conclusion left right (Derivable-known theorem.theory is.legal is.derivable).conclusion dest

-- `=` applied to the left side of a theorem's equation makes an equation of it with another side
pub same_left : (theorem : Theorem) → IsTheorem theorem → (left right applied side other : NamedTerm) → dest_equation theorem.conclusion ≡ Some (left, right)
    → theorem.conclusion ≡ combination applied side → combination applied other ≡ equation left other
same_left theorem is left right applied side other dest whole =
    let function = λ (t : NamedTerm). option_map_or (λ (p : NamedTerm × NamedTerm). p.0) (dest_combination t) t in
    ap (λ t. combination t other) (ap function (sym whole ∙ (own_sides theorem is left right dest).is))

-- the same image, so the same type
same_type : (a b : NamedTerm) (s t : HolType) → type_of a ≡ Some s → type_of b ≡ Some t → image a ≡ image b → s ≡ t
same_type a b s t a_typed b_typed same =
    one_type (image a) s t (image-typed a s a_typed) (rw same (image-typed b t b_typed))

-- equations with one middle term fit, and those that fit have one
pub trans-fits : (first second : Theorem) → IsTheorem first → IsTheorem second
    → (a b m c : NamedTerm) → dest_equation first.conclusion ≡ Some (a, b) → dest_equation second.conclusion ≡ Some (m, c) → image b ≡ image m → TransFits first second
trans-fits first second is_first is_second a b m c dest_first dest_second alpha =
    let left = own_sides first is_first a b dest_first in
    let right = own_sides second is_second m c dest_second in
    record {
      ty = left.ty;
      left = image a;
      middle = image b;
      right = image c;
      first_is = left.image_is;
      second_is = rw (same_type b m left.ty right.ty left.right_typed right.left_typed alpha, alpha) right.image_is;
    }

pub trans-middle : (first second : Theorem) → IsTheorem first → IsTheorem second
    → (a b m c : NamedTerm) → dest_equation first.conclusion ≡ Some (a, b) → dest_equation second.conclusion ≡ Some (m, c) → TransFits first second → image b ≡ image m
trans-middle first second is_first is_second a b m c dest_first dest_second fits =
    let left = own_sides first is_first a b dest_first in
    let right = own_sides second is_second m c dest_second in
    let ends : image b ≡ fits.middle = cc (left.image_is, fits.first_is) in
    let begins : image m ≡ fits.middle = cc (right.image_is, fits.second_is) in
    ends ∙ sym begins

-- an equation of formulas and its left side fit, and in those that fit it is the left side
pub eq_mp-fits : (first second : Theorem) → IsTheorem first → IsTheorem second
    → (p q : NamedTerm) → dest_equation first.conclusion ≡ Some (p, q) → image p ≡ image second.conclusion → EqMpFits first second
eq_mp-fits first second is_first is_second p q dest alpha =
    let parts = own_sides first is_first p q dest in
    let formula : HasType [] (image p) bool_type = rw alpha (Derivable-known second.theory is_second.legal is_second.derivable).conclusion.typed in
    let one : parts.ty ≡ bool_type = one_type (image p) parts.ty bool_type (image-typed p parts.ty parts.left_typed) formula in
    record { right = image q; first_is = parts.image_is ∙ (λ i. nameless_equation (one i) (alpha i) (image q)) }

pub eq_mp-left : (first second : Theorem) → IsTheorem first → (p q : NamedTerm) → dest_equation first.conclusion ≡ Some (p, q) → EqMpFits first second
    → image p ≡ image second.conclusion
eq_mp-left first second is_first p q dest fits =
    let parts = own_sides first is_first p q dest in
    cc (parts.image_is, fits.first_is)

-- a theorem, as the program makes its parts
pub theorem-alike : (theory : Theory) (hypotheses : List NamedTerm) (conclusion : NamedTerm) (entries : Theory) (items : List NamedTerm) (term : NamedTerm)
    → entries ≡ theory → items ≡ hypotheses → term ≡ conclusion
    → IsTheorem (record { theory = theory; hypotheses = hypotheses; conclusion = conclusion }) → IsTheorem (record { theory = entries; hypotheses = items; conclusion = term })
theorem-alike theory hypotheses conclusion entries items term one two three is = rw (one, two, three) is

-- what stands in two values is the same where the values are
pub some_type : (a b : HolType) → Some a ≡ Some b → a ≡ b
some_type a b same = cc

-- a variable that is free in no hypothesis is free in no image of one
not_free_in_images : (name : List ℕ) (ty : HolType) (hypotheses : List NamedTerm) → is_free_in_hypotheses name ty hypotheses ≡ false → NotFreeInAny name ty (map image hypotheses)
not_free_in_images name ty [] none t m = absurd m
not_free_in_images name ty (h ∷ hypotheses) none t m = go (is_free name ty h) refl none m (not_free_in_images name ty hypotheses)
  where
    go : (test : Bool) → is_free name ty h ≡ test → (test || is_free_in_hypotheses name ty hypotheses) ≡ false → (t ≡ image h) ⊎ IsMember t (map image hypotheses)
        → (is_free_in_hypotheses name ty hypotheses ≡ false → NotFreeInAny name ty (map image hypotheses)) → occurs_free name ty t ≡ false
    go true is none m deeper = cc
    go false is none (inl e) deeper = ap (occurs_free name ty) e ∙ occurs_free-image name ty h ∙ is
    go false is none (inr k) deeper = deeper none t k

-- what is known of the parts of a redex
record KnowsRedex (theory : Theory) (s : HolType) (body : NamedTerm) : Type 0 where
  type : IsKnownType theory s
  types : knows_types theory body ≡ true
  instances : has_instances theory body ≡ true

-- an abstraction that is applied to the very variable that it binds
record IsRedex (term body : NamedTerm) : Type 0 where
  name : List ℕ
  s : HolType
  image_is : image term ≡ app (lam s (close name s (image body))) (free name s)
  body_typed : (ty : HolType) → type_of term ≡ Some ty → type_of body ≡ Some ty
  known : (theory : Theory) → PassesTests theory term → KnowsRedex theory s body

redex_typed : (s t : HolType) (found : Option HolType) (ty : HolType) → application_type (option_map (function_type s) found) (Some t) ≡ Some ty → found ≡ Some ty
redex_typed s t None ty typed = cc
redex_typed s t (Some b) ty typed = go (type_eq s t) typed
  where
    go : (test : Bool) → if◌then◌else◌ {A = Option HolType} test (Some b) None ≡ Some ty → Some b ≡ Some ty
    go true typed = typed
    go false typed = cc

redex_parts : (term body : NamedTerm) → dest_trivial_redex term ≡ Some body → IsRedex term body
redex_parts (combination (abstraction name s inner) (variable other t)) body is = go (same_variable name s other t) refl is
  where
    go : (test : Bool) → same_variable name s other t ≡ test → if◌then◌else◌ {A = Option NamedTerm} test (Some inner) None ≡ Some body
        → IsRedex (combination (abstraction name s inner) (variable other t)) body
    go true passed is =
        let same : inner ≡ body = cc in
        subst (λ (b : NamedTerm). IsRedex (combination (abstraction name s inner) (variable other t)) b) same (record {
          name = name;
          s = s;
          image_is = rw (image-abstraction name s inner, ← same_name name other s t passed, ← same_variable-type name other s t passed) refl;
          body_typed = λ ty typed. redex_typed s t (type_of inner) ty typed;
          known = λ theory passes. record {
            type = knows_type-IsKnownType theory s
                (first_of_both (knows_type theory s) (knows_types theory inner)
                (first_of_both (knows_type theory s && knows_types theory inner) (knows_type theory t) passes.types));
            types = second_of_both (knows_type theory s) (knows_types theory inner) (first_of_both (knows_type theory s && knows_types theory inner) (knows_type theory t) passes.types);
            instances = first_of_both (has_instances theory inner) true passes.instances;
          };
        })
    go false passed is = cc
redex_parts _ body is = cc

-- the rules

module _ (theory : Theory) (legal : IsLegal theory) where
  -- what a theorem handed in says of its conclusion, where that is an equation
  pub equation_of : (theorem : Theorem) → IsEarlier theorem.theory theory → IsTheorem theorem → (left right : NamedTerm)
      → dest_equation theorem.conclusion ≡ Some (left, right) → IsEquation theorem.conclusion left right
  equation_of theorem earlier is left right dest =
      sides theory legal theorem.conclusion left right (Derivable-known theory legal (standing theory legal theorem earlier is)).conclusion dest

  -- the conclusion of a theorem handed in is of type `bool`
  pub formula : (theorem : Theorem) → IsEarlier theorem.theory theory → IsTheorem theorem → type_of theorem.conclusion ≡ Some bool_type
  formula theorem earlier is = image-type theorem.conclusion bool_type (Derivable-known theory legal (standing theory legal theorem earlier is)).conclusion.typed

  pub refl-theorem : (term : NamedTerm) (ty : HolType) → first_unknown theory term ≡ None → type_of term ≡ Some ty
      → IsTheorem (record { theory = theory; hypotheses = []; conclusion = equation term term })
  refl-theorem term ty none typed = record {
    legal = legal;
    derivable = rw (image-equation term term ty typed) (refl_rule (image term) ty (known_term theory term ty none typed));
    ordered = tt;
  }

  pub is_formula-type : (term : NamedTerm) → is_formula term ≡ true → type_of term ≡ Some bool_type
  is_formula-type term passed = go (type_of term) refl passed
    where
      go : (found : Option HolType) → type_of term ≡ found → option_map_or (λ ty. type_eq ty bool_type) found false ≡ true → type_of term ≡ Some bool_type
      go None is passed = cc
      go (Some ty) is passed = is ∙ ap Some ((type_eq-Decides ty bool_type).0 passed)

  pub assume-theorem : (term : NamedTerm) → is_formula term ≡ true → first_unknown theory term ≡ None
      → IsTheorem (record { theory = theory; hypotheses = term ∷ []; conclusion = term })
  assume-theorem term formula none = record {
    legal = legal;
    derivable = assume_rule (image term) (known_term theory term bool_type none (is_formula-type term formula));
    ordered = (tt, tt);
  }

  pub trans-types : (first second : Theorem) → IsEarlier first.theory theory → IsEarlier second.theory theory → IsTheorem first → IsTheorem second
      → (a b m c : NamedTerm) → dest_equation first.conclusion ≡ Some (a, b) → dest_equation second.conclusion ≡ Some (m, c) → image b ≡ image m
      → type_of a ≡ type_of c
  trans-types first second earlier_first earlier_second is_first is_second a b m c dest_first dest_second alpha =
      let left = equation_of first earlier_first is_first a b dest_first in
      let right = equation_of second earlier_second is_second m c dest_second in
      let one : left.ty ≡ right.ty = same_type b m left.ty right.ty left.right_typed right.left_typed alpha in
      left.left_typed ∙ ap Some one ∙ sym right.right_typed

  -- so the first equation's `=` of its left side takes the right side of the second
  pub trans-typed : (first second : Theorem) → IsEarlier first.theory theory → IsEarlier second.theory theory → IsTheorem first → IsTheorem second
      → (a b m c term : NamedTerm) → dest_equation first.conclusion ≡ Some (a, b) → dest_equation second.conclusion ≡ Some (m, c) → image b ≡ image m
      → term ≡ equation a c → IsSome (type_of term)
  trans-typed first second earlier_first earlier_second is_first is_second a b m c term dest_first dest_second alpha same =
      let left = equation_of first earlier_first is_first a b dest_first in
      let typed = trans-types first second earlier_first earlier_second is_first is_second a b m c dest_first dest_second alpha in
      rw (same, equation-typed a c left.ty left.left_typed (sym typed ∙ left.left_typed)) refl

  pub trans-theorem : (first second : Theorem) → IsEarlier first.theory theory → IsEarlier second.theory theory → IsTheorem first → IsTheorem second
      → (a b m c : NamedTerm) → dest_equation first.conclusion ≡ Some (a, b) → dest_equation second.conclusion ≡ Some (m, c) → image b ≡ image m
      → IsTheorem (record { theory = theory; hypotheses = with_hypotheses first.hypotheses second.hypotheses; conclusion = equation a c })
  trans-theorem first second earlier_first earlier_second is_first is_second a b m c dest_first dest_second alpha =
      let left = equation_of first earlier_first is_first a b dest_first in
      let right = equation_of second earlier_second is_second m c dest_second in
      let one : left.ty ≡ right.ty = same_type b m left.ty right.ty left.right_typed right.left_typed alpha in
      let from_first : Derivable theory (map image first.hypotheses) (nameless_equation left.ty (image a) (image b)) = rw left.image_is at (standing theory legal first earlier_first is_first) in
      let from_second : Derivable theory (map image second.hypotheses) (nameless_equation left.ty (image b) (image c)) =
      rw (right.image_is, ← one, ← alpha) at (standing theory legal second earlier_second is_second) in
      record {
        legal = legal;
        derivable = rw (image-equation a c left.ty left.left_typed) (same_hypotheses
            (trans_rule left.ty (image a) (image b) (image c) from_first from_second)
            (with_hypotheses-same_set first.hypotheses second.hypotheses));
        ordered = with_hypotheses-ordered first.hypotheses second.hypotheses is_first.ordered;
      }

  pub eq_mp-theorem : (first second : Theorem) → IsEarlier first.theory theory → IsEarlier second.theory theory → IsTheorem first → IsTheorem second
      → (p q : NamedTerm) → dest_equation first.conclusion ≡ Some (p, q) → image p ≡ image second.conclusion
      → IsTheorem (record { theory = theory; hypotheses = with_hypotheses first.hypotheses second.hypotheses; conclusion = q })
  eq_mp-theorem first second earlier_first earlier_second is_first is_second p q dest alpha =
      let parts = equation_of first earlier_first is_first p q dest in
      let second_here = standing theory legal second earlier_second is_second in
      let formula : HasType [] (image p) bool_type = rw alpha (Derivable-known theory legal second_here).conclusion.typed in
      let one : parts.ty ≡ bool_type = one_type (image p) parts.ty bool_type (image-typed p parts.ty parts.left_typed) formula in
      let from_first : Derivable theory (map image first.hypotheses) (nameless_equation bool_type (image p) (image q)) =
      rw (parts.image_is, one) at (standing theory legal first earlier_first is_first) in
      let from_second : Derivable theory (map image second.hypotheses) (image p) = rw alpha second_here in
      record {
        legal = legal;
        derivable = same_hypotheses (eq_mp_rule (image p) (image q) from_first from_second) (with_hypotheses-same_set first.hypotheses second.hypotheses);
        ordered = with_hypotheses-ordered first.hypotheses second.hypotheses is_first.ordered;
      }

  -- the two combinations of MK_COMB have one type
  pub mk_comb-types : (first second : Theorem) → IsEarlier first.theory theory → IsEarlier second.theory theory → IsTheorem first → IsTheorem second
      → (f g x y : NamedTerm) (ty : HolType) → dest_equation first.conclusion ≡ Some (f, g) → dest_equation second.conclusion ≡ Some (x, y)
      → type_of (combination f x) ≡ Some ty → type_of (combination g y) ≡ Some ty
  mk_comb-types first second earlier_first earlier_second is_first is_second f g x y ty dest_first dest_second typed =
      let functions = equation_of first earlier_first is_first f g dest_first in
      let arguments = equation_of second earlier_second is_second x y dest_second in
      rw (functions.right_typed, arguments.right_typed) (rw (functions.left_typed, arguments.left_typed) at typed)

  pub mk_comb-theorem : (first second : Theorem) → IsEarlier first.theory theory → IsEarlier second.theory theory → IsTheorem first → IsTheorem second
      → (f g x y : NamedTerm) (ty : HolType) → dest_equation first.conclusion ≡ Some (f, g) → dest_equation second.conclusion ≡ Some (x, y)
      → type_of (combination f x) ≡ Some ty
      → IsTheorem (record { theory = theory; hypotheses = with_hypotheses first.hypotheses second.hypotheses; conclusion = equation (combination f x) (combination g y) })
  mk_comb-theorem first second earlier_first earlier_second is_first is_second f g x y ty dest_first dest_second typed =
      let functions = equation_of first earlier_first is_first f g dest_first in
      let arguments = equation_of second earlier_second is_second x y dest_second in
      let parts = application-typed (type_of f) (type_of x) ty typed in
      let domain : arguments.ty ≡ parts.0 = some_type arguments.ty parts.0 (sym arguments.left_typed ∙ parts.2) in
      let function : functions.ty ≡ function_type parts.0 ty = some_type functions.ty (function_type parts.0 ty) (sym functions.left_typed ∙ parts.1) in
      let from_first : Derivable theory (map image first.hypotheses) (nameless_equation (function_type parts.0 ty) (image f) (image g)) =
      rw (functions.image_is, function) at (standing theory legal first earlier_first is_first) in
      let from_second : Derivable theory (map image second.hypotheses) (nameless_equation parts.0 (image x) (image y)) =
      rw (arguments.image_is, domain) at (standing theory legal second earlier_second is_second) in
      record {
        legal = legal;
        derivable = rw (image-equation (combination f x) (combination g y) ty typed) (same_hypotheses
            (mk_comb_rule parts.0 ty (image f) (image g) (image x) (image y) from_first from_second)
            (with_hypotheses-same_set first.hypotheses second.hypotheses));
        ordered = with_hypotheses-ordered first.hypotheses second.hypotheses is_first.ordered;
      }

  pub abs-types : (theorem : Theorem) → IsEarlier theorem.theory theory → IsTheorem theorem → (name : List ℕ) (s : HolType) (a b : NamedTerm) → dest_equation theorem.conclusion ≡ Some (a, b)
      → type_of (abstraction name s a) ≡ type_of (abstraction name s b)
  abs-types theorem earlier is name s a b dest =
      let parts = equation_of theorem earlier is a b dest in
      rw (parts.left_typed, parts.right_typed) refl

  pub abs-theorem : (theorem : Theorem) → IsEarlier theorem.theory theory → IsTheorem theorem → (name : List ℕ) (s : HolType) (a b : NamedTerm) → dest_equation theorem.conclusion ≡ Some (a, b)
      → knows_type theory s ≡ true → is_free_in_hypotheses name s theorem.hypotheses ≡ false
      → IsTheorem (record { theory = theory; hypotheses = theorem.hypotheses; conclusion = equation (abstraction name s a) (abstraction name s b) })
  abs-theorem theorem earlier is name s a b dest known fresh =
      let parts = equation_of theorem earlier is a b dest in
      let typed : type_of (abstraction name s a) ≡ Some (function_type s parts.ty) = rw parts.left_typed refl in
      let from_theorem : Derivable theory (map image theorem.hypotheses) (nameless_equation parts.ty (image a) (image b)) = rw parts.image_is at (standing theory legal theorem earlier is) in
      record {
        legal = legal;
        derivable = rw (image-equation (abstraction name s a) (abstraction name s b) (function_type s parts.ty) typed, image-abstraction name s a, image-abstraction name s b)
            (abs_rule name s parts.ty (image a) (image b) (knows_type-IsKnownType theory s known) (not_free_in_images name s theorem.hypotheses fresh) from_theorem);
        ordered = is.ordered;
      }

  pub beta-types : (term body : NamedTerm) → dest_trivial_redex term ≡ Some body → (ty : HolType) → type_of term ≡ Some ty → type_of body ≡ Some ty
  beta-types term body dest ty typed = (redex_parts term body dest).body_typed ty typed

  pub beta-theorem : (term body : NamedTerm) (ty : HolType) → dest_trivial_redex term ≡ Some body → first_unknown theory term ≡ None → type_of term ≡ Some ty
      → IsTheorem (record { theory = theory; hypotheses = []; conclusion = equation term body })
  beta-theorem term body ty dest none typed =
      let redex = redex_parts term body dest in
      let body_typed = redex.body_typed ty typed in
      let passes = passes_tests theory term none in
      let known = redex.known theory passes in
      record {
        legal = legal;
        derivable = rw (image-equation term body ty typed, redex.image_is)
            (beta_rule redex.name redex.s ty (image body) known.type (image-known theory body ty body_typed known.types known.instances));
        ordered = tt;
      }

  pub deduct_antisym-types : (first second : Theorem) → IsEarlier first.theory theory → IsEarlier second.theory theory → IsTheorem first → IsTheorem second
      → type_of first.conclusion ≡ type_of second.conclusion
  deduct_antisym-types first second earlier_first earlier_second is_first is_second =
      formula first earlier_first is_first ∙ sym (formula second earlier_second is_second)

  pub deduct_antisym-theorem : (first second : Theorem) → IsEarlier first.theory theory → IsEarlier second.theory theory → IsTheorem first → IsTheorem second
      → IsTheorem (record {
        theory = theory;
        hypotheses = with_hypotheses (without_hypothesis second.conclusion first.hypotheses) (without_hypothesis first.conclusion second.hypotheses);
        conclusion = equation first.conclusion second.conclusion;
      })
  deduct_antisym-theorem first second earlier_first earlier_second is_first is_second =
      let p = first.conclusion in
      let q = second.conclusion in
      let left = without_hypothesis q first.hypotheses in
      let right = without_hypothesis p second.hypotheses in
      let derived = deduct_antisym_rule (image p) (image q) (standing theory legal first earlier_first is_first) (standing theory legal second earlier_second is_second) in
      let named : Derivable theory (map image left ++ map image right) (nameless_equation bool_type (image p) (image q)) =
      rw (image-without_hypothesis q first.hypotheses, image-without_hypothesis p second.hypotheses) derived in
      record {
        legal = legal;
        derivable = rw (image-equation p q bool_type (formula first earlier_first is_first)) (same_hypotheses named (with_hypotheses-same_set left right));
        ordered = with_hypotheses-ordered left right (kept-ordered (λ hypothesis. not (are_alpha_equivalent hypothesis q)) first.hypotheses is_first.ordered);
      }

  pub deduct_antisym_known-theorem : (first second : Theorem) → IsEarlier first.theory theory → IsEarlier second.theory theory → IsTheorem first → IsTheorem second → DeductFits first second
      → IsTheorem (record { theory = theory; hypotheses = without_hypothesis second.conclusion first.hypotheses; conclusion = equation first.conclusion second.conclusion })
  deduct_antisym_known-theorem first second earlier_first earlier_second is_first is_second fits =
      let left = without_hypothesis second.conclusion first.hypotheses in
      let whole = equation first.conclusion second.conclusion in
      subst (λ (right : List NamedTerm). IsTheorem (record { theory = theory; hypotheses = with_hypotheses left right; conclusion = whole })) fits.none_stays
      (deduct_antisym-theorem first second earlier_first earlier_second is_first is_second)

-- what the rules on two sides come to, where nothing but the limits can refuse

pub trans-concluded : (theory : Theory) (first second : Theorem) (a b m c : NamedTerm) → dest_equation first.conclusion ≡ Some (a, b) → dest_equation second.conclusion ≡ Some (m, c)
    → image b ≡ image m → trans_outcome theory first second ≡ concluded theory (with_hypotheses first.hypotheses second.hypotheses) (equation a c)
trans-concluded theory first second a b m c dest_first dest_second alpha = rw (dest_first, dest_second, (same_term-Decides (image b) (image m)).1 alpha) refl

pub eq_mp-concluded : (theory : Theory) (first second : Theorem) (p q : NamedTerm) → dest_equation first.conclusion ≡ Some (p, q) → image p ≡ image second.conclusion
    → eq_mp_outcome theory first second ≡ Ok (record { theory = theory; hypotheses = with_hypotheses first.hypotheses second.hypotheses; conclusion = q })
eq_mp-concluded theory first second p q dest alpha = rw (dest, (same_term-Decides (image p) (image second.conclusion)).1 alpha) refl

pub mk_comb-concluded : (theory : Theory) (first second : Theorem) (f g x y : NamedTerm) (ty : HolType) → dest_equation first.conclusion ≡ Some (f, g) → dest_equation second.conclusion ≡ Some (x, y)
    → type_of (combination f x) ≡ Some ty
    → mk_comb_outcome theory first second ≡ concluded theory (with_hypotheses first.hypotheses second.hypotheses) (equation (combination f x) (combination g y))
mk_comb-concluded theory first second f g x y ty dest_first dest_second typed = rw (dest_first, dest_second, typed) refl

pub abs-concluded : (theory : Theory) (binder : NamedTerm) (theorem : Theorem) (name : List ℕ) (ty : HolType) (a b : NamedTerm) → dest_variable binder ≡ Some (name, ty)
    → dest_equation theorem.conclusion ≡ Some (a, b) → knows_type theory ty ≡ true → is_free_in_hypotheses name ty theorem.hypotheses ≡ false
    → abs_outcome theory binder theorem ≡ concluded theory theorem.hypotheses (equation (abstraction name ty a) (abstraction name ty b))
abs-concluded theory binder theorem name ty a b is_binder dest known fresh = rw (is_binder, dest, known, fresh) refl

pub deduct_antisym-concluded : (theory : Theory) (first second : Theorem) → DeductFits first second
    → deduct_antisym_outcome theory first second ≡ concluded theory (without_hypothesis second.conclusion first.hypotheses) (equation first.conclusion second.conclusion)
deduct_antisym-concluded theory first second fits =
    ap (λ right. concluded theory (with_hypotheses (without_hypothesis second.conclusion first.hypotheses) right) (equation first.conclusion second.conclusion)) fits.none_stays

-- the outcome of a rule that ends in an equation, as the program makes its parts
pub answers-alike : (result outcome : Result Theorem Fault) (theory entries : Theory) (hypotheses items : List NamedTerm) (conclusion term : NamedTerm)
    → outcome ≡ concluded theory hypotheses conclusion → entries ≡ theory → items ≡ hypotheses → term ≡ conclusion
    → Answers result (concluded entries items term) → Answers result outcome
answers-alike result outcome theory entries hypotheses items conclusion term is one two three answers =
    let parts : concluded entries items term ≡ concluded theory hypotheses conclusion = λ i. concluded (one i) (two i) (three i) in
    subst (λ (o : Result Theorem Fault). Answers result o) (parts ∙ sym is) answers

pub answers-concluded : (result outcome : Result Theorem Fault) (theory entries : Theory) (hypotheses items : List NamedTerm) (a b left right : NamedTerm)
    → outcome ≡ concluded theory hypotheses (equation a b) → entries ≡ theory → items ≡ hypotheses → left ≡ a → right ≡ b
    → Answers result (concluded entries items (equation left right)) → Answers result outcome
answers-concluded result outcome theory entries hypotheses items a b left right is one two three four answers =
    answers-alike result outcome theory entries hypotheses items (equation a b) (equation left right) is one two (λ i. equation (three i) (four i)) answers

-- the outcome of a rule that only memory can refuse, as the program makes its parts
pub answers-made : (result outcome : Result Theorem Fault) (theory entries : Theory) (hypotheses items : List NamedTerm) (term conclusion : NamedTerm)
    → outcome ≡ Ok (record { theory = theory; hypotheses = hypotheses; conclusion = term }) → entries ≡ theory → items ≡ hypotheses → conclusion ≡ term
    → IfOk result (λ made. made ≡ record { theory = entries; hypotheses = items; conclusion = conclusion }) → IfErr result (λ fault. fault ≡ Memory) → Answers result outcome
answers-made (Ok made) outcome theory entries hypotheses items term conclusion is one two three ok err =
    let parts : record { theory = entries; hypotheses = items; conclusion = conclusion } ≡ record { theory = theory; hypotheses = hypotheses; conclusion = term } =
    λ i. record { theory = one i; hypotheses = two i; conclusion = three i } in
    is ∙ ap Ok (sym (ok ∙ parts))
answers-made (Err fault) outcome theory entries hypotheses items term conclusion is one two three ok err = inl err

-- ASSUME of a known formula comes to it
pub assume-concluded : (theory : Theory) (term : NamedTerm) → IsKnownFormula theory term
    → assume_outcome theory term ≡ Ok (record { theory = theory; hypotheses = term ∷ []; conclusion = term })
assume-concluded theory term known = rw (known_is_formula theory term known, no_unknown theory term known.known) refl

-- the axioms

pub eta-theorem : (theory : Theory) → IsLegal theory → IsTheorem (record { theory = theory; hypotheses = []; conclusion = eta_conclusion })
eta-theorem theory legal = record { legal = legal; derivable = eta_rule; ordered = tt }

pub select-theorem : (theory : Theory) → IsLegal theory → IsTheorem (record { theory = theory; hypotheses = select_hypothesis ∷ []; conclusion = select_conclusion })
select-theorem theory legal = record { legal = legal; derivable = select_rule; ordered = (tt, tt) }
