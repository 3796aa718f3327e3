-- CHOOSE: the abstraction at the variable, what fits on the way, and the answer.
use Rattle.std.proofs.Common.{◌≡◌, ◌≤◌, ℕ, List, [], ◌∷◌, map, Bool, true, false, ◌&&◌, ◌||◌, not, if◌then◌else◌, refl, sym, ◌∙◌, ap, subst, Some, None, arith}
use Rattle.std.specs.Prelude.{codes}
use Rattle.std.specs.List.{list_all, list_any}
use Rattle.std.proofs.lemmas.Bool.{le-leb}
use Rattle.hol_model.specs.declared.limits.TheConstants.{TYPE_NODES_LIMIT}
use Rattle.hol_model.specs.Terms.HolType.{HolType, bool_type, type_nodes}
use Rattle.hol_model.specs.Terms.NamedTerm.{NamedTerm, combination, abstraction, type_of, type_fits, is_free}
use Rattle.hol_model.specs.Terms.Nameless.{Nameless, free, const, bound, app, image, same_term}
use Rattle.hol_model.specs.Terms.Measures.{nameless_types_fit, nameless_within_limits}
use Rattle.hol_model.specs.Logic.Logic as nameless
use Rattle.hol_model.specs.Logic.Logic.{implies_name, forall_name, exists_name, predicate, quantifier}
use Rattle.hol_model.specs.Terms.Substitution.{close, occurs_free}
use Rattle.hol_model.specs.Logic.Theory.{Theory, IsKnown}
use Rattle.hol_model.specs.Logic.Derivable.{without, nameless_equation}
use Rattle.hol_model.specs.Kernel.Rules.{first_unknown}
use Rattle.hol_model.specs.Derived.DerivedRules.{is_roomy, is_free_in_some}
use Rattle.hol_model.proofs.Terms.HolTypeEq.{type_eq-self}
use Rattle.hol_model.proofs.Terms.Images.{image-abstraction, occurs_free-image}
use Rattle.hol_model.proofs.Logic.Known.{app-known}
use Rattle.hol_model.proofs.Tests.{first_of_both, second_of_both, both, same_variable-self}
use Rattle.hol_subst.proofs.Closing.{close_at-fresh}
use Rattle.hol_equal.specs.Conversions.{closed, conversion_fits}
use Rattle.hol_equal.specs.Formulas.{IsFormula}
use Rattle.hol_equal.specs.Room.{IsSized, FitsIf}
use Rattle.hol_equal.proofs.StepLemmas.{application, no_unknown}
use Rattle.hol_bool.proofs.RuleAnswers.{sized-connected}
use Rattle.hol_equal.proofs.Sizes.{leaves_room, sized-app, sized-equation, sized-more, sized-within}
use Rattle.hol_quant.specs.PredicateLemmas.{over_predicate, eliminated, at_type, at_formula, formula_lemma_fits}
use Rattle.hol_quant.specs.Universals.{for_all, FitsForAll}
use Rattle.hol_quant.specs.Witnesses.{IsAtVariable, existential, redex, witnessed, suffices, eliminates, leave_room}
use Rattle.hol_quant.proofs.RoomLemmas.{PredicateRoom, predicate-room, conversion-within, closed-sized, instance-within, free-sized, const-sized}
use Rattle.hol_quant.proofs.VariableLemmas.{witnessed-sized}

-- other hypotheses

pub others-free : (name : List ℕ) (ty : HolType) (witness : Nameless) (hypotheses : List NamedTerm)
    → list_any (λ h. not (same_term (image h) witness) && is_free name ty h) hypotheses ≡ is_free_in_some name ty (without witness (map image hypotheses))
others-free name ty witness [] = refl
others-free name ty witness (h ∷ hypotheses) = go (same_term (image h) witness) (others-free name ty witness hypotheses)
  where
    rest : List Nameless
    rest = without witness (map image hypotheses)

    go : (test : Bool) → list_any (λ u. not (same_term (image u) witness) && is_free name ty u) hypotheses ≡ is_free_in_some name ty rest
        → ((not test && is_free name ty h) || list_any (λ u. not (same_term (image u) witness) && is_free name ty u) hypotheses) ≡ is_free_in_some name ty (if not test then image h ∷ rest else rest)
    go true same = same
    go false same = λ i. sym (occurs_free-image name ty h) i || same i

-- the lemma `(?) P |- (!x. P x ==> q) ==> q`

premise-at : (ty : HolType) (function q : NamedTerm) → at_formula ty function q (over_predicate exists_name) ≡ app (const exists_name (quantifier ty)) (image function)
premise-at ty function q = rw (type_eq-self ty) refl

cases-at : (ty : HolType) (function q : NamedTerm) → at_formula ty function q eliminated ≡ eliminates ty (image function) (image q)
cases-at ty function q = rw (type_eq-self ty) refl

generic-sized : (ty : HolType) → type_nodes ty ≤ 250 → IsSized 8 20 (at_type ty eliminated)
generic-sized ty few = record {
  height = omega arith;
  nodes = omega arith;
  types = rw (le-leb (type_nodes (quantifier ty)) TYPE_NODES_LIMIT (omega arith), le-leb (type_nodes (predicate ty)) TYPE_NODES_LIMIT (omega arith)) refl;
}

module _ (theory : Theory) (function binder argument : NamedTerm) (at : IsAtVariable theory function binder argument) where
  abbrev pub formula : Nameless
  formula = existential at.name at.ty at.body

  abbrev pub applied : Nameless
  applied = redex at.name at.ty at.body argument

  abbrev pub witness : Nameless
  witness = witnessed at.name at.ty at.body argument

  pub argument_image : image argument ≡ free at.other at.ty
  argument_image = ap image at.argument_is

  pub argument-typed : type_of argument ≡ Some at.ty
  argument-typed = ap type_of at.argument_is

  pub argument-known : IsKnown theory (image argument) at.ty
  argument-known = subst (λ (t : Nameless). IsKnown theory t at.ty) (sym argument_image) (record { typed = refl; parts = at.type_known })

  pub function_image : image function ≡ closed at.name at.ty at.body
  function_image = ap image at.function_is ∙ image-abstraction at.name at.ty at.body

  pub function-known : IsKnown theory (image function) (predicate at.ty)
  function-known = subst (λ (t : Nameless). IsKnown theory t (predicate at.ty)) (sym function_image) at.function_known

  function-typed : type_of function ≡ Some (predicate at.ty)
  function-typed = ap type_of at.function_is ∙ (rw at.body_typed refl)

  pub applied_image : image (combination function argument) ≡ applied
  applied_image = ap (λ (f : Nameless). app f (image argument)) function_image

  pub applied-formula : IsFormula theory (combination function argument)
  applied-formula = record {
    typed = application function argument at.ty bool_type function-typed argument-typed;
    known = subst (λ (t : Nameless). IsKnown theory t bool_type) (sym applied_image)
        (app-known theory at.ty bool_type (closed at.name at.ty at.body) (image argument) at.function_known argument-known);
  }

  pub none-unknown : first_unknown theory (combination (abstraction at.name at.ty at.body) argument) ≡ None
  none-unknown =
      no_unknown theory (combination (abstraction at.name at.ty at.body) argument) bool_type
      (subst (λ (f : NamedTerm). IsKnown theory (image (combination f argument)) bool_type) at.function_is applied-formula.known)

  pub formula-at : (q : NamedTerm) → at_formula at.ty function q (over_predicate exists_name) ≡ formula
  formula-at q = premise-at at.ty function q ∙ ap (app (const exists_name (quantifier at.ty))) function_image

  pub eliminates-at : (q : NamedTerm) → at_formula at.ty function q eliminated ≡ eliminates at.ty (closed at.name at.ty at.body) (image q)
  eliminates-at q = cases-at at.ty function q ∙ ap (λ (f : Nameless). eliminates at.ty f (image q)) function_image

  -- what leaves room

  parts-of : is_roomy formula ≡ true → PredicateRoom at.name at.ty at.body
  parts-of roomy = predicate-room exists_name at.name at.ty at.body at.body_typed roomy

  argument-sized : is_roomy formula ≡ true → IsSized 1000 5000 (image argument)
  argument-sized roomy =
      let few = (parts-of roomy).few in
      subst (λ (t : Nameless). IsSized 1000 5000 t) (sym argument_image) (sized-more 1 1 1000 5000 (free at.other at.ty) (free-sized at.other at.ty (omega arith)) (omega arith) (omega arith))

  pub witness-sized : is_roomy formula ≡ true → IsSized 1000 5000 witness
  witness-sized roomy =
      subst (λ (a : NamedTerm). IsSized 1000 5000 (witnessed at.name at.ty at.body a)) (sym at.argument_is)
      (witnessed-sized at.name at.other at.ty at.body at.body_typed 1000 5000 (parts-of roomy).body_sized)

  pub conversion-fits : is_roomy formula ≡ true → conversion_fits at.name at.ty bool_type at.body argument ≡ true
  conversion-fits roomy = conversion-within at.name at.ty at.body argument (parts-of roomy) (argument-sized roomy) (witness-sized roomy)

  -- the redex is of the size of the formula
  pub applied-sized : is_roomy formula ≡ true → IsSized 1000 5000 applied
  applied-sized roomy =
      let few = (parts-of roomy).few in
      let whole = (leaves_room formula roomy).sized in
      let here = closed at.name at.ty at.body in
      subst (λ (t : Nameless). IsSized 1000 5000 (app here t)) (sym argument_image) (record {
        height = let a = whole.height in omega arith;
        nodes = let a = whole.nodes in omega arith;
        types = both (nameless_types_fit [] here) (type_fits at.ty) (parts-of roomy).function.types (le-leb (type_nodes at.ty) TYPE_NODES_LIMIT (omega arith));
      })

  module _ (q : NamedTerm) where
    abbrev pub room : Bool
    room = leave_room at.name at.ty at.body q

    pub first-roomy : room ≡ true → is_roomy formula ≡ true
    first-roomy all = first_of_both (is_roomy formula) (list_all is_roomy (image q ∷ [])) all

    pub second-sized : room ≡ true → IsSized 1000 5000 (image q)
    second-sized all = (leaves_room (image q) (first_of_both (is_roomy (image q)) true (second_of_both (is_roomy formula) (list_all is_roomy (image q ∷ [])) all))).sized

    pub applied-within : room ≡ true → nameless_within_limits (app (image function) (image argument)) ≡ true
    applied-within all = ap nameless_within_limits applied_image ∙ sized-within 1000 5000 applied (applied-sized (first-roomy all)) (omega arith) (omega arith)

    pub cut-within : room ≡ true → nameless_within_limits (nameless_equation bool_type witness (image q)) ≡ true
    cut-within all =
        sized-within 1002 10003 (nameless_equation bool_type witness (image q))
        (sized-equation 1000 5000 5000 bool_type witness (image q) (omega arith) (omega arith) (witness-sized (first-roomy all)) (second-sized all)) (omega arith) (omega arith)

    -- !v. (\x. p) v ==> q

    pub for_all-is : (c : NamedTerm) → image c ≡ nameless.implication applied (image q) → occurs_free at.other at.ty formula ≡ false → occurs_free at.other at.ty (image q) ≡ false
        → for_all at.other at.ty c ≡ suffices at.ty (closed at.name at.ty at.body) (image q)
    for_all-is c is fresh fresh_q =
        let here = closed at.name at.ty at.body in
        ap (λ (t : Nameless). nameless.forall_term at.ty (close at.other at.ty t)) (is ∙ ap (λ (t : Nameless). nameless.implication (app here t) (image q)) argument_image)
        ∙ (λ i. nameless.forall_term at.ty (nameless.implication (app (close_at-fresh here 0 at.other at.ty fresh i) (closed_argument i)) (close_at-fresh (image q) 0 at.other at.ty fresh_q i)))
      where
        closed_argument : close at.other at.ty (free at.other at.ty) ≡ bound 0
        closed_argument = rw (same_variable-self at.other at.ty) refl

    for_all-sized : (c : NamedTerm) → type_of c ≡ Some bool_type → image c ≡ nameless.implication applied (image q) → room ≡ true → IsSized 1004 10006 (for_all at.other at.ty c)
    for_all-sized c typed is all =
        let few = (parts-of (first-roomy all)).few in
        let implied = sized-connected 1000 5000 5000 implies_name applied (image q) (omega arith) (applied-sized (first-roomy all)) (second-sized all) in
        let inside = closed-sized 1002 10003 at.other at.ty c typed (omega arith) (omega arith) (omega arith) (subst (λ (t : Nameless). IsSized 1002 10003 t) (sym is) implied) in
        let quantifier_sized = sized-more 1 1 1003 1 (const forall_name (quantifier at.ty)) (const-sized forall_name (quantifier at.ty) (omega arith)) (omega arith) (omega arith) in
        sized-app 1003 1 10004 (const forall_name (quantifier at.ty)) (closed at.other at.ty c) quantifier_sized inside

    pub for_all-fits : (c : NamedTerm) → type_of c ≡ Some bool_type → image c ≡ nameless.implication applied (image q) → FitsForAll room at.other at.ty c
    for_all-fits c typed is = record {
      formula = λ all. sized-more 1004 10006 1900 900000 (for_all at.other at.ty c) (for_all-sized c typed is all) (omega arith) (omega arith);
      few = λ all. (parts-of (first-roomy all)).few;
    }

    suffices-sized : (c : NamedTerm) → type_of c ≡ Some bool_type → image c ≡ nameless.implication applied (image q)
        → occurs_free at.other at.ty formula ≡ false → occurs_free at.other at.ty (image q) ≡ false
        → room ≡ true → IsSized 1004 10006 (suffices at.ty (closed at.name at.ty at.body) (image q))
    suffices-sized c typed is fresh fresh_q all = subst (λ (t : Nameless). IsSized 1004 10006 t) (for_all-is c is fresh fresh_q) (for_all-sized c typed is all)

    eliminates-sized : (s : Nameless) → IsSized 1004 10006 s → room ≡ true → IsSized 1006 15009 (nameless.implication s (image q))
    eliminates-sized s sized all =
        sized-connected 1004 10006 5000 implies_name s (image q) (omega arith) sized (sized-more 1000 5000 1004 5000 (image q) (second-sized all) (omega arith) (omega arith))

    module _ (c : NamedTerm) (typed : type_of c ≡ Some bool_type) (is : image c ≡ nameless.implication applied (image q))
        (fresh : occurs_free at.other at.ty formula ≡ false) (fresh_q : occurs_free at.other at.ty (image q) ≡ false) where
      abbrev sufficient : Nameless
      sufficient = suffices at.ty (closed at.name at.ty at.body) (image q)

      pub implied-fits : FitsIf room (nameless_equation bool_type (nameless.implication sufficient (image q)) (image q))
      implied-fits all =
          sized-more 1008 20012 1900 900000 (nameless_equation bool_type (nameless.implication sufficient (image q)) (image q))
          (sized-equation 1006 15009 5000 bool_type (nameless.implication sufficient (image q)) (image q) (omega arith) (omega arith)
          (eliminates-sized sufficient (suffices-sized c typed is fresh fresh_q all) all)
          (sized-more 1000 5000 1006 5000 (image q) (second-sized all) (omega arith) (omega arith))) (omega arith) (omega arith)

      -- the lemma at the predicate and the formula

      pub cases-fit : room ≡ true → formula_lemma_fits at.ty function q (over_predicate exists_name) eliminated ≡ true
      cases-fit all =
          let few = (parts-of (first-roomy all)).few in
          let left = at_formula at.ty function q (over_predicate exists_name) in
          let right = at_formula at.ty function q eliminated in
          let generic_left : IsSized 2 3 (at_type at.ty (over_predicate exists_name)) =
          sized-app 1 1 1 (const exists_name (quantifier at.ty)) (free (codes "P") (predicate at.ty))
          (const-sized exists_name (quantifier at.ty) (omega arith)) (free-sized (codes "P") (predicate at.ty) (omega arith)) in
          instance-within 1100 20000 (at_type at.ty (over_predicate exists_name)) (at_type at.ty eliminated) left right (omega arith) (omega arith) (omega arith)
          (sized-more 2 3 1100 20000 (at_type at.ty (over_predicate exists_name)) generic_left (omega arith) (omega arith))
          (sized-more 8 20 1100 20000 (at_type at.ty eliminated) (generic-sized at.ty few) (omega arith) (omega arith))
          (subst (λ (t : Nameless). IsSized 1100 20000 t) (sym (formula-at q))
          (sized-more 1000 5000 1100 20000 formula (leaves_room formula (first-roomy all)).sized (omega arith) (omega arith)))
          (subst (λ (t : Nameless). IsSized 1100 20000 t) (sym (eliminates-at q))
          (sized-more 1006 15009 1100 20000 (eliminates at.ty (closed at.name at.ty at.body) (image q))
          (eliminates-sized sufficient (suffices-sized c typed is fresh fresh_q all) all) (omega arith) (omega arith)))
