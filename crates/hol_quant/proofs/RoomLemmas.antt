-- What is made of quantified formulas that leave room is within the limits.
use Rattle.std.proofs.Common.{◌≡◌, ℕ, ◌+◌, ◌≤◌, List, [], ◌∷◌, Bool, true, false, ◌&&◌, refl, sym, ◌∙◌, ap, Option, Some, arith, nat_le}
use Rattle.std.specs.Option.{option_map}
use Rattle.std.specs.List.{list_all}
use Rattle.std.proofs.lemmas.Bool.{leb-true, le-leb}
use Rattle.hol_model.specs.declared.limits.TheConstants.{TYPE_NODES_LIMIT, TERM_NODES_LIMIT, TERM_HEIGHT_LIMIT}
use Rattle.hol_model.specs.Terms.HolType.{HolType, bool_type, function_type, type_nodes}
use Rattle.hol_model.specs.Terms.NamedTerm.{NamedTerm, abstraction, type_of, height, nodes, some_type_fits, types_fit, is_within_limits}
use Rattle.hol_model.specs.Terms.Nameless.{Nameless, free, const, app, image}
use Rattle.hol_model.specs.Terms.Measures.{nameless_height, nameless_nodes, nameless_types_fit, nameless_within_limits}
use Rattle.hol_model.specs.Logic.Logic.{predicate, quantifier}
use Rattle.hol_model.specs.Terms.Substitution.{close, fill}
use Rattle.hol_model.specs.Logic.Derivable.{nameless_equation}
use Rattle.hol_model.specs.Derived.DerivedRules.{is_roomy, is_roomy_type, has_roomy_types}
use Rattle.hol_model.proofs.Tests.{first_of_both, second_of_both, both}
use Rattle.hol_model.proofs.Terms.Images.{image-typed, image-abstraction}
use Rattle.hol_model.proofs.Terms.Measures.{height-image, nodes-image, past_limits-image, past_limits-abstraction}
use Rattle.hol_model.proofs.Terms.WithinLimits.{within_limits-image}
use Rattle.hol_equal.specs.Conversions.{closed, trivial, conversion, conversion_fits}
use Rattle.hol_equal.proofs.Sizes.{IsSized, leaves_room, sized-app, sized-equation, sized-more, sized-within}
use Rattle.hol_quant.specs.PredicateLemmas.{at_type, at_predicate, lemma_fits}

pub free-sized : (name : List ℕ) (ty : HolType) → type_nodes ty ≤ 1900 → IsSized 1 1 (free name ty)
free-sized name ty few = record { height = omega arith; nodes = omega arith; types = le-leb (type_nodes ty) TYPE_NODES_LIMIT (omega arith) }

pub const-sized : (name : List ℕ) (ty : HolType) → type_nodes ty ≤ 1900 → IsSized 1 1 (const name ty)
const-sized name ty few = record { height = omega arith; nodes = omega arith; types = le-leb (type_nodes ty) TYPE_NODES_LIMIT (omega arith) }

-- a formula with a quantifier: the abstraction, its body and the type of its variable
pub record PredicateRoom (name : List ℕ) (ty : HolType) (body : NamedTerm) : Type 0 where
  pub function : IsSized 1000 5000 (closed name ty body)
  pub body_sized : IsSized 1000 5000 (image body)
  pub few : type_nodes ty ≤ 250

-- the body of an abstraction of formulas
pub body-sized : (tall many : ℕ) (name : List ℕ) (ty : HolType) (body : NamedTerm) → type_of body ≡ Some bool_type → tall ≤ 2000 → many ≤ 4000000
    → IsSized tall many (closed name ty body) → IsSized tall many (image body)
body-sized tall many name ty body typed low few function =
    let height_is : nameless_height (closed name ty body) ≡ height body + 1 = ap nameless_height (sym (image-abstraction name ty body)) ∙ height-image [] (abstraction name ty body) in
    let nodes_is : nameless_nodes (closed name ty body) ≡ nodes body + 1 = ap nameless_nodes (sym (image-abstraction name ty body)) ∙ nodes-image [] (abstraction name ty body) in
    let body_height : nameless_height (image body) ≡ height body = height-image [] body in
    let body_nodes : nameless_nodes (image body) ≡ nodes body = nodes-image [] body in
    let function_height = function.height in
    let function_nodes = function.nodes in
    record {
      height = omega arith;
      nodes = omega arith;
      types = second_of_both (nat_le (nameless_height (image body)) TERM_HEIGHT_LIMIT && nat_le (nameless_nodes (image body)) TERM_NODES_LIMIT)
          (nameless_types_fit [] (image body)) (within (nameless_within_limits (image body)) refl);
    }
  where
    within : (test : Bool) → nameless_within_limits (image body) ≡ test → nameless_within_limits (image body) ≡ true
    within true is = is
    within false is =
        let past : nameless_within_limits (closed name ty body) ≡ false = past_limits-abstraction name ty (image body) bool_type (image-typed body bool_type typed) is in
        let fits : nameless_within_limits (closed name ty body) ≡ true = sized-within tall many (closed name ty body) function low few in
        cc

-- the abstraction of a formula
pub closed-sized : (tall many : ℕ) (name : List ℕ) (ty : HolType) (body : NamedTerm) → type_of body ≡ Some bool_type → type_nodes ty ≤ 1900
    → tall ≤ 1990 → many ≤ 3000000 → IsSized tall many (image body)
    → IsSized (tall + 1) (many + 1) (closed name ty body)
closed-sized tall many name ty body typed few low less sized =
    let whole = abstraction name ty body in
    let height_is : nameless_height (closed name ty body) ≡ height body + 1 = ap nameless_height (sym (image-abstraction name ty body)) ∙ height-image [] whole in
    let nodes_is : nameless_nodes (closed name ty body) ≡ nodes body + 1 = ap nameless_nodes (sym (image-abstraction name ty body)) ∙ nodes-image [] whole in
    let body_height : nameless_height (image body) ≡ height body = height-image [] body in
    let body_nodes : nameless_nodes (image body) ≡ nodes body = nodes-image [] body in
    let low_body = sized.height in
    let few_nodes = sized.nodes in
    let fits : types_fit whole ≡ true =
    both (types_fit body) (some_type_fits (option_map (function_type ty) (type_of body)))
    (second_of_both (nat_le (height body) TERM_HEIGHT_LIMIT && nat_le (nodes body) TERM_NODES_LIMIT) (types_fit body)
    (within (is_within_limits body) refl))
    (ap (λ (o : Option HolType). some_type_fits (option_map (function_type ty) o)) typed ∙ le-leb (type_nodes (predicate ty)) TYPE_NODES_LIMIT (omega arith)) in
    let low_whole : height whole ≤ TERM_HEIGHT_LIMIT = omega arith in
    let few_whole : nodes whole ≤ TERM_NODES_LIMIT = omega arith in
    let inside : is_within_limits whole ≡ true =
    both (nat_le (height whole) TERM_HEIGHT_LIMIT && nat_le (nodes whole) TERM_NODES_LIMIT) (types_fit whole)
    (both (nat_le (height whole) TERM_HEIGHT_LIMIT) (nat_le (nodes whole) TERM_NODES_LIMIT) (le-leb (height whole) TERM_HEIGHT_LIMIT low_whole)
    (le-leb (nodes whole) TERM_NODES_LIMIT few_whole)) fits in
    let whole_typed : type_of whole ≡ Some (predicate ty) = ap (option_map (function_type ty)) typed in
    let image_inside : nameless_within_limits (image whole) ≡ true = within_limits-image whole (predicate ty) whole_typed inside in
    record {
      height = omega arith;
      nodes = omega arith;
      types = ap (nameless_types_fit []) (sym (image-abstraction name ty body))
          ∙ second_of_both (nat_le (nameless_height (image whole)) TERM_HEIGHT_LIMIT && nat_le (nameless_nodes (image whole)) TERM_NODES_LIMIT) (nameless_types_fit [] (image whole)) image_inside;
    }
  where
    within : (test : Bool) → is_within_limits body ≡ test → is_within_limits body ≡ true
    within true is = is
    within false is =
        let past : nameless_within_limits (image body) ≡ false = past_limits-image body bool_type typed is in
        let fits : nameless_within_limits (image body) ≡ true = sized-within tall many (image body) sized (omega arith) (omega arith) in
        cc

pub predicate-room : (quantifier_name name : List ℕ) (ty : HolType) (body : NamedTerm) → type_of body ≡ Some bool_type
    → is_roomy (app (const quantifier_name (quantifier ty)) (closed name ty body)) ≡ true
    → PredicateRoom name ty body
predicate-room quantifier_name name ty body typed roomy =
    let whole = leaves_room (app (const quantifier_name (quantifier ty)) (closed name ty body)) roomy in
    let few : type_nodes (quantifier ty) ≤ 250 = leb-true _ _ (first_of_both (is_roomy_type (quantifier ty)) (has_roomy_types [] (closed name ty body)) whole.types) in
    let tall = whole.sized.height in
    let many = whole.sized.nodes in
    let function : IsSized 1000 5000 (closed name ty body) = record {
      height = omega arith;
      nodes = omega arith;
      types = second_of_both (nameless_types_fit [] (const quantifier_name (quantifier ty))) (nameless_types_fit [] (closed name ty body)) whole.sized.types;
    } in
    record { function = function; body_sized = body-sized 1000 5000 name ty body typed (omega arith) (omega arith) function; few = omega arith }

-- the conversion of a redex
pub conversion-within : (name : List ℕ) (ty : HolType) (body argument : NamedTerm) → PredicateRoom name ty body → IsSized 1000 5000 (image argument)
    → IsSized 1000 5000 (fill (image argument) (close name ty (image body)))
    → conversion_fits name ty bool_type body argument ≡ true
conversion-within name ty body argument room argument_sized result_sized =
    let few = room.few in
    let variable_sized = sized-more 1 1 1000 1 (free name ty) (free-sized name ty (omega arith)) (omega arith) (omega arith) in
    let first = sized-app 1000 5000 1 (closed name ty body) (free name ty) room.function variable_sized in
    let second = sized-equation 1001 5002 5000 bool_type (trivial name ty body) (image body) (omega arith) (omega arith) first
    (sized-more 1000 5000 1001 5000 (image body) room.body_sized (omega arith) (omega arith)) in
    let redex = sized-app 1000 5000 5000 (closed name ty body) (image argument) room.function argument_sized in
    let result = fill (image argument) (close name ty (image body)) in
    let third = sized-equation 1001 10001 5000 bool_type (app (closed name ty body) (image argument)) result (omega arith) (omega arith) redex
    (sized-more 1000 5000 1001 5000 result result_sized (omega arith) (omega arith)) in
    rw (
      sized-within 1001 5002 (trivial name ty body) first (omega arith) (omega arith),
      sized-within 1003 10005 (nameless_equation bool_type (trivial name ty body) (image body)) second (omega arith) (omega arith),
      sized-within 1003 15004 (conversion name ty bool_type body argument) third (omega arith) (omega arith),
    ) refl

-- an instance of a lemma
pub instance-within : (tall many : ℕ) (generic_left generic_right left right : Nameless) → 1 ≤ tall → tall ≤ 1950 → many ≤ 950000
    → IsSized tall many generic_left → IsSized tall many generic_right → IsSized tall many left → IsSized tall many right
    → list_all nameless_within_limits (generic_right ∷ generic_left ∷ right ∷ left ∷ nameless_equation bool_type left right ∷ []) ≡ true
instance-within tall many generic_left generic_right left right one low few generic_left_sized generic_right_sized left_sized right_sized =
    let within : (t : Nameless) → IsSized tall many t → nameless_within_limits t ≡ true = λ t sized. sized-within tall many t sized (omega arith) (omega arith) in
    let both = sized-equation tall many many bool_type left right one (omega arith) left_sized right_sized in
    let fits = sized-within (tall + 2) (many + many + 3) (nameless_equation bool_type left right) both (omega arith) (omega arith) in
    all_five (nameless_within_limits generic_right) (nameless_within_limits generic_left) (nameless_within_limits right)
    (nameless_within_limits left) (nameless_within_limits (nameless_equation bool_type left right))
    (within generic_right generic_right_sized) (within generic_left generic_left_sized) (within right right_sized) (within left left_sized) fits
  where
    all_five : (a b c d e : Bool) → a ≡ true → b ≡ true → c ≡ true → d ≡ true → e ≡ true → (a && (b && (c && (d && (e && true))))) ≡ true
    all_five a b c d e one two three four five = rw (one, two, three, four, five) refl

pub lemma-within : (ty : HolType) (function element : NamedTerm) (p q left right : Nameless) → at_predicate ty function element p ≡ left → at_predicate ty function element q ≡ right
    → IsSized 1100 12000 (at_type ty p) → IsSized 1100 12000 (at_type ty q) → IsSized 1100 12000 left → IsSized 1100 12000 right → lemma_fits ty function element p q ≡ true
lemma-within ty function element p q left right left_is right_is generic_left generic_right left_sized right_sized =
    rw (left_is, right_is) (instance-within 1100 12000 (at_type ty p) (at_type ty q) left right (omega arith) (omega arith) (omega arith) generic_left generic_right left_sized right_sized)
