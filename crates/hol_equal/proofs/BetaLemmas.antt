-- BETA_CONV: a redex, the trivial one of its abstraction, and what putting the argument for the variable makes of that.
use Rattle.std.proofs.Common.{◌≡◌, ◌+◌, ◌≤◌, ℕ, suc, List, [], ◌∷◌, Bool, true, false, ◌&&◌, not, if◌then◌else◌, refl, sym, ◌∙◌, ap, subst, inl, inr}
use Rattle.std.proofs.Common.{Option, Some, None, Result, Ok, Err, IfOk, arith, nat_le}
use Rattle.std.specs.Option.{option_map, option_map_or}
use Rattle.std.specs.List.{list_all}
use Rattle.hol_model.specs.declared.fault.Fault.{Fault}
use Rattle.hol_model.specs.declared.fault.Fault.TheVariants.{TooLarge}
use Rattle.hol_model.specs.declared.limits.TheConstants.{TERM_NODES_LIMIT, TERM_HEIGHT_LIMIT, TYPE_NODES_LIMIT}
use Rattle.std.proofs.lemmas.Bool.{leb-true, le-leb}
use Rattle.hol_model.specs.Terms.HolType.{HolType, function_type, type_nodes}
use Rattle.hol_model.specs.Terms.NamedTerm.{NamedTerm, variable, constant, combination, abstraction, same_variable, type_of, dest_abstraction, is_within_limits, nodes, height}
use Rattle.hol_model.specs.Terms.Nameless.{Nameless, free, const, bound, app, lam, HasType, image, nameless_type}
use Rattle.hol_model.specs.Terms.Measures.{nameless_height, nameless_nodes, nameless_types_fit, nameless_within_limits}
use Rattle.hol_model.specs.Terms.Substitution.{close_at, close, fill, put, put_all, only, replacement}
use Rattle.hol_model.specs.Logic.Theory.{Theory, IsKnown}
use Rattle.hol_model.specs.Logic.Derivable.{nameless_equation}
use Rattle.hol_model.specs.Kernel.Outcome.{Answers, unless}
use Rattle.hol_model.specs.Kernel.Constructors.{combination_outcome}
use Rattle.hol_model.specs.Kernel.Rules.{first_unknown}
use Rattle.hol_model.specs.Derived.DerivedRules.{Stated, AnswersStated, up_to_names, is_roomy, is_roomy_type, has_roomy_types}
use Rattle.hol_model.proofs.Tests.{first_of_both, second_of_both, both, same_variable-self}
use Rattle.hol_model.proofs.Terms.Filling.{fill_at-close_at}
use Rattle.hol_model.proofs.Terms.Typing.{nameless_type-is}
use Rattle.hol_model.proofs.Terms.Images.{image-typed, image-abstraction, application-typed}
use Rattle.hol_model.proofs.Terms.Measures.{nodes-image, height-image, past_limits-image, past_limits-abstraction, some_type}
use Rattle.hol_model.proofs.Terms.HolTypeEq.{type_eq-self}
use Rattle.hol_model.proofs.Terms.NamedTests.{is_known-Decides}
use Rattle.hol_model.specs.Logic.KnownTerm.{is_known, knows_types, knows_constants, has_instances}
use Rattle.hol_model.specs.Kernel.Instantiation.{replacements_refusal}
use Rattle.hol_kernel.proofs.RuleLemmas.{known_term}
use Rattle.hol_journal.specs.Journal.{Recorded, theorem_in}
use Rattle.hol_equal.specs.Sequents.{DerivesIf, IsPast}
use Rattle.hol_equal.specs.Conversions as spec
use Rattle.hol_equal.specs.Conversions.{conversion_fits, beta_converted_outcome}
use Rattle.hol_equal.proofs.StepLemmas.{application}
use Rattle.hol_equal.proofs.CutLemmas.{answers-stated, derives-where}
use Rattle.hol_equal.proofs.Sizes.{IsSized, leaves_room, sized-more, sized-app, sized-equation, sized-within}

-- putting for a variable

put-closed : (passed : ℕ) (name : List ℕ) (ty : HolType) (new term : Nameless) → put (only name ty new) (close_at passed name ty term) ≡ close_at passed name ty term
put-closed passed name ty new (free other s) = go (same_variable name ty other s) refl
  where
    go : (test : Bool) → same_variable name ty other s ≡ test → put (only name ty new) (if test then bound passed else free other s) ≡ (if test then bound passed else free other s)
    go true is = refl
    go false is = rw is refl
put-closed passed name ty new (const other s) = refl
put-closed passed name ty new (bound index) = refl
put-closed passed name ty new (app f x) = λ i. app (put-closed passed name ty new f i) (put-closed passed name ty new x i)
put-closed passed name ty new (lam s body) = λ i. lam s (put-closed (suc passed) name ty new body i)

-- one pair puts for its variable alone
pub one_pair : (argument : NamedTerm) (name : List ℕ) (ty : HolType) (other : List ℕ) (s : HolType)
    → replacement ((argument, variable name ty) ∷ []) other s ≡ only name ty (image argument) other s
one_pair argument name ty other s = go (same_variable name ty other s)
  where
    go : (test : Bool) → option_map_or (λ (pair : NamedTerm × NamedTerm). image pair.0)
        (if◌then◌else◌ {A = Option (NamedTerm × NamedTerm)} test (Some (argument, variable name ty)) None) (free other s)
        ≡ (if test then image argument else free other s)
    go true = refl
    go false = refl

-- the redex of an abstraction and its very variable becomes that of the argument
pub put-redex : (argument : NamedTerm) (name : List ℕ) (ty codomain : HolType) (body : NamedTerm) → type_of body ≡ Some codomain
    → put_all ((argument, variable name ty) ∷ []) (nameless_equation codomain (app (lam ty (close name ty (image body))) (free name ty)) (image body))
    ≡ nameless_equation codomain (app (lam ty (close name ty (image body))) (image argument)) (fill (image argument) (close name ty (image body)))
put-redex argument name ty codomain body typed =
    (λ i. put (λ other s. one_pair argument name ty other s i) (nameless_equation codomain (app (lam ty (close name ty (image body))) (free name ty)) (image body)))
    ∙ (λ i. nameless_equation codomain (app (lam ty (put-closed 0 name ty (image argument) (image body) i)) (variable_is i))
    (sym (fill_at-close_at name ty (image argument) (image body) [] codomain (image-typed body codomain typed)) i))
  where
    variable_is : only name ty (image argument) name ty ≡ image argument
    variable_is = rw (same_variable-self name ty) refl

same_pair : (name : List ℕ) (ty : HolType) (inner binder body : NamedTerm) → dest_abstraction (abstraction name ty inner) ≡ Some (binder, body) → (variable name ty ≡ binder) × (inner ≡ body)
same_pair name ty inner binder body same = (
  ap (λ (o : Option (NamedTerm × NamedTerm)). option_map_or (λ (p : NamedTerm × NamedTerm). p.0) o inner) same,
  ap (λ (o : Option (NamedTerm × NamedTerm)). option_map_or (λ (p : NamedTerm × NamedTerm). p.1) o inner) same,
)

same_domain : (a b c d : HolType) → Some (function_type a b) ≡ Some (function_type c d) → a ≡ c
same_domain a b c d same = cc

-- the parts of a redex, and their types
pub record IsRedexOf (term function binder body argument : NamedTerm) : Type 0 where
  pub name : List ℕ
  pub ty : HolType
  pub codomain : HolType
  pub function_is : function ≡ abstraction name ty body
  pub binder_is : binder ≡ variable name ty
  pub body_typed : type_of body ≡ Some codomain
  pub argument_typed : type_of argument ≡ Some ty

pub redex-of : (term function binder body argument : NamedTerm) (found : HolType) → type_of term ≡ Some found → term ≡ combination function argument → dest_abstraction function ≡ Some (binder, body)
    → IsRedexOf term function binder body argument
redex-of term (abstraction name ty inner) binder body argument found typed is dest =
    let parts = application-typed (type_of (abstraction name ty inner)) (type_of argument) found (ap type_of (sym is) ∙ typed) in
    let inside = some_type (type_of inner) ty (function_type parts.0 found) parts.1 in
    let same = same_pair name ty inner binder body dest in
    let inner_is : inner ≡ body = same.1 in
    let binder_is : binder ≡ variable name ty = sym same.0 in
    let whole : option_map (function_type ty) (type_of inner) ≡ Some (function_type ty inside.0) = ap (option_map (function_type ty)) inside.1 in
    let types : Some (function_type ty inside.0) ≡ Some (function_type parts.0 found) = sym whole ∙ parts.1 in
    let domain : ty ≡ parts.0 = same_domain ty inside.0 parts.0 found types in
    record {
      name = name;
      ty = ty;
      codomain = inside.0;
      function_is = ap (abstraction name ty) inner_is;
      binder_is = binder_is;
      body_typed = ap type_of (sym inner_is) ∙ inside.1;
      argument_typed = parts.2 ∙ ap Some (sym domain);
    }
redex-of term (variable name ty) binder body argument found typed is dest = cc
redex-of term (constant name ty) binder body argument found typed is dest = cc
redex-of term (combination f x) binder body argument found typed is dest = cc

-- a redex by its parts: the one that is converted, and the trivial one
module _ (theory : Theory) (name : List ℕ) (ty codomain : HolType) (body argument : NamedTerm) (body_typed : type_of body ≡ Some codomain) (argument_typed : type_of argument ≡ Some ty) where
  abbrev pub redex : NamedTerm
  redex = combination (abstraction name ty body) argument

  abbrev pub trivial_redex : NamedTerm
  trivial_redex = combination (abstraction name ty body) (variable name ty)

  abbrev closed : Nameless
  closed = lam ty (close name ty (image body))

  function_typed : type_of (abstraction name ty body) ≡ Some (function_type ty codomain)
  function_typed = rw body_typed refl

  pub redex_typed : type_of redex ≡ Some codomain
  redex_typed = application (abstraction name ty body) argument ty codomain function_typed argument_typed

  pub trivial_typed : type_of trivial_redex ≡ Some codomain
  trivial_typed = application (abstraction name ty body) (variable name ty) ty codomain function_typed refl

  redex_image : image redex ≡ app closed (image argument)
  redex_image = λ i. app (image-abstraction name ty body i) (image argument)

  trivial_image : image trivial_redex ≡ app closed (free name ty)
  trivial_image = λ i. app (image-abstraction name ty body i) (free name ty)

  closed_type : nameless_type (ty ∷ []) (close name ty (image body)) ≡ codomain
  closed_type =
      let typed : HasType [] closed (function_type ty codomain) =
      subst (λ (t : Nameless). HasType [] t (function_type ty codomain)) (image-abstraction name ty body)
      (image-typed (abstraction name ty body) (function_type ty codomain) function_typed) in
      let is = nameless_type-is closed [] (function_type ty codomain) typed in
      cc

  -- sizes, where the redex leaves room
  record RedexRoom : Type 0 where
    function : IsSized 1000 5000 closed
    body_sized : IsSized 1000 5000 (image body)
    domain_few : type_nodes ty ≤ 250
    codomain_few : type_nodes codomain ≤ 250

  body_within : nameless_within_limits closed ≡ true → nameless_within_limits (image body) ≡ true
  body_within within = go (nameless_within_limits (image body)) refl
    where
      go : (test : Bool) → nameless_within_limits (image body) ≡ test → test ≡ true
      go true is = refl
      go false is = let past : nameless_within_limits closed ≡ false = past_limits-abstraction name ty (image body) codomain (image-typed body codomain body_typed) is in cc

  redex_room : is_roomy (image redex) ≡ true → RedexRoom
  redex_room roomy =
      let whole = leaves_room (app closed (image argument)) (ap is_roomy (sym redex_image) ∙ roomy) in
      let height_is : nameless_height closed ≡ height body + 1 = ap nameless_height (sym (image-abstraction name ty body)) ∙ height-image [] (abstraction name ty body) in
      let nodes_is : nameless_nodes closed ≡ nodes body + 1 = ap nameless_nodes (sym (image-abstraction name ty body)) ∙ nodes-image [] (abstraction name ty body) in
      let body_height : nameless_height (image body) ≡ height body = height-image [] body in
      let body_nodes : nameless_nodes (image body) ≡ nodes body = nodes-image [] body in
      let total_height = whole.sized.height in
      let total_nodes = whole.sized.nodes in
      let low : nameless_height closed ≤ 1000 = omega arith in
      let few : nameless_nodes closed ≤ 5000 = omega arith in
      let function : IsSized 1000 5000 closed = record { height = low; nodes = few; types = first_of_both (nameless_types_fit [] closed) (nameless_types_fit [] (image argument)) whole.sized.types } in
      let within = body_within (sized-within 1000 5000 closed function (omega arith) (omega arith)) in
      let low_body : nameless_height (image body) ≤ 1000 = omega arith in
      let few_body : nameless_nodes (image body) ≤ 5000 = omega arith in
      let inner = nameless_type (ty ∷ []) (close name ty (image body)) in
      let types : has_roomy_types [] closed ≡ true = first_of_both (has_roomy_types [] closed) (has_roomy_types [] (image argument)) whole.types in
      let arrow : type_nodes (function_type ty inner) ≤ 250 = leb-true _ _ (second_of_both (has_roomy_types (ty ∷ []) (close name ty (image body))) (is_roomy_type (function_type ty inner)) types) in
      let same : type_nodes inner ≡ type_nodes codomain = ap type_nodes closed_type in
      record {
        function = function;
        body_sized = record {
          height = low_body;
          nodes = few_body;
          types = second_of_both (nat_le (nameless_height (image body)) TERM_HEIGHT_LIMIT && nat_le (nameless_nodes (image body)) TERM_NODES_LIMIT) (nameless_types_fit [] (image body)) within;
        };
        domain_few = omega arith;
        codomain_few = omega arith;
      }

  variable_sized : type_nodes ty ≤ 250 → IsSized 1000 1 (free name ty)
  variable_sized few = record { height = omega arith; nodes = omega arith; types = le-leb (type_nodes ty) TYPE_NODES_LIMIT (omega arith) }

  trivial_sized : RedexRoom → IsSized 1001 5002 (app closed (free name ty))
  trivial_sized room = sized-app 1000 5000 1 closed (free name ty) room.function (variable_sized room.domain_few)

  trivial-within : is_roomy (image redex) ≡ true → nameless_within_limits (image trivial_redex) ≡ true
  trivial-within roomy = ap nameless_within_limits trivial_image ∙ sized-within 1001 5002 (app closed (free name ty)) (trivial_sized (redex_room roomy)) (omega arith) (omega arith)

  conversion-within : is_roomy (image redex) ≡ true → nameless_within_limits (nameless_equation codomain (app closed (free name ty)) (image body)) ≡ true
  conversion-within roomy =
      let room = redex_room roomy in
      let few = room.codomain_few in
      sized-within 1003 10005 (nameless_equation codomain (app closed (free name ty)) (image body))
      (sized-equation 1001 5002 5000 codomain (app closed (free name ty)) (image body) (omega arith) (omega arith) (trivial_sized room)
      (sized-more 1000 5000 1001 5000 (image body) room.body_sized (omega arith) (omega arith)))
      (omega arith) (omega arith)

  -- what is stated
  abbrev conversion : Nameless
  conversion = nameless_equation (nameless_type [] (image redex)) (image redex) (fill (image argument) (close name ty (image body)))

  abbrev converted : Stated
  converted = record { hypotheses = []; conclusion = up_to_names conversion }

  outcome_is : first_unknown theory redex ≡ None → beta_converted_outcome theory redex ≡ Ok converted
  outcome_is none = rw none refl

  -- the walk
  pub beta_conv-walk : (fault : Fault) → first_unknown theory redex ≡ Some fault → AnswersStated (Err fault) (image redex ∷ []) (beta_converted_outcome theory redex)
  beta_conv-walk fault is = rw is (inr refl)

  -- the trivial redex is known where the redex is
  pub trivial-known : first_unknown theory redex ≡ None → IsKnown theory (image trivial_redex) codomain
  trivial-known none =
      let known = known_term theory redex codomain none redex_typed in
      record { typed = image-typed trivial_redex codomain trivial_typed; parts = (known.parts.0, known.parts.0.0) }

  argument-known : first_unknown theory redex ≡ None → is_known theory argument ≡ true
  argument-known none =
      let known = known_term theory redex codomain none redex_typed in
      (is_known-Decides theory argument ty argument_typed).1 (record { typed = image-typed argument ty argument_typed; parts = known.parts.1 })

  pub replacement-passes : first_unknown theory redex ≡ None → replacements_refusal theory ((argument, variable name ty) ∷ []) ≡ None
  replacement-passes none = rw (argument_typed, type_eq-self ty) (go (knows_types theory argument) (knows_constants theory argument) (has_instances theory argument) (argument-known none))
    where
      go : (types constants instances : Bool) → (types && constants && instances) ≡ true
          → (if not (types && true) then Some Fault.UnknownType else
          (if not (constants && true) then Some Fault.UnknownConst else (if not (instances && true) then Some Fault.NotInstance else None))) ≡
          None
      go true true true known = refl
      go true true false known = cc
      go true false instances known = cc
      go false constants instances known = cc

  stated_is : conversion ≡ nameless_equation codomain (app closed (image argument)) (fill (image argument) (close name ty (image body)))
  stated_is = λ i. nameless_equation (nameless_type-is (image redex) [] codomain (image-typed redex codomain redex_typed) i) (redex_image i) (fill (image argument) (close name ty (image body)))

  -- what is on the way to it, and it, are within the limits where the redex and it leave room
  conversion-fits : list_all is_roomy (image redex ∷ conversion ∷ []) ≡ true → conversion_fits name ty codomain body argument ≡ true
  conversion-fits roomy =
      let redex_roomy = first_of_both (is_roomy (image redex)) (list_all is_roomy (conversion ∷ [])) roomy in
      let conversion_roomy = first_of_both (is_roomy conversion) true (second_of_both (is_roomy (image redex)) (list_all is_roomy (conversion ∷ [])) roomy) in
      let first : nameless_within_limits (app closed (free name ty)) ≡ true = ap nameless_within_limits (sym trivial_image) ∙ trivial-within redex_roomy in
      let second = nameless_within_limits (nameless_equation codomain (app closed (free name ty)) (image body)) in
      let third = nameless_within_limits (spec.conversion name ty codomain body argument) in
      let last : third ≡ true =
      ap nameless_within_limits (sym stated_is)
      ∙ sized-within 1000 5000 conversion (leaves_room conversion conversion_roomy).sized (omega arith) (omega arith) in
      both (nameless_within_limits (app closed (free name ty))) (second && (third && true)) first
      (both second (third && true) (conversion-within redex_roomy) (both third true last refl))

  pub beta_conv-answers : (result : Result Recorded Fault) → first_unknown theory redex ≡ None
      → DerivesIf (conversion_fits name ty codomain body argument) result [] (spec.conversion name ty codomain body argument)
      → AnswersStated (theorem_in result) (image redex ∷ []) (beta_converted_outcome theory redex)
  beta_conv-answers result none derives =
      let small : List Nameless = image redex ∷ conversion ∷ [] in
      let fits = conversion_fits name ty codomain body argument in
      let shown : DerivesIf fits result [] conversion = subst (λ (t : Nameless). DerivesIf fits result [] t) (sym stated_is) derives in
      let roomy = derives-where fits (list_all is_roomy small) result [] conversion conversion-fits shown in
      subst (λ (o : Result Stated Fault). AnswersStated (theorem_in result) (image redex ∷ []) o) (sym (outcome_is none))
      (answers-stated result (image redex ∷ []) small [] conversion converted roomy (record { to = λ x m. m; back = λ x m. m }) (concludes_of result shown) (λ t m. m))
    where
      concludes_of : (result : Result Recorded Fault) → DerivesIf (conversion_fits name ty codomain body argument) result [] conversion
          → IfOk result (λ made. image made.theorem.conclusion ≡ conversion)
      concludes_of (Ok made) shown = shown.concludes
      concludes_of (Err fault) shown = tt

-- an application that is refused though its parts fit is past the limits
pub applied-past : (fault : Fault) (function argument : NamedTerm) (ty : HolType) → type_of (combination function argument) ≡ Some ty
    → Answers {A = NamedTerm} (Err fault) (combination_outcome function argument)
    → IsPast fault (nameless_within_limits (image (combination function argument)))
applied-past fault function argument ty typed (inl memory) = inl memory
applied-past fault function argument ty typed (inr refusal) =
    go (is_within_limits (combination function argument)) refl (rw typed at refusal)
  where
    go : (test : Bool) → is_within_limits (combination function argument) ≡ test → unless test TooLarge (Ok (combination function argument)) ≡ Err fault
        → IsPast fault (nameless_within_limits (image (combination function argument)))
    go true is refusal = cc
    go false is refusal = let large : TooLarge ≡ fault = cc in inr (sym large, past_limits-image (combination function argument) ty typed is)

-- the redex is the term
pub term-is : (term function binder body argument : NamedTerm) (parts : IsRedexOf term function binder body argument) → term ≡ combination function argument
    → term ≡ combination (abstraction parts.name parts.ty body) argument
term-is term function binder body argument parts is = is ∙ ap (λ (f : NamedTerm). combination f argument) parts.function_is
