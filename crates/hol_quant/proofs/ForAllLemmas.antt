-- The lemma `P = (\x. T) |- (!) P` at the abstraction of a formula, and what fits on the way.
use Rattle.std.proofs.Common.{◌≡◌, ℕ, List, Bool, true, false, refl, sym, ◌∙◌, ap, subst, inl, inr, Some, Result, Ok, Err, arith}
use Rattle.std.specs.Prelude.{codes}
use Rattle.std.proofs.lemmas.Bool.{le-leb}
use Rattle.hol_model.specs.declared.limits.TheConstants.{TYPE_NODES_LIMIT}
use Rattle.hol_model.specs.Terms.HolType.{HolType, bool_type}
use Rattle.hol_model.specs.Terms.NamedTerm.{NamedTerm, variable, abstraction, type_of, dest_variable, is_within_limits}
use Rattle.hol_model.specs.declared.fault.Fault.{Fault}
use Rattle.hol_model.specs.declared.fault.Fault.TheVariants.{TooLarge}
use Rattle.hol_model.specs.Kernel.Outcome.{Answers, unless}
use Rattle.hol_model.specs.Kernel.Rules.{limited, abstraction_outcome}
use Rattle.hol_model.proofs.Terms.Measures.{past_limits-image}
use Rattle.hol_kernel.proofs.LimitLemmas.{limited-is, abstraction-limited}
use Rattle.hol_model.specs.Terms.Nameless.{Nameless, free, const, app, lam, image}
use Rattle.hol_model.specs.Terms.Measures.{nameless_within_limits}
use Rattle.hol_model.specs.Logic.Logic.{forall_name, predicate, quantifier}
use Rattle.hol_model.specs.Logic.Derivable.{nameless_equation}
use Rattle.hol_model.specs.Logic.Theory.{Theory, IsKnown, IsKnownType}
use Rattle.hol_model.specs.Kernel.Theorem.{Theorem}
use Rattle.hol_model.proofs.Terms.HolTypeEq.{type_eq-self}
use Rattle.hol_model.proofs.Terms.Images.{image-abstraction}
use Rattle.hol_model.proofs.Logic.Known.{close-known}
use Rattle.hol_equal.specs.Conversions.{closed}
use Rattle.hol_equal.specs.Room.{IsSized, FitsIf}
use Rattle.hol_equal.specs.Sequents.{IsPast}
use Rattle.hol_bool.proofs.RoomLemmas.{fits-argument}
use Rattle.hol_equal.proofs.Sizes.{past-room, sized-app, sized-equation, sized-more, sized-within}
use Rattle.hol_quant.specs.PredicateLemmas.{is_always, over_predicate, at_type, at_predicate, lemma_fits}
use Rattle.hol_quant.specs.Universals.{for_all, MayGeneralize, FitsForAll}
use Rattle.hol_quant.proofs.RoomLemmas.{body-sized, instance-within, free-sized, const-sized}
use Rattle.hol_quant.proofs.SpecLemmas.{over_predicate-at}
use Rattle.hol_quant.proofs.GenLemmas.{truth}

limited-past : (fault : Fault) (term : NamedTerm) (ty : HolType) → type_of term ≡ Some ty → Answers {A = NamedTerm} (Err fault) (limited term) → IsPast fault (nameless_within_limits (image term))
limited-past fault term ty typed (inl memory) = inl memory
limited-past fault term ty typed (inr refusal) = go (is_within_limits term) refl refusal
  where
    go : (test : Bool) → is_within_limits term ≡ test → unless {A = NamedTerm} test TooLarge (Ok term) ≡ Err fault → IsPast fault (nameless_within_limits (image term))
    go true is refusal = cc
    go false is refusal = let large : TooLarge ≡ fault = cc in inr (sym large, past_limits-image term ty typed is)

pub variable-known : (theory : Theory) (binder : NamedTerm) (name : List ℕ) (ty : HolType) → binder ≡ variable name ty → IsKnownType theory ty → IsKnown theory (image binder) ty
variable-known theory binder name ty is known = subst (λ (t : NamedTerm). IsKnown theory (image t) ty) (sym is) (record { typed = refl; parts = known })

pub binder-known : (theory : Theory) (premise : Theorem) (binder : NamedTerm) (name : List ℕ) (ty : HolType) → MayGeneralize theory premise binder name ty → IsKnown theory (image binder) ty
binder-known theory premise binder name ty may = variable-known theory binder name ty may.binder_is may.type_known

module _ (name : List ℕ) (ty : HolType) (body : NamedTerm) where
  function_image : image (abstraction name ty body) ≡ closed name ty body
  function_image = image-abstraction name ty body

  pub function-known : (theory : Theory) → IsKnownType theory ty → IsKnown theory (image body) bool_type → IsKnown theory (image (abstraction name ty body)) (predicate ty)
  function-known theory type_known known = subst (λ (t : Nameless). IsKnown theory t (predicate ty)) (sym function_image) (close-known theory name ty bool_type (image body) type_known known)

  pub abstraction-is : (binder : NamedTerm) → binder ≡ variable name ty → (made : NamedTerm) → abstraction_outcome binder body ≡ Ok made → made ≡ abstraction name ty body
  abstraction-is binder binder_is made is = limited-is (abstraction name ty body) made (sym (abstraction-limited binder body name ty (ap dest_variable binder_is)) ∙ is)

  -- (\x. p) = (\x. T)
  abbrev pub always : Nameless
  always = nameless_equation (predicate ty) (closed name ty body) (lam ty truth)

  pub always-at : (binder : NamedTerm) → at_predicate ty (abstraction name ty body) binder is_always ≡ always
  always-at binder = at_type_of ∙ ap (λ (f : Nameless). nameless_equation (predicate ty) f (lam ty truth)) function_image
    where
      at_type_of : at_predicate ty (abstraction name ty body) binder is_always ≡ nameless_equation (predicate ty) (image (abstraction name ty body)) (lam ty truth)
      at_type_of = rw (type_eq-self ty) refl

  pub formula-at : (binder : NamedTerm) → at_predicate ty (abstraction name ty body) binder (over_predicate forall_name) ≡ for_all name ty body
  formula-at binder = over_predicate-at forall_name ty (abstraction name ty body) binder ∙ ap (app (const forall_name (quantifier ty))) function_image

  module _ (room : Bool) (fits : FitsForAll room name ty body) where
    pub function-fits : FitsIf room (closed name ty body)
    function-fits = fits-argument room (const forall_name (quantifier ty)) (closed name ty body) fits.formula

    pub body-fits : type_of body ≡ Some bool_type → FitsIf room (image body)
    body-fits typed is = body-sized 1900 900000 name ty body typed (omega arith) (omega arith) (function-fits is)

    -- \x. p
    pub abstraction-past : (binder : NamedTerm) → binder ≡ variable name ty → type_of body ≡ Some bool_type → (fault : Fault)
        → Answers {A = NamedTerm} (Err fault) (abstraction_outcome binder body) → IsPast fault room
    abstraction-past binder binder_is typed fault answers =
        past-room fault (nameless_within_limits (image (abstraction name ty body))) room
        (limited-past fault (abstraction name ty body) (predicate ty) (abstraction_typed typed)
        (subst (λ (o : Result NamedTerm Fault). Answers {A = NamedTerm} (Err fault) o) (abstraction-limited binder body name ty (ap dest_variable binder_is)) answers))
        (λ is. ap nameless_within_limits function_image ∙ sized-within 1900 900000 (closed name ty body) (function-fits is) (omega arith) (omega arith))
      where
        abstraction_typed : type_of body ≡ Some bool_type → type_of (abstraction name ty body) ≡ Some (predicate ty)
        abstraction_typed typed = rw typed refl

    always-sized : room ≡ true → IsSized 1902 900005 always
    always-sized is =
        let few = fits.few is in
        let truths : IsSized 1900 2 (lam ty truth) = record { height = omega arith; nodes = omega arith; types = le-leb _ TYPE_NODES_LIMIT (omega arith) } in
        sized-equation 1900 900000 2 (predicate ty) (closed name ty body) (lam ty truth) (omega arith) (omega arith) (function-fits is) truths

    pub always-within : room ≡ true → nameless_within_limits always ≡ true
    always-within is = sized-within 1902 900005 always (always-sized is) (omega arith) (omega arith)

    pub lemma-fits : (binder : NamedTerm) → room ≡ true → lemma_fits ty (abstraction name ty body) binder is_always (over_predicate forall_name) ≡ true
    lemma-fits binder is =
        let few = fits.few is in
        let predicate_sized = free-sized (codes "P") (predicate ty) (omega arith) in
        let quantifier_sized = const-sized forall_name (quantifier ty) (omega arith) in
        let truths : IsSized 2 2 (lam ty truth) = record { height = omega arith; nodes = omega arith; types = le-leb _ TYPE_NODES_LIMIT (omega arith) } in
        let generic_left : IsSized 4 6 (nameless_equation (predicate ty) (free (codes "P") (predicate ty)) (lam ty truth)) =
        sized-equation 2 1 2 (predicate ty) (free (codes "P") (predicate ty)) (lam ty truth) (omega arith) (omega arith)
        (sized-more 1 1 2 1 (free (codes "P") (predicate ty)) predicate_sized (omega arith) (omega arith)) truths in
        let generic_right : IsSized 2 3 (app (const forall_name (quantifier ty)) (free (codes "P") (predicate ty))) =
        sized-app 1 1 1 (const forall_name (quantifier ty)) (free (codes "P") (predicate ty)) quantifier_sized predicate_sized in
        let left = at_predicate ty (abstraction name ty body) binder is_always in
        let right = at_predicate ty (abstraction name ty body) binder (over_predicate forall_name) in
        instance-within 1950 950000 (at_type ty is_always) (at_type ty (over_predicate forall_name)) left right (omega arith) (omega arith) (omega arith)
        (sized-more 4 6 1950 950000 (at_type ty is_always) generic_left (omega arith) (omega arith))
        (sized-more 2 3 1950 950000 (at_type ty (over_predicate forall_name)) generic_right (omega arith) (omega arith))
        (subst (λ (t : Nameless). IsSized 1950 950000 t) (sym (always-at binder)) (sized-more 1902 900005 1950 950000 always (always-sized is) (omega arith) (omega arith)))
        (subst (λ (t : Nameless). IsSized 1950 950000 t) (sym (formula-at binder)) (sized-more 1900 900000 1950 950000 (for_all name ty body) (fits.formula is) (omega arith) (omega arith)))
