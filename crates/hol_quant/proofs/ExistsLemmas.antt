-- EXISTS: the redex of the predicate and the witness, the lemma at them, and the answer.
use Rattle.std.proofs.Common.{◌≡◌, ◌⊎◌, ℕ, List, [], ◌∷◌, Bool, true, false, refl, sym, ◌∙◌, ap, subst, inl, inr, Option, Some, None, Result, Ok, Err, IfOk, arith}
use Rattle.std.specs.Prelude.{codes}
use Rattle.std.specs.List.{list_all}
use Rattle.std.specs.Option.{option_map_or}
use Rattle.hol_model.specs.declared.fault.Fault.{Fault}
use Rattle.hol_model.specs.declared.fault.Fault.TheVariants.{Memory, TooLarge, NotAlpha}
use Rattle.hol_model.specs.Terms.HolType.{HolType, bool_type}
use Rattle.hol_model.specs.Terms.NamedTerm.{NamedTerm, variable, combination, abstraction, type_of, dest_variable, dest_abstraction, is_within_limits}
use Rattle.hol_model.specs.Logic.NamedLogic.{dest_exists, is_constant_named}
use Rattle.hol_model.specs.Terms.Nameless.{Nameless, free, const, app, image, same_term}
use Rattle.hol_model.specs.Terms.Measures.{nameless_within_limits}
use Rattle.hol_model.specs.Logic.Logic.{exists_name, predicate, quantifier}
use Rattle.hol_model.specs.Terms.Substitution.{close, fill, put_all}
use Rattle.hol_model.specs.Kernel.Instantiation.{or_too_large}
use Rattle.hol_model.specs.Logic.Theory.{Theory, IsKnown, generic_type, type_a}
use Rattle.hol_model.specs.Kernel.Theorem.{Theorem}
use Rattle.hol_model.specs.Logic.Derivable.{nameless_equation}
use Rattle.hol_model.specs.Kernel.Outcome.{Answers, unless, refused}
use Rattle.hol_model.specs.Kernel.Constructors.{combination_outcome}
use Rattle.hol_model.specs.Kernel.Rules.{first_unknown}
use Rattle.hol_model.specs.Derived.DerivedRules.{Stated, AnswersStated, named, images, terms_of_theorem, is_roomy, exists_outcome}
use Rattle.hol_model.proofs.Terms.HolTypeEq.{type_eq-self}
use Rattle.hol_model.proofs.Terms.Images.{image-abstraction}
use Rattle.hol_model.proofs.Logic.Known.{app-known}
use Rattle.hol_model.proofs.Tests.{first_of_both, second_of_both, same_term-Decides}
use Rattle.hol_model.proofs.Terms.WithinLimits.{within_limits-image}
use Rattle.hol_subst.specs.Outcomes.{vsubst_refusal, pairs_refusal}
use Rattle.hol_kernel.proofs.RuleLemmas.{known_term}
use Rattle.hol_journal.specs.Journal.{Recorded, theorem_in}
use Rattle.hol_equal.specs.Sequents.{Shows, DerivesIf, IsPast}
use Rattle.hol_equal.specs.Conversions.{closed, conversion, conversion_fits}
use Rattle.hol_equal.specs.Room.{FitsIf}
use Rattle.hol_equal.proofs.BetaLemmas.{put-redex, applied-past}
use Rattle.hol_bool.proofs.RoomLemmas.{fits-within}
use Rattle.hol_equal.proofs.StepLemmas.{application, no_unknown}
use Rattle.hol_equal.proofs.CutLemmas.{answers-stated, formulas-within}
use Rattle.hol_equal.proofs.Sizes.{IsSized, leaves_room, sized-app, sized-equation, sized-more, sized-within, past-room}
use Rattle.hol_quant.specs.PredicateLemmas.{applied, over_predicate, at_type, at_predicate, lemma_fits}
use Rattle.hol_quant.specs.QuantifiedParts.{IsWitnessed, witnessed_terms}
use Rattle.hol_quant.proofs.PartLemmas.{HasParts, has-parts, quantified-at}
use Rattle.hol_quant.proofs.RoomLemmas.{PredicateRoom, predicate-room, conversion-within, lemma-within, free-sized, const-sized}
use Rattle.hol_quant.proofs.GenLemmas.{truth, truth-sized, proposition}
use Rattle.hol_quant.proofs.SpecLemmas.{applied-at, over_predicate-at, memory-answers}

right_side : Nameless → Nameless
right_side (app f x) = x
right_side term = term

-- what leaves room fits
pub roomy-fits : (p : Nameless) → FitsIf (is_roomy p) p
roomy-fits p roomy = sized-more 1000 5000 1900 900000 p (leaves_room p roomy).sized (omega arith) (omega arith)

-- from p <=> T to p
pub back-fits : (room : Bool) (p : Nameless) → FitsIf room p → room ≡ true
    → list_all nameless_within_limits
    (proposition ∷ nameless_equation bool_type proposition truth ∷ p ∷ nameless_equation bool_type p truth ∷ nameless_equation bool_type
    (nameless_equation bool_type p truth) p ∷ []) ≡ true
back-fits room p fits is =
    let sized = fits is in
    let equal = sized-equation 1900 900000 1 bool_type p truth (omega arith) (omega arith) sized truth-sized in
    let both =
    sized-equation 1902 900004 900000 bool_type (nameless_equation bool_type p truth) p (omega arith) (omega arith) equal (sized-more 1900 900000 1902 900000 p sized (omega arith) (omega arith)) in
    rw (
      sized-within 1900 900000 p sized (omega arith) (omega arith),
      sized-within 1902 900004 (nameless_equation bool_type p truth) equal (omega arith) (omega arith),
      sized-within 1904 1800007 (nameless_equation bool_type (nameless_equation bool_type p truth) p) both (omega arith) (omega arith),
    ) refl

-- the body of a redex with the argument for its variable
pub put-body : (argument : NamedTerm) (name : List ℕ) (ty codomain : HolType) (body : NamedTerm) → type_of body ≡ Some codomain
    → put_all ((argument, variable name ty) ∷ []) (image body) ≡ fill (image argument) (close name ty (image body))
unfolding right_side
put-body argument name ty codomain body typed = ap right_side (put-redex argument name ty codomain body typed)

abbrev pub one_pair : NamedTerm → NamedTerm → List (NamedTerm × NamedTerm)
one_pair new old = (new, old) ∷ []

pub pair-is : (new argument old binder binder_term : NamedTerm) → new ≡ argument → old ≡ binder → binder ≡ binder_term → one_pair new old ≡ one_pair argument binder_term
pair-is new argument old binder binder_term new_is old_is binder_is = λ i. one_pair (new_is i) ((old_is ∙ binder_is) i)

module _ (argument body other : NamedTerm) (name : List ℕ) (ty codomain : HolType) (argument_typed : type_of argument ≡ Some ty)
    (body_typed : type_of body ≡ Some codomain) (theta : List (NamedTerm × NamedTerm)) (theta_is : theta ≡ (argument, variable name ty) ∷ []) where
  put-is : put_all theta (image body) ≡ fill (image argument) (close name ty (image body))
  put-is = ap (λ (l : List (NamedTerm × NamedTerm)). put_all l (image body)) theta_is ∙ put-body argument name ty codomain body body_typed

  pub instance-same : (instance : NamedTerm) → image instance ≡ put_all theta (image body)
      → same_term (image instance) (image other) ≡ same_term (fill (image argument) (close name ty (image body))) (image other)
  instance-same instance is = ap (λ (t : Nameless). same_term t (image other)) (is ∙ put-is)

  -- what is past the limits is another term than one within them
  pub past-differs : (TooLarge ≡ Memory) ⊎ (vsubst_refusal theta body ≡ Some TooLarge) → (whole : HolType) → type_of other ≡ Some whole
      → is_within_limits other ≡ true → false ≡ same_term (fill (image argument) (close name ty (image body))) (image other)
  past-differs (inl memory) whole typed within = cc
  past-differs (inr refusal) whole typed within =
      let past = past_of (nameless_within_limits (put_all theta (image body)))
      (ap (λ (o : Option Fault). or_too_large o (nameless_within_limits (put_all theta (image body)))) (sym passes) ∙ refusal) in
      let fits = within_limits-image other whole typed within in
      sym (differ (fill (image argument) (close name ty (image body))) (image other) (ap nameless_within_limits (sym put-is) ∙ past) fits)
    where
      passes : pairs_refusal theta ≡ None
      passes = ap pairs_refusal theta_is ∙ rw (argument_typed, type_eq-self ty) refl

      past_of : (fits : Bool) → or_too_large None fits ≡ Some TooLarge → fits ≡ false
      past_of true is = cc
      past_of false is = refl

      differ : (s t : Nameless) → nameless_within_limits s ≡ false → nameless_within_limits t ≡ true → same_term s t ≡ false
      differ s t past fits = go (same_term s t) refl
        where
          go : (test : Bool) → same_term s t ≡ test → test ≡ false
          go false is = refl
          go true is = let same : nameless_within_limits s ≡ nameless_within_limits t = ap nameless_within_limits ((same_term-Decides s t).0 is) in cc

module _ (theory : Theory) (formula function binder body witness : NamedTerm) (instance : Nameless) (at : IsWitnessed theory formula function binder body witness instance) where
  abbrev ty : HolType
  ty = at.parts.ty

  abbrev predicate_image : Nameless
  predicate_image = closed at.parts.name at.parts.ty body

  -- (\x. p) w
  abbrev pub redex : Nameless
  redex = app (closed at.parts.name at.parts.ty body) (image witness)

  -- the terms that have to leave room
  abbrev pub small : List Nameless
  small = witnessed_terms formula witness instance

  pub function_image : image function ≡ closed at.parts.name at.parts.ty body
  function_image = ap image at.parts.function_is ∙ image-abstraction at.parts.name at.parts.ty body

  pub redex_image : app (image function) (image witness) ≡ redex
  redex_image = ap (λ (f : Nameless). app f (image witness)) function_image

  pub predicate_known : IsKnown theory (image function) (predicate ty)
  predicate_known = subst (λ (t : Nameless). IsKnown theory t (predicate ty)) (sym function_image) at.parts.function_known

  pub redex_known : IsKnown theory (app (image function) (image witness)) bool_type
  redex_known = app-known theory ty bool_type (image function) (image witness) predicate_known at.witness_known

  pub redex_passes : first_unknown theory (combination (abstraction at.parts.name at.parts.ty body) witness) ≡ None
  redex_passes =
      subst (λ (f : NamedTerm). first_unknown theory (combination f witness) ≡ None) at.parts.function_is (no_unknown theory (combination function witness) bool_type redex_known)

  pub redex_typed : type_of (combination function witness) ≡ Some bool_type
  redex_typed = application function witness ty bool_type function_typed at.witness_typed
    where
      function_typed : type_of function ≡ Some (predicate ty)
      function_typed = ap type_of at.parts.function_is ∙ rw at.parts.body_typed refl

  -- what leaves room
  record ExistsRoom : Type 0 where
    formula_sized : IsSized 1000 5000 (app (const exists_name (quantifier ty)) predicate_image)
    parts : PredicateRoom at.parts.name ty body
    witness_sized : IsSized 1000 5000 (image witness)
    instance_sized : IsSized 1000 5000 instance
    instance_roomy : is_roomy instance ≡ true

  exists-room : list_all is_roomy small ≡ true → ExistsRoom
  exists-room all =
      let later = second_of_both (is_roomy (image formula)) (list_all is_roomy (image witness ∷ instance ∷ [])) all in
      let last = second_of_both (is_roomy (image witness)) (list_all is_roomy (instance ∷ [])) later in
      let roomy = ap is_roomy (sym at.parts.formula_image) ∙ first_of_both (is_roomy (image formula)) (list_all is_roomy (image witness ∷ instance ∷ [])) all in
      let instance_is_roomy = first_of_both (is_roomy instance) true last in
      record {
        formula_sized = (leaves_room (app (const exists_name (quantifier ty)) predicate_image) roomy).sized;
        parts = predicate-room exists_name at.parts.name ty body at.parts.body_typed roomy;
        witness_sized = (leaves_room (image witness) (first_of_both (is_roomy (image witness)) (list_all is_roomy (instance ∷ [])) later)).sized;
        instance_sized = (leaves_room instance instance_is_roomy).sized;
        instance_roomy = instance_is_roomy;
      }

  pub instance-roomy : list_all is_roomy small ≡ true → is_roomy instance ≡ true
  instance-roomy all = (exists-room all).instance_roomy

  pub conversion-fits : list_all is_roomy small ≡ true → conversion_fits at.parts.name at.parts.ty bool_type body witness ≡ true
  conversion-fits all =
      let room = exists-room all in
      conversion-within at.parts.name ty body witness room.parts room.witness_sized (subst (λ (t : Nameless). IsSized 1000 5000 t) at.instance_is room.instance_sized)

  redex-sized : list_all is_roomy small ≡ true → IsSized 1001 10001 redex
  redex-sized all = let room = exists-room all in sized-app 1000 5000 5000 predicate_image (image witness) room.parts.function room.witness_sized

  pub redex-fits : FitsIf (list_all is_roomy small) (app (image function) (image witness))
  redex-fits all = subst (λ (t : Nameless). IsSized 1900 900000 t) (sym redex_image) (sized-more 1001 10001 1900 900000 redex (redex-sized all) (omega arith) (omega arith))

  -- (\x. p) w <=> T
  pub truth-within : list_all is_roomy small ≡ true → nameless_within_limits (nameless_equation bool_type redex truth) ≡ true
  truth-within all =
      let equal = sized-equation 1001 10001 1 bool_type redex truth (omega arith) (omega arith) (redex-sized all) (record { height = omega arith; nodes = omega arith; types = refl }) in
      sized-within 1003 10005 (nameless_equation bool_type redex truth) equal (omega arith) (omega arith)

  pub redex-at : at_predicate ty function witness applied ≡ app (image function) (image witness)
  redex-at = applied-at ty function witness

  pub formula-at : at_predicate ty function witness (over_predicate exists_name) ≡ image formula
  formula-at = over_predicate-at exists_name ty function witness ∙ ap (app (const exists_name (quantifier ty))) function_image ∙ sym at.parts.formula_image

  pub exists-lemma-within : list_all is_roomy small ≡ true → lemma_fits ty function witness applied (over_predicate exists_name) ≡ true
  exists-lemma-within all =
      let room = exists-room all in
      let few = room.parts.few in
      let predicate_sized = free-sized (codes "P") (predicate ty) (omega arith) in
      let generic_left : IsSized 2 3 (app (free (codes "P") (predicate ty)) (free (codes "x") ty)) =
      sized-app 1 1 1 (free (codes "P") (predicate ty)) (free (codes "x") ty) predicate_sized (free-sized (codes "x") ty (omega arith)) in
      let generic_right : IsSized 2 3 (app (const exists_name (quantifier ty)) (free (codes "P") (predicate ty))) =
      sized-app 1 1 1 (const exists_name (quantifier ty)) (free (codes "P") (predicate ty)) (const-sized exists_name (quantifier ty) (omega arith)) predicate_sized in
      lemma-within ty function witness applied (over_predicate exists_name) redex (app (const exists_name (quantifier ty)) predicate_image)
      (redex-at ∙ redex_image) (formula-at ∙ at.parts.formula_image)
      (sized-more 2 3 1100 12000 (at_type ty applied) generic_left (omega arith) (omega arith))
      (sized-more 2 3 1100 12000 (at_type ty (over_predicate exists_name)) generic_right (omega arith) (omega arith))
      (sized-more 1001 10001 1100 12000 redex (redex-sized all) (omega arith) (omega arith))
      (sized-more 1000 5000 1100 12000 (app (const exists_name (quantifier ty)) predicate_image) room.formula_sized (omega arith) (omega arith))

  pub exists-names-within : list_all is_roomy small ≡ true → nameless_within_limits (nameless_equation bool_type (image formula) (image formula)) ≡ true
  exists-names-within all =
      let roomy = first_of_both (is_roomy (image formula)) (list_all is_roomy (image witness ∷ instance ∷ [])) all in
      formulas-within (image formula) (image formula) (rw roomy refl)

  -- the steps to the redex

  pub redex-past : (fault : Fault) → Answers {A = NamedTerm} (Err fault) (combination_outcome function witness) → IsPast fault (list_all is_roomy small)
  redex-past fault answers =
      past-room fault (nameless_within_limits (image (combination function witness))) (list_all is_roomy small) (applied-past fault function witness bool_type redex_typed answers)
      (fits-within (list_all is_roomy small) (app (image function) (image witness)) redex-fits)

  pub conversion-past : (fault : Fault) → IsPast fault (conversion_fits at.parts.name at.parts.ty bool_type body witness) → IsPast fault (list_all is_roomy small)
  conversion-past fault past = past-room fault (conversion_fits at.parts.name at.parts.ty bool_type body witness) (list_all is_roomy small) past conversion-fits

  pub instance-past : (fault : Fault) → IsPast fault (is_roomy instance) → IsPast fault (list_all is_roomy small)
  instance-past fault past = past-room fault (is_roomy instance) (list_all is_roomy small) past instance-roomy

  pub truth-past : (fault : Fault) → IsPast fault (nameless_within_limits (nameless_equation bool_type redex truth)) → IsPast fault (list_all is_roomy small)
  truth-past fault past = past-room fault (nameless_within_limits (nameless_equation bool_type redex truth)) (list_all is_roomy small) past truth-within

  pub conversion-at : (theorem : Theorem) → Shows theorem [] (conversion at.parts.name at.parts.ty bool_type body witness) → Shows theorem [] (nameless_equation bool_type redex instance)
  conversion-at theorem shown = subst (λ (t : Nameless). Shows theorem [] (nameless_equation bool_type redex t)) (sym at.instance_is) shown

-- what a call answers, by its tests in their order

module _ (theory : Theory) (formula witness : NamedTerm) (premise : Theorem) (name : List ℕ) (ty : HolType) (body : NamedTerm)
    (dest : dest_exists formula ≡ Some (record { name = name; ty = ty; body = body })) (typed : type_of witness ≡ Some ty) where
  abbrev arguments : List Nameless
  arguments = image formula ∷ image witness ∷ terms_of_theorem premise

  abbrev is_instance : Bool
  is_instance = same_term (fill (image witness) (close name ty (image body))) (image premise.conclusion)

  abbrev sequent : Stated
  sequent = record { hypotheses = images premise; conclusion = named formula }

  tests : exists_outcome theory formula witness premise ≡ refused (first_unknown theory formula) (refused (first_unknown theory witness) (unless is_instance NotAlpha (Ok sequent)))
  tests = rw (dest, typed, type_eq-self ty) refl

  pub formula-refused : (fault : Fault) → (fault ≡ Memory) ⊎ (first_unknown theory formula ≡ Some fault) → AnswersStated (Err fault) arguments (exists_outcome theory formula witness premise)
  formula-refused fault (inl memory) = memory-answers fault arguments (exists_outcome theory formula witness premise) memory
  formula-refused fault (inr is) = rw tests (rw is (inr refl))

  pub witness-refused : first_unknown theory formula ≡ None → (fault : Fault) → (fault ≡ Memory) ⊎ (first_unknown theory witness ≡ Some fault)
      → AnswersStated (Err fault) arguments (exists_outcome theory formula witness premise)
  witness-refused passes fault (inl memory) = memory-answers fault arguments (exists_outcome theory formula witness premise) memory
  witness-refused passes fault (inr is) = rw tests (rw (passes, is) (inr refl))

  pub not_alpha-refused : first_unknown theory formula ≡ None → first_unknown theory witness ≡ None → is_instance ≡ false
      → AnswersStated (Err NotAlpha) arguments (exists_outcome theory formula witness premise)
  not_alpha-refused passes also differs = rw tests (rw (passes, also, differs) (inr refl))

  pub exists-answers : first_unknown theory formula ≡ None → first_unknown theory witness ≡ None → is_instance ≡ true → (result : Result Recorded Fault)
      → DerivesIf (list_all is_roomy (witnessed_terms formula witness (image premise.conclusion))) result (images premise) (image formula) → IfOk result (λ made. made.theorem.conclusion ≡ formula)
      → AnswersStated (theorem_in result) arguments (exists_outcome theory formula witness premise)
  exists-answers passes also same result derives names =
      let outcome : exists_outcome theory formula witness premise ≡ Ok sequent = tests ∙ rw (passes, also, same) refl in
      subst (λ (o : Result Stated Fault). AnswersStated (theorem_in result) arguments o) (sym outcome)
      (answers-stated result arguments (witnessed_terms formula witness (image premise.conclusion)) (images premise) (image formula) sequent derives (record { to = λ x m. m; back = λ x m. m }) names
      (λ t m. elim m [ inl e ↦ inl e | inr k ↦ inr (elim k [ inl e ↦ inl e | inr l ↦ inr (elim l [ inl e ↦ inl e | inr none ↦ absurd none ]) ]) ]))

-- the parts of a formula, and a witness of the variable's type
pub record HasCandidate (formula function binder body witness : NamedTerm) : Type 0 where
  pub parts : HasParts exists_name formula function binder body
  pub typed : type_of witness ≡ Some parts.ty

pub candidate : (formula witness constant_term function binder body : NamedTerm) → formula ≡ combination constant_term function
    → is_constant_named exists_name constant_term ≡ true → dest_abstraction function ≡ Some (binder, body)
    → (a b : HolType) → type_of witness ≡ Some a → type_of binder ≡ Some b → a ≡ b → HasCandidate formula function binder body witness
candidate formula witness constant_term function binder body whole is_named dest a b witness_typed binder_typed same =
    let parts = has-parts exists_name formula constant_term function binder body whole is_named dest in
    record { parts = parts; typed = witness_typed ∙ ap Some same ∙ sym binder_typed ∙ ap type_of parts.binder_is }

-- the parts of a call whose tests pass
pub witnessed-at : (theory : Theory) → generic_type theory exists_name ≡ Some (quantifier type_a) → (formula witness : NamedTerm) (whole : HolType)
    → type_of formula ≡ Some whole → first_unknown theory formula ≡ None → first_unknown theory witness ≡ None
    → (constant_term function binder body : NamedTerm) → formula ≡ combination constant_term function
    → is_constant_named exists_name constant_term ≡ true → dest_abstraction function ≡ Some (binder, body)
    → (at : HasParts exists_name formula function binder body) → type_of witness ≡ Some at.ty → (instance : Nameless)
    → same_term (fill (image witness) (close at.name at.ty (image body))) instance ≡ true
    → IsWitnessed theory formula function binder body witness instance
witnessed-at theory generic formula witness whole formula_typed passes also constant_term function binder body is is_named dest at typed instance same =
    let parts = quantified-at theory exists_name generic formula constant_term function binder body whole (known_term theory formula whole passes formula_typed) is is_named dest in
    let same_parts : (at.name ≡ parts.name) × (at.ty ≡ parts.ty) = same_variable_parts at.name parts.name at.ty parts.ty (sym at.binder_is ∙ parts.binder_is) in
    let witness_typed : type_of witness ≡ Some parts.ty = typed ∙ ap Some same_parts.1 in
    record {
      parts = parts;
      witness_typed = witness_typed;
      witness_known = known_term theory witness parts.ty also witness_typed;
      instance_is = sym ((same_term-Decides (fill (image witness) (close at.name at.ty (image body))) instance).0 same)
          ∙ (λ i. fill (image witness) (close (same_parts.0 i) (same_parts.1 i) (image body)));
    }
  where
    same_variable_parts : (a b : List ℕ) (s t : HolType) → variable a s ≡ variable b t → (a ≡ b) × (s ≡ t)
    same_variable_parts a b s t is = (
      ap (λ (o : Option (List ℕ × HolType)). option_map_or (λ (p : List ℕ × HolType). p.0) o a) (ap dest_variable is),
      ap (λ (o : Option (List ℕ × HolType)). option_map_or (λ (p : List ℕ × HolType). p.1) o s) (ap dest_variable is),
    )
