-- SPEC: the lemma at a predicate and an element, and the answer.
use Rattle.std.proofs.Common.{◌≡◌, ◌⊎◌, ℕ, List, [], ◌∷◌, ◌++◌, true, refl, sym, ◌∙◌, ap, subst, inl, inr, Some, None, Result, Ok, Err, IfOk, arith}
use Rattle.std.specs.Prelude.{codes}
use Rattle.std.specs.List.{list_all}
use Rattle.hol_model.specs.declared.fault.Fault.{Fault}
use Rattle.hol_model.specs.declared.fault.Fault.TheVariants.{Memory}
use Rattle.hol_model.specs.Terms.HolType.{HolType, bool_type}
use Rattle.hol_model.specs.Terms.NamedTerm.{NamedTerm, combination, type_of, dest_abstraction}
use Rattle.hol_model.specs.Logic.NamedLogic.{is_constant_named}
use Rattle.hol_model.specs.Terms.Nameless.{Nameless, free, const, app, image}
use Rattle.hol_model.specs.Logic.Logic.{forall_name, predicate, quantifier}
use Rattle.hol_model.specs.Terms.Substitution.{close, fill}
use Rattle.hol_model.specs.Logic.Theory.{Theory, IsLegal, generic_type, type_a}
use Rattle.hol_model.specs.Kernel.Theorem.{Theorem, IsTheorem}
use Rattle.hol_model.specs.Logic.Derivable.{IsMember}
use Rattle.hol_model.specs.Kernel.Rules.{first_unknown}
use Rattle.hol_model.specs.Derived.DerivedRules.{Stated, AnswersStated, up_to_names, images, terms_of_theorem, terms_of_stated, is_roomy, spec_outcome}
use Rattle.hol_model.proofs.Terms.HolTypeEq.{type_eq-self}
use Rattle.hol_model.proofs.Terms.Images.{image-abstraction}
use Rattle.hol_model.proofs.Terms.Membership.{IsMember-append_right}
use Rattle.hol_model.proofs.Tests.{first_of_both, second_of_both}
use Rattle.hol_journal.specs.Journal.{Journal, Recorded, IsMade, theorem_in}
use Rattle.hol_equal.specs.Sequents.{DerivesIf}
use Rattle.hol_equal.specs.Conversions.{closed, conversion_fits}
use Rattle.hol_equal.proofs.CutLemmas.{answers-stated, conclusion-known}
use Rattle.hol_equal.proofs.Sizes.{IsSized, leaves_room, sized-app, sized-more}
use Rattle.hol_quant.specs.PredicateLemmas.{applied, over_predicate, at_type, at_predicate, lemma_fits}
use Rattle.hol_quant.proofs.PartLemmas.{IsQuantified, quantified-at}
use Rattle.hol_quant.proofs.RoomLemmas.{PredicateRoom, predicate-room, conversion-within, lemma-within, free-sized, const-sized}

pub applied-at : (ty : HolType) (function element : NamedTerm) → at_predicate ty function element applied ≡ app (image function) (image element)
applied-at ty function element = rw (type_eq-self ty) refl

pub over_predicate-at : (quantifier_name : List ℕ) (ty : HolType) (function element : NamedTerm)
    → at_predicate ty function element (over_predicate quantifier_name) ≡ app (const quantifier_name (quantifier ty)) (image function)
over_predicate-at quantifier_name ty function element = rw (type_eq-self ty) refl

-- without memory any outcome may fail
pub memory-answers : (fault : Fault) (arguments : List Nameless) (outcome : Result Stated Fault) → fault ≡ Memory → AnswersStated (Err fault) arguments outcome
memory-answers fault arguments (Ok sequent) memory = inl memory
memory-answers fault arguments (Err refusal) memory = inl memory

module _ (theory : Theory) (term : NamedTerm) (premise : Theorem) (function binder body : NamedTerm)
    (at : IsQuantified theory forall_name premise.conclusion function binder body) (typed : type_of term ≡ Some at.ty) where
  -- p[t/x]
  abbrev pub specialized_body : Nameless
  specialized_body = fill (image term) (close at.name at.ty (image body))

  abbrev arguments : List Nameless
  arguments = image term ∷ terms_of_theorem premise

  -- the terms that have to leave room
  abbrev pub small : List Nameless
  small = image term ∷ image premise.conclusion ∷ specialized_body ∷ []

  abbrev sequent : Stated
  sequent = record { hypotheses = images premise; conclusion = up_to_names specialized_body }

  pub spec-answers : (result : Result Recorded Fault) → first_unknown theory term ≡ None → DerivesIf (list_all is_roomy small) result (images premise) specialized_body
      → AnswersStated (theorem_in result) arguments (spec_outcome theory term premise)
  spec-answers result none derives =
      let outcome : spec_outcome theory term premise ≡ Ok sequent = rw (at.dest, typed, type_eq-self at.ty, none) refl in
      subst (λ (o : Result Stated Fault). AnswersStated (theorem_in result) arguments o) (sym outcome)
      (answers-stated result arguments small (images premise) specialized_body sequent derives (record { to = λ x m. m; back = λ x m. m }) (concludes result derives)
      (λ t m. elim m [ inl e ↦ inl e | inr k ↦ inr (elim k [ inl e ↦ inl e | inr l ↦ inr (last t l) ]) ]))
    where
      last : (t : Nameless) → IsMember t (specialized_body ∷ []) → IsMember t (images premise ++ terms_of_stated sequent)
      last t (inl e) = IsMember-append_right t (images premise) (terms_of_stated sequent) (inl e)
      last t (inr none) = absurd none

      concludes : (result : Result Recorded Fault) → DerivesIf (list_all is_roomy small) result (images premise) specialized_body
          → IfOk result (λ made. image made.theorem.conclusion ≡ specialized_body)
      concludes (Ok made) shown = shown.concludes
      concludes (Err fault) shown = tt

  spec-unknown : (fault : Fault) → first_unknown theory term ≡ Some fault → AnswersStated (Err fault) arguments (spec_outcome theory term premise)
  spec-unknown fault is = rw (at.dest, typed, type_eq-self at.ty, is) (inr refl)

  pub spec-refused : (fault : Fault) → (fault ≡ Memory) ⊎ (first_unknown theory term ≡ Some fault) → AnswersStated (Err fault) arguments (spec_outcome theory term premise)
  spec-refused fault refused = elim refused [
    | inl memory ↦ memory-answers fault arguments (spec_outcome theory term premise) memory
    | inr unknown ↦ spec-unknown fault unknown
  ]

  -- what leaves room
  pub record SpecRoom : Type 0 where
    pub term_sized : IsSized 1000 5000 (image term)
    pub conclusion_sized : IsSized 1000 5000 (app (const forall_name (quantifier at.ty)) (closed at.name at.ty body))
    pub parts : PredicateRoom at.name at.ty body
    pub result_sized : IsSized 1000 5000 specialized_body

  pub spec-room : list_all is_roomy small ≡ true → SpecRoom
  spec-room all =
      let conclusion = image premise.conclusion in
      let later = second_of_both (is_roomy (image term)) (list_all is_roomy (conclusion ∷ specialized_body ∷ [])) all in
      let last = second_of_both (is_roomy conclusion) (list_all is_roomy (specialized_body ∷ [])) later in
      let roomy = ap is_roomy (sym at.formula_image) ∙ first_of_both (is_roomy conclusion) (list_all is_roomy (specialized_body ∷ [])) later in
      record {
        term_sized = (leaves_room (image term) (first_of_both (is_roomy (image term)) (list_all is_roomy (conclusion ∷ specialized_body ∷ [])) all)).sized;
        conclusion_sized = (leaves_room (app (const forall_name (quantifier at.ty)) (closed at.name at.ty body)) roomy).sized;
        parts = predicate-room forall_name at.name at.ty body at.body_typed roomy;
        result_sized = (leaves_room specialized_body (first_of_both (is_roomy specialized_body) true last)).sized;
      }

  pub function_image : image function ≡ closed at.name at.ty body
  function_image = ap image at.function_is ∙ image-abstraction at.name at.ty body

  pub premise-at : at_predicate at.ty function term (over_predicate forall_name) ≡ image premise.conclusion
  premise-at = over_predicate-at forall_name at.ty function term ∙ ap (app (const forall_name (quantifier at.ty))) function_image ∙ sym at.formula_image

  pub redex-at : at_predicate at.ty function term applied ≡ app (closed at.name at.ty body) (image term)
  redex-at = applied-at at.ty function term ∙ ap (λ (f : Nameless). app f (image term)) function_image

  pub spec-lemma-within : list_all is_roomy small ≡ true → lemma_fits at.ty function term (over_predicate forall_name) applied ≡ true
  spec-lemma-within all =
      let room = spec-room all in
      let few = room.parts.few in
      let predicate_sized = free-sized (codes "P") (predicate at.ty) (omega arith) in
      let generic_left : IsSized 2 3 (app (const forall_name (quantifier at.ty)) (free (codes "P") (predicate at.ty))) =
      sized-app 1 1 1 (const forall_name (quantifier at.ty)) (free (codes "P") (predicate at.ty)) (const-sized forall_name (quantifier at.ty) (omega arith)) predicate_sized in
      let generic_right : IsSized 2 3 (app (free (codes "P") (predicate at.ty)) (free (codes "x") at.ty)) =
      sized-app 1 1 1 (free (codes "P") (predicate at.ty)) (free (codes "x") at.ty) predicate_sized (free-sized (codes "x") at.ty (omega arith)) in
      lemma-within at.ty function term (over_predicate forall_name) applied (app (const forall_name (quantifier at.ty)) (closed at.name at.ty body)) (app (closed at.name at.ty body) (image term))
      (premise-at ∙ at.formula_image) redex-at
      (sized-more 2 3 1100 12000 (at_type at.ty (over_predicate forall_name)) generic_left (omega arith) (omega arith))
      (sized-more 2 3 1100 12000 (at_type at.ty applied) generic_right (omega arith) (omega arith))
      (sized-more 1000 5000 1100 12000 (app (const forall_name (quantifier at.ty)) (closed at.name at.ty body)) room.conclusion_sized (omega arith) (omega arith))
      (sized-more 1001 10001 1100 12000 (app (closed at.name at.ty body) (image term))
      (sized-app 1000 5000 5000 (closed at.name at.ty body) (image term) room.parts.function room.term_sized) (omega arith) (omega arith))

  pub spec-conversion-within : list_all is_roomy small ≡ true → conversion_fits at.name at.ty bool_type body term ≡ true
  spec-conversion-within all = let room = spec-room all in conversion-within at.name at.ty body term room.parts room.term_sized room.result_sized

-- the parts of the premise, and the type of the term
pub record IsSpecialized (theory : Theory) (term : NamedTerm) (premise : Theorem) (function binder body : NamedTerm) : Type 0 where
  pub at : IsQuantified theory forall_name premise.conclusion function binder body
  pub typed : type_of term ≡ Some at.ty

pub spec-start : (journal : Journal) → IsLegal journal.theory → (made : Recorded) → IsMade journal made → (theorem : Theorem) → theorem ≡ made.theorem → IsTheorem theorem
    → generic_type journal.theory forall_name ≡ Some (quantifier type_a) → (term formula constant_term function binder body : NamedTerm) → formula ≡ theorem.conclusion
    → formula ≡ combination constant_term function → is_constant_named forall_name constant_term ≡ true → dest_abstraction function ≡ Some (binder, body)
    → (a b : HolType) → type_of term ≡ Some a → type_of binder ≡ Some b → a ≡ b → IsSpecialized journal.theory term made.theorem function binder body
spec-start journal legal made is_made theorem same is generic term formula constant_term function binder body formula_is whole is_named dest a b term_typed binder_typed same_type =
    let conclusion_is : formula ≡ made.theorem.conclusion = formula_is ∙ ap (λ (t : Theorem). t.conclusion) same in
    let known = conclusion-known journal legal made is_made (subst (λ (t : Theorem). IsTheorem t) same is) in
    let at = quantified-at journal.theory forall_name generic made.theorem.conclusion constant_term function binder body bool_type known (sym conclusion_is ∙ whole) is_named dest in
    record { at = at; typed = term_typed ∙ ap Some same_type ∙ sym binder_typed ∙ ap type_of at.binder_is }
