-- CHOOSE: the parts of a call, the hypotheses that are left, and what it answers.
use Rattle.std.proofs.Common.{◌≡◌, ℕ, List, [], ◌∷◌, ◌++◌, Bool, true, false, ◌||◌, not, refl, sym, ◌∙◌, ap, subst, inl, inr, Some, Result, Ok, Err, IfOk}
use Rattle.std.specs.List.{list_all}
use Rattle.hol_model.specs.declared.fault.Fault.{Fault}
use Rattle.hol_model.specs.declared.fault.Fault.TheVariants.{TypeMismatch, FreeInHypothesis}
use Rattle.hol_model.specs.Terms.HolType.{HolType, bool_type, type_eq}
use Rattle.hol_model.specs.Terms.NamedTerm.{NamedTerm, variable, combination, type_of, is_free, dest_variable, dest_abstraction}
use Rattle.hol_model.specs.Logic.NamedLogic.{is_constant_named}
use Rattle.hol_model.specs.Terms.Nameless.{Nameless, HasType, image, same_term}
use Rattle.hol_model.specs.Logic.Logic as nameless
use Rattle.hol_model.specs.Logic.Logic.{exists_name, predicate, quantifier}
use Rattle.hol_model.specs.Terms.Substitution.{occurs_free}
use Rattle.hol_model.specs.Logic.Theory.{Theory, IsKnownType, generic_type, type_a}
use Rattle.hol_model.specs.Logic.KnownTerm.{knows_type}
use Rattle.hol_model.specs.Kernel.Theorem.{Theorem}
use Rattle.hol_model.specs.Logic.Derivable.{IsMember, IsSameSet, NotFreeInAny, without}
use Rattle.hol_model.specs.Kernel.Outcome.{unless}
use Rattle.hol_model.specs.Derived.DerivedRules.{Stated, AnswersStated, named, stated, images, is_roomy, is_free_in_some, terms_of_theorem, choose_outcome}
use Rattle.hol_model.proofs.Terms.HolTypeEq.{type_eq-self}
use Rattle.hol_model.proofs.Terms.TypeTests.{knows_type-Decides}
use Rattle.hol_model.proofs.Terms.Images.{image-type, image-typed, occurs_free-image}
use Rattle.hol_model.proofs.Logic.Known.{IsKnown-type}
use Rattle.hol_model.proofs.Terms.Membership.{of_append, IsMember-append_left, IsMember-append_right}
use Rattle.hol_model.proofs.Tests.{same_term-Decides, same_variable-self}
use Rattle.hol_journal.specs.Journal.{Recorded, theorem_in}
use Rattle.hol_equal.specs.Conversions.{closed}
use Rattle.hol_equal.specs.Formulas.{IsFormula}
use Rattle.hol_equal.specs.Sequents.{Shows, DerivesIf}
use Rattle.hol_equal.proofs.StepLemmas.{of_without, not_without, in_without}
use Rattle.hol_equal.proofs.CutLemmas.{answers-stated, shows-set}
use Rattle.hol_quant.specs.Universals.{MayGeneralize}
use Rattle.hol_quant.specs.Witnesses.{IsAtVariable, existential, redex, witnessed, leave_room}
use Rattle.hol_quant.proofs.PartLemmas.{IsQuantified, quantified-at}
use Rattle.hol_quant.proofs.GenAnswers.{variable_of, in_none}
use Rattle.hol_quant.proofs.ChooseLemmas.{applied_image, applied-formula}

-- hypotheses

-- the redex has the variable, and no other hypothesis has it
pub record IsLeft (name : List ℕ) (ty : HolType) (applied : Nameless) (others : List Nameless) : Type 0 where
  pub there : occurs_free name ty applied ≡ true
  pub fresh : NotFreeInAny name ty others

other_term : (name : List ℕ) (ty : HolType) (applied : Nameless) (others : List Nameless) → IsLeft name ty applied others → (t : Nameless) → IsMember t others → same_term t applied ≡ false
other_term name ty applied others left t m = go (same_term t applied) refl
  where
    go : (test : Bool) → same_term t applied ≡ test → same_term t applied ≡ false
    go false is = is
    go true is =
        let same : t ≡ applied = (same_term-Decides t applied).0 is in
        let absent : occurs_free name ty t ≡ false = left.fresh t m in
        let present : occurs_free name ty t ≡ true = ap (occurs_free name ty) same ∙ left.there in
        cc

left-of : (applied : Nameless) (others : List Nameless) (t : Nameless) → IsMember t (without applied (applied ∷ others)) → IsMember t others
left-of applied others t m = go (of_without t applied (applied ∷ others) m) (not_without t applied (applied ∷ others) m)
  where
    go : IsMember t (applied ∷ others) → same_term t applied ≡ false → IsMember t others
    go (inl e) other = let same : same_term t applied ≡ true = (same_term-Decides t applied).1 e in cc
    go (inr m) other = m

pub left-fresh : (name : List ℕ) (ty : HolType) (applied : Nameless) (others kept : List Nameless) → IsLeft name ty applied others
    → IsSameSet (without applied (applied ∷ others)) kept → NotFreeInAny name ty kept
left-fresh name ty applied others kept left same t m = left.fresh t (left-of applied others t (same.back t m))

pub left-set : (name : List ℕ) (ty : HolType) (applied : Nameless) (others kept firsts : List Nameless) → IsLeft name ty applied others
    → IsSameSet (without applied (applied ∷ others)) kept → IsSameSet (firsts ++ others) (kept ++ firsts)
left-set name ty applied others kept firsts left same = record {
  to = λ t m. elim (of_append t firsts others m) [
    | inl a ↦ IsMember-append_right t kept firsts a
    | inr b ↦ IsMember-append_left t kept firsts (same.to t (in_without t applied (applied ∷ others) (inr b) (other_term name ty applied others left t b)))
  ];
  back = λ t m. elim (of_append t kept firsts m) [
    | inl a ↦ IsMember-append_right t firsts others (left-of applied others t (same.back t a))
    | inr b ↦ IsMember-append_left t firsts others b
  ];
}

pub derives-set : (fits : Bool) (result : Result Recorded Fault) (h k : List Nameless) (c : Nameless) → IsSameSet k h → DerivesIf fits result h c → DerivesIf fits result k c
derives-set fits (Ok made) h k c same shown = shows-set made.theorem h k c same shown
derives-set fits (Err fault) h k c same past = past

pub redex-left : (theory : Theory) (function binder argument : NamedTerm) (at : IsAtVariable theory function binder argument)
    (others : List Nameless) → occurs_free at.other at.ty (existential at.name at.ty at.body) ≡ false → NotFreeInAny at.other at.ty others
    → IsLeft at.other at.ty (redex at.name at.ty at.body argument) others
redex-left theory function binder argument at others fresh none =
    let here : occurs_free at.other at.ty (image argument) ≡ true = ap (λ (t : NamedTerm). occurs_free at.other at.ty (image t)) at.argument_is ∙ same_variable-self at.other at.ty in
    record { there = second (occurs_free at.other at.ty (closed at.name at.ty at.body)) (occurs_free at.other at.ty (image argument)) here; fresh = none }
  where
    second : (a b : Bool) → b ≡ true → (a || b) ≡ true
    second true b is = refl
    second false b is = is

-- what a call that passes the first tests has
pub record IsChosen (theory : Theory) (term : NamedTerm) (first second : Theorem) (function binder body : NamedTerm) (name : List ℕ) (ty : HolType) : Type 0 where
  pub at : IsAtVariable theory function binder term
  pub name_is : at.other ≡ name
  pub type_is : at.ty ≡ ty
  pub body_is : at.body ≡ body
  pub formula_image : image first.conclusion ≡ existential at.name at.ty at.body
  pub outcome : choose_outcome theory term first second
      ≡ unless (not (is_free_in_some name ty (image first.conclusion ∷ image second.conclusion ∷ without (witnessed at.name at.ty at.body term) (images second)))) FreeInHypothesis
      (stated (images first ++ without (witnessed at.name at.ty at.body term) (images second)) second.conclusion)

pub choose-start : (theory : Theory) (term : NamedTerm) (first second : Theorem) (function binder body : NamedTerm) (name : List ℕ) (ty : HolType) → dest_variable term ≡ Some (name, ty)
    → (quantified : IsQuantified theory exists_name first.conclusion function binder body) → quantified.ty ≡ ty → IsChosen theory term first second function binder body name ty
choose-start theory term first second function binder body name ty dest quantified same =
    let term_is : term ≡ variable name quantified.ty = variable_of term name ty dest ∙ ap (variable name) (sym same) in
    let whole_known : IsKnownType theory (predicate quantified.ty) = IsKnown-type theory (closed quantified.name quantified.ty body) (predicate quantified.ty) quantified.function_known in
    let type_known : IsKnownType theory quantified.ty = whole_known.0 in
    let knows : knows_type theory ty ≡ true = (knows_type-Decides theory ty).1 (subst (λ (t : HolType). IsKnownType theory t) same type_known) in
    record {
      at = record {
        name = quantified.name;
        other = name;
        ty = quantified.ty;
        body = body;
        function_is = quantified.function_is;
        binder_is = quantified.binder_is;
        argument_is = term_is;
        body_typed = quantified.body_typed;
        function_known = quantified.function_known;
        type_known = type_known;
      };
      name_is = refl;
      type_is = same;
      body_is = refl;
      formula_image = quantified.formula_image;
      outcome = rw (dest, quantified.dest, same, type_eq-self ty, knows) refl;
    }

module _ (theory : Theory) (term : NamedTerm) (first second : Theorem) (function binder body : NamedTerm) (name : List ℕ) (ty : HolType)
    (chosen : IsChosen theory term first second function binder body name ty) where
  abbrev at : IsAtVariable theory function binder term
  at = chosen.at

  abbrev pub others : List Nameless
  others = without (witnessed at.name at.ty at.body term) (images second)

  abbrev pub tested : List Nameless
  tested = image first.conclusion ∷ image second.conclusion ∷ others

  abbrev arguments : List Nameless
  arguments = image term ∷ terms_of_theorem first ++ terms_of_theorem second

  pub body-typed : type_of body ≡ Some bool_type
  body-typed = ap type_of (sym chosen.body_is) ∙ at.body_typed

  pub others-are : (witness : NamedTerm) → image witness ≡ witnessed at.name at.ty body term → without (image witness) (images second) ≡ others
  others-are witness is = ap (λ (w : Nameless). without w (images second)) (is ∙ ap (λ (b : NamedTerm). witnessed at.name at.ty b term) (sym chosen.body_is))

  -- what the three tests say
  pub tested-are : (a b d : Bool) → is_free name ty first.conclusion ≡ a → is_free name ty second.conclusion ≡ b → is_free_in_some name ty others ≡ d → is_free_in_some name ty tested ≡ (a || (b || d))
  tested-are a b d one two three = λ i. (occurs_free-image name ty first.conclusion ∙ one) i || ((occurs_free-image name ty second.conclusion ∙ two) i || three i)

  pub choose-free : is_free_in_some name ty tested ≡ true → AnswersStated (Err FreeInHypothesis) arguments (choose_outcome theory term first second)
  choose-free is_free = rw (chosen.outcome, is_free) (inr refl)

  pub choose-fresh : is_free_in_some name ty tested ≡ false → NotFreeInAny at.other at.ty (existential at.name at.ty at.body ∷ image second.conclusion ∷ others)
  choose-fresh fresh =
      in_none at.other at.ty (existential at.name at.ty at.body ∷ image second.conclusion ∷ others)
      ((λ i. is_free_in_some (chosen.name_is i) (chosen.type_is i) (sym chosen.formula_image i ∷ image second.conclusion ∷ others)) ∙ fresh)

  pub choose-answers : (result : Result Recorded Fault) → is_free_in_some name ty tested ≡ false
      → DerivesIf (leave_room at.name at.ty at.body second.conclusion) result (images first ++ others) (image second.conclusion)
      → IfOk result (λ made. made.theorem.conclusion ≡ second.conclusion) → AnswersStated (theorem_in result) arguments (choose_outcome theory term first second)
  choose-answers result fresh derives names =
      let sequent : Stated = record { hypotheses = images first ++ others; conclusion = named second.conclusion } in
      let outcome : choose_outcome theory term first second ≡ Ok sequent = chosen.outcome ∙ (rw fresh refl) in
      let small : List Nameless = image first.conclusion ∷ image second.conclusion ∷ [] in
      let here = subst (λ (t : Nameless).
      DerivesIf (list_all is_roomy (t ∷ image second.conclusion ∷ [])) result (images first ++ others) (image second.conclusion))
      (sym chosen.formula_image) derives in
      subst (λ (o : Result Stated Fault). AnswersStated (theorem_in result) arguments o) (sym outcome)
      (answers-stated result arguments small (images first ++ others) (image second.conclusion) sequent here (record { to = λ t m. m; back = λ t m. m }) names there)
    where
      there : (t : Nameless) → IsMember t (image first.conclusion ∷ image second.conclusion ∷ []) → IsMember t (arguments ++ image second.conclusion ∷ (images first ++ others))
      there t (inl e) = inr (inl e)
      there t (inr (inl e)) = IsMember-append_right t arguments (image second.conclusion ∷ (images first ++ others)) (inl e)
      there t (inr (inr none)) = absurd none

-- `(\x. p) v ==> q`, from hypotheses in which the variable is not free

pub record IsSufficient (theory : Theory) (function binder argument : NamedTerm) (at : IsAtVariable theory function binder argument) (q : NamedTerm)
    (others : List Nameless) (sufficient : Theorem) : Type 0 where
  pub typed : type_of sufficient.conclusion ≡ Some bool_type
  pub is : image sufficient.conclusion ≡ nameless.implication (redex at.name at.ty at.body argument) (image q)
  pub may : MayGeneralize theory sufficient argument at.other at.ty
  pub set : (firsts : List Nameless) → IsSameSet (firsts ++ others) (images sufficient ++ firsts)
  pub fresh : occurs_free at.other at.ty (existential at.name at.ty at.body) ≡ false
  pub fresh_q : occurs_free at.other at.ty (image q) ≡ false

pub sufficient-at : (theory : Theory) (function binder argument : NamedTerm) (at : IsAtVariable theory function binder argument) (q : NamedTerm)
    (others : List Nameless) (sufficient : Theorem) → type_of q ≡ Some bool_type
    → NotFreeInAny at.other at.ty (existential at.name at.ty at.body ∷ image q ∷ others)
    → Shows sufficient (without (redex at.name at.ty at.body argument) (redex at.name at.ty at.body argument ∷ others)) (nameless.implication (redex at.name at.ty at.body argument) (image q))
    → IsSufficient theory function binder argument at q others sufficient
sufficient-at theory function binder argument at q others sufficient typed none shown =
    let applied : Nameless = redex at.name at.ty at.body argument in
    let absent = none (existential at.name at.ty at.body) (inl refl) in
    let left = redex-left theory function binder argument at others absent (λ t m. none t (inr (inr m))) in
    let formula = applied-formula theory function binder argument at in
    let applied_typed : HasType [] applied bool_type = subst (λ (t : Nameless). HasType [] t bool_type) (applied_image theory function binder argument at) formula.known.typed in
    record {
      typed = image-type sufficient.conclusion bool_type
          (subst (λ (t : Nameless). HasType [] t bool_type) (sym shown.concludes)
          (bool_type, (bool_type, refl, applied_typed), image-typed q bool_type typed));
      is = shown.concludes;
      may = record { binder_is = at.argument_is; type_known = at.type_known; fresh = left-fresh at.other at.ty applied others (images sufficient) left shown.same_set };
      set = λ firsts. left-set at.other at.ty applied others (images sufficient) firsts left shown.same_set;
      fresh = absent;
      fresh_q = none (image q) (inr (inl refl));
    }

same_type : (s t : HolType) → Some s ≡ Some t → s ≡ t
same_type s t is = cc

pub choose-parts : (theory : Theory) → generic_type theory exists_name ≡ Some (quantifier type_a) → (first : Theorem)
    → IsFormula theory first.conclusion → (formula constant_term function binder body : NamedTerm) → formula ≡ first.conclusion
    → formula ≡ combination constant_term function → is_constant_named exists_name constant_term ≡ true
    → dest_abstraction function ≡ Some (binder, body) → IsQuantified theory exists_name first.conclusion function binder body
choose-parts theory generic first is_formula formula constant_term function binder body formula_is whole is_named dest =
    quantified-at theory exists_name generic first.conclusion constant_term function binder body bool_type is_formula.known (sym formula_is ∙ whole) is_named dest

pub quantified-type : (theory : Theory) (formula function binder body : NamedTerm)
    (quantified : IsQuantified theory exists_name formula function binder body) (found : HolType) → type_of binder ≡ Some found
    → quantified.ty ≡ found
quantified-type theory formula function binder body quantified found typed = same_type quantified.ty found (sym (ap type_of quantified.binder_is) ∙ typed)

pub choose-mismatch : (theory : Theory) (term : NamedTerm) (first second : Theorem) (function binder body : NamedTerm) (name : List ℕ) (ty : HolType)
    (arguments : List Nameless) → dest_variable term ≡ Some (name, ty)
    → (quantified : IsQuantified theory exists_name first.conclusion function binder body) → type_eq quantified.ty ty ≡ false
    → AnswersStated (Err TypeMismatch) arguments (choose_outcome theory term first second)
choose-mismatch theory term first second function binder body name ty arguments dest quantified other = rw (dest, quantified.dest, other) (inr refl)
