-- GEN: the parts of a call, and what it answers.
use Rattle.std.proofs.Common.{◌≡◌, ℕ, List, [], ◌∷◌, map, Bool, true, false, ◌&&◌, ◌||◌, refl, sym, ◌∙◌, ap, subst, inl, inr, Option, Some, Result, Ok, Err, IfOk, arith}
use Rattle.std.specs.List.{list_all}
use Rattle.std.specs.Option.{option_map_or}
use Rattle.hol_model.specs.declared.fault.Fault.{Fault}
use Rattle.hol_model.specs.declared.fault.Fault.TheVariants.{FreeInHypothesis}
use Rattle.hol_model.specs.Terms.HolType.{HolType, bool_type}
use Rattle.hol_model.specs.Terms.NamedTerm.{NamedTerm, variable, constant, combination, abstraction, dest_variable, type_of, is_free}
use Rattle.hol_model.specs.Logic.NamedLogic.{forall_term}
use Rattle.hol_model.specs.Terms.Nameless.{Nameless, const, app, image}
use Rattle.hol_model.specs.Terms.Measures.{nameless_within_limits}
use Rattle.hol_model.specs.Logic.Logic.{forall_name, predicate, quantifier}
use Rattle.hol_model.specs.Terms.Substitution.{occurs_free}
use Rattle.hol_model.specs.Logic.Theory.{Theory, IsLegal, IsKnown, IsKnownType}
use Rattle.hol_model.specs.Logic.KnownTerm.{knows_type, is_known}
use Rattle.hol_model.specs.Kernel.Theorem.{Theorem, IsTheorem}
use Rattle.hol_model.specs.Logic.Derivable.{NotFreeInAny, nameless_equation}
use Rattle.hol_model.specs.Kernel.Outcome.{Answers}
use Rattle.hol_model.specs.Kernel.Rules.{is_free_in_hypotheses, abstraction_outcome}
use Rattle.hol_model.specs.Derived.DerivedRules.{Stated, AnswersStated, named, images, terms_of_theorem, terms_of_stated, is_roomy, is_free_in_some, gen_outcome}
use Rattle.hol_model.proofs.Terms.TypeTests.{knows_type-Decides}
use Rattle.hol_model.proofs.Terms.Images.{image-abstraction, image-type, occurs_free-image}
use Rattle.hol_model.proofs.Terms.Membership.{IsMember-append_right}
use Rattle.hol_model.proofs.Tests.{first_of_both, second_of_both, first_of_neither, second_of_neither}
use Rattle.hol_journal.specs.Journal.{Journal, Recorded, IsMade, theorem_in}
use Rattle.hol_journal.proofs.Showing.{formula_of}
use Rattle.hol_equal.specs.Formulas.{IsFormula}
use Rattle.hol_equal.specs.Sequents.{Shows, DerivesIf, IsPast}
use Rattle.hol_equal.specs.Conversions.{closed}
use Rattle.hol_equal.proofs.CutLemmas.{answers-stated, conclusion-known, formulas-within}
use Rattle.hol_equal.proofs.Sizes.{IsSized, leaves_room, sized-more, sized-within, past-room}
use Rattle.hol_quant.specs.Universals.{for_all, MayGeneralize, FitsForAll}
use Rattle.hol_quant.proofs.RoomLemmas.{PredicateRoom, predicate-room}
use Rattle.hol_quant.proofs.ForAllLemmas as abstractions

-- the variable, and hypotheses in which it is not free

pub variable_of : (binder : NamedTerm) (name : List ℕ) (ty : HolType) → dest_variable binder ≡ Some (name, ty) → binder ≡ variable name ty
variable_of (variable other s) name ty is =
    let one : other ≡ name = ap (λ (o : Option (List ℕ × HolType)). option_map_or (λ (p : List ℕ × HolType). p.0) o other) is in
    let two : s ≡ ty = ap (λ (o : Option (List ℕ × HolType)). option_map_or (λ (p : List ℕ × HolType). p.1) o s) is in
    λ i. variable (one i) (two i)
variable_of (constant other s) name ty is = cc
variable_of (combination f x) name ty is = cc
variable_of (abstraction other s body) name ty is = cc

pub free-same : (name : List ℕ) (ty : HolType) (hypotheses : List NamedTerm) → is_free_in_some name ty (map image hypotheses) ≡ is_free_in_hypotheses name ty hypotheses
free-same name ty [] = refl
free-same name ty (h ∷ hypotheses) = λ i. occurs_free-image name ty h i || free-same name ty hypotheses i

pub in_none : (name : List ℕ) (ty : HolType) (terms : List Nameless) → is_free_in_some name ty terms ≡ false → NotFreeInAny name ty terms
in_none name ty [] fresh t m = absurd m
in_none name ty (u ∷ terms) fresh t (inl e) = ap (occurs_free name ty) e ∙ first_of_neither (occurs_free name ty u) (is_free_in_some name ty terms) fresh
in_none name ty (u ∷ terms) fresh t (inr m) = in_none name ty terms (second_of_neither (occurs_free name ty u) (is_free_in_some name ty terms) fresh) t m

-- what a call that is not refused for its arguments has
pub record IsGeneral (theory : Theory) (premise : Theorem) (binder : NamedTerm) (name : List ℕ) (ty : HolType) : Type 0 where
  pub binder_is : binder ≡ variable name ty
  pub knows : IsKnownType theory ty
  pub fresh : NotFreeInAny name ty (images premise)
  pub typed : type_of premise.conclusion ≡ Some bool_type
  pub known : IsKnown theory (image premise.conclusion) bool_type
  pub outcome : gen_outcome theory binder premise ≡ Ok (record { hypotheses = images premise; conclusion = named (forall_term name ty premise.conclusion) })

known-variable : (theory : Theory) (name : List ℕ) (ty : HolType) → is_known theory (variable name ty) ≡ true → knows_type theory ty ≡ true
known-variable theory name ty known = first_of_both (knows_type theory ty) true (first_of_both (knows_type theory ty && true) true known)

pub gen-free : (theory : Theory) (premise : Theorem) (binder : NamedTerm) (name : List ℕ) (ty : HolType) (arguments : List Nameless)
    → dest_variable binder ≡ Some (name, ty) → is_known theory binder ≡ true
    → is_free_in_hypotheses name ty premise.hypotheses ≡ true → AnswersStated (Err FreeInHypothesis) arguments (gen_outcome theory binder premise)
gen-free theory premise binder name ty arguments dest known is_free =
    let knows = known-variable theory name ty (ap (is_known theory) (sym (variable_of binder name ty dest)) ∙ known) in
    rw (dest, knows, free-same name ty premise.hypotheses, is_free) (inr refl)

pub gen-start : (journal : Journal) → IsLegal journal.theory → (made : Recorded) → IsMade journal made → IsTheorem made.theorem
    → (binder : NamedTerm) (name : List ℕ) (ty : HolType) → dest_variable binder ≡ Some (name, ty)
    → is_known journal.theory binder ≡ true → is_free_in_hypotheses name ty made.theorem.hypotheses ≡ false → IsGeneral journal.theory made.theorem binder name ty
gen-start journal legal made is_made is binder name ty dest known fresh =
    let theory = journal.theory in
    let premise = made.theorem in
    let binder_is = variable_of binder name ty dest in
    let knows = known-variable theory name ty (ap (is_known theory) (sym binder_is) ∙ known) in
    let free_nowhere = free-same name ty premise.hypotheses ∙ fresh in
    record {
      binder_is = binder_is;
      knows = (knows_type-Decides theory ty).0 knows;
      fresh = in_none name ty (images premise) free_nowhere;
      typed = formula_of premise is;
      known = conclusion-known journal legal made is_made is;
      outcome = rw (dest, knows, free_nowhere) refl;
    }

module _ (theory : Theory) (premise : Theorem) (binder : NamedTerm) (name : List ℕ) (ty : HolType) (at : IsGeneral theory premise binder name ty) where
  abbrev p : Nameless
  p = image premise.conclusion

  abbrev pub formula : NamedTerm
  formula = forall_term name ty premise.conclusion

  abbrev sequent : Stated
  sequent = record { hypotheses = images premise; conclusion = named formula }

  -- the terms that have to leave room
  abbrev pub small : List Nameless
  small = p ∷ image formula ∷ []

  abbrev pub function : NamedTerm
  function = abstraction name ty premise.conclusion

  pub function_image : image function ≡ closed name ty premise.conclusion
  function_image = image-abstraction name ty premise.conclusion

  pub formula_image : image formula ≡ app (const forall_name (quantifier ty)) (closed name ty premise.conclusion)
  formula_image = ap (app (const forall_name (quantifier ty))) function_image

  pub function_typed : type_of function ≡ Some (predicate ty)
  function_typed = rw at.typed refl

  pub gen-answers : (result : Result Recorded Fault) → DerivesIf (list_all is_roomy small) result (images premise) (image formula) → IfOk result (λ made. made.theorem.conclusion ≡ formula)
      → AnswersStated (theorem_in result) (terms_of_theorem premise) (gen_outcome theory binder premise)
  gen-answers result derives names =
      subst (λ (o : Result Stated Fault). AnswersStated (theorem_in result) (terms_of_theorem premise) o) (sym at.outcome)
      (answers-stated result (terms_of_theorem premise) small (images premise) (image formula) sequent derives (record { to = λ x m. m; back = λ x m. m }) names
      (λ t m. elim m [ inl e ↦ inl e | inr k ↦ (elim k [ inl e ↦ IsMember-append_right t (terms_of_theorem premise) (terms_of_stated sequent) (inl e) | inr none ↦ absurd none ]) ]))

  pub gen-past : (fault : Fault) (within : Bool) → IsPast fault within → (list_all is_roomy small ≡ true → within ≡ true)
      → AnswersStated (Err fault) (terms_of_theorem premise) (gen_outcome theory binder premise)
  gen-past fault within past fits = gen-answers (Err fault) (past-room fault within (list_all is_roomy small) past fits) tt

  -- what leaves room
  record GenRoom : Type 0 where
    formula_sized : IsSized 1000 5000 (app (const forall_name (quantifier ty)) (closed name ty premise.conclusion))
    parts : PredicateRoom name ty premise.conclusion

  gen-room : list_all is_roomy small ≡ true → GenRoom
  gen-room all =
      let roomy = ap is_roomy (sym formula_image) ∙ first_of_both (is_roomy (image formula)) true (second_of_both (is_roomy p) (list_all is_roomy (image formula ∷ [])) all) in
      record {
        formula_sized = (leaves_room (app (const forall_name (quantifier ty)) (closed name ty premise.conclusion)) roomy).sized;
        parts = predicate-room forall_name name ty premise.conclusion at.typed roomy;
      }

  pub formula-within : list_all is_roomy small ≡ true → nameless_within_limits (app (const forall_name (quantifier ty)) (image function)) ≡ true
  formula-within all = ap nameless_within_limits formula_image
      ∙ sized-within 1000 5000 (app (const forall_name (quantifier ty)) (closed name ty premise.conclusion)) (gen-room all).formula_sized
      (omega arith) (omega arith)

  pub may-generalize : MayGeneralize theory premise binder name ty
  may-generalize = record { binder_is = at.binder_is; type_known = at.knows; fresh = at.fresh }

  pub gen-fits : FitsForAll (list_all is_roomy small) name ty premise.conclusion
  gen-fits = record {
    formula = λ all. sized-more 1000 5000 1900 900000 (for_all name ty premise.conclusion) (gen-room all).formula_sized (omega arith) (omega arith);
    few = λ all. (gen-room all).parts.few;
  }

  -- \x. p

  pub abstraction-past : (fault : Fault) → Answers {A = NamedTerm} (Err fault) (abstraction_outcome binder premise.conclusion)
      → AnswersStated (Err fault) (terms_of_theorem premise) (gen_outcome theory binder premise)
  abstraction-past fault answers =
      gen-past fault (list_all is_roomy small) (abstractions.abstraction-past name ty premise.conclusion (list_all is_roomy small) gen-fits binder at.binder_is at.typed fault answers) (λ all. all)

  pub abstraction-made : (made : NamedTerm) → abstraction_outcome binder premise.conclusion ≡ Ok made → made ≡ function
  abstraction-made made is = abstractions.abstraction-is name ty premise.conclusion binder at.binder_is made is

  pub names-within : list_all is_roomy small ≡ true → nameless_within_limits (nameless_equation bool_type (image formula) (image formula)) ≡ true
  names-within all =
      let roomy = first_of_both (is_roomy (image formula)) true (second_of_both (is_roomy p) (list_all is_roomy (image formula ∷ [])) all) in
      formulas-within (image formula) (image formula) (rw roomy refl)

-- what a formula that is known differs from in the names of bound variables alone is known
pub formula-shown : (theory : Theory) (theorem : Theorem) (hypotheses : List Nameless) (term : NamedTerm) → Shows theorem hypotheses (image term)
    → IsFormula theory theorem.conclusion → IsFormula theory term
formula-shown theory theorem hypotheses term shown is =
    let known : IsKnown theory (image term) bool_type = subst (λ (t : Nameless). IsKnown theory t bool_type) shown.concludes is.known in
    record { typed = image-type term bool_type known.typed; known = known }
