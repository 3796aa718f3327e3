-- Theorems put together: what is left of the hypotheses, and what a derived rule answers.
use Rattle.std.proofs.Common.{◌≡◌, ◌⊎◌, List, [], ◌∷◌, ◌++◌, map, Bool, true, false, ◌||◌, refl, sym, ◌∙◌, ap, subst, inl, inr, Option, Some, None, Result, Ok, Err, IfOk, arith}
use Rattle.std.specs.List.{list_all, list_any}
use Rattle.hol_model.specs.declared.fault.Fault.{Fault}
use Rattle.hol_model.specs.declared.fault.Fault.TheVariants.{NotBool}
use Rattle.hol_model.specs.Terms.HolType.{HolType, bool_type}
use Rattle.hol_model.specs.Terms.NamedTerm.{NamedTerm, equation, type_of}
use Rattle.hol_model.specs.Terms.Nameless.{Nameless, image, same_term}
use Rattle.hol_model.specs.Terms.Measures.{nameless_within_limits}
use Rattle.hol_model.specs.Logic.Theory.{Theory, IsLegal, IsKnown}
use Rattle.hol_model.specs.Logic.Derivable.{IsMember, IsSameSet, without, nameless_equation}
use Rattle.hol_model.specs.Kernel.Theorem.{Theorem, IsTheorem}
use Rattle.hol_model.specs.Kernel.Outcome.{refused}
use Rattle.hol_model.specs.Kernel.Rules.{first_unknown, is_formula, dest_equation, assume_outcome}
use Rattle.hol_model.specs.Derived.DerivedRules.{Stated, IsConclusion, AnswersStated, named, images, terms_of_theorem, terms_of_stated, is_roomy, is_among, add_assum_outcome, prove_hyp_outcome}
use Rattle.hol_model.proofs.Tests.{first_of_both, second_of_both, both, same_term-Decides}
use Rattle.hol_model.proofs.Terms.Membership.{of_append, IsMember-append_left, IsMember-append_right}
use Rattle.hol_model.proofs.Logic.Known.{Derivable-known}
use Rattle.hol_kernel.proofs.RuleLemmas.{standing}
use Rattle.hol_journal.specs.Journal.{Journal, Recorded, IsMade, theorem_in}
use Rattle.hol_journal.proofs.Showing.{refused-is, unless-is, ok_is, formula_of}
use Rattle.hol_equal.specs.Sequents.{Shows, DerivesIf, Gives}
use Rattle.hol_equal.specs.Formulas.{IsFormula}
use Rattle.hol_equal.proofs.StepLemmas.{same_sets, of_without, in_without, dest-equation, member_passes}
use Rattle.hol_equal.proofs.Sizes.{leaves_room, past-room, sized-equation, sized-within}

-- the conclusion of a theorem handed in is known
pub conclusion-known : (journal : Journal) → IsLegal journal.theory → (made : Recorded) → IsMade journal made → IsTheorem made.theorem
    → IsKnown journal.theory (image made.theorem.conclusion) bool_type
conclusion-known journal legal made is_made is = (Derivable-known journal.theory legal (standing journal.theory legal made.theorem is_made.earlier is)).conclusion

-- so is a term of the same image
pub shown-known : (journal : Journal) → IsLegal journal.theory → (made : Recorded) → IsMade journal made → (theorem : Theorem) → theorem ≡ made.theorem → IsTheorem theorem
    → (h : List Nameless) (c : Nameless) → Shows made.theorem h c → IsKnown journal.theory c bool_type
shown-known journal legal made is_made theorem same is h c shown =
    subst (λ (t : Nameless). IsKnown journal.theory t bool_type) shown.concludes (conclusion-known journal legal made is_made (subst (λ (t : Theorem). IsTheorem t) same is))

-- EQ_MP's very answer, where the equation is of a term and itself
pub itself-names : (result : Result Recorded Fault) (conclusion term : NamedTerm) (ty : HolType) → type_of term ≡ Some ty → conclusion ≡ equation term term
    → IfOk result (λ made. (sides : NamedTerm × NamedTerm) → dest_equation conclusion ≡ Some sides → made.theorem.conclusion ≡ sides.1) → IfOk result (λ made. made.theorem.conclusion ≡ term)
itself-names (Ok made) conclusion term ty typed is names = names (term, term) (ap dest_equation is ∙ dest-equation term term)
itself-names (Err fault) conclusion term ty typed is names = tt

-- an equation of two formulas that leave room is within the limits
pub formulas-within : (p q : Nameless) → list_all is_roomy (p ∷ q ∷ []) ≡ true → nameless_within_limits (nameless_equation bool_type p q) ≡ true
formulas-within p q roomy =
    let one = leaves_room p (first_of_both (is_roomy p) (list_all is_roomy (q ∷ [])) roomy) in
    let two = leaves_room q (first_of_both (is_roomy q) true (second_of_both (is_roomy p) (list_all is_roomy (q ∷ [])) roomy)) in
    sized-within 1002 10003 (nameless_equation bool_type p q) (sized-equation 1000 5000 5000 bool_type p q (omega arith) (omega arith) one.sized two.sized) (omega arith) (omega arith)

-- hypotheses of a cut
cut-set : (h k : List Nameless) (p q : Nameless) → IsSameSet ((without q h ++ without p k) ++ h) (h ++ without p k)
cut-set h k p q = record {
  to = λ x m. elim (of_append x (without q h ++ without p k) h m) [
    | inl l ↦ (elim (of_append x (without q h) (without p k) l) [
      | inl a ↦ IsMember-append_left x h (without p k) (of_without x q h a)
      | inr b ↦ IsMember-append_right x h (without p k) b
    ])
    | inr r ↦ IsMember-append_left x h (without p k) r
  ];
  back = λ x m. elim (of_append x h (without p k) m) [
    | inl a ↦ IsMember-append_right x (without q h ++ without p k) h a
    | inr b ↦ IsMember-append_left x (without q h ++ without p k) h (IsMember-append_right x (without q h) (without p k) b)
  ];
}

pub shows-set : (theorem : Theorem) (h k : List Nameless) (c : Nameless) → IsSameSet k h → Shows theorem h c → Shows theorem k c
shows-set theorem h k c same shown = record { same_set = same_sets k h (map image theorem.hypotheses) same shown.same_set; concludes = shown.concludes }

other_way : (h k : List Nameless) → IsSameSet h k → IsSameSet k h
other_way h k same = record { to = same.back; back = same.to }

-- what EQ_MP gives is the cut
pub cut-derives : (fits : Bool) (result : Result Recorded Fault) (h k : List Nameless) (p q : Nameless)
    → Gives result ((without q h ++ without p k) ++ h) q → DerivesIf fits result (h ++ without p k) q
cut-derives fits (Ok made) h k p q gives =
    shows-set made.theorem ((without q h ++ without p k) ++ h) (h ++ without p k) q
    (other_way ((without q h ++ without p k) ++ h) (h ++ without p k) (cut-set h k p q)) gives
cut-derives fits (Err fault) h k p q gives = inl gives

-- EQ_MP's very answer, where the equation is that of two formulas
pub right-names : (result : Result Recorded Fault) (conclusion a b : NamedTerm) → type_of a ≡ Some bool_type → conclusion ≡ equation a b
    → IfOk result (λ made. (sides : NamedTerm × NamedTerm) → dest_equation conclusion ≡ Some sides → made.theorem.conclusion ≡ sides.1) → IfOk result (λ made. made.theorem.conclusion ≡ b)
right-names (Ok made) conclusion a b typed is names = names (a, b) (ap dest_equation is ∙ dest-equation a b)
right-names (Err fault) conclusion a b typed is names = tt

-- the term is among the hypotheses, as the program tests it
among-images : (term : Nameless) (terms : List NamedTerm) → is_among term (map image terms) ≡ list_any (λ other. same_term term (image other)) terms
among-images term [] = refl
among-images term (t ∷ terms) = ap (λ b. same_term term (image t) || b) (among-images term terms)

pub among-is : (answer test : Bool) (p : NamedTerm) (hypotheses : List NamedTerm) (first second t u : Theorem) → t ≡ first → p ≡ t.conclusion → u ≡ second → hypotheses ≡ u.hypotheses
    → answer ≡ list_any (λ other. same_term (image p) (image other)) hypotheses → answer ≡ test → is_among (image first.conclusion) (images second) ≡ test
among-is answer test p hypotheses first second t u one p_is two hypotheses_are answer_is tested =
    among-images (image first.conclusion) second.hypotheses
    ∙ sym (answer_is ∙ (λ i. list_any (λ other. same_term (image ((p_is ∙ ap (λ (th : Theorem). th.conclusion) one) i)) (image other)) ((hypotheses_are ∙ ap (λ (th : Theorem). th.hypotheses) two) i)))
    ∙ tested

pub given-derives : (fits : Bool) (result : Result Recorded Fault) (h : List Nameless) (c : Nameless) → Gives result h c → DerivesIf fits result h c
given-derives fits (Ok made) h c gives = gives
given-derives fits (Err fault) h c gives = inl gives

-- what fits where something else does
pub derives-where : (fits other : Bool) (result : Result Recorded Fault) (h : List Nameless) (c : Nameless) → (other ≡ true → fits ≡ true) → DerivesIf fits result h c → DerivesIf other result h c
derives-where fits other (Ok made) h c room derives = derives
derives-where fits other (Err fault) h c room derives = past-room fault fits other derives room

-- a derived rule's answer

pub answers-stated : (result : Result Recorded Fault) (arguments small : List Nameless) (h : List Nameless) (c : Nameless) (sequent : Stated)
    → DerivesIf (list_all is_roomy small) result h c → IsSameSet h sequent.hypotheses
    → IfOk result (λ made. IsConclusion sequent.conclusion made.theorem.conclusion) → ((t : Nameless) → IsMember t small → IsMember t (arguments ++ terms_of_stated sequent))
    → AnswersStated (theorem_in result) arguments (Ok sequent)
answers-stated (Ok made) arguments small h c sequent shown same concludes there =
    record {
      hypotheses = same_sets (map image made.theorem.hypotheses) h sequent.hypotheses
          (other_way h (map image made.theorem.hypotheses) shown.same_set) same;
      conclusion = concludes;
    }
answers-stated (Err fault) arguments small h c sequent past same concludes there =
    past-room fault (list_all is_roomy small) (list_all is_roomy (arguments ++ terms_of_stated sequent)) past
    (λ all. each small (λ t m. member_passes is_roomy (arguments ++ terms_of_stated sequent) t all (there t m)))
  where
    each : (terms : List Nameless) → ((t : Nameless) → IsMember t terms → is_roomy t ≡ true) → list_all is_roomy terms ≡ true
    each [] passes = refl
    each (t ∷ terms) passes = both (is_roomy t) (list_all is_roomy terms) (passes t (inl refl)) (each terms (λ u m. passes u (inr m)))

pub shows-itself : (theorem : Theorem) → Shows theorem (images theorem) (image theorem.conclusion)
shows-itself theorem = record { same_set = record { to = λ x m. m; back = λ x m. m }; concludes = refl }

-- a cut of formulas that leave room
roomy-derives : (result : Result Recorded Fault) (p q : Nameless) (h : List Nameless) → DerivesIf (nameless_within_limits (nameless_equation bool_type p q)) result h q
    → DerivesIf (list_all is_roomy (p ∷ q ∷ [])) result h q
roomy-derives result p q h derives = derives-where (nameless_within_limits (nameless_equation bool_type p q)) (list_all is_roomy (p ∷ q ∷ [])) result h q (formulas-within p q) derives

-- ADD_ASSUM

pub record IsAssumed (theory : Theory) (term : NamedTerm) (theorem : Theorem) : Type 0 where
  pub formula : is_formula term ≡ true
  pub known : first_unknown theory term ≡ None
  pub shows : Shows theorem (image term ∷ []) (image term)

pub assumed-none : {A : Type 0} (refusal : Option Fault) (next : Result A Fault) (x : A) → refused refusal next ≡ Ok x → refusal ≡ None
assumed-none None next x is = refl
assumed-none (Some fault) next x is = cc

pub assumed : (theory : Theory) (term : NamedTerm) (theorem : Theorem) → assume_outcome theory term ≡ Ok theorem → IsAssumed theory term theorem
assumed theory term theorem is =
    let made : Theorem = record { theory = theory; hypotheses = term ∷ []; conclusion = term } in
    let one = unless-is (is_formula term) NotBool (refused (first_unknown theory term) (Ok made)) theorem is in
    record {
      formula = one.0;
      known = assumed-none (first_unknown theory term) (Ok made) theorem one.1;
      shows = subst (λ (t : Theorem). Shows t (image term ∷ []) (image term)) (ok_is made theorem (refused-is (first_unknown theory term) (Ok made) theorem one.1)) (shows-itself made);
    }

pub add_assum-stated : (result : Result Recorded Fault) (theory : Theory) (term : NamedTerm) (first theorem : Theorem) → IsAssumed theory term first
    → DerivesIf (nameless_within_limits (nameless_equation bool_type (image term) (image theorem.conclusion))) result
    (image term ∷ [] ++ without (image term) (images theorem)) (image theorem.conclusion)
    → IfOk result (λ made. made.theorem.conclusion ≡ theorem.conclusion)
    → AnswersStated (theorem_in result) (image term ∷ terms_of_theorem theorem) (add_assum_outcome theory term theorem)
add_assum-stated result theory term first theorem is derives concludes =
    let sequent : Stated = record { hypotheses = image term ∷ images theorem; conclusion = named theorem.conclusion } in
    let outcome : add_assum_outcome theory term theorem ≡ Ok sequent = rw (is.formula, is.known) refl in
    subst (λ (o : Result Stated Fault). AnswersStated (theorem_in result) (image term ∷ terms_of_theorem theorem) o) (sym outcome)
    (answers-stated result (image term ∷ terms_of_theorem theorem) (image term ∷ image theorem.conclusion ∷ []) (image term ∷ without (image term) (images theorem)) (image theorem.conclusion) sequent
    (roomy-derives result (image term) (image theorem.conclusion) (image term ∷ without (image term) (images theorem)) derives)
    (record { to = to; back = back }) concludes
    (λ t m. elim m [ inl e ↦ inl e | inr k ↦ (elim k [ inl e ↦ inr (inl e) | inr none ↦ absurd none ]) ]))
  where
    to : (x : Nameless) → IsMember x (image term ∷ without (image term) (images theorem)) → IsMember x (image term ∷ images theorem)
    to x (inl e) = inl e
    to x (inr m) = inr (of_without x (image term) (images theorem) m)

    back : (x : Nameless) → IsMember x (image term ∷ images theorem) → IsMember x (image term ∷ without (image term) (images theorem))
    back x (inl e) = inl e
    back x (inr m) = go (same_term x (image term)) refl
      where
        go : (test : Bool) → same_term x (image term) ≡ test → (x ≡ image term) ⊎ IsMember x (without (image term) (images theorem))
        go true is = inl ((same_term-Decides x (image term)).0 is)
        go false is = inr (in_without x (image term) (images theorem) m is)

-- PROVE_HYP

pub prove_hyp-taken : (result : Result Recorded Fault) (first second : Theorem) → is_among (image first.conclusion) (images second) ≡ true
    → DerivesIf (nameless_within_limits (nameless_equation bool_type (image first.conclusion) (image second.conclusion))) result
    (images first ++ without (image first.conclusion) (images second)) (image second.conclusion)
    → IfOk result (λ made. made.theorem.conclusion ≡ second.conclusion)
    → AnswersStated (theorem_in result) (terms_of_theorem first ++ terms_of_theorem second) (prove_hyp_outcome first second)
prove_hyp-taken result first second among derives concludes =
    let left = images first ++ without (image first.conclusion) (images second) in
    let sequent : Stated = record { hypotheses = left; conclusion = named second.conclusion } in
    let outcome : prove_hyp_outcome first second ≡ Ok sequent = rw among refl in
    let arguments = terms_of_theorem first ++ terms_of_theorem second in
    subst (λ (o : Result Stated Fault). AnswersStated (theorem_in result) arguments o) (sym outcome)
    (answers-stated result arguments (image first.conclusion ∷ image second.conclusion ∷ []) left (image second.conclusion) sequent
    (roomy-derives result (image first.conclusion) (image second.conclusion) left derives)
    (record { to = λ x m. m; back = λ x m. m }) concludes
    (λ t m. elim m [ inl e ↦ inl e | inr k ↦ (elim k [ inl e ↦ IsMember-append_right t arguments (terms_of_stated sequent) (inl e) | inr none ↦ absurd none ]) ]))

pub prove_hyp-kept : (result : Result Recorded Fault) (first second : Theorem) → is_among (image first.conclusion) (images second) ≡ false
    → DerivesIf (nameless_within_limits (nameless_equation bool_type (image second.conclusion) (image second.conclusion))) result
    (images second ++ without (image second.conclusion) (images second)) (image second.conclusion)
    → IfOk result (λ made. made.theorem.conclusion ≡ second.conclusion)
    → AnswersStated (theorem_in result) (terms_of_theorem first ++ terms_of_theorem second) (prove_hyp_outcome first second)
prove_hyp-kept result first second among derives concludes =
    let left = images second ++ without (image second.conclusion) (images second) in
    let sequent : Stated = record { hypotheses = images second; conclusion = named second.conclusion } in
    let outcome : prove_hyp_outcome first second ≡ Ok sequent = rw among refl in
    let arguments = terms_of_theorem first ++ terms_of_theorem second in
    subst (λ (o : Result Stated Fault). AnswersStated (theorem_in result) arguments o) (sym outcome)
    (answers-stated result arguments (image second.conclusion ∷ image second.conclusion ∷ []) left (image second.conclusion) sequent
    (roomy-derives result (image second.conclusion) (image second.conclusion) left derives)
    (record {
      to = λ x m. elim (of_append x (images second) (without (image second.conclusion) (images second)) m) [ inl a ↦ a | inr b ↦ of_without x (image second.conclusion) (images second) b ];
      back = λ x m. IsMember-append_left x (images second) (without (image second.conclusion) (images second)) m;
    }) concludes
    (λ t m. elim m [
      | inl e ↦ IsMember-append_right t arguments (terms_of_stated sequent) (inl e)
      | inr k ↦ (elim k [ inl e ↦ IsMember-append_right t arguments (terms_of_stated sequent) (inl e) | inr none ↦ absurd none ])
    ]))

pub conclusion-formula : (journal : Journal) → IsLegal journal.theory → (made : Recorded) → IsMade journal made → (theorem : Theorem)
    → theorem ≡ made.theorem → IsTheorem theorem → IsFormula journal.theory made.theorem.conclusion
conclusion-formula journal legal made is_made theorem same is =
    let is_theorem = subst (λ (t : Theorem). IsTheorem t) same is in
    record { typed = formula_of made.theorem is_theorem; known = conclusion-known journal legal made is_made is_theorem }
