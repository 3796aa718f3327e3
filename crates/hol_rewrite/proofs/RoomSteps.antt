-- Where the terms of a theorem are small, the steps to its rules have room.
use Rattle.std.proofs.Common.{◌≡◌, List, [], ◌∷◌, ◌++◌, Bool, true, refl, sym, ◌∙◌, ap, subst, inl, inr, Some, Result, Ok, Err, IfErr, arith}
use Rattle.std.specs.List.{list_all}
use Rattle.hol_model.specs.declared.fault.Fault.{Fault}
use Rattle.hol_model.specs.Terms.HolType.{bool_type}
use Rattle.hol_model.specs.Terms.NamedTerm.{NamedTerm, type_of, equation}
use Rattle.hol_model.specs.Terms.Nameless.{Nameless, const, image}
use Rattle.hol_model.specs.Terms.Measures.{nameless_within_limits}
use Rattle.hol_model.specs.Logic.Logic.{not_name, unary}
use Rattle.hol_model.specs.Logic.Theory.{equality_name, equality_type}
use Rattle.hol_model.specs.Logic.NamedLogic.{true_term, false_term, negation, implication, dest_conjunction}
use Rattle.hol_model.specs.Logic.Derivable.{IsSameSet, nameless_equation}
use Rattle.hol_model.specs.Kernel.Theorem.{Theorem}
use Rattle.hol_model.specs.Derived.DerivedRules.{Stated, AnswersStated, is_roomy, images, terms_of_theorem, stated}
use Rattle.hol_model.specs.Rewrites.SmallTerms.{is_small}
use Rattle.hol_model.proofs.Tests.{both}
use Rattle.hol_journal.specs.Journal.{Recorded, theorem_in}
use Rattle.hol_equal.specs.Sequents.{IsPast, DerivesIf}
use Rattle.hol_equal.proofs.CutLemmas.{formulas-within}
use Rattle.hol_equal.proofs.Sizes.{leaves_room, sized-within, past-room}
use Rattle.hol_rewrite.specs.Rules.{are_small}
use Rattle.hol_rewrite.proofs.SmallParts.{AreRoomy, small_argument, small_sides, small_roomy, joined_roomy, implication_roomy, equivalence_roomy}
use Rattle.hol_rewrite.proofs.SmallParts.{roomy_all, roomy_append, roomy_more, roomy_small, small_member, small_all}

-- the arguments of a step and what it states leave room
pub record IsRoom (arguments : List Nameless) (conclusion : Nameless) (hypotheses : List Nameless) : Type 0 where
  pub arguments_fit : AreRoomy arguments
  pub conclusion_fits : is_roomy conclusion ≡ true
  pub hypotheses_fit : AreRoomy hypotheses

pub room_all : (arguments : List Nameless) (conclusion : Nameless) (hypotheses : List Nameless) → IsRoom arguments conclusion hypotheses
    → list_all is_roomy (arguments ++ conclusion ∷ hypotheses) ≡ true
room_all arguments conclusion hypotheses room =
    roomy_all (arguments ++ conclusion ∷ hypotheses)
    (roomy_append arguments (conclusion ∷ hypotheses) room.arguments_fit (roomy_more conclusion hypotheses room.conclusion_fits room.hypotheses_fit))

past_of : (fault : Fault) (arguments h : List Nameless) (p : NamedTerm) (small : Bool) → (small ≡ true → IsRoom arguments (image p) h)
    → AnswersStated (Err fault) arguments (stated h p) → IsPast fault small
past_of fault arguments h p small room answers = past-room fault (list_all is_roomy (arguments ++ image p ∷ h)) small answers (λ is. room_all arguments (image p) h (room is))

-- a call that answers what is stated is refused for size only where there is no room
pub stated-past : (result : Result Recorded Fault) (arguments h : List Nameless) (p : NamedTerm) (outcome : Result Stated Fault) (small : Bool) → outcome ≡ stated h p
    → (small ≡ true → IsRoom arguments (image p) h) → AnswersStated (theorem_in result) arguments outcome → IfErr result (λ fault. IsPast fault small)
stated-past (Ok made) arguments h p outcome small is room answers = tt
stated-past (Err fault) arguments h p outcome small is room answers = past_of fault arguments h p small room (subst (λ (o : Result Stated Fault). AnswersStated (Err fault) arguments o) is answers)

pub derives-past : (result : Result Recorded Fault) (fits small : Bool) (h : List Nameless) (c : Nameless) → (small ≡ true → fits ≡ true) → DerivesIf fits result h c
    → IfErr result (λ fault. IsPast fault small)
derives-past (Ok made) fits small h c room derives = tt
derives-past (Err fault) fits small h c room derives = past-room fault fits small derives room

pub roomy_within : (term : Nameless) → is_roomy term ≡ true → nameless_within_limits term ≡ true
roomy_within term roomy = sized-within 1000 5000 term (leaves_room term roomy).sized (omega arith) (omega arith)

-- theorems with the same hypotheses
pub small_again : (premise theorem : Theorem) → IsSameSet (images theorem) (images premise) → is_small (image theorem.conclusion) ≡ true → are_small premise ≡ true → are_small theorem ≡ true
small_again premise theorem same small all =
    both (is_small (image theorem.conclusion)) (list_all is_small (images theorem)) small
    (small_all (images theorem) (λ t m. small_member (terms_of_theorem premise) t all (inr (same.to t m))))

pub conclusion_small : (premise : Theorem) → are_small premise ≡ true → is_small (image premise.conclusion) ≡ true
conclusion_small premise all = small_member (terms_of_theorem premise) (image premise.conclusion) all (inl refl)

-- what a step states under the same hypotheses
pub same_room : (premise : Theorem) (conclusion : Nameless) → is_roomy conclusion ≡ true → are_small premise ≡ true → IsRoom (terms_of_theorem premise) conclusion (images premise)
same_room premise conclusion roomy all = record {
  arguments_fit = roomy_small (terms_of_theorem premise) all;
  conclusion_fits = roomy;
  hypotheses_fit = λ t m. roomy_small (terms_of_theorem premise) all t (inr m);
}

pub left_room : (premise : Theorem) (p q : NamedTerm) → dest_conjunction premise.conclusion ≡ Some (p, q) → are_small premise ≡ true → IsRoom (terms_of_theorem premise) (image p) (images premise)
left_room premise p q is all = same_room premise (image p) (small_roomy (image p) (small_sides premise.conclusion p q is (conclusion_small premise all)).left_small) all

pub right_room : (premise : Theorem) (p q : NamedTerm) → dest_conjunction premise.conclusion ≡ Some (p, q) → are_small premise ≡ true → IsRoom (terms_of_theorem premise) (image q) (images premise)
right_room premise p q is all = same_room premise (image q) (small_roomy (image q) (small_sides premise.conclusion p q is (conclusion_small premise all)).right_small) all

pub affirmed_room : (premise : Theorem) → type_of premise.conclusion ≡ Some bool_type → are_small premise ≡ true
    → IsRoom (terms_of_theorem premise) (image (equation premise.conclusion true_term)) (images premise)
affirmed_room premise typed all =
    same_room premise (image (equation premise.conclusion true_term)) (equivalence_roomy premise.conclusion true_term typed (conclusion_small premise all) refl) all

-- the steps from a denied formula

pub same_lists : (xs ys : List Nameless) → xs ≡ ys → IsSameSet xs ys
same_lists xs ys is = subst (λ (l : List Nameless). IsSameSet xs l) is (record { to = λ x m. m; back = λ x m. m })

alone-roomy : (h : List Nameless) (d : Nameless) → IsSameSet h (d ∷ []) → is_roomy d ≡ true → AreRoomy h
alone-roomy h d same roomy t m = elim (same.to t m) [ inl e ↦ ap is_roomy e ∙ roomy | inr none ↦ absurd none ]

pub part_small : (premise : Theorem) (part : NamedTerm) → premise.conclusion ≡ negation part → are_small premise ≡ true → is_small (image part) ≡ true
part_small premise part is all = small_argument (const not_name unary) (image part) (subst (λ (t : NamedTerm). is_small (image t) ≡ true) is (conclusion_small premise all))

pub not_elim_room : (premise assumed : Theorem) (part : NamedTerm) → premise.conclusion ≡ negation part → assumed.conclusion ≡ negation part
    → IsSameSet (images assumed) (image premise.conclusion ∷ [])
    → are_small premise ≡ true → IsRoom (terms_of_theorem assumed) (image (implication part false_term)) (images assumed)
not_elim_room premise assumed part is assumed_is same all =
    let d_roomy : is_roomy (image premise.conclusion) ≡ true = small_roomy (image premise.conclusion) (conclusion_small premise all) in
    let hyps = alone-roomy (images assumed) (image premise.conclusion) same d_roomy in
    record {
      arguments_fit = roomy_more (image assumed.conclusion) (images assumed) (ap (λ (t : NamedTerm). is_roomy (image t)) (assumed_is ∙ sym is) ∙ d_roomy) hyps;
      conclusion_fits = implication_roomy part (part_small premise part is all);
      hypotheses_fit = hyps;
    }

pub undisch_room : (premise implies : Theorem) (part : NamedTerm) → premise.conclusion ≡ negation part → implies.conclusion ≡ implication part false_term
    → IsSameSet (images implies) (image premise.conclusion ∷ []) → are_small premise ≡ true → IsRoom (terms_of_theorem implies) (image false_term) (image part ∷ images implies)
undisch_room premise implies part is implies_is same all =
    let d_roomy : is_roomy (image premise.conclusion) ≡ true = small_roomy (image premise.conclusion) (conclusion_small premise all) in
    let hyps = alone-roomy (images implies) (image premise.conclusion) same d_roomy in
    let small = part_small premise part is all in
    record {
      arguments_fit = roomy_more (image implies.conclusion) (images implies) (ap (λ (t : NamedTerm). is_roomy (image t)) implies_is ∙ implication_roomy part small) hyps;
      conclusion_fits = refl;
      hypotheses_fit = roomy_more (image part) (images implies) (small_roomy (image part) small) hyps;
    }

falsity-roomy : AreRoomy (image false_term ∷ [])
falsity-roomy t (inl e) = ap is_roomy e
falsity-roomy t (inr none) = absurd none

pub contr_room : (premise of_falsity : Theorem) (part : NamedTerm) → premise.conclusion ≡ negation part → of_falsity.conclusion ≡ false_term → images of_falsity ≡ image false_term ∷ []
    → are_small premise ≡ true → IsRoom (image part ∷ terms_of_theorem of_falsity) (image part) (images of_falsity)
contr_room premise of_falsity part is of_falsity_is hyps_are all =
    let hyps : AreRoomy (images of_falsity) = subst (λ (h : List Nameless). AreRoomy h) (sym hyps_are) falsity-roomy in
    let roomy : is_roomy (image part) ≡ true = small_roomy (image part) (part_small premise part is all) in
    record {
      arguments_fit = roomy_more (image part) (terms_of_theorem of_falsity) roomy
          (roomy_more (image of_falsity.conclusion) (images of_falsity) (ap (λ (t : NamedTerm). is_roomy (image t)) of_falsity_is) hyps);
      conclusion_fits = roomy;
      hypotheses_fit = hyps;
    }

pub deduct_room : (premise : Theorem) (part : NamedTerm) → premise.conclusion ≡ negation part → are_small premise ≡ true
    → nameless_within_limits (nameless_equation bool_type (image part) (image false_term)) ≡ true
deduct_room premise part is all =
    roomy_within (nameless_equation bool_type (image part) (image false_term))
    (joined_roomy equality_name (equality_type bool_type) (image part) (image false_term) refl (part_small premise part is all) refl)

pub cut_room : (premise : Theorem) (part : NamedTerm) → premise.conclusion ≡ negation part → are_small premise ≡ true
    → nameless_within_limits (nameless_equation bool_type (image premise.conclusion) (nameless_equation bool_type (image part) (image false_term))) ≡ true
cut_room premise part is all =
    let d = image premise.conclusion in
    let c = nameless_equation bool_type (image part) (image false_term) in
    let c_roomy : is_roomy c ≡ true = joined_roomy equality_name (equality_type bool_type) (image part) (image false_term) refl (part_small premise part is all) refl in
    formulas-within d c (both (is_roomy d) (list_all is_roomy (c ∷ [])) (small_roomy d (conclusion_small premise all)) (both (is_roomy c) true c_roomy refl))
