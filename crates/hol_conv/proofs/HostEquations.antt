-- What a replay of a host's justification comes to.
use Rattle.std.proofs.Common.{◌≡◌, ◌⊎◌, List, [], ◌∷◌, map, Bool, true, false, refl, sym, ◌∙◌, ap, subst, inl, Option, Some, None, Result, Ok, Err, Decides, length, arith}
use Rattle.std.proofs.lemmas.Bool.{eqb-true}
use Rattle.std.specs.Prelude.{nat_eq}
use Rattle.std.specs.Option.{option_map_or}
use Rattle.hol_model.specs.declared.fault.Fault.TheVariants.{InvalidStep}
use Rattle.hol_model.specs.Terms.HolType.{HolType}
use Rattle.hol_model.specs.Terms.NamedTerm.{NamedTerm, type_of}
use Rattle.hol_model.specs.Terms.Nameless.{Nameless, image, nameless_type, same_term}
use Rattle.hol_model.specs.Logic.Theory.{Theory, equality_type}
use Rattle.hol_model.specs.Logic.Derivable.{IsSameSet, IsMember, nameless_equation}
use Rattle.hol_model.specs.Kernel.Theorem.{Theorem}
use Rattle.hol_model.specs.Kernel.Rules.{dest_equation}
use Rattle.hol_model.specs.Goals.Goals.{Sequent}
use Rattle.hol_model.specs.Goals.Justifications.{Justification, sequent_of}
use Rattle.hol_model.specs.Goals.Replays.{Store, sequents_in, has_room, HasSequent, IsWant, AnswersReplay, IsReplay}
use Rattle.hol_model.specs.Refining.HostFunctions.{HostEquation, promised, GivesEquation, AnswersHostEquation}
use Rattle.hol_model.proofs.Tests.{first_of_both, second_of_both, both, same_term-Decides}
use Rattle.hol_model.proofs.Terms.Images.{image-typed}
use Rattle.hol_model.proofs.Terms.Typing.{nameless_type-is}
use Rattle.hol_kernel.proofs.RuleLemmas.{IsEquation}
use Rattle.hol_rewrite.proofs.Equations.{equation-there}
use Rattle.hol_conv.specs.HostAnswers.{are_sides, says_equal}

-- ---- hypotheses

no-members : (terms : List NamedTerm) → nat_eq (length terms) 0 ≡ true → IsSameSet (map image terms) []
no-members [] is = record { to = λ x m. m; back = λ x m. m }
no-members (term ∷ terms) is = let zero : length (term ∷ terms) ≡ 0 = eqb-true (length (term ∷ terms)) 0 is in absurd (omega (arith, zero))

none : (terms : List NamedTerm) → IsSameSet (map image terms) [] → nat_eq (length terms) 0 ≡ true
none [] same = refl
none (term ∷ terms) same = absurd (same.to (image term) (inl refl))

-- ---- sides

module _ (left right conclusion : NamedTerm) (shown : (a b : NamedTerm) → dest_equation conclusion ≡ Some (a, b) → IsEquation conclusion a b) where
  is-promised : option_map_or (are_sides left right) (dest_equation conclusion) false ≡ true
      → image conclusion ≡ nameless_equation (nameless_type [] (image left)) (image left) (image right)
  is-promised passed = go (dest_equation conclusion) refl passed
    where
      go : (found : Option (NamedTerm × NamedTerm)) → dest_equation conclusion ≡ found → option_map_or (are_sides left right) found false ≡ true
          → image conclusion ≡ nameless_equation (nameless_type [] (image left)) (image left) (image right)
      go None is passed = cc
      go (Some (a, b)) is passed =
          let e = shown a b is in
          let one : image a ≡ image left = (same_term-Decides (image a) (image left)).0 (first_of_both (same_term (image a) (image left)) (same_term (image b) (image right)) passed) in
          let two : image b ≡ image right = (same_term-Decides (image b) (image right)).0 (second_of_both (same_term (image a) (image left)) (same_term (image b) (image right)) passed) in
          let typed : e.ty ≡ nameless_type [] (image left) = sym (nameless_type-is (image a) [] e.ty (image-typed a e.ty e.left_typed)) ∙ ap (nameless_type []) one in
          e.image_is ∙ (λ i. nameless_equation (typed i) (one i) (two i))

  are-sides : (ty : HolType) → image conclusion ≡ nameless_equation ty (image left) (image right) → option_map_or (are_sides left right) (dest_equation conclusion) false ≡ true
  are-sides ty is =
      let found = equation-there conclusion (equality_type ty) (image left) (image right) is in
      let a : NamedTerm = found.0.0 in
      let b : NamedTerm = found.0.1 in
      let e = shown a b found.1 in
      let same : nameless_equation e.ty (image a) (image b) ≡ nameless_equation ty (image left) (image right) = sym e.image_is ∙ is in
      let one : image a ≡ image left = cc in
      let two : image b ≡ image right = cc in
      rw found.1 (both (same_term (image a) (image left)) (same_term (image b) (image right)) ((same_term-Decides (image a) (image left)).1 one) ((same_term-Decides (image b) (image right)).1 two))

pub says_equal-Decides : (left right : NamedTerm) (theorem : Theorem) → ((a b : NamedTerm) → dest_equation theorem.conclusion ≡ Some (a, b) → IsEquation theorem.conclusion a b)
    → (justification : Justification) → Decides (says_equal left right theorem) (HasSequent (promised left (record { term = right; justification = justification })) theorem)
says_equal-Decides left right theorem shown justification = (
  λ passed. record {
    hypotheses = no-members theorem.hypotheses (first_of_both (nat_eq (length theorem.hypotheses) 0) (option_map_or (are_sides left right) (dest_equation theorem.conclusion) false) passed);
    conclusion = is-promised left right theorem.conclusion shown
        (second_of_both (nat_eq (length theorem.hypotheses) 0)
        (option_map_or (are_sides left right) (dest_equation theorem.conclusion) false) passed);
  },
  λ has. both (nat_eq (length theorem.hypotheses) 0) (option_map_or (are_sides left right) (dest_equation theorem.conclusion) false)
      (none theorem.hypotheses has.hypotheses) (are-sides left right theorem.conclusion shown (nameless_type [] (image left)) has.conclusion),
)

-- ---- answers

no-others : (terms others : List Nameless) → IsSameSet others terms → IsSameSet others [] → terms ≡ []
no-others [] others same none = refl
no-others (term ∷ terms) others same none = absurd (none.to term (same.back term (inl refl)))

-- the replay made the theorem of the equation
pub host-passes : (theory : Theory) (store : Store) (term : NamedTerm) (answered : HostEquation) (theorem : Theorem) → IsReplay theory store [] answered.justification (Ok theorem)
    → HasSequent (promised term answered) theorem → AnswersHostEquation theory store term answered (Ok theorem)
host-passes theory store term answered theorem replay has = (go (sequent_of theory (sequents_in store) [] answered.justification) replay, has)
  where
    go : (found : Option Sequent) → AnswersReplay (has_room theory (sequents_in store) [] answered.justification) found (Ok theorem) → found ≡ Some (promised term answered)
    go None replay = absurd replay
    go (Some sequent) replay =
        let hypotheses : sequent.hypotheses ≡ [] = no-others sequent.hypotheses (map image theorem.hypotheses) replay.hypotheses has.hypotheses in
        let conclusion : sequent.conclusion ≡ (promised term answered).conclusion = sym replay.conclusion ∙ has.conclusion in
        λ i. Some (record { hypotheses = hypotheses i; conclusion = conclusion i })

-- the replay made another theorem
pub host-differs : (theory : Theory) (store : Store) (term : NamedTerm) (answered : HostEquation) (theorem : Theorem) → IsReplay theory store [] answered.justification (Ok theorem)
    → (HasSequent (promised term answered) theorem → ⊥) → AnswersHostEquation theory store term answered (Err InvalidStep)
host-differs theory store term answered theorem replay other = inl (refl, λ gives. other (go (sequent_of theory (sequents_in store) [] answered.justification) gives replay))
  where
    go : (found : Option Sequent) → found ≡ Some (promised term answered) → AnswersReplay (has_room theory (sequents_in store) [] answered.justification) found (Ok theorem)
        → HasSequent (promised term answered) theorem
    go None gives replay = absurd replay
    go (Some sequent) gives replay = let same : sequent ≡ promised term answered = cc in subst (λ (s : Sequent). HasSequent s theorem) same replay
