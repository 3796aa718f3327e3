-- The atoms of a list that have no fact.
use Rattle.std.proofs.Common.{◌≡◌, ◌⊎◌, ◌<◌, ◌≤◌, ℕ, length, arith, List, [], ◌∷◌, Bool, true, false, Option, Some, None, refl, sym, ◌∙◌, ap, subst, inl, inr, if◌then◌else◌}
use Rattle.std.specs.Prelude.{unwrap_or}
use Rattle.std.specs.Option.{is_some, option_map}
use Rattle.hol_model.specs.Logic.Derivable.{IsMember}
use Rattle.hol_model.specs.Terms.NamedTerm.{NamedTerm}
use Rattle.hol_model.specs.Kernel.Theorem.{are_alpha_equivalent}
use Rattle.hol_model.specs.Propositional.Propositions.{Proposition}
use Rattle.hol_taut.specs.declared.facts.Facts.{Facts}
use Rattle.hol_taut.specs.FactLists.{value_of, known_by}
use Rattle.hol_taut.specs.Next.{IsOpen, AreAllKnown, IsNext, open_of, open_atoms}
use Rattle.hol_taut.specs.Refuted.{IsAlwaysTrue, is_listed, AreTold}
use Rattle.hol_taut.proofs.KnownValues.{same_alpha, alpha_same, either-true}
use Rattle.hol_taut.proofs.RefutedLemmas.{value-same, all-told}

-- ---- the next one

pub none_next : (facts : Facts) (atoms : List NamedTerm) → length atoms ≡ 0 → AreAllKnown facts atoms
none_next facts [] is = record { each = λ a m. absurd m }
none_next facts (first ∷ rest) is = cc

-- the first of the list has a fact where one is found
is-known : {A : Type 0} (value : A → Bool) (found : Option A) (first : Option Bool) (test : Bool) → option_map value found ≡ first → test ≡ is_some found → test ≡ true → is_some first ≡ true
is-known value (Some known) first test of is holds = sym (ap is_some of)
is-known value None first test of is holds = let e : false ≡ true = sym is ∙ holds in cc

is-unknown : {A : Type 0} (value : A → Bool) (found : Option A) (first : Option Bool) (test : Bool) → option_map value found ≡ first → test ≡ is_some found → test ≡ false → first ≡ None
is-unknown value (Some known) first test of is fails = let e : true ≡ false = sym is ∙ fails in cc
is-unknown value None first test of is fails = sym of

pub later_next : {A : Type 0} (facts : Facts) (all : List NamedTerm) (first : NamedTerm) (rest : List NamedTerm) (next : Option NamedTerm) (value : A → Bool) (found : Option A) (test : Bool)
    → all ≡ first ∷ rest → option_map value found ≡ value_of facts first → test ≡ is_some found → test ≡ true → IsNext facts rest next → IsNext facts all next
later_next facts all first rest next value found test are of is holds further =
    subst (λ (l : List NamedTerm). IsNext facts l next) (sym are) (go next further)
  where
    go : (next : Option NamedTerm) → IsNext facts rest next → IsNext facts (first ∷ rest) next
    go (Some atom) open_one = record { listed = inr open_one.listed; unknown = open_one.unknown }
    go None all_known = record {
      each = λ a m. elim m [
        | inl same ↦ subst (λ (t : NamedTerm). is_some (value_of facts t) ≡ true) (sym same) (is-known value found (value_of facts first) test of is holds)
        | inr there ↦ all_known.each a there
      ];
    }

pub first_next : {A : Type 0} (facts : Facts) (all : List NamedTerm) (first : NamedTerm) (rest : List NamedTerm) (value : A → Bool) (found : Option A) (test : Bool) → all ≡ first ∷ rest
    → option_map value found ≡ value_of facts first → test ≡ is_some found → test ≡ false → IsOpen facts all first
first_next facts all first rest value found test are of is fails =
    subst (λ (l : List NamedTerm). IsOpen facts l first) (sym are) (record { listed = inl refl; unknown = is-unknown value found (value_of facts first) test of is fails })

pub other_next : (facts : Facts) (all : List NamedTerm) (first : NamedTerm) (rest : List NamedTerm) (other : NamedTerm) → all ≡ first ∷ rest → IsOpen facts rest other → IsOpen facts all other
other_next facts all first rest other are is = subst (λ (l : List NamedTerm). IsOpen facts l other) (sym are) (record { listed = inr is.listed; unknown = is.unknown })

-- ---- a fact more

-- what is told stays told
told-still : (facts more : Facts) (atom : NamedTerm) (value : Bool) (atoms : List NamedTerm) (formula : Proposition)
    → ((t : NamedTerm) → value_of more t ≡ (if are_alpha_equivalent atom t then Some value else value_of facts t)) → AreTold facts atoms formula → AreTold more atoms formula
told-still facts more atom value atoms formula is told = record {
  each = λ place m. subst (λ (o : Option Bool). (is_some o ≡ true) ⊎ (is_listed place atoms ≡ true)) (sym (is place)) (go place (are_alpha_equivalent atom place) (told.each place m));
}
  where
    go : (place : NamedTerm) (test : Bool) → (is_some (value_of facts place) ≡ true) ⊎ (is_listed place atoms ≡ true)
        → (is_some (if test then Some value else value_of facts place) ≡ true) ⊎ (is_listed place atoms ≡ true)
    go place true either = inl refl
    go place false either = either

one-no-more : (facts more : Facts) (atom : NamedTerm) (value : Bool) (first : NamedTerm)
    → ((t : NamedTerm) → value_of more t ≡ (if are_alpha_equivalent atom t then Some value else value_of facts t)) → open_of (value_of more first) ≤ open_of (value_of facts first)
one-no-more facts more atom value first is = subst (λ (o : Option Bool). open_of o ≤ open_of (value_of facts first)) (sym (is first)) (go (are_alpha_equivalent atom first))
  where
    go : (test : Bool) → open_of (if test then Some value else value_of facts first) ≤ open_of (value_of facts first)
    go true = omega arith
    go false = omega arith

-- with a fact more, no more atoms have none
no-more : (facts more : Facts) (atom : NamedTerm) (value : Bool) (atoms : List NamedTerm)
    → ((t : NamedTerm) → value_of more t ≡ (if are_alpha_equivalent atom t then Some value else value_of facts t)) → open_atoms more atoms ≤ open_atoms facts atoms
no-more facts more atom value [] is = omega arith
no-more facts more atom value (first ∷ rest) is =
    let one = one-no-more facts more atom value first is in
    let others = no-more facts more atom value rest is in
    omega arith

-- with a fact of an atom that had none, fewer atoms have none
open-lower : (facts more : Facts) (atom : NamedTerm) (value : Bool) (atoms : List NamedTerm)
    → ((t : NamedTerm) → value_of more t ≡ (if are_alpha_equivalent atom t then Some value else value_of facts t)) → IsOpen facts atoms atom → open_atoms more atoms < open_atoms facts atoms
open-lower facts more atom value atoms is next = go atoms next.listed
  where
    at_atom : open_of (value_of more atom) ≡ 0
    at_atom = ap open_of (is atom ∙ ap (λ (b : Bool). if b then Some value else value_of facts atom) (alpha_same atom atom refl))

    was : open_of (value_of facts atom) ≡ 1
    was = ap open_of next.unknown

    go : (list : List NamedTerm) → IsMember atom list → open_atoms more list < open_atoms facts list
    go [] m = absurd m
    go (first ∷ rest) (inl same) =
        let now : open_of (value_of more first) ≡ 0 = subst (λ (t : NamedTerm). open_of (value_of more t) ≡ 0) same at_atom in
        let before : open_of (value_of facts first) ≡ 1 = subst (λ (t : NamedTerm). open_of (value_of facts t) ≡ 1) same was in
        let others = no-more facts more atom value rest is in
        omega arith
    go (first ∷ rest) (inr there) =
        let one = one-no-more facts more atom value first is in
        let others = go rest there in
        omega arith

-- what a call needs of one fact more, beside what else it needs
pub told-further : {Laws Formula Always Denied Atoms Held Given : Type 0} (facts more : Facts) (atom : NamedTerm) (value : Bool) (atoms : List NamedTerm) (formula : Proposition) (t : ℕ)
    → ((t : NamedTerm) → value_of more t ≡ (if are_alpha_equivalent atom t then Some value else value_of facts t)) → IsOpen facts atoms atom → open_atoms facts atoms ≡ t → AreTold facts atoms formula
    → Laws → Formula → Always → Denied → Atoms → Held → Given
    → (open_atoms more atoms < t) × (Laws × (Formula × (Always × (Denied × (Atoms × (AreTold more atoms formula × (Held × Given)))))))
told-further facts more atom value atoms formula t is next now told laws formed always denied formulas held given = (
  subst (λ (n : ℕ). open_atoms more atoms < n) now (open-lower facts more atom value atoms is next),
  (laws, (formed, (always, (denied, (formulas, (told-still facts more atom value atoms formula is told, (held, given))))))),
)

-- ---- none left

listed-known : (facts : Facts) (place : NamedTerm) (atoms : List NamedTerm) → ((a : NamedTerm) → IsMember a atoms → is_some (value_of facts a) ≡ true) → is_listed place atoms ≡ true
    → is_some (value_of facts place) ≡ true
listed-known facts place [] known listed = cc
listed-known facts place (first ∷ rest) known listed = elim (either-true (are_alpha_equivalent place first) (is_listed place rest) listed) [
  | inl here ↦ ap is_some (value-same facts place first (same_alpha place first here)) ∙ known first (inl refl)
  | inr later ↦ listed-known facts place rest (λ a m. known a (inr m)) later
]

pub no-atom-open : (facts : Facts) (atoms : List NamedTerm) (formula : Proposition) (test : Bool) → AreAllKnown facts atoms → IsAlwaysTrue formula → AreTold facts atoms formula
    → test ≡ unwrap_or (known_by (value_of facts) formula) false → test ≡ false → ⊥
no-atom-open facts atoms formula test known always told is never =
    let all : AreTold facts [] formula = record { each = λ place m. inl (elim (told.each place m) [ inl has ↦ has | inr listed ↦ listed-known facts place atoms known.each listed ]) } in
    let e : false ≡ true = sym never ∙ is ∙ all-told facts formula always all in cc
