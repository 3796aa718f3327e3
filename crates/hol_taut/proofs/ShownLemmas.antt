-- The steps of a way, and of a negation, from formulas to their facts.
use Rattle.std.proofs.Common.{◌≡◌, List, Bool, true, false, not, Option, Some, None, Result, refl, sym, ◌∙◌, subst}
use Rattle.std.specs.Option.{option_map, is_some}
use Rattle.hol_model.specs.declared.fault.Fault.{Fault}
use Rattle.hol_model.specs.Terms.NamedTerm.{NamedTerm, equation}
use Rattle.hol_model.specs.Logic.NamedLogic.{negation, false_term}
use Rattle.hol_model.specs.Terms.Nameless.{Nameless, image}
use Rattle.hol_model.specs.Logic.Logic as nameless
use Rattle.hol_model.specs.Kernel.Theorem.{Theorem}
use Rattle.hol_model.specs.Logic.Theory.{Theory}
use Rattle.hol_journal.specs.Journal.{Journal, Recorded}
use Rattle.hol_journal.proofs.GrowthLemmas.{journals-grow}
use Rattle.hol_bool.specs.PreludeInstances.{at_p_q}
use Rattle.hol_equal.specs.Formulas.{IsFormula}
use Rattle.hol_equal.specs.Room.{FitsIf}
use Rattle.hol_journal.specs.Growth.{Continues, IsHeld}
use Rattle.hol_prelude.specs.Prelude.{p}
use Rattle.hol_taut.proofs.LawLemmas.{leads-p_q}
use Rattle.hol_taut.specs.LawSteps.{LeadsTo}
use Rattle.hol_taut_formulas.specs.declared.law.Law.TheVariants.{NotFalse, NotTrue}
use Rattle.hol_model.specs.Propositional.Propositions.{Connective}
use Rattle.hol_model.specs.Propositional.Propositions.{And, Or, Implies, Iff}
use Rattle.hol_taut.specs.declared.facts.Facts.{Facts, Nothing, Fact'}
use Rattle.hol_taut.specs.declared.way.Way.{Way}
use Rattle.hol_taut.specs.declared.way.Way.TheVariants.{Left, Right, Equation, Chain, ChainFromRight, Same}
use Rattle.hol_model.specs.Propositional.Connectives.{connected_term, equation_of, fact}
use Rattle.hol_taut.specs.FactLists.{AreHeld}
use Rattle.hol_taut.specs.Proved.{Proves, ProvesIf}
use Rattle.hol_taut.specs.Ways.{connected_image, IsSmallIf, IsWay}
use Rattle.hol_taut.specs.Shown.{first_side, first_value, law_of, LeadsBy, LeadsOn, takes_second, second_side, second_value, IsChain, IsOfBoth, Joins, IsJoined}
use Rattle.hol_taut.proofs.WayLemmas.{small-left, small-right, fact-fits}
use Rattle.hol_taut_formulas.specs.declared.law.Law.{Law}

-- ---- steps

pub equation-joined : (way : Way) (law : Law) (of other room : Bool) (a b whole : Nameless) → way ≡ Equation law of other → Joins way room a b whole → a ≡ equation_of b whole
equation-joined way law of other room a b whole is joins = subst (λ (w : Way). Joins w room a b whole) is joins

pub chain-joined : (way : Way) (law : Law) (of room : Bool) (a b whole : Nameless) → way ≡ Chain law of → Joins way room a b whole → IsChain room a b whole
chain-joined way law of room a b whole is joins = subst (λ (w : Way). Joins w room a b whole) is joins

pub chain_back-joined : (way : Way) (law : Law) (room : Bool) (a b whole : Nameless) → way ≡ ChainFromRight law → Joins way room a b whole → IsChain room a b whole
chain_back-joined way law room a b whole is joins = subst (λ (w : Way). Joins w room a b whole) is joins

-- what says a law's hypothesis leads on
pub leads-on : (theory : Theory) (law : Option Law) (left right : NamedTerm) (said from to : Nameless) → said ≡ from → LeadsBy theory law left right false from to
    → LeadsOn theory law left right said
leads-on theory law left right said from to is leads = record { to = to; leads = subst (λ (t : Nameless). LeadsBy theory law left right false t to) (sym is) leads }

-- what says parts that make a whole makes one
pub joined-on : (way : Way) (first second p q whole : Nameless) → first ≡ p → second ≡ q → Joins way false p q whole → IsJoined way first second
joined-on way first second p q whole one two joins = record {
  whole = whole;
  joins = subst (λ (t : Nameless). Joins way false t second whole) (sym one) (subst (λ (t : Nameless). Joins way false p t whole) (sym two) joins);
}

-- TRANS of what is a chain
pub chained : (result : Result Recorded Fault) (one two : Theorem) (allowed : List Nameless) (room : Bool) (a b whole : Nameless) → IsChain room a b whole → Proves one allowed a
    → Proves two allowed b
    → ((l m r : Nameless) → FitsIf room (equation_of l r) → Proves one allowed (equation_of l m) → Proves two allowed (equation_of m r)
    → ProvesIf room result allowed (equation_of l r)) → ProvesIf room result allowed whole
chained result one two allowed room a b whole chain first second step =
    subst (λ (c : Nameless). ProvesIf room result allowed c) (sym chain.whole_is)
    (step chain.left chain.middle chain.right chain.fits
    (subst (λ (c : Nameless). Proves one allowed c) chain.first_is first)
    (subst (λ (c : Nameless). Proves two allowed c) chain.second_is second))

-- a negation from its part

pub negation-true : (theory : Theory) (value room : Bool) (a : NamedTerm) → value ≡ true → IsFormula theory a → IsSmallIf room (image (negation a))
    → LeadsTo theory NotFalse (at_p_q a a) room (fact (not value) (image a)) (fact value (image (negation a)))
negation-true theory true room a is formula small =
    leads-p_q theory NotFalse (equation p false_term) (negation p) a a (at_p_q a a) refl refl formula formula refl room (fact false (image a)) (image (negation a)) refl refl
    (fact-fits false room (image a) (small-right room _ (image a) small))
    (fact-fits true room (image (negation a)) small)
negation-true theory false room a is formula small = cc

pub negation-false : (theory : Theory) (value room : Bool) (a : NamedTerm) → value ≡ false → IsFormula theory a → IsSmallIf room (image (negation a))
    → LeadsTo theory NotTrue (at_p_q a a) room (fact (not value) (image a)) (fact value (image (negation a)))
negation-false theory false room a is formula small =
    leads-p_q theory NotTrue p (equation (negation p) false_term) a a (at_p_q a a) refl refl formula formula refl room (image a) (fact false (image (negation a))) refl refl
    (fact-fits true room (image a) (small-right room _ (image a) small))
    (fact-fits false room (image (negation a)) small)
negation-false theory true room a is formula small = cc

-- ---- ways

pub image-connected : (connective : Connective) (a b : NamedTerm) → image (connected_term connective a b) ≡ connected_image connective (image a) (image b)
image-connected And a b = refl
image-connected Or a b = refl
image-connected Implies a b = refl
image-connected Iff a b = refl

-- what the theorem of a way gives
abbrev pub after_first : Connective → Bool → Way → Nameless → Nameless → Nameless
after_first connective value (Left law of) a b = fact value (connected_image connective a b)
after_first connective value (Right law of) a b = fact value (connected_image connective a b)
after_first connective value (Equation law of other) a b = equation_of (fact other b) (fact value (connected_image connective a b))
after_first connective value (Chain law of) a b = equation_of (connected_image connective a b) b
after_first connective value (ChainFromRight law) a b = equation_of (connected_image connective a b) a
after_first connective value Same a b = a

pub first-known : (connective : Connective) (value : Bool) (left right : Option Bool) (way : Way) → IsWay connective value left right way → first_side way left right ≡ Some (first_value way)
first-known connective value left right (Left law of) is = is.0
first-known connective value left right (Right law of) is = is.0
first-known connective value left right (Equation law of other) is = is.0
first-known connective value left right (Chain law of) is = is.0
first-known connective value left right (ChainFromRight law) is = is.1
first-known connective value left right Same is = is.0

pub second-known : (connective : Connective) (value : Bool) (left right : Option Bool) (way : Way) → IsWay connective value left right way → takes_second way ≡ true
    → second_side way left right ≡ Some (second_value way)
second-known connective value left right (Left law of) is takes = cc
second-known connective value left right (Right law of) is takes = cc
second-known connective value left right (Equation law of other) is takes = is.1
second-known connective value left right (Chain law of) is takes = is.1
second-known connective value left right (ChainFromRight law) is takes = is.0
second-known connective value left right Same is takes = is.1

pub law-leads : (theory : Theory) (connective : Connective) (value : Bool) (left right : Option Bool) (way : Way) → IsWay connective value left right way → (a b : NamedTerm)
    → IsFormula theory a → IsFormula theory b
    → (room : Bool) → IsSmallIf room (image (connected_term connective a b))
    → LeadsBy theory (law_of way) a b room (fact (first_value way) (image (first_side way a b))) (after_first connective value way (image a) (image b))
law-leads theory connective value left right (Left law of) is a b one two room small = is.1.leads theory a b one two room small
law-leads theory connective value left right (Right law of) is a b one two room small = is.1.leads theory a b one two room small
law-leads theory connective value left right (Equation law of other) is a b one two room small = is.2.leads theory a b one two room small
law-leads theory connective value left right (Chain law of) is a b one two room small = is.3.leads theory a b one two room small
law-leads theory connective value left right (ChainFromRight law) is a b one two room small = is.3.leads theory a b one two room small
law-leads theory connective value left right Same is a b one two room small = refl

-- where a way takes no second side, its theorem gives the formula's fact
pub first-done : (connective : Connective) (value : Bool) (way : Way) (a b : Nameless) → takes_second way ≡ false → after_first connective value way a b ≡ fact value (connected_image connective a b)
first-done connective value (Left law of) a b takes = refl
first-done connective value (Right law of) a b takes = refl
first-done connective value (Equation law of other) a b takes = cc
first-done connective value (Chain law of) a b takes = cc
first-done connective value (ChainFromRight law) a b takes = cc
first-done connective value Same a b takes = cc

false-chain : (value room : Bool) (whole side : Nameless) → value ≡ false → IsSmallIf room whole → IsChain room (equation_of whole side) (fact false side) (fact value whole)
false-chain false room whole side is small = record {
  left = whole;
  middle = side;
  right = nameless.false_term;
  first_is = refl;
  second_is = refl;
  whole_is = refl;
  fits = fact-fits false room whole small;
}
false-chain true room whole side is small = cc

same-both : (connective : Connective) (value room : Bool) (a b : Nameless) → value ≡ true → connective ≡ Iff → IsSmallIf room (connected_image connective a b)
    → IsOfBoth room a b (fact value (connected_image connective a b))
same-both Iff true room a b is iff small = record { whole_is = refl; fits = fact-fits true room (equation_of a b) small }
same-both Iff false room a b is iff small = cc
same-both And value room a b is iff small = cc
same-both Or value room a b is iff small = cc
same-both Implies value room a b is iff small = cc

pub second-joins : (connective : Connective) (value : Bool) (left right : Option Bool) (way : Way) → IsWay connective value left right way → takes_second way ≡ true → (a b : NamedTerm)
    → (room : Bool) → IsSmallIf room (connected_image connective (image a) (image b))
    → Joins way room (after_first connective value way (image a) (image b)) (fact (second_value way) (image (second_side way a b))) (fact value (connected_image connective (image a) (image b)))
second-joins connective value left right (Left law of) is takes a b room small = cc
second-joins connective value left right (Right law of) is takes a b room small = cc
second-joins connective value left right (Equation law of other) is takes a b room small = refl
second-joins connective value left right (Chain law of) is takes a b room small = false-chain value room (connected_image connective (image a) (image b)) (image b) is.2 small
second-joins connective value left right (ChainFromRight law) is takes a b room small = false-chain value room (connected_image connective (image a) (image b)) (image a) is.2 small
second-joins connective value left right Same is takes a b room small = same-both connective value room (image a) (image b) is.2 is.3 small

-- what holds of both sides holds of each that a way takes
pub of-first : {A : Type 0} (P : A → Type 0) (way : Way) (left right : A) → P left → P right → P (first_side way left right)
of-first P (Left law of) left right one two = one
of-first P (Right law of) left right one two = two
of-first P (Equation law of other) left right one two = one
of-first P (Chain law of) left right one two = one
of-first P (ChainFromRight law) left right one two = two
of-first P Same left right one two = one

pub of-second : {A : Type 0} (P : A → Type 0) (way : Way) (left right : A) → P left → P right → P (second_side way left right)
of-second P (Left law of) left right one two = two
of-second P (Right law of) left right one two = one
of-second P (Equation law of other) left right one two = two
of-second P (Chain law of) left right one two = two
of-second P (ChainFromRight law) left right one two = one
of-second P Same left right one two = two

pub map-first : {A B : Type 0} (f : A → B) (way : Way) (left right : A) → f (first_side way left right) ≡ first_side way (f left) (f right)
map-first f (Left law of) left right = refl
map-first f (Right law of) left right = refl
map-first f (Equation law of other) left right = refl
map-first f (Chain law of) left right = refl
map-first f (ChainFromRight law) left right = refl
map-first f Same left right = refl

pub map-second : {A B : Type 0} (f : A → B) (way : Way) (left right : A) → f (second_side way left right) ≡ second_side way (f left) (f right)
map-second f (Left law of) left right = refl
map-second f (Right law of) left right = refl
map-second f (Equation law of other) left right = refl
map-second f (Chain law of) left right = refl
map-second f (ChainFromRight law) left right = refl
map-second f Same left right = refl

small-side : (connective : Connective) (room : Bool) (a b : NamedTerm) → IsSmallIf room (image (connected_term connective a b)) → IsSmallIf room (image a) × IsSmallIf room (image b)
small-side connective room a b small = (small-left room _ (image a) (image b) small, small-right room _ (image b) small)

pub first-small : (connective : Connective) (way : Way) (room : Bool) (a b : NamedTerm) → IsSmallIf room (image (connected_term connective a b)) → IsSmallIf room (image (first_side way a b))
first-small connective way room a b small = of-first (λ t. IsSmallIf room (image t)) way a b (small-side connective room a b small).0 (small-side connective room a b small).1

pub second-small : (connective : Connective) (way : Way) (room : Bool) (a b : NamedTerm) → IsSmallIf room (image (connected_term connective a b)) → IsSmallIf room (image (second_side way a b))
second-small connective way room a b small = of-second (λ t. IsSmallIf room (image t)) way a b (small-side connective room a b small).0 (small-side connective room a b small).1

-- ---- values

pub part-known : (known : Option Bool) (value : Bool) → option_map not known ≡ Some value → known ≡ Some (not value)
part-known (Some true) true is = cc
part-known (Some true) false is = refl
part-known (Some false) true is = refl
part-known (Some false) false is = cc
part-known None value is = cc

pub is-known : (known : Option Bool) (value : Bool) → known ≡ Some value → is_some known ≡ true
is-known (Some v) value is = refl
is-known None value is = cc

-- ---- the state

pub still_held : (old new : Journal) (result : Result Recorded Fault) (theorem : Recorded) → Continues old new result → IsHeld old theorem → IsHeld new theorem
still_held old new result theorem continues held = record { made = journals-grow.stays old new theorem continues.grown held.made; stands_on = held.stands_on ∙ sym continues.theory }

pub still_all_held : (old new : Journal) (result : Result Recorded Fault) (facts : Facts) → Continues old new result → AreHeld old facts → AreHeld new facts
still_all_held old new result Nothing continues held = tt
still_all_held old new result (Fact' known value theorem at earlier) continues held = (still_held old new result theorem.now continues held.0, still_all_held old new result earlier continues held.1)
