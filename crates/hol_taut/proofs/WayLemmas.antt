-- The ways that are taken lead to what they are to.
use Rattle.std.proofs.Common.{◌≡◌, ◌≤◌, ◌+◌, ℕ, [], Bool, true, false, Option, Some, None, refl, arith}
use Rattle.hol_model.specs.Terms.HolType.{bool_type}
use Rattle.hol_model.specs.Terms.NamedTerm.{equation}
use Rattle.hol_model.specs.Terms.Nameless.{Nameless, app, image}
use Rattle.hol_model.specs.Terms.Measures.{nameless_types_fit}
use Rattle.hol_model.specs.Logic.Logic as nameless
use Rattle.hol_model.specs.Logic.Logic.{false_name, binary}
use Rattle.hol_model.specs.Logic.NamedLogic.{conjunction, disjunction, implication, false_term}
use Rattle.hol_model.proofs.Tests.{first_of_both, second_of_both}
use Rattle.hol_bool.proofs.RuleAnswers.{sized-fits}
use Rattle.hol_bool.specs.PreludeInstances.{at_p_q}
use Rattle.hol_equal.proofs.Sizes.{sized-more, sized-equation}
use Rattle.hol_equal.specs.Room.{IsSized, FitsIf}
use Rattle.hol_prelude.specs.Prelude.{p, q}
use Rattle.hol_taut.proofs.LawLemmas.{leads-p_q}
use Rattle.hol_taut_formulas.specs.declared.law.Law.TheVariants.{AndFalseLeft, AndFalseRight, Conj, Disj1, Disj2, IffFalseLeft, IffTrueLeft, IffTrueRight, ImpFalseLeft, ImpTrueRight, Mp, OrFalseLeft}
use Rattle.hol_model.specs.Propositional.Propositions.{Connective}
use Rattle.hol_model.specs.Propositional.Propositions.{And, Or, Implies, Iff}
use Rattle.hol_taut.specs.FactLists.{known_table}
use Rattle.hol_model.specs.Propositional.Connectives.{equation_of, fact}
use Rattle.hol_taut.specs.Ways.{connected_image, IsSmallIf, Leads, IsWay, the_way}

-- ---- sizes

-- where there is no room, nothing has to be small
pub small-nowhere : (term : Nameless) → IsSmallIf false term
small-nowhere term is = cc

-- the sides of what is small are
pub small-left : (room : Bool) (k l r : Nameless) → IsSmallIf room (app (app k l) r) → IsSmallIf room l
small-left room k l r small is =
    let whole = small is in
    record {
      height = let a = whole.height in omega arith;
      nodes = let a = whole.nodes in omega arith;
      types = second_of_both (nameless_types_fit [] k) (nameless_types_fit [] l) (first_of_both (nameless_types_fit [] (app k l)) (nameless_types_fit [] r) whole.types);
    }

pub small-right : (room : Bool) (f r : Nameless) → IsSmallIf room (app f r) → IsSmallIf room r
small-right room f r small is =
    let whole = small is in
    record {
      height = let a = whole.height in omega arith;
      nodes = let a = whole.nodes in omega arith;
      types = second_of_both (nameless_types_fit [] f) (nameless_types_fit [] r) whole.types;
    }

-- what facts of small formulas say, and equations of them, have at most this size
pub record IsModerate (room : Bool) (tall many : ℕ) (term : Nameless) : Type 0 where
  pub sized : room ≡ true → IsSized tall many term

small-moderate : (room : Bool) (term : Nameless) → IsSmallIf room term → IsModerate room 500 2000 term
small-moderate room term small = record { sized = small }

falsity : (room : Bool) → IsModerate room 500 2000 nameless.false_term
falsity room = record { sized = λ is. record { height = omega arith; nodes = omega arith; types = refl } }

equated : (room : Bool) (tall many more : ℕ) (l r : Nameless) → 1 ≤ tall → IsModerate room tall many l → IsModerate room tall more r → IsModerate room (tall + 2) (many + more + 3) (equation_of l r)
equated room tall many more l r low one two = record { sized = λ is. sized-equation tall many more bool_type l r low (omega arith) (one.sized is) (two.sized is) }

fact-moderate : (value room : Bool) (term : Nameless) → IsSmallIf room term → IsModerate room 502 4003 (fact value term)
fact-moderate true room term small = record { sized = λ is. sized-more 500 2000 502 4003 term (small is) (omega arith) (omega arith) }
fact-moderate false room term small = equated room 500 2000 2000 term nameless.false_term (omega arith) (small-moderate room term small) (falsity room)

fits : (room : Bool) (tall many : ℕ) (term : Nameless) → tall ≤ 1900 → many ≤ 900000 → IsModerate room tall many term → FitsIf room term
fits room tall many term low few one = sized-fits tall many room term low few one.sized

pub fact-fits : (value room : Bool) (term : Nameless) → IsSmallIf room term → FitsIf room (fact value term)
fact-fits value room term small = fits room 502 4003 (fact value term) (omega arith) (omega arith) (fact-moderate value room term small)

pub facts-fit : (value other room : Bool) (a b : Nameless) → IsSmallIf room a → IsSmallIf room b → FitsIf room (equation_of (fact value a) (fact other b))
facts-fit value other room a b one two =
    fits room 504 8009 (equation_of (fact value a) (fact other b)) (omega arith) (omega arith)
    (equated room 502 4003 4003 (fact value a) (fact other b) (omega arith) (fact-moderate value room a one) (fact-moderate other room b two))

-- ---- the theorems

and-true : Leads And Conj (λ a b. fact true a) (λ a b. equation_of (fact true b) (fact true (connected_image And a b)))
and-true = record {
  leads = λ theory a b one two room small.
      leads-p_q theory Conj p (equation q (conjunction p q)) a b (at_p_q a b) refl refl one two refl room (fact true (image a))
      (equation_of (fact true (image b)) (fact true (connected_image And (image a) (image b)))) refl refl
      (fact-fits true room (image a) (small-left room _ (image a) (image b) small))
      (facts-fit true true room (image b) (connected_image And (image a) (image b)) (small-right room _ (image b) small) small);
}

and-left : Leads And AndFalseLeft (λ a b. fact false a) (λ a b. fact false (connected_image And a b))
and-left = record {
  leads = λ theory a b one two room small.
      leads-p_q theory AndFalseLeft (equation p false_term) (equation (conjunction p q) false_term) a b (at_p_q a b) refl refl one two refl room (fact false (image a))
      (fact false (connected_image And (image a) (image b))) refl refl
      (fact-fits false room (image a) (small-left room _ (image a) (image b) small))
      (fact-fits false room (connected_image And (image a) (image b)) small);
}

and-right : Leads And AndFalseRight (λ a b. fact false b) (λ a b. fact false (connected_image And a b))
and-right = record {
  leads = λ theory a b one two room small.
      leads-p_q theory AndFalseRight (equation q false_term) (equation (conjunction p q) false_term) a b (at_p_q a b) refl refl one two refl room (fact false (image b))
      (fact false (connected_image And (image a) (image b))) refl refl
      (fact-fits false room (image b) (small-right room _ (image b) small))
      (fact-fits false room (connected_image And (image a) (image b)) small);
}

or-left : Leads Or Disj1 (λ a b. fact true a) (λ a b. fact true (connected_image Or a b))
or-left = record {
  leads = λ theory a b one two room small.
      leads-p_q theory Disj1 p (disjunction p q) a b (at_p_q a b) refl refl one two refl room (fact true (image a)) (fact true (connected_image Or (image a) (image b))) refl refl
      (fact-fits true room (image a) (small-left room _ (image a) (image b) small))
      (fact-fits true room (connected_image Or (image a) (image b)) small);
}

or-right : Leads Or Disj2 (λ a b. fact true b) (λ a b. fact true (connected_image Or a b))
or-right = record {
  leads = λ theory a b one two room small.
      leads-p_q theory Disj2 q (disjunction p q) a b (at_p_q a b) refl refl one two refl room (fact true (image b)) (fact true (connected_image Or (image a) (image b))) refl refl
      (fact-fits true room (image b) (small-right room _ (image b) small))
      (fact-fits true room (connected_image Or (image a) (image b)) small);
}

or-false : Leads Or OrFalseLeft (λ a b. fact false a) (λ a b. equation_of (connected_image Or a b) b)
or-false = record {
  leads = λ theory a b one two room small.
      leads-p_q theory OrFalseLeft (equation p false_term) (equation (disjunction p q) q) a b (at_p_q a b) refl refl one two refl room (fact false (image a))
      (equation_of (connected_image Or (image a) (image b)) (image b)) refl refl
      (fact-fits false room (image a) (small-left room _ (image a) (image b) small))
      (facts-fit true true room (connected_image Or (image a) (image b)) (image b) small (small-right room _ (image b) small));
}

implies-left : Leads Implies ImpFalseLeft (λ a b. fact false a) (λ a b. fact true (connected_image Implies a b))
implies-left = record {
  leads = λ theory a b one two room small.
      leads-p_q theory ImpFalseLeft (equation p false_term) (implication p q) a b (at_p_q a b) refl refl one two refl room (fact false (image a))
      (fact true (connected_image Implies (image a) (image b))) refl refl
      (fact-fits false room (image a) (small-left room _ (image a) (image b) small))
      (fact-fits true room (connected_image Implies (image a) (image b)) small);
}

implies-right : Leads Implies ImpTrueRight (λ a b. fact true b) (λ a b. fact true (connected_image Implies a b))
implies-right = record {
  leads = λ theory a b one two room small.
      leads-p_q theory ImpTrueRight q (implication p q) a b (at_p_q a b) refl refl one two refl room (fact true (image b)) (fact true (connected_image Implies (image a) (image b))) refl refl
      (fact-fits true room (image b) (small-right room _ (image b) small))
      (fact-fits true room (connected_image Implies (image a) (image b)) small);
}

implies-false : Leads Implies Mp (λ a b. fact true a) (λ a b. equation_of (connected_image Implies a b) b)
implies-false = record {
  leads = λ theory a b one two room small.
      leads-p_q theory Mp p (equation (implication p q) q) a b (at_p_q a b) refl refl one two refl room (fact true (image a))
      (equation_of (connected_image Implies (image a) (image b)) (image b)) refl refl
      (fact-fits true room (image a) (small-left room _ (image a) (image b) small))
      (facts-fit true true room (connected_image Implies (image a) (image b)) (image b) small (small-right room _ (image b) small));
}

iff-left : Leads Iff IffTrueLeft (λ a b. fact true a) (λ a b. equation_of (connected_image Iff a b) b)
iff-left = record {
  leads = λ theory a b one two room small.
      leads-p_q theory IffTrueLeft p (equation (equation p q) q) a b (at_p_q a b) refl refl one two refl room (fact true (image a))
      (equation_of (connected_image Iff (image a) (image b)) (image b)) refl refl
      (fact-fits true room (image a) (small-left room _ (image a) (image b) small))
      (facts-fit true true room (connected_image Iff (image a) (image b)) (image b) small (small-right room _ (image b) small));
}

iff-right : Leads Iff IffTrueRight (λ a b. fact true b) (λ a b. equation_of (connected_image Iff a b) a)
iff-right = record {
  leads = λ theory a b one two room small.
      leads-p_q theory IffTrueRight q (equation (equation p q) p) a b (at_p_q a b) refl refl one two refl room (fact true (image b))
      (equation_of (connected_image Iff (image a) (image b)) (image a)) refl refl
      (fact-fits true room (image b) (small-right room _ (image b) small))
      (facts-fit true true room (connected_image Iff (image a) (image b)) (image a) small (small-left room _ (image a) (image b) small));
}

iff-false : Leads Iff IffFalseLeft (λ a b. fact false a) (λ a b. equation_of (fact false b) (fact true (connected_image Iff a b)))
iff-false = record {
  leads = λ theory a b one two room small.
      leads-p_q theory IffFalseLeft (equation p false_term) (equation (equation q false_term) (equation p q)) a b (at_p_q a b) refl refl one two refl room (fact false (image a))
      (equation_of (fact false (image b)) (fact true (connected_image Iff (image a) (image b)))) refl refl
      (fact-fits false room (image a) (small-left room _ (image a) (image b) small))
      (facts-fit false true room (image b) (connected_image Iff (image a) (image b)) (small-right room _ (image b) small) small);
}

-- each way is one
pub way-is : (connective : Connective) (value : Bool) (left right : Option Bool) → known_table connective left right ≡ Some value
    → IsWay connective value left right (the_way connective value left right)
way-is And true (Some true) (Some true) known = (refl, refl, and-true)
way-is And true (Some true) (Some false) known = cc
way-is And true (Some true) None known = cc
way-is And true (Some false) (Some true) known = cc
way-is And true (Some false) (Some false) known = cc
way-is And true (Some false) None known = cc
way-is And true None (Some true) known = cc
way-is And true None (Some false) known = cc
way-is And true None None known = cc
way-is And false (Some true) (Some true) known = cc
way-is And false (Some true) (Some false) known = (refl, and-right)
way-is And false (Some true) None known = cc
way-is And false (Some false) (Some true) known = (refl, and-left)
way-is And false (Some false) (Some false) known = (refl, and-left)
way-is And false (Some false) None known = (refl, and-left)
way-is And false None (Some true) known = cc
way-is And false None (Some false) known = (refl, and-right)
way-is And false None None known = cc
way-is Or true (Some true) (Some true) known = (refl, or-left)
way-is Or true (Some true) (Some false) known = (refl, or-left)
way-is Or true (Some true) None known = (refl, or-left)
way-is Or true (Some false) (Some true) known = (refl, or-right)
way-is Or true (Some false) (Some false) known = cc
way-is Or true (Some false) None known = cc
way-is Or true None (Some true) known = (refl, or-right)
way-is Or true None (Some false) known = cc
way-is Or true None None known = cc
way-is Or false (Some true) (Some true) known = cc
way-is Or false (Some true) (Some false) known = cc
way-is Or false (Some true) None known = cc
way-is Or false (Some false) (Some true) known = cc
way-is Or false (Some false) (Some false) known = (refl, refl, refl, or-false)
way-is Or false (Some false) None known = cc
way-is Or false None (Some true) known = cc
way-is Or false None (Some false) known = cc
way-is Or false None None known = cc
way-is Implies true (Some true) (Some true) known = (refl, implies-right)
way-is Implies true (Some true) (Some false) known = cc
way-is Implies true (Some true) None known = cc
way-is Implies true (Some false) (Some true) known = (refl, implies-left)
way-is Implies true (Some false) (Some false) known = (refl, implies-left)
way-is Implies true (Some false) None known = (refl, implies-left)
way-is Implies true None (Some true) known = (refl, implies-right)
way-is Implies true None (Some false) known = cc
way-is Implies true None None known = cc
way-is Implies false (Some true) (Some true) known = cc
way-is Implies false (Some true) (Some false) known = (refl, refl, refl, implies-false)
way-is Implies false (Some true) None known = cc
way-is Implies false (Some false) (Some true) known = cc
way-is Implies false (Some false) (Some false) known = cc
way-is Implies false (Some false) None known = cc
way-is Implies false None (Some true) known = cc
way-is Implies false None (Some false) known = cc
way-is Implies false None None known = cc
way-is Iff true (Some true) (Some true) known = (refl, refl, refl, refl)
way-is Iff true (Some true) (Some false) known = cc
way-is Iff true (Some true) None known = cc
way-is Iff true (Some false) (Some true) known = cc
way-is Iff true (Some false) (Some false) known = (refl, refl, iff-false)
way-is Iff true (Some false) None known = cc
way-is Iff true None (Some true) known = cc
way-is Iff true None (Some false) known = cc
way-is Iff true None None known = cc
way-is Iff false (Some true) (Some true) known = cc
way-is Iff false (Some true) (Some false) known = (refl, refl, refl, iff-left)
way-is Iff false (Some true) None known = cc
way-is Iff false (Some false) (Some true) known = (refl, refl, refl, iff-right)
way-is Iff false (Some false) (Some false) known = cc
way-is Iff false (Some false) None known = cc
way-is Iff false None (Some true) known = cc
way-is Iff false None (Some false) known = cc
way-is Iff false None None known = cc

pub falsity-fits : (room : Bool) → FitsIf room nameless.false_term
falsity-fits room = fits room 500 2000 nameless.false_term (omega arith) (omega arith) (falsity room)

pub falsity-small : (room : Bool) → IsSmallIf room nameless.false_term
falsity-small room = (falsity room).sized

pub falsity-equation-fits : (room : Bool) → FitsIf room (equation_of nameless.false_term nameless.false_term)
falsity-equation-fits room = facts-fit true true room nameless.false_term nameless.false_term (falsity-small room) (falsity-small room)
