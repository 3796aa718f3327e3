-- Theorems that stand on a library's theory, behind which REFL adds nothing.
use Rattle.std.proofs.Common.{◌≡◌, [], inl, inr, Bool, true, false, refl, sym, ◌∙◌, ap, subst, Option, Some, Result, Ok, Err, IfOk, IfErr}
use Rattle.std.specs.List.{list_all}
use Rattle.hol_model.specs.declared.fault.Fault.{Fault}
use Rattle.hol_model.specs.declared.fault.Fault.TheVariants.{Memory, TooLarge, NotEquation, NotAlpha}
use Rattle.hol_model.specs.Terms.NamedTerm.{NamedTerm, equation, is_within_limits}
use Rattle.hol_model.specs.Terms.Nameless.{image}
use Rattle.hol_model.specs.Logic.Theory.{Theory, IsLegal}
use Rattle.hol_model.specs.Logic.KnownTerm.{is_known}
use Rattle.hol_model.specs.Texts.Reading.{◌>>=◌}
use Rattle.hol_model.specs.Kernel.Outcome.{unless, given}
use Rattle.hol_model.specs.Kernel.Theorem.{Theorem, IsWellFormed, AreOrdered, are_alpha_equivalent, with_hypotheses}
use Rattle.hol_model.specs.Kernel.Rules.{dest_equation, concluded, trans_outcome}
use Rattle.hol_model.proofs.Tests.{first_of_both, same_term-Decides}
use Rattle.hol_terms.specs.Binders.{has_abstractions}
use Rattle.hol_laws_refiners.specs.Laws.{IsEquationOf}
use Rattle.hol_laws_refiners.proofs.Equations.{equation-sides}
use Rattle.hol_kernel.proofs.RuleLemmas.{sides}
use Rattle.hol_kernel.proofs.OrderLemmas.{merge-none}
use Rattle.hol_journal.specs.Journal.{Journal, Recorded, IsMade, theorem_in}
use Rattle.hol_journal.specs.Growth.{Continues}
use Rattle.hol_journal.proofs.GrowthLemmas.{journals-grow}
use Rattle.hol_theorem_library.specs.Library.{IsLibrary, IsContinued}
use Rattle.hol_theorem_library.specs.declared.library.Library.{Library}
use Rattle.hol_equal.specs.Formulas.{IsFormula}
use Rattle.hol_equal.proofs.Exact.{exact}
use Rattle.hol_conv.specs.Makes.{Makes, StandsOn, StandsIf, Joins, IsRightSide}
use Rattle.hol_conv.specs.Converted.{same_theorem, changed_by, from_refl, to_refl, IsMadeFor, MakesAnswer}
use Rattle.hol_conv.proofs.Making.{makes_nothing}
use Rattle.hol_conv.proofs.Same.{roomy-refl}

-- ---- what calls answer

pub continued-stands : {old new : Journal} (result : Result Recorded Fault) → Continues old new result → IfOk result (StandsOn old.theory)
continued-stands (Ok made) continues = continues.held.stands_on ∙ continues.theory
continued-stands (Err fault) continues = tt

pub stands-later : {old new : Library} (result : Result Recorded Fault) → IsContinued old new → IfOk result (StandsOn new.recorder.theory) → IfOk result (StandsOn old.recorder.theory)
stands-later (Ok made) continued is = is ∙ continued.theory
stands-later (Err fault) continued is = tt

not-said : {A : Type 0} → false ≡ true → A
not-said is = cc

pub said-not : (theory : Theory) (result : Result Recorded Fault) → StandsIf false theory result
said-not theory result said = not-said said

pub said-so : (theory : Theory) (result : Result Recorded Fault) → IfOk result (StandsOn theory) → StandsIf true theory result
said-so theory result is said = is

-- as an answer
pub made-for : {old new : Library} (stands : Bool) (result : Result Recorded Fault) (t : NamedTerm) → Makes old new result → StandsIf stands old.recorder.theory result
    → MakesAnswer old new t (changed_by stands result)
made-for stands (Ok made) t makes is = record {
  library = makes.library;
  continued = makes.continued;
  made = record { is_made = makes.made; stands = λ said. is said ∙ sym makes.continued.theory };
}
made-for stands (Err fault) t makes is = record { library = makes.library; continued = makes.continued; made = tt }

-- and later
pub made-for-later : {old new : Library} (stands : Bool) (made : Recorded) → IsContinued old new → IsMadeFor old stands made → IsMadeFor new stands made
made-for-later {old} {new} stands made continued is = record {
  is_made = journals-grow.stays old.recorder new.recorder made continued.grown is.is_made;
  stands = λ said. is.stands said ∙ sym continued.theory;
}

-- the same theorem
pub copied-makes : {library : Library} (result : Result Recorded Fault) (made : Recorded) → IsLibrary library → IsMade library.recorder made → IfOk result (λ copy. copy ≡ made)
    → Makes library library result
copied-makes {library} (Ok copy) made is there same = record {
  library = is;
  continued = (makes_nothing library Memory is).continued;
  made = subst (λ (m : Recorded). IsMade library.recorder m) (sym same) there;
}
copied-makes {library} (Err fault) made is there same = makes_nothing library fault is

pub copied-as : {outcome : Result Theorem Fault} (made : Recorded) (result : Result Recorded Fault) → outcome ≡ Ok made.theorem → IfOk result (λ copy. copy ≡ made)
    → IfErr result (λ fault. fault ≡ Memory) → Joins outcome (theorem_in result)
copied-as made (Ok copy) is same none = inl (ap (λ (made : Recorded). Ok made.theorem) same ∙ sym is)
copied-as made (Err fault) is same none = inr (ap Err none)

pub copied-stands : {theory : Theory} (result : Result Recorded Fault) (made : Recorded) → StandsOn theory made → IfOk result (λ copy. copy ≡ made) → IfOk result (StandsOn theory)
copied-stands (Ok copy) made is same = ap (λ (m : Recorded). m.theorem.theory) same ∙ is
copied-stands (Err fault) made is same = tt

-- ---- TRANS of a theorem and what REFL proves of its right side

trans-adds-nothing : (theory : Theory) (first : Theorem) (left right : NamedTerm) → dest_equation first.conclusion ≡ Some (left, right) → first.conclusion ≡ equation left right
    → is_within_limits first.conclusion ≡ true → first.theory ≡ theory → trans_outcome theory first (same_theorem theory right) ≡ Ok first
trans-adds-nothing theory first left right is whole fits stands =
    subst (λ (found : Option (NamedTerm × NamedTerm)). given found NotEquation (λ one. given (dest_equation (equation right right)) NotEquation (λ other. joined one other)) ≡ Ok first) (sym is)
    (subst (λ (found : Option (NamedTerm × NamedTerm)). given found NotEquation (λ other. joined (left, right) other) ≡ Ok first) (sym (equation-sides right right))
    (go (are_alpha_equivalent right right) (is_within_limits (equation left right)) ((same_term-Decides (image right) (image right)).1 refl)
    (subst (λ (c : NamedTerm). is_within_limits c ≡ true) whole fits)))
  where
    joined : NamedTerm × NamedTerm → NamedTerm × NamedTerm → Result Theorem Fault
    joined one other = unless (are_alpha_equivalent one.1 other.0) NotAlpha (concluded theory first.hypotheses (equation one.0 other.1))

    made : Theorem
    made = record { theory = theory; hypotheses = first.hypotheses; conclusion = equation left right }

    same : made ≡ first
    same = λ i. record { theory = sym stands i; hypotheses = first.hypotheses; conclusion = sym whole i }

    go : (alike roomy : Bool) → alike ≡ true → roomy ≡ true → unless alike NotAlpha (unless roomy TooLarge (Ok made)) ≡ Ok first
    go true true a b = ap Ok same
    go true false a b = cc
    go false roomy a b = cc

pub nothing-added : (theory : Theory) → IsLegal theory → (first : Theorem) (right : NamedTerm) → IsFormula theory first.conclusion → IsWellFormed first → first.theory ≡ theory
    → IsRightSide first right → trans_outcome theory first (same_theorem theory right) ≡ Ok first
nothing-added theory legal first right formula well stands side =
    let whole = (sides theory legal first.conclusion side.left right formula.known side.is).is in
    let fits = first_of_both (is_within_limits first.conclusion) (list_all is_within_limits first.hypotheses) well.within_limits in
    trans-adds-nothing theory first side.left right side.is whole fits stands

-- ---- TRANS of what REFL proves of a term in which nothing is bound, and a theorem of it

trans-adds-nothing-before : (theory : Theory) (t left right : NamedTerm) (next : Theorem) → dest_equation next.conclusion ≡ Some (left, right) → next.conclusion ≡ equation left right → left ≡ t
    → is_within_limits next.conclusion ≡ true → next.theory ≡ theory → AreOrdered next.hypotheses → trans_outcome theory (same_theorem theory t) next ≡ Ok next
trans-adds-nothing-before theory t left right next is whole left_is fits stands ordered =
    subst (λ (found : Option (NamedTerm × NamedTerm)). given found NotEquation (λ one. given (dest_equation next.conclusion) NotEquation (λ other. joined one other)) ≡ Ok next)
    (sym (equation-sides t t))
    (subst (λ (found : Option (NamedTerm × NamedTerm)). given found NotEquation (λ other. joined (t, t) other) ≡ Ok next) (sym is)
    (go (are_alpha_equivalent t left) (is_within_limits (equation t right)) ((same_term-Decides (image t) (image left)).1 (ap image (sym left_is)))
    (subst (λ (c : NamedTerm). is_within_limits c ≡ true) whole_is fits)))
  where
    whole_is : next.conclusion ≡ equation t right
    whole_is = whole ∙ ap (λ (u : NamedTerm). equation u right) left_is

    joined : NamedTerm × NamedTerm → NamedTerm × NamedTerm → Result Theorem Fault
    joined one other = unless (are_alpha_equivalent one.1 other.0) NotAlpha (concluded theory (with_hypotheses [] next.hypotheses) (equation one.0 other.1))

    made : Theorem
    made = record { theory = theory; hypotheses = with_hypotheses [] next.hypotheses; conclusion = equation t right }

    same : made ≡ next
    same = λ i. record { theory = sym stands i; hypotheses = merge-none next.hypotheses ordered i; conclusion = sym whole_is i }

    go : (alike roomy : Bool) → alike ≡ true → roomy ≡ true → unless alike NotAlpha (unless roomy TooLarge (Ok made)) ≡ Ok next
    go true true a b = ap Ok same
    go true false a b = cc
    go false roomy a b = cc

pub nothing-added-before : (theory : Theory) → IsLegal theory → (t : NamedTerm) (next : Theorem) → IsFormula theory next.conclusion → IsWellFormed next → next.theory ≡ theory
    → has_abstractions t ≡ false → IsEquationOf t next → trans_outcome theory (same_theorem theory t) next ≡ Ok next
nothing-added-before theory legal t next formula well stands unbound of =
    let whole = (sides theory legal next.conclusion of.sides.0 of.sides.1 formula.known of.is_equation).is in
    let fits = first_of_both (is_within_limits next.conclusion) (list_all is_within_limits next.hypotheses) well.within_limits in
    trans-adds-nothing-before theory t of.sides.0 of.sides.1 next of.is_equation whole (exact of.sides.0 t unbound of.same_left) fits stands well.is_theorem.ordered

-- ---- with REFL

pub to-refl-joins : (theory : Theory) (first : Theorem) (right : NamedTerm) {answer : Result Theorem Fault} → is_known theory right ≡ true → is_within_limits (equation right right) ≡ true
    → Joins (trans_outcome theory first (same_theorem theory right)) answer → Joins (to_refl theory first right) answer
to-refl-joins theory first right {answer} known roomy joins =
    subst (λ (outcome : Result Theorem Fault). Joins outcome answer)
    (sym (ap (λ (found : Result Theorem Fault). found >>= λ same. trans_outcome theory first same) (roomy-refl theory right known roomy))) joins

pub from-refl-joins : (theory : Theory) (t : NamedTerm) (next : Theorem) {answer : Result Theorem Fault} → is_known theory t ≡ true → is_within_limits (equation t t) ≡ true
    → Joins (trans_outcome theory (same_theorem theory t) next) answer → Joins (from_refl theory t next) answer
from-refl-joins theory t next {answer} known roomy joins =
    subst (λ (outcome : Result Theorem Fault). Joins outcome answer)
    (sym (ap (λ (found : Result Theorem Fault). found >>= λ same. trans_outcome theory same next) (roomy-refl theory t known roomy))) joins
