-- Theorems: what stands on which entries, and in which order hypotheses stand.
use Rattle.std.specs.Prelude.{◌≡◌, List, [], ◌∷◌, Bool, true, not, map, filter}
use Rattle.std.specs.List.{list_all}
use Rattle.std.specs.declared.cmp.Ordering.{Ordering}
use Rattle.std.specs.declared.cmp.Ordering.TheVariants.{Less, Equal, Greater}
use Rattle.hol_model.specs.Terms.NamedTerm.{NamedTerm, is_within_limits}
use Rattle.hol_model.specs.Terms.WellNamed.{is_well_named}
use Rattle.hol_model.specs.Terms.Nameless.{image, nameless_cmp, same_term}
use Rattle.hol_model.specs.Logic.Theory.{Theory, IsLegal}
use Rattle.hol_model.specs.Logic.Derivable.{Derivable}

-- the term comes before the first of a list, where there is one
abbrev pub IsBefore : NamedTerm → List NamedTerm → Type 0
IsBefore term [] = Unit {0}
IsBefore term (first ∷ rest) = nameless_cmp (image term) (image first) ≡ Less

-- each term comes before the next, so no two of them are alpha-equivalent
abbrev pub AreOrdered : List NamedTerm → Type 0
AreOrdered [] = Unit {0}
AreOrdered (first ∷ rest) = IsBefore first rest × AreOrdered rest

-- a sequent, and the entries on which it stands
pub record Theorem : Type 0 where
  pub theory : Theory
  pub hypotheses : List NamedTerm
  pub conclusion : NamedTerm

-- what every theorem of the program is: the images follow from the definitions of a legal theory, and the hypotheses
-- stand in order
pub record IsTheorem (theorem : Theorem) : Type 0 where
  pub legal : IsLegal theorem.theory
  pub derivable : Derivable theorem.theory (map image theorem.hypotheses) (image theorem.conclusion)
  pub ordered : AreOrdered theorem.hypotheses

-- what every theorem of the program is besides: within the limits, and each name in it is of its kind
pub record IsWellFormed (theorem : Theorem) : Type 0 where
  pub is_theorem : IsTheorem theorem
  pub within_limits : list_all is_within_limits (theorem.conclusion ∷ theorem.hypotheses) ≡ true
  pub well_named : list_all is_well_named (theorem.conclusion ∷ theorem.hypotheses) ≡ true

-- the same up to the names of bound variables
abbrev pub are_alpha_equivalent : NamedTerm → NamedTerm → Bool
are_alpha_equivalent a b = same_term (image a) (image b)

-- the value for one term before another, for both the same, and for one after another
abbrev pub by_order : {A : Type 0} → Ordering → A → A → A → A
by_order Less before same after = before
by_order Equal before same after = same
by_order Greater before same after = after

-- ordered hypotheses with one more in its place; where it is alpha-equivalent to one of them, that one stays
abbrev pub with_hypothesis : List NamedTerm → NamedTerm → List NamedTerm
with_hypothesis [] new = new ∷ []
with_hypothesis (first ∷ rest) new =
    by_order (nameless_cmp (image new) (image first)) (new ∷ first ∷ rest) (first ∷ rest) (first ∷ with_hypothesis rest new)

-- ordered hypotheses with each of a list put in its place, one after another
abbrev pub with_hypotheses : List NamedTerm → List NamedTerm → List NamedTerm
with_hypotheses hypotheses [] = hypotheses
with_hypotheses hypotheses (new ∷ more) = with_hypotheses (with_hypothesis hypotheses new) more

-- the hypotheses without those that are alpha-equivalent to a term
abbrev pub without_hypothesis : NamedTerm → List NamedTerm → List NamedTerm
without_hypothesis term hypotheses = filter (λ hypothesis. not (are_alpha_equivalent hypothesis term)) hypotheses
