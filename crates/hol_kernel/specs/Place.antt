-- Where a hypothesis belongs among ordered ones.
use Rattle.std.specs.Prelude.{◌≡◌, ℕ, suc, List, [], ◌∷◌, ◌++◌, Option, Some, None, Result, Ok, Err}
use Rattle.std.specs.Option.{option_map}
use Rattle.hol_model.specs.Terms.NamedTerm.{NamedTerm}
use Rattle.hol_model.specs.Terms.Nameless.{image, nameless_cmp}
use Rattle.hol_model.specs.Kernel.Theorem.{AreOrdered, by_order, with_hypotheses}

-- the number of hypotheses before it, or `None` where one that is alpha-equivalent stands there
abbrev pub place_of : List NamedTerm → NamedTerm → Option ℕ
place_of [] new = Some 0
place_of (first ∷ rest) new = by_order (nameless_cmp (image new) (image first)) (Some 0) None (option_map suc (place_of rest new))

-- a place of a list's rest, counted in the whole list
abbrev pub one_further : Result ℕ ℕ → Result ℕ ℕ
one_further (Ok index) = Ok (suc index)
one_further (Err index) = Err (suc index)

-- the number of hypotheses before a term: `Ok` where one that is alpha-equivalent stands there, else `Err`
abbrev pub place_in : List NamedTerm → NamedTerm → Result ℕ ℕ
place_in [] term = Err 0
place_in (first ∷ rest) term = by_order (nameless_cmp (image term) (image first)) (Err 0) (Ok 0) (one_further (place_in rest term))

-- a new hypothesis was put among others as far as its place, which led from one list to another: what stands behind it
-- is left
pub record IsNewPut (others : List NamedTerm) (new : NamedTerm) (before after : List NamedTerm) (rest : List NamedTerm) : Type 0 where
  pub ordered : AreOrdered rest
  pub goes : (more : List NamedTerm) → AreOrdered (new ∷ more) → after ++ with_hypotheses rest more ≡ before ++ with_hypotheses others (new ∷ more)

-- the same, of an old hypothesis among new ones
pub record IsOldPut (others : List NamedTerm) (old : NamedTerm) (before after : List NamedTerm) (rest : List NamedTerm) : Type 0 where
  pub ordered : AreOrdered rest
  pub goes : (more : List NamedTerm) → after ++ with_hypotheses more rest ≡ before ++ with_hypotheses (old ∷ more) others
