-- Sequents by image: what a theorem says up to the names of bound variables, and what a call that derives one answers.
use Rattle.std.specs.Prelude.{◌≡◌, ◌⊎◌, List, ◌∷◌, map, Bool, false, Result, Ok, Err}
use Rattle.std.specs.List.{list_all}
use Rattle.hol_model.specs.declared.fault.Fault.{Fault}
use Rattle.hol_model.specs.declared.fault.Fault.TheVariants.{Memory, TooLarge}
use Rattle.hol_model.specs.Terms.HolType.{HolType, bool_type}
use Rattle.hol_model.specs.Terms.NamedTerm.{NamedTerm}
use Rattle.hol_model.specs.Terms.Nameless.{Nameless, image}
use Rattle.hol_model.specs.Terms.Substitution.{put_all}
use Rattle.hol_model.specs.Kernel.Instantiation.{instantiate_all}
use Rattle.hol_model.specs.Terms.Measures.{nameless_within_limits}
use Rattle.hol_model.specs.Logic.Derivable.{IsSameSet, nameless_equation}
use Rattle.hol_model.specs.Kernel.Theorem.{Theorem}
use Rattle.hol_journal.specs.Journal.{Recorded}

-- the theorem's hypotheses are this set, and its conclusion is this term
pub record Shows (theorem : Theorem) (hypotheses : List Nameless) (conclusion : Nameless) : Type 0 where
  pub same_set : IsSameSet hypotheses (map image theorem.hypotheses)
  pub concludes : image theorem.conclusion ≡ conclusion

-- there is no memory, or what has to be within the limits is not
abbrev pub IsPast : Fault → Bool → Type 0
IsPast fault within = (fault ≡ Memory) ⊎ ((fault ≡ TooLarge) × (within ≡ false))

-- a theorem of this sequent; or there is no memory, or what has to fit does not
abbrev pub DerivesIf : Bool → Result Recorded Fault → List Nameless → Nameless → Type 0
DerivesIf fits (Ok made) hypotheses conclusion = Shows made.theorem hypotheses conclusion
DerivesIf fits (Err fault) hypotheses conclusion = IsPast fault fits

-- the equation of a formula with itself is within the limits
abbrev pub reflexive_fits : Nameless → Bool
reflexive_fits p = nameless_within_limits (nameless_equation bool_type p p)

-- the conclusion has to be within the limits
abbrev pub Derives : Result Recorded Fault → List Nameless → Nameless → Type 0
Derives result hypotheses conclusion = DerivesIf (nameless_within_limits conclusion) result hypotheses conclusion

-- each of its terms has to be within the limits
abbrev pub DerivesInstance : Result Recorded Fault → List Nameless → Nameless → Type 0
DerivesInstance result hypotheses conclusion = DerivesIf (list_all nameless_within_limits (conclusion ∷ hypotheses)) result hypotheses conclusion

-- a theorem of this sequent; or there is no memory
abbrev pub Gives : Result Recorded Fault → List Nameless → Nameless → Type 0
Gives (Ok made) hypotheses conclusion = Shows made.theorem hypotheses conclusion
Gives (Err fault) hypotheses conclusion = fault ≡ Memory

-- a term with types for type variables, and then terms for variables, by lists of replacements (new, old)
abbrev pub instance_of : List (HolType × HolType) → List (NamedTerm × NamedTerm) → Nameless → Nameless
instance_of types terms term = put_all terms (instantiate_all types term)
