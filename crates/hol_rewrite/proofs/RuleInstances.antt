-- The instance of a rule by a match: what it states, and when it is within the limits.
use Rattle.std.proofs.Common.{◌≡◌, ◌⊎◌, List, [], ◌∷◌, ◌++◌, map, Bool, true, false, refl, sym, ◌∙◌, ap, subst, inl, inr, Some, None, Result}
use Rattle.std.specs.List.{list_all}
use Rattle.hol_model.specs.declared.fault.Fault.{Fault}
use Rattle.hol_model.specs.declared.fault.Fault.TheVariants.{Memory, TooLarge}
use Rattle.hol_model.specs.Terms.HolType.{HolType, bool_type}
use Rattle.hol_model.specs.Terms.NamedTerm.{NamedTerm, type_of}
use Rattle.hol_model.specs.Terms.Nameless.{Nameless, HasType, image}
use Rattle.hol_model.specs.Terms.Measures.{nameless_within_limits}
use Rattle.hol_model.specs.Logic.Theory.{Theory, HasKnownParts}
use Rattle.hol_model.specs.Logic.KnownTerm.{is_known}
use Rattle.hol_model.specs.Logic.Derivable.{IsMember}
use Rattle.hol_model.specs.Kernel.Theorem.{Theorem, IsTheorem}
use Rattle.hol_model.specs.Kernel.Instantiation.{instantiate_all, replacements_refusal, type_replacements_refusal}
use Rattle.hol_model.specs.Derived.DerivedRules.{images, terms_of_theorem}
use Rattle.hol_model.specs.Rewrites.Rewriting.{Replacements, replaced, Applies, IsRewritten, has_fitting_instance, fixed_variables}
use Rattle.hol_model.proofs.Tests.{first_of_both, second_of_both}
use Rattle.hol_model.proofs.Logic.Known.{Derivable-known}
use Rattle.hol_model.proofs.Terms.Membership.{IsMember-map}
use Rattle.hol_model.proofs.Terms.NamedTests.{is_known-Decides}
use Rattle.hol_journal.specs.Journal.{Recorded}
use Rattle.hol_equal.specs.Sequents.{Shows, IsPast, DerivesIf, instance_of}
use Rattle.hol_equal.proofs.StepLemmas.{member_passes}
use Rattle.hol_rewrite.proofs.InstanceLimits.{way_within}
use Rattle.hol_rewrite.proofs.KnownMatches.{types-pass, terms-pass, all_pass}

-- what an instance needs to be within the limits, on the way to it too
abbrev pub way_fits : Theorem → Replacements → Bool
way_fits rule by = list_all nameless_within_limits (map (instantiate_all by.types) (terms_of_theorem rule) ++ map (replaced by) (terms_of_theorem rule))

-- what a call that makes the instance by lists of replacements answers, where they are not refused
abbrev pub MakesInstance : Theory → List (HolType × HolType) → List (NamedTerm × NamedTerm) → Theorem → Result Recorded Fault → Type 0
MakesInstance theory types terms rule result =
    type_replacements_refusal theory types ≡ None → replacements_refusal theory terms ≡ None → (h : List Nameless) (c : Nameless) → Shows rule h c
    → DerivesIf (list_all nameless_within_limits (map (instantiate_all types) (c ∷ h) ++ map (instance_of types terms) (c ∷ h))) result (map (instance_of types terms) h) (instance_of types terms c)

-- what it answers by a match with a known term
pub instance_derives : (theory : Theory) (by : Replacements) (types : List (HolType × HolType))
    (terms : List (NamedTerm × NamedTerm)) (rule : Theorem) (term : NamedTerm) (ty : HolType) (result : Result Recorded Fault)
    → types ≡ by.types → terms ≡ by.terms → Applies rule term by → type_of term ≡ Some ty → is_known theory term ≡ true → MakesInstance theory types terms rule result
    → DerivesIf (way_fits rule by) result (map (replaced by) (images rule)) (replaced by (image rule.conclusion))
instance_derives theory by types terms rule term ty result types_are terms_are applies typed known makes =
    let parts : HasKnownParts theory (image term) = ((is_known-Decides theory term ty typed).0 known).parts in
    let moved : MakesInstance theory by.types by.terms rule result =
    subst (λ (l : List (NamedTerm × NamedTerm)). MakesInstance theory by.types l rule result) terms_are
    (subst (λ (l : List (HolType × HolType)). MakesInstance theory l terms rule result) types_are makes) in
    moved (types-pass theory (fixed_variables rule.hypotheses) applies.sides.0 term by.types by.terms applies.matches parts)
    (terms-pass theory (fixed_variables rule.hypotheses) applies.sides.0 term by.types by.terms applies.matches parts)
    (images rule) (image rule.conclusion) (record { same_set = record { to = λ x m. m; back = λ x m. m }; concludes = refl })

-- and the terms that are put by such a match are known, and of the types of their variables
pub terms_known : (theory : Theory) (by : Replacements) (terms : List (NamedTerm × NamedTerm)) (rule : Theorem) (term : NamedTerm) (ty : HolType) → terms ≡ by.terms → Applies rule term by
    → type_of term ≡ Some ty → is_known theory term ≡ true → replacements_refusal theory terms ≡ None
terms_known theory by terms rule term ty terms_are applies typed known =
    let parts : HasKnownParts theory (image term) = ((is_known-Decides theory term ty typed).0 known).parts in
    subst (λ (l : List (NamedTerm × NamedTerm)). replacements_refusal theory l ≡ None) (sym terms_are)
    (terms-pass theory (fixed_variables rule.hypotheses) applies.sides.0 term by.types by.terms applies.matches parts)

pub instance_is : (rule : Theorem) (by : Replacements) (made : Theorem)
    → Shows made (map (replaced by) (images rule)) (replaced by (image rule.conclusion)) → IsRewritten rule by made
instance_is rule by made shown = record { hypotheses = record { to = shown.same_set.back; back = shown.same_set.to }; conclusion = shown.concludes }

-- a theorem of this instance is within the limits, so the instance is
pub instance_fits : (rule : Theorem) (by : Replacements) (made : Theorem) → IsRewritten rule by made
    → list_all nameless_within_limits (terms_of_theorem made) ≡ true → has_fitting_instance rule by ≡ true
instance_fits rule by made is within =
    all_pass (λ (term : Nameless). nameless_within_limits (replaced by term)) (terms_of_theorem rule) (λ term member. elim member [
      | inl e ↦ ap (λ (t : Nameless). nameless_within_limits (replaced by t)) e ∙ ap nameless_within_limits (sym is.conclusion)
          ∙ first_of_both (nameless_within_limits (image made.conclusion)) (list_all nameless_within_limits (images made)) within
      | inr m ↦ member_passes nameless_within_limits (images made) (replaced by term)
          (second_of_both (nameless_within_limits (image made.conclusion)) (list_all nameless_within_limits (images made)) within)
          (is.hypotheses.back (replaced by term) (IsMember-map (replaced by) term (images rule) m))
    ])

-- the terms of a theorem are formulas
formulas : (theorem : Theorem) → IsTheorem theorem → (term : Nameless) → IsMember term (terms_of_theorem theorem) → HasType [] term bool_type
formulas theorem is term member =
    let known = Derivable-known theorem.theory is.legal is.derivable in
    elim member [
      | inl e ↦ subst (λ (t : Nameless). HasType [] t bool_type) (sym e) known.conclusion.typed
      | inr m ↦ (known.hypotheses term m).typed
    ]

-- where the call is refused, the instance is past the limits
pub instance_past : (rule : Theorem) (by : Replacements) (term : NamedTerm) (fault : Fault) → IsTheorem rule → Applies rule term by → IsPast fault (way_fits rule by)
    → (fault ≡ Memory) ⊎ ((fault ≡ TooLarge) × (has_fitting_instance rule by ≡ false))
instance_past rule by term fault is applies (inl memory) = inl memory
instance_past rule by term fault is applies (inr past) = inr (past.0, go (has_fitting_instance rule by) refl)
  where
    go : (test : Bool) → has_fitting_instance rule by ≡ test → test ≡ false
    go false fits = refl
    go true fits =
        let way : way_fits rule by ≡ true = way_within by applies.matches.is_match.may_be_put.typed (terms_of_theorem rule) (formulas rule is) fits in
        let no : true ≡ false = sym way ∙ past.1 in
        cc
