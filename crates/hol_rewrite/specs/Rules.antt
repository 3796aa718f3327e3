-- The theorems that state the equations of a theorem, and what the steps to them answer.
use Rattle.std.specs.Prelude.{◌≡◌, ℕ, List, ◌∷◌, map, Bool, true, Some}
use Rattle.std.specs.List.{list_all}
use Rattle.hol_model.specs.Terms.NamedTerm.{NamedTerm, variable}
use Rattle.hol_model.specs.Logic.NamedLogic.{Abstracted, dest_forall}
use Rattle.hol_model.specs.Terms.Nameless.{Nameless, free, image}
use Rattle.hol_model.specs.Terms.Substitution.{IsFirstFree, is_free_in_some, put, only, with_new_name}
use Rattle.hol_model.specs.Logic.Derivable.{IsSameSet}
use Rattle.hol_model.specs.Kernel.Theorem.{Theorem}
use Rattle.hol_model.specs.Derived.DerivedRules.{terms_of_theorem}
use Rattle.hol_model.specs.Rewrites.RewriteRules.{RulesOf}
use Rattle.hol_model.specs.Rewrites.Rewriting.{AreRules}
use Rattle.hol_model.specs.Rewrites.SmallTerms.{is_small}
use Rattle.hol_journal.specs.Journal.{Journal}
use Rattle.hol_journal.specs.Growth.{IsGrown}

-- the theorems state the equations that a conclusion under these hypotheses gives
pub record HasRules (hypotheses : List NamedTerm) (conclusion : NamedTerm) (rules : List Theorem) : Type 0 where
  pub equations : List Nameless
  pub rules_of : RulesOf hypotheses conclusion equations
  pub are_rules : AreRules hypotheses equations rules

-- the journal has grown, and the theory is the same
pub record GoesOn (old new : Journal) : Type 0 where
  pub grown : IsGrown old new
  pub theory : new.theory ≡ old.theory

-- the terms of the theorem are small
abbrev pub are_small : Theorem → Bool
are_small theorem = list_all is_small (terms_of_theorem theorem)

-- the theorem has the other's hypotheses, and this conclusion
pub record Concludes (premise : Theorem) (formula : NamedTerm) (theorem : Theorem) : Type 0 where
  pub same_hypotheses : IsSameSet (map image theorem.hypotheses) (map image premise.hypotheses)
  pub conclusion : theorem.conclusion ≡ formula

-- the term with one variable renamed to another
abbrev pub IsRenamed : NamedTerm → NamedTerm → NamedTerm → NamedTerm → Type 0
IsRenamed (variable name ty) (variable fresh s) term made = made ≡ with_new_name name ty fresh term
IsRenamed _ _ term made = ⊥

-- the theorem states the body of the universal one, for a variable that is free neither in that nor in the hypotheses; where
-- no binder captures its name, bound names are the body's
pub record IsFreshInstance (hypotheses : List NamedTerm) (premise theorem : Theorem) : Type 0 where
  pub bound : Abstracted
  pub dest : dest_forall premise.conclusion ≡ Some bound
  pub fresh : List ℕ
  pub is_fresh : IsFirstFree (λ other. is_free_in_some (premise.conclusion ∷ hypotheses) other bound.ty) bound.name fresh
  pub instance : image theorem.conclusion ≡ put (only bound.name bound.ty (free fresh bound.ty)) (image bound.body)
  pub keeps_names : image (with_new_name bound.name bound.ty fresh bound.body) ≡ put (only bound.name bound.ty (free fresh bound.ty)) (image bound.body)
      → theorem.conclusion ≡ with_new_name bound.name bound.ty fresh bound.body
  pub same_hypotheses : IsSameSet (map image theorem.hypotheses) (map image premise.hypotheses)
  pub stays_small : are_small premise ≡ true → are_small theorem ≡ true
