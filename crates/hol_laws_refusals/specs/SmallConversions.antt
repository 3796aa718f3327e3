-- Derivations of what a conversion answers in which all that it meets is small: each term that it tries, what it makes of it, what
-- it would make where it is refused, and a theorem whose rules are refused. No limit on descents is passed, and what a host
-- answers leaves room.
use Rattle.std.specs.Prelude.{◌≡◌, ℕ, List, [], ◌∷◌, true, Some, Result, Ok, Err}
use Rattle.std.specs.List.{list_all}
use Rattle.hol_model.specs.declared.fault.Fault.{Fault}
use Rattle.hol_model.specs.Terms.NamedTerm.{NamedTerm}
use Rattle.hol_model.specs.Terms.Nameless.{image}
use Rattle.hol_model.specs.Logic.Theory.{Theory}
use Rattle.hol_model.specs.Logic.NamedLogic.{Abstracted, dest_redex}
use Rattle.hol_model.specs.Kernel.Theorem.{Theorem}
use Rattle.hol_model.specs.Kernel.Rules.{dest_equation}
use Rattle.hol_model.specs.Derived.DerivedRules.{terms_of_theorem, images, body_with}
use Rattle.hol_model.specs.Rewrites.SmallTerms.{is_small}
use Rattle.hol_model.specs.Rewrites.Rewriting.{Rewrites, instance_is_too_large, replaced}
use Rattle.hol_model.specs.Goals.Replays.{Store, sequents_in, has_room}
use Rattle.hol_model.specs.Refining.HostFunctions.{HostConversions}
use Rattle.hol_model.specs.Refining.Conversions.{Conversion, Conversions, Converts, ConvertsOn}
use Rattle.hol_model.specs.Refining.Conversions as run

-- what the term was proved to equal is small
abbrev pub MakesSmall : Result Theorem Fault → Type 0
MakesSmall (Ok theorem) = (sides : NamedTerm × NamedTerm) → dest_equation theorem.conclusion ≡ Some sides → is_small (image sides.1) ≡ true
MakesSmall (Err fault) = Unit {0}

-- the term, and what it was proved to equal
abbrev pub IsSmallStep : NamedTerm → Result Theorem Fault → Type 0
IsSmallStep t answer = (is_small (image t) ≡ true) × MakesSmall answer

-- the conclusion and the hypotheses of the theorem are small
abbrev pub IsSmallTheorem : Theorem → Type 0
IsSmallTheorem theorem = list_all is_small (terms_of_theorem theorem) ≡ true

-- what BETA_CONV would make of the term is small
abbrev pub BetaMakesSmall : NamedTerm → Type 0
BetaMakesSmall t = (redex : Abstracted × NamedTerm) → dest_redex t ≡ Some redex → is_small (body_with redex.0 redex.1) ≡ true

-- what the rule that applies would make of the term is small, and what its hypotheses become
abbrev pub RuleMakesSmall : {rules : List Theorem} {t : NamedTerm} {answer : Result Theorem Fault} → Rewrites rules t answer → Type 0
RuleMakesSmall (instance_is_too_large {rule} {by} first too_large) =
    list_all (λ term. is_small (replaced by term)) (image first.applies.sides.1 ∷ images rule) ≡ true
RuleMakesSmall _ = Unit {0}

module _ (theory : Theory) (store : Store) (hosts : HostConversions) where
  abbrev mutual
    -- what the conversion meets on the term is small: the term, and what it makes of it, and what it meets on the way
    pub StaysSmall : {depth steps left : ℕ} {c : Conversion} {t : NamedTerm} {answer : Result Theorem Fault} → Converts theory store hosts depth steps c t answer left → Type 0
    -- what would be made where it is refused, and a theorem whose rules are refused
    StaysSmall {t = t} {answer = answer} (run.beta_converts is) = IsSmallStep t answer × BetaMakesSmall t
    StaysSmall {t = t} {answer = answer} (run.has_no_rules {theorem} is refuses) = IsSmallStep t answer × IsSmallTheorem theorem
    StaysSmall {t = t} {answer = answer} (run.theorem_rewrites is rules made) = IsSmallStep t answer × RuleMakesSmall made
    StaysSmall {t = t} {answer = answer} (run.rules_rewrite made) = IsSmallStep t answer × RuleMakesSmall made
    -- the host's justification leaves room
    StaysSmall {t = t} {answer = answer} (run.host_converts answered named says made) =
        IsSmallStep t answer × (has_room theory (sequents_in store) [] answered.justification ≡ true)
    -- the limit on descents is passed
    StaysSmall (run.is_too_deep down deep) = ⊥
    -- parts
    StaysSmall {t = t} {answer = answer} (run.argument_converts room r is) = IsSmallStep t answer × StaysSmall r
    StaysSmall {t = t} {answer = answer} (run.function_converts room r is) = IsSmallStep t answer × StaysSmall r
    StaysSmall {t = t} {answer = answer} (run.body_converts room r is) = IsSmallStep t answer × StaysSmall r
    StaysSmall {t = t} {answer = answer} (run.first_part_is_refused room r) = IsSmallStep t answer × StaysSmall r
    StaysSmall {t = t} {answer = answer} (run.parts_convert room r s is) = IsSmallStep t answer × StaysSmall r × StaysSmall s
    StaysSmall (run.only_part_converts r) = StaysSmall r
    -- one after another
    StaysSmall (run.first_is_refused r) = StaysSmall r
    StaysSmall (run.first_goes_on r s) = StaysSmall r × GoesOnSmall s
    StaysSmall (run.first_answers r) = StaysSmall r
    StaysSmall (run.first_is_not_caught r uncaught) = StaysSmall r
    StaysSmall (run.last_is_refused r) = StaysSmall r
    StaysSmall (run.first_is_caught r caught s) = StaysSmall r × StaysSmall s
    StaysSmall (run.converts_if_changed r is) = StaysSmall r
    StaysSmall (run.converts_as_defined is r) = StaysSmall r
    StaysSmall {t = t} {answer = answer} _ = IsSmallStep t answer

    pub GoesOnSmall : {depth steps left : ℕ} {theorem : Theorem} {cs : Conversions} {answer : Result Theorem Fault} → ConvertsOn theory store hosts depth steps theorem cs answer left → Type 0
    GoesOnSmall (run.next_is_refused is r) = StaysSmall r
    GoesOnSmall (run.is_not_joined is r fails) = StaysSmall r
    GoesOnSmall (run.is_joined is r joins s) = StaysSmall r × GoesOnSmall s
    GoesOnSmall _ = Unit {0}
