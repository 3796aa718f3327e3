-- A redex of known parts: what is past the limits on the way to its conversion, and the conversion itself.
use Rattle.std.proofs.Common.{◌≡◌, ℕ, List, [], ◌∷◌, Bool, true, false, ◌&&◌, refl, subst, Some, Result, Err}
use Rattle.hol_model.specs.declared.fault.Fault.{Fault}
use Rattle.hol_model.specs.Terms.HolType.{HolType}
use Rattle.hol_model.specs.Terms.NamedTerm.{NamedTerm, variable, abstraction, type_of}
use Rattle.hol_model.specs.Terms.Nameless.{Nameless, free, app, image}
use Rattle.hol_model.specs.Terms.Measures.{nameless_within_limits}
use Rattle.hol_model.specs.Terms.Substitution.{put_all}
use Rattle.hol_model.specs.Logic.Derivable.{nameless_equation}
use Rattle.hol_model.specs.Kernel.Outcome.{Answers}
use Rattle.hol_model.specs.Kernel.Constructors.{combination_outcome}
use Rattle.hol_model.specs.Logic.Theory.{Theory}
use Rattle.hol_model.proofs.Terms.Images.{image-abstraction}
use Rattle.hol_journal.specs.Journal.{Recorded}
use Rattle.hol_equal.specs.Sequents.{DerivesIf, DerivesInstance, IsPast}
use Rattle.hol_equal.specs.Conversions.{trivial, conversion, conversion_fits}
use Rattle.hol_equal.proofs.BetaLemmas.{applied-past, put-redex, trivial_typed}
use Rattle.hol_equal.proofs.CutLemmas.{derives-where}
use Rattle.hol_equal.proofs.Sizes.{past-room}

-- each of three tests that all pass

pub first_of_three : (a b c : Bool) → (a && (b && (c && true))) ≡ true → a ≡ true
first_of_three true b c all = refl
first_of_three false b c all = cc

pub second_of_three : (a b c : Bool) → (a && (b && (c && true))) ≡ true → b ≡ true
second_of_three true true c all = refl
second_of_three true false c all = cc
second_of_three false b c all = cc

pub third_of_three : (a b c : Bool) → (a && (b && (c && true))) ≡ true → c ≡ true
third_of_three true true true all = refl
third_of_three true true false all = cc
third_of_three true false c all = cc
third_of_three false b c all = cc

module _ (name : List ℕ) (ty codomain : HolType) (body argument : NamedTerm) (body_typed : type_of body ≡ Some codomain) (argument_typed : type_of argument ≡ Some ty) where
  abbrev first_fits : Bool
  first_fits = nameless_within_limits (trivial name ty body)

  abbrev second_fits : Bool
  second_fits = nameless_within_limits (nameless_equation codomain (trivial name ty body) (image body))

  abbrev third_fits : Bool
  third_fits = nameless_within_limits (conversion name ty codomain body argument)

  pub trivial-past : (theory : Theory) (fault : Fault)
      → Answers {A = NamedTerm} (Err fault) (combination_outcome (abstraction name ty body) (variable name ty))
      → IsPast fault (conversion_fits name ty codomain body argument)
  trivial-past theory fault answers =
      past-room fault first_fits (conversion_fits name ty codomain body argument)
      (subst (λ (t : Nameless). IsPast fault (nameless_within_limits (app t (free name ty)))) (image-abstraction name ty body)
      (applied-past fault (abstraction name ty body) (variable name ty) codomain (trivial_typed theory name ty codomain body argument body_typed argument_typed) answers))
      (first_of_three first_fits second_fits third_fits)

  pub equation-past : (fault : Fault) → IsPast fault second_fits → IsPast fault (conversion_fits name ty codomain body argument)
  equation-past fault past = past-room fault second_fits (conversion_fits name ty codomain body argument) past (second_of_three first_fits second_fits third_fits)

  pub converted-derives : (result : Result Recorded Fault) (theta : List (NamedTerm × NamedTerm)) → theta ≡ (argument, variable name ty) ∷ []
      → DerivesInstance result [] (put_all theta (nameless_equation codomain (trivial name ty body) (image body)))
      → DerivesIf (conversion_fits name ty codomain body argument) result [] (conversion name ty codomain body argument)
  converted-derives result theta theta_is derives =
      let shown : DerivesInstance result [] (conversion name ty codomain body argument) =
      subst (λ (t : Nameless). DerivesInstance result [] t) (put-redex argument name ty codomain body body_typed)
      (subst (λ (l : List (NamedTerm × NamedTerm)). DerivesInstance result [] (put_all l (nameless_equation codomain (trivial name ty body) (image body)))) theta_is derives) in
      derives-where (third_fits && true) (conversion_fits name ty codomain body argument) result [] (conversion name ty codomain body argument) last shown
    where
      last : conversion_fits name ty codomain body argument ≡ true → (third_fits && true) ≡ true
      last all = rw (third_of_three first_fits second_fits third_fits all) refl
