-- REPEATC and TOP_DEPTH_CONV as loops: the theorems so far, each of the right side of the one before, joined from the right at the end.
use Rattle.std.proofs.Common.{◌≡◌, ℕ, ◌≤◌, List, [], ◌∷◌, ◌++◌, Bool, true, false, refl, sym, ap, subst, Option, Some, Result, Ok, Err}
use Rattle.hol_model.specs.declared.fault.Fault.{Fault}
use Rattle.hol_model.specs.declared.fault.Fault.TheVariants.{Memory, TooLarge, NotEquation, NotAlpha}
use Rattle.hol_model.specs.Terms.NamedTerm.{NamedTerm, equation, is_within_limits}
use Rattle.hol_model.specs.Terms.Nameless.{image}
use Rattle.hol_model.specs.Logic.Theory.{Theory}
use Rattle.hol_model.specs.Kernel.Outcome.{unless, given}
use Rattle.hol_model.specs.Kernel.Theorem.{Theorem, are_alpha_equivalent, with_hypotheses}
use Rattle.hol_model.specs.Kernel.Rules.{dest_equation, trans_outcome}
use Rattle.hol_model.proofs.Tests.{same_term-Decides}
use Rattle.hol_model.specs.Goals.Replays.{Store}
use Rattle.hol_model.specs.Refining.HostFunctions.{HostConversions}
use Rattle.hol_model.specs.Refining.Conversions.{Conversion, all_conv, thenc, orelsec, no_more, one_more, defined_as, Converts, is_caught, first_goes_on, first_answers, first_is_not_caught}
use Rattle.hol_model.specs.Refining.Conversions.{last_is_refused, first_is_caught, converts_as_defined, finds_no_memory, ends, next_is_refused, is_not_joined, is_joined}
use Rattle.hol_laws_refiners.specs.Laws.{IsEquationOf}
use Rattle.hol_laws_refiners.proofs.Equations.{conversions-answer-equations}

-- a refusal of TRANS, where the theorem behind is of the right side of the one in front: that for the limits
abbrev pub FailsUncaught : Result Theorem Fault → Type 0
FailsUncaught (Ok theorem) = Unit {0}
FailsUncaught (Err fault) = is_caught fault ≡ false

pub trans-uncaught : (theory : Theory) (a b : Theorem) (sides : NamedTerm × NamedTerm) → dest_equation a.conclusion ≡ Some sides → IsEquationOf sides.1 b
    → FailsUncaught (trans_outcome theory a b)
trans-uncaught theory a b sides is of =
    subst (λ (found : Option (NamedTerm × NamedTerm)). FailsUncaught (given found NotEquation (λ left. given (dest_equation b.conclusion) NotEquation (λ right. joins left right)))) (sym is)
    (subst (λ (found : Option (NamedTerm × NamedTerm)). FailsUncaught (given found NotEquation (λ right. joins sides right))) (sym of.is_equation)
    (go (are_alpha_equivalent sides.1 of.sides.0) (is_within_limits (equation sides.0 of.sides.1)) ((same_term-Decides (image sides.1) (image of.sides.0)).1 (sym of.same_left))))
  where
    joins : NamedTerm × NamedTerm → NamedTerm × NamedTerm → Result Theorem Fault
    joins left right = unless (are_alpha_equivalent left.1 right.0) NotAlpha (unless (is_within_limits (equation left.0 right.1)) TooLarge
        (Ok (record { theory = theory; hypotheses = with_hypotheses a.hypotheses b.hypotheses; conclusion = equation left.0 right.1 })))

    go : (same fits : Bool) → same ≡ true
        → FailsUncaught (unless same NotAlpha (unless fits TooLarge (Ok (record {
          theory = theory;
          hypotheses = with_hypotheses a.hypotheses b.hypotheses;
          conclusion =
              equation sides.0 of.sides.1;
        }))))
    go true true e = tt
    go true false e = refl
    go false fits e = cc

-- the theorem, joined to what follows
abbrev pub onto : Theory → Theorem → Result Theorem Fault → Result Theorem Fault
onto theory theorem (Ok next) = trans_outcome theory theorem next
onto theory theorem (Err fault) = Err fault

-- the theorems so far, joined from the right to what follows
abbrev pub joined_from : Theory → List Theorem → Result Theorem Fault → Result Theorem Fault
joined_from theory [] answer = answer
joined_from theory (theorem ∷ theorems) answer = onto theory theorem (joined_from theory theorems answer)

pub joined-last : (theory : Theory) (theorems : List Theorem) (theorem : Theorem) (answer : Result Theorem Fault)
    → joined_from theory (theorems ++ theorem ∷ []) answer ≡ joined_from theory theorems (onto theory theorem answer)
joined-last theory [] theorem answer = refl
joined-last theory (first ∷ theorems) theorem answer = ap (onto theory first) (joined-last theory theorems theorem answer)

-- a refusal stays as it is behind theorems
pub joined-err : (theory : Theory) (theorems : List Theorem) (fault : Fault) → joined_from theory theorems (Err fault) ≡ Err fault
joined-err theory [] fault = refl
joined-err theory (theorem ∷ theorems) fault = ap (onto theory theorem) (joined-err theory theorems fault)

-- an answer with which REPEATC and TOP_DEPTH_CONV may end
abbrev pub IsFinal : Result Theorem Fault → Type 0
IsFinal (Ok theorem) = Unit {0}
IsFinal (Err fault) = is_caught fault ≡ false

module _ (theory : Theory) (store : Store) (hosts : HostConversions) (depth : ℕ) where
  -- whatever the rest answers on the current term decides, behind the theorems so far, what the whole answers on the first
  pub record JoinedSoFar (first : ℕ) (whole : Conversion) (t : NamedTerm) (steps : ℕ) (rest : Conversion) (theorems : List Theorem) (current : NamedTerm) : Type 0 where
    pub decides : (answer : Result Theorem Fault) (left : ℕ) → IsFinal answer → Converts theory store hosts depth steps rest current answer left
        → Converts theory store hosts depth first whole t (joined_from theory theorems answer) left × IsFinal (joined_from theory theorems answer)

  -- ---- what the rest is

  -- the rest stands for another conversion
  pub joined_defined : {first steps : ℕ} {whole c d : Conversion} {t current : NamedTerm} {theorems : List Theorem} → defined_as c ≡ Some d
      → JoinedSoFar first whole t steps c theorems current → JoinedSoFar first whole t steps d theorems current
  joined_defined is so_far = record { decides = λ answer left final r. so_far.decides answer left final (converts_as_defined is r) }

  only : {steps left : ℕ} {c : Conversion} {current : NamedTerm} (answer : Result Theorem Fault) → IsFinal answer
      → Converts theory store hosts depth steps c current answer left → Converts theory store hosts depth steps (orelsec c (one_more all_conv)) current answer left
  only (Ok theorem) final r = first_answers r
  only (Err fault) final r = first_is_not_caught r final

  -- what is tried decides
  pub joined_tried : {first steps : ℕ} {whole c : Conversion} {t current : NamedTerm} {theorems : List Theorem} → JoinedSoFar first whole t steps (orelsec c (one_more all_conv)) theorems current
      → JoinedSoFar first whole t steps c theorems current
  joined_tried so_far = record { decides = λ answer left final r. so_far.decides answer left final (only answer final r) }

  -- one more theorem, of the current term, and what follows on its right side
  then_next : {steps mid left : ℕ} {c d : Conversion} {current : NamedTerm} {theorem : Theorem} {sides : NamedTerm × NamedTerm} (answer : Result Theorem Fault)
      → Converts theory store hosts depth steps c current (Ok theorem) mid → dest_equation theorem.conclusion ≡ Some sides → IsFinal answer
      → Converts theory store hosts depth mid d sides.1 answer left
      → Converts theory store hosts depth steps (thenc c (one_more d)) current (onto theory theorem answer) left × IsFinal (onto theory theorem answer)
  then_next (Err fault) r is final s = (first_goes_on r (next_is_refused is s), final)
  then_next {steps} {mid} {left} {c} {d} {current} {theorem} {sides} (Ok next) r is final s =
      go (trans_outcome theory theorem next) refl (trans-uncaught theory theorem next sides is (conversions-answer-equations hosts theory store depth mid left d sides.1 next s))
    where
      go : (made : Result Theorem Fault) → trans_outcome theory theorem next ≡ made → FailsUncaught made
          → Converts theory store hosts depth steps (thenc c (one_more d)) current made left × IsFinal made
      go (Ok joined) found uncaught = (first_goes_on r (is_joined is s found ends), tt)
      go (Err fault) found uncaught = (first_goes_on r (is_not_joined is s found), uncaught)

  pub joined_next : {first steps mid : ℕ} {whole c d : Conversion} {t current : NamedTerm} {theorems : List Theorem} {theorem : Theorem} {sides : NamedTerm × NamedTerm}
      → JoinedSoFar first whole t steps (thenc c (one_more d)) theorems current → Converts theory store hosts depth steps c current (Ok theorem) mid → dest_equation theorem.conclusion ≡ Some sides
      → JoinedSoFar first whole t mid d (theorems ++ theorem ∷ []) sides.1
  joined_next {first} {whole} {t} {theorems} {theorem} so_far r is = record {
    decides = λ answer left final s.
        let more = then_next answer r is final s in
        subst (λ (a : Result Theorem Fault). Converts theory store hosts depth first whole t a left × IsFinal a) (sym (joined-last theory theorems theorem answer))
        (so_far.decides (onto theory theorem answer) left more.1 more.0);
  }

  -- ---- ends

  last : {steps left : ℕ} {c : Conversion} {current : NamedTerm} (answer : Result Theorem Fault) → Converts theory store hosts depth steps c current answer left
      → Converts theory store hosts depth steps (orelsec c no_more) current answer left
  last (Ok theorem) r = first_answers r
  last (Err fault) r = last_is_refused r

  -- what is tried is refused, and ALL_CONV ends the loop
  pub joined_end : {first steps mid left : ℕ} {whole c : Conversion} {t current : NamedTerm} {theorems : List Theorem} {fault : Fault} (same : Result Theorem Fault)
      → JoinedSoFar first whole t steps (orelsec c (one_more all_conv)) theorems current → Converts theory store hosts depth steps c current (Err fault) mid → is_caught fault ≡ true
      → Converts theory store hosts depth mid all_conv current same left → IsFinal same
      → Converts theory store hosts depth first whole t (joined_from theory theorems same) left × IsFinal (joined_from theory theorems same)
  joined_end {left} same so_far r caught s final = so_far.decides same left final (first_is_caught r caught (last same s))

  -- a refusal that is not caught ends the loop at once
  pub joined_stop : {first steps left : ℕ} {whole c : Conversion} {t current : NamedTerm} {theorems : List Theorem} {fault : Fault}
      → JoinedSoFar first whole t steps c theorems current → Converts theory store hosts depth steps c current (Err fault) left → is_caught fault ≡ false
      → Converts theory store hosts depth first whole t (Err fault) left
  joined_stop {first} {left} {whole} {t} {theorems} {fault} so_far r passes =
      subst (λ (a : Result Theorem Fault). Converts theory store hosts depth first whole t a left) (joined-err theory theorems fault) (so_far.decides (Err fault) left passes r).0

  -- so does want of memory
  pub joined_starves : {first steps left : ℕ} {whole c : Conversion} {t current : NamedTerm} {theorems : List Theorem} → JoinedSoFar first whole t steps c theorems current → left ≤ steps
      → Converts theory store hosts depth first whole t (Err Memory) left
  joined_starves so_far le = joined_stop so_far (finds_no_memory le) refl
