-- No rule takes more than three premises.
use Rattle.std.proofs.Common.{◌≡◌, ◌<◌, List, [], ◌∷◌, length, map, refl, arith, None, Result, Err, Bor}
use Rattle.std.proofs.lemmas.List.{length-map}
use Rattle.hol_model.specs.declared.fault.Fault.{Fault}
use Rattle.hol_model.specs.declared.fault.Fault.TheVariants.{InvalidStep}
use Rattle.hol_model.specs.Terms.Nameless.{Nameless}
use Rattle.hol_model.specs.Logic.Theory.{Theory}
use Rattle.hol_model.specs.Kernel.Theorem.{Theorem}
use Rattle.hol_model.specs.Derived.Inference.{infer}
use Rattle.hol_model.specs.Derived.InferenceRules.{InferenceRule}
use Rattle.hol_model.specs.declared.rule.Rule.TheVariants as rules
use Rattle.hol_journal.specs.Steps.{sequent_of_theorem}
use Rattle.hol_journal.specs.Journal.{Recorded, theorem_in}
use Rattle.hol_equal.specs.Inferred.{Infers}
use Rattle.hol_just_replay.specs.Outcomes.{lent_theorems, AnswersBy}
use Rattle.hol_just_replay.proofs.KernelRooms.{room-refused}

pub none_of_four : (theory : Theory) (rule : InferenceRule) (a b c d : Nameless) (rest : List Nameless) → infer theory rule (a ∷ b ∷ c ∷ d ∷ rest) ≡ None
none_of_four theory rules.DisjCases a b c d rest = refl
none_of_four theory rule a b c d rest = refl

pub too_many : (theory : Theory) (rule : InferenceRule) (premises : List Theorem) (fault : Fault) → 3 < length premises → Infers theory rule premises (Err fault)
too_many theory rule [] fault many = absurd (omega arith)
too_many theory rule (p ∷ []) fault many = absurd (omega arith)
too_many theory rule (p ∷ q ∷ []) fault many = absurd (omega arith)
too_many theory rule (p ∷ q ∷ r ∷ []) fault many = absurd (omega arith)
too_many theory rule (p ∷ q ∷ r ∷ s ∷ rest) fault many =
    record {
      drawn = rw (none_of_four theory rule (sequent_of_theorem p).conclusion (sequent_of_theorem q).conclusion
          (sequent_of_theorem r).conclusion (sequent_of_theorem s).conclusion (map (λ sequent. sequent.conclusion) (map sequent_of_theorem rest))) tt;
    }

-- what is lent

pub too_many-inferred : (theory : Theory) (rule : InferenceRule) (lent : List (Bor Recorded)) (result : Result Recorded Fault) → 3 < length lent → result ≡ Err InvalidStep
    → Infers theory rule (lent_theorems lent) (theorem_in result)
too_many-inferred theory rule lent result many is =
    let same : length (lent_theorems lent) ≡ length lent = length-map lent (λ (made : Bor Recorded). made.now.theorem) in
    rw is (too_many theory rule (lent_theorems lent) InvalidStep (omega (arith, many, same)))

pub too_many-answered : (theory : Theory) (rule : InferenceRule) (lent : List (Bor Recorded)) (result : Result Recorded Fault) → 3 < length lent → result ≡ Err InvalidStep
    → AnswersBy theory rule (lent_theorems lent) (theorem_in result)
too_many-answered theory rule [] result many is = absurd (omega (arith, many))
too_many-answered theory rule (p ∷ []) result many is = absurd (omega (arith, many))
too_many-answered theory rule (p ∷ q ∷ []) result many is = absurd (omega (arith, many))
too_many-answered theory rule (p ∷ q ∷ r ∷ []) result many is = absurd (omega (arith, many))
too_many-answered theory rule (p ∷ q ∷ r ∷ s ∷ rest) result many is = rw is (record { is = refl })

pub ruleset too_many_lent = (too_many-inferred, too_many-answered, room-refused)
