-- What the derivations that stand as data in the code give.
use Rattle.std.specs.Prelude.{◌≡◌, ℕ, List, [], ◌∷◌, map, Some, Result, Ok, IfOk, slice_get, length, nat_eq}
use Rattle.hol_model.specs.declared.fault.Fault.{Fault}
use Rattle.hol_model.specs.declared.fault.Fault.TheVariants.{BadShape, NotEquation, NotAlpha}
use Rattle.hol_model.specs.Terms.NamedTerm.{NamedTerm, dest_combination}
use Rattle.hol_model.specs.Terms.Nameless.{Nameless, image, same_term}
use Rattle.hol_model.specs.Kernel.Outcome.{given, unless, refused}
use Rattle.hol_model.specs.Logic.Theory.{Theory}
use Rattle.hol_model.specs.Kernel.Theorem.{Theorem}
use Rattle.hol_model.specs.Kernel.Rules.{refl_outcome, mk_comb_outcome, eq_mp_outcome, abs_outcome, dest_equation}
use Rattle.hol_model.specs.Terms.Substitution.{put_all}
use Rattle.hol_model.specs.Kernel.Instantiation.{inst_refusal, inst_type_refusal, instantiate_all}
use Rattle.hol_journal.specs.Journal.{Journal, Recorded, IsMade}
use Rattle.hol_journal.specs.Growth.{IsGrown}
use Rattle.hol_prelude_derivations.specs.Sketches.{followed, type_outcome, term_outcome}
use Rattle.hol_prelude_derivations.specs.declared.sketch.TypeSketch.{TypeSketch}
use Rattle.hol_prelude_derivations.specs.declared.sketch.TermSketch.{TermSketch}
use Rattle.hol_prelude_derivations.specs.RuleOutcomes.{axiom_theorem, term_rule_outcome, pair_rule_outcome}
use Rattle.hol_prelude_derivations.specs.declared.derivation.Derivation as derivations
use Rattle.hol_prelude_derivations.specs.declared.derivation.Derivation.{Derivation}

-- the journal has grown, the theory is the same, and the recorder made what the call answers
pub record GoesOn (old new : Journal) (result : Result Recorded Fault) : Type 0 where
  pub grown : IsGrown old new
  pub theory : new.theory ≡ old.theory
  pub made : IfOk result (IsMade new)

-- the recorder made each theorem of the list
pub record AreMade (journal : Journal) (all : List Recorded) : Type 0 where
  pub each : (number : ℕ) (made : Recorded) → slice_get all number ≡ Some made → IsMade journal made

abbrev pub theorems : List Recorded → List Theorem
theorems all = map (λ made. made.theorem) all

-- AP_TERM: from x = y, f x = f y
abbrev pub ap_term_of : Theory → TermSketch → Theorem → Result Theorem Fault
ap_term_of theory function theorem =
    followed (term_outcome function) (λ function.
    followed (refl_outcome theory function) (λ reflexive. mk_comb_outcome theory reflexive theorem))

-- AP_THM: from f = g, f x = g x
abbrev pub ap_thm_of : Theory → Theorem → TermSketch → Result Theorem Fault
ap_thm_of theory theorem argument =
    followed (term_outcome argument) (λ argument.
    followed (refl_outcome theory argument) (λ reflexive. mk_comb_outcome theory theorem reflexive))

-- EQ_MP of `(a = a) = (b = a)` and `a = a`: the relation, a, and the theorem a = b
abbrev pub turned : Theory → NamedTerm → NamedTerm → Theorem → Result Theorem Fault
turned theory relation left theorem =
    followed (refl_outcome theory relation) (λ relation.
    followed (mk_comb_outcome theory relation theorem) (λ applied.
    followed (refl_outcome theory left) (λ reflexive.
    followed (mk_comb_outcome theory applied reflexive) (λ sides. eq_mp_outcome theory sides reflexive))))

-- SYM: from a = b, b = a
abbrev pub sym_of : Theory → Theorem → Result Theorem Fault
sym_of theory theorem =
    given (dest_combination theorem.conclusion) NotEquation (λ sides.
    given (dest_combination sides.0) NotEquation (λ parts. turned theory parts.0 parts.1 theorem))

-- EQ_MP of REFL of the conclusion, and a theorem without hypotheses of this image
abbrev pub renamed : Theory → Nameless → NamedTerm → Result Theorem Fault
renamed theory instance conclusion =
    followed (refl_outcome theory conclusion) (λ reflexive.
    given (dest_equation reflexive.conclusion) NotEquation (λ sides.
    unless (same_term (image sides.0) instance) NotAlpha
    (Ok (record { theory = theory; hypotheses = reflexive.hypotheses; conclusion = sides.1 }))))

abbrev pub inst_of : Theory → TermSketch → TermSketch → Theorem → TermSketch → Result Theorem Fault
inst_of theory new old theorem conclusion =
    followed (term_outcome new) (λ new.
    followed (term_outcome old) (λ old.
    followed (term_outcome conclusion) (λ conclusion.
    unless (nat_eq (length theorem.hypotheses) 0) BadShape
    (refused (inst_refusal theory ((new, old) ∷ []) theorem)
    (renamed theory (put_all ((new, old) ∷ []) (image theorem.conclusion)) conclusion)))))

abbrev pub inst_type_of : Theory → TypeSketch → TypeSketch → Theorem → TermSketch → Result Theorem Fault
inst_type_of theory new old theorem conclusion =
    followed (type_outcome new) (λ new.
    followed (type_outcome old) (λ old.
    followed (term_outcome conclusion) (λ conclusion.
    unless (nat_eq (length theorem.hypotheses) 0) BadShape
    (refused (inst_type_refusal theory ((new, old) ∷ []) theorem)
    (renamed theory (instantiate_all ((new, old) ∷ []) (image theorem.conclusion)) conclusion)))))

-- what the derivation gives over a theory, from earlier theorems
abbrev pub derived_outcome : Theory → List Theorem → Derivation → Result Theorem Fault
derived_outcome theory earlier (derivations.Earlier number) = given (slice_get earlier number) BadShape (λ theorem. Ok theorem)
derived_outcome theory earlier (derivations.Axiom rule) = Ok (axiom_theorem rule theory)
derived_outcome theory earlier (derivations.Term rule term) = followed (term_outcome term.now) (λ term. term_rule_outcome rule theory term)
derived_outcome theory earlier (derivations.Pair' rule p first q second) =
    followed (derived_outcome theory earlier first) (λ first.
    followed (derived_outcome theory earlier second) (λ second.
    pair_rule_outcome rule theory first second))
derived_outcome theory earlier (derivations.Sym' p theorem) = followed (derived_outcome theory earlier theorem) (λ theorem. sym_of theory theorem)
derived_outcome theory earlier (derivations.ApTerm' function p theorem) =
    followed (derived_outcome theory earlier theorem) (λ theorem. ap_term_of theory function.now theorem)
derived_outcome theory earlier (derivations.ApThm' p theorem argument) =
    followed (derived_outcome theory earlier theorem) (λ theorem. ap_thm_of theory theorem argument.now)
derived_outcome theory earlier (derivations.Abs' variable p theorem) =
    followed (derived_outcome theory earlier theorem) (λ theorem.
    followed (term_outcome variable.now) (λ variable. abs_outcome theory variable theorem))
derived_outcome theory earlier (derivations.Inst' new old p theorem conclusion) =
    followed (derived_outcome theory earlier theorem) (λ theorem. inst_of theory new.now old.now theorem conclusion.now)
derived_outcome theory earlier (derivations.InstType' new old p theorem conclusion) =
    followed (derived_outcome theory earlier theorem) (λ theorem. inst_type_of theory new.now old.now theorem conclusion.now)
