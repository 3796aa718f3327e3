-- Conversions: expressions that prove of a term that it equals another (Paulson's, in HOL Light's words), and what each may
-- answer on a term, with the steps that it spends.
use Rattle.std.specs.Prelude.{◌≡◌, ℕ, suc, ◌<◌, ◌≤◌, List, [], ◌∷◌, Bool, true, false, not, Contains, Option, Some, None, Result, Ok, Err}
use Rattle.std.specs.Option.{is_some}
use Rattle.hol_model.specs.declared.fault.Fault.{Fault}
use Rattle.hol_model.specs.declared.fault.Fault.TheVariants.{Memory, TooLarge, FreeInHypothesis, ConvFails, StepLimit, UnknownName}
use Rattle.hol_model.specs.declared.limits.TheConstants.{DESCENTS_LIMIT}
use Rattle.hol_model.specs.Terms.HolType.{HolType}
use Rattle.hol_model.specs.Terms.NamedTerm.{NamedTerm, variable, constant, combination, abstraction}
use Rattle.hol_model.specs.Terms.Nameless.{image}
use Rattle.hol_model.specs.Logic.Theory.{Theory}
use Rattle.hol_model.specs.Logic.NamedLogic.{dest_redex}
use Rattle.hol_model.specs.Kernel.Outcome.{unless, given}
use Rattle.hol_model.specs.Texts.Reading.{◌>>=◌}
use Rattle.hol_model.specs.Kernel.Theorem.{Theorem, are_alpha_equivalent}
use Rattle.hol_model.specs.Kernel.Rules.{dest_equation, refl_outcome, trans_outcome, mk_comb_outcome, abs_outcome}
use Rattle.hol_model.specs.Derived.DerivedRules.{Stated, AnswersStated, beta_conv_outcome}
use Rattle.hol_model.specs.Rewrites.Rewriting.{Rewrites, AnswersRules}
use Rattle.hol_model.specs.Goals.Replays.{Store}
use Rattle.hol_model.specs.Refining.HostFunctions.{HostEquation, HostConversions, AnswersHostEquation}

mutual
  pub data Conversion : Type 0 where
    all_conv : Conversion
    no_conv : Conversion
    beta_conv : Conversion
    -- by the rules of a stored theorem
    rewr_conv : List ℕ → Conversion
    -- by rules that are there
    rules_conv : List Theorem → Conversion
    -- a host's
    host_conv : List ℕ → Conversion
    -- c THENC .. THENC ..
    thenc : Conversion → Conversions → Conversion
    -- c ORELSEC .. ORELSEC ..
    orelsec : Conversion → Conversions → Conversion
    repeatc : Conversion → Conversion
    try_conv : Conversion → Conversion
    -- refused where nothing changes
    changed_conv : Conversion → Conversion
    rand_conv : Conversion → Conversion
    rator_conv : Conversion → Conversion
    abs_conv : Conversion → Conversion
    sub_conv : Conversion → Conversion
    depth_conv : Conversion → Conversion
    once_depth_conv : Conversion → Conversion
    top_depth_conv : Conversion → Conversion

  pub data Conversions : Type 0 where
    no_more : Conversions
    more : Conversion → Conversions → Conversions

-- the refusals that ORELSEC, TRY_CONV and REPEATC catch, and ORELSE, TRY and REPEAT
abbrev pub is_caught : Fault → Bool
is_caught Memory = false
is_caught TooLarge = false
is_caught StepLimit = false
is_caught _ = true

-- ---- the conversions that spend a step

-- a step is spent before anything else; SUB_CONV spends one at a term without parts
abbrev pub spends_step : Conversion → NamedTerm → Bool
spends_step all_conv term = true
spends_step no_conv term = true
spends_step beta_conv term = true
spends_step (rewr_conv name) term = true
spends_step (rules_conv rules) term = true
spends_step (host_conv name) term = true
spends_step (sub_conv conversion) (variable name ty) = true
spends_step (sub_conv conversion) (constant name ty) = true
spends_step _ term = false

-- BETA_CONV
abbrev pub redex_outcome : Theory → NamedTerm → Result Stated Fault
redex_outcome theory term = unless (is_some (dest_redex term)) ConvFails (beta_conv_outcome theory term)

-- ---- the conversions that go down

-- the conversion goes down to a part of the term
abbrev pub goes_down : Conversion → NamedTerm → Bool
goes_down (rand_conv conversion) (combination function argument) = true
goes_down (rator_conv conversion) (combination function argument) = true
goes_down (abs_conv conversion) (abstraction name ty body) = true
goes_down (sub_conv conversion) (combination function argument) = true
goes_down (sub_conv conversion) (abstraction name ty body) = true
goes_down _ term = false

-- the conversion asks for a part that the term does not have
abbrev pub lacks_part : Conversion → NamedTerm → Bool
lacks_part (rand_conv conversion) (combination function argument) = false
lacks_part (rand_conv conversion) term = true
lacks_part (rator_conv conversion) (combination function argument) = false
lacks_part (rator_conv conversion) term = true
lacks_part (abs_conv conversion) (abstraction name ty body) = false
lacks_part (abs_conv conversion) term = true
lacks_part _ term = false

-- a variable that is free in a hypothesis is a refusal of the conversion
abbrev pub binder_fault : Fault → Fault
binder_fault FreeInHypothesis = ConvFails
binder_fault fault = fault

abbrev pub binder_answer : Result Theorem Fault → Result Theorem Fault
binder_answer (Ok theorem) = Ok theorem
binder_answer (Err fault) = Err (binder_fault fault)

-- ABS, of what was proved of the body
abbrev pub of_body : Theory → List ℕ → HolType → Result Theorem Fault → Result Theorem Fault
of_body theory name ty body = body >>= λ theorem. binder_answer (abs_outcome theory (variable name ty) theorem)

-- MK_COMB of what was proved of the function and of the argument
abbrev pub of_parts : Theory → Result Theorem Fault → Result Theorem Fault → Result Theorem Fault
of_parts theory function argument = function >>= λ first. argument >>= λ second. mk_comb_outcome theory first second

-- the same for a part that stays; REFL comes last
abbrev pub of_argument : Theory → NamedTerm → Result Theorem Fault → Result Theorem Fault
of_argument theory function argument = argument >>= λ second. of_parts theory (refl_outcome theory function) (Ok second)

abbrev pub of_function : Theory → NamedTerm → Result Theorem Fault → Result Theorem Fault
of_function theory argument function = function >>= λ first. of_parts theory (Ok first) (refl_outcome theory argument)

-- what was proved, where it is not that the term equals itself
abbrev pub if_changed : NamedTerm → Result Theorem Fault → Result Theorem Fault
if_changed term answer =
    answer >>= λ theorem. given (dest_equation theorem.conclusion) ConvFails (λ sides. unless (not (are_alpha_equivalent sides.1 term)) ConvFails (Ok theorem))

-- ---- the conversions that stand for others

abbrev pub one_more : Conversion → Conversions
one_more conversion = more conversion no_more

abbrev pub defined_as : Conversion → Option Conversion
defined_as (repeatc c) = Some (orelsec (thenc c (one_more (repeatc c))) (one_more all_conv))
defined_as (try_conv c) = Some (orelsec c (one_more all_conv))
defined_as (depth_conv c) = Some (thenc (sub_conv (depth_conv c)) (one_more (repeatc c)))
defined_as (once_depth_conv c) = Some (orelsec c (more (sub_conv (once_depth_conv c)) (one_more all_conv)))
defined_as (top_depth_conv c) =
    Some (thenc (repeatc c) (one_more (try_conv (thenc (changed_conv (sub_conv (top_depth_conv c))) (one_more (try_conv (thenc c (one_more (top_depth_conv c)))))))))
defined_as _ = None

-- ---- what a conversion may answer

module _ (theory : Theory) (store : Store) (hosts : HostConversions) where
  mutual
    -- On the term, with so many descents open and so many steps left, the conversion may answer this and leave so many steps,
    -- where the host has these conversions.
    pub data Converts : ℕ → ℕ → Conversion → NamedTerm → Result Theorem Fault → ℕ → Type 0 where
      -- a step is spent before anything else
      no_step_is_left : {depth : ℕ} {c : Conversion} {t : NamedTerm} → spends_step c t ≡ true → Converts depth 0 c t (Err StepLimit) 0
      all_converts : {depth left : ℕ} {t : NamedTerm} → Converts depth (suc left) all_conv t (refl_outcome theory t) left
      no_converts : {depth left : ℕ} {t : NamedTerm} → Converts depth (suc left) no_conv t (Err ConvFails) left
      beta_converts : {depth left : ℕ} {t : NamedTerm} {answer : Result Theorem Fault} → AnswersStated answer (image t ∷ []) (redex_outcome theory t)
          → Converts depth (suc left) beta_conv t answer left
      theorem_is_unknown : {depth left : ℕ} {name : List ℕ} {t : NamedTerm} → store.named name ≡ None
          → Converts depth (suc left) (rewr_conv name) t (Err UnknownName) left
      has_no_rules : {depth left : ℕ} {name : List ℕ} {t : NamedTerm} {theorem : Theorem} {fault : Fault} → store.named name ≡ Some theorem
          → AnswersRules theorem (Err fault) → Converts depth (suc left) (rewr_conv name) t (Err fault) left
      theorem_rewrites : {depth left : ℕ} {name : List ℕ} {t : NamedTerm} {theorem : Theorem} {rules : List Theorem} {answer : Result Theorem Fault}
          → store.named name ≡ Some theorem → AnswersRules theorem (Ok rules) → Rewrites rules t answer
          → Converts depth (suc left) (rewr_conv name) t answer left
      rules_rewrite : {depth left : ℕ} {rules : List Theorem} {t : NamedTerm} {answer : Result Theorem Fault} → Rewrites rules t answer
          → Converts depth (suc left) (rules_conv rules) t answer left
      -- a host's conversion
      host_is_unknown : {depth left : ℕ} {name : List ℕ} {t : NamedTerm} → ¬ (Contains hosts.names name)
          → Converts depth (suc left) (host_conv name) t (Err UnknownName) left
      host_fails : {depth left : ℕ} {name : List ℕ} {t : NamedTerm} → Contains hosts.names name → hosts.converts name t None
          → Converts depth (suc left) (host_conv name) t (Err ConvFails) left
      host_converts : {depth left : ℕ} {name : List ℕ} {t : NamedTerm} {answer : Result Theorem Fault} (answered : HostEquation) → Contains hosts.names name
          → hosts.converts name t (Some answered) → AnswersHostEquation theory store t answered answer → Converts depth (suc left) (host_conv name) t answer left
      -- parts of the term
      has_no_such_part : {depth left : ℕ} {c : Conversion} {t : NamedTerm} → lacks_part c t ≡ true → Converts depth left c t (Err ConvFails) left
      is_too_deep : {depth left : ℕ} {c : Conversion} {t : NamedTerm} → goes_down c t ≡ true → DESCENTS_LIMIT ≤ depth
          → Converts depth left c t (Err TooLarge) left
      argument_converts : {depth steps left : ℕ} {c : Conversion} {f x : NamedTerm} {part answer : Result Theorem Fault} → depth < DESCENTS_LIMIT
          → Converts (suc depth) steps c x part left → answer ≡ of_argument theory f part
          → Converts depth steps (rand_conv c) (combination f x) answer left
      function_converts : {depth steps left : ℕ} {c : Conversion} {f x : NamedTerm} {part answer : Result Theorem Fault} → depth < DESCENTS_LIMIT
          → Converts (suc depth) steps c f part left → answer ≡ of_function theory x part
          → Converts depth steps (rator_conv c) (combination f x) answer left
      body_converts : {depth steps left : ℕ} {c : Conversion} {name : List ℕ} {ty : HolType} {body : NamedTerm} {part answer : Result Theorem Fault}
          → depth < DESCENTS_LIMIT → Converts (suc depth) steps c body part left → answer ≡ of_body theory name ty part
          → Converts depth steps (abs_conv c) (abstraction name ty body) answer left
      same_without_parts : {depth left : ℕ} {c : Conversion} {t : NamedTerm} → spends_step (sub_conv c) t ≡ true
          → Converts depth (suc left) (sub_conv c) t (refl_outcome theory t) left
      first_part_is_refused : {depth steps left : ℕ} {c : Conversion} {f x : NamedTerm} {fault : Fault} → depth < DESCENTS_LIMIT
          → Converts (suc depth) steps c f (Err fault) left → Converts depth steps (sub_conv c) (combination f x) (Err fault) left
      parts_convert : {depth steps mid left : ℕ} {c : Conversion} {f x : NamedTerm} {first : Theorem} {second answer : Result Theorem Fault}
          → depth < DESCENTS_LIMIT → Converts (suc depth) steps c f (Ok first) mid → Converts (suc depth) mid c x second left
          → answer ≡ of_parts theory (Ok first) second → Converts depth steps (sub_conv c) (combination f x) answer left
      only_part_converts : {depth steps left : ℕ} {c : Conversion} {name : List ℕ} {ty : HolType} {body : NamedTerm} {answer : Result Theorem Fault}
          → Converts depth steps (abs_conv c) (abstraction name ty body) answer left
          → Converts depth steps (sub_conv c) (abstraction name ty body) answer left
      -- c THENC ..
      first_is_refused : {depth steps left : ℕ} {c : Conversion} {cs : Conversions} {t : NamedTerm} {fault : Fault}
          → Converts depth steps c t (Err fault) left → Converts depth steps (thenc c cs) t (Err fault) left
      first_goes_on : {depth steps mid left : ℕ} {c : Conversion} {cs : Conversions} {t : NamedTerm} {theorem : Theorem} {answer : Result Theorem Fault}
          → Converts depth steps c t (Ok theorem) mid → ConvertsOn depth mid theorem cs answer left → Converts depth steps (thenc c cs) t answer left
      -- c ORELSEC ..
      first_answers : {depth steps left : ℕ} {c : Conversion} {cs : Conversions} {t : NamedTerm} {theorem : Theorem}
          → Converts depth steps c t (Ok theorem) left → Converts depth steps (orelsec c cs) t (Ok theorem) left
      first_is_not_caught : {depth steps left : ℕ} {c : Conversion} {cs : Conversions} {t : NamedTerm} {fault : Fault}
          → Converts depth steps c t (Err fault) left → is_caught fault ≡ false → Converts depth steps (orelsec c cs) t (Err fault) left
      last_is_refused : {depth steps left : ℕ} {c : Conversion} {t : NamedTerm} {fault : Fault} → Converts depth steps c t (Err fault) left
          → Converts depth steps (orelsec c no_more) t (Err fault) left
      first_is_caught : {depth steps mid left : ℕ} {c d : Conversion} {cs : Conversions} {t : NamedTerm} {fault : Fault} {answer : Result Theorem Fault}
          → Converts depth steps c t (Err fault) mid → is_caught fault ≡ true → Converts depth mid (orelsec d cs) t answer left
          → Converts depth steps (orelsec c (more d cs)) t answer left
      -- others
      converts_if_changed : {depth steps left : ℕ} {c : Conversion} {t : NamedTerm} {made answer : Result Theorem Fault}
          → Converts depth steps c t made left → answer ≡ if_changed t made → Converts depth steps (changed_conv c) t answer left
      converts_as_defined : {depth steps left : ℕ} {c d : Conversion} {t : NamedTerm} {answer : Result Theorem Fault} → defined_as c ≡ Some d
          → Converts depth steps d t answer left → Converts depth steps c t answer left
      -- any may find no memory
      finds_no_memory : {depth steps left : ℕ} {c : Conversion} {t : NamedTerm} → left ≤ steps → Converts depth steps c t (Err Memory) left

    -- The conversions go on, one after another, from a theorem on its right side.
    pub data ConvertsOn : ℕ → ℕ → Theorem → Conversions → Result Theorem Fault → ℕ → Type 0 where
      ends : {depth left : ℕ} {theorem : Theorem} → ConvertsOn depth left theorem no_more (Ok theorem) left
      next_is_refused : {depth steps left : ℕ} {theorem : Theorem} {sides : NamedTerm × NamedTerm} {c : Conversion} {cs : Conversions} {fault : Fault}
          → dest_equation theorem.conclusion ≡ Some sides → Converts depth steps c sides.1 (Err fault) left
          → ConvertsOn depth steps theorem (more c cs) (Err fault) left
      is_not_joined : {depth steps left : ℕ} {theorem next : Theorem} {sides : NamedTerm × NamedTerm} {c : Conversion} {cs : Conversions} {fault : Fault}
          → dest_equation theorem.conclusion ≡ Some sides → Converts depth steps c sides.1 (Ok next) left
          → trans_outcome theory theorem next ≡ Err fault → ConvertsOn depth steps theorem (more c cs) (Err fault) left
      is_joined : {depth steps mid left : ℕ} {theorem next joined : Theorem} {sides : NamedTerm × NamedTerm} {c : Conversion} {cs : Conversions} {answer : Result Theorem Fault}
          → dest_equation theorem.conclusion ≡ Some sides → Converts depth steps c sides.1 (Ok next) mid
          → trans_outcome theory theorem next ≡ Ok joined → ConvertsOn depth mid joined cs answer left
          → ConvertsOn depth steps theorem (more c cs) answer left
      goes_on_without_memory : {depth steps left : ℕ} {theorem : Theorem} {cs : Conversions} → left ≤ steps
          → ConvertsOn depth steps theorem cs (Err Memory) left
