-- A conversion and a refiner are refused for want of steps only where none is left.
use Rattle.std.proofs.Common.{◌≡◌, ℕ, List, [], ◌∷◌, Bool, true, false, not, refl, sym, ◌∙◌, ap, subst, inl, inr, Option, Some, None, Result, Ok, Err, if◌then◌else◌}
use Rattle.std.specs.Option.{is_some}
use Rattle.hol_model.specs.declared.fault.Fault.{Fault}
use Rattle.hol_model.specs.declared.fault.Fault.TheVariants.{Memory, TooLarge, StepLimit, FreeInHypothesis, ConvFails, InvalidStep, NotEquation, NotAlpha, TypeMismatch, NotVariable, UnknownType}
use Rattle.hol_model.specs.declared.fault.Fault.TheVariants.{UnknownConst, NotInstance, BadShape}
use Rattle.hol_model.specs.Terms.NamedTerm.{NamedTerm, variable, combination, abstraction, equation, type_of, dest_variable, is_within_limits}
use Rattle.hol_model.specs.Terms.Nameless.{Nameless, image}
use Rattle.hol_model.specs.Logic.Theory.{Theory}
use Rattle.hol_model.specs.Logic.KnownTerm.{knows_type, knows_types, knows_constants, has_instances}
use Rattle.hol_model.specs.Kernel.Outcome.{unless, given, refused}
use Rattle.hol_model.specs.Texts.Reading.{◌>>=◌}
use Rattle.hol_model.specs.Kernel.Theorem.{Theorem, are_alpha_equivalent}
use Rattle.hol_model.specs.Kernel.Rules.{dest_equation, is_free_in_hypotheses, first_unknown, refl_outcome, trans_outcome, mk_comb_outcome, abs_outcome}
use Rattle.hol_model.specs.Derived.DerivedRules.{Stated, AnswersStated}
use Rattle.hol_model.specs.Goals.Goals.{Goal}
use Rattle.hol_model.specs.Goals.ValidSteps.{Step}
use Rattle.hol_model.specs.Goals.Replays.{Store, IsWant}
use Rattle.hol_model.specs.Rewrites.Rewriting.{AnswersRules, Rewrites, none_matches, rewrites, instance_is_too_large}
use Rattle.hol_model.specs.Refining.HostFunctions.{HostEquation, AnswersHostEquation, AnswersHostStep, HostConversions}
use Rattle.hol_model.specs.Refining.Conversions.{Conversion, Conversions, Converts, ConvertsOn, redex_outcome, binder_fault, binder_answer, of_body, of_parts, of_argument, of_function}
use Rattle.hol_model.specs.Refining.Conversions.{if_changed, no_step_is_left, all_converts, no_converts, beta_converts, theorem_is_unknown, has_no_rules, theorem_rewrites, rules_rewrite}
use Rattle.hol_model.specs.Refining.Conversions.{host_is_unknown, host_fails, host_converts, has_no_such_part, is_too_deep, argument_converts, function_converts, body_converts}
use Rattle.hol_model.specs.Refining.Conversions.{same_without_parts, first_part_is_refused, parts_convert, only_part_converts, first_is_refused, first_goes_on, first_answers, first_is_not_caught}
use Rattle.hol_model.specs.Refining.Conversions.{last_is_refused, first_is_caught, converts_if_changed, converts_as_defined, finds_no_memory, ends, next_is_refused, is_not_joined, is_joined}
use Rattle.hol_model.specs.Refining.Conversions.{goes_on_without_memory}
use Rattle.hol_laws_refiners.specs.Laws.{StopsAtEnd}

abbrev is_step_limit : Fault → Bool
is_step_limit StepLimit = true
is_step_limit _ = false

-- no refusal for want of steps
abbrev is_starved : {A : Type 0} → Result A Fault → Bool
is_starved (Ok x) = false
is_starved (Err fault) = is_step_limit fault

pub record Never {A : Type 0} (answer : Result A Fault) : Type 0 where
  pub other : is_starved answer ≡ false

pub never-ok : {A : Type 0} {x : A} → Never {A = A} (Ok x)
never-ok {A = A} {x = x} = record { other = refl }

pub never-err : {A : Type 0} {fault : Fault} → is_step_limit fault ≡ false → Never {A = A} (Err fault)
never-err {A = A} {fault = fault} is = record { other = is }

abbrev pub NeverOption : Option Fault → Type 0
NeverOption None = Unit {0}
NeverOption (Some fault) = is_step_limit fault ≡ false

pub never-stops : {A : Type 0} (answer : Result A Fault) (left : ℕ) → Never answer → StopsAtEnd answer left
never-stops {A = A} answer left never is = let wrong : is_step_limit StepLimit ≡ false = (subst (λ (a : Result A Fault). Never a) is never).other in cc

pub never-other : (fault : Fault) (same : Fault) → fault ≡ same → is_step_limit same ≡ false → is_step_limit fault ≡ false
never-other fault same is other = subst (λ (f : Fault). is_step_limit f ≡ false) (sym is) other

pub never-want : (fault : Fault) (room : Bool) → IsWant fault room → is_step_limit fault ≡ false
never-want fault room (inl is) = never-other fault Memory is refl
never-want fault room (inr is) = never-other fault TooLarge is.0 refl

-- ---- outcomes

pub never-unless : {A : Type 0} (test : Bool) (fault : Fault) (next : Result A Fault) → is_step_limit fault ≡ false → Never next → Never (unless test fault next)
never-unless {A = A} true fault next other never = never
never-unless {A = A} false fault next other never = never-err other

pub never-given : {A B : Type 0} (found : Option A) (fault : Fault) (next : A → Result B Fault) → is_step_limit fault ≡ false → ((x : A) → Never (next x)) → Never (given found fault next)
never-given {A = A} {B = B} None fault next other never = never-err other
never-given {A = A} {B = B} (Some x) fault next other never = never x

pub never-refused : {A : Type 0} (found : Option Fault) (next : Result A Fault) → NeverOption found → Never next → Never (refused found next)
never-refused {A = A} None next other never = never
never-refused {A = A} (Some fault) next other never = never-err other

never-then : {A B : Type 0} (answer : Result A Fault) (next : A → Result B Fault) → Never answer → ((x : A) → Never (next x)) → Never (answer >>= next)
never-then {A = A} {B = B} (Ok x) next never others = others x
never-then {A = A} {B = B} (Err fault) next never others = never-err never.other

abbrev fault_in : {B : Type 0} → Result B Fault → Fault
fault_in (Ok x) = Memory
fault_in (Err fault) = fault

pub stops-over : {A B : Type 0} (fault : Fault) (left : ℕ) (answer : Result A Fault) → answer ≡ Err fault → StopsAtEnd answer left → (other : Result B Fault)
    → other ≡ Err fault → StopsAtEnd other left
stops-over {A = A} {B = B} fault left answer is stops other js e = stops (is ∙ ap (λ (r : Result B Fault). Err (fault_in r)) (sym js ∙ e))

-- where what comes first is refused for want of steps, none is left
stops-then : {A B : Type 0} (answer : Result A Fault) (next : A → Result B Fault) (left : ℕ) → StopsAtEnd answer left → ((x : A) → Never (next x)) → StopsAtEnd (answer >>= next) left
stops-then {A = A} {B = B} (Ok x) next left stops others = never-stops (next x) left (others x)
stops-then {A = A} {B = B} (Err fault) next left stops others = stops-over fault left (Err fault) refl stops (Err fault) refl

pub unknown-never : (theory : Theory) (term : NamedTerm) → NeverOption (first_unknown theory term)
unknown-never theory term = go (knows_types theory term) (knows_constants theory term) (has_instances theory term)
  where
    go : (a b d : Bool) → NeverOption (if not a then Some UnknownType else (if not b then Some UnknownConst else (if not d then Some NotInstance else None)))
    go false b d = refl
    go true false d = refl
    go true true false = refl
    go true true true = (tt {0})

refl-never : (theory : Theory) (t : NamedTerm) → Never (refl_outcome theory t)
refl-never theory t = never-refused (first_unknown theory t) _ (unknown-never theory t) (never-unless _ TooLarge _ refl never-ok)

trans-never : (theory : Theory) (a b : Theorem) → Never (trans_outcome theory a b)
trans-never theory a b =
    never-given (dest_equation a.conclusion) NotEquation _ refl (λ left. never-given (dest_equation b.conclusion) NotEquation _ refl (λ right.
    never-unless (are_alpha_equivalent left.1 right.0) NotAlpha _ refl (never-unless (is_within_limits (equation left.0 right.1)) TooLarge _ refl never-ok)))

mk_comb-never : (theory : Theory) (a b : Theorem) → Never (mk_comb_outcome theory a b)
mk_comb-never theory a b =
    never-given (dest_equation a.conclusion) NotEquation _ refl (λ f. never-given (dest_equation b.conclusion) NotEquation _ refl (λ x.
    never-unless (is_some (type_of (combination f.0 x.0))) TypeMismatch _ refl
    (never-unless (is_within_limits (equation (combination f.0 x.0) (combination f.1 x.1))) TooLarge _ refl never-ok)))

abs-never : (theory : Theory) (binder : NamedTerm) (a : Theorem) → Never (abs_outcome theory binder a)
abs-never theory binder a =
    never-given (dest_variable binder) NotVariable _ refl (λ bound. never-given (dest_equation a.conclusion) NotEquation _ refl (λ sides.
    never-unless (knows_type theory bound.1) UnknownType _ refl (never-unless (not (is_free_in_hypotheses bound.0 bound.1 a.hypotheses)) FreeInHypothesis _ refl
    (never-unless (is_within_limits (equation (abstraction bound.0 bound.1 sides.0) (abstraction bound.0 bound.1 sides.1))) TooLarge _ refl never-ok))))

binder-never : (answer : Result Theorem Fault) → Never answer → Never (binder_answer answer)
binder-never (Ok theorem) never = never-ok
binder-never (Err fault) never = never-err (go fault never.other)
  where
    go : (f : Fault) → is_step_limit f ≡ false → is_step_limit (binder_fault f) ≡ false
    go FreeInHypothesis other = refl
    go f other = other

redex-never : (theory : Theory) (t : NamedTerm) → Never (redex_outcome theory t)
redex-never theory t = never-unless _ ConvFails _ refl (never-given _ BadShape _ refl (λ redex. never-refused (first_unknown theory t) _ (unknown-never theory t) never-ok))

stated-never : (answer : Result Theorem Fault) (arguments : List Nameless) (outcome : Result Stated Fault) → Never outcome → AnswersStated answer arguments outcome → Never answer
stated-never (Ok theorem) arguments outcome never answers = never-ok
stated-never (Err fault) arguments (Ok stated) never (inl is) = never-err (never-other fault Memory is refl)
stated-never (Err fault) arguments (Ok stated) never (inr is) = never-err (never-other fault TooLarge is.0 refl)
stated-never (Err fault) arguments (Err refusal) never (inl is) = never-err (never-other fault Memory is refl)
stated-never (Err fault) arguments (Err refusal) never (inr is) = never-err (never-other fault refusal is never.other)

pub rules-never : (theorem : Theorem) (fault : Fault) → AnswersRules theorem (Err fault) → is_step_limit fault ≡ false
rules-never theorem fault (inl is) = never-other fault Memory is refl
rules-never theorem fault (inr is) = never-other fault TooLarge is.0 refl

rewrites-never : (rules : List Theorem) (t : NamedTerm) (answer : Result Theorem Fault) → Rewrites rules t answer → Never answer
rewrites-never rules t (Ok theorem) made = never-ok
rewrites-never rules t (Err fault) made = go made
  where
    go : {f : Result Theorem Fault} → Rewrites rules t f → Never f
    go (none_matches none) = never-err refl
    go (rewrites first fits is) = never-ok
    go (instance_is_too_large first fits) = never-err refl

host-never : (theory : Theory) (store : Store) (t : NamedTerm) (answered : HostEquation) (answer : Result Theorem Fault) → AnswersHostEquation theory store t answered answer → Never answer
host-never theory store t answered (Ok theorem) answers = never-ok
host-never theory store t answered (Err fault) (inl is) = never-err (never-other fault InvalidStep is.0 refl)
host-never theory store t answered (Err fault) (inr want) = never-err (never-want fault _ want)

pub host_step-never : (theory : Theory) (store : Store) (goal : Goal) (answered : Step) (answer : Result Step Fault) → AnswersHostStep theory store goal answered answer → Never answer
host_step-never theory store goal answered (Ok step) answers = never-ok
host_step-never theory store goal answered (Err fault) (inl is) = never-err (never-other fault InvalidStep is.0 refl)
host_step-never theory store goal answered (Err fault) (inr want) = never-err (never-want fault _ want)

-- ---- conversions

-- the answer that was found is the one that stops
pub stops-as : {A : Type 0} (answer other : Result A Fault) (left : ℕ) → answer ≡ other → StopsAtEnd other left → StopsAtEnd answer left
stops-as {A = A} answer other left is stops e = stops (sym is ∙ e)

module _ (theory : Theory) (store : Store) (hosts : HostConversions) where
  mutual
    pub converts-stops : {depth steps left : ℕ} {c : Conversion} {t : NamedTerm} {answer : Result Theorem Fault} → Converts theory store hosts depth steps c t answer left
        → StopsAtEnd answer left
    converts-stops (no_step_is_left is) = λ e. refl
    converts-stops (all_converts {left} {t}) = never-stops _ left (refl-never theory t)
    converts-stops (no_converts {left}) = never-stops _ left (never-err refl)
    converts-stops (beta_converts {left} {t} {answer} is) = never-stops answer left (stated-never answer (image t ∷ []) (redex_outcome theory t) (redex-never theory t) is)
    converts-stops (theorem_is_unknown {left} is) = never-stops _ left (never-err refl)
    converts-stops (has_no_rules {left} {theorem} {fault} is refuses) = never-stops _ left (never-err (rules-never theorem fault refuses))
    converts-stops (theorem_rewrites {left} {t} {rules} {answer} is there made) = never-stops answer left (rewrites-never rules t answer made)
    converts-stops (rules_rewrite {left} {rules} {t} {answer} made) = never-stops answer left (rewrites-never rules t answer made)
    converts-stops (host_is_unknown {left} lacks) = never-stops _ left (never-err refl)
    converts-stops (host_fails {left} is fails) = never-stops _ left (never-err refl)
    converts-stops (host_converts {left} {t} {answer} answered is says made) = never-stops answer left (host-never theory store t answered answer made)
    converts-stops (has_no_such_part {left} lacks) = never-stops _ left (never-err refl)
    converts-stops (is_too_deep {left} down deep) = never-stops _ left (never-err refl)
    converts-stops (argument_converts {left} {f} {part} {answer} room r is) =
        stops-as answer (of_argument theory f part) left is (stops-then part _ left (converts-stops r)
        (λ second. never-then (refl_outcome theory f) _ (refl-never theory f) (λ first. mk_comb-never theory first second)))
    converts-stops (function_converts {left} {x} {part} {answer} room r is) =
        stops-as answer (of_function theory x part) left is (stops-then part _ left (converts-stops r)
        (λ first. never-then (refl_outcome theory x) _ (refl-never theory x) (λ second. mk_comb-never theory first second)))
    converts-stops (body_converts {left} {name} {ty} {part} {answer} room r is) =
        stops-as answer (of_body theory name ty part) left is (stops-then part _ left (converts-stops r)
        (λ theorem. binder-never (abs_outcome theory (variable name ty) theorem) (abs-never theory (variable name ty) theorem)))
    converts-stops (same_without_parts {left} {t} is) = never-stops _ left (refl-never theory t)
    converts-stops (first_part_is_refused room r) = converts-stops r
    converts-stops (parts_convert {left} {first} {second} {answer} room r s is) =
        stops-as answer (of_parts theory (Ok first) second) left is (stops-then second _ left (converts-stops s) (λ other. mk_comb-never theory first other))
    converts-stops (only_part_converts r) = converts-stops r
    converts-stops (first_is_refused r) = converts-stops r
    converts-stops (first_goes_on r s) = converts_on-stops s
    converts-stops (first_answers {left} r) = never-stops _ left never-ok
    converts-stops (first_is_not_caught r passes) = converts-stops r
    converts-stops (last_is_refused r) = converts-stops r
    converts-stops (first_is_caught r caught s) = converts-stops s
    converts-stops (converts_if_changed {left} {t} {made} {answer} r is) =
        stops-as answer (if_changed t made) left is (stops-then made _ left (converts-stops r)
        (λ theorem. never-given (dest_equation theorem.conclusion) ConvFails _ refl (λ sides. never-unless (not (are_alpha_equivalent sides.1 t)) ConvFails _ refl never-ok)))
    converts-stops (converts_as_defined is r) = converts-stops r
    converts-stops (finds_no_memory {left} le) = never-stops _ left (never-err refl)

    pub converts_on-stops : {depth steps left : ℕ} {theorem : Theorem} {cs : Conversions} {answer : Result Theorem Fault}
        → ConvertsOn theory store hosts depth steps theorem cs answer left → StopsAtEnd answer left
    converts_on-stops (ends {left}) = never-stops _ left never-ok
    converts_on-stops (next_is_refused is r) = converts-stops r
    converts_on-stops (is_not_joined {left} {theorem} {next} {fault} is r fails) = never-stops (Err fault) left (subst Never fails (trans-never theory theorem next))
    converts_on-stops (is_joined is r joined s) = converts_on-stops s
    converts_on-stops (goes_on_without_memory {left} le) = never-stops _ left (never-err refl)
