-- TOP_DEPTH_CONV on a known term is refused for what no expression catches.
use Rattle.std.proofs.Common.{◌≡◌, ℕ, [], Bool, true, false, refl, sym, ◌∙◌, subst, Option, Some, None, Result, Ok, Err}
use Rattle.hol_model.specs.declared.fault.Fault.{Fault}
use Rattle.hol_model.specs.declared.fault.Fault.TheVariants.{Memory, TooLarge, StepLimit}
use Rattle.hol_model.specs.Terms.HolType.{HolType}
use Rattle.hol_model.specs.Terms.NamedTerm.{NamedTerm, equation, is_within_limits}
use Rattle.hol_model.specs.Terms.Nameless.{image}
use Rattle.hol_model.specs.Logic.Theory.{Theory, IsKnown}
use Rattle.hol_model.specs.Kernel.Outcome.{unless, refused}
use Rattle.hol_model.specs.Kernel.Theorem.{Theorem}
use Rattle.hol_model.specs.Kernel.Rules.{dest_equation, first_unknown, refl_outcome, trans_outcome}
use Rattle.hol_model.specs.Goals.Replays.{Store, IsStoreOver}
use Rattle.hol_model.specs.Refining.HostFunctions.{HostConversions}
use Rattle.hol_model.specs.Refining.RefinerConditions.{HasLogic}
use Rattle.hol_model.specs.Refining.Conversions as conv
use Rattle.hol_model.specs.Refining.Conversions.{Conversion, Converts, ConvertsOn, all_conv, thenc, orelsec, repeatc, try_conv, top_depth_conv, no_more, more, one_more, defined_as, is_caught}
use Rattle.hol_laws_refiners.proofs.Equations.{conversions-answer-equations}
use Rattle.hol_laws_refiners.proofs.Repeating.{FailsUncaught, trans-uncaught}
use Rattle.hol_laws_refusals.specs.Faults.{IsUncaughtFault}
use Rattle.hol_laws_refusals.specs.KnownRules.{HasKnownRules}
use Rattle.hol_laws_refusals.specs.Laws.{RewritingRefuses}
use Rattle.hol_laws_refusals.proofs.Known.{same_pair, no-unknown}
use Rattle.hol_laws_refusals.proofs.ConversionRefusals.{converts-fine}

uncaught-listed : (fault : Fault) → is_caught fault ≡ false → IsUncaughtFault fault
uncaught-listed Memory passes = tt
uncaught-listed TooLarge passes = tt
uncaught-listed StepLimit passes = tt
uncaught-listed _ passes = cc

-- where it is a refusal, no expression catches it
record Passes (answer : Result Theorem Fault) : Type 0 where
  listed : (fault : Fault) → answer ≡ Err fault → IsUncaughtFault fault

passes-ok : (theorem : Theorem) → Passes (Ok theorem)
passes-ok theorem = record { listed = λ fault is. cc }

passes-err : (fault : Fault) → IsUncaughtFault fault → Passes (Err fault)
passes-err fault listed = record { listed = λ other is. let same : fault ≡ other = cc in subst IsUncaughtFault same listed }

fails-passes : (answer : Result Theorem Fault) → FailsUncaught answer → Passes answer
fails-passes (Ok theorem) uncaught = passes-ok theorem
fails-passes (Err fault) uncaught = passes-err fault (uncaught-listed fault uncaught)

same-definition : (c d : Conversion) → Some c ≡ Some d → c ≡ d
same-definition c d is = cc

module _ (theory : Theory) (has : HasLogic theory) where
  refl-passes : (t : NamedTerm) (ty : HolType) → IsKnown theory (image t) ty → Passes (refl_outcome theory t)
  refl-passes t ty known = go (first_unknown theory t) (is_within_limits (equation t t)) (no-unknown theory t ty known)
    where
      go : (unknown : Option Fault) (fits : Bool) → unknown ≡ None → Passes (refused unknown (unless fits TooLarge (Ok (record { theory = theory; hypotheses = []; conclusion = equation t t }))))
      go None true absent = passes-ok _
      go None false absent = passes-err TooLarge tt
      go (Some fault) fits absent = cc

  module _ (store : Store) (hosts : HostConversions) (over : IsStoreOver theory store) where
    all-passes : {depth steps left : ℕ} {t : NamedTerm} {answer : Result Theorem Fault} → Converts theory store hosts depth steps all_conv t answer left
        → (ty : HolType) → IsKnown theory (image t) ty → Passes answer
    all-passes (conv.no_step_is_left is) ty known = passes-err _ tt
    all-passes (conv.all_converts {t}) ty known = refl-passes t ty known
    all-passes (conv.has_no_such_part lacks) ty known = cc
    all-passes (conv.is_too_deep down deep) ty known = cc
    all-passes (conv.converts_as_defined is r) ty known = cc
    all-passes (conv.finds_no_memory le) ty known = passes-err _ tt

    -- ALL_CONV in the last place
    last-passes : {depth steps left : ℕ} {t : NamedTerm} {answer : Result Theorem Fault} → Converts theory store hosts depth steps (orelsec all_conv no_more) t answer left
        → (ty : HolType) → IsKnown theory (image t) ty → Passes answer
    last-passes (conv.no_step_is_left is) ty known = cc
    last-passes (conv.has_no_such_part lacks) ty known = cc
    last-passes (conv.is_too_deep down deep) ty known = cc
    last-passes (conv.first_answers r) ty known = passes-ok _
    last-passes (conv.first_is_not_caught r passes) ty known = all-passes r ty known
    last-passes (conv.last_is_refused r) ty known = all-passes r ty known
    last-passes (conv.converts_as_defined is r) ty known = cc
    last-passes (conv.finds_no_memory le) ty known = passes-err _ tt

    -- a conversion, or else ALL_CONV
    or_all-passes : {depth steps left : ℕ} {c : Conversion} {t : NamedTerm} {answer : Result Theorem Fault} → Converts theory store hosts depth steps (orelsec c (one_more all_conv)) t answer left
        → (ty : HolType) → IsKnown theory (image t) ty → Passes answer
    or_all-passes (conv.no_step_is_left is) ty known = cc
    or_all-passes (conv.has_no_such_part lacks) ty known = cc
    or_all-passes (conv.is_too_deep down deep) ty known = cc
    or_all-passes (conv.first_answers r) ty known = passes-ok _
    or_all-passes (conv.first_is_not_caught {fault} r passes) ty known = passes-err fault (uncaught-listed fault passes)
    or_all-passes (conv.first_is_caught r caught s) ty known = last-passes s ty known
    or_all-passes (conv.converts_as_defined is r) ty known = cc
    or_all-passes (conv.finds_no_memory le) ty known = passes-err _ tt

    repeat-passes : {depth steps left : ℕ} {c : Conversion} {t : NamedTerm} {answer : Result Theorem Fault} → Converts theory store hosts depth steps (repeatc c) t answer left
        → (ty : HolType) → IsKnown theory (image t) ty → Passes answer
    repeat-passes (conv.no_step_is_left is) ty known = cc
    repeat-passes (conv.has_no_such_part lacks) ty known = cc
    repeat-passes (conv.is_too_deep down deep) ty known = cc
    repeat-passes {depth} {steps} {left} {c} {t} {answer} (conv.converts_as_defined {d} is r) ty known =
        or_all-passes (subst (λ (e : Conversion). Converts theory store hosts depth steps e t answer left)
        (sym (same-definition (orelsec (thenc c (one_more (repeatc c))) (one_more all_conv)) d is)) r) ty known
    repeat-passes (conv.finds_no_memory le) ty known = passes-err _ tt

    try-passes : {depth steps left : ℕ} {c : Conversion} {t : NamedTerm} {answer : Result Theorem Fault} → Converts theory store hosts depth steps (try_conv c) t answer left
        → (ty : HolType) → IsKnown theory (image t) ty → Passes answer
    try-passes (conv.no_step_is_left is) ty known = cc
    try-passes (conv.has_no_such_part lacks) ty known = cc
    try-passes (conv.is_too_deep down deep) ty known = cc
    try-passes {depth} {steps} {left} {c} {t} {answer} (conv.converts_as_defined {d} is r) ty known =
        or_all-passes (subst (λ (e : Conversion). Converts theory store hosts depth steps e t answer left)
        (sym (same-definition (orelsec c (one_more all_conv)) d is)) r) ty known
    try-passes (conv.finds_no_memory le) ty known = passes-err _ tt

    -- behind a theorem, of which the right side is known
    on-passes : {depth steps left : ℕ} {theorem : Theorem} {c : Conversion} {answer : Result Theorem Fault} → ConvertsOn theory store hosts depth steps theorem (one_more (try_conv c)) answer left
        → (sides : NamedTerm × NamedTerm) (ty : HolType) → dest_equation theorem.conclusion ≡ Some sides → IsKnown theory (image sides.1) ty → Passes answer
    on-passes (conv.next_is_refused {sides = found} is r) sides ty there known =
        try-passes r ty (subst (λ (s : NamedTerm × NamedTerm). IsKnown theory (image s.1) ty) (same_pair sides found (sym there ∙ is)) known)
    on-passes {depth} {steps} {left} {theorem} {c} (conv.is_not_joined {next} {sides = found} {fault} is r fails) sides ty there known =
        subst Passes fails (fails-passes (trans_outcome theory theorem next)
        (trans-uncaught theory theorem next found is (conversions-answer-equations hosts theory store depth steps left (try_conv c) found.1 next r)))
    on-passes (conv.is_joined is r made conv.ends) sides ty there known = passes-ok _
    on-passes (conv.is_joined is r made (conv.goes_on_without_memory le)) sides ty there known = passes-err _ tt
    on-passes (conv.goes_on_without_memory le) sides ty there known = passes-err _ tt

    then-passes : {depth steps left : ℕ} {c d : Conversion} {t : NamedTerm} {answer : Result Theorem Fault}
        → Converts theory store hosts depth steps (thenc (repeatc c) (one_more (try_conv d))) t answer left
        → (ty : HolType) → HasKnownRules theory c → IsKnown theory (image t) ty → Passes answer
    then-passes (conv.no_step_is_left is) ty h known = cc
    then-passes (conv.has_no_such_part lacks) ty h known = cc
    then-passes (conv.is_too_deep down deep) ty h known = cc
    then-passes (conv.first_is_refused r) ty h known = repeat-passes r ty known
    then-passes (conv.first_goes_on {theorem} r s) ty h known =
        let equation = (converts-fine theory has store hosts over r ty h known).known theorem refl in on-passes s equation.sides ty equation.is_equation equation.right
    then-passes (conv.converts_as_defined is r) ty h known = cc
    then-passes (conv.finds_no_memory le) ty h known = passes-err _ tt

    top-passes : {depth steps left : ℕ} {c : Conversion} {t : NamedTerm} {answer : Result Theorem Fault} → Converts theory store hosts depth steps (top_depth_conv c) t answer left
        → (ty : HolType) → HasKnownRules theory c → IsKnown theory (image t) ty → Passes answer
    top-passes (conv.no_step_is_left is) ty h known = cc
    top-passes (conv.has_no_such_part lacks) ty h known = cc
    top-passes (conv.is_too_deep down deep) ty h known = cc
    top-passes {depth} {steps} {left} {c} {t} {answer} (conv.converts_as_defined {d} is r) ty h known =
        then-passes (subst (λ (e : Conversion). Converts theory store hosts depth steps e t answer left) (sym (same-definition (whole c) d is)) r) ty h known
      where
        whole : Conversion → Conversion
        whole c = thenc (repeatc c) (one_more (try_conv (thenc (conv.changed_conv (conv.sub_conv (top_depth_conv c))) (one_more (try_conv (thenc c (one_more (top_depth_conv c))))))))
    top-passes (conv.finds_no_memory le) ty h known = passes-err _ tt

pub rewriting-refuses : (hosts : HostConversions) → RewritingRefuses hosts
rewriting-refuses hosts theory store depth steps left c t ty fault has over rules known r = (top-passes theory has store hosts over r ty rules known).listed fault refl
