-- GEN: the lemmas at a formula and at its abstraction, and the answer.
use Rattle.std.proofs.Common.{◌≡◌, [], ◌∷◌, Bool, true, false, ◌&&◌, not, if◌then◌else◌, refl, ◌∙◌, ap, subst, Some, None, Result, Ok, Err, IfErr, arith}
use Rattle.std.specs.Prelude.{codes}
use Rattle.std.specs.List.{list_all}
use Rattle.hol_model.specs.declared.fault.Fault.{Fault}
use Rattle.hol_model.specs.declared.fault.Fault.TheVariants.{BadName, TooLarge}
use Rattle.hol_model.specs.Terms.HolType.{HolType, bool_type, function_type}
use Rattle.hol_model.specs.Terms.NamedTerm.{NamedTerm, variable, constant, type_of, type_fits}
use Rattle.hol_model.specs.Logic.NamedLogic.{true_term}
use Rattle.hol_model.specs.Terms.Nameless.{Nameless, free, const, app, image}
use Rattle.hol_model.specs.Terms.Measures.{nameless_within_limits}
use Rattle.hol_model.specs.Logic.Logic.{forall_name, predicate, quantifier}
use Rattle.hol_model.specs.Logic.Theory.{Theory, IsKnown}
use Rattle.hol_model.specs.Logic.Derivable.{nameless_equation}
use Rattle.hol_model.specs.Kernel.Outcome.{Answers}
use Rattle.hol_model.specs.Kernel.Constructors.{constant_outcome, function_type_outcome, combination_outcome}
use Rattle.hol_model.specs.Logic.KnownTerm.{knows_types, knows_constants, has_instances}
use Rattle.hol_model.specs.Kernel.Instantiation.{replacements_refusal}
use Rattle.hol_model.proofs.Terms.NamedTests.{is_known-Decides}
use Rattle.hol_model.proofs.Kernel.Outcomes.{passed_value}
use Rattle.hol_equal.specs.Sequents.{IsPast}
use Rattle.hol_equal.proofs.BetaLemmas.{applied-past}
use Rattle.hol_equal.proofs.StepLemmas.{application}
use Rattle.hol_equal.specs.Room.{IsSized, FitsIf}
use Rattle.hol_equal.proofs.Sizes.{sized-equation, sized-more, sized-within}

-- p <=> T

abbrev pub truth : Nameless
truth = image true_term

abbrev pub proposition : Nameless
proposition = free (codes "p") bool_type

-- a known formula may stand for p
pub formula-passes : (theory : Theory) (formula : NamedTerm) → type_of formula ≡ Some bool_type → IsKnown theory (image formula) bool_type
    → replacements_refusal theory ((formula, variable (codes "p") bool_type) ∷ []) ≡ None
formula-passes theory formula typed known =
    rw typed (go (knows_types theory formula) (knows_constants theory formula) (has_instances theory formula) ((is_known-Decides theory formula bool_type typed).1 known))
  where
    go : (types constants instances : Bool) → (types && constants && instances) ≡ true
        → (if not (types && true) then Some Fault.UnknownType else
        (if not (constants && true) then Some Fault.UnknownConst else (if not (instances && true) then Some Fault.NotInstance else None))) ≡ None
    go true true true known = refl
    go true true false known = cc
    go true false instances known = cc
    go false constants instances known = cc

pub truth-sized : IsSized 1900 1 truth
truth-sized = record { height = omega arith; nodes = omega arith; types = refl }

pub truth-fits : (room : Bool) (p : Nameless) → FitsIf room p → room ≡ true
    → list_all nameless_within_limits
    (nameless_equation bool_type proposition truth ∷ proposition ∷ nameless_equation bool_type p truth ∷ p ∷ nameless_equation bool_type p
    (nameless_equation bool_type p truth) ∷ []) ≡ true
truth-fits room p fits is =
    let sized = fits is in
    let equal = sized-equation 1900 900000 1 bool_type p truth (omega arith) (omega arith) sized truth-sized in
    let both = sized-equation 1902 900000 900004 bool_type p (nameless_equation bool_type p truth) (omega arith) (omega arith)
    (sized-more 1900 900000 1902 900000 p sized (omega arith) (omega arith)) equal in
    rw (
      sized-within 1902 900004 (nameless_equation bool_type p truth) equal (omega arith) (omega arith),
      sized-within 1900 900000 p sized (omega arith) (omega arith),
      sized-within 1904 1800007 (nameless_equation bool_type p (nameless_equation bool_type p truth)) both (omega arith) (omega arith),
    ) refl

-- !x. p

-- the quantifier at the type of the abstraction
pub quantifier-is : (made_quantifier : NamedTerm) (made_type boolean found : HolType) → Answers (Ok boolean) (Ok bool_type)
    → function_type_outcome found boolean ≡ Ok made_type → constant_outcome forall_name made_type ≡ Ok made_quantifier
    → (ty : HolType) → Some found ≡ Some (predicate ty) → made_quantifier ≡ constant forall_name (quantifier ty)
quantifier-is made_quantifier made_type boolean found boolean_is type_outcome outcome ty found_is =
    let boolean_same : boolean ≡ bool_type = cc in
    let found_same : found ≡ predicate ty = cc in
    let type_is = passed_value (type_fits (function_type found boolean)) TooLarge (function_type found boolean) made_type type_outcome in
    let is = passed_value true BadName (constant forall_name made_type) made_quantifier outcome in
    is ∙ ap (constant forall_name) (type_is ∙ (λ i. function_type (found_same i) (boolean_same i)))

pub formula-past : (result : Result NamedTerm Fault) (made_quantifier function : NamedTerm)
    → ((ty : HolType) → type_of function ≡ Some (predicate ty) → made_quantifier ≡ constant forall_name (quantifier ty))
    → Answers result (combination_outcome made_quantifier function)
    → IfErr result (λ fault. (ty : HolType) → type_of function ≡ Some (predicate ty) → IsPast fault (nameless_within_limits (app (const forall_name (quantifier ty)) (image function))))
formula-past (Ok made) made_quantifier function is answers = tt
formula-past (Err fault) made_quantifier function is answers = λ ty typed.
    applied-past fault (constant forall_name (quantifier ty)) function bool_type (application (constant forall_name (quantifier ty)) function (predicate ty) bool_type refl typed)
    (subst (λ (q : NamedTerm). Answers {A = NamedTerm} (Err fault) (combination_outcome q function)) (is ty typed) answers)
