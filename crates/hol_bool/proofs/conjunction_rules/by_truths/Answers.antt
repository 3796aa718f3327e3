use Rattle.std.proofs.Common.{[], ◌++◌, Ok, refl}
use Rattle.hol_model.specs.Terms.HolType.{bool_type}
use Rattle.hol_model.specs.Terms.NamedTerm.{combination, equation}
use Rattle.hol_model.specs.Terms.Nameless.{const, app}
use Rattle.hol_model.specs.Terms.Measures.{nameless_within_limits}
use Rattle.hol_model.specs.Logic.Derivable.{nameless_equation}
use Rattle.hol_model.specs.Logic.Logic as nameless
use Rattle.hol_model.specs.Logic.Logic.{and_name, unary, binary}
use Rattle.hol_model.specs.Logic.NamedLogic.{true_term, conjunction}
use Rattle.hol_equal.proofs.Sizes.{past-room}
use Rattle.hol_equal.proofs.StepLemmas.{passed_on}
use Rattle.hol_equal.proofs.CutLemmas.{right-names}
use Rattle.hol_bool.proofs.ConjunctionSteps.{and_term, and-is, truths-is, stated-shows, stated-names, applied-names, functions-within, conjunctions-within, truths-derive}
use Rattle.hol_bool.proofs.conjunction_rules.by_truths.Goals as goal

pub returns-in_err-function-clause-derives : goal.returns-in_err-function-clause-derives
returns-in_err-function-clause-derives c h k p q room first second fits =
    let connective = c.theorem_of-connective.result.now.theorem in
    let shown = stated-shows (equation and_term and_term) connective (and-is connective c.theorem_of-connective.ensures.theorem) in
    let at = const and_name binary in
    rw (passed_on c.from_residual.result c.in_err-function.field-0.0 c.from_residual.ensures.1)
    (past-room c.in_err-function.field-0.0 (nameless_within_limits (nameless_equation unary (app at nameless.true_term) (app at p))) room
    (c.in_err-function.ensures.derives [] h bool_type unary at at nameless.true_term p shown first) (functions-within room p q fits))

pub returns-in_err-congruence-clause-derives : goal.returns-in_err-congruence-clause-derives
returns-in_err-congruence-clause-derives c h k p q room first second fits =
    let connective = c.theorem_of-connective.result.now.theorem in
    let shown = stated-shows (equation and_term and_term) connective (and-is connective c.theorem_of-connective.ensures.theorem) in
    let at = const and_name binary in
    let whole = nameless_equation bool_type (nameless.conjunction nameless.true_term nameless.true_term) (nameless.conjunction p q) in
    rw (passed_on c.from_residual-in_err-congruence.result c.in_err-congruence.field-0.0 c.from_residual-in_err-congruence.ensures.1)
    (past-room c.in_err-congruence.field-0.0 (nameless_within_limits whole) room
    (c.in_err-congruence.ensures.derives h k bool_type bool_type (app at nameless.true_term) (app at p) nameless.true_term q
    (c.in_ok-function.ensures.derives [] h bool_type unary at at nameless.true_term p shown first) second)
    (conjunctions-within room p q fits))

pub returns-clause-names : goal.returns-clause-names
returns-clause-names c p q first second =
    let connective = c.theorem_of-connective.result.now.theorem in
    let is = stated-names (equation and_term and_term) connective (and-is connective c.theorem_of-connective.ensures.theorem) in
    let function = c.in_ok-function.function in
    let congruence = c.in_ok-congruence.congruence in
    right-names c.eq_mp.result congruence.theorem.conclusion (conjunction true_term true_term) (conjunction p q) refl
    (applied-names (Ok congruence) function.theorem.conclusion c.args.second.now.theorem.conclusion (combination and_term true_term) (combination and_term p) true_term q
    (applied-names (Ok function) connective.conclusion c.args.first.now.theorem.conclusion and_term and_term true_term p is first c.in_ok-function.ensures.names) second
    c.in_ok-congruence.ensures.names) c.eq_mp.ensures.names

pub returns-clause-derives : goal.returns-clause-derives
returns-clause-derives c h k p q room first second fits =
    let connective = c.theorem_of-connective.result.now.theorem in
    let shown = stated-shows (equation and_term and_term) connective (and-is connective c.theorem_of-connective.ensures.theorem) in
    let at = const and_name binary in
    let truths = c.theorem_of-truths.result.now.theorem in
    let both = nameless.conjunction nameless.true_term nameless.true_term in
    let truths_shown = stated-shows (conjunction true_term true_term) truths (truths-is truths c.theorem_of-truths.ensures.theorem) in
    truths-derive room c.eq_mp.result (h ++ k) (nameless.conjunction p q)
    (c.eq_mp.ensures.gives (h ++ k) [] both (nameless.conjunction p q)
    (c.in_ok-congruence.ensures.derives h k bool_type bool_type (app at nameless.true_term) (app at p) nameless.true_term q
    (c.in_ok-function.ensures.derives [] h bool_type unary at at nameless.true_term p shown first) second) truths_shown)
