-- What `thm` is asked for: what TAUT answers in a session, and the row that its refusal has.
use Rattle.std.proofs.Common.{arith, Vec, Global, ◌≡◌, ◌⊎◌, inl, inr, ℕ, List, [], Bool, true, false, not, refl, sym, ap, subst, ◌∙◌, Option, None, Some, Result, Ok, Err}
use Rattle.std.specs.Prelude.{if◌then◌else◌}
use Rattle.std.proofs.lemmas.Bool.Decides.{nat_tests}
use Rattle.hol_model.specs.declared.fault.Fault.{Fault}
use Rattle.hol_model.specs.declared.fault.Fault.TheVariants.{Memory, NotBool, UnknownType, UnknownConst, NotInstance, NotTautology}
use Rattle.hol_model.specs.Terms.NamedTerm.{NamedTerm, combination, is_within_limits}
use Rattle.hol_model.specs.Terms.WellNamed.{is_well_named}
use Rattle.hol_model.specs.Terms.Nameless.{image}
use Rattle.hol_model.specs.Logic.Derivable.{IsMember}
use Rattle.hol_model.specs.Logic.Theory.{Theory}
use Rattle.hol_model.specs.Logic.KnownTerm.{knows_types, knows_constants, has_instances}
use Rattle.hol_model.specs.Kernel.Outcome.{unless, refused}
use Rattle.hol_model.specs.Kernel.Rules.{is_formula, first_unknown}
use Rattle.hol_model.specs.Kernel.Theorem.{Theorem}
use Rattle.hol_model.specs.Derived.DerivedRules.{Stated, stated}
use Rattle.hol_model.specs.Propositional.Propositions.{atoms_of}
use Rattle.hol_model.specs.Propositional.Tautologies.{falsity_of, tautology_outcome}
use Rattle.hol_model.specs.Refining.HostFunctions.{HostConversions}
use Rattle.hol_model.specs.Refining.Refiners.{AnswersIfSmall, AnswersTautology}
use Rattle.hol_model.specs.Rewrites.SmallTerms.{is_small}
use Rattle.hol_model.specs.Texts.TermGrammar.{TermTree}
use Rattle.hol_model.specs.Texts.Reading.{Scope, meaning}
use Rattle.hol_model.specs.Texts.SequentTexts.{IsReadableFormula}
use Rattle.hol_model.specs.Kernel.Answers.{goes_on, stops}
use Rattle.hol_model_sessions.specs.Commands.{RuleTree}
use Rattle.hol_model_sessions.specs.CommandGrammar.{TheoremTree, by_rule, by_tautology, by_conversion}
use Rattle.hol_model_sessions.specs.Replies.{Refusal, refusal_of}
use Rattle.hol_model_sessions.specs.Sessions.{scope_in, IsRuleAnswer}
use Rattle.hol_model_sessions.specs.Sessions.{State as Library}
use Rattle.hol_model_sessions.specs.ScriptSessions.{Tools, row_of_fault, IsReadableRow}
use Rattle.hol_model_sessions.specs.SessionCalls.{SaysRefusal}
use Rattle.hol_model.proofs.Tests.{first_of_both, second_of_both}
use Rattle.hol_syntax_grammar.specs.declared.steps.TermStep.{TermStep}
use Rattle.hol_syntax_grammar.specs.Steps.{flat_steps_of}
use Rattle.hol_syntax_grammar.specs.TermSteps.{term_steps, flat_steps}
use Rattle.hol_script_commands.specs.declared.command.Rule.{Rule}
use Rattle.hol_script_commands.specs.declared.command.Asked.TheVariants.{Rule as AsksRule, Tautology}
use Rattle.hol_script_commands.specs.Views.{IsRule, IsAsked}
use Rattle.hol_equal.specs.Formulas.{IsFormula}
use Rattle.hol_bool.proofs.FormulaLemmas.{passed}
use Rattle.hol_taut.specs.Answers.{AnswersSmall}
use Rattle.hol_taut.proofs.AtomLemmas.{IsHandedDown, atoms-have, atoms-formulas}
use Rattle.hol_host.specs.Host.{HostRefiners}
use Rattle.hol_script_session.specs.declared.reply.Refused.{Refused}
use Rattle.hol_script_session.specs.Answers.{Beside, with_beside, row_bytes, plain}
use Rattle.hol_script_inference.specs.Answers.{session_tools, hostless, AnswersRule, MayGive, RefusesTheorem, AnswersTheorem}
use Rattle.hol_script_inference.specs.Rows.{refusal_for, TellsRow}
use Rattle.hol_script_inference.proofs.RowLemmas.{has_row, has_none, row-cases, values-readable}
use Rattle.hol_script_session.proofs.RuleLemmas.{readable}

-- ---- what `thm` is asked for

-- a refusal that tells no row
pub plainly-refused : (tools : Tools) (lemmas : List Theorem) (library : Library) (tree : TheoremTree) (fault : Fault) → (fault ≡ Memory)
    ⊎ MayGive tools lemmas library tree (Err (refusal_of fault)) → RefusesTheorem tools lemmas library tree (plain fault)
plainly-refused tools lemmas library tree fault (inl memory) = record {
  refusal = refusal_of fault;
  may = inl (ap refusal_of memory);
  says = record { same_fault = refl; spelled = refl };
  readable = λ beside. tt;
}
plainly-refused tools lemmas library tree fault (inr may) = record {
  refusal = refusal_of fault;
  may = inr may;
  says = record { same_fault = refl; spelled = refl };
  readable = λ beside. tt;
}

pub rule-refused : (tools : Tools) (lemmas : List Theorem) (library : Library) (rule : Rule) (tree : TheoremTree) (fault : Fault) → IsAsked (AsksRule rule) tree
    → ((t : RuleTree) → IsRule rule t → AnswersRule (Err fault) library t) → RefusesTheorem tools lemmas library tree (plain fault)
rule-refused tools lemmas library rule (by_rule t) fault asks answers = go (answers t asks)
  where
    go : (fault ≡ Memory) ⊎ IsRuleAnswer library t (Err fault) → RefusesTheorem tools lemmas library (by_rule t) (plain fault)
    go (inl memory) = plainly-refused tools lemmas library (by_rule t) fault (inl memory)
    go (inr because) = plainly-refused tools lemmas library (by_rule t) fault (inr (λ beside own. (because, refl)))
rule-refused tools lemmas library rule (by_tautology t) fault asks answers = absurd asks
rule-refused tools lemmas library rule (by_conversion conversion t) fault asks answers = absurd asks

-- the same for the refusal that a call answers
pub rule-refused_as : (tools : Tools) (lemmas : List Theorem) (library : Library) (rule : Rule) (tree : TheoremTree) (fault : Fault)
    (refused : Refused) → refused ≡ plain fault → IsAsked (AsksRule rule) tree
    → ((t : RuleTree) → IsRule rule t → AnswersRule (Err fault) library t) → RefusesTheorem tools lemmas library tree refused
rule-refused_as tools lemmas library rule tree fault refused is asks answers =
    subst (λ (r : Refused). RefusesTheorem tools lemmas library tree r) (sym is) (rule-refused tools lemmas library rule tree fault asks answers)

-- what TAUT gives is the same with any host
hosted : (refiners : HostRefiners) (conversions : HostConversions) (lemmas : List Theorem) (library : Library) (tree : TermTree) (answer : Result Theorem Refused)
    → AnswersTheorem hostless lemmas answer library (by_tautology tree) → AnswersTheorem (session_tools refiners conversions) lemmas answer library (by_tautology tree)
hosted refiners conversions lemmas library tree (Ok theorem) given = given
hosted refiners conversions lemmas library tree (Err refused) given = record { refusal = given.refusal; may = given.may; says = given.says; readable = given.readable }

pub tautology-asked : (refiners : HostRefiners) (conversions : HostConversions) (lemmas : List Theorem) (library : Library)
    (steps : Vec TermStep Global) (tree : TheoremTree) (answer : Result Theorem Refused)
    → IsAsked (Tautology steps) tree → ((t : TermTree) → flat_steps_of steps.items ≡ flat_steps (term_steps t) → AnswersTheorem hostless lemmas answer library (by_tautology t))
    → AnswersTheorem (session_tools refiners conversions) lemmas answer library tree
tautology-asked refiners conversions lemmas library steps (by_tautology t) answer asks answers = hosted refiners conversions lemmas library t answer (answers t asks)
tautology-asked refiners conversions lemmas library steps (by_rule t) answer asks answers = absurd asks
tautology-asked refiners conversions lemmas library steps (by_conversion conversion t) answer asks answers = absurd asks

-- ---- what a session asks of the answer

is-answer : (answer : Result Theorem Fault) (term : NamedTerm) (outcome : Result Stated Fault) → AnswersSmall answer (image term) outcome
    → AnswersIfSmall (is_small (image term)) outcome answer
is-answer (Ok theorem) term (Ok sequent) states = states
is-answer (Ok theorem) term (Err refusal) never = absurd never
is-answer (Err fault) term (Ok sequent) want = want
is-answer (Err fault) term (Err refusal) (inl memory) = inr memory
is-answer (Err fault) term (Err refusal) (inr same) = inl same

decides : (answer : Result Theorem Fault) (theory : Theory) (term : NamedTerm) → AnswersSmall answer (image term) (tautology_outcome theory term) → AnswersTautology theory term answer
decides answer theory term answered = is-answer answer term (tautology_outcome theory term) answered

-- a tautology
pub tautology-given : (lemmas : List Theorem) (library : Library) (tree : TermTree) (term : NamedTerm) (theorem : Theorem) → meaning (scope_in library) [] tree ≡ Ok term
    → AnswersSmall (Ok theorem) (image term) (tautology_outcome library.theory term) → MayGive hostless lemmas library (by_tautology tree) (Ok theorem)
tautology-given lemmas library tree term theorem meant answered = λ beside own. goes_on term (sym meant) (decides (Ok theorem) library.theory term answered)

-- the term is not read
pub unread-tautology : (lemmas : List Theorem) (library : Library) (tree : TermTree) (fault : Fault) → (fault ≡ Memory) ⊎ (meaning (scope_in library) [] tree ≡ Err fault)
    → RefusesTheorem hostless lemmas library (by_tautology tree) (plain fault)
unread-tautology lemmas library tree fault (inl memory) = plainly-refused hostless lemmas library (by_tautology tree) fault (inl memory)
unread-tautology lemmas library tree fault (inr is) = plainly-refused hostless lemmas library (by_tautology tree) fault (inr (λ beside own. stops (refusal_of fault) (sym is, refl) refl))

-- ---- a formula that is false in a row

-- a type or a constant that is not known has no row
unknown-rowless : (theory : Theory) (term : NamedTerm) (count : ℕ) (row : List Bool) → first_unknown theory term ≡ Some (NotTautology count row) → ⊥
unknown-rowless theory term count row is = go (knows_types theory term) (knows_constants theory term) (has_instances theory term) is
  where
    go : (a b c : Bool) → (if not a then Some UnknownType else (if not b then Some UnknownConst else (if not c then Some NotInstance else None))) ≡ Some (NotTautology count row) → ⊥
    go true true true same = cc
    go true true false same = cc
    go true false c same = cc
    go false b c same = cc

pub record HasPassed (theory : Theory) (term : NamedTerm) : Type 0 where
  pub is_formula : is_formula term ≡ true
  pub is_known : first_unknown theory term ≡ None

-- a formula that is refused for a row has passed the tests before
row-passed : (theory : Theory) (term : NamedTerm) (count : ℕ) (row : List Bool) → tautology_outcome theory term ≡ Err (NotTautology count row) → HasPassed theory term
row-passed theory term count row is = go (is_formula term) (first_unknown theory term) (refused (falsity_of term) (stated [] term)) refl refl is
  where
    go : (test : Bool) (unknown : Option Fault) (next : Result Stated Fault) → is_formula term ≡ test → first_unknown theory term ≡ unknown
        → unless test NotBool (refused unknown next) ≡ Err (NotTautology count row) → HasPassed theory term
    go true None next tested known same = record { is_formula = tested; is_known = known }
    go true (Some fault) next tested known same = (let here : fault ≡ NotTautology count row = cc in absurd (unknown-rowless theory term count row (known ∙ ap (λ f. Some f) here)))
    go false unknown next tested known same = cc

-- that is what the answer tells
row-answered : (theory : Theory) (term : NamedTerm) (count : ℕ) (row : List Bool) → AnswersSmall (Err (NotTautology count row)) (image term) (tautology_outcome theory term)
    → tautology_outcome theory term ≡ Err (NotTautology count row)
row-answered theory term count row answered = go (tautology_outcome theory term) refl answered
  where
    go : (outcome : Result Stated Fault) → tautology_outcome theory term ≡ outcome → AnswersSmall (Err (NotTautology count row)) (image term) outcome
        → tautology_outcome theory term ≡ Err (NotTautology count row)
    go (Ok sequent) is (inl memory) = cc
    go (Ok sequent) is (inr (never, small)) = cc
    go (Err refusal) is (inl memory) = cc
    go (Err refusal) is (inr same) = is ∙ ap (λ f. Err f) (sym same)

-- ---- atoms of a term of the program

-- within the limits, and each name of its kind
pub record IsFormed (term : NamedTerm) : Type 0 where
  pub within : is_within_limits term ≡ true
  pub named : is_well_named term ≡ true

function_within : (f a : NamedTerm) → is_within_limits (combination f a) ≡ true → is_within_limits f ≡ true
function_within f a h = grind (arith, nat_tests)

argument_within : (f a : NamedTerm) → is_within_limits (combination f a) ≡ true → is_within_limits a ≡ true
argument_within f a h = grind (arith, nat_tests)

function-formed : (f a : NamedTerm) → IsFormed (combination f a) → IsFormed f
function-formed f a formed = record { within = function_within f a formed.within; named = first_of_both (is_well_named f) (is_well_named a) formed.named }

argument-formed : (f a : NamedTerm) → IsFormed (combination f a) → IsFormed a
argument-formed f a formed = record { within = argument_within f a formed.within; named = second_of_both (is_well_named f) (is_well_named a) formed.named }

formed-down : IsHandedDown IsFormed
formed-down = record {
  sides = λ connective left right formed. (argument-formed _ left (function-formed _ right formed), argument-formed _ right formed);
  part = λ part formed. argument-formed _ part formed;
}

-- each atom of a formula that is known is told by its text
atoms-readable : (library : Library) (beside : Beside) (term : NamedTerm) → HasPassed library.theory term → IsFormed term
    → (a : NamedTerm) → IsMember a (atoms_of term) → IsReadableFormula (scope_in library) a
atoms-readable library beside term tests formed a m =
    let formula : IsFormula library.theory term = (passed library.theory term tests.is_formula tests.is_known).formula in
    let atom : IsFormula library.theory a = (atoms-formulas library.theory term formula).each a m in
    let atom_formed : IsFormed a = atoms-have IsFormed formed-down term formed a m in
    readable (with_beside beside library) a atom.known atom_formed.within atom_formed.named

-- a row that is told is of terms that are told by their texts
row-readable : (library : Library) (beside : Beside) (term : NamedTerm) (fault : Fault) → IsFormed term → AnswersSmall (Err fault) (image term) (tautology_outcome library.theory term)
    → IsReadableRow (with_beside beside library) (row_of_fault (atoms_of term) fault)
row-readable library beside term fault formed answered = elim (row-cases fault) [
  | has_row count row is ↦ (
      let told = subst (λ f. AnswersSmall (Err f) (image term) (tautology_outcome library.theory term)) is answered in
      let tests = row-passed library.theory term count row (row-answered library.theory term count row told) in
      subst (λ f. IsReadableRow (with_beside beside library) (row_of_fault (atoms_of term) f)) (sym is)
      (values-readable (scope_in library) (atoms_of term) row (atoms-readable library beside term tests formed)))
  | has_none none ↦ subst (λ row. IsReadableRow (with_beside beside library) row) (sym (none (atoms_of term))) tt
]

-- the refusal with its row
pub tautology-refused : (lemmas : List Theorem) (library : Library) (scope : Scope) (tree : TermTree) (term : NamedTerm) (fault : Fault) (refused : Refused) → scope ≡ scope_in library
    → meaning (scope_in library) [] tree ≡ Ok term → IsFormed term → AnswersSmall (Err fault) (image term) (tautology_outcome library.theory term)
    → TellsRow scope term fault refused → RefusesTheorem hostless lemmas library (by_tautology tree) refused
tautology-refused lemmas library scope tree term fault refused same meant formed answered tells = record {
  refusal = tells.refusal;
  may = may tells.is;
  says = subst (λ s. SaysRefusal s refused.fault (row_bytes refused) tells.refusal) same tells.says;
  readable = λ beside. is_readable beside tells.is;
}
  where
    told : (beside : Beside) → IsReadableRow (with_beside beside library) (row_of_fault (atoms_of term) fault)
    told beside = row-readable library beside term fault formed answered

    may : (tells.refusal ≡ refusal_of Memory) ⊎ (tells.refusal ≡ refusal_for term fault) → (tells.refusal ≡ refusal_of Memory) ⊎ MayGive hostless lemmas library (by_tautology tree) (Err tells.refusal)
    may (inl memory) = inl memory
    may (inr is) = inr (subst (λ r. MayGive hostless lemmas library (by_tautology tree) (Err r)) (sym is)
        (λ beside own. goes_on term (sym meant) (decides (Err fault) library.theory term answered, refl)))

    is_readable : (beside : Beside) → (tells.refusal ≡ refusal_of Memory) ⊎ (tells.refusal ≡ refusal_for term fault) → IsReadableRow (with_beside beside library) tells.refusal.row
    is_readable beside (inl memory) = subst (λ (r : Refusal). IsReadableRow (with_beside beside library) r.row) (sym memory) tt
    is_readable beside (inr is) = subst (λ (r : Refusal). IsReadableRow (with_beside beside library) r.row) (sym is) (told beside)
