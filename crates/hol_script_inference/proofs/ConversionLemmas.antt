-- What `thm` is asked for by CONV.
use Rattle.std.proofs.Common.{Vec, Global, ◌≡◌, ◌⊎◌, inl, inr, ℕ, List, [], refl, sym, subst, Result, Ok, Err}
use Rattle.hol_model.specs.declared.fault.Fault.{Fault}
use Rattle.hol_model.specs.declared.fault.Fault.TheVariants.{Memory}
use Rattle.hol_model.specs.declared.limits.TheConstants.{STEPS_LIMIT}
use Rattle.hol_model.specs.Terms.NamedTerm.{NamedTerm}
use Rattle.hol_model.specs.Logic.Theory.{Theory}
use Rattle.hol_model.specs.Kernel.Answers.{goes_on, stops}
use Rattle.hol_model.specs.Kernel.Theorem.{Theorem}
use Rattle.hol_model.specs.Refining.Conversions.{Conversion, Converts}
use Rattle.hol_model.specs.Refining.HostFunctions.{HostConversions}
use Rattle.hol_model.specs.Goals.Replays.{Store}
use Rattle.hol_model.specs.Texts.Reading.{meaning}
use Rattle.hol_model.specs.Texts.TermGrammar.{TermTree}
use Rattle.hol_model_sessions.specs.CommandGrammar.{TheoremTree, by_rule, by_tautology, by_conversion}
use Rattle.hol_model_sessions.specs.ConversionGrammar.{ConversionUnit}
use Rattle.hol_model_sessions.specs.Replies.{refusal_of}
use Rattle.hol_model_sessions.specs.ScriptSessions.{Tools}
use Rattle.hol_model_sessions.specs.Sessions.{scope_in}
use Rattle.hol_model_sessions.specs.Sessions.{State as Library}
use Rattle.hol_model_sessions.specs.SessionTools.{conversion_of_unit}
use Rattle.hol_tactic_exprs.specs.declared.conv.Conv.{Conv}
use Rattle.hol_tactic_exprs.specs.Expressions.{conversion_of}
use Rattle.hol_host.specs.Host.{HostRefiners}
use Rattle.hol_theorem_store.specs.Store.{stored_of}
use Rattle.hol_theorem_store.specs.Stored.{theorems_in}
use Rattle.hol_syntax_grammar.specs.declared.steps.TermStep.{TermStep}
use Rattle.hol_syntax_grammar.specs.Steps.{flat_steps_of}
use Rattle.hol_syntax_grammar.specs.TermSteps.{term_steps, flat_steps}
use Rattle.hol_script_commands.specs.declared.command.Asked.TheVariants.{Conversion as AsksConversion}
use Rattle.hol_script_commands.specs.Views.{IsAsked}
use Rattle.hol_script_session.specs.declared.reply.Refused.{Refused}
use Rattle.hol_script_session.specs.declared.session.Session.{Session}
use Rattle.hol_script_inference.specs.Answers.{session_tools, MayGive, AnswersPlainly, RefusesTheorem}
use Rattle.hol_script_session.specs.Answers.{plain}
use Rattle.hol_script_session.specs.SessionState.{state_of, lemmas_of}
use Rattle.hol_script_inference.proofs.TautologyLemmas.{plainly-refused}

-- ---- what CONV gives

-- the term is not read
pub unread-conversion : (tools : Tools) (lemmas : List Theorem) (library : Library) (unit : ConversionUnit) (tree : TermTree) (fault : Fault)
    → (fault ≡ Memory) ⊎ (meaning (scope_in library) [] tree ≡ Err fault) → AnswersPlainly tools lemmas (Err fault) library (by_conversion unit tree)
unread-conversion tools lemmas library unit tree fault (inl memory) = inl memory
unread-conversion tools lemmas library unit tree fault (inr is) = inr (λ beside own. stops (refusal_of fault) (sym is, refl) refl)

-- what the conversion answers over the store's lemmas
pub conversion-answers : (refiners : HostRefiners) (conversions : HostConversions) (session : Session) (unit : ConversionUnit) (tree : TermTree) (term : NamedTerm)
    (conversion : Conversion) (answer : Result Theorem Fault) (steps left : ℕ) → meaning (scope_in (state_of session)) [] tree ≡ Ok term → conversion ≡ conversion_of_unit unit → steps ≡ STEPS_LIMIT
    → Converts session.library.recorder.theory (theorems_in (stored_of session.library.store)) conversions 0 steps conversion term answer left
    → AnswersPlainly (session_tools refiners conversions) (lemmas_of session) answer (state_of session) (by_conversion unit tree)
conversion-answers refiners conversions session unit tree term conversion answer steps left meant same full converts = go answer asked
  where
    theory : Theory
    theory = session.library.recorder.theory

    over : List Theorem → Store
    over lemmas = record { named = (state_of session).theorems; lemmas = lemmas }

    asked : Converts theory (over (lemmas_of session)) conversions 0 STEPS_LIMIT (conversion_of_unit unit) term answer left
    asked = subst (λ (c : Conversion). Converts theory (over (lemmas_of session)) conversions 0 STEPS_LIMIT c term answer left) same
        (subst (λ (n : ℕ). Converts theory (over (lemmas_of session)) conversions 0 n conversion term answer left) full converts)

    with_own : (result : Result Theorem Fault) (lemmas : List Theorem) → lemmas ≡ lemmas_of session
        → Converts theory (over (lemmas_of session)) conversions 0 STEPS_LIMIT (conversion_of_unit unit) term result left
        → Converts theory (over lemmas) conversions 0 STEPS_LIMIT (conversion_of_unit unit) term result left
    with_own result lemmas own is = subst (λ (ls : List Theorem). Converts theory (over ls) conversions 0 STEPS_LIMIT (conversion_of_unit unit) term result left) (sym own) is

    go : (result : Result Theorem Fault) → Converts theory (over (lemmas_of session)) conversions 0 STEPS_LIMIT (conversion_of_unit unit) term result left
        → AnswersPlainly (session_tools refiners conversions) (lemmas_of session) result (state_of session) (by_conversion unit tree)
    go (Ok theorem) is = λ beside own. goes_on term (sym meant) (left, with_own (Ok theorem) beside.lemmas own is)
    go (Err fault) is = inr (λ beside own. goes_on term (sym meant) ((left, with_own (Err fault) beside.lemmas own is), refl))

-- ---- what `thm` is asked for

pub conversion-given : (tools : Tools) (lemmas : List Theorem) (library : Library) (conv : Conv) (steps : Vec TermStep Global) (tree : TheoremTree)
    (theorem : Theorem) → IsAsked (AsksConversion conv steps) tree
    → ((unit : ConversionUnit) (t : TermTree) → conversion_of conv ≡ conversion_of_unit unit → flat_steps_of steps.items ≡ flat_steps (term_steps t)
    → AnswersPlainly tools lemmas (Ok theorem) library (by_conversion unit t))
    → MayGive tools lemmas library tree (Ok theorem)
conversion-given tools lemmas library conv steps (by_conversion unit t) theorem asks answers = answers unit t asks.0 asks.1
conversion-given tools lemmas library conv steps (by_rule t) theorem asks answers = absurd asks
conversion-given tools lemmas library conv steps (by_tautology t) theorem asks answers = absurd asks

pub conversion-refused : (tools : Tools) (lemmas : List Theorem) (library : Library) (conv : Conv) (steps : Vec TermStep Global) (tree : TheoremTree)
    (fault : Fault) → IsAsked (AsksConversion conv steps) tree
    → ((unit : ConversionUnit) (t : TermTree) → conversion_of conv ≡ conversion_of_unit unit → flat_steps_of steps.items ≡ flat_steps (term_steps t)
    → AnswersPlainly tools lemmas (Err fault) library (by_conversion unit t))
    → RefusesTheorem tools lemmas library tree (plain fault)
conversion-refused tools lemmas library conv steps (by_conversion unit t) fault asks answers = plainly-refused tools lemmas library (by_conversion unit t) fault (answers unit t asks.0 asks.1)
conversion-refused tools lemmas library conv steps (by_rule t) fault asks answers = absurd asks
conversion-refused tools lemmas library conv steps (by_tautology t) fault asks answers = absurd asks

pub conversion-refused_as : (tools : Tools) (lemmas : List Theorem) (library : Library) (conv : Conv) (steps : Vec TermStep Global)
    (tree : TheoremTree) (fault : Fault) (refused : Refused) → refused ≡ plain fault
    → IsAsked (AsksConversion conv steps) tree
    → ((unit : ConversionUnit) (t : TermTree) → conversion_of conv ≡ conversion_of_unit unit → flat_steps_of steps.items ≡ flat_steps (term_steps t)
    → AnswersPlainly tools lemmas (Err fault) library (by_conversion unit t))
    → RefusesTheorem tools lemmas library tree refused
conversion-refused_as tools lemmas library conv steps tree fault refused is asks answers =
    subst (λ (r : Refused). RefusesTheorem tools lemmas library tree r) (sym is) (conversion-refused tools lemmas library conv steps tree fault asks answers)
