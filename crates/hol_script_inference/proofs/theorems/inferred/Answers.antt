use Rattle.std.proofs.Common.{◌≡◌, List, subst, sym}
use Rattle.hol_syntax_grammar.specs.declared.steps.TermStep.{TermStep}
use Rattle.hol_syntax_grammar.specs.Steps.{flat_steps_of}
use Rattle.hol_syntax_grammar.specs.TermSteps.{term_steps, flat_steps}
use Rattle.hol_script_commands.specs.declared.command.Asked.{Asked}
use Rattle.hol_script_commands.specs.Views.{IsAsked}
use Rattle.hol_script_inference.specs.Answers.{session_tools}
use Rattle.hol_script_inference.specs.Recording.{theorem_given}
use Rattle.hol_script_session.specs.SessionState.{state_of, lemmas_of}
use Rattle.hol_script_inference.proofs.TautologyLemmas.{rule-refused_as, tautology-asked}
use Rattle.hol_script_inference.proofs.ConversionLemmas.{conversion-given, conversion-refused_as}
use Rattle.hol_script_inference.proofs.theorems.inferred.Goals as goal

pub returns-in-Err-clause-answers : goal.returns-in-Err-clause-answers
returns-in-Err-clause-answers g c = λ tree asks.
    rule-refused_as (session_tools (g.H.Refiners.refiners c.args.hosts.now) (g.H.Converters.conversions c.args.hosts.now))
    (lemmas_of c.args.session.now) (state_of c.args.session.now) c.in-Rule.rule tree
    c.in-Err.fault c.plain.result c.plain.ensures (subst (λ (a : Asked). IsAsked a tree) c.in-Rule.is asks) c.in-Err.ensures.answers

pub returns-in-Tautology-clause-answers : goal.returns-in-Tautology-clause-answers
returns-in-Tautology-clause-answers g c = λ tree asks.
    tautology-asked (g.H.Refiners.refiners c.args.hosts.now) (g.H.Converters.conversions c.args.hosts.now) (lemmas_of c.args.session.now) (state_of c.args.session.now) c.in-Tautology.steps tree
    (theorem_given c.tautology.result) (subst (λ (a : Asked). IsAsked a tree) c.in-Tautology.is asks)
    (λ t same. c.tautology.ensures.answers (lemmas_of c.args.session.now) t
    (subst (λ (items : List TermStep). flat_steps_of items ≡ flat_steps (term_steps t)) (sym c.deref.ensures.value) same))

pub returns-in-Ok-conversion-clause-answers : goal.returns-in-Ok-conversion-clause-answers
returns-in-Ok-conversion-clause-answers g c = λ tree asks.
    conversion-given (session_tools (g.H.Refiners.refiners c.args.hosts.now) (g.H.Converters.conversions c.args.hosts.now)) (lemmas_of c.args.session.now) (state_of c.args.session.now)
    c.in-Conversion.conv c.in-Conversion.steps tree c.in-Ok-conversion.theorem.theorem (subst (λ (a : Asked). IsAsked a tree) c.in-Conversion.is asks)
    (λ unit t conv same. c.in-Ok-conversion.ensures.answers unit t conv
    (subst (λ (items : List TermStep). flat_steps_of items ≡ flat_steps (term_steps t)) (sym c.deref-in-Conversion.ensures.value) same))

pub returns-in-Err-conversion-clause-answers : goal.returns-in-Err-conversion-clause-answers
returns-in-Err-conversion-clause-answers g c = λ tree asks.
    conversion-refused_as (session_tools (g.H.Refiners.refiners c.args.hosts.now) (g.H.Converters.conversions c.args.hosts.now)) (lemmas_of c.args.session.now) (state_of c.args.session.now)
    c.in-Conversion.conv c.in-Conversion.steps tree c.in-Err-conversion.fault c.plain-in-Err-conversion.result c.plain-in-Err-conversion.ensures
    (subst (λ (a : Asked). IsAsked a tree) c.in-Conversion.is asks)
    (λ unit t conv same. c.in-Err-conversion.ensures.answers unit t conv
    (subst (λ (items : List TermStep). flat_steps_of items ≡ flat_steps (term_steps t)) (sym c.deref-in-Conversion.ensures.value) same))
