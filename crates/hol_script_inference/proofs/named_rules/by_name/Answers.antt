use Rattle.std.proofs.Common.{Bor, true, false, List, ℕ, ◌≡◌, ◌⊎◌, sym, subst, ◌∙◌, ap, Err}
use Rattle.hol_model.specs.declared.fault.Fault.TheVariants.{Memory}
use Rattle.std.proofs.lemmas.Result.{err_from_is_err_and}
use Rattle.hol_journal.specs.Journal.{Recorded, theorem_in}
use Rattle.hol_just_replay.specs.Outcomes.{lent_theorems}
use Rattle.hol_model_rules.specs.RuleOutcomes.{IsOutcome}
use Rattle.hol_model_sessions.specs.Sessions.{each, theorem_named}
use Rattle.hol_script_session.specs.SessionState.{state_of}
use Rattle.hol_script_inference.proofs.NamedLemmas.{unfound-theorems, takes-terms, named-answers}
use Rattle.hol_script_inference.proofs.named_rules.by_name.Goals as goal

pub returns-in_err-premises-clause-answers : goal.returns-in_err-premises-clause-answers
returns-in_err-premises-clause-answers c = λ trees names lengths matched named.
    let state = state_of c.args.session.now in
    let p = err_from_is_err_and c.from_residual-in_err-premises.result c.from_residual-in_err-premises.ensures.1 in
    rw (p.1, p.2)
    (unfound-theorems state c.args.rule trees names c.in_ok-terms.terms.items c.in_err-premises.field-0.0 (c.in_ok-terms.ensures trees matched)
    (subst (λ (ns : List (List ℕ)). (c.in_err-premises.field-0.0 ≡ Memory) ⊎ (each (theorem_named state) ns ≡ Err c.in_err-premises.field-0.0)) named c.in_err-premises.ensures.found))

pub returns-in_default-clause-answers : goal.returns-in_default-clause-answers
returns-in_default-clause-answers c = λ trees names lengths matched named.
    let none : false ≡ true = c.in_default.ensures.takes (takes-terms (state_of c.args.session.now) c.args.rule trees c.in_ok-terms.terms.items lengths (c.in_ok-terms.ensures trees matched)) in cc

pub returns-clause-answers : goal.returns-clause-answers
returns-clause-answers c = λ trees names lengths matched named.
    let state = state_of c.args.session.now in
    let theorems = lent_theorems c.in_ok-premises.premises.items in
    named-answers state c.args.rule trees names c.in_ok-terms.terms.items theorems c.in-Some.rule (theorem_in c.apply_rule.result) (c.in_ok-terms.ensures trees matched)
    (ap (each (theorem_named state)) (sym named) ∙ c.in_ok-premises.ensures.found) c.in-Some.ensures.rule
    (subst (λ (ps : List (Bor Recorded)). IsOutcome state.theory c.in-Some.rule (lent_theorems ps) (theorem_in c.apply_rule.result)) c.deref.ensures.value c.apply_rule.ensures.outcome.is)
