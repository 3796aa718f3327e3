use Rattle.std.proofs.Common.{sym, ◌∙◌, ap, subst}
use Rattle.hol_model.specs.Logs.LogState.{set_of}
use Rattle.hol_check_terms.specs.Terms.{term_at}
use Rattle.hol_check_rules.specs.Hypotheses.{terms_in}
use Rattle.hol_check_rules.specs.State.{sequent_in, state_of}
use Rattle.hol_check_lines.specs.ClaimLines.{AreNamed, is_sequent}
use Rattle.hol_check_lines.proofs.ClaimLineLemmas.{judged-claim}
use Rattle.hol_check_lines.proofs.claim_lines.judge_claim.Goals as goal

pub returns : goal.returns
returns c =
    judged-claim c.args.terms.now c.name.new.self c.args.contents.now c.args.name.now c.args.theorem c.args.conclusion c.args.hypotheses.now c.in-Some.proved.now c.in-Some-term_at.concluded
    c.in-Some-2.supposed.items c.in_ok-ordered.ordered.items c.in_ok-name.name
    c.requires.contents (c.in-Some.ensures c.args.terms.now c.requires.contents) (c.in-Some-term_at.ensures c.args.terms.now c.requires.contents c.requires.conclusion)
    (subst (AreNamed (state_of c.args.terms.now c.args.contents.now) c.args.hypotheses.now c.args.terms.now.terms) c.in-Some-2.is c.in_ok-supposed.ensures.named)
    (sym c.is_identifier.ensures ∙ c.if-not-is_identifier.false)
    (c.in_ok-ordered.ensures.all.named ∙ ap (λ l. set_of (terms_in c.args.terms.now.terms l)) c.deref.ensures.value)
    (ap (λ l. is_sequent (term_at c.args.terms.now.terms c.in-Some-term_at.concluded) (terms_in c.args.terms.now.terms l) (sequent_in c.args.terms.now.terms c.in-Some.proved.now))
    (sym c.deref-2.ensures.value)
    ∙ (sym c.concludes.ensures ∙ c.if-not-concludes.false))
    c.in_ok-name.ensures.number c.in_ok-name.ensures.grows

pub concludes-requires-clause-conclusion : goal.concludes-requires-clause-conclusion
concludes-requires-clause-conclusion c = (c.in-Some-term_at.ensures c.args.terms.now c.requires.contents c.requires.conclusion).fits
