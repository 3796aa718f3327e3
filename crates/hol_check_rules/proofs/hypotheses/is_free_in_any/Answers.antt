use Rattle.std.proofs.Common.{◌||◌, refl, sym, ◌∙◌, ap, drop, ◌+◌}
use Rattle.hol_model.specs.Logs.LogFaults.{is_free_in_any}
use Rattle.hol_check_terms.specs.Terms.{term_at}
use Rattle.hol_check_rules.specs.Hypotheses.{terms_in}
use Rattle.hol_check_rules.proofs.HypothesesLemmas.{searched}
use Rattle.hol_check_rules.proofs.hypotheses.is_free_in_any.Goals as goal

pub returns-then-found-clause-found : goal.returns-then-found-clause-found
returns-then-found-clause-found c =
    let v = c.requires.variable in
    let is = searched c.args.terms.now.terms c.args.variable v.name v.ty c.args.list.now c.loop-number.number-index _ c.in_ok-found.found v.is_free c.loop-number-test.true refl
    (c.in_ok-found.ensures.found v.name v.ty v.is_free) in
    let rest = is_free_in_any (term_at c.args.terms.now.terms c.args.variable) (terms_in c.args.terms.now.terms (drop (c.loop-number.number-index + 1) c.args.list.now)) in
    sym (c.loop-number.invariant ∙ (is ∙ ap (λ b. b || rest) c.if-found.true))

pub loop-number-preserved : goal.loop-number-preserved
loop-number-preserved c =
    let v = c.requires.variable in
    let is = searched c.args.terms.now.terms c.args.variable v.name v.ty c.args.list.now c.loop-number.number-index _ c.in_ok-found.found v.is_free c.loop-number-test.true refl
    (c.in_ok-found.ensures.found v.name v.ty v.is_free) in
    let rest = is_free_in_any (term_at c.args.terms.now.terms c.args.variable) (terms_in c.args.terms.now.terms (drop (c.loop-number.number-index + 1) c.args.list.now)) in
    c.loop-number.invariant ∙ (is ∙ ap (λ b. b || rest) c.if-found.false)
