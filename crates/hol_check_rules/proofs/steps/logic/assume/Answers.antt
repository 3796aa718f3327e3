use Rattle.std.proofs.Common.{◌∷◌, [], not, sym, ◌∙◌, ap, refl}
use Rattle.hol_check_terms.specs.Terms.{term_at}
use Rattle.hol_check_rules.proofs.StepLemmas.{typed-taken, formed-earlier}
use Rattle.hol_check_rules.proofs.steps.logic.assume.Goals as goal

pub returns-clause-taken : goal.returns-clause-taken
returns-clause-taken c =
    let t0 = c.args.terms.now in
    let t1 = c.is_formula.new.terms in
    typed-taken _ _ _ _ _ (ap not (sym c.in_ok-formula.ensures.formula ∙ c.if-not-formula.false)) refl
    (c.conclude.ensures t0 t1 (term_at t0.terms c.args.term ∷ []) (term_at t0.terms c.args.term) c.is_formula.ensures.grows c.in_ok-hypotheses.ensures.all
    (formed-earlier t0 t1 c.args.term c.is_formula.ensures.grows c.requires))
