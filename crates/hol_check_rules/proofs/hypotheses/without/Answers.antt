use Rattle.std.proofs.Common.{◌≡◌, ◌++◌, ◌∷◌, [], not, refl, sym, ◌∙◌, ap, get_or, arith}
use Rattle.std.proofs.lemmas.List.{take_all}
use Rattle.hol_model.specs.Terms.Nameless.{same_term}
use Rattle.hol_model.specs.Logic.Derivable.{without}
use Rattle.hol_check_terms.specs.Terms.{term_at}
use Rattle.hol_check_rules.specs.Hypotheses.{terms_in}
use Rattle.hol_check_rules.proofs.OrderLemmas.{kept-ordered}
use Rattle.hol_check_rules.proofs.HypothesesLemmas.{kept-taken, left_out-taken}
use Rattle.hol_check_rules.proofs.hypotheses.without.Goals as goal
use Rattle.hol_check_rules.proofs.hypotheses.without.Goals.{then-not-is_same+in_ok-push, else-not-is_same}

pub loop-other-preserved : goal.loop-other-preserved
loop-other-preserved c =
    let terms = c.args.terms.now.terms in
    let x = get_or c.args.list.now c.loop-other.other-index 0 in
    elim c.if-not-is_same.branch [
      | then-not-is_same+in_ok-push w ↦
          (let items : c.if-not-is_same.others.items ≡ c.loop-other.others.items ++ x ∷ [] = ap (λ v. v.items) w.others-is ∙ w.in_ok-push.ensures.items in
          rw items (kept-taken terms c.args.term c.args.list.now c.loop-other.others.items c.loop-other.other-index x c.loop-other-test.true refl
          (sym w.if-not-is_same.true ∙ c.is_same.ensures) c.requires.list c.loop-other.invariant))
      | else-not-is_same w ↦
          (let items : c.if-not-is_same.others.items ≡ c.loop-other.others.items = ap (λ v. v.items) w.others-is in
          rw items (left_out-taken terms c.args.term c.args.list.now c.loop-other.others.items c.loop-other.other-index x c.loop-other-test.true refl
          (sym w.if-not-is_same.false ∙ c.is_same.ensures) c.loop-other.invariant))
    ]

pub returns-clause-ordered : goal.returns-clause-ordered
returns-clause-ordered c =
    let terms = c.args.terms.now.terms in
    let term = term_at terms c.args.term in
    let kept : terms_in terms c.loop-other.others.items ≡ without term (terms_in terms c.args.list.now) =
    c.loop-other.invariant.kept ∙ ap (λ l. without term (terms_in terms l)) (take_all c.loop-other.other-index c.args.list.now (omega arith)) in
    rw kept (kept-ordered (λ other. not (same_term other term)) (terms_in terms c.args.list.now) c.requires.ordered)
