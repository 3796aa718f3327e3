use Rattle.std.proofs.Common.{◌≡◌, sym, subst, ◌∙◌, Some}
use Rattle.hol_model.specs.declared.fault.Cause.TheVariants.{End}
use Rattle.hol_model.specs.Logs.LogFaults.{first_cause}
use Rattle.hol_logtext.specs.Lines.{line_of}
use Rattle.hol_check_rules.specs.State.{state_of}
use Rattle.hol_check_rules.specs.Judged.{IsJudged}
use Rattle.hol_check_lines.specs.Taken.{IsTakenLine}
use Rattle.hol_check_rules.proofs.StateLemmas.{contents-grown}
use Rattle.hol_check_lines.proofs.NamedLemmas.{state-made}
use Rattle.hol_check_lines.proofs.TakeLemmas.{refused-first, refused-last, taken-line, still-contents}
use Rattle.hol_check_lines.proofs.take.take.Goals as goal

pub invariant_of-log : goal.invariant_of-log
invariant_of-log c = c.make_named.ensures.makes.is_contents

pub invariant_of-log-in-Err : goal.invariant_of-log-in-Err
invariant_of-log-in-Err c = contents-grown c.make_named.new.terms c.judge.new.terms c.judge.ensures.grows c.make_named.new.contents c.make_named.ensures.makes.is_contents

pub invariant_of-log-in_err-addition : goal.invariant_of-log-in_err-addition
invariant_of-log-in_err-addition c = contents-grown c.make_named.new.terms c.judge.new.terms c.judge.ensures.grows c.make_named.new.contents c.make_named.ensures.makes.is_contents

pub invariant_of-log-then-ends_wrongly : goal.invariant_of-log-then-ends_wrongly
invariant_of-log-then-ends_wrongly c = contents-grown c.make_named.new.terms c.judge.new.terms c.judge.ensures.grows c.make_named.new.contents c.make_named.ensures.makes.is_contents

pub returns-in-Err-clause-taken : goal.returns-in-Err-clause-taken
returns-in-Err-clause-taken c =
    subst (λ s. first_cause s (line_of c.args.line.now) ≡ Some c.in-Err.cause)
    (state-made c.log.inside.table c.make_named.new.terms c.log.inside.contents c.make_named.new.contents c.make_named.ensures.makes c.log.invariant ∙ c.log.view_is)
    (refused-first (state_of c.make_named.new.terms c.make_named.new.contents) (line_of c.args.line.now) c.in-Err.cause
    (subst (IsJudged (state_of c.make_named.new.terms c.make_named.new.contents) (line_of c.args.line.now) c.judge.new.terms c.make_named.new.contents) c.in-Err.is
    c.in_ok-addition.ensures.judged))

pub returns-then-ends_wrongly-clause-taken : goal.returns-then-ends_wrongly-clause-taken
returns-then-ends_wrongly-clause-taken c =
    let judged = subst (IsJudged (state_of c.make_named.new.terms c.make_named.new.contents) (line_of c.args.line.now) c.judge.new.terms c.make_named.new.contents) c.in-Ok.is
    c.in_ok-addition.ensures.judged in
    subst (λ s. first_cause s (line_of c.args.line.now) ≡ Some End) (state-made c.log.inside.table c.make_named.new.terms c.log.inside.contents c.make_named.new.contents
    c.make_named.ensures.makes c.log.invariant ∙ c.log.view_is)
    (refused-last (state_of c.make_named.new.terms c.make_named.new.contents) (line_of c.args.line.now) judged.accepted (sym (c.ends_wrongly.ensures c.make_named.new.terms) ∙ c.if-ends_wrongly.true))

pub invariant_of-log-in_err-add : goal.invariant_of-log-in_err-add
invariant_of-log-in_err-add c =
    let judged = subst (IsJudged (state_of c.make_named.new.terms c.make_named.new.contents) (line_of c.args.line.now) c.judge.new.terms c.make_named.new.contents) c.in-Ok.is
    c.in_ok-addition.ensures.judged in
    c.in_err-add.ensures.kept c.judge.new.terms (contents-grown c.make_named.new.terms c.judge.new.terms c.judge.ensures.grows c.make_named.new.contents c.make_named.ensures.makes.is_contents) judged.added

pub invariant_of-log-2 : goal.invariant_of-log-2
invariant_of-log-2 c =
    let judged = subst (IsJudged (state_of c.make_named.new.terms c.make_named.new.contents) (line_of c.args.line.now) c.judge.new.terms c.make_named.new.contents) c.in-Ok.is
    c.in_ok-addition.ensures.judged in
    still-contents c.add.result c.make_named.new.terms c.judge.new.terms c.make_named.new.contents c.add.new.contents c.in-Ok.addition c.make_named.ensures.makes.is_contents
    c.judge.ensures.grows judged.added c.add.ensures.added c.add.ensures.kept

pub returns-clause-taken : goal.returns-clause-taken
returns-clause-taken c =
    let judged = subst (IsJudged (state_of c.make_named.new.terms c.make_named.new.contents) (line_of c.args.line.now) c.judge.new.terms c.make_named.new.contents) c.in-Ok.is
    c.in_ok-addition.ensures.judged in
    let now = state_of c.judge.new.terms c.add.new.contents in
    subst (λ s. IsTakenLine s (line_of c.args.line.now) now) (state-made c.log.inside.table c.make_named.new.terms c.log.inside.contents c.make_named.new.contents
    c.make_named.ensures.makes c.log.invariant ∙ c.log.view_is)
    (taken-line c.make_named.new.terms c.judge.new.terms c.make_named.new.contents c.add.new.contents (line_of c.args.line.now) c.in-Ok.addition
    c.make_named.ensures.makes.is_contents c.judge.ensures.grows judged
    (sym (c.ends_wrongly.ensures c.make_named.new.terms) ∙ c.if-ends_wrongly.false)
    (c.in_ok-add.ensures.added c.judge.new.terms (contents-grown c.make_named.new.terms c.judge.new.terms c.judge.ensures.grows c.make_named.new.contents
    c.make_named.ensures.makes.is_contents) judged.added))
