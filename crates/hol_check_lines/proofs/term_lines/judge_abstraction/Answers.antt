use Rattle.hol_check_lines.proofs.TermLineLemmas.{judged-abstraction, free-binder, constant-binder, application-binder, abstraction-binder}
use Rattle.hol_check_lines.proofs.term_lines.judge_abstraction.Goals as goal

pub write_abstraction-requires-clause-binder : goal.write_abstraction-requires-clause-binder
write_abstraction-requires-clause-binder c =
    free-binder c.args.terms.now c.args.contents.now c.args.binder c.args.body c.in-Some-Some.v c.in-Some-Some.b (c.in-Some-Some.ensures c.args.terms.now c.requires)
    (c.in-Some-Some.ensures' c.args.terms.now c.requires) c.in-Variable.number c.in-Variable.is

pub write_abstraction-requires-clause-body : goal.write_abstraction-requires-clause-body
write_abstraction-requires-clause-body c = record { term = _; writes = (c.in-Some-Some.ensures' c.args.terms.now c.requires).writes }

pub returns-in-Variable : goal.returns-in-Variable
returns-in-Variable c =
    let first = c.in-Some-Some.ensures c.args.terms.now c.requires in
    let second = c.in-Some-Some.ensures' c.args.terms.now c.requires in
    judged-abstraction c.args.terms.now c.args.contents.now c.args.binder c.args.body c.in-Some-Some.v c.in-Some-Some.b first second c.write_abstraction.new.terms c.in-Variable.number
    c.in-Variable.is
    (c.write_abstraction.ensures _ second.writes).grows c.requires c.judge_written.result
    (c.judge_written.ensures _ _ c.write_abstraction.new.terms (c.write_abstraction.ensures _ second.writes).answered)

pub returns-in-Constant : goal.returns-in-Constant
returns-in-Constant c =
    constant-binder c.args.terms.now c.args.contents.now c.args.binder c.args.body c.in-Some-Some.v c.in-Some-Some.b (c.in-Some-Some.ensures c.args.terms.now c.requires)
    (c.in-Some-Some.ensures' c.args.terms.now c.requires) c.in-Constant._number c.in-Constant.is

pub returns-in-Application : goal.returns-in-Application
returns-in-Application c =
    application-binder c.args.terms.now c.args.contents.now c.args.binder c.args.body c.in-Some-Some.v c.in-Some-Some.b (c.in-Some-Some.ensures c.args.terms.now c.requires)
    (c.in-Some-Some.ensures' c.args.terms.now c.requires) c.in-Application._function c.in-Application._argument c.in-Application.is

pub returns-in-Abstraction : goal.returns-in-Abstraction
returns-in-Abstraction c =
    abstraction-binder c.args.terms.now c.args.contents.now c.args.binder c.args.body c.in-Some-Some.v c.in-Some-Some.b (c.in-Some-Some.ensures c.args.terms.now c.requires)
    (c.in-Some-Some.ensures' c.args.terms.now c.requires) c.in-Abstraction._binder c.in-Abstraction._body c.in-Abstraction.is
