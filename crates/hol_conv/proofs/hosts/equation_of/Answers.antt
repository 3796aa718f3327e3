use Rattle.std.proofs.Common.{Ok, Err, ◌≡◌, true, false, sym, ◌∙◌, subst}
use Rattle.hol_model.specs.declared.fault.Fault.TheVariants.{InvalidStep}
use Rattle.hol_model.specs.Refining.HostFunctions.{HostEquation, promised}
use Rattle.hol_model.specs.Kernel.Theorem.{Theorem}
use Rattle.hol_model.specs.Goals.Replays.{HasSequent}
use Rattle.hol_just.specs.Steps.{tree_of}
use Rattle.hol_theorem_library.specs.Library.{store_in}
use Rattle.hol_conv.proofs.Making.{makes}
use Rattle.hol_conv.proofs.HostEquations.{host-passes, host-differs}
use Rattle.hol_equal.proofs.StepLemmas.{passed_on}
use Rattle.hol_conv.proofs.hosts.equation_of.Goals as goal

pub returns-in_err-made-clause-makes : goal.returns-in_err-made-clause-makes
returns-in_err-made-clause-makes c =
    rw (passed_on c.from_residual.result c.in_err-made.field-0.0 c.from_residual.ensures.1)
    (makes c.args.library.now c.replay.new.recorder (Err c.in_err-made.field-0.0) c.requires.library c.replay.ensures.grown c.replay.ensures.theory tt)

pub returns-then-is_promised-clause-makes : goal.returns-then-is_promised-clause-makes
returns-then-is_promised-clause-makes c =
    makes c.args.library.now c.replay.new.recorder (Ok c.in_ok-made.made) c.requires.library c.replay.ensures.grown c.replay.ensures.theory c.in_ok-made.ensures.made

pub returns-then-is_promised-clause-answers : goal.returns-then-is_promised-clause-answers
returns-then-is_promised-clause-answers c =
    let library = c.args.library.now in
    let answered : HostEquation = record { term = c.args.right.now; justification = tree_of c.args.just.now } in
    host-passes library.recorder.theory (store_in library) c.args.left.now answered c.in_ok-made.made.theorem c.in_ok-made.ensures.answer
    (subst (λ (theorem : Theorem). HasSequent (promised c.args.left.now answered) theorem) c.theorem.ensures ((c.is_promised.ensures answered.justification).0 c.if-is_promised.true))

pub returns-else-is_promised-clause-makes : goal.returns-else-is_promised-clause-makes
returns-else-is_promised-clause-makes c =
    makes c.args.library.now c.replay.new.recorder (Err InvalidStep) c.requires.library c.replay.ensures.grown c.replay.ensures.theory tt

pub returns-else-is_promised-clause-answers : goal.returns-else-is_promised-clause-answers
returns-else-is_promised-clause-answers c =
    let library = c.args.library.now in
    let answered : HostEquation = record { term = c.args.right.now; justification = tree_of c.args.just.now } in
    host-differs library.recorder.theory (store_in library) c.args.left.now answered c.in_ok-made.made.theorem c.in_ok-made.ensures.answer
    (λ (has : HasSequent (promised c.args.left.now answered) c.in_ok-made.made.theorem).
    let passed = (c.is_promised.ensures answered.justification).1 (subst (λ (theorem : Theorem). HasSequent (promised c.args.left.now answered) theorem) (sym c.theorem.ensures) has) in
    let differs = sym c.if-is_promised.false ∙ passed in cc)
