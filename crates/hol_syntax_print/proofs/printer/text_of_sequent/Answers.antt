use Rattle.std.proofs.Common.{sym, subst}
use Rattle.hol_model.specs.Texts.SequentGrammar.{ReadsSequent}
use Rattle.hol_syntax.specs.Scope.{scope_of}
use Rattle.hol_syntax_print.proofs.SequentTexts.{sequents_read_back}
use Rattle.hol_syntax_print.proofs.printer.text_of_sequent.Goals as goal

pub returns-clause-reads_back : goal.returns-clause-reads_back
returns-clause-reads_back c = λ hypotheses conclusion.
    subst (λ text. ReadsSequent (scope_of c.args.scope.now) text (c.args.hyps.now, c.args.concl.now)) (sym c.in_ok-text_around.ensures)
    (sequents_read_back (scope_of c.args.scope.now) c.args.hyps.now c.args.concl.now hypotheses conclusion)
