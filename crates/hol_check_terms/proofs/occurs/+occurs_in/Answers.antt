use Rattle.std.proofs.Common.{sym, ◌∙◌, ap}
use Rattle.hol_model.specs.Terms.Substitution.{occurs_free}
use Rattle.hol_check_terms.specs.Terms.{term_at}
use Rattle.hol_check_terms.proofs.OccursLemmas.{searched-variable, searched-none_free, searched-free, searched-argument, searched-whole}
use Rattle.hol_check_terms.proofs.occurs.«+occurs_in».Goals as goal

pub returns-then-number-variable-clause-found : goal.returns-then-number-variable-clause-found
returns-then-number-variable-clause-found t c = λ name ty there absent.
    searched-variable name ty c.args.terms.now.terms c.args.absent.now.keys c.args.number c.args.variable there c.if-number-variable.true absent

pub returns-then-has_no_free-clause-found : goal.returns-then-has_no_free-clause-found
returns-then-has_no_free-clause-found t c = λ name ty there absent.
    searched-none_free name ty c.args.terms.now.terms c.args.absent.now.keys c.args.number (sym c.has_no_free.ensures ∙ c.if-has_no_free.true) absent

pub returns-in-Free-clause-found : goal.returns-in-Free-clause-found
returns-in-Free-clause-found t c = λ name ty there absent.
    searched-free name ty c.args.terms.now.terms c.have_one_number.ensures.terms c.args.absent.now.keys c.args.number c.args.variable _ _ c.requires.number there c.if-number-variable.false
    c.in-Free.ensures.shape absent

pub returns-in_ok-in_argument-in-Application-clause-found : goal.returns-in_ok-in_argument-in-Application-clause-found
returns-in_ok-in_argument-in-Application-clause-found t c = λ name ty there absent.
    let terms = c.args.terms.now.terms in
    let first = c.in_ok-in_function-in-Application.ensures.found name ty there absent in
    let second = c.in_ok-in_argument-in-Application.ensures.found name ty there first.absent in
    searched-whole name ty terms c.occurs_in-in-Application.new.absent.keys c.note.new.numbers.keys c.args.number c.in_ok-in_argument-in-Application.in_argument c.note.result
    (searched-argument name ty (term_at terms c.args.number) (term_at terms c.in-Application.function) (term_at terms c.in-Application.argument) c.in_ok-in_function-in-Application.in_function c.in_ok-in_argument-in-Application.in_argument
    c.in-Application.ensures.shape c.if-in_function.false first.found second.found)
    c.note.ensures.answer c.note.ensures.noted second.absent

pub returns-in_ok-in_body-in-Abstraction-clause-found : goal.returns-in_ok-in_body-in-Abstraction-clause-found
returns-in_ok-in_body-in-Abstraction-clause-found t c = λ name ty there absent.
    let terms = c.args.terms.now.terms in
    let inner = c.in_ok-in_body-in-Abstraction.ensures.found name ty there absent in
    searched-whole name ty terms c.occurs_in-in-Abstraction.new.absent.keys c.note-in-Abstraction.new.numbers.keys c.args.number c.in_ok-in_body-in-Abstraction.in_body c.note-in-Abstraction.result
    (inner.found ∙ sym (ap (occurs_free name ty) c.in-Abstraction.ensures.shape)) c.note-in-Abstraction.ensures.answer c.note-in-Abstraction.ensures.noted inner.absent
