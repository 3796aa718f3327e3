use Rattle.std.proofs.Common.{◌≡◌, true}
use Rattle.hol_model.specs.Logic.Checks.{reflects_nameless}
use Rattle.hol_check_terms.specs.Terms.{type_at, term_at}
use Rattle.hol_check_terms.proofs.NumberLemmas.{noted-all}
use Rattle.hol_check_terms.proofs.ReflectionLemmas.{reflected-application, reflected-abstraction}
use Rattle.hol_check_terms.proofs.reflection.«+reflects_in».Goals as goal

pub returns-in_ok-second-in-Application-clause-seen : goal.returns-in_ok-second-in-Application-clause-seen
returns-in_ok-second-in-Application-clause-seen t c =
    let terms = c.args.terms.now.terms in
    let whole = type_at c.args.terms.now.types c.args.whole in
    noted-all (λ n. reflects_nameless whole (term_at terms n) ≡ true) c.in_ok-second-in-Application.second true c.args.number c.reflects_in-in-Application.new.seen.keys c.note.new.numbers.keys
    c.in_ok-second-in-Application.ensures.seen
    (λ answer. reflected-application whole (term_at terms c.args.number) (term_at terms c.in-Application.function) (term_at terms c.in-Application.argument) c.in_ok-first-in-Application.first
    c.in_ok-second-in-Application.second c.in-Application.ensures.shape c.if-not-first.false
    c.in_ok-first-in-Application.ensures.reflects c.in_ok-second-in-Application.ensures.reflects answer) c.note.ensures.noted

pub returns-in_ok-inner-in-Abstraction-clause-seen : goal.returns-in_ok-inner-in-Abstraction-clause-seen
returns-in_ok-inner-in-Abstraction-clause-seen t c =
    let terms = c.args.terms.now.terms in
    let types = c.args.terms.now.types in
    let whole = type_at types c.args.whole in
    noted-all (λ n. reflects_nameless whole (term_at terms n) ≡ true) c.in_ok-inner-in-Abstraction.inner true c.args.number c.reflects_in-in-Abstraction.new.seen.keys
    c.note-in-Abstraction.new.numbers.keys c.in_ok-inner-in-Abstraction.ensures.seen
    (λ answer. reflected-abstraction whole (term_at terms c.args.number) (type_at types c.in-Abstraction.ty) (term_at terms c.in-Abstraction.body) c.reflects_type-in-Abstraction.result
    c.in_ok-inner-in-Abstraction.inner c.in-Abstraction.ensures.shape c.if-not-reflects_type.false
    c.reflects_type-in-Abstraction.ensures c.in_ok-inner-in-Abstraction.ensures.reflects answer) c.note-in-Abstraction.ensures.noted
