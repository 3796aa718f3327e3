use Rattle.std.proofs.Common.{◌+◌, ◌<◌, ◌≤◌, length, sym, ◌∙◌, ap, subst, arith}
use Rattle.std.proofs.lemmas.Result.{err_from_is_err_and}
use Rattle.hol_model.specs.Terms.Nameless.{Nameless, app, lam}
use Rattle.hol_model.specs.Terms.Measures.{nameless_height}
use Rattle.hol_check_terms.specs.Terms.{term_at, type_at}
use Rattle.hol_check_terms.proofs.TableLemmas.{is_within}
use Rattle.hol_check_changes.specs.Change.{changed, AnswersLeaf}
use Rattle.hol_check_changes.proofs.ChangeLemmas.{answers-spared, answers-known, answers-leaf, refused-function, refused-argument, refused-body, refused-binder, held-after-type, answers-refused}
use Rattle.hol_check_changes.proofs.ChangeLemmas.{answers-made, application-parts, abstraction-parts, under-is, inside-bound}
use Rattle.hol_check_terms.proofs.GrowthLemmas.{type-within, within-grown, term-grown, IsGrown-trans}
use Rattle.hol_check_changes.proofs.change.«+change_at».Goals as goal

pub returns-then-has_no_free-clause-changed : goal.returns-then-has_no_free-clause-changed
returns-then-has_no_free-clause-changed t c = λ meaning held.
    answers-spared c.args.terms.now c.args.change.now c.args.parts.now.entries c.args.types.now.entries meaning c.args.passed c.args.number c.requires.number
    (sym c.spares.ensures ∙ c.if-spares.true) (sym c.has_no_free.ensures ∙ c.if-has_no_free.true) held

pub returns-in-Free-clause-changed : goal.returns-in-Free-clause-changed
returns-in-Free-clause-changed t c = λ meaning held.
    answers-leaf c.args.terms.now c.change_free.new.terms c.args.change.now c.args.parts.now.entries c.args.types.now.entries c.change_free.new.types.entries meaning _ c.change_free.result
    c.change_free.ensures.grows held (c.change_free.ensures.changed meaning held.held)

pub returns-in-Constant-clause-changed : goal.returns-in-Constant-clause-changed
returns-in-Constant-clause-changed t c = λ meaning held.
    let wanted = sym (ap (changed meaning c.args.passed) c.in-Constant.ensures.shape) in
    answers-leaf c.args.terms.now c.change_constant.new.terms c.args.change.now c.args.parts.now.entries c.args.types.now.entries c.change_constant.new.types.entries meaning _
    c.change_constant.result c.change_constant.ensures.grows held
    (subst (λ (u : Nameless). AnswersLeaf u c.change_constant.result c.change_constant.new.terms c.args.change.now c.change_constant.new.types.entries meaning) wanted
    (c.change_constant.ensures.changed meaning held.held))

-- combinations

pub returns-in-Some-clause-changed : goal.returns-in-Some-clause-changed
returns-in-Some-clause-changed t c = λ meaning held.
    answers-known c.args.terms.now c.args.change.now c.args.parts.now.entries c.args.types.now.entries meaning c.args.passed c.args.number c.in-Some.new c.in-Some.ensures held

pub returns-in_err-new_function-in-Application-clause-changed : goal.returns-in_err-new_function-in-Application-clause-changed
returns-in_err-new_function-in-Application-clause-changed t c = λ meaning held.
    let p = err_from_is_err_and c.from_residual.result c.from_residual.ensures.1 in
    let terms = c.args.terms.now.terms in
    rw (p.1, p.2)
    (refused-function meaning c.args.passed (term_at terms c.args.number) (term_at terms c.in-Application.function) (term_at terms c.in-Application.argument) c.in-Application.ensures.shape
    c.in_err-new_function-in-Application.field-0.0
    c.change_at.new.terms c.args.change.now c.change_at.new.parts.entries c.change_at.new.types.entries (c.in_err-new_function-in-Application.ensures.changed meaning held))

pub change_at-requires-in-Application : goal.change_at-requires-in-Application
change_at-requires-in-Application t c =
    let t0 = c.args.terms.now in
    let t1 = c.change_at.new.terms in
    let grown = c.change_at.ensures.grows in
    let before : c.in-Application.argument < c.args.number = c.in-Application.ensures.parts.1 in
    let known : c.args.number < length t0.terms = c.requires.number in
    let within : c.in-Application.argument < length t0.terms = omega arith in
    let same = term-grown t0 t1 c.in-Application.argument grown within in
    let shallow : c.args.passed + nameless_height (term_at t0.terms c.in-Application.argument) ≤ 2000 = let whole = c.requires.shallow in let height =
    ap nameless_height c.in-Application.ensures.shape in omega arith in
    let work = c.requires.work in (
      omega arith,
      (
        within-grown t0 t1 c.in-Application.argument grown within,
        (
          subst (λ (u : Nameless). c.args.passed + nameless_height u ≤ 2000) (sym same) shallow,
          record { meaning = work.meaning; held = (c.change_at.ensures.changed work.meaning work.held).held },
        ),
      ),
    )

pub returns-in_err-new_argument-in-Application-clause-changed : goal.returns-in_err-new_argument-in-Application-clause-changed
returns-in_err-new_argument-in-Application-clause-changed t c = λ meaning held.
    let p = err_from_is_err_and c.from_residual-in_err-new_argument-in-Application.result c.from_residual-in_err-new_argument-in-Application.ensures.1 in
    let t0 = c.args.terms.now in
    let t1 = c.change_at.new.terms in
    let before : c.in-Application.argument < c.args.number = c.in-Application.ensures.parts.1 in
    let known : c.args.number < length t0.terms = c.requires.number in
    let within : c.in-Application.argument < length t0.terms = omega arith in
    let first = c.in_ok-new_function-in-Application.ensures.changed meaning held in
    rw (p.1, p.2)
    (refused-argument meaning c.args.passed (term_at t0.terms c.args.number) (term_at t0.terms c.in-Application.function) (term_at t1.terms c.in-Application.argument)
    (c.in-Application.ensures.shape ∙ ap (app (term_at t0.terms c.in-Application.function)) (sym (term-grown t0 t1 c.in-Application.argument c.change_at.ensures.grows within)))
    c.in_err-new_argument-in-Application.field-0.0
    c.change_at-in-Application.new.terms c.args.change.now c.change_at-in-Application.new.parts.entries c.change_at-in-Application.new.types.entries
    (c.in_err-new_argument-in-Application.ensures.changed meaning first.held))

pub application-requires-clause-function : goal.application-requires-clause-function
application-requires-clause-function t c =
    let work = c.requires.work in
    within-grown c.change_at.new.terms c.change_at-in-Application.new.terms c.in_ok-new_function-in-Application.new_function c.change_at-in-Application.ensures.grows
    (is_within _ c.in_ok-new_function-in-Application.new_function _ (c.in_ok-new_function-in-Application.ensures.changed work.meaning work.held).answered.number)

pub application-requires-clause-argument : goal.application-requires-clause-argument
application-requires-clause-argument t c =
    let work = c.requires.work in
    is_within _ c.in_ok-new_argument-in-Application.new_argument _ (c.in_ok-new_argument-in-Application.ensures.changed work.meaning
    (c.in_ok-new_function-in-Application.ensures.changed work.meaning work.held).held).answered.number

pub returns-in_ok-new-in-Application-clause-changed : goal.returns-in_ok-new-in-Application-clause-changed
returns-in_ok-new-in-Application-clause-changed t c = λ meaning held.
    let t0 = c.args.terms.now in
    let t1 = c.change_at.new.terms in
    let t2 = c.change_at-in-Application.new.terms in
    let t3 = c.application.new.self in
    let before : c.in-Application.argument < c.args.number = c.in-Application.ensures.parts.1 in
    let known : c.args.number < length t0.terms = c.requires.number in
    let within : c.in-Application.argument < length t0.terms = omega arith in
    let first = c.in_ok-new_function-in-Application.ensures.changed meaning held in
    let second = c.in_ok-new_argument-in-Application.ensures.changed meaning first.held in
    let shape = c.in-Application.ensures.shape ∙ ap (app (term_at t0.terms c.in-Application.function)) (sym (term-grown t0 t1 c.in-Application.argument c.change_at.ensures.grows within)) in
    let parts = application-parts t1 t2 meaning c.args.passed (term_at t0.terms c.args.number) (term_at t0.terms c.in-Application.function) (term_at t1.terms c.in-Application.argument)
    c.in_ok-new_function-in-Application.new_function c.in_ok-new_argument-in-Application.new_argument
    c.change_at-in-Application.ensures.grows shape first.answered.number second.answered.number in
    answers-made t0 t2 t3 c.args.change.now c.change_at-in-Application.new.parts.entries c.remember.new.parts.entries c.change_at-in-Application.new.types.entries meaning c.args.passed
    c.args.number _ c.in_ok-new-in-Application.new c.remember.result
    (IsGrown-trans t0 t1 t3 c.change_at.ensures.grows (IsGrown-trans t1 t2 t3 c.change_at-in-Application.ensures.grows c.application.ensures.grows)) c.application.ensures.grows
    c.requires.number parts c.in_ok-new-in-Application.ensures.number second.held
    c.remember.ensures.new c.remember.ensures.refused c.remember.ensures.added

pub returns-in_err-new-in-Application-clause-changed : goal.returns-in_err-new-in-Application-clause-changed
returns-in_err-new-in-Application-clause-changed t c = λ meaning held.
    let p = err_from_is_err_and c.from_residual-in_err-new-in-Application.result c.from_residual-in_err-new-in-Application.ensures.1 in
    let t0 = c.args.terms.now in
    let t1 = c.change_at.new.terms in
    let t2 = c.change_at-in-Application.new.terms in
    let t3 = c.application.new.self in
    let before : c.in-Application.argument < c.args.number = c.in-Application.ensures.parts.1 in
    let known : c.args.number < length t0.terms = c.requires.number in
    let within : c.in-Application.argument < length t0.terms = omega arith in
    let first = c.in_ok-new_function-in-Application.ensures.changed meaning held in
    let second = c.in_ok-new_argument-in-Application.ensures.changed meaning first.held in
    let shape = c.in-Application.ensures.shape ∙ ap (app (term_at t0.terms c.in-Application.function)) (sym (term-grown t0 t1 c.in-Application.argument c.change_at.ensures.grows within)) in
    let parts = application-parts t1 t2 meaning c.args.passed (term_at t0.terms c.args.number) (term_at t0.terms c.in-Application.function) (term_at t1.terms c.in-Application.argument)
    c.in_ok-new_function-in-Application.new_function c.in_ok-new_argument-in-Application.new_argument
    c.change_at-in-Application.ensures.grows shape first.answered.number second.answered.number in
    rw (p.1, p.2)
    (answers-refused t2 t3 c.args.change.now c.change_at-in-Application.new.parts.entries c.change_at-in-Application.new.types.entries meaning _ _ c.in_err-new-in-Application.field-0.0
    c.application.ensures.grows parts c.in_err-new-in-Application.ensures.refused second.held)

-- abstractions

pub returns-in-Some-recall-clause-changed : goal.returns-in-Some-recall-clause-changed
returns-in-Some-recall-clause-changed t c = λ meaning held.
    answers-known c.args.terms.now c.args.change.now c.args.parts.now.entries c.args.types.now.entries meaning c.args.passed c.args.number c.in-Some-recall.new c.in-Some-recall.ensures held

pub returns-in_err-new_ty-in-Abstraction-clause-changed : goal.returns-in_err-new_ty-in-Abstraction-clause-changed
returns-in_err-new_ty-in-Abstraction-clause-changed t c = λ meaning held.
    let p = err_from_is_err_and c.from_residual-in_err-new_ty-in-Abstraction.result c.from_residual-in_err-new_ty-in-Abstraction.ensures.1 in
    let t0 = c.args.terms.now in
    rw (p.1, p.2)
    (refused-binder meaning c.args.passed (term_at t0.terms c.args.number) (type_at t0.types c.in-Abstraction.ty) (term_at t0.terms c.in-Abstraction.body) c.in-Abstraction.ensures.shape
    c.in_err-new_ty-in-Abstraction.field-0.0 t0 c.change_type.new.terms c.args.change.now
    c.args.parts.now.entries c.args.types.now.entries c.change_type.new.types.entries c.change_type.ensures.grows held (c.in_err-new_ty-in-Abstraction.ensures.changed meaning held.held))

pub change_at-requires-in-Abstraction : goal.change_at-requires-in-Abstraction
change_at-requires-in-Abstraction t c =
    let t0 = c.args.terms.now in
    let t1 = c.change_type.new.terms in
    let grown = c.change_type.ensures.grows in
    let before : c.in-Abstraction.body < c.args.number = c.in-Abstraction.ensures.parts.1 in
    let known : c.args.number < length t0.terms = c.requires.number in
    let within : c.in-Abstraction.body < length t0.terms = omega arith in
    let same = term-grown t0 t1 c.in-Abstraction.body grown within in
    let inside : c.deeper-inside.result ≤ c.args.passed + 1 = inside-bound c.args.change.now c.args.passed c.deeper-inside.result c.deeper-inside.ensures in
    let shallow : c.deeper-inside.result + nameless_height (term_at t0.terms c.in-Abstraction.body) ≤ 2000 = let whole = c.requires.shallow in let height =
    ap nameless_height c.in-Abstraction.ensures.shape in omega arith in
    let work = c.requires.work in
    let after = held-after-type work.meaning t0 t1 c.args.change.now c.args.parts.now.entries c.args.types.now.entries c.change_type.new.types.entries grown work.held
    (c.change_type.ensures.changed work.meaning work.held.held).held in (
      omega arith,
      (
        within-grown t0 t1 c.in-Abstraction.body grown within,
        (
          subst (λ (u : Nameless). c.deeper-inside.result + nameless_height u ≤ 2000) (sym same) shallow,
          record { meaning = work.meaning; held = after },
        ),
      ),
    )

pub returns-in_err-new_body-in-Abstraction-clause-changed : goal.returns-in_err-new_body-in-Abstraction-clause-changed
returns-in_err-new_body-in-Abstraction-clause-changed t c = λ meaning held.
    let p = err_from_is_err_and c.from_residual-in_err-new_body-in-Abstraction.result c.from_residual-in_err-new_body-in-Abstraction.ensures.1 in
    let t0 = c.args.terms.now in
    let t1 = c.change_type.new.terms in
    let before : c.in-Abstraction.body < c.args.number = c.in-Abstraction.ensures.parts.1 in
    let known : c.args.number < length t0.terms = c.requires.number in
    let within : c.in-Abstraction.body < length t0.terms = omega arith in
    let same = term-grown t0 t1 c.in-Abstraction.body c.change_type.ensures.grows within in
    let after = held-after-type meaning t0 t1 c.args.change.now c.args.parts.now.entries c.args.types.now.entries c.change_type.new.types.entries c.change_type.ensures.grows held
    (c.in_ok-new_ty-in-Abstraction.ensures.changed meaning held.held).held in
    rw (p.1, p.2)
    (refused-body meaning c.args.passed c.deeper-inside.result (term_at t0.terms c.args.number) (type_at t0.types c.in-Abstraction.ty) (term_at t1.terms c.in-Abstraction.body)
    (c.in-Abstraction.ensures.shape ∙ ap (lam (type_at t0.types c.in-Abstraction.ty)) (sym same))
    (under-is t0 c.args.change.now meaning held.held.meant c.args.passed c.deeper-inside.result c.deeper-inside.ensures) c.in_err-new_body-in-Abstraction.field-0.0
    c.change_at-in-Abstraction.new.terms
    c.args.change.now c.change_at-in-Abstraction.new.parts.entries c.change_at-in-Abstraction.new.types.entries
    (c.in_err-new_body-in-Abstraction.ensures.changed meaning after))

pub abstraction-requires-clause-ty : goal.abstraction-requires-clause-ty
abstraction-requires-clause-ty t c =
    let work = c.requires.work in
    type-within c.change_type.new.terms.types c.change_at-in-Abstraction.new.terms.types c.in_ok-new_ty-in-Abstraction.new_ty c.change_at-in-Abstraction.ensures.grows.types
    (is_within _ c.in_ok-new_ty-in-Abstraction.new_ty _ (c.in_ok-new_ty-in-Abstraction.ensures.changed work.meaning work.held.held).number)

pub abstraction-requires-clause-body : goal.abstraction-requires-clause-body
abstraction-requires-clause-body t c =
    let work = c.requires.work in
    let after = held-after-type work.meaning c.args.terms.now c.change_type.new.terms c.args.change.now c.args.parts.now.entries c.args.types.now.entries c.change_type.new.types.entries
    c.change_type.ensures.grows work.held (c.in_ok-new_ty-in-Abstraction.ensures.changed work.meaning work.held.held).held in
    is_within _ c.in_ok-new_body-in-Abstraction.new_body _ (c.in_ok-new_body-in-Abstraction.ensures.changed work.meaning after).answered.number

pub returns-in_ok-new-in-Abstraction-clause-changed : goal.returns-in_ok-new-in-Abstraction-clause-changed
returns-in_ok-new-in-Abstraction-clause-changed t c = λ meaning held.
    let t0 = c.args.terms.now in
    let t1 = c.change_type.new.terms in
    let t2 = c.change_at-in-Abstraction.new.terms in
    let t3 = c.abstraction.new.self in
    let before : c.in-Abstraction.body < c.args.number = c.in-Abstraction.ensures.parts.1 in
    let known : c.args.number < length t0.terms = c.requires.number in
    let within : c.in-Abstraction.body < length t0.terms = omega arith in
    let same = term-grown t0 t1 c.in-Abstraction.body c.change_type.ensures.grows within in
    let first = c.in_ok-new_ty-in-Abstraction.ensures.changed meaning held.held in
    let after = held-after-type meaning t0 t1 c.args.change.now c.args.parts.now.entries c.args.types.now.entries c.change_type.new.types.entries c.change_type.ensures.grows held first.held in
    let second = c.in_ok-new_body-in-Abstraction.ensures.changed meaning after in
    let parts = abstraction-parts t1 t2 meaning c.args.passed c.deeper-inside.result (term_at t0.terms c.args.number) (type_at t0.types c.in-Abstraction.ty)
    (term_at t1.terms c.in-Abstraction.body) c.in_ok-new_ty-in-Abstraction.new_ty c.in_ok-new_body-in-Abstraction.new_body
    c.change_at-in-Abstraction.ensures.grows (c.in-Abstraction.ensures.shape ∙ ap (lam (type_at t0.types c.in-Abstraction.ty)) (sym same))
    (under-is t0 c.args.change.now meaning held.held.meant c.args.passed c.deeper-inside.result c.deeper-inside.ensures) first.number second.answered.number in
    answers-made t0 t2 t3 c.args.change.now c.change_at-in-Abstraction.new.parts.entries c.remember-in-Abstraction.new.parts.entries c.change_at-in-Abstraction.new.types.entries meaning
    c.args.passed c.args.number _ c.in_ok-new-in-Abstraction.new c.remember-in-Abstraction.result
    (IsGrown-trans t0 t1 t3 c.change_type.ensures.grows (IsGrown-trans t1 t2 t3 c.change_at-in-Abstraction.ensures.grows c.abstraction.ensures.grows)) c.abstraction.ensures.grows
    c.requires.number parts c.in_ok-new-in-Abstraction.ensures.number second.held
    c.remember-in-Abstraction.ensures.new c.remember-in-Abstraction.ensures.refused c.remember-in-Abstraction.ensures.added

pub returns-in_err-new-in-Abstraction-clause-changed : goal.returns-in_err-new-in-Abstraction-clause-changed
returns-in_err-new-in-Abstraction-clause-changed t c = λ meaning held.
    let p = err_from_is_err_and c.from_residual-in_err-new-in-Abstraction.result c.from_residual-in_err-new-in-Abstraction.ensures.1 in
    let t0 = c.args.terms.now in
    let t1 = c.change_type.new.terms in
    let t2 = c.change_at-in-Abstraction.new.terms in
    let t3 = c.abstraction.new.self in
    let before : c.in-Abstraction.body < c.args.number = c.in-Abstraction.ensures.parts.1 in
    let known : c.args.number < length t0.terms = c.requires.number in
    let within : c.in-Abstraction.body < length t0.terms = omega arith in
    let same = term-grown t0 t1 c.in-Abstraction.body c.change_type.ensures.grows within in
    let first = c.in_ok-new_ty-in-Abstraction.ensures.changed meaning held.held in
    let after = held-after-type meaning t0 t1 c.args.change.now c.args.parts.now.entries c.args.types.now.entries c.change_type.new.types.entries c.change_type.ensures.grows held first.held in
    let second = c.in_ok-new_body-in-Abstraction.ensures.changed meaning after in
    let parts = abstraction-parts t1 t2 meaning c.args.passed c.deeper-inside.result (term_at t0.terms c.args.number) (type_at t0.types c.in-Abstraction.ty)
    (term_at t1.terms c.in-Abstraction.body) c.in_ok-new_ty-in-Abstraction.new_ty c.in_ok-new_body-in-Abstraction.new_body
    c.change_at-in-Abstraction.ensures.grows (c.in-Abstraction.ensures.shape ∙ ap (lam (type_at t0.types c.in-Abstraction.ty)) (sym same))
    (under-is t0 c.args.change.now meaning held.held.meant c.args.passed c.deeper-inside.result c.deeper-inside.ensures) first.number second.answered.number in
    rw (p.1, p.2)
    (answers-refused t2 t3 c.args.change.now c.change_at-in-Abstraction.new.parts.entries c.change_at-in-Abstraction.new.types.entries meaning _ _ c.in_err-new-in-Abstraction.field-0.0
    c.abstraction.ensures.grows parts c.in_err-new-in-Abstraction.ensures.refused second.held)
