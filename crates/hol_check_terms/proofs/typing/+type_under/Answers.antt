use Rattle.std.proofs.Common.{◌<◌, length, sym, subst, Ok, Err, arith}
use Rattle.std.proofs.lemmas.Result.{err_from_is_err_and}
use Rattle.hol_check_terms.specs.Terms.{term_at}
use Rattle.hol_check_terms.specs.Typing.{binder_types, AnswersTyping}
use Rattle.hol_check_terms.proofs.TableLemmas.{is_within}
use Rattle.hol_check_terms.proofs.TypingLemmas.{types-still, typed-free, typed-const, typed-abstraction, typed-under_some, typed-kept}
use Rattle.hol_check_terms.proofs.KnownTypeLemmas.{known-grown, known-kept, typed-recalled, argument-refused, application-typed}
use Rattle.hol_check_terms.proofs.GrowthLemmas.{type-within, within-grown, term-grown, IsGrown-trans}
use Rattle.hol_check_terms.proofs.typing.«+type_under».Goals as goal

pub type_under-returns-in-Some-recall_type-clause-typed : goal.type_under-returns-in-Some-recall_type-clause-typed
type_under-returns-in-Some-recall_type-clause-typed t c = typed-recalled c.args.terms.now c.args.binders.now c.args.known.now.entries c.args.number c.in-Some-recall_type.ty c.requires.known
    c.in-Some-recall_type.ensures

pub type_under-returns-in-Some-recall_type-2-clause-typed : goal.type_under-returns-in-Some-recall_type-2-clause-typed
type_under-returns-in-Some-recall_type-2-clause-typed t c = typed-recalled c.args.terms.now c.args.binders.now c.args.known.now.entries c.args.number c.in-Some-recall_type-2.ty
    c.requires.known c.in-Some-recall_type-2.ensures

-- leaves

pub type_under-returns-in-Free-clause-typed : goal.type_under-returns-in-Free-clause-typed
type_under-returns-in-Free-clause-typed t c = typed-free c.args.terms.now.types _ _ _ c.in-Free.ty c.type_count-within_limit.result c.in-Free.ensures.shape c.in-Free.ensures.parts.1
    c.type_count-within_limit.ensures.count c.type_count-within_limit.ensures.within_limit

pub type_under-returns-in-Constant-clause-typed : goal.type_under-returns-in-Constant-clause-typed
type_under-returns-in-Constant-clause-typed t c = typed-const c.args.terms.now.types _ _ _ c.in-Constant.ty c.type_count-within_limit-in-Constant.result c.in-Constant.ensures.shape
    c.in-Constant.ensures.parts.1 c.type_count-within_limit-in-Constant.ensures.count c.type_count-within_limit-in-Constant.ensures.within_limit

pub type_under-returns-in-Bound-clause-known : goal.type_under-returns-in-Bound-clause-known
type_under-returns-in-Bound-clause-known t c = known-grown c.args.terms.now c.binder_at.new.terms c.args.binders.now c.args.known.now.entries c.binder_at.ensures.grows c.requires.binders
    c.requires.known

-- combinations

pub type_under-type_under-requires-in-Application : goal.type_under-type_under-requires-in-Application
type_under-type_under-requires-in-Application t c =
    let t0 = c.args.terms.now in
    let t1 = c.type_under.new.terms in
    let before : c.in-Application.argument < c.args.number = c.in-Application.ensures.parts.1 in
    let known : c.args.number < length t0.terms = c.requires.number in
    let within : c.in-Application.argument < length t0.terms = omega arith in (
      omega arith,
      (
        within-grown t0 t1 c.in-Application.argument c.type_under.ensures.grows within,
        (types-still t0.types t1.types c.type_under.ensures.grows.types c.args.binders.now c.requires.binders, c.type_under.ensures.known),
      ),
    )

pub type_under-codomain-requires : goal.type_under-codomain-requires
type_under-codomain-requires t c = type-within c.type_under.new.terms.types c.type_under-in-Application.new.terms.types c.in_ok-function_ty-in-Application.function_ty c.type_under-in-Application.ensures.grows.types
    (is_within _ c.in_ok-function_ty-in-Application.function_ty _ c.in_ok-function_ty-in-Application.ensures.typed.number)

pub type_under-keep-requires-clause-typed : goal.type_under-keep-requires-clause-typed
type_under-keep-requires-clause-typed t c =
    let t0 = c.args.terms.now in
    let t1 = c.type_under.new.terms in
    let t2 = c.type_under-in-Application.new.terms in
    let t3 = c.codomain.new.terms in
    let binders = c.args.binders.now in
    let made = application-typed t0 t1 t2 t3.types binders (term_at t0.terms c.args.number) c.args.number c.in-Application.function c.in-Application.argument c.in_ok-function_ty-in-Application.function_ty
    c.in_ok-type_under-in-Application.field-0 (Ok c.in_ok-ty-in-Application.ty)
    c.type_under.ensures.grows c.type_under-in-Application.ensures.grows c.requires.binders c.in-Application.ensures.parts.1 c.requires.number c.in-Application.ensures.shape
    c.in_ok-function_ty-in-Application.ensures.typed c.in_ok-type_under-in-Application.ensures.typed c.in_ok-ty-in-Application.ensures.number tt in
    let grown = IsGrown-trans t0 t1 t3 c.type_under.ensures.grows (IsGrown-trans t1 t2 t3 c.type_under-in-Application.ensures.grows c.in_ok-ty-in-Application.ensures.grows) in
    typed-under_some t3.types (binder_types t0.types binders) (term_at t3.terms c.args.number) c.in_ok-ty-in-Application.ty
    (subst (λ u. AnswersTyping (binder_types t0.types binders) u (Ok c.in_ok-ty-in-Application.ty) t3.types) (sym (term-grown t0 t3 c.args.number grown c.requires.number)) made)

pub type_under-returns-in_ok-ty-in-Application-clause-typed : goal.type_under-returns-in_ok-ty-in-Application-clause-typed
type_under-returns-in_ok-ty-in-Application-clause-typed t c =
    let t0 = c.args.terms.now in
    let t1 = c.type_under.new.terms in
    let t2 = c.type_under-in-Application.new.terms in
    let t3 = c.codomain.new.terms in
    let binders = c.args.binders.now in
    let made = application-typed t0 t1 t2 t3.types binders (term_at t0.terms c.args.number) c.args.number c.in-Application.function c.in-Application.argument c.in_ok-function_ty-in-Application.function_ty
    c.in_ok-type_under-in-Application.field-0 (Ok c.in_ok-ty-in-Application.ty)
    c.type_under.ensures.grows c.type_under-in-Application.ensures.grows c.requires.binders c.in-Application.ensures.parts.1 c.requires.number c.in-Application.ensures.shape
    c.in_ok-function_ty-in-Application.ensures.typed c.in_ok-type_under-in-Application.ensures.typed c.in_ok-ty-in-Application.ensures.number tt in
    typed-kept t3.types c.keep.new.terms.types (binder_types t0.types binders) (term_at t0.terms c.args.number) c.in_ok-ty-in-Application.ty c.keep.result c.keep.ensures.grows.types made
    c.keep.ensures.same c.keep.ensures.refused

pub type_under-returns-in_ok-ty-in-Application-clause-known : goal.type_under-returns-in_ok-ty-in-Application-clause-known
type_under-returns-in_ok-ty-in-Application-clause-known t c =
    let t0 = c.args.terms.now in
    let t1 = c.type_under.new.terms in
    let t2 = c.type_under-in-Application.new.terms in
    let t3 = c.codomain.new.terms in
    let t4 = c.keep.new.terms in
    let binders = c.args.binders.now in
    let made = application-typed t0 t1 t2 t3.types binders (term_at t0.terms c.args.number) c.args.number c.in-Application.function c.in-Application.argument c.in_ok-function_ty-in-Application.function_ty
    c.in_ok-type_under-in-Application.field-0 (Ok c.in_ok-ty-in-Application.ty)
    c.type_under.ensures.grows c.type_under-in-Application.ensures.grows c.requires.binders c.in-Application.ensures.parts.1 c.requires.number c.in-Application.ensures.shape
    c.in_ok-function_ty-in-Application.ensures.typed c.in_ok-type_under-in-Application.ensures.typed c.in_ok-ty-in-Application.ensures.number tt in
    let grown2 = IsGrown-trans t0 t1 t2 c.type_under.ensures.grows c.type_under-in-Application.ensures.grows in
    let still2 = types-still t0.types t2.types grown2.types binders c.requires.binders in
    let grown3 = IsGrown-trans t0 t2 t3 grown2 c.in_ok-ty-in-Application.ensures.grows in
    known-kept t0 t3 t4 binders c.type_under-in-Application.new.known.entries c.keep.new.known.entries c.args.number c.in_ok-ty-in-Application.ty grown3 c.keep.ensures.grows
    (IsGrown-trans t0 t3 t4 grown3 c.keep.ensures.grows) c.requires.binders
    (types-still t0.types t3.types grown3.types binders c.requires.binders) c.requires.number made c.keep.ensures.added
    (known-grown t2 t3 binders c.type_under-in-Application.new.known.entries c.in_ok-ty-in-Application.ensures.grows still2 c.in_ok-type_under-in-Application.ensures.known)

pub type_under-returns-in_err-ty-in-Application-clause-known : goal.type_under-returns-in_err-ty-in-Application-clause-known
type_under-returns-in_err-ty-in-Application-clause-known t c =
    let t0 = c.args.terms.now in
    let t1 = c.type_under.new.terms in
    let t2 = c.type_under-in-Application.new.terms in
    let binders = c.args.binders.now in
    let grown2 = IsGrown-trans t0 t1 t2 c.type_under.ensures.grows c.type_under-in-Application.ensures.grows in
    known-grown t2 c.codomain.new.terms binders c.type_under-in-Application.new.known.entries c.in_err-ty-in-Application.ensures.grows
    (types-still t0.types t2.types grown2.types binders c.requires.binders) c.in_ok-type_under-in-Application.ensures.known

pub type_under-returns-in_err-type_under-in-Application-clause-typed : goal.type_under-returns-in_err-type_under-in-Application-clause-typed
type_under-returns-in_err-type_under-in-Application-clause-typed t c =
    let p = err_from_is_err_and c.from_residual-in_err-type_under-in-Application.result c.from_residual-in_err-type_under-in-Application.ensures.1 in
    let t0 = c.args.terms.now in
    rw (p.1, p.2)
    (argument-refused t0 c.type_under.new.terms c.type_under-in-Application.new.terms.types c.args.binders.now (term_at t0.terms c.args.number) c.args.number c.in-Application.function
    c.in-Application.argument c.in_err-type_under-in-Application.field-0.0
    c.type_under.ensures.grows c.requires.binders c.in-Application.ensures.parts.1 c.requires.number c.in-Application.ensures.shape c.in_err-type_under-in-Application.ensures.typed)

-- abstractions

pub type_under-function_type-requires-clause-codomain : goal.type_under-function_type-requires-clause-codomain
type_under-function_type-requires-clause-codomain t c = is_within _ c.in_ok-body_ty-in-Abstraction.body_ty _ c.in_ok-body_ty-in-Abstraction.ensures.typed.number

pub type_under-keep-requires-in-Abstraction-clause-typed : goal.type_under-keep-requires-in-Abstraction-clause-typed
type_under-keep-requires-in-Abstraction-clause-typed t c =
    let t0 = c.args.terms.now in
    let t1 = c.type_of_body.new.terms in
    let t2 = c.function_type.new.self in
    let binders = binder_types t0.types c.args.binders.now in
    let made = typed-abstraction t0.types t1.types t2.types binders (term_at t0.terms c.args.number) c.in-Abstraction.ty (term_at t0.terms c.in-Abstraction.body) c.in_ok-body_ty-in-Abstraction.body_ty
    (Ok c.in_ok-whole-in-Abstraction.whole)
    c.type_of_body.ensures.grows.types c.in-Abstraction.ensures.parts.0 c.in-Abstraction.ensures.shape c.in_ok-body_ty-in-Abstraction.ensures.typed c.in_ok-whole-in-Abstraction.ensures.number
    c.in_ok-whole-in-Abstraction.ensures.within_limit tt in
    let grown = IsGrown-trans t0 t1 t2 c.type_of_body.ensures.grows c.in_ok-whole-in-Abstraction.ensures.grows in
    typed-under_some t2.types binders (term_at t2.terms c.args.number) c.in_ok-whole-in-Abstraction.whole
    (subst (λ u. AnswersTyping binders u (Ok c.in_ok-whole-in-Abstraction.whole) t2.types) (sym (term-grown t0 t2 c.args.number grown c.requires.number)) made)

pub type_under-returns-in_ok-whole-in-Abstraction-clause-typed : goal.type_under-returns-in_ok-whole-in-Abstraction-clause-typed
type_under-returns-in_ok-whole-in-Abstraction-clause-typed t c =
    let t0 = c.args.terms.now in
    let t1 = c.type_of_body.new.terms in
    let t2 = c.function_type.new.self in
    let binders = binder_types t0.types c.args.binders.now in
    let made = typed-abstraction t0.types t1.types t2.types binders (term_at t0.terms c.args.number) c.in-Abstraction.ty (term_at t0.terms c.in-Abstraction.body) c.in_ok-body_ty-in-Abstraction.body_ty
    (Ok c.in_ok-whole-in-Abstraction.whole)
    c.type_of_body.ensures.grows.types c.in-Abstraction.ensures.parts.0 c.in-Abstraction.ensures.shape c.in_ok-body_ty-in-Abstraction.ensures.typed c.in_ok-whole-in-Abstraction.ensures.number
    c.in_ok-whole-in-Abstraction.ensures.within_limit tt in
    typed-kept t2.types c.keep-in-Abstraction.new.terms.types binders (term_at t0.terms c.args.number) c.in_ok-whole-in-Abstraction.whole c.keep-in-Abstraction.result
    c.keep-in-Abstraction.ensures.grows.types made c.keep-in-Abstraction.ensures.same c.keep-in-Abstraction.ensures.refused

pub type_under-returns-in_ok-whole-in-Abstraction-clause-known : goal.type_under-returns-in_ok-whole-in-Abstraction-clause-known
type_under-returns-in_ok-whole-in-Abstraction-clause-known t c =
    let t0 = c.args.terms.now in
    let t1 = c.type_of_body.new.terms in
    let t2 = c.function_type.new.self in
    let t3 = c.keep-in-Abstraction.new.terms in
    let binders = c.args.binders.now in
    let made = typed-abstraction t0.types t1.types t2.types (binder_types t0.types binders) (term_at t0.terms c.args.number) c.in-Abstraction.ty (term_at t0.terms c.in-Abstraction.body)
    c.in_ok-body_ty-in-Abstraction.body_ty (Ok c.in_ok-whole-in-Abstraction.whole)
    c.type_of_body.ensures.grows.types c.in-Abstraction.ensures.parts.0 c.in-Abstraction.ensures.shape c.in_ok-body_ty-in-Abstraction.ensures.typed c.in_ok-whole-in-Abstraction.ensures.number
    c.in_ok-whole-in-Abstraction.ensures.within_limit tt in
    let grown = IsGrown-trans t0 t1 t2 c.type_of_body.ensures.grows c.in_ok-whole-in-Abstraction.ensures.grows in
    known-kept t0 t2 t3 binders c.args.known.now.entries c.keep-in-Abstraction.new.known.entries c.args.number c.in_ok-whole-in-Abstraction.whole grown c.keep-in-Abstraction.ensures.grows
    (IsGrown-trans t0 t2 t3 grown c.keep-in-Abstraction.ensures.grows) c.requires.binders
    (types-still t0.types t2.types grown.types binders c.requires.binders) c.requires.number made c.keep-in-Abstraction.ensures.added
    (known-grown t0 t2 binders c.args.known.now.entries grown c.requires.binders c.requires.known)

pub type_under-returns-in_err-whole-in-Abstraction-clause-typed : goal.type_under-returns-in_err-whole-in-Abstraction-clause-typed
type_under-returns-in_err-whole-in-Abstraction-clause-typed t c =
    let p = err_from_is_err_and c.from_residual-in_err-whole-in-Abstraction.result c.from_residual-in_err-whole-in-Abstraction.ensures.1 in
    let t0 = c.args.terms.now in
    rw (p.1, p.2)
    (typed-abstraction t0.types c.type_of_body.new.terms.types c.function_type.new.self.types (binder_types t0.types c.args.binders.now) (term_at t0.terms c.args.number) c.in-Abstraction.ty
    (term_at t0.terms c.in-Abstraction.body) c.in_ok-body_ty-in-Abstraction.body_ty (Err c.in_err-whole-in-Abstraction.field-0.0)
    c.type_of_body.ensures.grows.types c.in-Abstraction.ensures.parts.0 c.in-Abstraction.ensures.shape c.in_ok-body_ty-in-Abstraction.ensures.typed tt tt c.in_err-whole-in-Abstraction.ensures.refused)

pub type_under-returns-in_err-whole-in-Abstraction-clause-known : goal.type_under-returns-in_err-whole-in-Abstraction-clause-known
type_under-returns-in_err-whole-in-Abstraction-clause-known t c =
    let t0 = c.args.terms.now in
    let t2 = c.function_type.new.self in
    known-grown t0 t2 c.args.binders.now c.args.known.now.entries (IsGrown-trans t0 c.type_of_body.new.terms t2 c.type_of_body.ensures.grows c.in_err-whole-in-Abstraction.ensures.grows)
    c.requires.binders c.requires.known

pub type_under-returns-in_err-body_ty-in-Abstraction-clause-known : goal.type_under-returns-in_err-body_ty-in-Abstraction-clause-known
type_under-returns-in_err-body_ty-in-Abstraction-clause-known t c = known-grown c.args.terms.now c.type_of_body.new.terms c.args.binders.now c.args.known.now.entries c.type_of_body.ensures.grows
    c.requires.binders c.requires.known
