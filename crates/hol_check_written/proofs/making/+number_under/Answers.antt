use Rattle.std.proofs.Common.{◌<◌, length, refl, subst, arith}
use Rattle.std.proofs.lemmas.Result.{err_from_is_err_and}
use Rattle.std.proofs.lemmas.Option.{slice_get-get_or}
use Rattle.hol_check_terms.proofs.TableLemmas.{is_within}
use Rattle.hol_check_terms.proofs.GrowthLemmas.{within-grown, IsGrown-trans}
use Rattle.hol_check_written.specs.Making.{binders_in, AreNumbered}
use Rattle.hol_check_written.specs.declared.written.WrittenShape.TheVariants.{Variable, Application, Abstraction}
use Rattle.hol_check_written.proofs.NamedLemmas.{free-grown}
use Rattle.hol_check_written.proofs.MakingLemmas.{Stays-trans, binders-still, shallow-still, work-after, recalled, parts-here, variable-shallow, variable-numbers, constant-numbers}
use Rattle.hol_check_written.proofs.MakingLemmas.{function-shallow, argument-shallow, body-shallow, kept-numbers, application-made, abstraction-made, none-numbered, covered-more, numbered-grown}
use Rattle.hol_check_written.proofs.making.«+number_under».Goals as goal

pub number_under-returns-in-Some : goal.number_under-returns-in-Some
number_under-returns-in-Some t c = recalled c.args.terms.now c.args.written.now c.args.binders.now c.args.line c.args.made.now.entries c.args.known.now.entries c.requires.work _
    (slice_get-get_or c.args.written.now c.args.line _ c.requires.line) c.is_apart-is_apart.result c.in-Some.number c.is_apart-is_apart.ensures c.in-Some.ensures

-- leaves

pub number_under-variable_under-requires-clause-number : goal.number_under-variable_under-requires-clause-number
number_under-variable_under-requires-clause-number t c = parts-here c.args.terms.now c.args.written.now c.args.binders.now c.args.line c.args.made.now.entries c.args.known.now.entries
    c.requires.work _ (slice_get-get_or c.args.written.now c.args.line _ c.requires.line) (Variable c.in-Variable.number) c.in-Variable.is

pub number_under-variable_under-requires-clause-shallow : goal.number_under-variable_under-requires-clause-shallow
number_under-variable_under-requires-clause-shallow t c = variable-shallow c.args.terms.now c.args.written.now c.args.binders.now c.args.line c.args.made.now.entries c.args.known.now.entries
    c.requires.work _ (slice_get-get_or c.args.written.now c.args.line _ c.requires.line) c.in-Variable.number c.in-Variable.is c.requires.shallow

pub number_under-returns-in-Variable : goal.number_under-returns-in-Variable
number_under-returns-in-Variable t c = variable-numbers c.args.terms.now c.args.written.now c.args.binders.now c.args.line c.args.made.now.entries c.args.known.now.entries c.requires.work _
    (slice_get-get_or c.args.written.now c.args.line _ c.requires.line) c.in-Variable.number c.variable_under.new.terms c.variable_under.result c.in-Variable.is
    c.variable_under.ensures.grows c.variable_under.ensures.number c.variable_under.ensures.refused

pub number_under-returns-in-Constant : goal.number_under-returns-in-Constant
number_under-returns-in-Constant t c = constant-numbers c.args.terms.now c.args.written.now c.args.binders.now c.args.line c.args.made.now.entries c.args.known.now.entries c.requires.work _
    (slice_get-get_or c.args.written.now c.args.line _ c.requires.line) c.in-Constant.number c.in-Constant.is

-- combinations

pub number_under-number_under-requires : goal.number_under-number_under-requires
number_under-number_under-requires t c =
    let parts = parts-here c.args.terms.now c.args.written.now c.args.binders.now c.args.line c.args.made.now.entries c.args.known.now.entries c.requires.work _
    (slice_get-get_or c.args.written.now c.args.line _ c.requires.line) (Application c.in-Application.function c.in-Application.argument) c.in-Application.is in
    let before : c.in-Application.function < c.args.line = parts.0 in
    let within : c.args.line < length c.args.written.now = c.requires.line in (
      omega arith,
      (
        omega arith,
        (
          function-shallow c.args.terms.now c.args.written.now c.args.binders.now c.args.line c.args.made.now.entries c.args.known.now.entries c.requires.work _
              (slice_get-get_or c.args.written.now c.args.line _ c.requires.line) c.in-Application.function c.in-Application.argument c.in-Application.is c.requires.shallow,
          c.requires.work,
        ),
      ),
    )

pub number_under-number_under-requires-in-Application : goal.number_under-number_under-requires-in-Application
number_under-number_under-requires-in-Application t c =
    let parts = parts-here c.args.terms.now c.args.written.now c.args.binders.now c.args.line c.args.made.now.entries c.args.known.now.entries c.requires.work _
    (slice_get-get_or c.args.written.now c.args.line _ c.requires.line) (Application c.in-Application.function c.in-Application.argument) c.in-Application.is in
    let before : c.in-Application.argument < c.args.line = parts.1 in
    let within : c.args.line < length c.args.written.now = c.requires.line in
    let shallow = argument-shallow c.args.terms.now c.args.written.now c.args.binders.now c.args.line c.args.made.now.entries c.args.known.now.entries c.requires.work _
    (slice_get-get_or c.args.written.now c.args.line _ c.requires.line) c.in-Application.function c.in-Application.argument c.in-Application.is c.requires.shallow in (
      omega arith,
      (
        omega arith,
        (
          shallow-still c.args.terms.now c.number_under.new.terms c.number_under.ensures.grows c.args.written.now c.requires.work.written_are c.args.binders.now c.in-Application.argument
              c.requires.work.binders_are shallow,
          work-after c.args.terms.now c.number_under.new.terms c.args.written.now c.args.binders.now c.in-Application.function c.args.made.now.entries c.args.known.now.entries
              c.number_under.new.made.entries c.number_under.new.known.entries c.number_under.result c.requires.work c.number_under.ensures,
        ),
      ),
    )

pub number_under-application-whole-requires-clause-function : goal.number_under-application-whole-requires-clause-function
number_under-application-whole-requires-clause-function t c =
    within-grown c.number_under.new.terms c.number_under-in-Application.new.terms c.in_ok-new_function-in-Application.new_function c.number_under-in-Application.ensures.grows
    (is_within c.number_under.new.terms.terms c.in_ok-new_function-in-Application.new_function _ c.in_ok-new_function-in-Application.ensures.number)

pub number_under-application-whole-requires-clause-argument : goal.number_under-application-whole-requires-clause-argument
number_under-application-whole-requires-clause-argument t c = is_within c.number_under-in-Application.new.terms.terms c.in_ok-new_argument-in-Application.new_argument _
    c.in_ok-new_argument-in-Application.ensures.number

pub number_under-returns-in_ok-new_argument-in-Application : goal.number_under-returns-in_ok-new_argument-in-Application
number_under-returns-in_ok-new_argument-in-Application t c =
    let t0 = c.args.terms.now in
    let t1 = c.number_under.new.terms in
    let t2 = c.number_under-in-Application.new.terms in
    let binders = c.args.binders.now in
    let written = c.args.written.now in
    kept-numbers t0 t2 c.application-whole.new.self written (binders_in t0.terms binders) c.args.line c.args.made.now.entries c.number_under-in-Application.new.made.entries
    c.keep_made.new.made.entries
    c.number_under-in-Application.new.known.entries c.keep_made.new.known.entries c.is_apart-is_apart.result _ c.keep_made.result
    c.requires.work.written_are c.requires.line (IsGrown-trans t0 t1 t2 c.in_ok-new_function-in-Application.ensures.grows c.in_ok-new_argument-in-Application.ensures.grows)
    c.in_ok-new_argument-in-Application.ensures.made_are
    (subst (λ around. AreNumbered t2 written around c.number_under-in-Application.new.known.entries) (binders-still t0 t1 c.in_ok-new_function-in-Application.ensures.grows
    binders c.requires.work.binders_are)
    c.in_ok-new_argument-in-Application.ensures.known_are)
    (Stays-trans c.args.made.now.entries c.number_under.new.made.entries c.number_under-in-Application.new.made.entries c.in_ok-new_function-in-Application.ensures.stays
    c.in_ok-new_argument-in-Application.ensures.stays)
    (application-made t0 t1 written binders c.args.line c.args.made.now.entries c.args.known.now.entries c.requires.work _ (slice_get-get_or written c.args.line _ c.requires.line)
    c.in_ok-new_function-in-Application.ensures.grows t2
    c.in-Application.function c.in-Application.argument c.in_ok-new_function-in-Application.new_function c.in_ok-new_argument-in-Application.new_argument c.in-Application.is
    c.in_ok-new_argument-in-Application.ensures.grows c.in_ok-new_function-in-Application.ensures.number
    c.in_ok-new_argument-in-Application.ensures.number)
    (λ known. c.is_apart-is_apart.ensures known _ (c.requires.work.written_are c.args.line _ (slice_get-get_or written c.args.line _ c.requires.line)).writes.counted)
    (c.keep_made.ensures _ t2 c.application-whole.new.self c.application-whole.ensures.grows c.application-whole.ensures.number)

pub number_under-returns-in_err-new_argument-in-Application : goal.number_under-returns-in_err-new_argument-in-Application
number_under-returns-in_err-new_argument-in-Application t c =
    let p = err_from_is_err_and c.from_residual-in_err-new_argument-in-Application.result c.from_residual-in_err-new_argument-in-Application.ensures.1 in
    let t0 = c.args.terms.now in
    let t1 = c.number_under.new.terms in
    let t2 = c.number_under-in-Application.new.terms in
    rw (p.1, p.2)
    (record {
      number = tt;
      refused = c.in_err-new_argument-in-Application.ensures.refused;
      grows = IsGrown-trans t0 t1 t2 c.in_ok-new_function-in-Application.ensures.grows c.in_err-new_argument-in-Application.ensures.grows;
      made_are = c.in_err-new_argument-in-Application.ensures.made_are;
      known_are = subst (λ around. AreNumbered t2 c.args.written.now around c.number_under-in-Application.new.known.entries)
          (binders-still t0 t1 c.in_ok-new_function-in-Application.ensures.grows c.args.binders.now c.requires.work.binders_are) c.in_err-new_argument-in-Application.ensures.known_are;
      stays = Stays-trans c.args.made.now.entries c.number_under.new.made.entries c.number_under-in-Application.new.made.entries
          c.in_ok-new_function-in-Application.ensures.stays c.in_err-new_argument-in-Application.ensures.stays;
    })

pub number_under-returns-in_err-new_function-in-Application : goal.number_under-returns-in_err-new_function-in-Application
number_under-returns-in_err-new_function-in-Application t c =
    let p = err_from_is_err_and c.from_residual.result c.from_residual.ensures.1 in
    rw (p.1, p.2)
    (record {
      number = tt;
      refused = c.in_err-new_function-in-Application.ensures.refused;
      grows = c.in_err-new_function-in-Application.ensures.grows;
      made_are = c.in_err-new_function-in-Application.ensures.made_are;
      known_are = c.in_err-new_function-in-Application.ensures.known_are;
      stays = c.in_err-new_function-in-Application.ensures.stays;
    })

-- abstractions

pub number_under-number_of_body-requires : goal.number_under-number_of_body-requires
number_under-number_of_body-requires t c =
    let parts = parts-here c.args.terms.now c.args.written.now c.args.binders.now c.args.line c.args.made.now.entries c.args.known.now.entries c.requires.work _
    (slice_get-get_or c.args.written.now c.args.line _ c.requires.line) (Abstraction c.in-Abstraction.binder c.in-Abstraction.body) c.in-Abstraction.is in
    let before : c.in-Abstraction.body < c.args.line = parts.1 in
    let within : c.args.line < length c.args.written.now = c.requires.line in (
      omega arith,
      (
        parts.0,
        (
          omega arith,
          (
            body-shallow c.args.terms.now c.args.written.now c.args.binders.now c.args.line c.args.made.now.entries c.args.known.now.entries c.requires.work _
                (slice_get-get_or c.args.written.now c.args.line _ c.requires.line) c.in-Abstraction.binder c.in-Abstraction.body c.in-Abstraction.is c.requires.shallow,
            record {
              written_are = c.requires.work.written_are;
              binders_are = c.requires.work.binders_are;
              made_are = c.requires.work.made_are;
              known_are = none-numbered c.args.terms.now c.args.written.now _ _ refl;
            },
          ),
        ),
      ),
    )

pub number_under-variable_type-ty-requires : goal.number_under-variable_type-ty-requires
number_under-variable_type-ty-requires t c =
    free-grown c.args.terms.now c.number_of_body.new.terms c.in_ok-new_body-in-Abstraction.ensures.grows c.in-Abstraction.binder
    (parts-here c.args.terms.now c.args.written.now c.args.binders.now c.args.line c.args.made.now.entries c.args.known.now.entries c.requires.work _
    (slice_get-get_or c.args.written.now c.args.line _ c.requires.line) (Abstraction c.in-Abstraction.binder c.in-Abstraction.body) c.in-Abstraction.is).0

pub number_under-abstraction-whole-requires-clause-body : goal.number_under-abstraction-whole-requires-clause-body
number_under-abstraction-whole-requires-clause-body t c = is_within c.number_of_body.new.terms.terms c.in_ok-new_body-in-Abstraction.new_body _ c.in_ok-new_body-in-Abstraction.ensures.number

pub number_under-returns-in_ok-new_body-in-Abstraction : goal.number_under-returns-in_ok-new_body-in-Abstraction
number_under-returns-in_ok-new_body-in-Abstraction t c =
    let t0 = c.args.terms.now in
    let t1 = c.number_of_body.new.terms in
    let binders = c.args.binders.now in
    let written = c.args.written.now in
    kept-numbers t0 t1 c.abstraction-whole.new.self written (binders_in t0.terms binders) c.args.line c.args.made.now.entries c.number_of_body.new.made.entries
    c.keep_made-in-Abstraction.new.made.entries
    c.args.known.now.entries c.keep_made-in-Abstraction.new.known.entries c.is_apart-is_apart.result _ c.keep_made-in-Abstraction.result
    c.requires.work.written_are c.requires.line c.in_ok-new_body-in-Abstraction.ensures.grows c.in_ok-new_body-in-Abstraction.ensures.made_are
    (numbered-grown t0 t1 c.in_ok-new_body-in-Abstraction.ensures.grows written c.requires.work.written_are (binders_in t0.terms binders) c.args.known.now.entries c.requires.work.known_are)
    c.in_ok-new_body-in-Abstraction.ensures.stays
    (abstraction-made t0 t1 written binders c.args.line c.args.made.now.entries c.args.known.now.entries c.requires.work _ (slice_get-get_or written c.args.line _ c.requires.line)
    c.in_ok-new_body-in-Abstraction.ensures.grows
    c.in-Abstraction.binder c.in-Abstraction.body c.variable_type-ty.result c.in_ok-new_body-in-Abstraction.new_body c.in-Abstraction.is c.variable_type-ty.ensures.ty
    c.in_ok-new_body-in-Abstraction.ensures.number)
    (λ known. c.is_apart-is_apart.ensures known _ (c.requires.work.written_are c.args.line _ (slice_get-get_or written c.args.line _ c.requires.line)).writes.counted)
    (c.keep_made-in-Abstraction.ensures _ t1 c.abstraction-whole.new.self c.abstraction-whole.ensures.grows c.abstraction-whole.ensures.number)

pub number_under-returns-in_err-new_body-in-Abstraction : goal.number_under-returns-in_err-new_body-in-Abstraction
number_under-returns-in_err-new_body-in-Abstraction t c =
    let p = err_from_is_err_and c.from_residual-in_err-new_body-in-Abstraction.result c.from_residual-in_err-new_body-in-Abstraction.ensures.1 in
    let t0 = c.args.terms.now in
    let t1 = c.number_of_body.new.terms in
    rw (p.1, p.2)
    (record {
      number = tt;
      refused = c.in_err-new_body-in-Abstraction.ensures.refused;
      grows = c.in_err-new_body-in-Abstraction.ensures.grows;
      made_are = c.in_err-new_body-in-Abstraction.ensures.made_are;
      known_are = numbered-grown t0 t1 c.in_err-new_body-in-Abstraction.ensures.grows c.args.written.now c.requires.work.written_are (binders_in t0.terms c.args.binders.now) c.args.known.now.entries
          c.requires.work.known_are;
      stays = c.in_err-new_body-in-Abstraction.ensures.stays;
    })

-- the body of an abstraction

pub number_of_body-number_under-requires : goal.number_of_body-number_under-requires
number_of_body-number_under-requires t c = (
  omega arith,
  (
    c.requires.body,
    (
      c.requires.shallow,
      record {
        written_are = c.requires.work.written_are;
        binders_are = (
          c.requires.binder,
          c.joined-covers.ensures.first c.args.binder c.one_variable.ensures,
          covered-more c.covered.result c.joined-covers.result c.joined-covers.ensures.second c.args.binders.now (c.covered.ensures c.args.terms.now.terms c.requires.work.binders_are),
          c.requires.work.binders_are,
        );
        made_are = c.requires.work.made_are;
        known_are = none-numbered c.args.terms.now c.args.written.now _ _ c.new-known.ensures.empty;
      },
    ),
  ),
)
