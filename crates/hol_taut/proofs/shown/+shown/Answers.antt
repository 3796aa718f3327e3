use Rattle.std.proofs.Common.{◌≡◌, ◌∙◌, Some, false, not, Ok, Err, sym, ap}
use Rattle.hol_model.specs.Terms.Nameless.{image}
use Rattle.hol_model.specs.Propositional.Connectives.{fact}
use Rattle.hol_bool.proofs.PreludeSteps.{still_formula}
use Rattle.hol_equal.proofs.StepLemmas.{continues-twice}
use Rattle.hol_taut.proofs.LawLemmas.{still_lawful}
use Rattle.hol_taut.specs.FactLists.{value_of, known_by}
use Rattle.hol_taut.specs.Proved.{Proves}
use Rattle.hol_taut.specs.Ways.{connected_image}
use Rattle.hol_taut.proofs.WayLemmas.{small-nowhere}
use Rattle.hol_taut.proofs.ShownLemmas.{is-known, after_first, leads-on, joined-on, still_held, still_all_held}
use Rattle.hol_taut.proofs.ShownSteps.{taken, lower-first, first-formula, first-side-known, first-side-small, first-leads, first-gives, first-only, lower-second, second-formula}
use Rattle.hol_taut.proofs.ShownSteps.{second-side-known, second-side-small, second-joined, second-gives, lower-part, negated-formula, negated-known, negated-small, negated-gives, atom-shown, constant-shown}
use Rattle.hol_taut_formulas.specs.Forms.{meant}
use Rattle.hol_equal.proofs.StepLemmas.{passed_on}
use Rattle.hol_taut.proofs.shown.+shown.Goals as goal

pub from_fact-requires-clause-known : goal.from_fact-requires-clause-known
from_fact-requires-clause-known t c =
    is-known (value_of c.args.facts.now c.args.term.now) c.args.value (sym (ap (known_by (value_of c.args.facts.now)) c.in-Atom.ensures.meaning) ∙ c.requires.known)

pub from_fact-requires-clause-held : goal.from_fact-requires-clause-held
from_fact-requires-clause-held t c =
    c.requires.held

pub constantly-requires : goal.constantly-requires
constantly-requires t c =
    c.requires.laws

pub shown-requires : goal.shown-requires
shown-requires t c = (
  lower-part t c.args.term.now c.in-Negated.part.now c.in-Negated.ensures.lower c.decreases,
  (
    c.requires.laws,
    (
      negated-formula c.args.recorder.now.theory c.args.term.now c.in-Negated.part.now c.in-Negated.ensures.whole c.requires.formula,
      (negated-known c.args.facts.now c.args.term.now c.in-Negated.part.now c.args.value c.in-Negated.ensures.meaning c.requires.known, (c.requires.held, c.requires.concluded)),
    ),
  ),
)

pub returns-in_err-opposite-in-Negated-clause-continues : goal.returns-in_err-opposite-in-Negated-clause-continues
returns-in_err-opposite-in-Negated-clause-continues t c =
    rw (passed_on c.from_residual.result c.in_err-opposite-in-Negated.field-0.0 c.from_residual.ensures.1) (
    c.in_err-opposite-in-Negated.ensures.continues)

pub returns-in_err-opposite-in-Negated-clause-shows : goal.returns-in_err-opposite-in-Negated-clause-shows
returns-in_err-opposite-in-Negated-clause-shows t c =
    rw (passed_on c.from_residual.result c.in_err-opposite-in-Negated.field-0.0 c.from_residual.ensures.1) (
    λ allowed room proved small.
    c.in_err-opposite-in-Negated.ensures.shows allowed room proved (negated-small c.args.term.now c.in-Negated.part.now room c.in-Negated.ensures.whole small))

pub denial-requires-clause-laws : goal.denial-requires-clause-laws
denial-requires-clause-laws t c =
    still_lawful c.args.recorder.now c.shown.new.recorder c.shown.result c.args.laws.now c.shown.ensures.continues c.requires.laws

pub denial-requires-clause-formula : goal.denial-requires-clause-formula
denial-requires-clause-formula t c =
    still_formula c.args.recorder.now c.shown.new.recorder c.shown.result c.in-Negated.part.now c.shown.ensures.continues
    (negated-formula c.args.recorder.now.theory c.args.term.now c.in-Negated.part.now c.in-Negated.ensures.whole c.requires.formula)

pub denial-requires-clause-premise : goal.denial-requires-clause-premise
denial-requires-clause-premise t c =
    c.in_ok-opposite-in-Negated.ensures.continues.held

pub denial-requires-clause-said : goal.denial-requires-clause-said
denial-requires-clause-said t c =
    let given = c.requires.concluded in
    let proves : Proves c.in_ok-opposite-in-Negated.opposite.theorem given.allowed (fact (not c.args.value) (image c.in-Negated.part.now)) =
    c.in_ok-opposite-in-Negated.ensures.shows given.allowed false given.proved (small-nowhere (image c.in-Negated.part.now)) in
    proves.concludes

pub shown-requires-in-Connected : goal.shown-requires-in-Connected
shown-requires-in-Connected t c =
    let is_taken = taken c.args.recorder.now.theory c.args.facts.now c.args.term.now c.in-Connected.left.now c.in-Connected.right.now (meant c.in-Connected.connective) c.args.value
    c.way_to-way.result c.known_value-left_value.result c.known_value-right_value.result
    c.requires.formula c.requires.known c.in-Connected.ensures.meaning c.in-Connected.ensures.whole c.known_value-left_value.ensures c.known_value-right_value.ensures c.way_to-way.ensures in (
      lower-first c.way_to-way.result t c.args.term.now c.in-Connected.left.now c.in-Connected.right.now c.first_side-side.result.now c.in-Connected.ensures.lower
          c.first_side-side.ensures c.decreases,
      (
        c.requires.laws,
        (
          first-formula c.args.recorder.now.theory c.way_to-way.result c.in-Connected.left.now c.in-Connected.right.now c.first_side-side.result.now is_taken.sides c.first_side-side.ensures,
          (
            first-side-known c.args.recorder.now.theory c.args.facts.now c.args.term.now c.in-Connected.left.now c.in-Connected.right.now (meant c.in-Connected.connective) c.args.value
                c.way_to-way.result c.first_side-side.result.now c.first_value.result is_taken c.first_side-side.ensures c.first_value.ensures,
            (c.requires.held, c.requires.concluded),
          ),
        ),
      ),
    )

pub returns-in_err-premise-in-Connected-clause-continues : goal.returns-in_err-premise-in-Connected-clause-continues
returns-in_err-premise-in-Connected-clause-continues t c =
    rw (passed_on c.from_residual-in_err-premise-in-Connected.result c.in_err-premise-in-Connected.field-0.0 c.from_residual-in_err-premise-in-Connected.ensures.1) (
    c.in_err-premise-in-Connected.ensures.continues)

pub returns-in_err-premise-in-Connected-clause-shows : goal.returns-in_err-premise-in-Connected-clause-shows
returns-in_err-premise-in-Connected-clause-shows t c =
    rw (passed_on c.from_residual-in_err-premise-in-Connected.result c.in_err-premise-in-Connected.field-0.0 c.from_residual-in_err-premise-in-Connected.ensures.1) (
    λ allowed room proved small.
    let is_taken = taken c.args.recorder.now.theory c.args.facts.now c.args.term.now c.in-Connected.left.now c.in-Connected.right.now (meant c.in-Connected.connective) c.args.value
    c.way_to-way.result c.known_value-left_value.result c.known_value-right_value.result
    c.requires.formula c.requires.known c.in-Connected.ensures.meaning c.in-Connected.ensures.whole c.known_value-left_value.ensures c.known_value-right_value.ensures c.way_to-way.ensures in
    c.in_err-premise-in-Connected.ensures.shows allowed room proved (first-side-small c.args.recorder.now.theory c.args.facts.now c.args.term.now c.in-Connected.left.now c.in-Connected.right.now
    (meant c.in-Connected.connective) c.args.value c.way_to-way.result c.first_side-side.result.now room is_taken c.first_side-side.ensures small))

pub by_first-requires-clause-laws : goal.by_first-requires-clause-laws
by_first-requires-clause-laws t c =
    still_lawful c.args.recorder.now c.shown-in-Connected.new.recorder c.shown-in-Connected.result c.args.laws.now c.shown-in-Connected.ensures.continues c.requires.laws

pub by_first-requires-clause-premise : goal.by_first-requires-clause-premise
by_first-requires-clause-premise t c =
    c.in_ok-premise-in-Connected.ensures.continues.held

pub by_first-requires-clause-leads : goal.by_first-requires-clause-leads
by_first-requires-clause-leads t c =
    let given = c.requires.concluded in
    let left = c.in-Connected.left.now in
    let right = c.in-Connected.right.now in
    let connective = meant c.in-Connected.connective in
    let side = c.first_side-side.result.now in
    let v = c.first_value.result in
    let is_taken = taken c.args.recorder.now.theory c.args.facts.now c.args.term.now left right connective c.args.value
    c.way_to-way.result c.known_value-left_value.result c.known_value-right_value.result
    c.requires.formula c.requires.known c.in-Connected.ensures.meaning c.in-Connected.ensures.whole c.known_value-left_value.ensures c.known_value-right_value.ensures c.way_to-way.ensures in
    let proves : Proves c.in_ok-premise-in-Connected.premise.theorem given.allowed (fact v (image side)) =
    c.in_ok-premise-in-Connected.ensures.shows given.allowed false given.proved (small-nowhere (image side)) in
    leads-on c.shown-in-Connected.new.recorder.theory c.law_of.result left right (image c.in_ok-premise-in-Connected.premise.theorem.conclusion) (fact v (image side))
    (after_first connective c.args.value c.way_to-way.result (image left) (image right)) proves.concludes
    (first-leads c.args.recorder.now.theory c.shown-in-Connected.new.recorder.theory c.args.facts.now c.args.term.now left right connective c.args.value c.way_to-way.result side v
    c.law_of.result false is_taken c.shown-in-Connected.ensures.continues.theory c.first_side-side.ensures c.first_value.ensures c.law_of.ensures (small-nowhere (image c.args.term.now)))

pub returns-in_err-first-in-Connected-clause-continues : goal.returns-in_err-first-in-Connected-clause-continues
returns-in_err-first-in-Connected-clause-continues t c =
    rw (passed_on c.from_residual-in_err-first-in-Connected.result c.in_err-first-in-Connected.field-0.0 c.from_residual-in_err-first-in-Connected.ensures.1) (
    continues-twice c.args.recorder.now c.shown-in-Connected.new.recorder c.by_first.new.recorder c.shown-in-Connected.result (Err c.in_err-first-in-Connected.field-0.0)
    c.shown-in-Connected.ensures.continues c.in_err-first-in-Connected.ensures.continues)

pub returns-in_err-first-in-Connected-clause-shows : goal.returns-in_err-first-in-Connected-clause-shows
returns-in_err-first-in-Connected-clause-shows t c =
    rw (passed_on c.from_residual-in_err-first-in-Connected.result c.in_err-first-in-Connected.field-0.0 c.from_residual-in_err-first-in-Connected.ensures.1) (
    λ allowed room proved small.
    let is_taken = taken c.args.recorder.now.theory c.args.facts.now c.args.term.now c.in-Connected.left.now c.in-Connected.right.now (meant c.in-Connected.connective) c.args.value
    c.way_to-way.result c.known_value-left_value.result c.known_value-right_value.result
    c.requires.formula c.requires.known c.in-Connected.ensures.meaning c.in-Connected.ensures.whole c.known_value-left_value.ensures c.known_value-right_value.ensures c.way_to-way.ensures in
    first-gives c.args.recorder.now.theory c.shown-in-Connected.new.recorder.theory c.args.facts.now c.args.term.now c.in-Connected.left.now c.in-Connected.right.now
    (meant c.in-Connected.connective) c.args.value c.way_to-way.result c.first_side-side.result.now c.first_value.result c.law_of.result room
    is_taken c.shown-in-Connected.ensures.continues.theory c.first_side-side.ensures c.first_value.ensures c.law_of.ensures small (Err c.in_err-first-in-Connected.field-0.0) c.in_ok-premise-in-Connected.premise.theorem allowed
    (c.in_ok-premise-in-Connected.ensures.shows allowed room proved (first-side-small c.args.recorder.now.theory c.args.facts.now c.args.term.now c.in-Connected.left.now c.in-Connected.right.now
    (meant c.in-Connected.connective) c.args.value c.way_to-way.result c.first_side-side.result.now room is_taken c.first_side-side.ensures small))
    (λ from to. c.in_err-first-in-Connected.ensures.proves allowed room from to))

pub returns-then-not-takes_second-clause-continues : goal.returns-then-not-takes_second-clause-continues
returns-then-not-takes_second-clause-continues t c =
    continues-twice c.args.recorder.now c.shown-in-Connected.new.recorder c.by_first.new.recorder c.shown-in-Connected.result (Ok c.in_ok-first-in-Connected.first)
    c.shown-in-Connected.ensures.continues c.in_ok-first-in-Connected.ensures.continues

pub returns-then-not-takes_second-clause-shows : goal.returns-then-not-takes_second-clause-shows
returns-then-not-takes_second-clause-shows t c = λ allowed room proved small.
    let is_taken = taken c.args.recorder.now.theory c.args.facts.now c.args.term.now c.in-Connected.left.now c.in-Connected.right.now (meant c.in-Connected.connective) c.args.value
    c.way_to-way.result c.known_value-left_value.result c.known_value-right_value.result
    c.requires.formula c.requires.known c.in-Connected.ensures.meaning c.in-Connected.ensures.whole c.known_value-left_value.ensures c.known_value-right_value.ensures c.way_to-way.ensures in
    first-only c.args.recorder.now.theory c.args.facts.now c.args.term.now c.in-Connected.left.now c.in-Connected.right.now (meant c.in-Connected.connective) c.args.value
    c.way_to-way.result c.in_ok-first-in-Connected.first.theorem allowed is_taken (sym c.takes_second.ensures ∙ c.if-not-takes_second.true)
    (first-gives c.args.recorder.now.theory c.shown-in-Connected.new.recorder.theory c.args.facts.now c.args.term.now c.in-Connected.left.now c.in-Connected.right.now
    (meant c.in-Connected.connective) c.args.value c.way_to-way.result c.first_side-side.result.now c.first_value.result c.law_of.result room
    is_taken c.shown-in-Connected.ensures.continues.theory c.first_side-side.ensures c.first_value.ensures c.law_of.ensures small (Ok c.in_ok-first-in-Connected.first) c.in_ok-premise-in-Connected.premise.theorem allowed
    (c.in_ok-premise-in-Connected.ensures.shows allowed room proved (first-side-small c.args.recorder.now.theory c.args.facts.now c.args.term.now c.in-Connected.left.now c.in-Connected.right.now
    (meant c.in-Connected.connective) c.args.value c.way_to-way.result c.first_side-side.result.now room is_taken c.first_side-side.ensures small))
    (λ from to. c.in_ok-first-in-Connected.ensures.proves allowed room from to))

pub shown-requires-in-Connected-2 : goal.shown-requires-in-Connected-2
shown-requires-in-Connected-2 t c =
    let is_taken = taken c.args.recorder.now.theory c.args.facts.now c.args.term.now c.in-Connected.left.now c.in-Connected.right.now (meant c.in-Connected.connective) c.args.value
    c.way_to-way.result c.known_value-left_value.result c.known_value-right_value.result
    c.requires.formula c.requires.known c.in-Connected.ensures.meaning c.in-Connected.ensures.whole c.known_value-left_value.ensures c.known_value-right_value.ensures c.way_to-way.ensures in (
      lower-second c.way_to-way.result t c.args.term.now c.in-Connected.left.now c.in-Connected.right.now c.second_side-other.result.now c.in-Connected.ensures.lower
          c.second_side-other.ensures c.decreases,
      (
        still_lawful c.args.recorder.now c.by_first.new.recorder c.by_first.result c.args.laws.now
            (continues-twice c.args.recorder.now c.shown-in-Connected.new.recorder c.by_first.new.recorder c.shown-in-Connected.result c.by_first.result
            c.shown-in-Connected.ensures.continues c.by_first.ensures.continues) c.requires.laws,
        (
          still_formula c.args.recorder.now c.by_first.new.recorder c.by_first.result c.second_side-other.result.now
              (continues-twice c.args.recorder.now c.shown-in-Connected.new.recorder c.by_first.new.recorder c.shown-in-Connected.result c.by_first.result
              c.shown-in-Connected.ensures.continues c.by_first.ensures.continues)
              (second-formula c.args.recorder.now.theory c.way_to-way.result c.in-Connected.left.now c.in-Connected.right.now c.second_side-other.result.now is_taken.sides
              c.second_side-other.ensures),
          (
            second-side-known c.args.recorder.now.theory c.args.facts.now c.args.term.now c.in-Connected.left.now c.in-Connected.right.now (meant c.in-Connected.connective)
                c.args.value c.way_to-way.result c.second_side-other.result.now c.second_value.result is_taken (sym c.takes_second.ensures ∙ c.if-not-takes_second.false)
                c.second_side-other.ensures c.second_value.ensures,
            (
              still_all_held c.args.recorder.now c.by_first.new.recorder c.by_first.result c.args.facts.now
                  (continues-twice c.args.recorder.now c.shown-in-Connected.new.recorder c.by_first.new.recorder c.shown-in-Connected.result c.by_first.result
                  c.shown-in-Connected.ensures.continues c.by_first.ensures.continues) c.requires.held,
              c.requires.concluded,
            ),
          ),
        ),
      ),
    )

pub returns-in_err-second-in-Connected-clause-continues : goal.returns-in_err-second-in-Connected-clause-continues
returns-in_err-second-in-Connected-clause-continues t c =
    rw (passed_on c.from_residual-in_err-second-in-Connected.result c.in_err-second-in-Connected.field-0.0 c.from_residual-in_err-second-in-Connected.ensures.1) (
    continues-twice c.args.recorder.now c.by_first.new.recorder c.shown-in-Connected-2.new.recorder c.by_first.result (Err c.in_err-second-in-Connected.field-0.0)
    (continues-twice c.args.recorder.now c.shown-in-Connected.new.recorder c.by_first.new.recorder c.shown-in-Connected.result c.by_first.result
    c.shown-in-Connected.ensures.continues c.by_first.ensures.continues) c.in_err-second-in-Connected.ensures.continues)

pub returns-in_err-second-in-Connected-clause-shows : goal.returns-in_err-second-in-Connected-clause-shows
returns-in_err-second-in-Connected-clause-shows t c =
    rw (passed_on c.from_residual-in_err-second-in-Connected.result c.in_err-second-in-Connected.field-0.0 c.from_residual-in_err-second-in-Connected.ensures.1) (
    λ allowed room proved small.
    let is_taken = taken c.args.recorder.now.theory c.args.facts.now c.args.term.now c.in-Connected.left.now c.in-Connected.right.now (meant c.in-Connected.connective) c.args.value
    c.way_to-way.result c.known_value-left_value.result c.known_value-right_value.result
    c.requires.formula c.requires.known c.in-Connected.ensures.meaning c.in-Connected.ensures.whole c.known_value-left_value.ensures c.known_value-right_value.ensures c.way_to-way.ensures in
    c.in_err-second-in-Connected.ensures.shows allowed room proved (second-side-small c.args.recorder.now.theory c.args.facts.now c.args.term.now c.in-Connected.left.now c.in-Connected.right.now
    (meant c.in-Connected.connective) c.args.value c.way_to-way.result c.second_side-other.result.now room is_taken c.second_side-other.ensures small))

pub with_second-requires-clause-takes : goal.with_second-requires-clause-takes
with_second-requires-clause-takes t c =
    (sym c.takes_second.ensures ∙ c.if-not-takes_second.false)

pub with_second-requires-clause-first : goal.with_second-requires-clause-first
with_second-requires-clause-first t c =
    still_held c.by_first.new.recorder c.shown-in-Connected-2.new.recorder c.shown-in-Connected-2.result c.in_ok-first-in-Connected.first c.shown-in-Connected-2.ensures.continues
    c.in_ok-first-in-Connected.ensures.continues.held

pub with_second-requires-clause-second : goal.with_second-requires-clause-second
with_second-requires-clause-second t c =
    c.in_ok-second-in-Connected.ensures.continues.held

pub with_second-requires-clause-joins : goal.with_second-requires-clause-joins
with_second-requires-clause-joins t c =
    let given = c.requires.concluded in
    let left = c.in-Connected.left.now in
    let right = c.in-Connected.right.now in
    let connective = meant c.in-Connected.connective in
    let way = c.way_to-way.result in
    let side = c.first_side-side.result.now in
    let v = c.first_value.result in
    let other = c.second_side-other.result.now in
    let other_value = c.second_value.result in
    let nowhere = small-nowhere (image c.args.term.now) in
    let from = after_first connective c.args.value way (image left) (image right) in
    let is_taken = taken c.args.recorder.now.theory c.args.facts.now c.args.term.now left right connective c.args.value
    way c.known_value-left_value.result c.known_value-right_value.result
    c.requires.formula c.requires.known c.in-Connected.ensures.meaning c.in-Connected.ensures.whole c.known_value-left_value.ensures c.known_value-right_value.ensures c.way_to-way.ensures in
    let first : Proves c.in_ok-first-in-Connected.first.theorem given.allowed from =
    first-gives c.args.recorder.now.theory c.shown-in-Connected.new.recorder.theory c.args.facts.now c.args.term.now left right connective c.args.value way side v c.law_of.result false
    is_taken c.shown-in-Connected.ensures.continues.theory c.first_side-side.ensures c.first_value.ensures c.law_of.ensures nowhere (Ok c.in_ok-first-in-Connected.first)
    c.in_ok-premise-in-Connected.premise.theorem given.allowed
    (c.in_ok-premise-in-Connected.ensures.shows given.allowed false given.proved (small-nowhere (image side)))
    (λ from to. c.in_ok-first-in-Connected.ensures.proves given.allowed false from to) in
    let second : Proves c.in_ok-second-in-Connected.second.theorem given.allowed (fact other_value (image other)) =
    c.in_ok-second-in-Connected.ensures.shows given.allowed false given.proved (small-nowhere (image other)) in
    joined-on way (image c.in_ok-first-in-Connected.first.theorem.conclusion) (image c.in_ok-second-in-Connected.second.theorem.conclusion) from (fact other_value (image other))
    (fact c.args.value (connected_image connective (image left) (image right))) first.concludes second.concludes
    (second-joined c.args.recorder.now.theory c.args.facts.now c.args.term.now left right connective c.args.value way other other_value false is_taken
    (sym c.takes_second.ensures ∙ c.if-not-takes_second.false) c.second_side-other.ensures c.second_value.ensures nowhere)

pub returns-in-Atom-clause-continues : goal.returns-in-Atom-clause-continues
returns-in-Atom-clause-continues t c =
    c.from_fact.ensures.continues

pub returns-in-Atom-clause-shows : goal.returns-in-Atom-clause-shows
returns-in-Atom-clause-shows t c = λ allowed room proved small.
    atom-shown c.from_fact.result c.args.facts.now c.args.term.now c.args.value room allowed c.from_fact.ensures.err
    (sym (ap (known_by (value_of c.args.facts.now)) c.in-Atom.ensures.meaning) ∙ c.requires.known) (c.from_fact.ensures.proves allowed proved)

pub returns-in-Constantly-clause-continues : goal.returns-in-Constantly-clause-continues
returns-in-Constantly-clause-continues t c =
    c.constantly.ensures.continues

pub returns-in-Constantly-clause-shows : goal.returns-in-Constantly-clause-shows
returns-in-Constantly-clause-shows t c = λ allowed room proved small.
    let both : Some c.in-Constantly.field-0 ≡ Some c.args.value = sym (ap (known_by (value_of c.args.facts.now)) c.in-Constantly.ensures.meaning) ∙ c.requires.known in
    let same : c.in-Constantly.field-0 ≡ c.args.value = cc in
    constant-shown c.constantly.result c.args.term.now c.in-Constantly.field-0 c.args.value room allowed c.in-Constantly.ensures.whole c.requires.formula.typed same
    (c.constantly.ensures.proves allowed room)

pub returns-in_ok-opposite-in-Negated-clause-continues : goal.returns-in_ok-opposite-in-Negated-clause-continues
returns-in_ok-opposite-in-Negated-clause-continues t c =
    continues-twice c.args.recorder.now c.shown.new.recorder c.denial.new.recorder c.shown.result c.denial.result c.shown.ensures.continues c.denial.ensures.continues

pub returns-in_ok-opposite-in-Negated-clause-shows : goal.returns-in_ok-opposite-in-Negated-clause-shows
returns-in_ok-opposite-in-Negated-clause-shows t c = λ allowed room proved small.
    negated-gives c.args.term.now c.in-Negated.part.now c.args.value room c.in-Negated.ensures.whole small c.denial.result allowed
    (λ whole. c.denial.ensures.proves allowed room whole (c.in_ok-opposite-in-Negated.ensures.shows allowed room proved (negated-small c.args.term.now c.in-Negated.part.now room c.in-Negated.ensures.whole small)))

pub returns-in_ok-second-in-Connected-clause-continues : goal.returns-in_ok-second-in-Connected-clause-continues
returns-in_ok-second-in-Connected-clause-continues t c =
    continues-twice c.args.recorder.now c.shown-in-Connected-2.new.recorder c.with_second.new.recorder c.shown-in-Connected-2.result c.with_second.result
    (continues-twice c.args.recorder.now c.by_first.new.recorder c.shown-in-Connected-2.new.recorder c.by_first.result c.shown-in-Connected-2.result
    (continues-twice c.args.recorder.now c.shown-in-Connected.new.recorder c.by_first.new.recorder c.shown-in-Connected.result c.by_first.result
    c.shown-in-Connected.ensures.continues c.by_first.ensures.continues) c.shown-in-Connected-2.ensures.continues) c.with_second.ensures.continues

pub returns-in_ok-second-in-Connected-clause-shows : goal.returns-in_ok-second-in-Connected-clause-shows
returns-in_ok-second-in-Connected-clause-shows t c = λ allowed room proved small.
    let is_taken = taken c.args.recorder.now.theory c.args.facts.now c.args.term.now c.in-Connected.left.now c.in-Connected.right.now (meant c.in-Connected.connective) c.args.value
    c.way_to-way.result c.known_value-left_value.result c.known_value-right_value.result
    c.requires.formula c.requires.known c.in-Connected.ensures.meaning c.in-Connected.ensures.whole c.known_value-left_value.ensures c.known_value-right_value.ensures c.way_to-way.ensures in
    second-gives c.args.recorder.now.theory c.args.facts.now c.args.term.now c.in-Connected.left.now c.in-Connected.right.now (meant c.in-Connected.connective) c.args.value
    c.way_to-way.result c.second_side-other.result.now c.second_value.result room is_taken (sym c.takes_second.ensures ∙ c.if-not-takes_second.false) c.second_side-other.ensures
    c.second_value.ensures small c.with_second.result c.in_ok-first-in-Connected.first.theorem c.in_ok-second-in-Connected.second.theorem allowed
    (first-gives c.args.recorder.now.theory c.shown-in-Connected.new.recorder.theory c.args.facts.now c.args.term.now c.in-Connected.left.now c.in-Connected.right.now
    (meant c.in-Connected.connective) c.args.value c.way_to-way.result c.first_side-side.result.now c.first_value.result c.law_of.result room
    is_taken c.shown-in-Connected.ensures.continues.theory c.first_side-side.ensures c.first_value.ensures c.law_of.ensures small (Ok c.in_ok-first-in-Connected.first) c.in_ok-premise-in-Connected.premise.theorem allowed
    (c.in_ok-premise-in-Connected.ensures.shows allowed room proved (first-side-small c.args.recorder.now.theory c.args.facts.now c.args.term.now c.in-Connected.left.now c.in-Connected.right.now
    (meant c.in-Connected.connective) c.args.value c.way_to-way.result c.first_side-side.result.now room is_taken c.first_side-side.ensures small))
    (λ from to. c.in_ok-first-in-Connected.ensures.proves allowed room from to))
    (c.in_ok-second-in-Connected.ensures.shows allowed room proved (second-side-small c.args.recorder.now.theory c.args.facts.now c.args.term.now c.in-Connected.left.now c.in-Connected.right.now
    (meant c.in-Connected.connective) c.args.value c.way_to-way.result c.second_side-other.result.now room is_taken c.second_side-other.ensures small))
    (λ p q whole. c.with_second.ensures.proves allowed room p q whole)
