use Rattle.hol_model.specs.Terms.Nameless.{const, app}
use Rattle.hol_model.specs.Logic.Logic.{and_name, binary}
use Rattle.hol_equal.proofs.StepLemmas.{passed_on}
use Rattle.hol_bool.proofs.RoomLemmas.{fits-left, fits-argument}
use Rattle.hol_bool.proofs.ConjunctionAnswers.{conj-both-fits}
use Rattle.hol_bool.proofs.conjunction_rules.conj_in_room.Goals as goal

pub returns-in_err-left-clause-conjoins : goal.returns-in_err-left-clause-conjoins
returns-in_err-left-clause-conjoins c =
    rw (passed_on c.from_residual.result c.in_err-left.field-0.0 c.from_residual.ensures.1) (
      tt,
      λ h k p q room first second fits. c.in_err-left.ensures.derives h p room first (fits-left room (const and_name binary) p q (conj-both-fits room p q fits)),
    )

pub returns-in_err-right-clause-conjoins : goal.returns-in_err-right-clause-conjoins
returns-in_err-right-clause-conjoins c =
    rw (passed_on c.from_residual-in_err-right.result c.in_err-right.field-0.0 c.from_residual-in_err-right.ensures.1) (
      tt,
      λ h k p q room first second fits.
          c.in_err-right.ensures.derives k q room second (fits-argument room (app (const and_name binary) p) q (conj-both-fits room p q fits)),
    )

pub returns-clause-conjoins : goal.returns-clause-conjoins
returns-clause-conjoins c = (
  c.by_truths.ensures.names c.args.first.now.theorem.conclusion c.args.second.now.theorem.conclusion c.in_ok-left.ensures.names c.in_ok-right.ensures.names,
  λ h k p q room first second fits.
      let both_fits = conj-both-fits room p q fits in
      c.by_truths.ensures.derives h k p q room
      (c.in_ok-left.ensures.derives h p room first (fits-left room (const and_name binary) p q both_fits))
      (c.in_ok-right.ensures.derives k q room second (fits-argument room (app (const and_name binary) p) q both_fits)) both_fits,
)
