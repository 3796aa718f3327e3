use Rattle.std.proofs.Common.{◌∙◌, sym, ap, not}
use Rattle.hol_taut_formulas.specs.Words.{is_set}
use Rattle.hol_taut_formulas.proofs.Bits.{is_set_all, is_set_not, bit_of_place}
use Rattle.hol_taut_formulas.proofs.values.word_of.Goals as goal

pub returns-then-value : goal.returns-then-value
returns-then-value c = λ row within. rw c.in-Constantly.is (is_set_all row within ∙ sym c.if-value.true)

pub returns-in-Negated : goal.returns-in-Negated
returns-in-Negated c = λ row within. rw c.in-Negated.is
    (is_set_not c.word_at-in-Negated.result row c.word_at-in-Negated.type_inv within
    ∙ ap not (ap (is_set row) c.word_at-in-Negated.ensures ∙ bit_of_place c.args.words.now row c.in-Negated.part))
