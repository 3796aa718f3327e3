use Rattle.std.proofs.Common.{inr, refl}
use Rattle.std.specs.Prelude.{nat_eq}
use Rattle.std.proofs.lemmas.Bool.{eq-eqb}
use Rattle.hol_check_terms.proofs.NumberLemmas.{same_answers}
use Rattle.hol_check_terms.proofs.TableLemmas.{put_by_insert}
use Rattle.hol_check_terms.proofs.numbers.note.Goals as goal

pub returns-clause-noted : goal.returns-clause-noted
returns-clause-noted c = record {
  noted = inr (
    same_answers c.args.answer c.args.wanted c.if-answer-wanted.false,
    put_by_insert nat_eq c.args.number c.args.numbers.now.keys _ c.in_ok-insert_full.ensures.keys (eq-eqb c.args.number c.args.number refl),
  );
}
