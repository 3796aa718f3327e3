use Rattle.std.proofs.Common.{ℕ, List, Some, refl, ap, ◌∙◌}
use Rattle.hol_journal_log.specs.Marking.{is_noted}
use Rattle.hol_journal_log.proofs.MarkingLemmas.{noted_by}
use Rattle.hol_journal_log.proofs.needed.Names.contains.Goals as goal

pub returns : goal.returns
returns c =
    noted_by c.contains.result c.self.inside.names.keys c.args.name.now c.args.name.now (Some c.args.name.now) c.contains.ensures refl refl
    ∙ ap (λ (names : List (List ℕ)). is_noted names (Some c.args.name.now)) c.self.view_is
