use Rattle.std.proofs.Common.{ℕ, List, [], ◌∷◌, subst}
use Rattle.hol_journal_log.specs.Marking.{Notes, held_names}
use Rattle.hol_journal_log.proofs.MarkingLemmas.{note_put}
use Rattle.hol_journal_log.proofs.needed.Names.note.Goals as goal

pub returns-clause-ok : goal.returns-clause-ok
returns-clause-ok c =
    subst (λ (names : List (List ℕ)). Notes names (held_names c.insert.new.self.keys) (c.args.name.now ∷ [])) c.self.view_is
    (note_put c.self.inside.names.keys c.insert.new.self.keys c.args.name c.in_ok-insert.ensures.keys)
