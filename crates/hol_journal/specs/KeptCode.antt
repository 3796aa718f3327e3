-- How a proof tells them apart.
use Rattle.std.specs.Prelude.{List, Bool, refl}
use Rattle.std.specs.Coded.{Coded, code_by, coded×, coded_bool}
use Rattle.hol_journal.specs.Steps.{JournalEntry}
use Rattle.hol_journal.specs.JournalCode.{entries_code}
use Rattle.hol_journal.specs.Kept.{Held}

abbrev pub held_code : Coded Held
held_code = code_by (List JournalEntry × Bool) (coded× entries_code coded_bool) (λ h. (h.entries, h.has_room)) (λ p. record { entries = p.0; has_room = p.1 }) (λ _. refl)
