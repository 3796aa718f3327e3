-- What the entries that a recorder stores stand for.
use Rattle.std.specs.Prelude.{[]}
use Rattle.std.specs.String.{string_bytes}
use Rattle.hol_model.specs.Terms.NamedTerm.{constant, equation}
use Rattle.hol_model.specs.Terms.Nameless.{image}
use Rattle.hol_model.specs.Logic.Legality.{own_type}
use Rattle.hol_journal.specs.Steps as steps
use Rattle.hol_journal.specs.Steps.{JournalEntry, derived, declared_type, declared_constant}
use Rattle.hol_journal.specs.declared.entry.Rule.{Rule}
use Rattle.hol_journal.specs.declared.entry.Rule.TheVariants.{Refl, Trans, MkComb, Abs, Beta, Assume, EqMp, DeductAntisym, Inst, InstType, Eta, Select}
use Rattle.hol_journal.specs.declared.entry.Entry.{Entry}
use Rattle.hol_journal.specs.declared.entry.Entry.TheVariants.{Derived, Defined, DeclaredType, DeclaredConstant}

abbrev pub step_of : Rule → steps.Step
step_of (Refl term) = steps.by_refl term
step_of (Trans first second) = steps.by_trans first second
step_of (MkComb first second) = steps.by_mk_comb first second
step_of (Abs binder theorem) = steps.by_abs binder theorem
step_of (Beta term) = steps.by_beta term
step_of (Assume term) = steps.by_assume term
step_of (EqMp first second) = steps.by_eq_mp first second
step_of (DeductAntisym first second) = steps.by_deduct first second
step_of (Inst theorem pairs) = steps.by_inst theorem pairs.items
step_of (InstType theorem pairs) = steps.by_inst_type theorem pairs.items
step_of Eta = steps.by_eta
step_of Select = steps.by_select

-- the sequent of a definition is that of its equation
abbrev pub entry_of : Entry → JournalEntry
entry_of (Derived rule statement) = derived (step_of rule) statement.sequent
entry_of (Defined name term) = derived (steps.by_definition (string_bytes name) term) (record { hypotheses = []; conclusion = image (equation (constant (string_bytes name) (own_type term)) term) })
entry_of (DeclaredType name) = declared_type (string_bytes name)
entry_of (DeclaredConstant name ty) = declared_constant (string_bytes name) ty
