-- How a proof tells journals apart: steps, entries and recorded theorems as trees of numbers.
use Rattle.std.specs.Prelude.{◌≡◌, ℕ, List, refl}
use Rattle.std.specs.Coded.{Coded, code_by, coded_ℕ, coded_list, coded×}
use Rattle.std.proofs.Common.{ap}
use base.Stored.{Gv, gnil, gnum, gcons}
use Rattle.hol_model.specs.Terms.HolType.{HolType}
use Rattle.hol_model.specs.Terms.HolTypeCode.{type_code}
use Rattle.hol_model.specs.Terms.NamedTerm.{NamedTerm}
use Rattle.hol_model.specs.Terms.NamedTermCode.{term_code}
use Rattle.hol_model.specs.Terms.NamelessCode.{theory_code}
use Rattle.hol_model.specs.Goals.Goals.{Sequent}
use Rattle.hol_model.specs.Kernel.Theorem.{Theorem}
use Rattle.hol_model.specs.Kernel.TheoremCode.{theorem_code}
use Rattle.hol_model.specs.Logic.Theory.{Theory}
use Rattle.hol_journal.specs.Steps.{Step, by_refl, by_trans, by_mk_comb, by_abs, by_beta, by_assume, by_eq_mp, by_deduct, by_inst, by_inst_type}
use Rattle.hol_journal.specs.Steps.{by_eta, by_select, by_definition, JournalEntry, derived, declared_type, declared_constant}
use Rattle.hol_journal.specs.Journal.{Journal, Recorded}
use Rattle.hol_journal.specs.SequentCode.{sequent_code}

abbrev two_code : Coded (ℕ × ℕ)
two_code = coded× coded_ℕ coded_ℕ

abbrev binder_code : Coded (NamedTerm × ℕ)
binder_code = coded× term_code coded_ℕ

abbrev term_pairs_code : Coded (ℕ × List (NamedTerm × NamedTerm))
term_pairs_code = coded× coded_ℕ (coded_list (coded× term_code term_code))

abbrev type_pairs_code : Coded (ℕ × List (HolType × HolType))
type_pairs_code = coded× coded_ℕ (coded_list (coded× type_code type_code))

abbrev definition_code : Coded (List ℕ × NamedTerm)
definition_code = coded× (coded_list coded_ℕ) term_code

abbrev constant_code : Coded (List ℕ × HolType)
constant_code = coded× (coded_list coded_ℕ) type_code

abbrev pub code_step : Step → Gv
code_step (by_refl term) = gcons (gnum 0) (term_code.code term)
code_step (by_trans i j) = gcons (gnum 1) (two_code.code (i, j))
code_step (by_mk_comb i j) = gcons (gnum 2) (two_code.code (i, j))
code_step (by_abs binder i) = gcons (gnum 3) (binder_code.code (binder, i))
code_step (by_beta term) = gcons (gnum 4) (term_code.code term)
code_step (by_assume term) = gcons (gnum 5) (term_code.code term)
code_step (by_eq_mp i j) = gcons (gnum 6) (two_code.code (i, j))
code_step (by_deduct i j) = gcons (gnum 7) (two_code.code (i, j))
code_step (by_inst i pairs) = gcons (gnum 8) (term_pairs_code.code (i, pairs))
code_step (by_inst_type i pairs) = gcons (gnum 9) (type_pairs_code.code (i, pairs))
code_step by_eta = gcons (gnum 10) gnil
code_step by_select = gcons (gnum 11) gnil
code_step (by_definition name term) = gcons (gnum 12) (definition_code.code (name, term))

pub code_step_injective : (s t : Step) → code_step s ≡ code_step t → s ≡ t
code_step_injective (by_refl a) (by_refl b) same = ap by_refl (term_code.inj a b (cc))
code_step_injective (by_trans i j) (by_trans k l) same = ap (λ (p : ℕ × ℕ). by_trans p.0 p.1) (two_code.inj (i, j) (k, l) (cc))
code_step_injective (by_mk_comb i j) (by_mk_comb k l) same = ap (λ (p : ℕ × ℕ). by_mk_comb p.0 p.1) (two_code.inj (i, j) (k, l) (cc))
code_step_injective (by_abs a i) (by_abs b k) same = ap (λ (p : NamedTerm × ℕ). by_abs p.0 p.1) (binder_code.inj (a, i) (b, k) (cc))
code_step_injective (by_beta a) (by_beta b) same = ap by_beta (term_code.inj a b (cc))
code_step_injective (by_assume a) (by_assume b) same = ap by_assume (term_code.inj a b (cc))
code_step_injective (by_eq_mp i j) (by_eq_mp k l) same = ap (λ (p : ℕ × ℕ). by_eq_mp p.0 p.1) (two_code.inj (i, j) (k, l) (cc))
code_step_injective (by_deduct i j) (by_deduct k l) same = ap (λ (p : ℕ × ℕ). by_deduct p.0 p.1) (two_code.inj (i, j) (k, l) (cc))
code_step_injective (by_inst i p) (by_inst k q) same = ap (λ (p : ℕ × List (NamedTerm × NamedTerm)). by_inst p.0 p.1) (term_pairs_code.inj (i, p) (k, q) (cc))
code_step_injective (by_inst_type i p) (by_inst_type k q) same = ap (λ (p : ℕ × List (HolType × HolType)). by_inst_type p.0 p.1) (type_pairs_code.inj (i, p) (k, q) (cc))
code_step_injective by_eta by_eta same = refl
code_step_injective by_select by_select same = refl
code_step_injective (by_definition a s) (by_definition b t) same = ap (λ (p : List ℕ × NamedTerm). by_definition p.0 p.1) (definition_code.inj (a, s) (b, t) (cc))
code_step_injective _ _ same = cc

abbrev step_code : Coded Step
step_code = record { code = code_step; inj = code_step_injective }

abbrev derived_code : Coded (Step × Sequent)
derived_code = coded× step_code sequent_code

abbrev pub code_entry : JournalEntry → Gv
code_entry (derived step sequent) = gcons (gnum 0) (derived_code.code (step, sequent))
code_entry (declared_type name) = gcons (gnum 1) ((coded_list coded_ℕ).code name)
code_entry (declared_constant name ty) = gcons (gnum 2) (constant_code.code (name, ty))

pub code_entry_injective : (s t : JournalEntry) → code_entry s ≡ code_entry t → s ≡ t
code_entry_injective (derived a s) (derived b t) same = ap (λ (p : Step × Sequent). derived p.0 p.1) (derived_code.inj (a, s) (b, t) (cc))
code_entry_injective (declared_type a) (declared_type b) same = ap declared_type ((coded_list coded_ℕ).inj a b (cc))
code_entry_injective (declared_constant a s) (declared_constant b t) same = ap (λ (p : List ℕ × HolType). declared_constant p.0 p.1) (constant_code.inj (a, s) (b, t) (cc))
code_entry_injective _ _ same = cc

abbrev entry_code : Coded JournalEntry
entry_code = record { code = code_entry; inj = code_entry_injective }

abbrev pub entries_code : Coded (List JournalEntry)
entries_code = coded_list entry_code

abbrev pub journal_code : Coded Journal
journal_code =
    code_by (Theory × List JournalEntry) (coded× theory_code entries_code)
    (λ j. (j.theory, j.entries)) (λ p. record { theory = p.0; entries = p.1 }) (λ _. refl)

abbrev pub recorded_code : Coded Recorded
recorded_code =
    code_by (Theorem × ℕ) (coded× theorem_code coded_ℕ)
    (λ r. (r.theorem, r.entry)) (λ p. record { theorem = p.0; entry = p.1 }) (λ _. refl)
