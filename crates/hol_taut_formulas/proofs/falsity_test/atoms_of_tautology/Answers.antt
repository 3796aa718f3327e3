use Rattle.std.proofs.Common.{◌≡◌, ◌≤◌, ◌∙◌, sym, ap, ap₂, subst, arith, inr, List, Some, None, length}
use Rattle.std.specs.Option.{option_map}
use Rattle.hol_model.specs.declared.fault.Fault.TheVariants.{NotTautology}
use Rattle.hol_model.specs.declared.limits.TheConstants.{ATOMS_LIMIT}
use Rattle.hol_model.specs.Terms.NamedTerm.{NamedTerm}
use Rattle.hol_model.specs.Propositional.Propositions.{proposition, atom_places, atoms_of, with_new_terms}
use Rattle.hol_model.specs.Propositional.Tautologies.{falsifying_row, row_in_full}
use Rattle.hol_taut_formulas.proofs.FalsityLemmas.{row-found, within-limit, not-numbered}
use Rattle.hol_taut_formulas.proofs.falsity_test.atoms_of_tautology.Goals as goal

pub returns-in_err-formula : goal.returns-in_err-formula
returns-in_err-formula c =
    not-numbered c.from_residual.result c.args.term.now c.new-atoms.result.items c.in_err-formula.field-0.0 _ c.new-atoms.ensures.items c.from_residual.ensures.1 c.in_err-formula.ensures.err

pub returns-in-Some : goal.returns-in-Some
returns-in-Some c =
    let term = c.args.term.now in
    let atoms = c.numbered_formula.new.atoms.items in
    let numbered = c.in_ok-formula.ensures.ok in
    let atoms_are : atoms ≡ atoms_of term = numbered.added.all ∙ ap (λ seen. with_new_terms seen (atom_places (proposition term))) c.new-atoms.ensures.items in
    let few : length atoms ≤ ATOMS_LIMIT = numbered.added.few (subst (λ (l : List NamedTerm). length l ≤ ATOMS_LIMIT) (sym c.new-atoms.ensures.items) (omega arith)) in
    let counted : c.len.result ≡ length atoms = omega arith in
    let counted_again : length atoms ≡ c.len-in-Some.result = omega arith in
    let found = row-found term atoms c.in_ok-formula.formula c.len.result (option_map (λ values. values.items) c.in_ok-row.field-0) atoms_are numbered.meaning counted c.in_ok-row.ensures.ok in
    let row : Some c.in-Some.row.items ≡ falsifying_row term = ap (λ o. option_map (λ values. values.items) o) (sym c.in-Some.is) ∙ found in
    inr (within-limit term atoms atoms_are few ∙ ap (λ o. option_map (λ row. NotTautology (length atoms) (row_in_full row)) o) (sym row)
    ∙ ap₂ (λ n full. Some (NotTautology n full)) counted_again (sym (c.in_full.ensures ∙ ap row_in_full c.deref.ensures.value)))

pub returns-in-None : goal.returns-in-None
returns-in-None c =
    let term = c.args.term.now in
    let atoms = c.numbered_formula.new.atoms.items in
    let numbered = c.in_ok-formula.ensures.ok in
    let atoms_are : atoms ≡ atoms_of term = numbered.added.all ∙ ap (λ seen. with_new_terms seen (atom_places (proposition term))) c.new-atoms.ensures.items in
    let few : length atoms ≤ ATOMS_LIMIT = numbered.added.few (subst (λ (l : List NamedTerm). length l ≤ ATOMS_LIMIT) (sym c.new-atoms.ensures.items) (omega arith)) in
    let counted : c.len.result ≡ length atoms = omega arith in
    let found = row-found term atoms c.in_ok-formula.formula c.len.result (option_map (λ values. values.items) c.in_ok-row.field-0) atoms_are numbered.meaning counted c.in_ok-row.ensures.ok in
    let row : None ≡ falsifying_row term = ap (λ o. option_map (λ values. values.items) o) (sym c.in-None.is) ∙ found in
    (within-limit term atoms atoms_are few ∙ ap (λ o. option_map (λ row. NotTautology (length atoms) (row_in_full row)) o) (sym row), atoms_are)
