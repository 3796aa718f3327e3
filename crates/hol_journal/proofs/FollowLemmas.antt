-- Each call of the recorder adds an entry that follows.
use Rattle.std.proofs.Common.{◌≡◌, ℕ, List, [], ◌∷◌, true, refl, inl, inr, Some, None, Ok}
use Rattle.std.specs.List.{list_all}
use Rattle.hol_model.specs.Terms.HolType.{HolType}
use Rattle.hol_model.specs.Terms.NamedTerm.{NamedTerm, type_of, is_within_limits}
use Rattle.hol_model.specs.Logic.Derivable.{IsMember}
use Rattle.hol_model.specs.Kernel.Theorem.{Theorem, IsTheorem}
use Rattle.hol_model.specs.Kernel.Rules.{refl_outcome, assume_outcome, trans_outcome, eq_mp_outcome, mk_comb_outcome, abs_outcome, beta_outcome, deduct_antisym_outcome, define_outcome}
use Rattle.hol_model.specs.Kernel.Instantiation.{IsInst, IsInstType, inst_refusal, inst_type_refusal}
use Rattle.hol_model.specs.Kernel.NamedAxioms.{eta_theorem, select_theorem}
use Rattle.hol_journal.specs.Steps.{by_refl, by_trans, by_mk_comb, by_abs, by_beta, by_assume, by_eq_mp, by_deduct, by_inst, by_inst_type, by_eta, by_select, by_definition, sequent_of_theorem}
use Rattle.hol_journal.specs.Limits.{FitsLog, pair_fits, type_pair_fits}
use Rattle.hol_journal.specs.Journal.{Journal, Recorded, HasTheorem, Follows, IsJournal, IsMade}
use Rattle.hol_journal.proofs.RuleLaws.{refl-gives, assume-gives, trans-gives, eq_mp-gives, mk_comb-gives, abs-gives, beta-gives, deduct-gives, eta-gives, select-gives}
use Rattle.hol_journal.proofs.DefinitionLaws.{define-known, define-gives}
use Rattle.hol_journal.proofs.InstanceLaws.{inst-gives, inst_type-gives}
use Rattle.hol_journal.proofs.KnownParts.{known_of, knows_none, knows_one, refl-known, assume-known, beta-known, binder_known, pairs_known, type_pairs_known}
use Rattle.hol_journal.proofs.JournalLemmas.{given-follows, made-cited, made-there}

-- what a step cites

cites_none : (journal : Journal) (number : ℕ) → IsMember number [] → HasTheorem journal.entries number
cites_none journal number m = absurd m

cites_one : (journal : Journal) (made : Recorded) → IsMade journal made → (number : ℕ) → IsMember number (made.entry ∷ []) → HasTheorem journal.entries number
cites_one journal made is number (inl e) = made-there journal made is number e
cites_one journal made is number (inr m) = absurd m

cites_two : (journal : Journal) (first second : Recorded) → IsMade journal first → IsMade journal second → (number : ℕ)
    → IsMember number (first.entry ∷ second.entry ∷ []) → HasTheorem journal.entries number
cites_two journal first second one two number (inl e) = made-there journal first one number e
cites_two journal first second one two number (inr (inl e)) = made-there journal second two number e
cites_two journal first second one two number (inr (inr m)) = absurd m

module _ (journal : Journal) (is : IsJournal journal) where
  pub refl-follows : (term : NamedTerm) (ty : HolType) (answer : Theorem) → type_of term ≡ Some ty → is_within_limits term ≡ true
      → refl_outcome journal.theory term ≡ Ok answer → FitsLog answer
      → Follows journal.entries (by_refl term) (sequent_of_theorem answer)
  refl-follows term ty answer typed within outcome fits =
      given-follows journal (by_refl term) (sequent_of_theorem answer) is (cites_none journal)
      (knows_one journal.theory (by_refl term) term refl refl
      (record {
        ty = ty;
        typed = typed;
        known = known_of journal.theory term ty typed (refl-known journal.theory term answer outcome);
        within_limits = within;
      }))
      (refl-gives journal.theory journal.entries term ty answer typed outcome fits)

  pub assume-follows : (term : NamedTerm) (ty : HolType) (answer : Theorem) → type_of term ≡ Some ty
      → is_within_limits term ≡ true → assume_outcome journal.theory term ≡ Ok answer → FitsLog answer
      → Follows journal.entries (by_assume term) (sequent_of_theorem answer)
  assume-follows term ty answer typed within outcome fits =
      given-follows journal (by_assume term) (sequent_of_theorem answer) is (cites_none journal)
      (knows_one journal.theory (by_assume term) term refl refl
      (record {
        ty = ty;
        typed = typed;
        known = known_of journal.theory term ty typed (assume-known journal.theory term answer outcome);
        within_limits = within;
      }))
      (assume-gives journal.theory journal.entries term ty answer typed outcome fits)

  pub beta-follows : (term : NamedTerm) (ty : HolType) (answer : Theorem) → type_of term ≡ Some ty → is_within_limits term ≡ true
      → beta_outcome journal.theory term ≡ Ok answer → FitsLog answer
      → Follows journal.entries (by_beta term) (sequent_of_theorem answer)
  beta-follows term ty answer typed within outcome fits =
      given-follows journal (by_beta term) (sequent_of_theorem answer) is (cites_none journal)
      (knows_one journal.theory (by_beta term) term refl refl
      (record {
        ty = ty;
        typed = typed;
        known = known_of journal.theory term ty typed (beta-known journal.theory term answer outcome);
        within_limits = within;
      }))
      (beta-gives journal.theory journal.entries term ty answer typed outcome fits)

  pub trans-follows : (first second : Recorded) (answer : Theorem) → IsMade journal first → IsMade journal second → IsTheorem first.theorem → IsTheorem second.theorem
      → trans_outcome journal.theory first.theorem second.theorem ≡ Ok answer → FitsLog answer → Follows journal.entries (by_trans first.entry second.entry) (sequent_of_theorem answer)
  trans-follows first second answer made_first made_second is_first is_second outcome fits =
      given-follows journal (by_trans first.entry second.entry) (sequent_of_theorem answer) is (cites_two journal first second made_first made_second)
      (knows_none journal.theory (by_trans first.entry second.entry) refl refl)
      (trans-gives journal.theory journal.entries first.entry second.entry first.theorem second.theorem answer
      (made-cited journal first made_first is_first) (made-cited journal second made_second is_second) outcome fits)

  pub eq_mp-follows : (first second : Recorded) (answer : Theorem) → IsMade journal first → IsMade journal second → IsTheorem first.theorem → IsTheorem second.theorem
      → eq_mp_outcome journal.theory first.theorem second.theorem ≡ Ok answer → FitsLog answer → Follows journal.entries (by_eq_mp first.entry second.entry) (sequent_of_theorem answer)
  eq_mp-follows first second answer made_first made_second is_first is_second outcome fits =
      given-follows journal (by_eq_mp first.entry second.entry) (sequent_of_theorem answer) is (cites_two journal first second made_first made_second)
      (knows_none journal.theory (by_eq_mp first.entry second.entry) refl refl)
      (eq_mp-gives journal.theory journal.entries first.entry second.entry first.theorem second.theorem answer
      (made-cited journal first made_first is_first) (made-cited journal second made_second is_second) outcome fits)

  pub mk_comb-follows : (first second : Recorded) (answer : Theorem) → IsMade journal first → IsMade journal second → IsTheorem first.theorem → IsTheorem second.theorem
      → mk_comb_outcome journal.theory first.theorem second.theorem ≡ Ok answer → FitsLog answer → Follows journal.entries (by_mk_comb first.entry second.entry) (sequent_of_theorem answer)
  mk_comb-follows first second answer made_first made_second is_first is_second outcome fits =
      given-follows journal (by_mk_comb first.entry second.entry) (sequent_of_theorem answer) is (cites_two journal first second made_first made_second)
      (knows_none journal.theory (by_mk_comb first.entry second.entry) refl refl)
      (mk_comb-gives journal.theory journal.entries first.entry second.entry first.theorem second.theorem answer
      (made-cited journal first made_first is_first) (made-cited journal second made_second is_second) outcome fits)

  pub deduct-follows : (first second : Recorded) (answer : Theorem) → IsMade journal first → IsMade journal second → IsTheorem first.theorem → IsTheorem second.theorem
      → deduct_antisym_outcome journal.theory first.theorem second.theorem ≡ Ok answer → FitsLog answer → Follows journal.entries (by_deduct first.entry second.entry) (sequent_of_theorem answer)
  deduct-follows first second answer made_first made_second is_first is_second outcome fits =
      given-follows journal (by_deduct first.entry second.entry) (sequent_of_theorem answer) is (cites_two journal first second made_first made_second)
      (knows_none journal.theory (by_deduct first.entry second.entry) refl refl)
      (deduct-gives journal.theory journal.entries first.entry second.entry first.theorem second.theorem answer
      (made-cited journal first made_first is_first) (made-cited journal second made_second is_second) outcome fits)

  pub abs-follows : (binder : NamedTerm) (theorem : Recorded) (answer : Theorem) → is_within_limits binder ≡ true → IsMade journal theorem → IsTheorem theorem.theorem
      → abs_outcome journal.theory binder theorem.theorem ≡ Ok answer → FitsLog answer → Follows journal.entries (by_abs binder theorem.entry) (sequent_of_theorem answer)
  abs-follows binder theorem answer within made is_theorem outcome fits =
      given-follows journal (by_abs binder theorem.entry) (sequent_of_theorem answer) is (cites_one journal theorem made)
      (knows_one journal.theory (by_abs binder theorem.entry) binder refl refl (binder_known journal.theory binder theorem.theorem answer within outcome))
      (abs-gives journal.theory journal.entries binder theorem.entry theorem.theorem answer (made-cited journal theorem made is_theorem) outcome fits)

  pub inst-follows : (pairs : List (NamedTerm × NamedTerm)) (theorem : Recorded) (answer : Theorem) → list_all pair_fits pairs ≡ true → IsMade journal theorem → IsTheorem theorem.theorem
      → inst_refusal journal.theory pairs theorem.theorem ≡ None → IsInst journal.theory pairs theorem.theorem answer → FitsLog answer
      → Follows journal.entries (by_inst theorem.entry pairs) (sequent_of_theorem answer)
  inst-follows pairs theorem answer within made is_theorem none instance fits =
      given-follows journal (by_inst theorem.entry pairs) (sequent_of_theorem answer) is (cites_one journal theorem made)
      (pairs_known journal.theory theorem.entry pairs theorem.theorem within none)
      (inst-gives journal.theory journal.entries theorem.entry pairs theorem.theorem answer (made-cited journal theorem made is_theorem) none instance fits)

  pub inst_type-follows : (pairs : List (HolType × HolType)) (theorem : Recorded) (answer : Theorem) → list_all type_pair_fits pairs ≡ true → IsMade journal theorem → IsTheorem theorem.theorem
      → inst_type_refusal journal.theory pairs theorem.theorem ≡ None → IsInstType journal.theory pairs theorem.theorem answer → FitsLog answer
      → Follows journal.entries (by_inst_type theorem.entry pairs) (sequent_of_theorem answer)
  inst_type-follows pairs theorem answer within made is_theorem none instance fits =
      given-follows journal (by_inst_type theorem.entry pairs) (sequent_of_theorem answer) is (cites_one journal theorem made)
      (type_pairs_known journal.theory theorem.entry pairs theorem.theorem within none)
      (inst_type-gives journal.theory journal.entries theorem.entry pairs theorem.theorem answer (made-cited journal theorem made is_theorem) none instance fits)

  pub eta-follows : (answer : Theorem) → answer ≡ eta_theorem journal.theory → FitsLog answer → Follows journal.entries by_eta (sequent_of_theorem answer)
  eta-follows answer same fits =
      given-follows journal by_eta (sequent_of_theorem answer) is (cites_none journal) (knows_none journal.theory by_eta refl refl)
      (eta-gives journal.theory journal.entries answer same fits)

  pub select-follows : (answer : Theorem) → answer ≡ select_theorem journal.theory → FitsLog answer → Follows journal.entries by_select (sequent_of_theorem answer)
  select-follows answer same fits =
      given-follows journal by_select (sequent_of_theorem answer) is (cites_none journal) (knows_none journal.theory by_select refl refl)
      (select-gives journal.theory journal.entries answer same fits)

  pub define-follows : (name : List ℕ) (term : NamedTerm) (ty : HolType) (answer : Theorem) → type_of term ≡ Some ty → is_within_limits term ≡ true
      → define_outcome journal.theory name term ≡ Ok answer → FitsLog answer
      → Follows journal.entries (by_definition name term) (sequent_of_theorem answer)
  define-follows name term ty answer typed within outcome fits =
      given-follows journal (by_definition name term) (sequent_of_theorem answer) is (cites_none journal)
      (knows_one journal.theory (by_definition name term) term refl refl
      (record {
        ty = ty;
        typed = typed;
        known = known_of journal.theory term ty typed (define-known journal.theory name term answer outcome);
        within_limits = within;
      }))
      (define-gives journal.theory journal.entries name term ty answer typed outcome fits)
