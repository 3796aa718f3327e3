-- What a recorder stores is a journal again.
use Rattle.std.proofs.Common.{◌≡◌, ℕ, List, [], ◌∷◌, ◌++◌, length, true, not, refl, sym, ◌∙◌, ap, subst, Some, Ok, nat_le}
use Rattle.hol_model.specs.declared.limits.TheConstants.{DEFINITIONS_LIMIT}
use Rattle.hol_model.specs.declared.fault.Fault.TheVariants.{BadName, AlreadyDefined, TooLarge, UnknownType, TypeVarsNotReflected}
use Rattle.hol_model.specs.Terms.HolType.{HolType}
use Rattle.hol_model.specs.Terms.NamedTerm.{NamedTerm, constant, type_of, type_fits, is_within_limits, equation}
use Rattle.hol_model.specs.Terms.Nameless.{image}
use Rattle.hol_model.specs.Terms.Name.{is_constant_name, is_declared_type_name}
use Rattle.hol_model.specs.Logic.Legality.{is_new_name, is_fixed, own_type}
use Rattle.hol_model.specs.Logic.KnownTerm.{knows_type}
use Rattle.hol_model.specs.Kernel.Outcome.{unless}
use Rattle.hol_model.specs.Logic.Theory as theories
use Rattle.hol_model.specs.Logic.Theory.{Theory, IsLegal, declaration_of_type, declaration_of_constant}
use Rattle.hol_kernel.proofs.DefinitionLemmas.{declared_type-legal, declared_constant-legal}
use Rattle.hol_model.specs.Kernel.Theorem.{Theorem}
use Rattle.hol_model.specs.Goals.Goals.{Sequent}
use Rattle.hol_model.specs.Kernel.Rules.{is_full, define_outcome, new_type_outcome, new_const_outcome}
use Rattle.hol_journal.specs.Steps.{by_definition, JournalEntry, derived, declared_type, declared_constant, sequent_of_theorem}
use Rattle.hol_journal.specs.Limits.{FitsLog}
use Rattle.hol_journal.specs.Journal.{Journal, added_by, Follows, IsJournal}
use Rattle.hol_journal.specs.Views.{step_of}
use Rattle.hol_journal.specs.declared.entry.Rule.{Rule}
use Rattle.hol_journal.specs.declared.entry.Rule.TheVariants.{Refl, Trans, MkComb, Abs, Beta, Assume, EqMp, DeductAntisym, Inst, InstType, Eta, Select}
use Rattle.hol_journal.proofs.Showing.{unless-is, answered}
use Rattle.hol_journal.proofs.DefinitionLaws.{define-answers, define-may, one_more}
use Rattle.hol_journal.proofs.JournalLemmas.{IsNextEntry, journal-stored}
use Rattle.hol_journal.proofs.FollowLemmas.{define-follows}

-- a rule adds nothing to the theory
pub rule_adds_nothing : (rule : Rule) (sequent : Sequent) → added_by (derived (step_of rule) sequent) ≡ []
rule_adds_nothing (Refl term) sequent = refl
rule_adds_nothing (Trans first second) sequent = refl
rule_adds_nothing (MkComb first second) sequent = refl
rule_adds_nothing (Abs binder theorem) sequent = refl
rule_adds_nothing (Beta term) sequent = refl
rule_adds_nothing (Assume term) sequent = refl
rule_adds_nothing (EqMp first second) sequent = refl
rule_adds_nothing (DeductAntisym first second) sequent = refl
rule_adds_nothing (Inst theorem pairs) sequent = refl
rule_adds_nothing (InstType theorem pairs) sequent = refl
rule_adds_nothing Eta sequent = refl
rule_adds_nothing Select sequent = refl

pub rule-stored : (shown now : Journal) (items : List JournalEntry) (rule : Rule) (theorem : Theorem) → shown ≡ now → IsJournal shown
    → items ≡ shown.entries ++ derived (step_of rule) (sequent_of_theorem theorem) ∷ [] → Follows now.entries (step_of rule) (sequent_of_theorem theorem)
    → IsJournal (record { theory = shown.theory; entries = items })
rule-stored shown now items rule theorem view is pushed follows =
    let nothing = ap (λ t. t ++ shown.theory) (sym (rule_adds_nothing rule (sequent_of_theorem theorem))) in
    let there : Follows shown.entries (step_of rule) (sequent_of_theorem theorem) =
    subst (λ (j : Journal). Follows j.entries (step_of rule) (sequent_of_theorem theorem)) (sym view) follows in
    journal-stored shown shown.theory items (derived (step_of rule) (sequent_of_theorem theorem)) is nothing pushed
    (record {
      legal = subst IsLegal nothing is.legal;
      within_limit = ap (λ t. nat_le (length t) DEFINITIONS_LIMIT) (sym nothing) ∙ is.within_limit;
      follows = there;
    })

-- the entry of a definition
abbrev pub defined_entry : List ℕ → NamedTerm → JournalEntry
defined_entry name term = derived (by_definition name term) (record { hypotheses = []; conclusion = image (equation (constant name (own_type term)) term) })

definition-entry : (theory : Theory) (name : List ℕ) (term : NamedTerm) (answer : Theorem) → define_outcome theory name term ≡ Ok answer
    → defined_entry name term ≡ derived (by_definition name term) (sequent_of_theorem answer)
definition-entry theory name term answer outcome = ap (λ t. derived (by_definition name term) (sequent_of_theorem t)) (sym (define-answers theory name term answer outcome))

pub definition-stored : (shown : Journal) (theory : Theory) (mid items : List JournalEntry) (entry : JournalEntry) (name : List ℕ) (term : NamedTerm) (ty : HolType) (answer : Theorem)
    → IsJournal shown → mid ≡ shown.entries → items ≡ mid ++ entry ∷ []
    → type_of term ≡ Some ty → define_outcome shown.theory name term ≡ Ok answer → FitsLog answer → is_within_limits term ≡ true → theory ≡ answer.theory → entry ≡ defined_entry name term
    → IsJournal (record { theory = theory; entries = items })
definition-stored shown theory mid items entry name term ty answer is same pushed typed outcome fits within grown entry_is =
    let derived_is = entry_is ∙ definition-entry shown.theory name term answer outcome in
    let entry_follows = define-follows shown is name term ty answer typed within outcome fits in
    let may = define-may shown.theory is.legal name term ty answer typed outcome in
    let next : IsNextEntry shown (derived (by_definition name term) (sequent_of_theorem answer)) = record {
      legal = may.legal;
      within_limit = may.within_limit;
      follows = entry_follows;
    } in
    journal-stored shown theory items entry is
    (grown ∙ ap (λ t. t.theory) (define-answers shown.theory name term answer outcome) ∙ ap (λ e. added_by e ++ shown.theory) (sym entry_is))
    (pushed ∙ ap (λ l. l ++ entry ∷ []) same)
    (subst (IsNextEntry shown) (sym derived_is) next)

pub definition-listed : (shown now : Journal) (mid items : List JournalEntry) (entry : JournalEntry) (name : List ℕ) (term : NamedTerm) (answer : Theorem)
    → shown ≡ now → mid ≡ shown.entries → items ≡ mid ++ entry ∷ []
    → define_outcome shown.theory name term ≡ Ok answer → entry ≡ defined_entry name term
    → items ≡ now.entries ++ derived (by_definition name term) (sequent_of_theorem answer) ∷ []
definition-listed shown now mid items entry name term answer view same pushed outcome entry_is =
    let derived_is = entry_is ∙ definition-entry shown.theory name term answer outcome in
    pushed ∙ ap (λ l. l ++ entry ∷ []) same ∙ (λ i. (ap (λ (j : Journal). j.entries) view) i ++ derived_is i ∷ [])

-- what a declaration leaves

theory_is : (made now : Theory) → answered {A = Theory} made ≡ Ok now → now ≡ made
theory_is made now is = cc

-- the call leaves a legal theory with one more entry
record Leaves (theory now : Theory) (entry : theories.Entry) : Type 0 where
  is : now ≡ entry ∷ theory
  legal : IsLegal (entry ∷ theory)
  within_limit : nat_le (length (entry ∷ theory)) DEFINITIONS_LIMIT ≡ true

new_type-leaves : (theory now : Theory) (name : List ℕ) → IsLegal theory → new_type_outcome theory name ≡ Ok now → Leaves theory now (declaration_of_type name)
new_type-leaves theory now name legal outcome =
    let made = answered {A = Theory} (declaration_of_type name ∷ theory) in
    let room = unless (not (is_full theory)) TooLarge made in
    let new = unless (is_new_name theory name) AlreadyDefined room in
    let one = unless-is (is_declared_type_name name) BadName new now outcome in
    let two = unless-is (is_new_name theory name) AlreadyDefined room now one.1 in
    let three = unless-is (not (is_full theory)) TooLarge made now two.1 in
    record {
      is = theory_is (declaration_of_type name ∷ theory) now three.1;
      legal = declared_type-legal theory legal name one.0 two.0;
      within_limit = one_more theory (declaration_of_type name) three.0;
    }

new_const-leaves : (theory now : Theory) (name : List ℕ) (ty : HolType) → IsLegal theory → new_const_outcome theory name ty ≡ Ok now
    → Leaves theory now (declaration_of_constant name ty)
new_const-leaves theory now name ty legal outcome =
    let made = answered {A = Theory} (declaration_of_constant name ty ∷ theory) in
    let room = unless (not (is_full theory)) TooLarge made in
    let new = unless (is_new_name theory name) AlreadyDefined room in
    let fixed = unless (is_fixed ty) TypeVarsNotReflected new in
    let known = unless (knows_type theory ty) UnknownType fixed in
    let one = unless-is (is_constant_name name) BadName known now outcome in
    let two = unless-is (knows_type theory ty) UnknownType fixed now one.1 in
    let three = unless-is (is_fixed ty) TypeVarsNotReflected new now two.1 in
    let four = unless-is (is_new_name theory name) AlreadyDefined room now three.1 in
    let five = unless-is (not (is_full theory)) TooLarge made now four.1 in
    record {
      is = theory_is (declaration_of_constant name ty ∷ theory) now five.1;
      legal = declared_constant-legal theory legal name ty one.0 two.0 three.0 four.0;
      within_limit = one_more theory (declaration_of_constant name ty) five.0;
    }

pub type-stored : (shown : Journal) (theory : Theory) (mid items : List JournalEntry) (entry : JournalEntry) (name : List ℕ)
    → IsJournal shown → mid ≡ shown.entries → items ≡ mid ++ entry ∷ []
    → new_type_outcome shown.theory name ≡ Ok theory → entry ≡ declared_type name → IsJournal (record { theory = theory; entries = items })
type-stored shown theory mid items entry name is same pushed outcome entry_is =
    let leaves = new_type-leaves shown.theory theory name is.legal outcome in
    let next : IsNextEntry shown (declared_type name) = record { legal = leaves.legal; within_limit = leaves.within_limit; follows = tt } in
    journal-stored shown theory items entry is
    (leaves.is ∙ ap (λ e. added_by e ++ shown.theory) (sym entry_is))
    (pushed ∙ ap (λ l. l ++ entry ∷ []) same)
    (subst (IsNextEntry shown) (sym entry_is) next)

pub constant-stored : (shown : Journal) (theory : Theory) (mid items : List JournalEntry) (entry : JournalEntry) (name : List ℕ) (ty : HolType)
    → IsJournal shown → mid ≡ shown.entries → items ≡ mid ++ entry ∷ []
    → new_const_outcome shown.theory name ty ≡ Ok theory → type_fits ty ≡ true → entry ≡ declared_constant name ty
    → IsJournal (record { theory = theory; entries = items })
constant-stored shown theory mid items entry name ty is same pushed outcome fits entry_is =
    let leaves = new_const-leaves shown.theory theory name ty is.legal outcome in
    let next : IsNextEntry shown (declared_constant name ty) = record { legal = leaves.legal; within_limit = leaves.within_limit; follows = fits } in
    journal-stored shown theory items entry is
    (leaves.is ∙ ap (λ e. added_by e ++ shown.theory) (sym entry_is))
    (pushed ∙ ap (λ l. l ++ entry ∷ []) same)
    (subst (IsNextEntry shown) (sym entry_is) next)
