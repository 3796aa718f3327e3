-- The entries of a journal cite entries before them, and mention names that are introduced before them.
use Rattle.std.proofs.Common.{◌≡◌, ◌<◌, ◌≤◌, ◌+◌, ◌-◌, ℕ, zero, suc, List, [], ◌∷◌, ◌++◌, length, Bool, true, false, ◌&&◌, not, refl, sym, ◌∙◌, ap, subst, inl, inr, Some, append_assoc, arith, nat_le}
use Rattle.std.specs.Prelude.{slice_get}
use Rattle.std.specs.List.{flat_map}
use Rattle.std.specs.Option.{is_some}
use Rattle.std.proofs.lemmas.Bool.{leb-true}
use Rattle.std.proofs.lemmas.Option.{slice_get_within}
use Rattle.hol_model.specs.Terms.HolType.{HolType, type_variable, bool_type, function_type, declared_type}
use Rattle.hol_model.specs.Terms.NamedTerm.{NamedTerm, variable, constant, combination, abstraction}
use Rattle.hol_model.specs.Logic.Derivable.{IsMember}
use Rattle.hol_model.specs.Logic.Theory.{Theory, Entry, definition, declaration_of_type, declaration_of_constant, generic_type, IsLegal}
use Rattle.hol_model.specs.Logic.KnownTerm.{is_declared, knows_type, knows_types, knows_constants, has_instances}
use Rattle.hol_model.specs.Logic.Legality.{is_new_name}
use Rattle.hol_model.proofs.Terms.Membership.{of_append}
use Rattle.hol_model.proofs.Tests.{first_of_both, second_of_both}
use Rattle.hol_model.proofs.Terms.TypeTests.{knows_type-Decides, is_new_name-Decides}
use Rattle.hol_model.proofs.Logs.LogTests.{is_there}
use Rattle.hol_model.proofs.Logic.Later.{head_is_new}
use Rattle.hol_journal.specs.Steps as steps
use Rattle.hol_journal.specs.Steps.{Step, by_definition, JournalEntry, derived, declared_constant, terms_of, types_of}
use Rattle.hol_journal.specs.Journal.{Journal, added_by, grown_by, theory_of, IsJournal, IsEntryAfter, KnowsParts}
use Rattle.hol_journal_log.specs.Needed.{names_in_type, names_in_term, names_in, introduced_by, StandOnEarlier}
use Rattle.hol_journal_log.proofs.KeptTheory.{entry_name, new_earlier, grown_by-append, legal_before}

-- what makes a member
of_flat_map : {A B : Type 0} (f : A → List B) (xs : List A) (b : B) → IsMember b (flat_map f xs) → (x : A) × IsMember x xs × IsMember b (f x)
of_flat_map f [] b m = absurd m
of_flat_map f (x ∷ xs) b m = elim (of_append b (f x) (flat_map f xs) m) [
  | inl here ↦ (x, inl refl, here)
  | inr later ↦ let found = of_flat_map f xs b later in (found.0, inr found.1, found.2)
]

-- the names in what a theory knows are not new over it

taken : (p q : Bool) → q ≡ true → (p && not q) ≡ false
taken true q is = ap not is
taken false q is = refl

type_names : (theory : Theory) (ty : HolType) (name : List ℕ) → knows_type theory ty ≡ true → IsMember name (names_in_type ty) → is_new_name theory name ≡ false
type_names theory (type_variable other) name known m = absurd m
type_names theory bool_type name known m = absurd m
type_names theory (declared_type other) name known (inl same) = taken (not (is_some (generic_type theory name))) (is_declared theory name) (ap (is_declared theory) same ∙ known)
type_names theory (declared_type other) name known (inr m) = absurd m
type_names theory (function_type a b) name known m = elim (of_append name (names_in_type a) (names_in_type b) m) [
  | inl l ↦ type_names theory a name (first_of_both (knows_type theory a) (knows_type theory b) known) l
  | inr r ↦ type_names theory b name (second_of_both (knows_type theory a) (knows_type theory b) known) r
]

term_names : (theory : Theory) (term : NamedTerm) (name : List ℕ) → knows_types theory term ≡ true → knows_constants theory term ≡ true
    → IsMember name (names_in_term term) → is_new_name theory name ≡ false
term_names theory (variable other ty) name types constants m = type_names theory ty name types m
term_names theory (constant other ty) name types constants (inl same) = ap (λ t. not t && not (is_declared theory name)) (ap (λ n. is_some (generic_type theory n)) same ∙ constants)
term_names theory (constant other ty) name types constants (inr m) = type_names theory ty name types m
term_names theory (combination f a) name types constants m = elim (of_append name (names_in_term f) (names_in_term a) m) [
  | inl l ↦ term_names theory f name (first_of_both (knows_types theory f) (knows_types theory a) types) (first_of_both (knows_constants theory f) (knows_constants theory a) constants) l
  | inr r ↦ term_names theory a name (second_of_both (knows_types theory f) (knows_types theory a) types) (second_of_both (knows_constants theory f) (knows_constants theory a) constants) r
]
term_names theory (abstraction other ty body) name types constants m = elim (of_append name (names_in_type ty) (names_in_term body) m) [
  | inl l ↦ type_names theory ty name (first_of_both (knows_type theory ty) (knows_types theory body) types) l
  | inr r ↦ term_names theory body name (second_of_both (knows_type theory ty) (knows_types theory body) types) constants r
]

step_names : (theory : Theory) (step : Step) (name : List ℕ) → KnowsParts theory step → IsMember name (flat_map names_in_term (terms_of step) ++ flat_map names_in_type (types_of step))
    → is_new_name theory name ≡ false
step_names theory step name knows m = elim (of_append name (flat_map names_in_term (terms_of step)) (flat_map names_in_type (types_of step)) m) [
  | inl l ↦
      let found = of_flat_map names_in_term (terms_of step) name l in
      let term = found.0 in
      let known = (knows.terms term found.1).known in
      let types_and_constants = first_of_both (knows_types theory term && knows_constants theory term) (has_instances theory term) known in
      term_names theory term name (first_of_both (knows_types theory term) (knows_constants theory term) types_and_constants)
      (second_of_both (knows_types theory term) (knows_constants theory term) types_and_constants) found.2
  | inr r ↦ let found = of_flat_map names_in_type (types_of step) name r in type_names theory found.0 name (knows.types found.0 found.1).known found.2
]

entry_names : (before : List JournalEntry) (entry : JournalEntry) → IsEntryAfter before entry → IsLegal (added_by entry ++ theory_of before)
    → (name : List ℕ) → IsMember name (names_in entry) → is_new_name (theory_of before) name ≡ false
entry_names before (derived step sequent) follows legal name m = step_names (theory_of before) step name follows.knows m
entry_names before (steps.declared_type other) follows legal name m = absurd m
entry_names before (declared_constant other ty) follows legal name m = type_names (theory_of before) ty name ((knows_type-Decides (theory_of before) ty).1 legal.0.known) m

-- the name that an entry introduces is new over what stands before

abbrev Introduces : JournalEntry → List ℕ → Type 0
Introduces entry name = (added : Entry) × (added_by entry ≡ added ∷ []) × (entry_name added ≡ name)

some_name : (one two : List ℕ) → Some one ≡ Some two → one ≡ two
some_name one two same = cc

introduces : (entry : JournalEntry) (name : List ℕ) → introduced_by entry ≡ Some name → Introduces entry name
introduces (derived (by_definition other term) sequent) name is = (_, refl, some_name other name is)
introduces (derived (steps.by_refl term) sequent) name is = cc
introduces (derived (steps.by_trans first second) sequent) name is = cc
introduces (derived (steps.by_mk_comb first second) sequent) name is = cc
introduces (derived (steps.by_abs binder theorem) sequent) name is = cc
introduces (derived (steps.by_beta term) sequent) name is = cc
introduces (derived (steps.by_assume term) sequent) name is = cc
introduces (derived (steps.by_eq_mp first second) sequent) name is = cc
introduces (derived (steps.by_deduct first second) sequent) name is = cc
introduces (derived (steps.by_inst theorem pairs) sequent) name is = cc
introduces (derived (steps.by_inst_type theorem pairs) sequent) name is = cc
introduces (derived steps.by_eta sequent) name is = cc
introduces (derived steps.by_select sequent) name is = cc
introduces (steps.declared_type other) name is = (_, refl, some_name other name is)
introduces (declared_constant other ty) name is = (_, refl, some_name other name is)

head_new : (entry : Entry) (theory : Theory) → IsLegal (entry ∷ theory) → is_new_name theory (entry_name entry) ≡ true
head_new (definition name ty body) theory legal = (is_new_name-Decides theory name).1 (head_is_new (definition name ty body) theory legal)
head_new (declaration_of_type name) theory legal = (is_new_name-Decides theory name).1 (head_is_new (declaration_of_type name) theory legal)
head_new (declaration_of_constant name ty) theory legal = (is_new_name-Decides theory name).1 (head_is_new (declaration_of_constant name ty) theory legal)

introduced_new : (entry : JournalEntry) (theory : Theory) (name : List ℕ) → introduced_by entry ≡ Some name → IsLegal (added_by entry ++ theory) → is_new_name theory name ≡ true
introduced_new entry theory name is legal =
    let one = introduces entry name is in
    ap (is_new_name theory) (sym one.2) ∙ head_new one.0 theory (subst (λ (t : Theory). IsLegal (t ++ theory)) one.1 legal)

-- what is new over a theory was new before

new_without : (added theory : Theory) (name : List ℕ) → is_new_name (added ++ theory) name ≡ true → is_new_name theory name ≡ true
new_without [] theory name is_new = is_new
new_without (entry ∷ added) theory name is_new = new_without added theory name (new_earlier entry (added ++ theory) name is_new)

new_before : (theory : Theory) (entries : List JournalEntry) (name : List ℕ) → is_new_name (grown_by theory entries) name ≡ true → is_new_name theory name ≡ true
new_before theory [] name is_new = is_new
new_before theory (entry ∷ entries) name is_new = new_without (added_by entry) theory name (new_before (added_by entry ++ theory) entries name is_new)

-- the list before and behind a place

record SplitAt (entries : List JournalEntry) (place : ℕ) (entry : JournalEntry) : Type 0 where
  before : List JournalEntry
  after : List JournalEntry
  is : entries ≡ before ++ entry ∷ after
  number : place ≡ length before

split_at : (entries : List JournalEntry) (place : ℕ) (entry : JournalEntry) → slice_get entries place ≡ Some entry → SplitAt entries place entry
split_at [] place entry there = cc
split_at (first ∷ entries) zero entry there = let same : first ≡ entry = cc in record { before = []; after = entries; is = ap (λ (e : JournalEntry). e ∷ entries) same; number = refl }
split_at (first ∷ entries) (suc place) entry there =
    let deeper = split_at entries place entry there in
    record { before = first ∷ deeper.before; after = deeper.after; is = ap (λ l. first ∷ l) deeper.is; number = ap suc deeper.number }

get_behind : (front back : List JournalEntry) (number : ℕ) → slice_get (front ++ back) (length front + number) ≡ slice_get back number
get_behind [] back number = let same : 0 + number ≡ number = omega arith in ap (slice_get back) same
get_behind (first ∷ front) back number =
    let same : suc (length front) + number ≡ suc (length front + number) = omega arith in
    ap (slice_get (first ∷ front ++ back)) same ∙ get_behind front back number

module _ (journal : Journal) (is : IsJournal journal) where
  legal_at : (before : List JournalEntry) (entry : JournalEntry) (after : List JournalEntry) → journal.entries ≡ before ++ entry ∷ after → IsLegal (added_by entry ++ theory_of before)
  legal_at before entry after all =
      legal_before (added_by entry ++ theory_of before) after (subst IsLegal (is.theory ∙ ap theory_of all ∙ grown_by-append [] before (entry ∷ after)) is.legal)

  -- no entry from its place on introduces a name that an entry mentions
  not_later : (number user : ℕ) (entry using : JournalEntry) (name : List ℕ) → slice_get journal.entries user ≡ Some using → IsMember name (names_in using)
      → slice_get journal.entries number ≡ Some entry → introduced_by entry ≡ Some name → user ≤ number → ⊥
  not_later number user entry using name there m at introduced later =
      let first = split_at journal.entries user using there in
      let before = first.before in
      let distance = number - user in
      let place = first.number in
      let number_is : number ≡ length before + distance = omega arith in
      let behind = sym (get_behind before (using ∷ first.after) distance) ∙ (λ i. slice_get (sym first.is i) (sym number_is i)) ∙ at in
      let second = split_at (using ∷ first.after) distance entry behind in
      let whole = first.is ∙ ap (λ l. before ++ l) second.is ∙ sym (append_assoc before second.before (entry ∷ second.after)) in
      let new_then = introduced_new entry (theory_of (before ++ second.before)) name introduced (legal_at (before ++ second.before) entry second.after whole) in
      let new_now = new_before (theory_of before) second.before name (ap (λ t. is_new_name t name) (sym (grown_by-append [] before second.before)) ∙ new_then) in
      let not_new = entry_names before using (is.entries_follow before using first.after first.is) (legal_at before using first.after first.is) name m in
      no_both (is_new_name (theory_of before) name) new_now not_new
    where
      no_both : (t : Bool) → t ≡ true → t ≡ false → ⊥
      no_both t one two = cc

  pub stands-on-earlier : StandOnEarlier journal.entries
  stands-on-earlier = record {
    cites = λ number user step sequent there m.
        let first = split_at journal.entries user (derived step sequent) there in
        let cited = (is.entries_follow first.before (derived step sequent) first.after first.is).cites number m in
        let within = slice_get_within first.before number (derived cited.step cited.sequent) cited.there in
        let place = first.number in
        omega arith;
    mentions = λ number user entry using name there m at introduced. go number user (nat_le user number) refl (not_later number user entry using name there m at introduced);
  }
    where
      go : (number user : ℕ) (t : Bool) → nat_le user number ≡ t → (user ≤ number → ⊥) → number < user
      go number user true is_later none = absurd (none (leb-true user number is_later))
      go number user false is_later none = is_there user number is_later
