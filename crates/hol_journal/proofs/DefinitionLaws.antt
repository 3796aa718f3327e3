-- The lines of the axioms and of definitions are accepted, and give the image of what the kernel answers.
use Rattle.std.proofs.Common.{◌≡◌, ◌≤◌, ◌<◌, ◌+◌, ℕ, List, [], ◌∷◌, length, true, false, ◌&&◌, not, refl, sym, ◌∙◌, ap, inl, Some, None, Ok, arith, nat_le}
use Rattle.hol_model.specs.Terms.Nameless.{const, image}
use Rattle.hol_model.specs.Logic.Theory.{Theory, Entry, definition, IsLegal}
use Rattle.hol_model.specs.Kernel.Theorem.{Theorem}
use Rattle.hol_model.specs.Logs.LogState.{term_type}
use Rattle.hol_journal.specs.Steps.{JournalEntry, sequent_of_theorem}
use Rattle.hol_journal.specs.Lines.{Gives}
use Rattle.hol_journal.specs.Limits.{FitsLog}
use Rattle.std.proofs.lemmas.Bool.{leb-false, le-leb}
use Rattle.hol_model.specs.declared.fault.Fault.TheVariants.{BadName, NotClosed, TypeVarsNotReflected, AlreadyDefined, TooLarge}
use Rattle.hol_model.specs.declared.limits.TheConstants.{DEFINITIONS_LIMIT}
use Rattle.hol_model.specs.Terms.HolType.{HolType}
use Rattle.hol_model.specs.Terms.Name.{is_constant_name}
use Rattle.hol_model.specs.Terms.NamedTerm.{NamedTerm, constant, type_of, equation}
use Rattle.hol_model.specs.Logic.Legality.{is_closed, reflects, is_new_name, own_type}
use Rattle.hol_model.specs.Logic.Checks.{has_no_free, reflects_nameless}
use Rattle.hol_model.specs.Kernel.Outcome.{unless, refused}
use Rattle.hol_model.specs.Kernel.Rules.{first_unknown, is_full, with_definition, concluded, define_outcome}
use Rattle.hol_model.specs.Logs.LogSequents.{supposing, equation_of}
use Rattle.hol_model.proofs.Tests.{both}
use Rattle.hol_model.proofs.Logs.LogTests.{not_true}
use Rattle.hol_model.proofs.Logic.Checks.{has_no_free-Decides, reflects_nameless-Decides}
use Rattle.hol_model.proofs.Logic.LegalEntries.{closed-HasNoFree, reflects-image}
use Rattle.hol_kernel.proofs.DefinitionLemmas.{own_type-is, definition-legal}
use Rattle.hol_journal.specs.Steps.{by_definition}
use Rattle.hol_journal.proofs.SequentLemmas.{equation_of-images, term_type-image}
use Rattle.hol_journal.proofs.Showing.{shown, refused-is, passed-none, unless-is, concluded-is, same_sequent}

-- where a theory has room, a log's theory with fewer entries has
room_for_one : (fewer count limit : ℕ) → fewer ≤ count → nat_le limit count ≡ false → nat_le (1 + fewer) limit ≡ true
room_for_one fewer count limit less room = let h : count < limit = leb-false limit count room in le-leb (1 + fewer) limit (omega arith)

-- what an accepted definition passed, and the theorem
record IsDefined (theory : Theory) (name : List ℕ) (term : NamedTerm) (answer : Theorem) : Type 0 where
  is_name : is_constant_name name ≡ true
  known : first_unknown theory term ≡ None
  closed : is_closed term ≡ true
  reflected : reflects (own_type term) term ≡ true
  is_new : is_new_name theory name ≡ true
  has_room : not (is_full theory) ≡ true
  is : answer ≡ record { theory = with_definition theory name term; hypotheses = []; conclusion = equation (constant name (own_type term)) term }

defined : (theory : Theory) (name : List ℕ) (term : NamedTerm) (answer : Theorem) → define_outcome theory name term ≡ Ok answer → IsDefined theory name term answer
defined theory name term answer outcome =
    let made = concluded (with_definition theory name term) [] (equation (constant name (own_type term)) term) in
    let after_new = unless (not (is_full theory)) TooLarge made in
    let after_reflected = unless (is_new_name theory name) AlreadyDefined after_new in
    let after_closed = unless (reflects (own_type term) term) TypeVarsNotReflected after_reflected in
    let after_known = unless (is_closed term) NotClosed after_closed in
    let one = unless-is (is_constant_name name) BadName (refused (first_unknown theory term) after_known) answer outcome in
    let two = unless-is (is_closed term) NotClosed after_closed answer (refused-is (first_unknown theory term) after_known answer one.1) in
    let three = unless-is (reflects (own_type term) term) TypeVarsNotReflected after_reflected answer two.1 in
    let four = unless-is (is_new_name theory name) AlreadyDefined after_new answer three.1 in
    let five = unless-is (not (is_full theory)) TooLarge made answer four.1 in
    record {
      is_name = one.0;
      known = passed-none (first_unknown theory term) after_known answer one.1;
      closed = two.0;
      reflected = three.0;
      is_new = four.0;
      has_room = five.0;
      is = concluded-is (with_definition theory name term) [] (equation (constant name (own_type term)) term) answer five.1;
    }

pub define-answers : (theory : Theory) (name : List ℕ) (term : NamedTerm) (answer : Theorem) → define_outcome theory name term ≡ Ok answer
    → answer ≡ record { theory = with_definition theory name term; hypotheses = []; conclusion = equation (constant name (own_type term)) term }
define-answers theory name term answer outcome = (defined theory name term answer outcome).is

pub define-known : (theory : Theory) (name : List ℕ) (term : NamedTerm) (answer : Theorem) → define_outcome theory name term ≡ Ok answer → first_unknown theory term ≡ None
define-known theory name term answer outcome = (defined theory name term answer outcome).known

-- a theory that is not full takes one more entry
pub one_more : (theory : Theory) (entry : Entry) → not (is_full theory) ≡ true → nat_le (length (entry ∷ theory)) DEFINITIONS_LIMIT ≡ true
one_more theory entry has_room =
    let same : length (entry ∷ theory) ≡ 1 + length theory = omega arith in
    ap (λ n. nat_le n DEFINITIONS_LIMIT) same ∙ room_for_one (length theory) (length theory) DEFINITIONS_LIMIT (omega arith) (not_true (is_full theory) has_room)

-- the theory takes the definition
pub record TakesDefinition (theory : Theory) (name : List ℕ) (term : NamedTerm) : Type 0 where
  pub legal : IsLegal (with_definition theory name term)
  pub within_limit : nat_le (length (with_definition theory name term)) DEFINITIONS_LIMIT ≡ true

pub define-may : (theory : Theory) → IsLegal theory → (name : List ℕ) (term : NamedTerm) (ty : HolType) (answer : Theorem) → type_of term ≡ Some ty
    → define_outcome theory name term ≡ Ok answer → TakesDefinition theory name term
define-may theory legal name term ty answer typed outcome =
    let d = defined theory name term answer outcome in
    let own : own_type term ≡ ty = own_type-is term ty typed in
    record {
      legal = definition-legal theory legal name term (own_type term) (typed ∙ ap Some (sym own)) d.is_name d.known d.closed d.reflected d.is_new;
      within_limit = one_more theory (definition name (own_type term) (image term)) d.has_room;
    }

-- a definition
pub define-gives : (theory : Theory) (entries : List JournalEntry) (name : List ℕ) (term : NamedTerm) (ty : HolType) (answer : Theorem) → type_of term ≡ Some ty
    → define_outcome theory name term ≡ Ok answer → FitsLog answer → Gives theory entries (by_definition name term) (sequent_of_theorem answer)
define-gives theory entries name term ty answer typed outcome fits =
    let d = defined theory name term answer outcome in
    let own : own_type term ≡ ty = own_type-is term ty typed in
    let image_type : term_type (image term) ≡ ty = term_type-image term ty typed in
    let closed : has_no_free (image term) ≡ true = (has_no_free-Decides (image term)).1 (closed-HasNoFree term d.closed) in
    let reflected : reflects_nameless (own_type term) (image term) ≡ true = (reflects_nameless-Decides (own_type term) (image term)).1 (reflects-image (own_type term) term d.reflected) in
    let same_type : term_type (image term) ≡ own_type term = image_type ∙ sym own in
    shown theory entries (by_definition name term) answer fits
    (λ state numbers names.
    ap (λ t. supposing [] (equation_of (const name (term_type t)) t)) (names.terms term (inl refl)).is
    ∙ same_sequent refl ((λ k. equation_of (const name (same_type k)) (image term)) ∙ equation_of-images (constant name (own_type term)) term (own_type term) refl)
    ∙ ap sequent_of_theorem (sym d.is))
    (λ state numbers going names. record {
      number = (names.terms term (inl refl)).there;
      name = ap not (both (is_constant_name name) (is_new_name state.theory name) d.is_name (going.new_names name d.is_new));
      kind = refl;
      condition =
          ap (λ t. not (has_no_free t && reflects_nameless (term_type t) t)) (names.terms term (inl refl)).is
          ∙ (λ k. not (has_no_free (image term) && reflects_nameless (same_type k) (image term)))
          ∙ ap not (both (has_no_free (image term)) (reflects_nameless (own_type term) (image term)) closed reflected);
      room = room_for_one (length state.theory) (length theory) DEFINITIONS_LIMIT going.fewer (not_true (is_full theory) d.has_room);
    })
