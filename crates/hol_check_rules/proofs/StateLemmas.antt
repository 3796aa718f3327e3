-- What a log has given stays as the tables grow.
use Rattle.std.proofs.Common.{◌≡◌, ℕ, suc, ◌<◌, List, [], ◌∷◌, ◌++◌, length, length-append, refl, arith, sym, ◌∙◌, ap, subst, Some}
use Rattle.std.specs.Prelude.{slice_get, map, reverse}
use Rattle.std.specs.List.{All, slice_index_or}
use Rattle.hol_model.specs.Terms.Nameless.{image}
use Rattle.hol_model.specs.Terms.Measures.{nameless_within_limits}
use Rattle.hol_model.specs.Logic.Theory.{Theory, definition, declaration_of_type, declaration_of_constant, generic_type}
use Rattle.hol_model.specs.Logic.KnownTerm.{is_declared}
use Rattle.hol_model.specs.Logs.LogState.{no_sequent}
use Rattle.hol_logtext.specs.Lines.{version_of}
use Rattle.hol_check_terms.specs.Growth.{IsLonger}
use Rattle.hol_check_terms.specs.Terms.{TermTable, name_at, type_at, term_at, IsGrown}
use Rattle.hol_check_rules.specs.Known.{Knows}
use Rattle.hol_check_rules.specs.Hypotheses.{AreOrdered}
use Rattle.hol_check_rules.specs.State.{sequent_in, entry_in, theory_in, claim_in, state_of, IsFittingTheorem, HasEntryParts, IsClaim, IsContents}
use Rattle.hol_check_rules.specs.declared.state.Theorem.{Theorem}
use Rattle.hol_check_rules.specs.declared.state.TheoryEntry.{TheoryEntry}
use Rattle.hol_check_rules.specs.declared.state.TheoryEntry.TheVariants.{Definition, DeclaredType, DeclaredConstant}
use Rattle.hol_check_rules.specs.declared.state.ListedClaim.{ListedClaim}
use Rattle.hol_check_rules.specs.declared.state.Contents.{Contents}
use Rattle.hol_check_changes.specs.Forming.{IsFitting}
use Rattle.hol_check_written.proofs.NamedLemmas.{named-still, written-grown}
use Rattle.hol_check_written.proofs.MakingLemmas.{numbered-grown}
use Rattle.hol_check_terms.proofs.TableLemmas.{slice_get-longer, get_or-longer}
use Rattle.hol_check_terms.proofs.GrowthLemmas.{type-within, type-grown, within-grown, term-grown}

-- lists

All-head : {X : Type 0} (P : X → Type 0) (x : X) (xs : List X) → All P (x ∷ xs) → P x
All-head P x xs all = all 0 x (omega arith)

All-tail : {X : Type 0} (P : X → Type 0) (x : X) (xs : List X) → All P (x ∷ xs) → All P xs
All-tail P x xs all k d within = all (suc k) d (omega arith)

-- a map stays where it stays on each element
pub map-same : {X Y : Type 0} (P : X → Type 0) (f g : X → Y) → ((x : X) → P x → f x ≡ g x) → (xs : List X) → All P xs → map f xs ≡ map g xs
map-same P f g same [] all = refl
map-same P f g same (x ∷ xs) all =
    let first : f x ≡ g x = same x (All-head P x xs all) in
    let rest : map f xs ≡ map g xs = map-same P f g same xs (All-tail P x xs all) in
    cc

pub All-weaker : {X : Type 0} (P Q : X → Type 0) → ((x : X) → P x → Q x) → (xs : List X) → All P xs → All Q xs
All-weaker P Q weaker xs all k d within = weaker _ (all k d within)

-- tables

pub longer-within : {X : Type 0} (earlier now : List X) (n : ℕ) → IsLonger earlier now → n < length earlier → n < length now
longer-within earlier now n longer within =
    let longest = length-append earlier longer.added in
    let same : length now ≡ length (earlier ++ longer.added) = ap length longer.is_added in
    omega arith

pub longer-place : {X : Type 0} (earlier now : List X) (n : ℕ) (x : X) → IsLonger earlier now → slice_get earlier n ≡ Some x → slice_get now n ≡ Some x
longer-place earlier now n x longer there = ap (λ l. slice_get l n) longer.is_added ∙ slice_get-longer earlier longer.added n x there

pub name-grown : (earlier now : TermTable) (n : ℕ) → IsGrown earlier now → n < length earlier.names → name_at now.names n ≡ name_at earlier.names n
name-grown earlier now n grown within = ap (λ l. name_at l n) grown.names.is_added ∙ get_or-longer earlier.names grown.names.added n [] within

module _ (earlier now : TermTable) (grown : IsGrown earlier now) where
  pub fitting-grown : (n : ℕ) → IsFitting earlier.terms n → IsFitting now.terms n
  fitting-grown n fitting = record {
    within = within-grown earlier now n grown fitting.within;
    fits = ap nameless_within_limits (term-grown earlier now n grown fitting.within) ∙ fitting.fits;
  }

  pub terms-still : (numbers : List ℕ) → All (IsFitting earlier.terms) numbers → map (term_at now.terms) numbers ≡ map (term_at earlier.terms) numbers
  terms-still = map-same (IsFitting earlier.terms) (term_at now.terms) (term_at earlier.terms) (λ n fitting. term-grown earlier now n grown fitting.within)

  pub theorem-grown : (theorem : Theorem) → IsFittingTheorem earlier.terms theorem → IsFittingTheorem now.terms theorem
  theorem-grown theorem fitting = record {
    hypotheses = All-weaker (IsFitting earlier.terms) (IsFitting now.terms) fitting-grown theorem.hypotheses.items fitting.hypotheses;
    ordered = subst AreOrdered (sym (terms-still theorem.hypotheses.items fitting.hypotheses)) fitting.ordered;
    conclusion = fitting-grown theorem.conclusion fitting.conclusion;
  }

  pub sequent-still : (theorem : Theorem) → IsFittingTheorem earlier.terms theorem → sequent_in now.terms theorem ≡ sequent_in earlier.terms theorem
  sequent-still theorem fitting = λ i. record {
    hypotheses = terms-still theorem.hypotheses.items fitting.hypotheses i;
    conclusion = term-grown earlier now theorem.conclusion grown fitting.conclusion.within i;
  }

  sequents-still : (theorems : List Theorem) → All (IsFittingTheorem earlier.terms) theorems → map (sequent_in now.terms) theorems ≡ map (sequent_in earlier.terms) theorems
  sequents-still = map-same (IsFittingTheorem earlier.terms) (sequent_in now.terms) (sequent_in earlier.terms) sequent-still

  parts-grown : (entry : TheoryEntry) → HasEntryParts earlier entry → HasEntryParts now entry
  parts-grown (Definition name ty body) (first, second, third) =
      (longer-within earlier.names now.names name grown.names first, type-within earlier.types now.types ty grown.types second, within-grown earlier now body grown third)
  parts-grown (DeclaredType name) within = longer-within earlier.names now.names name grown.names within
  parts-grown (DeclaredConstant name ty) (first, second) = (longer-within earlier.names now.names name grown.names first, type-within earlier.types now.types ty grown.types second)

  entry-still : (entry : TheoryEntry) → HasEntryParts earlier entry → entry_in now entry ≡ entry_in earlier entry
  entry-still (Definition name ty body) (first, second, third) = λ i. definition (name-grown earlier now name grown first i) (type-grown earlier.types now.types ty grown.types second i)
      (term-grown earlier now body grown third i)
  entry-still (DeclaredType name) within = ap declaration_of_type (name-grown earlier now name grown within)
  entry-still (DeclaredConstant name ty) (first, second) = λ i. declaration_of_constant (name-grown earlier now name grown first i) (type-grown earlier.types now.types ty grown.types second i)

  pub theory-still : (entries : List TheoryEntry) → All (HasEntryParts earlier) entries → theory_in now entries ≡ theory_in earlier entries
  theory-still entries all = ap reverse (map-same (HasEntryParts earlier) (entry_in now) (entry_in earlier) entry-still entries all)

  claim-still : (theorems : List Theorem) → All (IsFittingTheorem earlier.terms) theorems → (claim : ListedClaim) → IsClaim earlier theorems claim →
      claim_in now theorems claim ≡ claim_in earlier theorems claim
  claim-still theorems all claim is = λ i. record {
    name = name-grown earlier now claim.name grown is.name i;
    sequent = slice_index_or (sequents-still theorems all i) claim.theorem no_sequent;
  }

  claim-grown : (theorems : List Theorem) (claim : ListedClaim) → IsClaim earlier theorems claim → IsClaim now theorems claim
  claim-grown theorems claim is = record { name = longer-within earlier.names now.names claim.name grown.names is.name; theorem = is.theorem }

  -- what was known is known
  pub knows-grown : (constants : List (ℕ × ℕ)) (declared : List ℕ) (theory : Theory) → Knows earlier constants declared theory → Knows now constants declared theory
  knows-grown constants declared theory knows = record {
    constants_given = λ name ty entry.
        let before = knows.constants_given name ty entry in
        record {
          name_within = longer-within earlier.names now.names name grown.names before.name_within;
          type_within = type-within earlier.types now.types ty grown.types before.type_within;
          given = ap (generic_type theory) (name-grown earlier now name grown before.name_within)
              ∙ (before.given ∙ ap Some (sym (type-grown earlier.types now.types ty grown.types before.type_within)));
        };
    constants_listed = λ name ty is.
        let before = knows.constants_listed name ty is in
        record {
          name_number = before.name_number;
          type_number = before.type_number;
          listed = before.listed;
          name_is = longer-place earlier.names now.names before.name_number name grown.names before.name_is;
          type_is = longer-place earlier.types now.types before.type_number ty grown.types before.type_is;
        };
    types_declared = λ name noted.
        let before = knows.types_declared name noted in
        record {
          within = longer-within earlier.names now.names name grown.names before.within;
          declares = ap (is_declared theory) (name-grown earlier now name grown before.within) ∙ before.declares;
        };
    types_listed = λ name is.
        let before = knows.types_listed name is in
        record { number = before.number; listed = before.listed; name_is = longer-place earlier.names now.names before.number name grown.names before.name_is };
  }

  pub contents-grown : (contents : Contents) → IsContents earlier contents → IsContents now contents
  contents-grown contents is = record {
    types = All-weaker (λ n. n < length earlier.types) (λ n. n < length now.types) (λ n within. type-within earlier.types now.types n grown.types within) contents.types.items is.types;
    terms = written-grown earlier now grown contents.terms.items is.terms;
    made = numbered-grown earlier now grown contents.terms.items is.terms [] contents.made.entries is.made;
    theorems = All-weaker (IsFittingTheorem earlier.terms) (IsFittingTheorem now.terms) theorem-grown contents.theorems.items is.theorems;
    entries = All-weaker (HasEntryParts earlier) (HasEntryParts now) parts-grown contents.entries.items is.entries;
    room = is.room;
    knows = subst (Knows now contents.known.constants.entries contents.known.declared.keys) (sym (theory-still contents.entries.items is.entries))
        (knows-grown contents.known.constants.entries contents.known.declared.keys (theory_in earlier contents.entries.items) is.knows);
    claims = All-weaker (IsClaim earlier contents.theorems.items) (IsClaim now contents.theorems.items) (claim-grown contents.theorems.items) contents.claims.items is.claims;
  }

  pub state-still : (contents : Contents) → IsContents earlier contents → state_of now contents ≡ state_of earlier contents
  state-still contents is = λ i. record {
    version = version_of contents.version;
    types = map-same (λ n. n < length earlier.types) (type_at now.types) (type_at earlier.types) (λ n within. type-grown earlier.types now.types n grown.types within) contents.types.items is.types i;
    terms = map image (named-still earlier now grown contents.terms.items is.terms i);
    theorems = sequents-still contents.theorems.items is.theorems i;
    theory = theory-still contents.entries.items is.entries i;
    claims = map-same (IsClaim earlier contents.theorems.items) (claim_in now contents.theorems.items) (claim_in earlier contents.theorems.items)
        (claim-still contents.theorems.items is.theorems) contents.claims.items is.claims i;
    is_ended = contents.is_ended;
  }
