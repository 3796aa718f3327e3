-- The lines of declared types and constants.
use Rattle.std.proofs.Common.{◌≡◌, ℕ, ◌+◌, ◌<◌, ◌≤◌, List, [], ◌∷◌, length, Bool, true, false, not, ◌&&◌, refl, sym, ◌∙◌, ap, Option, Some, None, Ok, Err, arith}
use Rattle.std.specs.Prelude.{slice_get, nat_le, map}
use Rattle.std.specs.Option.{is_some}
use Rattle.std.proofs.lemmas.List.{length-map, length-reverse}
use Rattle.std.proofs.lemmas.Bool.{le-leb, leb-true}
use Rattle.std.proofs.lemmas.Option.{get_or_from_slice_get}
use Rattle.hol_model.specs.declared.fault.Cause.TheVariants.{Rule, Large}
use Rattle.hol_model.specs.declared.limits.TheConstants.{DEFINITIONS_LIMIT}
use Rattle.hol_model.specs.Terms.Name.{is_declared_type_name, is_constant_name}
use Rattle.hol_model.specs.Terms.HolType.{HolType}
use Rattle.hol_model.specs.Logic.Theory.{Theory, generic_type, declaration_of_type, declaration_of_constant}
use Rattle.hol_model.specs.Logic.KnownTerm.{is_declared}
use Rattle.hol_model.specs.Logic.Legality.{is_fixed, is_new_name}
use Rattle.hol_model.specs.Logs.LogLine.{new_type_line, new_constant_line}
use Rattle.hol_model.specs.Logs.LogState as given
use Rattle.hol_model.specs.Logs.LogFaults.{is_first_version}
use Rattle.hol_logtext.specs.Lines.{version_of}
use Rattle.hol_check_terms.specs.Terms.{TermTable, name_at, type_at, IsGrown}
use Rattle.hol_check_rules.specs.State.{entry_in, theory_in, state_of, IsContents}
use Rattle.hol_check_rules.specs.Judged.{NamesType, HasRoom, Judges}
use Rattle.hol_check_rules.specs.declared.state.Contents.{Contents}
use Rattle.hol_check_rules.specs.declared.state.Addition.TheVariants.{NewType, NewConstant}
use Rattle.hol_check_terms.proofs.TableLemmas.{is_within}
use Rattle.hol_check_rules.proofs.StateLemmas.{theory-still}
use Rattle.hol_check_lines.proofs.FaultLemmas.{no-fault, rule-fault, size-fault, all-fit, entries-large}
use Rattle.hol_check_terms.proofs.GrowthLemmas.{type-grown, type-within}

-- room for one more

theory-length : (table : TermTable) (contents : Contents) → length (theory_in table contents.entries.items) ≡ length contents.entries.items
theory-length table contents = length-reverse (map (entry_in table) contents.entries.items) ∙ length-map contents.entries.items (entry_in table)

pub has-room : (contents : Contents) → nat_le DEFINITIONS_LIMIT (length contents.entries.items) ≡ false → HasRoom contents
has-room contents not_full = grind (arith, not_full)

pub one-fits : (table : TermTable) (contents : Contents) → HasRoom contents → nat_le (1 + length (theory_in table contents.entries.items)) DEFINITIONS_LIMIT ≡ true
one-fits table contents room =
    let same = theory-length table contents in
    le-leb (1 + length (theory_in table contents.entries.items)) DEFINITIONS_LIMIT (omega (arith, same, room))

over : (n limit : ℕ) → limit < n → nat_le n limit ≡ false
over n limit past = grind arith

pub none-fits : (table : TermTable) (contents : Contents) → nat_le DEFINITIONS_LIMIT (length contents.entries.items) ≡ true →
    nat_le (1 + length (theory_in table contents.entries.items)) DEFINITIONS_LIMIT ≡ false
none-fits table contents full =
    let same = theory-length table contents in
    let least : DEFINITIONS_LIMIT ≤ length contents.entries.items = leb-true DEFINITIONS_LIMIT (length contents.entries.items) full in
    over (1 + length (theory_in table contents.entries.items)) DEFINITIONS_LIMIT (omega (arith, same, least))

-- new names

new-first : (first second : Bool) → (not first && not second) ≡ true → first ≡ false
new-first true second is = sym is
new-first false second is = refl

unknown : (found : Option HolType) → is_some found ≡ false → found ≡ None
unknown None is = refl
unknown (Some ty) is = cc

pub no-type : (theory : Theory) (name : List ℕ) → is_new_name theory name ≡ true → generic_type theory name ≡ None
no-type theory name is = unknown (generic_type theory name) (new-first (is_some (generic_type theory name)) (is_declared theory name) is)

pub both : (p q : Bool) → p ≡ true → q ≡ true → not (p && q) ≡ false
both p q one two = cc

pub no-second : (p q : Bool) → q ≡ false → (p && q) ≡ false
no-second true q is = is
no-second false q is = refl

-- a line with a new name, while the tables grow
module _ (t0 t1 : TermTable) (contents : Contents) (is : IsContents t0 contents) (name : List ℕ) (number : ℕ) (grown : IsGrown t0 t1) (named : slice_get t1.names number ≡ Some name)
    (second : is_first_version (version_of contents.version) ≡ false) where
  theory : Theory
  theory = theory_in t0 contents.entries.items

  name-is : name_at t1.names number ≡ name
  name-is = get_or_from_slice_get t1.names number name [] named

  same-name : is_new_name (theory_in t0 contents.entries.items) name ≡ is_new_name (theory_in t0 contents.entries.items) (name_at t1.names number)
  same-name = ap (is_new_name (theory_in t0 contents.entries.items)) (sym name-is)

  pub new-type : is_declared_type_name name ≡ true → is_new_name (theory_in t0 contents.entries.items) (name_at t1.names number) ≡ true →
      nat_le DEFINITIONS_LIMIT (length contents.entries.items) ≡ false
      → Judges (new_type_line name) contents t0 (Ok (Ok (NewType number))) t1
  new-type legal new not_full = record {
    judged = record {
      accepted = no-fault (state_of t0 contents) (new_type_line name) second refl
          (both (is_declared_type_name name) (is_new_name (theory_in t0 contents.entries.items) name) legal (same-name ∙ new)) refl refl refl refl
          (all-fit _ _ _ _ refl refl refl (one-fits t0 contents (has-room contents not_full)));
      denotes = record { types = refl; terms = refl; theorems = refl; entries = ap (λ n. declaration_of_type n ∷ []) (sym name-is); claims = refl; ends = refl };
      added = (is_within t1.names number name named, has-room contents not_full);
    };
    refused = tt;
    grows = grown;
  }

  pub full-type : is_declared_type_name name ≡ true → is_new_name (theory_in t0 contents.entries.items) (name_at t1.names number) ≡ true →
      nat_le DEFINITIONS_LIMIT (length contents.entries.items) ≡ true
      → Judges (new_type_line name) contents t0 (Ok (Err Large)) t1
  full-type legal new full = record {
    judged = size-fault (state_of t0 contents) (new_type_line name) second refl (both (is_declared_type_name name) (is_new_name (theory_in t0 contents.entries.items) name) legal
        (same-name ∙ new)) refl refl refl refl
        (entries-large _ _ _ _ refl refl refl (none-fits t0 contents full));
    refused = tt;
    grows = grown;
  }

  module _ (line ty : ℕ) (type_named : NamesType (state_of t0 contents) line t0.types ty) (legal : is_constant_name name ≡ true) where
    type-is : given.type_at (state_of t0 contents) line ≡ type_at t1.types ty
    type-is = type_named.named ∙ sym (type-grown t0.types t1.types ty grown.types type_named.within)

    module _ (new : is_new_name (theory_in t0 contents.entries.items) (name_at t1.names number) ≡ true) where
      named-well : not (is_constant_name name && is_new_name (theory_in t0 contents.entries.items) name) ≡ false
      named-well = both (is_constant_name name) (is_new_name (theory_in t0 contents.entries.items) name) legal (same-name ∙ new)

      pub loose-constant : is_fixed (type_at t1.types ty) ≡ false → Judges (new_constant_line name line) contents t0 (Ok (Err Rule)) t1
      loose-constant loose = record {
        judged = rule-fault (state_of t0 contents) (new_constant_line name line) second type_named.is_there named-well refl refl (ap not (ap is_fixed type-is ∙ loose));
        refused = tt;
        grows = grown;
      }

      pub full-constant : is_fixed (type_at t1.types ty) ≡ true → nat_le DEFINITIONS_LIMIT (length contents.entries.items) ≡ true → Judges (new_constant_line name line) contents t0 (Ok (Err Large)) t1
      full-constant fixed full = record {
        judged = size-fault (state_of t0 contents) (new_constant_line name line) second type_named.is_there named-well refl refl (ap not (ap is_fixed type-is ∙ fixed)) refl
            (entries-large _ _ _ _ refl refl refl (none-fits t0 contents full));
        refused = tt;
        grows = grown;
      }

      pub new-constant : is_fixed (type_at t1.types ty) ≡ true → nat_le DEFINITIONS_LIMIT (length contents.entries.items) ≡ false →
          Judges (new_constant_line name line) contents t0 (Ok (Ok (NewConstant number ty))) t1
      new-constant fixed not_full = record {
        judged = record {
          accepted = no-fault (state_of t0 contents) (new_constant_line name line) second type_named.is_there named-well refl refl (ap not (ap is_fixed type-is ∙ fixed)) refl
              (all-fit _ _ _ _ refl refl refl (one-fits t0 contents (has-room contents not_full)));
          denotes = record { types = refl; terms = refl; theorems = refl; entries = λ i. declaration_of_constant (sym name-is i) (type-is i) ∷ []; claims = refl; ends = refl };
          added = record {
            name_within = is_within t1.names number name named;
            type_within = type-within t0.types t1.types ty grown.types type_named.within;
            is_new = ap (λ entries. generic_type entries (name_at t1.names number)) (theory-still t0 t1 grown contents.entries.items is.entries) ∙ no-type
                (theory_in t0 contents.entries.items) (name_at t1.names number) new;
            room = has-room contents not_full;
          };
        };
        refused = tt;
        grows = grown;
      }
