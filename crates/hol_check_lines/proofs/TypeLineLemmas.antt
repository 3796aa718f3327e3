-- The lines of types.
use Rattle.std.proofs.Common.{◌≡◌, ℕ, ◌≤◌, List, [], ◌∷◌, Bool, true, false, not, ◌&&◌, ◌||◌, refl, sym, ◌∙◌, ap, Some, Ok, Err}
use Rattle.std.specs.Prelude.{slice_get}
use Rattle.std.proofs.lemmas.Option.{get_or_from_slice_get}
use Rattle.hol_model.specs.declared.fault.Cause.TheVariants.{Kind}
use Rattle.hol_model.specs.declared.limits.TheConstants.{TYPE_NODES_LIMIT}
use Rattle.hol_model.specs.Terms.Name.{is_declared_type_name}
use Rattle.hol_model.specs.Terms.HolType.{HolType, function_type, declared_type, type_nodes}
use Rattle.hol_model.specs.Terms.NamedTerm.{type_fits}
use Rattle.hol_model.specs.Logic.KnownTerm.{is_declared}
use Rattle.hol_model.specs.Logs.LogLine.{function_type_line, declared_type_line}
use Rattle.hol_model.specs.Logs.LogState as given
use Rattle.hol_model.specs.Logs.LogFaults.{is_first_version}
use Rattle.hol_logtext.specs.Lines.{version_of}
use Rattle.hol_check_terms.specs.Terms.{TermTable, name_at, type_at, IsGrown}
use Rattle.hol_check_rules.specs.State.{theory_in, state_of, IsContents}
use Rattle.hol_check_rules.specs.Judged.{NamesType, Judges}
use Rattle.hol_check_rules.specs.declared.state.Contents.{Contents}
use Rattle.hol_check_rules.specs.declared.state.Addition.TheVariants.{TypeNumber}
use Rattle.hol_check_terms.proofs.TableLemmas.{is_within}
use Rattle.hol_check_terms.proofs.TypingLemmas.{within-fits}
use Rattle.hol_check_lines.proofs.FaultLemmas.{no-fault, type-fault, room, all-fit}
use Rattle.hol_check_terms.proofs.GrowthLemmas.{type-there}

pub neither : (p q : Bool) → p ≡ false → q ≡ false → (p || q) ≡ false
neither p q one two = cc

one-fits : (p : Bool) → p ≡ true → (p && true) ≡ true
one-fits p is = cc

pub judged-function : (earlier now : TermTable) (contents : Contents) (domain codomain a b number : ℕ) → IsContents earlier contents →
    NamesType (state_of earlier contents) domain earlier.types a → NamesType (state_of earlier contents) codomain earlier.types b
    → slice_get now.types number ≡ Some (function_type (type_at earlier.types a) (type_at earlier.types b)) →
    type_nodes (function_type (type_at earlier.types a) (type_at earlier.types b)) ≤ TYPE_NODES_LIMIT → IsGrown earlier now
    → Judges (function_type_line domain codomain) contents earlier (Ok (Ok (TypeNumber number))) now
judged-function earlier now contents domain codomain a b number is first second made small grown = record {
  judged = record {
    accepted = no-fault state (function_type_line domain codomain) refl (neither _ _ first.is_there second.is_there) refl refl refl refl refl
        (all-fit _ _ _ _ (one-fits (type_fits whole) (ap type_fits same ∙ within-fits (function_type (type_at earlier.types a) (type_at earlier.types b)) small)) refl refl (room earlier contents is));
    denotes = record { types = ap (λ t. t ∷ []) (same ∙ sym (type-there now.types number _ made)); terms = refl; theorems = refl; entries = refl; claims = refl; ends = refl };
    added = is_within now.types number _ made;
  };
  refused = tt;
  grows = grown;
}
  where
    state : given.LogState
    state = state_of earlier contents

    whole : HolType
    whole = function_type (given.type_at state domain) (given.type_at state codomain)

    same : whole ≡ function_type (type_at earlier.types a) (type_at earlier.types b)
    same = λ i. function_type (first.named i) (second.named i)

pub judged-declared : (earlier mid now : TermTable) (contents : Contents) (name : List ℕ) (number ty : ℕ) → IsContents earlier contents →
    is_first_version (version_of contents.version) ≡ false → is_declared_type_name name ≡ true
    → slice_get mid.names number ≡ Some name → is_declared (theory_in earlier contents.entries.items) (name_at mid.names number) ≡ true → slice_get now.types ty ≡ Some (declared_type name) →
    IsGrown earlier now
    → Judges (declared_type_line name) contents earlier (Ok (Ok (TypeNumber ty))) now
judged-declared earlier mid now contents name number ty is second legal named known made grown = record {
  judged = record {
    accepted = no-fault (state_of earlier contents) (declared_type_line name) second refl (ap not legal)
        (ap not (ap (is_declared (theory_in earlier contents.entries.items)) (sym (get_or_from_slice_get mid.names number name [] named)) ∙ known)) refl refl refl
        (all-fit _ _ _ _ refl refl refl (room earlier contents is));
    denotes = record { types = ap (λ t. t ∷ []) (sym (type-there now.types ty _ made)); terms = refl; theorems = refl; entries = refl; claims = refl; ends = refl };
    added = is_within now.types ty _ made;
  };
  refused = tt;
  grows = grown;
}

pub undeclared : (earlier mid : TermTable) (contents : Contents) (name : List ℕ) (number : ℕ) → is_first_version (version_of contents.version) ≡ false → is_declared_type_name name ≡ true
    → slice_get mid.names number ≡ Some name → is_declared (theory_in earlier contents.entries.items) (name_at mid.names number) ≡ false → IsGrown earlier mid
    → Judges (declared_type_line name) contents earlier (Ok (Err Kind)) mid
undeclared earlier mid contents name number second legal named unknown grown = record {
  judged = type-fault (state_of earlier contents) (declared_type_line name) second refl (ap not legal)
      (ap not (ap (is_declared (theory_in earlier contents.entries.items)) (sym (get_or_from_slice_get mid.names number name [] named)) ∙ unknown));
  refused = tt;
  grows = grown;
}
