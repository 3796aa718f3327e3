-- What a judged definition says of its line.
use Rattle.std.proofs.Common.{◌≡◌, ℕ, ◌+◌, List, [], ◌∷◌, length, Bool, true, false, not, ◌&&◌, refl, sym, ◌∙◌, ap, None, Some, Ok, Err, if◌then◌else◌}
use Rattle.std.specs.Prelude.{slice_get, nat_le}
use Rattle.std.proofs.lemmas.Option.{get_or_from_slice_get}
use Rattle.hol_model.specs.declared.limits.TheConstants.{DEFINITIONS_LIMIT}
use Rattle.hol_model.specs.declared.fault.Cause.{Cause}
use Rattle.hol_model.specs.declared.fault.Cause.TheVariants.{Number, Name, Rule, Large}
use Rattle.hol_model.specs.Terms.Name.{is_constant_name}
use Rattle.hol_model.specs.Terms.Measures.{nameless_within_limits}
use Rattle.hol_model.specs.Logic.Theory.{generic_type, definition}
use Rattle.hol_model.specs.Logic.Legality.{is_new_name}
use Rattle.hol_model.specs.Logs.LogLine.LogLine.{theorem_line}
use Rattle.hol_model.specs.Logs.LogLine.LogRule.{definition_step}
use Rattle.hol_model.specs.Logs.LogState as given
use Rattle.hol_model.specs.Logs.LogState.{term_type}
use Rattle.hol_model.specs.Logs.LogFaults.{is_no_term, is_no_new_constant, sequent_fits, first_applying}
use Rattle.hol_check_terms.specs.Terms.{TermTable, name_at, type_at, term_at, IsGrown}
use Rattle.hol_check_rules.specs.State.{theory_in, state_of, IsContents}
use Rattle.hol_check_rules.specs.Judged.{NamesTerm, first_fault, Judges}
use Rattle.hol_check_rules.specs.Steps as steps
use Rattle.hol_check_rules.specs.Steps.{Step, step_cause}
use Rattle.hol_check_rules.specs.Definitions.{IsDefined}
use Rattle.hol_check_rules.specs.declared.state.Contents.{Contents}
use Rattle.hol_check_rules.specs.declared.state.Addition.TheVariants.{Defined}
use Rattle.hol_check_terms.proofs.TableLemmas.{is_within}
use Rattle.hol_check_rules.proofs.StateLemmas.{theory-still, longer-place}
use Rattle.hol_check_lines.proofs.EntryLineLemmas.{both, has-room, one-fits, none-fits, no-type}
use Rattle.hol_check_terms.proofs.GrowthLemmas.{type-there, term-there, term-grown, within-grown, IsGrown-trans}

-- tests

two-skipped : (a b : Bool) (x y : Cause) (rest : List (Bool × Cause)) → a ≡ false → b ≡ false → first_applying ((a, x) ∷ (b, y) ∷ rest) ≡ first_applying rest
two-skipped a b x y rest first second = (λ i. if first i then Some x else (if second i then Some y else first_applying rest))

still-refused : (fault fits room : Bool) (cause : Cause) → first_applying ((fault, Rule) ∷ (not fits, Large) ∷ []) ≡ Some cause →
    first_applying ((fault, Rule) ∷ (not ((fits && true) && room), Large) ∷ []) ≡ Some cause
still-refused true fits room cause is = is
still-refused false false room cause is = is
still-refused false true room cause is = cc

still-taken : (fault fits room : Bool) → first_applying ((fault, Rule) ∷ (not fits, Large) ∷ []) ≡ None → room ≡ true →
    first_applying ((fault, Rule) ∷ (not ((fits && true) && room), Large) ∷ []) ≡ None
still-taken true fits room is there = cc
still-taken false false room is there = cc
still-taken false true room is there = ap (λ b. if not b then Some Large else None) there

full-refused : (fault fits room : Bool) → first_applying ((fault, Rule) ∷ (not fits, Large) ∷ []) ≡ None → room ≡ false →
    first_applying ((fault, Rule) ∷ (not ((fits && true) && room), Large) ∷ []) ≡ Some Large
full-refused true fits room is none = cc
full-refused false false room is none = cc
full-refused false true room is none = ap (λ b. if not b then Some Large else None) none

fits-there : (fault fits : Bool) → first_applying ((fault, Rule) ∷ (not (fits && true), Large) ∷ []) ≡ None → fits ≡ true
fits-there true fits is = cc
fits-there false true is = refl
fits-there false false is = cc

-- the line, while the tables grow
module _ (t0 t1 : TermTable) (contents : Contents) (is : IsContents t0 contents) (name : List ℕ) (number line body : ℕ) (grown : IsGrown t0 t1) (named : slice_get t1.names number ≡ Some name)
    (body_named : NamesTerm (state_of t0 contents) line t0.terms body) (legal : is_constant_name name ≡ true) where
  name-is : name_at t1.names number ≡ name
  name-is = get_or_from_slice_get t1.names number name [] named

  same-name : is_new_name (theory_in t0 contents.entries.items) name ≡ is_new_name (theory_in t0 contents.entries.items) (name_at t1.names number)
  same-name = ap (is_new_name (theory_in t0 contents.entries.items)) (sym name-is)

  module _ (t2 : TermTable) (later : IsGrown t1 t2) (new : is_new_name (theory_in t0 contents.entries.items) (name_at t1.names number) ≡ true) where
    whole : IsGrown t0 t2
    whole = IsGrown-trans t0 t1 t2 grown later

    -- the step by what the line names, and by numbers
    abbrev wanted : Step
    wanted = steps.definition_step name (given.term_at (state_of t0 contents) line)

    abbrev made : Step
    made = steps.definition_step (name_at t1.names number) (term_at t1.terms body)

    body-is : term_at t1.terms body ≡ given.term_at (state_of t0 contents) line
    body-is = term-grown t0 t1 body grown body_named.fits.within ∙ sym body_named.named

    step-is : made ≡ wanted
    step-is = λ i. steps.definition_step (name-is i) (body-is i)

    causes : first_fault (state_of t0 contents) (theorem_line (definition_step name line))
        ≡ first_applying ((wanted.has_rule_fault, Rule) ∷ (not ((sequent_fits wanted.sequent && true) && nat_le (1 + length (theory_in t0 contents.entries.items)) DEFINITIONS_LIMIT), Large) ∷ [])
    causes =
        two-skipped (is_no_term (state_of t0 contents) line) (is_no_new_constant (state_of t0 contents) name) Number Name
        ((wanted.has_rule_fault, Rule) ∷ (not ((sequent_fits wanted.sequent && true) && nat_le (1 + length (theory_in t0 contents.entries.items)) DEFINITIONS_LIMIT), Large) ∷ [])
        body_named.is_there (both (is_constant_name name) (is_new_name (theory_in t0 contents.entries.items) name) legal (same-name ∙ new))

    pub refused-definition : (cause : Cause) → IsDefined made (term_at t1.terms body) t2 (Err cause) → Judges (theorem_line (definition_step name line)) contents t0 (Ok (Err cause)) t2
    refused-definition cause refused = record {
      judged = causes ∙ still-refused wanted.has_rule_fault (sequent_fits wanted.sequent) (nat_le (1 + length (theory_in t0 contents.entries.items)) DEFINITIONS_LIMIT) cause
          (ap step_cause (sym step-is) ∙ refused);
      refused = tt;
      grows = whole;
    }

    module _ (ty conclusion : ℕ) (defined : IsDefined made (term_at t1.terms body) t2 (Ok (record { ty = ty; conclusion = conclusion }))) where
      passes : step_cause wanted ≡ None
      passes = ap step_cause (sym step-is) ∙ defined.0

      pub full-definition : nat_le DEFINITIONS_LIMIT (length contents.entries.items) ≡ true → Judges (theorem_line (definition_step name line)) contents t0 (Ok (Err Large)) t2
      full-definition full = record {
        judged = causes ∙ full-refused wanted.has_rule_fault (sequent_fits wanted.sequent) (nat_le (1 + length (theory_in t0 contents.entries.items)) DEFINITIONS_LIMIT) passes
            (none-fits t0 contents full);
        refused = tt;
        grows = whole;
      }

      conclusion-is : term_at t2.terms conclusion ≡ wanted.sequent.conclusion
      conclusion-is = term-there t2.terms conclusion made.sequent.conclusion defined.2 ∙ ap (λ s. s.sequent.conclusion) step-is

      type-is : type_at t2.types ty ≡ term_type (given.term_at (state_of t0 contents) line)
      type-is = type-there t2.types ty (term_type (term_at t1.terms body)) defined.1 ∙ ap term_type body-is

      name-there : slice_get t2.names number ≡ Some name
      name-there = longer-place t1.names t2.names number name later.names named

      later-name : name_at t2.names number ≡ name
      later-name = get_or_from_slice_get t2.names number name [] name-there

      later-body : term_at t2.terms body ≡ given.term_at (state_of t0 contents) line
      later-body = term-grown t0 t2 body whole body_named.fits.within ∙ sym body_named.named

      fits : nameless_within_limits wanted.sequent.conclusion ≡ true
      fits = fits-there wanted.has_rule_fault (nameless_within_limits wanted.sequent.conclusion) passes

      pub new-definition : nat_le DEFINITIONS_LIMIT (length contents.entries.items) ≡ false →
          Judges (theorem_line (definition_step name line)) contents t0 (Ok (Ok (Defined number ty body conclusion))) t2
      new-definition not_full = record {
        judged = record {
          accepted = causes ∙ still-taken wanted.has_rule_fault (sequent_fits wanted.sequent) (nat_le (1 + length (theory_in t0 contents.entries.items)) DEFINITIONS_LIMIT) passes
              (one-fits t0 contents (has-room contents not_full));
          denotes = record {
            types = refl;
            terms = refl;
            theorems = λ i. record { hypotheses = []; conclusion = sym conclusion-is i } ∷ [];
            entries = λ i. definition (sym later-name i) (sym type-is i) (sym later-body i) ∷ [];
            claims = refl;
            ends = refl;
          };
          added = (
            record {
              name_within = is_within t2.names number name name-there;
              type_within = is_within t2.types ty (term_type (term_at t1.terms body)) defined.1;
              is_new =
                  (λ i. generic_type (theory-still t0 t2 whole contents.entries.items is.entries i) (later-name i))
                  ∙ (ap (generic_type (theory_in t0 contents.entries.items)) (sym name-is) ∙ no-type (theory_in t0 contents.entries.items) (name_at t1.names number) new);
              room = has-room contents not_full;
            },
            within-grown t0 t2 body whole body_named.fits.within,
            record { within = is_within t2.terms conclusion made.sequent.conclusion defined.2; fits = ap nameless_within_limits conclusion-is ∙ fits },
          );
        };
        refused = tt;
        grows = whole;
      }
