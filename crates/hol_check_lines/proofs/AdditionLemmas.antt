-- What a log has given, with what a line adds.
use Rattle.std.proofs.Common.{◌≡◌, ℕ, ◌<◌, ◌+◌, List, [], ◌∷◌, ◌++◌, ◌||◌, length, append-nil, length-append, true, false, Bool, refl, sym, ◌∙◌, ap, subst, arith, Vec, Global, Result, Ok, Err}
use Rattle.std.specs.Prelude.{map, OnOk, OnErr}
use Rattle.std.specs.List.{All, slice_index_or}
use Rattle.std.proofs.lemmas.List.{length-map, map_push}
use Rattle.std.proofs.lemmas.List.Elements.{All-push}
use Rattle.hol_model.specs.declared.fault.Fault.{Fault}
use Rattle.hol_model.specs.Terms.Nameless.{image}
use Rattle.hol_model.specs.Logs.LogState.{no_sequent}
use Rattle.hol_logtext.specs.Lines.{version_of}
use Rattle.hol_check_terms.specs.Terms.{TermTable, name_at, type_at}
use Rattle.hol_check_rules.specs.Known.{GivesConstant}
use Rattle.hol_check_rules.specs.Hypotheses.{terms_in, AreOrdered}
use Rattle.hol_check_rules.specs.State.{sequent_in, entry_in, theory_in, claim_in, state_of, IsFittingTheorem, HasEntryParts, IsClaim, IsContents}
use Rattle.hol_check_rules.specs.Judged.{CanBeAdded, HasRoom, IsNewConstant}
use Rattle.hol_check_lines.specs.Added.{IsAdded, IsEntered, Gains, Keeps}
use Rattle.hol_check_rules.specs.declared.state.Theorem.{Theorem}
use Rattle.hol_check_rules.specs.declared.state.TheoryEntry.TheVariants.{Definition}
use Rattle.hol_check_rules.specs.declared.state.ListedClaim.{ListedClaim}
use Rattle.hol_check_rules.specs.declared.state.Contents.{Contents}
use Rattle.hol_check_rules.specs.declared.state.Addition.{Addition}
use Rattle.hol_check_rules.specs.declared.state.Addition.TheVariants.{TypeNumber, TermLine, Proved, Defined, Claimed}
use Rattle.hol_check_changes.specs.Forming.{IsFitting}
use Rattle.hol_check_written.specs.Written.{named_of, named_terms, AreWritten}
use Rattle.hol_check_written.specs.Making.{AreMade}
use Rattle.hol_check_written.specs.declared.written.Written.{Written}
use Rattle.hol_check_written.proofs.NamedLemmas.{named-push, written-push}
use Rattle.hol_check_written.proofs.MakingLemmas.{made-push}
use Rattle.hol_check_terms.proofs.TableLemmas.{get_or-longer}
use Rattle.hol_check_rules.proofs.StateLemmas.{map-same, All-weaker}

either : (test : Bool) → (test || false) ≡ test
either true = refl
either false = refl

pub added-type : (table : TermTable) (contents : Contents) (types : Vec ℕ Global) (number : ℕ) → IsContents table contents → number < length table.types →
    types.items ≡ contents.types.items ++ number ∷ []
    → IsAdded table contents (TypeNumber number) (record contents { types = types })
added-type table contents types number is within pushed = record {
  is_contents = record {
    types = subst (All (λ n. n < length table.types)) (sym pushed) (All-push (λ n. n < length table.types) contents.types.items number is.types within);
    terms = is.terms;
    made = is.made;
    theorems = is.theorems;
    entries = is.entries;
    room = is.room;
    knows = is.knows;
    claims = is.claims;
  };
  state = λ i. record {
    version = version_of contents.version;
    types = (ap (map (type_at table.types)) pushed ∙ map_push (type_at table.types) contents.types.items number) i;
    terms = sym (append-nil (state_of table contents).terms) i;
    theorems = sym (append-nil (state_of table contents).theorems) i;
    theory = (state_of table contents).theory;
    claims = sym (append-nil (state_of table contents).claims) i;
    is_ended = sym (either contents.is_ended) i;
  };
}

pub added-line : (table : TermTable) (contents : Contents) (terms : Vec Written Global) (line : Written) → IsContents table contents → CanBeAdded table contents (TermLine line) →
    terms.items ≡ contents.terms.items ++ line ∷ []
    → IsAdded table contents (TermLine line) (record contents { terms = terms })
added-line table contents terms line is stands pushed = record {
  is_contents = record {
    types = is.types;
    terms = subst (AreWritten table) (sym pushed) (written-push table contents.terms.items line is.terms stands.0 stands.1);
    made = subst (λ l. AreMade table l contents.made.entries) (sym pushed) (made-push table contents.terms.items line contents.made.entries is.made);
    theorems = is.theorems;
    entries = is.entries;
    room = is.room;
    knows = is.knows;
    claims = is.claims;
  };
  state = λ i. record {
    version = version_of contents.version;
    types = sym (append-nil (state_of table contents).types) i;
    terms =
        (ap (λ l. map image (named_terms table.terms l)) pushed
        ∙ (ap (map image) (named-push table.terms contents.terms.items line) ∙ map_push image (named_terms table.terms contents.terms.items)
        (named_of table.terms (named_terms table.terms contents.terms.items) line))) i;
    theorems = sym (append-nil (state_of table contents).theorems) i;
    theory = (state_of table contents).theory;
    claims = sym (append-nil (state_of table contents).claims) i;
    is_ended = sym (either contents.is_ended) i;
  };
}

-- claims keep their theorems as theorems are added
module _ (table : TermTable) (theorems now : List Theorem) (theorem : Theorem) (pushed : now ≡ theorems ++ theorem ∷ []) where
  sequents-pushed : map (sequent_in table.terms) now ≡ map (sequent_in table.terms) theorems ++ sequent_in table.terms theorem ∷ []
  sequents-pushed = ap (map (sequent_in table.terms)) pushed ∙ map_push (sequent_in table.terms) theorems theorem

  claim-later : (claim : ListedClaim) → IsClaim table theorems claim → claim_in table now claim ≡ claim_in table theorems claim
  claim-later claim is =
      let sequents : length (map (sequent_in table.terms) theorems) ≡ length theorems = length-map theorems (sequent_in table.terms) in
      let within : claim.theorem < length (map (sequent_in table.terms) theorems) = omega (arith, is.theorem, sequents) in
      λ i. record {
        name = name_at table.names claim.name;
        sequent = (ap (λ l. slice_index_or l claim.theorem no_sequent) sequents-pushed ∙ get_or-longer (map (sequent_in table.terms) theorems) (sequent_in table.terms theorem ∷ [])
            claim.theorem no_sequent within) i;
      }

  claims-later : (claims : List ListedClaim) → All (IsClaim table theorems) claims → map (claim_in table now) claims ≡ map (claim_in table theorems) claims
  claims-later = map-same (IsClaim table theorems) (claim_in table now) (claim_in table theorems) claim-later

  still-claim : (claim : ListedClaim) → IsClaim table theorems claim → IsClaim table now claim
  still-claim claim is =
      let longer : length now ≡ length theorems + 1 = ap length pushed ∙ length-append theorems (theorem ∷ []) in
      record { name = is.name; theorem = omega (arith, is.theorem, longer) }

pub added-theorem : (table : TermTable) (contents : Contents) (theorems : Vec Theorem Global) (theorem : Theorem) → IsContents table contents → IsFittingTheorem table.terms theorem →
    theorems.items ≡ contents.theorems.items ++ theorem ∷ []
    → IsAdded table contents (Proved theorem) (record contents { theorems = theorems })
added-theorem table contents theorems theorem is fitting pushed = record {
  is_contents = record {
    types = is.types;
    terms = is.terms;
    made = is.made;
    theorems = subst (All (IsFittingTheorem table.terms)) (sym pushed) (All-push (IsFittingTheorem table.terms) contents.theorems.items theorem is.theorems fitting);
    entries = is.entries;
    room = is.room;
    knows = is.knows;
    claims = All-weaker (IsClaim table contents.theorems.items) (IsClaim table theorems.items) (still-claim table contents.theorems.items theorems.items theorem pushed) contents.claims.items
        is.claims;
  };
  state = λ i. record {
    version = version_of contents.version;
    types = sym (append-nil (state_of table contents).types) i;
    terms = sym (append-nil (state_of table contents).terms) i;
    theorems = sequents-pushed table contents.theorems.items theorems.items theorem pushed i;
    theory = (state_of table contents).theory;
    claims = (claims-later table contents.theorems.items theorems.items theorem pushed contents.claims.items is.claims ∙ sym (append-nil (state_of table contents).claims)) i;
    is_ended = sym (either contents.is_ended) i;
  };
}

pub added-claim : (table : TermTable) (contents : Contents) (claims : Vec ListedClaim Global) (claim : ListedClaim) → IsContents table contents →
    IsClaim table contents.theorems.items claim → claims.items ≡ contents.claims.items ++ claim ∷ []
    → IsAdded table contents (Claimed claim) (record contents { claims = claims })
added-claim table contents claims claim is stands pushed = record {
  is_contents = record {
    types = is.types;
    terms = is.terms;
    made = is.made;
    theorems = is.theorems;
    entries = is.entries;
    room = is.room;
    knows = is.knows;
    claims = subst (All (IsClaim table contents.theorems.items)) (sym pushed) (All-push (IsClaim table contents.theorems.items) contents.claims.items claim is.claims stands);
  };
  state = λ i. record {
    version = version_of contents.version;
    types = sym (append-nil (state_of table contents).types) i;
    terms = sym (append-nil (state_of table contents).terms) i;
    theorems = sym (append-nil (state_of table contents).theorems) i;
    theory = (state_of table contents).theory;
    claims = (ap (map (claim_in table contents.theorems.items)) pushed ∙ map_push (claim_in table contents.theorems.items) contents.claims.items claim) i;
    is_ended = sym (either contents.is_ended) i;
  };
}

-- a list with one more item, or without room for it

pub gains-type : (contents : Contents) (addition : Addition) (types : Vec ℕ Global) (number : ℕ) (result : Result (Unit {0}) Fault) → addition ≡ TypeNumber number →
    OnOk result (types.items ≡ contents.types.items ++ number ∷ []) → OnOk result (Gains contents addition (record contents { types = types }))
gains-type contents addition types number (Ok _) is pushed = λ table holds stands.
    subst (λ a. IsAdded table contents a (record contents { types = types })) (sym is) (added-type table contents types number holds (subst (CanBeAdded table contents) is stands) pushed)
gains-type contents addition types number (Err fault) is pushed = tt

pub keeps-types : (contents : Contents) (addition : Addition) (types : Vec ℕ Global) (result : Result (Unit {0}) Fault) → OnErr result (types.items ≡ contents.types.items) →
    OnErr result (Keeps contents addition (record contents { types = types }))
keeps-types contents addition types (Ok _) same = tt
keeps-types contents addition types (Err fault) same = λ table is stands. record {
  types = subst (All (λ n. n < length table.types)) (sym same) is.types;
  terms = is.terms;
  made = is.made;
  theorems = is.theorems;
  entries = is.entries;
  room = is.room;
  knows = is.knows;
  claims = is.claims;
}

pub gains-line : (contents : Contents) (addition : Addition) (terms : Vec Written Global) (line : Written) (result : Result (Unit {0}) Fault) → addition ≡ TermLine line →
    OnOk result (terms.items ≡ contents.terms.items ++ line ∷ []) → OnOk result (Gains contents addition (record contents { terms = terms }))
gains-line contents addition terms line (Ok _) is pushed = λ table holds stands.
    subst (λ a. IsAdded table contents a (record contents { terms = terms })) (sym is) (added-line table contents terms line holds (subst (CanBeAdded table contents) is stands) pushed)
gains-line contents addition terms line (Err fault) is pushed = tt

pub keeps-lines : (contents : Contents) (addition : Addition) (terms : Vec Written Global) (result : Result (Unit {0}) Fault) → OnErr result (terms.items ≡ contents.terms.items) →
    OnErr result (Keeps contents addition (record contents { terms = terms }))
keeps-lines contents addition terms (Ok _) same = tt
keeps-lines contents addition terms (Err fault) same = λ table is stands. record {
  types = is.types;
  terms = subst (AreWritten table) (sym same) is.terms;
  made = subst (λ l. AreMade table l contents.made.entries) (sym same) is.made;
  theorems = is.theorems;
  entries = is.entries;
  room = is.room;
  knows = is.knows;
  claims = is.claims;
}

pub gains-theorem : (contents : Contents) (addition : Addition) (theorems : Vec Theorem Global) (theorem : Theorem) (result : Result (Unit {0}) Fault) → addition ≡ Proved theorem →
    OnOk result (theorems.items ≡ contents.theorems.items ++ theorem ∷ []) → OnOk result (Gains contents addition (record contents { theorems = theorems }))
gains-theorem contents addition theorems theorem (Ok _) is pushed = λ table holds stands.
    subst (λ a. IsAdded table contents a (record contents { theorems = theorems })) (sym is) (added-theorem table contents theorems theorem holds (subst (CanBeAdded table contents) is stands) pushed)
gains-theorem contents addition theorems theorem (Err fault) is pushed = tt

pub keeps-theorems : (contents : Contents) (addition : Addition) (theorems : Vec Theorem Global) (result : Result (Unit {0}) Fault) → OnErr result (theorems.items ≡ contents.theorems.items) →
    OnErr result (Keeps contents addition (record contents { theorems = theorems }))
keeps-theorems contents addition theorems (Ok _) same = tt
keeps-theorems contents addition theorems (Err fault) same = λ table is stands. record {
  types = is.types;
  terms = is.terms;
  made = is.made;
  theorems = subst (All (IsFittingTheorem table.terms)) (sym same) is.theorems;
  entries = is.entries;
  room = is.room;
  knows = is.knows;
  claims = subst (λ l. All (IsClaim table l) contents.claims.items) (sym same) is.claims;
}

pub gains-claim : (contents : Contents) (addition : Addition) (claims : Vec ListedClaim Global) (claim : ListedClaim) (result : Result (Unit {0}) Fault) → addition ≡ Claimed claim →
    OnOk result (claims.items ≡ contents.claims.items ++ claim ∷ []) → OnOk result (Gains contents addition (record contents { claims = claims }))
gains-claim contents addition claims claim (Ok _) is pushed = λ table holds stands.
    subst (λ a. IsAdded table contents a (record contents { claims = claims })) (sym is) (added-claim table contents claims claim holds (subst (CanBeAdded table contents) is stands) pushed)
gains-claim contents addition claims claim (Err fault) is pushed = tt

pub keeps-claims : (contents : Contents) (addition : Addition) (claims : Vec ListedClaim Global) (result : Result (Unit {0}) Fault) → OnErr result (claims.items ≡ contents.claims.items) →
    OnErr result (Keeps contents addition (record contents { claims = claims }))
keeps-claims contents addition claims (Ok _) same = tt
keeps-claims contents addition claims (Err fault) same = λ table is stands. record {
  types = is.types;
  terms = is.terms;
  made = is.made;
  theorems = is.theorems;
  entries = is.entries;
  room = is.room;
  knows = is.knows;
  claims = subst (All (IsClaim table contents.theorems.items)) (sym same) is.claims;
}

pub gives-definition : (table : TermTable) (contents : Contents) (name ty body : ℕ) → IsNewConstant table contents name ty →
    GivesConstant table (entry_in table (Definition name ty body)) (theory_in table contents.entries.items) name ty
gives-definition table contents name ty body new = record { name_within = new.name_within; type_within = new.type_within; is_new = new.is_new; gives = λ other. refl; keeps = λ other. refl }

-- a definition whose theorem found no room
pub defined-kept : (result : Result (Unit {0}) Fault) (contents mid now : Contents) (name ty body : ℕ) (theorem : Theorem) → theorem.hypotheses.items ≡ []
    → ((table : TermTable) → IsContents table contents → HasEntryParts table (Definition name ty body) →
    GivesConstant table (entry_in table (Definition name ty body)) (theory_in table contents.entries.items) name ty → HasRoom contents
    → IsEntered table contents (Definition name ty body) mid)
    → OnErr result ((table : TermTable) → IsContents table mid → CanBeAdded table mid (Proved theorem) → IsContents table now)
    → OnErr result ((table : TermTable) → IsContents table contents → CanBeAdded table contents (Defined name ty body theorem.conclusion) → IsContents table now)
defined-kept (Ok _) contents mid now name ty body theorem none enters kept = kept
defined-kept (Err fault) contents mid now name ty body theorem none enters kept = λ table is stands.
    kept table (enters table is (stands.0.name_within, stands.0.type_within, stands.1) (gives-definition table contents name ty body stands.0) stands.0.room).is_contents
    (record {
      hypotheses = subst (All (IsFitting table.terms)) (sym none) (λ k d within. absurd (omega (arith, within)));
      ordered =
          subst (λ l. AreOrdered (terms_in table.terms l)) (sym none) tt;
      conclusion = stands.2;
    })

pub on_err-weaker : {T E P Q : Type 0} (result : Result T E) → (P → Q) → OnErr result P → OnErr result Q
on_err-weaker (Ok value) weaker holds = holds
on_err-weaker (Err error) weaker holds = weaker holds
