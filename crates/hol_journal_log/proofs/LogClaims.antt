-- The lines of the claims and of the end are accepted.
use Rattle.std.proofs.Common.{◌≡◌, ℕ, List, [], ◌∷◌, ◌++◌, length, Bool, true, false, ◌&&◌, ◌||◌, not, refl, sym, ◌∙◌, ap, subst, inl, inr, None, append-nil, append_assoc, if◌then◌else◌}
use Rattle.std.specs.Prelude.{map, ◌==◌, nat_eq}
use Rattle.std.specs.List.{list_all, list_any}
use Rattle.std.proofs.lemmas.List.{length-map}
use Rattle.std.proofs.lemmas.List.Folds.{list_all-append}
use Rattle.std.proofs.lemmas.List.Elements.{All-get_or}
use Rattle.std.proofs.lemmas.Bool.Decides.{Decides-eqb}
use Rattle.hol_model.specs.Terms.HolType.{HolType, bool_type, type_variable, function_type, declared_type}
use Rattle.hol_model.specs.Terms.NamedTerm.{NamedTerm, variable, constant, combination, abstraction}
use Rattle.hol_model.specs.Terms.Nameless.{Nameless, image, same_term}
use Rattle.hol_model.specs.Logic.Theory.{Theory, IsKnown}
use Rattle.hol_model.specs.Kernel.Theorem.{Theorem}
use Rattle.hol_model.specs.Terms.Name.{is_identifier}
use Rattle.hol_model.specs.Logic.Derivable.{IsMember}
use Rattle.hol_model.specs.Logs.LogLine.{LogLine}
use Rattle.hol_model.specs.Logs.LogLine.LogLine.{claim_line, end_line}
use Rattle.hol_model.specs.Logs.LogState.{LogState, terms_at, set_of, same_terms, no_sequent}
use Rattle.hol_model.specs.Logs.LogSequents.{after_line}
use Rattle.hol_model.specs.Logs.LogFaults.{first_cause, is_no_term, has_number_fault, has_claim_fault}
use Rattle.hol_model.specs.Logs.LogLaws.{IsDerivable, IsSoundState}
use Rattle.hol_model.proofs.Terms.Membership.{IsMember-map}
use Rattle.hol_model.proofs.Tests.{first_of_both, both, same_term-Decides}
use Rattle.hol_model.proofs.Logs.LogTests.{is_there}
use Rattle.hol_model.proofs.Terms.NamedTests.{is_known-Decides}
use Rattle.hol_model.proofs.Logic.Known.{Derivable-known}
use Rattle.hol_journal.specs.Steps.{derived_sequent, sequent_at, sequent_of_theorem}
use Rattle.hol_journal.specs.Lines.{NamesTerm, NamesTheorem}
use Rattle.hol_journal.specs.Journal.{Journal, IsJournal, IsKnownWithin}
use Rattle.hol_journal_log.specs.Needed.{MarksNeeded}
use Rattle.hol_journal_log.specs.Needed.IsNeeded.{by_claim}
use Rattle.hol_journal_log.specs.LogWriting.{Written, Claimed, nothing_written, terms_of_claim, with_line, with_type_line, with_term_line, type_line}
use Rattle.hol_journal_log.specs.LogWriting.{term_line, write_type, write_variable, write_term, write_terms, write_claim, write_claims, write_entries}
use Rattle.hol_journal_log.specs.LogWriting.{number_of_entry, number_of_term, theorem_number, is_among}
use Rattle.hol_journal_log.specs.LogAccepted.{has_name, MayClaim, log_claim, LogsAreAccepted}
use Rattle.hol_journal.proofs.Showing.{neither, record_sequent}
use Rattle.hol_journal.proofs.SequentLemmas.{set_of-ordered}
use Rattle.hol_journal_log.proofs.LogTables.{GoesOn}
use Rattle.hol_journal_log.proofs.LogRuns.{IsLog, run-more, run-sound, run-outcome, log-more, faultless, goes_on-same, goes_on-twice}
use Rattle.hol_journal_log.proofs.LogParts.{HasRoom, no_entry_fits, room_later, names_term, writes_terms}
use Rattle.hol_journal_log.proofs.LogEntries.{Covers, TheoremsStand, names_entry, theorems-same, entries_written, room_of}

-- the lines only go on

lines_type_line : (line : LogLine) (written : Written) → GoesOn written.lines (with_type_line line written).lines
lines_type_line line written = go (is_among line written.types)
  where
    go : (t : Bool) → GoesOn written.lines ((if t then written else record written { types = written.types ++ line ∷ []; lines = written.lines ++ line ∷ [] }).lines)
    go true = goes_on-same written.lines
    go false = record { added = line ∷ []; is = refl }

lines_term_line : (line : LogLine) (written : Written) → GoesOn written.lines (with_term_line line written).lines
lines_term_line line written = go (is_among line written.terms)
  where
    go : (t : Bool) → GoesOn written.lines ((if t then written else record written { terms = written.terms ++ line ∷ []; lines = written.lines ++ line ∷ [] }).lines)
    go true = goes_on-same written.lines
    go false = record { added = line ∷ []; is = refl }

lines_type : (ty : HolType) (written : Written) → GoesOn written.lines (write_type ty written).lines
lines_type (type_variable name) written = lines_type_line (type_line written.types (type_variable name)) written
lines_type bool_type written = lines_type_line (type_line written.types bool_type) written
lines_type (declared_type name) written = lines_type_line (type_line written.types (declared_type name)) written
lines_type (function_type a b) written =
    let w1 = write_type a written in
    let w2 = write_type b w1 in
    let line = type_line w2.types (function_type a b) in
    goes_on-twice written.lines w2.lines (with_type_line line w2).lines (goes_on-twice written.lines w1.lines w2.lines (lines_type a written) (lines_type b w1)) (lines_type_line line w2)

lines_leaf : (term : NamedTerm) (ty : HolType) (written : Written)
    → GoesOn written.lines (with_term_line (term_line (write_type ty written).types (write_type ty written).terms term) (write_type ty written)).lines
lines_leaf term ty written =
    let w1 = write_type ty written in
    let line = term_line w1.types w1.terms term in
    goes_on-twice written.lines w1.lines (with_term_line line w1).lines (lines_type ty written) (lines_term_line line w1)

lines_term : (term : NamedTerm) (written : Written) → GoesOn written.lines (write_term term written).lines
lines_term (variable name ty) written = lines_leaf (variable name ty) ty written
lines_term (constant name ty) written = lines_leaf (constant name ty) ty written
lines_term (combination f a) written =
    let w1 = write_term f written in
    let w2 = write_term a w1 in
    let line = term_line w2.types w2.terms (combination f a) in
    goes_on-twice written.lines w2.lines (with_term_line line w2).lines (goes_on-twice written.lines w1.lines w2.lines (lines_term f written) (lines_term a w1)) (lines_term_line line w2)
lines_term (abstraction name ty body) written =
    let w1 = write_variable name ty written in
    let w2 = write_term body w1 in
    let line = term_line w2.types w2.terms (abstraction name ty body) in
    goes_on-twice written.lines w2.lines (with_term_line line w2).lines
    (goes_on-twice written.lines w1.lines w2.lines (lines_leaf (variable name ty) ty written) (lines_term body w1)) (lines_term_line line w2)

lines_terms : (terms : List NamedTerm) (written : Written) → GoesOn written.lines (write_terms terms written).lines
lines_terms [] written = goes_on-same written.lines
lines_terms (term ∷ terms) written =
    let w1 = write_term term written in goes_on-twice written.lines w1.lines (write_terms terms w1).lines (lines_term term written) (lines_terms terms w1)

lines_claim : (claim : Claimed) (written : Written) → GoesOn written.lines (write_claim claim written).lines
lines_claim claim written =
    let w1 = write_terms (terms_of_claim claim) written in
    goes_on-twice written.lines w1.lines (write_claim claim written).lines (lines_terms (terms_of_claim claim) written) (record { added = _; is = refl })

lines_claims : (claims : List Claimed) (written : Written) → GoesOn written.lines (write_claims claims written).lines
lines_claims [] written = goes_on-same written.lines
lines_claims (claim ∷ claims) written =
    let w1 = write_claim claim written in goes_on-twice written.lines w1.lines (write_claims claims w1).lines (lines_claim claim written) (lines_claims claims w1)

-- lists of terms that numbers name

same_terms-self : (terms : List Nameless) → same_terms terms terms ≡ true
same_terms-self [] = refl
same_terms-self (t ∷ terms) = both (same_term t t) (same_terms terms terms) ((same_term-Decides t t).1 refl) (same_terms-self terms)

module _ (state : LogState) (number : NamedTerm → ℕ) where
  abbrev NamesAll : List NamedTerm → Type 0
  NamesAll terms = (term : NamedTerm) → IsMember term terms → NamesTerm state (number term) (image term)

  all_there : (terms : List NamedTerm) → NamesAll terms → list_any (is_no_term state) (map number terms) ≡ false
  all_there [] names = refl
  all_there (t ∷ terms) names = neither (is_no_term state (number t)) (list_any (is_no_term state) (map number terms)) (names t (inl refl)).there (all_there terms (λ term m. names term (inr m)))

  all_named : (terms : List NamedTerm) → NamesAll terms → terms_at state (map number terms) ≡ map image terms
  all_named [] names = refl
  all_named (t ∷ terms) names = let rest = all_named terms (λ term m. names term (inr m)) in λ i. (names t (inl refl)).is i ∷ rest i

-- a claim's line
record IsClaimLine (state : LogState) (name : List ℕ) (theorem : Theorem) (line : LogLine) : Type 0 where
  accepted : first_cause state line ≡ None
  claims : (after_line state line).claims ≡ state.claims ++ (record { name = name; sequent = sequent_of_theorem theorem }) ∷ []

claim_line-accepted : (state : LogState) (number : NamedTerm → ℕ) (name : List ℕ) (i : ℕ) (theorem : Theorem) → state.is_ended ≡ false → HasRoom state → is_identifier name ≡ true
    → NamesTheorem state i (sequent_of_theorem theorem) → NamesAll state number (theorem.conclusion ∷ theorem.hypotheses) → set_of (map image theorem.hypotheses) ≡ map image theorem.hypotheses
    → IsClaimLine state name theorem (claim_line name i (number theorem.conclusion) (map number theorem.hypotheses))
claim_line-accepted state number name i theorem going room is_name named names ordered =
    let hypotheses = theorem.hypotheses in
    let conclusion = names theorem.conclusion (inl refl) in
    let line = claim_line name i (number theorem.conclusion) (map number hypotheses) in
    let there = all_there state number hypotheses (λ term m. names term (inr m)) in
    let listed = all_named state number hypotheses (λ term m. names term (inr m)) in
    let set_is = ap set_of listed ∙ ordered in
    let number_fault : has_number_fault state line ≡ false = rw (named.there, conclusion.there, there) refl in
    let same : has_claim_fault state line ≡ false =
    (λ k. not (same_term (conclusion.is k) (named.is k).conclusion && same_terms (set_is k) (named.is k).hypotheses))
    ∙ ap not (both (same_term (image theorem.conclusion) (image theorem.conclusion)) (same_terms (map image hypotheses) (map image hypotheses))
    ((same_term-Decides (image theorem.conclusion) (image theorem.conclusion)).1 refl) (same_terms-self (map image hypotheses))) in
    record {
      accepted = faultless state line (record {
        shape = refl;
        number = number_fault;
        name = ap not is_name;
        type_fits = refl;
        constant = refl;
        rule = refl;
        claim = same;
        size = ap not (no_entry_fits state room);
        end = going;
      });
      claims = λ k. state.claims ++ (record { name = name; sequent = record_sequent (set_is k) (conclusion.is k) }) ∷ [];
    }

module _ (journal : Journal) (claimed : List ℕ) (marks : List Bool) (is : IsJournal journal) (needed : MarksNeeded journal.entries claimed marks) where
  -- what is ready to be claimed over a theory, where these theorems have numbers
  record IsReady (theory : Theory) (theorems : List ℕ) (claim : Claimed) : Type 0 where
    is_name : is_identifier claim.name ≡ true
    terms : (term : NamedTerm) → IsMember term (terms_of_claim claim) → IsKnownWithin theory term
    listed : list_any (λ other. claim.made.entry == other) theorems ≡ true
    at : sequent_at journal.entries claim.made.entry ≡ sequent_of_theorem claim.made.theorem
    ordered : set_of (map image claim.made.theorem.hypotheses) ≡ map image claim.made.theorem.hypotheses

  ready : (written : Written) (state : LogState) → Covers journal claimed marks is needed journal.entries written state → IsSoundState state
      → (claim : Claimed) → IsMember claim.made.entry claimed → MayClaim journal claim → IsReady state.theory written.theorems claim
  ready written state covers sound claim member may =
      let entry = claim.made.entry in
      let theorem = claim.made.theorem in
      let at : sequent_at journal.entries entry ≡ sequent_of_theorem theorem = ap derived_sequent may.made.there in
      let marked = (needed.marked entry).1 (by_claim entry member) in
      let listed = covers.listed entry may.made.step (sequent_of_theorem theorem) may.made.there marked in
      let named = names_entry journal claimed marks is needed written state entry covers.theorems listed in
      let place = theorem_number written.theorems entry in
      let derivable = All-get_or (IsDerivable state.theory) state.theorems place no_sequent (is_there (length state.theorems) place named.there) sound.theorems in
      let here : IsDerivable state.theory (sequent_of_theorem theorem) = subst (IsDerivable state.theory) (named.is ∙ at) derivable in
      let known = Derivable-known state.theory sound.legal here in
      record {
        is_name = may.is_name;
        terms = λ term m.
            let formula = may.formulas term m in
            let image_known : IsKnown state.theory (image term) bool_type = elim m [
              | inl same ↦ subst (λ (t : NamedTerm). IsKnown state.theory (image t) bool_type) (sym same) known.conclusion
              | inr later ↦ known.hypotheses (image term) (IsMember-map image term theorem.hypotheses later)
            ] in
            record { ty = bool_type; typed = formula.typed; known = (is_known-Decides state.theory term bool_type formula.typed).1 image_known; within_limits = formula.within_limits };
        listed = listed;
        at = at;
        ordered = set_of-ordered theorem.hypotheses may.theorem.ordered;
      }

  record WroteClaims (claims : List Claimed) (written : Written) (state : LogState) : Type 0 where
    after : LogState
    log : IsLog (write_claims claims written) after
    claims_are : after.claims ≡ state.claims ++ map log_claim claims
    theory : after.theory ≡ state.theory

  writes_claims : (claims : List Claimed) (written : Written) (state : LogState) → IsLog written state → HasRoom state → TheoremsStand journal claimed marks is needed written state
      → ((claim : Claimed) → IsMember claim claims → IsReady state.theory written.theorems claim) → WroteClaims claims written state
  writes_claims [] written state log room stands are_ready = record { after = state; log = log; claims_are = sym (append-nil state.claims); theory = refl }
  writes_claims (claim ∷ claims) written state log room stands are_ready =
      let this = are_ready claim (inl refl) in
      let terms = terms_of_claim claim in
      let one = writes_terms terms written state log room this.terms in
      let w1 = write_terms terms written in
      let s1 = one.wrote.after in
      let stands_1 = theorems-same journal claimed marks is needed written w1 state s1 one.wrote.written_theorems one.wrote.theorems stands in
      let room_1 = room_later state s1 one.wrote.theory room in
      let listed = ap (list_any (λ other. claim.made.entry == other)) one.wrote.written_theorems ∙ this.listed in
      let named = names_entry journal claimed marks is needed w1 s1 claim.made.entry stands_1 listed in
      let done = claim_line-accepted s1 (number_of_term w1) claim.name (number_of_entry w1 claim.made.entry) claim.made.theorem one.wrote.log.going_on room_1 this.is_name
      (record { there = named.there; is = named.is ∙ this.at }) (λ term m. names_term w1 s1 one.wrote.log term (one.has term m)) this.ordered in
      let line = claim_line claim.name (number_of_entry w1 claim.made.entry) (number_of_term w1 claim.made.theorem.conclusion) (map (number_of_term w1) claim.made.theorem.hypotheses) in
      let s2 = after_line s1 line in
      let w2 = with_line line w1 in
      let logged = log-more w1 s1 line one.wrote.log (record { types = refl; terms = refl; ends = refl }) (λ _. done.accepted) in
      let stands_2 = theorems-same journal claimed marks is needed w1 w2 s1 s2 refl (append-nil s1.theorems) stands_1 in
      let rest = writes_claims claims w2 s2 logged room_1 stands_2
      (λ other m. let that = are_ready other (inr m) in record {
        is_name = that.is_name;
        terms = λ term n. subst (λ (t : Theory). IsKnownWithin t term) (sym one.wrote.theory) (that.terms term n);
        listed = ap (list_any (λ o. other.made.entry == o)) one.wrote.written_theorems ∙ that.listed;
        at = that.at;
        ordered = that.ordered;
      }) in
      record {
        after = rest.after;
        log = rest.log;
        claims_are = rest.claims_are ∙ ap (λ l. l ++ map log_claim claims) (done.claims ∙ ap (λ l. l ++ log_claim claim ∷ []) one.wrote.claims)
            ∙ append_assoc state.claims (log_claim claim ∷ []) (map log_claim claims);
        theory = rest.theory ∙ one.wrote.theory;
      }

-- the entry of a claim is claimed
entry_claimed : (claims : List Claimed) (claim : Claimed) → IsMember claim claims → IsMember claim.made.entry (map (λ c. c.made.entry) claims)
entry_claimed [] claim m = absurd m
entry_claimed (first ∷ claims) claim (inl same) = inl (ap (λ (c : Claimed). c.made.entry) same)
entry_claimed (first ∷ claims) claim (inr m) = inr (entry_claimed claims claim m)

pub logs-accepted : LogsAreAccepted
logs-accepted journal marks claims is needed named may =
    let claimed = map (λ (c : Claimed). c.made.entry) claims in
    let all = entries_written journal claimed marks is needed in
    let w0 = write_entries 0 journal.entries marks nothing_written in
    let s0 = all.state in
    let covers = all.covers in
    let w1 = write_claims claims w0 in
    let last = end_line (length claims) in
    let on = lines_claims claims w0 in
    let named_1 = first_of_both (list_all has_name w1.lines) (list_all has_name (last ∷ [])) (sym (list_all-append has_name w1.lines (last ∷ [])) ∙ named) in
    let named_0 = first_of_both (list_all has_name w0.lines) (list_all has_name on.added) (sym (list_all-append has_name w0.lines on.added) ∙ ap (list_all has_name) (sym on.is) ∙ named_1) in
    let sound = run-sound w0.lines s0 covers.log.run named_0 in
    let room_0 : HasRoom s0 = room_of journal claimed marks is needed w0 s0 covers in
    let wrote = writes_claims journal claimed marks is needed claims w0 s0 covers.log room_0 covers.theorems
    (λ claim m. ready journal claimed marks is needed w0 s0 covers sound claim (entry_claimed claims claim m) (may claim m)) in
    let s1 = wrote.after in
    let are : s1.claims ≡ map log_claim claims = wrote.claims_are ∙ ap (λ l. l ++ map log_claim claims) covers.claims in
    let count : nat_eq (length claims) (length s1.claims) ≡ true = (Decides-eqb (length claims) (length s1.claims)).1 (sym (ap length are ∙ length-map claims log_claim)) in
    let accepted = faultless s1 last (record {
      shape = refl;
      number = refl;
      name = refl;
      type_fits = refl;
      constant = refl;
      rule = refl;
      claim = refl;
      size = ap not (no_entry_fits s1 (room_later s0 s1 wrote.theory room_0));
      end = neither s1.is_ended (not (nat_eq (length claims) (length s1.claims))) wrote.log.going_on (ap not count);
    }) in
    let s2 = after_line s1 last in
    let run = run-more w1.lines s1 last wrote.log.run (λ _. accepted) in
    let ended : s2.is_ended ≡ true = ap (λ b. b || true) wrote.log.going_on in
    record {
      state = s2;
      outcome = run-outcome (w1.lines ++ last ∷ []) s2 run named ended;
      are_claimed = append-nil s1.claims ∙ are;
      entries = λ one m. subst (λ (t : Theory). IsMember one t) (sym is.theory) (covers.inside one (subst (λ (t : Theory). IsMember one t) wrote.theory m));
    }
