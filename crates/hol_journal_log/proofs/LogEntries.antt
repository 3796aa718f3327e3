-- The lines of the entries that are marked are accepted, and give their sequents.
use Rattle.std.proofs.Common.{◌≡◌, ◌⊎◌, ◌≤◌, ◌+◌, ℕ, suc, List, [], ◌∷◌, ◌++◌, length, Bool, true, false, not, refl, sym, ◌∙◌, ap, subst, inl, inr}
use Rattle.std.proofs.Common.{Some, append-nil, append_assoc, length-append, arith, nat_le}
use Rattle.std.specs.Prelude.{slice_get, ◌==◌}
use Rattle.std.specs.List.{list_any, flat_map}
use Rattle.std.proofs.lemmas.Bool.{lt-leb}
use Rattle.std.proofs.lemmas.List.{length_push}
use Rattle.std.proofs.lemmas.Bool.Decides.{Decides-eqb}
use Rattle.std.proofs.lemmas.Option.{slice_get_within, get_or_from_slice_get}
use Rattle.hol_model.specs.declared.limits.TheConstants.{DEFINITIONS_LIMIT}
use Rattle.hol_model.specs.Terms.HolType.{HolType}
use Rattle.hol_model.specs.Terms.NamedTerm.{NamedTerm}
use Rattle.hol_model.specs.Terms.Nameless.{image}
use Rattle.hol_model.specs.Terms.Name.{is_constant_name, is_declared_type_name}
use Rattle.hol_model.specs.Logic.Derivable.{IsMember}
use Rattle.hol_model.specs.Goals.Goals.{Sequent}
use Rattle.hol_model.specs.Logic.Theory.{Theory, Entry, definition, declaration_of_constant, IsLegal}
use Rattle.hol_model.specs.Logic.Legality.{is_new_name, is_fixed, own_type}
use Rattle.hol_model.specs.Logs.LogLine.LogVersion.{second_version}
use Rattle.hol_model.specs.Logs.LogLine.LogLine.{theorem_line, new_type_line, new_constant_line}
use Rattle.hol_model.specs.Logs.LogState.{LogState, first_state, term_type, no_sequent}
use Rattle.hol_model.specs.Logs.LogSequents.{rule_entries, after_line}
use Rattle.hol_model.specs.Logs.LogFaults.{is_first_version}
use Rattle.hol_model.proofs.Terms.Membership.{of_append, IsMember-append_left, IsMember-append_right}
use Rattle.hol_model.proofs.Tests.{both}
use Rattle.hol_model.proofs.Terms.TypeTests.{knows_type-Decides, is_fixed-Decides, is_new_name-Decides}
use Rattle.hol_kernel.proofs.DefinitionLemmas.{own_type-is}
use Rattle.hol_journal.specs.Steps as steps
use Rattle.hol_journal.specs.Steps.{Step, by_refl, by_trans, by_mk_comb, by_abs, by_beta, by_assume, by_eq_mp, by_deduct, by_inst, by_inst_type}
use Rattle.hol_journal.specs.Steps.{by_eta, by_select, by_definition, JournalEntry, derived, declared_constant, derived_sequent, sequent_at, terms_of}
use Rattle.hol_journal.specs.Steps.{types_of}
use Rattle.hol_journal.specs.Lines.{Numbering, line_of, NamesTheorem, NamesParts, MayGoOn}
use Rattle.hol_journal.specs.Journal.{Journal, added_by, grown_by, theory_of, KnowsParts, IsJournal, IsKnownWithin, IsKnownTypeWithin}
use Rattle.hol_journal_log.specs.Needed.{names_in_type, names_in_term, names_in, introduced_by, MarksNeeded}
use Rattle.hol_journal_log.specs.Needed.IsNeeded.{by_citation, by_name}
use Rattle.hol_journal_log.specs.LogAccepted.{IsPartOf}
use Rattle.hol_journal_log.specs.LogWriting.{Written, nothing_written, theorem_number, number_of_type, numbering, with_line, with_theorem, write_type}
use Rattle.hol_journal_log.specs.LogWriting.{write_types, write_terms, write_entry, write_entries}
use Rattle.hol_journal.proofs.SequentLemmas.{term_type-image}
use Rattle.hol_journal.proofs.JournalLemmas.{grown_by-last}
use Rattle.hol_journal_log.proofs.LogTables.{passes_there, still_there, last_there, get_last}
use Rattle.hol_journal_log.proofs.LogRuns.{IsLog, run-start, log-more, faultless, wrote-twice}
use Rattle.hol_journal_log.proofs.LogParts.{HasRoom, less_fits, room_later, known_later, stays_type, names_type, names_term, writes_type, writes_types, writes_terms}
use Rattle.hol_journal_log.proofs.KeptTheory.{in_flat_map, Agree, AgreeOn, type_kept, term_kept, entry_name, agree_both, agree_other, new_earlier}
use Rattle.hol_journal_log.proofs.KeptTheory.{new_both, adds, grown_by-append, legal_before, room_before}
use Rattle.hol_journal.proofs.Places.{get_earlier, get_at_end}

-- what the line of a step adds to the theory
rule_adds : (entries : List JournalEntry) (step : Step) (sequent : Sequent) (theory : Theory) (state : LogState) (numbers : Numbering) → KnowsParts theory step → NamesParts entries step state numbers
    → rule_entries state (line_of numbers step) ≡ added_by (derived step sequent)
rule_adds entries (by_refl term) sequent theory state numbers knows names = refl
rule_adds entries (by_trans first second) sequent theory state numbers knows names = refl
rule_adds entries (by_mk_comb first second) sequent theory state numbers knows names = refl
rule_adds entries (by_abs binder theorem) sequent theory state numbers knows names = refl
rule_adds entries (by_beta term) sequent theory state numbers knows names = refl
rule_adds entries (by_assume term) sequent theory state numbers knows names = refl
rule_adds entries (by_eq_mp first second) sequent theory state numbers knows names = refl
rule_adds entries (by_deduct first second) sequent theory state numbers knows names = refl
rule_adds entries (by_inst theorem pairs) sequent theory state numbers knows names = refl
rule_adds entries (by_inst_type theorem pairs) sequent theory state numbers knows names = refl
rule_adds entries by_eta sequent theory state numbers knows names = refl
rule_adds entries by_select sequent theory state numbers knows names = refl
rule_adds entries (by_definition name term) sequent theory state numbers knows names =
    let known = knows.terms term (inl refl) in
    let type_is : term_type (image term) ≡ own_type term = term_type-image term known.ty known.typed ∙ sym (own_type-is term known.ty known.typed) in
    ap (λ t. definition name (term_type t) t ∷ []) (names.terms term (inl refl)).is ∙ ap (λ ty. definition name ty (image term) ∷ []) type_is

-- the theorems that an entry adds
abbrev TheoremsAfter : ℕ → JournalEntry → Written → Written → LogState → LogState → Type 0
TheoremsAfter number (derived step sequent) old new state after = (new.theorems ≡ old.theorems ++ number ∷ []) × (after.theorems ≡ state.theorems ++ sequent ∷ [])
TheoremsAfter number (steps.declared_type name) old new state after = (new.theorems ≡ old.theorems) × (after.theorems ≡ state.theorems)
TheoremsAfter number (declared_constant name ty) old new state after = (new.theorems ≡ old.theorems) × (after.theorems ≡ state.theorems)

-- an entry was written
record WroteEntry (number : ℕ) (entry : JournalEntry) (old new : Written) (state : LogState) : Type 0 where
  after : LogState
  log : IsLog new after
  theory : after.theory ≡ added_by entry ++ state.theory
  claims : after.claims ≡ state.claims
  theorems : TheoremsAfter number entry old new state after

no_theorem_type : (name : List ℕ) (step : Step) (sequent : Sequent) → steps.declared_type name ≡ derived step sequent → ⊥
no_theorem_type name step sequent same = cc

no_theorem_constant : (name : List ℕ) (ty : HolType) (step : Step) (sequent : Sequent) → declared_constant name ty ≡ derived step sequent → ⊥
no_theorem_constant name ty step sequent same = cc

-- the same log, with other numbers of theorems
relisted : (one two : Written) (state : LogState) → two.types ≡ one.types → two.terms ≡ one.terms → two.lines ≡ one.lines → IsLog one state → IsLog two state
relisted one two state types terms lines log = subst (λ (w : Written). IsLog w state) (λ i. record { types = sym types i; terms = sym terms i; theorems = two.theorems; lines = sym lines i })
    (record { run = log.run; version = log.version; going_on = log.going_on; types = log.types; terms = log.terms })

module _ (journal : Journal) (claimed : List ℕ) (marks : List Bool) (is : IsJournal journal) (needed : MarksNeeded journal.entries claimed marks) where
  abbrev pub IsMarked : ℕ → Type 0
  IsMarked number = slice_get marks number ≡ Some true

  -- the entries before that introduce the name are marked
  abbrev IsKept : List JournalEntry → List ℕ → Type 0
  IsKept before name = (number : ℕ) (entry : JournalEntry) → slice_get before number ≡ Some entry → introduced_by entry ≡ Some name → IsMarked number

  -- each number of a theorem names the sequent of its entry
  pub record TheoremsStand (written : Written) (state : LogState) : Type 0 where
    pub count : length written.theorems ≡ length state.theorems
    pub stand : (place number : ℕ) → slice_get written.theorems place ≡ Some number → slice_get state.theorems place ≡ Some (sequent_at journal.entries number)

  -- the marked ones of these entries were written
  pub record Covers (before : List JournalEntry) (written : Written) (state : LogState) : Type 0 where
    pub log : IsLog written state
    pub fewer : length state.theory ≤ length (theory_of before)
    pub new_names : (name : List ℕ) → is_new_name (theory_of before) name ≡ true → is_new_name state.theory name ≡ true
    pub agree : (name : List ℕ) → IsKept before name → Agree (theory_of before) state.theory name
    pub inside : IsPartOf state.theory (theory_of before)
    pub theorems : TheoremsStand written state
    pub listed : (number : ℕ) (step : Step) (sequent : Sequent) → slice_get before number ≡ Some (derived step sequent) → IsMarked number → list_any (λ other. number == other) written.theorems ≡ true
    pub claims : state.claims ≡ []

  -- an entry that a marked one cites is named by its number
  pub names_entry : (written : Written) (state : LogState) (number : ℕ) → TheoremsStand written state → list_any (λ other. number == other) written.theorems ≡ true
      → NamesTheorem state (theorem_number written.theorems number) (sequent_at journal.entries number)
  names_entry written state number theorems listed =
      let found = passes_there (λ other. number == other) written.theorems listed in
      let same : number ≡ found.0 = (Decides-eqb number found.0).0 found.2 in
      let place = theorem_number written.theorems number in
      let there : slice_get state.theorems place ≡ Some (sequent_at journal.entries number) = theorems.stand place number (found.1 ∙ ap Some (sym same)) in
      record {
        there = lt-leb (length state.theorems) place (slice_get_within state.theorems place (sequent_at journal.entries number) there);
        is = get_or_from_slice_get state.theorems place (sequent_at journal.entries number) no_sequent there;
      }

  pub theorems-same : (old new : Written) (state after : LogState) → new.theorems ≡ old.theorems → after.theorems ≡ state.theorems → TheoremsStand old state → TheoremsStand new after
  theorems-same old new state after one two stands = record {
    count = ap length one ∙ stands.count ∙ ap length (sym two);
    stand = λ place number there. ap (λ l. slice_get l place) two ∙ stands.stand place number (ap (λ l. slice_get l place) (sym one) ∙ there);
  }

  theorems-more : (old new : Written) (state after : LogState) (number : ℕ) (sequent : Sequent) → new.theorems ≡ old.theorems ++ number ∷ [] → after.theorems ≡ state.theorems ++ sequent ∷ []
      → sequent_at journal.entries number ≡ sequent → TheoremsStand old state → TheoremsStand new after
  theorems-more old new state after number sequent one two at stands = record {
    count = ap length one ∙ length_push old.theorems number ∙ ap (λ n. n + 1) stands.count ∙ sym (length_push state.theorems sequent) ∙ ap length (sym two);
    stand = λ place other there. ap (λ l. slice_get l place) two ∙ go place other (get_last old.theorems number place other (ap (λ l. slice_get l place) (sym one) ∙ there));
  }
    where
      go : (place other : ℕ) → (slice_get old.theorems place ≡ Some other) ⊎ ((place ≡ length old.theorems) × (number ≡ other))
          → slice_get (state.theorems ++ sequent ∷ []) place ≡ Some (sequent_at journal.entries other)
      go place other (inl earlier) = get_earlier state.theorems (sequent ∷ []) place (sequent_at journal.entries other) (stands.stand place other earlier)
      go place other (inr last) =
          ap (slice_get (state.theorems ++ sequent ∷ [])) (last.0 ∙ stands.count) ∙ get_at_end state.theorems sequent ∙ ap Some (sym at ∙ ap (sequent_at journal.entries) last.1)

  pub covers-start : Covers [] nothing_written (first_state second_version)
  covers-start = record {
    log = record {
      run = run-start;
      version = refl;
      going_on = refl;
      types = record { count = refl; stands = λ n line there. cc };
      terms = record { count = refl; stands = λ n line there. cc };
    };
    fewer = omega arith;
    new_names = λ name new. new;
    agree = λ name kept. record { generic = refl; declared = refl };
    inside = λ one m. absurd m;
    theorems = record { count = refl; stand = λ place number there. cc };
    listed = λ number step sequent there marked. cc;
    claims = refl;
  }

  module _ (before : List JournalEntry) (entry : JournalEntry) (after : List JournalEntry) (all : journal.entries ≡ before ++ entry ∷ after) where
    abbrev here : ℕ
    here = length before

    grown_is : theory_of (before ++ entry ∷ []) ≡ added_by entry ++ theory_of before
    grown_is = grown_by-last [] before entry

    whole_theory : journal.theory ≡ grown_by (added_by entry ++ theory_of before) after
    whole_theory = is.theory ∙ ap theory_of all ∙ grown_by-append [] before (entry ∷ after)

    legal_here : IsLegal (added_by entry ++ theory_of before)
    legal_here = legal_before (added_by entry ++ theory_of before) after (subst IsLegal whole_theory is.legal)

    room_here : nat_le (length (added_by entry ++ theory_of before)) DEFINITIONS_LIMIT ≡ true
    room_here = room_before (added_by entry ++ theory_of before) after (ap (λ (t : Theory). nat_le (length t) DEFINITIONS_LIMIT) (sym whole_theory) ∙ is.within_limit)

    in_journal : (number : ℕ) (other : JournalEntry) → slice_get before number ≡ Some other → slice_get journal.entries number ≡ Some other
    in_journal number other there = ap (λ l. slice_get l number) all ∙ get_earlier before (entry ∷ after) number other there

    entry_at : (front : List JournalEntry) → slice_get (front ++ entry ∷ after) (length front) ≡ Some entry
    entry_at [] = refl
    entry_at (first ∷ front) = entry_at front

    entry_here : slice_get journal.entries here ≡ Some entry
    entry_here = ap (λ l. slice_get l here) all ∙ entry_at before

    -- what a name of a marked entry is introduced by is marked
    names_kept : IsMarked here → (name : List ℕ) → IsMember name (names_in entry) → IsKept before name
    names_kept marked name m number other there introduced =
        (needed.marked number).1 (by_name number here other entry name ((needed.marked here).0 marked) entry_here m (in_journal number other there) introduced)

    -- an entry that is not marked is left out
    covers-less : (written : Written) (state : LogState) → ¬ (IsMarked here) → Covers before written state → Covers (before ++ entry ∷ []) written state
    covers-less written state unmarked covers = record {
      log = covers.log;
      fewer = let sum = length-append (added_by entry) (theory_of before) in let same = ap length grown_is in let less = covers.fewer in omega arith;
      new_names = λ name new. covers.new_names name (less_new (adds entry) name (ap (λ t. is_new_name t name) (sym grown_is) ∙ new));
      agree = λ name kept. subst (λ (t : Theory). Agree t state.theory name) (sym grown_is) (less_agrees (adds entry) name kept);
      inside = λ one m. subst (λ (t : Theory). IsMember one t) (sym grown_is) (IsMember-append_right one (added_by entry) (theory_of before) (covers.inside one m));
      theorems = covers.theorems;
      listed = λ number step sequent there marked. elim (get_last before entry number (derived step sequent) there) [
        | inl earlier ↦ covers.listed number step sequent earlier marked
        | inr last ↦ absurd (unmarked (subst IsMarked last.0 marked))
      ];
      claims = covers.claims;
    }
      where
        kept_before : (name : List ℕ) → IsKept (before ++ entry ∷ []) name → IsKept before name
        kept_before name kept number other there = kept number other (get_earlier before (entry ∷ []) number other there)

        less_new : (added_by entry ≡ []) ⊎ ((added : Entry) × (added_by entry ≡ added ∷ []) × (introduced_by entry ≡ Some (entry_name added))) → (name : List ℕ)
            → is_new_name (added_by entry ++ theory_of before) name ≡ true → is_new_name (theory_of before) name ≡ true
        less_new (inl none) name new = ap (λ t. is_new_name (t ++ theory_of before) name) (sym none) ∙ new
        less_new (inr one) name new = new_earlier one.0 (theory_of before) name (ap (λ t. is_new_name (t ++ theory_of before) name) (sym one.1) ∙ new)

        less_agrees : (added_by entry ≡ []) ⊎ ((added : Entry) × (added_by entry ≡ added ∷ []) × (introduced_by entry ≡ Some (entry_name added))) → (name : List ℕ)
            → IsKept (before ++ entry ∷ []) name → Agree (added_by entry ++ theory_of before) state.theory name
        less_agrees (inl none) name kept = subst (λ (t : Theory). Agree (t ++ theory_of before) state.theory name) (sym none) (covers.agree name (kept_before name kept))
        less_agrees (inr one) name kept =
            let differs : ¬ (entry_name one.0 ≡ name) = λ same. unmarked (kept here entry (get_at_end before entry) (one.2 ∙ ap Some same)) in
            subst (λ (t : Theory). Agree (t ++ theory_of before) state.theory name) (sym one.1)
            (agree_other one.0 (theory_of before) state.theory name differs (covers.agree name (kept_before name kept)))

    -- an entry that is marked is written
    covers-more : (written new : Written) (state : LogState) → Covers before written state → (done : WroteEntry here entry written new state) → Covers (before ++ entry ∷ []) new done.after
    covers-more written new state covers done = record {
      log = done.log;
      fewer =
          let sum = length-append (added_by entry) (theory_of before) in let same = ap length grown_is in
          let kept_sum = length-append (added_by entry) state.theory in let kept_same = ap length done.theory in let less = covers.fewer in omega arith;
      new_names = λ name is_new. ap (λ t. is_new_name t name) done.theory ∙ more_new (adds entry) name (ap (λ t. is_new_name t name) (sym grown_is) ∙ is_new);
      agree = λ name kept. subst (λ (t : Theory). Agree t done.after.theory name) (sym grown_is)
          (subst (λ (t : Theory). Agree (added_by entry ++ theory_of before) t name) (sym done.theory) (more_agrees (adds entry) name kept));
      inside = λ one m. subst (λ (t : Theory). IsMember one t) (sym grown_is) (elim (of_append one (added_by entry) state.theory (subst (λ (t : Theory). IsMember one t) done.theory m)) [
        | inl added ↦ IsMember-append_left one (added_by entry) (theory_of before) added
        | inr earlier ↦ IsMember-append_right one (added_by entry) (theory_of before) (covers.inside one earlier)
      ]);
      theorems = more_theorems entry entry_here done.theorems;
      listed = more_listed entry refl done.theorems;
      claims = done.claims ∙ covers.claims;
    }
      where
        more_new : (added_by entry ≡ []) ⊎ ((added : Entry) × (added_by entry ≡ added ∷ []) × (introduced_by entry ≡ Some (entry_name added))) → (name : List ℕ)
            → is_new_name (added_by entry ++ theory_of before) name ≡ true → is_new_name (added_by entry ++ state.theory) name ≡ true
        more_new (inl none) name is_new =
            ap (λ t. is_new_name (t ++ state.theory) name) none ∙ covers.new_names name (ap (λ t. is_new_name (t ++ theory_of before) name) (sym none) ∙ is_new)
        more_new (inr one) name is_new =
            let here_new : is_new_name (one.0 ∷ theory_of before) name ≡ true = ap (λ t. is_new_name (t ++ theory_of before) name) (sym one.1) ∙ is_new in
            ap (λ t. is_new_name (t ++ state.theory) name) one.1
            ∙ new_both one.0 (theory_of before) state.theory name here_new (covers.new_names name (new_earlier one.0 (theory_of before) name here_new))

        more_agrees : (added_by entry ≡ []) ⊎ ((added : Entry) × (added_by entry ≡ added ∷ []) × (introduced_by entry ≡ Some (entry_name added))) → (name : List ℕ)
            → IsKept (before ++ entry ∷ []) name → Agree (added_by entry ++ theory_of before) (added_by entry ++ state.theory) name
        more_agrees (inl none) name kept =
            subst (λ (t : Theory). Agree (t ++ theory_of before) (t ++ state.theory) name) (sym none)
            (covers.agree name (λ number other there. kept number other (get_earlier before (entry ∷ []) number other there)))
        more_agrees (inr one) name kept =
            subst (λ (t : Theory). Agree (t ++ theory_of before) (t ++ state.theory) name) (sym one.1)
            (agree_both one.0 (theory_of before) state.theory name (covers.agree name (λ number other there. kept number other (get_earlier before (entry ∷ []) number other there))))

        more_theorems : (e : JournalEntry) → slice_get journal.entries here ≡ Some e → TheoremsAfter here e written new state done.after → TheoremsStand new done.after
        more_theorems (derived step sequent) at changed =
            theorems-more written new state done.after here sequent changed.0 changed.1 (ap derived_sequent at) covers.theorems
        more_theorems (steps.declared_type name) at changed = theorems-same written new state done.after changed.0 changed.1 covers.theorems
        more_theorems (declared_constant name ty) at changed = theorems-same written new state done.after changed.0 changed.1 covers.theorems

        more_listed : (e : JournalEntry) → entry ≡ e → TheoremsAfter here e written new state done.after → (number : ℕ) (step : Step) (sequent : Sequent)
            → slice_get (before ++ entry ∷ []) number ≡ Some (derived step sequent) → IsMarked number → list_any (λ other. number == other) new.theorems ≡ true
        more_listed (derived one first) same changed number step sequent there marked =
            ap (list_any (λ other. number == other)) changed.0 ∙ elim (get_last before entry number (derived step sequent) there) [
              | inl earlier ↦ still_there (λ other. number == other) written.theorems (here ∷ []) (covers.listed number step sequent earlier marked)
              | inr last ↦ last_there (λ other. number == other) written.theorems here ((Decides-eqb number here).1 last.0)
            ]
        more_listed (steps.declared_type name) same changed number step sequent there marked =
            ap (list_any (λ other. number == other)) changed.0 ∙ elim (get_last before entry number (derived step sequent) there) [
              | inl earlier ↦ covers.listed number step sequent earlier marked
              | inr last ↦ absurd (no_theorem_type name step sequent (sym same ∙ last.1))
            ]
        more_listed (declared_constant name ty) same changed number step sequent there marked =
            ap (list_any (λ other. number == other)) changed.0 ∙ elim (get_last before entry number (derived step sequent) there) [
              | inl earlier ↦ covers.listed number step sequent earlier marked
              | inr last ↦ absurd (no_theorem_constant name ty step sequent (sym same ∙ last.1))
            ]

  -- what the theory of the journal knows of a marked entry, the log's theory knows
  agrees_on : (before : List JournalEntry) (entry : JournalEntry) (after : List JournalEntry) (all : journal.entries ≡ before ++ entry ∷ after) → IsMarked (length before)
      → (written : Written) (state : LogState) → Covers before written state → (names : List (List ℕ)) → ((name : List ℕ) → IsMember name names → IsMember name (names_in entry))
      → AgreeOn (theory_of before) state.theory names
  agrees_on before entry after all marked written state covers names inside name m = covers.agree name (names_kept before entry after all marked name (inside name m))

  -- the log's theory has room
  has_room : (before : List JournalEntry) (entry : JournalEntry) (after : List JournalEntry) (all : journal.entries ≡ before ++ entry ∷ after)
      → (written : Written) (state : LogState) → Covers before written state → nat_le (length (added_by entry) + length state.theory) DEFINITIONS_LIMIT ≡ true
  has_room before entry after all written state covers =
      let sum = length-append (added_by entry) (theory_of before) in let less = covers.fewer in
      less_fits (length (added_by entry) + length state.theory) (length (added_by entry ++ theory_of before)) DEFINITIONS_LIMIT (omega arith) (room_here before entry after all)

  has_room_now : (before : List JournalEntry) (entry : JournalEntry) (after : List JournalEntry) (all : journal.entries ≡ before ++ entry ∷ after)
      → (written : Written) (state : LogState) → Covers before written state → HasRoom state
  has_room_now before entry after all written state covers =
      less_fits (length state.theory) (length (added_by entry) + length state.theory) DEFINITIONS_LIMIT (omega arith) (has_room before entry after all written state covers)

  writes_derived : (before : List JournalEntry) (step : Step) (sequent : Sequent) (after : List JournalEntry) (all : journal.entries ≡ before ++ derived step sequent ∷ after)
      → IsMarked (length before) → (written : Written) (state : LogState) → Covers before written state
      → WroteEntry (length before) (derived step sequent) written (write_entry (length before) (derived step sequent) written) state
  writes_derived before step sequent after all marked written state covers =
      let entry = derived step sequent in
      let number = length before in
      let follows = is.entries_follow before entry after all in
      let room = has_room_now before entry after all written state covers in
      let known_types : (ty : HolType) → IsMember ty (types_of step) → IsKnownTypeWithin state.theory ty = λ ty m.
      type_kept (theory_of before) state.theory ty
      (agrees_on before entry after all marked written state covers (names_in_type ty)
      (λ name n. IsMember-append_right name (flat_map names_in_term (terms_of step)) (flat_map names_in_type (types_of step)) (in_flat_map names_in_type ty (types_of step) name m n)))
      (follows.knows.types ty m) in
      let known_terms : (term : NamedTerm) → IsMember term (terms_of step) → IsKnownWithin state.theory term = λ term m.
      term_kept (theory_of before) state.theory term
      (agrees_on before entry after all marked written state covers (names_in_term term)
      (λ name n. IsMember-append_left name (flat_map names_in_term (terms_of step)) (flat_map names_in_type (types_of step)) (in_flat_map names_in_term term (terms_of step) name m n)))
      (follows.knows.terms term m) in
      let w1 = write_types (types_of step) written in
      let one = writes_types (types_of step) written state covers.log room known_types in
      let s1 = one.wrote.after in
      let w2 = write_terms (terms_of step) w1 in
      let two = writes_terms (terms_of step) w1 s1 one.wrote.log (room_later state s1 one.wrote.theory room) (λ term m. known_later term state s1 one.wrote.theory (known_terms term m)) in
      let s2 = two.wrote.after in
      let both_wrote = wrote-twice written w1 w2 state one.wrote two.wrote in
      let stands = theorems-same written w2 state s2 both_wrote.written_theorems both_wrote.theorems covers.theorems in
      let names : NamesParts before step s2 (numbering w2) = record {
        types = λ ty m. names_type w2 s2 two.wrote.log ty (stays_type w1.types w2.types two.wrote.types ty (one.has ty m)).has;
        terms = λ term m. names_term w2 s2 two.wrote.log term (two.has term m);
        theorems = λ cited m.
            let there = follows.cites cited m in
            let in_all = in_journal before entry after all cited (derived there.step there.sequent) there.there in
            let cited_marked = (needed.marked cited).1 (by_citation cited number step sequent ((needed.marked number).0 marked) (entry_here before entry after all) m) in
            let listed = covers.listed cited there.step there.sequent there.there cited_marked in
            let named = names_entry w2 s2 cited stands (ap (list_any (λ other. cited == other)) both_wrote.written_theorems ∙ listed) in
            record { there = named.there; is = named.is ∙ ap derived_sequent in_all ∙ sym (ap derived_sequent there.there) };
      } in
      let going : MayGoOn (theory_of before) s2 = record {
        is_not_ended = two.wrote.log.going_on;
        within_limit = room_later state s2 both_wrote.theory room;
        fewer = let less = covers.fewer in let same = ap length both_wrote.theory in omega arith;
        new_names = λ name new. ap (λ t. is_new_name t name) both_wrote.theory ∙ covers.new_names name new;
      } in
      let line = theorem_line (line_of (numbering w2) step) in
      let accepted = follows.gives.accepted s2 (numbering w2) going names in
      let logged = log-more w2 s2 line two.wrote.log (record { types = refl; terms = refl; ends = refl }) (λ named. accepted) in
      record {
        after = after_line s2 line;
        log = relisted (with_line line w2) (with_theorem number step w2) (after_line s2 line) refl refl refl logged;
        theory = (λ i. rule_adds before step sequent (theory_of before) s2 (numbering w2) follows.knows names i ++ both_wrote.theory i);
        claims = append-nil s2.claims ∙ both_wrote.claims;
        theorems = (ap (λ l. l ++ number ∷ []) both_wrote.written_theorems, (λ i. both_wrote.theorems i ++ follows.gives.gives s2 (numbering w2) names i ∷ []));
      }

  writes_type_entry : (before : List JournalEntry) (name : List ℕ) (after : List JournalEntry) (all : journal.entries ≡ before ++ steps.declared_type name ∷ after)
      → (written : Written) (state : LogState) → Covers before written state
      → WroteEntry (length before) (steps.declared_type name) written (write_entry (length before) (steps.declared_type name) written) state
  writes_type_entry before name after all written state covers =
      let entry = steps.declared_type name in
      let legal = (legal_here before entry after all).0 in
      let line = new_type_line name in
      let new = covers.new_names name ((is_new_name-Decides (theory_of before) name).1 legal.is_new) in
      let accepted = faultless state line (record {
        shape = ap is_first_version covers.log.version;
        number = refl;
        name = ap not (both (is_declared_type_name name) (is_new_name state.theory name) legal.is_name new);
        type_fits = refl;
        constant = refl;
        rule = refl;
        claim = refl;
        size = ap not (has_room before entry after all written state covers);
        end = covers.log.going_on;
      }) in
      record {
        after = after_line state line;
        log = log-more written state line covers.log (record { types = refl; terms = refl; ends = refl }) (λ named. accepted);
        theory = refl;
        claims = append-nil state.claims;
        theorems = (refl, append-nil state.theorems);
      }

  writes_constant_entry : (before : List JournalEntry) (name : List ℕ) (ty : HolType) (after : List JournalEntry) (all : journal.entries ≡ before ++ declared_constant name ty ∷ after)
      → IsMarked (length before) → (written : Written) (state : LogState) → Covers before written state
      → WroteEntry (length before) (declared_constant name ty) written (write_entry (length before) (declared_constant name ty) written) state
  writes_constant_entry before name ty after all marked written state covers =
      let entry = declared_constant name ty in
      let legal = (legal_here before entry after all).0 in
      let room = has_room_now before entry after all written state covers in
      let known : IsKnownTypeWithin (theory_of before) ty = record { known = (knows_type-Decides (theory_of before) ty).1 legal.known; fits = is.entries_follow before entry after all } in
      let kept = type_kept (theory_of before) state.theory ty (agrees_on before entry after all marked written state covers (names_in_type ty) (λ other m. m)) known in
      let w1 = write_type ty written in
      let one = writes_type ty written state covers.log room kept in
      let s1 = one.wrote.after in
      let named_type = names_type w1 s1 one.wrote.log ty one.has in
      let number = number_of_type w1 ty in
      let line = new_constant_line name number in
      let new = ap (λ t. is_new_name t name) one.wrote.theory ∙ covers.new_names name ((is_new_name-Decides (theory_of before) name).1 legal.is_new) in
      let room_after = ap (λ (t : Theory). nat_le (1 + length t) DEFINITIONS_LIMIT) one.wrote.theory ∙ has_room before entry after all written state covers in
      let accepted = faultless s1 line (record {
        shape = ap is_first_version one.wrote.log.version;
        number = named_type.there;
        name = ap not (both (is_constant_name name) (is_new_name s1.theory name) legal.is_name new);
        type_fits = refl;
        constant = refl;
        rule = ap (λ t. not (is_fixed t)) named_type.is ∙ ap not ((is_fixed-Decides ty).1 legal.fixed);
        claim = refl;
        size = ap not room_after;
        end = one.wrote.log.going_on;
      }) in
      record {
        after = after_line s1 line;
        log = log-more w1 s1 line one.wrote.log (record { types = refl; terms = refl; ends = refl }) (λ named. accepted);
        theory = λ i. declaration_of_constant name (named_type.is i) ∷ one.wrote.theory i;
        claims = append-nil s1.claims ∙ one.wrote.claims;
        theorems = (one.wrote.written_theorems, append-nil s1.theorems ∙ one.wrote.theorems);
      }

  writes_entry : (before : List JournalEntry) (entry : JournalEntry) (after : List JournalEntry) (all : journal.entries ≡ before ++ entry ∷ after) → IsMarked (length before)
      → (written : Written) (state : LogState) → Covers before written state → WroteEntry (length before) entry written (write_entry (length before) entry written) state
  writes_entry before (derived step sequent) after all marked written state covers = writes_derived before step sequent after all marked written state covers
  writes_entry before (steps.declared_type name) after all marked written state covers = writes_type_entry before name after all written state covers
  writes_entry before (declared_constant name ty) after all marked written state covers = writes_constant_entry before name ty after all marked written state covers

  -- all entries
  pub record CoversAll (written : Written) : Type 0 where
    pub state : LogState
    pub covers : Covers journal.entries written state

  next_all : (before : List JournalEntry) (entry : JournalEntry) (after : List JournalEntry) → journal.entries ≡ before ++ entry ∷ after → journal.entries ≡ (before ++ entry ∷ []) ++ after
  next_all before entry after all = all ∙ sym (append_assoc before (entry ∷ []) after)

  -- the marks that are left
  abbrev IsLeft : List JournalEntry → List Bool → Type 0
  IsLeft before left = (number : ℕ) → slice_get marks (length before + number) ≡ slice_get left number

  next_left : (before : List JournalEntry) (entry : JournalEntry) (mark : Bool) (left : List Bool) → IsLeft before (mark ∷ left) → IsLeft (before ++ entry ∷ []) left
  next_left before entry mark left is_left number =
      let longer = length_push before entry in
      let same : length (before ++ entry ∷ []) + number ≡ length before + suc number = omega arith in
      ap (slice_get marks) same ∙ is_left (suc number)

  mark_here : (before : List JournalEntry) (left : List Bool) → IsLeft before left → slice_get marks (length before) ≡ slice_get left 0
  mark_here before left is_left = let same : length before ≡ length before + 0 = omega arith in ap (slice_get marks) same ∙ is_left 0

  pub writes_entries : (before after : List JournalEntry) (left : List Bool) (number : ℕ) → number ≡ length before → journal.entries ≡ before ++ after → IsLeft before left
      → (written : Written) (state : LogState) → Covers before written state → CoversAll (write_entries number after left written)
  writes_entries before [] left number at all is_left written state covers =
      record { state = state; covers = subst (λ (es : List JournalEntry). Covers es written state) (sym (all ∙ append-nil before)) covers }
  writes_entries before (entry ∷ after) [] number at all is_left written state covers = none_left before (entry ∷ after) all is_left written state covers
    where
      none_left : (front rest : List JournalEntry) → journal.entries ≡ front ++ rest → IsLeft front [] → (w : Written) (s : LogState) → Covers front w s → CoversAll w
      none_left front [] whole left_is w s c = record { state = s; covers = subst (λ (es : List JournalEntry). Covers es w s) (sym (whole ∙ append-nil front)) c }
      none_left front (e ∷ rest) whole left_is w s c =
          let unmarked : ¬ (IsMarked (length front)) = λ marked. no_mark (sym (mark_here front [] left_is) ∙ marked) in
          let longer = length_push front e in
          none_left (front ++ e ∷ []) rest (next_all front e rest whole)
          (λ n. let same : length (front ++ e ∷ []) + n ≡ length front + suc n = omega arith in ap (slice_get marks) same ∙ left_is (suc n)) w s
          (covers-less front e rest whole w s unmarked c)
        where
          no_mark : slice_get {X = Bool} [] 0 ≡ Some true → ⊥
          no_mark none = cc
  writes_entries before (entry ∷ after) (true ∷ left) number at all is_left written state covers =
      let marked : IsMarked (length before) = mark_here before (true ∷ left) is_left in
      let done = writes_entry before entry after all marked written state covers in
      let next = subst (λ n. Covers (before ++ entry ∷ []) (write_entry n entry written) done.after) (sym at)
      (covers-more before entry after all written (write_entry (length before) entry written) state covers done) in
      let longer = length_push before entry in
      writes_entries (before ++ entry ∷ []) after left (number + 1) (omega arith) (next_all before entry after all) (next_left before entry true left is_left)
      (write_entry number entry written) done.after next
  writes_entries before (entry ∷ after) (false ∷ left) number at all is_left written state covers =
      let unmarked : ¬ (IsMarked (length before)) = λ marked. other_mark (sym (mark_here before (false ∷ left) is_left) ∙ marked) in
      let longer = length_push before entry in
      writes_entries (before ++ entry ∷ []) after left (number + 1) (omega arith) (next_all before entry after all) (next_left before entry false left is_left)
      written state (covers-less before entry after all written state unmarked covers)
    where
      other_mark : slice_get (false ∷ left) 0 ≡ Some true → ⊥
      other_mark same = cc

  pub entries_written : CoversAll (write_entries 0 journal.entries marks nothing_written)
  entries_written = writes_entries [] journal.entries marks 0 refl refl
      (λ number. let same : 0 + number ≡ number = omega arith in ap (slice_get marks) same) nothing_written (first_state second_version) covers-start

  pub room_of : (written : Written) (state : LogState) → Covers journal.entries written state → HasRoom state
  room_of written state covers =
      let less = covers.fewer in let same = ap length is.theory in
      less_fits (length state.theory) (length journal.theory) DEFINITIONS_LIMIT (omega arith) is.within_limit
