-- What a step answers, from what was made for it.
use Rattle.std.proofs.Common.{◌≡◌, ℕ, ◌+◌, ◌<◌, List, [], ◌∷◌, ◌++◌, map, length, take, drop, get_or, Bool, true, false, not, ◌&&◌, ◌||◌, refl, sym, ◌∙◌, ap, subst, inl, inr, None, Some, Result}
use Rattle.std.proofs.Common.{Ok, Err, if◌then◌else◌, arith}
use Rattle.std.proofs.lemmas.Option.{slice_get-get_or}
use Rattle.std.specs.List.{All, list_all}
use Rattle.std.proofs.lemmas.List.Elements.{All-head, All-tail, All-append, All-cons, All-get_or}
use Rattle.std.proofs.lemmas.List.{take_more, take-append-drop, map-append}
use Rattle.std.specs.declared.cmp.Ordering.{Ordering}
use Rattle.std.specs.declared.cmp.Ordering.TheVariants.{Less, Equal, Greater}
use Rattle.hol_model.specs.declared.fault.Fault.{Fault}
use Rattle.hol_model.specs.declared.fault.Fault.TheVariants.{TooLarge}
use Rattle.hol_model.specs.declared.fault.Cause.{Cause}
use Rattle.hol_model.specs.declared.fault.Cause.TheVariants.{Large}
use Rattle.hol_model.specs.Terms.Nameless.{Nameless, bound, nameless_cmp}
use Rattle.hol_model.specs.Terms.Measures.{nameless_within_limits}
use Rattle.hol_model.specs.Kernel.Theorem.{by_order}
use Rattle.hol_model.specs.Goals.Goals.{Sequent}
use Rattle.hol_model.specs.Logs.LogState.{with_term, with_terms, set_of}
use Rattle.hol_model.specs.Logs.LogSequents.{supposing}
use Rattle.hol_model.specs.Logs.LogFaults.{sequent_fits}
use Rattle.hol_model.proofs.Terms.Orders.{same_from_nameless_cmp}
use Rattle.hol_check_changes.specs.Change.{PartChange, changed, IsMeant, IsMade}
use Rattle.hol_check_changes.specs.declared.leaves.Change.{Change}
use Rattle.hol_check_terms.specs.Terms.{TermTable, term_at, IsGrown}
use Rattle.hol_check_rules.specs.Hypotheses.{terms_in, AreOrdered}
use Rattle.hol_check_rules.specs.Steps.{AreInOrder, AreFormed, step_cause, ruled, typed, plain, Takes}
use Rattle.hol_check_rules.specs.declared.state.Theorem.{Theorem}
use Rattle.hol_check_changes.specs.Forming.{IsFormed, IsFitting}
use Rattle.hol_check_terms.proofs.TableLemmas.{is_within}
use Rattle.hol_check_rules.proofs.HypothesesLemmas.{drop-here}
use Rattle.hol_check_rules.proofs.OrderLemmas.{set_of-ordered}
use Rattle.hol_check_changes.proofs.LimitLemmas.{second-fails}
use Rattle.hol_check_rules.proofs.StateLemmas.{fitting-grown, terms-still, All-weaker}
use Rattle.hol_check_terms.proofs.GrowthLemmas.{term-there, term-grown, place-grown}

-- limits of sequents

pub all-fit : (terms : List Nameless) (numbers : List ℕ) → All (IsFitting terms) numbers → list_all nameless_within_limits (terms_in terms numbers) ≡ true
all-fit terms [] fitting = refl
all-fit terms (n ∷ numbers) fitting =
    let first = All-head (IsFitting terms) n numbers fitting in
    let rest = all-fit terms numbers (All-tail (IsFitting terms) n numbers fitting) in
    ap (λ b. b && list_all nameless_within_limits (terms_in terms numbers)) first.fits ∙ rest

fits-conclusion : (hypotheses : List Nameless) (conclusion : Nameless) → list_all nameless_within_limits hypotheses ≡ true → nameless_within_limits conclusion ≡ true
    → (nameless_within_limits conclusion && list_all nameless_within_limits hypotheses) ≡ true
fits-conclusion hypotheses conclusion all fits = ap (λ b. b && list_all nameless_within_limits hypotheses) fits ∙ all

pub no_cause : (sequent : Sequent) → sequent_fits sequent ≡ true → step_cause (plain sequent) ≡ None
no_cause sequent fits = ap (λ b. if not b then Some Large else None) fits

pub large_cause : (sequent : Sequent) → sequent_fits sequent ≡ false → step_cause (plain sequent) ≡ Some Large
large_cause sequent past = ap (λ b. if not b then Some Large else None) past

-- the hypotheses and the conclusion that were made are those of the step

pub concluded : (earlier now : TermTable) (theorem : Theorem) (wanted : List Nameless) (formed : Nameless) → IsGrown earlier now → AreInOrder earlier.terms theorem.hypotheses.items wanted →
    IsFormed formed (Ok theorem.conclusion) now.terms
    → Takes (plain (supposing wanted formed)) (Ok (Ok theorem)) now.terms
concluded earlier now theorem wanted formed grows order made =
    let still : terms_in now.terms theorem.hypotheses.items ≡ set_of wanted = terms-still earlier now grows theorem.hypotheses.items order.fitting ∙ order.named in
    let conclusion_is : term_at now.terms theorem.conclusion ≡ formed = term-there now.terms theorem.conclusion formed made.number in
    let all : list_all nameless_within_limits (set_of wanted) ≡ true = subst (λ l. list_all nameless_within_limits l ≡ true) order.named
    (all-fit earlier.terms theorem.hypotheses.items order.fitting) in
    record {
      taken = (
        no_cause (supposing wanted formed) (fits-conclusion (set_of wanted) formed all made.fits),
        (λ i. record { hypotheses = still i; conclusion = conclusion_is i }),
        record {
          hypotheses = All-weaker (IsFitting earlier.terms) (IsFitting now.terms) (fitting-grown earlier now grows) theorem.hypotheses.items order.fitting;
          ordered = subst AreOrdered (sym still) (set_of-ordered wanted);
          conclusion = record { within = is_within now.terms theorem.conclusion formed made.number; fits = ap nameless_within_limits conclusion_is ∙ made.fits };
        },
      );
      refused = tt;
    }

-- conditions that hold

pub ruled-taken : (fault : Bool) (sequent : Sequent) (result : Result (Result Theorem Cause) Fault) (terms : List Nameless) → fault ≡ false → Takes (plain sequent) result terms →
    Takes (ruled fault sequent) result terms
ruled-taken fault sequent result terms passes takes = subst (λ b. Takes (ruled b sequent) result terms) (sym passes) takes

pub typed-taken : (unfit fault : Bool) (sequent : Sequent) (result : Result (Result Theorem Cause) Fault) (terms : List Nameless) → unfit ≡ false → fault ≡ false →
    Takes (plain sequent) result terms → Takes (typed unfit fault sequent) result terms
typed-taken unfit fault sequent result terms fit passes takes = subst (λ b. Takes (typed b fault sequent) result terms) (sym fit) (ruled-taken fault sequent result terms passes takes)

pub not-both : (p q : Bool) → p ≡ true → q ≡ true → not (p && q) ≡ false
not-both p q first second = grind arith

pub neither : (p q : Bool) → p ≡ true → q ≡ false → (not p || q) ≡ false
neither p q first second = grind arith

pub both-but : (p q : Bool) → q ≡ true → (p && not q) ≡ false
both-but true q second = ap not second
both-but false q second = refl

-- a term within the limits is formed
pub formed-earlier : (earlier now : TermTable) (n : ℕ) → IsGrown earlier now → IsFitting earlier.terms n → IsFormed (term_at earlier.terms n) (Ok n) now.terms
formed-earlier earlier now n grows fitting = record {
  number = place-grown earlier now n (term_at earlier.terms n) grows (slice_get-get_or earlier.terms n (bound 0) fitting.within);
  fits = fitting.fits;
  refused = tt;
}

pub refused-made : (wanted : Nameless) (fault : Fault) (terms : List Nameless) → IsMade wanted (Err fault) terms → IsFormed wanted (Err fault) terms
refused-made wanted fault terms made = record { number = tt; fits = tt; refused = made.refused }

-- changes of terms

-- a list of terms with a further one that passes a limit
some-past : (xs ys : List Nameless) (x : Nameless) → nameless_within_limits x ≡ false → list_all nameless_within_limits (xs ++ x ∷ ys) ≡ false
some-past [] ys x past = ap (λ b. b && list_all nameless_within_limits ys) past
some-past (z ∷ xs) ys x past = second-fails (nameless_within_limits z) (list_all nameless_within_limits (xs ++ x ∷ ys)) (some-past xs ys x past)

-- what is changed of a list, as far as this place
pub record AreChanged (f : Nameless → Nameless) (earlier now : List Nameless) (list news : List ℕ) (index : ℕ) : Type 0 where
  pub named : terms_in now news ≡ map f (terms_in earlier (take index list))
  pub fitting : All (IsFitting now) news

pub record AreChangedBy (change : Change) (earlier now : TermTable) (list news : List ℕ) (index : ℕ) : Type 0 where
  pub grows : IsGrown earlier now
  pub changed : (meaning : PartChange) → IsMeant earlier change meaning → AreChanged (changed meaning 0) earlier.terms now.terms list news index

map-taken : (f : Nameless → Nameless) (terms : List Nameless) (list : List ℕ) (index : ℕ) → index < length list
    → map f (terms_in terms (take (index + 1) list)) ≡ map f (terms_in terms (take index list)) ++ f (term_at terms (get_or list index 0)) ∷ []
map-taken f terms list index within =
    ap (λ l. map f (terms_in terms l)) (take_more list index 0 within)
    ∙ (ap (map f) (map-append (term_at terms) (take index list) (get_or list index 0 ∷ []))
    ∙ map-append f (terms_in terms (take index list)) (term_at terms (get_or list index 0) ∷ []))

pub changed-more : (f : Nameless → Nameless) (t0 t1 t2 : TermTable) (list news : List ℕ) (index new : ℕ) → IsGrown t0 t1 → IsGrown t1 t2 → All (IsFitting t0.terms) list → index < length list
    → AreChanged f t0.terms t1.terms list news index → IsFormed (f (term_at t1.terms (get_or list index 0))) (Ok new) t2.terms → AreChanged f t0.terms t2.terms list (news ++ new ∷ []) (index + 1)
changed-more f t0 t1 t2 list news index new first second all within so_far made =
    let x = get_or list index 0 in
    let same : term_at t1.terms x ≡ term_at t0.terms x = term-grown t0 t1 x first (All-get_or (IsFitting t0.terms) list index 0 within all).within in
    let there = term-there t2.terms new (f (term_at t1.terms x)) made.number in
    let here : IsFitting t2.terms new = record { within = is_within t2.terms new (f (term_at t1.terms x)) made.number; fits = ap nameless_within_limits there ∙ made.fits } in
    record {
      named =
          map-append (term_at t2.terms) news (new ∷ [])
          ∙ ((λ i. (terms-still t1 t2 second news so_far.fitting ∙ so_far.named) i ++ (there ∙ ap f same) i ∷ [])
          ∙ sym (map-taken f t0.terms list index within));
      fitting = All-append (IsFitting t2.terms) news (new ∷ []) (All-weaker (IsFitting t1.terms) (IsFitting t2.terms) (fitting-grown t1 t2 second) news so_far.fitting)
          (All-cons (IsFitting t2.terms) new [] here (λ k d within. absurd (omega arith)));
    }

-- a member that passes a limit makes the whole list pass it
pub changed-refused : (f : Nameless → Nameless) (t0 t1 : TermTable) (list : List ℕ) (index : ℕ) → IsGrown t0 t1 → All (IsFitting t0.terms) list → index < length list
    → nameless_within_limits (f (term_at t1.terms (get_or list index 0))) ≡ false → list_all nameless_within_limits (map f (terms_in t0.terms list)) ≡ false
changed-refused f t0 t1 list index first all within past =
    let x = get_or list index 0 in
    let same : term_at t1.terms x ≡ term_at t0.terms x = term-grown t0 t1 x first (All-get_or (IsFitting t0.terms) list index 0 within all).within in
    let parts : map f (terms_in t0.terms list) ≡ map f (terms_in t0.terms (take index list)) ++ f (term_at t0.terms x) ∷ map f (terms_in t0.terms (drop (index + 1) list)) =
    ap (λ l. map f (terms_in t0.terms l)) (sym (take-append-drop index list) ∙ ap (λ l. take index list ++ l) (drop-here list index x within refl))
    ∙ (ap (map f) (map-append (term_at t0.terms) (take index list) (x ∷ drop (index + 1) list))
    ∙ map-append f (terms_in t0.terms (take index list)) (term_at t0.terms x ∷ terms_in t0.terms (drop (index + 1) list))) in
    ap (list_all nameless_within_limits) parts ∙ some-past (map f (terms_in t0.terms (take index list))) (map f (terms_in t0.terms (drop (index + 1) list))) (f (term_at t0.terms x))
    (ap (λ u. nameless_within_limits (f u)) (sym same) ∙ past)

-- hypotheses that pass a limit make the sequent pass it

past-with_term : (xs : List Nameless) (new : Nameless) → (nameless_within_limits new && list_all nameless_within_limits xs) ≡ list_all nameless_within_limits (with_term xs new)
past-with_term [] new = refl
past-with_term (x ∷ xs) new = go (nameless_cmp new x) refl (past-with_term xs new)
  where
    fits : Nameless → Bool
    fits t = nameless_within_limits t

    exchanged : (p q r s : Bool) → (p && r) ≡ s → (p && (q && r)) ≡ (q && s)
    exchanged true true r s is = is
    exchanged true false r s is = refl
    exchanged false true r s is = is
    exchanged false false r s is = refl

    twice : (p q r : Bool) → p ≡ q → (p && (q && r)) ≡ (q && r)
    twice true true r is = refl
    twice true false r is = refl
    twice false true r is = cc
    twice false false r is = refl

    go : (order : Ordering) → nameless_cmp new x ≡ order → (nameless_within_limits new && list_all nameless_within_limits xs) ≡ list_all nameless_within_limits (with_term xs new)
        → (nameless_within_limits new && (nameless_within_limits x && list_all nameless_within_limits xs)) ≡ list_all nameless_within_limits
        (by_order order (new ∷ x ∷ xs) (x ∷ xs) (x ∷ with_term xs new))
    go Less is deeper = refl
    go Equal is deeper = twice (nameless_within_limits new) (nameless_within_limits x) (list_all nameless_within_limits xs) (ap nameless_within_limits (same_from_nameless_cmp new x is))
    go Greater is deeper = exchanged (nameless_within_limits new) (nameless_within_limits x) (list_all nameless_within_limits xs) (list_all nameless_within_limits (with_term xs new)) deeper

past-with_terms : (xs ys : List Nameless) → (list_all nameless_within_limits xs && list_all nameless_within_limits ys) ≡ false → list_all nameless_within_limits (with_terms xs ys) ≡ false
past-with_terms xs [] past = drop-true (list_all nameless_within_limits xs) past
  where
    drop-true : (p : Bool) → (p && true) ≡ false → p ≡ false
    drop-true true is = is
    drop-true false is = refl
past-with_terms xs (y ∷ ys) past =
    past-with_terms (with_term xs y) ys
    (ap (λ b. b && list_all nameless_within_limits ys) (sym (past-with_term xs y)) ∙
    (moved (list_all nameless_within_limits xs) (nameless_within_limits y) (list_all nameless_within_limits ys) ∙ past))
  where
    moved : (p q r : Bool) → ((q && p) && r) ≡ (p && (q && r))
    moved true true r = refl
    moved true false r = refl
    moved false true r = refl
    moved false false r = refl

pub hypotheses-large : (now : List Nameless) (wanted : List Nameless) (formed : Nameless) → list_all nameless_within_limits wanted ≡ false →
    Takes (plain (supposing wanted formed)) (Ok (Err Large)) now
hypotheses-large now wanted formed past = record {
  taken = large_cause (supposing wanted formed) (second-fails (nameless_within_limits formed) (list_all nameless_within_limits (set_of wanted)) (past-with_terms [] wanted past));
  refused = tt;
}

-- a list that was refused for a limit passes it
pub large-only : (wanted : List Nameless) (terms : List Nameless) → AreFormed wanted (Err TooLarge) terms → list_all nameless_within_limits wanted ≡ false
large-only wanted terms formed = elim formed.refused [ inl memory ↦ cc | inr large ↦ large.1 ]
