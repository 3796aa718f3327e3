-- Terms in order, by numbers.
use Rattle.std.proofs.Common.{◌≡◌, ℕ, ◌+◌, ◌<◌, ◌||◌, List, [], ◌∷◌, ◌++◌, length, take, drop, get_or, Bool, true, false, not, refl, sym, ◌∙◌, ap, Some, if◌then◌else◌, arith, drop-cons, add-one}
use Rattle.std.proofs.Common.{append-nil}
use Rattle.std.specs.Prelude.{slice_get}
use Rattle.std.proofs.lemmas.List.{take_more, map-append}
use Rattle.std.proofs.lemmas.List.Elements.{filter-append, All-cons, All-append, All-get_or}
use Rattle.std.specs.List.{All}
use Rattle.hol_model.specs.Terms.HolType.{HolType}
use Rattle.hol_model.specs.Terms.Nameless.{Nameless, free, same_term}
use Rattle.hol_model.specs.Terms.Substitution.{occurs_free}
use Rattle.hol_model.specs.Logic.Derivable.{without}
use Rattle.hol_model.specs.Logs.LogState.{with_term, with_terms, term_type}
use Rattle.hol_model.specs.Logs.LogSequents.{variable_name}
use Rattle.hol_model.specs.Logs.LogFaults.{is_free_in_any}
use Rattle.hol_check_terms.specs.Terms.{term_at}
use Rattle.hol_check_rules.specs.Hypotheses.{terms_in}
use Rattle.hol_check_changes.specs.Forming.{IsFitting}
use Rattle.hol_check_terms.proofs.GrowthLemmas.{term-there}

-- what is kept of a list
pub record AreKept (terms : List Nameless) (term : ℕ) (list others : List ℕ) : Type 0 where
  pub fitting : All (IsFitting terms) others
  pub kept : terms_in terms others ≡ without (term_at terms term) (terms_in terms list)

pub with_terms-append : (base xs ys : List Nameless) → with_terms base (xs ++ ys) ≡ with_terms (with_terms base xs) ys
with_terms-append base [] ys = refl
with_terms-append base (x ∷ xs) ys = with_terms-append (with_term base x) xs ys

-- a list from one of its elements on
pub drop-here : (xs : List ℕ) (index x : ℕ) → index < length xs → x ≡ get_or xs index 0 → drop index xs ≡ x ∷ drop (index + 1) xs
drop-here xs index x within is = drop-cons xs index 0 within ∙ rw (← is, add-one) refl

-- one more term in which a variable is looked for
pub searched : (terms : List Nameless) (variable : ℕ) (name : List ℕ) (ty : HolType) (list : List ℕ) (index x : ℕ) (found : Bool)
    → slice_get terms variable ≡ Some (free name ty) → index < length list → x ≡ get_or list index 0 → found ≡ occurs_free name ty (term_at terms x)
    → is_free_in_any (term_at terms variable) (terms_in terms (drop index list)) ≡ (found || is_free_in_any (term_at terms variable) (terms_in terms (drop (index + 1) list)))
searched terms variable name ty list index x found there within is answered =
    let v : term_at terms variable ≡ free name ty = term-there terms variable (free name ty) there in
    ap (λ l. is_free_in_any (term_at terms variable) (terms_in terms l)) (drop-here list index x within is)
    ∙ ap (λ b. b || is_free_in_any (term_at terms variable) (terms_in terms (drop (index + 1) list)))
    (ap (λ w. occurs_free (variable_name w) (term_type w) (term_at terms x)) v ∙ sym answered)

-- one more term to keep or to leave out
without-taken : (terms : List Nameless) (term : ℕ) (list : List ℕ) (index x : ℕ) → index < length list → x ≡ get_or list index 0
    → without (term_at terms term) (terms_in terms (take (index + 1) list))
    ≡ without (term_at terms term) (terms_in terms (take index list)) ++ (if not (same_term (term_at terms x) (term_at terms term)) then term_at terms x ∷ [] else [])
without-taken terms term list index x within is =
    ap (λ l. without (term_at terms term) (terms_in terms l)) (take_more list index 0 within ∙ ap (λ y. take index list ++ y ∷ []) (sym is))
    ∙ (ap (without (term_at terms term)) (map-append (term_at terms) (take index list) (x ∷ []))
    ∙ filter-append (λ other. not (same_term other (term_at terms term))) (terms_in terms (take index list)) (term_at terms x ∷ []))

pub kept-taken : (terms : List Nameless) (term : ℕ) (list others : List ℕ) (index x : ℕ) → index < length list → x ≡ get_or list index 0 → false ≡ same_term (term_at terms x) (term_at terms term)
    → All (IsFitting terms) list → AreKept terms term (take index list) others → AreKept terms term (take (index + 1) list) (others ++ x ∷ [])
kept-taken terms term list others index x within is differ all kept = record {
  fitting = All-append (IsFitting terms) others (x ∷ []) kept.fitting (All-cons (IsFitting terms) x [] (rw is (All-get_or (IsFitting terms) list index 0 within all)) (All-none terms));
  kept = map-append (term_at terms) others (x ∷ []) ∙ (ap (λ l. l ++ term_at terms x ∷ []) kept.kept ∙ sym (without-taken terms term list index x within is ∙ rw (← differ) refl));
}
  where
    All-none : (terms : List Nameless) → All (IsFitting terms) []
    All-none terms = λ k d within. absurd (omega arith)

pub left_out-taken : (terms : List Nameless) (term : ℕ) (list others : List ℕ) (index x : ℕ) → index < length list → x ≡ get_or list index 0 → true ≡ same_term (term_at terms x) (term_at terms term)
    → AreKept terms term (take index list) others → AreKept terms term (take (index + 1) list) others
left_out-taken terms term list others index x within is same kept = record {
  fitting = kept.fitting;
  kept = kept.kept ∙ sym (without-taken terms term list index x within is ∙ rw (← same) (append-nil (without (term_at terms term) (terms_in terms (take index list)))));
}
