-- The pairs of instances, one after another.
use Rattle.std.proofs.Common.{◌≡◌, ℕ, ◌+◌, ◌<◌, List, [], ◌∷◌, length, drop, get_or, Bool, ◌&&◌, refl, sym, ◌∙◌, ap, drop-cons, add-one}
use Rattle.std.specs.List.{All, list_all}
use Rattle.std.proofs.lemmas.Option.{slice_get-get_or}
use Rattle.std.proofs.lemmas.List.Elements.{All-head, All-tail, All-get_or}
use Rattle.hol_model.specs.Terms.HolType.{HolType, bool_type, type_instance_of}
use Rattle.hol_model.specs.Terms.Nameless.{Nameless, bound}
use Rattle.hol_model.specs.Terms.Substitution.{put, instantiate}
use Rattle.hol_model.specs.Logs.LogSequents.{term_instance_of}
use Rattle.hol_model.specs.Logs.LogFaults.{is_replacement}
use Rattle.hol_check_terms.specs.Terms.{TermTable, term_at, IsGrown}
use Rattle.hol_check_changes.specs.Pairs.{ArePairs}
use Rattle.hol_check_changes.specs.Change.{changed, putting, instantiating}
use Rattle.hol_check_rules.specs.StepPairs.{term_pairs_in, type_pairs_in, IsFittingPair, IsTypePair}
use Rattle.hol_check_changes.proofs.ChangeLemmas.{changed-putting, changed-instantiating}
use Rattle.hol_check_terms.proofs.GrowthLemmas.{term-grown}

-- a list from one of its elements on
pub drop-pair : (pairs : List (ℕ × ℕ)) (index : ℕ) (d : ℕ × ℕ) → index < length pairs → drop index pairs ≡ get_or pairs index d ∷ drop (index + 1) pairs
drop-pair pairs index d within = drop-cons pairs index d within ∙ rw add-one refl

pub record AreReplacedSoFar (earlier now : TermTable) (pairs : List (ℕ × ℕ)) (index : ℕ) : Type 0 where
  pub grows : IsGrown earlier now
  pub rest : list_all is_replacement (term_pairs_in earlier.terms pairs) ≡ list_all is_replacement (term_pairs_in earlier.terms (drop index pairs))

-- the numbers of pairs name their values
pub are-term-pairs : (terms : List Nameless) (pairs : List (ℕ × ℕ)) → All (IsFittingPair terms) pairs → ArePairs terms pairs (term_pairs_in terms pairs)
are-term-pairs terms [] fitting = tt
are-term-pairs terms (pair ∷ pairs) fitting =
    let first = All-head (IsFittingPair terms) pair pairs fitting in
    (slice_get-get_or terms pair.0 (bound 0) first.new.within, slice_get-get_or terms pair.1 (bound 0) first.old.within, are-term-pairs terms pairs (All-tail (IsFittingPair terms) pair pairs fitting))

pub are-type-pairs : (types : List HolType) (pairs : List (ℕ × ℕ)) → All (IsTypePair types) pairs → ArePairs types pairs (type_pairs_in types pairs)
are-type-pairs types [] within = tt
are-type-pairs types (pair ∷ pairs) within =
    let first = All-head (IsTypePair types) pair pairs within in
    (slice_get-get_or types pair.0 bool_type first.new, slice_get-get_or types pair.1 bool_type first.old, are-type-pairs types pairs (All-tail (IsTypePair types) pair pairs within))

-- one more pair

pub replaced-more : (t0 t1 : TermTable) (pairs : List (ℕ × ℕ)) (index : ℕ) (d : ℕ × ℕ) (answer : Bool) → IsGrown t0 t1 → index < length pairs → All (IsFittingPair t0.terms) pairs
    → list_all is_replacement (term_pairs_in t0.terms pairs) ≡ list_all is_replacement (term_pairs_in t0.terms (drop index pairs))
    → answer ≡ is_replacement (term_at t1.terms (get_or pairs index d).0, term_at t1.terms (get_or pairs index d).1)
    → list_all is_replacement (term_pairs_in t0.terms pairs) ≡ (answer && list_all is_replacement (term_pairs_in t0.terms (drop (index + 1) pairs)))
replaced-more t0 t1 pairs index d answer grows within fitting so_far is =
    let pair = get_or pairs index d in
    let here = All-get_or (IsFittingPair t0.terms) pairs index d within fitting in
    let same : answer ≡ is_replacement (term_at t0.terms pair.0, term_at t0.terms pair.1) =
    is ∙ (λ i. is_replacement (term-grown t0 t1 pair.0 grows here.new.within i, term-grown t0 t1 pair.1 grows here.old.within i)) in
    so_far ∙ (ap (λ l. list_all is_replacement (term_pairs_in t0.terms l)) (drop-pair pairs index d within)
    ∙ ap (λ b. b && list_all is_replacement (term_pairs_in t0.terms (drop (index + 1) pairs))) (sym same))

-- what the changes are

pub putting-is : (pairs : List (Nameless × Nameless)) → changed (putting (term_instance_of pairs)) 0 ≡ put (term_instance_of pairs)
putting-is pairs = λ i t. changed-putting (term_instance_of pairs) 0 t i

pub instantiating-is : (pairs : List (HolType × HolType)) → changed (instantiating (type_instance_of pairs)) 0 ≡ instantiate (type_instance_of pairs)
instantiating-is pairs = λ i t. changed-instantiating (type_instance_of pairs) 0 t i
