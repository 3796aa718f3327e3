-- A net leads to each of its patterns, and finds those that fit.
use Rattle.std.proofs.Common.{◌≡◌, ◌⊎◌, inl, inr, ℕ, zero, suc, List, [], ◌∷◌, ◌++◌, Bool, true, false, refl, ◌∙◌, ap, Option, Some, None, length, eqb, Result, Ok, Err, IfOk}
use Rattle.std.specs.Prelude.{slice_get, filter}
use Rattle.std.specs.Option.{option_map_or}
use Rattle.std.specs.List.{dedup}
use Rattle.std.specs.List.Retain.{IsFiltered, DiffersFromLast}
use Rattle.std.specs.List.Sorted.{IsPermutation, IsSorted}
use Rattle.std.specs.Ordering.{nat_cmp}
use Rattle.std.proofs.lemmas.List.Filters.{dedup_is}
use Rattle.std.proofs.lemmas.List.Kept.{Contains-dedup_nat}
use Rattle.std.proofs.lemmas.List.Sorted.{Contains-permutation}
use Rattle.std.proofs.lemmas.Map.Keys.{IsStrictlyIncreasing-dedup, sorted_from_strictly_increasing}
use Rattle.std.specs.declared.alloc.Global.{Global}
use Rattle.std.specs.declared.vec.Vec.{Vec}
use Rattle.hol_model.specs.declared.fault.Fault.{Fault}
use Rattle.hol_model.specs.Logic.Derivable.{IsMember}
use Rattle.hol_model.specs.Terms.NamedTerm.{NamedTerm}
use Rattle.hol_model.specs.Rewrites.Matching.{fits}
use Rattle.hol_net.specs.declared.tree.Tree.{Tree}
use Rattle.hol_net.specs.Tree.{steps_of, symbols_of, node_after, nodes_after, places_at, all_places, IsTree, Grows, Ends}
use Rattle.hol_net.specs.Net.{IsNet}
use Rattle.hol_model.specs.Rewrites.Places.{places_where, passes}
use Rattle.hol_net.proofs.Growth.{node_grows}
use Rattle.hol_net.proofs.Walks.{node_found, place_found}
use Rattle.hol_net.proofs.Ascending.{Rising, places_kept, rising_sorted, member_contains, contains_member}

-- a net whose tree grows

ends_grow : (old new : Tree) (pattern : NamedTerm) (place : ℕ) → Grows old new → Ends old pattern place → Ends new pattern place
ends_grow old new pattern place grows ends = record {
  node = ends.node;
  leads = node_grows old new grows 0 pattern ends.node ends.leads;
  ends = grows.places ends.node place ends.ends;
}

pub net_grows : (old new : Tree) (patterns : List NamedTerm) → IsNet old patterns → Grows old new → IsTree new → IsNet new patterns
net_grows old new patterns net grows tree = record {
  is_tree = tree;
  holds = record { each = λ place pattern is. ends_grow old new pattern place grows (net.holds.each place pattern is) };
}

-- one more pattern

last_or_earlier : (patterns : List NamedTerm) (pattern other : NamedTerm) (place : ℕ) → slice_get (patterns ++ pattern ∷ []) place ≡ Some other
    → (slice_get patterns place ≡ Some other) ⊎ ((place ≡ length patterns) × (other ≡ pattern))
last_or_earlier [] pattern other zero is = inr (refl, cc)
last_or_earlier [] pattern other (suc place) is = cc
last_or_earlier (first ∷ rest) pattern other zero is = inl is
last_or_earlier (first ∷ rest) pattern other (suc place) is = go (last_or_earlier rest pattern other place is)
  where
    go : (slice_get rest place ≡ Some other) ⊎ ((place ≡ length rest) × (other ≡ pattern))
        → (slice_get rest place ≡ Some other) ⊎ ((suc place ≡ suc (length rest)) × (other ≡ pattern))
    go (inl known) = inl known
    go (inr known) = inr (ap suc known.0, known.1)

pub net_more : (old new : Tree) (patterns : List NamedTerm) (pattern : NamedTerm) (node : ℕ) → IsNet old patterns → Grows old new → IsTree new
    → node_after (steps_of new) (symbols_of new) 0 pattern ≡ Some node → IsMember (length patterns) (places_at new.ends.items node)
    → IsNet new (patterns ++ pattern ∷ [])
net_more old new patterns pattern node net grows tree leads noted = record {
  is_tree = tree;
  holds = record { each = λ place other is. go place other (last_or_earlier patterns pattern other place is) };
}
  where
    go : (place : ℕ) (other : NamedTerm) → (slice_get patterns place ≡ Some other) ⊎ ((place ≡ length patterns) × (other ≡ pattern)) → Ends new other place
    go place other (inl known) = ends_grow old new other place grows (net.holds.each place other known)
    go place other (inr known) = record {
      node = node;
      leads = ap (node_after (steps_of new) (symbols_of new) 0) known.1 ∙ leads;
      ends = rw known.0 noted;
    }

-- those that fit are found

passing : (test : NamedTerm → Bool) (found : Option NamedTerm) → option_map_or test found false ≡ true → (pattern : NamedTerm) × (found ≡ Some pattern) × (test pattern ≡ true)
passing test None passed = cc
passing test (Some pattern) passed = (pattern, refl, passed)

pub candidates_are : (tree : Tree) (patterns : List NamedTerm) (term : NamedTerm) (nodes places sorted rest : List ℕ) → IsNet tree patterns
    → nodes ≡ nodes_after (steps_of tree) (symbols_of tree) 0 term → places ≡ all_places tree.ends.items nodes
    → IsPermutation places sorted → IsSorted nat_cmp sorted → IsFiltered (DiffersFromLast eqb) [] sorted rest
    → filter (passes (λ pattern. fits pattern term) patterns) rest ≡ places_where (λ pattern. fits pattern term) patterns
candidates_are tree patterns term nodes places sorted rest net reached collected permuted ordered filtered =
    places_kept (λ pattern. fits pattern term) patterns rest (rw once rising) (λ n passed. complete n (passing (λ pattern. fits pattern term) (slice_get patterns n) passed))
  where
    once : rest ≡ dedup eqb sorted
    once = dedup_is eqb sorted rest filtered

    rising : Rising 0 (dedup eqb sorted)
    rising = rising_sorted (dedup eqb sorted) (sorted_from_strictly_increasing (dedup eqb sorted) (IsStrictlyIncreasing-dedup sorted ordered))

    found : (n : ℕ) → IsMember n places → IsMember n rest
    found n member =
        rw once (contains_member (dedup eqb sorted) n (Contains-dedup_nat sorted n (Contains-permutation places sorted n permuted (member_contains places n member))))

    complete : (n : ℕ) → (pattern : NamedTerm) × (slice_get patterns n ≡ Some pattern) × (fits pattern term ≡ true) → IsMember n rest
    complete n known =
        let ends = net.holds.each n known.0 known.1 in
        let at : IsMember ends.node nodes = rw reached (node_found (steps_of tree) (symbols_of tree) known.0 term 0 ends.node known.2 ends.leads) in
        found n (rw collected (place_found tree.ends.items nodes ends.node n at ends.ends))

-- what was kept of the places is what was wanted
pub places_wanted : (result : Result (Vec ℕ Global) Fault) (kept wanted : List ℕ) → kept ≡ wanted → IfOk result (λ places. places.items ≡ kept) → IfOk result (λ places. places.items ≡ wanted)
places_wanted (Ok places) kept wanted same is = is ∙ same
places_wanted (Err fault) kept wanted same is = is
