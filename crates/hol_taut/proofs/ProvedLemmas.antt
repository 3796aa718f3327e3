-- Theorems with allowed hypotheses, from what steps derive.
use Rattle.std.proofs.Common.{◌≡◌, List, [], ◌∷◌, ◌++◌, Bool, true, false, not, cond, inl, inr, refl, sym, ◌∙◌, Result, Ok, Err}
use Rattle.hol_model.specs.declared.fault.Fault.{Fault}
use Rattle.hol_model.specs.Terms.Nameless.{Nameless, same_term}
use Rattle.hol_model.specs.Logic.Derivable.{IsMember, without}
use Rattle.hol_model.specs.Terms.Measures.{nameless_within_limits}
use Rattle.hol_model.specs.Kernel.Theorem.{Theorem}
use Rattle.hol_model.specs.Derived.DerivedRules.{images}
use Rattle.hol_model.proofs.Terms.Membership.{of_append}
use Rattle.hol_model.proofs.Logic.Known.{of_without}
use Rattle.hol_model.proofs.Tests.{same_term-Decides}
use Rattle.hol_journal.specs.Journal.{Recorded}
use Rattle.hol_bool.proofs.RoomLemmas.{fits-within}
use Rattle.hol_equal.proofs.CutLemmas.{derives-where}
use Rattle.hol_equal.specs.Room.{FitsIf}
use Rattle.hol_equal.specs.Sequents.{Shows, DerivesIf, Derives, Gives}
use Rattle.hol_taut.specs.Proved.{Proves, ProvesIf}

-- such a theorem shows its sequent
pub proves-shows : (theorem : Theorem) (allowed : List Nameless) (c : Nameless) → Proves theorem allowed c → Shows theorem (images theorem) c
proves-shows theorem allowed c proves = record { same_set = record { to = λ x m. m; back = λ x m. m }; concludes = proves.concludes }

-- a sequent whose hypotheses are allowed
pub derives-proves : (room : Bool) (result : Result Recorded Fault) (h allowed : List Nameless) (c : Nameless) → ((x : Nameless) → IsMember x h → IsMember x allowed)
    → DerivesIf room result h c → ProvesIf room result allowed c
derives-proves room (Ok made) h allowed c among shows = record { within = λ x m. among x (shows.same_set.back x m); concludes = shows.concludes }
derives-proves room (Err fault) h allowed c among past = past

pub gives-proves : (room : Bool) (result : Result Recorded Fault) (h allowed : List Nameless) (c : Nameless) → ((x : Nameless) → IsMember x h → IsMember x allowed) → Gives result h c
    → ProvesIf room result allowed c
gives-proves room (Ok made) h allowed c among shows = record { within = λ x m. among x (shows.same_set.back x m); concludes = shows.concludes }
gives-proves room (Err fault) h allowed c among memory = inl memory

-- where the conclusion fits
pub derives-fitting : (room : Bool) (result : Result Recorded Fault) (h allowed : List Nameless) (c : Nameless) → FitsIf room c → ((x : Nameless) → IsMember x h → IsMember x allowed)
    → Derives result h c → ProvesIf room result allowed c
derives-fitting room result h allowed c fits among derives =
    derives-proves room result h allowed c among (derives-where (nameless_within_limits c) room result h c (fits-within room c fits) derives)

pub both-among : (first second : Theorem) (allowed : List Nameless) (p q : Nameless) → Proves first allowed p → Proves second allowed q → (x : Nameless)
    → IsMember x (images first ++ images second) → IsMember x allowed
both-among first second allowed p q one two x m = elim (of_append x (images first) (images second) m) [
  | inl here ↦ one.within x here
  | inr there ↦ two.within x there
]

-- what is left of a list has no such term

left-is-other : (x q : Nameless) (h : List Nameless) → IsMember x (without q h) → x ≡ q → ⊥
left-is-other x q [] m same = m
left-is-other x q (y ∷ h) m same = go (same_term y q) refl m (λ later. left-is-other x q h later same)
  where
    go : (test : Bool) → same_term y q ≡ test → IsMember x (cond (not test) (y ∷ without q h) (without q h)) → (IsMember x (without q h) → ⊥) → ⊥
    go true is m next = next m
    go false is (inl here) next = let e : true ≡ false = sym ((same_term-Decides y q).1 (sym here ∙ same)) ∙ is in cc
    go false is (inr later) next = next later

pub left-among : (q : Nameless) (h allowed : List Nameless) → ((x : Nameless) → IsMember x h → IsMember x (q ∷ allowed)) → (x : Nameless) → IsMember x (without q h) → IsMember x allowed
left-among q h allowed among x m = elim (among x (of_without x q h m)) [
  | inl same ↦ absurd (left-is-other x q h m same)
  | inr there ↦ there
]

pub lefts-among : (p q : Nameless) (h k allowed : List Nameless) → ((x : Nameless) → IsMember x h → IsMember x (q ∷ allowed)) → ((x : Nameless) → IsMember x k → IsMember x (p ∷ allowed))
    → (x : Nameless) → IsMember x (without q h ++ without p k) → IsMember x allowed
lefts-among p q h k allowed one two x m = elim (of_append x (without q h) (without p k) m) [
  | inl here ↦ left-among q h allowed one x here
  | inr there ↦ left-among p k allowed two x there
]
