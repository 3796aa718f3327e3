-- What is stored is proved over the theory, and over later ones.
use Rattle.std.proofs.Common.{◌≡◌, ℕ, List, [], map, sym, subst, ap, ◌∙◌, Option, None, Some}
use Rattle.std.specs.Prelude.{Bool, true, false, cond}
use Rattle.std.specs.Str.{bytes_eq}
use Rattle.hol_model.specs.Logic.Theory.{Theory, IsEarlier}
use Rattle.hol_model.specs.Logic.Derivable.{IsMember}
use Rattle.hol_model.specs.Kernel.Theorem.{Theorem}
use Rattle.hol_model.specs.Goals.Replays.{Store, IsProvedOver, IsStoreOver}
use Rattle.hol_model.proofs.Logic.Earlier.{earlier-twice}
use Rattle.hol_journal.specs.Journal.{Recorded}
use Rattle.hol_theorem_store.specs.Stored.{Stored, IsEmpty, StoresTheorem, KeepsStore, theorems_in}
use Rattle.hol_script_session.specs.SessionState.{theorem_of}
use Rattle.hol_script_session.proofs.RecordingLemmas.{stored_theorem}

-- over a later theory
pub proved_later : (old new : Theory) (store : Store) → IsEarlier old new → IsStoreOver old store → IsStoreOver new store
proved_later old new store earlier over = record {
  named = λ name theorem is. one theorem (over.named name theorem is);
  lemmas = λ theorem member. one theorem (over.lemmas theorem member);
}
  where
    one : (theorem : Theorem) → IsProvedOver old theorem → IsProvedOver new theorem
    one theorem p = record { proved = p.proved; earlier = earlier-twice theorem.theory old new p.earlier earlier }

lemmas_proved : (theory : Theory) (old new : List Recorded) → new ≡ old
    → ((theorem : Theorem) → IsMember theorem (map (λ (made : Recorded). made.theorem) old) → IsProvedOver theory theorem)
    → (theorem : Theorem) → IsMember theorem (map (λ (made : Recorded). made.theorem) new) → IsProvedOver theory theorem
lemmas_proved theory old new same over theorem member =
    over theorem (subst (λ (lemmas : List Recorded). IsMember theorem (map (λ (made : Recorded). made.theorem) lemmas)) same member)

-- what is stored is that of before
pub proved_same : (theory : Theory) (old new : Stored) → KeepsStore old new → IsStoreOver theory (theorems_in old) → IsStoreOver theory (theorems_in new)
proved_same theory old new keeps over = record {
  named = λ name theorem is. over.named name theorem (ap theorem_of (sym (keeps.theorems name)) ∙ is);
  lemmas = lemmas_proved theory old.lemmas new.lemmas keeps.lemmas over.lemmas;
}

-- one theorem more
pub proved_more : (theory : Theory) (old new : Stored) (name : List ℕ) (answer : Recorded) → StoresTheorem old new name answer → IsProvedOver theory answer.theorem
    → IsStoreOver theory (theorems_in old) → IsStoreOver theory (theorems_in new)
proved_more theory old new name answer stores proved over = record {
  named = λ other theorem is. go other theorem (bytes_eq name other) (sym (stored_theorem answer name old new stores other) ∙ is);
  lemmas = lemmas_proved theory old.lemmas new.lemmas stores.lemmas over.lemmas;
}
  where
    go : (other : List ℕ) (theorem : Theorem) (test : Bool) → cond test (Some answer.theorem) (theorem_of (old.theorems other)) ≡ Some theorem → IsProvedOver theory theorem
    go other theorem true is = (let one : answer.theorem ≡ theorem = cc in subst (IsProvedOver theory) one proved)
    go other theorem false is = over.named other theorem is

-- nothing is stored
pub proved_none : (theory : Theory) (stored : Stored) → IsEmpty stored → IsStoreOver theory (theorems_in stored)
proved_none theory stored empty = record {
  named = λ name theorem is. never theorem (sym (ap theorem_of (empty.theorems name)) ∙ is);
  lemmas = λ theorem member. absurd (subst (λ (lemmas : List Recorded). IsMember theorem (map (λ (made : Recorded). made.theorem) lemmas)) empty.lemmas member);
}
  where
    never : (theorem : Theorem) → ◌≡◌ {A = Option Theorem} None (Some theorem) → IsProvedOver theory theorem
    never theorem is = cc

pub no_lemmas : (stored : Stored) → IsEmpty stored → (theorems_in stored).lemmas ≡ []
no_lemmas stored empty = ap (map (λ (made : Recorded). made.theorem)) empty.lemmas
