-- What is kept of parts that were made.
use Rattle.std.proofs.Common.{◌≡◌, ℕ, zero, suc, List, [], ◌∷◌, Bool, true, false, refl, sym, ◌∙◌, ap, subst, inl, inr, Some, Result, Ok, Err, IfOk, IfErr, if◌then◌else◌}
use Rattle.std.specs.Prelude.{slice_get, nat_eq}
use Rattle.std.proofs.lemmas.Bool.{eqb-true}
use Rattle.indexmap.specs.IndexMap.{insert_entry}
use Rattle.hol_model.specs.declared.fault.Fault.{Fault}
use Rattle.hol_model.specs.declared.fault.Fault.TheVariants.{Memory}
use Rattle.hol_model.specs.Terms.Nameless.{Nameless}
use Rattle.hol_check_terms.specs.Entries.{HasOnlyAdded}
use Rattle.hol_check_terms.specs.Terms.{TermTable, IsGrown}
use Rattle.hol_check_written.specs.Making.{HasEntry, Stays, IsKept, Keeps}

insert-there : (entries : List (ℕ × ℕ)) (key value : ℕ) → HasEntry (insert_entry nat_eq entries key value) key
insert-there [] key value = (value, (0, refl))
insert-there (first ∷ rest) key value = go (nat_eq key first.0) refl (insert-there rest key value)
  where
    go : (test : Bool) → nat_eq key first.0 ≡ test → HasEntry (insert_entry nat_eq rest key value) key →
        HasEntry (if test then (first.0, value) ∷ rest else first ∷ insert_entry nat_eq rest key value) key
    go true is deeper = (value, (0, λ i. Some (sym (eqb-true key first.0 is) i, value)))
    go false is deeper = (deeper.0, (suc deeper.1.0, deeper.1.1))

insert-stays : (entries : List (ℕ × ℕ)) (key value line : ℕ) → HasEntry entries line → HasEntry (insert_entry nat_eq entries key value) line
insert-stays [] key value line (number, (i, there)) = cc
insert-stays (first ∷ rest) key value line (number, (i, there)) = go (nat_eq key first.0) i there (insert-stays rest key value line)
  where
    go : (test : Bool) (i : ℕ) → slice_get (first ∷ rest) i ≡ Some (line, number) → (HasEntry rest line → HasEntry (insert_entry nat_eq rest key value) line)
        → HasEntry (if test then (first.0, value) ∷ rest else first ∷ insert_entry nat_eq rest key value) line
    go true zero there deeper =
        let pair : first ≡ (line, number) = cc in
        (value, (0, ap (λ (p : ℕ × ℕ). Some (p.0, value)) pair))
    go true (suc i) there deeper = (number, (suc i, there))
    go false zero there deeper = (number, (0, there))
    go false (suc i) there deeper = let later = deeper (number, (i, there)) in (later.0, (suc later.1.0, later.1.1))

pub noted-there : (entries now : List (ℕ × ℕ)) (key value : ℕ) → now ≡ insert_entry nat_eq entries key value → HasEntry now key
noted-there entries now key value is = subst (λ l. HasEntry l key) (sym is) (insert-there entries key value)

pub noted-stays : (entries now : List (ℕ × ℕ)) (key value : ℕ) → now ≡ insert_entry nat_eq entries key value → Stays entries now
noted-stays entries now key value is = record { stays = λ line there. subst (λ l. HasEntry l line) (sym is) (insert-stays entries key value line there) }

pub kept-apart : (is_apart : Bool) (line number : ℕ) (made made_now known : List (ℕ × ℕ)) → is_apart ≡ true → HasOnlyAdded made made_now line number → Stays made made_now →
    IsKept is_apart line (λ new. new ≡ number) made made_now known known
kept-apart is_apart line number made made_now known is added stays = record {
  added = λ other one there. elim (added other one there) [ inl early ↦ inl early | inr new ↦ inr (is, new.0, new.1) ];
  noted = λ other one there. inl there;
  stays = stays;
}

pub kept-made : (wanted : Nameless) (is_apart : Bool) (line number : ℕ) (earlier now : TermTable) (made made_now known known_now : List (ℕ × ℕ)) (result : Result ℕ Fault) →
    slice_get now.terms number ≡ Some wanted → IsGrown earlier now
    → IfOk result (λ same. same ≡ number) → IfErr result (λ fault. fault ≡ Memory) → IsKept is_apart line (λ new. new ≡ number) made made_now known known_now →
    Keeps wanted is_apart line earlier now made made_now known known_now result
kept-made wanted is_apart line number earlier now made made_now known known_now result there grown same refused kept = record {
  number = is result same;
  refused = refused;
  grows = grown;
  kept = record {
    added = λ other one entry. elim (kept.added other one entry) [ inl early ↦ inl early | inr new ↦ inr (new.0, new.1, ap (slice_get now.terms) new.2 ∙ there) ];
    noted = λ other one entry. elim (kept.noted other one entry) [ inl early ↦ inl early | inr new ↦ inr (new.0, ap (slice_get now.terms) new.1 ∙ there) ];
    stays = kept.stays;
  };
}
  where
    is : (result : Result ℕ Fault) → IfOk result (λ same. same ≡ number) → IfOk result (λ new. slice_get now.terms new ≡ Some wanted)
    is (Ok new) same = ap (slice_get now.terms) same ∙ there
    is (Err fault) same = tt
