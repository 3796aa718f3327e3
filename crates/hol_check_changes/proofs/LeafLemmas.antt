-- What becomes of leaves, and of the types that are written in them.
use Rattle.std.proofs.Common.{◌≡◌, ◌⊎◌, ℕ, ◌<◌, List, [], length, Bool, true, false, refl, sym, ◌∙◌, ap, subst, inl, inr, Some, Result, Ok, Err, IfOk, IfErr, if◌then◌else◌}
use Rattle.std.specs.Prelude.{slice_get}
use Rattle.std.proofs.lemmas.Option.{slice_get-get_or, get_or_from_slice_get}
use Rattle.hol_model.specs.declared.fault.Fault.{Fault}
use Rattle.hol_model.specs.declared.fault.Fault.TheVariants.{Memory, TooLarge}
use Rattle.hol_model.specs.declared.limits.TheConstants.{TYPE_NODES_LIMIT}
use Rattle.hol_model.specs.Terms.HolType.{HolType, type_nodes, bool_type}
use Rattle.hol_model.specs.Terms.NamedTerm.{same_variable}
use Rattle.hol_model.specs.Terms.Nameless.{Nameless, free, const, bound, same_term}
use Rattle.hol_model.specs.Logs.LogSequents.{term_instance_of}
use Rattle.hol_model.proofs.Tests.{same_variable-self, same_name, same_variable-type, same_term-Decides}
use Rattle.hol_check_terms.specs.Table.{HaveOneNumber}
use Rattle.hol_check_terms.specs.Terms.{TermTable, name_at, type_at, term_at, IsGrown}
use Rattle.hol_check_changes.specs.Pairs.{replaced_number, ArePairs}
use Rattle.hol_check_changes.specs.TypeChange.{IsTypeMemo, AnswersType, type_change, IsInstanceWork}
use Rattle.hol_check_changes.specs.Change.{PartChange, changed, IsClosing, IsFilling, IsPutting, IsInstantiating, IsMeant, IsPastLimits, IsTypeHeld, IsAnswered, AnswersLeaf, AnswersTypeOf}
use Rattle.hol_check_changes.specs.declared.leaves.Change.{Change}
use Rattle.hol_check_changes.specs.declared.leaves.Change.TheVariants.{Close, Fill, Put, Instantiate}
use Rattle.hol_check_terms.proofs.TableLemmas.{get_or-longer}
use Rattle.hol_check_changes.proofs.PairLemmas.{replaced-named}
use Rattle.hol_check_changes.proofs.ChangeLemmas.{meant-grown, type_held-grown}
use Rattle.hol_check_terms.proofs.GrowthLemmas.{term-there}

-- the change leaves types as they are
abbrev pub keeps_types : Change → Bool
keeps_types (Close variable) = true
keeps_types (Fill new) = true
keeps_types (Put pairs) = true
keeps_types (Instantiate pairs) = false

on_type-kept : (table : TermTable) (change : Change) (meaning : PartChange) → IsMeant table change meaning → keeps_types change ≡ true → (s : HolType) → meaning.on_type s ≡ s
on_type-kept table (Close variable) meaning meant is s = ap (λ (m : PartChange). m.on_type s) meant.is_meant
on_type-kept table (Fill new) meaning meant is s = ap (λ (m : PartChange). m.on_type s) meant.is_meant
on_type-kept table (Put pairs) meaning meant is s = ap (λ (m : PartChange). m.on_type s) meant.is_meant
on_type-kept table (Instantiate pairs) meaning meant is s = cc

pub type-kept : (table : TermTable) (change : Change) → keeps_types change ≡ true → (types : List (ℕ × ℕ)) (meaning : PartChange) (ty : ℕ) → ty < length table.types →
    IsTypeHeld table change types meaning
    → AnswersTypeOf (meaning.on_type (type_at table.types ty)) (Ok ty) table change types meaning
type-kept table change is types meaning ty within held = record {
  number = slice_get-get_or table.types ty bool_type within ∙ ap Some (sym (on_type-kept table change meaning held.meant is (type_at table.types ty)));
  refused = tt;
  held = held;
}

pub instance-work : (table : TermTable) (pairs types : List (ℕ × ℕ)) (meaning : PartChange) → IsInstantiating table pairs meaning → IsTypeMemo table.types meaning.on_type types →
    IsInstanceWork table.types pairs types
instance-work table pairs types meaning meant memo = record {
  theta = meant.theta;
  are_pairs = meant.are_pairs;
  memo = subst (λ (m : PartChange). IsTypeMemo table.types m.on_type types) meant.is_meant memo;
}

pub instance-answers : (earlier now : TermTable) (change : Change) (pairs before types : List (ℕ × ℕ)) (meaning : PartChange) (ty : HolType) (result : Result ℕ Fault) → IsGrown earlier now →
    IsTypeHeld earlier change before meaning → IsInstantiating earlier pairs meaning
    → ((theta : List (HolType × HolType)) → ArePairs earlier.types pairs theta → IsTypeMemo earlier.types (type_change theta) before →
    AnswersType (type_change theta ty) result now.types (type_change theta) types)
    → AnswersTypeOf (meaning.on_type ty) result now change types meaning
instance-answers earlier now change pairs before types meaning ty result grown held meant answer =
    let answers = answer meant.theta meant.are_pairs (subst (λ (m : PartChange). IsTypeMemo earlier.types m.on_type before) meant.is_meant held.known_types) in
    record {
      number = subst (λ (m : PartChange). IfOk result (λ new. slice_get now.types new ≡ Some (m.on_type ty))) (sym meant.is_meant) answers.number;
      refused = subst (λ (m : PartChange). IfErr result (λ fault. (fault ≡ Memory) ⊎ ((fault ≡ TooLarge) × (TYPE_NODES_LIMIT < type_nodes (m.on_type ty))))) (sym meant.is_meant) answers.refused;
      held = record {
        meant = meant-grown earlier now grown change meaning held.meant;
        known_types = subst (λ (m : PartChange). IsTypeMemo now.types m.on_type types) (sym meant.is_meant) answers.memo;
      };
    }

-- a made leaf, and one that is refused for memory alone
made : (wanted : Nameless) (term : Nameless) (result : Result ℕ Fault) (terms : List Nameless) → term ≡ wanted → IfOk result (λ n. slice_get terms n ≡ Some term) →
    IfErr result (λ fault. fault ≡ Memory) → IsAnswered wanted result terms
made wanted term (Ok n) terms is there refused = record { number = there ∙ ap Some is; refused = tt }
made wanted term (Err fault) terms is there refused = record { number = tt; refused = inl refused }

kept : (table : TermTable) (number : ℕ) (wanted : Nameless) → number < length table.terms → wanted ≡ term_at table.terms number → IsAnswered wanted (Ok number) table.terms
kept table number wanted within is = record { number = slice_get-get_or table.terms number (bound 0) within ∙ ap Some (sym is); refused = tt }

-- closing

closed-itself : (passed : ℕ) (name : List ℕ) (ty : HolType) → bound passed ≡ (if same_variable name ty name ty then bound passed else free name ty)
closed-itself passed name ty = rw (same_variable-self name ty) refl

pub leaf-closed : (earlier now : TermTable) (change : Change) (types : List (ℕ × ℕ)) (meaning : PartChange) (passed number variable : ℕ) (result : Result ℕ Fault) → IsGrown earlier now →
    IsTypeHeld earlier change types meaning → IsClosing earlier variable meaning
    → number ≡ variable → IfOk result (λ n. slice_get now.terms n ≡ Some (bound passed)) → IfErr result (λ fault. fault ≡ Memory) →
    AnswersLeaf (changed meaning passed (term_at earlier.terms number)) result now change types meaning
leaf-closed earlier now change types meaning passed number variable result grown held meant same there refused =
    let term : term_at earlier.terms number ≡ free meant.name meant.ty = ap (term_at earlier.terms) same ∙ term-there earlier.terms variable _ meant.is_variable in
    let wanted : bound passed ≡ changed meaning passed (term_at earlier.terms number) =
    closed-itself passed meant.name meant.ty ∙ (sym (ap (λ (m : PartChange). m.on_free passed meant.name meant.ty) meant.is_meant) ∙ sym (ap (changed meaning passed) term)) in
    record { answered = made _ (bound passed) result now.terms wanted there refused; held = type_held-grown earlier now change types meaning grown held }

closed-other : (passed : ℕ) (name other : List ℕ) (ty s : HolType) → ¬ ((name ≡ other) × (ty ≡ s)) → (if same_variable name ty other s then bound passed else free other s) ≡ free other s
closed-other passed name other ty s differ = go (same_variable name ty other s) refl
  where
    go : (test : Bool) → same_variable name ty other s ≡ test → (if test then bound passed else free other s) ≡ free other s
    go true is = absurd (differ (same_name name other ty s is, same_variable-type name other ty s is))
    go false is = refl

pub leaf-not_closed : (table : TermTable) → HaveOneNumber table.terms → (change : Change) (types : List (ℕ × ℕ)) (meaning : PartChange) (passed number variable : ℕ) (other : List ℕ)
    (s : HolType) → number < length table.terms → IsTypeHeld table change types meaning → IsClosing table variable meaning
    → ¬ (number ≡ variable) → term_at table.terms number ≡ free other s → AnswersLeaf (changed meaning passed (term_at table.terms number)) (Ok number) table change types meaning
leaf-not_closed table one change types meaning passed number variable other s within held meant differ is =
    record { answered = kept table number _ within same; held = held }
  where
    apart : ¬ ((meant.name ≡ other) × (meant.ty ≡ s))
    apart both =
        let there : slice_get table.terms number ≡ Some (free other s) = slice_get-get_or table.terms number (bound 0) within ∙ ap Some is in
        let names : meant.name ≡ other = both.0 in
        let types_same : meant.ty ≡ s = both.1 in
        let terms_same : free meant.name meant.ty ≡ free other s = (λ i. free (names i) (types_same i)) in
        differ (one number variable (free other s) there (meant.is_variable ∙ ap Some terms_same))

    same : changed meaning passed (term_at table.terms number) ≡ term_at table.terms number
    same = ap (changed meaning passed) is ∙ (ap (λ (m : PartChange). m.on_free passed other s) meant.is_meant ∙ (closed-other passed meant.name other meant.ty s apart ∙ sym is))

-- filling leaves free variables as they are
pub leaf-not_filled : (table : TermTable) (change : Change) (types : List (ℕ × ℕ)) (meaning : PartChange) (passed number new : ℕ) (other : List ℕ) (s : HolType) →
    number < length table.terms → IsTypeHeld table change types meaning → IsFilling table new meaning
    → term_at table.terms number ≡ free other s → AnswersLeaf (changed meaning passed (term_at table.terms number)) (Ok number) table change types meaning
leaf-not_filled table change types meaning passed number new other s within held meant is =
    record { answered = kept table number _ within (ap (changed meaning passed) is ∙ (ap (λ (m : PartChange). m.on_free passed other s) meant.is_meant ∙ sym is)); held = held }

-- putting
pub leaf-put : (table : TermTable) → HaveOneNumber table.terms → (change : Change) (types pairs : List (ℕ × ℕ)) (meaning : PartChange) (passed number new : ℕ) (other : List ℕ)
    (s : HolType) → number < length table.terms → IsTypeHeld table change types meaning → IsPutting table pairs meaning
    → new ≡ replaced_number pairs number → term_at table.terms number ≡ free other s → AnswersLeaf (changed meaning passed (term_at table.terms number)) (Ok new) table change types meaning
leaf-put table one change types pairs meaning passed number new other s within held meant new_is is =
    let there : slice_get table.terms number ≡ Some (free other s) = slice_get-get_or table.terms number (bound 0) within ∙ ap Some is in
    let put_is : slice_get table.terms (replaced_number pairs number) ≡ Some (term_instance_of meant.theta other s) =
    replaced-named same_term same_term-Decides table.terms one pairs meant.theta meant.are_pairs number (free other s) there in
    let wanted : term_instance_of meant.theta other s ≡ changed meaning passed (term_at table.terms number) =
    sym (ap (changed meaning passed) is ∙ ap (λ (m : PartChange). m.on_free passed other s) meant.is_meant) in
    record { answered = record { number = ap (slice_get table.terms) new_is ∙ (put_is ∙ ap Some wanted); refused = tt }; held = held }

-- instances

free-instance : (table : TermTable) (pairs : List (ℕ × ℕ)) (meaning : PartChange) → IsInstantiating table pairs meaning → (passed : ℕ) (name : List ℕ) (s : HolType) →
    meaning.on_free passed name s ≡ free name (meaning.on_type s)
free-instance table pairs meaning meant passed name s = subst (λ (m : PartChange). m.on_free passed name s ≡ free name (m.on_type s)) (sym meant.is_meant) refl

name-kept : (earlier now : TermTable) (n : ℕ) → IsGrown earlier now → n < length earlier.names → name_at now.names n ≡ name_at earlier.names n
name-kept earlier now n grown within = ap (λ l. name_at l n) grown.names.is_added ∙ get_or-longer earlier.names grown.names.added n [] within

pub leaf-instance : (t0 t1 t2 : TermTable) (change : Change) (types pairs : List (ℕ × ℕ)) (meaning : PartChange) (passed number name ty new : ℕ) (result : Result ℕ Fault) → IsGrown t0 t1 →
    IsGrown t1 t2 → name < length t0.names → IsInstantiating t0 pairs meaning
    → term_at t0.terms number ≡ free (name_at t0.names name) (type_at t0.types ty) → AnswersTypeOf (meaning.on_type (type_at t0.types ty)) (Ok new) t1 change types meaning
    → IfOk result (λ n. slice_get t2.terms n ≡ Some (free (name_at t1.names name) (type_at t1.types new))) → IfErr result (λ fault. fault ≡ Memory) →
    AnswersLeaf (changed meaning passed (term_at t0.terms number)) result t2 change types meaning
leaf-instance t0 t1 t2 change types pairs meaning passed number name ty new result grown later within meant is answers there refused =
    let names = name-kept t0 t1 name grown within in
    let type_is : type_at t1.types new ≡ meaning.on_type (type_at t0.types ty) = get_or_from_slice_get t1.types new _ bool_type answers.number in
    let wanted : free (name_at t1.names name) (type_at t1.types new) ≡ changed meaning passed (term_at t0.terms number) =
    (λ i. free (names i) (type_is i)) ∙ (sym (free-instance t0 pairs meaning meant passed (name_at t0.names name) (type_at t0.types ty)) ∙ sym (ap (changed meaning passed) is)) in
    record { answered = made _ _ result t2.terms wanted there refused; held = type_held-grown t1 t2 change types meaning later answers.held }

pub leaf-instance-refused : (t0 t1 : TermTable) (change : Change) (types pairs : List (ℕ × ℕ)) (meaning : PartChange) (passed number name ty : ℕ) (fault : Fault) → IsInstantiating t0 pairs meaning
    → term_at t0.terms number ≡ free (name_at t0.names name) (type_at t0.types ty) → AnswersTypeOf (meaning.on_type (type_at t0.types ty)) (Err fault) t1 change types meaning →
    AnswersLeaf (changed meaning passed (term_at t0.terms number)) (Err fault) t1 change types meaning
leaf-instance-refused t0 t1 change types pairs meaning passed number name ty fault meant is answers =
    let wanted : free (name_at t0.names name) (meaning.on_type (type_at t0.types ty)) ≡ changed meaning passed (term_at t0.terms number) =
    sym (free-instance t0 pairs meaning meant passed (name_at t0.names name) (type_at t0.types ty)) ∙ sym (ap (changed meaning passed) is) in
    record {
      answered = record { number = tt; refused = elim answers.refused [ inl memory ↦ inl memory | inr large ↦ inr (large.0, subst IsPastLimits wanted (inr large.1)) ] };
      held = answers.held;
    }

-- constants

pub leaf-constant : (t0 t1 t2 : TermTable) (change : Change) (types : List (ℕ × ℕ)) (meaning : PartChange) (name ty new : ℕ) (result : Result ℕ Fault) → IsGrown t0 t1 →
    IsGrown t1 t2 → name < length t0.names → AnswersTypeOf (meaning.on_type (type_at t0.types ty)) (Ok new) t1 change types meaning
    → IfOk result (λ n. slice_get t2.terms n ≡ Some (const (name_at t1.names name) (type_at t1.types new))) → IfErr result (λ fault. fault ≡ Memory) →
    AnswersLeaf (const (name_at t0.names name) (meaning.on_type (type_at t0.types ty))) result t2 change types meaning
leaf-constant t0 t1 t2 change types meaning name ty new result grown later within answers there refused =
    let names = name-kept t0 t1 name grown within in
    let type_is : type_at t1.types new ≡ meaning.on_type (type_at t0.types ty) = get_or_from_slice_get t1.types new _ bool_type answers.number in
    let wanted : const (name_at t1.names name) (type_at t1.types new) ≡ const (name_at t0.names name) (meaning.on_type (type_at t0.types ty)) = (λ i. const (names i) (type_is i)) in
    record { answered = made _ _ result t2.terms wanted there refused; held = type_held-grown t1 t2 change types meaning later answers.held }

pub leaf-constant-refused : (t0 t1 : TermTable) (change : Change) (types : List (ℕ × ℕ)) (meaning : PartChange) (name ty : ℕ) (fault : Fault)
    → AnswersTypeOf (meaning.on_type (type_at t0.types ty)) (Err fault) t1 change types meaning →
    AnswersLeaf (const (name_at t0.names name) (meaning.on_type (type_at t0.types ty))) (Err fault) t1 change types meaning
leaf-constant-refused t0 t1 change types meaning name ty fault answers =
    record {
      answered = record { number = tt; refused = elim answers.refused [ inl memory ↦ inl memory | inr large ↦ inr (large.0, inr large.1) ] };
      held = answers.held;
    }
