-- Changing a type part by part.
use Rattle.std.proofs.Common.{◌≡◌, ◌⊎◌, ℕ, ◌<◌, ◌≤◌, List, length, sym, ◌∙◌, ap, subst, inl, inr, Some, Result, Ok, Err, IfOk, IfErr, arith}
use Rattle.std.specs.Prelude.{slice_get}
use Rattle.std.proofs.lemmas.Option.{slice_get-get_or}
use Rattle.hol_model.specs.declared.fault.Fault.{Fault}
use Rattle.hol_model.specs.declared.fault.Fault.TheVariants.{Memory, TooLarge}
use Rattle.hol_model.specs.declared.limits.TheConstants.{TYPE_NODES_LIMIT}
use Rattle.hol_model.specs.Terms.HolType.{HolType, type_variable, bool_type, function_type, type_nodes, type_eq}
use Rattle.hol_model.proofs.Terms.HolTypeEq.{type_eq-Decides}
use Rattle.hol_check_terms.specs.Growth.{IsLonger}
use Rattle.hol_check_terms.specs.Table.{HaveOneNumber}
use Rattle.hol_check_terms.specs.Terms.{type_at}
use Rattle.hol_check_terms.specs.Entries.{HasOnlyAdded}
use Rattle.hol_check_changes.specs.Pairs.{replaced_number, ArePairs}
use Rattle.hol_check_changes.specs.TypeChange.{IsChangedType, IsTypeMemo, AnswersType, type_change, IsInstanceWork}
use Rattle.hol_check_changes.proofs.PairLemmas.{replaced-named, pairs-grown}
use Rattle.hol_check_terms.proofs.GrowthLemmas.{type-within, type-grown, type-place, type-there}

-- types keep their numbers

pub types-grown : (types now : List HolType) (change : HolType → HolType) (entries : List (ℕ × ℕ)) → IsLonger types now → IsTypeMemo types change entries → IsTypeMemo now change entries
types-grown types now change entries longer memo old new there =
    let part = memo old new there in
    record {
      within = type-within types now old longer part.within;
      is_changed = type-place types now new _ longer part.is_changed ∙ ap (λ ty. Some (change ty)) (sym (type-grown types now old longer part.within));
    }

pub types-added : (types : List HolType) (change : HolType → HolType) (entries now : List (ℕ × ℕ)) (old new : ℕ) → IsTypeMemo types change entries → HasOnlyAdded entries now old new →
    IsChangedType types change old new → IsTypeMemo types change now
types-added types change entries now old new memo added part other one there =
    elim (added other one there) [
      | inl early ↦ memo other one early
      | inr last ↦ subst (λ n. IsChangedType types change n one) (sym last.0) (subst (λ n. IsChangedType types change old n) (sym last.1) part)
    ]

-- the answers for leaves and for what is known

pub answers-variable : (types : List HolType) → HaveOneNumber types → (pairs : List (ℕ × ℕ)) (theta : List (HolType × HolType)) → ArePairs types pairs theta → (ty new : ℕ) → ty < length types
    → (name : List ℕ) → type_at types ty ≡ type_variable name → new ≡ replaced_number pairs ty → (entries : List (ℕ × ℕ)) → IsTypeMemo types (type_change theta) entries
    → AnswersType (type_change theta (type_at types ty)) (Ok new) types (type_change theta) entries
answers-variable types one pairs theta are ty new within name is new_is entries memo =
    let there : slice_get types ty ≡ Some (type_variable name) = slice_get-get_or types ty bool_type within ∙ ap Some is in
    record {
      number = ap (slice_get types) new_is ∙ (replaced-named type_eq type_eq-Decides types one pairs theta are ty (type_variable name) there ∙ ap (λ t. Some (type_change theta t)) (sym is));
      refused = tt;
      memo = memo;
    }

pub answers-kept : (types : List HolType) (change : HolType → HolType) (ty : ℕ) → ty < length types → change (type_at types ty) ≡ type_at types ty → (entries : List (ℕ × ℕ)) →
    IsTypeMemo types change entries
    → AnswersType (change (type_at types ty)) (Ok ty) types change entries
answers-kept types change ty within same entries memo = record {
  number = slice_get-get_or types ty bool_type within ∙ ap Some (sym same);
  refused = tt;
  memo = memo;
}

-- a refused part refuses the whole
pub refused-type : (wanted whole : HolType) (fault : Fault) (types : List HolType) (change : HolType → HolType) (entries : List (ℕ × ℕ)) → type_nodes wanted ≤ type_nodes whole →
    AnswersType wanted (Err fault) types change entries
    → AnswersType whole (Err fault) types change entries
refused-type wanted whole fault types change entries fewer answers = record {
  number = tt;
  refused = elim answers.refused [ inl memory ↦ inl memory | inr large ↦ inr (large.0, let past = large.1 in omega arith) ];
  memo = answers.memo;
}

-- the change of a function type
pub change-function : (theta : List (HolType × HolType)) (ty domain codomain : HolType) → ty ≡ function_type domain codomain →
    type_change theta ty ≡ function_type (type_change theta domain) (type_change theta codomain)
change-function theta ty domain codomain is = ap (type_change theta) is

pub domain-smaller : (theta : List (HolType × HolType)) (ty domain codomain : HolType) → ty ≡ function_type domain codomain → type_nodes (type_change theta domain) ≤ type_nodes (type_change theta ty)
domain-smaller theta ty domain codomain is = let all = ap type_nodes (change-function theta ty domain codomain is) in omega arith

pub codomain-smaller : (theta : List (HolType × HolType)) (ty domain codomain : HolType) → ty ≡ function_type domain codomain →
    type_nodes (type_change theta codomain) ≤ type_nodes (type_change theta ty)
codomain-smaller theta ty domain codomain is = let all = ap type_nodes (change-function theta ty domain codomain is) in omega arith

-- the pairs and what is known, after a part
pub work-after : (types now : List HolType) (pairs entries later : List (ℕ × ℕ)) → IsLonger types now → (work : IsInstanceWork types pairs entries) →
    IsTypeMemo now (type_change work.theta) later → IsInstanceWork now pairs later
work-after types now pairs entries later longer work memo = record { theta = work.theta; are_pairs = pairs-grown types now longer pairs work.theta work.are_pairs; memo = memo }

-- a function type's new parts
pub function-parts : (t1 t2 : List HolType) (theta : List (HolType × HolType)) (ty domain codomain : HolType) (new_domain new_codomain : ℕ) → IsLonger t1 t2 → ty ≡ function_type domain codomain
    → slice_get t1 new_domain ≡ Some (type_change theta domain) → slice_get t2 new_codomain ≡ Some (type_change theta codomain)
    → function_type (type_at t2 new_domain) (type_at t2 new_codomain) ≡ type_change theta ty
function-parts t1 t2 theta ty domain codomain new_domain new_codomain longer is first second =
    let left : type_at t2 new_domain ≡ type_change theta domain = type-there t2 new_domain _ (type-place t1 t2 new_domain _ longer first) in
    let right : type_at t2 new_codomain ≡ type_change theta codomain = type-there t2 new_codomain _ second in
    (λ i. function_type (left i) (right i)) ∙ sym (change-function theta ty domain codomain is)

-- a function type that is refused
pub answers-refused : (t2 t3 : List HolType) (theta : List (HolType × HolType)) (ty made : HolType) (fault : Fault) (entries : List (ℕ × ℕ)) → IsLonger t2 t3 → made ≡ type_change theta ty
    → (fault ≡ Memory) ⊎ ((fault ≡ TooLarge) × (TYPE_NODES_LIMIT < type_nodes made)) → IsTypeMemo t2 (type_change theta) entries →
    AnswersType (type_change theta ty) (Err fault) t3 (type_change theta) entries
answers-refused t2 t3 theta ty made fault entries longer is refused memo = record {
  number = tt;
  refused = elim refused [ inl memory ↦ inl memory | inr large ↦ inr (large.0, subst (λ t. TYPE_NODES_LIMIT < type_nodes t) is large.1) ];
  memo = types-grown t2 t3 (type_change theta) entries longer memo;
}

-- a function type that is made
pub answers-made : (t0 t2 t3 : List HolType) (theta : List (HolType × HolType)) (number : ℕ) (made : HolType) (new : ℕ) (result : Result ℕ Fault) (entries later : List (ℕ × ℕ)) →
    IsLonger t0 t3 → IsLonger t2 t3 → number < length t0
    → made ≡ type_change theta (type_at t0 number) → slice_get t3 new ≡ Some made → IsTypeMemo t2 (type_change theta) entries
    → IfOk result (λ same. same ≡ new) → IfErr result (λ fault. fault ≡ Memory) → HasOnlyAdded entries later number new →
    AnswersType (type_change theta (type_at t0 number)) result t3 (type_change theta) later
answers-made t0 t2 t3 theta number made new result entries later longer last within is there memo same refused added =
    let is_new : slice_get t3 new ≡ Some (type_change theta (type_at t0 number)) = there ∙ ap Some is in
    record {
      number = named result same is_new;
      refused = kept result refused;
      memo = types-added t3 (type_change theta) entries later number new (types-grown t2 t3 (type_change theta) entries last memo) added
          (record { within = type-within t0 t3 number longer within; is_changed = is_new ∙ ap (λ t. Some (type_change theta t)) (sym (type-grown t0 t3 number longer within)) });
    }
  where
    named : (result : Result ℕ Fault) → IfOk result (λ same. same ≡ new) → slice_get t3 new ≡ Some (type_change theta (type_at t0 number)) →
        IfOk result (λ n. slice_get t3 n ≡ Some (type_change theta (type_at t0 number)))
    named (Ok n) same there = ap (slice_get t3) same ∙ there
    named (Err fault) same there = tt

    kept : (result : Result ℕ Fault) → IfErr result (λ fault. fault ≡ Memory) → IfErr result
        (λ fault. (fault ≡ Memory) ⊎ ((fault ≡ TooLarge) × (TYPE_NODES_LIMIT < type_nodes (type_change theta (type_at t0 number)))))
    kept (Ok n) memory = tt
    kept (Err fault) memory = inl memory
