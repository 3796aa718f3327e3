-- Changing a term part by part.
use Rattle.std.proofs.Common.{◌≡◌, ◌⊎◌, ℕ, suc, ◌+◌, ◌<◌, ◌≤◌, List, length, Bool, true, false, refl, sym, ◌∙◌, ap, subst, inl, inr, Some, Result, Ok, Err, IfOk, IfErr, if◌then◌else◌, arith}
use Rattle.std.specs.Prelude.{slice_get}
use Rattle.std.proofs.lemmas.Option.{slice_get-get_or, get_or_from_slice_get}
use Rattle.hol_model.specs.declared.fault.Fault.{Fault}
use Rattle.hol_model.specs.declared.fault.Fault.TheVariants.{Memory, TooLarge}
use Rattle.hol_model.specs.Terms.HolType.{HolType, TypeInstance, bool_type}
use Rattle.hol_model.specs.Terms.Nameless.{Nameless, free, const, bound, app, lam}
use Rattle.hol_model.specs.Logic.Checks.{has_no_free}
use Rattle.hol_model.specs.Terms.Substitution.{close_at, fill_at, put, instantiate, TermInstance}
use Rattle.hol_model.specs.Logs.LogSequents.{term_instance_of}
use Rattle.hol_model.proofs.Logic.Conditions.{first_of_both, second_of_both}
use Rattle.hol_check_terms.specs.Terms.{TermTable, type_at, term_at, IsGrown, IsTooLarge}
use Rattle.hol_check_terms.specs.Entries.{IsEntry, HasOnlyAdded}
use Rattle.hol_check_changes.specs.Change.{PartChange, changed, closing, filling, putting, instantiating, IsMeant, spares, counts, IsPastLimits, IsChangedPart, IsPartMemo, IsTypeHeld, IsHeld}
use Rattle.hol_check_changes.specs.Change.{AnswersLeaf, Answers, AnswersTypeOf}
use Rattle.hol_check_changes.specs.declared.leaves.Change.{Change}
use Rattle.hol_check_changes.specs.declared.leaves.Change.TheVariants.{Close, Fill, Put, Instantiate}
use Rattle.hol_check_terms.specs.declared.memo.Place.{Place}
use Rattle.hol_check_changes.proofs.PairLemmas.{pairs-grown}
use Rattle.hol_check_changes.proofs.TypeChangeLemmas.{types-grown}
use Rattle.hol_check_terms.proofs.GrowthLemmas.{type-place, within-grown, term-grown, place-grown, term-there}

-- the four changes are those of the logic

pub changed-closing : (name : List ℕ) (ty : HolType) (passed : ℕ) (t : Nameless) → changed (closing name ty) passed t ≡ close_at passed name ty t
changed-closing name ty passed (free other s) = refl
changed-closing name ty passed (const other s) = refl
changed-closing name ty passed (bound index) = refl
changed-closing name ty passed (app f a) = cc (changed-closing name ty passed f, changed-closing name ty passed a)
changed-closing name ty passed (lam s body) = ap (lam s) (changed-closing name ty (suc passed) body)

pub changed-filling : (new : Nameless) (passed : ℕ) (t : Nameless) → changed (filling new) passed t ≡ fill_at passed new t
changed-filling new passed (free other s) = refl
changed-filling new passed (const other s) = refl
changed-filling new passed (bound index) = refl
changed-filling new passed (app f a) = cc (changed-filling new passed f, changed-filling new passed a)
changed-filling new passed (lam s body) = ap (lam s) (changed-filling new (suc passed) body)

pub changed-putting : (theta : TermInstance) (passed : ℕ) (t : Nameless) → changed (putting theta) passed t ≡ put theta t
changed-putting theta passed (free other s) = refl
changed-putting theta passed (const other s) = refl
changed-putting theta passed (bound index) = refl
changed-putting theta passed (app f a) = cc (changed-putting theta passed f, changed-putting theta passed a)
changed-putting theta passed (lam s body) = ap (lam s) (changed-putting theta passed body)

pub changed-instantiating : (tau : TypeInstance) (passed : ℕ) (t : Nameless) → changed (instantiating tau) passed t ≡ instantiate tau t
changed-instantiating tau passed (free other s) = refl
changed-instantiating tau passed (const other s) = refl
changed-instantiating tau passed (bound index) = refl
changed-instantiating tau passed (app f a) = cc (changed-instantiating tau passed f, changed-instantiating tau passed a)
changed-instantiating tau passed (lam s body) = ap (lam (type_of_tau s)) (changed-instantiating tau passed body)
  where
    type_of_tau : HolType → HolType
    type_of_tau = (instantiating tau).on_type

-- terms without free variables stay

spared-closing : (name : List ℕ) (ty : HolType) (passed : ℕ) (t : Nameless) → has_no_free t ≡ true → changed (closing name ty) passed t ≡ t
spared-closing name ty passed (free other s) none = cc
spared-closing name ty passed (const other s) none = refl
spared-closing name ty passed (bound index) none = refl
spared-closing name ty passed (app f a) none = cc (
  spared-closing name ty passed f (first_of_both (has_no_free f) (has_no_free a) none),
  spared-closing name ty passed a (second_of_both (has_no_free f) (has_no_free a) none),
)
spared-closing name ty passed (lam s body) none = ap (lam s) (spared-closing name ty (suc passed) body none)

spared-putting : (theta : TermInstance) (passed : ℕ) (t : Nameless) → has_no_free t ≡ true → changed (putting theta) passed t ≡ t
spared-putting theta passed (free other s) none = cc
spared-putting theta passed (const other s) none = refl
spared-putting theta passed (bound index) none = refl
spared-putting theta passed (app f a) none = cc (
  spared-putting theta passed f (first_of_both (has_no_free f) (has_no_free a) none),
  spared-putting theta passed a (second_of_both (has_no_free f) (has_no_free a) none),
)
spared-putting theta passed (lam s body) none = ap (lam s) (spared-putting theta passed body none)

spared : (table : TermTable) (change : Change) (meaning : PartChange) → IsMeant table change meaning → spares change ≡ true → (passed : ℕ) (t : Nameless) → has_no_free t ≡ true →
    changed meaning passed t ≡ t
spared table (Close variable) meaning meant is passed t none = subst (λ m. changed m passed t ≡ t) (sym meant.is_meant) (spared-closing meant.name meant.ty passed t none)
spared table (Fill new) meaning meant is passed t none = cc
spared table (Put pairs) meaning meant is passed t none = subst (λ m. changed m passed t ≡ t) (sym meant.is_meant) (spared-putting (term_instance_of meant.theta) passed t none)
spared table (Instantiate pairs) meaning meant is passed t none = cc

-- numbers keep what they name

pub meant-grown : (earlier now : TermTable) → IsGrown earlier now → (change : Change) (meaning : PartChange) → IsMeant earlier change meaning → IsMeant now change meaning
meant-grown earlier now grown (Close variable) meaning meant = record {
  name = meant.name;
  ty = meant.ty;
  is_variable = place-grown earlier now variable _ grown meant.is_variable;
  is_meant =
      meant.is_meant;
}
meant-grown earlier now grown (Fill new) meaning meant = record { term = meant.term; is_term = place-grown earlier now new _ grown meant.is_term; is_meant = meant.is_meant }
meant-grown earlier now grown (Put pairs) meaning meant = record {
  theta = meant.theta;
  are_pairs =
      pairs-grown earlier.terms now.terms grown.terms pairs.now meant.theta meant.are_pairs;
  is_meant = meant.is_meant;
}
meant-grown earlier now grown (Instantiate pairs) meaning meant = record {
  theta = meant.theta;
  are_pairs =
      pairs-grown earlier.types now.types grown.types pairs.now meant.theta meant.are_pairs;
  is_meant = meant.is_meant;
}

parts-grown : (earlier now : TermTable) (meaning : PartChange) (entries : List (Place × ℕ)) → IsGrown earlier now → IsPartMemo earlier.terms meaning entries → IsPartMemo now.terms meaning entries
parts-grown earlier now meaning entries grown memo place new there =
    let part = memo place new there in
    record {
      within = within-grown earlier now place.number grown part.within;
      is_changed = place-grown earlier now new _ grown part.is_changed ∙ ap (λ t. Some (changed meaning place.passed t)) (sym (term-grown earlier now place.number grown part.within));
    }

parts-added : (terms : List Nameless) (meaning : PartChange) (entries now : List (Place × ℕ)) (place : Place) (new : ℕ) → IsPartMemo terms meaning entries →
    HasOnlyAdded entries now place new → IsChangedPart terms meaning place new → IsPartMemo terms meaning now
parts-added terms meaning entries now place new memo added part other one there =
    elim (added other one there) [
      | inl early ↦ memo other one early
      | inr last ↦ subst (λ (p : Place). IsChangedPart terms meaning p one) (sym last.0) (subst (λ n. IsChangedPart terms meaning place n) (sym last.1) part)
    ]

pub type_held-grown : (earlier now : TermTable) (change : Change) (types : List (ℕ × ℕ)) (meaning : PartChange) → IsGrown earlier now → IsTypeHeld earlier change types meaning →
    IsTypeHeld now change types meaning
type_held-grown earlier now change types meaning grown held = record {
  meant = meant-grown earlier now grown change meaning held.meant;
  known_types = types-grown earlier.types now.types meaning.on_type types grown.types held.known_types;
}

pub held-grown : (earlier now : TermTable) (change : Change) (parts : List (Place × ℕ)) (types : List (ℕ × ℕ)) (meaning : PartChange) → IsGrown earlier now →
    IsHeld earlier change parts types meaning → IsHeld now change parts types meaning
held-grown earlier now change parts types meaning grown held = record {
  held = type_held-grown earlier now change types meaning grown held.held;
  known_parts = parts-grown earlier now meaning parts grown held.known_parts;
}

-- answers

-- a part that is left as it is
pub answers-spared : (table : TermTable) (change : Change) (parts : List (Place × ℕ)) (types : List (ℕ × ℕ)) (meaning : PartChange) (passed number : ℕ) → number < length table.terms →
    spares change ≡ true → has_no_free (term_at table.terms number) ≡ true
    → IsHeld table change parts types meaning → Answers (changed meaning passed (term_at table.terms number)) (Ok number) table change parts types meaning
answers-spared table change parts types meaning passed number within is none held = record {
  answered = record {
    number = slice_get-get_or table.terms number (bound 0) within ∙ ap Some (sym (spared table change meaning held.held.meant is passed (term_at table.terms number) none));
    refused = tt;
  };
  held = held;
}

-- a part that was worked out before
pub answers-known : (table : TermTable) (change : Change) (parts : List (Place × ℕ)) (types : List (ℕ × ℕ)) (meaning : PartChange) (passed number new : ℕ) →
    IsEntry parts (record { passed = passed; number = number }) new
    → IsHeld table change parts types meaning → Answers (changed meaning passed (term_at table.terms number)) (Ok new) table change parts types meaning
answers-known table change parts types meaning passed number new there held = record {
  answered = record { number = (held.known_parts (record { passed = passed; number = number }) new there).is_changed; refused = tt };
  held = held;
}

-- a leaf
pub answers-leaf : (earlier now : TermTable) (change : Change) (parts : List (Place × ℕ)) (before types : List (ℕ × ℕ)) (meaning : PartChange) (wanted : Nameless) (result : Result ℕ Fault) →
    IsGrown earlier now
    → IsHeld earlier change parts before meaning → AnswersLeaf wanted result now change types meaning → Answers wanted result now change parts types meaning
answers-leaf earlier now change parts before types meaning wanted result grown held leaf = record {
  answered = leaf.answered;
  held = record { held = leaf.held; known_parts = parts-grown earlier now meaning parts grown held.known_parts };
}

-- a part of a term past the limits makes the whole pass them

past-function : (f a : Nameless) → IsPastLimits f → IsPastLimits (app f a)
past-function f a (inl (inl high)) = inl (inl (omega arith))
past-function f a (inl (inr many)) = inl (inr (omega arith))
past-function f a (inr large) = inr (inl large)

past-argument : (f a : Nameless) → IsPastLimits a → IsPastLimits (app f a)
past-argument f a (inl (inl high)) = inl (inl (omega arith))
past-argument f a (inl (inr many)) = inl (inr (omega arith))
past-argument f a (inr large) = inr (inr large)

past-body : (ty : HolType) (body : Nameless) → IsPastLimits body → IsPastLimits (lam ty body)
past-body ty body (inl (inl high)) = inl (inl (omega arith))
past-body ty body (inl (inr many)) = inl (inr (omega arith))
past-body ty body (inr large) = inr (inr large)

-- a refused part refuses the whole
refused-whole : (wanted whole : Nameless) → (IsPastLimits wanted → IsPastLimits whole) →
    (fault : Fault) (table : TermTable) (change : Change) (parts : List (Place × ℕ)) (types : List (ℕ × ℕ)) (meaning : PartChange)
    → Answers wanted (Err fault) table change parts types meaning → Answers whole (Err fault) table change parts types meaning
refused-whole wanted whole past fault table change parts types meaning answers = record {
  answered = record { number = tt; refused = elim answers.answered.refused [ inl memory ↦ inl memory | inr large ↦ inr (large.0, past large.1) ] };
  held = answers.held;
}

changed-application : (meaning : PartChange) (passed : ℕ) (t f a : Nameless) → t ≡ app f a → app (changed meaning passed f) (changed meaning passed a) ≡ changed meaning passed t
changed-application meaning passed t f a is = sym (ap (changed meaning passed) is)

changed-abstraction : (meaning : PartChange) (passed : ℕ) (t : Nameless) (ty : HolType) (body : Nameless) → t ≡ lam ty body →
    lam (meaning.on_type ty) (changed meaning (meaning.under passed) body) ≡ changed meaning passed t
changed-abstraction meaning passed t ty body is = sym (ap (changed meaning passed) is)

pub refused-function : (meaning : PartChange) (passed : ℕ) (t f a : Nameless) → t ≡ app f a → (fault : Fault) (table : TermTable) (change : Change) (parts : List (Place × ℕ)) (types : List (ℕ × ℕ))
    → Answers (changed meaning passed f) (Err fault) table change parts types meaning → Answers (changed meaning passed t) (Err fault) table change parts types meaning
refused-function meaning passed t f a is fault table change parts types answers =
    refused-whole (changed meaning passed f) (changed meaning passed t) (λ past. subst IsPastLimits (changed-application meaning passed t f a is)
    (past-function (changed meaning passed f) (changed meaning passed a) past)) fault table change parts types meaning answers

pub refused-argument : (meaning : PartChange) (passed : ℕ) (t f a : Nameless) → t ≡ app f a → (fault : Fault) (table : TermTable) (change : Change) (parts : List (Place × ℕ)) (types : List (ℕ × ℕ))
    → Answers (changed meaning passed a) (Err fault) table change parts types meaning → Answers (changed meaning passed t) (Err fault) table change parts types meaning
refused-argument meaning passed t f a is fault table change parts types answers =
    refused-whole (changed meaning passed a) (changed meaning passed t) (λ past. subst IsPastLimits (changed-application meaning passed t f a is)
    (past-argument (changed meaning passed f) (changed meaning passed a) past)) fault table change parts types meaning answers

pub refused-body : (meaning : PartChange) (passed inside : ℕ) (t : Nameless) (ty : HolType) (body : Nameless) → t ≡ lam ty body → inside ≡ meaning.under passed →
    (fault : Fault) (table : TermTable) (change : Change) (parts : List (Place × ℕ)) (types : List (ℕ × ℕ))
    → Answers (changed meaning inside body) (Err fault) table change parts types meaning → Answers (changed meaning passed t) (Err fault) table change parts types meaning
refused-body meaning passed inside t ty body is deep fault table change parts types answers =
    refused-whole (changed meaning inside body) (changed meaning passed t)
    (λ past. subst IsPastLimits (ap (λ n. lam (meaning.on_type ty) (changed meaning n body)) deep ∙ changed-abstraction meaning passed t ty body is)
    (past-body (meaning.on_type ty) (changed meaning inside body) past)) fault table change parts types meaning answers

-- a written type that is refused
pub refused-binder : (meaning : PartChange) (passed : ℕ) (t : Nameless) (ty : HolType) (body : Nameless) → t ≡ lam ty body →
    (fault : Fault) (earlier now : TermTable) (change : Change) (parts : List (Place × ℕ)) (before types : List (ℕ × ℕ)) → IsGrown earlier now
    → IsHeld earlier change parts before meaning → AnswersTypeOf (meaning.on_type ty) (Err fault) now change types meaning →
    Answers (changed meaning passed t) (Err fault) now change parts types meaning
refused-binder meaning passed t ty body is fault earlier now change parts before types grown held answers = record {
  answered = record {
    number = tt;
    refused = elim answers.refused [ inl memory ↦ inl memory | inr large ↦ inr (large.0, subst IsPastLimits (changed-abstraction meaning passed t ty body is) (inr (inl large.1))) ];
  };
  held = record { held = answers.held; known_parts = parts-grown earlier now meaning parts grown held.known_parts };
}

-- what was worked out, after a written type
pub held-after-type : (meaning : PartChange) (earlier now : TermTable) (change : Change) (parts : List (Place × ℕ)) (before types : List (ℕ × ℕ)) → IsGrown earlier now
    → IsHeld earlier change parts before meaning → IsTypeHeld now change types meaning → IsHeld now change parts types meaning
held-after-type meaning earlier now change parts before types grown held after = record { held = after; known_parts = parts-grown earlier now meaning parts grown held.known_parts }

-- a term that is made of its parts, or refused
pub answers-refused : (before now : TermTable) (change : Change) (parts : List (Place × ℕ)) (types : List (ℕ × ℕ)) (meaning : PartChange) (wanted made : Nameless) (fault : Fault) →
    IsGrown before now → made ≡ wanted
    → (fault ≡ Memory) ⊎ ((fault ≡ TooLarge) × IsTooLarge made) → IsHeld before change parts types meaning → Answers wanted (Err fault) now change parts types meaning
answers-refused before now change parts types meaning wanted made fault grown is refused held = record {
  answered = record { number = tt; refused = elim refused [ inl memory ↦ inl memory | inr large ↦ inr (large.0, inl (subst IsTooLarge is large.1)) ] };
  held = held-grown before now change parts types meaning grown held;
}

pub answers-made : (t0 before now : TermTable) (change : Change) (parts later : List (Place × ℕ)) (types : List (ℕ × ℕ)) (meaning : PartChange) (passed number : ℕ) (made : Nameless)
    (new : ℕ) (result : Result ℕ Fault)
    → IsGrown t0 now → IsGrown before now → number < length t0.terms → made ≡ changed meaning passed (term_at t0.terms number) → slice_get now.terms new ≡ Some made →
    IsHeld before change parts types meaning
    → IfOk result (λ same. same ≡ new) → IfErr result (λ fault. fault ≡ Memory) → HasOnlyAdded parts later (record { passed = passed; number = number }) new
    → Answers (changed meaning passed (term_at t0.terms number)) result now change later types meaning
answers-made t0 before now change parts later types meaning passed number made new result grown last within is there held same refused added =
    let is_new : slice_get now.terms new ≡ Some (changed meaning passed (term_at t0.terms number)) = there ∙ ap Some is in
    let after = held-grown before now change parts types meaning last held in
    record {
      answered = record { number = named result same is_new; refused = kept result refused };
      held = record {
        held = after.held;
        known_parts = parts-added now.terms meaning parts later (record { passed = passed; number = number }) new after.known_parts added
            (record { within = within-grown t0 now number grown within; is_changed = is_new ∙ ap (λ t. Some (changed meaning passed t)) (sym (term-grown t0 now number grown within)) });
      };
    }
  where
    named : (result : Result ℕ Fault) → IfOk result (λ same. same ≡ new) → slice_get now.terms new ≡ Some (changed meaning passed (term_at t0.terms number)) →
        IfOk result (λ n. slice_get now.terms n ≡ Some (changed meaning passed (term_at t0.terms number)))
    named (Ok n) same there = ap (slice_get now.terms) same ∙ there
    named (Err fault) same there = tt

    kept : (result : Result ℕ Fault) → IfErr result (λ fault. fault ≡ Memory) → IfErr result
        (λ fault. (fault ≡ Memory) ⊎ ((fault ≡ TooLarge) × IsPastLimits (changed meaning passed (term_at t0.terms number))))
    kept (Ok n) memory = tt
    kept (Err fault) memory = inl memory

-- the new parts of a combination, and of an abstraction

pub application-parts : (t1 t2 : TermTable) (meaning : PartChange) (passed : ℕ) (t f a : Nameless) (new_f new_a : ℕ) → IsGrown t1 t2 → t ≡ app f a
    → slice_get t1.terms new_f ≡ Some (changed meaning passed f) → slice_get t2.terms new_a ≡ Some (changed meaning passed a) →
    app (term_at t2.terms new_f) (term_at t2.terms new_a) ≡ changed meaning passed t
application-parts t1 t2 meaning passed t f a new_f new_a grown is first second =
    let left : term_at t2.terms new_f ≡ changed meaning passed f = term-there t2.terms new_f _ (place-grown t1 t2 new_f _ grown first) in
    let right : term_at t2.terms new_a ≡ changed meaning passed a = term-there t2.terms new_a _ second in
    (λ i. app (left i) (right i)) ∙ changed-application meaning passed t f a is

pub abstraction-parts : (t1 t2 : TermTable) (meaning : PartChange) (passed inside : ℕ) (t : Nameless) (ty : HolType) (body : Nameless) (new_ty new_body : ℕ) → IsGrown t1 t2 →
    t ≡ lam ty body → inside ≡ meaning.under passed
    → slice_get t1.types new_ty ≡ Some (meaning.on_type ty) → slice_get t2.terms new_body ≡ Some (changed meaning inside body) →
    lam (type_at t2.types new_ty) (term_at t2.terms new_body) ≡ changed meaning passed t
abstraction-parts t1 t2 meaning passed inside t ty body new_ty new_body grown is deep first second =
    let left : type_at t2.types new_ty ≡ meaning.on_type ty = get_or_from_slice_get t2.types new_ty _ bool_type (type-place t1.types t2.types new_ty _ grown.types first) in
    let right : term_at t2.terms new_body ≡ changed meaning (meaning.under passed) body = term-there t2.terms new_body _ second ∙ ap (λ n. changed meaning n body) deep in
    (λ i. lam (left i) (right i)) ∙ changed-abstraction meaning passed t ty body is

-- how binders are counted
pub under-is : (table : TermTable) (change : Change) (meaning : PartChange) → IsMeant table change meaning → (passed inside : ℕ) → inside ≡ (if counts change then passed + 1 else passed) →
    inside ≡ meaning.under passed
under-is table (Close variable) meaning meant passed inside is = is ∙ (one ∙ sym (ap (λ (m : PartChange). m.under passed) meant.is_meant))
  where
    one : passed + 1 ≡ suc passed
    one = omega arith
under-is table (Fill new) meaning meant passed inside is = is ∙ (one ∙ sym (ap (λ (m : PartChange). m.under passed) meant.is_meant))
  where
    one : passed + 1 ≡ suc passed
    one = omega arith
under-is table (Put pairs) meaning meant passed inside is = is ∙ sym (ap (λ (m : PartChange). m.under passed) meant.is_meant)
under-is table (Instantiate pairs) meaning meant passed inside is = is ∙ sym (ap (λ (m : PartChange). m.under passed) meant.is_meant)

pub inside-bound : (change : Change) (passed inside : ℕ) → inside ≡ (if counts change then passed + 1 else passed) → inside ≤ passed + 1
inside-bound change passed inside is = go (counts change) is
  where
    go : (test : Bool) → inside ≡ (if test then passed + 1 else passed) → inside ≤ passed + 1
    go true is = omega arith
    go false is = omega arith
