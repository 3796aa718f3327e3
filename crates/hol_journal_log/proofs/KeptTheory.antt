-- The theory of the entries that are kept agrees with that of all entries on the names whose entries are kept.
use Rattle.std.proofs.Common.{◌≡◌, ◌⊎◌, ◌≤◌, ℕ, List, [], ◌∷◌, ◌++◌, length, Bool, true, false, ◌&&◌, ◌||◌, not, refl, sym, ◌∙◌, ap, subst, inl, inr, Some, if◌then◌else◌, arith, nat_le, length-append}
use Rattle.std.specs.List.{flat_map}
use Rattle.std.specs.Option.{is_some, option_map_or}
use Rattle.std.specs.Str.{bytes_eq}
use Rattle.std.proofs.lemmas.Slice.Eq.{bytes_eq-Decides}
use Rattle.hol_model.specs.declared.limits.TheConstants.{DEFINITIONS_LIMIT}
use Rattle.hol_model.specs.Terms.HolType.{HolType, type_variable, bool_type, function_type, declared_type, is_instance}
use Rattle.hol_model.specs.Terms.NamedTerm.{NamedTerm, variable, constant, combination, abstraction}
use Rattle.hol_model.specs.Logic.Derivable.{IsMember}
use Rattle.hol_model.specs.Logic.Theory.{Theory, Entry, definition, declaration_of_type, declaration_of_constant, generic_type, IsLegal}
use Rattle.hol_model.specs.Logic.KnownTerm.{is_declared, knows_type, knows_types, knows_constants, has_instances}
use Rattle.hol_model.specs.Logic.Legality.{is_new_name}
use Rattle.hol_model.proofs.Terms.Membership.{IsMember-append_left, IsMember-append_right}
use Rattle.hol_model.proofs.Tests.{second_of_both}
use Rattle.hol_model.proofs.Logic.Later.{rest_is_legal}
use Rattle.hol_journal.specs.Steps as steps
use Rattle.hol_journal.specs.Steps.{by_refl, by_trans, by_mk_comb, by_abs, by_beta, by_assume, by_eq_mp, by_deduct, by_inst, by_inst_type, by_eta}
use Rattle.hol_journal.specs.Steps.{by_select, by_definition, JournalEntry, derived, declared_constant}
use Rattle.hol_journal.specs.Journal.{added_by, grown_by, IsKnownWithin, IsKnownTypeWithin}
use Rattle.hol_journal_log.specs.Needed.{names_in_type, names_in_term, introduced_by}
use Rattle.hol_journal_log.proofs.LogParts.{less_fits}

-- a member of what a member makes
pub in_flat_map : {A B : Type 0} (f : A → List B) (x : A) (xs : List A) (b : B) → IsMember x xs → IsMember b (f x) → IsMember b (flat_map f xs)
in_flat_map f x [] b m there = absurd m
in_flat_map f x (y ∷ xs) b (inl same) there = IsMember-append_left b (f y) (flat_map f xs) (subst (λ a. IsMember b (f a)) same there)
in_flat_map f x (y ∷ xs) b (inr m) there = IsMember-append_right b (f y) (flat_map f xs) (in_flat_map f x xs b m there)

-- theories that agree on a name
pub record Agree (theory kept : Theory) (name : List ℕ) : Type 0 where
  pub generic : generic_type kept name ≡ generic_type theory name
  pub declared : is_declared kept name ≡ is_declared theory name

-- what the theories say alike, where they agree on the names in it
module _ (theory kept : Theory) where
  abbrev pub AgreeOn : List (List ℕ) → Type 0
  AgreeOn names = (name : List ℕ) → IsMember name names → Agree theory kept name

  same_type : (ty : HolType) → AgreeOn (names_in_type ty) → knows_type kept ty ≡ knows_type theory ty
  same_type (type_variable name) agree = refl
  same_type bool_type agree = refl
  same_type (declared_type name) agree = (agree name (inl refl)).declared
  same_type (function_type a b) agree =
      let one = same_type a (λ name m. agree name (IsMember-append_left name (names_in_type a) (names_in_type b) m)) in
      let two = same_type b (λ name m. agree name (IsMember-append_right name (names_in_type a) (names_in_type b) m)) in
      λ i. one i && two i

  same_types : (term : NamedTerm) → AgreeOn (names_in_term term) → knows_types kept term ≡ knows_types theory term
  same_types (variable name ty) agree = same_type ty agree
  same_types (constant name ty) agree = same_type ty (λ other m. agree other (inr m))
  same_types (combination f a) agree =
      let one = same_types f (λ name m. agree name (IsMember-append_left name (names_in_term f) (names_in_term a) m)) in
      let two = same_types a (λ name m. agree name (IsMember-append_right name (names_in_term f) (names_in_term a) m)) in
      λ i. one i && two i
  same_types (abstraction name ty body) agree =
      let one = same_type ty (λ other m. agree other (IsMember-append_left other (names_in_type ty) (names_in_term body) m)) in
      let two = same_types body (λ other m. agree other (IsMember-append_right other (names_in_type ty) (names_in_term body) m)) in
      λ i. one i && two i

  same_constants : (term : NamedTerm) → AgreeOn (names_in_term term) → knows_constants kept term ≡ knows_constants theory term
  same_constants (variable name ty) agree = refl
  same_constants (constant name ty) agree = ap is_some (agree name (inl refl)).generic
  same_constants (combination f a) agree =
      let one = same_constants f (λ name m. agree name (IsMember-append_left name (names_in_term f) (names_in_term a) m)) in
      let two = same_constants a (λ name m. agree name (IsMember-append_right name (names_in_term f) (names_in_term a) m)) in
      λ i. one i && two i
  same_constants (abstraction name ty body) agree = same_constants body (λ other m. agree other (IsMember-append_right other (names_in_type ty) (names_in_term body) m))

  same_instances : (term : NamedTerm) → AgreeOn (names_in_term term) → has_instances kept term ≡ has_instances theory term
  same_instances (variable name ty) agree = refl
  same_instances (constant name ty) agree = ap (λ g. option_map_or (λ generic. is_instance generic ty) g false) (agree name (inl refl)).generic
  same_instances (combination f a) agree =
      let one = same_instances f (λ name m. agree name (IsMember-append_left name (names_in_term f) (names_in_term a) m)) in
      let two = same_instances a (λ name m. agree name (IsMember-append_right name (names_in_term f) (names_in_term a) m)) in
      λ i. one i && two i
  same_instances (abstraction name ty body) agree = same_instances body (λ other m. agree other (IsMember-append_right other (names_in_type ty) (names_in_term body) m))

  pub type_kept : (ty : HolType) → AgreeOn (names_in_type ty) → IsKnownTypeWithin theory ty → IsKnownTypeWithin kept ty
  type_kept ty agree known = record { known = same_type ty agree ∙ known.known; fits = known.fits }

  pub term_kept : (term : NamedTerm) → AgreeOn (names_in_term term) → IsKnownWithin theory term → IsKnownWithin kept term
  term_kept term agree known =
      let one = same_types term agree in
      let two = same_constants term agree in
      let three = same_instances term agree in
      record { ty = known.ty; typed = known.typed; known = (λ i. one i && two i && three i) ∙ known.known; within_limits = known.within_limits }

-- one entry more

abbrev pub entry_name : Entry → List ℕ
entry_name (definition name ty body) = name
entry_name (declaration_of_type name) = name
entry_name (declaration_of_constant name ty) = name

pub agree_both : (entry : Entry) (theory kept : Theory) (name : List ℕ) → Agree theory kept name → Agree (entry ∷ theory) (entry ∷ kept) name
agree_both (definition other ty body) theory kept name agree = record { generic = ap (λ g. if bytes_eq other name then Some ty else g) agree.generic; declared = agree.declared }
agree_both (declaration_of_type other) theory kept name agree = record { generic = agree.generic; declared = ap (λ d. bytes_eq other name || d) agree.declared }
agree_both (declaration_of_constant other ty) theory kept name agree = record { generic = ap (λ g. if bytes_eq other name then Some ty else g) agree.generic; declared = agree.declared }

pub agree_other : (entry : Entry) (theory kept : Theory) (name : List ℕ) → ¬ (entry_name entry ≡ name) → Agree theory kept name → Agree (entry ∷ theory) kept name
agree_other entry theory kept name other agree = go entry (not_same entry other)
  where
    not_same : (e : Entry) → ¬ (entry_name e ≡ name) → bytes_eq (entry_name e) name ≡ false
    not_same e differs = decide (bytes_eq (entry_name e) name) refl
      where
        decide : (t : Bool) → bytes_eq (entry_name e) name ≡ t → t ≡ false
        decide true passed = absurd (differs ((bytes_eq-Decides (entry_name e) name).0 passed))
        decide false passed = refl

    go : (e : Entry) → bytes_eq (entry_name e) name ≡ false → Agree (e ∷ theory) kept name
    go (definition new ty body) differs = record { generic = agree.generic ∙ ap (λ t. if t then Some ty else generic_type theory name) (sym differs); declared = agree.declared }
    go (declaration_of_type new) differs = record { generic = agree.generic; declared = agree.declared ∙ ap (λ t. t || is_declared theory name) (sym differs) }
    go (declaration_of_constant new ty) differs = record { generic = agree.generic ∙ ap (λ t. if t then Some ty else generic_type theory name) (sym differs); declared = agree.declared }

-- new names

-- a name that is new over more is new over less
pub new_earlier : (entry : Entry) (theory : Theory) (name : List ℕ) → is_new_name (entry ∷ theory) name ≡ true → is_new_name theory name ≡ true
new_earlier (definition other ty body) theory name is_new = go (bytes_eq other name) is_new
  where
    go : (t : Bool) → (not (is_some (if t then Some ty else generic_type theory name)) && not (is_declared theory name)) ≡ true → is_new_name theory name ≡ true
    go true is_new = cc
    go false is_new = is_new
new_earlier (declaration_of_type other) theory name is_new = go (bytes_eq other name) is_new
  where
    go : (t : Bool) → (not (is_some (generic_type theory name)) && not (t || is_declared theory name)) ≡ true → is_new_name theory name ≡ true
    go true is_new = let none : not true ≡ true = second_of_both (not (is_some (generic_type theory name))) (not true) is_new in cc
    go false is_new = is_new
new_earlier (declaration_of_constant other ty) theory name is_new = go (bytes_eq other name) is_new
  where
    go : (t : Bool) → (not (is_some (if t then Some ty else generic_type theory name)) && not (is_declared theory name)) ≡ true → is_new_name theory name ≡ true
    go true is_new = cc
    go false is_new = is_new

-- a name that is new over both with the same entry
pub new_both : (entry : Entry) (theory kept : Theory) (name : List ℕ) → is_new_name (entry ∷ theory) name ≡ true → is_new_name kept name ≡ true → is_new_name (entry ∷ kept) name ≡ true
new_both (definition other ty body) theory kept name is_new before = go (bytes_eq other name) is_new
  where
    go : (t : Bool) → (not (is_some (if t then Some ty else generic_type theory name)) && not (is_declared theory name)) ≡ true
        → (not (is_some (if t then Some ty else generic_type kept name)) && not (is_declared kept name)) ≡ true
    go true is_new = cc
    go false is_new = before
new_both (declaration_of_type other) theory kept name is_new before = go (bytes_eq other name) is_new
  where
    go : (t : Bool) → (not (is_some (generic_type theory name)) && not (t || is_declared theory name)) ≡ true → (not (is_some (generic_type kept name)) && not (t || is_declared kept name)) ≡ true
    go true is_new = let none : not true ≡ true = second_of_both (not (is_some (generic_type theory name))) (not true) is_new in cc
    go false is_new = before
new_both (declaration_of_constant other ty) theory kept name is_new before = go (bytes_eq other name) is_new
  where
    go : (t : Bool) → (not (is_some (if t then Some ty else generic_type theory name)) && not (is_declared theory name)) ≡ true
        → (not (is_some (if t then Some ty else generic_type kept name)) && not (is_declared kept name)) ≡ true
    go true is_new = cc
    go false is_new = before

-- an entry of the journal adds nothing and introduces no name, or adds one entry of the name that it introduces

abbrev AddsOne : JournalEntry → Type 0
AddsOne entry = (added : Entry) × (added_by entry ≡ added ∷ []) × (introduced_by entry ≡ Some (entry_name added))

pub adds : (entry : JournalEntry) → (added_by entry ≡ []) ⊎ AddsOne entry
adds (derived (by_refl term) sequent) = inl refl
adds (derived (by_trans first second) sequent) = inl refl
adds (derived (by_mk_comb first second) sequent) = inl refl
adds (derived (by_abs binder theorem) sequent) = inl refl
adds (derived (by_beta term) sequent) = inl refl
adds (derived (by_assume term) sequent) = inl refl
adds (derived (by_eq_mp first second) sequent) = inl refl
adds (derived (by_deduct first second) sequent) = inl refl
adds (derived (by_inst theorem pairs) sequent) = inl refl
adds (derived (by_inst_type theorem pairs) sequent) = inl refl
adds (derived by_eta sequent) = inl refl
adds (derived by_select sequent) = inl refl
adds (derived (by_definition name term) sequent) = inr (_, refl, refl)
adds (steps.declared_type name) = inr (_, refl, refl)
adds (declared_constant name ty) = inr (_, refl, refl)

-- what holds of a theory held of each that it grew from

pub grown_by-append : (theory : Theory) (before after : List JournalEntry) → grown_by theory (before ++ after) ≡ grown_by (grown_by theory before) after
grown_by-append theory [] after = refl
grown_by-append theory (entry ∷ before) after = grown_by-append (added_by entry ++ theory) before after

legal_without : (added theory : Theory) → IsLegal (added ++ theory) → IsLegal theory
legal_without [] theory legal = legal
legal_without (entry ∷ added) theory legal = legal_without added theory (rest_is_legal entry (added ++ theory) legal)

pub legal_before : (theory : Theory) (entries : List JournalEntry) → IsLegal (grown_by theory entries) → IsLegal theory
legal_before theory [] legal = legal
legal_before theory (entry ∷ entries) legal = legal_without (added_by entry) theory (legal_before (added_by entry ++ theory) entries legal)

grows_longer : (theory : Theory) (entries : List JournalEntry) → length theory ≤ length (grown_by theory entries)
grows_longer theory [] = omega arith
grows_longer theory (entry ∷ entries) =
    let deeper = grows_longer (added_by entry ++ theory) entries in
    let sum = length-append (added_by entry) theory in
    omega arith

pub room_before : (theory : Theory) (entries : List JournalEntry) → nat_le (length (grown_by theory entries)) DEFINITIONS_LIMIT ≡ true → nat_le (length theory) DEFINITIONS_LIMIT ≡ true
room_before theory entries room = less_fits (length theory) (length (grown_by theory entries)) DEFINITIONS_LIMIT (grows_longer theory entries) room
