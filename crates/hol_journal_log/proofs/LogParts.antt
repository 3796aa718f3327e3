-- The lines of types and of terms are accepted, and their numbers name the types and the images of the terms.
use Rattle.std.proofs.Common.{◌≡◌, ◌≤◌, ◌+◌, ℕ, List, [], ◌∷◌, length, true, false, ◌&&◌, not, refl, sym, ◌∙◌, ap, subst, inl, inr, Some, arith, nat_le}
use Rattle.std.specs.Option.{option_map}
use Rattle.std.specs.List.{list_all}
use Rattle.std.proofs.lemmas.Bool.{leb-true, le-leb, lt-leb}
use Rattle.std.proofs.lemmas.Option.{slice_get_within, get_or_from_slice_get}
use Rattle.hol_model.specs.declared.limits.TheConstants.{DEFINITIONS_LIMIT, TYPE_NODES_LIMIT, TERM_NODES_LIMIT, TERM_HEIGHT_LIMIT}
use Rattle.hol_model.specs.Logic.Derivable.{IsMember}
use Rattle.hol_model.specs.Terms.HolType.{HolType, type_variable, bool_type, function_type, declared_type, type_nodes}
use Rattle.hol_model.specs.Terms.NamedTerm.{NamedTerm, variable, constant, combination, abstraction, type_of, type_fits, some_type_fits, types_fit, height, nodes}
use Rattle.hol_model.specs.Terms.Nameless.{Nameless, bound, free, const, app, image}
use Rattle.hol_model.specs.Terms.Measures.{nameless_within_limits}
use Rattle.hol_model.specs.Logic.Theory.{Theory}
use Rattle.hol_model.specs.Logic.KnownTerm.{knows_type, knows_types, knows_constants, has_instances}
use Rattle.hol_model.specs.Logic.Checks.{knows_constant}
use Rattle.hol_model.specs.Logs.LogLine.{LogLine}
use Rattle.hol_model.specs.Logs.LogLine.LogLine.{type_variable_line, bool_line, function_type_line, declared_type_line, variable_line, constant_line, combination_line, abstraction_line}
use Rattle.hol_model.specs.Logs.LogState.{LogState, term_type}
use Rattle.hol_model.specs.Logs.LogSequents.{is_free_variable, abstraction_over, new_types, new_terms}
use Rattle.hol_model.specs.Logs.LogFaults.{takes, is_first_version}
use Rattle.hol_model.proofs.Tests.{first_of_both, second_of_both}
use Rattle.hol_model.proofs.Terms.HolTypeEq.{type_eq-Decides}
use Rattle.hol_model.proofs.Terms.Images.{application-typed, image-abstraction}
use Rattle.hol_model.proofs.Terms.Measures.{some_type}
use Rattle.hol_model.proofs.Terms.WithinLimits.{within_limits-image}
use Rattle.hol_journal.specs.Journal.{IsKnownWithin, IsKnownTypeWithin}
use Rattle.hol_journal_log.specs.LogWriting.{Written, same_line, is_among, place_of, type_line, type_number, term_line, term_number, with_type_line}
use Rattle.hol_journal_log.specs.LogWriting.{with_term_line, write_type, write_variable, write_term, write_types, write_terms}
use Rattle.hol_journal.specs.Lines.{NamesType, NamesTerm}
use Rattle.hol_journal.proofs.Showing.{neither}
use Rattle.hol_journal.proofs.SequentLemmas.{term_type-image}
use Rattle.hol_journal_log.proofs.LogTables.{GoesOn, line_there, still_there, same_place, type_variable_is-part, function_is-part}
use Rattle.hol_journal_log.proofs.LogTables.{declared_type_is-part, variable_is-part, constant_is-part, combination_is-part, abstraction_is-part}
use Rattle.hol_journal_log.proofs.LogRuns.{IsLog, Wrote, wrote-nothing, wrote-twice, wrote-type_line, wrote-term_line, faultless}

-- what has lines

abbrev pub HasType : List LogLine → HolType → Type 0
HasType types (type_variable name) = is_among (type_line types (type_variable name)) types ≡ true
HasType types bool_type = is_among (type_line types bool_type) types ≡ true
HasType types (function_type a b) = HasType types a × HasType types b × (is_among (type_line types (function_type a b)) types ≡ true)
HasType types (declared_type name) = is_among (type_line types (declared_type name)) types ≡ true

abbrev pub HasVariable : List LogLine → List LogLine → List ℕ → HolType → Type 0
HasVariable types terms name ty = HasType types ty × (is_among (variable_line name (type_number types ty)) terms ≡ true)

abbrev pub HasTerm : List LogLine → List LogLine → NamedTerm → Type 0
HasTerm types terms (variable name ty) = HasVariable types terms name ty
HasTerm types terms (constant name ty) = HasType types ty × (is_among (term_line types terms (constant name ty)) terms ≡ true)
HasTerm types terms (combination f a) = HasTerm types terms f × HasTerm types terms a × (is_among (term_line types terms (combination f a)) terms ≡ true)
HasTerm types terms (abstraction name ty body) =
    HasVariable types terms name ty × HasTerm types terms body × (is_among (term_line types terms (abstraction name ty body)) terms ≡ true)

-- it stays so, with the same numbers

stays_line : (old new : List LogLine) → GoesOn old new → (line now : LogLine) → now ≡ line → is_among line old ≡ true → (is_among now new ≡ true) × (place_of now new ≡ place_of line old)
stays_line old new on line now same among = (
  (λ i. is_among (same i) (on.is i)) ∙ still_there (same_line line) old on.added among,
  (λ i. place_of (same i) (on.is i)) ∙ same_place (same_line line) old on.added among,
)

pub record StaysType (old new : List LogLine) (ty : HolType) : Type 0 where
  pub has : HasType new ty
  pub number : type_number new ty ≡ type_number old ty

pub stays_type : (old new : List LogLine) → GoesOn old new → (ty : HolType) → HasType old ty → StaysType old new ty
stays_type old new on (type_variable name) has = let s = stays_line old new on (type_line old (type_variable name)) (type_line new (type_variable name)) refl has in record { has = s.0; number = s.1 }
stays_type old new on bool_type has = let s = stays_line old new on bool_line bool_line refl has in record { has = s.0; number = s.1 }
stays_type old new on (declared_type name) has = let s = stays_line old new on (type_line old (declared_type name)) (type_line new (declared_type name)) refl has in record { has = s.0; number = s.1 }
stays_type old new on (function_type a b) has =
    let one = stays_type old new on a has.0 in
    let two = stays_type old new on b has.1 in
    let s = stays_line old new on (type_line old (function_type a b)) (type_line new (function_type a b)) (λ i. function_type_line (one.number i) (two.number i)) has.2 in
    record { has = (one.has, two.has, s.0); number = s.1 }

pub record StaysTerm (types now_types terms now : List LogLine) (term : NamedTerm) : Type 0 where
  pub has : HasTerm now_types now term
  pub number : term_number now_types now term ≡ term_number types terms term

pub stays_term : (types now_types terms now : List LogLine) → GoesOn types now_types → GoesOn terms now → (term : NamedTerm) → HasTerm types terms term → StaysTerm types now_types terms now term
stays_term types now_types terms now on_types on_terms (variable name ty) has =
    let one = stays_type types now_types on_types ty has.0 in
    let s = stays_line terms now on_terms (variable_line name (type_number types ty)) (variable_line name (type_number now_types ty)) (ap (variable_line name) one.number) has.1 in
    record { has = (one.has, s.0); number = s.1 }
stays_term types now_types terms now on_types on_terms (constant name ty) has =
    let one = stays_type types now_types on_types ty has.0 in
    let s = stays_line terms now on_terms (constant_line name (type_number types ty)) (constant_line name (type_number now_types ty)) (ap (constant_line name) one.number) has.1 in
    record { has = (one.has, s.0); number = s.1 }
stays_term types now_types terms now on_types on_terms (combination f a) has =
    let one = stays_term types now_types terms now on_types on_terms f has.0 in
    let two = stays_term types now_types terms now on_types on_terms a has.1 in
    let s = stays_line terms now on_terms (term_line types terms (combination f a)) (term_line now_types now (combination f a)) (λ i. combination_line (one.number i) (two.number i)) has.2 in
    record { has = (one.has, two.has, s.0); number = s.1 }
stays_term types now_types terms now on_types on_terms (abstraction name ty body) has =
    let binder = stays_type types now_types on_types ty has.0.0 in
    let one = stays_line terms now on_terms (variable_line name (type_number types ty)) (variable_line name (type_number now_types ty)) (ap (variable_line name) binder.number) has.0.1 in
    let two = stays_term types now_types terms now on_types on_terms body has.1 in
    let s = stays_line terms now on_terms (term_line types terms (abstraction name ty body)) (term_line now_types now (abstraction name ty body))
    (λ i. abstraction_line (one.1 i) (two.number i)) has.2 in
    record { has = ((binder.has, one.0), two.has, s.0); number = s.1 }

-- what the numbers name

module _ (written : Written) (state : LogState) (log : IsLog written state) where
  line_names_type : (line : LogLine) (ty : HolType) → is_among line written.types ≡ true → new_types state line ≡ ty ∷ [] → NamesType state (place_of line written.types) ty
  line_names_type line ty among made =
      let found = log.types.stands (place_of line written.types) line (line_there line written.types among) in
      let same : found.0 ≡ ty = cc (found.2, made) in
      record {
        there = lt-leb (length state.types) (place_of line written.types) (slice_get_within state.types (place_of line written.types) found.0 found.1);
        is = get_or_from_slice_get state.types (place_of line written.types) found.0 bool_type found.1 ∙ same;
      }

  line_names_term : (line : LogLine) (term : Nameless) → is_among line written.terms ≡ true → new_terms state line ≡ term ∷ [] → NamesTerm state (place_of line written.terms) term
  line_names_term line term among made =
      let found = log.terms.stands (place_of line written.terms) line (line_there line written.terms among) in
      let same : found.0 ≡ term = cc (found.2, made) in
      record {
        there = lt-leb (length state.terms) (place_of line written.terms) (slice_get_within state.terms (place_of line written.terms) found.0 found.1);
        is = get_or_from_slice_get state.terms (place_of line written.terms) found.0 (bound 0) found.1 ∙ same;
      }

  pub names_type : (ty : HolType) → HasType written.types ty → NamesType state (type_number written.types ty) ty
  names_type (type_variable name) has = line_names_type (type_variable_line name) (type_variable name) has refl
  names_type bool_type has = line_names_type bool_line bool_type has refl
  names_type (declared_type name) has = line_names_type (declared_type_line name) (declared_type name) has refl
  names_type (function_type a b) has =
      let one = names_type a has.0 in
      let two = names_type b has.1 in
      line_names_type (type_line written.types (function_type a b)) (function_type a b) has.2 (λ i. function_type (one.is i) (two.is i) ∷ [])

  names_variable : (name : List ℕ) (ty : HolType) → HasVariable written.types written.terms name ty
      → NamesTerm state (place_of (variable_line name (type_number written.types ty)) written.terms) (free name ty)
  names_variable name ty has = let one = names_type ty has.0 in line_names_term (variable_line name (type_number written.types ty)) (free name ty) has.1 (λ i. free name (one.is i) ∷ [])

  pub names_term : (term : NamedTerm) → HasTerm written.types written.terms term → NamesTerm state (term_number written.types written.terms term) (image term)
  names_term (variable name ty) has = names_variable name ty has
  names_term (constant name ty) has = let one = names_type ty has.0 in line_names_term (constant_line name (type_number written.types ty)) (const name ty) has.1 (λ i. const name (one.is i) ∷ [])
  names_term (combination f a) has =
      let one = names_term f has.0 in
      let two = names_term a has.1 in
      line_names_term (term_line written.types written.terms (combination f a)) (image (combination f a)) has.2 (λ i. app (one.is i) (two.is i) ∷ [])
  names_term (abstraction name ty body) has =
      let one = names_variable name ty has.0 in
      let two = names_term body has.1 in
      line_names_term (term_line written.types written.terms (abstraction name ty body)) (image (abstraction name ty body)) has.2
      ((λ i. abstraction_over (one.is i) (two.is i) ∷ []) ∙ ap (λ (t : Nameless). t ∷ []) (sym (image-abstraction name ty body)))

-- limits

pub less_fits : (m n limit : ℕ) → m ≤ n → nat_le n limit ≡ true → nat_le m limit ≡ true
less_fits m n limit less fits = let within : n ≤ limit = leb-true n limit fits in le-leb m limit (omega arith)

-- the theory of the log is within the limit
abbrev pub HasRoom : LogState → Type 0
HasRoom state = nat_le (length state.theory) DEFINITIONS_LIMIT ≡ true

pub no_entry_fits : (state : LogState) → HasRoom state → nat_le (0 + length state.theory) DEFINITIONS_LIMIT ≡ true
no_entry_fits state room = less_fits (0 + length state.theory) (length state.theory) DEFINITIONS_LIMIT (omega arith) room

type_fits_there : (state : LogState) (ty : HolType) → HasRoom state → type_fits ty ≡ true → (types : List HolType) → types ≡ ty ∷ []
    → not (list_all type_fits types && true && true && nat_le (0 + length state.theory) DEFINITIONS_LIMIT) ≡ false
type_fits_there state ty room fits types is = rw (is, fits, no_entry_fits state room) refl

term_fits_there : (state : LogState) (term : Nameless) → HasRoom state → nameless_within_limits term ≡ true → (terms : List Nameless) → terms ≡ term ∷ []
    → not (true && list_all nameless_within_limits terms && true && nat_le (0 + length state.theory) DEFINITIONS_LIMIT) ≡ false
term_fits_there state term room fits terms is = rw (is, fits, no_entry_fits state room) refl

-- types

pub record WroteType (ty : HolType) (written : Written) (state : LogState) : Type 0 where
  pub wrote : Wrote written (write_type ty written) state
  pub has : HasType (write_type ty written).types ty

pub room_later : (state after : LogState) → after.theory ≡ state.theory → HasRoom state → HasRoom after
room_later state after same room = ap (λ (t : Theory). nat_le (length t) DEFINITIONS_LIMIT) same ∙ room

pub writes_type : (ty : HolType) (written : Written) (state : LogState) → IsLog written state → HasRoom state → IsKnownTypeWithin state.theory ty → WroteType ty written state
writes_type (type_variable name) written state log room known =
    let line = type_variable_line name in
    let done = wrote-type_line written state line (type_variable name) log (type_variable_is-part name) refl refl
    (λ named. faultless state line (record {
      shape = refl;
      number = refl;
      name = ap not named;
      type_fits = refl;
      constant = refl;
      rule = refl;
      claim = refl;
      size = type_fits_there state (type_variable name) room known.fits _ refl;
      end = log.going_on;
    })) in
    record { wrote = done.0; has = done.1 }
writes_type bool_type written state log room known =
    let done = wrote-type_line written state bool_line bool_type log refl refl refl
    (λ named. faultless state bool_line (record {
      shape = refl;
      number = refl;
      name = refl;
      type_fits = refl;
      constant = refl;
      rule = refl;
      claim = refl;
      size = type_fits_there state bool_type room known.fits _ refl;
      end = log.going_on;
    })) in
    record { wrote = done.0; has = done.1 }
writes_type (declared_type name) written state log room known =
    let line = declared_type_line name in
    let done = wrote-type_line written state line (declared_type name) log (declared_type_is-part name) refl refl
    (λ named. faultless state line (record {
      shape = ap is_first_version log.version;
      number = refl;
      name = ap not named;
      type_fits = ap not known.known;
      constant = refl;
      rule = refl;
      claim = refl;
      size = type_fits_there state (declared_type name) room known.fits _ refl;
      end = log.going_on;
    })) in
    record { wrote = done.0; has = done.1 }
writes_type (function_type a b) written state log room known =
    let w1 = write_type a written in
    let known_a : IsKnownTypeWithin state.theory a = record {
      known = first_of_both (knows_type state.theory a) (knows_type state.theory b) known.known;
      fits = less_fits (type_nodes a) (type_nodes (function_type a b)) TYPE_NODES_LIMIT (omega arith) known.fits;
    } in
    let known_b : IsKnownTypeWithin state.theory b = record {
      known = second_of_both (knows_type state.theory a) (knows_type state.theory b) known.known;
      fits = less_fits (type_nodes b) (type_nodes (function_type a b)) TYPE_NODES_LIMIT (omega arith) known.fits;
    } in
    let one = writes_type a written state log room known_a in
    let s1 = one.wrote.after in
    let two = writes_type b w1 s1 one.wrote.log (room_later state s1 one.wrote.theory room) (subst (λ (t : Theory). IsKnownTypeWithin t b) (sym one.wrote.theory) known_b) in
    let w2 = write_type b w1 in
    let s2 = two.wrote.after in
    let early = wrote-twice written w1 w2 state one.wrote two.wrote in
    let has_a = stays_type w1.types w2.types two.wrote.types a one.has in
    let name_a = names_type w2 s2 two.wrote.log a has_a.has in
    let name_b = names_type w2 s2 two.wrote.log b two.has in
    let line = type_line w2.types (function_type a b) in
    let made : new_types s2 line ≡ function_type a b ∷ [] = λ i. function_type (name_a.is i) (name_b.is i) ∷ [] in
    let good = neither _ _ name_a.there name_b.there in
    let done = wrote-type_line w2 s2 line (function_type a b) two.wrote.log (function_is-part (type_number w2.types a) (type_number w2.types b)) made good
    (λ named. faultless s2 line (record {
      shape = refl;
      number = good;
      name = refl;
      type_fits = refl;
      constant = refl;
      rule = refl;
      claim = refl;
      size = type_fits_there s2 (function_type a b) (room_later state s2 early.theory room) known.fits _ made;
      end = two.wrote.log.going_on;
    })) in
    let w3 = with_type_line line w2 in
    let last_a = stays_type w2.types w3.types done.0.types a has_a.has in
    let last_b = stays_type w2.types w3.types done.0.types b two.has in
    record {
      wrote = wrote-twice written w2 w3 state early done.0;
      has = (last_a.has, last_b.has, ap (λ l. is_among l w3.types) (λ i. function_type_line (last_a.number i) (last_b.number i)) ∙ done.1);
    }

-- each of a list of types

pub record WroteTypes (types : List HolType) (written : Written) (state : LogState) : Type 0 where
  pub wrote : Wrote written (write_types types written) state
  pub has : (ty : HolType) → IsMember ty types → HasType (write_types types written).types ty

pub writes_types : (types : List HolType) (written : Written) (state : LogState) → IsLog written state → HasRoom state
    → ((ty : HolType) → IsMember ty types → IsKnownTypeWithin state.theory ty) → WroteTypes types written state
writes_types [] written state log room known = record { wrote = wrote-nothing written state log; has = λ ty m. absurd m }
writes_types (first ∷ types) written state log room known =
    let w1 = write_type first written in
    let one = writes_type first written state log room (known first (inl refl)) in
    let s1 = one.wrote.after in
    let rest = writes_types types w1 s1 one.wrote.log (room_later state s1 one.wrote.theory room)
    (λ ty m. subst (λ (t : Theory). IsKnownTypeWithin t ty) (sym one.wrote.theory) (known ty (inr m))) in
    let first_has = (stays_type w1.types (write_types types w1).types rest.wrote.types first one.has).has in
    record {
      wrote = wrote-twice written w1 (write_types types w1) state one.wrote rest.wrote;
      has = λ ty m. elim m [
        | inl same ↦ subst (HasType (write_types types w1).types) (sym same) first_has
        | inr later ↦ rest.has ty later
      ];
    }

-- what holds of the parts of a term

record Tests (theory : Theory) (term : NamedTerm) : Type 0 where
  types : knows_types theory term ≡ true
  constants : knows_constants theory term ≡ true
  instances : has_instances theory term ≡ true
  low : nat_le (height term) TERM_HEIGHT_LIMIT ≡ true
  few : nat_le (nodes term) TERM_NODES_LIMIT ≡ true
  fit : types_fit term ≡ true

tests : (theory : Theory) (term : NamedTerm) → IsKnownWithin theory term → Tests theory term
tests theory term known =
    let t = knows_types theory term in
    let c = knows_constants theory term in
    let h = nat_le (height term) TERM_HEIGHT_LIMIT in
    let n = nat_le (nodes term) TERM_NODES_LIMIT in
    let tc = first_of_both (t && c) (has_instances theory term) known.known in
    let hn = first_of_both (h && n) (types_fit term) known.within_limits in
    record {
      types = first_of_both t c tc;
      constants = second_of_both t c tc;
      instances = second_of_both (t && c) (has_instances theory term) known.known;
      low = first_of_both h n hn;
      few = second_of_both h n hn;
      fit = second_of_both (h && n) (types_fit term) known.within_limits;
    }

passed : (theory : Theory) (term : NamedTerm) (ty : HolType) → type_of term ≡ Some ty → Tests theory term → IsKnownWithin theory term
passed theory term ty typed is = record {
  ty = ty;
  typed = typed;
  known = rw (is.types, is.constants, is.instances) refl;
  within_limits = rw (is.low, is.few, is.fit) refl;
}

-- a function and its argument
record PartsKnown (theory : Theory) (f a : NamedTerm) (ty : HolType) : Type 0 where
  domain : HolType
  function : IsKnownWithin theory f
  argument : IsKnownWithin theory a
  function_typed : type_of f ≡ Some (function_type domain ty)
  argument_typed : type_of a ≡ Some domain

combination-parts : (theory : Theory) (f a : NamedTerm) (known : IsKnownWithin theory (combination f a)) → PartsKnown theory f a known.ty
combination-parts theory f a known =
    let is = tests theory (combination f a) known in
    let parts = application-typed (type_of f) (type_of a) known.ty known.typed in
    record {
      domain = parts.0;
      function = passed theory f (function_type parts.0 known.ty) parts.1 (record {
        types = first_of_both (knows_types theory f) (knows_types theory a) is.types;
        constants = first_of_both (knows_constants theory f) (knows_constants theory a) is.constants;
        instances = first_of_both (has_instances theory f) (has_instances theory a) is.instances;
        low = less_fits (height f) (height (combination f a)) TERM_HEIGHT_LIMIT (omega arith) is.low;
        few = less_fits (nodes f) (nodes (combination f a)) TERM_NODES_LIMIT (omega arith) is.few;
        fit = first_of_both (types_fit f) (types_fit a) is.fit;
      });
      argument = passed theory a parts.0 parts.2 (record {
        types = second_of_both (knows_types theory f) (knows_types theory a) is.types;
        constants = second_of_both (knows_constants theory f) (knows_constants theory a) is.constants;
        instances = second_of_both (has_instances theory f) (has_instances theory a) is.instances;
        low = less_fits (height a) (height (combination f a)) TERM_HEIGHT_LIMIT (omega arith) is.low;
        few = less_fits (nodes a) (nodes (combination f a)) TERM_NODES_LIMIT (omega arith) is.few;
        fit = second_of_both (types_fit f) (types_fit a) is.fit;
      });
      function_typed = parts.1;
      argument_typed = parts.2;
    }

-- a binder and a body
record BinderKnown (theory : Theory) (name : List ℕ) (ty : HolType) (body : NamedTerm) : Type 0 where
  binder : IsKnownWithin theory (variable name ty)
  inner : IsKnownWithin theory body

variable-known : (theory : Theory) (name : List ℕ) (ty : HolType) → knows_type theory ty ≡ true → type_fits ty ≡ true → IsKnownWithin theory (variable name ty)
variable-known theory name ty known fits = record { ty = ty; typed = refl; known = rw known refl; within_limits = rw fits refl }

abstraction-parts : (theory : Theory) (name : List ℕ) (ty : HolType) (body : NamedTerm) → IsKnownWithin theory (abstraction name ty body) → BinderKnown theory name ty body
abstraction-parts theory name ty body known =
    let is = tests theory (abstraction name ty body) known in
    let whole = some_type_fits (option_map (function_type ty) (type_of body)) in
    let found = some_type (type_of body) ty known.ty known.typed in
    let fits : type_fits (function_type ty found.0) ≡ true = ap (λ o. some_type_fits (option_map (function_type ty) o)) (sym found.1) ∙ second_of_both (types_fit body) whole is.fit in
    record {
      binder = variable-known theory name ty (first_of_both (knows_type theory ty) (knows_types theory body) is.types)
          (less_fits (type_nodes ty) (type_nodes (function_type ty found.0)) TYPE_NODES_LIMIT (omega arith) fits);
      inner = passed theory body found.0 found.1 (record {
        types = second_of_both (knows_type theory ty) (knows_types theory body) is.types;
        constants = is.constants;
        instances = is.instances;
        low = less_fits (height body) (height (abstraction name ty body)) TERM_HEIGHT_LIMIT (omega arith) is.low;
        few = less_fits (nodes body) (nodes (abstraction name ty body)) TERM_NODES_LIMIT (omega arith) is.few;
        fit = first_of_both (types_fit body) whole is.fit;
      });
    }

-- terms

pub record WroteTerm (term : NamedTerm) (written : Written) (state : LogState) : Type 0 where
  pub wrote : Wrote written (write_term term written) state
  pub has : HasTerm (write_term term written).types (write_term term written).terms term

pub known_later : (term : NamedTerm) (state after : LogState) → after.theory ≡ state.theory → IsKnownWithin state.theory term → IsKnownWithin after.theory term
known_later term state after same known = subst (λ (t : Theory). IsKnownWithin t term) (sym same) known

image_fits : (theory : Theory) (term : NamedTerm) → IsKnownWithin theory term → nameless_within_limits (image term) ≡ true
image_fits theory term known = within_limits-image term known.ty known.typed known.within_limits

pub writes_variable : (name : List ℕ) (ty : HolType) (written : Written) (state : LogState) → IsLog written state → HasRoom state → IsKnownWithin state.theory (variable name ty)
    → WroteTerm (variable name ty) written state
writes_variable name ty written state log room known =
    let is = tests state.theory (variable name ty) known in
    let one = writes_type ty written state log room (record { known = is.types; fits = is.fit }) in
    let w1 = write_type ty written in
    let s1 = one.wrote.after in
    let name_ty = names_type w1 s1 one.wrote.log ty one.has in
    let line = variable_line name (type_number w1.types ty) in
    let made : new_terms s1 line ≡ free name ty ∷ [] = λ i. free name (name_ty.is i) ∷ [] in
    let done = wrote-term_line w1 s1 line (free name ty) one.wrote.log (variable_is-part name (type_number w1.types ty)) made name_ty.there
    (λ named. faultless s1 line (record {
      shape = refl;
      number = name_ty.there;
      name = ap not named;
      type_fits = refl;
      constant = refl;
      rule = refl;
      claim = refl;
      size = term_fits_there s1 (free name ty) (room_later state s1 one.wrote.theory room) (image_fits state.theory (variable name ty) known) _ made;
      end = one.wrote.log.going_on;
    })) in
    let w2 = with_term_line line w1 in
    let last = stays_type w1.types w2.types done.0.types ty one.has in
    record {
      wrote = wrote-twice written w1 w2 state one.wrote done.0;
      has = (last.has, ap (λ n. is_among (variable_line name n) w2.terms) last.number ∙ done.1);
    }

pub writes_constant : (name : List ℕ) (ty : HolType) (written : Written) (state : LogState) → IsLog written state → HasRoom state → IsKnownWithin state.theory (constant name ty)
    → WroteTerm (constant name ty) written state
writes_constant name ty written state log room known =
    let is = tests state.theory (constant name ty) known in
    let one = writes_type ty written state log room (record { known = is.types; fits = is.fit }) in
    let w1 = write_type ty written in
    let s1 = one.wrote.after in
    let name_ty = names_type w1 s1 one.wrote.log ty one.has in
    let there : has_instances s1.theory (constant name ty) ≡ true = (tests s1.theory (constant name ty) (known_later (constant name ty) state s1 one.wrote.theory known)).instances in
    let line = constant_line name (type_number w1.types ty) in
    let made : new_terms s1 line ≡ const name ty ∷ [] = λ i. const name (name_ty.is i) ∷ [] in
    let done = wrote-term_line w1 s1 line (const name ty) one.wrote.log (constant_is-part name (type_number w1.types ty)) made name_ty.there
    (λ named. faultless s1 line (record {
      shape = refl;
      number = name_ty.there;
      name = ap not named;
      type_fits = refl;
      constant = ap (λ t. not (knows_constant s1.theory name t)) name_ty.is ∙ ap not there;
      rule = refl;
      claim = refl;
      size = term_fits_there s1 (const name ty) (room_later state s1 one.wrote.theory room) (image_fits state.theory (constant name ty) known) _ made;
      end = one.wrote.log.going_on;
    })) in
    let w2 = with_term_line line w1 in
    let last = stays_type w1.types w2.types done.0.types ty one.has in
    record {
      wrote = wrote-twice written w1 w2 state one.wrote done.0;
      has = (last.has, ap (λ n. is_among (constant_line name n) w2.terms) last.number ∙ done.1);
    }

-- a function takes its argument
takes_argument : (f a : NamedTerm) (domain codomain : HolType) → type_of f ≡ Some (function_type domain codomain) → type_of a ≡ Some domain
    → takes (term_type (image f)) (term_type (image a)) ≡ true
takes_argument f a domain codomain one two =
    (λ i. takes (term_type-image f (function_type domain codomain) one i) (term_type-image a domain two i)) ∙ (type_eq-Decides domain domain).1 refl

pub writes_term : (term : NamedTerm) (written : Written) (state : LogState) → IsLog written state → HasRoom state → IsKnownWithin state.theory term → WroteTerm term written state
writes_term (variable name ty) written state log room known = writes_variable name ty written state log room known
writes_term (constant name ty) written state log room known = writes_constant name ty written state log room known
writes_term (combination f a) written state log room known =
    let parts = combination-parts state.theory f a known in
    let w1 = write_term f written in
    let one = writes_term f written state log room parts.function in
    let s1 = one.wrote.after in
    let two = writes_term a w1 s1 one.wrote.log (room_later state s1 one.wrote.theory room) (known_later a state s1 one.wrote.theory parts.argument) in
    let w2 = write_term a w1 in
    let s2 = two.wrote.after in
    let early = wrote-twice written w1 w2 state one.wrote two.wrote in
    let has_f = stays_term w1.types w2.types w1.terms w2.terms two.wrote.types two.wrote.terms f one.has in
    let name_f = names_term w2 s2 two.wrote.log f has_f.has in
    let name_a = names_term w2 s2 two.wrote.log a two.has in
    let line = term_line w2.types w2.terms (combination f a) in
    let made : new_terms s2 line ≡ image (combination f a) ∷ [] = λ i. app (name_f.is i) (name_a.is i) ∷ [] in
    let good = neither _ _ name_f.there name_a.there in
    let done = wrote-term_line w2 s2 line (image (combination f a)) two.wrote.log (combination_is-part (term_number w2.types w2.terms f) (term_number w2.types w2.terms a)) made good
    (λ named. faultless s2 line (record {
      shape = refl;
      number = good;
      name = refl;
      type_fits = (λ i. not (takes (term_type (name_f.is i)) (term_type (name_a.is i)))) ∙ ap not (takes_argument f a parts.domain known.ty parts.function_typed parts.argument_typed);
      constant = refl;
      rule = refl;
      claim = refl;
      size = term_fits_there s2 (image (combination f a)) (room_later state s2 early.theory room) (image_fits state.theory (combination f a) known) _ made;
      end = two.wrote.log.going_on;
    })) in
    let w3 = with_term_line line w2 in
    let last_f = stays_term w2.types w3.types w2.terms w3.terms done.0.types done.0.terms f has_f.has in
    let last_a = stays_term w2.types w3.types w2.terms w3.terms done.0.types done.0.terms a two.has in
    record {
      wrote = wrote-twice written w2 w3 state early done.0;
      has = (last_f.has, last_a.has, ap (λ l. is_among l w3.terms) (λ i. combination_line (last_f.number i) (last_a.number i)) ∙ done.1);
    }
writes_term (abstraction name ty body) written state log room known =
    let parts = abstraction-parts state.theory name ty body known in
    let v = variable name ty in
    let w1 = write_variable name ty written in
    let one = writes_variable name ty written state log room parts.binder in
    let s1 = one.wrote.after in
    let two = writes_term body w1 s1 one.wrote.log (room_later state s1 one.wrote.theory room) (known_later body state s1 one.wrote.theory parts.inner) in
    let w2 = write_term body w1 in
    let s2 = two.wrote.after in
    let early = wrote-twice written w1 w2 state one.wrote two.wrote in
    let has_v = stays_term w1.types w2.types w1.terms w2.terms two.wrote.types two.wrote.terms v one.has in
    let name_v = names_term w2 s2 two.wrote.log v has_v.has in
    let name_b = names_term w2 s2 two.wrote.log body two.has in
    let line = term_line w2.types w2.terms (abstraction name ty body) in
    let made : new_terms s2 line ≡ image (abstraction name ty body) ∷ [] =
    (λ i. abstraction_over (name_v.is i) (name_b.is i) ∷ []) ∙ ap (λ (t : Nameless). t ∷ []) (sym (image-abstraction name ty body)) in
    let good = neither _ _ name_v.there name_b.there in
    let done = wrote-term_line w2 s2 line (image (abstraction name ty body)) two.wrote.log (abstraction_is-part (term_number w2.types w2.terms v) (term_number w2.types w2.terms body)) made good
    (λ named. faultless s2 line (record {
      shape = refl;
      number = good;
      name = refl;
      type_fits = ap (λ t. not (is_free_variable t)) name_v.is;
      constant = refl;
      rule = refl;
      claim = refl;
      size = term_fits_there s2 (image (abstraction name ty body)) (room_later state s2 early.theory room) (image_fits state.theory (abstraction name ty body) known) _ made;
      end = two.wrote.log.going_on;
    })) in
    let w3 = with_term_line line w2 in
    let last_v = stays_term w2.types w3.types w2.terms w3.terms done.0.types done.0.terms v has_v.has in
    let last_b = stays_term w2.types w3.types w2.terms w3.terms done.0.types done.0.terms body two.has in
    record {
      wrote = wrote-twice written w2 w3 state early done.0;
      has = (last_v.has, last_b.has, ap (λ l. is_among l w3.terms) (λ i. abstraction_line (last_v.number i) (last_b.number i)) ∙ done.1);
    }

-- each of a list of terms

pub record WroteTerms (terms : List NamedTerm) (written : Written) (state : LogState) : Type 0 where
  pub wrote : Wrote written (write_terms terms written) state
  pub has : (term : NamedTerm) → IsMember term terms → HasTerm (write_terms terms written).types (write_terms terms written).terms term

pub writes_terms : (terms : List NamedTerm) (written : Written) (state : LogState) → IsLog written state → HasRoom state
    → ((term : NamedTerm) → IsMember term terms → IsKnownWithin state.theory term) → WroteTerms terms written state
writes_terms [] written state log room known = record { wrote = wrote-nothing written state log; has = λ term m. absurd m }
writes_terms (first ∷ terms) written state log room known =
    let w1 = write_term first written in
    let one = writes_term first written state log room (known first (inl refl)) in
    let s1 = one.wrote.after in
    let rest = writes_terms terms w1 s1 one.wrote.log (room_later state s1 one.wrote.theory room) (λ term m. known_later term state s1 one.wrote.theory (known term (inr m))) in
    let w2 = write_terms terms w1 in
    let first_has = (stays_term w1.types w2.types w1.terms w2.terms rest.wrote.types rest.wrote.terms first one.has).has in
    record {
      wrote = wrote-twice written w1 w2 state one.wrote rest.wrote;
      has = λ term m. elim m [
        | inl same ↦ subst (HasTerm w2.types w2.terms) (sym same) first_has
        | inr later ↦ rest.has term later
      ];
    }
