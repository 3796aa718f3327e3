-- The lines of terms.
use Rattle.std.proofs.Common.{◌≡◌, ℕ, ◌+◌, List, [], ◌∷◌, length, Bool, true, false, not, ◌&&◌, refl, sym, ◌∙◌, ap, subst, Some, None, Result, Ok, Err, if◌then◌else◌}
use Rattle.std.specs.Prelude.{slice_get, nat_le}
use Rattle.std.specs.List.{list_all}
use Rattle.std.specs.Option.{option_map}
use Rattle.std.proofs.lemmas.Option.{get_or_from_slice_get}
use Rattle.hol_model.specs.declared.fault.Fault.{Fault}
use Rattle.hol_model.specs.declared.fault.Cause.{Cause}
use Rattle.hol_model.specs.declared.fault.Cause.TheVariants.{Kind, Const, Large}
use Rattle.hol_model.specs.declared.limits.TheConstants.{DEFINITIONS_LIMIT}
use Rattle.hol_model.specs.Terms.Name.{is_identifier, is_constant_name}
use Rattle.hol_model.specs.Terms.HolType.{HolType, type_variable, bool_type, function_type, declared_type, codomain_of}
use Rattle.hol_model.specs.Terms.NamedTerm.{NamedTerm, variable, combination, abstraction, type_of, application_type, answer_type, type_fits}
use Rattle.hol_model.specs.Terms.Nameless.{Nameless, free, const, bound, app, lam, nameless_type, image}
use Rattle.hol_model.specs.Terms.Measures.{nameless_within_limits}
use Rattle.hol_model.specs.Logic.Checks.{knows_constant}
use Rattle.hol_model.specs.Logs.LogLine.{LogLine, variable_line, constant_line, combination_line, abstraction_line}
use Rattle.hol_model.specs.Logs.LogState as given
use Rattle.hol_model.specs.Logs.LogState.{LogState, term_type}
use Rattle.hol_model.specs.Logs.LogSequents.{new_types, new_terms, new_theorems, new_entries, new_claims, ends, is_free_variable, abstraction_over, variable_name}
use Rattle.hol_model.specs.Logs.LogFaults.{has_shape_fault, has_number_fault, has_name_fault, has_type_fault, has_constant_fault, has_rule_fault, has_claim_fault, has_size_fault, takes}
use Rattle.hol_model.specs.Logs.LogFaults.{sequent_fits, is_no_type, is_no_term}
use Rattle.hol_model.proofs.Terms.Images.{image-typed, image-abstraction}
use Rattle.hol_model.proofs.Terms.Measures.{past_limits-image}
use Rattle.hol_model.proofs.Terms.Typing.{nameless_type-is}
use Rattle.hol_model.proofs.Terms.WithinLimits.{within_limits-image}
use Rattle.hol_check_terms.specs.Terms.{TermTable, name_at, type_at, term_at, IsGrown}
use Rattle.hol_check_written.specs.Written.{named_constant, named_at, named_of_shape, named_of, named_terms, IsFree, PartsAreEarlier, Writes}
use Rattle.hol_check_written.specs.declared.written.Written.{Written}
use Rattle.hol_check_written.specs.declared.written.WrittenShape.{WrittenShape}
use Rattle.hol_check_written.specs.declared.written.WrittenShape.TheVariants.{Variable, Constant, Application, Abstraction}
use Rattle.hol_check_written.proofs.NamedLemmas.{free-grown, free-still, named-still}
use Rattle.hol_check_lines.proofs.NamedLemmas.{IsGrown-same}
use Rattle.hol_check_written.proofs.WritesLemmas.{within-limits}
use Rattle.hol_check_rules.specs.State.{theory_in, state_of, IsContents}
use Rattle.hol_check_rules.specs.Judged.{NamesType, NamesWritten, Judges, first_fault}
use Rattle.hol_check_lines.specs.TermLines.{AnswersTerm}
use Rattle.hol_check_rules.specs.declared.state.Contents.{Contents}
use Rattle.hol_check_rules.specs.declared.state.Addition.{Addition}
use Rattle.hol_check_lines.proofs.FaultLemmas.{no-fault, type-fault, constant-fault, size-fault, room, all-fit, terms-large}
use Rattle.hol_check_lines.proofs.TypeLineLemmas.{neither}
use Rattle.hol_check_terms.proofs.GrowthLemmas.{type-grown, term-there, place-grown, IsGrown-trans}

-- a line that adds the term, and that no cause before `large` refuses
pub record AddsOneTerm (state : LogState) (line : LogLine) (wanted : Nameless) : Type 0 where
  pub shape : has_shape_fault state line ≡ false
  pub number : has_number_fault state line ≡ false
  pub name : has_name_fault state line ≡ false
  pub type_fits : has_type_fault state line ≡ false
  pub constant : has_constant_fault state line ≡ false
  pub rule : has_rule_fault state line ≡ false
  pub claim : has_claim_fault state line ≡ false
  pub types : new_types state line ≡ []
  pub terms : new_terms state line ≡ wanted ∷ []
  pub theorems : new_theorems state line ≡ []
  pub entries : new_entries state line ≡ []
  pub claims : new_claims state line ≡ []
  pub ends : ends line ≡ false

module _ (state : LogState) (line : LogLine) (wanted : Nameless) (adds : AddsOneTerm state line wanted) (theory_fits : nat_le (0 + length state.theory) DEFINITIONS_LIMIT ≡ true) where
  size : has_size_fault state line ≡ not (true && (nameless_within_limits wanted && true) && true && nat_le (0 + length state.theory) DEFINITIONS_LIMIT)
  size = λ i. not (list_all type_fits (adds.types i) && list_all nameless_within_limits (adds.terms i) && list_all sequent_fits (adds.theorems i) && nat_le
      (length (adds.entries i) + length state.theory) DEFINITIONS_LIMIT)

  and_true : (b : Bool) (value : Bool) → b ≡ value → (b && true) ≡ value
  and_true true value is = is
  and_true false value is = is

  term-accepted : nameless_within_limits wanted ≡ true → first_fault state line ≡ None
  term-accepted fits =
      no-fault state line adds.shape adds.number adds.name adds.type_fits adds.constant adds.rule adds.claim
      (size ∙ all-fit true (nameless_within_limits wanted && true) true (nat_le (0 + length state.theory) DEFINITIONS_LIMIT) refl (and_true (nameless_within_limits wanted) true fits) refl theory_fits)

  term-large : nameless_within_limits wanted ≡ false → first_fault state line ≡ Some Large
  term-large past =
      size-fault state line adds.shape adds.number adds.name adds.type_fits adds.constant adds.rule adds.claim
      (size ∙ terms-large true (nameless_within_limits wanted && true) true (nat_le (0 + length state.theory) DEFINITIONS_LIMIT) refl (and_true (nameless_within_limits wanted) false past))

-- a line of the shape of a term within the limits adds it
pub judged-term : (line : LogLine) (contents : Contents) (earlier now : TermTable) (term : NamedTerm) (ty : HolType) (shape : WrittenShape) (result : Result (Result Addition Cause) Fault) →
    AddsOneTerm (state_of earlier contents) line (image term) → IsContents earlier contents
    → type_of term ≡ Some ty → PartsAreEarlier now.terms (length contents.terms.items) shape → named_of_shape now.terms (named_terms now.terms contents.terms.items) shape ≡ term
    → AnswersTerm term shape result now → IsGrown earlier now → Judges line contents earlier result now
judged-term line contents earlier now term ty shape (Ok (Ok addition)) adds is typed parts shape_is answers grown =
    let added = answers.answered in
    let written_is : named_of now.terms (named_terms now.terms contents.terms.items) added.written ≡ term =
    ap (named_of_shape now.terms (named_terms now.terms contents.terms.items)) added.is_shape ∙ shape_is in
    subst (λ a. Judges line contents earlier (Ok (Ok a)) now) (sym added.is_added) (record {
      judged = record {
        accepted = term-accepted (state_of earlier contents) line (image term) adds (room earlier contents is) (within_limits-image term ty typed (within-limits now term added.written added.writes));
        denotes = record { types = adds.types; terms = adds.terms ∙ ap (λ t. image t ∷ []) (sym written_is); theorems = adds.theorems; entries = adds.entries; claims = adds.claims; ends = adds.ends };
        added = (subst (PartsAreEarlier now.terms (length contents.terms.items)) (sym added.is_shape) parts, subst (λ t. Writes now t added.written) (sym written_is) added.writes);
      };
      refused = tt;
      grows = grown;
    })
judged-term line contents earlier now term ty shape (Ok (Err cause)) adds is typed parts shape_is answers grown = record {
  judged = term-large (state_of earlier contents) line (image term) adds (room earlier contents is) (past_limits-image term ty typed answers.answered.is_past) ∙ ap Some
      (sym answers.answered.is_cause);
  refused = tt;
  grows = grown;
}
judged-term line contents earlier now term ty shape (Err fault) adds is typed parts shape_is answers grown = record { judged = tt; refused = answers.refused; grows = grown }

-- a variable, and a constant, by their numbers

pub judged-variable : (line : LogLine) (contents : Contents) (t0 t1 t2 : TermTable) (name : List ℕ) (ty : HolType) (number : ℕ) (result : Result (Result Addition Cause) Fault) →
    AddsOneTerm (state_of t0 contents) line (free name ty) → IsContents t0 contents
    → IsGrown t0 t1 → IsGrown t1 t2 → slice_get t1.terms number ≡ Some (free name ty)
    → AnswersTerm (variable (variable_name (term_at t1.terms number)) (term_type (term_at t1.terms number))) (Variable number) result t2 → Judges line contents t0 result t2
judged-variable line contents t0 t1 t2 name ty number result adds is first second there answers =
    let is_free : IsFree t1.terms number = record { name = name; ty = ty; is_variable = there } in
    let same = term-there t1.terms number (free name ty) there in
    judged-term line contents t0 t2 (variable (variable_name (term_at t1.terms number)) (term_type (term_at t1.terms number))) (term_type (term_at t1.terms number)) (Variable number) result
    (subst (λ u. AddsOneTerm (state_of t0 contents) line (image (variable (variable_name u) (term_type u)))) (sym same) adds) is refl
    (free-grown t1 t2 second number is_free) (ap (λ u. variable (variable_name u) (term_type u)) (free-still t1 t2 second number is_free)) answers (IsGrown-trans t0 t1 t2 first second)

pub judged-constant : (line : LogLine) (contents : Contents) (t0 t1 t2 : TermTable) (name : List ℕ) (ty : HolType) (number : ℕ) (result : Result (Result Addition Cause) Fault) →
    AddsOneTerm (state_of t0 contents) line (const name ty) → IsContents t0 contents
    → IsGrown t0 t1 → IsGrown t1 t2 → slice_get t1.terms number ≡ Some (const name ty) → AnswersTerm (named_constant (term_at t1.terms number)) (Constant number) result t2 →
    Judges line contents t0 result t2
judged-constant line contents t0 t1 t2 name ty number result adds is first second there answers =
    let same = term-there t1.terms number (const name ty) there in
    let later = place-grown t1 t2 number (const name ty) second there in
    judged-term line contents t0 t2 (named_constant (term_at t1.terms number)) ty (Constant number) result
    (subst (λ u. AddsOneTerm (state_of t0 contents) line (image (named_constant u))) (sym same) adds) is (ap (λ u. type_of (named_constant u)) same)
    (record { name = name; ty = ty; is_constant = later }) (ap named_constant (term-there t2.terms number (const name ty) later ∙ sym same)) answers (IsGrown-trans t0 t1 t2 first second)

pub adds-variable : (state : LogState) (name : List ℕ) (line : ℕ) (ty : HolType) → is_no_type state line ≡ false → is_identifier name ≡ true → given.type_at state line ≡ ty →
    AddsOneTerm state (variable_line name line) (free name ty)
adds-variable state name line ty there legal named = record {
  shape = refl;
  number = there;
  name = ap not legal;
  type_fits = refl;
  constant = refl;
  rule = refl;
  claim = refl;
  types = refl;
  terms = ap (λ s. free name s ∷ []) named;
  theorems = refl;
  entries = refl;
  claims = refl;
  ends = refl;
}

pub adds-constant : (state : LogState) (name : List ℕ) (line : ℕ) (ty : HolType) → is_no_type state line ≡ false → is_constant_name name ≡ true → given.type_at state line ≡ ty →
    knows_constant state.theory name ty ≡ true
    → AddsOneTerm state (constant_line name line) (const name ty)
adds-constant state name line ty there legal named known = record {
  shape = refl;
  number = there;
  name = ap not legal;
  type_fits = refl;
  constant = ap not (ap (knows_constant state.theory name) named ∙ known);
  rule = refl;
  claim = refl;
  types = refl;
  terms = ap (λ s. const name s ∷ []) named;
  theorems = refl;
  entries = refl;
  claims = refl;
  ends = refl;
}

pub adds-combination : (state : LogState) (function argument : ℕ) (f a : Nameless) → is_no_term state function ≡ false → is_no_term state argument ≡ false →
    given.term_at state function ≡ f → given.term_at state argument ≡ a
    → takes (nameless_type [] f) (nameless_type [] a) ≡ true → AddsOneTerm state (combination_line function argument) (app f a)
adds-combination state function argument f a first second function_is argument_is fits = record {
  shape = refl;
  number = neither _ _ first second;
  name = refl;
  type_fits = ap not ((λ i. takes (nameless_type [] (function_is i)) (nameless_type [] (argument_is i))) ∙ fits);
  constant = refl;
  rule = refl;
  claim = refl;
  types = refl;
  terms = λ i. app (function_is i) (argument_is i) ∷ [];
  theorems = refl;
  entries = refl;
  claims = refl;
  ends = refl;
}

pub adds-abstraction : (state : LogState) (binder body : ℕ) (v b : Nameless) → is_no_term state binder ≡ false → is_no_term state body ≡ false → given.term_at state binder ≡ v →
    given.term_at state body ≡ b → is_free_variable v ≡ true
    → AddsOneTerm state (abstraction_line binder body) (abstraction_over v b)
adds-abstraction state binder body v b first second binder_is body_is is = record {
  shape = refl;
  number = neither _ _ first second;
  name = refl;
  type_fits = ap not (ap is_free_variable binder_is ∙ is);
  constant = refl;
  rule = refl;
  claim = refl;
  types = refl;
  terms = λ i. abstraction_over (binder_is i) (body_is i) ∷ [];
  theorems = refl;
  entries = refl;
  claims = refl;
  ends = refl;
}

-- the type of what a line writes
type-is-of : (table : TermTable) (term : NamedTerm) (written : Written) → Writes table term written → nameless_type [] (image term) ≡ type_at table.types written.ty
type-is-of table term written writes = nameless_type-is (image term) [] (type_at table.types written.ty) (image-typed term (type_at table.types written.ty) writes.typed)

answers-function : (f a : HolType) → takes f a ≡ true → answer_type f a ≡ Some (codomain_of f)
answers-function (type_variable name) a is = cc
answers-function bool_type a is = cc
answers-function (function_type domain codomain) a is = ap (λ b. if b then Some codomain else None) is
answers-function (declared_type name) a is = cc

-- a combination of lines
module _ (table : TermTable) (contents : Contents) (function argument : ℕ) (f a : Written) (first : NamesWritten table contents function f) (second : NamesWritten table contents argument a) where
  abbrev left : NamedTerm
  left = named_at (named_terms table.terms contents.terms.items) function

  abbrev right : NamedTerm
  right = named_at (named_terms table.terms contents.terms.items) argument

  takes-is : takes (nameless_type [] (image left)) (nameless_type [] (image right)) ≡ takes (type_at table.types f.ty) (type_at table.types a.ty)
  takes-is = λ i. takes (type-is-of table left f first.writes i) (type-is-of table right a second.writes i)

  pub no-combination : takes (type_at table.types f.ty) (type_at table.types a.ty) ≡ false → Judges (combination_line function argument) contents table (Ok (Err Kind)) table
  no-combination unfit = record {
    judged = type-fault (state_of table contents) (combination_line function argument) refl (neither _ _ first.is_there second.is_there) refl
        (ap not ((λ i. takes (nameless_type [] (first.named i)) (nameless_type [] (second.named i))) ∙ (takes-is ∙ unfit)));
    refused = tt;
    grows = IsGrown-same table;
  }

  pub judged-combination : (result : Result (Result Addition Cause) Fault) → IsContents table contents → takes (type_at table.types f.ty) (type_at table.types a.ty) ≡ true
      → AnswersTerm (combination left right) (Application function argument) result table → Judges (combination_line function argument) contents table result table
  judged-combination result is fits answers =
      judged-term (combination_line function argument) contents table table (combination left right) (codomain_of (type_at table.types f.ty)) (Application function argument) result
      (adds-combination (state_of table contents) function argument (image left) (image right) first.is_there second.is_there first.named second.named (takes-is ∙ fits)) is
      ((λ i. application_type (first.writes.typed i) (second.writes.typed i)) ∙ answers-function (type_at table.types f.ty) (type_at table.types a.ty) fits)
      (first.within, second.within) refl answers (IsGrown-same table)

-- an abstraction of a line
module _ (t0 : TermTable) (contents : Contents) (binder body : ℕ) (v b : Written) (first : NamesWritten t0 contents binder v) (second : NamesWritten t0 contents body b) where
  binder-is : (shape : WrittenShape) → v.shape ≡ shape → given.term_at (state_of t0 contents) binder ≡ image (named_of_shape t0.terms (named_terms t0.terms contents.terms.items) shape)
  binder-is shape is = first.named ∙ ap image (first.is_shape ∙ ap (named_of_shape t0.terms (named_terms t0.terms contents.terms.items)) is)

  no-abstraction : (shape : WrittenShape) → v.shape ≡ shape → is_free_variable (image (named_of_shape t0.terms (named_terms t0.terms contents.terms.items) shape)) ≡ false →
      Judges (abstraction_line binder body) contents t0 (Ok (Err Kind)) t0
  no-abstraction shape is other = record {
    judged = type-fault (state_of t0 contents) (abstraction_line binder body) refl (neither _ _ first.is_there second.is_there) refl (ap not (ap is_free_variable (binder-is shape is) ∙ other));
    refused = tt;
    grows = IsGrown-same t0;
  }

  pub constant-binder : (number : ℕ) → v.shape ≡ Constant number → Judges (abstraction_line binder body) contents t0 (Ok (Err Kind)) t0
  constant-binder number is = no-abstraction (Constant number) is (go (term_at t0.terms number))
    where
      go : (t : Nameless) → is_free_variable (image (named_constant t)) ≡ false
      go (free name ty) = refl
      go (const name ty) = refl
      go (bound index) = refl
      go (app f x) = refl
      go (lam ty t) = refl

  pub application-binder : (f x : ℕ) → v.shape ≡ Application f x → Judges (abstraction_line binder body) contents t0 (Ok (Err Kind)) t0
  application-binder f x is = no-abstraction (Application f x) is refl

  pub abstraction-binder : (other inner : ℕ) → v.shape ≡ Abstraction other inner → Judges (abstraction_line binder body) contents t0 (Ok (Err Kind)) t0
  abstraction-binder other inner is = no-abstraction (Abstraction other inner) is refl

  pub free-binder : (number : ℕ) → v.shape ≡ Variable number → IsFree t0.terms number
  free-binder number is = subst (PartsAreEarlier t0.terms binder) is first.parts

  module _ (t1 : TermTable) (number : ℕ) (is : v.shape ≡ Variable number) (grown : IsGrown t0 t1) (holds : IsContents t0 contents) where
    abbrev term : NamedTerm
    term = abstraction (variable_name (term_at t0.terms number)) (term_type (term_at t0.terms number)) (named_at (named_terms t0.terms contents.terms.items) body)

    abbrev bound_variable : Nameless
    bound_variable = free (variable_name (term_at t0.terms number)) (term_type (term_at t0.terms number))

    pub judged-abstraction : (result : Result (Result Addition Cause) Fault) → AnswersTerm term (Abstraction number body) result t1 → Judges (abstraction_line binder body) contents t0 result t1
    judged-abstraction result answers =
        let is_free = free-binder number is in
        judged-term (abstraction_line binder body) contents t0 t1 term (function_type (term_type (term_at t0.terms number)) (type_at t0.types b.ty)) (Abstraction number body) result
        (subst (AddsOneTerm (state_of t0 contents) (abstraction_line binder body))
        (sym (image-abstraction (variable_name (term_at t0.terms number)) (term_type (term_at t0.terms number)) (named_at (named_terms t0.terms contents.terms.items) body)))
        (adds-abstraction (state_of t0 contents) binder body bound_variable (image (named_at (named_terms t0.terms contents.terms.items) body)) first.is_there second.is_there
        (binder-is (Variable number) is) second.named refl))
        holds (ap (option_map (function_type (term_type (term_at t0.terms number)))) second.writes.typed)
        (free-grown t0 t1 grown number is_free, second.within)
        (λ i. abstraction (variable_name (free-still t0 t1 grown number is_free i)) (term_type (free-still t0 t1 grown number is_free i))
        (named_at (named-still t0 t1 grown contents.terms.items holds.terms i) body)) answers grown

-- a constant, while the tables grow
module _ (t0 t1 : TermTable) (contents : Contents) (name : List ℕ) (line number ty : ℕ) (type_named : NamesType (state_of t0 contents) line t0.types ty) (grown : IsGrown t0 t1)
    (named : slice_get t1.names number ≡ Some name) where
  type-is : given.type_at (state_of t0 contents) line ≡ type_at t1.types ty
  type-is = type_named.named ∙ sym (type-grown t0.types t1.types ty grown.types type_named.within)

  pub known-is : knows_constant (theory_in t0 contents.entries.items) name (given.type_at (state_of t0 contents) line) ≡ knows_constant (theory_in t0 contents.entries.items)
      (name_at t1.names number) (type_at t1.types ty)
  known-is = λ i. knows_constant (theory_in t0 contents.entries.items) (sym (get_or_from_slice_get t1.names number name [] named) i) (type-is i)

  pub adds-grown-constant : is_constant_name name ≡ true → knows_constant (theory_in t0 contents.entries.items) (name_at t1.names number) (type_at t1.types ty) ≡ true
      → AddsOneTerm (state_of t0 contents) (constant_line name line) (const (name_at t1.names number) (type_at t1.types ty))
  adds-grown-constant legal known =
      subst (λ n. AddsOneTerm (state_of t0 contents) (constant_line name line) (const n (type_at t1.types ty))) (sym (get_or_from_slice_get t1.names number name [] named))
      (adds-constant (state_of t0 contents) name line (type_at t1.types ty) type_named.is_there legal type-is
      (ap (knows_constant (theory_in t0 contents.entries.items) name) (sym type-is) ∙ (known-is ∙ known)))

  pub no-constant : is_constant_name name ≡ true → knows_constant (theory_in t0 contents.entries.items) (name_at t1.names number) (type_at t1.types ty) ≡ false →
      Judges (constant_line name line) contents t0 (Ok (Err Const)) t1
  no-constant legal unknown = record {
    judged = constant-fault (state_of t0 contents) (constant_line name line) refl type_named.is_there (ap not legal) refl (ap not (known-is ∙ unknown));
    refused = tt;
    grows = grown;
  }
