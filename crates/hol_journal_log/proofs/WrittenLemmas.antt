-- What is written keeps its numbers as more is written.
use Rattle.std.proofs.Common.{◌≡◌, ℕ, ◌+◌, List, [], ◌∷◌, ◌++◌, Bool, true, false, cond, ◌||◌, not, if◌then◌else◌, map, refl, sym, ◌∙◌, ap, subst, append_assoc, append-nil, eqb}
use Rattle.std.specs.List.{list_any, position_or_len}
use Rattle.std.specs.Str.{bytes_eq}
use Rattle.std.proofs.lemmas.Slice.Eq.{bytes_eq-Decides}
use Rattle.std.proofs.lemmas.Bool.{eq-eqb}
use Rattle.hol_model.specs.Terms.HolType.{HolType, type_variable, bool_type, function_type, declared_type}
use Rattle.hol_model.specs.Terms.NamedTerm.{NamedTerm, variable, constant, combination, abstraction}
use Rattle.hol_model.specs.Logs.LogLine.{LogLine}
use Rattle.hol_model.specs.Logs.LogLine.LogLine.{type_variable_line, bool_line, function_type_line, declared_type_line, variable_line, constant_line, combination_line, abstraction_line}
use Rattle.hol_model.proofs.Tests.{both}
use Rattle.hol_journal_log.specs.LogWriting.{Written, same_line, is_among, place_of, type_line, type_number, term_line, term_number, with_type_line}
use Rattle.hol_journal_log.specs.LogWriting.{with_term_line, with_type, with_term, write_type, write_variable, write_term, write_each, number_of_type}
use Rattle.hol_journal_log.specs.LogWriting.{number_of_term}
use Rattle.hol_journal_log.specs.Writing.{IsWritten, AreWritten, IsTypeWritten, IsTermWritten, AreTypesWritten, AreTermsWritten, IsTypeLineWritten, IsTermLineWritten}

-- the first place that passes a test, in a longer list and in a list with one more

place-longer : {X : Type 0} (p : X → Bool) (xs ys : List X) → list_any p xs ≡ true → position_or_len p (xs ++ ys) ≡ position_or_len p xs
place-longer p [] ys any = cc
place-longer p (x ∷ xs) ys any = go (p x) any (place-longer p xs ys)
  where
    go : (test : Bool) → (test || list_any p xs) ≡ true → (list_any p xs ≡ true → position_or_len p (xs ++ ys) ≡ position_or_len p xs)
        → cond (not test) (1 + position_or_len p (xs ++ ys)) 0 ≡ cond (not test) (1 + position_or_len p xs) 0
    go true any later = refl
    go false any later = ap (λ n. 1 + n) (later any)

any-longer : {X : Type 0} (p : X → Bool) (xs ys : List X) → list_any p xs ≡ true → list_any p (xs ++ ys) ≡ true
any-longer p [] ys any = cc
any-longer p (x ∷ xs) ys any = go (p x) any (any-longer p xs ys)
  where
    go : (test : Bool) → (test || list_any p xs) ≡ true → (list_any p xs ≡ true → list_any p (xs ++ ys) ≡ true) → (test || list_any p (xs ++ ys)) ≡ true
    go true any later = refl
    go false any later = later any

any-end : {X : Type 0} (p : X → Bool) (xs : List X) (x : X) → p x ≡ true → list_any p (xs ++ x ∷ []) ≡ true
any-end p [] x passes = rw passes
any-end p (y ∷ xs) x passes = go (p y) (any-end p xs x passes)
  where
    go : (test : Bool) → list_any p (xs ++ x ∷ []) ≡ true → (test || list_any p (xs ++ x ∷ [])) ≡ true
    go true later = refl
    go false later = later

place-end : {X : Type 0} (p : X → Bool) (xs : List X) (x : X) → p x ≡ true → position_or_len p (xs ++ x ∷ []) ≡ position_or_len p xs
place-end p [] x passes = rw passes
place-end p (y ∷ xs) x passes = ap (λ n. cond (not (p y)) (1 + n) 0) (place-end p xs x passes)

-- a list with one more, unless one passes the test
module _ {X : Type 0} (p : X → Bool) (xs : List X) (x : X) (passes : p x ≡ true) where
  pub any-put : list_any p (if list_any p xs then xs else xs ++ x ∷ []) ≡ true
  any-put = go (list_any p xs) refl
    where
      go : (test : Bool) → list_any p xs ≡ test → list_any p (if test then xs else xs ++ x ∷ []) ≡ true
      go true any = any
      go false any = any-end p xs x passes

  pub place-put : position_or_len p (if list_any p xs then xs else xs ++ x ∷ []) ≡ position_or_len p xs
  place-put = go (list_any p xs)
    where
      go : (test : Bool) → position_or_len p (if test then xs else xs ++ x ∷ []) ≡ position_or_len p xs
      go true = refl
      go false = place-end p xs x passes

-- a line that can be told from others
abbrev pub IsNamed : LogLine → Type 0
IsNamed line = same_line line line ≡ true

same_bytes : (a : List ℕ) → bytes_eq a a ≡ true
same_bytes a = (bytes_eq-Decides a a).1 refl

same_number : (a : ℕ) → eqb a a ≡ true
same_number a = eq-eqb a a refl

pub IsNamed-type_line : (types : List LogLine) (ty : HolType) → IsNamed (type_line types ty)
IsNamed-type_line types (type_variable name) = same_bytes name
IsNamed-type_line types bool_type = refl
IsNamed-type_line types (function_type domain codomain) = both _ _ (same_number (type_number types domain)) (same_number (type_number types codomain))
IsNamed-type_line types (declared_type name) = same_bytes name

pub IsNamed-term_line : (types terms : List LogLine) (term : NamedTerm) → IsNamed (term_line types terms term)
IsNamed-term_line types terms (variable name ty) = both _ _ (same_bytes name) (same_number (type_number types ty))
IsNamed-term_line types terms (constant name ty) = both _ _ (same_bytes name) (same_number (type_number types ty))
IsNamed-term_line types terms (combination function argument) = both _ _ (same_number (term_number types terms function)) (same_number (term_number types terms argument))
IsNamed-term_line types terms (abstraction name ty body) = both _ _ (same_number (place_of (variable_line name (type_number types ty)) terms)) (same_number (term_number types terms body))

-- what is written grows

pub record Grows (old new : Written) : Type 0 where
  pub more_types : List LogLine
  pub types : new.types ≡ old.types ++ more_types
  pub more_terms : List LogLine
  pub terms : new.terms ≡ old.terms ++ more_terms
  pub theorems : new.theorems ≡ old.theorems

pub Grows-same : (w : Written) → Grows w w
Grows-same w = record { more_types = []; types = sym (append-nil w.types); more_terms = []; terms = sym (append-nil w.terms); theorems = refl }

pub Grows-twice : (first second third : Written) → Grows first second → Grows second third → Grows first third
Grows-twice first second third early late = record {
  more_types = early.more_types ++ late.more_types;
  types = late.types ∙ (ap (λ l. l ++ late.more_types) early.types ∙ append_assoc first.types early.more_types late.more_types);
  more_terms = early.more_terms ++ late.more_terms;
  terms = late.terms ∙ (ap (λ l. l ++ late.more_terms) early.terms ∙ append_assoc first.terms early.more_terms late.more_terms);
  theorems = late.theorems ∙ early.theorems;
}

pub Grows-with_type_line : (line : LogLine) (w : Written) → Grows w (with_type_line line w)
Grows-with_type_line line w = go (is_among line w.types)
  where
    go : (test : Bool) → Grows w (if test then w else record w { types = w.types ++ line ∷ []; lines = w.lines ++ line ∷ [] })
    go true = Grows-same w
    go false = record { more_types = line ∷ []; types = refl; more_terms = []; terms = sym (append-nil w.terms); theorems = refl }

pub Grows-with_term_line : (line : LogLine) (w : Written) → Grows w (with_term_line line w)
Grows-with_term_line line w = go (is_among line w.terms)
  where
    go : (test : Bool) → Grows w (if test then w else record w { terms = w.terms ++ line ∷ []; lines = w.lines ++ line ∷ [] })
    go true = Grows-same w
    go false = record { more_types = []; types = sym (append-nil w.types); more_terms = line ∷ []; terms = refl; theorems = refl }

-- the lists of a line's kind after it was put
pub types-with_type_line : (line : LogLine) (w : Written) → (with_type_line line w).types ≡ (if is_among line w.types then w.types else w.types ++ line ∷ [])
types-with_type_line line w = go (is_among line w.types)
  where
    go : (test : Bool) → (if test then w else record w { types = w.types ++ line ∷ []; lines = w.lines ++ line ∷ [] }).types ≡ (if test then w.types else w.types ++ line ∷ [])
    go true = refl
    go false = refl

pub terms-with_term_line : (line : LogLine) (w : Written) → (with_term_line line w).terms ≡ (if is_among line w.terms then w.terms else w.terms ++ line ∷ [])
terms-with_term_line line w = go (is_among line w.terms)
  where
    go : (test : Bool) → (if test then w else record w { terms = w.terms ++ line ∷ []; lines = w.lines ++ line ∷ [] }).terms ≡ (if test then w.terms else w.terms ++ line ∷ [])
    go true = refl
    go false = refl

pub among-with_type_line : (line : LogLine) (w : Written) → IsNamed line → is_among line (with_type_line line w).types ≡ true
among-with_type_line line w named = rw (types-with_type_line line w) (any-put (same_line line) w.types line named)

pub among-with_term_line : (line : LogLine) (w : Written) → IsNamed line → is_among line (with_term_line line w).terms ≡ true
among-with_term_line line w named = rw (terms-with_term_line line w) (any-put (same_line line) w.terms line named)

-- the lines of a type and of its parts are written
abbrev pub HasType : List LogLine → HolType → Type 0
HasType types (type_variable name) = is_among (type_variable_line name) types ≡ true
HasType types bool_type = is_among bool_line types ≡ true
HasType types (function_type domain codomain) =
    HasType types domain × HasType types codomain × (is_among (function_type_line (type_number types domain) (type_number types codomain)) types ≡ true)
HasType types (declared_type name) = is_among (declared_type_line name) types ≡ true

pub HasType-among : (types : List LogLine) (ty : HolType) → HasType types ty → is_among (type_line types ty) types ≡ true
HasType-among types (type_variable name) has = has
HasType-among types bool_type has = has
HasType-among types (function_type domain codomain) has = has.2
HasType-among types (declared_type name) has = has

-- a number that a line has is that of the longer list
number-longer : (line other : LogLine) (lines more : List LogLine) → is_among line lines ≡ true → other ≡ line → place_of other (lines ++ more) ≡ place_of line lines
number-longer line other lines more among same = rw same (place-longer (same_line line) lines more among)

pub type_line-longer : (types more : List LogLine) (ty : HolType) → HasType types ty → type_line (types ++ more) ty ≡ type_line types ty
type_line-longer types more (type_variable name) has = refl
type_line-longer types more bool_type has = refl
type_line-longer types more (function_type domain codomain) has =
    let first = number-longer (type_line types domain) (type_line (types ++ more) domain) types more (HasType-among types domain has.0) (type_line-longer types more domain has.0) in
    let second = number-longer (type_line types codomain) (type_line (types ++ more) codomain) types more (HasType-among types codomain has.1) (type_line-longer types more codomain has.1) in
    cc (first, second)
type_line-longer types more (declared_type name) has = refl

pub type_number-longer : (types more : List LogLine) (ty : HolType) → HasType types ty → type_number (types ++ more) ty ≡ type_number types ty
type_number-longer types more ty has = number-longer (type_line types ty) (type_line (types ++ more) ty) types more (HasType-among types ty has) (type_line-longer types more ty has)

pub HasType-longer : (types more : List LogLine) (ty : HolType) → HasType types ty → HasType (types ++ more) ty
HasType-longer types more (type_variable name) has = any-longer (same_line (type_variable_line name)) types more has
HasType-longer types more bool_type has = any-longer (same_line bool_line) types more has
HasType-longer types more (function_type domain codomain) has = (
  HasType-longer types more domain has.0,
  HasType-longer types more codomain has.1,
  rw (type_number-longer types more domain has.0, type_number-longer types more codomain has.1)
      (any-longer (same_line (function_type_line (type_number types domain) (type_number types codomain))) types more has.2),
)
HasType-longer types more (declared_type name) has = any-longer (same_line (declared_type_line name)) types more has

pub HasType-grown : (old new : Written) (ty : HolType) → Grows old new → HasType old.types ty → HasType new.types ty
HasType-grown old new ty grows has = subst (λ types. HasType types ty) (sym grows.types) (HasType-longer old.types grows.more_types ty has)

pub type_number-grown : (old new : Written) (ty : HolType) → Grows old new → HasType old.types ty → type_number new.types ty ≡ type_number old.types ty
type_number-grown old new ty grows has = ap (λ types. type_number types ty) grows.types ∙ type_number-longer old.types grows.more_types ty has

-- a type that is written

pub write_type-grows : (ty : HolType) (w : Written) → Grows w (write_type ty w)
write_type-grows (type_variable name) w = Grows-with_type_line (type_variable_line name) w
write_type-grows bool_type w = Grows-with_type_line bool_line w
write_type-grows (function_type a b) w =
    let one = write_type a w in
    let two = write_type b one in
    Grows-twice w two (with_type (function_type a b) two) (Grows-twice w one two (write_type-grows a w) (write_type-grows b one)) (Grows-with_type_line (type_line two.types (function_type a b)) two)
write_type-grows (declared_type name) w = Grows-with_type_line (declared_type_line name) w

-- the line of a function type whose parts are written
function_type-has : (a b : HolType) (w : Written) → HasType w.types a → HasType w.types b → HasType (with_type (function_type a b) w).types (function_type a b)
function_type-has a b w first second =
    let line : LogLine = type_line w.types (function_type a b) in
    let new : Written = with_type (function_type a b) w in
    let grows : Grows w new = Grows-with_type_line line w in
    let among : is_among line new.types ≡ true = among-with_type_line line w (IsNamed-type_line w.types (function_type a b)) in
    let same_a : type_number new.types a ≡ type_number w.types a = type_number-grown w new a grows first in
    let same_b : type_number new.types b ≡ type_number w.types b = type_number-grown w new b grows second in
    let same : function_type_line (type_number new.types a) (type_number new.types b) ≡ line = cc (same_a, same_b) in
    (HasType-grown w new a grows first, HasType-grown w new b grows second, subst (λ l. is_among l new.types ≡ true) (sym same) among)

pub write_type-has : (ty : HolType) (w : Written) → HasType (write_type ty w).types ty
write_type-has (type_variable name) w = among-with_type_line (type_variable_line name) w (IsNamed-type_line w.types (type_variable name))
write_type-has bool_type w = among-with_type_line bool_line w refl
write_type-has (function_type a b) w =
    let one = write_type a w in
    let two = write_type b one in
    function_type-has a b two (HasType-grown one two a (write_type-grows b one) (write_type-has a w)) (write_type-has b one)
write_type-has (declared_type name) w = among-with_type_line (declared_type_line name) w (IsNamed-type_line w.types (declared_type name))

pub function_written : (a b : HolType) (old one two new : Written) (d c n : ℕ) → IsTypeWritten old one a d → IsTypeWritten one two b c
    → IsTypeLineWritten two new (function_type_line d c) n → IsTypeWritten old new (function_type a b) n
function_written a b old one two new d c n first second put =
    let has_a : HasType one.types a = subst (λ w. HasType w.types a) (sym first.written) (write_type-has a old) in
    let grows : Grows one two = subst (Grows one) (sym second.written) (write_type-grows b one) in
    let has_b : HasType two.types b = subst (λ w. HasType w.types b) (sym second.written) (write_type-has b one) in
    let also_a : HasType two.types a = HasType-grown one two a grows has_a in
    let same_a : d ≡ type_number two.types a = first.numbered ∙ sym (type_number-grown one two a grows has_a) in
    let is_two : two ≡ write_type b (write_type a old) = second.written ∙ ap (write_type b) first.written in
    let line : function_type_line d c ≡ type_line two.types (function_type a b) = cc (same_a, second.numbered) in
    let is_new : new ≡ with_type (function_type a b) two = put.written ∙ ap (λ l. with_type_line l two) line in
    let later : Grows two new = subst (Grows two) (sym is_new) (Grows-with_type_line (type_line two.types (function_type a b)) two) in
    let here_a : type_number new.types a ≡ type_number two.types a = type_number-grown two new a later also_a in
    let here_b : type_number new.types b ≡ type_number two.types b = type_number-grown two new b later has_b in
    let line_now : function_type_line d c ≡ type_line new.types (function_type a b) = cc (line, here_a, here_b) in
    record {
      written = is_new ∙ ap (with_type (function_type a b)) is_two;
      numbered = put.numbered ∙ ap (λ l. place_of l new.types) line_now;
    }

-- a term that is written

-- the lines of a term and of its parts are written
abbrev pub HasTerm : List LogLine → List LogLine → NamedTerm → Type 0
HasTerm types terms (variable name ty) = HasType types ty × (is_among (variable_line name (type_number types ty)) terms ≡ true)
HasTerm types terms (constant name ty) = HasType types ty × (is_among (constant_line name (type_number types ty)) terms ≡ true)
HasTerm types terms (combination function argument) =
    HasTerm types terms function × HasTerm types terms argument
    × (is_among (combination_line (term_number types terms function) (term_number types terms argument)) terms ≡ true)
HasTerm types terms (abstraction name ty body) =
    HasType types ty × (is_among (variable_line name (type_number types ty)) terms ≡ true) × HasTerm types terms body
    × (is_among (abstraction_line (place_of (variable_line name (type_number types ty)) terms) (term_number types terms body)) terms ≡ true)

pub HasTerm-among : (types terms : List LogLine) (term : NamedTerm) → HasTerm types terms term → is_among (term_line types terms term) terms ≡ true
HasTerm-among types terms (variable name ty) has = has.1
HasTerm-among types terms (constant name ty) has = has.1
HasTerm-among types terms (combination function argument) has = has.2
HasTerm-among types terms (abstraction name ty body) has = has.3

module _ (types more_types terms more_terms : List LogLine) where
  pub term_line-longer : (term : NamedTerm) → HasTerm types terms term → term_line (types ++ more_types) (terms ++ more_terms) term ≡ term_line types terms term
  term_line-longer (variable name ty) has = ap (variable_line name) (type_number-longer types more_types ty has.0)
  term_line-longer (constant name ty) has = ap (constant_line name) (type_number-longer types more_types ty has.0)
  term_line-longer (combination function argument) has =
      let first = number-longer (term_line types terms function) (term_line (types ++ more_types) (terms ++ more_terms) function) terms more_terms
      (HasTerm-among types terms function has.0) (term_line-longer function has.0) in
      let second = number-longer (term_line types terms argument) (term_line (types ++ more_types) (terms ++ more_terms) argument) terms more_terms
      (HasTerm-among types terms argument has.1) (term_line-longer argument has.1) in
      cc (first, second)
  term_line-longer (abstraction name ty body) has =
      let binder : variable_line name (type_number (types ++ more_types) ty) ≡ variable_line name (type_number types ty) = ap (variable_line name) (type_number-longer types more_types ty has.0) in
      let first = number-longer (variable_line name (type_number types ty)) (variable_line name (type_number (types ++ more_types) ty)) terms more_terms has.1 binder in
      let second = number-longer (term_line types terms body) (term_line (types ++ more_types) (terms ++ more_terms) body) terms more_terms
      (HasTerm-among types terms body has.2) (term_line-longer body has.2) in
      cc (first, second)

  pub term_number-longer : (term : NamedTerm) → HasTerm types terms term → term_number (types ++ more_types) (terms ++ more_terms) term ≡ term_number types terms term
  term_number-longer term has = number-longer (term_line types terms term)
      (term_line (types ++ more_types) (terms ++ more_terms) term) terms more_terms (HasTerm-among types terms term has) (term_line-longer term has)

  among-as : (line other : LogLine) → is_among line terms ≡ true → other ≡ line → is_among other (terms ++ more_terms) ≡ true
  among-as line other among same = rw same (any-longer (same_line line) terms more_terms among)

  pub HasTerm-longer : (term : NamedTerm) → HasTerm types terms term → HasTerm (types ++ more_types) (terms ++ more_terms) term
  HasTerm-longer (variable name ty) has = (
    HasType-longer types more_types ty has.0,
    among-as (variable_line name (type_number types ty)) (variable_line name (type_number (types ++ more_types) ty)) has.1 (term_line-longer (variable name ty) has),
  )
  HasTerm-longer (constant name ty) has = (
    HasType-longer types more_types ty has.0,
    among-as (constant_line name (type_number types ty)) (constant_line name (type_number (types ++ more_types) ty)) has.1 (term_line-longer (constant name ty) has),
  )
  HasTerm-longer (combination function argument) has = (
    HasTerm-longer function has.0,
    HasTerm-longer argument has.1,
    among-as (term_line types terms (combination function argument))
        (term_line (types ++ more_types) (terms ++ more_terms) (combination function argument)) has.2
        (term_line-longer (combination function argument) has),
  )
  HasTerm-longer (abstraction name ty body) has = (
    HasType-longer types more_types ty has.0,
    among-as (variable_line name (type_number types ty)) (variable_line name (type_number (types ++ more_types) ty)) has.1 (ap (variable_line name) (type_number-longer types more_types ty has.0)),
    HasTerm-longer body has.2,
    among-as (term_line types terms (abstraction name ty body))
        (term_line (types ++ more_types) (terms ++ more_terms) (abstraction name ty body)) has.3 (term_line-longer (abstraction name ty body) has),
  )

abbrev pub HasTermOf : Written → NamedTerm → Type 0
HasTermOf w term = HasTerm w.types w.terms term

pub HasTerm-grown : (old new : Written) (term : NamedTerm) → Grows old new → HasTermOf old term → HasTermOf new term
HasTerm-grown old new term grows has = rw (grows.types, grows.terms) (HasTerm-longer old.types grows.more_types old.terms grows.more_terms term has)

pub term_number-grown : (old new : Written) (term : NamedTerm) → Grows old new → HasTermOf old term → number_of_term new term ≡ number_of_term old term
term_number-grown old new term grows has = rw (grows.types, grows.terms) (term_number-longer old.types grows.more_types old.terms grows.more_terms term has)

pub Grows-with_term : (term : NamedTerm) (w : Written) → Grows w (with_term term w)
Grows-with_term term w = Grows-with_term_line (term_line w.types w.terms term) w

pub write_variable-grows : (name : List ℕ) (ty : HolType) (w : Written) → Grows w (write_variable name ty w)
write_variable-grows name ty w = Grows-twice w (write_type ty w) (write_variable name ty w) (write_type-grows ty w) (Grows-with_term (variable name ty) (write_type ty w))

pub write_term-grows : (term : NamedTerm) (w : Written) → Grows w (write_term term w)
write_term-grows (variable name ty) w = write_variable-grows name ty w
write_term-grows (constant name ty) w = Grows-twice w (write_type ty w) (write_term (constant name ty) w) (write_type-grows ty w) (Grows-with_term (constant name ty) (write_type ty w))
write_term-grows (combination f a) w =
    let one = write_term f w in
    let two = write_term a one in
    Grows-twice w two (with_term (combination f a) two) (Grows-twice w one two (write_term-grows f w) (write_term-grows a one)) (Grows-with_term (combination f a) two)
write_term-grows (abstraction name ty body) w =
    let one = write_variable name ty w in
    let two = write_term body one in
    Grows-twice w two (with_term (abstraction name ty body) two) (Grows-twice w one two (write_variable-grows name ty w) (write_term-grows body one)) (Grows-with_term (abstraction name ty body) two)

-- what is there of a term's line that is put
abbrev IsPut : NamedTerm → Written → Type 0
IsPut term w = is_among (term_line w.types w.terms term) (with_term term w).terms ≡ true

is_put : (term : NamedTerm) (w : Written) → IsPut term w
is_put term w = among-with_term_line (term_line w.types w.terms term) w (IsNamed-term_line w.types w.terms term)

leaf_numbers : (ty : HolType) (term : NamedTerm) (w : Written) → HasType w.types ty → type_number (with_term term w).types ty ≡ type_number w.types ty
leaf_numbers ty term w has = type_number-grown w (with_term term w) ty (Grows-with_term term w) has

variable-has : (name : List ℕ) (ty : HolType) (w : Written) → HasType w.types ty → HasTermOf (with_term (variable name ty) w) (variable name ty)
variable-has name ty w has =
    let new = with_term (variable name ty) w in
    let same : variable_line name (type_number new.types ty) ≡ variable_line name (type_number w.types ty) = ap (variable_line name) (leaf_numbers ty (variable name ty) w has) in
    (HasType-grown w new ty (Grows-with_term (variable name ty) w) has, subst (λ l. is_among l new.terms ≡ true) (sym same) (is_put (variable name ty) w))

constant-has : (name : List ℕ) (ty : HolType) (w : Written) → HasType w.types ty → HasTermOf (with_term (constant name ty) w) (constant name ty)
constant-has name ty w has =
    let new = with_term (constant name ty) w in
    let same : constant_line name (type_number new.types ty) ≡ constant_line name (type_number w.types ty) = ap (constant_line name) (leaf_numbers ty (constant name ty) w has) in
    (HasType-grown w new ty (Grows-with_term (constant name ty) w) has, subst (λ l. is_among l new.terms ≡ true) (sym same) (is_put (constant name ty) w))

combination-has : (f a : NamedTerm) (w : Written) → HasTermOf w f → HasTermOf w a → HasTermOf (with_term (combination f a) w) (combination f a)
combination-has f a w first second =
    let term = combination f a in
    let new = with_term term w in
    let grows = Grows-with_term term w in
    let same_f : number_of_term new f ≡ number_of_term w f = term_number-grown w new f grows first in
    let same_a : number_of_term new a ≡ number_of_term w a = term_number-grown w new a grows second in
    let same : combination_line (number_of_term new f) (number_of_term new a) ≡ combination_line (number_of_term w f) (number_of_term w a) = cc (same_f, same_a) in
    (HasTerm-grown w new f grows first, HasTerm-grown w new a grows second, subst (λ l. is_among l new.terms ≡ true) (sym same) (is_put term w))

abstraction-has : (name : List ℕ) (ty : HolType) (body : NamedTerm) (w : Written) → HasTermOf w (variable name ty) → HasTermOf w body
    → HasTermOf (with_term (abstraction name ty body) w) (abstraction name ty body)
abstraction-has name ty body w first second =
    let term = abstraction name ty body in
    let new = with_term term w in
    let grows = Grows-with_term term w in
    let binder : HasTermOf new (variable name ty) = HasTerm-grown w new (variable name ty) grows first in
    let same_v : number_of_term new (variable name ty) ≡ number_of_term w (variable name ty) = term_number-grown w new (variable name ty) grows first in
    let same_b : number_of_term new body ≡ number_of_term w body = term_number-grown w new body grows second in
    let same : abstraction_line (number_of_term new (variable name ty)) (number_of_term new body) ≡ abstraction_line
    (number_of_term w (variable name ty)) (number_of_term w body) = cc (same_v, same_b) in
    (binder.0, binder.1, HasTerm-grown w new body grows second, subst (λ l. is_among l new.terms ≡ true) (sym same) (is_put term w))

pub write_term-has : (term : NamedTerm) (w : Written) → HasTermOf (write_term term w) term
write_term-has (variable name ty) w = variable-has name ty (write_type ty w) (write_type-has ty w)
write_term-has (constant name ty) w = constant-has name ty (write_type ty w) (write_type-has ty w)
write_term-has (combination f a) w =
    let one = write_term f w in
    let two = write_term a one in
    combination-has f a two (HasTerm-grown one two f (write_term-grows a one) (write_term-has f w)) (write_term-has a one)
write_term-has (abstraction name ty body) w =
    let one = write_variable name ty w in
    let two = write_term body one in
    let binder : HasTermOf one (variable name ty) = variable-has name ty (write_type ty w) (write_type-has ty w) in
    abstraction-has name ty body two (HasTerm-grown one two (variable name ty) (write_term-grows body one) binder) (write_term-has body one)

-- a term line over written parts: what is put is the term, and its number is the line's
put_term : (term : NamedTerm) (w new : Written) (line : LogLine) (n : ℕ) → line ≡ term_line w.types w.terms term → (Grows w new → term_line new.types new.terms term ≡ term_line w.types w.terms term)
    → IsTermLineWritten w new line n → (new ≡ with_term term w) × (n ≡ number_of_term new term)
put_term term w new line n is kept put =
    let is_new : new ≡ with_term term w = put.written ∙ ap (λ l. with_term_line l w) is in
    let grows : Grows w new = subst (Grows w) (sym is_new) (Grows-with_term term w) in
    let line_now : line ≡ term_line new.types new.terms term = is ∙ sym (kept grows) in
    (is_new, put.numbered ∙ ap (λ l. place_of l new.terms) line_now)

pub variable_written : (name : List ℕ) (ty : HolType) (old one new : Written) (t n : ℕ) → IsTypeWritten old one ty t
    → IsTermLineWritten one new (variable_line name t) n → IsTermWritten old new (variable name ty) n
variable_written name ty old one new t n first put =
    let has : HasType one.types ty = subst (λ w. HasType w.types ty) (sym first.written) (write_type-has ty old) in
    let same = put_term (variable name ty) one new (variable_line name t) n (ap (variable_line name) first.numbered) (λ grows. ap (variable_line name) (type_number-grown one new ty grows has)) put in
    record { written = same.0 ∙ ap (with_term (variable name ty)) first.written; numbered = same.1 }

pub constant_written : (name : List ℕ) (ty : HolType) (old one new : Written) (t n : ℕ) → IsTypeWritten old one ty t
    → IsTermLineWritten one new (constant_line name t) n → IsTermWritten old new (constant name ty) n
constant_written name ty old one new t n first put =
    let has : HasType one.types ty = subst (λ w. HasType w.types ty) (sym first.written) (write_type-has ty old) in
    let same = put_term (constant name ty) one new (constant_line name t) n (ap (constant_line name) first.numbered) (λ grows. ap (constant_line name) (type_number-grown one new ty grows has)) put in
    record { written = same.0 ∙ ap (with_term (constant name ty)) first.written; numbered = same.1 }

-- two terms one after the other, and a line over their numbers
module _ (first second : NamedTerm) (old one two : Written) (i j : ℕ) (is_first : IsTermWritten old one first i) (is_second : IsTermWritten one two second j) where
  has_first : HasTermOf one first
  has_first = subst (λ w. HasTermOf w first) (sym is_first.written) (write_term-has first old)

  grows_second : Grows one two
  grows_second = subst (Grows one) (sym is_second.written) (write_term-grows second one)

  pub has_both : HasTermOf two first × HasTermOf two second
  has_both = (HasTerm-grown one two first grows_second has_first, subst (λ w. HasTermOf w second) (sym is_second.written) (write_term-has second one))

  pub numbers_of_both : (i ≡ number_of_term two first) × (j ≡ number_of_term two second)
  numbers_of_both = (is_first.numbered ∙ sym (term_number-grown one two first grows_second has_first), is_second.numbered)

  pub is_both : two ≡ write_term second (write_term first old)
  is_both = is_second.written ∙ ap (write_term second) is_first.written

pub combination_written : (f a : NamedTerm) (old one two new : Written) (i j n : ℕ) → IsTermWritten old one f i → IsTermWritten one two a j
    → IsTermLineWritten two new (combination_line i j) n → IsTermWritten old new (combination f a) n
combination_written f a old one two new i j n first second put =
    let numbers = numbers_of_both f a old one two i j first second in
    let has = has_both f a old one two i j first second in
    let line : combination_line i j ≡ term_line two.types two.terms (combination f a) = cc (numbers.0, numbers.1) in
    let kept = λ (grows : Grows two new). ap (λ k. combination_line k (number_of_term new a)) (term_number-grown two new f grows has.0)
    ∙ ap (combination_line (number_of_term two f)) (term_number-grown two new a grows has.1) in
    let same = put_term (combination f a) two new (combination_line i j) n line kept put in
    record { written = same.0 ∙ ap (with_term (combination f a)) (is_both f a old one two i j first second); numbered = same.1 }

pub abstraction_written : (name : List ℕ) (ty : HolType) (body : NamedTerm) (old one two new : Written) (i j n : ℕ) → IsTermWritten old one (variable name ty) i → IsTermWritten one two body j
    → IsTermLineWritten two new (abstraction_line i j) n → IsTermWritten old new (abstraction name ty body) n
abstraction_written name ty body old one two new i j n first second put =
    let v = variable name ty in
    let numbers = numbers_of_both v body old one two i j first second in
    let has = has_both v body old one two i j first second in
    let line : abstraction_line i j ≡ term_line two.types two.terms (abstraction name ty body) = cc (numbers.0, numbers.1) in
    let kept = λ (grows : Grows two new). ap (λ k. abstraction_line k (number_of_term new body)) (term_number-grown two new v grows has.0)
    ∙ ap (abstraction_line (number_of_term two v)) (term_number-grown two new body grows has.1) in
    let same = put_term (abstraction name ty body) two new (abstraction_line i j) n line kept put in
    record { written = same.0 ∙ ap (with_term (abstraction name ty body)) (is_both v body old one two i j first second); numbered = same.1 }

-- lists

module _ {A : Type 0} (write : A → Written → Written) (number : Written → A → ℕ) (Has : Written → A → Type 0)
    (grows : (x : A) (w : Written) → Grows w (write x w)) (has : (x : A) (w : Written) → Has (write x w) x)
    (has_grown : (old new : Written) (x : A) → Grows old new → Has old x → Has new x)
    (number_grown : (old new : Written) (x : A) → Grows old new → Has old x → number new x ≡ number old x) where
  pub each-grows : (xs : List A) (w : Written) → Grows w (write_each write xs w)
  each-grows [] w = Grows-same w
  each-grows (x ∷ xs) w = Grows-twice w (write x w) (write_each write xs (write x w)) (grows x w) (each-grows xs (write x w))

  -- the numbers of a list that is written stay
  each-numbers : (xs : List A) (w new : Written) → Grows (write_each write xs w) new → map (number new) xs ≡ map (number (write_each write xs w)) xs
  each-numbers [] w new later = refl
  each-numbers (x ∷ xs) w new later =
      let one = write x w in
      let all = write_each write xs one in
      let there : Has all x = has_grown one all x (each-grows xs one) (has x w) in
      let first : number new x ≡ number all x = number_grown all new x later there in
      let rest : map (number new) xs ≡ map (number all) xs = each-numbers xs one new later in
      cc (first, rest)

  each-push : (xs : List A) (x : A) (w : Written) → write_each write (xs ++ x ∷ []) w ≡ write x (write_each write xs w)
  each-push [] x w = refl
  each-push (y ∷ xs) x w = each-push xs x (write y w)

  map-push : (f : A → ℕ) (xs : List A) (x : A) → map f (xs ++ x ∷ []) ≡ map f xs ++ f x ∷ []
  map-push f [] x = refl
  map-push f (y ∷ xs) x = ap (λ l. f y ∷ l) (map-push f xs x)

  pub written_one_more : (old w new : Written) (xs : List A) (x : A) (ns : List ℕ) (n : ℕ) → AreWritten write number old w xs ns → IsWritten write number w new x n
      → AreWritten write number old new (xs ++ x ∷ []) (ns ++ n ∷ [])
  written_one_more old w new xs x ns n are is =
      let is_new : new ≡ write x (write_each write xs old) = is.written ∙ ap (write x) are.written in
      let later : Grows (write_each write xs old) new = subst (Grows (write_each write xs old)) (sym is_new) (grows x (write_each write xs old)) in
      let same : map (number new) xs ≡ map (number w) xs = each-numbers xs old new later ∙ ap (λ v. map (number v) xs) (sym are.written) in
      record {
        written = is_new ∙ sym (each-push xs x old);
        numbered = ap (λ l. l ++ n ∷ []) (are.numbered ∙ sym same) ∙ ap (λ k. map (number new) xs ++ k ∷ []) is.numbered ∙ sym (map-push (number new) xs x);
      }

pub one_more_type : (old w new : Written) (xs : List HolType) (x : HolType) (ns : List ℕ) (n : ℕ) → AreTypesWritten old w xs ns
    → IsTypeWritten w new x n → AreTypesWritten old new (xs ++ x ∷ []) (ns ++ n ∷ [])
one_more_type = written_one_more write_type number_of_type (λ w ty. HasType w.types ty) write_type-grows write_type-has HasType-grown type_number-grown

pub one_more_term : (old w new : Written) (xs : List NamedTerm) (x : NamedTerm) (ns : List ℕ) (n : ℕ) → AreTermsWritten old w xs ns
    → IsTermWritten w new x n → AreTermsWritten old new (xs ++ x ∷ []) (ns ++ n ∷ [])
one_more_term = written_one_more write_term number_of_term HasTermOf write_term-grows write_term-has HasTerm-grown term_number-grown

pub write_types-grows : (types : List HolType) (w : Written) → Grows w (write_each write_type types w)
write_types-grows = each-grows write_type number_of_type (λ w ty. HasType w.types ty) write_type-grows write_type-has HasType-grown type_number-grown

pub write_terms-grows : (terms : List NamedTerm) (w : Written) → Grows w (write_each write_term terms w)
write_terms-grows = each-grows write_term number_of_term HasTermOf write_term-grows write_term-has HasTerm-grown term_number-grown

-- a term, and then more terms
pub first_of_more : (old one two : Written) (x : NamedTerm) (n : ℕ) (xs : List NamedTerm) (ns : List ℕ) → IsTermWritten old one x n → AreTermsWritten one two xs ns
    → (two ≡ write_each write_term (x ∷ xs) old) × (n ≡ number_of_term two x)
first_of_more old one two x n xs ns is are =
    let has : HasTermOf one x = subst (λ w. HasTermOf w x) (sym is.written) (write_term-has x old) in
    let grows : Grows one two = subst (Grows one) (sym are.written) (write_terms-grows xs one) in
    (are.written ∙ ap (write_each write_term xs) is.written, is.numbered ∙ sym (term_number-grown one two x grows has))
