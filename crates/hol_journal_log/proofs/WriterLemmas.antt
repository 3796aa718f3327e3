-- The steps of the writer.
use Rattle.std.proofs.Common.{◌≡◌, ℕ, zero, suc, ◌+◌, ◌||◌, List, [], ◌∷◌, ◌++◌, Bool, true, false, cond, not, if◌then◌else◌, map, refl, sym, ◌∙◌, ap, subst}
use Rattle.std.proofs.Common.{eqb, Result, Ok, Err, IfOk, Some, arith}
use Rattle.std.specs.Prelude.{slice_get}
use Rattle.hol_model.specs.Terms.HolType.{HolType, function_type, type_eq}
use Rattle.hol_model.specs.Terms.NamedTerm.{NamedTerm, variable, constant, combination, abstraction}
use Rattle.hol_model.specs.Logs.LogLine.LogLine.{function_type_line, variable_line, constant_line, combination_line, abstraction_line}
use Rattle.hol_model.specs.declared.fault.Fault.{Fault}
use Rattle.std.specs.Str.{bytes_eq}
use Rattle.std.proofs.lemmas.Slice.Eq.{bytes_eq-Decides}
use Rattle.std.proofs.lemmas.Bool.{eq-eqb, eqb-true}
use Rattle.hol_model.proofs.Tests.{both, same_answer}
use Rattle.hol_model.proofs.Terms.HolTypeEq.{same_from_type_eq}
use Rattle.std.specs.List.{list_any, position_or_len, IsDistinct, AllByRecursion}
use Rattle.std.proofs.lemmas.Map.Keys.{IsDistinct-head, IsDistinct-tail}
use Rattle.indexmap.specs.IndexSet.{insert_key}
use Rattle.hol_model.specs.Logs.LogLine.{LogLine}
use Rattle.hol_journal_log.specs.LogWriting.{Written, same_line, is_among, place_of}
use Rattle.hol_journal_log.specs.Writing.{IsTypeLineWritten, IsTermLineWritten, IsTypeWritten, IsTermWritten}
use Rattle.hol_journal_log.specs.Writer.{line_of_type, line_of_term}
use Rattle.hol_journal_log.specs.declared.lines.TypeLine.{TypeLine}
use Rattle.hol_journal_log.specs.declared.lines.TypeLine.TheVariants as types
use Rattle.hol_journal_log.specs.declared.lines.TermLine.{TermLine}
use Rattle.hol_journal_log.specs.declared.lines.TermLine.TheVariants as terms
use Rattle.hol_journal_log.specs.contracts.lines.TypeLinePartialEq.TheImpl as type_line
use Rattle.hol_journal_log.specs.contracts.lines.TermLinePartialEq.TheImpl as term_line
use Rattle.hol_journal_log.proofs.WrittenLemmas.{IsNamed, place-put, function_written, variable_written, constant_written, combination_written, abstraction_written}

-- two keys are equal where their lines are the same

pub type_lines_agree : (a b : TypeLine) → type_line.ghosts.eq a b ≡ same_line (line_of_type a) (line_of_type b)
type_lines_agree (types.Variable a) (types.Variable b) = refl
type_lines_agree types.Bool types.Bool = refl
type_lines_agree (types.Function a b) (types.Function c d) = refl
type_lines_agree (types.Declared a) (types.Declared b) = refl
type_lines_agree _ _ = refl

pub term_lines_agree : (a b : TermLine) → term_line.ghosts.eq a b ≡ same_line (line_of_term a) (line_of_term b)
term_lines_agree (terms.Variable a s) (terms.Variable b t) = refl
term_lines_agree (terms.Constant a s) (terms.Constant b t) = refl
term_lines_agree (terms.Combination f a) (terms.Combination g b) = refl
term_lines_agree (terms.Abstraction v a) (terms.Abstraction w b) = refl
term_lines_agree _ _ = refl

module _ {K : Type 0} (eq : K → K → Bool) (line : K → LogLine) (agree : (a b : K) → eq a b ≡ same_line (line a) (line b)) (key : K) where
  any-line : (keys : List K) → list_any (eq key) keys ≡ is_among (line key) (map line keys)
  any-line [] = refl
  any-line (k ∷ keys) = let first = agree key k in let rest = any-line keys in cc

  place-line : (keys : List K) → position_or_len (eq key) keys ≡ place_of (line key) (map line keys)
  place-line [] = refl
  place-line (k ∷ keys) = ap (λ t. cond (not t) (1 + position_or_len (eq key) keys) 0) (agree key k) ∙ ap (λ n. cond (not (same_line (line key) (line k))) (1 + n) 0) (place-line keys)

  map-end : (keys : List K) → map line (keys ++ key ∷ []) ≡ map line keys ++ line key ∷ []
  map-end [] = refl
  map-end (k ∷ keys) = ap (λ l. line k ∷ l) (map-end keys)

  there-key : (keys : List K) → list_any (eq key) keys ≡ true → insert_key eq keys key ≡ keys
  there-key keys any = rw any

  new-key : (keys : List K) → list_any (eq key) keys ≡ false → insert_key eq keys key ≡ keys ++ key ∷ []
  new-key keys any = rw any

same_bytes : (a : List ℕ) → bytes_eq a a ≡ true
same_bytes a = (bytes_eq-Decides a a).1 refl

same_number : (a : ℕ) → eqb a a ≡ true
same_number a = eq-eqb a a refl

type_is_named : (line : TypeLine) → IsNamed (line_of_type line)
type_is_named (types.Variable name) = same_bytes name.now
type_is_named types.Bool = refl
type_is_named (types.Function a b) = both _ _ (same_number a) (same_number b)
type_is_named (types.Declared name) = same_bytes name.now

term_is_named : (line : TermLine) → IsNamed (line_of_term line)
term_is_named (terms.Variable name ty) = both _ _ (same_bytes name.now) (same_number ty)
term_is_named (terms.Constant name ty) = both _ _ (same_bytes name.now) (same_number ty)
term_is_named (terms.Combination f a) = both _ _ (same_number f) (same_number a)
term_is_named (terms.Abstraction v t) = both _ _ (same_number v) (same_number t)

-- what an answered number is
answer_at : (answer : Result ℕ Fault) (place : ℕ) (P : ℕ → Type 0) → IfOk answer (λ number. number ≡ place) → P place → IfOk answer P
answer_at (Ok number) place P is holds = subst P (sym is) holds
answer_at (Err fault) place P is holds = tt

negated : (test : Bool) → not test ≡ false → test ≡ true
negated true is = refl
negated false is = cc

not_negated : (test : Bool) → not test ≡ true → test ≡ false
not_negated true is = cc
not_negated false is = refl

-- the line is put, or was there

module _ (line : LogLine) (named : IsNamed line) (terms : List LogLine) (theorems : List ℕ) (lines : List LogLine) (place : ℕ) where
  was_type : (types : List LogLine) → is_among line types ≡ true → place ≡ place_of line types
      → IsTypeLineWritten (record { types = types; terms = terms; theorems = theorems; lines = lines }) (record { types = types; terms = terms; theorems = theorems; lines = lines }) line place
  was_type types among is = record { written = rw among; numbered = is }

  new_type : (types : List LogLine) → is_among line types ≡ false → place ≡ place_of line types
      → IsTypeLineWritten (record { types = types; terms = terms; theorems = theorems; lines = lines })
      (record { types = types ++ line ∷ []; terms = terms; theorems = theorems; lines = lines ++ line ∷ [] }) line place
  new_type types among is =
      let put : place_of line (if is_among line types then types else types ++ line ∷ []) ≡ place_of line types = place-put (same_line line) types line named in
      let here : place_of line (types ++ line ∷ []) ≡ place_of line types = sym (ap (λ t. place_of line (if t then types else types ++ line ∷ [])) among) ∙ put in
      record { written = rw among; numbered = is ∙ sym here }

-- the key of a type is put, or was there
module _ (key : TypeLine) (keys new_keys : List TypeLine) (terms : List LogLine) (theorems : List ℕ) (lines : List LogLine) (is_new : Bool) (place : ℕ) (answer : Result ℕ Fault)
    (put : new_keys ≡ insert_key type_line.ghosts.eq keys key) (is : is_new ≡ not (list_any (type_line.ghosts.eq key) keys))
    (at : place ≡ position_or_len (type_line.ghosts.eq key) keys) (answers : IfOk answer (λ number. number ≡ place)) where
  type_place : place ≡ place_of (line_of_type key) (map line_of_type keys)
  type_place = at ∙ place-line type_line.ghosts.eq line_of_type type_lines_agree key keys

  type_any : list_any (type_line.ghosts.eq key) keys ≡ is_among (line_of_type key) (map line_of_type keys)
  type_any = any-line type_line.ghosts.eq line_of_type type_lines_agree key keys

  pub type_was_there : is_new ≡ false
      → IfOk answer (IsTypeLineWritten (record { types = map line_of_type keys; terms = terms; theorems = theorems; lines = lines })
      (record { types = map line_of_type new_keys; terms = terms; theorems = theorems; lines = lines }) (line_of_type key))
  type_was_there old =
      let any : list_any (type_line.ghosts.eq key) keys ≡ true = negated _ (sym is ∙ old) in
      let same : new_keys ≡ keys = put ∙ there-key type_line.ghosts.eq line_of_type type_lines_agree key keys any in
      answer_at answer place _ answers (rw same (was_type (line_of_type key) (type_is_named key) terms theorems lines place (map line_of_type keys) (sym type_any ∙ any) type_place))

  pub type_is_put : is_new ≡ true → (new_lines : List LogLine) → new_lines ≡ lines ++ line_of_type key ∷ []
      → IfOk answer (IsTypeLineWritten (record { types = map line_of_type keys; terms = terms; theorems = theorems; lines = lines })
      (record { types = map line_of_type new_keys; terms = terms; theorems = theorems; lines = new_lines }) (line_of_type key))
  type_is_put new new_lines longer =
      let any : list_any (type_line.ghosts.eq key) keys ≡ false = not_negated _ (sym is ∙ new) in
      let same : map line_of_type new_keys ≡ map line_of_type keys ++ line_of_type key ∷ [] =
      ap (map line_of_type) (put ∙ new-key type_line.ghosts.eq line_of_type type_lines_agree key keys any) ∙ map-end type_line.ghosts.eq line_of_type type_lines_agree key keys in
      answer_at answer place _ answers (rw (same, longer) (new_type (line_of_type key) (type_is_named key) terms theorems lines place (map line_of_type keys) (sym type_any ∙ any) type_place))

module _ (line : LogLine) (named : IsNamed line) (types : List LogLine) (theorems : List ℕ) (lines : List LogLine) (place : ℕ) where
  was_term : (terms : List LogLine) → is_among line terms ≡ true → place ≡ place_of line terms
      → IsTermLineWritten (record { types = types; terms = terms; theorems = theorems; lines = lines }) (record { types = types; terms = terms; theorems = theorems; lines = lines }) line place
  was_term terms among is = record { written = rw among; numbered = is }

  new_term : (terms : List LogLine) → is_among line terms ≡ false → place ≡ place_of line terms
      → IsTermLineWritten (record { types = types; terms = terms; theorems = theorems; lines = lines })
      (record { types = types; terms = terms ++ line ∷ []; theorems = theorems; lines = lines ++ line ∷ [] }) line place
  new_term terms among is =
      let put : place_of line (if is_among line terms then terms else terms ++ line ∷ []) ≡ place_of line terms = place-put (same_line line) terms line named in
      let here : place_of line (terms ++ line ∷ []) ≡ place_of line terms = sym (ap (λ t. place_of line (if t then terms else terms ++ line ∷ [])) among) ∙ put in
      record { written = rw among; numbered = is ∙ sym here }

-- the key of a term is put, or was there
module _ (key : TermLine) (keys new_keys : List TermLine) (types : List LogLine) (theorems : List ℕ) (lines : List LogLine) (is_new : Bool) (place : ℕ) (answer : Result ℕ Fault)
    (put : new_keys ≡ insert_key term_line.ghosts.eq keys key) (is : is_new ≡ not (list_any (term_line.ghosts.eq key) keys))
    (at : place ≡ position_or_len (term_line.ghosts.eq key) keys) (answers : IfOk answer (λ number. number ≡ place)) where
  term_place : place ≡ place_of (line_of_term key) (map line_of_term keys)
  term_place = at ∙ place-line term_line.ghosts.eq line_of_term term_lines_agree key keys

  term_any : list_any (term_line.ghosts.eq key) keys ≡ is_among (line_of_term key) (map line_of_term keys)
  term_any = any-line term_line.ghosts.eq line_of_term term_lines_agree key keys

  pub term_was_there : is_new ≡ false
      → IfOk answer (IsTermLineWritten (record { types = types; terms = map line_of_term keys; theorems = theorems; lines = lines })
      (record { types = types; terms = map line_of_term new_keys; theorems = theorems; lines = lines }) (line_of_term key))
  term_was_there old =
      let any : list_any (term_line.ghosts.eq key) keys ≡ true = negated _ (sym is ∙ old) in
      let same : new_keys ≡ keys = put ∙ there-key term_line.ghosts.eq line_of_term term_lines_agree key keys any in
      answer_at answer place _ answers (rw same (was_term (line_of_term key) (term_is_named key) types theorems lines place (map line_of_term keys) (sym term_any ∙ any) term_place))

  pub term_is_put : is_new ≡ true → (new_lines : List LogLine) → new_lines ≡ lines ++ line_of_term key ∷ []
      → IfOk answer (IsTermLineWritten (record { types = types; terms = map line_of_term keys; theorems = theorems; lines = lines })
      (record { types = types; terms = map line_of_term new_keys; theorems = theorems; lines = new_lines }) (line_of_term key))
  term_is_put new new_lines longer =
      let any : list_any (term_line.ghosts.eq key) keys ≡ false = not_negated _ (sym is ∙ new) in
      let same : map line_of_term new_keys ≡ map line_of_term keys ++ line_of_term key ∷ [] =
      ap (map line_of_term) (put ∙ new-key term_line.ghosts.eq line_of_term term_lines_agree key keys any) ∙ map-end term_line.ghosts.eq line_of_term term_lines_agree key keys in
      answer_at answer place _ answers (rw (same, longer) (new_term (line_of_term key) (term_is_named key) types theorems lines place (map line_of_term keys) (sym term_any ∙ any) term_place))

-- what stands at a place of a list without repetitions is first found there

at_place : {X : Type 0} (P : X → Type 0) (xs : List X) (i : ℕ) (x : X) → AllByRecursion P xs → slice_get xs i ≡ Some x → P x
at_place P [] i x all there = cc
at_place P (y ∷ xs) zero x all there = let same : y ≡ x = cc in subst P same all.0
at_place P (y ∷ xs) (suc i) x all there = at_place P xs i x all.1 there

any-there : {X : Type 0} (p : X → Bool) (xs : List X) (i : ℕ) (x : X) → slice_get xs i ≡ Some x → p x ≡ true → list_any p xs ≡ true
any-there p [] i x there passes = cc
any-there p (y ∷ xs) zero x there passes = let first : y ≡ x = cc in let is : p y ≡ true = subst (λ w. p w ≡ true) (sym first) passes in rw is
any-there p (y ∷ xs) (suc i) x there passes = go (p y) (any-there p xs i x there passes)
  where
    go : (test : Bool) → list_any p xs ≡ true → (test || list_any p xs) ≡ true
    go true later = refl
    go false later = later

place-there : {X : Type 0} (e : X → X → Bool) → ((x y : X) → e x y ≡ e y x) → (xs : List X) (i : ℕ) (x : X) → IsDistinct e xs → slice_get xs i ≡ Some x → e x x ≡ true → position_or_len (e x) xs ≡ i
place-there e flips [] i x distinct there same = cc
place-there e flips (y ∷ xs) zero x distinct there same = let first : y ≡ x = cc in let is : e x y ≡ true = subst (λ w. e x w ≡ true) (sym first) same in rw is
place-there e flips (y ∷ xs) (suc i) x distinct there same =
    let differ : e y x ≡ false = at_place (λ w. e y w ≡ false) xs i x (IsDistinct-head e y xs distinct) there in
    let is : e x y ≡ false = flips x y ∙ differ in
    let later : position_or_len (e x) xs ≡ i = place-there e flips xs i x (IsDistinct-tail e y xs distinct) there same in
    let more : 1 + position_or_len (e x) xs ≡ suc i = omega arith in
    rw is more

bytes-flip : (a b : List ℕ) → bytes_eq a b ≡ bytes_eq b a
bytes-flip a b = same_answer (bytes_eq a b) (bytes_eq b a) (turn a b) (turn b a)
  where
    turn : (a b : List ℕ) → bytes_eq a b ≡ true → bytes_eq b a ≡ true
    turn a b same = (bytes_eq-Decides b a).1 (sym ((bytes_eq-Decides a b).0 same))

number-flip : (a b : ℕ) → eqb a b ≡ eqb b a
number-flip a b = same_answer (eqb a b) (eqb b a) (turn a b) (turn b a)
  where
    turn : (a b : ℕ) → eqb a b ≡ true → eqb b a ≡ true
    turn a b same = eq-eqb b a (sym (eqb-true a b same))

type_flips : (a b : TypeLine) → type_line.ghosts.eq a b ≡ type_line.ghosts.eq b a
type_flips (types.Variable a) (types.Variable b) = bytes-flip a.now b.now
type_flips types.Bool types.Bool = refl
type_flips (types.Function a b) (types.Function c d) = let first = number-flip a c in let second = number-flip b d in cc
type_flips (types.Declared a) (types.Declared b) = bytes-flip a.now b.now
type_flips _ _ = refl

term_flips : (a b : TermLine) → term_line.ghosts.eq a b ≡ term_line.ghosts.eq b a
term_flips (terms.Variable a s) (terms.Variable b t) = let first = bytes-flip a.now b.now in let second = number-flip s t in cc
term_flips (terms.Constant a s) (terms.Constant b t) = let first = bytes-flip a.now b.now in let second = number-flip s t in cc
term_flips (terms.Combination f a) (terms.Combination g b) = let first = number-flip f g in let second = number-flip a b in cc
term_flips (terms.Abstraction v a) (terms.Abstraction w b) = let first = number-flip v w in let second = number-flip a b in cc
term_flips _ _ = refl

pub type_at : (keys : List TypeLine) (key : TypeLine) (place : ℕ) (terms : List LogLine) (theorems : List ℕ) (lines : List LogLine)
    → IsDistinct type_line.ghosts.eq keys → Some key ≡ slice_get keys place
    → IsTypeLineWritten (record { types = map line_of_type keys; terms = terms; theorems = theorems; lines = lines })
    (record { types = map line_of_type keys; terms = terms; theorems = theorems; lines = lines }) (line_of_type key) place
type_at keys key place terms theorems lines distinct there =
    let same : type_line.ghosts.eq key key ≡ true = type_lines_agree key key ∙ type_is_named key in
    let any : list_any (type_line.ghosts.eq key) keys ≡ true = any-there (type_line.ghosts.eq key) keys place key (sym there) same in
    let first : position_or_len (type_line.ghosts.eq key) keys ≡ place = place-there type_line.ghosts.eq type_flips keys place key distinct (sym there) same in
    was_type (line_of_type key) (type_is_named key) terms theorems lines place (map line_of_type keys) (sym (any-line type_line.ghosts.eq line_of_type type_lines_agree key keys) ∙ any)
    (sym first ∙ place-line type_line.ghosts.eq line_of_type type_lines_agree key keys)

pub term_at : (keys : List TermLine) (key : TermLine) (place : ℕ) (types : List LogLine) (theorems : List ℕ) (lines : List LogLine)
    → IsDistinct term_line.ghosts.eq keys → Some key ≡ slice_get keys place
    → IsTermLineWritten (record { types = types; terms = map line_of_term keys; theorems = theorems; lines = lines })
    (record { types = types; terms = map line_of_term keys; theorems = theorems; lines = lines }) (line_of_term key) place
term_at keys key place types theorems lines distinct there =
    let same : term_line.ghosts.eq key key ≡ true = term_lines_agree key key ∙ term_is_named key in
    let any : list_any (term_line.ghosts.eq key) keys ≡ true = any-there (term_line.ghosts.eq key) keys place key (sym there) same in
    let first : position_or_len (term_line.ghosts.eq key) keys ≡ place = place-there term_line.ghosts.eq term_flips keys place key distinct (sym there) same in
    was_term (line_of_term key) (term_is_named key) types theorems lines place (map line_of_term keys) (sym (any-line term_line.ghosts.eq line_of_term term_lines_agree key keys) ∙ any)
    (sym first ∙ place-line term_line.ghosts.eq line_of_term term_lines_agree key keys)

pub line_put : (old new : List LogLine) (line is : LogLine) → new ≡ old ++ line ∷ [] → line ≡ is → new ≡ old ++ is ∷ []
line_put old new line is longer same = longer ∙ ap (λ l. old ++ l ∷ []) same

-- what calls answer over written parts

pub function_answers : (answer : Result ℕ Fault) (ty a b : HolType) (old one two new : Written) (d c : ℕ) → function_type a b ≡ ty → IsTypeWritten old one a d → IsTypeWritten one two b c
    → IfOk answer (IsTypeLineWritten two new (function_type_line d c)) → IfOk answer (IsTypeWritten old new ty)
function_answers (Ok n) ty a b old one two new d c is first second put = subst (λ t. IsTypeWritten old new t n) is (function_written a b old one two new d c n first second put)
function_answers (Err fault) ty a b old one two new d c is first second put = tt

pub variable_answers : (answer : Result ℕ Fault) (name : List ℕ) (ty : HolType) (old one new : Written) (t : ℕ) → IsTypeWritten old one ty t
    → IfOk answer (IsTermLineWritten one new (variable_line name t)) → IfOk answer (IsTermWritten old new (variable name ty))
variable_answers (Ok n) name ty old one new t first put = variable_written name ty old one new t n first put
variable_answers (Err fault) name ty old one new t first put = tt

pub constant_answers : (answer : Result ℕ Fault) (term : NamedTerm) (name : List ℕ) (ty : HolType) (old one new : Written) (t : ℕ) → constant name ty ≡ term → IsTypeWritten old one ty t
    → IfOk answer (IsTermLineWritten one new (constant_line name t)) → IfOk answer (IsTermWritten old new term)
constant_answers (Ok n) term name ty old one new t is first put = subst (λ s. IsTermWritten old new s n) is (constant_written name ty old one new t n first put)
constant_answers (Err fault) term name ty old one new t is first put = tt

pub combination_answers : (answer : Result ℕ Fault) (term f a : NamedTerm) (old one two new : Written) (i j : ℕ) → combination f a ≡ term → IsTermWritten old one f i → IsTermWritten one two a j
    → IfOk answer (IsTermLineWritten two new (combination_line i j)) → IfOk answer (IsTermWritten old new term)
combination_answers (Ok n) term f a old one two new i j is first second put = subst (λ s. IsTermWritten old new s n) is (combination_written f a old one two new i j n first second put)
combination_answers (Err fault) term f a old one two new i j is first second put = tt

pub abstraction_answers : (answer : Result ℕ Fault) (term : NamedTerm) (name : List ℕ) (ty : HolType) (body : NamedTerm) (old one two new : Written) (i j : ℕ) → abstraction name ty body ≡ term
    → IsTermWritten old one (variable name ty) i → IsTermWritten one two body j → IfOk answer (IsTermLineWritten two new (abstraction_line i j)) → IfOk answer (IsTermWritten old new term)
abstraction_answers (Ok n) term name ty body old one two new i j is first second put =
    subst (λ s. IsTermWritten old new s n) is (abstraction_written name ty body old one two new i j n first second put)
abstraction_answers (Err fault) term name ty body old one two new i j is first second put = tt

-- what is written is written under its number already

pub function_at : (ty a b : HolType) (w : Written) (d c n : ℕ) → function_type a b ≡ ty → IsTypeLineWritten w w (function_type_line d c) n
    → IsTypeWritten w w a d → IsTypeWritten w w b c → IsTypeWritten w w ty n
function_at ty a b w d c n is put first second = subst (λ t. IsTypeWritten w w t n) is (function_written a b w w w w d c n first second put)

-- a function type of these parts
pub function-is : (ty a b s t : HolType) → function_type a b ≡ ty → a ≡ s → b ≡ t → ty ≡ function_type s t
function-is ty a b s t is one two = sym is ∙ (λ i. function_type (one i) (two i))

-- a type that passes the test for equality
pub type-is : (ty other : HolType) (w : Written) (n : ℕ) → type_eq ty other ≡ true → IsTypeWritten w w other n → IsTypeWritten w w ty n
type-is ty other w n same written = subst (λ (t : HolType). IsTypeWritten w w t n) (sym (same_from_type_eq ty other same)) written

pub variable_at : (name other : List ℕ) (ty : HolType) (w : Written) (t n : ℕ) → bytes_eq other name ≡ true
    → IsTermLineWritten w w (variable_line other t) n → IsTypeWritten w w ty t → IsTermWritten w w (variable name ty) n
variable_at name other ty w t n same put first = subst (λ (m : List ℕ). IsTermWritten w w (variable m ty) n) ((bytes_eq-Decides other name).0 same) (variable_written other ty w w w t n first put)

pub constant_at : (name other : List ℕ) (ty : HolType) (w : Written) (t n : ℕ) → bytes_eq other name ≡ true
    → IsTermLineWritten w w (constant_line other t) n → IsTypeWritten w w ty t → IsTermWritten w w (constant name ty) n
constant_at name other ty w t n same put first = subst (λ (m : List ℕ). IsTermWritten w w (constant m ty) n) ((bytes_eq-Decides other name).0 same) (constant_written other ty w w w t n first put)

pub combination_at : (term f a : NamedTerm) (w : Written) (i j n : ℕ) → combination f a ≡ term → IsTermLineWritten w w (combination_line i j) n
    → IsTermWritten w w f i → IsTermWritten w w a j → IsTermWritten w w term n
combination_at term f a w i j n is put first second = subst (λ s. IsTermWritten w w s n) is (combination_written f a w w w w i j n first second put)

pub abstraction_at : (term : NamedTerm) (name : List ℕ) (ty : HolType) (body : NamedTerm) (w : Written) (i j n : ℕ) → abstraction name ty body ≡ term → IsTermLineWritten w w (abstraction_line i j) n
    → IsTermWritten w w (variable name ty) i → IsTermWritten w w body j → IsTermWritten w w term n
abstraction_at term name ty body w i j n is put first second = subst (λ s. IsTermWritten w w s n) is (abstraction_written name ty body w w w w i j n first second put)
