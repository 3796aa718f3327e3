-- The token at the front is the one that the definition of tokens says.
use Rattle.std.proofs.Common.{◌≡◌, ◌≢◌, ℕ, ◌+◌, ◌-◌, ◌*◌, ◌≤◌, Bool, true, false, ◌==◌, List, [], ◌∷◌, ◌++◌, Option, None, Some, refl, sym, ap, ◌∙◌, subst, arith, append_assoc, unwrap_or, ◌<◌}
use Rattle.std.proofs.Common.{length, drop, drop-cons, suc, get_or}
use Rattle.std.proofs.lemmas.List.{append-nil, length-append, nil_from_length}
use Rattle.std.proofs.lemmas.Bool.{eqb-true, eq-eqb, leb-true, le-leb, lt-leb}
use Rattle.std.proofs.lemmas.Bool.Decides.{nat_tests}
use Rattle.hol_model.specs.declared.symbol.Symbol.{Symbol}
use Rattle.hol_model.specs.declared.symbol.Symbol.TheVariants.{Iff, Implies, Or, Equal, Backslash}
use Rattle.hol_model.specs.Texts.Token.{Token, Name, Number, Mark, symbol_text, token_text}
use Rattle.hol_model.specs.Texts.Lexing.{is_letter, is_digit, is_name_byte, Every, StartsWithout, IsToken, IsLongest, Begins, Lexes, is_blank, digits_value, numeral_value}
use Rattle.hol_syntax_grammar.specs.Lexer.{symbols, when, strip, or_else, symbol_at, if_else, front, back, numeral_at, is_within_limit, number_at, token_at}

front_back : (p : ℕ → Bool) (bytes : List ℕ) → bytes ≡ front p bytes ++ back p bytes
front_back p [] = refl
front_back p (b ∷ bytes) = go (front_back p bytes) (p b)
  where
    go : bytes ≡ front p bytes ++ back p bytes → (t : Bool) → b ∷ bytes ≡ if_else t (b ∷ front p bytes) [] ++ if_else t (back p bytes) (b ∷ bytes)
    go more true = ap (λ r. b ∷ r) more
    go more false = refl

every_front : (p : ℕ → Bool) (bytes : List ℕ) → Every p (front p bytes)
every_front p [] = tt
every_front p (b ∷ bytes) = go (every_front p bytes) (p b) refl
  where
    go : Every p (front p bytes) → (t : Bool) → p b ≡ t → Every p (if_else t (b ∷ front p bytes) [])
    go more true e = (e, more)
    go more false e = tt

back_starts : (p : ℕ → Bool) (bytes : List ℕ) → StartsWithout p (back p bytes)
back_starts p [] = tt
back_starts p (b ∷ bytes) = go (back_starts p bytes) (p b) refl
  where
    go : StartsWithout p (back p bytes) → (t : Bool) → p b ≡ t → StartsWithout p (if_else t (back p bytes) (b ∷ bytes))
    go more true e = more
    go more false e = e

front_is : (p : ℕ → Bool) (bytes rest : List ℕ) → Every p bytes → StartsWithout p rest → front p (bytes ++ rest) ≡ bytes
front_is p [] [] e s = refl
front_is p [] (r ∷ rest) e s = ap (λ t. if_else t (r ∷ front p rest) []) s
front_is p (b ∷ bytes) rest e s =
    ap (λ t. if_else t (b ∷ front p (bytes ++ rest)) []) e.0 ∙ ap (λ r. b ∷ r) (front_is p bytes rest e.1 s)

back_is : (p : ℕ → Bool) (bytes rest : List ℕ) → Every p bytes → StartsWithout p rest → back p (bytes ++ rest) ≡ rest
back_is p [] [] e s = refl
back_is p [] (r ∷ rest) e s = ap (λ t. if_else t (back p rest) (r ∷ rest)) s
back_is p (b ∷ bytes) rest e s = ap (λ t. if_else t (back p (bytes ++ rest)) (b ∷ (bytes ++ rest))) e.0 ∙ back_is p bytes rest e.1 s

-- what stripping says
abbrev Strips : List ℕ → List ℕ → Option (List ℕ) → Type 0
Strips text bytes None = (rest : List ℕ) → bytes ≢ text ++ rest
Strips text bytes (Some rest) = bytes ≡ text ++ rest

pub strips : (text bytes : List ℕ) → Strips text bytes (strip text bytes)
strips [] bytes = refl
strips (a ∷ text) [] = λ rest e. cc
strips (a ∷ text) (b ∷ bytes) = go (a == b) refl (strip text bytes) (strips text bytes)
  where
    go : (t : Bool) → (a == b) ≡ t → (o : Option (List ℕ)) → Strips text bytes o → Strips (a ∷ text) (b ∷ bytes) (when t o)
    go true e None h = λ rest r. h rest (let tails : bytes ≡ text ++ rest = cc in tails)
    go true e (Some rest) h = let same : a ≡ b = eqb-true a b e in cc
    go false e o h = λ rest r.
        let same : a ≡ b = cc in
        let yes : (a == b) ≡ true = eq-eqb a b same in
        let no : true ≡ false = sym yes ∙ e in cc

strip_none : (text bytes : List ℕ) → ((rest : List ℕ) → bytes ≢ text ++ rest) → strip text bytes ≡ None
strip_none text bytes h = go (strip text bytes) (strips text bytes)
  where
    go : (o : Option (List ℕ)) → Strips text bytes o → o ≡ None
    go None s = refl
    go (Some rest) s = absurd (h rest s)

-- what a symbol at the front says
abbrev Finds : List ℕ → Option (Token × List ℕ) → Type 0
Finds bytes None = Unit {0}
Finds bytes (Some (Name n, rest)) = ⊥
Finds bytes (Some (Number n, rest)) = ⊥
Finds bytes (Some (Mark symbol, rest)) = bytes ≡ symbol_text symbol ++ rest

finds : (table : List Symbol) (bytes : List ℕ) → Finds bytes (symbol_at table bytes)
finds [] bytes = tt
finds (symbol ∷ others) bytes = go (finds others bytes) (strip (symbol_text symbol) bytes) (strips (symbol_text symbol) bytes)
  where
    go : Finds bytes (symbol_at others bytes) → (o : Option (List ℕ)) → Strips (symbol_text symbol) bytes o → Finds bytes (or_else symbol o (symbol_at others bytes))
    go other (Some rest) s = s
    go other None s = other

is_mark : Symbol → Option (Token × List ℕ) → Bool
is_mark Equal (Some (Mark Equal, rest)) = true
is_mark Backslash (Some (Mark Backslash, rest)) = true
is_mark _ _ = false

-- a symbol that others begin with is found only where none of these stands
longest : (symbol : Symbol) (bytes rest : List ℕ) → symbol_at symbols bytes ≡ Some (Mark symbol, rest) → bytes ≡ symbol_text symbol ++ rest → IsLongest (Mark symbol) rest
unfolding is_mark
longest Equal bytes rest found spelled = λ more e.
    let whole : bytes ≡ 61 ∷ 61 ∷ 62 ∷ more = spelled ∙ ap (λ r. 61 ∷ r) e in
    let yes : is_mark Equal (symbol_at symbols bytes) ≡ true = ap (is_mark Equal) found in
    let no : is_mark Equal (symbol_at symbols bytes) ≡ false = ap (λ b. is_mark Equal (symbol_at symbols b)) whole in
    let bad : true ≡ false = sym yes ∙ no in cc
longest Backslash bytes rest found spelled = λ more e.
    let whole : bytes ≡ 92 ∷ 47 ∷ more = spelled ∙ ap (λ r. 92 ∷ r) e in
    let yes : is_mark Backslash (symbol_at symbols bytes) ≡ true = ap (is_mark Backslash) found in
    let no : is_mark Backslash (symbol_at symbols bytes) ≡ false = ap (λ b. is_mark Backslash (symbol_at symbols b)) whole in
    let bad : true ≡ false = sym yes ∙ no in cc
longest _ bytes rest found spelled = tt

-- what the token at the front says
abbrev pub BeginsOr : List ℕ → Option (Token × List ℕ) → Type 0
BeginsOr bytes None = Unit {0}
BeginsOr bytes (Some x) = Begins bytes x.0 x.1

mark_begins : (bytes : List ℕ) → BeginsOr bytes (symbol_at symbols bytes)
mark_begins bytes = go (symbol_at symbols bytes) refl (finds symbols bytes)
  where
    go : (o : Option (Token × List ℕ)) → symbol_at symbols bytes ≡ o → Finds bytes o → BeginsOr bytes o
    go None e f = tt
    go (Some (Name n, rest)) e f = absurd f
    go (Some (Number n, rest)) e f = absurd f
    go (Some (Mark symbol, rest)) e f = record { valid = tt; spelled = f; longest = longest symbol bytes rest e f }

numeral_begins : (b : ℕ) (bytes digits rest : List ℕ) → is_digit b ≡ true → Every is_digit digits → StartsWithout is_digit rest → bytes ≡ b ∷ (digits ++ rest)
    → numeral_value (b ∷ digits) ≤ 4294967295 → BeginsOr bytes (numeral_at b digits rest)
numeral_begins b bytes [] rest d e s w l = record { valid = (d, tt, λ z. refl, l); spelled = w; longest = s }
numeral_begins b bytes (c ∷ digits) rest d e s w l = go (b == 48) refl
  where
    go : (t : Bool) → (b == 48) ≡ t → BeginsOr bytes (if_else t None (Some (Number (b ∷ c ∷ digits), rest)))
    go true z = tt
    go false z = record {
      valid = (d, e, λ same. absurd (let yes : (b == 48) ≡ true = eq-eqb b 48 same in let bad : true ≡ false = sym yes ∙ z in cc), l);
      spelled = w;
      longest = s;
    }

number_begins : (b : ℕ) (bytes digits rest : List ℕ) → is_digit b ≡ true → Every is_digit digits → StartsWithout is_digit rest → bytes ≡ b ∷ (digits ++ rest)
    → BeginsOr bytes (number_at b digits rest)
number_begins b bytes digits rest d e s w = go (is_within_limit (b ∷ digits)) refl
  where
    go : (t : Bool) → is_within_limit (b ∷ digits) ≡ t → BeginsOr bytes (when t (numeral_at b digits rest))
    go true k = numeral_begins b bytes digits rest d e s w (leb-true (numeral_value (b ∷ digits)) 4294967295 k)
    go false k = tt

-- The token at the front begins there.
pub token_begins : (bytes : List ℕ) → BeginsOr bytes (token_at bytes)
token_begins [] = tt
token_begins (b ∷ bytes) = go (is_letter b) refl (is_digit b) refl
  where
    go : (l : Bool) → is_letter b ≡ l → (d : Bool) → is_digit b ≡ d
        → BeginsOr (b ∷ bytes) (if_else l (Some (Name (b ∷ front is_name_byte bytes), back is_name_byte bytes))
        (if_else d (number_at b (front is_digit bytes) (back is_digit bytes)) (symbol_at symbols (b ∷ bytes))))
    go true e d f = record {
      valid = (e, every_front is_name_byte bytes);
      spelled = ap (λ r. b ∷ r) (front_back is_name_byte bytes);
      longest = back_starts is_name_byte bytes;
    }
    go false e true f = number_begins b (b ∷ bytes) (front is_digit bytes) (back is_digit bytes) f (every_front is_digit bytes) (back_starts is_digit bytes)
        (ap (λ r. b ∷ r) (front_back is_digit bytes))
    go false e false f = mark_begins (b ∷ bytes)

mark_found : (symbol : Symbol) (rest : List ℕ) → IsLongest (Mark symbol) rest → token_at (symbol_text symbol ++ rest) ≡ Some (Mark symbol, rest)
mark_found Equal rest h =
    ap (λ o. or_else Implies o (Some (Mark Equal, rest))) (strip_none (61 ∷ 62 ∷ []) rest h)
mark_found Backslash rest h =
    ap (λ o. or_else Or o (Some (Mark Backslash, rest))) (strip_none (47 ∷ []) rest h)
mark_found _ rest h = refl

digit_no_letter : (b : ℕ) → is_digit b ≡ true → is_letter b ≡ false
digit_no_letter b h = grind (arith, nat_tests)

numeral_found : (b : ℕ) (digits rest : List ℕ) → (b ≡ 48 → digits ≡ []) → numeral_at b digits rest ≡ Some (Number (b ∷ digits), rest)
numeral_found b [] rest h = refl
numeral_found b (d ∷ digits) rest h = go (b == 48) refl
  where
    go : (t : Bool) → (b == 48) ≡ t → if_else {A = Option (Token × List ℕ)} t None (Some (Number (b ∷ d ∷ digits), rest)) ≡ Some (Number (b ∷ d ∷ digits), rest)
    go true z = absurd (let bad : d ∷ digits ≡ [] = h (eqb-true b 48 z) in cc)
    go false z = refl

number_found : (b : ℕ) (digits rest : List ℕ) → (b ≡ 48 → digits ≡ []) → is_within_limit (b ∷ digits) ≡ true → number_at b digits rest ≡ Some (Number (b ∷ digits), rest)
number_found b digits rest h l = ap (λ t. when t (numeral_at b digits rest)) l ∙ numeral_found b digits rest h

-- What begins there is the token at the front.
pub token_found : (bytes : List ℕ) (token : Token) (rest : List ℕ) → Begins bytes token rest → token_at bytes ≡ Some (token, rest)
token_found bytes (Name []) rest h = absurd h.valid
token_found bytes (Name (b ∷ name)) rest h =
    ap token_at h.spelled
    ∙ ap (λ t. if_else t (Some (Name (b ∷ front is_name_byte (name ++ rest)), back is_name_byte (name ++ rest)))
    (if_else (is_digit b) (number_at b (front is_digit (name ++ rest)) (back is_digit (name ++ rest))) (symbol_at symbols (b ∷ (name ++ rest))))) h.valid.0
    ∙ ap (λ n. Some (Name (b ∷ n), back is_name_byte (name ++ rest))) (front_is is_name_byte name rest h.valid.1 h.longest)
    ∙ ap (λ r. Some (Name (b ∷ name), r)) (back_is is_name_byte name rest h.valid.1 h.longest)
token_found bytes (Number []) rest h = absurd h.valid
token_found bytes (Number (b ∷ digits)) rest h =
    ap token_at h.spelled
    ∙ ap (λ t. if_else t (Some (Name (b ∷ front is_name_byte (digits ++ rest)), back is_name_byte (digits ++ rest)))
    (if_else (is_digit b) (number_at b (front is_digit (digits ++ rest)) (back is_digit (digits ++ rest))) (symbol_at symbols (b ∷ (digits ++ rest))))) (digit_no_letter b h.valid.0)
    ∙ ap (λ t. if_else t (number_at b (front is_digit (digits ++ rest)) (back is_digit (digits ++ rest))) (symbol_at symbols (b ∷ (digits ++ rest)))) h.valid.0
    ∙ ap (λ n. number_at b n (back is_digit (digits ++ rest))) (front_is is_digit digits rest h.valid.1 h.longest)
    ∙ ap (λ r. number_at b digits r) (back_is is_digit digits rest h.valid.1 h.longest)
    ∙ number_found b digits rest h.valid.2 (le-leb (numeral_value (b ∷ digits)) 4294967295 h.valid.3)
token_found bytes (Mark symbol) rest h = ap token_at h.spelled ∙ mark_found symbol rest h.longest

letter_no_blank : (b : ℕ) → is_letter b ≡ true → is_blank b ≡ false
letter_no_blank b h = grind (arith, nat_tests)

digit_no_blank : (b : ℕ) → is_digit b ≡ true → is_blank b ≡ false
digit_no_blank b h = grind (arith, nat_tests)

-- no token begins with white space
starts : (token : Token) (rest : List ℕ) → IsToken token → StartsWithout is_blank (token_text token ++ rest)
starts (Name []) rest h = absurd h
starts (Name (b ∷ name)) rest h = letter_no_blank b h.0
starts (Number []) rest h = absurd h
starts (Number (b ∷ digits)) rest h = digit_no_blank b h.0
starts (Mark Iff) rest h = refl
starts (Mark _) rest h = refl

not_nil : (token : Token) (rest : List ℕ) → IsToken token → token_text token ++ rest ≢ []
not_nil (Name []) rest h = absurd h
not_nil (Name (b ∷ name)) rest h = λ e. cc
not_nil (Number []) rest h = absurd h
not_nil (Number (b ∷ digits)) rest h = λ e. cc
not_nil (Mark Iff) rest h = λ e. cc
not_nil (Mark _) rest h = λ e. cc

-- the front of a text that is cut into tokens
behind_blanks : (bytes gap behind rest : List ℕ) (token : Token) → Every is_blank gap → bytes ≡ gap ++ behind → Begins behind token rest
    → back is_blank bytes ≡ behind
behind_blanks bytes gap behind rest token g e h =
    let P : List ℕ → Type 0 = StartsWithout is_blank in
    ap (back is_blank) e ∙ back_is is_blank gap behind g (subst P (sym h.spelled) (starts token rest h.valid))

-- white space alone is no token
pub nothing_left : (bytes : List ℕ) (tokens : List Token) → back is_blank bytes ≡ [] → Lexes bytes tokens → tokens ≡ []
nothing_left bytes [] e h = refl
nothing_left bytes (token ∷ tokens) e h =
    let b = h.5 in
    absurd (not_nil token h.2 b.valid (sym b.spelled ∙ sym (behind_blanks bytes h.0 h.1 h.2 token h.3 h.4 b) ∙ e))

pub nothing_lexes : (bytes : List ℕ) → back is_blank bytes ≡ [] → Lexes bytes []
nothing_lexes bytes e =
    let P : List ℕ → Type 0 = Every is_blank in
    let whole : bytes ≡ front is_blank bytes = front_back is_blank bytes ∙ ap (λ r. front is_blank bytes ++ r) e ∙ append-nil (front is_blank bytes) in
    subst P (sym whole) (every_front is_blank bytes)

-- a token more at the front
pub one_more : (bytes rest : List ℕ) (token : Token) (tokens : List Token) → token_at (back is_blank bytes) ≡ Some (token, rest) → Lexes rest tokens → Lexes bytes (token ∷ tokens)
one_more bytes rest token tokens e h =
    let P : Option (Token × List ℕ) → Type 0 = BeginsOr (back is_blank bytes) in
    (front is_blank bytes, back is_blank bytes, rest, every_front is_blank bytes, front_back is_blank bytes, subst P e (token_begins (back is_blank bytes)), h)

-- the token at the front is the first one
pub first_is : (bytes : List ℕ) (tokens : List Token) → back is_blank bytes ≢ [] → Lexes bytes tokens
    → (token : Token) × (rest : List ℕ) × (others : List Token) × (tokens ≡ token ∷ others) × (token_at (back is_blank bytes) ≡ Some (token, rest)) × Lexes rest others
first_is bytes [] n h = absurd (n (blank_back bytes h))
  where
    blank_back : (bytes : List ℕ) → Every is_blank bytes → back is_blank bytes ≡ []
    blank_back bytes h = ap (back is_blank) (sym (append-nil bytes)) ∙ back_is is_blank bytes [] h tt
first_is bytes (token ∷ tokens) n h =
    (token, h.2, tokens, refl, ap token_at (behind_blanks bytes h.0 h.1 h.2 token h.3 h.4 h.5) ∙ token_found h.1 token h.2 h.5, h.6)

-- the whole text so far is the tokens so far
pub record IsLexedTo (text : List ℕ) (done : List Token) (rest : List ℕ) : Type 0 where
  pub sound : (tokens : List Token) → Lexes rest tokens → Lexes text (done ++ tokens)
  pub complete : (tokens : List Token) → Lexes text tokens → (others : List Token) × (tokens ≡ done ++ others) × Lexes rest others

pub lexed_none : (text : List ℕ) → IsLexedTo text [] text
lexed_none text = record { sound = λ tokens h. h; complete = λ tokens h. (tokens, refl, h) }

pub lexed_one : (text : List ℕ) (done : List Token) (bytes rest : List ℕ) (token : Token) → IsLexedTo text done bytes → token_at (back is_blank bytes) ≡ Some (token, rest)
    → back is_blank bytes ≢ [] → IsLexedTo text (done ++ token ∷ []) rest
lexed_one text done bytes rest token h e n = record {
  sound = λ tokens l. subst (λ x. Lexes text x) (sym (append_assoc done (token ∷ []) tokens)) (h.sound (token ∷ tokens) (one_more bytes rest token tokens e l));
  complete = λ tokens l. again (h.complete tokens l);
}
  where
    same : (other : Token) (more : List ℕ) → token_at (back is_blank bytes) ≡ Some (other, more) → (other ≡ token) × (more ≡ rest)
    same other more f =
        let both : Some (other, more) ≡ Some (token, rest) = sym f ∙ e in
        let pair : (other, more) ≡ (token, rest) = ap (λ o. unwrap_or o (other, more)) both in
        (ap (λ p. p.0) pair, ap (λ p. p.1) pair)

    again : {tokens : List Token} → (others : List Token) × (tokens ≡ done ++ others) × Lexes bytes others
        → (others : List Token) × (tokens ≡ (done ++ token ∷ []) ++ others) × Lexes rest others
    again {tokens} (others, eq, l) =
        let f = first_is bytes others n l in
        let s = same f.0 f.1 f.4 in
        (f.2, eq ∙ ap (λ o. done ++ o) (f.3 ∙ ap (λ t. t ∷ f.2) s.0) ∙ sym (append_assoc done (token ∷ []) f.2), subst (λ r. Lexes r f.2) s.1 f.5)

-- each turn leaves less of the text
pub less : (p : ℕ → Bool) (bytes rest : List ℕ) (token : Token) → token_at bytes ≡ Some (token, rest) → length (back p rest) < length bytes
less p bytes rest token e =
    let P : Option (Token × List ℕ) → Type 0 = BeginsOr bytes in
    let h : Begins bytes token rest = subst P e (token_begins bytes) in
    let whole : length bytes ≡ length (token_text token) + length rest = ap length h.spelled ∙ length-append (token_text token) rest in
    let parts : length rest ≡ length (front p rest) + length (back p rest) = ap length (front_back p rest) ∙ length-append (front p rest) (back p rest) in
    let some : 0 < length (token_text token) = long token h.valid in
    omega arith
  where
    long : (token : Token) → IsToken token → 0 < length (token_text token)
    long (Name []) h = absurd h
    long (Name (b ∷ name)) h = omega arith
    long (Number []) h = absurd h
    long (Number (b ∷ digits)) h = omega arith
    long (Mark Iff) h = omega arith
    long (Mark _) h = omega arith

-- no text goes on with nothing that a token begins with
pub no_tokens : (text : List ℕ) (done : List Token) (bytes : List ℕ) → IsLexedTo text done bytes → back is_blank bytes ≢ [] → token_at (back is_blank bytes) ≡ None
    → (tokens : List Token) → Lexes text tokens → ⊥
no_tokens text done bytes h n e tokens l =
    let c = h.complete tokens l in
    let f = first_is bytes c.0 n c.2 in
    let bad : ◌≡◌ {A = Option (Token × List ℕ)} (Some (f.0, f.1)) None = sym f.4 ∙ e in cc

pub all_tokens : (text : List ℕ) (done : List Token) (bytes : List ℕ) → IsLexedTo text done bytes → back is_blank bytes ≡ [] → Lexes text done
all_tokens text done bytes h e =
    subst (λ x. Lexes text x) (append-nil done) (h.sound [] (nothing_lexes bytes e))

pub only_tokens : (text : List ℕ) (done : List Token) (bytes : List ℕ) → IsLexedTo text done bytes → back is_blank bytes ≡ [] → (tokens : List Token) → Lexes text tokens → done ≡ tokens
only_tokens text done bytes h e tokens l =
    let c = h.complete tokens l in
    sym (append-nil done) ∙ ap (λ o. done ++ o) (sym (nothing_left bytes c.0 e c.2)) ∙ sym c.1

pub not_empty : (bytes : List ℕ) → false ≡ (length bytes == 0) → bytes ≢ []
not_empty [] e = λ _. cc
not_empty (b ∷ bytes) e = λ h. cc

pub is_nil : (bytes : List ℕ) → true ≡ (length bytes == 0) → bytes ≡ []
is_nil bytes e = nil_from_length bytes (eqb-true (length bytes) 0 (sym e))

-- what is written only grows
pub digits_grow : (n : ℕ) (bytes : List ℕ) → n ≤ digits_value n bytes
digits_grow n [] = omega arith
digits_grow n (b ∷ bytes) = let h = digits_grow (n * 10 + (b - 48)) bytes in omega (arith, h)

pub too_large : (digits : List ℕ) (i n : ℕ) → digits_value n (drop i digits) ≡ numeral_value digits → i < length digits → 4294967295 < n * 10 + (get_or digits i 0 - 48)
    → false ≡ is_within_limit digits
too_large digits i n e h l =
    let m = n * 10 + (get_or digits i 0 - 48) in
    let step : digits_value m (drop (suc i) digits) ≡ numeral_value digits = sym (ap (digits_value n) (drop-cons digits i 0 h)) ∙ e in
    let grow : m ≤ digits_value m (drop (suc i) digits) = digits_grow m (drop (suc i) digits) in
    sym (lt-leb (numeral_value digits) 4294967295 (omega (arith, step, grow, l)))
