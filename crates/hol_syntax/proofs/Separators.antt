-- The tokens of a term hold no separator, so a sequent is cut in one way.
use Rattle.std.proofs.Common.{◌≡◌, ℕ, suc, ◌+◌, ◌-◌, ◌<◌, List, [], ◌∷◌, ◌++◌, length, take, drop, Bool, true, false, Some, refl, sym, ap, ◌∙◌, subst, arith}
use Rattle.std.specs.List.{slice_split, onto_first}
use Rattle.std.proofs.lemmas.List.{length-drop, take-append-drop}
use Rattle.std.proofs.lemmas.List.Splits.{slice_split-cons_yes, slice_split-cons_no}
use Rattle.hol_model.specs.declared.symbol.Symbol.TheVariants.{Equal, And, Or, Implies, Tilde, Exclamation, Question, At, Comma, Turnstile, Backquote}
use Rattle.hol_model.specs.Texts.Token.{Token, Name, Number, Mark}
use Rattle.hol_model.specs.Texts.TypeGrammar.{TypeTree, Named, Enclosed, Function, type_tokens}
use Rattle.hol_model.specs.Texts.TermGrammar.{TermTree, IffInfix, ImpliesInfix, OrInfix, AndInfix, EqualInfix, Lambda, ForAll, Exists, Choice, Bare, Variable, Constant, IsConstantName, Lexeme}
use Rattle.hol_model.specs.Texts.TermGrammar.{AtomPiece, OpenPiece, ClosePiece, NotPiece, InfixPiece, BinderPiece, all_tokens, IsReadTerm}
use Rattle.hol_model.specs.Texts.SequentGrammar.{with_commas, AreReadTerms}
use Rattle.hol_syntax.specs.declared.sequents.Separator.{Separator}
use Rattle.hol_syntax.specs.declared.sequents.Separator.TheVariants.{Comma as CommaHere, Turnstile as TurnstileHere}
use Rattle.hol_syntax.specs.SequentStates.{separates, Without, IsFound}
use Rattle.hol_syntax_grammar.proofs.TermReading.{ArePieces}
use Rattle.hol_syntax_grammar.proofs.Pieces.{to_read}

-- a comma, a turnstile or a backquote
abbrev pub is_separator : Token → Bool
is_separator (Mark Comma) = true
is_separator (Mark Turnstile) = true
is_separator (Mark Backquote) = true
is_separator _ = false

no_separator : (separator : Separator) (token : Token) → is_separator token ≡ false → separates separator token ≡ false
no_separator CommaHere (Name name) e = refl
no_separator CommaHere (Number digits) e = refl
no_separator CommaHere (Mark Comma) e = absurd (let bad : true ≡ false = e in cc)
no_separator CommaHere (Mark _) e = refl
no_separator TurnstileHere (Name name) e = refl
no_separator TurnstileHere (Number digits) e = refl
no_separator TurnstileHere (Mark Turnstile) e = absurd (let bad : true ≡ false = e in cc)
no_separator TurnstileHere (Mark _) e = refl

narrow : (separator : Separator) (tokens : List Token) → Without is_separator tokens → Without (separates separator) tokens
narrow separator [] h = tt
narrow separator (token ∷ tokens) h = (no_separator separator token h.0, narrow separator tokens h.1)

pub type_without : (t : TypeTree) (rest : List Token) → Without is_separator rest → Without is_separator (type_tokens t rest)
type_without (Named name) rest h = (refl, h)
type_without (Enclosed t) rest h = (refl, type_without t _ (refl, h))
type_without (Function a b) rest h = type_without a _ (refl, type_without b rest h)

name_without : (name : Token) → IsConstantName name → is_separator name ≡ false
name_without (Name bytes) h = refl
name_without (Number digits) h = refl
name_without (Mark Equal) h = refl
name_without (Mark At) h = refl
name_without (Mark And) h = refl
name_without (Mark Or) h = refl
name_without (Mark Implies) h = refl
name_without (Mark Tilde) h = refl
name_without (Mark Exclamation) h = refl
name_without (Mark Question) h = refl
name_without (Mark _) h = absurd h

pieces_without : (pieces : List Lexeme) → ArePieces pieces → Without is_separator (all_tokens pieces)
pieces_without [] v = tt
pieces_without (AtomPiece (Bare name) ∷ rest) v = (refl, pieces_without rest v.1)
pieces_without (AtomPiece (Variable name t) ∷ rest) v = (refl, (refl, (refl, type_without t _ (refl, pieces_without rest v.1))))
pieces_without (AtomPiece (Constant name t) ∷ rest) v = (refl, (name_without name v.0.0, (refl, type_without t _ (refl, pieces_without rest v.1))))
pieces_without (OpenPiece ∷ rest) v = (refl, pieces_without rest v.1)
pieces_without (ClosePiece ∷ rest) v = (refl, pieces_without rest v.1)
pieces_without (NotPiece ∷ rest) v = (refl, pieces_without rest v.1)
pieces_without (InfixPiece IffInfix ∷ rest) v = (refl, pieces_without rest v.1)
pieces_without (InfixPiece ImpliesInfix ∷ rest) v = (refl, pieces_without rest v.1)
pieces_without (InfixPiece OrInfix ∷ rest) v = (refl, pieces_without rest v.1)
pieces_without (InfixPiece AndInfix ∷ rest) v = (refl, pieces_without rest v.1)
pieces_without (InfixPiece EqualInfix ∷ rest) v = (refl, pieces_without rest v.1)
pieces_without (BinderPiece Lambda name t ∷ rest) v = (refl, (refl, (refl, type_without t _ (refl, pieces_without rest v.1))))
pieces_without (BinderPiece ForAll name t ∷ rest) v = (refl, (refl, (refl, type_without t _ (refl, pieces_without rest v.1))))
pieces_without (BinderPiece Exists name t ∷ rest) v = (refl, (refl, (refl, type_without t _ (refl, pieces_without rest v.1))))
pieces_without (BinderPiece Choice name t ∷ rest) v = (refl, (refl, (refl, type_without t _ (refl, pieces_without rest v.1))))

pub none_without : (tokens : List Token) (tree : TermTree) → IsReadTerm tokens tree → Without is_separator tokens
none_without tokens tree h =
    let r = to_read tokens tree h in
    subst (λ l. Without is_separator l) (sym r.spelled) (pieces_without r.pieces r.valid)

pub term_without : (separator : Separator) (tokens : List Token) (tree : TermTree) → IsReadTerm tokens tree → Without (separates separator) tokens
term_without separator tokens tree h = narrow separator tokens (none_without tokens tree h)

split_at : (test : Token → Bool) (a : List Token) (y : Token) (ys : List Token) → Without test a → test y ≡ true → slice_split test (a ++ y ∷ ys) ≡ a ∷ slice_split test ys
split_at test [] y ys h k = slice_split-cons_yes test y ys k
split_at test (x ∷ a) y ys h k = slice_split-cons_no test x (a ++ y ∷ ys) h.0 ∙ ap (onto_first x) (split_at test a y ys h.1 k)

pub split_none : (test : Token → Bool) (a : List Token) → Without test a → slice_split test a ≡ a ∷ []
split_none test [] h = refl
split_none test (x ∷ a) h = slice_split-cons_no test x a h.0 ∙ ap (onto_first x) (split_none test a h.1)

-- the separator that is found cuts the tokens
pub found_cuts : (n : ℕ) (separator : Separator) (tokens : List Token) (f : IsFound (Some n) separator tokens) → tokens ≡ take n tokens ++ f.0 ∷ drop (n + 1) tokens
found_cuts n separator tokens f = sym (take-append-drop n tokens) ∙ ap (λ l. take n tokens ++ l) f.2

pub found_within : (n : ℕ) (separator : Separator) (tokens : List Token) → IsFound (Some n) separator tokens → n < length tokens
found_within n separator tokens f =
    let size : length tokens - n ≡ suc (length (drop (n + 1) tokens)) = sym (length-drop n tokens) ∙ ap length f.2 in omega (arith, size)

pub split_found : (n : ℕ) (separator : Separator) (tokens : List Token) → IsFound (Some n) separator tokens
    → slice_split (separates separator) tokens ≡ take n tokens ∷ slice_split (separates separator) (drop (n + 1) tokens)
split_found n separator tokens f =
    ap (slice_split (separates separator)) (found_cuts n separator tokens f) ∙ split_at (separates separator) (take n tokens) f.0 (drop (n + 1) tokens) f.3 f.1

is_comma : (token : Token) → separates CommaHere token ≡ true → token ≡ Mark Comma
is_comma (Mark Comma) e = refl
is_comma (Mark _) e = absurd (let bad : false ≡ true = e in cc)
is_comma (Name name) e = absurd (let bad : false ≡ true = e in cc)
is_comma (Number digits) e = absurd (let bad : false ≡ true = e in cc)

pub is_turnstile : (token : Token) → separates TurnstileHere token ≡ true → token ≡ Mark Turnstile
is_turnstile (Mark Turnstile) e = refl
is_turnstile (Mark _) e = absurd (let bad : false ≡ true = e in cc)
is_turnstile (Name name) e = absurd (let bad : false ≡ true = e in cc)
is_turnstile (Number digits) e = absurd (let bad : false ≡ true = e in cc)

-- the parts are those between the commas
pub split_parts : (part : List Token) (parts : List (List Token)) (trees : List TermTree) → AreReadTerms (part ∷ parts) trees
    → slice_split (separates CommaHere) (with_commas (part ∷ parts)) ≡ part ∷ parts
split_parts part parts [] h = absurd h
split_parts part [] (tree ∷ trees) h = split_none (separates CommaHere) part (term_without CommaHere part tree h.0)
split_parts part (next ∷ parts) (tree ∷ trees) h =
    split_at (separates CommaHere) part (Mark Comma) (with_commas (next ∷ parts)) (term_without CommaHere part tree h.0) refl
    ∙ ap (λ l. part ∷ l) (split_parts next parts trees h.1)

-- what is cut at the commas is joined by them
join_more : (token : Token) (tokens : List Token) (split : List (List Token)) → with_commas split ≡ tokens → with_commas (onto_first token split) ≡ token ∷ tokens
join_more token tokens [] e = ap (λ l. token ∷ l) e
join_more token tokens (part ∷ []) e = ap (λ l. token ∷ l) e
join_more token tokens (part ∷ next ∷ parts) e = ap (λ l. token ∷ l) e

some_part : (test : Token → Bool) (tokens : List Token) → (part : List Token) × (parts : List (List Token)) × (slice_split test tokens ≡ part ∷ parts)
some_part test [] = ([], [], refl)
some_part test (token ∷ tokens) = go (test token) refl (some_part test tokens)
  where
    go : (b : Bool) → test token ≡ b → (part : List Token) × (parts : List (List Token)) × (slice_split test tokens ≡ part ∷ parts)
        → (part : List Token) × (parts : List (List Token)) × (slice_split test (token ∷ tokens) ≡ part ∷ parts)
    go true e s = ([], slice_split test tokens, slice_split-cons_yes test token tokens e)
    go false e s = (token ∷ s.0, s.1, slice_split-cons_no test token tokens e ∙ ap (onto_first token) s.2)

pub rejoined : (tokens : List Token) → with_commas (slice_split (separates CommaHere) tokens) ≡ tokens
rejoined [] = refl
rejoined (token ∷ tokens) = go (rejoined tokens) (separates CommaHere token) refl (some_part (separates CommaHere) tokens)
  where
    go : with_commas (slice_split (separates CommaHere) tokens) ≡ tokens → (b : Bool) → separates CommaHere token ≡ b
        → (part : List Token) × (parts : List (List Token)) × (slice_split (separates CommaHere) tokens ≡ part ∷ parts)
        → with_commas (slice_split (separates CommaHere) (token ∷ tokens)) ≡ token ∷ tokens
    go joined true e s =
        ap with_commas (slice_split-cons_yes (separates CommaHere) token tokens e ∙ ap (λ l. [] ∷ l) s.2)
        ∙ ap (λ l. Mark Comma ∷ l) (ap with_commas (sym s.2) ∙ joined) ∙ ap (λ t. t ∷ tokens) (sym (is_comma token e))
    go joined false e s = ap with_commas (slice_split-cons_no (separates CommaHere) token tokens e) ∙ join_more token tokens (slice_split (separates CommaHere) tokens) joined

without_append : (test : Token → Bool) (a b : List Token) → Without test a → Without test b → Without test (a ++ b)
without_append test [] b h k = k
without_append test (x ∷ a) b h k = (h.0, without_append test a b h.1 k)

-- the hypotheses hold no turnstile
pub list_without : (parts : List (List Token)) (trees : List TermTree) → AreReadTerms parts trees → Without (separates TurnstileHere) (with_commas parts)
list_without [] trees h = tt
list_without (part ∷ parts) [] h = absurd h
list_without (part ∷ []) (tree ∷ trees) h = term_without TurnstileHere part tree h.0
list_without (part ∷ next ∷ parts) (tree ∷ trees) h =
    without_append (separates TurnstileHere) part (Mark Comma ∷ with_commas (next ∷ parts)) (term_without TurnstileHere part tree h.0)
    (refl, list_without (next ∷ parts) trees h.1)

-- a list is cut in one way at the first token that passes
pub cut_same : (test : Token → Bool) (a b x w : List Token) (y z : Token) → Without test a → Without test b → test y ≡ true → test z ≡ true
    → a ++ y ∷ x ≡ b ++ z ∷ w → (a ≡ b) × (x ≡ w)
cut_same test [] [] x w y z h k p q e = (refl, cc)
cut_same test [] (t ∷ b) x w y z h k p q e =
    let same : y ≡ t = cc in absurd (let bad : true ≡ false = sym p ∙ ap test same ∙ k.0 in cc)
cut_same test (t ∷ a) [] x w y z h k p q e =
    let same : t ≡ z = cc in absurd (let bad : true ≡ false = sym q ∙ ap test (sym same) ∙ h.0 in cc)
cut_same test (t ∷ a) (u ∷ b) x w y z h k p q e =
    let head : t ≡ u = cc in
    let tail : a ++ y ∷ x ≡ b ++ z ∷ w = cc in
    let rest = cut_same test a b x w y z h.1 k.1 p q tail in
    (ap (λ v. v ∷ a) head ∙ ap (λ l. u ∷ l) rest.0, rest.1)

pub uncut : (test : Token → Bool) (b w : List Token) (z : Token) → test z ≡ true → Without test (b ++ z ∷ w) → ⊥
uncut test [] w z q h = let bad : true ≡ false = sym q ∙ h.0 in cc
uncut test (t ∷ b) w z q h = uncut test b w z q h.1
