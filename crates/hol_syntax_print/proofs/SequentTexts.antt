-- The text of a sequent reads back as the sequent.
use Rattle.std.proofs.Common.{◌≡◌, ℕ, List, [], ◌∷◌, ◌++◌, map, Ok, Err, refl, sym, ap, ◌∙◌, subst, append_assoc, if◌then◌else◌}
use Rattle.std.proofs.lemmas.List.{append-nil}
use Rattle.hol_model.specs.declared.fault.Fault.TheVariants.{NotBool}
use Rattle.hol_model.specs.declared.symbol.Symbol.TheVariants.{Comma, Turnstile, Colon, OpenParenthesis, CloseParenthesis, OpenBracket, CloseBracket, Dot}
use Rattle.hol_model.specs.declared.symbol.Symbol.TheVariants.{Arrow as ArrowSymbol}
use Rattle.hol_model.specs.Terms.NamedTerm.{NamedTerm}
use Rattle.hol_model.specs.Texts.Token.{Token, Name, Mark}
use Rattle.hol_model.specs.Texts.TypeGrammar.{TypeTree, Named, Enclosed, Function, type_tokens}
use Rattle.hol_model.specs.Texts.TermGrammar.{Bare, Variable, Constant, Lexeme, AtomPiece, OpenPiece, ClosePiece, NotPiece, InfixPiece, BinderPiece, piece_tokens, pieces, all_tokens, binder_symbol}
use Rattle.hol_model.specs.Texts.Lexing.{is_name_byte, StartsWithout, Lexes}
use Rattle.hol_model.specs.Texts.Reading.{Scope, ◌>>=◌}
use Rattle.hol_model.specs.Texts.Printing.{term_tree}
use Rattle.hol_model.specs.Texts.Texts.{term_bytes, further_bytes, listed_bytes, text_of_term, IsReadableTerm}
use Rattle.hol_model.specs.Texts.SequentGrammar.{with_commas, AreReadTerms, formula, formula_meaning, formulas_meaning}
use Rattle.hol_model.specs.Texts.SequentTexts.{IsReadableFormula, AreReadableFormulas, SequentsReadBack}
use Rattle.hol_syntax_print.proofs.TextsReadBack.{token_then, space_then, tokens_then, term_lexes, printed_tree, printed_meaning}

-- tokens behind those of a type and of a piece

type_tokens-append : (t : TypeTree) (rest more : List Token) → type_tokens t (rest ++ more) ≡ type_tokens t rest ++ more
type_tokens-append (Named name) rest more = refl
type_tokens-append (Enclosed t) rest more = ap (λ l. Mark OpenParenthesis ∷ l) (type_tokens-append t (Mark CloseParenthesis ∷ rest) more)
type_tokens-append (Function a b) rest more =
    ap (λ l. type_tokens a (Mark ArrowSymbol ∷ l)) (type_tokens-append b rest more) ∙ type_tokens-append a (Mark ArrowSymbol ∷ type_tokens b rest) more

piece_tokens-append : (piece : Lexeme) (rest more : List Token) → piece_tokens piece (rest ++ more) ≡ piece_tokens piece rest ++ more
piece_tokens-append (AtomPiece (Bare name)) rest more = refl
piece_tokens-append (AtomPiece (Variable name ty)) rest more = ap (λ l. Mark OpenParenthesis ∷ Name name ∷ Mark Colon ∷ l) (type_tokens-append ty (Mark CloseParenthesis ∷ rest) more)
piece_tokens-append (AtomPiece (Constant name ty)) rest more = ap (λ l. Mark OpenBracket ∷ name ∷ Mark Colon ∷ l) (type_tokens-append ty (Mark CloseBracket ∷ rest) more)
piece_tokens-append OpenPiece rest more = refl
piece_tokens-append ClosePiece rest more = refl
piece_tokens-append NotPiece rest more = refl
piece_tokens-append (InfixPiece i) rest more = refl
piece_tokens-append (BinderPiece q x ty) rest more = ap (λ l. Mark (binder_symbol q) ∷ Name x ∷ Mark Colon ∷ l) (type_tokens-append ty (Mark Dot ∷ rest) more)

tokens_then-append : (behind : List Lexeme) (tokens : List Token) → tokens_then behind tokens ≡ all_tokens behind ++ tokens
tokens_then-append [] tokens = refl
tokens_then-append (piece ∷ behind) tokens =
    ap (piece_tokens piece) (tokens_then-append behind tokens) ∙ piece_tokens-append piece (all_tokens behind) tokens

-- the tokens of a term
abbrev term_tokens : Scope → NamedTerm → List Token
term_tokens scope term = all_tokens (pieces (term_tree scope [] term) [])

whole_lexes : (scope : Scope) (term : NamedTerm) → IsReadableTerm scope term → (rest : List ℕ) (tokens : List Token) → StartsWithout is_name_byte rest → Lexes rest tokens
    → Lexes (term_bytes (term_tree scope [] term) rest) (term_tokens scope term ++ tokens)
whole_lexes scope term h rest tokens s l =
    subst (Lexes (term_bytes (term_tree scope [] term) rest)) (tokens_then-append (pieces (term_tree scope [] term) []) tokens)
    (term_lexes (term_tree scope [] term) (printed_tree scope term h).names rest [] tokens s l)

-- each list behind a comma
abbrev commas : List (List Token) → List Token
commas [] = []
commas (part ∷ parts) = Mark Comma ∷ (part ++ commas parts)

commas_between : (part : List Token) (parts : List (List Token)) → part ++ commas parts ≡ with_commas (part ∷ parts)
commas_between part [] = append-nil part
commas_between part (next ∷ parts) = ap (λ l. part ++ Mark Comma ∷ l) (commas_between next parts)

further_starts : (scope : Scope) (terms : List NamedTerm) (rest : List ℕ) → StartsWithout is_name_byte rest → StartsWithout is_name_byte (further_bytes scope terms rest)
further_starts scope [] rest s = s
further_starts scope (term ∷ terms) rest s = refl

further_lexes : (scope : Scope) (terms : List NamedTerm) → AreReadableFormulas scope terms → (rest : List ℕ) (tokens : List Token) → StartsWithout is_name_byte rest
    → Lexes rest tokens → Lexes (further_bytes scope terms rest) (commas (map (term_tokens scope) terms) ++ tokens)
further_lexes scope [] h rest tokens s l = l
further_lexes scope (term ∷ terms) h rest tokens s l =
    let more = further_lexes scope terms h.1 rest tokens s l in
    let whole = whole_lexes scope term h.0.readable (further_bytes scope terms rest) (commas (map (term_tokens scope) terms) ++ tokens) (further_starts scope terms rest s) more in
    token_then (Mark Comma) (32 ∷ term_bytes (term_tree scope [] term) (further_bytes scope terms rest)) ((term_tokens scope term ++ commas (map (term_tokens scope) terms)) ++ tokens) tt tt
    (space_then (term_bytes (term_tree scope [] term) (further_bytes scope terms rest)) ((term_tokens scope term ++ commas (map (term_tokens scope) terms)) ++ tokens)
    (subst (Lexes (term_bytes (term_tree scope [] term) (further_bytes scope terms rest)))
    (sym (append_assoc (term_tokens scope term) (commas (map (term_tokens scope) terms)) tokens)) whole))

listed_lexes : (scope : Scope) (terms : List NamedTerm) → AreReadableFormulas scope terms → (rest : List ℕ) (tokens : List Token) → Lexes rest tokens
    → Lexes (listed_bytes scope terms rest) (with_commas (map (term_tokens scope) terms) ++ tokens)
listed_lexes scope [] h rest tokens l = l
listed_lexes scope (term ∷ terms) h rest tokens l =
    let more = further_lexes scope terms h.1 (32 ∷ rest) tokens refl (space_then rest tokens l) in
    let whole = whole_lexes scope term h.0.readable (further_bytes scope terms (32 ∷ rest)) (commas (map (term_tokens scope) terms) ++ tokens)
    (further_starts scope terms (32 ∷ rest) refl) more in
    subst (Lexes (term_bytes (term_tree scope [] term) (further_bytes scope terms (32 ∷ rest))))
    (sym (append_assoc (term_tokens scope term) (commas (map (term_tokens scope) terms)) tokens)
    ∙ ap (λ l. l ++ tokens) (commas_between (term_tokens scope term) (map (term_tokens scope) terms)))
    whole

are_read : (scope : Scope) (terms : List NamedTerm) → AreReadableFormulas scope terms → AreReadTerms (map (term_tokens scope) terms) (map (term_tree scope []) terms)
are_read scope [] h = tt
are_read scope (term ∷ terms) h = ((printed_tree scope term h.0.readable).read, are_read scope terms h.1)

formula_again : (scope : Scope) (term : NamedTerm) → IsReadableFormula scope term → formula_meaning scope (term_tree scope [] term) ≡ Ok term
formula_again scope term h = ap (λ r. r >>= formula) (printed_meaning scope term h.readable) ∙ ap (λ b. if b then Ok term else Err NotBool) h.is_formula

formulas_again : (scope : Scope) (terms : List NamedTerm) → AreReadableFormulas scope terms → formulas_meaning scope (map (term_tree scope []) terms) ≡ Ok terms
formulas_again scope [] h = refl
formulas_again scope (term ∷ terms) h =
    ap (λ r. r >>= λ first. formulas_meaning scope (map (term_tree scope []) terms) >>= λ others. Ok (first ∷ others)) (formula_again scope term h.0)
    ∙ ap (λ r. r >>= λ others. Ok (term ∷ others)) (formulas_again scope terms h.1)

pub sequents_read_back : SequentsReadBack
sequents_read_back scope hypotheses conclusion h k =
    let last = whole_lexes scope conclusion k.readable [] [] tt tt in
    let turnstile : Lexes (124 ∷ 45 ∷ 32 ∷ text_of_term scope conclusion) (Mark Turnstile ∷ term_tokens scope conclusion) =
    token_then (Mark Turnstile) (32 ∷ text_of_term scope conclusion) (term_tokens scope conclusion) tt tt
    (space_then (text_of_term scope conclusion) (term_tokens scope conclusion) (subst (Lexes (text_of_term scope conclusion)) (append-nil (term_tokens scope conclusion)) last)) in (
      (map (term_tree scope []) hypotheses, term_tree scope [] conclusion),
      record {
        tokens = with_commas (map (term_tokens scope) hypotheses) ++ Mark Turnstile ∷ term_tokens scope conclusion;
        lexed = listed_lexes scope hypotheses h (124 ∷ 45 ∷ 32 ∷ text_of_term scope conclusion) (Mark Turnstile ∷ term_tokens scope conclusion) turnstile;
        read = record {
          parts = map (term_tokens scope) hypotheses;
          last = term_tokens scope conclusion;
          hypotheses = are_read scope hypotheses h;
          conclusion = (printed_tree scope conclusion k.readable).read;
          spelled = refl;
        };
      },
      ap (λ r. r >>= λ hs. formula_meaning scope (term_tree scope [] conclusion) >>= λ c. Ok (hs, c)) (formulas_again scope hypotheses h)
          ∙ ap (λ r. r >>= λ c. Ok (hypotheses, c)) (formula_again scope conclusion k),
    )
