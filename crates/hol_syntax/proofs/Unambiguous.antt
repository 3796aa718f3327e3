-- A text has one list of tokens, and one tree.
use Rattle.std.proofs.Common.{◌≡◌, ◌≢◌, ℕ, List, [], ◌∷◌, Option, None, Some, refl, sym, ap, ◌∙◌, subst, unwrap_or}
use Rattle.hol_model.specs.Texts.Token.{Token}
use Rattle.hol_model.specs.Texts.TypeGrammar.{TypeTree, IsRead}
use Rattle.hol_model.specs.Texts.Lexing.{Lexes, is_blank}
use Rattle.hol_model.specs.Texts.TermGrammar.{TermTree, Lexeme, all_tokens, IsReadTerm}
use Rattle.hol_model.specs.Texts.Texts.{TypesAreUnambiguous, TermsAreUnambiguous}
use Rattle.hol_syntax_grammar.specs.Lexer.{back}
use Rattle.hol_syntax_grammar.specs.TypeReader.{run}
use Rattle.hol_syntax_grammar.proofs.Lexing.{first_is, nothing_left}
use Rattle.hol_syntax_grammar.specs.TermReader.{run as run_pieces}
use Rattle.hol_syntax_grammar.specs.Pieces.{piece_at}
use Rattle.hol_syntax_grammar.proofs.TypeReading.{complete}
use Rattle.hol_syntax_grammar.proofs.TermReading.{ArePieces}
use Rattle.hol_syntax_grammar.proofs.Pieces.{some_pair, piece_found, to_read}
use Rattle.hol_syntax_grammar.proofs.TermRuns.{no_pieces}

-- where a token begins, something is left
not_blank : (bytes : List ℕ) (token : Token) (tokens : List Token) → Lexes bytes (token ∷ tokens) → back is_blank bytes ≢ []
not_blank bytes token tokens h e = let bad : token ∷ tokens ≡ [] = nothing_left bytes (token ∷ tokens) e h in cc

pub one_list : (bytes : List ℕ) (a b : List Token) → Lexes bytes a → Lexes bytes b → a ≡ b
one_list bytes [] [] h k = refl
one_list bytes [] (u ∷ us) h k = absurd (no_tokens bytes (u ∷ us) (not_blank bytes u us k) h)
  where
    no_tokens : (bytes : List ℕ) (us : List Token) → back is_blank bytes ≢ [] → Lexes bytes [] → ⊥
    no_tokens bytes us n h = let f = first_is bytes [] n h in let bad : ◌≡◌ {A = List Token} [] (f.0 ∷ f.2) = f.3 in cc
one_list bytes (t ∷ ts) b h k =
    let n = not_blank bytes t ts h in
    let x = first_is bytes (t ∷ ts) n h in
    let y = first_is bytes b n k in
    let same : ◌≡◌ {A = Option (Token × List ℕ)} (Some (x.0, x.1)) (Some (y.0, y.1)) = sym x.4 ∙ y.4 in
    let pair : ◌≡◌ {A = Token × List ℕ} (x.0, x.1) (y.0, y.1) = ap (λ o. unwrap_or o (x.0, x.1)) same in
    let token : t ≡ x.0 = cc in
    let tail : ts ≡ x.2 = cc in
    let others : Lexes y.1 ts = subst (λ r. Lexes r ts) (ap (λ p. p.1) pair) (subst (λ l. Lexes x.1 l) (sym tail) x.5) in
    let rest : ts ≡ y.2 = one_list y.1 ts y.2 others y.5 in
    ap (λ u. u ∷ ts) (token ∙ ap (λ p. p.0) pair) ∙ ap (λ l. y.0 ∷ l) rest ∙ sym y.3

pub one_tree : (tokens : List Token) (a b : TypeTree) → IsRead tokens a [] → IsRead tokens b [] → a ≡ b
one_tree tokens a b h k =
    let x : run tokens [] None ≡ Some (a, []) = ap (λ l. run l [] None) h.spelled ∙ complete a [] h.grammatical h.depth tt in
    let y : run tokens [] None ≡ Some (b, []) = ap (λ l. run l [] None) k.spelled ∙ complete b [] k.grammatical k.depth tt in
    let same : ◌≡◌ {A = Option (TypeTree × List Token)} (Some (a, [])) (Some (b, [])) = sym x ∙ y in
    ap (λ (o : Option (TypeTree × List Token)). (unwrap_or o (a, [])).0) same

pub types_are_unambiguous : TypesAreUnambiguous
types_are_unambiguous text a b h k =
    let tokens : h.tokens ≡ k.tokens = one_list text h.tokens k.tokens h.lexed k.lexed in
    one_tree h.tokens a b h.read (subst (λ l. IsRead l b []) (sym tokens) k.read)

-- tokens are spelled by one list of pieces
same_pieces : (a b : List Lexeme) → ArePieces a → ArePieces b → all_tokens a ≡ all_tokens b → a ≡ b
same_pieces [] [] v w e = refl
same_pieces [] (y ∷ ys) v w e = sym (no_pieces (y ∷ ys) e)
same_pieces (x ∷ xs) [] v w e = no_pieces (x ∷ xs) (sym e)
same_pieces (x ∷ xs) (y ∷ ys) v w e =
    let pair : ◌≡◌ {A = Lexeme × List Token} (x, all_tokens xs) (y, all_tokens ys) =
    some_pair (x, all_tokens xs) (y, all_tokens ys) (sym (piece_found x xs v.0) ∙ ap piece_at e ∙ piece_found y ys w.0) in
    ap (λ p. p ∷ xs) (ap (λ p. p.0) pair) ∙ ap (λ l. y ∷ l) (same_pieces xs ys v.1 w.1 (ap (λ p. p.1) pair))

pub one_term : (tokens : List Token) (a b : TermTree) → IsReadTerm tokens a → IsReadTerm tokens b → a ≡ b
one_term tokens a b h k =
    let x = to_read tokens a h in
    let y = to_read tokens b k in
    let pieces : x.pieces ≡ y.pieces = same_pieces x.pieces y.pieces x.valid y.valid (sym x.spelled ∙ y.spelled) in
    let same : ◌≡◌ {A = Option TermTree} (Some a) (Some b) = sym x.reads ∙ ap (λ p. run_pieces p [] None) pieces ∙ y.reads in
    ap (λ (o : Option TermTree). unwrap_or o a) same

pub terms_are_unambiguous : TermsAreUnambiguous
terms_are_unambiguous text a b h k =
    let tokens : h.tokens ≡ k.tokens = one_list text h.tokens k.tokens h.lexed k.lexed in
    one_term h.tokens a b h.read (subst (λ l. IsReadTerm l b) (sym tokens) k.read)
