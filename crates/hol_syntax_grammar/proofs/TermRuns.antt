-- A turn of the reader of terms brings it nearer to the tree that the tokens are.
use Rattle.std.proofs.Common.{◌≡◌, ℕ, ◌+◌, ◌-◌, ◌<◌, ◌≤◌, List, [], ◌∷◌, ◌++◌, length, take, drop, append_assoc, Option, None, Some, Ok, Err, refl, sym, ap, ◌∙◌, subst, arith, ⊎_elim}
use Rattle.std.proofs.lemmas.List.{length-append, length-map, length-drop, drop-map, nil_from_length, drop-drop}
use Rattle.hol_model.specs.declared.symbol.Symbol.TheVariants.{Arrow, OpenParenthesis, CloseParenthesis, OpenBracket, CloseBracket, Colon, Dot}
use Rattle.hol_model.specs.Texts.Token.{Token, Name, Mark}
use Rattle.hol_model.specs.Texts.TypeGrammar.{TypeTree, Named, Enclosed, Function, type_tokens}
use Rattle.hol_model.specs.Texts.TermGrammar.{TermTree, Bare, Variable, Constant, Lexeme, AtomPiece, OpenPiece, ClosePiece, NotPiece, InfixPiece, BinderPiece, piece_tokens, all_tokens}
use Rattle.hol_model.specs.Texts.TermGrammar.{binder_symbol, IsReadTerm}
use Rattle.hol_syntax_grammar.specs.declared.type_reader.ReadError.{ReadError}
use Rattle.hol_syntax_grammar.specs.declared.type_reader.ReadError.TheVariants.{Memory, Syntax}
use Rattle.hol_syntax_grammar.specs.declared.term_reader.TermReader.{TermReader}
use Rattle.hol_syntax_grammar.specs.TermReader.{Pending, Goes, turn, run}
use Rattle.hol_syntax_grammar.specs.declared.token.Token.{Token as TokenHere}
use Rattle.hol_syntax_grammar.specs.Views.{token_of, tokens_of}
use Rattle.hol_syntax_grammar.specs.Pieces.{piece_at}
use Rattle.hol_syntax_grammar.specs.TermStates.{IsState, IsStepped, IsWhole, Parses}
use Rattle.hol_syntax_grammar.proofs.PieceReading.{rest_whole}
use Rattle.hol_syntax_grammar.proofs.Pieces.{IsToRead, PieceSays, piece_says, piece_taken, piece_put_back, no_piece, turn_fails, end_reads, to_read, is_read}

-- the tokens of a type end where the rest begins
type_front : (t : TypeTree) (rest : List Token) → (front : List Token) × (type_tokens t rest ≡ front ++ rest)
type_front (Named name) rest = (Name name ∷ [], refl)
type_front (Enclosed t) rest =
    let inner = type_front t (Mark CloseParenthesis ∷ rest) in
    (Mark OpenParenthesis ∷ (inner.0 ++ Mark CloseParenthesis ∷ []), ap (λ l. Mark OpenParenthesis ∷ l) (inner.1 ∙ regroup inner.0 (Mark CloseParenthesis) rest))
  where
    regroup : (a : List Token) (x : Token) (rest : List Token) → a ++ x ∷ rest ≡ (a ++ x ∷ []) ++ rest
    regroup [] x rest = refl
    regroup (y ∷ a) x rest = ap (λ l. y ∷ l) (regroup a x rest)
type_front (Function a b) rest =
    let right = type_front b rest in
    let left = type_front a (Mark Arrow ∷ type_tokens b rest) in
    (left.0 ++ Mark Arrow ∷ right.0, left.1 ∙ ap (λ l. left.0 ++ Mark Arrow ∷ l) right.1 ∙ sym (append_assoc left.0 (Mark Arrow ∷ right.0) rest))

-- the tokens of a piece, which are some, end where the rest begins
record IsFront (whole rest : List Token) : Type 0 where
  first : Token
  others : List Token
  spelled : whole ≡ first ∷ (others ++ rest)

typed_front : (first second third last : Token) (t : TypeTree) (rest : List Token) → IsFront (first ∷ second ∷ third ∷ type_tokens t (last ∷ rest)) rest
typed_front first second third last t rest =
    let inner = type_front t (last ∷ rest) in
    record {
      first = first;
      others = second ∷ third ∷ (inner.0 ++ last ∷ []);
      spelled = ap (λ l. first ∷ second ∷ third ∷ l) (inner.1 ∙ sym (append_assoc inner.0 (last ∷ []) rest));
    }

piece_front : (piece : Lexeme) (rest : List Token) → IsFront (piece_tokens piece rest) rest
piece_front (AtomPiece (Bare name)) rest = record { first = Name name; others = []; spelled = refl }
piece_front (AtomPiece (Variable name t)) rest = typed_front (Mark OpenParenthesis) (Name name) (Mark Colon) (Mark CloseParenthesis) t rest
piece_front (AtomPiece (Constant name t)) rest = typed_front (Mark OpenBracket) name (Mark Colon) (Mark CloseBracket) t rest
piece_front OpenPiece rest = record { first = _; others = []; spelled = refl }
piece_front ClosePiece rest = record { first = _; others = []; spelled = refl }
piece_front NotPiece rest = record { first = _; others = []; spelled = refl }
piece_front (InfixPiece i) rest = record { first = _; others = []; spelled = refl }
piece_front (BinderPiece q name t) rest = typed_front (Mark (binder_symbol q)) (Name name) (Mark Colon) (Mark Dot) t rest

-- how many tokens a piece takes
pub record IsCounted (tokens rest : List Token) (n : ℕ) : Type 0 where
  pub some : 0 < n
  pub within : n ≤ length tokens
  pub left : rest ≡ drop n tokens

pub counted : (tokens rest : List Token) (piece : Lexeme) → piece_at tokens ≡ Some (piece, rest) → length rest ≤ length tokens × IsCounted tokens rest (length tokens - length rest)
counted tokens rest piece found =
    let says : PieceSays tokens (Some (piece, rest)) = subst (λ o. PieceSays tokens o) found (piece_says tokens) in
    let front = piece_front piece rest in
    let all : tokens ≡ (front.first ∷ front.others) ++ rest = says.0 ∙ front.spelled in
    let size : length tokens ≡ length (front.first ∷ front.others) + length rest = ap length all ∙ length-append (front.first ∷ front.others) rest in
    let same : length tokens - length rest ≡ length (front.first ∷ front.others) = omega (arith, size) in (
      omega (arith, size),
      record {
        some = omega (arith, same);
        within = omega arith;
        left = sym (drop_front (front.first ∷ front.others) rest) ∙ ap (λ l. drop (length (front.first ∷ front.others)) l) (sym all) ∙ ap (λ n. drop n tokens) (sym same);
      },
    )
  where
    drop_front : (a rest : List Token) → drop (length a) (a ++ rest) ≡ rest
    drop_front [] rest = refl
    drop_front (x ∷ a) rest = drop_front a rest

-- From here the machine reads what all tokens are.
pub record IsReached (all rest : List Token) (opens : List Pending) (current : Option TermTree) : Type 0 where
  pub forward : (tree : TermTree) → IsToRead all [] None tree → IsToRead rest opens current tree
  pub back : (tree : TermTree) → IsToRead rest opens current tree → IsToRead all [] None tree

pub reached_start : (all : List Token) → IsReached all all [] None
reached_start all = record { forward = λ tree h. h; back = λ tree h. h }

pub reached_next : (all rest behind : List Token) (piece : Lexeme) (opens opens' : List Pending) (c c' : Option TermTree)
    → piece_at rest ≡ Some (piece, behind) → turn piece opens c ≡ Goes opens' c' → IsReached all rest opens c → IsReached all behind opens' c'
reached_next all rest behind piece opens opens' c c' found goes h = record {
  forward = λ tree k. piece_taken rest behind piece opens opens' c c' tree found goes (h.forward tree k);
  back = λ tree k. h.back tree (piece_put_back rest behind piece opens opens' c c' tree found goes k);
}

-- the machine goes no further
no_piece_at : (rest : List Token) (opens : List Pending) (c : Option TermTree) (tree : TermTree) → 0 < length rest → piece_at rest ≡ None → ¬ (IsToRead rest opens c tree)
no_piece_at [] opens c tree some none = absurd (omega (arith, some))
no_piece_at (token ∷ rest) opens c tree some none = no_piece token rest opens c tree none

pub stops : (error : ReadError) (reader : TermReader) (all rest : List Token) (opens : List Pending) (c : Option TermTree) → IsReached all rest opens c → 0 < length rest
    → IsStepped (Err error) reader rest opens c → Parses (Err error) all
stops Memory reader all rest opens c h some k = tt
stops Syntax reader all rest opens c h some k = λ tree r.
    let toward = h.forward tree (to_read all tree r) in
    ⊎_elim (λ none. no_piece_at rest opens c tree some none toward) (λ f. turn_fails rest f.1 f.0 opens c tree f.2 f.3 toward) k

-- at the end of the tokens
pub no_pieces : (pieces : List Lexeme) → [] ≡ all_tokens pieces → pieces ≡ []
no_pieces [] e = refl
no_pieces (piece ∷ rest) e =
    let front = piece_front piece (all_tokens rest) in
    absurd (let bad : ◌≡◌ {A = List Token} [] (front.first ∷ (front.others ++ all_tokens rest)) = e ∙ front.spelled in cc)

nothing_left : (opens : List Pending) (c : Option TermTree) (tree : TermTree) → IsToRead [] opens c tree → run [] opens c ≡ Some tree
nothing_left opens c tree h = ap (λ l. run l opens c) (sym (no_pieces h.pieces h.spelled)) ∙ h.reads

pub ends_read : (all : List Token) (opens : List Pending) (c : Option TermTree) (tree : TermTree) → IsReached all [] opens c → run [] opens c ≡ Some tree → IsReadTerm all tree
ends_read all opens c tree h r = is_read all tree (h.back tree (end_reads opens c tree r))

pub ends_unread : (error : ReadError) (reader : TermReader) (all : List Token) (opens : List Pending) (c : Option TermTree) → IsReached all [] opens c
    → IsWhole (Err error) reader (run [] opens c) → Parses (Err error) all
ends_unread Memory reader all opens c h k = tt
ends_unread Syntax reader all opens c h k = λ tree r.
    let bad : ◌≡◌ {A = Option TermTree} None (Some tree) = sym k ∙ nothing_left opens c tree (h.forward tree (to_read all tree r)) in cc

-- the same over the tokens of the code
pub counted_here : (tokens rest : List TokenHere) (piece : Lexeme) → piece_at (tokens_of tokens) ≡ Some (piece, tokens_of rest)
    → (length rest ≤ length tokens) × IsCounted (tokens_of tokens) (tokens_of rest) (length tokens - length rest)
counted_here tokens rest piece found =
    let all : length (tokens_of tokens) ≡ length tokens = length-map tokens token_of in
    let left : length (tokens_of rest) ≡ length rest = length-map rest token_of in
    let c = counted (tokens_of tokens) (tokens_of rest) piece found in
    (omega (arith, c.0, all, left), subst (λ n. IsCounted (tokens_of tokens) (tokens_of rest) n) (ap (λ n. n - length (tokens_of rest)) all ∙ ap (λ n. length tokens - n) left) c.1)

pub rest_here : (at : ℕ) (tokens : List TokenHere) → tokens_of (take (length tokens - at) (drop at tokens)) ≡ drop at (tokens_of tokens)
rest_here at tokens = ap tokens_of (rest_whole at tokens) ∙ sym (drop-map token_of at tokens)

pub steps_on : (tokens : List TokenHere) (at n : ℕ) (reader : TermReader) (opens : List Pending) (c : Option TermTree) → at ≤ length tokens
    → IsReached (tokens_of tokens) (drop at (tokens_of tokens)) opens c → IsStepped (Ok n) reader (tokens_of (take (length tokens - at) (drop at tokens))) opens c
    → ((opens' : List Pending) × (c' : Option TermTree) × IsState reader opens' c' × IsReached (tokens_of tokens) (drop (at + n) (tokens_of tokens)) opens' c' × (at + n ≤ length tokens))
    × (0 < n)
steps_on tokens at n reader opens c within h k =
    let all : length (tokens_of tokens) ≡ length tokens = length-map tokens token_of in
    let s : IsStepped (Ok n) reader (drop at (tokens_of tokens)) opens c = subst (λ l. IsStepped (Ok n) reader l opens c) (rest_here at tokens) k in
    let found : piece_at (drop at (tokens_of tokens)) ≡ Some (s.0, drop (at + n) (tokens_of tokens)) = s.3 ∙ ap (λ l. Some (s.0, l)) (drop-drop n at (tokens_of tokens)) in
    let size : length (drop at (tokens_of tokens)) ≡ length (tokens_of tokens) - at = length-drop at (tokens_of tokens) in
    ((s.1, s.2, s.5, reached_next (tokens_of tokens) (drop at (tokens_of tokens)) (drop (at + n) (tokens_of tokens)) s.0 opens s.1 c s.2 found s.4 h, omega (arith, s.7, size, all, within)), s.6)

pub stops_here : (tokens : List TokenHere) (at : ℕ) (error : ReadError) (reader : TermReader) (opens : List Pending) (c : Option TermTree) → at < length tokens
    → IsReached (tokens_of tokens) (drop at (tokens_of tokens)) opens c → IsStepped (Err error) reader (tokens_of (take (length tokens - at) (drop at tokens))) opens c
    → Parses (Err error) (tokens_of tokens)
stops_here tokens at error reader opens c within h k =
    let all : length (tokens_of tokens) ≡ length tokens = length-map tokens token_of in
    let size : length (drop at (tokens_of tokens)) ≡ length (tokens_of tokens) - at = length-drop at (tokens_of tokens) in
    stops error reader (tokens_of tokens) (drop at (tokens_of tokens)) opens c h (omega (arith, size, all, within))
    (subst (λ l. IsStepped (Err error) reader l opens c) (rest_here at tokens) k)

pub at_end : (tokens : List TokenHere) (at : ℕ) (opens : List Pending) (c : Option TermTree) → length tokens ≤ at
    → IsReached (tokens_of tokens) (drop at (tokens_of tokens)) opens c → IsReached (tokens_of tokens) [] opens c
at_end tokens at opens c h r =
    let all : length (tokens_of tokens) ≡ length tokens = length-map tokens token_of in
    let size : length (drop at (tokens_of tokens)) ≡ length (tokens_of tokens) - at = length-drop at (tokens_of tokens) in
    subst (λ l. IsReached (tokens_of tokens) l opens c) (nil_from_length (drop at (tokens_of tokens)) (omega (arith, size, all, h))) r
