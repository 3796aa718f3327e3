-- The piece at the front of the tokens is the one that they are spelled with, and no other.
use Rattle.std.proofs.Common.{◌≡◌, ◌≢◌, ℕ, List, [], ◌∷◌, Bool, true, false, Option, None, Some, refl, sym, ap, ◌∙◌, subst, unwrap_or}
use Rattle.hol_model.specs.declared.symbol.Symbol.{Symbol}
use Rattle.hol_model.specs.declared.symbol.Symbol.TheVariants.{Iff, Implies, And, Or, Equal, Backslash, Exclamation, Question, At, Tilde, OpenParenthesis, CloseParenthesis, OpenBracket}
use Rattle.hol_model.specs.declared.symbol.Symbol.TheVariants.{CloseBracket, Colon, Dot}
use Rattle.hol_model.specs.Texts.Token.{Token, Name, Number, Mark}
use Rattle.hol_model.specs.Texts.TypeGrammar.{TypeTree, IsRead, type_tokens}
use Rattle.hol_model.specs.Texts.TermGrammar.{IffInfix, ImpliesInfix, OrInfix, AndInfix, EqualInfix, Binder, Lambda, ForAll, Exists, Choice, Bare, Variable, Constant, IsWithin, IsConstantName}
use Rattle.hol_model.specs.Texts.TermGrammar.{Lexeme, AtomPiece, OpenPiece, ClosePiece, NotPiece, InfixPiece, BinderPiece, piece_tokens, all_tokens, pieces, binder_symbol, TermTree, Leaf}
use Rattle.hol_model.specs.Texts.TermGrammar.{Enclosed, Apply, Not, Join, Bind, IsTermTree, IsReadTerm}
use Rattle.hol_syntax_grammar.specs.TypeReader.{run, role, Continues}
use Rattle.hol_syntax_grammar.specs.TermReader.{Pending, Turn, Goes, Fails, turn}
use Rattle.hol_syntax_grammar.specs.TermReader.{run as run_pieces}
use Rattle.hol_syntax_grammar.specs.Pieces.{Ending, EndsVariable, EndsConstant, EndsBinder, EndsNothing, ending, type_until, ended_by, typed, made, when, if_else, is_colon, has_colon}
use Rattle.hol_syntax_grammar.specs.Pieces.{names_constant, piece_at, parenthesis_piece, bracket_piece, binder_piece}
use Rattle.hol_syntax_grammar.proofs.TypeReading.{complete, answers, AnswersType}
use Rattle.hol_syntax_grammar.proofs.TermReading.{IsPiece, ArePieces, goes_on}
use Rattle.hol_syntax_grammar.proofs.TermReading.{AnswersTerm, answers as answer_terms, complete as read_all}

-- no piece begins with a colon
no_colon : (pieces : List Lexeme) → has_colon (all_tokens pieces) ≡ false
no_colon [] = refl
no_colon (AtomPiece (Bare name) ∷ rest) = refl
no_colon (AtomPiece (Variable name tree) ∷ rest) = refl
no_colon (AtomPiece (Constant name tree) ∷ rest) = constant_no_colon
  where
    constant_no_colon : has_colon (all_tokens (AtomPiece (Constant name tree) ∷ rest)) ≡ false
    constant_no_colon = refl
no_colon (OpenPiece ∷ rest) = refl
no_colon (ClosePiece ∷ rest) = refl
no_colon (NotPiece ∷ rest) = refl
no_colon (InfixPiece IffInfix ∷ rest) = refl
no_colon (InfixPiece ImpliesInfix ∷ rest) = refl
no_colon (InfixPiece OrInfix ∷ rest) = refl
no_colon (InfixPiece AndInfix ∷ rest) = refl
no_colon (InfixPiece EqualInfix ∷ rest) = refl
no_colon (BinderPiece Lambda name tree ∷ rest) = refl
no_colon (BinderPiece ForAll name tree ∷ rest) = refl
no_colon (BinderPiece Exists name tree ∷ rest) = refl
no_colon (BinderPiece Choice name tree ∷ rest) = refl

-- a type that ends where it should is read whole
whole_type : (wanted : Ending) (last : Token) (tree : TypeTree) (rest : List Token) → IsWithin tree → role last ≢ Continues → ended_by wanted (ending last) (Some (tree, rest)) ≡ Some (tree, rest)
    → typed wanted (Mark Colon ∷ type_tokens tree (last ∷ rest)) ≡ Some (tree, rest)
whole_type wanted last tree rest h stop end = ap (type_until wanted) (complete tree (last ∷ rest) h.0 h.1 stop) ∙ end

named : (name : Token) → IsConstantName name → names_constant name ≡ true
named (Name bytes) h = refl
named (Number digits) h = absurd h
named (Mark Equal) h = refl
named (Mark At) h = refl
named (Mark And) h = refl
named (Mark Or) h = refl
named (Mark Implies) h = refl
named (Mark Tilde) h = refl
named (Mark Exclamation) h = refl
named (Mark Question) h = refl
named (Mark _) h = absurd h

-- behind a parenthesis that opens, no name and colon come next
opened : (pieces : List Lexeme) → parenthesis_piece (all_tokens pieces) ≡ Some (OpenPiece, all_tokens pieces)
opened [] = refl
opened (AtomPiece (Bare name) ∷ rest) =
    ap (λ b. if_else b (made (λ tree. AtomPiece (Variable name tree)) (typed EndsVariable (all_tokens rest))) (Some (OpenPiece, Name name ∷ all_tokens rest))) (no_colon rest)
opened (AtomPiece (Variable name tree) ∷ rest) = refl
opened (AtomPiece (Constant name tree) ∷ rest) = refl
opened (OpenPiece ∷ rest) = refl
opened (ClosePiece ∷ rest) = refl
opened (NotPiece ∷ rest) = refl
opened (InfixPiece i ∷ rest) = refl
opened (BinderPiece q name tree ∷ rest) = refl

pub piece_found : (piece : Lexeme) (rest : List Lexeme) → IsPiece piece → piece_at (piece_tokens piece (all_tokens rest)) ≡ Some (piece, all_tokens rest)
piece_found (AtomPiece (Bare name)) rest h = refl
piece_found (AtomPiece (Variable name tree)) rest h =
    ap (made (λ t. AtomPiece (Variable name t))) (whole_type EndsVariable (Mark CloseParenthesis) tree (all_tokens rest) h (λ e. cc) refl)
piece_found (AtomPiece (Constant name tree)) rest h =
    ap (λ b. when b (made (λ t. AtomPiece (Constant name t)) (typed EndsConstant (Mark Colon ∷ type_tokens tree (Mark CloseBracket ∷ all_tokens rest))))) (named name h.0)
    ∙ ap (made (λ t. AtomPiece (Constant name t))) (whole_type EndsConstant (Mark CloseBracket) tree (all_tokens rest) h.1 (λ e. cc) refl)
piece_found OpenPiece rest h = opened rest
piece_found ClosePiece rest h = refl
piece_found NotPiece rest h = refl
piece_found (InfixPiece IffInfix) rest h = refl
piece_found (InfixPiece ImpliesInfix) rest h = refl
piece_found (InfixPiece OrInfix) rest h = refl
piece_found (InfixPiece AndInfix) rest h = refl
piece_found (InfixPiece EqualInfix) rest h = refl
piece_found (BinderPiece Lambda name tree) rest h = ap (made (BinderPiece Lambda name)) (whole_type EndsBinder (Mark Dot) tree (all_tokens rest) h (λ e. cc) refl)
piece_found (BinderPiece ForAll name tree) rest h = ap (made (BinderPiece ForAll name)) (whole_type EndsBinder (Mark Dot) tree (all_tokens rest) h (λ e. cc) refl)
piece_found (BinderPiece Exists name tree) rest h = ap (made (BinderPiece Exists name)) (whole_type EndsBinder (Mark Dot) tree (all_tokens rest) h (λ e. cc) refl)
piece_found (BinderPiece Choice name tree) rest h = ap (made (BinderPiece Choice name)) (whole_type EndsBinder (Mark Dot) tree (all_tokens rest) h (λ e. cc) refl)

-- what a token is, by what it ends
abbrev EndingSays : Ending → Token → Type 0
EndingSays EndsVariable token = token ≡ Mark CloseParenthesis
EndingSays EndsConstant token = token ≡ Mark CloseBracket
EndingSays EndsBinder token = token ≡ Mark Dot
EndingSays EndsNothing token = Unit {0}

ending_says : (token : Token) → EndingSays (ending token) token
ending_says (Name name) = tt
ending_says (Number digits) = tt
ending_says (Mark CloseParenthesis) = refl
ending_says (Mark CloseBracket) = refl
ending_says (Mark Dot) = refl
ending_says (Mark _) = tt

colon_is : (token : Token) → is_colon token ≡ true → token ≡ Mark Colon
colon_is (Name name) e = absurd (let bad : false ≡ true = e in cc)
colon_is (Number digits) e = absurd (let bad : false ≡ true = e in cc)
colon_is (Mark Colon) e = refl
colon_is (Mark _) e = absurd (let bad : false ≡ true = e in cc)

-- the symbol that ends a type
abbrev closing : Ending → Symbol
closing EndsVariable = CloseParenthesis
closing EndsConstant = CloseBracket
closing EndsBinder = Dot
closing EndsNothing = Dot

-- what an answer on a type says of the tokens
abbrev TypedSays : Ending → List Token → Option (TypeTree × List Token) → Type 0
TypedSays wanted tokens None = Unit {0}
TypedSays wanted tokens (Some x) = (tokens ≡ Mark Colon ∷ type_tokens x.0 (Mark (closing wanted) ∷ x.1)) × IsWithin x.0

within : (tokens rest : List Token) (tree : TypeTree) → IsRead tokens tree rest → IsWithin tree
within tokens rest tree r = (r.grammatical, r.depth)

ended_says : (wanted is : Ending) (colon last : Token) (tokens behind : List Token) (tree : TypeTree) → EndingSays is last → colon ≡ Mark Colon → IsRead tokens tree (last ∷ behind)
    → TypedSays wanted (colon ∷ tokens) (ended_by wanted is (Some (tree, behind)))
ended_says EndsVariable EndsVariable colon last tokens behind tree l e r =
    (ap (λ t. t ∷ tokens) e ∙ ap (λ ts. Mark Colon ∷ ts) (r.spelled ∙ ap (λ t. type_tokens tree (t ∷ behind)) l), within tokens (last ∷ behind) tree r)
ended_says EndsConstant EndsConstant colon last tokens behind tree l e r =
    (ap (λ t. t ∷ tokens) e ∙ ap (λ ts. Mark Colon ∷ ts) (r.spelled ∙ ap (λ t. type_tokens tree (t ∷ behind)) l), within tokens (last ∷ behind) tree r)
ended_says EndsBinder EndsBinder colon last tokens behind tree l e r =
    (ap (λ t. t ∷ tokens) e ∙ ap (λ ts. Mark Colon ∷ ts) (r.spelled ∙ ap (λ t. type_tokens tree (t ∷ behind)) l), within tokens (last ∷ behind) tree r)
ended_says _ _ colon last tokens behind tree l e r = tt

typed_says : (wanted : Ending) (tokens : List Token) → TypedSays wanted tokens (typed wanted tokens)
typed_says wanted [] = tt
typed_says wanted (colon ∷ tokens) = go (is_colon colon) refl (run tokens [] None) (answers tokens)
  where
    go : (b : Bool) → is_colon colon ≡ b → (found : Option (TypeTree × List Token)) → AnswersType tokens found → TypedSays wanted (colon ∷ tokens) (when b (type_until wanted found))
    go false e found a = tt
    go true e None a = tt
    go true e (Some (tree, [])) a = tt
    go true e (Some (tree, last ∷ behind)) a = ended_says wanted (ending last) colon last tokens behind tree (ending_says last) (colon_is colon e) a

-- what an answer on a piece says of the tokens
abbrev pub PieceSays : List Token → Option (Lexeme × List Token) → Type 0
PieceSays tokens None = Unit {0}
PieceSays tokens (Some x) = (tokens ≡ piece_tokens x.0 x.1) × IsPiece x.0

named_says : (name : Token) → names_constant name ≡ true → IsConstantName name
named_says (Name bytes) e = tt
named_says (Number digits) e = absurd (let bad : false ≡ true = e in cc)
named_says (Mark Equal) e = tt
named_says (Mark At) e = tt
named_says (Mark And) e = tt
named_says (Mark Or) e = tt
named_says (Mark Implies) e = tt
named_says (Mark Tilde) e = tt
named_says (Mark Exclamation) e = tt
named_says (Mark Question) e = tt
named_says (Mark _) e = absurd (let bad : false ≡ true = e in cc)

variable_says : (name : List ℕ) (tokens : List Token) (found : Option (TypeTree × List Token)) → TypedSays EndsVariable tokens found
    → PieceSays (Mark OpenParenthesis ∷ Name name ∷ tokens) (made (λ tree. AtomPiece (Variable name tree)) found)
variable_says name tokens None h = tt
variable_says name tokens (Some x) h = (ap (λ l. Mark OpenParenthesis ∷ Name name ∷ l) h.0, h.1)

constant_says : (name : Token) (tokens : List Token) (found : Option (TypeTree × List Token)) → IsConstantName name → TypedSays EndsConstant tokens found
    → PieceSays (Mark OpenBracket ∷ name ∷ tokens) (made (λ tree. AtomPiece (Constant name tree)) found)
constant_says name tokens None n h = tt
constant_says name tokens (Some x) n h = (ap (λ l. Mark OpenBracket ∷ name ∷ l) h.0, (n, h.1))

binder_says : (q : Binder) (name : List ℕ) (tokens : List Token) (found : Option (TypeTree × List Token)) → TypedSays EndsBinder tokens found
    → PieceSays (Mark (binder_symbol q) ∷ Name name ∷ tokens) (made (BinderPiece q name) found)
binder_says q name tokens None h = tt
binder_says q name tokens (Some x) h = (ap (λ l. Mark (binder_symbol q) ∷ Name name ∷ l) h.0, h.1)

parenthesis_says : (tokens : List Token) → PieceSays (Mark OpenParenthesis ∷ tokens) (parenthesis_piece tokens)
parenthesis_says [] = (refl, tt)
parenthesis_says (Name name ∷ rest) = go (has_colon rest)
  where
    go : (b : Bool) → PieceSays (Mark OpenParenthesis ∷ Name name ∷ rest) (if_else b (made (λ tree. AtomPiece (Variable name tree)) (typed EndsVariable rest)) (Some (OpenPiece, Name name ∷ rest)))
    go true = variable_says name rest (typed EndsVariable rest) (typed_says EndsVariable rest)
    go false = (refl, tt)
parenthesis_says (Number digits ∷ rest) = (refl, tt)
parenthesis_says (Mark symbol ∷ rest) = (refl, tt)

bracket_says : (tokens : List Token) → PieceSays (Mark OpenBracket ∷ tokens) (bracket_piece tokens)
bracket_says [] = tt
bracket_says (name ∷ rest) = go (names_constant name) refl
  where
    go : (b : Bool) → names_constant name ≡ b → PieceSays (Mark OpenBracket ∷ name ∷ rest) (when b (made (λ tree. AtomPiece (Constant name tree)) (typed EndsConstant rest)))
    go true e = constant_says name rest (typed EndsConstant rest) (named_says name e) (typed_says EndsConstant rest)
    go false e = tt

binder_piece_says : (q : Binder) (tokens : List Token) → PieceSays (Mark (binder_symbol q) ∷ tokens) (binder_piece q tokens)
binder_piece_says q [] = tt
binder_piece_says q (Name name ∷ rest) = binder_says q name rest (typed EndsBinder rest) (typed_says EndsBinder rest)
binder_piece_says q (Number digits ∷ rest) = tt
binder_piece_says q (Mark symbol ∷ rest) = tt

-- the piece that is found is the one that the tokens are spelled with
pub piece_says : (tokens : List Token) → PieceSays tokens (piece_at tokens)
piece_says [] = tt
piece_says (Name name ∷ rest) = (refl, tt)
piece_says (Number digits ∷ rest) = tt
piece_says (Mark Iff ∷ rest) = (refl, tt)
piece_says (Mark Implies ∷ rest) = (refl, tt)
piece_says (Mark Or ∷ rest) = (refl, tt)
piece_says (Mark And ∷ rest) = (refl, tt)
piece_says (Mark Equal ∷ rest) = (refl, tt)
piece_says (Mark Tilde ∷ rest) = (refl, tt)
piece_says (Mark CloseParenthesis ∷ rest) = (refl, tt)
piece_says (Mark OpenParenthesis ∷ rest) = parenthesis_says rest
piece_says (Mark OpenBracket ∷ rest) = bracket_says rest
piece_says (Mark Backslash ∷ rest) = binder_piece_says Lambda rest
piece_says (Mark Exclamation ∷ rest) = binder_piece_says ForAll rest
piece_says (Mark Question ∷ rest) = binder_piece_says Exists rest
piece_says (Mark At ∷ rest) = binder_piece_says Choice rest
piece_says (Mark _ ∷ rest) = tt

fails_at : (piece : Lexeme) (rest : List Lexeme) (opens : List Pending) (c : Option TermTree) → turn piece opens c ≡ Fails → run_pieces (piece ∷ rest) opens c ≡ None
fails_at piece rest opens c e = ap {B = Option TermTree} (λ (w : Turn). elim w [ Goes o c ↦ run_pieces rest o c | Fails ↦ None ]) e

-- what the machine still has to read: pieces that the tokens are spelled with, from where it stands
pub record IsToRead (tokens : List Token) (opens : List Pending) (current : Option TermTree) (tree : TermTree) : Type 0 where
  pub pieces : List Lexeme
  pub valid : ArePieces pieces
  pub spelled : tokens ≡ all_tokens pieces
  pub reads : run_pieces pieces opens current ≡ Some tree

pub some_pair : (x y : Lexeme × List Token) → ◌≡◌ {A = Option (Lexeme × List Token)} (Some x) (Some y) → x ≡ y
some_pair x y e = ap (λ o. unwrap_or o x) e

-- a piece is taken: what is to read from before it is to read from behind it, and back
pub piece_taken : (tokens rest : List Token) (piece : Lexeme) (opens opens' : List Pending) (c c' : Option TermTree) (tree : TermTree)
    → piece_at tokens ≡ Some (piece, rest) → turn piece opens c ≡ Goes opens' c' → IsToRead tokens opens c tree → IsToRead rest opens' c' tree
piece_taken tokens rest piece opens opens' c c' tree found goes h = go h.pieces h.valid h.spelled h.reads
  where
    go : (pieces : List Lexeme) → ArePieces pieces → tokens ≡ all_tokens pieces → run_pieces pieces opens c ≡ Some tree → IsToRead rest opens' c' tree
    go [] v s r = absurd (let bad : ◌≡◌ {A = Option (Lexeme × List Token)} None (Some (piece, rest)) = ap piece_at (sym s) ∙ found in cc)
    go (first ∷ more) v s r =
        let same : (first, all_tokens more) ≡ (piece, rest) = some_pair (first, all_tokens more) (piece, rest) (sym (piece_found first more v.0) ∙ ap piece_at (sym s) ∙ found) in
        let here : first ≡ piece = ap (λ x. x.0) same in
        record {
          pieces = more;
          valid = v.1;
          spelled = sym (ap (λ x. x.1) same);
          reads = sym (goes_on first more opens opens' c c' (ap (λ p. turn p opens c) here ∙ goes)) ∙ r;
        }

pub piece_put_back : (tokens rest : List Token) (piece : Lexeme) (opens opens' : List Pending) (c c' : Option TermTree) (tree : TermTree)
    → piece_at tokens ≡ Some (piece, rest) → turn piece opens c ≡ Goes opens' c' → IsToRead rest opens' c' tree → IsToRead tokens opens c tree
piece_put_back tokens rest piece opens opens' c c' tree found goes h =
    let says : PieceSays tokens (Some (piece, rest)) = subst (λ o. PieceSays tokens o) found (piece_says tokens) in
    record {
      pieces = piece ∷ h.pieces;
      valid = (says.1, h.valid);
      spelled = says.0 ∙ ap (piece_tokens piece) h.spelled;
      reads = goes_on piece h.pieces opens opens' c c' goes ∙ h.reads;
    }

-- where no piece stands at the front, or its turn fails, nothing is to read
pub no_piece : (token : Token) (tokens : List Token) (opens : List Pending) (c : Option TermTree) (tree : TermTree) → piece_at (token ∷ tokens) ≡ None → ¬ (IsToRead (token ∷ tokens) opens c tree)
no_piece token tokens opens c tree none h = go h.pieces h.valid h.spelled
  where
    go : (pieces : List Lexeme) → ArePieces pieces → token ∷ tokens ≡ all_tokens pieces → ⊥
    go [] v s = let bad : token ∷ tokens ≡ [] = s in cc
    go (first ∷ more) v s =
        let bad : ◌≡◌ {A = Option (Lexeme × List Token)} None (Some (first, all_tokens more)) = sym none ∙ ap piece_at s ∙ piece_found first more v.0 in cc

pub turn_fails : (tokens rest : List Token) (piece : Lexeme) (opens : List Pending) (c : Option TermTree) (tree : TermTree) → piece_at tokens ≡ Some (piece, rest)
    → turn piece opens c ≡ Fails → ¬ (IsToRead tokens opens c tree)
turn_fails tokens rest piece opens c tree found fails h = go h.pieces h.valid h.spelled h.reads
  where
    go : (pieces : List Lexeme) → ArePieces pieces → tokens ≡ all_tokens pieces → run_pieces pieces opens c ≡ Some tree → ⊥
    go [] v s r = let bad : ◌≡◌ {A = Option (Lexeme × List Token)} None (Some (piece, rest)) = ap piece_at (sym s) ∙ found in cc
    go (first ∷ more) v s r =
        let same : (first, all_tokens more) ≡ (piece, rest) = some_pair (first, all_tokens more) (piece, rest) (sym (piece_found first more v.0) ∙ ap piece_at (sym s) ∙ found) in
        let here : first ≡ piece = ap (λ x. x.0) same in
        let none : run_pieces (first ∷ more) opens c ≡ None = fails_at first more opens c (ap (λ p. turn p opens c) here ∙ fails) in
        let bad : ◌≡◌ {A = Option TermTree} None (Some tree) = sym none ∙ r in cc

-- at the end of the tokens
pub end_reads : (opens : List Pending) (c : Option TermTree) (tree : TermTree) → run_pieces [] opens c ≡ Some tree → IsToRead [] opens c tree
end_reads opens c tree r = record { pieces = []; valid = tt; spelled = refl; reads = r }

-- the pieces of a tree are valid
pieces_valid : (tree : TermTree) (rest : List Lexeme) → IsTermTree tree → ArePieces rest → ArePieces (pieces tree rest)
pieces_valid (Leaf atom) rest h r = (h, r)
pieces_valid (Enclosed tree) rest h r = (tt, pieces_valid tree (ClosePiece ∷ rest) h (tt, r))
pieces_valid (Apply f a) rest h r = pieces_valid f (pieces a rest) h.0 (pieces_valid a rest h.1 r)
pieces_valid (Not tree) rest h r = (tt, pieces_valid tree rest h.0 r)
pieces_valid (Join i a b) rest h r = pieces_valid a (InfixPiece i ∷ pieces b rest) h.0 (tt, pieces_valid b rest h.1 r)
pieces_valid (Bind q x type tree) rest h r = (h.0, pieces_valid tree rest h.1 r)

-- The tokens of a tree are what is to read from the start, and nothing else is.
pub to_read : (tokens : List Token) (tree : TermTree) → IsReadTerm tokens tree → IsToRead tokens [] None tree
to_read tokens tree r = record { pieces = pieces tree []; valid = pieces_valid tree [] r.grammatical tt; spelled = r.spelled; reads = read_all tree r.grammatical r.depth }

pub is_read : (tokens : List Token) (tree : TermTree) → IsToRead tokens [] None tree → IsReadTerm tokens tree
is_read tokens tree h =
    let said : AnswersTerm h.pieces (Some tree) = subst (λ o. AnswersTerm h.pieces o) h.reads (answer_terms h.pieces h.valid) in
    record { grammatical = said.0; depth = said.1; spelled = h.spelled ∙ ap all_tokens said.2 }
