-- Where quoted terms end.
use Rattle.std.proofs.Common.{◌≡◌, ◌≢◌, ℕ, zero, suc, ◌+◌, ◌-◌, ◌<◌, ◌≤◌, arith, List, [], ◌∷◌, ◌++◌, length, get_or, take, drop, true, false, refl, sym, ◌∙◌, ap, subst, append_assoc}
use Rattle.std.proofs.Common.{length-append, Result, Ok, Err, Vec, Global}
use Rattle.hol_model.specs.declared.symbol.Symbol.TheVariants.{Backquote}
use Rattle.hol_model.specs.Texts.Token.{Token, Name, Number, Mark}
use Rattle.hol_model.specs.Texts.TypeGrammar.{TypeTree, Named, Enclosed, Function, type_tokens}
use Rattle.hol_model.specs.Texts.TermGrammar.{Bare, Variable, Constant, TermTree, Leaf, Apply, Not, Join, Bind, IsConstantName, IsTermTree, Infix, IffInfix, ImpliesInfix, OrInfix, AndInfix}
use Rattle.hol_model.specs.Texts.TermGrammar.{EqualInfix, Binder, Lambda, ForAll, Exists, Choice, Lexeme, InfixPiece, BinderPiece, pieces, all_tokens}
use Rattle.hol_model.specs.Texts.TermGrammar.{Enclosed as EnclosedTerm}
use Rattle.hol_model_sessions.specs.Commands.{quoted, quote_tokens, IsQuotable}
use Rattle.hol_syntax_grammar.specs.declared.token.Token.{Token as TokenHere}
use Rattle.hol_syntax_grammar.specs.declared.token.Token.TheVariants.{Mark as MarkHere}
use Rattle.hol_syntax_grammar.specs.declared.steps.TermStep.{TermStep}
use Rattle.hol_syntax_grammar.specs.declared.type_reader.ReadError.{ReadError}
use Rattle.hol_syntax_grammar.specs.declared.type_reader.ReadError.TheVariants.{Memory, Syntax}
use Rattle.hol_syntax_grammar.specs.Views.{token_of, tokens_of}
use Rattle.hol_syntax_grammar.specs.TermStates.{Parses}
use Rattle.hol_tactic_grammar.specs.Tokens.{behind, IsAt, IsNotAt}
use Rattle.hol_tactic_grammar.specs.Quotes.{is_quote, HasNoQuote, IsUnquoted, Quotes}
use Rattle.hol_tactic_grammar.proofs.TokenLemmas.{token-at, nothing-at}

type-no_quote : (tree : TypeTree) (rest : List Token) → HasNoQuote rest → HasNoQuote (type_tokens tree rest)
type-no_quote (Named name) rest none = (refl, none)
type-no_quote (Enclosed tree) rest none = (refl, type-no_quote tree _ (refl, none))
type-no_quote (Function a b) rest none = type-no_quote a _ (refl, type-no_quote b rest none)

never : {A : Type 0} → true ≡ false → A
never same = cc

constant-no_quote : (token : Token) → IsConstantName token → is_quote token ≡ false
constant-no_quote (Name name) named = refl
constant-no_quote (Number digits) named = refl
constant-no_quote (Mark Backquote) named = absurd named
constant-no_quote (Mark symbol) named = refl

infix-no_quote : (operation : Infix) (rest : List Lexeme) → HasNoQuote (all_tokens rest) → HasNoQuote (all_tokens (InfixPiece operation ∷ rest))
infix-no_quote IffInfix rest none = (refl, none)
infix-no_quote ImpliesInfix rest none = (refl, none)
infix-no_quote OrInfix rest none = (refl, none)
infix-no_quote AndInfix rest none = (refl, none)
infix-no_quote EqualInfix rest none = (refl, none)

binder-no_quote : (binder : Binder) (name : List ℕ) (tree : TypeTree) (rest : List Lexeme) → HasNoQuote (all_tokens rest) → HasNoQuote (all_tokens (BinderPiece binder name tree ∷ rest))
binder-no_quote Lambda name tree rest none = (refl, (refl, (refl, type-no_quote tree _ (refl, none))))
binder-no_quote ForAll name tree rest none = (refl, (refl, (refl, type-no_quote tree _ (refl, none))))
binder-no_quote Exists name tree rest none = (refl, (refl, (refl, type-no_quote tree _ (refl, none))))
binder-no_quote Choice name tree rest none = (refl, (refl, (refl, type-no_quote tree _ (refl, none))))

term-no_quote : (tree : TermTree) (rest : List Lexeme) → IsTermTree tree → HasNoQuote (all_tokens rest) → HasNoQuote (all_tokens (pieces tree rest))
term-no_quote (Leaf (Bare name)) rest grammatical none = (refl, none)
term-no_quote (Leaf (Variable name type)) rest grammatical none = (refl, (refl, (refl, type-no_quote type _ (refl, none))))
term-no_quote (Leaf (Constant name type)) rest grammatical none = (refl, (constant-no_quote name grammatical.0, (refl, type-no_quote type _ (refl, none))))
term-no_quote (EnclosedTerm tree) rest grammatical none = (refl, term-no_quote tree _ grammatical (refl, none))
term-no_quote (Apply f a) rest grammatical none = term-no_quote f _ grammatical.0 (term-no_quote a rest grammatical.1 none)
term-no_quote (Not tree) rest grammatical none = (refl, term-no_quote tree rest grammatical.0 none)
term-no_quote (Join operation a b) rest grammatical none =
    term-no_quote a _ grammatical.0 (infix-no_quote operation (pieces b rest) (term-no_quote b rest grammatical.1 none))
term-no_quote (Bind binder name type tree) rest grammatical none =
    binder-no_quote binder name type (pieces tree rest) (term-no_quote tree rest grammatical.1 none)

-- what stands before the first backquote, and behind it, is determined
record SamePieces (a b r s : List Token) : Type 0 where
  inner : a ≡ b
  rest : r ≡ s

split_once : (a b r s : List Token) → HasNoQuote a → HasNoQuote b → a ++ Mark Backquote ∷ r ≡ b ++ Mark Backquote ∷ s → SamePieces a b r s
split_once [] [] r s none_a none_b same = record { inner = refl; rest = cc }
split_once [] (y ∷ b) r s none_a none_b same =
    let first : Mark Backquote ≡ y = cc in
    never (ap is_quote first ∙ none_b.0)
split_once (x ∷ a) [] r s none_a none_b same =
    let first : Mark Backquote ≡ x = cc in
    never (ap is_quote first ∙ none_a.0)
split_once (x ∷ a) (y ∷ b) r s none_a none_b same =
    let first : x ≡ y = cc in
    let further : a ++ Mark Backquote ∷ r ≡ b ++ Mark Backquote ∷ s = cc in
    let deeper : SamePieces a b r s = split_once a b r s none_a.1 none_b.1 further in
    record { inner = λ i. first i ∷ deeper.inner i; rest = deeper.rest }

quoted_once : (a b r s : List Token) → HasNoQuote a → HasNoQuote b → quoted a r ≡ quoted b s → SamePieces a b r s
quoted_once a b r s none_a none_b same = split_once a b r s none_a none_b (let further : a ++ Mark Backquote ∷ r ≡ b ++ Mark Backquote ∷ s = cc in further)

quotable-no_quote : (tree : TermTree) → IsQuotable tree → HasNoQuote (all_tokens (pieces tree []))
quotable-no_quote tree quotable = term-no_quote tree [] quotable.0 tt

-- ---- the first backquote

none-more : (before : List Token) (token : Token) → HasNoQuote before → is_quote token ≡ false → HasNoQuote (before ++ token ∷ [])
none-more [] token none here = (here, tt)
none-more (first ∷ before) token none here = (none.0, none-more before token none.1 here)

another-token : (token : Token) (rest : List Token) → ((others : List Token) → token ∷ rest ≢ Mark Backquote ∷ others) → is_quote token ≡ false
another-token (Name name) rest differs = refl
another-token (Number digits) rest differs = refl
another-token (Mark Backquote) rest differs = absurd (differs rest refl)
another-token (Mark symbol) rest differs = refl

pub unquoted-from : (at : ℕ) (tokens : List TokenHere) → IsUnquoted at at tokens
unquoted-from at tokens = record { further = omega arith; before = []; count = omega arith; split = refl; none = tt }

pub unquoted-more : (at end : ℕ) (tokens : List TokenHere) → IsUnquoted at end tokens → end < length tokens → IsNotAt (Mark Backquote) end tokens → IsUnquoted at (end + 1) tokens
unquoted-more at end tokens front within differs =
    let here = token-at tokens end (MarkHere Backquote) _ within refl in
    let token : Token = token_of (get_or tokens end (MarkHere Backquote)) in
    let plain : is_quote token ≡ false = another-token token (behind (end + 1) tokens) (λ others same. differs others (here.front ∙ same)) in
    record {
      further = omega (arith, front.further);
      before = front.before ++ token ∷ [];
      count = omega (arith, front.count, length-append front.before (token ∷ []));
      split = front.split ∙ ap (λ (ts : List Token). front.before ++ ts) here.front ∙ sym (append_assoc front.before (token ∷ []) (behind (end + 1) tokens));
      none = none-more front.before token front.none plain;
    }

append-nothing : (before : List Token) → before ++ [] ≡ before
append-nothing [] = refl
append-nothing (first ∷ before) = ap (λ (ts : List Token). first ∷ ts) (append-nothing before)

pub unquoted-all : (at end : ℕ) (tokens : List TokenHere) → IsUnquoted at end tokens → length tokens ≤ end → HasNoQuote (behind at tokens)
unquoted-all at end tokens front past =
    subst HasNoQuote (sym (front.split ∙ ap (λ (ts : List Token). front.before ++ ts) (nothing-at tokens end past) ∙ append-nothing front.before)) front.none

-- ---- quoted terms

no_quote-within : (before rest : List Token) → HasNoQuote (before ++ Mark Backquote ∷ rest) → ⊥
no_quote-within [] rest none = never none.0
no_quote-within (token ∷ before) rest none = no_quote-within before rest none.1

pub unclosed : (at : ℕ) (tokens : List TokenHere) → IsAt (Mark Backquote) at tokens → HasNoQuote (behind (at + 1) tokens) → (tree : TermTree) (rest : List Token) → IsQuotable tree
    → behind at tokens ≢ quote_tokens tree rest
unclosed at tokens begins none tree rest quotable same =
    let both : Mark Backquote ∷ behind (at + 1) tokens ≡ quoted (all_tokens (pieces tree [])) rest = sym begins.front ∙ same in
    let further : behind (at + 1) tokens ≡ all_tokens (pieces tree []) ++ Mark Backquote ∷ rest = cc in
    no_quote-within (all_tokens (pieces tree [])) rest (subst HasNoQuote further none)

take-mapped : (n : ℕ) (tokens : List TokenHere) → tokens_of (take n tokens) ≡ take n (tokens_of tokens)
take-mapped zero tokens = refl
take-mapped (suc n) [] = refl
take-mapped (suc n) (first ∷ tokens) = ap (λ (ts : List Token). token_of first ∷ ts) (take-mapped n tokens)

take-front : (before rest : List Token) → take (length before) (before ++ rest) ≡ before
take-front [] rest = refl
take-front (first ∷ before) rest = ap (λ (ts : List Token). first ∷ ts) (take-front before rest)

pub quote-read : (result : Result (Vec TermStep Global) ReadError) (at end : ℕ) (tokens : List TokenHere) → IsAt (Mark Backquote) at tokens → IsUnquoted (at + 1) end tokens
    → IsAt (Mark Backquote) end tokens
    → Parses result (tokens_of (take (end - (at + 1)) (drop (at + 1) tokens))) → Quotes result at (end + 1) tokens
quote-read result at end tokens begins front ends parsed = go result (subst (Parses result) inner parsed)
  where
    many : end - (at + 1) ≡ length front.before
    many = omega (arith, front.count)

    inner : tokens_of (take (end - (at + 1)) (drop (at + 1) tokens)) ≡ front.before
    inner = take-mapped (end - (at + 1)) (drop (at + 1) tokens) ∙ (λ i. take (many i) (front.split i)) ∙ take-front front.before (behind end tokens)

    whole : behind at tokens ≡ quoted front.before (behind (end + 1) tokens)
    whole = begins.front ∙ ap (λ (ts : List Token). Mark Backquote ∷ ts) (front.split ∙ ap (λ (ts : List Token). front.before ++ ts) ends.front)

    go : (answer : Result (Vec TermStep Global) ReadError) → Parses answer front.before → Quotes answer at (end + 1) tokens
    go (Ok steps) (tree, read, are) =
        let spelled : behind at tokens ≡ quote_tokens tree (behind (end + 1) tokens) = whole ∙ ap (λ (ts : List Token). quoted ts (behind (end + 1) tokens)) read.spelled in (
          record { further = omega (arith, front.further); within = omega (arith, ends.within) },
          record {
            tree = tree;
            quotable = (read.grammatical, read.depth);
            spelled = spelled;
            means = are;
            only = λ other left quotable same. sym (quoted_once (all_tokens (pieces tree [])) (all_tokens (pieces other [])) (behind (end + 1) tokens) left (quotable-no_quote tree
                (read.grammatical, read.depth))
                (quotable-no_quote other quotable) (sym spelled ∙ same)).rest;
          },
        )
    go (Err Memory) refused = tt
    go (Err Syntax) refused = λ tree rest quotable same.
        refused tree (record {
          grammatical = quotable.0;
          depth = quotable.1;
          spelled = (quoted_once front.before (all_tokens (pieces tree [])) (behind (end + 1) tokens) rest front.none (quotable-no_quote tree quotable) (sym whole ∙ same)).inner;
        })
