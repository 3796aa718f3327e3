-- What stands at the front of tokens, as a refiner without parts.
use Rattle.std.proofs.Common.{◌≡◌, ◌≢◌, ℕ, ◌+◌, ◌≤◌, arith, List, [], ◌∷◌, ◌++◌, map, refl, sym, ap, ◌∙◌, subst, Option, None, Some, Err, String, Global}
use Rattle.std.specs.Prelude.{codes}
use Rattle.std.specs.String.{string_bytes}
use Rattle.hol_model.specs.declared.symbol.Symbol.TheVariants.{OpenParenthesis, OpenBracket, CloseBracket, Semicolon}
use Rattle.hol_model.specs.Texts.Token.{Token, Name, Mark}
use Rattle.hol_model.specs.Texts.TermGrammar.{TermTree}
use Rattle.hol_model.specs.Refining.Conversions.{Conversion}
use Rattle.hol_model_sessions.specs.Commands.{quote_tokens}
use Rattle.hol_model_sessions.specs.ConversionGrammar.{unit_tokens}
use Rattle.hol_model_sessions.specs.TacticGrammar as grammar
use Rattle.hol_model_sessions.specs.TacticGrammar.{plain_word, named_word, quoted_word, TacticLeaf, further_name_tokens, name_tokens, leaf_tokens, TacticUnit, repeated, tried, enclosed, leaf}
use Rattle.hol_model_sessions.specs.TacticGrammar.{tactic_unit_tokens}
use Rattle.hol_syntax_grammar.specs.declared.token.Token.{Token as TokenHere}
use Rattle.hol_syntax_grammar.specs.declared.type_reader.ReadError.{ReadError}
use Rattle.hol_syntax_grammar.specs.declared.type_reader.ReadError.TheVariants.{Memory, Syntax}
use Rattle.hol_syntax_grammar.specs.TermSteps.{FlatStep}
use Rattle.hol_tactic_grammar.specs.declared.tactic_words.Plain.{Plain}
use Rattle.hol_tactic_grammar.specs.declared.tactic_words.Named.{Named}
use Rattle.hol_tactic_grammar.specs.declared.tactic_words.Quoted.{Quoted}
use Rattle.hol_tactic_grammar.specs.declared.tactic_words.Other.TheVariants.{Conv, Rewrite}
use Rattle.hol_tactic_grammar.specs.declared.tactic_words.Start.{Start}
use Rattle.hol_tactic_grammar.specs.declared.tactic_words.Start.TheVariants.{OfPrefix, OfPlain, OfNamed, OfQuoted, OfOther}
use Rattle.hol_tactic_grammar.specs.declared.tactics.Prefix.TheVariants.{Repeat, Try}
use Rattle.hol_tactic_grammar.specs.TacticWords.{plain_of, named_of, quoted_of, start_word, start_of_word}
use Rattle.hol_tactic_grammar.specs.Tokens.{behind, IsAt, ReadsName}
use Rattle.hol_tactic_grammar.specs.Conversions as conversions
use Rattle.hol_tactic_grammar.specs.Conversions.{Reaches}
use Rattle.hol_tactic_grammar.specs.Quotes.{steps_of_tree, IsQuote, ReadsQuote}
use Rattle.hol_tactic_grammar.specs.Expressions.{plain, by_name, by_quote, conv_tac, rewrite_tac, simple, simple_of_leaf}
use Rattle.hol_tactic_grammar.specs.Tactics.{Meaning, FitsUnit, IsUnit, IsNoUnit, AreNames, ReadsNames, ReadsUnit}
use Rattle.hol_tactic_grammar.proofs.TacticWordLemmas.{start_of_leaf, start_of_unit, start_at, unit-start, begins-with}

-- ---- units that begin with a word

-- no unit begins with another word
pub no-unit-word : (room : ℕ) (tokens inner : List Token) (word : List ℕ) → tokens ≡ Name word ∷ inner → start_of_word word ≡ None → IsNoUnit room tokens
no-unit-word room tokens inner word begins none = go
  where
    start : (unit : TacticUnit TermTree) (rest : List Token) → tokens ≡ tactic_unit_tokens unit rest → start_of_unit unit ≡ None
    start unit rest same = sym (unit-start unit rest) ∙ ap start_at (sym same ∙ begins) ∙ none

    go : IsNoUnit room tokens
    go (repeated operand) rest fits same = (let one = start (repeated operand) rest same in cc)
    go (tried operand) rest fits same = (let one = start (tried operand) rest same in cc)
    go (enclosed tactic) rest fits same = (let both : tactic_unit_tokens (enclosed tactic) rest ≡ Name word ∷ inner = sym same ∙ begins in cc)
    go (leaf tactic) rest fits same = (let one = start (leaf tactic) rest same in cc)

leaf-named : (tactic : TacticLeaf TermTree) (rest : List Token) (A : Type 0) → ((name : List ℕ) (others : List Token) → leaf_tokens tactic rest ≡ Name name ∷ others → A) → A
leaf-named (grammar.plain tactic) rest A named = named _ _ refl
leaf-named (grammar.by_name tactic name) rest A named = named _ _ refl
leaf-named (grammar.by_quote tactic tree) rest A named = named _ _ refl
leaf-named (grammar.conv_tac conversion) rest A named = named _ _ refl
leaf-named (grammar.rewrite_tac names) rest A named = named _ _ refl

-- no unit begins with neither a parenthesis nor a name
pub no-unit : (room : ℕ) (tokens : List Token) → ((rest : List Token) → tokens ≢ Mark OpenParenthesis ∷ rest) → ((name : List ℕ) (rest : List Token) → tokens ≢ Name name ∷ rest) → IsNoUnit room tokens
no-unit room tokens no_mark no_name = go
  where
    go : IsNoUnit room tokens
    go (repeated operand) rest fits same = no_name _ _ same
    go (tried operand) rest fits same = no_name _ _ same
    go (enclosed tactic) rest fits same = no_mark _ same
    go (leaf tactic) rest fits same = leaf-named tactic rest ⊥ (λ name others is. no_name name others (same ∙ is))

-- a word of a refiner without parts
abbrev pub IsOfLeaf : Start → Type 0
IsOfLeaf (OfPrefix prefix) = ⊥
IsOfLeaf start = Unit {0}

other-start : {A : Type 0} (start one : Start) → IsOfLeaf start → (IsOfLeaf one → A) → ◌≡◌ {A = Option Start} (Some one) (Some start) → A
other-start start one is_leaf never same = (let starts : start ≡ one = cc in never (subst IsOfLeaf starts is_leaf))

-- whatever leaf begins with the word
pub leaf-read : (start : Start) (tactic : TacticLeaf TermTree) (room : ℕ) (tokens inner rest : List Token) (meaning : Meaning) → tokens ≡ Name (start_word start) ∷ inner → IsOfLeaf start
    → FitsUnit room (leaf tactic)
    → tokens ≡ leaf_tokens tactic rest → meaning ≡ simple (simple_of_leaf steps_of_tree tactic)
    → ((other : TacticLeaf TermTree) (left : List Token) → start_of_leaf other ≡ start → FitsUnit room (leaf other) → tokens ≡ leaf_tokens other left → left ≡ rest) → IsUnit room tokens rest meaning
leaf-read start tactic room tokens inner rest meaning begins is_leaf fits spelled means leaves = record { tree = leaf tactic; fits = fits; spelled = spelled; means = means; only = only }
  where
    only : (other : TacticUnit TermTree) (left : List Token) → FitsUnit room other → tokens ≡ tactic_unit_tokens other left → left ≡ rest
    only (repeated operand) left small same = other-start start (OfPrefix Repeat) is_leaf (λ never. absurd never) (begins-with start tokens inner (repeated operand) left begins same)
    only (tried operand) left small same = other-start start (OfPrefix Try) is_leaf (λ never. absurd never) (begins-with start tokens inner (tried operand) left begins same)
    only (enclosed inner_tactic) left small same = (let one = begins-with start tokens inner (enclosed inner_tactic) left begins same in cc)
    only (leaf other) left small same =
        let one : ◌≡◌ {A = Option Start} (Some (start_of_leaf other)) (Some start) = begins-with start tokens inner (leaf other) left begins same in
        let kind : start_of_leaf other ≡ start = cc in
        leaves other left kind small same

pub leaf-none : (start : Start) (room : ℕ) (tokens inner : List Token) → tokens ≡ Name (start_word start) ∷ inner → IsOfLeaf start
    → ((other : TacticLeaf TermTree) (left : List Token) → start_of_leaf other ≡ start → FitsUnit room (leaf other) → tokens ≢ leaf_tokens other left) → IsNoUnit room tokens
leaf-none start room tokens inner begins is_leaf leaves = go
  where
    go : IsNoUnit room tokens
    go (repeated operand) left small same = other-start start (OfPrefix Repeat) is_leaf (λ never. never) (begins-with start tokens inner (repeated operand) left begins same)
    go (tried operand) left small same = other-start start (OfPrefix Try) is_leaf (λ never. never) (begins-with start tokens inner (tried operand) left begins same)
    go (enclosed inner_tactic) left small same = (let one = begins-with start tokens inner (enclosed inner_tactic) left begins same in cc)
    go (leaf other) left small same =
        let one : ◌≡◌ {A = Option Start} (Some (start_of_leaf other)) (Some start) = begins-with start tokens inner (leaf other) left begins same in
        let kind : start_of_leaf other ≡ start = cc in
        leaves other left kind small same

-- ---- by kind

pub plain-at : (tactic : Plain) (at room : ℕ) (tokens : List TokenHere) (meaning : Meaning) → IsAt (Name (plain_word (plain_of tactic))) at tokens → meaning ≡ simple (plain (plain_of tactic))
    → Reaches at (at + 1) tokens × IsUnit room (behind at tokens) (behind (at + 1) tokens) meaning
plain-at tactic at room tokens meaning front means = (
  record { further = omega arith; within = omega (arith, front.within) },
  leaf-read (OfPlain tactic) (grammar.plain (plain_of tactic)) room (behind at tokens) (behind (at + 1) tokens) (behind (at + 1) tokens) meaning front.front tt
      (record { nested = omega arith; quotable = tt }) front.front means leaves,
)
  where
    leaves : (other : TacticLeaf TermTree) (left : List Token) → start_of_leaf other ≡ OfPlain tactic → FitsUnit room (leaf other) → behind at tokens ≡ leaf_tokens other left
        → left ≡ behind (at + 1) tokens
    leaves (grammar.plain other) left kind small same = (let both : Name (plain_word (plain_of tactic)) ∷ behind (at + 1) tokens ≡ Name (plain_word other) ∷ left = sym front.front ∙ same in cc)
    leaves (grammar.by_name other name) left kind small same = cc
    leaves (grammar.by_quote other tree) left kind small same = cc
    leaves (grammar.conv_tac conversion) left kind small same = cc
    leaves (grammar.rewrite_tac names) left kind small same = cc

pub named-at : (tactic : Named) (name : List ℕ) (at room : ℕ) (tokens : List TokenHere) (meaning : Meaning) → IsAt (Name (named_word (named_of tactic))) at tokens → IsAt (Name name) (at + 1) tokens
    → meaning ≡ simple (by_name (named_of tactic) name) → Reaches at (at + 2) tokens × IsUnit room (behind at tokens) (behind (at + 2) tokens) meaning
named-at tactic name at room tokens meaning front second means = (
  record { further = omega arith; within = omega (arith, second.within) },
  leaf-read (OfNamed tactic) (grammar.by_name (named_of tactic) name) room (behind at tokens) (behind (at + 1) tokens) (behind (at + 2) tokens) meaning front.front tt
      (record { nested = omega arith; quotable = tt }) spelled means leaves,
)
  where
    two : at + 1 + 1 ≡ at + 2
    two = omega arith

    spelled : behind at tokens ≡ Name (named_word (named_of tactic)) ∷ Name name ∷ behind (at + 2) tokens
    spelled = front.front ∙ ap (λ (ts : List Token). Name (named_word (named_of tactic)) ∷ ts) (second.front ∙ ap (λ (n : ℕ). Name name ∷ behind n tokens) two)

    leaves : (other : TacticLeaf TermTree) (left : List Token) → start_of_leaf other ≡ OfNamed tactic → FitsUnit room (leaf other) → behind at tokens ≡ leaf_tokens other left
        → left ≡ behind (at + 2) tokens
    leaves (grammar.plain other) left kind small same = cc
    leaves (grammar.by_name other another) left kind small same =
        (let both : Name (named_word (named_of tactic)) ∷ Name name ∷ behind (at + 2) tokens ≡ Name (named_word other) ∷ Name another ∷ left = sym spelled ∙ same in cc)
    leaves (grammar.by_quote other tree) left kind small same = cc
    leaves (grammar.conv_tac conversion) left kind small same = cc
    leaves (grammar.rewrite_tac names) left kind small same = cc

pub unnamed-at : (tactic : Named) (error : ReadError) (at room : ℕ) (tokens : List TokenHere) → IsAt (Name (named_word (named_of tactic))) at tokens → ReadsName (Err error) (at + 1) tokens
    → ReadsUnit (Err error) at room tokens
unnamed-at tactic Memory at room tokens front refused = tt
unnamed-at tactic Syntax at room tokens front refused = leaf-none (OfNamed tactic) room (behind at tokens) (behind (at + 1) tokens) front.front tt leaves
  where
    leaves : (other : TacticLeaf TermTree) (left : List Token) → start_of_leaf other ≡ OfNamed tactic → FitsUnit room (leaf other) → behind at tokens ≢ leaf_tokens other left
    leaves (grammar.plain other) left kind small same = cc
    leaves (grammar.by_name other another) left kind small same =
        let both : Name (named_word (named_of tactic)) ∷ behind (at + 1) tokens ≡ Name (named_word other) ∷ Name another ∷ left = sym front.front ∙ same in
        let further : behind (at + 1) tokens ≡ Name another ∷ left = cc in
        refused another left further
    leaves (grammar.by_quote other tree) left kind small same = cc
    leaves (grammar.conv_tac conversion) left kind small same = cc
    leaves (grammar.rewrite_tac names) left kind small same = cc

pub quoted-at : (tactic : Quoted) (steps : List FlatStep) (at next room : ℕ) (tokens : List TokenHere) (meaning : Meaning) → IsAt (Name (quoted_word (quoted_of tactic))) at tokens
    → Reaches (at + 1) next tokens
    → IsQuote (behind (at + 1) tokens) (behind next tokens) steps → meaning ≡ simple (by_quote (quoted_of tactic) steps) → Reaches at next tokens × IsUnit room (behind at tokens) (behind
    next tokens) meaning
quoted-at tactic steps at next room tokens meaning front reaches read means = (
  record { further = omega (arith, reaches.further); within = reaches.within },
  leaf-read (OfQuoted tactic) (grammar.by_quote (quoted_of tactic) read.tree) room (behind at tokens) (behind (at + 1) tokens) (behind next tokens) meaning front.front tt
      (record { nested = omega arith; quotable = read.quotable })
      (front.front ∙ ap (λ (ts : List Token). Name (quoted_word (quoted_of tactic)) ∷ ts) read.spelled) (means ∙ ap (λ (s : List FlatStep). simple (by_quote (quoted_of tactic) s)) read.means) leaves,
)
  where
    leaves : (other : TacticLeaf TermTree) (left : List Token) → start_of_leaf other ≡ OfQuoted tactic → FitsUnit room (leaf other) → behind at tokens ≡ leaf_tokens other left
        → left ≡ behind next tokens
    leaves (grammar.plain other) left kind small same = cc
    leaves (grammar.by_name other another) left kind small same = cc
    leaves (grammar.by_quote other tree) left kind small same =
        let both : Name (quoted_word (quoted_of tactic)) ∷ behind (at + 1) tokens ≡ Name (quoted_word other) ∷ quote_tokens tree left = sym front.front ∙ same in
        let further : behind (at + 1) tokens ≡ quote_tokens tree left = cc in
        read.only tree left small.quotable further
    leaves (grammar.conv_tac conversion) left kind small same = cc
    leaves (grammar.rewrite_tac names) left kind small same = cc

pub unquoted-at : (tactic : Quoted) (error : ReadError) (at room : ℕ) (tokens : List TokenHere) → IsAt (Name (quoted_word (quoted_of tactic))) at tokens
    → ReadsQuote (Err error) (at + 1) tokens → ReadsUnit (Err error) at room tokens
unquoted-at tactic Memory at room tokens front refused = tt
unquoted-at tactic Syntax at room tokens front refused = leaf-none (OfQuoted tactic) room (behind at tokens) (behind (at + 1) tokens) front.front tt leaves
  where
    leaves : (other : TacticLeaf TermTree) (left : List Token) → start_of_leaf other ≡ OfQuoted tactic → FitsUnit room (leaf other) → behind at tokens ≢ leaf_tokens other left
    leaves (grammar.plain other) left kind small same = cc
    leaves (grammar.by_name other another) left kind small same = cc
    leaves (grammar.by_quote other tree) left kind small same =
        let both : Name (quoted_word (quoted_of tactic)) ∷ behind (at + 1) tokens ≡ Name (quoted_word other) ∷ quote_tokens tree left = sym front.front ∙ same in
        let further : behind (at + 1) tokens ≡ quote_tokens tree left = cc in
        refused tree left small.quotable further
    leaves (grammar.conv_tac conversion) left kind small same = cc
    leaves (grammar.rewrite_tac names) left kind small same = cc

pub conv-at : (meant : Conversion) (at next room : ℕ) (tokens : List TokenHere) → IsAt (Name (codes "CONV_TAC")) at tokens → Reaches (at + 1) next tokens
    → conversions.IsUnit room (behind (at + 1) tokens) (behind next tokens) meant → Reaches at next tokens × IsUnit room (behind at tokens) (behind next tokens) (simple (conv_tac meant))
conv-at meant at next room tokens front reaches read = (
  record { further = omega (arith, reaches.further); within = reaches.within },
  leaf-read (OfOther Conv) (grammar.conv_tac read.tree) room (behind at tokens) (behind (at + 1) tokens) (behind next tokens) (simple (conv_tac meant)) front.front tt
      (record { nested = read.nested; quotable = tt })
      (front.front ∙ ap (λ (ts : List Token). Name (codes "CONV_TAC") ∷ ts) read.spelled) (ap (λ (m : Conversion). simple (conv_tac m)) read.means) leaves,
)
  where
    leaves : (other : TacticLeaf TermTree) (left : List Token) → start_of_leaf other ≡ OfOther Conv → FitsUnit room (leaf other) → behind at tokens ≡ leaf_tokens other left → left ≡ behind next tokens
    leaves (grammar.plain other) left kind small same = cc
    leaves (grammar.by_name other another) left kind small same = cc
    leaves (grammar.by_quote other tree) left kind small same = cc
    leaves (grammar.conv_tac conversion) left kind small same =
        let both : Name (codes "CONV_TAC") ∷ behind (at + 1) tokens ≡ Name (codes "CONV_TAC") ∷ unit_tokens conversion left = sym front.front ∙ same in
        let further : behind (at + 1) tokens ≡ unit_tokens conversion left = cc in
        read.only conversion left small.nested further
    leaves (grammar.rewrite_tac names) left kind small same = cc

pub unconverted-at : (error : ReadError) (at room : ℕ) (tokens : List TokenHere) → IsAt (Name (codes "CONV_TAC")) at tokens → conversions.ReadsUnit (Err error) (at + 1) room tokens
    → ReadsUnit (Err error) at room tokens
unconverted-at Memory at room tokens front refused = tt
unconverted-at Syntax at room tokens front refused = leaf-none (OfOther Conv) room (behind at tokens) (behind (at + 1) tokens) front.front tt leaves
  where
    leaves : (other : TacticLeaf TermTree) (left : List Token) → start_of_leaf other ≡ OfOther Conv → FitsUnit room (leaf other) → behind at tokens ≢ leaf_tokens other left
    leaves (grammar.plain other) left kind small same = cc
    leaves (grammar.by_name other another) left kind small same = cc
    leaves (grammar.by_quote other tree) left kind small same = cc
    leaves (grammar.conv_tac conversion) left kind small same =
        let both : Name (codes "CONV_TAC") ∷ behind (at + 1) tokens ≡ Name (codes "CONV_TAC") ∷ unit_tokens conversion left = sym front.front ∙ same in
        let further : behind (at + 1) tokens ≡ unit_tokens conversion left = cc in
        refused conversion left small.nested further
    leaves (grammar.rewrite_tac names) left kind small same = cc

-- ---- names in brackets

-- whatever names follow complete the list, and whatever list the tokens are goes on with names
pub record IsNamesFront (tokens left : List Token) (taken : List (List ℕ)) : Type 0 where
  completes : (names : List (List ℕ)) (rest : List Token) → left ≡ further_name_tokens names rest → tokens ≡ Mark OpenBracket ∷ name_tokens (taken ++ names) rest
  goes : (names : List (List ℕ)) (rest : List Token) → tokens ≡ Mark OpenBracket ∷ name_tokens names rest → (others : List (List ℕ)) × (left ≡ further_name_tokens others rest)

pub names-begun : (tokens inner left : List Token) (name : List ℕ) → tokens ≡ Mark OpenBracket ∷ inner → inner ≡ Name name ∷ left → IsNamesFront tokens left (name ∷ [])
names-begun tokens inner left name begins first = record {
  completes = λ names rest same. begins ∙ ap (λ (ts : List Token). Mark OpenBracket ∷ ts) (first ∙ ap (λ (ts : List Token). Name name ∷ ts) same);
  goes = goes;
}
  where
    goes : (names : List (List ℕ)) (rest : List Token) → tokens ≡ Mark OpenBracket ∷ name_tokens names rest → (others : List (List ℕ)) × (left ≡ further_name_tokens others rest)
    goes [] rest same = (let both : Mark OpenBracket ∷ Name name ∷ left ≡ Mark OpenBracket ∷ Mark CloseBracket ∷ rest = sym (begins ∙ ap (λ (ts : List Token). Mark OpenBracket ∷ ts)
        first) ∙ same in cc)
    goes (other ∷ others) rest same =
        let both : Mark OpenBracket ∷ Name name ∷ left ≡ Mark OpenBracket ∷ Name other ∷ further_name_tokens others rest = sym (begins ∙ ap (λ (ts : List Token). Mark OpenBracket ∷ ts)
        first) ∙ same in
        let further : left ≡ further_name_tokens others rest = cc in
        (others, further)

appended : (taken : List (List ℕ)) (name : List ℕ) (others : List (List ℕ)) → (taken ++ name ∷ []) ++ others ≡ taken ++ name ∷ others
appended [] name others = refl
appended (first ∷ taken) name others = ap (λ (ns : List (List ℕ)). first ∷ ns) (appended taken name others)

pub names-taken : (tokens left inner behind : List Token) (taken more : List (List ℕ)) (name : List ℕ) → more ≡ taken ++ name ∷ [] → IsNamesFront tokens left taken
    → left ≡ Mark Semicolon ∷ inner → inner ≡ Name name ∷ behind
    → IsNamesFront tokens behind more
names-taken tokens left inner behind taken more name added front begins first = record {
  completes = λ names rest same. front.completes (name ∷ names) rest (whole ∙ ap (λ (ts : List Token). Mark Semicolon ∷ Name name ∷ ts) same)
      ∙ ap (λ (ns : List (List ℕ)). Mark OpenBracket ∷ name_tokens ns rest) (sym (ap (λ (ns : List (List ℕ)). ns ++ names) added ∙ appended taken name names));
  goes = λ names rest same. (let known = front.goes names rest same in go known.0 rest known.1);
}
  where
    whole : left ≡ Mark Semicolon ∷ Name name ∷ behind
    whole = begins ∙ ap (λ (ts : List Token). Mark Semicolon ∷ ts) first

    go : (names : List (List ℕ)) (rest : List Token) → left ≡ further_name_tokens names rest → (others : List (List ℕ)) × (behind ≡ further_name_tokens others rest)
    go [] rest is = (let both : Mark Semicolon ∷ Name name ∷ behind ≡ Mark CloseBracket ∷ rest = sym whole ∙ is in cc)
    go (other ∷ others) rest is =
        let both : Mark Semicolon ∷ Name name ∷ behind ≡ Mark Semicolon ∷ Name other ∷ further_name_tokens others rest = sym whole ∙ is in
        let further : behind ≡ further_name_tokens others rest = cc in
        (others, further)

append-nothing : (names : List (List ℕ)) → names ++ [] ≡ names
append-nothing [] = refl
append-nothing (first ∷ names) = ap (λ (ns : List (List ℕ)). first ∷ ns) (append-nothing names)

pub names-ended : (tokens left rest : List Token) (taken : List (List ℕ)) → IsNamesFront tokens left taken → left ≡ Mark CloseBracket ∷ rest → AreNames tokens rest taken
names-ended tokens left rest taken front ends = record {
  spelled = front.completes [] rest ends ∙ ap (λ (ns : List (List ℕ)). Mark OpenBracket ∷ name_tokens ns rest) (append-nothing taken);
  only = λ others behind same. (let known = front.goes others behind same in go known.0 behind known.1);
}
  where
    go : (names : List (List ℕ)) (behind : List Token) → left ≡ further_name_tokens names behind → behind ≡ rest
    go [] behind is = (let both : ◌≡◌ {A = List Token} (Mark CloseBracket ∷ rest) (Mark CloseBracket ∷ behind) = sym ends ∙ is in cc)
    go (other ∷ others) behind is = (let both : Mark CloseBracket ∷ rest ≡ Mark Semicolon ∷ Name other ∷ further_name_tokens others behind = sym ends ∙ is in cc)

-- what keeps the list from going on
pub names-stopped : (tokens left : List Token) (taken : List (List ℕ)) → IsNamesFront tokens left taken → ((rest : List Token) → left ≢ Mark CloseBracket ∷ rest)
    → ((name : List ℕ) (rest : List Token) → left ≢ Mark Semicolon ∷ Name name ∷ rest) → (names : List (List ℕ)) (rest : List Token) → tokens ≢ Mark OpenBracket ∷ name_tokens names rest
names-stopped tokens left taken front no_end no_more names rest same = (let known = front.goes names rest same in go known.0 known.1)
  where
    go : (others : List (List ℕ)) → left ≡ further_name_tokens others rest → ⊥
    go [] is = no_end rest is
    go (other ∷ others) is = no_more other (further_name_tokens others rest) is

behind-name : (name : List ℕ) (at : ℕ) (tokens : List TokenHere) → IsAt (Name name) (at + 1) tokens → behind (at + 1) tokens ≡ Name name ∷ behind (at + 2) tokens
behind-name name at tokens is =
    let two : at + 1 + 1 ≡ at + 2 = omega arith in
    is.front ∙ ap (λ (n : ℕ). Name name ∷ behind n tokens) two

mapped : (taken : List (String Global)) (name : String Global) → map string_bytes (taken ++ name ∷ []) ≡ map string_bytes taken ++ string_bytes name ∷ []
mapped [] name = refl
mapped (first ∷ taken) name = ap (λ (ns : List (List ℕ)). string_bytes first ∷ ns) (mapped taken name)

pub names-begin-at : (at : ℕ) (tokens : List TokenHere) (none taken : List (String Global)) (name : String Global) → none ≡ [] → taken ≡ none ++ name ∷ [] → IsAt (Mark OpenBracket) at tokens
    → IsAt (Name (string_bytes name)) (at + 1) tokens → Reaches at (at + 2) tokens × IsNamesFront (behind at tokens) (behind (at + 2) tokens) (map string_bytes taken)
names-begin-at at tokens none taken name empty added begins first = (
  record { further = omega arith; within = omega (arith, first.within) },
  subst (λ (ns : List (String Global)). IsNamesFront (behind at tokens) (behind (at + 2) tokens) (map string_bytes ns)) (sym (added ∙ ap (λ (ns : List (String Global)). ns ++ name ∷ []) empty))
      (names-begun (behind at tokens) (behind (at + 1) tokens) (behind (at + 2) tokens) (string_bytes name) begins.front (behind-name (string_bytes name) at tokens first)),
)

pub names-go-on-at : (at next : ℕ) (tokens : List TokenHere) (taken further : List (String Global)) (name : String Global) → further ≡ taken ++ name ∷ [] → Reaches at next tokens
    → IsNamesFront (behind at tokens) (behind next tokens) (map string_bytes taken) → IsAt (Mark Semicolon) next tokens → IsAt (Name (string_bytes name)) (next + 1) tokens
    → Reaches at (next + 2) tokens × IsNamesFront (behind at tokens) (behind (next + 2) tokens) (map string_bytes further)
names-go-on-at at next tokens taken further name added reaches front begins first = (
  record { further = omega (arith, reaches.further); within = omega (arith, first.within) },
  names-taken (behind at tokens) (behind next tokens) (behind (next + 1) tokens) (behind (next + 2) tokens) (map string_bytes taken) (map string_bytes further) (string_bytes name) (ap
      (map string_bytes) added ∙ mapped taken name) front
      begins.front (behind-name (string_bytes name) next tokens first),
)

pub names-broken-at : (error : ReadError) (at next : ℕ) (tokens : List TokenHere) (taken : List (List ℕ)) → IsNamesFront (behind at tokens) (behind next tokens) taken
    → IsAt (Mark Semicolon) next tokens
    → ReadsName (Err error) (next + 1) tokens → ReadsNames (Err error) at tokens
names-broken-at Memory at next tokens taken front is refused = tt
names-broken-at Syntax at next tokens taken front is refused = names-stopped (behind at tokens) (behind next tokens) taken front
    (λ rest same. (let both : Mark Semicolon ∷ behind (next + 1) tokens ≡ Mark CloseBracket ∷ rest = sym is.front ∙ same in cc))
    (λ name rest same.
    (let both : Mark Semicolon ∷ behind (next + 1) tokens ≡ Mark Semicolon ∷ Name name ∷ rest = sym is.front ∙ same in
    let further : behind (next + 1) tokens ≡ Name name ∷ rest = cc in
    refused name rest further))

-- ---- REWRITE_TAC

pub rewrite-at : (names : List (List ℕ)) (at next room : ℕ) (tokens : List TokenHere) → 1 ≤ room → IsAt (Name (codes "REWRITE_TAC")) at tokens → Reaches (at + 1) next tokens
    → AreNames (behind (at + 1) tokens) (behind next tokens) names
    → Reaches at next tokens × IsUnit room (behind at tokens) (behind next tokens) (simple (rewrite_tac names))
rewrite-at names at next room tokens some front reaches read = (
  record { further = omega (arith, reaches.further); within = reaches.within },
  leaf-read (OfOther Rewrite) (grammar.rewrite_tac names) room (behind at tokens) (behind (at + 1) tokens) (behind next tokens) (simple (rewrite_tac names)) front.front tt
      (record { nested = some; quotable = tt })
      (front.front ∙ ap (λ (ts : List Token). Name (codes "REWRITE_TAC") ∷ ts) read.spelled) refl leaves,
)
  where
    leaves : (other : TacticLeaf TermTree) (left : List Token) → start_of_leaf other ≡ OfOther Rewrite → FitsUnit room (leaf other) → behind at tokens ≡ leaf_tokens other left
        → left ≡ behind next tokens
    leaves (grammar.plain other) left kind small same = cc
    leaves (grammar.by_name other another) left kind small same = cc
    leaves (grammar.by_quote other tree) left kind small same = cc
    leaves (grammar.conv_tac conversion) left kind small same = cc
    leaves (grammar.rewrite_tac others) left kind small same =
        let both : Name (codes "REWRITE_TAC") ∷ behind (at + 1) tokens ≡ Name (codes "REWRITE_TAC") ∷ Mark OpenBracket ∷ name_tokens others left = sym front.front ∙ same in
        let further : behind (at + 1) tokens ≡ Mark OpenBracket ∷ name_tokens others left = cc in
        read.only others left further

-- whatever keeps names from standing behind it
pub rewrite-none : (at room : ℕ) (tokens : List TokenHere) → IsAt (Name (codes "REWRITE_TAC")) at tokens
    → ((names : List (List ℕ)) (rest : List Token) → 1 ≤ room → behind (at + 1) tokens ≢ Mark OpenBracket ∷ name_tokens names rest) → IsNoUnit room (behind at tokens)
rewrite-none at room tokens front none = leaf-none (OfOther Rewrite) room (behind at tokens) (behind (at + 1) tokens) front.front tt leaves
  where
    leaves : (other : TacticLeaf TermTree) (left : List Token) → start_of_leaf other ≡ OfOther Rewrite → FitsUnit room (leaf other) → behind at tokens ≢ leaf_tokens other left
    leaves (grammar.plain other) left kind small same = cc
    leaves (grammar.by_name other another) left kind small same = cc
    leaves (grammar.by_quote other tree) left kind small same = cc
    leaves (grammar.conv_tac conversion) left kind small same = cc
    leaves (grammar.rewrite_tac others) left kind small same =
        let both : Name (codes "REWRITE_TAC") ∷ behind (at + 1) tokens ≡ Name (codes "REWRITE_TAC") ∷ Mark OpenBracket ∷ name_tokens others left = sym front.front ∙ same in
        let further : behind (at + 1) tokens ≡ Mark OpenBracket ∷ name_tokens others left = cc in
        none others left small.nested further

pub unrewritten-at : (error : ReadError) (at room : ℕ) (tokens : List TokenHere) → IsAt (Name (codes "REWRITE_TAC")) at tokens → ReadsNames (Err error) (at + 1) tokens
    → ReadsUnit (Err error) at room tokens
unrewritten-at Memory at room tokens front refused = tt
unrewritten-at Syntax at room tokens front refused = rewrite-none at room tokens front (λ names rest some. refused names rest)
