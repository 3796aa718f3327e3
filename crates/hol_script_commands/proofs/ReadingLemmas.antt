-- Names among tokens, where quoted terms end, and which words name rules.
use Rattle.std.proofs.Common.{◌≡◌, ◌≢◌, ℕ, zero, suc, ◌+◌, ◌-◌, ◌<◌, ◌≤◌, arith, List, [], ◌∷◌, ◌++◌, length, get_or, take, drop, ◌==◌, eqb-true}
use Rattle.std.proofs.Common.{rules, Bool, true, false, ◌||◌, refl, sym, ◌∙◌, ap, subst, Option, None, Some, Result, Ok, Err, Bor, Vec, Global, map}
use Rattle.std.specs.Prelude.{codes, IsFalse, IsTrue, MatchOption}
use Rattle.std.proofs.lemmas.List.{take_all, length-drop, append_assoc}
use borrow.Author.Count.{below_more}
use Rattle.hol_model.specs.Terms.Name.{is_capital, is_small, continues_name, all_continue, is_identifier}
use Rattle.hol_model.specs.declared.symbol.Symbol.{Symbol}
use Rattle.hol_model.specs.declared.symbol.Symbol.TheVariants.{Backquote}
use Rattle.hol_model_rules.specs.RuleForms.{form_of, IsRuleOf}
use Rattle.hol_model_rules.proofs.Words.{found-word}
use Rattle.hol_model_rules.specs.declared.rule_name.RuleName.{RuleName}
use Rattle.hol_model.specs.Texts.Token.{Token, Name, Number, Mark}
use Rattle.hol_model.specs.Texts.Lexing.{Lexes, IsToken, IsIdentifier, Every, is_name_byte}
use Rattle.hol_model.specs.Texts.TypeGrammar.{TypeTree, Named, Enclosed, Function, type_tokens}
use Rattle.hol_model.specs.Texts.TermGrammar.{Bare, Variable, Constant, TermTree, Leaf, Apply, Not, Join, Bind, IsConstantName, IsTermTree, Infix}
use Rattle.hol_model.specs.Texts.TermGrammar.{Binder, Lambda, ForAll, Exists, Choice, Lexeme, InfixPiece, BinderPiece, pieces, all_tokens, IsReadTerm}
use Rattle.hol_model.specs.Texts.TermGrammar.{Enclosed as EnclosedTerm}
use Rattle.hol_model_sessions.specs.Commands.{RuleTree, by_name, by_inst, by_inst_type, rule_word, quoted, quote_tokens, quotes_tokens, argument_tokens, IsQuotable}
use Rattle.hol_model_sessions.specs.Commands.{AreQuotable, IsRuleTree}
use Rattle.hol_model.proofs.Tests.{both}
use Rattle.hol_syntax_grammar.specs.declared.token.Token.{Token as TokenHere}
use Rattle.hol_syntax_grammar.specs.declared.token.Token.TheVariants.{Name as NameHere}
use Rattle.hol_syntax_grammar.specs.Views.{token_of, tokens_of}
use Rattle.hol_syntax_grammar.specs.declared.type_reader.ReadError.{ReadError}
use Rattle.hol_syntax_grammar.specs.declared.type_reader.ReadError.TheVariants.{Memory, Syntax}
use Rattle.hol_syntax_grammar.specs.TermStates.{Parses}
use Rattle.hol_syntax_grammar.specs.declared.steps.TermStep.{TermStep}
use Rattle.hol_tactic_grammar.specs.Tokens.{AreTokens}
use Rattle.hol_script_commands.specs.Reading.{is_quote, HasNoQuote, IsNameOf, TakesOnlyNames}
use Rattle.hol_script_commands.specs.Reading.{ParsesQuote, TakesQuotes, ParsesOnlyQuote, ParsesArguments, ParsesRule}
use Rattle.hol_script_commands.specs.Views.{IsTerm}
use Rattle.hol_script_commands.specs.declared.command.Rule.{Rule}

-- ---- tokens

pub tokens-lexed : (text : List ℕ) (tokens : List Token) → Lexes text tokens → AreTokens tokens
tokens-lexed text [] lexed = tt
tokens-lexed text (token ∷ tokens) (gap, behind, rest, blank, whole, begins, further) = (begins.valid, tokens-lexed rest tokens further)

-- ---- names

every-continues : (bytes : List ℕ) → Every is_name_byte bytes → all_continue bytes ≡ true
every-continues [] every = refl
every-continues (b ∷ bytes) every = both (continues_name b) (all_continue bytes) every.0 (every-continues bytes every.1)

pub identifier-test : (bytes : List ℕ) → IsIdentifier bytes → is_identifier bytes ≡ true
identifier-test [] identifier = absurd identifier
identifier-test (b ∷ bytes) identifier = both (is_capital b || is_small b) (all_continue bytes) identifier.0 (every-continues bytes identifier.1)

-- the bytes of a name are one
pub name-read : (result : Option (Bor (List ℕ))) (token : TokenHere) (bytes : Bor (List ℕ)) → token ≡ NameHere bytes → IsToken (token_of token)
    → MatchOption result (IsFalse (is_identifier bytes.now)) (λ name. (name.now ≡ bytes.now) × IsTrue (is_identifier bytes.now)) → IsNameOf result (token_of token)
name-read (Some name) token bytes is valid (same, passed) = ap token_of is ∙ ap Name (sym same)
name-read None token bytes is valid refused =
    let passed : is_identifier bytes.now ≡ true = identifier-test bytes.now (subst (λ (x : TokenHere). IsToken (token_of x)) is valid) in
    let both : true ≡ false = sym passed ∙ refused in
    λ name same. cc

-- ---- quotes

pub type-no_quote : (tree : TypeTree) (rest : List Token) → HasNoQuote rest → HasNoQuote (type_tokens tree rest)
type-no_quote (Named name) rest none = (refl, none)
type-no_quote (Enclosed tree) rest none = (refl, type-no_quote tree _ (refl, none))
type-no_quote (Function a b) rest none = type-no_quote a _ (refl, type-no_quote b rest none)

constant-no_quote : (token : Token) → IsConstantName token → is_quote token ≡ false
constant-no_quote (Name name) named = refl
constant-no_quote (Number digits) named = refl
constant-no_quote (Mark Backquote) named = absurd named
constant-no_quote (Mark symbol) named = refl

infix-no_quote : (operation : Infix) (rest : List Lexeme) → HasNoQuote (all_tokens rest) → HasNoQuote (all_tokens (InfixPiece operation ∷ rest))
infix-no_quote operation rest none = search (rules, none)

binder-no_quote : (binder : Binder) (name : List ℕ) (tree : TypeTree) (rest : List Lexeme) → HasNoQuote (all_tokens rest) → HasNoQuote (all_tokens (BinderPiece binder name tree ∷ rest))
binder-no_quote Lambda name tree rest none = (refl, (refl, (refl, type-no_quote tree _ (refl, none))))
binder-no_quote ForAll name tree rest none = (refl, (refl, (refl, type-no_quote tree _ (refl, none))))
binder-no_quote Exists name tree rest none = (refl, (refl, (refl, type-no_quote tree _ (refl, none))))
binder-no_quote Choice name tree rest none = (refl, (refl, (refl, type-no_quote tree _ (refl, none))))

term-no_quote : (tree : TermTree) (rest : List Lexeme) → IsTermTree tree → HasNoQuote (all_tokens rest) → HasNoQuote (all_tokens (pieces tree rest))
term-no_quote (Leaf (Bare name)) rest grammatical none = (refl, none)
term-no_quote (Leaf (Variable name type)) rest grammatical none = (refl, (refl, (refl, type-no_quote type _ (refl, none))))
term-no_quote (Leaf (Constant name type)) rest grammatical none = (refl, (constant-no_quote name grammatical.0, (refl, type-no_quote type _ (refl, none))))
term-no_quote (EnclosedTerm tree) rest grammatical none = (refl, term-no_quote tree _ grammatical (refl, none))
term-no_quote (Apply f a) rest grammatical none = term-no_quote f _ grammatical.0 (term-no_quote a rest grammatical.1 none)
term-no_quote (Not tree) rest grammatical none = (refl, term-no_quote tree rest grammatical.0 none)
term-no_quote (Join operation a b) rest grammatical none =
    term-no_quote a _ grammatical.0 (infix-no_quote operation (pieces b rest) (term-no_quote b rest grammatical.1 none))
term-no_quote (Bind binder name type tree) rest grammatical none =
    binder-no_quote binder name type (pieces tree rest) (term-no_quote tree rest grammatical.1 none)

-- what stands before the first backquote, and behind it, is determined
pub record SamePieces (a b r s : List Token) : Type 0 where
  pub inner : a ≡ b
  pub rest : r ≡ s

pub never : {A : Type 0} → true ≡ false → A
never same = cc

split_once : (a b r s : List Token) → HasNoQuote a → HasNoQuote b → a ++ Mark Backquote ∷ r ≡ b ++ Mark Backquote ∷ s → SamePieces a b r s
split_once [] [] r s none_a none_b same = record { inner = refl; rest = cc }
split_once [] (y ∷ b) r s none_a none_b same =
    let first : Mark Backquote ≡ y = cc in
    never (ap is_quote first ∙ none_b.0)
split_once (x ∷ a) [] r s none_a none_b same =
    let first : Mark Backquote ≡ x = cc in
    never (ap is_quote first ∙ none_a.0)
split_once (x ∷ a) (y ∷ b) r s none_a none_b same =
    let first : x ≡ y = cc in
    let further : a ++ Mark Backquote ∷ r ≡ b ++ Mark Backquote ∷ s = cc in
    let deeper : SamePieces a b r s = split_once a b r s none_a.1 none_b.1 further in
    record { inner = λ i. first i ∷ deeper.inner i; rest = deeper.rest }

pub quoted_once : (a b r s : List Token) → HasNoQuote a → HasNoQuote b → quoted a r ≡ quoted b s → SamePieces a b r s
quoted_once a b r s none_a none_b same = split_once a b r s none_a none_b (let further : a ++ Mark Backquote ∷ r ≡ b ++ Mark Backquote ∷ s = cc in further)

pub quotable-no_quote : (tree : TermTree) → IsQuotable tree → HasNoQuote (all_tokens (pieces tree []))
quotable-no_quote tree quotable = term-no_quote tree [] quotable.0 tt

-- two quoted terms with what follows them
pub same_rest : (tokens r s : List Token) (a b : TermTree) → IsQuotable a → IsQuotable b → tokens ≡ quote_tokens a r → tokens ≡ quote_tokens b s → r ≡ s
same_rest tokens r s a b quotable_a quotable_b first second =
    (quoted_once (all_tokens (pieces a [])) (all_tokens (pieces b [])) r s (quotable-no_quote a quotable_a) (quotable-no_quote b quotable_b) (sym first ∙ second)).rest

pub quote_refused : (tokens inner rest : List Token) → tokens ≡ quoted inner rest → HasNoQuote inner → ((tree : TermTree) → ¬ (IsReadTerm inner tree))
    → (tree : TermTree) (other : List Token) → IsQuotable tree → tokens ≢ quote_tokens tree other
quote_refused tokens inner rest whole none refused tree other quotable same =
    refused tree (record {
      grammatical = quotable.0;
      depth = quotable.1;
      spelled = (quoted_once inner (all_tokens (pieces tree [])) rest other none (quotable-no_quote tree quotable) (sym whole ∙ same)).inner;
    })

-- a backquote stands at a place
abbrev pub is_quote_at : List TokenHere → ℕ → Bool
is_quote_at [] at = false
is_quote_at (token ∷ tokens) zero = is_quote (token_of token)
is_quote_at (token ∷ tokens) (suc at) = is_quote_at tokens at

pub is_quote_at-token : (tokens : List TokenHere) (at : ℕ) (default : TokenHere) → at < length tokens → is_quote_at tokens at ≡ is_quote (token_of (get_or tokens at default))
is_quote_at-token [] at default within = absurd (omega arith)
is_quote_at-token (first ∷ tokens) zero default within = refl
is_quote_at-token (first ∷ tokens) (suc at) default within = is_quote_at-token tokens at default (omega (arith, within))

no_quote-before : (tokens : List TokenHere) (at : ℕ) → ((before : ℕ) → before < at → is_quote_at tokens before ≡ false) → HasNoQuote (tokens_of (take at tokens))
no_quote-before [] zero none = tt
no_quote-before [] (suc at) none = tt
no_quote-before (token ∷ tokens) zero none = tt
no_quote-before (token ∷ tokens) (suc at) none = (none 0 (omega arith), no_quote-before tokens at (λ before less. none (suc before) (omega (arith, less))))

quote-mark : (token : Token) → is_quote token ≡ true → token ≡ Mark Backquote
quote-mark (Name name) is = cc
quote-mark (Number digits) is = cc
quote-mark (Mark Backquote) is = refl
quote-mark (Mark symbol) is = never (sym is)

quote-splits : (tokens : List TokenHere) (at : ℕ) → is_quote_at tokens at ≡ true → tokens_of tokens ≡ tokens_of (take at tokens) ++ Mark Backquote ∷ tokens_of (drop (suc at) tokens)
quote-splits [] at is = cc
quote-splits (token ∷ tokens) zero is = ap (λ (x : Token). x ∷ tokens_of tokens) (quote-mark (token_of token) is)
quote-splits (token ∷ tokens) (suc at) is = ap (λ (xs : List Token). token_of token ∷ xs) (quote-splits tokens at is)

-- the tokens behind a backquote, cut at the next one
pub quote-taken : (tokens : List Token) (inner : List TokenHere) (at : ℕ) → tokens ≡ Mark Backquote ∷ tokens_of inner
    → ((before : ℕ) → before < at → is_quote_at inner before ≡ false) → is_quote_at inner at ≡ true
    → (tokens ≡ quoted (tokens_of (take at inner)) (tokens_of (take (length inner - (at + 1)) (drop (at + 1) inner)))) × HasNoQuote (tokens_of (take at inner))
quote-taken tokens inner at begins none quote =
    let one : at + 1 ≡ suc at = omega arith in
    let whole : take (length inner - (at + 1)) (drop (at + 1) inner) ≡ drop (at + 1) inner =
    take_all (length inner - (at + 1)) (drop (at + 1) inner) (omega (arith, length-drop (at + 1) inner)) in
    let rest : drop (suc at) inner ≡ take (length inner - (at + 1)) (drop (at + 1) inner) = ap (λ (n : ℕ). drop n inner) (sym one) ∙ sym whole in
    let splits = quote-splits inner at quote in
    (begins ∙ ap (λ (ts : List Token). Mark Backquote ∷ ts) (splits ∙ ap (λ (ts : List TokenHere). tokens_of (take at inner) ++ Mark Backquote ∷ tokens_of ts) rest), no_quote-before inner at none)

-- one more place without a backquote
pub no_quote-more : (tokens : List TokenHere) (at : ℕ) → ((before : ℕ) → before < at → is_quote_at tokens before ≡ false) → is_quote_at tokens at ≡ false
    → (before : ℕ) → before < at + 1 → is_quote_at tokens before ≡ false
no_quote-more tokens at none here = below_more (λ (k : ℕ). is_quote_at tokens k ≡ false) at none here

no_quote-within : (before rest : List Token) → HasNoQuote (before ++ Mark Backquote ∷ rest) → ⊥
no_quote-within [] rest none = never none.0
no_quote-within (token ∷ before) rest none = no_quote-within before rest none.1

no_quote-all : (tokens : List TokenHere) → ((before : ℕ) → before < length tokens → is_quote_at tokens before ≡ false) → HasNoQuote (tokens_of tokens)
no_quote-all [] none = tt
no_quote-all (token ∷ tokens) none = (none 0 (omega arith), no_quote-all tokens (λ before less. none (suc before) (omega (arith, less))))

-- no second backquote
pub no_quote-taken : (tokens : List Token) (inner : List TokenHere) (at : ℕ) → tokens ≡ Mark Backquote ∷ tokens_of inner
    → ((before : ℕ) → before < at → is_quote_at inner before ≡ false) → length inner ≤ at → (a r : List Token) → tokens ≢ quoted a r
no_quote-taken tokens inner at begins none past a r same =
    let further : tokens_of inner ≡ a ++ Mark Backquote ∷ r = (let both : Mark Backquote ∷ tokens_of inner ≡ quoted a r = sym begins ∙ same in cc) in
    no_quote-within a r (subst HasNoQuote further (no_quote-all inner (λ before less. none before (omega arith))))

pub quote-error : (error : ReadError) (tokens inner rest : List Token) → (tokens ≡ quoted inner rest) × HasNoQuote inner → Parses (Err error) inner → ParsesQuote (Err error) tokens
quote-error Memory tokens inner rest taken refused = tt
quote-error Syntax tokens inner rest taken refused = quote_refused tokens inner rest taken.0 taken.1 refused

-- ---- arguments

pub no-tokens : (tokens : List TokenHere) → true ≡ (length tokens == 0) → tokens_of tokens ≡ []
no-tokens [] empty = refl
no-tokens (token ∷ tokens) empty = absurd (let none : length (token ∷ tokens) ≡ 0 = eqb-true (length (token ∷ tokens)) 0 (sym empty) in omega arith)

pub some-tokens : (tokens : List TokenHere) → false ≡ (length tokens == 0) → 1 ≤ length tokens
some-tokens [] some = absurd (let none : false ≡ true = some in cc)
some-tokens (token ∷ tokens) some = omega arith

pub some-left : (tokens : List TokenHere) → 1 ≤ length tokens → tokens_of tokens ≢ []
some-left [] more same = omega arith
some-left (token ∷ tokens) more same = cc

-- what follows a quoted term
pub behind-quote : (tokens rest : List Token) (tree : TermTree) → tokens ≡ quote_tokens tree rest → AreTokens tokens → AreTokens rest
behind-quote tokens rest tree same all = go (all_tokens (pieces tree [])) (subst AreTokens same all).1
  where
    go : (before : List Token) → AreTokens (before ++ Mark Backquote ∷ rest) → AreTokens rest
    go [] all = all.1
    go (token ∷ before) all = go before all.1

-- a quoted term with more behind it is no quoted term alone
pub more-behind : (tokens : List Token) (rest : List TokenHere) (tree : TermTree) → IsQuotable tree → tokens ≡ quote_tokens tree (tokens_of rest) → 1 ≤ length rest
    → ParsesOnlyQuote (Err Syntax) tokens
more-behind tokens rest tree quotable read more = λ other grammatical same. some-left rest more (same_rest tokens (tokens_of rest) [] tree other quotable grammatical read same)

-- ---- quoted terms, one after another

-- what follows them
pub behind-quotes : (trees : List TermTree) (tokens rest : List Token) → tokens ≡ quotes_tokens trees rest → AreTokens tokens → AreTokens rest
behind-quotes [] tokens rest same all = subst AreTokens same all
behind-quotes (tree ∷ trees) tokens rest same all = behind-quotes trees (quotes_tokens trees rest) rest refl (behind-quote tokens (quotes_tokens trees rest) tree same all)

-- where as many others stand, what follows is the same
quotes-rest : (trees others : List TermTree) (r s : List Token) → AreQuotable trees → AreQuotable others → length trees ≡ length others → quotes_tokens trees r ≡ quotes_tokens others s → r ≡ s
quotes-rest [] [] r s these those counted same = same
quotes-rest [] (other ∷ others) r s these those counted same = absurd (omega arith)
quotes-rest (tree ∷ trees) [] r s these those counted same = absurd (omega arith)
quotes-rest (tree ∷ trees) (other ∷ others) r s these those counted same =
    quotes-rest trees others r s these.1 those.1 (omega (arith, counted))
    (same_rest (quotes_tokens (tree ∷ trees) r) (quotes_tokens trees r) (quotes_tokens others s) tree other these.0 those.0 refl same)

-- a refusal of the first is one of all
pub first-refused : (error : ReadError) (tokens : List Token) (count : ℕ) (old new : List (Vec TermStep Global)) → 0 < count → ParsesQuote (Err error) tokens
    → TakesQuotes (Err error) count old new tokens
first-refused Memory tokens count old new some refused = tt
first-refused Syntax tokens count old new some refused = go
  where
    go : (trees : List TermTree) (rest : List Token) → length trees ≡ count → AreQuotable trees → tokens ≢ quotes_tokens trees rest
    go [] rest counted quotable same = omega (arith, counted, some)
    go (tree ∷ trees) rest counted quotable same = refused tree (quotes_tokens trees rest) quotable.0 same

-- the first is taken, and then the others
pub first-taken : (result : Result (Bor (List TokenHere)) ReadError) (tokens rest : List Token) (steps : Vec TermStep Global) (count : ℕ) (old pushed new : List (Vec TermStep Global)) → 0 < count
    → ((tree : TermTree) × IsQuotable tree × (tokens ≡ quote_tokens tree rest) × IsTerm steps tree) → pushed ≡ old ++ steps ∷ []
    → TakesQuotes result (count - 1) pushed new rest → TakesQuotes result count old new tokens
first-taken (Ok left) tokens rest steps count old pushed new some (tree, quotable, spelled, is) put (trees, terms, counted, all, others, are, appended) = (
  tree ∷ trees,
  steps ∷ terms,
  omega (arith, counted, some),
  (quotable, all),
  spelled ∙ ap (quote_tokens tree) others,
  (is, are),
  appended ∙ ap (λ (list : List (Vec TermStep Global)). list ++ terms) put ∙ append_assoc old (steps ∷ []) terms,
)
first-taken (Err Memory) tokens rest steps count old pushed new some first put taken = tt
first-taken (Err Syntax) tokens rest steps count old pushed new some (tree, quotable, spelled, is) put refused = go
  where
    go : (trees : List TermTree) (left : List Token) → length trees ≡ count → AreQuotable trees → tokens ≢ quotes_tokens trees left
    go [] left counted all same = omega (arith, counted, some)
    go (other ∷ trees) left counted all same =
        refused trees left (omega (arith, counted)) all.1 (same_rest tokens rest (quotes_tokens trees left) tree other quotable all.0 spelled same)

-- ---- names

pub token-at : (tokens : List TokenHere) (at : ℕ) (default : TokenHere) → at < length tokens → AreTokens (tokens_of tokens) → IsToken (token_of (get_or tokens at default))
token-at [] at default within all = absurd (omega arith)
token-at (first ∷ tokens) zero default within all = all.0
token-at (first ∷ tokens) (suc at) default within all = token-at tokens at default (omega (arith, within)) all.1

-- a token that is no name is none of names
pub no-name-at : (tokens : List TokenHere) (at : ℕ) (default : TokenHere) → at < length tokens → IsNameOf None (token_of (get_or tokens at default)) → (names : List (List ℕ))
    → tokens_of tokens ≢ map Name names
no-name-at [] at default within none names same = absurd (omega arith)
no-name-at (first ∷ tokens) at default within none [] same = cc
no-name-at (first ∷ tokens) zero default within none (name ∷ names) same = none name (let here : token_of first ≡ Name name = cc in here)
no-name-at (first ∷ tokens) (suc at) default within none (name ∷ names) same =
    no-name-at tokens at default (omega (arith, within)) none names (let further : tokens_of tokens ≡ map Name names = cc in further)

-- the names that names of the code are
abbrev pub names_of : List (Bor (List ℕ)) → List Token
names_of names = map Name (map (λ name. name.now) names)

-- ---- rules

-- no two rules have one word
same_word : (a b : RuleName) → (form_of a).word ≡ (form_of b).word → a ≡ b
same_word a b same =
    let known : IsRuleOf (form_of a).word _ = found-word (form_of a).word _ refl in
    let both : Some a ≡ Some b = sym ((known a).1 refl) ∙ (known b).1 same in
    cc

-- what holds of each rule of this name holds of each rule of its word
named-tree : (fact : RuleTree → Type 0) (rule : RuleName) → ((trees : List TermTree) (names : List (List ℕ)) → fact (by_name rule trees names)) → (tree : RuleTree)
    → rule_word tree ≡ (form_of rule).word → fact tree
named-tree fact rule named (by_name other trees names) worded =
    subst (λ (it : RuleName). fact (by_name it trees names)) (same_word rule other (sym worded)) (named trees names)
named-tree fact rule named (by_inst pairs a) worded = absurd (search (rules, worded))
named-tree fact rule named (by_inst_type pairs a) worded = absurd (search (rules, worded))

-- and so of INST and of INST_TYPE
pub inst-tree : (fact : RuleTree → Type 0) → ((pairs : List (TermTree × TermTree)) (a : List ℕ) → fact (by_inst pairs a)) → (tree : RuleTree) → rule_word tree ≡ codes "INST" → fact tree
inst-tree fact inst (by_name rule trees names) worded = absurd (search (rules, worded))
inst-tree fact inst (by_inst pairs a) worded = inst pairs a
inst-tree fact inst (by_inst_type pairs a) worded = absurd (search (rules, worded))

pub inst_type-tree : (fact : RuleTree → Type 0) → ((pairs : List (TypeTree × List ℕ)) (a : List ℕ) → fact (by_inst_type pairs a)) → (tree : RuleTree) → rule_word tree ≡ codes "INST_TYPE"
    → fact tree
inst_type-tree fact inst_type (by_name rule trees names) worded = absurd (search (rules, worded))
inst_type-tree fact inst_type (by_inst pairs a) worded = absurd (search (rules, worded))
inst_type-tree fact inst_type (by_inst_type pairs a) worded = inst_type pairs a

-- a word that names a rule
pub rule-worded : (result : Result Rule ReadError) (word : List ℕ) (rule : RuleName) (tokens : List Token) → IsRuleOf word (Some rule) → ParsesArguments result (form_of rule).word tokens
    → ParsesArguments result word tokens
rule-worded result word rule tokens known parsed = subst (λ (spelled : List ℕ). ParsesArguments result spelled tokens) (sym ((known rule).0 refl)) parsed

-- a word that names no rule
pub no-rule-worded : (word : List ℕ) (tokens : List Token) → IsRuleOf word None → word ≢ codes "INST" → word ≢ codes "INST_TYPE" → ParsesArguments (Err Syntax) word tokens
no-rule-worded word tokens unknown no_inst no_inst_type (by_name rule trees names) grammatical worded = let found : None ≡ Some rule = (unknown rule).1 (sym worded) in cc
no-rule-worded word tokens unknown no_inst no_inst_type (by_inst pairs a) grammatical worded = absurd (no_inst (sym worded))
no-rule-worded word tokens unknown no_inst no_inst_type (by_inst_type pairs a) grammatical worded = absurd (no_inst_type (sym worded))

-- a refusal of the names is one of the arguments
pub names-refused : (error : ReadError) (rule : RuleName) (tokens rest : List Token) (trees : List TermTree) → length trees ≡ (form_of rule).terms → AreQuotable trees
    → tokens ≡ quotes_tokens trees rest → TakesOnlyNames (Err error) (form_of rule).theorems rest → ParsesArguments (Err error) (form_of rule).word tokens
names-refused Memory rule tokens rest trees counted quotable spelled refused = tt
names-refused Syntax rule tokens rest trees counted quotable spelled refused = λ tree grammatical worded.
    named-tree (λ (tree : RuleTree). IsRuleTree tree → tokens ≢ argument_tokens tree) rule
    (λ others names grammatical same. refused names grammatical.1
    (quotes-rest trees others rest (map Name names) quotable grammatical.2 (counted ∙ sym grammatical.0) (sym spelled ∙ same))) tree worded grammatical

pub rule-parsed : (result : Result Rule ReadError) (tokens arguments : List Token) (word : List ℕ) → tokens ≡ Name word ∷ arguments → ParsesArguments result word arguments
    → ParsesRule result tokens
rule-parsed (Ok rule) tokens arguments word begins (tree, grammatical, worded, spelled, is_rule) =
    (tree, grammatical, begins ∙ (λ i. Name (sym worded i) ∷ spelled i), is_rule)
rule-parsed (Err Memory) tokens arguments word begins parsed = tt
rule-parsed (Err Syntax) tokens arguments word begins refused = λ tree grammatical same.
    let both : Name word ∷ arguments ≡ Name (rule_word tree) ∷ argument_tokens tree = sym begins ∙ same in
    let worded : rule_word tree ≡ word = cc in
    let further : arguments ≡ argument_tokens tree = cc in
    refused tree grammatical worded further

-- what follows a mark
pub behind-mark : (symbol : Symbol) (tokens rest : List Token) → tokens ≡ Mark symbol ∷ rest → AreTokens tokens → AreTokens rest
behind-mark symbol tokens rest same all = (subst AreTokens same all).1
