-- What `thm` asks for, and commands by their words and what follows them.
use Rattle.std.proofs.Common.{◌≡◌, ◌≢◌, ℕ, ◌+◌, ◌-◌, ◌*◌, ◌<◌, ◌≤◌, suc, arith, rules, drop-cons, List, [], ◌∷◌, length, get_or, take, drop}
use Rattle.std.proofs.Common.{refl, sym, ◌∙◌, ap, subst, Bool, true, false, if◌then◌else◌, map, Some, Result, Ok, Err, Vec, Global}
use Rattle.std.specs.Str.{bytes_eq}
use Rattle.std.proofs.lemmas.Slice.Eq.{bytes_eq-Decides}
use Rattle.std.proofs.lemmas.List.{take_rest}
use Rattle.hol_model.specs.declared.limits.TheConstants.{EXPRESSION_NESTING_LIMIT}
use Rattle.hol_model.specs.declared.symbol.Symbol.TheVariants.{Colon, Equal}
use Rattle.hol_model.specs.Texts.Token.{Token, Name, Number, Mark}
use Rattle.hol_model.specs.Texts.Lexing.{numeral_value, digits_value}
use Rattle.hol_model.specs.Texts.TypeGrammar.{TypeTree, type_tokens}
use Rattle.hol_model.specs.Texts.TermGrammar.{TermTree}
use Rattle.hol_model_sessions.specs.Commands.{quote_tokens, IsQuotable}
use Rattle.hol_model_sessions.specs.ConversionGrammar.{unit_tokens}
use Rattle.hol_model_sessions.specs.TacticGrammar.{Tactic, tactic_tokens, IsTactic}
use Rattle.hol_model_sessions.specs.CommandGrammar.{TheoremTree, by_rule, theorem_tokens, CommandTree, command_tokens, IsCommandTree}
use Rattle.hol_model_sessions.specs.CommandGrammar.{var_command, newtype_command, newconst_command, def_command, thm_command}
use Rattle.hol_model_sessions.specs.CommandGrammar.{show_command, goal_command, e_command, b_command, p_command, r_command}
use Rattle.hol_model_sessions.specs.CommandGrammar.{save_command}
use Rattle.hol_syntax_grammar.specs.declared.token.Token.{Token as TokenHere}
use Rattle.hol_syntax_grammar.specs.declared.type_reader.ReadError.{ReadError}
use Rattle.hol_syntax_grammar.specs.declared.type_reader.ReadError.TheVariants.{Memory, Syntax}
use Rattle.hol_syntax_grammar.specs.declared.type_reader.TypeStep.{TypeStep}
use Rattle.hol_syntax_grammar.specs.declared.steps.TermStep.{TermStep}
use Rattle.hol_syntax_grammar.specs.Views.{tokens_of}
use Rattle.hol_syntax_grammar.specs.TypeStates.{ParsesType}
use Rattle.hol_syntax_grammar.proofs.Lexing.{digits_grow}
use Rattle.hol_tactic_exprs.specs.declared.conv.Conv.{Conv}
use Rattle.hol_tactic_exprs.specs.Expressions.{conversion_of}
use Rattle.hol_tactic_grammar.specs.Tokens.{behind}
use Rattle.hol_tactic_grammar.specs.Conversions.{IsUnit, ReadsConversion}
use Rattle.hol_tactic_grammar.specs.Tactics.{ReadsTactic}
use Rattle.hol_script_commands.specs.declared.command.Rule.{Rule}
use Rattle.hol_script_commands.specs.declared.command.Asked.TheVariants.{Rule as AsksRule}
use Rattle.hol_script_commands.specs.declared.command.Command.{Command}
use Rattle.hol_script_commands.specs.declared.command.CommandKind.{CommandKind}
use Rattle.hol_tactic_grammar.specs.Words.{meaning_in}
use Rattle.hol_script_commands.specs.declared.command.TheConstants.{COMMANDS}
use Rattle.hol_script_commands.specs.declared.command.CommandKind.TheVariants.{Naming, OfGoals}
use Rattle.hol_script_commands.specs.declared.command.NamingKind.{NamingKind}
use Rattle.hol_script_commands.specs.declared.command.NamingKind.TheVariants.{Thm, Show, Var, Def, NewType, NewConst, Save}
use Rattle.hol_script_commands.specs.declared.goals.GoalKind.{GoalKind}
use Rattle.hol_script_commands.specs.declared.goals.GoalKind.TheVariants.{Goal, Expand, Back, Print, Rotate}
use Rattle.hol_script_commands.specs.Reading.{kind_of_command, command_word, command_kind_of, behind_tokens, name_in_command, body_tokens}
use Rattle.hol_script_commands.specs.Reading.{ParsesOnlyQuote, ParsesConversion, ParsesTyping, ParsesRule, ParsesAsked, ParsesBody, ParsesBehind, ParsesCommand}

-- ---- a conversion and a quoted term

-- what is left behind so many tokens
left-behind : (tokens : List TokenHere) (count : ℕ) → tokens_of (take (length tokens - count) (drop count tokens)) ≡ behind count tokens
left-behind tokens count = ap tokens_of (take_rest tokens count)

pub conversion-read : (conv : Conv) (steps : Vec TermStep Global) (tokens : List TokenHere) (count : ℕ) → IsUnit EXPRESSION_NESTING_LIMIT (tokens_of tokens) (behind count tokens) (conversion_of conv)
    → ParsesOnlyQuote (Ok steps) (tokens_of (take (length tokens - count) (drop count tokens))) → ParsesConversion (Ok (conv, steps)) (tokens_of tokens)
conversion-read conv steps tokens count unit (tree, quotable, spelled, are_steps) =
    (unit.tree, tree, unit.nested, quotable, unit.spelled ∙ ap (unit_tokens unit.tree) (sym (left-behind tokens count) ∙ spelled), unit.means, are_steps)

pub no-conversion : (error : ReadError) (tokens : List TokenHere) → ReadsConversion (Err error) tokens → ParsesConversion (Err error) (tokens_of tokens)
no-conversion Memory tokens refused = tt
no-conversion Syntax tokens refused = λ unit tree nested quotable. refused unit (quote_tokens tree []) nested

-- ---- what `thm` asks for

pub rule-asked : (rule : Rule) (tokens : List Token) → ParsesRule (Ok rule) tokens → ParsesAsked (Ok (AsksRule rule)) tokens
rule-asked rule tokens (tree, grammatical, spelled, is_rule) = (by_rule tree, grammatical, spelled, is_rule)

-- ---- words of commands

pub command-kind : (kind : CommandKind) → command_kind_of (command_word kind) ≡ Some kind
command-kind kind = search rules

-- each entry of a table stands under its own word
abbrev HaveWords : {T : Type 0} → (T → List ℕ) → List (List ℕ × T) → Type 0
HaveWords word_of [] = Unit {0}
HaveWords word_of (entry ∷ entries) = (entry.0 ≡ word_of entry.1) × HaveWords word_of entries

word-found : {T : Type 0} (word_of : T → List ℕ) (table : List (List ℕ × T)) (word : List ℕ) (meaning : T) → HaveWords word_of table
    → meaning_in table word ≡ Some meaning → word ≡ word_of meaning
word-found word_of [] word meaning have found = cc
word-found {T} word_of (entry ∷ entries) word meaning have found = by (bytes_eq word entry.0) refl found (λ later. word-found word_of entries word meaning have.1 later) where
  by : (b : Bool) → bytes_eq word entry.0 ≡ b → (if b then Some entry.1 else meaning_in entries word) ≡ Some meaning
      → (meaning_in entries word ≡ Some meaning → word ≡ word_of meaning) → word ≡ word_of meaning
  by true same found later = let is : entry.1 ≡ meaning = cc in (bytes_eq-Decides word entry.0).0 same ∙ have.0 ∙ ap word_of is
  by false other found later = later found

kind-command : (word : List ℕ) (kind : CommandKind) → command_kind_of word ≡ Some kind → word ≡ command_word kind
kind-command word kind found =
    word-found command_word (map (λ entry. (entry.0.now, entry.1)) COMMANDS) word kind (refl, (refl, (refl, (refl, (refl, (refl, (refl, (refl, (refl, (refl, (refl, (refl, tt)))))))))))) found

-- ---- commands

-- a command is its word and what follows it
command-parts : (tree : CommandTree) → command_tokens tree ≡ Name (command_word (kind_of_command tree)) ∷ behind_tokens tree
command-parts tree = search rules

pub command-parsed : (result : Result Command ReadError) (kind : CommandKind) (tokens rest : List Token) (word : List ℕ) → tokens ≡ Name word ∷ rest
    → command_kind_of word ≡ Some kind → ParsesBehind result kind rest → ParsesCommand result tokens
command-parsed (Ok command) kind tokens rest word begins known (tree, grammatical, kind_is, spelled, is_command) =
    let named : word ≡ command_word (kind_of_command tree) = kind-command word kind known ∙ ap command_word (sym kind_is) in
    (tree, record { grammatical = grammatical; spelled = begins ∙ (λ i. Name (named i) ∷ spelled i) ∙ sym (command-parts tree) }, is_command)
command-parsed (Err Memory) kind tokens rest word begins known parsed = tt
command-parsed (Err Syntax) kind tokens rest word begins known refused = λ tree read.
    let other = kind_of_command tree in
    let both : Name word ∷ rest ≡ Name (command_word other) ∷ behind_tokens tree = sym begins ∙ read.spelled ∙ command-parts tree in
    let spelled : word ≡ command_word other = cc in
    let further : rest ≡ behind_tokens tree = cc in
    let found : Some other ≡ Some kind = sym (command-kind other) ∙ ap command_kind_of (sym spelled) ∙ known in
    let same_kind : other ≡ kind = cc in
    refused tree read.grammatical same_kind further

-- ---- commands with a name behind the word

same_naming : {a b : NamingKind} → Naming a ≡ Naming b → a ≡ b
same_naming is = cc

naming-parts : (tree : CommandTree) (kind : NamingKind) → kind_of_command tree ≡ Naming kind → behind_tokens tree ≡ Name (name_in_command tree) ∷ body_tokens tree
naming-parts tree kind is = search (rules, is)

pub naming-parsed : (result : Result Command ReadError) (kind : NamingKind) (tokens body : List Token) (name : List ℕ) → tokens ≡ Name name ∷ body → ParsesBody result kind name body
    → ParsesBehind result (Naming kind) tokens
naming-parsed (Ok command) kind tokens body name begins (tree, is_body, is_command) =
    let spelled : tokens ≡ behind_tokens tree = begins ∙ (λ i. Name (sym is_body.name_is i) ∷ is_body.spelled i) ∙ sym (naming-parts tree kind is_body.kind_is) in
    (tree, is_body.grammatical, is_body.kind_is, spelled, is_command)
naming-parsed (Err Memory) kind tokens body name begins parsed = tt
naming-parsed (Err Syntax) kind tokens body name begins refused = λ tree grammatical kind_is same.
    let both : Name name ∷ body ≡ Name (name_in_command tree) ∷ body_tokens tree = sym begins ∙ same ∙ naming-parts tree kind kind_is in
    let named : name ≡ name_in_command tree = cc in
    let further : body ≡ body_tokens tree = cc in
    refused tree (record { grammatical = grammatical; kind_is = kind_is; name_is = sym named; spelled = further })

-- ---- bodies of commands

pub typing-parsed : (result : Result (Vec TypeStep Global) ReadError) (tokens rest : List Token) → tokens ≡ Mark Colon ∷ rest → ParsesType result rest → ParsesTyping result tokens
typing-parsed (Ok steps) tokens rest begins (tree, read, steps_are) = (tree, (read.grammatical, read.depth), begins ∙ ap (λ (ts : List Token). Mark Colon ∷ ts) read.spelled, steps_are)
typing-parsed (Err Memory) tokens rest begins parsed = tt
typing-parsed (Err Syntax) tokens rest begins refused = λ tree within same.
    let both : Mark Colon ∷ rest ≡ Mark Colon ∷ type_tokens tree [] = sym begins ∙ same in
    let further : rest ≡ type_tokens tree [] = cc in
    refused tree (record { grammatical = within.0; depth = within.1; spelled = further })

-- what a command of a kind is
abbrev IsOfKind : NamingKind → CommandTree → Type 0
IsOfKind Thm tree = (name : List ℕ) × (theorem : TheoremTree) × (tree ≡ thm_command name theorem)
IsOfKind Show tree = (name : List ℕ) × (tree ≡ show_command name)
IsOfKind Var tree = (name : List ℕ) × (ty : TypeTree) × (tree ≡ var_command name ty)
IsOfKind Def tree = (name : List ℕ) × (term : TermTree) × (tree ≡ def_command name term)
IsOfKind NewType tree = (name : List ℕ) × (tree ≡ newtype_command name)
IsOfKind NewConst tree = (name : List ℕ) × (ty : TypeTree) × (tree ≡ newconst_command name ty)
IsOfKind Save tree = (name : List ℕ) × (tree ≡ save_command name)

of-kind : (kind : NamingKind) (tree : CommandTree) → kind_of_command tree ≡ Naming kind → IsOfKind kind tree
of-kind kind (thm_command name theorem) is = subst (λ (k : NamingKind). IsOfKind k (thm_command name theorem)) (same_naming is) (name, theorem, refl)
of-kind kind (show_command name) is = subst (λ (k : NamingKind). IsOfKind k (show_command name)) (same_naming is) (name, refl)
of-kind kind (var_command name tree) is = subst (λ (k : NamingKind). IsOfKind k (var_command name tree)) (same_naming is) (name, tree, refl)
of-kind kind (def_command name tree) is = subst (λ (k : NamingKind). IsOfKind k (def_command name tree)) (same_naming is) (name, tree, refl)
of-kind kind (newtype_command name) is = subst (λ (k : NamingKind). IsOfKind k (newtype_command name)) (same_naming is) (name, refl)
of-kind kind (newconst_command name tree) is = subst (λ (k : NamingKind). IsOfKind k (newconst_command name tree)) (same_naming is) (name, tree, refl)
of-kind kind (save_command name) is = subst (λ (k : NamingKind). IsOfKind k (save_command name)) (same_naming is) (name, refl)
of-kind kind (goal_command tree) is = cc
of-kind kind (e_command tactic) is = cc
of-kind kind b_command is = cc
of-kind kind p_command is = cc
of-kind kind (r_command digits) is = cc

-- a refusal of the type is one of the command
pub var-refused : (error : ReadError) (name : List ℕ) (tokens : List Token) → ParsesTyping (Err error) tokens → ParsesBody (Err error) Var name tokens
var-refused Memory name tokens refused = tt
var-refused Syntax name tokens refused = λ tree body.
    let (other, ty, is) = of-kind Var tree body.kind_is in
    refused ty (subst IsCommandTree is body.grammatical) (body.spelled ∙ ap body_tokens is)

pub newconst-refused : (error : ReadError) (name : List ℕ) (tokens : List Token) → ParsesTyping (Err error) tokens → ParsesBody (Err error) NewConst name tokens
newconst-refused Memory name tokens refused = tt
newconst-refused Syntax name tokens refused = λ tree body.
    let (other, ty, is) = of-kind NewConst tree body.kind_is in
    refused ty (subst IsCommandTree is body.grammatical) (body.spelled ∙ ap body_tokens is)

pub thm-refused : (error : ReadError) (name : List ℕ) (tokens rest : List Token) → tokens ≡ Mark Equal ∷ rest → ParsesAsked (Err error) rest → ParsesBody (Err error) Thm name tokens
thm-refused Memory name tokens rest begins refused = tt
thm-refused Syntax name tokens rest begins refused = λ tree body.
    let (other, theorem, is) = of-kind Thm tree body.kind_is in
    let both : Mark Equal ∷ rest ≡ Mark Equal ∷ theorem_tokens theorem = sym begins ∙ body.spelled ∙ ap body_tokens is in
    let further : rest ≡ theorem_tokens theorem = cc in
    refused theorem (subst IsCommandTree is body.grammatical) further

pub def-refused : (error : ReadError) (name : List ℕ) (tokens rest : List Token) → tokens ≡ Mark Equal ∷ rest → ParsesOnlyQuote (Err error) rest → ParsesBody (Err error) Def name tokens
def-refused Memory name tokens rest begins refused = tt
def-refused Syntax name tokens rest begins refused = λ tree body.
    let (other, term, is) = of-kind Def tree body.kind_is in
    let both : Mark Equal ∷ rest ≡ Mark Equal ∷ quote_tokens term [] = sym begins ∙ body.spelled ∙ ap body_tokens is in
    let further : rest ≡ quote_tokens term [] = cc in
    refused term (subst IsCommandTree is body.grammatical) further

-- ---- commands of the goal stack

-- the tokens are no argument of a command of the goal stack of this kind
abbrev IsNoArgument : CommandKind → List Token → Type 0
IsNoArgument (Naming kind) tokens = ⊥
IsNoArgument (OfGoals Goal) tokens = (tree : TermTree) → IsQuotable tree → tokens ≢ quote_tokens tree []
IsNoArgument (OfGoals Expand) tokens = (tree : Tactic TermTree) → IsTactic tree → tokens ≢ tactic_tokens tree []
IsNoArgument (OfGoals Back) tokens = tokens ≢ []
IsNoArgument (OfGoals Print) tokens = tokens ≢ []
IsNoArgument (OfGoals Rotate) tokens = (digits : List ℕ) → tokens ≢ Number digits ∷ []

argument-refused : (kind : GoalKind) (tokens : List Token) → IsNoArgument (OfGoals kind) tokens → ParsesBehind (Err Syntax) (OfGoals kind) tokens
argument-refused kind tokens none = λ tree grammatical same. go tree grammatical (subst (λ (k : CommandKind). IsNoArgument k tokens) (sym same) none)
  where
    go : (tree : CommandTree) → IsCommandTree tree → IsNoArgument (kind_of_command tree) tokens → tokens ≢ behind_tokens tree
    go (goal_command tree) grammatical none same = none tree grammatical same
    go (e_command tactic) grammatical none same = none tactic grammatical same
    go b_command grammatical none same = none same
    go p_command grammatical none same = none same
    go (r_command digits) grammatical none same = none digits same
    go (thm_command name theorem) grammatical none same = none
    go (show_command name) grammatical none same = none
    go (var_command name tree) grammatical none same = none
    go (def_command name tree) grammatical none same = none
    go (newtype_command name) grammatical none same = none
    go (newconst_command name tree) grammatical none same = none
    go (save_command name) grammatical none same = none

pub goal-refused : (error : ReadError) (tokens : List Token) → ParsesOnlyQuote (Err error) tokens → ParsesBehind (Err error) (OfGoals Goal) tokens
goal-refused Memory tokens refused = tt
goal-refused Syntax tokens refused = argument-refused Goal tokens refused

pub expand-refused : (error : ReadError) (tokens : List TokenHere) → ReadsTactic (Err error) tokens → ParsesBehind (Err error) (OfGoals Expand) (tokens_of tokens)
expand-refused Memory tokens refused = tt
expand-refused Syntax tokens refused = argument-refused Expand (tokens_of tokens) refused

-- ---- numbers

-- one digit more is still within the number
pub digit-within : (digits : List ℕ) (at value : ℕ) → digits_value value (drop at digits) ≡ numeral_value digits → at < length digits → value * 10 + (get_or digits at 0 - 48) ≤ numeral_value digits
digit-within digits at value reads within =
    let next = value * 10 + (get_or digits at 0 - 48) in
    let step : digits_value next (drop (suc at) digits) ≡ numeral_value digits = sym (ap (digits_value value) (drop-cons digits at 0 within)) ∙ reads in
    let grows : next ≤ digits_value next (drop (suc at) digits) = digits_grow next (drop (suc at) digits) in
    omega (arith, step, grows)
