-- What the readers of commands answer.
use Rattle.std.specs.Prelude.{◌≡◌, ◌≢◌, ℕ, List, [], ◌∷◌, Bool, true, false, Option, None, Some, Result, Ok, Err, codes, map, length, ◌++◌}
use Rattle.std.proofs.Common.{Vec, Bor, Global}
use Rattle.hol_model.specs.declared.symbol.Symbol.{Symbol}
use Rattle.hol_model.specs.declared.symbol.Symbol.TheVariants.{Backquote, Colon, Equal}
use Rattle.hol_model.specs.Texts.Token.{Token, Name, Number, Mark}
use Rattle.hol_model.specs.Texts.Lexing.{numeral_value}
use Rattle.hol_model.specs.Texts.TypeGrammar.{TypeTree, type_tokens, type_steps}
use Rattle.hol_model.specs.Texts.TermGrammar.{TermTree, IsWithin}
use Rattle.hol_model_sessions.specs.Commands.{RuleTree, rule_word, quoted, quote_tokens, quotes_tokens, argument_tokens, rule_tokens, IsQuotable, AreQuotable, IsRuleTree}
use Rattle.hol_model_sessions.specs.CommandGrammar.{TheoremTree, by_tautology, by_conversion, theorem_tokens, IsTheoremTree, CommandTree, IsCommandTree, IsReadCommand}
use Rattle.hol_model_sessions.specs.CommandGrammar.{var_command, newtype_command, newconst_command, def_command, thm_command}
use Rattle.hol_model_sessions.specs.CommandGrammar.{show_command, goal_command, e_command, b_command, p_command, r_command}
use Rattle.hol_model_sessions.specs.CommandGrammar.{save_command}
use Rattle.hol_model_sessions.specs.ConversionGrammar.{ConversionUnit, unit_tokens, IsConversionUnit}
use Rattle.hol_model_sessions.specs.TacticGrammar.{tactic_tokens}
use Rattle.hol_model_sessions.specs.SessionTools.{conversion_of_unit}
use Rattle.hol_syntax_grammar.specs.declared.token.Token.{Token as TokenHere}
use Rattle.hol_syntax_grammar.specs.declared.type_reader.ReadError.{ReadError}
use Rattle.hol_syntax_grammar.specs.declared.type_reader.ReadError.TheVariants.{Memory, Syntax}
use Rattle.hol_syntax_grammar.specs.declared.type_reader.TypeStep.{TypeStep}
use Rattle.hol_syntax_grammar.specs.declared.steps.TermStep.{TermStep}
use Rattle.hol_syntax_grammar.specs.Views.{tokens_of, steps_of}
use Rattle.hol_syntax_grammar.specs.Steps.{flat_steps_of}
use Rattle.hol_syntax_grammar.specs.TermSteps.{term_steps, flat_steps}
use Rattle.hol_tactic_exprs.specs.declared.conv.Conv.{Conv}
use Rattle.hol_tactic_exprs.specs.Expressions.{conversion_of}
use Rattle.hol_tactic_grammar.specs.Words.{meaning_in}
use Rattle.hol_script_commands.specs.declared.command.TheConstants.{COMMANDS}
use Rattle.hol_script_commands.specs.declared.command.Rule.{Rule}
use Rattle.hol_script_commands.specs.declared.command.Asked.{Asked}
use Rattle.hol_script_commands.specs.declared.command.Command.{Command}
use Rattle.hol_script_commands.specs.declared.command.CommandKind.{CommandKind}
use Rattle.hol_script_commands.specs.declared.command.CommandKind.TheVariants.{Naming, OfGoals}
use Rattle.hol_script_commands.specs.declared.command.NamingKind.{NamingKind}
use Rattle.hol_script_commands.specs.declared.command.NamingKind.TheVariants.{Thm, Show, Var, Def, NewType, NewConst, Save}
use Rattle.hol_script_commands.specs.declared.goals.GoalKind.{GoalKind}
use Rattle.hol_script_commands.specs.declared.goals.GoalKind.TheVariants.{Goal, Expand, Back, Print, Rotate}
use Rattle.hol_script_commands.specs.Views.{AreTerms, IsRule, IsAsked, IsCommand}

abbrev pub IsNameOf : Option (Bor (List ℕ)) → Token → Type 0
IsNameOf None token = (name : List ℕ) → token ≢ Name name
IsNameOf (Some x) token = token ≡ Name x.now

abbrev pub TakesName : Option (Bor (List ℕ) × Bor (List TokenHere)) → List Token → Type 0
TakesName None tokens = (name : List ℕ) (rest : List Token) → tokens ≢ Name name ∷ rest
TakesName (Some x) tokens = tokens ≡ Name x.0.now ∷ tokens_of x.1.now

abbrev pub TakesOnlyName : Option (Bor (List ℕ)) → List Token → Type 0
TakesOnlyName None tokens = (name : List ℕ) → tokens ≢ Name name ∷ []
TakesOnlyName (Some x) tokens = tokens ≡ Name x.now ∷ []

-- so many names and nothing else
abbrev pub TakesOnlyNames : Result (Vec (Bor (List ℕ)) Global) ReadError → ℕ → List Token → Type 0
TakesOnlyNames (Ok names) count tokens = (length names.items ≡ count) × (tokens ≡ map Name (map (λ name. name.now) names.items))
TakesOnlyNames (Err Memory) count tokens = Unit {0}
TakesOnlyNames (Err Syntax) count tokens = (names : List (List ℕ)) → length names ≡ count → tokens ≢ map Name names

abbrev pub TakesMark : Option (Bor (List TokenHere)) → Symbol → List Token → Type 0
TakesMark None symbol tokens = (rest : List Token) → tokens ≢ Mark symbol ∷ rest
TakesMark (Some x) symbol tokens = tokens ≡ Mark symbol ∷ tokens_of x.now

-- a backquote
abbrev pub is_quote_symbol : Symbol → Bool
is_quote_symbol Backquote = true
is_quote_symbol _ = false

abbrev pub is_quote : Token → Bool
is_quote (Mark symbol) = is_quote_symbol symbol
is_quote _ = false

-- no backquote is among them
abbrev pub HasNoQuote : List Token → Type 0
HasNoQuote [] = Unit {0}
HasNoQuote (token ∷ tokens) = (is_quote token ≡ false) × HasNoQuote tokens

abbrev pub TakesQuote : Option (Bor (List TokenHere) × Bor (List TokenHere)) → List Token → Type 0
TakesQuote None tokens = (inner rest : List Token) → tokens ≢ quoted inner rest
TakesQuote (Some x) tokens = (tokens ≡ quoted (tokens_of x.0.now) (tokens_of x.1.now)) × HasNoQuote (tokens_of x.0.now)

abbrev pub ParsesQuote : Result (Vec TermStep Global × Bor (List TokenHere)) ReadError → List Token → Type 0
ParsesQuote (Ok x) tokens =
    (tree : TermTree) × IsQuotable tree × (tokens ≡ quote_tokens tree (tokens_of x.1.now)) × (flat_steps_of x.0.items ≡ flat_steps (term_steps tree))
ParsesQuote (Err Memory) tokens = Unit {0}
ParsesQuote (Err Syntax) tokens = (tree : TermTree) (rest : List Token) → IsQuotable tree → tokens ≢ quote_tokens tree rest

-- so many quoted terms, one after another
abbrev pub TakesQuotes : Result (Bor (List TokenHere)) ReadError → ℕ → List (Vec TermStep Global) → List (Vec TermStep Global) → List Token → Type 0
TakesQuotes (Ok rest) count old new tokens =
    (trees : List TermTree) × (terms : List (Vec TermStep Global)) × (length trees ≡ count) × AreQuotable trees × (tokens ≡ quotes_tokens trees (tokens_of rest.now)) × AreTerms terms trees × (new ≡ old ++ terms)
TakesQuotes (Err Memory) count old new tokens = Unit {0}
TakesQuotes (Err Syntax) count old new tokens = (trees : List TermTree) (rest : List Token) → length trees ≡ count → AreQuotable trees → tokens ≢ quotes_tokens trees rest

abbrev pub ParsesQuotes : Result (Vec (Vec TermStep Global) Global × Bor (List TokenHere)) ReadError → ℕ → List Token → Type 0
ParsesQuotes (Ok x) count tokens =
    (trees : List TermTree) × (length trees ≡ count) × AreQuotable trees × (tokens ≡ quotes_tokens trees (tokens_of x.1.now)) × AreTerms x.0.items trees
ParsesQuotes (Err Memory) count tokens = Unit {0}
ParsesQuotes (Err Syntax) count tokens = (trees : List TermTree) (rest : List Token) → length trees ≡ count → AreQuotable trees → tokens ≢ quotes_tokens trees rest

-- a quoted term and nothing else
abbrev pub ParsesOnlyQuote : Result (Vec TermStep Global) ReadError → List Token → Type 0
ParsesOnlyQuote (Ok steps) tokens =
    (tree : TermTree) × IsQuotable tree × (tokens ≡ quote_tokens tree []) × (flat_steps_of steps.items ≡ flat_steps (term_steps tree))
ParsesOnlyQuote (Err Memory) tokens = Unit {0}
ParsesOnlyQuote (Err Syntax) tokens = (tree : TermTree) → IsQuotable tree → tokens ≢ quote_tokens tree []

-- a conversion, a quoted term and nothing else
abbrev pub ParsesConversion : Result (Conv × Vec TermStep Global) ReadError → List Token → Type 0
ParsesConversion (Ok x) tokens =
    (unit : ConversionUnit) × (tree : TermTree) × IsConversionUnit unit × IsQuotable tree × (tokens ≡ unit_tokens unit (quote_tokens tree []))
    × (conversion_of x.0 ≡ conversion_of_unit unit) × (flat_steps_of x.1.items ≡ flat_steps (term_steps tree))
ParsesConversion (Err Memory) tokens = Unit {0}
ParsesConversion (Err Syntax) tokens = (unit : ConversionUnit) (tree : TermTree) → IsConversionUnit unit → IsQuotable tree → tokens ≢ unit_tokens unit (quote_tokens tree [])

-- what a rule of this word has behind it
abbrev pub ParsesArguments : Result Rule ReadError → List ℕ → List Token → Type 0
ParsesArguments (Ok rule) word tokens =
    (tree : RuleTree) × IsRuleTree tree × (rule_word tree ≡ word) × (tokens ≡ argument_tokens tree) × IsRule rule tree
ParsesArguments (Err Memory) word tokens = Unit {0}
ParsesArguments (Err Syntax) word tokens = (tree : RuleTree) → IsRuleTree tree → rule_word tree ≡ word → tokens ≢ argument_tokens tree

abbrev pub ParsesRule : Result Rule ReadError → List Token → Type 0
ParsesRule (Ok rule) tokens = (tree : RuleTree) × IsRuleTree tree × (tokens ≡ rule_tokens tree) × IsRule rule tree
ParsesRule (Err Memory) tokens = Unit {0}
ParsesRule (Err Syntax) tokens = (tree : RuleTree) → IsRuleTree tree → tokens ≢ rule_tokens tree

-- what TAUT asks for
abbrev pub ParsesTautology : Result Asked ReadError → List Token → Type 0
ParsesTautology (Ok asked) tokens = (tree : TermTree) × IsQuotable tree × (tokens ≡ quote_tokens tree []) × IsAsked asked (by_tautology tree)
ParsesTautology (Err Memory) tokens = Unit {0}
ParsesTautology (Err Syntax) tokens = (tree : TermTree) → IsQuotable tree → tokens ≢ quote_tokens tree []

-- what CONV asks for
abbrev pub ParsesConverted : Result Asked ReadError → List Token → Type 0
ParsesConverted (Ok asked) tokens =
    (unit : ConversionUnit) × (tree : TermTree) × IsConversionUnit unit × IsQuotable tree × (tokens ≡ unit_tokens unit (quote_tokens tree [])) × IsAsked asked (by_conversion unit tree)
ParsesConverted (Err Memory) tokens = Unit {0}
ParsesConverted (Err Syntax) tokens = (unit : ConversionUnit) (tree : TermTree) → IsConversionUnit unit → IsQuotable tree → tokens ≢ unit_tokens unit (quote_tokens tree [])

-- what `thm` asks for
abbrev pub ParsesAsked : Result Asked ReadError → List Token → Type 0
ParsesAsked (Ok asked) tokens = (tree : TheoremTree) × IsTheoremTree tree × (tokens ≡ theorem_tokens tree) × IsAsked asked tree
ParsesAsked (Err Memory) tokens = Unit {0}
ParsesAsked (Err Syntax) tokens = (tree : TheoremTree) → IsTheoremTree tree → tokens ≢ theorem_tokens tree

-- a colon, and then a type that is not nested too deep
abbrev pub ParsesTyping : Result (Vec TypeStep Global) ReadError → List Token → Type 0
ParsesTyping (Ok steps) tokens = (tree : TypeTree) × IsWithin tree × (tokens ≡ Mark Colon ∷ type_tokens tree []) × (steps_of steps.items ≡ type_steps tree)
ParsesTyping (Err Memory) tokens = Unit {0}
ParsesTyping (Err Syntax) tokens = (tree : TypeTree) → IsWithin tree → tokens ≢ Mark Colon ∷ type_tokens tree []

-- the number that the tokens are
abbrev pub TakesNumber : Option ℕ → List Token → Type 0
TakesNumber None tokens = (digits : List ℕ) → tokens ≢ Number digits ∷ []
TakesNumber (Some number) tokens = (digits : List ℕ) × (tokens ≡ Number digits ∷ []) × (numeral_value digits ≡ number)

-- ---- commands

-- the kind of a command: its word has a name behind it, or it is one of the goal stack
abbrev pub kind_of_command : CommandTree → CommandKind
kind_of_command (thm_command name theorem) = Naming Thm
kind_of_command (show_command name) = Naming Show
kind_of_command (var_command name tree) = Naming Var
kind_of_command (def_command name tree) = Naming Def
kind_of_command (newtype_command name) = Naming NewType
kind_of_command (newconst_command name tree) = Naming NewConst
kind_of_command (save_command name) = Naming Save
kind_of_command (goal_command tree) = OfGoals Goal
kind_of_command (e_command tactic) = OfGoals Expand
kind_of_command b_command = OfGoals Back
kind_of_command p_command = OfGoals Print
kind_of_command (r_command digits) = OfGoals Rotate

abbrev pub command_word : CommandKind → List ℕ
command_word (Naming Thm) = codes "thm"
command_word (Naming Show) = codes "show"
command_word (Naming Var) = codes "var"
command_word (Naming Def) = codes "def"
command_word (Naming NewType) = codes "newtype"
command_word (Naming NewConst) = codes "newconst"
command_word (Naming Save) = codes "save"
command_word (OfGoals Goal) = codes "goal"
command_word (OfGoals Expand) = codes "e"
command_word (OfGoals Back) = codes "b"
command_word (OfGoals Print) = codes "p"
command_word (OfGoals Rotate) = codes "r"

-- the kind of command that a word names
abbrev pub command_kind_of : List ℕ → Option CommandKind
command_kind_of = meaning_in (map (λ entry. (entry.0.now, entry.1)) COMMANDS)

-- what follows the word
abbrev pub behind_tokens : CommandTree → List Token
behind_tokens (thm_command name theorem) = Name name ∷ Mark Equal ∷ theorem_tokens theorem
behind_tokens (show_command name) = Name name ∷ []
behind_tokens (var_command name tree) = Name name ∷ Mark Colon ∷ type_tokens tree []
behind_tokens (def_command name tree) = Name name ∷ Mark Equal ∷ quote_tokens tree []
behind_tokens (newtype_command name) = Name name ∷ []
behind_tokens (newconst_command name tree) = Name name ∷ Mark Colon ∷ type_tokens tree []
behind_tokens (save_command name) = Name name ∷ []
behind_tokens (goal_command tree) = quote_tokens tree []
behind_tokens (e_command tactic) = tactic_tokens tactic []
behind_tokens b_command = []
behind_tokens p_command = []
behind_tokens (r_command digits) = Number digits ∷ []

-- the name that such a command gives or shows
abbrev pub name_in_command : CommandTree → List ℕ
name_in_command (thm_command name theorem) = name
name_in_command (show_command name) = name
name_in_command (var_command name tree) = name
name_in_command (def_command name tree) = name
name_in_command (newtype_command name) = name
name_in_command (newconst_command name tree) = name
name_in_command (save_command name) = name
name_in_command _ = []

-- what follows the name
abbrev pub body_tokens : CommandTree → List Token
body_tokens (thm_command name theorem) = Mark Equal ∷ theorem_tokens theorem
body_tokens (var_command name tree) = Mark Colon ∷ type_tokens tree []
body_tokens (def_command name tree) = Mark Equal ∷ quote_tokens tree []
body_tokens (newconst_command name tree) = Mark Colon ∷ type_tokens tree []
body_tokens _ = []

-- the tree is of a command of this kind with this name, and these tokens follow the name
pub record IsBody (kind : NamingKind) (name : List ℕ) (tokens : List Token) (tree : CommandTree) : Type 0 where
  pub grammatical : IsCommandTree tree
  pub kind_is : kind_of_command tree ≡ Naming kind
  pub name_is : name_in_command tree ≡ name
  pub spelled : tokens ≡ body_tokens tree

abbrev pub ParsesBody : Result Command ReadError → NamingKind → List ℕ → List Token → Type 0
ParsesBody (Ok command) kind name tokens = (tree : CommandTree) × IsBody kind name tokens tree × IsCommand command tree
ParsesBody (Err Memory) kind name tokens = Unit {0}
ParsesBody (Err Syntax) kind name tokens = (tree : CommandTree) → ¬ (IsBody kind name tokens tree)

-- these tokens follow the word of a command of this kind
abbrev pub ParsesBehind : Result Command ReadError → CommandKind → List Token → Type 0
ParsesBehind (Ok command) kind tokens = (tree : CommandTree) × IsCommandTree tree × (kind_of_command tree ≡ kind) × (tokens ≡ behind_tokens tree) × IsCommand command tree
ParsesBehind (Err Memory) kind tokens = Unit {0}
ParsesBehind (Err Syntax) kind tokens = (tree : CommandTree) → IsCommandTree tree → kind_of_command tree ≡ kind → tokens ≢ behind_tokens tree

-- the tokens are those of a command, or of none
abbrev pub ParsesCommand : Result Command ReadError → List Token → Type 0
ParsesCommand (Ok command) tokens = (tree : CommandTree) × IsReadCommand tokens tree × IsCommand command tree
ParsesCommand (Err Memory) tokens = Unit {0}
ParsesCommand (Err Syntax) tokens = (tree : CommandTree) → ¬ (IsReadCommand tokens tree)
