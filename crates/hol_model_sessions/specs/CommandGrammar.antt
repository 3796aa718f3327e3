-- The grammar of commands.
use Rattle.std.specs.Prelude.{◌≡◌, ℕ, List, [], ◌∷◌, codes}
use Rattle.hol_model.specs.declared.symbol.Symbol.TheVariants.{Colon, Equal}
use Rattle.hol_model.specs.Texts.Token.{Token, Name, Number, Mark}
use Rattle.hol_model.specs.Texts.Lexing.{Lexes}
use Rattle.hol_model.specs.Texts.TypeGrammar.{TypeTree, type_tokens}
use Rattle.hol_model.specs.Texts.TermGrammar.{TermTree, IsWithin}
use Rattle.hol_model_sessions.specs.Commands.{RuleTree, rule_tokens, IsRuleTree, quote_tokens, IsQuotable}
use Rattle.hol_model_sessions.specs.ConversionGrammar.{ConversionUnit, unit_tokens, IsConversionUnit}
use Rattle.hol_model_sessions.specs.TacticGrammar.{Tactic, tactic_tokens, IsTactic}

-- What `thm` may ask for: what a rule gives, a tautology, or what a conversion makes of a term.
pub data TheoremTree : Type 0 where
  by_rule : RuleTree → TheoremTree
  by_tautology : TermTree → TheoremTree
  by_conversion : ConversionUnit → TermTree → TheoremTree

-- The number of `r` is told by its digits.
pub data CommandTree : Type 0 where
  var_command : List ℕ → TypeTree → CommandTree
  newtype_command : List ℕ → CommandTree
  newconst_command : List ℕ → TypeTree → CommandTree
  def_command : List ℕ → TermTree → CommandTree
  thm_command : List ℕ → TheoremTree → CommandTree
  show_command : List ℕ → CommandTree
  goal_command : TermTree → CommandTree
  e_command : Tactic TermTree → CommandTree
  b_command : CommandTree
  p_command : CommandTree
  r_command : List ℕ → CommandTree
  save_command : List ℕ → CommandTree

abbrev pub theorem_tokens : TheoremTree → List Token
theorem_tokens (by_rule rule) = rule_tokens rule
theorem_tokens (by_tautology tree) = Name (codes "TAUT") ∷ quote_tokens tree []
theorem_tokens (by_conversion conversion tree) = Name (codes "CONV") ∷ unit_tokens conversion (quote_tokens tree [])

abbrev pub command_tokens : CommandTree → List Token
command_tokens (var_command name tree) = Name (codes "var") ∷ Name name ∷ Mark Colon ∷ type_tokens tree []
command_tokens (newtype_command name) = Name (codes "newtype") ∷ Name name ∷ []
command_tokens (newconst_command name tree) = Name (codes "newconst") ∷ Name name ∷ Mark Colon ∷ type_tokens tree []
command_tokens (def_command name tree) = Name (codes "def") ∷ Name name ∷ Mark Equal ∷ quote_tokens tree []
command_tokens (thm_command name tree) = Name (codes "thm") ∷ Name name ∷ Mark Equal ∷ theorem_tokens tree
command_tokens (show_command name) = Name (codes "show") ∷ Name name ∷ []
command_tokens (goal_command tree) = Name (codes "goal") ∷ quote_tokens tree []
command_tokens (e_command tactic) = Name (codes "e") ∷ tactic_tokens tactic []
command_tokens b_command = Name (codes "b") ∷ []
command_tokens p_command = Name (codes "p") ∷ []
command_tokens (r_command digits) = Name (codes "r") ∷ Number digits ∷ []
command_tokens (save_command name) = Name (codes "save") ∷ Name name ∷ []

abbrev pub IsTheoremTree : TheoremTree → Type 0
IsTheoremTree (by_rule rule) = IsRuleTree rule
IsTheoremTree (by_tautology tree) = IsQuotable tree
IsTheoremTree (by_conversion conversion tree) = IsConversionUnit conversion × IsQuotable tree

-- types, terms and expressions are of their grammars, and not nested too deep
abbrev pub IsCommandTree : CommandTree → Type 0
IsCommandTree (var_command name tree) = IsWithin tree
IsCommandTree (newtype_command name) = Unit {0}
IsCommandTree (newconst_command name tree) = IsWithin tree
IsCommandTree (def_command name tree) = IsQuotable tree
IsCommandTree (thm_command name tree) = IsTheoremTree tree
IsCommandTree (show_command name) = Unit {0}
IsCommandTree (goal_command tree) = IsQuotable tree
IsCommandTree (e_command tactic) = IsTactic tactic
IsCommandTree b_command = Unit {0}
IsCommandTree p_command = Unit {0}
IsCommandTree (r_command digits) = Unit {0}
IsCommandTree (save_command name) = Unit {0}

-- The tokens are those of this command.
pub record IsReadCommand (tokens : List Token) (tree : CommandTree) : Type 0 where
  pub grammatical : IsCommandTree tree
  pub spelled : tokens ≡ command_tokens tree

-- The text is spelled as this command.
pub record SpellsCommand (text : List ℕ) (tree : CommandTree) : Type 0 where
  pub tokens : List Token
  pub lexed : Lexes text tokens
  pub read : IsReadCommand tokens tree
