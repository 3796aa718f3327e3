-- The statements that a text is one expression's or none's.
use Rattle.std.specs.Prelude.{◌≡◌, ℕ, List, []}
use Rattle.hol_model.specs.Texts.Token.{Token}
use Rattle.hol_model.specs.Texts.TypeGrammar.{TypeTree, type_tokens}
use Rattle.hol_model.specs.Texts.TermGrammar.{TermTree, IsWithin}
use Rattle.hol_model_sessions.specs.Commands.{RuleTree, rule_tokens, IsRuleTree, quoted, quote_tokens, IsQuotable}
use Rattle.hol_model.specs.Texts.Lexing.{Lexes}
use Rattle.hol_model_sessions.specs.ConversionGrammar.{ConversionUnit, unit_tokens}
use Rattle.hol_model_sessions.specs.TacticGrammar.{Tactic, tactic_tokens, HasQuotables}
use Rattle.hol_model_sessions.specs.CommandGrammar.{CommandTree, SpellsCommand}

-- the same parse, and the same rest
pub record SameParse {A : Type 0} (a b : A) (r s : List Token) : Type 0 where
  pub same : a ≡ b
  pub rest : r ≡ s

-- the tokens begin with one quoted term
abbrev pub QuotesAreUnambiguous : Type 0
QuotesAreUnambiguous = (a b : TermTree) (r s : List Token) → IsQuotable a → IsQuotable b → quote_tokens a r ≡ quote_tokens b s → SameParse a b r s

-- the tokens begin with one conversion
abbrev pub ConversionsAreUnambiguous : Type 0
ConversionsAreUnambiguous = (a b : ConversionUnit) (r s : List Token) → unit_tokens a r ≡ unit_tokens b s → SameParse a b r s

-- the tokens are one refiner expression's
abbrev pub TacticsAreUnambiguous : Type 0
TacticsAreUnambiguous = (a b : Tactic TermTree) → HasQuotables a → HasQuotables b → tactic_tokens a [] ≡ tactic_tokens b [] → a ≡ b

-- the tokens begin with one quoted type
abbrev pub TypeQuotesAreUnambiguous : Type 0
TypeQuotesAreUnambiguous =
    (a b : TypeTree) (r s : List Token) → IsWithin a → IsWithin b → quoted (type_tokens a []) r ≡ quoted (type_tokens b []) s → SameParse a b r s

-- the same of types, and of rules with their arguments, where nothing stands behind them
abbrev pub TypesAreUnambiguous : Type 0
TypesAreUnambiguous = (a b : TypeTree) → IsWithin a → IsWithin b → type_tokens a [] ≡ type_tokens b [] → a ≡ b

abbrev pub RulesAreUnambiguous : Type 0
RulesAreUnambiguous = (a b : RuleTree) → IsRuleTree a → IsRuleTree b → rule_tokens a ≡ rule_tokens b → a ≡ b

-- a text has one list of tokens
abbrev pub TokensAreUnambiguous : Type 0
TokensAreUnambiguous = (text : List ℕ) (a b : List Token) → Lexes text a → Lexes text b → a ≡ b

pub record PartsAreUnambiguous : Type 0 where
  pub tokens : TokensAreUnambiguous
  pub types : TypesAreUnambiguous
  pub quotes : QuotesAreUnambiguous
  pub type_quotes : TypeQuotesAreUnambiguous

-- a text is one command's
abbrev pub CommandsAreUnambiguous : Type 0
CommandsAreUnambiguous = (text : List ℕ) (a b : CommandTree) → SpellsCommand text a → SpellsCommand text b → a ≡ b
