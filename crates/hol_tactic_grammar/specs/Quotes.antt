-- What the reader of quoted terms answers.
use Rattle.std.specs.Prelude.{◌≡◌, ◌≢◌, ℕ, ◌+◌, ◌≤◌, List, [], ◌∷◌, ◌++◌, Bool, true, false, length, Option, None, Some, Result, Ok, Err}
use Rattle.std.proofs.Common.{Vec, Global}
use Rattle.hol_model.specs.declared.symbol.Symbol.{Symbol}
use Rattle.hol_model.specs.declared.symbol.Symbol.TheVariants.{Backquote}
use Rattle.hol_model.specs.Texts.Token.{Token, Mark}
use Rattle.hol_model.specs.Texts.TermGrammar.{TermTree}
use Rattle.hol_model_sessions.specs.Commands.{quote_tokens, IsQuotable}
use Rattle.hol_syntax_grammar.specs.declared.token.Token.{Token as TokenHere}
use Rattle.hol_syntax_grammar.specs.declared.steps.TermStep.{TermStep}
use Rattle.hol_syntax_grammar.specs.declared.type_reader.ReadError.{ReadError}
use Rattle.hol_syntax_grammar.specs.declared.type_reader.ReadError.TheVariants.{Memory, Syntax}
use Rattle.hol_syntax_grammar.specs.TermSteps.{FlatStep, term_steps, flat_steps}
use Rattle.hol_syntax_grammar.specs.Steps.{flat_steps_of}
use Rattle.hol_tactic_grammar.specs.Tokens.{behind, IsAt}
use Rattle.hol_tactic_grammar.specs.Conversions.{Reaches}

-- a backquote
abbrev pub is_quote_symbol : Symbol → Bool
is_quote_symbol Backquote = true
is_quote_symbol _ = false

abbrev pub is_quote : Token → Bool
is_quote (Mark symbol) = is_quote_symbol symbol
is_quote _ = false

-- no backquote is among them
abbrev pub HasNoQuote : List Token → Type 0
HasNoQuote [] = Unit {0}
HasNoQuote (token ∷ tokens) = (is_quote token ≡ false) × HasNoQuote tokens

-- no backquote stands from a place up to another
pub record IsUnquoted (at end : ℕ) (tokens : List TokenHere) : Type 0 where
  pub further : at ≤ end
  pub before : List Token
  pub count : at + length before ≡ end
  pub split : behind at tokens ≡ before ++ behind end tokens
  pub none : HasNoQuote before

-- the place of the first backquote from a place on
abbrev pub FindsQuote : Option ℕ → ℕ → List TokenHere → Type 0
FindsQuote None at tokens = HasNoQuote (behind at tokens)
FindsQuote (Some end) at tokens = IsUnquoted at end tokens × IsAt (Mark Backquote) end tokens

-- what a quoted term is kept as
abbrev pub steps_of_tree : TermTree → List FlatStep
steps_of_tree tree = flat_steps (term_steps tree)

-- the tokens are those of a quoted term, and then the rest, whatever term is read
pub record IsQuote (tokens rest : List Token) (steps : List FlatStep) : Type 0 where
  pub tree : TermTree
  pub quotable : IsQuotable tree
  pub spelled : tokens ≡ quote_tokens tree rest
  pub means : steps ≡ steps_of_tree tree
  pub only : (other : TermTree) (left : List Token) → IsQuotable other → tokens ≡ quote_tokens other left → left ≡ rest

abbrev pub ReadsQuote : Result (Vec TermStep Global × ℕ) ReadError → ℕ → List TokenHere → Type 0
ReadsQuote (Ok x) at tokens = Reaches at x.1 tokens × IsQuote (behind at tokens) (behind x.1 tokens) (flat_steps_of x.0.items)
ReadsQuote (Err Memory) at tokens = Unit {0}
ReadsQuote (Err Syntax) at tokens = (tree : TermTree) (rest : List Token) → IsQuotable tree → behind at tokens ≢ quote_tokens tree rest

-- the answer for a quoted term, where its end is known
abbrev pub Quotes : Result (Vec TermStep Global) ReadError → ℕ → ℕ → List TokenHere → Type 0
Quotes (Ok steps) at next tokens = ReadsQuote (Ok (steps, next)) at tokens
Quotes (Err error) at next tokens = ReadsQuote (Err error) at tokens
