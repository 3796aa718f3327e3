-- Tokens from a place on.
use Rattle.std.specs.Prelude.{◌≡◌, ◌≢◌, ℕ, ◌+◌, ◌<◌, List, [], ◌∷◌, length, drop, Option, None, Some, Result, Ok, Err}
use Rattle.std.proofs.Common.{Bor, String, Global}
use Rattle.hol_model.specs.Texts.Token.{Token, Name}
use Rattle.hol_model.specs.Texts.Lexing.{IsToken}
use Rattle.std.specs.String.{string_bytes}
use Rattle.hol_syntax_grammar.specs.declared.token.Token.{Token as TokenHere}
use Rattle.hol_syntax_grammar.specs.declared.type_reader.ReadError.{ReadError}
use Rattle.hol_syntax_grammar.specs.declared.type_reader.ReadError.TheVariants.{Memory, Syntax}
use Rattle.hol_syntax_grammar.specs.Views.{tokens_of}

-- each of them is a token
abbrev pub AreTokens : List Token → Type 0
AreTokens [] = Unit {0}
AreTokens (token ∷ tokens) = IsToken token × AreTokens tokens

-- the tokens from a place on
abbrev pub behind : ℕ → List TokenHere → List Token
behind at tokens = tokens_of (drop at tokens)

-- the token stands at the place
pub record IsAt (token : Token) (at : ℕ) (tokens : List TokenHere) : Type 0 where
  pub within : at < length tokens
  pub front : behind at tokens ≡ token ∷ behind (at + 1) tokens

-- another token stands at the place, or none
abbrev pub IsNotAt : Token → ℕ → List TokenHere → Type 0
IsNotAt token at tokens = (rest : List Token) → behind at tokens ≢ token ∷ rest

-- the name at the place
abbrev pub IsNameAt : Option (Bor (List ℕ)) → ℕ → List TokenHere → Type 0
IsNameAt None at tokens = (name : List ℕ) → IsNotAt (Name name) at tokens
IsNameAt (Some name) at tokens = IsAt (Name name.now) at tokens

abbrev pub ReadsName : Result (String Global) ReadError → ℕ → List TokenHere → Type 0
ReadsName (Ok name) at tokens = IsAt (Name (string_bytes name)) at tokens
ReadsName (Err Memory) at tokens = Unit {0}
ReadsName (Err Syntax) at tokens = (name : List ℕ) → IsNotAt (Name name) at tokens
