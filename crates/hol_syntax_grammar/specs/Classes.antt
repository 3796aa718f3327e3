-- What the parts of the lexer answer.
use Rattle.std.specs.Prelude.{◌≡◌, ℕ, Bool, List, Option, None, Some, Result, Ok, Err}
use Rattle.hol_model.specs.declared.symbol.Symbol.{Symbol}
use Rattle.hol_model.specs.Texts.Token.{Token as TokenModel, Mark}
use Rattle.hol_model.specs.Texts.Lexing.{is_letter, is_digit, is_name_byte, is_blank}
use Rattle.hol_syntax_grammar.specs.declared.lexer.Class.{Class}
use Rattle.hol_syntax_grammar.specs.declared.lexer.Class.TheVariants.{Letter, Digit, NameByte, Blank}
use Rattle.hol_syntax_grammar.specs.declared.token.Token.{Token}
use Rattle.hol_syntax_grammar.specs.declared.type_reader.ReadError.{ReadError}
use Rattle.hol_syntax_grammar.specs.declared.type_reader.ReadError.TheVariants.{Memory, Syntax}
use Rattle.std.proofs.Common.{Vec, Global, Bor}
use Rattle.hol_syntax_grammar.specs.Views.{token_of, tokens_of}

abbrev pub test_of : Class → ℕ → Bool
test_of Letter = is_letter
test_of Digit = is_digit
test_of NameByte = is_name_byte
test_of Blank = is_blank

abbrev pub IsStripped : Option (Bor (List ℕ)) → Option (List ℕ) → Type 0
IsStripped None found = found ≡ None
IsStripped (Some rest) found = found ≡ Some rest.now

abbrev pub IsFound : Option (Symbol × Bor (List ℕ)) → Option (TokenModel × List ℕ) → Type 0
IsFound None found = found ≡ None
IsFound (Some x) found = found ≡ Some (Mark x.0, x.1.now)

abbrev pub IsFoundToken : Option (Token × Bor (List ℕ)) → Option (TokenModel × List ℕ) → Type 0
IsFoundToken None found = found ≡ None
IsFoundToken (Some x) found = found ≡ Some (token_of x.0, x.1.now)

-- these tokens and no others, unless memory runs out
abbrev pub IsLexed : Result (Vec Token Global) ReadError → List TokenModel → Type 0
IsLexed (Ok v) tokens = tokens_of v.items ≡ tokens
IsLexed (Err Memory) tokens = Unit {0}
IsLexed (Err Syntax) tokens = ⊥
