-- What the readers of lists of replacements answer.
use Rattle.std.specs.Prelude.{◌≡◌, ◌≢◌, ℕ, ◌≤◌, true, List, [], ◌∷◌, map, length, drop, Option, None, Some, Result, Ok, Err}
use Rattle.std.proofs.Common.{Vec, Bor, Global}
use Rattle.hol_model.specs.declared.symbol.Symbol.{Symbol}
use Rattle.hol_model.specs.Terms.Name.{is_type_variable_name}
use Rattle.hol_model.specs.Texts.Token.{Token, Name, Mark}
use Rattle.hol_model.specs.Texts.TypeGrammar.{TypeTree}
use Rattle.hol_model.specs.Texts.TermGrammar.{TermTree, IsWithin}
use Rattle.hol_model_sessions.specs.Commands.{pair_tokens, list_tokens, term_pair, type_pair, IsQuotable, ArePairs}
use Rattle.hol_model_sessions.specs.Commands as grammar
use Rattle.hol_syntax_grammar.specs.declared.token.Token.{Token as TokenHere}
use Rattle.hol_syntax_grammar.specs.declared.type_reader.ReadError.{ReadError}
use Rattle.hol_syntax_grammar.specs.declared.type_reader.ReadError.TheVariants.{Memory, Syntax}
use Rattle.hol_syntax_grammar.specs.Views.{tokens_of}
use Rattle.hol_script_commands.specs.declared.pairs.QuotedPair.{QuotedPair}
use Rattle.hol_script_commands.specs.declared.pairs.TermPair.{TermPair}
use Rattle.hol_script_commands.specs.declared.pairs.TypePair.{TypePair}
use Rattle.hol_script_commands.specs.Reading.{HasNoQuote}
use Rattle.hol_script_commands.specs.Views.{IsTermPair, AreTermPairs, IsTypePair, AreTypePairs}

-- the tokens of the two parts
abbrev pub parts_of : QuotedPair → List Token × List Token
parts_of pair = (tokens_of pair.new.now, tokens_of pair.old.now)

-- no backquote is among the tokens of a part
abbrev pub IsUnquoted : List Token × List Token → Type 0
IsUnquoted pair = HasNoQuote pair.0 × HasNoQuote pair.1

abbrev pub AreUnquoted : List (List Token × List Token) → Type 0
AreUnquoted [] = Unit {0}
AreUnquoted (pair ∷ pairs) = IsUnquoted pair × AreUnquoted pairs

-- a pair behind a mark, and how many tokens they are
abbrev pub TakesPair : Option (QuotedPair × ℕ) → Symbol → List TokenHere → Type 0
TakesPair None opening tokens = (pair : List Token × List Token) (rest : List Token) → IsUnquoted pair → tokens_of tokens ≢ Mark opening ∷ pair_tokens pair rest
TakesPair (Some x) opening tokens =
    IsUnquoted (parts_of x.0) × (tokens_of tokens ≡ Mark opening ∷ pair_tokens (parts_of x.0) (tokens_of (drop x.1 tokens))) × (1 ≤ x.1) × (x.1 ≤ length tokens)

abbrev pub TakesEmpty : Option (Bor (List TokenHere)) → List Token → Type 0
TakesEmpty None tokens = (rest : List Token) → tokens ≢ list_tokens [] rest
TakesEmpty (Some x) tokens = tokens ≡ list_tokens [] (tokens_of x.now)

abbrev pub TakesPairs : Result (Vec QuotedPair Global × Bor (List TokenHere)) ReadError → List Token → Type 0
TakesPairs (Ok x) tokens = AreUnquoted (map parts_of x.0.items) × (tokens ≡ list_tokens (map parts_of x.0.items) (tokens_of x.1.now))
TakesPairs (Err Memory) tokens = Unit {0}
TakesPairs (Err Syntax) tokens = (pairs : List (List Token × List Token)) (rest : List Token) → AreUnquoted pairs → tokens ≢ list_tokens pairs rest

-- a list, the name of a theorem and nothing else
abbrev pub ParsesPairs : Result (Vec QuotedPair Global × Bor (List ℕ)) ReadError → List Token → Type 0
ParsesPairs (Ok x) tokens = AreUnquoted (map parts_of x.0.items) × (tokens ≡ list_tokens (map parts_of x.0.items) (Name x.1.now ∷ []))
ParsesPairs (Err Memory) tokens = Unit {0}
ParsesPairs (Err Syntax) tokens =
    (pairs : List (List Token × List Token)) (name : List ℕ) → AreUnquoted pairs → tokens ≢ list_tokens pairs (Name name ∷ [])

abbrev pub ParsesTermPair : Result TermPair ReadError → List Token × List Token → Type 0
ParsesTermPair (Ok pair) parts = (trees : TermTree × TermTree) × IsQuotable trees.0 × IsQuotable trees.1 × (term_pair trees ≡ parts) × IsTermPair pair trees
ParsesTermPair (Err Memory) parts = Unit {0}
ParsesTermPair (Err Syntax) parts = (trees : TermTree × TermTree) → IsQuotable trees.0 → IsQuotable trees.1 → term_pair trees ≢ parts

abbrev pub ParsesTermPairs : Result (Vec TermPair Global) ReadError → List (List Token × List Token) → Type 0
ParsesTermPairs (Ok pairs) parts = (trees : List (TermTree × TermTree)) × ArePairs trees × (map term_pair trees ≡ parts) × AreTermPairs pairs.items trees
ParsesTermPairs (Err Memory) parts = Unit {0}
ParsesTermPairs (Err Syntax) parts = (trees : List (TermTree × TermTree)) → ArePairs trees → map term_pair trees ≢ parts

abbrev pub TakesTypeVariable : Option (Bor (List ℕ)) → List Token → Type 0
TakesTypeVariable None tokens = (name : List ℕ) → is_type_variable_name name ≡ true → tokens ≢ Name name ∷ []
TakesTypeVariable (Some x) tokens = (is_type_variable_name x.now ≡ true) × (tokens ≡ Name x.now ∷ [])

abbrev pub ParsesTypePair : Result TypePair ReadError → List Token × List Token → Type 0
ParsesTypePair (Ok pair) parts =
    (trees : TypeTree × List ℕ) × IsWithin trees.0 × (type_pair trees ≡ parts) × IsTypePair pair trees
ParsesTypePair (Err Memory) parts = Unit {0}
ParsesTypePair (Err Syntax) parts = (trees : TypeTree × List ℕ) → IsWithin trees.0 → is_type_variable_name trees.1 ≡ true → type_pair trees ≢ parts

abbrev pub ParsesTypePairs : Result (Vec TypePair Global) ReadError → List (List Token × List Token) → Type 0
ParsesTypePairs (Ok pairs) parts = (trees : List (TypeTree × List ℕ)) × grammar.AreTypePairs trees × (map type_pair trees ≡ parts) × AreTypePairs pairs.items trees
ParsesTypePairs (Err Memory) parts = Unit {0}
ParsesTypePairs (Err Syntax) parts = (trees : List (TypeTree × List ℕ)) → grammar.AreTypePairs trees → map type_pair trees ≢ parts
