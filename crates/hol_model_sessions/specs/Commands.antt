-- The grammar of commands.
use Rattle.std.specs.Prelude.{◌≡◌, ℕ, ◌≤◌, true, List, [], ◌∷◌, ◌++◌, length, map, codes}
use Rattle.hol_model.specs.declared.limits.TheConstants.{TERM_NESTING_LIMIT}
use Rattle.hol_model.specs.declared.symbol.Symbol.TheVariants.{Backquote, Comma, Semicolon, OpenBracket, CloseBracket}
use Rattle.hol_model.specs.Terms.Name.{is_type_variable_name}
use Rattle.hol_model_rules.specs.declared.rule_name.RuleName.{RuleName}
use Rattle.hol_model_rules.specs.RuleForms.{form_of}
use Rattle.hol_model.specs.Texts.Token.{Token, Name, Mark}
use Rattle.hol_model.specs.Texts.TypeGrammar.{TypeTree, type_tokens}
use Rattle.hol_model.specs.Texts.TermGrammar.{TermTree, IsWithin, IsTermTree, term_depth, pieces, all_tokens}

-- A rule with its arguments: terms and then names of theorems, or pairs (new, old) and the name of a theorem.
pub data RuleTree : Type 0 where
  by_name : RuleName → List TermTree → List (List ℕ) → RuleTree
  by_inst : List (TermTree × TermTree) → List ℕ → RuleTree
  by_inst_type : List (TypeTree × List ℕ) → List ℕ → RuleTree

-- the word of a rule
abbrev pub rule_word : RuleTree → List ℕ
rule_word (by_name rule trees names) = (form_of rule).word
rule_word (by_inst pairs a) = codes "INST"
rule_word (by_inst_type pairs a) = codes "INST_TYPE"

-- tokens between two backquotes, and then the rest
abbrev pub quoted : List Token → List Token → List Token
quoted inner rest = Mark Backquote ∷ (inner ++ Mark Backquote ∷ rest)

-- a term between backquotes, and then the rest
abbrev pub quote_tokens : TermTree → List Token → List Token
quote_tokens tree rest = quoted (all_tokens (pieces tree [])) rest

-- two quoted parts with a comma between them, and then the rest
abbrev pub pair_tokens : List Token × List Token → List Token → List Token
pair_tokens pair rest = quoted pair.0 (Mark Comma ∷ quoted pair.1 rest)

-- pairs, each behind a semicolon, the bracket that closes the list, and then the rest
abbrev pub further_tokens : List (List Token × List Token) → List Token → List Token
further_tokens [] rest = Mark CloseBracket ∷ rest
further_tokens (pair ∷ pairs) rest = Mark Semicolon ∷ pair_tokens pair (further_tokens pairs rest)

-- the pairs of a list, the first without a semicolon, and the bracket that closes the list, and then the rest
abbrev pub first_tokens : List (List Token × List Token) → List Token → List Token
first_tokens [] rest = Mark CloseBracket ∷ rest
first_tokens (pair ∷ pairs) rest = pair_tokens pair (further_tokens pairs rest)

-- a list of pairs in brackets, and then the rest
abbrev pub list_tokens : List (List Token × List Token) → List Token → List Token
list_tokens pairs rest = Mark OpenBracket ∷ first_tokens pairs rest

-- the tokens of the parts of a pair
abbrev pub term_pair : TermTree × TermTree → List Token × List Token
term_pair pair = (all_tokens (pieces pair.0 []), all_tokens (pieces pair.1 []))

abbrev pub type_pair : TypeTree × List ℕ → List Token × List Token
type_pair pair = (type_tokens pair.0 [], Name pair.1 ∷ [])

-- quoted terms, one after another, and then the rest
abbrev pub quotes_tokens : List TermTree → List Token → List Token
quotes_tokens [] rest = rest
quotes_tokens (tree ∷ trees) rest = quote_tokens tree (quotes_tokens trees rest)

abbrev pub argument_tokens : RuleTree → List Token
argument_tokens (by_name rule trees names) = quotes_tokens trees (map Name names)
argument_tokens (by_inst pairs a) = list_tokens (map term_pair pairs) (Name a ∷ [])
argument_tokens (by_inst_type pairs a) = list_tokens (map type_pair pairs) (Name a ∷ [])

abbrev pub rule_tokens : RuleTree → List Token
rule_tokens rule = Name (rule_word rule) ∷ argument_tokens rule

-- a term of the grammar that is not nested too deep
abbrev pub IsQuotable : TermTree → Type 0
IsQuotable tree = IsTermTree tree × (term_depth tree ≤ TERM_NESTING_LIMIT)

-- each part is quotable
abbrev pub ArePairs : List (TermTree × TermTree) → Type 0
ArePairs [] = Unit {0}
ArePairs (pair ∷ pairs) = IsQuotable pair.0 × IsQuotable pair.1 × ArePairs pairs

-- each new part is a type that is not nested too deep, each old part a type variable
abbrev pub AreTypePairs : List (TypeTree × List ℕ) → Type 0
AreTypePairs [] = Unit {0}
AreTypePairs (pair ∷ pairs) = IsWithin pair.0 × (is_type_variable_name pair.1 ≡ true) × AreTypePairs pairs

-- each term is quotable
abbrev pub AreQuotable : List TermTree → Type 0
AreQuotable [] = Unit {0}
AreQuotable (tree ∷ trees) = IsQuotable tree × AreQuotable trees

abbrev pub IsRuleTree : RuleTree → Type 0
IsRuleTree (by_name rule trees names) = (length trees ≡ (form_of rule).terms) × (length names ≡ (form_of rule).theorems) × AreQuotable trees
IsRuleTree (by_inst pairs a) = ArePairs pairs
IsRuleTree (by_inst_type pairs a) = AreTypePairs pairs
