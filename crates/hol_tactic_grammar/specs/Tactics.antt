-- What the readers of refiner expressions answer.
use Rattle.std.specs.Prelude.{◌≡◌, ◌≢◌, ℕ, ◌+◌, ◌≤◌, List, [], ◌∷◌, codes, map, Result, Ok, Err}
use Rattle.std.specs.String.{string_bytes}
use Rattle.std.proofs.Common.{Vec, String, Global}
use Rattle.hol_model.specs.declared.symbol.Symbol.TheVariants.{OpenBracket}
use Rattle.hol_model.specs.Texts.Token.{Token, Name, Mark}
use Rattle.hol_model.specs.Texts.TermGrammar.{TermTree}
use Rattle.hol_model_sessions.specs.TacticGrammar.{Tactic, TacticLinks, Tactics, TacticChoice, OtherTactics, TacticUnit, then_all, then_each, name_tokens, tactic_tokens, first_tokens}
use Rattle.hol_model_sessions.specs.TacticGrammar.{choice_tokens, tactic_unit_tokens, tactic_depth, link_depth, list_depth, choice_depth, other_depth, tactic_unit_depth, HasQuotables}
use Rattle.hol_model_sessions.specs.TacticGrammar.{HasQuotableLinks, HasQuotableList, HasQuotableChoice, HasQuotableOthers, HasQuotableUnit, IsTactic}
use Rattle.hol_tactic_exprs.specs.declared.tac.Tac.{Tac}
use Rattle.hol_syntax_grammar.specs.declared.token.Token.{Token as TokenHere}
use Rattle.hol_syntax_grammar.specs.declared.type_reader.ReadError.{ReadError}
use Rattle.hol_syntax_grammar.specs.declared.type_reader.ReadError.TheVariants.{Memory, Syntax}
use Rattle.hol_syntax_grammar.specs.TermSteps.{FlatStep}
use Rattle.hol_syntax_grammar.specs.Views.{tokens_of}
use Rattle.hol_tactic_grammar.specs.Tokens.{behind}
use Rattle.hol_tactic_grammar.specs.Conversions.{Without, Reaches}
use Rattle.hol_tactic_grammar.specs.Quotes.{steps_of_tree}
use Rattle.hol_tactic_grammar.specs.declared.tactics.Prefix.{Prefix}
use Rattle.hol_tactic_grammar.specs.declared.tactics.Prefix.TheVariants.{Repeat, Try}
use Rattle.hol_tactic_grammar.specs.Expressions.{Kept, Expression, Expressions, Joint, on_all, on_each, expression_of, expressions_of, expression_of_choice, expression_of_unit, expression_here, repeat, try}

-- what an expression means, its quoted terms by their steps
abbrev pub Meaning : Type 0
Meaning = Expression (List FlatStep)

-- an expression does not go on with the rest
pub record Ends (rest : List Token) : Type 0 where
  pub then : Without (codes "THEN") rest
  pub thenl : Without (codes "THENL") rest
  pub else : Without (codes "ORELSE") rest

-- not nested too deep, with terms of the grammar
pub record FitsUnit (room : ℕ) (tree : TacticUnit TermTree) : Type 0 where
  pub nested : tactic_unit_depth tree ≤ room
  pub quotable : HasQuotableUnit tree

pub record FitsOthers (room : ℕ) (tree : OtherTactics TermTree) : Type 0 where
  pub nested : other_depth tree ≤ room
  pub quotable : HasQuotableOthers tree

pub record FitsChoice (room : ℕ) (tree : TacticChoice TermTree) : Type 0 where
  pub nested : choice_depth tree ≤ room
  pub quotable : HasQuotableChoice tree

pub record FitsLinks (room : ℕ) (tree : TacticLinks TermTree) : Type 0 where
  pub nested : link_depth tree ≤ room
  pub quotable : HasQuotableLinks tree

pub record Fits (room : ℕ) (tree : Tactic TermTree) : Type 0 where
  pub nested : tactic_depth tree ≤ room
  pub quotable : HasQuotables tree

pub record FitsList (room : ℕ) (tree : Tactics TermTree) : Type 0 where
  pub nested : list_depth tree ≤ room
  pub quotable : HasQuotableList tree

-- the tokens are those of a unit, and then the rest, whatever unit is read
pub record IsUnit (room : ℕ) (tokens rest : List Token) (meaning : Meaning) : Type 0 where
  pub tree : TacticUnit TermTree
  pub fits : FitsUnit room tree
  pub spelled : tokens ≡ tactic_unit_tokens tree rest
  pub means : meaning ≡ expression_of_unit steps_of_tree tree
  pub only : (other : TacticUnit TermTree) (left : List Token) → FitsUnit room other → tokens ≡ tactic_unit_tokens other left → left ≡ rest

abbrev pub IsNoUnit : ℕ → List Token → Type 0
IsNoUnit room tokens = (tree : TacticUnit TermTree) (rest : List Token) → FitsUnit room tree → tokens ≢ tactic_unit_tokens tree rest

-- the same for a chain of ORELSE that does not go on
pub record IsChoice (room : ℕ) (tokens rest : List Token) (meaning : Meaning) : Type 0 where
  pub tree : TacticChoice TermTree
  pub fits : FitsChoice room tree
  pub spelled : tokens ≡ choice_tokens tree rest
  pub means : meaning ≡ expression_of_choice steps_of_tree tree
  pub only : (other : TacticChoice TermTree) (left : List Token) → FitsChoice room other → Without (codes "ORELSE") left → tokens ≡ choice_tokens other left → left ≡ rest

abbrev pub IsNoChoice : ℕ → List Token → Type 0
IsNoChoice room tokens = (tree : TacticChoice TermTree) (rest : List Token) → FitsChoice room tree → Without (codes "ORELSE") rest → tokens ≢ choice_tokens tree rest

-- THEN or THENL, with what it goes on with
pub data LinkTree : Type 0 where
  with_choice : TacticChoice TermTree → LinkTree
  with_list : Tactics TermTree → LinkTree

abbrev pub linked : LinkTree → TacticLinks TermTree → TacticLinks TermTree
linked (with_choice choice) links = then_all choice links
linked (with_list list) links = then_each list links

abbrev pub joint_tokens : LinkTree → List Token → List Token
joint_tokens (with_choice choice) rest = Name (codes "THEN") ∷ choice_tokens choice rest
joint_tokens (with_list list) rest = Name (codes "THENL") ∷ Mark OpenBracket ∷ first_tokens list rest

abbrev pub joint_depth : LinkTree → ℕ
joint_depth (with_choice choice) = choice_depth choice
joint_depth (with_list list) = 1 + list_depth list

abbrev pub HasQuotableJoint : LinkTree → Type 0
HasQuotableJoint (with_choice choice) = HasQuotableChoice choice
HasQuotableJoint (with_list list) = HasQuotableList list

pub record FitsJoint (room : ℕ) (tree : LinkTree) : Type 0 where
  pub nested : joint_depth tree ≤ room
  pub quotable : HasQuotableJoint tree

abbrev pub joint_of : LinkTree → Joint (List FlatStep)
joint_of (with_choice choice) = on_all (expression_of_choice steps_of_tree choice)
joint_of (with_list list) = on_each (expressions_of steps_of_tree list)

pub record IsLink (room : ℕ) (tokens rest : List Token) (meaning : Joint (List FlatStep)) : Type 0 where
  pub tree : LinkTree
  pub fits : FitsJoint room tree
  pub spelled : tokens ≡ joint_tokens tree rest
  pub means : meaning ≡ joint_of tree
  pub only : (other : LinkTree) (left : List Token) → FitsJoint room other → Without (codes "ORELSE") left → tokens ≡ joint_tokens other left → left ≡ rest

abbrev pub IsNoLink : ℕ → List Token → Type 0
IsNoLink room tokens = (tree : LinkTree) (rest : List Token) → FitsJoint room tree → Without (codes "ORELSE") rest → tokens ≢ joint_tokens tree rest

-- a list in brackets
pub record IsList (room : ℕ) (tokens rest : List Token) (meaning : Expressions (List FlatStep)) : Type 0 where
  pub tree : Tactics TermTree
  pub fits : FitsList room tree
  pub spelled : tokens ≡ Mark OpenBracket ∷ first_tokens tree rest
  pub means : meaning ≡ expressions_of steps_of_tree tree
  pub only : (other : Tactics TermTree) (left : List Token) → FitsList room other → tokens ≡ Mark OpenBracket ∷ first_tokens other left → left ≡ rest

abbrev pub IsNoList : ℕ → List Token → Type 0
IsNoList room tokens = (tree : Tactics TermTree) (rest : List Token) → FitsList room tree → tokens ≢ Mark OpenBracket ∷ first_tokens tree rest

-- an expression that does not go on
pub record IsWhole (room : ℕ) (tokens rest : List Token) (meaning : Meaning) : Type 0 where
  pub tree : Tactic TermTree
  pub fits : Fits room tree
  pub spelled : tokens ≡ tactic_tokens tree rest
  pub means : meaning ≡ expression_of steps_of_tree tree
  pub only : (other : Tactic TermTree) (left : List Token) → Fits room other → Ends left → tokens ≡ tactic_tokens other left → left ≡ rest

abbrev pub IsNoWhole : ℕ → List Token → Type 0
IsNoWhole room tokens = (tree : Tactic TermTree) (rest : List Token) → Fits room tree → Ends rest → tokens ≢ tactic_tokens tree rest

-- names in brackets
pub record AreNames (tokens rest : List Token) (names : List (List ℕ)) : Type 0 where
  pub spelled : tokens ≡ Mark OpenBracket ∷ name_tokens names rest
  pub only : (others : List (List ℕ)) (left : List Token) → tokens ≡ Mark OpenBracket ∷ name_tokens others left → left ≡ rest

-- ---- answers

abbrev pub ReadsNames : Result (Vec (String Global) Global × ℕ) ReadError → ℕ → List TokenHere → Type 0
ReadsNames (Ok x) at tokens = Reaches at x.1 tokens × AreNames (behind at tokens) (behind x.1 tokens) (map string_bytes x.0.items)
ReadsNames (Err Memory) at tokens = Unit {0}
ReadsNames (Err Syntax) at tokens = (names : List (List ℕ)) (rest : List Token) → behind at tokens ≢ Mark OpenBracket ∷ name_tokens names rest

abbrev pub ReadsUnit : Result (Tac Kept × ℕ) ReadError → ℕ → ℕ → List TokenHere → Type 0
ReadsUnit (Ok x) at room tokens = Reaches at x.1 tokens × IsUnit room (behind at tokens) (behind x.1 tokens) (expression_here x.0)
ReadsUnit (Err Memory) at room tokens = Unit {0}
ReadsUnit (Err Syntax) at room tokens = IsNoUnit room (behind at tokens)

-- what a prefix makes of an expression
abbrev pub with_prefix : Prefix → Meaning → Meaning
with_prefix Repeat meaning = repeat meaning
with_prefix Try meaning = try meaning

-- the expression means this, or memory is short
abbrev pub Means : Result (Tac Kept) ReadError → Meaning → Type 0
Means (Ok tactic) meaning = expression_here tactic ≡ meaning
Means (Err Memory) meaning = Unit {0}
Means (Err Syntax) meaning = ⊥

-- the value is the expression of the tree, its quoted terms by their steps
abbrev pub IsExpression : Tac Kept → Tactic TermTree → Type 0
IsExpression tactic tree = expression_here tactic ≡ expression_of steps_of_tree tree

-- the expression that all tokens are
abbrev pub ReadsTactic : Result (Tac Kept) ReadError → List TokenHere → Type 0
ReadsTactic (Ok tactic) tokens = (tree : Tactic TermTree) × IsTactic tree × (tokens_of tokens ≡ tactic_tokens tree []) × IsExpression tactic tree
ReadsTactic (Err Memory) tokens = Unit {0}
ReadsTactic (Err Syntax) tokens = (tree : Tactic TermTree) → IsTactic tree → tokens_of tokens ≢ tactic_tokens tree []
