-- Refiner expressions, their quoted terms read over a scope.
use Rattle.std.specs.Prelude.{◌≡◌, ◌⊎◌, List, [], map, Result, Ok, Err}
use Rattle.std.proofs.Common.{Vec, Global}
use Rattle.hol_model.specs.declared.fault.Fault.{Fault}
use Rattle.hol_model.specs.declared.fault.Fault.TheVariants.{Memory}
use Rattle.hol_model.specs.Terms.NamedTerm.{NamedTerm}
use Rattle.hol_model.specs.Texts.TermGrammar.{TermTree}
use Rattle.hol_model.specs.Texts.Reading.{Scope, ◌>>=◌, meaning}
use Rattle.hol_model.specs.Refining.Refiners as refiners
use Rattle.hol_model.specs.Refining.Combinators as combinators
use Rattle.hol_model_sessions.specs.TacticGrammar as grammar
use Rattle.hol_model_sessions.specs.SessionTools as session
use Rattle.hol_model_sessions.specs.SessionTools.{of_plain, of_named, of_quoted}
use Rattle.hol_tactic_exprs.specs.declared.leaf.Leaf.{Leaf}
use Rattle.hol_tactic_exprs.specs.declared.tac.Tac.{Tac}
use Rattle.hol_tactic_exprs.specs.declared.tac.Link.{Link}
use Rattle.hol_tactic_exprs.specs.Expressions.{leaf_of, tactic_of, tactics_of, link_of, links_of}
use Rattle.hol_syntax_grammar.specs.TermSteps.{FlatStep}
use Rattle.hol_tactic_grammar.specs.Quotes.{steps_of_tree}
use Rattle.hol_tactic_grammar.specs.Expressions.{Kept, Simple, plain, by_name, by_quote, conv_tac, rewrite_tac, Expression, simple, chain, orelse, repeat, try, Expressions, no_more, more, Joint}
use Rattle.hol_tactic_grammar.specs.Expressions.{on_all, on_each, Links, no_link, link, simple_here, expression_here, joint_here, all_expressions, all_links}
use Rattle.hol_tactic_grammar.specs.Tactics.{IsExpression}

-- ---- trees

-- the expression is that of a tree of the grammar
pub record IsOfTree (tac : Tac Kept) : Type 0 where
  pub tree : grammar.Tactic TermTree
  pub is : IsExpression tac tree

-- the tree with its quoted terms read, or the first refusal
abbrev pub tree_read : Scope → grammar.Tactic TermTree → Result (grammar.Tactic NamedTerm) Fault
tree_read scope tree = grammar.read_tactic (meaning scope []) tree

-- the expression is what the tree is read as
pub record IsTreeRead (scope : Scope) (tree : grammar.Tactic TermTree) (read : Tac NamedTerm) : Type 0 where
  pub tactic : grammar.Tactic NamedTerm
  pub meant : tree_read scope tree ≡ Ok tactic
  pub means : tactic_of read ≡ session.tactic_of tactic

abbrev pub AnswersTree : Scope → grammar.Tactic TermTree → Result (Tac NamedTerm) Fault → Type 0
AnswersTree scope tree (Ok read) = IsTreeRead scope tree read
AnswersTree scope tree (Err fault) = (fault ≡ Memory) ⊎ (tree_read scope tree ≡ Err fault)

-- whatever tree the expression is of, it is read as the tree is, or memory is short
abbrev pub ReadsTactic : Scope → Tac Kept → Result (Tac NamedTerm) Fault → Type 0
ReadsTactic scope tac result = (tree : grammar.Tactic TermTree) → IsExpression tac tree → AnswersTree scope tree result

-- ---- expressions: what may be read, from left to right, or the first refusal

-- the call answers this outcome of values, or that there is no memory
abbrev pub AnswersAs : {Here Value : Type 0} → (Here → Value) → Result Here Fault → Result Value Fault → Type 0
AnswersAs value (Ok x) outcome = outcome ≡ Ok (value x)
AnswersAs value (Err fault) outcome = (fault ≡ Memory) ⊎ (outcome ≡ Err fault)

-- what is made of one part
pub record IsReadOfOne {Part Value : Type 0} (Reads : Result Part Fault → Type 0) (make : Part → Value) (outcome : Result Value Fault) : Type 0 where
  pub part : Result Part Fault
  pub read : Reads part
  pub is : outcome ≡ part >>= λ x. Ok (make x)

-- what is made of two parts, one after the other
pub record IsReadInTurn {First Second Value : Type 0} (ReadsFirst : Result First Fault → Type 0) (ReadsSecond : Result Second Fault → Type 0)
    (make : First → Second → Value) (outcome : Result Value Fault) : Type 0 where
  pub first : Result First Fault
  pub second : Result Second Fault
  pub read_first : ReadsFirst first
  pub read_second : ReadsSecond second
  pub is : outcome ≡ first >>= λ x. second >>= λ y. Ok (make x y)

-- what a tree of these steps means
pub record IsMeaning (scope : Scope) (steps : List FlatStep) (outcome : Result NamedTerm Fault) : Type 0 where
  pub tree : TermTree
  pub spelled : steps ≡ steps_of_tree tree
  pub means : outcome ≡ meaning scope [] tree

abbrev pub quoted_leaf : grammar.QuotedTactic → NamedTerm → combinators.Tactic
quoted_leaf tactic term = combinators.leaf (of_quoted tactic term)

abbrev pub IsSimpleRead : Scope → Simple (List FlatStep) → Result combinators.Tactic Fault → Type 0
IsSimpleRead scope (plain tactic) outcome = outcome ≡ Ok (combinators.leaf (of_plain tactic))
IsSimpleRead scope (by_name tactic name) outcome = outcome ≡ Ok (of_named tactic name)
IsSimpleRead scope (by_quote tactic steps) outcome = IsReadOfOne (IsMeaning scope steps) (quoted_leaf tactic) outcome
IsSimpleRead scope (conv_tac conversion) outcome = outcome ≡ Ok (combinators.leaf (refiners.conv_tac conversion))
IsSimpleRead scope (rewrite_tac names) outcome = outcome ≡ Ok (combinators.leaf (refiners.rewrite_tac names))

abbrev mutual
  pub IsRead : Scope → Expression (List FlatStep) → Result combinators.Tactic Fault → Type 0
  IsRead scope (simple alone) outcome = IsSimpleRead scope alone outcome
  IsRead scope (chain first links) outcome = IsReadInTurn (IsRead scope first) (AreLinksRead scope links) combinators.chain outcome
  IsRead scope (orelse first others) outcome = IsReadInTurn (IsRead scope first) (AreRead scope others) combinators.orelse outcome
  IsRead scope (repeat inner) outcome = IsReadOfOne (IsRead scope inner) combinators.repeat outcome
  IsRead scope (try inner) outcome = IsReadOfOne (IsRead scope inner) combinators.try outcome

  pub AreRead : Scope → Expressions (List FlatStep) → Result combinators.Tactics Fault → Type 0
  AreRead scope no_more outcome = outcome ≡ Ok combinators.no_more
  AreRead scope (more first others) outcome = IsReadInTurn (IsRead scope first) (AreRead scope others) combinators.more outcome

  pub IsJointRead : Scope → Joint (List FlatStep) → Result combinators.Link Fault → Type 0
  IsJointRead scope (on_all each) outcome = IsReadOfOne (IsRead scope each) combinators.then_all outcome
  IsJointRead scope (on_each each) outcome = IsReadOfOne (AreRead scope each) combinators.then_each outcome

  pub AreLinksRead : Scope → Links (List FlatStep) → Result combinators.Links Fault → Type 0
  AreLinksRead scope no_link outcome = outcome ≡ Ok combinators.no_link
  AreLinksRead scope (link first others) outcome = IsReadInTurn (IsJointRead scope first) (AreLinksRead scope others) combinators.link outcome

-- ---- answers: as any outcome of what the program's value means

abbrev pub leaf_made : Leaf NamedTerm → combinators.Tactic
leaf_made made = combinators.leaf (leaf_of made)

abbrev pub tactics_made : Vec (Tac NamedTerm) Global → combinators.Tactics
tactics_made made = tactics_of made.items

abbrev pub links_made : Vec (Link NamedTerm) Global → combinators.Links
links_made made = links_of made.items

abbrev pub ReadsLeaf : Scope → Leaf Kept → Result (Leaf NamedTerm) Fault → Type 0
ReadsLeaf scope leaf result = (outcome : Result combinators.Tactic Fault) → IsSimpleRead scope (simple_here leaf) outcome → AnswersAs leaf_made result outcome

abbrev pub ReadsExpression : Scope → Tac Kept → Result (Tac NamedTerm) Fault → Type 0
ReadsExpression scope tac result = (outcome : Result combinators.Tactic Fault) → IsRead scope (expression_here tac) outcome → AnswersAs tactic_of result outcome

abbrev pub ReadsEach : Scope → List (Tac Kept) → Result (Vec (Tac NamedTerm) Global) Fault → Type 0
ReadsEach scope tacs result =
    (outcome : Result combinators.Tactics Fault) → AreRead scope (all_expressions (map expression_here tacs)) outcome → AnswersAs tactics_made result outcome

abbrev pub ReadsLink : Scope → Link Kept → Result (Link NamedTerm) Fault → Type 0
ReadsLink scope joint result = (outcome : Result combinators.Link Fault) → IsJointRead scope (joint_here joint) outcome → AnswersAs link_of result outcome

abbrev pub ReadsLinks : Scope → List (Link Kept) → Result (Vec (Link NamedTerm) Global) Fault → Type 0
ReadsLinks scope links result =
    (outcome : Result combinators.Links Fault) → AreLinksRead scope (all_links (map joint_here links)) outcome → AnswersAs links_made result outcome
