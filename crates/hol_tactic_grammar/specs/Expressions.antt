-- Refiner expressions by their meaning: parentheses leave no trace, and a chain of one part is that part.
use Rattle.std.specs.Prelude.{ℕ, List, [], ◌∷◌, map}
use Rattle.std.specs.String.{string_bytes}
use Rattle.std.proofs.Common.{Vec, Global}
use Rattle.hol_model.specs.Refining.Conversions.{Conversion}
use Rattle.hol_model_sessions.specs.TacticGrammar as grammar
use Rattle.hol_model_sessions.specs.TacticGrammar.{PlainTactic, AllTac, NoTac, AssumptionTac, ReflTac, ConjTac, EqTac, Disj1Tac, Disj2Tac, DischTac, GenTac, TautTac, NamedTactic, AcceptTac}
use Rattle.hol_model_sessions.specs.TacticGrammar.{AssumeTac, MpTac, DisjCasesTac, ChooseTac, Host, QuotedTactic, ExistsTac, UndischTac, TacticLeaf, Tactic, then_chain, TacticLinks, no_more_then}
use Rattle.hol_model_sessions.specs.TacticGrammar.{then_all, then_each, Tactics, no_tactics, tactic_and, TacticChoice, orelse_chain, OtherTactics, no_more_orelse, TacticUnit, repeated, tried}
use Rattle.hol_model_sessions.specs.TacticGrammar.{enclosed, leaf}
use Rattle.hol_model_sessions.specs.SessionTools.{conversion_of_unit}
use Rattle.hol_tactic_exprs.specs.Expressions.{conversion_of}
use Rattle.hol_tactic_exprs.specs.declared.leaf.Leaf.{Leaf}
use Rattle.hol_tactic_exprs.specs.declared.leaf.Leaf.TheVariants as leaves
use Rattle.hol_tactic_exprs.specs.declared.tac.Tac as tac
use Rattle.hol_tactic_exprs.specs.declared.tac.Tac.{Tac, Row_of-Tac, end_of-Tac, more_of-Tac, Row_of-Link, end_of-Link, more_of-Link}
use Rattle.hol_tactic_exprs.specs.declared.tac.Link as links
use Rattle.hol_tactic_exprs.specs.declared.tac.Link.{Link}
use Rattle.hol_syntax_grammar.specs.declared.steps.TermStep.{TermStep}
use Rattle.hol_syntax_grammar.specs.TermSteps.{FlatStep}
use Rattle.hol_syntax_grammar.specs.Steps.{flat_steps_of}

-- A refiner without parts; what stands for a quoted term is left open.
pub data Simple (Quote : Type 0) : Type 0 where
  plain : PlainTactic → Simple Quote
  by_name : NamedTactic → List ℕ → Simple Quote
  by_quote : QuotedTactic → Quote → Simple Quote
  conv_tac : Conversion → Simple Quote
  rewrite_tac : List (List ℕ) → Simple Quote

mutual
  pub data Expression (Quote : Type 0) : Type 0 where
    simple : Simple Quote → Expression Quote
    chain : Expression Quote → Links Quote → Expression Quote
    orelse : Expression Quote → Expressions Quote → Expression Quote
    repeat : Expression Quote → Expression Quote
    try : Expression Quote → Expression Quote

  pub data Expressions (Quote : Type 0) : Type 0 where
    no_more : Expressions Quote
    more : Expression Quote → Expressions Quote → Expressions Quote

  pub data Joint (Quote : Type 0) : Type 0 where
    on_all : Expression Quote → Joint Quote
    on_each : Expressions Quote → Joint Quote

  pub data Links (Quote : Type 0) : Type 0 where
    no_link : Links Quote
    link : Joint Quote → Links Quote → Links Quote

-- ---- of trees

abbrev pub then_on : {Quote : Type 0} → Expression Quote → Links Quote → Expression Quote
then_on first no_link = first
then_on first (link next others) = chain first (link next others)

abbrev pub or_else : {Quote : Type 0} → Expression Quote → Expressions Quote → Expression Quote
or_else first no_more = first
or_else first (more next others) = orelse first (more next others)

-- with what stands for its quoted terms
abbrev pub simple_of_leaf : {Tree Quote : Type 0} → (Tree → Quote) → TacticLeaf Tree → Simple Quote
simple_of_leaf quote (grammar.plain tactic) = plain tactic
simple_of_leaf quote (grammar.by_name tactic name) = by_name tactic name
simple_of_leaf quote (grammar.by_quote tactic tree) = by_quote tactic (quote tree)
simple_of_leaf quote (grammar.conv_tac conversion) = conv_tac (conversion_of_unit conversion)
simple_of_leaf quote (grammar.rewrite_tac names) = rewrite_tac names

abbrev mutual
  pub expression_of : {Tree Quote : Type 0} → (Tree → Quote) → Tactic Tree → Expression Quote
  expression_of quote (then_chain first links) = then_on (expression_of_choice quote first) (links_of quote links)

  pub links_of : {Tree Quote : Type 0} → (Tree → Quote) → TacticLinks Tree → Links Quote
  links_of quote no_more_then = no_link
  links_of quote (then_all choice links) = link (on_all (expression_of_choice quote choice)) (links_of quote links)
  links_of quote (then_each tactics links) = link (on_each (expressions_of quote tactics)) (links_of quote links)

  pub expressions_of : {Tree Quote : Type 0} → (Tree → Quote) → Tactics Tree → Expressions Quote
  expressions_of quote no_tactics = no_more
  expressions_of quote (tactic_and tactic tactics) = more (expression_of quote tactic) (expressions_of quote tactics)

  pub expression_of_choice : {Tree Quote : Type 0} → (Tree → Quote) → TacticChoice Tree → Expression Quote
  expression_of_choice quote (orelse_chain first others) = or_else (expression_of_unit quote first) (others_of quote others)

  pub others_of : {Tree Quote : Type 0} → (Tree → Quote) → OtherTactics Tree → Expressions Quote
  others_of quote no_more_orelse = no_more
  others_of quote (grammar.orelse other others) = more (expression_of_unit quote other) (others_of quote others)

  pub expression_of_unit : {Tree Quote : Type 0} → (Tree → Quote) → TacticUnit Tree → Expression Quote
  expression_of_unit quote (repeated operand) = repeat (expression_of_unit quote operand)
  expression_of_unit quote (tried operand) = try (expression_of_unit quote operand)
  expression_of_unit quote (enclosed tactic) = expression_of quote tactic
  expression_of_unit quote (leaf tactic) = simple (simple_of_leaf quote tactic)

-- ---- of the code's values, quoted terms by their steps

-- what the code keeps of a quoted term
abbrev pub Kept : Type 0
Kept = Vec TermStep Global

abbrev pub simple_here : Leaf Kept → Simple (List FlatStep)
simple_here leaves.All = plain AllTac
simple_here leaves.No = plain NoTac
simple_here (leaves.Accept name) = by_name AcceptTac (string_bytes name)
simple_here leaves.Assumption = plain AssumptionTac
simple_here (leaves.Assume name) = by_name AssumeTac (string_bytes name)
simple_here leaves.Refl = plain ReflTac
simple_here leaves.Conj = plain ConjTac
simple_here leaves.Eq = plain EqTac
simple_here leaves.Disj1 = plain Disj1Tac
simple_here leaves.Disj2 = plain Disj2Tac
simple_here leaves.Disch = plain DischTac
simple_here leaves.Gen = plain GenTac
simple_here (leaves.Exists witness) = by_quote ExistsTac (flat_steps_of witness.items)
simple_here (leaves.Mp name) = by_name MpTac (string_bytes name)
simple_here (leaves.DisjCases name) = by_name DisjCasesTac (string_bytes name)
simple_here (leaves.Choose name) = by_name ChooseTac (string_bytes name)
simple_here (leaves.Undisch p) = by_quote UndischTac (flat_steps_of p.items)
simple_here (leaves.Conv c) = conv_tac (conversion_of c)
simple_here (leaves.Rewrite names) = rewrite_tac (map string_bytes names.items)
simple_here leaves.Taut = plain TautTac

abbrev mutual
  pub expression_here : Tac Kept → Expression (List FlatStep)
  expression_here (tac.Leaf l) = simple (simple_here l)
  expression_here (tac.Host name) = simple (by_name Host (string_bytes name))
  expression_here (tac.Chain' p first shape links) = chain (expression_here first) (links_in links)
  expression_here (tac.OrElse' p first shape others) = orelse (expression_here first) (expressions_in others)
  expression_here (tac.Repeat' p inner) = repeat (expression_here inner)
  expression_here (tac.Try' p inner) = try (expression_here inner)

  pub expressions_in : {n : _} → Row_of-Tac Kept n → Expressions (List FlatStep)
  expressions_in end_of-Tac = no_more
  expressions_in (more_of-Tac first others) = more (expression_here first) (expressions_in others)

  pub joint_here : Link Kept → Joint (List FlatStep)
  joint_here (links.Then each) = on_all (expression_here each)
  joint_here (links.Thenl' shape each) = on_each (expressions_in each)

  pub links_in : {n : _} → Row_of-Link Kept n → Links (List FlatStep)
  links_in end_of-Link = no_link
  links_in (more_of-Link first others) = link (joint_here first) (links_in others)

abbrev pub all_expressions : {Quote : Type 0} → List (Expression Quote) → Expressions Quote
all_expressions [] = no_more
all_expressions (first ∷ others) = more first (all_expressions others)

abbrev pub all_links : {Quote : Type 0} → List (Joint Quote) → Links Quote
all_links [] = no_link
all_links (first ∷ others) = link first (all_links others)
