-- The commands of the code as those of the grammar.
use Rattle.std.specs.Prelude.{◌≡◌, ℕ, true, List, [], ◌∷◌, length, map}
use Rattle.std.proofs.Common.{Vec, Bor, Global}
use Rattle.hol_model.specs.Terms.Name.{is_type_variable_name}
use Rattle.hol_model_rules.specs.RuleForms.{form_of}
use Rattle.hol_model_sessions.specs.Commands.{RuleTree, by_name, by_inst, by_inst_type}
use Rattle.hol_model_sessions.specs.CommandGrammar.{TheoremTree, by_rule, by_tautology, by_conversion, CommandTree, thm_command, show_command, var_command}
use Rattle.hol_model_sessions.specs.CommandGrammar.{def_command, newtype_command, newconst_command, goal_command, e_command, b_command, p_command, r_command, save_command}
use Rattle.hol_model_sessions.specs.TacticGrammar.{Tactic}
use Rattle.hol_model_sessions.specs.SessionTools.{conversion_of_unit}
use Rattle.hol_model.specs.Texts.Lexing.{numeral_value}
use Rattle.hol_model.specs.Texts.TypeGrammar.{TypeTree, type_steps}
use Rattle.hol_model.specs.Texts.TermGrammar.{TermTree}
use Rattle.hol_syntax_grammar.specs.declared.type_reader.TypeStep.{TypeStep}
use Rattle.hol_syntax_grammar.specs.declared.steps.TermStep.{TermStep}
use Rattle.hol_syntax_grammar.specs.TermSteps.{term_steps, flat_steps}
use Rattle.hol_syntax_grammar.specs.Views.{steps_of}
use Rattle.hol_syntax_grammar.specs.Steps.{flat_steps_of}
use Rattle.hol_tactic_exprs.specs.declared.tac.Tac.{Tac}
use Rattle.hol_tactic_exprs.specs.Expressions.{conversion_of}
use Rattle.hol_tactic_grammar.specs.Expressions.{Kept}
use Rattle.hol_tactic_grammar.specs.Tactics.{IsExpression}
use Rattle.hol_script_commands.specs.declared.command.Rule.{Rule}
use Rattle.hol_script_commands.specs.declared.command.Rule.TheVariants.{Named, Inst, InstType}
use Rattle.hol_script_commands.specs.declared.pairs.TermPair.{TermPair}
use Rattle.hol_script_commands.specs.declared.pairs.TypePair.{TypePair}
use Rattle.hol_script_commands.specs.declared.command.Asked.{Asked}
use Rattle.hol_script_commands.specs.declared.command.Asked.TheVariants.{Rule as AsksRule, Tautology, Conversion}
use Rattle.hol_script_commands.specs.declared.command.Command.{Command}
use Rattle.hol_script_commands.specs.declared.command.Command.TheVariants.{Thm, Show, Var, Def, NewType, NewConst, Goal, Expand, Back, Print, Rotate, Save}

-- the relation holds of the items of two lists, one by one
abbrev pub Match : {A B : Type 0} → (A → B → Type 0) → List A → List B → Type 0
Match fact [] [] = Unit {0}
Match fact (x ∷ xs) (y ∷ ys) = fact x y × Match fact xs ys
Match fact _ _ = ⊥

-- the steps are those of the term
abbrev pub IsTerm : Vec TermStep Global → TermTree → Type 0
IsTerm steps tree = flat_steps_of steps.items ≡ flat_steps (term_steps tree)

abbrev pub AreTerms : List (Vec TermStep Global) → List TermTree → Type 0
AreTerms terms trees = Match IsTerm terms trees

abbrev pub AreNames : List (Bor (List ℕ)) → List (List ℕ) → Type 0
AreNames names others = map (λ name. name.now) names ≡ others

-- the pair has the terms of the trees by their steps
abbrev pub IsTermPair : TermPair → TermTree × TermTree → Type 0
IsTermPair pair trees = (flat_steps_of pair.new.items ≡ flat_steps (term_steps trees.0)) × (flat_steps_of pair.old.items ≡ flat_steps (term_steps trees.1))

abbrev pub AreTermPairs : List TermPair → List (TermTree × TermTree) → Type 0
AreTermPairs pairs trees = Match IsTermPair pairs trees

-- the pair has the type of the tree by its steps, and the type variable
abbrev pub IsTypePair : TypePair → TypeTree × List ℕ → Type 0
IsTypePair pair parts = (steps_of pair.new.items ≡ type_steps parts.0) × (pair.old.now ≡ parts.1) × (is_type_variable_name parts.1 ≡ true)

abbrev pub AreTypePairs : List TypePair → List (TypeTree × List ℕ) → Type 0
AreTypePairs pairs trees = Match IsTypePair pairs trees

-- the rule has the arguments of the tree, its terms by their steps
abbrev pub IsRule : Rule → RuleTree → Type 0
IsRule (Named rule terms names) (by_name other trees others) = (rule ≡ other) × (length trees ≡ (form_of other).terms) × AreTerms terms.items trees × AreNames names.items others
IsRule (Inst pairs a) (by_inst others b) = AreTermPairs pairs.items others × (a.now ≡ b)
IsRule (InstType pairs a) (by_inst_type others b) = AreTypePairs pairs.items others × (a.now ≡ b)
IsRule _ _ = ⊥

-- what `thm` asks for has the arguments of the tree
abbrev pub IsAsked : Asked → TheoremTree → Type 0
IsAsked (AsksRule rule) (by_rule tree) = IsRule rule tree
IsAsked (Tautology steps) (by_tautology tree) = flat_steps_of steps.items ≡ flat_steps (term_steps tree)
IsAsked (Conversion conversion steps) (by_conversion unit tree) = (conversion_of conversion ≡ conversion_of_unit unit) × (flat_steps_of steps.items ≡ flat_steps (term_steps tree))
IsAsked _ _ = ⊥

-- ---- commands

pub record IsThm (name : List ℕ) (asked : Asked) (tree : CommandTree) : Type 0 where
  pub theorem : TheoremTree
  pub is : tree ≡ thm_command name theorem
  pub asks : IsAsked asked theorem

pub record IsShow (name : List ℕ) (tree : CommandTree) : Type 0 where
  pub is : tree ≡ show_command name

pub record IsVar (name : List ℕ) (steps : List TypeStep) (tree : CommandTree) : Type 0 where
  pub ty : TypeTree
  pub is : tree ≡ var_command name ty
  pub spelled : steps_of steps ≡ type_steps ty

pub record IsDef (name : List ℕ) (steps : List TermStep) (tree : CommandTree) : Type 0 where
  pub term : TermTree
  pub is : tree ≡ def_command name term
  pub spelled : flat_steps_of steps ≡ flat_steps (term_steps term)

pub record IsNewType (name : List ℕ) (tree : CommandTree) : Type 0 where
  pub is : tree ≡ newtype_command name

pub record IsNewConst (name : List ℕ) (steps : List TypeStep) (tree : CommandTree) : Type 0 where
  pub ty : TypeTree
  pub is : tree ≡ newconst_command name ty
  pub spelled : steps_of steps ≡ type_steps ty

pub record IsGoal (steps : List TermStep) (tree : CommandTree) : Type 0 where
  pub term : TermTree
  pub is : tree ≡ goal_command term
  pub spelled : flat_steps_of steps ≡ flat_steps (term_steps term)

pub record IsExpand (tactic : Tac Kept) (tree : CommandTree) : Type 0 where
  pub expression : Tactic TermTree
  pub is : tree ≡ e_command expression
  pub means : IsExpression tactic expression

pub record IsBack (tree : CommandTree) : Type 0 where
  pub is : tree ≡ b_command

pub record IsPrint (tree : CommandTree) : Type 0 where
  pub is : tree ≡ p_command

pub record IsRotate (turns : ℕ) (tree : CommandTree) : Type 0 where
  pub digits : List ℕ
  pub is : tree ≡ r_command digits
  pub value : numeral_value digits ≡ turns

pub record IsSave (name : List ℕ) (tree : CommandTree) : Type 0 where
  pub is : tree ≡ save_command name

-- the command has the arguments of the tree, its types and terms by their steps
abbrev pub IsCommand : Command → CommandTree → Type 0
IsCommand (Thm name asked) tree = IsThm name.now asked tree
IsCommand (Show name) tree = IsShow name.now tree
IsCommand (Var name steps) tree = IsVar name.now steps.items tree
IsCommand (Def name steps) tree = IsDef name.now steps.items tree
IsCommand (NewType name) tree = IsNewType name.now tree
IsCommand (NewConst name steps) tree = IsNewConst name.now steps.items tree
IsCommand (Goal steps) tree = IsGoal steps.items tree
IsCommand (Expand tactic) tree = IsExpand tactic tree
IsCommand Back tree = IsBack tree
IsCommand Print tree = IsPrint tree
IsCommand (Rotate turns) tree = IsRotate turns tree
IsCommand (Save name) tree = IsSave name.now tree
