-- What is looked up before a term is printed: the binders round it, and the form that it is printed in.
use Rattle.std.specs.Prelude.{◌≡◌, ℕ, ◌+◌, List, ◌∷◌, Bool, true, false, ◌&&◌, Option, Some, None, is_none}
use Rattle.std.specs.Option.{option_map_or}
use Rattle.hol_model.specs.Terms.Name.{is_identifier, is_constant_name}
use Rattle.hol_model.specs.Terms.HolType.{HolType, bool_type, function_type, type_eq}
use Rattle.hol_model.specs.Texts.TermGrammar as grammar
use Rattle.hol_model.specs.Texts.TermGrammar.{TermTree, infix_level}
use Rattle.hol_model.specs.Texts.Reading.{Scope, Bindings, bound_type, is_closed_type}
use Rattle.hol_model.specs.Texts.Printing as printing
use Rattle.hol_model.specs.Texts.Printing.{type_tree, term_tree, variable_tree, constant_tree, apply_tree, enclose}
use Rattle.hol_terms.specs.Term.{weight}
use Rattle.hol_syntax_grammar.specs.Grammar.{infix_here, binder_here}
use Rattle.hol_syntax_print.specs.declared.shape.Prefix.{Prefix}
use Rattle.hol_syntax_print.specs.declared.shape.Prefix.TheVariants.{Negation, Quantifier, Nothing}
use Rattle.hol_syntax_print.specs.declared.shape.Shape.{Shape}
use Rattle.hol_syntax_print.specs.declared.shape.Shape.TheVariants.{Variable, Constant, Apply, Not, Join, Bind}

-- the innermost binder of the name has the type
abbrev pub is_bound_at : Bindings → List ℕ → HolType → Bool
is_bound_at bindings name ty = option_map_or (λ bound. type_eq bound ty) (bound_type bindings name) false

-- the constant's name alone says which constant it is
abbrev pub is_bare_constant : Scope → Bindings → List ℕ → Bool
is_bare_constant scope bindings name =
    is_identifier name && option_map_or is_closed_type (scope.generic_type name) false && is_none (bound_type bindings name)

-- the types of the operands of a relation
abbrev pub dest_relation : HolType → Option (HolType × HolType)
dest_relation (function_type a (function_type b bool_type)) = Some (a, b)
dest_relation _ = None

-- the type on which the predicates are that an operator takes, and the type of its answers
abbrev pub dest_operator : HolType → Option (HolType × HolType)
dest_operator (function_type (function_type a bool_type) b) = Some (a, b)
dest_operator _ = None

abbrev pub prefix_here : Prefix → printing.Prefix
prefix_here Negation = printing.NotPrefix
prefix_here (Quantifier binder) = printing.BinderPrefix (binder_here binder)
prefix_here Nothing = printing.NoPrefix

-- two trees with an infix between them, each in parentheses where its level asks for them
abbrev pub joined_tree : grammar.Infix → TermTree → TermTree → TermTree
joined_tree operation left right = grammar.Join operation (enclose (infix_level operation + 1) left) (enclose (infix_level operation) right)

-- the tree of a term of this form
abbrev pub shape_tree : Scope → Bindings → Shape → TermTree
shape_tree scope bindings (Variable name ty) = variable_tree (bound_type bindings name.now) name.now ty.now
shape_tree scope bindings (Constant name ty) = constant_tree scope bindings name.now ty.now
shape_tree scope bindings (Apply function argument) = apply_tree (term_tree scope bindings function.now) (term_tree scope bindings argument.now)
shape_tree scope bindings (Not operand) = grammar.Not (enclose 14 (term_tree scope bindings operand.now))
shape_tree scope bindings (Join infix' left right) =
    joined_tree (infix_here infix') (term_tree scope bindings left.now) (term_tree scope bindings right.now)
shape_tree scope bindings (Bind binder name ty body) =
    grammar.Bind (binder_here binder) name.now (type_tree ty.now) (term_tree scope ((name.now, ty.now) ∷ bindings) body.now)

abbrev pub shape_level : Shape → ℕ
shape_level (Variable name ty) = 20
shape_level (Constant name ty) = 20
shape_level (Apply function argument) = 16
shape_level (Not operand) = 14
shape_level (Join infix' left right) = infix_level (infix_here infix')
shape_level (Bind binder name ty body) = 0

-- a constant has a constant's name
abbrev pub IsNamed : Shape → Type 0
IsNamed (Constant name ty) = is_constant_name name.now ≡ true
IsNamed _ = Unit {0}

-- what the terms in it weigh together
abbrev pub weight_of_parts : Shape → ℕ
weight_of_parts (Variable name ty) = 0
weight_of_parts (Constant name ty) = 0
weight_of_parts (Apply function argument) = weight function.now + weight argument.now
weight_of_parts (Not operand) = weight operand.now
weight_of_parts (Join infix' left right) = weight left.now + weight right.now
weight_of_parts (Bind binder name ty body) = weight body.now
