-- How deep the trees are that types and terms are printed as.
use Rattle.std.proofs.Common.{◌≡◌, ℕ, ◌+◌, ◌*◌, ◌≤◌, Bool, true, false, List, ◌∷◌, Option, None, Some, max, refl, arith, if◌then◌else◌, nat_le}
use Rattle.std.proofs.lemmas.Bool.{leb-true}
use Rattle.hol_model.specs.Terms.Name.{is_identifier}
use Rattle.hol_model.specs.Terms.HolType.{HolType, type_variable, bool_type, function_type, declared_type, type_nodes, type_eq}
use Rattle.hol_model.specs.Terms.NamedTerm.{NamedTerm, variable, constant, combination, abstraction, height, type_fits}
use Rattle.hol_model.specs.Texts.TypeGrammar.{type_depth}
use Rattle.hol_model.specs.Texts.TermGrammar.{Atom, Infix, Binder, Lambda, Bare, Variable, Constant, TermTree, Leaf, Enclosed, Bind, infix_level, level, term_depth}
use Rattle.hol_model.specs.Texts.Reading.{Scope, Bindings, bound_type, is_closed_type}
use Rattle.hol_model.specs.Texts.Printing.{as_atom, type_tree, enclose, variable_tree, name_token, typed_constant, bare_tree, constant_tree, infix_of, Prefix, NotPrefix, BinderPrefix, NoPrefix}
use Rattle.hol_model.specs.Texts.Printing.{prefix_of, apply_tree, binder_tree, prefix_tree, infix_tree, term_tree}

-- a type's tree opens an arrow or a parenthesis for every second node at most

atom_nesting : (a : HolType) → 2 * type_depth (type_tree a) + 1 ≤ type_nodes a → 2 * type_depth (as_atom (type_tree a)) ≤ type_nodes a + 1
atom_nesting (type_variable name) h = omega arith
atom_nesting bool_type h = omega arith
atom_nesting (function_type a b) h = omega arith
atom_nesting (declared_type name) h = omega arith

type_nesting : (ty : HolType) → 2 * type_depth (type_tree ty) + 1 ≤ type_nodes ty
type_nesting (type_variable name) = omega arith
type_nesting bool_type = omega arith
type_nesting (function_type a b) =
    let left = type_nesting a in
    let right = type_nesting b in
    let atom = atom_nesting a left in
    omega (arith, left, right, atom)
type_nesting (declared_type name) = omega arith

pub type_depth_fits : (ty : HolType) → type_fits ty ≡ true → type_depth (type_tree ty) ≤ 2000
type_depth_fits ty h = omega (arith, type_nesting ty, leb-true (type_nodes ty) 4000 h)

-- a term's tree opens two at most for each step of the height

enclose_depth : (n : ℕ) (tree : TermTree) → term_depth (enclose n tree) ≤ 1 + term_depth tree
enclose_depth n tree = go (nat_le n (level tree))
  where
    go : (b : Bool) → term_depth (if b then tree else Enclosed tree) ≤ 1 + term_depth tree
    go true = omega arith
    go false = omega arith

pick_leaf : (b : Bool) (x y : Atom) → term_depth (if b then Leaf x else Leaf y) ≡ 0
pick_leaf true x y = refl
pick_leaf false x y = refl

variable_depth : (o : Option HolType) (name : List ℕ) (ty : HolType) → term_depth (variable_tree o name ty) ≡ 0
variable_depth None name ty = refl
variable_depth (Some bound) name ty = pick_leaf (type_eq bound ty) (Bare name) (Variable name (type_tree ty))

bare_depth : (generic bound : Option HolType) (name : List ℕ) (ty : HolType) → term_depth (bare_tree generic bound name ty) ≡ 0
bare_depth (Some generic) None name ty = pick_leaf (is_closed_type generic) (Bare name) (Constant (name_token name) (type_tree ty))
bare_depth _ _ name ty = refl

constant_depth : (scope : Scope) (bindings : Bindings) (name : List ℕ) (ty : HolType) → term_depth (constant_tree scope bindings name ty) ≡ 0
constant_depth scope bindings name ty = go (is_identifier name)
  where
    go : (b : Bool) → term_depth (if b then bare_tree (scope.generic_type name) (bound_type bindings name) name ty else typed_constant name ty) ≡ 0
    go true = bare_depth (scope.generic_type name) (bound_type bindings name) name ty
    go false = refl

apply_depth : (f a : TermTree) → term_depth (apply_tree f a) ≤ 1 + max (term_depth f) (term_depth a)
apply_depth f a = omega (arith, enclose_depth 16 f, enclose_depth 20 a)

binder_depth : (q : Binder) (f a : TermTree) → term_depth (binder_tree q f a) ≤ 1 + max (term_depth f) (term_depth a)
binder_depth q f (Bind Lambda name ty body) = omega arith
binder_depth q f a = apply_depth f a

prefix_depth : (p : Prefix) (f a : TermTree) → term_depth (prefix_tree p f a) ≤ 2 + max (term_depth f) (term_depth a)
prefix_depth NotPrefix f a = omega (arith, enclose_depth 14 a)
prefix_depth (BinderPrefix q) f a = omega (arith, binder_depth q f a)
prefix_depth NoPrefix f a = omega (arith, apply_depth f a)

infix_depth : (o : Option Infix) (f a b : TermTree) → term_depth (infix_tree o f a b) ≤ max (1 + term_depth f) (max (1 + term_depth a) (2 + term_depth b))
infix_depth (Some i) f a b = omega (arith, enclose_depth (infix_level i + 1) a, enclose_depth (infix_level i) b)
infix_depth None f a b = omega (arith, apply_depth f b)

applied_depth : (scope : Scope) (bindings : Bindings) (name : List ℕ) (ty : HolType) (a : NamedTerm) → term_depth (term_tree scope bindings a) + 2 ≤ 2 * height a
    → term_depth (prefix_tree (prefix_of name ty) (constant_tree scope bindings name ty) (term_tree scope bindings a)) ≤ 2 * height a
applied_depth scope bindings name ty a h =
    omega (arith, prefix_depth (prefix_of name ty) (constant_tree scope bindings name ty) (term_tree scope bindings a), constant_depth scope bindings name ty, h)

pub term_nesting : (scope : Scope) (bindings : Bindings) (term : NamedTerm) → term_depth (term_tree scope bindings term) + 2 ≤ 2 * height term
term_nesting scope bindings (variable name ty) = omega (arith, variable_depth (bound_type bindings name) name ty)
term_nesting scope bindings (constant name ty) = omega (arith, constant_depth scope bindings name ty)
term_nesting scope bindings (abstraction name ty body) = omega (arith, term_nesting scope ((name, ty) ∷ bindings) body)
term_nesting scope bindings (combination (constant name ty) a) = omega (arith, applied_depth scope bindings name ty a (term_nesting scope bindings a))
term_nesting scope bindings (combination (combination (constant name ty) a) b) =
    let left = applied_depth scope bindings name ty a (term_nesting scope bindings a) in
    omega (
      arith,
      left,
      term_nesting scope bindings a,
      term_nesting scope bindings b,
      infix_depth (infix_of name ty) (prefix_tree (prefix_of name ty) (constant_tree scope bindings name ty) (term_tree scope bindings a)) (term_tree scope bindings a) (term_tree scope bindings b),
    )
term_nesting scope bindings (combination f a) =
    omega (arith, term_nesting scope bindings f, term_nesting scope bindings a, apply_depth (term_tree scope bindings f) (term_tree scope bindings a))
