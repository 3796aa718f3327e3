-- What a type or a term is printed as means that type or term.
use Rattle.std.proofs.Common.{◌≡◌, ℕ, ◌+◌, Bool, true, false, not, ◌&&◌, List, [], ◌∷◌, Option, None, Some, Result, Ok, Err, is_some, refl, sym, ap, ◌∙◌, subst, arith, if◌then◌else◌, codes}
use Rattle.std.proofs.Common.{nat_le, unwrap_or}
use Rattle.std.specs.Option.{option_map}
use Rattle.std.specs.Str.{bytes_eq}
use Rattle.std.proofs.lemmas.Slice.Eq.{bytes_eq-Decides}
use Rattle.std.proofs.lemmas.Bool.Decides.{nat_tests}
use Rattle.hol_model.specs.declared.fault.Fault.{Fault}
use Rattle.hol_model.specs.declared.fault.Fault.TheVariants.{TooLarge, UnknownConst, NotInstance, TypeMismatch, BadName}
use Rattle.hol_model.specs.Terms.Name.{is_small, all_continue, is_identifier, is_type_variable_name, is_declared_type_name, is_constant_name}
use Rattle.hol_model.specs.Terms.HolType.{HolType, type_variable, bool_type, function_type, declared_type, type_eq, instantiate_type, TypeInstance, is_instance}
use Rattle.hol_model.specs.Terms.NamedTerm.{NamedTerm, variable, constant, combination, abstraction, application_type, type_of, type_fits, is_within_limits, equality, equation}
use Rattle.hol_model.specs.Logic.Theory.{equality_type, choice_type}
use Rattle.hol_model.specs.Texts.Token.{token_text}
use Rattle.hol_model.specs.Texts.TypeGrammar.{TypeTree, Named, Enclosed, Function}
use Rattle.hol_model.specs.Texts.TermGrammar.{Infix, IffInfix, ImpliesInfix, OrInfix, AndInfix, EqualInfix, Binder, Lambda, ForAll, Exists, Choice, Bare, Variable, TermTree, Leaf, Bind, level}
use Rattle.hol_model.specs.Texts.TermGrammar.{infix_level}
use Rattle.hol_model.specs.Texts.TermGrammar.{Enclosed as EnclosedTerm}
use Rattle.hol_model.specs.Texts.Reading.{Scope, Bindings, ◌>>=◌, and_then, type_identified, type_named, written_type, known_type, type_meaning, is_closed_type, bound_type, named_variable}
use Rattle.hol_model.specs.Texts.Reading.{named_binding, constant_at, known_constant, declared_variable, bare_constant, bare_identifier, bare_name, well_typed, connective, connective_at}
use Rattle.hol_model.specs.Texts.Reading.{truth_operation, quantifier_type, infix_term, negation, join, bind, meaning}
use Rattle.hol_model.specs.Texts.Printing.{as_atom, type_tree, enclose, variable_tree, name_token, typed_constant, bare_tree, constant_tree, equality_infix, truth_infix, infix_of, Prefix}
use Rattle.hol_model.specs.Texts.Printing.{NotPrefix, BinderPrefix, NoPrefix, negation_prefix, quantifier_prefix, choice_prefix, prefix_of, apply_tree, binder_tree, prefix_tree, infix_tree}
use Rattle.hol_model.specs.Texts.Printing.{term_tree}
use Rattle.hol_model.specs.Texts.Texts.{IsNamedType, IsReadableType}
use Rattle.hol_model.proofs.Terms.HolTypeEq.{same_from_type_eq}
use Rattle.hol_model.proofs.Terms.Instances.{is_instance-Decides}
use Rattle.hol_syntax_print.proofs.Printed.{token_named}
use Rattle.hol_syntax_print.proofs.ReadableTerms.{both_true, is_typed, IsReadable}

-- the names of types

pub capital_identifier : (name : List ℕ) → is_type_variable_name name ≡ true → is_identifier name ≡ true
capital_identifier [] h = h
capital_identifier (b ∷ bytes) h = grind (arith, nat_tests)

pub small_identifier : (name : List ℕ) → is_declared_type_name name ≡ true → is_identifier name ≡ true
small_identifier [] h = h
small_identifier (b ∷ bytes) h = grind (arith, nat_tests)

small_not_capital : (name : List ℕ) → is_declared_type_name name ≡ true → is_type_variable_name name ≡ false
small_not_capital [] h = refl
small_not_capital (b ∷ bytes) h = grind (arith, nat_tests)

small_not_bool : (name : List ℕ) → is_declared_type_name name ≡ true → bytes_eq name (codes "bool") ≡ false
small_not_bool [] h = absurd (let bad : false ≡ true = h in cc)
small_not_bool (b ∷ bytes) h = go (bytes_eq (b ∷ bytes) (codes "bool")) (both_true (is_small b && all_continue bytes) _ h).1
  where
    go : (t : Bool) → not t ≡ true → t ≡ false
    go true e = absurd (let bad : false ≡ true = e in cc)
    go false e = refl

variable_named : (scope : Scope) (name : List ℕ) → is_type_variable_name name ≡ true → type_named scope name ≡ Some (type_variable name)
variable_named scope name h =
    ap (λ b. if b then type_identified scope name else None) (capital_identifier name h)
    ∙ ap (λ b. if b then Some (type_variable name) else
    (if bytes_eq name (codes "bool") then Some bool_type else (if scope.declares_type name && is_declared_type_name name then Some (declared_type name) else None))) h

declared_named : (scope : Scope) (name : List ℕ) → scope.declares_type name ≡ true → is_declared_type_name name ≡ true → type_named scope name ≡ Some (declared_type name)
declared_named scope name d h =
    ap (λ b. if b then type_identified scope name else None) (small_identifier name h)
    ∙ ap (λ b. if b then Some (type_variable name) else
    (if bytes_eq name (codes "bool") then Some bool_type else (if scope.declares_type name && is_declared_type_name name then Some (declared_type name) else None)))
    (small_not_capital name h)
    ∙ ap (λ b. if b then Some bool_type else (if scope.declares_type name && is_declared_type_name name then Some (declared_type name) else None)) (small_not_bool name h)
    ∙ ap (λ b. if b && is_declared_type_name name then Some (declared_type name) else None) d
    ∙ ap (λ b. if b then Some (declared_type name) else None) h

as_atom_means : (scope : Scope) (t : TypeTree) → written_type scope (as_atom t) ≡ written_type scope t
as_atom_means scope (Named name) = refl
as_atom_means scope (Enclosed t) = refl
as_atom_means scope (Function a b) = refl

written : (scope : Scope) (ty : HolType) → IsNamedType scope ty → written_type scope (type_tree ty) ≡ Some ty
written scope (type_variable name) h = variable_named scope name h
written scope bool_type h = refl
written scope (function_type a b) h =
    ap (λ o. and_then o (λ domain. and_then (written_type scope (type_tree b)) (λ codomain. Some (function_type domain codomain)))) (as_atom_means scope (type_tree a) ∙ written scope a h.0)
    ∙ ap (λ o. and_then o (λ codomain. Some (function_type a codomain))) (written scope b h.1)
written scope (declared_type name) h = declared_named scope name h.0 h.1

-- what a type is printed as means that type
pub type_again : (scope : Scope) (ty : HolType) → IsReadableType scope ty → type_meaning scope (type_tree ty) ≡ Ok ty
type_again scope ty h = ap known_type (written scope ty h.named) ∙ ap (λ b. if b then Ok ty else Err TooLarge) h.fits

-- atoms

enclose_means : (s : Scope) (bindings : Bindings) (n : ℕ) (t : TermTree) → meaning s bindings (enclose n t) ≡ meaning s bindings t
enclose_means s bindings n t = go (nat_le n (level t))
  where
    go : (b : Bool) → meaning s bindings (if b then t else EnclosedTerm t) ≡ meaning s bindings t
    go true = refl
    go false = refl

variable_means : (s : Scope) (bindings : Bindings) (name : List ℕ) (ty : HolType) → IsReadableType s ty → is_identifier name ≡ true
    → meaning s bindings (variable_tree (bound_type bindings name) name ty) ≡ Ok (variable name ty)
variable_means s bindings name ty h i = go (bound_type bindings name) refl
  where
    typed : meaning s bindings (Leaf (Variable name (type_tree ty))) ≡ Ok (variable name ty)
    typed = ap (λ r. r >>= named_variable name) (type_again s ty h) ∙ ap (λ b. if b then Ok (variable name ty) else Err BadName) i

    go : (o : Option HolType) → bound_type bindings name ≡ o → meaning s bindings (variable_tree o name ty) ≡ Ok (variable name ty)
    go None e = typed
    go (Some other) e = pick (type_eq other ty) refl
      where
        pick : (b : Bool) → type_eq other ty ≡ b → meaning s bindings (if b then Leaf (Bare name) else Leaf (Variable name (type_tree ty))) ≡ Ok (variable name ty)
        pick true same =
            ap (λ o. bare_name s o name) e ∙ ap (λ b. if b then bare_identifier s (Some other) name else Err BadName) i
            ∙ ap (λ t. Ok (variable name t)) (same_from_type_eq other ty same)
        pick false same = typed

-- A known constant: its name is a constant's, and its type an instance of its generic type.
record IsInScope (s : Scope) (name : List ℕ) (ty : HolType) : Type 0 where
  named : is_constant_name name ≡ true
  generic : HolType
  is_generic : s.generic_type name ≡ Some generic
  fitting : is_instance generic ty ≡ true

in_scope : (s : Scope) (name : List ℕ) (ty : HolType) → known_constant s name ty ≡ Ok (constant name ty) → IsInScope s name ty
in_scope s name ty e = go (is_constant_name name) refl (s.generic_type name) refl e
  where
    at : (generic : HolType) (b : Bool) → is_constant_name name ≡ true → s.generic_type name ≡ Some generic → is_instance generic ty ≡ b
        → ◌≡◌ {A = Result NamedTerm Fault} (if b then Ok (constant name ty) else Err NotInstance) (Ok (constant name ty)) → IsInScope s name ty
    at generic true n g f k = record { named = n; generic = generic; is_generic = g; fitting = f }
    at generic false n g f k = absurd (let bad : ◌≡◌ {A = Result NamedTerm Fault} (Err NotInstance) (Ok (constant name ty)) = k in cc)

    go : (b : Bool) → is_constant_name name ≡ b → (o : Option HolType) → s.generic_type name ≡ o
        → (if b then constant_at o name ty else Err UnknownConst) ≡ Ok (constant name ty) → IsInScope s name ty
    go true n (Some generic) g k = at generic (is_instance generic ty) n g refl k
    go true n None g k = absurd (let bad : ◌≡◌ {A = Result NamedTerm Fault} (Err UnknownConst) (Ok (constant name ty)) = k in cc)
    go false n o g k = absurd (let bad : ◌≡◌ {A = Result NamedTerm Fault} (Err UnknownConst) (Ok (constant name ty)) = k in cc)

-- a type without type variables has itself alone as an instance
closed_same : (generic : HolType) (tau : TypeInstance) → is_closed_type generic ≡ true → instantiate_type tau generic ≡ generic
closed_same (type_variable name) tau h = absurd (let bad : false ≡ true = h in cc)
closed_same bool_type tau h = refl
closed_same (function_type a b) tau h =
    let parts = both_true (is_closed_type a) (is_closed_type b) h in
    ap (λ x. function_type x (instantiate_type tau b)) (closed_same a tau parts.0) ∙ ap (function_type a) (closed_same b tau parts.1)
closed_same (declared_type name) tau h = refl

closed_instance : (generic ty : HolType) → is_closed_type generic ≡ true → is_instance generic ty ≡ true → generic ≡ ty
closed_instance generic ty c h =
    let k = (is_instance-Decides generic ty).0 h in
    sym (k.is_instance ∙ closed_same generic k.instance c)

constant_typed : (s : Scope) (bindings : Bindings) (name : List ℕ) (ty : HolType) → IsReadableType s ty → known_constant s name ty ≡ Ok (constant name ty)
    → meaning s bindings (typed_constant name ty) ≡ Ok (constant name ty)
constant_typed s bindings name ty h k =
    ap (λ r. r >>= known_constant s (token_text (name_token name))) (type_again s ty h)
    ∙ ap (λ n. known_constant s n ty) (token_named name (in_scope s name ty k).named) ∙ k

constant_means : (s : Scope) (bindings : Bindings) (name : List ℕ) (ty : HolType) → IsReadableType s ty → known_constant s name ty ≡ Ok (constant name ty)
    → meaning s bindings (constant_tree s bindings name ty) ≡ Ok (constant name ty)
constant_means s bindings name ty h k = named (is_identifier name) refl
  where
    typed : meaning s bindings (typed_constant name ty) ≡ Ok (constant name ty)
    typed = constant_typed s bindings name ty h k

    pick : (generic : HolType) (b : Bool) → is_identifier name ≡ true → s.generic_type name ≡ Some generic → bound_type bindings name ≡ None → is_closed_type generic ≡ b
        → meaning s bindings (if b then Leaf (Bare name) else typed_constant name ty) ≡ Ok (constant name ty)
    pick generic true i e f closed =
        let known = in_scope s name ty k in
        let generics : ◌≡◌ {A = Option HolType} (Some known.generic) (Some generic) = sym known.is_generic ∙ e in
        let same : known.generic ≡ generic = ap (λ (o : Option HolType). unwrap_or o generic) generics in
        ap (λ o. bare_name s o name) f ∙ ap (λ b. if b then bare_identifier s None name else Err BadName) i
        ∙ ap (λ g. bare_constant s g name) e
        ∙ ap (λ b. if b then Ok (constant name generic) else declared_variable (s.variable_type name) name) closed
        ∙ ap (λ t. Ok (constant name t)) (closed_instance generic ty closed (subst (λ g. is_instance g ty ≡ true) same known.fitting))
    pick generic false i e f closed = typed

    go : (g : Option HolType) → is_identifier name ≡ true → s.generic_type name ≡ g → (o : Option HolType) → bound_type bindings name ≡ o
        → meaning s bindings (bare_tree g o name ty) ≡ Ok (constant name ty)
    go None i e o f = typed
    go (Some generic) i e (Some other) f = typed
    go (Some generic) i e None f = pick generic (is_closed_type generic) i e f refl

    named : (b : Bool) → is_identifier name ≡ b
        → meaning s bindings (if b then bare_tree (s.generic_type name) (bound_type bindings name) name ty else typed_constant name ty) ≡ Ok (constant name ty)
    named true i = go (s.generic_type name) i refl (bound_type bindings name) refl
    named false i = typed

-- applications

apply_means : (s : Scope) (bindings : Bindings) (f a : TermTree) (x y : NamedTerm) → meaning s bindings f ≡ Ok x → meaning s bindings a ≡ Ok y
    → meaning s bindings (apply_tree f a) ≡ well_typed (combination x y)
apply_means s bindings f a x y hf ha =
    ap (λ r. r >>= λ x. meaning s bindings (enclose 20 a) >>= λ y. well_typed (combination x y)) (enclose_means s bindings 16 f ∙ hf)
    ∙ ap (λ r. r >>= λ y. well_typed (combination x y)) (enclose_means s bindings 20 a ∙ ha)

-- the operand of a constant has the type that is asked for
operand_type : (name : List ℕ) (d r : HolType) (o : Option HolType) → is_some (application_type (Some (function_type d r)) o) ≡ true → o ≡ Some d
operand_type name d r None e = absurd (let bad : false ≡ true = e in cc)
operand_type name d r (Some t) e = go (type_eq d t) refl e
  where
    go : (b : Bool) → type_eq d t ≡ b → is_some (if b then Some r else None) ≡ true → Some t ≡ Some d
    go true same k = ap (λ x. Some x) (sym (same_from_type_eq d t same))
    go false same k = absurd (let bad : false ≡ true = k in cc)

fits : (name : List ℕ) (ty d r : HolType) (a : NamedTerm) → ty ≡ function_type d r → well_typed (combination (constant name ty) a) ≡ Ok (combination (constant name ty) a)
    → type_of a ≡ Some d
fits name ty d r a e k =
    operand_type name d r (type_of a) (subst (λ t. is_some (application_type (Some t) (type_of a)) ≡ true) e (is_typed (combination (constant name ty) a) k).typed)

connective_means : (s : Scope) (name : List ℕ) (ty : HolType) (term : NamedTerm) → type_fits ty ≡ true → known_constant s name ty ≡ Ok (constant name ty)
    → well_typed term ≡ Ok term → connective s name ty term ≡ Ok term
connective_means s name ty term f k w =
    let known = in_scope s name ty k in
    ap (λ o. connective_at o ty term) known.is_generic
    ∙ ap (λ b. if b then well_typed term else Err NotInstance) known.fitting ∙ w

-- what a binder's constant is
abbrev BinderSays : Binder → List ℕ → HolType → Type 0
BinderSays Lambda name ty = ⊥
BinderSays ForAll name ty = (a : HolType) × (name ≡ codes "!") × (ty ≡ quantifier_type a)
BinderSays Exists name ty = (a : HolType) × (name ≡ codes "?") × (ty ≡ quantifier_type a)
BinderSays Choice name ty = (a : HolType) × (name ≡ codes "@") × (ty ≡ choice_type a)

abbrev PrefixSays : Prefix → List ℕ → HolType → Type 0
PrefixSays NotPrefix name ty = (name ≡ codes "~") × (ty ≡ function_type bool_type bool_type)
PrefixSays (BinderPrefix q) name ty = BinderSays q name ty
PrefixSays NoPrefix name ty = Unit {0}

negation_says : (name : List ℕ) (ty : HolType) → name ≡ codes "~" → PrefixSays (negation_prefix ty) name ty
negation_says name (function_type bool_type bool_type) e = (e, refl)
negation_says name _ e = tt

for_all_says : (name : List ℕ) (ty : HolType) → name ≡ codes "!" → PrefixSays (quantifier_prefix ty ForAll) name ty
for_all_says name (function_type (function_type a bool_type) bool_type) e = (a, e, refl)
for_all_says name _ e = tt

exists_says : (name : List ℕ) (ty : HolType) → name ≡ codes "?" → PrefixSays (quantifier_prefix ty Exists) name ty
exists_says name (function_type (function_type a bool_type) bool_type) e = (a, e, refl)
exists_says name _ e = tt

choice_says : (name : List ℕ) (ty : HolType) → name ≡ codes "@" → PrefixSays (choice_prefix ty) name ty
choice_says name (function_type (function_type a bool_type) b) e = go (type_eq b a) refl
  where
    go : (t : Bool) → type_eq b a ≡ t → PrefixSays (if t then BinderPrefix Choice else NoPrefix) name (function_type (function_type a bool_type) b)
    go true same = (a, e, ap (λ t. function_type (function_type a bool_type) t) (same_from_type_eq b a same))
    go false same = tt
choice_says name _ e = tt

pick_prefix : (b : Bool) (x y : Prefix) (name : List ℕ) (ty : HolType) → (b ≡ true → PrefixSays x name ty) → PrefixSays y name ty → PrefixSays (if b then x else y) name ty
pick_prefix true x y name ty h k = h refl
pick_prefix false x y name ty h k = k

prefix_says : (name : List ℕ) (ty : HolType) → PrefixSays (prefix_of name ty) name ty
prefix_says name ty =
    pick_prefix (bytes_eq name (codes "~")) (negation_prefix ty) _ name ty (λ e. negation_says name ty ((bytes_eq-Decides name (codes "~")).0 e))
    (pick_prefix (bytes_eq name (codes "!")) (quantifier_prefix ty ForAll) _ name ty (λ e. for_all_says name ty ((bytes_eq-Decides name (codes "!")).0 e))
    (pick_prefix (bytes_eq name (codes "?")) (quantifier_prefix ty Exists) _ name ty (λ e. exists_says name ty ((bytes_eq-Decides name (codes "?")).0 e))
    (pick_prefix (bytes_eq name (codes "@")) (choice_prefix ty) NoPrefix name ty (λ e. choice_says name ty ((bytes_eq-Decides name (codes "@")).0 e)) tt)))

abbrev InfixSays : Option Infix → List ℕ → HolType → Type 0
InfixSays None name ty = Unit {0}
InfixSays (Some IffInfix) name ty = (name ≡ codes "=") × (ty ≡ truth_operation)
InfixSays (Some ImpliesInfix) name ty = (name ≡ codes "==>") × (ty ≡ truth_operation)
InfixSays (Some OrInfix) name ty = (name ≡ codes "\\/") × (ty ≡ truth_operation)
InfixSays (Some AndInfix) name ty = (name ≡ codes "/\\") × (ty ≡ truth_operation)
InfixSays (Some EqualInfix) name ty = (a : HolType) × (name ≡ codes "=") × (ty ≡ equality_type a)

equality_says : (name : List ℕ) (ty : HolType) → name ≡ codes "=" → InfixSays (equality_infix ty) name ty
equality_says name (function_type bool_type (function_type bool_type bool_type)) e = (e, refl)
equality_says name (function_type a (function_type b bool_type)) e = go (type_eq b a) refl
  where
    go : (t : Bool) → type_eq b a ≡ t → InfixSays (if t then Some EqualInfix else None) name (function_type a (function_type b bool_type))
    go true same = (a, e, ap (λ t. function_type a (function_type t bool_type)) (same_from_type_eq b a same))
    go false same = tt
equality_says name _ e = tt

implies_says : (name : List ℕ) (ty : HolType) → name ≡ codes "==>" → InfixSays (truth_infix ty ImpliesInfix) name ty
implies_says name (function_type bool_type (function_type bool_type bool_type)) e = (e, refl)
implies_says name _ e = tt

or_says : (name : List ℕ) (ty : HolType) → name ≡ codes "\\/" → InfixSays (truth_infix ty OrInfix) name ty
or_says name (function_type bool_type (function_type bool_type bool_type)) e = (e, refl)
or_says name _ e = tt

and_says : (name : List ℕ) (ty : HolType) → name ≡ codes "/\\" → InfixSays (truth_infix ty AndInfix) name ty
and_says name (function_type bool_type (function_type bool_type bool_type)) e = (e, refl)
and_says name _ e = tt

pick_infix : (b : Bool) (x y : Option Infix) (name : List ℕ) (ty : HolType) → (b ≡ true → InfixSays x name ty) → InfixSays y name ty → InfixSays (if b then x else y) name ty
pick_infix true x y name ty h k = h refl
pick_infix false x y name ty h k = k

infix_says : (name : List ℕ) (ty : HolType) → InfixSays (infix_of name ty) name ty
infix_says name ty =
    pick_infix (bytes_eq name (codes "=")) (equality_infix ty) _ name ty (λ e. equality_says name ty ((bytes_eq-Decides name (codes "=")).0 e))
    (pick_infix (bytes_eq name (codes "==>")) (truth_infix ty ImpliesInfix) _ name ty (λ e. implies_says name ty ((bytes_eq-Decides name (codes "==>")).0 e))
    (pick_infix (bytes_eq name (codes "\\/")) (truth_infix ty OrInfix) _ name ty (λ e. or_says name ty ((bytes_eq-Decides name (codes "\\/")).0 e))
    (pick_infix (bytes_eq name (codes "/\\")) (truth_infix ty AndInfix) None name ty (λ e. and_says name ty ((bytes_eq-Decides name (codes "/\\")).0 e)) tt)))

-- a tree of an abstraction means one, and the same tree under another binder what that binder makes of it
record Abstracts (s : Scope) (bindings : Bindings) (x : List ℕ) (tree : TypeTree) (t : TermTree) (f : NamedTerm) : Type 0 where
  ty : HolType
  body : NamedTerm
  is : abstraction x ty body ≡ f
  other : (q : Binder) → meaning s bindings (Bind q x tree t) ≡ bind s q x ty body

well_typed_same : (t u : NamedTerm) → well_typed t ≡ Ok u → t ≡ u
well_typed_same t u e = go (is_some (type_of t)) (is_within t) e
  where
    is_within : NamedTerm → Bool
    is_within t = is_within_limits t

    go : (a b : Bool) → ◌≡◌ {A = Result NamedTerm Fault} (if a then (if b then Ok t else Err TooLarge) else Err TypeMismatch) (Ok u) → t ≡ u
    go true true k = cc
    go true false k = absurd (let bad : ◌≡◌ {A = Result NamedTerm Fault} (Err TooLarge) (Ok u) = k in cc)
    go false b k = absurd (let bad : ◌≡◌ {A = Result NamedTerm Fault} (Err TypeMismatch) (Ok u) = k in cc)

abstracts : (s : Scope) (bindings : Bindings) (x : List ℕ) (tree : TypeTree) (t : TermTree) (f : NamedTerm)
    → meaning s bindings (Bind Lambda x tree t) ≡ Ok f → Abstracts s bindings x tree t f
abstracts s bindings x tree t f e = typed (type_meaning s tree) refl e
  where
    body : (ty : HolType) → type_meaning s tree ≡ Ok ty → is_identifier x ≡ true → (r : Result NamedTerm Fault) → meaning s ((x, ty) ∷ bindings) t ≡ r
        → (r >>= λ y. bind s Lambda x ty y) ≡ Ok f → Abstracts s bindings x tree t f
    body ty h i (Err fault) m k = absurd (let bad : ◌≡◌ {A = Result NamedTerm Fault} (Err fault) (Ok f) = k in cc)
    body ty h i (Ok y) m k = record {
      ty = ty;
      body = y;
      is = well_typed_same (abstraction x ty y) f k;
      other = λ q.
          ap (λ r. (r >>= named_binding x) >>= λ binding. meaning s (binding ∷ bindings) t >>= λ term. bind s q binding.0 binding.1 term) h
          ∙ ap (λ b. (if b then Ok (x, ty) else Err BadName) >>= λ binding. meaning s (binding ∷ bindings) t >>= λ term. bind s q binding.0 binding.1 term) i
          ∙ ap (λ r. r >>= λ term. bind s q x ty term) m;
    }

    named : (ty : HolType) → type_meaning s tree ≡ Ok ty → (b : Bool) → is_identifier x ≡ b
        → ((if b then Ok (x, ty) else Err BadName) >>= λ binding. meaning s (binding ∷ bindings) t >>= λ term. bind s Lambda binding.0 binding.1 term) ≡ Ok f
        → Abstracts s bindings x tree t f
    named ty h true i k = body ty h i (meaning s ((x, ty) ∷ bindings) t) refl k
    named ty h false i k = absurd (let bad : ◌≡◌ {A = Result NamedTerm Fault} (Err BadName) (Ok f) = k in cc)

    typed : (r : Result HolType Fault) → type_meaning s tree ≡ r
        → ((r >>= named_binding x) >>= λ binding. meaning s (binding ∷ bindings) t >>= λ term. bind s Lambda binding.0 binding.1 term) ≡ Ok f
        → Abstracts s bindings x tree t f
    typed (Err fault) h k = absurd (let bad : ◌≡◌ {A = Result NamedTerm Fault} (Err fault) (Ok f) = k in cc)
    typed (Ok ty) h k = named ty h (is_identifier x) refl k

-- A constant before an operand.
record IsApplied (s : Scope) (bindings : Bindings) (name : List ℕ) (ty : HolType) (f : TermTree) (a : NamedTerm) : Type 0 where
  small : type_fits ty ≡ true
  known : known_constant s name ty ≡ Ok (constant name ty)
  function : meaning s bindings f ≡ Ok (constant name ty)
  fitting : well_typed (combination (constant name ty) a) ≡ Ok (combination (constant name ty) a)

-- the domain of an abstraction under an operator on predicates
same_domain : (name : List ℕ) (type d r ty : HolType) (x : List ℕ) (body a : NamedTerm) → type ≡ function_type (function_type d bool_type) r
    → well_typed (combination (constant name type) a) ≡ Ok (combination (constant name type) a) → abstraction x ty body ≡ a → d ≡ ty
same_domain name type d r ty x body a e w is = go (type_of body) (sym (ap type_of is)) (fits name type (function_type d bool_type) r a e w)
  where
    go : (o : Option HolType) → type_of a ≡ option_map (function_type ty) (type_of body) → type_of a ≡ Some (function_type d bool_type) → d ≡ ty
    go o k f = pick (type_of body) (sym k ∙ f)
      where
        pick : (o : Option HolType) → option_map (function_type ty) o ≡ Some (function_type d bool_type) → d ≡ ty
        pick None e = absurd (let bad : ◌≡◌ {A = Option HolType} None (Some (function_type d bool_type)) = e in cc)
        pick (Some s) e = let types : ◌≡◌ {A = Option HolType} (Some (function_type ty s)) (Some (function_type d bool_type)) = e in cc

-- a connective of this name and type, told by other names for them
connective_as : (s : Scope) (name name' : List ℕ) (type type' : HolType) (a a' : NamedTerm) → name ≡ name' → type ≡ type' → a' ≡ a → type_fits type ≡ true
    → known_constant s name type ≡ Ok (constant name type) → well_typed (combination (constant name type) a) ≡ Ok (combination (constant name type) a)
    → connective s name' type' (combination (constant name' type') a') ≡ Ok (combination (constant name type) a)
connective_as s name name' type type' a a' n t is f k w =
    ap (λ m. connective s m type' (combination (constant m type') a')) (sym n)
    ∙ ap (λ u. connective s name u (combination (constant name u) a')) (sym t)
    ∙ ap (λ u. connective s name type (combination (constant name type) u)) is
    ∙ connective_means s name type (combination (constant name type) a) f k w

binds : (s : Scope) (bindings : Bindings) (q : Binder) (name : List ℕ) (type ty : HolType) (f : TermTree) (x : List ℕ) (body a : NamedTerm) → IsApplied s bindings name type f a
    → BinderSays q name type → abstraction x ty body ≡ a → bind s q x ty body ≡ Ok (combination (constant name type) a)
binds s bindings Lambda name type ty f x body a h b is = absurd b
binds s bindings ForAll name type ty f x body a h b is =
    let domain = same_domain name type b.0 bool_type ty x body a b.2 h.fitting is in
    connective_as s name (codes "!") type (quantifier_type ty) a (abstraction x ty body) b.1 (b.2 ∙ ap quantifier_type domain) is h.small h.known h.fitting
binds s bindings Exists name type ty f x body a h b is =
    let domain = same_domain name type b.0 bool_type ty x body a b.2 h.fitting is in
    connective_as s name (codes "?") type (quantifier_type ty) a (abstraction x ty body) b.1 (b.2 ∙ ap quantifier_type domain) is h.small h.known h.fitting
binds s bindings Choice name type ty f x body a h b is =
    let domain = same_domain name type b.0 b.0 ty x body a b.2 h.fitting is in
    ap (λ m. well_typed (combination (constant m (choice_type ty)) (abstraction x ty body))) (sym b.1)
    ∙ ap (λ u. well_typed (combination (constant name u) (abstraction x ty body))) (sym (b.2 ∙ ap choice_type domain))
    ∙ ap (λ u. well_typed (combination (constant name type) u)) is ∙ h.fitting

binder_means : (s : Scope) (bindings : Bindings) (q : Binder) (name : List ℕ) (type : HolType) (f t : TermTree) (a : NamedTerm) → IsApplied s bindings name type f a
    → BinderSays q name type → meaning s bindings t ≡ Ok a → meaning s bindings (binder_tree q f t) ≡ Ok (combination (constant name type) a)
binder_means s bindings q name type f (Bind Lambda x tree t) a h b e =
    let abs = abstracts s bindings x tree t a e in
    abs.other q ∙ binds s bindings q name type abs.ty f x abs.body a h b abs.is
binder_means s bindings q name type f t a h b e = apply_means s bindings f t (constant name type) a h.function e ∙ h.fitting

prefix_means : (s : Scope) (bindings : Bindings) (p : Prefix) (name : List ℕ) (type : HolType) (f t : TermTree) (a : NamedTerm) → IsApplied s bindings name type f a
    → PrefixSays p name type → meaning s bindings t ≡ Ok a → meaning s bindings (prefix_tree p f t) ≡ Ok (combination (constant name type) a)
prefix_means s bindings NotPrefix name type f t a h p e =
    ap (λ r. r >>= λ x. negation s x) (enclose_means s bindings 14 t ∙ e)
    ∙ connective_as s name (codes "~") type (function_type bool_type bool_type) a a p.0 p.1 refl h.small h.known h.fitting
prefix_means s bindings (BinderPrefix q) name type f t a h p e = binder_means s bindings q name type f t a h p e
prefix_means s bindings NoPrefix name type f t a h p e = apply_means s bindings f t (constant name type) a h.function e ∙ h.fitting

-- two operands with an infix

equality_joined : (name : List ℕ) (type d : HolType) (a b : NamedTerm) → name ≡ codes "=" → type ≡ equality_type d → type_of a ≡ Some d
    → equation a b ≡ combination (combination (constant name type) a) b
equality_joined name type d a b n t e =
    ap (λ o. combination (combination (equality o) a) b) e
    ∙ ap (λ u. combination (combination (constant (codes "=") u) a) b) (sym t)
    ∙ ap (λ m. combination (combination (constant m type) a) b) (sym n)

connective_joined : (s : Scope) (name name' : List ℕ) (type : HolType) (a b : NamedTerm) → name ≡ name' → type ≡ truth_operation → type_fits type ≡ true
    → known_constant s name type ≡ Ok (constant name type)
    → well_typed (combination (combination (constant name type) a) b) ≡ Ok (combination (combination (constant name type) a) b)
    → connective s name' truth_operation (infix_term name' truth_operation a b) ≡ Ok (combination (combination (constant name type) a) b)
connective_joined s name name' type a b n t f k w =
    ap (λ m. connective s m truth_operation (infix_term m truth_operation a b)) (sym n)
    ∙ ap (λ u. connective s name u (infix_term name u a b)) (sym t)
    ∙ connective_means s name type (infix_term name type a b) f k w

joins : (s : Scope) (i : Infix) (name : List ℕ) (type : HolType) (a b : NamedTerm) → InfixSays (Some i) name type → type_fits type ≡ true
    → known_constant s name type ≡ Ok (constant name type) → well_typed (combination (constant name type) a) ≡ Ok (combination (constant name type) a)
    → well_typed (combination (combination (constant name type) a) b) ≡ Ok (combination (combination (constant name type) a) b)
    → join s i a b ≡ Ok (combination (combination (constant name type) a) b)
joins s EqualInfix name type a b h f k m w =
    ap well_typed (equality_joined name type h.0 a b h.1 h.2 (fits name type h.0 (function_type h.0 bool_type) a h.2 m)) ∙ w
joins s IffInfix name type a b h f k m w =
    ap (λ n. well_typed (infix_term n truth_operation a b)) (sym h.0) ∙ ap (λ u. well_typed (infix_term name u a b)) (sym h.1) ∙ w
joins s ImpliesInfix name type a b h f k m w = connective_joined s name (codes "==>") type a b h.0 h.1 f k w
joins s OrInfix name type a b h f k m w = connective_joined s name (codes "\\/") type a b h.0 h.1 f k w
joins s AndInfix name type a b h f k m w = connective_joined s name (codes "/\\") type a b h.0 h.1 f k w

infix_means : (s : Scope) (bindings : Bindings) (o : Option Infix) (name : List ℕ) (type : HolType) (f t u : TermTree) (a b : NamedTerm) → InfixSays o name type
    → type_fits type ≡ true → known_constant s name type ≡ Ok (constant name type) → well_typed (combination (constant name type) a) ≡ Ok (combination (constant name type) a)
    → well_typed (combination (combination (constant name type) a) b) ≡ Ok (combination (combination (constant name type) a) b)
    → meaning s bindings f ≡ Ok (combination (constant name type) a) → meaning s bindings t ≡ Ok a → meaning s bindings u ≡ Ok b
    → meaning s bindings (infix_tree o f t u) ≡ Ok (combination (combination (constant name type) a) b)
infix_means s bindings None name type f t u a b h l k m c hf ht hu = apply_means s bindings f u (combination (constant name type) a) b hf hu ∙ c
infix_means s bindings (Some i) name type f t u a b h l k m c hf ht hu =
    ap (λ r. r >>= λ x. meaning s bindings (enclose (infix_level i) u) >>= λ y. join s i x y) (enclose_means s bindings (infix_level i + 1) t ∙ ht)
    ∙ ap (λ r. r >>= λ y. join s i a y) (enclose_means s bindings (infix_level i) u ∙ hu)
    ∙ joins s i name type a b h l k m c

constant_applied_means : (s : Scope) (bindings : Bindings) (name : List ℕ) (type : HolType) (t : TermTree) (a : NamedTerm) → IsReadable s (combination (constant name type) a)
    → meaning s bindings t ≡ Ok a
    → meaning s bindings (prefix_tree (prefix_of name type) (constant_tree s bindings name type) t) ≡ Ok (combination (constant name type) a)
constant_applied_means s bindings name type t a h e =
    prefix_means s bindings (prefix_of name type) name type (constant_tree s bindings name type) t a
    (record { small = h.0.0.fits; known = h.0.1; function = constant_means s bindings name type h.0.0 h.0.1; fitting = h.2 }) (prefix_says name type) e

-- What a term is printed as means that term.
pub term_again : (s : Scope) (bindings : Bindings) (t : NamedTerm) → IsReadable s t → meaning s bindings (term_tree s bindings t) ≡ Ok t
term_again s bindings (variable name type) h = variable_means s bindings name type h.0 h.1
term_again s bindings (constant name type) h = constant_means s bindings name type h.0 h.1
term_again s bindings (abstraction name type body) h =
    ap (λ r. (r >>= named_binding name) >>= λ binding. meaning s (binding ∷ bindings) (term_tree s ((name, type) ∷ bindings) body) >>= λ term. bind s Lambda binding.0 binding.1 term)
    (type_again s type h.0)
    ∙ ap (λ b. (if b then Ok (name, type) else Err BadName) >>= λ binding. meaning s (binding ∷ bindings) (term_tree s ((name, type) ∷ bindings) body) >>= λ term. bind s Lambda binding.0
    binding.1 term) h.1
    ∙ ap (λ r. r >>= λ term. bind s Lambda name type term) (term_again s ((name, type) ∷ bindings) body h.2) ∙ h.3
term_again s bindings (combination (constant name type) a) h =
    constant_applied_means s bindings name type (term_tree s bindings a) a h (term_again s bindings a h.1)
term_again s bindings (combination (combination (constant name type) a) b) h =
    let left = term_again s bindings a h.0.1 in
    infix_means s bindings (infix_of name type) name type (prefix_tree (prefix_of name type) (constant_tree s bindings name type) (term_tree s bindings a))
    (term_tree s bindings a) (term_tree s bindings b) a b (infix_says name type) h.0.0.0.fits h.0.0.1 h.0.2 h.2
    (constant_applied_means s bindings name type (term_tree s bindings a) a h.0 left) left (term_again s bindings b h.1)
term_again s bindings (combination f a) h =
    apply_means s bindings (term_tree s bindings f) (term_tree s bindings a) f a (term_again s bindings f h.0) (term_again s bindings a h.1) ∙ h.2
