-- The text of a type or a term reads back as that type or term.
use Rattle.std.proofs.Common.{◌≡◌, ◌≢◌, ℕ, ◌+◌, ◌<◌, ◌≤◌, Bool, true, false, List, [], ◌∷◌, ◌++◌, Option, None, Some, refl, sym, ap, ◌∙◌, subst, Ok, arith, nat_le, if◌then◌else◌, codes}
use Rattle.std.specs.Str.{bytes_eq}
use Rattle.std.proofs.lemmas.Bool.{leb-true}
use Rattle.hol_model.specs.declared.symbol.Symbol.{Symbol}
use Rattle.hol_model.specs.declared.symbol.Symbol.TheVariants.{Iff, Implies, And, Or, Equal, Exclamation, Question, At, Tilde, Backslash, OpenParenthesis, CloseParenthesis, OpenBracket}
use Rattle.hol_model.specs.declared.symbol.Symbol.TheVariants.{CloseBracket, Colon, Dot}
use Rattle.hol_model.specs.declared.symbol.Symbol.TheVariants.{Arrow as ArrowSymbol}
use Rattle.hol_model.specs.Terms.Name.{continues_name, all_continue, is_identifier}
use Rattle.hol_model.specs.Terms.HolType.{HolType, type_variable, bool_type, function_type, declared_type, type_eq}
use Rattle.hol_model.specs.Terms.NamedTerm.{NamedTerm, variable, constant, combination, abstraction}
use Rattle.hol_model.specs.Texts.Token.{Token, Name, Number, Mark, symbol_text, token_text}
use Rattle.hol_model.specs.Texts.TypeGrammar.{TypeTree, Named, Enclosed, Function, IsAtom, IsTypeTree, type_tokens}
use Rattle.hol_model.specs.Texts.TermGrammar.{Infix, IffInfix, ImpliesInfix, OrInfix, AndInfix, EqualInfix, Binder, Lambda, ForAll, Exists, Choice, Atom, Bare, Variable, Constant, TermTree, Leaf}
use Rattle.hol_model.specs.Texts.TermGrammar.{Apply, Not, Join, Bind, infix_level, level, infix_symbol, binder_symbol, IsWithin, IsTermTree, IsConstantName, Lexeme, ClosePiece, InfixPiece}
use Rattle.hol_model.specs.Texts.TermGrammar.{pieces, all_tokens, atom_tokens, piece_tokens, IsReadTerm}
use Rattle.hol_model.specs.Texts.TermGrammar.{Enclosed as EnclosedTerm}
use Rattle.hol_model.specs.Texts.Lexing.{is_letter, is_name_byte, Every, IsIdentifier, IsToken, StartsWithout, IsLongest, Lexes}
use Rattle.hol_model.specs.Texts.Reading.{Scope, Bindings, bound_type, is_closed_type, meaning}
use Rattle.hol_model.specs.Texts.Printing.{as_atom, type_tree, enclose, variable_tree, name_token, typed_constant, bare_tree, constant_tree, infix_of, Prefix, NotPrefix, BinderPrefix, NoPrefix}
use Rattle.hol_model.specs.Texts.Printing.{prefix_of, apply_tree, binder_tree, prefix_tree, infix_tree, term_tree}
use Rattle.hol_model.specs.Texts.Texts.{type_bytes, atom_bytes, term_bytes, text_of_term, IsNamedType, IsReadableType, IsReadableTerm, TypesReadBack, TermsReadBack}
use Rattle.hol_syntax_print.proofs.PrintedDepth.{type_depth_fits, term_nesting}
use Rattle.hol_syntax_print.proofs.ReadableTerms.{both_true, is_typed, IsReadable, is_readable, within_height}
use Rattle.hol_syntax_print.proofs.TreesMean.{capital_identifier, small_identifier, type_again, term_again}

every_continues : (bytes : List ℕ) → all_continue bytes ≡ true → Every is_name_byte bytes
every_continues [] h = tt
every_continues (b ∷ bytes) h = let parts = both_true (continues_name b) (all_continue bytes) h in (parts.0, every_continues bytes parts.1)

identifier : (name : List ℕ) → is_identifier name ≡ true → IsIdentifier name
identifier [] h = absurd (let bad : false ≡ true = h in cc)
identifier (b ∷ bytes) h = let parts = both_true (is_letter b) (all_continue bytes) h in (parts.0, every_continues bytes parts.1)

-- one token, and then the rest
pub token_then : (token : Token) (rest : List ℕ) (tokens : List Token) → IsToken token → IsLongest token rest → Lexes rest tokens → Lexes (token_text token ++ rest) (token ∷ tokens)
token_then token rest tokens v l h = ([], token_text token ++ rest, rest, tt, refl, record { valid = v; spelled = refl; longest = l }, h)

pub space_then : (rest : List ℕ) (tokens : List Token) → Lexes rest tokens → Lexes (32 ∷ rest) tokens
space_then rest [] h = (refl, h)
space_then rest (token ∷ tokens) h = (32 ∷ h.0, h.1, h.2, (refl, h.3), ap (λ r. 32 ∷ r) h.4, h.5, h.6)

-- names in a tree are identifiers
abbrev pub HasTypeNames : TypeTree → Type 0
HasTypeNames (Named name) = IsIdentifier name
HasTypeNames (Enclosed t) = HasTypeNames t
HasTypeNames (Function a b) = HasTypeNames a × HasTypeNames b

type_lexes : (t : TypeTree) → HasTypeNames t → (rest : List ℕ) (tokens : List Token) → StartsWithout is_name_byte rest → Lexes rest tokens
    → Lexes (type_bytes t rest) (type_tokens t tokens)
type_lexes (Named name) n rest tokens s h = token_then (Name name) rest tokens n s h
type_lexes (Enclosed t) n rest tokens s h =
    token_then (Mark OpenParenthesis) (type_bytes t (41 ∷ rest)) (type_tokens t (Mark CloseParenthesis ∷ tokens)) tt tt
    (type_lexes t n (41 ∷ rest) (Mark CloseParenthesis ∷ tokens) refl (token_then (Mark CloseParenthesis) rest tokens tt tt h))
type_lexes (Function a b) n rest tokens s h =
    type_lexes a n.0 (45 ∷ 62 ∷ type_bytes b rest) (Mark ArrowSymbol ∷ type_tokens b tokens) refl
    (token_then (Mark ArrowSymbol) (type_bytes b rest) (type_tokens b tokens) tt tt (type_lexes b n.1 rest tokens s h))

as_atom_is : (t : TypeTree) → IsTypeTree t → HasTypeNames t → IsAtom (as_atom t) × IsTypeTree (as_atom t) × HasTypeNames (as_atom t)
as_atom_is (Named name) h n = (tt, tt, n)
as_atom_is (Enclosed t) h n = (tt, h, n)
as_atom_is (Function a b) h n = (tt, h, n)

type_tree_is : (scope : Scope) (ty : HolType) → IsNamedType scope ty → IsTypeTree (type_tree ty) × HasTypeNames (type_tree ty)
type_tree_is scope (type_variable name) h = (tt, identifier name (capital_identifier name h))
type_tree_is scope bool_type h = (tt, identifier (codes "bool") refl)
type_tree_is scope (function_type a b) h =
    let x = type_tree_is scope a h.0 in
    let y = type_tree_is scope b h.1 in
    let z = as_atom_is (type_tree a) x.0 x.1 in
    ((z.0, z.1, y.0), (z.2, y.1))
type_tree_is scope (declared_type name) h = (tt, identifier name (small_identifier name h.1))

pub types_read_back : TypesReadBack
types_read_back scope ty h =
    let tree = type_tree_is scope ty h.named in (
      type_tree ty,
      record {
        tokens = type_tokens (type_tree ty) [];
        lexed = type_lexes (type_tree ty) tree.1 [] [] tt tt;
        read = record { grammatical = tree.0; depth = type_depth_fits ty h.fits; spelled = refl };
      },
      type_again scope ty h,
    )

-- what names a constant in brackets
abbrev pub IsNameOfConstant : Token → Type 0
IsNameOfConstant (Name bytes) = IsIdentifier bytes
IsNameOfConstant (Number bytes) = ⊥
IsNameOfConstant (Mark symbol) = IsConstantName (Mark symbol)

pick_name : (b : Bool) (x y : Token) → (b ≡ true → IsNameOfConstant x) → IsNameOfConstant y → IsNameOfConstant (if b then x else y)
pick_name true x y h k = h refl
pick_name false x y h k = k

name_token_is : (name : List ℕ) → IsNameOfConstant (name_token name)
name_token_is name =
    pick_name (is_identifier name) (Name name) _ (λ e. identifier name e)
    (pick_name (bytes_eq name (codes "=")) (Mark Equal) _ (λ e. tt)
    (pick_name (bytes_eq name (codes "@")) (Mark At) _ (λ e. tt)
    (pick_name (bytes_eq name (codes "/\\")) (Mark And) _ (λ e. tt)
    (pick_name (bytes_eq name (codes "\\/")) (Mark Or) _ (λ e. tt)
    (pick_name (bytes_eq name (codes "==>")) (Mark Implies) _ (λ e. tt)
    (pick_name (bytes_eq name (codes "~")) (Mark Tilde) _ (λ e. tt)
    (pick_name (bytes_eq name (codes "!")) (Mark Exclamation) (Mark Question) (λ e. tt) tt)))))))

abbrev pub HasAtomNames : Atom → Type 0
HasAtomNames (Bare name) = IsIdentifier name
HasAtomNames (Variable name type) = IsIdentifier name × HasTypeNames type
HasAtomNames (Constant name type) = IsNameOfConstant name × HasTypeNames type

abbrev pub HasNames : TermTree → Type 0
HasNames (Leaf a) = HasAtomNames a
HasNames (EnclosedTerm t) = HasNames t
HasNames (Apply f a) = HasNames f × HasNames a
HasNames (Not t) = HasNames t
HasNames (Join i a b) = HasNames a × HasNames b
HasNames (Bind q x type t) = IsIdentifier x × HasTypeNames type × HasNames t

-- a name, a colon, a type and a token behind it
named_lexes : (name : Token) (type : TypeTree) (last : Symbol) (rest : List ℕ) (tokens : List Token) → IsToken name
    → IsLongest name (58 ∷ type_bytes type (symbol_text last ++ rest)) → HasTypeNames type → StartsWithout is_name_byte (symbol_text last ++ rest)
    → IsLongest (Mark last) rest → Lexes rest tokens
    → Lexes (token_text name ++ 58 ∷ type_bytes type (symbol_text last ++ rest)) (name ∷ Mark Colon ∷ type_tokens type (Mark last ∷ tokens))
named_lexes name type last rest tokens v l n s e h =
    token_then name (58 ∷ type_bytes type (symbol_text last ++ rest)) (Mark Colon ∷ type_tokens type (Mark last ∷ tokens)) v l
    (token_then (Mark Colon) (type_bytes type (symbol_text last ++ rest)) (type_tokens type (Mark last ∷ tokens)) tt tt
    (type_lexes type n (symbol_text last ++ rest) (Mark last ∷ tokens) s (token_then (Mark last) rest tokens tt e h)))

constant_name : (name : Token) (rest : List ℕ) → IsNameOfConstant name → IsToken name × IsLongest name (58 ∷ rest)
constant_name (Name bytes) rest h = (h, refl)
constant_name (Number bytes) rest h = absurd h
constant_name (Mark Equal) rest h = (tt, λ more e. let bad : ◌≡◌ {A = ℕ} 58 61 = cc in absurd (omega (arith, bad)))
constant_name (Mark Backslash) rest h = (tt, λ more e. let bad : ◌≡◌ {A = ℕ} 58 47 = cc in absurd (omega (arith, bad)))
constant_name (Mark _) rest h = (tt, tt)

atom_lexes : (a : Atom) → HasAtomNames a → (rest : List ℕ) (tokens : List Token) → StartsWithout is_name_byte rest → Lexes rest tokens
    → Lexes (atom_bytes a rest) (atom_tokens a tokens)
atom_lexes (Bare name) n rest tokens s h = token_then (Name name) rest tokens n s h
atom_lexes (Variable name type) n rest tokens s h =
    token_then (Mark OpenParenthesis) (name ++ 58 ∷ type_bytes type (41 ∷ rest)) (Name name ∷ Mark Colon ∷ type_tokens type (Mark CloseParenthesis ∷ tokens)) tt tt
    (named_lexes (Name name) type CloseParenthesis rest tokens n.0 refl n.1 refl tt h)
atom_lexes (Constant name type) n rest tokens s h =
    let c = constant_name name (type_bytes type (93 ∷ rest)) n.0 in
    token_then (Mark OpenBracket) (token_text name ++ 58 ∷ type_bytes type (93 ∷ rest)) (name ∷ Mark Colon ∷ type_tokens type (Mark CloseBracket ∷ tokens)) tt tt
    (named_lexes name type CloseBracket rest tokens c.0 c.1 n.1 refl tt h)

infix_then : (i : Infix) (rest : List ℕ) (tokens : List Token) → Lexes rest tokens
    → Lexes (symbol_text (infix_symbol i) ++ 32 ∷ rest) (Mark (infix_symbol i) ∷ tokens)
infix_then EqualInfix rest tokens h =
    token_then (Mark Equal) (32 ∷ rest) tokens tt (λ more e. let bad : ◌≡◌ {A = ℕ} 32 61 = cc in absurd (omega (arith, bad))) (space_then rest tokens h)
infix_then IffInfix rest tokens h = token_then (Mark Iff) (32 ∷ rest) tokens tt tt (space_then rest tokens h)
infix_then ImpliesInfix rest tokens h = token_then (Mark Implies) (32 ∷ rest) tokens tt tt (space_then rest tokens h)
infix_then OrInfix rest tokens h = token_then (Mark Or) (32 ∷ rest) tokens tt tt (space_then rest tokens h)
infix_then AndInfix rest tokens h = token_then (Mark And) (32 ∷ rest) tokens tt tt (space_then rest tokens h)

no_slash : (name rest : List ℕ) → IsIdentifier name → (more : List ℕ) → name ++ rest ≢ 47 ∷ more
no_slash [] rest h more e = absurd h
no_slash (b ∷ name) rest h more e =
    let slash : b ≡ 47 = cc in
    let letter : is_letter 47 ≡ true = sym (ap is_letter slash) ∙ h.0 in
    let bad : false ≡ true = letter in cc

binder_then : (q : Binder) (name rest : List ℕ) (tokens : List Token) → IsIdentifier name → Lexes (name ++ rest) tokens
    → Lexes (symbol_text (binder_symbol q) ++ (name ++ rest)) (Mark (binder_symbol q) ∷ tokens)
binder_then Lambda name rest tokens n h = token_then (Mark Backslash) (name ++ rest) tokens tt (no_slash name rest n) h
binder_then ForAll name rest tokens n h = token_then (Mark Exclamation) (name ++ rest) tokens tt tt h
binder_then Exists name rest tokens n h = token_then (Mark Question) (name ++ rest) tokens tt tt h
binder_then Choice name rest tokens n h = token_then (Mark At) (name ++ rest) tokens tt tt h

-- the tokens of the pieces, and then the others
abbrev pub tokens_then : List Lexeme → List Token → List Token
tokens_then [] tokens = tokens
tokens_then (piece ∷ rest) tokens = piece_tokens piece (tokens_then rest tokens)

tokens_alone : (rest : List Lexeme) → tokens_then rest [] ≡ all_tokens rest
tokens_alone [] = refl
tokens_alone (piece ∷ rest) = ap (piece_tokens piece) (tokens_alone rest)

pub term_lexes : (t : TermTree) → HasNames t → (rest : List ℕ) (behind : List Lexeme) (tokens : List Token) → StartsWithout is_name_byte rest
    → Lexes rest (tokens_then behind tokens) → Lexes (term_bytes t rest) (tokens_then (pieces t behind) tokens)
term_lexes (Leaf a) n rest behind tokens s h = atom_lexes a n rest (tokens_then behind tokens) s h
term_lexes (EnclosedTerm t) n rest behind tokens s h =
    token_then (Mark OpenParenthesis) (term_bytes t (41 ∷ rest)) (tokens_then (pieces t (ClosePiece ∷ behind)) tokens) tt tt
    (term_lexes t n (41 ∷ rest) (ClosePiece ∷ behind) tokens refl (token_then (Mark CloseParenthesis) rest (tokens_then behind tokens) tt tt h))
term_lexes (Apply f a) n rest behind tokens s h =
    term_lexes f n.0 (32 ∷ term_bytes a rest) (pieces a behind) tokens refl
    (space_then (term_bytes a rest) (tokens_then (pieces a behind) tokens) (term_lexes a n.1 rest behind tokens s h))
term_lexes (Not t) n rest behind tokens s h =
    token_then (Mark Tilde) (term_bytes t rest) (tokens_then (pieces t behind) tokens) tt tt (term_lexes t n rest behind tokens s h)
term_lexes (Join i a b) n rest behind tokens s h =
    term_lexes a n.0 (32 ∷ (symbol_text (infix_symbol i) ++ 32 ∷ term_bytes b rest)) (InfixPiece i ∷ pieces b behind) tokens refl
    (space_then (symbol_text (infix_symbol i) ++ 32 ∷ term_bytes b rest) (Mark (infix_symbol i) ∷ tokens_then (pieces b behind) tokens)
    (infix_then i (term_bytes b rest) (tokens_then (pieces b behind) tokens) (term_lexes b n.1 rest behind tokens s h)))
term_lexes (Bind q x type t) n rest behind tokens s h =
    binder_then q x (58 ∷ type_bytes type (46 ∷ 32 ∷ term_bytes t rest)) (Name x ∷ Mark Colon ∷ type_tokens type (Mark Dot ∷ tokens_then (pieces t behind) tokens)) n.0
    (named_lexes (Name x) type Dot (32 ∷ term_bytes t rest) (tokens_then (pieces t behind) tokens) n.0 refl n.1 refl tt
    (space_then (term_bytes t rest) (tokens_then (pieces t behind) tokens) (term_lexes t n.2 rest behind tokens s h)))

-- What a term is printed as is of the grammar.
abbrev IsFine : TermTree → Type 0
IsFine t = IsTermTree t × HasNames t

enclose_fine : (n : ℕ) (t : TermTree) → IsFine t → IsFine (enclose n t)
enclose_fine n t h = go (nat_le n (level t))
  where
    go : (b : Bool) → IsFine (if b then t else EnclosedTerm t)
    go true = h
    go false = (h.0, h.1)

enclose_level : (n : ℕ) (t : TermTree) → n ≤ 20 → n ≤ level (enclose n t)
enclose_level n t h = go (nat_le n (level t)) refl
  where
    go : (b : Bool) → nat_le n (level t) ≡ b → n ≤ level (if b then t else EnclosedTerm t)
    go true e = leb-true n (level t) e
    go false e = h

typed_atom : (scope : Scope) (ty : HolType) → IsReadableType scope ty → IsWithin (type_tree ty) × HasTypeNames (type_tree ty)
typed_atom scope ty h = let t = type_tree_is scope ty h.named in ((t.0, type_depth_fits ty h.fits), t.1)

pick_fine : (b : Bool) (x y : TermTree) → IsFine x → IsFine y → IsFine (if b then x else y)
pick_fine true x y h k = h
pick_fine false x y h k = k

variable_fine : (scope : Scope) (o : Option HolType) (name : List ℕ) (ty : HolType) → IsReadableType scope ty → IsIdentifier name → IsFine (variable_tree o name ty)
variable_fine scope None name ty h n = let t = typed_atom scope ty h in (t.0, (n, t.1))
variable_fine scope (Some other) name ty h n =
    let t = typed_atom scope ty h in
    pick_fine (type_eq other ty) (Leaf (Bare name)) (Leaf (Variable name (type_tree ty))) (tt, n) (t.0, (n, t.1))

constant_is : (name : Token) → IsNameOfConstant name → IsConstantName name
constant_is (Name bytes) h = tt
constant_is (Number bytes) h = absurd h
constant_is (Mark symbol) h = h

typed_fine : (scope : Scope) (name : List ℕ) (ty : HolType) → IsReadableType scope ty → IsFine (typed_constant name ty)
typed_fine scope name ty h =
    let t = typed_atom scope ty h in
    let n = name_token_is name in
    ((constant_is (name_token name) n, t.0), (n, t.1))

constant_fine : (scope : Scope) (bindings : Bindings) (name : List ℕ) (ty : HolType) → IsReadableType scope ty → IsFine (constant_tree scope bindings name ty)
constant_fine scope bindings name ty h = named (is_identifier name) refl
  where
    go : (g o : Option HolType) → is_identifier name ≡ true → IsFine (bare_tree g o name ty)
    go None o i = typed_fine scope name ty h
    go (Some generic) (Some other) i = typed_fine scope name ty h
    go (Some generic) None i = pick_fine (is_closed_type generic) (Leaf (Bare name)) (typed_constant name ty) (tt, identifier name i) (typed_fine scope name ty h)

    named : (b : Bool) → is_identifier name ≡ b → IsFine (if b then bare_tree (scope.generic_type name) (bound_type bindings name) name ty else typed_constant name ty)
    named true i = go (scope.generic_type name) (bound_type bindings name) i
    named false i = typed_fine scope name ty h

apply_fine : (f a : TermTree) → IsFine f → IsFine a → IsFine (apply_tree f a)
apply_fine f a h k =
    let x = enclose_fine 16 f h in
    let y = enclose_fine 20 a k in
    ((x.0, y.0, enclose_level 16 f (omega arith), enclose_level 20 a (omega arith)), (x.1, y.1))

binder_fine : (q : Binder) (f a : TermTree) → IsFine f → IsFine a → IsFine (binder_tree q f a)
binder_fine q f (Bind Lambda x type t) h k = k
binder_fine q f a h k = apply_fine f a h k

prefix_fine : (p : Prefix) (f a : TermTree) → IsFine f → IsFine a → IsFine (prefix_tree p f a)
prefix_fine NotPrefix f a h k = let x = enclose_fine 14 a k in ((x.0, enclose_level 14 a (omega arith)), x.1)
prefix_fine (BinderPrefix q) f a h k = binder_fine q f a h k
prefix_fine NoPrefix f a h k = apply_fine f a h k

infix_small : (i : Infix) → infix_level i < 20
infix_small IffInfix = omega arith
infix_small ImpliesInfix = omega arith
infix_small OrInfix = omega arith
infix_small AndInfix = omega arith
infix_small EqualInfix = omega arith

infix_fine : (o : Option Infix) (f a b : TermTree) → IsFine f → IsFine a → IsFine b → IsFine (infix_tree o f a b)
infix_fine None f a b h k l = apply_fine f b h l
infix_fine (Some i) f a b h k l =
    let x = enclose_fine (infix_level i + 1) a k in
    let y = enclose_fine (infix_level i) b l in
    let low = infix_small i in
    let left = enclose_level (infix_level i + 1) a (omega (arith, low)) in
    ((x.0, y.0, omega (arith, left), enclose_level (infix_level i) b (omega (arith, low))), (x.1, y.1))

term_fine : (scope : Scope) (bindings : Bindings) (t : NamedTerm) → IsReadable scope t → IsFine (term_tree scope bindings t)
term_fine scope bindings (variable name ty) h = variable_fine scope (bound_type bindings name) name ty h.0 (identifier name h.1)
term_fine scope bindings (constant name ty) h = constant_fine scope bindings name ty h.0
term_fine scope bindings (abstraction name ty body) h =
    let t = typed_atom scope ty h.0 in
    let b = term_fine scope ((name, ty) ∷ bindings) body h.2 in
    ((t.0, b.0), (identifier name h.1, t.1, b.1))
term_fine scope bindings (combination (constant name ty) a) h =
    prefix_fine (prefix_of name ty) (constant_tree scope bindings name ty) (term_tree scope bindings a) (constant_fine scope bindings name ty h.0.0) (term_fine scope bindings a h.1)
term_fine scope bindings (combination (combination (constant name ty) a) b) h =
    let left = term_fine scope bindings a h.0.1 in
    infix_fine (infix_of name ty) (prefix_tree (prefix_of name ty) (constant_tree scope bindings name ty) (term_tree scope bindings a)) (term_tree scope bindings a) (term_tree scope bindings b)
    (prefix_fine (prefix_of name ty) (constant_tree scope bindings name ty) (term_tree scope bindings a) (constant_fine scope bindings name ty h.0.0.0) left) left
    (term_fine scope bindings b h.1)
term_fine scope bindings (combination f a) h =
    apply_fine (term_tree scope bindings f) (term_tree scope bindings a) (term_fine scope bindings f h.0) (term_fine scope bindings a h.1)

-- what the tree of a term that can be read back is
pub record IsGrammatical (tree : TermTree) : Type 0 where
  pub names : HasNames tree
  pub read : IsReadTerm (all_tokens (pieces tree [])) tree

pub printed_tree : (scope : Scope) (t : NamedTerm) → IsReadableTerm scope t → IsGrammatical (term_tree scope [] t)
printed_tree scope t h =
    let tree = term_fine scope [] t (is_readable scope t h) in
    record {
      names = tree.1;
      read = record { grammatical = tree.0; depth = omega (arith, term_nesting scope [] t, within_height t (is_typed t h.typed)); spelled = refl };
    }

pub printed_meaning : (scope : Scope) (t : NamedTerm) → IsReadableTerm scope t → meaning scope [] (term_tree scope [] t) ≡ Ok t
printed_meaning scope t h = term_again scope [] t (is_readable scope t h)

pub terms_read_back : TermsReadBack
terms_read_back scope t h =
    let tree = printed_tree scope t h in (
      term_tree scope [] t,
      record {
        tokens = all_tokens (pieces (term_tree scope [] t) []);
        lexed = subst (Lexes (text_of_term scope t)) (tokens_alone (pieces (term_tree scope [] t) [])) (term_lexes (term_tree scope [] t) tree.names [] [] [] tt tt);
        read = tree.read;
      },
      printed_meaning scope t h,
    )
