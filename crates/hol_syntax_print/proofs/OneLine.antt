-- No line feed stands in the text of a sequent that can be read back.
use Rattle.std.proofs.Common.{◌≡◌, ℕ, Bool, true, false, not, List, [], ◌∷◌, ◌++◌, if◌then◌else◌, refl, ap, ◌∙◌, subst}
use Rattle.std.specs.Prelude.{nat_eq}
use Rattle.std.proofs.lemmas.Bool.{eqb-true}
use Rattle.hol_model.specs.declared.symbol.Symbol.{Symbol}
use Rattle.hol_model.specs.declared.symbol.Symbol.TheVariants.{Iff, Implies, Arrow, And, Or, Turnstile, Equal, Backslash, Exclamation, Question, At, Tilde, OpenParenthesis, CloseParenthesis}
use Rattle.hol_model.specs.declared.symbol.Symbol.TheVariants.{OpenBracket, CloseBracket, Colon, Dot, Comma, Semicolon, Backquote}
use Rattle.hol_model.specs.Terms.Name.{is_identifier}
use Rattle.hol_model.specs.Terms.HolType.{HolType}
use Rattle.hol_model.specs.Terms.NamedTerm.{NamedTerm, variable, constant, combination, abstraction}
use Rattle.hol_model.specs.Texts.Token.{Token, Name, Number, Mark, symbol_text, token_text}
use Rattle.hol_model.specs.Texts.TypeGrammar.{TypeTree, Named, Enclosed, Function}
use Rattle.hol_model.specs.Texts.TermGrammar.{Lambda, Atom, Bare, Variable, Constant, TermTree, Leaf}
use Rattle.hol_model.specs.Texts.TermGrammar.{Apply, Not, Join, Bind, infix_symbol, binder_symbol}
use Rattle.hol_model.specs.Texts.TermGrammar.{Enclosed as EnclosedTerm}
use Rattle.hol_model.specs.Texts.Lexing.{is_letter, is_name_byte, Every, IsIdentifier}
use Rattle.hol_model.specs.Texts.Reading.{Scope, Bindings, bound_type}
use Rattle.hol_model.specs.Texts.Printing.{type_tree, typed_constant, bare_tree, constant_tree, infix_of, prefix_of, apply_tree, prefix_tree, infix_tree, term_tree}
use Rattle.hol_model.specs.Texts.Texts.{type_bytes, atom_bytes, term_bytes, further_bytes, listed_bytes, text_of_sequent, text_of_goal, IsReadableTerm}
use Rattle.hol_model.specs.Texts.SequentTexts.{IsReadableFormula, AreReadableFormulas}
use Rattle.hol_model.specs.Texts.Texts.{is_one_line}
use Rattle.hol_syntax_print.proofs.TextsReadBack.{HasTypeNames, HasAtomNames, HasNames, IsNameOfConstant, printed_tree}

is_10 : (byte : ℕ) → nat_eq byte 10 ≡ true → byte ≡ 10
is_10 byte same = eqb-true byte 10 same

-- a byte of a name is no line feed
name_byte : (byte : ℕ) → is_name_byte byte ≡ true → not (nat_eq byte 10) ≡ true
name_byte byte is = go (nat_eq byte 10) refl
  where
    go : (test : Bool) → nat_eq byte 10 ≡ test → not test ≡ true
    go false same = refl
    go true same = (let never : false ≡ true = subst (λ (b : ℕ). is_name_byte b ≡ true) (is_10 byte same) is in cc)

letter : (byte : ℕ) → is_letter byte ≡ true → not (nat_eq byte 10) ≡ true
letter byte is = go (nat_eq byte 10) refl
  where
    go : (test : Bool) → nat_eq byte 10 ≡ test → not test ≡ true
    go false same = refl
    go true same = (let never : false ≡ true = subst (λ (b : ℕ). is_letter b ≡ true) (is_10 byte same) is in cc)

every_one_line : (bytes rest : List ℕ) → Every is_name_byte bytes → is_one_line rest ≡ true → is_one_line (bytes ++ rest) ≡ true
every_one_line [] rest each more = more
every_one_line (byte ∷ bytes) rest each more = rw (name_byte byte each.0, every_one_line bytes rest each.1 more) refl

name_one_line : (name rest : List ℕ) → IsIdentifier name → is_one_line rest ≡ true → is_one_line (name ++ rest) ≡ true
name_one_line [] rest is more = absurd is
name_one_line (byte ∷ bytes) rest is more = rw (letter byte is.0, every_one_line bytes rest is.1 more) refl

symbol_one_line : (symbol : Symbol) (rest : List ℕ) → is_one_line rest ≡ true → is_one_line (symbol_text symbol ++ rest) ≡ true
symbol_one_line Iff rest more = more
symbol_one_line Implies rest more = more
symbol_one_line Arrow rest more = more
symbol_one_line And rest more = more
symbol_one_line Or rest more = more
symbol_one_line Turnstile rest more = more
symbol_one_line Equal rest more = more
symbol_one_line Backslash rest more = more
symbol_one_line Exclamation rest more = more
symbol_one_line Question rest more = more
symbol_one_line At rest more = more
symbol_one_line Tilde rest more = more
symbol_one_line OpenParenthesis rest more = more
symbol_one_line CloseParenthesis rest more = more
symbol_one_line OpenBracket rest more = more
symbol_one_line CloseBracket rest more = more
symbol_one_line Colon rest more = more
symbol_one_line Dot rest more = more
symbol_one_line Comma rest more = more
symbol_one_line Semicolon rest more = more
symbol_one_line Backquote rest more = more

-- the texts of types and terms, and then a rest

type_one_line : (tree : TypeTree) (rest : List ℕ) → HasTypeNames tree → is_one_line rest ≡ true → is_one_line (type_bytes tree rest) ≡ true
type_one_line (Named name) rest names more = name_one_line name rest names more
type_one_line (Enclosed tree) rest names more = type_one_line tree (41 ∷ rest) names more
type_one_line (Function left right) rest names more = type_one_line left (45 ∷ 62 ∷ type_bytes right rest) names.0 (type_one_line right rest names.1 more)

constant_one_line : (name : Token) (rest : List ℕ) → IsNameOfConstant name → is_one_line rest ≡ true → is_one_line (token_text name ++ rest) ≡ true
constant_one_line (Name bytes) rest is more = name_one_line bytes rest is more
constant_one_line (Number bytes) rest is more = absurd is
constant_one_line (Mark symbol) rest is more = symbol_one_line symbol rest more

atom_one_line : (atom : Atom) (rest : List ℕ) → HasAtomNames atom → is_one_line rest ≡ true → is_one_line (atom_bytes atom rest) ≡ true
atom_one_line (Bare name) rest names more = name_one_line name rest names more
atom_one_line (Variable name ty) rest names more = name_one_line name (58 ∷ type_bytes ty (41 ∷ rest)) names.0 (type_one_line ty (41 ∷ rest) names.1 more)
atom_one_line (Constant name ty) rest names more = constant_one_line name (58 ∷ type_bytes ty (93 ∷ rest)) names.0 (type_one_line ty (93 ∷ rest) names.1 more)

term_one_line : (tree : TermTree) (rest : List ℕ) → HasNames tree → is_one_line rest ≡ true → is_one_line (term_bytes tree rest) ≡ true
term_one_line (Leaf atom) rest names more = atom_one_line atom rest names more
term_one_line (EnclosedTerm tree) rest names more = term_one_line tree (41 ∷ rest) names more
term_one_line (Apply function argument) rest names more = term_one_line function (32 ∷ term_bytes argument rest) names.0 (term_one_line argument rest names.1 more)
term_one_line (Not tree) rest names more = term_one_line tree rest names more
term_one_line (Join infix' left right) rest names more =
    term_one_line left (32 ∷ (symbol_text (infix_symbol infix') ++ 32 ∷ term_bytes right rest)) names.0
    (symbol_one_line (infix_symbol infix') (32 ∷ term_bytes right rest) (term_one_line right rest names.1 more))
term_one_line (Bind binder name ty body) rest names more =
    symbol_one_line (binder_symbol binder) (name ++ 58 ∷ type_bytes ty (46 ∷ 32 ∷ term_bytes body rest))
    (name_one_line name (58 ∷ type_bytes ty (46 ∷ 32 ∷ term_bytes body rest)) names.0
    (type_one_line ty (46 ∷ 32 ∷ term_bytes body rest) names.1 (term_one_line body rest names.2 more)))

-- a term that can be read back, and then a rest
readable_one_line : (scope : Scope) (term : NamedTerm) (rest : List ℕ) → IsReadableTerm scope term → is_one_line rest ≡ true
    → is_one_line (term_bytes (term_tree scope [] term) rest) ≡ true
readable_one_line scope term rest is more = term_one_line (term_tree scope [] term) rest (printed_tree scope term is).names more

further_one_line : (scope : Scope) (terms : List NamedTerm) (rest : List ℕ) → AreReadableFormulas scope terms → is_one_line rest ≡ true
    → is_one_line (further_bytes scope terms rest) ≡ true
further_one_line scope [] rest are more = more
further_one_line scope (term ∷ terms) rest are more =
    readable_one_line scope term (further_bytes scope terms rest) are.0.readable (further_one_line scope terms rest are.1 more)

listed_one_line : (scope : Scope) (terms : List NamedTerm) (rest : List ℕ) → AreReadableFormulas scope terms → is_one_line rest ≡ true
    → is_one_line (listed_bytes scope terms rest) ≡ true
listed_one_line scope [] rest are more = more
listed_one_line scope (term ∷ terms) rest are more =
    readable_one_line scope term (further_bytes scope terms (32 ∷ rest)) are.0.readable (further_one_line scope terms (32 ∷ rest) are.1 more)

pub sequent_one_line : (scope : Scope) (hypotheses : List NamedTerm) (conclusion : NamedTerm) → AreReadableFormulas scope hypotheses → IsReadableFormula scope conclusion
    → is_one_line (text_of_sequent scope hypotheses conclusion) ≡ true
sequent_one_line scope hypotheses conclusion are is =
    listed_one_line scope hypotheses (124 ∷ 45 ∷ 32 ∷ term_bytes (term_tree scope [] conclusion) []) are (readable_one_line scope conclusion [] is.readable refl)

pub goal_one_line : (scope : Scope) (assumptions : List NamedTerm) (target : NamedTerm) → AreReadableFormulas scope assumptions → IsReadableFormula scope target
    → is_one_line (text_of_goal scope assumptions target) ≡ true
goal_one_line scope assumptions target are is =
    listed_one_line scope assumptions (63 ∷ 45 ∷ 32 ∷ term_bytes (term_tree scope [] target) []) are (readable_one_line scope target [] is.readable refl)

-- ---- texts do not depend on the declared variables

module _ (scope other : Scope) (same : scope.generic_type ≡ other.generic_type) where
  bare_same : (bindings : Bindings) (name : List ℕ) (ty : HolType) → constant_tree scope bindings name ty ≡ constant_tree other bindings name ty
  bare_same bindings name ty = λ i. if is_identifier name then bare_tree (same i name) (bound_type bindings name) name ty else typed_constant name ty

  tree_same : (bindings : Bindings) (term : NamedTerm) → term_tree scope bindings term ≡ term_tree other bindings term
  tree_same bindings (variable name ty) = refl
  tree_same bindings (constant name ty) = bare_same bindings name ty
  tree_same bindings (abstraction name ty body) = ap (Bind Lambda name (type_tree ty)) (tree_same ((name, ty) ∷ bindings) body)
  tree_same bindings (combination (constant name ty) a) =
      let one = bare_same bindings name ty in
      let two = tree_same bindings a in
      λ i. prefix_tree (prefix_of name ty) (one i) (two i)
  tree_same bindings (combination (combination (constant name ty) a) b) =
      let zero' = bare_same bindings name ty in
      let one = tree_same bindings a in
      let two = tree_same bindings b in
      λ i. infix_tree (infix_of name ty) (prefix_tree (prefix_of name ty) (zero' i) (one i)) (one i) (two i)
  tree_same bindings (combination f a) =
      let one = tree_same bindings f in
      let two = tree_same bindings a in
      λ i. apply_tree (one i) (two i)

  further_same : (terms : List NamedTerm) (rest : List ℕ) → further_bytes scope terms rest ≡ further_bytes other terms rest
  further_same [] rest = refl
  further_same (term ∷ terms) rest = let one = tree_same [] term in let more = further_same terms rest in λ i. 44 ∷ 32 ∷ term_bytes (one i) (more i)

  listed_same : (terms : List NamedTerm) (rest : List ℕ) → listed_bytes scope terms rest ≡ listed_bytes other terms rest
  listed_same [] rest = refl
  listed_same (term ∷ terms) rest = let one = tree_same [] term in let more = further_same terms (32 ∷ rest) in λ i. term_bytes (one i) (more i)

  pub sequent_same : (hypotheses : List NamedTerm) (conclusion : NamedTerm) → text_of_sequent scope hypotheses conclusion ≡ text_of_sequent other hypotheses conclusion
  sequent_same hypotheses conclusion =
      let one = tree_same [] conclusion in
      listed_same hypotheses (124 ∷ 45 ∷ 32 ∷ term_bytes (term_tree scope [] conclusion) [])
      ∙ ap (λ (text : List ℕ). listed_bytes other hypotheses (124 ∷ 45 ∷ 32 ∷ text)) (ap (λ (tree : TermTree). term_bytes tree []) one)

  pub goal_same : (assumptions : List NamedTerm) (target : NamedTerm) → text_of_goal scope assumptions target ≡ text_of_goal other assumptions target
  goal_same assumptions target =
      let one = tree_same [] target in
      listed_same assumptions (63 ∷ 45 ∷ 32 ∷ term_bytes (term_tree scope [] target) [])
      ∙ ap (λ (text : List ℕ). listed_bytes other assumptions (63 ∷ 45 ∷ 32 ∷ text)) (ap (λ (tree : TermTree). term_bytes tree []) one)
