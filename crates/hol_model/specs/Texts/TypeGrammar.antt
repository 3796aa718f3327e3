-- The grammar of types: a type is an atom or an atom, an arrow and a type; an atom is a name or a type in parentheses.
use Rattle.std.specs.Prelude.{◌≡◌, ℕ, ◌+◌, ◌≤◌, List, [], ◌∷◌, ◌++◌, max}
use Rattle.hol_model.specs.declared.symbol.Symbol.TheVariants.{Arrow, OpenParenthesis, CloseParenthesis}
use Rattle.hol_model.specs.declared.limits.TheConstants.{TYPE_NESTING_LIMIT}
use Rattle.hol_model.specs.Texts.Token.{Token, Name, Mark}

-- How a text is read as a type, its parentheses included.
pub data TypeTree : Type 0 where
  Named : List ℕ → TypeTree
  Enclosed : TypeTree → TypeTree
  Function : TypeTree → TypeTree → TypeTree

-- what may stand left of an arrow
abbrev pub IsAtom : TypeTree → Type 0
IsAtom (Named name) = Unit {0}
IsAtom (Enclosed t) = Unit {0}
IsAtom (Function a b) = ⊥

abbrev pub IsTypeTree : TypeTree → Type 0
IsTypeTree (Named name) = Unit {0}
IsTypeTree (Enclosed t) = IsTypeTree t
IsTypeTree (Function a b) = IsAtom a × IsTypeTree a × IsTypeTree b

-- its tokens, and then the rest
abbrev pub type_tokens : TypeTree → List Token → List Token
type_tokens (Named name) rest = Name name ∷ rest
type_tokens (Enclosed t) rest = Mark OpenParenthesis ∷ type_tokens t (Mark CloseParenthesis ∷ rest)
type_tokens (Function a b) rest = type_tokens a (Mark Arrow ∷ type_tokens b rest)

-- how many parentheses and arrows are open at once, at most: an arrow is open up to the end of its right side
abbrev pub type_depth : TypeTree → ℕ
type_depth (Named name) = 0
type_depth (Enclosed t) = 1 + type_depth t
type_depth (Function a b) = max (type_depth a) (1 + type_depth b)

-- The tokens are those of this tree, and then the rest.
pub record IsRead (tokens : List Token) (tree : TypeTree) (rest : List Token) : Type 0 where
  pub grammatical : IsTypeTree tree
  pub depth : type_depth tree ≤ TYPE_NESTING_LIMIT
  pub spelled : tokens ≡ type_tokens tree rest

-- A step towards a type, after the steps for its parts: the names and arrows in the order in which they are complete.
pub data TypeStep : Type 0 where
  TakeName : List ℕ → TypeStep
  MakeFunction : TypeStep

abbrev pub type_steps : TypeTree → List TypeStep
type_steps (Named name) = TakeName name ∷ []
type_steps (Enclosed t) = type_steps t
type_steps (Function a b) = type_steps a ++ (type_steps b ++ MakeFunction ∷ [])
