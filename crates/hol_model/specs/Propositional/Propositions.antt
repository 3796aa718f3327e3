-- A formula as its connectives put it together from atoms.
use Rattle.std.specs.Prelude.{ℕ, List, [], ◌∷◌, ◌++◌, Bool, true, false, ◌&&◌, ◌||◌, not, Option, Some, None, Result, Ok, Err, if◌then◌else◌, codes}
use Rattle.std.specs.Str.{bytes_eq}
use Rattle.std.specs.List.{list_any}
use Rattle.std.specs.Option.{option_map_or}
use Rattle.std.specs.declared.vec.Vec.{Vec}
use Rattle.std.specs.declared.alloc.Global.{Global}
use Rattle.hol_model.specs.declared.fault.Fault.{Fault}
use Rattle.hol_model.specs.declared.fault.Fault.TheVariants.{NotBool}
use Rattle.hol_model.specs.Kernel.Outcome.{unless}
use Rattle.hol_model.specs.Kernel.Theorem.{are_alpha_equivalent}
use Rattle.hol_model.specs.Kernel.Rules.{is_formula}
use Rattle.hol_model.specs.Terms.HolType.{HolType, type_eq}
use Rattle.hol_model.specs.Terms.NamedTerm.{NamedTerm, variable, constant, combination, abstraction}
use Rattle.hol_model.specs.Logic.Logic.{true_name, and_name, implies_name, or_name, false_name, not_name, unary, binary}

-- ---- formulas

-- a binary connective
pub data Connective : Type 0 where
  And : Connective
  Or : Connective
  Implies : Connective
  Iff : Connective

-- an atom is a formula that is neither `T` nor `F` nor formed by `~`, `/\`, `\/`, `==>` or `<=>`
pub data Proposition : Type 0 where
  atom : NamedTerm → Proposition
  constantly : Bool → Proposition
  negated : Proposition → Proposition
  connected : Connective → Proposition → Proposition → Proposition

-- the binary connective of this name
abbrev pub connective_named : List ℕ → Option Connective
connective_named name =
    if bytes_eq name and_name then Some And
    else (if bytes_eq name or_name then Some Or
    else (if bytes_eq name implies_name then Some Implies
    else (if bytes_eq name (codes "=") then Some Iff else None)))

-- the binary connective that the term is: `=` at another type is none
abbrev pub connective_of : NamedTerm → Option Connective
connective_of (constant name ty) = if type_eq ty binary then connective_named name else None
connective_of _ = None

abbrev pub is_not : NamedTerm → Bool
is_not (constant name ty) = type_eq ty unary && bytes_eq name not_name
is_not _ = false

-- a constant as a formula
abbrev pub constant_proposition : List ℕ → HolType → Proposition
constant_proposition name ty =
    if bytes_eq name true_name then constantly true
    else (if bytes_eq name false_name then constantly false else atom (constant name ty))

abbrev pub proposition : NamedTerm → Proposition
proposition (variable name ty) = atom (variable name ty)
proposition (constant name ty) = constant_proposition name ty
proposition (combination (combination operator left) right) =
    option_map_or (λ connective. connected connective (proposition left) (proposition right)) (connective_of operator) (atom (combination (combination operator left) right))
proposition (combination operator part) = if is_not operator then negated (proposition part) else atom (combination operator part)
proposition (abstraction name ty body) = atom (abstraction name ty body)

-- ---- atoms

-- the atoms, once for each place, from left to right
abbrev pub atom_places : Proposition → List NamedTerm
atom_places (atom term) = term ∷ []
atom_places (constantly value) = []
atom_places (negated part) = atom_places part
atom_places (connected connective left right) = atom_places left ++ atom_places right

-- a list with each term of a second list that is not yet in it put at its end
abbrev pub with_new_terms : List NamedTerm → List NamedTerm → List NamedTerm
with_new_terms seen [] = seen
with_new_terms seen (term ∷ rest) =
    with_new_terms (if list_any (are_alpha_equivalent term) seen then seen else (seen ++ term ∷ [])) rest

-- the atoms of a formula, in order of first occurrence
abbrev pub atoms_of : NamedTerm → List NamedTerm
atoms_of term = with_new_terms [] (atom_places (proposition term))

-- ---- truth

abbrev pub truth_table : Connective → Bool → Bool → Bool
truth_table And p q = p && q
truth_table Or p q = p || q
truth_table Implies p q = not p || q
truth_table Iff p q = if p then q else not q

-- whether the formula is true, where the atoms have these values
abbrev pub is_true_by : (NamedTerm → Bool) → Proposition → Bool
is_true_by value (atom term) = value term
is_true_by value (constantly b) = b
is_true_by value (negated part) = not (is_true_by value part)
is_true_by value (connected connective left right) = truth_table connective (is_true_by value left) (is_true_by value right)

-- ---- answers

-- the atoms of a term that is a formula
abbrev pub atoms_outcome : NamedTerm → Result (List NamedTerm) Fault
atoms_outcome term = unless (is_formula term) NotBool (Ok (atoms_of term))

-- the terms of a list that a call answers
abbrev pub terms_in : Result (Vec NamedTerm Global) Fault → Result (List NamedTerm) Fault
terms_in (Ok terms) = Ok terms.items
terms_in (Err fault) = Err fault
