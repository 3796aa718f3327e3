-- The atoms of a formula: what holds of the formula and is handed down to parts holds of them.
use Rattle.std.proofs.Common.{◌≡◌, ◌⊎◌, List, [], ◌∷◌, ◌++◌, Bool, true, false, Option, Some, None, refl, sym, subst, inl, inr, if◌then◌else◌}
use Rattle.std.specs.Prelude.{nat_le, length}
use Rattle.std.specs.Str.{bytes_eq}
use Rattle.std.specs.Option.{option_map, option_map_or}
use Rattle.hol_model.specs.declared.fault.Fault.TheVariants.{NotTautology, TooManyAtoms}
use Rattle.hol_model.specs.declared.limits.TheConstants.{ATOMS_LIMIT}
use Rattle.hol_model.specs.Logic.Derivable.{IsMember}
use Rattle.hol_model.specs.Logic.Logic.{true_name, false_name}
use Rattle.hol_model.specs.Terms.NamedTerm.{NamedTerm, variable, constant, combination, abstraction}
use Rattle.hol_model.specs.Logic.NamedLogic.{negation}
use Rattle.hol_model.specs.Terms.Nameless.{image}
use Rattle.hol_model.specs.Logic.Theory.{Theory}
use Rattle.hol_model.proofs.Terms.Membership.{of_append}
use Rattle.hol_equal.specs.Formulas.{IsFormula}
use Rattle.hol_model.specs.Propositional.Propositions.{Connective}
use Rattle.hol_taut.specs.declared.facts.Facts.{Nothing}
use Rattle.hol_model.specs.Propositional.Connectives.{connective_name, connected_term}
use Rattle.hol_model.specs.Propositional.Propositions.{atom, constantly, negated, connected, proposition, connective_of, is_not, atom_places, atoms_of, with_new_terms}
use Rattle.hol_taut.specs.Refuted.{IsAlwaysTrue, is_listed, AreTold, AreAllFormulas, AreAllSmall}
use Rattle.hol_model.specs.Propositional.Tautologies.{falsity_of, falsifying_row, row_in_full}
use Rattle.hol_taut.specs.Ways.{IsSmallIf}
use Rattle.hol_taut_formulas.proofs.FormLemmas.{connective-is, not-is}
use Rattle.hol_taut.proofs.FormLemmas.{sides-formulas, part-formula}
use Rattle.hol_taut.proofs.KnownValues.{always-true, place-listed}
use Rattle.hol_taut.proofs.WayLemmas.{small-left, small-right}

-- what is handed down to the parts of formulas
pub record IsHandedDown (P : NamedTerm → Type 0) : Type 0 where
  pub sides : (connective : Connective) (left right : NamedTerm) → P (connected_term connective left right) → P left × P right
  pub part : (part : NamedTerm) → P (negation part) → P part

pub places-have : (P : NamedTerm → Type 0) → IsHandedDown P → (term : NamedTerm) → P term → (place : NamedTerm) → IsMember place (atom_places (proposition term)) → P place
places-have P down (variable name ty) has place (inl same) = subst (λ (t : NamedTerm). P t) (sym same) has
places-have P down (variable name ty) has place (inr none) = absurd none
places-have P down (abstraction name ty body) has place (inl same) = subst (λ (t : NamedTerm). P t) (sym same) has
places-have P down (abstraction name ty body) has place (inr none) = absurd none
places-have P down (constant name ty) has place m = go (bytes_eq name true_name) (bytes_eq name false_name) m
  where
    go : (a b : Bool) → IsMember place (atom_places (if a then constantly true else (if b then constantly false else atom (constant name ty)))) → P place
    go true b m = absurd m
    go false true m = absurd m
    go false false (inl same) = subst (λ (t : NamedTerm). P t) (sym same) has
    go false false (inr none) = absurd none
places-have P down (combination (combination operator left) right) has place m =
    go (connective_of operator) refl (λ side. places-have P down left side place) (λ side. places-have P down right side place) m
  where
    go : (o : Option Connective) → connective_of operator ≡ o → (P left → IsMember place (atom_places (proposition left)) → P place)
        → (P right → IsMember place (atom_places (proposition right)) → P place)
        → IsMember place (atom_places (option_map_or (λ connective. connected connective (proposition left) (proposition right)) o (atom (combination (combination operator left) right)))) → P place
    go (Some connective) is one two m =
        let both = down.sides connective left right (subst (λ (k : NamedTerm). P (combination (combination k left) right)) (connective-is operator connective is) has) in
        elim (of_append place (atom_places (proposition left)) (atom_places (proposition right)) m) [
          | inl here ↦ one both.0 here
          | inr there ↦ two both.1 there
        ]
    go None is one two (inl same) = subst (λ (t : NamedTerm). P t) (sym same) has
    go None is one two (inr none) = absurd none
places-have P down (combination (variable name ty) part) has place (inl same) = subst (λ (t : NamedTerm). P t) (sym same) has
places-have P down (combination (variable name ty) part) has place (inr none) = absurd none
places-have P down (combination (abstraction name ty body) part) has place (inl same) = subst (λ (t : NamedTerm). P t) (sym same) has
places-have P down (combination (abstraction name ty body) part) has place (inr none) = absurd none
places-have P down (combination (constant name ty) part) has place m = go (is_not (constant name ty)) refl (λ h. places-have P down part h place) m
  where
    go : (test : Bool) → is_not (constant name ty) ≡ test → (P part → IsMember place (atom_places (proposition part)) → P place)
        → IsMember place (atom_places (if test then negated (proposition part) else atom (combination (constant name ty) part))) → P place
    go true is next m = next (down.part part (subst (λ (k : NamedTerm). P (combination k part)) (not-is (constant name ty) is) has)) m
    go false is next (inl same) = subst (λ (t : NamedTerm). P t) (sym same) has
    go false is next (inr none) = absurd none

-- what is put to the end of a list is in it or was put
from-new : (term : NamedTerm) (xs seen : List NamedTerm) → IsMember term (with_new_terms seen xs) → IsMember term seen ⊎ IsMember term xs
from-new term [] seen m = inl m
from-new term (x ∷ xs) seen m = elim (from-new term xs (if is_listed x seen then seen else (seen ++ x ∷ [])) m) [
  | inl there ↦ go (is_listed x seen) there
  | inr later ↦ inr (inr later)
]
  where
    go : (test : Bool) → IsMember term (if test then seen else (seen ++ x ∷ [])) → IsMember term seen ⊎ IsMember term (x ∷ xs)
    go true there = inl there
    go false there = elim (of_append term seen (x ∷ []) there) [
      | inl here ↦ inl here
      | inr (inl same) ↦ inr (inl same)
      | inr (inr none) ↦ absurd none
    ]

pub atoms-have : (P : NamedTerm → Type 0) → IsHandedDown P → (term : NamedTerm) → P term → (a : NamedTerm) → IsMember a (atoms_of term) → P a
atoms-have P down term has a m = elim (from-new a (atom_places (proposition term)) [] m) [
  | inl none ↦ absurd none
  | inr there ↦ places-have P down term has a there
]

pub atoms-formulas : (theory : Theory) (term : NamedTerm) → IsFormula theory term → AreAllFormulas theory (atoms_of term)
atoms-formulas theory term formula = record { each = λ a m. atoms-have (λ t. IsFormula theory t) down term formula a m }
  where
    down : IsHandedDown (λ t. IsFormula theory t)
    down = record {
      sides = λ connective left right has. let both = sides-formulas theory (connective_name connective) left right has in (both.left_formula, both.right_formula);
      part = λ part has. part-formula theory part has;
    }

pub atoms-small : (room : Bool) (term : NamedTerm) → IsSmallIf room (image term) → AreAllSmall room (atoms_of term)
atoms-small room term small = record { each = λ a m. atoms-have (λ t. IsSmallIf room (image t)) down term small a m }
  where
    down : IsHandedDown (λ t. IsSmallIf room (image t))
    down = record {
      sides = λ connective left right has. (small-left room _ (image left) (image right) has, small-right room _ (image right) has);
      part = λ part has. small-right room _ (image part) has;
    }

pub atoms-told : (term : NamedTerm) → AreTold Nothing (atoms_of term) (proposition term)
atoms-told term = record { each = λ place m. inr (place-listed place (atom_places (proposition term)) [] m) }

-- a formula that is not refused is always true
pub accepted-true : (term : NamedTerm) → falsity_of term ≡ None → IsAlwaysTrue (proposition term)
accepted-true term none = always-true term (go (nat_le (length (atoms_of term)) ATOMS_LIMIT) (falsifying_row term) none)
  where
    go : (test : Bool) (row : Option (List Bool)) → (if test then option_map (λ r. NotTautology (length (atoms_of term)) (row_in_full r)) row else Some TooManyAtoms) ≡ None → row ≡ None
    go true (Some r) is = cc
    go true None is = refl
    go false row is = cc
