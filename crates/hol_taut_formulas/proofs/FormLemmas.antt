-- The connective that a term is, by its name.
use Rattle.std.proofs.Common.{◌≡◌, ℕ, List, Bool, true, false, ◌&&◌, Some, None, codes, refl, ◌∙◌, ap, if◌then◌else◌}
use Rattle.std.specs.Str.{bytes_eq}
use Rattle.std.proofs.lemmas.Slice.Eq.{bytes_eq-Decides}
use Rattle.hol_model.specs.Terms.HolType.{type_eq}
use Rattle.hol_model.specs.Terms.NamedTerm.{NamedTerm, variable, constant, combination, abstraction}
use Rattle.hol_model.specs.Logic.Logic.{and_name, implies_name, or_name, not_name, unary, binary}
use Rattle.hol_model.proofs.Terms.HolTypeEq.{type_eq-Decides}
use Rattle.hol_model.specs.Propositional.Connectives.{connective_name}
use Rattle.hol_model.specs.Propositional.Propositions.{Connective, And, Or, Implies, Iff, connective_named, connective_of, is_not}

name-is : (name : List ℕ) (connective : Connective) → connective_named name ≡ Some connective → name ≡ connective_name connective
name-is name connective is = go (bytes_eq name and_name) (bytes_eq name or_name) (bytes_eq name implies_name) (bytes_eq name (codes "=")) refl refl refl refl is
  where
    go : (a b c d : Bool) → bytes_eq name and_name ≡ a → bytes_eq name or_name ≡ b → bytes_eq name implies_name ≡ c → bytes_eq name (codes "=") ≡ d
        → (if a then Some And else (if b then Some Or else (if c then Some Implies else (if d then Some Iff else None)))) ≡ Some connective → name ≡ connective_name connective
    go true b c d one two three four is = let e : And ≡ connective = cc in (bytes_eq-Decides name and_name).0 one ∙ ap connective_name e
    go false true c d one two three four is = let e : Or ≡ connective = cc in (bytes_eq-Decides name or_name).0 two ∙ ap connective_name e
    go false false true d one two three four is = let e : Implies ≡ connective = cc in (bytes_eq-Decides name implies_name).0 three ∙ ap connective_name e
    go false false false true one two three four is = let e : Iff ≡ connective = cc in (bytes_eq-Decides name (codes "=")).0 four ∙ ap connective_name e
    go false false false false one two three four is = cc

-- the term of a binary connective
pub connective-is : (operator : NamedTerm) (connective : Connective) → connective_of operator ≡ Some connective → operator ≡ constant (connective_name connective) binary
connective-is (constant name ty) connective is = go (type_eq ty binary) refl is
  where
    go : (test : Bool) → type_eq ty binary ≡ test → (if test then connective_named name else None) ≡ Some connective → constant name ty ≡ constant (connective_name connective) binary
    go true tested is = λ i. constant (name-is name connective is i) ((type_eq-Decides ty binary).0 tested i)
    go false tested is = cc
connective-is (variable name ty) connective is = cc
connective-is (combination f x) connective is = cc
connective-is (abstraction name ty body) connective is = cc

-- the term of negation
pub not-is : (operator : NamedTerm) → is_not operator ≡ true → operator ≡ constant not_name unary
not-is (constant name ty) is = go (type_eq ty unary) refl is
  where
    go : (test : Bool) → type_eq ty unary ≡ test → (test && bytes_eq name not_name) ≡ true → constant name ty ≡ constant not_name unary
    go true tested is = λ i. constant ((bytes_eq-Decides name not_name).0 is i) ((type_eq-Decides ty unary).0 tested i)
    go false tested is = cc
not-is (variable name ty) is = cc
not-is (combination f x) is = cc
not-is (abstraction name ty body) is = cc
