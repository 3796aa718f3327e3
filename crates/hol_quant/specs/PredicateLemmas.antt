-- Lemmas over a predicate `P` on the type variable `A` and an element `x` or a formula `q`, at a predicate and at such.
use Rattle.std.specs.Prelude.{◌≡◌, ℕ, List, [], ◌∷◌, Bool, codes}
use Rattle.std.specs.List.{list_all}
use Rattle.hol_model.specs.Terms.HolType.{HolType, bool_type}
use Rattle.hol_model.specs.Terms.NamedTerm.{NamedTerm, variable}
use Rattle.hol_model.specs.Terms.Nameless.{Nameless, free, const, bound, app, lam, image}
use Rattle.hol_model.specs.Terms.Measures.{nameless_within_limits}
use Rattle.hol_model.specs.Kernel.Instantiation.{instantiate_all}
use Rattle.hol_model.specs.Logic.Logic.{true_term, predicate, quantifier, implication, forall_term}
use Rattle.hol_model.specs.Logic.Theory.{Theory, IsKnown, type_a}
use Rattle.hol_model.specs.Logic.Derivable.{nameless_equation}
use Rattle.hol_model.specs.Kernel.Theorem.{Theorem}
use Rattle.hol_equal.specs.Sequents.{Shows, instance_of}

-- a term of the lemma with the type for `A`
abbrev pub at_type : HolType → Nameless → Nameless
at_type ty term = instantiate_all ((ty, type_a) ∷ []) term

-- and with the predicate for `P` and the element for `x`
abbrev pub at_predicate : HolType → NamedTerm → NamedTerm → Nameless → Nameless
at_predicate ty function element term =
    instance_of ((ty, type_a) ∷ []) ((function, variable (codes "P") (predicate ty)) ∷ (element, variable (codes "x") ty) ∷ []) term

-- a lemma of one hypothesis, and a theorem of that hypothesis at a known predicate and a known element of its domain
pub record PredicateFits (theory : Theory) (function element : NamedTerm) (lemma premise : Theorem) : Type 0 where
  pub ty : HolType
  pub function_known : IsKnown theory (image function) (predicate ty)
  pub element_known : IsKnown theory (image element) ty
  pub hypothesis : Nameless
  pub conclusion : Nameless
  pub lemma_shows : Shows lemma (hypothesis ∷ []) conclusion
  pub premise_is : image premise.conclusion ≡ at_predicate ty function element hypothesis

-- the lemma's hypothesis and conclusion are within the limits on the way
abbrev pub lemma_fits : HolType → NamedTerm → NamedTerm → Nameless → Nameless → Bool
lemma_fits ty function element p q =
    let left : Nameless = at_predicate ty function element p in
    let right : Nameless = at_predicate ty function element q in
    list_all nameless_within_limits (at_type ty q ∷ at_type ty p ∷ right ∷ left ∷ nameless_equation bool_type left right ∷ [])

-- and with the predicate for `P` and a formula for `q`
abbrev pub at_formula : HolType → NamedTerm → NamedTerm → Nameless → Nameless
at_formula ty function formula term =
    instance_of ((ty, type_a) ∷ []) ((function, variable (codes "P") (predicate ty)) ∷ (formula, variable (codes "q") bool_type) ∷ []) term

-- a lemma of one hypothesis, and a theorem of that hypothesis at a known predicate, on the type of a known element, and a formula
pub record FormulaFits (theory : Theory) (function element formula : NamedTerm) (lemma premise : Theorem) : Type 0 where
  pub ty : HolType
  pub function_known : IsKnown theory (image function) (predicate ty)
  pub element_known : IsKnown theory (image element) ty
  pub hypothesis : Nameless
  pub conclusion : Nameless
  pub lemma_shows : Shows lemma (hypothesis ∷ []) conclusion
  pub premise_is : image premise.conclusion ≡ at_formula ty function formula hypothesis

-- the lemma's hypothesis and conclusion are within the limits there
abbrev pub formula_lemma_fits : HolType → NamedTerm → NamedTerm → Nameless → Nameless → Bool
formula_lemma_fits ty function formula p q =
    let left : Nameless = at_formula ty function formula p in
    let right : Nameless = at_formula ty function formula q in
    list_all nameless_within_limits (at_type ty q ∷ at_type ty p ∷ right ∷ left ∷ nameless_equation bool_type left right ∷ [])

-- P x
abbrev pub applied : Nameless
applied = app (free (codes "P") (predicate type_a)) (free (codes "x") type_a)

-- a quantifier over P
abbrev pub over_predicate : List ℕ → Nameless
over_predicate quantifier_name = app (const quantifier_name (quantifier type_a)) (free (codes "P") (predicate type_a))

-- P = (\x. T)
abbrev pub is_always : Nameless
is_always = nameless_equation (predicate type_a) (free (codes "P") (predicate type_a)) (lam type_a true_term)

-- (!x. P x ==> q) ==> q
abbrev pub eliminated : Nameless
eliminated =
    let q : Nameless = free (codes "q") bool_type in
    implication (forall_term type_a (implication (app (free (codes "P") (predicate type_a)) (bound 0)) q)) q
