-- Atoms that are put behind those of a list, as long as there are not too many.
use Rattle.std.proofs.Common.{◌≡◌, ◌≤◌, ◌<◌, inl, inr, ℕ, List, [], ◌∷◌, ◌++◌, length, Bool, true, false, Some, None, Result, Ok, Err, IfErr, refl, sym, ◌∙◌, ap, subst, arith, if◌then◌else◌}
use Rattle.std.specs.Prelude.{position, IsErrAnd}
use Rattle.std.specs.List.{list_any}
use Rattle.std.proofs.lemmas.List.{length_push}
use Rattle.hol_model.specs.declared.fault.Fault.{Fault}
use Rattle.hol_model.specs.declared.fault.Fault.TheVariants.{Memory, TooManyAtoms}
use Rattle.hol_model.specs.declared.limits.TheConstants.{ATOMS_LIMIT}
use Rattle.hol_model.specs.Kernel.Theorem.{are_alpha_equivalent}
use Rattle.hol_model.specs.Terms.NamedTerm.{NamedTerm}
use Rattle.hol_model.specs.Propositional.Propositions.{Proposition, proposition, atom_places, with_new_terms}
use Rattle.hol_taut_formulas.specs.AddedAtoms.{AreAdded, AreRefused, IsAtomPut}
use Rattle.hol_taut_formulas.proofs.NewTerms.{with_new_terms-append}
use Rattle.hol_taut_formulas.proofs.Places.{is-found, is-missed, any-found, any-missed, value-kept, pushed-last}

-- terms that are added do not go away
longer : (terms seen : List NamedTerm) → length seen ≤ length (with_new_terms seen terms)
longer [] seen = omega arith
longer (term ∷ rest) seen = go (list_any (are_alpha_equivalent term) seen) (longer rest seen) (longer rest (seen ++ term ∷ []))
  where
    go : (test : Bool) → length seen ≤ length (with_new_terms seen rest) → length (seen ++ term ∷ []) ≤ length (with_new_terms (seen ++ term ∷ []) rest)
        → length seen ≤ length (with_new_terms (if test then seen else (seen ++ term ∷ [])) rest)
    go true as_it_was one_more = as_it_was
    go false as_it_was one_more = let e = length_push seen term in omega arith

-- ---- one atom

module _ (atom : NamedTerm) (seen : List NamedTerm) where
  one : (test : Bool) → list_any (are_alpha_equivalent atom) seen ≡ test → with_new_terms seen (atom ∷ []) ≡ (if test then seen else (seen ++ atom ∷ []))
  one test is = ap (λ (b : Bool). if b then seen else (seen ++ atom ∷ [])) is

  pub atom_found : (place : ℕ) → Some place ≡ position (λ other. are_alpha_equivalent other atom) seen → IsAtomPut atom seen seen place
  atom_found place found = record {
    added = record { all = sym (one true (any-found seen atom (is-found seen atom place found).1)); few = λ few. few };
    found = λ later row. value-kept seen atom row place later (is-found seen atom place found).0 (is-found seen atom place found).1;
  }

  pub atom_new : (new : List NamedTerm) (place : ℕ) → None ≡ position (λ other. are_alpha_equivalent other atom) seen → new ≡ seen ++ atom ∷ []
      → place ≡ length seen → place < ATOMS_LIMIT → IsAtomPut atom seen new place
  atom_new new place missed pushed last few =
      let there = pushed-last seen atom (is-missed seen atom missed) in
      subst (λ (l : List NamedTerm). IsAtomPut atom seen l place) (sym pushed) (record {
        added = record { all = sym (one false (any-missed seen atom (is-missed seen atom missed))); few = λ within. let e = length_push seen atom in omega arith };
        found = λ later row. value-kept (seen ++ atom ∷ []) atom row place later (last ∙ sym there) (let e = length_push seen atom in omega (arith, there));
      })

  pub atom_refused : None ≡ position (λ other. are_alpha_equivalent other atom) seen → ATOMS_LIMIT ≤ length seen → AreRefused (atom ∷ []) seen TooManyAtoms
  atom_refused missed full = inr (
    refl,
    subst (λ (l : List NamedTerm). ATOMS_LIMIT < length l) (sym (one false (any-missed seen atom (is-missed seen atom missed)))) (let e = length_push seen atom in omega arith),
  )

-- ---- atoms of two parts

module _ (xs ys seen middle : List NamedTerm) where
  pub added_both : (new : List NamedTerm) → AreAdded xs seen middle → AreAdded ys middle new → AreAdded (xs ++ ys) seen new
  added_both new first second = record {
    all = second.all ∙ ap (λ (l : List NamedTerm). with_new_terms l ys) first.all ∙ sym (with_new_terms-append xs seen ys);
    few = λ few. second.few (first.few few);
  }

  pub refused_right : (fault : Fault) → AreAdded xs seen middle → AreRefused ys middle fault → AreRefused (xs ++ ys) seen fault
  refused_right fault first (inl memory) = inl memory
  refused_right fault first (inr (many, over)) = inr (
    many,
    subst (λ (l : List NamedTerm). ATOMS_LIMIT < length l) (ap (λ (l : List NamedTerm). with_new_terms l ys) first.all ∙ sym (with_new_terms-append xs seen ys)) over,
  )

pub refused_left : (xs ys seen : List NamedTerm) (fault : Fault) → AreRefused xs seen fault → AreRefused (xs ++ ys) seen fault
refused_left xs ys seen fault (inl memory) = inl memory
refused_left xs ys seen fault (inr (many, over)) = inr (
  many,
  subst (λ (l : List NamedTerm). ATOMS_LIMIT < length l) (sym (with_new_terms-append xs seen ys)) (let l = longer ys (with_new_terms seen xs) in omega (arith, over)),
)

-- ---- a refusal that is passed on

pub refused_in : (result : Result ℕ Fault) (fault : Fault) (p : Proposition) (term : NamedTerm) (seen : List NamedTerm) → proposition term ≡ p
    → IsErrAnd result (λ other. other ≡ fault) → AreRefused (atom_places p) seen fault → IfErr result (AreRefused (atom_places (proposition term)) seen)
refused_in (Ok place) fault p term seen is same refused = tt
refused_in (Err other) fault p term seen is same refused =
    subst (λ (p : Proposition). AreRefused (atom_places p) seen other) (sym is) (subst (λ (f : Fault). AreRefused (atom_places p) seen f) (sym same) refused)

pub no_memory : (result : Result ℕ Fault) (terms seen : List NamedTerm) → IfErr result (λ fault. fault ≡ Memory) → IfErr result (AreRefused terms seen)
no_memory (Ok place) terms seen memory = tt
no_memory (Err fault) terms seen memory = inl memory
