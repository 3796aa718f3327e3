-- The terms and the types that a step names are known, and within the limits.
use Rattle.std.proofs.Common.{◌≡◌, ℕ, List, [], ◌∷◌, true, not, refl, sym, ◌∙◌, ap, subst, inl, inr, Some, None, Ok}
use Rattle.std.specs.List.{list_all}
use Rattle.hol_model.specs.declared.fault.Fault.TheVariants.{NotBool, NotVariable, NotEquation, NotTrivialBeta, UnknownType, FreeInHypothesis}
use Rattle.hol_model.specs.Terms.HolType.{HolType, is_type_variable, replaces_type_variables}
use Rattle.hol_model.specs.Terms.NamedTerm.{NamedTerm, variable, constant, combination, abstraction, type_of, type_fits, is_within_limits, is_variable, dest_variable, equation}
use Rattle.hol_model.specs.Terms.Nameless.{image}
use Rattle.hol_model.specs.Logic.Derivable.{IsMember}
use Rattle.hol_model.specs.Logic.Theory.{Theory}
use Rattle.hol_model.specs.Kernel.Theorem.{Theorem}
use Rattle.hol_model.specs.Logic.KnownTerm.{knows_type, knows_types, has_instances, is_known}
use Rattle.hol_model.specs.Terms.Substitution.{replaces_variables, keeps_types, same_type, put_all}
use Rattle.hol_model.specs.Kernel.Outcome.{unless, given, refused}
use Rattle.hol_model.specs.Kernel.Rules.{first_unknown, is_formula, concluded, dest_equation, dest_trivial_redex, is_free_in_hypotheses, refl_outcome, assume_outcome, beta_outcome, abs_outcome}
use Rattle.hol_model.specs.Kernel.Instantiation.{inst_refusal, inst_type_refusal, replacements_refusal, type_replacements_refusal, all_fit, instantiate_all}
use Rattle.hol_model.proofs.Tests.{first_of_both, second_of_both}
use Rattle.hol_model.proofs.Terms.TypeTests.{knows_type-Decides}
use Rattle.hol_model.proofs.Logic.KnownTerms.{image-known}
use Rattle.hol_model.proofs.Terms.NamedTests.{is_known-Decides}
use Rattle.hol_model.proofs.Logic.Known.{IsKnown-type}
use Rattle.hol_kernel.proofs.RuleLemmas.{known_term}
use Rattle.hol_kernel.proofs.InstanceLemmas.{passes_inst, passes_inst_type}
use Rattle.hol_journal.specs.Steps.{Step, by_inst, by_inst_type, both_parts, terms_of, types_of}
use Rattle.hol_journal.specs.Limits.{pair_fits, type_pair_fits}
use Rattle.hol_journal.specs.Journal.{IsKnownWithin, IsKnownTypeWithin, KnowsParts}
use Rattle.hol_journal.proofs.Showing.{answered, unless-is, given-is, passed-none}
use Rattle.hol_journal.proofs.RuleLaws.{binder_is}
use Rattle.hol_journal.proofs.InstanceLaws.{no_refusal, kept_type}

pub known_of : (theory : Theory) (term : NamedTerm) (ty : HolType) → type_of term ≡ Some ty → first_unknown theory term ≡ None → is_known theory term ≡ true
known_of theory term ty typed none = (is_known-Decides theory term ty typed).1 (known_term theory term ty none typed)

-- steps that name no term and no type, and steps that name one term

pub knows_none : (theory : Theory) (step : Step) → terms_of step ≡ [] → types_of step ≡ [] → KnowsParts theory step
knows_none theory step no_terms no_types = record {
  terms = λ term m. absurd (subst (IsMember term) no_terms m);
  types = λ ty m. absurd (subst (IsMember ty) no_types m);
}

pub knows_one : (theory : Theory) (step : Step) (named : NamedTerm) → terms_of step ≡ named ∷ [] → types_of step ≡ [] → IsKnownWithin theory named → KnowsParts theory step
knows_one theory step named one no_types known = record {
  terms = λ term m. the_one term (subst (IsMember term) one m);
  types = λ ty m. absurd (subst (IsMember ty) no_types m);
}
  where
    the_one : (term : NamedTerm) → IsMember term (named ∷ []) → IsKnownWithin theory term
    the_one term (inl same) = subst (IsKnownWithin theory) (sym same) known
    the_one term (inr m) = absurd m

-- what a rule's answer says of the term

pub refl-known : (theory : Theory) (term : NamedTerm) (answer : Theorem) → refl_outcome theory term ≡ Ok answer → first_unknown theory term ≡ None
refl-known theory term answer outcome = passed-none (first_unknown theory term) (concluded theory [] (equation term term)) answer outcome

pub assume-known : (theory : Theory) (term : NamedTerm) (answer : Theorem) → assume_outcome theory term ≡ Ok answer → first_unknown theory term ≡ None
assume-known theory term answer outcome =
    let made : Theorem = record { theory = theory; hypotheses = term ∷ []; conclusion = term } in
    let one = unless-is (is_formula term) NotBool (refused (first_unknown theory term) (answered made)) answer outcome in
    passed-none (first_unknown theory term) (answered made) answer one.1

pub beta-known : (theory : Theory) (term : NamedTerm) (answer : Theorem) → beta_outcome theory term ≡ Ok answer → first_unknown theory term ≡ None
beta-known theory term answer outcome =
    let one = given-is (dest_trivial_redex term) NotTrivialBeta (λ body. refused (first_unknown theory term) (concluded theory [] (equation term body))) answer outcome in
    passed-none (first_unknown theory term) (concluded theory [] (equation term one.0)) answer one.2

pub binder_known : (theory : Theory) (binder : NamedTerm) (theorem answer : Theorem) → is_within_limits binder ≡ true → abs_outcome theory binder theorem ≡ Ok answer → IsKnownWithin theory binder
binder_known theory binder theorem answer within outcome =
    let made = λ (bind : List ℕ × HolType) (sides : NamedTerm × NamedTerm). concluded theory theorem.hypotheses (equation (abstraction bind.0 bind.1 sides.0) (abstraction bind.0 bind.1 sides.1)) in
    let tested = λ (bind : List ℕ × HolType) (sides : NamedTerm × NamedTerm).
    unless (not (is_free_in_hypotheses bind.0 bind.1 theorem.hypotheses)) FreeInHypothesis (made bind sides) in
    let one = given-is (dest_variable binder) NotVariable
    (λ bind. given (dest_equation theorem.conclusion) NotEquation
    (λ sides. unless (knows_type theory bind.1) UnknownType (tested bind sides))) answer outcome in
    let bind = one.0 in
    let two = given-is (dest_equation theorem.conclusion) NotEquation (λ sides. unless (knows_type theory bind.1) UnknownType (tested bind sides)) answer one.2 in
    let three = unless-is (knows_type theory bind.1) UnknownType (tested bind two.0) answer two.2 in
    let is = binder_is binder bind one.1 in
    record { ty = bind.1; typed = ap type_of is; known = ap (is_known theory) is ∙ variable_known theory bind.0 bind.1 three.0; within_limits = within }
  where
    variable_known : (theory : Theory) (name : List ℕ) (ty : HolType) → knows_type theory ty ≡ true → is_known theory (variable name ty) ≡ true
    variable_known theory name ty known = rw known refl

-- replacements

-- the variable of a replacement is of a type that is known
old_known : (theory : Theory) (old : NamedTerm) (ty : HolType) → is_variable old ≡ true → type_of old ≡ Some ty → knows_type theory ty ≡ true → is_known theory old ≡ true
old_known theory (variable name s) ty is typed known = let same : s ≡ ty = cc in let there = ap (knows_type theory) same ∙ known in rw there refl
old_known theory (constant name s) ty is typed known = cc
old_known theory (combination f x) ty is typed known = cc
old_known theory (abstraction name s body) ty is typed known = cc

pairs-known : (theory : Theory) (pairs : List (NamedTerm × NamedTerm)) → list_all pair_fits pairs ≡ true → replaces_variables pairs ≡ true → keeps_types pairs ≡ true
    → list_all (λ pair. knows_types theory pair.0) pairs ≡ true → list_all (λ pair. has_instances theory pair.0) pairs ≡ true
    → (term : NamedTerm) → IsMember term (both_parts pairs) → IsKnownWithin theory term
pairs-known theory [] within are keep types instances term m = absurd m
pairs-known theory (pair ∷ pairs) within are keep types instances term m = go m
    (pairs-known theory pairs
    (second_of_both (pair_fits pair) (list_all pair_fits pairs) within)
    (second_of_both (is_variable pair.1) (replaces_variables pairs) are)
    (second_of_both (same_type (type_of pair.0) (type_of pair.1)) (keeps_types pairs) keep)
    (second_of_both (knows_types theory pair.0) (list_all (λ p. knows_types theory p.0) pairs) types)
    (second_of_both (has_instances theory pair.0) (list_all (λ p. has_instances theory p.0) pairs) instances) term)
  where
    fits : pair_fits pair ≡ true
    fits = first_of_both (pair_fits pair) (list_all pair_fits pairs) within

    kept : (a : HolType) × (type_of pair.0 ≡ Some a) × (type_of pair.1 ≡ Some a)
    kept = kept_type (type_of pair.0) (type_of pair.1) (first_of_both (same_type (type_of pair.0) (type_of pair.1)) (keeps_types pairs) keep)

    new : IsKnownWithin theory pair.0
    new =
        let image_known = image-known theory pair.0 kept.0 kept.1 (first_of_both (knows_types theory pair.0) (list_all (λ p. knows_types theory p.0) pairs) types)
        (first_of_both (has_instances theory pair.0) (list_all (λ p. has_instances theory p.0) pairs) instances) in
        record {
          ty = kept.0;
          typed = kept.1;
          known = (is_known-Decides theory pair.0 kept.0 kept.1).1 image_known;
          within_limits =
              first_of_both (is_within_limits pair.0) (is_within_limits pair.1) fits;
        }

    old : IsKnownWithin theory pair.1
    old =
        let image_known = (is_known-Decides theory pair.0 kept.0 kept.1).0 new.known in
        let type_known = (knows_type-Decides theory kept.0).1 (IsKnown-type theory (image pair.0) kept.0 image_known) in
        record {
          ty = kept.0;
          typed = kept.2;
          known = old_known theory pair.1 kept.0 (first_of_both (is_variable pair.1) (replaces_variables pairs) are) kept.2 type_known;
          within_limits = second_of_both (is_within_limits pair.0) (is_within_limits pair.1) fits;
        }

    go : IsMember term (both_parts (pair ∷ pairs)) → (IsMember term (both_parts pairs) → IsKnownWithin theory term) → IsKnownWithin theory term
    go (inl same) deeper = subst (IsKnownWithin theory) (sym same) new
    go (inr (inl same)) deeper = subst (IsKnownWithin theory) (sym same) old
    go (inr (inr rest)) deeper = deeper rest

pub pairs_known : (theory : Theory) (i : ℕ) (pairs : List (NamedTerm × NamedTerm)) (theorem : Theorem) → list_all pair_fits pairs ≡ true
    → inst_refusal theory pairs theorem ≡ None → KnowsParts theory (by_inst i pairs)
pairs_known theory i pairs theorem within none =
    let passes = passes_inst theory pairs (no_refusal (replacements_refusal theory pairs) (all_fit (put_all pairs) (theorem.conclusion ∷ theorem.hypotheses)) none) in
    record { terms = pairs-known theory pairs within passes.variables passes.keeps passes.types passes.instances; types = λ ty m. absurd m }

old_type_known : (theory : Theory) (old : HolType) → is_type_variable old ≡ true → knows_type theory old ≡ true
old_type_known theory (HolType.type_variable name) is = refl
old_type_known theory HolType.bool_type is = refl
old_type_known theory (HolType.function_type a b) is = cc
old_type_known theory (HolType.declared_type name) is = cc

type_pairs-known : (theory : Theory) (pairs : List (HolType × HolType)) → list_all type_pair_fits pairs ≡ true → replaces_type_variables pairs ≡ true
    → list_all (λ pair. knows_type theory pair.0) pairs ≡ true → (ty : HolType) → IsMember ty (both_parts pairs) → IsKnownTypeWithin theory ty
type_pairs-known theory [] within are known ty m = absurd m
type_pairs-known theory (pair ∷ pairs) within are known ty m = go m
    (type_pairs-known theory pairs
    (second_of_both (type_pair_fits pair) (list_all type_pair_fits pairs) within)
    (second_of_both (is_type_variable pair.1) (replaces_type_variables pairs) are)
    (second_of_both (knows_type theory pair.0) (list_all (λ p. knows_type theory p.0) pairs) known) ty)
  where
    fits : type_pair_fits pair ≡ true
    fits = first_of_both (type_pair_fits pair) (list_all type_pair_fits pairs) within

    new : IsKnownTypeWithin theory pair.0
    new = record { known = first_of_both (knows_type theory pair.0) (list_all (λ p. knows_type theory p.0) pairs) known; fits = first_of_both (type_fits pair.0) (type_fits pair.1) fits }

    old : IsKnownTypeWithin theory pair.1
    old = record {
      known = old_type_known theory pair.1 (first_of_both (is_type_variable pair.1) (replaces_type_variables pairs) are);
      fits =
          second_of_both (type_fits pair.0) (type_fits pair.1) fits;
    }

    go : IsMember ty (both_parts (pair ∷ pairs)) → (IsMember ty (both_parts pairs) → IsKnownTypeWithin theory ty) → IsKnownTypeWithin theory ty
    go (inl same) deeper = subst (IsKnownTypeWithin theory) (sym same) new
    go (inr (inl same)) deeper = subst (IsKnownTypeWithin theory) (sym same) old
    go (inr (inr rest)) deeper = deeper rest

pub type_pairs_known : (theory : Theory) (i : ℕ) (pairs : List (HolType × HolType)) (theorem : Theorem) → list_all type_pair_fits pairs ≡ true
    → inst_type_refusal theory pairs theorem ≡ None → KnowsParts theory (by_inst_type i pairs)
type_pairs_known theory i pairs theorem within none =
    let passes = passes_inst_type theory pairs (no_refusal (type_replacements_refusal theory pairs) (all_fit (instantiate_all pairs) (theorem.conclusion ∷ theorem.hypotheses)) none) in
    record { terms = λ term m. absurd m; types = type_pairs-known theory pairs within passes.variables passes.known }
