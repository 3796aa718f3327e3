-- The lines of INST and INST_TYPE are accepted, and give the image of what the kernel answers.
use Rattle.std.proofs.Common.{◌≡◌, ℕ, List, [], ◌∷◌, map, Bool, true, false, not, refl, sym, ◌∙◌, ap, inl, inr, if◌then◌else◌, Option, Some, None}
use Rattle.hol_model.specs.declared.fault.Fault.{Fault}
use Rattle.hol_model.specs.Terms.Nameless.{Nameless, free, image, same_term}
use Rattle.hol_model.specs.Logic.Theory.{Theory}
use Rattle.hol_model.specs.Logic.Derivable.{IsMember}
use Rattle.hol_model.specs.Kernel.Theorem.{Theorem}
use Rattle.hol_model.specs.Logs.LogState.{LogState, set_of, term_type}
use Rattle.hol_journal.specs.Steps.{JournalEntry, sequent_of_theorem}
use Rattle.hol_journal.specs.Lines.{Numbering, Gives}
use Rattle.hol_journal.specs.Limits.{FitsLog}
use Rattle.std.specs.Prelude.{find}
use Rattle.std.specs.List.{list_all}
use Rattle.std.specs.Option.{option_map_or}
use Rattle.hol_model.specs.Terms.HolType.{HolType, type_eq, type_instance_of, replaces_type_variables}
use Rattle.hol_model.specs.Terms.NamedTerm.{NamedTerm, variable, constant, combination, abstraction, is_variable, same_variable, type_of}
use Rattle.hol_model.specs.Terms.Substitution.{put, put_all, replacement, is_variable_named, replaces_variables, keeps_types, same_type, instantiate, TermInstance}
use Rattle.hol_model.specs.Kernel.Instantiation.{IsChanged, IsInst, IsInstType, inst_refusal, inst_type_refusal, instantiate_all}
use Rattle.hol_model.specs.Kernel.Instantiation.{replacements_refusal, type_replacements_refusal, or_too_large, all_fit}
use Rattle.hol_model.specs.Logs.LogState.{term_pairs_at, type_pairs_at}
use Rattle.hol_model.specs.Logs.LogSequents.{supposing, term_instance_of, is_free_variable}
use Rattle.hol_model.specs.Logs.LogFaults.{some_is_no_term, some_is_no_type, is_replacement}
use Rattle.hol_model.proofs.Terms.HolTypeEq.{type_eq-Decides}
use Rattle.hol_model.proofs.Tests.{first_of_both, second_of_both, both, same_answer, same_name, same_variable-type, same_variable-self, same_term-Decides}
use Rattle.hol_kernel.proofs.InstanceLemmas.{passes_inst, passes_inst_type}
use Rattle.hol_journal.specs.Steps.{by_inst, by_inst_type, both_parts}
use Rattle.hol_journal.specs.Lines.{term_pair, type_pair, NamesTerm, NamesType}
use Rattle.hol_journal.proofs.SequentLemmas.{set_of-images, term_type-image}
use Rattle.hol_journal.proofs.Showing.{shown, same_sequent, neither, no_more, IsCited}

-- no refusal for the limits, no refusal at all
pub no_refusal : (refusal : Option Fault) (fits : Bool) → or_too_large refusal fits ≡ None → refusal ≡ None
no_refusal None fits is = refl
no_refusal (Some fault) fits is = cc

-- what a theorem with changed terms is, as the log says it
changed : (theory : Theory) (change : Nameless → Nameless) (theorem answer : Theorem) → IsChanged theory change theorem answer
    → supposing (map change (map image theorem.hypotheses)) (change (image theorem.conclusion)) ≡ sequent_of_theorem answer
changed theory change theorem answer is =
    same_sequent (ap set_of (sym is.images) ∙ set_of-images is.instances ∙ ap (map image) (sym is.hypotheses)) (sym is.conclusion)

-- INST

-- the numbers of a list of pairs name the images of the pairs
module _ (state : LogState) (numbers : Numbering) where
  abbrev NamesTerms : List (NamedTerm × NamedTerm) → Type 0
  NamesTerms pairs = (term : NamedTerm) → IsMember term (both_parts pairs) → NamesTerm state (numbers.of_term term) (image term)

  term_pairs-named : (pairs : List (NamedTerm × NamedTerm)) → NamesTerms pairs → term_pairs_at state (map (term_pair numbers) pairs) ≡ map (λ pair. (image pair.0, image pair.1)) pairs
  term_pairs-named [] names = refl
  term_pairs-named (pair ∷ pairs) names =
      let rest = term_pairs-named pairs (λ term m. names term (inr (inr m))) in
      λ k. ((names pair.0 (inl refl)).is k, (names pair.1 (inr (inl refl))).is k) ∷ rest k

  terms-there : (pairs : List (NamedTerm × NamedTerm)) → NamesTerms pairs → some_is_no_term state (map (term_pair numbers) pairs) ≡ false
  terms-there [] names = refl
  terms-there (pair ∷ pairs) names =
      neither _ _ (neither _ _ (names pair.0 (inl refl)).there (names pair.1 (inr (inl refl))).there) (terms-there pairs (λ term m. names term (inr (inr m))))

  abbrev NamesTypes : List (HolType × HolType) → Type 0
  NamesTypes pairs = (ty : HolType) → IsMember ty (both_parts pairs) → NamesType state (numbers.of_type ty) ty

  type_pairs-named : (pairs : List (HolType × HolType)) → NamesTypes pairs → type_pairs_at state (map (type_pair numbers) pairs) ≡ pairs
  type_pairs-named [] names = refl
  type_pairs-named (pair ∷ pairs) names =
      let rest = type_pairs-named pairs (λ ty m. names ty (inr (inr m))) in
      λ k. ((names pair.0 (inl refl)).is k, (names pair.1 (inr (inl refl))).is k) ∷ rest k

  types-there : (pairs : List (HolType × HolType)) → NamesTypes pairs → some_is_no_type state (map (type_pair numbers) pairs) ≡ false
  types-there [] names = refl
  types-there (pair ∷ pairs) names =
      neither _ _ (neither _ _ (names pair.0 (inl refl)).there (names pair.1 (inr (inl refl))).there) (types-there pairs (λ ty m. names ty (inr (inr m))))

-- the test for an old part that is a variable, on the part and on its image
same_old : (old : NamedTerm) (name : List ℕ) (ty : HolType) → is_variable old ≡ true → same_term (image old) (free name ty) ≡ is_variable_named name ty old
same_old (variable other s) name ty is =
    same_answer (same_term (free other s) (free name ty)) (same_variable other s name ty)
    (λ passed. let same : free other s ≡ free name ty = (same_term-Decides (free other s) (free name ty)).0 passed in
    let one : other ≡ name = cc in let two : s ≡ ty = cc in rw (one, two) (same_variable-self name ty))
    (λ passed. (same_term-Decides (free other s) (free name ty)).1 (λ k. free (same_name other name s ty passed k) (same_variable-type other name s ty passed k)))
same_old (constant other s) name ty is = cc
same_old (combination f x) name ty is = cc
same_old (abstraction other s body) name ty is = cc

abbrev images_of : List (NamedTerm × NamedTerm) → List (Nameless × Nameless)
images_of pairs = map (λ pair. (image pair.0, image pair.1)) pairs

-- both lists of replacements put the same for a variable
same_instance : (pairs : List (NamedTerm × NamedTerm)) → replaces_variables pairs ≡ true → (name : List ℕ) (ty : HolType) → term_instance_of (images_of pairs) name ty ≡ replacement pairs name ty
same_instance [] are name ty = refl
same_instance (pair ∷ pairs) are name ty =
    go (same_term (image pair.1) (free name ty)) (is_variable_named name ty pair.1)
    (same_old pair.1 name ty (first_of_both (is_variable pair.1) (replaces_variables pairs) are))
    (same_instance pairs (second_of_both (is_variable pair.1) (replaces_variables pairs) are) name ty)
  where
    go : (p q : Bool) → p ≡ q → term_instance_of (images_of pairs) name ty ≡ replacement pairs name ty
        → option_map_or (λ found. found.0) (if p then Some (image pair.0, image pair.1) else find (λ pair. same_term pair.1 (free name ty)) (images_of pairs)) (free name ty)
        ≡ option_map_or (λ found. image found.0) (if q then Some pair else find (λ pair. is_variable_named name ty pair.1) pairs) (free name ty)
    go true true same deeper = refl
    go false false same deeper = deeper
    go true false same deeper = cc
    go false true same deeper = cc

same_put : (theta other : TermInstance) → ((name : List ℕ) (ty : HolType) → theta name ty ≡ other name ty) → (term : Nameless) → put theta term ≡ put other term
same_put theta other same term = λ k. put (λ name ty. same name ty k) term

-- a pair that keeps its type
pub kept_type : (found wanted : Option HolType) → same_type found wanted ≡ true → (a : HolType) × (found ≡ Some a) × (wanted ≡ Some a)
kept_type None wanted is = cc
kept_type (Some a) None is = cc
kept_type (Some a) (Some b) is = (a, refl, ap Some (sym ((type_eq-Decides a b).0 is)))

is_free-image : (old : NamedTerm) → is_variable old ≡ true → is_free_variable (image old) ≡ true
is_free-image (variable name ty) is = refl
is_free-image (constant name ty) is = cc
is_free-image (combination f x) is = cc
is_free-image (abstraction name ty body) is = cc

pairs_are_replacements : (pairs : List (NamedTerm × NamedTerm)) → replaces_variables pairs ≡ true → keeps_types pairs ≡ true → list_all is_replacement (images_of pairs) ≡ true
pairs_are_replacements [] are keep = refl
pairs_are_replacements (pair ∷ pairs) are keep =
    let types = kept_type (type_of pair.0) (type_of pair.1) (first_of_both (same_type (type_of pair.0) (type_of pair.1)) (keeps_types pairs) keep) in
    let same : term_type (image pair.0) ≡ term_type (image pair.1) = term_type-image pair.0 types.0 types.1 ∙ sym (term_type-image pair.1 types.0 types.2) in
    both (is_replacement (image pair.0, image pair.1)) (list_all is_replacement (images_of pairs))
    (both (is_free_variable (image pair.1)) (type_eq (term_type (image pair.0)) (term_type (image pair.1)))
    (is_free-image pair.1 (first_of_both (is_variable pair.1) (replaces_variables pairs) are))
    ((type_eq-Decides (term_type (image pair.0)) (term_type (image pair.1))).1 same))
    (pairs_are_replacements pairs (second_of_both (is_variable pair.1) (replaces_variables pairs) are) (second_of_both (same_type (type_of pair.0) (type_of pair.1)) (keeps_types pairs) keep))

pub inst-gives : (theory : Theory) (entries : List JournalEntry) (i : ℕ) (pairs : List (NamedTerm × NamedTerm)) (theorem answer : Theorem) → IsCited entries i theorem
    → inst_refusal theory pairs theorem ≡ None → IsInst theory pairs theorem answer → FitsLog answer → Gives theory entries (by_inst i pairs) (sequent_of_theorem answer)
inst-gives theory entries i pairs theorem answer cited none is fits =
    let passes = passes_inst theory pairs (no_refusal (replacements_refusal theory pairs) (all_fit (put_all pairs) (theorem.conclusion ∷ theorem.hypotheses)) none) in
    let same = same_put (term_instance_of (images_of pairs)) (replacement pairs) (same_instance pairs passes.variables) in
    shown theory entries (by_inst i pairs) answer fits
    (λ state numbers names.
    (λ k. let s = ((names.theorems i (inl refl)).is ∙ cited.at) k in let theta = term_instance_of (term_pairs-named state numbers pairs names.terms k) in
    supposing (map (put theta) s.hypotheses) (put theta s.conclusion))
    ∙ (λ k. supposing (map (λ t. same t k) (map image theorem.hypotheses)) (same (image theorem.conclusion) k))
    ∙ changed theory (put_all pairs) theorem answer is)
    (λ state numbers going names. record {
      number = neither _ _ (names.theorems i (inl refl)).there (terms-there state numbers pairs names.terms);
      name = refl;
      kind = ap (λ listed. not (list_all is_replacement listed)) (term_pairs-named state numbers pairs names.terms) ∙ ap not (pairs_are_replacements pairs passes.variables passes.keeps);
      condition = refl;
      room = no_more theory state going;
    })

-- INST_TYPE
pub inst_type-gives : (theory : Theory) (entries : List JournalEntry) (i : ℕ) (pairs : List (HolType × HolType)) (theorem answer : Theorem) → IsCited entries i theorem
    → inst_type_refusal theory pairs theorem ≡ None → IsInstType theory pairs theorem answer → FitsLog answer → Gives theory entries (by_inst_type i pairs) (sequent_of_theorem answer)
inst_type-gives theory entries i pairs theorem answer cited none is fits =
    let passes = passes_inst_type theory pairs (no_refusal (type_replacements_refusal theory pairs) (all_fit (instantiate_all pairs) (theorem.conclusion ∷ theorem.hypotheses)) none) in
    shown theory entries (by_inst_type i pairs) answer fits
    (λ state numbers names.
    (λ k. let s = ((names.theorems i (inl refl)).is ∙ cited.at) k in let tau = type_instance_of (type_pairs-named state numbers pairs names.types k) in
    supposing (map (instantiate tau) s.hypotheses) (instantiate tau s.conclusion))
    ∙ changed theory (instantiate_all pairs) theorem answer is)
    (λ state numbers going names. record {
      number = neither _ _ (names.theorems i (inl refl)).there (types-there state numbers pairs names.types);
      name = refl;
      kind = ap (λ listed. not (replaces_type_variables listed)) (type_pairs-named state numbers pairs names.types) ∙ ap not passes.variables;
      condition = refl;
      room = no_more theory state going;
    })
