-- Each theorem and each claim of an accepted proof log is derivable over the log's entries.
use Rattle.std.proofs.Common.{◌≡◌, ◌⊎◌, ℕ, List, [], ◌∷◌, ◌++◌, Bool, true, false, ◌&&◌, ◌||◌, not, length, refl, sym, ◌∙◌, ap, subst, inl, inr, Some, None, cond}
use Rattle.std.specs.Prelude.{find}
use Rattle.std.specs.List.{All, list_any, list_all}
use Rattle.std.specs.Option.{option_map_or}
use Rattle.std.proofs.lemmas.List.Elements.{All-append, All-cons, All-nil, All-get_or, All-head, All-tail}
use Rattle.hol_model.specs.declared.fault.Cause.{Cause}
use Rattle.hol_model.specs.declared.fault.Cause.TheVariants.{Shape, Number, Name, Kind, Const, Rule, Claim, Large, End}
use Rattle.hol_model.specs.Terms.Name.{is_constant_name, is_declared_type_name}
use Rattle.hol_model.specs.Terms.HolType.{HolType, type_variable, bool_type, function_type, type_eq, type_instance_of, codomain_of}
use Rattle.hol_model.specs.Terms.Nameless.{Nameless, free, const, bound, app, lam, HasType, same_term}
use Rattle.hol_model.specs.Terms.Substitution.{close, fill, occurs_free}
use Rattle.hol_model.specs.Logic.Theory.{Theory, Entry, definition, declaration_of_type, declaration_of_constant, IsLegal, IsNewName, IsLegalDefinition, IsLegalConstant, IsLegalType, IsKnown}
use Rattle.hol_model.specs.Logic.Theory.{IsKnownType}
use Rattle.hol_model.specs.Logic.KnownTerm.{is_declared}
use Rattle.hol_model.specs.Logic.Legality.{is_fixed, is_new_name}
use Rattle.hol_model.specs.Logic.Checks.{knows_constant, has_no_free, reflects_nameless}
use Rattle.hol_model.specs.Logic.Derivable.{Derivable, IsMember, MayReplace, NotFreeInAny, nameless_equation}
use Rattle.hol_model.specs.Logic.Derivable.Derivable.{same_hypotheses, refl_rule, trans_rule, mk_comb_rule, abs_rule, beta_rule, assume_rule, eq_mp_rule, deduct_antisym_rule, inst_rule}
use Rattle.hol_model.specs.Logic.Derivable.Derivable.{inst_type_rule, eta_rule, select_rule, definition_rule}
use Rattle.hol_model.specs.Logs.LogLine.{LogVersion, LogRule, LogLine}
use Rattle.hol_model.specs.Logs.LogLine.LogRule.{refl_step, trans_step, mk_comb_step, abs_step, beta_step, assume_step, eq_mp_step, deduct_step, inst_step, inst_type_step, eta_step, select_step}
use Rattle.hol_model.specs.Logs.LogLine.LogRule.{definition_step}
use Rattle.hol_model.specs.Logs.LogLine.LogLine.{type_variable_line, bool_line, function_type_line, declared_type_line, variable_line, constant_line, combination_line, abstraction_line}
use Rattle.hol_model.specs.Logs.LogLine.LogLine.{new_type_line, new_constant_line, theorem_line, claim_line}
use Rattle.hol_model.specs.Logs.LogState.{LogState, first_state, type_at, term_at, theorem_at, conclusion_at, hypotheses_at, term_type, type_of_term_at, terms_at, term_pairs_at, type_pairs_at}
use Rattle.hol_model.specs.Logs.LogState.{set_of, same_terms, no_sequent}
use Rattle.hol_model.specs.Logs.LogSequents.{is_free_variable, is_equation, left_side, right_side, side_type, redex_body, equation_of, abstraction_over, term_instance_of, supposing, sequent_of}
use Rattle.hol_model.specs.Logs.LogSequents.{new_types, new_terms, new_theorems, rule_entries, new_entries, new_claims, after_line}
use Rattle.hol_model.specs.Logs.LogFaults.{has_shape_fault, has_number_fault, has_name_fault, has_type_fault, has_constant_fault, has_rule_fault, has_claim_fault, has_size_fault, has_end_fault}
use Rattle.hol_model.specs.Logs.LogFaults.{is_no_type, is_no_term, is_no_theorem, some_is_no_term, some_is_no_type, is_no_new_constant, takes, is_replacement, is_free_in_any, is_trivial_redex}
use Rattle.hol_model.specs.Logs.LogFaults.{first_applying, first_cause, cause_tests}
use Rattle.hol_model.specs.Logs.LogLaws.{IsDerivable, IsDerivableClaim, IsKnownTerm, IsSoundState}
use Rattle.hol_model.proofs.Terms.HolTypeEq.{type_eq-Decides}
use Rattle.hol_model.proofs.Tests.{first_of_both, second_of_both, first_of_neither, second_of_neither, same_term-Decides}
use Rattle.hol_model.proofs.Terms.TypeTests.{is_declared-Decides, is_fixed-Decides, is_new_name-Decides}
use Rattle.hol_model.proofs.Logic.Checks.{knows_constant-Decides, has_no_free-Decides, reflects_nameless-Decides}
use Rattle.hol_model.proofs.Terms.Typing.{nameless_type-is}
use Rattle.hol_model.proofs.Logic.Later.{IsNewEntry, IsKnownType-later, IsKnown-later, Derivable-later}
use Rattle.hol_model.proofs.Logic.Known.{Derivable-known, app-known, close-known}
use Rattle.hol_model.proofs.Logs.LogTests.{not_false, not_true, is_there, set_of-same_set, same_terms-is, takes-is, IsEquation, equation-is, close-fill, fill-known}

-- none of the causes applies
pub record IsFaultless (state : LogState) (line : LogLine) : Type 0 where
  pub shape : has_shape_fault state line ≡ false
  pub number : has_number_fault state line ≡ false
  pub name : has_name_fault state line ≡ false
  pub type_fits : has_type_fault state line ≡ false
  pub constant : has_constant_fault state line ≡ false
  pub rule : has_rule_fault state line ≡ false
  pub claim : has_claim_fault state line ≡ false
  pub size : has_size_fault state line ≡ false
  pub end : has_end_fault state line ≡ false

none_applies : (tests : List (Bool × Cause)) → first_applying tests ≡ None → (test : Bool × Cause) → IsMember test tests → test.0 ≡ false
none_applies [] none test member = absurd member
none_applies ((p, c) ∷ rest) none test member = go p none member (none_applies rest)
  where
    go : (q : Bool) → first_applying ((q, c) ∷ rest) ≡ None → (test ≡ (q, c)) ⊎ IsMember test rest
        → (first_applying rest ≡ None → (other : Bool × Cause) → IsMember other rest → other.0 ≡ false) → test.0 ≡ false
    go true none member later = cc
    go false none (inl same) later = ap (λ (t : Bool × Cause). t.0) same
    go false none (inr member) later = later none test member

pub no_cause : (state : LogState) (line : LogLine) → first_cause state line ≡ None → IsFaultless state line
no_cause state line none = record {
  shape = fault_none (has_shape_fault state line, Shape) (inl refl);
  number = fault_none (has_number_fault state line, Number) (inr (inl refl));
  name = fault_none (has_name_fault state line, Name) (inr (inr (inl refl)));
  type_fits = fault_none (has_type_fault state line, Kind) (inr (inr (inr (inl refl))));
  constant = fault_none (has_constant_fault state line, Const) (inr (inr (inr (inr (inl refl)))));
  rule = fault_none (has_rule_fault state line, Rule) (inr (inr (inr (inr (inr (inl refl))))));
  claim = fault_none (has_claim_fault state line, Claim) (inr (inr (inr (inr (inr (inr (inl refl)))))));
  size = fault_none (has_size_fault state line, Large) (inr (inr (inr (inr (inr (inr (inr (inl refl))))))));
  end = fault_none (has_end_fault state line, End) (inr (inr (inr (inr (inr (inr (inr (inr (inl refl)))))))));
}
  where
    fault_none : (test : Bool × Cause) → IsMember test (cause_tests state line) → test.0 ≡ false
    fault_none test member = none_applies (cause_tests state line) none test member

-- what a number names

type-known-at : (state : LogState) → IsSoundState state → (number : ℕ) → is_no_type state number ≡ false → IsKnownType state.theory (type_at state number)
type-known-at state sound number there = All-get_or (IsKnownType state.theory) state.types number bool_type (is_there (length state.types) number there) sound.types

term-known-at : (state : LogState) → IsSoundState state → (number : ℕ) → is_no_term state number ≡ false → IsKnownTerm state.theory (term_at state number)
term-known-at state sound number there = All-get_or (IsKnownTerm state.theory) state.terms number (bound 0) (is_there (length state.terms) number there) sound.terms

derivable-at : (state : LogState) → IsSoundState state → (number : ℕ) → is_no_theorem state number ≡ false → IsDerivable state.theory (theorem_at state number)
derivable-at state sound number there = All-get_or (IsDerivable state.theory) state.theorems number no_sequent (is_there (length state.theorems) number there) sound.theorems

formula-at : (state : LogState) → IsSoundState state → (number : ℕ) → is_no_theorem state number ≡ false → IsKnown state.theory (conclusion_at state number) bool_type
formula-at state sound number there = (Derivable-known state.theory sound.legal (derivable-at state sound number there)).conclusion

equation-at : (state : LogState) → IsSoundState state → (number : ℕ) → is_no_theorem state number ≡ false → is_equation (conclusion_at state number) ≡ true →
    IsEquation state.theory (conclusion_at state number) (side_type (conclusion_at state number))
equation-at state sound number there is = equation-is state.theory sound.legal (conclusion_at state number) is (formula-at state sound number there)

-- the theorem that a number names, as an equation
derivable-equation : (state : LogState) → IsSoundState state → (number : ℕ) → is_no_theorem state number ≡ false → is_equation (conclusion_at state number) ≡ true
    → Derivable state.theory (hypotheses_at state number) (nameless_equation (side_type (conclusion_at state number)) (left_side (conclusion_at state number))
    (right_side (conclusion_at state number)))
derivable-equation state sound number there is =
    subst (λ (c : Nameless). Derivable state.theory (hypotheses_at state number) c) (equation-at state sound number there is).is_equation (derivable-at state sound number there)

-- the members of the hypotheses in order, and an equation at the type that its left side has
derivable-supposing : (theory : Theory) (hypotheses : List Nameless) (conclusion : Nameless) → Derivable theory hypotheses conclusion → IsDerivable theory (supposing hypotheses conclusion)
derivable-supposing theory hypotheses conclusion d = same_hypotheses d (set_of-same_set hypotheses)

derivable-equation_of : (theory : Theory) (hypotheses : List Nameless) (ty : HolType) (left right : Nameless) → term_type left ≡ ty →
    Derivable theory hypotheses (nameless_equation ty left right) → IsDerivable theory (supposing hypotheses (equation_of left right))
derivable-equation_of theory hypotheses ty left right is d =
    derivable-supposing theory hypotheses (equation_of left right) (subst (λ (a : HolType). Derivable theory hypotheses (nameless_equation a left right)) (sym is) d)

term_type-is : (theory : Theory) (t : Nameless) (ty : HolType) → IsKnown theory t ty → term_type t ≡ ty
term_type-is theory t ty known = nameless_type-is t [] ty known.typed

-- the rules

derivable-trans : (state : LogState) → IsSoundState state → (i j : ℕ) → is_no_theorem state i ≡ false → is_no_theorem state j ≡ false
    → is_equation (conclusion_at state i) ≡ true → is_equation (conclusion_at state j) ≡ true
    → same_term (right_side (conclusion_at state i)) (left_side (conclusion_at state j)) ≡ true → IsDerivable state.theory (sequent_of state (trans_step i j))
derivable-trans state sound i j i_there j_there i_is j_is meet =
    let first = equation-at state sound i i_there i_is in
    let second = equation-at state sound j j_there j_is in
    let middle : right_side (conclusion_at state i) ≡ left_side (conclusion_at state j) = (same_term-Decides _ _).0 meet in
    let right_type = term_type-is state.theory _ _ first.right in
    let left_type = term_type-is state.theory _ _ second.left in
    let one : side_type (conclusion_at state j) ≡ side_type (conclusion_at state i) = sym left_type ∙ (ap term_type (sym middle) ∙ right_type) in
    let later = derivable-equation state sound j j_there j_is in
    let moved = subst (λ (a : HolType). Derivable state.theory (hypotheses_at state j) (nameless_equation a (left_side (conclusion_at state j)) (right_side (conclusion_at state j)))) one later in
    let met = subst (λ (m : Nameless). Derivable state.theory (hypotheses_at state j) (nameless_equation (side_type (conclusion_at state i)) m (right_side (conclusion_at state j))))
    (sym middle) moved in
    derivable-equation_of state.theory _ (side_type (conclusion_at state i)) _ _ (term_type-is state.theory _ _ first.left)
    (trans_rule (side_type (conclusion_at state i)) _ _ _ (derivable-equation state sound i i_there i_is) met)

derivable-mk_comb : (state : LogState) → IsSoundState state → (i j : ℕ) → is_no_theorem state i ≡ false → is_no_theorem state j ≡ false
    → is_equation (conclusion_at state i) ≡ true → is_equation (conclusion_at state j) ≡ true
    → takes (side_type (conclusion_at state i)) (side_type (conclusion_at state j)) ≡ true → IsDerivable state.theory (sequent_of state (mk_comb_step i j))
derivable-mk_comb state sound i j i_there j_there i_is j_is fit =
    let first = equation-at state sound i i_there i_is in
    let arrow = takes-is (side_type (conclusion_at state i)) (side_type (conclusion_at state j)) fit in
    let function_type_is = term_type-is state.theory _ _ first.left ∙ arrow.1 in
    let earlier = derivable-equation state sound i i_there i_is in
    let functions = subst (λ (a : HolType). Derivable state.theory (hypotheses_at state i) (nameless_equation a (left_side (conclusion_at state i)) (right_side (conclusion_at state i))))
    arrow.1 earlier in
    derivable-equation_of state.theory _ arrow.0 _ _ (ap codomain_of function_type_is)
    (mk_comb_rule (side_type (conclusion_at state j)) arrow.0 _ _ _ _ functions (derivable-equation state sound j j_there j_is))

derivable-abs : (state : LogState) → IsSoundState state → (t i : ℕ) → is_no_term state t ≡ false → is_no_theorem state i ≡ false
    → is_free_variable (term_at state t) ≡ true → is_equation (conclusion_at state i) ≡ true
    → is_free_in_any (term_at state t) (hypotheses_at state i) ≡ false → IsDerivable state.theory (sequent_of state (abs_step t i))
derivable-abs state sound t i t_there i_there variable is fresh = go (term_at state t) (term-known-at state sound t t_there) variable fresh
  where
    not_free : (name : List ℕ) (ty : HolType) (terms : List Nameless) → list_any (occurs_free name ty) terms ≡ false → NotFreeInAny name ty terms
    not_free name ty [] none term member = absurd member
    not_free name ty (x ∷ xs) none term (inl same) = subst (λ (u : Nameless). occurs_free name ty u ≡ false) (sym same)
        (first_of_neither (occurs_free name ty x) (list_any (occurs_free name ty) xs) none)
    not_free name ty (x ∷ xs) none term (inr member) = not_free name ty xs (second_of_neither (occurs_free name ty x) (list_any (occurs_free name ty) xs) none) term member

    go : (v : Nameless) → IsKnownTerm state.theory v → is_free_variable v ≡ true → is_free_in_any v (hypotheses_at state i) ≡ false
        → IsDerivable state.theory (supposing (hypotheses_at state i) (equation_of (abstraction_over v (left_side (conclusion_at state i))) (abstraction_over v (right_side (conclusion_at state i)))))
    go (free name ty) known variable fresh =
        let sides = equation-at state sound i i_there is in
        let knterm_type : IsKnownType state.theory ty = known.parts in
        let abstraction = close-known state.theory name ty (side_type (conclusion_at state i)) (left_side (conclusion_at state i)) knterm_type sides.left in
        derivable-equation_of state.theory _ (function_type ty (side_type (conclusion_at state i))) _ _ (term_type-is state.theory _ _ abstraction)
        (abs_rule name ty (side_type (conclusion_at state i)) _ _ knterm_type (not_free name ty (hypotheses_at state i) fresh) (derivable-equation state sound i i_there is))
    go _ known variable fresh = cc

derivable-beta : (theory : Theory) (t : Nameless) → IsKnownTerm theory t → is_trivial_redex t ≡ true → IsDerivable theory (supposing [] (equation_of t (redex_body t)))
derivable-beta theory (app (lam ty body) (free name s)) known trivial =
    let absent : occurs_free name s body ≡ false = not_true (occurs_free name s body) trivial in
    let abstraction = known.typed.1 in
    let argument : s ≡ known.typed.0 = known.typed.2 in
    let arrow : function_type ty abstraction.0 ≡ function_type known.typed.0 (term_type (app (lam ty body) (free name s))) = abstraction.2 in
    let one : ty ≡ s = cc in
    let answer : abstraction.0 ≡ term_type (app (lam ty body) (free name s)) = cc in
    let knterm_type : IsKnownType theory s = known.parts.1 in
    let typed : HasType (s ∷ []) body abstraction.0 = subst (λ (a : HolType). HasType (a ∷ []) body abstraction.0) one abstraction.1 in
    let filled = fill-known theory name s abstraction.0 body knterm_type typed known.parts.0.1 in
    let rule : Derivable theory [] (nameless_equation abstraction.0 (app (lam s (close name s (fill (free name s) body))) (free name s)) (fill (free name s) body)) =
    beta_rule name s abstraction.0 (fill (free name s) body) knterm_type filled in
    let closed = subst (λ (b : Nameless). Derivable theory [] (nameless_equation abstraction.0 (app (lam s b) (free name s)) (fill (free name s) body))) (close-fill name s body absent) rule in
    let here = subst (λ (a : HolType). Derivable theory [] (nameless_equation abstraction.0 (app (lam a body) (free name s)) (fill (free name s) body))) (sym one) closed in
    derivable-equation_of theory [] abstraction.0 _ _ (sym answer) here
derivable-beta theory _ known trivial = cc

derivable-eq_mp : (state : LogState) → IsSoundState state → (i j : ℕ) → is_no_theorem state i ≡ false → is_no_theorem state j ≡ false
    → is_equation (conclusion_at state i) ≡ true → same_term (left_side (conclusion_at state i)) (conclusion_at state j) ≡ true → IsDerivable state.theory (sequent_of state (eq_mp_step i j))
derivable-eq_mp state sound i j i_there j_there is meet =
    let sides = equation-at state sound i i_there is in
    let same : left_side (conclusion_at state i) ≡ conclusion_at state j = (same_term-Decides _ _).0 meet in
    let left_type = term_type-is state.theory _ _ sides.left in
    let formula_type = term_type-is state.theory _ _ (formula-at state sound j j_there) in
    let formulas : side_type (conclusion_at state i) ≡ bool_type = sym left_type ∙ (ap term_type same ∙ formula_type) in
    let earlier = derivable-equation state sound i i_there is in
    let moved = subst (λ (a : HolType). Derivable state.theory (hypotheses_at state i) (nameless_equation a (left_side (conclusion_at state i)) (right_side (conclusion_at state i))))
    formulas earlier in
    let premise = subst (λ (p : Nameless). Derivable state.theory (hypotheses_at state j) p) (sym same) (derivable-at state sound j j_there) in
    derivable-supposing state.theory _ _ (eq_mp_rule _ _ moved premise)

-- replacements

term_instance_of-may : (theory : Theory) (pairs : List (Nameless × Nameless)) → All (λ pair. IsKnownTerm theory pair.0) pairs → list_all is_replacement pairs ≡ true →
    MayReplace theory (term_instance_of pairs)
term_instance_of-may theory [] known fit name ty = inr refl
term_instance_of-may theory (pair ∷ pairs) known fit name ty = go (same_term pair.1 (free name ty)) refl
    (term_instance_of-may theory pairs (All-tail (λ pair. IsKnownTerm theory pair.0) pair pairs known) (second_of_both (is_replacement pair) (list_all is_replacement pairs) fit) name ty)
  where
    go : (test : Bool) → same_term pair.1 (free name ty) ≡ test
        → IsKnown theory (term_instance_of pairs name ty) ty ⊎ (term_instance_of pairs name ty ≡ free name ty)
        → IsKnown theory (option_map_or (λ p. p.0) (cond test (Some pair) (find (λ p. same_term p.1 (free name ty)) pairs)) (free name ty)) ty
        ⊎ (option_map_or (λ p. p.0) (cond test (Some pair) (find (λ p. same_term p.1 (free name ty)) pairs)) (free name ty) ≡ free name ty)
    go true is deeper =
        let old : pair.1 ≡ free name ty = (same_term-Decides pair.1 (free name ty)).0 is in
        let types : term_type pair.0 ≡ term_type pair.1 = (type_eq-Decides _ _).0
        (second_of_both (is_free_variable pair.1) (type_eq (term_type pair.0) (term_type pair.1)) (first_of_both (is_replacement pair) (list_all is_replacement pairs) fit)) in
        let type_is : term_type pair.0 ≡ ty = types ∙ ap term_type old in
        inl (subst (λ (a : HolType). IsKnown theory pair.0 a) type_is (All-head (λ pair. IsKnownTerm theory pair.0) pair pairs known))
    go false is deeper = deeper

type_instance_of-known : (theory : Theory) (pairs : List (HolType × HolType)) → All (λ pair. IsKnownType theory pair.0) pairs → (name : List ℕ) → IsKnownType theory (type_instance_of pairs name)
type_instance_of-known theory [] known name = tt
type_instance_of-known theory (pair ∷ pairs) known name = go (type_eq pair.1 (type_variable name))
    (type_instance_of-known theory pairs (All-tail (λ pair. IsKnownType theory pair.0) pair pairs known) name)
  where
    go : (test : Bool) → IsKnownType theory (type_instance_of pairs name)
        → IsKnownType theory (option_map_or (λ p. p.0) (cond test (Some pair) (find (λ p. type_eq p.1 (type_variable name)) pairs)) (type_variable name))
    go true deeper = All-head (λ pair. IsKnownType theory pair.0) pair pairs known
    go false deeper = deeper

-- the new parts of the pairs that numbers name

new_terms-known : (state : LogState) → IsSoundState state → (pairs : List (ℕ × ℕ)) → some_is_no_term state pairs ≡ false → All (λ pair. IsKnownTerm state.theory pair.0) (term_pairs_at state pairs)
new_terms-known state sound [] there = All-nil (λ pair. IsKnownTerm state.theory pair.0)
new_terms-known state sound (pair ∷ pairs) there =
    let here = first_of_neither (is_no_term state pair.0 || is_no_term state pair.1) (some_is_no_term state pairs) there in
    All-cons (λ pair. IsKnownTerm state.theory pair.0) _ _ (term-known-at state sound pair.0 (first_of_neither (is_no_term state pair.0) (is_no_term state pair.1) here))
    (new_terms-known state sound pairs (second_of_neither (is_no_term state pair.0 || is_no_term state pair.1) (some_is_no_term state pairs) there))

new_types-known : (state : LogState) → IsSoundState state → (pairs : List (ℕ × ℕ)) → some_is_no_type state pairs ≡ false → All (λ pair. IsKnownType state.theory pair.0) (type_pairs_at state pairs)
new_types-known state sound [] there = All-nil (λ pair. IsKnownType state.theory pair.0)
new_types-known state sound (pair ∷ pairs) there =
    let here = first_of_neither (is_no_type state pair.0 || is_no_type state pair.1) (some_is_no_type state pairs) there in
    All-cons (λ pair. IsKnownType state.theory pair.0) _ _ (type-known-at state sound pair.0 (first_of_neither (is_no_type state pair.0) (is_no_type state pair.1) here))
    (new_types-known state sound pairs (second_of_neither (is_no_type state pair.0 || is_no_type state pair.1) (some_is_no_type state pairs) there))

-- a name that is accepted is of its kind, and new
named : (state : LogState) (p : Bool) (name : List ℕ) → not (p && is_new_name state.theory name) ≡ false → (p ≡ true) × IsNewName state.theory name
named state p name passed =
    let all = not_false (p && is_new_name state.theory name) passed in
    (first_of_both p (is_new_name state.theory name) all, (is_new_name-Decides state.theory name).0 (second_of_both p (is_new_name state.theory name) all))

-- a definition that is accepted is legal
definition-legal : (state : LogState) → IsSoundState state → (name : List ℕ) (t : ℕ) → is_no_term state t ≡ false → is_no_new_constant state name ≡ false
    → has_no_free (term_at state t) ≡ true → reflects_nameless (type_of_term_at state t) (term_at state t) ≡ true
    → IsLegalDefinition state.theory name (type_of_term_at state t) (term_at state t)
definition-legal state sound name t there accepted closed reflected =
    let fresh = named state (is_constant_name name) name accepted in
    record {
      is_name = fresh.0;
      is_new = fresh.1;
      known = term-known-at state sound t there;
      closed = (has_no_free-Decides (term_at state t)).0 closed;
      reflected = (reflects_nameless-Decides (type_of_term_at state t) (term_at state t)).0 reflected;
    }

-- the sequent of an accepted theorem line, over the theory with the line's entry

derivable-rule : (state : LogState) → IsSoundState state → (rule : LogRule) → IsFaultless state (theorem_line rule) → IsDerivable (rule_entries state rule ++ state.theory) (sequent_of state rule)
derivable-rule state sound (refl_step t) ok =
    derivable-supposing state.theory [] _ (refl_rule (term_at state t) (type_of_term_at state t) (term-known-at state sound t ok.number))
derivable-rule state sound (trans_step i j) ok =
    let e = is_equation (conclusion_at state i) in
    let f = is_equation (conclusion_at state j) in
    let m = same_term (right_side (conclusion_at state i)) (left_side (conclusion_at state j)) in
    let all = not_false (e && f && m) ok.rule in
    derivable-trans state sound i j (first_of_neither (is_no_theorem state i) (is_no_theorem state j) ok.number) (second_of_neither (is_no_theorem state i) (is_no_theorem state j) ok.number)
    (first_of_both e f (first_of_both (e && f) m all)) (second_of_both e f (first_of_both (e && f) m all)) (second_of_both (e && f) m all)
derivable-rule state sound (mk_comb_step i j) ok =
    let e = is_equation (conclusion_at state i) in
    let f = is_equation (conclusion_at state j) in
    let m = takes (side_type (conclusion_at state i)) (side_type (conclusion_at state j)) in
    let both = not_false (e && f) ok.rule in
    derivable-mk_comb state sound i j (first_of_neither (is_no_theorem state i) (is_no_theorem state j) ok.number) (second_of_neither (is_no_theorem state i) (is_no_theorem state j) ok.number)
    (first_of_both e f both) (second_of_both e f both) (fit (e && f) m both ok.type_fits)
  where
    fit : (p q : Bool) → p ≡ true → (p && not q) ≡ false → q ≡ true
    fit true true is none = refl
    fit true false is none = cc
    fit false q is none = cc
derivable-rule state sound (abs_step t i) ok =
    derivable-abs state sound t i (first_of_neither (is_no_term state t) (is_no_theorem state i) ok.number) (second_of_neither (is_no_term state t) (is_no_theorem state i) ok.number)
    (not_false (is_free_variable (term_at state t)) ok.type_fits)
    (not_false (is_equation (conclusion_at state i)) (first_of_neither (not (is_equation (conclusion_at state i))) (is_free_in_any (term_at state t) (hypotheses_at state i)) ok.rule))
    (second_of_neither (not (is_equation (conclusion_at state i))) (is_free_in_any (term_at state t) (hypotheses_at state i)) ok.rule)
derivable-rule state sound (beta_step t) ok = derivable-beta state.theory (term_at state t) (term-known-at state sound t ok.number) (not_false (is_trivial_redex (term_at state t)) ok.rule)
derivable-rule state sound (assume_step t) ok =
    let is : type_of_term_at state t ≡ bool_type = (type_eq-Decides _ _).0 (not_false (type_eq (type_of_term_at state t) bool_type) ok.type_fits) in
    derivable-supposing state.theory _ _ (assume_rule (term_at state t) (subst (λ (a : HolType). IsKnown state.theory (term_at state t) a) is (term-known-at state sound t ok.number)))
derivable-rule state sound (eq_mp_step i j) ok =
    let e = is_equation (conclusion_at state i) in
    let m = same_term (left_side (conclusion_at state i)) (conclusion_at state j) in
    let both = not_false (e && m) ok.rule in
    derivable-eq_mp state sound i j (first_of_neither (is_no_theorem state i) (is_no_theorem state j) ok.number) (second_of_neither (is_no_theorem state i) (is_no_theorem state j) ok.number)
    (first_of_both e m both) (second_of_both e m both)
derivable-rule state sound (deduct_step i j) ok =
    let i_there = first_of_neither (is_no_theorem state i) (is_no_theorem state j) ok.number in
    let j_there = second_of_neither (is_no_theorem state i) (is_no_theorem state j) ok.number in
    derivable-equation_of state.theory _ bool_type _ _ (term_type-is state.theory _ _ (formula-at state sound i i_there))
    (deduct_antisym_rule (conclusion_at state i) (conclusion_at state j) (derivable-at state sound i i_there) (derivable-at state sound j j_there))
derivable-rule state sound (inst_step i pairs) ok =
    let none = some_is_no_term state pairs in
    let fit = not_false (list_all is_replacement (term_pairs_at state pairs)) ok.type_fits in
    derivable-supposing state.theory _ _
    (inst_rule (term_instance_of (term_pairs_at state pairs)) (term_instance_of-may state.theory (term_pairs_at state pairs)
    (new_terms-known state sound pairs (second_of_neither (is_no_theorem state i) none ok.number)) fit)
    (derivable-at state sound i (first_of_neither (is_no_theorem state i) none ok.number)))
derivable-rule state sound (inst_type_step i pairs) ok =
    let none = some_is_no_type state pairs in
    derivable-supposing state.theory _ _
    (inst_type_rule (type_instance_of (type_pairs_at state pairs)) (type_instance_of-known state.theory (type_pairs_at state pairs)
    (new_types-known state sound pairs (second_of_neither (is_no_theorem state i) none ok.number)))
    (derivable-at state sound i (first_of_neither (is_no_theorem state i) none ok.number)))
derivable-rule state sound eta_step ok = derivable-supposing state.theory [] _ eta_rule
derivable-rule state sound select_step ok = derivable-supposing state.theory _ _ select_rule
derivable-rule state sound (definition_step name t) ok =
    derivable-supposing (definition name (type_of_term_at state t) (term_at state t) ∷ state.theory) [] _
    (definition_rule name (type_of_term_at state t) (term_at state t) (inl refl))

-- a line with nothing that it adds to the theory, and lists with what it adds

-- a theory with at most one new entry
pub record Grows (earlier : Theory) (added : Theory) : Type 0 where
  pub legal : IsLegal (added ++ earlier)
  pub types : (ty : HolType) → IsKnownType earlier ty → IsKnownType (added ++ earlier) ty
  pub terms : (t : Nameless) (ty : HolType) → IsKnown earlier t ty → IsKnown (added ++ earlier) t ty
  pub sequents : (h : List Nameless) (c : Nameless) → Derivable earlier h c → Derivable (added ++ earlier) h c

grows-none : (theory : Theory) → IsLegal theory → Grows theory []
grows-none theory legal = record { legal = legal; types = λ ty known. known; terms = λ t ty known. known; sequents = λ h c d. d }

grows-one : (theory : Theory) (entry : Entry) → IsLegal (entry ∷ theory) → IsNewEntry theory entry → Grows theory (entry ∷ [])
grows-one theory entry legal is_new = record {
  legal = legal;
  types = λ ty known. IsKnownType-later entry theory ty known;
  terms = λ t ty known. IsKnown-later entry theory is_new t ty known;
  sequents = λ h c d. Derivable-later entry theory is_new d;
}

grows-rule : (state : LogState) → IsSoundState state → (rule : LogRule) → IsFaultless state (theorem_line rule) → Grows state.theory (rule_entries state rule)
grows-rule state sound (definition_step name t) ok =
    let both = not_false (has_no_free (term_at state t) && reflects_nameless (type_of_term_at state t) (term_at state t)) ok.rule in
    let legal = definition-legal state sound name t ok.number ok.name
    (first_of_both (has_no_free (term_at state t)) (reflects_nameless (type_of_term_at state t) (term_at state t)) both)
    (second_of_both (has_no_free (term_at state t)) (reflects_nameless (type_of_term_at state t) (term_at state t)) both) in
    grows-one state.theory (definition name (type_of_term_at state t) (term_at state t)) (legal, sound.legal) legal.is_new
grows-rule state sound _ ok = grows-none state.theory sound.legal

grows : (state : LogState) → IsSoundState state → (line : LogLine) → IsFaultless state line → Grows state.theory (new_entries state line)
grows state sound (new_type_line name) ok =
    let fresh = named state (is_declared_type_name name) name ok.name in
    let legal : IsLegalType state.theory name = record { is_name = fresh.0; is_new = fresh.1 } in
    grows-one state.theory (declaration_of_type name) (legal, sound.legal) fresh.1
grows state sound (new_constant_line name ty) ok =
    let fresh = named state (is_constant_name name) name ok.name in
    let legal : IsLegalConstant state.theory name (type_at state ty) = record {
      is_name = fresh.0;
      is_new = fresh.1;
      known = type-known-at state sound ty ok.number;
      fixed = (is_fixed-Decides (type_at state ty)).0 (not_false (is_fixed (type_at state ty)) ok.rule);
    } in
    grows-one state.theory (declaration_of_constant name (type_at state ty)) (legal, sound.legal) fresh.1
grows state sound (theorem_line rule) ok = grows-rule state sound rule ok
grows state sound _ ok = grows-none state.theory sound.legal

-- what a line adds

added-type : (state : LogState) → IsSoundState state → (line : LogLine) → IsFaultless state line → All (IsKnownType state.theory) (new_types state line)
added-type state sound (type_variable_line name) ok = All-cons (IsKnownType state.theory) _ [] tt (All-nil (IsKnownType state.theory))
added-type state sound bool_line ok = All-cons (IsKnownType state.theory) _ [] tt (All-nil (IsKnownType state.theory))
added-type state sound (function_type_line a b) ok =
    All-cons (IsKnownType state.theory) _ [] (
      type-known-at state sound a (first_of_neither (is_no_type state a) (is_no_type state b) ok.number),
      type-known-at state sound b (second_of_neither (is_no_type state a) (is_no_type state b) ok.number),
    )
    (All-nil (IsKnownType state.theory))
added-type state sound (declared_type_line name) ok =
    All-cons (IsKnownType state.theory) _ [] ((is_declared-Decides state.theory name).0 (not_false (is_declared state.theory name) ok.type_fits)) (All-nil (IsKnownType state.theory))
added-type state sound _ ok = All-nil (IsKnownType state.theory)

known-itself : (theory : Theory) (t : Nameless) (ty : HolType) → IsKnown theory t ty → IsKnownTerm theory t
known-itself theory t ty known = subst (λ (a : HolType). IsKnown theory t a) (sym (term_type-is theory t ty known)) known

one-term : (theory : Theory) (t : Nameless) → IsKnownTerm theory t → All (IsKnownTerm theory) (t ∷ [])
one-term theory t known = All-cons (IsKnownTerm theory) t [] known (All-nil (IsKnownTerm theory))

abstraction-term : (theory : Theory) (v t : Nameless) → is_free_variable v ≡ true → IsKnownTerm theory v → IsKnownTerm theory t → IsKnownTerm theory (abstraction_over v t)
abstraction-term theory (free name ty) t is known body = known-itself theory (lam ty (close name ty t)) (function_type ty (term_type t)) (close-known theory name ty (term_type t) t known.parts body)
abstraction-term theory _ t is known body = cc

added-term : (state : LogState) → IsSoundState state → (line : LogLine) → IsFaultless state line → All (IsKnownTerm state.theory) (new_terms state line)
added-term state sound (variable_line name ty) ok = one-term state.theory (free name (type_at state ty)) (record { typed = refl; parts = type-known-at state sound ty ok.number })
added-term state sound (constant_line name ty) ok =
    let instance = (knows_constant-Decides state.theory name (type_at state ty)).0 (not_false (knows_constant state.theory name (type_at state ty)) ok.constant) in
    one-term state.theory (const name (type_at state ty)) (record { typed = refl; parts = (type-known-at state sound ty ok.number, instance) })
added-term state sound (combination_line f a) ok =
    let function = term-known-at state sound f (first_of_neither (is_no_term state f) (is_no_term state a) ok.number) in
    let argument = term-known-at state sound a (second_of_neither (is_no_term state f) (is_no_term state a) ok.number) in
    let arrow = takes-is (type_of_term_at state f) (type_of_term_at state a) (not_false (takes (type_of_term_at state f) (type_of_term_at state a)) ok.type_fits) in
    let typed = subst (λ (ty : HolType). IsKnown state.theory (term_at state f) ty) arrow.1 function in
    one-term state.theory (app (term_at state f) (term_at state a))
    (known-itself state.theory (app (term_at state f) (term_at state a)) arrow.0 (app-known state.theory (type_of_term_at state a) arrow.0 (term_at state f) (term_at state a) typed argument))
added-term state sound (abstraction_line v t) ok =
    one-term state.theory (abstraction_over (term_at state v) (term_at state t))
    (abstraction-term state.theory (term_at state v) (term_at state t) (not_false (is_free_variable (term_at state v)) ok.type_fits)
    (term-known-at state sound v (first_of_neither (is_no_term state v) (is_no_term state t) ok.number))
    (term-known-at state sound t (second_of_neither (is_no_term state v) (is_no_term state t) ok.number)))
added-term state sound _ ok = All-nil (IsKnownTerm state.theory)

added-theorem : (state : LogState) → IsSoundState state → (line : LogLine) → IsFaultless state line → All (IsDerivable (new_entries state line ++ state.theory)) (new_theorems state line)
added-theorem state sound (theorem_line rule) ok =
    All-cons (IsDerivable (rule_entries state rule ++ state.theory)) (sequent_of state rule) [] (derivable-rule state sound rule ok) (All-nil (IsDerivable (rule_entries state rule ++ state.theory)))
added-theorem state sound _ ok = All-nil (IsDerivable _)

-- a claim that is accepted is its theorem
claim-derivable : (state : LogState) → IsSoundState state → (i c : ℕ) (hs : List ℕ) → is_no_theorem state i ≡ false
    → same_term (term_at state c) (conclusion_at state i) ≡ true → same_terms (set_of (terms_at state hs)) (hypotheses_at state i) ≡ true
    → Derivable state.theory (set_of (terms_at state hs)) (term_at state c)
claim-derivable state sound i c hs there concludes supposes =
    let one : term_at state c ≡ conclusion_at state i = (same_term-Decides _ _).0 concludes in
    let two : set_of (terms_at state hs) ≡ hypotheses_at state i = same_terms-is _ _ supposes in
    rw (one, two) (derivable-at state sound i there)

added-claim : (state : LogState) → IsSoundState state → (line : LogLine) → IsFaultless state line → All (IsDerivableClaim state.theory) (new_claims state line)
added-claim state sound (claim_line name i c hs) ok =
    let both = not_false (same_term (term_at state c) (conclusion_at state i) && same_terms (set_of (terms_at state hs)) (hypotheses_at state i)) ok.claim in
    let there = first_of_neither (is_no_theorem state i) (is_no_term state c) (first_of_neither (is_no_theorem state i || is_no_term state c) (list_any (is_no_term state) hs) ok.number) in
    All-cons (IsDerivableClaim state.theory) _ []
    (claim-derivable state sound i c hs there
    (first_of_both (same_term (term_at state c) (conclusion_at state i)) (same_terms (set_of (terms_at state hs)) (hypotheses_at state i)) both)
    (second_of_both (same_term (term_at state c) (conclusion_at state i)) (same_terms (set_of (terms_at state hs)) (hypotheses_at state i)) both))
    (All-nil (IsDerivableClaim state.theory))
added-claim state sound _ ok = All-nil (IsDerivableClaim state.theory)

-- an accepted line keeps all of this
pub after_line-sound : (state : LogState) (line : LogLine) → first_cause state line ≡ None → IsSoundState state → IsSoundState (after_line state line)
after_line-sound state line none sound =
    let ok = no_cause state line none in
    let more = grows state sound line ok in
    let theory = new_entries state line ++ state.theory in
    record {
      legal = more.legal;
      types = All-append (IsKnownType theory) state.types (new_types state line) (λ k d within. more.types _ (sound.types k d within))
          (λ k d within. more.types _ (added-type state sound line ok k d within));
      terms = All-append (IsKnownTerm theory) state.terms (new_terms state line) (λ k d within. more.terms _ _ (sound.terms k d within))
          (λ k d within. more.terms _ _ (added-term state sound line ok k d within));
      theorems = All-append (IsDerivable theory) state.theorems (new_theorems state line) (λ k d within. more.sequents _ _ (sound.theorems k d within)) (added-theorem state sound line ok);
      claims = All-append (IsDerivableClaim theory) state.claims (new_claims state line) (λ k d within. more.sequents _ _ (sound.claims k d within))
          (λ k d within. more.sequents _ _ (added-claim state sound line ok k d within));
    }

pub first_state-sound : (version : LogVersion) → IsSoundState (first_state version)
first_state-sound version = record {
  legal = tt;
  types = All-nil (IsKnownType []);
  terms = All-nil (IsKnownTerm []);
  theorems = All-nil (IsDerivable []);
  claims = All-nil (IsDerivableClaim []);
}
