-- Theorems, refusals and goals of a session are told over its theory, where no variable is declared.
use Rattle.std.proofs.Common.{◌≡◌, ℕ, List, [], ◌∷◌, ◌++◌, map, Bool, true, false, codes, decimal, refl, ap, ◌∙◌}
use Rattle.std.proofs.lemmas.List.Folds.{list_all-append}
use Rattle.std.specs.Prelude.{nat_eq, not, drop, ◌&&◌}
use Rattle.hol_model.specs.Terms.Name.{is_identifier}
use Rattle.hol_model.specs.Terms.HolType.{HolType, type_variable, bool_type, function_type, declared_type}
use Rattle.hol_model.specs.Terms.NamedTerm.{NamedTerm, variable, constant, combination, abstraction}
use Rattle.hol_model.specs.Kernel.Fault.{number_of, name_of}
use Rattle.hol_model.specs.Texts.Reading.{Scope}
use Rattle.hol_model.specs.Texts.Texts.{IsNamedType, IsKnownTerm, text_of_term, text_of_goal, is_one_line}
use Rattle.hol_model.specs.Texts.SequentTexts.{IsReadableFormula, AreReadableFormulas}
use Rattle.hol_model.specs.Texts.Scopes.{scope_over}
use Rattle.hol_model.specs.Goals.Goals.{Goal}
use Rattle.hol_model_sessions.specs.Headline.{IsTheoremLine, IsRefusalLine, IsGoalLine}
use Rattle.hol_model_sessions.specs.Replies.{Refusal, NamedTheorem, text_of_theorem, truth_text, value_text, further_values, row_text, text_of_refusal}
use Rattle.hol_model_sessions.specs.ScriptSessions.{State, scope_in, IsProved, IsReadableGoal, IsReadableRow}
use Rattle.hol_laws_sessions.specs.HeadlineLaws.{TextsArePrinted}

-- ---- what is readable in a state is so over its theory

module _ (state : State) where
  type_over : (ty : HolType) → IsNamedType (scope_in state) ty → IsNamedType (scope_over state.library.theory) ty
  type_over (type_variable name) named = named
  type_over bool_type named = tt
  type_over (function_type domain codomain) named = (type_over domain named.0, type_over codomain named.1)
  type_over (declared_type name) named = named

  term_over : (term : NamedTerm) → IsKnownTerm (scope_in state) term → IsKnownTerm (scope_over state.library.theory) term
  term_over (variable name ty) known = (type_over ty known.0, known.1)
  term_over (constant name ty) known = (type_over ty known.0, known.1)
  term_over (combination f a) known = (term_over f known.0, term_over a known.1)
  term_over (abstraction name ty body) known = (type_over ty known.0, known.1, term_over body known.2)

  pub formula_over : (term : NamedTerm) → IsReadableFormula (scope_in state) term → IsReadableFormula (scope_over state.library.theory) term
  formula_over term is = record {
    readable = record { known = term_over term is.readable.known; typed = is.readable.typed };
    is_formula = is.is_formula;
  }

  pub formulas_over : (terms : List NamedTerm) → AreReadableFormulas (scope_in state) terms → AreReadableFormulas (scope_over state.library.theory) terms
  formulas_over [] are = tt
  formulas_over (term ∷ terms) are = (formula_over term are.0, formulas_over terms are.1)

-- ---- lines

pub joined : (a b : List ℕ) → is_one_line a ≡ true → is_one_line b ≡ true → is_one_line (a ++ b) ≡ true
joined a b first second = list_all-append (λ (byte : ℕ). not (nat_eq byte 10)) a b ∙ both (is_one_line a) (is_one_line b) first second
  where
    both : (p q : Bool) → p ≡ true → q ≡ true → (p && q) ≡ true
    both p q first second = rw (first, second) refl

truth-one_line : (value : Bool) → is_one_line (truth_text value) ≡ true
truth-one_line true = refl
truth-one_line false = refl

module _ (printed : TextsArePrinted) where
  -- a theorem that is proved is told by its line
  pub theorem-told : (state : State) (shown : NamedTheorem) → is_identifier shown.name ≡ true → IsProved state shown.theorem
      → IsTheoremLine state.library.theory (text_of_theorem (scope_in state) shown)
  theorem-told state shown named p =
      let scope = scope_over state.library.theory in
      let hypotheses = formulas_over state shown.theorem.hypotheses p.readable_hypotheses in
      let conclusion = formula_over state shown.theorem.conclusion p.readable_conclusion in
      record {
        name = shown.name;
        theorem = shown.theorem;
        named = named;
        legal = p.legal;
        spelled = ap (λ (text : List ℕ). shown.name ++ codes ": " ++ text ++ codes "\n") (printed.ignore_variables (scope_in state) scope refl shown.theorem.hypotheses shown.theorem.conclusion);
        one_line = printed.are_lines scope shown.theorem.hypotheses shown.theorem.conclusion hypotheses conclusion;
        reads_back = printed.read_back scope shown.theorem.hypotheses shown.theorem.conclusion hypotheses conclusion;
        ordered = p.ordered;
        derivable = p.derivable;
        holds = p.holds;
      }

  -- a goal that can be read back is told by its line
  pub goal-told : (state : State) (goal : Goal) → IsReadableGoal state goal → IsGoalLine state.library.theory (text_of_goal (scope_in state) goal.assumptions goal.target ++ codes "\n")
  goal-told state goal is =
      let scope = scope_over state.library.theory in
      let assumptions = formulas_over state goal.assumptions is.readable_assumptions in
      let target = formula_over state goal.target is.readable_target in
      record {
        goal = goal;
        spelled = ap (λ (text : List ℕ). text ++ codes "\n") (printed.goals_ignore_variables (scope_in state) scope refl goal.assumptions goal.target);
        one_line = printed.goals_are_lines scope goal.assumptions goal.target assumptions target;
        readable_assumptions = assumptions;
        readable_target = target;
      }

  -- the text of a term stands behind `|- ` in that of its sequent
  term-same : (scope other : Scope) → scope.generic_type ≡ other.generic_type → (term : NamedTerm) → text_of_term scope term ≡ text_of_term other term
  term-same scope other same term = ap (drop 3) (printed.ignore_variables scope other same [] term)

  term-one_line : (scope : Scope) (term : NamedTerm) → IsReadableFormula scope term → is_one_line (text_of_term scope term) ≡ true
  term-one_line scope term is = printed.are_lines scope [] term tt is

  -- ---- rows

  further-same : (scope other : Scope) → scope.generic_type ≡ other.generic_type → (row : List (NamedTerm × Bool)) → further_values scope row ≡ further_values other row
  further-same scope other same [] = refl
  further-same scope other same (value ∷ row) =
      let one = term-same scope other same value.0 in
      let more = further-same scope other same row in
      λ i. codes ", " ++ (one i ++ truth_text value.1) ++ more i

  row-same : (scope other : Scope) → scope.generic_type ≡ other.generic_type → (row : List (NamedTerm × Bool)) → row_text scope row ≡ row_text other row
  row-same scope other same [] = refl
  row-same scope other same (value ∷ row) =
      let one = term-same scope other same value.0 in
      let more = further-same scope other same row in
      λ i. codes " " ++ (one i ++ truth_text value.1) ++ more i

  value-one_line : (scope : Scope) (value : NamedTerm × Bool) → IsReadableFormula scope value.0 → is_one_line (value_text scope value) ≡ true
  value-one_line scope value is = joined (text_of_term scope value.0) (truth_text value.1) (term-one_line scope value.0 is) (truth-one_line value.1)

  further-one_line : (scope : Scope) (row : List (NamedTerm × Bool)) → AreReadableFormulas scope (map (λ value. value.0) row) → is_one_line (further_values scope row) ≡ true
  further-one_line scope [] are = refl
  further-one_line scope (value ∷ row) are =
      joined (codes ", " ++ value_text scope value) (further_values scope row) (joined (codes ", ") (value_text scope value) refl (value-one_line scope value are.0)) (further-one_line scope row are.1)

  pub row-one_line : (scope : Scope) (row : List (NamedTerm × Bool)) → AreReadableFormulas scope (map (λ value. value.0) row) → is_one_line (row_text scope row) ≡ true
  row-one_line scope [] are = refl
  row-one_line scope (value ∷ row) are =
      joined (codes " " ++ value_text scope value) (further_values scope row) (joined (codes " ") (value_text scope value) refl (value-one_line scope value are.0)) (further-one_line scope row are.1)

  -- the line of a refusal does not depend on the declared variables
  pub refusal-same : (scope other : Scope) → scope.generic_type ≡ other.generic_type → (line : ℕ) (refusal : Refusal) → text_of_refusal line scope refusal ≡ text_of_refusal line other refusal
  refusal-same scope other same line refusal =
      ap (λ (row : List ℕ). codes "line " ++ decimal line ++ codes ": E" ++ decimal (number_of refusal.fault) ++ codes " " ++ name_of refusal.fault ++ row ++ codes "\n")
      (row-same scope other same refusal.row)

  -- a refusal is told by its line
  pub refusal-told : (state : State) (line : ℕ) (refusal : Refusal) → IsReadableRow state refusal.row → IsRefusalLine state.library.theory (text_of_refusal line (scope_in state) refusal)
  refusal-told state line refusal are = record {
    number = line;
    refusal = refusal;
    spelled = refusal-same (scope_in state) (scope_over state.library.theory) refl line refusal;
    one_line = row-one_line (scope_over state.library.theory) refusal.row (formulas_over state (map (λ value. value.0) refusal.row) are);
    readable = formulas_over state (map (λ value. value.0) refusal.row) are;
  }
