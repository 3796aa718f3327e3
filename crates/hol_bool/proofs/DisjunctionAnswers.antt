-- DISJ1, DISJ2 and DISJ_CASES: what has to fit, the steps, and the answers.
use Rattle.std.proofs.Common.{◌≡◌, ℕ, List, [], ◌∷◌, ◌++◌, Bool, false, refl, sym, subst, inl, inr, Some, Result, Ok, IfOk, arith}
use Rattle.hol_model.specs.declared.fault.Fault.{Fault}
use Rattle.hol_model.specs.Terms.HolType.{bool_type}
use Rattle.hol_model.specs.Terms.NamedTerm.{NamedTerm, type_of}
use Rattle.hol_model.specs.Terms.Nameless.{Nameless, const, app, image}
use Rattle.hol_model.specs.Terms.Measures.{nameless_types_fit}
use Rattle.hol_model.specs.Logic.Theory.{Theory, IsLegal}
use Rattle.hol_model.specs.Logic.Derivable.{IsSameSet, nameless_equation}
use Rattle.hol_model.specs.Kernel.Theorem.{Theorem}
use Rattle.hol_model.specs.Logic.Logic as nameless
use Rattle.hol_model.specs.Logic.Logic.{binary, implies_name, or_name}
use Rattle.hol_model.specs.Logic.NamedLogic.{disjunction, implication}
use Rattle.hol_model.specs.Derived.DerivedRules.{Stated, AnswersStated, images, stated, terms_of_theorem, disj1_outcome, disj2_outcome}
use Rattle.hol_model.proofs.Tests.{first_of_both, second_of_both}
use Rattle.hol_model.proofs.Terms.Membership.{of_append, IsMember-append_left, IsMember-append_right}
use Rattle.hol_journal.specs.Journal.{Journal, Recorded, theorem_in}
use Rattle.hol_prelude.specs.Prelude.{p, q, r}
use Rattle.hol_equal.specs.Sequents.{DerivesIf}
use Rattle.hol_prelude.specs.HasLogic.{HasLogic}
use Rattle.hol_equal.specs.Formulas.{IsFormula, IsPassed}
use Rattle.hol_equal.specs.Room.{IsSized, FitsIf, MakesIf}
use Rattle.hol_bool.specs.Disjunctions.{LeavesRoomIf, other_case, both_cases}
use Rattle.hol_prelude.specs.declared.stored.Bool.{Bool as Stored}
use Rattle.hol_bool.specs.PreludeInstances.{LeadsTo, at_p_q, at_p_q_r}
use Rattle.hol_equal.proofs.Sizes.{sized-more, sized-equation}
use Rattle.hol_bool.proofs.LogicLemmas.{logical-type}
use Rattle.hol_bool.proofs.FormulaLemmas.{connected-formula}
use Rattle.hol_bool.proofs.RoomLemmas.{connected-typed}
use Rattle.hol_bool.proofs.RuleAnswers.{answered, leads-p_q, leads-p_q_r, sized-connected, sized-fits}
use Rattle.hol_bool.proofs.ConjunctionAnswers.{mp_equation, stated-roomy}

-- a rule that takes a formula and a theorem, whose hypotheses it keeps

abbrev pub DerivesDisjunction : Result Recorded Fault → Theorem → Nameless → Type 0
DerivesDisjunction result theorem whole = (room : Bool) → LeavesRoomIf room (image theorem.conclusion) → LeavesRoomIf room whole → DerivesIf room result (images theorem) whole

disj-answered : (result : Result Recorded Fault) (formula : NamedTerm) (theorem : Theorem) (conclusion : NamedTerm) (outcome : Result Stated Fault) → outcome ≡ stated (images theorem) conclusion
    → DerivesDisjunction result theorem (image conclusion) → IfOk result (λ made. made.theorem.conclusion ≡ conclusion)
    → AnswersStated (theorem_in result) (image formula ∷ terms_of_theorem theorem) outcome
disj-answered result formula theorem conclusion outcome is derives names =
    let arguments = image formula ∷ terms_of_theorem theorem in
    answered result arguments (images theorem) (images theorem) conclusion outcome is (record { to = λ x m. m; back = λ x m. m })
    (λ room roomy. derives room (roomy (image theorem.conclusion) (inr (inl refl))) (stated-roomy room arguments (images theorem) (image conclusion) roomy)) names

pub disj1-answered : (result : Result Recorded Fault) (theory : Theory) (b : NamedTerm) (theorem : Theorem) → IsPassed theory b
    → DerivesDisjunction result theorem (image (disjunction theorem.conclusion b))
    → IfOk result (λ made. made.theorem.conclusion ≡ disjunction theorem.conclusion b)
    → AnswersStated (theorem_in result) (image b ∷ terms_of_theorem theorem) (disj1_outcome theory b theorem)
disj1-answered result theory b theorem passed derives names =
    let outcome : disj1_outcome theory b theorem ≡ stated (images theorem) (disjunction theorem.conclusion b) = rw (passed.is_formula, passed.is_known) refl in
    disj-answered result b theorem (disjunction theorem.conclusion b) (disj1_outcome theory b theorem) outcome derives names

pub disj2-answered : (result : Result Recorded Fault) (theory : Theory) (a : NamedTerm) (theorem : Theorem) → IsPassed theory a
    → DerivesDisjunction result theorem (image (disjunction a theorem.conclusion))
    → IfOk result (λ made. made.theorem.conclusion ≡ disjunction a theorem.conclusion)
    → AnswersStated (theorem_in result) (image a ∷ terms_of_theorem theorem) (disj2_outcome theory a theorem)
disj2-answered result theory a theorem passed derives names =
    let outcome : disj2_outcome theory a theorem ≡ stated (images theorem) (disjunction a theorem.conclusion) = rw (passed.is_formula, passed.is_known) refl in
    disj-answered result a theorem (disjunction a theorem.conclusion) (disj2_outcome theory a theorem) outcome derives names

-- the steps by theorems of the prelude

pub disj1-leads : (theory : Theory) (a b : NamedTerm) (terms : List (NamedTerm × NamedTerm)) → IsFormula theory a → IsFormula theory b → terms ≡ at_p_q a b
    → (room : Bool) → FitsIf room (image a) → FitsIf room (image (disjunction a b)) → LeadsTo theory 27 terms room (image a) (image (disjunction a b))
disj1-leads theory a b terms one two terms_are room part whole =
    leads-p_q theory 27 p (disjunction p q) a b terms refl refl one two terms_are room (image a) (image (disjunction a b)) refl refl part whole

pub disj2-leads : (theory : Theory) (a b : NamedTerm) (terms : List (NamedTerm × NamedTerm)) → IsFormula theory a → IsFormula theory b → terms ≡ at_p_q a b
    → (room : Bool) → FitsIf room (image b) → FitsIf room (image (disjunction a b)) → LeadsTo theory 28 terms room (image b) (image (disjunction a b))
disj2-leads theory a b terms one two terms_are room part whole =
    leads-p_q theory 28 q (disjunction p q) a b terms refl refl one two terms_are room (image b) (image (disjunction a b)) refl refl part whole

pub cases-leads : (theory : Theory) (a b d : NamedTerm) (terms : List (NamedTerm × NamedTerm)) → IsFormula theory a → IsFormula theory b → IsFormula theory d → terms ≡ at_p_q_r a b d
    → (room : Bool) → FitsIf room (image (disjunction a b)) → FitsIf room (image (both_cases a b d)) → LeadsTo theory 29 terms room (image (disjunction a b)) (image (both_cases a b d))
cases-leads theory a b d terms one two three terms_are room whole stated =
    leads-p_q_r theory 29 (disjunction p q) (both_cases p q r) a b d terms refl refl one two three terms_are room (image (disjunction a b)) (image (both_cases a b d)) refl refl whole stated

-- what is made on the way

abbrev pub MakesOther : Result NamedTerm Fault → NamedTerm → NamedTerm → Type 0
MakesOther result b d = (room : Bool) → type_of b ≡ Some bool_type → type_of d ≡ Some bool_type → FitsIf room (image (other_case b d)) → MakesIf room result (other_case b d)

pub other-is : (made b d : NamedTerm) → type_of b ≡ Some bool_type → type_of d ≡ Some bool_type → MakesOther (Ok made) b d → made ≡ other_case b d
other-is made b d b_typed d_typed makes = makes false b_typed d_typed (λ is. cc)

pub other-typed : (b d : NamedTerm) → type_of b ≡ Some bool_type → type_of d ≡ Some bool_type → type_of (other_case b d) ≡ Some bool_type
other-typed b d b_typed d_typed = connected-typed implies_name (implication b d) d (connected-typed implies_name b d b_typed d_typed) d_typed

pub other-formula : (journal : Journal) (logic : Stored) → HasLogic journal logic → IsLegal journal.theory → (made b d : NamedTerm)
    → made ≡ other_case b d → IsFormula journal.theory b → IsFormula journal.theory d → IsFormula journal.theory made
other-formula journal logic has legal made b d is two three =
    let implies_is = logical-type journal logic has legal implies_name binary refl in
    subst (λ (t : NamedTerm). IsFormula journal.theory t) (sym is)
    (connected-formula journal.theory implies_name implies_is (implication b d) d (connected-formula journal.theory implies_name implies_is b d two three) three)

-- sizes

pub left-leaves : (room : Bool) (name : List ℕ) (s t : Nameless) → LeavesRoomIf room (app (app (const name binary) s) t) → LeavesRoomIf room s
left-leaves room name s t fits is =
    let whole = fits is in
    let half = first_of_both (nameless_types_fit [] (app (const name binary) s)) (nameless_types_fit [] t) whole.types in
    record {
      height = let a = whole.height in omega arith;
      nodes = let a = whole.nodes in omega arith;
      types = second_of_both (nameless_types_fit [] (const name binary)) (nameless_types_fit [] s) half;
    }

pub right-leaves : (room : Bool) (name : List ℕ) (s t : Nameless) → LeavesRoomIf room (app (app (const name binary) s) t) → LeavesRoomIf room t
right-leaves room name s t fits is =
    let whole = fits is in
    record {
      height = let a = whole.height in omega arith;
      nodes = let a = whole.nodes in omega arith;
      types = second_of_both (nameless_types_fit [] (app (const name binary) s)) (nameless_types_fit [] t) whole.types;
    }

sized-implication : (s t : Nameless) → IsSized 1000 5000 s → IsSized 1000 5000 t → IsSized 1002 10003 (nameless.implication s t)
sized-implication s t one two = sized-connected 1000 5000 5000 implies_name s t (omega arith) one two

sized-other : (s t : Nameless) → IsSized 1000 5000 s → IsSized 1000 5000 t → IsSized 1004 15006 (nameless.implication (nameless.implication s t) t)
sized-other s t one two =
    sized-connected 1002 10003 5000 implies_name (nameless.implication s t) t (omega arith) (sized-implication s t one two) (sized-more 1000 5000 1002 5000 t two (omega arith) (omega arith))

sized-both : (s t u : Nameless) → IsSized 1000 5000 s → IsSized 1000 5000 t → IsSized 1000 5000 u
    → IsSized 1006 25012 (nameless.implication (nameless.implication s u) (nameless.implication (nameless.implication t u) u))
sized-both s t u one two three =
    sized-connected 1004 10003 15006 implies_name (nameless.implication s u) (nameless.implication (nameless.implication t u) u) (omega arith)
    (sized-more 1002 10003 1004 10003 (nameless.implication s u) (sized-implication s u one three) (omega arith) (omega arith)) (sized-other t u two three)

pub disjunction-fits : (room : Bool) (s t : Nameless) → LeavesRoomIf room s → LeavesRoomIf room t → FitsIf room (app (app (const or_name binary) s) t)
disjunction-fits room s t one two =
    sized-fits 1002 10003 room (app (app (const or_name binary) s) t) (omega arith) (omega arith) (λ is. sized-connected 1000 5000 5000 or_name s t (omega arith) (one is) (two is))

pub other-fits : (room : Bool) (s t : Nameless) → LeavesRoomIf room s → LeavesRoomIf room t → FitsIf room (nameless.implication (nameless.implication s t) t)
other-fits room s t one two =
    sized-fits 1004 15006 room (nameless.implication (nameless.implication s t) t) (omega arith) (omega arith) (λ is. sized-other s t (one is) (two is))

pub both-fits : (room : Bool) (s t u : Nameless) → LeavesRoomIf room s → LeavesRoomIf room t → LeavesRoomIf room u
    → FitsIf room (nameless.implication (nameless.implication s u) (nameless.implication (nameless.implication t u) u))
both-fits room s t u one two three =
    sized-fits 1006 25012 room (nameless.implication (nameless.implication s u) (nameless.implication (nameless.implication t u) u)) (omega arith) (omega arith)
    (λ is. sized-both s t u (one is) (two is) (three is))

pub first-case-fits : (room : Bool) (s t u : Nameless) → LeavesRoomIf room s → LeavesRoomIf room t → LeavesRoomIf room u
    → FitsIf room (mp_equation (nameless.implication s u) (nameless.implication (nameless.implication t u) u))
first-case-fits room s t u one two three =
    let rest = nameless.implication (nameless.implication t u) u in
    let whole = nameless.implication (nameless.implication s u) rest in
    sized-fits 1008 40021 room (nameless_equation bool_type whole rest) (omega arith) (omega arith)
    (λ is. sized-equation 1006 25012 15006 bool_type whole rest (omega arith) (omega arith) (sized-both s t u (one is) (two is) (three is))
    (sized-more 1004 15006 1006 15006 rest (sized-other t u (two is) (three is)) (omega arith) (omega arith)))

pub second-case-fits : (room : Bool) (s t : Nameless) → LeavesRoomIf room s → LeavesRoomIf room t → FitsIf room (mp_equation (nameless.implication s t) t)
second-case-fits room s t one two =
    let whole = nameless.implication (nameless.implication s t) t in
    sized-fits 1006 20009 room (nameless_equation bool_type whole t) (omega arith) (omega arith)
    (λ is. sized-equation 1004 15006 5000 bool_type whole t (omega arith) (omega arith) (sized-other s t (one is) (two is)) (sized-more 1000 5000 1004 5000 t (two is) (omega arith) (omega arith)))

-- hypotheses put together in the other order
pub cases-set : (h i j : List Nameless) → IsSameSet (j ++ (i ++ h)) (h ++ i ++ j)
cases-set h i j = record {
  to = λ x m. elim (of_append x j (i ++ h) m) [
    | inl one ↦ IsMember-append_right x (h ++ i) j one
    | inr rest ↦ (elim (of_append x i h rest) [
      | inl two ↦ IsMember-append_left x (h ++ i) j (IsMember-append_right x h i two)
      | inr three ↦ IsMember-append_left x (h ++ i) j (IsMember-append_left x h i three)
    ])
  ];
  back = λ x m. elim (of_append x (h ++ i) j m) [
    | inl rest ↦ (elim (of_append x h i rest) [
      | inl three ↦ IsMember-append_right x j (i ++ h) (IsMember-append_right x i h three)
      | inr two ↦ IsMember-append_right x j (i ++ h) (IsMember-append_left x i h two)
    ])
    | inr one ↦ IsMember-append_left x j (i ++ h) one
  ];
}
