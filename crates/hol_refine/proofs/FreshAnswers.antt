-- From a row of the table to what its refiner answers.
use Rattle.std.proofs.Common.{◌≡◌, ℕ, List, [], Bool, true, false, refl, sym, ◌∙◌, ap, subst, inl, inr, Option, Some, None, Result, Ok, Err}
use Rattle.hol_model.specs.declared.fault.Fault.{Fault}
use Rattle.hol_model.specs.declared.fault.Fault.TheVariants.{Memory, BadShape, RefineFails, UnknownName}
use Rattle.hol_model.specs.Terms.NamedTerm.{NamedTerm}
use Rattle.hol_model.specs.Terms.Substitution.{IsFirstFree}
use Rattle.hol_model.specs.Logic.Theory.{Theory}
use Rattle.hol_model.specs.Logic.NamedLogic.{Abstracted, dest_forall, dest_exists}
use Rattle.hol_model.specs.Kernel.Outcome.{given, unless}
use Rattle.hol_model.specs.Kernel.Theorem.{Theorem}
use Rattle.hol_model.specs.Goals.Goals.{Goal}
use Rattle.hol_model.specs.Goals.ValidSteps.{Step}
use Rattle.hol_model.specs.Goals.Replays.{Store}
use Rattle.hol_model.specs.Goals.Achieving.{are_assumed}
use Rattle.hol_model.specs.Refining.Refiners.{Leaf, gen_tac, choose_tac, StatedStep, table, where_assumed, IsFresh, IsFreshFor, IsFreshAfter, is_taken, is_taken_beside}
use Rattle.hol_refine.specs.TableAnswers.{AnswersStep, AnswersRow, AnswersNamedRow, AnswersLeaf}
use Rattle.hol_refine.specs.Rows.{generalized, chosen}

pub answers_leaf : (theory : Theory) (store : Store) (leaf : Leaf) (goal : Goal) (fresh : List ℕ) (result : Result Step Fault) → IsFresh theory store leaf goal fresh
    → AnswersStep (table store leaf goal fresh) result → AnswersLeaf theory store leaf goal result
answers_leaf theory store leaf goal fresh result is_fresh answers = go (table store leaf goal fresh) refl result answers
  where
    go : (outcome : Result StatedStep Fault) → table store leaf goal fresh ≡ outcome → (r : Result Step Fault) → AnswersStep outcome r → AnswersLeaf theory store leaf goal r
    go (Ok stated) is (Ok step) answers = inl (fresh, stated, is_fresh, is, answers)
    go (Err refusal) is (Ok step) answers = absurd answers
    go (Ok stated) is (Err fault) memory = inr (ap Err memory)
    go (Err refusal) is (Err fault) (inl memory) = inr (ap Err memory)
    go (Err refusal) is (Err fault) (inr same) = inl (fresh, is ∙ ap Err (sym same))

pub leaf_memory : (theory : Theory) (store : Store) (leaf : Leaf) (goal : Goal) (fault : Fault) → fault ≡ Memory → AnswersLeaf theory store leaf goal (Err fault)
leaf_memory theory store leaf goal fault memory = inr (ap Err memory)

-- ---- refiners that call no variable

pub row_answers : (theory : Theory) (store : Store) (leaf : Leaf) (goal : Goal) (result : Result Step Fault) → IsFresh theory store leaf goal []
    → AnswersRow leaf goal result → AnswersLeaf theory store leaf goal result
row_answers theory store leaf goal result none answers = answers_leaf theory store leaf goal [] result none (answers store [])

pub named_answers : (theory : Theory) (store : Store) (leaf : Leaf) (name : List ℕ) (found : Option Theorem) (goal : Goal) (result : Result Step Fault)
    → IsFresh theory store leaf goal [] → store.named name ≡ found → AnswersNamedRow leaf name found goal result → AnswersLeaf theory store leaf goal result
named_answers theory store leaf name found goal result none is answers = answers_leaf theory store leaf goal [] result none (answers store [] is)

-- ---- GEN_TAC

pub gen_answers : (theory : Theory) (store : Store) (goal : Goal) (at : Abstracted) (fresh : List ℕ) (result : Result Step Fault) → Some at ≡ dest_forall goal.target
    → IsFirstFree (is_taken theory goal) at.name fresh → AnswersStep (generalized goal at fresh) result → AnswersLeaf theory store gen_tac goal result
gen_answers theory store goal at fresh result is first answers =
    answers_leaf theory store gen_tac goal fresh result (subst (λ (o : Option Abstracted). IsFreshFor o (λ q. is_taken theory goal) fresh) is first)
    (subst (λ (o : Option Abstracted). AnswersStep (given o BadShape (λ q. generalized goal q fresh)) result) is answers)

pub gen_refused : (theory : Theory) (store : Store) (goal : Goal) → None ≡ dest_forall goal.target → AnswersLeaf theory store gen_tac goal (Err BadShape)
gen_refused theory store goal is =
    answers_leaf theory store gen_tac goal [] (Err BadShape) (subst (λ (o : Option Abstracted). IsFreshFor o (λ q. is_taken theory goal) []) is tt)
    (subst (λ (o : Option Abstracted). AnswersStep (given o BadShape (λ q. generalized goal q [])) (Err BadShape)) is (inr refl))

-- ---- CHOOSE_TAC

-- the row, where the theorem of the name is this one
named-row : (store : Store) (goal : Goal) (name fresh : List ℕ) (theorem : Theorem) → store.named name ≡ Some theorem
    → table store (choose_tac name) goal fresh ≡ given (dest_exists theorem.conclusion) BadShape (λ q. where_assumed theorem goal (chosen goal name q fresh))
named-row store goal name fresh theorem is =
    ap (λ (o : Option Theorem). given o UnknownName (λ t. given (dest_exists t.conclusion) BadShape (λ q. where_assumed t goal (chosen goal name q fresh)))) is

-- and its conclusion has these parts
choose-row : (store : Store) (goal : Goal) (name fresh : List ℕ) (theorem : Theorem) (at : Abstracted) → store.named name ≡ Some theorem → Some at ≡ dest_exists theorem.conclusion
    → table store (choose_tac name) goal fresh ≡ where_assumed theorem goal (chosen goal name at fresh)
choose-row store goal name fresh theorem at is dest =
    named-row store goal name fresh theorem is
    ∙ ap (λ (o : Option Abstracted). given o BadShape (λ q. where_assumed theorem goal (chosen goal name q fresh))) (sym dest)

pub choose_unknown : (theory : Theory) (store : Store) (goal : Goal) (name : List ℕ) → store.named name ≡ None → AnswersLeaf theory store (choose_tac name) goal (Err UnknownName)
choose_unknown theory store goal name is =
    inl ([], ap (λ (o : Option Theorem). given o UnknownName (λ t. given (dest_exists t.conclusion) BadShape (λ q. where_assumed t goal (chosen goal name q [])))) is)

-- the same of the hypotheses and the conclusion of the theorem
module _ (theory : Theory) (store : Store) (goal : Goal) (name : List ℕ) (theorem : Theorem) (hypotheses : List NamedTerm) (conclusion : NamedTerm)
    (is : store.named name ≡ Some theorem) (hypotheses_are : hypotheses ≡ theorem.hypotheses) (conclusion_is : conclusion ≡ theorem.conclusion) where
  pub choose_misshaped : None ≡ dest_exists conclusion → AnswersLeaf theory store (choose_tac name) goal (Err BadShape)
  choose_misshaped none =
      inl (
        [],
        named-row store goal name [] theorem is
            ∙ ap (λ (o : Option Abstracted). given o BadShape (λ q. where_assumed theorem goal (chosen goal name q []))) (sym (none ∙ ap dest_exists conclusion_is)),
      )

  module _ (at : Abstracted) (dest : Some at ≡ dest_exists conclusion) where
    parts : Some at ≡ dest_exists theorem.conclusion
    parts = dest ∙ ap dest_exists conclusion_is

    tested : (test : Bool) → are_assumed hypotheses goal ≡ test → are_assumed theorem.hypotheses goal ≡ test
    tested test same = ap (λ (hs : List NamedTerm). are_assumed hs goal) (sym hypotheses_are) ∙ same

    pub choose_not_assumed : are_assumed hypotheses goal ≡ false → AnswersLeaf theory store (choose_tac name) goal (Err RefineFails)
    choose_not_assumed not_assumed =
        inl ([], choose-row store goal name [] theorem at is parts ∙ ap (λ (test : Bool). unless test RefineFails (chosen goal name at [])) (tested false not_assumed))

    pub choose_answers : are_assumed hypotheses goal ≡ true → (fresh : List ℕ) (result : Result Step Fault)
        → IsFirstFree (is_taken_beside theory goal at.ty conclusion) at.name fresh → AnswersStep (chosen goal name at fresh) result
        → AnswersLeaf theory store (choose_tac name) goal result
    choose_answers assumed fresh result first answers =
        let avoided : IsFirstFree (is_taken_beside theory goal at.ty theorem.conclusion) at.name fresh =
        subst (λ (t : NamedTerm). IsFirstFree (is_taken_beside theory goal at.ty t) at.name fresh) conclusion_is first in
        answers_leaf theory store (choose_tac name) goal fresh result
        (subst (λ (o : Option Theorem). IsFreshAfter theory goal o fresh) (sym is)
        (subst (λ (o : Option Abstracted). IsFreshFor o (λ q. is_taken_beside theory goal q.ty theorem.conclusion) fresh) parts avoided))
        (subst (λ (o : Result StatedStep Fault). AnswersStep o result)
        (sym (choose-row store goal name fresh theorem at is parts ∙ ap (λ (test : Bool). unless test RefineFails (chosen goal name at fresh)) (tested true assumed))) answers)
