-- What a rule by a theorem of the prelude answers.
use Rattle.std.proofs.Common.{◌≡◌, ◌≤◌, ℕ, ◌+◌, List, [], ◌∷◌, ◌++◌, Bool, true, refl, sym, subst, inl, inr, Some, Result, Ok, Err, IfOk, arith}
use Rattle.std.specs.Prelude.{slice_get}
use Rattle.std.specs.List.{list_all}
use Rattle.hol_model.specs.declared.fault.Fault.{Fault}
use Rattle.hol_model.specs.declared.fault.Fault.TheVariants.{Memory}
use Rattle.hol_model.specs.Terms.NamedTerm.{NamedTerm}
use Rattle.hol_model.specs.Terms.Nameless.{Nameless, const, app, image}
use Rattle.hol_model.specs.Terms.Measures.{nameless_within_limits}
use Rattle.hol_model.specs.Logic.Theory.{Theory}
use Rattle.hol_model.specs.Logic.Derivable.{IsMember, IsSameSet}
use Rattle.hol_model.specs.Kernel.Theorem.{Theorem}
use Rattle.hol_model.specs.Logic.Logic.{binary}
use Rattle.hol_model.specs.Kernel.Instantiation.{instantiate_all}
use Rattle.hol_model.specs.Derived.DerivedRules.{Stated, AnswersStated, named, stated, images, terms_of_theorem, is_roomy}
use Rattle.hol_journal.specs.Journal.{Recorded, theorem_in}
use Rattle.hol_prelude.specs.Prelude.{prelude_theorems, shown}
use Rattle.hol_equal.specs.Sequents.{DerivesIf, instance_of}
use Rattle.hol_equal.specs.Formulas.{IsFormula}
use Rattle.hol_equal.specs.Room.{IsSized, FitsIf}
use Rattle.hol_bool.specs.PreludeInstances.{LeadsTo, Says, at_p, at_p_q, at_p_q_r}
use Rattle.hol_equal.proofs.StepLemmas.{member_passes}
use Rattle.hol_equal.proofs.Sizes.{leaves_room, sized-more, sized-app}
use Rattle.hol_equal.proofs.CutLemmas.{answers-stated}
use Rattle.hol_bool.proofs.PreludeSteps.{p-passes, p_q-passes, p_q_r-passes}

-- no memory is an answer of each rule
pub memory-stated : (fault : Fault) (arguments : List Nameless) (outcome : Result Stated Fault) → fault ≡ Memory → AnswersStated (Err fault) arguments outcome
memory-stated fault arguments (Ok sequent) memory = inl memory
memory-stated fault arguments (Err refusal) memory = inl memory

-- where there is room, the terms leave room
abbrev pub Roomy : Bool → List Nameless → Type 0
Roomy room terms = (t : Nameless) → IsMember t terms → room ≡ true → IsSized 1000 5000 t

pub roomy-all : (terms : List Nameless) → Roomy (list_all is_roomy terms) terms
roomy-all terms t m all = (leaves_room t (member_passes is_roomy terms t all m)).sized

pub roomy-fits : (room : Bool) (t : Nameless) → (room ≡ true → IsSized 1000 5000 t) → FitsIf room t
roomy-fits room t sized is = sized-more 1000 5000 1900 900000 t (sized is) (omega arith) (omega arith)

-- a rule's answer, where the stated sequent has these hypotheses and this conclusion
pub answered : (result : Result Recorded Fault) (arguments h wanted : List Nameless) (conclusion : NamedTerm) (outcome : Result Stated Fault) → outcome ≡ stated wanted conclusion → IsSameSet h wanted
    → ((room : Bool) → Roomy room (arguments ++ image conclusion ∷ wanted) → DerivesIf room result h (image conclusion)) → IfOk result (λ made. made.theorem.conclusion ≡ conclusion)
    → AnswersStated (theorem_in result) arguments outcome
answered result arguments h wanted conclusion outcome is same derives names =
    let sequent : Stated = record { hypotheses = wanted; conclusion = named conclusion } in
    let all = arguments ++ image conclusion ∷ wanted in
    subst (λ (o : Result Stated Fault). AnswersStated (theorem_in result) arguments o) (sym is)
    (answers-stated result arguments all h (image conclusion) sequent (derives (list_all is_roomy all) (roomy-all all)) same names (λ t m. m))

-- a rule of one theorem, which keeps its hypotheses
pub answered-one : (result : Result Recorded Fault) (theorem : Theorem) (conclusion : NamedTerm) (outcome : Result Stated Fault) → outcome ≡ stated (images theorem) conclusion
    → ((room : Bool) → (room ≡ true → IsSized 1000 5000 (image theorem.conclusion)) → (room ≡ true → IsSized 1000 5000 (image conclusion)) → DerivesIf room result (images theorem) (image conclusion))
    → IfOk result (λ made. made.theorem.conclusion ≡ conclusion) → AnswersStated (theorem_in result) (terms_of_theorem theorem) outcome
answered-one result theorem conclusion outcome is derives names =
    answered result (terms_of_theorem theorem) (images theorem) (images theorem) conclusion outcome is (record { to = λ x m. m; back = λ x m. m })
    (λ room roomy. derives room (roomy (image theorem.conclusion) (inl refl)) (roomy (image conclusion) (behind (images theorem)))) names
  where
    behind : (front : List Nameless) → IsMember (image conclusion) (image theorem.conclusion ∷ front ++ image conclusion ∷ images theorem)
    behind front = inr (go front)
      where
        go : (front : List Nameless) → IsMember (image conclusion) (front ++ image conclusion ∷ images theorem)
        go [] = inl refl
        go (t ∷ front) = inr (go front)

-- theorems of the prelude at formulas

pub leads-p : (theory : Theory) (number : ℕ) (hypothesis conclusion a : NamedTerm) (terms : List (NamedTerm × NamedTerm))
    → slice_get prelude_theorems number ≡ Some (shown (hypothesis ∷ []) conclusion)
    → list_all nameless_within_limits (instantiate_all [] (image conclusion) ∷ instantiate_all [] (image hypothesis) ∷ []) ≡ true → IsFormula theory a → terms ≡ at_p a
    → (room : Bool) (from to : Nameless) → from ≡ instance_of [] (at_p a) (image hypothesis) → to ≡ instance_of [] (at_p a) (image conclusion) → FitsIf room from → FitsIf room to
    → LeadsTo theory number terms room from to
leads-p theory number hypothesis conclusion a terms there small one terms_are room from to from_is to_is from_fits to_fits =
    subst (λ (l : List (NamedTerm × NamedTerm)). LeadsTo theory number l room from to) (sym terms_are) (record {
      hypothesis = hypothesis;
      stated = conclusion;
      theorem_is = there;
      is_small = small;
      may_replace = p-passes theory a one;
      premise_is = from_is;
      conclusion_is = to_is;
      premise_fits = from_fits;
      conclusion_fits = to_fits;
    })

pub leads-p_q : (theory : Theory) (number : ℕ) (hypothesis conclusion a b : NamedTerm) (terms : List (NamedTerm × NamedTerm))
    → slice_get prelude_theorems number ≡ Some (shown (hypothesis ∷ []) conclusion)
    → list_all nameless_within_limits (instantiate_all [] (image conclusion) ∷ instantiate_all [] (image hypothesis) ∷ []) ≡ true → IsFormula theory a → IsFormula theory b → terms ≡ at_p_q a b
    → (room : Bool) (from to : Nameless) → from ≡ instance_of [] (at_p_q a b) (image hypothesis) → to ≡ instance_of [] (at_p_q a b) (image conclusion) → FitsIf room from → FitsIf room to
    → LeadsTo theory number terms room from to
leads-p_q theory number hypothesis conclusion a b terms there small one two terms_are room from to from_is to_is from_fits to_fits =
    subst (λ (l : List (NamedTerm × NamedTerm)). LeadsTo theory number l room from to) (sym terms_are) (record {
      hypothesis = hypothesis;
      stated = conclusion;
      theorem_is = there;
      is_small = small;
      may_replace = p_q-passes theory a b one two;
      premise_is = from_is;
      conclusion_is = to_is;
      premise_fits = from_fits;
      conclusion_fits = to_fits;
    })

pub leads-p_q_r : (theory : Theory) (number : ℕ) (hypothesis conclusion a b d : NamedTerm) (terms : List (NamedTerm × NamedTerm))
    → slice_get prelude_theorems number ≡ Some (shown (hypothesis ∷ []) conclusion)
    → list_all nameless_within_limits (instantiate_all [] (image conclusion) ∷ instantiate_all [] (image hypothesis) ∷ []) ≡ true
    → IsFormula theory a → IsFormula theory b → IsFormula theory d → terms ≡ at_p_q_r a b d
    → (room : Bool) (from to : Nameless) → from ≡ instance_of [] (at_p_q_r a b d) (image hypothesis) → to ≡ instance_of [] (at_p_q_r a b d) (image conclusion) → FitsIf room from → FitsIf room to
    → LeadsTo theory number terms room from to
leads-p_q_r theory number hypothesis conclusion a b d terms there small one two three terms_are room from to from_is to_is from_fits to_fits =
    subst (λ (l : List (NamedTerm × NamedTerm)). LeadsTo theory number l room from to) (sym terms_are) (record {
      hypothesis = hypothesis;
      stated = conclusion;
      theorem_is = there;
      is_small = small;
      may_replace = p_q_r-passes theory a b d one two three;
      premise_is = from_is;
      conclusion_is = to_is;
      premise_fits = from_fits;
      conclusion_fits = to_fits;
    })

pub says-p : (theory : Theory) (number : ℕ) (conclusion a : NamedTerm) (terms : List (NamedTerm × NamedTerm)) → slice_get prelude_theorems number ≡ Some (shown [] conclusion)
    → nameless_within_limits (instantiate_all [] (image conclusion)) ≡ true → IsFormula theory a → terms ≡ at_p a
    → (room : Bool) (to : Nameless) → to ≡ instance_of [] (at_p a) (image conclusion) → FitsIf room to → Says theory number terms room to
says-p theory number conclusion a terms there small one terms_are room to to_is to_fits =
    subst (λ (l : List (NamedTerm × NamedTerm)). Says theory number l room to) (sym terms_are) (record {
      stated = conclusion;
      theorem_is = there;
      is_small = small;
      may_replace = p-passes theory a one;
      conclusion_is = to_is;
      conclusion_fits = to_fits;
    })

-- sizes of what connectives make

pub sized-connected : (tall many more : ℕ) (name : List ℕ) (l r : Nameless) → 1 ≤ tall → IsSized tall many l → IsSized tall more r
    → IsSized (tall + 2) (many + more + 3) (app (app (const name binary) l) r)
sized-connected tall many more name l r low one two =
    let constant : IsSized 1 1 (const name binary) = record { height = omega arith; nodes = omega arith; types = refl } in
    let left = sized-app tall 1 many (const name binary) l (sized-more 1 1 tall 1 (const name binary) constant low (omega arith)) one in
    let right = sized-more tall more (tall + 1) more r two (omega arith) (omega arith) in
    let whole = sized-app (tall + 1) (1 + many + 1) more (app (const name binary) l) r left right in
    sized-more (tall + 1 + 1) (1 + many + 1 + more + 1) (tall + 2) (many + more + 3) (app (app (const name binary) l) r) whole (omega arith) (omega arith)

pub sized-fits : (tall many : ℕ) (room : Bool) (t : Nameless) → tall ≤ 1900 → many ≤ 900000 → (room ≡ true → IsSized tall many t) → FitsIf room t
sized-fits tall many room t low few sized is = sized-more tall many 1900 900000 t (sized is) low few
