-- A theorem of the goal's own term, from one that achieves the goal.
use Rattle.std.proofs.Common.{◌≡◌, ◌⊎◌, inl, inr, [], map, Bool, true, false, refl, sym, ◌∙◌, ap, subst, Result, Ok, Err}
use Rattle.std.specs.Bool.{Decides}
use Rattle.std.specs.List.{list_all}
use Rattle.std.proofs.lemmas.Bool.Decides.{same_from_decides}
use Rattle.hol_model.specs.declared.fault.Fault.{Fault}
use Rattle.hol_model.specs.declared.fault.Fault.TheVariants.{Memory, InvalidStep, TooLarge, NotAlpha, NotEquation}
use Rattle.hol_model.specs.Terms.NamedTerm.{NamedTerm, combination, equality, type_of}
use Rattle.hol_model.specs.Terms.Nameless.{Nameless, image}
use Rattle.hol_model.specs.Logic.Theory.{Theory}
use Rattle.hol_model.specs.Kernel.Theorem.{Theorem, IsTheorem}
use Rattle.hol_model.specs.Terms.HolType.{HolType}
use Rattle.hol_kernel.specs.Fits.{EqMpFits}
use Rattle.hol_kernel.proofs.RuleLemmas.{eq_mp-fits}
use Rattle.hol_model.specs.Kernel.Outcome.{Answers, unless}
use Rattle.hol_model.specs.Kernel.Rules.{refl_outcome, eq_mp_outcome}
use Rattle.hol_model.specs.Texts.Reading.{◌>>=◌}
use Rattle.hol_model.specs.Goals.Goals.{Goal, Achieves}
use Rattle.std.specs.Prelude.{OnErr, IfOk, Option, Some, None}
use Rattle.hol_model.specs.Kernel.Rules.{first_unknown, dest_equation}
use Rattle.hol_model.specs.Kernel.Theorem.{with_hypotheses}
use Rattle.hol_model.specs.Kernel.Outcome.{refused, given}
use Rattle.hol_model.specs.Terms.NamedTerm.{equation, is_within_limits}
use Rattle.hol_model.specs.Kernel.Theorem.{are_alpha_equivalent}
use Rattle.hol_journal.specs.Steps.{Step}
use Rattle.hol_journal.specs.Journal.{Journal, Recorded, IsRecorded, theorem_in}
use Rattle.hol_journal.specs.Growth.{JournalsGrow}
use Rattle.hol_goals.specs.Closing.{Closes}
use Rattle.hol_model.specs.Goals.Achieving.{is_assumed, are_assumed, achieves}
use Rattle.hol_model.specs.Goals.Replays.{sequent_of_theorem}
use Rattle.hol_model.specs.Goals.GoalStates.{closing_outcome}
use Rattle.hol_model.specs.Logic.Derivable.{IsMember}
use Rattle.hol_model.proofs.Terms.Membership.{of_map, IsMember-map}
use Rattle.hol_model.proofs.Tests.{first_of_both, second_of_both, both, same_term-Decides}
use Rattle.hol_laws_steps.proofs.Members.{list_all-member, list_all-from, is_among-member, member-is_among}

-- ---- the test of a theorem against a goal

achieves-passes : (goal : Goal) (theorem : Theorem) → Achieves goal (sequent_of_theorem theorem) → achieves goal theorem ≡ true
achieves-passes goal theorem achieved =
    both (are_alpha_equivalent theorem.conclusion goal.target) (are_assumed theorem.hypotheses goal) ((same_term-Decides (image theorem.conclusion) (image goal.target)).1 achieved.same_conclusion)
    (list_all-from (λ hypothesis. is_assumed hypothesis goal) theorem.hypotheses
    (λ hypothesis member. member-is_among (image hypothesis) (map image goal.assumptions) (achieved.assumed (image hypothesis) (IsMember-map image hypothesis theorem.hypotheses member))))

passes-achieves : (goal : Goal) (theorem : Theorem) → achieves goal theorem ≡ true → Achieves goal (sequent_of_theorem theorem)
passes-achieves goal theorem is =
    let same = first_of_both (are_alpha_equivalent theorem.conclusion goal.target) (are_assumed theorem.hypotheses goal) is in
    let all = second_of_both (are_alpha_equivalent theorem.conclusion goal.target) (are_assumed theorem.hypotheses goal) is in
    record {
      same_conclusion = (same_term-Decides (image theorem.conclusion) (image goal.target)).0 same;
      assumed = λ term member. go all term (of_map image term theorem.hypotheses member);
    }
  where
    go : list_all (λ hypothesis. is_assumed hypothesis goal) theorem.hypotheses ≡ true → (term : Nameless)
        → ((hypothesis : NamedTerm) × IsMember hypothesis theorem.hypotheses × (term ≡ image hypothesis)) → IsMember term (map image goal.assumptions)
    go all term (hypothesis, member, same) =
        subst (λ (t : Nameless). IsMember t (map image goal.assumptions)) (sym same)
        (is_among-member (image hypothesis) (map image goal.assumptions) (list_all-member (λ h. is_assumed h goal) hypothesis theorem.hypotheses all member))

pub test_is : (goal : Goal) (theorem : Theorem) (result : Bool) → Decides result (Achieves goal (sequent_of_theorem theorem)) → result ≡ achieves goal theorem
test_is goal theorem result decides = same_from_decides result (achieves goal theorem) decides (passes-achieves goal theorem, achieves-passes goal theorem)

-- ---- the outcome

pub fails_test : (theory : Theory) (goal : Goal) (theorem : Theorem) → achieves goal theorem ≡ false → closing_outcome theory goal theorem ≡ Err InvalidStep
fails_test theory goal theorem fails = ap (λ (test : Bool). unless test InvalidStep (refl_outcome theory goal.target >>= λ same. eq_mp_outcome theory same theorem)) fails

passed_test : (theory : Theory) (goal : Goal) (theorem : Theorem) → achieves goal theorem ≡ true
    → closing_outcome theory goal theorem ≡ (refl_outcome theory goal.target >>= λ same. eq_mp_outcome theory same theorem)
passed_test theory goal theorem passes = ap (λ (test : Bool). unless test InvalidStep (refl_outcome theory goal.target >>= λ same. eq_mp_outcome theory same theorem)) passes

pub fails_refl : (theory : Theory) (goal : Goal) (theorem : Theorem) (fault : Fault) → achieves goal theorem ≡ true → (fault ≡ Memory) ⊎ (refl_outcome theory goal.target ≡ Err fault)
    → (fault ≡ Memory) ⊎ (closing_outcome theory goal theorem ≡ Err fault)
fails_refl theory goal theorem fault passes (inl memory) = inl memory
fails_refl theory goal theorem fault passes (inr same) =
    inr (passed_test theory goal theorem passes ∙ ap (λ (found : Result Theorem Fault). found >>= λ same. eq_mp_outcome theory same theorem) same)

pub closes : (theory : Theory) (goal : Goal) (theorem same : Theorem) (answer : Result Theorem Fault) → achieves goal theorem ≡ true → refl_outcome theory goal.target ≡ Ok same
    → Answers answer (eq_mp_outcome theory same theorem) → Answers answer (closing_outcome theory goal theorem)
closes theory goal theorem same answer passes is answers =
    let whole : closing_outcome theory goal theorem ≡ eq_mp_outcome theory same theorem =
    passed_test theory goal theorem passes ∙ ap (λ (found : Result Theorem Fault). found >>= λ (one : Theorem). eq_mp_outcome theory one theorem) is in
    subst (λ (outcome : Result Theorem Fault). Answers answer outcome) (sym whole) answers

-- ---- the equation and the theorem fit

dest-equation : (a b : NamedTerm) → dest_equation (equation a b) ≡ Some (a, b)
dest-equation a b = go (type_of a)
  where
    go : (ty : Option HolType) → dest_equation (combination (combination (equality ty) a) b) ≡ Some (a, b)
    go None = refl
    go (Some ty) = refl

refl-conclusion : (theory : Theory) (term : NamedTerm) (theorem : Theorem) → refl_outcome theory term ≡ Ok theorem → theorem.conclusion ≡ equation term term
refl-conclusion theory term theorem same =
    go (first_unknown theory term) (is_within_limits (equation term term)) (record { theory = theory; hypotheses = []; conclusion = equation term term }) refl same
  where
    go : (unknown : Option Fault) (fits : Bool) (made : Theorem) → made.conclusion ≡ equation term term → refused unknown (unless fits TooLarge (Ok made)) ≡ Ok theorem
        → theorem.conclusion ≡ equation term term
    go None true made is same = let one : theorem ≡ made = cc in ap (λ (t : Theorem). t.conclusion) one ∙ is
    go None false made is same = cc
    go (Some fault) fits made is same = cc

pub equation-fits : (theory : Theory) (goal : Goal) (same theorem : Theorem) → IsTheorem same → IsTheorem theorem → refl_outcome theory goal.target ≡ Ok same → achieves goal theorem ≡ true → EqMpFits same theorem
equation-fits theory goal same theorem is_same is_theorem made passes =
    eq_mp-fits same theorem is_same is_theorem goal.target goal.target (ap dest_equation (refl-conclusion theory goal.target same made) ∙ dest-equation goal.target goal.target)
    (sym (passes-achieves goal theorem passes).same_conclusion)

-- ---- what becomes of the journal

refl-theory : (theory : Theory) (term : NamedTerm) (theorem : Theorem) → refl_outcome theory term ≡ Ok theorem → theorem.theory ≡ theory
refl-theory theory term theorem same =
    go (first_unknown theory term) (is_within_limits (equation term term)) (record { theory = theory; hypotheses = []; conclusion = equation term term }) refl same
  where
    go : (unknown : Option Fault) (fits : Bool) (made : Theorem) → made.theory ≡ theory → refused unknown (unless fits TooLarge (Ok made)) ≡ Ok theorem → theorem.theory ≡ theory
    go None true made is same = let one : theorem ≡ made = cc in ap (λ (t : Theorem). t.theory) one ∙ is
    go None false made is same = cc
    go (Some fault) fits made is same = cc

eq_mp-theory : (theory : Theory) (first second theorem : Theorem) → eq_mp_outcome theory first second ≡ Ok theorem → theorem.theory ≡ theory
eq_mp-theory theory first second theorem same = go (dest_equation first.conclusion) same
  where
    test : (passes : Bool) (made : Theorem) → made.theory ≡ theory → unless passes NotAlpha (Ok made) ≡ Ok theorem → theorem.theory ≡ theory
    test true made is same = let one : theorem ≡ made = cc in ap (λ (t : Theorem). t.theory) one ∙ is
    test false made is same = cc

    go : (found : Option (NamedTerm × NamedTerm))
        → given found NotEquation (λ sides.
        unless (are_alpha_equivalent sides.0 second.conclusion) NotAlpha
        (Ok (record { theory = theory; hypotheses = with_hypotheses first.hypotheses second.hypotheses; conclusion = sides.1 }))) ≡ Ok theorem
        → theorem.theory ≡ theory
    go None same = cc
    go (Some sides) same =
        test (are_alpha_equivalent sides.0 second.conclusion) (record { theory = theory; hypotheses = with_hypotheses first.hypotheses second.hypotheses; conclusion = sides.1 }) refl same

pub continued : JournalsGrow → (old middle new : Journal) (first second : Step) (goal : Goal) (own : Recorded) (other : Theorem) (result : Result Recorded Fault)
    → refl_outcome old.theory goal.target ≡ Ok own.theorem → IsRecorded old middle first own
    → Answers (theorem_in result) (eq_mp_outcome middle.theory own.theorem other) → IfOk result (IsRecorded middle new second) → OnErr result (new ≡ middle) → Closes old new result
continued grow old middle new first second goal own other (Ok made) is recorded answers done kept =
    let theory : middle.theory ≡ old.theory = sym recorded.stands_on ∙ refl-theory old.theory goal.target own.theorem is in
    record {
      grown = grow.twice old middle new (grow.grown old middle first own recorded) (grow.grown middle new second made done);
      theory = sym done.stands_on ∙ eq_mp-theory middle.theory own.theorem other made.theorem answers ∙ theory;
      made = grow.made middle new second made done;
    }
continued grow old middle new first second goal own other (Err fault) is recorded answers done kept =
    let theory : middle.theory ≡ old.theory = sym recorded.stands_on ∙ refl-theory old.theory goal.target own.theorem is in
    subst (λ (j : Journal). Closes old j (Err fault)) (sym kept)
    (record { grown = grow.grown old middle first own recorded; theory = theory; made = tt })
