-- A replay of a valid proof achieves its goal.
use Rattle.std.proofs.Common.{◌≡◌, List, [], ◌∷◌, map, true, refl, sym, subst, ◌∙◌, ◌⊎◌, inl, inr, Some, Ok}
use Rattle.std.specs.List.{list_all}
use Rattle.std.specs.declared.cmp.Ordering.{Ordering}
use Rattle.std.specs.declared.cmp.Ordering.TheVariants.{Less, Equal, Greater}
use Rattle.hol_model.specs.declared.fault.Fault.TheVariants.{InvalidStep}
use Rattle.hol_model.specs.Terms.HolType.{HolType, bool_type}
use Rattle.hol_model.specs.Terms.NamedTerm.{NamedTerm, type_of, equation}
use Rattle.hol_model.specs.Terms.Nameless.{Nameless, image, nameless_cmp, same_term}
use Rattle.hol_model.specs.Logic.Theory.{Theory}
use Rattle.hol_model.specs.Logic.Derivable.{IsMember}
use Rattle.hol_model.specs.Kernel.Theorem.{Theorem, are_alpha_equivalent, by_order, with_hypothesis, with_hypotheses}
use Rattle.hol_model.specs.Kernel.Rules.{dest_equation, refl_outcome, eq_mp_outcome}
use Rattle.hol_model.specs.Derived.DerivedRules.{is_among}
use Rattle.hol_model.specs.Texts.Reading.{◌>>=◌}
use Rattle.hol_model.specs.Goals.Goals.{Sequent, Goal, Achieves}
use Rattle.hol_model.proofs.Terms.Membership.{of_map, IsMember-map}
use Rattle.hol_model.proofs.Tests.{first_of_both, second_of_both, both, same_term-Decides}
use Rattle.hol_laws_steps.proofs.Members.{list_all-member, list_all-from, is_among-member, member-is_among}
use Rattle.hol_model.specs.Goals.Replays.{HasSequent, sequent_of_theorem}
use Rattle.hol_model.specs.Goals.GoalStates.{closing_outcome}
use Rattle.hol_model.specs.Goals.GoalLaws.{IsSettable, IsClosing}
use Rattle.hol_model.specs.Goals.Achieving.{achieves}
use Rattle.hol_laws_goals.proofs.Passing.{passed}
use Rattle.hol_laws_goals.proofs.Knowledge.{formula-typed}

equation-dest : (a b : NamedTerm) (ty : HolType) → type_of a ≡ Some ty → dest_equation (equation a b) ≡ Some (a, b)
equation-dest a b ty typed = rw typed refl

-- ---- the test of a theorem against its goal

sequent-achieves : (goal : Goal) (sequent : Sequent) (theorem : Theorem) → HasSequent sequent theorem → Achieves goal sequent → Achieves goal (sequent_of_theorem theorem)
sequent-achieves goal sequent theorem has achieved = record {
  same_conclusion = has.conclusion ∙ achieved.same_conclusion;
  assumed = λ term member. achieved.assumed term (has.hypotheses.to term member);
}

pub achieves-passes : (goal : Goal) (theorem : Theorem) → Achieves goal (sequent_of_theorem theorem) → achieves goal theorem ≡ true
achieves-passes goal theorem achieved =
    both (are_alpha_equivalent theorem.conclusion goal.target) (list_all (λ hypothesis. is_among (image hypothesis) (map image goal.assumptions)) theorem.hypotheses)
    ((same_term-Decides (image theorem.conclusion) (image goal.target)).1 achieved.same_conclusion)
    (list_all-from (λ hypothesis. is_among (image hypothesis) (map image goal.assumptions)) theorem.hypotheses
    (λ hypothesis member. member-is_among (image hypothesis) (map image goal.assumptions) (achieved.assumed (image hypothesis) (IsMember-map image hypothesis theorem.hypotheses member))))

passes-achieves : (goal : Goal) (theorem : Theorem) → achieves goal theorem ≡ true → Achieves goal (sequent_of_theorem theorem)
passes-achieves goal theorem is =
    let alpha = first_of_both (are_alpha_equivalent theorem.conclusion goal.target) (list_all (λ hypothesis. is_among (image hypothesis) (map image goal.assumptions)) theorem.hypotheses) is in
    let all = second_of_both (are_alpha_equivalent theorem.conclusion goal.target) (list_all (λ hypothesis. is_among (image hypothesis) (map image goal.assumptions)) theorem.hypotheses) is in
    record {
      same_conclusion = (same_term-Decides (image theorem.conclusion) (image goal.target)).0 alpha;
      assumed = λ term member. go all term (of_map image term theorem.hypotheses member);
    }
  where
    go : list_all (λ hypothesis. is_among (image hypothesis) (map image goal.assumptions)) theorem.hypotheses ≡ true → (term : Nameless)
        → ((hypothesis : NamedTerm) × IsMember hypothesis theorem.hypotheses × (term ≡ image hypothesis)) → IsMember term (map image goal.assumptions)
    go all term (hypothesis, member, same) =
        subst (λ (t : Nameless). IsMember t (map image goal.assumptions)) (sym same)
        (is_among-member (image hypothesis) (map image goal.assumptions)
        (list_all-member (λ h. is_among (image h) (map image goal.assumptions)) hypothesis theorem.hypotheses all member))

-- ---- hypotheses put in their places

put_one : (hypotheses : List NamedTerm) (new x : NamedTerm) → IsMember x (with_hypothesis hypotheses new) → (x ≡ new) ⊎ IsMember x hypotheses
put_one [] new x (inl same) = inl same
put_one [] new x (inr never) = absurd never
put_one (first ∷ rest) new x member = go (nameless_cmp (image new) (image first)) member (λ there. put_one rest new x there)
  where
    later : (x ≡ new) ⊎ IsMember x rest → (x ≡ new) ⊎ IsMember x (first ∷ rest)
    later (inl same) = inl same
    later (inr member) = inr (inr member)

    go : (order : Ordering) → IsMember x (by_order order (new ∷ first ∷ rest) (first ∷ rest) (first ∷ with_hypothesis rest new))
        → (IsMember x (with_hypothesis rest new) → (x ≡ new) ⊎ IsMember x rest) → (x ≡ new) ⊎ IsMember x (first ∷ rest)
    go Less (inl same) deeper = inl same
    go Less (inr member) deeper = inr member
    go Equal member deeper = inr member
    go Greater (inl same) deeper = inr (inl same)
    go Greater (inr member) deeper = later (deeper member)

put_all : (hypotheses news : List NamedTerm) (x : NamedTerm) → IsMember x (with_hypotheses hypotheses news) → IsMember x hypotheses ⊎ IsMember x news
put_all hypotheses [] x member = inl member
put_all hypotheses (new ∷ news) x member = go (put_all (with_hypothesis hypotheses new) news x member)
  where
    inner : (x ≡ new) ⊎ IsMember x hypotheses → IsMember x hypotheses ⊎ IsMember x (new ∷ news)
    inner (inl same) = inr (inl same)
    inner (inr member) = inl member

    go : IsMember x (with_hypothesis hypotheses new) ⊎ IsMember x news → IsMember x hypotheses ⊎ IsMember x (new ∷ news)
    go (inl member) = inner (put_one hypotheses new x member)
    go (inr member) = inr (inr member)

put_in_none : (news : List NamedTerm) (x : NamedTerm) → IsMember x (with_hypotheses [] news) → IsMember x news
put_in_none news x member = go (put_all [] news x member)
  where
    go : IsMember x [] ⊎ IsMember x news → IsMember x news
    go (inl never) = absurd never
    go (inr member) = member

-- ---- the theorem that closes a proof

-- by EQ_MP with REFL of the goal's own term
pub closing-is : (theory : Theory) (goal : Goal) (theorem : Theorem) → IsSettable theory goal → achieves goal theorem ≡ true
    → closing_outcome theory goal theorem ≡ Ok (record { theory = theory; hypotheses = with_hypotheses [] theorem.hypotheses; conclusion = goal.target })
closing-is theory goal theorem settable passes =
    let alpha = first_of_both (are_alpha_equivalent theorem.conclusion goal.target) (list_all (λ hypothesis. is_among (image hypothesis) (map image goal.assumptions)) theorem.hypotheses) passes in
    let same : image theorem.conclusion ≡ image goal.target = (same_term-Decides (image theorem.conclusion) (image goal.target)).0 alpha in
    let turned : same_term (image goal.target) (image theorem.conclusion) ≡ true = (same_term-Decides (image goal.target) (image theorem.conclusion)).1 (sym same) in
    let sides = equation-dest goal.target goal.target bool_type (formula-typed goal.target settable.formula) in
    rw (passes, settable.known, settable.fits, sides, turned) refl

closed-closes : (theory : Theory) (goal : Goal) (theorem : Theorem) → Achieves goal (sequent_of_theorem theorem)
    → IsClosing goal (record { theory = theory; hypotheses = with_hypotheses [] theorem.hypotheses; conclusion = goal.target })
closed-closes theory goal theorem achieved = record {
  achieves = record { same_conclusion = refl; assumed = λ term member. go term (of_map image term (with_hypotheses [] theorem.hypotheses) member) };
  own_term = refl;
}
  where
    go : (term : Nameless) → ((hypothesis : NamedTerm) × IsMember hypothesis (with_hypotheses [] theorem.hypotheses) × (term ≡ image hypothesis)) → IsMember term (map image goal.assumptions)
    go term (hypothesis, member, same) =
        subst (λ (t : Nameless). IsMember t (map image goal.assumptions)) (sym same)
        (achieved.assumed (image hypothesis) (IsMember-map image hypothesis theorem.hypotheses (put_in_none theorem.hypotheses hypothesis member)))

-- what a closing call answers achieves the goal
pub closing-closes : (theory : Theory) (goal : Goal) (theorem closed : Theorem) → IsSettable theory goal → closing_outcome theory goal theorem ≡ Ok closed → IsClosing goal closed
closing-closes theory goal theorem closed settable same =
    let test = passed (achieves goal theorem) InvalidStep (refl_outcome theory goal.target >>= λ own. eq_mp_outcome theory own theorem) closed same in
    let is = closing-is theory goal theorem settable test.0 in
    let made : Theorem = record { theory = theory; hypotheses = with_hypotheses [] theorem.hypotheses; conclusion = goal.target } in
    let whole : Ok closed ≡ Ok made = sym same ∙ is in
    let one : closed ≡ made = cc in
    subst (λ (t : Theorem). IsClosing goal t) (sym one) (closed-closes theory goal theorem (passes-achieves goal theorem test.0))

-- a theorem of a sequent that achieves the goal passes
pub sequent-passes : (goal : Goal) (sequent : Sequent) (theorem : Theorem) → HasSequent sequent theorem → Achieves goal sequent → achieves goal theorem ≡ true
sequent-passes goal sequent theorem has achieved = achieves-passes goal theorem (sequent-achieves goal sequent theorem has achieved)
