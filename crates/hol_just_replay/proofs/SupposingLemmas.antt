-- Subgoals supposed under one more hypothesis.
use Rattle.std.proofs.Common.{◌≡◌, ℕ, ◌+◌, ◌<◌, List, [], ◌∷◌, ◌++◌, map, length, get_or, Bool, true, false, ◌&&◌, refl, sym, ap, ◌∙◌, subst, inl}
use Rattle.std.proofs.Common.{inr, arith, Option, Some, Result, Ok, Err, append-nil, append_assoc, drop, drop-cons, drop_of_length-le, ◌≤◌, zero, suc}
use Rattle.std.specs.Prelude.{slice_get}
use Rattle.hol_model.specs.declared.fault.Fault.{Fault}
use Rattle.hol_model.specs.declared.fault.Fault.TheVariants.{Memory, TooLarge, InvalidStep, BadShape, NotBool}
use Rattle.hol_model.specs.Terms.HolType.{type_variable, bool_type}
use Rattle.hol_model.specs.Terms.NamedTerm.{NamedTerm}
use Rattle.hol_model.specs.Terms.Nameless.{Nameless, image, same_term}
use Rattle.hol_model.specs.Logic.Theory.{Theory, IsKnown, IsLegal}
use Rattle.hol_model.specs.Kernel.Theorem.{Theorem}
use Rattle.hol_model.specs.Logic.Derivable.{IsMember}
use Rattle.hol_model.specs.Logic.Logic.{false_name, false_term}
use Rattle.hol_model.specs.Logic.NamedLogic.{false_term as named_false}
use Rattle.hol_model.specs.Goals.Goals.{Sequent, Goal}
use Rattle.hol_model.specs.declared.rule.Rule.TheVariants as rules
use Rattle.hol_model.specs.Derived.Inference.{given, require, is_known_formula, conclude, conclude_supposing, all, unchanged, drawn}
use Rattle.hol_model.proofs.Terms.Membership.{of_append, IsMember-append_left, IsMember-append_right}
use Rattle.hol_model.specs.Goals.ValidSteps.{false_twice}
use Rattle.hol_model.specs.Goals.Replays.{terms_of_sequent, terms_of_goals}
use Rattle.hol_model.specs.Derived.DerivedRules.{is_roomy, named, images, stated, terms_of_theorem, AnswersStated, add_assum_outcome, contr_outcome}
use Rattle.hol_model.specs.Kernel.Outcome.{Answers, unless, refused}
use Rattle.hol_model.specs.Kernel.Rules.{first_unknown, is_formula, assume_outcome}
use Rattle.hol_model.specs.Logic.NamedLogic.{is_false}
use Rattle.hol_model.proofs.Tests.{first_of_both, second_of_both, both}
use Rattle.hol_model.proofs.Logic.Checks.{knows_nameless-Decides}
use Rattle.hol_model.proofs.Terms.Images.{image-type}
use Rattle.std.specs.List.{list_all}
use Rattle.std.proofs.lemmas.List.Folds.{list_all-append, list_all_at}
use Rattle.hol_journal.specs.Journal.{Journal, Recorded, IsMade, theorem_in}
use Rattle.hol_journal.specs.Growth.{IsGrown, Continues}
use Rattle.hol_journal.proofs.GrowthLemmas.{journals-grow}
use Rattle.hol_prelude_derivations.specs.Derivations.{AreMade}
use Rattle.hol_prelude.specs.declared.stored.Bool.{Bool as Stored}
use Rattle.hol_prelude.specs.HasLogic.{HasLogic}
use Rattle.hol_equal.specs.Formulas.{IsFormula}
use Rattle.hol_equal.specs.Sequents.{Gives}
use Rattle.hol_equal.specs.Inferred.{IsDrawn, Infers}
use Rattle.hol_bool.proofs.LogicLemmas.{logical-type}
use Rattle.hol_equal.proofs.DrawnTerms.{one_premise, two_premises}
use Rattle.hol_just_replay.specs.Accepting.{falsity_from, with_assumptions, supposed_from, are_known_formulas, is_known_goal, are_known_goals}
use Rattle.hol_just_replay.specs.Accepting.{AreSupposed, IsUnsupposed, HasGoalRoom, IsAssuming, IsSupposing}
use Rattle.hol_just.specs.Steps.{goal_of, goals_of}
use Rattle.hol_just.specs.declared.goal.Goal as code_goal
use Rattle.hol_just_replay.specs.Room.{IsNotLarge, are_roomy, FindsRoom}
use Rattle.hol_just_replay.proofs.Growing.{same-grown, made-stay}
use Rattle.hol_just_replay.proofs.RoomLemmas.{answers-fit, fails-fit, walked-states}
use Rattle.hol_just_replay.proofs.KernelRooms.{assume-fits}
use Rattle.hol_just_replay.proofs.Replaying.{theorem-roomy}

pub stopped : (journal : Journal) (fault : Fault) → Continues journal journal (Err fault)
stopped journal fault = record { grown = same-grown journal; theory = refl; held = tt }

-- ---- formulas that are known

known-formula : (theory : Theory) (term : NamedTerm) → is_known_formula theory (image term) ≡ true → IsFormula theory term
known-formula theory term passed =
    let known = (knows_nameless-Decides theory (image term) bool_type).0 passed in
    record { typed = image-type term bool_type known.typed; known = known }

pub known-target : (theory : Theory) (goal : Goal) → is_known_goal theory goal ≡ true → IsFormula theory goal.target
known-target theory goal passed =
    known-formula theory goal.target (first_of_both (is_known_formula theory (image goal.target)) (are_known_formulas theory goal.assumptions) passed)

pub known-assumptions : (theory : Theory) (goal : Goal) → is_known_goal theory goal ≡ true → are_known_formulas theory goal.assumptions ≡ true
known-assumptions theory goal passed = second_of_both (is_known_formula theory (image goal.target)) (are_known_formulas theory goal.assumptions) passed

pub known-assumption : (theory : Theory) (items : List NamedTerm) (at : ℕ) (item : NamedTerm) → at < length items → item ≡ get_or items at item
    → are_known_formulas theory items ≡ true → IsFormula theory item
known-assumption theory items at item within is passed = known-formula theory item (go (is_known item) refl)
  where
    is_known : NamedTerm → Bool
    is_known term = is_known_formula theory (image term)

    go : (test : Bool) → is_known item ≡ test → is_known item ≡ true
    go true found = found
    go false found = let fails : are_known_formulas theory items ≡ false = list_all_at is_known items at item within (ap is_known (sym is) ∙ found) in cc

-- `F`, and `F /\ F`

pub false-known : (journal : Journal) (logic : Stored) → HasLogic journal logic → IsLegal journal.theory → IsKnown journal.theory false_term bool_type
false-known journal logic has legal = record {
  typed = refl;
  parts = (tt, record { generic = bool_type; is_generic = logical-type journal logic has legal false_name bool_type refl; is_instance = record { instance = type_variable; is_instance = refl } });
}

pub gives-drawn : (result : Result Recorded Fault) (hypotheses : List Nameless) (conclusion : Nameless) → Gives result hypotheses conclusion
    → IsDrawn (Some (record { hypotheses = hypotheses; conclusion = conclusion })) (theorem_in result)
gives-drawn (Ok made) hypotheses conclusion shows = shows
gives-drawn (Err fault) hypotheses conclusion memory = inl memory

-- a theorem for a term of this image
pub once-drawn : (journal : Journal) (logic : Stored) → HasLogic journal logic → IsLegal journal.theory → (term : NamedTerm) → term ≡ named_false → (result : Result Recorded Fault)
    → (IsKnown journal.theory (image term) bool_type → Gives result (image term ∷ []) (image term)) → IsDrawn (Some (falsity_from false_term)) (theorem_in result)
once-drawn journal logic has legal term is result gives =
    let image_is : image term ≡ false_term = ap image is in
    let known = subst (λ (t : Nameless). IsKnown journal.theory t bool_type) (sym image_is) (false-known journal logic has legal) in
    subst (λ (t : Nameless). IsDrawn (Some (record { hypotheses = t ∷ []; conclusion = t })) (theorem_in result)) image_is (gives-drawn result (image term ∷ []) (image term) (gives known))

-- the sequents are the same as sets
module _ (s t : Sequent) (to : (x : Nameless) → IsMember x s.hypotheses → IsMember x t.hypotheses)
    (back : (x : Nameless) → IsMember x t.hypotheses → IsMember x s.hypotheses) (is : s.conclusion ≡ t.conclusion) where
  pub moved : (result : Result Theorem Fault) → IsDrawn (Some s) result → IsDrawn (Some t) result
  moved (Ok theorem) shows = record { same_set = record { to = λ x m. shows.same_set.to x (back x m); back = λ x m. to x (shows.same_set.back x m) }; concludes = shows.concludes ∙ is }
  moved (Err fault) drawn = drawn

-- from `F` twice, `F /\ F`
pub conjoined-drawn : (theory : Theory) (once : Theorem) (result : Result Theorem Fault) → IsDrawn (Some (falsity_from false_term)) (Ok once) → Infers theory rules.Conj (once ∷ once ∷ []) result
    → IsDrawn (Some (record { hypotheses = false_term ∷ []; conclusion = false_twice })) result
conjoined-drawn theory once result shows infers =
    let h = map image once.hypotheses in
    let c = image once.conclusion in
    let are : (map unchanged h ++ (map unchanged h ++ [])) ≡ (h ++ h) = two_premises h h in
    let drawn : IsDrawn (Some (record { hypotheses = h ++ h; conclusion = Rattle.hol_model.specs.Logic.Logic.conjunction c c })) result =
    subst (λ (k : List Nameless). IsDrawn (Some (record { hypotheses = k; conclusion = Rattle.hol_model.specs.Logic.Logic.conjunction c c })) result) are infers.drawn in
    moved (record { hypotheses = h ++ h; conclusion = Rattle.hol_model.specs.Logic.Logic.conjunction c c }) (record { hypotheses = false_term ∷ []; conclusion = false_twice })
    (λ x m. elim (of_append x h h m) [ inl a ↦ shows.same_set.back x a | inr b ↦ shows.same_set.back x b ]) (λ x m. IsMember-append_left x h h (shows.same_set.to x m))
    (λ i. Rattle.hol_model.specs.Logic.Logic.conjunction (shows.concludes i) (shows.concludes i)) result drawn

-- from `F /\ F`, `F`
pub conjunct-drawn : (theory : Theory) (assumed : Theorem) (result : Result Theorem Fault)
    → IsDrawn (Some (record { hypotheses = false_twice ∷ []; conclusion = false_twice })) (Ok assumed)
    → Infers theory rules.Conjunct1 (assumed ∷ []) result
    → IsDrawn (Some (falsity_from false_twice)) result
conjunct-drawn theory assumed result shows infers =
    let h = map image assumed.hypotheses in
    let at : IsDrawn (given (given (Rattle.hol_model.specs.Logic.NamelessLogic.dest_conjunction false_twice) (λ sides. conclude (all ∷ []) sides.0)) (λ inference. drawn inference (h ∷ []))) result =
    subst (λ (c : Nameless). IsDrawn
    (given (given (Rattle.hol_model.specs.Logic.NamelessLogic.dest_conjunction c) (λ sides. conclude (all ∷ []) sides.0))
    (λ inference. drawn inference (h ∷ []))) result) shows.concludes infers.drawn in
    let drawn_is : IsDrawn (Some (record { hypotheses = h; conclusion = false_term })) result =
    subst (λ (k : List Nameless). IsDrawn (Some (record { hypotheses = k; conclusion = false_term })) result) (one_premise h) at in
    moved (record { hypotheses = h; conclusion = false_term }) (falsity_from false_twice) (λ x m. shows.same_set.back x m) (λ x m. shows.same_set.to x m) refl result drawn_is

-- what these derivations need leaves room

-- the formula that both theorems say, or assume
sequent-roomy : (sequent : Sequent) (theorem : Theorem) → IsDrawn (Some sequent) (Ok theorem) → are_roomy (terms_of_sequent (Some sequent)) ≡ true → are_roomy (terms_of_theorem theorem) ≡ true
sequent-roomy sequent theorem shows roomy = theorem-roomy (Some sequent) theorem shows roomy

pub conjoined-fits : (theory : Theory) (once : Theorem) (result : Result Theorem Fault) → IsDrawn (Some (falsity_from false_term)) (Ok once)
    → FindsRoom theory rules.Conj (once ∷ once ∷ []) result → IsNotLarge result
conjoined-fits theory once result shows finds =
    let h = map image once.hypotheses in
    let roomy : are_roomy (terms_of_theorem once) ≡ true = sequent-roomy (falsity_from false_term) once shows refl in
    let h_roomy : are_roomy h ≡ true = second_of_both (is_roomy (image once.conclusion)) (are_roomy h) roomy in
    let drawn_roomy : are_roomy (h ++ h) ≡ true = list_all-append is_roomy h h ∙ both (are_roomy h) (are_roomy h) h_roomy h_roomy in
    let all_roomy : are_roomy (map unchanged h ++ (map unchanged h ++ [])) ≡ true = ap are_roomy (two_premises h h) ∙ drawn_roomy in
    let conclusion_roomy : is_roomy (Rattle.hol_model.specs.Logic.Logic.conjunction (image once.conclusion) (image once.conclusion)) ≡ true =
    ap (λ (c : Nameless). is_roomy (Rattle.hol_model.specs.Logic.Logic.conjunction c c)) shows.concludes in
    finds.finds (record {
      taken = refl;
      premises_roomy = (roomy, (roomy, tt));
      drawn = both (is_roomy (Rattle.hol_model.specs.Logic.Logic.conjunction (image once.conclusion) (image once.conclusion)))
          (are_roomy (map unchanged h ++ (map unchanged h ++ []))) conclusion_roomy all_roomy;
    })

pub conjunct-fits : (theory : Theory) (assumed : Theorem) (result : Result Theorem Fault) → IsDrawn (Some (record { hypotheses = false_twice ∷ []; conclusion = false_twice })) (Ok assumed)
    → FindsRoom theory rules.Conjunct1 (assumed ∷ []) result → IsNotLarge result
conjunct-fits theory assumed result shows finds =
    let h = map image assumed.hypotheses in
    let roomy : are_roomy (terms_of_theorem assumed) ≡ true = sequent-roomy (record { hypotheses = false_twice ∷ []; conclusion = false_twice }) assumed shows refl in
    let h_roomy : are_roomy h ≡ true = second_of_both (is_roomy (image assumed.conclusion)) (are_roomy h) roomy in
    let at : are_roomy (terms_of_sequent
    (given (given (Rattle.hol_model.specs.Logic.NamelessLogic.dest_conjunction false_twice) (λ sides. conclude (all ∷ []) sides.0))
    (λ inference. drawn inference (h ∷ [])))) ≡ true =
    both (is_roomy false_term) (are_roomy (map unchanged h ++ [])) refl (ap are_roomy (one_premise h) ∙ h_roomy) in
    finds.finds (record {
      taken = refl;
      premises_roomy = (roomy, tt);
      drawn = subst (λ (c : Nameless).
          are_roomy (terms_of_sequent (given
          (given (Rattle.hol_model.specs.Logic.NamelessLogic.dest_conjunction c) (λ sides. conclude (all ∷ []) sides.0))
          (λ inference. drawn inference (h ∷ [])))) ≡ true) (sym shows.concludes) at;
    })

-- ---- assumptions

-- what ADD_ASSUM draws
abbrev added_assumption : Theory → Nameless → List Nameless → Nameless → Option Sequent
added_assumption theory p h c = given (require (is_known_formula theory p) (conclude_supposing (all ∷ []) p c)) (λ inference. drawn inference (h ∷ []))

-- a theorem with one assumption more
one-more : (theory : Theory) (p : NamedTerm) (rest : List NamedTerm) (made next : Theorem) (result : Result Theorem Fault) → Infers theory (rules.AddAssum p) (made ∷ []) (Ok next)
    → IsDrawn (with_assumptions theory (map image next.hypotheses) (image next.conclusion) rest) result
    → IsDrawn (with_assumptions theory (map image made.hypotheses) (image made.conclusion) (p ∷ rest)) result
one-more theory p rest made next result infers drawn_rest = go (is_known_formula theory (image p)) infers.drawn (are_known_formulas theory rest) drawn_rest
  where
    h : List Nameless
    h = map image made.hypotheses

    k : List Nameless
    k = map image next.hypotheses

    go : (known : Bool) → IsDrawn (given (require known (conclude_supposing (all ∷ []) (image p) (image made.conclusion))) (λ inference. drawn inference (h ∷ []))) (Ok next)
        → (others : Bool) → IsDrawn (require others (Some (record { hypotheses = k ++ map image rest; conclusion = image next.conclusion }))) result
        → IsDrawn (require (known && others) (Some (record { hypotheses = h ++ image p ∷ map image rest; conclusion = image made.conclusion }))) result
    go false step others later = absurd step
    go true step false later = later
    go true step true later =
        let shows = subst (λ (l : List Nameless). IsDrawn (Some (record { hypotheses = image p ∷ l; conclusion = image made.conclusion })) (Ok next)) (one_premise h) step in
        moved (record { hypotheses = k ++ map image rest; conclusion = image next.conclusion }) (record { hypotheses = h ++ image p ∷ map image rest; conclusion = image made.conclusion })
        (λ x m. elim (of_append x k (map image rest) m) [ inl a ↦ from_next x (shows.same_set.back x a) | inr b ↦ IsMember-append_right x h (image p ∷ map image rest) (inr b) ])
        (λ x m. elim (of_append x h (image p ∷ map image rest) m) [
          | inl a ↦ IsMember-append_left x k (map image rest) (shows.same_set.to x (inr a))
          | inr b ↦ (elim b [ inl is ↦ IsMember-append_left x k (map image rest) (shows.same_set.to x (inl is)) | inr c ↦ IsMember-append_right x k (map image rest) c ])
        ])
        shows.concludes result later
      where
        from_next : (x : Nameless) → IsMember x (image p ∷ h) → IsMember x (h ++ image p ∷ map image rest)
        from_next x (inl is) = IsMember-append_right x h (image p ∷ map image rest) (inl is)
        from_next x (inr m) = IsMember-append_left x h (image p ∷ map image rest) m

here : (items : List NamedTerm) (at : ℕ) (item : NamedTerm) → at < length items → item ≡ get_or items at item → drop at items ≡ item ∷ drop (at + 1) items
here items at item within is = let next : suc at ≡ at + 1 = omega arith in drop-cons items at item within ∙ (λ i. sym is i ∷ drop (next i) items)

-- what ADD_ASSUM and CONTR draw leaves room

added-roomy : (theory : Theory) (p : NamedTerm) (made next : Theorem) → Infers theory (rules.AddAssum p) (made ∷ []) (Ok next)
    → are_roomy (terms_of_theorem made) ≡ true → is_roomy (image p) ≡ true → are_roomy (terms_of_theorem next) ≡ true
added-roomy theory p made next infers roomy p_roomy = theorem-roomy (added_assumption theory (image p) h (image made.conclusion)) next infers.drawn (go (is_known_formula theory (image p)))
  where
    h : List Nameless
    h = map image made.hypotheses

    go : (known : Bool) → are_roomy (terms_of_sequent (given (require known (conclude_supposing (all ∷ []) (image p) (image made.conclusion))) (λ inference. drawn inference (h ∷ [])))) ≡ true
    go false = refl
    go true =
        both (is_roomy (image made.conclusion)) (are_roomy (image p ∷ (map unchanged h ++ []))) (first_of_both (is_roomy (image made.conclusion)) (are_roomy h) roomy)
        (both (is_roomy (image p)) (are_roomy (map unchanged h ++ [])) p_roomy (ap are_roomy (one_premise h) ∙ second_of_both (is_roomy (image made.conclusion)) (are_roomy h) roomy))

pub add_assum-fits : (theory : Theory) (p : NamedTerm) (made : Theorem) (result : Result Theorem Fault) → AnswersStated result (image p ∷ terms_of_theorem made) (add_assum_outcome theory p made)
    → are_roomy (terms_of_theorem made) ≡ true → is_roomy (image p) ≡ true → IsNotLarge result
add_assum-fits theory p made result answers roomy p_roomy =
    let c = image made.conclusion in
    let h = map image made.hypotheses in
    let with_p : are_roomy (image p ∷ terms_of_theorem made) ≡ true = both (is_roomy (image p)) (are_roomy (terms_of_theorem made)) p_roomy roomy in
    let drawn_roomy : are_roomy (c ∷ image p ∷ h) ≡ true =
    both (is_roomy c) (are_roomy (image p ∷ h)) (first_of_both (is_roomy c) (are_roomy h) roomy)
    (both (is_roomy (image p)) (are_roomy h) p_roomy (second_of_both (is_roomy c) (are_roomy h) roomy)) in
    let all_roomy : list_all is_roomy ((image p ∷ terms_of_theorem made) ++ (c ∷ image p ∷ h)) ≡ true =
    list_all-append is_roomy (image p ∷ terms_of_theorem made) (c ∷ image p ∷ h) ∙ both (are_roomy (image p ∷ terms_of_theorem made)) (are_roomy (c ∷ image p ∷ h)) with_p drawn_roomy in
    walked-states theory p result (image p ∷ terms_of_theorem made) (record { hypotheses = image p ∷ h; conclusion = named made.conclusion }) all_roomy answers

contr-roomy : (theory : Theory) (p : NamedTerm) (falsity made : Theorem) → Infers theory (rules.Contr p) (falsity ∷ []) (Ok made)
    → are_roomy (terms_of_theorem falsity) ≡ true → is_roomy (image p) ≡ true → are_roomy (terms_of_theorem made) ≡ true
contr-roomy theory p falsity made infers roomy p_roomy =
    theorem-roomy (given (require (same_term (image falsity.conclusion) false_term && is_known_formula theory (image p))
    (conclude (all ∷ []) (image p))) (λ inference. drawn inference (h ∷ []))) made infers.drawn
    (go (same_term (image falsity.conclusion) false_term && is_known_formula theory (image p)))
  where
    h : List Nameless
    h = map image falsity.hypotheses

    go : (test : Bool) → are_roomy (terms_of_sequent (given (require test (conclude (all ∷ []) (image p))) (λ inference. drawn inference (h ∷ [])))) ≡ true
    go false = refl
    go true = both (is_roomy (image p)) (are_roomy (map unchanged h ++ [])) p_roomy (ap are_roomy (one_premise h) ∙ second_of_both (is_roomy (image falsity.conclusion)) (are_roomy h) roomy)

pub contr-fits : (theory : Theory) (falsity : Theorem) (goal : Goal) (result : Result Theorem Fault)
    → AnswersStated result (image goal.target ∷ terms_of_theorem falsity) (contr_outcome theory goal.target falsity) → HasGoalRoom falsity goal
    → IsNotLarge result
contr-fits theory falsity goal result answers room = go (is_false falsity.conclusion) answers
  where
    p : NamedTerm
    p = goal.target

    h : List Nameless
    h = map image falsity.hypotheses

    p_roomy : is_roomy (image goal.target) ≡ true
    p_roomy = first_of_both (is_roomy (image goal.target)) (are_roomy (map image goal.assumptions)) room.goal_roomy

    all_roomy : list_all is_roomy ((image goal.target ∷ terms_of_theorem falsity) ++ (image goal.target ∷ map image falsity.hypotheses)) ≡ true
    all_roomy =
        list_all-append is_roomy (image goal.target ∷ terms_of_theorem falsity) (image goal.target ∷ map image falsity.hypotheses)
        ∙ both (are_roomy (image goal.target ∷ terms_of_theorem falsity)) (are_roomy (image goal.target ∷ map image falsity.hypotheses))
        (both (is_roomy (image goal.target)) (are_roomy (terms_of_theorem falsity)) p_roomy room.falsity_roomy)
        (both (is_roomy (image goal.target)) (are_roomy (map image falsity.hypotheses)) p_roomy
        (second_of_both (is_roomy (image falsity.conclusion)) (are_roomy (map image falsity.hypotheses)) room.falsity_roomy))

    go : (test : Bool) → AnswersStated result (image goal.target ∷ terms_of_theorem falsity)
        (unless test BadShape (unless (is_formula goal.target) NotBool
        (refused (first_unknown theory goal.target) (stated (images falsity) goal.target))))
        → IsNotLarge result
    go false = fails-fit result (image goal.target ∷ terms_of_theorem falsity) BadShape (λ is. cc)
    go true = walked-states theory goal.target result (image goal.target ∷ terms_of_theorem falsity) (record { hypotheses = images falsity; conclusion = named goal.target }) all_roomy

-- the theorem of CONTR, and the goal's assumptions
pub supposing-roomy : (theory : Theory) (falsity made : Theorem) (goal : Goal) → Infers theory (rules.Contr goal.target) (falsity ∷ []) (Ok made)
    → HasGoalRoom falsity goal → (are_roomy (terms_of_theorem made) ≡ true) × (are_roomy (map image goal.assumptions) ≡ true)
supposing-roomy theory falsity made goal infers room = (
  contr-roomy theory goal.target falsity made infers room.falsity_roomy (first_of_both (is_roomy (image goal.target)) (are_roomy (map image goal.assumptions)) room.goal_roomy),
  second_of_both (is_roomy (image goal.target)) (are_roomy (map image goal.assumptions)) room.goal_roomy,
)

at-roomy : (items : List NamedTerm) (at : ℕ) (item : NamedTerm) → at < length items → item ≡ get_or items at item → are_roomy (map image (drop at items)) ≡ true
    → (is_roomy (image item) ≡ true) × (are_roomy (map image (drop (at + 1) items)) ≡ true)
at-roomy items at item within is roomy =
    let here_roomy : are_roomy (map image (item ∷ drop (at + 1) items)) ≡ true = subst (λ (left : List NamedTerm). are_roomy (map image left) ≡ true) (here items at item within is) roomy in
    (first_of_both (is_roomy (image item)) (are_roomy (map image (drop (at + 1) items))) here_roomy, second_of_both (is_roomy (image item)) (are_roomy (map image (drop (at + 1) items))) here_roomy)

pub assumes-next : (old now new : Journal) (hypotheses : List Nameless) (conclusion : Nameless) (whole items : List NamedTerm) (at : ℕ)
    (item : NamedTerm) (made next : Recorded) → at < length items → item ≡ get_or items at item
    → IsAssuming old now hypotheses conclusion whole (drop at items) made → Continues now new (Ok next) → Infers now.theory (rules.AddAssum item) (made.theorem ∷ []) (Ok next.theorem)
    → IsAssuming old new hypotheses conclusion whole (drop (at + 1) items) next
assumes-next old now new hypotheses conclusion whole items at item made next within is assuming continues infers = record {
  grown = journals-grow.twice old now new assuming.grown continues.grown;
  theory = continues.theory ∙ assuming.theory;
  held = continues.held;
  leads = λ result drawn_rest. assuming.leads result
      (subst (λ (left : List NamedTerm). IsDrawn (with_assumptions old.theory (map image made.theorem.hypotheses) (image made.theorem.conclusion) left) result) (sym (here items at item within is))
      (one-more old.theory item (drop (at + 1) items) made.theorem next.theorem result
      (subst (λ (theory : Theory). Infers theory (rules.AddAssum item) (made.theorem ∷ []) (Ok next.theorem)) assuming.theory infers)
      drawn_rest));
  room = λ made_roomy all_roomy.
      let so_far = assuming.room made_roomy all_roomy in
      let left = at-roomy items at item within is so_far.1 in
      (added-roomy now.theory item made.theorem next.theorem infers so_far.0 left.0, left.1);
}

-- an assumption that is refused
pub assumes-fits : (old now : Journal) (hypotheses : List Nameless) (conclusion : Nameless) (whole items : List NamedTerm) (at : ℕ)
    (item : NamedTerm) (made : Recorded) (result : Result Theorem Fault) → at < length items → item ≡ get_or items at item
    → IsAssuming old now hypotheses conclusion whole (drop at items) made → AnswersStated result (image item ∷ terms_of_theorem made.theorem) (add_assum_outcome now.theory item made.theorem)
    → are_roomy (conclusion ∷ hypotheses) ≡ true → are_roomy (map image whole) ≡ true → IsNotLarge result
assumes-fits old now hypotheses conclusion whole items at item made result within is assuming answers made_roomy all_roomy =
    let so_far = assuming.room made_roomy all_roomy in
    add_assum-fits now.theory item made.theorem result answers so_far.0 (at-roomy items at item within is so_far.1).0

-- ---- a goal's sequent

-- what CONTR draws, then the assumptions
pub contr-supposes : (theory : Theory) (falsity : Theorem) (goal : Goal) (made : Theorem) (result : Result Theorem Fault)
    → image falsity.conclusion ≡ false_term → Infers theory (rules.Contr goal.target) (falsity ∷ []) (Ok made)
    → IsDrawn (with_assumptions theory (map image made.hypotheses) (image made.conclusion) goal.assumptions) result → IsDrawn (supposed_from theory (map image falsity.hypotheses) goal) result
contr-supposes theory falsity goal made result is_false infers drawn_rest =
    go (is_known_formula theory (image goal.target))
    (subst (λ (c : Nameless). IsDrawn
    (given (require (same_term c false_term && is_known_formula theory (image goal.target)) (conclude (all ∷ []) (image goal.target)))
    (λ inference. drawn inference (h ∷ []))) (Ok made)) is_false infers.drawn)
    (are_known_formulas theory goal.assumptions) drawn_rest
  where
    h : List Nameless
    h = map image falsity.hypotheses

    go : (known : Bool) → IsDrawn (given (require (same_term false_term false_term && known) (conclude (all ∷ []) (image goal.target))) (λ inference. drawn inference (h ∷ []))) (Ok made)
        → (others : Bool) → IsDrawn (require others (Some (record { hypotheses = map image made.hypotheses ++ map image goal.assumptions; conclusion = image made.conclusion }))) result
        → IsDrawn (require (known && others) (Some (record { hypotheses = h ++ map image goal.assumptions; conclusion = image goal.target }))) result
    go false step others later = absurd step
    go true step false later = later
    go true step true later =
        let shows = subst (λ (l : List Nameless). IsDrawn (Some (record { hypotheses = l; conclusion = image goal.target })) (Ok made)) (one_premise h) step in
        moved (record { hypotheses = map image made.hypotheses ++ map image goal.assumptions; conclusion = image made.conclusion })
        (record { hypotheses = h ++ map image goal.assumptions; conclusion = image goal.target })
        (λ x m. elim (of_append x (map image made.hypotheses) (map image goal.assumptions) m) [
          | inl a ↦ IsMember-append_left x h
              (map image goal.assumptions) (shows.same_set.back x a)
          | inr b ↦ IsMember-append_right x h (map image goal.assumptions) b
        ])
        (λ x m. elim (of_append x h (map image goal.assumptions) m) [
          | inl a ↦ IsMember-append_left x (map image made.hypotheses)
              (map image goal.assumptions) (shows.same_set.to x a)
          | inr b ↦ IsMember-append_right x (map image made.hypotheses)
              (map image goal.assumptions) b
        ])
        shows.concludes result later

pub contr-fails : (theory : Theory) (falsity : Theorem) (goal : Goal) (fault : Fault) → image falsity.conclusion ≡ false_term → Infers theory (rules.Contr goal.target) (falsity ∷ []) (Err fault)
    → IsDrawn (supposed_from theory (map image falsity.hypotheses) goal) (Err fault)
contr-fails theory falsity goal fault is_false infers =
    go (is_known_formula theory (image goal.target))
    (subst (λ (c : Nameless). IsDrawn
    (given (require (same_term c false_term && is_known_formula theory (image goal.target)) (conclude (all ∷ []) (image goal.target)))
    (λ inference. drawn inference (h ∷ []))) (Err fault)) is_false infers.drawn)
    (are_known_formulas theory goal.assumptions)
  where
    h : List Nameless
    h = map image falsity.hypotheses

    go : (known : Bool) → IsDrawn (given (require (same_term false_term false_term && known) (conclude (all ∷ []) (image goal.target))) (λ inference. drawn inference (h ∷ []))) (Err fault)
        → (others : Bool) → IsDrawn (require (known && others) (Some (record { hypotheses = h ++ map image goal.assumptions; conclusion = image goal.target }))) (Err fault)
    go false step others = tt
    go true step false = tt
    go true step true = step

-- ---- refusals

pub want-of-memory : (known : Bool) → IsUnsupposed known Memory
want-of-memory known = inr (inl refl)

pub want-of-room : (known : Bool) → IsUnsupposed known TooLarge
want-of-room known = inr (inr refl)

pub other-refusal : (fault : Fault) (known : Bool) (sequent : Sequent) → (fault ≡ Memory → ⊥) → (fault ≡ TooLarge → ⊥)
    → IsDrawn (require known (Some sequent)) (Err fault) → IsUnsupposed known InvalidStep
other-refusal fault false sequent memory large is = inl (refl, refl)
other-refusal fault true sequent memory large (inl is) = absurd (memory is)
other-refusal fault true sequent memory large (inr is) = absurd (large is)

pub ruleset unsupposing = (want-of-memory, want-of-room, other-refusal)

-- ---- all goals

both-known : (a b : Bool) → a ≡ true → (a && b) ≡ b
both-known true b is = refl
both-known false b is = cc

drawn-known : (theory : Theory) (hypotheses : List Nameless) (goal : Goal) (made : Theorem) → IsDrawn (supposed_from theory hypotheses goal) (Ok made) → is_known_goal theory goal ≡ true
drawn-known theory hypotheses goal made = go (is_known_goal theory goal)
  where
    go : (known : Bool) → IsDrawn (require known (Some (record { hypotheses = hypotheses ++ map image goal.assumptions; conclusion = image goal.target }))) (Ok made) → known ≡ true
    go true is = refl
    go false is = absurd is

one-more-made : (journal : Journal) (all : List Recorded) (made : Recorded) → AreMade journal all → IsMade journal made → AreMade journal (all ++ made ∷ [])
one-more-made journal all made are is = record { each = λ number found there. go all number found (λ n f t. are.each n f t) there }
  where
    go : (all : List Recorded) (number : ℕ) (found : Recorded) → ((n : ℕ) (f : Recorded) → slice_get all n ≡ Some f → IsMade journal f)
        → slice_get (all ++ made ∷ []) number ≡ Some found → IsMade journal found
    go [] zero found each there = let same : made ≡ found = cc in subst (λ (m : Recorded). IsMade journal m) same is
    go [] (suc n) found each there = cc
    go (x ∷ xs) zero found each there = each zero found there
    go (x ∷ xs) (suc n) found each there = go xs n found (λ m f t. each (suc m) f t) there

-- a goal of the code, and those behind it
pub goals-here : (items : List code_goal.Goal) (at : ℕ) (item : code_goal.Goal) → at < length items → item ≡ get_or items at item
    → goals_of (drop at items) ≡ goal_of item ∷ goals_of (drop (at + 1) items)
goals-here items at item within is = let next : suc at ≡ at + 1 = omega arith in ap goals_of (drop-cons items at item within ∙ (λ i. sym is i ∷ drop (next i) items))

-- the next goal of those that are known
pub known-next : (old now : Journal) (hypotheses : List Nameless) (whole : List Goal) (items : List code_goal.Goal) (at : ℕ)
    (item : code_goal.Goal) (made : List Recorded) → at < length items → item ≡ get_or items at item
    → IsSupposing old now hypotheses whole (goals_of (drop at items)) made → are_known_goals old.theory whole ≡ true → is_known_goal now.theory (goal_of item) ≡ true
known-next old now hypotheses whole items at item made within is supposing known =
    let left : are_known_goals old.theory (goal_of item ∷ goals_of (drop (at + 1) items)) ≡ true =
    subst (λ (left : List Goal). are_known_goals old.theory left ≡ true) (goals-here items at item within is) (sym supposing.known ∙ known) in
    subst (λ (theory : Theory). is_known_goal theory (goal_of item) ≡ true) (sym supposing.theory)
    (first_of_both (is_known_goal old.theory (goal_of item)) (are_known_goals old.theory (goals_of (drop (at + 1) items))) left)

goal-roomy : (items : List code_goal.Goal) (at : ℕ) (item : code_goal.Goal) → at < length items → item ≡ get_or items at item → are_roomy (terms_of_goals (goals_of (drop at items))) ≡ true
    → (are_roomy (image (goal_of item).target ∷ map image (goal_of item).assumptions) ≡ true) × (are_roomy (terms_of_goals (goals_of (drop (at + 1) items))) ≡ true)
goal-roomy items at item within is roomy =
    let one = image (goal_of item).target ∷ map image (goal_of item).assumptions in
    let rest = terms_of_goals (goals_of (drop (at + 1) items)) in
    let here_roomy : are_roomy (one ++ rest) ≡ true = subst (λ (left : List Goal). are_roomy (terms_of_goals left) ≡ true) (goals-here items at item within is) roomy in
    let each : (are_roomy one && are_roomy rest) ≡ true = sym (list_all-append is_roomy one rest) ∙ here_roomy in
    (first_of_both (are_roomy one) (are_roomy rest) each, second_of_both (are_roomy one) (are_roomy rest) each)

-- a goal that is refused
pub supposes-fits : (old now : Journal) (hypotheses : List Nameless) (whole : List Goal) (items : List code_goal.Goal) (at : ℕ)
    (item : code_goal.Goal) (made : List Recorded) (falsity : Theorem) (result : Result Recorded Fault)
    → at < length items → item ≡ get_or items at item → IsSupposing old now hypotheses whole (goals_of (drop at items)) made → (HasGoalRoom falsity (goal_of item) → IsNotLarge result)
    → are_roomy (terms_of_theorem falsity) ≡ true → are_roomy (terms_of_goals whole) ≡ true → IsNotLarge result
supposes-fits old now hypotheses whole items at item made falsity result within is supposing fits falsity_roomy all_roomy =
    fits (record { falsity_roomy = falsity_roomy; goal_roomy = (goal-roomy items at item within is (supposing.room all_roomy)).0 })

pub supposes-next : (old now new : Journal) (hypotheses : List Nameless) (whole : List Goal) (items : List code_goal.Goal) (at : ℕ)
    (item : code_goal.Goal) (made more : List Recorded) (next : Recorded) → at < length items → item ≡ get_or items at item
    → IsSupposing old now hypotheses whole (goals_of (drop at items)) made → IsGrown now new → new.theory ≡ now.theory → IsMade new next
    → IsDrawn (supposed_from now.theory hypotheses (goal_of item)) (Ok next.theorem)
    → more ≡ made ++ next ∷ [] → IsSupposing old new hypotheses whole (goals_of (drop (at + 1) items)) more
supposes-next old now new hypotheses whole items at item made more next within is supposing grown theory is_made drawn_now more_is =
    let left_is = goals-here items at item within is in
    let drawn_old = subst (λ (t : Theory). IsDrawn (supposed_from t hypotheses (goal_of item)) (Ok next.theorem)) supposing.theory drawn_now in
    rw more_is (record {
      are_made = one-more-made new made next (made-stay now new made grown supposing.are_made) is_made;
      grown = journals-grow.twice old now new supposing.grown grown;
      theory = theory ∙ supposing.theory;
      known = supposing.known ∙ ap (λ (left : List Goal). are_known_goals old.theory left) left_is
          ∙ both-known (is_known_goal old.theory (goal_of item)) (are_known_goals old.theory (goals_of (drop (at + 1) items)))
          (drawn-known old.theory hypotheses (goal_of item) next.theorem drawn_old);
      room = λ roomy. (goal-roomy items at item within is (supposing.room roomy)).1;
      leads = λ others are. subst (λ (l : List Recorded). AreSupposed old.theory hypotheses whole l) (sym (append_assoc made (next ∷ []) others))
          (supposing.leads (next ∷ others) (subst (λ (left : List Goal). AreSupposed old.theory hypotheses left (next ∷ others)) (sym left_is) (drawn_old, are)));
    })

pub supposes-all : (old now : Journal) (hypotheses : List Nameless) (whole : List Goal) (items : List code_goal.Goal) (at : ℕ) (made : List Recorded) → length items ≤ at
    → IsSupposing old now hypotheses whole (goals_of (drop at items)) made → AreSupposed old.theory hypotheses whole made
supposes-all old now hypotheses whole items at made past supposing =
    subst (λ (l : List Recorded). AreSupposed old.theory hypotheses whole l) (append-nil made)
    (supposing.leads [] (subst (λ (left : List code_goal.Goal). AreSupposed old.theory hypotheses (goals_of left) []) (sym (drop_of_length-le items past)) tt))

-- a formula that is assumed is not too large
pub assumed-fits : (theory : Theory) (term : NamedTerm) (result : Result Theorem Fault) → Answers result (assume_outcome theory term) → IsNotLarge result
assumed-fits theory term result answers = answers-fit (assume_outcome theory term) result answers (assume-fits theory term)

pub ruleset supposing = (stopped, contr-fails, assumed-fits)
