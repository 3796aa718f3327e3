-- Replaying a justification line by line.
use Rattle.std.proofs.Common.{◌≡◌, ℕ, zero, suc, ◌+◌, ◌<◌, List, [], ◌∷◌, ◌++◌, map, length, get_or, Bool, true, false, ◌&&◌, refl, sym, ap, ◌∙◌}
use Rattle.std.proofs.Common.{subst, inl, inr, arith, Option, Some, None, Result, Ok, Err, length-append, drop, drop-cons}
use Rattle.std.specs.Prelude.{slice_get, IfOk, IfErr, ◌⊎◌}
use Rattle.std.proofs.lemmas.List.Folds.{list_all-append}
use Rattle.std.specs.Option.{option_map}
use Rattle.std.proofs.lemmas.Option.{slice_get-map, slice_get_read}
use Rattle.hol_model.specs.declared.fault.Fault.{Fault}
use Rattle.hol_model.specs.declared.fault.Fault.TheVariants.{Memory, TooLarge, InvalidStep}
use Rattle.hol_model.specs.Logic.Theory.{Theory}
use Rattle.hol_model.specs.Kernel.Theorem.{Theorem}
use Rattle.hol_model.specs.Goals.Goals.{Sequent}
use Rattle.hol_model.specs.Derived.InferenceRules.{InferenceRule}
use Rattle.hol_model.specs.Derived.Inference.{given, rule_sequent}
use Rattle.hol_model.specs.Goals.Strength.{IsAsStrong, AreAsStrong, AnswersAsStrong}
use Rattle.hol_model.specs.Goals.Justifications.{Justification, sub, named, lemma, by_rule, joined, sequent_over, sequents_over}
use Rattle.hol_model.specs.Goals.Replays.{terms_of_rule, terms_of_sequent, has_room_over, have_room_over, AnswersReplay, IsWant}
use Rattle.hol_model.specs.Derived.DerivedRules.{is_roomy, terms_of_theorem}
use Rattle.hol_model.proofs.Tests.{first_of_both, second_of_both}
use Rattle.hol_laws_steps.proofs.Members.{list_all-fewer}
use Rattle.hol_laws_steps.proofs.FewerHypotheses.{rules-monotone}
use Rattle.hol_journal.specs.Journal.{Journal, Recorded, theorem_in}
use Rattle.hol_journal.specs.Growth.{IsGrown, Continues, IsHeld}
use Rattle.hol_journal.specs.Steps.{sequent_of_theorem}
use Rattle.hol_journal.proofs.GrowthLemmas.{journals-grow}
use Rattle.hol_equal.specs.Sequents.{Shows}
use Rattle.hol_equal.specs.Inferred.{IsDrawn, Infers}
use Rattle.hol_just.specs.Flat.{FlatLine, cited, cited_parts, tree_of_line, trees_after, cites_below, cite_earlier}
use Rattle.hol_just.specs.Lines.{flat_line, flat_lines}
use Rattle.hol_just.specs.Steps.{flat_of}
use Rattle.hol_just.specs.declared.just.Just.{Just}
use Rattle.hol_just.specs.declared.line.Line.{Line}
use Rattle.hol_just.proofs.Joining.{well_cited}
use Rattle.hol_just.proofs.FlatTrees.{length-trees_after}
use Rattle.hol_just_replay.proofs.Growing.{same-grown}
use Rattle.hol_just_replay.proofs.Premises.{none_of_four}
use Rattle.hol_theorem_store.specs.Stored.{Stored, IsStoreOf}
use Rattle.hol_just_replay.specs.Named.{named_sequents, sequents_of}
use Rattle.hol_just_replay.specs.Room.{IsNotLarge, are_roomy, AreRoomy, FindsRoom}
use Rattle.hol_just_replay.specs.Lines.{result_of, Expected, Meets, expected_in, AreMet, IsHeldLine, AreHeldLines, ContinuesLine, IsReplaying}
use Rattle.hol_just_replay.specs.Lines.{expected_at, premises_of, have_room, drawn_from, expected_by, AllMeet, Applies, sequent_found, IsNamed}
use Rattle.hol_just_replay.specs.Lines.{IsBroken, IsPremise, IsMetFrom, IsReplayRefusal}
use Rattle.hol_just_replay.specs.declared.replays.LineAnswer.{LineAnswer}
use Rattle.hol_just_replay.specs.declared.replays.LineAnswer.TheVariants.{Made, Invalid, Large}

-- what a rule came to, as a line

pub too-large : (found : Option Sequent) → IsDrawn found (Err TooLarge)
too-large None = tt
too-large (Some sequent) = inr refl

never-large : IsNotLarge {A = Theorem} (Err InvalidStep)
never-large = λ large. cc

pub applies-made : (theory : Theory) (rule : InferenceRule) (premises : List Theorem) (made : Recorded) → Infers theory rule premises (Ok made.theorem) → Applies theory rule premises (Made made)
applies-made theory rule premises made infers = record { drawn = infers.drawn; finds = record { finds = λ room. tt } }

pub applies-large : (theory : Theory) (rule : InferenceRule) (premises : List Theorem) → FindsRoom theory rule premises (Err TooLarge) → Applies theory rule premises Large
applies-large theory rule premises finds = record { drawn = too-large (rule_sequent theory rule (map sequent_of_theorem premises)); finds = finds }

-- a fault that is neither of the two comes where nothing is drawn
pub applies-other : (theory : Theory) (rule : InferenceRule) (premises : List Theorem) (fault : Fault) → (fault ≡ Memory → ⊥)
    → (fault ≡ TooLarge → ⊥) → Infers theory rule premises (Err fault) → Applies theory rule premises Invalid
applies-other theory rule premises fault memory large infers =
    record { drawn = go (rule_sequent theory rule (map sequent_of_theorem premises)) infers.drawn; finds = record { finds = λ room. never-large } }
  where
    go : (found : Option Sequent) → IsDrawn found (Err fault) → IsDrawn found (Err InvalidStep)
    go None drawn = tt
    go (Some sequent) (inl is) = absurd (memory is)
    go (Some sequent) (inr is) = absurd (large is)

pub ruleset answering = (applies-made, applies-large, applies-other)

pub broken-held : (journal : Journal) (answer : LineAnswer) → IsBroken answer → IsHeldLine journal answer
broken-held journal (Made made) broken = absurd broken
broken-held journal Invalid broken = tt
broken-held journal Large broken = tt

pub kept-line : (journal : Journal) (answer : LineAnswer) → IsBroken answer → ContinuesLine journal journal (Ok answer)
kept-line journal answer broken = record { grown = same-grown journal; theory = refl; held = broken-held journal answer broken }

pub ruleset keeping = (kept-line, same-grown, broken-held)

-- a rule on sequents that are the same as sets

pub alike-drawn : (first second : Option Sequent) (result : Result Theorem Fault) → AnswersAsStrong first second → AnswersAsStrong second first → IsDrawn first result → IsDrawn second result
alike-drawn None None result one two drawn = drawn
alike-drawn None (Some t) result one two drawn = absurd one
alike-drawn (Some s) None result one two drawn = absurd two
alike-drawn (Some s) (Some t) (Err fault) one two drawn = drawn
alike-drawn (Some s) (Some t) (Ok theorem) one two drawn =
    record {
      same_set = record {
        to = λ x m. drawn.same_set.to x (two.no_more_hypotheses x m);
        back = λ x m.
            one.no_more_hypotheses x (drawn.same_set.back x m);
      };
      concludes = drawn.concludes ∙ one.same_conclusion;
    }

pub stronger : (s : Sequent) (theorem : Theorem) → Shows theorem s.hypotheses s.conclusion → IsAsStrong s (sequent_of_theorem theorem)
stronger s theorem shows = record { same_conclusion = sym shows.concludes; no_more_hypotheses = shows.same_set.to }

pub weaker : (s : Sequent) (theorem : Theorem) → Shows theorem s.hypotheses s.conclusion → IsAsStrong (sequent_of_theorem theorem) s
weaker s theorem shows = record { same_conclusion = shows.concludes; no_more_hypotheses = shows.same_set.back }

-- a sequent with no more terms leaves room
pub roomy-alike : (first second : Option Sequent) → AnswersAsStrong first second → AnswersAsStrong second first → are_roomy (terms_of_sequent first) ≡ true → are_roomy (terms_of_sequent second) ≡ true
roomy-alike None None one two roomy = roomy
roomy-alike None (Some t) one two roomy = absurd one
roomy-alike (Some s) None one two roomy = absurd two
roomy-alike (Some s) (Some t) one two roomy =
    list_all-fewer is_roomy (terms_of_sequent (Some t)) (terms_of_sequent (Some s))
    (λ x m. elim m [ inl same ↦ inl (same ∙ two.same_conclusion) | inr member ↦ inr (two.no_more_hypotheses x member) ]) roomy

-- parts that have theorems

-- the sequents of the parts, which are those of the theorems as sets
record ArePremises (parts : List Expected) (all : List Theorem) : Type 0 where
  premises : List Sequent
  are : premises_of parts ≡ Some premises
  weaker_all : AreAsStrong (map sequent_of_theorem all) premises
  stronger_all : AreAsStrong premises (map sequent_of_theorem all)

one_part : (found : Option Sequent) (rest : Option (List Sequent)) (t : Theorem) (all : List Theorem) (ss : List Sequent) → IsDrawn found (Ok t)
    → rest ≡ Some ss → AreAsStrong (map sequent_of_theorem all) ss
    → AreAsStrong ss (map sequent_of_theorem all)
    → (premises : List Sequent) × (joined found rest ≡ Some premises) × AreAsStrong (map sequent_of_theorem (t ∷ all)) premises × AreAsStrong premises (map sequent_of_theorem (t ∷ all))
one_part None rest t all ss drawn is weak strong = absurd drawn
one_part (Some s) rest t all ss drawn is weak strong = (s ∷ ss, ap (joined (Some s)) is, (weaker s t drawn, weak), (stronger s t drawn, strong))

premises-there : (parts : List Expected) (all : List Theorem) → AllMeet parts all → ArePremises parts all
premises-there [] [] met = record { premises = []; are = refl; weaker_all = tt; stronger_all = tt }
premises-there [] (t ∷ all) met = absurd met
premises-there (p ∷ parts) [] met = absurd met
premises-there (p ∷ parts) (t ∷ all) met =
    let rest = premises-there parts all met.1 in
    let found = one_part p.sequent (premises_of parts) t all rest.premises met.0.drawn rest.are rest.weaker_all rest.stronger_all in
    record { premises = found.0; are = found.1; weaker_all = found.2; stronger_all = found.3 }

pub theorem-roomy : (found : Option Sequent) (t : Theorem) → IsDrawn found (Ok t) → are_roomy (terms_of_sequent found) ≡ true → are_roomy (terms_of_theorem t) ≡ true
theorem-roomy None t drawn roomy = absurd drawn
theorem-roomy (Some s) t drawn roomy = roomy-alike (Some s) (Some (sequent_of_theorem t)) (stronger s t drawn) (weaker s t drawn) roomy

theorems-roomy : (parts : List Expected) (all : List Theorem) → AllMeet parts all → have_room parts ≡ true → AreRoomy all
theorems-roomy [] [] met room = tt
theorems-roomy [] (t ∷ all) met room = absurd met
theorems-roomy (p ∷ parts) [] met room = absurd met
theorems-roomy (p ∷ parts) (t ∷ all) met room = (
  theorem-roomy p.sequent t met.0.drawn (met.0.roomy (first_of_both p.has_room (have_room parts) room)),
  theorems-roomy parts all met.1 (second_of_both p.has_room (have_room parts) room),
)

-- what a rule takes and draws leaves room

taken-roomy : (theory : Theory) (rule : InferenceRule) (parts : List Expected) → (expected_by theory rule parts).has_room ≡ true
    → (are_roomy (terms_of_rule rule) && are_roomy (terms_of_sequent (drawn_from theory rule parts))) ≡ true
taken-roomy theory rule parts room =
    sym (list_all-append is_roomy (terms_of_rule rule) (terms_of_sequent (drawn_from theory rule parts)))
    ∙ first_of_both (are_roomy (terms_of_rule rule ++ terms_of_sequent (drawn_from theory rule parts))) (have_room parts) room

drawn-roomy : (theory : Theory) (rule : InferenceRule) (parts : List Expected) → (expected_by theory rule parts).has_room ≡ true → are_roomy (terms_of_sequent (drawn_from theory rule parts)) ≡ true
drawn-roomy theory rule parts room = second_of_both (are_roomy (terms_of_rule rule)) (are_roomy (terms_of_sequent (drawn_from theory rule parts))) (taken-roomy theory rule parts room)

parts-roomy : (theory : Theory) (rule : InferenceRule) (parts : List Expected) → (expected_by theory rule parts).has_room ≡ true → have_room parts ≡ true
parts-roomy theory rule parts room = second_of_both (are_roomy (terms_of_rule rule ++ terms_of_sequent (drawn_from theory rule parts))) (have_room parts) room

-- a rule on the theorems of its parts
rule-met : (theory : Theory) (rule : InferenceRule) (parts : List Expected) (all : List Theorem) (result : Result Theorem Fault) → AllMeet parts all
    → IsDrawn (rule_sequent theory rule (map sequent_of_theorem all)) result → FindsRoom theory rule all result → Meets (expected_by theory rule parts) result
rule-met theory rule parts all result met drawn finds =
    let there = premises-there parts all met in
    let weak = rules-monotone theory rule (map sequent_of_theorem all) there.premises there.weaker_all in
    let strong = rules-monotone theory rule there.premises (map sequent_of_theorem all) there.stronger_all in
    let is : drawn_from theory rule parts ≡ rule_sequent theory rule there.premises = ap (λ (found : Option (List Sequent)). given found (rule_sequent theory rule)) there.are in
    record {
      drawn = subst (λ (found : Option Sequent). IsDrawn found result) (sym is)
          (alike-drawn (rule_sequent theory rule (map sequent_of_theorem all)) (rule_sequent theory rule there.premises) result weak strong drawn);
      fits = λ room. finds.finds (record {
        taken = first_of_both (are_roomy (terms_of_rule rule)) (are_roomy (terms_of_sequent (drawn_from theory rule parts))) (taken-roomy theory rule parts room);
        premises_roomy = theorems-roomy parts all met (parts-roomy theory rule parts room);
        drawn = roomy-alike (rule_sequent theory rule there.premises) (rule_sequent theory rule (map sequent_of_theorem all)) strong weak
            (subst (λ (found : Option Sequent). are_roomy (terms_of_sequent found) ≡ true) is (drawn-roomy theory rule parts room));
      });
      roomy = λ room. drawn-roomy theory rule parts room;
    }

-- what stands at a place

met-at : (expects : Justification → Expected) (trees : List Justification) (answers : List LineAnswer) (place : ℕ) (answer : LineAnswer) → AreMet expects trees answers
    → slice_get answers place ≡ Some answer → Meets (expects (cited trees place)) (result_of answer)
met-at expects [] [] place answer met there = cc
met-at expects [] (x ∷ answers) place answer met there = absurd met
met-at expects (tree ∷ trees) [] place answer met there = absurd met
met-at expects (tree ∷ trees) (x ∷ answers) zero answer met there = let same : x ≡ answer = cc in subst (λ (a : LineAnswer). Meets (expects tree) (result_of a)) same met.0
met-at expects (tree ∷ trees) (x ∷ answers) (suc place) answer met there = met-at expects trees answers place answer met.1 there

held-at : (journal : Journal) (answers : List LineAnswer) (place : ℕ) (answer : LineAnswer) → AreHeldLines journal answers → slice_get answers place ≡ Some answer → IsHeldLine journal answer
held-at journal [] place answer held there = cc
held-at journal (x ∷ answers) zero answer held there = let same : x ≡ answer = cc in subst (λ (a : LineAnswer). IsHeldLine journal a) same held.0
held-at journal (x ∷ answers) (suc place) answer held there = held-at journal answers place answer held.1 there

pub premise-met : (expects : Justification → Expected) (trees : List Justification) (answers : List LineAnswer) (place : ℕ) (answer : LineAnswer)
    → place < length answers → answer ≡ get_or answers place answer
    → AreMet expects trees answers → IsPremise expects trees place answer
premise-met expects trees answers place answer within is met = record { met = met-at expects trees answers place answer met (slice_get_read answers (length answers) place answer refl within is) }

pub premise-held : (journal : Journal) (answers : List LineAnswer) (place : ℕ) (answer : LineAnswer) → place < length answers
    → answer ≡ get_or answers place answer → AreHeldLines journal answers → IsHeldLine journal answer
premise-held journal answers place answer within is held = held-at journal answers place answer held (slice_get_read answers (length answers) place answer refl within is)

-- what a rule comes to with the parts at places

pub continued-line : (old new : Journal) (outcome : Result Recorded Fault) (result : Result LineAnswer Fault) → Continues old new outcome
    → ((journal : Journal) → IfOk outcome (IsHeld journal) → IfOk result (IsHeldLine journal)) → ContinuesLine old new result
continued-line old new outcome result continues held = record { grown = continues.grown; theory = continues.theory; held = held new continues.held }

-- the places of the parts, and their theorems
pub from-all : (theory : Theory) (rule : InferenceRule) (expects : Justification → Expected) (trees : List Justification) (places : List ℕ) (all : List Theorem) (result : Result LineAnswer Fault)
    → AllMeet (expected_at expects trees places) all → IfOk result (Applies theory rule all) → IfOk result (IsMetFrom theory rule expects trees places)
from-all theory rule expects trees places all (Err fault) met applies = tt
from-all theory rule expects trees places all (Ok answer) met applies =
    record { met = rule-met theory rule (expected_at expects trees places) all (result_of answer) met applies.drawn applies.finds }

pub none-meet : (expects : Justification → Expected) (trees : List Justification) (places : List ℕ) → length places ≡ 0 → AllMeet (expected_at expects trees places) []
none-meet expects trees [] many = tt
none-meet expects trees (p ∷ places) many = absurd (omega (arith, many))

pub one-meets : (expects : Justification → Expected) (trees : List Justification) (places : List ℕ) (a : Recorded) → length places ≡ 1 → IsPremise expects trees (get_or places 0 0) (Made a)
    → AllMeet (expected_at expects trees places) (a.theorem ∷ [])
one-meets expects trees [] a many first = absurd (omega (arith, many))
one-meets expects trees (p ∷ q ∷ places) a many first = absurd (omega (arith, many))
one-meets expects trees (p ∷ []) a many first = (first.met, tt)

pub two-meet : (expects : Justification → Expected) (trees : List Justification) (places : List ℕ) (a b : Recorded) → length places ≡ 2 → IsPremise expects trees (get_or places 0 0) (Made a)
    → IsPremise expects trees (get_or places 1 0) (Made b) → AllMeet (expected_at expects trees places) (a.theorem ∷ b.theorem ∷ [])
two-meet expects trees [] a b many first second = absurd (omega (arith, many))
two-meet expects trees (p ∷ []) a b many first second = absurd (omega (arith, many))
two-meet expects trees (p ∷ q ∷ r ∷ places) a b many first second = absurd (omega (arith, many))
two-meet expects trees (p ∷ q ∷ []) a b many first second = (first.met, (second.met, tt))

pub three-meet : (expects : Justification → Expected) (trees : List Justification) (places : List ℕ) (a b c : Recorded) → length places ≡ 3 → IsPremise expects trees (get_or places 0 0) (Made a)
    → IsPremise expects trees (get_or places 1 0) (Made b) → IsPremise expects trees (get_or places 2 0) (Made c) → AllMeet (expected_at expects trees places) (a.theorem ∷ b.theorem ∷ c.theorem ∷ [])
three-meet expects trees [] a b c many first second third = absurd (omega (arith, many))
three-meet expects trees (p ∷ []) a b c many first second third = absurd (omega (arith, many))
three-meet expects trees (p ∷ q ∷ []) a b c many first second third = absurd (omega (arith, many))
three-meet expects trees (p ∷ q ∷ r ∷ s ∷ places) a b c many first second third = absurd (omega (arith, many))
three-meet expects trees (p ∷ q ∷ r ∷ []) a b c many first second third = (first.met, (second.met, (third.met, tt)))

-- a part without a theorem

premises-lost : (expects : Justification → Expected) (trees : List Justification) (places : List ℕ) (at : ℕ) → at < length places
    → (expects (cited trees (get_or places at 0))).sequent ≡ None → premises_of (expected_at expects trees places) ≡ None
premises-lost expects trees [] at within none = absurd (omega arith)
premises-lost expects trees (p ∷ places) zero within none = rw none refl
premises-lost expects trees (p ∷ places) (suc at) within none = rw (premises-lost expects trees places at (omega arith) none) (lost (expects (cited trees p)).sequent)
  where
    lost : (first : Option Sequent) → joined first None ≡ None
    lost None = refl
    lost (Some s) = refl

part-room : (expects : Justification → Expected) (trees : List Justification) (places : List ℕ) (at : ℕ) → at < length places
    → have_room (expected_at expects trees places) ≡ true → (expects (cited trees (get_or places at 0))).has_room ≡ true
part-room expects trees [] at within room = absurd (omega arith)
part-room expects trees (p ∷ places) zero within room = first_of_both (expects (cited trees p)).has_room (have_room (expected_at expects trees places)) room
part-room expects trees (p ∷ places) (suc at) within room =
    part-room expects trees places at (omega arith)
    (second_of_both (expects (cited trees p)).has_room (have_room (expected_at expects trees places)) room)

broken-drawn : (a whole : Option Sequent) (answer : LineAnswer) → IsBroken answer → IsDrawn a (result_of answer) → (a ≡ None → whole ≡ None) → IsDrawn whole (result_of answer)
broken-drawn a whole (Made made) broken drawn lost = absurd broken
broken-drawn a whole Large broken drawn lost = too-large whole
broken-drawn None whole Invalid broken drawn lost = rw (lost refl) tt
broken-drawn (Some s) whole Invalid broken (inl is) lost = cc
broken-drawn (Some s) whole Invalid broken (inr is) lost = cc

pub from-broken : (theory : Theory) (rule : InferenceRule) (expects : Justification → Expected) (trees : List Justification) (places : List ℕ) (at : ℕ) (answer : LineAnswer)
    → at < length places → IsBroken answer → IsPremise expects trees (get_or places at 0) answer → IsMetFrom theory rule expects trees places answer
from-broken theory rule expects trees places at answer within broken first =
    let parts = expected_at expects trees places in
    record {
      met = record {
        drawn = broken-drawn (expects (cited trees (get_or places at 0))).sequent (drawn_from theory rule parts) answer broken first.met.drawn
            (λ none. ap (λ (premises : Option (List Sequent)). given premises (rule_sequent theory rule)) (premises-lost expects trees places at within none));
        fits = λ room. first.met.fits (part-room expects trees places at within (parts-roomy theory rule parts room));
        roomy = λ room. drawn-roomy theory rule parts room;
      };
    }

-- too many parts

joined-many : (first : Option Sequent) (rest : Option (List Sequent)) (n : ℕ) → ((ss : List Sequent) → rest ≡ Some ss → length ss ≡ n)
    → (ss : List Sequent) → joined first rest ≡ Some ss → length ss ≡ suc n
joined-many None rest n each ss is = cc
joined-many (Some s) None n each ss is = cc
joined-many (Some s) (Some ts) n each ss is =
    let same : s ∷ ts ≡ ss = cc in let many = each ts refl in subst (λ (l : List Sequent). length l ≡ suc n) same (omega (arith, many))

premises-many : (expects : Justification → Expected) (trees : List Justification) (places : List ℕ) (ss : List Sequent)
    → premises_of (expected_at expects trees places) ≡ Some ss → length ss ≡ length places
premises-many expects trees [] ss is = let same : [] ≡ ss = cc in subst (λ (l : List Sequent). length l ≡ 0) same refl
premises-many expects trees (p ∷ places) ss is =
    joined-many (expects (cited trees p)).sequent (premises_of (expected_at expects trees places)) (length places)
    (premises-many expects trees places) ss is

too-many-sequents : (theory : Theory) (rule : InferenceRule) (ss : List Sequent) → 3 < length ss → rule_sequent theory rule ss ≡ None
too-many-sequents theory rule [] many = absurd (omega arith)
too-many-sequents theory rule (a ∷ []) many = absurd (omega arith)
too-many-sequents theory rule (a ∷ b ∷ []) many = absurd (omega arith)
too-many-sequents theory rule (a ∷ b ∷ c ∷ []) many = absurd (omega arith)
too-many-sequents theory rule (a ∷ b ∷ c ∷ d ∷ rest) many = rw (none_of_four theory rule a.conclusion b.conclusion c.conclusion d.conclusion (map (λ s. s.conclusion) rest)) refl

pub from-many : (theory : Theory) (rule : InferenceRule) (expects : Justification → Expected) (trees : List Justification) (places : List ℕ)
    → 3 < length places → IsMetFrom theory rule expects trees places Invalid
from-many theory rule expects trees places many = record {
  met = record {
    drawn = rw (go (premises_of (expected_at expects trees places)) refl) tt;
    fits = λ room. never-large;
    roomy = λ room.
        drawn-roomy theory rule (expected_at expects trees places) room;
  };
}
  where
    go : (found : Option (List Sequent)) → premises_of (expected_at expects trees places) ≡ found → given found (rule_sequent theory rule) ≡ None
    go None is = refl
    go (Some ss) is = let same = premises-many expects trees places ss is in too-many-sequents theory rule ss (omega (arith, many, same))

-- places among the lines

pub ruleset continued = (continued-line)

pub kept-from : (theory : Theory) (rule : InferenceRule) (expects : Justification → Expected) (trees : List Justification) (places : List ℕ) (answer : LineAnswer) (result : Result LineAnswer Fault)
    → result ≡ Ok answer → IsMetFrom theory rule expects trees places answer → IfOk result (IsMetFrom theory rule expects trees places)
kept-from theory rule expects trees places answer result is drawn = rw is drawn

-- what a line names

pub named-made : (made copy : Recorded) → copy ≡ made → IsNamed (Some made) (Made copy)
named-made made copy is = rw is (record { drawn = record { same_set = record { to = λ x m. m; back = λ x m. m }; concludes = refl }; fits = tt })

pub named-none : IsNamed None Invalid
named-none = record { drawn = tt; fits = never-large }

pub ruleset naming = (named-made, named-none, same-grown)

leaf-met : (expected : Expected) (found : Option Recorded) (result : Result LineAnswer Fault) → sequent_found found ≡ expected.sequent
    → (expected.has_room ≡ true → are_roomy (terms_of_sequent expected.sequent) ≡ true)
    → IfOk result (IsNamed found) → IfOk result (λ answer. Meets expected (result_of answer))
leaf-met expected found (Err fault) is roomy comes = tt
leaf-met expected found (Ok answer) is roomy comes = record {
  drawn = subst (λ (s : Option Sequent). IsDrawn s (result_of answer)) is comes.drawn;
  fits = λ room. comes.fits;
  roomy = roomy;
}

listed : (all : List Recorded) (at : ℕ) (found : Option Recorded) → found ≡ slice_get all at → sequent_found found ≡ slice_get (sequents_of all) at
listed all at found is =
    ap sequent_found is ∙ ap (option_map sequent_of_theorem) (sym (slice_get-map (λ (made : Recorded). made.theorem) all at))
    ∙ sym (slice_get-map sequent_of_theorem (map (λ (made : Recorded). made.theorem) all) at)

pub sub-met : (theory : Theory) (stored : Stored) (subgoals : List Recorded) (at : ℕ) (found : Option Recorded) (result : Result LineAnswer Fault)
    → found ≡ slice_get subgoals at → IfOk result (IsNamed found)
    → IfOk result (λ answer. Meets (expected_in theory stored subgoals (sub at)) (result_of answer))
sub-met theory stored subgoals at found result is comes = leaf-met (expected_in theory stored subgoals (sub at)) found result (listed subgoals at found is) (λ room. room) comes

pub lemma-met : (theory : Theory) (stored : Stored) (subgoals : List Recorded) (at : ℕ) (found : Option Recorded) (result : Result LineAnswer Fault)
    → found ≡ slice_get stored.lemmas at → IfOk result (IsNamed found)
    → IfOk result (λ answer. Meets (expected_in theory stored subgoals (lemma at)) (result_of answer))
lemma-met theory stored subgoals at found result is comes = leaf-met (expected_in theory stored subgoals (lemma at)) found result (listed stored.lemmas at found is) (λ room. room) comes

pub stored-met : (theory : Theory) (stored : Stored) (subgoals : List Recorded) (name asked : List ℕ) (found : Option Recorded)
    (result : Result LineAnswer Fault) → found ≡ stored.theorems asked → asked ≡ name → IfOk result (IsNamed found)
    → IfOk result (λ answer. Meets (expected_in theory stored subgoals (named name)) (result_of answer))
stored-met theory stored subgoals name asked found result is same comes =
    leaf-met (expected_in theory stored subgoals (named name)) found result (ap sequent_found is ∙ ap (λ (n : List ℕ). sequent_found (stored.theorems n)) same) (λ room. room) comes

-- what is expected of a rule and the lines that it cites

premises-are : (theory : Theory) (stored : Stored) (subgoals : List Recorded) (trees : List Justification) (places : List ℕ)
    → premises_of (expected_at (expected_in theory stored subgoals) trees places) ≡ sequents_over theory (named_sequents stored) (slice_get (sequents_of subgoals)) (cited_parts trees places)
premises-are theory stored subgoals trees [] = refl
premises-are theory stored subgoals trees (place ∷ places) =
    ap (joined (sequent_over theory (named_sequents stored) (slice_get (sequents_of subgoals)) (cited trees place))) (premises-are theory stored subgoals trees places)

rooms-are : (theory : Theory) (stored : Stored) (subgoals : List Recorded) (trees : List Justification) (places : List ℕ)
    → have_room (expected_at (expected_in theory stored subgoals) trees places) ≡ have_room_over theory (named_sequents stored) (slice_get (sequents_of subgoals)) (cited_parts trees places)
rooms-are theory stored subgoals trees [] = refl
rooms-are theory stored subgoals trees (place ∷ places) =
    ap (λ (rest : Bool). has_room_over theory (named_sequents stored) (slice_get (sequents_of subgoals)) (cited trees place) && rest) (rooms-are theory stored subgoals trees places)

expected-is : (theory : Theory) (stored : Stored) (subgoals : List Recorded) (rule : InferenceRule) (trees : List Justification) (places : List ℕ)
    → expected_by theory rule (expected_at (expected_in theory stored subgoals) trees places) ≡ expected_in theory stored subgoals (by_rule rule (cited_parts trees places))
expected-is theory stored subgoals rule trees places = λ i. record {
  sequent = given (premises-are theory stored subgoals trees places i) (rule_sequent theory rule);
  has_room = are_roomy (terms_of_rule rule
      ++ terms_of_sequent (given (premises-are theory stored subgoals trees places i) (rule_sequent theory rule)))
      && rooms-are theory stored subgoals trees places i;
}

pub rule-line-met : (theory : Theory) (stored : Stored) (subgoals : List Recorded) (rule : InferenceRule) (trees : List Justification) (places : List ℕ) (result : Result LineAnswer Fault)
    → IfOk result (IsMetFrom theory rule (expected_in theory stored subgoals) trees places)
    → IfOk result (λ answer. Meets (expected_in theory stored subgoals (by_rule rule (cited_parts trees places))) (result_of answer))
rule-line-met theory stored subgoals rule trees places (Err fault) from = tt
rule-line-met theory stored subgoals rule trees places (Ok answer) from = subst (λ (e : Expected). Meets e (result_of answer)) (expected-is theory stored subgoals rule trees places) from.met

-- what stays as the journal grows

pub store-stays : (old new : Journal) (stored : Stored) → IsGrown old new → IsStoreOf old stored → IsStoreOf new stored
store-stays old new stored grown is =
    record {
      theorems = λ name r there. journals-grow.stays old new r grown (is.theorems name r there);
      lemmas = λ number r there.
          journals-grow.stays old new r grown (is.lemmas number r there);
    }

lines-stay : (old new : Journal) (answers : List LineAnswer) → IsGrown old new → AreHeldLines old answers → AreHeldLines new answers
lines-stay old new [] grown held = tt
lines-stay old new (Made made ∷ answers) grown held = (journals-grow.stays old new made grown held.0, lines-stay old new answers grown held.1)
lines-stay old new (Invalid ∷ answers) grown held = (tt, lines-stay old new answers grown held.1)
lines-stay old new (Large ∷ answers) grown held = (tt, lines-stay old new answers grown held.1)

one-more-held : (journal : Journal) (answers : List LineAnswer) (answer : LineAnswer) → AreHeldLines journal answers → IsHeldLine journal answer → AreHeldLines journal (answers ++ answer ∷ [])
one-more-held journal [] answer held one = (one, tt)
one-more-held journal (x ∷ answers) answer held one = (held.0, one-more-held journal answers answer held.1 one)

one-more-met : (expects : Justification → Expected) (trees : List Justification) (answers : List LineAnswer) (tree : Justification)
    (answer : LineAnswer) → AreMet expects trees answers → Meets (expects tree) (result_of answer)
    → AreMet expects (trees ++ tree ∷ []) (answers ++ answer ∷ [])
one-more-met expects [] [] tree answer drawn one = (one, tt)
one-more-met expects [] (x ∷ answers) tree answer drawn one = absurd drawn
one-more-met expects (t ∷ trees) [] tree answer drawn one = absurd drawn
one-more-met expects (t ∷ trees) (x ∷ answers) tree answer drawn one = (drawn.0, one-more-met expects trees answers tree answer drawn.1 one)

-- one line more
pub one-line : (old now new : Journal) (expects : Justification → Expected) (line : FlatLine) (left all : List FlatLine) (answers : List LineAnswer) (answer : LineAnswer)
    → IsReplaying old now expects (line ∷ left) all answers → ContinuesLine now new (Ok answer)
    → ((trees : List Justification) → AreMet expects trees answers → Meets (expects (tree_of_line trees line)) (result_of answer))
    → IsReplaying old new expects left all (answers ++ answer ∷ [])
one-line old now new expects line left all answers answer is continues drawn =
    record {
      grown = journals-grow.twice old now new is.grown continues.grown;
      theory = continues.theory ∙ is.theory;
      held = one-more-held new answers answer (lines-stay now new answers continues.grown is.held) continues.held;
      cite = let longer : suc (length answers) ≡ length (answers ++ answer ∷ []) = (let many = length-append answers (answer ∷ []) in omega (arith, many)) in
          subst (λ (n : ℕ). cite_earlier n left ≡ true) longer (second_of_both (cites_below (length answers) line) (cite_earlier (suc (length answers)) left) is.cite);
      replayed = record {
        trees = is.replayed.trees ++ tree_of_line is.replayed.trees line ∷ [];
        are = is.replayed.are;
        met = one-more-met expects is.replayed.trees answers (tree_of_line is.replayed.trees line) answer is.replayed.met (drawn is.replayed.trees is.replayed.met);
      };
    }

here : (lines : List Line) (at : ℕ) (line : Line) → at < length lines → line ≡ get_or lines at line → drop at lines ≡ line ∷ drop (at + 1) lines
here lines at line within is =
    let next : suc at ≡ at + 1 = omega arith in drop-cons lines at line within ∙ (λ i. sym is i ∷ drop (next i) lines)

-- one line more, at a place of the lines
pub line-at : (old now new : Journal) (expects : Justification → Expected) (lines : List Line) (at : ℕ) (line : Line) (answers : List LineAnswer)
    (answer : LineAnswer) → at < length lines → line ≡ get_or lines at line
    → IsReplaying old now expects (flat_lines (drop at lines)) (flat_lines lines) answers → ContinuesLine now new (Ok answer)
    → ((trees : List Justification) → AreMet expects trees answers → Meets (expects (tree_of_line trees (flat_line line))) (result_of answer))
    → IsReplaying old new expects (flat_lines (drop (at + 1) lines)) (flat_lines lines) (answers ++ answer ∷ [])
line-at old now new expects lines at line answers answer within is replaying continues drawn =
    one-line old now new expects (flat_line line) (flat_lines (drop (at + 1) lines)) (flat_lines lines) answers answer
    (subst (λ (left : List Line). IsReplaying old now expects (flat_lines left) (flat_lines lines) answers) (here lines at line within is) replaying) continues drawn

pub line-cites : (old now : Journal) (expects : Justification → Expected) (lines : List Line) (at : ℕ) (line : Line) (answers : List LineAnswer) → at < length lines → line ≡ get_or lines at line
    → IsReplaying old now expects (flat_lines (drop at lines)) (flat_lines lines) answers → cites_below (length answers) (flat_line line) ≡ true
line-cites old now expects lines at line answers within is replaying =
    let here_is = subst (λ (left : List Line). cite_earlier (length answers) (flat_lines left) ≡ true) (here lines at line within is) replaying.cite in
    first_of_both (cites_below (length answers) (flat_line line)) (cite_earlier (suc (length answers)) (flat_lines (drop (at + 1) lines))) here_is

met-length : (expects : Justification → Expected) (trees : List Justification) (answers : List LineAnswer) → AreMet expects trees answers → length trees ≡ length answers
met-length expects [] [] drawn = refl
met-length expects [] (x ∷ answers) drawn = absurd drawn
met-length expects (t ∷ trees) [] drawn = absurd drawn
met-length expects (t ∷ trees) (x ∷ answers) drawn = ap suc (met-length expects trees answers drawn.1)

-- the line that stands for the whole is there
pub root-there : (old now : Journal) (expects : Justification → Expected) (just : Just) (lines : List Line) (answers : List LineAnswer) → flat_lines lines ≡ (flat_of just).lines
    → IsReplaying old now expects [] (flat_lines lines) answers → (flat_of just).root < length answers
root-there old now expects just lines answers are replaying =
    let well = well_cited just in
    let root = well.root in
    let many = length-trees_after [] (flat_of just).lines in
    let same : length replaying.replayed.trees ≡ length (trees_after [] (flat_of just).lines) = ap length (replaying.replayed.are ∙ ap (trees_after []) are) in
    let each = met-length expects replaying.replayed.trees answers replaying.replayed.met in
    omega (arith, root, many, same, each)

tree-roomy : (theory : Theory) (stored : Stored) (subgoals : List Recorded) (tree : Justification)
    → (expected_in theory stored subgoals tree).has_room ≡ true
    → are_roomy (terms_of_sequent (expected_in theory stored subgoals tree).sequent) ≡ true
tree-roomy theory stored subgoals (sub i) room = room
tree-roomy theory stored subgoals (named name) room = room
tree-roomy theory stored subgoals (lemma k) room = room
tree-roomy theory stored subgoals (by_rule rule parts) room =
    let found = sequent_over theory (named_sequents stored) (slice_get (sequents_of subgoals)) (by_rule rule parts) in
    second_of_both (are_roomy (terms_of_rule rule)) (are_roomy (terms_of_sequent found))
    (sym (list_all-append is_roomy (terms_of_rule rule) (terms_of_sequent found))
    ∙ first_of_both (are_roomy (terms_of_rule rule ++ terms_of_sequent found)) (have_room_over theory (named_sequents stored) (slice_get (sequents_of subgoals)) parts) room)

-- there is no memory for the lines
pub unmade-met : (theory : Theory) (stored : Stored) (subgoals : List Recorded) (tree : Justification) (fault : Fault) → fault ≡ Memory → Meets (expected_in theory stored subgoals tree) (Err fault)
unmade-met theory stored subgoals tree fault memory =
    record { drawn = lost (expected_in theory stored subgoals tree).sequent; fits = λ room. λ large. cc; roomy = λ room. tree-roomy theory stored subgoals tree room }
  where
    lost : (found : Option Sequent) → IsDrawn found (Err fault)
    lost None = tt
    lost (Some sequent) = inl memory

-- what a replay answers
pub replay-answers : (expected : Expected) (result : Result Recorded Fault) → Meets expected (theorem_in result) → IfErr result IsReplayRefusal
    → AnswersReplay expected.has_room expected.sequent (theorem_in result)
replay-answers expected result met refusals = go expected.has_room expected.sequent (theorem_in result) met.drawn met.fits (moved result refusals)
  where
    moved : (result : Result Recorded Fault) → IfErr result IsReplayRefusal → IfErr (theorem_in result) IsReplayRefusal
    moved (Ok made) refusal = tt
    moved (Err fault) refusal = refusal

    want : (room : Bool) (fault : Fault) → (room ≡ true → IsNotLarge {A = Theorem} (Err fault)) → (fault ≡ Memory) ⊎ (fault ≡ TooLarge) → IsWant fault room
    want room fault fits (inl memory) = inl memory
    want true fault fits (inr large) = absurd (fits refl large)
    want false fault fits (inr large) = inr (large, refl)

    go : (room : Bool) (found : Option Sequent) (result : Result Theorem Fault) → IsDrawn found result → (room ≡ true → IsNotLarge result)
        → IfErr result IsReplayRefusal → AnswersReplay room found result
    go room (Some s) (Ok theorem) drawn fits refusal = record { hypotheses = record { to = drawn.same_set.back; back = drawn.same_set.to }; conclusion = drawn.concludes }
    go room (Some s) (Err fault) drawn fits refusal = want room fault fits drawn
    go room None (Ok theorem) drawn fits refusal = absurd drawn
    go room None (Err fault) drawn fits (inl invalid) = inl invalid
    go room None (Err fault) drawn fits (inr is) = inr (want room fault fits is)

-- what the answer of a replay says
pub answers-drawn : (room : Bool) (found : Option Sequent) (result : Result Theorem Fault) → AnswersReplay room found result → IsDrawn found result
answers-drawn room (Some s) (Ok theorem) has = record { same_set = record { to = has.hypotheses.back; back = has.hypotheses.to }; concludes = has.conclusion }
answers-drawn room (Some s) (Err fault) (inl memory) = inl memory
answers-drawn room (Some s) (Err fault) (inr large) = inr large.0
answers-drawn room None (Ok theorem) none = absurd none
answers-drawn room None (Err fault) refusal = tt

want-fits : (room : Bool) (fault : Fault) → IsWant fault room → room ≡ true → fault ≡ TooLarge → ⊥
want-fits room fault (inl memory) roomy is = cc
want-fits room fault (inr large) roomy is = let none = large.1 in cc

pub answers-fit : (room : Bool) (found : Option Sequent) (result : Result Theorem Fault) → AnswersReplay room found result → room ≡ true → IsNotLarge result
answers-fit room found (Ok theorem) answers roomy = tt
answers-fit room (Some s) (Err fault) want roomy = want-fits room fault want roomy
answers-fit room None (Err fault) (inl invalid) roomy = λ is. cc
answers-fit room None (Err fault) (inr want) roomy = want-fits room fault want roomy

pub answers-refusal : (room : Bool) (found : Option Sequent) (fault : Fault) → AnswersReplay room found (Err fault) → IsReplayRefusal fault
answers-refusal room (Some s) fault (inl memory) = inr (inl memory)
answers-refusal room (Some s) fault (inr large) = inr (inr large.0)
answers-refusal room None fault (inl invalid) = inl invalid
answers-refusal room None fault (inr (inl memory)) = inr (inl memory)
answers-refusal room None fault (inr (inr large)) = inr (inr large.0)

-- the next line
pub line-next : (old now new : Journal) (stored : Stored) (subgoals : List Recorded) (lines : List Line) (at : ℕ) (line : Line)
    (answers more : List LineAnswer) (answer : LineAnswer) → at < length lines → line ≡ get_or lines at line
    → IsReplaying old now (expected_in old.theory stored subgoals) (flat_lines (drop at lines)) (flat_lines lines) answers → ContinuesLine now new (Ok answer)
    → ((trees : List Justification) → AreMet (expected_in now.theory stored subgoals) trees answers
    → Meets (expected_in now.theory stored subgoals (tree_of_line trees (flat_line line))) (result_of answer))
    → more ≡ answers ++ answer ∷ [] → IsReplaying old new (expected_in old.theory stored subgoals) (flat_lines (drop (at + 1) lines)) (flat_lines lines) more
line-next old now new stored subgoals lines at line answers more answer within is replaying continues drawn more_is =
    rw more_is (line-at old now new (expected_in old.theory stored subgoals) lines at line answers answer within is replaying continues
    (subst (λ (theory : Theory). (trees : List Justification) → AreMet (expected_in theory stored subgoals) trees answers
    → Meets (expected_in theory stored subgoals (tree_of_line trees (flat_line line))) (result_of answer)) replaying.theory drawn))
