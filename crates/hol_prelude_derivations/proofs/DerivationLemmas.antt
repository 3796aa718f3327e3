-- Derivations that stand as data: the journal after each step, and what an instance of a theorem is.
use Rattle.std.proofs.Common.{◌≡◌, ◌≤◌, ◌⊎◌, ℕ, zero, suc, length, nat_eq, List, [], ◌∷◌, ◌++◌, map, true, refl, sym, ◌∙◌, ap, subst, inl, inr}
use Rattle.std.proofs.Common.{Some, None, Result, Ok, Err, IfOk, OnErr, append-nil}
use Rattle.hol_model.specs.declared.fault.Fault.{Fault}
use Rattle.hol_model.specs.declared.fault.Fault.TheVariants.{BadShape, NotBool, NotEquation, NotAlpha}
use Rattle.hol_model.specs.Terms.HolType.{HolType}
use Rattle.hol_model.specs.Terms.NamedTerm.{NamedTerm}
use Rattle.hol_model.specs.Logic.Theory.{Theory}
use Rattle.hol_model.specs.Kernel.Theorem.{Theorem, with_hypotheses}
use Rattle.hol_model.specs.Kernel.Outcome.{Answers, unless, given, refused}
use Rattle.hol_model.specs.Kernel.Rules.{dest_equation, refl_outcome}
use Rattle.hol_model.specs.Kernel.Rules.{eq_mp_outcome}
use Rattle.hol_model.specs.Kernel.Instantiation.{IsChanged, inst_refusal, inst_type_refusal, instantiate_all, IsInst, IsInstType}
use Rattle.hol_model.proofs.Logic.Earlier.{earlier-same}
use Rattle.hol_journal.specs.Steps.{Step}
use Rattle.hol_journal.specs.Journal.{Journal, Recorded, IsMade, IsRecorded}
use Rattle.hol_journal.specs.Growth.{IsGrown, Continues}
use Rattle.hol_journal.proofs.GrowthLemmas.{journals-grow}
use Rattle.std.specs.Prelude.{slice_get}
use Rattle.std.specs.Option.{option_map}
use Rattle.std.specs.Result.{IsErr}
use Rattle.std.proofs.lemmas.List.{nil_from_length}
use Rattle.std.proofs.lemmas.Bool.{eqb-true}
use Rattle.std.proofs.lemmas.Option.{slice_get-map, slice_get_past}
use Rattle.hol_model.specs.Terms.Nameless.{Nameless, image, same_term}
use Rattle.hol_model.specs.Terms.Substitution.{put_all}
use Rattle.hol_journal.proofs.Showing.{answered}
use Rattle.hol_prelude_derivations.specs.declared.sketch.TypeSketch.{TypeSketch}
use Rattle.hol_prelude_derivations.specs.declared.sketch.TermSketch.{TermSketch}
use Rattle.hol_prelude_derivations.specs.Sketches.{followed, type_outcome, term_outcome}
use Rattle.hol_prelude_derivations.specs.Derivations.{GoesOn, AreMade, theorems, renamed, inst_of, inst_type_of}

-- the journal after a call

pub unchanged : (journal : Journal) (fault : Fault) → GoesOn journal journal (Err fault)
unchanged journal fault = record {
  grown = record { added = []; entries = sym (append-nil journal.entries); earlier = earlier-same journal.theory journal.theory refl };
  theory = refl;
  made = tt;
}

pub unchanged-err : (journal : Journal) (result : Result Recorded Fault) → IsErr result → GoesOn journal journal result
unchanged-err journal (Ok made) is = cc
unchanged-err journal (Err fault) is = unchanged journal fault

pub handed_out-copy : (journal : Journal) (result : Result Recorded Fault) (made : Recorded) → IsMade journal made → IfOk result (λ copy. copy ≡ made) → GoesOn journal journal result
handed_out-copy journal (Ok copy) made is same =
    record { grown = (unchanged journal NotBool).grown; theory = refl; made = subst (IsMade journal) (sym same) is }
handed_out-copy journal (Err fault) made is same = unchanged journal fault

-- what an inference answers goes on
pub inference_goes_on : (result : Result Recorded Fault) (old new : Journal) → Continues old new result → GoesOn old new result
inference_goes_on (Ok made) old new continues = record { grown = continues.grown; theory = continues.theory; made = continues.held.made }
inference_goes_on (Err fault) old new continues = record { grown = continues.grown; theory = continues.theory; made = tt }

pub still_made : (old new : Journal) (result : Result Recorded Fault) (made : Recorded) → GoesOn old new result → IsMade old made → IsMade new made
still_made old new result made goes_on is = journals-grow.stays old new made goes_on.grown is

pub still_all_made : (old new : Journal) (result : Result Recorded Fault) (all : List Recorded) → GoesOn old new result → AreMade old all → AreMade new all
still_all_made old new result all goes_on are = record { each = λ number made there. journals-grow.stays old new made goes_on.grown (are.each number made there) }

pub goes_on_twice : (first second third : Journal) (one two : Result Recorded Fault) → GoesOn first second one → GoesOn second third two → GoesOn first third two
goes_on_twice first second third one two before after = record {
  grown = journals-grow.twice first second third before.grown after.grown;
  theory = after.theory ∙ before.theory;
  made = after.made;
}

-- an instance of a theorem without hypotheses

none-map : (terms : List NamedTerm) → map image terms ≡ [] → terms ≡ []
none-map [] is = refl
none-map (term ∷ terms) is = cc

instance-renamed : (theory : Theory) (change : Nameless → Nameless) (theorem instance : Theorem) (conclusion : NamedTerm) → IsChanged theory change theorem instance
    → nat_eq (length theorem.hypotheses) 0 ≡ true
    → renamed theory (change (image theorem.conclusion)) conclusion ≡ followed (refl_outcome theory conclusion) (λ reflexive. eq_mp_outcome theory reflexive instance)
instance-renamed theory change theorem instance conclusion changed none =
    let empty : theorem.hypotheses ≡ [] = nil_from_length theorem.hypotheses (eqb-true (length theorem.hypotheses) 0 none) in
    let instances : changed.instances ≡ [] = none-map changed.instances (changed.images ∙ ap (λ hs. map change (map image hs)) empty) in
    let hypotheses : instance.hypotheses ≡ [] = changed.hypotheses ∙ ap (with_hypotheses []) instances in
    sym (λ i. followed (refl_outcome theory conclusion) (λ reflexive.
    given (dest_equation reflexive.conclusion) NotEquation (λ sides.
    unless (same_term (image sides.0) (changed.conclusion i)) NotAlpha
    (Ok (record { theory = theory; hypotheses = with_hypotheses reflexive.hypotheses (hypotheses i); conclusion = sides.1 })))))

pub inst-answers : (result : Result Theorem Fault) (theory mid : Theory) (new old conclusion : TermSketch) (n o c : NamedTerm) (theorem instance : Theorem)
    → term_outcome new ≡ Ok n → term_outcome old ≡ Ok o → term_outcome conclusion ≡ Ok c → nat_eq (length theorem.hypotheses) 0 ≡ true
    → inst_refusal theory ((n, o) ∷ []) theorem ≡ None → IsInst theory ((n, o) ∷ []) theorem instance → mid ≡ theory
    → Answers result (followed (refl_outcome mid c) (λ reflexive. eq_mp_outcome mid reflexive instance)) → Answers result (inst_of theory new old theorem conclusion)
inst-answers result theory mid new old conclusion n o c theorem instance is_new is_old is_conclusion none admitted changed same answers =
    subst (Answers result)
    (ap (λ t. followed (refl_outcome t c) (λ reflexive. eq_mp_outcome t reflexive instance)) same
    ∙ sym (instance-renamed theory (put_all ((n, o) ∷ [])) theorem instance c changed none)
    ∙ sym ((λ i. followed (is_new i) (λ n. followed (is_old i) (λ o. followed (is_conclusion i) (λ c.
    unless (none i) BadShape
    (refused (inst_refusal theory ((n, o) ∷ []) theorem)
    (renamed theory (put_all ((n, o) ∷ []) (image theorem.conclusion)) c))))))
    ∙ ap (λ refusal. refused refusal (renamed theory (put_all ((n, o) ∷ []) (image theorem.conclusion)) c)) admitted))
    answers

pub inst_type-answers : (result : Result Theorem Fault) (theory mid : Theory) (new old : TypeSketch) (conclusion : TermSketch) (n o : HolType) (c : NamedTerm) (theorem instance : Theorem)
    → type_outcome new ≡ Ok n → type_outcome old ≡ Ok o → term_outcome conclusion ≡ Ok c → nat_eq (length theorem.hypotheses) 0 ≡ true
    → inst_type_refusal theory ((n, o) ∷ []) theorem ≡ None → IsInstType theory ((n, o) ∷ []) theorem instance → mid ≡ theory
    → Answers result (followed (refl_outcome mid c) (λ reflexive. eq_mp_outcome mid reflexive instance)) → Answers result (inst_type_of theory new old theorem conclusion)
inst_type-answers result theory mid new old conclusion n o c theorem instance is_new is_old is_conclusion none admitted changed same answers =
    subst (Answers result)
    (ap (λ t. followed (refl_outcome t c) (λ reflexive. eq_mp_outcome t reflexive instance)) same
    ∙ sym (instance-renamed theory (instantiate_all ((n, o) ∷ [])) theorem instance c changed none)
    ∙ sym ((λ i. followed (is_new i) (λ n. followed (is_old i) (λ o. followed (is_conclusion i) (λ c.
    unless (none i) BadShape
    (refused (inst_type_refusal theory ((n, o) ∷ []) theorem)
    (renamed theory (instantiate_all ((n, o) ∷ []) (image theorem.conclusion)) c))))))
    ∙ ap (λ refusal. refused refusal (renamed theory (instantiate_all ((n, o) ∷ []) (image theorem.conclusion)) c)) admitted))
    answers

pub past_earlier : (all : List Recorded) (number : ℕ) → length all ≤ number → given (slice_get (theorems all) number) BadShape (λ theorem. answered theorem) ≡ Err BadShape
past_earlier all number past =
    ap (λ found. given found BadShape (λ theorem. answered theorem)) (slice_get-map (λ made. made.theorem) all number ∙ ap (option_map (λ made. made.theorem)) (slice_get_past all number past))

-- a definition

pub recorded-made : (result : Result Recorded Fault) (old new : Journal) (step : Step) → IfOk result (IsRecorded old new step) → IfOk result (IsMade new)
recorded-made (Ok made) old new step is = journals-grow.made old new step made is
recorded-made (Err fault) old new step is = tt

pub recorded-grown : (result : Result Recorded Fault) (old new : Journal) (step : Step) → IfOk result (IsRecorded old new step) → OnErr result (new ≡ old) → IsGrown old new
recorded-grown (Ok made) old new step is kept = journals-grow.grown old new step made is
recorded-grown (Err fault) old new step is kept = subst (IsGrown old) (sym kept) (unchanged old fault).grown

-- one more theorem that the recorder made

get-more : (all : List Recorded) (last : Recorded) (number : ℕ) (made : Recorded) → slice_get (all ++ last ∷ []) number ≡ Some made → (slice_get all number ≡ Some made) ⊎ (last ≡ made)
get-more [] last zero made is = inr cc
get-more [] last (suc number) made is = cc
get-more (first ∷ all) last zero made is = inl is
get-more (first ∷ all) last (suc number) made is = get-more all last number made is

pub one_more_made : (old new : Journal) (all : List Recorded) (last : Recorded) → IsGrown old new → AreMade old all → IsMade new last → AreMade new (all ++ last ∷ [])
one_more_made old new all last grown are is = record {
  each = λ number made there. elim (get-more all last number made there) [
    | inl earlier ↦ journals-grow.stays old new made grown (are.each number made earlier)
    | inr same ↦ subst (IsMade new) same is
  ];
}
