-- Theorems joined from the right, and ALL_CONV.
use Rattle.std.proofs.Common.{◌≡◌, ℕ, suc, List, [], ◌∷◌, ◌++◌, length, append-nil, inl, inr, refl, sym, ap, ◌∙◌, subst, if◌then◌else◌, Bool, true, false, Some, Result, Ok, Err, IfOk}
use Rattle.std.specs.List.{All}
use Rattle.std.proofs.lemmas.List.{map-append}
use Rattle.std.proofs.lemmas.List.Elements.{All-nil, All-weaker, All-push, All-pop}
use Rattle.hol_model.specs.declared.fault.Fault.{Fault}
use Rattle.hol_model.specs.declared.fault.Fault.TheVariants.{Memory, StepLimit}
use Rattle.hol_model.specs.Terms.NamedTerm.{NamedTerm, equation, is_within_limits}
use Rattle.hol_model.specs.Terms.Nameless.{image}
use Rattle.hol_model.specs.Logic.Theory.{Theory}
use Rattle.hol_model.specs.Logic.KnownTerm.{is_known}
use Rattle.hol_model.specs.Kernel.Theorem.{Theorem}
use Rattle.hol_model.specs.Kernel.Rules.{refl_outcome, trans_outcome}
use Rattle.hol_model.specs.Refining.Conversions.{is_caught}
use Rattle.hol_laws_refiners.specs.Laws.{IsEquationOf}
use Rattle.hol_laws_refiners.proofs.Repeating.{onto, joined_from, joined-last, joined-err}
use Rattle.hol_journal.specs.Journal.{Recorded, IsMade, theorem_in}
use Rattle.hol_journal.proofs.GrowthLemmas.{journals-grow}
use Rattle.hol_theorem_library.specs.Library.{IsContinued}
use Rattle.hol_theorem_library.specs.declared.library.Library.{Library}
use Rattle.hol_conv.specs.Makes.{StandsOn, Joins, IsRightSide}
use Rattle.hol_conv.specs.declared.converted.Converted.{Converted}
use Rattle.hol_conv.specs.declared.converted.Converted.TheVariants.{Changed}
use Rattle.hol_conv.specs.Converted.{same_theorem, theorem_of, answered, changed_by, IsMadeFor, IsAnswerOf}
use Rattle.hol_conv.proofs.Same.{roomy-refl, roomless-refl, same-joined, same-side}
use Rattle.hol_conv.specs.Chains.{Equates, LeadTo, lead_nowhere, theorems, proved_by, Reflects, without_step, by_refl}
use Rattle.hol_conv.specs.Chains.{Finishes, FinishesBy, IsExtended, EndsHere, IsChain, IsChainFrom, BeginsAt, Settles}
use Rattle.hol_conv.specs.declared.chain.Chain.{Chain}
use Rattle.hol_conv.proofs.Standing.{made-for-later}
use Rattle.hol_conv.proofs.Meeting.{refl-made}
use Rattle.hol_conv.proofs.Leading.{leads-behind, same-last}

-- ---- ALL_CONV

pub starves : {theory : Theory} {t : NamedTerm} {steps left : ℕ} → steps ≡ 0 → left ≡ 0 → Reflects theory t steps (Err StepLimit) left
starves none left_none = rw (none, left_none) without_step

pub by-step : {theory : Theory} {t : NamedTerm} {steps left : ℕ} {answer : Result Theorem Fault} → steps ≡ suc left → Joins (refl_outcome theory t) answer → Reflects theory t steps answer left
by-step spent joins = rw spent (by_refl joins)

-- ---- joined from the right

split : (theory : Theory) (before after : List Recorded) (theorem : Recorded) (answer : Result Theorem Fault) → before ≡ after ++ theorem ∷ []
    → joined_from theory (theorems before) answer ≡ joined_from theory (theorems after) (onto theory theorem.theorem answer)
split theory before after theorem answer is =
    let moved : theorems (after ++ theorem ∷ []) ≡ theorems after ++ theorem.theorem ∷ [] = map-append (λ (made : Recorded). made.theorem) after (theorem ∷ []) in
    ap (λ (all : List Recorded). joined_from theory (theorems all) answer) is
    ∙ ap (λ (all : List Theorem). joined_from theory all answer) moved
    ∙ joined-last theory (theorems after) theorem.theorem answer

no-theorem : {A : Type 0} {fault : Fault} {theorem : Theorem} → Err fault ≡ Ok theorem → A
no-theorem is = cc

pub joined-on : (theory : Theory) (before after : List Recorded) (theorem : Recorded) (last joined : Theorem) → before ≡ after ++ theorem ∷ []
    → Joins (trans_outcome theory theorem.theorem last) (Ok joined) → joined_from theory (theorems before) (Ok last) ≡ joined_from theory (theorems after) (Ok joined)
joined-on theory before after theorem last joined is (inl made) =
    split theory before after theorem (Ok last) is ∙ ap (λ (answer : Result Theorem Fault). joined_from theory (theorems after) answer) (sym made)
joined-on theory before after theorem last joined is (inr made) = no-theorem (sym made)

pub joined-off : (theory : Theory) (before after : List Recorded) (theorem : Recorded) (last : Theorem) (fault : Fault) → before ≡ after ++ theorem ∷ []
    → Joins (trans_outcome theory theorem.theorem last) (Err fault) → Joins (joined_from theory (theorems before) (Ok last)) (Err fault)
joined-off theory before after theorem last fault is (inl made) =
    inl (sym (split theory before after theorem (Ok last) is
    ∙ ap (λ (answer : Result Theorem Fault). joined_from theory (theorems after) answer) (sym made) ∙ joined-err theory (theorems after) fault))
joined-off theory before after theorem last fault is (inr made) = inr made

pub joins-as : {a b answer : Result Theorem Fault} → a ≡ b → Joins b answer → Joins a answer
joins-as is (inl made) = inl (made ∙ sym is)
joins-as is (inr made) = inr made

-- ---- ends

pub ends-caught : {theory : Theory} (proved : List Theorem) {t : NamedTerm} (fault : Fault) {steps left : ℕ} {answer : Result Theorem Fault} (same : Result Theorem Fault) → is_caught fault ≡ true
    → Reflects theory t steps same left → Joins (joined_from theory proved same) answer → Finishes theory proved t fault steps answer left
ends-caught {theory} proved {t} fault {steps} {left} {answer} same caught reflects joins =
    subst (λ (caught : Bool). FinishesBy caught theory proved t fault steps answer left) (sym caught) (record { same = same; reflects = reflects; joins = joins })

pub ends-refused : {theory : Theory} (proved : List Theorem) {t : NamedTerm} (fault : Fault) {next : Fault} {steps left : ℕ} → is_caught fault ≡ true → Reflects theory t steps (Err next) left
    → Finishes theory proved t fault steps (Err next) left
ends-refused {theory} proved fault {next} caught reflects = ends-caught proved fault (Err next) caught reflects (inl (sym (joined-err theory proved next)))

-- ---- chains

pub made-later : {old new : Library} (all : List Recorded) → IsContinued old new → All (IsMade old.recorder) all → All (IsMade new.recorder) all
made-later {old} {new} all continued made =
    All-weaker (IsMade old.recorder) (IsMade new.recorder) (λ (one : Recorded) (is : IsMade old.recorder one). journals-grow.stays old.recorder new.recorder one continued.grown is) all made

ends-later : {old new : Library} {all : List Recorded} {current : NamedTerm} → IsContinued old new → EndsHere old all current → EndsHere new all current
ends-later continued is = record { front = is.front; last = is.last; there = is.there; stands = is.stands ∙ sym continued.theory; right = is.right }

chain-still : {old new : Library} {chain : Chain} → IsContinued old new → IsChain old chain → IsChain new chain
chain-still {chain} continued is = record {
  made = made-later chain.theorems.items continued is.made;
  lead = is.lead;
  known = subst (λ (theory : Theory). is_known theory chain.current ≡ true) (sym continued.theory) is.known;
  roomy = is.roomy;
  ends = λ said. ends-later continued (is.ends said);
}

pub chain-later : {old new : Library} {t : NamedTerm} {chain : Chain} → IsContinued old new → IsChainFrom old t chain → IsChainFrom new t chain
chain-later continued is = record { held = chain-still continued is.held; begun = is.begun }

absurd-test : {A : Type 0} (test : Bool) → test ≡ false → test ≡ true → A
absurd-test true a b = cc
absurd-test false a b = cc

-- without theorems
pub chain-begun : {library : Library} {t : NamedTerm} (chain : Chain) → chain.theorems.items ≡ [] → chain.current ≡ t → chain.is_same ≡ false → chain.stands_here ≡ false
    → is_known library.recorder.theory t ≡ true → IsChainFrom library t chain
chain-begun {library} {t} chain none current settled unsaid known = record {
  held = record {
    made = subst (λ (all : List Recorded). All (IsMade library.recorder) all) (sym none) (All-nil (IsMade library.recorder));
    lead = subst (λ (all : List Recorded). LeadTo all (image chain.current)) (sym none) lead_nowhere;
    known = subst (λ (u : NamedTerm). is_known library.recorder.theory u ≡ true) (sym current) known;
    roomy = λ same. absurd-test chain.is_same settled same;
    ends = λ said. absurd-test chain.stands_here unsaid said;
  };
  begun = λ empty. current;
}

-- one more theorem
pub chain-pushed : {library : Library} (chain after : Chain) (made : Recorded) → IsChain library chain → IsMade library.recorder made
    → after.theorems.items ≡ chain.theorems.items ++ made ∷ [] → Equates (image chain.current) (image after.current) made.theorem
    → is_known library.recorder.theory after.current ≡ true → after.is_same ≡ false
    → (after.stands_here ≡ true → StandsOn library.recorder.theory made × IsRightSide made.theorem after.current) → IsChain library after
chain-pushed {library} chain after made is one items equates known settled ends = record {
  made = subst (λ (all : List Recorded). All (IsMade library.recorder) all) (sym items) (All-push (IsMade library.recorder) chain.theorems.items made is.made one);
  lead = leads-behind made is.lead equates items;
  known = known;
  roomy = λ same. absurd-test after.is_same settled same;
  ends = λ said. record { front = chain.theorems.items; last = made; there = items; stands = (ends said).0; right = (ends said).1 };
}

pub chain-behind : {old new : Library} (chain after : Chain) (made : Recorded) → IsContinued old new → IsChain old chain → IsMade new.recorder made
    → after.theorems.items ≡ chain.theorems.items ++ made ∷ [] → Equates (image chain.current) (image after.current) made.theorem
    → is_known new.recorder.theory after.current ≡ true → after.is_same ≡ false → after.stands_here ≡ false → IsChain new after
chain-behind chain after made continued is one items equates known settled unsaid =
    chain-pushed chain after made (chain-still continued is) one items equates known settled (λ said. absurd-test after.stands_here unsaid said)

pub known-there : {old new : Library} (t : NamedTerm) → IsContinued old new → is_known old.recorder.theory t ≡ true → is_known new.recorder.theory t ≡ true
known-there t continued known = subst (λ (theory : Theory). is_known theory t ≡ true) (sym continued.theory) known

-- what is joined, as an answer
as-made : (theory : Theory) (t : NamedTerm) (stands : Bool) (made : Result Recorded Fault) → answered theory t (changed_by stands made) ≡ theorem_in made
as-made theory t stands (Ok made) = refl
as-made theory t stands (Err fault) = refl

pub joined-answer : {old new : Library} (t : NamedTerm) (items : List Recorded) (last : Theorem) (stands : Bool) (made : Result Recorded Fault) (result : Result Converted Fault) → IsContinued old new
    → Joins (joined_from new.recorder.theory (theorems items) (Ok last)) (theorem_in made) → result ≡ changed_by stands made
    → Joins (joined_from old.recorder.theory (theorems items) (Ok last)) (answered old.recorder.theory t result)
joined-answer {old} t items last stands made result continued joins is =
    let joins = subst (λ (theory : Theory). Joins (joined_from theory (theorems items) (Ok last)) (theorem_in made)) continued.theory joins in
    subst (λ (answer : Result Theorem Fault). Joins (joined_from old.recorder.theory (theorems items) (Ok last)) answer)
    (sym (ap (answered old.recorder.theory t) is ∙ as-made old.recorder.theory t stands made)) joins

-- ---- that the current term equals itself

-- ALL_CONV behind it adds nothing
collapses : (theory : Theory) {steps left : ℕ} (t : NamedTerm) (answer : Result Theorem Fault) → is_known theory t ≡ true → Reflects theory t steps answer left
    → onto theory (same_theorem theory t) answer ≡ answer
collapses theory t answer known without_step = refl
collapses theory t answer known (by_refl (inl is)) = subst (λ (a : Result Theorem Fault). onto theory (same_theorem theory t) a ≡ a) (sym is) (go (is_within_limits (equation t t)) refl)
  where
    go : (fits : Bool) → is_within_limits (equation t t) ≡ fits → onto theory (same_theorem theory t) (refl_outcome theory t) ≡ refl_outcome theory t
    go true fits = subst (λ (a : Result Theorem Fault). onto theory (same_theorem theory t) a ≡ a) (sym (roomy-refl theory t known fits)) (same-joined theory t fits)
    go false fits = subst (λ (a : Result Theorem Fault). onto theory (same_theorem theory t) a ≡ a) (sym (roomless-refl theory t known fits)) refl
collapses theory t answer known (by_refl (inr is)) = subst (λ (a : Result Theorem Fault). onto theory (same_theorem theory t) a ≡ a) (sym is) refl

proved-joins : (theory : Theory) {steps left : ℕ} (chain : Chain) (answer : Result Theorem Fault) → is_known theory chain.current ≡ true → Reflects theory chain.current steps answer left
    → joined_from theory (proved_by theory chain) answer ≡ joined_from theory (theorems chain.theorems.items) answer
proved-joins theory chain answer known reflects = go chain.is_same
  where
    go : (is_same : Bool) → joined_from theory (theorems chain.theorems.items ++ (if is_same then same_theorem theory chain.current ∷ [] else [])) answer
        ≡ joined_from theory (theorems chain.theorems.items) answer
    go true =
        joined-last theory (theorems chain.theorems.items) (same_theorem theory chain.current) answer
        ∙ ap (joined_from theory (theorems chain.theorems.items)) (collapses theory chain.current answer known reflects)
    go false = ap (λ (all : List Theorem). joined_from theory all answer) (append-nil (theorems chain.theorems.items))

pub no-theorems : (items : List Recorded) → length items ≡ 0 → items ≡ []
no-theorems [] is = refl
no-theorems (made ∷ items) is = cc

-- a chain without theorems ends so
pub ends-empty : {theory : Theory} (chain : Chain) {t : NamedTerm} (fault : Fault) {steps left : ℕ} (answer : Result Theorem Fault) → is_caught fault ≡ true → chain.theorems.items ≡ []
    → chain.current ≡ t → is_known theory chain.current ≡ true → Reflects theory t steps answer left → Finishes theory (proved_by theory chain) chain.current fault steps answer left
ends-empty {theory} chain {t} fault {steps} {left} answer caught empty begun known reflects =
    let here : Reflects theory chain.current steps answer left = subst (λ (u : NamedTerm). Reflects theory u steps answer left) (sym begun) reflects in
    ends-caught (proved_by theory chain) fault answer caught here
    (inl (sym (proved-joins theory chain answer known here ∙ ap (λ (items : List Recorded). joined_from theory (theorems items) answer) empty)))

-- and one with theorems by REFL
pub ends-joined : {theory : Theory} (chain : Chain) (fault : Fault) {steps left : ℕ} (same : Result Theorem Fault) (last : Theorem) {answer : Result Theorem Fault} → is_caught fault ≡ true
    → is_known theory chain.current ≡ true → Reflects theory chain.current steps same left → Joins same (Ok last)
    → Joins (joined_from theory (theorems chain.theorems.items) (Ok last)) answer → Finishes theory (proved_by theory chain) chain.current fault steps answer left
ends-joined {theory} chain fault same last caught known reflects (inl is) joins =
    ends-caught (proved_by theory chain) fault same caught reflects
    (joins-as (proved-joins theory chain same known reflects ∙ ap (joined_from theory (theorems chain.theorems.items)) (sym is)) joins)
ends-joined chain fault same last caught known reflects (inr is) joins = no-theorem (sym is)

pub ends-unmade : {theory : Theory} (chain : Chain) (fault : Fault) {steps left : ℕ} (same : Result Theorem Fault) (next : Fault) → is_caught fault ≡ true
    → Reflects theory chain.current steps same left → Joins same (Err next) → Finishes theory (proved_by theory chain) chain.current fault steps (Err next) left
ends-unmade {theory} chain fault same next caught reflects (inl is) =
    ends-caught (proved_by theory chain) fault same caught reflects
    (inl (sym (ap (joined_from theory (proved_by theory chain)) (sym is) ∙ joined-err theory (proved_by theory chain) next)))
ends-unmade {theory} chain fault same next caught reflects (inr is) = ends-caught (proved_by theory chain) fault same caught reflects (inr is)

reflected-same : {theory : Theory} {t : NamedTerm} {steps left : ℕ} {same : Result Theorem Fault} (made : Theorem) → Reflects theory t steps same left → same ≡ Ok made → made ≡ same_theorem theory t
reflected-same made without_step is = no-theorem is
reflected-same {theory} {t} made (by_refl joins) is = refl-made theory t (subst (λ (answer : Result Theorem Fault). Joins (refl_outcome theory t) answer) is joins)

-- and one whose last theorem has that right side, without REFL
pub ends-here : {theory : Theory} (chain : Chain) (fault : Fault) {steps left : ℕ} (same : Result Theorem Fault) (made : Theorem) {answer : Result Theorem Fault} → is_caught fault ≡ true
    → is_known theory chain.current ≡ true → Reflects theory chain.current steps same left → same ≡ Ok made
    → Joins (joined_from theory (theorems chain.theorems.items) (Ok (same_theorem theory chain.current))) answer → Finishes theory (proved_by theory chain) chain.current fault steps answer left
ends-here {theory} chain fault same made caught known reflects is joins =
    let found : same ≡ Ok (same_theorem theory chain.current) = is ∙ ap Ok (reflected-same made reflects is) in
    ends-joined chain fault same (same_theorem theory chain.current) caught known reflects (inl (sym found)) joins

-- the last of the theorems
pub ends-by : {library : Library} {all : List Recorded} {current : NamedTerm} (front : List Recorded) (last : Recorded) → EndsHere library all current → all ≡ front ++ last ∷ []
    → StandsOn library.recorder.theory last × IsRightSide last.theorem current
ends-by {library} {all} {current} front last ends is =
    let same = (same-last ends.front front ends.last last (sym ends.there ∙ is)).1 in
    (subst (λ (made : Recorded). StandsOn library.recorder.theory made) same ends.stands, subst (λ (made : Recorded). IsRightSide made.theorem current) same ends.right)

pub last-made : (library : Library) {all : List Recorded} (front : List Recorded) (last : Recorded) → All (IsMade library.recorder) all → all ≡ front ++ last ∷ []
    → All (IsMade library.recorder) front × IsMade library.recorder last
last-made library {all} front last made is = All-pop (IsMade library.recorder) all front (Some last) is made

same-fault : {a b : Fault} → ◌≡◌ {A = Result Theorem Fault} (Err a) (Err b) → a ≡ b
same-fault is = cc

-- REFL of a known term that has room finds no memory, or answers
pub refl-starves : (theory : Theory) (t : NamedTerm) {fault : Fault} → is_known theory t ≡ true → is_within_limits (equation t t) ≡ true → Joins (refl_outcome theory t) (Err fault) → fault ≡ Memory
refl-starves theory t known fits (inl is) = no-theorem (is ∙ roomy-refl theory t known fits)
refl-starves theory t known fits (inr is) = same-fault is

-- ---- chains that are extended

no-items : {A : Type 0} (items : List Recorded) (made : Recorded) → items ++ made ∷ [] ≡ [] → A
no-items [] made is = cc
no-items (first ∷ items) made is = cc

pub begins-behind : (chain : Chain) (items : List Recorded) (made : Recorded) (t : NamedTerm) → chain.theorems.items ≡ items ++ made ∷ [] → BeginsAt t chain
begins-behind chain items made t is empty = no-items items made (sym is ∙ empty)

one-more : (items : List Recorded) (made : Recorded) → theorems (items ++ made ∷ []) ≡ theorems items ++ made.theorem ∷ []
one-more items made = map-append (λ (made : Recorded). made.theorem) items (made ∷ [])

as-proved : (theory : Theory) (chain : Chain) → chain.is_same ≡ false → proved_by theory chain ≡ theorems chain.theorems.items
as-proved theory chain is =
    ap (λ (is_same : Bool). theorems chain.theorems.items ++ (if is_same then same_theorem theory chain.current ∷ [] else [])) is ∙ append-nil (theorems chain.theorems.items)

as-marked : (theory : Theory) (chain : Chain) → chain.is_same ≡ true → proved_by theory chain ≡ theorems chain.theorems.items ++ same_theorem theory chain.current ∷ []
as-marked theory chain is = ap (λ (is_same : Bool). theorems chain.theorems.items ++ (if is_same then same_theorem theory chain.current ∷ [] else [])) is

pub settles-itself : (theory : Theory) (chain : Chain) → chain.is_same ≡ false → Settles theory chain chain
settles-itself theory chain is = record { proved = sym (as-proved theory chain is); current = refl; is_same = is; begun = λ t begun. begun }

the-theorem : {a b : Theorem} → ◌≡◌ {A = Result Theorem Fault} (Ok a) (Ok b) → a ≡ b
the-theorem is = cc

pub settles-made : (theory : Theory) (old new : Chain) (made : Recorded) → old.is_same ≡ true → is_known theory old.current ≡ true → is_within_limits (equation old.current old.current) ≡ true
    → Joins (refl_outcome theory old.current) (Ok made.theorem) → new.theorems.items ≡ old.theorems.items ++ made ∷ [] → new.current ≡ old.current → new.is_same ≡ false → Settles theory old new
settles-made theory old new made same known fits (inl is) items current settled = record {
  proved =
      ap theorems items ∙ one-more old.theorems.items made
      ∙ ap (λ (theorem : Theorem). theorems old.theorems.items ++ theorem ∷ []) (the-theorem (is ∙ roomy-refl theory old.current known fits)) ∙ sym (as-marked theory old same);
  current = current;
  is_same = settled;
  begun = λ t begun. begins-behind new old.theorems.items made t items;
}
settles-made theory old new made same known fits (inr is) items current settled = no-theorem (sym is)

pub extends-made : (theory : Theory) (old new : Chain) (made : Recorded) → old.is_same ≡ false → new.is_same ≡ false → new.theorems.items ≡ old.theorems.items ++ made ∷ []
    → IsRightSide made.theorem new.current → IsExtended theory (proved_by theory old) made.theorem new
extends-made theory old new made settled after items side = record {
  proved =
      as-proved theory new after ∙ ap theorems items ∙ one-more old.theorems.items made
      ∙ ap (λ (all : List Theorem). all ++ made.theorem ∷ []) (sym (as-proved theory old settled));
  right = side;
}

pub extends-same : (theory : Theory) (old mid new : Chain) → Settles theory old mid → new.theorems.items ≡ mid.theorems.items → new.current ≡ mid.current → new.is_same ≡ true
    → IsExtended theory (proved_by theory old) (same_theorem theory old.current) new
extends-same theory old mid new settles items current marked = record {
  proved =
      as-marked theory new marked ∙ ap (λ (items : List Recorded). theorems items ++ same_theorem theory new.current ∷ []) items
      ∙ ap (λ (all : List Theorem). all ++ same_theorem theory new.current ∷ []) settles.proved
      ∙ ap (λ (u : NamedTerm). proved_by theory old ++ same_theorem theory u ∷ []) (current ∙ settles.current);
  right = subst (λ (u : NamedTerm). IsRightSide (same_theorem theory old.current) u) (sym (current ∙ settles.current)) (same-side theory old.current);
}

-- behind a chain that was settled
pub extends-settled : (theory : Theory) (old mid new : Chain) (made : Theorem) → Settles theory old mid → IsExtended theory (proved_by theory mid) made new
    → IsExtended theory (proved_by theory old) made new
extends-settled theory old mid new made settles extends = record {
  proved = extends.proved ∙ ap (λ (all : List Theorem). all ++ made ∷ []) (as-proved theory mid settles.is_same ∙ settles.proved);
  right = extends.right;
}

-- the same over what a call answers
pub extends-by : (theory : Theory) (old mid : Chain) (made : Recorded) (stands : Bool) (answer : Converted) (result : Result Chain Fault) → Settles theory old mid → answer ≡ Changed made stands
    → IfOk result (IsExtended theory (proved_by theory mid) made.theorem) → IfOk result (IsExtended theory (proved_by theory old) (theorem_of theory old.current answer))
extends-by theory old mid made stands answer (Ok new) settles is extends =
    subst (λ (answer : Converted). IsExtended theory (proved_by theory old) (theorem_of theory old.current answer) new) (sym is)
    (extends-settled theory old mid new made.theorem settles extends)
extends-by theory old mid made stands answer (Err fault) settles is extends = tt

pub begins-by : (old : Chain) (result : Result Chain Fault) → IfOk result (λ new. (t : NamedTerm) → BeginsAt t new) → IfOk result (λ new. (t : NamedTerm) → BeginsAt t old → BeginsAt t new)
begins-by old (Ok new) begins = λ t begun. begins t
begins-by old (Err fault) begins = tt

-- of an equation of the current term before
pub pushes-made : {old new : Library} (t : NamedTerm) (made : Recorded) (stands : Bool) (answer : Converted) → IsContinued old new → answer ≡ Changed made stands → IsAnswerOf old t answer
    → IsMadeFor new stands made
pushes-made {old} t made stands answer continued is answers =
    made-for-later stands made continued (subst (λ (answer : Converted). IsAnswerOf old t answer) is answers)

pub pushes-equation : {theory : Theory} (old mid : Chain) (made : Recorded) (stands : Bool) (answer : Converted) → Settles theory old mid → answer ≡ Changed made stands
    → IsEquationOf old.current (theorem_of theory old.current answer) → IsEquationOf mid.current made.theorem
pushes-equation {theory} old mid made stands answer settles is of =
    subst (λ (u : NamedTerm). IsEquationOf u made.theorem) (sym settles.current) (subst (λ (answer : Converted). IsEquationOf old.current (theorem_of theory old.current answer)) is of)

-- ---- chains that begin with an answer

pub begun-answer : (library : Library) {t : NamedTerm} (chain : Chain) (answer : Converted) → chain.current ≡ t → IsAnswerOf library t answer → IsAnswerOf library chain.current answer
begun-answer library chain answer current is = subst (λ (u : NamedTerm). IsAnswerOf library u answer) (sym current) is

pub begun-equation : (theory : Theory) {t : NamedTerm} (chain : Chain) (answer : Converted) → chain.current ≡ t → IsEquationOf t (theorem_of theory t answer)
    → IsEquationOf chain.current (theorem_of theory chain.current answer)
begun-equation theory chain answer current of = subst (λ (u : NamedTerm). IsEquationOf u (theorem_of theory u answer)) (sym current) of

pub begun-chain : {old : Library} (new : Library) {t : NamedTerm} (chain : Chain) (result : Result Chain Fault) → IsChainFrom old t chain → IfOk result (IsChain new)
    → IfOk result (λ new. (t : NamedTerm) → BeginsAt t chain → BeginsAt t new) → IfOk result (IsChainFrom new t)
begun-chain new {t} chain (Ok after) is held begun = record { held = held; begun = begun t is.begun }
begun-chain new chain (Err fault) is held begun = tt

pub begun-extends : (theory : Theory) {t : NamedTerm} (chain : Chain) (answer : Converted) (result : Result Chain Fault) → proved_by theory chain ≡ [] → chain.current ≡ t
    → IfOk result (IsExtended theory (proved_by theory chain) (theorem_of theory chain.current answer)) → IfOk result (IsExtended theory [] (theorem_of theory t answer))
begun-extends theory chain answer result none current extends =
    subst (λ (u : NamedTerm). IfOk result (IsExtended theory [] (theorem_of theory u answer))) current
    (subst (λ (all : List Theorem). IfOk result (IsExtended theory all (theorem_of theory chain.current answer))) none extends)
