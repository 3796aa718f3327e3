-- What is asked before a conversion is tried, after calls and of parts.
use Rattle.std.proofs.Common.{◌≡◌, ℕ, Bool, true, false, ◌&&◌, refl, sym, ◌∙◌, subst, Result, Ok, Err, IfOk, IsSome}
use Rattle.hol_model.specs.declared.fault.Fault.{Fault}
use Rattle.hol_model.specs.Terms.NamedTerm.{NamedTerm, combination}
use Rattle.hol_model.specs.Logic.Theory.{Theory}
use Rattle.hol_model.specs.Logic.KnownTerm.{knows_types, knows_constants, has_instances, is_known}
use Rattle.hol_model.specs.Kernel.Theorem.{Theorem}
use Rattle.hol_model.specs.Kernel.Rules.{dest_equation}
use Rattle.hol_model.specs.Refining.HostFunctions.{HostConversions}
use Rattle.hol_model.specs.Refining.Conversions.{Conversion, Converts}
use Rattle.hol_journal.specs.Journal.{Recorded}
use Rattle.hol_journal.proofs.GrowthLemmas.{journals-grow}
use Rattle.hol_theorem_store.specs.Stored.{theorems_in}
use Rattle.hol_theorem_store.specs.Store.{stored_of}
use Rattle.hol_theorem_store.specs.declared.store.Store.{Store}
use Rattle.hol_theorem_library.specs.Library.{IsLibrary, IsContinued, store_in}
use Rattle.hol_theorem_library.specs.declared.library.Library.{Library}
use Rattle.hol_conv.specs.Makes.{Makes, IsRightSide}
use Rattle.hol_conv.proofs.Standing.{made-for-later}
use Rattle.hol_conv.specs.declared.converted.Converted.{Converted}
use Rattle.hol_conv.specs.declared.converted.Converted.TheVariants.{Same, Changed}
use Rattle.hol_conv.specs.Converted.{theorem_of, answered, IsAnswerOf, IsHeldIn, MakesAnswer}
use Rattle.hol_laws_refiners.proofs.Repeating.{IsFinal, JoinedSoFar}
use Rattle.hol_conv.specs.Answers.{IsAsked, AnswersOver, AnswersBehind}
use Rattle.hol_conv.specs.Chains.{proved_by}
use Rattle.hol_conv.specs.declared.chain.Chain.{Chain}

-- ---- of parts

second-halves : (a b c d e f : Bool) → (a && b && (c && d) && (e && f)) ≡ true → (b && d && f) ≡ true
second-halves true true true true true true is = refl
second-halves true true true true true false is = cc
second-halves true true true true false f is = cc
second-halves true true true false e f is = cc
second-halves true true false d e f is = cc
second-halves true false c d e f is = cc
second-halves false b c d e f is = cc

known-argument : {t f x : NamedTerm} (theory : Theory) → t ≡ combination f x → is_known theory t ≡ true → is_known theory x ≡ true
known-argument {f} {x} theory is known =
    second-halves (knows_types theory f) (knows_types theory x) (knows_constants theory f) (knows_constants theory x) (has_instances theory f) (has_instances theory x)
    (subst (λ (t : NamedTerm). is_known theory t ≡ true) is known)

pub of-argument : {ready : Library → Type 0} {library : Library} {t f x : NamedTerm} → IsAsked ready library t → t ≡ combination f x → IsAsked ready library x
of-argument {library} asked is = record { is_library = asked.is_library; ready = asked.ready; known = known-argument library.recorder.theory is asked.known }

-- ---- after calls

pub known-later : {old new : Library} (t : NamedTerm) → IsContinued old new → is_known old.recorder.theory t ≡ true → is_known new.recorder.theory t ≡ true
known-later t continued known = subst (λ (theory : Theory). is_known theory t ≡ true) (sym continued.theory) known

pub continued-twice : {first second third : Library} → IsContinued first second → IsContinued second third → IsContinued first third
continued-twice {first} {second} {third} before after = record {
  grown = journals-grow.twice first.recorder second.recorder third.recorder before.grown after.grown;
  theory = after.theory ∙ before.theory;
  logic = after.logic ∙ before.logic;
  laws = after.laws ∙ before.laws;
  stored = after.stored ∙ before.stored;
}

pub makes-after : {first second third : Library} {result : Result Recorded Fault} → IsContinued first second → Makes second third result → Makes first third result
makes-after before makes = record { library = makes.library; continued = continued-twice before makes.continued; made = makes.made }

pub answers-after : {first second third : Library} {t : NamedTerm} {result : Result Converted Fault} → IsContinued first second → MakesAnswer second third t result → MakesAnswer first third t result
answers-after before makes = record { library = makes.library; continued = continued-twice before makes.continued; made = makes.made }

-- what was answered stays an answer
pub still-answers : {old new : Library} (t : NamedTerm) (answer : Converted) → IsContinued old new → IsAnswerOf old t answer → IsAnswerOf new t answer
still-answers t Same continued is = is
still-answers t (Changed made stands) continued is = made-for-later stands made continued is

pub held-answer : (library : Library) (t : NamedTerm) (result : Result Converted Fault) → IfOk result (IsAnswerOf library t) → IfOk result (IsHeldIn library)
held-answer library t (Ok Same) is = tt
held-answer library t (Ok (Changed made stands)) is = is.is_made
held-answer library t (Err fault) is = tt

pub side-later : {old new : Library} {right : NamedTerm} (t : NamedTerm) (answer : Converted) → IsContinued old new → IsRightSide (theorem_of old.recorder.theory t answer) right
    → IsRightSide (theorem_of new.recorder.theory t answer) right
side-later {right} t answer continued side = subst (λ (theory : Theory). IsRightSide (theorem_of theory t answer) right) (sym continued.theory) side

pub side-before : {old new : Library} {right : NamedTerm} (t : NamedTerm) (answer : Converted) → IsContinued old new → IsRightSide (theorem_of new.recorder.theory t answer) right
    → IsRightSide (theorem_of old.recorder.theory t answer) right
side-before {right} t answer continued side = subst (λ (theory : Theory). IsRightSide (theorem_of theory t answer) right) continued.theory side

pub equation-later : {old new : Library} (t : NamedTerm) (answer : Converted) → IsContinued old new → IsSome (dest_equation (theorem_of old.recorder.theory t answer).conclusion)
    → IsSome (dest_equation (theorem_of new.recorder.theory t answer).conclusion)
equation-later t answer continued is = subst (λ (theory : Theory). IsSome (dest_equation (theorem_of theory t answer).conclusion)) (sym continued.theory) is

-- of a term that is known now
pub asks-now : {ready : Library → Type 0} {old new : Library} {t : NamedTerm} (u : NamedTerm) → ((before after : Library) → IsContinued before after → ready before → ready after) → IsAsked ready old t
    → IsContinued old new → IsLibrary new → is_known new.recorder.theory u ≡ true → IsAsked ready new u
asks-now {old} {new} u stays asked continued is known = record { is_library = is; ready = stays old new continued asked.ready; known = known }

-- of the same term
pub asks-later : {ready : Library → Type 0} {old new : Library} {t : NamedTerm} → ((before after : Library) → IsContinued before after → ready before → ready after) → IsAsked ready old t
    → IsContinued old new → IsLibrary new → IsAsked ready new t
asks-later {t} stays asked continued is = asks-now t stays asked continued is (known-later t continued asked.known)

-- what is converted over a library was so over it before
pub carried : {old new : Library} {hosts : HostConversions} {depth steps left : ℕ} {c : Conversion} {t : NamedTerm} {answer : Result Theorem Fault} → IsContinued old new
    → Converts new.recorder.theory (store_in new) hosts depth steps c t answer left → Converts old.recorder.theory (store_in old) hosts depth steps c t answer left
carried {old} {new} {hosts} {depth} {steps} {left} {c} {t} {answer} continued r =
    subst (λ (theory : Theory). Converts theory (store_in old) hosts depth steps c t answer left) continued.theory
    (subst (λ (store : Store). Converts new.recorder.theory (theorems_in (stored_of store)) hosts depth steps c t answer left) continued.stored r)

pub carried-answer : {old new : Library} {hosts : HostConversions} {depth steps left : ℕ} {c : Conversion} {t : NamedTerm} (result : Result Converted Fault) → IsContinued old new
    → AnswersOver new hosts depth steps c t result left → AnswersOver old hosts depth steps c t result left
carried-answer {old} {new} {hosts} {depth} {steps} {left} {c} {t} result continued r =
    subst (λ (theory : Theory). Converts theory (store_in old) hosts depth steps c t (answered theory t result) left) continued.theory
    (subst (λ (store : Store). Converts new.recorder.theory (theorems_in (stored_of store)) hosts depth steps c t (answered new.recorder.theory t result) left) continued.stored r)

-- and so is what is answered behind a chain
pub carried-behind : {old new : Library} {hosts : HostConversions} {depth first steps left : ℕ} {whole rest : Conversion} {t : NamedTerm} (chain : Chain) (result : Result Converted Fault)
    → IsContinued old new → JoinedSoFar old.recorder.theory (store_in old) hosts depth first whole t steps rest (proved_by old.recorder.theory chain) chain.current
    → AnswersBehind new hosts depth whole t rest chain steps result left → AnswersOver old hosts depth first whole t result left × IsFinal (answered old.recorder.theory t result)
carried-behind {old} {new} {hosts} {depth} {first} {steps} {left} {whole} {rest} {t} chain result continued so_far answers =
    subst (λ (theory : Theory). (first : ℕ) → JoinedSoFar theory (store_in old) hosts depth first whole t steps rest (proved_by theory chain) chain.current
    → Converts theory (store_in old) hosts depth first whole t (answered theory t result) left × IsFinal (answered theory t result)) continued.theory
    (subst (λ (store : Store). (first : ℕ) → JoinedSoFar new.recorder.theory (theorems_in (stored_of store)) hosts depth first whole t steps rest (proved_by new.recorder.theory chain) chain.current
    → Converts new.recorder.theory (theorems_in (stored_of store)) hosts depth first whole t (answered new.recorder.theory t result) left × IsFinal (answered new.recorder.theory t result))
    continued.stored answers) first so_far
