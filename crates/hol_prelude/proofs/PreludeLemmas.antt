-- What a list of definitions and derivations is made to on a theory without definitions.
use Rattle.std.proofs.Common.{◌≡◌, ◌⊎◌, ℕ, zero, suc, List, [], ◌∷◌, ◌++◌, take, drop, Some, Result, Ok, Err, IfOk, IfErr, sym, ◌∙◌, ap, subst, inl, inr}
use Rattle.std.specs.Prelude.{slice_get}
use Rattle.std.proofs.lemmas.List.{map-append, take-map, drop-map}
use Rattle.std.specs.declared.vec.Vec.{Vec}
use Rattle.std.specs.declared.alloc.Global.{Global}
use Rattle.hol_model.specs.declared.fault.Fault.{Fault}
use Rattle.hol_model.specs.declared.fault.Fault.TheVariants.{Memory}
use Rattle.hol_model.specs.Logic.Theory.{Theory}
use Rattle.hol_model.specs.Kernel.Theorem.{Theorem}
use Rattle.hol_journal.specs.Journal.{Journal, Recorded}
use Rattle.hol_prelude_derivations.specs.Derivations.{theorems, AreMade}
use Rattle.hol_prelude_derivations.specs.Makings.{Made, all_made, made_in, MakesAll, HasMade}
use Rattle.hol_prelude.specs.Laws.{without_laws}
use Rattle.hol_prelude.specs.Stages.{MakesTheorems}
use Rattle.hol_model.specs.Logic.Logic.{logical_definitions}
use Rattle.hol_model.specs.Kernel.Outcome.{Answers}
use Rattle.hol_prelude.specs.declared.tables.TheConstants.{FIRST_LAW, BEHIND_LAWS}
use Rattle.hol_prelude_derivations.specs.declared.making.Making.{Making}

one_answer : (outcome : Result Made Fault) (a b : Made) → outcome ≡ Ok a → outcome ≡ Ok b → a ≡ b
one_answer outcome a b one other = cc

no_refusal : (outcome : Result Made Fault) (fault : Fault) (made : Made) → outcome ≡ Err fault → outcome ≡ Ok made → fault ≡ Memory
no_refusal outcome fault made refused answered = cc

-- what a table comes to over a theory and behind theorems that are known

table-answers : {makings : List Making} (result : Result (Vec Recorded Global) Fault) (old new start : Theory) (behind earlier : List Theorem) → MakesAll old behind makings new result
    → old ≡ start → behind ≡ earlier → Answers (made_in new result) (all_made start earlier makings)
table-answers {makings} result old new start behind earlier makes same same_earlier =
    subst (λ t. Answers (made_in new result) (all_made t earlier makings)) same (subst (λ e. Answers (made_in new result) (all_made old e makings)) same_earlier makes.answers)

table-ok : {makings : List Making} (result : Result (Vec Recorded Global) Fault) (old new start : Theory) (behind earlier wanted : List Theorem) → MakesAll old behind makings new result
    → old ≡ start → behind ≡ earlier → all_made start earlier makings ≡ Ok (record { theory = logical_definitions; theorems = wanted })
    → IfOk result (λ all. HasMade new all.items wanted)
table-ok {makings} (Ok all) old new start behind earlier wanted makes same same_earlier computed =
    let answers : all_made start earlier makings ≡ Ok (record { theory = new; theorems = theorems all.items }) = table-answers (Ok all) old new start behind earlier makes same same_earlier in
    let made = one_answer (all_made start earlier makings) (record { theory = new; theorems = theorems all.items }) (record { theory = logical_definitions; theorems = wanted }) answers computed in
    record { defined = ap (λ (m : Made). m.theory) made; theorems_are = ap (λ (m : Made). m.theorems) made }
table-ok {makings} (Err fault) old new start behind earlier wanted makes same same_earlier computed = tt

table-err : {makings : List Making} (result : Result (Vec Recorded Global) Fault) (old new start : Theory) (behind earlier wanted : List Theorem) → MakesAll old behind makings new result
    → old ≡ start → behind ≡ earlier → all_made start earlier makings ≡ Ok (record { theory = logical_definitions; theorems = wanted })
    → IfErr result (λ fault. fault ≡ Memory)
table-err {makings} (Ok all) old new start behind earlier wanted makes same same_earlier computed = tt
table-err {makings} (Err fault) old new start behind earlier wanted makes same same_earlier computed = elim (table-answers (Err fault) old new start behind earlier makes same same_earlier) [
  | inl memory ↦ memory
  | inr refused ↦ no_refusal (all_made start earlier makings) fault (record { theory = logical_definitions; theorems = wanted }) refused computed
]

pub table-makes : {makings : List Making} (result : Result (Vec Recorded Global) Fault) (old new start : Theory) (behind earlier wanted : List Theorem) → MakesAll old behind makings new result
    → old ≡ start → behind ≡ earlier → all_made start earlier makings ≡ Ok (record { theory = logical_definitions; theorems = wanted })
    → MakesTheorems wanted new result
table-makes {makings} result old new start behind earlier wanted makes same same_earlier computed = record {
  ok = table-ok result old new start behind earlier wanted makes same same_earlier computed;
  err = table-err result old new start behind earlier wanted makes same same_earlier computed;
}

-- the theorems without the laws

pub theorems-without_laws : (all : List Recorded) → theorems (without_laws all) ≡ without_laws (theorems all)
theorems-without_laws all =
    map-append (λ made. made.theorem) (take FIRST_LAW all) (drop BEHIND_LAWS all)
    ∙ (λ i. sym (take-map (λ made. made.theorem) FIRST_LAW all) i ++ sym (drop-map (λ made. made.theorem) BEHIND_LAWS all) i)

-- each element of a list with a part taken out is an element of the list

record IsIn {A : Type 0} (all : List A) (x : A) : Type 0 where
  place : ℕ
  there : slice_get all place ≡ Some x

get-drop : {A : Type 0} (all : List A) (count number : ℕ) (x : A) → slice_get (drop count all) number ≡ Some x → IsIn all x
get-drop all zero number x is = record { place = number; there = is }
get-drop [] (suc count) number x is = cc
get-drop (first ∷ all) (suc count) number x is = let later = get-drop all count number x is in record { place = suc later.place; there = later.there }

get-kept : {A : Type 0} (all rest : List A) (count number : ℕ) (x : A) → slice_get (take count all ++ rest) number ≡ Some x → IsIn all x ⊎ IsIn rest x
get-kept all rest zero number x is = inr (record { place = number; there = is })
get-kept [] rest (suc count) number x is = inr (record { place = number; there = is })
get-kept (first ∷ all) rest (suc count) zero x is = inl (record { place = zero; there = is })
get-kept (first ∷ all) rest (suc count) (suc number) x is = elim (get-kept all rest count number x is) [
  | inl later ↦ inl (record { place = suc later.place; there = later.there })
  | inr behind ↦ inr behind
]

pub made-without_laws : (journal : Journal) (all : List Recorded) → AreMade journal all → AreMade journal (without_laws all)
made-without_laws journal all are = record {
  each = λ number made there. elim (get-kept all (drop BEHIND_LAWS all) FIRST_LAW number made there) [
    | inl before ↦ are.each before.place made before.there
    | inr behind ↦ let at = get-drop all BEHIND_LAWS behind.place made behind.there in are.each at.place made at.there
  ];
}
