-- Lists of theorems of the recorder: their parts and their joins.
use Rattle.std.proofs.Common.{◌≡◌, ◌≤◌, ◌<◌, ℕ, zero, suc, List, [], ◌∷◌, ◌++◌, take, drop, length, Some, Result, Ok, Err, IfOk, IfErr, sym, ◌∙◌, ap, subst, arith}
use Rattle.std.proofs.lemmas.List.{map-append, take-map, drop-map}
use Rattle.std.specs.Prelude.{slice_get}
use Rattle.std.specs.declared.vec.Vec.{Vec}
use Rattle.std.specs.declared.alloc.Global.{Global}
use Rattle.hol_model.specs.declared.fault.Fault.{Fault}
use Rattle.hol_model.specs.declared.fault.Fault.TheVariants.{Memory}
use Rattle.hol_model.specs.Kernel.Theorem.{Theorem}
use Rattle.hol_model.specs.Logic.Theory.{Theory}
use Rattle.hol_model.specs.Logic.Logic.{logical_definitions}
use Rattle.hol_journal.specs.Journal.{Journal, Recorded, IsMade}
use Rattle.hol_journal.specs.Growth.{IsGrown}
use Rattle.hol_journal.proofs.GrowthLemmas.{journals-grow}
use Rattle.hol_prelude_derivations.specs.Derivations.{theorems, AreMade}
use Rattle.hol_prelude.specs.Prelude.{prelude_theorems}
use Rattle.hol_prelude.specs.Stages.{MakesTheorems}
use Rattle.hol_prelude.proofs.StoredLemmas.{stored-within}
use Rattle.hol_taut_laws.specs.declared.tables.TheConstants.{CITED_FIRST}

pub made-grown : (old new : Journal) (all : List Recorded) → IsGrown old new → AreMade old all → AreMade new all
made-grown old new all grown are = record { each = λ number made there. journals-grow.stays old new made grown (are.each number made there) }

tail-made : (journal : Journal) (first : Recorded) (rest : List Recorded) → AreMade journal (first ∷ rest) → AreMade journal rest
tail-made journal first rest are = record { each = λ number made there. are.each (suc number) made there }

pub made-drop : (journal : Journal) (count : ℕ) (all : List Recorded) → AreMade journal all → AreMade journal (drop count all)
made-drop journal zero all are = are
made-drop journal (suc count) [] are = are
made-drop journal (suc count) (first ∷ rest) are = made-drop journal count rest (tail-made journal first rest are)

get-take : (count : ℕ) (all : List Recorded) (number : ℕ) (made : Recorded) → slice_get (take count all) number ≡ Some made → slice_get all number ≡ Some made
get-take zero all number made there = cc
get-take (suc count) [] number made there = cc
get-take (suc count) (first ∷ rest) zero made there = there
get-take (suc count) (first ∷ rest) (suc number) made there = get-take count rest number made there

pub made-take : (journal : Journal) (count : ℕ) (all : List Recorded) → AreMade journal all → AreMade journal (take count all)
made-take journal count all are = record { each = λ number made there. are.each number made (get-take count all number made there) }

pub made-append : (journal : Journal) (front back : List Recorded) → AreMade journal front → AreMade journal back → AreMade journal (front ++ back)
made-append journal [] back one two = two
made-append journal (first ∷ rest) back one two = record { each = at (made-append journal rest back (tail-made journal first rest one) two) }
  where
    at : AreMade journal (rest ++ back) → (number : ℕ) (made : Recorded) → slice_get (first ∷ rest ++ back) number ≡ Some made → IsMade journal made
    at later zero made there = one.each zero made there
    at later (suc number) made there = later.each number made there

-- what a call answers that copies more theorems behind others

pub copies-make : (result : Result (Vec Recorded Global) Fault) (front more : List Recorded) (one two : List Theorem) (theory : Theory)
    → IfOk result (λ all. all.items ≡ front ++ more) → IfErr result (λ fault. fault ≡ Memory) → theory ≡ logical_definitions → theorems front ≡ one → theorems more ≡ two
    → MakesTheorems (one ++ two) theory result
copies-make (Ok all) front more one two theory is refused defined first second = record {
  ok = record { defined = defined; theorems_are = ap theorems is ∙ map-append (λ made. made.theorem) front more ∙ (λ i. first i ++ second i) };
  err = tt;
}
copies-make (Err fault) front more one two theory is refused defined first second = record { ok = tt; err = refused }

pub copies-made : (result : Result (Vec Recorded Global) Fault) (journal : Journal) (front more : List Recorded) → IfOk result (λ all. all.items ≡ front ++ more)
    → AreMade journal front → AreMade journal more
    → IfOk result (λ all. AreMade journal all.items)
copies-made (Ok all) journal front more is one two = subst (AreMade journal) (sym is) (made-append journal front more one two)
copies-made (Err fault) journal front more is one two = tt

-- the theorems of a part

pub take-theorems : (count : ℕ) (all : List Recorded) (wanted : List Theorem) → theorems all ≡ wanted → theorems (take count all) ≡ take count wanted
take-theorems count all wanted are = sym (take-map (λ made. made.theorem) count all) ∙ ap (λ (l : List Theorem). take count l) are

pub drop-theorems : (count : ℕ) (all : List Recorded) (wanted : List Theorem) → theorems all ≡ wanted → theorems (drop count all) ≡ drop count wanted
drop-theorems count all wanted are = sym (drop-map (λ made. made.theorem) count all) ∙ ap (λ (l : List Theorem). drop count l) are

-- the first theorems are there
pub first-within : (all : List Recorded) → theorems all ≡ prelude_theorems → CITED_FIRST ≤ length all
first-within all are = let within : 27 < length all = stored-within all 27 are (omega arith) in omega arith

-- copies of the first of them
pub before-are : (all before copied : List Recorded) (front : List Recorded) → theorems all ≡ prelude_theorems → before ≡ take CITED_FIRST all → front ≡ [] → copied ≡ front ++ before
    → theorems copied ≡ take CITED_FIRST prelude_theorems
before-are all before copied front are is none joined =
    ap theorems (joined ∙ (λ i. none i ++ is i)) ∙ take-theorems CITED_FIRST all prelude_theorems are

pub before-made : (journal : Journal) (all before copied : List Recorded) (front : List Recorded) → AreMade journal all → before ≡ take CITED_FIRST all → front ≡ []
    → copied ≡ front ++ before → AreMade journal copied
before-made journal all before copied front made is none joined =
    subst (AreMade journal) (sym (joined ∙ (λ i. none i ++ is i))) (made-take journal CITED_FIRST all made)

-- the rest of them
pub behind-are : (all behind : List Recorded) → theorems all ≡ prelude_theorems → behind ≡ drop CITED_FIRST all → theorems behind ≡ drop CITED_FIRST prelude_theorems
behind-are all behind are is = ap theorems is ∙ drop-theorems CITED_FIRST all prelude_theorems are

pub behind-made : (old new : Journal) (all behind : List Recorded) → IsGrown old new → AreMade old all → behind ≡ drop CITED_FIRST all → AreMade new behind
behind-made old new all behind grown made is = subst (AreMade new) (sym is) (made-drop new CITED_FIRST all (made-grown old new all grown made))
