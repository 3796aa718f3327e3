-- Theorems of names, and the rules of theorems, gathered from left to right.
use Rattle.std.proofs.Common.{◌≡◌, ℕ, ◌<◌, ◌≤◌, ◌+◌, List, [], ◌∷◌, ◌++◌, map, length, drop, get_or, Option, None, Some, Ok, Err, refl, sym, ◌∙◌, ap}
use Rattle.std.proofs.Common.{subst, inl, inr, append-nil, append_assoc, add-one, drop-cons}
use Rattle.std.proofs.lemmas.List.{map-append, drop_all}
use Rattle.std.proofs.lemmas.Option.{slice_get_read}
use Rattle.std.specs.Option.{option_map}
use Rattle.hol_model.specs.declared.fault.Fault.{Fault}
use Rattle.hol_model.specs.Kernel.Theorem.{Theorem}
use Rattle.hol_model.specs.Goals.Justifications.{joined}
use Rattle.hol_model.specs.Goals.Replays.{Store}
use Rattle.hol_model.specs.Rewrites.Rewriting.{AnswersRules}
use Rattle.hol_model.specs.Refining.Refiners.{theorems_named, AnswersAllRules}
use Rattle.hol_journal.specs.Journal.{Journal, Recorded, IsMade}
use Rattle.hol_prelude_derivations.specs.Derivations.{AreMade, theorems}
use Rattle.hol_theorem_store.specs.Stored.{Stored, theorems_in}

-- ---- names

abbrev pub prefixed : List Theorem → Option (List Theorem) → Option (List Theorem)
prefixed done rest = option_map (λ theorems. done ++ theorems) rest

-- of these names the ones that are left stand behind theorems that were found
pub record NamedSoFar (store : Store) (all : List (List ℕ)) (done : List Theorem) (left : List (List ℕ)) : Type 0 where
  pub so_far : theorems_named store all ≡ prefixed done (theorems_named store left)

unprefixed : (found : Option (List Theorem)) → found ≡ prefixed [] found
unprefixed None = refl
unprefixed (Some theorems) = refl

one-more : (done : List Theorem) (theorem : Theorem) (rest : Option (List Theorem)) → prefixed done (joined (Some theorem) rest) ≡ prefixed (done ++ theorem ∷ []) rest
one-more done theorem None = refl
one-more done theorem (Some rest) = ap Some (sym (append_assoc done (theorem ∷ []) rest))

pub named-begin : (store : Store) (all : List (List ℕ)) → NamedSoFar store all [] all
named-begin store all = record { so_far = unprefixed (theorems_named store all) }

pub named-next : (store : Store) (all left : List (List ℕ)) (done : List Theorem) (name : List ℕ) (theorem : Theorem) → NamedSoFar store all done (name ∷ left)
    → store.named name ≡ Some theorem → NamedSoFar store all (done ++ theorem ∷ []) left
named-next store all left done name theorem h is = record {
  so_far = h.so_far ∙ ap (λ (found : Option Theorem). prefixed done (joined found (theorems_named store left))) is ∙ one-more done theorem (theorems_named store left);
}

pub named-stop : (store : Store) (all left : List (List ℕ)) (done : List Theorem) (name : List ℕ) → NamedSoFar store all done (name ∷ left) → store.named name ≡ None
    → theorems_named store all ≡ None
named-stop store all left done name h is = h.so_far ∙ ap (λ (found : Option Theorem). prefixed done (joined found (theorems_named store left))) is

pub named-end : (store : Store) (all : List (List ℕ)) (done : List Theorem) → NamedSoFar store all done [] → theorems_named store all ≡ Some done
named-end store all done h = h.so_far ∙ ap Some (append-nil done)

-- ---- rules

-- what is answered for the theorems that are left is answered for all, behind these rules
pub record RulesSoFar (all : List Theorem) (rules : List Theorem) (left : List Theorem) : Type 0 where
  pub goes_on : (more : List Theorem) → AnswersAllRules left (Ok more) → AnswersAllRules all (Ok (rules ++ more))
  pub stops : (fault : Fault) → AnswersAllRules left (Err fault) → AnswersAllRules all (Err fault)

pub rules-begin : (all : List Theorem) → RulesSoFar all [] all
rules-begin all = record { goes_on = λ more h. h; stops = λ fault h. h }

pub rules-next : (all rules more left : List Theorem) (theorem : Theorem) → RulesSoFar all rules (theorem ∷ left) → AnswersRules theorem (Ok more)
    → RulesSoFar all (rules ++ more) left
rules-next all rules more left theorem h is = record {
  goes_on = λ rest others.
      subst (λ (total : List Theorem). AnswersAllRules all (Ok total)) (sym (append_assoc rules more rest))
      (h.goes_on (more ++ rest) (more, rest, is, others, refl));
  stops = λ fault others. h.stops fault (inr others);
}

pub rules-stop : (all rules left : List Theorem) (theorem : Theorem) (fault : Fault) → RulesSoFar all rules (theorem ∷ left) → AnswersRules theorem (Err fault)
    → AnswersAllRules all (Err fault)
rules-stop all rules left theorem fault h is = h.stops fault (inl is)

pub rules-end : (all rules : List Theorem) → RulesSoFar all rules [] → AnswersAllRules all (Ok rules)
rules-end all rules h = subst (λ (total : List Theorem). AnswersAllRules all (Ok total)) (append-nil rules) (h.goes_on [] refl)

-- ---- lists of the code

abbrev theorem_of : Recorded → Theorem
theorem_of made = made.theorem

pub names-drop : {A : Type 0} (f : A → List ℕ) (names : List A) (i : ℕ) (name : A) → i < length names → name ≡ get_or names i name
    → map f (drop i names) ≡ f name ∷ map f (drop (i + 1) names)
names-drop f names i name within is = rw (add-one, drop-cons names i name within, ← is) refl

pub theorems-drop : (all : List Recorded) (i : ℕ) (made : Recorded) → i < length all → made ≡ get_or all i made
    → theorems (drop i all) ≡ made.theorem ∷ theorems (drop (i + 1) all)
theorems-drop all i made within is = rw (add-one, drop-cons all i made within, ← is) refl

-- the theorem of the next name
pub next-named : {A : Type 0} (store : Stored) (f : A → List ℕ) (names : List A) (done : List Recorded) (i : ℕ) (name : A) (made : Recorded) → i < length names → name ≡ get_or names i name
    → NamedSoFar (theorems_in store) (map f names) (theorems done) (map f (drop i names)) → store.theorems (f name) ≡ Some made
    → NamedSoFar (theorems_in store) (map f names) (theorems (done ++ made ∷ [])) (map f (drop (i + 1) names))
next-named {A = A} store f names done i name made within is h found =
    let here = subst (λ (left : List (List ℕ)). NamedSoFar (theorems_in store) (map f names) (theorems done) left) (names-drop f names i name within is) h in
    let next = named-next (theorems_in store) (map f names) (map f (drop (i + 1) names)) (theorems done) (f name) made.theorem here
    (ap (λ (answer : Option Recorded). option_map theorem_of answer) found) in
    subst (λ (all : List Theorem). NamedSoFar (theorems_in store) (map f names) all (map f (drop (i + 1) names)))
    (sym (map-append theorem_of done (made ∷ []))) next

-- there is none
pub stop-named : {A : Type 0} (store : Stored) (f : A → List ℕ) (names : List A) (done : List Recorded) (i : ℕ) (name : A) → i < length names → name ≡ get_or names i name
    → NamedSoFar (theorems_in store) (map f names) (theorems done) (map f (drop i names)) → store.theorems (f name) ≡ None
    → theorems_named (theorems_in store) (map f names) ≡ None
stop-named {A = A} store f names done i name within is h found =
    let here = subst (λ (left : List (List ℕ)). NamedSoFar (theorems_in store) (map f names) (theorems done) left) (names-drop f names i name within is) h in
    named-stop (theorems_in store) (map f names) (map f (drop (i + 1) names)) (theorems done) (f name) here
    (ap (λ (answer : Option Recorded). option_map theorem_of answer) found)

pub end-named : {A : Type 0} (store : Stored) (f : A → List ℕ) (names : List A) (done : List Recorded) (i : ℕ) → length names ≤ i
    → NamedSoFar (theorems_in store) (map f names) (theorems done) (map f (drop i names))
    → theorems_named (theorems_in store) (map f names) ≡ Some (theorems done)
end-named {A = A} store f names done i past h =
    named-end (theorems_in store) (map f names) (theorems done)
    (subst (λ (left : List A). NamedSoFar (theorems_in store) (map f names) (theorems done) (map f left)) (drop_all i names past) h)

-- the rules of the next theorem
pub next-rules : (all rules more : List Recorded) (i : ℕ) (made : Recorded) → i < length all → made ≡ get_or all i made
    → RulesSoFar (theorems all) (theorems rules) (theorems (drop i all)) → AnswersRules made.theorem (Ok (theorems more))
    → RulesSoFar (theorems all) (theorems (rules ++ more)) (theorems (drop (i + 1) all))
next-rules all rules more i made within is h answers =
    let here = subst (λ (left : List Theorem). RulesSoFar (theorems all) (theorems rules) left) (theorems-drop all i made within is) h in
    subst (λ (gathered : List Theorem). RulesSoFar (theorems all) gathered (theorems (drop (i + 1) all))) (sym (map-append theorem_of rules more))
    (rules-next (theorems all) (theorems rules) (theorems more) (theorems (drop (i + 1) all)) made.theorem here answers)

pub stop-rules : (all rules : List Recorded) (i : ℕ) (made : Recorded) (fault : Fault) → i < length all → made ≡ get_or all i made
    → RulesSoFar (theorems all) (theorems rules) (theorems (drop i all)) → AnswersRules made.theorem (Err fault) → AnswersAllRules (theorems all) (Err fault)
stop-rules all rules i made fault within is h answers =
    let here = subst (λ (left : List Theorem). RulesSoFar (theorems all) (theorems rules) left) (theorems-drop all i made within is) h in
    rules-stop (theorems all) (theorems rules) (theorems (drop (i + 1) all)) made.theorem fault here answers

pub end-rules : (all rules : List Recorded) (i : ℕ) → length all ≤ i → RulesSoFar (theorems all) (theorems rules) (theorems (drop i all))
    → AnswersAllRules (theorems all) (Ok (theorems rules))
end-rules all rules i past h =
    rules-end (theorems all) (theorems rules) (subst (λ (left : List Recorded). RulesSoFar (theorems all) (theorems rules) (theorems left)) (drop_all i all past) h)

-- ---- what the recorder made

pub none-made : (journal : Journal) → AreMade journal []
none-made journal = record { each = λ number made there. cc }

pub made-at : (journal : Journal) (all : List Recorded) (i : ℕ) (made : Recorded) → i < length all → made ≡ get_or all i made → AreMade journal all → IsMade journal made
made-at journal all i made within is are = are.each i made (slice_get_read all (length all) i made refl within is)
