-- The lines of entries and claims over written parts.
use Rattle.std.proofs.Common.{◌≡◌, ℕ, ◌+◌, ◌<◌, List, [], ◌∷◌, ◌++◌, length, get_or, take, map, Result, Ok, Err, OnOk, refl, sym, ◌∙◌, ap, subst, append_assoc}
use Rattle.std.proofs.lemmas.List.{take_more}
use Rattle.hol_model.specs.Terms.HolType.{HolType}
use Rattle.hol_model.specs.Terms.NamedTerm.{NamedTerm}
use Rattle.hol_model.specs.Logs.LogLine.{LogRule, LogLine, inst_step, inst_type_step, definition_step}
use Rattle.hol_model.specs.Logs.LogLine.LogLine.{claim_line, theorem_line, new_constant_line}
use Rattle.hol_model.specs.Goals.Goals.{Sequent}
use Rattle.hol_journal.specs.Steps.{Step, by_inst, by_inst_type, by_definition, JournalEntry, derived, declared_constant, both_parts, terms_of, types_of}
use Rattle.hol_journal_log.specs.LogWriting.{Written, Claimed, with_line, write_claim, write_entry, write_types, number_of_type, number_of_term, number_of_entry, theorem_number}
use Rattle.hol_journal_log.specs.Writing.{IsTypeWritten, IsTermWritten, AreTypesWritten, AreTermsWritten, IsStepWritten}
use Rattle.hol_journal_log.proofs.WrittenLemmas.{Grows, Grows-twice, write_term-grows, write_types-grows, write_terms-grows, one_more_type, one_more_term, first_of_more}

-- the items before a place, and the item there
pub next_item : {X : Type 0} (xs : List X) (i : ℕ) (x : X) → i < length xs → x ≡ get_or xs i x → take (i + 1) xs ≡ take i xs ++ x ∷ []
next_item xs i x within is = take_more xs i x within ∙ ap (λ y. take i xs ++ y ∷ []) (sym is)

pub term_turn : (old w new : Written) (before front longer : List NamedTerm) (x : NamedTerm) (ns new_ns : List ℕ) (n : ℕ) → AreTermsWritten old w (before ++ front) ns → IsTermWritten w new x n
    → longer ≡ front ++ x ∷ [] → new_ns ≡ ns ++ n ∷ [] → AreTermsWritten old new (before ++ longer) new_ns
term_turn old w new before front longer x ns new_ns n are is longer_is ns_is =
    let more : AreTermsWritten old new ((before ++ front) ++ x ∷ []) (ns ++ n ∷ []) = one_more_term old w new (before ++ front) x ns n are is in
    let items : (before ++ front) ++ x ∷ [] ≡ before ++ longer = append_assoc before front (x ∷ []) ∙ ap (λ l. before ++ l) (sym longer_is) in
    subst (AreTermsWritten old new (before ++ longer)) (sym ns_is) (subst (λ l. AreTermsWritten old new l (ns ++ n ∷ [])) items more)

pub both_parts-push : {A : Type 0} (pairs : List (A × A)) (first second : A) → both_parts (pairs ++ (first, second) ∷ []) ≡ (both_parts pairs ++ first ∷ []) ++ second ∷ []
both_parts-push [] first second = refl
both_parts-push (pair ∷ pairs) first second = ap (λ l. pair.0 ∷ pair.1 ∷ l) (both_parts-push pairs first second)

both_parts-map : {A B : Type 0} (f : A → B) (pairs : List (A × A)) → map f (both_parts pairs) ≡ both_parts (map (λ pair. (f pair.0, f pair.1)) pairs)
both_parts-map f [] = refl
both_parts-map f (pair ∷ pairs) = ap (λ l. f pair.0 ∷ f pair.1 ∷ l) (both_parts-map f pairs)

both_parts-injective : {A : Type 0} (xs ys : List (A × A)) → both_parts xs ≡ both_parts ys → xs ≡ ys
both_parts-injective [] [] same = refl
both_parts-injective [] (y ∷ ys) same = cc
both_parts-injective (x ∷ xs) [] same = cc
both_parts-injective {A} (x ∷ xs) (y ∷ ys) same =
    let first : x.0 ≡ y.0 = cc in
    let second : x.1 ≡ y.1 = cc in
    let rest : both_parts xs ≡ both_parts ys = cc in
    let deeper : xs ≡ ys = both_parts-injective xs ys rest in
    let pair : x ≡ y = λ i. (first i, second i) in
    cc (pair, deeper)

pub term_pair_turn : (old w one two : Written) (front longer : List (NamedTerm × NamedTerm)) (x : NamedTerm × NamedTerm) (ns new_ns : List (ℕ × ℕ)) (a b : ℕ)
    → AreTermsWritten old w (both_parts front) (both_parts ns) → IsTermWritten w one x.0 a → IsTermWritten one two x.1 b
    → longer ≡ front ++ x ∷ [] → new_ns ≡ ns ++ (a, b) ∷ [] → AreTermsWritten old two (both_parts longer) (both_parts new_ns)
term_pair_turn old w one two front longer x ns new_ns a b are first second longer_is ns_is =
    let more = one_more_term old one two (both_parts front ++ x.0 ∷ []) x.1 (both_parts ns ++ a ∷ []) b (one_more_term old w one (both_parts front) x.0 (both_parts ns) a are first) second in
    let items : (both_parts front ++ x.0 ∷ []) ++ x.1 ∷ [] ≡ both_parts longer = sym (both_parts-push front x.0 x.1) ∙ ap both_parts (sym longer_is) in
    let numbers : (both_parts ns ++ a ∷ []) ++ b ∷ [] ≡ both_parts new_ns = sym (both_parts-push ns a b) ∙ ap both_parts (sym ns_is) in
    subst (AreTermsWritten old two (both_parts longer)) numbers (subst (λ l. AreTermsWritten old two l ((both_parts ns ++ a ∷ []) ++ b ∷ [])) items more)

pub type_pair_turn : (old w one two : Written) (front longer : List (HolType × HolType)) (x : HolType × HolType) (ns new_ns : List (ℕ × ℕ)) (a b : ℕ)
    → AreTypesWritten old w (both_parts front) (both_parts ns) → IsTypeWritten w one x.0 a → IsTypeWritten one two x.1 b
    → longer ≡ front ++ x ∷ [] → new_ns ≡ ns ++ (a, b) ∷ [] → AreTypesWritten old two (both_parts longer) (both_parts new_ns)
type_pair_turn old w one two front longer x ns new_ns a b are first second longer_is ns_is =
    let more = one_more_type old one two (both_parts front ++ x.0 ∷ []) x.1 (both_parts ns ++ a ∷ []) b (one_more_type old w one (both_parts front) x.0 (both_parts ns) a are first) second in
    let items : (both_parts front ++ x.0 ∷ []) ++ x.1 ∷ [] ≡ both_parts longer = sym (both_parts-push front x.0 x.1) ∙ ap both_parts (sym longer_is) in
    let numbers : (both_parts ns ++ a ∷ []) ++ b ∷ [] ≡ both_parts new_ns = sym (both_parts-push ns a b) ∙ ap both_parts (sym ns_is) in
    subst (AreTypesWritten old two (both_parts longer)) numbers (subst (λ l. AreTypesWritten old two l ((both_parts ns ++ a ∷ []) ++ b ∷ [])) items more)

-- the lines of the instance rules

pub inst_line : (old new : Written) (step : Step) (theorem number : ℕ) (slice pairs : List (NamedTerm × NamedTerm)) (numbers : List (ℕ × ℕ)) → step ≡ by_inst theorem pairs → slice ≡ pairs
    → AreTermsWritten old new (both_parts slice) (both_parts numbers) → number ≡ number_of_entry old theorem → IsStepWritten old new step (inst_step number numbers)
inst_line old new step theorem number slice pairs numbers is same are at =
    let terms : AreTermsWritten old new (both_parts pairs) (both_parts numbers) = subst (λ l. AreTermsWritten old new (both_parts l) (both_parts numbers)) same are in
    let lines : numbers ≡ map (λ pair. (number_of_term new pair.0, number_of_term new pair.1)) pairs = both_parts-injective numbers _ (terms.numbered ∙ both_parts-map (number_of_term new) pairs) in
    let grows : Grows old new = subst (Grows old) (sym terms.written) (write_terms-grows (both_parts pairs) old) in
    let cited : number ≡ number_of_entry new theorem = at ∙ ap (λ entries. theorem_number entries theorem) (sym grows.theorems) in
    subst (λ s. IsStepWritten old new s (inst_step number numbers)) (sym is) (record { written = terms.written; is_line = cc (lines, cited) })

pub inst_type_line : (old new : Written) (step : Step) (theorem number : ℕ) (slice pairs : List (HolType × HolType)) (numbers : List (ℕ × ℕ)) → step ≡ by_inst_type theorem pairs → slice ≡ pairs
    → AreTypesWritten old new (both_parts slice) (both_parts numbers) → number ≡ number_of_entry old theorem → IsStepWritten old new step (inst_type_step number numbers)
inst_type_line old new step theorem number slice pairs numbers is same are at =
    let types : AreTypesWritten old new (both_parts pairs) (both_parts numbers) = subst (λ l. AreTypesWritten old new (both_parts l) (both_parts numbers)) same are in
    let lines : numbers ≡ map (λ pair. (number_of_type new pair.0, number_of_type new pair.1)) pairs = both_parts-injective numbers _ (types.numbered ∙ both_parts-map (number_of_type new) pairs) in
    let grows : Grows old new = subst (Grows old) (sym types.written) (write_types-grows (both_parts pairs) old) in
    let cited : number ≡ number_of_entry new theorem = at ∙ ap (λ entries. theorem_number entries theorem) (sym grows.theorems) in
    subst (λ s. IsStepWritten old new s (inst_type_step number numbers)) (sym is) (record { written = types.written; is_line = cc (lines, cited) })

-- what a step names has no theorem's line
pub theorems_of_step : (old new : Written) (step : Step) (line : LogRule) → IsStepWritten old new step line → new.theorems ≡ old.theorems
theorems_of_step old new step line is =
    let middle : Written = write_types (types_of step) old in
    let grows : Grows old new = subst (Grows old) (sym is.written) (Grows-twice old middle _ (write_types-grows (types_of step) old) (write_terms-grows (terms_of step) middle)) in
    grows.theorems

pub theorems_of_term : (old new : Written) (term : NamedTerm) (number : ℕ) → IsTermWritten old new term number → new.theorems ≡ old.theorems
theorems_of_term old new term number is = let grows : Grows old new = subst (Grows old) (sym is.written) (write_term-grows term old) in grows.theorems

pub nothing_before : (old : Written) → AreTermsWritten old old [] []
nothing_before old = record { written = refl; numbered = refl }

-- a claim behind its terms
pub claim_answers : {A E : Type 0} (answer : Result A E) (old one two new : Written) (claim : Claimed) (theorem conclusion : ℕ) (hypotheses : List ℕ)
    → IsTermWritten old one claim.made.theorem.conclusion conclusion → AreTermsWritten one two claim.made.theorem.hypotheses hypotheses → theorem ≡ number_of_entry two claim.made.entry
    → OnOk answer (new ≡ with_line (claim_line claim.name theorem conclusion hypotheses) two) → OnOk answer (new ≡ write_claim claim old)
claim_answers (Ok x) old one two new claim theorem conclusion hypotheses is are at put =
    let both = first_of_more old one two claim.made.theorem.conclusion conclusion claim.made.theorem.hypotheses hypotheses is are in
    let line : claim_line claim.name theorem conclusion hypotheses ≡ claim_line claim.name (number_of_entry two claim.made.entry)
    (number_of_term two claim.made.theorem.conclusion) (map (number_of_term two) claim.made.theorem.hypotheses) = cc (at, both.1, are.numbered) in
    put ∙ (ap (λ l. with_line l two) line
    ∙ ap (λ w. with_line (claim_line claim.name (number_of_entry w claim.made.entry) (number_of_term w claim.made.theorem.conclusion)
    (map (number_of_term w) claim.made.theorem.hypotheses)) w) both.0)
claim_answers (Err e) old one two new claim theorem conclusion hypotheses is are at put = tt

-- a definition behind its term, and a declared constant behind its type

pub definition_answers : {A E : Type 0} (answer : Result A E) (old one new : Written) (place number : ℕ) (entry : JournalEntry) (text name : List ℕ) (term : NamedTerm) (sequent : Sequent)
    → entry ≡ derived (by_definition name term) sequent → text ≡ name → IsTermWritten old one term number
    → OnOk answer (new ≡ record one { theorems = one.theorems ++ place ∷ []; lines = one.lines ++ theorem_line (definition_step text number) ∷ [] })
    → OnOk answer (new ≡ write_entry place entry old)
definition_answers (Ok x) old one new place number entry text name term sequent is same written put =
    let line : theorem_line (definition_step text number) ≡ theorem_line (definition_step name (number_of_term one term)) = cc (same, written.numbered) in
    let with_place : LogLine → Written → Written = λ l w. record w { theorems = w.theorems ++ place ∷ []; lines = w.lines ++ l ∷ [] } in
    put ∙ (ap (λ (l : LogLine). with_place l one) line
    ∙ (ap (λ (w : Written). with_place (theorem_line (definition_step name (number_of_term w term))) w) written.written ∙ ap (λ e. write_entry place e old) (sym is)))
definition_answers (Err e) old one new place number entry text name term sequent is same written put = tt

pub declaration_answers : {A E : Type 0} (answer : Result A E) (old one new : Written) (place number : ℕ) (entry : JournalEntry) (text name : List ℕ) (ty : HolType)
    → entry ≡ declared_constant name ty → text ≡ name → IsTypeWritten old one ty number
    → OnOk answer (new ≡ with_line (new_constant_line text number) one) → OnOk answer (new ≡ write_entry place entry old)
declaration_answers (Ok x) old one new place number entry text name ty is same written put =
    let line : new_constant_line text number ≡ new_constant_line name (number_of_type one ty) = cc (same, written.numbered) in
    put ∙ (ap (λ l. with_line l one) line ∙ (ap (λ w. with_line (new_constant_line name (number_of_type w ty)) w) written.written ∙ ap (λ e. write_entry place e old) (sym is)))
declaration_answers (Err e) old one new place number entry text name ty is same written put = tt
