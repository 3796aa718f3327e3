-- Theorems that lead to a term.
use Rattle.std.proofs.Common.{◌≡◌, ℕ, List, [], ◌∷◌, ◌++◌, inl, inr, Bool, true, false, refl, sym, ap, ◌∙◌, subst, Option, Some, Result, Ok, Err, IsSome}
use Rattle.hol_model.specs.declared.fault.Fault.{Fault}
use Rattle.hol_model.specs.declared.fault.Fault.TheVariants.{TooLarge, NotEquation, NotAlpha}
use Rattle.hol_model.specs.Terms.NamedTerm.{NamedTerm, equation, is_within_limits}
use Rattle.hol_model.specs.Terms.Nameless.{Nameless, image}
use Rattle.hol_model.specs.Logic.Theory.{Theory}
use Rattle.hol_model.specs.Kernel.Outcome.{unless, given}
use Rattle.hol_model.specs.Kernel.Theorem.{Theorem, are_alpha_equivalent, with_hypotheses}
use Rattle.hol_model.specs.Kernel.Rules.{dest_equation, first_unknown, concluded, refl_outcome, trans_outcome}
use Rattle.hol_laws_refiners.specs.Laws.{IsEquationOf}
use Rattle.hol_laws_refiners.proofs.Equations.{equation-sides}
use Rattle.hol_journal.specs.Journal.{Recorded}
use Rattle.hol_journal.proofs.Showing.{refused-is, concluded-is}
use Rattle.hol_conv.specs.Makes.{Joins, Meets, IsRightSide}
use Rattle.hol_conv.specs.Converted.{same_theorem}
use Rattle.hol_conv.specs.Chains.{Equates, LeadTo, lead_nowhere, lead_on, LeadUpTo, Reflects, without_step, by_refl}
use Rattle.hol_conv.proofs.Answering.{some-sides}

no-theorem : {A : Type 0} {fault : Fault} {theorem : Theorem} → Err fault ≡ Ok theorem → A
no-theorem is = cc

-- ---- equations

pub is-equation-of : {t : NamedTerm} {theorem : Theorem} → IsEquationOf t theorem → IsSome (dest_equation theorem.conclusion)
is-equation-of of = some-sides of.is_equation

same-pair : {a b : NamedTerm × NamedTerm} → Some a ≡ Some b → a ≡ b
same-pair is = cc

pub equates-on : {t right : NamedTerm} {theorem : Theorem} → IsEquationOf t theorem → IsRightSide theorem right → Equates (image t) (image right) theorem
equates-on {t} {right} {theorem} of side =
    let sides : NamedTerm × NamedTerm = (side.left, right) in
    let same : of.sides ≡ sides = same-pair (sym of.is_equation ∙ side.is) in
    record { sides = of.sides; is = of.is_equation; left_is = of.same_left; right_is = ap (λ (s : NamedTerm × NamedTerm). image s.1) same }

equates-itself : (theory : Theory) (t : NamedTerm) (theorem : Theorem) → refl_outcome theory t ≡ Ok theorem → Equates (image t) (image t) theorem
equates-itself theory t theorem is =
    let made = concluded-is theory [] (equation t t) theorem (refused-is (first_unknown theory t) (concluded theory [] (equation t t)) theorem is) in
    subst (λ (theorem : Theorem). Equates (image t) (image t) theorem) (sym made) (record { sides = (t, t); is = equation-sides t t; left_is = refl; right_is = refl })

pub refl-equates : (theory : Theory) (t : NamedTerm) {theorem : Theorem} → Joins (refl_outcome theory t) (Ok theorem) → Equates (image t) (image t) theorem
refl-equates theory t {theorem} (inl is) = equates-itself theory t theorem (sym is)
refl-equates theory t (inr is) = no-theorem (sym is)

reflected-equates : {theory : Theory} {t : NamedTerm} {steps left : ℕ} {same : Result Theorem Fault} (theorem : Theorem) → Reflects theory t steps same left → same ≡ Ok theorem → Equates (image t) (image t) theorem
reflected-equates theorem without_step is = no-theorem is
reflected-equates {theory} {t} theorem (by_refl joins) is = refl-equates theory t (subst (λ (answer : Result Theorem Fault). Joins (refl_outcome theory t) answer) is joins)

pub reflects-equates : {theory : Theory} {t : NamedTerm} {steps left : ℕ} {same : Result Theorem Fault} {theorem : Theorem} → Reflects theory t steps same left → Joins same (Ok theorem)
    → Equates (image t) (image t) theorem
reflects-equates {theorem} reflects (inl is) = reflected-equates theorem reflects (sym is)
reflects-equates reflects (inr is) = no-theorem (sym is)

-- what TRANS answers
trans-equates : (theory : Theory) (a b joined : Theorem) {left middle there right : Nameless} → Equates left middle a → Equates there right b → trans_outcome theory a b ≡ Ok joined
    → Equates left right joined
trans-equates theory a b joined {left} {middle} {there} {right} first second is =
    let is = subst (λ (found : Option (NamedTerm × NamedTerm)).
    given found NotEquation (λ one. given (dest_equation b.conclusion) NotEquation (λ other. joins one other)) ≡ Ok joined) first.is is in
    let is = subst (λ (found : Option (NamedTerm × NamedTerm)). given found NotEquation (λ other. joins first.sides other) ≡ Ok joined) second.is is in
    go (are_alpha_equivalent first.sides.1 second.sides.0) (is_within_limits (equation first.sides.0 second.sides.1)) is
  where
    made : NamedTerm × NamedTerm → NamedTerm × NamedTerm → Theorem
    made one other = record { theory = theory; hypotheses = with_hypotheses a.hypotheses b.hypotheses; conclusion = equation one.0 other.1 }

    joins : NamedTerm × NamedTerm → NamedTerm × NamedTerm → Result Theorem Fault
    joins one other = unless (are_alpha_equivalent one.1 other.0) NotAlpha (unless (is_within_limits (equation one.0 other.1)) TooLarge (Ok (made one other)))

    go : (same fits : Bool) → unless same NotAlpha (unless fits TooLarge (Ok (made first.sides second.sides))) ≡ Ok joined → Equates left right joined
    go true true e =
        let same : made first.sides second.sides ≡ joined = cc in
        subst (λ (theorem : Theorem). Equates left right theorem) same
        (record { sides = (first.sides.0, second.sides.1); is = equation-sides first.sides.0 second.sides.1; left_is = first.left_is; right_is = second.right_is })
    go true false e = cc
    go false fits e = cc

-- ---- the last theorem

pub no-items : {A : Type 0} (items : List Recorded) (made : Recorded) → items ++ made ∷ [] ≡ [] → A
no-items [] made is = cc
no-items (first ∷ items) made is = cc

pub same-last : (xs ys : List Recorded) (x y : Recorded) → xs ++ x ∷ [] ≡ ys ++ y ∷ [] → (xs ≡ ys) × (x ≡ y)
same-last [] [] x y is =
    let same : x ≡ y = cc in
    (refl, same)
same-last [] (z ∷ ys) x y is =
    let rest : ys ++ y ∷ [] ≡ [] = cc in
    no-items ys y rest
same-last (z ∷ xs) [] x y is =
    let rest : xs ++ x ∷ [] ≡ [] = cc in
    no-items xs x rest
same-last (z ∷ xs) (w ∷ ys) x y is =
    let first : z ≡ w = cc in
    let rest : xs ++ x ∷ [] ≡ ys ++ y ∷ [] = cc in
    let same = same-last xs ys x y rest in
    (λ i. first i ∷ same.0 i, same.1)

record LastLeads (front : List Recorded) (made : Recorded) (end : Nameless) : Type 0 where
  middle : Nameless
  equates : Equates middle end made.theorem
  lead : LeadTo front middle

last-leads : {all : List Recorded} {end : Nameless} (front : List Recorded) (made : Recorded) → LeadTo all end → all ≡ front ++ made ∷ [] → LastLeads front made end
last-leads front made lead_nowhere is = no-items front made (sym is)
last-leads {all} {end} front made (lead_on {before} last {middle} equates lead) is =
    let same = same-last before front last made is in
    record {
      middle = middle;
      equates = subst (λ (m : Recorded). Equates middle end m.theorem) same.1 equates;
      lead = subst (λ (items : List Recorded). LeadTo items middle) same.0 lead;
    }

-- it meets what it leads to
pub last-meets : {all : List Recorded} {last : Theorem} (front : List Recorded) (made : Recorded) → LeadUpTo all last → all ≡ front ++ made ∷ [] → Meets made.theorem last
last-meets front made up is =
    let before = last-leads front made up.lead is in
    record {
      sides = before.equates.sides;
      further = up.equates.sides;
      first_is = before.equates.is;
      second_is = up.equates.is;
      middle = up.equates.left_is ∙ sym before.equates.right_is;
    }

-- and those before it lead to what it is joined to
pub front-leads : (theory : Theory) {all : List Recorded} {last joined : Theorem} (front : List Recorded) (made : Recorded) → LeadUpTo all last → all ≡ front ++ made ∷ []
    → Joins (trans_outcome theory made.theorem last) (Ok joined) → LeadUpTo front joined
front-leads theory {all} {last} {joined} front made up is (inl made_is) =
    let before = last-leads front made up.lead is in
    record { left = before.middle; right = up.right; equates = trans-equates theory made.theorem last joined before.equates up.equates (sym made_is); lead = before.lead }
front-leads theory front made up is (inr made_is) = no-theorem (sym made_is)

-- ---- that the term to which they lead equals itself
pub leads-up-same : (theory : Theory) {all : List Recorded} (t : NamedTerm) → LeadTo all (image t) → LeadUpTo all (same_theorem theory t)
leads-up-same theory t lead = record {
  left = image t;
  right = image t;
  equates = record { sides = (t, t); is = equation-sides t t; left_is = refl; right_is = refl };
  lead = lead;
}

-- ---- one more theorem

pub leads-behind : {before after : List Recorded} {middle end : Nameless} (made : Recorded) → LeadTo before middle → Equates middle end made.theorem → after ≡ before ++ made ∷ [] → LeadTo after end
leads-behind {before} {after} {middle} {end} made lead equates is =
    subst (λ (items : List Recorded). LeadTo items end) (sym is) (lead_on made equates lead)

pub leads-up : {all : List Recorded} {left right : Nameless} {last : Theorem} → LeadTo all left → Equates left right last → LeadUpTo all last
leads-up {all} {left} {right} lead equates = record { left = left; right = right; equates = equates; lead = lead }
