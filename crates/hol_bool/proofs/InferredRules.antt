-- A call that answers what a rule's outcome states answers what the table of rules draws.
use Rattle.std.proofs.Common.{◌≡◌, [], ◌∷◌, ◌++◌, Some, Result}
use Rattle.hol_model.specs.declared.fault.Fault.{Fault}
use Rattle.hol_model.specs.Terms.HolType.{HolType}
use Rattle.hol_model.specs.Terms.NamedTerm.{NamedTerm, type_of}
use Rattle.hol_model.specs.Terms.Nameless.{image}
use Rattle.hol_model.specs.Logic.Theory.{Theory, IsLegal}
use Rattle.hol_model.specs.Kernel.Theorem.{Theorem}
use Rattle.hol_model.specs.Derived.DerivedRules.{AnswersStated, terms_of_theorem, eqt_intro_outcome, conj_outcome, eqt_elim_outcome}
use Rattle.hol_model.specs.Derived.DerivedRules.{conjunct1_outcome, conjunct2_outcome, disch_outcome, undisch_outcome, mp_outcome, disj1_outcome}
use Rattle.hol_model.specs.Derived.DerivedRules.{disj2_outcome, disj_cases_outcome, contr_outcome, not_intro_outcome, not_elim_outcome}
use Rattle.hol_model.specs.declared.rule.Rule.TheVariants as rules
use Rattle.hol_journal.specs.Journal.{Journal}
use Rattle.hol_prelude.specs.HasLogic.{HasLogic}
use Rattle.hol_equal.specs.Inferred.{Infers}
use Rattle.hol_prelude.specs.declared.stored.Bool.{Bool as Stored}
use Rattle.hol_equal.proofs.DrawnTerms.{IsPremise}
use Rattle.hol_equal.proofs.DrawnEquality.{drawn-eqt_intro, drawn-conj}
use Rattle.hol_bool.proofs.DrawnConnectives.{drawn-eqt_elim, drawn-conjunct1, drawn-conjunct2, drawn-disch, drawn-undisch, drawn-mp, drawn-disj1}
use Rattle.hol_bool.proofs.DrawnConnectives.{drawn-disj2, drawn-disj_cases, drawn-contr, drawn-not_intro, drawn-not_elim}
use Rattle.hol_equal.proofs.InferredEquality.{infers}

-- ---- each rule

pub infers_eqt_intro : {theory : Theory} {a : Theorem} {result : Result Theorem Fault} → IsPremise theory a
    → AnswersStated result (terms_of_theorem a) (eqt_intro_outcome a) → Infers theory rules.EqtIntro (a ∷ []) result
infers_eqt_intro {theory} {a} {result} premise answers =
    infers theory rules.EqtIntro (a ∷ []) (terms_of_theorem a) (eqt_intro_outcome a) result (drawn-eqt_intro theory a premise) answers

pub infers_conj : {theory : Theory} {a b : Theorem} {result : Result Theorem Fault}
    → AnswersStated result (terms_of_theorem a ++ terms_of_theorem b) (conj_outcome a b) → Infers theory rules.Conj (a ∷ b ∷ []) result
infers_conj {theory} {a} {b} {result} answers =
    infers theory rules.Conj (a ∷ b ∷ []) (terms_of_theorem a ++ terms_of_theorem b) (conj_outcome a b) result (drawn-conj theory a b) answers

pub infers_eqt_elim : {journal : Journal} {logic : Stored} {a : Theorem} {result : Result Theorem Fault} → HasLogic journal logic
    → IsLegal journal.theory → IsPremise journal.theory a → AnswersStated result (terms_of_theorem a) (eqt_elim_outcome a)
    → Infers journal.theory rules.EqtElim (a ∷ []) result
infers_eqt_elim {journal} {logic} {a} {result} has legal premise answers =
    infers journal.theory rules.EqtElim (a ∷ []) (terms_of_theorem a) (eqt_elim_outcome a) result (drawn-eqt_elim journal logic has legal a premise) answers

pub infers_conjunct1 : {journal : Journal} {logic : Stored} {a : Theorem} {result : Result Theorem Fault} → HasLogic journal logic
    → IsLegal journal.theory → IsPremise journal.theory a → AnswersStated result (terms_of_theorem a) (conjunct1_outcome a)
    → Infers journal.theory rules.Conjunct1 (a ∷ []) result
infers_conjunct1 {journal} {logic} {a} {result} has legal premise answers =
    infers journal.theory rules.Conjunct1 (a ∷ []) (terms_of_theorem a) (conjunct1_outcome a) result (drawn-conjunct1 journal logic has legal a premise) answers

pub infers_conjunct2 : {journal : Journal} {logic : Stored} {a : Theorem} {result : Result Theorem Fault} → HasLogic journal logic
    → IsLegal journal.theory → IsPremise journal.theory a → AnswersStated result (terms_of_theorem a) (conjunct2_outcome a)
    → Infers journal.theory rules.Conjunct2 (a ∷ []) result
infers_conjunct2 {journal} {logic} {a} {result} has legal premise answers =
    infers journal.theory rules.Conjunct2 (a ∷ []) (terms_of_theorem a) (conjunct2_outcome a) result (drawn-conjunct2 journal logic has legal a premise) answers

pub infers_disch : {theory : Theory} {p : NamedTerm} {ty : HolType} {a : Theorem} {result : Result Theorem Fault} → type_of p ≡ Some ty
    → AnswersStated result (image p ∷ terms_of_theorem a) (disch_outcome theory p a) → Infers theory (rules.Disch p) (a ∷ []) result
infers_disch {theory} {p} {ty} {a} {result} typed answers =
    infers theory (rules.Disch p) (a ∷ []) (image p ∷ terms_of_theorem a) (disch_outcome theory p a) result (drawn-disch theory p ty a typed) answers

pub infers_undisch : {journal : Journal} {logic : Stored} {a : Theorem} {result : Result Theorem Fault} → HasLogic journal logic
    → IsLegal journal.theory → IsPremise journal.theory a → AnswersStated result (terms_of_theorem a) (undisch_outcome a)
    → Infers journal.theory rules.Undisch (a ∷ []) result
infers_undisch {journal} {logic} {a} {result} has legal premise answers =
    infers journal.theory rules.Undisch (a ∷ []) (terms_of_theorem a) (undisch_outcome a) result (drawn-undisch journal logic has legal a premise) answers

pub infers_mp : {journal : Journal} {logic : Stored} {a b : Theorem} {result : Result Theorem Fault} → HasLogic journal logic
    → IsLegal journal.theory → IsPremise journal.theory a → AnswersStated result (terms_of_theorem a ++ terms_of_theorem b) (mp_outcome a b)
    → Infers journal.theory rules.Mp (a ∷ b ∷ []) result
infers_mp {journal} {logic} {a} {b} {result} has legal premise answers =
    infers journal.theory rules.Mp (a ∷ b ∷ []) (terms_of_theorem a ++ terms_of_theorem b) (mp_outcome a b) result (drawn-mp journal logic has legal a b premise) answers

pub infers_disj1 : {theory : Theory} {q : NamedTerm} {ty : HolType} {a : Theorem} {result : Result Theorem Fault} → type_of q ≡ Some ty
    → AnswersStated result (image q ∷ terms_of_theorem a) (disj1_outcome theory q a) → Infers theory (rules.Disj1 q) (a ∷ []) result
infers_disj1 {theory} {q} {ty} {a} {result} typed answers =
    infers theory (rules.Disj1 q) (a ∷ []) (image q ∷ terms_of_theorem a) (disj1_outcome theory q a) result (drawn-disj1 theory q ty a typed) answers

pub infers_disj2 : {theory : Theory} {p : NamedTerm} {ty : HolType} {a : Theorem} {result : Result Theorem Fault} → type_of p ≡ Some ty
    → AnswersStated result (image p ∷ terms_of_theorem a) (disj2_outcome theory p a) → Infers theory (rules.Disj2 p) (a ∷ []) result
infers_disj2 {theory} {p} {ty} {a} {result} typed answers =
    infers theory (rules.Disj2 p) (a ∷ []) (image p ∷ terms_of_theorem a) (disj2_outcome theory p a) result (drawn-disj2 theory p ty a typed) answers

pub infers_disj_cases : {journal : Journal} {logic : Stored} {a b c : Theorem} {result : Result Theorem Fault} → HasLogic journal logic
    → IsLegal journal.theory → IsPremise journal.theory a
    → AnswersStated result (terms_of_theorem a ++ (terms_of_theorem b ++ terms_of_theorem c)) (disj_cases_outcome a b c)
    → Infers journal.theory rules.DisjCases (a ∷ b ∷ c ∷ []) result
infers_disj_cases {journal} {logic} {a} {b} {c} {result} has legal premise answers =
    infers journal.theory rules.DisjCases (a ∷ b ∷ c ∷ []) (terms_of_theorem a ++ (terms_of_theorem b ++ terms_of_theorem c))
    (disj_cases_outcome a b c) result (drawn-disj_cases journal logic has legal a b c premise) answers

pub infers_contr : {journal : Journal} {logic : Stored} {p : NamedTerm} {ty : HolType} {a : Theorem} {result : Result Theorem Fault}
    → HasLogic journal logic → IsLegal journal.theory → type_of p ≡ Some ty → IsPremise journal.theory a
    → AnswersStated result (image p ∷ terms_of_theorem a) (contr_outcome journal.theory p a) → Infers journal.theory (rules.Contr p) (a ∷ []) result
infers_contr {journal} {logic} {p} {ty} {a} {result} has legal typed premise answers =
    infers journal.theory (rules.Contr p) (a ∷ []) (image p ∷ terms_of_theorem a) (contr_outcome journal.theory p a) result (drawn-contr journal logic has legal p ty a typed premise) answers

pub infers_not_intro : {journal : Journal} {logic : Stored} {a : Theorem} {result : Result Theorem Fault} → HasLogic journal logic
    → IsLegal journal.theory → IsPremise journal.theory a → AnswersStated result (terms_of_theorem a) (not_intro_outcome a)
    → Infers journal.theory rules.NotIntro (a ∷ []) result
infers_not_intro {journal} {logic} {a} {result} has legal premise answers =
    infers journal.theory rules.NotIntro (a ∷ []) (terms_of_theorem a) (not_intro_outcome a) result (drawn-not_intro journal logic has legal a premise) answers

pub infers_not_elim : {journal : Journal} {logic : Stored} {a : Theorem} {result : Result Theorem Fault} → HasLogic journal logic
    → IsLegal journal.theory → IsPremise journal.theory a → AnswersStated result (terms_of_theorem a) (not_elim_outcome a)
    → Infers journal.theory rules.NotElim (a ∷ []) result
infers_not_elim {journal} {logic} {a} {result} has legal premise answers =
    infers journal.theory rules.NotElim (a ∷ []) (terms_of_theorem a) (not_elim_outcome a) result (drawn-not_elim journal logic has legal a premise) answers
