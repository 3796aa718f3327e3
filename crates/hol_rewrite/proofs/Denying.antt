-- From a denied formula, that it is false: what each step states.
use Rattle.std.proofs.Common.{◌≡◌, List, [], ◌∷◌, ◌++◌, Bool, true, false, refl, sym, ◌∙◌, ap, subst, inl, inr, Some, Result, Ok, Err, IfOk}
use Rattle.hol_model.specs.declared.fault.Fault.{Fault}
use Rattle.hol_model.specs.declared.fault.Fault.TheVariants.{NotBool}
use Rattle.hol_model.specs.Terms.HolType.{bool_type}
use Rattle.hol_model.specs.Terms.NamedTerm.{NamedTerm, equation}
use Rattle.hol_model.specs.Logic.NamedLogic.{false_term, negation, implication, dest_negation}
use Rattle.hol_model.specs.Terms.Nameless.{Nameless, free, const, bound, app, lam, image, same_term}
use Rattle.hol_model.specs.Logic.Logic.{not_name, unary}
use Rattle.hol_model.specs.Logic.Theory.{Theory, IsLegal}
use Rattle.hol_model.specs.Logic.Derivable.{IsMember, IsSameSet, without}
use Rattle.hol_model.specs.Kernel.Theorem.{Theorem}
use Rattle.hol_model.specs.Kernel.Outcome.{refused}
use Rattle.hol_model.specs.Kernel.Rules.{first_unknown, is_formula, assume_outcome}
use Rattle.hol_model.specs.Derived.DerivedRules.{AnswersStated, images, terms_of_theorem, stated, not_elim_outcome, undisch_outcome, contr_outcome}
use Rattle.hol_model.proofs.Tests.{same_term-Decides}
use Rattle.hol_model.proofs.Terms.Membership.{of_append, IsMember-append_right}
use Rattle.hol_journal.specs.Journal.{Journal, Recorded}
use Rattle.hol_journal.proofs.GrowthLemmas.{journals-grow}
use Rattle.hol_journal.proofs.Showing.{refused-is, unless-is, ok_is}
use Rattle.hol_journal.specs.Growth.{Continues}
use Rattle.hol_equal.specs.Sequents.{Shows, DerivesIf}
use Rattle.hol_equal.specs.Formulas.{IsFormula}
use Rattle.hol_prelude.specs.HasLogic.{HasLogic}
use Rattle.hol_prelude.specs.declared.stored.Bool.{Bool as Stored}
use Rattle.hol_equal.proofs.StepLemmas.{no_unknown, not_without, of_without, in_without}
use Rattle.hol_equal.proofs.CutLemmas.{shows-set}
use Rattle.hol_equal.proofs.LemmaLemmas.{without-itself}
use Rattle.hol_bool.proofs.LogicLemmas.{logical-type, negated-part}
use Rattle.hol_rewrite.specs.Rules.{Concludes}
use Rattle.hol_rewrite.proofs.Steps.{stated-ok}

pub continues-twice : (first second third : Journal) (one two : Result Recorded Fault) → Continues first second one → Continues second third two → Continues first third two
continues-twice first second third one two before after = record {
  grown = journals-grow.twice first second third before.grown after.grown;
  theory = after.theory ∙ before.theory;
  held = after.held;
}

pub assumed-is : (theory : Theory) (term : NamedTerm) (theorem : Theorem) → assume_outcome theory term ≡ Ok theorem → theorem ≡ record { theory = theory; hypotheses = term ∷ []; conclusion = term }
assumed-is theory term theorem is =
    let made : Theorem = record { theory = theory; hypotheses = term ∷ []; conclusion = term } in
    let one = unless-is (is_formula term) NotBool (refused (first_unknown theory term) (Ok made)) theorem is in
    sym (ok_is made theorem (refused-is (first_unknown theory term) (Ok made) theorem one.1))

-- the denied formula
pub record IsDenied (theory : Theory) (denial part : NamedTerm) : Type 0 where
  pub is : denial ≡ negation part
  pub formula : IsFormula theory part

pub denied-at : (journal : Journal) (logic : Stored) → HasLogic journal logic → IsLegal journal.theory → (denial part : NamedTerm) → dest_negation denial ≡ Some part → IsFormula journal.theory denial
    → IsDenied journal.theory denial part
denied-at journal logic has legal denial part dest formula =
    let at = negated-part journal.theory (logical-type journal logic has legal not_name unary refl) denial part dest formula.known in
    record { is = at.is; formula = at.formula }

pub not_elim-is : (theorem : Theorem) (part : NamedTerm) → theorem.conclusion ≡ negation part → not_elim_outcome theorem ≡ stated (images theorem) (implication part false_term)
not_elim-is theorem part is = rw is refl

pub undisch-is : (theorem : Theorem) (part : NamedTerm) → theorem.conclusion ≡ implication part false_term → undisch_outcome theorem ≡ stated (image part ∷ images theorem) false_term
undisch-is theorem part is = rw is refl

pub contr-is : (theory : Theory) (theorem : Theorem) (part : NamedTerm) → theorem.conclusion ≡ false_term → IsFormula theory part → contr_outcome theory part theorem ≡ stated (images theorem) part
contr-is theory theorem part is formula = rw (is, formula.typed, no_unknown theory part bool_type formula.known) refl

-- sets

app-differs : (c t : Nameless) → app c t ≡ t → ⊥
app-differs c (app f x) e = let deeper : app f x ≡ x = cc in app-differs f x deeper
app-differs c (free n s) e = cc
app-differs c (const n s) e = cc
app-differs c (bound i) e = cc
app-differs c (lam s b) e = cc

differs : (c t : Nameless) → same_term (app c t) t ≡ false
differs c t = go (same_term (app c t) t) refl
  where
    go : (test : Bool) → same_term (app c t) t ≡ test → test ≡ false
    go true is = absurd (app-differs c t ((same_term-Decides (app c t) t).0 is))
    go false is = refl

-- the hypotheses on the way: the denial alone
abbrev pub on_the_way : Nameless → Nameless → Nameless → List Nameless
on_the_way f p d = without f (f ∷ []) ++ without p (p ∷ d ∷ [])

itself-left : (x p : Nameless) → x ≡ p → same_term x p ≡ false → ⊥
itself-left x p e not = let yes : same_term x p ≡ true = (same_term-Decides x p).1 e in let no : true ≡ false = sym yes ∙ not in cc

pub only-denial : (f p d x : Nameless) → IsMember x (on_the_way f p d) → x ≡ d
only-denial f p d x m = elim (of_append x (without f (f ∷ [])) (without p (p ∷ d ∷ [])) m) [
  | inl a ↦ first (of_without x f (f ∷ []) a) (not_without x f (f ∷ []) a)
  | inr b ↦ second (of_without x p (p ∷ d ∷ []) b) (not_without x p (p ∷ d ∷ []) b)
]
  where
    first : IsMember x (f ∷ []) → same_term x f ≡ false → x ≡ d
    first (inl e) not = absurd (itself-left x f e not)
    first (inr none) not = absurd none

    second : IsMember x (p ∷ d ∷ []) → same_term x p ≡ false → x ≡ d
    second (inl e) not = absurd (itself-left x p e not)
    second (inr (inl e)) not = e
    second (inr (inr none)) not = absurd none

denial-there : (f p d : Nameless) → same_term d p ≡ false → IsMember d (on_the_way f p d)
denial-there f p d other = IsMember-append_right d (without f (f ∷ [])) (without p (p ∷ d ∷ [])) (in_without d p (p ∷ d ∷ []) (inr (inl refl)) other)

pub way-alone : (f p d : Nameless) → same_term d p ≡ false → IsSameSet (d ∷ []) (on_the_way f p d)
way-alone f p d other = record {
  to = λ x m. elim m [ inl e ↦ subst (λ (t : Nameless). IsMember t (on_the_way f p d)) (sym e) (denial-there f p d other) | inr none ↦ absurd none ];
  back = λ x m. inl (only-denial f p d x m);
}

-- F under the formula and its denial
falsity-shows : (falsity implies : Theorem) (p d f : Nameless) → IsSameSet (images falsity) (p ∷ images implies) → IsSameSet (images implies) (d ∷ [])
    → image falsity.conclusion ≡ f → Shows falsity (p ∷ d ∷ []) f
falsity-shows falsity implies p d f one two is = record {
  same_set = record {
    to = λ x m. elim m [ inl e ↦ one.back x (inl e) | inr k ↦ one.back x (inr (two.back x k)) ];
    back = λ x m. elim (one.to x m) [ inl e ↦ inl e | inr k ↦ inr (two.to x k) ];
  };
  concludes = is;
}

-- what the steps to the formula under F, and to F under it and its denial, show
pub record AreShown (premise falsity part_made : Theorem) (part : NamedTerm) : Type 0 where
  pub part_is : part_made.conclusion ≡ part
  pub part_shows : Shows part_made (image false_term ∷ []) (image part)
  pub falsity_is : falsity.conclusion ≡ false_term
  pub falsity_shown : Shows falsity (image part ∷ image premise.conclusion ∷ []) (image false_term)

pub steps-show : (first third fourth : Theory) (premise : Theorem) (part denial false_formula : NamedTerm) (assumed implies falsity of_falsity part_made : Recorded)
    → IsDenied first premise.conclusion part → fourth ≡ first → denial ≡ premise.conclusion → assume_outcome first denial ≡ Ok assumed.theorem
    → AnswersStated (Ok implies.theorem) (terms_of_theorem assumed.theorem) (not_elim_outcome assumed.theorem)
    → AnswersStated (Ok falsity.theorem) (terms_of_theorem implies.theorem) (undisch_outcome implies.theorem)
    → false_formula ≡ falsity.theorem.conclusion → assume_outcome third false_formula ≡ Ok of_falsity.theorem
    → AnswersStated (Ok part_made.theorem) (image part ∷ terms_of_theorem of_falsity.theorem) (contr_outcome fourth part of_falsity.theorem)
    → AreShown premise falsity.theorem part_made.theorem part
steps-show first third fourth premise part denial false_formula assumed implies falsity of_falsity part_made denied theory_is denial_value assuming eliminating undischarging false_value
    assuming_false contradicting =
    let a = assumed.theorem in
    let i = implies.theorem in
    let o = of_falsity.theorem in
    let m = part_made.theorem in
    let assumed_is = assumed-is first denial a assuming in
    let denial_is = ap (λ (t : Theorem). t.conclusion) assumed_is ∙ denial_value ∙ denied.is in
    let implies_states = stated-ok (Ok implies) (terms_of_theorem a) (images a) (implication part false_term) (not_elim_outcome a) (not_elim-is a part denial_is) eliminating in
    let falsity_states = stated-ok (Ok falsity) (terms_of_theorem i) (image part ∷ images i) false_term (undisch_outcome i) (undisch-is i part implies_states.conclusion) undischarging in
    let of_falsity_is = assumed-is third false_formula o assuming_false in
    let false_is : false_formula ≡ false_term = false_value ∙ falsity_states.conclusion in
    let formula = subst (λ (t : Theory). IsFormula t part) (sym theory_is) denied.formula in
    let contr_is = contr-is fourth o part (ap (λ (t : Theorem). t.conclusion) of_falsity_is ∙ false_is) formula in
    let part_states = stated-ok (Ok part_made) (image part ∷ terms_of_theorem o) (images o) part (contr_outcome fourth part o) contr_is contradicting in
    let of_falsity_hyps = ap images of_falsity_is ∙ ap (λ (t : NamedTerm). image t ∷ []) false_is in
    let assumed_hyps = ap images assumed_is ∙ ap (λ (t : NamedTerm). image t ∷ []) denial_value in
    let implies_set = subst (λ (h : List Nameless). IsSameSet (images i) h) assumed_hyps implies_states.hypotheses in
    record {
      part_is = part_states.conclusion;
      part_shows = record {
        same_set = subst (λ (h : List Nameless). IsSameSet h (images m)) of_falsity_hyps (record { to = part_states.hypotheses.back; back = part_states.hypotheses.to });
        concludes = ap image part_states.conclusion;
      };
      falsity_is = falsity_states.conclusion;
      falsity_shown =
          falsity-shows falsity.theorem i (image part) (image premise.conclusion) (image false_term) falsity_states.hypotheses implies_set (ap image falsity_states.conclusion);
    }

-- so the equation has no hypothesis but the denial
pub under-denial : (premise equation_made : Theorem) (part : NamedTerm) (c : Nameless) → premise.conclusion ≡ negation part
    → Shows equation_made (on_the_way (image false_term) (image part) (image premise.conclusion)) c → Shows equation_made (image premise.conclusion ∷ []) c
under-denial premise equation_made part c is shown =
    let d = image premise.conclusion in
    let p = image part in
    let other : same_term d p ≡ false = ap (λ (t : NamedTerm). same_term (image t) p) is ∙ differs (const not_name unary) p in
    shows-set equation_made (on_the_way (image false_term) p d) (d ∷ []) c (way-alone (image false_term) p d other) shown

-- the cut takes the denial away
pub denial-proved : (result : Result Recorded Fault) (fits : Bool) (premise equation_made : Theorem) (part : NamedTerm) (c : Nameless) → equation_made.conclusion ≡ equation part false_term
    → IfOk result (λ made. made.theorem.conclusion ≡ equation_made.conclusion)
    → DerivesIf fits result (images premise ++ without (image premise.conclusion) (image premise.conclusion ∷ [])) c
    → IfOk result (λ made. Concludes premise (equation part false_term) made.theorem)
denial-proved (Err fault) fits premise equation_made part c named_is names shown = tt
denial-proved (Ok made) fits premise equation_made part c named_is names shown =
    let same = subst (λ (h : List Nameless). IsSameSet h (images made.theorem)) (without-itself (images premise) (image premise.conclusion)) shown.same_set in
    record { same_hypotheses = record { to = same.back; back = same.to }; conclusion = names ∙ named_is }
