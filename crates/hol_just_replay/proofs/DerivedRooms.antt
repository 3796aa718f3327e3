-- The derived rules find room.
use Rattle.std.proofs.Common.{◌≡◌, List, [], ◌∷◌, ◌++◌, true, ◌∙◌, Some, Result}
use Rattle.std.proofs.lemmas.List.Folds.{list_all-append}
use Rattle.hol_model.specs.declared.fault.Fault.{Fault}
use Rattle.hol_model.specs.declared.fault.Fault.TheVariants.{NotBool, NotEquation, NotAlpha, BadShape}
use Rattle.hol_model.specs.Terms.HolType.{HolType}
use Rattle.hol_model.specs.Terms.NamedTerm.{NamedTerm, type_of, equation}
use Rattle.hol_model.specs.Terms.Nameless.{Nameless, image, nameless_type}
use Rattle.hol_model.specs.Logic.Theory.{Theory, IsLegal}
use Rattle.hol_model.specs.Logic.Derivable.{nameless_equation, without}
use Rattle.hol_model.specs.Logic.NamedLogic.{implication, disjunction, negation, false_term, is_true, is_false, dest_conjunction, dest_implication, dest_disjunction, dest_negation, dest_redex}
use Rattle.hol_model.specs.Kernel.Outcome.{unless, refused}
use Rattle.hol_model.specs.Kernel.Rules.{first_unknown, dest_equation, is_formula}
use Rattle.hol_model.specs.Kernel.Theorem.{Theorem, are_alpha_equivalent}
use Rattle.hol_model.specs.Derived.DerivedRules.{Stated, is_roomy, images, stated, stated_with_left, body_with, AnswersStated, terms_of_theorem}
use Rattle.hol_model.specs.Derived.DerivedRules.{sym_outcome, add_assum_outcome, prove_hyp_outcome, beta_conv_outcome, eqt_intro_outcome}
use Rattle.hol_model.specs.Derived.DerivedRules.{conj_outcome, eqt_elim_outcome, conjunct1_outcome, conjunct2_outcome, disch_outcome, undisch_outcome}
use Rattle.hol_model.specs.Derived.DerivedRules.{mp_outcome, disj1_outcome, disj2_outcome, disj_cases_outcome, contr_outcome, not_intro_outcome}
use Rattle.hol_model.specs.Derived.DerivedRules.{not_elim_outcome}
use Rattle.hol_model.specs.Derived.InferenceRules.{InferenceRule}
use Rattle.hol_model.specs.declared.rule.Rule.TheVariants as rules
use Rattle.hol_model.proofs.Tests.{first_of_both, both}
use Rattle.hol_journal.specs.Journal.{Journal}
use Rattle.hol_prelude.specs.HasLogic.{HasLogic}
use Rattle.hol_prelude.specs.declared.stored.Bool.{Bool as Logic}
use Rattle.hol_equal.proofs.DrawnTerms.{IsPremise}
use Rattle.hol_equal.proofs.DrawnEquality.{drawn-sym, drawn-add_assum, drawn-prove_hyp, drawn-beta_conv, drawn-eqt_intro, drawn-conj}
use Rattle.hol_bool.proofs.DrawnConnectives.{drawn-eqt_elim, drawn-conjunct1, drawn-conjunct2, drawn-disch, drawn-undisch, drawn-mp, drawn-disj1}
use Rattle.hol_bool.proofs.DrawnConnectives.{drawn-disj2, drawn-disj_cases, drawn-contr, drawn-not_intro, drawn-not_elim}
use Rattle.hol_just_replay.specs.Room.{IsNotLarge, are_roomy, HasRoom, FindsRoom}
use Rattle.hol_just_replay.proofs.RoomLemmas.{fits-unless, fits-given, fits-refused, stated-room}

-- the terms of the premises, and of what the rule takes

pub one-roomy : {theory : Theory} {rule : InferenceRule} {a : Theorem} → HasRoom theory rule (a ∷ []) → are_roomy (terms_of_theorem a) ≡ true
one-roomy room = room.premises_roomy.0

pub two-roomy : {theory : Theory} {rule : InferenceRule} {a b : Theorem} → HasRoom theory rule (a ∷ b ∷ []) → are_roomy (terms_of_theorem a ++ terms_of_theorem b) ≡ true
two-roomy {theory} {rule} {a} {b} room =
    list_all-append is_roomy (terms_of_theorem a) (terms_of_theorem b) ∙ both (are_roomy (terms_of_theorem a)) (are_roomy (terms_of_theorem b)) room.premises_roomy.0 room.premises_roomy.1.0

pub taken-roomy : (p : NamedTerm) (rest : List Nameless) → are_roomy (image p ∷ []) ≡ true → are_roomy rest ≡ true → are_roomy (image p ∷ rest) ≡ true
taken-roomy p rest first second = both (is_roomy (image p)) (are_roomy rest) (first_of_both (is_roomy (image p)) true first) second

-- a formula that is walked
pub walked-fits : (theory : Theory) (p : NamedTerm) (next : Result Stated Fault) → IsNotLarge next → IsNotLarge (unless (is_formula p) NotBool (refused (first_unknown theory p) next))
walked-fits theory p next fits = fits-unless (is_formula p) NotBool (refused (first_unknown theory p) next) (λ is. cc) (fits-refused theory p next fits)

-- ---- equality

pub room-sym : {theory : Theory} {a : Theorem} {result : Result Theorem Fault} → IsLegal theory → IsPremise theory a
    → AnswersStated result (terms_of_theorem a) (sym_outcome a) → FindsRoom theory rules.Sym (a ∷ []) result
room-sym {theory} {a} {result} legal premise answers =
    stated-room theory rules.Sym (a ∷ []) (terms_of_theorem a) (sym_outcome a) result (drawn-sym theory legal a premise)
    (fits-given (dest_equation a.conclusion) NotEquation (λ sides. stated (images a) (equation sides.1 sides.0)) (λ is. cc) (λ sides. tt)) (λ room. one-roomy room) answers

pub room-add_assum : {theory : Theory} {p : NamedTerm} {ty : HolType} {a : Theorem} {result : Result Theorem Fault} → type_of p ≡ Some ty
    → AnswersStated result (image p ∷ terms_of_theorem a) (add_assum_outcome theory p a)
    → FindsRoom theory (rules.AddAssum p) (a ∷ []) result
room-add_assum {theory} {p} {ty} {a} {result} typed answers =
    stated-room theory (rules.AddAssum p) (a ∷ []) (image p ∷ terms_of_theorem a) (add_assum_outcome theory p a) result (drawn-add_assum theory p ty a typed)
    (walked-fits theory p (stated (image p ∷ images a) a.conclusion) tt) (λ room. taken-roomy p (terms_of_theorem a) room.taken (one-roomy room)) answers

pub room-prove_hyp : {theory : Theory} {a b : Theorem} {result : Result Theorem Fault}
    → AnswersStated result (terms_of_theorem a ++ terms_of_theorem b) (prove_hyp_outcome a b) → FindsRoom theory rules.ProveHyp (a ∷ b ∷ []) result
room-prove_hyp {theory} {a} {b} {result} answers =
    stated-room theory rules.ProveHyp (a ∷ b ∷ []) (terms_of_theorem a ++ terms_of_theorem b) (prove_hyp_outcome a b) result (drawn-prove_hyp theory a b) tt (λ room. two-roomy room) answers

pub room-beta_conv : {theory : Theory} {t : NamedTerm} {ty : HolType} {result : Result Theorem Fault} → type_of t ≡ Some ty
    → AnswersStated result (image t ∷ []) (beta_conv_outcome theory t) → FindsRoom theory (rules.BetaConv t) [] result
room-beta_conv {theory} {t} {ty} {result} typed answers =
    stated-room theory (rules.BetaConv t) [] (image t ∷ []) (beta_conv_outcome theory t) result (drawn-beta_conv theory t ty typed)
    (fits-given (dest_redex t) BadShape
    (λ redex. refused (first_unknown theory t)
    (stated_with_left [] t (nameless_equation (nameless_type [] (image t)) (image t) (body_with redex.0 redex.1)))) (λ is. cc)
    (λ redex. fits-refused theory t (stated_with_left [] t (nameless_equation (nameless_type [] (image t)) (image t) (body_with redex.0 redex.1))) tt)) (λ room. room.taken) answers

-- ---- connectives

pub room-eqt_intro : {theory : Theory} {a : Theorem} {result : Result Theorem Fault} → IsPremise theory a
    → AnswersStated result (terms_of_theorem a) (eqt_intro_outcome a) → FindsRoom theory rules.EqtIntro (a ∷ []) result
room-eqt_intro {theory} {a} {result} premise answers =
    stated-room theory rules.EqtIntro (a ∷ []) (terms_of_theorem a) (eqt_intro_outcome a) result (drawn-eqt_intro theory a premise) tt (λ room. one-roomy room) answers

pub room-conj : {theory : Theory} {a b : Theorem} {result : Result Theorem Fault}
    → AnswersStated result (terms_of_theorem a ++ terms_of_theorem b) (conj_outcome a b) → FindsRoom theory rules.Conj (a ∷ b ∷ []) result
room-conj {theory} {a} {b} {result} answers =
    stated-room theory rules.Conj (a ∷ b ∷ []) (terms_of_theorem a ++ terms_of_theorem b) (conj_outcome a b) result (drawn-conj theory a b) tt (λ room. two-roomy room) answers

pub room-disch : {theory : Theory} {p : NamedTerm} {ty : HolType} {a : Theorem} {result : Result Theorem Fault} → type_of p ≡ Some ty
    → AnswersStated result (image p ∷ terms_of_theorem a) (disch_outcome theory p a)
    → FindsRoom theory (rules.Disch p) (a ∷ []) result
room-disch {theory} {p} {ty} {a} {result} typed answers =
    stated-room theory (rules.Disch p) (a ∷ []) (image p ∷ terms_of_theorem a) (disch_outcome theory p a) result (drawn-disch theory p ty a typed)
    (walked-fits theory p (stated (without (image p) (images a)) (implication p a.conclusion)) tt) (λ room. taken-roomy p (terms_of_theorem a) room.taken (one-roomy room)) answers

pub room-disj1 : {theory : Theory} {q : NamedTerm} {ty : HolType} {a : Theorem} {result : Result Theorem Fault} → type_of q ≡ Some ty
    → AnswersStated result (image q ∷ terms_of_theorem a) (disj1_outcome theory q a)
    → FindsRoom theory (rules.Disj1 q) (a ∷ []) result
room-disj1 {theory} {q} {ty} {a} {result} typed answers =
    stated-room theory (rules.Disj1 q) (a ∷ []) (image q ∷ terms_of_theorem a) (disj1_outcome theory q a) result (drawn-disj1 theory q ty a typed)
    (walked-fits theory q (stated (images a) (disjunction a.conclusion q)) tt) (λ room. taken-roomy q (terms_of_theorem a) room.taken (one-roomy room)) answers

pub room-disj2 : {theory : Theory} {p : NamedTerm} {ty : HolType} {a : Theorem} {result : Result Theorem Fault} → type_of p ≡ Some ty
    → AnswersStated result (image p ∷ terms_of_theorem a) (disj2_outcome theory p a)
    → FindsRoom theory (rules.Disj2 p) (a ∷ []) result
room-disj2 {theory} {p} {ty} {a} {result} typed answers =
    stated-room theory (rules.Disj2 p) (a ∷ []) (image p ∷ terms_of_theorem a) (disj2_outcome theory p a) result (drawn-disj2 theory p ty a typed)
    (walked-fits theory p (stated (images a) (disjunction p a.conclusion)) tt) (λ room. taken-roomy p (terms_of_theorem a) room.taken (one-roomy room)) answers

pub room-eqt_elim : {journal : Journal} {logic : Logic} {a : Theorem} {result : Result Theorem Fault} → HasLogic journal logic → IsLegal journal.theory → IsPremise journal.theory a
    → AnswersStated result (terms_of_theorem a) (eqt_elim_outcome a) → FindsRoom journal.theory rules.EqtElim (a ∷ []) result
room-eqt_elim {journal} {logic} {a} {result} has legal premise answers =
    stated-room journal.theory rules.EqtElim (a ∷ []) (terms_of_theorem a) (eqt_elim_outcome a) result (drawn-eqt_elim journal logic has legal a premise)
    (fits-given (dest_equation a.conclusion) BadShape (λ sides. unless (is_true sides.1) BadShape (stated (images a) sides.0)) (λ is. cc)
    (λ sides. fits-unless (is_true sides.1) BadShape (stated (images a) sides.0) (λ is. cc) tt)) (λ room. one-roomy room) answers

pub room-conjunct1 : {journal : Journal} {logic : Logic} {a : Theorem} {result : Result Theorem Fault} → HasLogic journal logic → IsLegal journal.theory → IsPremise journal.theory a
    → AnswersStated result (terms_of_theorem a) (conjunct1_outcome a) → FindsRoom journal.theory rules.Conjunct1 (a ∷ []) result
room-conjunct1 {journal} {logic} {a} {result} has legal premise answers =
    stated-room journal.theory rules.Conjunct1 (a ∷ []) (terms_of_theorem a) (conjunct1_outcome a) result (drawn-conjunct1 journal logic has legal a premise)
    (fits-given (dest_conjunction a.conclusion) BadShape (λ sides. stated (images a) sides.0) (λ is. cc) (λ sides. tt)) (λ room. one-roomy room) answers

pub room-conjunct2 : {journal : Journal} {logic : Logic} {a : Theorem} {result : Result Theorem Fault} → HasLogic journal logic → IsLegal journal.theory → IsPremise journal.theory a
    → AnswersStated result (terms_of_theorem a) (conjunct2_outcome a) → FindsRoom journal.theory rules.Conjunct2 (a ∷ []) result
room-conjunct2 {journal} {logic} {a} {result} has legal premise answers =
    stated-room journal.theory rules.Conjunct2 (a ∷ []) (terms_of_theorem a) (conjunct2_outcome a) result (drawn-conjunct2 journal logic has legal a premise)
    (fits-given (dest_conjunction a.conclusion) BadShape (λ sides. stated (images a) sides.1) (λ is. cc) (λ sides. tt)) (λ room. one-roomy room) answers

pub room-undisch : {journal : Journal} {logic : Logic} {a : Theorem} {result : Result Theorem Fault} → HasLogic journal logic → IsLegal journal.theory → IsPremise journal.theory a
    → AnswersStated result (terms_of_theorem a) (undisch_outcome a) → FindsRoom journal.theory rules.Undisch (a ∷ []) result
room-undisch {journal} {logic} {a} {result} has legal premise answers =
    stated-room journal.theory rules.Undisch (a ∷ []) (terms_of_theorem a) (undisch_outcome a) result (drawn-undisch journal logic has legal a premise)
    (fits-given (dest_implication a.conclusion) BadShape (λ sides. stated (image sides.0 ∷ images a) sides.1) (λ is. cc) (λ sides. tt)) (λ room. one-roomy room) answers

pub room-mp : {journal : Journal} {logic : Logic} {a b : Theorem} {result : Result Theorem Fault} → HasLogic journal logic → IsLegal journal.theory → IsPremise journal.theory a
    → AnswersStated result (terms_of_theorem a ++ terms_of_theorem b) (mp_outcome a b) → FindsRoom journal.theory rules.Mp (a ∷ b ∷ []) result
room-mp {journal} {logic} {a} {b} {result} has legal premise answers =
    stated-room journal.theory rules.Mp (a ∷ b ∷ []) (terms_of_theorem a ++ terms_of_theorem b) (mp_outcome a b) result (drawn-mp journal logic has legal a b premise)
    (fits-given (dest_implication a.conclusion) BadShape (λ sides. unless (are_alpha_equivalent sides.0 b.conclusion) NotAlpha (stated (images a ++ images b) sides.1)) (λ is. cc)
    (λ sides. fits-unless (are_alpha_equivalent sides.0 b.conclusion) NotAlpha (stated (images a ++ images b) sides.1) (λ is. cc) tt)) (λ room. two-roomy room) answers

-- what DISJ_CASES states
abbrev by_cases : Theorem → Theorem → Theorem → NamedTerm × NamedTerm → Result Stated Fault
by_cases a b c sides = stated (images a ++ without (image sides.0) (images b) ++ without (image sides.1) (images c)) b.conclusion

pub room-disj_cases : {journal : Journal} {logic : Logic} {a b c : Theorem} {result : Result Theorem Fault} → HasLogic journal logic → IsLegal journal.theory → IsPremise journal.theory a
    → AnswersStated result (terms_of_theorem a ++ (terms_of_theorem b ++ terms_of_theorem c)) (disj_cases_outcome a b c) → FindsRoom journal.theory rules.DisjCases (a ∷ b ∷ c ∷ []) result
room-disj_cases {journal} {logic} {a} {b} {c} {result} has legal premise answers =
    stated-room journal.theory rules.DisjCases (a ∷ b ∷ c ∷ []) (terms_of_theorem a ++ (terms_of_theorem b ++ terms_of_theorem c))
    (disj_cases_outcome a b c) result (drawn-disj_cases journal logic has legal a b c premise)
    (fits-given (dest_disjunction a.conclusion) BadShape (λ sides. unless (are_alpha_equivalent b.conclusion c.conclusion) NotAlpha (by_cases a b c sides)) (λ is. cc)
    (λ sides. fits-unless (are_alpha_equivalent b.conclusion c.conclusion) NotAlpha (by_cases a b c sides) (λ is. cc) tt)) (λ room. all_roomy room) answers
  where
    all_roomy : HasRoom journal.theory rules.DisjCases (a ∷ b ∷ c ∷ []) → are_roomy (terms_of_theorem a ++ (terms_of_theorem b ++ terms_of_theorem c)) ≡ true
    all_roomy room =
        list_all-append is_roomy (terms_of_theorem a) (terms_of_theorem b ++ terms_of_theorem c)
        ∙ both (are_roomy (terms_of_theorem a)) (are_roomy (terms_of_theorem b ++ terms_of_theorem c)) room.premises_roomy.0
        (list_all-append is_roomy (terms_of_theorem b) (terms_of_theorem c) ∙ both (are_roomy (terms_of_theorem b)) (are_roomy (terms_of_theorem c)) room.premises_roomy.1.0 room.premises_roomy.1.1.0)

pub room-contr : {journal : Journal} {logic : Logic} {p : NamedTerm} {ty : HolType} {a : Theorem} {result : Result Theorem Fault}
    → HasLogic journal logic → IsLegal journal.theory → type_of p ≡ Some ty → IsPremise journal.theory a
    → AnswersStated result (image p ∷ terms_of_theorem a) (contr_outcome journal.theory p a) → FindsRoom journal.theory (rules.Contr p) (a ∷ []) result
room-contr {journal} {logic} {p} {ty} {a} {result} has legal typed premise answers =
    stated-room journal.theory (rules.Contr p) (a ∷ []) (image p ∷ terms_of_theorem a) (contr_outcome journal.theory p a) result (drawn-contr journal logic has legal p ty a typed premise)
    (fits-unless (is_false a.conclusion) BadShape (unless (is_formula p) NotBool (refused (first_unknown journal.theory p) (stated (images a) p)))
    (λ is. cc) (walked-fits journal.theory p (stated (images a) p) tt))
    (λ room. taken-roomy p (terms_of_theorem a) room.taken (one-roomy room)) answers

pub room-not_intro : {journal : Journal} {logic : Logic} {a : Theorem} {result : Result Theorem Fault} → HasLogic journal logic → IsLegal journal.theory → IsPremise journal.theory a
    → AnswersStated result (terms_of_theorem a) (not_intro_outcome a) → FindsRoom journal.theory rules.NotIntro (a ∷ []) result
room-not_intro {journal} {logic} {a} {result} has legal premise answers =
    stated-room journal.theory rules.NotIntro (a ∷ []) (terms_of_theorem a) (not_intro_outcome a) result (drawn-not_intro journal logic has legal a premise)
    (fits-given (dest_implication a.conclusion) BadShape (λ sides. unless (is_false sides.1) BadShape (stated (images a) (negation sides.0))) (λ is. cc)
    (λ sides. fits-unless (is_false sides.1) BadShape (stated (images a) (negation sides.0)) (λ is. cc) tt)) (λ room. one-roomy room) answers

pub room-not_elim : {journal : Journal} {logic : Logic} {a : Theorem} {result : Result Theorem Fault} → HasLogic journal logic → IsLegal journal.theory → IsPremise journal.theory a
    → AnswersStated result (terms_of_theorem a) (not_elim_outcome a) → FindsRoom journal.theory rules.NotElim (a ∷ []) result
room-not_elim {journal} {logic} {a} {result} has legal premise answers =
    stated-room journal.theory rules.NotElim (a ∷ []) (terms_of_theorem a) (not_elim_outcome a) result (drawn-not_elim journal logic has legal a premise)
    (fits-given (dest_negation a.conclusion) BadShape (λ p. stated (images a) (implication p false_term)) (λ is. cc) (λ p. tt)) (λ room. one-roomy room) answers

-- by the number of premises; what takes the type of a term is cited by answers

pub ruleset derived_of_one = (
  room-sym,
  room-add_assum,
  room-eqt_intro,
  room-eqt_elim,
  room-conjunct1,
  room-conjunct2,
  room-undisch,
  room-contr,
  room-not_intro,
  room-not_elim,
)

pub ruleset derived_of_two = (room-prove_hyp, room-conj, room-mp)

pub ruleset derived_of_three = (room-disj_cases)
