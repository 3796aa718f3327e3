-- What a rule answers on theorems: its own outcome.
use Rattle.std.specs.Prelude.{◌≡◌, List, [], ◌∷◌, ◌++◌, Option, None, Some, Result, Ok, Err}
use Rattle.hol_model.specs.declared.fault.Fault.{Fault}
use Rattle.hol_model.specs.declared.fault.Fault.TheVariants.{InvalidStep}
use Rattle.hol_model.specs.Terms.NamedTerm.{NamedTerm}
use Rattle.hol_model.specs.Terms.Nameless.{image}
use Rattle.hol_model.specs.Logic.Theory.{Theory}
use Rattle.hol_model.specs.Kernel.Outcome.{Answers, AnswersSuch}
use Rattle.hol_model.specs.Kernel.Theorem.{Theorem}
use Rattle.hol_model.specs.Kernel.Rules.{refl_outcome, trans_outcome, mk_comb_outcome, abs_outcome, beta_outcome, assume_outcome, eq_mp_outcome, deduct_antisym_outcome}
use Rattle.hol_model.specs.Kernel.Instantiation.{inst_refusal, IsInst, inst_type_refusal, IsInstType}
use Rattle.hol_model.specs.Kernel.NamedAxioms.{eta_theorem, select_theorem}
use Rattle.hol_model.specs.Derived.DerivedRules.{AnswersStated, terms_of_theorem, sym_outcome, add_assum_outcome, prove_hyp_outcome}
use Rattle.hol_model.specs.Derived.DerivedRules.{beta_conv_outcome, eqt_intro_outcome, eqt_elim_outcome, conj_outcome, conjunct1_outcome}
use Rattle.hol_model.specs.Derived.DerivedRules.{conjunct2_outcome, disch_outcome, undisch_outcome, mp_outcome, spec_outcome, gen_outcome}
use Rattle.hol_model.specs.Derived.DerivedRules.{exists_outcome, choose_outcome, disj1_outcome, disj2_outcome, disj_cases_outcome, contr_outcome}
use Rattle.hol_model.specs.Derived.DerivedRules.{not_intro_outcome, not_elim_outcome}
use Rattle.hol_model.specs.Derived.InferenceRules.{InferenceRule}
use Rattle.hol_model.specs.declared.rule.Rule.TheVariants as rules
use Rattle.hol_model_rules.specs.declared.rule_name.RuleName.{RuleName}
use Rattle.hol_model_rules.specs.declared.rule_name.RuleName.TheVariants as named

-- the rule of a name with these terms; none, where it takes another number of terms
abbrev pub rule_with : RuleName → List NamedTerm → Option InferenceRule
rule_with named.Refl (t ∷ []) = Some (rules.Refl t)
rule_with named.Trans [] = Some rules.Trans
rule_with named.MkComb [] = Some rules.MkComb
rule_with named.Abs (x ∷ []) = Some (rules.Abs x)
rule_with named.Beta (t ∷ []) = Some (rules.Beta t)
rule_with named.Assume (p ∷ []) = Some (rules.Assume p)
rule_with named.EqMp [] = Some rules.EqMp
rule_with named.DeductAntisym [] = Some rules.DeductAntisym
rule_with named.EtaAxiom [] = Some rules.EtaAxiom
rule_with named.SelectAxiom [] = Some rules.SelectAxiom
rule_with named.Sym [] = Some rules.Sym
rule_with named.AddAssum (p ∷ []) = Some (rules.AddAssum p)
rule_with named.ProveHyp [] = Some rules.ProveHyp
rule_with named.EqtIntro [] = Some rules.EqtIntro
rule_with named.EqtElim [] = Some rules.EqtElim
rule_with named.BetaConv (t ∷ []) = Some (rules.BetaConv t)
rule_with named.Conj [] = Some rules.Conj
rule_with named.Conjunct1 [] = Some rules.Conjunct1
rule_with named.Conjunct2 [] = Some rules.Conjunct2
rule_with named.Disch (p ∷ []) = Some (rules.Disch p)
rule_with named.Undisch [] = Some rules.Undisch
rule_with named.Mp [] = Some rules.Mp
rule_with named.Spec (t ∷ []) = Some (rules.Spec t)
rule_with named.Gen (x ∷ []) = Some (rules.Gen x)
rule_with named.Disj1 (q ∷ []) = Some (rules.Disj1 q)
rule_with named.Disj2 (p ∷ []) = Some (rules.Disj2 p)
rule_with named.DisjCases [] = Some rules.DisjCases
rule_with named.Contr (p ∷ []) = Some (rules.Contr p)
rule_with named.NotIntro [] = Some rules.NotIntro
rule_with named.NotElim [] = Some rules.NotElim
rule_with named.Exists (e ∷ w ∷ []) = Some (rules.Exists e w)
rule_with named.Choose (v ∷ []) = Some (rules.Choose v)
rule_with rule terms = None

-- ---- a rule's own outcome on its premises; with another number of premises it is refused

abbrev pub IsRefused : Result Theorem Fault → Type 0
IsRefused result = result ≡ Err InvalidStep

abbrev pub IsOutcomeOfNone : Theory → InferenceRule → Result Theorem Fault → Type 0
IsOutcomeOfNone theory (rules.Refl t) result = Answers result (refl_outcome theory t)
IsOutcomeOfNone theory (rules.Beta t) result = Answers result (beta_outcome theory t)
IsOutcomeOfNone theory (rules.Assume p) result = Answers result (assume_outcome theory p)
IsOutcomeOfNone theory rules.EtaAxiom result = Answers result (Ok (eta_theorem theory))
IsOutcomeOfNone theory rules.SelectAxiom result = Answers result (Ok (select_theorem theory))
IsOutcomeOfNone theory (rules.BetaConv t) result = AnswersStated result (image t ∷ []) (beta_conv_outcome theory t)
IsOutcomeOfNone theory rule result = IsRefused result

abbrev pub IsOutcomeOfOne : Theory → InferenceRule → Theorem → Result Theorem Fault → Type 0
IsOutcomeOfOne theory (rules.Abs x) a result = Answers result (abs_outcome theory x a)
IsOutcomeOfOne theory (rules.Inst theta) a result = AnswersSuch result (inst_refusal theory theta.items a) (IsInst theory theta.items a)
IsOutcomeOfOne theory (rules.InstType theta) a result = AnswersSuch result (inst_type_refusal theory theta.items a) (IsInstType theory theta.items a)
IsOutcomeOfOne theory rules.Sym a result = AnswersStated result (terms_of_theorem a) (sym_outcome a)
IsOutcomeOfOne theory (rules.AddAssum p) a result = AnswersStated result (image p ∷ terms_of_theorem a) (add_assum_outcome theory p a)
IsOutcomeOfOne theory rules.EqtIntro a result = AnswersStated result (terms_of_theorem a) (eqt_intro_outcome a)
IsOutcomeOfOne theory rules.EqtElim a result = AnswersStated result (terms_of_theorem a) (eqt_elim_outcome a)
IsOutcomeOfOne theory rules.Conjunct1 a result = AnswersStated result (terms_of_theorem a) (conjunct1_outcome a)
IsOutcomeOfOne theory rules.Conjunct2 a result = AnswersStated result (terms_of_theorem a) (conjunct2_outcome a)
IsOutcomeOfOne theory (rules.Disch p) a result = AnswersStated result (image p ∷ terms_of_theorem a) (disch_outcome theory p a)
IsOutcomeOfOne theory rules.Undisch a result = AnswersStated result (terms_of_theorem a) (undisch_outcome a)
IsOutcomeOfOne theory (rules.Spec t) a result = AnswersStated result (image t ∷ terms_of_theorem a) (spec_outcome theory t a)
IsOutcomeOfOne theory (rules.Gen x) a result = AnswersStated result (terms_of_theorem a) (gen_outcome theory x a)
IsOutcomeOfOne theory (rules.Disj1 q) a result = AnswersStated result (image q ∷ terms_of_theorem a) (disj1_outcome theory q a)
IsOutcomeOfOne theory (rules.Disj2 p) a result = AnswersStated result (image p ∷ terms_of_theorem a) (disj2_outcome theory p a)
IsOutcomeOfOne theory (rules.Contr p) a result = AnswersStated result (image p ∷ terms_of_theorem a) (contr_outcome theory p a)
IsOutcomeOfOne theory rules.NotIntro a result = AnswersStated result (terms_of_theorem a) (not_intro_outcome a)
IsOutcomeOfOne theory rules.NotElim a result = AnswersStated result (terms_of_theorem a) (not_elim_outcome a)
IsOutcomeOfOne theory (rules.Exists e w) a result = AnswersStated result (image e ∷ image w ∷ terms_of_theorem a) (exists_outcome theory e w a)
IsOutcomeOfOne theory rule a result = IsRefused result

abbrev pub IsOutcomeOfTwo : Theory → InferenceRule → Theorem → Theorem → Result Theorem Fault → Type 0
IsOutcomeOfTwo theory rules.Trans a b result = Answers result (trans_outcome theory a b)
IsOutcomeOfTwo theory rules.MkComb a b result = Answers result (mk_comb_outcome theory a b)
IsOutcomeOfTwo theory rules.EqMp a b result = Answers result (eq_mp_outcome theory a b)
IsOutcomeOfTwo theory rules.DeductAntisym a b result = Answers result (deduct_antisym_outcome theory a b)
IsOutcomeOfTwo theory rules.ProveHyp a b result = AnswersStated result (terms_of_theorem a ++ terms_of_theorem b) (prove_hyp_outcome a b)
IsOutcomeOfTwo theory rules.Conj a b result = AnswersStated result (terms_of_theorem a ++ terms_of_theorem b) (conj_outcome a b)
IsOutcomeOfTwo theory rules.Mp a b result = AnswersStated result (terms_of_theorem a ++ terms_of_theorem b) (mp_outcome a b)
IsOutcomeOfTwo theory (rules.Choose v) a b result =
    AnswersStated result (image v ∷ terms_of_theorem a ++ terms_of_theorem b) (choose_outcome theory v a b)
IsOutcomeOfTwo theory rule a b result = IsRefused result

abbrev pub IsOutcomeOfThree : Theory → InferenceRule → Theorem → Theorem → Theorem → Result Theorem Fault → Type 0
IsOutcomeOfThree theory rules.DisjCases a b c result =
    AnswersStated result (terms_of_theorem a ++ (terms_of_theorem b ++ terms_of_theorem c)) (disj_cases_outcome a b c)
IsOutcomeOfThree theory rule a b c result = IsRefused result

abbrev pub IsOutcome : Theory → InferenceRule → List Theorem → Result Theorem Fault → Type 0
IsOutcome theory rule [] result = IsOutcomeOfNone theory rule result
IsOutcome theory rule (a ∷ []) result = IsOutcomeOfOne theory rule a result
IsOutcome theory rule (a ∷ b ∷ []) result = IsOutcomeOfTwo theory rule a b result
IsOutcome theory rule (a ∷ b ∷ c ∷ []) result = IsOutcomeOfThree theory rule a b c result
IsOutcome theory rule premises result = IsRefused result
