-- How rules are written in scripts.
use Rattle.std.specs.Prelude.{◌≡◌, ◌↔◌, ℕ, List, codes, Option, Some, Bool}
use Rattle.std.specs.Str.{bytes_eq}
use Rattle.hol_model_rules.specs.declared.rule_name.RuleName.{RuleName}
use Rattle.hol_model_rules.specs.declared.rule_name.RuleName.TheVariants.{Refl, Trans, MkComb, Abs, Beta, Assume, EqMp, DeductAntisym, EtaAxiom, SelectAxiom, Sym, AddAssum, ProveHyp, EqtIntro, EqtElim, BetaConv}
use Rattle.hol_model_rules.specs.declared.rule_name.RuleName.TheVariants.{Conj, Conjunct1, Conjunct2, Disch, Undisch, Mp, Spec, Gen, Disj1, Disj2, DisjCases, Contr, NotIntro, NotElim, Exists, Choose}

-- How a rule is written: its word, and how many terms and theorems it takes.
pub record RuleForm : Type 0 where
  pub word : List ℕ
  pub terms : ℕ
  pub theorems : ℕ

abbrev form : List ℕ → ℕ → ℕ → RuleForm
form word terms theorems = record { word = word; terms = terms; theorems = theorems }

abbrev pub form_of : RuleName → RuleForm
form_of Refl = form (codes "REFL") 1 0
form_of Trans = form (codes "TRANS") 0 2
form_of MkComb = form (codes "MK_COMB") 0 2
form_of Abs = form (codes "ABS") 1 1
form_of Beta = form (codes "BETA") 1 0
form_of Assume = form (codes "ASSUME") 1 0
form_of EqMp = form (codes "EQ_MP") 0 2
form_of DeductAntisym = form (codes "DEDUCT_ANTISYM_RULE") 0 2
form_of EtaAxiom = form (codes "ETA") 0 0
form_of SelectAxiom = form (codes "SELECT") 0 0
form_of Sym = form (codes "SYM") 0 1
form_of AddAssum = form (codes "ADD_ASSUM") 1 1
form_of ProveHyp = form (codes "PROVE_HYP") 0 2
form_of EqtIntro = form (codes "EQT_INTRO") 0 1
form_of EqtElim = form (codes "EQT_ELIM") 0 1
form_of BetaConv = form (codes "BETA_CONV") 1 0
form_of Conj = form (codes "CONJ") 0 2
form_of Conjunct1 = form (codes "CONJUNCT1") 0 1
form_of Conjunct2 = form (codes "CONJUNCT2") 0 1
form_of Disch = form (codes "DISCH") 1 1
form_of Undisch = form (codes "UNDISCH") 0 1
form_of Mp = form (codes "MP") 0 2
form_of Spec = form (codes "SPEC") 1 1
form_of Gen = form (codes "GEN") 1 1
form_of Disj1 = form (codes "DISJ1") 1 1
form_of Disj2 = form (codes "DISJ2") 1 1
form_of DisjCases = form (codes "DISJ_CASES") 0 3
form_of Contr = form (codes "CONTR") 1 1
form_of NotIntro = form (codes "NOT_INTRO") 0 1
form_of NotElim = form (codes "NOT_ELIM") 0 1
form_of Exists = form (codes "EXISTS") 2 1
form_of Choose = form (codes "CHOOSE") 1 2

-- whether a rule has this word
abbrev pub has_word : List ℕ → RuleName → Bool
has_word word rule = bytes_eq (form_of rule).word word

-- the rule that a word is the word of; none, where it is the word of none
abbrev pub IsRuleOf : List ℕ → Option RuleName → Type 0
IsRuleOf word found = (rule : RuleName) → (found ≡ Some rule) ↔ (word ≡ (form_of rule).word)
