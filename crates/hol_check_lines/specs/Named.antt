-- The terms that a line of a step or a claim names.
use Rattle.std.specs.Prelude.{◌≡◌, ℕ}
use Rattle.std.specs.List.{All}
use Rattle.hol_model.specs.Logs.LogLine.{LogRule, LogLine}
use Rattle.hol_model.specs.Logs.LogLine.LogRule.{refl_step, abs_step, beta_step, assume_step, inst_step, definition_step}
use Rattle.hol_model.specs.Logs.LogLine.LogLine.{theorem_line, claim_line}
use Rattle.hol_check_terms.specs.Terms.{TermTable, IsGrown}
use Rattle.hol_check_written.specs.Making.{Stays}
use Rattle.hol_check_rules.specs.State.{IsContents}
use Rattle.hol_check_rules.specs.Judged.{IsMadeLine}
use Rattle.hol_check_rules.specs.declared.state.Contents.{Contents}

pub record IsMadePair (contents : Contents) (pair : ℕ × ℕ) : Type 0 where
  pub new : IsMadeLine contents pair.0
  pub old : IsMadeLine contents pair.1

-- each term that the rule names is made, where its line is there
abbrev pub AreRuleMade : Contents → LogRule → Type 0
AreRuleMade contents (refl_step term) = IsMadeLine contents term
AreRuleMade contents (abs_step variable premise) = IsMadeLine contents variable
AreRuleMade contents (beta_step term) = IsMadeLine contents term
AreRuleMade contents (assume_step term) = IsMadeLine contents term
AreRuleMade contents (inst_step premise pairs) = All (IsMadePair contents) pairs
AreRuleMade contents (definition_step name body) = IsMadeLine contents body
AreRuleMade contents _ = Unit {0}

-- the same of a line
abbrev pub AreNamedMade : Contents → LogLine → Type 0
AreNamedMade contents (theorem_line rule) = AreRuleMade contents rule
AreNamedMade contents (claim_line name theorem conclusion hypotheses) = IsMadeLine contents conclusion × All (IsMadeLine contents) hypotheses
AreNamedMade contents _ = Unit {0}

-- the later contents are the earlier ones, with more terms that are made
pub record Makes (earlier now : TermTable) (contents later : Contents) : Type 0 where
  pub grows : IsGrown earlier now
  pub is_contents : IsContents now later
  pub same : later ≡ record contents { made = later.made }
  pub stays : Stays contents.made.entries later.made.entries
