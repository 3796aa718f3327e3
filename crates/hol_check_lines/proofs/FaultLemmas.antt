-- The first cause for which a line is refused.
use Rattle.std.proofs.Common.{◌≡◌, ◌+◌, List, [], ◌∷◌, length, Bool, true, false, not, ◌&&◌, ◌∙◌, ap, Some, None, if◌then◌else◌, arith}
use Rattle.std.specs.Prelude.{nat_le, map}
use Rattle.std.proofs.lemmas.List.{length-map, length-reverse}
use Rattle.std.proofs.lemmas.Bool.{le-leb}
use Rattle.hol_model.specs.declared.limits.TheConstants.{DEFINITIONS_LIMIT}
use Rattle.hol_model.specs.declared.fault.Cause.{Cause}
use Rattle.hol_model.specs.declared.fault.Cause.TheVariants.{Shape, Number, Name, Kind, Const, Rule, Claim, Large}
use Rattle.hol_model.specs.Logs.LogLine.{LogLine}
use Rattle.hol_model.specs.Logs.LogState.{LogState}
use Rattle.hol_model.specs.Logs.LogFaults.{has_shape_fault, has_number_fault, has_name_fault, has_type_fault, has_constant_fault, has_rule_fault, has_claim_fault, has_size_fault, first_applying}
use Rattle.hol_check_terms.specs.Terms.{TermTable}
use Rattle.hol_check_rules.specs.State.{entry_in, theory_in, state_of, IsContents}
use Rattle.hol_check_rules.specs.Judged.{first_fault}
use Rattle.hol_check_rules.specs.declared.state.Contents.{Contents}

skipped : (test : Bool) (cause : Cause) (rest : List (Bool × Cause)) → test ≡ false → first_applying ((test, cause) ∷ rest) ≡ first_applying rest
skipped test cause rest fails = ap (λ b. if b then Some cause else first_applying rest) fails

applies : (test : Bool) (cause : Cause) (rest : List (Bool × Cause)) → test ≡ true → first_applying ((test, cause) ∷ rest) ≡ Some cause
applies test cause rest holds = ap (λ b. if b then Some cause else first_applying rest) holds

module _ (state : LogState) (line : LogLine) where
  -- the tests from each cause on
  abbrev after-claim : List (Bool × Cause)
  after-claim = (has_size_fault state line, Large) ∷ []

  abbrev after-rule : List (Bool × Cause)
  after-rule = (has_claim_fault state line, Claim) ∷ after-claim

  abbrev after-constant : List (Bool × Cause)
  after-constant = (has_rule_fault state line, Rule) ∷ after-rule

  abbrev after-type : List (Bool × Cause)
  after-type = (has_constant_fault state line, Const) ∷ after-constant

  abbrev after-name : List (Bool × Cause)
  after-name = (has_type_fault state line, Kind) ∷ after-type

  abbrev after-number : List (Bool × Cause)
  after-number = (has_name_fault state line, Name) ∷ after-name

  abbrev after-shape : List (Bool × Cause)
  after-shape = (has_number_fault state line, Number) ∷ after-number

  pub type-fault : has_shape_fault state line ≡ false → has_number_fault state line ≡ false → has_name_fault state line ≡ false → has_type_fault state line ≡ true → first_fault state line ≡ Some Kind
  type-fault h0 h1 h2 is = skipped (has_shape_fault state line) Shape after-shape h0 ∙
      (skipped (has_number_fault state line) Number after-number h1 ∙ (skipped (has_name_fault state line) Name after-name h2 ∙ (applies (has_type_fault state line) Kind after-type is)))

  pub constant-fault : has_shape_fault state line ≡ false → has_number_fault state line ≡ false → has_name_fault state line ≡ false → has_type_fault state line ≡ false →
      has_constant_fault state line ≡ true → first_fault state line ≡ Some Const
  constant-fault h0 h1 h2 h3 is = skipped (has_shape_fault state line) Shape after-shape h0 ∙
      (skipped (has_number_fault state line) Number after-number h1 ∙ (skipped (has_name_fault state line) Name after-name h2 ∙
      (skipped (has_type_fault state line) Kind after-type h3 ∙ (applies (has_constant_fault state line) Const after-constant is))))

  pub rule-fault : has_shape_fault state line ≡ false → has_number_fault state line ≡ false → has_name_fault state line ≡ false → has_type_fault state line ≡ false →
      has_constant_fault state line ≡ false → has_rule_fault state line ≡ true → first_fault state line ≡ Some Rule
  rule-fault h0 h1 h2 h3 h4 is = skipped (has_shape_fault state line) Shape after-shape h0 ∙
      (skipped (has_number_fault state line) Number after-number h1 ∙ (skipped (has_name_fault state line) Name after-name h2 ∙
      (skipped (has_type_fault state line) Kind after-type h3 ∙ (skipped (has_constant_fault state line) Const after-constant h4 ∙ (applies (has_rule_fault state line) Rule after-rule is)))))

  pub size-fault : has_shape_fault state line ≡ false → has_number_fault state line ≡ false → has_name_fault state line ≡ false → has_type_fault state line ≡ false →
      has_constant_fault state line ≡ false → has_rule_fault state line ≡ false → has_claim_fault state line ≡ false → has_size_fault state line ≡ true → first_fault state line ≡ Some Large
  size-fault h0 h1 h2 h3 h4 h5 h6 is = skipped (has_shape_fault state line) Shape after-shape h0 ∙
      (skipped (has_number_fault state line) Number after-number h1 ∙ (skipped (has_name_fault state line) Name after-name h2 ∙
      (skipped (has_type_fault state line) Kind after-type h3 ∙ (skipped (has_constant_fault state line) Const after-constant h4 ∙
      (skipped (has_rule_fault state line) Rule after-rule h5 ∙ (skipped (has_claim_fault state line) Claim after-claim h6 ∙ (applies (has_size_fault state line) Large [] is)))))))

  pub no-fault : has_shape_fault state line ≡ false → has_number_fault state line ≡ false → has_name_fault state line ≡ false → has_type_fault state line ≡ false →
      has_constant_fault state line ≡ false → has_rule_fault state line ≡ false → has_claim_fault state line ≡ false → has_size_fault state line ≡ false → first_fault state line ≡ None
  no-fault h0 h1 h2 h3 h4 h5 h6 h7 = skipped (has_shape_fault state line) Shape after-shape h0 ∙
      (skipped (has_number_fault state line) Number after-number h1 ∙ (skipped (has_name_fault state line) Name after-name h2 ∙
      (skipped (has_type_fault state line) Kind after-type h3 ∙ (skipped (has_constant_fault state line) Const after-constant h4 ∙
      (skipped (has_rule_fault state line) Rule after-rule h5 ∙ (skipped (has_claim_fault state line) Claim after-claim h6 ∙ (skipped (has_size_fault state line) Large [] h7)))))))

-- limits

pub room : (table : TermTable) (contents : Contents) → IsContents table contents → nat_le (0 + length (state_of table contents).theory) DEFINITIONS_LIMIT ≡ true
room table contents is =
    let all : length (theory_in table contents.entries.items) ≡ length (map (entry_in table) contents.entries.items) = length-reverse (map (entry_in table) contents.entries.items) in
    let each : length (map (entry_in table) contents.entries.items) ≡ length contents.entries.items = length-map contents.entries.items (entry_in table) in
    le-leb (0 + length (theory_in table contents.entries.items)) DEFINITIONS_LIMIT (omega (arith, all, each, is.room))

pub all-fit : (types terms theorems entries : Bool) → types ≡ true → terms ≡ true → theorems ≡ true → entries ≡ true → not (types && terms && theorems && entries) ≡ false
all-fit types terms theorems entries a b c d = cc

pub terms-large : (types terms theorems entries : Bool) → types ≡ true → terms ≡ false → not (types && terms && theorems && entries) ≡ true
terms-large types terms theorems entries is large = cc

pub entries-large : (types terms theorems entries : Bool) → types ≡ true → terms ≡ true → theorems ≡ true → entries ≡ false → not (types && terms && theorems && entries) ≡ true
entries-large types terms theorems entries is one two large = cc
