-- Each line of a script's output is one.
use Rattle.std.proofs.Common.{◌≡◌, ℕ, zero, suc, ◌/◌, ◌%◌, ◌==◌, List, [], ◌∷◌, ◌++◌, Bool, true, false, if◌then◌else◌, refl, sym, ap, ◌∙◌, append_assoc, codes, decimal, arith}
use Rattle.std.specs.Prelude.{nat_eq, not, length, ◌||◌}
use Rattle.std.specs.Fmt.{digits, digits_onto, digit_glyph}
use Rattle.std.proofs.lemmas.Bool.{eqb-true}
use Rattle.hol_model.specs.declared.fault.Fault.{Fault}
use Rattle.hol_model.specs.declared.fault.Fault.TheVariants.{Memory, TooLarge, BadName, TypeMismatch, UnknownConst, NotInstance, NotBool, NotEquation, NotAlpha, NotVariable, FreeInHypothesis}
use Rattle.hol_model.specs.declared.fault.Fault.TheVariants.{NotTrivialBeta, NotClosed, TypeVarsNotReflected, AlreadyDefined, BadShape, ConvFails, RefineFails, LengthMismatch, StepLimit}
use Rattle.hol_model.specs.declared.fault.Fault.TheVariants.{UnknownName, NoGoal, GoalsRemain, NothingToUndo, InvalidStep, NotTautology, TooManyAtoms, Syntax, NameTaken, LogFault, ReadFault}
use Rattle.hol_model.specs.declared.fault.Fault.TheVariants.{WriteFault, TooLong, NoMatch, UnknownType}
use Rattle.hol_model.specs.Kernel.Fault.{number_of, name_of}
use Rattle.hol_model.specs.Terms.Name.{is_capital, is_small, continues_name, all_continue, is_identifier}
use Rattle.hol_model.specs.Logic.Theory.{Theory}
use Rattle.hol_model.specs.Texts.Texts.{text_of_sequent, text_of_goal, is_one_line}
use Rattle.hol_model.specs.Texts.Scopes.{scope_over}
use Rattle.hol_model.specs.Goals.Goals.{Goal}
use Rattle.hol_model.proofs.Tests.{first_of_both, second_of_both}
use Rattle.hol_model_sessions.specs.Replies.{count_text, row_text}
use Rattle.hol_model_sessions.specs.Headline.{IsTold, of_theorem, of_refusal, of_count, of_goal, of_proof, AreTold, text_of_lines}
use Rattle.hol_laws_sessions.specs.HeadlineLaws.{IsLine, with_byte, cut_in_lines, ToldLinesAreLines}
use Rattle.hol_laws_sessions.proofs.Beginnings.{digit-continues}
use Rattle.hol_laws_sessions.proofs.ToldTexts.{joined}

-- ---- names and numbers

-- no line feed stands in a name
continued-no_feed : (byte : ℕ) → continues_name byte ≡ true → not (nat_eq byte 10) ≡ true
continued-no_feed byte continues = go (nat_eq byte 10) refl
  where
    go : (test : Bool) → nat_eq byte 10 ≡ test → not test ≡ true
    go false is = refl
    go true is =
        let same : byte ≡ 10 = eqb-true byte 10 is in
        let none : continues_name byte ≡ false = ap continues_name same in
        cc

all-no_feed : (bytes : List ℕ) → all_continue bytes ≡ true → is_one_line bytes ≡ true
all-no_feed [] all = refl
all-no_feed (byte ∷ bytes) all =
    rw (continued-no_feed byte (first_of_both (continues_name byte) (all_continue bytes) all)) (all-no_feed bytes (second_of_both (continues_name byte) (all_continue bytes) all))

name-one_line : (name : List ℕ) → is_identifier name ≡ true → is_one_line name ≡ true
name-one_line [] is = refl
name-one_line (byte ∷ bytes) is =
    let letter : (is_capital byte || is_small byte) ≡ true = first_of_both (is_capital byte || is_small byte) (all_continue bytes) is in
    let first : continues_name byte ≡ true = rw letter refl in
    all-no_feed (byte ∷ bytes) (rw (first, second_of_both (is_capital byte || is_small byte) (all_continue bytes) is) refl)

digits-continue : (k n : ℕ) (acc : List ℕ) → all_continue acc ≡ true → all_continue (digits_onto k 10 false n acc) ≡ true
digits-continue zero n acc all = all
digits-continue (suc k) n acc all =
    let glyph : continues_name (digit_glyph false (n % 10)) ≡ true = digit-continues (n % 10) (omega arith) in
    let one : all_continue (digit_glyph false (n % 10) ∷ acc) ≡ true = rw (glyph, all) refl in
    go (n / 10 == 0) one (digits-continue k (n / 10) (digit_glyph false (n % 10) ∷ acc) one)
  where
    go : (test : Bool) → all_continue (digit_glyph false (n % 10) ∷ acc) ≡ true → all_continue (digits_onto k 10 false (n / 10) (digit_glyph false (n % 10) ∷ acc)) ≡ true
        → all_continue (if test then digit_glyph false (n % 10) ∷ acc else digits_onto k 10 false (n / 10) (digit_glyph false (n % 10) ∷ acc)) ≡ true
    go true one more = one
    go false one more = more

decimal-one_line : (n : ℕ) → is_one_line (decimal n) ≡ true
unfolding digits
decimal-one_line n = all-no_feed (decimal n) (digits-continue 64 n [] refl)

fault-one_line : (fault : Fault) → is_one_line (name_of fault) ≡ true
fault-one_line Memory = refl
fault-one_line TooLarge = refl
fault-one_line BadName = refl
fault-one_line TypeMismatch = refl
fault-one_line UnknownConst = refl
fault-one_line NotInstance = refl
fault-one_line NotBool = refl
fault-one_line NotEquation = refl
fault-one_line NotAlpha = refl
fault-one_line NotVariable = refl
fault-one_line FreeInHypothesis = refl
fault-one_line NotTrivialBeta = refl
fault-one_line NotClosed = refl
fault-one_line TypeVarsNotReflected = refl
fault-one_line AlreadyDefined = refl
fault-one_line BadShape = refl
fault-one_line ConvFails = refl
fault-one_line RefineFails = refl
fault-one_line LengthMismatch = refl
fault-one_line StepLimit = refl
fault-one_line UnknownName = refl
fault-one_line NoGoal = refl
fault-one_line GoalsRemain = refl
fault-one_line NothingToUndo = refl
fault-one_line InvalidStep = refl
fault-one_line (NotTautology atoms row) = refl
fault-one_line TooManyAtoms = refl
fault-one_line Syntax = refl
fault-one_line NameTaken = refl
fault-one_line (LogFault line cause) = refl
fault-one_line ReadFault = refl
fault-one_line WriteFault = refl
fault-one_line TooLong = refl
fault-one_line NoMatch = refl
fault-one_line UnknownType = refl

-- ---- lines

lines-end : (goals : List Goal) → IsLine (count_text goals)
lines-end [] = record { front = codes "No subgoals"; one_line = refl; ended = refl }
lines-end (goal ∷ []) = record { front = codes "1 subgoal"; one_line = refl; ended = refl }
lines-end (goal ∷ next ∷ goals) = record {
  front = decimal (length (goal ∷ next ∷ goals)) ++ codes " subgoals";
  one_line = joined (decimal (length (goal ∷ next ∷ goals))) (codes " subgoals") (decimal-one_line (length (goal ∷ next ∷ goals))) refl;
  ended = sym (append_assoc (decimal (length (goal ∷ next ∷ goals))) (codes " subgoals") (codes "\n"));
}

told-line : (texts : List (List ℕ)) (theory : Theory) (line : List ℕ) → IsTold texts theory line → IsLine line
told-line texts theory line (of_theorem is) =
    let text = text_of_sequent (scope_over theory) is.theorem.hypotheses is.theorem.conclusion in
    record {
      front = is.name ++ codes ": " ++ text;
      one_line = joined (is.name ++ codes ": ") text (joined is.name (codes ": ") (name-one_line is.name is.named) refl) is.one_line;
      ended = is.spelled;
    }
told-line texts theory line (of_refusal is) =
    let number = decimal is.number in
    let fault = decimal (number_of is.refusal.fault) in
    let word = name_of is.refusal.fault in
    let row = row_text (scope_over theory) is.refusal.row in
    let first = joined (codes "line ") number refl (decimal-one_line is.number) in
    let second = joined (codes "line " ++ number) (codes ": E") first refl in
    let third = joined (codes "line " ++ number ++ codes ": E") fault second (decimal-one_line (number_of is.refusal.fault)) in
    let fourth = joined (codes "line " ++ number ++ codes ": E" ++ fault) (codes " ") third refl in
    let fifth = joined (codes "line " ++ number ++ codes ": E" ++ fault ++ codes " ") word fourth (fault-one_line is.refusal.fault) in
    record {
      front = codes "line " ++ number ++ codes ": E" ++ fault ++ codes " " ++ word ++ row;
      one_line = joined (codes "line " ++ number ++ codes ": E" ++ fault ++ codes " " ++ word) row fifth is.one_line;
      ended = is.spelled;
    }
told-line texts theory line (of_count is) = (let counted = lines-end (is.first ∷ is.others) in record {
  front = counted.front;
  one_line = counted.one_line;
  ended = is.spelled ∙ counted.ended;
})
told-line texts theory line (of_goal is) = record {
  front = text_of_goal (scope_over theory) is.goal.assumptions is.goal.target;
  one_line = is.one_line;
  ended = is.spelled;
}
told-line texts theory line (of_proof is) = record { front = codes "No subgoals"; one_line = refl; ended = is.spelled }

-- ---- a text cut into its lines

line-cut : (front rest : List ℕ) → is_one_line front ≡ true → cut_in_lines (front ++ codes "\n" ++ rest) ≡ (front ++ codes "\n") ∷ cut_in_lines rest
line-cut [] rest one = refl
line-cut (byte ∷ bytes) rest one =
    go (nat_eq byte 10) (first_of_both (not (nat_eq byte 10)) (is_one_line bytes) one) (line-cut bytes rest (second_of_both (not (nat_eq byte 10)) (is_one_line bytes) one))
  where
    go : (test : Bool) → not test ≡ true → cut_in_lines (bytes ++ codes "\n" ++ rest) ≡ (bytes ++ codes "\n") ∷ cut_in_lines rest
        → ◌≡◌ {A = List (List ℕ)} (if test then (byte ∷ []) ∷ cut_in_lines (bytes ++ codes "\n" ++ rest) else with_byte byte (cut_in_lines (bytes ++ codes "\n" ++ rest)))
        ((byte ∷ bytes ++ codes "\n") ∷ cut_in_lines rest)
    go false none more = ap (with_byte byte) more
    go true none more = cc

lines-cut : (texts : List (List ℕ)) (theory : Theory) (lines : List (List ℕ)) → AreTold texts theory lines → cut_in_lines (text_of_lines lines) ≡ lines
lines-cut texts theory [] told = refl
lines-cut texts theory (line ∷ lines) told =
    let is = told-line texts told.0 line told.2 in
    let more = lines-cut texts told.0 lines told.3 in
    ap (λ (first : List ℕ). cut_in_lines (first ++ text_of_lines lines)) is.ended ∙ line-cut is.front (text_of_lines lines) is.one_line
    ∙ ap (λ (first : List ℕ). first ∷ cut_in_lines (text_of_lines lines)) (sym is.ended) ∙ ap (λ (others : List (List ℕ)). line ∷ others) more

pub told-lines : ToldLinesAreLines
told-lines = record { lines = told-line; cut = lines-cut }
