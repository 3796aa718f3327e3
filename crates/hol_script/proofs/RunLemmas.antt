-- How a run comes to its end, and what is left where it stops.
use Rattle.std.proofs.Common.{◌≡◌, ℕ, ◌+◌, List, [], ◌∷◌, ◌++◌, map, length, refl, sym, ap, subst, ◌∙◌, arith, true, false, Option, None, Some}
use Rattle.std.proofs.Common.{Result, Ok, Err, append_assoc, append-nil, length-append}
use Rattle.std.proofs.lemmas.List.{map-append}
use Rattle.std.specs.Option.{option_map}
use Rattle.std.specs.Io.KnownBytes.{Appends}
use Rattle.std.proofs.KnownBytes.{Appends-trans}
use Rattle.hol_model.specs.declared.fault.Fault.TheVariants.{Syntax}
use Rattle.hol_model.specs.Texts.Reading.{Scope}
use Rattle.hol_model_sessions.specs.Script.{has_mark, IsCut, leading_line_feeds, is_blank_text}
use Rattle.hol_model_sessions.specs.Replies.{NamedTheorem, theorem_in_message, theorem_in, Reply}
use Rattle.hol_model_sessions.specs.ScriptSessions.{State, start, Tools, Turn, text_of_turn, text_of_turns, as_list, theorems_in_turns}
use Rattle.hol_model_sessions.specs.Runs.{Counts, no_counts, one_of, counting, counts_after}
use Rattle.hol_model_sessions.specs.Running.{SoFar, unfinished}
use Rattle.hol_device_io.specs.Bytes.{AppendsFront}
use Rattle.hol_laws_sessions.proofs.RunProgress.{turns-add, ends, ends-unfinished}
use Rattle.hol_script_manager.specs.Session.{Printed}
use Rattle.hol_script_manager.specs.Session.{Nothing, Line, Goals}
use Rattle.hol_script_manager.specs.Session.{Refused}
use Rattle.hol_script_manager.specs.Session.{printed_name, Says, answer_text, plain}
use Rattle.hol_script.specs.Runs.{counting_answer, names_in_answer, printed_names, Finishes, Breaks}

-- ---- what is seen of an answer is what is seen of its reply

one-same : (found : Option NamedTheorem) (name : Option (List ℕ)) → name ≡ option_map (λ shown. shown.name) found → one_of name ≡ one_of found
one-same None name same = ap (λ (n : Option (List ℕ)). one_of n) same
one-same (Some shown) name same = ap (λ (n : Option (List ℕ)). one_of n) same

answer-lines : (n : ℕ) (printed : Printed) (counts : Counts) → counts.theorem_lines ≡ n → (counting_answer counts (Ok printed)).theorem_lines ≡ n + one_of (printed_name printed)
answer-lines n Nothing counts same = omega (arith, same)
answer-lines n (Line line) counts same = omega (arith, same)
answer-lines n (Goals text) counts same = omega (arith, same)

pub answer-counts : (scope : Scope) (counts : Counts) (reply : Reply) (answer : Result Printed Refused) → Says answer scope reply → counting_answer counts answer ≡ counting counts reply
answer-counts scope counts (Ok message) (Ok printed) says =
    let lines : (counting_answer counts (Ok printed)).theorem_lines ≡ counts.theorem_lines + one_of (theorem_in_message message) =
    answer-lines counts.theorem_lines printed counts refl ∙ ap (λ n. counts.theorem_lines + n) (one-same (theorem_in_message message) (printed_name printed) says.named) in
    counted printed lines
  where
    counted : (printed : Printed) → (counting_answer counts (Ok printed)).theorem_lines ≡ counts.theorem_lines + one_of (theorem_in_message message)
        → counting_answer counts (Ok printed) ≡ counting counts (Ok message)
    counted Nothing lines = λ i. record { accepted_commands = counts.accepted_commands + 1; refused_commands = counts.refused_commands; theorem_lines = lines i }
    counted (Line line) lines = λ i. record { accepted_commands = counts.accepted_commands + 1; refused_commands = counts.refused_commands; theorem_lines = lines i }
    counted (Goals text) lines = λ i. record { accepted_commands = counts.accepted_commands + 1; refused_commands = counts.refused_commands; theorem_lines = lines i }
answer-counts scope counts (Ok message) (Err refused) says = absurd says
answer-counts scope counts (Err refusal) (Ok printed) says = absurd says
answer-counts scope counts (Err refusal) (Err refused) says = refl

listed-same : (found : Option NamedTheorem) (name : Option (List ℕ)) → name ≡ option_map (λ shown. shown.name) found → as_list name ≡ map (λ shown. shown.name) (as_list found)
listed-same None name same = ap (λ (n : Option (List ℕ)). as_list n) same
listed-same (Some shown) name same = ap (λ (n : Option (List ℕ)). as_list n) same

pub answer-names : (scope : Scope) (reply : Reply) (answer : Result Printed Refused) → Says answer scope reply → names_in_answer answer ≡ map (λ shown. shown.name) (as_list (theorem_in reply))
answer-names scope (Ok message) (Ok printed) says = listed-same (theorem_in_message message) (printed_name printed) says.named
answer-names scope (Ok message) (Err refused) says = absurd says
answer-names scope (Err refusal) (Ok printed) says = absurd says
answer-names scope (Err refusal) (Err refused) says = refl

-- ---- one more turn

pub text-more : (turns : List Turn) (turn : Turn) → text_of_turns (turns ++ turn ∷ []) ≡ text_of_turns turns ++ text_of_turn turn
text-more turns turn = turns-add.text turns (turn ∷ []) ∙ ap (λ text. text_of_turns turns ++ text) (append-nil (text_of_turn turn))

pub names-more : (turns : List Turn) (turn : Turn) → printed_names (turns ++ turn ∷ []) ≡ printed_names turns ++ map (λ shown. shown.name) (as_list (theorem_in turn.reply))
names-more turns turn =
    ap (λ (theorems : List NamedTheorem). map (λ shown. shown.name) theorems) (turns-add.theorems turns (turn ∷ []) ∙ ap (λ theorems. theorems_in_turns turns ++ theorems)
    (append-nil (as_list (theorem_in turn.reply))))
    ∙ map-append (λ shown. shown.name) (theorems_in_turns turns) (as_list (theorem_in turn.reply))

-- ---- how far a run has come

module _ (tools : Tools) (script : List ℕ) where
  -- what it wrote, and what its session still has to do
  pub record Underway (written now : Option (List ℕ)) (state : State) (line : ℕ) (left : List ℕ) (counts : Counts) (names : List (List ℕ)) : Type 0 where
    pub turns : List Turn
    pub so_far : SoFar tools script state line left turns
    pub wrote : Appends written now (text_of_turns turns)
    pub counted : counts ≡ counts_after no_counts turns
    pub named : names ≡ printed_names turns

  -- ---- the end of a script

  -- nothing stands behind the last `;;`
  pub underway-ended : {written now : Option (List ℕ)} {state : State} {line : ℕ} {left : List ℕ} {counts : Counts} {names : List (List ℕ)} → Underway written now state line left counts names
      → has_mark left ≡ false
      → is_blank_text left ≡ true → Finishes tools script written now counts names state
  underway-ended {state = state} {line = line} {left = left} u none blank = record {
    turns = u.turns;
    is_run = ends tools script state line left u.turns u.so_far none blank;
    wrote = u.wrote;
    counted = u.counted;
    named = u.named;
    ends = u.so_far.ends;
  }

  -- a text stands behind it, and its refusal was written
  pub underway-unfinished : {written now next : Option (List ℕ)} {state : State} {line : ℕ} {left : List ℕ} {counts after : Counts} {names names_after : List (List ℕ)} (here : ℕ)
      (refused : Refused) → refused ≡ plain Syntax
      → Underway written now state line left counts names → has_mark left ≡ false → is_blank_text left ≡ false → here ≡ leading_line_feeds left
      → Appends now next (answer_text (line + here) (Err refused))
      → after ≡ counting_answer counts (Err refused) → names_after ≡ names ++ names_in_answer (Err refused) → Finishes tools script written next after names_after state
  underway-unfinished {written} {now} {next} {state} {line} {left} here refused same u none filled led wrote counted named =
      let last : Turn = unfinished state (line + leading_line_feeds left) in
      let text : answer_text (line + here) (Err refused) ≡ text_of_turn last = λ i. answer_text (line + led i) (Err (same i)) in
      let told : Appends now next (text_of_turn last) = subst (λ (text : List ℕ). Appends now next text) text wrote in
      record {
        turns = u.turns ++ last ∷ [];
        is_run = ends-unfinished tools script state line left u.turns u.so_far none filled;
        wrote = subst (λ (text : List ℕ). Appends written next text) (sym (text-more u.turns last)) (Appends-trans written now next (text_of_turns u.turns) (text_of_turn last) u.wrote told);
        counted = counted ∙ ap (λ (c : Counts). counting_answer c (Err refused)) u.counted ∙ sym (turns-add.counts no_counts u.turns last);
        named = named ∙ ap (λ (ns : List (List ℕ)). ns ++ []) u.named ∙ sym (names-more u.turns last);
        ends = turns-add.last start u.turns last;
      }

  -- its refusal was written in part
  pub unfinished-broken : {written now next : Option (List ℕ)} {state : State} {line : ℕ} {left : List ℕ} {counts : Counts} {names : List (List ℕ)} (here : ℕ) (refused : Refused)
      → refused ≡ plain Syntax
      → Underway written now state line left counts names → has_mark left ≡ false → is_blank_text left ≡ false → here ≡ leading_line_feeds left
      → AppendsFront now next (answer_text (line + here) (Err refused))
      → Breaks tools script written next
  unfinished-broken {written} {now} {next} {state} {line} {left} here refused same u none filled led front =
      let last : Turn = unfinished state (line + leading_line_feeds left) in
      let text : text_of_turn last ≡ answer_text (line + here) (Err refused) = sym (λ i. answer_text (line + led i) (Err (same i))) in
      record {
        turns = u.turns ++ last ∷ [];
        is_run = ends-unfinished tools script state line left u.turns u.so_far none filled;
        wrote = record {
          front = text_of_turns u.turns ++ front.front;
          rest = front.rest;
          whole = text-more u.turns last ∙ ap (λ l. text_of_turns u.turns ++ l) (text ∙ front.whole) ∙ sym (append_assoc (text_of_turns u.turns) front.front front.rest);
          taken = Appends-trans written now next (text_of_turns u.turns) front.front u.wrote front.taken;
        };
      }

-- ---- lengths

pub cut_length : (left piece behind : List ℕ) → IsCut left piece behind → length left ≡ length piece + length behind + 2
cut_length left piece behind cut =
    let whole : length left ≡ length piece + length (59 ∷ 59 ∷ behind) = ap length cut.whole ∙ length-append piece (59 ∷ 59 ∷ behind) in
    omega arith
