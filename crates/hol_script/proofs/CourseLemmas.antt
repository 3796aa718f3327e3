-- How a course goes on: more bytes are read, commands are answered, and what is written where it stops.
use Rattle.std.proofs.Common.{◌≡◌, ℕ, zero, suc, ◌+◌, ◌≤◌, ◌-◌, List, [], ◌∷◌, ◌++◌, map, length, take, drop, refl, sym, ap}
use Rattle.std.proofs.Common.{subst, ◌∙◌, arith, true, false, Bool, ◌==◌, ◌&&◌, Option, None, Some, Result, append_assoc, append-nil, length-append}
use Rattle.std.proofs.lemmas.List.{drop-drop, drop-append-le, length-drop}
use Rattle.std.proofs.Math.Seq.{drop-append-add, take-append_seam}
use Rattle.std.specs.Prelude.{MatchOption, is_some}
use Rattle.std.specs.Io.KnownBytes.{Appends}
use Rattle.std.proofs.KnownBytes.{Appends-nil, Appends-trans}
use Rattle.hol_model.proofs.Tests.{first_of_neither, second_of_neither}
use Rattle.hol_model.specs.declared.limits.TheConstants.{TEXT_BYTES_LIMIT}
use Rattle.hol_model_sessions.specs.Script.{begins_mark, has_mark, IsCut, Request, line_feeds, leading_line_feeds, is_blank_text, request_and, requested}
use Rattle.hol_model_sessions.specs.Replies.{theorem_in, reply_text}
use Rattle.hol_model_sessions.specs.ScriptSessions.{State, start, scope_in, Tools, Turn, Takes, Session, text_of_turn, text_of_turns, as_list}
use Rattle.hol_model_sessions.specs.Runs.{Counts, no_counts, counting, counts_after}
use Rattle.hol_model_sessions.specs.Running.{SoFar}
use Rattle.hol_model_sessions.specs.SessionCalls.{Turns, IsTurn}
use Rattle.hol_laws_sessions.specs.SessionLaws.{all_without_memory}
use Rattle.hol_laws_sessions.proofs.Pieces.{HasPieces, has_pieces}
use Rattle.hol_laws_sessions.proofs.Turns.{may-lack-memory}
use Rattle.hol_laws_sessions.proofs.RunProgress.{turns-add, begins, blank-passes, turn-passes, stopped-begins, is_turn}
use Rattle.hol_device_io.specs.Bytes.{AppendsFront}
use Rattle.hol_script_manager.specs.Session.{Printed}
use Rattle.hol_script_manager.specs.Session.{Refused}
use Rattle.hol_script_manager.specs.Session.{Says, answer_text}
use Rattle.hol_script_manager.specs.Session.{said-text}
use Rattle.hol_script_manager.specs.Managers.{state_of}
use Rattle.hol_script.specs.declared.course.Course.{Course}
use Rattle.hol_script.specs.declared.progress.Summary.{Summary}
use Rattle.hol_script.specs.Runs.{counts_of, counting_answer, names_of, names_in_answer, printed_names, Breaks}
use Rattle.hol_script.specs.Conversations.{IsAnswered}
use Rattle.hol_script.specs.Courses.{IsBegun, IsWithin, AnswersSoFar, IsAhead, IsUnderwayAt, IsUnderway, BreaksAnswers}
use Rattle.hol_script.proofs.RunLemmas.{Underway, text-more, names-more, answer-counts, answer-names}

-- ---- bytes

cut-more : (left piece behind more : List ℕ) → IsCut left piece behind → IsCut (left ++ more) piece (behind ++ more)
cut-more left piece behind more cut = record { whole = ap (λ l. l ++ more) cut.whole ∙ append_assoc piece (59 ∷ 59 ∷ behind) more; first = cut.first }

-- a `;;` that stands nowhere in so many bytes, nor from the last of them on, stands nowhere
marks-join : (known : ℕ) (bytes : List ℕ) → has_mark (take (suc known) bytes) ≡ false → has_mark (drop known bytes) ≡ false → has_mark bytes ≡ false
marks-join known [] before behind = refl
marks-join zero (a ∷ bytes) before behind = behind
marks-join (suc known) (a ∷ []) before behind = refl
marks-join (suc known) (a ∷ b ∷ bytes) before behind =
    let here : begins_mark (a ∷ b ∷ bytes) ≡ false = first_of_neither ((a == 59) && (b == 59)) (has_mark (b ∷ take known bytes)) before in
    let further : has_mark (b ∷ bytes) ≡ false = marks-join known (b ∷ bytes) (second_of_neither ((a == 59) && (b == 59)) (has_mark (b ∷ take known bytes)) before) behind in
    rw (here, further) refl

pub no-new-mark : (known : ℕ) (bytes : List ℕ) → has_mark (drop (known - 1) bytes) ≡ false → has_mark (take known bytes) ≡ false → has_mark bytes ≡ false
no-new-mark zero bytes behind before = behind
no-new-mark (suc known) bytes behind before =
    let same : suc known - 1 ≡ known = omega arith in
    marks-join known bytes before (subst (λ (n : ℕ). has_mark (drop n bytes) ≡ false) same behind)

-- what waits among the bytes that were read waits as more is read
pub waits-still : (read chunk : List ℕ) (at : ℕ) → at ≤ length read → has_mark (drop at read) ≡ false → has_mark (take (length read - at) (drop at (read ++ chunk))) ≡ false
waits-still read chunk at within waits =
    let behind : drop at (read ++ chunk) ≡ drop at read ++ chunk = drop-append-le at read chunk within in
    let count : length (drop at read) ≡ length read - at = length-drop at read in
    let same : take (length read - at) (drop at (read ++ chunk)) ≡ drop at read =
    ap (λ l. take (length read - at) l) behind ∙ ap (λ n. take n (drop at read ++ chunk)) (sym count) ∙ take-append_seam (drop at read) chunk in
    subst (λ l. has_mark l ≡ false) (sym same) waits

-- no number is past the first place
pub within-begun : (read : List ℕ) {course : Course} → length read ≤ TEXT_BYTES_LIMIT → IsBegun course → IsWithin read course
within-begun read {course} within b =
    let at : course.at ≡ 0 = b.at in
    let line : course.line ≡ 1 = b.line in
    let accepted : course.progress.summary.accepted ≡ 0 = ap (λ (s : Summary). s.accepted) b.summary in
    let refused : course.progress.summary.refused ≡ 0 = ap (λ (s : Summary). s.refused) b.summary in
    let printed : course.progress.summary.printed ≡ 0 = ap (λ (s : Summary). s.printed) b.summary in
    record { within_limit = within; manager = b.manager; place = omega arith; lines = omega arith; accepted = omega arith; refused = omega arith; printed = omega arith }

-- where nothing was read, nothing waits
pub waits-begun : (read : List ℕ) {course : Course} → IsBegun course → read ≡ [] → has_mark (drop course.at read) ≡ false
waits-begun read {course} b none =
    let waits : has_mark (drop 0 read) ≡ false = subst (λ l. has_mark l ≡ false) (sym none) refl in
    subst (λ (at : ℕ). has_mark (drop at read) ≡ false) (sym b.at) waits

-- the test for a `;;` found none
pub uncut : {A : Type 0} (bytes : List ℕ) (Cut : A → Type 0) (found : Option A) → MatchOption found (has_mark bytes ≡ false) Cut → is_some found ≡ false → has_mark bytes ≡ false
uncut bytes Cut None none is = none
uncut bytes Cut (Some parts) cut is = cc

-- what stands behind the `;;` of a piece, as what is left of all the bytes
pub behind-at : (read piece behind : List ℕ) (at : ℕ) → IsCut (drop at read) piece behind → drop (at + (length piece + 2)) read ≡ behind
behind-at read piece behind at cut =
    sym (drop-drop (length piece + 2) at read) ∙ ap (λ l. drop (length piece + 2) l) cut.whole ∙ drop-append-add piece (59 ∷ 59 ∷ behind) 2

module _ (tools : Tools) where
  -- ---- the answers to the commands that were read

  answers-begin : (read : List ℕ) → AnswersSoFar tools read start 1 read []
  answers-begin read = record { decides = λ pieces last cuts more session. record { pieces = pieces; last = last; cuts = cuts; session = session } }

  answers-passed : (read : List ℕ) (state : State) (line : ℕ) (left piece behind : List ℕ) (turns : List Turn) → AnswersSoFar tools read state line left turns
      → IsCut left piece behind → is_blank_text piece ≡ true → AnswersSoFar tools read state (line + line_feeds piece) behind turns
  answers-passed read state line left piece behind turns a cut blank = record {
    decides = λ pieces last cuts more session.
        a.decides (piece ∷ pieces) last (behind, cut, cuts) more
        (subst (λ (b : Bool). Session tools state (request_and b (record { line = line + leading_line_feeds piece; text = Some piece }) (requested (line + line_feeds piece) pieces [])) more)
        (sym blank) session);
  }

  answers-turned : (read : List ℕ) (state : State) (line : ℕ) (left piece behind : List ℕ) (turns : List Turn) (turn : Turn) → AnswersSoFar tools read state line left turns
      → IsCut left piece behind → is_blank_text piece ≡ false → Takes tools state (record { line = line + leading_line_feeds piece; text = Some piece }) turn
      → AnswersSoFar tools read turn.after (line + line_feeds piece) behind (turns ++ turn ∷ [])
  answers-turned read state line left piece behind turns turn a cut filled takes = record {
    decides = λ pieces last cuts more session.
        subst (λ (all : List Turn). IsAnswered tools read all) (sym (append_assoc turns (turn ∷ []) more))
        (a.decides (piece ∷ pieces) last (behind, cut, cuts) (turn ∷ more)
        (subst (λ (b : Bool). Session tools state (request_and b (record { line = line + leading_line_feeds piece; text = Some piece }) (requested (line + line_feeds piece) pieces []))
        (turn ∷ more)) (sym filled) (takes, session)));
  }

  -- wherever they stop, they are the first of all
  record BeginsAnswers (read : List ℕ) (turns : List Turn) : Type 0 where
    more : List Turn
    is_answered : IsAnswered tools read (turns ++ more)

  answers-stopped : (read : List ℕ) (state : State) (line : ℕ) (left : List ℕ) (turns : List Turn) → AnswersSoFar tools read state line left turns → BeginsAnswers read turns
  answers-stopped read state line left turns a =
      let rest : HasPieces left = has_pieces left in
      let asked = requested line rest.pieces [] in
      record { more = all_without_memory state asked; is_answered = a.decides rest.pieces rest.last rest.cuts (all_without_memory state asked) (may-lack-memory tools state asked) }

  -- ---- turns so far, whatever follows

  ahead-begun : (read : List ℕ) → IsAhead tools read start 1 read []
  ahead-begun read = record { run = λ more. begins tools (read ++ more); answered = λ more. answers-begin (read ++ more) }

  -- more was read
  ahead-read : (read : List ℕ) (state : State) (line : ℕ) (left : List ℕ) (turns : List Turn) (chunk : List ℕ) → IsAhead tools read state line left turns
      → IsAhead tools (read ++ chunk) state line (left ++ chunk) turns
  ahead-read read state line left turns chunk a = record {
    run = λ more.
        subst (λ (bytes : List ℕ). SoFar tools bytes state line ((left ++ chunk) ++ more) turns) (sym (append_assoc read chunk more))
        (subst (λ (bytes : List ℕ). SoFar tools (read ++ (chunk ++ more)) state line bytes turns) (sym (append_assoc left chunk more)) (a.run (chunk ++ more)));
    answered = λ more.
        subst (λ (bytes : List ℕ). AnswersSoFar tools bytes state line ((left ++ chunk) ++ more) turns) (sym (append_assoc read chunk more))
        (subst (λ (bytes : List ℕ). AnswersSoFar tools (read ++ (chunk ++ more)) state line bytes turns) (sym (append_assoc left chunk more)) (a.answered (chunk ++ more)));
  }

  ahead-passed : (read : List ℕ) (state : State) (line : ℕ) (left piece behind : List ℕ) (turns : List Turn) → IsAhead tools read state line left turns
      → IsCut left piece behind → is_blank_text piece ≡ true → IsAhead tools read state (line + line_feeds piece) behind turns
  ahead-passed read state line left piece behind turns a cut blank = record {
    run = λ more. blank-passes tools (read ++ more) state line (left ++ more) piece (behind ++ more) turns (a.run more) (cut-more left piece behind more cut) blank;
    answered = λ more. answers-passed (read ++ more) state line (left ++ more) piece (behind ++ more) turns (a.answered more) (cut-more left piece behind more cut) blank;
  }

  ahead-turned : (read : List ℕ) (state : State) (line : ℕ) (left piece behind : List ℕ) (turns : List Turn) (turn : Turn) → IsAhead tools read state line left turns
      → IsCut left piece behind → is_blank_text piece ≡ false → Takes tools state (record { line = line + leading_line_feeds piece; text = Some piece }) turn
      → IsAhead tools read turn.after (line + line_feeds piece) behind (turns ++ turn ∷ [])
  ahead-turned read state line left piece behind turns turn a cut filled takes = record {
    run = λ more. turn-passes tools (read ++ more) state line (left ++ more) piece (behind ++ more) turns turn (a.run more) (cut-more left piece behind more cut) filled takes;
    answered = λ more. answers-turned (read ++ more) state line (left ++ more) piece (behind ++ more) turns turn (a.answered more) (cut-more left piece behind more cut) filled takes;
  }

  -- ---- a command has answered: its turn, and what is seen of it

  record Answered (old : State) (line : ℕ) (piece : List ℕ) (answer : Result Printed Refused) (new : State) : Type 0 where
    turn : Turn
    takes : Takes tools old (record { line = line + leading_line_feeds piece; text = Some piece }) turn
    leaves : turn.after ≡ new
    text : text_of_turn turn ≡ answer_text (line + leading_line_feeds piece) answer
    counted : (counts : Counts) → counting_answer counts answer ≡ counting counts turn.reply
    named : names_in_answer answer ≡ map (λ shown. shown.name) (as_list (theorem_in turn.reply))

  answered : (old new : State) (line : ℕ) (piece : List ℕ) (answer : Result Printed Refused) → Turns tools old (Some piece) (Says answer) new → Answered old line piece answer new
  answered old new line piece answer call =
      let here : ℕ = line + leading_line_feeds piece in
      let request : Request = record { line = here; text = Some piece } in
      let t : IsTurn tools old request (Says answer) new = is_turn tools old new request (Says answer) call in
      record {
        turn = t.turn;
        takes = t.takes;
        leaves = t.leaves;
        text = ap (λ n. reply_text n (scope_in t.turn.after) t.turn.reply) (ap (λ (u : Turn). u.line) t.takes.is_turn) ∙ sym (said-text answer here (scope_in t.turn.after) t.turn.reply t.says);
        counted = λ counts. answer-counts (scope_in t.turn.after) counts t.turn.reply answer t.says;
        named = answer-names (scope_in t.turn.after) t.turn.reply answer t.says;
      }

  -- ---- how far a run has come

  begun : (read : List ℕ) (written : Option (List ℕ)) → IsUnderwayAt tools read written written start 1 read no_counts []
  begun read written = record { turns = []; ahead = ahead-begun read; wrote = Appends-nil written; counted = refl; named = refl }

  -- none of the bytes is answered yet
  pub course-begun : (read : List ℕ) (written : Option (List ℕ)) {course : Course} → IsBegun course → IsUnderway tools read written written course
  course-begun read written {course} b =
      let at_first : IsUnderwayAt tools read written written start 1 (drop 0 read) no_counts [] = begun read written in
      subst (λ (state : State). IsUnderwayAt tools read written written state course.line (drop course.at read) (counts_of course.progress.summary) (names_of course.progress)) (sym b.state)
      (subst (λ (line : ℕ). IsUnderwayAt tools read written written start line (drop course.at read) (counts_of course.progress.summary) (names_of course.progress)) (sym b.line)
      (subst (λ (at : ℕ). IsUnderwayAt tools read written written start 1 (drop at read) (counts_of course.progress.summary) (names_of course.progress)) (sym b.at)
      (subst (λ (s : Summary). IsUnderwayAt tools read written written start 1 (drop 0 read) (counts_of s) (names_of course.progress)) (sym b.summary)
      (subst (λ (names : List (List ℕ)). IsUnderwayAt tools read written written start 1 (drop 0 read) no_counts names) (sym b.names) at_first))))

  module _ {read : List ℕ} {written now : Option (List ℕ)} {old : State} {line : ℕ} {left : List ℕ} {counts : Counts} {names : List (List ℕ)}
      (u : IsUnderwayAt tools read written now old line left counts names) where
    -- more was read
    pub read-on : (chunk : List ℕ) → IsUnderwayAt tools (read ++ chunk) written now old line (left ++ chunk) counts names
    read-on chunk = record { turns = u.turns; ahead = ahead-read read old line left u.turns chunk u.ahead; wrote = u.wrote; counted = u.counted; named = u.named }

    -- what is left as the end of a script
    so_far-here : SoFar tools read old line left u.turns
    so_far-here =
        subst (λ (bytes : List ℕ). SoFar tools bytes old line left u.turns) (append-nil read)
        (subst (λ (bytes : List ℕ). SoFar tools (read ++ []) old line bytes u.turns) (append-nil left) (u.ahead.run []))

    pub at-end : Underway tools read written now old line left counts names
    at-end = record { turns = u.turns; so_far = so_far-here; wrote = u.wrote; counted = u.counted; named = u.named }

    answers-here : AnswersSoFar tools read old line left u.turns
    answers-here =
        subst (λ (bytes : List ℕ). AnswersSoFar tools bytes old line left u.turns) (append-nil read)
        (subst (λ (bytes : List ℕ). AnswersSoFar tools (read ++ []) old line bytes u.turns) (append-nil left) (u.ahead.answered []))

    -- where no `;;` is left, all commands that were read are answered
    pub all-answered : has_mark left ≡ false → IsAnswered tools read u.turns
    all-answered none = subst (λ (turns : List Turn). IsAnswered tools read turns) (append-nil u.turns) (answers-here.decides [] left (refl, none) [] tt)

    -- the front of a run of all, whatever follows
    pub front-here : (more : List ℕ) → Breaks tools (read ++ more) written now
    front-here more =
        let all = stopped-begins tools (read ++ more) old line (left ++ more) u.turns (u.ahead.run more) in
        record {
          turns = u.turns ++ all.more;
          is_run = all.is_run;
          wrote = record { front = text_of_turns u.turns; rest = text_of_turns all.more; whole = turns-add.text u.turns all.more; taken = u.wrote };
        }

    module _ (piece behind : List ℕ) (cut : IsCut left piece behind) where
      -- a blank command asks for nothing
      pub passed : (feeds : ℕ) → is_blank_text piece ≡ true → feeds ≡ line_feeds piece → IsUnderwayAt tools read written now old (line + feeds) behind counts names
      passed feeds blank fed =
          subst (λ (n : ℕ). IsUnderwayAt tools read written now old (line + n) behind counts names) (sym fed)
          (record { turns = u.turns; ahead = ahead-passed read old line left piece behind u.turns u.ahead cut blank; wrote = u.wrote; counted = u.counted; named = u.named })

      module _ {new : State} {next : Option (List ℕ)} (answer : Result Printed Refused) (here : ℕ) (filled : is_blank_text piece ≡ false) (call : Turns tools old (Some piece) (Says answer) new)
          (led : here ≡ leading_line_feeds piece) where
        -- the text of the answer was written
        pub turned : {after : Counts} {names_after : List (List ℕ)} (feeds : ℕ) → feeds ≡ line_feeds piece → Appends now next (answer_text (line + here) answer)
            → after ≡ counting_answer counts answer → names_after ≡ names ++ names_in_answer answer → IsUnderwayAt tools read written next new (line + feeds) behind after names_after
        turned {after} {names_after} feeds fed wrote counted named =
            let a = answered old new line piece answer call in
            let told : Appends now next (text_of_turn a.turn) = subst (λ (text : List ℕ). Appends now next text) (ap (λ n. answer_text (line + n) answer) led ∙ sym a.text) wrote in
            subst (λ (n : ℕ). IsUnderwayAt tools read written next new (line + n) behind after names_after) (sym fed) (record {
              turns = u.turns ++ a.turn ∷ [];
              ahead = subst (λ (s : State). IsAhead tools read s (line + line_feeds piece) behind (u.turns ++ a.turn ∷ [])) a.leaves
                  (ahead-turned read old line left piece behind u.turns a.turn u.ahead cut filled a.takes);
              wrote = subst (λ (text : List ℕ). Appends written next text) (sym (text-more u.turns a.turn)) (Appends-trans written now next (text_of_turns u.turns) (text_of_turn a.turn) u.wrote told);
              counted = counted ∙ ap (λ (c : Counts). counting_answer c answer) u.counted ∙ a.counted (counts_after no_counts u.turns) ∙ sym (turns-add.counts no_counts u.turns a.turn);
              named = named ∙ ap (λ (ns : List (List ℕ)). ns ++ names_in_answer answer) u.named ∙ ap (λ (ns : List (List ℕ)). printed_names u.turns ++ ns) a.named ∙ sym (names-more u.turns a.turn);
            })

        -- it was written in part: a front of what these turns and others write
        front-of : (turn : Turn) (more : List Turn) → text_of_turn turn ≡ answer_text (line + leading_line_feeds piece) answer → AppendsFront now next (answer_text (line + here) answer)
            → AppendsFront written next (text_of_turns ((u.turns ++ turn ∷ []) ++ more))
        front-of turn more same front = record {
          front = text_of_turns u.turns ++ front.front;
          rest = front.rest ++ text_of_turns more;
          whole = turns-add.text (u.turns ++ turn ∷ []) more
              ∙ ap (λ l. l ++ text_of_turns more) (text-more u.turns turn ∙ ap (λ l. text_of_turns u.turns ++ l) (same ∙ ap (λ n. answer_text (line + n) answer) (sym led) ∙ front.whole)
              ∙ sym (append_assoc (text_of_turns u.turns) front.front front.rest))
              ∙ append_assoc (text_of_turns u.turns ++ front.front) front.rest (text_of_turns more);
          taken = Appends-trans written now next (text_of_turns u.turns) front.front u.wrote front.taken;
        }

        pub answer-broken : AppendsFront now next (answer_text (line + here) answer) → BreaksAnswers tools read written next
        answer-broken front =
            let a = answered old new line piece answer call in
            let all = answers-stopped read a.turn.after (line + line_feeds piece) behind (u.turns ++ a.turn ∷ [])
            (answers-turned read old line left piece behind u.turns a.turn answers-here cut filled a.takes) in
            record { turns = (u.turns ++ a.turn ∷ []) ++ all.more; is_answered = all.is_answered; wrote = front-of a.turn all.more a.text front }

        pub run-broken : (more : List ℕ) → AppendsFront now next (answer_text (line + here) answer) → Breaks tools (read ++ more) written next
        run-broken more front =
            let a = answered old new line piece answer call in
            let ahead = ahead-turned read old line left piece behind u.turns a.turn u.ahead cut filled a.takes in
            let all = stopped-begins tools (read ++ more) a.turn.after (line + line_feeds piece) (behind ++ more) (u.turns ++ a.turn ∷ []) (ahead.run more) in
            record { turns = (u.turns ++ a.turn ∷ []) ++ all.more; is_run = all.is_run; wrote = front-of a.turn all.more a.text front }

  -- more was read behind what a course has come to
  pub course-read : (read chunk : List ℕ) {written now : Option (List ℕ)} (course : Course) → course.at ≤ length read → IsUnderway tools read written now course
      → IsUnderway tools (read ++ chunk) written now course
  course-read read chunk {written} {now} course within u =
      subst (λ (left : List ℕ). IsUnderwayAt tools (read ++ chunk) written now (state_of course.progress.manager) course.line left (counts_of course.progress.summary) (names_of course.progress))
      (sym (drop-append-le course.at read chunk within)) (read-on u chunk)
