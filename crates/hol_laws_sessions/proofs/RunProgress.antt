-- How a run begins, goes on and ends.
use Rattle.std.proofs.Common.{◌≡◌, ◌+◌, List, [], ◌∷◌, ◌++◌, map, Bool, refl, sym, subst, ap, ◌∙◌, append_assoc, append-nil, None, Some, Err}
use Rattle.hol_model.specs.declared.fault.Fault.TheVariants.{Syntax}
use Rattle.hol_model_sessions.specs.Script.{Request, line_feeds, leading_line_feeds, request_and, requested}
use Rattle.hol_model_sessions.specs.Replies.{refusal_of, theorem_in, Reply}
use Rattle.hol_model_sessions.specs.ScriptSessions.{State, start, Tools, reply_of, is_unfinished, Turn, Session, last_state, text_of_turn, text_of_turns, as_list, theorems_in_turns}
use Rattle.hol_model.specs.Texts.Reading.{Scope}
use Rattle.hol_model_sessions.specs.SessionCalls.{Turns, IsTurn}
use Rattle.hol_laws_sessions.specs.SessionLaws.{all_without_memory}
use Rattle.hol_model_sessions.specs.Runs.{Counts, counting, counts_after, claim_of, IsRun}
use Rattle.hol_model_sessions.specs.Running.{unfinished}
use Rattle.hol_laws_sessions.specs.RunLaws.{RunsBegin, BlanksPass, TurnsPass, RunsEnd, RunsEndUnfinished, StoppedRunsBegin, TurnsAdd}
use Rattle.hol_laws_sessions.proofs.Pieces.{HasPieces, has_pieces}
use Rattle.hol_laws_sessions.proofs.Turns.{may-lack-memory}

-- ---- turns one after another

text-adds : (turns more : List Turn) → text_of_turns (turns ++ more) ≡ text_of_turns turns ++ text_of_turns more
text-adds [] more = refl
text-adds (turn ∷ turns) more = ap (λ text. text_of_turn turn ++ text) (text-adds turns more) ∙ sym (append_assoc (text_of_turn turn) (text_of_turns turns) (text_of_turns more))

counts-add : (counts : Counts) (turns : List Turn) (turn : Turn) → counts_after counts (turns ++ turn ∷ []) ≡ counting (counts_after counts turns) turn.reply
counts-add counts [] turn = refl
counts-add counts (first ∷ turns) turn = counts-add (counting counts first.reply) turns turn

theorems-add : (turns more : List Turn) → theorems_in_turns (turns ++ more) ≡ theorems_in_turns turns ++ theorems_in_turns more
theorems-add [] more = refl
theorems-add (turn ∷ turns) more =
    ap (λ theorems. as_list (theorem_in turn.reply) ++ theorems) (theorems-add turns more)
    ∙ sym (append_assoc (as_list (theorem_in turn.reply)) (theorems_in_turns turns) (theorems_in_turns more))

map-adds : {A B : Type 0} (f : A → B) (xs ys : List A) → map f (xs ++ ys) ≡ map f xs ++ map f ys
map-adds f [] ys = refl
map-adds f (x ∷ xs) ys = ap (λ l. f x ∷ l) (map-adds f xs ys)

last-adds : (state : State) (turns : List Turn) (turn : Turn) → last_state state (turns ++ turn ∷ []) ≡ turn.after
last-adds state [] turn = refl
last-adds state (first ∷ turns) turn = last-adds first.after turns turn

pub turns-add : TurnsAdd
turns-add = record {
  text = text-adds;
  counts = counts-add;
  theorems = theorems-add;
  claims = λ turns more. ap (map claim_of) (theorems-add turns more) ∙ map-adds claim_of (theorems_in_turns turns) (theorems_in_turns more);
  last = last-adds;
}

-- ---- the run

pub begins : (tools : Tools) → RunsBegin tools
begins tools script = record { decides = λ pieces last cuts more session. record { pieces = pieces; last = last; cuts = cuts; session = session }; ends = refl }

pub blank-passes : (tools : Tools) → BlanksPass tools
blank-passes tools script state line left piece behind turns so_far cut blank = record {
  decides = λ pieces last cuts more session.
      so_far.decides (piece ∷ pieces) last (behind, cut, cuts) more
      (subst (λ (b : Bool). Session tools state (request_and b (record { line = line + leading_line_feeds piece; text = Some piece }) (requested (line + line_feeds piece) pieces last)) more)
      (sym blank) session);
  ends = so_far.ends;
}

pub turn-passes : (tools : Tools) → TurnsPass tools
turn-passes tools script state line left piece behind turns turn so_far cut filled takes = record {
  decides = λ pieces last cuts more session.
      subst (λ (all : List Turn). IsRun tools script all) (sym (append_assoc turns (turn ∷ []) more))
      (so_far.decides (piece ∷ pieces) last (behind, cut, cuts) (turn ∷ more)
      (subst (λ (b : Bool). Session tools state (request_and b (record { line = line + leading_line_feeds piece; text = Some piece }) (requested (line + line_feeds piece) pieces last))
      (turn ∷ more)) (sym filled) (takes, session)));
  ends = last-adds start turns turn;
}

pub ends : (tools : Tools) → RunsEnd tools
ends tools script state line left turns so_far none blank =
    subst (λ (all : List Turn). IsRun tools script all) (append-nil turns)
    (so_far.decides [] left (refl, none) []
    (subst (λ (b : Bool). Session tools state (request_and b (record { line = line + leading_line_feeds left; text = None }) []) []) (sym blank) tt))

pub ends-unfinished : (tools : Tools) → RunsEndUnfinished tools
ends-unfinished tools script state line left turns so_far none filled =
    so_far.decides [] left (refl, none) (unfinished state (line + leading_line_feeds left) ∷ [])
    (subst (λ (b : Bool). Session tools state (request_and b (record { line = line + leading_line_feeds left; text = None }) []) (unfinished state (line + leading_line_feeds left) ∷ [])) (sym filled)
    (record { outcome = Err (refusal_of Syntax); is_turn = refl; allowed = is_unfinished; is_true = record { theorem = tt; goals = tt; row = tt } }, tt))

pub stopped-begins : (tools : Tools) → StoppedRunsBegin tools
stopped-begins tools script state line left turns so_far =
    let rest : HasPieces left = has_pieces left in
    let asked = requested line rest.pieces rest.last in
    record { more = all_without_memory state asked; is_run = so_far.decides rest.pieces rest.last rest.cuts (all_without_memory state asked) (may-lack-memory tools state asked) }

-- ---- calls

-- what a call says is a turn of the request, whatever its line
pub is_turn : (tools : Tools) (old new : State) (request : Request) (Says : Scope → Reply → Type 0) → Turns tools old request.text Says new → IsTurn tools old request Says new
is_turn tools old new request Says turns = record {
  turn = record { line = request.line; reply = reply_of turns.outcome; after = new };
  takes = record {
    outcome = turns.outcome;
    is_turn = ap (λ (s : State). record { line = request.line; reply = reply_of turns.outcome; after = s }) turns.leaves;
    allowed = turns.allowed;
    is_true = turns.is_true;
  };
  leaves = refl;
  says = turns.says;
}
