-- Lemmas on what sources give and sinks take.
use Rattle.std.proofs.Common.{◌≡◌, ◌≤◌, ◌<◌, ◌+◌, ℕ, List, [], ◌∷◌, ◌++◌, length, get_or, take, drop, OnErr, Option, Ok, Err, Result, Bor, refl, sym, ap, ◌∙◌, subst}
use Rattle.std.proofs.Common.{append_assoc, append-nil, take-append-drop, add-one}
use Rattle.std.proofs.Math.Seq.{drop-cons}
use Rattle.std.proofs.lemmas.List.{length-append, length-take-le}
use Rattle.std.specs.Io.KnownBytes.{Appends, Consumes}
use Rattle.std.proofs.KnownBytes.{Appends-nil, Appends-trans, Consumes-trans}
use Rattle.hol_device_io.specs.Bytes.{AppendsFront, Puts, TakesWithin, joined}

-- how far a piece was taken
pub record TakenUpTo (old new : Option (List ℕ)) (piece rest : List ℕ) : Type 0 where
  pub front : List ℕ
  pub whole : piece ≡ front ++ rest
  pub taken : Appends old new front

pub taken_more : {a b c : Option (List ℕ)} {piece rest : List ℕ} (n : ℕ) → TakenUpTo a b piece rest → Appends b c (take n rest) → TakenUpTo a c piece (drop n rest)
taken_more {a} {b} {c} {piece} {rest} n so_far next = record {
  front = so_far.front ++ take n rest;
  whole = so_far.whole ∙ ap (λ l. so_far.front ++ l) (sym (take-append-drop n rest)) ∙ sym (append_assoc so_far.front (take n rest) (drop n rest));
  taken = Appends-trans a b c so_far.front (take n rest) so_far.taken next;
}

-- ---- what is held in a buffer

-- nothing was given to the sink
pub held-puts : (a : Option (List ℕ)) {before after piece : List ℕ} → after ≡ before ++ piece → Puts a a before after piece
held-puts a is = record { front = []; whole = sym is; taken = Appends-nil a }

-- what was held went, and the piece is held
pub flushed-puts : (a b : Option (List ℕ)) (before after piece : List ℕ) → Appends a b before → after ≡ piece → Puts a b before after piece
flushed-puts a b before after piece went is = record { front = before; whole = ap (λ l. before ++ l) (sym is); taken = went }

-- all went
pub written-puts : (a b c : Option (List ℕ)) (before piece : List ℕ) → Appends a b before → Appends b c piece → Puts a c before [] piece
written-puts a b c before piece went next = record { front = before ++ piece; whole = sym (append-nil (before ++ piece)); taken = Appends-trans a b c before piece went next }

pub flush-fails : {a b : Option (List ℕ)} {before : List ℕ} (piece : List ℕ) → AppendsFront a b before → AppendsFront a b (before ++ piece)
flush-fails piece broke = record {
  front = broke.front;
  rest = broke.rest ++ piece;
  whole = ap (λ l. l ++ piece) broke.whole ∙ append_assoc broke.front broke.rest piece;
  taken = broke.taken;
}

-- the front of what follows a piece that was taken whole
pub piece-fails : (a b c : Option (List ℕ)) (first rest : List ℕ) → Appends a b first → AppendsFront b c rest → AppendsFront a c (first ++ rest)
piece-fails a b c first rest went broke = record {
  front = first ++ broke.front;
  rest = broke.rest;
  whole = ap (λ l. first ++ l) broke.whole ∙ sym (append_assoc first broke.front broke.rest);
  taken = Appends-trans a b c first broke.front went broke.taken;
}

-- what was taken of the pieces, what is held of them, and what is left
pub record HeldUpTo (old new : Option (List ℕ)) (pieces rest : List (Bor (List ℕ))) (held : List ℕ) : Type 0 where
  pub front : List ℕ
  pub whole : joined pieces ≡ front ++ (held ++ joined rest)
  pub taken : Appends old new front

pub held-none : (a : Option (List ℕ)) (pieces : List (Bor (List ℕ))) → HeldUpTo a a pieces pieces []
held-none a pieces = record { front = []; whole = refl; taken = Appends-nil a }

pub held-more : {a b c : Option (List ℕ)} {pieces rest : List (Bor (List ℕ))} {piece : Bor (List ℕ)} {before after : List ℕ}
    → HeldUpTo a b pieces (piece ∷ rest) before → Puts b c before after piece.now → HeldUpTo a c pieces rest after
held-more {a} {b} {c} {pieces} {rest} {piece} {before} {after} so_far puts = record {
  front = so_far.front ++ puts.front;
  whole = so_far.whole ∙ ap (λ l. so_far.front ++ l) (sym (append_assoc before piece.now (joined rest)) ∙ ap (λ l. l ++ joined rest) puts.whole ∙ append_assoc puts.front after (joined rest))
      ∙ sym (append_assoc so_far.front puts.front (after ++ joined rest));
  taken = Appends-trans a b c so_far.front puts.front so_far.taken puts.taken;
}

pub put-fails : {a b c : Option (List ℕ)} {pieces rest : List (Bor (List ℕ))} {piece : Bor (List ℕ)} {before : List ℕ}
    → HeldUpTo a b pieces (piece ∷ rest) before → AppendsFront b c (before ++ piece.now) → AppendsFront a c (joined pieces)
put-fails {a} {b} {c} {pieces} {rest} {piece} {before} so_far broke =
    let all = flush-fails (joined rest) broke in
    let whole = piece-fails a b c _ _ so_far.taken all in
    subst (AppendsFront a c) (sym (so_far.whole ∙ ap (λ l. so_far.front ++ l) (sym (append_assoc before piece.now (joined rest))))) whole

-- the last write, whether it is refused or not
pub ends : {T E : Type 0} (a b c : Option (List ℕ)) (pieces : List (Bor (List ℕ))) (held : List ℕ) (result : Result T E)
    → HeldUpTo a b pieces [] held → OnErr result (AppendsFront b c held) → OnErr result (AppendsFront a c (joined pieces))
ends a b c pieces held (Ok x) so_far broke = tt
ends a b c pieces held (Err e) so_far broke =
    subst (AppendsFront a c) (sym (so_far.whole ∙ ap (λ l. so_far.front ++ l) (append-nil held))) (piece-fails a b c _ _ so_far.taken broke)

pub ended : (a b c : Option (List ℕ)) (pieces : List (Bor (List ℕ))) (held : List ℕ) → HeldUpTo a b pieces [] held → Appends b c held → Appends a c (joined pieces)
ended a b c pieces held so_far went =
    subst (Appends a c) (sym (so_far.whole ∙ ap (λ l. so_far.front ++ l) (append-nil held))) (Appends-trans a b c so_far.front held so_far.taken went)

drop-at : (pieces : List (Bor (List ℕ))) (i : ℕ) (other : Bor (List ℕ)) → i < length pieces → drop i pieces ≡ get_or pieces i other ∷ drop (i + 1) pieces
drop-at pieces i other within = rw (add-one, drop-cons pieces i other within) refl

pub held_at : {a b c : Option (List ℕ)} (pieces : List (Bor (List ℕ))) (i : ℕ) (other : Bor (List ℕ)) {before after : List ℕ} → i < length pieces
    → HeldUpTo a b pieces (drop i pieces) before → Puts b c before after (get_or pieces i other).now → HeldUpTo a c pieces (drop (i + 1) pieces) after
held_at pieces i other within so_far puts = held-more (rw (drop-at pieces i other within) at so_far) puts

pub fails_at : {a b c : Option (List ℕ)} (pieces : List (Bor (List ℕ))) (i : ℕ) (other : Bor (List ℕ)) {before : List ℕ} → i < length pieces
    → HeldUpTo a b pieces (drop i pieces) before → AppendsFront b c (before ++ (get_or pieces i other).now) → AppendsFront a c (joined pieces)
fails_at pieces i other within so_far broke = put-fails (rw (drop-at pieces i other within) at so_far) broke

-- what a source gave, with what it gives at one more call, within the limit
pub taken_within : (a b c : Option (List ℕ)) (bytes buf : List ℕ) (n limit : ℕ) → Consumes a b bytes → Consumes b c (take n buf) → n ≤ length buf → length bytes + n ≤ limit
    → TakesWithin a c limit
taken_within a b c bytes buf n limit before more room fits = record {
  taken = bytes ++ take n buf;
  told = Consumes-trans a b c bytes (take n buf) before more;
  within_limit = subst (λ m. m ≤ limit) (sym (length-append bytes (take n buf) ∙ ap (λ m. length bytes + m) (length-take-le n buf room))) fits;
}
