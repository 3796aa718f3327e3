-- The reader of terms is in a state of the machine, and stays in one.
use Rattle.std.proofs.Common.{◌≡◌, ℕ, suc, ◌<◌, ◌≤◌, List, [], ◌∷◌, ◌++◌, length, map, Bool, true, false, nat_lt, Option, None, Some, is_some, Result, Ok, Err, refl, sym, ap, ◌∙◌, subst, arith}
use Rattle.std.proofs.Common.{append_assoc}
use Rattle.std.proofs.lemmas.Bool.{lt-ltb, le-ltb, le-leb, lt-leb}
use Rattle.std.proofs.lemmas.List.{append-nil, map-append, length-map}
use Rattle.hol_model.specs.Texts.TermGrammar.{TermTree, Enclosed, Apply, infix_level, Lexeme, AtomPiece, OpenPiece, ClosePiece, NotPiece, InfixPiece, BinderPiece}
use Rattle.hol_syntax_grammar.specs.declared.term_reader.Waiting.{Waiting}
use Rattle.hol_syntax_grammar.specs.declared.term_reader.Waiting.TheVariants.{Not, Right, Body}
use Rattle.hol_syntax_grammar.specs.declared.term_reader.Open.{Open}
use Rattle.hol_syntax_grammar.specs.declared.term_reader.Open.TheVariants.{Parenthesis as ParenthesisHere, Argument as ArgumentHere, Waits as WaitsHere}
use Rattle.hol_syntax_grammar.specs.declared.term_reader.TermReader.{TermReader}
use Rattle.hol_syntax_grammar.specs.declared.type_reader.ReadError.{ReadError}
use Rattle.hol_syntax_grammar.specs.declared.type_reader.ReadError.TheVariants.{Memory, Syntax}
use Rattle.hol_syntax_grammar.specs.declared.steps.TermStep.{TermStep as StepHere}
use Rattle.hol_syntax_grammar.specs.declared.piece_reader.Piece.TheVariants.{Open as OpenHere, Not as NotHere}
use Rattle.hol_syntax_grammar.specs.PieceStates.{IsPieceOf}
use Rattle.hol_syntax_grammar.specs.TermReader.{Frame, NotOf, RightOf, BodyOf, frame_level, Pending, Parenthesis, Waits, make, floor, pick, close, Turn, Goes, Fails, if_so, open_one, closed, whole}
use Rattle.hol_syntax_grammar.specs.TermSteps.{TermStep, MakeApply, MakeNot, MakeJoin, LeaveBinder, term_steps, FlatStep, FlatApply, FlatNot, FlatJoin, FlatLeave, flat_step, flat_steps}
use Rattle.hol_syntax_grammar.specs.Steps.{flat_step_of, flat_steps_of}
use Rattle.hol_syntax_grammar.specs.TermStates.{Place, AloneOpen, ArgumentOpen, NotOpen, RightOpen, BodyOpen, waiting_here, open_here, frame_place, place, places, waiting_level, made_step}
use Rattle.hol_syntax_grammar.specs.TermStates.{open_level, IsFloor, frame_steps, pending_steps, steps_before, IsState, Takes, IsOpened}
use Rattle.hol_syntax_grammar.proofs.Lists.{nil_not_snoc, snoc_same, length_snoc}

-- a step is pushed
pub pushed : (steps : List StepHere) (done : List TermStep) (step : StepHere) (made : TermStep) → flat_steps_of steps ≡ flat_steps done → flat_step_of step ≡ flat_step made
    → flat_steps_of (steps ++ step ∷ []) ≡ flat_steps (done ++ made ∷ [])
pushed steps done step made e f =
    map-append flat_step_of steps (step ∷ []) ∙ ap (λ l. l ++ flat_step_of step ∷ []) e ∙ ap (λ x. flat_steps done ++ x ∷ []) f
    ∙ sym (map-append flat_step done (made ∷ []))

-- the last place is that of the newest
pub popped : (opens : List Pending) (rest : List Open) (last : Open) → map open_here (rest ++ last ∷ []) ≡ places opens
    → (o : Pending) × (below : List Pending) × (opens ≡ o ∷ below) × (map open_here rest ≡ places below) × (open_here last ≡ place o)
popped [] rest last e = absurd (nil_not_snoc (map open_here rest) (open_here last) (sym e ∙ map-append open_here rest (last ∷ [])))
popped (o ∷ opens) rest last e =
    let same = snoc_same (map open_here rest) (places opens) (open_here last) (place o) (sym (map-append open_here rest (last ∷ [])) ∙ e) in
    (o, opens, refl, same.0, same.1)

-- what is mapped onto a list with a last element has one
pub unsnoc : {A B : Type 0} (f : A → B) (items : List A) (xs : List B) (b : B) → map f items ≡ xs ++ b ∷ []
    → (rest : List A) × (last : A) × (items ≡ rest ++ last ∷ []) × (f last ≡ b)
unsnoc f [] xs b e = absurd (nil_not_snoc xs b e)
unsnoc f (i ∷ []) [] b e = ([], i, refl, cc)
unsnoc f (i ∷ j ∷ items) [] b e = absurd (let bad : map f (j ∷ items) ≡ [] = cc in cc)
unsnoc f (i ∷ items) (x ∷ xs) b e =
    let tail : map f items ≡ xs ++ b ∷ [] = cc in
    let found = unsnoc f items xs b tail in
    (i ∷ found.0, found.1, ap (λ l. i ∷ l) found.2, found.3)

-- what a place says
abbrev place_level : Place → ℕ
place_level AloneOpen = 0
place_level ArgumentOpen = 0
place_level NotOpen = 14
place_level (RightOpen i) = infix_level i
place_level (BodyOpen q) = 0

abbrev place_step : Place → FlatStep
place_step AloneOpen = FlatApply
place_step ArgumentOpen = FlatApply
place_step NotOpen = FlatNot
place_step (RightOpen i) = FlatJoin i
place_step (BodyOpen q) = FlatLeave q

abbrev waits_at : Place → Bool
waits_at AloneOpen = false
waits_at ArgumentOpen = false
waits_at NotOpen = true
waits_at (RightOpen i) = true
waits_at (BodyOpen q) = true

abbrev frame_step : Frame → TermStep
frame_step NotOf = MakeNot
frame_step (RightOf i a) = MakeJoin i
frame_step (BodyOf q name tree) = LeaveBinder q

level_here : (w : Waiting) → waiting_level w ≡ place_level (waiting_here w)
level_here Not = refl
level_here (Right i) = refl
level_here (Body q) = refl

step_here : (w : Waiting) → made_step w ≡ place_step (waiting_here w)
step_here Not = refl
step_here (Right i) = refl
step_here (Body q) = refl

waits_here : (w : Waiting) → waits_at (waiting_here w) ≡ true
waits_here Not = refl
waits_here (Right i) = refl
waits_here (Body q) = refl

level_there : (f : Frame) → frame_level f ≡ place_level (frame_place f)
level_there NotOf = refl
level_there (RightOf i a) = refl
level_there (BodyOf q name tree) = refl

step_there : (f : Frame) → flat_step (frame_step f) ≡ place_step (frame_place f)
step_there NotOf = refl
step_there (RightOf i a) = refl
step_there (BodyOf q name tree) = refl

waits_there : (f : Frame) → waits_at (frame_place f) ≡ true
waits_there NotOf = refl
waits_there (RightOf i a) = refl
waits_there (BodyOf q name tree) = refl

open_level_is : (o : Open) → open_level o ≡ place_level (open_here o)
open_level_is ParenthesisHere = refl
open_level_is ArgumentHere = refl
open_level_is (WaitsHere w) = level_here w

floor_is : (o : Pending) (opens : List Pending) → floor (o ∷ opens) ≡ place_level (place o)
floor_is (Parenthesis None) opens = refl
floor_is (Parenthesis (Some f)) opens = refl
floor_is (Waits f) opens = level_there f

is_frame : (o : Pending) → waits_at (place o) ≡ true → (f : Frame) × (o ≡ Waits f)
is_frame (Parenthesis None) e = absurd (let bad : false ≡ true = e in cc)
is_frame (Parenthesis (Some f)) e = absurd (let bad : false ≡ true = e in cc)
is_frame (Waits f) e = (f, refl)

is_waiting : (o : Open) → waits_at (open_here o) ≡ true → (w : Waiting) × (o ≡ WaitsHere w)
is_waiting ParenthesisHere e = absurd (let bad : false ≡ true = e in cc)
is_waiting ArgumentHere e = absurd (let bad : false ≡ true = e in cc)
is_waiting (WaitsHere w) e = (w, refl)

make_steps : (f : Frame) (t : TermTree) → term_steps (make f t) ≡ frame_steps f ++ (term_steps t ++ frame_step f ∷ [])
make_steps NotOf t = refl
make_steps (RightOf i a) t = refl
make_steps (BodyOf q name tree) t = refl

makes : (n : ℕ) (f : Frame) (opens : List Pending) (t : TermTree) → n ≤ frame_level f → close n (Waits f ∷ opens) t ≡ close n opens (make f t)
makes n f opens t h = ap (λ b. pick b (close n opens (make f t)) (Waits f ∷ opens, t)) (le-leb n (frame_level f) h)

-- what waits is made
pub closes_one : (n : ℕ) (old new : TermReader) (opens : List Pending) (t : TermTree) (w : Waiting) (step : StepHere) → IsState old opens (Some t)
    → old.opens.items ≡ new.opens.items ++ WaitsHere w ∷ [] → n ≤ waiting_level w → flat_step_of step ≡ made_step w
    → new.steps.items ≡ old.steps.items ++ step ∷ [] → new.complete ≡ old.complete
    → (opens' : List Pending) × (t' : TermTree) × (close n opens' t' ≡ close n opens t) × IsState new opens' (Some t')
closes_one n old new opens t w step h pop high is push same = go (popped opens new.opens.items (WaitsHere w) (sym (ap (map open_here) pop) ∙ h.places_are))
  where
    go : (o : Pending) × (below : List Pending) × (opens ≡ o ∷ below) × (map open_here new.opens.items ≡ places below) × (waiting_here w ≡ place o)
        → (opens' : List Pending) × (t' : TermTree) × (close n opens' t' ≡ close n opens t) × IsState new opens' (Some t')
    go (o, below, e, p, q) =
        let frame = is_frame o (ap waits_at (sym q) ∙ waits_here w) in
        let f : Frame = frame.0 in
        let here : waiting_here w ≡ frame_place f = q ∙ ap place frame.1 in
        let all : opens ≡ Waits f ∷ below = e ∙ ap (λ x. x ∷ below) frame.1 in
        let level : waiting_level w ≡ frame_level f = level_here w ∙ ap place_level here ∙ sym (level_there f) in
        let made : flat_step_of step ≡ flat_step (frame_step f) = is ∙ step_here w ∙ ap place_step here ∙ sym (step_there f) in
        let before : flat_steps_of old.steps.items ≡ flat_steps ((steps_before below ++ frame_steps f) ++ term_steps t) = h.steps_are ∙ ap (λ l. flat_steps (steps_before l ++ term_steps t)) all in
        let joined : ((steps_before below ++ frame_steps f) ++ term_steps t) ++ frame_step f ∷ [] ≡ steps_before below ++ (frame_steps f ++ (term_steps t ++ frame_step f ∷ [])) =
        simp append_assoc in (
          below,
          make f t,
          sym (makes n f below t (subst (λ m. n ≤ m) level high)) ∙ ap (λ l. close n l t) (sym all),
          record {
            places_are = p;
            steps_are = ap flat_steps_of push ∙ pushed old.steps.items _ step (frame_step f) before made
                ∙ ap flat_steps (joined ∙ ap (λ l. steps_before below ++ l) (sym (make_steps f t)));
            complete_is = same ∙ h.complete_is;
          },
        )

stays : (n : ℕ) (opens : List Pending) (t : TermTree) (items : List Open) → map open_here items ≡ places opens
    → ((rest : List Open) (w : Waiting) → items ≡ rest ++ WaitsHere w ∷ [] → waiting_level w < n) → close n opens t ≡ (opens, t)
stays n [] t items e low = refl
stays n (Parenthesis f ∷ opens) t items e low = refl
stays n (Waits f ∷ opens) t items e low =
    let last = unsnoc open_here items (places opens) (frame_place f) e in
    let waiting = is_waiting last.1 (ap waits_at last.3 ∙ waits_there f) in
    let w : Waiting = waiting.0 in
    let here : waiting_here w ≡ frame_place f = ap open_here (sym waiting.1) ∙ last.3 in
    let level : waiting_level w ≡ frame_level f = level_here w ∙ ap place_level here ∙ sym (level_there f) in
    let less : waiting_level w < n = low last.0 w (last.2 ∙ ap (λ x. last.0 ++ x ∷ []) waiting.1) in
    ap (λ b. pick b (close n opens (make f t)) (Waits f ∷ opens, t)) (lt-leb n (frame_level f) (subst (λ m. m < n) level less))

-- nothing of the level waits
pub closes_none : (n : ℕ) (old new : TermReader) (opens opens' : List Pending) (t t' : TermTree) → close n opens' t' ≡ close n opens t → IsState old opens' (Some t')
    → ((rest : List Open) (w : Waiting) → old.opens.items ≡ rest ++ WaitsHere w ∷ [] → waiting_level w < n) → new.opens.items ≡ old.opens.items
    → new.steps.items ≡ old.steps.items → new.complete ≡ old.complete → IsState new (close n opens t).0 (Some (close n opens t).1)
closes_none n old new opens opens' t t' e h low a b c =
    let same : close n opens t ≡ (opens', t') = sym e ∙ stays n opens' t' old.opens.items h.places_are low in
    subst (λ x. IsState new x.0 (Some x.1)) (sym same)
    (record { places_are = ap (map open_here) a ∙ h.places_are; steps_are = ap flat_steps_of b ∙ h.steps_are; complete_is = c ∙ h.complete_is })

length_places : (opens : List Pending) → length (places opens) ≡ length opens
length_places [] = refl
length_places (o ∷ opens) = length_snoc (places opens) (place o) ∙ ap suc (length_places opens)

count : (opens : List Pending) (items : List Open) → map open_here items ≡ places opens → length items ≡ length opens
count opens items e = sym (length-map items open_here) ∙ ap length e ∙ length_places opens

roomy : (opens : List Pending) (items : List Open) (w : Turn) → map open_here items ≡ places opens → length items < 4000 → if_so (nat_lt (length opens) 4000) w ≡ w
roomy opens items w e h = let n = count opens items e in ap (λ b. if_so b w) (lt-ltb (length opens) 4000 (omega (arith, n)))

full : (opens : List Pending) (items : List Open) (w : Turn) → map open_here items ≡ places opens → 4000 ≤ length items → if_so (nat_lt (length opens) 4000) w ≡ Fails
full opens items w e h = let n = count opens items e in ap (λ b. if_so b w) (le-ltb (length opens) 4000 (omega (arith, n)))

-- one more is open
pub opens_place : (result : Result (Unit {0}) ReadError) (old new : TermReader) (opens : List Pending) (here : Open) (o : Pending) → IsOpened result old new here
    → map open_here old.opens.items ≡ places opens → open_here here ≡ place o → flat_steps_of old.steps.items ≡ flat_steps (steps_before (o ∷ opens))
    → Takes result new (open_one o opens)
opens_place (Ok x) old new opens here o k places_are is steps = (
  o ∷ opens,
  None,
  roomy opens old.opens.items _ places_are k.0,
  record {
    places_are = ap (map open_here) k.1 ∙ map-append open_here old.opens.items (here ∷ []) ∙ ap (λ l. l ++ open_here here ∷ []) places_are ∙ ap (λ p. places opens ++ p ∷ []) is;
    steps_are = ap flat_steps_of k.2 ∙ steps;
    complete_is = k.3;
  },
)
opens_place (Err Memory) old new opens here o k places_are is steps = tt
opens_place (Err Syntax) old new opens here o k places_are is steps = full opens old.opens.items _ places_are k

-- the same where nothing stands before the place
pub opens_alone : (result : Result (Unit {0}) ReadError) (old new : TermReader) (opens : List Pending) (here : Open) (o : Pending) → IsOpened result old new here
    → IsState old opens None → open_here here ≡ place o → pending_steps o ≡ [] → Takes result new (open_one o opens)
opens_alone result old new opens here o k h is none =
    opens_place result old new opens here o k h.places_are is
    (h.steps_are ∙ ap flat_steps (sym (append-nil (steps_before opens)) ∙ ap (λ l. steps_before opens ++ l) (sym none)))

nothing : {A B : Type 0} (f : A → B) (items : List A) → map f items ≡ [] → items ≡ []
nothing f [] e = refl
nothing f (i ∷ items) e = absurd (let bad : f i ∷ map f items ≡ [] = e in cc)

pub floor_known : (n : ℕ) (items : List Open) (opens : List Pending) → IsFloor n items → map open_here items ≡ places opens → n ≡ floor opens
floor_known n items [] h e = h.0 (nothing open_here items e)
floor_known n items (o ∷ opens) h e =
    let last = unsnoc open_here items (places opens) (place o) e in
    h.1 last.0 last.1 last.2 ∙ open_level_is last.1 ∙ ap place_level last.3 ∙ sym (floor_is o opens)

alone : (o : Pending) → AloneOpen ≡ place o → o ≡ Parenthesis None
alone (Parenthesis None) e = refl
alone (Parenthesis (Some f)) e = absurd (let bad : AloneOpen ≡ ArgumentOpen = e in cc)
alone (Waits NotOf) e = absurd (let bad : AloneOpen ≡ NotOpen = e in cc)
alone (Waits (RightOf i a)) e = absurd (let bad : AloneOpen ≡ RightOpen i = e in cc)
alone (Waits (BodyOf q name tree)) e = absurd (let bad : AloneOpen ≡ BodyOpen q = e in cc)

argument : (o : Pending) → ArgumentOpen ≡ place o → (f : TermTree) × (o ≡ Parenthesis (Some f))
argument (Parenthesis None) e = absurd (let bad : ArgumentOpen ≡ AloneOpen = e in cc)
argument (Parenthesis (Some f)) e = (f, refl)
argument (Waits NotOf) e = absurd (let bad : ArgumentOpen ≡ NotOpen = e in cc)
argument (Waits (RightOf i a)) e = absurd (let bad : ArgumentOpen ≡ RightOpen i = e in cc)
argument (Waits (BodyOf q name tree)) e = absurd (let bad : ArgumentOpen ≡ BodyOpen q = e in cc)

-- a parenthesis alone is closed
pub encloses : (old new : TermReader) (x : List Pending × TermTree) → IsState old x.0 (Some x.1) → old.opens.items ≡ new.opens.items ++ ParenthesisHere ∷ []
    → new.steps.items ≡ old.steps.items → new.complete ≡ old.complete
    → (opens : List Pending) × (c : Option TermTree) × (closed x ≡ Goes opens c) × IsState new opens c
encloses old new (opens, t) h pop steps same = go (popped opens new.opens.items ParenthesisHere (sym (ap (map open_here) pop) ∙ h.places_are))
  where
    go : (o : Pending) × (below : List Pending) × (opens ≡ o ∷ below) × (map open_here new.opens.items ≡ places below) × (AloneOpen ≡ place o)
        → (opens' : List Pending) × (c : Option TermTree) × (closed (opens, t) ≡ Goes opens' c) × IsState new opens' c
    go (o, below, e, p, q) =
        let all : opens ≡ Parenthesis None ∷ below = e ∙ ap (λ x. x ∷ below) (alone o q) in (
          below,
          Some (Enclosed t),
          ap (λ l. closed (l, t)) all,
          record {
            places_are = p;
            steps_are = ap flat_steps_of steps ∙ h.steps_are ∙ ap (λ l. flat_steps (steps_before l ++ term_steps t)) all
                ∙ ap (λ l. flat_steps (l ++ term_steps t)) (append-nil (steps_before below));
            complete_is = same ∙ h.complete_is;
          },
        )

-- a parenthesis behind a function is closed
pub encloses_argument : (old new : TermReader) (x : List Pending × TermTree) (step : StepHere) → IsState old x.0 (Some x.1)
    → old.opens.items ≡ new.opens.items ++ ArgumentHere ∷ [] → flat_step_of step ≡ FlatApply → new.steps.items ≡ old.steps.items ++ step ∷ [] → new.complete ≡ old.complete
    → (opens : List Pending) × (c : Option TermTree) × (closed x ≡ Goes opens c) × IsState new opens c
encloses_argument old new (opens, t) step h pop is push same = go (popped opens new.opens.items ArgumentHere (sym (ap (map open_here) pop) ∙ h.places_are))
  where
    go : (o : Pending) × (below : List Pending) × (opens ≡ o ∷ below) × (map open_here new.opens.items ≡ places below) × (ArgumentOpen ≡ place o)
        → (opens' : List Pending) × (c : Option TermTree) × (closed (opens, t) ≡ Goes opens' c) × IsState new opens' c
    go (o, below, e, p, q) =
        let behind = argument o q in
        let f : TermTree = behind.0 in
        let all : opens ≡ Parenthesis (Some f) ∷ below = e ∙ ap (λ x. x ∷ below) behind.1 in
        let before : flat_steps_of old.steps.items ≡ flat_steps ((steps_before below ++ term_steps f) ++ term_steps t) = h.steps_are ∙ ap (λ l. flat_steps (steps_before l ++ term_steps t)) all in
        let joined : ((steps_before below ++ term_steps f) ++ term_steps t) ++ MakeApply ∷ [] ≡ steps_before below ++ (term_steps f ++ (term_steps t ++ MakeApply ∷ [])) = simp append_assoc in (
          below,
          Some (Apply f (Enclosed t)),
          ap (λ l. closed (l, t)) all,
          record {
            places_are = p;
            steps_are = ap flat_steps_of push ∙ pushed old.steps.items _ step MakeApply before is ∙ ap flat_steps joined;
            complete_is = same ∙ h.complete_is;
          },
        )

no_places : (opens : List Pending) → places opens ≡ [] → opens ≡ []
no_places [] e = refl
no_places (o ∷ opens) e = absurd (nil_not_snoc (places opens) (place o) (sym e))

-- nothing is open at the end, or something is
pub ends_whole : (reader : TermReader) (x : List Pending × TermTree) → IsState reader x.0 (Some x.1) → reader.opens.items ≡ []
    → (tree : TermTree) × (whole x ≡ Some tree) × (flat_steps_of reader.steps.items ≡ flat_steps (term_steps tree))
ends_whole reader (opens, t) h e =
    let none : opens ≡ [] = no_places opens (sym h.places_are ∙ ap (map open_here) e) in
    (t, ap (λ l. whole (l, t)) none, h.steps_are ∙ ap (λ l. flat_steps (steps_before l ++ term_steps t)) none)

-- the pieces that stand for themselves
pub open_piece : (lexeme : Lexeme) → IsPieceOf OpenHere lexeme → lexeme ≡ OpenPiece
open_piece (AtomPiece atom) h = absurd h
open_piece OpenPiece h = refl
open_piece ClosePiece h = absurd h
open_piece NotPiece h = absurd h
open_piece (InfixPiece i) h = absurd h
open_piece (BinderPiece q name tree) h = absurd h

pub not_piece : (lexeme : Lexeme) → IsPieceOf NotHere lexeme → lexeme ≡ NotPiece
not_piece (AtomPiece atom) h = absurd h
not_piece OpenPiece h = absurd h
not_piece ClosePiece h = absurd h
not_piece NotPiece h = refl
not_piece (InfixPiece i) h = absurd h
not_piece (BinderPiece q name tree) h = absurd h

pub is_there : {A : Type 0} (current : Option A) → is_some current ≡ true → (t : A) × (current ≡ Some t)
is_there None e = absurd (let bad : false ≡ true = e in cc)
is_there (Some t) e = (t, refl)
