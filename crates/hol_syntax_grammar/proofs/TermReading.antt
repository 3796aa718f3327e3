-- The machine reads the trees of the grammar of terms, each of them, and nothing else.
use Rattle.std.proofs.Common.{◌≡◌, ℕ, ◌+◌, ◌<◌, ◌≤◌, List, [], ◌∷◌, length, Bool, true, false, nat_lt, nat_le, nat_eq, Option, None, Some, refl, sym, ap, ◌∙◌, subst, arith, ◌⊎◌, inr, ⊎_elim}
use Rattle.std.proofs.lemmas.Bool.{lt-ltb, ltb-true, le-leb, lt-leb, leb-true, leb-false, eq-eqb, eqb-true}
use Rattle.hol_model.specs.Texts.TermGrammar.{Infix, IffInfix, ImpliesInfix, OrInfix, AndInfix, EqualInfix, TermTree, Leaf, Enclosed, Apply, Not, Join, Bind, infix_level, level, IsAtomTree}
use Rattle.hol_model.specs.Texts.TermGrammar.{IsTermTree, IsWithin, term_depth, Lexeme, AtomPiece, OpenPiece, ClosePiece, NotPiece, InfixPiece, BinderPiece, pieces}
use Rattle.hol_syntax_grammar.specs.TermReader.{Frame, NotOf, RightOf, BodyOf, Pending, Parenthesis, Waits, frame_level, make, floor, pick, close, Turn, Goes, Fails, if_so, open_one, closed}
use Rattle.hol_syntax_grammar.specs.TermReader.{joined, turn, whole, run}

-- what stays open, and the operand behind it, once the pieces of a tree are taken
abbrev after : TermTree → List Pending → List Pending × TermTree
after (Leaf a) opens = (opens, Leaf a)
after (Enclosed t) opens = (opens, Enclosed t)
after (Apply f a) opens = (opens, Apply f a)
after (Not t) opens = after t (Waits NotOf ∷ opens)
after (Join c a b) opens = after b (Waits (RightOf c a) ∷ opens)
after (Bind q x type t) opens = after t (Waits (BodyOf q x type) ∷ opens)

infix_below : (c : Infix) → infix_level c < 14
infix_below IffInfix = omega arith
infix_below ImpliesInfix = omega arith
infix_below OrInfix = omega arith
infix_below AndInfix = omega arith
infix_below EqualInfix = omega arith

-- a frame that ends here is made
makes : (n : ℕ) (f : Frame) (opens : List Pending) (t : TermTree) → n ≤ frame_level f → close n (Waits f ∷ opens) t ≡ close n opens (make f t)
makes n f opens t h = ap (λ b. pick b (close n opens (make f t)) (Waits f ∷ opens, t)) (le-leb n (frame_level f) h)

close_after : (n : ℕ) (t : TermTree) (opens : List Pending) → IsTermTree t → n ≤ level t → close n (after t opens).0 (after t opens).1 ≡ close n opens t
close_after n (Leaf a) opens g h = refl
close_after n (Enclosed t) opens g h = refl
close_after n (Apply f a) opens g h = refl
close_after n (Not t) opens g h = close_after n t (Waits NotOf ∷ opens) g.0 (omega (arith, h, g.1)) ∙ makes n NotOf opens t h
close_after n (Join c a b) opens g h = close_after n b (Waits (RightOf c a) ∷ opens) g.1 (omega (arith, h, g.3)) ∙ makes n (RightOf c a) opens b h
close_after n (Bind q x type t) opens g h = close_after n t (Waits (BodyOf q x type) ∷ opens) g.1 (omega (arith, h)) ∙ makes n (BodyOf q x type) opens t h

after_high : (t : TermTree) (opens : List Pending) → IsTermTree t → 16 ≤ level t → after t opens ≡ (opens, t)
after_high (Leaf a) opens g h = refl
after_high (Enclosed t) opens g h = refl
after_high (Apply f a) opens g h = refl
after_high (Not t) opens g h = absurd (omega (arith, h))
after_high (Join c a b) opens g h = absurd (omega (arith, h, infix_below c))
after_high (Bind q x type t) opens g h = absurd (omega (arith, h))

-- nothing of level n or more waits
stays : (n : ℕ) (opens : List Pending) (t : TermTree) → floor opens < n → close n opens t ≡ (opens, t)
stays n [] t h = refl
stays n (Parenthesis f ∷ opens) t h = refl
stays n (Waits f ∷ opens) t h = ap (λ b. pick b (close n opens (make f t)) (Waits f ∷ opens, t)) (lt-leb n (frame_level f) h)

opens_one : (o : Pending) (opens : List Pending) → length opens < 4000 → open_one o opens ≡ Goes (o ∷ opens) None
opens_one o opens h = ap (λ b. if_so b (Goes (o ∷ opens) None)) (lt-ltb (length opens) 4000 h)

pub goes_on : (piece : Lexeme) (rest : List Lexeme) (opens opens' : List Pending) (c c' : Option TermTree)
    → turn piece opens c ≡ Goes opens' c' → run (piece ∷ rest) opens c ≡ run rest opens' c'
goes_on piece rest opens opens' c c' e =
    ap {B = Option TermTree} (λ (w : Turn). elim w [ Goes o c ↦ run rest o c | Fails ↦ None ]) e

-- what the machine does with the pieces of a tree
takes : (t : TermTree) (opens : List Pending) (rest : List Lexeme) → IsTermTree t → floor opens ≤ level t → length opens + term_depth t ≤ 4000
    → run (pieces t rest) opens None ≡ run rest (after t opens).0 (Some (after t opens).1)
takes (Leaf a) opens rest g l d = refl
takes (Enclosed t) opens rest g l d =
    let opened : open_one (Parenthesis None) opens ≡ Goes (Parenthesis None ∷ opens) None = opens_one (Parenthesis None) opens (omega (arith, d)) in
    goes_on OpenPiece (pieces t (ClosePiece ∷ rest)) opens (Parenthesis None ∷ opens) None None opened
    ∙ takes t (Parenthesis None ∷ opens) (ClosePiece ∷ rest) g (omega arith) (omega (arith, d))
    ∙ goes_on ClosePiece rest (after t (Parenthesis None ∷ opens)).0 opens (Some (after t (Parenthesis None ∷ opens)).1) (Some (Enclosed t))
    (ap closed (close_after 0 t (Parenthesis None ∷ opens) g (omega arith)))
takes (Apply f (Leaf a)) opens rest g l d =
    takes f opens (AtomPiece a ∷ rest) g.0 (omega (arith, l, g.2)) (omega (arith, d))
    ∙ ap (λ x. run (AtomPiece a ∷ rest) x.0 (Some x.1)) (after_high f opens g.0 g.2)
takes (Apply f (Enclosed t)) opens rest g l d =
    let o : Pending = Parenthesis (Some f) in
    let opened : open_one o opens ≡ Goes (o ∷ opens) None = opens_one o opens (omega (arith, d)) in
    takes f opens (OpenPiece ∷ pieces t (ClosePiece ∷ rest)) g.0 (omega (arith, l, g.2)) (omega (arith, d))
    ∙ ap (λ x. run (OpenPiece ∷ pieces t (ClosePiece ∷ rest)) x.0 (Some x.1)) (after_high f opens g.0 g.2)
    ∙ goes_on OpenPiece (pieces t (ClosePiece ∷ rest)) opens (o ∷ opens) (Some f) None opened
    ∙ takes t (o ∷ opens) (ClosePiece ∷ rest) g.1 (omega arith) (omega (arith, d))
    ∙ goes_on ClosePiece rest (after t (o ∷ opens)).0 opens (Some (after t (o ∷ opens)).1) (Some (Apply f (Enclosed t)))
    (ap closed (close_after 0 t (o ∷ opens) g.1 (omega arith)))
takes (Apply f (Apply a b)) opens rest g l d = absurd (omega (arith, g.3))
takes (Apply f (Not a)) opens rest g l d = absurd (omega (arith, g.3))
takes (Apply f (Join c a b)) opens rest g l d = absurd (omega (arith, g.3, infix_below c))
takes (Apply f (Bind q x type t)) opens rest g l d = absurd (omega (arith, g.3))
takes (Not t) opens rest g l d =
    let opened : open_one (Waits NotOf) opens ≡ Goes (Waits NotOf ∷ opens) None = opens_one (Waits NotOf) opens (omega (arith, d)) in
    goes_on NotPiece (pieces t rest) opens (Waits NotOf ∷ opens) None None opened
    ∙ takes t (Waits NotOf ∷ opens) rest g.0 g.1 (omega (arith, d))
takes (Join c a b) opens rest g l d =
    let o : Pending = Waits (RightOf c a) in
    let opened : open_one o opens ≡ Goes (o ∷ opens) None = opens_one o opens (omega (arith, d)) in
    let closes : close (infix_level c + 1) (after a opens).0 (after a opens).1 ≡ (opens, a) =
    close_after (infix_level c + 1) a opens g.0 (omega (arith, g.2)) ∙ stays (infix_level c + 1) opens a (omega (arith, l)) in
    takes a opens (InfixPiece c ∷ pieces b rest) g.0 (omega (arith, l, g.2)) (omega (arith, d))
    ∙ goes_on (InfixPiece c) (pieces b rest) (after a opens).0 (o ∷ opens) (Some (after a opens).1) None (ap (joined c) closes ∙ opened)
    ∙ takes b (o ∷ opens) rest g.1 g.3 (omega (arith, d))
takes (Bind q x type t) opens rest g l d =
    let o : Pending = Waits (BodyOf q x type) in
    let opened : open_one o opens ≡ Goes (o ∷ opens) None = opens_one o opens (omega (arith, d)) in
    let low : floor opens ≡ 0 = omega (arith, l) in
    goes_on (BinderPiece q x type) (pieces t rest) opens (o ∷ opens) None None
    (ap (λ b. if_so b (open_one o opens)) (eq-eqb (floor opens) 0 low) ∙ opened)
    ∙ takes t (o ∷ opens) rest g.1 (omega arith) (omega (arith, d))

-- Each tree of the grammar is read.
pub complete : (t : TermTree) → IsTermTree t → term_depth t ≤ 4000 → run (pieces t []) [] None ≡ Some t
complete t g d = takes t [] [] g (omega arith) (omega (arith, d)) ∙ ap whole (close_after 0 t [] g (omega arith))

-- the pieces that were taken, and then the rest
abbrev context : List Pending → List Lexeme → List Lexeme
context [] rest = rest
context (Parenthesis None ∷ opens) rest = context opens (OpenPiece ∷ rest)
context (Parenthesis (Some f) ∷ opens) rest = context opens (pieces f (OpenPiece ∷ rest))
context (Waits NotOf ∷ opens) rest = context opens (NotPiece ∷ rest)
context (Waits (RightOf c a) ∷ opens) rest = context opens (pieces a (InfixPiece c ∷ rest))
context (Waits (BodyOf q x type) ∷ opens) rest = context opens (BinderPiece q x type ∷ rest)

abbrev given : Option TermTree → List Lexeme → List Lexeme
given None rest = rest
given (Some t) rest = pieces t rest

-- what a frame has
abbrev IsFrame : ℕ → Frame → Type 0
IsFrame n NotOf = Unit {0}
IsFrame n (RightOf c a) = IsTermTree a × (infix_level c < level a) × (n + term_depth a ≤ 4000)
IsFrame n (BodyOf q x type) = IsWithin type

-- what stands on the stack is of the grammar and within the limit
abbrev AreOpen : List Pending → Type 0
AreOpen [] = Unit {0}
AreOpen (Parenthesis None ∷ opens) = (length opens < 4000) × AreOpen opens
AreOpen (Parenthesis (Some f) ∷ opens) = (length opens < 4000) × AreOpen opens × IsTermTree f × (16 ≤ level f) × (length opens + term_depth f ≤ 4000)
AreOpen (Waits f ∷ opens) = (length opens < 4000) × AreOpen opens × IsFrame (length opens) f × (floor opens ≤ frame_level f)

abbrev IsOperand : List Pending → Option TermTree → Type 0
IsOperand opens None = length opens ≤ 4000
IsOperand opens (Some t) = IsTermTree t × (16 ≤ level t) × (length opens + term_depth t ≤ 4000)

-- the pieces are valid where they need to be
abbrev pub IsPiece : Lexeme → Type 0
IsPiece (AtomPiece a) = IsAtomTree a
IsPiece OpenPiece = Unit {0}
IsPiece ClosePiece = Unit {0}
IsPiece NotPiece = Unit {0}
IsPiece (InfixPiece c) = Unit {0}
IsPiece (BinderPiece q x type) = IsWithin type

-- a term that stands on a stack
record Stands (all rest : List Lexeme) (opens : List Pending) (t : TermTree) : Type 0 where
  opened : AreOpen opens
  grammatical : IsTermTree t
  above : floor opens ≤ level t
  depth : length opens + term_depth t ≤ 4000
  spelled : all ≡ context opens (pieces t rest)

frame_made : (all rest : List Lexeme) (f : Frame) (opens : List Pending) (t : TermTree) → Stands all rest (Waits f ∷ opens) t → Stands all rest opens (make f t)
frame_made all rest NotOf opens t k = record {
  opened = k.opened.1;
  grammatical = (k.grammatical, k.above);
  above = k.opened.3;
  depth = omega (arith, k.depth);
  spelled = k.spelled;
}
frame_made all rest (RightOf c a) opens t k = record {
  opened = k.opened.1;
  grammatical = (k.opened.2.0, k.grammatical, k.opened.2.1, k.above);
  above = k.opened.3;
  depth = omega (arith, k.depth, k.opened.2.2);
  spelled = k.spelled;
}
frame_made all rest (BodyOf q x type) opens t k = record {
  opened = k.opened.1;
  grammatical = (k.opened.2, k.grammatical);
  above = k.opened.3;
  depth = omega (arith, k.depth);
  spelled = k.spelled;
}

made_level : (f : Frame) (t : TermTree) → level (make f t) ≡ frame_level f
made_level NotOf t = refl
made_level (RightOf c a) t = refl
made_level (BodyOf q x type) t = refl

-- what closing leaves: nothing of level n or more waits
record Closed (n : ℕ) (all rest : List Lexeme) (x : List Pending × TermTree) : Type 0 where
  stands : Stands all rest x.0 x.1
  low : (n ≡ 0) ⊎ (floor x.0 < n)
  high : n ≤ level x.1

low_floor : (n : ℕ) → (n ≡ 0) ⊎ (0 < n)
low_floor n = grind arith

closes : (n : ℕ) (all rest : List Lexeme) (opens : List Pending) (t : TermTree) → Stands all rest opens t → n ≤ level t → Closed n all rest (close n opens t)
closes n all rest [] t k h = record { stands = k; low = low_floor n; high = h }
closes n all rest (Parenthesis f ∷ opens) t k h = record { stands = k; low = low_floor n; high = h }
closes n all rest (Waits f ∷ opens) t k h =
    go (λ m. closes n all rest opens (make f t) (frame_made all rest f opens t k) m) (nat_le n (frame_level f)) refl
  where
    go : (n ≤ level (make f t) → Closed n all rest (close n opens (make f t))) → (b : Bool) → nat_le n (frame_level f) ≡ b
        → Closed n all rest (pick b (close n opens (make f t)) (Waits f ∷ opens, t))
    go again true e = again (subst (λ m. n ≤ m) (sym (made_level f t)) (leb-true n (frame_level f) e))
    go again false e = record { stands = k; low = inr (leb-false n (frame_level f) e); high = h }

-- what a turn keeps
abbrev Keeps : List Lexeme → List Lexeme → Turn → Type 0
Keeps all rest (Goes opens c) = AreOpen opens × IsOperand opens c × (all ≡ context opens (given c rest))
Keeps all rest Fails = Unit {0}

if_room_keeps : (all rest : List Lexeme) (opens : List Pending) (w : Turn) → (length opens < 4000 → Keeps all rest w) → Keeps all rest (if_so (nat_lt (length opens) 4000) w)
if_room_keeps all rest opens w h = go (nat_lt (length opens) 4000) refl
  where
    go : (b : Bool) → nat_lt (length opens) 4000 ≡ b → Keeps all rest (if_so b w)
    go true e = h (ltb-true (length opens) 4000 e)
    go false e = tt

if_low_keeps : (all rest : List Lexeme) (opens : List Pending) (w : Turn) → (floor opens ≡ 0 → Keeps all rest w) → Keeps all rest (if_so (nat_eq (floor opens) 0) w)
if_low_keeps all rest opens w h = go (nat_eq (floor opens) 0) refl
  where
    go : (b : Bool) → nat_eq (floor opens) 0 ≡ b → Keeps all rest (if_so b w)
    go true e = h (eqb-true (floor opens) 0 e)
    go false e = tt

floor_small : (opens : List Pending) → floor opens ≤ 14
floor_small [] = omega arith
floor_small (Parenthesis f ∷ opens) = omega arith
floor_small (Waits NotOf ∷ opens) = omega arith
floor_small (Waits (RightOf c a) ∷ opens) = omega (arith, infix_below c)
floor_small (Waits (BodyOf q x type) ∷ opens) = omega arith

operand_stands : (rest : List Lexeme) (opens : List Pending) (t : TermTree) → AreOpen opens → IsOperand opens (Some t)
    → Stands (context opens (pieces t rest)) rest opens t
operand_stands rest opens t o h = record {
  opened = o;
  grammatical = h.0;
  above = omega (arith, floor_small opens, h.1);
  depth = h.2;
  spelled = refl;
}

closed_keeps : (all rest : List Lexeme) (x : List Pending × TermTree) → Closed 0 all (ClosePiece ∷ rest) x → Keeps all rest (closed x)
closed_keeps all rest ([], t) k = tt
closed_keeps all rest (Parenthesis None ∷ opens, t) k =
    let s = k.stands in (s.opened.1, (s.grammatical, omega arith, omega (arith, s.depth)), s.spelled)
closed_keeps all rest (Parenthesis (Some f) ∷ opens, t) k =
    let s = k.stands in
    (s.opened.1, ((s.opened.2, s.grammatical, s.opened.3, omega arith), omega arith, omega (arith, s.depth, s.opened.4)), s.spelled)
closed_keeps all rest (Waits f ∷ opens, t) k = tt

joined_keeps : (all rest : List Lexeme) (c : Infix) (x : List Pending × TermTree) → Closed (infix_level c + 1) all (InfixPiece c ∷ rest) x → Keeps all rest (joined c x)
joined_keeps all rest c x k =
    let s = k.stands in
    let low : floor x.0 ≤ infix_level c = ⊎_elim (λ z. omega (arith, z)) (λ z. omega (arith, z)) k.low in
    if_room_keeps all rest x.0 (Goes (Waits (RightOf c x.1) ∷ x.0) None)
    (λ room. ((room, s.opened, (s.grammatical, omega (arith, k.high), s.depth), low), room, s.spelled))

turn_keeps : (piece : Lexeme) (rest : List Lexeme) (opens : List Pending) (c : Option TermTree) → IsPiece piece
    → AreOpen opens → IsOperand opens c → Keeps (context opens (given c (piece ∷ rest))) rest (turn piece opens c)
turn_keeps (AtomPiece a) rest opens None v o h = (o, (v, omega arith, omega (arith, h)), refl)
turn_keeps OpenPiece rest opens None v o h = if_room_keeps _ rest opens _ (λ room. ((room, o), room, refl))
turn_keeps ClosePiece rest opens None v o h = tt
turn_keeps NotPiece rest opens None v o h = if_room_keeps _ rest opens _ (λ room. ((room, o, tt, floor_small opens), room, refl))
turn_keeps (InfixPiece i) rest opens None v o h = tt
turn_keeps (BinderPiece q x type) rest opens None v o h =
    if_low_keeps _ rest opens _ (λ low. if_room_keeps _ rest opens _ (λ room. ((room, o, v, omega (arith, low)), room, refl)))
turn_keeps (AtomPiece a) rest opens (Some t) v o h = (o, ((h.0, v, h.1, omega arith), omega arith, omega (arith, h.2)), refl)
turn_keeps OpenPiece rest opens (Some t) v o h = if_room_keeps _ rest opens _ (λ room. ((room, o, h.0, h.1, h.2), room, refl))
turn_keeps ClosePiece rest opens (Some t) v o h =
    closed_keeps _ rest (close 0 opens t) (closes 0 _ (ClosePiece ∷ rest) opens t (operand_stands (ClosePiece ∷ rest) opens t o h) (omega arith))
turn_keeps NotPiece rest opens (Some t) v o h = tt
turn_keeps (InfixPiece i) rest opens (Some t) v o h =
    joined_keeps _ rest i (close (infix_level i + 1) opens t)
    (closes (infix_level i + 1) _ (InfixPiece i ∷ rest) opens t (operand_stands (InfixPiece i ∷ rest) opens t o h) (omega (arith, infix_below i, h.1)))
turn_keeps (BinderPiece q x type) rest opens (Some t) v o h = tt

-- what an answer says of the pieces
abbrev pub AnswersTerm : List Lexeme → Option TermTree → Type 0
AnswersTerm all None = Unit {0}
AnswersTerm all (Some t) = IsTermTree t × (term_depth t ≤ 4000) × (all ≡ pieces t [])

abbrev pub ArePieces : List Lexeme → Type 0
ArePieces [] = Unit {0}
ArePieces (piece ∷ rest) = IsPiece piece × ArePieces rest

-- What the machine answers is so.
pub sound : (rest : List Lexeme) (opens : List Pending) (c : Option TermTree) → ArePieces rest → AreOpen opens → IsOperand opens c
    → AnswersTerm (context opens (given c rest)) (run rest opens c)
sound [] opens None v o h = tt
sound [] opens (Some t) v o h = at_end (close 0 opens t) (closes 0 _ [] opens t (operand_stands [] opens t o h) (omega arith))
  where
    at_end : (x : List Pending × TermTree) → Closed 0 (context opens (pieces t [])) [] x → AnswersTerm (context opens (pieces t [])) (whole x)
    at_end ([], u) k = let s = k.stands in (s.grammatical, omega (arith, s.depth), s.spelled)
    at_end (o ∷ opens, u) k = tt
sound (piece ∷ rest) opens c v o h = go (λ opens c o h. sound rest opens c v.1 o h) (turn piece opens c) (turn_keeps piece rest opens c v.0 o h)
  where
    go : ((opens : List Pending) (c : Option TermTree) → AreOpen opens → IsOperand opens c → AnswersTerm (context opens (given c rest)) (run rest opens c))
        → (w : Turn) → Keeps (context opens (given c (piece ∷ rest))) rest w
        → AnswersTerm (context opens (given c (piece ∷ rest))) (elim w [ Goes o c ↦ run rest o c | Fails ↦ None ])
    go again (Goes opens' c') k = subst (λ x. AnswersTerm x (run rest opens' c')) (sym k.2) (again opens' c' k.0 k.1)
    go again Fails k = tt

pub answers : (all : List Lexeme) → ArePieces all → AnswersTerm all (run all [] None)
answers all v = sound all [] None v tt (omega arith)
