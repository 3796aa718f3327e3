-- The machine reads the trees of the grammar, each of them, and nothing else.
use Rattle.std.proofs.Common.{◌≡◌, ◌≢◌, ◌+◌, ◌<◌, ◌≤◌, List, [], ◌∷◌, length, Bool, true, false, nat_lt, Option, None, Some, refl, sym, ap, ◌∙◌, subst, arith}
use Rattle.std.proofs.lemmas.Bool.{lt-ltb, ltb-true}
use Rattle.hol_model.specs.declared.symbol.Symbol.TheVariants.{Arrow, OpenParenthesis, CloseParenthesis}
use Rattle.hol_model.specs.Texts.Token.{Token, Name, Number, Mark}
use Rattle.hol_model.specs.Texts.TypeGrammar.{TypeTree, Named, Enclosed, Function, IsAtom, IsTypeTree, type_tokens, type_depth, IsRead}
use Rattle.hol_syntax_grammar.specs.TypeReader.{Role, IsName, Opens, Closes, Continues, Stops, role, Pending, Parenthesis, LeftOf, close, Turn, Goes, Ends, Fails, if_room, open_one, closed}
use Rattle.hol_syntax_grammar.specs.TypeReader.{finished, turn, run}

-- what stays open, and the atom behind it, once the tokens of a tree are taken
abbrev after : TypeTree → List Pending → List Pending × TypeTree
after (Named name) opens = (opens, Named name)
after (Enclosed t) opens = (opens, Enclosed t)
after (Function a b) opens = after b (LeftOf a ∷ opens)

close_after : (t : TypeTree) (opens : List Pending) → close (after t opens).0 (after t opens).1 ≡ close opens t
close_after (Named name) opens = refl
close_after (Enclosed t) opens = refl
close_after (Function a b) opens = close_after b (LeftOf a ∷ opens)

after_atom : (t : TypeTree) (opens : List Pending) → IsAtom t → after t opens ≡ (opens, t)
after_atom (Named name) opens h = refl
after_atom (Enclosed t) opens h = refl
after_atom (Function a b) opens h = absurd h

opens_one : (o : Pending) (opens : List Pending) → length opens < 2000 → open_one o opens ≡ Goes (o ∷ opens) None
opens_one o opens h = ap (λ b. if_room b (Goes (o ∷ opens) None)) (lt-ltb (length opens) 2000 h)

pub goes_on : (token : Token) (tokens : List Token) (opens opens' : List Pending) (c c' : Option TypeTree)
    → turn (role token) opens c ≡ Goes opens' c' → run (token ∷ tokens) opens c ≡ run tokens opens' c'
goes_on token tokens opens opens' c c' e =
    ap {B = Option (TypeTree × List Token)} (λ (w : Turn). elim w [ Goes o c ↦ run tokens o c | Ends t ↦ Some (t, token ∷ tokens) | Fails ↦ None ]) e

pub ends_before : (token : Token) (tokens : List Token) (opens : List Pending) (c : Option TypeTree) (t : TypeTree)
    → turn (role token) opens c ≡ Ends t → run (token ∷ tokens) opens c ≡ Some (t, token ∷ tokens)
ends_before token tokens opens c t e =
    ap {B = Option (TypeTree × List Token)} (λ (w : Turn). elim w [ Goes o c ↦ run tokens o c | Ends t ↦ Some (t, token ∷ tokens) | Fails ↦ None ]) e

pub fails_at : (token : Token) (tokens : List Token) (opens : List Pending) (c : Option TypeTree)
    → turn (role token) opens c ≡ Fails → run (token ∷ tokens) opens c ≡ None
fails_at token tokens opens c e =
    ap {B = Option (TypeTree × List Token)} (λ (w : Turn). elim w [ Goes o c ↦ run tokens o c | Ends t ↦ Some (t, token ∷ tokens) | Fails ↦ None ]) e

-- at the end
pub at_end : (opens : List Pending) (c : Option TypeTree) (w : Turn) → turn Stops opens c ≡ w
    → run [] opens c ≡ elim w [ Goes o c ↦ None | Ends t ↦ Some (t, []) | Fails ↦ None ]
at_end opens c w e = ap {B = Option (TypeTree × List Token)} (λ (w : Turn). elim w [ Goes o c ↦ None | Ends t ↦ Some (t, []) | Fails ↦ None ]) e

-- what the machine does with the tokens of a tree
takes : (t : TypeTree) (opens : List Pending) (rest : List Token) → IsTypeTree t → length opens + type_depth t ≤ 2000
    → run (type_tokens t rest) opens None ≡ run rest (after t opens).0 (Some (after t opens).1)
takes (Named name) opens rest h d = refl
takes (Enclosed t) opens rest h d =
    let opened : open_one Parenthesis opens ≡ Goes (Parenthesis ∷ opens) None = opens_one Parenthesis opens (omega (arith, d)) in
    let inside = takes t (Parenthesis ∷ opens) (Mark CloseParenthesis ∷ rest) h (omega (arith, d)) in
    goes_on (Mark OpenParenthesis) (type_tokens t (Mark CloseParenthesis ∷ rest)) opens (Parenthesis ∷ opens) None None opened
    ∙ inside
    ∙ goes_on (Mark CloseParenthesis) rest (after t (Parenthesis ∷ opens)).0 opens (Some (after t (Parenthesis ∷ opens)).1) (Some (Enclosed t))
    (ap closed (close_after t (Parenthesis ∷ opens)))
takes (Function a b) opens rest h d =
    let left = takes a opens (Mark Arrow ∷ type_tokens b rest) h.1 (omega (arith, d)) in
    let atom = after_atom a opens h.0 in
    let opened : open_one (LeftOf a) opens ≡ Goes (LeftOf a ∷ opens) None = opens_one (LeftOf a) opens (omega (arith, d)) in
    let right = takes b (LeftOf a ∷ opens) rest h.2 (omega (arith, d)) in
    left
    ∙ ap (λ x. run (Mark Arrow ∷ type_tokens b rest) x.0 (Some x.1)) atom
    ∙ goes_on (Mark Arrow) (type_tokens b rest) opens (LeftOf a ∷ opens) (Some a) None opened
    ∙ right

-- what may follow a type
abbrev pub IsStop : List Token → Type 0
IsStop [] = Unit {0}
IsStop (token ∷ tokens) = role token ≢ Continues

stops : (r : Role) (opens : List Pending) (t u : TypeTree) → r ≢ Continues → close opens t ≡ ([], u) → turn r opens (Some t) ≡ Ends u
stops (IsName bytes) opens t u h e = ap finished e
stops Opens opens t u h e = ap finished e
stops Closes opens t u h e = ap closed e
stops Continues opens t u h e = absurd (h refl)
stops Stops opens t u h e = ap finished e

-- Each tree of the grammar is read.
pub complete : (t : TypeTree) (rest : List Token) → IsTypeTree t → type_depth t ≤ 2000 → IsStop rest
    → run (type_tokens t rest) [] None ≡ Some (t, rest)
complete t [] h d stop =
    takes t [] [] h (omega arith) ∙ ap {B = Option (TypeTree × List Token)} (λ (w : Turn). elim w [ Goes o c ↦ None | Ends t ↦ Some (t, []) | Fails ↦ None ]) (ap finished (close_after t []))
complete t (token ∷ tokens) h d stop =
    takes t [] (token ∷ tokens) h (omega arith)
    ∙ ends_before token tokens (after t []).0 (Some (after t []).1) t (stops (role token) (after t []).0 (after t []).1 t stop (close_after t []))

-- the tokens that were taken, and then the rest
abbrev context : List Pending → List Token → List Token
context [] rest = rest
context (Parenthesis ∷ opens) rest = context opens (Mark OpenParenthesis ∷ rest)
context (LeftOf a ∷ opens) rest = context opens (type_tokens a (Mark Arrow ∷ rest))

abbrev given : Option TypeTree → List Token → List Token
given None rest = rest
given (Some t) rest = type_tokens t rest

-- what stands on the stack is of the grammar and within the limit
abbrev AreOpen : List Pending → Type 0
AreOpen [] = Unit {0}
AreOpen (Parenthesis ∷ opens) = (length opens < 2000) × AreOpen opens
AreOpen (LeftOf a ∷ opens) = (length opens < 2000) × AreOpen opens × IsAtom a × IsTypeTree a × (length opens + type_depth a ≤ 2000)

abbrev IsAtomHere : List Pending → Option TypeTree → Type 0
IsAtomHere opens None = length opens ≤ 2000
IsAtomHere opens (Some t) = IsAtom t × IsTypeTree t × (length opens + type_depth t ≤ 2000)

-- what closing keeps
record Closes' (whole rest : List Token) (opens : List Pending) (t : TypeTree) : Type 0 where
  opened : AreOpen opens
  grammatical : IsTypeTree t
  depth : length opens + type_depth t ≤ 2000
  spelled : whole ≡ context opens (type_tokens t rest)

closes : (opens : List Pending) (t : TypeTree) (rest : List Token) → AreOpen opens → IsTypeTree t → length opens + type_depth t ≤ 2000
    → Closes' (context opens (type_tokens t rest)) rest (close opens t).0 (close opens t).1
closes [] t rest o g d = record { opened = o; grammatical = g; depth = d; spelled = refl }
closes (Parenthesis ∷ opens) t rest o g d = record { opened = o; grammatical = g; depth = d; spelled = refl }
closes (LeftOf a ∷ opens) t rest o g d =
    closes opens (Function a t) rest o.1 (o.2, o.3, g) (omega (arith, o.4, d))

-- What a token is, by its role.
abbrev HasRole : Role → Token → Type 0
HasRole (IsName bytes) token = token ≡ Name bytes
HasRole Opens token = token ≡ Mark OpenParenthesis
HasRole Closes token = token ≡ Mark CloseParenthesis
HasRole Continues token = token ≡ Mark Arrow
HasRole Stops token = Unit {0}

has_role : (token : Token) → HasRole (role token) token
has_role (Name bytes) = refl
has_role (Number bytes) = tt
has_role (Mark OpenParenthesis) = refl
has_role (Mark CloseParenthesis) = refl
has_role (Mark Arrow) = refl
has_role (Mark _) = tt

-- what a turn keeps: the whole text is what was taken and what is left
abbrev Keeps : List Token → Token → List Token → Turn → Type 0
Keeps whole token tokens (Goes opens c) = AreOpen opens × IsAtomHere opens c × (whole ≡ context opens (given c tokens))
Keeps whole token tokens (Ends t) = IsRead whole t (token ∷ tokens)
Keeps whole token tokens Fails = Unit {0}

if_room_keeps : (whole : List Token) (token : Token) (tokens : List Token) (opens : List Pending) (w : Turn)
    → (length opens < 2000 → Keeps whole token tokens w) → Keeps whole token tokens (if_room (nat_lt (length opens) 2000) w)
if_room_keeps whole token tokens opens w h = go (nat_lt (length opens) 2000) refl
  where
    go : (b : Bool) → nat_lt (length opens) 2000 ≡ b → Keeps whole token tokens (if_room b w)
    go true e = h (ltb-true (length opens) 2000 e)
    go false e = tt

finished_keeps : (whole : List Token) (token : Token) (tokens : List Token) (x : List Pending × TypeTree)
    → Closes' whole (token ∷ tokens) x.0 x.1 → Keeps whole token tokens (finished x)
finished_keeps whole token tokens ([], t) k = record { grammatical = k.grammatical; depth = omega (arith, k.depth); spelled = k.spelled }
finished_keeps whole token tokens (o ∷ opens, t) k = tt

closed_keeps : (whole : List Token) (token : Token) (tokens : List Token) (x : List Pending × TypeTree) → token ≡ Mark CloseParenthesis
    → Closes' whole (token ∷ tokens) x.0 x.1 → Keeps whole token tokens (closed x)
closed_keeps whole token tokens ([], t) e k = record { grammatical = k.grammatical; depth = omega (arith, k.depth); spelled = k.spelled }
closed_keeps whole token tokens (Parenthesis ∷ opens, t) e k =
    (k.opened.1, (tt, k.grammatical, omega (arith, k.depth)), k.spelled ∙ ap (λ x. context opens (Mark OpenParenthesis ∷ type_tokens t (x ∷ tokens))) e)
closed_keeps whole token tokens (LeftOf a ∷ opens, t) e k = tt

turn_keeps : (r : Role) (token : Token) (tokens : List Token) (opens : List Pending) (c : Option TypeTree) → HasRole r token
    → AreOpen opens → IsAtomHere opens c → Keeps (context opens (given c (token ∷ tokens))) token tokens (turn r opens c)
turn_keeps (IsName bytes) token tokens opens None r o h = (o, (tt, tt, omega (arith, h)), ap (λ x. context opens (x ∷ tokens)) r)
turn_keeps Opens token tokens opens None r o h =
    if_room_keeps (context opens (token ∷ tokens)) token tokens opens (Goes (Parenthesis ∷ opens) None) (λ room. ((room, o), room, ap (λ x. context opens (x ∷ tokens)) r))
turn_keeps Closes token tokens opens None r o h = tt
turn_keeps Continues token tokens opens None r o h = tt
turn_keeps Stops token tokens opens None r o h = tt
turn_keeps (IsName bytes) token tokens opens (Some t) r o h = finished_keeps _ token tokens (close opens t) (closes opens t (token ∷ tokens) o h.1 h.2)
turn_keeps Opens token tokens opens (Some t) r o h = finished_keeps _ token tokens (close opens t) (closes opens t (token ∷ tokens) o h.1 h.2)
turn_keeps Closes token tokens opens (Some t) r o h = closed_keeps _ token tokens (close opens t) r (closes opens t (token ∷ tokens) o h.1 h.2)
turn_keeps Continues token tokens opens (Some t) r o h =
    if_room_keeps (context opens (type_tokens t (token ∷ tokens))) token tokens opens (Goes (LeftOf t ∷ opens) None)
    (λ room. ((room, o, h.0, h.1, h.2), room, ap (λ x. context opens (type_tokens t (x ∷ tokens))) r))
turn_keeps Stops token tokens opens (Some t) r o h = finished_keeps _ token tokens (close opens t) (closes opens t (token ∷ tokens) o h.1 h.2)

-- what an answer says of the tokens
abbrev pub AnswersType : List Token → Option (TypeTree × List Token) → Type 0
AnswersType whole None = Unit {0}
AnswersType whole (Some x) = IsRead whole x.0 x.1

-- What the machine answers is so.
sound : (tokens : List Token) (opens : List Pending) (c : Option TypeTree) → AreOpen opens → IsAtomHere opens c
    → AnswersType (context opens (given c tokens)) (run tokens opens c)
sound [] opens None o h = tt
sound [] opens (Some t) o h = at_end (close opens t) (closes opens t [] o h.1 h.2)
  where
    at_end : (x : List Pending × TypeTree) → Closes' (context opens (type_tokens t [])) [] x.0 x.1
        → AnswersType (context opens (type_tokens t [])) (elim (finished x) [ Goes o c ↦ None | Ends t ↦ Some (t, []) | Fails ↦ None ])
    at_end ([], u) k = record { grammatical = k.grammatical; depth = omega (arith, k.depth); spelled = k.spelled }
    at_end (o ∷ opens, u) k = tt
sound (token ∷ tokens) opens c o h =
    go (sound tokens) (turn (role token) opens c) (turn_keeps (role token) token tokens opens c (has_role token) o h)
  where
    go : ((opens : List Pending) (c : Option TypeTree) → AreOpen opens → IsAtomHere opens c → AnswersType (context opens (given c tokens)) (run tokens opens c))
        → (w : Turn) → Keeps (context opens (given c (token ∷ tokens))) token tokens w
        → AnswersType (context opens (given c (token ∷ tokens))) (elim w [ Goes o c ↦ run tokens o c | Ends t ↦ Some (t, token ∷ tokens) | Fails ↦ None ])
    go again (Goes opens' c') k = subst (λ x. AnswersType x (run tokens opens' c')) (sym k.2) (again opens' c' k.0 k.1)
    go again (Ends t) k = k
    go again Fails k = tt

pub answers : (tokens : List Token) → AnswersType tokens (run tokens [] None)
answers tokens = sound tokens [] None tt (omega arith)
