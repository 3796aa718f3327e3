-- The reader of types follows the machine.
use Rattle.std.proofs.Common.{◌≡◌, ◌≢◌, Bool, true, false, List, [], ◌∷◌, ◌++◌, Option, None, Some, refl, sym, ap, ◌∙◌, subst, append_assoc, ℕ, Bor, suc, ◌<◌, ◌≤◌, length, nat_lt, Result, Ok}
use Rattle.std.proofs.Common.{Err, arith}
use Rattle.std.proofs.lemmas.Bool.{lt-ltb, le-ltb}
use Rattle.std.proofs.lemmas.List.{map-append}
use Rattle.hol_model.specs.Texts.TypeGrammar.{TypeTree, Named, Enclosed, Function, type_steps}
use Rattle.hol_model.specs.Texts.TypeGrammar as grammar
use Rattle.hol_syntax_grammar.specs.declared.type_reader.Open.{Open}
use Rattle.hol_syntax_grammar.specs.declared.type_reader.Open.TheVariants.{Parenthesis as ParenthesisFrame, Arrow as ArrowFrame}
use Rattle.hol_syntax_grammar.specs.declared.type_reader.TypeReader.{TypeReader}
use Rattle.hol_syntax_grammar.specs.declared.type_reader.TypeStep.{TypeStep}
use Rattle.hol_syntax_grammar.specs.declared.type_reader.TypeStep.TheVariants.{TakeName, MakeFunction}
use Rattle.hol_syntax_grammar.specs.declared.type_reader.ReadError.{ReadError}
use Rattle.hol_syntax_grammar.specs.declared.type_reader.ReadError.TheVariants.{Memory, Syntax}
use Rattle.hol_syntax_grammar.specs.TypeReader.{Pending, Parenthesis, LeftOf, close, Turn, Goes, Ends, Fails, if_room, open_one, closed, finished}
use Rattle.hol_syntax_grammar.specs.Views.{steps_of, step_of}
use Rattle.hol_syntax_grammar.specs.TypeStates.{frames, steps_before, IsState, Takes, IsOpened}
use Rattle.hol_syntax_grammar.proofs.Lists.{nil_not_snoc, snoc_same, length_snoc}

steps_of-snoc : (steps : List TypeStep) (step : TypeStep) → steps_of (steps ++ step ∷ []) ≡ steps_of steps ++ step_of step ∷ []
steps_of-snoc steps step = map-append step_of steps (step ∷ [])

-- an arrow on the top is one with a left side
popped : (opens : List Pending) (rest : List Open) → frames opens ≡ rest ++ ArrowFrame ∷ []
    → (a : TypeTree) × (below : List Pending) × (opens ≡ LeftOf a ∷ below) × (rest ≡ frames below)
popped [] rest e = absurd (nil_not_snoc rest ArrowFrame e)
popped (Parenthesis ∷ opens) rest e = let same : ParenthesisFrame ≡ ArrowFrame = (snoc_same (frames opens) rest ParenthesisFrame ArrowFrame e).1 in cc
popped (LeftOf a ∷ opens) rest e = (a, opens, refl, sym (snoc_same (frames opens) rest ArrowFrame ArrowFrame e).0)

pub stays : (opens : List Pending) (t : TypeTree) → ((rest : List Open) → frames opens ≢ rest ++ ArrowFrame ∷ []) → close opens t ≡ (opens, t)
stays [] t h = refl
stays (Parenthesis ∷ opens) t h = refl
stays (LeftOf a ∷ opens) t h = absurd (h (frames opens) refl)

-- an arrow is applied
pub closes_one : (old new : TypeReader) (opens : List Pending) (t : TypeTree) → IsState old opens (Some t)
    → old.opens.items ≡ new.opens.items ++ ArrowFrame ∷ [] → new.steps.items ≡ old.steps.items ++ MakeFunction ∷ [] → new.complete ≡ old.complete
    → (opens' : List Pending) × (t' : TypeTree) × (close opens' t' ≡ close opens t) × IsState new opens' (Some t')
closes_one old new opens t h pop push same = go (popped opens new.opens.items (sym h.frames_are ∙ pop))
  where
    go : (a : TypeTree) × (below : List Pending) × (opens ≡ LeftOf a ∷ below) × (new.opens.items ≡ frames below)
        → (opens' : List Pending) × (t' : TypeTree) × (close opens' t' ≡ close opens t) × IsState new opens' (Some t')
    go (a, below, e, f) =
        let steps : steps_of old.steps.items ≡ (steps_before below ++ type_steps a) ++ type_steps t = h.steps_are ∙ ap (λ o. steps_before o ++ type_steps t) e in (
          below,
          Function a t,
          ap (λ o. close o t) (sym e),
          record {
            frames_are = f;
            steps_are = ap steps_of push ∙ steps_of-snoc old.steps.items MakeFunction ∙ ap (λ s. s ++ grammar.MakeFunction ∷ []) steps ∙ simp append_assoc;
            complete_is = same ∙ h.complete_is;
          },
        )

-- no arrow is on the top
pub closes_none : (old new : TypeReader) (opens opens' : List Pending) (t t' : TypeTree) → close opens' t' ≡ close opens t → IsState old opens' (Some t')
    → ((rest : List Open) → old.opens.items ≢ rest ++ ArrowFrame ∷ []) → new.opens.items ≡ old.opens.items
    → new.steps.items ≡ old.steps.items → new.complete ≡ old.complete → IsState new (close opens t).0 (Some (close opens t).1)
closes_none old new opens opens' t t' e h none a b c =
    let same : close opens t ≡ (opens', t') = sym e ∙ stays opens' t' (λ rest r. none rest (h.frames_are ∙ r)) in
    subst (λ x. IsState new x.0 (Some x.1)) (sym same)
    (record { frames_are = a ∙ h.frames_are; steps_are = ap steps_of b ∙ h.steps_are; complete_is = c ∙ h.complete_is })

length_frames : (opens : List Pending) → length (frames opens) ≡ length opens
length_frames [] = refl
length_frames (Parenthesis ∷ opens) = length_snoc (frames opens) ParenthesisFrame ∙ ap suc (length_frames opens)
length_frames (LeftOf a ∷ opens) = length_snoc (frames opens) ArrowFrame ∙ ap suc (length_frames opens)

-- where there is room
roomy : (opens : List Pending) (items : List Open) (w : Turn) → items ≡ frames opens → length items < 2000 → if_room (nat_lt (length opens) 2000) w ≡ w
roomy opens items w e h =
    let n : length items ≡ length opens = ap length e ∙ length_frames opens in
    ap (λ b. if_room b w) (lt-ltb (length opens) 2000 (omega arith))

full : (opens : List Pending) (items : List Open) (w : Turn) → items ≡ frames opens → 2000 ≤ length items → if_room (nat_lt (length opens) 2000) w ≡ Fails
full opens items w e h =
    let n : length items ≡ length opens = ap length e ∙ length_frames opens in
    ap (λ b. if_room b w) (le-ltb (length opens) 2000 (omega arith))

pub opens_parenthesis : (result : Result Bool ReadError) (old new : TypeReader) (opens : List Pending) → IsOpened result old new ParenthesisFrame
    → IsState old opens None → Takes result new (open_one Parenthesis opens)
opens_parenthesis (Ok true) old new opens k h = (
  Parenthesis ∷ opens,
  None,
  roomy opens old.opens.items _ h.frames_are k.0,
  record { frames_are = k.1 ∙ ap (λ f. f ++ ParenthesisFrame ∷ []) h.frames_are; steps_are = ap steps_of k.2 ∙ h.steps_are; complete_is = k.3 },
)
opens_parenthesis (Ok false) old new opens k h = absurd k
opens_parenthesis (Err Memory) old new opens k h = tt
opens_parenthesis (Err Syntax) old new opens k h = full opens old.opens.items _ h.frames_are k

pub opens_arrow : (result : Result Bool ReadError) (old new : TypeReader) (opens : List Pending) (t : TypeTree) → IsOpened result old new ArrowFrame
    → IsState old opens (Some t) → Takes result new (open_one (LeftOf t) opens)
opens_arrow (Ok true) old new opens t k h = (
  LeftOf t ∷ opens,
  None,
  roomy opens old.opens.items _ h.frames_are k.0,
  record { frames_are = k.1 ∙ ap (λ f. f ++ ArrowFrame ∷ []) h.frames_are; steps_are = ap steps_of k.2 ∙ h.steps_are; complete_is = k.3 },
)
opens_arrow (Ok false) old new opens t k h = absurd k
opens_arrow (Err Memory) old new opens t k h = tt
opens_arrow (Err Syntax) old new opens t k h = full opens old.opens.items _ h.frames_are k

frame_of : Pending → Open
frame_of Parenthesis = ParenthesisFrame
frame_of (LeftOf a) = ArrowFrame

frames_cons : (o : Pending) (opens : List Pending) → frames (o ∷ opens) ≡ frames opens ++ frame_of o ∷ []
unfolding frame_of
frames_cons Parenthesis opens = refl
frames_cons (LeftOf a) opens = refl

-- with nothing open a closing parenthesis ends the type, and so does the end
pub ends_closed : (reader : TypeReader) (x : List Pending × TypeTree) → IsState reader x.0 (Some x.1) → reader.opens.items ≡ []
    → (t : TypeTree) × (closed x ≡ Ends t) × (steps_of reader.steps.items ≡ type_steps t)
ends_closed reader ([], t) h e = (t, refl, h.steps_are)
ends_closed reader (o ∷ opens, t) h e = absurd (nil_not_snoc (frames opens) (frame_of o) (sym e ∙ h.frames_are ∙ frames_cons o opens))

pub ends_finished : (reader : TypeReader) (x : List Pending × TypeTree) → IsState reader x.0 (Some x.1) → reader.opens.items ≡ []
    → (t : TypeTree) × (finished x ≡ Ends t) × (steps_of reader.steps.items ≡ type_steps t)
ends_finished reader ([], t) h e = (t, refl, h.steps_are)
ends_finished reader (o ∷ opens, t) h e = absurd (nil_not_snoc (frames opens) (frame_of o) (sym e ∙ h.frames_are ∙ frames_cons o opens))

-- a parenthesis on the top is closed
pub encloses : (old new : TypeReader) (x : List Pending × TypeTree) → IsState old x.0 (Some x.1) → old.opens.items ≡ new.opens.items ++ ParenthesisFrame ∷ []
    → new.steps.items ≡ old.steps.items → new.complete ≡ old.complete
    → (opens : List Pending) × (c : Option TypeTree) × (closed x ≡ Goes opens c) × IsState new opens c
encloses old new ([], t) h e a b = absurd (nil_not_snoc new.opens.items ParenthesisFrame (sym h.frames_are ∙ e))
encloses old new (Parenthesis ∷ opens, t) h e a b = (
  opens,
  Some (Enclosed t),
  refl,
  record {
    frames_are = sym (snoc_same (frames opens) new.opens.items ParenthesisFrame ParenthesisFrame (sym h.frames_are ∙ e)).0;
    steps_are = ap steps_of a ∙ h.steps_are;
    complete_is = b ∙ h.complete_is;
  },
)
encloses old new (LeftOf a ∷ opens, t) h e b c =
    let same : ArrowFrame ≡ ParenthesisFrame = (snoc_same (frames opens) new.opens.items ArrowFrame ParenthesisFrame (sym h.frames_are ∙ e)).1 in cc

-- a name is an atom
pub takes_name : (old new : TypeReader) (opens : List Pending) (bytes : Bor (List ℕ)) → IsState old opens None → new.opens.items ≡ old.opens.items
    → new.steps.items ≡ old.steps.items ++ TakeName bytes ∷ [] → new.complete ≡ true
    → (opens' : List Pending) × (c : Option TypeTree) × (Goes opens (Some (Named bytes.now)) ≡ Goes opens' c) × IsState new opens' c
takes_name old new opens bytes h a b c = (
  opens,
  Some (Named bytes.now),
  refl,
  record {
    frames_are = a ∙ h.frames_are;
    steps_are = ap steps_of b ∙ steps_of-snoc old.steps.items (TakeName bytes) ∙ ap (λ s. s ++ grammar.TakeName bytes.now ∷ []) h.steps_are;
    complete_is = c;
  },
)
