-- Terms of lines under binders, part by part.
use Rattle.std.proofs.Common.{◌≡◌, ◌⊎◌, ℕ, ◌+◌, ◌<◌, ◌≤◌, List, [], ◌∷◌, ◌++◌, length, length-append, Bool, true, false, refl, sym, ◌∙◌, ap, subst, inl, inr, Some, Result, Ok, IfOk, IfErr}
use Rattle.std.proofs.Common.{if◌then◌else◌, arith}
use Rattle.std.specs.Prelude.{slice_get}
use Rattle.hol_model.specs.declared.limits.TheConstants.{TERM_HEIGHT_LIMIT}
use Rattle.hol_model.specs.declared.fault.Fault.{Fault}
use Rattle.hol_model.specs.declared.fault.Fault.TheVariants.{Memory}
use Rattle.hol_model.specs.Terms.NamedTerm.{NamedTerm, Binder, height}
use Rattle.hol_model.specs.Terms.Nameless.{Nameless, const, app, lam, image, image_under, variable_image}
use Rattle.hol_model.specs.Logs.LogSequents.{variable_name}
use Rattle.hol_model.specs.Logs.LogState.{term_type}
use Rattle.hol_check_terms.specs.Entries.{IsEntry, HasOnlyAdded}
use Rattle.hol_check_terms.specs.Terms.{TermTable, type_at, term_at, IsGrown}
use Rattle.hol_check_terms.proofs.TableLemmas.{IsLonger-same}
use Rattle.hol_check_terms.proofs.GrowthLemmas.{term-there, place-grown, IsGrown-trans}
use Rattle.hol_check_written.specs.Variables.{IsAmong}
use Rattle.hol_check_written.specs.Written.{named_constant, named_at, named_of_shape, named_terms, PartsAreEarlier, AreCounted, AreWritten}
use Rattle.hol_check_written.specs.Making.{binders_in, AreCovered, AreBinders, Stays, IsNumbered, AreNumbered, AreMade, IsWork, IsShallow, Keeps, Numbers}
use Rattle.hol_check_written.specs.declared.variables.Variables.{Variables}
use Rattle.hol_check_written.specs.declared.written.Written.{Written}
use Rattle.hol_check_written.specs.declared.written.WrittenShape.{WrittenShape}
use Rattle.hol_check_written.specs.declared.written.WrittenShape.TheVariants.{Variable, Constant, Application, Abstraction}
use Rattle.hol_check_written.specs.declared.making.Binders.{Binders, Outermost, Under'}
use Rattle.hol_check_written.proofs.NamedLemmas.{named-line, named-still, named-earlier, free-grown, free-still, written-grown}

IsGrown-same : (table : TermTable) → IsGrown table table
IsGrown-same table = record { names = IsLonger-same table.names; types = IsLonger-same table.types; terms = IsLonger-same table.terms }

pub Stays-same : (entries : List (ℕ × ℕ)) → Stays entries entries
Stays-same entries = record { stays = λ line there. there }

pub Stays-trans : (first second third : List (ℕ × ℕ)) → Stays first second → Stays second third → Stays first third
Stays-trans first second third p q = record { stays = λ line there. q.stays line (p.stays line there) }

-- tables that have grown

module _ (t0 t1 : TermTable) (grown : IsGrown t0 t1) where
  pub binders-still : (binders : Binders) → AreBinders t0.terms binders → binders_in t1.terms binders ≡ binders_in t0.terms binders
  binders-still Outermost are = refl
  binders-still (Under' number covers p outer) are =
      let here = free-still t0 t1 grown number are.0 in
      let rest = binders-still outer are.3 in
      λ i. (variable_name (here i), term_type (here i)) ∷ rest i

  binders-grown : (binders : Binders) → AreBinders t0.terms binders → AreBinders t1.terms binders
  binders-grown Outermost are = tt
  binders-grown (Under' number covers p outer) are = (free-grown t0 t1 grown number are.0, are.1, are.2, binders-grown outer are.3)

  module _ (written : List Written) (are : AreWritten t0 written) where
    pub numbered-grown : (around : List Binder) (entries : List (ℕ × ℕ)) → AreNumbered t0 written around entries → AreNumbered t1 written around entries
    numbered-grown around entries numbered = record {
      numbered = λ line number there.
          let part = numbered.numbered line number there in
          record {
            line_within = part.line_within;
            number_is = place-grown t0 t1 number _ grown part.number_is ∙ (λ i. Some (image_under around (named_at (sym (named-still t0 t1 grown written are) i) line)));
          };
    }

    -- what a line writes under binders
    pub meaning-still : (binders : Binders) (line : ℕ) → AreBinders t0.terms binders
        → image_under (binders_in t1.terms binders) (named_at (named_terms t1.terms written) line) ≡ image_under (binders_in t0.terms binders) (named_at (named_terms t0.terms written) line)
    meaning-still binders line binders_are = λ i. image_under (binders-still binders binders_are i) (named_at (named-still t0 t1 grown written are i) line)

    pub shallow-still : (binders : Binders) (line : ℕ) → AreBinders t0.terms binders → IsShallow t0 written (binders_in t0.terms binders) line → IsShallow t1 written (binders_in t1.terms binders) line
    shallow-still binders line binders_are shallow =
        subst (λ n. n ≤ TERM_HEIGHT_LIMIT) (λ i. length (sym (binders-still binders binders_are) i) + height (named_at (sym (named-still t0 t1 grown written are) i) line)) shallow

-- what stands after a part was made
pub work-after : (t0 t1 : TermTable) (written : List Written) (binders : Binders) (line : ℕ) (m0 k0 m1 k1 : List (ℕ × ℕ)) (result : Result ℕ Fault) → IsWork t0 written binders m0 k0
    → Numbers written (binders_in t0.terms binders) line t0 t1 m0 m1 k1 result → IsWork t1 written binders m1 k1
work-after t0 t1 written binders line m0 k0 m1 k1 result work numbers = record {
  written_are = written-grown t0 t1 numbers.grows written work.written_are;
  binders_are = binders-grown t0 t1 numbers.grows binders work.binders_are;
  made_are = numbers.made_are;
  known_are = subst (λ around. AreNumbered t1 written around k1) (sym (binders-still t0 t1 numbers.grows binders work.binders_are)) numbers.known_are;
}

-- leaves

module _ (t : TermTable) (written : List Written) (binders : Binders) (line : ℕ) (made known : List (ℕ × ℕ)) (work : IsWork t written binders made known) (part : Written)
    (there : slice_get written line ≡ Some part) where
  pub recalled : (is_apart : Bool) (number : ℕ) → (is_apart ≡ true → (term : NamedTerm) → AreCounted t.terms term part.variables → image_under (binders_in t.terms binders) term ≡ image term)
      → IsEntry (if is_apart then made else known) line number → Numbers written (binders_in t.terms binders) line t t made made known (Ok number)
  recalled is_apart number apart entry = record {
    number = go is_apart apart entry;
    refused = tt;
    grows = IsGrown-same t;
    made_are = work.made_are;
    known_are = work.known_are;
    stays = Stays-same made;
  }
    where
      go : (is_apart : Bool) → (is_apart ≡ true → (term : NamedTerm) → AreCounted t.terms term part.variables → image_under (binders_in t.terms binders) term ≡ image term) →
          IsEntry (if is_apart then made else known) line number
          → slice_get t.terms number ≡ Some (image_under (binders_in t.terms binders) (named_at (named_terms t.terms written) line))
      go true apart entry = (work.made_are.numbered line number entry).number_is ∙ ap Some
          (sym (apart refl (named_at (named_terms t.terms written) line) (work.written_are line part there).writes.counted))
      go false apart entry = (work.known_are.numbered line number entry).number_is

  pub parts-here : (shape : WrittenShape) → part.shape ≡ shape → PartsAreEarlier t.terms line shape
  parts-here shape is = subst (PartsAreEarlier t.terms line) is (work.written_are line part there).parts

  pub named-here : (shape : WrittenShape) → part.shape ≡ shape → named_at (named_terms t.terms written) line ≡ named_of_shape t.terms (named_terms t.terms written) shape
  named-here shape is = named-line t written line part work.written_are there ∙ ap (named_of_shape t.terms (named_terms t.terms written)) is

  pub variable-shallow : (number : ℕ) → part.shape ≡ Variable number → IsShallow t written (binders_in t.terms binders) line → length (binders_in t.terms binders) < TERM_HEIGHT_LIMIT
  variable-shallow number is shallow = let one = ap height (named-here (Variable number) is) in omega (arith, one, shallow)

  pub variable-numbers : (number : ℕ) (now : TermTable) (result : Result ℕ Fault) → part.shape ≡ Variable number → IsGrown t now
      → IfOk result (λ new. slice_get now.terms new ≡ Some (variable_image (binders_in t.terms binders) (variable_name (term_at t.terms number)) (term_type (term_at t.terms number)))) →
      IfErr result (λ fault. fault ≡ Memory)
      → Numbers written (binders_in t.terms binders) line t now made made known result
  variable-numbers number now result is grown made_it refused = record {
    number = subst (λ u. IfOk result (λ new. slice_get now.terms new ≡ Some (image_under (binders_in t.terms binders) u))) (sym (named-here (Variable number) is)) made_it;
    refused = refused;
    grows = grown;
    made_are = numbered-grown t now grown written work.written_are [] made work.made_are;
    known_are = numbered-grown t now grown written work.written_are (binders_in t.terms binders) known work.known_are;
    stays = Stays-same made;
  }

  pub constant-numbers : (number : ℕ) → part.shape ≡ Constant number → Numbers written (binders_in t.terms binders) line t t made made known (Ok number)
  constant-numbers number is = record {
    number =
        let parts = parts-here (Constant number) is in
        let there = term-there t.terms number (const parts.name parts.ty) parts.is_constant in
        parts.is_constant ∙ ap (λ u. Some (image_under (binders_in t.terms binders) u)) (sym (named-here (Constant number) is ∙ ap named_constant there));
    refused = tt;
    grows = IsGrown-same t;
    made_are = work.made_are;
    known_are = work.known_are;
    stays = Stays-same made;
  }

  -- parts of a combination

  pub function-shallow : (function argument : ℕ) → part.shape ≡ Application function argument → IsShallow t written (binders_in t.terms binders) line →
      IsShallow t written (binders_in t.terms binders) function
  function-shallow function argument is shallow = let both = ap height (named-here (Application function argument) is) in omega (arith, both, shallow)

  pub argument-shallow : (function argument : ℕ) → part.shape ≡ Application function argument → IsShallow t written (binders_in t.terms binders) line →
      IsShallow t written (binders_in t.terms binders) argument
  argument-shallow function argument is shallow = let both = ap height (named-here (Application function argument) is) in omega (arith, both, shallow)

  pub body-shallow : (binder body : ℕ) → part.shape ≡ Abstraction binder body → IsShallow t written (binders_in t.terms binders) line
      → IsShallow t written ((variable_name (term_at t.terms binder), term_type (term_at t.terms binder)) ∷ binders_in t.terms binders) body
  body-shallow binder body is shallow = let one = ap height (named-here (Abstraction binder body) is) in omega (arith, one, shallow)

-- a part that was kept

kept-entries : (t0 t1 t2 : TermTable) (written : List Written) (around : List Binder) (line : ℕ) (m1 m2 : List (ℕ × ℕ)) (wanted : Nameless) → AreWritten t0 written → line < length written →
    IsGrown t0 t1 → IsGrown t1 t2
    → AreNumbered t1 written around m1 → ((other number : ℕ) → IsEntry m2 other number →
    IsEntry m1 other number ⊎ ((other ≡ line) × (slice_get t2.terms number ≡ Some wanted) × (wanted ≡ image_under around (named_at (named_terms t0.terms written) line))))
    → AreNumbered t2 written around m2
kept-entries t0 t1 t2 written around line m1 m2 wanted are within first second numbered added = record {
  numbered = λ other number there.
      elim (added other number there) [
        | inl early ↦ (numbered-grown t1 t2 second written (written-grown t0 t1 first written are) around m1 numbered).numbered other number early
        | inr new ↦ subst (λ l. IsNumbered t2 written around l number) (sym new.0) (record {
          line_within = within;
          number_is = new.1 ∙ ap Some (new.2 ∙ (λ i. image_under around (named_at (sym (named-still t0 t2 (IsGrown-trans t0 t1 t2 first second) written are) i) line)));
        })
      ];
}

pub kept-numbers : (t0 t1 t2 : TermTable) (written : List Written) (around : List Binder) (line : ℕ) (m0 m1 m2 k1 k2 : List (ℕ × ℕ)) (is_apart : Bool) (wanted : Nameless) (result : Result ℕ Fault)
    → AreWritten t0 written → line < length written → IsGrown t0 t1 → AreMade t1 written m1 → AreNumbered t1 written around k1 → Stays m0 m1
    → wanted ≡ image_under around (named_at (named_terms t0.terms written) line) →
    (is_apart ≡ true → image_under around (named_at (named_terms t0.terms written) line) ≡ image (named_at (named_terms t0.terms written) line))
    → Keeps wanted is_apart line t1 t2 m1 m2 k1 k2 result → Numbers written around line t0 t2 m0 m2 k2 result
kept-numbers t0 t1 t2 written around line m0 m1 m2 k1 k2 is_apart wanted result are within first made known stays is apart keeps = record {
  number = subst (λ u. IfOk result (λ new. slice_get t2.terms new ≡ Some u)) is keeps.number;
  refused = keeps.refused;
  grows = IsGrown-trans t0 t1 t2 first keeps.grows;
  made_are = kept-entries t0 t1 t2 written [] line m1 m2 wanted are within first keeps.grows made
      (λ other number there. elim (keeps.kept.added other number there) [ inl early ↦ inl early | inr new ↦ inr (new.1, new.2, is ∙ apart new.0) ]);
  known_are = kept-entries t0 t1 t2 written around line k1 k2 wanted are within first keeps.grows known
      (λ other number there. elim (keeps.kept.noted other number there) [ inl early ↦ inl early | inr new ↦ inr (new.0, new.1, is) ]);
  stays = Stays-trans m0 m1 m2 stays keeps.kept.stays;
}

-- the parts of a combination and of an abstraction, which were made

module _ (t0 t1 : TermTable) (written : List Written) (binders : Binders) (line : ℕ) (made known : List (ℕ × ℕ)) (work : IsWork t0 written binders made known) (part : Written)
    (there : slice_get written line ≡ Some part) (first : IsGrown t0 t1) where
  pub application-made : (t2 : TermTable) (function argument a b : ℕ) → part.shape ≡ Application function argument → IsGrown t1 t2
      → slice_get t1.terms a ≡ Some (image_under (binders_in t0.terms binders) (named_at (named_terms t0.terms written) function))
      → slice_get t2.terms b ≡ Some (image_under (binders_in t1.terms binders) (named_at (named_terms t1.terms written) argument))
      → app (term_at t2.terms a) (term_at t2.terms b) ≡ image_under (binders_in t0.terms binders) (named_at (named_terms t0.terms written) line)
  application-made t2 function argument a b is second a_is b_is =
      let one = term-there t2.terms a _ (place-grown t1 t2 a _ second a_is) in
      let two = term-there t2.terms b _ b_is ∙ meaning-still t0 t1 first written work.written_are binders argument work.binders_are in
      (λ i. app (one i) (two i)) ∙ ap (image_under (binders_in t0.terms binders)) (sym (named-here t0 written binders line made known work part there (Application function argument) is))

  pub abstraction-made : (binder body ty b : ℕ) → part.shape ≡ Abstraction binder body → type_at t1.types ty ≡ term_type (term_at t1.terms binder)
      → slice_get t1.terms b ≡ Some (image_under ((variable_name (term_at t0.terms binder), term_type (term_at t0.terms binder)) ∷ binders_in t0.terms binders)
      (named_at (named_terms t0.terms written) body))
      → lam (type_at t1.types ty) (term_at t1.terms b) ≡ image_under (binders_in t0.terms binders) (named_at (named_terms t0.terms written) line)
  abstraction-made binder body ty b is ty_is b_is =
      let parts = parts-here t0 written binders line made known work part there (Abstraction binder body) is in
      let one = ty_is ∙ ap term_type (free-still t0 t1 first binder parts.0) in
      let two = term-there t1.terms b _ b_is in
      (λ i. lam (one i) (two i)) ∙ ap (image_under (binders_in t0.terms binders)) (sym (named-here t0 written binders line made known work part there (Abstraction binder body) is))

-- where nothing was made

pub none-numbered : (table : TermTable) (written : List Written) (around : List Binder) (entries : List (ℕ × ℕ)) → entries ≡ [] → AreNumbered table written around entries
none-numbered table written around entries none = record { numbered = λ line number there. absurd (no-entry line number (subst (λ l. IsEntry l line number) none there)) }
  where
    no-entry : (line number : ℕ) → IsEntry {Key = ℕ} {Value = ℕ} [] line number → ⊥
    no-entry line number (i, there) = cc

pub covered-more : (covers more : Variables) → ((number : ℕ) → IsAmong covers number → IsAmong more number) → (binders : Binders) → AreCovered covers binders → AreCovered more binders
covered-more covers more wider Outermost are = tt
covered-more covers more wider (Under' number all p outer) are = (wider number are.0, covered-more covers more wider outer are.1)

pub top-shallow : (table : TermTable) (written : List Written) (line : ℕ) (part : Written) → AreWritten table written → slice_get written line ≡ Some part → IsShallow table written [] line
top-shallow table written line part are there = let writes = (are line part there).writes in let is = writes.height_is in let fits = writes.height_fits in omega (arith, is, fits)

pub noted-made : (t0 t1 : TermTable) (written : List Written) (line number : ℕ) (m1 m2 : List (ℕ × ℕ)) → AreWritten t0 written → line < length written → IsGrown t0 t1 → AreMade t1 written m1
    → slice_get t1.terms number ≡ Some (image (named_at (named_terms t0.terms written) line)) → HasOnlyAdded m1 m2 line number → AreMade t1 written m2
noted-made t0 t1 written line number m1 m2 are within grown made is added =
    kept-entries t0 t1 t1 written [] line m1 m2 (image (named_at (named_terms t0.terms written) line)) are within grown (IsGrown-same t1) made
    (λ other one there. elim (added other one there) [ inl early ↦ inl early | inr new ↦ inr (new.0, ap (slice_get t1.terms) new.1 ∙ is, refl) ])

-- a further line
pub made-push : (table : TermTable) (written : List Written) (new : Written) (entries : List (ℕ × ℕ)) → AreMade table written entries → AreMade table (written ++ new ∷ []) entries
made-push table written new entries made = record {
  numbered = λ line number there.
      let part = made.numbered line number there in
      let longer = length-append written (new ∷ []) in
      let within = part.line_within in
      record {
        line_within = omega (arith, longer, within);
        number_is = part.number_is ∙ ap (λ named. Some (image named)) (sym (named-earlier table.terms written new line within));
      };
}

-- a line that is none
pub unwritten : Written
unwritten = record { shape = Variable 0; ty = 0; height = 0; nodes = 0; variables = record { least = 0; greatest = 0 } }
