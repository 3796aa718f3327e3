-- What lines write stays as the tables grow and as lines are added.
use Rattle.std.proofs.Common.{◌≡◌, ℕ, ◌<◌, List, [], ◌∷◌, ◌++◌, length, refl, sym, ◌∙◌, ap, subst, inl, inr, Some, arith}
use Rattle.std.specs.Prelude.{slice_get}
use Rattle.std.proofs.lemmas.Option.{get_or_from_slice_get}
use Rattle.hol_model.specs.Terms.HolType.{bool_type}
use Rattle.hol_model.specs.Terms.NamedTerm.{NamedTerm, variable, constant, combination, abstraction}
use Rattle.hol_model.specs.Terms.Nameless.{Nameless, free, const}
use Rattle.hol_model.specs.Logs.LogSequents.{variable_name}
use Rattle.hol_model.specs.Logs.LogState.{term_type}
use Rattle.hol_check_terms.specs.Terms.{TermTable, term_at, IsGrown}
use Rattle.hol_check_terms.proofs.TableLemmas.{is_within, slice_get_cases, slice_get-end, get_or-longer, length-values_after, values_after-push, values_after-same, value_at}
use Rattle.hol_check_terms.proofs.GrowthLemmas.{type-within, type-grown, term-grown, place-grown}
use Rattle.hol_check_written.specs.Written.{named_constant, named_at, named_of_shape, named_of, named_terms, IsFree, PartsAreEarlier, AreCounted, Writes, IsWrittenLine, AreWritten}
use Rattle.hol_check_written.specs.declared.variables.Variables.{Variables}
use Rattle.hol_check_written.specs.declared.written.Written.{Written}
use Rattle.hol_check_written.specs.declared.written.WrittenShape.{WrittenShape}
use Rattle.hol_check_written.specs.declared.written.WrittenShape.TheVariants.{Variable, Constant, Application, Abstraction}

pub named-length : (terms : List Nameless) (written : List Written) → length (named_terms terms written) ≡ length written
named-length terms written = let is = length-values_after (named_of terms) [] written in omega (arith, is)

pub named-push : (terms : List Nameless) (written : List Written) (new : Written) →
    named_terms terms (written ++ new ∷ []) ≡ named_terms terms written ++ named_of terms (named_terms terms written) new ∷ []
named-push terms written new = values_after-push (named_of terms) [] written new

-- parts name what they name among more

shape-stable : (terms : List Nameless) (named more : List NamedTerm) (shape : WrittenShape) → PartsAreEarlier terms (length named) shape →
    named_of_shape terms (named ++ more) shape ≡ named_of_shape terms named shape
shape-stable terms named more (Variable number) parts = refl
shape-stable terms named more (Constant number) parts = refl
shape-stable terms named more (Application function argument) parts =
    λ i. combination (get_or-longer named more function (constant [] bool_type) parts.0 i) (get_or-longer named more argument (constant [] bool_type) parts.1 i)
shape-stable terms named more (Abstraction binder body) parts =
    ap (abstraction (variable_name (term_at terms binder)) (term_type (term_at terms binder))) (get_or-longer named more body (constant [] bool_type) parts.1)

abbrev IsPlaced : List Nameless → ℕ → Written → Type 0
IsPlaced terms place written = PartsAreEarlier terms place written.shape

-- what a line writes
pub named-line : (table : TermTable) (written : List Written) (line : ℕ) (part : Written) → AreWritten table written → slice_get written line ≡ Some part
    → named_at (named_terms table.terms written) line ≡ named_of_shape table.terms (named_terms table.terms written) part.shape
named-line table written line part are there =
    get_or_from_slice_get (named_terms table.terms written) line (named_of table.terms (named_terms table.terms written) part) (constant [] bool_type)
    (value_at (named_of table.terms) (IsPlaced table.terms) (λ named more one parts. shape-stable table.terms named more one.shape parts) written (λ place one at. (are place one at).parts)
    line part there)

-- tables that have grown

module _ (t0 t1 : TermTable) (grown : IsGrown t0 t1) where
  pub free-grown : (number : ℕ) → IsFree t0.terms number → IsFree t1.terms number
  free-grown number is = record { name = is.name; ty = is.ty; is_variable = place-grown t0 t1 number (free is.name is.ty) grown is.is_variable }

  pub free-still : (number : ℕ) → IsFree t0.terms number → term_at t1.terms number ≡ term_at t0.terms number
  free-still number is = term-grown t0 t1 number grown (is_within t0.terms number (free is.name is.ty) is.is_variable)

  pub parts-grown : (place : ℕ) (shape : WrittenShape) → PartsAreEarlier t0.terms place shape → PartsAreEarlier t1.terms place shape
  parts-grown place (Variable number) parts = free-grown number parts
  parts-grown place (Constant number) parts = record { name = parts.name; ty = parts.ty; is_constant = place-grown t0 t1 number (const parts.name parts.ty) grown parts.is_constant }
  parts-grown place (Application function argument) parts = parts
  parts-grown place (Abstraction binder body) parts = (free-grown binder parts.0, parts.1)

  shape-still : (place : ℕ) (named : List NamedTerm) (shape : WrittenShape) → PartsAreEarlier t0.terms place shape → named_of_shape t1.terms named shape ≡ named_of_shape t0.terms named shape
  shape-still place named (Variable number) parts = ap (λ t. variable (variable_name t) (term_type t)) (free-still number parts)
  shape-still place named (Constant number) parts = ap named_constant (term-grown t0 t1 number grown (is_within t0.terms number (const parts.name parts.ty) parts.is_constant))
  shape-still place named (Application function argument) parts = refl
  shape-still place named (Abstraction binder body) parts = ap (λ t. abstraction (variable_name t) (term_type t) (named_at named body)) (free-still binder parts.0)

  pub named-still : (written : List Written) → AreWritten t0 written → named_terms t1.terms written ≡ named_terms t0.terms written
  named-still written are = values_after-same (named_of t1.terms) (named_of t0.terms) [] written (λ place one there named. shape-still place named one.shape (are place one there).parts)

  counted-grown : (term : NamedTerm) (variables : Variables) → AreCounted t0.terms term variables → AreCounted t1.terms term variables
  counted-grown term variables counted name ty occurs =
      let one = counted name ty occurs in record { number = one.number; is_there = place-grown t0 t1 one.number (free name ty) grown one.is_there; among = one.among }

  pub writes-grown : (term : NamedTerm) (written : Written) → Writes t0 term written → Writes t1 term written
  writes-grown term written writes = record {
    type_within = type-within t0.types t1.types written.ty grown.types writes.type_within;
    typed = writes.typed ∙ ap Some (sym (type-grown t0.types t1.types written.ty grown.types writes.type_within));
    height_is = writes.height_is;
    nodes_are = writes.nodes_are;
    height_fits = writes.height_fits;
    nodes_fit = writes.nodes_fit;
    types_are = writes.types_are;
    counted = counted-grown term written.variables writes.counted;
  }

  pub written-grown : (written : List Written) → AreWritten t0 written → AreWritten t1 written
  written-grown written are place one there =
      let line = are place one there in
      record {
        parts = parts-grown place one.shape line.parts;
        writes = subst (λ named. Writes t1 (named_at named place) one) (sym (named-still written are)) (writes-grown (named_at (named_terms t0.terms written) place) one line.writes);
      }

-- one more line

pub named-earlier : (terms : List Nameless) (written : List Written) (new : Written) (line : ℕ) → line < length written →
    named_at (named_terms terms (written ++ new ∷ [])) line ≡ named_at (named_terms terms written) line
named-earlier terms written new line within =
    let count = named-length terms written in
    ap (λ named. named_at named line) (named-push terms written new)
    ∙ get_or-longer (named_terms terms written) (named_of terms (named_terms terms written) new ∷ []) line (constant [] bool_type) (omega (arith, count, within))

named-last : (terms : List Nameless) (written : List Written) (new : Written) → named_at (named_terms terms (written ++ new ∷ [])) (length written) ≡ named_of_shape terms
    (named_terms terms written) new.shape
named-last terms written new =
    let count = named-length terms written in
    ap (λ named. named_at named (length written)) (named-push terms written new)
    ∙ subst (λ n. named_at (named_terms terms written ++ named_of terms (named_terms terms written) new ∷ []) n ≡ named_of_shape terms (named_terms terms written) new.shape) count
    (get_or_from_slice_get (named_terms terms written ++ named_of terms (named_terms terms written) new ∷ []) (length (named_terms terms written))
    (named_of terms (named_terms terms written) new) (constant [] bool_type)
    (slice_get-end (named_terms terms written) [] (named_of terms (named_terms terms written) new)))

pub written-push : (table : TermTable) (written : List Written) (new : Written) → AreWritten table written → PartsAreEarlier table.terms (length written) new.shape
    → Writes table (named_of_shape table.terms (named_terms table.terms written) new.shape) new → AreWritten table (written ++ new ∷ [])
written-push table written new are parts writes place one there =
    elim (slice_get_cases written new place one there) [
      | inl early ↦ (let line = are place one early in record {
        parts = line.parts;
        writes = subst (λ term. Writes table term one) (sym (named-earlier table.terms written new place (is_within written place one early))) line.writes;
      })
      | inr last ↦ subst (λ w. IsWrittenLine table (named_terms table.terms (written ++ new ∷ [])) place w) (sym last.1)
          (subst (λ n. IsWrittenLine table (named_terms table.terms (written ++ new ∷ [])) n new) (sym last.0) (record {
            parts = parts;
            writes = subst (λ term. Writes table term new) (sym (named-last table.terms written new)) writes;
          }))
    ]
