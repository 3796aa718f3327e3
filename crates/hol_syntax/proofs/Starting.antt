-- A scope with the logic's own constants alone.
use Rattle.std.proofs.Common.{◌≡◌, ℕ, List, Bool, true, false, cond, Option, None, Some, get_or, refl, sym, ap, ◌∙◌, arith}
use Rattle.std.specs.Prelude.{codes}
use Rattle.std.specs.Str.{bytes_eq}
use Rattle.std.proofs.lemmas.Slice.Eq.{bytes_eq-Decides}
use Rattle.hol_model.specs.Terms.HolType.{HolType}
use Rattle.hol_model.specs.Logic.Theory.{equality_type, choice_type, type_a}
use Rattle.hol_model.specs.Texts.Reading.{Scope}
use Rattle.hol_syntax.specs.Scope.{IsStart, SetsConstant}

swapped : (name : List ℕ) (e c o : Option HolType) (a b : Bool) → o ≡ None → bytes_eq (codes "=") name ≡ a → bytes_eq (codes "@") name ≡ b
    → cond b c (cond a e o) ≡ cond a e (cond b c None)
swapped name e c o true true n h k =
    let same : codes "=" ≡ codes "@" = (bytes_eq-Decides (codes "=") name).0 h ∙ sym ((bytes_eq-Decides (codes "@") name).0 k) in
    absurd (omega (arith, ap (λ l. get_or l 0 0) same))
swapped name e c o true false n h k = refl
swapped name e c o false true n h k = refl
swapped name e c o false false n h k = n

pub started : (old mid new : Scope) (e c : HolType) → ((name : List ℕ) → old.generic_type name ≡ None) → ((name : List ℕ) → old.variable_type name ≡ None)
    → ((name : List ℕ) → old.declares_type name ≡ false) → SetsConstant old mid (codes "=") (Some e) → SetsConstant mid new (codes "@") (Some c)
    → e ≡ equality_type type_a → c ≡ choice_type type_a → IsStart new
started old mid new e c no_constant no_variable no_type first second is_e is_c = record {
  constants = λ name.
      second.constants name ∙ ap (λ o. cond (bytes_eq (codes "@") name) (Some c) o) (first.constants name)
      ∙ swapped name (Some e) (Some c) (old.generic_type name) (bytes_eq (codes "=") name) (bytes_eq (codes "@") name) (no_constant name) refl refl
      ∙ ap (λ t. cond (bytes_eq (codes "=") name) (Some t) (cond (bytes_eq (codes "@") name) (Some c) None)) is_e
      ∙ ap (λ t. cond (bytes_eq (codes "=") name) (Some (equality_type type_a)) (cond (bytes_eq (codes "@") name) (Some t) None)) is_c;
  variables = λ name. second.variables name ∙ first.variables name ∙ no_variable name;
  types = λ name. second.types name ∙ first.types name ∙ no_type name;
}
