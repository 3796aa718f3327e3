-- What is kept of a variable that a line writes.
use Rattle.std.proofs.Common.{◌≡◌, ℕ, ◌≤◌, List, [], Bool, true, ◌&&◌, nat_le, sym, ◌∙◌, ap, subst, Some, arith}
use Rattle.std.specs.Prelude.{slice_get}
use Rattle.std.proofs.lemmas.Bool.{le-leb}
use Rattle.hol_model.specs.declared.limits.TheConstants.{TERM_HEIGHT_LIMIT, TERM_NODES_LIMIT}
use Rattle.hol_model.specs.Terms.HolType.{HolType}
use Rattle.hol_model.specs.Terms.NamedTerm.{NamedTerm, variable, height, nodes, types_fit, is_within_limits}
use Rattle.hol_model.specs.Terms.Nameless.{Nameless, free, nameless_type}
use Rattle.hol_model.specs.Terms.Measures.{nameless_within_limits}
use Rattle.hol_model.specs.Logs.LogSequents.{variable_name}
use Rattle.hol_model.specs.Logs.LogState.{term_type}
use Rattle.hol_model.proofs.Tests.{same_variable-type, same_name}
use Rattle.hol_check_terms.specs.Terms.{TermTable, term_at, IsGrown}
use Rattle.hol_check_terms.proofs.TableLemmas.{is_within}
use Rattle.hol_check_terms.proofs.GrowthLemmas.{term-there, type-there, place-grown}
use Rattle.hol_check_written.specs.Variables.{IsAmong}
use Rattle.hol_check_written.specs.Written.{IsFree, AreCounted, Writes}
use Rattle.hol_check_written.specs.declared.variables.Variables.{Variables}
use Rattle.hol_check_written.specs.declared.written.Written.{Written}

pub free-there : (terms : List Nameless) (number : ℕ) (is : IsFree terms number) → term_at terms number ≡ free is.name is.ty
free-there terms number is = term-there terms number (free is.name is.ty) is.is_variable

pub variable-limits : (t : Nameless) (name : List ℕ) (ty : HolType) (answer : Bool) → t ≡ free name ty → nameless_within_limits t ≡ answer →
    is_within_limits (variable (variable_name t) (term_type t)) ≡ answer
variable-limits t name ty answer is within = ap (λ u. is_within_limits (variable (variable_name u) (term_type u))) is ∙ (ap nameless_within_limits (sym is) ∙ within)

pub variable-counted : (earlier now : List Nameless) (number : ℕ) (variables : Variables) (is : IsFree earlier number) → slice_get now number ≡ Some (free is.name is.ty) → IsAmong variables number
    → AreCounted now (variable (variable_name (term_at earlier number)) (term_type (term_at earlier number))) variables
variable-counted earlier now number variables is later among name ty occurs =
    let there = free-there earlier number is in
    let names : name ≡ is.name = same_name name (variable_name (term_at earlier number)) ty (term_type (term_at earlier number)) occurs ∙ ap variable_name there in
    let types : ty ≡ is.ty = same_variable-type name (variable_name (term_at earlier number)) ty (term_type (term_at earlier number)) occurs ∙ ap term_type there in
    record { number = number; is_there = later ∙ (λ i. Some (free (sym names i) (sym types i))); among = among }

pub variable-writes : (t0 t1 : TermTable) (number : ℕ) (written : Written) → IsFree t0.terms number → IsGrown t0 t1 → slice_get t1.types written.ty ≡ Some (nameless_type [] (term_at t0.terms number))
    → nameless_within_limits (term_at t0.terms number) ≡ true → written.height ≡ 1 → written.nodes ≡ 1 → IsAmong written.variables number
    → Writes t1 (variable (variable_name (term_at t0.terms number)) (term_type (term_at t0.terms number))) written
variable-writes t0 t1 number written is grown typed within h n among = record {
  type_within = is_within t1.types written.ty _ typed;
  typed = ap Some (sym (type-there t1.types written.ty _ typed));
  height_is = h;
  nodes_are = n;
  height_fits = grind (arith, h);
  nodes_fit = grind (arith, n);
  types_are = variable-limits (term_at t0.terms number) is.name is.ty true (free-there t0.terms number is) within;
  counted = variable-counted t0.terms t1.terms number written.variables is (place-grown t0 t1 number (free is.name is.ty) grown is.is_variable) among;
}

-- what is kept says that the term is within the limits
pub within-limits : (table : TermTable) (term : NamedTerm) (written : Written) → Writes table term written → is_within_limits term ≡ true
within-limits table term written writes =
    all_three (nat_le (height term) TERM_HEIGHT_LIMIT) (nat_le (nodes term) TERM_NODES_LIMIT) (types_fit term)
    (le-leb (height term) TERM_HEIGHT_LIMIT (subst (λ n. n ≤ TERM_HEIGHT_LIMIT) writes.height_is writes.height_fits))
    (le-leb (nodes term) TERM_NODES_LIMIT (subst (λ n. n ≤ TERM_NODES_LIMIT) writes.nodes_are writes.nodes_fit))
    writes.types_are
  where
    all_three : (p q r : Bool) → p ≡ true → q ≡ true → r ≡ true → (p && q && r) ≡ true
    all_three p q r one two three = cc
