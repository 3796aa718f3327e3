-- How a proof tells terms without bound names apart, and the entries of theories.
use Rattle.std.specs.Prelude.{◌≡◌, ℕ, List}
use Rattle.std.specs.Coded.{Coded, coded_ℕ, coded_list, coded×}
use Rattle.std.proofs.Common.{ap}
use base.Stored.{Gv, gnil, gnum, gcons}
use Rattle.hol_model.specs.Terms.HolType.{HolType}
use Rattle.hol_model.specs.Terms.HolTypeCode.{type_code}
use Rattle.hol_model.specs.Terms.Nameless.{Nameless, free, const, bound, app, lam}
use Rattle.hol_model.specs.Logic.Theory.{Entry, definition, declaration_of_type, declaration_of_constant}

abbrev name_code : Coded (List ℕ)
name_code = coded_list coded_ℕ

abbrev atom_code : Coded (List ℕ × HolType)
atom_code = coded× name_code type_code

abbrev pub code_nameless : Nameless → Gv
code_nameless (free name ty) = gcons (gnum 0) (atom_code.code (name, ty))
code_nameless (const name ty) = gcons (gnum 1) (atom_code.code (name, ty))
code_nameless (bound index) = gcons (gnum 2) (gnum index)
code_nameless (app f a) = gcons gnil (gcons (code_nameless f) (code_nameless a))
code_nameless (lam ty body) = gcons (gcons gnil gnil) (gcons (type_code.code ty) (code_nameless body))

pub code_nameless_injective : (s t : Nameless) → code_nameless s ≡ code_nameless t → s ≡ t
code_nameless_injective (free a s) (free b t) same =
    let pairs : atom_code.code (a, s) ≡ atom_code.code (b, t) = cc in
    ap (λ (p : List ℕ × HolType). free p.0 p.1) (atom_code.inj (a, s) (b, t) pairs)
code_nameless_injective (const a s) (const b t) same =
    let pairs : atom_code.code (a, s) ≡ atom_code.code (b, t) = cc in
    ap (λ (p : List ℕ × HolType). const p.0 p.1) (atom_code.inj (a, s) (b, t) pairs)
code_nameless_injective (bound i) (bound j) same = cc
code_nameless_injective (app f a) (app g b) same =
    let first : code_nameless f ≡ code_nameless g = cc in
    let second : code_nameless a ≡ code_nameless b = cc in
    let function : f ≡ g = code_nameless_injective f g first in
    let argument : a ≡ b = code_nameless_injective a b second in
    cc
code_nameless_injective (lam s p) (lam t q) same =
    let first : type_code.code s ≡ type_code.code t = cc in
    let second : code_nameless p ≡ code_nameless q = cc in
    let binder : s ≡ t = type_code.inj s t first in
    let body : p ≡ q = code_nameless_injective p q second in
    cc
code_nameless_injective _ _ same = cc

abbrev pub nameless_code : Coded Nameless
nameless_code = record { code = code_nameless; inj = code_nameless_injective }

abbrev pub code_entry : Entry → Gv
code_entry (definition name ty body) = gcons gnil (gcons (atom_code.code (name, ty)) (code_nameless body))
code_entry (declaration_of_type name) = gcons (gnum 0) (name_code.code name)
code_entry (declaration_of_constant name ty) = gcons (gnum 1) (atom_code.code (name, ty))

pub code_entry_injective : (s t : Entry) → code_entry s ≡ code_entry t → s ≡ t
code_entry_injective (definition a s p) (definition b t q) same =
    let pairs : atom_code.code (a, s) ≡ atom_code.code (b, t) = cc in
    let bodies : code_nameless p ≡ code_nameless q = cc in
    let body : p ≡ q = code_nameless_injective p q bodies in
    λ i. definition (atom_code.inj (a, s) (b, t) pairs i).0 (atom_code.inj (a, s) (b, t) pairs i).1 (body i)
code_entry_injective (declaration_of_type a) (declaration_of_type b) same = ap declaration_of_type (name_code.inj a b (cc))
code_entry_injective (declaration_of_constant a s) (declaration_of_constant b t) same =
    let pairs : atom_code.code (a, s) ≡ atom_code.code (b, t) = cc in
    ap (λ (p : List ℕ × HolType). declaration_of_constant p.0 p.1) (atom_code.inj (a, s) (b, t) pairs)
code_entry_injective _ _ same = cc

abbrev pub entry_code : Coded Entry
entry_code = record { code = code_entry; inj = code_entry_injective }

abbrev pub theory_code : Coded (List Entry)
theory_code = coded_list entry_code
