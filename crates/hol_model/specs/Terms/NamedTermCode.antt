-- How a proof tells named terms apart: a term as a tree of numbers.
use Rattle.std.specs.Prelude.{◌≡◌, ℕ, List}
use Rattle.std.specs.Coded.{Coded, coded_ℕ, coded_list, coded×}
use Rattle.std.proofs.Common.{ap}
use base.Stored.{Gv, gnil, gnum, gcons}
use Rattle.hol_model.specs.Terms.HolType.{HolType}
use Rattle.hol_model.specs.Terms.HolTypeCode.{type_code}
use Rattle.hol_model.specs.Terms.NamedTerm.{NamedTerm, variable, constant, combination, abstraction}

abbrev binder_code : Coded (List ℕ × HolType)
binder_code = coded× (coded_list coded_ℕ) type_code

abbrev pub code_term : NamedTerm → Gv
code_term (variable name ty) = gcons (gnum 0) (binder_code.code (name, ty))
code_term (constant name ty) = gcons (gnum 1) (binder_code.code (name, ty))
code_term (combination f a) = gcons gnil (gcons (code_term f) (code_term a))
code_term (abstraction name ty body) = gcons (gcons gnil gnil) (gcons (binder_code.code (name, ty)) (code_term body))

pub code_term_injective : (s t : NamedTerm) → code_term s ≡ code_term t → s ≡ t
code_term_injective (variable a s) (variable b t) same =
    let pairs : binder_code.code (a, s) ≡ binder_code.code (b, t) = cc in
    ap (λ (p : List ℕ × HolType). variable p.0 p.1) (binder_code.inj (a, s) (b, t) pairs)
code_term_injective (constant a s) (constant b t) same =
    let pairs : binder_code.code (a, s) ≡ binder_code.code (b, t) = cc in
    ap (λ (p : List ℕ × HolType). constant p.0 p.1) (binder_code.inj (a, s) (b, t) pairs)
code_term_injective (combination f a) (combination g b) same =
    let first : code_term f ≡ code_term g = cc in
    let second : code_term a ≡ code_term b = cc in
    let function : f ≡ g = code_term_injective f g first in
    let argument : a ≡ b = code_term_injective a b second in
    cc
code_term_injective (abstraction a s p) (abstraction b t q) same =
    let pairs : binder_code.code (a, s) ≡ binder_code.code (b, t) = cc in
    let second : code_term p ≡ code_term q = cc in
    let body : p ≡ q = code_term_injective p q second in
    λ i. abstraction (binder_code.inj (a, s) (b, t) pairs i).0 (binder_code.inj (a, s) (b, t) pairs i).1 (body i)
code_term_injective _ _ same = cc

abbrev pub term_code : Coded NamedTerm
term_code = record { code = code_term; inj = code_term_injective }
