-- How a proof tells the types of the logic apart: a type as a tree of numbers.
use Rattle.std.specs.Prelude.{◌≡◌, ℕ, List}
use Rattle.std.specs.Coded.{Coded, coded_ℕ, coded_list}
use Rattle.std.proofs.Common.{refl, ap}
use base.Stored.{Gv, gnil, gnum, gcons}
use Rattle.hol_model.specs.Terms.HolType.{HolType, type_variable, bool_type, function_type, declared_type}

abbrev code_name : List ℕ → Gv
code_name = (coded_list coded_ℕ).code

abbrev pub code_type : HolType → Gv
code_type (type_variable name) = gcons (gnum 0) (code_name name)
code_type bool_type = gnil
code_type (function_type a b) = gcons (gcons gnil (code_type a)) (code_type b)
code_type (declared_type name) = gcons (gnum 1) (code_name name)

pub code_type_injective : (a b : HolType) → code_type a ≡ code_type b → a ≡ b
code_type_injective (type_variable x) (type_variable y) same = ap type_variable ((coded_list coded_ℕ).inj x y (cc))
code_type_injective bool_type bool_type same = refl
code_type_injective (function_type a b) (function_type c d) same =
    let first : code_type a ≡ code_type c = cc in
    let second : code_type b ≡ code_type d = cc in
    let domain : a ≡ c = code_type_injective a c first in
    let codomain : b ≡ d = code_type_injective b d second in
    cc
code_type_injective (declared_type x) (declared_type y) same = ap declared_type ((coded_list coded_ℕ).inj x y (cc))
code_type_injective _ _ same = cc

abbrev pub type_code : Coded HolType
type_code = record { code = code_type; inj = code_type_injective }
