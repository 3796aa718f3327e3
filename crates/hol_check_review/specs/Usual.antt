-- What is as usual in a theory.
use Rattle.std.specs.Prelude.{◌≡◌, ℕ, List, [], ◌∷◌, Bool, false, true, ◌&&◌, nat_eq, codes}
use Rattle.std.specs.List.{list_any}
use Rattle.std.specs.Str.{bytes_eq}
use Rattle.hol_model.specs.Terms.HolType.{type_eq}
use Rattle.hol_model.specs.Terms.Nameless.{Nameless, free, const, bound, app, lam}
use Rattle.hol_model.specs.Logic.Derivable.{IsMember}
use Rattle.hol_model.specs.Logic.Logic.{true_name, and_name, implies_name, forall_name, exists_name, or_name, false_name, not_name, logical_definitions}
use Rattle.hol_model.specs.Logic.Theory.{Entry, definition, declaration_of_type, declaration_of_constant}
use Rattle.hol_check_review.specs.declared.usual.Remark.{Remark}
use Rattle.hol_check_review.specs.declared.usual.Remark.TheVariants.{Usual, Unusual, Plain}

-- the name is that of a logical constant
abbrev pub is_logical_name : List ℕ → Bool
is_logical_name name =
    list_any (bytes_eq name) (true_name ∷ and_name ∷ implies_name ∷ forall_name ∷ exists_name ∷ or_name ∷ false_name ∷ not_name ∷ [])

-- the entry makes a constant of such a name
abbrev pub makes_logical_constant : Entry → Bool
makes_logical_constant (definition name ty body) = is_logical_name name
makes_logical_constant (declaration_of_type name) = false
makes_logical_constant (declaration_of_constant name ty) = is_logical_name name

-- what is remarked on an entry: that it is one of the definitions of the logical constants, that it is none of them and
-- makes a constant of such a name, or nothing
abbrev pub IsRemark : Entry → Remark → Type 0
IsRemark entry Usual = IsMember entry logical_definitions
IsRemark entry Unusual = ¬ (IsMember entry logical_definitions) × (makes_logical_constant entry ≡ true)
IsRemark entry Plain = ¬ (IsMember entry logical_definitions) × (makes_logical_constant entry ≡ false)

-- how it is printed
abbrev pub mark : Remark → List ℕ
mark Usual = codes " (as usual)"
mark Unusual = codes " (WARNING: not as usual)"
mark Plain = []

-- the tests by which entries are compared

abbrev pub same_nameless : Nameless → Nameless → Bool
same_nameless (free a s) (free b t) = bytes_eq a b && type_eq s t
same_nameless (const a s) (const b t) = bytes_eq a b && type_eq s t
same_nameless (bound i) (bound j) = nat_eq i j
same_nameless (app f a) (app g b) = same_nameless f g && same_nameless a b
same_nameless (lam s p) (lam t q) = type_eq s t && same_nameless p q
same_nameless _ _ = false

abbrev pub same_entry : Entry → Entry → Bool
same_entry (definition a s p) (definition b t q) = bytes_eq a b && type_eq s t && same_nameless p q
same_entry (declaration_of_type a) (declaration_of_type b) = bytes_eq a b
same_entry (declaration_of_constant a s) (declaration_of_constant b t) = bytes_eq a b && type_eq s t
same_entry _ _ = false
