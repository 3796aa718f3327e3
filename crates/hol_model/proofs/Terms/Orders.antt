-- The orders of types and of terms without bound names answer `Equal` exactly where both are the same.
use Rattle.std.proofs.Common.{◌≡◌, ℕ, List, refl, sym, ap, true, Bool, ◌∙◌, ◌↔◌, IsTrue}
use Rattle.std.proofs.lemmas.Slice.Eq.{bytes_eq-Decides}
use Rattle.std.proofs.lemmas.Map.Text.{is_eq-slice_cmp}
use Rattle.std.proofs.lemmas.Map.Lookups.{exact_bytes, exact_unsigned}
use Rattle.std.specs.Cmp.{nat_cmp_is, Equal-is}
use Rattle.std.specs.Ordering.{nat_cmp, ordering_then, is_eq}
use Rattle.std.specs.Cmp.Lexicographic.{slice_cmp}
use Rattle.std.specs.declared.cmp.Ordering.{Ordering}
use Rattle.std.specs.declared.cmp.Ordering.TheVariants.{Less, Equal, Greater}
use Rattle.hol_model.specs.Terms.HolType.{HolType, type_variable, bool_type, function_type, declared_type, type_cmp}
use Rattle.hol_model.specs.Terms.Nameless.{Nameless, free, const, bound, app, lam, nameless_cmp}

equal_from_is_eq : (o : Ordering) → is_eq o ≡ true → o ≡ Equal
equal_from_is_eq Equal passed = refl
equal_from_is_eq Less passed = cc
equal_from_is_eq Greater passed = cc

-- both answers of a chain that ends in `Equal`
first_equal : (o p : Ordering) → ordering_then o p ≡ Equal → o ≡ Equal
first_equal Equal p both = refl
first_equal Less p both = both
first_equal Greater p both = both

second_equal : (o p : Ordering) → ordering_then o p ≡ Equal → p ≡ Equal
second_equal Equal p both = both
second_equal Less p both = cc
second_equal Greater p both = cc

both_equal : (o p : Ordering) → o ≡ Equal → p ≡ Equal → ordering_then o p ≡ Equal
both_equal o p first second = rw first second

bytes_cmp-self : (name : List ℕ) → slice_cmp nat_cmp name name ≡ Equal
bytes_cmp-self name = equal_from_is_eq (slice_cmp nat_cmp name name) (rw is_eq-slice_cmp ((bytes_eq-Decides name name).1 refl))

nat_cmp-self : (n : ℕ) → nat_cmp n n ≡ Equal
nat_cmp-self n = sym (nat_cmp_is n n Equal refl)

pub type_cmp-self : (ty : HolType) → type_cmp ty ty ≡ Equal
type_cmp-self (type_variable name) = bytes_cmp-self name
type_cmp-self bool_type = refl
type_cmp-self (function_type a b) = both_equal _ _ (type_cmp-self a) (type_cmp-self b)
type_cmp-self (declared_type name) = bytes_cmp-self name

pub same_from_type_cmp : (a b : HolType) → type_cmp a b ≡ Equal → a ≡ b
same_from_type_cmp (type_variable x) (type_variable y) equal = ap type_variable (exact_bytes x y equal)
same_from_type_cmp bool_type bool_type equal = refl
same_from_type_cmp (function_type a b) (function_type c d) equal =
    let domain : a ≡ c = same_from_type_cmp a c (first_equal (type_cmp a c) (type_cmp b d) equal) in
    let codomain : b ≡ d = same_from_type_cmp b d (second_equal (type_cmp a c) (type_cmp b d) equal) in
    cc
same_from_type_cmp (declared_type x) (declared_type y) equal = ap declared_type (exact_bytes x y equal)
same_from_type_cmp _ _ equal = cc

pub nameless_cmp-self : (t : Nameless) → nameless_cmp t t ≡ Equal
nameless_cmp-self (const name ty) = both_equal _ _ (bytes_cmp-self name) (type_cmp-self ty)
nameless_cmp-self (free name ty) = both_equal _ _ (bytes_cmp-self name) (type_cmp-self ty)
nameless_cmp-self (bound index) = nat_cmp-self index
nameless_cmp-self (app f a) = both_equal _ _ (nameless_cmp-self f) (nameless_cmp-self a)
nameless_cmp-self (lam ty body) = both_equal _ _ (type_cmp-self ty) (nameless_cmp-self body)

pub same_from_nameless_cmp : (s t : Nameless) → nameless_cmp s t ≡ Equal → s ≡ t
same_from_nameless_cmp (const a s) (const b t) equal =
    let name : a ≡ b = exact_bytes a b (first_equal (slice_cmp nat_cmp a b) (type_cmp s t) equal) in
    let ty : s ≡ t = same_from_type_cmp s t (second_equal (slice_cmp nat_cmp a b) (type_cmp s t) equal) in
    cc
same_from_nameless_cmp (free a s) (free b t) equal =
    let name : a ≡ b = exact_bytes a b (first_equal (slice_cmp nat_cmp a b) (type_cmp s t) equal) in
    let ty : s ≡ t = same_from_type_cmp s t (second_equal (slice_cmp nat_cmp a b) (type_cmp s t) equal) in
    cc
same_from_nameless_cmp (bound i) (bound j) equal = ap bound (exact_unsigned i j equal)
same_from_nameless_cmp (app f a) (app g b) equal =
    let function : f ≡ g = same_from_nameless_cmp f g (first_equal (nameless_cmp f g) (nameless_cmp a b) equal) in
    let argument : a ≡ b = same_from_nameless_cmp a b (second_equal (nameless_cmp f g) (nameless_cmp a b) equal) in
    cc
same_from_nameless_cmp (lam s p) (lam t q) equal =
    let binder : s ≡ t = same_from_type_cmp s t (first_equal (type_cmp s t) (nameless_cmp p q) equal) in
    let body : p ≡ q = same_from_nameless_cmp p q (second_equal (type_cmp s t) (nameless_cmp p q) equal) in
    cc
same_from_nameless_cmp _ _ equal = cc

-- the test for `Equal` decides whether two terms are the same
pub nameless_same : (s t : Nameless) (passed : Bool) → passed ≡ is_eq (nameless_cmp s t) → IsTrue passed ↔ (s ≡ t)
nameless_same s t passed is = (
  λ yes. same_from_nameless_cmp s t ((Equal-is (nameless_cmp s t)).0 (sym is ∙ yes)),
  λ same. is ∙ (Equal-is (nameless_cmp s t)).1 (rw same (nameless_cmp-self t)),
)
