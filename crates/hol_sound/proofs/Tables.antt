-- Members of lists, tables and their values.
use Rattle.std.proofs.Common.{◌≡◌, ◌⊎◌, ◌≢◌, List, [], ◌∷◌, map, Bool, true, false, refl, sym, ◌∙◌, ap, subst, inl, inr, if◌then◌else◌}
use Rattle.std.specs.Bool.{Decides}
use Rattle.hol_model.specs.Logic.Derivable.{IsMember}
use Rattle.hol_model.specs.Models.Values.{Value, Values, one_more, same_value, values_of, table}
use Rattle.hol_model.specs.Models.Tables.{value_beside, look_up, tabulate, each_before, each_row}
use Rattle.hol_model.specs.Models.Holds.{IsDistinct}
use Rattle.hol_model.proofs.Logic.Conditions.{if_same, if_other}
use Rattle.hol_model.proofs.Terms.SameValue.{same_value-Decides}
use Rattle.hol_model.proofs.Terms.Membership.{IsMember-append_left, IsMember-append_right, IsMember-map, of_append, of_map}

-- a map by two functions that agree on the list
pub map-alike : {A B : Type 0} (f g : A → B) (xs : List A) → ((x : A) → IsMember x xs → f x ≡ g x) → map f xs ≡ map g xs
map-alike f g [] h = refl
map-alike f g (x ∷ xs) h = cc (h x (inl refl), map-alike f g xs (λ y m. h y (inr m)))

-- a table's value at one of its arguments

beside_step : (f : Value → Value) (a x : Value) (arguments : List Value) (v : Value) → (test : Bool) → Decides test (x ≡ a) → (x ≡ a) ⊎ IsMember x arguments
    → (IsMember x arguments → v ≡ f x)
    → (if test then f a else v) ≡ f x
beside_step f a x arguments v true d m h = ap f (sym (d.0 refl))
beside_step f a x arguments v false d (inl e) h = let wrong : false ≡ true = d.1 e in cc
beside_step f a x arguments v false d (inr m) h = h m

pub value_beside-map : (arguments : List Value) (f : Value → Value) (x : Value) → IsMember x arguments → value_beside arguments (values_of (map f arguments)) x ≡ f x
value_beside-map [] f x m = absurd m
value_beside-map (a ∷ arguments) f x m = beside_step f a x arguments _ (same_value x a) (same_value-Decides x a) m (λ h. value_beside-map arguments f x h)

pub look_up-tabulate : (arguments : List Value) (f : Value → Value) (x : Value) → IsMember x arguments → look_up arguments (tabulate arguments f) x ≡ f x
look_up-tabulate arguments f x m = value_beside-map arguments f x m

-- the tables of a function type

pub IsMember-each_before : (v : Value) (l : List Value) (vs : List Value) (ls : List (List Value)) → IsMember v vs → IsMember l ls → IsMember (v ∷ l) (each_before vs ls)
IsMember-each_before v l [] ls m k = absurd m
IsMember-each_before v l (w ∷ vs) ls (inl e) k =
    IsMember-append_left (v ∷ l) _ (each_before vs ls) (subst (λ u. IsMember (v ∷ l) (map (λ r. u ∷ r) ls)) e (IsMember-map (λ r. v ∷ r) l ls k))
IsMember-each_before v l (w ∷ vs) ls (inr m) k = IsMember-append_right (v ∷ l) (map (λ r. w ∷ r) ls) _ (IsMember-each_before v l vs ls m k)

-- a row that begins with one of the values, and goes on with one of the lists
pub record Begins (row : List Value) (values : List Value) (lists : List (List Value)) : Type 0 where
  pub first : Value
  pub rest : List Value
  pub is : row ≡ first ∷ rest
  pub is_value : IsMember first values
  pub is_list : IsMember rest lists

pub of_each_before : (row : List Value) (vs : List Value) (ls : List (List Value)) → IsMember row (each_before vs ls) → Begins row vs ls
of_each_before row [] ls m = absurd m
of_each_before row (v ∷ vs) ls m = elim (of_append row (map (λ r. v ∷ r) ls) (each_before vs ls) m) [
  | inl h ↦ (let r = of_map (λ r. v ∷ r) row ls h in record { first = v; rest = r.0; is = r.2; is_value = inl refl; is_list = r.1 })
  | inr h ↦ (let r = of_each_before row vs ls h in record { first = r.first; rest = r.rest; is = r.is; is_value = inr r.is_value; is_list = r.is_list })
]

pub IsMember-each_row : (arguments values : List Value) (f : Value → Value) → ((x : Value) → IsMember x arguments → IsMember (f x) values)
    → IsMember (map f arguments) (each_row arguments values)
IsMember-each_row [] values f h = inl refl
IsMember-each_row (a ∷ arguments) values f h =
    IsMember-each_before (f a) (map f arguments) values (each_row arguments values) (h a (inl refl))
    (IsMember-each_row arguments values f (λ x m. h x (inr m)))

-- a function's table is one of the tables
pub tabulate-member : (arguments values : List Value) (f : Value → Value) → ((x : Value) → IsMember x arguments → IsMember (f x) values)
    → IsMember (tabulate arguments f) (map table (each_row arguments values))
tabulate-member arguments values f h = IsMember-map table (map f arguments) (each_row arguments values) (IsMember-each_row arguments values f h)

beside_member_step : (a x w v : Value) (arguments values : List Value) → (test : Bool) → Decides test (x ≡ a) → (x ≡ a) ⊎ IsMember x arguments → IsMember w values
    → (IsMember x arguments → IsMember v values)
    → IsMember (if test then w else v) values
beside_member_step a x w v arguments values true d m k h = k
beside_member_step a x w v arguments values false d (inl e) k h = let wrong : false ≡ true = d.1 e in cc
beside_member_step a x w v arguments values false d (inr m) k h = h m

pub value_beside-member : (arguments values row : List Value) (x : Value) → IsMember row (each_row arguments values) → IsMember x arguments
    → IsMember (value_beside arguments (values_of row) x) values
value_beside-member [] values row x r m = absurd m
value_beside-member (a ∷ arguments) values row x r m =
    let b = of_each_before row values (each_row arguments values) r in
    subst (λ l. IsMember (value_beside (a ∷ arguments) (values_of l) x) values) (sym b.is)
    (beside_member_step a x b.first _ arguments values (same_value x a) (same_value-Decides x a) m b.is_value (λ k. value_beside-member arguments values b.rest x b.is_list k))

-- a table's value at one of its arguments is one of the values
pub look_up-member : (arguments values : List Value) (t x : Value) → IsMember t (map table (each_row arguments values)) → IsMember x arguments
    → IsMember (look_up arguments t x) values
look_up-member arguments values t x k m =
    let r = of_map table t (each_row arguments values) k in
    subst (λ u. IsMember (look_up arguments u x) values) (sym r.2) (value_beside-member arguments values r.0 x r.1 m)

-- a table is that of its own look-up

beside_other : (a v x : Value) (arguments : List Value) (vs : Values) → x ≢ a → value_beside (a ∷ arguments) (one_more v vs) x ≡ value_beside arguments vs x
beside_other a v x arguments vs n = if_other (same_value x a) (same_value-Decides x a) v _ n

pub map-value_beside : (arguments values row : List Value) → IsDistinct arguments → IsMember row (each_row arguments values)
    → map (λ x. value_beside arguments (values_of row) x) arguments ≡ row
map-value_beside [] values row d m = elim m [ inl e ↦ sym e | inr h ↦ absurd h ]
map-value_beside (a ∷ arguments) values row d m =
    let b = of_each_before row values (each_row arguments values) m in
    let v = b.first in
    let rest = b.rest in
    let now : value_beside (a ∷ arguments) (values_of (v ∷ rest)) a ≡ v = if_same (same_value a a) (same_value-Decides a a) v _ refl in
    let later : map (λ x. value_beside (a ∷ arguments) (values_of (v ∷ rest)) x) arguments ≡ map (λ x. value_beside arguments (values_of rest) x) arguments =
    map-alike (λ x. value_beside (a ∷ arguments) (values_of (v ∷ rest)) x) (λ x. value_beside arguments (values_of rest) x) arguments
    (λ x k. beside_other a v x arguments (values_of rest) (λ e. d.0 (subst (λ u. IsMember u arguments) e k))) in
    let ih = map-value_beside arguments values rest d.1 b.is_list in
    let all : map (λ x. value_beside (a ∷ arguments) (values_of (v ∷ rest)) x) (a ∷ arguments) ≡ v ∷ rest = cc (now, later ∙ ih) in
    subst (λ l. map (λ x. value_beside (a ∷ arguments) (values_of l) x) (a ∷ arguments) ≡ l) (sym b.is) all

pub tabulate-look_up : (arguments values : List Value) (t : Value) → IsDistinct arguments → IsMember t (map table (each_row arguments values))
    → tabulate arguments (λ x. look_up arguments t x) ≡ t
tabulate-look_up arguments values t d k =
    let r = of_map table t (each_row arguments values) k in
    subst (λ u. tabulate arguments (λ x. look_up arguments u x) ≡ u) (sym r.2) (ap table (map-value_beside arguments values r.0 d r.1))
