-- The carriers of types, and the models that instances give.
use Rattle.std.proofs.Common.{◌≡◌, List, [], ◌∷◌, ◌++◌, map, ℕ, refl, sym, ◌∙◌, ap, subst, inl, inr, Option, Some, None}
use Rattle.hol_model.specs.Terms.HolType.{HolType, type_variable, bool_type, function_type, declared_type, TypeInstance, instantiate_type, OccursInType, part_at}
use Rattle.hol_model.specs.Logic.Derivable.{IsMember}
use Rattle.hol_model.specs.Logic.Theory.{Theory, definition, declaration_of_type, declaration_of_constant, IsLegal}
use Rattle.hol_model.specs.Models.Values.{Value, values_of, table}
use Rattle.hol_model.specs.Models.Tables.{first_of, each_row, each_before, tabulate}
use Rattle.hol_model.specs.Models.Models.{Model, carrier, carrier_over, part_carrier, instance_model}
use Rattle.hol_model.specs.Models.Holds.{IsModel, HasConstants, IsCarrier, IsDistinct}
use Rattle.hol_model.proofs.Terms.Instances.{part_at-instance}
use Rattle.hol_model.proofs.Terms.Membership.{of_append, of_map}
use Rattle.hol_sound.proofs.Tables.{tabulate-member, of_each_before}

pub first_of-member : (x : Value) (xs : List Value) → IsMember x xs → IsMember (first_of xs) xs
first_of-member x [] m = absurd m
first_of-member x (y ∷ xs) m = inl refl

-- where the type variables of a type have the same values, so has the type
pub carrier_over-alike : (k l d : List ℕ → List Value) (a : HolType) → ((v : List ℕ) → OccursInType v a → k v ≡ l v) → carrier_over k d a ≡ carrier_over l d a
carrier_over-alike k l d (type_variable v) h = h v refl
carrier_over-alike k l d bool_type h = refl
carrier_over-alike k l d (function_type a b) h = cc (carrier_over-alike k l d a (λ v o. h v (inl o)), carrier_over-alike k l d b (λ v o. h v (inr o)))
carrier_over-alike k l d (declared_type n) h = refl

-- replacing type variables is a change of carriers
pub carrier_over-instantiate : (tau : TypeInstance) (k d : List ℕ → List Value) (a : HolType)
    → carrier_over k d (instantiate_type tau a) ≡ carrier_over (λ v. carrier_over k d (tau v)) d a
carrier_over-instantiate tau k d (type_variable v) = refl
carrier_over-instantiate tau k d bool_type = refl
carrier_over-instantiate tau k d (function_type a b) = cc (carrier_over-instantiate tau k d a, carrier_over-instantiate tau k d b)
carrier_over-instantiate tau k d (declared_type n) = refl

-- the values of a generic type in the model that an instance gives are those of the instance
pub carrier-instance : (m : Model) (generic : HolType) (tau : TypeInstance)
    → carrier (instance_model generic (instantiate_type tau generic) m) generic ≡ carrier m (instantiate_type tau generic)
carrier-instance m generic tau =
    carrier_over-alike (λ v. part_carrier m (part_at generic (instantiate_type tau generic) v)) (λ v. carrier m (tau v)) m.declared_types generic
    (λ v o. ap (part_carrier m) (part_at-instance generic tau v o))
    ∙ sym (carrier_over-instantiate tau m.type_variables m.declared_types generic)

-- a type without type variables has the values of its instances
pub carrier-fixed : (m : Model) (tau : TypeInstance) (a : HolType) → ((v : List ℕ) → ¬ (OccursInType v a)) → carrier m (instantiate_type tau a) ≡ carrier m a
carrier-fixed m tau a h =
    carrier_over-instantiate tau m.type_variables m.declared_types a
    ∙ carrier_over-alike (λ v. carrier m (tau v)) m.type_variables m.declared_types a (λ v o. absurd (h v o))

-- carriers are inhabited by distinct values

pub each_row-inhabited : (arguments values : List Value) (x : Value) → IsMember x values → IsMember (tabulate arguments (λ a. x)) (map table (each_row arguments values))
each_row-inhabited arguments values x m = tabulate-member arguments values (λ a. x) (λ a k. m)

IsDistinct-append : {A : Type 0} (xs ys : List A) → IsDistinct xs → IsDistinct ys → ((x : A) → IsMember x xs → ¬ (IsMember x ys)) → IsDistinct (xs ++ ys)
IsDistinct-append [] ys d e h = e
IsDistinct-append (x ∷ xs) ys d e h =
    ((λ m. elim (of_append x xs ys m) [ inl k ↦ d.0 k | inr k ↦ h x (inl refl) k ]), IsDistinct-append xs ys d.1 e (λ y m k. h y (inr m) k))

IsDistinct-map : {A B : Type 0} (f : A → B) (xs : List A) → ((x y : A) → f x ≡ f y → x ≡ y) → IsDistinct xs → IsDistinct (map f xs)
IsDistinct-map f [] one d = tt
IsDistinct-map {A} f (x ∷ xs) one d =
    ((λ m. let r = of_map f (f x) xs m in d.0 (subst (λ (y : A). IsMember y xs) (sym (one x r.0 r.2)) r.1)), IsDistinct-map f xs one d.1)

IsDistinct-each_before : (vs : List Value) (ls : List (List Value)) → IsDistinct vs → IsDistinct ls → IsDistinct (each_before vs ls)
IsDistinct-each_before [] ls d e = tt
IsDistinct-each_before (v ∷ vs) ls d e =
    IsDistinct-append (map (λ r. v ∷ r) ls) (each_before vs ls) (IsDistinct-map (λ r. v ∷ r) ls (λ r q p. cc) e) (IsDistinct-each_before vs ls d.1 e)
    (λ row m k.
    let r = of_map (λ r. v ∷ r) row ls m in
    let b = of_each_before row vs ls k in
    let same : v ≡ b.first = cc (r.2, b.is) in
    d.0 (subst (λ (u : Value). IsMember u vs) (sym same) b.is_value))

pub IsDistinct-each_row : (arguments values : List Value) → IsDistinct values → IsDistinct (each_row arguments values)
IsDistinct-each_row [] values d = ((λ m. m), tt)
IsDistinct-each_row (a ∷ arguments) values d = IsDistinct-each_before values (each_row arguments values) d (IsDistinct-each_row arguments values d)

values_of-one : (xs ys : List Value) → values_of xs ≡ values_of ys → xs ≡ ys
values_of-one [] [] e = refl
values_of-one [] (y ∷ ys) e = cc
values_of-one (x ∷ xs) [] e = cc
values_of-one (x ∷ xs) (y ∷ ys) e = let t : values_of xs ≡ values_of ys = cc in cc (values_of-one xs ys t)

pub table-one : (xs ys : List Value) → table xs ≡ table ys → xs ≡ ys
table-one xs ys e = values_of-one xs ys cc

pub carrier_over-IsCarrier : (k d : List ℕ → List Value) → ((v : List ℕ) → IsCarrier (k v)) → ((n : List ℕ) → IsCarrier (d n)) → (a : HolType)
    → IsCarrier (carrier_over k d a)
carrier_over-IsCarrier k d hk hd (type_variable v) = hk v
carrier_over-IsCarrier k d hk hd bool_type = record { inhabited = inl refl; distinct = ((λ m. elim m [ inl e ↦ cc | inr h ↦ h ]), ((λ m. m), tt)) }
carrier_over-IsCarrier k d hk hd (function_type a b) =
    let ca = carrier_over-IsCarrier k d hk hd a in
    let cb = carrier_over-IsCarrier k d hk hd b in
    record {
      inhabited = first_of-member _ _ (each_row-inhabited (carrier_over k d a) (carrier_over k d b) _ cb.inhabited);
      distinct = IsDistinct-map table _ table-one (IsDistinct-each_row (carrier_over k d a) (carrier_over k d b) cb.distinct);
    }
carrier_over-IsCarrier k d hk hd (declared_type n) = hd n

pub carrier-IsCarrier : (theory : Theory) (m : Model) → IsModel theory m → (a : HolType) → IsCarrier (carrier m a)
carrier-IsCarrier theory m h a = carrier_over-IsCarrier m.type_variables m.declared_types h.variables h.declared a

-- an instance's model is a model

pub HasConstants-alike : (theory : Theory) → IsLegal theory → (m l : Model) → m.declared_types ≡ l.declared_types → m.declared_constants ≡ l.declared_constants
    → HasConstants theory m → HasConstants theory l
HasConstants-alike [] legal m l t c h = tt
HasConstants-alike (definition n a body ∷ rest) legal m l t c h = HasConstants-alike rest legal.1 m l t c h
HasConstants-alike (declaration_of_type n ∷ rest) legal m l t c h = HasConstants-alike rest legal.1 m l t c h
HasConstants-alike (declaration_of_constant n a ∷ rest) legal m l t c h =
    let same : carrier m a ≡ carrier l a =
    carrier_over-alike m.type_variables l.type_variables m.declared_types a (λ v o. absurd (legal.0.fixed v o))
    ∙ ap (λ d. carrier_over l.type_variables d a) t in (
      subst (λ (x : Value). IsMember x (carrier l a)) (ap (λ f. f n) c) (subst (λ (xs : List Value). IsMember (m.declared_constants n) xs) same h.0),
      HasConstants-alike rest legal.1 m l t c h.1,
    )

part_carrier-IsCarrier : (theory : Theory) (m : Model) → IsModel theory m → (o : Option HolType) → IsCarrier (part_carrier m o)
part_carrier-IsCarrier theory m h None = record { inhabited = inl refl; distinct = ((λ m. m), tt) }
part_carrier-IsCarrier theory m h (Some a) = carrier-IsCarrier theory m h a

pub instance_model-IsModel : (theory : Theory) → IsLegal theory → (generic ty : HolType) (m : Model) → IsModel theory m → IsModel theory (instance_model generic ty m)
instance_model-IsModel theory legal generic ty m h =
    let variables : (v : List ℕ) → IsCarrier (part_carrier m (part_at generic ty v)) = λ v. part_carrier-IsCarrier theory m h (part_at generic ty v) in
    record {
      variables = variables;
      declared = h.declared;
      members = λ n a. (carrier_over-IsCarrier (λ v. part_carrier m (part_at generic ty v)) m.declared_types variables h.declared a).inhabited;
      constants = HasConstants-alike theory legal m (instance_model generic ty m) refl refl h.constants;
    }
