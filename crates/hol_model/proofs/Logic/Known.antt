-- What is derivable over a legal theory is known and of type `bool`, and so are its hypotheses.
use Rattle.std.proofs.Common.{◌≡◌, ◌⊎◌, ℕ, zero, suc, List, [], ◌∷◌, ◌++◌, Bool, true, false, not, map, refl, sym, ◌∙◌, ap, subst, inl, inr, Some, if◌then◌else◌}
use Rattle.std.specs.Prelude.{slice_get}
use Rattle.std.proofs.lemmas.Slice.Eq.{bytes_eq-Decides}
use Rattle.hol_model.specs.Terms.HolType.{HolType, type_variable, bool_type, function_type, declared_type, TypeInstance, instantiate_type}
use Rattle.hol_model.specs.Terms.NamedTerm.{same_variable}
use Rattle.hol_model.specs.Terms.Nameless.{Nameless, free, const, bound, app, lam, HasType, same_term}
use Rattle.hol_model.specs.Terms.Substitution.{close_at, close, put, TermInstance, instantiate}
use Rattle.hol_model.specs.Logic.Theory.{Theory, Entry, definition, IsLegal, HasKnownParts, IsKnown, IsKnownType, IsKnownConstant, equality_name, choice_name, equality_type, choice_type, type_a}
use Rattle.hol_model.specs.Logic.Theory.{type_b, generic_type}
use Rattle.hol_model.specs.Logic.Derivable.{Derivable, IsMember, MayReplace, AreKnown, nameless_equation, without, eta_variable, select_hypothesis, select_conclusion}
use Rattle.hol_model.specs.Logic.Derivable.Derivable.{same_hypotheses, refl_rule, trans_rule, mk_comb_rule, abs_rule, beta_rule, assume_rule, eq_mp_rule, deduct_antisym_rule, inst_rule}
use Rattle.hol_model.specs.Logic.Derivable.Derivable.{inst_type_rule, eta_rule, select_rule, definition_rule}
use Rattle.hol_model.proofs.Logic.Later.{head_is_new, rest_is_legal, generic_type-later, HasKnownParts-later}
pub use Rattle.hol_model.proofs.Terms.Membership.{of_append, of_map}
use Rattle.hol_model.proofs.Terms.Typing.{close_at-typed, put-typed, instantiate-typed, instantiate_type-twice, instantiate_type-same}

-- known types

abbrev KnownBinders : Theory → List HolType → Type 0
KnownBinders theory [] = Unit {0}
KnownBinders theory (a ∷ binders) = IsKnownType theory a × KnownBinders theory binders

slice_get-known : (theory : Theory) (binders : List HolType) (index : ℕ) (ty : HolType) → KnownBinders theory binders → slice_get binders index ≡ Some ty → IsKnownType theory ty
slice_get-known theory [] index ty h e = cc
slice_get-known theory (a ∷ binders) zero ty h e = let same : a ≡ ty = cc in subst (λ (c : HolType). IsKnownType theory c) same h.0
slice_get-known theory (a ∷ binders) (suc index) ty h e = slice_get-known theory binders index ty h.1 e

type-known : (theory : Theory) (t : Nameless) (binders : List HolType) (ty : HolType) → KnownBinders theory binders → HasType binders t ty → HasKnownParts theory t → IsKnownType theory ty
type-known theory (free n a) binders ty b h p = subst (λ (c : HolType). IsKnownType theory c) h p
type-known theory (const n a) binders ty b h p = subst (λ (c : HolType). IsKnownType theory c) h p.0
type-known theory (bound i) binders ty b h p = slice_get-known theory binders i ty b h
type-known theory (app f x) binders ty b h p = (type-known theory f binders (function_type h.0 ty) b h.1 p.0).1
type-known theory (lam a t) binders ty b h p = subst (λ (c : HolType). IsKnownType theory c) h.2 (p.0, type-known theory t (a ∷ binders) h.0 (p.0, b) h.1 p.1)

pub IsKnown-type : (theory : Theory) (t : Nameless) (a : HolType) → IsKnown theory t a → IsKnownType theory a
IsKnown-type theory t a k = type-known theory t [] a tt k.typed k.parts

-- equations

pub generic_type-logical : (theory : Theory) → IsLegal theory → (name : List ℕ) (generic : HolType) → generic_type [] name ≡ Some generic → generic_type theory name ≡ Some generic
generic_type-logical [] legal name generic h = h
generic_type-logical (entry ∷ rest) legal name generic h = generic_type-later entry rest (head_is_new entry rest legal) name generic
    (generic_type-logical rest (rest_is_legal entry rest legal) name generic h)

pub equality-known : (theory : Theory) → IsLegal theory → (a : HolType) → IsKnownConstant theory equality_name (equality_type a)
equality-known theory legal a = record {
  generic = equality_type type_a;
  is_generic = generic_type-logical theory legal equality_name (equality_type type_a) refl;
  is_instance = record { instance = λ v. a; is_instance = refl };
}

pub choice-known : (theory : Theory) → IsLegal theory → (a : HolType) → IsKnownConstant theory choice_name (choice_type a)
choice-known theory legal a = record {
  generic = choice_type type_a;
  is_generic = generic_type-logical theory legal choice_name (choice_type type_a) refl;
  is_instance = record { instance = λ v. a; is_instance = refl };
}

pub equation-known : (theory : Theory) → IsLegal theory → (a : HolType) (s t : Nameless) → IsKnown theory s a → IsKnown theory t a → IsKnown theory (nameless_equation a s t) bool_type
equation-known theory legal a s t h k =
    let known = IsKnown-type theory s a h in
    record {
      typed = (a, (a, refl, h.typed), k.typed);
      parts = (((((known, (known, tt)), equality-known theory legal a), h.parts)), k.parts);
    }

-- the sides of a known equation
pub record HasSides (theory : Theory) (a : HolType) (s t : Nameless) : Type 0 where
  pub left : IsKnown theory s a
  pub right : IsKnown theory t a

pub equation-sides : (theory : Theory) (a : HolType) (s t : Nameless) → IsKnown theory (nameless_equation a s t) bool_type → HasSides theory a s t
equation-sides theory a s t k =
    let e = k.typed.1.1 in
    let one : k.typed.1.0 ≡ a = cc in
    let two : k.typed.0 ≡ a = cc in
    record {
      left = record { typed = subst (λ (c : HolType). HasType [] s c) one k.typed.1.2; parts = k.parts.0.1 };
      right = record { typed = subst (λ (c : HolType). HasType [] t c) two k.typed.2; parts = k.parts.1 };
    }

-- combinations and abstractions

pub app-known : (theory : Theory) (a b : HolType) (f x : Nameless) → IsKnown theory f (function_type a b) → IsKnown theory x a → IsKnown theory (app f x) b
app-known theory a b f x h k = record { typed = (a, h.typed, k.typed); parts = (h.parts, k.parts) }

close_at-parts : (theory : Theory) (passed : ℕ) (n : List ℕ) (a : HolType) (t : Nameless) → HasKnownParts theory t → HasKnownParts theory (close_at passed n a t)
close_at-parts theory passed n a (free m b) p = go (same_variable n a m b)
  where
    go : (test : Bool) → HasKnownParts theory (if test then bound passed else free m b)
    go true = tt
    go false = p
close_at-parts theory passed n a (const m b) p = p
close_at-parts theory passed n a (bound i) p = tt
close_at-parts theory passed n a (app f x) p = (close_at-parts theory passed n a f p.0, close_at-parts theory passed n a x p.1)
close_at-parts theory passed n a (lam b t) p = (p.0, close_at-parts theory (suc passed) n a t p.1)

pub close-known : (theory : Theory) (n : List ℕ) (a b : HolType) (t : Nameless) → IsKnownType theory a → IsKnown theory t b → IsKnown theory (lam a (close n a t)) (function_type a b)
close-known theory n a b t h k = record { typed = (b, close_at-typed n a t [] b k.typed, refl); parts = (h, close_at-parts theory 0 n a t k.parts) }

-- a defined constant

pub record IsDefined (theory : Theory) (n : List ℕ) (a : HolType) (body : Nameless) : Type 0 where
  pub is_generic : generic_type theory n ≡ Some a
  pub known : IsKnown theory body a

definition_at_head : (n : List ℕ) (a : HolType) (body : Nameless) (rest : Theory) → IsLegal (definition n a body ∷ rest) → IsDefined (definition n a body ∷ rest) n a body
definition_at_head n a body rest legal = record {
  is_generic = rw ((bytes_eq-Decides n n).1 refl) refl;
  known = record { typed = legal.0.known.typed; parts = HasKnownParts-later (definition n a body) rest legal.0.is_new body legal.0.known.parts };
}

definition_later : (entry : Entry) (rest : Theory) → IsLegal (entry ∷ rest) → (n : List ℕ) (a : HolType) (body : Nameless) → IsDefined rest n a body → IsDefined (entry ∷ rest) n a body
definition_later entry rest legal n a body h = record {
  is_generic = generic_type-later entry rest (head_is_new entry rest legal) n a h.is_generic;
  known = record { typed = h.known.typed; parts = HasKnownParts-later entry rest (head_is_new entry rest legal) body h.known.parts };
}

pub definition-IsDefined : (theory : Theory) → IsLegal theory → (n : List ℕ) (a : HolType) (body : Nameless) → IsMember (definition n a body) theory → IsDefined theory n a body
definition-IsDefined [] legal n a body h = absurd h
definition-IsDefined (entry ∷ rest) legal n a body (inl e) =
    subst (λ (x : Entry). IsLegal (x ∷ rest) → IsDefined (x ∷ rest) n a body) e (definition_at_head n a body rest) legal
definition-IsDefined (entry ∷ rest) legal n a body (inr h) =
    definition_later entry rest legal n a body (definition-IsDefined rest (rest_is_legal entry rest legal) n a body h)

pub definition-known : (theory : Theory) → IsLegal theory → (n : List ℕ) (a : HolType) (body : Nameless) → IsMember (definition n a body) theory → IsKnown theory (const n a) a
definition-known theory legal n a body m =
    let f = definition-IsDefined theory legal n a body m in
    record {
      typed = refl;
      parts = (IsKnown-type theory body a f.known, record { generic = a; is_generic = f.is_generic; is_instance = record { instance = type_variable; is_instance = sym (instantiate_type-same a) } });
    }

-- instances

put-parts : (theory : Theory) (theta : TermInstance) → MayReplace theory theta → (t : Nameless) → HasKnownParts theory t → HasKnownParts theory (put theta t)
put-parts theory theta may (free n a) p = elim (may n a) [ inl k ↦ k.parts | inr e ↦ subst (λ (t : Nameless). HasKnownParts theory t) (sym e) p ]
put-parts theory theta may (const n a) p = p
put-parts theory theta may (bound i) p = tt
put-parts theory theta may (app f x) p = (put-parts theory theta may f p.0, put-parts theory theta may x p.1)
put-parts theory theta may (lam a b) p = (p.0, put-parts theory theta may b p.1)

pub MayReplace-typed : (theory : Theory) (theta : TermInstance) → MayReplace theory theta → (n : List ℕ) (a : HolType) → HasType [] (theta n a) a
MayReplace-typed theory theta may n a = elim (may n a) [ inl k ↦ k.typed | inr e ↦ subst (λ (t : Nameless). HasType [] t a) (sym e) refl ]

pub put-known : (theory : Theory) (theta : TermInstance) → MayReplace theory theta → (t : Nameless) (a : HolType) → IsKnown theory t a → IsKnown theory (put theta t) a
put-known theory theta may t a k = record { typed = put-typed theta (MayReplace-typed theory theta may) t [] a k.typed; parts = put-parts theory theta may t k.parts }

instantiate_type-known : (theory : Theory) (tau : TypeInstance) → ((v : List ℕ) → IsKnownType theory (tau v)) → (a : HolType) → IsKnownType theory a → IsKnownType theory (instantiate_type tau a)
instantiate_type-known theory tau h (type_variable v) k = h v
instantiate_type-known theory tau h bool_type k = tt
instantiate_type-known theory tau h (function_type a b) k = (instantiate_type-known theory tau h a k.0, instantiate_type-known theory tau h b k.1)
instantiate_type-known theory tau h (declared_type d) k = k

instantiate-parts : (theory : Theory) (tau : TypeInstance) → ((v : List ℕ) → IsKnownType theory (tau v)) → (t : Nameless) → HasKnownParts theory t → HasKnownParts theory (instantiate tau t)
instantiate-parts theory tau h (free n a) p = instantiate_type-known theory tau h a p
instantiate-parts theory tau h (const n a) p = (
  instantiate_type-known theory tau h a p.0,
  record {
    generic = p.1.generic;
    is_generic = p.1.is_generic;
    is_instance = record {
      instance = λ v. instantiate_type tau (p.1.is_instance.instance v);
      is_instance = ap (instantiate_type tau) p.1.is_instance.is_instance ∙ instantiate_type-twice tau p.1.is_instance.instance p.1.generic;
    };
  },
)
instantiate-parts theory tau h (bound i) p = tt
instantiate-parts theory tau h (app f x) p = (instantiate-parts theory tau h f p.0, instantiate-parts theory tau h x p.1)
instantiate-parts theory tau h (lam a b) p = (instantiate_type-known theory tau h a p.0, instantiate-parts theory tau h b p.1)

pub instantiate-known : (theory : Theory) (tau : TypeInstance) → ((v : List ℕ) → IsKnownType theory (tau v)) → (t : Nameless) (a : HolType) → IsKnown theory t a →
    IsKnown theory (instantiate tau t) (instantiate_type tau a)
instantiate-known theory tau h t a k = record { typed = instantiate-typed tau t [] a k.typed; parts = instantiate-parts theory tau h t k.parts }

-- hypotheses

pub AreKnown-append : (theory : Theory) (h k : List Nameless) → AreKnown theory h → AreKnown theory k → AreKnown theory (h ++ k)
AreKnown-append theory h k p q t m = elim (of_append t h k m) [ inl l ↦ p t l | inr r ↦ q t r ]

pub AreKnown-map : (theory : Theory) (f : Nameless → Nameless) (h : List Nameless) → AreKnown theory h → ((t : Nameless) → IsKnown theory t bool_type → IsKnown theory (f t) bool_type) →
    AreKnown theory (map f h)
AreKnown-map theory f h p q t m = let r = of_map f t h m in subst (λ (u : Nameless). IsKnown theory u bool_type) (sym r.2) (q r.0 (p r.0 r.1))

pub of_without : (t q : Nameless) (h : List Nameless) → IsMember t (without q h) → IsMember t h
of_without t q [] m = absurd m
of_without t q (s ∷ rest) m = go (same_term s q) m (of_without t q rest)
  where
    go : (test : Bool) → IsMember t (if not test then s ∷ without q rest else without q rest) → (IsMember t (without q rest) → IsMember t rest) → (t ≡ s) ⊎ IsMember t rest
    go true l deeper = inr (deeper l)
    go false (inl l) deeper = inl l
    go false (inr l) deeper = inr (deeper l)

pub AreKnown-none : (theory : Theory) → AreKnown theory []
AreKnown-none theory t m = absurd m

pub AreKnown-one : (theory : Theory) (p : Nameless) → IsKnown theory p bool_type → AreKnown theory (p ∷ [])
AreKnown-one theory p known t (inl e) = subst (λ (u : Nameless). IsKnown theory u bool_type) (sym e) known
AreKnown-one theory p known t (inr m) = absurd m

-- the axioms

pub eta_abstraction-known : {theory : Theory} → IsKnown theory (lam type_a (app eta_variable (bound 0))) (function_type type_a type_b)
eta_abstraction-known = record { typed = (type_b, (type_a, refl, refl), refl); parts = (tt, ((tt, tt), tt)) }

pub eta_variable-known : {theory : Theory} → IsKnown theory eta_variable (function_type type_a type_b)
eta_variable-known = record { typed = refl; parts = (tt, tt) }

pub select_hypothesis-known : {theory : Theory} → IsKnown theory select_hypothesis bool_type
select_hypothesis-known = record { typed = (type_a, refl, refl); parts = ((tt, tt), tt) }

pub select_conclusion-known : (theory : Theory) → IsLegal theory → IsKnown theory select_conclusion bool_type
select_conclusion-known theory legal = record {
  typed = (type_a, refl, (function_type type_a bool_type, refl, refl));
  parts =
      ((tt, tt), (((((tt, tt), tt), choice-known theory legal type_a)), (tt, tt)));
}

-- a sequent of known terms of type `bool`
pub record IsKnownSequent (theory : Theory) (h : List Nameless) (c : Nameless) : Type 0 where
  pub hypotheses : AreKnown theory h
  pub conclusion : IsKnown theory c bool_type

-- by induction over the derivation
pub Derivable-known : (theory : Theory) → IsLegal theory → {h : List Nameless} {c : Nameless} → Derivable theory h c → IsKnownSequent theory h c
Derivable-known theory legal (same_hypotheses d s) =
    let k = Derivable-known theory legal d in record { hypotheses = λ t m. k.hypotheses t (s.back t m); conclusion = k.conclusion }
Derivable-known theory legal (refl_rule t a k) = record { hypotheses = AreKnown-none theory; conclusion = equation-known theory legal a t t k k }
Derivable-known theory legal (trans_rule {h = h} {k = k} a x y z d e) =
    let p = Derivable-known theory legal d in
    let q = Derivable-known theory legal e in
    record {
      hypotheses = AreKnown-append theory h k p.hypotheses q.hypotheses;
      conclusion = equation-known theory legal a x z (equation-sides theory a x y p.conclusion).left (equation-sides theory a y z q.conclusion).right;
    }
Derivable-known theory legal (mk_comb_rule {h = h} {k = k} a b f g x y d e) =
    let p = Derivable-known theory legal d in
    let q = Derivable-known theory legal e in
    let functions = equation-sides theory (function_type a b) f g p.conclusion in
    let arguments = equation-sides theory a x y q.conclusion in
    record {
      hypotheses = AreKnown-append theory h k p.hypotheses q.hypotheses;
      conclusion = equation-known theory legal b (app f x) (app g y) (app-known theory a b f x functions.left arguments.left) (app-known theory a b g y functions.right arguments.right);
    }
Derivable-known theory legal (abs_rule {h = h} n a b s t known fresh d) =
    let p = Derivable-known theory legal d in
    let sides = equation-sides theory b s t p.conclusion in
    record {
      hypotheses = p.hypotheses;
      conclusion = equation-known theory legal (function_type a b) (lam a (close n a s)) (lam a (close n a t)) (close-known theory n a b s known sides.left)
          (close-known theory n a b t known sides.right);
    }
Derivable-known theory legal (beta_rule n a b t known k) =
    let left = app-known theory a b (lam a (close n a t)) (free n a) (close-known theory n a b t known k) (record { typed = refl; parts = known }) in
    record { hypotheses = AreKnown-none theory; conclusion = equation-known theory legal b (app (lam a (close n a t)) (free n a)) t left k }
Derivable-known theory legal (assume_rule p k) = record { hypotheses = AreKnown-one theory p k; conclusion = k }
Derivable-known theory legal (eq_mp_rule {h = h} {k = k} p q d e) =
    let first = Derivable-known theory legal d in
    record {
      hypotheses = AreKnown-append theory h k first.hypotheses (Derivable-known theory legal e).hypotheses;
      conclusion = (equation-sides theory bool_type p q first.conclusion).right;
    }
Derivable-known theory legal (deduct_antisym_rule {h = h} {k = k} p q d e) =
    let first = Derivable-known theory legal d in
    let second = Derivable-known theory legal e in
    record {
      hypotheses = AreKnown-append theory (without q h) (without p k) (λ t m. first.hypotheses t (of_without t q h m)) (λ t m. second.hypotheses t (of_without t p k m));
      conclusion = equation-known theory legal bool_type p q first.conclusion second.conclusion;
    }
Derivable-known theory legal (inst_rule {h = h} {c = c} theta may d) =
    let k = Derivable-known theory legal d in
    record {
      hypotheses = AreKnown-map theory (put theta) h k.hypotheses (λ t known. put-known theory theta may t bool_type known);
      conclusion = put-known theory theta may c bool_type k.conclusion;
    }
Derivable-known theory legal (inst_type_rule {h = h} {c = c} tau known d) =
    let k = Derivable-known theory legal d in
    record {
      hypotheses = AreKnown-map theory (instantiate tau) h k.hypotheses (λ t p. instantiate-known theory tau known t bool_type p);
      conclusion = instantiate-known theory tau known c bool_type k.conclusion;
    }
Derivable-known theory legal eta_rule = record {
  hypotheses = AreKnown-none theory;
  conclusion = equation-known theory legal (function_type type_a type_b) _ eta_variable eta_abstraction-known eta_variable-known;
}
Derivable-known theory legal select_rule = record {
  hypotheses = AreKnown-one theory select_hypothesis select_hypothesis-known;
  conclusion = select_conclusion-known theory legal;
}
Derivable-known theory legal (definition_rule n a body m) = record {
  hypotheses = AreKnown-none theory;
  conclusion = equation-known theory legal a (const n a) body (definition-known theory legal n a body m) (definition-IsDefined theory legal n a body m).known;
}
