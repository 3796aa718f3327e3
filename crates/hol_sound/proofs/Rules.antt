-- Each rule leads from sequents that hold to one that holds.
use Rattle.std.proofs.Common.{◌≡◌, ◌⊎◌, ◌≢◌, ℕ, List, [], ◌∷◌, ◌++◌, map, Bool, true, false, refl, sym, ◌∙◌, ap, subst, inl, inr, if◌then◌else◌}
use Rattle.std.specs.Prelude.{not}
use Rattle.std.specs.Bool.{Decides}
use mathlib.Core.Path.{fun_ext}
use Rattle.hol_model.specs.Terms.HolType.{HolType, bool_type, function_type, TypeInstance}
use Rattle.hol_model.specs.Terms.Nameless.{Nameless, free, const, bound, app, lam, same_term}
use Rattle.hol_model.specs.Terms.NamedTerm.{same_variable}
use Rattle.hol_model.specs.Terms.Substitution.{close, put, TermInstance, instantiate, occurs_free}
use Rattle.hol_model.specs.Logic.Derivable.{IsMember, MayReplace, NotFreeInAny, AreKnown, nameless_equation, without, eta_axiom, eta_variable, select_hypothesis, select_conclusion}
use Rattle.hol_model.specs.Logic.Derivable.{select_predicate, select_variable}
use Rattle.hol_model.specs.Logic.Theory.{Theory, definition, IsLegal, IsKnown, type_a, type_b}
use Rattle.hol_model.specs.Models.Values.{Value, rows, same_value, values_of, truth, falsity}
use Rattle.hol_model.specs.Models.Tables.{look_up, tabulate, truth_of, first_true}
use Rattle.hol_model.specs.Models.Models.{Model, carrier, meaning, constant_meaning, term_meaning}
use Rattle.hol_model.specs.Models.Holds.{IsModel, AllTrue, Holds}
use Rattle.hol_model.proofs.Terms.SameValue.{same_value-Decides}
use Rattle.hol_model.proofs.Tests.{same_name, same_variable-type, same_term-Decides}
use Rattle.hol_model.proofs.Terms.Typing.{nameless_type-is}
use Rattle.hol_model.proofs.Logic.Known.{MayReplace-typed}
use Rattle.hol_model.proofs.Terms.Membership.{IsMember-append_left, IsMember-append_right, IsMember-map}
use Rattle.hol_sound.proofs.Tables.{map-alike, look_up-tabulate, tabulate-look_up}
use Rattle.hol_sound.proofs.Carriers.{carrier-IsCarrier, HasConstants-alike}
use Rattle.hol_sound.proofs.Members.{term_meaning-member}
use Rattle.hol_sound.proofs.Replacing.{look_up-alike, with_free, with_value, values_put, put-meaning, close_at-meaning, meaning-not_free, constant_meaning-with_free}
use Rattle.hol_sound.proofs.Instances.{with_types, with_types-IsModel, instantiate-term_meaning}
use Rattle.hol_sound.proofs.Extensions.{equality_meaning, choice_meaning}
use Rattle.hol_sound.proofs.Definitions.{definition-meaning}

-- an equation is true where its sides mean the same

truth_of-true : (test : Bool) → truth_of test ≡ truth → test ≡ true
truth_of-true true e = refl
truth_of-true false e = cc

equation-meaning : (theory : Theory) → IsLegal theory → (m : Model) → IsModel theory m → (a : HolType) (s t : Nameless) → IsKnown theory s a → IsKnown theory t a
    → term_meaning theory m (nameless_equation a s t) ≡ truth_of (same_value (term_meaning theory m s) (term_meaning theory m t))
equation-meaning theory legal m h a s t p q =
    let x = term_meaning theory m s in
    let y = term_meaning theory m t in
    ap (λ (c : Value). look_up (carrier m a) (look_up (carrier m a) c x) y) (equality_meaning theory legal m a)
    ∙ ap (λ (u : Value). look_up (carrier m a) u y) (look_up-tabulate (carrier m a) (λ x. tabulate (carrier m a) (λ y. truth_of (same_value x y))) x (term_meaning-member theory legal m h s a p))
    ∙ look_up-tabulate (carrier m a) (λ z. truth_of (same_value x z)) y (term_meaning-member theory legal m h t a q)

pub equation-true : (theory : Theory) → IsLegal theory → (m : Model) → IsModel theory m → (a : HolType) (s t : Nameless) → IsKnown theory s a → IsKnown theory t a
    → term_meaning theory m s ≡ term_meaning theory m t → term_meaning theory m (nameless_equation a s t) ≡ truth
equation-true theory legal m h a s t p q e =
    equation-meaning theory legal m h a s t p q ∙ ap truth_of ((same_value-Decides (term_meaning theory m s) (term_meaning theory m t)).1 e)

pub equation-holds : (theory : Theory) → IsLegal theory → (m : Model) → IsModel theory m → (a : HolType) (s t : Nameless) → IsKnown theory s a → IsKnown theory t a
    → term_meaning theory m (nameless_equation a s t) ≡ truth → term_meaning theory m s ≡ term_meaning theory m t
equation-holds theory legal m h a s t p q e =
    (same_value-Decides (term_meaning theory m s) (term_meaning theory m t)).0
    (truth_of-true (same_value (term_meaning theory m s) (term_meaning theory m t)) (sym (equation-meaning theory legal m h a s t p q) ∙ e))

-- hypotheses

AllTrue-left : (theory : Theory) (m : Model) (h k : List Nameless) → AllTrue theory m (h ++ k) → AllTrue theory m h
AllTrue-left theory m h k all t e = all t (IsMember-append_left t h k e)

AllTrue-right : (theory : Theory) (m : Model) (h k : List Nameless) → AllTrue theory m (h ++ k) → AllTrue theory m k
AllTrue-right theory m h k all t e = all t (IsMember-append_right t h k e)

IsMember-without : (t q : Nameless) (h : List Nameless) → IsMember t h → t ≢ q → IsMember t (without q h)
IsMember-without t q [] m n = absurd m
IsMember-without t q (s ∷ rest) m n = go (same_term s q) (same_term-Decides s q) m (λ k. IsMember-without t q rest k n)
  where
    go : (test : Bool) → Decides test (s ≡ q) → (t ≡ s) ⊎ IsMember t rest → (IsMember t rest → IsMember t (without q rest))
        → IsMember t (if not test then s ∷ without q rest else without q rest)
    go true d (inl e) deeper = absurd (n (e ∙ d.0 refl))
    go true d (inr l) deeper = deeper l
    go false d (inl e) deeper = inl e
    go false d (inr l) deeper = inr (deeper l)

-- where the hypotheses without q are true, and q is, all are
AllTrue-without : (theory : Theory) (m : Model) (q : Nameless) (h : List Nameless) → AllTrue theory m (without q h) → term_meaning theory m q ≡ truth → AllTrue theory m h
AllTrue-without theory m q h all e t k = go (same_term t q) (same_term-Decides t q)
  where
    go : (test : Bool) → Decides test (t ≡ q) → term_meaning theory m t ≡ truth
    go true d = ap (term_meaning theory m) (d.0 refl) ∙ e
    go false d = all t (IsMember-without t q h k (λ same. let wrong : false ≡ true = d.1 same in cc))

-- models with other values of free variables

with_value-IsModel : (theory : Theory) → IsLegal theory → (m : Model) → IsModel theory m → (n : List ℕ) (a : HolType) (w : Value) → IsMember w (carrier m a)
    → IsModel theory (with_value m n a w)
with_value-IsModel theory legal m h n a w k = record {
  variables = h.variables;
  declared = h.declared;
  members = λ l b. go l b (same_variable n a l b) refl;
  constants = HasConstants-alike theory legal m (with_value m n a w) refl refl h.constants;
}
  where
    go : (l : List ℕ) (b : HolType) (test : Bool) → same_variable n a l b ≡ test → IsMember (if test then w else m.free_variables l b) (carrier m b)
    go l b true passed = subst (λ (c : HolType). IsMember w (carrier m c)) (same_variable-type n l a b passed) k
    go l b false passed = h.members l b

-- a value that the variable has already
with_value-same : (m : Model) (n : List ℕ) (a : HolType) → with_value m n a (m.free_variables n a) ≡ m
with_value-same m n a = ap (with_free m) (fun_ext (λ l. fun_ext (λ b. go l b (same_variable n a l b) refl)))
  where
    go : (l : List ℕ) (b : HolType) (test : Bool) → same_variable n a l b ≡ test → (if test then m.free_variables n a else m.free_variables l b) ≡ m.free_variables l b
    go l b true passed = let name : n ≡ l = same_name n l a b passed in let ty : a ≡ b = same_variable-type n l a b passed in cc
    go l b false passed = refl

-- the body of an abstraction at a value
close-meaning : (theory : Theory) (m : Model) (n : List ℕ) (a b : HolType) (t : Nameless) (w : Value) → IsKnown theory t b
    → meaning (constant_meaning theory m) m (a ∷ []) (w ∷ []) (close n a t) ≡ term_meaning theory (with_value m n a w) t
close-meaning theory m n a b t w k =
    close_at-meaning (constant_meaning theory m) (constant_meaning theory (with_value m n a w)) m n a w (λ c ty. constant_meaning-with_free theory m _ c ty) t [] [] b tt k.typed

-- the value of a variable that is not free
not_free-meaning : (theory : Theory) (m : Model) (n : List ℕ) (a : HolType) (w : Value) (t : Nameless) → occurs_free n a t ≡ false
    → term_meaning theory (with_value m n a w) t ≡ term_meaning theory m t
not_free-meaning theory m n a w t h =
    meaning-not_free (constant_meaning theory m) (constant_meaning theory (with_value m n a w)) m n a w (λ c ty. constant_meaning-with_free theory m _ c ty) t [] [] h

-- choice finds a member where there is one
first_true-true : (all : List Value) (p : Value) (values : List Value) (x : Value) → IsMember x values → look_up all p x ≡ truth
    → look_up all p (first_true all p values) ≡ truth
first_true-true all p [] x k e = absurd k
first_true-true all p (y ∷ values) x k e =
    go (same_value (look_up all p y) truth) (same_value-Decides (look_up all p y) truth) k (λ l. first_true-true all p values x l e)
  where
    go : (test : Bool) → Decides test (look_up all p y ≡ truth) → (x ≡ y) ⊎ IsMember x values → (IsMember x values → look_up all p (first_true all p values) ≡ truth)
        → look_up all p (if test then y else first_true all p values) ≡ truth
    go true d l deeper = d.0 refl
    go false d (inl l) deeper = let wrong : false ≡ true = d.1 (subst (λ (z : Value). look_up all p z ≡ truth) l e) in cc
    go false d (inr l) deeper = deeper l

-- the rules

module _ (theory : Theory) (legal : IsLegal theory) where
  pub refl_rule-holds : (t : Nameless) (a : HolType) → IsKnown theory t a → Holds theory [] (nameless_equation a t t)
  refl_rule-holds t a k m h all = equation-true theory legal m h a t t k k refl

  pub trans_rule-holds : (h k : List Nameless) (a : HolType) (x y z : Nameless) → IsKnown theory x a → IsKnown theory y a → IsKnown theory z a
      → Holds theory h (nameless_equation a x y) → Holds theory k (nameless_equation a y z) → Holds theory (h ++ k) (nameless_equation a x z)
  trans_rule-holds h k a x y z p q r d e m is all =
      equation-true theory legal m is a x z p r
      (equation-holds theory legal m is a x y p q (d m is (AllTrue-left theory m h k all)) ∙ equation-holds theory legal m is a y z q r (e m is (AllTrue-right theory m h k all)))

  pub eq_mp_rule-holds : (h k : List Nameless) (p q : Nameless) → IsKnown theory p bool_type → IsKnown theory q bool_type
      → Holds theory h (nameless_equation bool_type p q) → Holds theory k p → Holds theory (h ++ k) q
  eq_mp_rule-holds h k p q x y d e m is all =
      sym (equation-holds theory legal m is bool_type p q x y (d m is (AllTrue-left theory m h k all))) ∙ e m is (AllTrue-right theory m h k all)

  pub assume_rule-holds : (p : Nameless) → Holds theory (p ∷ []) p
  assume_rule-holds p m is all = all p (inl refl)

  pub mk_comb_rule-holds : (h k : List Nameless) (a b : HolType) (f g x y : Nameless) → IsKnown theory f (function_type a b) → IsKnown theory g (function_type a b)
      → IsKnown theory x a → IsKnown theory y a
      → IsKnown theory (app f x) b → IsKnown theory (app g y) b
      → Holds theory h (nameless_equation (function_type a b) f g) → Holds theory k (nameless_equation a x y)
      → Holds theory (h ++ k) (nameless_equation b (app f x) (app g y))
  mk_comb_rule-holds h k a b f g x y kf kg kx ky kp kq d e m is all =
      equation-true theory legal m is b (app f x) (app g y) kp kq
      (look_up-alike m _ _ _ _ _ _ (nameless_type-is f [] (function_type a b) kf.typed ∙ sym (nameless_type-is g [] (function_type a b) kg.typed))
      (equation-holds theory legal m is (function_type a b) f g kf kg (d m is (AllTrue-left theory m h k all)))
      (equation-holds theory legal m is a x y kx ky (e m is (AllTrue-right theory m h k all))))

  pub abs_rule-holds : (h : List Nameless) (n : List ℕ) (a b : HolType) (s t : Nameless) → IsKnown theory s b → IsKnown theory t b
      → IsKnown theory (lam a (close n a s)) (function_type a b) → IsKnown theory (lam a (close n a t)) (function_type a b)
      → NotFreeInAny n a h → Holds theory h (nameless_equation b s t) → Holds theory h (nameless_equation (function_type a b) (lam a (close n a s)) (lam a (close n a t)))
  abs_rule-holds h n a b s t ks kt kp kq fresh d m is all =
      equation-true theory legal m is (function_type a b) (lam a (close n a s)) (lam a (close n a t)) kp kq
      (ap (λ vs. rows (values_of vs))
      (map-alike (λ v. meaning (constant_meaning theory m) m (a ∷ []) (v ∷ []) (close n a s)) (λ v. meaning (constant_meaning theory m) m (a ∷ []) (v ∷ []) (close n a t)) (carrier m a)
      (λ v e.
      let at = with_value m n a v in
      let is_at = with_value-IsModel theory legal m is n a v e in
      close-meaning theory m n a b s v ks
      ∙ equation-holds theory legal at is_at b s t ks kt (d at is_at (λ u k. not_free-meaning theory m n a v u (fresh u k) ∙ all u k))
      ∙ sym (close-meaning theory m n a b t v kt))))

  pub beta_rule-holds : (n : List ℕ) (a b : HolType) (t : Nameless) → IsKnown theory t b → IsKnown theory (app (lam a (close n a t)) (free n a)) b
      → Holds theory [] (nameless_equation b (app (lam a (close n a t)) (free n a)) t)
  beta_rule-holds n a b t k kp m is all =
      equation-true theory legal m is b (app (lam a (close n a t)) (free n a)) t kp k
      (look_up-tabulate (carrier m a) (λ v. meaning (constant_meaning theory m) m (a ∷ []) (v ∷ []) (close n a t)) (m.free_variables n a) (is.members n a)
      ∙ close-meaning theory m n a b t (m.free_variables n a) k
      ∙ ap (λ l. term_meaning theory l t) (with_value-same m n a))

  pub deduct_antisym_rule-holds : (h k : List Nameless) (p q : Nameless) → IsKnown theory p bool_type → IsKnown theory q bool_type → Holds theory h p → Holds theory k q
      → Holds theory (without q h ++ without p k) (nameless_equation bool_type p q)
  deduct_antisym_rule-holds h k p q kp kq d e m is all =
      equation-true theory legal m is bool_type p q kp kq (go (term_meaning-member theory legal m is p bool_type kp) (term_meaning-member theory legal m is q bool_type kq))
    where
      left : term_meaning theory m q ≡ truth → term_meaning theory m p ≡ truth
      left t = d m is (AllTrue-without theory m q h (AllTrue-left theory m (without q h) (without p k) all) t)

      right : term_meaning theory m p ≡ truth → term_meaning theory m q ≡ truth
      right t = e m is (AllTrue-without theory m p k (AllTrue-right theory m (without q h) (without p k) all) t)

      go : IsMember (term_meaning theory m p) (falsity ∷ truth ∷ []) → IsMember (term_meaning theory m q) (falsity ∷ truth ∷ [])
          → term_meaning theory m p ≡ term_meaning theory m q
      go (inr (inl x)) y = x ∙ sym (right x)
      go (inr (inr x)) y = absurd x
      go (inl x) (inl y) = x ∙ sym y
      go (inl x) (inr (inl y)) = left y ∙ sym y
      go (inl x) (inr (inr y)) = absurd y

  pub inst_rule-holds : (h : List Nameless) (c : Nameless) (theta : TermInstance) → MayReplace theory theta → AreKnown theory h → IsKnown theory c bool_type
      → Holds theory h c → Holds theory (map (put theta) h) (put theta c)
  inst_rule-holds h c theta may kh kc d m is all =
      put-same c bool_type kc ∙ d at is_at (λ t e. sym (put-same t bool_type (kh t e)) ∙ all (put theta t) (IsMember-map (put theta) t h e))
    where
      at : Model
      at = with_free m (values_put (constant_meaning theory m) m theta)

      put-same : (t : Nameless) (a : HolType) → IsKnown theory t a → term_meaning theory m (put theta t) ≡ term_meaning theory at t
      put-same t a k =
          put-meaning (constant_meaning theory m) (constant_meaning theory at) m theta (MayReplace-typed theory theta may) (λ n b. constant_meaning-with_free theory m _ n b) t [] [] a tt k.typed

      value : (n : List ℕ) (a : HolType) → IsMember (term_meaning theory m (theta n a)) (carrier m a)
      value n a =
          elim (may n a) [ inl k ↦ term_meaning-member theory legal m is (theta n a) a k | inr e ↦ subst (λ (t : Nameless). IsMember (term_meaning theory m t) (carrier m a)) (sym e) (is.members n a) ]

      is_at : IsModel theory at
      is_at = record { variables = is.variables; declared = is.declared; members = value; constants = HasConstants-alike theory legal m at refl refl is.constants }

  pub inst_type_rule-holds : (h : List Nameless) (c : Nameless) (tau : TypeInstance) → AreKnown theory h → IsKnown theory c bool_type → Holds theory h c
      → Holds theory (map (instantiate tau) h) (instantiate tau c)
  inst_type_rule-holds h c tau kh kc d m is all =
      instantiate-term_meaning theory m tau c bool_type kc
      ∙ d (with_types m tau) (with_types-IsModel theory legal m tau is)
      (λ t e. sym (instantiate-term_meaning theory m tau t bool_type (kh t e)) ∙ all (instantiate tau t) (IsMember-map (instantiate tau) t h e))

  pub eta_rule-holds : IsKnown theory (lam type_a (app eta_variable (bound 0))) (function_type type_a type_b) → IsKnown theory eta_variable (function_type type_a type_b)
      → Holds theory [] eta_axiom
  eta_rule-holds k l m is all =
      equation-true theory legal m is (function_type type_a type_b) (lam type_a (app eta_variable (bound 0))) eta_variable k l
      (tabulate-look_up (carrier m type_a) (carrier m type_b) (term_meaning theory m eta_variable) (carrier-IsCarrier theory m is type_a).distinct
      (is.members (116 ∷ []) (function_type type_a type_b)))

  pub select_rule-holds : Holds theory (select_hypothesis ∷ []) select_conclusion
  select_rule-holds m is all =
      let p = term_meaning theory m select_predicate in
      let values = carrier m type_a in
      let predicates = carrier m (function_type type_a bool_type) in
      ap (λ (c : Value). look_up values p (look_up predicates c p)) (choice_meaning theory legal m type_a)
      ∙ ap (λ (x : Value). look_up values p x) (look_up-tabulate predicates (λ p. first_true values p values) p (is.members (80 ∷ []) (function_type type_a bool_type)))
      ∙ first_true-true values p values (term_meaning theory m select_variable) (is.members (120 ∷ []) type_a) (all select_hypothesis (inl refl))

  pub definition_rule-holds : (n : List ℕ) (a : HolType) (body : Nameless) → IsMember (definition n a body) theory → IsKnown theory (const n a) a → IsKnown theory body a
      → Holds theory [] (nameless_equation a (const n a) body)
  definition_rule-holds n a body e k l m is all =
      equation-true theory legal m is a (const n a) body k l (definition-meaning theory legal m n a body e)
