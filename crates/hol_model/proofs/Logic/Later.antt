-- What is known and what is derivable stays so where a theory grows by legal entries.
use Rattle.std.proofs.Common.{◌≡◌, ℕ, List, [], ◌∷◌, ◌++◌, Bool, true, false, refl, ap, inl, inr, Some}
use Rattle.std.specs.Str.{bytes_eq}
use Rattle.std.proofs.lemmas.Slice.Eq.{bytes_eq-Decides}
use Rattle.hol_model.specs.Terms.HolType.{HolType, type_variable, bool_type, function_type, declared_type}
use Rattle.hol_model.specs.Terms.Nameless.{Nameless, free, const, bound, app, lam}
use Rattle.hol_model.specs.Logic.Theory.{Theory, Entry, definition, declaration_of_type, declaration_of_constant, IsEarlier, IsLegal, IsNewName, HasKnownParts, IsKnown, IsKnownType}
use Rattle.hol_model.specs.Logic.Theory.{IsDeclaredType, generic_type}
use Rattle.hol_model.specs.Logic.Derivable.{Derivable, MayReplace}
use Rattle.hol_model.specs.Logic.Derivable.Derivable.{same_hypotheses, refl_rule, trans_rule, mk_comb_rule, abs_rule, beta_rule, assume_rule, eq_mp_rule, deduct_antisym_rule, inst_rule}
use Rattle.hol_model.specs.Logic.Derivable.Derivable.{inst_type_rule, eta_rule, select_rule, definition_rule}

-- the entry's name is new over the theory
abbrev pub IsNewEntry : Theory → Entry → Type 0
IsNewEntry theory (definition name ty body) = IsNewName theory name
IsNewEntry theory (declaration_of_type name) = IsNewName theory name
IsNewEntry theory (declaration_of_constant name ty) = IsNewName theory name

pub head_is_new : (entry : Entry) (rest : Theory) → IsLegal (entry ∷ rest) → IsNewEntry rest entry
head_is_new (definition name ty body) rest legal = legal.0.is_new
head_is_new (declaration_of_type name) rest legal = legal.0.is_new
head_is_new (declaration_of_constant name ty) rest legal = legal.0.is_new

pub rest_is_legal : (entry : Entry) (rest : Theory) → IsLegal (entry ∷ rest) → IsLegal rest
rest_is_legal (definition name ty body) rest legal = legal.1
rest_is_legal (declaration_of_type name) rest legal = legal.1
rest_is_legal (declaration_of_constant name ty) rest legal = legal.1

-- a known constant has another name than a new one
pub other_name : (theory : Theory) (new name : List ℕ) (generic : HolType) → IsNewName theory new → generic_type theory name ≡ Some generic → bytes_eq new name ≡ false
other_name theory new name generic is_new known = go (bytes_eq new name) refl
  where
    go : (test : Bool) → bytes_eq new name ≡ test → test ≡ false
    go true passed =
        let same : generic_type theory new ≡ generic_type theory name = ap (generic_type theory) ((bytes_eq-Decides new name).0 passed) in
        let none = is_new.no_constant in
        cc
    go false passed = refl

pub generic_type-later : (entry : Entry) (rest : Theory) → IsNewEntry rest entry → (name : List ℕ) (generic : HolType) → generic_type rest name ≡ Some generic →
    generic_type (entry ∷ rest) name ≡ Some generic
generic_type-later (definition new ty body) rest is_new name generic known = rw (other_name rest new name generic is_new known) known
generic_type-later (declaration_of_type new) rest is_new name generic known = known
generic_type-later (declaration_of_constant new ty) rest is_new name generic known = rw (other_name rest new name generic is_new known) known

IsDeclaredType-later : (entry : Entry) (rest : Theory) (name : List ℕ) → IsDeclaredType rest name → IsDeclaredType (entry ∷ rest) name
IsDeclaredType-later (definition new ty body) rest name declared = declared
IsDeclaredType-later (declaration_of_type new) rest name declared = inr declared
IsDeclaredType-later (declaration_of_constant new ty) rest name declared = declared

pub IsKnownType-later : (entry : Entry) (rest : Theory) (ty : HolType) → IsKnownType rest ty → IsKnownType (entry ∷ rest) ty
IsKnownType-later entry rest (type_variable name) known = tt
IsKnownType-later entry rest bool_type known = tt
IsKnownType-later entry rest (function_type a b) known = (IsKnownType-later entry rest a known.0, IsKnownType-later entry rest b known.1)
IsKnownType-later entry rest (declared_type name) known = IsDeclaredType-later entry rest name known

pub HasKnownParts-later : (entry : Entry) (rest : Theory) → IsNewEntry rest entry → (term : Nameless) → HasKnownParts rest term → HasKnownParts (entry ∷ rest) term
HasKnownParts-later entry rest is_new (free name ty) known = IsKnownType-later entry rest ty known
HasKnownParts-later entry rest is_new (const name ty) known = (
  IsKnownType-later entry rest ty known.0,
  record { generic = known.1.generic; is_generic = generic_type-later entry rest is_new name known.1.generic known.1.is_generic; is_instance = known.1.is_instance },
)
HasKnownParts-later entry rest is_new (bound index) known = tt
HasKnownParts-later entry rest is_new (app f x) known = (HasKnownParts-later entry rest is_new f known.0, HasKnownParts-later entry rest is_new x known.1)
HasKnownParts-later entry rest is_new (lam ty body) known = (IsKnownType-later entry rest ty known.0, HasKnownParts-later entry rest is_new body known.1)

pub IsKnown-later : (entry : Entry) (rest : Theory) → IsNewEntry rest entry → (term : Nameless) (ty : HolType) → IsKnown rest term ty → IsKnown (entry ∷ rest) term ty
IsKnown-later entry rest is_new term ty known = record { typed = known.typed; parts = HasKnownParts-later entry rest is_new term known.parts }

MayReplace-later : (entry : Entry) (rest : Theory) → IsNewEntry rest entry → (theta : List ℕ → HolType → Nameless) → MayReplace rest theta → MayReplace (entry ∷ rest) theta
MayReplace-later entry rest is_new theta may name ty =
    elim (may name ty) [ inl known ↦ inl (IsKnown-later entry rest is_new (theta name ty) ty known) | inr same ↦ inr same ]

pub Derivable-later : (entry : Entry) (rest : Theory) → IsNewEntry rest entry → {h : List Nameless} {c : Nameless} → Derivable rest h c → Derivable (entry ∷ rest) h c
Derivable-later entry rest new (same_hypotheses d same) = same_hypotheses (Derivable-later entry rest new d) same
Derivable-later entry rest new (refl_rule t ty known) = refl_rule t ty (IsKnown-later entry rest new t ty known)
Derivable-later entry rest new (trans_rule ty a b c d e) = trans_rule ty a b c (Derivable-later entry rest new d) (Derivable-later entry rest new e)
Derivable-later entry rest new (mk_comb_rule s t f g x y d e) = mk_comb_rule s t f g x y (Derivable-later entry rest new d) (Derivable-later entry rest new e)
Derivable-later entry rest new (abs_rule name s t a b known fresh d) = abs_rule name s t a b (IsKnownType-later entry rest s known) fresh (Derivable-later entry rest new d)
Derivable-later entry rest new (beta_rule name s ty t known_type known) = beta_rule name s ty t (IsKnownType-later entry rest s known_type) (IsKnown-later entry rest new t ty known)
Derivable-later entry rest new (assume_rule p known) = assume_rule p (IsKnown-later entry rest new p bool_type known)
Derivable-later entry rest new (eq_mp_rule p q d e) = eq_mp_rule p q (Derivable-later entry rest new d) (Derivable-later entry rest new e)
Derivable-later entry rest new (deduct_antisym_rule p q d e) = deduct_antisym_rule p q (Derivable-later entry rest new d) (Derivable-later entry rest new e)
Derivable-later entry rest new (inst_rule theta may d) = inst_rule theta (MayReplace-later entry rest new theta may) (Derivable-later entry rest new d)
Derivable-later entry rest new (inst_type_rule tau known d) = inst_type_rule tau (λ name. IsKnownType-later entry rest (tau name) (known name)) (Derivable-later entry rest new d)
Derivable-later entry rest new eta_rule = eta_rule
Derivable-later entry rest new select_rule = select_rule
Derivable-later entry rest new (definition_rule name ty body member) = definition_rule name ty body (inr member)

-- by one entry after another
Derivable-added : (added earlier : Theory) → IsLegal (added ++ earlier) → {h : List Nameless} {c : Nameless} → Derivable earlier h c → Derivable (added ++ earlier) h c
Derivable-added [] earlier legal d = d
Derivable-added (entry ∷ added) earlier legal d =
    Derivable-later entry (added ++ earlier) (head_is_new entry (added ++ earlier) legal) (Derivable-added added earlier (rest_is_legal entry (added ++ earlier) legal) d)

-- what is derivable over an earlier state of a legal theory is derivable over it
pub Derivable-earlier : (earlier now : Theory) → IsEarlier earlier now → IsLegal now → (h : List Nameless) (c : Nameless) → Derivable earlier h c → Derivable now h c
Derivable-earlier earlier now is_earlier legal h c d =
    let legal_here : IsLegal (is_earlier.added ++ earlier) = rw is_earlier.is_added at legal in
    rw is_earlier.is_added (Derivable-added is_earlier.added earlier legal_here d)
