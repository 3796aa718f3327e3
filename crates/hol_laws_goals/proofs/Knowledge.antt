-- What a theory knows stays known as it grows.
use Rattle.std.proofs.Common.{◌≡◌, ℕ, List, [], ◌∷◌, ◌++◌, Bool, true, false, ◌||◌, refl, sym, subst, Option, None, Some}
use Rattle.std.specs.Prelude.{is_some}
use Rattle.std.specs.Option.{option_map_or}
use Rattle.std.specs.Str.{bytes_eq}
use Rattle.hol_model.specs.Terms.HolType.{HolType, type_variable, bool_type, function_type, declared_type, is_instance, type_eq}
use Rattle.hol_model.specs.Terms.NamedTerm.{NamedTerm, variable, constant, combination, abstraction, type_of}
use Rattle.hol_model.specs.Terms.Nameless.{image}
use Rattle.hol_model.specs.Logic.Theory.{Theory, Entry, definition, declaration_of_type, declaration_of_constant, generic_type, IsEarlier, IsLegal}
use Rattle.hol_model.specs.Logic.KnownTerm.{is_declared, knows_type, knows_types, knows_constants, has_instances}
use Rattle.hol_model.specs.Kernel.Rules.{first_unknown, is_formula}
use Rattle.hol_model.specs.Goals.Goals.{Goal}
use Rattle.hol_model.proofs.Terms.HolTypeEq.{type_eq-Decides}
use Rattle.hol_model.proofs.Tests.{first_of_both, second_of_both, both}
use Rattle.hol_model.proofs.Logic.Later.{IsNewEntry, head_is_new, rest_is_legal, generic_type-later, IsKnown-later}
use Rattle.hol_model.specs.Goals.Replays.{IsKnownGoal, AreKnownGoals}
use Rattle.hol_laws_goals.proofs.Passing.{PassesTests, passes_tests}

-- a formula has the type of truth values
pub formula-typed : (term : NamedTerm) → is_formula term ≡ true → type_of term ≡ Some bool_type
formula-typed term passed = go (type_of term) refl passed
  where
    go : (found : Option HolType) → type_of term ≡ found → option_map_or (λ ty. type_eq ty bool_type) found false ≡ true → type_of term ≡ Some bool_type
    go None is passed = cc
    go (Some ty) is passed = subst (λ (t : HolType). type_of term ≡ Some t) ((type_eq-Decides ty bool_type).0 passed) is

-- ---- one more entry

or_true : (p q : Bool) → q ≡ true → (p || q) ≡ true
or_true true q is = refl
or_true false q is = is

is_declared-later : (entry : Entry) (rest : Theory) (name : List ℕ) → is_declared rest name ≡ true → is_declared (entry ∷ rest) name ≡ true
is_declared-later (definition other ty body) rest name known = known
is_declared-later (declaration_of_type other) rest name known = or_true (bytes_eq other name) (is_declared rest name) known
is_declared-later (declaration_of_constant other ty) rest name known = known

knows_type-later : (entry : Entry) (rest : Theory) (ty : HolType) → knows_type rest ty ≡ true → knows_type (entry ∷ rest) ty ≡ true
knows_type-later entry rest (type_variable name) known = refl
knows_type-later entry rest bool_type known = refl
knows_type-later entry rest (function_type a b) known =
    both (knows_type (entry ∷ rest) a) (knows_type (entry ∷ rest) b)
    (knows_type-later entry rest a (first_of_both (knows_type rest a) (knows_type rest b) known))
    (knows_type-later entry rest b (second_of_both (knows_type rest a) (knows_type rest b) known))
knows_type-later entry rest (declared_type name) known = is_declared-later entry rest name known

knows_types-later : (entry : Entry) (rest : Theory) (term : NamedTerm) → knows_types rest term ≡ true → knows_types (entry ∷ rest) term ≡ true
knows_types-later entry rest (variable name ty) known = knows_type-later entry rest ty known
knows_types-later entry rest (constant name ty) known = knows_type-later entry rest ty known
knows_types-later entry rest (combination f x) known =
    both (knows_types (entry ∷ rest) f) (knows_types (entry ∷ rest) x)
    (knows_types-later entry rest f (first_of_both (knows_types rest f) (knows_types rest x) known))
    (knows_types-later entry rest x (second_of_both (knows_types rest f) (knows_types rest x) known))
knows_types-later entry rest (abstraction name ty body) known =
    both (knows_type (entry ∷ rest) ty) (knows_types (entry ∷ rest) body)
    (knows_type-later entry rest ty (first_of_both (knows_type rest ty) (knows_types rest body) known))
    (knows_types-later entry rest body (second_of_both (knows_type rest ty) (knows_types rest body) known))

has_instances-later : (entry : Entry) (rest : Theory) → IsNewEntry rest entry → (term : NamedTerm) → has_instances rest term ≡ true → has_instances (entry ∷ rest) term ≡ true
has_instances-later entry rest is_new (variable name ty) known = refl
has_instances-later entry rest is_new (constant name ty) known = go (generic_type rest name) refl known
  where
    go : (found : Option HolType) → generic_type rest name ≡ found → option_map_or (λ generic. is_instance generic ty) found false ≡ true
        → option_map_or (λ generic. is_instance generic ty) (generic_type (entry ∷ rest) name) false ≡ true
    go None is known = cc
    go (Some generic) is known = rw (generic_type-later entry rest is_new name generic is) known
has_instances-later entry rest is_new (combination f x) known =
    both (has_instances (entry ∷ rest) f) (has_instances (entry ∷ rest) x)
    (has_instances-later entry rest is_new f (first_of_both (has_instances rest f) (has_instances rest x) known))
    (has_instances-later entry rest is_new x (second_of_both (has_instances rest f) (has_instances rest x) known))
has_instances-later entry rest is_new (abstraction name ty body) known = has_instances-later entry rest is_new body known

-- a constant at an instance of its generic type is there
instances-known : (theory : Theory) (term : NamedTerm) → has_instances theory term ≡ true → knows_constants theory term ≡ true
instances-known theory (variable name ty) known = refl
instances-known theory (constant name ty) known = go (generic_type theory name) known
  where
    go : (found : Option HolType) → option_map_or (λ generic. is_instance generic ty) found false ≡ true → is_some found ≡ true
    go None known = cc
    go (Some generic) known = refl
instances-known theory (combination f x) known =
    both (knows_constants theory f) (knows_constants theory x)
    (instances-known theory f (first_of_both (has_instances theory f) (has_instances theory x) known))
    (instances-known theory x (second_of_both (has_instances theory f) (has_instances theory x) known))
instances-known theory (abstraction name ty body) known = instances-known theory body known

pub none_unknown : (theory : Theory) (term : NamedTerm) → PassesTests theory term → first_unknown theory term ≡ None
none_unknown theory term passes = rw (passes.types, instances-known theory term passes.instances, passes.instances) refl

first_unknown-later : (entry : Entry) (rest : Theory) → IsNewEntry rest entry → (term : NamedTerm) → first_unknown rest term ≡ None → first_unknown (entry ∷ rest) term ≡ None
first_unknown-later entry rest is_new term none =
    let passes = passes_tests rest term none in
    none_unknown (entry ∷ rest) term (record { types = knows_types-later entry rest term passes.types; instances = has_instances-later entry rest is_new term passes.instances })

IsKnownGoal-later : (entry : Entry) (rest : Theory) → IsNewEntry rest entry → (goal : Goal) → IsKnownGoal rest goal → IsKnownGoal (entry ∷ rest) goal
IsKnownGoal-later entry rest is_new goal known = record {
  assumptions = λ term member. IsKnown-later entry rest is_new (image term) bool_type (known.assumptions term member);
  target = IsKnown-later entry rest is_new (image goal.target) bool_type known.target;
}

AreKnownGoals-later : (entry : Entry) (rest : Theory) → IsNewEntry rest entry → (goals : List Goal) → AreKnownGoals rest goals → AreKnownGoals (entry ∷ rest) goals
AreKnownGoals-later entry rest is_new [] known = tt
AreKnownGoals-later entry rest is_new (goal ∷ goals) known = (IsKnownGoal-later entry rest is_new goal known.0, AreKnownGoals-later entry rest is_new goals known.1)

-- ---- any number of legal entries

module _ (Fact : Theory → Type 0) (step : (entry : Entry) (rest : Theory) → IsNewEntry rest entry → Fact rest → Fact (entry ∷ rest)) where
  after : (added earlier : Theory) → IsLegal (added ++ earlier) → Fact earlier → Fact (added ++ earlier)
  after [] earlier legal fact = fact
  after (entry ∷ added) earlier legal fact =
      step entry (added ++ earlier) (head_is_new entry (added ++ earlier) legal) (after added earlier (rest_is_legal entry (added ++ earlier) legal) fact)

  stays : (earlier now : Theory) → IsEarlier earlier now → IsLegal now → Fact earlier → Fact now
  stays earlier now is legal fact = subst Fact (sym is.is_added) (after is.added earlier (subst IsLegal is.is_added legal) fact)

pub first_unknown-stays : (earlier now : Theory) → IsEarlier earlier now → IsLegal now → (term : NamedTerm) → first_unknown earlier term ≡ None → first_unknown now term ≡ None
first_unknown-stays earlier now is legal term known =
    stays (λ theory. first_unknown theory term ≡ None) (λ entry rest is_new none. first_unknown-later entry rest is_new term none) earlier now is legal known

pub known_goals-stay : (earlier now : Theory) → IsEarlier earlier now → IsLegal now → (goals : List Goal) → AreKnownGoals earlier goals → AreKnownGoals now goals
known_goals-stay earlier now is legal goals known =
    stays (λ theory. AreKnownGoals theory goals) (λ entry rest is_new known. AreKnownGoals-later entry rest is_new goals known) earlier now is legal known

pub knows_type-stays : (earlier now : Theory) → IsEarlier earlier now → IsLegal now → (ty : HolType) → knows_type earlier ty ≡ true → knows_type now ty ≡ true
knows_type-stays earlier now is legal ty known =
    stays (λ theory. knows_type theory ty ≡ true) (λ entry rest is_new known. knows_type-later entry rest ty known) earlier now is legal known
