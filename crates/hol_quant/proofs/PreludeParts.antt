-- What single theorems of the prelude show.
use Rattle.std.proofs.Common.{◌≡◌, [], ◌∷◌, Some, subst}
use Rattle.std.specs.Prelude.{slice_get, codes}
use Rattle.hol_model.specs.Kernel.Theorem.{Theorem}
use Rattle.hol_model.specs.Terms.HolType.{bool_type}
use Rattle.hol_model.specs.Terms.NamedTerm.{combination, equation}
use Rattle.hol_model.specs.Logic.NamedLogic.{true_term, implication, forall_term}
use Rattle.hol_model.specs.Logic.Theory.{type_a}
use Rattle.hol_model.specs.Logic.Derivable.{nameless_equation}
use Rattle.hol_model.specs.Logic.Logic.{forall_name, exists_name}
use Rattle.hol_equal.specs.Sequents.{Shows}
use Rattle.hol_prelude.specs.Prelude.{prelude_theorems, shown, p, q, P, x, P_x, always, forall_P, exists_P}
use Rattle.hol_equal.proofs.CutLemmas.{shows-itself}
use Rattle.hol_quant.specs.PredicateLemmas.{applied, over_predicate, is_always, eliminated}
use Rattle.hol_quant.proofs.GenLemmas.{proposition, truth}

same_theorem : (a b : Theorem) → Some a ≡ Some b → a ≡ b
same_theorem a b is = cc

-- p |- p <=> T
pub truth-shows : (theorem : Theorem) → slice_get prelude_theorems 9 ≡ Some theorem → Shows theorem (proposition ∷ []) (nameless_equation bool_type proposition truth)
truth-shows theorem is =
    let stated : Theorem = shown (p ∷ []) (equation p true_term) in
    subst (λ (t : Theorem). Shows t (proposition ∷ []) (nameless_equation bool_type proposition truth)) (same_theorem stated theorem is) (shows-itself stated)

-- P = (\x. T) |- (!) P
pub always-shows : (theorem : Theorem) → slice_get prelude_theorems 19 ≡ Some theorem → Shows theorem (is_always ∷ []) (over_predicate forall_name)
always-shows theorem is =
    let stated : Theorem = shown (equation P always ∷ []) forall_P in
    subst (λ (t : Theorem). Shows t (is_always ∷ []) (over_predicate forall_name)) (same_theorem stated theorem is) (shows-itself stated)

-- (!) P |- P x
pub forall-shows : (theorem : Theorem) → slice_get prelude_theorems 20 ≡ Some theorem → Shows theorem (over_predicate forall_name ∷ []) applied
forall-shows theorem is =
    let stated : Theorem = shown (forall_P ∷ []) (combination P x) in
    subst (λ (t : Theorem). Shows t (over_predicate forall_name ∷ []) applied) (same_theorem stated theorem is) (shows-itself stated)

-- p <=> T |- p
pub back-shows : (theorem : Theorem) → slice_get prelude_theorems 10 ≡ Some theorem → Shows theorem (nameless_equation bool_type proposition truth ∷ []) proposition
back-shows theorem is =
    let stated : Theorem = shown (equation p true_term ∷ []) p in
    subst (λ (t : Theorem). Shows t (nameless_equation bool_type proposition truth ∷ []) proposition) (same_theorem stated theorem is) (shows-itself stated)

-- P x |- (?) P
pub witness-shows : (theorem : Theorem) → slice_get prelude_theorems 30 ≡ Some theorem → Shows theorem (applied ∷ []) (over_predicate exists_name)
witness-shows theorem is =
    let stated : Theorem = shown (combination P x ∷ []) exists_P in
    subst (λ (t : Theorem). Shows t (applied ∷ []) (over_predicate exists_name)) (same_theorem stated theorem is) (shows-itself stated)

-- (?) P |- (!x. P x ==> q) ==> q
pub exists-shows : (theorem : Theorem) → slice_get prelude_theorems 31 ≡ Some theorem → Shows theorem (over_predicate exists_name ∷ []) eliminated
exists-shows theorem is =
    let stated : Theorem = shown (exists_P ∷ []) (implication (forall_term (codes "x") type_a (implication P_x q)) q) in
    subst (λ (t : Theorem). Shows t (over_predicate exists_name ∷ []) eliminated) (same_theorem stated theorem is) (shows-itself stated)
