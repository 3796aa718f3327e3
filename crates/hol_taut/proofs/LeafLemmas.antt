-- Theorems of atoms and of constants.
use Rattle.std.proofs.Common.{◌≡◌, ℕ, List, [], ◌∷◌, ◌++◌, Bool, Some, refl, sym, ◌∙◌, subst, Result}
use Rattle.hol_model.specs.declared.fault.Fault.{Fault}
use Rattle.hol_model.specs.Terms.HolType.{HolType, bool_type, type_variable}
use Rattle.hol_model.specs.Terms.NamedTerm.{NamedTerm}
use Rattle.hol_model.specs.Terms.Nameless.{Nameless, image}
use Rattle.hol_equal.specs.Formulas.{IsFormula}
use Rattle.hol_model.specs.Terms.Measures.{nameless_within_limits}
use Rattle.hol_model.specs.Logic.Theory.{Theory, IsLegal, IsKnown, generic_type}
use Rattle.hol_model.specs.Kernel.Theorem.{Theorem}
use Rattle.hol_model.specs.Logic.Derivable.{nameless_equation}
use Rattle.hol_model.specs.Logic.Logic as nameless
use Rattle.hol_model.specs.Logic.Logic.{false_name, logical_definitions}
use Rattle.hol_model.specs.Logic.NamedLogic.{true_term, false_term}
use Rattle.hol_journal.specs.Journal.{Journal, Recorded}
use Rattle.hol_model.proofs.Logic.Later.{head_is_new, rest_is_legal, generic_type-later}
use Rattle.hol_equal.proofs.CutLemmas.{derives-where}
use Rattle.hol_equal.specs.Sequents.{Shows, DerivesIf}
use Rattle.hol_prelude.specs.Prelude.{shown}
use Rattle.hol_taut_laws.specs.HasLaws.{HasLaws}
use Rattle.hol_taut_laws.specs.LawTheorems.{law_theorem}
use Rattle.hol_taut_formulas.specs.declared.law.Law.TheVariants.{Truth}
use Rattle.hol_taut_laws.proofs.LawLemmas.{stands-on-logic}
use Rattle.hol_taut_laws.specs.declared.stored.Laws.{Laws}
use Rattle.hol_model.specs.Propositional.Connectives.{equation_of}
use Rattle.hol_taut.specs.Proved.{ProvesIf}
use Rattle.hol_taut.proofs.ProvedLemmas.{derives-proves}

-- `T`, from TRUTH with its own conclusion's names
pub truth-proved : (result : Result Recorded Fault) (truth : Theorem) (conclusion : NamedTerm) → truth ≡ law_theorem Truth → conclusion ≡ truth.conclusion
    → ((h : List Nameless) → Shows truth h (image conclusion) → DerivesIf (nameless_within_limits (nameless_equation bool_type (image conclusion) (image conclusion))) result h (image conclusion))
    → (allowed : List Nameless) (room : Bool) → ProvesIf room result allowed nameless.true_term
truth-proved result truth conclusion there is derives allowed room =
    let truth_is : shown [] true_term ≡ truth = sym there in
    let conclusion_is : true_term ≡ conclusion = (λ i. (truth_is i).conclusion) ∙ sym is in
    let moved = subst (λ (c : NamedTerm). (h : List Nameless) → Shows truth h (image c)
    → DerivesIf (nameless_within_limits (nameless_equation bool_type (image c) (image c))) result h (image c)) (sym conclusion_is) derives in
    let shows : Shows truth [] nameless.true_term = subst (λ (t : Theorem). Shows t [] nameless.true_term) truth_is
    (record { same_set = record { to = λ x m. m; back = λ x m. m }; concludes = refl }) in
    derives-proves room result [] allowed nameless.true_term (λ x m. absurd m)
    (derives-where (nameless_within_limits (equation_of nameless.true_term nameless.true_term)) room result [] nameless.true_term (λ is. refl) (moved [] shows))

-- the theory stands on the definitions of the logical constants

generic_type-added : (added rest : Theory) → IsLegal (added ++ rest) → (name : List ℕ) (generic : HolType) → generic_type rest name ≡ Some generic → generic_type (added ++ rest) name ≡ Some generic
generic_type-added [] rest legal name generic is = is
generic_type-added (entry ∷ added) rest legal name generic is =
    generic_type-later entry (added ++ rest) (head_is_new entry (added ++ rest) legal) name generic (generic_type-added added rest (rest_is_legal entry (added ++ rest) legal) name generic is)

logical-type : (journal : Journal) (laws : Laws) → HasLaws journal laws → IsLegal journal.theory → (name : List ℕ) (generic : HolType) → generic_type logical_definitions name ≡ Some generic
    → generic_type journal.theory name ≡ Some generic
logical-type journal laws has legal name generic is =
    let earlier = stands-on-logic journal laws has in
    subst (λ (t : Theory). generic_type t name ≡ Some generic) (sym earlier.is_added)
    (generic_type-added earlier.added logical_definitions (subst (λ (t : Theory). IsLegal t) earlier.is_added legal) name generic is)

pub false-known : (journal : Journal) (laws : Laws) → HasLaws journal laws → IsLegal journal.theory → IsKnown journal.theory nameless.false_term bool_type
false-known journal laws has legal = record {
  typed = refl;
  parts = (tt, record { generic = bool_type; is_generic = logical-type journal laws has legal false_name bool_type refl; is_instance = record { instance = type_variable; is_instance = refl } });
}

pub false-formula : (journal : Journal) (laws : Laws) → HasLaws journal laws → IsLegal journal.theory → (term : NamedTerm) → term ≡ false_term → IsFormula journal.theory term
false-formula journal laws has legal term is =
    subst (λ (t : NamedTerm). IsFormula journal.theory t) (sym is) (record { typed = refl; known = false-known journal laws has legal })
