-- What stands on an earlier theory is proved from a legal one, and its text reads back.
use Rattle.std.proofs.Common.{◌≡◌, List, [], ◌∷◌, map, true, refl, sym, inl, inr, Some}
use Rattle.std.specs.List.{list_all}
use Rattle.hol_model.specs.Terms.HolType.{bool_type}
use Rattle.hol_model.specs.Terms.NamedTerm.{NamedTerm, type_of, is_within_limits}
use Rattle.hol_model.specs.Terms.WellNamed.{is_well_named}
use Rattle.hol_model.specs.Terms.Nameless.{image}
use Rattle.hol_model.specs.Logic.Theory.{Theory, IsEarlier, IsLegal, IsKnown}
use Rattle.hol_model.specs.Logic.KnownTerm.{knows_types, knows_constants, has_instances, is_known}
use Rattle.hol_model.specs.Logic.Derivable.{AreKnown}
use Rattle.hol_model.specs.Kernel.Theorem.{Theorem, IsWellFormed}
use Rattle.hol_model.specs.Texts.SequentTexts.{IsReadableFormula, AreReadableFormulas}
use Rattle.hol_model_sessions.specs.ScriptSessions.{State, scope_in, IsProved}
use Rattle.hol_model.proofs.Tests.{first_of_both, second_of_both}
use Rattle.hol_model.proofs.Terms.Images.{image-type}
use Rattle.hol_model.proofs.Terms.NamedTests.{is_known-Decides}
use Rattle.hol_model.proofs.Logic.Known.{Derivable-known}
use Rattle.hol_model.proofs.Logic.Later.{Derivable-earlier}
use Rattle.hol_model.proofs.Texts.KnownTexts.{known_text}
use Rattle.hol_syntax_print.proofs.ReadableTerms.{known_readable}
use Rattle.hol_sound.specs.Laws.{IsSound}

pub same_is_earlier : (theory other : Theory) → other ≡ theory → IsEarlier other theory
same_is_earlier theory other same = record { added = []; is_added = sym same }

-- a well named formula that is known is told by its text
pub readable : (state : State) (term : NamedTerm) → IsKnown state.library.theory (image term) bool_type → is_within_limits term ≡ true → is_well_named term ≡ true
    → IsReadableFormula (scope_in state) term
readable state term known within named =
    let theory = state.library.theory in
    let typed : type_of term ≡ Some bool_type = image-type term bool_type known.typed in
    let passed : is_known theory term ≡ true = (is_known-Decides theory term bool_type typed).1 known in
    let types : knows_types theory term ≡ true =
    first_of_both (knows_types theory term) (knows_constants theory term) (first_of_both _ (has_instances theory term) passed) in
    let instances : has_instances theory term ≡ true = second_of_both _ (has_instances theory term) passed in
    record {
      readable = known_readable (scope_in state) term (rw typed refl) within (known_text theory state.library.variables term types instances named);
      is_formula = rw typed refl;
    }

are_readable : (state : State) (terms : List NamedTerm) → AreKnown state.library.theory (map image terms) → list_all is_within_limits terms ≡ true
    → list_all is_well_named terms ≡ true → AreReadableFormulas (scope_in state) terms
are_readable state [] known within named = tt
are_readable state (term ∷ terms) known within named = (
  readable state term (known (image term) (inl refl)) (first_of_both (is_within_limits term) (list_all is_within_limits terms) within)
      (first_of_both (is_well_named term) (list_all is_well_named terms) named),
  are_readable state terms (λ other here. known other (inr here)) (second_of_both (is_within_limits term) (list_all is_within_limits terms) within)
      (second_of_both (is_well_named term) (list_all is_well_named terms) named),
)

pub proved : (state : State) (theorem : Theorem) → IsSound → IsLegal state.library.theory → IsWellFormed theorem → IsEarlier theorem.theory state.library.theory → IsProved state theorem
proved state theorem sound legal formed earlier =
    let theory = state.library.theory in
    let hypotheses = map image theorem.hypotheses in
    let conclusion = image theorem.conclusion in
    let derivable = Derivable-earlier theorem.theory theory earlier legal hypotheses conclusion formed.is_theorem.derivable in
    let known = Derivable-known theory legal derivable in
    record {
      legal = legal;
      derivable = derivable;
      holds = sound theory legal hypotheses conclusion derivable;
      ordered = formed.is_theorem.ordered;
      readable_hypotheses = are_readable state theorem.hypotheses known.hypotheses
          (second_of_both (is_within_limits theorem.conclusion) (list_all is_within_limits theorem.hypotheses) formed.within_limits)
          (second_of_both (is_well_named theorem.conclusion) (list_all is_well_named theorem.hypotheses) formed.well_named);
      readable_conclusion = readable state theorem.conclusion known.conclusion
          (first_of_both (is_within_limits theorem.conclusion) (list_all is_within_limits theorem.hypotheses) formed.within_limits)
          (first_of_both (is_well_named theorem.conclusion) (list_all is_well_named theorem.hypotheses) formed.well_named);
    }
