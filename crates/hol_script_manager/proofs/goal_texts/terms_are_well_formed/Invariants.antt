use Rattle.std.proofs.Common.{◌≡◌, true, take}
use Rattle.std.specs.List.{list_all}
use Rattle.hol_model.specs.Terms.NamedTerm.{is_within_limits}
use Rattle.hol_model.specs.Terms.WellNamed.{is_well_named}
use Rattle.hol_script_manager.proofs.goal_texts.terms_are_well_formed.Given as goal

abbrev pub invariant-loop-term : goal.invariant-loop-term
invariant-loop-term l = (list_all is_within_limits (take l.term-index l.terms) ≡ true) × (list_all is_well_named (take l.term-index l.terms) ≡ true)
