-- Laws at formulas for their variables.
use Rattle.std.specs.Prelude.{◌≡◌, List, [], ◌∷◌, true, None}
use Rattle.std.specs.List.{list_all}
use Rattle.hol_model.specs.Terms.NamedTerm.{NamedTerm}
use Rattle.hol_model.specs.Terms.Nameless.{Nameless, image}
use Rattle.hol_model.specs.Terms.Measures.{nameless_within_limits}
use Rattle.hol_model.specs.Logic.Theory.{Theory}
use Rattle.hol_model.specs.Kernel.Instantiation.{instantiate_all, replacements_refusal}
use Rattle.hol_prelude.specs.Prelude.{shown}
use Rattle.hol_equal.specs.Sequents.{instance_of}
use Rattle.hol_equal.specs.Room.{Room, FitsIf}
use Rattle.hol_taut_laws.specs.LawTheorems.{law_theorem}
use Rattle.hol_taut_formulas.specs.declared.law.Law.{Law}

-- at these terms, the law leads from one term to the other, and where there is room both fit
pub record LeadsTo (theory : Theory) (law : Law) (terms : List (NamedTerm × NamedTerm)) (room : Room) (premise conclusion : Nameless) : Type 0 where
  pub hypothesis : NamedTerm
  pub stated : NamedTerm
  pub theorem_is : law_theorem law ≡ shown (hypothesis ∷ []) stated
  pub is_small : list_all nameless_within_limits (instantiate_all [] (image stated) ∷ instantiate_all [] (image hypothesis) ∷ []) ≡ true
  pub may_replace : replacements_refusal theory terms ≡ None
  pub premise_is : premise ≡ instance_of [] terms (image hypothesis)
  pub conclusion_is : conclusion ≡ instance_of [] terms (image stated)
  pub premise_fits : FitsIf room premise
  pub conclusion_fits : FitsIf room conclusion
