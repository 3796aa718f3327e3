-- Theorems of the prelude at formulas for their variables p, q and r.
use Rattle.std.specs.Prelude.{◌≡◌, ℕ, List, [], ◌∷◌, true, Some, None, Result, slice_get}
use Rattle.hol_model.specs.declared.fault.Fault.{Fault}
use Rattle.std.specs.List.{list_all}
use Rattle.hol_model.specs.Terms.NamedTerm.{NamedTerm}
use Rattle.hol_model.specs.Terms.Nameless.{Nameless, image}
use Rattle.hol_model.specs.Terms.Measures.{nameless_within_limits}
use Rattle.hol_model.specs.Logic.Theory.{Theory}
use Rattle.hol_model.specs.Kernel.Instantiation.{instantiate_all, replacements_refusal}
use Rattle.hol_model.specs.Kernel.Theorem.{Theorem}
use Rattle.hol_journal.specs.Journal.{Recorded}
use Rattle.hol_prelude.specs.Prelude.{prelude_theorems, shown, p, q, r}
use Rattle.hol_equal.specs.Sequents.{instance_of, Shows, DerivesIf}
use Rattle.hol_equal.specs.Room.{Room, FitsIf}

abbrev pub at_p : NamedTerm → List (NamedTerm × NamedTerm)
at_p a = (a, p) ∷ []

abbrev pub at_p_q : NamedTerm → NamedTerm → List (NamedTerm × NamedTerm)
at_p_q a b = (a, p) ∷ (b, q) ∷ []

abbrev pub at_p_q_r : NamedTerm → NamedTerm → NamedTerm → List (NamedTerm × NamedTerm)
at_p_q_r a b c = (a, p) ∷ (b, q) ∷ (c, r) ∷ []

-- at these terms, the theorem of this number of the prelude leads from one term to the other, and where there is room
-- both fit
pub record LeadsTo (theory : Theory) (number : ℕ) (terms : List (NamedTerm × NamedTerm)) (room : Room) (premise conclusion : Nameless) : Type 0 where
  pub hypothesis : NamedTerm
  pub stated : NamedTerm
  pub theorem_is : slice_get prelude_theorems number ≡ Some (shown (hypothesis ∷ []) stated)
  pub is_small : list_all nameless_within_limits (instantiate_all [] (image stated) ∷ instantiate_all [] (image hypothesis) ∷ []) ≡ true
  pub may_replace : replacements_refusal theory terms ≡ None
  pub premise_is : premise ≡ instance_of [] terms (image hypothesis)
  pub conclusion_is : conclusion ≡ instance_of [] terms (image stated)
  pub premise_fits : FitsIf room premise
  pub conclusion_fits : FitsIf room conclusion

-- at these terms, the theorem of this number of the prelude concludes this
pub record Concludes (theory : Theory) (number : ℕ) (terms : List (NamedTerm × NamedTerm)) (conclusion : Nameless) : Type 0 where
  pub hypotheses : List NamedTerm
  pub stated : NamedTerm
  pub theorem_is : slice_get prelude_theorems number ≡ Some (shown hypotheses stated)
  pub may_replace : replacements_refusal theory terms ≡ None
  pub conclusion_is : conclusion ≡ instance_of [] terms (image stated)

-- from the hypothesis of the theorem of this number of the prelude at these terms, what is stated
abbrev pub TheoremDerives : Theory → ℕ → List (NamedTerm × NamedTerm) → NamedTerm → Theorem → Result Recorded Fault → Type 0
TheoremDerives theory number terms stated premise result =
    (h : List Nameless) (p : Nameless) (room : Room) → LeadsTo theory number terms room p (image stated) → Shows premise h p → DerivesIf room result h (image stated)

-- at these terms, the theorem of this number of the prelude says this, which fits where there is room
pub record Says (theory : Theory) (number : ℕ) (terms : List (NamedTerm × NamedTerm)) (room : Room) (conclusion : Nameless) : Type 0 where
  pub stated : NamedTerm
  pub theorem_is : slice_get prelude_theorems number ≡ Some (shown [] stated)
  pub is_small : nameless_within_limits (instantiate_all [] (image stated)) ≡ true
  pub may_replace : replacements_refusal theory terms ≡ None
  pub conclusion_is : conclusion ≡ instance_of [] terms (image stated)
  pub conclusion_fits : FitsIf room conclusion
