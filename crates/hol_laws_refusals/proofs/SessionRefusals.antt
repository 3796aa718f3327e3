-- What the commands of a session are refused for.
use Rattle.std.proofs.Common.{◌≡◌, ◌⊎◌, inl, inr, ℕ, List, [], ◌∷◌, refl, sym, subst, Option, Some, None, Ok, Err}
use Rattle.hol_model.specs.declared.fault.Fault.{Fault}
use Rattle.hol_model.specs.declared.fault.Fault.TheVariants.{NoGoal, Memory, TooLarge}
use Rattle.hol_model.specs.Terms.HolType.{HolType}
use Rattle.hol_model.specs.Terms.NamedTerm.{NamedTerm}
use Rattle.hol_model.specs.Terms.Nameless.{image}
use Rattle.hol_model.specs.Logic.Theory.{Theory, IsKnown}
use Rattle.hol_model.specs.Texts.TermGrammar.{TermTree}
use Rattle.hol_model.specs.Texts.Reading.{meaning}
use Rattle.hol_model.specs.Kernel.Answers.{goes_on, stops}
use Rattle.hol_model.specs.Goals.Goals.{Goal}
use Rattle.hol_model.specs.Goals.Replays.{IsKnownGoal, AreKnownGoals, IsReplay, sequents_in, has_room}
use Rattle.hol_model.specs.Goals.ValidSteps.{Step}
use Rattle.hol_model.specs.Goals.GoalStates.{Stage, underway, proved, Proof, Focus, step_focus, stage_focus, focus_outcome, IsExpanded, Refinement}
use Rattle.hol_model.specs.Refining.HostFunctions.{Host}
use Rattle.hol_model.specs.Refining.Combinators as combinators
use Rattle.hol_model.specs.Refining.Combinators.{at}
use Rattle.hol_model.specs.Refining.RefinerConditions.{HasKnownWitnesses}
use Rattle.hol_model.proofs.Logic.Earlier.{earlier-same}
use Rattle.hol_model.proofs.Logic.KnownTerms.{image-known}
use Rattle.hol_laws_goals.proofs.Passing.{passes_tests}
use Rattle.hol_laws_goals.proofs.ValidProofs.{focus-sound, expand-refused, if_any-stays}
use Rattle.hol_laws_refiners.proofs.GoodSteps.{later-store}
use Rattle.hol_laws_refiners.proofs.Lemmas.{refiners-answer-valid}
use Rattle.hol_laws_refiners.proofs.StopsRunning.{refiners-spend}
use Rattle.hol_model_sessions.specs.ConversionGrammar.{ConversionUnit}
use Rattle.hol_model_sessions.specs.TacticGrammar.{Tactic, read_tactic}
use Rattle.hol_model_sessions.specs.CommandGrammar.{by_conversion}
use Rattle.hol_model_sessions.specs.Replies.{Refusal}
use Rattle.hol_model_sessions.specs.ScriptSessions.{State, scope_in, store_in, IsTheoremAnswer, IsExpansion, IsRefined}
use Rattle.hol_model_sessions.specs.SessionTools.{conversion_of_unit, tactic_of, over_lemmas, Refines, tools}
use Rattle.hol_laws_sessions.proofs.KnownReadings.{read_terms-known}
use Rattle.hol_laws_sessions.proofs.ToolsValid.{tactic-known}
use Rattle.hol_laws_refusals.specs.Faults.{IsConversionFault, IsRefinerFault}
use Rattle.hol_laws_refusals.specs.SessionRefusals.{IsSound, IsExpansionFault, ExpandingRefuses, ConvertingRefuses}
use Rattle.hol_laws_refusals.proofs.ConversionRefusals.{conversions-refuse}
use Rattle.hol_laws_refusals.proofs.RefinerRefusals.{refiners-refuse}
use Rattle.hol_laws_refusals.proofs.TreeRules as rules

-- what a refiner expression is refused for, `e` is
of-refiner : (fault : Fault) → IsRefinerFault fault → IsExpansionFault fault
of-refiner NoGoal listed = tt
of-refiner _ listed = listed

-- memory and size are among them
for-size : (fault : Fault) → (fault ≡ Memory) ⊎ (fault ≡ TooLarge) → IsExpansionFault fault
for-size fault (inl is) = subst IsExpansionFault (sym is) tt
for-size fault (inr is) = subst IsExpansionFault (sym is) tt

-- a goal that is looked for is there, or none is open
no-goal : (fault : Fault) → (found : Option Proof) → focus_outcome found ≡ Err fault → IsExpansionFault fault
no-goal fault None is = (let one : fault ≡ NoGoal = cc in subst IsExpansionFault (sym one) tt)
no-goal fault (Some proof) is = of-stage proof.stage is
  where
    of-goals : (step : Step) (goals : List Goal) → step_focus proof step goals ≡ Err fault → IsExpansionFault fault
    of-goals step [] is = (let one : fault ≡ NoGoal = cc in subst IsExpansionFault (sym one) tt)
    of-goals step (goal ∷ goals) is = cc

    of-stage : (stage : Stage) → stage_focus proof stage ≡ Err fault → IsExpansionFault fault
    of-stage (underway step) is = of-goals step step.goals is
    of-stage (proved theorem) is = (let one : fault ≡ NoGoal = cc in subst IsExpansionFault (sym one) tt)

first-known : (theory : Theory) (goals : List Goal) (goal : Goal) (others : List Goal) → goals ≡ goal ∷ others → AreKnownGoals theory goals → IsKnownGoal theory goal
first-known theory goals goal others same known = (subst (λ (g : List Goal). AreKnownGoals theory g) same known).0

module _ (host : Host) (steps : ℕ) (state : State) (sound : IsSound state) where
  abbrev here : Theory
  here = state.library.theory

  abbrev before : combinators.Stage
  before = at (store_in state) steps

  read-known : (tree : TermTree) (term : NamedTerm) → meaning (scope_in state) [] tree ≡ Ok term → (ty : HolType) × IsKnown here (image term) ty
  read-known tree term is =
      let known = read_terms-known here (scope_in state) sound.logic.legal sound.scope tree term is in
      let tests = passes_tests here term known.known in
      (known.ty, image-known here term known.ty known.typed tests.types tests.instances)

  witnesses-known : (tree : Tactic TermTree) (tactic : Tactic NamedTerm) → read_tactic (meaning (scope_in state) []) tree ≡ Ok tactic → HasKnownWitnesses here (tactic_of tactic)
  witnesses-known tree tactic is =
      tactic-known here (meaning (scope_in state) []) (λ term_tree term read. read_terms-known here (scope_in state) sound.logic.legal sound.scope term_tree term read) tree tactic is

  -- the goal in focus is known
  focus-known : (focus : Focus) → focus_outcome state.proof ≡ Ok focus → IsKnownGoal here focus.goal
  focus-known focus is =
      let focused = focus-sound here (store_in state) state.proof focus sound.proof is in
      first-known here focus.step.goals focus.goal focus.others focused.goals focused.opening.known

  -- what a refiner answers is spliced in, which is refused for memory or size alone
  spliced : (tactic : Tactic NamedTerm) → HasKnownWitnesses here (tactic_of tactic) → (focus : Focus) → focus_outcome state.proof ≡ Ok focus
      → (refinement : Refinement) → Refines here host before (tactic_of tactic) focus.goal (Ok refinement) → (fault : Fault)
      → IsExpanded here (λ justification answer. IsReplay here (over_lemmas (store_in state) refinement.lemmas) [] justification answer) focus refinement.step (Err fault)
      → IsExpansionFault fault
  spliced tactic known focus is_focus refinement runs fault is =
      let after : combinators.Stage = at (over_lemmas (store_in state) refinement.lemmas) refinement.left in
      let later = (refiners-spend host here).spends before after (tactic_of tactic) focus.goal (Ok refinement.step) runs in
      let good = refiners-answer-valid host here before after (tactic_of tactic) focus.goal refinement.step sound.logic sound.proved known (focus-known focus is_focus) runs in
      let valid = if_any-stays here here (store_in state) after.store (earlier-same here here refl) sound.logic.legal (later-store here before after later) state.proof sound.proof in
      for-size fault (expand-refused here after.store (has_room here (sequents_in after.store) []) state.proof focus refinement.step fault valid is_focus good is)

  expansion : (tactic : Tactic NamedTerm) → HasKnownWitnesses here (tactic_of tactic) → (fault : Fault) → IsExpansion (tools host steps) state tactic (Err fault) → IsExpansionFault fault
  expansion tactic known fault (stops other is same) = (let one : other ≡ fault = cc in subst IsExpansionFault one (no-goal other state.proof (sym is)))
  expansion tactic known fault (goes_on focus is_focus (stops other refused same)) =
      (let one : other ≡ fault = cc in subst IsExpansionFault one
      (of-refiner other (refiners-refuse host here before refused.0 (tactic_of tactic) focus.goal other sound.logic sound.proved known (rules.tactic-known here tactic)
      (focus-known focus (sym is_focus)) refused.1)))
  expansion tactic known fault (goes_on focus is_focus (goes_on refinement runs (stops other is same))) =
      (let one : other ≡ fault = cc in subst IsExpansionFault one (spliced tactic known focus (sym is_focus) refinement runs other is))
  expansion tactic known fault (goes_on focus is_focus (goes_on refinement runs (goes_on proof is same))) = cc

  refined : (tree : Tactic TermTree) (fault : Fault) → IsRefined (tools host steps) state tree (Err fault)
      → (read_tactic (meaning (scope_in state) []) tree ≡ Err fault) ⊎ IsExpansionFault fault
  refined tree fault (stops other is same) = (let one : other ≡ fault = cc in inl (subst (λ (f : Fault). read_tactic (meaning (scope_in state) []) tree ≡ Err f) one (sym is)))
  refined tree fault (goes_on tactic is_read (stops other is same)) =
      (let one : other ≡ fault = cc in inr (subst IsExpansionFault one (expansion tactic (witnesses-known tree tactic (sym is_read)) other is)))
  refined tree fault (goes_on tactic is_read (goes_on expansion is same)) = cc

  converted : (conversion : ConversionUnit) (tree : TermTree) (refusal : Refusal) → IsTheoremAnswer (tools host steps) state (by_conversion conversion tree) (Err refusal)
      → (meaning (scope_in state) [] tree ≡ Err refusal.fault) ⊎ IsConversionFault refusal.fault
  converted conversion tree refusal (stops other is same) =
      (let one : other ≡ refusal = cc in inl (subst (λ (r : Refusal). meaning (scope_in state) [] tree ≡ Err r.fault) one (sym is.0)))
  converted conversion tree refusal (goes_on term is_read answers) =
      let known = read-known tree term (sym is_read) in
      inr (conversions-refuse host.conversions here (store_in state) 0 steps answers.0.0 (conversion_of_unit conversion) term known.0 refusal.fault
      sound.logic sound.proved (rules.unit-known here conversion) known.1 answers.0.1)

pub expanding-refuses : (host : Host) → ExpandingRefuses host
expanding-refuses host steps state tree refusal sound may = refined host steps state sound tree refusal.fault may.0

pub converting-refuses : (host : Host) → ConvertingRefuses host
converting-refuses host steps state conversion tree refusal sound answers = converted host steps state sound conversion tree refusal answers
