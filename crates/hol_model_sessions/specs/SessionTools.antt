-- What refiners, conversions, the decision of tautologies and replays may answer in a session.
use Rattle.std.specs.Prelude.{ℕ, List, [], Option, Result, Ok, Err}
use Rattle.hol_model.specs.declared.fault.Fault.{Fault}
use Rattle.hol_model.specs.Terms.NamedTerm.{NamedTerm}
use Rattle.hol_model.specs.Logic.Theory.{Theory}
use Rattle.hol_model.specs.Kernel.Theorem.{Theorem}
use Rattle.hol_model.specs.Goals.Goals.{Goal}
use Rattle.hol_model.specs.Goals.Replays.{Store, IsReplay}
use Rattle.hol_model.specs.Propositional.Propositions.{atoms_of}
use Rattle.hol_model.specs.Refining.HostFunctions.{Host}
use Rattle.hol_model.specs.Refining.Conversions as conversions
use Rattle.hol_model.specs.Refining.Conversions.{Converts}
use Rattle.hol_model.specs.Refining.Refiners as refiners
use Rattle.hol_model.specs.Refining.Refiners.{AnswersTautology}
use Rattle.hol_model.specs.Refining.Combinators as combinators
use Rattle.hol_model.specs.Refining.Combinators.{Stage, at, Runs}
use Rattle.hol_model_sessions.specs.ConversionGrammar as conv
use Rattle.hol_model_sessions.specs.TacticGrammar as tac
use Rattle.hol_model.specs.Goals.GoalStates.{Proof, Refinement, Expansion, MayExpand}
use Rattle.hol_model_sessions.specs.ScriptSessions.{Tools}

-- ---- conversions: parentheses leave no trace, and a chain of one part is that part

abbrev pub conversion_of_leaf : conv.ConversionLeaf → conversions.Conversion
conversion_of_leaf conv.all_conv = conversions.all_conv
conversion_of_leaf conv.no_conv = conversions.no_conv
conversion_of_leaf conv.beta_conv = conversions.beta_conv
conversion_of_leaf (conv.rewr_conv name) = conversions.rewr_conv name
conversion_of_leaf (conv.host_conv name) = conversions.host_conv name

abbrev pub with_prefix : conv.Conversional → conversions.Conversion → conversions.Conversion
with_prefix conv.Repeatc c = conversions.repeatc c
with_prefix conv.TryConv c = conversions.try_conv c
with_prefix conv.RandConv c = conversions.rand_conv c
with_prefix conv.RatorConv c = conversions.rator_conv c
with_prefix conv.AbsConv c = conversions.abs_conv c
with_prefix conv.SubConv c = conversions.sub_conv c
with_prefix conv.DepthConv c = conversions.depth_conv c
with_prefix conv.OnceDepthConv c = conversions.once_depth_conv c
with_prefix conv.TopDepthConv c = conversions.top_depth_conv c

abbrev pub in_order : conversions.Conversion → conversions.Conversions → conversions.Conversion
in_order first conversions.no_more = first
in_order first (conversions.more next others) = conversions.thenc first (conversions.more next others)

abbrev pub either : conversions.Conversion → conversions.Conversions → conversions.Conversion
either first conversions.no_more = first
either first (conversions.more next others) = conversions.orelsec first (conversions.more next others)

abbrev mutual
  pub conversion_of : conv.Conversion → conversions.Conversion
  conversion_of (conv.thenc_chain first further) = in_order (conversion_of_choice first) (further_conversions further)

  pub further_conversions : conv.FurtherConversions → conversions.Conversions
  further_conversions conv.no_more_thenc = conversions.no_more
  further_conversions (conv.thenc choice further) = conversions.more (conversion_of_choice choice) (further_conversions further)

  pub conversion_of_choice : conv.ConversionChoice → conversions.Conversion
  conversion_of_choice (conv.orelsec_chain first others) = either (conversion_of_unit first) (other_conversions others)

  pub other_conversions : conv.OtherConversions → conversions.Conversions
  other_conversions conv.no_more_orelsec = conversions.no_more
  other_conversions (conv.orelsec other others) = conversions.more (conversion_of_unit other) (other_conversions others)

  pub conversion_of_unit : conv.ConversionUnit → conversions.Conversion
  conversion_of_unit (conv.prefixed conversional operand) = with_prefix conversional (conversion_of_unit operand)
  conversion_of_unit (conv.enclosed conversion) = conversion_of conversion
  conversion_of_unit (conv.leaf conversion) = conversion_of_leaf conversion

-- ---- refiner expressions

abbrev pub of_plain : tac.PlainTactic → refiners.Leaf
of_plain tac.AllTac = refiners.all_tac
of_plain tac.NoTac = refiners.no_tac
of_plain tac.AssumptionTac = refiners.assumption_tac
of_plain tac.ReflTac = refiners.refl_tac
of_plain tac.ConjTac = refiners.conj_tac
of_plain tac.EqTac = refiners.eq_tac
of_plain tac.Disj1Tac = refiners.disj1_tac
of_plain tac.Disj2Tac = refiners.disj2_tac
of_plain tac.DischTac = refiners.disch_tac
of_plain tac.GenTac = refiners.gen_tac
of_plain tac.TautTac = refiners.taut_tac

abbrev pub of_named : tac.NamedTactic → List ℕ → combinators.Tactic
of_named tac.AcceptTac name = combinators.leaf (refiners.accept_tac name)
of_named tac.AssumeTac name = combinators.leaf (refiners.assume_tac name)
of_named tac.MpTac name = combinators.leaf (refiners.mp_tac name)
of_named tac.DisjCasesTac name = combinators.leaf (refiners.disj_cases_tac name)
of_named tac.ChooseTac name = combinators.leaf (refiners.choose_tac name)
of_named tac.Host name = combinators.host_tac name

abbrev pub of_quoted : tac.QuotedTactic → NamedTerm → refiners.Leaf
of_quoted tac.ExistsTac term = refiners.exists_tac term
of_quoted tac.UndischTac term = refiners.undisch_tac term

abbrev pub tactic_of_leaf : tac.TacticLeaf NamedTerm → combinators.Tactic
tactic_of_leaf (tac.plain tactic) = combinators.leaf (of_plain tactic)
tactic_of_leaf (tac.by_name tactic name) = of_named tactic name
tactic_of_leaf (tac.by_quote tactic term) = combinators.leaf (of_quoted tactic term)
tactic_of_leaf (tac.conv_tac conversion) = combinators.leaf (refiners.conv_tac (conversion_of_unit conversion))
tactic_of_leaf (tac.rewrite_tac names) = combinators.leaf (refiners.rewrite_tac names)

abbrev pub then_on : combinators.Tactic → combinators.Links → combinators.Tactic
then_on first combinators.no_link = first
then_on first (combinators.link next others) = combinators.chain first (combinators.link next others)

abbrev pub or_else : combinators.Tactic → combinators.Tactics → combinators.Tactic
or_else first combinators.no_more = first
or_else first (combinators.more next others) = combinators.orelse first (combinators.more next others)

abbrev mutual
  pub tactic_of : tac.Tactic NamedTerm → combinators.Tactic
  tactic_of (tac.then_chain first links) = then_on (tactic_of_choice first) (links_of links)

  pub links_of : tac.TacticLinks NamedTerm → combinators.Links
  links_of tac.no_more_then = combinators.no_link
  links_of (tac.then_all choice links) = combinators.link (combinators.then_all (tactic_of_choice choice)) (links_of links)
  links_of (tac.then_each tactics links) = combinators.link (combinators.then_each (tactics_of tactics)) (links_of links)

  pub tactics_of : tac.Tactics NamedTerm → combinators.Tactics
  tactics_of tac.no_tactics = combinators.no_more
  tactics_of (tac.tactic_and tactic tactics) = combinators.more (tactic_of tactic) (tactics_of tactics)

  pub tactic_of_choice : tac.TacticChoice NamedTerm → combinators.Tactic
  tactic_of_choice (tac.orelse_chain first others) = or_else (tactic_of_unit first) (others_of others)

  pub others_of : tac.OtherTactics NamedTerm → combinators.Tactics
  others_of tac.no_more_orelse = combinators.no_more
  others_of (tac.orelse other others) = combinators.more (tactic_of_unit other) (others_of others)

  pub tactic_of_unit : tac.TacticUnit NamedTerm → combinators.Tactic
  tactic_of_unit (tac.repeated operand) = combinators.repeat (tactic_of_unit operand)
  tactic_of_unit (tac.tried operand) = combinators.try (tactic_of_unit operand)
  tactic_of_unit (tac.enclosed tactic) = tactic_of tactic
  tactic_of_unit (tac.leaf tactic) = tactic_of_leaf tactic

-- ---- tools

-- the store with these lemmas in place of its own
abbrev pub over_lemmas : Store → List Theorem → Store
over_lemmas store lemmas = record { named = store.named; lemmas = lemmas }

-- what a refiner may make of a goal from this stage
abbrev pub Refines : Theory → Host → Stage → combinators.Tactic → Goal → Result Refinement Fault → Type 0
Refines theory host before tactic goal (Ok refinement) =
    Runs theory host before tactic goal (Ok refinement.step) (at (over_lemmas before.store refinement.lemmas) refinement.left)
Refines theory host before tactic goal (Err fault) = (after : Stage) × Runs theory host before tactic goal (Err fault) after

-- what may come of `expand` from this stage
abbrev pub IsStackExpansion : Theory → Host → Stage → combinators.Tactic → Option Proof → Result Expansion Fault → Type 0
IsStackExpansion theory host before tactic =
    MayExpand theory (Refines theory host before tactic) (λ lemmas. IsReplay theory (over_lemmas before.store lemmas) [])

-- the tools of a session with a host's functions, where a command may take so many steps
abbrev pub tools : Host → ℕ → Tools
tools host steps = record {
  refines = λ theory store tactic. Refines theory host (at store steps) (tactic_of tactic);
  converts = λ theory store conversion term answer. (left : ℕ) × Converts theory store host.conversions 0 steps (conversion_of_unit conversion) term answer left;
  decides = AnswersTautology;
  atoms = atoms_of;
  replays = λ theory store justification answer. IsReplay theory store [] justification answer;
}
