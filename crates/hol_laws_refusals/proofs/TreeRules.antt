-- Expressions of the grammar have no rules of their own.
use Rattle.std.proofs.Common.{List, ℕ}
use Rattle.hol_model.specs.Terms.NamedTerm.{NamedTerm}
use Rattle.hol_model.specs.Logic.Theory.{Theory}
use Rattle.hol_model.specs.Refining.Conversions as conversions
use Rattle.hol_model.specs.Refining.Combinators as combinators
use Rattle.hol_model_sessions.specs.ConversionGrammar as conv
use Rattle.hol_model_sessions.specs.TacticGrammar as tac
use Rattle.hol_model_sessions.specs.SessionTools.{conversion_of_leaf, with_prefix, in_order, either, conversion_of, further_conversions, conversion_of_choice, other_conversions}
use Rattle.hol_model_sessions.specs.SessionTools.{conversion_of_unit, of_named, tactic_of_leaf, then_on, or_else, tactic_of, links_of, tactics_of, tactic_of_choice, others_of, tactic_of_unit}
use Rattle.hol_laws_refusals.specs.KnownRules.{HasKnownRules, HaveKnownRules, TacticHasKnownRules, TacticsHaveKnownRules, LinksHaveKnownRules}

module _ (theory : Theory) where
  -- ---- conversions

  leaf-known : (c : conv.ConversionLeaf) → HasKnownRules theory (conversion_of_leaf c)
  leaf-known conv.all_conv = tt
  leaf-known conv.no_conv = tt
  leaf-known conv.beta_conv = tt
  leaf-known (conv.rewr_conv name) = tt
  leaf-known (conv.host_conv name) = tt

  prefix-known : (prefix : conv.Conversional) (c : conversions.Conversion) → HasKnownRules theory c → HasKnownRules theory (with_prefix prefix c)
  prefix-known conv.Repeatc c h = h
  prefix-known conv.TryConv c h = h
  prefix-known conv.RandConv c h = h
  prefix-known conv.RatorConv c h = h
  prefix-known conv.AbsConv c h = h
  prefix-known conv.SubConv c h = h
  prefix-known conv.DepthConv c h = h
  prefix-known conv.OnceDepthConv c h = h
  prefix-known conv.TopDepthConv c h = h

  in_order-known : (first : conversions.Conversion) (others : conversions.Conversions) → HasKnownRules theory first → HaveKnownRules theory others → HasKnownRules theory (in_order first others)
  in_order-known first conversions.no_more h more = h
  in_order-known first (conversions.more next others) h more = (h, more)

  either-known : (first : conversions.Conversion) (others : conversions.Conversions) → HasKnownRules theory first → HaveKnownRules theory others → HasKnownRules theory (either first others)
  either-known first conversions.no_more h more = h
  either-known first (conversions.more next others) h more = (h, more)

  mutual
    chain-known : (c : conv.Conversion) → HasKnownRules theory (conversion_of c)
    chain-known (conv.thenc_chain first further) = in_order-known (conversion_of_choice first) (further_conversions further) (choice-known first) (further-known further)

    further-known : (cs : conv.FurtherConversions) → HaveKnownRules theory (further_conversions cs)
    further-known conv.no_more_thenc = tt
    further-known (conv.thenc choice further) = (choice-known choice, further-known further)

    choice-known : (c : conv.ConversionChoice) → HasKnownRules theory (conversion_of_choice c)
    choice-known (conv.orelsec_chain first others) = either-known (conversion_of_unit first) (other_conversions others) (unit-known first) (others-known others)

    others-known : (cs : conv.OtherConversions) → HaveKnownRules theory (other_conversions cs)
    others-known conv.no_more_orelsec = tt
    others-known (conv.orelsec other others) = (unit-known other, others-known others)

    pub unit-known : (c : conv.ConversionUnit) → HasKnownRules theory (conversion_of_unit c)
    unit-known (conv.prefixed prefix operand) = prefix-known prefix (conversion_of_unit operand) (unit-known operand)
    unit-known (conv.enclosed c) = chain-known c
    unit-known (conv.leaf c) = leaf-known c

  -- ---- refiner expressions

  named-known : (t : tac.NamedTactic) (name : List ℕ) → TacticHasKnownRules theory (of_named t name)
  named-known tac.AcceptTac name = tt
  named-known tac.AssumeTac name = tt
  named-known tac.MpTac name = tt
  named-known tac.DisjCasesTac name = tt
  named-known tac.ChooseTac name = tt
  named-known tac.Host name = tt

  plain-known : (t : tac.PlainTactic) → TacticHasKnownRules theory (tactic_of_leaf (tac.plain t))
  plain-known tac.AllTac = tt
  plain-known tac.NoTac = tt
  plain-known tac.AssumptionTac = tt
  plain-known tac.ReflTac = tt
  plain-known tac.ConjTac = tt
  plain-known tac.EqTac = tt
  plain-known tac.Disj1Tac = tt
  plain-known tac.Disj2Tac = tt
  plain-known tac.DischTac = tt
  plain-known tac.GenTac = tt
  plain-known tac.TautTac = tt

  quoted-known : (t : tac.QuotedTactic) (term : NamedTerm) → TacticHasKnownRules theory (tactic_of_leaf (tac.by_quote t term))
  quoted-known tac.ExistsTac term = tt
  quoted-known tac.UndischTac term = tt

  refiner-known : (t : tac.TacticLeaf NamedTerm) → TacticHasKnownRules theory (tactic_of_leaf t)
  refiner-known (tac.plain t) = plain-known t
  refiner-known (tac.by_name t name) = named-known t name
  refiner-known (tac.by_quote t term) = quoted-known t term
  refiner-known (tac.conv_tac c) = unit-known c
  refiner-known (tac.rewrite_tac names) = tt

  then_on-known : (first : combinators.Tactic) (links : combinators.Links) → TacticHasKnownRules theory first → LinksHaveKnownRules theory links → TacticHasKnownRules theory (then_on first links)
  then_on-known first combinators.no_link h more = h
  then_on-known first (combinators.link next links) h more = (h, more)

  or_else-known : (first : combinators.Tactic) (others : combinators.Tactics) → TacticHasKnownRules theory first → TacticsHaveKnownRules theory others →
      TacticHasKnownRules theory (or_else first others)
  or_else-known first combinators.no_more h more = h
  or_else-known first (combinators.more next others) h more = (h, more)

  mutual
    pub tactic-known : (t : tac.Tactic NamedTerm) → TacticHasKnownRules theory (tactic_of t)
    tactic-known (tac.then_chain first links) = then_on-known (tactic_of_choice first) (links_of links) (first-known first) (links-known links)

    links-known : (links : tac.TacticLinks NamedTerm) → LinksHaveKnownRules theory (links_of links)
    links-known tac.no_more_then = tt
    links-known (tac.then_all choice links) = (first-known choice, links-known links)
    links-known (tac.then_each tactics links) = (list-known tactics, links-known links)

    list-known : (tactics : tac.Tactics NamedTerm) → TacticsHaveKnownRules theory (tactics_of tactics)
    list-known tac.no_tactics = tt
    list-known (tac.tactic_and t tactics) = (tactic-known t, list-known tactics)

    first-known : (choice : tac.TacticChoice NamedTerm) → TacticHasKnownRules theory (tactic_of_choice choice)
    first-known (tac.orelse_chain first others) = or_else-known (tactic_of_unit first) (others_of others) (operand-known first) (alternatives-known others)

    alternatives-known : (others : tac.OtherTactics NamedTerm) → TacticsHaveKnownRules theory (others_of others)
    alternatives-known tac.no_more_orelse = tt
    alternatives-known (tac.orelse other others) = (operand-known other, alternatives-known others)

    operand-known : (unit : tac.TacticUnit NamedTerm) → TacticHasKnownRules theory (tactic_of_unit unit)
    operand-known (tac.repeated operand) = operand-known operand
    operand-known (tac.tried operand) = operand-known operand
    operand-known (tac.enclosed t) = tactic-known t
    operand-known (tac.leaf t) = refiner-known t
