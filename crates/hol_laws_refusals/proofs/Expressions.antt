-- The expressions of the program have no rules of their own.
use Rattle.hol_model.specs.Terms.NamedTerm.{NamedTerm}
use Rattle.hol_model.specs.Logic.Theory.{Theory}
use Rattle.hol_model.specs.Refining.Conversions.{Conversion}
use Rattle.hol_tactic_exprs.specs.declared.conv.Conv.{Conv, All, No, Beta, Rewr, Host, Then', OrElse', Prefixed', Row_of-Conv, end_of-Conv, more_of-Conv}
use Rattle.hol_tactic_exprs.specs.declared.conv.Prefix.{Prefix}
use Rattle.hol_tactic_exprs.specs.declared.conv.Prefix.TheVariants as prefixes
use Rattle.hol_tactic_exprs.specs.declared.leaf.Leaf.{Leaf}
use Rattle.hol_tactic_exprs.specs.declared.leaf.Leaf.TheVariants as leaves
use Rattle.hol_tactic_exprs.specs.declared.tac.Tac as tac
use Rattle.hol_tactic_exprs.specs.declared.tac.Tac.{Tac, Row_of-Tac, end_of-Tac, more_of-Tac, Row_of-Link, end_of-Link, more_of-Link}
use Rattle.hol_tactic_exprs.specs.declared.tac.Link as links
use Rattle.hol_tactic_exprs.specs.declared.tac.Link.{Link}
use Rattle.hol_tactic_exprs.specs.Expressions.{with_prefix, conversion_of, conversions_in, leaf_of, tactic_of, tactics_in, link_of, links_in}
use Rattle.hol_laws_refusals.specs.KnownRules.{HasKnownRules, HaveKnownRules, LeafHasKnownRules, TacticHasKnownRules, TacticsHaveKnownRules, LinkHasKnownRules, LinksHaveKnownRules}
use Rattle.hol_laws_refusals.specs.Laws.{ExpressionsHaveKnownRules}

module _ (theory : Theory) where
  prefix-known : (prefix : Prefix) (c : Conversion) → HasKnownRules theory c → HasKnownRules theory (with_prefix prefix c)
  prefix-known prefixes.Repeat c h = h
  prefix-known prefixes.Try c h = h
  prefix-known prefixes.Rand c h = h
  prefix-known prefixes.Rator c h = h
  prefix-known prefixes.Abs c h = h
  prefix-known prefixes.Sub c h = h
  prefix-known prefixes.Depth c h = h
  prefix-known prefixes.OnceDepth c h = h
  prefix-known prefixes.TopDepth c h = h

  mutual
    conv-known : (c : Conv) → HasKnownRules theory (conversion_of c)
    conv-known All = tt
    conv-known No = tt
    conv-known Beta = tt
    conv-known (Rewr name) = tt
    conv-known (Host name) = tt
    conv-known (Then' p first shape others) = (conv-known first, convs-known others)
    conv-known (OrElse' p first shape others) = (conv-known first, convs-known others)
    conv-known (Prefixed' prefix p c) = prefix-known prefix (conversion_of c) (conv-known c)

    convs-known : {n : _} → (others : Row_of-Conv n) → HaveKnownRules theory (conversions_in others)
    convs-known end_of-Conv = tt
    convs-known (more_of-Conv c others) = (conv-known c, convs-known others)

  leaf-known : (l : Leaf NamedTerm) → LeafHasKnownRules theory (leaf_of l)
  leaf-known (leaves.Conv c) = conv-known c
  leaf-known _ = tt

  mutual
    tac-known : (t : Tac NamedTerm) → TacticHasKnownRules theory (tactic_of t)
    tac-known (tac.Leaf l) = leaf-known l
    tac-known (tac.Host name) = tt
    tac-known (tac.Chain' p t shape others) = (tac-known t, links-known others)
    tac-known (tac.OrElse' p t shape others) = (tac-known t, tacs-known others)
    tac-known (tac.Repeat' p t) = tac-known t
    tac-known (tac.Try' p t) = tac-known t

    tacs-known : {n : _} → (others : Row_of-Tac NamedTerm n) → TacticsHaveKnownRules theory (tactics_in others)
    tacs-known end_of-Tac = tt
    tacs-known (more_of-Tac t others) = (tac-known t, tacs-known others)

    link-known : (l : Link NamedTerm) → LinkHasKnownRules theory (link_of l)
    link-known (links.Then t) = tac-known t
    link-known (links.Thenl' shape ts) = tacs-known ts

    links-known : {n : _} → (others : Row_of-Link NamedTerm n) → LinksHaveKnownRules theory (links_in others)
    links-known end_of-Link = tt
    links-known (more_of-Link l others) = (link-known l, links-known others)

pub expressions-have-known-rules : ExpressionsHaveKnownRules
expressions-have-known-rules = record { conversions = conv-known; refiners = tac-known }
