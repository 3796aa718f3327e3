-- Rules that stand in conversions and refiner expressions: what is asked of them before an expression runs.
use Rattle.std.specs.Prelude.{List, [], ◌∷◌}
use Rattle.hol_model.specs.Terms.HolType.{bool_type}
use Rattle.hol_model.specs.Terms.Nameless.{image}
use Rattle.hol_model.specs.Logic.Theory.{Theory, IsKnown}
use Rattle.hol_model.specs.Kernel.Theorem.{Theorem}
use Rattle.hol_model.specs.Refining.Conversions as conversions
use Rattle.hol_model.specs.Refining.Conversions.{Conversion, Conversions, rules_conv, thenc, orelsec, repeatc, try_conv, changed_conv, rand_conv, rator_conv, abs_conv, sub_conv, depth_conv}
use Rattle.hol_model.specs.Refining.Conversions.{once_depth_conv, top_depth_conv}
use Rattle.hol_model.specs.Refining.Refiners.{Leaf, conv_tac}
use Rattle.hol_model.specs.Refining.Combinators.{Tactic, Tactics, Link, Links, leaf, host_tac, chain, orelse, repeat, try, no_more, more, then_all, then_each, no_link, link}

-- each rule is a formula that the theory knows
abbrev pub AreKnownRules : Theory → List Theorem → Type 0
AreKnownRules theory [] = Unit {0}
AreKnownRules theory (rule ∷ rules) = IsKnown theory (image rule.conclusion) bool_type × AreKnownRules theory rules

-- so is each that stands in the conversion
abbrev mutual
  pub HasKnownRules : Theory → Conversion → Type 0
  HasKnownRules theory (rules_conv rules) = AreKnownRules theory rules
  HasKnownRules theory (thenc c cs) = HasKnownRules theory c × HaveKnownRules theory cs
  HasKnownRules theory (orelsec c cs) = HasKnownRules theory c × HaveKnownRules theory cs
  HasKnownRules theory (repeatc c) = HasKnownRules theory c
  HasKnownRules theory (try_conv c) = HasKnownRules theory c
  HasKnownRules theory (changed_conv c) = HasKnownRules theory c
  HasKnownRules theory (rand_conv c) = HasKnownRules theory c
  HasKnownRules theory (rator_conv c) = HasKnownRules theory c
  HasKnownRules theory (abs_conv c) = HasKnownRules theory c
  HasKnownRules theory (sub_conv c) = HasKnownRules theory c
  HasKnownRules theory (depth_conv c) = HasKnownRules theory c
  HasKnownRules theory (once_depth_conv c) = HasKnownRules theory c
  HasKnownRules theory (top_depth_conv c) = HasKnownRules theory c
  HasKnownRules theory _ = Unit {0}

  pub HaveKnownRules : Theory → Conversions → Type 0
  HaveKnownRules theory conversions.no_more = Unit {0}
  HaveKnownRules theory (conversions.more c cs) = HasKnownRules theory c × HaveKnownRules theory cs

-- and each in the conversion of CONV_TAC
abbrev pub LeafHasKnownRules : Theory → Leaf → Type 0
LeafHasKnownRules theory (conv_tac conversion) = HasKnownRules theory conversion
LeafHasKnownRules theory _ = Unit {0}

-- and each in the refiner expression
abbrev mutual
  pub TacticHasKnownRules : Theory → Tactic → Type 0
  TacticHasKnownRules theory (leaf l) = LeafHasKnownRules theory l
  TacticHasKnownRules theory (host_tac name) = Unit {0}
  TacticHasKnownRules theory (chain t links) = TacticHasKnownRules theory t × LinksHaveKnownRules theory links
  TacticHasKnownRules theory (orelse t ts) = TacticHasKnownRules theory t × TacticsHaveKnownRules theory ts
  TacticHasKnownRules theory (repeat t) = TacticHasKnownRules theory t
  TacticHasKnownRules theory (try t) = TacticHasKnownRules theory t

  pub TacticsHaveKnownRules : Theory → Tactics → Type 0
  TacticsHaveKnownRules theory no_more = Unit {0}
  TacticsHaveKnownRules theory (more t ts) = TacticHasKnownRules theory t × TacticsHaveKnownRules theory ts

  pub LinkHasKnownRules : Theory → Link → Type 0
  LinkHasKnownRules theory (then_all t) = TacticHasKnownRules theory t
  LinkHasKnownRules theory (then_each ts) = TacticsHaveKnownRules theory ts

  pub LinksHaveKnownRules : Theory → Links → Type 0
  LinksHaveKnownRules theory no_link = Unit {0}
  LinksHaveKnownRules theory (link l ls) = LinkHasKnownRules theory l × LinksHaveKnownRules theory ls
