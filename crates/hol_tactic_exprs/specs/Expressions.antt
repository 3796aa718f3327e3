-- The conversions and refiners for which values of the program stand.
use Rattle.std.specs.Prelude.{List, [], ◌∷◌, map}
use Rattle.std.specs.String.{string_bytes}
use Rattle.hol_model.specs.Terms.NamedTerm.{NamedTerm}
use Rattle.hol_model.specs.Refining.Conversions as conversions
use Rattle.hol_model.specs.Refining.Conversions.{Conversion, Conversions, all_conv, no_conv, beta_conv, rewr_conv, host_conv, thenc, orelsec}
use Rattle.hol_model.specs.Refining.Conversions.{repeatc, try_conv, rand_conv, rator_conv, abs_conv, sub_conv, depth_conv, once_depth_conv, top_depth_conv}
use Rattle.hol_model.specs.Refining.Refiners as refiners
use Rattle.hol_model.specs.Refining.Combinators as combinators
use Rattle.hol_model.specs.Refining.Combinators.{Tactic, Tactics, Links, host_tac, chain, orelse, repeat, try, then_all, then_each, no_link, link}
use Rattle.hol_tactic_exprs.specs.declared.conv.Conv.{Conv, All, No, Beta, Rewr, Host, Then', OrElse', Prefixed', Row_of-Conv, end_of-Conv, more_of-Conv}
use Rattle.hol_tactic_exprs.specs.declared.conv.Prefix.{Prefix}
use Rattle.hol_tactic_exprs.specs.declared.conv.Prefix.TheVariants as prefixes
use Rattle.hol_tactic_exprs.specs.declared.leaf.Leaf.{Leaf}
use Rattle.hol_tactic_exprs.specs.declared.leaf.Leaf.TheVariants as leaves
use Rattle.hol_tactic_exprs.specs.declared.tac.Tac as tac
use Rattle.hol_tactic_exprs.specs.declared.tac.Tac.{Tac, Row_of-Tac, end_of-Tac, more_of-Tac, Row_of-Link, end_of-Link, more_of-Link}
use Rattle.hol_tactic_exprs.specs.declared.tac.Link as links
use Rattle.hol_tactic_exprs.specs.declared.tac.Link.{Link}

-- ---- conversions

abbrev pub with_prefix : Prefix → Conversion → Conversion
with_prefix prefixes.Repeat c = repeatc c
with_prefix prefixes.Try c = try_conv c
with_prefix prefixes.Rand c = rand_conv c
with_prefix prefixes.Rator c = rator_conv c
with_prefix prefixes.Abs c = abs_conv c
with_prefix prefixes.Sub c = sub_conv c
with_prefix prefixes.Depth c = depth_conv c
with_prefix prefixes.OnceDepth c = once_depth_conv c
with_prefix prefixes.TopDepth c = top_depth_conv c

abbrev mutual
  pub conversion_of : Conv → Conversion
  conversion_of All = all_conv
  conversion_of No = no_conv
  conversion_of Beta = beta_conv
  conversion_of (Rewr name) = rewr_conv (string_bytes name)
  conversion_of (Host name) = host_conv (string_bytes name)
  conversion_of (Then' p first shape others) = thenc (conversion_of first) (conversions_in others)
  conversion_of (OrElse' p first shape others) = orelsec (conversion_of first) (conversions_in others)
  conversion_of (Prefixed' prefix p c) = with_prefix prefix (conversion_of c)

  pub conversions_in : {n : _} → Row_of-Conv n → Conversions
  conversions_in end_of-Conv = conversions.no_more
  conversions_in (more_of-Conv c others) = conversions.more (conversion_of c) (conversions_in others)

abbrev pub all_conversions : List Conversion → Conversions
all_conversions [] = conversions.no_more
all_conversions (c ∷ cs) = conversions.more c (all_conversions cs)

abbrev pub conversions_of : List Conv → Conversions
conversions_of cs = all_conversions (map conversion_of cs)

-- ---- refiners without parts

abbrev pub leaf_of : Leaf NamedTerm → refiners.Leaf
leaf_of leaves.All = refiners.all_tac
leaf_of leaves.No = refiners.no_tac
leaf_of (leaves.Accept name) = refiners.accept_tac (string_bytes name)
leaf_of leaves.Assumption = refiners.assumption_tac
leaf_of (leaves.Assume name) = refiners.assume_tac (string_bytes name)
leaf_of leaves.Refl = refiners.refl_tac
leaf_of leaves.Conj = refiners.conj_tac
leaf_of leaves.Eq = refiners.eq_tac
leaf_of leaves.Disj1 = refiners.disj1_tac
leaf_of leaves.Disj2 = refiners.disj2_tac
leaf_of leaves.Disch = refiners.disch_tac
leaf_of leaves.Gen = refiners.gen_tac
leaf_of (leaves.Exists witness) = refiners.exists_tac witness
leaf_of (leaves.Mp name) = refiners.mp_tac (string_bytes name)
leaf_of (leaves.DisjCases name) = refiners.disj_cases_tac (string_bytes name)
leaf_of (leaves.Choose name) = refiners.choose_tac (string_bytes name)
leaf_of (leaves.Undisch p) = refiners.undisch_tac p
leaf_of (leaves.Conv c) = refiners.conv_tac (conversion_of c)
leaf_of (leaves.Rewrite names) = refiners.rewrite_tac (map string_bytes names.items)
leaf_of leaves.Taut = refiners.taut_tac

-- ---- refiner expressions

abbrev mutual
  pub tactic_of : Tac NamedTerm → Tactic
  tactic_of (tac.Leaf l) = combinators.leaf (leaf_of l)
  tactic_of (tac.Host name) = host_tac (string_bytes name)
  tactic_of (tac.Chain' p t shape links) = chain (tactic_of t) (links_in links)
  tactic_of (tac.OrElse' p t shape others) = orelse (tactic_of t) (tactics_in others)
  tactic_of (tac.Repeat' p t) = repeat (tactic_of t)
  tactic_of (tac.Try' p t) = try (tactic_of t)

  pub tactics_in : {n : _} → Row_of-Tac NamedTerm n → Tactics
  tactics_in end_of-Tac = combinators.no_more
  tactics_in (more_of-Tac t others) = combinators.more (tactic_of t) (tactics_in others)

  pub link_of : Link NamedTerm → combinators.Link
  link_of (links.Then t) = then_all (tactic_of t)
  link_of (links.Thenl' shape ts) = then_each (tactics_in ts)

  pub links_in : {n : _} → Row_of-Link NamedTerm n → Links
  links_in end_of-Link = no_link
  links_in (more_of-Link l others) = link (link_of l) (links_in others)

abbrev pub all_tactics : List Tactic → Tactics
all_tactics [] = combinators.no_more
all_tactics (t ∷ ts) = combinators.more t (all_tactics ts)

abbrev pub tactics_of : List (Tac NamedTerm) → Tactics
tactics_of ts = all_tactics (map tactic_of ts)

abbrev pub all_links : List combinators.Link → Links
all_links [] = no_link
all_links (l ∷ ls) = link l (all_links ls)

abbrev pub links_of : List (Link NamedTerm) → Links
links_of ls = all_links (map link_of ls)
