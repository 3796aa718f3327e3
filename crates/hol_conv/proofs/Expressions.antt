-- Expressions with leaves that stand for other conversions.
use Rattle.std.proofs.Common.{◌≡◌, ◌+◌, ◌<◌, List, refl, ap, ◌∙◌, length, drop, get_or, add-one}
use Rattle.std.proofs.Math.Seq.{drop-cons}
use Rattle.hol_model.specs.Refining.Conversions.{Conversion, Conversions, no_more, more, all_conv, no_conv, beta_conv, rewr_conv, rules_conv, host_conv, thenc, orelsec, repeatc, try_conv}
use Rattle.hol_model.specs.Refining.Conversions.{changed_conv, rand_conv, rator_conv, abs_conv, sub_conv, depth_conv, once_depth_conv, top_depth_conv}
use Rattle.hol_tactic_exprs.specs.declared.conv.Conv.{Conv, Then, OrElse}
use Rattle.hol_tactic_exprs.proofs.Rows.{then_means, or_else_means}
use Rattle.hol_conv.specs.Leaves.{with_leaves, all_with_leaves, stands_for, all_stand_for, thenc_of, orelsec_of}
use Rattle.hol_conv.proofs.Sizes.{size, size_of, sizes_of}

pub then_stands : (means : Conversion → Conversion) (first : _) (others : _) → stands_for means (Then first others) ≡ thenc_of means first.value others.items
then_stands means first others = ap (with_leaves means) (then_means first others)

pub or_else_stands : (means : Conversion → Conversion) (first : _) (others : _) → stands_for means (OrElse first others) ≡ orelsec_of means first.value others.items
or_else_stands means first others = ap (with_leaves means) (or_else_means first others)

pub then_size : (first : _) (others : _) → size_of (Then first others) ≡ size_of first.value + sizes_of others.items + 1
then_size first others = ap size (then_means first others)

pub or_else_size : (first : _) (others : _) → size_of (OrElse first others) ≡ size_of first.value + sizes_of others.items + 1
or_else_size first others = ap size (or_else_means first others)

pub rest-drop : (means : Conversion → Conversion) (convs : List Conv) (i : _) (conv : Conv) → i < length convs → conv ≡ get_or convs i conv
    → all_stand_for means (drop i convs) ≡ more (stands_for means conv) (all_stand_for means (drop (i + 1) convs))
rest-drop means convs i conv within is = rw (add-one, drop-cons convs i conv within, ← is) refl

-- leaves that stand for themselves
mutual
  pub with-same-leaves : (c : Conversion) → with_leaves (λ leaf. leaf) c ≡ c
  with-same-leaves all_conv = refl
  with-same-leaves no_conv = refl
  with-same-leaves beta_conv = refl
  with-same-leaves (rewr_conv name) = refl
  with-same-leaves (rules_conv rules) = refl
  with-same-leaves (host_conv name) = refl
  with-same-leaves (thenc c cs) = ap (λ d. thenc d (all_with_leaves (λ leaf. leaf) cs)) (with-same-leaves c) ∙ ap (thenc c) (all-with-same-leaves cs)
  with-same-leaves (orelsec c cs) = ap (λ d. orelsec d (all_with_leaves (λ leaf. leaf) cs)) (with-same-leaves c) ∙ ap (orelsec c) (all-with-same-leaves cs)
  with-same-leaves (repeatc c) = ap repeatc (with-same-leaves c)
  with-same-leaves (try_conv c) = ap try_conv (with-same-leaves c)
  with-same-leaves (changed_conv c) = ap changed_conv (with-same-leaves c)
  with-same-leaves (rand_conv c) = ap rand_conv (with-same-leaves c)
  with-same-leaves (rator_conv c) = ap rator_conv (with-same-leaves c)
  with-same-leaves (abs_conv c) = ap abs_conv (with-same-leaves c)
  with-same-leaves (sub_conv c) = ap sub_conv (with-same-leaves c)
  with-same-leaves (depth_conv c) = ap depth_conv (with-same-leaves c)
  with-same-leaves (once_depth_conv c) = ap once_depth_conv (with-same-leaves c)
  with-same-leaves (top_depth_conv c) = ap top_depth_conv (with-same-leaves c)

  pub all-with-same-leaves : (cs : Conversions) → all_with_leaves (λ leaf. leaf) cs ≡ cs
  all-with-same-leaves no_more = refl
  all-with-same-leaves (more c cs) = ap (λ d. more d (all_with_leaves (λ leaf. leaf) cs)) (with-same-leaves c) ∙ ap (more c) (all-with-same-leaves cs)
