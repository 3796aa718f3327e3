-- Sizes of expressions.
use Rattle.std.proofs.Common.{◌≡◌, ℕ, ◌+◌, ◌<◌, ◌≤◌, List, [], ◌∷◌, zero, suc, length, get_or, sym, subst, arith}
use Rattle.hol_model.specs.Refining.Conversions.{Conversion, Conversions, no_more, more, thenc, orelsec, repeatc, try_conv, changed_conv, rand_conv, rator_conv}
use Rattle.hol_model.specs.Refining.Conversions.{abs_conv, sub_conv, depth_conv, once_depth_conv, top_depth_conv}
use Rattle.hol_tactic_exprs.specs.Expressions.{conversion_of, conversions_of}
use Rattle.hol_tactic_exprs.specs.declared.conv.Conv.{Conv}

abbrev mutual
  pub size : Conversion → ℕ
  size (thenc c cs) = size c + sizes cs + 1
  size (orelsec c cs) = size c + sizes cs + 1
  size (repeatc c) = size c + 1
  size (try_conv c) = size c + 1
  size (changed_conv c) = size c + 1
  size (rand_conv c) = size c + 1
  size (rator_conv c) = size c + 1
  size (abs_conv c) = size c + 1
  size (sub_conv c) = size c + 1
  size (depth_conv c) = size c + 1
  size (once_depth_conv c) = size c + 1
  size (top_depth_conv c) = size c + 1
  size leaf = 1

  pub sizes : Conversions → ℕ
  sizes no_more = 0
  sizes (more c cs) = size c + sizes cs

abbrev pub size_of : Conv → ℕ
size_of conv = size (conversion_of conv)

abbrev pub sizes_of : List Conv → ℕ
sizes_of convs = sizes (conversions_of convs)

pub size_in : (convs : List Conv) (i : ℕ) (conv : Conv) → i < length convs → conv ≡ get_or convs i conv → size_of conv ≤ sizes_of convs
size_in [] i conv within is = absurd (omega (arith, within))
size_in (first ∷ rest) zero conv within is =
    let le : size_of first ≤ sizes_of (first ∷ rest) = omega arith in
    subst (λ (c : Conv). size_of c ≤ sizes_of (first ∷ rest)) (sym is) le
size_in (first ∷ rest) (suc i) conv within is =
    let le = size_in rest i conv (omega (arith, within)) is in omega (arith, le)
