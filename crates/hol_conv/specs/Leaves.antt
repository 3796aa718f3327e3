-- Conversions with others in place of those without parts.
use Rattle.std.specs.Prelude.{List, Bool, true, false}
use Rattle.hol_model.specs.Refining.Conversions.{Conversion, Conversions, no_more, more, thenc, orelsec, repeatc, try_conv, changed_conv, rand_conv, rator_conv}
use Rattle.hol_model.specs.Refining.Conversions.{abs_conv, sub_conv, depth_conv, once_depth_conv, top_depth_conv}
use Rattle.hol_tactic_exprs.specs.Expressions.{conversion_of, conversions_of}
use Rattle.hol_tactic_exprs.specs.declared.conv.Conv.{Conv, All, No, Beta, Rewr, Host}

abbrev mutual
  pub with_leaves : (Conversion → Conversion) → Conversion → Conversion
  with_leaves means (thenc c cs) = thenc (with_leaves means c) (all_with_leaves means cs)
  with_leaves means (orelsec c cs) = orelsec (with_leaves means c) (all_with_leaves means cs)
  with_leaves means (repeatc c) = repeatc (with_leaves means c)
  with_leaves means (try_conv c) = try_conv (with_leaves means c)
  with_leaves means (changed_conv c) = changed_conv (with_leaves means c)
  with_leaves means (rand_conv c) = rand_conv (with_leaves means c)
  with_leaves means (rator_conv c) = rator_conv (with_leaves means c)
  with_leaves means (abs_conv c) = abs_conv (with_leaves means c)
  with_leaves means (sub_conv c) = sub_conv (with_leaves means c)
  with_leaves means (depth_conv c) = depth_conv (with_leaves means c)
  with_leaves means (once_depth_conv c) = once_depth_conv (with_leaves means c)
  with_leaves means (top_depth_conv c) = top_depth_conv (with_leaves means c)
  with_leaves means leaf = means leaf

  pub all_with_leaves : (Conversion → Conversion) → Conversions → Conversions
  all_with_leaves means no_more = no_more
  all_with_leaves means (more c cs) = more (with_leaves means c) (all_with_leaves means cs)

-- what an expression stands for where its leaves stand for these
abbrev pub stands_for : (Conversion → Conversion) → Conv → Conversion
stands_for means conv = with_leaves means (conversion_of conv)

abbrev pub all_stand_for : (Conversion → Conversion) → List Conv → Conversions
all_stand_for means convs = all_with_leaves means (conversions_of convs)

-- first THENC ..
abbrev pub thenc_of : (Conversion → Conversion) → Conv → List Conv → Conversion
thenc_of means first others = thenc (stands_for means first) (all_stand_for means others)

-- first ORELSEC ..
abbrev pub orelsec_of : (Conversion → Conversion) → Conv → List Conv → Conversion
orelsec_of means first others = orelsec (stands_for means first) (all_stand_for means others)

-- a conversion without parts
abbrev pub IsLeaf : Conv → Type 0
IsLeaf All = Unit {0}
IsLeaf No = Unit {0}
IsLeaf Beta = Unit {0}
IsLeaf (Rewr name) = Unit {0}
IsLeaf (Host name) = Unit {0}
IsLeaf _ = ⊥

-- the theorem of a conversion without parts is made as it is asked for; what a host answers may be stored
abbrev pub is_made_anew : Conv → Bool
is_made_anew (Host name) = false
is_made_anew _ = true
