-- The grammar of conversions: THENC groups least, then ORELSEC, and a prefix binds what stands right behind it.
use Rattle.std.specs.Prelude.{ℕ, ◌+◌, ◌≤◌, List, ◌∷◌, max, codes}
use Rattle.hol_model.specs.declared.limits.TheConstants.{EXPRESSION_NESTING_LIMIT}
use Rattle.hol_model.specs.declared.symbol.Symbol.TheVariants.{OpenParenthesis, CloseParenthesis}
use Rattle.hol_model.specs.Texts.Token.{Token, Name, Mark}

-- The conversionals that stand before their conversion.
pub data Conversional : Type 0 where
  Repeatc : Conversional
  TryConv : Conversional
  RandConv : Conversional
  RatorConv : Conversional
  AbsConv : Conversional
  SubConv : Conversional
  DepthConv : Conversional
  OnceDepthConv : Conversional
  TopDepthConv : Conversional

-- A conversion alone; REWR_CONV names a theorem, HOST a function of the host.
pub data ConversionLeaf : Type 0 where
  all_conv : ConversionLeaf
  no_conv : ConversionLeaf
  beta_conv : ConversionLeaf
  rewr_conv : List ℕ → ConversionLeaf
  host_conv : List ℕ → ConversionLeaf

mutual
  -- how a text is read as a conversion, its parentheses included: the first of a chain of THENC, and the others
  pub data Conversion : Type 0 where
    thenc_chain : ConversionChoice → FurtherConversions → Conversion

  pub data FurtherConversions : Type 0 where
    no_more_thenc : FurtherConversions
    thenc : ConversionChoice → FurtherConversions → FurtherConversions

  -- the first of a chain of ORELSEC, and the others
  pub data ConversionChoice : Type 0 where
    orelsec_chain : ConversionUnit → OtherConversions → ConversionChoice

  pub data OtherConversions : Type 0 where
    no_more_orelsec : OtherConversions
    orelsec : ConversionUnit → OtherConversions → OtherConversions

  -- what a prefix may stand before
  pub data ConversionUnit : Type 0 where
    prefixed : Conversional → ConversionUnit → ConversionUnit
    enclosed : Conversion → ConversionUnit
    leaf : ConversionLeaf → ConversionUnit

abbrev pub conversional_word : Conversional → List ℕ
conversional_word Repeatc = codes "REPEATC"
conversional_word TryConv = codes "TRY_CONV"
conversional_word RandConv = codes "RAND_CONV"
conversional_word RatorConv = codes "RATOR_CONV"
conversional_word AbsConv = codes "ABS_CONV"
conversional_word SubConv = codes "SUB_CONV"
conversional_word DepthConv = codes "DEPTH_CONV"
conversional_word OnceDepthConv = codes "ONCE_DEPTH_CONV"
conversional_word TopDepthConv = codes "TOP_DEPTH_CONV"

abbrev pub leaf_tokens : ConversionLeaf → List Token → List Token
leaf_tokens all_conv rest = Name (codes "ALL_CONV") ∷ rest
leaf_tokens no_conv rest = Name (codes "NO_CONV") ∷ rest
leaf_tokens beta_conv rest = Name (codes "BETA_CONV") ∷ rest
leaf_tokens (rewr_conv name) rest = Name (codes "REWR_CONV") ∷ Name name ∷ rest
leaf_tokens (host_conv name) rest = Name (codes "HOST") ∷ Name name ∷ rest

-- its tokens, and then the rest
abbrev mutual
  pub conversion_tokens : Conversion → List Token → List Token
  conversion_tokens (thenc_chain first further) rest = choice_tokens first (further_tokens further rest)

  pub further_tokens : FurtherConversions → List Token → List Token
  further_tokens no_more_thenc rest = rest
  further_tokens (thenc choice further) rest = Name (codes "THENC") ∷ choice_tokens choice (further_tokens further rest)

  pub choice_tokens : ConversionChoice → List Token → List Token
  choice_tokens (orelsec_chain first others) rest = unit_tokens first (other_tokens others rest)

  pub other_tokens : OtherConversions → List Token → List Token
  other_tokens no_more_orelsec rest = rest
  other_tokens (orelsec other others) rest = Name (codes "ORELSEC") ∷ unit_tokens other (other_tokens others rest)

  pub unit_tokens : ConversionUnit → List Token → List Token
  unit_tokens (prefixed conversional operand) rest = Name (conversional_word conversional) ∷ unit_tokens operand rest
  unit_tokens (enclosed conversion) rest = Mark OpenParenthesis ∷ conversion_tokens conversion (Mark CloseParenthesis ∷ rest)
  unit_tokens (leaf conversion) rest = leaf_tokens conversion rest

-- how many parentheses and prefixes are open at once, at most
abbrev mutual
  pub conversion_depth : Conversion → ℕ
  conversion_depth (thenc_chain first further) = max (choice_depth first) (further_depth further)

  pub further_depth : FurtherConversions → ℕ
  further_depth no_more_thenc = 0
  further_depth (thenc choice further) = max (choice_depth choice) (further_depth further)

  pub choice_depth : ConversionChoice → ℕ
  choice_depth (orelsec_chain first others) = max (unit_depth first) (other_depth others)

  pub other_depth : OtherConversions → ℕ
  other_depth no_more_orelsec = 0
  other_depth (orelsec other others) = max (unit_depth other) (other_depth others)

  pub unit_depth : ConversionUnit → ℕ
  unit_depth (prefixed conversional operand) = 1 + unit_depth operand
  unit_depth (enclosed conversion) = 1 + conversion_depth conversion
  unit_depth (leaf conversion) = 0

-- a conversion that is not nested too deep
abbrev pub IsConversionUnit : ConversionUnit → Type 0
IsConversionUnit unit = unit_depth unit ≤ EXPRESSION_NESTING_LIMIT
