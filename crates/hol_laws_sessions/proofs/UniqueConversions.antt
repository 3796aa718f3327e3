-- The tokens begin with one conversion.
use Rattle.std.proofs.Common.{◌≡◌, ℕ, List, [], ◌∷◌, Bool, true, false, refl, sym, ap, ◌∙◌, Option, None, Some}
use Rattle.std.specs.Prelude.{codes, if◌then◌else◌}
use Rattle.std.specs.Str.{bytes_eq}
use Rattle.hol_model.specs.declared.symbol.Symbol.TheVariants.{CloseParenthesis}
use Rattle.hol_model.specs.Texts.Token.{Token, Name, Number, Mark}
use Rattle.hol_model_sessions.specs.ConversionGrammar.{Conversional, Repeatc, TryConv, RandConv, RatorConv, AbsConv, SubConv, DepthConv, OnceDepthConv, TopDepthConv, conversional_word}
use Rattle.hol_model_sessions.specs.ConversionGrammar.{ConversionLeaf, all_conv, no_conv, beta_conv, rewr_conv, host_conv, Conversion, thenc_chain, FurtherConversions, no_more_thenc, thenc}
use Rattle.hol_model_sessions.specs.ConversionGrammar.{ConversionChoice, orelsec_chain, OtherConversions, no_more_orelsec, orelsec, ConversionUnit, prefixed, enclosed, leaf, leaf_tokens}
use Rattle.hol_model_sessions.specs.ConversionGrammar.{conversion_tokens, further_tokens, choice_tokens, other_tokens, unit_tokens}
use Rattle.hol_laws_sessions.specs.UniqueReadings.{SameParse, ConversionsAreUnambiguous}

-- ---- words

-- the first token is this word
abbrev pub starts_with : List ℕ → List Token → Bool
starts_with word [] = false
starts_with word (Name other ∷ rest) = bytes_eq word other
starts_with word (Number digits ∷ rest) = false
starts_with word (Mark symbol ∷ rest) = false

-- what stands in a table for a word
abbrev pub look_up : {A : Type 0} → List (List ℕ × A) → List ℕ → Option A
look_up [] word = None
look_up (entry ∷ entries) word = if bytes_eq entry.0 word then Some entry.1 else look_up entries word

abbrev pub look_up_first : {A : Type 0} → List (List ℕ × A) → List Token → Option A
look_up_first table [] = None
look_up_first table (Name word ∷ rest) = look_up table word
look_up_first table (Number digits ∷ rest) = None
look_up_first table (Mark symbol ∷ rest) = None

-- ---- what a conversion begins with

data LeafStart : Type 0 where
  all_start : LeafStart
  no_start : LeafStart
  beta_start : LeafStart
  rewr_start : LeafStart
  host_start : LeafStart

data Start : Type 0 where
  prefix_start : Conversional → Start
  leaf_start : LeafStart → Start

abbrev start_of_leaf : ConversionLeaf → LeafStart
start_of_leaf all_conv = all_start
start_of_leaf no_conv = no_start
start_of_leaf beta_conv = beta_start
start_of_leaf (rewr_conv name) = rewr_start
start_of_leaf (host_conv name) = host_start

abbrev starts : List (List ℕ × Start)
starts = (codes "REPEATC", prefix_start Repeatc) ∷ (codes "TRY_CONV", prefix_start TryConv) ∷ (codes "RAND_CONV", prefix_start RandConv) ∷ (codes "RATOR_CONV", prefix_start RatorConv)
    ∷ (codes "ABS_CONV", prefix_start AbsConv) ∷ (codes "SUB_CONV", prefix_start SubConv) ∷ (codes "DEPTH_CONV", prefix_start DepthConv) ∷ (codes "ONCE_DEPTH_CONV", prefix_start OnceDepthConv)
    ∷ (codes "TOP_DEPTH_CONV", prefix_start TopDepthConv) ∷ (codes "ALL_CONV", leaf_start all_start) ∷ (codes "NO_CONV", leaf_start no_start) ∷ (codes "BETA_CONV", leaf_start beta_start)
    ∷ (codes "REWR_CONV", leaf_start rewr_start) ∷ (codes "HOST", leaf_start host_start) ∷ []

abbrev start_of_unit : ConversionUnit → Option Start
start_of_unit (prefixed conversional operand) = Some (prefix_start conversional)
start_of_unit (enclosed conversion) = None
start_of_unit (leaf conversion) = Some (leaf_start (start_of_leaf conversion))

prefix-starts : (conversional : Conversional) → look_up starts (conversional_word conversional) ≡ Some (prefix_start conversional)
prefix-starts Repeatc = refl
prefix-starts TryConv = refl
prefix-starts RandConv = refl
prefix-starts RatorConv = refl
prefix-starts AbsConv = refl
prefix-starts SubConv = refl
prefix-starts DepthConv = refl
prefix-starts OnceDepthConv = refl
prefix-starts TopDepthConv = refl

leaf-starts : (conversion : ConversionLeaf) (rest : List Token) → look_up_first starts (leaf_tokens conversion rest) ≡ Some (leaf_start (start_of_leaf conversion))
leaf-starts all_conv rest = refl
leaf-starts no_conv rest = refl
leaf-starts beta_conv rest = refl
leaf-starts (rewr_conv name) rest = refl
leaf-starts (host_conv name) rest = refl

unit-starts : (unit : ConversionUnit) (rest : List Token) → look_up_first starts (unit_tokens unit rest) ≡ start_of_unit unit
unit-starts (prefixed conversional operand) rest = prefix-starts conversional
unit-starts (enclosed conversion) rest = refl
unit-starts (leaf conversion) rest = leaf-starts conversion rest

leaf-same : (a b : ConversionLeaf) (r s : List Token) → leaf_tokens a r ≡ leaf_tokens b s → start_of_leaf a ≡ start_of_leaf b → SameParse a b r s
leaf-same all_conv all_conv r s same starts = (let rest : r ≡ s = cc in record { same = refl; rest = rest })
leaf-same no_conv no_conv r s same starts = (let rest : r ≡ s = cc in record { same = refl; rest = rest })
leaf-same beta_conv beta_conv r s same starts = (let rest : r ≡ s = cc in record { same = refl; rest = rest })
leaf-same (rewr_conv a) (rewr_conv b) r s same starts = (let rest : r ≡ s = cc in let name : a ≡ b = cc in record { same = ap rewr_conv name; rest = rest })
leaf-same (host_conv a) (host_conv b) r s same starts = (let rest : r ≡ s = cc in let name : a ≡ b = cc in record { same = ap host_conv name; rest = rest })
leaf-same a b r s same starts = cc

-- ---- what stands behind a chain

further-without : (further : FurtherConversions) (rest : List Token) → starts_with (codes "ORELSEC") rest ≡ false → starts_with (codes "ORELSEC") (further_tokens further rest) ≡ false
further-without no_more_thenc rest none = none
further-without (thenc choice further) rest none = refl

-- a rest that goes on with a word does not begin with another
pub begins_otherwise : {A : Type 0} (word : List ℕ) (r s : List Token) → starts_with word r ≡ false → r ≡ s → starts_with word s ≡ true → A
begins_otherwise word r s none same some = (let one : starts_with word r ≡ starts_with word s = ap (starts_with word) same in cc)

mutual
  conversion-same : (a b : Conversion) (r s : List Token) → starts_with (codes "THENC") r ≡ false → starts_with (codes "ORELSEC") r ≡ false → starts_with (codes "THENC") s ≡ false →
      starts_with (codes "ORELSEC") s ≡ false
      → conversion_tokens a r ≡ conversion_tokens b s → SameParse a b r s
  conversion-same (thenc_chain a as') (thenc_chain b bs) r s no_then no_else no_then' no_else' same =
      let first = choice-same a b (further_tokens as' r) (further_tokens bs s) (further-without as' r no_else) (further-without bs s no_else') same in
      let others = further-same as' bs r s no_then no_else no_then' no_else' first.rest in
      record { same = λ i. thenc_chain (first.same i) (others.same i); rest = others.rest }

  further-same : (a b : FurtherConversions) (r s : List Token) → starts_with (codes "THENC") r ≡ false → starts_with (codes "ORELSEC") r ≡ false → starts_with (codes "THENC") s ≡ false →
      starts_with (codes "ORELSEC") s ≡ false
      → further_tokens a r ≡ further_tokens b s → SameParse a b r s
  further-same no_more_thenc no_more_thenc r s no_then no_else no_then' no_else' same = record { same = refl; rest = same }
  further-same no_more_thenc (thenc b bs) r s no_then no_else no_then' no_else' same = begins_otherwise (codes "THENC") r (further_tokens (thenc b bs) s) no_then same refl
  further-same (thenc a as') no_more_thenc r s no_then no_else no_then' no_else' same = begins_otherwise (codes "THENC") s (further_tokens (thenc a as') r) no_then' (sym same) refl
  further-same (thenc a as') (thenc b bs) r s no_then no_else no_then' no_else' same =
      let behind : choice_tokens a (further_tokens as' r) ≡ choice_tokens b (further_tokens bs s) = cc in
      let first = choice-same a b (further_tokens as' r) (further_tokens bs s) (further-without as' r no_else) (further-without bs s no_else') behind in
      let others = further-same as' bs r s no_then no_else no_then' no_else' first.rest in
      record { same = λ i. thenc (first.same i) (others.same i); rest = others.rest }

  choice-same : (a b : ConversionChoice) (r s : List Token) → starts_with (codes "ORELSEC") r ≡ false → starts_with (codes "ORELSEC") s ≡ false → choice_tokens a r ≡ choice_tokens b s →
      SameParse a b r s
  choice-same (orelsec_chain a as') (orelsec_chain b bs) r s no_else no_else' same =
      let first = unit-same a b (other_tokens as' r) (other_tokens bs s) same in
      let others = other-same as' bs r s no_else no_else' first.rest in
      record { same = λ i. orelsec_chain (first.same i) (others.same i); rest = others.rest }

  other-same : (a b : OtherConversions) (r s : List Token) → starts_with (codes "ORELSEC") r ≡ false → starts_with (codes "ORELSEC") s ≡ false → other_tokens a r ≡ other_tokens b s → SameParse a b r s
  other-same no_more_orelsec no_more_orelsec r s no_else no_else' same = record { same = refl; rest = same }
  other-same no_more_orelsec (orelsec b bs) r s no_else no_else' same = begins_otherwise (codes "ORELSEC") r (other_tokens (orelsec b bs) s) no_else same refl
  other-same (orelsec a as') no_more_orelsec r s no_else no_else' same = begins_otherwise (codes "ORELSEC") s (other_tokens (orelsec a as') r) no_else' (sym same) refl
  other-same (orelsec a as') (orelsec b bs) r s no_else no_else' same =
      let behind : unit_tokens a (other_tokens as' r) ≡ unit_tokens b (other_tokens bs s) = cc in
      let first = unit-same a b (other_tokens as' r) (other_tokens bs s) behind in
      let others = other-same as' bs r s no_else no_else' first.rest in
      record { same = λ i. orelsec (first.same i) (others.same i); rest = others.rest }

  unit-same : (a b : ConversionUnit) (r s : List Token) → unit_tokens a r ≡ unit_tokens b s → SameParse a b r s
  unit-same (prefixed p a) (prefixed q b) r s same =
      let start : ◌≡◌ {A = Option Start} (Some (prefix_start p)) (Some (prefix_start q)) = sym (unit-starts (prefixed p a) r) ∙ ap (look_up_first starts) same ∙ unit-starts (prefixed q b) s in
      let word : p ≡ q = cc in
      let behind : unit_tokens a r ≡ unit_tokens b s = cc in
      let operand = unit-same a b r s behind in
      record { same = λ i. prefixed (word i) (operand.same i); rest = operand.rest }
  unit-same (prefixed p a) (enclosed b) r s same = cc
  unit-same (prefixed p a) (leaf b) r s same =
      (let start : ◌≡◌ {A = Option Start} (Some (prefix_start p)) (Some (leaf_start (start_of_leaf b))) =
      sym (unit-starts (prefixed p a) r) ∙ ap (look_up_first starts) same ∙ unit-starts (leaf b) s in cc)
  unit-same (enclosed a) (prefixed q b) r s same = cc
  unit-same (enclosed a) (enclosed b) r s same =
      let behind : conversion_tokens a (Mark CloseParenthesis ∷ r) ≡ conversion_tokens b (Mark CloseParenthesis ∷ s) = cc in
      let inner = conversion-same a b (Mark CloseParenthesis ∷ r) (Mark CloseParenthesis ∷ s) refl refl refl refl behind in
      let one : ◌≡◌ {A = List Token} (Mark CloseParenthesis ∷ r) (Mark CloseParenthesis ∷ s) = inner.rest in
      let rest : r ≡ s = cc in
      record { same = λ i. enclosed (inner.same i); rest = rest }
  unit-same (enclosed a) (leaf b) r s same =
      (let start : ◌≡◌ {A = Option Start} None (Some (leaf_start (start_of_leaf b))) = sym (unit-starts (enclosed a) r) ∙ ap (look_up_first starts) same ∙ unit-starts (leaf b) s in cc)
  unit-same (leaf a) (prefixed q b) r s same =
      (let start : ◌≡◌ {A = Option Start} (Some (leaf_start (start_of_leaf a))) (Some (prefix_start q)) =
      sym (unit-starts (leaf a) r) ∙ ap (look_up_first starts) same ∙ unit-starts (prefixed q b) s in cc)
  unit-same (leaf a) (enclosed b) r s same =
      (let start : ◌≡◌ {A = Option Start} (Some (leaf_start (start_of_leaf a))) None = sym (unit-starts (leaf a) r) ∙ ap (look_up_first starts) same ∙ unit-starts (enclosed b) s in cc)
  unit-same (leaf a) (leaf b) r s same =
      let start : ◌≡◌ {A = Option Start} (Some (leaf_start (start_of_leaf a))) (Some (leaf_start (start_of_leaf b))) =
      sym (unit-starts (leaf a) r) ∙ ap (look_up_first starts) same ∙ unit-starts (leaf b) s in
      let one : start_of_leaf a ≡ start_of_leaf b = cc in
      let inner = leaf-same a b r s same one in
      record { same = λ i. leaf (inner.same i); rest = inner.rest }

pub conversions-unambiguous : ConversionsAreUnambiguous
conversions-unambiguous = unit-same
