-- What stands at the front of tokens, as a conversion.
use Rattle.std.proofs.Common.{◌≡◌, ◌≢◌, ℕ, ◌+◌, ◌<◌, ◌≤◌, arith, List, [], ◌∷◌, ◌++◌, map, length, false, refl, sym, ◌∙◌, ap, subst, Option, None, Some, Err, ◌==◌}
use Rattle.std.specs.Prelude.{codes}
use Rattle.std.proofs.Math.Nat.{le-max_left, le-max_right, max-le}
use Rattle.hol_model.specs.declared.symbol.Symbol.TheVariants.{OpenParenthesis, CloseParenthesis}
use Rattle.hol_model.specs.Texts.Token.{Token, Name, Number, Mark}
use Rattle.hol_model_sessions.specs.ConversionGrammar as grammar
use Rattle.hol_model_sessions.specs.ConversionGrammar.{Conversional, Repeatc, TryConv, RandConv, RatorConv, AbsConv, SubConv, DepthConv, OnceDepthConv, TopDepthConv, conversional_word}
use Rattle.hol_model_sessions.specs.ConversionGrammar.{ConversionLeaf, all_conv, no_conv, beta_conv, rewr_conv, host_conv, thenc_chain, FurtherConversions, no_more_thenc, thenc, ConversionChoice}
use Rattle.hol_model_sessions.specs.ConversionGrammar.{orelsec_chain, no_more_orelsec, orelsec, ConversionUnit, prefixed, enclosed, leaf, leaf_tokens, conversion_tokens, further_tokens}
use Rattle.hol_model_sessions.specs.ConversionGrammar.{choice_tokens, other_tokens, unit_tokens, conversion_depth, further_depth, choice_depth, other_depth, unit_depth}
use Rattle.hol_model_sessions.specs.SessionTools as tools
use Rattle.hol_model_sessions.specs.SessionTools.{in_order, either, conversion_of_leaf, conversion_of_choice, conversion_of_unit, further_conversions, other_conversions}
use Rattle.hol_model.specs.Refining.Conversions as conversions
use Rattle.hol_model.specs.Refining.Conversions.{Conversion, Conversions}
use Rattle.hol_tactic_exprs.specs.declared.conv.Conv.{Conv}
use Rattle.hol_tactic_exprs.specs.declared.conv.Prefix.{Prefix}
use Rattle.hol_tactic_exprs.specs.declared.conv.Prefix.TheVariants.{Repeat, Try, Rand, Rator, Abs, Sub, Depth, OnceDepth, TopDepth}
use Rattle.hol_tactic_exprs.specs.Expressions.{conversion_of, with_prefix, all_conversions, conversions_of}
use Rattle.hol_syntax_grammar.specs.declared.token.Token.{Token as TokenHere}
use Rattle.hol_syntax_grammar.specs.declared.type_reader.ReadError.{ReadError}
use Rattle.hol_syntax_grammar.specs.declared.type_reader.ReadError.TheVariants.{Memory, Syntax}
use Rattle.hol_tactic_grammar.specs.declared.conversion_words.Single.{Single}
use Rattle.hol_tactic_grammar.specs.declared.conversion_words.Single.TheVariants.{All, No, Beta, Rewr, Host}
use Rattle.hol_tactic_grammar.specs.ConversionWords.{conversional_of, prefix_of_word, single_word, single_of_word}
use Rattle.hol_tactic_grammar.specs.Tokens.{behind, IsAt, ReadsName}
use Rattle.hol_tactic_grammar.specs.Conversions.{Without, IsUnit, IsNoUnit, IsChoice, IsNoChoice, Ends, IsWhole, IsNoWhole, Reaches, ReadsUnit}
use Rattle.hol_tactic_grammar.specs.OpenConversions.{listed, joined, choice_behind, whole_behind, Choice, MeantChoice, IsChoicePart, Whole, MeantWhole, IsWholePart}

-- ---- words

abbrev prefix_word : Prefix → List ℕ
prefix_word prefix = conversional_word (conversional_of prefix)

abbrev prefix_for : Conversional → Prefix
prefix_for Repeatc = Repeat
prefix_for TryConv = Try
prefix_for RandConv = Rand
prefix_for RatorConv = Rator
prefix_for AbsConv = Abs
prefix_for SubConv = Sub
prefix_for DepthConv = Depth
prefix_for OnceDepthConv = OnceDepth
prefix_for TopDepthConv = TopDepth

prefix-known : (prefix : Prefix) → prefix_of_word (prefix_word prefix) ≡ Some prefix
prefix-known Repeat = refl
prefix-known Try = refl
prefix-known Rand = refl
prefix-known Rator = refl
prefix-known Abs = refl
prefix-known Sub = refl
prefix-known Depth = refl
prefix-known OnceDepth = refl
prefix-known TopDepth = refl

prefix-named : (conversional : Conversional) → prefix_of_word (conversional_word conversional) ≡ Some (prefix_for conversional)
prefix-named Repeatc = refl
prefix-named TryConv = refl
prefix-named RandConv = refl
prefix-named RatorConv = refl
prefix-named AbsConv = refl
prefix-named SubConv = refl
prefix-named DepthConv = refl
prefix-named OnceDepthConv = refl
prefix-named TopDepthConv = refl

no-single : (conversional : Conversional) → single_of_word (conversional_word conversional) ≡ None
no-single Repeatc = refl
no-single TryConv = refl
no-single RandConv = refl
no-single RatorConv = refl
no-single AbsConv = refl
no-single SubConv = refl
no-single DepthConv = refl
no-single OnceDepthConv = refl
no-single TopDepthConv = refl

single-known : (single : Single) → single_of_word (single_word single) ≡ Some single
single-known All = refl
single-known No = refl
single-known Beta = refl
single-known Rewr = refl
single-known Host = refl

means-prefix : (prefix : Prefix) (meaning : Conversion) → with_prefix prefix meaning ≡ tools.with_prefix (conversional_of prefix) meaning
means-prefix Repeat meaning = refl
means-prefix Try meaning = refl
means-prefix Rand meaning = refl
means-prefix Rator meaning = refl
means-prefix Abs meaning = refl
means-prefix Sub meaning = refl
means-prefix Depth meaning = refl
means-prefix OnceDepth meaning = refl
means-prefix TopDepth meaning = refl

-- ---- what a unit begins with

abbrev single_for : ConversionLeaf → Single
single_for all_conv = All
single_for no_conv = No
single_for beta_conv = Beta
single_for (rewr_conv name) = Rewr
single_for (host_conv name) = Host

abbrev prefix_at : List Token → Option Prefix
prefix_at [] = None
prefix_at (Name word ∷ rest) = prefix_of_word word
prefix_at (Number digits ∷ rest) = None
prefix_at (Mark symbol ∷ rest) = None

abbrev single_at : List Token → Option Single
single_at [] = None
single_at (Name word ∷ rest) = single_of_word word
single_at (Number digits ∷ rest) = None
single_at (Mark symbol ∷ rest) = None

leaf-prefix : (conversion : ConversionLeaf) (rest : List Token) → prefix_at (leaf_tokens conversion rest) ≡ None
leaf-prefix all_conv rest = refl
leaf-prefix no_conv rest = refl
leaf-prefix beta_conv rest = refl
leaf-prefix (rewr_conv name) rest = refl
leaf-prefix (host_conv name) rest = refl

leaf-single : (conversion : ConversionLeaf) (rest : List Token) → single_at (leaf_tokens conversion rest) ≡ Some (single_for conversion)
leaf-single all_conv rest = refl
leaf-single no_conv rest = refl
leaf-single beta_conv rest = refl
leaf-single (rewr_conv name) rest = refl
leaf-single (host_conv name) rest = refl

-- no unit begins with another word
pub no-unit-word : (room : ℕ) (tokens inner : List Token) (word : List ℕ) → tokens ≡ Name word ∷ inner → prefix_of_word word ≡ None → single_of_word word ≡ None → IsNoUnit room tokens
no-unit-word room tokens inner word begins no_prefix no_single = go
  where
    go : IsNoUnit room tokens
    go (prefixed conversional operand) rest within same =
        (let start : Some (prefix_for conversional) ≡ None = sym (prefix-named conversional) ∙ ap prefix_at (sym same ∙ begins) ∙ no_prefix in cc)
    go (enclosed conversion) rest within same = (let both : Mark OpenParenthesis ∷ conversion_tokens conversion (Mark CloseParenthesis ∷ rest) ≡ Name word ∷ inner = sym same ∙ begins in cc)
    go (leaf conversion) rest within same = (let start : Some (single_for conversion) ≡ None = sym (leaf-single conversion rest) ∙ ap single_at (sym same ∙ begins) ∙ no_single in cc)

-- no unit begins with neither a parenthesis nor a name
pub no-unit : (room : ℕ) (tokens : List Token) → ((rest : List Token) → tokens ≢ Mark OpenParenthesis ∷ rest) → ((name : List ℕ) (rest : List Token) → tokens ≢ Name name ∷ rest) → IsNoUnit room tokens
no-unit room tokens no_mark no_name = go
  where
    go : IsNoUnit room tokens
    go (prefixed conversional operand) rest within same = no_name _ _ same
    go (enclosed conversion) rest within same = no_mark _ same
    go (leaf all_conv) rest within same = no_name _ _ same
    go (leaf no_conv) rest within same = no_name _ _ same
    go (leaf beta_conv) rest within same = no_name _ _ same
    go (leaf (rewr_conv name)) rest within same = no_name _ _ same
    go (leaf (host_conv name)) rest within same = no_name _ _ same

-- ---- conversions without parts

leaf-same : (a b : ConversionLeaf) (r s : List Token) → single_for a ≡ single_for b → leaf_tokens a r ≡ leaf_tokens b s → r ≡ s
leaf-same all_conv all_conv r s kind same = cc
leaf-same no_conv no_conv r s kind same = cc
leaf-same beta_conv beta_conv r s kind same = cc
leaf-same (rewr_conv a) (rewr_conv b) r s kind same = cc
leaf-same (host_conv a) (host_conv b) r s kind same = cc
leaf-same a b r s kind same = cc

pub leaf-read : (conversion : ConversionLeaf) (room : ℕ) (tokens rest : List Token) → tokens ≡ leaf_tokens conversion rest → IsUnit room tokens rest (conversion_of_leaf conversion)
leaf-read conversion room tokens rest begins = record { tree = leaf conversion; nested = omega arith; spelled = begins; means = refl; only = only }
  where
    only : (other : ConversionUnit) (left : List Token) → unit_depth other ≤ room → tokens ≡ unit_tokens other left → left ≡ rest
    only (prefixed conversional operand) left within same =
        (let start : Some (prefix_for conversional) ≡ None = sym (prefix-named conversional) ∙ ap prefix_at (sym same ∙ begins) ∙ leaf-prefix conversion rest in cc)
    only (enclosed inner) left within same =
        (let start : ◌≡◌ {A = Option Single} None (Some (single_for conversion)) = ap single_at (sym same ∙ begins) ∙ leaf-single conversion rest in cc)
    only (leaf other) left within same =
        let start : Some (single_for other) ≡ Some (single_for conversion) = sym (leaf-single other left) ∙ ap single_at (sym same ∙ begins) ∙ leaf-single conversion rest in
        let kind : single_for other ≡ single_for conversion = cc in
        leaf-same other conversion left rest kind (sym same ∙ begins)

-- REWR_CONV and HOST without a name
abbrev pub TakesName : Single → Type 0
TakesName Rewr = Unit {0}
TakesName Host = Unit {0}
TakesName single = ⊥

pub unnamed : (single : Single) (room : ℕ) (tokens inner : List Token) → TakesName single → tokens ≡ Name (single_word single) ∷ inner
    → ((name : List ℕ) (rest : List Token) → inner ≢ Name name ∷ rest)
    → IsNoUnit room tokens
unnamed single room tokens inner takes begins none = go
  where
    go_leaf : (conversion : ConversionLeaf) (rest : List Token) → TakesName (single_for conversion) → Name (single_word single) ∷ inner ≡ leaf_tokens conversion rest → ⊥
    go_leaf all_conv rest takes_name same = takes_name
    go_leaf no_conv rest takes_name same = takes_name
    go_leaf beta_conv rest takes_name same = takes_name
    go_leaf (rewr_conv name) rest takes_name same = (let further : inner ≡ Name name ∷ rest = cc in none name rest further)
    go_leaf (host_conv name) rest takes_name same = (let further : inner ≡ Name name ∷ rest = cc in none name rest further)

    go : IsNoUnit room tokens
    go (prefixed conversional operand) rest within same =
        (let start : None ≡ Some single = sym (no-single conversional) ∙ ap single_at (sym same ∙ begins) ∙ single-known single in cc)
    go (enclosed conversion) rest within same =
        (let both : Name (single_word single) ∷ inner ≡ Mark OpenParenthesis ∷ conversion_tokens conversion (Mark CloseParenthesis ∷ rest) = sym begins ∙ same in cc)
    go (leaf conversion) rest within same =
        let start : Some (single_for conversion) ≡ Some single = sym (leaf-single conversion rest) ∙ ap single_at (sym same ∙ begins) ∙ single-known single in
        let kind : single_for conversion ≡ single = cc in
        go_leaf conversion rest (subst TakesName (sym kind) takes) (sym begins ∙ same)

-- ---- a conversional and its operand

pub prefix-read : (prefix : Prefix) (room less : ℕ) (tokens inner rest : List Token) (meaning made : Conversion) → made ≡ with_prefix prefix meaning → less + 1 ≡ room
    → tokens ≡ Name (conversional_word (conversional_of prefix)) ∷ inner
    → IsUnit less inner rest meaning → IsUnit room tokens rest made
prefix-read prefix room less tokens inner rest meaning made is more begins read = record {
  tree = prefixed (conversional_of prefix) read.tree;
  nested = omega (arith, read.nested, more);
  spelled = begins ∙ ap (λ (ts : List Token). Name (conversional_word (conversional_of prefix)) ∷ ts) read.spelled;
  means = is ∙ means-prefix prefix meaning ∙ ap (tools.with_prefix (conversional_of prefix)) read.means;
  only = only;
}
  where
    only : (other : ConversionUnit) (left : List Token) → unit_depth other ≤ room → tokens ≡ unit_tokens other left → left ≡ rest
    only (prefixed conversional operand) left within same =
        let both : Name (conversional_word (conversional_of prefix)) ∷ inner ≡ Name (conversional_word conversional) ∷ unit_tokens operand left = sym begins ∙ same in
        let further : inner ≡ unit_tokens operand left = cc in
        read.only operand left (omega (arith, within, more)) further
    only (enclosed conversion) left within same =
        (let both : Name (conversional_word (conversional_of prefix)) ∷ inner ≡ Mark OpenParenthesis ∷ conversion_tokens conversion (Mark CloseParenthesis ∷ left) = sym begins ∙ same in cc)
    only (leaf conversion) left within same =
        (let start : None ≡ Some prefix = sym (leaf-prefix conversion left) ∙ ap prefix_at (sym same ∙ begins) ∙ prefix-known prefix in cc)

pub prefix-refused : (prefix : Prefix) (room less : ℕ) (tokens inner : List Token) → less + 1 ≡ room → tokens ≡ Name (conversional_word (conversional_of prefix)) ∷ inner
    → IsNoUnit less inner → IsNoUnit room tokens
prefix-refused prefix room less tokens inner more begins none = go
  where
    go : IsNoUnit room tokens
    go (prefixed conversional operand) left within same =
        let both : Name (conversional_word (conversional_of prefix)) ∷ inner ≡ Name (conversional_word conversional) ∷ unit_tokens operand left = sym begins ∙ same in
        let further : inner ≡ unit_tokens operand left = cc in
        none operand left (omega (arith, within, more)) further
    go (enclosed conversion) left within same =
        (let both : Name (conversional_word (conversional_of prefix)) ∷ inner ≡ Mark OpenParenthesis ∷ conversion_tokens conversion (Mark CloseParenthesis ∷ left) = sym begins ∙ same in cc)
    go (leaf conversion) left within same =
        (let start : None ≡ Some prefix = sym (leaf-prefix conversion left) ∙ ap prefix_at (sym same ∙ begins) ∙ prefix-known prefix in cc)

pub prefix-too-deep : (prefix : Prefix) (tokens inner : List Token) → tokens ≡ Name (conversional_word (conversional_of prefix)) ∷ inner → IsNoUnit 0 tokens
prefix-too-deep prefix tokens inner begins = go
  where
    go : IsNoUnit 0 tokens
    go (prefixed conversional operand) left within same = absurd (omega (arith, within))
    go (enclosed conversion) left within same = absurd (omega (arith, within))
    go (leaf conversion) left within same =
        (let start : None ≡ Some prefix = sym (leaf-prefix conversion left) ∙ ap prefix_at (sym same ∙ begins) ∙ prefix-known prefix in cc)

-- ---- parentheses

leaf-name : {A : Type 0} (conversion : ConversionLeaf) (left inner : List Token) → leaf_tokens conversion left ≡ Mark OpenParenthesis ∷ inner → A
leaf-name all_conv left inner same = cc
leaf-name no_conv left inner same = cc
leaf-name beta_conv left inner same = cc
leaf-name (rewr_conv name) left inner same = cc
leaf-name (host_conv name) left inner same = cc

closed-ends : (rest : List Token) → Ends (Mark CloseParenthesis ∷ rest)
closed-ends rest = record { then = λ others same. cc; else = λ others same. cc }

pub enclosed-read : (room less : ℕ) (tokens inner left rest : List Token) (meaning : Conversion) → less + 1 ≡ room → tokens ≡ Mark OpenParenthesis ∷ inner → left ≡ Mark CloseParenthesis ∷ rest
    → IsWhole less inner left meaning → IsUnit room tokens rest meaning
enclosed-read room less tokens inner left rest meaning more begins ends read = record {
  tree = enclosed read.tree;
  nested = omega (arith, read.nested, more);
  spelled = begins ∙ ap (λ (ts : List Token). Mark OpenParenthesis ∷ ts) (read.spelled ∙ ap (conversion_tokens read.tree) ends);
  means = read.means;
  only = only;
}
  where
    only : (other : ConversionUnit) (behind : List Token) → unit_depth other ≤ room → tokens ≡ unit_tokens other behind → behind ≡ rest
    only (prefixed conversional operand) behind within same =
        (let both : Mark OpenParenthesis ∷ inner ≡ Name (conversional_word conversional) ∷ unit_tokens operand behind = sym begins ∙ same in cc)
    only (enclosed conversion) behind within same =
        let both : Mark OpenParenthesis ∷ inner ≡ Mark OpenParenthesis ∷ conversion_tokens conversion (Mark CloseParenthesis ∷ behind) = sym begins ∙ same in
        let further : inner ≡ conversion_tokens conversion (Mark CloseParenthesis ∷ behind) = cc in
        let rests : ◌≡◌ {A = List Token} (Mark CloseParenthesis ∷ behind) (Mark CloseParenthesis ∷ rest) =
        read.only conversion (Mark CloseParenthesis ∷ behind) (omega (arith, within, more)) (closed-ends behind) further ∙ ends in
        cc
    only (leaf conversion) behind within same = leaf-name conversion behind inner (sym same ∙ begins)

-- whatever keeps a conversion from standing in the parentheses
enclosed-none : (room : ℕ) (tokens inner : List Token) → tokens ≡ Mark OpenParenthesis ∷ inner
    → ((conversion : grammar.Conversion) (behind : List Token) → 1 + conversion_depth conversion ≤ room → inner ≢ conversion_tokens conversion (Mark CloseParenthesis ∷ behind)) → IsNoUnit room tokens
enclosed-none room tokens inner begins none = go
  where
    go : IsNoUnit room tokens
    go (prefixed conversional operand) behind within same =
        (let both : Mark OpenParenthesis ∷ inner ≡ Name (conversional_word conversional) ∷ unit_tokens operand behind = sym begins ∙ same in cc)
    go (enclosed conversion) behind within same =
        let both : Mark OpenParenthesis ∷ inner ≡ Mark OpenParenthesis ∷ conversion_tokens conversion (Mark CloseParenthesis ∷ behind) = sym begins ∙ same in
        let further : inner ≡ conversion_tokens conversion (Mark CloseParenthesis ∷ behind) = cc in
        none conversion behind within further
    go (leaf conversion) behind within same = leaf-name conversion behind inner (sym same ∙ begins)

pub enclosed-open : (room less : ℕ) (tokens inner left : List Token) (meaning : Conversion) → less + 1 ≡ room → tokens ≡ Mark OpenParenthesis ∷ inner
    → ((rest : List Token) → left ≢ Mark CloseParenthesis ∷ rest)
    → IsWhole less inner left meaning → IsNoUnit room tokens
enclosed-open room less tokens inner left meaning more begins open_still read = enclosed-none room tokens inner begins (λ conversion behind within same.
    open_still behind (sym (read.only conversion (Mark CloseParenthesis ∷ behind) (omega (arith, within, more)) (closed-ends behind) same)))

pub enclosed-refused : (room less : ℕ) (tokens inner : List Token) → less + 1 ≡ room → tokens ≡ Mark OpenParenthesis ∷ inner → IsNoWhole less inner → IsNoUnit room tokens
enclosed-refused room less tokens inner more begins none = enclosed-none room tokens inner begins (λ conversion behind within same.
    none conversion (Mark CloseParenthesis ∷ behind) (omega (arith, within, more)) (closed-ends behind) same)

pub enclosed-too-deep : (tokens inner : List Token) → tokens ≡ Mark OpenParenthesis ∷ inner → IsNoUnit 0 tokens
enclosed-too-deep tokens inner begins = enclosed-none 0 tokens inner begins (λ conversion behind within same. omega (arith, within))

-- ---- chains

listed-more : (meanings : List Conversion) (meaning : Conversion) (others : Conversions) → listed (meanings ++ meaning ∷ []) others ≡ listed meanings (conversions.more meaning others)
listed-more [] meaning others = refl
listed-more (first ∷ meanings) meaning others = ap (conversions.more first) (listed-more meanings meaning others)

listed-all : (meanings : List Conversion) → listed meanings conversions.no_more ≡ all_conversions meanings
listed-all [] = refl
listed-all (first ∷ meanings) = ap (conversions.more first) (listed-all meanings)

joined-more : (make : Conversion → Conversions → Conversion) (taken : List Conversion) (meaning first : Conversion) (others : Conversions)
    → joined make (taken ++ meaning ∷ []) first others ≡ joined make taken meaning (conversions.more first others)
joined-more make [] meaning first others = refl
joined-more make (known ∷ taken) meaning first others = ap (make known) (listed-more taken meaning (conversions.more first others))

joined-all : (make : Conversion → Conversions → Conversion) (taken : List Conversion) (meaning first : Conversion) (others : List Conversion) → first ∷ others ≡ taken ++ meaning ∷ []
    → make first (all_conversions others) ≡ joined make taken meaning conversions.no_more
joined-all make [] meaning first others same =
    let both : first ∷ others ≡ meaning ∷ [] = same in
    let one : first ≡ meaning = cc in
    let none : others ≡ [] = cc in
    ap (λ (m : Conversion). make m (all_conversions others)) one ∙ ap (λ (ms : List Conversion). make meaning (all_conversions ms)) none
joined-all make (known ∷ taken) meaning first others same =
    let both : first ∷ others ≡ known ∷ (taken ++ meaning ∷ []) = same in
    let one : first ≡ known = cc in
    let more : others ≡ taken ++ meaning ∷ [] = cc in
    ap (λ (m : Conversion). make m (all_conversions others)) one ∙ ap (λ (ms : List Conversion). make known (all_conversions ms)) more
    ∙ ap (make known) (sym (listed-all (taken ++ meaning ∷ [])) ∙ listed-more taken meaning conversions.no_more)

mapped : (taken : List Conv) (conv : Conv) → map conversion_of (taken ++ conv ∷ []) ≡ map conversion_of taken ++ conversion_of conv ∷ []
mapped [] conv = refl
mapped (first ∷ taken) conv = ap (λ (ms : List Conversion). conversion_of first ∷ ms) (mapped taken conv)

-- what is made of parts, of which the last was put behind the others
pub made-of : (make : Conversion → Conversions → Conversion) (taken others : List Conv) (conv first : Conv) → first ∷ others ≡ taken ++ conv ∷ []
    → make (conversion_of first) (conversions_of others) ≡ joined make (map conversion_of taken) (conversion_of conv) conversions.no_more
made-of make taken others conv first all =
    joined-all make (map conversion_of taken) (conversion_of conv) (conversion_of first) (map conversion_of others) (ap (map conversion_of) all ∙ mapped taken conv)

-- ---- chains of ORELSEC

pub choice-begun : (room : ℕ) (tokens : List Token) → IsChoicePart room tokens tokens []
choice-begun room tokens = record { completes = completes; goes = goes }
  where
    completes : (tree : ConversionChoice) (rest : List Token) → choice_depth tree ≤ room → tokens ≡ choice_tokens tree rest → MeantChoice room tokens rest (choice_behind [] tree)
    completes (orelsec_chain first others) rest within same = record { tree = orelsec_chain first others; nested = within; spelled = same; means = refl }

    goes : (tree : ConversionChoice) (rest : List Token) → choice_depth tree ≤ room → Without (codes "ORELSEC") rest → tokens ≡ choice_tokens tree rest → Choice room tokens rest
    goes tree rest within none same = record { tree = tree; nested = within; spelled = same }

choice-more : (room : ℕ) (tokens left further inner : List Token) (meaning : Conversion) (taken more : List Conversion) → more ≡ taken ++ meaning ∷ []
    → IsChoicePart room tokens left taken → IsUnit room left further meaning → further ≡ Name (codes "ORELSEC") ∷ inner → IsChoicePart room tokens inner more
choice-more room tokens left further inner meaning taken more added part read begins = record { completes = completes; goes = goes }
  where
    completes : (tree : ConversionChoice) (rest : List Token) → choice_depth tree ≤ room → inner ≡ choice_tokens tree rest → MeantChoice room tokens rest (choice_behind more tree)
    completes (orelsec_chain first others) rest within same =
        let known = part.completes (orelsec_chain read.tree (orelsec first others)) rest (max-le read.nested within)
        (read.spelled ∙ ap (unit_tokens read.tree) (begins ∙ ap (λ (ts : List Token). Name (codes "ORELSEC") ∷ ts) same)) in
        let list : joined either more (conversion_of_unit first) (other_conversions others)
        ≡ joined either taken (conversion_of_unit read.tree) (conversions.more (conversion_of_unit first) (other_conversions others)) =
        ap (λ (ms : List Conversion). joined either ms (conversion_of_unit first) (other_conversions others)) added
        ∙ joined-more either taken meaning (conversion_of_unit first) (other_conversions others)
        ∙ ap (λ (m : Conversion). joined either taken m (conversions.more (conversion_of_unit first) (other_conversions others))) read.means in
        record { tree = known.tree; nested = known.nested; spelled = known.spelled; means = list ∙ known.means }

    goes : (tree : ConversionChoice) (rest : List Token) → choice_depth tree ≤ room → Without (codes "ORELSEC") rest → tokens ≡ choice_tokens tree rest → Choice room inner rest
    goes tree rest within none same = go known.tree known.nested known.spelled
      where
        known : Choice room left rest
        known = part.goes tree rest within none same

        go : (tree : ConversionChoice) → choice_depth tree ≤ room → left ≡ choice_tokens tree rest → Choice room inner rest
        go (orelsec_chain unit no_more_orelsec) small is =
            absurd (none inner (read.only unit rest (omega (arith, small, le-max_left (unit_depth unit) (other_depth no_more_orelsec))) is ∙ begins))
        go (orelsec_chain unit (orelsec second others)) small is =
            let next : Name (codes "ORELSEC") ∷ unit_tokens second (other_tokens others rest) ≡ further =
            read.only unit (other_tokens (orelsec second others) rest) (omega (arith, small, le-max_left (unit_depth unit) (other_depth (orelsec second others)))) is in
            let both : Name (codes "ORELSEC") ∷ unit_tokens second (other_tokens others rest) ≡ Name (codes "ORELSEC") ∷ inner = next ∙ begins in
            let onward : inner ≡ unit_tokens second (other_tokens others rest) = cc in
            record {
              tree = orelsec_chain second others;
              nested = omega (arith, small, le-max_right (unit_depth unit) (other_depth (orelsec second others)));
              spelled = onward;
            }

pub choice-goes-on : (room : ℕ) (tokens left further inner : List Token) (taken more : List Conv) (conv : Conv) → more ≡ taken ++ conv ∷ []
    → IsChoicePart room tokens left (map conversion_of taken) → IsUnit room left further (conversion_of conv) → further ≡ Name (codes "ORELSEC") ∷ inner
    → IsChoicePart room tokens inner (map conversion_of more)
choice-goes-on room tokens left further inner taken more conv added part read begins =
    choice-more room tokens left further inner (conversion_of conv) (map conversion_of taken) (map conversion_of more) (ap (map conversion_of) added ∙ mapped taken conv) part read begins

pub choice-ended : (room : ℕ) (tokens left further : List Token) (meaning made : Conversion) (taken : List Conversion) → IsChoicePart room tokens left taken → IsUnit room left further meaning
    → Without (codes "ORELSEC") further → made ≡ joined either taken meaning conversions.no_more → IsChoice room tokens further made
choice-ended room tokens left further meaning made taken part read ended is = record {
  tree = known.tree;
  nested = known.nested;
  spelled = known.spelled;
  means = is ∙ ap (λ (m : Conversion). joined either taken m conversions.no_more) read.means ∙ known.means;
  only = only;
}
  where
    none_left : other_depth no_more_orelsec ≤ room
    none_left = omega arith

    known : MeantChoice room tokens further (joined either taken (conversion_of_unit read.tree) conversions.no_more)
    known = part.completes (orelsec_chain read.tree no_more_orelsec) further (max-le read.nested none_left) read.spelled

    go : (tree : ConversionChoice) (rest : List Token) → choice_depth tree ≤ room → left ≡ choice_tokens tree rest → rest ≡ further
    go (orelsec_chain unit no_more_orelsec) rest small is = read.only unit rest (omega (arith, small, le-max_left (unit_depth unit) (other_depth no_more_orelsec))) is
    go (orelsec_chain unit (orelsec second others)) rest small is =
        let next : Name (codes "ORELSEC") ∷ unit_tokens second (other_tokens others rest) ≡ further =
        read.only unit (other_tokens (orelsec second others) rest) (omega (arith, small, le-max_left (unit_depth unit) (other_depth (orelsec second others)))) is in
        absurd (ended (unit_tokens second (other_tokens others rest)) (sym next))

    only : (other : ConversionChoice) (rest : List Token) → choice_depth other ≤ room → Without (codes "ORELSEC") rest → tokens ≡ choice_tokens other rest → rest ≡ further
    only other rest within none same = (let others = part.goes other rest within none same in go others.tree rest others.nested others.spelled)

pub choice-refused : (room : ℕ) (tokens left : List Token) (taken : List Conversion) → IsChoicePart room tokens left taken → IsNoUnit room left → IsNoChoice room tokens
choice-refused room tokens left taken part refused tree rest within none same = go known.tree known.nested known.spelled
  where
    known : Choice room left rest
    known = part.goes tree rest within none same

    go : (tree : ConversionChoice) → choice_depth tree ≤ room → left ≡ choice_tokens tree rest → ⊥
    go (orelsec_chain unit others) small is = refused unit (other_tokens others rest) (omega (arith, small, le-max_left (unit_depth unit) (other_depth others))) is

-- ---- chains of THENC

further-without : (further : FurtherConversions) (rest : List Token) → Ends rest → Without (codes "ORELSEC") (further_tokens further rest)
further-without no_more_thenc rest ends = ends.else
further-without (thenc choice further) rest ends = λ others same. cc

pub whole-begun : (room : ℕ) (tokens : List Token) → IsWholePart room tokens tokens []
whole-begun room tokens = record { completes = completes; goes = goes }
  where
    completes : (tree : grammar.Conversion) (rest : List Token) → conversion_depth tree ≤ room → tokens ≡ conversion_tokens tree rest → MeantWhole room tokens rest (whole_behind [] tree)
    completes (thenc_chain first further) rest within same = record { tree = thenc_chain first further; nested = within; spelled = same; means = refl }

    goes : (tree : grammar.Conversion) (rest : List Token) → conversion_depth tree ≤ room → Ends rest → tokens ≡ conversion_tokens tree rest → Whole room tokens rest
    goes tree rest within ends same = record { tree = tree; nested = within; spelled = same }

whole-more : (room : ℕ) (tokens left further inner : List Token) (meaning : Conversion) (taken more : List Conversion) → more ≡ taken ++ meaning ∷ []
    → IsWholePart room tokens left taken → IsChoice room left further meaning → further ≡ Name (codes "THENC") ∷ inner → IsWholePart room tokens inner more
whole-more room tokens left further inner meaning taken more added part read begins = record { completes = completes; goes = goes }
  where
    completes : (tree : grammar.Conversion) (rest : List Token) → conversion_depth tree ≤ room → inner ≡ conversion_tokens tree rest → MeantWhole room tokens rest (whole_behind more tree)
    completes (thenc_chain first others) rest within same =
        let known = part.completes (thenc_chain read.tree (thenc first others)) rest (max-le read.nested within)
        (read.spelled ∙ ap (choice_tokens read.tree) (begins ∙ ap (λ (ts : List Token). Name (codes "THENC") ∷ ts) same)) in
        let list : joined in_order more (conversion_of_choice first) (further_conversions others)
        ≡ joined in_order taken (conversion_of_choice read.tree) (conversions.more (conversion_of_choice first) (further_conversions others)) =
        ap (λ (ms : List Conversion). joined in_order ms (conversion_of_choice first) (further_conversions others)) added
        ∙ joined-more in_order taken meaning (conversion_of_choice first) (further_conversions others)
        ∙ ap (λ (m : Conversion). joined in_order taken m (conversions.more (conversion_of_choice first) (further_conversions others))) read.means in
        record { tree = known.tree; nested = known.nested; spelled = known.spelled; means = list ∙ known.means }

    goes : (tree : grammar.Conversion) (rest : List Token) → conversion_depth tree ≤ room → Ends rest → tokens ≡ conversion_tokens tree rest → Whole room inner rest
    goes tree rest within ends same = go known.tree known.nested known.spelled
      where
        known : Whole room left rest
        known = part.goes tree rest within ends same

        go : (tree : grammar.Conversion) → conversion_depth tree ≤ room → left ≡ conversion_tokens tree rest → Whole room inner rest
        go (thenc_chain choice no_more_thenc) small is =
            absurd (ends.then inner (read.only choice rest (omega (arith, small, le-max_left (choice_depth choice) (further_depth no_more_thenc))) ends.else is ∙ begins))
        go (thenc_chain choice (thenc second others)) small is =
            let next : Name (codes "THENC") ∷ choice_tokens second (further_tokens others rest) ≡ further =
            read.only choice (further_tokens (thenc second others) rest) (omega (arith, small, le-max_left (choice_depth choice) (further_depth (thenc second others))))
            (further-without (thenc second others) rest ends) is in
            let both : Name (codes "THENC") ∷ choice_tokens second (further_tokens others rest) ≡ Name (codes "THENC") ∷ inner = next ∙ begins in
            let onward : inner ≡ choice_tokens second (further_tokens others rest) = cc in
            record {
              tree = thenc_chain second others;
              nested = omega (arith, small, le-max_right (choice_depth choice) (further_depth (thenc second others)));
              spelled = onward;
            }

pub whole-goes-on : (room : ℕ) (tokens left further inner : List Token) (taken more : List Conv) (conv : Conv) → more ≡ taken ++ conv ∷ []
    → IsWholePart room tokens left (map conversion_of taken) → IsChoice room left further (conversion_of conv) → further ≡ Name (codes "THENC") ∷ inner
    → IsWholePart room tokens inner (map conversion_of more)
whole-goes-on room tokens left further inner taken more conv added part read begins =
    whole-more room tokens left further inner (conversion_of conv) (map conversion_of taken) (map conversion_of more) (ap (map conversion_of) added ∙ mapped taken conv) part read begins

pub whole-ended : (room : ℕ) (tokens left further : List Token) (meaning made : Conversion) (taken : List Conversion) → IsWholePart room tokens left taken → IsChoice room left further meaning
    → Without (codes "THENC") further → made ≡ joined in_order taken meaning conversions.no_more → IsWhole room tokens further made
whole-ended room tokens left further meaning made taken part read ended is = record {
  tree = known.tree;
  nested = known.nested;
  spelled = known.spelled;
  means = is ∙ ap (λ (m : Conversion). joined in_order taken m conversions.no_more) read.means ∙ known.means;
  only = only;
}
  where
    none_left : further_depth no_more_thenc ≤ room
    none_left = omega arith

    known : MeantWhole room tokens further (joined in_order taken (conversion_of_choice read.tree) conversions.no_more)
    known = part.completes (thenc_chain read.tree no_more_thenc) further (max-le read.nested none_left) read.spelled

    go : (tree : grammar.Conversion) (rest : List Token) → conversion_depth tree ≤ room → Ends rest → left ≡ conversion_tokens tree rest → rest ≡ further
    go (thenc_chain choice no_more_thenc) rest small ends is =
        read.only choice rest (omega (arith, small, le-max_left (choice_depth choice) (further_depth no_more_thenc))) ends.else is
    go (thenc_chain choice (thenc second others)) rest small ends is =
        let next : Name (codes "THENC") ∷ choice_tokens second (further_tokens others rest) ≡ further =
        read.only choice (further_tokens (thenc second others) rest) (omega (arith, small, le-max_left (choice_depth choice) (further_depth (thenc second others))))
        (further-without (thenc second others) rest ends) is in
        absurd (ended (choice_tokens second (further_tokens others rest)) (sym next))

    only : (other : grammar.Conversion) (rest : List Token) → conversion_depth other ≤ room → Ends rest → tokens ≡ conversion_tokens other rest → rest ≡ further
    only other rest within ends same = (let others = part.goes other rest within ends same in go others.tree rest others.nested ends others.spelled)

pub whole-refused : (room : ℕ) (tokens left : List Token) (taken : List Conversion) → IsWholePart room tokens left taken → IsNoChoice room left → IsNoWhole room tokens
whole-refused room tokens left taken part refused tree rest within ends same = go known.tree known.nested known.spelled
  where
    known : Whole room left rest
    known = part.goes tree rest within ends same

    go : (tree : grammar.Conversion) → conversion_depth tree ≤ room → left ≡ conversion_tokens tree rest → ⊥
    go (thenc_chain choice further) small is =
        refused choice (further_tokens further rest) (omega (arith, small, le-max_left (choice_depth choice) (further_depth further))) (further-without further rest ends) is

-- ---- readings

pub either-several : (first : Conversion) (others : List Conv) (count : ℕ) → count ≡ length others → false ≡ (count == 0)
    → conversions.orelsec first (conversions_of others) ≡ either first (conversions_of others)
either-several first [] count is some = (let none : false ≡ (0 == 0) = some ∙ ap (λ (n : ℕ). n == 0) is in cc)
either-several first (other ∷ others) count is some = refl

pub in_order-several : (first : Conversion) (others : List Conv) (count : ℕ) → count ≡ length others → false ≡ (count == 0)
    → conversions.thenc first (conversions_of others) ≡ in_order first (conversions_of others)
in_order-several first [] count is some = (let none : false ≡ (0 == 0) = some ∙ ap (λ (n : ℕ). n == 0) is in cc)
in_order-several first (other ∷ others) count is some = refl

pub leaf-at : (conversion : ConversionLeaf) (at next room : ℕ) (tokens : List TokenHere) → at < next → next ≤ length tokens → behind at tokens ≡ leaf_tokens conversion (behind next tokens)
    → Reaches at next tokens × IsUnit room (behind at tokens) (behind next tokens) (conversion_of_leaf conversion)
leaf-at conversion at next room tokens further within begins = (record { further = further; within = within }, leaf-read conversion room (behind at tokens) (behind next tokens) begins)

-- a name behind the word of a conversion
pub name-behind : (word name : List ℕ) (at : ℕ) (tokens : List TokenHere) → IsAt (Name word) at tokens → IsAt (Name name) (at + 1) tokens
    → behind at tokens ≡ Name word ∷ Name name ∷ behind (at + 2) tokens
name-behind word name at tokens first second =
    let two : at + 1 + 1 ≡ at + 2 = omega arith in
    first.front ∙ ap (λ (ts : List Token). Name word ∷ ts) (second.front ∙ ap (λ (n : ℕ). Name name ∷ behind n tokens) two)

pub unnamed-at : (single : Single) (error : ReadError) (at room : ℕ) (tokens : List TokenHere) → TakesName single → IsAt (Name (single_word single)) at tokens → ReadsName (Err error) (at + 1) tokens
    → ReadsUnit (Err error) at room tokens
unnamed-at single Memory at room tokens takes front refused = tt
unnamed-at single Syntax at room tokens takes front refused = unnamed single room (behind at tokens) (behind (at + 1) tokens) takes front.front refused
