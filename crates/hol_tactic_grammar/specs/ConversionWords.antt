-- The words of conversions.
use Rattle.std.specs.Prelude.{ℕ, List, Option, codes, map}
use Rattle.hol_model_sessions.specs.ConversionGrammar.{Conversional, Repeatc, TryConv, RandConv, RatorConv, AbsConv, SubConv, DepthConv, OnceDepthConv, TopDepthConv}
use Rattle.hol_tactic_exprs.specs.declared.conv.Prefix.{Prefix}
use Rattle.hol_tactic_exprs.specs.declared.conv.Prefix.TheVariants.{Repeat, Try, Rand, Rator, Abs, Sub, Depth, OnceDepth, TopDepth}
use Rattle.hol_tactic_grammar.specs.Words.{meaning_in}
use Rattle.hol_tactic_grammar.specs.declared.conversion_words.TheConstants.{PREFIXES, SINGLES}
use Rattle.hol_tactic_grammar.specs.declared.conversion_words.Single.{Single}
use Rattle.hol_tactic_grammar.specs.declared.conversion_words.Single.TheVariants.{All, No, Beta, Rewr, Host}

-- the prefix as a conversional of the grammar
abbrev pub conversional_of : Prefix → Conversional
conversional_of Repeat = Repeatc
conversional_of Try = TryConv
conversional_of Rand = RandConv
conversional_of Rator = RatorConv
conversional_of Abs = AbsConv
conversional_of Sub = SubConv
conversional_of Depth = DepthConv
conversional_of OnceDepth = OnceDepthConv
conversional_of TopDepth = TopDepthConv

-- the conversional that a word names
abbrev pub prefix_of_word : List ℕ → Option Prefix
prefix_of_word = meaning_in (map (λ entry. (entry.0.now, entry.1)) PREFIXES)

abbrev pub single_word : Single → List ℕ
single_word All = codes "ALL_CONV"
single_word No = codes "NO_CONV"
single_word Beta = codes "BETA_CONV"
single_word Rewr = codes "REWR_CONV"
single_word Host = codes "HOST"

-- the conversion without parts that a word names
abbrev pub single_of_word : List ℕ → Option Single
single_of_word = meaning_in (map (λ entry. (entry.0.now, entry.1)) SINGLES)
