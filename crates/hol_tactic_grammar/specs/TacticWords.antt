-- The words of refiners.
use Rattle.std.specs.Prelude.{ℕ, List, Option, codes, map}
use Rattle.hol_model_sessions.specs.TacticGrammar as grammar
use Rattle.hol_model_sessions.specs.TacticGrammar.{PlainTactic, NamedTactic, QuotedTactic, plain_word, named_word, quoted_word}
use Rattle.hol_tactic_grammar.specs.Words.{meaning_in}
use Rattle.hol_tactic_grammar.specs.declared.tactic_words.TheConstants.{STARTS}
use Rattle.hol_tactic_grammar.specs.declared.tactic_words.Plain.{Plain}
use Rattle.hol_tactic_grammar.specs.declared.tactic_words.Plain.TheVariants.{All, No, Assumption, Refl, Conj, Eq, Disj1, Disj2, Disch, Gen, Taut}
use Rattle.hol_tactic_grammar.specs.declared.tactic_words.Named.{Named}
use Rattle.hol_tactic_grammar.specs.declared.tactic_words.Named.TheVariants.{Accept, Assume, Mp, DisjCases, Choose, Host}
use Rattle.hol_tactic_grammar.specs.declared.tactic_words.Quoted.{Quoted}
use Rattle.hol_tactic_grammar.specs.declared.tactic_words.Quoted.TheVariants.{Exists, Undisch}
use Rattle.hol_tactic_grammar.specs.declared.tactic_words.Other.{Other}
use Rattle.hol_tactic_grammar.specs.declared.tactic_words.Other.TheVariants.{Conv, Rewrite}
use Rattle.hol_tactic_grammar.specs.declared.tactic_words.Start.{Start}
use Rattle.hol_tactic_grammar.specs.declared.tactic_words.Start.TheVariants.{OfPrefix, OfPlain, OfNamed, OfQuoted, OfOther}
use Rattle.hol_tactic_grammar.specs.declared.tactics.Prefix.{Prefix}
use Rattle.hol_tactic_grammar.specs.declared.tactics.Prefix.TheVariants.{Repeat, Try}

abbrev pub plain_of : Plain → PlainTactic
plain_of All = grammar.AllTac
plain_of No = grammar.NoTac
plain_of Assumption = grammar.AssumptionTac
plain_of Refl = grammar.ReflTac
plain_of Conj = grammar.ConjTac
plain_of Eq = grammar.EqTac
plain_of Disj1 = grammar.Disj1Tac
plain_of Disj2 = grammar.Disj2Tac
plain_of Disch = grammar.DischTac
plain_of Gen = grammar.GenTac
plain_of Taut = grammar.TautTac

abbrev pub named_of : Named → NamedTactic
named_of Accept = grammar.AcceptTac
named_of Assume = grammar.AssumeTac
named_of Mp = grammar.MpTac
named_of DisjCases = grammar.DisjCasesTac
named_of Choose = grammar.ChooseTac
named_of Host = grammar.Host

abbrev pub quoted_of : Quoted → QuotedTactic
quoted_of Exists = grammar.ExistsTac
quoted_of Undisch = grammar.UndischTac

abbrev pub prefix_word : Prefix → List ℕ
prefix_word Repeat = codes "REPEAT"
prefix_word Try = codes "TRY"

abbrev pub other_word : Other → List ℕ
other_word Conv = codes "CONV_TAC"
other_word Rewrite = codes "REWRITE_TAC"

abbrev pub start_word : Start → List ℕ
start_word (OfPrefix prefix) = prefix_word prefix
start_word (OfPlain tactic) = plain_word (plain_of tactic)
start_word (OfNamed tactic) = named_word (named_of tactic)
start_word (OfQuoted tactic) = quoted_word (quoted_of tactic)
start_word (OfOther word) = other_word word

-- what a word begins
abbrev pub start_of_word : List ℕ → Option Start
start_of_word = meaning_in (map (λ entry. (entry.0.now, entry.1)) STARTS)
