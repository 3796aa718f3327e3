-- Which words begin refiners.
use Rattle.std.proofs.Common.{◌≡◌, List, [], ◌∷◌, refl, sym, ap, ◌∙◌, Option, None, Some}
use Rattle.hol_model.specs.Texts.Token.{Token, Name, Number, Mark}
use Rattle.hol_model.specs.Texts.TermGrammar.{TermTree}
use Rattle.hol_model_sessions.specs.TacticGrammar as grammar
use Rattle.hol_model_sessions.specs.TacticGrammar.{PlainTactic, NamedTactic, QuotedTactic, plain_word, named_word, quoted_word, TacticLeaf, plain, by_name, by_quote, conv_tac, rewrite_tac}
use Rattle.hol_model_sessions.specs.TacticGrammar.{leaf_tokens, TacticUnit, repeated, tried, enclosed, leaf, tactic_unit_tokens}
use Rattle.hol_tactic_grammar.specs.declared.tactic_words.Plain.{Plain}
use Rattle.hol_tactic_grammar.specs.declared.tactic_words.Plain.TheVariants.{All, No, Assumption, Refl, Conj, Eq, Disj1, Disj2, Disch, Gen, Taut}
use Rattle.hol_tactic_grammar.specs.declared.tactic_words.Named.{Named}
use Rattle.hol_tactic_grammar.specs.declared.tactic_words.Named.TheVariants.{Accept, Assume, Mp, DisjCases, Choose, Host}
use Rattle.hol_tactic_grammar.specs.declared.tactic_words.Quoted.{Quoted}
use Rattle.hol_tactic_grammar.specs.declared.tactic_words.Quoted.TheVariants.{Exists, Undisch}
use Rattle.hol_tactic_grammar.specs.declared.tactic_words.Other.TheVariants.{Conv, Rewrite}
use Rattle.hol_tactic_grammar.specs.declared.tactic_words.Start.{Start}
use Rattle.hol_tactic_grammar.specs.declared.tactic_words.Start.TheVariants.{OfPrefix, OfPlain, OfNamed, OfQuoted, OfOther}
use Rattle.hol_tactic_grammar.specs.declared.tactics.Prefix.TheVariants.{Repeat, Try}
use Rattle.hol_tactic_grammar.specs.TacticWords.{start_word, start_of_word}

-- ---- words

pub start-known : (start : Start) → start_of_word (start_word start) ≡ Some start
start-known (OfPlain All) = refl
start-known (OfPlain No) = refl
start-known (OfPlain Assumption) = refl
start-known (OfPlain Refl) = refl
start-known (OfPlain Conj) = refl
start-known (OfPlain Eq) = refl
start-known (OfPlain Disj1) = refl
start-known (OfPlain Disj2) = refl
start-known (OfPlain Disch) = refl
start-known (OfPlain Gen) = refl
start-known (OfPlain Taut) = refl
start-known (OfNamed Accept) = refl
start-known (OfNamed Assume) = refl
start-known (OfNamed Mp) = refl
start-known (OfNamed DisjCases) = refl
start-known (OfNamed Choose) = refl
start-known (OfNamed Host) = refl
start-known (OfQuoted Exists) = refl
start-known (OfQuoted Undisch) = refl
start-known (OfPrefix Repeat) = refl
start-known (OfPrefix Try) = refl
start-known (OfOther Conv) = refl
start-known (OfOther Rewrite) = refl

abbrev pub plain_for : PlainTactic → Plain
plain_for grammar.AllTac = All
plain_for grammar.NoTac = No
plain_for grammar.AssumptionTac = Assumption
plain_for grammar.ReflTac = Refl
plain_for grammar.ConjTac = Conj
plain_for grammar.EqTac = Eq
plain_for grammar.Disj1Tac = Disj1
plain_for grammar.Disj2Tac = Disj2
plain_for grammar.DischTac = Disch
plain_for grammar.GenTac = Gen
plain_for grammar.TautTac = Taut

abbrev pub named_for : NamedTactic → Named
named_for grammar.AcceptTac = Accept
named_for grammar.AssumeTac = Assume
named_for grammar.MpTac = Mp
named_for grammar.DisjCasesTac = DisjCases
named_for grammar.ChooseTac = Choose
named_for grammar.Host = Host

abbrev pub quoted_for : QuotedTactic → Quoted
quoted_for grammar.ExistsTac = Exists
quoted_for grammar.UndischTac = Undisch

abbrev pub start_of_leaf : TacticLeaf TermTree → Start
start_of_leaf (plain tactic) = OfPlain (plain_for tactic)
start_of_leaf (by_name tactic name) = OfNamed (named_for tactic)
start_of_leaf (by_quote tactic tree) = OfQuoted (quoted_for tactic)
start_of_leaf (conv_tac conversion) = OfOther Conv
start_of_leaf (rewrite_tac names) = OfOther Rewrite

abbrev pub start_of_unit : TacticUnit TermTree → Option Start
start_of_unit (repeated operand) = Some (OfPrefix Repeat)
start_of_unit (tried operand) = Some (OfPrefix Try)
start_of_unit (enclosed tactic) = None
start_of_unit (leaf tactic) = Some (start_of_leaf tactic)

abbrev pub start_at : List Token → Option Start
start_at [] = None
start_at (Name word ∷ rest) = start_of_word word
start_at (Number digits ∷ rest) = None
start_at (Mark symbol ∷ rest) = None

plain-start : (tactic : PlainTactic) → start_of_word (plain_word tactic) ≡ Some (OfPlain (plain_for tactic))
plain-start grammar.AllTac = refl
plain-start grammar.NoTac = refl
plain-start grammar.AssumptionTac = refl
plain-start grammar.ReflTac = refl
plain-start grammar.ConjTac = refl
plain-start grammar.EqTac = refl
plain-start grammar.Disj1Tac = refl
plain-start grammar.Disj2Tac = refl
plain-start grammar.DischTac = refl
plain-start grammar.GenTac = refl
plain-start grammar.TautTac = refl

named-start : (tactic : NamedTactic) → start_of_word (named_word tactic) ≡ Some (OfNamed (named_for tactic))
named-start grammar.AcceptTac = refl
named-start grammar.AssumeTac = refl
named-start grammar.MpTac = refl
named-start grammar.DisjCasesTac = refl
named-start grammar.ChooseTac = refl
named-start grammar.Host = refl

quoted-start : (tactic : QuotedTactic) → start_of_word (quoted_word tactic) ≡ Some (OfQuoted (quoted_for tactic))
quoted-start grammar.ExistsTac = refl
quoted-start grammar.UndischTac = refl

pub leaf-start : (tactic : TacticLeaf TermTree) (rest : List Token) → start_at (leaf_tokens tactic rest) ≡ Some (start_of_leaf tactic)
leaf-start (plain tactic) rest = plain-start tactic
leaf-start (by_name tactic name) rest = named-start tactic
leaf-start (by_quote tactic tree) rest = quoted-start tactic
leaf-start (conv_tac conversion) rest = refl
leaf-start (rewrite_tac names) rest = refl

pub unit-start : (unit : TacticUnit TermTree) (rest : List Token) → start_at (tactic_unit_tokens unit rest) ≡ start_of_unit unit
unit-start (repeated operand) rest = refl
unit-start (tried operand) rest = refl
unit-start (enclosed tactic) rest = refl
unit-start (leaf tactic) rest = leaf-start tactic rest

-- what a unit begins with, where the first word is known
pub begins-with : (start : Start) (tokens inner : List Token) (unit : TacticUnit TermTree) (rest : List Token) → tokens ≡ Name (start_word start) ∷ inner
    → tokens ≡ tactic_unit_tokens unit rest → start_of_unit unit ≡ Some start
begins-with start tokens inner unit rest begins same = sym (unit-start unit rest) ∙ ap start_at (sym same ∙ begins) ∙ start-known start
