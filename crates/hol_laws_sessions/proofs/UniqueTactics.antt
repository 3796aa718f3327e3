-- The tokens are one refiner expression's.
use Rattle.std.proofs.Common.{◌≡◌, ℕ, List, [], ◌∷◌, false, refl, sym, ap, ◌∙◌, Option, None, Some}
use Rattle.std.specs.Prelude.{codes}
use Rattle.hol_model.specs.declared.symbol.Symbol.TheVariants.{CloseParenthesis, CloseBracket}
use Rattle.hol_model.specs.Texts.Token.{Token, Mark}
use Rattle.hol_model.specs.Texts.TermGrammar.{TermTree}
use Rattle.hol_model_sessions.specs.Commands.{quote_tokens}
use Rattle.hol_model_sessions.specs.ConversionGrammar.{unit_tokens}
use Rattle.hol_model_sessions.specs.TacticGrammar.{PlainTactic, AllTac, NoTac, AssumptionTac, ReflTac, ConjTac, EqTac, Disj1Tac, Disj2Tac, DischTac, GenTac, TautTac, NamedTactic, AcceptTac}
use Rattle.hol_model_sessions.specs.TacticGrammar.{AssumeTac, MpTac, DisjCasesTac, ChooseTac, Host, QuotedTactic, ExistsTac, UndischTac, TacticLeaf, plain, by_name, by_quote, conv_tac}
use Rattle.hol_model_sessions.specs.TacticGrammar.{rewrite_tac, Tactic, then_chain, TacticLinks, no_more_then, then_all, then_each, Tactics, no_tactics, tactic_and, TacticChoice, orelse_chain}
use Rattle.hol_model_sessions.specs.TacticGrammar.{OtherTactics, no_more_orelse, orelse, TacticUnit, repeated, tried, enclosed, leaf, plain_word, named_word, quoted_word, further_name_tokens}
use Rattle.hol_model_sessions.specs.TacticGrammar.{name_tokens, leaf_tokens, tactic_tokens, link_tokens, first_tokens, further_tokens, choice_tokens, other_tokens, tactic_unit_tokens}
use Rattle.hol_model_sessions.specs.TacticGrammar.{HasQuotableLeaf, HasQuotables, HasQuotableLinks, HasQuotableList, HasQuotableChoice, HasQuotableOthers, HasQuotableUnit}
use Rattle.hol_laws_sessions.specs.UniqueReadings.{SameParse, QuotesAreUnambiguous, TacticsAreUnambiguous}
use Rattle.hol_laws_sessions.proofs.UniqueConversions.{starts_with, look_up, look_up_first, begins_otherwise, conversions-unambiguous}

-- ---- what a refiner begins with

data LeafStart : Type 0 where
  plain_start : PlainTactic → LeafStart
  named_start : NamedTactic → LeafStart
  quoted_start : QuotedTactic → LeafStart
  conv_start : LeafStart
  rewrite_start : LeafStart

data Start : Type 0 where
  leaf_start : LeafStart → Start
  repeat_start : Start
  try_start : Start

abbrev of_plain : PlainTactic → List ℕ × Start
of_plain tactic = (plain_word tactic, leaf_start (plain_start tactic))

abbrev of_named : NamedTactic → List ℕ × Start
of_named tactic = (named_word tactic, leaf_start (named_start tactic))

abbrev of_quoted : QuotedTactic → List ℕ × Start
of_quoted tactic = (quoted_word tactic, leaf_start (quoted_start tactic))

abbrev starts : List (List ℕ × Start)
starts = of_plain AllTac ∷ of_plain NoTac ∷ of_plain AssumptionTac ∷ of_plain ReflTac ∷ of_plain ConjTac ∷ of_plain EqTac ∷ of_plain Disj1Tac ∷ of_plain Disj2Tac ∷ of_plain DischTac ∷ of_plain GenTac
    ∷ of_plain TautTac ∷ of_named AcceptTac ∷ of_named AssumeTac ∷ of_named MpTac ∷ of_named DisjCasesTac ∷ of_named ChooseTac ∷ of_named Host ∷ of_quoted ExistsTac ∷ of_quoted UndischTac
    ∷ (codes "CONV_TAC", leaf_start conv_start) ∷ (codes "REWRITE_TAC", leaf_start rewrite_start) ∷ (codes "REPEAT", repeat_start) ∷ (codes "TRY", try_start) ∷ []

plain-starts : (tactic : PlainTactic) → look_up starts (plain_word tactic) ≡ Some (leaf_start (plain_start tactic))
plain-starts AllTac = refl
plain-starts NoTac = refl
plain-starts AssumptionTac = refl
plain-starts ReflTac = refl
plain-starts ConjTac = refl
plain-starts EqTac = refl
plain-starts Disj1Tac = refl
plain-starts Disj2Tac = refl
plain-starts DischTac = refl
plain-starts GenTac = refl
plain-starts TautTac = refl

named-starts : (tactic : NamedTactic) → look_up starts (named_word tactic) ≡ Some (leaf_start (named_start tactic))
named-starts AcceptTac = refl
named-starts AssumeTac = refl
named-starts MpTac = refl
named-starts DisjCasesTac = refl
named-starts ChooseTac = refl
named-starts Host = refl

quoted-starts : (tactic : QuotedTactic) → look_up starts (quoted_word tactic) ≡ Some (leaf_start (quoted_start tactic))
quoted-starts ExistsTac = refl
quoted-starts UndischTac = refl

abbrev start_of_leaf : TacticLeaf TermTree → LeafStart
start_of_leaf (plain tactic) = plain_start tactic
start_of_leaf (by_name tactic name) = named_start tactic
start_of_leaf (by_quote tactic tree) = quoted_start tactic
start_of_leaf (conv_tac conversion) = conv_start
start_of_leaf (rewrite_tac names) = rewrite_start

leaf-starts : (tactic : TacticLeaf TermTree) (rest : List Token) → look_up_first starts (leaf_tokens tactic rest) ≡ Some (leaf_start (start_of_leaf tactic))
leaf-starts (plain tactic) rest = plain-starts tactic
leaf-starts (by_name tactic name) rest = named-starts tactic
leaf-starts (by_quote tactic tree) rest = quoted-starts tactic
leaf-starts (conv_tac conversion) rest = refl
leaf-starts (rewrite_tac names) rest = refl

abbrev start_of_unit : TacticUnit TermTree → Option Start
start_of_unit (repeated operand) = Some repeat_start
start_of_unit (tried operand) = Some try_start
start_of_unit (enclosed tactic) = None
start_of_unit (leaf tactic) = Some (leaf_start (start_of_leaf tactic))

unit-starts : (unit : TacticUnit TermTree) (rest : List Token) → look_up_first starts (tactic_unit_tokens unit rest) ≡ start_of_unit unit
unit-starts (repeated operand) rest = refl
unit-starts (tried operand) rest = refl
unit-starts (enclosed tactic) rest = refl
unit-starts (leaf tactic) rest = leaf-starts tactic rest

same_starts : (a b : TacticUnit TermTree) (r s : List Token) → tactic_unit_tokens a r ≡ tactic_unit_tokens b s → start_of_unit a ≡ start_of_unit b
same_starts a b r s same = sym (unit-starts a r) ∙ ap (look_up_first starts) same ∙ unit-starts b s

-- ---- refiners with their arguments

further_names-same : (a b : List (List ℕ)) (r s : List Token) → further_name_tokens a r ≡ further_name_tokens b s → SameParse a b r s
further_names-same [] [] r s same = (let rest : r ≡ s = cc in record { same = refl; rest = rest })
further_names-same [] (b ∷ bs) r s same = cc
further_names-same (a ∷ as') [] r s same = cc
further_names-same (a ∷ as') (b ∷ bs) r s same =
    let name : a ≡ b = cc in
    let behind : further_name_tokens as' r ≡ further_name_tokens bs s = cc in
    let others = further_names-same as' bs r s behind in
    record { same = λ i. name i ∷ others.same i; rest = others.rest }

names-same : (a b : List (List ℕ)) (r s : List Token) → name_tokens a r ≡ name_tokens b s → SameParse a b r s
names-same [] [] r s same = (let rest : r ≡ s = cc in record { same = refl; rest = rest })
names-same [] (b ∷ bs) r s same = cc
names-same (a ∷ as') [] r s same = cc
names-same (a ∷ as') (b ∷ bs) r s same =
    let name : a ≡ b = cc in
    let behind : further_name_tokens as' r ≡ further_name_tokens bs s = cc in
    let others = further_names-same as' bs r s behind in
    record { same = λ i. name i ∷ others.same i; rest = others.rest }

leaf-same : QuotesAreUnambiguous → (a b : TacticLeaf TermTree) (r s : List Token) → HasQuotableLeaf a → HasQuotableLeaf b → leaf_tokens a r ≡ leaf_tokens b s →
    start_of_leaf a ≡ start_of_leaf b → SameParse a b r s
leaf-same quotes (plain a) (plain b) r s qa qb same starts = (let one : a ≡ b = cc in let rest : r ≡ s = cc in record { same = ap (λ t. plain t) one; rest = rest })
leaf-same quotes (by_name a n) (by_name b m) r s qa qb same starts =
    (let one : a ≡ b = cc in let name : n ≡ m = cc in let rest : r ≡ s = cc in record { same = λ i. by_name (one i) (name i); rest = rest })
leaf-same quotes (by_quote a t) (by_quote b u) r s qa qb same starts =
    let one : a ≡ b = cc in
    let behind : quote_tokens t r ≡ quote_tokens u s = cc in
    let quote = quotes t u r s qa qb behind in
    record { same = λ i. by_quote (one i) (quote.same i); rest = quote.rest }
leaf-same quotes (conv_tac c) (conv_tac d) r s qa qb same starts =
    let behind : unit_tokens c r ≡ unit_tokens d s = cc in
    let conversion = conversions-unambiguous c d r s behind in
    record { same = ap (λ x. conv_tac x) conversion.same; rest = conversion.rest }
leaf-same quotes (rewrite_tac a) (rewrite_tac b) r s qa qb same starts =
    let behind : name_tokens a r ≡ name_tokens b s = cc in
    let names = names-same a b r s behind in
    record { same = ap (λ x. rewrite_tac x) names.same; rest = names.rest }
leaf-same quotes a b r s qa qb same starts = cc

-- ---- what stands behind a chain

-- the rest does not go on with a chain
record IsEnd (rest : List Token) : Type 0 where
  no_then : starts_with (codes "THEN") rest ≡ false
  no_thenl : starts_with (codes "THENL") rest ≡ false
  no_orelse : starts_with (codes "ORELSE") rest ≡ false

nothing-ends : IsEnd []
nothing-ends = record { no_then = refl; no_thenl = refl; no_orelse = refl }

parenthesis-ends : (rest : List Token) → IsEnd (Mark CloseParenthesis ∷ rest)
parenthesis-ends rest = record { no_then = refl; no_thenl = refl; no_orelse = refl }

further-ends : (tactics : Tactics TermTree) (rest : List Token) → IsEnd (further_tokens tactics rest)
further-ends no_tactics rest = record { no_then = refl; no_thenl = refl; no_orelse = refl }
further-ends (tactic_and tactic others) rest = record { no_then = refl; no_thenl = refl; no_orelse = refl }

links-without : (links : TacticLinks TermTree) (rest : List Token) → starts_with (codes "ORELSE") rest ≡ false → starts_with (codes "ORELSE") (link_tokens links rest) ≡ false
links-without no_more_then rest none = none
links-without (then_all choice links) rest none = refl
links-without (then_each list links) rest none = refl

-- a bracket closes the list before another refiner
leaf-no_bracket : {A : Type 0} (tactic : TacticLeaf TermTree) (rest r : List Token) → leaf_tokens tactic rest ≡ Mark CloseBracket ∷ r → A
leaf-no_bracket (plain tactic) rest r same = cc
leaf-no_bracket (by_name tactic name) rest r same = cc
leaf-no_bracket (by_quote tactic tree) rest r same = cc
leaf-no_bracket (conv_tac conversion) rest r same = cc
leaf-no_bracket (rewrite_tac names) rest r same = cc

unit-no_bracket : {A : Type 0} (unit : TacticUnit TermTree) (rest r : List Token) → tactic_unit_tokens unit rest ≡ Mark CloseBracket ∷ r → A
unit-no_bracket (repeated operand) rest r same = cc
unit-no_bracket (tried operand) rest r same = cc
unit-no_bracket (enclosed tactic) rest r same = cc
unit-no_bracket (leaf tactic) rest r same = leaf-no_bracket tactic rest r same

tactic-no_bracket : {A : Type 0} (tactic : Tactic TermTree) (rest r : List Token) → tactic_tokens tactic rest ≡ Mark CloseBracket ∷ r → A
tactic-no_bracket (then_chain (orelse_chain first others) links) rest r same = unit-no_bracket first (other_tokens others (link_tokens links rest)) r same

-- ---- expressions

mutual
  tactic-same : QuotesAreUnambiguous → (a b : Tactic TermTree) (r s : List Token) → IsEnd r → IsEnd s → HasQuotables a → HasQuotables b → tactic_tokens a r ≡ tactic_tokens b s → SameParse a b r s
  tactic-same quotes (then_chain a as') (then_chain b bs) r s end end' qa qb same =
      let first = choice-same quotes a b (link_tokens as' r) (link_tokens bs s) (links-without as' r end.no_orelse) (links-without bs s end'.no_orelse) qa.0 qb.0 same in
      let links = links-same quotes as' bs r s end end' qa.1 qb.1 first.rest in
      record { same = λ i. then_chain (first.same i) (links.same i); rest = links.rest }

  links-same : QuotesAreUnambiguous → (a b : TacticLinks TermTree) (r s : List Token) → IsEnd r → IsEnd s → HasQuotableLinks a → HasQuotableLinks b → link_tokens a r ≡ link_tokens b s →
      SameParse a b r s
  links-same quotes no_more_then no_more_then r s end end' qa qb same = record { same = refl; rest = same }
  links-same quotes no_more_then (then_all b bs) r s end end' qa qb same = begins_otherwise (codes "THEN") r (link_tokens (then_all b bs) s) end.no_then same refl
  links-same quotes no_more_then (then_each b bs) r s end end' qa qb same = begins_otherwise (codes "THENL") r (link_tokens (then_each b bs) s) end.no_thenl same refl
  links-same quotes (then_all a as') no_more_then r s end end' qa qb same = begins_otherwise (codes "THEN") s (link_tokens (then_all a as') r) end'.no_then (sym same) refl
  links-same quotes (then_all a as') (then_all b bs) r s end end' qa qb same =
      let behind : choice_tokens a (link_tokens as' r) ≡ choice_tokens b (link_tokens bs s) = cc in
      let first = choice-same quotes a b (link_tokens as' r) (link_tokens bs s) (links-without as' r end.no_orelse) (links-without bs s end'.no_orelse) qa.0 qb.0 behind in
      let links = links-same quotes as' bs r s end end' qa.1 qb.1 first.rest in
      record { same = λ i. then_all (first.same i) (links.same i); rest = links.rest }
  links-same quotes (then_all a as') (then_each b bs) r s end end' qa qb same = begins_otherwise (codes "THENL") (link_tokens (then_all a as') r) (link_tokens (then_each b bs) s) refl same refl
  links-same quotes (then_each a as') no_more_then r s end end' qa qb same = begins_otherwise (codes "THENL") s (link_tokens (then_each a as') r) end'.no_thenl (sym same) refl
  links-same quotes (then_each a as') (then_all b bs) r s end end' qa qb same = begins_otherwise (codes "THENL") (link_tokens (then_all b bs) s) (link_tokens (then_each a as') r) refl (sym same) refl
  links-same quotes (then_each a as') (then_each b bs) r s end end' qa qb same =
      let behind : first_tokens a (link_tokens as' r) ≡ first_tokens b (link_tokens bs s) = cc in
      let list = list-same quotes a b (link_tokens as' r) (link_tokens bs s) qa.0 qb.0 behind in
      let links = links-same quotes as' bs r s end end' qa.1 qb.1 list.rest in
      record { same = λ i. then_each (list.same i) (links.same i); rest = links.rest }

  list-same : QuotesAreUnambiguous → (a b : Tactics TermTree) (r s : List Token) → HasQuotableList a → HasQuotableList b → first_tokens a r ≡ first_tokens b s → SameParse a b r s
  list-same quotes no_tactics no_tactics r s qa qb same = (let rest : r ≡ s = cc in record { same = refl; rest = rest })
  list-same quotes no_tactics (tactic_and b bs) r s qa qb same = tactic-no_bracket b (further_tokens bs s) r (sym same)
  list-same quotes (tactic_and a as') no_tactics r s qa qb same = tactic-no_bracket a (further_tokens as' r) s same
  list-same quotes (tactic_and a as') (tactic_and b bs) r s qa qb same =
      let first = tactic-same quotes a b (further_tokens as' r) (further_tokens bs s) (further-ends as' r) (further-ends bs s) qa.0 qb.0 same in
      let others = further-same quotes as' bs r s qa.1 qb.1 first.rest in
      record { same = λ i. tactic_and (first.same i) (others.same i); rest = others.rest }

  further-same : QuotesAreUnambiguous → (a b : Tactics TermTree) (r s : List Token) → HasQuotableList a → HasQuotableList b → further_tokens a r ≡ further_tokens b s → SameParse a b r s
  further-same quotes no_tactics no_tactics r s qa qb same = (let rest : r ≡ s = cc in record { same = refl; rest = rest })
  further-same quotes no_tactics (tactic_and b bs) r s qa qb same = cc
  further-same quotes (tactic_and a as') no_tactics r s qa qb same = cc
  further-same quotes (tactic_and a as') (tactic_and b bs) r s qa qb same =
      let behind : tactic_tokens a (further_tokens as' r) ≡ tactic_tokens b (further_tokens bs s) = cc in
      let first = tactic-same quotes a b (further_tokens as' r) (further_tokens bs s) (further-ends as' r) (further-ends bs s) qa.0 qb.0 behind in
      let others = further-same quotes as' bs r s qa.1 qb.1 first.rest in
      record { same = λ i. tactic_and (first.same i) (others.same i); rest = others.rest }

  choice-same : QuotesAreUnambiguous → (a b : TacticChoice TermTree) (r s : List Token) → starts_with (codes "ORELSE") r ≡ false → starts_with (codes "ORELSE") s ≡ false →
      HasQuotableChoice a → HasQuotableChoice b
      → choice_tokens a r ≡ choice_tokens b s → SameParse a b r s
  choice-same quotes (orelse_chain a as') (orelse_chain b bs) r s none none' qa qb same =
      let first = unit-same quotes a b (other_tokens as' r) (other_tokens bs s) qa.0 qb.0 same in
      let others = others-same quotes as' bs r s none none' qa.1 qb.1 first.rest in
      record { same = λ i. orelse_chain (first.same i) (others.same i); rest = others.rest }

  others-same : QuotesAreUnambiguous → (a b : OtherTactics TermTree) (r s : List Token) → starts_with (codes "ORELSE") r ≡ false → starts_with (codes "ORELSE") s ≡ false →
      HasQuotableOthers a → HasQuotableOthers b
      → other_tokens a r ≡ other_tokens b s → SameParse a b r s
  others-same quotes no_more_orelse no_more_orelse r s none none' qa qb same = record { same = refl; rest = same }
  others-same quotes no_more_orelse (orelse b bs) r s none none' qa qb same = begins_otherwise (codes "ORELSE") r (other_tokens (orelse b bs) s) none same refl
  others-same quotes (orelse a as') no_more_orelse r s none none' qa qb same = begins_otherwise (codes "ORELSE") s (other_tokens (orelse a as') r) none' (sym same) refl
  others-same quotes (orelse a as') (orelse b bs) r s none none' qa qb same =
      let behind : tactic_unit_tokens a (other_tokens as' r) ≡ tactic_unit_tokens b (other_tokens bs s) = cc in
      let first = unit-same quotes a b (other_tokens as' r) (other_tokens bs s) qa.0 qb.0 behind in
      let others = others-same quotes as' bs r s none none' qa.1 qb.1 first.rest in
      record { same = λ i. orelse (first.same i) (others.same i); rest = others.rest }

  unit-same : QuotesAreUnambiguous → (a b : TacticUnit TermTree) (r s : List Token) → HasQuotableUnit a → HasQuotableUnit b → tactic_unit_tokens a r ≡ tactic_unit_tokens b s → SameParse a b r s
  unit-same quotes (repeated a) (repeated b) r s qa qb same =
      let behind : tactic_unit_tokens a r ≡ tactic_unit_tokens b s = cc in
      let operand = unit-same quotes a b r s qa qb behind in
      record { same = λ i. repeated (operand.same i); rest = operand.rest }
  unit-same quotes (repeated a) (tried b) r s qa qb same = (let start = same_starts (repeated a) (tried b) r s same in cc)
  unit-same quotes (repeated a) (enclosed b) r s qa qb same = cc
  unit-same quotes (repeated a) (leaf b) r s qa qb same = (let start = same_starts (repeated a) (leaf b) r s same in cc)
  unit-same quotes (tried a) (repeated b) r s qa qb same = (let start = same_starts (tried a) (repeated b) r s same in cc)
  unit-same quotes (tried a) (tried b) r s qa qb same =
      let behind : tactic_unit_tokens a r ≡ tactic_unit_tokens b s = cc in
      let operand = unit-same quotes a b r s qa qb behind in
      record { same = λ i. tried (operand.same i); rest = operand.rest }
  unit-same quotes (tried a) (enclosed b) r s qa qb same = cc
  unit-same quotes (tried a) (leaf b) r s qa qb same = (let start = same_starts (tried a) (leaf b) r s same in cc)
  unit-same quotes (enclosed a) (repeated b) r s qa qb same = cc
  unit-same quotes (enclosed a) (tried b) r s qa qb same = cc
  unit-same quotes (enclosed a) (enclosed b) r s qa qb same =
      let behind : tactic_tokens a (Mark CloseParenthesis ∷ r) ≡ tactic_tokens b (Mark CloseParenthesis ∷ s) = cc in
      let inner = tactic-same quotes a b (Mark CloseParenthesis ∷ r) (Mark CloseParenthesis ∷ s) (parenthesis-ends r) (parenthesis-ends s) qa qb behind in
      let one : ◌≡◌ {A = List Token} (Mark CloseParenthesis ∷ r) (Mark CloseParenthesis ∷ s) = inner.rest in
      let rest : r ≡ s = cc in
      record { same = λ i. enclosed (inner.same i); rest = rest }
  unit-same quotes (enclosed a) (leaf b) r s qa qb same = (let start = same_starts (enclosed a) (leaf b) r s same in cc)
  unit-same quotes (leaf a) (repeated b) r s qa qb same = (let start = same_starts (leaf a) (repeated b) r s same in cc)
  unit-same quotes (leaf a) (tried b) r s qa qb same = (let start = same_starts (leaf a) (tried b) r s same in cc)
  unit-same quotes (leaf a) (enclosed b) r s qa qb same = (let start = same_starts (leaf a) (enclosed b) r s same in cc)
  unit-same quotes (leaf a) (leaf b) r s qa qb same =
      let start : ◌≡◌ {A = Option Start} (Some (leaf_start (start_of_leaf a))) (Some (leaf_start (start_of_leaf b))) = same_starts (leaf a) (leaf b) r s same in
      let one : start_of_leaf a ≡ start_of_leaf b = cc in
      let inner = leaf-same quotes a b r s qa qb same one in
      record { same = λ i. leaf (inner.same i); rest = inner.rest }

pub tactics-unambiguous : QuotesAreUnambiguous → TacticsAreUnambiguous
tactics-unambiguous quotes a b qa qb same = (tactic-same quotes a b [] [] nothing-ends nothing-ends qa qb same).same
