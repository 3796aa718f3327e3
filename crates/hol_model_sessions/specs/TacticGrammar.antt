-- The grammar of refiner expressions: THEN and THENL group least, then ORELSE; REPEAT and TRY bind what stands right
-- behind them.
use Rattle.std.specs.Prelude.{ℕ, ◌+◌, ◌≤◌, List, [], ◌∷◌, max, codes, Result, Ok}
use Rattle.hol_model.specs.declared.fault.Fault.{Fault}
use Rattle.hol_model.specs.declared.limits.TheConstants.{EXPRESSION_NESTING_LIMIT}
use Rattle.hol_model.specs.declared.symbol.Symbol.TheVariants.{OpenParenthesis, CloseParenthesis, OpenBracket, CloseBracket, Semicolon}
use Rattle.hol_model.specs.Texts.Token.{Token, Name, Mark}
use Rattle.hol_model.specs.Texts.TermGrammar.{TermTree}
use Rattle.hol_model.specs.Texts.Reading.{◌>>=◌}
use Rattle.hol_model_sessions.specs.Commands.{quote_tokens, IsQuotable}
use Rattle.hol_model_sessions.specs.ConversionGrammar.{ConversionUnit, unit_tokens, unit_depth}

-- The refiners without arguments.
pub data PlainTactic : Type 0 where
  AllTac : PlainTactic
  NoTac : PlainTactic
  AssumptionTac : PlainTactic
  ReflTac : PlainTactic
  ConjTac : PlainTactic
  EqTac : PlainTactic
  Disj1Tac : PlainTactic
  Disj2Tac : PlainTactic
  DischTac : PlainTactic
  GenTac : PlainTactic
  TautTac : PlainTactic

-- The refiners that take a name: of a theorem, or of a function of the host.
pub data NamedTactic : Type 0 where
  AcceptTac : NamedTactic
  AssumeTac : NamedTactic
  MpTac : NamedTactic
  DisjCasesTac : NamedTactic
  ChooseTac : NamedTactic
  Host : NamedTactic

-- The refiners that take a quoted term.
pub data QuotedTactic : Type 0 where
  ExistsTac : QuotedTactic
  UndischTac : QuotedTactic

-- A refiner with its arguments; what stands for a quoted term is left open.
pub data TacticLeaf (Quote : Type 0) : Type 0 where
  plain : PlainTactic → TacticLeaf Quote
  by_name : NamedTactic → List ℕ → TacticLeaf Quote
  by_quote : QuotedTactic → Quote → TacticLeaf Quote
  conv_tac : ConversionUnit → TacticLeaf Quote
  rewrite_tac : List (List ℕ) → TacticLeaf Quote

mutual
  -- how a text is read as a refiner expression, its parentheses included: the first of a chain, and its links
  pub data Tactic (Quote : Type 0) : Type 0 where
    then_chain : TacticChoice Quote → TacticLinks Quote → Tactic Quote

  -- THEN goes on with one refiner, THENL with a list of them
  pub data TacticLinks (Quote : Type 0) : Type 0 where
    no_more_then : TacticLinks Quote
    then_all : TacticChoice Quote → TacticLinks Quote → TacticLinks Quote
    then_each : Tactics Quote → TacticLinks Quote → TacticLinks Quote

  pub data Tactics (Quote : Type 0) : Type 0 where
    no_tactics : Tactics Quote
    tactic_and : Tactic Quote → Tactics Quote → Tactics Quote

  -- the first of a chain of ORELSE, and the others
  pub data TacticChoice (Quote : Type 0) : Type 0 where
    orelse_chain : TacticUnit Quote → OtherTactics Quote → TacticChoice Quote

  pub data OtherTactics (Quote : Type 0) : Type 0 where
    no_more_orelse : OtherTactics Quote
    orelse : TacticUnit Quote → OtherTactics Quote → OtherTactics Quote

  -- what REPEAT and TRY may stand before
  pub data TacticUnit (Quote : Type 0) : Type 0 where
    repeated : TacticUnit Quote → TacticUnit Quote
    tried : TacticUnit Quote → TacticUnit Quote
    enclosed : Tactic Quote → TacticUnit Quote
    leaf : TacticLeaf Quote → TacticUnit Quote

-- ---- words and tokens

abbrev pub plain_word : PlainTactic → List ℕ
plain_word AllTac = codes "ALL_TAC"
plain_word NoTac = codes "NO_TAC"
plain_word AssumptionTac = codes "ASSUMPTION_TAC"
plain_word ReflTac = codes "REFL_TAC"
plain_word ConjTac = codes "CONJ_TAC"
plain_word EqTac = codes "EQ_TAC"
plain_word Disj1Tac = codes "DISJ1_TAC"
plain_word Disj2Tac = codes "DISJ2_TAC"
plain_word DischTac = codes "DISCH_TAC"
plain_word GenTac = codes "GEN_TAC"
plain_word TautTac = codes "TAUT_TAC"

abbrev pub named_word : NamedTactic → List ℕ
named_word AcceptTac = codes "ACCEPT_TAC"
named_word AssumeTac = codes "ASSUME_TAC"
named_word MpTac = codes "MP_TAC"
named_word DisjCasesTac = codes "DISJ_CASES_TAC"
named_word ChooseTac = codes "CHOOSE_TAC"
named_word Host = codes "HOST"

abbrev pub quoted_word : QuotedTactic → List ℕ
quoted_word ExistsTac = codes "EXISTS_TAC"
quoted_word UndischTac = codes "UNDISCH_TAC"

-- names, each behind a semicolon, the bracket that closes the list, and then the rest
abbrev pub further_name_tokens : List (List ℕ) → List Token → List Token
further_name_tokens [] rest = Mark CloseBracket ∷ rest
further_name_tokens (name ∷ names) rest = Mark Semicolon ∷ Name name ∷ further_name_tokens names rest

-- the names of a list, the first without a semicolon, the bracket that closes the list, and then the rest
abbrev pub name_tokens : List (List ℕ) → List Token → List Token
name_tokens [] rest = Mark CloseBracket ∷ rest
name_tokens (name ∷ names) rest = Name name ∷ further_name_tokens names rest

abbrev pub leaf_tokens : TacticLeaf TermTree → List Token → List Token
leaf_tokens (plain tactic) rest = Name (plain_word tactic) ∷ rest
leaf_tokens (by_name tactic name) rest = Name (named_word tactic) ∷ Name name ∷ rest
leaf_tokens (by_quote tactic tree) rest = Name (quoted_word tactic) ∷ quote_tokens tree rest
leaf_tokens (conv_tac conversion) rest = Name (codes "CONV_TAC") ∷ unit_tokens conversion rest
leaf_tokens (rewrite_tac names) rest = Name (codes "REWRITE_TAC") ∷ Mark OpenBracket ∷ name_tokens names rest

-- its tokens, and then the rest
abbrev mutual
  pub tactic_tokens : Tactic TermTree → List Token → List Token
  tactic_tokens (then_chain first links) rest = choice_tokens first (link_tokens links rest)

  pub link_tokens : TacticLinks TermTree → List Token → List Token
  link_tokens no_more_then rest = rest
  link_tokens (then_all choice links) rest = Name (codes "THEN") ∷ choice_tokens choice (link_tokens links rest)
  link_tokens (then_each tactics links) rest = Name (codes "THENL") ∷ Mark OpenBracket ∷ first_tokens tactics (link_tokens links rest)

  -- the refiners of a list, the first without a semicolon, the bracket that closes the list, and then the rest
  pub first_tokens : Tactics TermTree → List Token → List Token
  first_tokens no_tactics rest = Mark CloseBracket ∷ rest
  first_tokens (tactic_and tactic tactics) rest = tactic_tokens tactic (further_tokens tactics rest)

  pub further_tokens : Tactics TermTree → List Token → List Token
  further_tokens no_tactics rest = Mark CloseBracket ∷ rest
  further_tokens (tactic_and tactic tactics) rest = Mark Semicolon ∷ tactic_tokens tactic (further_tokens tactics rest)

  pub choice_tokens : TacticChoice TermTree → List Token → List Token
  choice_tokens (orelse_chain first others) rest = tactic_unit_tokens first (other_tokens others rest)

  pub other_tokens : OtherTactics TermTree → List Token → List Token
  other_tokens no_more_orelse rest = rest
  other_tokens (orelse other others) rest = Name (codes "ORELSE") ∷ tactic_unit_tokens other (other_tokens others rest)

  pub tactic_unit_tokens : TacticUnit TermTree → List Token → List Token
  tactic_unit_tokens (repeated operand) rest = Name (codes "REPEAT") ∷ tactic_unit_tokens operand rest
  tactic_unit_tokens (tried operand) rest = Name (codes "TRY") ∷ tactic_unit_tokens operand rest
  tactic_unit_tokens (enclosed tactic) rest = Mark OpenParenthesis ∷ tactic_tokens tactic (Mark CloseParenthesis ∷ rest)
  tactic_unit_tokens (leaf tactic) rest = leaf_tokens tactic rest

-- ---- nesting

abbrev pub leaf_depth : {Quote : Type 0} → TacticLeaf Quote → ℕ
leaf_depth (plain tactic) = 0
leaf_depth (by_name tactic name) = 0
leaf_depth (by_quote tactic quote) = 0
leaf_depth (conv_tac conversion) = unit_depth conversion
leaf_depth (rewrite_tac names) = 1

-- how many parentheses, lists and prefixes are open at once, at most
abbrev mutual
  pub tactic_depth : {Quote : Type 0} → Tactic Quote → ℕ
  tactic_depth (then_chain first links) = max (choice_depth first) (link_depth links)

  pub link_depth : {Quote : Type 0} → TacticLinks Quote → ℕ
  link_depth no_more_then = 0
  link_depth (then_all choice links) = max (choice_depth choice) (link_depth links)
  link_depth (then_each tactics links) = max (1 + list_depth tactics) (link_depth links)

  pub list_depth : {Quote : Type 0} → Tactics Quote → ℕ
  list_depth no_tactics = 0
  list_depth (tactic_and tactic tactics) = max (tactic_depth tactic) (list_depth tactics)

  pub choice_depth : {Quote : Type 0} → TacticChoice Quote → ℕ
  choice_depth (orelse_chain first others) = max (tactic_unit_depth first) (other_depth others)

  pub other_depth : {Quote : Type 0} → OtherTactics Quote → ℕ
  other_depth no_more_orelse = 0
  other_depth (orelse other others) = max (tactic_unit_depth other) (other_depth others)

  pub tactic_unit_depth : {Quote : Type 0} → TacticUnit Quote → ℕ
  tactic_unit_depth (repeated operand) = 1 + tactic_unit_depth operand
  tactic_unit_depth (tried operand) = 1 + tactic_unit_depth operand
  tactic_unit_depth (enclosed tactic) = 1 + tactic_depth tactic
  tactic_unit_depth (leaf tactic) = leaf_depth tactic

-- ---- quoted terms

-- what the quoted terms of an expression stand for, from left to right, or the first refusal
abbrev pub read_leaf : {Tree Term : Type 0} → (Tree → Result Term Fault) → TacticLeaf Tree → Result (TacticLeaf Term) Fault
read_leaf read (plain tactic) = Ok (plain tactic)
read_leaf read (by_name tactic name) = Ok (by_name tactic name)
read_leaf read (by_quote tactic quote) = read quote >>= λ term. Ok (by_quote tactic term)
read_leaf read (conv_tac conversion) = Ok (conv_tac conversion)
read_leaf read (rewrite_tac names) = Ok (rewrite_tac names)

abbrev mutual
  pub read_tactic : {Tree Term : Type 0} → (Tree → Result Term Fault) → Tactic Tree → Result (Tactic Term) Fault
  read_tactic read (then_chain first links) =
      read_choice read first >>= λ choice. read_links read links >>= λ others. Ok (then_chain choice others)

  pub read_links : {Tree Term : Type 0} → (Tree → Result Term Fault) → TacticLinks Tree → Result (TacticLinks Term) Fault
  read_links read no_more_then = Ok no_more_then
  read_links read (then_all choice links) = read_choice read choice >>= λ first. read_links read links >>= λ others. Ok (then_all first others)
  read_links read (then_each tactics links) = read_tactics read tactics >>= λ list. read_links read links >>= λ others. Ok (then_each list others)

  pub read_tactics : {Tree Term : Type 0} → (Tree → Result Term Fault) → Tactics Tree → Result (Tactics Term) Fault
  read_tactics read no_tactics = Ok no_tactics
  read_tactics read (tactic_and tactic tactics) = read_tactic read tactic >>= λ first. read_tactics read tactics >>= λ others. Ok (tactic_and first others)

  pub read_choice : {Tree Term : Type 0} → (Tree → Result Term Fault) → TacticChoice Tree → Result (TacticChoice Term) Fault
  read_choice read (orelse_chain first others) =
      read_unit read first >>= λ unit. read_others read others >>= λ alternatives. Ok (orelse_chain unit alternatives)

  pub read_others : {Tree Term : Type 0} → (Tree → Result Term Fault) → OtherTactics Tree → Result (OtherTactics Term) Fault
  read_others read no_more_orelse = Ok no_more_orelse
  read_others read (orelse other others) = read_unit read other >>= λ first. read_others read others >>= λ alternatives. Ok (orelse first alternatives)

  pub read_unit : {Tree Term : Type 0} → (Tree → Result Term Fault) → TacticUnit Tree → Result (TacticUnit Term) Fault
  read_unit read (repeated operand) = read_unit read operand >>= λ unit. Ok (repeated unit)
  read_unit read (tried operand) = read_unit read operand >>= λ unit. Ok (tried unit)
  read_unit read (enclosed tactic) = read_tactic read tactic >>= λ inner. Ok (enclosed inner)
  read_unit read (leaf tactic) = read_leaf read tactic >>= λ refiner. Ok (leaf refiner)

-- each quoted term is one of the grammar that is not nested too deep
abbrev pub HasQuotableLeaf : TacticLeaf TermTree → Type 0
HasQuotableLeaf (plain tactic) = Unit {0}
HasQuotableLeaf (by_name tactic name) = Unit {0}
HasQuotableLeaf (by_quote tactic tree) = IsQuotable tree
HasQuotableLeaf (conv_tac conversion) = Unit {0}
HasQuotableLeaf (rewrite_tac names) = Unit {0}

abbrev mutual
  pub HasQuotables : Tactic TermTree → Type 0
  HasQuotables (then_chain first links) = HasQuotableChoice first × HasQuotableLinks links

  pub HasQuotableLinks : TacticLinks TermTree → Type 0
  HasQuotableLinks no_more_then = Unit {0}
  HasQuotableLinks (then_all choice links) = HasQuotableChoice choice × HasQuotableLinks links
  HasQuotableLinks (then_each tactics links) = HasQuotableList tactics × HasQuotableLinks links

  pub HasQuotableList : Tactics TermTree → Type 0
  HasQuotableList no_tactics = Unit {0}
  HasQuotableList (tactic_and tactic tactics) = HasQuotables tactic × HasQuotableList tactics

  pub HasQuotableChoice : TacticChoice TermTree → Type 0
  HasQuotableChoice (orelse_chain first others) = HasQuotableUnit first × HasQuotableOthers others

  pub HasQuotableOthers : OtherTactics TermTree → Type 0
  HasQuotableOthers no_more_orelse = Unit {0}
  HasQuotableOthers (orelse other others) = HasQuotableUnit other × HasQuotableOthers others

  pub HasQuotableUnit : TacticUnit TermTree → Type 0
  HasQuotableUnit (repeated operand) = HasQuotableUnit operand
  HasQuotableUnit (tried operand) = HasQuotableUnit operand
  HasQuotableUnit (enclosed tactic) = HasQuotables tactic
  HasQuotableUnit (leaf tactic) = HasQuotableLeaf tactic

-- a refiner expression that is not nested too deep, with terms of the grammar
pub record IsTactic (tree : Tactic TermTree) : Type 0 where
  pub depth : tactic_depth tree ≤ EXPRESSION_NESTING_LIMIT
  pub quotable : HasQuotables tree
