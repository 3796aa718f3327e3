-- Open places of the reader of refiner expressions: what fails behind them fails whole, and what is read there becomes a part of more.
use Rattle.std.proofs.Common.{◌≡◌, ◌≢◌, ℕ, zero, suc, ◌+◌, ◌*◌, ◌-◌, ◌<◌, ◌≤◌, arith, List, [], ◌∷◌, ◌++◌, map, length, reverse, Option, None, Some, MatchOption, refl, sym, ap, ◌∙◌, subst}
use Rattle.std.proofs.Common.{Result, Ok, Err, Vec, Global, vec_len}
use Rattle.std.specs.Prelude.{codes}
use Rattle.std.specs.Option.{option_to_list}
use Rattle.std.proofs.lemmas.List.{reverse-append, nil_from_length}
use Rattle.hol_model.specs.declared.limits.TheConstants.{EXPRESSION_NESTING_LIMIT}
use Rattle.hol_model.specs.declared.symbol.Symbol.TheVariants.{OpenParenthesis, CloseParenthesis, OpenBracket, CloseBracket, Semicolon}
use Rattle.hol_model.specs.Texts.Token.{Token, Name, Mark}
use Rattle.hol_model.specs.Texts.TermGrammar.{TermTree}
use Rattle.hol_model_sessions.specs.TacticGrammar.{Tactic, Tactics, tactic_tokens, first_tokens, choice_tokens, list_depth, HasQuotableList, IsTactic}
use Rattle.hol_tactic_exprs.specs.declared.tac.Tac.{Tac}
use Rattle.hol_tactic_exprs.specs.declared.tac.Link.{Link, Then}
use Rattle.hol_syntax_grammar.specs.declared.token.Token.{Token as TokenHere}
use Rattle.hol_syntax_grammar.specs.declared.type_reader.ReadError.{ReadError}
use Rattle.hol_syntax_grammar.specs.declared.type_reader.ReadError.TheVariants.{Memory, Syntax}
use Rattle.hol_syntax_grammar.specs.TermSteps.{FlatStep}
use Rattle.hol_syntax_grammar.specs.Views.{tokens_of}
use Rattle.hol_tactic_grammar.specs.declared.tactics.Prefix.{Prefix}
use Rattle.hol_tactic_grammar.specs.declared.tactics.Prefix.TheVariants.{Repeat, Try}
use Rattle.hol_tactic_grammar.specs.declared.tactic_reader.Open.{Open}
use Rattle.hol_tactic_grammar.specs.declared.tactic_reader.Open.TheVariants.{Prefixed, Enclosed, Choice, Chain, Listed}
use Rattle.hol_tactic_grammar.specs.declared.tactic_reader.Reading.{Reading}
use Rattle.hol_tactic_grammar.specs.declared.tactic_reader.Reading.TheVariants as readings
use Rattle.hol_tactic_grammar.specs.declared.tactic_reader.Reader.{Reader}
use Rattle.hol_tactic_grammar.specs.Tokens.{behind, IsAt, IsNotAt}
use Rattle.hol_tactic_grammar.specs.Conversions.{Without}
use Rattle.hol_tactic_grammar.specs.Expressions.{Kept, Joint, repeat, try, on_each, then_on, or_else, expression_here, joint_here, all_expressions, all_links}
use Rattle.hol_tactic_grammar.specs.Tactics.{Meaning, with_prefix, IsUnit, IsNoUnit, IsNoChoice, with_choice, with_list, IsNoLink, IsWhole, IsNoWhole, ReadsUnit, Means, ReadsTactic, Fits}
use Rattle.hol_tactic_grammar.specs.TacticWords.{prefix_word}
use Rattle.hol_tactic_grammar.specs.OpenTactics.{IsChoiceFront, IsChainFront, IsListFront, IsListPlace, WantsChoice, WantsChain, AreOpen, HasUnit, HasChoice, HasChoiceWhole, HasChain, HasWhole}
use Rattle.hol_tactic_grammar.specs.OpenTactics.{opens_of, IsReading, turns_left, Goes, Waits, Nests, Closes, AddsElement, unit_read, unit_made}
use Rattle.hol_tactic_grammar.proofs.TacticLemmas.{repeat-read, repeat-none, try-read, try-none, enclosed-read, enclosed-open, enclosed-too-deep, enclosed-refused, choice-begins, choice-goes-on}
use Rattle.hol_tactic_grammar.proofs.TacticLemmas.{choice-ended, choice-broken, choice-refused, whole-begins, whole-goes-on, whole-ended, whole-broken, whole-refused, then-read, thenl-read}
use Rattle.hol_tactic_grammar.proofs.TacticLemmas.{list-begins, list-goes-on, list-taken, list-ended, list-open, list-empty, list-refused, mapped, empty-ends, some-behind, fits-whole}

-- ---- what fails in a place

prefix-refused : (prefix : Prefix) (room : ℕ) (inner : List Token) → IsNoUnit room inner → IsNoUnit (room + 1) (Name (prefix_word prefix) ∷ inner)
prefix-refused Repeat room inner refused = repeat-none (room + 1) (Name (codes "REPEAT") ∷ inner) inner refl (λ operand left fits same.
    refused operand left (record { nested = omega (arith, fits.nested); quotable = fits.quotable }) same)
prefix-refused Try room inner refused = try-none (room + 1) (Name (codes "TRY") ∷ inner) inner refl (λ operand left fits same.
    refused operand left (record { nested = omega (arith, fits.nested); quotable = fits.quotable }) same)

then-none : (room : ℕ) (inner : List Token) → IsNoChoice room inner → IsNoLink room (Name (codes "THEN") ∷ inner)
then-none room inner refused = go
  where
    go : IsNoLink room (Name (codes "THEN") ∷ inner)
    go (with_choice choice) rest fits none same =
        let further : inner ≡ choice_tokens choice rest = cc in
        refused choice rest (record { nested = fits.nested; quotable = fits.quotable }) none further
    go (with_list list) rest fits none same = cc

-- whatever keeps a list from standing behind THENL
thenl-none : (room : ℕ) (inner : List Token)
    → ((list : Tactics TermTree) (rest : List Token) → 1 + list_depth list ≤ room → HasQuotableList list → inner ≢ Mark OpenBracket ∷ first_tokens list rest)
    → IsNoLink room (Name (codes "THENL") ∷ inner)
thenl-none room inner refused = go
  where
    go : IsNoLink room (Name (codes "THENL") ∷ inner)
    go (with_choice choice) rest fits none same = cc
    go (with_list list) rest fits none same =
        let further : inner ≡ Mark OpenBracket ∷ first_tokens list rest = cc in
        refused list rest fits.nested fits.quotable further

then-broken : (room : ℕ) (chain inner : List Token) (first : Meaning) (taken : List (Joint (List FlatStep))) → IsChainFront room chain (Name (codes "THEN") ∷ inner) first taken
    → IsNoChoice room inner → IsNoWhole room chain
then-broken room chain inner first taken front refused =
    whole-broken room chain (Name (codes "THEN") ∷ inner) first taken front (λ rest same ends. ends.then inner (sym same)) (then-none room inner refused)

thenl-broken : (room : ℕ) (chain inner : List Token) (first : Meaning) (taken : List (Joint (List FlatStep))) → IsChainFront room chain (Name (codes "THENL") ∷ inner) first taken
    → ((list : Tactics TermTree) (rest : List Token) → 1 + list_depth list ≤ room → HasQuotableList list → inner ≢ Mark OpenBracket ∷ first_tokens list rest) → IsNoWhole room chain
thenl-broken room chain inner first taken front refused =
    whole-broken room chain (Name (codes "THENL") ∷ inner) first taken front (λ rest same ends. ends.thenl inner (sym same)) (thenl-none room inner refused)

list-broken : (room : ℕ) (chain list inner : List Token) (first : Meaning) (taken : List (Joint (List FlatStep))) (each : List Meaning)
    → IsChainFront (room + 1) chain (Name (codes "THENL") ∷ list) first taken → IsListPlace room list inner each → IsNoWhole room inner → IsNoWhole (room + 1) chain
list-broken room chain list inner first taken each front place refused = thenl-broken (room + 1) chain list first taken front (λ others rest nested quotable same.
    list-refused room list inner each place refused others rest (record { nested = omega (arith, nested); quotable = quotable }) same)

abbrev IsNoTactic : List Token → Type 0
IsNoTactic tokens = (tree : Tactic TermTree) → IsTactic tree → tokens ≢ tactic_tokens tree []

none-whole : (room : ℕ) (all tokens : List Token) → (room ≡ EXPRESSION_NESTING_LIMIT) × (tokens ≡ all) → IsNoWhole room tokens → IsNoTactic all
none-whole room all tokens opened refused tree grammatical same =
    subst (λ (n : ℕ). IsNoWhole n tokens) opened.0 refused tree [] (fits-whole tree grammatical) empty-ends (opened.1 ∙ same)

mutual
  -- what fails behind open places fails whole
  pub chain-fails : (opens : List Open) (room : ℕ) (all tokens : List Token) → WantsChain opens → AreOpen opens room all tokens → IsNoWhole room tokens → IsNoTactic all
  chain-fails [] room all tokens wanted opened refused = none-whole room all tokens opened refused
  chain-fails (Prefixed prefix ∷ opens) room all tokens wanted opened refused = absurd wanted
  chain-fails (Enclosed ∷ opens) room all tokens wanted opened refused =
      unit-fails opens (room + 1) all (Mark OpenParenthesis ∷ tokens) opened (enclosed-refused (room + 1) room (Mark OpenParenthesis ∷ tokens) tokens refl refl refused)
  chain-fails (Choice first others ∷ opens) room all tokens wanted opened refused = absurd wanted
  chain-fails (Chain first links ∷ opens) room all tokens wanted opened refused = absurd wanted
  chain-fails (Listed first links each ∷ opens) room all tokens wanted opened refused =
      let place = opened.1 in
      chain-fails opens (room + 1) all place.chain opened.0 place.before (list-broken room place.chain place.list tokens (expression_here first) (map joint_here links.items)
      (map expression_here each.items) place.front place.place refused)

  pub choice-fails : (opens : List Open) (room : ℕ) (all tokens : List Token) → WantsChoice opens → AreOpen opens room all tokens → IsNoChoice room tokens → IsNoTactic all
  choice-fails [] room all tokens wanted opened refused = none-whole room all tokens opened (whole-refused room tokens refused)
  choice-fails (Prefixed prefix ∷ opens) room all tokens wanted opened refused = absurd wanted
  choice-fails (Enclosed ∷ opens) room all tokens wanted opened refused =
      unit-fails opens (room + 1) all (Mark OpenParenthesis ∷ tokens) opened (enclosed-refused (room + 1) room (Mark OpenParenthesis ∷ tokens) tokens refl refl (whole-refused room tokens refused))
  choice-fails (Choice first others ∷ opens) room all tokens wanted opened refused = absurd wanted
  choice-fails (Chain first links ∷ opens) room all tokens wanted opened refused =
      let place = opened.1 in
      chain-fails opens room all place.chain opened.0 place.before (then-broken room place.chain tokens (expression_here first) (map joint_here links.items) place.front refused)
  choice-fails (Listed first links each ∷ opens) room all tokens wanted opened refused =
      let place = opened.1 in
      chain-fails opens (room + 1) all place.chain opened.0 place.before (list-broken room place.chain place.list tokens (expression_here first) (map joint_here links.items)
      (map expression_here each.items) place.front place.place (whole-refused room tokens refused))

  pub unit-fails : (opens : List Open) (room : ℕ) (all tokens : List Token) → AreOpen opens room all tokens → IsNoUnit room tokens → IsNoTactic all
  unit-fails [] room all tokens opened refused = none-whole room all tokens opened (whole-refused room tokens (choice-refused room tokens refused))
  unit-fails (Prefixed prefix ∷ opens) room all tokens opened refused = unit-fails opens (room + 1) all (Name (prefix_word prefix) ∷ tokens) opened (prefix-refused prefix room tokens refused)
  unit-fails (Enclosed ∷ opens) room all tokens opened refused =
      unit-fails opens (room + 1) all (Mark OpenParenthesis ∷ tokens) opened (enclosed-refused (room + 1) room (Mark OpenParenthesis ∷ tokens) tokens refl refl (whole-refused room tokens
      (choice-refused room tokens refused)))
  unit-fails (Choice first others ∷ opens) room all tokens opened refused =
      let place = opened.1 in
      choice-fails opens room all place.chain opened.0 place.before (choice-broken room place.chain (Name (codes "ORELSE") ∷ tokens) tokens (expression_here first)
      (map expression_here others.items) place.front refl refused)
  unit-fails (Chain first links ∷ opens) room all tokens opened refused =
      let place = opened.1 in
      chain-fails opens room all place.chain opened.0 place.before (then-broken room place.chain tokens (expression_here first) (map joint_here links.items) place.front
      (choice-refused room tokens refused))
  unit-fails (Listed first links each ∷ opens) room all tokens opened refused =
      let place = opened.1 in
      chain-fails opens (room + 1) all place.chain opened.0 place.before (list-broken room place.chain place.list tokens (expression_here first) (map joint_here links.items)
      (map expression_here each.items) place.front place.place (whole-refused room tokens (choice-refused room tokens refused)))

-- the room behind open places
pub room-within : (opens : List Open) (room : ℕ) (all tokens : List Token) → AreOpen opens room all tokens → room ≤ EXPRESSION_NESTING_LIMIT
room-within [] room all tokens opened = omega (arith, opened.0)
room-within (Prefixed prefix ∷ opens) room all tokens opened = omega (arith, room-within opens (room + 1) all (Name (prefix_word prefix) ∷ tokens) opened)
room-within (Enclosed ∷ opens) room all tokens opened = omega (arith, room-within opens (room + 1) all (Mark OpenParenthesis ∷ tokens) opened)
room-within (Choice first others ∷ opens) room all tokens opened = room-within opens room all opened.1.chain opened.1.before
room-within (Chain first links ∷ opens) room all tokens opened = room-within opens room all opened.1.chain opened.1.before
room-within (Listed first links each ∷ opens) room all tokens opened = omega (arith, room-within opens (room + 1) all opened.1.chain opened.1.before)

-- ---- places that are opened

pub goes-sooner : (result : Result Reading ReadError) (reader : Reader) (tokens : List TokenHere) (fewer turns : ℕ) → fewer ≤ turns → Goes result reader tokens fewer → Goes result reader tokens turns
goes-sooner (Ok reading) reader tokens fewer turns within goes = (goes.0, omega (arith, goes.1, within))
goes-sooner (Err error) reader tokens fewer turns within goes = goes

-- an expression that is not made wants memory
pub unmade : (error : ReadError) (meaning : Meaning) (tokens : List TokenHere) → Means (Err error) meaning → ReadsTactic (Err error) tokens
unmade Memory meaning tokens means = tt
unmade Syntax meaning tokens means = absurd means

pub waits : (result : Result Reading ReadError) (old new : Reader) (place : Open) (next turns : ℕ) (tokens : List TokenHere) → Waits result old new place next
    → AreOpen (place ∷ opens_of old) old.room (tokens_of tokens) (behind next tokens) → 8 * (length tokens - next) + 4 * vec_len old.opens + 5 < turns → Goes result new tokens turns
waits (Ok reading) old new place next turns tokens waiting opened fewer = subst (λ (r : Reading). Goes (Ok r) new tokens turns) (sym waiting.0) (
  subst (λ (opens : List Open). AreOpen opens new.room (tokens_of tokens) (behind next tokens)) (sym waiting.1)
      (subst (λ (room : ℕ). AreOpen (place ∷ opens_of old) room (tokens_of tokens) (behind next tokens)) (sym waiting.2) opened),
  omega (arith, fewer, waiting.3),
)
waits (Err Memory) old new place next turns tokens waiting opened fewer = tt
waits (Err Syntax) old new place next turns tokens waiting opened fewer = absurd waiting

pub nests : (result : Result Reading ReadError) (old new : Reader) (place : Open) (next turns : ℕ) (tokens : List TokenHere) → Nests result old new place next
    → (old.room ≡ 0 → IsNoTactic (tokens_of tokens))
    → ((less : ℕ) → less + 1 ≡ old.room → AreOpen (place ∷ opens_of old) less (tokens_of tokens) (behind next tokens))
    → 8 * (length tokens - next) + 4 * vec_len old.opens + 5 < turns → Goes result new tokens turns
nests (Ok reading) old new place next turns tokens nesting deep opened fewer = subst (λ (r : Reading). Goes (Ok r) new tokens turns) (sym nesting.0) (
  subst (λ (opens : List Open). AreOpen opens new.room (tokens_of tokens) (behind next tokens)) (sym nesting.1) (opened new.room nesting.2),
  omega (arith, fewer, nesting.3),
)
nests (Err Memory) old new place next turns tokens nesting deep opened fewer = tt
nests (Err Syntax) old new place next turns tokens nesting deep opened fewer = deep nesting

-- ---- where a unit is wanted

-- what begins a unit is opened
pub begins : (result : Result Reading ReadError) (old new : Reader) (place : Open) (token : Token) (at : ℕ) (tokens : List TokenHere)
    → ((room : ℕ) (inner : List Token) → AreOpen (opens_of old) (room + 1) (tokens_of tokens) (token ∷ inner) → AreOpen (place ∷ opens_of old) room (tokens_of tokens) inner)
    → ((inner : List Token) → IsNoUnit 0 (token ∷ inner))
    → Nests result old new place (at + 1) → IsReading (readings.Wanted at) old tokens → IsAt token at tokens
    → Goes result new tokens (turns_left (readings.Wanted at) old tokens)
begins result old new place token at tokens places deep nesting opened front =
    let here : AreOpen (opens_of old) old.room (tokens_of tokens) (token ∷ behind (at + 1) tokens) = subst (λ (ts : List Token). AreOpen (opens_of old) old.room (tokens_of tokens) ts) front.front
    opened in
    nests result old new place (at + 1) (turns_left (readings.Wanted at) old tokens) tokens nesting
    (λ none. unit-fails (opens_of old) old.room (tokens_of tokens) (token ∷ behind (at + 1) tokens) here
    (subst (λ (room : ℕ). IsNoUnit room (token ∷ behind (at + 1) tokens)) (sym none) (deep (behind (at + 1) tokens))))
    (λ less deeper. places less (behind (at + 1) tokens) (subst (λ (room : ℕ). AreOpen (opens_of old) room (tokens_of tokens) (token ∷ behind (at + 1) tokens)) (sym deeper) here))
    (omega (arith, front.within))

pub enclosed-deep : (inner : List Token) → IsNoUnit 0 (Mark OpenParenthesis ∷ inner)
enclosed-deep inner = enclosed-too-deep 0 (Mark OpenParenthesis ∷ inner) inner refl refl

pub prefix-deep : (prefix : Prefix) (inner : List Token) → IsNoUnit 0 (Name (prefix_word prefix) ∷ inner)
prefix-deep Repeat inner = repeat-none 0 (Name (codes "REPEAT") ∷ inner) inner refl (λ operand left fits same. omega (arith, fits.nested))
prefix-deep Try inner = try-none 0 (Name (codes "TRY") ∷ inner) inner refl (λ operand left fits same. omega (arith, fits.nested))

-- a unit without parts is read
pub leaf-goes : (read : Result (Tac Kept × ℕ) ReadError) (result : Result Reading ReadError) (at : ℕ) (reader : Reader) (tokens : List TokenHere) → result ≡ unit_read read
    → ReadsUnit read at reader.room tokens → IsReading (readings.Wanted at) reader tokens → Goes result reader tokens (turns_left (readings.Wanted at) reader tokens)
leaf-goes (Ok x) result at reader tokens is read opened = subst (λ (r : Result Reading ReadError). Goes r reader tokens (turns_left (readings.Wanted at) reader tokens)) (sym is) (
  record { tokens = behind at tokens; opened = opened; read = read.1 },
  omega (arith, read.0.further, read.0.within),
)
leaf-goes (Err Memory) result at reader tokens is read opened = subst (λ (r : Result Reading ReadError). Goes r reader tokens (turns_left (readings.Wanted at) reader tokens)) (sym is) tt
leaf-goes (Err Syntax) result at reader tokens is read opened =
    subst (λ (r : Result Reading ReadError). Goes r reader tokens (turns_left (readings.Wanted at) reader tokens)) (sym is)
    (unit-fails (opens_of reader) reader.room (tokens_of tokens) (behind at tokens) opened read)

-- ---- a unit

-- the newest place is closed
pub unit-in : (opens above : List Open) (place : Open) (room after : ℕ) (all rest : List Token) (meaning : Meaning) → opens ≡ place ∷ above → after ≡ room
    → HasUnit opens room all rest meaning → HasUnit (place ∷ above) after all rest meaning
unit-in opens above place room after all rest meaning is same has =
    subst (λ (n : ℕ). HasUnit (place ∷ above) n all rest meaning) (sym same) (subst (λ (os : List Open). HasUnit os room all rest meaning) is has)

prefix-read : (prefix : Prefix) (room : ℕ) (inner rest : List Token) (meaning : Meaning) → IsUnit room inner rest meaning
    → IsUnit (room + 1) (Name (prefix_word prefix) ∷ inner) rest (with_prefix prefix meaning)
prefix-read Repeat room inner rest meaning read = repeat-read (room + 1) room (Name (codes "REPEAT") ∷ inner) inner rest meaning (repeat meaning) refl refl refl read
prefix-read Try room inner rest meaning read = try-read (room + 1) room (Name (codes "TRY") ∷ inner) inner rest meaning (try meaning) refl refl refl read

pub unit-prefixed : (prefix : Prefix) (opens above : List Open) (room after : ℕ) (all rest : List Token) (meaning : Meaning) → opens ≡ Prefixed prefix ∷ above → after ≡ room
    → HasUnit opens room all rest meaning → HasUnit above (after + 1) all rest (with_prefix prefix meaning)
unit-prefixed prefix opens above room after all rest meaning is same has =
    let unit : HasUnit (Prefixed prefix ∷ above) after all rest meaning = unit-in opens above (Prefixed prefix) room after all rest meaning is same has in
    record {
      tokens = Name (prefix_word prefix) ∷ unit.tokens;
      opened = unit.opened;
      read = prefix-read prefix after unit.tokens rest meaning unit.read;
    }

-- a unit that is made is read
pub made-goes : (made : Result (Tac Kept) ReadError) (result : Result Reading ReadError) (next turns : ℕ) (reader : Reader) (tokens : List TokenHere) (meaning : Meaning)
    → result ≡ unit_made made next → Means made meaning → HasUnit (opens_of reader) reader.room (tokens_of tokens) (behind next tokens) meaning
    → 8 * (length tokens - next) + 4 * vec_len reader.opens + 4 < turns → Goes result reader tokens turns
made-goes (Ok unit) result next turns reader tokens meaning is means has fewer = subst (λ (r : Result Reading ReadError). Goes r reader tokens turns) (sym is) (
  subst (λ (m : Meaning). HasUnit (opens_of reader) reader.room (tokens_of tokens) (behind next tokens) m) (sym means) has,
  fewer,
)
made-goes (Err Memory) result next turns reader tokens meaning is means has fewer = subst (λ (r : Result Reading ReadError). Goes r reader tokens turns) (sym is) tt
made-goes (Err Syntax) result next turns reader tokens meaning is means has fewer = absurd means

pub unit-joins : (opens : List Open) (room : ℕ) (all rest : List Token) (first unit : Tac Kept) (others : Vec (Tac Kept) Global) (further : List (Tac Kept))
    → further ≡ others.items ++ unit ∷ [] → HasUnit (Choice first others ∷ opens) room all rest (expression_here unit)
    → HasChoice opens room all rest (expression_here first) (map expression_here further)
unit-joins opens room all rest first unit others further added has =
    let place = has.opened.1 in
    record {
      tokens = place.chain;
      wanted = has.opened.0;
      opened = place.before;
      read = choice-goes-on room place.chain (Name (codes "ORELSE") ∷ has.tokens) has.tokens rest (expression_here first) others.items further unit added place.front refl has.read;
    }

-- a chain of ORELSE begins
pub unit-begins : (opens : List Open) (room : ℕ) (all rest : List Token) (first : Meaning) (none : List (Tac Kept)) → none ≡ [] → WantsChoice opens
    → HasUnit opens room all rest first → HasChoice opens room all rest first (map expression_here none)
unit-begins opens room all rest first none empty wanted has = record {
  tokens = has.tokens;
  wanted = wanted;
  opened = has.opened;
  read = choice-begins room has.tokens rest first none empty has.read;
}

-- ---- a chain of ORELSE

pub choice-waits : (opens : List Open) (room next : ℕ) (all : List Token) (first : Tac Kept) (others : Vec (Tac Kept) Global) (tokens : List TokenHere)
    → HasChoice opens room all (behind next tokens) (expression_here first) (map expression_here others.items) → IsAt (Name (codes "ORELSE")) next tokens
    → AreOpen (Choice first others ∷ opens) room all (behind (next + 1) tokens)
choice-waits opens room next all first others tokens has front = (
  has.wanted,
  record {
    chain = has.tokens;
    front = subst (λ (ts : List Token). IsChoiceFront room has.tokens ts (expression_here first) (map expression_here others.items)) front.front has.read;
    before = has.opened;
  },
)

pub choice-whole : (opens : List Open) (room : ℕ) (all rest : List Token) (first meaning : Meaning) (others : List Meaning) → HasChoice opens room all rest first others
    → Without (codes "ORELSE") rest → meaning ≡ or_else first (all_expressions others) → HasChoiceWhole opens room all rest meaning
choice-whole opens room all rest first meaning others has ended means = record {
  tokens = has.tokens;
  wanted = has.wanted;
  opened = has.opened;
  read = choice-ended room has.tokens rest first meaning others has.read ended means;
}

pub choice-joins : (opens : List Open) (room : ℕ) (all rest : List Token) (first choice : Tac Kept) (links : Vec (Link Kept) Global) (further : List (Link Kept))
    → further ≡ links.items ++ Then choice ∷ [] → HasChoiceWhole (Chain first links ∷ opens) room all rest (expression_here choice)
    → HasChain opens room all rest (expression_here first) (map joint_here further)
choice-joins opens room all rest first choice links further added has =
    let place = has.opened.1 in
    record {
      tokens = place.chain;
      wanted = has.opened.0;
      opened = place.before;
      read = whole-goes-on room place.chain (Name (codes "THEN") ∷ has.tokens) rest (expression_here first) links.items further (Then choice) added place.front
          (then-read room (Name (codes "THEN") ∷ has.tokens) has.tokens rest (expression_here choice) refl has.read);
    }

-- a chain of THEN and THENL begins
pub choice-begins-chain : (opens : List Open) (room : ℕ) (all rest : List Token) (first : Meaning) (none : List (Link Kept)) → none ≡ [] → WantsChain opens
    → HasChoiceWhole opens room all rest first → HasChain opens room all rest first (map joint_here none)
choice-begins-chain opens room all rest first none empty wanted has = record {
  tokens = has.tokens;
  wanted = wanted;
  opened = has.opened;
  read = whole-begins room has.tokens rest first none empty has.read;
}

-- ---- a chain of THEN and THENL

pub chain-waits : (opens : List Open) (room next : ℕ) (all : List Token) (first : Tac Kept) (links : Vec (Link Kept) Global) (tokens : List TokenHere)
    → HasChain opens room all (behind next tokens) (expression_here first) (map joint_here links.items) → IsAt (Name (codes "THEN")) next tokens
    → AreOpen (Chain first links ∷ opens) room all (behind (next + 1) tokens)
chain-waits opens room next all first links tokens has front = (
  has.wanted,
  record {
    chain = has.tokens;
    front = subst (λ (ts : List Token). IsChainFront room has.tokens ts (expression_here first) (map joint_here links.items)) front.front has.read;
    before = has.opened;
  },
)

-- whatever keeps a list from standing behind THENL
pub chain-fails-at : (opens : List Open) (room at : ℕ) (tokens : List TokenHere) (first : Meaning) (links : List (Joint (List FlatStep)))
    → HasChain opens room (tokens_of tokens) (behind at tokens) first links → IsAt (Name (codes "THENL")) at tokens
    → ((list : Tactics TermTree) (rest : List Token) → 1 + list_depth list ≤ room → HasQuotableList list → behind (at + 1) tokens ≢ Mark OpenBracket ∷ first_tokens list rest)
    → IsNoTactic (tokens_of tokens)
chain-fails-at opens room at tokens first links has front refused =
    chain-fails opens room (tokens_of tokens) has.tokens has.wanted has.opened
    (thenl-broken room has.tokens (behind (at + 1) tokens) first links (subst (λ (ts : List Token). IsChainFront room has.tokens ts first links) front.front has.read) refused)

-- an empty list is read
pub chain-empty : (opens : List Open) (room less at : ℕ) (all : List Token) (first : Meaning) (links further : List (Link Kept)) (joint : Link Kept) (tokens : List TokenHere) → less + 1 ≡ room
    → further ≡ links ++ joint ∷ [] → joint_here joint ≡ on_each (all_expressions [])
    → HasChain opens room all (behind at tokens) first (map joint_here links) → IsAt (Name (codes "THENL")) at tokens → IsAt (Mark OpenBracket) (at + 1) tokens
    → IsAt (Mark CloseBracket) (at + 2) tokens → HasChain opens room all (behind (at + 3) tokens) first (map joint_here further)
chain-empty opens room less at all first links further joint tokens deeper added means has front begins ends = record {
  tokens = has.tokens;
  wanted = has.wanted;
  opened = has.opened;
  read = whole-goes-on room has.tokens (behind at tokens) (behind (at + 3) tokens) first links further joint added has.read
      (thenl-read room less (behind at tokens) (behind (at + 1) tokens) (behind (at + 3) tokens) (all_expressions []) (joint_here joint) means deeper front.front
      (list-empty less (behind (at + 1) tokens) (behind (at + 2) tokens) (behind (at + 3) tokens) (begins.front ∙ ap (λ (n : ℕ). Mark OpenBracket ∷ behind n tokens) two)
      (ends.front ∙ ap (λ (n : ℕ). Mark CloseBracket ∷ behind n tokens) three)));
}
  where
    two : at + 1 + 1 ≡ at + 2
    two = omega arith

    three : at + 2 + 1 ≡ at + 3
    three = omega arith

pub chain-lists : (opens : List Open) (room less at : ℕ) (all : List Token) (first : Tac Kept) (links : Vec (Link Kept) Global) (each : Vec (Tac Kept) Global) (tokens : List TokenHere)
    → less + 1 ≡ room → each.items ≡ []
    → HasChain opens room all (behind at tokens) (expression_here first) (map joint_here links.items) → IsAt (Name (codes "THENL")) at tokens → IsAt (Mark OpenBracket) (at + 1) tokens
    → IsNotAt (Mark CloseBracket) (at + 2) tokens → AreOpen (Listed first links each ∷ opens) less all (behind (at + 2) tokens)
chain-lists opens room less at all first links each tokens deeper empty has front begins some =
    let two : at + 1 + 1 ≡ at + 2 = omega arith in
    let list : behind (at + 1) tokens ≡ Mark OpenBracket ∷ behind (at + 2) tokens = begins.front ∙ ap (λ (n : ℕ). Mark OpenBracket ∷ behind n tokens) two in
    let known : HasChain opens (less + 1) all (behind at tokens) (expression_here first) (map joint_here links.items) =
    subst (λ (n : ℕ). HasChain opens n all (behind at tokens) (expression_here first) (map joint_here links.items)) (sym deeper) has in (
      known.wanted,
      record {
        chain = known.tokens;
        list = Mark OpenBracket ∷ behind (at + 2) tokens;
        front = subst (λ (ts : List Token). IsChainFront (less + 1) known.tokens ts (expression_here first) (map joint_here links.items))
            (front.front ∙ ap (λ (ts : List Token). Name (codes "THENL") ∷ ts) list) known.read;
        place = subst (λ (ts : List (Tac Kept)). IsListPlace less (Mark OpenBracket ∷ behind (at + 2) tokens) (behind (at + 2) tokens) (map expression_here ts)) (sym empty)
            (list-begins less (behind (at + 2) tokens) some);
        before = known.opened;
      },
    )

pub chain-whole : (opens : List Open) (room : ℕ) (all rest : List Token) (first meaning : Meaning) (links : List (Joint (List FlatStep))) → HasChain opens room all rest first links
    → Without (codes "THEN") rest → Without (codes "THENL") rest → meaning ≡ then_on first (all_links links) → HasWhole opens room all rest meaning
chain-whole opens room all rest first meaning links has no_then no_thenl means = record {
  tokens = has.tokens;
  wanted = has.wanted;
  opened = has.opened;
  read = whole-ended room has.tokens rest first meaning links has.read no_then no_thenl means;
}

-- ---- a whole expression

-- the newest place is closed
pub whole-in : (opens above : List Open) (place : Open) (room after : ℕ) (all rest : List Token) (meaning : Meaning) → opens ≡ place ∷ above → after ≡ room
    → HasWhole opens room all rest meaning → HasWhole (place ∷ above) after all rest meaning
whole-in opens above place room after all rest meaning is same has =
    subst (λ (n : ℕ). HasWhole (place ∷ above) n all rest meaning) (sym same) (subst (λ (os : List Open). HasWhole os room all rest meaning) is has)

pub whole-encloses : (opens : List Open) (room next : ℕ) (all : List Token) (meaning : Meaning) (tokens : List TokenHere) → HasWhole (Enclosed ∷ opens) room all (behind next tokens) meaning
    → IsAt (Mark CloseParenthesis) next tokens → HasUnit opens (room + 1) all (behind (next + 1) tokens) meaning
whole-encloses opens room next all meaning tokens has ends = record {
  tokens = Mark OpenParenthesis ∷ has.tokens;
  opened = has.opened;
  read = enclosed-read (room + 1) room (Mark OpenParenthesis ∷ has.tokens) has.tokens (behind next tokens) (behind (next + 1) tokens) meaning refl refl ends.front has.read;
}

pub whole-unclosed : (opens : List Open) (room next : ℕ) (tokens : List TokenHere) (meaning : Meaning) → HasWhole (Enclosed ∷ opens) room (tokens_of tokens) (behind next tokens) meaning
    → IsNotAt (Mark CloseParenthesis) next tokens → IsNoTactic (tokens_of tokens)
whole-unclosed opens room next tokens meaning has open_still =
    unit-fails opens (room + 1) (tokens_of tokens) (Mark OpenParenthesis ∷ has.tokens) has.opened
    (enclosed-open (room + 1) room (Mark OpenParenthesis ∷ has.tokens) has.tokens (behind next tokens) meaning refl refl open_still has.read)

-- the list so far, with the expression
list-so-far : (opens : List Open) (room : ℕ) (all rest : List Token) (first tactic : Tac Kept) (links : Vec (Link Kept) Global) (each : Vec (Tac Kept) Global) (further : List (Tac Kept))
    → further ≡ each.items ++ tactic ∷ [] → (has : HasWhole (Listed first links each ∷ opens) room all rest (expression_here tactic))
    → IsListFront room has.opened.1.list rest (map expression_here further)
list-so-far opens room all rest first tactic links each further added has =
    list-taken room has.opened.1.list has.tokens rest (expression_here tactic) (map expression_here each.items) (map expression_here further)
    (ap (map expression_here) added ∙ mapped each.items tactic) has.opened.1.place has.read

pub list-waits : (opens : List Open) (room next : ℕ) (all : List Token) (first tactic : Tac Kept) (links : Vec (Link Kept) Global) (each further : Vec (Tac Kept) Global) (tokens : List TokenHere)
    → further.items ≡ each.items ++ tactic ∷ [] → HasWhole (Listed first links each ∷ opens) room all (behind next tokens) (expression_here tactic)
    → IsAt (Mark Semicolon) next tokens → AreOpen (Listed first links further ∷ opens) room all (behind (next + 1) tokens)
list-waits opens room next all first tactic links each further tokens added has front = (
  has.opened.0,
  record {
    chain = has.opened.1.chain;
    list = has.opened.1.list;
    front = has.opened.1.front;
    place = list-goes-on room has.opened.1.list (behind (next + 1) tokens) (map expression_here further.items)
        (subst (λ (ts : List Token). IsListFront room has.opened.1.list ts (map expression_here further.items)) front.front
        (list-so-far opens room all (behind next tokens) first tactic links each further.items added has));
    before = has.opened.1.before;
  },
)

pub list-fails : (opens : List Open) (room next : ℕ) (tokens : List TokenHere) (first tactic : Tac Kept) (links : Vec (Link Kept) Global) (each : Vec (Tac Kept) Global) (further : List (Tac Kept))
    → further ≡ each.items ++ tactic ∷ [] → HasWhole (Listed first links each ∷ opens) room (tokens_of tokens) (behind next tokens) (expression_here tactic)
    → IsNotAt (Mark CloseBracket) next tokens → IsNotAt (Mark Semicolon) next tokens → IsNoTactic (tokens_of tokens)
list-fails opens room next tokens first tactic links each further added has no_end no_semicolon =
    let place = has.opened.1 in
    chain-fails opens (room + 1) (tokens_of tokens) place.chain has.opened.0 place.before
    (thenl-broken (room + 1) place.chain place.list (expression_here first) (map joint_here links.items) place.front (λ list rest nested quotable same.
    list-open room place.list (behind next tokens) (map expression_here further)
    (list-so-far opens room (tokens_of tokens) (behind next tokens) first tactic links each further added has) no_end no_semicolon list rest
    (record { nested = omega (arith, nested); quotable = quotable }) same))

pub list-broken-at : (error : ReadError) (opens : List Open) (room next : ℕ) (tokens : List TokenHere) (first tactic : Tac Kept) (links : Vec (Link Kept) Global) (each : Vec (Tac Kept) Global)
    (further : List (Tac Kept)) → AddsElement (Err error) tactic each.items further next tokens
    → HasWhole (Listed first links each ∷ opens) room (tokens_of tokens) (behind next tokens) (expression_here tactic) → ReadsTactic (Err error) tokens
list-broken-at Memory opens room next tokens first tactic links each further refused has = tt
list-broken-at Syntax opens room next tokens first tactic links each further refused has =
    list-fails opens room next tokens first tactic links each (each.items ++ tactic ∷ []) refl has refused.0 refused.1

pub list-closes : (opens : List Open) (room next : ℕ) (all : List Token) (first tactic : Tac Kept) (links : Vec (Link Kept) Global) (each further : Vec (Tac Kept) Global) (joints : List (Link Kept))
    (joint : Link Kept) (tokens : List TokenHere)
    → further.items ≡ each.items ++ tactic ∷ [] → joint_here joint ≡ on_each (all_expressions (map expression_here further.items)) → joints ≡ links.items ++ joint ∷ []
    → HasWhole (Listed first links each ∷ opens) room all (behind next tokens) (expression_here tactic)
    → IsAt (Mark CloseBracket) next tokens → HasChain opens (room + 1) all (behind (next + 1) tokens) (expression_here first) (map joint_here joints)
list-closes opens room next all first tactic links each further joints joint tokens added means joined has ends =
    let place = has.opened.1 in
    record {
      tokens = place.chain;
      wanted = has.opened.0;
      opened = place.before;
      read = whole-goes-on (room + 1) place.chain (Name (codes "THENL") ∷ place.list) (behind (next + 1) tokens) (expression_here first) links.items joints joint joined place.front
          (thenl-read (room + 1) room (Name (codes "THENL") ∷ place.list) place.list (behind (next + 1) tokens) (all_expressions (map expression_here further.items)) (joint_here joint) means
          refl refl
          (list-ended room place.list (behind next tokens) (behind (next + 1) tokens) (map expression_here further.items)
          (list-so-far opens room all (behind next tokens) first tactic links each further.items added has) ends.front));
    }

-- nothing is open
pub whole-goes-on-behind : (room next : ℕ) (tokens : List TokenHere) (meaning : Meaning) → HasWhole [] room (tokens_of tokens) (behind next tokens) meaning → next < length tokens
    → IsNoTactic (tokens_of tokens)
whole-goes-on-behind room next tokens meaning has within tree grammatical same =
    some-behind tokens next within (sym (has.read.only tree [] (subst (λ (n : ℕ). Fits n tree) (sym has.opened.0) (fits-whole tree grammatical)) empty-ends (has.opened.1 ∙ same)))

none-behind : (tokens : List TokenHere) (next : ℕ) → length tokens ≤ next → behind next tokens ≡ []
none-behind [] zero within = refl
none-behind [] (suc next) within = refl
none-behind (first ∷ tokens) zero within = absurd (omega (arith, within))
none-behind (first ∷ tokens) (suc next) within = none-behind tokens next (omega (arith, within))

pub whole-is-all : (room next : ℕ) (tokens : List TokenHere) (tactic : Tac Kept) → HasWhole [] room (tokens_of tokens) (behind next tokens) (expression_here tactic) → length tokens ≤ next
    → ReadsTactic (Ok tactic) tokens
whole-is-all room next tokens tactic has within =
    let read : IsWhole EXPRESSION_NESTING_LIMIT has.tokens (behind next tokens) (expression_here tactic) =
    subst (λ (n : ℕ). IsWhole n has.tokens (behind next tokens) (expression_here tactic)) has.opened.0 has.read in (
      read.tree,
      record { depth = read.fits.nested; quotable = read.fits.quotable },
      sym has.opened.1 ∙ read.spelled ∙ ap (tactic_tokens read.tree) (none-behind tokens next within),
      read.means,
    )

-- ---- the newest place

pub pushed : (old new : List Open) (place : Open) → new ≡ old ++ place ∷ [] → reverse new ≡ place ∷ reverse old
pushed old new place added = ap reverse added ∙ reverse-append old (place ∷ [])

pub closes : (result : Option Open) (old : Reader) (left : Vec Open Global) → old.opens.items ≡ left.items ++ option_to_list result
    → MatchOption result ((vec_len old.opens ≡ 0) × (vec_len left ≡ 0)) (λ place. vec_len left + 1 ≡ vec_len old.opens)
    → Closes result old (record { opens = left; room = old.room })
closes None old left items count = (
  ap reverse (nil_from_length old.opens.items (sym old.opens.ok.0 ∙ count.0)),
  ap reverse (nil_from_length left.items (sym left.ok.0 ∙ count.1)),
  refl,
  count.1 ∙ sym count.0,
)
closes (Some place) old left items count = (pushed left.items old.opens.items place items, refl, count)

pub choice-in : (opens above : List Open) (place : Open) (room after : ℕ) (all rest : List Token) (meaning : Meaning) → opens ≡ place ∷ above → after ≡ room
    → HasChoiceWhole opens room all rest meaning → HasChoiceWhole (place ∷ above) after all rest meaning
choice-in opens above place room after all rest meaning is same has =
    subst (λ (n : ℕ). HasChoiceWhole (place ∷ above) n all rest meaning) (sym same) (subst (λ (os : List Open). HasChoiceWhole os room all rest meaning) is has)
