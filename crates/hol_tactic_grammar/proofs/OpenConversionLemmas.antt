-- What each step leads to, around a unit of a conversion.
use Rattle.std.proofs.Common.{◌≡◌, ℕ, ◌+◌, ◌-◌, ◌<◌, ◌≤◌, arith, List, [], ◌∷◌, ◌++◌, map, length, reverse, refl, sym, ◌∙◌, ap, subst, Result, Ok, Err, Vec, Global}
use Rattle.std.proofs.lemmas.List.{reverse-append}
use Rattle.std.specs.Prelude.{codes}
use Rattle.hol_model.specs.declared.symbol.Symbol.TheVariants.{OpenParenthesis, CloseParenthesis}
use Rattle.hol_model.specs.Texts.Token.{Name, Mark}
use Rattle.hol_model_sessions.specs.ConversionGrammar.{conversional_word}
use Rattle.hol_model_sessions.specs.SessionTools.{in_order, either}
use Rattle.hol_model.specs.Refining.Conversions as conversions
use Rattle.hol_tactic_exprs.specs.declared.conv.Conv.{Conv}
use Rattle.hol_tactic_exprs.specs.declared.conv.Prefix.{Prefix}
use Rattle.hol_tactic_exprs.specs.Expressions.{conversion_of, with_prefix, conversions_of}
use Rattle.hol_syntax_grammar.specs.declared.token.Token.{Token as TokenHere}
use Rattle.hol_syntax_grammar.specs.declared.type_reader.ReadError.{ReadError}
use Rattle.hol_syntax_grammar.specs.declared.type_reader.ReadError.TheVariants.{Memory, Syntax}
use Rattle.hol_tactic_grammar.specs.declared.conversions.Open.{Open}
use Rattle.hol_tactic_grammar.specs.declared.conversions.Open.TheVariants.{Prefixed, Enclosed}
use Rattle.hol_tactic_grammar.specs.declared.conversions.Step.{Step}
use Rattle.hol_tactic_grammar.specs.declared.conversions.Step.TheVariants.{Begin, Close}
use Rattle.hol_tactic_grammar.specs.ConversionWords.{conversional_of}
use Rattle.hol_tactic_grammar.specs.Tokens.{behind, IsAt, IsNotAt}
use Rattle.hol_tactic_grammar.specs.Conversions.{IsUnit, IsNoUnit, IsWhole, Reaches, ReadsUnit}
use Rattle.hol_tactic_grammar.specs.OpenConversions.{joined, IsEnclosed, Opens, AreOpen, IsWanted, IsRead, IsReadChoice, Goes, Leads, Enters, IsWholePart, IsChoicePart}
use Rattle.hol_tactic_grammar.proofs.ConversionLemmas.{prefix-read, prefix-refused, prefix-too-deep, enclosed-read, enclosed-open, enclosed-refused, enclosed-too-deep, made-of, choice-begun}
use Rattle.hol_tactic_grammar.proofs.ConversionLemmas.{choice-goes-on, choice-ended, choice-refused, whole-begun, whole-goes-on, whole-ended, whole-refused}

-- ---- a list and its last

pub newest : {A : Type 0} (old new : List A) (x : A) → new ≡ old ++ x ∷ [] → reverse new ≡ x ∷ reverse old
newest old new x is = ap reverse is ∙ reverse-append old (x ∷ [])

-- ---- what is refused

refused-at : (place : Open) (error : ReadError) (before at room above : ℕ) (tokens : List TokenHere) → room + 1 ≡ above → Opens place before at room tokens → ReadsUnit (Err error) at room tokens
    → ReadsUnit (Err error) before above tokens
refused-at place Memory before at room above tokens more opens refused = tt
refused-at (Prefixed prefix) Syntax before at room above tokens more opens refused =
    prefix-refused prefix above room (behind before tokens) (behind (before + 1) tokens) more opens.front.front (subst (λ (n : ℕ). IsNoUnit room (behind n tokens)) opens.next refused)
refused-at (Enclosed parts units) Syntax before at room above tokens more opens refused =
    enclosed-refused above room (behind before tokens) (behind (before + 1) tokens) more opens.front.front
    (whole-refused room (behind (before + 1) tokens) opens.start (map conversion_of parts.items) opens.whole
    (choice-refused room opens.start (behind at tokens) (map conversion_of units.items) opens.choice refused))

-- what fails inside fails whole
pub unread : (places : List Open) (error : ReadError) (at room start limit : ℕ) (tokens : List TokenHere) → AreOpen places at room start limit tokens → ReadsUnit (Err error) at room tokens
    → ReadsUnit (Err error) start limit tokens
unread [] error at room start limit tokens around refused =
    subst (λ (n : ℕ). ReadsUnit (Err error) start n tokens) around.1 (subst (λ (n : ℕ). ReadsUnit (Err error) n room tokens) around.0 refused)
unread (place ∷ places) error at room start limit tokens around refused =
    unread places error around.before around.above start limit tokens around.below (refused-at place error around.before at room around.above tokens around.more around.opens refused)

-- each open place takes from the room
counted : (places : List Open) (at room start limit : ℕ) (tokens : List TokenHere) → AreOpen places at room start limit tokens → room + length places ≡ limit
counted [] at room start limit tokens around = (let is : room ≡ limit = around.1 in omega arith)
counted (place ∷ places) at room start limit tokens around =
    let below : around.above + length places ≡ limit = counted places around.before around.above start limit tokens around.below in
    let more : room + 1 ≡ around.above = around.more in
    omega arith

-- ---- a place that is opened

opened : (place : Open) (old new : List Open) (at start limit : ℕ) (tokens : List TokenHere) → at < length tokens → ((room : ℕ) → Opens place at (at + 1) room tokens)
    → IsWanted old at start limit tokens → length old < limit → new ≡ place ∷ old → Goes (Begin (at + 1)) at (length old) new start limit tokens
opened place old new at start limit tokens within opens wanted free is = subst (λ (ps : List Open). Goes (Begin (at + 1)) at (length old) ps start limit tokens) (sym is) (record {
  holds = record {
    room = wanted.room - 1;
    around = record { before = at; above = wanted.room; more = more; below = wanted.around; opens = opens (wanted.room - 1) };
  };
  nearer = omega (arith, within);
})
  where
    count : wanted.room + length old ≡ limit
    count = counted old at wanted.room start limit tokens wanted.around

    more : wanted.room - 1 + 1 ≡ wanted.room
    more = omega (arith, count, free)

-- a place that may be opened there, or as many are open as may be
entered : (place : Open) (result : Result Step ReadError) (old new : List Open) (at start limit : ℕ) (tokens : List TokenHere) → at < length tokens
    → ((room : ℕ) → Opens place at (at + 1) room tokens) → IsNoUnit 0 (behind at tokens) → Enters result place (at + 1) limit old new → IsWanted old at start limit tokens
    → Leads result at (length old) new start limit tokens
entered place (Ok step) old new at start limit tokens within opens none enters wanted =
    subst (λ (s : Step). Goes s at (length old) new start limit tokens) (sym enters.0) (opened place old new at start limit tokens within opens wanted enters.1 enters.2)
entered place (Err Memory) old new at start limit tokens within opens none enters wanted = tt
entered place (Err Syntax) old new at start limit tokens within opens none enters wanted =
    let count : wanted.room + length old ≡ limit = counted old at wanted.room start limit tokens wanted.around in
    let past : limit ≤ length old = enters in
    let used : 0 ≡ wanted.room = omega arith in
    unread old Syntax at wanted.room start limit tokens wanted.around (subst (λ (n : ℕ). IsNoUnit n (behind at tokens)) used none)

pub prefixed-entered : (prefix : Prefix) (result : Result Step ReadError) (old new : List Open) (at start limit : ℕ) (tokens : List TokenHere)
    → IsAt (Name (conversional_word (conversional_of prefix))) at tokens → Enters result (Prefixed prefix) (at + 1) limit old new → IsWanted old at start limit tokens
    → Leads result at (length old) new start limit tokens
prefixed-entered prefix result old new at start limit tokens front enters wanted =
    entered (Prefixed prefix) result old new at start limit tokens front.within (λ (room : ℕ). record { next = refl; front = front })
    (prefix-too-deep prefix (behind at tokens) (behind (at + 1) tokens) front.front) enters wanted

pub enclosed-entered : (parts units : Vec Conv Global) (result : Result Step ReadError) (old new : List Open) (at start limit : ℕ) (tokens : List TokenHere) → parts.items ≡ [] → units.items ≡ []
    → IsAt (Mark OpenParenthesis) at tokens → Enters result (Enclosed parts units) (at + 1) limit old new → IsWanted old at start limit tokens
    → Leads result at (length old) new start limit tokens
enclosed-entered parts units result old new at start limit tokens no_parts no_units front enters wanted =
    entered (Enclosed parts units) result old new at start limit tokens front.within
    (λ (room : ℕ). record {
      start = behind (at + 1) tokens;
      front = front;
      further = omega arith;
      whole = subst (λ (cs : List Conv). IsWholePart room (behind (at + 1) tokens) (behind (at + 1) tokens) (map conversion_of cs)) (sym no_parts) (whole-begun room (behind (at + 1) tokens));
      choice = subst (λ (cs : List Conv). IsChoicePart room (behind (at + 1) tokens) (behind (at + 1) tokens) (map conversion_of cs)) (sym no_units) (choice-begun room (behind (at + 1) tokens));
    })
    (enclosed-too-deep (behind at tokens) (behind (at + 1) tokens) front.front) enters wanted

-- a unit without parts
pub leaf-taken : (conv : Conv) (places : List Open) (at next start limit : ℕ) (tokens : List TokenHere) → ((room : ℕ) → ReadsUnit (Ok (conv, next)) at room tokens)
    → IsWanted places at start limit tokens → Goes (Close conv next) at (length places) places start limit tokens
leaf-taken conv places at next start limit tokens reads wanted =
    let read = reads wanted.room in
    let reaches : Reaches at next tokens = read.0 in
    record {
      holds = record { at = at; room = wanted.room; around = wanted.around; reaches = reaches; read = read.1 };
      nearer = omega (arith, reaches.further, reaches.within);
    }

-- ---- a place that is closed

pub prefixed-closed : (prefix : Prefix) (unit made : Conv) (old new : List Open) (next start limit : ℕ) (tokens : List TokenHere) → old ≡ Prefixed prefix ∷ new
    → conversion_of made ≡ with_prefix prefix (conversion_of unit) → IsRead old unit next start limit tokens → Goes (Close made next) next (length old) new start limit tokens
prefixed-closed prefix unit made old new next start limit tokens top is held =
    subst (λ (ps : List Open). Goes (Close made next) next (length ps) new start limit tokens) (sym top) (go (subst (λ (ps : List Open). IsRead ps unit next start limit tokens) top held))
  where
    go : IsRead (Prefixed prefix ∷ new) unit next start limit tokens → Goes (Close made next) next (length (Prefixed prefix ∷ new)) new start limit tokens
    go known =
        let place = known.around in
        let one : known.at ≡ place.before + 1 = place.opens.next in
        let operand : IsUnit known.room (behind (place.before + 1) tokens) (behind next tokens) (conversion_of unit) =
        subst (λ (n : ℕ). IsUnit known.room (behind n tokens) (behind next tokens) (conversion_of unit)) one known.read in
        record {
          holds = record {
            at = place.before;
            room = place.above;
            around = place.below;
            reaches = record { further = omega (arith, one, known.reaches.further); within = known.reaches.within };
            read = prefix-read prefix place.above known.room (behind place.before tokens) (behind (place.before + 1) tokens) (behind next tokens) (conversion_of unit) (conversion_of made)
                is place.more place.opens.front.front operand;
          };
          nearer = omega arith;
        }

-- ---- behind a unit in parentheses

pub unit-goes-on : (parts units more : Vec Conv Global) (unit : Conv) (old new : List Open) (next start limit : ℕ) (tokens : List TokenHere) → more.items ≡ units.items ++ unit ∷ []
    → new ≡ Enclosed parts more ∷ old → IsAt (Name (codes "ORELSEC")) next tokens → IsRead (Enclosed parts units ∷ old) unit next start limit tokens
    → Goes (Begin (next + 1)) next (length old + 1) new start limit tokens
unit-goes-on parts units more unit old new next start limit tokens added is front held =
    subst (λ (ps : List Open). Goes (Begin (next + 1)) next (length old + 1) ps start limit tokens) (sym is) (
    let place = held.around in
    let known : IsEnclosed (map conversion_of parts.items) (map conversion_of units.items) place.before held.at held.room tokens = place.opens in
    record {
      holds = record {
        room = held.room;
        around = record {
          before = place.before;
          above = place.above;
          more = place.more;
          below = place.below;
          opens = record {
            start = known.start;
            front = known.front;
            further = omega (arith, known.further, held.reaches.further);
            whole = known.whole;
            choice = choice-goes-on held.room known.start (behind held.at tokens) (behind next tokens) (behind (next + 1) tokens) units.items more.items unit added known.choice held.read front.front;
          };
        };
      };
      nearer = omega (arith, front.within);
    })

pub choice-closed : (parts units : Vec Conv Global) (unit made first : Conv) (more others : List Conv) (old : List Open) (next start limit : ℕ) (tokens : List TokenHere)
    → more ≡ units.items ++ unit ∷ [] → first ∷ others ≡ more → IsNotAt (Name (codes "ORELSEC")) next tokens → conversion_of made ≡ either (conversion_of first) (conversions_of others)
    → IsRead (Enclosed parts units ∷ old) unit next start limit tokens → IsReadChoice parts.items old made next start limit tokens
choice-closed parts units unit made first more others old next start limit tokens added all ended is held =
    let place = held.around in
    let known : IsEnclosed (map conversion_of parts.items) (map conversion_of units.items) place.before held.at held.room tokens = place.opens in
    record {
      before = place.before;
      above = place.above;
      room = held.room;
      begun = known.start;
      more = place.more;
      around = place.below;
      front = known.front;
      reaches = record { further = omega (arith, known.further, held.reaches.further); within = held.reaches.within };
      whole = known.whole;
      read = choice-ended held.room known.start (behind held.at tokens) (behind next tokens) (conversion_of unit) (conversion_of made) (map conversion_of units.items) known.choice held.read ended
          (is ∙ made-of either units.items others unit first (all ∙ added));
    }

-- ---- behind a chain of ORELSEC in parentheses

pub choice-goes-on-at : (parts : List Conv) (more none : Vec Conv Global) (choice : Conv) (old new : List Open) (next start limit : ℕ) (tokens : List TokenHere) → more.items ≡ parts ++ choice ∷ []
    → none.items ≡ [] → new ≡ Enclosed more none ∷ old → IsAt (Name (codes "THENC")) next tokens → IsReadChoice parts old choice next start limit tokens
    → Goes (Begin (next + 1)) next (length old + 1) new start limit tokens
choice-goes-on-at parts more none choice old new next start limit tokens added empty is front held =
    subst (λ (ps : List Open). Goes (Begin (next + 1)) next (length old + 1) ps start limit tokens) (sym is) (record {
      holds = record {
        room = held.room;
        around = record {
          before = held.before;
          above = held.above;
          more = held.more;
          below = held.around;
          opens = record {
            start = behind (next + 1) tokens;
            front = held.front;
            further = omega (arith, held.reaches.further);
            whole = whole-goes-on held.room (behind (held.before + 1) tokens) held.begun (behind next tokens) (behind (next + 1) tokens) parts more.items choice added held.whole held.read front.front;
            choice = subst (λ (cs : List Conv). IsChoicePart held.room (behind (next + 1) tokens) (behind (next + 1) tokens) (map conversion_of cs)) (sym empty)
                (choice-begun held.room (behind (next + 1) tokens));
          };
        };
      };
      nearer = omega (arith, front.within);
    })

pub enclosed-closed : (parts : List Conv) (choice made first : Conv) (more others : List Conv) (places : List Open) (next start limit : ℕ) (tokens : List TokenHere)
    → more ≡ parts ++ choice ∷ [] → first ∷ others ≡ more → IsNotAt (Name (codes "THENC")) next tokens → IsAt (Mark CloseParenthesis) next tokens
    → conversion_of made ≡ in_order (conversion_of first) (conversions_of others) → IsReadChoice parts places choice next start limit tokens
    → Goes (Close made (next + 1)) next (length places + 1) places start limit tokens
enclosed-closed parts choice made first more others places next start limit tokens added all ended close is held =
    let whole : IsWhole held.room (behind (held.before + 1) tokens) (behind next tokens) (conversion_of made) =
    whole-ended held.room (behind (held.before + 1) tokens) held.begun (behind next tokens) (conversion_of choice) (conversion_of made) (map conversion_of parts) held.whole held.read ended
    (is ∙ made-of in_order parts others choice first (all ∙ added)) in
    record {
      holds = record {
        at = held.before;
        room = held.above;
        around = held.around;
        reaches = record { further = omega (arith, held.reaches.further); within = omega (arith, close.within) };
        read = enclosed-read held.above held.room (behind held.before tokens) (behind (held.before + 1) tokens) (behind next tokens) (behind (next + 1) tokens) (conversion_of made)
            held.more held.front.front close.front whole;
      };
      nearer = omega (arith, close.within);
    }

pub enclosed-unclosed : (parts : List Conv) (choice : Conv) (places : List Open) (next start limit : ℕ) (tokens : List TokenHere) → IsNotAt (Name (codes "THENC")) next tokens
    → IsNotAt (Mark CloseParenthesis) next tokens → IsReadChoice parts places choice next start limit tokens → ReadsUnit (Err Syntax) start limit tokens
enclosed-unclosed parts choice places next start limit tokens ended unclosed held =
    let meaning = joined in_order (map conversion_of parts) (conversion_of choice) conversions.no_more in
    let whole : IsWhole held.room (behind (held.before + 1) tokens) (behind next tokens) meaning =
    whole-ended held.room (behind (held.before + 1) tokens) held.begun (behind next tokens) (conversion_of choice) meaning (map conversion_of parts) held.whole held.read ended refl in
    unread places Syntax held.before held.above start limit tokens held.around
    (enclosed-open held.above held.room (behind held.before tokens) (behind (held.before + 1) tokens) (behind next tokens) meaning held.more held.front.front unclosed whole)
