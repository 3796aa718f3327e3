-- Lists of replacements among tokens: what the pairs of a list are is determined.
use Rattle.std.proofs.Common.{◌≡◌, ◌≢◌, ℕ, zero, suc, ◌+◌, ◌-◌, ◌<◌, ◌≤◌, arith, true, List, [], ◌∷◌, ◌++◌, length, get_or, take, drop, map, refl, sym, ◌∙◌, ap, subst, Err}
use Rattle.std.specs.Prelude.{codes}
use Rattle.std.proofs.lemmas.List.{drop-map, take_more, drop-drop, take_rest, map-append, length-map, length-append, append-nil, append_assoc}
use Rattle.std.proofs.Math.Seq.{drop-append_seam}
use Rattle.hol_model.specs.declared.symbol.Symbol.{Symbol}
use Rattle.hol_model.specs.declared.symbol.Symbol.TheVariants.{Backquote, Comma, Semicolon, OpenBracket, CloseBracket}
use Rattle.hol_model.specs.Terms.Name.{is_type_variable_name}
use Rattle.hol_model.specs.Texts.Token.{Token, Name, Mark}
use Rattle.hol_model.specs.Texts.TypeGrammar.{TypeTree}
use Rattle.hol_model.specs.Texts.TermGrammar.{TermTree, IsWithin}
use Rattle.hol_model_sessions.specs.Commands.{RuleTree, quoted, pair_tokens, further_tokens, first_tokens, list_tokens, term_pair, type_pair, argument_tokens}
use Rattle.hol_model_sessions.specs.Commands.{ArePairs, AreTypePairs, IsQuotable, IsRuleTree}
use Rattle.hol_syntax_grammar.specs.declared.token.Token.{Token as TokenHere}
use Rattle.hol_syntax_grammar.specs.declared.type_reader.ReadError.{ReadError}
use Rattle.hol_syntax_grammar.specs.declared.type_reader.ReadError.TheVariants.{Memory, Syntax}
use Rattle.hol_syntax_grammar.specs.Views.{tokens_of}
use Rattle.hol_script_commands.specs.declared.pairs.QuotedPair.{QuotedPair}
use Rattle.hol_script_commands.specs.declared.pairs.TermPair.{TermPair}
use Rattle.hol_script_commands.specs.declared.pairs.TypePair.{TypePair}
use Rattle.hol_tactic_grammar.specs.Tokens.{AreTokens}
use Rattle.hol_script_commands.specs.Reading.{HasNoQuote, ParsesArguments}
use Rattle.hol_script_commands.specs.Pairs.{parts_of, IsUnquoted, AreUnquoted, TakesPairs, ParsesPairs, ParsesTermPair, ParsesTypePair, ParsesTermPairs, ParsesTypePairs}
use Rattle.hol_script_commands.specs.Views.{IsTermPair, AreTermPairs, IsTypePair}
use Rattle.hol_script_commands.specs.Views as views
use Rattle.hol_script_commands.proofs.ReadingLemmas.{SamePieces, quoted_once, quotable-no_quote, type-no_quote, inst-tree, inst_type-tree}

-- the tokens of the two parts of a pair
abbrev pub Parts : Type 0
Parts = List Token × List Token

-- ---- one pair

-- the parts of a pair, and what follows it, are determined
pub record SamePair (p q : Parts) (r s : List Token) : Type 0 where
  pub parts : p ≡ q
  pub rest : r ≡ s

-- the first quote of a pair, and what follows it
first_once : (a r : List Token) (q : Parts) (s : List Token) → HasNoQuote a → IsUnquoted q → quoted a r ≡ pair_tokens q s → SamePieces a q.0 r (Mark Comma ∷ quoted q.1 s)
first_once a r q s none_a none_q same = quoted_once a q.0 r (Mark Comma ∷ quoted q.1 s) none_a none_q.0 same

pub pair_once : (p q : Parts) (r s : List Token) → IsUnquoted p → IsUnquoted q → pair_tokens p r ≡ pair_tokens q s → SamePair p q r s
pair_once p q r s none_p none_q same =
    let first : SamePieces p.0 q.0 (Mark Comma ∷ quoted p.1 r) (Mark Comma ∷ quoted q.1 s) = first_once p.0 (Mark Comma ∷ quoted p.1 r) q s none_p.0 none_q same in
    let behind : quoted p.1 r ≡ quoted q.1 s = (let whole : Mark Comma ∷ quoted p.1 r ≡ Mark Comma ∷ quoted q.1 s = first.rest in cc) in
    let second : SamePieces p.1 q.1 r s = quoted_once p.1 q.1 r s none_p.1 none_q.1 behind in
    record { parts = λ i. (first.inner i, second.inner i); rest = second.rest }

-- what stands before the rest
quoted-append : (inner rest : List Token) → quoted inner rest ≡ quoted inner [] ++ rest
quoted-append inner rest = ap (λ (ts : List Token). Mark Backquote ∷ ts) (sym (append_assoc inner (Mark Backquote ∷ []) rest))

pair-append : (p : Parts) (rest : List Token) → pair_tokens p rest ≡ pair_tokens p [] ++ rest
pair-append p rest =
    ap (λ (ts : List Token). quoted p.0 (Mark Comma ∷ ts)) (quoted-append p.1 rest) ∙ quoted-append p.0 (Mark Comma ∷ (quoted p.1 [] ++ rest))
    ∙ sym (append_assoc (quoted p.0 []) (Mark Comma ∷ quoted p.1 []) rest) ∙ ap (λ (ts : List Token). ts ++ rest) (sym (quoted-append p.0 (Mark Comma ∷ quoted p.1 [])))

-- how many tokens a mark and a pair are
pub record IsFront (tokens rest : List TokenHere) : Type 0 where
  pub some : 1 ≤ length tokens - length rest
  pub within : length rest ≤ length tokens
  pub behind : tokens_of (drop (length tokens - length rest) tokens) ≡ tokens_of rest

front : (tokens rest : List TokenHere) (before : List Token) → 1 ≤ length before → tokens_of tokens ≡ before ++ tokens_of rest → IsFront tokens rest
front tokens rest before some same =
    let counted : length tokens ≡ length before + length rest =
    sym (length-map tokens _) ∙ ap length same ∙ length-append before (tokens_of rest) ∙ ap (λ (n : ℕ). length before + n) (length-map rest _) in
    let count : length tokens - length rest ≡ length before = omega (arith, counted) in
    record {
      some = omega (arith, counted, some);
      within = omega (arith, counted);
      behind = sym (drop-map _ (length tokens - length rest) tokens) ∙ ap (λ (n : ℕ). drop n (tokens_of tokens)) count ∙ ap (drop (length before)) same ∙ drop-append_seam before (tokens_of rest);
    }

pub pair-front : (opening : Symbol) (tokens rest : List TokenHere) (p : Parts) → tokens_of tokens ≡ Mark opening ∷ pair_tokens p (tokens_of rest) → IsFront tokens rest
pair-front opening tokens rest p same =
    front tokens rest (Mark opening ∷ pair_tokens p []) (omega arith) (same ∙ ap (λ (ts : List Token). Mark opening ∷ ts) (pair-append p (tokens_of rest)))

-- no pair stands behind the mark
pub no-pair : (opening : Symbol) (tokens quote : List Token) → tokens ≡ Mark opening ∷ quote → ((pair : Parts) (rest : List Token) → IsUnquoted pair → quote ≢ pair_tokens pair rest)
    → (pair : Parts) (rest : List Token) → IsUnquoted pair → tokens ≢ Mark opening ∷ pair_tokens pair rest
no-pair opening tokens quote begins none pair rest unquoted same =
    let both : Mark opening ∷ quote ≡ Mark opening ∷ pair_tokens pair rest = sym begins ∙ same in
    let further : quote ≡ pair_tokens pair rest = cc in
    none pair rest unquoted further

-- the first quote has no second one behind it
pub no-second : (quote inner further : List Token) → quote ≡ quoted inner further → HasNoQuote inner → ((other rest : List Token) → further ≢ Mark Comma ∷ quoted other rest)
    → (pair : Parts) (rest : List Token) → IsUnquoted pair → quote ≢ pair_tokens pair rest
no-second quote inner further is unquoted none pair rest unquoted_pair same =
    none pair.1 rest (first_once inner further pair rest unquoted unquoted_pair (sym is ∙ same)).rest

pub no-quote-behind : (further quote : List Token) → further ≡ Mark Comma ∷ quote → ((inner rest : List Token) → quote ≢ quoted inner rest) → (other rest : List Token)
    → further ≢ Mark Comma ∷ quoted other rest
no-quote-behind further quote begins none other rest same =
    let both : Mark Comma ∷ quote ≡ Mark Comma ∷ quoted other rest = sym begins ∙ same in
    let behind : quote ≡ quoted other rest = cc in
    none other rest behind

-- ---- lists

-- the tokens are a list whose first pairs these are, and what is left goes on with the others
pub record IsListFront (tokens : List Token) (pairs : List Parts) (left : List Token) : Type 0 where
  pub unquoted : AreUnquoted pairs
  pub whole : (others : List Parts) (rest : List Token) → left ≡ further_tokens others rest → tokens ≡ list_tokens (pairs ++ others) rest
  pub goes_on : (list : List Parts) (rest : List Token) → AreUnquoted list → tokens ≡ list_tokens list rest → (others : List Parts) × AreUnquoted others × (left ≡ further_tokens others rest)

pub begun : (tokens left : List Token) (p : Parts) → IsUnquoted p → tokens ≡ Mark OpenBracket ∷ pair_tokens p left → IsListFront tokens (p ∷ []) left
begun tokens left p none begins = record {
  unquoted = (none, tt);
  whole = λ others rest same. begins ∙ ap (λ (ts : List Token). Mark OpenBracket ∷ pair_tokens p ts) same;
  goes_on = goes_on;
}
  where
    goes_on : (list : List Parts) (rest : List Token) → AreUnquoted list → tokens ≡ list_tokens list rest → (others : List Parts) × AreUnquoted others × (left ≡ further_tokens others rest)
    goes_on [] rest unquoted same = absurd (let both : Mark OpenBracket ∷ pair_tokens p left ≡ Mark OpenBracket ∷ Mark CloseBracket ∷ rest = sym begins ∙ same in cc)
    goes_on (q ∷ qs) rest unquoted same =
        let both : Mark OpenBracket ∷ pair_tokens p left ≡ Mark OpenBracket ∷ pair_tokens q (further_tokens qs rest) = sym begins ∙ same in
        let further : pair_tokens p left ≡ pair_tokens q (further_tokens qs rest) = cc in
        (qs, unquoted.1, (pair_once p q left (further_tokens qs rest) none unquoted.0 further).rest)

unquoted-append : (pairs : List Parts) (p : Parts) → AreUnquoted pairs → IsUnquoted p → AreUnquoted (pairs ++ p ∷ [])
unquoted-append [] p all one = (one, tt)
unquoted-append (q ∷ pairs) p all one = (all.0, unquoted-append pairs p all.1 one)

-- one more pair
pub taken : (tokens left next : List Token) (pairs : List Parts) (p : Parts) → IsListFront tokens pairs left → IsUnquoted p → left ≡ Mark Semicolon ∷ pair_tokens p next
    → IsListFront tokens (pairs ++ p ∷ []) next
taken tokens left next pairs p front none begins = record {
  unquoted = unquoted-append pairs p front.unquoted none;
  whole = λ others rest same. front.whole (p ∷ others) rest (begins ∙ ap (λ (ts : List Token). Mark Semicolon ∷ pair_tokens p ts) same)
      ∙ ap (λ (ps : List Parts). list_tokens ps rest) (sym (append_assoc pairs (p ∷ []) others));
  goes_on = λ list rest unquoted same. go rest (front.goes_on list rest unquoted same);
}
  where
    go : (rest : List Token) → ((others : List Parts) × AreUnquoted others × (left ≡ further_tokens others rest)) → (others : List Parts) × AreUnquoted others × (next ≡ further_tokens others rest)
    go rest ([], unquoted, same) = absurd (let both : Mark Semicolon ∷ pair_tokens p next ≡ Mark CloseBracket ∷ rest = sym begins ∙ same in cc)
    go rest (q ∷ qs, unquoted, same) =
        let both : Mark Semicolon ∷ pair_tokens p next ≡ Mark Semicolon ∷ pair_tokens q (further_tokens qs rest) = sym begins ∙ same in
        let further : pair_tokens p next ≡ pair_tokens q (further_tokens qs rest) = cc in
        (qs, unquoted.1, (pair_once p q next (further_tokens qs rest) none unquoted.0 further).rest)

pub ended : (tokens left rest : List Token) (pairs : List Parts) → IsListFront tokens pairs left → left ≡ Mark CloseBracket ∷ rest → tokens ≡ list_tokens pairs rest
ended tokens left rest pairs front same = front.whole [] rest same ∙ ap (λ (ps : List Parts). list_tokens ps rest) (append-nil pairs)

-- what is left is neither a further pair nor the end
pub broken_off : (tokens left : List Token) (pairs : List Parts) → IsListFront tokens pairs left
    → ((pair : Parts) (rest : List Token) → IsUnquoted pair → left ≢ Mark Semicolon ∷ pair_tokens pair rest)
    → ((rest : List Token) → left ≢ Mark CloseBracket ∷ rest) → TakesPairs (Err Syntax) tokens
broken_off tokens left pairs front no_pair no_end = λ list rest unquoted same. go rest (front.goes_on list rest unquoted same)
  where
    go : (rest : List Token) → ((others : List Parts) × AreUnquoted others × (left ≡ further_tokens others rest)) → ⊥
    go rest ([], unquoted, same) = no_end rest same
    go rest (q ∷ qs, unquoted, same) = no_pair q (further_tokens qs rest) unquoted.0 same

-- the pairs of a list, and what follows it, are determined
pub record SameList (ps qs : List Parts) (r s : List Token) : Type 0 where
  pub pairs : ps ≡ qs
  pub rest : r ≡ s

further_once : (ps qs : List Parts) (r s : List Token) → AreUnquoted ps → AreUnquoted qs → further_tokens ps r ≡ further_tokens qs s → SameList ps qs r s
further_once [] [] r s none_p none_q same = record { pairs = refl; rest = cc }
further_once [] (q ∷ qs) r s none_p none_q same = absurd (let both : Mark CloseBracket ∷ r ≡ Mark Semicolon ∷ pair_tokens q (further_tokens qs s) = same in cc)
further_once (p ∷ ps) [] r s none_p none_q same = absurd (let both : Mark Semicolon ∷ pair_tokens p (further_tokens ps r) ≡ Mark CloseBracket ∷ s = same in cc)
further_once (p ∷ ps) (q ∷ qs) r s none_p none_q same =
    let both : Mark Semicolon ∷ pair_tokens p (further_tokens ps r) ≡ Mark Semicolon ∷ pair_tokens q (further_tokens qs s) = same in
    let pairs : pair_tokens p (further_tokens ps r) ≡ pair_tokens q (further_tokens qs s) = cc in
    let here : SamePair p q (further_tokens ps r) (further_tokens qs s) = pair_once p q _ _ none_p.0 none_q.0 pairs in
    let others : SameList ps qs r s = further_once ps qs r s none_p.1 none_q.1 here.rest in
    record { pairs = λ i. here.parts i ∷ others.pairs i; rest = others.rest }

first-once : (ps qs : List Parts) (r s : List Token) → AreUnquoted ps → AreUnquoted qs → first_tokens ps r ≡ first_tokens qs s → SameList ps qs r s
first-once [] [] r s none_p none_q same = record { pairs = refl; rest = cc }
first-once [] (q ∷ qs) r s none_p none_q same = absurd (let both : Mark CloseBracket ∷ r ≡ pair_tokens q (further_tokens qs s) = same in cc)
first-once (p ∷ ps) [] r s none_p none_q same = absurd (let both : pair_tokens p (further_tokens ps r) ≡ Mark CloseBracket ∷ s = same in cc)
first-once (p ∷ ps) (q ∷ qs) r s none_p none_q same =
    let here : SamePair p q (further_tokens ps r) (further_tokens qs s) = pair_once p q _ _ none_p.0 none_q.0 same in
    let others : SameList ps qs r s = further_once ps qs r s none_p.1 none_q.1 here.rest in
    record { pairs = λ i. here.parts i ∷ others.pairs i; rest = others.rest }

pub list_once : (tokens : List Token) (ps qs : List Parts) (r s : List Token) → AreUnquoted ps → AreUnquoted qs → tokens ≡ list_tokens ps r → tokens ≡ list_tokens qs s → SameList ps qs r s
list_once tokens ps qs r s none_p none_q first second =
    let both : Mark OpenBracket ∷ first_tokens ps r ≡ Mark OpenBracket ∷ first_tokens qs s = sym first ∙ second in
    let further : first_tokens ps r ≡ first_tokens qs s = cc in
    first-once ps qs r s none_p none_q further

-- what follows a list
behind-append : (before rest : List Token) → AreTokens (before ++ rest) → AreTokens rest
behind-append [] rest all = all
behind-append (token ∷ before) rest all = behind-append before rest all.1

behind-pair : (p : Parts) (rest : List Token) → AreTokens (pair_tokens p rest) → AreTokens rest
behind-pair p rest all = behind-append (pair_tokens p []) rest (subst AreTokens (pair-append p rest) all)

behind-further : (pairs : List Parts) (rest : List Token) → AreTokens (further_tokens pairs rest) → AreTokens rest
behind-further [] rest all = all.1
behind-further (p ∷ pairs) rest all = behind-further pairs rest (behind-pair p (further_tokens pairs rest) all.1)

behind-first : (pairs : List Parts) (rest : List Token) → AreTokens (first_tokens pairs rest) → AreTokens rest
behind-first [] rest all = all.1
behind-first (p ∷ pairs) rest all = behind-further pairs rest (behind-pair p (further_tokens pairs rest) all)

pub behind-list : (tokens rest : List Token) (pairs : List Parts) → tokens ≡ list_tokens pairs rest → AreTokens tokens → AreTokens rest
behind-list tokens rest pairs same all = behind-first pairs rest (subst AreTokens same all).1

-- a list with no name alone behind it
pub no-name-behind-list : (tokens rest : List Token) (pairs : List Parts) → AreUnquoted pairs → tokens ≡ list_tokens pairs rest → ((name : List ℕ) → rest ≢ Name name ∷ [])
    → (others : List Parts) (name : List ℕ) → AreUnquoted others → tokens ≢ list_tokens others (Name name ∷ [])
no-name-behind-list tokens rest pairs unquoted read none others name unquoted_others same =
    none name (list_once tokens pairs others rest (Name name ∷ []) unquoted unquoted_others read same).rest

-- ---- terms and types

terms-unquoted : (trees : List (TermTree × TermTree)) → ArePairs trees → AreUnquoted (map term_pair trees)
terms-unquoted [] all = tt
terms-unquoted (trees ∷ others) all = ((quotable-no_quote trees.0 all.0, quotable-no_quote trees.1 all.1), terms-unquoted others all.2)

types-unquoted : (trees : List (TypeTree × List ℕ)) → AreTypePairs trees → AreUnquoted (map type_pair trees)
types-unquoted [] all = tt
types-unquoted (trees ∷ others) all = ((type-no_quote trees.0 [] tt, (refl, tt)), types-unquoted others all.2)

-- the tokens are no arguments of the rule
abbrev IsNoArgument : List Token → RuleTree → Type 0
IsNoArgument tokens tree = IsRuleTree tree → tokens ≢ argument_tokens tree

-- a refusal of the list is one of INST and of INST_TYPE
pub inst-refused : (error : ReadError) (tokens : List Token) → ParsesPairs (Err error) tokens → ParsesArguments (Err error) (codes "INST") tokens
inst-refused Memory tokens refused = tt
inst-refused Syntax tokens refused = λ tree grammatical worded.
    inst-tree (IsNoArgument tokens) (λ trees a grammatical. refused (map term_pair trees) a (terms-unquoted trees grammatical)) tree worded grammatical

pub inst_type-refused : (error : ReadError) (tokens : List Token) → ParsesPairs (Err error) tokens → ParsesArguments (Err error) (codes "INST_TYPE") tokens
inst_type-refused Memory tokens refused = tt
inst_type-refused Syntax tokens refused = λ tree grammatical worded.
    inst_type-tree (IsNoArgument tokens) (λ trees a grammatical. refused (map type_pair trees) a (types-unquoted trees grammatical)) tree worded grammatical

-- pairs that are not read are no arguments of them
pub inst-unread : (error : ReadError) (tokens : List Token) (pairs : List Parts) (name : List ℕ) → AreUnquoted pairs → tokens ≡ list_tokens pairs (Name name ∷ []) → ParsesTermPairs (Err error) pairs
    → ParsesArguments (Err error) (codes "INST") tokens
inst-unread Memory tokens pairs name unquoted read refused = tt
inst-unread Syntax tokens pairs name unquoted read refused = λ tree grammatical worded.
    inst-tree (IsNoArgument tokens) (λ trees a grammatical same.
    refused trees grammatical (sym (list_once tokens pairs (map term_pair trees) (Name name ∷ []) (Name a ∷ []) unquoted (terms-unquoted trees grammatical) read same).pairs))
    tree worded grammatical

pub inst_type-unread : (error : ReadError) (tokens : List Token) (pairs : List Parts) (name : List ℕ) → AreUnquoted pairs → tokens ≡ list_tokens pairs (Name name ∷ [])
    → ParsesTypePairs (Err error) pairs
    → ParsesArguments (Err error) (codes "INST_TYPE") tokens
inst_type-unread Memory tokens pairs name unquoted read refused = tt
inst_type-unread Syntax tokens pairs name unquoted read refused = λ tree grammatical worded.
    inst_type-tree (IsNoArgument tokens) (λ trees a grammatical same.
    refused trees grammatical (sym (list_once tokens pairs (map type_pair trees) (Name name ∷ []) (Name a ∷ []) unquoted (types-unquoted trees grammatical) read same).pairs))
    tree worded grammatical

-- ---- the loop over a list

-- the pairs in hand, the last of them pushed
pub begun_with : (tokens : List TokenHere) (pushed new : List QuotedPair) (first : QuotedPair) (at : ℕ) → new ≡ [] → pushed ≡ new ++ first ∷ [] → IsUnquoted (parts_of first)
    → tokens_of tokens ≡ Mark OpenBracket ∷ pair_tokens (parts_of first) (tokens_of (drop at tokens)) → IsListFront (tokens_of tokens) (map parts_of pushed) (tokens_of (drop at tokens))
begun_with tokens pushed new first at empty put none begins =
    subst (λ (ps : List QuotedPair). IsListFront (tokens_of tokens) (map parts_of ps) (tokens_of (drop at tokens))) (sym (put ∙ ap (λ (ps : List QuotedPair). ps ++ first ∷ []) empty))
    (begun (tokens_of tokens) (tokens_of (drop at tokens)) (parts_of first) none begins)

pub taken_with : (tokens : List TokenHere) (pushed old : List QuotedPair) (pair : QuotedPair) (at count : ℕ) → pushed ≡ old ++ pair ∷ []
    → IsListFront (tokens_of tokens) (map parts_of old) (tokens_of (drop at tokens)) → IsUnquoted (parts_of pair)
    → tokens_of (take (length tokens - at) (drop at tokens)) ≡ Mark Semicolon ∷ pair_tokens (parts_of pair) (tokens_of (drop count (take (length tokens - at) (drop at tokens))))
    → IsListFront (tokens_of tokens) (map parts_of pushed) (tokens_of (drop (at + count) tokens))
taken_with tokens pushed old pair at count put front none begins =
    let left : take (length tokens - at) (drop at tokens) ≡ drop at tokens = take_rest tokens at in
    let next : drop count (take (length tokens - at) (drop at tokens)) ≡ drop (at + count) tokens = ap (drop count) left ∙ drop-drop count at tokens in
    subst (λ (ps : List Parts). IsListFront (tokens_of tokens) ps (tokens_of (drop (at + count) tokens)))
    (sym (ap (map parts_of) put ∙ map-append parts_of old (pair ∷ [])))
    (taken (tokens_of tokens) (tokens_of (drop at tokens)) (tokens_of (drop (at + count) tokens)) (map parts_of old) (parts_of pair) front none
    (ap tokens_of (sym left) ∙ begins ∙ ap (λ (ts : List TokenHere). Mark Semicolon ∷ pair_tokens (parts_of pair) (tokens_of ts)) next))

-- what is left, as a slice
pub left-slice : (tokens : List TokenHere) (at : ℕ) → tokens_of (drop at tokens) ≡ tokens_of (take (length tokens - at) (drop at tokens))
left-slice tokens at = ap tokens_of (sym (take_rest tokens at))

-- ---- parts

-- the parts of each pair of terms
pairs-more : (trees : List (TermTree × TermTree)) (tree : TermTree × TermTree) → ArePairs trees → IsQuotable tree.0 → IsQuotable tree.1 → ArePairs (trees ++ tree ∷ [])
pairs-more [] tree all new old = (new, old, tt)
pairs-more (first ∷ trees) tree all new old = (all.0, all.1, pairs-more trees tree all.2 new old)

term_pairs-more : (parsed : List TermPair) (trees : List (TermTree × TermTree)) (pair : TermPair) (tree : TermTree × TermTree) → AreTermPairs parsed trees → IsTermPair pair tree
    → AreTermPairs (parsed ++ pair ∷ []) (trees ++ tree ∷ [])
term_pairs-more [] [] pair tree all one = (one, tt)
term_pairs-more [] (first ∷ trees) pair tree all one = absurd all
term_pairs-more (first ∷ parsed) [] pair tree all one = absurd all
term_pairs-more (first ∷ parsed) (here ∷ trees) pair tree all one = (all.0, term_pairs-more parsed trees pair tree all.1 one)

pub more-terms : (pairs : List QuotedPair) (at : ℕ) (default : QuotedPair) (pushed old : List TermPair) (pair : TermPair) → at < length pairs → pushed ≡ old ++ pair ∷ []
    → ((trees : List (TermTree × TermTree)) × ArePairs trees × (map term_pair trees ≡ map parts_of (take at pairs)) × AreTermPairs old trees)
    → ((tree : TermTree × TermTree) × IsQuotable tree.0 × IsQuotable tree.1 × (term_pair tree ≡ parts_of (get_or pairs at default)) × IsTermPair pair tree)
    → (trees : List (TermTree × TermTree)) × ArePairs trees × (map term_pair trees ≡ map parts_of (take (at + 1) pairs)) × AreTermPairs pushed trees
more-terms pairs at default pushed old pair within put (trees, all, same, parsed) (tree, new_quotable, old_quotable, here, is_pair) = (
  trees ++ tree ∷ [],
  pairs-more trees tree all new_quotable old_quotable,
  map-append term_pair trees (tree ∷ []) ∙ (λ i. same i ++ here i ∷ [])
      ∙ sym (map-append parts_of (take at pairs) (get_or pairs at default ∷ [])) ∙ ap (map parts_of) (sym (take_more pairs at default within)),
  subst (λ (ps : List TermPair). AreTermPairs ps (trees ++ tree ∷ [])) (sym put) (term_pairs-more old trees pair tree parsed is_pair),
)

terms-at : (trees : List (TermTree × TermTree)) (pairs : List QuotedPair) (at : ℕ) (default : QuotedPair) → ArePairs trees → map term_pair trees ≡ map parts_of pairs → at < length pairs
    → (tree : TermTree × TermTree) × IsQuotable tree.0 × IsQuotable tree.1 × (term_pair tree ≡ parts_of (get_or pairs at default))
terms-at trees [] at default all same within = absurd (omega arith)
terms-at [] (pair ∷ pairs) at default all same within = cc
terms-at (tree ∷ trees) (pair ∷ pairs) zero default all same within = (tree, all.0, all.1, cc)
terms-at (tree ∷ trees) (pair ∷ pairs) (suc at) default all same within =
    terms-at trees pairs at default all.2 (let further : map term_pair trees ≡ map parts_of pairs = cc in further) (omega (arith, within))

pub terms-refused : (error : ReadError) (pairs : List QuotedPair) (at : ℕ) (default : QuotedPair) → at < length pairs → ParsesTermPair (Err error) (parts_of (get_or pairs at default))
    → ParsesTermPairs (Err error) (map parts_of pairs)
terms-refused Memory pairs at default within refused = tt
terms-refused Syntax pairs at default within refused = λ trees all same.
    let found = terms-at trees pairs at default all same within in
    refused found.0 found.1 found.2 found.3

-- the parts of each pair of a type and a type variable
type_names-more : (trees : List (TypeTree × List ℕ)) (tree : TypeTree × List ℕ) → AreTypePairs trees → IsWithin tree.0 → (is_type_variable_name tree.1 ≡ true) → AreTypePairs (trees ++ tree ∷ [])
type_names-more [] tree all new old = (new, old, tt)
type_names-more (first ∷ trees) tree all new old = (all.0, all.1, type_names-more trees tree all.2 new old)

type_pairs-more : (parsed : List TypePair) (trees : List (TypeTree × List ℕ)) (pair : TypePair) (tree : TypeTree × List ℕ) → views.AreTypePairs parsed trees → IsTypePair pair tree
    → views.AreTypePairs (parsed ++ pair ∷ []) (trees ++ tree ∷ [])
type_pairs-more [] [] pair tree all one = (one, tt)
type_pairs-more [] (first ∷ trees) pair tree all one = absurd all
type_pairs-more (first ∷ parsed) [] pair tree all one = absurd all
type_pairs-more (first ∷ parsed) (here ∷ trees) pair tree all one = (all.0, type_pairs-more parsed trees pair tree all.1 one)

pub more-types : (pairs : List QuotedPair) (at : ℕ) (default : QuotedPair) (pushed old : List TypePair) (pair : TypePair) → at < length pairs → pushed ≡ old ++ pair ∷ []
    → ((trees : List (TypeTree × List ℕ)) × AreTypePairs trees × (map type_pair trees ≡ map parts_of (take at pairs)) × views.AreTypePairs old trees)
    → ((tree : TypeTree × List ℕ) × IsWithin tree.0 × (type_pair tree ≡ parts_of (get_or pairs at default)) × IsTypePair pair tree)
    → (trees : List (TypeTree × List ℕ)) × AreTypePairs trees × (map type_pair trees ≡ map parts_of (take (at + 1) pairs)) × views.AreTypePairs pushed trees
more-types pairs at default pushed old pair within put (trees, all, same, parsed) (tree, within_limits, here, is_pair) = (
  trees ++ tree ∷ [],
  type_names-more trees tree all within_limits is_pair.2,
  map-append type_pair trees (tree ∷ []) ∙ (λ i. same i ++ here i ∷ [])
      ∙ sym (map-append parts_of (take at pairs) (get_or pairs at default ∷ [])) ∙ ap (map parts_of) (sym (take_more pairs at default within)),
  subst (λ (ps : List TypePair). views.AreTypePairs ps (trees ++ tree ∷ [])) (sym put) (type_pairs-more old trees pair tree parsed is_pair),
)

types-at : (trees : List (TypeTree × List ℕ)) (pairs : List QuotedPair) (at : ℕ) (default : QuotedPair) → AreTypePairs trees → map type_pair trees ≡ map parts_of pairs → at < length pairs
    → (tree : TypeTree × List ℕ) × IsWithin tree.0 × (is_type_variable_name tree.1 ≡ true) × (type_pair tree ≡ parts_of (get_or pairs at default))
types-at trees [] at default all same within = absurd (omega arith)
types-at [] (pair ∷ pairs) at default all same within = cc
types-at (tree ∷ trees) (pair ∷ pairs) zero default all same within = (tree, all.0, all.1, cc)
types-at (tree ∷ trees) (pair ∷ pairs) (suc at) default all same within =
    types-at trees pairs at default all.2 (let further : map type_pair trees ≡ map parts_of pairs = cc in further) (omega (arith, within))

pub types-refused : (error : ReadError) (pairs : List QuotedPair) (at : ℕ) (default : QuotedPair) → at < length pairs → ParsesTypePair (Err error) (parts_of (get_or pairs at default))
    → ParsesTypePairs (Err error) (map parts_of pairs)
types-refused Memory pairs at default within refused = tt
types-refused Syntax pairs at default within refused = λ trees all same.
    let found = types-at trees pairs at default all same within in
    refused found.0 found.1 found.2 found.3
