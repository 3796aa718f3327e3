-- The tokens are one rule's with its arguments.
use Rattle.std.proofs.Common.{◌≡◌, ℕ, List, [], ◌∷◌, length, map, refl, sym, ap, ◌∙◌, None, Some}
use Rattle.std.specs.Prelude.{codes}
use Rattle.hol_model.specs.declared.symbol.Symbol.TheVariants.{Backquote, Comma}
use Rattle.hol_model.specs.Texts.Token.{Token, Name, Mark}
use Rattle.hol_model.specs.Texts.TypeGrammar.{TypeTree, type_tokens}
use Rattle.hol_model.specs.Texts.TermGrammar.{TermTree, IsWithin}
use Rattle.hol_model_rules.specs.declared.rule_name.RuleName.{RuleName}
use Rattle.hol_model_rules.specs.RuleForms.{form_of, IsRuleOf}
use Rattle.hol_model_sessions.specs.Commands.{RuleTree, by_name, by_inst, by_inst_type, quoted, quote_tokens, further_tokens, first_tokens, term_pair, type_pair, quotes_tokens, argument_tokens}
use Rattle.hol_model_sessions.specs.Commands.{rule_word, rule_tokens, IsQuotable, ArePairs, AreTypePairs, AreQuotable, IsRuleTree}
use Rattle.hol_laws_sessions.specs.UniqueReadings.{SameParse, QuotesAreUnambiguous, TypeQuotesAreUnambiguous, RulesAreUnambiguous}
use Rattle.hol_model_rules.proofs.Words.{found-word}
use Rattle.hol_laws_sessions.proofs.UniqueConversions.{look_up}

-- ---- words

-- no two rules have one word
same_word : (a b : RuleName) → (form_of a).word ≡ (form_of b).word → a ≡ b
same_word a b same =
    let known : IsRuleOf (form_of a).word _ = found-word (form_of a).word _ refl in
    let both : Some a ≡ Some b = sym ((known a).1 refl) ∙ (known b).1 same in
    cc

-- a word that is no rule's
no_rule_of : {A : Type 0} (rule : RuleName) (word : List ℕ) → IsRuleOf word None → word ≡ (form_of rule).word → A
no_rule_of rule word unknown same = let wrong : None ≡ Some rule = (unknown rule).1 same in cc

pub data Start : Type 0 where
  name_start : RuleName → Start
  inst_start : Start
  inst_type_start : Start

abbrev start_of : RuleTree → Start
start_of (by_name rule trees names) = name_start rule
start_of (by_inst pairs a) = inst_start
start_of (by_inst_type pairs a) = inst_type_start

-- what takes pairs
abbrev pub starts_of_pairs : List (List ℕ × Start)
starts_of_pairs = (codes "INST", inst_start) ∷ (codes "INST_TYPE", inst_type_start) ∷ []

inst-unknown : IsRuleOf (codes "INST") None
inst-unknown = found-word (codes "INST") None refl

inst_type-unknown : IsRuleOf (codes "INST_TYPE") None
inst_type-unknown = found-word (codes "INST_TYPE") None refl

one_start : (a b : RuleTree) → rule_word a ≡ rule_word b → start_of a ≡ start_of b
one_start (by_name rule trees names) (by_name other trees' names') same = ap name_start (same_word rule other same)
one_start (by_name rule trees names) (by_inst pairs a) same = no_rule_of rule (codes "INST") inst-unknown (sym same)
one_start (by_name rule trees names) (by_inst_type pairs a) same = no_rule_of rule (codes "INST_TYPE") inst_type-unknown (sym same)
one_start (by_inst pairs a) (by_name rule trees names) same = no_rule_of rule (codes "INST") inst-unknown same
one_start (by_inst_type pairs a) (by_name rule trees names) same = no_rule_of rule (codes "INST_TYPE") inst_type-unknown same
one_start a b same = let found : look_up starts_of_pairs (rule_word a) ≡ look_up starts_of_pairs (rule_word b) = ap (look_up starts_of_pairs) same in cc

-- tokens that begin with another word are no rule's
pub begins_no_rule : {A : Type 0} (tree : RuleTree) (word : List ℕ) (rest : List Token) → IsRuleOf word None → look_up starts_of_pairs word ≡ None → rule_tokens tree ≡ Name word ∷ rest → A
begins_no_rule {A} tree word rest unknown other same = go tree (let worded : rule_word tree ≡ word = cc in worded)
  where
    go : (tree : RuleTree) → rule_word tree ≡ word → A
    go (by_name rule trees names) worded = no_rule_of rule word unknown (sym worded)
    go (by_inst pairs a) worded = (let found : Some inst_start ≡ None = ap (look_up starts_of_pairs) worded ∙ other in cc)
    go (by_inst_type pairs a) worded = (let found : Some inst_type_start ≡ None = ap (look_up starts_of_pairs) worded ∙ other in cc)

-- ---- lists of names

names-same : (a b : List (List ℕ)) → ◌≡◌ {A = List Token} (map Name a) (map Name b) → a ≡ b
names-same [] [] same = refl
names-same [] (b ∷ bs) same = cc
names-same (a ∷ as') [] same = cc
names-same (a ∷ as') (b ∷ bs) same =
    let name : a ≡ b = cc in
    let behind : ◌≡◌ {A = List Token} (map Name as') (map Name bs) = cc in
    let others = names-same as' bs behind in
    λ i. name i ∷ others i

-- ---- lists of pairs

module _ (quotes : QuotesAreUnambiguous) (type_quotes : TypeQuotesAreUnambiguous) where
  pair-same : (a b : TermTree × TermTree) (r s : List Token) → IsQuotable a.0 → IsQuotable a.1 → IsQuotable b.0 → IsQuotable b.1
      → quote_tokens a.0 (Mark Comma ∷ quote_tokens a.1 r) ≡ quote_tokens b.0 (Mark Comma ∷ quote_tokens b.1 s) → SameParse a b r s
  pair-same a b r s qa qa' qb qb' same =
      let first = quotes a.0 b.0 (Mark Comma ∷ quote_tokens a.1 r) (Mark Comma ∷ quote_tokens b.1 s) qa qb same in
      let one : ◌≡◌ {A = List Token} (Mark Comma ∷ quote_tokens a.1 r) (Mark Comma ∷ quote_tokens b.1 s) = first.rest in
      let behind : quote_tokens a.1 r ≡ quote_tokens b.1 s = cc in
      let second = quotes a.1 b.1 r s qa' qb' behind in
      record { same = λ i. (first.same i, second.same i); rest = second.rest }

  further_pairs-same : (a b : List (TermTree × TermTree)) (r s : List Token) → ArePairs a → ArePairs b → further_tokens (map term_pair a) r ≡ further_tokens (map term_pair b) s → SameParse a b r s
  further_pairs-same [] [] r s ga gb same = (let rest : r ≡ s = cc in record { same = refl; rest = rest })
  further_pairs-same [] (b ∷ bs) r s ga gb same = cc
  further_pairs-same (a ∷ as') [] r s ga gb same = cc
  further_pairs-same (a ∷ as') (b ∷ bs) r s ga gb same =
      let behind : quote_tokens a.0 (Mark Comma ∷ quote_tokens a.1 (further_tokens (map term_pair as') r)) ≡ quote_tokens b.0
      (Mark Comma ∷ quote_tokens b.1 (further_tokens (map term_pair bs) s)) = cc in
      let first = pair-same a b (further_tokens (map term_pair as') r) (further_tokens (map term_pair bs) s) ga.0 ga.1 gb.0 gb.1 behind in
      let others = further_pairs-same as' bs r s ga.2 gb.2 first.rest in
      record { same = λ i. first.same i ∷ others.same i; rest = others.rest }

  pairs-same : (a b : List (TermTree × TermTree)) (r s : List Token) → ArePairs a → ArePairs b → first_tokens (map term_pair a) r ≡ first_tokens (map term_pair b) s → SameParse a b r s
  pairs-same [] [] r s ga gb same = (let rest : r ≡ s = cc in record { same = refl; rest = rest })
  pairs-same [] (b ∷ bs) r s ga gb same = cc
  pairs-same (a ∷ as') [] r s ga gb same = cc
  pairs-same (a ∷ as') (b ∷ bs) r s ga gb same =
      let first = pair-same a b (further_tokens (map term_pair as') r) (further_tokens (map term_pair bs) s) ga.0 ga.1 gb.0 gb.1 same in
      let others = further_pairs-same as' bs r s ga.2 gb.2 first.rest in
      record { same = λ i. first.same i ∷ others.same i; rest = others.rest }

  type_pair-same : (a b : TypeTree × List ℕ) (r s : List Token) → IsWithin a.0 → IsWithin b.0
      → quoted (type_tokens a.0 []) (Mark Comma ∷ quoted (Name a.1 ∷ []) r) ≡ quoted (type_tokens b.0 []) (Mark Comma ∷ quoted (Name b.1 ∷ []) s) → SameParse a b r s
  type_pair-same a b r s ga gb same =
      let first = type_quotes a.0 b.0 (Mark Comma ∷ quoted (Name a.1 ∷ []) r) (Mark Comma ∷ quoted (Name b.1 ∷ []) s) ga gb same in
      let one : ◌≡◌ {A = List Token} (Mark Comma ∷ Mark Backquote ∷ Name a.1 ∷ Mark Backquote ∷ r) (Mark Comma ∷ Mark Backquote ∷ Name b.1 ∷ Mark Backquote ∷ s) = first.rest in
      let name : a.1 ≡ b.1 = cc in
      let rest : r ≡ s = cc in
      record { same = λ i. (first.same i, name i); rest = rest }

  further_type_pairs-same : (a b : List (TypeTree × List ℕ)) (r s : List Token) → AreTypePairs a → AreTypePairs b → further_tokens (map type_pair a) r ≡ further_tokens (map type_pair b) s →
      SameParse a b r s
  further_type_pairs-same [] [] r s ga gb same = (let rest : r ≡ s = cc in record { same = refl; rest = rest })
  further_type_pairs-same [] (b ∷ bs) r s ga gb same = cc
  further_type_pairs-same (a ∷ as') [] r s ga gb same = cc
  further_type_pairs-same (a ∷ as') (b ∷ bs) r s ga gb same =
      let behind : quoted (type_tokens a.0 []) (Mark Comma ∷ quoted (Name a.1 ∷ []) (further_tokens (map type_pair as') r)) ≡ quoted (type_tokens b.0 [])
      (Mark Comma ∷ quoted (Name b.1 ∷ []) (further_tokens (map type_pair bs) s)) = cc in
      let first = type_pair-same a b (further_tokens (map type_pair as') r) (further_tokens (map type_pair bs) s) ga.0 gb.0 behind in
      let others = further_type_pairs-same as' bs r s ga.2 gb.2 first.rest in
      record { same = λ i. first.same i ∷ others.same i; rest = others.rest }

  type_pairs-same : (a b : List (TypeTree × List ℕ)) (r s : List Token) → AreTypePairs a → AreTypePairs b → first_tokens (map type_pair a) r ≡ first_tokens (map type_pair b) s → SameParse a b r s
  type_pairs-same [] [] r s ga gb same = (let rest : r ≡ s = cc in record { same = refl; rest = rest })
  type_pairs-same [] (b ∷ bs) r s ga gb same = cc
  type_pairs-same (a ∷ as') [] r s ga gb same = cc
  type_pairs-same (a ∷ as') (b ∷ bs) r s ga gb same =
      let first = type_pair-same a b (further_tokens (map type_pair as') r) (further_tokens (map type_pair bs) s) ga.0 gb.0 same in
      let others = further_type_pairs-same as' bs r s ga.2 gb.2 first.rest in
      record { same = λ i. first.same i ∷ others.same i; rest = others.rest }

  -- ---- rules

  quotes-same : (a b : List TermTree) (r s : List Token) → AreQuotable a → AreQuotable b → length a ≡ length b → quotes_tokens a r ≡ quotes_tokens b s → SameParse a b r s
  quotes-same [] [] r s ga gb lengths same = record { same = refl; rest = same }
  quotes-same [] (b ∷ bs) r s ga gb lengths same = cc
  quotes-same (a ∷ as') [] r s ga gb lengths same = cc
  quotes-same (a ∷ as') (b ∷ bs) r s ga gb lengths same =
      let first = quotes a b (quotes_tokens as' r) (quotes_tokens bs s) ga.0 gb.0 same in
      let behind : length as' ≡ length bs = cc in
      let others = quotes-same as' bs r s ga.1 gb.1 behind first.rest in
      record { same = λ i. first.same i ∷ others.same i; rest = others.rest }

  rule-same : (a b : RuleTree) → IsRuleTree a → IsRuleTree b → argument_tokens a ≡ argument_tokens b → start_of a ≡ start_of b → a ≡ b
  rule-same (by_name rule trees names) (by_name other trees' names') ga gb same starts =
      let one : rule ≡ other = cc in
      let lengths : length trees ≡ length trees' = ga.0 ∙ ap (λ name. (form_of name).terms) one ∙ sym gb.0 in
      let terms = quotes-same trees trees' (map Name names) (map Name names') ga.2 gb.2 lengths same in
      let others = names-same names names' terms.rest in
      λ i. by_name (one i) (terms.same i) (others i)
  rule-same (by_inst ps a) (by_inst qs b) ga gb same starts =
      let behind : first_tokens (map term_pair ps) (Name a ∷ []) ≡ first_tokens (map term_pair qs) (Name b ∷ []) = cc in
      let pairs = pairs-same ps qs (Name a ∷ []) (Name b ∷ []) ga gb behind in
      let rest : ◌≡◌ {A = List Token} (Name a ∷ []) (Name b ∷ []) = pairs.rest in
      let name : a ≡ b = cc in
      λ i. by_inst (pairs.same i) (name i)
  rule-same (by_inst_type ps a) (by_inst_type qs b) ga gb same starts =
      let behind : first_tokens (map type_pair ps) (Name a ∷ []) ≡ first_tokens (map type_pair qs) (Name b ∷ []) = cc in
      let pairs = type_pairs-same ps qs (Name a ∷ []) (Name b ∷ []) ga gb behind in
      let rest : ◌≡◌ {A = List Token} (Name a ∷ []) (Name b ∷ []) = pairs.rest in
      let name : a ≡ b = cc in
      λ i. by_inst_type (pairs.same i) (name i)
  rule-same a b ga gb same starts = cc

pub rules-unambiguous : QuotesAreUnambiguous → TypeQuotesAreUnambiguous → RulesAreUnambiguous
rules-unambiguous quotes type_quotes a b ga gb same =
    let behind : argument_tokens a ≡ argument_tokens b = cc in
    let worded : rule_word a ≡ rule_word b = cc in
    rule-same quotes type_quotes a b ga gb behind (one_start a b worded)
