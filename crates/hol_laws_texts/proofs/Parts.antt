-- The parts of commands have one reading: no backquote stands in a type or a term.
use Rattle.std.proofs.Common.{◌≡◌, List, [], ◌∷◌, ◌++◌, refl}
use Rattle.hol_model.specs.declared.symbol.Symbol.TheVariants.{Backquote}
use Rattle.hol_model.specs.Texts.Token.{Token, Mark}
use Rattle.hol_model.specs.Texts.TypeGrammar.{type_tokens}
use Rattle.hol_model.specs.Texts.TermGrammar.{TermTree, all_tokens, pieces, IsReadTerm}
use Rattle.hol_model_sessions.specs.Commands.{quoted, IsQuotable}
use Rattle.hol_laws_sessions.specs.UniqueReadings.{QuotesAreUnambiguous, TypesAreUnambiguous, TypeQuotesAreUnambiguous, PartsAreUnambiguous}
use Rattle.hol_syntax.specs.SequentStates.{Without}
use Rattle.hol_syntax.proofs.Separators.{is_separator, type_without, none_without, cut_same}
use Rattle.hol_syntax.proofs.Unambiguous.{one_list, one_tree, one_term}

-- what stands between two backquotes ends at the second of them
quoted-same : (a b r s : List Token) → Without is_separator a → Without is_separator b → quoted a r ≡ quoted b s → (a ≡ b) × (r ≡ s)
quoted-same a b r s none_a none_b same =
    let behind : a ++ Mark Backquote ∷ r ≡ b ++ Mark Backquote ∷ s = cc in
    cut_same is_separator a b r s (Mark Backquote) (Mark Backquote) none_a none_b refl refl behind

term-read : (tree : TermTree) → IsQuotable tree → IsReadTerm (all_tokens (pieces tree [])) tree
term-read tree is = record { grammatical = is.0; depth = is.1; spelled = refl }

type-same : TypesAreUnambiguous
type-same a b is_a is_b same =
    one_tree (type_tokens a []) a b (record { grammatical = is_a.0; depth = is_a.1; spelled = refl }) (record { grammatical = is_b.0; depth = is_b.1; spelled = same })

quote-same : QuotesAreUnambiguous
quote-same a b r s is_a is_b same =
    let tokens = all_tokens (pieces a []) in
    let others = all_tokens (pieces b []) in
    let cut = quoted-same tokens others r s (none_without tokens a (term-read a is_a)) (none_without others b (term-read b is_b)) same in
    record {
      same = one_term tokens a b (term-read a is_a) (record { grammatical = is_b.0; depth = is_b.1; spelled = cut.0 });
      rest = cut.1;
    }

type_quote-same : TypeQuotesAreUnambiguous
type_quote-same a b r s is_a is_b same =
    let cut = quoted-same (type_tokens a []) (type_tokens b []) r s (type_without a [] tt) (type_without b [] tt) same in
    record { same = type-same a b is_a is_b cut.0; rest = cut.1 }

pub quotes-unambiguous : QuotesAreUnambiguous
quotes-unambiguous = quote-same

pub parts-unambiguous : PartsAreUnambiguous
parts-unambiguous = record { tokens = one_list; types = type-same; quotes = quote-same; type_quotes = type_quote-same }
