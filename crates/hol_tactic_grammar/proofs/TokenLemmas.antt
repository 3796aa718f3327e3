-- Tokens from a place on, and which names are identifiers.
use Rattle.std.proofs.Common.{◌≡◌, ℕ, zero, suc, ◌+◌, ◌<◌, ◌≤◌, arith, List, [], ◌∷◌, length, get_or, drop, true, false, ◌||◌, refl, sym, ◌∙◌, ap, subst, Option, None, Some, Bor, IsTrue, IsFalse}
use Rattle.std.proofs.Common.{MatchOption}
use Rattle.hol_model.specs.Terms.Name.{is_capital, is_small, continues_name, all_continue, is_identifier}
use Rattle.hol_model.specs.Texts.Token.{Name}
use Rattle.hol_model.specs.Texts.Lexing.{IsIdentifier, Every, is_name_byte}
use Rattle.hol_model.proofs.Tests.{both}
use Rattle.hol_syntax_grammar.specs.declared.token.Token.{Token as TokenHere}
use Rattle.hol_syntax_grammar.specs.declared.token.Token.TheVariants.{Name as NameHere}
use Rattle.hol_syntax_grammar.specs.Views.{token_of, tokens_of}
use Rattle.hol_tactic_grammar.specs.Tokens.{AreTokens, behind, IsAt, IsNameAt}

-- ---- places

drop-at : (tokens : List TokenHere) (at : ℕ) (default : TokenHere) → at < length tokens → drop at tokens ≡ get_or tokens at default ∷ drop (suc at) tokens
drop-at [] at default within = absurd (omega arith)
drop-at (first ∷ tokens) zero default within = refl
drop-at (first ∷ tokens) (suc at) default within = drop-at tokens at default (omega (arith, within))

-- what is read at a place stands there
pub token-at : (tokens : List TokenHere) (at : ℕ) (default token : TokenHere) → at < length tokens → get_or tokens at default ≡ token → IsAt (token_of token) at tokens
token-at tokens at default token within is =
    let one : suc at ≡ at + 1 = omega arith in
    record { within = within; front = ap tokens_of (drop-at tokens at default within) ∙ (λ i. token_of (is i) ∷ behind (one i) tokens) }

pub nothing-at : (tokens : List TokenHere) (at : ℕ) → length tokens ≤ at → behind at tokens ≡ []
nothing-at [] zero past = refl
nothing-at [] (suc at) past = refl
nothing-at (first ∷ tokens) zero past = absurd (omega (arith, past))
nothing-at (first ∷ tokens) (suc at) past = nothing-at tokens at (omega (arith, past))

-- ---- names

every-continues : (bytes : List ℕ) → Every is_name_byte bytes → all_continue bytes ≡ true
every-continues [] every = refl
every-continues (b ∷ bytes) every = both (continues_name b) (all_continue bytes) every.0 (every-continues bytes every.1)

identifier-test : (bytes : List ℕ) → IsIdentifier bytes → is_identifier bytes ≡ true
identifier-test [] identifier = absurd identifier
identifier-test (b ∷ bytes) identifier = both (is_capital b || is_small b) (all_continue bytes) identifier.0 (every-continues bytes identifier.1)

are-behind : (tokens : List TokenHere) (at : ℕ) → AreTokens (tokens_of tokens) → AreTokens (behind at tokens)
are-behind tokens zero all = all
are-behind [] (suc at) all = tt
are-behind (first ∷ tokens) (suc at) all = are-behind tokens at all.1

-- a name among tokens is an identifier
pub name-at : (result : Option (Bor (List ℕ))) (tokens : List TokenHere) (at : ℕ) (default : TokenHere) (bytes : Bor (List ℕ)) → AreTokens (tokens_of tokens) → at < length tokens
    → get_or tokens at default ≡ NameHere bytes → MatchOption result (IsFalse (is_identifier bytes.now)) (λ name. (name.now ≡ bytes.now) × IsTrue (is_identifier bytes.now)) → IsNameAt result at tokens
name-at None tokens at default bytes all within is refused = λ name rest same.
    let here = token-at tokens at default (NameHere bytes) within is in
    let token : AreTokens (Name bytes.now ∷ behind (at + 1) tokens) = subst AreTokens here.front (are-behind tokens at all) in
    let passed : is_identifier bytes.now ≡ true = identifier-test bytes.now token.0 in
    let failed : is_identifier bytes.now ≡ false = refused in
    cc
name-at (Some name) tokens at default bytes all within is found =
    let here = token-at tokens at default (NameHere bytes) within is in
    record { within = within; front = here.front ∙ ap (λ (n : List ℕ). Name n ∷ behind (at + 1) tokens) (sym found.0) }
