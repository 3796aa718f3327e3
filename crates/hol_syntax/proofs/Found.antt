-- The first separator of its kind.
use Rattle.std.proofs.Common.{◌≡◌, ℕ, zero, suc, ◌+◌, ◌<◌, List, [], ◌∷◌, length, take, drop, get_or, Bool, true, false, Some, sym, ap, ◌∙◌, subst, add-one}
use Rattle.hol_model.specs.Texts.Token.{Token as TokenModel}
use Rattle.hol_syntax_grammar.specs.declared.token.Token.{Token}
use Rattle.hol_syntax.specs.declared.sequents.Separator.{Separator}
use Rattle.hol_syntax_grammar.specs.Views.{token_of, tokens_of}
use Rattle.hol_syntax.specs.SequentStates.{separates, Without, IsFound}
use Rattle.hol_syntax_grammar.proofs.TypeRuns.{rest_at}

pub found_at : (separator : Separator) (tokens : List Token) (i : ℕ) (d : Token) → i < length tokens → separates separator (token_of (get_or tokens i d)) ≡ true
    → Without (separates separator) (take i (tokens_of tokens)) → IsFound (Some i) separator (tokens_of tokens)
found_at separator tokens i d h is without =
    (token_of (get_or tokens i d), is, rest_at tokens i d h ∙ ap (λ k. token_of (get_or tokens i d) ∷ drop k (tokens_of tokens)) (sym (add-one i)), without)

without_take : (test : TokenModel → Bool) (tokens : List TokenModel) (i : ℕ) (token : TokenModel) (rest : List TokenModel) → drop i tokens ≡ token ∷ rest → test token ≡ false
    → Without test (take i tokens) → Without test (take (suc i) tokens)
without_take test [] i token rest e fails h = tt
without_take test (t ∷ tokens) zero token rest e fails h = let same : t ≡ token = cc in (ap test same ∙ fails, tt)
without_take test (t ∷ tokens) (suc i) token rest e fails h = (h.0, without_take test tokens i token rest e fails h.1)

pub without_more : (separator : Separator) (tokens : List Token) (i : ℕ) (d : Token) → i < length tokens → separates separator (token_of (get_or tokens i d)) ≡ false
    → Without (separates separator) (take i (tokens_of tokens)) → Without (separates separator) (take (i + 1) (tokens_of tokens))
without_more separator tokens i d h fails without =
    subst (λ k. Without (separates separator) (take k (tokens_of tokens))) (sym (add-one i))
    (without_take (separates separator) (tokens_of tokens) i _ _ (rest_at tokens i d h) fails without)
