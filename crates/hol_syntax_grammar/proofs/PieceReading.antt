-- A type behind its colon, as far as the reader of types has come.
use Rattle.std.proofs.Common.{◌≡◌, ℕ, suc, ◌-◌, ◌<◌, List, [], length, take, drop, get_or, Bool, Option, None, Some, refl, sym, ap, ◌∙◌}
use Rattle.std.proofs.Math.Seq.{take-length}
use Rattle.std.proofs.lemmas.List.{length-drop, drop-map}
use Rattle.hol_model.specs.Texts.TypeGrammar.{TypeTree}
use Rattle.hol_model.specs.Texts.Token.{Token as TokenModel}
use Rattle.hol_syntax_grammar.specs.declared.token.Token.{Token}
use Rattle.hol_syntax_grammar.specs.TypeReader.{run}
use Rattle.hol_syntax_grammar.specs.Pieces.{Ending, EndsVariable, EndsConstant, EndsBinder, ending, ended_by, type_until, when}
use Rattle.hol_syntax_grammar.specs.PieceStates.{ends_with}
use Rattle.hol_syntax_grammar.specs.Views.{token_of, tokens_of}
use Rattle.hol_syntax_grammar.proofs.TypeRuns.{rest_at}

ended_when : (wanted is : Ending) (found : Option (TypeTree × List TokenModel)) → ended_by wanted is found ≡ when (ends_with wanted is) found
ended_when EndsVariable EndsVariable found = refl
ended_when EndsConstant EndsConstant found = refl
ended_when EndsBinder EndsBinder found = refl
ended_when _ _ found = refl

pub type_taken : (wanted : Ending) (tokens : List Token) (n : ℕ) (d : Token) (t : TypeTree) (b : Bool)
    → run (tokens_of tokens) [] None ≡ Some (t, drop n (tokens_of tokens)) → n < length tokens → b ≡ ends_with wanted (ending (token_of (get_or tokens n d)))
    → type_until wanted (run (tokens_of tokens) [] None) ≡ when b (Some (t, tokens_of (drop (suc n) tokens)))
type_taken wanted tokens n d t b found h e =
    ap (type_until wanted) (found ∙ ap (λ r. Some (t, r)) (rest_at tokens n d h))
    ∙ ended_when wanted (ending (token_of (get_or tokens n d))) (Some (t, drop (suc n) (tokens_of tokens)))
    ∙ ap (λ x. when x (Some (t, drop (suc n) (tokens_of tokens)))) (sym e)
    ∙ ap (λ r. when b (Some (t, r))) (drop-map token_of (suc n) tokens)

pub rest_whole : {A : Type 0} (k : ℕ) (xs : List A) → take (length xs - k) (drop k xs) ≡ drop k xs
rest_whole k xs = ap (λ n. take n (drop k xs)) (sym (length-drop k xs)) ∙ take-length (drop k xs)
