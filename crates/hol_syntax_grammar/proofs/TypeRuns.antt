-- A turn of the reader is a turn of the machine's run.
use Rattle.std.proofs.Common.{◌≡◌, ℕ, suc, ◌<◌, Bool, true, false, List, [], ◌∷◌, length, drop, get_or, Option, None, Some, Ok, Err, sym, ap, ◌∙◌, drop-cons}
use Rattle.std.proofs.lemmas.List.{drop-map}
use Rattle.hol_model.specs.Texts.TypeGrammar.{TypeTree, type_steps}
use Rattle.hol_model.specs.Texts.Token.{Token as TokenModel}
use Rattle.hol_syntax_grammar.specs.declared.token.Token.{Token}
use Rattle.hol_syntax_grammar.specs.declared.type_reader.TypeReader.{TypeReader}
use Rattle.hol_syntax_grammar.specs.declared.type_reader.ReadError.{ReadError}
use Rattle.hol_syntax_grammar.specs.declared.type_reader.ReadError.TheVariants.{Memory, Syntax}
use Rattle.hol_syntax_grammar.specs.TypeReader.{Role, role, Pending, turn, run}
use Rattle.hol_syntax_grammar.specs.Views.{token_of, tokens_of, steps_of}
use Rattle.hol_syntax_grammar.specs.TypeStates.{IsState, Takes, Reads}
use Rattle.hol_syntax_grammar.proofs.TypeReading.{goes_on, ends_before, fails_at}

-- the token at an index, and what follows it
pub rest_at : (tokens : List Token) (i : ℕ) (d : Token) → i < length tokens
    → drop i (tokens_of tokens) ≡ token_of (get_or tokens i d) ∷ drop (suc i) (tokens_of tokens)
rest_at tokens i d h =
    drop-map token_of i tokens ∙ ap tokens_of (drop-cons tokens i d h) ∙ ap (λ r. token_of (get_or tokens i d) ∷ r) (sym (drop-map token_of (suc i) tokens))

pub goes : (r : Role) (token : TokenModel) (rest : List TokenModel) (opens : List Pending) (c : Option TypeTree) (new : TypeReader) (b : Bool)
    → r ≡ role token → Takes (Ok b) new (turn r opens c) → b ≡ true
    → (opens' : List Pending) × (c' : Option TypeTree) × IsState new opens' c' × (run (token ∷ rest) opens c ≡ run rest opens' c')
goes r token rest opens c new true e h b = (h.0, h.1, h.3, goes_on token rest opens h.0 c h.1 (ap (λ r. turn r opens c) (sym e) ∙ h.2))
goes r token rest opens c new false e h b = absurd (let no : false ≡ true = b in cc)

pub ends : (r : Role) (token : TokenModel) (rest : List TokenModel) (opens : List Pending) (c : Option TypeTree) (new : TypeReader) (b : Bool)
    → r ≡ role token → Takes (Ok b) new (turn r opens c) → b ≡ false
    → (t : TypeTree) × (run (token ∷ rest) opens c ≡ Some (t, token ∷ rest)) × (steps_of new.steps.items ≡ type_steps t)
ends r token rest opens c new false e h b = (h.0, ends_before token rest opens c h.0 (ap (λ r. turn r opens c) (sym e) ∙ h.1), h.2)
ends r token rest opens c new true e h b = absurd (let no : true ≡ false = b in cc)

pub fails : (r : Role) (token : TokenModel) (rest whole : List TokenModel) (opens : List Pending) (c : Option TypeTree) (new : TypeReader) (error : ReadError)
    → r ≡ role token → Takes (Err error) new (turn r opens c) → run (token ∷ rest) opens c ≡ run whole [] None → Reads (Err error) whole
fails r token rest whole opens c new Memory e h w = tt
fails r token rest whole opens c new Syntax e h w = sym w ∙ fails_at token rest opens c (ap (λ r. turn r opens c) (sym e) ∙ h)
