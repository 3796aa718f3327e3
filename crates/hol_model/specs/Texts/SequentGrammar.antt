-- The texts of sequents: terms with commas between them, `|-` and a term.
use Rattle.std.specs.Prelude.{◌≡◌, ℕ, List, [], ◌∷◌, ◌++◌, Result, Ok, Err, if◌then◌else◌}
use Rattle.hol_model.specs.declared.symbol.Symbol.TheVariants.{Comma, Turnstile}
use Rattle.hol_model.specs.declared.fault.Fault.{Fault}
use Rattle.hol_model.specs.declared.fault.Fault.TheVariants.{NotBool}
use Rattle.hol_model.specs.Terms.NamedTerm.{NamedTerm}
use Rattle.hol_model.specs.Kernel.Rules.{is_formula}
use Rattle.hol_model.specs.Texts.Token.{Token, Mark}
use Rattle.hol_model.specs.Texts.TermGrammar.{TermTree, IsReadTerm}
use Rattle.hol_model.specs.Texts.Lexing.{Lexes}
use Rattle.hol_model.specs.Texts.Reading.{Scope, ◌>>=◌, meaning}
use Rattle.hol_model.specs.Texts.Texts.{IsMeant, IsRefused}

-- the lists one after another, with a comma between two
abbrev pub with_commas : List (List Token) → List Token
with_commas [] = []
with_commas (part ∷ []) = part
with_commas (part ∷ next ∷ parts) = part ++ Mark Comma ∷ with_commas (next ∷ parts)

-- the lists are the tokens of the trees, each of its own
abbrev pub AreReadTerms : List (List Token) → List TermTree → Type 0
AreReadTerms [] [] = Unit {0}
AreReadTerms (part ∷ parts) (tree ∷ trees) = IsReadTerm part tree × AreReadTerms parts trees
AreReadTerms _ _ = ⊥

-- The tokens are those of the hypotheses and of the conclusion.
pub record IsReadSequent (tokens : List Token) (sequent : List TermTree × TermTree) : Type 0 where
  pub parts : List (List Token)
  pub last : List Token
  pub hypotheses : AreReadTerms parts sequent.0
  pub conclusion : IsReadTerm last sequent.1
  pub spelled : tokens ≡ with_commas parts ++ Mark Turnstile ∷ last

-- The text is spelled as this tree of a sequent.
pub record SpellsSequent (text : List ℕ) (sequent : List TermTree × TermTree) : Type 0 where
  pub tokens : List Token
  pub lexed : Lexes text tokens
  pub read : IsReadSequent tokens sequent

-- a term of the type of truth values
abbrev pub formula : NamedTerm → Result NamedTerm Fault
formula term = if is_formula term then Ok term else Err NotBool

abbrev pub formula_meaning : Scope → TermTree → Result NamedTerm Fault
formula_meaning scope tree = meaning scope [] tree >>= formula

abbrev pub formulas_meaning : Scope → List TermTree → Result (List NamedTerm) Fault
formulas_meaning scope [] = Ok []
formulas_meaning scope (tree ∷ trees) = formula_meaning scope tree >>= λ term. formulas_meaning scope trees >>= λ terms. Ok (term ∷ terms)

-- what a tree means as hypotheses and a conclusion: from left to right, the type of each term after its own refusals
abbrev pub sequent_meaning : Scope → List TermTree × TermTree → Result (List NamedTerm × NamedTerm) Fault
sequent_meaning scope sequent =
    formulas_meaning scope sequent.0 >>= λ hypotheses. formula_meaning scope sequent.1 >>= λ conclusion. Ok (hypotheses, conclusion)

-- The text is read as these hypotheses and this conclusion.
abbrev pub ReadsSequent : Scope → List ℕ → List NamedTerm × NamedTerm → Type 0
ReadsSequent scope text sequent = IsMeant (SpellsSequent text) (sequent_meaning scope) sequent

abbrev pub RefusesSequent : Scope → List ℕ → Fault → Type 0
RefusesSequent scope text fault = IsRefused (SpellsSequent text) (sequent_meaning scope) fault
