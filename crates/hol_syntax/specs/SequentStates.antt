-- What the parts of the reader of sequents answer.
use Rattle.std.specs.Prelude.{◌≡◌, ◌⊎◌, ℕ, ◌+◌, List, [], ◌∷◌, take, drop, Bool, true, false, Option, None, Some, Result, Ok, Err}
use Rattle.std.proofs.Common.{Vec, Global}
use Rattle.hol_model.specs.declared.fault.Fault.{Fault}
use Rattle.hol_model.specs.declared.fault.Fault.TheVariants.{Memory as MemoryFault}
use Rattle.hol_model.specs.declared.symbol.Symbol.TheVariants.{Comma, Turnstile}
use Rattle.hol_model.specs.Terms.NamedTerm.{NamedTerm}
use Rattle.hol_model.specs.Texts.Token.{Token, Mark}
use Rattle.hol_model.specs.Texts.TermGrammar.{TermTree}
use Rattle.hol_model.specs.Texts.SequentGrammar.{with_commas, AreReadTerms, IsReadSequent, formulas_meaning}
use Rattle.hol_model.specs.Texts.Reading.{Scope}
use Rattle.hol_syntax.specs.declared.sequents.Separator.{Separator}
use Rattle.hol_syntax.specs.declared.sequents.Separator.TheVariants.{Comma as CommaHere, Turnstile as TurnstileHere}
use Rattle.hol_syntax_grammar.specs.declared.type_reader.ReadError.{ReadError}
use Rattle.hol_syntax_grammar.specs.declared.type_reader.ReadError.TheVariants.{Memory, Syntax}
use Rattle.hol_syntax_grammar.specs.declared.steps.TermStep.{TermStep}
use Rattle.hol_syntax_grammar.specs.Steps.{flat_steps_of}
use Rattle.hol_syntax_grammar.specs.TermSteps.{flat_steps, term_steps}

abbrev pub separates : Separator → Token → Bool
separates CommaHere (Mark Comma) = true
separates CommaHere _ = false
separates TurnstileHere (Mark Turnstile) = true
separates TurnstileHere _ = false

-- no token passes the test
abbrev pub Without : (Token → Bool) → List Token → Type 0
Without test [] = Unit {0}
Without test (token ∷ tokens) = (test token ≡ false) × Without test tokens

-- This is the place of the first separator.
abbrev pub IsFound : Option ℕ → Separator → List Token → Type 0
IsFound None separator tokens = Without (separates separator) tokens
IsFound (Some n) separator tokens =
    (token : Token) × (separates separator token ≡ true) × (drop n tokens ≡ token ∷ drop (n + 1) tokens) × Without (separates separator) (take n tokens)

-- the steps are those of the trees, each of its own
abbrev pub AreSteps : List (Vec TermStep Global) → List TermTree → Type 0
AreSteps [] [] = Unit {0}
AreSteps (steps ∷ more) (tree ∷ trees) = (flat_steps_of steps.items ≡ flat_steps (term_steps tree)) × AreSteps more trees
AreSteps _ _ = ⊥

-- The steps are those of the trees that the tokens list, or there are none.
abbrev pub ParsesList : Result (Vec (Vec TermStep Global) Global) ReadError → List Token → Type 0
ParsesList (Ok parsed) tokens =
    (parts : List (List Token)) × (trees : List TermTree) × AreReadTerms parts trees × (tokens ≡ with_commas parts) × AreSteps parsed.items trees
ParsesList (Err Memory) tokens = Unit {0}
ParsesList (Err Syntax) tokens = (parts : List (List Token)) (trees : List TermTree) → AreReadTerms parts trees → tokens ≡ with_commas parts → ⊥

-- The steps are those of the sequent that the tokens are, or there is none.
abbrev pub ParsesSequent : Result (Vec (Vec TermStep Global) Global × Vec TermStep Global) ReadError → List Token → Type 0
ParsesSequent (Ok parsed) tokens =
    (sequent : List TermTree × TermTree) × IsReadSequent tokens sequent × AreSteps parsed.0.items sequent.0 × (flat_steps_of parsed.1.items ≡ flat_steps (term_steps sequent.1))
ParsesSequent (Err Memory) tokens = Unit {0}
ParsesSequent (Err Syntax) tokens = (sequent : List TermTree × TermTree) → ¬ (IsReadSequent tokens sequent)

-- a list is what is asked for, unless memory runs out
abbrev pub AnswersAll : Result (Vec NamedTerm Global) Fault → Result (List NamedTerm) Fault → Type 0
AnswersAll (Ok terms) wanted = wanted ≡ Ok terms.items
AnswersAll (Err fault) wanted = (fault ≡ MemoryFault) ⊎ (wanted ≡ Err fault)

-- The steps of trees give what the trees mean.
abbrev pub MeansFormulas : Result (Vec NamedTerm Global) Fault → Scope → List (Vec TermStep Global) → Type 0
MeansFormulas result scope parsed = (trees : List TermTree) → AreSteps parsed trees → AnswersAll result (formulas_meaning scope trees)
