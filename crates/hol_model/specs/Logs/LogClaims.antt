-- How a claim of a proof log is printed: terms without bound names, each function, argument and body in parentheses.
use Rattle.std.specs.Prelude.{ℕ, List, [], ◌∷◌, ◌++◌, decimal}
use Rattle.hol_model.specs.Terms.Nameless.{Nameless, free, const, bound, app, lam}
use Rattle.hol_model.specs.Texts.Printing.{type_tree}
use Rattle.hol_model.specs.Texts.Texts.{type_bytes}
use Rattle.hol_model.specs.Goals.Goals.{Sequent}
use Rattle.hol_model.specs.Logs.LogState.{LogClaim}

-- `(x:ty)`, `[c:ty]`, `#n` where 0 is the innermost binder, `(f a)`, `(\ty. body)`, and then the rest
abbrev pub nameless_bytes : Nameless → List ℕ → List ℕ
nameless_bytes (free name ty) rest = 40 ∷ (name ++ 58 ∷ type_bytes (type_tree ty) (41 ∷ rest))
nameless_bytes (const name ty) rest = 91 ∷ (name ++ 58 ∷ type_bytes (type_tree ty) (93 ∷ rest))
nameless_bytes (bound index) rest = 35 ∷ (decimal index ++ rest)
nameless_bytes (app function argument) rest = 40 ∷ nameless_bytes function (32 ∷ nameless_bytes argument (41 ∷ rest))
nameless_bytes (lam ty body) rest = 40 ∷ 92 ∷ type_bytes (type_tree ty) (46 ∷ 32 ∷ nameless_bytes body (41 ∷ rest))

-- each term behind a comma, and then the rest
abbrev pub further_nameless : List Nameless → List ℕ → List ℕ
further_nameless [] rest = rest
further_nameless (term ∷ terms) rest = 44 ∷ 32 ∷ nameless_bytes term (further_nameless terms rest)

-- the terms with commas between them and a space behind, if there are any, and then the rest
abbrev pub listed_nameless : List Nameless → List ℕ → List ℕ
listed_nameless [] rest = rest
listed_nameless (term ∷ terms) rest = nameless_bytes term (further_nameless terms (32 ∷ rest))

-- the hypotheses, `|- ` and the conclusion
abbrev pub nameless_sequent_text : Sequent → List ℕ
nameless_sequent_text sequent = listed_nameless sequent.hypotheses (124 ∷ 45 ∷ 32 ∷ nameless_bytes sequent.conclusion [])

-- the name, `: ` and the sequent
abbrev pub claim_text : LogClaim → List ℕ
claim_text claim = claim.name ++ 58 ∷ 32 ∷ nameless_sequent_text claim.sequent
