-- The formulas that steps make, one after another.
use Rattle.std.proofs.Common.{◌≡◌, ◌⊎◌, ℕ, zero, suc, ◌<◌, ◌≤◌, List, [], ◌∷◌, ◌++◌, length, drop, get_or, Vec, Global, Result, Ok, Err, inl, inr, refl, sym, ap, ◌∙◌, arith, append_assoc, ⊎_elim}
use Rattle.std.proofs.Math.Seq.{drop-nil}
use Rattle.std.proofs.lemmas.List.{append-nil}
use Rattle.hol_model.specs.declared.fault.Fault.{Fault}
use Rattle.hol_model.specs.declared.fault.Fault.TheVariants.{Memory}
use Rattle.hol_model.specs.Terms.NamedTerm.{NamedTerm}
use Rattle.hol_model.specs.Texts.TermGrammar.{TermTree}
use Rattle.hol_model.specs.Texts.Reading.{Scope, ◌>>=◌}
use Rattle.hol_model.specs.Texts.SequentGrammar.{formula_meaning, formulas_meaning}
use Rattle.hol_model.specs.Kernel.Outcome.{Answers}
use Rattle.hol_syntax_grammar.specs.declared.steps.TermStep.{TermStep}
use Rattle.hol_syntax_grammar.specs.Steps.{flat_steps_of}
use Rattle.hol_syntax_grammar.specs.TermSteps.{flat_steps, term_steps}
use Rattle.hol_syntax.specs.SequentStates.{AreSteps}

-- terms before those of an answer
abbrev pub behind : List NamedTerm → Result (List NamedTerm) Fault → Result (List NamedTerm) Fault
behind done rest = rest >>= λ terms. Ok (done ++ terms)

pub behind_none : (rest : Result (List NamedTerm) Fault) → rest ≡ behind [] rest
behind_none (Ok terms) = refl
behind_none (Err fault) = refl

-- the tree whose steps stand at a place
pub record IsStepsAt (parsed : List (Vec TermStep Global)) (trees : List TermTree) (i : ℕ) (steps : List TermStep) : Type 0 where
  pub tree : TermTree
  pub left : drop i trees ≡ tree ∷ drop (suc i) trees
  pub steps_are : flat_steps_of steps ≡ flat_steps (term_steps tree)

pub steps_at : (parsed : List (Vec TermStep Global)) (trees : List TermTree) (i : ℕ) (d : Vec TermStep Global) → AreSteps parsed trees → i < length parsed
    → IsStepsAt parsed trees i (get_or parsed i d).items
steps_at [] trees i d h l = absurd (omega (arith, l))
steps_at (steps ∷ parsed) [] i d h l = absurd h
steps_at (steps ∷ parsed) (tree ∷ trees) zero d h l = record { tree = tree; left = refl; steps_are = h.0 }
steps_at (steps ∷ parsed) (tree ∷ trees) (suc i) d h l =
    let more = steps_at parsed trees i d h.1 (omega (arith, l)) in record { tree = more.tree; left = more.left; steps_are = more.steps_are }

no_more : (parsed : List (Vec TermStep Global)) (trees : List TermTree) (i : ℕ) → AreSteps parsed trees → length parsed ≤ i → drop i trees ≡ []
no_more [] [] i h l = drop-nil i
no_more [] (tree ∷ trees) i h l = absurd h
no_more (steps ∷ parsed) [] i h l = absurd h
no_more (steps ∷ parsed) (tree ∷ trees) zero h l = absurd (omega (arith, l))
no_more (steps ∷ parsed) (tree ∷ trees) (suc i) h l = no_more parsed trees i h.1 (omega (arith, l))

one_more : (done : List NamedTerm) (term : NamedTerm) (rest : Result (List NamedTerm) Fault)
    → behind done (rest >>= λ terms. Ok (term ∷ terms)) ≡ behind (done ++ term ∷ []) rest
one_more done term (Ok terms) = ap Ok (sym (append_assoc done (term ∷ []) terms))
one_more done term (Err fault) = refl

pub made_one : (scope : Scope) (done : List NamedTerm) (term : NamedTerm) (tree : TermTree) (trees : List TermTree) → formula_meaning scope tree ≡ Ok term
    → behind done (formulas_meaning scope (tree ∷ trees)) ≡ behind (done ++ term ∷ []) (formulas_meaning scope trees)
made_one scope done term tree trees e =
    ap (λ m. behind done (m >>= λ t. formulas_meaning scope trees >>= λ terms. Ok (t ∷ terms))) e ∙ one_more done term (formulas_meaning scope trees)

pub refused_one : (scope : Scope) (done : List NamedTerm) (fault : Fault) (tree : TermTree) (trees : List TermTree) → Answers {A = NamedTerm} (Err fault) (formula_meaning scope tree)
    → (fault ≡ Memory) ⊎ (behind done (formulas_meaning scope (tree ∷ trees)) ≡ Err fault)
refused_one scope done fault tree trees h =
    ⊎_elim (λ m. inl m) (λ e. inr (ap (λ m. behind done (m >>= λ t. formulas_meaning scope trees >>= λ terms. Ok (t ∷ terms))) e)) h

pub made_all : (scope : Scope) (done : List NamedTerm) (parsed : List (Vec TermStep Global)) (trees : List TermTree) (i : ℕ) → AreSteps parsed trees → length parsed ≤ i
    → behind done (formulas_meaning scope (drop i trees)) ≡ Ok done
made_all scope done parsed trees i h l = ap (λ t. behind done (formulas_meaning scope t)) (no_more parsed trees i h l) ∙ ap Ok (append-nil done)
