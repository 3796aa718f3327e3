-- A term in which nothing is bound is told by its image.
use Rattle.std.proofs.Common.{◌≡◌, false, ap, ◌∙◌, Result, Ok, Err, IfOk}
use Rattle.hol_model.specs.declared.fault.Fault.{Fault}
use Rattle.hol_journal.specs.Journal.{Recorded}
use Rattle.hol_model.specs.Terms.NamedTerm.{NamedTerm, variable, constant, combination, abstraction}
use Rattle.hol_model.specs.Terms.Nameless.{Nameless, image, app}
use Rattle.hol_model.proofs.Tests.{first_of_neither, second_of_neither}
use Rattle.hol_terms.specs.Binders.{has_abstractions}

functions-same : (f x g y : Nameless) → app f x ≡ app g y → f ≡ g
functions-same f x g y is = cc

arguments-same : (f x g y : Nameless) → app f x ≡ app g y → x ≡ y
arguments-same f x g y is = cc

pub exact : (s t : NamedTerm) → has_abstractions t ≡ false → image s ≡ image t → s ≡ t
exact (variable name ty) (variable other s) none is = cc
exact (variable name ty) (constant other s) none is = cc
exact (variable name ty) (combination g y) none is = cc
exact (constant name ty) (variable other s) none is = cc
exact (constant name ty) (constant other s) none is = cc
exact (constant name ty) (combination g y) none is = cc
exact (combination f x) (variable other s) none is = cc
exact (combination f x) (constant other s) none is = cc
exact (combination f x) (combination g y) none is =
    let functions = exact f g (first_of_neither (has_abstractions g) (has_abstractions y) none) (functions-same (image f) (image x) (image g) (image y) is) in
    let arguments = exact x y (second_of_neither (has_abstractions g) (has_abstractions y) none) (arguments-same (image f) (image x) (image g) (image y) is) in
    λ i. combination (functions i) (arguments i)
exact (abstraction name ty body) (variable other s) none is = cc
exact (abstraction name ty body) (constant other s) none is = cc
exact (abstraction name ty body) (combination g y) none is = cc
exact s (abstraction other ty body) none is = cc

-- so a theorem that is kept has the conclusion of the same image
pub kept-names : (result : Result Recorded Fault) (premise : Recorded) (term : NamedTerm) → has_abstractions term ≡ false → image premise.theorem.conclusion ≡ image term
    → IfOk result (λ made. made ≡ premise) → IfOk result (λ made. made.theorem.conclusion ≡ term)
kept-names (Ok made) premise term none same is = ap (λ (m : Recorded). m.theorem.conclusion) is ∙ exact premise.theorem.conclusion term none same
kept-names (Err fault) premise term none same is = tt

pub ruleset exactness = (exact, kept-names)
