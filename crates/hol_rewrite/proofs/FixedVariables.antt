-- The free variables of hypotheses, one hypothesis after another.
use Rattle.std.proofs.Common.{◌≡◌, ℕ, ◌+◌, ◌<◌, List, [], ◌∷◌, ◌++◌, length, take, get_or, sym, ◌∙◌, ap, append-nil}
use Rattle.std.proofs.lemmas.List.{take_more, append_assoc}
use Rattle.hol_model.specs.Terms.NamedTerm.{NamedTerm, free_variables}
use Rattle.hol_model.specs.Rewrites.Rewriting.{fixed_variables}

one_more : (terms : List NamedTerm) (term : NamedTerm) → fixed_variables (terms ++ term ∷ []) ≡ fixed_variables terms ++ free_variables term
one_more [] term = append-nil (free_variables term)
one_more (first ∷ terms) term = ap (λ l. free_variables first ++ l) (one_more terms term) ∙ sym (append_assoc (free_variables first) (fixed_variables terms) (free_variables term))

pub fixed_more : (terms : List NamedTerm) (i : ℕ) (other : NamedTerm) → i < length terms
    → fixed_variables (take (i + 1) terms) ≡ fixed_variables (take i terms) ++ free_variables (get_or terms i other)
fixed_more terms i other within = ap fixed_variables (take_more terms i other within) ∙ one_more (take i terms) (get_or terms i other)

pub ruleset fixing = (fixed_more)
