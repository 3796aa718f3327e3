-- Premises that fit a lemma up to the names of bound variables, so that a rule has nothing to compare.
use Rattle.std.specs.Prelude.{◌≡◌, List, [], ◌∷◌}
use Rattle.hol_model.specs.Terms.HolType.{HolType}
use Rattle.hol_model.specs.Terms.NamedTerm.{NamedTerm}
use Rattle.hol_model.specs.Terms.Nameless.{Nameless, image}
use Rattle.hol_model.specs.Kernel.Theorem.{Theorem}
use Rattle.hol_equal.specs.Sequents.{Shows, instance_of}

-- a lemma of one hypothesis, and a theorem of that hypothesis at the instance by these replacements
pub record LemmaFits (types : List (HolType × HolType)) (terms : List (NamedTerm × NamedTerm)) (lemma premise : Theorem) : Type 0 where
  pub hypothesis : Nameless
  pub conclusion : Nameless
  pub lemma_shows : Shows lemma (hypothesis ∷ []) conclusion
  pub premise_is : image premise.conclusion ≡ instance_of types terms hypothesis
