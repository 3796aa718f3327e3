-- The rules of a theorem from those of its parts.
use Rattle.std.proofs.Common.{◌≡◌, List, [], ◌∷◌, ◌++◌, map, refl, sym, ap, subst}
use Rattle.hol_model.specs.Terms.NamedTerm.{NamedTerm, equation}
use Rattle.hol_model.specs.Logic.NamedLogic.{true_term, false_term}
use Rattle.hol_model.specs.Terms.Nameless.{Nameless, image}
use Rattle.hol_model.specs.Logic.Derivable.{IsSameSet}
use Rattle.hol_model.specs.Kernel.Theorem.{Theorem}
use Rattle.hol_model.specs.Rewrites.RewriteRules.{RulesOfForm, rule_form, both, every, equal, denied, stated}
use Rattle.hol_model.specs.Rewrites.RewriteRules.RulesOf.{rules_of_form}
use Rattle.hol_model.specs.Rewrites.RewriteRules.RulesOfForm.{of_both, of_every, of_equal, of_denied, of_stated}
use Rattle.hol_model.specs.Rewrites.Rewriting.{AreRules}
use Rattle.hol_rewrite.specs.Rules.{HasRules, Concludes, IsFreshInstance}

both-are : (hypotheses : List NamedTerm) (es fs : List Nameless) (rs ss : List Theorem) → AreRules hypotheses es rs → AreRules hypotheses fs ss → AreRules hypotheses (es ++ fs) (rs ++ ss)
both-are hypotheses [] fs [] ss one two = two
both-are hypotheses [] fs (r ∷ rs) ss one two = absurd one
both-are hypotheses (e ∷ es) fs [] ss one two = absurd one
both-are hypotheses (e ∷ es) fs (r ∷ rs) ss one two = (one.0, both-are hypotheses es fs rs ss one.1 two)

pub both-have : (hypotheses : List NamedTerm) (whole p q : NamedTerm) (rs ss : List Theorem) → rule_form whole ≡ both p q → HasRules hypotheses p rs → HasRules hypotheses q ss
    → HasRules hypotheses whole (rs ++ ss)
both-have hypotheses whole p q rs ss form one two = record {
  equations = one.equations ++ two.equations;
  rules_of = rules_of_form whole (one.equations ++ two.equations)
      (subst (λ f. RulesOfForm hypotheses whole f (one.equations ++ two.equations)) (sym form) (of_both whole p q one.equations two.equations one.rules_of two.rules_of));
  are_rules = both-are hypotheses one.equations two.equations rs ss one.are_rules two.are_rules;
}

pub every-has : (hypotheses : List NamedTerm) (premise theorem : Theorem) (rs : List Theorem) (at : IsFreshInstance hypotheses premise theorem)
    → rule_form premise.conclusion ≡ every at.bound → HasRules hypotheses theorem.conclusion rs
    → HasRules hypotheses premise.conclusion rs
every-has hypotheses premise theorem rs at form has = record {
  equations = has.equations;
  rules_of = rules_of_form premise.conclusion has.equations (subst (λ f. RulesOfForm hypotheses premise.conclusion f has.equations) (sym form)
      (of_every premise.conclusion at.bound at.fresh theorem.conclusion has.equations at.is_fresh at.instance at.keeps_names has.rules_of));
  are_rules = has.are_rules;
}

pub equal-has : (hypotheses : List NamedTerm) (theorem : Theorem) (a b : NamedTerm) → rule_form theorem.conclusion ≡ equal a b
    → IsSameSet (map image theorem.hypotheses) (map image hypotheses) → HasRules hypotheses theorem.conclusion (theorem ∷ [])
equal-has hypotheses theorem a b form same = record {
  equations = image theorem.conclusion ∷ [];
  rules_of = rules_of_form theorem.conclusion (image theorem.conclusion ∷ [])
      (subst (λ f. RulesOfForm hypotheses theorem.conclusion f (image theorem.conclusion ∷ [])) (sym form) (of_equal theorem.conclusion a b));
  are_rules = (record { same_hypotheses = same; conclusion = refl }, tt);
}

pub same-through : (xs ys zs : List Nameless) → IsSameSet xs ys → IsSameSet ys zs → IsSameSet xs zs
same-through xs ys zs one two = record { to = λ x m. two.to x (one.to x m); back = λ x m. one.back x (two.back x m) }

one-is : (hypotheses : List NamedTerm) (premise rule : Theorem) (p : NamedTerm) → Concludes premise p rule → IsSameSet (map image premise.hypotheses) (map image hypotheses)
    → AreRules hypotheses (image p ∷ []) (rule ∷ [])
one-is hypotheses premise rule p concludes same = (
  record {
    same_hypotheses = same-through (map image rule.hypotheses) (map image premise.hypotheses) (map image hypotheses) concludes.same_hypotheses same;
    conclusion = ap image
        concludes.conclusion;
  },
  tt,
)

pub denied-has : (hypotheses : List NamedTerm) (premise rule : Theorem) (p : NamedTerm) → rule_form premise.conclusion ≡ denied p → Concludes premise (equation p false_term) rule
    → IsSameSet (map image premise.hypotheses) (map image hypotheses) → HasRules hypotheses premise.conclusion (rule ∷ [])
denied-has hypotheses premise rule p form concludes same = record {
  equations = image (equation p false_term) ∷ [];
  rules_of = rules_of_form premise.conclusion (image (equation p false_term) ∷ [])
      (subst (λ f. RulesOfForm hypotheses premise.conclusion f (image (equation p false_term) ∷ [])) (sym form) (of_denied premise.conclusion p));
  are_rules = one-is hypotheses premise rule (equation p false_term) concludes same;
}

pub stated-has : (hypotheses : List NamedTerm) (premise rule : Theorem) → rule_form premise.conclusion ≡ stated premise.conclusion → Concludes premise (equation premise.conclusion true_term) rule
    → IsSameSet (map image premise.hypotheses) (map image hypotheses) → HasRules hypotheses premise.conclusion (rule ∷ [])
stated-has hypotheses premise rule form concludes same = record {
  equations = image (equation premise.conclusion true_term) ∷ [];
  rules_of = rules_of_form premise.conclusion (image (equation premise.conclusion true_term) ∷ [])
      (subst (λ f. RulesOfForm hypotheses premise.conclusion f (image (equation premise.conclusion true_term) ∷ [])) (sym form) (of_stated premise.conclusion premise.conclusion));
  are_rules = one-is hypotheses premise rule (equation premise.conclusion true_term) concludes same;
}
