-- A call that answers what a rule's outcome states answers what the table of rules draws: the rules of equality.
use Rattle.std.proofs.Common.{◌≡◌, List, [], ◌∷◌, ◌++◌, map, ◌∙◌, ap, inl, inr, Option, Some, None, Result, Ok, Err}
use Rattle.hol_model.specs.declared.fault.Fault.{Fault}
use Rattle.hol_model.specs.Terms.HolType.{HolType}
use Rattle.hol_model.specs.Terms.NamedTerm.{NamedTerm, type_of}
use Rattle.hol_model.specs.Terms.Nameless.{Nameless, image}
use Rattle.hol_model.specs.Logic.Theory.{Theory, IsLegal}
use Rattle.hol_model.specs.Kernel.Theorem.{Theorem}
use Rattle.hol_model.specs.Goals.Goals.{Sequent}
use Rattle.hol_model.specs.Derived.DerivedRules.{Stated, Conclusion, named, up_to_names, with_left, IsConclusion, conclusion_image, AnswersStated}
use Rattle.hol_model.specs.Derived.DerivedRules.{terms_of_theorem, sym_outcome, add_assum_outcome, prove_hyp_outcome, beta_conv_outcome}
use Rattle.hol_model.specs.Derived.InferenceRules.{InferenceRule}
use Rattle.hol_model.specs.declared.rule.Rule.TheVariants as rules
use Rattle.hol_model.specs.Derived.Inference.{rule_sequent}
use Rattle.hol_journal.specs.Steps.{sequent_of_theorem}
use Rattle.hol_equal.specs.Inferred.{IsDrawn, Infers}
use Rattle.hol_equal.proofs.DrawnTerms.{StatesDrawn, IsPremise, Draws}
use Rattle.hol_equal.proofs.DrawnEquality.{drawn-sym, drawn-add_assum, drawn-prove_hyp, drawn-beta_conv}

concluded : (conclusion : Conclusion) (term : NamedTerm) → IsConclusion conclusion term → image term ≡ conclusion_image conclusion
concluded (named term) found is = ap image is
concluded (up_to_names term) found is = is
concluded (with_left left term) found is = is.0

pub infers : (theory : Theory) (rule : InferenceRule) (premises : List Theorem) (arguments : List Nameless) (outcome : Result Stated Fault) (result : Result Theorem Fault)
    → Draws theory rule premises outcome → AnswersStated result arguments outcome → Infers theory rule premises result
infers theory rule premises arguments outcome result draws answers = record { drawn = go outcome (rule_sequent theory rule (map sequent_of_theorem premises)) result draws answers }
  where
    go : (outcome : Result Stated Fault) (found : Option Sequent) (result : Result Theorem Fault) → StatesDrawn outcome found → AnswersStated result arguments outcome → IsDrawn found result
    go (Ok stated) (Some sequent) (Ok theorem) is states = record {
      same_set = record { to = λ x m. states.hypotheses.back x (is.hypotheses.back x m); back = λ x m. is.hypotheses.to x (states.hypotheses.to x m) };
      concludes = concluded stated.conclusion theorem.conclusion states.conclusion ∙ is.conclusion;
    }
    go (Ok stated) (Some sequent) (Err fault) is past = elim past [
      | inl memory ↦ inl memory
      | inr large ↦ inr large.0
    ]
    go (Ok stated) None result is answers = elim is [ ]
    go (Err refusal) (Some sequent) result is answers = elim is [ ]
    go (Err refusal) None (Ok theorem) is answers = answers
    go (Err refusal) None (Err fault) is answers = tt

pub infers_sym : {theory : Theory} {a : Theorem} {result : Result Theorem Fault} → IsLegal theory → IsPremise theory a
    → AnswersStated result (terms_of_theorem a) (sym_outcome a) → Infers theory rules.Sym (a ∷ []) result
infers_sym {theory} {a} {result} legal premise answers =
    infers theory rules.Sym (a ∷ []) (terms_of_theorem a) (sym_outcome a) result (drawn-sym theory legal a premise) answers

pub infers_add_assum : {theory : Theory} {p : NamedTerm} {ty : HolType} {a : Theorem} {result : Result Theorem Fault} → type_of p ≡ Some ty
    → AnswersStated result (image p ∷ terms_of_theorem a) (add_assum_outcome theory p a) → Infers theory (rules.AddAssum p) (a ∷ []) result
infers_add_assum {theory} {p} {ty} {a} {result} typed answers =
    infers theory (rules.AddAssum p) (a ∷ []) (image p ∷ terms_of_theorem a) (add_assum_outcome theory p a) result (drawn-add_assum theory p ty a typed) answers

pub infers_prove_hyp : {theory : Theory} {a b : Theorem} {result : Result Theorem Fault}
    → AnswersStated result (terms_of_theorem a ++ terms_of_theorem b) (prove_hyp_outcome a b) → Infers theory rules.ProveHyp (a ∷ b ∷ []) result
infers_prove_hyp {theory} {a} {b} {result} answers =
    infers theory rules.ProveHyp (a ∷ b ∷ []) (terms_of_theorem a ++ terms_of_theorem b) (prove_hyp_outcome a b) result (drawn-prove_hyp theory a b) answers

pub infers_beta_conv : {theory : Theory} {t : NamedTerm} {ty : HolType} {result : Result Theorem Fault} → type_of t ≡ Some ty
    → AnswersStated result (image t ∷ []) (beta_conv_outcome theory t) → Infers theory (rules.BetaConv t) [] result
infers_beta_conv {theory} {t} {ty} {result} typed answers =
    infers theory (rules.BetaConv t) [] (image t ∷ []) (beta_conv_outcome theory t) result (drawn-beta_conv theory t ty typed) answers
