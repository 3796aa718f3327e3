-- The rules of a known formula are known formulas.
use Rattle.std.proofs.Common.{◌≡◌, ◌⊎◌, ℕ, List, [], ◌∷◌, ◌++◌, Bool, true, false, refl, sym, subst, inl, inr, Option, Some, None, Ok, if◌then◌else◌}
use Rattle.hol_model.specs.Terms.HolType.{HolType, bool_type}
use Rattle.hol_model.specs.Terms.NamedTerm.{NamedTerm, equation, same_variable}
use Rattle.hol_model.specs.Terms.Nameless.{Nameless, free, HasType, image, image_under}
use Rattle.hol_model.specs.Terms.Substitution.{only}
use Rattle.hol_model.specs.Logic.Theory.{Theory, IsKnown, IsKnownType, type_a}
use Rattle.hol_model.specs.Logic.Derivable.{MayReplace}
use Rattle.hol_model.specs.Logic.Logic.{and_name, not_name, forall_name, false_name, unary, binary, quantifier}
use Rattle.hol_model.specs.Logic.NamedLogic.{Abstracted, true_term, false_term, dest_conjunction, dest_forall, dest_negation}
use Rattle.hol_model.specs.Kernel.Theorem.{Theorem}
use Rattle.hol_model.specs.Kernel.Rules.{dest_equation}
use Rattle.hol_model.specs.Rewrites.RewriteRules.{RuleForm, both, every, equal, denied, stated, denied_or_stated, equal_or, every_or, both_or, rule_form, RulesOf, RulesOfForm, rules_of_form}
use Rattle.hol_model.specs.Rewrites.RewriteRules.{of_both, of_every, of_equal, of_denied, of_stated}
use Rattle.hol_model.specs.Rewrites.Rewriting.{AreRules, AnswersRules}
use Rattle.hol_model.specs.Refining.RefinerConditions.{HasLogic}
use Rattle.hol_model.proofs.Tests.{same_variable-type}
use Rattle.hol_model.proofs.Logic.Known.{put-known}
use Rattle.hol_model.proofs.Terms.Images.{image-typed, image_under-type, image_under-closed}
use Rattle.hol_laws_refiners.proofs.FormulaParts.{logical-type, connected-parts, negated-part, quantified-parts}
use Rattle.hol_laws_refiners.proofs.FillingKnown.{false-known}
use Rattle.hol_laws_refusals.specs.KnownRules.{AreKnownRules}
use Rattle.hol_laws_refusals.proofs.Known.{IsFormula, AreFormulas, closed-parts, sides-known, true-known}

-- a variable of the same type may be put for a variable
renames : (theory : Theory) (name fresh : List ℕ) (ty : HolType) → IsKnownType theory ty → MayReplace theory (only name ty (free fresh ty))
renames theory name fresh ty known other s = go (same_variable name ty other s) refl
  where
    go : (test : Bool) → same_variable name ty other s ≡ test → IsKnown theory (if test then free fresh ty else free other s) s ⊎ ((if test then free fresh ty else free other s) ≡ free other s)
    go true same = inl (record { typed = same_variable-type name other ty s same; parts = known })
    go false other_one = inr refl

module _ (theory : Theory) (has : HasLogic theory) where
  formulas-append : (xs ys : List Nameless) → AreFormulas theory xs → AreFormulas theory ys → AreFormulas theory (xs ++ ys)
  formulas-append [] ys h k = k
  formulas-append (x ∷ xs) ys h k = (h.0, formulas-append xs ys h.1 k)

  -- the parts of a form are known
  abbrev IsKnownForm : NamedTerm → RuleForm → Type 0
  IsKnownForm whole (both p q) = IsFormula theory (image p) × IsFormula theory (image q)
  IsKnownForm whole (every quantified) = IsKnownType theory quantified.ty × IsFormula theory (image quantified.body)
  IsKnownForm whole (equal a b) = IsFormula theory (image whole)
  IsKnownForm whole (denied p) = IsFormula theory (image p)
  IsKnownForm whole (stated p) = IsFormula theory (image p)

  denied-known : (whole : NamedTerm) → IsFormula theory (image whole) → (found : Option NamedTerm) → dest_negation whole ≡ found → IsKnownForm whole (denied_or_stated whole found)
  denied-known whole known None is = known
  denied-known whole known (Some p) is = (negated-part theory (logical-type theory has not_name unary refl) whole p is known).known

  equal-known : (whole : NamedTerm) → IsFormula theory (image whole) → (found : Option (NamedTerm × NamedTerm)) (form : RuleForm) → IsKnownForm whole form → IsKnownForm whole (equal_or found form)
  equal-known whole known None form rest = rest
  equal-known whole known (Some sides) form rest = known

  every-known : (whole : NamedTerm) → IsFormula theory (image whole) → (found : Option Abstracted) (form : RuleForm) → dest_forall whole ≡ found → IsKnownForm whole form
      → IsKnownForm whole (every_or found form)
  every-known whole known None form is rest = rest
  every-known whole known (Some at) form is rest =
      let parts = quantified-parts theory forall_name (logical-type theory has forall_name (quantifier type_a) refl) whole at is known in
      let typed : HasType (at.ty ∷ []) (image_under ((at.name, at.ty) ∷ []) at.body) bool_type =
      subst (λ (t : Nameless). HasType (at.ty ∷ []) t bool_type) (sym (image_under-closed [] at.name at.ty at.body)) parts.body_typed in (
        parts.type_known,
        record {
          typed = image-typed at.body bool_type (image_under-type ((at.name, at.ty) ∷ []) at.body bool_type typed);
          parts = closed-parts theory 0 at.name at.ty parts.type_known (image at.body) parts.body_parts;
        },
      )

  both-known : (whole : NamedTerm) → IsFormula theory (image whole) → (found : Option (NamedTerm × NamedTerm)) (form : RuleForm) → dest_conjunction whole ≡ found → IsKnownForm whole form
      → IsKnownForm whole (both_or found form)
  both-known whole known None form is rest = rest
  both-known whole known (Some sides) form is rest =
      let parts = connected-parts theory and_name (logical-type theory has and_name binary refl) whole sides is known in (parts.left, parts.right)

  form-known : (whole : NamedTerm) → IsFormula theory (image whole) → IsKnownForm whole (rule_form whole)
  form-known whole known =
      both-known whole known (dest_conjunction whole) _ refl
      (every-known whole known (dest_forall whole) _ refl
      (equal-known whole known (dest_equation whole) _
      (denied-known whole known (dest_negation whole) refl)))

  mutual
    rules_of-known : {hypotheses : List NamedTerm} {conclusion : NamedTerm} {rules : List Nameless} → RulesOf hypotheses conclusion rules → IsFormula theory (image conclusion)
        → AreFormulas theory rules
    rules_of-known (rules_of_form conclusion rules by_form) known = rules_of_form-known by_form (form-known conclusion known)

    rules_of_form-known : {hypotheses : List NamedTerm} {whole : NamedTerm} {form : RuleForm} {rules : List Nameless} → RulesOfForm hypotheses whole form rules
        → IsKnownForm whole form → AreFormulas theory rules
    rules_of_form-known (of_both whole p q first second one two) known = formulas-append first second (rules_of-known one known.0) (rules_of-known two known.1)
    rules_of_form-known (of_every whole at fresh instance rules is_fresh is_instance keeps_names rest) known =
        rules_of-known rest (subst (λ (t : Nameless). IsKnown theory t bool_type) (sym is_instance)
        (put-known theory (only at.name at.ty (free fresh at.ty)) (renames theory at.name fresh at.ty known.0) (image at.body) bool_type known.1))
    rules_of_form-known (of_equal whole a b) known = (known, tt)
    rules_of_form-known (of_denied whole p) known = (sides-known theory has.legal p false_term bool_type known (false-known theory (logical-type theory has false_name bool_type refl)), tt)
    rules_of_form-known (of_stated whole p) known = (sides-known theory has.legal p true_term bool_type known (true-known theory has), tt)

  of-equations : (hypotheses : List NamedTerm) (equations : List Nameless) (rules : List Theorem) → AreRules hypotheses equations rules → AreFormulas theory equations → AreKnownRules theory rules
  of-equations hypotheses [] [] are known = tt
  of-equations hypotheses [] (rule ∷ rules) are known = absurd are
  of-equations hypotheses (equation ∷ equations) [] are known = absurd are
  of-equations hypotheses (equation ∷ equations) (rule ∷ rules) are known =
      (subst (λ (t : Nameless). IsKnown theory t bool_type) (sym are.0.conclusion) known.0, of-equations hypotheses equations rules are.1 known.1)

  -- the rules of a theorem whose conclusion is known
  pub rules-known : (theorem : Theorem) (rules : List Theorem) → IsKnown theory (image theorem.conclusion) bool_type → AnswersRules theorem (Ok rules) → AreKnownRules theory rules
  rules-known theorem rules known answers = of-equations theorem.hypotheses answers.0 rules answers.2 (rules_of-known answers.1 known)
