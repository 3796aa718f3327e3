-- The refiners without parts answer valid steps.
use Rattle.std.proofs.Common.{◌≡◌, ℕ, List, [], ◌∷◌, ◌++◌, map, Bool, true, false, not, refl, sym, ◌∙◌, ap, subst, inl, inr, Option, Some, None, Result, if◌then◌else◌}
use Rattle.std.specs.List.{list_any}
use Rattle.std.specs.Option.{option_map, is_some}
use Rattle.hol_model.specs.declared.fault.Fault.{Fault}
use Rattle.hol_model.specs.declared.fault.Fault.TheVariants.{TooLarge, TypeMismatch, BadShape, RefineFails, UnknownName}
use Rattle.hol_model.specs.Terms.HolType.{HolType, bool_type}
use Rattle.hol_model.specs.Terms.NamedTerm.{NamedTerm, variable, type_of}
use Rattle.hol_model.specs.Terms.Nameless.{Nameless, free, app, const, lam, image}
use Rattle.hol_model.specs.Terms.Measures.{nameless_within_limits}
use Rattle.hol_model.specs.Terms.Substitution.{occurs_free, IsFirstFree, close}
use Rattle.hol_model.specs.Logic.Theory.{Theory, IsKnown, generic_type, type_a}
use Rattle.hol_model.specs.Logic.Derivable.{IsMember, nameless_equation}
use Rattle.hol_model.specs.Logic.Logic.{and_name, or_name, implies_name, not_name, forall_name, exists_name, false_name, binary, unary, quantifier}
use Rattle.hol_model.specs.Logic.NamelessLogic.{disjunction}
use Rattle.hol_model.specs.Logic.NamedLogic.{Abstracted, false_term, implication, dest_conjunction, dest_disjunction, dest_implication, dest_negation, dest_forall, dest_exists}
use Rattle.hol_model.specs.Kernel.Theorem.{Theorem, are_alpha_equivalent, without_hypothesis}
use Rattle.hol_model.specs.Kernel.Rules.{dest_equation, is_formula}
use Rattle.hol_model.specs.Derived.DerivedRules.{Conclusion, named, up_to_names, conclusion_image, body_with, is_of_type}
use Rattle.hol_model.specs.Goals.Goals.{Sequent, Goal}
use Rattle.hol_model.specs.declared.rule.Rule.TheVariants as rules
use Rattle.hol_model.proofs.Logic.Later.{Derivable-earlier}
use Rattle.hol_model.proofs.Logic.Known.{IsKnownSequent, Derivable-known}
use Rattle.hol_model.proofs.Terms.Images.{image-typed}
use Rattle.hol_model.proofs.Tests.{same_term-Decides, first_of_neither, second_of_neither}
use Rattle.hol_model.proofs.Terms.Typing.{one_type}
use Rattle.hol_model.proofs.Terms.Membership.{of_map, IsMember-append_left, IsMember-append_right}
use Rattle.hol_model.specs.Goals.Strength.{Includes}
use Rattle.hol_model.specs.Goals.Justifications.{sequent_of}
use Rattle.hol_model.specs.Goals.Justifications as tree
use Rattle.hol_laws_steps.proofs.Members.{is_among-member}
use Rattle.hol_model.specs.Goals.Replays.{Store, sequents_in, sequent_of_theorem, IsStoreOver, IsKnownGoal}
use Rattle.hol_model.specs.Refining.Refiners.{one_part, two_parts, three_parts, StatedStep, from_assumptions, assuming, toward, from_first, from_second, is_taken, is_taken_beside, has_free_name}
use Rattle.hol_model.specs.Refining.Refiners.{IsFreshFor, IsFreshAfter, table, all_tac, accept_tac, assumption_tac, assume_tac, refl_tac, conj_tac, eq_tac, disj1_tac, disj2_tac, disch_tac}
use Rattle.hol_model.specs.Refining.Refiners.{gen_tac, exists_tac, mp_tac, disj_cases_tac, choose_tac, undisch_tac, discharged}
use Rattle.hol_model.specs.Rewrites.RenamedBody.{renamed_body}
use Rattle.hol_model.specs.Goals.Achieving.{are_assumed, is_assumed}
use Rattle.hol_model.specs.Refining.RefinerConditions.{HasLogic}
use Rattle.hol_laws_refiners.proofs.RenamedBody.{renamed_body-image}
use Rattle.hol_laws_refiners.proofs.FormulaParts.{logical-type, connected-parts, negated-part, equation-parts, quantified-parts, AreSides}
use Rattle.hol_laws_refiners.proofs.FillingKnown.{connected-known, false-known, fill-known, is_of_type-type, no-name, none-passes}
use Rattle.hol_laws_refiners.proofs.Proving.{Proves, of_one, of_two, of_three, by_conj, by_disj1, by_disj2, by_undisch, by_disch, by_not_intro, by_mp, by_deduct, by_disj_cases, by_refl}
use Rattle.hol_laws_refiners.proofs.Proving.{by_assume, by_gen, by_prove_hyp, by_exists, by_choose}
use Rattle.hol_laws_refiners.proofs.StatedSteps.{Meets, meets-more, meets-none, with_none, with_one, with_two, IsKnownStated, known-from, known-none, known-one, assumptions-known, IsGoodOutcome}
use Rattle.hol_laws_refiners.proofs.StatedSteps.{good-unless, good-given, assumed-included}

module _ (theory : Theory) (store : Store) (goal : Goal) (has : HasLogic theory) (over : IsStoreOver theory store) (known : IsKnownGoal theory goal) where
  abbrev h : List Nameless
  h = map image goal.assumptions

  abbrev target : Nameless
  target = image goal.target

  abbrev Good : Result StatedStep Fault → Type 0
  Good outcome = IsGoodOutcome theory store goal outcome

  -- what a justification proves of sequents
  abbrev ProvesBy : Nameless → tree.Justification → List Sequent → Type 0
  ProvesBy c justification sequents = Proves h c (sequent_of theory (sequents_in store) sequents justification)

  assumptions_known : (x : Nameless) → IsMember x h → IsKnown theory x bool_type
  assumptions_known = assumptions-known theory goal known

  toward-known : (t : NamedTerm) → IsKnown theory (image t) bool_type → IsKnownStated theory (toward goal (named t))
  toward-known t k = known-from theory goal.assumptions [] (named t) assumptions_known (known-none theory) k

  toward-image-known : (t : Nameless) → IsKnown theory t bool_type → IsKnownStated theory (toward goal (up_to_names t))
  toward-image-known t k = known-from theory goal.assumptions [] (up_to_names t) assumptions_known (known-none theory) k

  toward-body-known : (stated : Conclusion) → IsKnown theory (conclusion_image stated) bool_type → IsKnownStated theory (toward goal stated)
  toward-body-known stated k = known-from theory goal.assumptions [] stated assumptions_known (known-none theory) k

  -- a sequent of the one subgoal
  taken : (target_term : NamedTerm) (s : Sequent) → Meets (toward goal (named target_term)) s → Includes s.hypotheses h
  taken target_term s met = meets-none goal.assumptions (named target_term) s met

  -- the theorem of a name
  known-theorem : (name : List ℕ) (theorem : Theorem) → store.named name ≡ Some theorem → IsKnownSequent theory (map image theorem.hypotheses) (image theorem.conclusion)
  known-theorem name theorem is =
      let proved = over.named name theorem is in
      Derivable-known theory has.legal (Derivable-earlier theorem.theory theory proved.earlier has.legal (map image theorem.hypotheses) (image theorem.conclusion) proved.proved.derivable)

  named-proves : (name : List ℕ) (theorem : Theorem) → store.named name ≡ Some theorem → are_assumed theorem.hypotheses goal ≡ true
      → Proves h (image theorem.conclusion) (option_map sequent_of_theorem (store.named name))
  named-proves name theorem is assumed = record {
    sequent = sequent_of_theorem theorem;
    is_given = ap (option_map sequent_of_theorem) is;
    same_conclusion = refl;
    included = assumed-included theorem.hypotheses goal assumed;
  }

  -- ---- the leaves

  pub all-good : Good (table store all_tac goal [])
  all-good = record {
    proves = with_one (toward goal (named goal.target)) (ProvesBy target from_first)
        (λ s met. record { sequent = s; is_given = refl; same_conclusion = met.conclusion; included = taken goal.target s met });
    known = (toward-known goal.target known.target, tt);
  }

  pub accept-good : (name : List ℕ) → Good (table store (accept_tac name) goal [])
  accept-good name = good-given theory store goal (store.named name) UnknownName _ (λ theorem is.
      good-unless theory store goal (are_alpha_equivalent theorem.conclusion goal.target) RefineFails _ (λ same.
      good-unless theory store goal (are_assumed theorem.hypotheses goal) RefineFails _ (λ assumed.
      record {
        proves = with_none (ProvesBy target (tree.named name))
            (subst (λ (c : Nameless). Proves h c (option_map sequent_of_theorem (store.named name))) ((same_term-Decides (image theorem.conclusion) target).0 same)
            (named-proves name theorem is assumed));
        known = tt;
      })))

  pub assumption-good : Good (table store assumption_tac goal [])
  assumption-good = good-unless theory store goal (is_assumed goal.target goal) RefineFails _ (λ assumed. record {
    proves = with_none (ProvesBy target (tree.by_rule (rules.Assume goal.target) tree.no_parts)) (by_assume theory h goal.target known.target (is_among-member target h assumed));
    known = tt;
  })

  pub assume-good : (name : List ℕ) → Good (table store (assume_tac name) goal [])
  assume-good name = good-given theory store goal (store.named name) UnknownName _ (λ theorem is.
      good-unless theory store goal (are_assumed theorem.hypotheses goal) RefineFails _ (λ assumed.
      record {
        proves = with_one (assuming goal (named theorem.conclusion)) (ProvesBy target (tree.by_rule rules.ProveHyp (two_parts (tree.named name) from_first)))
            (λ s met. of_two theory rules.ProveHyp h target h (h ++ image theorem.conclusion ∷ []) (image theorem.conclusion) target (option_map sequent_of_theorem (store.named name)) (Some s)
            (named-proves name theorem is assumed)
            (record { sequent = s; is_given = refl; same_conclusion = met.conclusion; included = meets-more goal.assumptions (named theorem.conclusion ∷ []) (named goal.target) s met })
            (λ a b a_is a_in b_is b_in. by_prove_hyp theory h (image theorem.conclusion) target a b a_is a_in b_is b_in));
        known = (
          known-from theory goal.assumptions (named theorem.conclusion ∷ []) (named goal.target) assumptions_known
              (known-one theory (image theorem.conclusion) (known-theorem name theorem is).conclusion) known.target,
          tt,
        );
      }))

  pub refl-good : Good (table store refl_tac goal [])
  refl-good = good-given theory store goal (dest_equation goal.target) BadShape _ (λ sides is.
      good-unless theory store goal (are_alpha_equivalent sides.0 sides.1) RefineFails _ (λ same.
      let parts = equation-parts theory has.legal goal.target sides is known.target in
      record {
        proves = with_none (ProvesBy target (tree.by_rule (rules.Refl sides.0) tree.no_parts))
            (subst (λ (c : Nameless). ProvesBy c (tree.by_rule (rules.Refl sides.0) tree.no_parts) [])
            (ap (λ right. nameless_equation parts.ty (image sides.0) right) ((same_term-Decides (image sides.0) (image sides.1)).0 same) ∙ sym parts.same)
            (by_refl theory h sides.0 parts.ty parts.left));
        known = tt;
      }))

  -- the sides of the goal, by a connective
  sides-of : (name : List ℕ) (sides : NamedTerm × NamedTerm) → AreSides theory name goal.target sides → (justification : tree.Justification) (sequents : List Sequent)
      → ProvesBy (app (app (const name binary) (image sides.0)) (image sides.1)) justification sequents → ProvesBy target justification sequents
  sides-of name sides parts justification sequents p = subst (λ (c : Nameless). ProvesBy c justification sequents) (sym parts.same) p

  pub conj-good : Good (table store conj_tac goal [])
  conj-good = good-given theory store goal (dest_conjunction goal.target) BadShape _ (λ sides is.
      let parts = connected-parts theory and_name (logical-type theory has and_name binary refl) goal.target sides is known.target in
      let justification : tree.Justification = tree.by_rule rules.Conj (two_parts from_first from_second) in
      record {
        proves = with_two (toward goal (named sides.0)) (toward goal (named sides.1)) (ProvesBy target justification)
            (λ s t m n. sides-of and_name sides parts justification (s ∷ t ∷ [])
            (by_conj theory h (image sides.0) (image sides.1) s t m.conclusion (taken sides.0 s m) n.conclusion (taken sides.1 t n)));
        known = (toward-known sides.0 parts.left, (toward-known sides.1 parts.right, tt));
      })

  pub disj1-good : Good (table store disj1_tac goal [])
  disj1-good = good-given theory store goal (dest_disjunction goal.target) BadShape _ (λ sides is.
      let parts = connected-parts theory or_name (logical-type theory has or_name binary refl) goal.target sides is known.target in
      let justification : tree.Justification = tree.by_rule (rules.Disj1 sides.1) (one_part from_first) in
      record {
        proves = with_one (toward goal (named sides.0)) (ProvesBy target justification)
            (λ s m. sides-of or_name sides parts justification (s ∷ [])
            (by_disj1 theory h (image sides.0) (image sides.1) sides.1 s refl parts.right m.conclusion (taken sides.0 s m)));
        known = (toward-known sides.0 parts.left, tt);
      })

  pub disj2-good : Good (table store disj2_tac goal [])
  disj2-good = good-given theory store goal (dest_disjunction goal.target) BadShape _ (λ sides is.
      let parts = connected-parts theory or_name (logical-type theory has or_name binary refl) goal.target sides is known.target in
      let justification : tree.Justification = tree.by_rule (rules.Disj2 sides.0) (one_part from_first) in
      record {
        proves = with_one (toward goal (named sides.1)) (ProvesBy target justification)
            (λ s m. sides-of or_name sides parts justification (s ∷ [])
            (by_disj2 theory h (image sides.0) (image sides.1) sides.0 s refl parts.left m.conclusion (taken sides.1 s m)));
        known = (toward-known sides.1 parts.right, tt);
      })

  -- ---- implications

  implies : generic_type theory implies_name ≡ Some binary
  implies = logical-type theory has implies_name binary refl

  implication-known : (p q : NamedTerm) → IsKnown theory (image p) bool_type → IsKnown theory (image q) bool_type → IsKnown theory (image (implication p q)) bool_type
  implication-known p q j k = connected-known theory implies_name implies (image p) (image q) j k

  included-more : (a : List Nameless) (t : Nameless) → Includes a h → Includes a (h ++ t ∷ [])
  included-more a t included x member = IsMember-append_left x h (t ∷ []) (included x member)

  last-member : (t : Nameless) → IsMember t (h ++ t ∷ [])
  last-member t = IsMember-append_right t h (t ∷ []) (inl refl)

  pub eq-good : Good (table store eq_tac goal [])
  eq-good = good-given theory store goal (dest_equation goal.target) BadShape _ (λ sides is.
      good-unless theory store goal (is_formula sides.0) BadShape _ (λ formula.
      good-unless theory store goal (nameless_within_limits (image (implication sides.1 sides.0))) TooLarge _ (λ fits.
      let parts = equation-parts theory has.legal goal.target sides is known.target in
      let bool_is : bool_type ≡ parts.ty = one_type (image sides.0) bool_type parts.ty (image-typed sides.0 bool_type (formula-type sides.0 formula)) parts.left.typed in
      let left : IsKnown theory (image sides.0) bool_type = subst (IsKnown theory (image sides.0)) (sym bool_is) parts.left in
      let right : IsKnown theory (image sides.1) bool_type = subst (IsKnown theory (image sides.1)) (sym bool_is) parts.right in
      let same : target ≡ nameless_equation bool_type (image sides.0) (image sides.1) = parts.same ∙ ap (λ ty. nameless_equation ty (image sides.0) (image sides.1)) (sym bool_is) in
      let back : tree.Justification = tree.by_rule rules.Undisch (one_part from_second) in
      let forth : tree.Justification = tree.by_rule rules.Undisch (one_part from_first) in
      let justification : tree.Justification = tree.by_rule rules.DeductAntisym (two_parts back forth) in
      record {
        proves = with_two (toward goal (named (implication sides.0 sides.1))) (toward goal (named (implication sides.1 sides.0))) (ProvesBy target justification)
            (λ s t m n. subst (λ (c : Nameless). ProvesBy c justification (s ∷ t ∷ [])) (sym same)
            (of_two theory rules.DeductAntisym h (nameless_equation bool_type (image sides.0) (image sides.1)) (h ++ image sides.1 ∷ []) (h ++ image sides.0 ∷ []) (image sides.0) (image sides.1)
            (sequent_of theory (sequents_in store) (s ∷ t ∷ []) back) (sequent_of theory (sequents_in store) (s ∷ t ∷ []) forth)
            (by_undisch theory (h ++ image sides.1 ∷ []) (image sides.1) (image sides.0) t n.conclusion (included-more t.hypotheses (image sides.1) (taken (implication sides.1 sides.0) t n))
            (last-member (image sides.1)))
            (by_undisch theory (h ++ image sides.0 ∷ []) (image sides.0) (image sides.1) s m.conclusion (included-more s.hypotheses (image sides.0) (taken (implication sides.0 sides.1) s m))
            (last-member (image sides.0)))
            (λ a b a_is a_in b_is b_in. by_deduct theory h (image sides.0) (image sides.1) a b a_is a_in b_is b_in)));
        known = (
          toward-known (implication sides.0 sides.1) (implication-known sides.0 sides.1 left right),
          (toward-known (implication sides.1 sides.0) (implication-known sides.1 sides.0 right left), tt),
        );
      })))
    where
      formula-type : (t : NamedTerm) → is_formula t ≡ true → type_of t ≡ Some bool_type
      formula-type t is = is_of_type-type bool_type t is

  discharged-good : (sides : Option (NamedTerm × NamedTerm)) (negated : Option NamedTerm) → dest_implication goal.target ≡ sides → dest_negation goal.target ≡ negated
      → Good (discharged goal sides negated)
  discharged-good (Some sides) negated is or =
      let parts = connected-parts theory implies_name implies goal.target sides is known.target in
      let justification : tree.Justification = tree.by_rule (rules.Disch sides.0) (one_part from_first) in
      record {
        proves = with_one (from_assumptions goal.assumptions (named sides.0 ∷ []) (named sides.1)) (ProvesBy target justification)
            (λ s m. sides-of implies_name sides parts justification (s ∷ [])
            (by_disch theory h (image sides.0) (image sides.1) sides.0 s refl parts.left m.conclusion (meets-more goal.assumptions (named sides.0 ∷ []) (named sides.1) s m)));
        known = (known-from theory goal.assumptions (named sides.0 ∷ []) (named sides.1) assumptions_known (known-one theory (image sides.0) parts.left) parts.right, tt);
      }
  discharged-good None (Some p) is or =
      let part = negated-part theory (logical-type theory has not_name unary refl) goal.target p or known.target in
      let inner : tree.Justification = tree.by_rule (rules.Disch p) (one_part from_first) in
      let justification : tree.Justification = tree.by_rule rules.NotIntro (one_part inner) in
      record {
        proves = with_one (from_assumptions goal.assumptions (named p ∷ []) (named false_term)) (ProvesBy target justification)
            (λ s m. subst (λ (c : Nameless). ProvesBy c justification (s ∷ [])) (sym part.same)
            (of_one theory rules.NotIntro h (app (const not_name unary) (image p)) h (image (implication p false_term)) (sequent_of theory (sequents_in store) (s ∷ []) inner)
            (by_disch theory h (image p) (image false_term) p s refl part.known m.conclusion (meets-more goal.assumptions (named p ∷ []) (named false_term) s m))
            (λ a a_is a_in. by_not_intro theory h (image p) a a_is a_in)));
        known = (
          known-from theory goal.assumptions (named p ∷ []) (named false_term) assumptions_known (known-one theory (image p) part.known)
              (false-known theory (logical-type theory has false_name bool_type refl)),
          tt,
        );
      }
  discharged-good None None is or = tt

  pub disch-good : Good (table store disch_tac goal [])
  disch-good = discharged-good (dest_implication goal.target) (dest_negation goal.target) refl refl

  pub mp-good : (name : List ℕ) → Good (table store (mp_tac name) goal [])
  mp-good name = good-given theory store goal (store.named name) UnknownName _ (λ theorem is.
      good-unless theory store goal (are_assumed theorem.hypotheses goal) RefineFails _ (λ assumed.
      good-unless theory store goal (nameless_within_limits (image (implication theorem.conclusion goal.target))) TooLarge _ (λ fits.
      let p : Nameless = image theorem.conclusion in
      let justification : tree.Justification = tree.by_rule rules.Mp (two_parts from_first (tree.named name)) in
      record {
        proves = with_one (toward goal (named (implication theorem.conclusion goal.target))) (ProvesBy target justification)
            (λ s m. of_two theory rules.Mp h target h h (image (implication theorem.conclusion goal.target)) p (Some s) (option_map sequent_of_theorem (store.named name))
            (record { sequent = s; is_given = refl; same_conclusion = m.conclusion; included = taken (implication theorem.conclusion goal.target) s m })
            (named-proves name theorem is assumed)
            (λ a b a_is a_in b_is b_in. by_mp theory h p target a b a_is a_in b_is b_in));
        known = (toward-known (implication theorem.conclusion goal.target) (implication-known theorem.conclusion goal.target (known-theorem name theorem is).conclusion known.target), tt);
      })))

  pub disj_cases-good : (name : List ℕ) → Good (table store (disj_cases_tac name) goal [])
  disj_cases-good name = good-given theory store goal (store.named name) UnknownName _ (λ theorem is.
      good-given theory store goal (dest_disjunction theorem.conclusion) BadShape _ (λ sides dest.
      good-unless theory store goal (are_assumed theorem.hypotheses goal) RefineFails _ (λ assumed.
      let parts = connected-parts theory or_name (logical-type theory has or_name binary refl) theorem.conclusion sides dest (known-theorem name theorem is).conclusion in
      let justification : tree.Justification = tree.by_rule rules.DisjCases (three_parts (tree.named name) from_first from_second) in
      record {
        proves = with_two (assuming goal (named sides.0)) (assuming goal (named sides.1)) (ProvesBy target justification)
            (λ s t m n. of_three theory rules.DisjCases h target h (h ++ image sides.0 ∷ []) (h ++ image sides.1 ∷ []) (disjunction (image sides.0) (image sides.1)) target target
            (option_map sequent_of_theorem (store.named name)) (Some s) (Some t)
            (subst (λ (c : Nameless). Proves h c (option_map sequent_of_theorem (store.named name))) parts.same (named-proves name theorem is assumed))
            (record { sequent = s; is_given = refl; same_conclusion = m.conclusion; included = meets-more goal.assumptions (named sides.0 ∷ []) (named goal.target) s m })
            (record { sequent = t; is_given = refl; same_conclusion = n.conclusion; included = meets-more goal.assumptions (named sides.1 ∷ []) (named goal.target) t n })
            (λ a b d a_is a_in b_is b_in d_is d_in. by_disj_cases theory h (image sides.0) (image sides.1) target a b d a_is a_in b_is b_in d_is d_in));
        known = (
          known-from theory goal.assumptions (named sides.0 ∷ []) (named goal.target) assumptions_known (known-one theory (image sides.0) parts.left) known.target,
          (known-from theory goal.assumptions (named sides.1 ∷ []) (named goal.target) assumptions_known (known-one theory (image sides.1) parts.right) known.target, tt),
        );
      })))

  -- ---- quantifiers

  -- a name that is not taken is free in no term of the goal
  not-taken : (name : List ℕ) (ty : HolType) → is_taken theory goal name ≡ false → (term : NamedTerm) → IsMember term (goal.target ∷ goal.assumptions)
      → occurs_free name ty (image term) ≡ false
  not-taken name ty is term member =
      no-name name ty (image term) (none-passes (λ t. has_free_name name (image t)) term (goal.target ∷ goal.assumptions)
      (second_of_neither (is_some (generic_type theory name)) (list_any (λ t. has_free_name name (image t)) (goal.target ∷ goal.assumptions)) is) member)

  not-assumed : (name : List ℕ) (ty : HolType) → is_taken theory goal name ≡ false → (x : Nameless) → IsMember x h → occurs_free name ty x ≡ false
  not-assumed name ty is x member =
      let found = of_map image x goal.assumptions member in
      subst (λ (t : Nameless). occurs_free name ty t ≡ false) (sym found.2) (not-taken name ty is found.0 (inr found.1))

  pub gen-good : (fresh : List ℕ) → IsFreshFor (dest_forall goal.target) (λ quantified. is_taken theory goal) fresh → Good (table store gen_tac goal fresh)
  gen-good fresh is_fresh = good-given theory store goal (dest_forall goal.target) BadShape _ (λ q is.
      let made : Nameless = body_with q (variable fresh q.ty) in
      good-unless theory store goal (nameless_within_limits made) TooLarge _ (λ fits.
      let parts = quantified-parts theory forall_name (logical-type theory has forall_name (quantifier type_a) refl) goal.target q is known.target in
      let new : IsFirstFree (is_taken theory goal) q.name fresh = subst (λ (found : Option Abstracted). IsFreshFor found (λ quantified. is_taken theory goal) fresh) is is_fresh in
      let body : Nameless = close q.name q.ty (image q.body) in
      let absent : occurs_free fresh q.ty body ≡ false = subst (λ (t : Nameless). occurs_free fresh q.ty t ≡ false) parts.same (not-taken fresh q.ty new.is_fresh goal.target (inl refl)) in
      let same : conclusion_image (renamed_body q fresh) ≡ made = renamed_body-image q fresh bool_type parts.body_typed in
      let justification : tree.Justification = tree.by_rule (rules.Gen (variable fresh q.ty)) (one_part from_first) in
      record {
        proves = with_one (toward goal (renamed_body q fresh)) (ProvesBy target justification)
            (λ s m. subst (λ (c : Nameless). ProvesBy c justification (s ∷ [])) (sym parts.same)
            (by_gen theory h fresh q.ty body s parts.type_known absent (not-assumed fresh q.ty new.is_fresh) (m.conclusion ∙ same) (meets-none goal.assumptions (renamed_body q fresh) s m)));
        known = (
          toward-body-known (renamed_body q fresh) (subst (λ (t : Nameless). IsKnown theory t bool_type) (sym same)
              (fill-known theory (free fresh q.ty) q.ty bool_type body (record { typed = refl; parts = parts.type_known }) parts.body_typed parts.body_parts)),
          tt,
        );
      }))

  pub exists-good : (witness : NamedTerm) → (ty : HolType) → IsKnown theory (image witness) ty → Good (table store (exists_tac witness) goal [])
  exists-good witness ty witness_known = good-given theory store goal (dest_exists goal.target) BadShape _ (λ q is.
      good-unless theory store goal (is_of_type q.ty witness) TypeMismatch _ (λ typed.
      let made : Nameless = body_with q witness in
      good-unless theory store goal (nameless_within_limits made) TooLarge _ (λ fits.
      let parts = quantified-parts theory exists_name (logical-type theory has exists_name (quantifier type_a) refl) goal.target q is known.target in
      let body : Nameless = close q.name q.ty (image q.body) in
      let at : IsKnown theory (image witness) q.ty = record { typed = image-typed witness q.ty (is_of_type-type q.ty witness typed); parts = witness_known.parts } in
      let justification : tree.Justification = tree.by_rule (rules.Exists goal.target witness) (one_part from_first) in
      record {
        proves = with_one (toward goal (up_to_names made)) (ProvesBy target justification)
            (λ s m. by_exists theory h goal.target witness q.ty body s parts.same known.target at m.conclusion (meets-none goal.assumptions (up_to_names made) s m));
        known = (toward-image-known made (fill-known theory (image witness) q.ty bool_type body at parts.body_typed parts.body_parts), tt);
      })))

  pub choose-good : (name fresh : List ℕ) → IsFreshAfter theory goal (store.named name) fresh → Good (table store (choose_tac name) goal fresh)
  choose-good name fresh is_fresh = good-given theory store goal (store.named name) UnknownName _ (λ theorem is.
      good-given theory store goal (dest_exists theorem.conclusion) BadShape _ (λ q dest.
      good-unless theory store goal (are_assumed theorem.hypotheses goal) RefineFails _ (λ assumed.
      let made : Nameless = body_with q (variable fresh q.ty) in
      good-unless theory store goal (nameless_within_limits made) TooLarge _ (λ fits.
      let parts = quantified-parts theory exists_name (logical-type theory has exists_name (quantifier type_a) refl) theorem.conclusion q dest (known-theorem name theorem is).conclusion in
      let after : IsFreshAfter theory goal (Some theorem) fresh = subst (λ (found : Option Theorem). IsFreshAfter theory goal found fresh) is is_fresh in
      let new : IsFirstFree (is_taken_beside theory goal q.ty theorem.conclusion) q.name fresh =
      subst (λ (found : Option Abstracted). IsFreshFor found (λ quantified. is_taken_beside theory goal quantified.ty theorem.conclusion) fresh) dest after in
      let not_taken : is_taken theory goal fresh ≡ false = first_of_neither (is_taken theory goal fresh) (occurs_free fresh q.ty (image theorem.conclusion)) new.is_fresh in
      let not_there : occurs_free fresh q.ty (image theorem.conclusion) ≡ false = second_of_neither (is_taken theory goal fresh) (occurs_free fresh q.ty (image theorem.conclusion)) new.is_fresh in
      let body : Nameless = close q.name q.ty (image q.body) in
      let whole : Nameless = app (const exists_name (quantifier q.ty)) (lam q.ty body) in
      let same : conclusion_image (renamed_body q fresh) ≡ made = renamed_body-image q fresh bool_type parts.body_typed in
      let justification : tree.Justification = tree.by_rule (rules.Choose (variable fresh q.ty)) (two_parts (tree.named name) from_first) in
      record {
        proves = with_one (assuming goal (renamed_body q fresh)) (ProvesBy target justification)
            (λ s m. of_two theory (rules.Choose (variable fresh q.ty)) h target h (h ++ made ∷ []) whole target (option_map sequent_of_theorem (store.named name)) (Some s)
            (subst (λ (c : Nameless). Proves h c (option_map sequent_of_theorem (store.named name))) parts.same (named-proves name theorem is assumed))
            (record {
              sequent = s;
              is_given = refl;
              same_conclusion = m.conclusion;
              included =
                  subst (λ (t : Nameless). Includes s.hypotheses (h ++ t ∷ [])) same (meets-more goal.assumptions (renamed_body q fresh ∷ []) (named goal.target) s m);
            })
            (λ a b a_is a_in b_is b_in. by_choose theory h fresh q.ty body target a b (subst (λ (t : Nameless). occurs_free fresh q.ty t ≡ false) parts.same not_there)
            (not-taken fresh q.ty not_taken goal.target (inl refl)) (not-assumed fresh q.ty not_taken) a_is a_in b_is b_in));
        known = (
          known-from theory goal.assumptions (renamed_body q fresh ∷ []) (named goal.target) assumptions_known
              (known-one theory (conclusion_image (renamed_body q fresh)) (subst (λ (t : Nameless). IsKnown theory t bool_type) (sym same)
              (fill-known theory (free fresh q.ty) q.ty bool_type body (record { typed = refl; parts = parts.type_known }) parts.body_typed parts.body_parts))) known.target,
          tt,
        );
      }))))

  -- ---- an assumption taken back

  without-included : (p : NamedTerm) (terms : List NamedTerm) (x : Nameless) → IsMember x (map image (without_hypothesis p terms)) → IsMember x (map image terms)
  without-included p [] x member = member
  without-included p (term ∷ terms) x member = go (are_alpha_equivalent term p) member (without-included p terms x)
    where
      go : (test : Bool) → IsMember x (map image (if not test then term ∷ without_hypothesis p terms else without_hypothesis p terms))
          → (IsMember x (map image (without_hypothesis p terms)) → IsMember x (map image terms)) → IsMember x (image term ∷ map image terms)
      go true member deeper = inr (deeper member)
      go false (inl same) deeper = inl same
      go false (inr member) deeper = inr (deeper member)

  pub undisch-good : (p : NamedTerm) → Good (table store (undisch_tac p) goal [])
  undisch-good p = good-unless theory store goal (is_assumed p goal) RefineFails _ (λ assumed.
      good-unless theory store goal (nameless_within_limits (image (implication p goal.target))) TooLarge _ (λ fits.
      let there : IsMember (image p) h = is_among-member (image p) h assumed in
      let p_known : IsKnown theory (image p) bool_type = assumptions_known (image p) there in
      let fewer : List NamedTerm = without_hypothesis p goal.assumptions in
      let justification : tree.Justification = tree.by_rule rules.Undisch (one_part from_first) in
      record {
        proves = with_one (from_assumptions fewer [] (named (implication p goal.target))) (ProvesBy target justification)
            (λ s m. by_undisch theory h (image p) target s m.conclusion (λ x member. without-included p goal.assumptions x (meets-none fewer (named (implication p goal.target)) s m x member)) there);
        known = (
          known-from theory fewer [] (named (implication p goal.target)) (λ x member. assumptions_known x (without-included p goal.assumptions x member)) (known-none theory)
              (implication-known p goal.target p_known known.target),
          tt,
        );
      }))
