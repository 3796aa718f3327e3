-- BETA_CONV's left side: REFL of the term and TRANS give a conversion that begins with the term itself.
use Rattle.std.proofs.Common.{◌≡◌, [], ◌∷◌, ◌++◌, true, refl, sym, ◌∙◌, ap, subst, inl, inr, Option, Some, None, Result, Ok, Err, IfOk, arith}
use Rattle.std.specs.List.{list_all}
use Rattle.hol_model.specs.declared.fault.Fault.{Fault}
use Rattle.hol_model.specs.declared.fault.Fault.TheVariants.{BadShape}
use Rattle.hol_model.specs.Terms.HolType.{HolType}
use Rattle.hol_model.specs.Terms.NamedTerm.{NamedTerm, type_of, equation}
use Rattle.hol_model.specs.Terms.Nameless.{Nameless, image, nameless_type}
use Rattle.hol_model.specs.Terms.Measures.{nameless_within_limits}
use Rattle.hol_model.specs.Logic.Theory.{Theory, IsKnown}
use Rattle.hol_model.specs.Logic.Derivable.{nameless_equation}
use Rattle.hol_model.specs.Logic.NamedLogic.{Abstracted, dest_redex}
use Rattle.hol_model.specs.Kernel.Outcome.{given, refused}
use Rattle.hol_model.specs.Kernel.Rules.{first_unknown}
use Rattle.hol_model.specs.Kernel.Theorem.{Theorem}
use Rattle.hol_model.specs.Derived.DerivedRules.{Stated, HasLeftSide, AnswersStated, with_left, stated_with_left, stated_up_to_names, body_with, is_roomy, beta_conv_outcome}
use Rattle.hol_model.proofs.Tests.{first_of_both, second_of_both}
use Rattle.hol_model.proofs.Terms.Typing.{nameless_type-is}
use Rattle.hol_model.proofs.Terms.Images.{image-typed}
use Rattle.hol_kernel.proofs.RuleLemmas.{known_term}
use Rattle.hol_journal.specs.Journal.{Recorded, theorem_in}
use Rattle.hol_equal.specs.Sequents.{Shows, Derives, IsPast}
use Rattle.hol_equal.specs.Conversions.{beta_converted_outcome}
use Rattle.hol_equal.proofs.StepLemmas.{dest-equation}
use Rattle.hol_equal.proofs.CutLemmas.{answers-stated, derives-where}
use Rattle.hol_equal.proofs.Sizes.{leaves_room, equation-room, sized-equation, sized-within, past-room}

-- a theorem that converts the term, and the outcome that it is of
pub record IsConverted (theory : Theory) (t : NamedTerm) (ty : HolType) (theorem : Theorem) : Type 0 where
  pub right : Nameless
  pub none : first_unknown theory t ≡ None
  pub outcome : beta_conv_outcome theory t ≡ stated_with_left [] t (nameless_equation ty (image t) right)
  pub shows : Shows theorem [] (nameless_equation ty (image t) right)

module _ (theory : Theory) (t : NamedTerm) (ty : HolType) (typed : type_of t ≡ Some ty) where
  typed_so : nameless_type [] (image t) ≡ ty
  typed_so = nameless_type-is (image t) [] ty (image-typed t ty typed)

  pub converted-refused : (fault : Fault) → AnswersStated (Err fault) (image t ∷ []) (beta_converted_outcome theory t) → AnswersStated (Err fault) (image t ∷ []) (beta_conv_outcome theory t)
  converted-refused fault = go (dest_redex t) (first_unknown theory t)
    where
      go : (found : Option (Abstracted × NamedTerm)) (unknown : Option Fault)
          → AnswersStated (Err fault) (image t ∷ [])
          (given found BadShape (λ redex.
          refused unknown (stated_up_to_names [] (nameless_equation (nameless_type [] (image t)) (image t) (body_with redex.0 redex.1)))))
          → AnswersStated (Err fault) (image t ∷ [])
          (given found BadShape (λ redex.
          refused unknown (stated_with_left [] t (nameless_equation (nameless_type [] (image t)) (image t) (body_with redex.0 redex.1)))))
      go None unknown answers = answers
      go (Some redex) (Some other) answers = answers
      go (Some redex) None answers = answers

  pub is-converted : (theorem : Theorem) → AnswersStated (Ok theorem) (image t ∷ []) (beta_converted_outcome theory t) → IsConverted theory t ty theorem
  is-converted theorem = go (dest_redex t) refl (first_unknown theory t) refl
    where
      go : (found : Option (Abstracted × NamedTerm)) → dest_redex t ≡ found → (unknown : Option Fault) → first_unknown theory t ≡ unknown
          → AnswersStated (Ok theorem) (image t ∷ [])
          (given found BadShape (λ redex.
          refused unknown (stated_up_to_names [] (nameless_equation (nameless_type [] (image t)) (image t) (body_with redex.0 redex.1)))))
          → IsConverted theory t ty theorem
      go None dest unknown is answers = absurd answers
      go (Some redex) dest (Some fault) is answers = absurd answers
      go (Some redex) dest None is answers =
          let right : Nameless = body_with redex.0 redex.1 in
          record {
            right = right;
            none = is;
            outcome = rw (dest, is) (ap (λ (s : HolType). stated_with_left [] t (nameless_equation s (image t) right)) typed_so);
            shows = record {
              same_set = record { to = answers.hypotheses.back; back = answers.hypotheses.to };
              concludes = answers.conclusion ∙ ap (λ (s : HolType). nameless_equation s (image t) right) typed_so;
            };
          }

  pub term-known : (theorem : Theorem) → IsConverted theory t ty theorem → IsKnown theory (image t) ty
  term-known theorem converted = known_term theory t ty converted.none typed

  conversion-within : (right : Nameless) → list_all is_roomy (nameless_equation ty (image t) right ∷ []) ≡ true → nameless_within_limits (nameless_equation ty (image t) right) ≡ true
  conversion-within right roomy =
      let whole = nameless_equation ty (image t) right in
      sized-within 1000 5000 whole (leaves_room whole (first_of_both (is_roomy whole) true roomy)).sized (omega arith) (omega arith)

  reflexive-within : (right : Nameless) → list_all is_roomy (nameless_equation ty (image t) right ∷ []) ≡ true → nameless_within_limits (nameless_equation ty (image t) (image t)) ≡ true
  reflexive-within right roomy =
      let whole = nameless_equation ty (image t) right in
      let room = equation-room ty (image t) right (first_of_both (is_roomy whole) true roomy) in
      let few = room.few in
      sized-within 1002 10003 (nameless_equation ty (image t) (image t))
      (sized-equation 1000 5000 5000 ty (image t) (image t) (omega arith) (omega arith) room.left room.left) (omega arith) (omega arith)

  pub reflexive-past : (theorem : Theorem) → IsConverted theory t ty theorem → (fault : Fault) → IsPast fault (nameless_within_limits (nameless_equation ty (image t) (image t)))
      → AnswersStated (Err fault) (image t ∷ []) (beta_conv_outcome theory t)
  reflexive-past theorem converted fault past =
      let whole = nameless_equation ty (image t) converted.right in
      subst (λ (o : Result Stated Fault). AnswersStated (Err fault) (image t ∷ []) o) (sym converted.outcome)
      (past-room fault (nameless_within_limits (nameless_equation ty (image t) (image t))) (list_all is_roomy (image t ∷ whole ∷ [])) past
      (λ all. reflexive-within converted.right (second_of_both (is_roomy (image t)) (list_all is_roomy (whole ∷ [])) all)))

  pub left-stated : (theorem : Theorem) (converted : IsConverted theory t ty theorem) (result : Result Recorded Fault) → Derives result ([] ++ []) (nameless_equation ty (image t) converted.right)
      → IfOk result (λ made. HasLeftSide t made.theorem.conclusion) → AnswersStated (theorem_in result) (image t ∷ []) (beta_conv_outcome theory t)
  left-stated theorem converted result derives left =
      let whole = nameless_equation ty (image t) converted.right in
      let stated : Stated = record { hypotheses = []; conclusion = with_left t whole } in
      let roomy = derives-where (nameless_within_limits whole) (list_all is_roomy (whole ∷ [])) result [] whole (conversion-within converted.right) derives in
      subst (λ (o : Result Stated Fault). AnswersStated (theorem_in result) (image t ∷ []) o) (sym converted.outcome)
      (answers-stated result (image t ∷ []) (whole ∷ []) [] whole stated roomy (record { to = λ x m. m; back = λ x m. m }) (concludes result derives left)
      (λ u m. elim m [ inl e ↦ inr (inl e) | inr none_there ↦ absurd none_there ]))
    where
      concludes : (result : Result Recorded Fault) → Derives result ([] ++ []) (nameless_equation ty (image t) converted.right) → IfOk result (λ made. HasLeftSide t made.theorem.conclusion)
          → IfOk result (λ made. (image made.theorem.conclusion ≡ nameless_equation ty (image t) converted.right) × HasLeftSide t made.theorem.conclusion)
      concludes (Ok made) shown left = (shown.concludes, left)
      concludes (Err fault) shown left = tt

-- REFL's left side
pub reflexive-left : (t : NamedTerm) (theorem : Theorem) → theorem.conclusion ≡ equation t t → HasLeftSide t theorem.conclusion
reflexive-left t theorem is = subst (λ (c : NamedTerm). HasLeftSide t c) (sym is) (record { right = t; sides = dest-equation t t })

-- what TRANS keeps of the first theorem's left side
pub kept-left : (t : NamedTerm) (first : Theorem) (result : Result Recorded Fault)
    → IfOk result (λ made. (left : NamedTerm) → HasLeftSide left first.conclusion → HasLeftSide left made.theorem.conclusion)
    → HasLeftSide t first.conclusion → IfOk result (λ made. HasLeftSide t made.theorem.conclusion)
kept-left t first (Ok made) names left = names t left
kept-left t first (Err fault) names left = tt
