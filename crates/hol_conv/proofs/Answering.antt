-- What calls come to as conversions.
use Rattle.std.proofs.Common.{◌≡◌, ℕ, suc, ◌+◌, ◌<◌, ◌≤◌, [], Bool, true, false, inl, inr, refl, sym, subst, arith, add-one, Option, Some, None, Result, Ok, Err, IsSome}
use Rattle.hol_model.specs.declared.fault.Fault.{Fault}
use Rattle.hol_model.specs.declared.fault.Fault.TheVariants.{Memory, TooLarge, NotEquation, NotAlpha}
use Rattle.hol_model.specs.declared.limits.TheConstants.{DESCENTS_LIMIT}
use Rattle.hol_model.specs.Terms.NamedTerm.{NamedTerm, variable, constant, combination, abstraction, equation, is_within_limits, dest_combination, dest_abstraction}
use Rattle.hol_model.specs.Logic.Theory.{Theory}
use Rattle.hol_model.specs.Kernel.Outcome.{unless, given}
use Rattle.hol_model.specs.Kernel.Theorem.{Theorem, are_alpha_equivalent, with_hypotheses}
use Rattle.hol_model.specs.Kernel.Rules.{dest_equation, trans_outcome}
use Rattle.hol_model.specs.Goals.Replays.{Store}
use Rattle.hol_model.specs.Refining.HostFunctions.{HostConversions}
use Rattle.hol_model.specs.Refining.Conversions as conv
use Rattle.hol_model.specs.Refining.Conversions.{Conversion, Conversions, no_more, more, one_more, all_conv, thenc, orelsec, repeatc, rand_conv}
use Rattle.hol_model.specs.Refining.Conversions.{rator_conv, abs_conv, sub_conv, depth_conv, Converts, ConvertsOn, is_caught, of_argument}
use Rattle.hol_model.specs.Refining.Conversions.{of_function, of_body, of_parts, lacks_part, spends_step}
use Rattle.hol_laws_refiners.proofs.Spending.{converts-spends}
use Rattle.hol_laws_refiners.proofs.Equations.{conversions-answer-equations, equation-sides}
use Rattle.hol_laws_refiners.proofs.Repeating.{onto}
use Rattle.hol_laws_refiners.proofs.Chains.{ThencSoFar}
use Rattle.hol_conv.specs.Makes.{Joins}
use Rattle.hol_conv.specs.Parts.{AreParts, AreBoundParts, RefusesParts, is_no_combination, combination_is_too_deep, RefusesBoundParts, is_no_abstraction, abstraction_is_too_deep}
use Rattle.hol_conv.specs.Chains.{Reflects, without_step, by_refl, FinishesBy, Tries}

-- ---- equations

-- what TRANS answers is an equation
joined-sides : (theory : Theory) (a b joined : Theorem) → trans_outcome theory a b ≡ Ok joined → (sides : NamedTerm × NamedTerm) × (dest_equation joined.conclusion ≡ Some sides)
joined-sides theory a b joined is = left_of (dest_equation a.conclusion) is
  where
    made : NamedTerm × NamedTerm → NamedTerm × NamedTerm → Theorem
    made left right = record { theory = theory; hypotheses = with_hypotheses a.hypotheses b.hypotheses; conclusion = equation left.0 right.1 }

    found : (left right : NamedTerm × NamedTerm) (same fits : Bool) → unless same NotAlpha (unless fits TooLarge (Ok (made left right))) ≡ Ok joined
        → (sides : NamedTerm × NamedTerm) × (dest_equation joined.conclusion ≡ Some sides)
    found left right true true e =
        let same : made left right ≡ joined = cc in
        ((left.0, right.1), subst (λ (theorem : Theorem). dest_equation theorem.conclusion ≡ Some (left.0, right.1)) same (equation-sides left.0 right.1))
    found left right true false e = cc
    found left right false fits e = cc

    right_of : (left : NamedTerm × NamedTerm) (dest : Option (NamedTerm × NamedTerm))
        → given dest NotEquation (λ right. unless (are_alpha_equivalent left.1 right.0) NotAlpha (unless (is_within_limits (equation left.0 right.1)) TooLarge (Ok (made left right)))) ≡ Ok joined
        → (sides : NamedTerm × NamedTerm) × (dest_equation joined.conclusion ≡ Some sides)
    right_of left (Some right) e = found left right (are_alpha_equivalent left.1 right.0) (is_within_limits (equation left.0 right.1)) e
    right_of left None e = cc

    left_of : (dest : Option (NamedTerm × NamedTerm))
        → given dest NotEquation (λ left.
        given (dest_equation b.conclusion) NotEquation
        (λ right. unless (are_alpha_equivalent left.1 right.0) NotAlpha
        (unless (is_within_limits (equation left.0 right.1)) TooLarge (Ok (made left right))))) ≡ Ok joined
        → (sides : NamedTerm × NamedTerm) × (dest_equation joined.conclusion ≡ Some sides)
    left_of (Some left) e = right_of left (dest_equation b.conclusion) e
    left_of None e = cc

pub some-sides : {found : Option (NamedTerm × NamedTerm)} {sides : NamedTerm × NamedTerm} → found ≡ Some sides → IsSome found
some-sides is = subst (λ (found : Option (NamedTerm × NamedTerm)). IsSome found) (sym is) refl

no-theorem : {A : Type 0} {fault : Fault} {theorem : Theorem} → Err fault ≡ Ok theorem → A
no-theorem is = cc

-- so is what it is joined to
pub onto-equation : (theory : Theory) (first : Theorem) (next : Result Theorem Fault) (joined : Theorem) → Joins (onto theory first next) (Ok joined) → IsSome (dest_equation joined.conclusion)
onto-equation theory first (Ok next) joined (inl is) = some-sides (joined-sides theory first next joined (sym is)).1
onto-equation theory first (Err fault) joined (inl is) = no-theorem (sym is)
onto-equation theory first next joined (inr is) = no-theorem (sym is)

module _ (theory : Theory) (store : Store) (hosts : HostConversions) where
  -- so is what a conversion answers
  pub is-equation : {depth steps left : ℕ} {c : Conversion} {t : NamedTerm} {theorem : Theorem} → Converts theory store hosts depth steps c t (Ok theorem) left
      → IsSome (dest_equation theorem.conclusion)
  is-equation {depth} {steps} {left} {c} {t} {theorem} r = some-sides (conversions-answer-equations hosts theory store depth steps left c t theorem r).is_equation

  -- ---- want of memory

  pub unless-memory : {depth steps left : ℕ} {c : Conversion} {t : NamedTerm} {outcome answer : Result Theorem Fault} → Joins outcome answer → left ≤ steps
      → Converts theory store hosts depth steps c t outcome left → Converts theory store hosts depth steps c t answer left
  unless-memory {depth} {steps} {left} {c} {t} (inl is) le r = subst (λ (a : Result Theorem Fault). Converts theory store hosts depth steps c t a left) (sym is) r
  unless-memory {depth} {steps} {left} {c} {t} (inr is) le r = subst (λ (a : Result Theorem Fault). Converts theory store hosts depth steps c t a left) (sym is) (conv.finds_no_memory le)

  -- ---- ALL_CONV

  pub reflects-all : {depth steps left : ℕ} {t : NamedTerm} {answer : Result Theorem Fault} → Reflects theory t steps answer left → Converts theory store hosts depth steps all_conv t answer left
  reflects-all without_step = conv.no_step_is_left refl
  reflects-all (by_refl joins) = unless-memory joins (omega arith) conv.all_converts

  pub reflects-leaf : {depth steps left : ℕ} {c : Conversion} {t : NamedTerm} {answer : Result Theorem Fault} → spends_step (sub_conv c) t ≡ true → Reflects theory t steps answer left
      → Converts theory store hosts depth steps (sub_conv c) t answer left
  reflects-leaf leaf without_step = conv.no_step_is_left leaf
  reflects-leaf leaf (by_refl joins) = unless-memory joins (omega arith) (conv.same_without_parts leaf)

  -- ---- parts

  deeper : {depth steps left : ℕ} {c : Conversion} {t : NamedTerm} {answer : Result Theorem Fault} → Converts theory store hosts (depth + 1) steps c t answer left
      → Converts theory store hosts (suc depth) steps c t answer left
  deeper r = rw add-one at r

  pub argument-answers : {depth steps left : ℕ} {c : Conversion} {t f x : NamedTerm} {part answer : Result Theorem Fault} → AreParts t depth f x
      → Converts theory store hosts (depth + 1) steps c x part left → Joins (of_argument theory f part) answer → Converts theory store hosts depth steps (rand_conv c) t answer left
  argument-answers {depth} {steps} {left} {c} {answer} parts r joins =
      subst (λ (t : NamedTerm). Converts theory store hosts depth steps (rand_conv c) t answer left) (sym parts.is)
      (unless-memory joins (converts-spends theory store hosts r) (conv.argument_converts parts.room (deeper r) refl))

  pub function-answers : {depth steps left : ℕ} {c : Conversion} {t f x : NamedTerm} {part answer : Result Theorem Fault} → AreParts t depth f x
      → Converts theory store hosts (depth + 1) steps c f part left → Joins (of_function theory x part) answer → Converts theory store hosts depth steps (rator_conv c) t answer left
  function-answers {depth} {steps} {left} {c} {answer} parts r joins =
      subst (λ (t : NamedTerm). Converts theory store hosts depth steps (rator_conv c) t answer left) (sym parts.is)
      (unless-memory joins (converts-spends theory store hosts r) (conv.function_converts parts.room (deeper r) refl))

  pub body-answers : {depth steps left : ℕ} {c : Conversion} {t binder body : NamedTerm} {part answer : Result Theorem Fault} (parts : AreBoundParts t depth binder body)
      → Converts theory store hosts (depth + 1) steps c body part left → Joins (of_body theory parts.name parts.ty part) answer
      → Converts theory store hosts depth steps (abs_conv c) t answer left
  body-answers {depth} {steps} {left} {c} {answer} parts r joins =
      subst (λ (t : NamedTerm). Converts theory store hosts depth steps (abs_conv c) t answer left) (sym parts.is)
      (unless-memory joins (converts-spends theory store hosts r) (conv.body_converts parts.room (deeper r) refl))

  pub parts-answer : {depth steps mid left : ℕ} {c : Conversion} {t f x : NamedTerm} {first : Theorem} {second answer : Result Theorem Fault} → combination f x ≡ t → depth < DESCENTS_LIMIT
      → Converts theory store hosts (depth + 1) steps c f (Ok first) mid → Converts theory store hosts (depth + 1) mid c x second left → Joins (of_parts theory (Ok first) second) answer
      → Converts theory store hosts depth steps (sub_conv c) t answer left
  parts-answer {depth} {steps} {mid} {left} {c} {answer} is room r s joins =
      let le : left ≤ steps = both mid (converts-spends theory store hosts s) (converts-spends theory store hosts r) in
      subst (λ (t : NamedTerm). Converts theory store hosts depth steps (sub_conv c) t answer left) is
      (unless-memory joins le (conv.parts_convert room (deeper r) (deeper s) refl))
    where
      both : (mid : ℕ) → left ≤ mid → mid ≤ steps → left ≤ steps
      both mid a b = omega (arith, a, b)

  pub first-part-refused : {depth steps left : ℕ} {c : Conversion} {t f x : NamedTerm} {fault : Fault} → combination f x ≡ t → depth < DESCENTS_LIMIT
      → Converts theory store hosts (depth + 1) steps c f (Err fault) left → Converts theory store hosts depth steps (sub_conv c) t (Err fault) left
  first-part-refused {depth} {steps} {left} {c} {fault} is room r =
      subst (λ (t : NamedTerm). Converts theory store hosts depth steps (sub_conv c) t (Err fault) left) is (conv.first_part_is_refused room (deeper r))

  pub parts-too-deep : {depth left : ℕ} {c : Conversion} {t f x : NamedTerm} → combination f x ≡ t → DESCENTS_LIMIT ≤ depth
      → Converts theory store hosts depth left (sub_conv c) t (Err TooLarge) left
  parts-too-deep {depth} {left} {c} is deep = subst (λ (t : NamedTerm). Converts theory store hosts depth left (sub_conv c) t (Err TooLarge) left) is (conv.is_too_deep refl deep)

  lacks-rand : (c : Conversion) (t : NamedTerm) → dest_combination t ≡ None → lacks_part (rand_conv c) t ≡ true
  lacks-rand c (combination f x) is = cc
  lacks-rand c (variable name ty) is = refl
  lacks-rand c (constant name ty) is = refl
  lacks-rand c (abstraction name ty body) is = refl

  lacks-rator : (c : Conversion) (t : NamedTerm) → dest_combination t ≡ None → lacks_part (rator_conv c) t ≡ true
  lacks-rator c (combination f x) is = cc
  lacks-rator c (variable name ty) is = refl
  lacks-rator c (constant name ty) is = refl
  lacks-rator c (abstraction name ty body) is = refl

  lacks-abs : (c : Conversion) (t : NamedTerm) → dest_abstraction t ≡ None → lacks_part (abs_conv c) t ≡ true
  lacks-abs c (combination f x) is = refl
  lacks-abs c (variable name ty) is = refl
  lacks-abs c (constant name ty) is = refl
  lacks-abs c (abstraction name ty body) is = cc

  pub rand-refused : {depth left : ℕ} {c : Conversion} {t : NamedTerm} {fault : Fault} → RefusesParts t depth fault → Converts theory store hosts depth left (rand_conv c) t (Err fault) left
  rand-refused {c} (is_no_combination {t} is) = conv.has_no_such_part (lacks-rand c t is)
  rand-refused (combination_is_too_deep deep) = conv.is_too_deep refl deep

  pub rator-refused : {depth left : ℕ} {c : Conversion} {t : NamedTerm} {fault : Fault} → RefusesParts t depth fault → Converts theory store hosts depth left (rator_conv c) t (Err fault) left
  rator-refused {c} (is_no_combination {t} is) = conv.has_no_such_part (lacks-rator c t is)
  rator-refused (combination_is_too_deep deep) = conv.is_too_deep refl deep

  pub abs-refused : {depth left : ℕ} {c : Conversion} {t : NamedTerm} {fault : Fault} → RefusesBoundParts t depth fault → Converts theory store hosts depth left (abs_conv c) t (Err fault) left
  abs-refused {c} (is_no_abstraction {t} is) = conv.has_no_such_part (lacks-abs c t is)
  abs-refused (abstraction_is_too_deep deep) = conv.is_too_deep refl deep

  -- ---- ALL_CONV behind a refusal

  last : {depth steps left : ℕ} {c : Conversion} {t : NamedTerm} (answer : Result Theorem Fault) → Converts theory store hosts depth steps c t answer left
      → Converts theory store hosts depth steps (orelsec c no_more) t answer left
  last (Ok theorem) r = conv.first_answers r
  last (Err fault) r = conv.last_is_refused r

  pub tries : {depth steps mid left : ℕ} {c : Conversion} {t : NamedTerm} (made : Result Theorem Fault) {answer : Result Theorem Fault} → Converts theory store hosts depth steps c t made mid
      → Tries theory t made mid answer left → Converts theory store hosts depth steps (orelsec c (one_more all_conv)) t answer left
  tries {depth} {steps} {mid} {left} {c} {t} (Ok theorem) {answer} r is =
      subst (λ (a : Result Theorem Fault). Converts theory store hosts depth steps (orelsec c (one_more all_conv)) t a left) (sym is.0)
      (subst (λ (n : ℕ). Converts theory store hosts depth steps (orelsec c (one_more all_conv)) t (Ok theorem) n) (sym is.1) (conv.first_answers r))
  tries {depth} {steps} {mid} {left} {c} {t} (Err fault) {answer} r is = go (is_caught fault) refl is
    where
      both : (mid : ℕ) → left ≤ mid → mid ≤ steps → left ≤ steps
      both mid a b = omega (arith, a, b)

      go : (caught : Bool) → is_caught fault ≡ caught → FinishesBy caught theory [] t fault mid answer left
          → Converts theory store hosts depth steps (orelsec c (one_more all_conv)) t answer left
      go false passes is =
          subst (λ (a : Result Theorem Fault). Converts theory store hosts depth steps (orelsec c (one_more all_conv)) t a left) (sym is.0)
          (subst (λ (n : ℕ). Converts theory store hosts depth steps (orelsec c (one_more all_conv)) t (Err fault) n) (sym is.1) (conv.first_is_not_caught r passes))
      go true caught is =
          let s = reflects-all is.reflects in
          unless-memory is.joins (both mid (converts-spends theory store hosts s) (converts-spends theory store hosts r)) (conv.first_is_caught r caught (last is.same s))

  -- ---- THENC

  pub then-answers : {depth steps mid left : ℕ} {c d : Conversion} {t right : NamedTerm} {side : NamedTerm} {first : Theorem} (next : Result Theorem Fault) {answer : Result Theorem Fault}
      → Converts theory store hosts depth steps c t (Ok first) mid → dest_equation first.conclusion ≡ Some (side, right) → Converts theory store hosts depth mid d right next left
      → Joins (onto theory first next) answer → Converts theory store hosts depth steps (thenc c (one_more d)) t answer left
  then-answers {depth} {steps} {mid} {left} {c} {d} {t} {right} {side} {first} next {answer} r is s joins =
      unless-memory joins (both mid (converts-spends theory store hosts s) (converts-spends theory store hosts r)) (conv.first_goes_on r (on next s))
    where
      both : (mid : ℕ) → left ≤ mid → mid ≤ steps → left ≤ steps
      both mid a b = omega (arith, a, b)

      on_ok : (next : Theorem) (made : Result Theorem Fault) → trans_outcome theory first next ≡ made → Converts theory store hosts depth mid d right (Ok next) left
          → ConvertsOn theory store hosts depth mid first (one_more d) made left
      on_ok next (Ok joined) found s = conv.is_joined is s found conv.ends
      on_ok next (Err fault) found s = conv.is_not_joined is s found

      on : (next : Result Theorem Fault) → Converts theory store hosts depth mid d right next left → ConvertsOn theory store hosts depth mid first (one_more d) (onto theory first next) left
      on (Ok next) s = on_ok next (trans_outcome theory first next) refl s
      on (Err fault) s = conv.next_is_refused is s

  -- a chain goes on
  pub thenc-goes : {depth first steps left : ℕ} {whole c : Conversion} {cs : Conversions} {t right side : NamedTerm} {theorem joined : Theorem} (next : Result Theorem Fault)
      → ThencSoFar theory store hosts depth first whole t steps theorem (more c cs) → dest_equation theorem.conclusion ≡ Some (side, right)
      → Converts theory store hosts depth steps c right next left → Joins (onto theory theorem next) (Ok joined) → ThencSoFar theory store hosts depth first whole t left joined cs
  thenc-goes (Ok next) so_far is r (inl made) = record { decides = λ answer left s. so_far.decides answer left (conv.is_joined is r (sym made) s) }
  thenc-goes (Err fault) so_far is r (inl made) = no-theorem (sym made)
  thenc-goes next so_far is r (inr made) = no-theorem (sym made)

  -- a chain stops
  pub thenc-stops : {depth first steps left : ℕ} {whole c : Conversion} {cs : Conversions} {t right side : NamedTerm} {theorem : Theorem} (next : Result Theorem Fault) {fault : Fault}
      → ThencSoFar theory store hosts depth first whole t steps theorem (more c cs) → dest_equation theorem.conclusion ≡ Some (side, right)
      → Converts theory store hosts depth steps c right next left → Joins (onto theory theorem next) (Err fault) → Converts theory store hosts depth first whole t (Err fault) left
  thenc-stops (Ok next) so_far is r (inl made) = so_far.decides _ _ (conv.is_not_joined is r (sym made))
  thenc-stops {depth} {first} {left} {whole} {t} (Err other) so_far is r (inl made) =
      subst (λ (a : Result Theorem Fault). Converts theory store hosts depth first whole t a left) (sym made) (so_far.decides _ _ (conv.next_is_refused is r))
  thenc-stops {depth} {first} {left} {whole} {t} next so_far is r (inr made) =
      subst (λ (a : Result Theorem Fault). Converts theory store hosts depth first whole t a left) (sym made)
      (so_far.decides (Err Memory) left (conv.goes_on_without_memory (converts-spends theory store hosts r)))
