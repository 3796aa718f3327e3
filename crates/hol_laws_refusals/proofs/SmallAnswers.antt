-- A conversion that meets small terms alone is not refused for a limit.
use Rattle.std.proofs.Common.{◌≡◌, ℕ, ◌≤◌, List, [], ◌∷◌, ◌++◌, Bool, true, false, not, refl, sym, ◌∙◌, ap, subst, inl, inr, Option, Some, None, Result, Ok, Err, if◌then◌else◌}
use Rattle.std.specs.List.{list_all}
use Rattle.std.specs.Option.{is_some}
use Rattle.hol_model.specs.declared.fault.Fault.{Fault}
use Rattle.hol_model.specs.declared.fault.Fault.TheVariants.{Memory, TooLarge, TypeMismatch, NotEquation, NotAlpha, UnknownType, UnknownConst, NotInstance}
use Rattle.hol_model.specs.declared.fault.Fault.TheVariants.{FreeInHypothesis, ConvFails, BadShape, InvalidStep}
use Rattle.hol_model.specs.Terms.HolType.{HolType, bool_type, type_nodes, instantiate_type, type_instance_of}
use Rattle.hol_model.specs.Terms.NamedTerm.{NamedTerm, variable, combination, abstraction, equation, type_of, is_within_limits}
use Rattle.hol_model.specs.Terms.Nameless.{Nameless, HasType, image, image_under, nameless_type}
use Rattle.hol_model.specs.Terms.Measures.{nameless_within_limits}
use Rattle.hol_model.specs.Terms.Substitution.{instantiate, replacement}
use Rattle.hol_model.specs.Logic.Theory.{Theory, IsKnown}
use Rattle.hol_model.specs.Logic.KnownTerm.{knows_type, knows_types, knows_constants, has_instances}
use Rattle.hol_model.specs.Logic.Derivable.{nameless_equation}
use Rattle.hol_model.specs.Logic.NamedLogic.{Abstracted, dest_redex}
use Rattle.hol_model.specs.Kernel.Outcome.{unless, given, refused}
use Rattle.hol_model.specs.Kernel.Theorem.{Theorem, are_alpha_equivalent, with_hypotheses}
use Rattle.hol_model.specs.Kernel.Rules.{dest_equation, first_unknown, concluded, is_free_in_hypotheses, refl_outcome, trans_outcome, mk_comb_outcome, abs_outcome}
use Rattle.hol_model.specs.Derived.DerivedRules.{AnswersStated, stated_with_left, body_with, is_roomy, images}
use Rattle.hol_model.specs.Rewrites.SmallTerms.{SMALL_TYPE_NODES, is_small}
use Rattle.hol_model.specs.Rewrites.Rewriting.{Replacements, replaced, has_fitting_instance, Rewrites, none_matches, rewrites, instance_is_too_large, AnswersRules}
use Rattle.hol_model.specs.Goals.Replays.{Store, IsStoreOver, sequents_in, has_room}
use Rattle.hol_model.specs.Refining.HostFunctions.{HostEquation, HostConversions, AnswersHostEquation}
use Rattle.hol_model.specs.Refining.RefinerConditions.{HasLogic}
use Rattle.hol_model.specs.Refining.Conversions as conv
use Rattle.hol_model.specs.Refining.Conversions.{Conversion, Conversions, Converts, ConvertsOn, redex_outcome, binder_fault, binder_answer, of_body}
use Rattle.hol_model.specs.Refining.Conversions.{of_parts, of_argument, of_function, if_changed, defined_as}
use Rattle.hol_model.proofs.Tests.{first_of_both, second_of_both, both}
use Rattle.hol_model.proofs.Terms.Typing.{nameless_type-is, put-typed, instantiate-typed}
use Rattle.hol_laws_refiners.proofs.Equations.{equation-sides, conversions-answer-equations}
use Rattle.hol_laws_refiners.proofs.FormulaParts.{equation-parts}
use Rattle.hol_laws_refusals.specs.KnownRules.{AreKnownRules, HasKnownRules, HaveKnownRules}
use Rattle.hol_laws_refusals.specs.SmallConversions.{IsSmallStep, IsSmallTheorem, BetaMakesSmall, RuleMakesSmall, StaysSmall, GoesOnSmall}
use Rattle.hol_laws_refusals.specs.SmallLaws.{SmallConversionsFit}
use Rattle.hol_laws_refusals.proofs.Known.{same_pair, theorem-known}
use Rattle.hol_laws_refusals.proofs.RulesOf.{rules-known}
use Rattle.hol_laws_refusals.proofs.SmallLimits.{small-low, low-modest, combination-modest, abstraction-modest, equation-fits, small-whole-type, small-parts}
use Rattle.hol_laws_refusals.proofs.SmallLimits.{small-binder-type, small-roomy, equation-roomy, roomy-within}

-- ---- answers

-- the refusal is none for a limit
abbrev pub IsNoLimit : Fault → Type 0
IsNoLimit TooLarge = ⊥
IsNoLimit _ = Unit {0}

abbrev pub Fits : {A : Type 0} → Result A Fault → Type 0
Fits (Ok x) = Unit {0}
Fits (Err fault) = IsNoLimit fault

-- both sides are small, where the theorem is an equation
pub record HasSmallSides (theorem : Theorem) : Type 0 where
  pub left : (sides : NamedTerm × NamedTerm) → dest_equation theorem.conclusion ≡ Some sides → is_small (image sides.0) ≡ true
  pub right : (sides : NamedTerm × NamedTerm) → dest_equation theorem.conclusion ≡ Some sides → is_small (image sides.1) ≡ true

-- an equation with small sides, or a refusal that is none for a limit
abbrev pub IsGood : Result Theorem Fault → Type 0
IsGood (Ok theorem) = HasSmallSides theorem
IsGood (Err fault) = IsNoLimit fault

pub is-no-limit : (fault same : Fault) → fault ≡ same → IsNoLimit same → IsNoLimit fault
is-no-limit fault same is none = subst IsNoLimit (sym is) none

pub good-fits : (answer : Result Theorem Fault) → IsGood answer → Fits answer
good-fits (Ok theorem) good = tt
good-fits (Err fault) good = good

fits-unless : (test : Bool) (fault : Fault) (next : Result Theorem Fault) → IsNoLimit fault → Fits next → Fits (unless test fault next)
fits-unless true fault next none fits = fits
fits-unless false fault next none fits = none

good-unless : (test : Bool) (fault : Fault) (next : Result Theorem Fault) → IsNoLimit fault → IsGood next → IsGood (unless test fault next)
good-unless true fault next none good = good
good-unless false fault next none good = none

pub no-limit-unknown : (theory : Theory) (t : NamedTerm) (fault : Fault) → first_unknown theory t ≡ Some fault → IsNoLimit fault
no-limit-unknown theory t fault is = go (knows_types theory t) (knows_constants theory t) (has_instances theory t) is
  where
    go : (a b c : Bool) → (if not a then Some UnknownType else (if not b then Some UnknownConst else (if not c then Some NotInstance else None))) ≡ Some fault → IsNoLimit fault
    go true true true is = cc
    go true true false is = let same : fault ≡ NotInstance = cc in is-no-limit fault NotInstance same tt
    go true false c is = let same : fault ≡ UnknownConst = cc in is-no-limit fault UnknownConst same tt
    go false b c is = let same : fault ≡ UnknownType = cc in is-no-limit fault UnknownType same tt

module _ (theory : Theory) where
  fits-concluded : (hypotheses : List NamedTerm) (conclusion : NamedTerm) → is_within_limits conclusion ≡ true → Fits (concluded theory hypotheses conclusion)
  fits-concluded hypotheses conclusion within =
      let made : Theorem = record { theory = theory; hypotheses = hypotheses; conclusion = conclusion } in
      subst (λ (test : Bool). Fits {A = Theorem} (unless test TooLarge (Ok made))) (sym within) tt

  -- an equation of small terms
  small-equation : (hypotheses : List NamedTerm) (l r : NamedTerm) → is_small (image l) ≡ true → is_small (image r) ≡ true → IsGood (concluded theory hypotheses (equation l r))
  small-equation hypotheses l r left right =
      let made : Theorem = record { theory = theory; hypotheses = hypotheses; conclusion = equation l r } in
      let within : is_within_limits (equation l r) ≡ true = equation-fits l r (low-modest l (small-low l left)) (low-modest r (small-low r right)) in
      let sides : HasSmallSides made = record {
        left = λ sides is. let same = same_pair (l, r) sides (sym (equation-sides l r) ∙ is) in subst (λ (s : NamedTerm × NamedTerm). is_small (image s.0) ≡ true) same left;
        right = λ sides is. let same = same_pair (l, r) sides (sym (equation-sides l r) ∙ is) in subst (λ (s : NamedTerm × NamedTerm). is_small (image s.1) ≡ true) same right;
      } in
      subst (λ (test : Bool). IsGood (unless test TooLarge (Ok made))) (sym within) sides

  -- ---- rules

  pub refl-good : (t : NamedTerm) → is_small (image t) ≡ true → IsGood (refl_outcome theory t)
  refl-good t small = go (first_unknown theory t) refl
    where
      go : (found : Option Fault) → first_unknown theory t ≡ found → IsGood (refused found (concluded theory [] (equation t t)))
      go None is = small-equation [] t t small small
      go (Some fault) is = no-limit-unknown theory t fault is

  trans-good : (a b : Theorem) → HasSmallSides a → HasSmallSides b → IsGood (trans_outcome theory a b)
  trans-good a b first second = go (dest_equation a.conclusion) refl (dest_equation b.conclusion) refl
    where
      go : (l : Option (NamedTerm × NamedTerm)) → dest_equation a.conclusion ≡ l → (r : Option (NamedTerm × NamedTerm)) → dest_equation b.conclusion ≡ r
          → IsGood (given l NotEquation (λ left. given r NotEquation (λ right. unless (are_alpha_equivalent left.1 right.0) NotAlpha
          (concluded theory (with_hypotheses a.hypotheses b.hypotheses) (equation left.0 right.1)))))
      go None l_is r r_is = tt
      go (Some left) l_is None r_is = tt
      go (Some left) l_is (Some right) r_is =
          good-unless (are_alpha_equivalent left.1 right.0) NotAlpha _ tt
          (small-equation (with_hypotheses a.hypotheses b.hypotheses) left.0 right.1 (first.left left l_is) (second.right right r_is))

  mk_comb-fits : (a b : Theorem) → HasSmallSides a → HasSmallSides b → Fits (mk_comb_outcome theory a b)
  mk_comb-fits a b first second = go (dest_equation a.conclusion) refl (dest_equation b.conclusion) refl
    where
      go : (l : Option (NamedTerm × NamedTerm)) → dest_equation a.conclusion ≡ l → (r : Option (NamedTerm × NamedTerm)) → dest_equation b.conclusion ≡ r
          → Fits (given l NotEquation (λ functions. given r NotEquation (λ arguments. unless (is_some (type_of (combination functions.0 arguments.0))) TypeMismatch
          (concluded theory (with_hypotheses a.hypotheses b.hypotheses) (equation (combination functions.0 arguments.0) (combination functions.1 arguments.1))))))
      go None l_is r r_is = tt
      go (Some f) l_is None r_is = tt
      go (Some f) l_is (Some x) r_is =
          fits-unless (is_some (type_of (combination f.0 x.0))) TypeMismatch _ tt
          (fits-concluded (with_hypotheses a.hypotheses b.hypotheses) (equation (combination f.0 x.0) (combination f.1 x.1))
          (equation-fits (combination f.0 x.0) (combination f.1 x.1)
          (combination-modest f.0 x.0 (small-low f.0 (first.left f l_is)) (small-low x.0 (second.left x r_is)))
          (combination-modest f.1 x.1 (small-low f.1 (first.right f l_is)) (small-low x.1 (second.right x r_is)))))

  binder-fits : (answer : Result Theorem Fault) → Fits answer → Fits (binder_answer answer)
  binder-fits (Ok theorem) fits = tt
  binder-fits (Err fault) fits = go fault fits
    where
      go : (fault : Fault) → IsNoLimit fault → IsNoLimit (binder_fault fault)
      go TooLarge none = absurd none
      go _ none = tt

  abs-fits : (name : List ℕ) (ty : HolType) (a : Theorem) → type_nodes ty ≤ SMALL_TYPE_NODES → HasSmallSides a → Fits (abs_outcome theory (variable name ty) a)
  abs-fits name ty a few small = go (dest_equation a.conclusion) refl
    where
      go : (found : Option (NamedTerm × NamedTerm)) → dest_equation a.conclusion ≡ found
          → Fits (given found NotEquation (λ sides. unless (knows_type theory ty) UnknownType (unless (not (is_free_in_hypotheses name ty a.hypotheses)) FreeInHypothesis
          (concluded theory a.hypotheses (equation (abstraction name ty sides.0) (abstraction name ty sides.1))))))
      go None is = tt
      go (Some sides) is =
          fits-unless (knows_type theory ty) UnknownType _ tt (fits-unless (not (is_free_in_hypotheses name ty a.hypotheses)) FreeInHypothesis _ tt
          (fits-concluded a.hypotheses (equation (abstraction name ty sides.0) (abstraction name ty sides.1))
          (equation-fits (abstraction name ty sides.0) (abstraction name ty sides.1)
          (abstraction-modest name ty sides.0 few (small-low sides.0 (small.left sides is)))
          (abstraction-modest name ty sides.1 few (small-low sides.1 (small.right sides is))))))

  -- ---- what follows the answer about a part

  after-argument : (f : NamedTerm) (part : Result Theorem Fault) → is_small (image f) ≡ true → IsGood part → Fits (of_argument theory f part)
  after-argument f (Err fault) small good = good
  after-argument f (Ok second) small good = go (refl_outcome theory f) (refl-good f small)
    where
      go : (first : Result Theorem Fault) → IsGood first → Fits (of_parts theory first (Ok second))
      go (Err fault) none = none
      go (Ok first) sides = mk_comb-fits first second sides good

  after-function : (x : NamedTerm) (part : Result Theorem Fault) → is_small (image x) ≡ true → IsGood part → Fits (of_function theory x part)
  after-function x (Err fault) small good = good
  after-function x (Ok first) small good = after-parts (refl_outcome theory x) (refl-good x small)
    where
      after-parts : (second : Result Theorem Fault) → IsGood second → Fits (of_parts theory (Ok first) second)
      after-parts (Err fault) none = none
      after-parts (Ok second) sides = mk_comb-fits first second good sides

  after-both : (first : Theorem) (second : Result Theorem Fault) → HasSmallSides first → IsGood second → Fits (of_parts theory (Ok first) second)
  after-both first (Err fault) sides good = good
  after-both first (Ok second) sides good = mk_comb-fits first second sides good

  after-body : (name : List ℕ) (ty : HolType) (part : Result Theorem Fault) → type_nodes ty ≤ SMALL_TYPE_NODES → IsGood part → Fits (of_body theory name ty part)
  after-body name ty (Err fault) few good = good
  after-body name ty (Ok theorem) few good = binder-fits (abs_outcome theory (variable name ty) theorem) (abs-fits name ty theorem few good)

  after-change : (t : NamedTerm) (made : Result Theorem Fault) → IsGood made → IsGood (if_changed t made)
  after-change t (Err fault) good = good
  after-change t (Ok theorem) good = go (dest_equation theorem.conclusion)
    where
      go : (found : Option (NamedTerm × NamedTerm)) → IsGood (given found ConvFails (λ sides. unless (not (are_alpha_equivalent sides.1 t)) ConvFails (Ok theorem)))
      go None = tt
      go (Some sides) = good-unless (not (are_alpha_equivalent sides.1 t)) ConvFails (Ok theorem) tt good

  -- ---- conversions without parts

  beta-fits : (t : NamedTerm) (answer : Result Theorem Fault) → is_small (image t) ≡ true → BetaMakesSmall t → AnswersStated answer (image t ∷ []) (redex_outcome theory t) → Fits answer
  beta-fits t answer small makes answers = go (dest_redex t) refl (first_unknown theory t) refl answer answers
    where
      go : (found : Option (Abstracted × NamedTerm)) → dest_redex t ≡ found → (unknown : Option Fault) → first_unknown theory t ≡ unknown → (answer : Result Theorem Fault)
          → AnswersStated answer (image t ∷ []) (unless (is_some found) ConvFails (given found BadShape (λ redex. refused unknown
          (stated_with_left [] t (nameless_equation (nameless_type [] (image t)) (image t) (body_with redex.0 redex.1)))))) → Fits answer
      go found is unknown unknown_is (Ok theorem) answers = tt
      go None is unknown unknown_is (Err refusal) (inl same) = is-no-limit refusal Memory same tt
      go None is unknown unknown_is (Err refusal) (inr same) = is-no-limit refusal ConvFails same tt
      go (Some redex) is (Some fault) unknown_is (Err refusal) (inl same) = is-no-limit refusal Memory same tt
      go (Some redex) is (Some fault) unknown_is (Err refusal) (inr same) = is-no-limit refusal fault same (no-limit-unknown theory t fault unknown_is)
      go (Some redex) is None unknown_is (Err refusal) (inl same) = is-no-limit refusal Memory same tt
      go (Some redex) is None unknown_is (Err refusal) (inr same) =
          let ty : HolType = nameless_type [] (image t) in
          let made : Nameless = body_with redex.0 redex.1 in
          let one : is_roomy (image t) ≡ true = small-roomy (image t) small in
          let two : is_roomy (nameless_equation ty (image t) made) ≡ true = equation-roomy ty (image t) made (small-whole-type (image t) small) small (makes redex is) in
          let second : list_all is_roomy (nameless_equation ty (image t) made ∷ []) ≡ true = both (is_roomy (nameless_equation ty (image t) made)) true two refl in
          let room : list_all is_roomy (image t ∷ nameless_equation ty (image t) made ∷ []) ≡ true =
          both (is_roomy (image t)) (list_all is_roomy (nameless_equation ty (image t) made ∷ [])) one second in
          let none = same.1 in
          cc

  -- an instance of an equation of which the left side becomes the term
  instance-within : (rule : Theorem) (t : NamedTerm) (by : Replacements) (sides : NamedTerm × NamedTerm) (ty : HolType) → HasType [] (image sides.0) ty
      → image rule.conclusion ≡ nameless_equation ty (image sides.0) (image sides.1)
      → ((name : List ℕ) (s : HolType) → HasType [] (replacement by.terms name s) s) → replaced by (image sides.0) ≡ image t
      → is_small (image t) ≡ true → is_small (replaced by (image sides.1)) ≡ true → nameless_within_limits (replaced by (image rule.conclusion)) ≡ true
  instance-within rule t by sides ty typed conclusion puts gives small makes =
      let s : HolType = instantiate_type (type_instance_of by.types) ty in
      let here : HasType [] (replaced by (image sides.0)) s =
      put-typed (replacement by.terms) puts (instantiate (type_instance_of by.types) (image sides.0)) [] s (instantiate-typed (type_instance_of by.types) (image sides.0) [] ty typed) in
      let there : HasType [] (image t) s = subst (λ (u : Nameless). HasType [] u s) gives here in
      let few : type_nodes s ≤ SMALL_TYPE_NODES =
      subst (λ (a : HolType). type_nodes a ≤ SMALL_TYPE_NODES) (nameless_type-is (image t) [] s there) (small-whole-type (image t) small) in
      let left : is_small (replaced by (image sides.0)) ≡ true = ap is_small gives ∙ small in
      subst (λ (u : Nameless). nameless_within_limits (replaced by u) ≡ true) (sym conclusion)
      (roomy-within (nameless_equation s (replaced by (image sides.0)) (replaced by (image sides.1))) (equation-roomy s (replaced by (image sides.0)) (replaced by (image sides.1)) few left makes))

  all-within : (by : Replacements) (terms : List Nameless) → list_all (λ term. is_small (replaced by term)) terms ≡ true
      → list_all (λ term. nameless_within_limits (replaced by term)) terms ≡ true
  all-within by [] all = refl
  all-within by (term ∷ terms) all =
      let p = is_small (replaced by term) in
      let q = list_all (λ other. is_small (replaced by other)) terms in
      both (nameless_within_limits (replaced by term)) (list_all (λ other. nameless_within_limits (replaced by other)) terms)
      (roomy-within (replaced by term) (small-roomy (replaced by term) (first_of_both p q all))) (all-within by terms (second_of_both p q all))

  one-of-rules : (before after : List Theorem) (rule : Theorem) → AreKnownRules theory (before ++ rule ∷ after) → IsKnown theory (image rule.conclusion) bool_type
  one-of-rules [] after rule known = known.0
  one-of-rules (other ∷ before) after rule known = one-of-rules before after rule known.1

  rewrites-fits : {rules : List Theorem} {t : NamedTerm} {answer : Result Theorem Fault} → HasLogic theory → (made : Rewrites rules t answer) → AreKnownRules theory rules → is_small (image t) ≡ true
      → RuleMakesSmall made → Fits answer
  rewrites-fits has (none_matches none) known small makes = tt
  rewrites-fits has (rewrites first fits made) known small makes = tt
  rewrites-fits {t = t} has (instance_is_too_large {rule} {by} first too_large) known small makes =
      let rule_known = one-of-rules first.before first.after rule (subst (AreKnownRules theory) first.is_there known) in
      let sides = first.applies.sides in
      let parts = equation-parts theory has.legal rule.conclusion sides first.applies.is_equation rule_known in
      let match = first.applies.matches.is_match in
      let p = is_small (replaced by (image sides.1)) in
      let q = list_all (λ term. is_small (replaced by term)) (images rule) in
      let conclusion = instance-within rule t by sides parts.ty parts.left.typed parts.same match.may_be_put.typed match.gives_term small (first_of_both p q makes) in
      let fits : has_fitting_instance rule by ≡ true =
      both (nameless_within_limits (replaced by (image rule.conclusion))) (list_all (λ term. nameless_within_limits (replaced by term)) (images rule)) conclusion
      (all-within by (images rule) (second_of_both p q makes)) in
      cc

  host-fits : (store : Store) (t : NamedTerm) (answered : HostEquation) (answer : Result Theorem Fault) → has_room theory (sequents_in store) [] answered.justification ≡ true
      → AnswersHostEquation theory store t answered answer → Fits answer
  host-fits store t answered (Ok theorem) room answers = tt
  host-fits store t answered (Err refusal) room (inl is) = is-no-limit refusal InvalidStep is.0 tt
  host-fits store t answered (Err refusal) room (inr (inl is)) = is-no-limit refusal Memory is tt
  host-fits store t answered (Err refusal) room (inr (inr is)) = let none = is.1 in cc

  pub rules-fit : (theorem : Theorem) (fault : Fault) → IsSmallTheorem theorem → AnswersRules theorem (Err fault) → IsNoLimit fault
  rules-fit theorem fault small (inl is) = is-no-limit fault Memory is tt
  rules-fit theorem fault small (inr is) = let none = is.1 in cc

  -- ---- conversions that stand for others

  abbrev KnownIn : Option Conversion → Type 0
  KnownIn None = Unit {0}
  KnownIn (Some c) = HasKnownRules theory c

  defined-known : (c : Conversion) → HasKnownRules theory c → KnownIn (defined_as c)
  defined-known (conv.repeatc c) h = ((h, (h, tt)), (tt, tt))
  defined-known (conv.try_conv c) h = (h, (tt, tt))
  defined-known (conv.depth_conv c) h = (h, (h, tt))
  defined-known (conv.once_depth_conv c) h = (h, (h, (tt, tt)))
  defined-known (conv.top_depth_conv c) h = (h, ((h, ((h, (h, tt)), tt)), tt))
  defined-known _ h = tt

  definition-known : (c d : Conversion) → defined_as c ≡ Some d → HasKnownRules theory c → HasKnownRules theory d
  definition-known c d is h = subst KnownIn is (defined-known c h)

  -- ---- conversions

  module _ (has : HasLogic theory) (store : Store) (hosts : HostConversions) (over : IsStoreOver theory store) where
    -- an answer is good if it is no refusal for a limit: an equation of the small term that makes a small one
    good-of : {depth steps left : ℕ} {c : Conversion} {t : NamedTerm} (answer : Result Theorem Fault) → Converts theory store hosts depth steps c t answer left
        → IsSmallStep t answer → Fits answer → IsGood answer
    good-of {depth} {steps} {left} {c} {t} (Ok theorem) r small fits =
        let of = conversions-answer-equations hosts theory store depth steps left c t theorem r in
        let left_small : is_small (image of.sides.0) ≡ true = ap is_small of.same_left ∙ small.0 in
        record {
          left = λ sides is. let same = same_pair of.sides sides (sym of.is_equation ∙ is) in subst (λ (s : NamedTerm × NamedTerm). is_small (image s.0) ≡ true) same left_small;
          right = small.1;
        }
    good-of (Err fault) r small fits = fits

    as-is : (answer other : Result Theorem Fault) → answer ≡ other → Fits other → Fits answer
    as-is answer other is fits = subst (λ (a : Result Theorem Fault). Fits a) (sym is) fits

    mutual
      pub converts-good : {depth steps left : ℕ} {c : Conversion} {t : NamedTerm} {answer : Result Theorem Fault} → HasKnownRules theory c
          → (r : Converts theory store hosts depth steps c t answer left) → StaysSmall theory store hosts r → IsGood answer
      converts-good h (conv.no_step_is_left is) small = tt
      converts-good h (conv.all_converts {t}) small = refl-good t small.0
      converts-good h conv.no_converts small = tt
      converts-good h (conv.beta_converts {t} {answer} is) small = good-of {depth = 0} answer (conv.beta_converts {left = 0} is) small.0 (beta-fits t answer small.0.0 small.1 is)
      converts-good h (conv.theorem_is_unknown is) small = tt
      converts-good h (conv.has_no_rules {theorem} {fault} is refuses) small = rules-fit theorem fault small.1 refuses
      converts-good h (conv.theorem_rewrites {name} {theorem} {rules} {answer} is there made) small =
          good-of {depth = 0} answer (conv.theorem_rewrites {left = 0} is there made) small.0
          (rewrites-fits has made (rules-known theory has theorem rules (theorem-known theory has.legal theorem (over.named name theorem is)) there) small.0.0 small.1)
      converts-good h (conv.rules_rewrite {answer} made) small = good-of {depth = 0} answer (conv.rules_rewrite {left = 0} made) small.0 (rewrites-fits has made h small.0.0 small.1)
      converts-good h (conv.host_is_unknown lacks) small = tt
      converts-good h (conv.host_fails is fails) small = tt
      converts-good h (conv.host_converts {t} {answer} answered is says made) small =
          good-of {depth = 0} answer (conv.host_converts {left = 0} answered is says made) small.0 (host-fits store t answered answer small.1 made)
      converts-good h (conv.has_no_such_part lacks) small = tt
      converts-good h (conv.is_too_deep down deep) small = absurd small
      converts-good h (conv.argument_converts {f} {x} {part} {answer} room r is) small =
          good-of answer (conv.argument_converts room r is) small.0
          (as-is answer _ is (after-argument f part (small-parts (image f) (image x) small.0.0).0 (converts-good h r small.1)))
      converts-good h (conv.function_converts {f} {x} {part} {answer} room r is) small =
          good-of answer (conv.function_converts room r is) small.0
          (as-is answer _ is (after-function x part (small-parts (image f) (image x) small.0.0).1 (converts-good h r small.1)))
      converts-good h (conv.body_converts {name} {ty} {body} {part} {answer} room r is) small =
          good-of answer (conv.body_converts room r is) small.0
          (as-is answer _ is (after-body name ty part (small-binder-type ty (image_under ((name, ty) ∷ []) body) small.0.0) (converts-good h r small.1)))
      converts-good h (conv.same_without_parts {t} is) small = refl-good t small.0
      converts-good h (conv.first_part_is_refused room r) small = converts-good h r small.1
      converts-good h (conv.parts_convert {first} {second} {answer} room r s is) small =
          good-of answer (conv.parts_convert room r s is) small.0
          (as-is answer _ is (after-both first second (converts-good h r small.1) (converts-good h s small.2)))
      converts-good h (conv.only_part_converts r) small = converts-good h r small
      converts-good h (conv.first_is_refused r) small = converts-good h.0 r small
      converts-good h (conv.first_goes_on r s) small = converts_on-good h.1 s (converts-good h.0 r small.0) small.1
      converts-good h (conv.first_answers r) small = converts-good h.0 r small
      converts-good h (conv.first_is_not_caught r uncaught) small = converts-good h.0 r small
      converts-good h (conv.last_is_refused r) small = converts-good h.0 r small
      converts-good h (conv.first_is_caught r caught s) small = converts-good h.1 s small.1
      converts-good h (conv.converts_if_changed {t} {made} {answer} r is) small =
          subst (λ (a : Result Theorem Fault). IsGood a) (sym is) (after-change t made (converts-good h r small))
      converts-good h (conv.converts_as_defined {c} {d} is r) small = converts-good (definition-known c d is h) r small
      converts-good h (conv.finds_no_memory le) small = tt

      converts_on-good : {depth steps left : ℕ} {theorem : Theorem} {cs : Conversions} {answer : Result Theorem Fault} → HaveKnownRules theory cs
          → (r : ConvertsOn theory store hosts depth steps theorem cs answer left) → HasSmallSides theorem → GoesOnSmall theory store hosts r → IsGood answer
      converts_on-good h conv.ends sides small = sides
      converts_on-good h (conv.next_is_refused is r) sides small = converts-good h.0 r small
      converts_on-good h (conv.is_not_joined {theorem} {next} {fault} is r fails) sides small =
          subst (λ (a : Result Theorem Fault). IsGood a) fails (trans-good theorem next sides (converts-good h.0 r small))
      converts_on-good h (conv.is_joined {theorem} {next} {joined} is r joins s) sides small =
          converts_on-good h.1 s (subst (λ (a : Result Theorem Fault). IsGood a) joins (trans-good theorem next sides (converts-good h.0 r small.0))) small.1
      converts_on-good h (conv.goes_on_without_memory le) sides small = tt

pub small-conversions-fit : (hosts : HostConversions) → SmallConversionsFit hosts
small-conversions-fit hosts theory store depth steps left c t has over rules r small = converts-good theory has store hosts over rules r small
