-- The body of a universal theorem for a fresh variable.
use Rattle.std.proofs.Common.{◌≡◌, ℕ, List, [], ◌∷◌, ◌++◌, Bool, true, false, refl, sym, ◌∙◌, ap, subst, inr, Some, None, Result, Ok, Err, IfOk, if◌then◌else◌}
use Rattle.std.specs.List.{list_all}
use Rattle.hol_model.specs.declared.fault.Fault.{Fault}
use Rattle.hol_model.specs.Terms.HolType.{HolType, bool_type}
use Rattle.hol_model.specs.Terms.NamedTerm.{NamedTerm, variable, constant, combination, abstraction, type_of, same_variable, dest_abstraction}
use Rattle.hol_model.specs.Logic.NamedLogic.{is_constant_named, dest_forall}
use Rattle.hol_model.specs.Terms.Nameless.{Nameless, free, const, bound, app, lam, image}
use Rattle.hol_model.specs.Logic.Logic.{forall_name}
use Rattle.hol_model.specs.Terms.Substitution.{IsFirstFree, IsVariantOf, is_free_in_some, put, only, close, fill, with_new_name}
use Rattle.hol_model.specs.Logic.Theory.{Theory, IsKnown, IsKnownType, HasKnownParts}
use Rattle.hol_model.specs.Kernel.Theorem.{Theorem}
use Rattle.hol_model.specs.Kernel.Rules.{first_unknown}
use Rattle.hol_model.specs.Derived.DerivedRules.{Stated, AnswersStated, States, up_to_names, images, terms_of_theorem, is_roomy, stated_up_to_names, spec_outcome}
use Rattle.hol_model.specs.Terms.Measures.{nameless_within_limits}
use Rattle.hol_model.specs.Logic.Derivable.{IsSameSet, nameless_equation}
use Rattle.hol_model.specs.Rewrites.SmallTerms.{is_small}
use Rattle.hol_model.proofs.Terms.HolTypeEq.{type_eq-self}
use Rattle.hol_model.proofs.Terms.Images.{image-typed}
use Rattle.hol_model.proofs.Terms.Filling.{fill_at-close_at}
use Rattle.hol_model.proofs.Tests.{same_name, same_variable-type}
use Rattle.hol_journal.specs.Journal.{Recorded}
use Rattle.hol_equal.specs.Sequents.{Shows, DerivesIf, IsPast}
use Rattle.hol_equal.proofs.StepLemmas.{no_unknown}
use Rattle.hol_equal.proofs.Sizes.{past-room}
use Rattle.hol_quant.proofs.PartLemmas.{HasParts, has-parts}
use Rattle.hol_rewrite.specs.Rules.{IsFreshInstance, IsRenamed, are_small}
use Rattle.hol_rewrite.proofs.SmallParts.{IsSmallBody, small_bound, put-small, small_roomy, variable_roomy, body_roomy, roomy_more, roomy_small}
use Rattle.hol_rewrite.proofs.RoomSteps.{IsRoom, room_all, roomy_within, conclusion_small, small_again}

-- a variable put for itself
pub put-itself : (name : List ℕ) (ty : HolType) (term : Nameless) → put (only name ty (free name ty)) term ≡ term
put-itself name ty (free other s) = go (same_variable name ty other s) refl
  where
    go : (test : Bool) → same_variable name ty other s ≡ test → (if test then free name ty else free other s) ≡ free other s
    go true is = λ k. free (same_name name other ty s is k) (same_variable-type name other ty s is k)
    go false is = refl
put-itself name ty (const other s) = refl
put-itself name ty (bound index) = refl
put-itself name ty (app f x) = λ k. app (put-itself name ty f k) (put-itself name ty x k)
put-itself name ty (lam s body) = ap (λ b. lam s b) (put-itself name ty body)

-- a variant is a variable
pub record IsFreshVariable (avoid : List NamedTerm) (name : List ℕ) (ty : HolType) (term : NamedTerm) : Type 0 where
  pub fresh : List ℕ
  pub term_is : term ≡ variable fresh ty
  pub is_first : IsFirstFree (λ other. is_free_in_some avoid other ty) name fresh

fresh-at : (avoid : List NamedTerm) (name : List ℕ) (ty : HolType) (term : NamedTerm) → IsVariantOf avoid (variable name ty) term → IsFreshVariable avoid name ty term
fresh-at avoid name ty (variable n s) is = record { fresh = n; term_is = ap (variable n) is.1; is_first = is.0 }
fresh-at avoid name ty (constant n s) is = absurd is
fresh-at avoid name ty (combination f x) is = absurd is
fresh-at avoid name ty (abstraction n s b) is = absurd is

type-known : (theory : Theory) (formula quantifier function body : NamedTerm) (name : List ℕ) (ty : HolType) → formula ≡ combination quantifier function → function ≡ abstraction name ty body
    → IsKnown theory (image formula) bool_type → IsKnownType theory ty
type-known theory formula quantifier function body name ty is function_is known =
    let there : HasKnownParts theory (image (combination quantifier (abstraction name ty body))) = subst (λ (t : NamedTerm). HasKnownParts theory (image t))
    (is ∙ ap (combination quantifier) function_is) known.parts in
    there.1.0

variable-passes : (theory : Theory) (fresh : List ℕ) (ty : HolType) → IsKnownType theory ty → first_unknown theory (variable fresh ty) ≡ None
variable-passes theory fresh ty known = no_unknown theory (variable fresh ty) ty (record { typed = refl; parts = known })

-- the parts of the premise, the fresh variable, and what SPEC states for it
pub record IsStarted (theory : Theory) (hypotheses : List NamedTerm) (premise : Theorem) (binder body term : NamedTerm) : Type 0 where
  pub name : List ℕ
  pub ty : HolType
  pub fresh : List ℕ
  pub dest : dest_forall premise.conclusion ≡ Some (record { name = name; ty = ty; body = body })
  pub binder_is : binder ≡ variable name ty
  pub term_is : term ≡ variable fresh ty
  pub is_first : IsFirstFree (λ other. is_free_in_some (premise.conclusion ∷ hypotheses) other ty) name fresh
  pub body_type : HolType
  pub typed : type_of body ≡ Some body_type
  pub outcome : spec_outcome theory term premise ≡ stated_up_to_names (images premise) (put (only name ty (free fresh ty)) (image body))

spec-is : (theory : Theory) (premise : Theorem) (name fresh : List ℕ) (ty s : HolType) (body : NamedTerm)
    → dest_forall premise.conclusion ≡ Some (record { name = name; ty = ty; body = body }) → IsKnownType theory ty
    → type_of body ≡ Some s → spec_outcome theory (variable fresh ty) premise ≡ stated_up_to_names (images premise) (put (only name ty (free fresh ty)) (image body))
spec-is theory premise name fresh ty s body dest known typed =
    let first : spec_outcome theory (variable fresh ty) premise ≡ stated_up_to_names (images premise) (fill (free fresh ty) (close name ty (image body))) = rw
    (dest, type_eq-self ty, variable-passes theory fresh ty known) refl in
    first ∙ ap (stated_up_to_names (images premise)) (fill_at-close_at name ty (free fresh ty) (image body) [] s (image-typed body s typed))

pub started : (theory : Theory) (hypotheses avoid : List NamedTerm) (premise : Theorem) (formula quantifier function binder body term : NamedTerm) (s : HolType) → formula ≡ premise.conclusion
    → formula ≡ combination quantifier function → is_constant_named forall_name quantifier ≡ true → dest_abstraction function ≡ Some (binder, body)
    → IsKnown theory (image premise.conclusion) bool_type
    → type_of body ≡ Some s → avoid ≡ formula ∷ hypotheses → IsVariantOf avoid binder term → IsStarted theory hypotheses premise binder body term
started theory hypotheses avoid premise formula quantifier function binder body term s formula_is whole is_named dest known typed avoid_is variant =
    let parts : HasParts forall_name premise.conclusion function binder body = has-parts forall_name premise.conclusion quantifier function binder body (sym formula_is ∙ whole) is_named dest in
    let all : avoid ≡ premise.conclusion ∷ hypotheses = avoid_is ∙ ap (λ (t : NamedTerm). t ∷ hypotheses) formula_is in
    let v : IsVariantOf (premise.conclusion ∷ hypotheses) (variable parts.name parts.ty) term = subst (λ (b : NamedTerm). IsVariantOf (premise.conclusion ∷ hypotheses) b term)
    parts.binder_is (subst (λ (a : List NamedTerm). IsVariantOf a binder term) all variant) in
    let f = fresh-at (premise.conclusion ∷ hypotheses) parts.name parts.ty term v in
    let ty_known = type-known theory premise.conclusion quantifier function body parts.name parts.ty (sym formula_is ∙ whole) parts.function_is known in
    record {
      name = parts.name;
      ty = parts.ty;
      fresh = f.fresh;
      dest = parts.dest;
      binder_is = parts.binder_is;
      term_is = f.term_is;
      is_first = f.is_first;
      body_type = s;
      typed = typed;
      outcome = ap (λ (t : NamedTerm). spec_outcome theory t premise) f.term_is ∙ spec-is theory premise parts.name f.fresh parts.ty s body parts.dest ty_known typed;
    }

module _ (theory : Theory) (hypotheses : List NamedTerm) (premise : Theorem) (binder body term : NamedTerm) (at : IsStarted theory hypotheses premise binder body term) where
  abbrev instance : Nameless
  instance = put (only at.name at.ty (free at.fresh at.ty)) (image body)

  small-body : are_small premise ≡ true → IsSmallBody at.ty body
  small-body all = small_bound premise.conclusion (record { name = at.name; ty = at.ty; body = body }) at.body_type at.dest at.typed (conclusion_small premise all)

  small-instance : are_small premise ≡ true → is_small instance ≡ true
  small-instance all = put-small at.name at.fresh at.ty (image body) (small-body all).body_small

  instance-room : are_small premise ≡ true → IsRoom (image term ∷ terms_of_theorem premise) instance (images premise)
  instance-room all = record {
    arguments_fit = roomy_more (image term) (terms_of_theorem premise)
        (ap (λ (t : NamedTerm). is_roomy (image t)) at.term_is ∙ variable_roomy at.fresh at.ty (small-body all).type_small) (roomy_small (terms_of_theorem premise) all);
    conclusion_fits = small_roomy instance (small-instance all);
    hypotheses_fit = λ t m. roomy_small (terms_of_theorem premise) all t (inr m);
  }

  pub instance-past : (fault : Fault) → AnswersStated (Err fault) (image term ∷ terms_of_theorem premise) (spec_outcome theory term premise) → IsPast fault (are_small premise)
  instance-past fault answers =
      past-room fault (list_all is_roomy ((image term ∷ terms_of_theorem premise) ++ instance ∷ images premise)) (are_small premise)
      (subst (λ (o : Result Stated Fault). AnswersStated (Err fault) (image term ∷ terms_of_theorem premise) o) at.outcome answers)
      (λ all. room_all (image term ∷ terms_of_theorem premise) instance (images premise) (instance-room all))

  stays-small : (theorem : Theorem) → image theorem.conclusion ≡ instance → IsSameSet (images theorem) (images premise) → are_small premise ≡ true → are_small theorem ≡ true
  stays-small theorem is same all = small_again premise theorem same (ap is_small is ∙ small-instance all) all

  pub instance-states : (theorem : Theorem) (arguments : List Nameless) → AnswersStated (Ok theorem) arguments (spec_outcome theory term premise)
      → States (record { hypotheses = images premise; conclusion = up_to_names instance }) theorem
  instance-states theorem arguments answers = subst (λ (o : Result Stated Fault). AnswersStated (Ok theorem) arguments o) at.outcome answers

  -- the body with the fresh name
  abbrev renamed : NamedTerm
  renamed = with_new_name at.name at.ty at.fresh body

  pub is-renamed : (made : NamedTerm) → IsRenamed binder term body made → made ≡ renamed
  is-renamed made is = subst (λ (v : NamedTerm). IsRenamed (variable at.name at.ty) v body made) at.term_is (subst (λ (v : NamedTerm). IsRenamed v term body made) at.binder_is is)

  -- where a binder captures the fresh name
  pub captured-instance : (theorem : Theorem) (made : NamedTerm) → States (record { hypotheses = images premise; conclusion = up_to_names instance }) theorem → made ≡ renamed
      → (test : Bool) → (image made ≡ image theorem.conclusion → test ≡ true) → test ≡ false → IsFreshInstance hypotheses premise theorem
  captured-instance theorem made states made_is test same other = record {
    bound = record { name = at.name; ty = at.ty; body = body };
    dest = at.dest;
    fresh = at.fresh;
    is_fresh = at.is_first;
    instance = states.conclusion;
    keeps_names = λ is. let t : test ≡ true = same (ap image made_is ∙ is ∙ sym states.conclusion) in let no : true ≡ false = sym t ∙ other in cc;
    same_hypotheses = states.hypotheses;
    stays_small = stays-small theorem states.conclusion states.hypotheses;
  }

  -- where none does
  pub shows-renamed : (theorem : Theorem) (made : NamedTerm) → States (record { hypotheses = images premise; conclusion = up_to_names instance }) theorem
      → image made ≡ image theorem.conclusion → Shows theorem (images premise) (image made)
  shows-renamed theorem made states same = record { same_set = record { to = states.hypotheses.back; back = states.hypotheses.to }; concludes = sym same }

  pub renamed-room : (theorem : Theorem) (made : NamedTerm) → States (record { hypotheses = images premise; conclusion = up_to_names instance }) theorem
      → image made ≡ image theorem.conclusion → are_small premise ≡ true → nameless_within_limits (nameless_equation bool_type (image made) (image made)) ≡ true
  renamed-room theorem made states same all = roomy_within (nameless_equation bool_type (image made) (image made))
      (body_roomy made (ap is_small (same ∙ states.conclusion) ∙ small-instance all))

  pub named-instance : (result : Result Recorded Fault) (fits : Bool) (theorem : Theorem) (made : NamedTerm)
      → States (record { hypotheses = images premise; conclusion = up_to_names instance }) theorem → made ≡ renamed → image made ≡ image theorem.conclusion
      → IfOk result (λ answer. answer.theorem.conclusion ≡ made) → DerivesIf fits result (images premise) (image made)
      → IfOk result (λ answer. IsFreshInstance hypotheses premise answer.theorem)
  named-instance (Ok answer) fits theorem made states made_is same names shown = record {
    bound = record { name = at.name; ty = at.ty; body = body };
    dest = at.dest;
    fresh = at.fresh;
    is_fresh = at.is_first;
    instance = shown.concludes ∙ same ∙ states.conclusion;
    keeps_names = λ is. names ∙ made_is;
    same_hypotheses = record { to = shown.same_set.back; back = shown.same_set.to };
    stays_small = stays-small answer.theorem (shown.concludes ∙ same ∙ states.conclusion) (record { to = shown.same_set.back; back = shown.same_set.to });
  }
  named-instance (Err fault) fits theorem made states made_is same names shown = tt
