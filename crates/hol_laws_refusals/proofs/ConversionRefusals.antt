-- What a conversion on a known term is refused for is one of its refusals, and what it answers is known.
use Rattle.std.proofs.Common.{◌≡◌, ℕ, List, [], ◌∷◌, ◌++◌, Bool, true, false, not, refl, sym, ◌∙◌, ap, subst, inl, inr, Option, Some, None, Result, Ok, Err}
use Rattle.std.specs.Option.{is_some}
use Rattle.hol_model.specs.declared.fault.Fault.{Fault}
use Rattle.hol_model.specs.declared.fault.Fault.TheVariants.{Memory, TooLarge, TypeMismatch, NotEquation, NotAlpha, UnknownType, FreeInHypothesis, ConvFails, BadShape, InvalidStep}
use Rattle.hol_model.specs.Terms.HolType.{HolType, bool_type, function_type}
use Rattle.hol_model.specs.Terms.NamedTerm.{NamedTerm, variable, combination, abstraction, equation, type_of, is_within_limits}
use Rattle.hol_model.specs.Terms.Nameless.{Nameless, app, lam, HasType, image, nameless_type}
use Rattle.hol_model.specs.Terms.Substitution.{close}
use Rattle.hol_model.specs.Logic.Theory.{Theory, IsKnown, IsKnownType}
use Rattle.hol_model.specs.Logic.KnownTerm.{knows_type}
use Rattle.hol_model.specs.Logic.Derivable.{nameless_equation}
use Rattle.hol_model.specs.Logic.NamedLogic.{Abstracted, dest_redex}
use Rattle.hol_model.specs.Kernel.Outcome.{unless, given, refused}
use Rattle.hol_model.specs.Texts.Reading.{◌>>=◌}
use Rattle.hol_model.specs.Kernel.Theorem.{Theorem, are_alpha_equivalent, with_hypotheses}
use Rattle.hol_model.specs.Kernel.Rules.{dest_equation, first_unknown, concluded, is_free_in_hypotheses, refl_outcome, trans_outcome, mk_comb_outcome, abs_outcome}
use Rattle.hol_model.specs.Derived.DerivedRules.{AnswersStated, stated_with_left, body_with}
use Rattle.hol_model.specs.Rewrites.Rewriting.{Rewrites, none_matches, rewrites, instance_is_too_large, AnswersRules}
use Rattle.hol_model.specs.Goals.Replays.{Store, IsWant, IsStoreOver}
use Rattle.hol_model.specs.Refining.HostFunctions.{HostEquation, HostConversions, AnswersHostEquation, promised}
use Rattle.hol_model.specs.Refining.RefinerConditions.{HasLogic}
use Rattle.hol_model.specs.Refining.Conversions as conv
use Rattle.hol_model.specs.Refining.Conversions.{Conversion, Conversions, Converts, ConvertsOn, redex_outcome, binder_answer, of_body, of_parts, of_argument, of_function, if_changed, defined_as}
use Rattle.hol_model.proofs.Tests.{same_term-Decides}
use Rattle.hol_model.proofs.Logic.Known.{equation-known, app-known, close-known}
use Rattle.hol_model.proofs.Terms.Images.{image-type, image-abstraction}
use Rattle.hol_model.proofs.Terms.Typing.{one_type, nameless_type-is}
use Rattle.hol_model.proofs.Terms.TypeTests.{knows_type-Decides}
use Rattle.hol_laws_refiners.specs.Laws.{IsEquationOf}
use Rattle.hol_laws_refiners.proofs.Equations.{equation-sides, conversions-answer-equations}
use Rattle.hol_laws_refiners.proofs.FormulaParts.{equation-parts}
use Rattle.hol_laws_refiners.proofs.FillingKnown.{fill-known}
use Rattle.hol_laws_refusals.specs.Faults.{IsConversionFault}
use Rattle.hol_laws_refusals.specs.KnownRules.{AreKnownRules, HasKnownRules, HaveKnownRules}
use Rattle.hol_laws_refusals.specs.Laws.{ConversionsRefuse}
use Rattle.hol_laws_refusals.proofs.Known.{combination-parts, abstraction-parts, same_pair, no-unknown, theorem-known}
use Rattle.hol_laws_refusals.proofs.KnownInstances.{replaced-known}
use Rattle.hol_laws_refusals.proofs.KnownSequents.{sequent_of-known}
use Rattle.hol_laws_refusals.proofs.RulesOf.{rules-known}

-- ---- faults

pub fault-is : (fault same : Fault) → fault ≡ same → IsConversionFault same → IsConversionFault fault
fault-is fault same is listed = subst IsConversionFault (sym is) listed

pub want-listed : (fault : Fault) (room : Bool) → IsWant fault room → IsConversionFault fault
want-listed fault room (inl is) = fault-is fault Memory is tt
want-listed fault room (inr is) = fault-is fault TooLarge is.0 tt

pub rules-listed : (theorem : Theorem) (fault : Fault) → AnswersRules theorem (Err fault) → IsConversionFault fault
rules-listed theorem fault (inl is) = fault-is fault Memory is tt
rules-listed theorem fault (inr is) = fault-is fault TooLarge is.0 tt

module _ (theory : Theory) (has : HasLogic theory) where
  -- an equation of a term, with known sides of this type
  pub record IsKnownEquation (t : NamedTerm) (ty : HolType) (theorem : Theorem) : Type 0 where
    pub sides : NamedTerm × NamedTerm
    pub is_equation : dest_equation theorem.conclusion ≡ Some sides
    pub same_left : image sides.0 ≡ image t
    pub left : IsKnown theory (image sides.0) ty
    pub right : IsKnown theory (image sides.1) ty

  from-formula : (t : NamedTerm) (ty : HolType) (theorem : Theorem) → IsKnown theory (image t) ty → IsEquationOf t theorem → IsKnown theory (image theorem.conclusion) bool_type
      → IsKnownEquation t ty theorem
  from-formula t ty theorem known of formula =
      let parts = equation-parts theory has.legal theorem.conclusion of.sides of.is_equation formula in
      let left : IsKnown theory (image t) parts.ty = subst (λ (u : Nameless). IsKnown theory u parts.ty) of.same_left parts.left in
      let ty_is : parts.ty ≡ ty = one_type (image t) parts.ty ty left.typed known.typed in
      record {
        sides = of.sides;
        is_equation = of.is_equation;
        same_left = of.same_left;
        left = subst (λ (s : HolType). IsKnown theory (image of.sides.0) s) ty_is parts.left;
        right = subst (λ (s : HolType). IsKnown theory (image of.sides.1) s) ty_is parts.right;
      }

  -- a known equation of the term, or one of the refusals
  pub record IsFine (t : NamedTerm) (ty : HolType) (answer : Result Theorem Fault) : Type 0 where
    pub known : (theorem : Theorem) → answer ≡ Ok theorem → IsKnownEquation t ty theorem
    pub listed : (fault : Fault) → answer ≡ Err fault → IsConversionFault fault

  fine-ok : (t : NamedTerm) (ty : HolType) (theorem : Theorem) → IsKnownEquation t ty theorem → IsFine t ty (Ok theorem)
  fine-ok t ty theorem known = record { known = λ other is. let same : theorem ≡ other = cc in subst (IsKnownEquation t ty) same known; listed = λ fault is. cc }

  fine-err : (t : NamedTerm) (ty : HolType) (fault : Fault) → IsConversionFault fault → IsFine t ty (Err fault)
  fine-err t ty fault listed = record { known = λ theorem is. cc; listed = λ other is. let same : fault ≡ other = cc in subst IsConversionFault same listed }

  fine-as : (t : NamedTerm) (ty : HolType) (answer other : Result Theorem Fault) → answer ≡ other → IsFine t ty other → IsFine t ty answer
  fine-as t ty answer other is fine = subst (IsFine t ty) (sym is) fine

  -- what follows an answer about a part
  fine-then : (part : NamedTerm) (s : HolType) (t : NamedTerm) (ty : HolType) (answer : Result Theorem Fault) (next : Theorem → Result Theorem Fault) → IsFine part s answer
      → ((theorem : Theorem) → IsKnownEquation part s theorem → IsFine t ty (next theorem)) → IsFine t ty (answer >>= next)
  fine-then part s t ty (Ok theorem) next fine after = after theorem (fine.known theorem refl)
  fine-then part s t ty (Err fault) next fine after = fine-err t ty fault (fine.listed fault refl)

  fine-unless : (t : NamedTerm) (ty : HolType) (test : Bool) (fault : Fault) (next : Result Theorem Fault) → IsConversionFault fault → IsFine t ty next → IsFine t ty (unless test fault next)
  fine-unless t ty true fault next listed fine = fine
  fine-unless t ty false fault next listed fine = fine-err t ty fault listed

  -- a test that passes, a value that is there, a refusal that is not
  fine-passed : (t : NamedTerm) (ty : HolType) (test : Bool) (fault : Fault) (next : Result Theorem Fault) → test ≡ true → IsFine t ty next → IsFine t ty (unless test fault next)
  fine-passed t ty true fault next passed fine = fine
  fine-passed t ty false fault next passed fine = cc

  fine-given : {A : Type 0} (t : NamedTerm) (ty : HolType) (found : Option A) (x : A) (fault : Fault) (next : A → Result Theorem Fault) → found ≡ Some x → IsFine t ty (next x)
      → IsFine t ty (given found fault next)
  fine-given {A = A} t ty found x fault next is fine = subst (λ (o : Option A). IsFine t ty (given o fault next)) (sym is) fine

  fine-refused : (t : NamedTerm) (ty : HolType) (found : Option Fault) (next : Result Theorem Fault) → found ≡ None → IsFine t ty next → IsFine t ty (refused found next)
  fine-refused t ty None next is fine = fine
  fine-refused t ty (Some fault) next is fine = cc

  -- an equation, where it is within the limits
  fine-concluded : (t : NamedTerm) (ty : HolType) (hypotheses : List NamedTerm) (l r : NamedTerm) → image l ≡ image t → IsKnown theory (image l) ty → IsKnown theory (image r) ty
      → IsFine t ty (concluded theory hypotheses (equation l r))
  fine-concluded t ty hypotheses l r same left right =
      fine-unless t ty (is_within_limits (equation l r)) TooLarge _ tt (fine-ok t ty _ (record { sides = (l, r); is_equation = equation-sides l r; same_left = same; left = left; right = right }))

  -- ---- rules

  refl-fine : (t : NamedTerm) (ty : HolType) → IsKnown theory (image t) ty → IsFine t ty (refl_outcome theory t)
  refl-fine t ty known = fine-refused t ty (first_unknown theory t) _ (no-unknown theory t ty known) (fine-concluded t ty [] t t refl known known)

  trans-fine : (t middle : NamedTerm) (ty : HolType) (a b : Theorem) (first : IsKnownEquation t ty a) (second : IsKnownEquation middle ty b) → image first.sides.1 ≡ image middle
      → IsFine t ty (trans_outcome theory a b)
  trans-fine t middle ty a b first second same =
      fine-given t ty (dest_equation a.conclusion) first.sides NotEquation _ first.is_equation
      (fine-given t ty (dest_equation b.conclusion) second.sides NotEquation _ second.is_equation
      (fine-passed t ty (are_alpha_equivalent first.sides.1 second.sides.0) NotAlpha _ ((same_term-Decides (image first.sides.1) (image second.sides.0)).1 (same ∙ sym second.same_left))
      (fine-concluded t ty (with_hypotheses a.hypotheses b.hypotheses) first.sides.0 second.sides.1 first.same_left first.left second.right)))

  mk_comb-fine : (f x : NamedTerm) (domain ty : HolType) (a b : Theorem) → IsKnownEquation f (function_type domain ty) a → IsKnownEquation x domain b
      → IsFine (combination f x) ty (mk_comb_outcome theory a b)
  mk_comb-fine f x domain ty a b first second =
      let t : NamedTerm = combination f x in
      let left : IsKnown theory (image (combination first.sides.0 second.sides.0)) ty = app-known theory domain ty (image first.sides.0) (image second.sides.0) first.left second.left in
      let right : IsKnown theory (image (combination first.sides.1 second.sides.1)) ty = app-known theory domain ty (image first.sides.1) (image second.sides.1) first.right second.right in
      fine-given t ty (dest_equation a.conclusion) first.sides NotEquation _ first.is_equation
      (fine-given t ty (dest_equation b.conclusion) second.sides NotEquation _ second.is_equation
      (fine-passed t ty (is_some (type_of (combination first.sides.0 second.sides.0))) TypeMismatch _ (ap is_some (image-type (combination first.sides.0 second.sides.0) ty left.typed))
      (fine-concluded t ty (with_hypotheses a.hypotheses b.hypotheses) (combination first.sides.0 second.sides.0) (combination first.sides.1 second.sides.1)
      (λ i. app (first.same_left i) (second.same_left i)) left right)))

  abstracted-known : (name : List ℕ) (ty s : HolType) (body : NamedTerm) → IsKnownType theory ty → IsKnown theory (image body) s
      → IsKnown theory (image (abstraction name ty body)) (function_type ty s)
  abstracted-known name ty s body binder known =
      subst (λ (t : Nameless). IsKnown theory t (function_type ty s)) (sym (image-abstraction name ty body)) (close-known theory name ty s (image body) binder known)

  -- a variable that is free in a hypothesis is a refusal of the conversion
  binder-fine : (t : NamedTerm) (ty : HolType) (test fits : Bool) (theorem : Theorem) → IsKnownEquation t ty theorem
      → IsFine t ty (binder_answer (unless test FreeInHypothesis (unless fits TooLarge (Ok theorem))))
  binder-fine t ty false fits theorem known = fine-err t ty ConvFails tt
  binder-fine t ty true false theorem known = fine-err t ty TooLarge tt
  binder-fine t ty true true theorem known = fine-ok t ty theorem known

  abs-fine : (name : List ℕ) (ty s : HolType) (body : NamedTerm) (a : Theorem) → IsKnownType theory ty → IsKnownEquation body s a
      → IsFine (abstraction name ty body) (function_type ty s) (binder_answer (abs_outcome theory (variable name ty) a))
  abs-fine name ty s body a binder known = by_tests (dest_equation a.conclusion) known.is_equation (knows_type theory ty) ((knows_type-Decides theory ty).1 binder)
    where
      t : NamedTerm
      t = abstraction name ty body

      l : NamedTerm
      l = abstraction name ty known.sides.0

      r : NamedTerm
      r = abstraction name ty known.sides.1

      same : image l ≡ image t
      same = image-abstraction name ty known.sides.0 ∙ ap (λ b. lam ty (close name ty b)) known.same_left ∙ sym (image-abstraction name ty body)

      by_tests : (found : Option (NamedTerm × NamedTerm)) → found ≡ Some known.sides → (there : Bool) → there ≡ true
          → IsFine t (function_type ty s) (binder_answer (given found NotEquation (λ sides. unless there UnknownType (unless (not (is_free_in_hypotheses name ty a.hypotheses)) FreeInHypothesis
          (concluded theory a.hypotheses (equation (abstraction name ty sides.0) (abstraction name ty sides.1)))))))
      by_tests None is there passed = cc
      by_tests (Some sides) is false passed = cc
      by_tests (Some sides) is true passed =
          let sides_are : known.sides ≡ sides = cc in
          subst (λ (p : NamedTerm × NamedTerm). IsFine t (function_type ty s) (binder_answer (unless (not (is_free_in_hypotheses name ty a.hypotheses)) FreeInHypothesis
          (concluded theory a.hypotheses (equation (abstraction name ty p.0) (abstraction name ty p.1)))))) sides_are
          (binder-fine t (function_type ty s) (not (is_free_in_hypotheses name ty a.hypotheses)) (is_within_limits (equation l r)) _ (record {
            sides = (l, r);
            is_equation = equation-sides l r;
            same_left = same;
            left = abstracted-known name ty s known.sides.0 binder known.left;
            right = abstracted-known name ty s known.sides.1 binder known.right;
          }))

  changed-fine : (t : NamedTerm) (ty : HolType) (made : Result Theorem Fault) → IsFine t ty made → IsFine t ty (if_changed t made)
  changed-fine t ty made fine = fine-then t ty t ty made _ fine (λ theorem known. by_sides (dest_equation theorem.conclusion) theorem known)
    where
      by_sides : (found : Option (NamedTerm × NamedTerm)) (theorem : Theorem) → IsKnownEquation t ty theorem
          → IsFine t ty (given found ConvFails (λ sides. unless (not (are_alpha_equivalent sides.1 t)) ConvFails (Ok theorem)))
      by_sides None theorem known = fine-err t ty ConvFails tt
      by_sides (Some sides) theorem known = fine-unless t ty (not (are_alpha_equivalent sides.1 t)) ConvFails (Ok theorem) tt (fine-ok t ty theorem known)

  -- ---- conversions without parts

  -- what such a conversion answers is a known formula, or one of the refusals
  record IsFormulaOrFault (answer : Result Theorem Fault) : Type 0 where
    known : (theorem : Theorem) → answer ≡ Ok theorem → IsKnown theory (image theorem.conclusion) bool_type
    listed : (fault : Fault) → answer ≡ Err fault → IsConversionFault fault

  formula : (theorem : Theorem) → IsKnown theory (image theorem.conclusion) bool_type → IsFormulaOrFault (Ok theorem)
  formula theorem known = record {
    known = λ other is. let same : theorem ≡ other = cc in subst (λ (t : Theorem). IsKnown theory (image t.conclusion) bool_type) same known;
    listed = λ fault is. cc;
  }

  fault : (refusal : Fault) → IsConversionFault refusal → IsFormulaOrFault (Err refusal)
  fault refusal listed = record { known = λ theorem is. cc; listed = λ other is. let same : refusal ≡ other = cc in subst IsConversionFault same listed }

  redex-known : (t : NamedTerm) (redex : Abstracted × NamedTerm) (ty : HolType) → dest_redex t ≡ Some redex → IsKnown theory (image t) ty → IsKnown theory (body_with redex.0 redex.1) ty
  redex-known (combination (abstraction name s body) argument) redex ty dest known =
      let found : Abstracted × NamedTerm = (record { name = name; ty = s; body = body }, argument) in
      let same : found ≡ redex = cc in
      let parts = combination-parts theory (abstraction name s body) argument ty known in
      let function : IsKnown theory (lam s (close name s (image body))) (function_type parts.domain ty) =
      subst (λ (t : Nameless). IsKnown theory t (function_type parts.domain ty)) (image-abstraction name s body) parts.function in
      let domain : s ≡ parts.domain = cc in
      let codomain : function.typed.0 ≡ ty = cc in
      subst (λ (r : Abstracted × NamedTerm). IsKnown theory (body_with r.0 r.1) ty) same
      (fill-known theory (image argument) s ty (close name s (image body)) (subst (λ (a : HolType). IsKnown theory (image argument) a) (sym domain) parts.argument)
      (subst (λ (a : HolType). HasType (s ∷ []) (close name s (image body)) a) codomain function.typed.1) function.parts.1)
  redex-known _ redex ty dest known = cc

  beta-fine : (t : NamedTerm) (ty : HolType) → IsKnown theory (image t) ty → (answer : Result Theorem Fault) → AnswersStated answer (image t ∷ []) (redex_outcome theory t) → IsFormulaOrFault answer
  beta-fine t ty known answer answers = go (dest_redex t) refl (first_unknown theory t) (no-unknown theory t ty known) answer answers
    where
      s : HolType
      s = nameless_type [] (image t)

      known_so : IsKnown theory (image t) s
      known_so = subst (λ (a : HolType). IsKnown theory (image t) a) (sym (nameless_type-is (image t) [] ty known.typed)) known

      go : (found : Option (Abstracted × NamedTerm)) → dest_redex t ≡ found → (unknown : Option Fault) → unknown ≡ None → (answer : Result Theorem Fault)
          → AnswersStated answer (image t ∷ []) (unless (is_some found) ConvFails (given found BadShape (λ redex. refused unknown
          (stated_with_left [] t (nameless_equation (nameless_type [] (image t)) (image t) (body_with redex.0 redex.1)))))) → IsFormulaOrFault answer
      go None is unknown absent (Ok theorem) answers = absurd answers
      go None is unknown absent (Err refusal) (inl same) = fault refusal (fault-is refusal Memory same tt)
      go None is unknown absent (Err refusal) (inr same) = fault refusal (fault-is refusal ConvFails same tt)
      go (Some redex) is (Some other) absent answer answers = cc
      go (Some redex) is None absent (Ok theorem) answers =
          formula theorem (subst (λ (u : Nameless). IsKnown theory u bool_type) (sym answers.conclusion.0)
          (equation-known theory has.legal s (image t) (body_with redex.0 redex.1) known_so (redex-known t redex s is known_so)))
      go (Some redex) is None absent (Err refusal) (inl same) = fault refusal (fault-is refusal Memory same tt)
      go (Some redex) is None absent (Err refusal) (inr same) = fault refusal (fault-is refusal TooLarge same.0 tt)

  one-of-rules : (before after : List Theorem) (rule : Theorem) → AreKnownRules theory (before ++ rule ∷ after) → IsKnown theory (image rule.conclusion) bool_type
  one-of-rules [] after rule known = known.0
  one-of-rules (other ∷ before) after rule known = one-of-rules before after rule known.1

  rewrites-fine : {rules : List Theorem} {t : NamedTerm} {answer : Result Theorem Fault} → Rewrites rules t answer → (ty : HolType) → IsKnown theory (image t) ty
      → AreKnownRules theory rules → IsFormulaOrFault answer
  rewrites-fine (none_matches none) ty known rules = fault _ tt
  rewrites-fine {t = t} (rewrites {rule} {theorem} {by} first fits made) ty known rules =
      let rule_known = one-of-rules first.before first.after rule (subst (AreKnownRules theory) first.is_there rules) in
      formula theorem (subst (λ (u : Nameless). IsKnown theory u bool_type) (sym made.conclusion)
      (replaced-known theory _ first.applies.sides.0 t by ty (image rule.conclusion) first.applies.matches known rule_known))
  rewrites-fine (instance_is_too_large first fits) ty known rules = fault _ tt

  host-fine : (store : Store) (t : NamedTerm) (answered : HostEquation) (answer : Result Theorem Fault) → IsStoreOver theory store
      → AnswersHostEquation theory store t answered answer → IsFormulaOrFault answer
  host-fine store t answered (Ok theorem) over answers =
      formula theorem (subst (λ (u : Nameless). IsKnown theory u bool_type) (sym answers.1.conclusion)
      (sequent_of-known theory has store over answered.justification (promised t answered) answers.0))
  host-fine store t answered (Err refusal) over (inl is) = fault refusal (fault-is refusal InvalidStep is.0 tt)
  host-fine store t answered (Err refusal) over (inr want) = fault refusal (want-listed refusal _ want)

  -- ---- conversions that stand for others

  abbrev KnownIn : Option Conversion → Type 0
  KnownIn None = Unit {0}
  KnownIn (Some c) = HasKnownRules theory c

  defined-known : (c : Conversion) → HasKnownRules theory c → KnownIn (defined_as c)
  defined-known (conv.repeatc c) h = ((h, (h, tt)), (tt, tt))
  defined-known (conv.try_conv c) h = (h, (tt, tt))
  defined-known (conv.depth_conv c) h = (h, (h, tt))
  defined-known (conv.once_depth_conv c) h = (h, (h, (tt, tt)))
  defined-known (conv.top_depth_conv c) h = (h, ((h, ((h, (h, tt)), tt)), tt))
  defined-known _ h = tt

  definition-known : (c d : Conversion) → defined_as c ≡ Some d → HasKnownRules theory c → HasKnownRules theory d
  definition-known c d is h = subst KnownIn is (defined-known c h)

  -- ---- conversions

  module _ (store : Store) (hosts : HostConversions) (over : IsStoreOver theory store) where
    -- what a conversion answers, where that is a known formula or one of the refusals
    fine-formula : {depth steps left : ℕ} {c : Conversion} {t : NamedTerm} {answer : Result Theorem Fault} → Converts theory store hosts depth steps c t answer left
        → (ty : HolType) → IsKnown theory (image t) ty → IsFormulaOrFault answer → IsFine t ty answer
    fine-formula {depth} {steps} {left} {c} {t} {answer} r ty known either = record {
      known = λ theorem is. from-formula t ty theorem known
          (conversions-answer-equations hosts theory store depth steps left c t theorem (subst (λ (a : Result Theorem Fault). Converts theory store hosts depth steps c t a left) is r))
          (either.known theorem is);
      listed = either.listed;
    }

    mutual
      pub converts-fine : {depth steps left : ℕ} {c : Conversion} {t : NamedTerm} {answer : Result Theorem Fault} → Converts theory store hosts depth steps c t answer left
          → (ty : HolType) → HasKnownRules theory c → IsKnown theory (image t) ty → IsFine t ty answer
      converts-fine (conv.no_step_is_left {t} is) ty h k = fine-err t ty _ tt
      converts-fine (conv.all_converts {t}) ty h k = refl-fine t ty k
      converts-fine (conv.no_converts {t}) ty h k = fine-err t ty _ tt
      converts-fine (conv.beta_converts {t} {answer} is) ty h k = fine-formula {depth = 0} (conv.beta_converts {left = 0} is) ty k (beta-fine t ty k answer is)
      converts-fine (conv.theorem_is_unknown {t} is) ty h k = fine-err t ty _ tt
      converts-fine (conv.has_no_rules {t} {theorem} {fault} is refuses) ty h k = fine-err t ty fault (rules-listed theorem fault refuses)
      converts-fine (conv.theorem_rewrites {name} {t} {theorem} {rules} is there made) ty h k =
          fine-formula {depth = 0} (conv.theorem_rewrites {left = 0} is there made) ty k
          (rewrites-fine made ty k (rules-known theory has theorem rules (theorem-known theory has.legal theorem (over.named name theorem is)) there))
      converts-fine (conv.rules_rewrite made) ty h k = fine-formula {depth = 0} (conv.rules_rewrite {left = 0} made) ty k (rewrites-fine made ty k h)
      converts-fine (conv.host_is_unknown {t} lacks) ty h k = fine-err t ty _ tt
      converts-fine (conv.host_fails {t} is fails) ty h k = fine-err t ty _ tt
      converts-fine (conv.host_converts {t} {answer} answered is says made) ty h k =
          fine-formula {depth = 0} (conv.host_converts {left = 0} answered is says made) ty k (host-fine store t answered answer over made)
      converts-fine (conv.has_no_such_part {t} lacks) ty h k = fine-err t ty _ tt
      converts-fine (conv.is_too_deep {t} down deep) ty h k = fine-err t ty _ tt
      converts-fine (conv.argument_converts {f} {x} {part} {answer} room r is) ty h k =
          let parts = combination-parts theory f x ty k in
          let arrow : HolType = function_type parts.domain ty in
          fine-as (combination f x) ty answer _ is (fine-then x parts.domain (combination f x) ty part _ (converts-fine r parts.domain h parts.argument) (λ second b.
          fine-then f arrow (combination f x) ty (refl_outcome theory f) _ (refl-fine f arrow parts.function) (λ first a. mk_comb-fine f x parts.domain ty first second a b)))
      converts-fine (conv.function_converts {f} {x} {part} {answer} room r is) ty h k =
          let parts = combination-parts theory f x ty k in
          let arrow : HolType = function_type parts.domain ty in
          fine-as (combination f x) ty answer _ is (fine-then f arrow (combination f x) ty part _ (converts-fine r arrow h parts.function) (λ first a.
          fine-then x parts.domain (combination f x) ty (refl_outcome theory x) _ (refl-fine x parts.domain parts.argument) (λ second b. mk_comb-fine f x parts.domain ty first second a b)))
      converts-fine (conv.body_converts {name} {ty = binder} {body} {part} {answer} room r is) ty h k =
          let inside = abstraction-parts theory name binder ty body k in
          let t : NamedTerm = abstraction name binder body in
          let ty_is : function_type binder inside.codomain ≡ ty = inside.whole in
          subst (λ (s : HolType). IsFine t s answer) ty_is
          (fine-as t (function_type binder inside.codomain) answer _ is
          (fine-then body inside.codomain t (function_type binder inside.codomain) part _ (converts-fine r inside.codomain h inside.known) (λ theorem a.
          abs-fine name binder inside.codomain body theorem inside.binder a)))
      converts-fine (conv.same_without_parts {t} is) ty h k = refl-fine t ty k
      converts-fine (conv.first_part_is_refused {f} {x} {fault} room r) ty h k =
          let parts = combination-parts theory f x ty k in
          fine-err (combination f x) ty fault ((converts-fine r (function_type parts.domain ty) h parts.function).listed fault refl)
      converts-fine (conv.parts_convert {f} {x} {first} {second} {answer} room r s is) ty h k =
          let parts = combination-parts theory f x ty k in
          let arrow : HolType = function_type parts.domain ty in
          let a = (converts-fine r arrow h parts.function).known first refl in
          fine-as (combination f x) ty answer _ is (fine-then x parts.domain (combination f x) ty second _ (converts-fine s parts.domain h parts.argument)
          (λ other b. mk_comb-fine f x parts.domain ty first other a b))
      converts-fine (conv.only_part_converts r) ty h k = converts-fine r ty h k
      converts-fine (conv.first_is_refused r) ty h k = converts-fine r ty h.0 k
      converts-fine (conv.first_goes_on {t} {theorem} r s) ty h k = converts_on-fine s t ty h.1 ((converts-fine r ty h.0 k).known theorem refl)
      converts-fine (conv.first_answers r) ty h k = converts-fine r ty h.0 k
      converts-fine (conv.first_is_not_caught r passes) ty h k = converts-fine r ty h.0 k
      converts-fine (conv.last_is_refused r) ty h k = converts-fine r ty h.0 k
      converts-fine (conv.first_is_caught r caught s) ty h k = converts-fine s ty h.1 k
      converts-fine (conv.converts_if_changed {t} {made} {answer} r is) ty h k = fine-as t ty answer _ is (changed-fine t ty made (converts-fine r ty h k))
      converts-fine (conv.converts_as_defined {c} {d} is r) ty h k = converts-fine r ty (definition-known c d is h) k
      converts-fine (conv.finds_no_memory {t} le) ty h k = fine-err t ty _ tt

      converts_on-fine : {depth steps left : ℕ} {theorem : Theorem} {cs : Conversions} {answer : Result Theorem Fault} → ConvertsOn theory store hosts depth steps theorem cs answer left
          → (t : NamedTerm) (ty : HolType) → HaveKnownRules theory cs → IsKnownEquation t ty theorem → IsFine t ty answer
      converts_on-fine (conv.ends {theorem}) t ty h a = fine-ok t ty theorem a
      converts_on-fine (conv.next_is_refused {sides} {fault} is r) t ty h a =
          let same = same_pair a.sides sides (sym a.is_equation ∙ is) in
          let right : IsKnown theory (image sides.1) ty = subst (λ (s : NamedTerm × NamedTerm). IsKnown theory (image s.1) ty) same a.right in
          fine-err t ty fault ((converts-fine r ty h.0 right).listed fault refl)
      converts_on-fine (conv.is_not_joined {theorem} {next} {sides} {fault} is r fails) t ty h a =
          let same = same_pair a.sides sides (sym a.is_equation ∙ is) in
          let right : IsKnown theory (image sides.1) ty = subst (λ (s : NamedTerm × NamedTerm). IsKnown theory (image s.1) ty) same a.right in
          let b = (converts-fine r ty h.0 right).known next refl in
          fine-as t ty (Err fault) _ (sym fails) (trans-fine t sides.1 ty theorem next a b (ap (λ (s : NamedTerm × NamedTerm). image s.1) same))
      converts_on-fine (conv.is_joined {theorem} {next} {joined} {sides} is r made s) t ty h a =
          let same = same_pair a.sides sides (sym a.is_equation ∙ is) in
          let right : IsKnown theory (image sides.1) ty = subst (λ (s : NamedTerm × NamedTerm). IsKnown theory (image s.1) ty) same a.right in
          let b = (converts-fine r ty h.0 right).known next refl in
          converts_on-fine s t ty h.1 ((trans-fine t sides.1 ty theorem next a b (ap (λ (s : NamedTerm × NamedTerm). image s.1) same)).known joined made)
      converts_on-fine (conv.goes_on_without_memory le) t ty h a = fine-err t ty _ tt

pub conversions-refuse : (hosts : HostConversions) → ConversionsRefuse hosts
conversions-refuse hosts theory store depth steps left c t ty fault has over rules known r = (converts-fine theory has store hosts over r ty rules known).listed fault refl
