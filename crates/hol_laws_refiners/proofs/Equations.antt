-- What a conversion answers on a term is an equation of the term.
use Rattle.std.proofs.Common.{◌≡◌, ℕ, List, [], ◌∷◌, Bool, true, false, not, refl, sym, ◌∙◌, ap, subst, Option, Some, None, Result, Ok, Err, if◌then◌else◌}
use Rattle.std.specs.Option.{is_some}
use Rattle.std.specs.Str.{bytes_eq}
use Rattle.std.proofs.lemmas.Slice.Eq.{bytes_eq-Decides}
use Rattle.hol_model.specs.declared.fault.Fault.{Fault}
use Rattle.hol_model.specs.declared.fault.Fault.TheVariants.{TooLarge, NotEquation, NotAlpha, TypeMismatch, UnknownType, FreeInHypothesis, ConvFails, BadShape, NoMatch}
use Rattle.hol_model.specs.Terms.HolType.{HolType, bool_type}
use Rattle.hol_model.specs.Terms.NamedTerm.{NamedTerm, variable, constant, combination, abstraction, equality, equation, type_of, is_within_limits}
use Rattle.hol_model.specs.Terms.Nameless.{Nameless, const, app, lam, image, nameless_type}
use Rattle.hol_model.specs.Terms.Substitution.{close}
use Rattle.hol_model.specs.Logic.Theory.{Theory, IsKnown, equality_name}
use Rattle.hol_model.specs.Logic.KnownTerm.{knows_type}
use Rattle.hol_model.specs.Logic.Derivable.{nameless_equation}
use Rattle.hol_model.specs.Logic.NamedLogic.{Abstracted, dest_redex}
use Rattle.hol_model.specs.Kernel.Outcome.{unless, given, refused}
use Rattle.hol_model.specs.Texts.Reading.{◌>>=◌}
use Rattle.hol_model.specs.Kernel.Theorem.{Theorem, are_alpha_equivalent}
use Rattle.hol_model.specs.Kernel.Rules.{dest_equation, first_unknown, is_free_in_hypotheses, refl_outcome, trans_outcome, mk_comb_outcome, abs_outcome}
use Rattle.hol_model.specs.Derived.DerivedRules.{Stated, AnswersStated, stated_with_left, body_with}
use Rattle.hol_model.proofs.Terms.Images.{image-abstraction}
use Rattle.hol_model.proofs.Logic.Later.{Derivable-earlier}
use Rattle.hol_model.proofs.Logic.Known.{Derivable-known}
use Rattle.hol_model.proofs.Terms.Typing.{one_type}
use Rattle.hol_model.specs.Goals.Replays.{Store}
use Rattle.hol_model.specs.Rewrites.Rewriting.{Rewrites, none_matches, rewrites, instance_is_too_large, replaced, IsRewritten, Applies}
use Rattle.hol_model.specs.Refining.HostFunctions.{HostEquation, AnswersHostEquation, HostConversions}
use Rattle.hol_model.specs.Refining.Conversions.{Conversion, Conversions, Converts, ConvertsOn, redex_outcome, binder_answer, of_body, of_parts, of_argument, of_function, if_changed}
use Rattle.hol_model.specs.Refining.Conversions.{no_step_is_left, all_converts, no_converts, beta_converts, theorem_is_unknown, has_no_rules, theorem_rewrites, rules_rewrite, host_is_unknown}
use Rattle.hol_model.specs.Refining.Conversions.{host_fails, host_converts, has_no_such_part, is_too_deep, argument_converts, function_converts, body_converts, same_without_parts}
use Rattle.hol_model.specs.Refining.Conversions.{first_part_is_refused, parts_convert, only_part_converts, first_is_refused, first_goes_on, first_answers, first_is_not_caught, last_is_refused}
use Rattle.hol_model.specs.Refining.Conversions.{first_is_caught, converts_if_changed, converts_as_defined, finds_no_memory, ends, next_is_refused, is_not_joined, is_joined}
use Rattle.hol_model.specs.Refining.Conversions.{goes_on_without_memory}
use Rattle.hol_laws_refiners.specs.Laws.{IsEquationOf, ConversionsAnswerEquations, EquationsOfTargets}
use Rattle.hol_laws_refiners.proofs.FormulaParts.{equation-parts}

-- ---- equations and their images

pub equation-sides : (l r : NamedTerm) → dest_equation (equation l r) ≡ Some (l, r)
equation-sides l r = go (type_of l)
  where
    go : (ty : Option HolType) → dest_equation (combination (combination (equality ty) l) r) ≡ Some (l, r)
    go None = refl
    go (Some ty) = refl

-- the image of an equation
record HasEqualityImage (c : NamedTerm) (sides : NamedTerm × NamedTerm) : Type 0 where
  ty : HolType
  same : image c ≡ app (app (const equality_name ty) (image sides.0)) (image sides.1)

equation-image : (c : NamedTerm) (sides : NamedTerm × NamedTerm) → dest_equation c ≡ Some sides → HasEqualityImage c sides
equation-image (combination (combination (constant other ty) a) b) sides dest = go (bytes_eq other equality_name) refl dest
  where
    go : (test : Bool) → bytes_eq other equality_name ≡ test → if◌then◌else◌ {A = Option (NamedTerm × NamedTerm)} test (Some (a, b)) None ≡ Some sides
        → HasEqualityImage (combination (combination (constant other ty) a) b) sides
    go false tested dest = cc
    go true tested dest =
        let name_is : other ≡ equality_name = (bytes_eq-Decides other equality_name).0 tested in
        let found : NamedTerm × NamedTerm = (a, b) in
        let same : found ≡ sides = cc in
        record { ty = ty; same = λ i. app (app (const (name_is i) ty) (image ((same i).0))) (image ((same i).1)) }
equation-image (combination (combination (variable other ty) a) b) sides dest = cc
equation-image (combination (combination (combination f x) a) b) sides dest = cc
equation-image (combination (combination (abstraction other ty x) a) b) sides dest = cc
equation-image (combination (variable other ty) b) sides dest = cc
equation-image (combination (constant other ty) b) sides dest = cc
equation-image (combination (abstraction other ty x) b) sides dest = cc
equation-image (variable other ty) sides dest = cc
equation-image (constant other ty) sides dest = cc
equation-image (abstraction other ty x) sides dest = cc

-- a term with such an image is an equation
record HasSides (c : NamedTerm) (a : Nameless) : Type 0 where
  sides : NamedTerm × NamedTerm
  is_equation : dest_equation c ≡ Some sides
  same_left : image sides.0 ≡ a

image-equation : (c : NamedTerm) (s : HolType) (a b : Nameless) → image c ≡ app (app (const equality_name s) a) b → HasSides c a
image-equation (combination (combination (constant other ty) x) y) s a b is =
    let name_is : other ≡ equality_name = cc in
    let test : bytes_eq other equality_name ≡ true = (bytes_eq-Decides other equality_name).1 name_is in
    let left_is : image x ≡ a = cc in
    record { sides = (x, y); is_equation = rw test refl; same_left = left_is }
image-equation (combination (combination (variable other ty) x) y) s a b is = cc
image-equation (combination (combination (combination f g) x) y) s a b is = cc
image-equation (combination (combination (abstraction other ty g) x) y) s a b is = cc
image-equation (combination (variable other ty) y) s a b is = cc
image-equation (combination (constant other ty) y) s a b is = cc
image-equation (combination (abstraction other ty g) y) s a b is = cc
image-equation (variable other ty) s a b is = cc
image-equation (constant other ty) s a b is = cc
image-equation (abstraction other ty g) s a b is = cc

from-image : (t : NamedTerm) (theorem : Theorem) (s : HolType) (b : Nameless) → image theorem.conclusion ≡ app (app (const equality_name s) (image t)) b → IsEquationOf t theorem
from-image t theorem s b is =
    let found = image-equation theorem.conclusion s (image t) b is in
    record { sides = found.sides; is_equation = found.is_equation; same_left = found.same_left }

-- ---- answers

pub record AnswersEquation (t : NamedTerm) (answer : Result Theorem Fault) : Type 0 where
  pub equation_of : (theorem : Theorem) → answer ≡ Ok theorem → IsEquationOf t theorem

eq-err : (t : NamedTerm) (fault : Fault) → AnswersEquation t (Err fault)
eq-err t fault = record { equation_of = λ theorem is. cc }

eq-ok : (t : NamedTerm) (theorem : Theorem) → IsEquationOf t theorem → AnswersEquation t (Ok theorem)
eq-ok t theorem of = record { equation_of = λ other is. let same : theorem ≡ other = cc in subst (IsEquationOf t) same of }

eq-unless : (t : NamedTerm) (test : Bool) (fault : Fault) (next : Result Theorem Fault) → AnswersEquation t next → AnswersEquation t (unless test fault next)
eq-unless t true fault next answers = answers
eq-unless t false fault next answers = eq-err t fault

eq-refused : (t : NamedTerm) (found : Option Fault) (next : Result Theorem Fault) → AnswersEquation t next → AnswersEquation t (refused found next)
eq-refused t None next answers = answers
eq-refused t (Some fault) next answers = eq-err t fault

eq-given : {A : Type 0} (t : NamedTerm) (found : Option A) (fault : Fault) (next : A → Result Theorem Fault) → ((x : A) → found ≡ Some x → AnswersEquation t (next x))
    → AnswersEquation t (given found fault next)
eq-given t None fault next answers = eq-err t fault
eq-given t (Some x) fault next answers = answers x refl

eq-then : (t : NamedTerm) (answer : Result Theorem Fault) (next : Theorem → Result Theorem Fault) → ((theorem : Theorem) → answer ≡ Ok theorem
    → AnswersEquation t (next theorem)) → AnswersEquation t (answer >>= next)
eq-then t (Ok theorem) next answers = answers theorem refl
eq-then t (Err fault) next answers = eq-err t fault

eq-as : (t : NamedTerm) (answer other : Result Theorem Fault) → answer ≡ other → AnswersEquation t other → AnswersEquation t answer
eq-as t answer other is answers = subst (AnswersEquation t) (sym is) answers

-- an equation, where it is within the limits
eq-concluded : (theory : Theory) (hypotheses : List NamedTerm) (t l r : NamedTerm) → image l ≡ image t
    → AnswersEquation t (unless (is_within_limits (equation l r)) TooLarge (Ok (record { theory = theory; hypotheses = hypotheses; conclusion = equation l r })))
eq-concluded theory hypotheses t l r same =
    eq-unless t (is_within_limits (equation l r)) TooLarge _ (eq-ok t _ (record { sides = (l, r); is_equation = equation-sides l r; same_left = same }))

refl-equation : (theory : Theory) (t : NamedTerm) → AnswersEquation t (refl_outcome theory t)
refl-equation theory t = eq-refused t (first_unknown theory t) _ (eq-concluded theory [] t t t refl)

same_pair : (a b : NamedTerm × NamedTerm) → Some a ≡ Some b → a ≡ b
same_pair a b is = cc

-- the left side that was found is that of the term
left-is : (t : NamedTerm) (theorem : Theorem) (sides : NamedTerm × NamedTerm) → IsEquationOf t theorem → dest_equation theorem.conclusion ≡ Some sides → image sides.0 ≡ image t
left-is t theorem sides of is = ap (λ (s : NamedTerm × NamedTerm). image s.0) (same_pair sides of.sides (sym is ∙ of.is_equation)) ∙ of.same_left

trans-equation : (theory : Theory) (t : NamedTerm) (a b : Theorem) → IsEquationOf t a → AnswersEquation t (trans_outcome theory a b)
trans-equation theory t a b of =
    eq-given t (dest_equation a.conclusion) NotEquation _ (λ left is. eq-given t (dest_equation b.conclusion) NotEquation _ (λ right js.
    eq-unless t (are_alpha_equivalent left.1 right.0) NotAlpha _ (eq-concluded theory _ t left.0 right.1 (left-is t a left of is))))

mk_comb-equation : (theory : Theory) (f x : NamedTerm) (a b : Theorem) → IsEquationOf f a → IsEquationOf x b → AnswersEquation (combination f x) (mk_comb_outcome theory a b)
mk_comb-equation theory f x a b of on =
    let t : NamedTerm = combination f x in
    eq-given t (dest_equation a.conclusion) NotEquation _ (λ functions is. eq-given t (dest_equation b.conclusion) NotEquation _ (λ arguments js.
    eq-unless t (is_some (type_of (combination functions.0 arguments.0))) TypeMismatch _
    (eq-concluded theory _ t (combination functions.0 arguments.0) (combination functions.1 arguments.1) (λ i. app (left-is f a functions of is i) (left-is x b arguments on js i)))))

abs-equation : (theory : Theory) (name : List ℕ) (ty : HolType) (body : NamedTerm) (a : Theorem) → IsEquationOf body a
    → AnswersEquation (abstraction name ty body) (abs_outcome theory (variable name ty) a)
abs-equation theory name ty body a of =
    let t : NamedTerm = abstraction name ty body in
    eq-given t (dest_equation a.conclusion) NotEquation _ (λ sides is.
    eq-unless t (knows_type theory ty) UnknownType _ (eq-unless t (not (is_free_in_hypotheses name ty a.hypotheses)) FreeInHypothesis _
    (eq-concluded theory a.hypotheses t (abstraction name ty sides.0) (abstraction name ty sides.1)
    (image-abstraction name ty sides.0 ∙ ap (λ b. lam ty (close name ty b)) (left-is body a sides of is) ∙ sym (image-abstraction name ty body)))))

binder-equation : (t : NamedTerm) (answer : Result Theorem Fault) → AnswersEquation t answer → AnswersEquation t (binder_answer answer)
binder-equation t (Ok theorem) answers = answers
binder-equation t (Err fault) answers = eq-err t _

-- ---- BETA_CONV

record StatesEquation (t : NamedTerm) (outcome : Result Stated Fault) : Type 0 where
  equation_of : (theorem : Theorem) (arguments : List Nameless) → AnswersStated (Ok theorem) arguments outcome → IsEquationOf t theorem

no-statement : (t : NamedTerm) (fault : Fault) → StatesEquation t (Err fault)
no-statement t fault = record { equation_of = λ theorem arguments answers. absurd answers }

redex-equation : (theory : Theory) (t : NamedTerm) → StatesEquation t (redex_outcome theory t)
redex-equation theory t = go (dest_redex t) (first_unknown theory t)
  where
    go : (found : Option (Abstracted × NamedTerm)) (unknown : Option Fault) → StatesEquation t (unless (is_some found) ConvFails (given found BadShape (λ redex. refused unknown
        (stated_with_left [] t (nameless_equation (nameless_type [] (image t)) (image t) (body_with redex.0 redex.1))))))
    go None unknown = no-statement t ConvFails
    go (Some redex) (Some fault) = no-statement t fault
    go (Some redex) None = record { equation_of = λ theorem arguments answers. from-image t theorem _ (body_with redex.0 redex.1) answers.conclusion.0 }

beta-equation : (theory : Theory) (t : NamedTerm) (answer : Result Theorem Fault) → AnswersStated answer (image t ∷ []) (redex_outcome theory t) → AnswersEquation t answer
beta-equation theory t (Ok theorem) answers = eq-ok t theorem ((redex-equation theory t).equation_of theorem (image t ∷ []) answers)
beta-equation theory t (Err fault) answers = eq-err t fault

-- ---- rewriting

rewritten-equation : (t : NamedTerm) (rule theorem : Theorem) (by : _) → Applies rule t by → IsRewritten rule by theorem → IsEquationOf t theorem
rewritten-equation t rule theorem by applies is =
    let shape = equation-image rule.conclusion applies.sides applies.is_equation in
    let same : image theorem.conclusion ≡ replaced by (app (app (const equality_name shape.ty) (image applies.sides.0)) (image applies.sides.1)) = is.conclusion ∙ ap (replaced by) shape.same in
    from-image t theorem _ (replaced by (image applies.sides.1)) (same ∙ ap (λ (l : Nameless). app (app (replaced by (const equality_name shape.ty)) l) (replaced by (image applies.sides.1)))
    applies.matches.is_match.gives_term)

rewrites-equation : (rules : List Theorem) (t : NamedTerm) (answer : Result Theorem Fault) → Rewrites rules t answer → AnswersEquation t answer
rewrites-equation rules t answer (none_matches none) = eq-err t NoMatch
rewrites-equation rules t answer (rewrites {rule} {theorem} {by} first fits is) = eq-ok t theorem (rewritten-equation t rule theorem by first.applies is)
rewrites-equation rules t answer (instance_is_too_large first fits) = eq-err t TooLarge

host-equation : (theory : Theory) (store : Store) (t : NamedTerm) (answered : HostEquation) (answer : Result Theorem Fault)
    → AnswersHostEquation theory store t answered answer → AnswersEquation t answer
host-equation theory store t answered (Ok theorem) answers = eq-ok t theorem (from-image t theorem _ (image answered.term) answers.1.conclusion)
host-equation theory store t answered (Err fault) answers = eq-err t fault

-- ---- conversions

module _ (theory : Theory) (store : Store) (hosts : HostConversions) where
  mutual
    converts-equation : {depth steps left : ℕ} {c : Conversion} {t : NamedTerm} {answer : Result Theorem Fault} → Converts theory store hosts depth steps c t answer left
        → AnswersEquation t answer
    converts-equation (no_step_is_left {t} is) = eq-err t _
    converts-equation (all_converts {t}) = refl-equation theory t
    converts-equation (no_converts {t}) = eq-err t _
    converts-equation (beta_converts {t} {answer} is) = beta-equation theory t answer is
    converts-equation (theorem_is_unknown {t} is) = eq-err t _
    converts-equation (has_no_rules {t} is refuses) = eq-err t _
    converts-equation (theorem_rewrites {t} {rules} {answer} is there made) = rewrites-equation rules t answer made
    converts-equation (rules_rewrite {rules} {t} {answer} made) = rewrites-equation rules t answer made
    converts-equation (host_is_unknown {t} lacks) = eq-err t _
    converts-equation (host_fails {t} is fails) = eq-err t _
    converts-equation (host_converts {t} {answer} answered is says made) = host-equation theory store t answered answer made
    converts-equation (has_no_such_part {t} lacks) = eq-err t _
    converts-equation (is_too_deep {t} down deep) = eq-err t _
    converts-equation (argument_converts {f} {x} {part} {answer} room r is) =
        eq-as (combination f x) answer (of_argument theory f part) is (eq-then (combination f x) part _ (λ second made. eq-then (combination f x) (refl_outcome theory f) _ (λ first same.
        mk_comb-equation theory f x first second ((refl-equation theory f).equation_of first same) ((converts-equation r).equation_of second made))))
    converts-equation (function_converts {f} {x} {part} {answer} room r is) =
        eq-as (combination f x) answer (of_function theory x part) is (eq-then (combination f x) part _ (λ first made. eq-then (combination f x) (refl_outcome theory x) _ (λ second same.
        mk_comb-equation theory f x first second ((converts-equation r).equation_of first made) ((refl-equation theory x).equation_of second same))))
    converts-equation (body_converts {name} {ty} {body} {part} {answer} room r is) =
        eq-as (abstraction name ty body) answer (of_body theory name ty part) is (eq-then (abstraction name ty body) part _ (λ theorem made.
        binder-equation (abstraction name ty body) _ (abs-equation theory name ty body theorem ((converts-equation r).equation_of theorem made))))
    converts-equation (same_without_parts {t} is) = refl-equation theory t
    converts-equation (first_part_is_refused {f} {x} room r) = eq-err (combination f x) _
    converts-equation (parts_convert {f} {x} {first} {second} {answer} room r s is) =
        eq-as (combination f x) answer (of_parts theory (Ok first) second) is (eq-then (combination f x) second _ (λ other made.
        mk_comb-equation theory f x first other ((converts-equation r).equation_of first refl) ((converts-equation s).equation_of other made)))
    converts-equation (only_part_converts r) = converts-equation r
    converts-equation (first_is_refused r) = converts-equation r
    converts-equation (first_goes_on {t} {theorem} r s) = converts_on-equation s t ((converts-equation r).equation_of theorem refl)
    converts-equation (first_answers r) = converts-equation r
    converts-equation (first_is_not_caught r passes) = converts-equation r
    converts-equation (last_is_refused r) = converts-equation r
    converts-equation (first_is_caught r caught s) = converts-equation s
    converts-equation (converts_if_changed {t} {made} {answer} r is) =
        eq-as t answer (if_changed t made) is (eq-then t made _ (λ theorem found. eq-given t (dest_equation theorem.conclusion) ConvFails _ (λ sides there.
        eq-unless t (not (are_alpha_equivalent sides.1 t)) ConvFails _ (eq-ok t theorem ((converts-equation r).equation_of theorem found)))))
    converts-equation (converts_as_defined is r) = converts-equation r
    converts-equation (finds_no_memory {t} le) = eq-err t _

    converts_on-equation : {depth steps left : ℕ} {theorem : Theorem} {cs : Conversions} {answer : Result Theorem Fault}
        → ConvertsOn theory store hosts depth steps theorem cs answer left → (t : NamedTerm) → IsEquationOf t theorem → AnswersEquation t answer
    converts_on-equation (ends {theorem}) t of = eq-ok t theorem of
    converts_on-equation (next_is_refused is r) t of = eq-err t _
    converts_on-equation (is_not_joined is r fails) t of = eq-err t _
    converts_on-equation (is_joined {theorem} {next} {joined} is r made s) t of = converts_on-equation s t ((trans-equation theory t theorem next of).equation_of joined made)
    converts_on-equation (goes_on_without_memory le) t of = eq-err t _

pub conversions-answer-equations : (hosts : HostConversions) → ConversionsAnswerEquations hosts
conversions-answer-equations hosts theory store depth steps left c t theorem r = (converts-equation theory store hosts r).equation_of theorem refl

-- ---- the goal's target

pub equations-of-targets : EquationsOfTargets
equations-of-targets theory goal theorem legal known proved of =
    let sequent = Derivable-known theory legal (Derivable-earlier theorem.theory theory proved.earlier legal _ _ proved.proved.derivable) in
    let parts = equation-parts theory legal theorem.conclusion of.sides of.is_equation sequent.conclusion in
    let left : IsKnown theory (image goal.target) parts.ty = subst (λ (t : Nameless). IsKnown theory t parts.ty) of.same_left parts.left in
    let ty_is : parts.ty ≡ bool_type = one_type (image goal.target) parts.ty bool_type left.typed known.target.typed in
    parts.same ∙ λ i. nameless_equation (ty_is i) (of.same_left i) (image of.sides.1)
