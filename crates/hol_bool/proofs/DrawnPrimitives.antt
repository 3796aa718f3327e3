-- The kernel's rules answer what the table of rules draws.
use Rattle.std.proofs.Common.{◌≡◌, ◌⊎◌, ℕ, List, [], ◌∷◌, ◌++◌, map, Bool, true, false, ◌&&◌, ◌||◌, not, if◌then◌else◌, refl, sym, ◌∙◌, ap, subst, inl, inr, Option, Some, None, Result, Ok, Err}
use Rattle.std.proofs.Common.{Vec, Global}
use Rattle.std.specs.Option.{option_map, is_some}
use Rattle.std.specs.List.{list_all}
use Rattle.hol_model.specs.declared.fault.Fault.{Fault}
use Rattle.hol_model.specs.declared.fault.Fault.TheVariants.{Memory, TooLarge, NotEquation, NotAlpha, NotBool, NotVariable, NotTrivialBeta}
use Rattle.hol_model.specs.declared.fault.Fault.TheVariants.{TypeMismatch, UnknownType, UnknownConst, NotInstance, FreeInHypothesis}
use Rattle.hol_model.specs.Terms.HolType.{HolType, type_variable, bool_type, function_type, declared_type, type_eq, dest_function_type, replaces_type_variables}
use Rattle.hol_model.specs.Terms.NamedTerm.{NamedTerm, variable, constant, combination, abstraction, type_of, equation, is_within_limits, same_variable, is_free, is_variable}
use Rattle.hol_model.specs.Terms.Nameless.{Nameless, app, lam, image, same_term, nameless_type, HasType}
use Rattle.std.proofs.lemmas.List.{append-nil}
use Rattle.hol_model.specs.Terms.Substitution.{close, put_all, same_type, keeps_types, replaces_variables}
use Rattle.hol_model.specs.Logic.Checks.{knows_nameless}
use Rattle.hol_model.specs.Kernel.Instantiation.{IsChanged, or_too_large, all_fit, replacements_refusal, inst_refusal, IsInst, instantiate_all}
use Rattle.hol_model.specs.Kernel.Instantiation.{type_replacements_refusal, inst_type_refusal, IsInstType}
use Rattle.hol_model.specs.Logic.Theory.{Theory, IsLegal, equality_name, equality_type}
use Rattle.hol_model.specs.Logic.KnownTerm.{knows_type, knows_types, knows_constants, has_instances, is_known}
use Rattle.hol_model.specs.Kernel.Theorem.{Theorem, with_hypotheses, without_hypothesis, are_alpha_equivalent}
use Rattle.hol_model.specs.Logic.Derivable.{IsSameSet, nameless_equation, without}
use Rattle.hol_model.specs.Goals.Goals.{Sequent}
use Rattle.hol_model.specs.Kernel.Outcome.{Answers, AnswersSuch, unless, given as outcome_given, refused}
use Rattle.hol_model.specs.Kernel.Rules.{first_unknown, dest_equation, dest_trivial_redex, concluded, is_free_in_hypotheses, refl_outcome}
use Rattle.hol_model.specs.Kernel.Rules.{assume_outcome, beta_outcome, trans_outcome, eq_mp_outcome, mk_comb_outcome, abs_outcome}
use Rattle.hol_model.specs.Kernel.Rules.{deduct_antisym_outcome}
use Rattle.hol_model.specs.Derived.DerivedRules.{images}
use Rattle.hol_model.specs.Derived.InferenceRules.{InferenceRule}
use Rattle.hol_model.specs.declared.rule.Rule.TheVariants as rules
use Rattle.hol_model.specs.Logic.NamelessLogic as nameless
use Rattle.hol_model.specs.Derived.Inference.{given, require, conclude, all, all_changed, may_replace, may_replace_types, all_without_variable}
use Rattle.hol_model.specs.Derived.Inference.{is_free_in_none, unchanged, is_known_term, drawn, rule_sequent}
use Rattle.hol_model.proofs.Terms.HolTypeEq.{type_eq-Decides}
use Rattle.hol_model.proofs.Tests.{same_term-Decides}
use Rattle.hol_model.proofs.Terms.Typing.{nameless_type-is}
use Rattle.hol_model.proofs.Terms.Images.{image-equation, image-abstraction, image-typed, image-type, occurs_free-image}
use Rattle.hol_kernel.proofs.HypothesesLemmas.{with_hypotheses-same_set, image-without_hypothesis}
use Rattle.hol_kernel.proofs.RuleLemmas.{sides}
use Rattle.hol_journal.specs.Steps.{sequent_of_theorem}
use Rattle.hol_equal.specs.Sequents.{Shows}
use Rattle.hol_equal.specs.Inferred.{IsDrawn, Infers}
use Rattle.hol_model.proofs.Logic.Checks.{knows_nameless-Decides}
use Rattle.hol_model.specs.Kernel.NamedAxioms.{eta_theorem, select_theorem}
use Rattle.hol_equal.proofs.CutLemmas.{shows-itself}
use Rattle.hol_equal.proofs.StepLemmas.{changed-shows}
use Rattle.hol_equal.proofs.DrawnTerms.{IsPremise, knows-image, walked_by, walked_known_by, one_premise, two_premises, same_set}
use Rattle.hol_equal.proofs.DrawnEquality.{no-equation, equation-drawn}
use Rattle.hol_bool.proofs.DrawnConnectives.{not-applied, equation-connected}

abbrev Gives : Result Theorem Fault → Option Sequent → Type 0
Gives outcome found = IsDrawn found outcome

none_drawn : (fault : Fault) → Gives (Err fault) None
none_drawn fault = tt

-- what the rule's outcome gives is drawn
abbrev pub KernelDraws : Theory → InferenceRule → List Theorem → Result Theorem Fault → Type 0
KernelDraws theory rule premises outcome = IsDrawn (rule_sequent theory rule (map sequent_of_theorem premises)) outcome

-- a call that answers a rule's outcome answers what is drawn
pub answers-infer : (theory : Theory) (rule : InferenceRule) (premises : List Theorem) (outcome result : Result Theorem Fault)
    → KernelDraws theory rule premises outcome → Answers result outcome → Infers theory rule premises result
answers-infer theory rule premises outcome result draws answers = record { drawn = go (rule_sequent theory rule (map sequent_of_theorem premises)) result draws answers }
  where
    lost : (found : Option Sequent) (fault : Fault) → fault ≡ Memory → IsDrawn found (Err fault)
    lost (Some sequent) fault memory = inl memory
    lost None fault memory = tt

    go : (found : Option Sequent) (result : Result Theorem Fault) → IsDrawn found outcome → Answers result outcome → IsDrawn found result
    go found (Ok theorem) draws is = subst (λ (o : Result Theorem Fault). IsDrawn found o) is draws
    go found (Err fault) draws (inl memory) = lost found fault memory
    go found (Err fault) draws (inr is) = subst (λ (o : Result Theorem Fault). IsDrawn found o) is draws

abbrev sequent_of : List Nameless → Nameless → Sequent
sequent_of hypotheses conclusion = record { hypotheses = hypotheses; conclusion = conclusion }

concluded-drawn : (theory : Theory) (hypotheses : List NamedTerm) (conclusion : NamedTerm) (h : List Nameless) (c : Nameless) → IsSameSet h (map image hypotheses) → image conclusion ≡ c
    → IsDrawn (Some (sequent_of h c)) (concluded theory hypotheses conclusion)
concluded-drawn theory hypotheses conclusion h c same is = go (is_within_limits conclusion)
  where
    go : (test : Bool) → IsDrawn (Some (sequent_of h c)) (unless test TooLarge (Ok (record { theory = theory; hypotheses = hypotheses; conclusion = conclusion })))
    go true = record { same_set = same; concludes = is }
    go false = inr refl

type-is : (t : NamedTerm) (ty : HolType) → type_of t ≡ Some ty → ty ≡ nameless_type [] (image t)
type-is t ty typed = sym (nameless_type-is (image t) [] ty (image-typed t ty typed))

equation-of : (t u : NamedTerm) (ty : HolType) → type_of t ≡ Some ty → image (equation t u) ≡ nameless_equation (nameless_type [] (image t)) (image t) (image u)
equation-of t u ty typed = image-equation t u ty typed ∙ ap (λ (s : HolType). nameless_equation s (image t) (image u)) (type-is t ty typed)

pub refl-drawn : (theory : Theory) (t : NamedTerm) (ty : HolType) → type_of t ≡ Some ty → KernelDraws theory (rules.Refl t) [] (refl_outcome theory t)
refl-drawn theory t ty typed =
    let c : Nameless = nameless_equation (nameless_type [] (image t)) (image t) (image t) in
    walked_known_by Gives none_drawn theory t ty typed (concluded theory [] (equation t t)) (record { passing = []; supposed = []; conclusion = c }) (λ inference. drawn inference [])
    (concluded-drawn theory [] (equation t t) [] c (same_set refl) (equation-of t t ty typed))

pub assume-drawn : (theory : Theory) (p : NamedTerm) (ty : HolType) → type_of p ≡ Some ty → KernelDraws theory (rules.Assume p) [] (assume_outcome theory p)
assume-drawn theory p ty typed =
    walked_by Gives none_drawn theory p ty bool_type typed NotBool (Ok (record { theory = theory; hypotheses = p ∷ []; conclusion = p }))
    (record { passing = []; supposed = image p ∷ []; conclusion = image p }) (λ inference. drawn inference [])
    (record { same_set = same_set refl; concludes = refl })

pub beta-drawn : (theory : Theory) (t : NamedTerm) (ty : HolType) → type_of t ≡ Some ty → KernelDraws theory (rules.Beta t) [] (beta_outcome theory t)
beta-drawn theory t ty typed = go (dest_trivial_redex t)
  where
    go : (found : Option NamedTerm)
        → IsDrawn (given (given found (λ body.
        require (is_known_term theory (image t)) (conclude [] (nameless_equation (nameless_type [] (image t)) (image t) (image body)))))
        (λ inference. drawn inference []))
        (outcome_given found NotTrivialBeta (λ body. refused (first_unknown theory t) (concluded theory [] (equation t body))))
    go None = tt
    go (Some body) =
        let c : Nameless = nameless_equation (nameless_type [] (image t)) (image t) (image body) in
        walked_known_by Gives none_drawn theory t ty typed (concluded theory [] (equation t body)) (record { passing = []; supposed = []; conclusion = c }) (λ inference. drawn inference [])
        (concluded-drawn theory [] (equation t body) [] c (same_set refl) (equation-of t body ty typed))

-- ---- rules of two premises

abbrev merged : Theorem → Theorem → List NamedTerm
merged a b = with_hypotheses a.hypotheses b.hypotheses

abbrev both_passed : Theorem → Theorem → List Nameless
both_passed a b = map unchanged (images a) ++ (map unchanged (images b) ++ [])

both-set : (a b : Theorem) → IsSameSet (both_passed a b) (map image (with_hypotheses a.hypotheses b.hypotheses))
both-set a b = subst (λ (h : List Nameless). IsSameSet h (map image (with_hypotheses a.hypotheses b.hypotheses)))
    (sym (two_premises (images a) (images b))) (with_hypotheses-same_set a.hypotheses b.hypotheses)

-- the image of no equation is no equivalence
no-equivalence : (term : NamedTerm) → dest_equation term ≡ None → nameless.dest_equivalence (image term) ≡ None
no-equivalence term none = not-applied equality_name (equality_type bool_type) term (sym (equation-connected term) ∙ none)

-- two terms of one image have one type
alike-typed : (m n : NamedTerm) (s t : HolType) → type_of m ≡ Some s → type_of n ≡ Some t → image m ≡ image n → s ≡ t
alike-typed m n s t left right same =
    let typed : HasType [] (image n) s = subst (λ (x : Nameless). HasType [] x s) same (image-typed m s left) in
    let one : Some s ≡ Some t = sym (image-type n s typed) ∙ right in
    cc

abbrev merged_theorem : Theory → Theorem → Theorem → NamedTerm → Theorem
merged_theorem theory a b conclusion = record { theory = theory; hypotheses = merged a b; conclusion = conclusion }

pub trans-drawn : (theory : Theory) → IsLegal theory → (a b : Theorem) → IsPremise theory a → IsPremise theory b → KernelDraws theory rules.Trans (a ∷ b ∷ []) (trans_outcome theory a b)
trans-drawn theory legal a b first second = go (dest_equation a.conclusion) refl (dest_equation b.conclusion) refl
  where
    meet : (l m n r : NamedTerm) (s t : HolType) → type_of l ≡ Some s → type_of m ≡ Some s → type_of n ≡ Some t → (test : Bool)
        → same_term (image m) (image n) ≡ test → (same : Bool) → type_eq s t ≡ same
        → IsDrawn (given (require (test && same) (conclude (all ∷ all ∷ []) (nameless_equation s (image l) (image r)))) (λ inference. drawn inference (images a ∷ images b ∷ [])))
        (unless test NotAlpha (concluded theory (merged a b) (equation l r)))
    meet l m n r s t l_typed m_typed n_typed false is same eq = tt
    meet l m n r s t l_typed m_typed n_typed true is true eq =
        concluded-drawn theory (merged a b) (equation l r) (both_passed a b) (nameless_equation s (image l) (image r)) (both-set a b)
        (image-equation l r s l_typed)
    meet l m n r s t l_typed m_typed n_typed true is false eq =
        let types : s ≡ t = alike-typed m n s t m_typed n_typed ((same_term-Decides (image m) (image n)).0 is) in
        let equal : type_eq s t ≡ true = (type_eq-Decides s t).1 types in
        cc

    go : (one : Option (NamedTerm × NamedTerm)) → dest_equation a.conclusion ≡ one → (two : Option (NamedTerm × NamedTerm)) → dest_equation b.conclusion ≡ two
        → IsDrawn (given (given (nameless.dest_equation (image a.conclusion))
        (λ left. given (nameless.dest_equation (image b.conclusion))
        (λ right. require (same_term left.right right.left && type_eq left.ty right.ty)
        (conclude (all ∷ all ∷ []) (nameless_equation left.ty left.left right.right)))))
        (λ inference. drawn inference (images a ∷ images b ∷ [])))
        (outcome_given one NotEquation
        (λ left. outcome_given two NotEquation
        (λ right. unless (are_alpha_equivalent left.1 right.0) NotAlpha (concluded theory (merged a b) (equation left.0 right.1)))))
    go None one other two = rw (no-equation a.conclusion one) tt
    go (Some (l, m)) one None two =
        let e = sides theory legal a.conclusion l m first.known one in
        rw (equation-drawn a.conclusion l m e, no-equation b.conclusion two) tt
    go (Some (l, m)) one (Some (n, r)) two =
        let e = sides theory legal a.conclusion l m first.known one in
        let f = sides theory legal b.conclusion n r second.known two in
        rw (equation-drawn a.conclusion l m e, equation-drawn b.conclusion n r f)
        (meet l m n r e.ty f.ty e.left_typed e.right_typed f.left_typed (same_term (image m) (image n)) refl (type_eq e.ty f.ty) refl)

pub eq_mp-drawn : (theory : Theory) → IsLegal theory → (a b : Theorem) → IsPremise theory a → IsPremise theory b → KernelDraws theory rules.EqMp (a ∷ b ∷ []) (eq_mp_outcome theory a b)
eq_mp-drawn theory legal a b first second = go (dest_equation a.conclusion) refl
  where
    meet : (l r : NamedTerm) (s : HolType) → type_of l ≡ Some s → (is_bool : Bool)
        → same_variable equality_name (equality_type bool_type) equality_name (equality_type s) ≡ is_bool → (test : Bool)
        → same_term (image l) (image b.conclusion) ≡ test
        → IsDrawn (given (given (if◌then◌else◌ {A = Option (Nameless × Nameless)} is_bool (Some (image l, image r)) None)
        (λ sides. require (same_term sides.0 (image b.conclusion)) (conclude (all ∷ all ∷ []) sides.1)))
        (λ inference. drawn inference (images a ∷ images b ∷ [])))
        (unless test NotAlpha (Ok (merged_theorem theory a b r)))
    meet l r s typed true tested true is = rw is (record { same_set = both-set a b; concludes = refl })
    meet l r s typed true tested false is = rw is tt
    meet l r s typed false tested false is = tt
    meet l r s typed false tested true is =
        let types : s ≡ bool_type = alike-typed l b.conclusion s bool_type typed second.typed ((same_term-Decides (image l) (image b.conclusion)).0 is) in
        let same : same_variable equality_name (equality_type bool_type) equality_name (equality_type s) ≡ true =
        ap (λ (t : HolType). same_variable equality_name (equality_type bool_type) equality_name (equality_type t)) types in
        cc

    go : (one : Option (NamedTerm × NamedTerm)) → dest_equation a.conclusion ≡ one
        → IsDrawn (given (given (nameless.dest_equivalence (image a.conclusion))
        (λ sides. require (same_term sides.0 (image b.conclusion)) (conclude (all ∷ all ∷ []) sides.1)))
        (λ inference. drawn inference (images a ∷ images b ∷ [])))
        (outcome_given one NotEquation (λ sides. unless (are_alpha_equivalent sides.0 b.conclusion) NotAlpha (Ok (merged_theorem theory a b sides.1))))
    go None one = rw (no-equivalence a.conclusion one) tt
    go (Some (l, r)) one =
        let e = sides theory legal a.conclusion l r first.known one in
        rw e.image_is (meet l r e.ty e.left_typed (same_variable equality_name (equality_type bool_type) equality_name (equality_type e.ty)) refl (same_term (image l) (image b.conclusion)) refl)

pub mk_comb-drawn : (theory : Theory) → IsLegal theory → (a b : Theorem) → IsPremise theory a → IsPremise theory b → KernelDraws theory rules.MkComb (a ∷ b ∷ []) (mk_comb_outcome theory a b)
mk_comb-drawn theory legal a b first second = go (dest_equation a.conclusion) refl (dest_equation b.conclusion) refl
  where
    typed_as : (f x : NamedTerm) (s t : HolType) → type_of f ≡ Some s → type_of x ≡ Some t → (domain codomain : HolType)
        → s ≡ function_type domain codomain → type_eq domain t ≡ true → type_of (combination f x) ≡ Some codomain
    typed_as f x s t f_typed x_typed domain codomain is eq = rw (f_typed, x_typed, is, eq) refl

    applied : (f g x y : NamedTerm) (s t : HolType) → type_of f ≡ Some s → type_of x ≡ Some t
        → IsDrawn (given (given (dest_function_type s)
        (λ arrow. require (type_eq arrow.0 t)
        (conclude (all ∷ all ∷ []) (nameless_equation arrow.1 (app (image f) (image x)) (app (image g) (image y))))))
        (λ inference. drawn inference (images a ∷ images b ∷ [])))
        (unless (is_some (type_of (combination f x))) TypeMismatch (concluded theory (merged a b) (equation (combination f x) (combination g y))))
    applied f g x y (type_variable name) t f_typed x_typed = rw (f_typed, x_typed) tt
    applied f g x y bool_type t f_typed x_typed = rw (f_typed, x_typed) tt
    applied f g x y (function_type domain codomain) t f_typed x_typed = test (type_eq domain t) refl
      where
        test : (eq : Bool) → type_eq domain t ≡ eq
            → IsDrawn (given (require eq (conclude (all ∷ all ∷ [])
            (nameless_equation codomain (app (image f) (image x)) (app (image g) (image y)))))
            (λ inference. drawn inference (images a ∷ images b ∷ [])))
            (unless (is_some (type_of (combination f x))) TypeMismatch (concluded theory (merged a b) (equation (combination f x) (combination g y))))
        test true eq =
            let typed = typed_as f x (function_type domain codomain) t f_typed x_typed domain codomain refl eq in
            subst (λ (o : Option HolType).
            IsDrawn (Some (sequent_of (both_passed a b) (nameless_equation codomain (app (image f) (image x)) (app (image g) (image y)))))
            (unless (is_some o) TypeMismatch (concluded theory (merged a b) (equation (combination f x) (combination g y))))) (sym typed)
            (concluded-drawn theory (merged a b) (equation (combination f x) (combination g y)) (both_passed a b)
            (nameless_equation codomain (app (image f) (image x)) (app (image g) (image y))) (both-set a b)
            (image-equation (combination f x) (combination g y) codomain typed))
        test false eq = rw (f_typed, x_typed, eq) tt
    applied f g x y (declared_type name) t f_typed x_typed = rw (f_typed, x_typed) tt

    go : (one : Option (NamedTerm × NamedTerm)) → dest_equation a.conclusion ≡ one → (two : Option (NamedTerm × NamedTerm)) → dest_equation b.conclusion ≡ two
        → IsDrawn (given (given (nameless.dest_equation (image a.conclusion))
        (λ functions. given (nameless.dest_equation (image b.conclusion))
        (λ arguments. given (dest_function_type functions.ty)
        (λ arrow. require (type_eq arrow.0 arguments.ty)
        (conclude (all ∷ all ∷ []) (nameless_equation arrow.1 (app functions.left arguments.left) (app functions.right arguments.right)))))))
        (λ inference. drawn inference (images a ∷ images b ∷ [])))
        (outcome_given one NotEquation
        (λ functions. outcome_given two NotEquation
        (λ arguments. unless (is_some (type_of (combination functions.0 arguments.0))) TypeMismatch
        (concluded theory (merged a b) (equation (combination functions.0 arguments.0) (combination functions.1 arguments.1))))))
    go None one other two = rw (no-equation a.conclusion one) tt
    go (Some (f, g)) one None two =
        let e = sides theory legal a.conclusion f g first.known one in
        rw (equation-drawn a.conclusion f g e, no-equation b.conclusion two) tt
    go (Some (f, g)) one (Some (x, y)) two =
        let d = sides theory legal a.conclusion f g first.known one in
        let e = sides theory legal b.conclusion x y second.known two in
        rw (equation-drawn a.conclusion f g d, equation-drawn b.conclusion x y e) (applied f g x y d.ty e.ty d.left_typed e.left_typed)

-- the variable is free in none of the images exactly where it is free in no hypothesis
free-in_no_hypothesis : (name : List ℕ) (ty : HolType) (hypotheses : List NamedTerm) → is_free_in_none (Some (name, ty)) (map image hypotheses) ≡ not (is_free_in_hypotheses name ty hypotheses)
free-in_no_hypothesis name ty [] = refl
free-in_no_hypothesis name ty (h ∷ hypotheses) = rw (occurs_free-image name ty h) (go (is_free name ty h) (free-in_no_hypothesis name ty hypotheses))
  where
    go : (test : Bool) → is_free_in_none (Some (name, ty)) (map image hypotheses) ≡ not (is_free_in_hypotheses name ty hypotheses)
        → (not test && is_free_in_none (Some (name, ty)) (map image hypotheses)) ≡ not (test || is_free_in_hypotheses name ty hypotheses)
    go true deeper = refl
    go false deeper = deeper

pub abs-drawn : (theory : Theory) → IsLegal theory → (x : NamedTerm) (a : Theorem) → IsPremise theory a → KernelDraws theory (rules.Abs x) (a ∷ []) (abs_outcome theory x a)
abs-drawn theory legal (constant name ty) a premise = tt
abs-drawn theory legal (combination f x) a premise = tt
abs-drawn theory legal (abstraction name ty body) a premise = tt
abs-drawn theory legal (variable name ty) a premise = go (dest_equation a.conclusion) refl
  where
    typed_over : (t : NamedTerm) (s : HolType) → type_of t ≡ Some s → type_of (abstraction name ty t) ≡ Some (function_type ty s)
    typed_over t s typed = rw typed refl

    of_known : (l r : NamedTerm) (s : HolType) → type_of l ≡ Some s → (free : Bool)
        → IsDrawn (option_map (λ others.
        sequent_of ([] ++ others) (nameless_equation (function_type ty s) (lam ty (close name ty (image l))) (lam ty (close name ty (image r)))))
        (if not free then Some (map unchanged (images a) ++ []) else None))
        (unless (not free) FreeInHypothesis (concluded theory a.hypotheses (equation (abstraction name ty l) (abstraction name ty r))))
    of_known l r s typed true = tt
    of_known l r s typed false =
        concluded-drawn theory a.hypotheses (equation (abstraction name ty l) (abstraction name ty r)) (map unchanged (images a) ++ [])
        (nameless_equation (function_type ty s) (lam ty (close name ty (image l))) (lam ty (close name ty (image r))))
        (same_set (one_premise (images a)))
        (image-equation (abstraction name ty l) (abstraction name ty r) (function_type ty s) (typed_over l s typed)
        ∙ (λ i. nameless_equation (function_type ty s) (image-abstraction name ty l i) (image-abstraction name ty r i)))

    tests : (l r : NamedTerm) (s : HolType) → type_of l ≡ Some s → (known : Bool)
        → IsDrawn (given (require known
        (conclude (all_without_variable name ty ∷ [])
        (nameless_equation (function_type ty s) (lam ty (close name ty (image l))) (lam ty (close name ty (image r))))))
        (λ inference. drawn inference (images a ∷ [])))
        (unless known UnknownType (unless (not (is_free_in_hypotheses name ty a.hypotheses)) FreeInHypothesis
        (concluded theory a.hypotheses (equation (abstraction name ty l) (abstraction name ty r)))))
    tests l r s typed false = tt
    tests l r s typed true = rw (free-in_no_hypothesis name ty a.hypotheses) (of_known l r s typed (is_free_in_hypotheses name ty a.hypotheses))

    go : (one : Option (NamedTerm × NamedTerm)) → dest_equation a.conclusion ≡ one
        → IsDrawn (given (given (nameless.dest_equation (image a.conclusion))
        (λ sides. require (knows_type theory ty)
        (conclude (all_without_variable name ty ∷ [])
        (nameless_equation (function_type ty sides.ty) (lam ty (close name ty sides.left)) (lam ty (close name ty sides.right))))))
        (λ inference. drawn inference (images a ∷ [])))
        (outcome_given one NotEquation
        (λ sides. unless (knows_type theory ty) UnknownType
        (unless (not (is_free_in_hypotheses name ty a.hypotheses)) FreeInHypothesis
        (concluded theory a.hypotheses (equation (abstraction name ty sides.0) (abstraction name ty sides.1))))))
    go None one = rw (no-equation a.conclusion one) tt
    go (Some (l, r)) one =
        let e = sides theory legal a.conclusion l r premise.known one in
        rw (equation-drawn a.conclusion l r e) (tests l r e.ty e.left_typed (knows_type theory ty))

abbrev left_of : Theorem → Theorem → List NamedTerm
left_of a b = without_hypothesis b.conclusion a.hypotheses

abbrev right_of : Theorem → Theorem → List NamedTerm
right_of a b = without_hypothesis a.conclusion b.hypotheses

abbrev passed_by_both : Theorem → Theorem → List Nameless
passed_by_both a b = map unchanged (without (image b.conclusion) (images a)) ++ (map unchanged (without (image a.conclusion) (images b)) ++ [])

pub deduct_antisym-drawn : (theory : Theory) (a b : Theorem) → IsPremise theory a → KernelDraws theory rules.DeductAntisym (a ∷ b ∷ []) (deduct_antisym_outcome theory a b)
deduct_antisym-drawn theory a b first =
    concluded-drawn theory (with_hypotheses (left_of a b) (right_of a b)) (equation a.conclusion b.conclusion) (passed_by_both a b)
    (nameless_equation bool_type (image a.conclusion) (image b.conclusion)) set (image-equation a.conclusion b.conclusion bool_type first.typed)
  where
    is : (passed_by_both a b) ≡ (map image (left_of a b) ++ map image (right_of a b))
    is = two_premises (without (image b.conclusion) (images a)) (without (image a.conclusion) (images b))
        ∙ (λ i. sym (image-without_hypothesis b.conclusion a.hypotheses) i ++ sym (image-without_hypothesis a.conclusion b.hypotheses) i)

    set : IsSameSet (passed_by_both a b) (map image (with_hypotheses (left_of a b) (right_of a b)))
    set = subst (λ (h : List Nameless). IsSameSet h (map image (with_hypotheses (left_of a b) (right_of a b)))) (sym is) (with_hypotheses-same_set (left_of a b) (right_of a b))

-- ---- rules that change a theorem

-- a rule that changes each part, where its test passes exactly where nothing is refused
changed-drawn : (theory : Theory) (change : Nameless → Nameless) (a : Theorem) (may : Bool) (refusal : Option Fault) (fits : Bool) → (refusal ≡ None → may ≡ true) → (may ≡ true → refusal ≡ None)
    → (result : Result Theorem Fault) → AnswersSuch result (or_too_large refusal fits) (IsChanged theory change a)
    → IsDrawn (given (require may (conclude (all_changed change ∷ []) (change (image a.conclusion)))) (λ inference. drawn inference (images a ∷ []))) result
changed-drawn theory change a may refusal fits passes refuses (Ok answer) (none, is) = rw (passes (unrefused refusal fits none)) (record {
  same_set = subst (λ (h : List Nameless). IsSameSet h (map image answer.hypotheses)) (sym (append-nil (map change (images a)))) shown.same_set;
  concludes = shown.concludes;
})
  where
    unrefused : (refusal : Option Fault) (fits : Bool) → or_too_large refusal fits ≡ None → refusal ≡ None
    unrefused None fits none = refl
    unrefused (Some fault) fits none = none

    shown : Shows answer (map change (images a)) (change (image a.conclusion))
    shown = changed-shows theory change a answer is (images a) (image a.conclusion) (shows-itself a)
changed-drawn theory change a may refusal fits passes refuses (Err fault) answers = go may refl answers
  where
    too_large : (fits : Bool) → (if fits then None else Some TooLarge) ≡ Some fault → fault ≡ TooLarge
    too_large true is = cc
    too_large false is = cc

    go : (test : Bool) → may ≡ test → (fault ≡ Memory) ⊎ (or_too_large refusal fits ≡ Some fault)
        → IsDrawn (given (require test (conclude (all_changed change ∷ []) (change (image a.conclusion)))) (λ inference. drawn inference (images a ∷ []))) (Err fault)
    go false is answers = tt
    go true is (inl memory) = inl memory
    go true is (inr refused) = inr (too_large fits (ap (λ (o : Option Fault). or_too_large o fits) (sym (refuses is)) ∙ refused))

-- a pair of a replacement of a variable
pair-passes : (theory : Theory) (new old : NamedTerm) → is_variable old ≡ true
    → knows_nameless theory (image new) (nameless_type [] (image old)) ≡ (same_type (type_of new) (type_of old) && is_known theory new)
pair-passes theory new (variable name ty) is = go (type_of new) refl
  where
    unknown : type_of new ≡ None → (test : Bool) → knows_nameless theory (image new) ty ≡ test → test ≡ false
    unknown none false is = refl
    unknown none true is =
        let known = (knows_nameless-Decides theory (image new) ty).0 is in
        let typed : Some ty ≡ None = sym (image-type new ty known.typed) ∙ none in
        cc

    go : (found : Option HolType) → type_of new ≡ found → knows_nameless theory (image new) ty ≡ (same_type (type_of new) (Some ty) && is_known theory new)
    go None none = unknown none (knows_nameless theory (image new) ty) refl ∙ ap (λ (o : Option HolType). same_type o (Some ty) && is_known theory new) (sym none)
    go (Some s) typed = knows-image theory new s ty typed ∙ ap (λ (o : Option HolType). same_type o (Some ty) && is_known theory new) (sym typed)
pair-passes theory new (constant name ty) is = cc
pair-passes theory new (combination f x) is = cc
pair-passes theory new (abstraction name ty body) is = cc

abbrev know_types : Theory → List (NamedTerm × NamedTerm) → Bool
know_types theory theta = list_all (λ pair. knows_types theory pair.0) theta

abbrev know_constants : Theory → List (NamedTerm × NamedTerm) → Bool
know_constants theory theta = list_all (λ pair. knows_constants theory pair.0) theta

abbrev have_instances : Theory → List (NamedTerm × NamedTerm) → Bool
have_instances theory theta = list_all (λ pair. has_instances theory pair.0) theta

shuffled : (variables same types constants instances rest keep all_types all_constants all_instances : Bool)
    → (variables && rest) ≡ (variables && (keep && (all_types && (all_constants && all_instances))))
    → (variables && ((same && ((types && constants) && instances)) && rest)) ≡
    (variables && ((same && keep) && ((types && all_types) && ((constants && all_constants) && (instances && all_instances)))))
shuffled false same types constants instances rest keep all_types all_constants all_instances deeper = refl
shuffled true false types constants instances rest keep all_types all_constants all_instances deeper = refl
shuffled true true false constants instances rest false all_types all_constants all_instances deeper = refl
shuffled true true false constants instances rest true all_types all_constants all_instances deeper = refl
shuffled true true true false instances rest false all_types all_constants all_instances deeper = refl
shuffled true true true false instances rest true false all_constants all_instances deeper = refl
shuffled true true true false instances rest true true all_constants all_instances deeper = refl
shuffled true true true true false rest false all_types all_constants all_instances deeper = refl
shuffled true true true true false rest true false all_constants all_instances deeper = refl
shuffled true true true true false rest true true false all_instances deeper = refl
shuffled true true true true false rest true true true all_instances deeper = refl
shuffled true true true true true rest keep all_types all_constants all_instances deeper = deeper

may-replace : (theory : Theory) (theta : List (NamedTerm × NamedTerm))
    → may_replace theory theta ≡ (replaces_variables theta
    && (keeps_types theta && (know_types theory theta && (know_constants theory theta && have_instances theory theta))))
may-replace theory [] = refl
may-replace theory ((new, old) ∷ theta) = go (is_variable old) refl (may-replace theory theta)
  where
    go : (test : Bool) → is_variable old ≡ test
        → may_replace theory theta ≡ (replaces_variables theta && (keeps_types theta && (know_types theory theta && (know_constants theory theta && have_instances theory theta))))
        → may_replace theory ((new, old) ∷ theta)
        ≡ (replaces_variables ((new, old) ∷ theta)
        && (keeps_types ((new, old) ∷ theta)
        && (know_types theory ((new, old) ∷ theta)
        && (know_constants theory ((new, old) ∷ theta) && have_instances theory ((new, old) ∷ theta)))))
    go false is deeper = rw is refl
    go true is deeper = rw (is, pair-passes theory new old is)
        (shuffled (replaces_variables theta) (same_type (type_of new) (type_of old)) (knows_types theory new) (knows_constants theory new) (has_instances theory new)
        (list_all (λ pair. knows_nameless theory (image pair.0) (nameless_type [] (image pair.1))) theta) (keeps_types theta)
        (know_types theory theta) (know_constants theory theta) (have_instances theory theta) deeper)

pub inst-drawn : (theory : Theory) (theta : Vec (NamedTerm × NamedTerm) Global) (a : Theorem) (result : Result Theorem Fault)
    → AnswersSuch result (inst_refusal theory theta.items a) (IsInst theory theta.items a) → Infers theory (rules.Inst theta) (a ∷ []) result
inst-drawn theory theta a result answers =
    let pairs = theta.items in
    record {
      drawn = changed-drawn theory (put_all pairs) a (may_replace theory pairs) (replacements_refusal theory pairs) (all_fit (put_all pairs) (a.conclusion ∷ a.hypotheses))
          (λ none. may-replace theory pairs ∙ passes (replaces_variables pairs) (keeps_types pairs) (know_types theory pairs) (know_constants theory pairs) (have_instances theory pairs) none)
          (λ may. refuses (replaces_variables pairs) (keeps_types pairs) (know_types theory pairs) (know_constants theory pairs) (have_instances theory pairs)
          (sym (may-replace theory pairs) ∙ may))
          result answers;
    }
  where
    passes : (variables keep types constants instances : Bool)
        → (if not variables then Some NotVariable else
        (if not keep then Some TypeMismatch else
        (if not types then Some UnknownType else
        (if not constants then Some UnknownConst else (if not instances then Some NotInstance else None))))) ≡ None
        → (variables && (keep && (types && (constants && instances)))) ≡ true
    passes true true true true true none = refl
    passes true true true true false none = cc
    passes true true true false instances none = cc
    passes true true false constants instances none = cc
    passes true false types constants instances none = cc
    passes false keep types constants instances none = cc

    refuses : (variables keep types constants instances : Bool) → (variables && (keep && (types && (constants && instances)))) ≡ true
        → (if not variables then Some NotVariable else
        (if not keep then Some TypeMismatch else
        (if not types then Some UnknownType else
        (if not constants then Some UnknownConst else (if not instances then Some NotInstance else None))))) ≡ None
    refuses true true true true true may = refl
    refuses true true true true false may = cc
    refuses true true true false instances may = cc
    refuses true true false constants instances may = cc
    refuses true false types constants instances may = cc
    refuses false keep types constants instances may = cc

pub inst_type-drawn : (theory : Theory) (theta : Vec (HolType × HolType) Global) (a : Theorem) (result : Result Theorem Fault)
    → AnswersSuch result (inst_type_refusal theory theta.items a) (IsInstType theory theta.items a) → Infers theory (rules.InstType theta) (a ∷ []) result
inst_type-drawn theory theta a result answers =
    let pairs = theta.items in
    record {
      drawn = changed-drawn theory (instantiate_all pairs) a (may_replace_types theory pairs) (type_replacements_refusal theory pairs)
          (all_fit (instantiate_all pairs) (a.conclusion ∷ a.hypotheses))
          (passes (replaces_type_variables pairs) (list_all (λ pair. knows_type theory pair.0) pairs))
          (refuses (replaces_type_variables pairs) (list_all (λ pair. knows_type theory pair.0) pairs))
          result answers;
    }
  where
    passes : (variables types : Bool) → (if not variables then Some NotVariable else (if not types then Some UnknownType else None)) ≡ None → (variables && types) ≡ true
    passes true true none = refl
    passes true false none = cc
    passes false types none = cc

    refuses : (variables types : Bool) → (variables && types) ≡ true → (if not variables then Some NotVariable else (if not types then Some UnknownType else None)) ≡ None
    refuses true true may = refl
    refuses true false may = cc
    refuses false types may = cc

-- ---- axioms

pub eta-drawn : (theory : Theory) → KernelDraws theory rules.EtaAxiom [] (Ok (eta_theorem theory))
eta-drawn theory = record { same_set = same_set refl; concludes = refl }

pub select-drawn : (theory : Theory) → KernelDraws theory rules.SelectAxiom [] (Ok (select_theorem theory))
select-drawn theory = record { same_set = same_set refl; concludes = refl }
