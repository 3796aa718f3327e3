-- The line of each step is accepted, and gives the image of what the kernel answers.
use Rattle.std.proofs.Common.{◌≡◌, ℕ, List, [], ◌∷◌, ◌++◌, map, Bool, true, false, ◌&&◌, ◌||◌, not, refl, sym, ◌∙◌, ap, subst, inl, inr, suc, if◌then◌else◌, Option, Some, None, Ok}
use Rattle.hol_model.specs.Terms.HolType.{HolType, bool_type, function_type, type_eq}
use Rattle.hol_model.specs.Terms.NamedTerm.{NamedTerm, variable, combination, abstraction, type_of, application_type, dest_variable, same_variable, equation}
use Rattle.hol_model.specs.Terms.Nameless.{Nameless, free, const, bound, app, lam, image, same_term}
use Rattle.hol_model.specs.Logic.Theory.{Theory}
use Rattle.hol_model.specs.Logic.Derivable.{without}
use Rattle.hol_model.specs.Kernel.Theorem.{Theorem, are_alpha_equivalent, with_hypotheses, without_hypothesis}
use Rattle.hol_model.specs.declared.fault.Fault.TheVariants.{NotBool, NotEquation, NotAlpha, TypeMismatch, NotVariable, UnknownType, FreeInHypothesis, NotTrivialBeta}
use Rattle.hol_model.specs.Kernel.Outcome.{unless, given, refused}
use Rattle.hol_model.specs.Kernel.Rules.{first_unknown, dest_equation, dest_trivial_redex, is_formula, is_free_in_hypotheses, concluded, refl_outcome}
use Rattle.hol_model.specs.Kernel.Rules.{assume_outcome, trans_outcome, eq_mp_outcome, mk_comb_outcome, abs_outcome, beta_outcome}
use Rattle.hol_model.specs.Kernel.Rules.{deduct_antisym_outcome}
use Rattle.hol_model.specs.Kernel.NamedAxioms.{eta_theorem, select_theorem}
use Rattle.hol_model.specs.Logic.KnownTerm.{knows_type}
use Rattle.hol_model.specs.Terms.Substitution.{close_at, close, occurs_free, put, only}
use Rattle.hol_model.proofs.Terms.HolTypeEq.{type_eq-self}
use Rattle.hol_model.proofs.Tests.{same_name, same_variable-type}
use Rattle.hol_model.proofs.Logs.LogTests.{not_true}
use Rattle.hol_model.proofs.Terms.Filling.{fill_at-close_at}
use Rattle.hol_model.proofs.Terms.Images.{image-typed, image-abstraction, occurs_free-image, application-typed}
use Rattle.hol_kernel.proofs.RuleLemmas.{some_type}
use Rattle.hol_kernel.proofs.HypothesesLemmas.{image-without_hypothesis}
use Rattle.hol_kernel.proofs.OrderLemmas.{kept-ordered}
use Rattle.std.specs.Option.{option_map, option_map_or, is_some}
use Rattle.hol_model.specs.Logs.LogState.{set_of, term_type}
use Rattle.hol_model.specs.Logs.LogSequents.{supposing, equation_of, is_equation, is_free_variable, left_side, right_side, side_type, redex_body, abstraction_over}
use Rattle.hol_model.specs.Logs.LogFaults.{takes, is_free_in_any, is_trivial_redex}
use Rattle.hol_journal.specs.Steps.{by_refl, by_assume, by_trans, by_eq_mp, by_mk_comb, by_abs, by_beta, by_deduct, by_eta, by_select, JournalEntry, sequent_of_theorem}
use Rattle.hol_journal.specs.Lines.{Gives}
use Rattle.hol_journal.specs.Limits.{FitsLog}
use Rattle.hol_journal.proofs.SequentLemmas.{set_of-merged, set_of-ordered, equation_of-images, term_type-image}
use Rattle.hol_journal.proofs.Showing.{shown, refused-is, unless-is, given-is, concluded-is, same_sequent, neither, no_more, IsCited, sides_of, formula_of, value_of, answered, ok_is}

-- REFL
pub refl-gives : (theory : Theory) (entries : List JournalEntry) (term : NamedTerm) (ty : HolType) (answer : Theorem) → type_of term ≡ Some ty
    → refl_outcome theory term ≡ Ok answer → FitsLog answer → Gives theory entries (by_refl term) (sequent_of_theorem answer)
refl-gives theory entries term ty answer typed outcome fits =
    let is = concluded-is theory [] (equation term term) answer (refused-is (first_unknown theory term) (concluded theory [] (equation term term)) answer outcome) in
    shown theory entries (by_refl term) answer fits
    (λ state numbers names.
    ap (λ t. supposing [] (equation_of t t)) (names.terms term (inl refl)).is
    ∙ same_sequent refl (equation_of-images term term ty typed)
    ∙ ap sequent_of_theorem (sym is))
    (λ state numbers going names. record { number = (names.terms term (inl refl)).there; name = refl; kind = refl; condition = refl; room = no_more theory state going })

-- ASSUME
pub assume-gives : (theory : Theory) (entries : List JournalEntry) (term : NamedTerm) (ty : HolType) (answer : Theorem) → type_of term ≡ Some ty
    → assume_outcome theory term ≡ Ok answer → FitsLog answer → Gives theory entries (by_assume term) (sequent_of_theorem answer)
assume-gives theory entries term ty answer typed outcome fits =
    let made : Theorem = record { theory = theory; hypotheses = term ∷ []; conclusion = term } in
    let passed = unless-is (is_formula term) NotBool (refused (first_unknown theory term) (Ok made)) answer outcome in
    let is_bool : type_eq ty bool_type ≡ true = ap (λ o. option_map_or (λ t. type_eq t bool_type) o false) (sym typed) ∙ passed.0 in
    let same : Ok made ≡ Ok answer = refused-is (first_unknown theory term) (Ok made) answer passed.1 in
    let is : made ≡ answer = cc in
    shown theory entries (by_assume term) answer fits
    (λ state numbers names.
    ap (λ t. supposing (t ∷ []) t) (names.terms term (inl refl)).is
    ∙ ap sequent_of_theorem is)
    (λ state numbers going names. record {
      number = (names.terms term (inl refl)).there;
      name = refl;
      kind = ap not (ap (λ t. type_eq (term_type t) bool_type) (names.terms term (inl refl)).is ∙ ap (λ t. type_eq t bool_type) (term_type-image term ty typed) ∙ is_bool);
      condition = refl;
      room = no_more theory state going;
    })

-- TRANS
pub trans-gives : (theory : Theory) (entries : List JournalEntry) (i j : ℕ) (first second answer : Theorem) → IsCited entries i first → IsCited entries j second
    → trans_outcome theory first second ≡ Ok answer → FitsLog answer → Gives theory entries (by_trans i j) (sequent_of_theorem answer)
trans-gives theory entries i j first second answer cited_first cited_second outcome fits =
    let made = λ (left right : NamedTerm × NamedTerm). concluded theory (with_hypotheses first.hypotheses second.hypotheses) (equation left.0 right.1) in
    let one = given-is (dest_equation first.conclusion) NotEquation
    (λ left. given (dest_equation second.conclusion) NotEquation (λ right. unless (are_alpha_equivalent left.1 right.0) NotAlpha (made left right))) answer outcome in
    let left = one.0 in
    let two = given-is (dest_equation second.conclusion) NotEquation (λ right. unless (are_alpha_equivalent left.1 right.0) NotAlpha (made left right)) answer one.2 in
    let right = two.0 in
    let three = unless-is (are_alpha_equivalent left.1 right.0) NotAlpha (made left right) answer two.2 in
    let is = concluded-is theory (with_hypotheses first.hypotheses second.hypotheses) (equation left.0 right.1) answer three.1 in
    let e = sides_of first cited_first.is left.0 left.1 one.1 in
    let f = sides_of second cited_second.is right.0 right.1 two.1 in
    shown theory entries (by_trans i j) answer fits
    (λ state numbers names.
    (λ k. let s = ((names.theorems i (inl refl)).is ∙ cited_first.at) k in let t = ((names.theorems j (inr (inl refl))).is ∙ cited_second.at) k in
    supposing (s.hypotheses ++ t.hypotheses) (equation_of (left_side s.conclusion) (right_side t.conclusion)))
    ∙ same_sequent (set_of-merged first.hypotheses second.hypotheses cited_first.is.ordered)
    ((λ k. equation_of (left_side (e.image_is k)) (right_side (f.image_is k))) ∙ equation_of-images left.0 right.1 e.ty e.left_typed)
    ∙ ap sequent_of_theorem (sym is))
    (λ state numbers going names.
    let s = ap (λ t. t.conclusion) ((names.theorems i (inl refl)).is ∙ cited_first.at) ∙ e.image_is in
    let t = ap (λ t. t.conclusion) ((names.theorems j (inr (inl refl))).is ∙ cited_second.at) ∙ f.image_is in
    record {
      number = neither _ _ (names.theorems i (inl refl)).there (names.theorems j (inr (inl refl))).there;
      name = refl;
      kind = refl;
      condition = (λ k. not ((is_equation (s k) && is_equation (t k)) && same_term (right_side (s k)) (left_side (t k)))) ∙ ap not three.0;
      room = no_more theory state going;
    })

-- EQ_MP
pub eq_mp-gives : (theory : Theory) (entries : List JournalEntry) (i j : ℕ) (first second answer : Theorem) → IsCited entries i first → IsCited entries j second
    → eq_mp_outcome theory first second ≡ Ok answer → FitsLog answer → Gives theory entries (by_eq_mp i j) (sequent_of_theorem answer)
eq_mp-gives theory entries i j first second answer cited_first cited_second outcome fits =
    let made = λ (sides : NamedTerm × NamedTerm). answered (record { theory = theory; hypotheses = with_hypotheses first.hypotheses second.hypotheses; conclusion = sides.1 }) in
    let one = given-is (dest_equation first.conclusion) NotEquation (λ sides. unless (are_alpha_equivalent sides.0 second.conclusion) NotAlpha (made sides)) answer outcome in
    let sides = one.0 in
    let two = unless-is (are_alpha_equivalent sides.0 second.conclusion) NotAlpha (made sides) answer one.2 in
    let theorem : Theorem = record { theory = theory; hypotheses = with_hypotheses first.hypotheses second.hypotheses; conclusion = sides.1 } in
    let is = ok_is theorem answer two.1 in
    let e = sides_of first cited_first.is sides.0 sides.1 one.1 in
    shown theory entries (by_eq_mp i j) answer fits
    (λ state numbers names.
    (λ k. let s = ((names.theorems i (inl refl)).is ∙ cited_first.at) k in let t = ((names.theorems j (inr (inl refl))).is ∙ cited_second.at) k in
    supposing (s.hypotheses ++ t.hypotheses) (right_side s.conclusion))
    ∙ same_sequent (set_of-merged first.hypotheses second.hypotheses cited_first.is.ordered) (ap right_side e.image_is)
    ∙ ap sequent_of_theorem is)
    (λ state numbers going names.
    let s = ap (λ t. t.conclusion) ((names.theorems i (inl refl)).is ∙ cited_first.at) ∙ e.image_is in
    let t = ap (λ t. t.conclusion) ((names.theorems j (inr (inl refl))).is ∙ cited_second.at) in
    record {
      number = neither _ _ (names.theorems i (inl refl)).there (names.theorems j (inr (inl refl))).there;
      name = refl;
      kind = refl;
      condition = (λ k. not (is_equation (s k) && same_term (left_side (s k)) (t k))) ∙ ap not two.0;
      room = no_more theory state going;
    })

-- MK_COMB
pub mk_comb-gives : (theory : Theory) (entries : List JournalEntry) (i j : ℕ) (first second answer : Theorem) → IsCited entries i first → IsCited entries j second
    → mk_comb_outcome theory first second ≡ Ok answer → FitsLog answer → Gives theory entries (by_mk_comb i j) (sequent_of_theorem answer)
mk_comb-gives theory entries i j first second answer cited_first cited_second outcome fits =
    let made = λ (functions arguments : NamedTerm × NamedTerm).
    concluded theory (with_hypotheses first.hypotheses second.hypotheses) (equation (combination functions.0 arguments.0) (combination functions.1 arguments.1)) in
    let one = given-is (dest_equation first.conclusion) NotEquation
    (λ functions. given (dest_equation second.conclusion) NotEquation
    (λ arguments. unless (is_some (type_of (combination functions.0 arguments.0))) TypeMismatch (made functions arguments))) answer outcome in
    let functions = one.0 in
    let two = given-is (dest_equation second.conclusion) NotEquation
    (λ arguments. unless (is_some (type_of (combination functions.0 arguments.0))) TypeMismatch (made functions arguments)) answer one.2 in
    let arguments = two.0 in
    let three = unless-is (is_some (type_of (combination functions.0 arguments.0))) TypeMismatch (made functions arguments) answer two.2 in
    let left = combination functions.0 arguments.0 in
    let right = combination functions.1 arguments.1 in
    let is = concluded-is theory (with_hypotheses first.hypotheses second.hypotheses) (equation left right) answer three.1 in
    let e = sides_of first cited_first.is functions.0 functions.1 one.1 in
    let f = sides_of second cited_second.is arguments.0 arguments.1 two.1 in
    let found = value_of (type_of left) three.0 in
    let parts = application-typed (type_of functions.0) (type_of arguments.0) found.0 found.1 in
    let function : e.ty ≡ function_type parts.0 found.0 = some_type e.ty (function_type parts.0 found.0) (sym e.left_typed ∙ parts.1) in
    let argument : f.ty ≡ parts.0 = some_type f.ty parts.0 (sym f.left_typed ∙ parts.2) in
    let fitting : takes e.ty f.ty ≡ true = (λ k. takes (function k) (argument k)) ∙ type_eq-self parts.0 in
    shown theory entries (by_mk_comb i j) answer fits
    (λ state numbers names.
    (λ k. let s = ((names.theorems i (inl refl)).is ∙ cited_first.at) k in let t = ((names.theorems j (inr (inl refl))).is ∙ cited_second.at) k in
    supposing (s.hypotheses ++ t.hypotheses) (equation_of (app (left_side s.conclusion) (left_side t.conclusion)) (app (right_side s.conclusion) (right_side t.conclusion))))
    ∙ same_sequent (set_of-merged first.hypotheses second.hypotheses cited_first.is.ordered)
    ((λ k. equation_of (app (left_side (e.image_is k)) (left_side (f.image_is k))) (app (right_side (e.image_is k)) (right_side (f.image_is k))))
    ∙ equation_of-images left right found.0 found.1)
    ∙ ap sequent_of_theorem (sym is))
    (λ state numbers going names.
    let s = ap (λ t. t.conclusion) ((names.theorems i (inl refl)).is ∙ cited_first.at) ∙ e.image_is in
    let t = ap (λ t. t.conclusion) ((names.theorems j (inr (inl refl))).is ∙ cited_second.at) ∙ f.image_is in
    record {
      number = neither _ _ (names.theorems i (inl refl)).there (names.theorems j (inr (inl refl))).there;
      name = refl;
      kind = (λ k. (is_equation (s k) && is_equation (t k)) && not (takes (side_type (s k)) (side_type (t k)))) ∙ ap not fitting;
      condition = (λ k. not (is_equation (s k) && is_equation (t k)));
      room = no_more theory state going;
    })

-- a variable by its name and type
pub binder_is : (binder : NamedTerm) (bind : List ℕ × HolType) → dest_variable binder ≡ Some bind → binder ≡ variable bind.0 bind.1
binder_is (variable name ty) bind is = let same : (name, ty) ≡ bind = cc in ap (λ (b : List ℕ × HolType). variable b.0 b.1) same
binder_is _ bind is = cc

free_in_images : (name : List ℕ) (ty : HolType) (hypotheses : List NamedTerm) → is_free_in_any (free name ty) (map image hypotheses) ≡ is_free_in_hypotheses name ty hypotheses
free_in_images name ty [] = refl
free_in_images name ty (h ∷ hypotheses) = λ k. occurs_free-image name ty h k || free_in_images name ty hypotheses k

-- ABS
pub abs-gives : (theory : Theory) (entries : List JournalEntry) (binder : NamedTerm) (i : ℕ) (theorem answer : Theorem) → IsCited entries i theorem
    → abs_outcome theory binder theorem ≡ Ok answer → FitsLog answer → Gives theory entries (by_abs binder i) (sequent_of_theorem answer)
abs-gives theory entries binder i theorem answer cited outcome fits =
    let made = λ (bind : List ℕ × HolType) (sides : NamedTerm × NamedTerm). concluded theory theorem.hypotheses (equation (abstraction bind.0 bind.1 sides.0) (abstraction bind.0 bind.1 sides.1)) in
    let tested = λ (bind : List ℕ × HolType) (sides : NamedTerm × NamedTerm).
    unless (not (is_free_in_hypotheses bind.0 bind.1 theorem.hypotheses)) FreeInHypothesis (made bind sides) in
    let one = given-is (dest_variable binder) NotVariable
    (λ bind. given (dest_equation theorem.conclusion) NotEquation
    (λ sides. unless (knows_type theory bind.1) UnknownType (tested bind sides))) answer outcome in
    let bind = one.0 in
    let two = given-is (dest_equation theorem.conclusion) NotEquation (λ sides. unless (knows_type theory bind.1) UnknownType (tested bind sides)) answer one.2 in
    let sides = two.0 in
    let three = unless-is (knows_type theory bind.1) UnknownType (tested bind sides) answer two.2 in
    let four = unless-is (not (is_free_in_hypotheses bind.0 bind.1 theorem.hypotheses)) FreeInHypothesis (made bind sides) answer three.1 in
    let left = abstraction bind.0 bind.1 sides.0 in
    let right = abstraction bind.0 bind.1 sides.1 in
    let is = concluded-is theory theorem.hypotheses (equation left right) answer four.1 in
    let e = sides_of theorem cited.is sides.0 sides.1 two.1 in
    let variable_is : image binder ≡ free bind.0 bind.1 = ap image (binder_is binder bind one.1) in
    let typed : type_of left ≡ Some (function_type bind.1 e.ty) = ap (option_map (function_type bind.1)) e.left_typed in
    shown theory entries (by_abs binder i) answer fits
    (λ state numbers names.
    (λ k. let s = ((names.theorems i (inl refl)).is ∙ cited.at) k in let v = ((names.terms binder (inl refl)).is ∙ variable_is) k in
    supposing s.hypotheses (equation_of (abstraction_over v (left_side s.conclusion)) (abstraction_over v (right_side s.conclusion))))
    ∙ same_sequent (set_of-ordered theorem.hypotheses cited.is.ordered)
    ((λ k. equation_of (abstraction_over (free bind.0 bind.1) (left_side (e.image_is k))) (abstraction_over (free bind.0 bind.1) (right_side (e.image_is k))))
    ∙ (λ k. equation_of (sym (image-abstraction bind.0 bind.1 sides.0) k) (sym (image-abstraction bind.0 bind.1 sides.1) k))
    ∙ equation_of-images left right (function_type bind.1 e.ty) typed)
    ∙ ap sequent_of_theorem (sym is))
    (λ state numbers going names.
    let s = ap (λ t. t.conclusion) ((names.theorems i (inl refl)).is ∙ cited.at) ∙ e.image_is in
    let h = ap (λ t. t.hypotheses) ((names.theorems i (inl refl)).is ∙ cited.at) in
    let v = (names.terms binder (inl refl)).is ∙ variable_is in
    record {
      number = neither _ _ (names.terms binder (inl refl)).there (names.theorems i (inl refl)).there;
      name = refl;
      kind = ap (λ t. not (is_free_variable t)) v;
      condition = (λ k. not (is_equation (s k)) || is_free_in_any (v k) (h k)) ∙ free_in_images bind.0 bind.1 theorem.hypotheses ∙ not_true _ four.0;
      room = no_more theory state going;
    })

-- DEDUCT_ANTISYM_RULE
pub deduct-gives : (theory : Theory) (entries : List JournalEntry) (i j : ℕ) (first second answer : Theorem) → IsCited entries i first → IsCited entries j second
    → deduct_antisym_outcome theory first second ≡ Ok answer → FitsLog answer → Gives theory entries (by_deduct i j) (sequent_of_theorem answer)
deduct-gives theory entries i j first second answer cited_first cited_second outcome fits =
    let from_first = without_hypothesis second.conclusion first.hypotheses in
    let from_second = without_hypothesis first.conclusion second.hypotheses in
    let is = concluded-is theory (with_hypotheses from_first from_second) (equation first.conclusion second.conclusion) answer outcome in
    shown theory entries (by_deduct i j) answer fits
    (λ state numbers names.
    (λ k. let s = ((names.theorems i (inl refl)).is ∙ cited_first.at) k in let t = ((names.theorems j (inr (inl refl))).is ∙ cited_second.at) k in
    supposing (without t.conclusion s.hypotheses ++ without s.conclusion t.hypotheses) (equation_of s.conclusion t.conclusion))
    ∙ same_sequent
    ((λ k. set_of (sym (image-without_hypothesis second.conclusion first.hypotheses) k ++ sym (image-without_hypothesis first.conclusion second.hypotheses) k))
    ∙ set_of-merged from_first from_second (kept-ordered (λ h. not (are_alpha_equivalent h second.conclusion)) first.hypotheses cited_first.is.ordered))
    (equation_of-images first.conclusion second.conclusion bool_type (formula_of first cited_first.is))
    ∙ ap sequent_of_theorem (sym is))
    (λ state numbers going names. record {
      number = neither _ _ (names.theorems i (inl refl)).there (names.theorems j (inr (inl refl))).there;
      name = refl;
      kind = refl;
      condition = refl;
      room = no_more theory state going;
    })

-- the variable of a closed body is not free in it
closed-not_free : (passed : ℕ) (name : List ℕ) (ty : HolType) (term : Nameless) → occurs_free name ty (close_at passed name ty term) ≡ false
closed-not_free passed name ty (free other s) = go (same_variable name ty other s) refl
  where
    go : (test : Bool) → same_variable name ty other s ≡ test → occurs_free name ty (if test then bound passed else free other s) ≡ false
    go true is = refl
    go false is = is
closed-not_free passed name ty (const other s) = refl
closed-not_free passed name ty (bound index) = refl
closed-not_free passed name ty (app f x) = neither _ _ (closed-not_free passed name ty f) (closed-not_free passed name ty x)
closed-not_free passed name ty (lam s body) = closed-not_free (suc passed) name ty body

-- a variable put for itself
put-itself : (name : List ℕ) (ty : HolType) (term : Nameless) → put (only name ty (free name ty)) term ≡ term
put-itself name ty (free other s) = go (same_variable name ty other s) refl
  where
    go : (test : Bool) → same_variable name ty other s ≡ test → (if test then free name ty else free other s) ≡ free other s
    go true is = λ k. free (same_name name other ty s is k) (same_variable-type name other ty s is k)
    go false is = refl
put-itself name ty (const other s) = refl
put-itself name ty (bound index) = refl
put-itself name ty (app f x) = λ k. app (put-itself name ty f k) (put-itself name ty x k)
put-itself name ty (lam s body) = ap (λ b. lam s b) (put-itself name ty body)

-- the parts of an abstraction that is applied to the very variable that it binds
record IsTrivialRedex (term body : NamedTerm) : Type 0 where
  name : List ℕ
  ty : HolType
  image_is : image term ≡ app (lam ty (close name ty (image body))) (free name ty)
  body_typed : (b : HolType) → type_of term ≡ Some b → (c : HolType) × (type_of body ≡ Some c)

trivial_redex : (term body : NamedTerm) → dest_trivial_redex term ≡ Some body → IsTrivialRedex term body
trivial_redex (combination (abstraction name s inner) (variable other t)) body is = go (same_variable name s other t) refl is
  where
    argument_typed : (found : Option HolType) (b : HolType) → application_type (option_map (function_type s) found) (Some t) ≡ Some b → (c : HolType) × (found ≡ Some c)
    argument_typed None b typed = cc
    argument_typed (Some c) b typed = (c, refl)

    go : (test : Bool) → same_variable name s other t ≡ test → if◌then◌else◌ {A = Option NamedTerm} test (Some inner) None ≡ Some body
        → IsTrivialRedex (combination (abstraction name s inner) (variable other t)) body
    go true passed is =
        let same : inner ≡ body = cc in
        subst (λ (b : NamedTerm). IsTrivialRedex (combination (abstraction name s inner) (variable other t)) b) same (record {
          name = name;
          ty = s;
          image_is = λ k. app (image-abstraction name s inner k) (free (sym (same_name name other s t passed) k) (sym (same_variable-type name other s t passed) k));
          body_typed = λ b typed. argument_typed (type_of inner) b typed;
        })
    go false passed is = cc
trivial_redex _ body is = cc

-- BETA
pub beta-gives : (theory : Theory) (entries : List JournalEntry) (term : NamedTerm) (ty : HolType) (answer : Theorem) → type_of term ≡ Some ty
    → beta_outcome theory term ≡ Ok answer → FitsLog answer → Gives theory entries (by_beta term) (sequent_of_theorem answer)
beta-gives theory entries term ty answer typed outcome fits =
    let one = given-is (dest_trivial_redex term) NotTrivialBeta (λ body. refused (first_unknown theory term) (concluded theory [] (equation term body))) answer outcome in
    let body = one.0 in
    let is = concluded-is theory [] (equation term body) answer (refused-is (first_unknown theory term) (concluded theory [] (equation term body)) answer one.2) in
    let r = trivial_redex term body one.1 in
    let inner = r.body_typed ty typed in
    let filled : redex_body (image term) ≡ image body =
    ap redex_body r.image_is
    ∙ fill_at-close_at r.name r.ty (free r.name r.ty) (image body) [] inner.0 (image-typed body inner.0 inner.1)
    ∙ put-itself r.name r.ty (image body) in
    shown theory entries (by_beta term) answer fits
    (λ state numbers names.
    ap (λ t. supposing [] (equation_of t (redex_body t))) (names.terms term (inl refl)).is
    ∙ same_sequent refl (ap (equation_of (image term)) filled ∙ equation_of-images term body ty typed)
    ∙ ap sequent_of_theorem (sym is))
    (λ state numbers going names. record {
      number = (names.terms term (inl refl)).there;
      name = refl;
      kind = refl;
      condition = ap (λ t. not (is_trivial_redex t)) ((names.terms term (inl refl)).is ∙ r.image_is) ∙ ap (λ free_there. not (not free_there)) (closed-not_free 0 r.name r.ty (image body));
      room = no_more theory state going;
    })

-- the axioms

pub eta-gives : (theory : Theory) (entries : List JournalEntry) (answer : Theorem) → answer ≡ eta_theorem theory → FitsLog answer → Gives theory entries by_eta (sequent_of_theorem answer)
eta-gives theory entries answer is fits =
    shown theory entries by_eta answer fits
    (λ state numbers names. ap sequent_of_theorem (sym is))
    (λ state numbers going names. record { number = refl; name = refl; kind = refl; condition = refl; room = no_more theory state going })

pub select-gives : (theory : Theory) (entries : List JournalEntry) (answer : Theorem) → answer ≡ select_theorem theory → FitsLog answer
    → Gives theory entries by_select (sequent_of_theorem answer)
select-gives theory entries answer is fits =
    shown theory entries by_select answer fits
    (λ state numbers names. ap sequent_of_theorem (sym is))
    (λ state numbers going names. record { number = refl; name = refl; kind = refl; condition = refl; room = no_more theory state going })
