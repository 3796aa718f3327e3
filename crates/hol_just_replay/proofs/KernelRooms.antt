-- The kernel's rules find room.
use Rattle.std.proofs.Common.{◌≡◌, ℕ, ◌+◌, ◌≤◌, List, [], ◌∷◌, map, Bool, true, false, ◌&&◌, not, refl, sym, ◌∙◌, ap, subst, arith, nat_le, Option, Some, None, Result, Ok, Err}
use Rattle.std.specs.Option.{option_map, is_some}
use Rattle.std.proofs.lemmas.Bool.{leb-true, le-leb}
use Rattle.hol_model.specs.declared.fault.Fault.{Fault}
use Rattle.hol_model.specs.declared.fault.Fault.TheVariants.{Memory, TooLarge, NotEquation, NotAlpha, NotBool, NotTrivialBeta, TypeMismatch, UnknownType, FreeInHypothesis, InvalidStep}
use Rattle.hol_model.specs.declared.limits.TheConstants.{TYPE_NODES_LIMIT, TERM_NODES_LIMIT, TERM_HEIGHT_LIMIT}
use Rattle.hol_model.specs.Terms.HolType.{HolType, bool_type, function_type, type_nodes}
use Rattle.hol_model.specs.Terms.NamedTerm.{NamedTerm, variable, constant, abstraction, combination, type_of, equation, is_within_limits, height, nodes, types_fit, some_type_fits}
use Rattle.hol_model.specs.Terms.Nameless.{Nameless, app, image, nameless_type, HasType}
use Rattle.hol_model.specs.Terms.Measures.{nameless_height, nameless_nodes, nameless_types_fit, nameless_within_limits}
use Rattle.hol_model.specs.Logic.Theory.{Theory, IsLegal, equality_type}
use Rattle.hol_model.specs.Logic.Checks.{knows_nameless}
use Rattle.hol_model.specs.Logic.KnownTerm.{knows_type}
use Rattle.hol_model.specs.Logic.Derivable.{nameless_equation}
use Rattle.hol_model.specs.Kernel.Theorem.{Theorem, with_hypotheses, without_hypothesis, are_alpha_equivalent}
use Rattle.hol_model.specs.Kernel.Outcome.{Answers, unless, given as outcome_given, refused}
use Rattle.hol_model.specs.Kernel.Rules.{first_unknown, is_formula, dest_equation, dest_trivial_redex, concluded, is_free_in_hypotheses, refl_outcome}
use Rattle.hol_model.specs.Kernel.Rules.{assume_outcome, beta_outcome, trans_outcome, eq_mp_outcome, mk_comb_outcome, abs_outcome}
use Rattle.hol_model.specs.Kernel.Rules.{deduct_antisym_outcome}
use Rattle.hol_model.specs.Goals.Replays.{terms_of_sequent}
use Rattle.hol_model.specs.Derived.DerivedRules.{is_roomy, terms_of_theorem}
use Rattle.hol_model.specs.Derived.InferenceRules.{InferenceRule}
use Rattle.hol_model.specs.declared.rule.Rule.TheVariants as rules
use Rattle.hol_model.specs.Derived.Inference.{given, require, conclude, is_known_term, drawn}
use Rattle.hol_model.proofs.Tests.{first_of_both, second_of_both, both, same_term-Decides}
use Rattle.hol_model.proofs.Terms.Images.{image-typed, image-type, image-equation, application-typed}
use Rattle.hol_model.proofs.Terms.Typing.{nameless_type-is}
use Rattle.hol_model.proofs.Terms.Measures.{height-image, nodes-image, past_limits-image}
use Rattle.hol_model.proofs.Terms.WithinLimits.{within_limits-image}
use Rattle.hol_model.proofs.Logic.Checks.{knows_nameless-Decides}
use Rattle.hol_kernel.proofs.RuleLemmas.{sides, known_term, beta-types}
use Rattle.hol_journal.specs.Journal.{Recorded, theorem_in}
use Rattle.hol_equal.proofs.StepLemmas.{equation-typed}
use Rattle.hol_equal.proofs.Sizes.{IsSized, leaves_room, sized-app, sized-equation, sized-within, equation-room, EquationRoom}
use Rattle.hol_equal.proofs.DrawnTerms.{IsPremise}
use Rattle.hol_just_replay.specs.Room.{IsNotLarge, are_roomy, HasRoom, FindsRoom}
use Rattle.hol_just_replay.proofs.RoomLemmas.{fits-unless, fits-refused, kernel-room}

-- a conclusion that fits
concluded-fits : (theory : Theory) (hypotheses : List NamedTerm) (conclusion : NamedTerm) → (is_within_limits conclusion ≡ false → ⊥) → IsNotLarge (concluded theory hypotheses conclusion)
concluded-fits theory hypotheses conclusion within = go (is_within_limits conclusion) refl
  where
    go : (test : Bool) → is_within_limits conclusion ≡ test → IsNotLarge {A = Theorem} (unless test TooLarge (Ok (record { theory = theory; hypotheses = hypotheses; conclusion = conclusion })))
    go true is = tt
    go false is = λ large. within is

equation-fits : (tall many : ℕ) (l r : NamedTerm) (ty : HolType) → type_of l ≡ Some ty → type_of r ≡ Some ty → tall ≤ 2000 → many ≤ 4000000
    → IsSized tall many (nameless_equation ty (image l) (image r))
    → is_within_limits (equation l r) ≡ false → ⊥
equation-fits tall many l r ty left right low few sized past =
    let outside : nameless_within_limits (image (equation l r)) ≡ false = past_limits-image (equation l r) bool_type (equation-typed l r ty left right) past in
    let inside : nameless_within_limits (nameless_equation ty (image l) (image r)) ≡ true = sized-within tall many (nameless_equation ty (image l) (image r)) sized low few in
    let same : image (equation l r) ≡ nameless_equation ty (image l) (image r) = image-equation l r ty left in
    let moved : nameless_within_limits (image (equation l r)) ≡ true = ap nameless_within_limits same ∙ inside in
    cc

first-roomy : (term : Nameless) (rest : List Nameless) → are_roomy (term ∷ rest) ≡ true → is_roomy term ≡ true
first-roomy term rest roomy = first_of_both (is_roomy term) (are_roomy rest) roomy

-- ---- rules without premises

-- a term that is walked, and an equation of it that is drawn
walked-fits : (theory : Theory) (t body : NamedTerm) (ty : HolType) → type_of t ≡ Some ty → type_of body ≡ Some ty
    → are_roomy (terms_of_sequent (given
    (require (is_known_term theory (image t)) (conclude [] (nameless_equation (nameless_type [] (image t)) (image t) (image body))))
    (λ inference. drawn inference []))) ≡ true
    → IsNotLarge (refused (first_unknown theory t) (concluded theory [] (equation t body)))
walked-fits theory t body ty typed body_typed roomy = go (first_unknown theory t) refl
  where
    is : nameless_type [] (image t) ≡ ty
    is = nameless_type-is (image t) [] ty (image-typed t ty typed)

    c : Nameless
    c = nameless_equation (nameless_type [] (image t)) (image t) (image body)

    unknown : (found : Option Fault) → first_unknown theory t ≡ found → IsNotLarge (refused found (concluded theory [] (equation t body)))
        → IsNotLarge (refused (first_unknown theory t) (concluded theory [] (equation t body)))
    unknown found same fits = subst (λ (o : Option Fault). IsNotLarge (refused o (concluded theory [] (equation t body)))) (sym same) fits

    fits : first_unknown theory t ≡ None → is_within_limits (equation t body) ≡ false → ⊥
    fits none =
        let known : is_known_term theory (image t) ≡ true =
        subst (λ (s : HolType). knows_nameless theory (image t) s ≡ true) (sym is)
        ((knows_nameless-Decides theory (image t) ty).1 (known_term theory t ty none typed)) in
        let leaves : is_roomy c ≡ true =
        first-roomy c [] (subst (λ (b : Bool).
        are_roomy (terms_of_sequent (given (require b (conclude [] c)) (λ inference. drawn inference []))) ≡ true) known roomy) in
        let sized : IsSized 1000 5000 (nameless_equation ty (image t) (image body)) =
        subst (λ (s : HolType). IsSized 1000 5000 (nameless_equation s (image t) (image body))) is (leaves_room c leaves).sized in
        equation-fits 1000 5000 t body ty typed body_typed (omega arith) (omega arith) sized

    go : (found : Option Fault) → first_unknown theory t ≡ found → IsNotLarge (refused found (concluded theory [] (equation t body)))
    go None none = concluded-fits theory [] (equation t body) (fits none)
    go (Some fault) some = λ large. other fault some large
      where
        other : (fault : Fault) → first_unknown theory t ≡ Some fault → fault ≡ TooLarge → ⊥
        other fault found large = (subst (λ (o : Option Fault). IsNotLarge (refused {A = Theorem} o (Err Memory))) found (fits-refused {A = Theorem} theory t (Err Memory) (λ memory. cc))) large

pub room-refl : {theory : Theory} {t : NamedTerm} {ty : HolType} {result : Result Theorem Fault} → type_of t ≡ Some ty
    → Answers result (refl_outcome theory t) → FindsRoom theory (rules.Refl t) [] result
room-refl {theory} {t} {ty} {result} typed answers = kernel-room theory (rules.Refl t) [] (refl_outcome theory t) result (λ room. walked-fits theory t t ty typed typed room.drawn) answers

pub assume-fits : (theory : Theory) (p : NamedTerm) → IsNotLarge (assume_outcome theory p)
assume-fits theory p =
    let made : Theorem = record { theory = theory; hypotheses = p ∷ []; conclusion = p } in
    fits-unless {A = Theorem} (is_formula p) NotBool (refused (first_unknown theory p) (Ok made)) (λ is. cc) (fits-refused {A = Theorem} theory p (Ok made) tt)

pub room-assume : {theory : Theory} {p : NamedTerm} {result : Result Theorem Fault} → Answers result (assume_outcome theory p) → FindsRoom theory (rules.Assume p) [] result
room-assume {theory} {p} {result} answers = kernel-room theory (rules.Assume p) [] (assume_outcome theory p) result (λ room. assume-fits theory p) answers

pub room-beta : {theory : Theory} {t : NamedTerm} {ty : HolType} {result : Result Theorem Fault} → IsLegal theory → type_of t ≡ Some ty
    → Answers result (beta_outcome theory t) → FindsRoom theory (rules.Beta t) [] result
room-beta {theory} {t} {ty} {result} legal typed answers = kernel-room theory (rules.Beta t) [] (beta_outcome theory t) result (λ room. go (dest_trivial_redex t) refl room.drawn) answers
  where
    go : (found : Option NamedTerm) → dest_trivial_redex t ≡ found
        → are_roomy (terms_of_sequent (given
        (given found (λ body. require (is_known_term theory (image t))
        (conclude [] (nameless_equation (nameless_type [] (image t)) (image t) (image body))))) (λ inference. drawn inference []))) ≡ true
        → IsNotLarge (outcome_given found NotTrivialBeta (λ body. refused (first_unknown theory t) (concluded theory [] (equation t body))))
    go None is roomy = λ large. cc
    go (Some body) is roomy = walked-fits theory t body ty typed (beta-types theory legal t body is ty typed) roomy

-- ---- rules of two premises

-- the sides of a conclusion that leaves room
sides-room : (conclusion : NamedTerm) (ty : HolType) (l r : NamedTerm) (rest : List Nameless)
    → image conclusion ≡ nameless_equation ty (image l) (image r) → are_roomy (image conclusion ∷ rest) ≡ true → EquationRoom ty (image l) (image r)
sides-room conclusion ty l r rest is roomy = equation-room ty (image l) (image r) (subst (λ (c : Nameless). is_roomy c ≡ true) is (first-roomy (image conclusion) rest roomy))

-- two terms of one image have one type
alike-typed : (m n : NamedTerm) (s t : HolType) → type_of m ≡ Some s → type_of n ≡ Some t → image m ≡ image n → s ≡ t
alike-typed m n s t left right same =
    let typed : HasType [] (image n) s = subst (λ (x : Nameless). HasType [] x s) same (image-typed m s left) in
    let one : Some s ≡ Some t = sym (image-type n s typed) ∙ right in
    cc

pub room-trans : {theory : Theory} {a b : Theorem} {result : Result Theorem Fault} → IsLegal theory → IsPremise theory a → IsPremise theory b
    → Answers result (trans_outcome theory a b) → FindsRoom theory rules.Trans (a ∷ b ∷ []) result
room-trans {theory} {a} {b} {result} legal first second answers =
    kernel-room theory rules.Trans (a ∷ b ∷ []) (trans_outcome theory a b) result
    (λ room. go (dest_equation a.conclusion) refl (dest_equation b.conclusion) refl room.premises_roomy.0 room.premises_roomy.1.0) answers
  where
    h : List NamedTerm
    h = with_hypotheses a.hypotheses b.hypotheses

    meet : (l m n r : NamedTerm) → dest_equation a.conclusion ≡ Some (l, m) → dest_equation b.conclusion ≡ Some (n, r) → are_roomy (terms_of_theorem a) ≡ true → are_roomy (terms_of_theorem b) ≡ true
        → (test : Bool) → are_alpha_equivalent m n ≡ test → IsNotLarge (unless test NotAlpha (concluded theory h (equation l r)))
    meet l m n r one two left right false is = λ large. cc
    meet l m n r one two left right true is =
        let e = sides theory legal a.conclusion l m first.known one in
        let f = sides theory legal b.conclusion n r second.known two in
        let types : e.ty ≡ f.ty = alike-typed m n e.ty f.ty e.right_typed f.left_typed ((same_term-Decides (image m) (image n)).0 is) in
        let from_first = sides-room a.conclusion e.ty l m (map image a.hypotheses) e.image_is left in
        let from_second = sides-room b.conclusion f.ty n r (map image b.hypotheses) f.image_is right in
        let few = from_first.few in
        concluded-fits theory h (equation l r)
        (equation-fits 1002 10003 l r e.ty e.left_typed (f.right_typed ∙ ap Some (sym types)) (omega arith) (omega arith)
        (sized-equation 1000 5000 5000 e.ty (image l) (image r) (omega arith) (omega arith) from_first.left from_second.right))

    go : (one : Option (NamedTerm × NamedTerm)) → dest_equation a.conclusion ≡ one → (two : Option (NamedTerm × NamedTerm)) → dest_equation b.conclusion ≡ two
        → are_roomy (terms_of_theorem a) ≡ true → are_roomy (terms_of_theorem b) ≡ true
        → IsNotLarge (outcome_given one NotEquation
        (λ left. outcome_given two NotEquation
        (λ right. unless (are_alpha_equivalent left.1 right.0) NotAlpha (concluded theory h (equation left.0 right.1)))))
    go None one other two left right = λ large. cc
    go (Some (l, m)) one None two left right = λ large. cc
    go (Some (l, m)) one (Some (n, r)) two left right = meet l m n r one two left right (are_alpha_equivalent m n) refl

pub room-mk_comb : {theory : Theory} {a b : Theorem} {result : Result Theorem Fault} → IsLegal theory → IsPremise theory a → IsPremise theory b
    → Answers result (mk_comb_outcome theory a b) → FindsRoom theory rules.MkComb (a ∷ b ∷ []) result
room-mk_comb {theory} {a} {b} {result} legal first second answers =
    kernel-room theory rules.MkComb (a ∷ b ∷ []) (mk_comb_outcome theory a b) result
    (λ room. go (dest_equation a.conclusion) refl (dest_equation b.conclusion) refl room.premises_roomy.0 room.premises_roomy.1.0) answers
  where
    h : List NamedTerm
    h = with_hypotheses a.hypotheses b.hypotheses

    meet : (f g x y : NamedTerm) → dest_equation a.conclusion ≡ Some (f, g) → dest_equation b.conclusion ≡ Some (x, y) → are_roomy (terms_of_theorem a) ≡ true → are_roomy (terms_of_theorem b) ≡ true
        → (found : Option HolType) → type_of (combination f x) ≡ found → IsNotLarge (unless (is_some found) TypeMismatch (concluded theory h (equation (combination f x) (combination g y))))
    meet f g x y one two left right None is = λ large. cc
    meet f g x y one two left right (Some ty) is =
        let functions = sides theory legal a.conclusion f g first.known one in
        let arguments = sides theory legal b.conclusion x y second.known two in
        let other : type_of (combination g y) ≡ Some ty = rw (functions.right_typed, arguments.right_typed) (rw (functions.left_typed, arguments.left_typed) at is) in
        let parts = application-typed (type_of f) (type_of x) ty is in
        let arrow : Some functions.ty ≡ Some (function_type parts.0 ty) = sym functions.left_typed ∙ parts.1 in
        let function : functions.ty ≡ function_type parts.0 ty = cc in
        let from_first = sides-room a.conclusion functions.ty f g (map image a.hypotheses) functions.image_is left in
        let from_second = sides-room b.conclusion arguments.ty x y (map image b.hypotheses) arguments.image_is right in
        let wide : type_nodes (equality_type (function_type parts.0 ty)) ≤ 250 = subst (λ (s : HolType). type_nodes (equality_type s) ≤ 250) function from_first.few in
        let one_side = sized-app 1000 5000 5000 (image f) (image x) from_first.left from_second.left in
        let other_side = sized-app 1000 5000 5000 (image g) (image y) from_first.right from_second.right in
        concluded-fits theory h (equation (combination f x) (combination g y))
        (equation-fits 1003 20005 (combination f x) (combination g y) ty is other (omega arith) (omega arith)
        (sized-equation 1001 10001 10001 ty (app (image f) (image x)) (app (image g) (image y)) (omega arith) (omega arith) one_side other_side))

    go : (one : Option (NamedTerm × NamedTerm)) → dest_equation a.conclusion ≡ one → (two : Option (NamedTerm × NamedTerm)) → dest_equation b.conclusion ≡ two
        → are_roomy (terms_of_theorem a) ≡ true → are_roomy (terms_of_theorem b) ≡ true
        → IsNotLarge (outcome_given one NotEquation (λ functions. outcome_given two NotEquation (λ arguments.
        unless (is_some (type_of (combination functions.0 arguments.0))) TypeMismatch (concluded theory h (equation (combination functions.0 arguments.0) (combination functions.1 arguments.1))))))
    go None one other two left right = λ large. cc
    go (Some (f, g)) one None two left right = λ large. cc
    go (Some (f, g)) one (Some (x, y)) two left right = meet f g x y one two left right (type_of (combination f x)) refl

pub room-eq_mp : {theory : Theory} {a b : Theorem} {result : Result Theorem Fault} → Answers result (eq_mp_outcome theory a b) → FindsRoom theory rules.EqMp (a ∷ b ∷ []) result
room-eq_mp {theory} {a} {b} {result} answers = kernel-room theory rules.EqMp (a ∷ b ∷ []) (eq_mp_outcome theory a b) result (λ room. go (dest_equation a.conclusion)) answers
  where
    meet : (r : NamedTerm) (test : Bool) → IsNotLarge {A = Theorem} (unless test NotAlpha (Ok (record { theory = theory; hypotheses = with_hypotheses a.hypotheses b.hypotheses; conclusion = r })))
    meet r true = tt
    meet r false = λ large. cc

    go : (one : Option (NamedTerm × NamedTerm))
        → IsNotLarge {A = Theorem} (outcome_given one NotEquation
        (λ sides. unless (are_alpha_equivalent sides.0 b.conclusion) NotAlpha
        (Ok (record { theory = theory; hypotheses = with_hypotheses a.hypotheses b.hypotheses; conclusion = sides.1 }))))
    go None = λ large. cc
    go (Some (l, r)) = meet r (are_alpha_equivalent l b.conclusion)

pub room-deduct_antisym : {theory : Theory} {a b : Theorem} {result : Result Theorem Fault} → IsPremise theory a → IsPremise theory b → Answers result (deduct_antisym_outcome theory a b)
    → FindsRoom theory rules.DeductAntisym (a ∷ b ∷ []) result
room-deduct_antisym {theory} {a} {b} {result} first second answers = kernel-room theory rules.DeductAntisym (a ∷ b ∷ []) (deduct_antisym_outcome theory a b) result (λ room. fits room) answers
  where
    fits : HasRoom theory rules.DeductAntisym (a ∷ b ∷ []) → IsNotLarge (deduct_antisym_outcome theory a b)
    fits room =
        let left = (leaves_room (image a.conclusion) (first-roomy (image a.conclusion) (map image a.hypotheses) room.premises_roomy.0)).sized in
        let right = (leaves_room (image b.conclusion) (first-roomy (image b.conclusion) (map image b.hypotheses) room.premises_roomy.1.0)).sized in
        concluded-fits theory (with_hypotheses (without_hypothesis b.conclusion a.hypotheses) (without_hypothesis a.conclusion b.hypotheses)) (equation a.conclusion b.conclusion)
        (equation-fits 1002 10003 a.conclusion b.conclusion bool_type first.typed second.typed (omega arith) (omega arith)
        (sized-equation 1000 5000 5000 bool_type (image a.conclusion) (image b.conclusion) (omega arith) (omega arith) left right))

-- ---- ABS

-- the abstraction of a term
closed-sized : (name : List ℕ) (ty c : HolType) (body : NamedTerm) → type_of body ≡ Some c → type_nodes ty ≤ 250 → type_nodes c ≤ 250
    → IsSized 1000 5000 (image body) → IsSized 1001 5001 (image (abstraction name ty body))
closed-sized name ty c body typed few less sized =
    let whole = abstraction name ty body in
    let height_is : nameless_height (image whole) ≡ height body + 1 = height-image [] whole in
    let nodes_is : nameless_nodes (image whole) ≡ nodes body + 1 = nodes-image [] whole in
    let body_height : nameless_height (image body) ≡ height body = height-image [] body in
    let body_nodes : nameless_nodes (image body) ≡ nodes body = nodes-image [] body in
    let low_body = sized.height in
    let few_nodes = sized.nodes in
    let fits : types_fit whole ≡ true =
    both (types_fit body) (some_type_fits (option_map (function_type ty) (type_of body)))
    (second_of_both (nat_le (height body) TERM_HEIGHT_LIMIT && nat_le (nodes body) TERM_NODES_LIMIT) (types_fit body)
    (within (is_within_limits body) refl))
    (ap (λ (o : Option HolType). some_type_fits (option_map (function_type ty) o)) typed ∙ le-leb (type_nodes (function_type ty c)) TYPE_NODES_LIMIT (omega arith)) in
    let low_whole : height whole ≤ TERM_HEIGHT_LIMIT = omega arith in
    let few_whole : nodes whole ≤ TERM_NODES_LIMIT = omega arith in
    let inside : is_within_limits whole ≡ true =
    both (nat_le (height whole) TERM_HEIGHT_LIMIT && nat_le (nodes whole) TERM_NODES_LIMIT) (types_fit whole)
    (both (nat_le (height whole) TERM_HEIGHT_LIMIT) (nat_le (nodes whole) TERM_NODES_LIMIT) (le-leb (height whole) TERM_HEIGHT_LIMIT low_whole)
    (le-leb (nodes whole) TERM_NODES_LIMIT few_whole)) fits in
    let whole_typed : type_of whole ≡ Some (function_type ty c) = ap (option_map (function_type ty)) typed in
    let image_inside : nameless_within_limits (image whole) ≡ true = within_limits-image whole (function_type ty c) whole_typed inside in
    record {
      height = omega arith;
      nodes = omega arith;
      types = second_of_both (nat_le (nameless_height (image whole)) TERM_HEIGHT_LIMIT && nat_le (nameless_nodes (image whole)) TERM_NODES_LIMIT) (nameless_types_fit [] (image whole)) image_inside;
    }
  where
    within : (test : Bool) → is_within_limits body ≡ test → is_within_limits body ≡ true
    within true is = is
    within false is =
        let past : nameless_within_limits (image body) ≡ false = past_limits-image body c typed is in
        let fits : nameless_within_limits (image body) ≡ true = sized-within 1000 5000 (image body) sized (omega arith) (omega arith) in
        cc

-- a variable that leaves room is of a small type
variable-few : (name : List ℕ) (ty : HolType) → are_roomy (image (variable name ty) ∷ []) ≡ true → type_nodes ty ≤ 250
variable-few name ty roomy = leb-true (type_nodes ty) 250 (leaves_room (image (variable name ty)) (first-roomy (image (variable name ty)) [] roomy)).types

pub room-abs : {theory : Theory} {x : NamedTerm} {a : Theorem} {result : Result Theorem Fault} → IsLegal theory → IsPremise theory a
    → Answers result (abs_outcome theory x a) → FindsRoom theory (rules.Abs x) (a ∷ []) result
room-abs {theory} {x} {a} {result} legal premise answers =
    kernel-room theory (rules.Abs x) (a ∷ []) (abs_outcome theory x a) result (λ room. over x room.taken room.premises_roomy.0) answers
  where
    meet : (name : List ℕ) (ty : HolType) (l r : NamedTerm) → dest_equation a.conclusion ≡ Some (l, r) → type_nodes ty ≤ 250 → are_roomy (terms_of_theorem a) ≡ true → (known fresh : Bool)
        → IsNotLarge (unless known UnknownType (unless fresh FreeInHypothesis (concluded theory a.hypotheses (equation (abstraction name ty l) (abstraction name ty r)))))
    meet name ty l r is few roomy false fresh = λ large. cc
    meet name ty l r is few roomy true false = λ large. cc
    meet name ty l r is few roomy true true =
        let e = sides theory legal a.conclusion l r premise.known is in
        let from_premise = sides-room a.conclusion e.ty l r (map image a.hypotheses) e.image_is roomy in
        let wide = from_premise.few in
        let left = closed-sized name ty e.ty l e.left_typed few (omega arith) from_premise.left in
        let right = closed-sized name ty e.ty r e.right_typed few (omega arith) from_premise.right in
        concluded-fits theory a.hypotheses (equation (abstraction name ty l) (abstraction name ty r))
        (equation-fits 1003 10005 (abstraction name ty l) (abstraction name ty r) (function_type ty e.ty)
        (ap (option_map (function_type ty)) e.left_typed) (ap (option_map (function_type ty)) e.right_typed) (omega arith) (omega arith)
        (sized-equation 1001 5001 5001 (function_type ty e.ty) (image (abstraction name ty l)) (image (abstraction name ty r)) (omega arith) (omega arith) left right))

    go : (name : List ℕ) (ty : HolType) → type_nodes ty ≤ 250 → are_roomy (terms_of_theorem a) ≡ true → (one : Option (NamedTerm × NamedTerm)) → dest_equation a.conclusion ≡ one
        → IsNotLarge (outcome_given one NotEquation (λ sides. unless (knows_type theory ty) UnknownType (unless (not (is_free_in_hypotheses name ty a.hypotheses)) FreeInHypothesis
        (concluded theory a.hypotheses (equation (abstraction name ty sides.0) (abstraction name ty sides.1))))))
    go name ty few roomy None is = λ large. cc
    go name ty few roomy (Some (l, r)) is = meet name ty l r is few roomy (knows_type theory ty) (not (is_free_in_hypotheses name ty a.hypotheses))

    over : (x : NamedTerm) → are_roomy (image x ∷ []) ≡ true → are_roomy (terms_of_theorem a) ≡ true → IsNotLarge (abs_outcome theory x a)
    over (variable name ty) taken roomy = go name ty (variable-few name ty taken) roomy (dest_equation a.conclusion) refl
    over (constant name ty) taken roomy = λ large. cc
    over (combination f y) taken roomy = λ large. cc
    over (abstraction name ty body) taken roomy = λ large. cc

-- ---- axioms, and what is refused

pub room-refused : {theory : Theory} {rule : InferenceRule} {premises : List Theorem} {result : Result Recorded Fault} → result ≡ Err InvalidStep → FindsRoom theory rule premises (theorem_in result)
room-refused {theory} {rule} {premises} {result} is = rw is (record { finds = λ room. λ large. cc })
