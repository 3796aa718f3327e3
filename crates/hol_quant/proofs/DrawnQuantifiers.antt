-- The rules of the quantifiers draw what their outcomes state.
use Rattle.std.proofs.Common.{◌≡◌, ℕ, List, [], ◌∷◌, ◌++◌, map, Bool, true, false, ◌&&◌, ◌||◌, not, if◌then◌else◌, refl, sym, ◌∙◌, ap, subst, Option, Some, None, Result}
use Rattle.std.specs.Option.{option_map}
use Rattle.std.specs.Str.{bytes_eq}
use Rattle.std.proofs.lemmas.Slice.Eq.{bytes_eq-Decides}
use Rattle.hol_model.specs.declared.fault.Fault.{Fault}
use Rattle.hol_model.specs.declared.fault.Fault.TheVariants.{BadShape, TypeMismatch, UnknownType, UnknownConst, NotInstance, FreeInHypothesis, NotAlpha}
use Rattle.hol_model.specs.Terms.HolType.{HolType, bool_type, function_type, type_eq}
use Rattle.hol_model.specs.Terms.NamedTerm.{NamedTerm, variable, constant, combination, abstraction, type_of}
use Rattle.hol_model.specs.Terms.Nameless.{Nameless, free, const, app, lam, image, same_term}
use Rattle.hol_model.specs.Logic.Logic.{logical_definitions, forall_name, exists_name, quantifier}
use Rattle.hol_model.specs.Logic.Logic as nameless_formulas
use Rattle.hol_model.specs.Terms.Substitution.{close, fill, occurs_free}
use Rattle.hol_model.specs.Logic.Theory.{Theory, IsLegal, IsKnown, generic_type, type_a}
use Rattle.hol_model.specs.Kernel.Theorem.{Theorem}
use Rattle.hol_model.specs.Logic.KnownTerm.{knows_type, knows_types, knows_constants, has_instances, is_known}
use Rattle.hol_model.specs.Logic.Checks.{knows_nameless}
use Rattle.hol_model.specs.Logic.Derivable.{without}
use Rattle.hol_model.specs.Kernel.Outcome.{unless, given as stated_given, refused}
use Rattle.hol_model.specs.Kernel.Rules.{first_unknown}
use Rattle.hol_model.specs.Logic.NamedLogic.{Abstracted}
use Rattle.hol_model.specs.Logic.NamedLogic as named
use Rattle.hol_model.specs.Logic.NamelessLogic as nameless
use Rattle.hol_model.specs.Derived.DerivedRules.{Stated, images, stated, stated_up_to_names, body_with, is_of_type, is_free_in_some, spec_outcome, gen_outcome, exists_outcome, choose_outcome}
use Rattle.hol_model.specs.declared.rule.Rule.TheVariants as rules
use Rattle.hol_model.specs.Derived.Inference.{given, require, conclude, all, all_without_variable, all_but_without_variable, is_free_in_none, is_known_formula, drawn, unchanged}
use Rattle.hol_model.proofs.Terms.HolTypeEq.{type_eq-Decides}
use Rattle.hol_model.proofs.Tests.{same_variable-self}
use Rattle.hol_model.proofs.Terms.NamedTests.{is_known-Decides}
use Rattle.hol_model.proofs.Terms.TypeTests.{knows_type-Decides}
use Rattle.hol_model.proofs.Terms.Images.{image-abstraction}
use Rattle.hol_journal.specs.Journal.{Journal}
use Rattle.hol_prelude.specs.HasLogic.{HasLogic}
use Rattle.hol_prelude.specs.declared.stored.Bool.{Bool as Stored}
use Rattle.hol_bool.proofs.LogicLemmas.{logical-type}
use Rattle.hol_quant.proofs.PartLemmas.{IsTyped, typed-at}
use Rattle.hol_equal.proofs.DrawnTerms.{StatesDrawn, IsPremise, Draws, knows-image, walked, one_premise, two_premises, same_set}
use Rattle.hol_equal.proofs.DrawnEquality.{other-name, body-image, drawn-of_one}

-- ---- parts

abbrev parts_of : List ℕ → HolType → NamedTerm → Abstracted
parts_of name ty body = record { name = name; ty = ty; body = body }

abbrev shown : Abstracted → Option (HolType × Nameless)
shown parts = Some (parts.ty, close parts.name parts.ty (image parts.body))

-- a known term with the quantifier, which is a formula, or without it, as its image shows
data Quantified (theory : Theory) (quantifier_name : List ℕ) (term : NamedTerm) (whole : HolType) : Type 0 where
  parted : (parts : Abstracted) → named.dest_quantified quantifier_name term ≡ Some parts → nameless.dest_quantified quantifier_name (image term) ≡ shown parts
      → knows_type theory parts.ty ≡ true → whole ≡ bool_type → Quantified theory quantifier_name term whole
  apart : named.dest_quantified quantifier_name term ≡ None → nameless.dest_quantified quantifier_name (image term) ≡ None → Quantified theory quantifier_name term whole

-- the quantifier of a known formula is of the type that its abstraction asks for
known-quantifier : (theory : Theory) (quantifier_name other : List ℕ) → generic_type theory quantifier_name ≡ Some (quantifier type_a)
    → other ≡ quantifier_name → (s : HolType) (name : List ℕ) (ty : HolType) (body : NamedTerm) (whole : HolType)
    → IsKnown theory (image (combination (constant other s) (abstraction name ty body))) whole → IsTyped theory s name ty body
known-quantifier theory quantifier_name other generic same s name ty body whole known =
    typed-at theory quantifier_name generic s name ty body whole
    (subst (λ (t : Nameless). IsKnown theory t whole) (λ i. app (const (same i) s) (image-abstraction name ty body i)) known)

-- the image of a quantified term, its quantifier being of this type
quantified-image : (quantifier_name other : List ℕ) → other ≡ quantifier_name → (s : HolType) (name : List ℕ) (ty : HolType) (body : NamedTerm) → s ≡ quantifier ty
    → nameless.dest_quantified quantifier_name (image (combination (constant other s) (abstraction name ty body))) ≡ shown (parts_of name ty body)
quantified-image quantifier_name other same s name ty body is =
    (λ i. nameless.dest_quantified quantifier_name (app (const (same i) (is i)) (lam ty (body-image name ty body i)))) ∙ rw (same_variable-self quantifier_name (quantifier ty)) refl

quantified : (theory : Theory) (quantifier_name : List ℕ) → generic_type theory quantifier_name ≡ Some (quantifier type_a)
    → (term : NamedTerm) (whole : HolType) → IsKnown theory (image term) whole → Quantified theory quantifier_name term whole
quantified theory quantifier_name generic (combination (constant other s) (abstraction name ty body)) whole known = go (bytes_eq other quantifier_name) refl
  where
    go : (test : Bool) → bytes_eq other quantifier_name ≡ test → Quantified theory quantifier_name (combination (constant other s) (abstraction name ty body)) whole
    go true is =
        let same = (bytes_eq-Decides other quantifier_name).0 is in
        let typed = known-quantifier theory quantifier_name other generic same s name ty body whole known in
        let is_type : function_type known.typed.0 whole ≡ quantifier ty = sym known.typed.1 ∙ typed.quantifier_type in
        let whole_is : whole ≡ bool_type = cc in
        parted (parts_of name ty body) (rw is refl) (quantified-image quantifier_name other same s name ty body typed.quantifier_type)
        ((knows_type-Decides theory ty).1 typed.function_known.parts.0) whole_is
    go false is = apart (rw is refl) (rw (other-name quantifier_name other (quantifier ty) s is) refl)
quantified theory quantifier_name generic (combination (constant other s) (variable name ty)) whole known = apart refl refl
quantified theory quantifier_name generic (combination (constant other s) (constant name ty)) whole known = apart refl refl
quantified theory quantifier_name generic (combination (constant other s) (combination f x)) whole known = apart refl refl
quantified theory quantifier_name generic (combination (variable other s) argument) whole known = apart refl refl
quantified theory quantifier_name generic (combination (combination f x) argument) whole known = apart refl refl
quantified theory quantifier_name generic (combination (abstraction other s body) argument) whole known = apart refl refl
quantified theory quantifier_name generic (variable other s) whole known = apart refl refl
quantified theory quantifier_name generic (constant other s) whole known = apart refl refl
quantified theory quantifier_name generic (abstraction other s body) whole known = apart refl refl

-- the variable is free in none exactly where it is not free in some
free-in_none : (name : List ℕ) (ty : HolType) (terms : List Nameless) → is_free_in_none (Some (name, ty)) terms ≡ not (is_free_in_some name ty terms)
free-in_none name ty [] = refl
free-in_none name ty (first ∷ rest) = go (occurs_free name ty first) (free-in_none name ty rest)
  where
    go : (test : Bool) → is_free_in_none (Some (name, ty)) rest ≡ not (is_free_in_some name ty rest) → (not test && is_free_in_none (Some (name, ty)) rest) ≡ not (test || is_free_in_some name ty rest)
    go true deeper = refl
    go false deeper = deeper

-- two types that differ
apart_types : (s t : HolType) → type_eq t s ≡ false → type_eq s t ≡ false
apart_types s t differ = go (type_eq s t) refl
  where
    go : (test : Bool) → type_eq s t ≡ test → test ≡ false
    go false is = refl
    go true is =
        let same : t ≡ s = sym ((type_eq-Decides s t).0 is) in
        sym ((type_eq-Decides t s).1 same) ∙ differ

-- whether a term that comes in is known
data Walk (theory : Theory) (term : NamedTerm) : Type 0 where
  passes : is_known theory term ≡ true → first_unknown theory term ≡ None → Walk theory term
  fails : (fault : Fault) → is_known theory term ≡ false → first_unknown theory term ≡ Some fault → Walk theory term

walk : (theory : Theory) (term : NamedTerm) → Walk theory term
walk theory term = go (knows_types theory term) refl (knows_constants theory term) refl (has_instances theory term) refl
  where
    go : (types : Bool) → knows_types theory term ≡ types → (constants : Bool) → knows_constants theory term ≡ constants → (instances : Bool) → has_instances theory term ≡ instances → Walk theory term
    go true one true two true three = passes (rw (one, two, three) refl) (rw (one, two, three) refl)
    go true one true two false three = fails NotInstance (rw (one, two, three) refl) (rw (one, two, three) refl)
    go true one false two instances three = fails UnknownConst (rw (one, two) refl) (rw (one, two) refl)
    go false one constants two instances three = fails UnknownType (rw one refl) (rw one refl)

-- ---- rules

pub drawn-gen : (theory : Theory) (x : NamedTerm) (a : Theorem) → Draws theory (rules.Gen x) (a ∷ []) (gen_outcome theory x a)
drawn-gen theory (variable name ty) a = go (knows_type theory ty)
  where
    passed_or_not : (some : Bool) → StatesDrawn (unless (not some) FreeInHypothesis (stated (images a) (named.forall_term name ty a.conclusion)))
        (option_map (λ hypotheses. record {
          hypotheses = [] ++ hypotheses;
          conclusion =
              nameless_formulas.forall_term ty (close name ty (image a.conclusion));
        })
        (if not some then Some (map unchanged (images a) ++ []) else None))
    passed_or_not false = record { hypotheses = same_set (sym (one_premise (images a))); conclusion = ap (λ (b : Nameless). nameless_formulas.forall_term ty b) (body-image name ty a.conclusion) }
    passed_or_not true = tt

    go : (known : Bool) → StatesDrawn (unless known UnknownType (unless (not (is_free_in_some name ty (images a))) FreeInHypothesis (stated (images a) (named.forall_term name ty a.conclusion))))
        (given (require known (conclude (all_without_variable name ty ∷ []) (nameless_formulas.forall_term ty (close name ty (image a.conclusion))))) (λ inference. drawn inference (images a ∷ [])))
    go true = rw (free-in_none name ty (images a)) (passed_or_not (is_free_in_some name ty (images a)))
    go false = tt
drawn-gen theory (constant name ty) a = tt
drawn-gen theory (combination f x) a = tt
drawn-gen theory (abstraction name ty body) a = tt

module _ (journal : Journal) (logic : Stored) (has : HasLogic journal logic) (legal : IsLegal journal.theory) where
  at : (name : List ℕ) → generic_type logical_definitions name ≡ Some (quantifier type_a) → (a : Theorem) → IsPremise journal.theory a → Quantified journal.theory name a.conclusion bool_type
  at name generic a premise = quantified journal.theory name (logical-type journal logic has legal name (quantifier type_a) generic) a.conclusion bool_type premise.known

  pub drawn-spec : (t : NamedTerm) (ty : HolType) (a : Theorem) → type_of t ≡ Some ty → IsPremise journal.theory a → Draws journal.theory (rules.Spec t) (a ∷ []) (spec_outcome journal.theory t a)
  drawn-spec t ty a typed premise = elim (at forall_name refl a premise) [
    | parted parts dest is known whole ↦ rw (dest, is)
        (walked journal.theory t ty parts.ty typed TypeMismatch (stated_up_to_names (images a) (body_with parts t))
        (record { passing = all ∷ []; supposed = []; conclusion = body_with parts t }) (λ inference. drawn inference (images a ∷ []))
        (record { hypotheses = same_set (sym (one_premise (images a))); conclusion = refl }))
    | apart dest is ↦ rw (dest, is) tt
  ]

  pub drawn-choose : (v : NamedTerm) (a b : Theorem) → IsPremise journal.theory a → Draws journal.theory (rules.Choose v) (a ∷ b ∷ []) (choose_outcome journal.theory v a b)
  drawn-choose (variable name ty) a b premise = elim (at exists_name refl a premise) [
    | parted parts dest is known whole ↦ rw (dest, is) (go parts known (type_eq parts.ty ty) refl)
    | apart dest is ↦ rw (dest, is) tt
  ]
    where
      passed_or_not : (all_others : List Nameless) (some : Bool) → StatesDrawn (unless (not some) FreeInHypothesis (stated (images a ++ all_others) b.conclusion))
          (option_map (λ hypotheses. record { hypotheses = [] ++ hypotheses; conclusion = image b.conclusion })
          (option_map (λ hypotheses. map unchanged (images a) ++ hypotheses) (if not some then Some (map unchanged all_others ++ []) else None)))
      passed_or_not all_others false = record { hypotheses = same_set (sym (two_premises (images a) all_others)); conclusion = refl }
      passed_or_not all_others true = tt

      tests : (parts : Abstracted) (first second : Bool)
          → StatesDrawn (unless (not (first || (second || is_free_in_some name ty (without (body_with parts (variable name ty)) (images b)))))
          FreeInHypothesis (stated (images a ++ without (body_with parts (variable name ty)) (images b)) b.conclusion))
          (given (require (not (first || second))
          (conclude (all ∷ all_but_without_variable (fill (free name ty) (close parts.name parts.ty (image parts.body))) name ty ∷ [])
          (image b.conclusion))) (λ inference. drawn inference (images a ∷ images b ∷ [])))
      tests parts true second = tt
      tests parts false true = tt
      tests parts false false =
          rw (free-in_none name ty (without (body_with parts (variable name ty)) (images b)))
          (passed_or_not (without (body_with parts (variable name ty)) (images b)) (is_free_in_some name ty (without (body_with parts (variable name ty)) (images b))))

      go : (parts : Abstracted) → knows_type journal.theory parts.ty ≡ true → (same : Bool) → type_eq parts.ty ty ≡ same
          → StatesDrawn (unless same TypeMismatch (unless (knows_type journal.theory ty) UnknownType
          (unless (not (is_free_in_some name ty (image a.conclusion ∷ image b.conclusion ∷ without (body_with parts (variable name ty)) (images b)))) FreeInHypothesis
          (stated (images a ++ without (body_with parts (variable name ty)) (images b)) b.conclusion))))
          (given (require (type_eq ty parts.ty && not (occurs_free name ty (image a.conclusion) || occurs_free name ty (image b.conclusion)))
          (conclude (all ∷ all_but_without_variable (fill (free name ty) (close parts.name parts.ty (image parts.body))) name ty ∷ [])
          (image b.conclusion))) (λ inference. drawn inference (images a ∷ images b ∷ [])))
      go parts known true same =
          let is : parts.ty ≡ ty = (type_eq-Decides parts.ty ty).0 same in
          let back : type_eq ty parts.ty ≡ true = (type_eq-Decides ty parts.ty).1 (sym is) in
          let knows : knows_type journal.theory ty ≡ true = ap (knows_type journal.theory) (sym is) ∙ known in
          rw (back, knows) (tests parts (occurs_free name ty (image a.conclusion)) (occurs_free name ty (image b.conclusion)))
      go parts known false same = rw (apart_types ty parts.ty same) tt
  drawn-choose (constant name ty) a b premise = tt
  drawn-choose (combination f x) a b premise = tt
  drawn-choose (abstraction name ty body) a b premise = tt

  pub drawn-exists : (e w : NamedTerm) (ty s : HolType) (a : Theorem) → type_of e ≡ Some ty → type_of w ≡ Some s → Draws journal.theory (rules.Exists e w) (a ∷ []) (exists_outcome journal.theory e w a)
  drawn-exists e w ty s a typed typed_w = elim (walk journal.theory e) [
    | passes tests none ↦ of_known tests none (quantified journal.theory exists_name generic e ty ((is_known-Decides journal.theory e ty typed).0 tests))
    | fails fault tests there ↦ of_unknown fault tests there (named.dest_exists e) (nameless.dest_exists (image e))
  ]
    where
      generic : generic_type journal.theory exists_name ≡ Some (quantifier type_a)
      generic = logical-type journal logic has legal exists_name (quantifier type_a) refl

      formula : is_known_formula journal.theory (image e) ≡ (type_eq ty bool_type && is_known journal.theory e)
      formula = knows-image journal.theory e ty bool_type typed

      and_false : (test : Bool) → (test && false) ≡ false
      and_false true = refl
      and_false false = refl

      of_witness : (fits : Bool) → Walk journal.theory w → (alike : Bool)
          → StatesDrawn (unless fits TypeMismatch (refused (first_unknown journal.theory w) (unless alike NotAlpha (stated (images a) e))))
          (given (require (fits && is_known journal.theory w && alike) (conclude (all ∷ []) (image e))) (λ inference. drawn inference (images a ∷ [])))
      of_witness true (passes tests none) true = rw (tests, none) (drawn-of_one a e (image e) refl)
      of_witness true (passes tests none) false = rw (tests, none) tt
      of_witness true (fails fault tests there) alike = rw (tests, there) tt
      of_witness false walked_w alike = tt

      of_known : is_known journal.theory e ≡ true → first_unknown journal.theory e ≡ None → Quantified journal.theory exists_name e ty
          → Draws journal.theory (rules.Exists e w) (a ∷ []) (exists_outcome journal.theory e w a)
      of_known tests none (parted parts dest is known whole) =
          let passed : is_known_formula journal.theory (image e) ≡ true = formula ∙ rw (whole, tests) refl in
          rw (dest, is, none, passed, knows-image journal.theory w s parts.ty typed_w, typed_w)
          (of_witness (type_eq s parts.ty) (walk journal.theory w) (same_term (fill (image w) (close parts.name parts.ty (image parts.body))) (image a.conclusion)))
      of_known tests none (apart dest is) = rw (dest, is) tt

      unknown : is_known journal.theory e ≡ false → is_known_formula journal.theory (image e) ≡ false
      unknown tests = formula ∙ ap (λ (b : Bool). type_eq ty bool_type && b) tests ∙ and_false (type_eq ty bool_type)

      refuses : (fits : Bool) (fault : Fault) (next : Result Stated Fault) → StatesDrawn (unless fits TypeMismatch (refused (Some fault) next)) None
      refuses true fault next = tt
      refuses false fault next = tt

      of_unknown : (fault : Fault) → is_known journal.theory e ≡ false → first_unknown journal.theory e ≡ Some fault → (found : Option Abstracted) (image_found : Option (HolType × Nameless))
          → StatesDrawn (stated_given found BadShape (λ parts. unless (is_of_type parts.ty w) TypeMismatch (refused (first_unknown journal.theory e) (refused (first_unknown journal.theory w)
          (unless (same_term (body_with parts w) (image a.conclusion)) NotAlpha (stated (images a) e))))))
          (given (given image_found (λ parts.
          require (is_known_formula journal.theory (image e) && knows_nameless journal.theory (image w) parts.0
          && same_term (fill (image w) parts.1) (image a.conclusion))
          (conclude (all ∷ []) (image e)))) (λ inference. drawn inference (images a ∷ [])))
      of_unknown fault tests there None None = tt
      of_unknown fault tests there None (Some parts) = rw (unknown tests) tt
      of_unknown fault tests there (Some parts) None =
          rw there (refuses (is_of_type parts.ty w) fault
          (refused (first_unknown journal.theory w) (unless (same_term (body_with parts w) (image a.conclusion)) NotAlpha (stated (images a) e))))
      of_unknown fault tests there (Some parts) (Some image_parts) =
          rw (there, unknown tests) (refuses (is_of_type parts.ty w) fault
          (refused (first_unknown journal.theory w) (unless (same_term (body_with parts w) (image a.conclusion)) NotAlpha (stated (images a) e))))
