-- DISCH and UNDISCH: what has to fit, and the steps.
use Rattle.std.proofs.Common.{◌≡◌, List, [], ◌∷◌, ◌++◌, Bool, true, refl, ◌∙◌, ap, subst, arith}
use Rattle.hol_model.specs.Terms.HolType.{bool_type}
use Rattle.hol_model.specs.Terms.NamedTerm.{NamedTerm, equation}
use Rattle.hol_model.specs.Terms.Nameless.{Nameless, const, app, image}
use Rattle.hol_model.specs.Terms.Measures.{nameless_types_fit}
use Rattle.hol_model.specs.Logic.Theory.{Theory, equality_name, equality_type}
use Rattle.hol_model.specs.Logic.Derivable.{without, nameless_equation}
use Rattle.hol_model.specs.Logic.Logic as nameless
use Rattle.hol_model.specs.Logic.Logic.{binary, and_name}
use Rattle.hol_model.specs.Logic.NamedLogic.{conjunction, implication}
use Rattle.hol_model.proofs.Tests.{both, same_term-Decides}
use Rattle.hol_prelude.specs.Prelude.{p, q}
use Rattle.hol_equal.specs.Formulas.{IsFormula}
use Rattle.hol_equal.specs.Room.{IsSized, FitsIf}
use Rattle.hol_bool.specs.PreludeInstances.{LeadsTo, at_p_q}
use Rattle.hol_equal.proofs.Sizes.{sized-equation}
use Rattle.hol_equal.proofs.LemmaLemmas.{without-itself}
use Rattle.hol_bool.proofs.RoomLemmas.{fits-argument, fits-left}
use Rattle.hol_bool.proofs.ConjunctionAnswers.{conj_equation}
use Rattle.hol_bool.proofs.RuleAnswers.{leads-p_q, sized-connected, sized-fits}

-- what has to fit for DISCH: the equation of a conjunction and itself

abbrev pub disch_equation : Nameless → Nameless → Nameless
disch_equation a b = nameless_equation bool_type (nameless.conjunction a b) (nameless.conjunction a b)

pub disch-both-fits : (room : Bool) (a b : Nameless) → FitsIf room (disch_equation a b) → FitsIf room (nameless.conjunction a b)
disch-both-fits room a b fits = fits-argument room (app (const equality_name (equality_type bool_type)) (nameless.conjunction a b)) (nameless.conjunction a b) fits

pub disch-conj-fits : (room : Bool) (a b : Nameless) → FitsIf room (disch_equation a b) → FitsIf room (conj_equation a b)
disch-conj-fits room a b fits is =
    let whole = fits is in
    let right = fits-argument room (app (const and_name binary) a) b (disch-both-fits room a b fits) is in
    let conj = disch-both-fits room a b fits is in
    record {
      height = let h = whole.height in omega arith;
      nodes = let n = whole.nodes in omega arith;
      types = both (nameless_types_fit [] (app (const equality_name (equality_type bool_type)) b)) (nameless_types_fit [] (nameless.conjunction a b)) right.types conj.types;
    }

pub disch-absorbed-fits : (room : Bool) (a b : Nameless) → FitsIf room (disch_equation a b) → FitsIf room (nameless_equation bool_type (nameless.conjunction a b) a)
disch-absorbed-fits room a b fits is =
    let whole = fits is in
    let left = fits-left room (const and_name binary) a b (disch-both-fits room a b fits) is in
    let conj = disch-both-fits room a b fits is in
    record {
      height = let h = whole.height in omega arith;
      nodes = let n = whole.nodes in omega arith;
      types = both (nameless_types_fit [] (app (const equality_name (equality_type bool_type)) (nameless.conjunction a b))) (nameless_types_fit [] a) conj.types left.types;
    }

pub disch-implication-fits : (room : Bool) (a b : Nameless) → FitsIf room (disch_equation a b) → FitsIf room (nameless.implication a b)
disch-implication-fits room a b fits is =
    let conj = disch-both-fits room a b fits is in
    record {
      height = let h = conj.height in omega arith;
      nodes = let n = conj.nodes in omega arith;
      types = conj.types;
    }

pub disch-fits : (room : Bool) (a b : Nameless) → (room ≡ true → IsSized 1000 5000 a) → (room ≡ true → IsSized 1000 5000 b) → FitsIf room (disch_equation a b)
disch-fits room a b one two =
    sized-fits 1004 20009 room (disch_equation a b) (omega arith) (omega arith)
    (λ is.
    let conj = sized-connected 1000 5000 5000 and_name a b (omega arith) (one is) (two is) in
    sized-equation 1002 10003 10003 bool_type (nameless.conjunction a b) (nameless.conjunction a b) (omega arith) (omega arith) conj conj)

-- the hypotheses that are left
pub absorbed-set : (h : List Nameless) (a b : Nameless) → without a ((a ∷ []) ++ h) ++ without b (b ∷ []) ≡ without a h
absorbed-set h a b = without-itself (without a (a ∷ h)) b ∙ head
  where
    head : without a (a ∷ h) ≡ without a h
    head = rw ((same_term-Decides a a).1 refl) refl

-- the steps by theorems of the prelude

pub conjunct-leads : (theory : Theory) (a b whole : NamedTerm) (terms : List (NamedTerm × NamedTerm)) → IsFormula theory a → IsFormula theory b
    → terms ≡ at_p_q a b → whole ≡ conjunction a b → (room : Bool) → FitsIf room (image whole)
    → LeadsTo theory 13 terms room (image whole) (image a)
conjunct-leads theory a b whole terms one two terms_are is room fits =
    leads-p_q theory 13 (conjunction p q) p a b terms refl refl one two terms_are room (image whole) (image a) (ap image is) refl fits
    (fits-left room (const and_name binary) (image a) (image b) (subst (λ (t : NamedTerm). FitsIf room (image t)) is fits))

pub disch-leads : (theory : Theory) (a b : NamedTerm) (terms : List (NamedTerm × NamedTerm)) → IsFormula theory a → IsFormula theory b
    → terms ≡ at_p_q a b → (room : Bool) → FitsIf room (disch_equation (image a) (image b))
    → LeadsTo theory 16 terms room (nameless_equation bool_type (nameless.conjunction (image a) (image b)) (image a)) (image (implication a b))
disch-leads theory a b terms one two terms_are room fits =
    leads-p_q theory 16 (equation (conjunction p q) p) (implication p q) a b terms refl refl one two terms_are room
    (nameless_equation bool_type (nameless.conjunction (image a) (image b)) (image a)) (image (implication a b)) refl refl
    (disch-absorbed-fits room (image a) (image b) fits) (disch-implication-fits room (image a) (image b) fits)
