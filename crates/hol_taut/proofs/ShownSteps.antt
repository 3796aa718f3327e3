-- What the steps from formulas to their facts take and give.
use Rattle.std.proofs.Common.{◌≡◌, ◌<◌, ℕ, List, Bool, true, false, not, Option, Some, Result, Ok, Err, IfOk, IfErr, sym, ◌∙◌, ap, ap₂, subst, inl, if◌then◌else◌}
use Rattle.hol_model.specs.declared.fault.Fault.{Fault}
use Rattle.hol_model.specs.declared.fault.Fault.TheVariants.{Memory}
use Rattle.std.proofs.lemmas.Slice.Eq.{bytes_eq-Decides}
use Rattle.hol_model.specs.Terms.HolType.{bool_type}
use Rattle.hol_model.specs.Logic.Logic.{true_name, false_name}
use Rattle.hol_model.specs.Terms.NamedTerm.{NamedTerm, variable, constant, combination, abstraction, height, type_of}
use Rattle.hol_model.specs.Logic.NamedLogic.{negation, is_constant_named}
use Rattle.hol_model.specs.Terms.Nameless.{Nameless, image}
use Rattle.hol_model.specs.Kernel.Theorem.{Theorem}
use Rattle.hol_model.specs.Logic.Theory.{Theory}
use Rattle.hol_journal.specs.Journal.{Recorded}
use Rattle.hol_equal.specs.Formulas.{IsFormula}
use Rattle.hol_model.specs.Propositional.Propositions.{Connective}
use Rattle.hol_taut.specs.declared.facts.Facts.{Facts}
use Rattle.hol_taut.specs.declared.way.Way.{Way}
use Rattle.hol_model.specs.Propositional.Connectives.{connected_term, fact, constant_fact}
use Rattle.hol_taut.specs.FactLists.{value_of, known_by, IsOfFact}
use Rattle.hol_model.specs.Propositional.Propositions.{negated, connected, proposition}
use Rattle.hol_taut.specs.Proved.{Proves, ProvesIf}
use Rattle.hol_taut.specs.Ways.{connected_image, IsSmallIf, IsWay, the_way}
use Rattle.hol_taut_formulas.specs.declared.law.Law.{Law}
use Rattle.hol_taut.specs.Shown.{first_side, first_value, law_of, LeadsBy, takes_second, second_side, second_value, Joins}
use Rattle.hol_taut.proofs.FormLemmas.{AreFormulas, sides-formulas, part-formula}
use Rattle.hol_model.specs.Propositional.Connectives.{connective_name}
use Rattle.hol_taut.proofs.WayLemmas.{way-is, small-right}
use Rattle.hol_taut.proofs.ShownLemmas.{image-connected, after_first, first-known, second-known, law-leads, first-done, second-joins}
use Rattle.hol_taut.proofs.ShownLemmas.{of-first, of-second, map-first, map-second, first-small, second-small, part-known}

-- the formula is one of a connective, and its fact follows in this way
pub record IsTaken (theory : Theory) (facts : Facts) (term left right : NamedTerm) (connective : Connective) (value : Bool) (way : Way) : Type 0 where
  pub whole : term ≡ connected_term connective left right
  pub is_way : IsWay connective value (known_by (value_of facts) (proposition left)) (known_by (value_of facts) (proposition right)) way
  pub sides : AreFormulas theory left right

pub taken : (theory : Theory) (facts : Facts) (term left right : NamedTerm) (connective : Connective) (value : Bool) (way : Way) (l r : Option Bool) → IsFormula theory term
    → known_by (value_of facts) (proposition term) ≡ Some value → proposition term ≡ connected connective (proposition left) (proposition right) → term ≡ connected_term connective left right
    → l ≡ known_by (value_of facts) (proposition left) → r ≡ known_by (value_of facts) (proposition right) → way ≡ the_way connective value l r
    → IsTaken theory facts term left right connective value way
taken theory facts term left right connective value way l r formula known meaning whole l_is r_is is =
    let left_known = known_by (value_of facts) (proposition left) in
    let right_known = known_by (value_of facts) (proposition right) in
    record {
      whole = whole;
      is_way = subst (λ (w : Way). IsWay connective value left_known right_known w) (sym (is ∙ ap₂ (the_way connective value) l_is r_is))
          (way-is connective value left_known right_known (sym (ap (known_by (value_of facts)) meaning) ∙ known));
      sides = sides-formulas theory (connective_name connective) left right (subst (λ (t : NamedTerm). IsFormula theory t) whole formula);
    }

whole-small : (term whole : NamedTerm) (room : Bool) → term ≡ whole → IsSmallIf room (image term) → IsSmallIf room (image whole)
whole-small term whole room is small = subst (λ (t : NamedTerm). IsSmallIf room (image t)) is small

-- ---- the first side

pub lower-first : (way : Way) (t : ℕ) (term left right side : NamedTerm) → (height left < height term) × (height right < height term) → side ≡ first_side way left right
    → height term ≡ t → height side < t
lower-first way t term left right side lower is now = subst (λ (n : ℕ). height side < n) now
    (subst (λ (s : NamedTerm). height s < height term) (sym is) (of-first (λ s. height s < height term) way left right lower.0 lower.1))

pub first-formula : (theory : Theory) (way : Way) (left right side : NamedTerm) → AreFormulas theory left right → side ≡ first_side way left right → IsFormula theory side
first-formula theory way left right side sides is = subst (λ (s : NamedTerm). IsFormula theory s) (sym is) (of-first (λ s. IsFormula theory s) way left right sides.left_formula sides.right_formula)

pub first-side-known : (theory : Theory) (facts : Facts) (term left right : NamedTerm) (connective : Connective) (value : Bool) (way : Way) (side : NamedTerm) (v : Bool)
    → IsTaken theory facts term left right connective value way → side ≡ first_side way left right → v ≡ first_value way → known_by (value_of facts) (proposition side) ≡ Some v
first-side-known theory facts term left right connective value way side v is_taken is v_is =
    ap (λ s. known_by (value_of facts) (proposition s)) is ∙ map-first (λ s. known_by (value_of facts) (proposition s)) way left right
    ∙ first-known connective value (known_by (value_of facts) (proposition left)) (known_by (value_of facts) (proposition right)) way is_taken.is_way ∙ ap (λ b. Some b) (sym v_is)

pub first-side-small : (theory : Theory) (facts : Facts) (term left right : NamedTerm) (connective : Connective) (value : Bool) (way : Way) (side : NamedTerm) (room : Bool)
    → IsTaken theory facts term left right connective value way → side ≡ first_side way left right → IsSmallIf room (image term) → IsSmallIf room (image side)
first-side-small theory facts term left right connective value way side room is_taken is small =
    subst (λ (s : NamedTerm). IsSmallIf room (image s)) (sym is) (first-small connective way room left right (whole-small term (connected_term connective left right) room is_taken.whole small))

-- the law leads on from the fact of the first side
pub first-leads : (theory later : Theory) (facts : Facts) (term left right : NamedTerm) (connective : Connective) (value : Bool) (way : Way) (side : NamedTerm) (v : Bool)
    (law : Option Law) (room : Bool)
    → IsTaken theory facts term left right connective value way → later ≡ theory → side ≡ first_side way left right → v ≡ first_value way → law ≡ law_of way → IsSmallIf room (image term)
    → LeadsBy later law left right room (fact v (image side)) (after_first connective value way (image left) (image right))
first-leads theory later facts term left right connective value way side v law room is_taken same is v_is law_is small =
    let to = after_first connective value way (image left) (image right) in
    subst (λ (y : Theory). LeadsBy y law left right room (fact v (image side)) to) (sym same)
    (subst (λ (n : Option Law). LeadsBy theory n left right room (fact v (image side)) to) (sym law_is)
    (subst (λ (b : Bool). LeadsBy theory (law_of way) left right room (fact b (image side)) to) (sym v_is)
    (subst (λ (s : NamedTerm). LeadsBy theory (law_of way) left right room (fact (first_value way) (image s)) to) (sym is)
    (law-leads theory connective value (known_by (value_of facts) (proposition left)) (known_by (value_of facts) (proposition right)) way is_taken.is_way left right
    is_taken.sides.left_formula is_taken.sides.right_formula room
    (whole-small term (connected_term connective left right) room is_taken.whole small)))))

pub first-gives : (theory later : Theory) (facts : Facts) (term left right : NamedTerm) (connective : Connective) (value : Bool) (way : Way) (side : NamedTerm) (v : Bool)
    (law : Option Law) (room : Bool)
    → IsTaken theory facts term left right connective value way → later ≡ theory → side ≡ first_side way left right → v ≡ first_value way → law ≡ law_of way → IsSmallIf room (image term)
    → (result : Result Recorded Fault) (premise : Theorem) (allowed : List Nameless) → Proves premise allowed (fact v (image side))
    → ((from to : Nameless) → LeadsBy later law left right room from to → Proves premise allowed from → ProvesIf room result allowed to)
    → ProvesIf room result allowed (after_first connective value way (image left) (image right))
first-gives theory later facts term left right connective value way side v law room is_taken same is v_is law_is small result premise allowed proves step =
    step (fact v (image side)) (after_first connective value way (image left) (image right))
    (first-leads theory later facts term left right connective value way side v law room is_taken same is v_is law_is small) proves

term-is : (term left right : NamedTerm) (connective : Connective) → term ≡ connected_term connective left right → image term ≡ connected_image connective (image left) (image right)
term-is term left right connective whole = ap image whole ∙ image-connected connective left right

pub first-only : (theory : Theory) (facts : Facts) (term left right : NamedTerm) (connective : Connective) (value : Bool) (way : Way) (theorem : Theorem) (allowed : List Nameless)
    → IsTaken theory facts term left right connective value way → takes_second way ≡ false → Proves theorem allowed (after_first connective value way (image left) (image right))
    → Proves theorem allowed (fact value (image term))
first-only theory facts term left right connective value way theorem allowed is_taken takes proves =
    subst (λ (s : Nameless). Proves theorem allowed s) (first-done connective value way (image left) (image right) takes
    ∙ ap (fact value) (sym (term-is term left right connective is_taken.whole))) proves

-- ---- the second side

pub lower-second : (way : Way) (t : ℕ) (term left right side : NamedTerm) → (height left < height term) × (height right < height term) → side ≡ second_side way left right
    → height term ≡ t → height side < t
lower-second way t term left right side lower is now = subst (λ (n : ℕ). height side < n) now
    (subst (λ (s : NamedTerm). height s < height term) (sym is) (of-second (λ s. height s < height term) way left right lower.0 lower.1))

pub second-formula : (theory : Theory) (way : Way) (left right side : NamedTerm) → AreFormulas theory left right → side ≡ second_side way left right → IsFormula theory side
second-formula theory way left right side sides is = subst (λ (s : NamedTerm). IsFormula theory s) (sym is) (of-second (λ s. IsFormula theory s) way left right sides.left_formula sides.right_formula)

pub second-side-known : (theory : Theory) (facts : Facts) (term left right : NamedTerm) (connective : Connective) (value : Bool) (way : Way) (side : NamedTerm) (v : Bool)
    → IsTaken theory facts term left right connective value way → takes_second way ≡ true → side ≡ second_side way left right → v ≡ second_value way
    → known_by (value_of facts) (proposition side) ≡ Some v
second-side-known theory facts term left right connective value way side v is_taken takes is v_is =
    ap (λ s. known_by (value_of facts) (proposition s)) is ∙ map-second (λ s. known_by (value_of facts) (proposition s)) way left right
    ∙ second-known connective value (known_by (value_of facts) (proposition left)) (known_by (value_of facts) (proposition right)) way is_taken.is_way takes ∙ ap (λ b. Some b) (sym v_is)

pub second-side-small : (theory : Theory) (facts : Facts) (term left right : NamedTerm) (connective : Connective) (value : Bool) (way : Way) (side : NamedTerm) (room : Bool)
    → IsTaken theory facts term left right connective value way → side ≡ second_side way left right → IsSmallIf room (image term) → IsSmallIf room (image side)
second-side-small theory facts term left right connective value way side room is_taken is small =
    subst (λ (s : NamedTerm). IsSmallIf room (image s)) (sym is) (second-small connective way room left right (whole-small term (connected_term connective left right) room is_taken.whole small))

-- what the law gave and the fact of the second side make the fact of the whole
pub second-joined : (theory : Theory) (facts : Facts) (term left right : NamedTerm) (connective : Connective) (value : Bool) (way : Way) (side : NamedTerm) (v : Bool) (room : Bool)
    → IsTaken theory facts term left right connective value way → takes_second way ≡ true → side ≡ second_side way left right → v ≡ second_value way → IsSmallIf room (image term)
    → Joins way room (after_first connective value way (image left) (image right)) (fact v (image side)) (fact value (connected_image connective (image left) (image right)))
second-joined theory facts term left right connective value way side v room is_taken takes is v_is small =
    let p = after_first connective value way (image left) (image right) in
    let whole = fact value (connected_image connective (image left) (image right)) in
    subst (λ (b : Bool). Joins way room p (fact b (image side)) whole) (sym v_is)
    (subst (λ (s : NamedTerm). Joins way room p (fact (second_value way) (image s)) whole) (sym is)
    (second-joins connective value (known_by (value_of facts) (proposition left)) (known_by (value_of facts) (proposition right)) way is_taken.is_way takes left right room
    (subst (λ (s : Nameless). IsSmallIf room s) (term-is term left right connective is_taken.whole) small)))

pub second-gives : (theory : Theory) (facts : Facts) (term left right : NamedTerm) (connective : Connective) (value : Bool) (way : Way) (side : NamedTerm) (v : Bool) (room : Bool)
    → IsTaken theory facts term left right connective value way → takes_second way ≡ true → side ≡ second_side way left right → v ≡ second_value way → IsSmallIf room (image term)
    → (result : Result Recorded Fault) (first second : Theorem) (allowed : List Nameless) → Proves first allowed (after_first connective value way (image left) (image right))
    → Proves second allowed (fact v (image side))
    → ((p q whole : Nameless) → Joins way room p q whole → Proves first allowed p → Proves second allowed q → ProvesIf room result allowed whole)
    → ProvesIf room result allowed (fact value (image term))
second-gives theory facts term left right connective value way side v room is_taken takes is v_is small result first second allowed one two step =
    subst (λ (s : Nameless). ProvesIf room result allowed s) (ap (fact value) (sym (term-is term left right connective is_taken.whole)))
    (step (after_first connective value way (image left) (image right)) (fact v (image side)) (fact value (connected_image connective (image left) (image right)))
    (second-joined theory facts term left right connective value way side v room is_taken takes is v_is small) one two)

-- ---- a negation

pub lower-part : (t : ℕ) (term part : NamedTerm) → height part < height term → height term ≡ t → height part < t
lower-part t term part lower now = subst (λ (n : ℕ). height part < n) now lower

pub negated-formula : (theory : Theory) (term part : NamedTerm) → term ≡ negation part → IsFormula theory term → IsFormula theory part
negated-formula theory term part whole formula = part-formula theory part (subst (λ (t : NamedTerm). IsFormula theory t) whole formula)

pub negated-known : (facts : Facts) (term part : NamedTerm) (value : Bool) → proposition term ≡ negated (proposition part) → known_by (value_of facts) (proposition term) ≡ Some value
    → known_by (value_of facts) (proposition part) ≡ Some (not value)
negated-known facts term part value meaning known = part-known (known_by (value_of facts) (proposition part)) value (sym (ap (known_by (value_of facts)) meaning) ∙ known)

pub negated-small : (term part : NamedTerm) (room : Bool) → term ≡ negation part → IsSmallIf room (image term) → IsSmallIf room (image part)
negated-small term part room whole small = small-right room _ (image part) (whole-small term (negation part) room whole small)

pub negated-gives : (term part : NamedTerm) (value room : Bool) → term ≡ negation part → IsSmallIf room (image term) → (result : Result Recorded Fault) (allowed : List Nameless)
    → (IsSmallIf room (image (negation part)) → ProvesIf room result allowed (fact value (image (negation part)))) → ProvesIf room result allowed (fact value (image term))
negated-gives term part value room whole small result allowed step =
    subst (λ (t : NamedTerm). ProvesIf room result allowed (fact value (image t))) (sym whole) (step (whole-small term (negation part) room whole small))

-- ---- atoms and constants

pub atom-shown : (result : Result Recorded Fault) (facts : Facts) (term : NamedTerm) (value room : Bool) (allowed : List Nameless) → IfErr result (λ fault. fault ≡ Memory)
    → value_of facts term ≡ Some value
    → IfOk result (λ made. IsOfFact allowed facts term made.theorem) → ProvesIf room result allowed (fact value (image term))
atom-shown (Ok made) facts term value room allowed err known ok = ok value known
atom-shown (Err fault) facts term value room allowed err known ok = inl err

constant-is : (term : NamedTerm) (name : List ℕ) → is_constant_named name term ≡ true → type_of term ≡ Some bool_type → term ≡ constant name bool_type
constant-is (constant other ty) name named typed = let same : ty ≡ bool_type = cc in λ i. constant ((bytes_eq-Decides other name).0 named i) (same i)
constant-is (variable other ty) name named typed = cc
constant-is (combination f x) name named typed = cc
constant-is (abstraction other ty body) name named typed = cc

pub constant-shown : (result : Result Recorded Fault) (term : NamedTerm) (v value room : Bool) (allowed : List Nameless)
    → is_constant_named (if v then true_name else false_name) term ≡ true → type_of term ≡ Some bool_type
    → v ≡ value → ProvesIf room result allowed (constant_fact value) → ProvesIf room result allowed (fact value (image term))
constant-shown result term true true room allowed named typed is proves = subst (λ (t : NamedTerm). ProvesIf room result allowed (image t)) (sym (constant-is term true_name named typed)) proves
constant-shown result term false false room allowed named typed is proves = subst (λ (t : NamedTerm). ProvesIf room result allowed (fact false (image t)))
    (sym (constant-is term false_name named typed)) proves
constant-shown result term true false room allowed named typed is proves = cc
constant-shown result term false true room allowed named typed is proves = cc
