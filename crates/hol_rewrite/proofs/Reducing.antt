-- What the parts of a theorem have in common with it, and how journals go on.
use Rattle.std.proofs.Common.{◌≡◌, ◌⊎◌, ℕ, zero, suc, ◌+◌, ◌<◌, List, [], ◌∷◌, ◌++◌, map, Bool, true, false, sym, ◌∙◌, ap, subst, inl, inr, Option, Some, None, slice_get, if◌then◌else◌}
use native.Mathlib.Omega.{arith}
use Rattle.std.specs.Str.{bytes_eq}
use Rattle.hol_model.specs.Terms.NamedTerm.{NamedTerm, variable, constant, combination, abstraction, nodes}
use Rattle.hol_model.specs.Logic.NamedLogic.{Abstracted, dest_conjunction, dest_forall}
use Rattle.hol_model.specs.Terms.Nameless.{image}
use Rattle.hol_model.specs.Logic.Logic.{and_name, forall_name}
use Rattle.hol_model.specs.Terms.Measures.{nameless_nodes}
use Rattle.hol_model.specs.Logic.Derivable.{IsSameSet}
use Rattle.hol_model.specs.Kernel.Theorem.{Theorem}
use Rattle.hol_model.proofs.Terms.Measures.{nodes-image}
use Rattle.hol_journal.specs.Journal.{Journal, Recorded, IsMade}
use Rattle.hol_journal.proofs.GrowthLemmas.{journals-grow}
use Rattle.hol_prelude.specs.HasLogic.{HasLogic}
use Rattle.hol_prelude_derivations.specs.Derivations.{AreMade}
use Rattle.hol_prelude.specs.declared.stored.Bool.{Bool as Stored}
use Rattle.hol_prelude.proofs.StoredLemmas.{logic-stays}
use Rattle.hol_model.specs.Rewrites.RewriteRules.{rule_form, both, every}
use Rattle.hol_model.specs.Rewrites.SmallTerms.{is_small}
use Rattle.hol_rewrite.specs.Rules.{HasRules, GoesOn, Concludes, IsFreshInstance, are_small}
use Rattle.hol_rewrite.specs.Reduction.{AreParts, IsBody, IsOnlyRule}
use Rattle.hol_rewrite.proofs.FormLemmas.{both-parts, every-parts}
use Rattle.hol_rewrite.proofs.SmallParts.{AreSmallSides, small_sides, put-nodes}
use Rattle.hol_rewrite.proofs.RoomSteps.{conclusion_small, small_again}
use Rattle.hol_rewrite.proofs.Joining.{both-have, every-has, same-through}

-- how journals go on

pub goes_on_twice : {first second third : Journal} → GoesOn first second → GoesOn second third → GoesOn first third
goes_on_twice {first} {second} {third} one two = record { grown = journals-grow.twice first second third one.grown two.grown; theory = two.theory ∙ one.theory }

pub logical_later : {old new : Journal} {logic : Stored} → GoesOn old new → HasLogic old logic → HasLogic new logic
logical_later {old} {new} {logic} goes has = logic-stays old new logic goes.grown has

pub made_later : {old new : Journal} {made : Recorded} → GoesOn old new → IsMade old made → IsMade new made
made_later {old} {new} {made} goes is = journals-grow.stays old new made goes.grown is

pub all_made_later : {old new : Journal} {all : List Recorded} → GoesOn old new → AreMade old all → AreMade new all
all_made_later {old} {new} {all} goes are = record { each = λ number made there. journals-grow.stays old new made goes.grown (are.each number made there) }

-- two lists of theorems that the recorder made

record IsFound (all : List Recorded) (made : Recorded) : Type 0 where
  number : ℕ
  there : slice_get all number ≡ Some made

get-either : (first second : List Recorded) (number : ℕ) (made : Recorded) → slice_get (first ++ second) number ≡ Some made → IsFound first made ⊎ IsFound second made
get-either [] second number made is = inr (record { number = number; there = is })
get-either (x ∷ first) second zero made is = inl (record { number = zero; there = is })
get-either (x ∷ first) second (suc number) made is = elim (get-either first second number made is) [
  | inl one ↦ inl (record { number = suc one.number; there = one.there })
  | inr two ↦ inr two
]

pub both_made : {journal : Journal} {first second : List Recorded} → AreMade journal first → AreMade journal second → AreMade journal (first ++ second)
both_made {journal} {first} {second} one two = record {
  each = λ number made there. elim (get-either first second number made there) [
    | inl found ↦ one.each found.number made found.there
    | inr found ↦ two.each found.number made found.there
  ];
}

pub one_made : {journal : Journal} {made : Recorded} → IsMade journal made → AreMade journal (made ∷ [])
one_made {journal} {made} is = record { each = λ number other there. go number other there }
  where
    go : (number : ℕ) (other : Recorded) → slice_get (made ∷ []) number ≡ Some other → IsMade journal other
    go zero other there =
        let same : made ≡ other = cc in
        subst (IsMade journal) same is
    go (suc number) other there = cc

-- the parts of a formula are smaller

record AreSmaller (whole left right : NamedTerm) : Type 0 where
  is_left : nodes left < nodes whole
  is_right : nodes right < nodes whole

left-under : (a b : ℕ) → a < 1 + a + 1 + b + 1
left-under a b = omega arith

right-under : (a b : ℕ) → b < 1 + a + 1 + b + 1
right-under a b = omega arith

body-under : (b : ℕ) → b < 1 + (b + 1) + 1
body-under b = omega arith

same-sides : (one two : NamedTerm × NamedTerm) → Some one ≡ Some two → one ≡ two
same-sides one two same = cc

conjunction-nodes : (formula p q : NamedTerm) → dest_conjunction formula ≡ Some (p, q) → AreSmaller formula p q
conjunction-nodes (combination (combination (constant other s) a) b) p q is = go (bytes_eq other and_name) is
  where
    go : (test : Bool) → if◌then◌else◌ {A = Option (NamedTerm × NamedTerm)} test (Some (a, b)) None ≡ Some (p, q) → AreSmaller (combination (combination (constant other s) a) b) p q
    go true same =
        let sides = same-sides (a, b) (p, q) same in
        record {
          is_left = subst (λ (t : NamedTerm). nodes t < nodes (combination (combination (constant other s) a) b)) (ap (λ (t : NamedTerm × NamedTerm). t.0) sides) (left-under (nodes a) (nodes b));
          is_right = subst (λ (t : NamedTerm). nodes t < nodes (combination (combination (constant other s) a) b)) (ap (λ (t : NamedTerm × NamedTerm). t.1) sides) (right-under (nodes a) (nodes b));
        }
    go false same = cc
conjunction-nodes (combination (combination (variable other s) a) b) p q is = cc
conjunction-nodes (combination (combination (combination f x) a) b) p q is = cc
conjunction-nodes (combination (combination (abstraction n s t) a) b) p q is = cc
conjunction-nodes (combination (variable n s) b) p q is = cc
conjunction-nodes (combination (constant n s) b) p q is = cc
conjunction-nodes (combination (abstraction n s t) b) p q is = cc
conjunction-nodes (variable n s) p q is = cc
conjunction-nodes (constant n s) p q is = cc
conjunction-nodes (abstraction n s t) p q is = cc

some-same : (one two : Abstracted) → Some one ≡ Some two → one ≡ two
some-same one two same = cc

body-of : (one two : Abstracted) → Some one ≡ Some two → one.body ≡ two.body
body-of one two same = ap (λ (a : Abstracted). a.body) (some-same one two same)

body-nodes : (formula : NamedTerm) (bound : Abstracted) → dest_forall formula ≡ Some bound → nodes bound.body < nodes formula
body-nodes (combination (constant other s) (abstraction name ty body)) bound is = go (bytes_eq other forall_name) is
  where
    go : (test : Bool) → (if test then Some (record { name = name; ty = ty; body = body }) else None) ≡ Some bound
        → nodes bound.body < nodes (combination (constant other s) (abstraction name ty body))
    go true same =
        let same_body : body ≡ bound.body = body-of (record { name = name; ty = ty; body = body }) bound same in
        subst (λ (t : NamedTerm). nodes t < nodes (combination (constant other s) (abstraction name ty body))) same_body (body-under (nodes body))
    go false same = cc
body-nodes (combination (constant other s) (variable n t)) bound is = cc
body-nodes (combination (constant other s) (constant n t)) bound is = cc
body-nodes (combination (constant other s) (combination f x)) bound is = cc
body-nodes (combination (variable n s) b) bound is = cc
body-nodes (combination (combination f x) b) bound is = cc
body-nodes (combination (abstraction n s t) b) bound is = cc
body-nodes (variable n s) bound is = cc
body-nodes (constant n s) bound is = cc
body-nodes (abstraction n s t) bound is = cc

-- what the steps to the parts leave

pub parts-are : (new : Journal) (hypotheses : List NamedTerm) (premise : Theorem) (p q : NamedTerm) (left right : Recorded) → rule_form premise.conclusion ≡ both p q
    → IsSameSet (map image premise.hypotheses) (map image hypotheses) → Concludes premise p left.theorem → Concludes premise q right.theorem → IsMade new left → IsMade new right
    → AreParts new hypotheses premise left right
parts-are new hypotheses premise p q left right form same is_left is_right left_made right_made =
    let smaller = conjunction-nodes premise.conclusion p q (both-parts premise.conclusion p q form) in
    let sides : are_small premise ≡ true → AreSmallSides p q = λ all. small_sides premise.conclusion p q (both-parts premise.conclusion p q form) (conclusion_small premise all) in
    record {
      is_left = record {
        is_made = left_made;
        same_hypotheses = same-through (map image left.theorem.hypotheses) (map image premise.hypotheses) (map image hypotheses) is_left.same_hypotheses same;
        fewer = subst (λ (t : NamedTerm). nodes t < nodes premise.conclusion) (sym is_left.conclusion) smaller.is_left;
        stays_small = λ all. small_again premise left.theorem is_left.same_hypotheses (ap (λ (t : NamedTerm). is_small (image t)) is_left.conclusion ∙ (sides all).left_small) all;
      };
      is_right = record {
        is_made = right_made;
        same_hypotheses = same-through (map image right.theorem.hypotheses) (map image premise.hypotheses) (map image hypotheses) is_right.same_hypotheses same;
        fewer = subst (λ (t : NamedTerm). nodes t < nodes premise.conclusion) (sym is_right.conclusion) smaller.is_right;
        stays_small = λ all. small_again premise right.theorem is_right.same_hypotheses (ap (λ (t : NamedTerm). is_small (image t)) is_right.conclusion ∙ (sides all).right_small) all;
      };
      rules = λ first second one two. both-have hypotheses premise.conclusion p q first second form
          (subst (λ (t : NamedTerm). HasRules hypotheses t first) is_left.conclusion one) (subst (λ (t : NamedTerm). HasRules hypotheses t second) is_right.conclusion two);
    }

instance-nodes : (hypotheses : List NamedTerm) (premise theorem : Theorem) → IsFreshInstance hypotheses premise theorem → nodes theorem.conclusion < nodes premise.conclusion
instance-nodes hypotheses premise theorem at =
    let same : nodes theorem.conclusion ≡ nodes at.bound.body =
    sym (nodes-image [] theorem.conclusion) ∙ ap nameless_nodes at.instance ∙ put-nodes at.bound.name at.fresh at.bound.ty (image at.bound.body) ∙ nodes-image [] at.bound.body in
    subst (λ (n : ℕ). n < nodes premise.conclusion) (sym same) (body-nodes premise.conclusion at.bound at.dest)

pub body-is : (new : Journal) (hypotheses : List NamedTerm) (premise : Theorem) (bound : Abstracted) (body : Recorded) → rule_form premise.conclusion ≡ every bound
    → IsSameSet (map image premise.hypotheses) (map image hypotheses) → IsFreshInstance hypotheses premise body.theorem → IsMade new body
    → IsBody new hypotheses premise body
body-is new hypotheses premise bound body form same at made =
    let bound_is : bound ≡ at.bound = some-same bound at.bound (sym (every-parts premise.conclusion bound form) ∙ at.dest) in
    record {
      is_part = record {
        is_made = made;
        same_hypotheses = same-through (map image body.theorem.hypotheses) (map image premise.hypotheses) (map image hypotheses) at.same_hypotheses same;
        fewer = instance-nodes hypotheses premise body.theorem at;
        stays_small = at.stays_small;
      };
      rules = λ all has. every-has hypotheses premise body.theorem all at (form ∙ ap every bound_is) has;
    }

pub only-rule : (new : Journal) (hypotheses : List NamedTerm) (premise : Theorem) (rule : Recorded) → IsMade new rule → HasRules hypotheses premise.conclusion (rule.theorem ∷ [])
    → IsOnlyRule new hypotheses premise rule
only-rule new hypotheses premise rule made has = record { is_made = made; rules = has }

-- where a step has gone on, what was made stays
pub ruleset reducing = (goes_on_twice, logical_later, made_later, all_made_later, both_made, one_made)
