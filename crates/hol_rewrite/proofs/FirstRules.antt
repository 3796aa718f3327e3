-- The first left side that matches is that of the first rule that applies.
use Rattle.std.proofs.Common.{◌≡◌, ℕ, zero, suc, List, [], ◌∷◌, map, refl, sym, ap, subst, Option, Some, arith}
use Rattle.std.specs.Prelude.{slice_get}
use Rattle.std.specs.Option.{option_map_or}
use Rattle.hol_model.specs.Terms.HolType.{HolType}
use Rattle.hol_model.specs.Terms.NamedTerm.{NamedTerm}
use Rattle.hol_model.specs.Kernel.Theorem.{Theorem}
use Rattle.hol_model.specs.Kernel.Rules.{dest_equation}
use Rattle.hol_model.specs.Rewrites.Matching.{Matches, HasNoMatch}
use Rattle.hol_model.specs.Rewrites.Choice.{Side, DoesNotMatch, IsFirstMatch, NoneMatches}
use Rattle.hol_model.specs.Rewrites.Rewriting.{Replacements, fixed_variables, Applies, DoesNotApply, NoneApplies, IsFirstRule}
use Rattle.hol_rewrite.specs.RuleSides.{AreEquations, left_side, side_of_rule}

left_is : (conclusion : NamedTerm) (sides : NamedTerm × NamedTerm) → dest_equation conclusion ≡ Some sides → left_side conclusion ≡ sides.0
left_is conclusion sides is = ap (λ (o : Option (NamedTerm × NamedTerm)). option_map_or (λ s. s.0) o conclusion) is

-- a rule's left side that does not match
does_not_apply : (rules : List Theorem) (rule : Theorem) (term : NamedTerm) → DoesNotMatch (map side_of_rule (rule ∷ rules)) term zero → DoesNotApply rule term
does_not_apply rules rule term none sides is =
    subst (λ (left : NamedTerm). HasNoMatch (fixed_variables rule.hypotheses) left term) (left_is rule.conclusion sides is) (none.refused (side_of_rule rule) refl)

-- what is said of a place is said of one place less in the rest
later_place : (rules : List Theorem) (rule : Theorem) (term : NamedTerm) (place : ℕ) → DoesNotMatch (map side_of_rule (rule ∷ rules)) term (suc place)
    → DoesNotMatch (map side_of_rule rules) term place
later_place rules rule term place none = record { refused = λ side at. none.refused side at }

pub none_applies : (rules : List Theorem) (term : NamedTerm) → NoneMatches (map side_of_rule rules) term → NoneApplies rules term
none_applies [] term none = tt
none_applies (rule ∷ rules) term none = (
  does_not_apply rules rule term (none.refused zero),
  none_applies rules term (record { refused = λ place. later_place rules rule term place (none.refused (suc place)) }),
)

same_side : (one two : Side) → Some one ≡ Some two → one ≡ two
same_side one two same = cc

same_rule : (one two : Theorem) → Some one ≡ Some two → one ≡ two
same_rule one two same = cc

-- the rule at the place, and the pairs that make its left side the term
pub first_applies : (rules : List Theorem) (term : NamedTerm) (place : ℕ) (rule : Theorem) (types : List (HolType × HolType)) (terms : List (NamedTerm × NamedTerm))
    → AreEquations rules → slice_get rules place ≡ Some rule → IsFirstMatch (map side_of_rule rules) term place types terms
    → IsFirstRule rules term rule (record { types = types; terms = terms })
first_applies [] term place rule types terms equations there first = cc
first_applies (head ∷ rules) term zero rule types terms equations there first =
    let is : head ≡ rule = same_rule head rule there in
    let side_is : side_of_rule head ≡ first.side = same_side (side_of_rule head) first.side first.is_at_place in
    let by : Replacements = record { types = types; terms = terms } in
    let matches : Matches (fixed_variables head.hypotheses) (left_side head.conclusion) term types terms =
    subst (λ (s : Side). Matches s.0 s.1 term types terms) (sym side_is) first.matches in
    let applies : Applies head term by = record {
      sides = equations.0.sides;
      is_equation = equations.0.is;
      matches = subst (λ (left : NamedTerm). Matches (fixed_variables head.hypotheses) left term types terms) (left_is head.conclusion equations.0.sides equations.0.is) matches;
    } in
    record { before = []; after = rules; is_there = ap (λ (t : Theorem). t ∷ rules) is; is_first = tt; applies = subst (λ (t : Theorem). Applies t term by) is applies }
first_applies (head ∷ rules) term (suc place) rule types terms equations there first =
    let by : Replacements = record { types = types; terms = terms } in
    let rest : IsFirstRule rules term rule by = first_applies rules term place rule types terms equations.1 there (record {
      side = first.side;
      is_at_place = first.is_at_place;
      matches = first.matches;
      is_first = λ earlier below. later_place rules head term earlier (first.is_first (suc earlier) (omega arith));
    }) in
    record {
      before = head ∷ rest.before;
      after = rest.after;
      is_there = ap (λ (l : List Theorem). head ∷ l) rest.is_there;
      is_first = (does_not_apply rules head term (first.is_first zero (omega arith)), rest.is_first);
      applies = rest.applies;
    }
