-- What the form of a formula tells of its parts.
use Rattle.std.proofs.Common.{◌≡◌, refl, Option, Some, None}
use Rattle.hol_model.specs.Terms.NamedTerm.{NamedTerm}
use Rattle.hol_model.specs.Logic.NamedLogic.{Abstracted, dest_conjunction, dest_forall, dest_negation}
use Rattle.hol_model.specs.Kernel.Rules.{dest_equation}
use Rattle.hol_model.specs.Rewrites.RewriteRules.{rule_form, both, every, stated, both_or, every_or, equal_or, denied_or_stated}

-- the tests of the form, one after another

both-tested : (found : Option (NamedTerm × NamedTerm)) (universal : Option Abstracted) (sides : Option (NamedTerm × NamedTerm)) (negated : Option NamedTerm) (formula p q : NamedTerm)
    → both_or found (every_or universal (equal_or sides (denied_or_stated formula negated))) ≡ both p q → found ≡ Some (p, q)
both-tested (Some (a, b)) universal sides negated formula p q is = cc
both-tested None (Some other) sides negated formula p q is = cc
both-tested None None (Some (a, b)) negated formula p q is = cc
both-tested None None None (Some r) formula p q is = cc
both-tested None None None None formula p q is = cc

pub both-parts : (formula p q : NamedTerm) → rule_form formula ≡ both p q → dest_conjunction formula ≡ Some (p, q)
both-parts formula p q is = both-tested (dest_conjunction formula) (dest_forall formula) (dest_equation formula) (dest_negation formula) formula p q is

every-tested : (found : Option (NamedTerm × NamedTerm)) (universal : Option Abstracted) (sides : Option (NamedTerm × NamedTerm)) (negated : Option NamedTerm) (formula : NamedTerm)
    (abstracted : Abstracted)
    → both_or found (every_or universal (equal_or sides (denied_or_stated formula negated))) ≡ every abstracted → universal ≡ Some abstracted
every-tested (Some (a, b)) universal sides negated formula abstracted is = cc
every-tested None (Some other) sides negated formula abstracted is = cc
every-tested None None (Some (a, b)) negated formula abstracted is = cc
every-tested None None None (Some r) formula abstracted is = cc
every-tested None None None None formula abstracted is = cc

pub every-parts : (formula : NamedTerm) (abstracted : Abstracted) → rule_form formula ≡ every abstracted → dest_forall formula ≡ Some abstracted
every-parts formula abstracted is = every-tested (dest_conjunction formula) (dest_forall formula) (dest_equation formula) (dest_negation formula) formula abstracted is

stated-tested : (found : Option (NamedTerm × NamedTerm)) (universal : Option Abstracted) (sides : Option (NamedTerm × NamedTerm)) (negated : Option NamedTerm) (formula p : NamedTerm)
    → both_or found (every_or universal (equal_or sides (denied_or_stated formula negated))) ≡ stated p
    → both_or found (every_or universal (equal_or sides (denied_or_stated formula negated))) ≡ stated formula
stated-tested (Some (a, b)) universal sides negated formula p is = cc
stated-tested None (Some other) sides negated formula p is = cc
stated-tested None None (Some (a, b)) negated formula p is = cc
stated-tested None None None (Some r) formula p is = cc
stated-tested None None None None formula p is = refl

pub stated-itself : (formula p : NamedTerm) → rule_form formula ≡ stated p → rule_form formula ≡ stated formula
stated-itself formula p is = stated-tested (dest_conjunction formula) (dest_forall formula) (dest_equation formula) (dest_negation formula) formula p is
