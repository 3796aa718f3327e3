-- What the refiners use of a known goal.
use Rattle.std.proofs.Common.{◌≡◌, [], map, true, sym, ◌∙◌, subst, Some}
use Rattle.hol_model.specs.Terms.HolType.{bool_type}
use Rattle.hol_model.specs.Terms.NamedTerm.{NamedTerm, type_of}
use Rattle.hol_model.specs.Terms.Nameless.{Nameless, HasType, image}
use Rattle.hol_model.specs.Logic.Theory.{Theory, IsLegal}
use Rattle.hol_model.specs.Kernel.Rules.{dest_equation}
use Rattle.hol_model.specs.Goals.Goals.{Goal}
use Rattle.hol_model.specs.Goals.Replays.{IsKnownGoal}
use Rattle.hol_model.specs.Goals.Achieving.{is_assumed}
use Rattle.hol_model.proofs.Terms.Images.{image-type}
use Rattle.hol_model.proofs.Terms.Membership.{of_map}
use Rattle.hol_laws_steps.proofs.Members.{is_among-member}
use Rattle.hol_kernel.proofs.RuleLemmas.{sides}

-- the target is a formula
pub target-typed : (theory : Theory) (goal : Goal) → IsKnownGoal theory goal → type_of goal.target ≡ Some bool_type
target-typed theory goal known = image-type goal.target bool_type known.target.typed

-- so is what is assumed
pub assumed-typed : (theory : Theory) (goal : Goal) → IsKnownGoal theory goal → (p : NamedTerm) → is_assumed p goal ≡ true → type_of p ≡ Some bool_type
assumed-typed theory goal known p assumed =
    let found = of_map image (image p) goal.assumptions (is_among-member (image p) (map image goal.assumptions) assumed) in
    image-type p bool_type (subst (λ (t : Nameless). HasType [] t bool_type) (sym found.2) (known.assumptions found.0 found.1).typed)

-- the right side of an equation has the type of the left one
pub right-typed : (theory : Theory) → IsLegal theory → (goal : Goal) → IsKnownGoal theory goal → (p q : NamedTerm) → dest_equation goal.target ≡ Some (p, q)
    → type_of p ≡ Some bool_type → type_of q ≡ Some bool_type
right-typed theory legal goal known p q dest typed =
    let equation = sides theory legal goal.target p q known.target dest in
    equation.right_typed ∙ sym equation.left_typed ∙ typed
