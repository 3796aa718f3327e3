-- The outermost form of a formula.
use Rattle.std.specs.Prelude.{◌≡◌, ◌<◌, true, if◌then◌else◌}
use Rattle.hol_model.specs.Terms.NamedTerm.{NamedTerm, height}
use Rattle.hol_model.specs.Logic.Logic.{true_name, false_name}
use Rattle.hol_model.specs.Logic.NamedLogic.{is_constant_named, negation}
use Rattle.hol_model.specs.Propositional.Connectives.{connected_term}
use Rattle.hol_taut_formulas.specs.declared.connective.Connective as code
use Rattle.hol_taut_formulas.specs.declared.connective.Connective.TheVariants as variants
use Rattle.hol_taut_formulas.specs.declared.form.Form.{Form}
use Rattle.hol_taut_formulas.specs.declared.form.Form.TheVariants.{Atom, Constantly, Negated, Connected}
use Rattle.hol_model.specs.Propositional.Propositions.{Connective, And, Or, Implies, Iff, Proposition, atom, constantly, negated, connected, proposition}

-- the connective that the code's stands for
abbrev pub meant : code.Connective → Connective
meant variants.And = And
meant variants.Or = Or
meant variants.Implies = Implies
meant variants.Iff = Iff

-- the formula that a term of this form is
abbrev pub proposition_of_form : NamedTerm → Form → Proposition
proposition_of_form term Atom = atom term
proposition_of_form term (Constantly value) = constantly value
proposition_of_form term (Negated part) = negated (proposition part.now)
proposition_of_form term (Connected connective left right) = connected (meant connective) (proposition left.now) (proposition right.now)

-- the parts are less high than the term
abbrev pub HasLowerParts : NamedTerm → Form → Type 0
HasLowerParts term Atom = Unit {0}
HasLowerParts term (Constantly value) = Unit {0}
HasLowerParts term (Negated part) = height part.now < height term
HasLowerParts term (Connected connective left right) = (height left.now < height term) × (height right.now < height term)

-- the term is what its form says
abbrev pub IsWhole : NamedTerm → Form → Type 0
IsWhole term Atom = Unit {0}
IsWhole term (Constantly value) = is_constant_named (if value then true_name else false_name) term ≡ true
IsWhole term (Negated part) = term ≡ negation part.now
IsWhole term (Connected connective left right) = term ≡ connected_term (meant connective) left.now right.now
