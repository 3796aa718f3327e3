-- That terms that are read are known.
use Rattle.std.specs.Prelude.{◌≡◌, ℕ, true, List, [], Some, None, Ok}
use Rattle.hol_model.specs.Terms.HolType.{HolType}
use Rattle.hol_model.specs.Terms.NamedTerm.{NamedTerm, type_of}
use Rattle.hol_model.specs.Logic.Theory.{Theory, IsLegal, generic_type}
use Rattle.hol_model.specs.Logic.KnownTerm.{is_declared, knows_type}
use Rattle.hol_model.specs.Kernel.Rules.{first_unknown}
use Rattle.hol_model.specs.Texts.TermGrammar.{TermTree}
use Rattle.hol_model.specs.Texts.Reading.{Scope, meaning}
use Rattle.hol_model_sessions.specs.Script.{Request}
use Rattle.hol_model_sessions.specs.ScriptSessions.{State, scope_in, Tools, Turn, Takes}

-- the scope has the constants and the declared types of the theory, and variables of known types
pub record IsScopeOver (theory : Theory) (scope : Scope) : Type 0 where
  pub constants : (name : List ℕ) → scope.generic_type name ≡ generic_type theory name
  pub types : (name : List ℕ) → scope.declares_type name ≡ is_declared theory name
  pub variables : (name : List ℕ) (ty : HolType) → scope.variable_type name ≡ Some ty → knows_type theory ty ≡ true

-- the term has a type, and each type and constant in it is known
pub record IsKnownTyped (theory : Theory) (term : NamedTerm) : Type 0 where
  pub ty : HolType
  pub typed : type_of term ≡ Some ty
  pub known : first_unknown theory term ≡ None

abbrev pub ReadTermsAreKnown : Type 0
ReadTermsAreKnown =
    (theory : Theory) (scope : Scope) → IsLegal theory → IsScopeOver theory scope → (tree : TermTree) (term : NamedTerm) → meaning scope [] tree ≡ Ok term → IsKnownTyped theory term

-- each declared variable has a known type
abbrev pub HasKnownVariables : State → Type 0
HasKnownVariables state = (name : List ℕ) (ty : HolType) → state.library.variables name ≡ Some ty → knows_type state.library.theory ty ≡ true

-- each turn keeps it so
abbrev pub VariablesStayKnown : Tools → Type 0
VariablesStayKnown tools =
    (state : State) (request : Request) (turn : Turn) → IsLegal state.library.theory → HasKnownVariables state → Takes tools state request turn → HasKnownVariables turn.after

-- and then a state's scope is one over its theory
abbrev pub ScopesAreOver : Type 0
ScopesAreOver = (state : State) → HasKnownVariables state → IsScopeOver state.library.theory (scope_in state)
