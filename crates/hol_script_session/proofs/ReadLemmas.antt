-- What is read passes the kernel's tests of types and constants.
use Rattle.std.proofs.Common.{◌≡◌, [], true, false, refl, sym, ◌∙◌, None, Some, Ok}
use Rattle.hol_model.specs.declared.fault.Fault.{Fault}
use Rattle.hol_model.specs.Terms.HolType.{HolType}
use Rattle.hol_model.specs.Terms.NamedTerm.{NamedTerm}
use Rattle.hol_model.specs.Logic.KnownTerm.{knows_type}
use Rattle.hol_model.specs.Kernel.Rules.{first_unknown}
use Rattle.hol_model.specs.Texts.Reading.{meaning, type_meaning}
use Rattle.hol_model.specs.Texts.TermGrammar.{TermTree}
use Rattle.hol_model.specs.Texts.TypeGrammar.{TypeTree}
use Rattle.hol_model_sessions.specs.Sessions.{scope_in}
use Rattle.hol_laws_sessions.specs.ReadTerms.{IsScopeOver}
use Rattle.hol_laws_sessions.proofs.KnownReadings.{read_terms-known, read_type-known}
use Rattle.hol_script_session.specs.declared.session.Session.{Session}
use Rattle.hol_script_session.specs.SessionState.{state_of, IsSession}

over_state : (session : Session) → IsSession session → IsScopeOver session.library.recorder.theory (scope_in (state_of session))
over_state session known = record { constants = λ name. refl; types = λ name. refl; variables = known.scope.variables }

-- no term that is read is refused by the test
pub read_passes : (session : Session) (tree : TermTree) (term : NamedTerm) (fault : Fault) → IsSession session → meaning (scope_in (state_of session)) [] tree ≡ Ok term
    → first_unknown session.library.recorder.theory term ≡ Some fault → ⊥
read_passes session tree term fault known meant refused =
    let theory = session.library.recorder.theory in
    let none = (read_terms-known theory (scope_in (state_of session)) known.legal (over_state session known) tree term meant).known in
    let whole : Some fault ≡ None = sym refused ∙ none in
    cc

-- and no type
pub read_type_passes : (session : Session) (tree : TypeTree) (ty : HolType) → IsSession session → type_meaning (scope_in (state_of session)) tree ≡ Ok ty
    → knows_type session.library.recorder.theory ty ≡ false → ⊥
read_type_passes session tree ty known meant refused =
    let theory = session.library.recorder.theory in
    let good : knows_type theory ty ≡ true = read_type-known theory known.legal (scope_in (state_of session)) (over_state session known) tree ty meant in
    let whole : true ≡ false = sym good ∙ refused in
    cc
