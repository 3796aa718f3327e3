-- What is said of sessions, passed on from the crate below.
pub use Rattle.hol_script_session.specs.declared.reply.Printed.{Printed}
pub use Rattle.hol_script_session.specs.declared.reply.Printed.TheVariants.{Nothing, Line, Goals}
pub use Rattle.hol_script_session.specs.declared.reply.Refused.{Refused}
pub use Rattle.hol_script_session.specs.declared.session.Session.{Session}
pub use Rattle.hol_script_session.specs.SessionState.{IsLaterLibrary, IsSession, StaysMade, lemmas_of, state_of, theorem_of}
pub use Rattle.hol_script_session.specs.Performing.{ComesTo, Performs}
pub use Rattle.hol_script_session.specs.Answers.{Beside, IsNewName, Says, TestsName, answer_text, no_tools, plain, plainly, printed_name, printed_text, row_bytes, with_beside}
pub use Rattle.hol_script_session.specs.Growth.{Stores}
pub use Rattle.hol_script_session.specs.StoredClaims.{IsAcceptedLog, IsLog, IsLongLog, stored_claim, stored_claims}
pub use Rattle.hol_script_session.proofs.SessionLemmas.{said-text, scope_same}
pub use Rattle.hol_script_session.proofs.RuleLemmas.{proved, readable}
pub use Rattle.hol_script_session.proofs.ToolLemmas.{any-tools-here}
