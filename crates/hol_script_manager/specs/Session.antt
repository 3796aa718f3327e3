-- What scripts say of sessions, passed on from the crate below.
pub use Rattle.hol_script_inference.specs.Sessions.{Printed, Nothing, Line, Goals, Refused, theorem_of, ComesTo, Performs, Says, answer_text, no_tools, plain, printed_name, row_bytes}
pub use Rattle.hol_script_inference.specs.Sessions.{IsAcceptedLog, IsLog, IsLongLog, stored_claim, stored_claims, said-text, any-tools-here}
pub use Rattle.hol_script_inference.specs.Answers.{session_tools}
