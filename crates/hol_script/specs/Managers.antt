-- What is said of managers, passed on from the crate below.
pub use Rattle.hol_script_manager.specs.Managers.{IsManager}
pub use Rattle.hol_script_manager.specs.Session.{IsAcceptedLog}
