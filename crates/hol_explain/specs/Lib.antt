pub use Rattle.hol_script.specs.Managers
