use Rattle.hol_script.specs.Managers.{IsManager}
use Rattle.hol_explain.proofs.search.Trial.take_back.Given as goal

abbrev pub invariant-loop : goal.invariant-loop
invariant-loop g l = IsManager l.manager
