use Rattle.std.specs.Prelude.{map}
use Rattle.hol_model.specs.Terms.Nameless.{image}
use Rattle.hol_model.proofs.Logic.Later.{Derivable-earlier}
use Rattle.hol_laws_sessions.proofs.sequents_suffice.Goals as goal

pub returns : goal.returns
returns c theorem theory is earlier legal = record {
  legal = legal;
  derivable = Derivable-earlier theorem.theory theory earlier legal (map image theorem.hypotheses) (image theorem.conclusion) is.derivable;
  ordered = is.ordered;
}
