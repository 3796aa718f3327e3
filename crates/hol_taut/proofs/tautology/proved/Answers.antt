use Rattle.std.proofs.Common.{sym, subst}
use Rattle.hol_model.specs.Logic.Theory.{Theory}
use Rattle.hol_taut.specs.Denials.{IsDenied}
use Rattle.hol_taut.proofs.LawLemmas.{still_lawful}
use Rattle.hol_taut.proofs.tautology.proved.Goals as goal

pub split-requires-clause-laws : goal.split-requires-clause-laws
split-requires-clause-laws c =
    still_lawful c.args.recorder.now c.searched-tried.new.recorder c.searched-tried.result c.args.laws.now c.searched-tried.ensures.continues c.requires.laws

pub split-requires-clause-denied : goal.split-requires-clause-denied
split-requires-clause-denied c =
    subst (λ (t : Theory). IsDenied t c.args.term.now c.args.denied.now) (sym c.searched-tried.ensures.continues.theory) c.requires.denied
