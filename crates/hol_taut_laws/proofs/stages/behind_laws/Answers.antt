use Rattle.std.proofs.Common.{◌∙◌, sym, ap, take, drop}
use Rattle.std.proofs.Math.Seq.{take-length}
use Rattle.std.proofs.lemmas.List.{length-drop}
use Rattle.hol_taut_laws.proofs.stages.behind_laws.Goals as goal

pub returns : goal.returns
returns c = let rest = drop 27 c.args.stored.now in ap (λ n. take n rest) (sym (length-drop 27 c.args.stored.now)) ∙ take-length rest
