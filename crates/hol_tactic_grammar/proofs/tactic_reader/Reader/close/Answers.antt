use Rattle.hol_tactic_grammar.proofs.OpenTacticLemmas.{closes}
use Rattle.hol_tactic_grammar.proofs.tactic_reader.Reader.close.Goals as goal

pub returns : goal.returns
returns c = closes c.pop.result c.args.self.now c.pop.new.self c.pop.ensures.items c.pop.ensures.cases
