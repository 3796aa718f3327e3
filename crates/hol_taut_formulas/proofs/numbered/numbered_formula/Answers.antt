use Rattle.std.proofs.Common.{refl}
use Rattle.hol_taut_formulas.proofs.PartsLemmas.{as-numbered}
use Rattle.hol_taut_formulas.proofs.numbered.numbered_formula.Goals as goal

pub returns-clause-ok : goal.returns-clause-ok
returns-clause-ok c =
    as-numbered c.args.term.now c.args.atoms.now.items c.put_formula.new.atoms.items c.new-parts.result.keys c.put_formula.new.parts.keys _ c.new-parts.ensures.empty refl
    c.in_ok-whole.ensures.ok
