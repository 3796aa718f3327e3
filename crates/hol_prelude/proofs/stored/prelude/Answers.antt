use Rattle.std.proofs.Common.{sym, ap, ◌∙◌, subst}
use Rattle.hol_prelude_derivations.specs.Derivations.{theorems, AreMade}
use Rattle.hol_prelude.specs.Laws.{without_laws}
use Rattle.hol_prelude.proofs.PreludeLemmas.{theorems-without_laws, made-without_laws}
use Rattle.hol_prelude.proofs.stored.prelude.Goals as goal

pub returns-clause-ok : goal.returns-clause-ok
returns-clause-ok c =
    ap theorems c.without_laws.ensures ∙ theorems-without_laws c.in_ok-all.all.items ∙ ap without_laws c.in_ok-all.ensures.outcome.ok.theorems_are

pub returns-clause-made : goal.returns-clause-made
returns-clause-made c =
    subst (AreMade c.with_conjunction.new.recorder) (sym c.without_laws.ensures) (made-without_laws c.with_conjunction.new.recorder c.in_ok-all.all.items c.in_ok-all.ensures.made)

pub returns-clause-logic : goal.returns-clause-logic
returns-clause-logic c = record {
  theorems_are = returns-clause-ok c;
  made = returns-clause-made c;
}
