use Rattle.hol_check_terms.proofs.TypeLemmas.{same_type-same_number}
use Rattle.std.proofs.Common.{sym, subst, ◌<◌, length}
use Rattle.hol_check_terms.specs.Types.{TypeTable}
use Rattle.hol_check_terms.proofs.types.Types.is_same.Goals as goal

pub returns : goal.returns
returns c =
    rw (← c.self.view_is)
    (same_type-same_number _ c.args.first c.args.second c.self.invariant.distinct
    (subst (λ (t : TypeTable). c.args.first < length t.types) (sym c.self.view_is) c.requires.first) (subst (λ (t : TypeTable). c.args.second < length t.types) (sym c.self.view_is) c.requires.second))
