use Rattle.std.proofs.Common.{refl, inl, inr}
use Rattle.std.proofs.lemmas.Result.{err_from_is_err_and}
use Rattle.hol_check_terms.specs.Terms.{term_at}
use Rattle.hol_check_written.proofs.WritesLemmas.{free-there, variable-limits, variable-writes}
use Rattle.hol_check_written.proofs.written.write_variable.Goals as goal

pub returns : goal.returns
returns c = record {
  answered = record {
    is_shape = refl;
    writes = variable-writes c.args.terms.now c.type_of.new.terms c.args.number _ c.requires c.in_ok-ty.ensures.grows c.in_ok-ty.ensures.number c.in_ok-ty.ensures.within_limits refl refl
        c.one_variable.ensures;
  };
  grows = c.in_ok-ty.ensures.grows;
}

pub returns-in_err-ty : goal.returns-in_err-ty
returns-in_err-ty c =
    let p = err_from_is_err_and c.from_residual.result c.from_residual.ensures.1 in
    rw (p.1, p.2)
    (record {
      answered = elim c.in_err-ty.ensures.refused [
        | inl memory ↦ inl memory
        | inr large ↦ inr (
          large.0,
          variable-limits (term_at c.args.terms.now.terms c.args.number) c.requires.name c.requires.ty _ (free-there c.args.terms.now.terms
              c.args.number c.requires) large.1,
        )
      ];
      grows = c.in_err-ty.ensures.grows;
    })
