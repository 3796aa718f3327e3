use Rattle.std.proofs.Common.{◌∙◌, [], ◌∷◌, ◌++◌, sym, ap, arith}
use Rattle.std.specs.Prelude.{position}
use Rattle.hol_model.specs.Kernel.Theorem.{are_alpha_equivalent}
use Rattle.hol_taut_formulas.proofs.AddedAtoms.{atom_found, atom_new, atom_refused}
use Rattle.hol_taut_formulas.proofs.numbered.put_atom.Goals as goal

pub returns-in-Some-clause-ok : goal.returns-in-Some-clause-ok
returns-in-Some-clause-ok c =
    atom_found c.args.atom.now c.args.atoms.now.items c.in-Some.place
    (sym c.in-Some.is ∙ c.place_of.ensures ∙ ap (position (λ other. are_alpha_equivalent other c.args.atom.now)) c.deref.ensures.value)

pub returns-then-place-ge-ATOMS_LIMIT-clause-err : goal.returns-then-place-ge-ATOMS_LIMIT-clause-err
returns-then-place-ge-ATOMS_LIMIT-clause-err c =
    atom_refused c.args.atom.now c.args.atoms.now.items
    (sym c.in_default.is ∙ c.place_of.ensures ∙ ap (position (λ other. are_alpha_equivalent other c.args.atom.now)) c.deref.ensures.value)
    (omega (arith, c.len-place.ensures, c.if-place-ge-ATOMS_LIMIT.true))

pub returns-clause-ok : goal.returns-clause-ok
returns-clause-ok c =
    atom_new c.args.atom.now c.args.atoms.now.items c.push.new.self.items c.len-place.result
    (sym c.in_default.is ∙ c.place_of.ensures ∙ ap (position (λ other. are_alpha_equivalent other c.args.atom.now)) c.deref.ensures.value)
    (c.in_ok-push.ensures.items ∙ ap (λ atom. c.args.atoms.now.items ++ atom ∷ []) c.in_ok-copy.ensures.ok) (omega (arith, c.len-place.ensures))
    (omega (arith, c.if-place-ge-ATOMS_LIMIT.false))
