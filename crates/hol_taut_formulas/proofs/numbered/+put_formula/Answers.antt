use Rattle.std.proofs.Common.{refl}
use Rattle.hol_model.specs.Propositional.Propositions.{atom, negated, connected, proposition, atom_places}
use Rattle.hol_taut_formulas.specs.Forms.{meant}
use Rattle.hol_taut_formulas.proofs.AddedAtoms.{refused_in, refused_left, refused_right, no_memory}
use Rattle.hol_taut_formulas.proofs.PartsLemmas.{put-atom, put-constant, put-negated, put-connected}
use Rattle.hol_taut_formulas.proofs.numbered.+put_formula.Goals as goal

pub returns-in_ok-place-in-Atom-clause-ok : goal.returns-in_ok-place-in-Atom-clause-ok
returns-in_ok-place-in-Atom-clause-ok t c =
    put-atom c.args.term.now c.args.atoms.now.items c.put_atom.new.atoms.items c.args.parts.now.keys c.put_part.new.parts.keys c.put_part.result c.in_ok-place-in-Atom.place
    c.in-Atom.ensures.meaning c.in_ok-place-in-Atom.ensures.ok c.put_part.ensures.ok

pub returns-in-Constantly-clause-ok : goal.returns-in-Constantly-clause-ok
returns-in-Constantly-clause-ok t c =
    put-constant c.args.term.now c.args.atoms.now.items c.args.atoms.now.items c.args.parts.now.keys c.put_part-in-Constantly.new.parts.keys c.put_part-in-Constantly.result
    c.in-Constantly.value c.in-Constantly.ensures.meaning refl c.put_part-in-Constantly.ensures.ok

pub returns-in_ok-part-in-Negated-clause-ok : goal.returns-in_ok-part-in-Negated-clause-ok
returns-in_ok-part-in-Negated-clause-ok t c =
    put-negated c.args.term.now c.args.atoms.now.items c.put_formula.new.atoms.items c.args.parts.now.keys c.put_part-in-Negated.new.parts.keys c.put_part-in-Negated.result
    c.in-Negated.part.now c.put_formula.new.parts.keys c.in_ok-part-in-Negated.part c.in-Negated.ensures.meaning c.in_ok-part-in-Negated.ensures.ok c.put_part-in-Negated.ensures.ok

pub returns-in_ok-right-in-Connected-clause-ok : goal.returns-in_ok-right-in-Connected-clause-ok
returns-in_ok-right-in-Connected-clause-ok t c =
    put-connected c.args.term.now c.args.atoms.now.items c.put_formula-in-Connected-2.new.atoms.items c.args.parts.now.keys c.put_part-in-Connected.new.parts.keys
    c.put_part-in-Connected.result c.in-Connected.connective c.in-Connected.left.now c.in-Connected.right.now c.put_formula-in-Connected.new.atoms.items
    c.put_formula-in-Connected.new.parts.keys c.put_formula-in-Connected-2.new.parts.keys c.in_ok-left-in-Connected.left c.in_ok-right-in-Connected.right
    c.in-Connected.ensures.meaning c.in_ok-left-in-Connected.ensures.ok c.in_ok-right-in-Connected.ensures.ok c.put_part-in-Connected.ensures.ok

pub returns-in_err-place-in-Atom-clause-err : goal.returns-in_err-place-in-Atom-clause-err
returns-in_err-place-in-Atom-clause-err t c =
    refused_in c.from_residual.result c.in_err-place-in-Atom.field-0.0 (atom c.args.term.now) c.args.term.now c.args.atoms.now.items c.in-Atom.ensures.meaning c.from_residual.ensures.1
    c.in_err-place-in-Atom.ensures.err

pub returns-in_ok-place-in-Atom-clause-err : goal.returns-in_ok-place-in-Atom-clause-err
returns-in_ok-place-in-Atom-clause-err t c = no_memory c.put_part.result (atom_places (proposition c.args.term.now)) c.args.atoms.now.items c.put_part.ensures.err

pub returns-in-Constantly-clause-err : goal.returns-in-Constantly-clause-err
returns-in-Constantly-clause-err t c = no_memory c.put_part-in-Constantly.result (atom_places (proposition c.args.term.now)) c.args.atoms.now.items c.put_part-in-Constantly.ensures.err

pub returns-in_err-part-in-Negated-clause-err : goal.returns-in_err-part-in-Negated-clause-err
returns-in_err-part-in-Negated-clause-err t c =
    refused_in c.from_residual-in_err-part-in-Negated.result c.in_err-part-in-Negated.field-0.0 (negated (proposition c.in-Negated.part.now)) c.args.term.now c.args.atoms.now.items
    c.in-Negated.ensures.meaning c.from_residual-in_err-part-in-Negated.ensures.1 c.in_err-part-in-Negated.ensures.err

pub returns-in_ok-part-in-Negated-clause-err : goal.returns-in_ok-part-in-Negated-clause-err
returns-in_ok-part-in-Negated-clause-err t c =
    no_memory c.put_part-in-Negated.result (atom_places (proposition c.args.term.now)) c.args.atoms.now.items c.put_part-in-Negated.ensures.err

pub returns-in_err-left-in-Connected-clause-err : goal.returns-in_err-left-in-Connected-clause-err
returns-in_err-left-in-Connected-clause-err t c =
    let left = proposition c.in-Connected.left.now in
    let right = proposition c.in-Connected.right.now in
    refused_in c.from_residual-in_err-left-in-Connected.result c.in_err-left-in-Connected.field-0.0 (connected (meant c.in-Connected.connective) left right) c.args.term.now c.args.atoms.now.items
    c.in-Connected.ensures.meaning c.from_residual-in_err-left-in-Connected.ensures.1
    (refused_left (atom_places left) (atom_places right) c.args.atoms.now.items c.in_err-left-in-Connected.field-0.0 c.in_err-left-in-Connected.ensures.err)

pub returns-in_err-right-in-Connected-clause-err : goal.returns-in_err-right-in-Connected-clause-err
returns-in_err-right-in-Connected-clause-err t c =
    let left = proposition c.in-Connected.left.now in
    let right = proposition c.in-Connected.right.now in
    refused_in c.from_residual-in_err-right-in-Connected.result c.in_err-right-in-Connected.field-0.0 (connected (meant c.in-Connected.connective) left right) c.args.term.now
    c.args.atoms.now.items c.in-Connected.ensures.meaning c.from_residual-in_err-right-in-Connected.ensures.1
    (refused_right (atom_places left) (atom_places right) c.args.atoms.now.items c.put_formula-in-Connected.new.atoms.items c.in_err-right-in-Connected.field-0.0
    c.in_ok-left-in-Connected.ensures.ok.added c.in_err-right-in-Connected.ensures.err)

pub returns-in_ok-right-in-Connected-clause-err : goal.returns-in_ok-right-in-Connected-clause-err
returns-in_ok-right-in-Connected-clause-err t c =
    no_memory c.put_part-in-Connected.result (atom_places (proposition c.args.term.now)) c.args.atoms.now.items c.put_part-in-Connected.ensures.err
