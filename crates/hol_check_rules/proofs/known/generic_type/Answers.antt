use Rattle.std.proofs.Common.{sym}
use Rattle.hol_check_rules.proofs.KnownLemmas.{given-type, no-constant}
use Rattle.hol_check_rules.proofs.known.generic_type.Goals as goal

pub returns-in-Some-clause-generic : goal.returns-in-Some-clause-generic
returns-in-Some-clause-generic c = λ entries knows. sym (given-type c.args.terms.now _ _ entries knows c.args.name c.in-Some.ty.now c.in-Some.ensures.value).given

pub returns-in-Some-clause-within : goal.returns-in-Some-clause-within
returns-in-Some-clause-within c = λ entries knows. (given-type c.args.terms.now _ _ entries knows c.args.name c.in-Some.ty.now c.in-Some.ensures.value).type_within

pub returns-in-None-clause-generic : goal.returns-in-None-clause-generic
returns-in-None-clause-generic c = λ entries knows. no-constant c.args.terms.now c.have_one_number.ensures.names _ _ entries knows c.args.name c.requires c.in-None.ensures.value
