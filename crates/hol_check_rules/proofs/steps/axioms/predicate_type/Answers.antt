use Rattle.std.proofs.Common.{arith}
use Rattle.hol_check_rules.proofs.AxiomLemmas.{function-is, function-named}
use Rattle.hol_check_rules.proofs.steps.axioms.predicate_type.Goals as goal

pub returns-clause-named : goal.returns-clause-named
returns-clause-named c =
    let same = function-is c.type_variable.new.self c.boolean.new.self c.in_ok-domain.domain c.in_ok-codomain.codomain _ _ c.in_ok-domain.ensures.number
    c.boolean.ensures.grows c.in_ok-codomain.ensures.number in
    function-named c.function_type.new.self.types _ _ c.function_type.result same (omega arith) c.function_type.ensures.number c.function_type.ensures.refused
