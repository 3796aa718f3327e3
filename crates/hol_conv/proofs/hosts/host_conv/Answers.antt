use Rattle.std.proofs.Common.{refl, ◌≡◌, true, false, arith, rules}
use Rattle.hol_model.specs.Refining.HostFunctions.{HostEquation}
use Rattle.hol_model.specs.Refining.Conversions.{host_is_unknown, host_fails, host_converts, finds_no_memory}
use Rattle.hol_just.specs.Steps.{tree_of}
use Rattle.hol_conv.proofs.hosts.host_conv.Goals as goal

pub returns-in-None-clause-converts : goal.returns-in-None-clause-converts
returns-in-None-clause-converts g c depth left = host_is_unknown (λ listed. let no : false ≡ true = c.in-None.ensures.there.1 listed in cc)

pub returns-in-Some-Err-Failed-clause-converts : goal.returns-in-Some-Err-Failed-clause-converts
returns-in-Some-Err-Failed-clause-converts g c depth left = host_fails (c.in-Some-Err-Failed.ensures.there.0 refl) (search rules)

pub returns-in-Some-Err-Memory-clause-converts : goal.returns-in-Some-Err-Memory-clause-converts
returns-in-Some-Err-Memory-clause-converts g c depth left = finds_no_memory (omega arith)

pub returns-in-Some-Ok-clause-converts : goal.returns-in-Some-Ok-clause-converts
returns-in-Some-Ok-clause-converts g c depth left =
    let answered : HostEquation = record { term = c.in-Some-Ok.other; justification = tree_of c.in-Some-Ok.just } in
    host_converts answered (c.in-Some-Ok.ensures.there.0 refl) (rw c.in-Some-Ok.field-0-is at c.in-Some-Ok.ensures.answer) c.equation_of.ensures.answers
