use Rattle.std.proofs.Common.{◌≡◌, rules, Some}
use Rattle.std.specs.String.{string_bytes}
use Rattle.std.proofs.lemmas.Map.Text.{hash_map_updates_text}
use Rattle.indexmap.specs.IndexMap.{get_by_text}
use Rattle.hol_subst.proofs.Variables.{Grows-noting}
use Rattle.hol_subst.proofs.variable_types.add_variable.Goals as goal

pub returns-clause-grows : goal.returns-clause-grows
returns-clause-grows c =
    let name = string_bytes c.in_ok-from_str.field-0 in
    let types = c.in_ok-types.types in
    let same : name ≡ c.args.name.now = search rules in
    Grows-noting (get_by_text c.args.by_name.now) (get_by_text c.insert.new.self) name types
    (λ other. hash_map_updates_text name c.args.by_name.now c.insert.new.self (Some types) c.in_ok-insert.ensures.updates other)
    (rw same c.in_ok-types.ensures.widens)
