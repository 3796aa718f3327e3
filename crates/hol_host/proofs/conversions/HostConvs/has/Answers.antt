use Rattle.std.proofs.Common.{map, string_bytes, ◌∙◌}
use Rattle.hol_host.proofs.Listed.{listed_where_found}
use Rattle.hol_host.proofs.conversions.HostConvs.has.Goals as goal

pub returns : goal.returns
returns g c =
    c.is_some.ensures
    ∙ listed_where_found (map (λ named. string_bytes named.name) c.args.self.now.conversions.items) c.args.name.now c.place.result c.place.ensures.found c.place.ensures.none
