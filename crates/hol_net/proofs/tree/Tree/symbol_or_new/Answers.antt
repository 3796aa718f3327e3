-- The new name hides none.
use Rattle.std.proofs.Common.{◌≡◌, Some, None, rules, arith, ap, sym, ◌∙◌}
use Rattle.std.specs.Option.{option_map}
use Rattle.std.specs.String.{string_bytes}
use Rattle.std.proofs.lemmas.Map.Text.{hash_map_updates_text}
use Rattle.indexmap.specs.IndexMap.{get_by_text}
use Rattle.hol_net.specs.declared.tree.Symbol.TheVariants.{Constant}
use Rattle.hol_net.proofs.Growth.{name_kept}
use Rattle.hol_net.proofs.tree.Tree.symbol_or_new.Goals as goal

pub returns-clause-grows : goal.returns-clause-grows
returns-clause-grows c =
    let name = string_bytes c.in_ok-from_str.field-0 in
    let same : name ≡ c.args.name.now = search rules in
    let absent : option_map Constant (get_by_text c.args.self.now.names name) ≡ None =
    ap (λ n. option_map Constant (get_by_text c.args.self.now.names n)) same ∙ sym c.in-None.ensures in
    record {
      steps = λ from symbol to is. is;
      symbols = name_kept (get_by_text c.args.self.now.names) (get_by_text c.insert.new.self) name c.len-number.result absent
          (λ other. hash_map_updates_text name c.args.self.now.names c.insert.new.self (Some c.len-number.result) c.in_ok-insert.ensures.updates other);
      places = λ node place is. is;
      nodes = omega arith;
    }
