use Rattle.std.specs.Result.{is_ok}
use Rattle.hol_conv.proofs.RulesBefore.{prepares-none, prepares-pushed}
use Rattle.hol_conv.proofs.preparing.prepare_name.Goals as goal

pub returns-in-Ok : goal.returns-in-Ok
returns-in-Ok c = record {
  prepares =
      prepares-pushed c.args.prepared.now.items c.push-room.new.self.items c.in-Ok.named (is_ok c.push-room.result) c.rules_named.ensures.library c.rules_named.ensures.continued
      c.requires.prepared c.in-Ok.ensures.ok.prepared c.push-room.ensures.items;
}

pub returns-in-Err : goal.returns-in-Err
returns-in-Err c = record { prepares = prepares-none c.rules_named.ensures.library c.rules_named.ensures.continued c.requires.prepared }
