use Rattle.std.proofs.Common.{◌≡◌, ◌+◌, ◌-◌, ◌++◌, [], ◌∷◌, length, take, drop, arith}
use Rattle.std.proofs.lemmas.List.{take_all, length-drop}
use Rattle.hol_kernel.proofs.PlaceLemmas.{old_put-there, old_put-between}
use Rattle.hol_kernel.proofs.hypotheses.put_old.Goals as goal

pub returns-in_ok-push_copy-in-Ok-clause-ok : goal.returns-in_ok-push_copy-in-Ok-clause-ok
returns-in_ok-push_copy-in-Ok-clause-ok c =
    let items : c.push_copy.new.all.items ≡ (c.args.all.now.items ++ take c.in-Ok.index c.args.others.now) ++ c.args.old.now ∷ [] =
    cc (c.in_ok-push_copy-in-Ok.ensures.ok, c.in_ok-push_copies-in-Ok.ensures.ok) in
    let behind : take (length c.args.others.now - (c.in-Ok.index + 1)) (drop (c.in-Ok.index + 1) c.args.others.now) ≡ drop (c.in-Ok.index + 1) c.args.others.now =
    take_all _ _ (omega (arith, length-drop (c.in-Ok.index + 1) c.args.others.now)) in
    rw (items, behind) (old_put-there c.args.others.now c.args.old.now c.in-Ok.index c.args.all.now.items c.requires c.in-Ok.ensures.place)

pub returns-in_ok-push_copy-in-Err-clause-ok : goal.returns-in_ok-push_copy-in-Err-clause-ok
returns-in_ok-push_copy-in-Err-clause-ok c =
    let items : c.push_copy-in-Err.new.all.items ≡ (c.args.all.now.items ++ take c.in-Err.index c.args.others.now) ++ c.args.old.now ∷ [] =
    cc (c.in_ok-push_copy-in-Err.ensures.ok, c.in_ok-push_copies-in-Err.ensures.ok, c.split_at.ensures.front) in
    rw (items, c.split_at.ensures.back) (old_put-between c.args.others.now c.args.old.now c.in-Err.index c.args.all.now.items c.requires c.in-Err.ensures.place)
