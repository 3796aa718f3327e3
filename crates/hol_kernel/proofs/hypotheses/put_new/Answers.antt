use Rattle.std.proofs.Common.{◌≡◌, ◌+◌, ◌++◌, [], ◌∷◌, take}
use Rattle.hol_kernel.proofs.PlaceLemmas.{new_put-there, new_put-between}
use Rattle.hol_kernel.proofs.hypotheses.put_new.Goals as goal

pub returns-in_ok-push_copies-in-Ok-clause-ok : goal.returns-in_ok-push_copies-in-Ok-clause-ok
returns-in_ok-push_copies-in-Ok-clause-ok c =
    let items : c.push_copies.new.all.items ≡ c.args.all.now.items ++ take (c.in-Ok.index + 1) c.args.others.now = cc (c.in_ok-push_copies-in-Ok.ensures.ok, c.split_at.ensures.front) in
    rw (items, c.split_at.ensures.back) (new_put-there c.args.others.now c.args.new.now c.in-Ok.index c.args.all.now.items c.requires c.in-Ok.ensures.place)

pub returns-in_ok-push_copy-in-Err-clause-ok : goal.returns-in_ok-push_copy-in-Err-clause-ok
returns-in_ok-push_copy-in-Err-clause-ok c =
    let items : c.push_copy.new.all.items ≡ (c.args.all.now.items ++ take c.in-Err.index c.args.others.now) ++ c.args.new.now ∷ [] =
    cc (c.in_ok-push_copy-in-Err.ensures.ok, c.in_ok-push_copies-in-Err.ensures.ok, c.split_at-in-Err.ensures.front) in
    rw (items, c.split_at-in-Err.ensures.back) (new_put-between c.args.others.now c.args.new.now c.in-Err.index c.args.all.now.items c.requires c.in-Err.ensures.place)
