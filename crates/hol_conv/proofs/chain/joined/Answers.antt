use Rattle.std.proofs.Common.{◌≡◌, ◌∷◌, [], ◌++◌, ◌∙◌, Some}
use Rattle.std.proofs.lemmas.List.Elements.{All-pop}
use Rattle.std.proofs.lemmas.Result.{err_from_is_err_and}
use Rattle.hol_journal.specs.Journal.{IsMade}
use Rattle.hol_conv.proofs.Asking.{continued-twice}
use Rattle.hol_conv.proofs.Leading.{last-meets, front-leads}
use Rattle.hol_conv.proofs.Chaining.{joined-on, joined-off, joins-as, made-later}
use Rattle.hol_conv.proofs.chain.joined.Goals as goal

pub returns-in_err-last-clause-joins : goal.returns-in_err-last-clause-joins
returns-in_err-last-clause-joins c =
    let p = err_from_is_err_and c.from_residual.result c.from_residual.ensures.1 in
    let is : c.loop-theorem.theorems.items ≡ c.pop.new.self.items ++ c.in-Some.theorem ∷ [] = c.in-Some.ensures.items in
    let joins = rw c.loop-theorem.invariant.1.theory at c.in_err-last.ensures.joins in
    rw (p.1, p.2)
    (joins-as c.loop-theorem.invariant.0 (joined-off _ _ _ c.in-Some.theorem _ _ is joins))

pub loop-theorem-preserved : goal.loop-theorem-preserved
loop-theorem-preserved c =
    let is : c.loop-theorem.theorems.items ≡ c.pop.new.self.items ++ c.in-Some.theorem ∷ [] = c.in-Some.ensures.items in
    let joins = rw c.loop-theorem.invariant.1.theory at c.in_ok-last.ensures.joins in
    let makes = c.in_ok-last.ensures.makes in
    let front = All-pop (IsMade c.loop-theorem.library.recorder) _ _ (Some c.in-Some.theorem) c.in-Some.ensures.items c.loop-theorem.invariant.3 in (
      c.loop-theorem.invariant.0 ∙ joined-on _ _ _ c.in-Some.theorem _ _ is joins,
      continued-twice c.loop-theorem.invariant.1 makes.continued,
      makes.library,
      made-later c.pop.new.self.items makes.continued front.0,
      makes.made,
      front-leads _ c.pop.new.self.items c.in-Some.theorem c.loop-theorem.invariant.5 is c.in_ok-last.ensures.joins,
      λ stands. c.in_ok-last.ensures.stands ∙ c.loop-theorem.invariant.1.theory,
    )

pub trans_known-requires-clause-meets : goal.trans_known-requires-clause-meets
trans_known-requires-clause-meets c =
    let is : c.loop-theorem.theorems.items ≡ c.pop.new.self.items ++ c.in-Some.theorem ∷ [] = c.in-Some.ensures.items in
    last-meets c.pop.new.self.items c.in-Some.theorem c.loop-theorem.invariant.5 is
