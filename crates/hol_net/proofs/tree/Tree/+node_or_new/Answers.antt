-- The function's way goes on where the argument's is made.
use Rattle.std.proofs.Common.{◌≡◌, ℕ, Some, Ok, Err, Result, IfOk}
use Rattle.hol_model.specs.Terms.NamedTerm.{NamedTerm, combination}
use Rattle.hol_model.specs.declared.fault.Fault.{Fault}
use Rattle.hol_net.specs.declared.tree.Tree.{Tree}
use Rattle.hol_net.specs.declared.tree.Symbol.TheVariants.{Combination}
use Rattle.hol_net.specs.Tree.{steps_of, symbols_of, node_after, Grows}
use Rattle.hol_net.proofs.Growth.{leads_through}
use Rattle.hol_net.proofs.tree.Tree.+node_or_new.Goals as goal

goes_through : (a b c : Tree) (from middle next : ℕ) (f x pattern : NamedTerm) → combination f x ≡ pattern → steps_of a from Combination ≡ Some middle → Grows a b
    → node_after (steps_of b) (symbols_of b) middle f ≡ Some next → Grows b c
    → (result : Result ℕ Fault) → IfOk result (λ to. node_after (steps_of c) (symbols_of c) next x ≡ Some to)
    → IfOk result (λ to. node_after (steps_of c) (symbols_of c) from pattern ≡ Some to)
goes_through a b c from middle next f x pattern whole step first head second (Ok to) argument = rw (← whole) (leads_through a b c from middle next to f x step first head second argument)
goes_through a b c from middle next f x pattern whole step first head second (Err fault) argument = argument

pub returns-in_ok-next-in-Combination-clause-leads : goal.returns-in_ok-next-in-Combination-clause-leads
returns-in_ok-next-in-Combination-clause-leads t c =
    goes_through c.step_or_new-in-Combination.new.self c.node_or_new.new.self c.node_or_new-in-Combination.new.self c.args.from
    c.in_ok-middle-in-Combination.middle c.in_ok-next-in-Combination.next c.in-Combination.function.now c.in-Combination.argument.now c.args.pattern.now
    c.in-Combination.ensures.value c.in_ok-middle-in-Combination.ensures.step c.node_or_new.ensures.grows c.in_ok-next-in-Combination.ensures.leads
    c.node_or_new-in-Combination.ensures.grows c.node_or_new-in-Combination.result c.node_or_new-in-Combination.ensures.leads
