use Rattle.std.proofs.Common.{rules, ◌≡◌, true, List, length, sym, subst, inl}
use Rattle.indexmap.specs.IndexSet.{insert_key}
use Rattle.hol_check_terms.specs.Table.{IsPut}
use Rattle.hol_check_terms.specs.Types.{TypeTable, StandsAfterParts}
use Rattle.hol_check_terms.specs.TypeTable.{AreTypeNodes}
use Rattle.hol_check_terms.specs.declared.types.TypeNode.{TypeNode}
use Rattle.hol_check_terms.specs.contracts.types.TypeNodePartialEq.TheImpl.{ghosts}
use Rattle.hol_check_terms.specs.contracts.types.TypeNodeEq.TheImpl.Laws.{laws-law}
use Rattle.hol_check_terms.proofs.TableLemmas.{put_by_insert, stored_node}
use Rattle.hol_check_terms.proofs.TypeLemmas.{IsTypeNode, put-AreTypeNodes, put-longer, put-number}
use Rattle.hol_check_terms.proofs.types.Types.number_of.Goals as goal

same_nodes : (a b : TypeNode) → ghosts.eq a b ≡ true → a ≡ b
same_nodes a b same = search rules

is_put : (node : TypeNode) (earlier now : List TypeNode) → now ≡ insert_key ghosts.eq earlier node → IsPut node earlier now
is_put node earlier now inserted = put_by_insert ghosts.eq node earlier now inserted (laws-law.refl node)

pub invariant_of-self : goal.invariant_of-self
invariant_of-self c = subst (AreTypeNodes c.self.inside.names) (sym c.in_err-number.ensures.err) c.self.invariant

pub returns-in_err-number-clause-grows : goal.returns-in_err-number-clause-grows
returns-in_err-number-clause-grows c =
    rw (← c.self.view_is) (put-longer c.self.inside.names c.self.inside.nodes.keys _ c.args.node (record { put = inl c.in_err-number.ensures.err }))

pub invariant_of-self-2 : goal.invariant_of-self-2
invariant_of-self-2 c =
    put-AreTypeNodes c.self.inside.names c.self.inside.nodes.keys _ c.args.node c.have_one_number.ensures c.self.invariant
    (subst (λ (t : TypeTable). IsTypeNode t.names t.types c.args.node) (sym c.self.view_is) (c.requires.placed, c.requires.counted, c.requires.within_limit))
    (is_put c.args.node c.self.inside.nodes.keys _ c.in_ok-number.ensures.keys)

pub returns-clause-grows : goal.returns-clause-grows
returns-clause-grows c =
    rw (← c.self.view_is) (put-longer c.self.inside.names c.self.inside.nodes.keys _ c.args.node (is_put c.args.node c.self.inside.nodes.keys _ c.in_ok-number.ensures.keys))

pub returns-clause-number : goal.returns-clause-number
returns-clause-number c =
    rw (← c.self.view_is)
    (put-number c.self.inside.names c.self.inside.nodes.keys c.insert_full.new.self.keys c.args.node (invariant_of-self-2 c)
    (subst (λ (t : TypeTable). StandsAfterParts t.names (length t.types) c.args.node) (sym c.self.view_is) c.requires.placed)
    (is_put c.args.node c.self.inside.nodes.keys _ c.in_ok-number.ensures.keys) c.in_ok-number.number
    (stored_node ghosts.eq same_nodes c.args.node c.insert_full.new.self.keys c.in_ok-number.number c.in_ok-number.ensures.stored))
