use Rattle.std.proofs.Common.{rules, ◌≡◌, true, List, length, sym, subst, inl}
use Rattle.indexmap.specs.IndexSet.{insert_key}
use Rattle.hol_check_terms.specs.Table.{IsPut}
use Rattle.hol_check_terms.specs.Terms.{TermTable, TermStandsAfterParts, type_table}
use Rattle.hol_check_terms.specs.TermTable.{AreTerms}
use Rattle.hol_check_terms.specs.declared.terms.TermNode.{TermNode}
use Rattle.hol_check_terms.specs.contracts.terms.TermNodePartialEq.TheImpl.{ghosts}
use Rattle.hol_check_terms.specs.contracts.terms.TermNodeEq.TheImpl.Laws.{laws-law}
use Rattle.hol_check_terms.proofs.TableLemmas.{IsLonger-same, put_by_insert, stored_node}
use Rattle.hol_check_terms.proofs.TermLemmas.{IsTermNode, put-AreTerms, put-longer, put-number}
use Rattle.hol_check_terms.proofs.terms.Terms.number_of.Goals as goal

same_nodes : (a b : TermNode) → ghosts.eq a b ≡ true → a ≡ b
same_nodes a b same = search rules

is_put : (node : TermNode) (earlier now : List TermNode) → now ≡ insert_key ghosts.eq earlier node → IsPut node earlier now
is_put node earlier now inserted = put_by_insert ghosts.eq node earlier now inserted (laws-law.refl node)

pub invariant_of-self : goal.invariant_of-self
invariant_of-self c = subst (λ keys. AreTerms c.self.inside.types keys c.self.inside.typed.entries) (sym c.in_err-number.ensures.err) c.self.invariant

pub returns-in_err-number-clause-grows : goal.returns-in_err-number-clause-grows
returns-in_err-number-clause-grows c =
    rw (← c.self.view_is)
    (record {
      names = IsLonger-same c.self.inside.types.names;
      types = IsLonger-same c.self.inside.types.types;
      terms = put-longer c.self.inside.types c.self.inside.nodes.keys _ c.args.node (record { put = inl c.in_err-number.ensures.err });
    })

pub invariant_of-self-2 : goal.invariant_of-self-2
invariant_of-self-2 c =
    put-AreTerms c.self.inside.types c.self.inside.nodes.keys _ c.self.inside.typed.entries c.args.node
    (record { names = c.have_one_number.ensures.names; types = c.have_one_number.ensures.types }) c.self.invariant
    (subst (λ (t : TermTable). IsTermNode (type_table t) t.terms c.args.node) (sym c.self.view_is)
    (record {
      placed = c.requires.placed;
      measured = record {
        height = c.requires.height;
        nodes = c.requires.nodes;
        needed = c.requires.needed;
        no_free = c.requires.no_free;
        height_fits =
            c.requires.height_fits;
        nodes_fit = c.requires.nodes_fit;
      };
    }))
    (is_put c.args.node c.self.inside.nodes.keys _ c.in_ok-number.ensures.keys)

pub returns-clause-grows : goal.returns-clause-grows
returns-clause-grows c =
    rw (← c.self.view_is)
    (record {
      names = IsLonger-same c.self.inside.types.names;
      types = IsLonger-same c.self.inside.types.types;
      terms = put-longer c.self.inside.types c.self.inside.nodes.keys _ c.args.node (is_put c.args.node c.self.inside.nodes.keys _ c.in_ok-number.ensures.keys);
    })

pub returns-clause-number : goal.returns-clause-number
returns-clause-number c =
    rw (← c.self.view_is)
    (put-number c.self.inside.types c.self.inside.nodes.keys c.insert_full.new.self.keys c.args.node (invariant_of-self-2 c).nodes_are
    (subst (λ (t : TermTable). TermStandsAfterParts (type_table t) (length t.terms) c.args.node) (sym c.self.view_is) c.requires.placed)
    (is_put c.args.node c.self.inside.nodes.keys _ c.in_ok-number.ensures.keys) c.in_ok-number.number
    (stored_node ghosts.eq same_nodes c.args.node c.insert_full.new.self.keys c.in_ok-number.number c.in_ok-number.ensures.stored))
