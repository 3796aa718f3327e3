-- The new edge hides none, and leads to the new node.
use Rattle.std.proofs.Common.{◌≡◌, inl, inr, ℕ, List, [], ◌∷◌, ◌++◌, rules, arith, length, length-append, ◌∙◌, sym, ap}
use Rattle.std.specs.Map.{lookup}
use Rattle.indexmap.specs.IndexMap.{get_by}
use Rattle.hol_net.specs.declared.tree.Edge.{Edge}
use Rattle.hol_net.specs.Tree.{edge_eq}
use Rattle.hol_net.proofs.Growth.{edge_kept, edge_new, edges_updated, places_kept}
use Rattle.hol_net.proofs.tree.Tree.step_or_new.Goals as goal

pub returns-in_err-insert-clause-grows : goal.returns-in_err-insert-clause-grows
returns-in_err-insert-clause-grows c =
    let items : c.push.new.self.items ≡ c.args.self.now.ends.items ++ c.new.result ∷ [] = search rules in
    record {
      steps = λ from symbol to is. ap (λ (entries : List (Edge × ℕ)). lookup (edge_eq (record { from = from; symbol = symbol })) entries) c.in_err-insert.ensures.err ∙ is;
      symbols = λ name symbol is. is;
      places = λ node place is. rw items (places_kept c.args.self.now.ends.items (c.new.result ∷ []) node place is);
      nodes = rw items (omega (arith, length-append c.args.self.now.ends.items (c.new.result ∷ [])));
    }

pub returns-clause-grows : goal.returns-clause-grows
returns-clause-grows c =
    let key : Edge = record { from = c.args.from; symbol = c.args.symbol } in
    let items : c.push.new.self.items ≡ c.args.self.now.ends.items ++ c.new.result ∷ [] = search rules in
    record {
      steps = λ from symbol to is. edge_kept (λ e. get_by (edge_eq e) c.args.self.now.edges) (λ e. get_by (edge_eq e) c.insert.new.self) key c.len-to.result (sym c.in-None.ensures)
          (edges_updated c.args.self.now.edges c.insert.new.self key c.len-to.result c.in_ok-insert.ensures.updates.0) (record { from = from; symbol = symbol }) to is;
      symbols = λ name symbol is. is;
      places = λ node place is. rw items (places_kept c.args.self.now.ends.items (c.new.result ∷ []) node place is);
      nodes = rw items (omega (arith, length-append c.args.self.now.ends.items (c.new.result ∷ [])));
    }

pub returns-clause-tree : goal.returns-clause-tree
returns-clause-tree c =
    let key : Edge = record { from = c.args.from; symbol = c.args.symbol } in
    let items : c.push.new.self.items ≡ c.args.self.now.ends.items ++ c.new.result ∷ [] = search rules in
    let more = length-append c.args.self.now.ends.items (c.new.result ∷ []) in
    let len : c.len-to.result ≡ length c.args.self.now.ends.items = search rules in
    record {
      root = rw items (omega (arith, more));
      leads = λ from symbol to is. rw items
          (elim (edge_new (λ e. get_by (edge_eq e) c.args.self.now.edges) (λ e. get_by (edge_eq e) c.insert.new.self) key c.len-to.result
          (edges_updated c.args.self.now.edges c.insert.new.self key c.len-to.result c.in_ok-insert.ensures.updates.0) (record { from = from; symbol = symbol }) to is)
          [ inl same ↦ omega (arith, more) | inr known ↦ let old = c.requires.tree.leads from symbol to known in omega (arith, more) ]);
    }
