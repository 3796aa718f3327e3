-- The node has one place more.
use Rattle.std.proofs.Common.{◌≡◌, ℕ, List, [], ◌∷◌, ◌++◌, rules, refl, inl, ◌∙◌, ap, sym}
use Rattle.std.proofs.lemmas.List.{append-nil}
use Rattle.hol_model.proofs.Terms.Membership.{IsMember-append_right}
use Rattle.hol_net.specs.Tree.{places_at}
use Rattle.hol_net.proofs.Growth.{places_put, places_stay, places_read}
use Rattle.hol_net.proofs.tree.Tree.note.Goals as goal

pub returns-in_err-push-clause-grows : goal.returns-in_err-push-clause-grows
returns-in_err-push-clause-grows c =
    let read : c.index_mut.result.now.items ≡ places_at c.args.self.now.ends.items c.args.node =
    places_read c.args.self.now.ends.items c.args.node c.index_mut.result.now c.index_mut.result.now c.requires.within c.index_mut.ensures.value in
    record {
      steps = λ from symbol to is. is;
      symbols = λ name symbol is. is;
      places = places_stay c.args.self.now.ends.items c.args.node c.push.new.self []
          (c.in_err-push.ensures.items ∙ (read ∙ sym (append-nil (places_at c.args.self.now.ends.items c.args.node))));
      nodes = search rules;
    }

pub returns-clause-noted : goal.returns-clause-noted
returns-clause-noted c =
    rw (places_put c.args.self.now.ends.items c.args.node c.push.new.self c.requires.within, c.in_ok-push.ensures.items)
    (IsMember-append_right c.args.place c.index_mut.result.now.items (c.args.place ∷ []) (inl refl))

pub returns-clause-grows : goal.returns-clause-grows
returns-clause-grows c =
    let read : c.index_mut.result.now.items ≡ places_at c.args.self.now.ends.items c.args.node =
    places_read c.args.self.now.ends.items c.args.node c.index_mut.result.now c.index_mut.result.now c.requires.within c.index_mut.ensures.value in
    record {
      steps = λ from symbol to is. is;
      symbols = λ name symbol is. is;
      places = places_stay c.args.self.now.ends.items c.args.node c.push.new.self (c.args.place ∷ [])
          (c.in_ok-push.ensures.items ∙ ap (λ (list : List ℕ). list ++ c.args.place ∷ []) read);
      nodes = search rules;
    }
