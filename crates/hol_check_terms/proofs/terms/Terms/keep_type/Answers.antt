use Rattle.std.proofs.Common.{◌≡◌, ◌<◌, length, sym, subst}
use Rattle.hol_check_terms.specs.Terms.{TermTable, term_at}
use Rattle.hol_check_terms.specs.Loose.{binders_needed}
use Rattle.hol_check_terms.specs.Typed.{IsTypedUnderSome}
use Rattle.hol_check_terms.specs.TermTable.{terms_of}
use Rattle.hol_check_terms.proofs.TypedLemmas.{typed-anywhere, kept-AreTyped}
use Rattle.hol_check_terms.proofs.terms.Terms.keep_type.Goals as goal

pub invariant_of-self : goal.invariant_of-self
invariant_of-self c =
    let types = c.self.inside.types.types in
    let terms = terms_of c.self.inside.types c.self.inside.nodes.keys in
    let within : c.args.number < length terms = subst (λ (t : TermTable). c.args.number < length t.terms) (sym c.self.view_is) c.requires.number in
    let some : IsTypedUnderSome types (term_at terms c.args.number) c.args.ty = subst (λ (t : TermTable). IsTypedUnderSome t.types (term_at t.terms c.args.number) c.args.ty)
    (sym c.self.view_is) c.requires.typed in
    let none : binders_needed (term_at terms c.args.number) ≡ 0 = subst (λ (t : TermTable). binders_needed (term_at t.terms c.args.number) ≡ 0) (sym c.self.view_is) c.requires.closed in
    record {
      nodes_are = c.self.invariant.nodes_are;
      typed_are = kept-AreTyped types terms c.self.inside.typed.entries _ c.args.number c.args.ty c.remember_type.ensures.added within
          (typed-anywhere types (term_at terms c.args.number) c.args.ty none some) c.self.invariant.typed_are;
    }
