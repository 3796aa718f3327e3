use Rattle.hol_check_terms.proofs.TypeLemmas.{AreTypeNodes-later, types_of-later}
use Rattle.hol_check_terms.proofs.TableLemmas.{is_within, IsLonger-same, IsLonger-trans}
use Rattle.std.proofs.Common.{◌≡◌, sym, subst, IfOk, Some, slice_get, List, []}
use Rattle.std.specs.List.{slice_index_or}
use Rattle.std.proofs.lemmas.Option.{get_or_from_slice_get}
use Rattle.hol_model.specs.Terms.HolType.{HolType, declared_type}
use Rattle.hol_check_terms.specs.Growth.{IsLonger}
use Rattle.hol_check_terms.specs.Types.{TypeTable}
use Rattle.hol_check_terms.specs.TypeTable.{types_of}
use Rattle.hol_check_terms.proofs.types.Types.declared.Goals as goal

pub invariant_of-self : goal.invariant_of-self
invariant_of-self c = AreTypeNodes-later c.self.inside.names _ c.self.inside.nodes.keys c.number_of.ensures.grows c.self.invariant

pub returns-in_err-number-clause-grows : goal.returns-in_err-number-clause-grows
returns-in_err-number-clause-grows c =
    subst (λ l. IsLonger c.args.self.now.types l) (types_of-later c.self.inside.names _ c.self.inside.nodes.keys c.number_of.ensures.grows c.self.invariant)
    (subst (λ (t : TypeTable). IsLonger t.types (types_of c.self.inside.names c.self.inside.nodes.keys)) c.self.view_is (IsLonger-same _))

pub invariant_of-self-2 : goal.invariant_of-self-2
invariant_of-self-2 c = AreTypeNodes-later c.self.inside.names _ c.self.inside.nodes.keys c.number_of.ensures.grows c.self.invariant

pub number_of-requires-2-clause-placed : goal.number_of-requires-2-clause-placed
number_of-requires-2-clause-placed c = is_within _ c.in_ok-number.number _ c.in_ok-number.ensures.number

pub returns-clause-grows : goal.returns-clause-grows
returns-clause-grows c =
    IsLonger-trans c.args.self.now.types (types_of c.self.inside.names c.self.inside.nodes.keys) c.number_of-2.new.self.types
    (subst (λ (t : TypeTable). IsLonger t.types (types_of c.self.inside.names c.self.inside.nodes.keys)) c.self.view_is (IsLonger-same _))
    (subst (λ (l : List HolType). IsLonger l c.number_of-2.new.self.types) (sym (types_of-later c.self.inside.names _ c.self.inside.nodes.keys c.number_of.ensures.grows c.self.invariant))
    c.number_of-2.ensures.grows)

pub returns-clause-number : goal.returns-clause-number
returns-clause-number c =
    let name_is : slice_index_or c.number_of.new.self c.in_ok-number.number [] ≡ c.args.name.now = get_or_from_slice_get _ c.in_ok-number.number _ [] c.in_ok-number.ensures.number in
    subst (λ n. IfOk c.number_of-2.result (λ number. slice_get c.number_of-2.new.self.types number ≡ Some (declared_type n))) name_is c.number_of-2.ensures.number
