-- What the walk over a whole pattern and a whole term finds is a match, and where it finds nothing there is none.
use Rattle.std.proofs.Common.{◌≡◌, ◌⊎◌, inl, inr, ℕ, List, [], Bool, true, false, refl, sym, ◌∙◌, ap, subst, Option, Some, None, if◌then◌else◌}
use Rattle.std.specs.Prelude.{find}
use Rattle.std.specs.Option.{option_map_or}
use Rattle.hol_model.specs.Logic.Derivable.{IsMember}
use Rattle.hol_model.specs.Terms.HolType.{HolType, type_variable, type_eq, type_instance_of}
use Rattle.hol_model.specs.Terms.NamedTerm.{NamedTerm, variable}
use Rattle.hol_model.specs.Terms.Nameless.{free, HasType, image}
use Rattle.hol_model.specs.Terms.Substitution.{replacement, is_variable_named, instantiate}
use Rattle.hol_model.proofs.Terms.HolTypeEq.{type_eq-Decides}
use Rattle.hol_model.proofs.Terms.Images.{image-typed}
use Rattle.hol_model.specs.Rewrites.Matching.{is_fixed, is_fixed_type, PutsType, PutsTerm, Matches}
use Rattle.hol_match.specs.Once.{IsOnce}
use Rattle.hol_match.specs.Walk.{Types, Terms, Found, match_part}
use Rattle.hol_match.proofs.TypeMatching.{found_member, found_passes, KeepsTypes, Solves, IsTypeTable}
use Rattle.hol_match.proofs.TermMatching.{named_variable, KeepsVariables, SolvesTerms, IsTermTable, IsTypePairFor, IsTermPairFor, PartFound, PartAnswer, part_answer}

-- a table of types puts the types of its pairs, and keeps what stays
table_solves : (fixed : List NamedTerm) (types : Types) → IsTypeTable fixed types → Solves (type_instance_of types) types
table_solves fixed types table = record {
  puts = λ pair member.
      let known = table.pairs pair member in
      rw known.is_old (ap (λ found. option_map_or (λ (p : HolType × HolType). p.0) found (type_variable known.name)) known.counts);
}

table_keeps : (fixed : List NamedTerm) (types : Types) → IsTypeTable fixed types → KeepsTypes fixed (type_instance_of types)
table_keeps fixed types table = record { keeps = λ name stays. go name stays (find (λ pair. type_eq pair.1 (type_variable name)) types) refl }
  where
    go : (name : List ℕ) → is_fixed_type fixed name ≡ true → (found : Option (HolType × HolType)) → find (λ pair. type_eq pair.1 (type_variable name)) types ≡ found
        → option_map_or (λ (p : HolType × HolType). p.0) found (type_variable name) ≡ type_variable name
    go name stays None absent = refl
    go name stays (Some pair) found =
        let known = table.pairs pair (found_member (λ other. type_eq other.1 (type_variable name)) types pair found) in
        let old : pair.1 ≡ type_variable name = (type_eq-Decides pair.1 (type_variable name)).0 (found_passes (λ other. type_eq other.1 (type_variable name)) types pair found) in
        let is_old : pair.1 ≡ type_variable known.name = known.is_old in
        let same : name ≡ known.name = cc in
        let changes : is_fixed_type fixed known.name ≡ false = known.may_change in
        let kept : is_fixed_type fixed known.name ≡ true = ap (is_fixed_type fixed) (sym same) ∙ stays in
        cc

-- a table of terms likewise
terms_solve : (fixed : List NamedTerm) (terms : Terms) → IsTermTable fixed terms → SolvesTerms (replacement terms) terms
terms_solve fixed terms table = record {
  puts = λ pair member.
      let known = table.pairs pair member in
      rw known.is_old (ap (λ found. option_map_or (λ (p : NamedTerm × NamedTerm). image p.0) found (free known.name known.ty)) known.counts);
}

terms_kept : (fixed : List NamedTerm) (terms : Terms) → IsTermTable fixed terms → KeepsVariables fixed (replacement terms)
terms_kept fixed terms table = record { keeps = λ name ty stays. go name ty stays (find (λ pair. is_variable_named name ty pair.1) terms) refl }
  where
    go : (name : List ℕ) (ty : HolType) → is_fixed fixed name ty ≡ true → (found : Option (NamedTerm × NamedTerm)) → find (λ pair. is_variable_named name ty pair.1) terms ≡ found
        → option_map_or (λ (p : NamedTerm × NamedTerm). image p.0) found (free name ty) ≡ free name ty
    go name ty stays None absent = refl
    go name ty stays (Some pair) found =
        let known = table.pairs pair (found_member (λ other. is_variable_named name ty other.1) terms pair found) in
        let old : pair.1 ≡ variable name ty = named_variable name ty pair.1 (found_passes (λ other. is_variable_named name ty other.1) terms pair found) in
        let is_old : pair.1 ≡ variable known.name known.ty = known.is_old in
        let same : name ≡ known.name = cc in
        let same_type : ty ≡ known.ty = cc in
        let changes : is_fixed fixed known.name known.ty ≡ false = known.may_change in
        let kept : is_fixed fixed known.name known.ty ≡ true = sym (λ i. is_fixed fixed (same i) (same_type i)) ∙ stays in
        cc

terms_typed : (fixed : List NamedTerm) (terms : Terms) → IsTermTable fixed terms → (name : List ℕ) (ty : HolType) → HasType [] (replacement terms name ty) ty
terms_typed fixed terms table name ty = go (find (λ pair. is_variable_named name ty pair.1) terms) refl
  where
    go : (found : Option (NamedTerm × NamedTerm)) → find (λ pair. is_variable_named name ty pair.1) terms ≡ found
        → HasType [] (option_map_or (λ (p : NamedTerm × NamedTerm). image p.0) found (free name ty)) ty
    go None absent = refl
    go (Some pair) found =
        let known = table.pairs pair (found_member (λ other. is_variable_named name ty other.1) terms pair found) in
        let old : pair.1 ≡ variable name ty = named_variable name ty pair.1 (found_passes (λ other. is_variable_named name ty other.1) terms pair found) in
        let is_old : pair.1 ≡ variable known.name known.ty = known.is_old in
        let same_type : known.ty ≡ ty = cc in
        image-typed pair.0 ty (known.is_typed ∙ ap Some same_type)

empty_types : (fixed : List NamedTerm) → IsTypeTable fixed []
empty_types fixed = record { pairs = λ pair member. absurd member; once = tt }

empty_terms : (fixed : List NamedTerm) → IsTermTable fixed []
empty_terms fixed = record { pairs = λ pair member. absurd member; once = tt }

is_match : (fixed : List NamedTerm) (pattern term : NamedTerm) (more : Found) → PartFound fixed ([], []) (image pattern) (image term) more
    → Matches fixed pattern term more.0 more.1
is_match fixed pattern term more found = record {
  is_match = record {
    may_be_put = record {
      typed = terms_typed fixed more.1 terms;
      keeps_types = (table_keeps fixed more.0 types).keeps;
      keeps_variables = (terms_kept fixed more.1 terms).keeps;
    };
    gives_term = found.gives (type_instance_of more.0) (replacement more.1) (table_keeps fixed more.0 types) (terms_kept fixed more.1 terms)
        (table_solves fixed more.0 types) (terms_solve fixed more.1 terms);
  };
  puts_types = λ pair member. puts_type pair member (found.named_types pair member);
  puts_terms = λ pair member. puts_term pair member
      (found.named_terms (type_instance_of more.0) (table_keeps fixed more.0 types) (table_solves fixed more.0 types) pair member);
}
  where
    types : IsTypeTable fixed more.0
    types = found.type_table (empty_types fixed)

    terms : IsTermTable fixed more.1
    terms = found.term_table (empty_terms fixed)

    puts_type : (pair : HolType × HolType) → IsMember pair more.0 → IsMember pair [] ⊎ IsTypePairFor (image pattern) pair → PutsType fixed pattern more.0 pair
    puts_type pair member (inl none) = absurd none
    puts_type pair member (inr known) =
        let entry = types.pairs pair member in
        let old : pair.1 ≡ type_variable known.name = known.is_old in
        let is_old : pair.1 ≡ type_variable entry.name = entry.is_old in
        let same : entry.name ≡ known.name = cc in
        record {
          name = known.name;
          is_old = known.is_old;
          occurs = known.occurs;
          may_change = ap (is_fixed_type fixed) (sym same) ∙ entry.may_change;
          counts = ap (λ name. find (λ other. type_eq other.1 (type_variable name)) more.0) (sym same) ∙ entry.counts;
        }

    puts_term : (pair : NamedTerm × NamedTerm) → IsMember pair more.1
        → IsMember pair [] ⊎ IsTermPairFor (instantiate (type_instance_of more.0) (image pattern)) pair → PutsTerm fixed pattern (type_instance_of more.0) more.1 pair
    puts_term pair member (inl none) = absurd none
    puts_term pair member (inr known) =
        let entry = terms.pairs pair member in
        let old : pair.1 ≡ variable known.name known.ty = known.is_old in
        let is_old : pair.1 ≡ variable entry.name entry.ty = entry.is_old in
        let same : entry.name ≡ known.name = cc in
        let same_type : entry.ty ≡ known.ty = cc in
        record {
          name = known.name;
          ty = known.ty;
          is_old = known.is_old;
          is_typed = entry.is_typed ∙ ap Some same_type;
          occurs = known.occurs;
          may_change = sym (λ i. is_fixed fixed (same i) (same_type i)) ∙ entry.may_change;
          counts = sym (λ i. find (λ other. is_variable_named (same i) (same_type i) other.1) more.1) ∙ entry.counts;
        }

-- where the walk finds something
whole_found : (fixed : List NamedTerm) (pattern term : NamedTerm) (types : Types) (terms : Terms) (fits : Bool)
    → match_part fixed [] ([], []) pattern term ≡ (if fits then Some (types, terms) else None) → fits ≡ true
    → PartFound fixed ([], []) (image pattern) (image term) (types, terms)
whole_found fixed pattern term types terms fits found passed =
    subst (λ (o : Option Found). PartAnswer fixed ([], []) (image pattern) (image term) o)
    (found ∙ ap (λ (test : Bool). if test then Some (types, terms) else None) passed)
    (part_answer fixed [] ([], []) pattern term)

pub match_found : (fixed : List NamedTerm) (pattern term : NamedTerm) (types : Types) (terms : Terms) (fits : Bool)
    → match_part fixed [] ([], []) pattern term ≡ (if fits then Some (types, terms) else None) → fits ≡ true → Matches fixed pattern term types terms
match_found fixed pattern term types terms fits found passed =
    is_match fixed pattern term (types, terms) (whole_found fixed pattern term types terms fits found passed)

pub match_once : (fixed : List NamedTerm) (pattern term : NamedTerm) (types : Types) (terms : Terms) (fits : Bool)
    → match_part fixed [] ([], []) pattern term ≡ (if fits then Some (types, terms) else None) → fits ≡ true → IsOnce types × IsOnce terms
match_once fixed pattern term types terms fits found passed =
    let whole = whole_found fixed pattern term types terms fits found passed in
    ((whole.type_table (empty_types fixed)).once, (whole.term_table (empty_terms fixed)).once)

pub ruleset matching = (match_found, part_answer)
