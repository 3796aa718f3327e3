-- What the walk over the pattern and the term finds: what can be put is what could be, and makes the one the other.
use Rattle.std.proofs.Common.{◌≡◌, ◌⊎◌, inl, inr, ℕ, List, [], ◌∷◌, ◌++◌, Bool, true, false, ◌||◌, refl, sym, ◌∙◌, ap, subst, Option, Some, None, if◌then◌else◌}
use Rattle.std.specs.Prelude.{find}
use Rattle.std.specs.Str.{bytes_eq}
use Rattle.std.specs.Option.{option_and_then, option_map_or}
use Rattle.std.proofs.lemmas.Slice.Eq.{bytes_eq-Decides}
use Rattle.hol_model.specs.Logic.Derivable.{IsMember}
use Rattle.hol_model.specs.Terms.HolType.{HolType, type_variable, TypeInstance, instantiate_type}
use Rattle.hol_model.specs.Terms.NamedTerm.{NamedTerm, variable, constant, combination, abstraction, Binder, type_of}
use Rattle.hol_model.specs.Terms.Nameless.{Nameless, free, const, bound, app, lam, HasType, image, image_under, same_term, binder_index}
use Rattle.hol_model.specs.Terms.Substitution.{TermInstance, put, instantiate, is_variable_named, occurs_free, OccursInTerm}
use Rattle.hol_model.proofs.Terms.Membership.{of_append, IsMember-append_left, IsMember-append_right}
use Rattle.hol_model.proofs.Tests.{same_name, same_variable-type, same_variable-self, same_term-Decides}
use Rattle.hol_model.proofs.Terms.Typing.{HasType-more}
use Rattle.hol_model.proofs.Terms.Images.{binder_types, image_under-type}
use Rattle.hol_model.specs.Rewrites.Matching.{is_fixed, MayBePut}
use Rattle.hol_match.specs.Once.{IsOnce}
use Rattle.hol_match.specs.Walk.{Types, Terms, Found, Sides, left_of, right_of, match_type, bound_alike, stays_inside, with_known_term, with_term, match_free, match_variable, match_part}
use Rattle.hol_match.proofs.BoundVariables.{BoundAlike, bound_alike-is}
use Rattle.hol_match.proofs.ClosedParts.{image_of_closed, stays_where_typed}
use Rattle.hol_match.proofs.Once.{once_more, not_found}
use Rattle.hol_match.proofs.TypeMatching.{found_member, found_passes, found_before, found_last, KeepsTypes, Solves, IsTypeTable, IsPairFor, TypesFound, TypeAnswer, type_answer}

-- what passes the test for a variable
pub named_variable : (name : List ℕ) (ty : HolType) (term : NamedTerm) → is_variable_named name ty term ≡ true → term ≡ variable name ty
named_variable name ty (variable other s) passed =
    let same : other ≡ name = same_name other name s ty passed in
    let same_type : s ≡ ty = same_variable-type other name s ty passed in
    cc
named_variable name ty (constant other s) passed = cc
named_variable name ty (combination f x) passed = cc
named_variable name ty (abstraction other s body) passed = cc

variable_named : (name : List ℕ) (ty : HolType) (term : NamedTerm) → free name ty ≡ image term → is_variable_named name ty term ≡ true
variable_named name ty (variable other s) e =
    let same : name ≡ other = cc in
    let same_type : ty ≡ s = cc in
    rw (same, same_type) (same_variable-self other s)
variable_named name ty (constant other s) e = cc
variable_named name ty (combination f x) e = cc
variable_named name ty (abstraction other s body) e = cc

-- the variables that stay are kept
pub record KeepsVariables (fixed : List NamedTerm) (theta : TermInstance) : Type 0 where
  pub keeps : (name : List ℕ) (ty : HolType) → is_fixed fixed name ty ≡ true → theta name ty ≡ free name ty

pub record SolvesTerms (theta : TermInstance) (terms : Terms) : Type 0 where
  pub puts : (pair : NamedTerm × NamedTerm) → IsMember pair terms → put theta (image pair.1) ≡ image pair.0

-- a pair is for a variable that may change, and is the first for it
pub record IsTermPair (fixed : List NamedTerm) (terms : Terms) (pair : NamedTerm × NamedTerm) : Type 0 where
  pub name : List ℕ
  pub ty : HolType
  pub is_old : pair.1 ≡ variable name ty
  pub is_typed : type_of pair.0 ≡ Some ty
  pub may_change : is_fixed fixed name ty ≡ false
  pub counts : find (λ other. is_variable_named name ty other.1) terms ≡ Some pair

pub record IsTermTable (fixed : List NamedTerm) (terms : Terms) : Type 0 where
  pub pairs : (pair : NamedTerm × NamedTerm) → IsMember pair terms → IsTermPair fixed terms pair
  pub once : IsOnce terms

-- a pair is for this variable
pub record IsPairOf (name : List ℕ) (ty : HolType) (pair : NamedTerm × NamedTerm) : Type 0 where
  pub is_old : pair.1 ≡ variable name ty

pub record TermsFound (fixed : List NamedTerm) (terms : Terms) (name : List ℕ) (ty : HolType) (new : Nameless) (more : Terms) : Type 0 where
  pub solves_more : (theta : TermInstance) → KeepsVariables fixed theta → SolvesTerms theta terms → theta name ty ≡ new → SolvesTerms theta more
  pub solved_before : (theta : TermInstance) → SolvesTerms theta more → SolvesTerms theta terms
  pub gives : (theta : TermInstance) → KeepsVariables fixed theta → SolvesTerms theta more → theta name ty ≡ new
  pub table : IsTermTable fixed terms → IsTermTable fixed more
  pub named : (pair : NamedTerm × NamedTerm) → IsMember pair more → IsMember pair terms ⊎ IsPairOf name ty pair

abbrev TermAnswer : List NamedTerm → Terms → List ℕ → HolType → Nameless → Option Terms → Type 0
TermAnswer fixed terms name ty new None = (theta : TermInstance) → KeepsVariables fixed theta → SolvesTerms theta terms → theta name ty ≡ new → ⊥
TermAnswer fixed terms name ty new (Some more) = TermsFound fixed terms name ty new more

no_more : (fixed : List NamedTerm) (terms : Terms) (name : List ℕ) (ty : HolType) (new : Nameless)
    → ((theta : TermInstance) → KeepsVariables fixed theta → SolvesTerms theta terms → theta name ty ≡ new) → TermsFound fixed terms name ty new terms
no_more fixed terms name ty new same = record {
  solves_more = λ theta keeps solves e. solves;
  solved_before = λ theta solves. solves;
  gives = same;
  table = λ table. table;
  named = λ pair member. inl member;
}

one_more : (fixed : List NamedTerm) (terms : Terms) (name : List ℕ) (ty : HolType) (term : NamedTerm) → type_of term ≡ Some ty
    → is_fixed fixed name ty ≡ false → find (λ pair. is_variable_named name ty pair.1) terms ≡ None
    → TermsFound fixed terms name ty (image term) (terms ++ (term, variable name ty) ∷ [])
one_more fixed terms name ty term typed changes absent = record {
  solves_more = λ theta keeps solves e. record { puts = λ pair member. put_one theta solves e pair (of_append pair terms (new ∷ []) member) };
  solved_before = λ theta solves. record { puts = λ pair member. solves.puts pair (IsMember-append_left pair terms (new ∷ []) member) };
  gives = λ theta keeps solves. solves.puts new (IsMember-append_right new terms (new ∷ []) (inl refl));
  table = λ table. record {
    pairs = λ pair member. is_pair table pair (of_append pair terms (new ∷ []) member);
    once = once_more terms new table.once (not_found (λ other. is_variable_named name ty other.1) terms new absent (same_variable-self name ty));
  };
  named = λ pair member. is_named pair (of_append pair terms (new ∷ []) member);
}
  where
    new : NamedTerm × NamedTerm
    new = (term, variable name ty)

    put_one : (theta : TermInstance) → SolvesTerms theta terms → theta name ty ≡ image term → (pair : NamedTerm × NamedTerm)
        → IsMember pair terms ⊎ IsMember pair (new ∷ []) → put theta (image pair.1) ≡ image pair.0
    put_one theta solves e pair (inl member) = solves.puts pair member
    put_one theta solves e pair (inr (inl same)) = rw same e
    put_one theta solves e pair (inr (inr none)) = absurd none

    is_pair : IsTermTable fixed terms → (pair : NamedTerm × NamedTerm) → IsMember pair terms ⊎ IsMember pair (new ∷ []) → IsTermPair fixed (terms ++ new ∷ []) pair
    is_pair table pair (inl member) =
        let known = table.pairs pair member in
        record {
          name = known.name;
          ty = known.ty;
          is_old = known.is_old;
          is_typed = known.is_typed;
          may_change = known.may_change;
          counts = found_before (λ other. is_variable_named known.name known.ty other.1) terms (new ∷ []) pair known.counts;
        }
    is_pair table pair (inr (inl same)) = record {
      name = name;
      ty = ty;
      is_old = ap (λ (p : NamedTerm × NamedTerm). p.1) same;
      is_typed = ap (λ (p : NamedTerm × NamedTerm). type_of p.0) same ∙ typed;
      may_change = changes;
      counts = found_last (λ other. is_variable_named name ty other.1) terms new absent (same_variable-self name ty) ∙ ap Some (sym same);
    }
    is_pair table pair (inr (inr none)) = absurd none

    is_named : (pair : NamedTerm × NamedTerm) → IsMember pair terms ⊎ IsMember pair (new ∷ []) → IsMember pair terms ⊎ IsPairOf name ty pair
    is_named pair (inl member) = inl member
    is_named pair (inr (inl same)) = inr (record { is_old = ap (λ (p : NamedTerm × NamedTerm). p.1) same })
    is_named pair (inr (inr none)) = absurd none

known_answer : (fixed : List NamedTerm) (terms : Terms) (name : List ℕ) (ty : HolType) (term : NamedTerm) → type_of term ≡ Some ty
    → is_fixed fixed name ty ≡ false → (found : Option (NamedTerm × NamedTerm)) → find (λ pair. is_variable_named name ty pair.1) terms ≡ found
    → TermAnswer fixed terms name ty (image term) (with_known_term terms name ty term found)
known_answer fixed terms name ty term typed changes None absent = one_more fixed terms name ty term typed changes absent
known_answer fixed terms name ty term typed changes (Some pair) found = go (same_term (image pair.0) (image term)) refl
  where
    is_put : (theta : TermInstance) → SolvesTerms theta terms → theta name ty ≡ image pair.0
    is_put theta solves =
        let member : IsMember pair terms = found_member (λ other. is_variable_named name ty other.1) terms pair found in
        let old : pair.1 ≡ variable name ty = named_variable name ty pair.1 (found_passes (λ other. is_variable_named name ty other.1) terms pair found) in
        sym (ap (λ t. put theta (image t)) old) ∙ solves.puts pair member

    go : (test : Bool) → same_term (image pair.0) (image term) ≡ test → TermAnswer fixed terms name ty (image term) (if test then Some terms else None)
    go true passed = no_more fixed terms name ty (image term) (λ theta keeps solves. is_put theta solves ∙ (same_term-Decides (image pair.0) (image term)).0 passed)
    go false failed = λ theta keeps solves e.
        let passed : same_term (image pair.0) (image term) ≡ true = (same_term-Decides (image pair.0) (image term)).1 (sym (is_put theta solves) ∙ e) in cc

pub term_answer : (fixed : List NamedTerm) (terms : Terms) (name : List ℕ) (ty : HolType) (term : NamedTerm) → type_of term ≡ Some ty
    → TermAnswer fixed terms name ty (image term) (with_term fixed terms name ty term)
term_answer fixed terms name ty term typed = go (is_fixed fixed name ty) refl
  where
    fixed_answer : is_fixed fixed name ty ≡ true → (test : Bool) → is_variable_named name ty term ≡ test
        → TermAnswer fixed terms name ty (image term) (if test then Some terms else None)
    fixed_answer stays true passed = no_more fixed terms name ty (image term) (λ theta keeps solves. keeps.keeps name ty stays ∙ sym (ap image (named_variable name ty term passed)))
    fixed_answer stays false failed = λ theta keeps solves e.
        let passed : is_variable_named name ty term ≡ true = variable_named name ty term (sym (keeps.keeps name ty stays) ∙ e) in cc

    go : (test : Bool) → is_fixed fixed name ty ≡ test
        → TermAnswer fixed terms name ty (image term) (if test then (if is_variable_named name ty term then Some terms else None)
        else with_known_term terms name ty term (find (λ pair. is_variable_named name ty pair.1) terms))
    go true stays = fixed_answer stays (is_variable_named name ty term) refl
    go false changes = known_answer fixed terms name ty term typed changes (find (λ pair. is_variable_named name ty pair.1) terms) refl

-- a pair is for a type variable of a part of the pattern, or for a variable of it with its types put in
pub record IsTypePairFor (pattern : Nameless) (pair : HolType × HolType) : Type 0 where
  pub name : List ℕ
  pub is_old : pair.1 ≡ type_variable name
  pub occurs : OccursInTerm name pattern

pub record IsTermPairFor (pattern : Nameless) (pair : NamedTerm × NamedTerm) : Type 0 where
  pub name : List ℕ
  pub ty : HolType
  pub is_old : pair.1 ≡ variable name ty
  pub occurs : occurs_free name ty pattern ≡ true

pub record PartFound (fixed : List NamedTerm) (found : Found) (pattern part : Nameless) (more : Found) : Type 0 where
  pub solves_types : (tau : TypeInstance) (theta : TermInstance) → MayBePut fixed tau theta → Solves tau found.0 → SolvesTerms theta found.1
      → put theta (instantiate tau pattern) ≡ part → Solves tau more.0
  pub solves_terms : (tau : TypeInstance) (theta : TermInstance) → MayBePut fixed tau theta → Solves tau found.0 → SolvesTerms theta found.1
      → put theta (instantiate tau pattern) ≡ part → SolvesTerms theta more.1
  pub types_before : (tau : TypeInstance) → Solves tau more.0 → Solves tau found.0
  pub terms_before : (theta : TermInstance) → SolvesTerms theta more.1 → SolvesTerms theta found.1
  pub gives : (tau : TypeInstance) (theta : TermInstance) → KeepsTypes fixed tau → KeepsVariables fixed theta → Solves tau more.0 → SolvesTerms theta more.1
      → put theta (instantiate tau pattern) ≡ part
  pub type_table : IsTypeTable fixed found.0 → IsTypeTable fixed more.0
  pub term_table : IsTermTable fixed found.1 → IsTermTable fixed more.1
  pub named_types : (pair : HolType × HolType) → IsMember pair more.0 → IsMember pair found.0 ⊎ IsTypePairFor pattern pair
  pub named_terms : (tau : TypeInstance) → KeepsTypes fixed tau → Solves tau more.0 → (pair : NamedTerm × NamedTerm) → IsMember pair more.1
      → IsMember pair found.1 ⊎ IsTermPairFor (instantiate tau pattern) pair

-- nothing can be put so that the part of the pattern becomes the part of the term
pub record HasNone (fixed : List NamedTerm) (found : Found) (pattern part : Nameless) : Type 0 where
  pub none : (tau : TypeInstance) (theta : TermInstance) → MayBePut fixed tau theta → Solves tau found.0 → SolvesTerms theta found.1
      → put theta (instantiate tau pattern) ≡ part → ⊥

abbrev pub PartAnswer : List NamedTerm → Found → Nameless → Nameless → Option Found → Type 0
PartAnswer fixed found pattern part None = HasNone fixed found pattern part
PartAnswer fixed found pattern part (Some more) = PartFound fixed found pattern part more

types_kept : {fixed : List NamedTerm} {tau : TypeInstance} {theta : TermInstance} → MayBePut fixed tau theta → KeepsTypes fixed tau
types_kept may = record { keeps = may.keeps_types }

variables_kept : {fixed : List NamedTerm} {tau : TypeInstance} {theta : TermInstance} → MayBePut fixed tau theta → KeepsVariables fixed theta
variables_kept may = record { keeps = may.keeps_variables }

-- a part that is the same whatever is put
same_whatever : (fixed : List NamedTerm) (found : Found) (pattern part : Nameless)
    → ((tau : TypeInstance) (theta : TermInstance) → put theta (instantiate tau pattern) ≡ part) → PartFound fixed found pattern part found
same_whatever fixed found pattern part same = record {
  solves_types = λ tau theta may types terms e. types;
  solves_terms = λ tau theta may types terms e. terms;
  types_before = λ tau solves. solves;
  terms_before = λ theta solves. solves;
  gives = λ tau theta keeps stays types terms. same tau theta;
  type_table = λ table. table;
  term_table = λ table. table;
  named_types = λ pair member. inl member;
  named_terms = λ tau keeps solves pair member. inl member;
}

-- a constant
constant_answer : (fixed : List NamedTerm) (found : Found) (name : List ℕ) (ty s : HolType) (types : Option Types) → TypeAnswer fixed found.0 ty s types
    → PartAnswer fixed found (const name ty) (const name s) (option_and_then (λ more. Some (more, found.1)) types)
constant_answer fixed found name ty s None answer = record { none = λ tau theta may types terms e. answer tau (types_kept may) types cc }
constant_answer fixed found name ty s (Some more) answer = record {
  solves_types = λ tau theta may types terms e. answer.solves_more tau (types_kept may) types cc;
  solves_terms = λ tau theta may types terms e. terms;
  types_before = answer.solved_before;
  terms_before = λ theta solves. solves;
  gives = λ tau theta keeps stays types terms. ap (const name) (answer.gives tau keeps types);
  type_table = answer.table;
  term_table = λ table. table;
  named_types = λ pair member. is_named pair (answer.named pair member);
  named_terms = λ tau keeps solves pair member. inl member;
}
  where
    is_named : (pair : HolType × HolType) → IsMember pair found.0 ⊎ IsPairFor ty pair → IsMember pair found.0 ⊎ IsTypePairFor (const name ty) pair
    is_named pair (inl member) = inl member
    is_named pair (inr known) = inr (record { name = known.name; is_old = known.is_old; occurs = known.occurs })

-- two parts, one after the other
or_left : (p q : Bool) → p ≡ true → (p || q) ≡ true
or_left p q e = cc

or_right : (p q : Bool) → q ≡ true → (p || q) ≡ true
or_right true q e = refl
or_right false q e = e

both_found : (fixed : List NamedTerm) (found : Found) (f x g y : Nameless) (more last : Found)
    → PartFound fixed found f g more → PartFound fixed more x y last → PartFound fixed found (app f x) (app g y) last
both_found fixed found f x g y more last first second = record {
  solves_types = λ tau theta may types terms e. second.solves_types tau theta may (first.solves_types tau theta may types terms cc) (first.solves_terms tau theta may types terms cc) cc;
  solves_terms = λ tau theta may types terms e. second.solves_terms tau theta may (first.solves_types tau theta may types terms cc) (first.solves_terms tau theta may types terms cc) cc;
  types_before = λ tau solves. first.types_before tau (second.types_before tau solves);
  terms_before = λ theta solves. first.terms_before theta (second.terms_before theta solves);
  gives = λ tau theta keeps stays types terms i. app (first.gives tau theta keeps stays (second.types_before tau types) (second.terms_before theta terms) i)
      (second.gives tau theta keeps stays types terms i);
  type_table = λ table. second.type_table (first.type_table table);
  term_table = λ table. second.term_table (first.term_table table);
  named_types = λ pair member. name_type pair (second.named_types pair member);
  named_terms = λ tau keeps solves pair member. name_term tau keeps solves pair (second.named_terms tau keeps solves pair member);
}
  where
    first_type : (pair : HolType × HolType) → IsMember pair found.0 ⊎ IsTypePairFor f pair → IsMember pair found.0 ⊎ IsTypePairFor (app f x) pair
    first_type pair (inl member) = inl member
    first_type pair (inr known) = inr (record { name = known.name; is_old = known.is_old; occurs = inl known.occurs })

    name_type : (pair : HolType × HolType) → IsMember pair more.0 ⊎ IsTypePairFor x pair → IsMember pair found.0 ⊎ IsTypePairFor (app f x) pair
    name_type pair (inl member) = first_type pair (first.named_types pair member)
    name_type pair (inr known) = inr (record { name = known.name; is_old = known.is_old; occurs = inr known.occurs })

    first_term : (tau : TypeInstance) (pair : NamedTerm × NamedTerm) → IsMember pair found.1 ⊎ IsTermPairFor (instantiate tau f) pair
        → IsMember pair found.1 ⊎ IsTermPairFor (instantiate tau (app f x)) pair
    first_term tau pair (inl member) = inl member
    first_term tau pair (inr known) = inr (record {
      name = known.name;
      ty = known.ty;
      is_old = known.is_old;
      occurs = or_left (occurs_free known.name known.ty (instantiate tau f)) (occurs_free known.name known.ty (instantiate tau x)) known.occurs;
    })

    name_term : (tau : TypeInstance) → KeepsTypes fixed tau → Solves tau last.0 → (pair : NamedTerm × NamedTerm)
        → IsMember pair more.1 ⊎ IsTermPairFor (instantiate tau x) pair → IsMember pair found.1 ⊎ IsTermPairFor (instantiate tau (app f x)) pair
    name_term tau keeps solves pair (inl member) = first_term tau pair (first.named_terms tau keeps (second.types_before tau solves) pair member)
    name_term tau keeps solves pair (inr known) = inr (record {
      name = known.name;
      ty = known.ty;
      is_old = known.is_old;
      occurs = or_right (occurs_free known.name known.ty (instantiate tau f)) (occurs_free known.name known.ty (instantiate tau x)) known.occurs;
    })

both_answer : (fixed : List NamedTerm) (found : Found) (f x g y : Nameless) (rest : Found → Option Found) (first : Option Found)
    → PartAnswer fixed found f g first → ((more : Found) → PartAnswer fixed more x y (rest more))
    → PartAnswer fixed found (app f x) (app g y) (option_and_then rest first)
both_answer fixed found f x g y rest None answer deeper = record { none = λ tau theta may types terms e. answer.none tau theta may types terms cc }
both_answer fixed found f x g y rest (Some more) answer deeper = go (rest more) (deeper more)
  where
    go : (second : Option Found) → PartAnswer fixed more x y second → PartAnswer fixed found (app f x) (app g y) second
    go None none = record {
      none = λ tau theta may types terms e.
          none.none tau theta may (answer.solves_types tau theta may types terms cc) (answer.solves_terms tau theta may types terms cc) cc;
    }
    go (Some last) second = both_found fixed found f x g y more last answer second

-- an abstraction: the binder's type, and then the body
under_found : (fixed : List NamedTerm) (found : Found) (ty s : HolType) (body part : Nameless) (types : Types) (last : Found)
    → TypesFound fixed found.0 ty s types → PartFound fixed (types, found.1) body part last → PartFound fixed found (lam ty body) (lam s part) last
under_found fixed found ty s body part types last first second = record {
  solves_types = λ tau theta may solves terms e. second.solves_types tau theta may (first.solves_more tau (types_kept may) solves cc) terms cc;
  solves_terms = λ tau theta may solves terms e. second.solves_terms tau theta may (first.solves_more tau (types_kept may) solves cc) terms cc;
  types_before = λ tau solves. first.solved_before tau (second.types_before tau solves);
  terms_before = second.terms_before;
  gives = λ tau theta keeps stays solves terms i. lam (first.gives tau keeps (second.types_before tau solves) i) (second.gives tau theta keeps stays solves terms i);
  type_table = λ table. second.type_table (first.table table);
  term_table = second.term_table;
  named_types = λ pair member. name_type pair (second.named_types pair member);
  named_terms = λ tau keeps solves pair member. name_term tau pair (second.named_terms tau keeps solves pair member);
}
  where
    first_type : (pair : HolType × HolType) → IsMember pair found.0 ⊎ IsPairFor ty pair → IsMember pair found.0 ⊎ IsTypePairFor (lam ty body) pair
    first_type pair (inl member) = inl member
    first_type pair (inr known) = inr (record { name = known.name; is_old = known.is_old; occurs = inl known.occurs })

    name_type : (pair : HolType × HolType) → IsMember pair types ⊎ IsTypePairFor body pair → IsMember pair found.0 ⊎ IsTypePairFor (lam ty body) pair
    name_type pair (inl member) = first_type pair (first.named pair member)
    name_type pair (inr known) = inr (record { name = known.name; is_old = known.is_old; occurs = inr known.occurs })

    name_term : (tau : TypeInstance) (pair : NamedTerm × NamedTerm) → IsMember pair found.1 ⊎ IsTermPairFor (instantiate tau body) pair
        → IsMember pair found.1 ⊎ IsTermPairFor (instantiate tau (lam ty body)) pair
    name_term tau pair (inl member) = inl member
    name_term tau pair (inr known) = inr (record { name = known.name; ty = known.ty; is_old = known.is_old; occurs = known.occurs })

under_answer : (fixed : List NamedTerm) (found : Found) (ty s : HolType) (body part : Nameless) (rest : Types → Option Found) (first : Option Types)
    → TypeAnswer fixed found.0 ty s first → ((types : Types) → PartAnswer fixed (types, found.1) body part (rest types))
    → PartAnswer fixed found (lam ty body) (lam s part) (option_and_then rest first)
under_answer fixed found ty s body part rest None answer deeper = record { none = λ tau theta may types terms e. answer tau (types_kept may) types cc }
under_answer fixed found ty s body part rest (Some types) answer deeper = go (rest types) (deeper types)
  where
    go : (second : Option Found) → PartAnswer fixed (types, found.1) body part second → PartAnswer fixed found (lam ty body) (lam s part) second
    go None none = record { none = λ tau theta may solves terms e. none.none tau theta may (answer.solves_more tau (types_kept may) solves cc) terms cc }
    go (Some last) second = under_found fixed found ty s body part types last answer second

-- a variable that is free in the pattern
free_found : (fixed : List NamedTerm) (found : Found) (name : List ℕ) (ty s : HolType) (part : Nameless) (types : Types) (terms : Terms)
    → ((tau : TypeInstance) (theta : TermInstance) → MayBePut fixed tau theta → theta name (instantiate_type tau ty) ≡ part → instantiate_type tau ty ≡ s)
    → TypesFound fixed found.0 ty s types → TermsFound fixed found.1 name s part terms → PartFound fixed found (free name ty) part (types, terms)
free_found fixed found name ty s part types terms same_type first second = record {
  solves_types = λ tau theta may solves solves_terms e. first.solves_more tau (types_kept may) solves (same_type tau theta may e);
  solves_terms = λ tau theta may solves solves_terms e. second.solves_more theta (variables_kept may) solves_terms (sym (ap (theta name) (same_type tau theta may e)) ∙ e);
  types_before = first.solved_before;
  terms_before = second.solved_before;
  gives = λ tau theta keeps stays solves solves_terms. ap (theta name) (first.gives tau keeps solves) ∙ second.gives theta stays solves_terms;
  type_table = first.table;
  term_table = second.table;
  named_types = λ pair member. name_type pair (first.named pair member);
  named_terms = λ tau keeps solves pair member. name_term tau keeps solves pair (second.named pair member);
}
  where
    name_type : (pair : HolType × HolType) → IsMember pair found.0 ⊎ IsPairFor ty pair → IsMember pair found.0 ⊎ IsTypePairFor (free name ty) pair
    name_type pair (inl member) = inl member
    name_type pair (inr known) = inr (record { name = known.name; is_old = known.is_old; occurs = known.occurs })

    name_term : (tau : TypeInstance) → KeepsTypes fixed tau → Solves tau types → (pair : NamedTerm × NamedTerm)
        → IsMember pair found.1 ⊎ IsPairOf name s pair → IsMember pair found.1 ⊎ IsTermPairFor (free name (instantiate_type tau ty)) pair
    name_term tau keeps solves pair (inl member) = inl member
    name_term tau keeps solves pair (inr known) = inr (record {
      name = name;
      ty = s;
      is_old = known.is_old;
      occurs = rw (first.gives tau keeps solves) (same_variable-self name s);
    })

-- where the term put is the part, the part has its type and no variable in it is bound outside
part_typed : (binders : List Binder) (name : List ℕ) (a : HolType) (theta : TermInstance) (term : NamedTerm) → HasType [] (theta name a) a
    → theta name a ≡ image_under binders term → HasType [] (image_under binders term) a
part_typed binders name a theta term typed e = subst (λ (t : Nameless). HasType [] t a) e typed

part_type : (binders : List Binder) (a : HolType) (term : NamedTerm) → HasType [] (image_under binders term) a → type_of term ≡ Some a
part_type binders a term typed = image_under-type binders term a (HasType-more (image_under binders term) [] (binder_types binders) a typed)

terms_answer : (fixed : List NamedTerm) (found : Found) (name : List ℕ) (ty s : HolType) (part : Nameless) (types : Types) (terms : Option Terms)
    → ((tau : TypeInstance) (theta : TermInstance) → MayBePut fixed tau theta → theta name (instantiate_type tau ty) ≡ part → instantiate_type tau ty ≡ s)
    → TypesFound fixed found.0 ty s types → TermAnswer fixed found.1 name s part terms
    → PartAnswer fixed found (free name ty) part (option_and_then (λ more. Some (types, more)) terms)
terms_answer fixed found name ty s part types None same_type first answer = record {
  none = λ tau theta may solves solves_terms e.
      answer theta (variables_kept may) solves_terms (sym (ap (theta name) (same_type tau theta may e)) ∙ e);
}
terms_answer fixed found name ty s part types (Some more) same_type first answer = free_found fixed found name ty s part types more same_type first answer

types_answer : (fixed : List NamedTerm) (found : Found) (name : List ℕ) (ty s : HolType) (part : Nameless) (types : Option Types) (terms : Option Terms)
    → ((tau : TypeInstance) (theta : TermInstance) → MayBePut fixed tau theta → theta name (instantiate_type tau ty) ≡ part → instantiate_type tau ty ≡ s)
    → TypeAnswer fixed found.0 ty s types → TermAnswer fixed found.1 name s part terms
    → PartAnswer fixed found (free name ty) part (option_and_then (λ some. option_and_then (λ more. Some (some, more)) terms) types)
types_answer fixed found name ty s part None terms same_type first answer = record {
  none = λ tau theta may solves solves_terms e.
      first tau (types_kept may) solves (same_type tau theta may e);
}
types_answer fixed found name ty s part (Some types) terms same_type first answer = terms_answer fixed found name ty s part types terms same_type first answer

free_answer : (fixed : List NamedTerm) (binders : List Binder) (found : Found) (name : List ℕ) (ty : HolType) (term : NamedTerm) (type : Option HolType)
    → type_of term ≡ type → PartAnswer fixed found (free name ty) (image_under binders term) (match_free fixed binders found name ty term type)
free_answer fixed binders found name ty term None untyped = record {
  none = λ tau theta may solves solves_terms e.
      let typed : type_of term ≡ Some (instantiate_type tau ty) =
      part_type binders (instantiate_type tau ty) term (part_typed binders name (instantiate_type tau ty) theta term (may.typed name (instantiate_type tau ty)) e) in
      cc;
}
free_answer fixed binders found name ty term (Some s) typed = go (stays_inside 0 binders term) refl
  where
    same_type : (tau : TypeInstance) (theta : TermInstance) → MayBePut fixed tau theta → theta name (instantiate_type tau ty) ≡ image_under binders term
        → instantiate_type tau ty ≡ s
    same_type tau theta may e =
        let known : type_of term ≡ Some (instantiate_type tau ty) =
        part_type binders (instantiate_type tau ty) term (part_typed binders name (instantiate_type tau ty) theta term (may.typed name (instantiate_type tau ty)) e) in
        cc

    go : (test : Bool) → stays_inside 0 binders term ≡ test
        → PartAnswer fixed found (free name ty) (image_under binders term) (if test
        then option_and_then (λ types. option_and_then (λ terms. Some (types, terms)) (with_term fixed found.1 name s term)) (match_type fixed found.0 ty s)
        else None)
    go true inside =
        types_answer fixed found name ty s (image_under binders term) (match_type fixed found.0 ty s) (with_term fixed found.1 name s term)
        same_type (type_answer fixed found.0 ty s)
        (subst (λ (part : Nameless). TermAnswer fixed found.1 name s part (with_term fixed found.1 name s term)) (sym (image_of_closed binders term inside))
        (term_answer fixed found.1 name s term typed))
    go false escapes = record {
      none = λ tau theta may solves solves_terms e.
          let inside : stays_inside 0 binders term ≡ true = stays_where_typed [] binders term (instantiate_type tau ty)
          (part_typed binders name (instantiate_type tau ty) theta term (may.typed name (instantiate_type tau ty)) e) in
          cc;
    }

-- a variable of the pattern, free or bound
variable_answer : (fixed : List NamedTerm) (sides : Sides) (found : Found) (name : List ℕ) (ty : HolType) (term : NamedTerm) (alike : Option Bool)
    → BoundAlike sides name ty term alike
    → PartAnswer fixed found (image_under (left_of sides) (variable name ty)) (image_under (right_of sides) term) (match_variable fixed sides found name ty term alike)
variable_answer fixed sides found name ty term None is_free =
    subst (λ (pattern : Nameless). PartAnswer fixed found pattern (image_under (right_of sides) term) (match_free fixed (right_of sides) found name ty term (type_of term)))
    (sym (ap (λ index. option_map_or bound index (free name ty)) is_free))
    (free_answer fixed (right_of sides) found name ty term (type_of term) refl)
variable_answer fixed sides found name ty term (Some alike) is_bound =
    subst (λ (pattern : Nameless). PartAnswer fixed found pattern (image_under (right_of sides) term) (if alike then Some found else None))
    (sym (ap (λ index. option_map_or bound index (free name ty)) is_bound.1))
    (go alike is_bound.2.0 is_bound.2.1)
  where
    go : (test : Bool) → (test ≡ true → image_under (right_of sides) term ≡ bound is_bound.0) → (image_under (right_of sides) term ≡ bound is_bound.0 → test ≡ true)
        → PartAnswer fixed found (bound is_bound.0) (image_under (right_of sides) term) (if test then Some found else None)
    go true to back = same_whatever fixed found (bound is_bound.0) (image_under (right_of sides) term) (λ tau theta. sym (to refl))
    go false to back = record { none = λ tau theta may types terms e. let same : false ≡ true = back (sym e) in cc }

named_answer : (fixed : List NamedTerm) (found : Found) (name other : List ℕ) (ty s : HolType) (test : Bool) → bytes_eq name other ≡ test
    → PartAnswer fixed found (const name ty) (const other s) (if test then option_and_then (λ types. Some (types, found.1)) (match_type fixed found.0 ty s) else None)
named_answer fixed found name other ty s true passed =
    subst (λ (n : List ℕ). PartAnswer fixed found (const name ty) (const n s) (option_and_then (λ types. Some (types, found.1)) (match_type fixed found.0 ty s)))
    ((bytes_eq-Decides name other).0 passed)
    (constant_answer fixed found name ty s (match_type fixed found.0 ty s) (type_answer fixed found.0 ty s))
named_answer fixed found name other ty s false failed = record {
  none = λ tau theta may types terms e.
      let passed : bytes_eq name other ≡ true = (bytes_eq-Decides name other).1 cc in cc;
}

-- a variable is no constant, combination or abstraction
unlike_variable : (fixed : List NamedTerm) (found : Found) (pattern : Nameless) (name : List ℕ) (ty : HolType) (index : Option ℕ)
    → ((tau : TypeInstance) (theta : TermInstance) (index : ℕ) → put theta (instantiate tau pattern) ≡ bound index → ⊥)
    → ((tau : TypeInstance) (theta : TermInstance) → put theta (instantiate tau pattern) ≡ free name ty → ⊥)
    → HasNone fixed found pattern (option_map_or bound index (free name ty))
unlike_variable fixed found pattern name ty None not_bound not_free = record { none = λ tau theta may types terms e. not_free tau theta e }
unlike_variable fixed found pattern name ty (Some index) not_bound not_free = record { none = λ tau theta may types terms e. not_bound tau theta index e }

-- whatever is found of each part of the pattern and of the term
pub part_answer : (fixed : List NamedTerm) (sides : Sides) (found : Found) (pattern term : NamedTerm)
    → PartAnswer fixed found (image_under (left_of sides) pattern) (image_under (right_of sides) term) (match_part fixed sides found pattern term)
part_answer fixed sides found (variable name ty) term = variable_answer fixed sides found name ty term (bound_alike sides name ty term) (bound_alike-is sides name ty term)
part_answer fixed sides found (constant name ty) (constant other s) = named_answer fixed found name other ty s (bytes_eq name other) refl
part_answer fixed sides found (combination f x) (combination g y) =
    both_answer fixed found (image_under (left_of sides) f) (image_under (left_of sides) x) (image_under (right_of sides) g) (image_under (right_of sides) y)
    (λ more. match_part fixed sides more x y) (match_part fixed sides found f g)
    (part_answer fixed sides found f g) (λ more. part_answer fixed sides more x y)
part_answer fixed sides found (abstraction name ty body) (abstraction other s other_body) =
    under_answer fixed found ty s (image_under ((name, ty) ∷ left_of sides) body) (image_under ((other, s) ∷ right_of sides) other_body)
    (λ types. match_part fixed (((name, ty), (other, s)) ∷ sides) (types, found.1) body other_body) (match_type fixed found.0 ty s)
    (type_answer fixed found.0 ty s) (λ types. part_answer fixed (((name, ty), (other, s)) ∷ sides) (types, found.1) body other_body)
part_answer fixed sides found (constant name ty) (variable other s) =
    unlike_variable fixed found (const name ty) other s (binder_index (right_of sides) other s)
    (λ tau theta index e. cc) (λ tau theta e. cc)
part_answer fixed sides found (combination f x) (variable other s) =
    unlike_variable fixed found (image_under (left_of sides) (combination f x)) other s (binder_index (right_of sides) other s)
    (λ tau theta index e. cc) (λ tau theta e. cc)
part_answer fixed sides found (abstraction name ty body) (variable other s) =
    unlike_variable fixed found (image_under (left_of sides) (abstraction name ty body)) other s (binder_index (right_of sides) other s)
    (λ tau theta index e. cc) (λ tau theta e. cc)
part_answer fixed sides found (constant name ty) (combination g y) = record { none = λ tau theta may types terms e. cc }
part_answer fixed sides found (constant name ty) (abstraction other s part) = record { none = λ tau theta may types terms e. cc }
part_answer fixed sides found (combination f x) (constant other s) = record { none = λ tau theta may types terms e. cc }
part_answer fixed sides found (combination f x) (abstraction other s part) = record { none = λ tau theta may types terms e. cc }
part_answer fixed sides found (abstraction name ty body) (constant other s) = record { none = λ tau theta may types terms e. cc }
part_answer fixed sides found (abstraction name ty body) (combination g y) = record { none = λ tau theta may types terms e. cc }
