-- SYM: the parts of an equation, what is made on the way, and the answer.
use Rattle.std.proofs.Common.{◌≡◌, List, [], ◌∷◌, ◌++◌, Bool, true, refl, sym, ◌∙◌, ap, subst, Some, Result, Ok, Err, IfOk, arith, append-nil}
use Rattle.std.specs.List.{list_all}
use Rattle.hol_model.specs.declared.fault.Fault.{Fault}
use Rattle.hol_model.specs.Terms.HolType.{HolType, bool_type, function_type}
use Rattle.hol_model.specs.Terms.NamedTerm.{NamedTerm, variable, constant, combination, abstraction, equation, equality, type_of}
use Rattle.hol_model.specs.Terms.Nameless.{Nameless, const, app, image}
use Rattle.hol_model.specs.Terms.Measures.{nameless_within_limits}
use Rattle.hol_model.specs.Logic.Theory.{Theory, IsLegal, IsKnown, equality_name, equality_type}
use Rattle.hol_model.specs.Logic.Derivable.{IsSameSet, nameless_equation}
use Rattle.hol_model.specs.Kernel.Theorem.{Theorem, IsTheorem}
use Rattle.hol_model.specs.Kernel.Rules.{dest_equation}
use Rattle.hol_model.specs.Derived.DerivedRules.{Stated, AnswersStated, named, images, terms_of_theorem, terms_of_stated, is_roomy, sym_outcome}
use Rattle.hol_model.proofs.Tests.{first_of_both}
use Rattle.hol_model.proofs.Logic.Known.{equation-sides, equality-known, IsKnown-type}
use Rattle.hol_journal.specs.Journal.{Journal, Recorded, IsMade, theorem_in}
use Rattle.hol_journal.proofs.Showing.{sides_of}
use Rattle.hol_equal.specs.Sequents.{Shows, Gives, IsPast}
use Rattle.hol_equal.proofs.StepLemmas.{dest-equation}
use Rattle.hol_equal.proofs.Sizes.{equation-room, equality-sized, sized-more, sized-app, sized-equation, sized-within, past-room}
use Rattle.hol_equal.proofs.CutLemmas.{conclusion-known, answers-stated, given-derives}

abbrev pub equality_at : HolType → Nameless
equality_at ty = const equality_name (equality_type ty)

-- a theorem's equation of two terms, with `=` as it stands there
pub record SymParts (theory : Theory) (theorem : Theorem) (relation a b : NamedTerm) : Type 0 where
  pub ty : HolType
  pub dest : dest_equation theorem.conclusion ≡ Some (a, b)
  pub shows : Shows theorem (images theorem) (nameless_equation ty (image a) (image b))
  pub relation_image : image relation ≡ const equality_name (equality_type ty)
  pub relation_is : relation ≡ equality (Some ty)
  pub relation_known : IsKnown theory (image relation) (equality_type ty)
  pub left_known : IsKnown theory (image a) ty
  pub left_typed : type_of a ≡ Some ty
  pub right_typed : type_of b ≡ Some ty

relation-from : (relation : NamedTerm) (ty : HolType) → image relation ≡ const equality_name (equality_type ty) → relation ≡ equality (Some ty)
relation-from (constant name s) ty is = let one : name ≡ equality_name = cc in let two : s ≡ equality_type ty = cc in λ i. constant (one i) (two i)
relation-from (variable name s) ty is = cc
relation-from (combination f x) ty is = cc
relation-from (abstraction name s body) ty is = cc

pub sym-parts : (journal : Journal) → IsLegal journal.theory → (made : Recorded) → IsMade journal made → IsTheorem made.theorem → (relation a b : NamedTerm)
    → made.theorem.conclusion ≡ combination (combination relation a) b → dest_equation made.theorem.conclusion ≡ Some (a, b) → SymParts journal.theory made.theorem relation a b
sym-parts journal legal made is_made is relation a b whole dest =
    let e = sides_of made.theorem is a b dest in
    let known = conclusion-known journal legal made is_made is in
    let parts : app (app (image relation) (image a)) (image b) ≡ nameless_equation e.ty (image a) (image b) = ap image (sym whole) ∙ e.image_is in
    let relation_image : image relation ≡ const equality_name (equality_type e.ty) = cc in
    let sides = equation-sides journal.theory e.ty (image a) (image b) (subst (λ (t : Nameless). IsKnown journal.theory t bool_type) e.image_is known) in
    let type_known = IsKnown-type journal.theory (image a) e.ty sides.left in
    record {
      ty = e.ty;
      dest = dest;
      shows = record { same_set = record { to = λ x m. m; back = λ x m. m }; concludes = e.image_is };
      relation_image = relation_image;
      relation_is = relation-from relation e.ty relation_image;
      relation_known = subst (λ (t : Nameless). IsKnown journal.theory t (equality_type e.ty)) (sym relation_image)
          (record { typed = refl; parts = ((type_known, (type_known, tt)), equality-known journal.theory legal e.ty) });
      left_known = sides.left;
      left_typed = e.left_typed;
      right_typed = e.right_typed;
    }

-- the parts, as the program takes them
pub sym-parts-at : (journal : Journal) → IsLegal journal.theory → (made : Recorded) → IsMade journal made → (theorem : Theorem) → theorem ≡ made.theorem → IsTheorem theorem
    → (conclusion relation a b : NamedTerm) → conclusion ≡ theorem.conclusion → conclusion ≡ combination (combination relation a) b → Some (a, b) ≡ dest_equation conclusion
    → SymParts journal.theory made.theorem relation a b
sym-parts-at journal legal made is_made theorem same is conclusion relation a b concludes whole dest =
    let conclusion_is : conclusion ≡ made.theorem.conclusion = concludes ∙ ap (λ (t : Theorem). t.conclusion) same in
    sym-parts journal legal made is_made (subst (λ (t : Theorem). IsTheorem t) same is) relation a b (sym conclusion_is ∙ whole) (ap dest_equation (sym conclusion_is) ∙ sym dest)

-- what is known stays so where the theory does
pub known_in : (now old : Theory) (t : Nameless) (ty : HolType) → now ≡ old → IsKnown old t ty → IsKnown now t ty
known_in now old t ty same known = subst (λ (th : Theory). IsKnown th t ty) (sym same) known

-- `=` as it stands in the equation, and as it is written
pub relation-shows : (theory : Theory) (theorem : Theorem) (relation a b : NamedTerm) (parts : SymParts theory theorem relation a b) (made : Theorem)
    → Shows made [] (nameless_equation (equality_type parts.ty) (image relation) (image relation))
    → Shows made [] (nameless_equation (equality_type parts.ty) (equality_at parts.ty) (equality_at parts.ty))
relation-shows theory theorem relation a b parts made shown = subst (λ (t : Nameless). Shows made [] (nameless_equation (equality_type parts.ty) t t)) parts.relation_image shown

-- what is made on the way is within the limits

pub relation-within : (ty : HolType) (l r : Nameless) → is_roomy (nameless_equation ty l r) ≡ true
    → nameless_within_limits (nameless_equation (equality_type ty) (const equality_name (equality_type ty)) (const equality_name (equality_type ty))) ≡ true
relation-within ty l r roomy =
    let room = equation-room ty l r roomy in
    let few = room.few in
    let one = equality-sized ty (omega arith) in
    sized-within 3 5 (nameless_equation (equality_type ty) (equality_at ty) (equality_at ty))
    (sized-equation 1 1 1 (equality_type ty) (equality_at ty) (equality_at ty) (omega arith) (omega arith) one one) (omega arith) (omega arith)

pub applied-within : (ty : HolType) (l r : Nameless) → is_roomy (nameless_equation ty l r) ≡ true
    → nameless_within_limits (nameless_equation (function_type ty bool_type) (app (const equality_name (equality_type ty)) l) (app (const equality_name (equality_type ty)) r)) ≡ true
applied-within ty l r roomy =
    let room = equation-room ty l r roomy in
    let few = room.few in
    let relation = sized-more 1 1 1000 1 (equality_at ty) (equality-sized ty (omega arith)) (omega arith) (omega arith) in
    let left = sized-app 1000 1 5000 (equality_at ty) l relation room.left in
    let right = sized-app 1000 1 5000 (equality_at ty) r relation room.right in
    sized-within 1003 10007 (nameless_equation (function_type ty bool_type) (app (equality_at ty) l) (app (equality_at ty) r))
    (sized-equation 1001 5002 5002 (function_type ty bool_type) (app (equality_at ty) l) (app (equality_at ty) r) (omega arith) (omega arith) left right) (omega arith) (omega arith)

pub left-within : (ty : HolType) (l r : Nameless) → is_roomy (nameless_equation ty l r) ≡ true → nameless_within_limits (nameless_equation ty l l) ≡ true
left-within ty l r roomy =
    let room = equation-room ty l r roomy in
    let few = room.few in
    sized-within 1002 10003 (nameless_equation ty l l) (sized-equation 1000 5000 5000 ty l l (omega arith) (omega arith) room.left room.left) (omega arith) (omega arith)

pub congruence-within : (ty : HolType) (l r : Nameless) → is_roomy (nameless_equation ty l r) ≡ true
    → nameless_within_limits (nameless_equation bool_type (nameless_equation ty l l) (nameless_equation ty r l)) ≡ true
congruence-within ty l r roomy =
    let room = equation-room ty l r roomy in
    let few = room.few in
    let left = sized-equation 1000 5000 5000 ty l l (omega arith) (omega arith) room.left room.left in
    let right = sized-equation 1000 5000 5000 ty r l (omega arith) (omega arith) room.right room.left in
    sized-within 1004 20009 (nameless_equation bool_type (nameless_equation ty l l) (nameless_equation ty r l))
    (sized-equation 1002 10003 10003 bool_type (nameless_equation ty l l) (nameless_equation ty r l) (omega arith) (omega arith) left right) (omega arith) (omega arith)

-- the answer

abbrev swapped : Theorem → NamedTerm → NamedTerm → Stated
swapped theorem a b = record { hypotheses = images theorem; conclusion = named (equation b a) }

pub sym-past : (fault : Fault) (theory : Theory) (theorem : Theorem) (relation a b : NamedTerm) (parts : SymParts theory theorem relation a b) (within : Bool) → IsPast fault within
    → (is_roomy (nameless_equation parts.ty (image a) (image b)) ≡ true → within ≡ true) → AnswersStated (Err fault) (terms_of_theorem theorem) (sym_outcome theorem)
sym-past fault theory theorem relation a b parts within past fits =
    let outcome : sym_outcome theorem ≡ Ok (swapped theorem a b) = rw parts.dest refl in
    let rest = images theorem ++ terms_of_stated (swapped theorem a b) in
    subst (λ (o : Result Stated Fault). AnswersStated (Err fault) (terms_of_theorem theorem) o) (sym outcome)
    (past-room fault within (list_all is_roomy (image theorem.conclusion ∷ rest)) past
    (λ all. fits (ap is_roomy (sym parts.shows.concludes) ∙ first_of_both (is_roomy (image theorem.conclusion)) (list_all is_roomy rest) all)))

pub sym-stated : (result : Result Recorded Fault) (theory : Theory) (theorem : Theorem) (relation a b : NamedTerm) (parts : SymParts theory theorem relation a b)
    → Gives result ((([] ++ images theorem) ++ []) ++ []) (nameless_equation parts.ty (image b) (image a))
    → IfOk result (λ made. made.theorem.conclusion ≡ equation b a) → AnswersStated (theorem_in result) (terms_of_theorem theorem) (sym_outcome theorem)
sym-stated result theory theorem relation a b parts gives names =
    let outcome : sym_outcome theorem ≡ Ok (swapped theorem a b) = rw parts.dest refl in
    let all : (((([] ++ images theorem) ++ []) ++ []) ≡ images theorem) = append-nil (images theorem ++ []) ∙ append-nil (images theorem) in
    subst (λ (o : Result Stated Fault). AnswersStated (theorem_in result) (terms_of_theorem theorem) o) (sym outcome)
    (answers-stated result (terms_of_theorem theorem) [] (((([] ++ images theorem) ++ []) ++ [])) (nameless_equation parts.ty (image b) (image a)) (swapped theorem a b)
    (given-derives true result ((([] ++ images theorem) ++ []) ++ []) (nameless_equation parts.ty (image b) (image a)) gives)
    (subst (λ (l : List Nameless). IsSameSet l (images theorem)) (sym all) (record { to = λ x m. m; back = λ x m. m })) names (λ t m. absurd m))

-- the very conclusion, from those of the theorems on the way
pub sym-names : (result : Result Recorded Fault) (theory : Theory) (theorem same applied reflexive congruence : Theorem) (relation a b : NamedTerm) (parts : SymParts theory theorem relation a b)
    → same.conclusion ≡ equation relation relation
    → ((f x : NamedTerm × NamedTerm) → dest_equation same.conclusion ≡ Some f → dest_equation theorem.conclusion ≡ Some x → applied.conclusion ≡ equation (combination f.0 x.0) (combination f.1 x.1))
    → reflexive.conclusion ≡ equation a a
    → ((f x : NamedTerm × NamedTerm) → dest_equation applied.conclusion ≡ Some f → dest_equation reflexive.conclusion ≡ Some x
    → congruence.conclusion ≡ equation (combination f.0 x.0) (combination f.1 x.1))
    → IfOk result (λ made. (sides : NamedTerm × NamedTerm) → dest_equation congruence.conclusion ≡ Some sides → made.theorem.conclusion ≡ sides.1)
    → IfOk result (λ made. made.theorem.conclusion ≡ equation b a)
sym-names (Err fault) theory theorem same applied reflexive congruence relation a b parts one two three four five = tt
sym-names (Ok made) theory theorem same applied reflexive congruence relation a b parts one two three four five =
    let applied_is = two (relation, relation) (a, b) (ap dest_equation one ∙ dest-equation relation relation) parts.dest in
    let congruence_is =
    four (combination relation a, combination relation b) (a, a) (ap dest_equation applied_is ∙ dest-equation (combination relation a) (combination relation b))
    (ap dest_equation three ∙ dest-equation a a) in
    five (combination (combination relation a) a, combination (combination relation b) a)
    (ap dest_equation congruence_is ∙ dest-equation (combination (combination relation a) a) (combination (combination relation b) a))
    ∙ ap (λ (t : NamedTerm). combination (combination t b) a) (parts.relation_is ∙ ap equality (sym parts.right_typed))
