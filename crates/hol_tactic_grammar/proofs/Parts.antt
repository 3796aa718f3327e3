-- What is made of parts that are read, and lists of parts.
use Rattle.std.proofs.Common.{◌≡◌, ◌⊎◌, inl, inr, ⊎_elim, ℕ, suc, ◌+◌, ◌<◌, ◌≤◌, add-one, arith, List, [], ◌∷◌, ◌++◌, map, drop, get_or, length, drop-cons, Result, Ok, Err, IfOk, IfErr, refl}
use Rattle.std.proofs.Common.{sym, ap, ◌∙◌, subst}
use Rattle.std.proofs.lemmas.List.{drop_all}
use Rattle.hol_model.specs.declared.fault.Fault.{Fault}
use Rattle.hol_model.specs.declared.fault.Fault.TheVariants.{Memory}
use Rattle.hol_model.specs.Terms.NamedTerm.{NamedTerm}
use Rattle.hol_model.specs.Texts.Reading.{Scope, ◌>>=◌}
use Rattle.hol_model.specs.Refining.Combinators as combinators
use Rattle.hol_tactic_exprs.specs.declared.tac.Tac.{Tac}
use Rattle.hol_tactic_exprs.specs.declared.tac.Link.{Link}
use Rattle.hol_tactic_exprs.specs.Expressions.{tactic_of, link_of, all_tactics, all_links}
use Rattle.hol_tactic_grammar.specs.Expressions.{Kept, expression_here, joint_here, all_expressions}
use Rattle.hol_tactic_grammar.specs.Expressions as expressions
use Rattle.hol_tactic_grammar.specs.Reading.{AnswersAs, IsReadOfOne, IsReadInTurn, IsRead, AreRead, IsJointRead, AreLinksRead, ReadsExpression, ReadsLink}

-- ---- one part

pub made-of-one : {Part Value Here : Type 0} {Reads : Result Part Fault → Type 0} {make : Part → Value} (value : Here → Value) (x : Part) (result : Result Here Fault) (outcome : Result Value Fault)
    → IsReadOfOne Reads make outcome → ((part : Result Part Fault) → Reads part → part ≡ Ok x)
    → IfOk result (λ made. value made ≡ make x) → IfErr result (λ fault. fault ≡ Memory) → AnswersAs value result outcome
made-of-one {make = make} value x (Ok made) outcome whole answers is none =
    whole.is ∙ ap (λ part. part >>= λ y. Ok (make y)) (answers whole.part whole.read) ∙ ap Ok (sym is)
made-of-one value x (Err fault) outcome whole answers is none = inl none

pub refused-of-one : {Part Value : Type 0} {Reads : Result Part Fault → Type 0} {make : Part → Value} (fault : Fault) (outcome : Result Value Fault)
    → IsReadOfOne Reads make outcome → ((part : Result Part Fault) → Reads part → (fault ≡ Memory) ⊎ (part ≡ Err fault)) → (fault ≡ Memory) ⊎ (outcome ≡ Err fault)
refused-of-one {make = make} fault outcome whole answers =
    ⊎_elim (λ memory. inl memory) (λ refusal. inr (whole.is ∙ ap (λ part. part >>= λ y. Ok (make y)) refusal)) (answers whole.part whole.read)

-- ---- two parts, one after the other

abbrev joined : {First Second Value : Type 0} → (First → Second → Value) → Result First Fault → Result Second Fault → Result Value Fault
joined make first second = first >>= λ x. second >>= λ y. Ok (make x y)

pub made-in-turn : {First Second Value Here : Type 0} {ReadsFirst : Result First Fault → Type 0} {ReadsSecond : Result Second Fault → Type 0} {make : First → Second → Value}
    (value : Here → Value) (x : First) (y : Second) (result : Result Here Fault) (outcome : Result Value Fault) → IsReadInTurn ReadsFirst ReadsSecond make outcome
    → ((first : Result First Fault) → ReadsFirst first → first ≡ Ok x) → ((second : Result Second Fault) → ReadsSecond second → second ≡ Ok y)
    → IfOk result (λ made. value made ≡ make x y) → IfErr result (λ fault. fault ≡ Memory) → AnswersAs value result outcome
made-in-turn {make = make} value x y (Ok made) outcome whole answers_first answers_second is none =
    whole.is ∙ ap (λ first. joined make first whole.second) (answers_first whole.first whole.read_first)
    ∙ ap (λ second. joined make (Ok x) second) (answers_second whole.second whole.read_second) ∙ ap Ok (sym is)
made-in-turn value x y (Err fault) outcome whole answers_first answers_second is none = inl none

pub refused-first : {First Second Value : Type 0} {ReadsFirst : Result First Fault → Type 0} {ReadsSecond : Result Second Fault → Type 0} {make : First → Second → Value}
    (fault : Fault) (outcome : Result Value Fault) → IsReadInTurn ReadsFirst ReadsSecond make outcome
    → ((first : Result First Fault) → ReadsFirst first → (fault ≡ Memory) ⊎ (first ≡ Err fault)) → (fault ≡ Memory) ⊎ (outcome ≡ Err fault)
refused-first {make = make} fault outcome whole answers =
    ⊎_elim (λ memory. inl memory) (λ refusal. inr (whole.is ∙ ap (λ first. joined make first whole.second) refusal)) (answers whole.first whole.read_first)

pub refused-second : {First Second Value : Type 0} {ReadsFirst : Result First Fault → Type 0} {ReadsSecond : Result Second Fault → Type 0} {make : First → Second → Value}
    (x : First) (fault : Fault) (outcome : Result Value Fault) → IsReadInTurn ReadsFirst ReadsSecond make outcome
    → ((first : Result First Fault) → ReadsFirst first → first ≡ Ok x)
    → ((second : Result Second Fault) → ReadsSecond second → (fault ≡ Memory) ⊎ (second ≡ Err fault)) → (fault ≡ Memory) ⊎ (outcome ≡ Err fault)
refused-second {make = make} x fault outcome whole answers_first answers_second =
    ⊎_elim (λ memory. inl memory)
    (λ refusal. inr (whole.is ∙ ap (λ first. joined make first whole.second) (answers_first whole.first whole.read_first) ∙ ap (λ second. joined make (Ok x) second) refusal))
    (answers_second whole.second whole.read_second)

-- ---- lists

-- refiners before others
abbrev before : List (Tac NamedTerm) → combinators.Tactics → combinators.Tactics
before [] others = others
before (first ∷ more) others = combinators.more (tactic_of first) (before more others)

before-more : (done : List (Tac NamedTerm)) (made : Tac NamedTerm) (others : combinators.Tactics) → before (done ++ made ∷ []) others ≡ before done (combinators.more (tactic_of made) others)
before-more [] made others = refl
before-more (first ∷ more) made others = ap (combinators.more (tactic_of first)) (before-more more made others)

before-none : (done : List (Tac NamedTerm)) → before done combinators.no_more ≡ all_tactics (map tactic_of done)
before-none [] = refl
before-none (first ∷ more) = ap (combinators.more (tactic_of first)) (before-none more)

-- what is left is read to what completes the refiners that are made
pub record AreReadSoFar (scope : Scope) (left : List (Tac Kept)) (done : List (Tac NamedTerm)) (outcome : Result combinators.Tactics Fault) : Type 0 where
  pub rest : Result combinators.Tactics Fault
  pub read : AreRead scope (all_expressions (map expression_here left)) rest
  pub is : outcome ≡ rest >>= λ others. Ok (before done others)

unchanged : (outcome : Result combinators.Tactics Fault) → outcome ≡ outcome >>= λ others. Ok others
unchanged (Ok others) = refl
unchanged (Err fault) = refl

-- the first of what is left
list-turn : (scope : Scope) (tacs : List (Tac Kept)) (n : ℕ) (d : Tac Kept) (rest : Result combinators.Tactics Fault) → n < length tacs
    → AreRead scope (all_expressions (map expression_here (drop n tacs))) rest
    → IsReadInTurn (IsRead scope (expression_here (get_or tacs n d))) (AreRead scope (all_expressions (map expression_here (drop (suc n) tacs)))) combinators.more rest
list-turn scope tacs n d rest within read = subst (λ left. AreRead scope (all_expressions (map expression_here left)) rest) (drop-cons tacs n d within) read

one-before : (done : List (Tac NamedTerm)) (made : Tac NamedTerm) (second : Result combinators.Tactics Fault)
    → (joined combinators.more (Ok (tactic_of made)) second >>= λ others. Ok (before done others)) ≡ (second >>= λ others. Ok (before (done ++ made ∷ []) others))
one-before done made (Ok others) = ap Ok (sym (before-more done made others))
one-before done made (Err fault) = refl

pub list-goes-on : (scope : Scope) (tacs : List (Tac Kept)) (n : ℕ) (d : Tac Kept) (done now : List (Tac NamedTerm)) (made : Tac NamedTerm) (outcome : Result combinators.Tactics Fault)
    → n < length tacs → AreReadSoFar scope (drop n tacs) done outcome → ReadsExpression scope (get_or tacs n d) (Ok made) → now ≡ done ++ made ∷ []
    → AreReadSoFar scope (drop (n + 1) tacs) now outcome
list-goes-on scope tacs n d done now made outcome within front reads grown =
    let turn : IsReadInTurn (IsRead scope (expression_here (get_or tacs n d))) (AreRead scope (all_expressions (map expression_here (drop (suc n) tacs)))) combinators.more front.rest =
    list-turn scope tacs n d front.rest within front.read in
    record {
      rest = turn.second;
      read = subst (λ m. AreRead scope (all_expressions (map expression_here (drop m tacs))) turn.second) (sym (add-one n)) turn.read_second;
      is = front.is ∙ ap (λ rest. rest >>= λ others. Ok (before done others)) (turn.is ∙ ap (λ first. joined combinators.more first turn.second) (reads turn.first turn.read_first))
          ∙ one-before done made turn.second ∙ ap (λ ts. turn.second >>= λ others. Ok (before ts others)) (sym grown);
    }

pub list-ended : (scope : Scope) (tacs : List (Tac Kept)) (n : ℕ) (done : List (Tac NamedTerm)) (outcome : Result combinators.Tactics Fault) → length tacs ≤ n
    → AreReadSoFar scope (drop n tacs) done outcome → outcome ≡ Ok (all_tactics (map tactic_of done))
list-ended scope tacs n done outcome ended front =
    let none : front.rest ≡ Ok combinators.no_more =
    subst (λ left. AreRead scope (all_expressions (map expression_here left)) front.rest) (drop_all n tacs ended) front.read in
    front.is ∙ ap (λ rest. rest >>= λ others. Ok (before done others)) none ∙ ap Ok (before-none done)

-- ---- links

-- links before others
abbrev linked_before : List (Link NamedTerm) → combinators.Links → combinators.Links
linked_before [] others = others
linked_before (first ∷ more) others = combinators.link (link_of first) (linked_before more others)

links-more : (done : List (Link NamedTerm)) (made : Link NamedTerm) (others : combinators.Links) →
    linked_before (done ++ made ∷ []) others ≡ linked_before done (combinators.link (link_of made) others)
links-more [] made others = refl
links-more (first ∷ more) made others = ap (combinators.link (link_of first)) (links-more more made others)

no-more-links : (done : List (Link NamedTerm)) → linked_before done combinators.no_link ≡ all_links (map link_of done)
no-more-links [] = refl
no-more-links (first ∷ more) = ap (combinators.link (link_of first)) (no-more-links more)

-- what is left is read to what completes the links that are made
pub record AreLinksReadSoFar (scope : Scope) (left : List (Link Kept)) (done : List (Link NamedTerm)) (outcome : Result combinators.Links Fault) : Type 0 where
  pub rest : Result combinators.Links Fault
  pub read : AreLinksRead scope (expressions.all_links (map joint_here left)) rest
  pub is : outcome ≡ rest >>= λ others. Ok (linked_before done others)

-- the first of what is left
links-turn : (scope : Scope) (links : List (Link Kept)) (n : ℕ) (d : Link Kept) (rest : Result combinators.Links Fault) → n < length links
    → AreLinksRead scope (expressions.all_links (map joint_here (drop n links))) rest
    → IsReadInTurn (IsJointRead scope (joint_here (get_or links n d))) (AreLinksRead scope (expressions.all_links (map joint_here (drop (suc n) links)))) combinators.link rest
links-turn scope links n d rest within read = subst (λ left. AreLinksRead scope (expressions.all_links (map joint_here left)) rest) (drop-cons links n d within) read

one-linked_before : (done : List (Link NamedTerm)) (made : Link NamedTerm) (second : Result combinators.Links Fault)
    → (joined combinators.link (Ok (link_of made)) second >>= λ others. Ok (linked_before done others)) ≡ (second >>= λ others. Ok (linked_before (done ++ made ∷ []) others))
one-linked_before done made (Ok others) = ap Ok (sym (links-more done made others))
one-linked_before done made (Err fault) = refl

pub links-goes-on : (scope : Scope) (links : List (Link Kept)) (n : ℕ) (d : Link Kept) (done now : List (Link NamedTerm)) (made : Link NamedTerm) (outcome : Result combinators.Links Fault)
    → n < length links → AreLinksReadSoFar scope (drop n links) done outcome → ReadsLink scope (get_or links n d) (Ok made) → now ≡ done ++ made ∷ []
    → AreLinksReadSoFar scope (drop (n + 1) links) now outcome
links-goes-on scope links n d done now made outcome within front reads grown =
    let turn : IsReadInTurn (IsJointRead scope (joint_here (get_or links n d))) (AreLinksRead scope (expressions.all_links (map joint_here (drop (suc n) links)))) combinators.link front.rest =
    links-turn scope links n d front.rest within front.read in
    record {
      rest = turn.second;
      read = subst (λ m. AreLinksRead scope (expressions.all_links (map joint_here (drop m links))) turn.second) (sym (add-one n)) turn.read_second;
      is = front.is ∙ ap (λ rest. rest >>= λ others. Ok (linked_before done others)) (turn.is ∙ ap (λ first. joined combinators.link first turn.second) (reads turn.first turn.read_first))
          ∙ one-linked_before done made turn.second ∙ ap (λ ts. turn.second >>= λ others. Ok (linked_before ts others)) (sym grown);
    }

pub links-ended : (scope : Scope) (links : List (Link Kept)) (n : ℕ) (done : List (Link NamedTerm)) (outcome : Result combinators.Links Fault) → length links ≤ n
    → AreLinksReadSoFar scope (drop n links) done outcome → outcome ≡ Ok (all_links (map link_of done))
links-ended scope links n done outcome ended front =
    let none : front.rest ≡ Ok combinators.no_link =
    subst (λ left. AreLinksRead scope (expressions.all_links (map joint_here left)) front.rest) (drop_all n links ended) front.read in
    front.is ∙ ap (λ rest. rest >>= λ others. Ok (linked_before done others)) none ∙ ap Ok (no-more-links done)
