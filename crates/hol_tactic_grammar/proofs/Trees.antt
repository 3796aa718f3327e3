-- What a tree is read as is what its expression is read as.
use Rattle.std.proofs.Common.{◌≡◌, ◌⊎◌, inl, inr, List, [], Result, Ok, Err, refl, sym, ap, ◌∙◌, subst}
use Rattle.hol_model.specs.declared.fault.Fault.{Fault}
use Rattle.hol_model.specs.declared.fault.Fault.TheVariants.{Memory}
use Rattle.hol_model.specs.Terms.NamedTerm.{NamedTerm}
use Rattle.hol_model.specs.Texts.TermGrammar.{TermTree}
use Rattle.hol_model.specs.Texts.Reading.{Scope, ◌>>=◌, meaning}
use Rattle.hol_model.specs.Refining.Combinators as combinators
use Rattle.hol_model_sessions.specs.TacticGrammar as grammar
use Rattle.hol_model_sessions.specs.TacticGrammar.{Tactic, then_chain, TacticLinks, no_more_then, then_all, then_each, Tactics, no_tactics, tactic_and, TacticChoice, orelse_chain, OtherTactics}
use Rattle.hol_model_sessions.specs.TacticGrammar.{no_more_orelse, orelse, TacticUnit, repeated, tried, enclosed, leaf, TacticLeaf, read_tactic, read_links, read_tactics, read_choice}
use Rattle.hol_model_sessions.specs.TacticGrammar.{read_others, read_unit, read_leaf}
use Rattle.hol_model_sessions.specs.SessionTools as session
use Rattle.hol_tactic_exprs.specs.declared.tac.Tac.{Tac}
use Rattle.hol_tactic_exprs.specs.Expressions.{tactic_of}
use Rattle.hol_tactic_grammar.specs.Quotes.{steps_of_tree}
use Rattle.hol_tactic_grammar.specs.Expressions.{Kept, expression_of, links_of, expressions_of, expression_of_choice, others_of, expression_of_unit, simple_of_leaf}
use Rattle.hol_tactic_grammar.specs.Tactics.{Meaning, IsExpression}
use Rattle.hol_tactic_grammar.specs.Reading.{tree_read, AnswersTree, AnswersAs, IsSimpleRead, quoted_leaf, IsRead, AreRead, AreLinksRead, ReadsExpression}

-- what an outcome's value is made to
abbrev through : {A B : Type 0} → (A → B) → Result A Fault → Result B Fault
through make outcome = outcome >>= λ x. Ok (make x)

-- ---- chains of one part

choice-alone : (first : Result (TacticChoice NamedTerm) Fault)
    → through session.tactic_of_choice first ≡ through session.tactic_of (first >>= λ choice. Ok no_more_then >>= λ others. Ok (then_chain choice others))
choice-alone (Ok choice) = refl
choice-alone (Err fault) = refl

unit-alone : (first : Result (TacticUnit NamedTerm) Fault)
    → through session.tactic_of_unit first ≡ through session.tactic_of_choice (first >>= λ unit. Ok no_more_orelse >>= λ others. Ok (orelse_chain unit others))
unit-alone (Ok unit) = refl
unit-alone (Err fault) = refl

-- ---- parts, one after the other

all-in-turn : (first second : Result (TacticChoice NamedTerm) Fault) (rest : Result (TacticLinks NamedTerm) Fault)
    → through session.tactic_of (first >>= λ choice. (second >>= λ next. rest >>= λ more. Ok (then_all next more)) >>= λ others. Ok (then_chain choice others))
    ≡ (through session.tactic_of_choice first >>= λ x. through session.links_of (second >>= λ next. rest >>= λ more. Ok (then_all next more)) >>= λ y. Ok (combinators.chain x y))
all-in-turn (Err fault) second rest = refl
all-in-turn (Ok choice) (Err fault) rest = refl
all-in-turn (Ok choice) (Ok next) (Err fault) = refl
all-in-turn (Ok choice) (Ok next) (Ok more) = refl

each-in-turn : (first : Result (TacticChoice NamedTerm) Fault) (second : Result (Tactics NamedTerm) Fault) (rest : Result (TacticLinks NamedTerm) Fault)
    → through session.tactic_of (first >>= λ choice. (second >>= λ list. rest >>= λ more. Ok (then_each list more)) >>= λ others. Ok (then_chain choice others))
    ≡ (through session.tactic_of_choice first >>= λ x. through session.links_of (second >>= λ list. rest >>= λ more. Ok (then_each list more)) >>= λ y. Ok (combinators.chain x y))
each-in-turn (Err fault) second rest = refl
each-in-turn (Ok choice) (Err fault) rest = refl
each-in-turn (Ok choice) (Ok list) (Err fault) = refl
each-in-turn (Ok choice) (Ok list) (Ok more) = refl

others-in-turn : (first second : Result (TacticUnit NamedTerm) Fault) (rest : Result (OtherTactics NamedTerm) Fault)
    → through session.tactic_of_choice (first >>= λ unit. (second >>= λ next. rest >>= λ more. Ok (orelse next more)) >>= λ others. Ok (orelse_chain unit others))
    ≡ (through session.tactic_of_unit first >>= λ x. through session.others_of (second >>= λ next. rest >>= λ more. Ok (orelse next more)) >>= λ y. Ok (combinators.orelse x y))
others-in-turn (Err fault) second rest = refl
others-in-turn (Ok unit) (Err fault) rest = refl
others-in-turn (Ok unit) (Ok next) (Err fault) = refl
others-in-turn (Ok unit) (Ok next) (Ok more) = refl

link-all : (first : Result (TacticChoice NamedTerm) Fault) (rest : Result (TacticLinks NamedTerm) Fault)
    → through session.links_of (first >>= λ choice. rest >>= λ others. Ok (then_all choice others))
    ≡ (through combinators.then_all (through session.tactic_of_choice first) >>= λ x. through session.links_of rest >>= λ y. Ok (combinators.link x y))
link-all (Err fault) rest = refl
link-all (Ok choice) (Err fault) = refl
link-all (Ok choice) (Ok others) = refl

link-each : (first : Result (Tactics NamedTerm) Fault) (rest : Result (TacticLinks NamedTerm) Fault)
    → through session.links_of (first >>= λ list. rest >>= λ others. Ok (then_each list others))
    ≡ (through combinators.then_each (through session.tactics_of first) >>= λ x. through session.links_of rest >>= λ y. Ok (combinators.link x y))
link-each (Err fault) rest = refl
link-each (Ok list) (Err fault) = refl
link-each (Ok list) (Ok others) = refl

tactic-more : (first : Result (Tactic NamedTerm) Fault) (rest : Result (Tactics NamedTerm) Fault)
    → through session.tactics_of (first >>= λ tactic. rest >>= λ others. Ok (tactic_and tactic others))
    ≡ (through session.tactic_of first >>= λ x. through session.tactics_of rest >>= λ y. Ok (combinators.more x y))
tactic-more (Err fault) rest = refl
tactic-more (Ok tactic) (Err fault) = refl
tactic-more (Ok tactic) (Ok others) = refl

unit-more : (first : Result (TacticUnit NamedTerm) Fault) (rest : Result (OtherTactics NamedTerm) Fault)
    → through session.others_of (first >>= λ unit. rest >>= λ others. Ok (orelse unit others))
    ≡ (through session.tactic_of_unit first >>= λ x. through session.others_of rest >>= λ y. Ok (combinators.more x y))
unit-more (Err fault) rest = refl
unit-more (Ok unit) (Err fault) = refl
unit-more (Ok unit) (Ok others) = refl

-- ---- one part

repeat-one : (operand : Result (TacticUnit NamedTerm) Fault)
    → through session.tactic_of_unit (operand >>= λ unit. Ok (repeated unit)) ≡ through combinators.repeat (through session.tactic_of_unit operand)
repeat-one (Ok unit) = refl
repeat-one (Err fault) = refl

try-one : (operand : Result (TacticUnit NamedTerm) Fault)
    → through session.tactic_of_unit (operand >>= λ unit. Ok (tried unit)) ≡ through combinators.try (through session.tactic_of_unit operand)
try-one (Ok unit) = refl
try-one (Err fault) = refl

enclosed-one : (inner : Result (Tactic NamedTerm) Fault) → through session.tactic_of inner ≡ through session.tactic_of_unit (inner >>= λ tactic. Ok (enclosed tactic))
enclosed-one (Ok tactic) = refl
enclosed-one (Err fault) = refl

quote-one : (quoted : grammar.QuotedTactic) (term : Result NamedTerm Fault)
    → through session.tactic_of_unit (through (grammar.by_quote quoted) term >>= λ refiner. Ok (leaf refiner)) ≡ through (quoted_leaf quoted) term
quote-one quoted (Ok term) = refl
quote-one quoted (Err fault) = refl

leaf-is-read : (scope : Scope) (tree : TacticLeaf TermTree)
    → IsSimpleRead scope (simple_of_leaf steps_of_tree tree) (through session.tactic_of_unit (read_unit (meaning scope []) (leaf tree)))
leaf-is-read scope (grammar.plain tactic) = refl
leaf-is-read scope (grammar.by_name tactic name) = refl
leaf-is-read scope (grammar.by_quote quoted tree) =
    record { part = meaning scope [] tree; read = record { tree = tree; spelled = refl; means = refl }; is = quote-one quoted (meaning scope [] tree) }
leaf-is-read scope (grammar.conv_tac conversion) = refl
leaf-is-read scope (grammar.rewrite_tac names) = refl

-- ---- a chain, by its first part and the rest

chain-is-read : (scope : Scope) (first : TacticChoice TermTree) (links : TacticLinks TermTree)
    → IsRead scope (expression_of_choice steps_of_tree first) (through session.tactic_of_choice (read_choice (meaning scope []) first))
    → AreLinksRead scope (links_of steps_of_tree links) (through session.links_of (read_links (meaning scope []) links))
    → IsRead scope (expression_of steps_of_tree (then_chain first links)) (through session.tactic_of (read_tactic (meaning scope []) (then_chain first links)))
chain-is-read scope first no_more_then of_first of_links =
    subst (λ (outcome : Result combinators.Tactic Fault). IsRead scope (expression_of_choice steps_of_tree first) outcome) (choice-alone (read_choice (meaning scope []) first)) of_first
chain-is-read scope first (then_all choice links) of_first of_links = record {
  first = through session.tactic_of_choice (read_choice (meaning scope []) first);
  second = through session.links_of (read_links (meaning scope []) (then_all choice links));
  read_first = of_first;
  read_second = of_links;
  is = all-in-turn (read_choice (meaning scope []) first) (read_choice (meaning scope []) choice) (read_links (meaning scope []) links);
}
chain-is-read scope first (then_each list links) of_first of_links = record {
  first = through session.tactic_of_choice (read_choice (meaning scope []) first);
  second = through session.links_of (read_links (meaning scope []) (then_each list links));
  read_first = of_first;
  read_second = of_links;
  is = each-in-turn (read_choice (meaning scope []) first) (read_tactics (meaning scope []) list) (read_links (meaning scope []) links);
}

choice-is-read : (scope : Scope) (first : TacticUnit TermTree) (others : OtherTactics TermTree)
    → IsRead scope (expression_of_unit steps_of_tree first) (through session.tactic_of_unit (read_unit (meaning scope []) first))
    → AreRead scope (others_of steps_of_tree others) (through session.others_of (read_others (meaning scope []) others))
    → IsRead scope (expression_of_choice steps_of_tree (orelse_chain first others)) (through session.tactic_of_choice (read_choice (meaning scope []) (orelse_chain first others)))
choice-is-read scope first no_more_orelse of_first of_others =
    subst (λ (outcome : Result combinators.Tactic Fault). IsRead scope (expression_of_unit steps_of_tree first) outcome) (unit-alone (read_unit (meaning scope []) first)) of_first
choice-is-read scope first (orelse other others) of_first of_others = record {
  first = through session.tactic_of_unit (read_unit (meaning scope []) first);
  second = through session.others_of (read_others (meaning scope []) (orelse other others));
  read_first = of_first;
  read_second = of_others;
  is = others-in-turn (read_unit (meaning scope []) first) (read_unit (meaning scope []) other) (read_others (meaning scope []) others);
}

-- ---- all trees

mutual
  tactic-read : (scope : Scope) (tree : Tactic TermTree) → IsRead scope (expression_of steps_of_tree tree) (through session.tactic_of (read_tactic (meaning scope []) tree))
  tactic-read scope (then_chain first links) = chain-is-read scope first links (choice-read scope first) (links-read scope links)

  links-read : (scope : Scope) (links : TacticLinks TermTree) → AreLinksRead scope (links_of steps_of_tree links) (through session.links_of (read_links (meaning scope []) links))
  links-read scope no_more_then = refl
  links-read scope (then_all choice links) = record {
    first = through combinators.then_all (through session.tactic_of_choice (read_choice (meaning scope []) choice));
    second = through session.links_of (read_links (meaning scope []) links);
    read_first = record { part = through session.tactic_of_choice (read_choice (meaning scope []) choice); read = choice-read scope choice; is = refl };
    read_second = links-read scope links;
    is = link-all (read_choice (meaning scope []) choice) (read_links (meaning scope []) links);
  }
  links-read scope (then_each list links) = record {
    first = through combinators.then_each (through session.tactics_of (read_tactics (meaning scope []) list));
    second = through session.links_of (read_links (meaning scope []) links);
    read_first = record { part = through session.tactics_of (read_tactics (meaning scope []) list); read = list-read scope list; is = refl };
    read_second = links-read scope links;
    is = link-each (read_tactics (meaning scope []) list) (read_links (meaning scope []) links);
  }

  list-read : (scope : Scope) (list : Tactics TermTree) → AreRead scope (expressions_of steps_of_tree list) (through session.tactics_of (read_tactics (meaning scope []) list))
  list-read scope no_tactics = refl
  list-read scope (tactic_and tactic tactics) = record {
    first = through session.tactic_of (read_tactic (meaning scope []) tactic);
    second = through session.tactics_of (read_tactics (meaning scope []) tactics);
    read_first = tactic-read scope tactic;
    read_second = list-read scope tactics;
    is = tactic-more (read_tactic (meaning scope []) tactic) (read_tactics (meaning scope []) tactics);
  }

  choice-read : (scope : Scope) (tree : TacticChoice TermTree)
      → IsRead scope (expression_of_choice steps_of_tree tree) (through session.tactic_of_choice (read_choice (meaning scope []) tree))
  choice-read scope (orelse_chain first others) = choice-is-read scope first others (unit-read scope first) (others-read scope others)

  others-read : (scope : Scope) (others : OtherTactics TermTree) → AreRead scope (others_of steps_of_tree others) (through session.others_of (read_others (meaning scope []) others))
  others-read scope no_more_orelse = refl
  others-read scope (orelse other others) = record {
    first = through session.tactic_of_unit (read_unit (meaning scope []) other);
    second = through session.others_of (read_others (meaning scope []) others);
    read_first = unit-read scope other;
    read_second = others-read scope others;
    is = unit-more (read_unit (meaning scope []) other) (read_others (meaning scope []) others);
  }

  unit-read : (scope : Scope) (tree : TacticUnit TermTree) → IsRead scope (expression_of_unit steps_of_tree tree) (through session.tactic_of_unit (read_unit (meaning scope []) tree))
  unit-read scope (repeated operand) = record {
    part = through session.tactic_of_unit (read_unit (meaning scope []) operand);
    read = unit-read scope operand;
    is = repeat-one (read_unit (meaning scope []) operand);
  }
  unit-read scope (tried operand) = record {
    part = through session.tactic_of_unit (read_unit (meaning scope []) operand);
    read = unit-read scope operand;
    is = try-one (read_unit (meaning scope []) operand);
  }
  unit-read scope (enclosed tactic) =
      subst (λ (outcome : Result combinators.Tactic Fault). IsRead scope (expression_of steps_of_tree tactic) outcome) (enclosed-one (read_tactic (meaning scope []) tactic)) (tactic-read scope tactic)
  unit-read scope (leaf tree) = leaf-is-read scope tree

-- ---- the answer for a tree

answered : (scope : Scope) (tree : Tactic TermTree) (read : Result (Tactic NamedTerm) Fault) (result : Result (Tac NamedTerm) Fault) → tree_read scope tree ≡ read
    → AnswersAs tactic_of result (through session.tactic_of read) → AnswersTree scope tree result
answered scope tree (Ok tactic) (Ok made) is answers = record { tactic = tactic; meant = is; means = cc }
answered scope tree (Err fault) (Ok made) is answers = cc
answered scope tree (Ok tactic) (Err fault) is (inl memory) = inl memory
answered scope tree (Ok tactic) (Err fault) is (inr refusal) = cc
answered scope tree (Err first) (Err fault) is (inl memory) = inl memory
answered scope tree (Err first) (Err fault) is (inr refusal) = inr cc

-- an expression of the tree is read as the tree is
pub tree-answered : (scope : Scope) (tac : Tac Kept) (result : Result (Tac NamedTerm) Fault) → ReadsExpression scope tac result
    → (tree : Tactic TermTree) → IsExpression tac tree → AnswersTree scope tree result
tree-answered scope tac result reads tree is =
    answered scope tree (tree_read scope tree) result refl (reads (through session.tactic_of (tree_read scope tree))
    (subst (λ (e : Meaning). IsRead scope e (through session.tactic_of (tree_read scope tree))) (sym is) (tactic-read scope tree)))
