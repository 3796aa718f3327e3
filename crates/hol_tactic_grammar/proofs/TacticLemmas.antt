-- What stands at the front of tokens, as a refiner expression.
use Rattle.std.proofs.Common.{◌≡◌, ◌≢◌, ℕ, zero, suc, ◌+◌, ◌<◌, arith, List, [], ◌∷◌, ◌++◌, map, length, false, ◌==◌, refl, sym, ap, ◌∙◌, subst, Some}
use Rattle.std.specs.Prelude.{codes}
use Rattle.std.proofs.Math.Nat.{le-max_left, le-max_right, max-le}
use Rattle.hol_model.specs.declared.limits.TheConstants.{EXPRESSION_NESTING_LIMIT}
use Rattle.hol_model.specs.declared.symbol.Symbol.TheVariants.{OpenParenthesis, CloseParenthesis, OpenBracket, CloseBracket, Semicolon}
use Rattle.hol_model.specs.Texts.Token.{Token, Name, Mark}
use Rattle.hol_model.specs.Texts.TermGrammar.{TermTree}
use Rattle.hol_model_sessions.specs.TacticGrammar as grammar
use Rattle.hol_model_sessions.specs.TacticGrammar.{TacticLeaf, Tactic, then_chain, TacticLinks, no_more_then, then_all, then_each, Tactics, no_tactics, tactic_and, TacticChoice, orelse_chain}
use Rattle.hol_model_sessions.specs.TacticGrammar.{OtherTactics, no_more_orelse, TacticUnit, repeated, tried, enclosed, leaf, leaf_tokens, tactic_tokens, link_tokens, first_tokens}
use Rattle.hol_model_sessions.specs.TacticGrammar.{further_tokens, choice_tokens, other_tokens, tactic_unit_tokens, tactic_depth, link_depth, list_depth, choice_depth, other_depth}
use Rattle.hol_model_sessions.specs.TacticGrammar.{tactic_unit_depth, IsTactic}
use Rattle.hol_tactic_exprs.specs.declared.tac.Tac.{Tac}
use Rattle.hol_tactic_exprs.specs.declared.tac.Link.{Link}
use Rattle.hol_syntax_grammar.specs.declared.token.Token.{Token as TokenHere}
use Rattle.hol_syntax_grammar.specs.TermSteps.{FlatStep}
use Rattle.hol_tactic_grammar.specs.declared.tactic_words.Start.TheVariants.{OfPrefix}
use Rattle.hol_tactic_grammar.specs.declared.tactics.Prefix.{Prefix}
use Rattle.hol_tactic_grammar.specs.declared.tactics.Prefix.TheVariants.{Repeat, Try}
use Rattle.hol_tactic_grammar.specs.Tokens.{behind}
use Rattle.hol_tactic_grammar.specs.Conversions.{Without}
use Rattle.hol_tactic_grammar.specs.Quotes.{steps_of_tree}
use Rattle.hol_tactic_grammar.specs.Expressions.{Kept, Expressions, Joint, Links, chain, orelse, repeat, try, more, no_more, link, no_link, on_all, on_each, then_on, or_else, expression_of}
use Rattle.hol_tactic_grammar.specs.Expressions.{links_of, expressions_of, others_of, expression_here, joint_here, all_expressions, all_links}
use Rattle.hol_tactic_grammar.specs.Tactics.{Meaning, Ends, FitsUnit, FitsOthers, FitsChoice, FitsLinks, Fits, FitsList, FitsJoint, IsUnit, IsNoUnit, IsChoice, IsNoChoice, LinkTree, with_choice}
use Rattle.hol_tactic_grammar.specs.Tactics.{with_list, linked, joint_tokens, joint_of, IsLink, IsNoLink, IsList, IsNoList, IsWhole, IsNoWhole}
use Rattle.hol_tactic_grammar.specs.OpenTactics.{listed, IsChoiceOf, HasOthers, IsChoiceFront, chained, IsChainOf, HasLinks, IsChainFront, IsListOf, HasFurther, IsListFront, HasNext, IsListPlace}
use Rattle.hol_tactic_grammar.proofs.TacticWordLemmas.{start_of_unit, begins-with}

-- ---- parts that fit

choice-first : (room : ℕ) (unit : TacticUnit TermTree) (others : OtherTactics TermTree) → FitsChoice room (orelse_chain unit others) → FitsUnit room unit
choice-first room unit others fits = record { nested = omega (arith, fits.nested, le-max_left (tactic_unit_depth unit) (other_depth others)); quotable = fits.quotable.0 }

choice-others : (room : ℕ) (unit : TacticUnit TermTree) (others : OtherTactics TermTree) → FitsChoice room (orelse_chain unit others) → FitsOthers room others
choice-others room unit others fits = record { nested = omega (arith, fits.nested, le-max_right (tactic_unit_depth unit) (other_depth others)); quotable = fits.quotable.1 }

others-first : (room : ℕ) (unit : TacticUnit TermTree) (others : OtherTactics TermTree) → FitsOthers room (grammar.orelse unit others) → FitsUnit room unit
others-first room unit others fits = record { nested = omega (arith, fits.nested, le-max_left (tactic_unit_depth unit) (other_depth others)); quotable = fits.quotable.0 }

others-rest : (room : ℕ) (unit : TacticUnit TermTree) (others : OtherTactics TermTree) → FitsOthers room (grammar.orelse unit others) → FitsOthers room others
others-rest room unit others fits = record { nested = omega (arith, fits.nested, le-max_right (tactic_unit_depth unit) (other_depth others)); quotable = fits.quotable.1 }

whole-first : (room : ℕ) (choice : TacticChoice TermTree) (links : TacticLinks TermTree) → Fits room (then_chain choice links) → FitsChoice room choice
whole-first room choice links fits = record { nested = omega (arith, fits.nested, le-max_left (choice_depth choice) (link_depth links)); quotable = fits.quotable.0 }

whole-links : (room : ℕ) (choice : TacticChoice TermTree) (links : TacticLinks TermTree) → Fits room (then_chain choice links) → FitsLinks room links
whole-links room choice links fits = record { nested = omega (arith, fits.nested, le-max_right (choice_depth choice) (link_depth links)); quotable = fits.quotable.1 }

links-first : (room : ℕ) (joint : LinkTree) (links : TacticLinks TermTree) → FitsLinks room (linked joint links) → FitsJoint room joint
links-first room (with_choice choice) links fits = record { nested = omega (arith, fits.nested, le-max_left (choice_depth choice) (link_depth links)); quotable = fits.quotable.0 }
links-first room (with_list list) links fits = record { nested = omega (arith, fits.nested, le-max_left (1 + list_depth list) (link_depth links)); quotable = fits.quotable.0 }

links-rest : (room : ℕ) (joint : LinkTree) (links : TacticLinks TermTree) → FitsLinks room (linked joint links) → FitsLinks room links
links-rest room (with_choice choice) links fits = record { nested = omega (arith, fits.nested, le-max_right (choice_depth choice) (link_depth links)); quotable = fits.quotable.1 }
links-rest room (with_list list) links fits = record { nested = omega (arith, fits.nested, le-max_right (1 + list_depth list) (link_depth links)); quotable = fits.quotable.1 }

links-fit : (room : ℕ) (joint : LinkTree) (links : TacticLinks TermTree) → FitsJoint room joint → FitsLinks room links → FitsLinks room (linked joint links)
links-fit room (with_choice choice) links first rest = record { nested = max-le first.nested rest.nested; quotable = (first.quotable, rest.quotable) }
links-fit room (with_list list) links first rest = record { nested = max-le first.nested rest.nested; quotable = (first.quotable, rest.quotable) }

linked-tokens : (joint : LinkTree) (links : TacticLinks TermTree) (rest : List Token) → joint_tokens joint (link_tokens links rest) ≡ link_tokens (linked joint links) rest
linked-tokens (with_choice choice) links rest = refl
linked-tokens (with_list list) links rest = refl

linked-means : (joint : LinkTree) (links : TacticLinks TermTree) → links_of steps_of_tree (linked joint links) ≡ link (joint_of joint) (links_of steps_of_tree links)
linked-means (with_choice choice) links = refl
linked-means (with_list list) links = refl

list-first : (room : ℕ) (tactic : Tactic TermTree) (list : Tactics TermTree) → FitsList room (tactic_and tactic list) → Fits room tactic
list-first room tactic list fits = record { nested = omega (arith, fits.nested, le-max_left (tactic_depth tactic) (list_depth list)); quotable = fits.quotable.0 }

list-rest : (room : ℕ) (tactic : Tactic TermTree) (list : Tactics TermTree) → FitsList room (tactic_and tactic list) → FitsList room list
list-rest room tactic list fits = record { nested = omega (arith, fits.nested, le-max_right (tactic_depth tactic) (list_depth list)); quotable = fits.quotable.1 }

-- ---- REPEAT and TRY

leaf-prefix : {A : Type 0} (prefix : Prefix) (tactic : TacticLeaf TermTree) → start_of_unit (leaf tactic) ≡ Some (OfPrefix prefix) → A
leaf-prefix prefix (grammar.plain tactic) same = cc
leaf-prefix prefix (grammar.by_name tactic name) same = cc
leaf-prefix prefix (grammar.by_quote tactic tree) same = cc
leaf-prefix prefix (grammar.conv_tac conversion) same = cc
leaf-prefix prefix (grammar.rewrite_tac names) same = cc

pub repeat-read : (room less : ℕ) (tokens inner rest : List Token) (meaning made : Meaning) → made ≡ repeat meaning → less + 1 ≡ room → tokens ≡ Name (codes "REPEAT") ∷ inner
    → IsUnit less inner rest meaning → IsUnit room tokens rest made
repeat-read room less tokens inner rest meaning made is deeper begins read = record {
  tree = repeated read.tree;
  fits = record { nested = omega (arith, read.fits.nested, deeper); quotable = read.fits.quotable };
  spelled = begins ∙ ap (λ (ts : List Token). Name (codes "REPEAT") ∷ ts) read.spelled;
  means = is ∙ ap (λ (m : Meaning). repeat m) read.means;
  only = only;
}
  where
    only : (other : TacticUnit TermTree) (left : List Token) → FitsUnit room other → tokens ≡ tactic_unit_tokens other left → left ≡ rest
    only (repeated operand) left fits same =
        let both : Name (codes "REPEAT") ∷ inner ≡ Name (codes "REPEAT") ∷ tactic_unit_tokens operand left = sym begins ∙ same in
        let further : inner ≡ tactic_unit_tokens operand left = cc in
        read.only operand left (record { nested = omega (arith, fits.nested, deeper); quotable = fits.quotable }) further
    only (tried operand) left fits same = (let one = begins-with (OfPrefix Repeat) tokens inner (tried operand) left begins same in cc)
    only (enclosed tactic) left fits same = (let one = begins-with (OfPrefix Repeat) tokens inner (enclosed tactic) left begins same in cc)
    only (leaf tactic) left fits same = leaf-prefix Repeat tactic (begins-with (OfPrefix Repeat) tokens inner (leaf tactic) left begins same)

-- whatever keeps a unit from standing behind REPEAT
pub repeat-none : (room : ℕ) (tokens inner : List Token) → tokens ≡ Name (codes "REPEAT") ∷ inner
    → ((operand : TacticUnit TermTree) (left : List Token) → FitsUnit room (repeated operand) → inner ≢ tactic_unit_tokens operand left) → IsNoUnit room tokens
repeat-none room tokens inner begins none = go
  where
    go : IsNoUnit room tokens
    go (repeated operand) left fits same =
        let both : Name (codes "REPEAT") ∷ inner ≡ Name (codes "REPEAT") ∷ tactic_unit_tokens operand left = sym begins ∙ same in
        let further : inner ≡ tactic_unit_tokens operand left = cc in
        none operand left fits further
    go (tried operand) left fits same = (let one = begins-with (OfPrefix Repeat) tokens inner (tried operand) left begins same in cc)
    go (enclosed tactic) left fits same = (let one = begins-with (OfPrefix Repeat) tokens inner (enclosed tactic) left begins same in cc)
    go (leaf tactic) left fits same = leaf-prefix Repeat tactic (begins-with (OfPrefix Repeat) tokens inner (leaf tactic) left begins same)

pub try-read : (room less : ℕ) (tokens inner rest : List Token) (meaning made : Meaning) → made ≡ try meaning → less + 1 ≡ room → tokens ≡ Name (codes "TRY") ∷ inner
    → IsUnit less inner rest meaning → IsUnit room tokens rest made
try-read room less tokens inner rest meaning made is deeper begins read = record {
  tree = tried read.tree;
  fits = record { nested = omega (arith, read.fits.nested, deeper); quotable = read.fits.quotable };
  spelled = begins ∙ ap (λ (ts : List Token). Name (codes "TRY") ∷ ts) read.spelled;
  means = is ∙ ap (λ (m : Meaning). try m) read.means;
  only = only;
}
  where
    only : (other : TacticUnit TermTree) (left : List Token) → FitsUnit room other → tokens ≡ tactic_unit_tokens other left → left ≡ rest
    only (tried operand) left fits same =
        let both : Name (codes "TRY") ∷ inner ≡ Name (codes "TRY") ∷ tactic_unit_tokens operand left = sym begins ∙ same in
        let further : inner ≡ tactic_unit_tokens operand left = cc in
        read.only operand left (record { nested = omega (arith, fits.nested, deeper); quotable = fits.quotable }) further
    only (repeated operand) left fits same = (let one = begins-with (OfPrefix Try) tokens inner (repeated operand) left begins same in cc)
    only (enclosed tactic) left fits same = (let one = begins-with (OfPrefix Try) tokens inner (enclosed tactic) left begins same in cc)
    only (leaf tactic) left fits same = leaf-prefix Try tactic (begins-with (OfPrefix Try) tokens inner (leaf tactic) left begins same)

-- whatever keeps a unit from standing behind TRY
pub try-none : (room : ℕ) (tokens inner : List Token) → tokens ≡ Name (codes "TRY") ∷ inner
    → ((operand : TacticUnit TermTree) (left : List Token) → FitsUnit room (tried operand) → inner ≢ tactic_unit_tokens operand left) → IsNoUnit room tokens
try-none room tokens inner begins none = go
  where
    go : IsNoUnit room tokens
    go (tried operand) left fits same =
        let both : Name (codes "TRY") ∷ inner ≡ Name (codes "TRY") ∷ tactic_unit_tokens operand left = sym begins ∙ same in
        let further : inner ≡ tactic_unit_tokens operand left = cc in
        none operand left fits further
    go (repeated operand) left fits same = (let one = begins-with (OfPrefix Try) tokens inner (repeated operand) left begins same in cc)
    go (enclosed tactic) left fits same = (let one = begins-with (OfPrefix Try) tokens inner (enclosed tactic) left begins same in cc)
    go (leaf tactic) left fits same = leaf-prefix Try tactic (begins-with (OfPrefix Try) tokens inner (leaf tactic) left begins same)

-- ---- parentheses

closed-ends : (rest : List Token) → Ends (Mark CloseParenthesis ∷ rest)
closed-ends rest = record { then = λ others same. cc; thenl = λ others same. cc; else = λ others same. cc }

leaf-no_parenthesis : {A : Type 0} (tactic : TacticLeaf TermTree) (left inner : List Token) → leaf_tokens tactic left ≡ Mark OpenParenthesis ∷ inner → A
leaf-no_parenthesis (grammar.plain other) left inner same = cc
leaf-no_parenthesis (grammar.by_name other name) left inner same = cc
leaf-no_parenthesis (grammar.by_quote other tree) left inner same = cc
leaf-no_parenthesis (grammar.conv_tac conversion) left inner same = cc
leaf-no_parenthesis (grammar.rewrite_tac names) left inner same = cc

pub enclosed-read : (room less : ℕ) (tokens inner left rest : List Token) (meaning : Meaning) → less + 1 ≡ room → tokens ≡ Mark OpenParenthesis ∷ inner → left ≡ Mark CloseParenthesis ∷ rest
    → IsWhole less inner left meaning → IsUnit room tokens rest meaning
enclosed-read room less tokens inner left rest meaning deeper begins ends read = record {
  tree = enclosed read.tree;
  fits = record { nested = omega (arith, read.fits.nested, deeper); quotable = read.fits.quotable };
  spelled = begins ∙ ap (λ (ts : List Token). Mark OpenParenthesis ∷ ts) (read.spelled ∙ ap (tactic_tokens read.tree) ends);
  means = read.means;
  only = only;
}
  where
    only : (other : TacticUnit TermTree) (behind : List Token) → FitsUnit room other → tokens ≡ tactic_unit_tokens other behind → behind ≡ rest
    only (repeated operand) behind fits same = (let both : Mark OpenParenthesis ∷ inner ≡ Name (codes "REPEAT") ∷ tactic_unit_tokens operand behind = sym begins ∙ same in cc)
    only (tried operand) behind fits same = (let both : Mark OpenParenthesis ∷ inner ≡ Name (codes "TRY") ∷ tactic_unit_tokens operand behind = sym begins ∙ same in cc)
    only (enclosed tactic) behind fits same =
        let both : Mark OpenParenthesis ∷ inner ≡ Mark OpenParenthesis ∷ tactic_tokens tactic (Mark CloseParenthesis ∷ behind) = sym begins ∙ same in
        let further : inner ≡ tactic_tokens tactic (Mark CloseParenthesis ∷ behind) = cc in
        let rests : ◌≡◌ {A = List Token} (Mark CloseParenthesis ∷ behind) (Mark CloseParenthesis ∷ rest) =
        read.only tactic (Mark CloseParenthesis ∷ behind) (record { nested = omega (arith, fits.nested, deeper); quotable = fits.quotable }) (closed-ends behind) further ∙ ends in
        cc
    only (leaf tactic) behind fits same = leaf-no_parenthesis tactic behind inner (sym same ∙ begins)

-- whatever keeps an expression from standing in the parentheses
enclosed-none : (room : ℕ) (tokens inner : List Token) → tokens ≡ Mark OpenParenthesis ∷ inner
    → ((tactic : Tactic TermTree) (behind : List Token) → FitsUnit room (enclosed tactic) → inner ≢ tactic_tokens tactic (Mark CloseParenthesis ∷ behind)) → IsNoUnit room tokens
enclosed-none room tokens inner begins none = go
  where
    go : IsNoUnit room tokens
    go (repeated operand) behind fits same = (let both : Mark OpenParenthesis ∷ inner ≡ Name (codes "REPEAT") ∷ tactic_unit_tokens operand behind = sym begins ∙ same in cc)
    go (tried operand) behind fits same = (let both : Mark OpenParenthesis ∷ inner ≡ Name (codes "TRY") ∷ tactic_unit_tokens operand behind = sym begins ∙ same in cc)
    go (enclosed tactic) behind fits same =
        let both : Mark OpenParenthesis ∷ inner ≡ Mark OpenParenthesis ∷ tactic_tokens tactic (Mark CloseParenthesis ∷ behind) = sym begins ∙ same in
        let further : inner ≡ tactic_tokens tactic (Mark CloseParenthesis ∷ behind) = cc in
        none tactic behind fits further
    go (leaf tactic) behind fits same = leaf-no_parenthesis tactic behind inner (sym same ∙ begins)

pub enclosed-open : (room less : ℕ) (tokens inner left : List Token) (meaning : Meaning) → less + 1 ≡ room → tokens ≡ Mark OpenParenthesis ∷ inner
    → ((rest : List Token) → left ≢ Mark CloseParenthesis ∷ rest)
    → IsWhole less inner left meaning → IsNoUnit room tokens
enclosed-open room less tokens inner left meaning deeper begins open_still read = enclosed-none room tokens inner begins (λ tactic behind fits same.
    open_still behind (sym (read.only tactic (Mark CloseParenthesis ∷ behind) (record { nested = omega (arith, fits.nested, deeper); quotable = fits.quotable }) (closed-ends behind) same)))

pub enclosed-refused : (room less : ℕ) (tokens inner : List Token) → less + 1 ≡ room → tokens ≡ Mark OpenParenthesis ∷ inner → IsNoWhole less inner → IsNoUnit room tokens
enclosed-refused room less tokens inner deeper begins none = enclosed-none room tokens inner begins (λ tactic behind fits same.
    none tactic (Mark CloseParenthesis ∷ behind) (record { nested = omega (arith, fits.nested, deeper); quotable = fits.quotable }) (closed-ends behind) same)

pub enclosed-too-deep : (room : ℕ) (tokens inner : List Token) → room ≡ 0 → tokens ≡ Mark OpenParenthesis ∷ inner → IsNoUnit room tokens
enclosed-too-deep room tokens inner none begins = enclosed-none room tokens inner begins (λ tactic behind fits same. omega (arith, fits.nested, none))

-- ---- chains of ORELSE

listed-more : (meanings : List Meaning) (meaning : Meaning) (others : Expressions (List FlatStep)) → listed (meanings ++ meaning ∷ []) others ≡ listed meanings (more meaning others)
listed-more [] meaning others = refl
listed-more (first ∷ meanings) meaning others = ap (more first) (listed-more meanings meaning others)

listed-all : (meanings : List Meaning) → listed meanings no_more ≡ all_expressions meanings
listed-all [] = refl
listed-all (first ∷ meanings) = ap (more first) (listed-all meanings)

choice-begun : (room : ℕ) (tokens left : List Token) (first : Meaning) → IsUnit room tokens left first → IsChoiceFront room tokens left first []
choice-begun room tokens left first read = record { completes = completes; goes = goes }
  where
    completes : (others : OtherTactics TermTree) (rest : List Token) → FitsOthers room others → left ≡ other_tokens others rest
        → IsChoiceOf room tokens rest (or_else first (listed [] (others_of steps_of_tree others)))
    completes others rest fits same = record {
      tree = orelse_chain read.tree others;
      fits = record { nested = max-le read.fits.nested fits.nested; quotable = (read.fits.quotable, fits.quotable) };
      spelled = read.spelled ∙ ap (tactic_unit_tokens read.tree) same;
      means = ap (λ (m : Meaning). or_else m (others_of steps_of_tree others)) read.means;
    }

    goes : (tree : TacticChoice TermTree) (rest : List Token) → FitsChoice room tree → Without (codes "ORELSE") rest → tokens ≡ choice_tokens tree rest → HasOthers room left rest
    goes (orelse_chain unit others) rest fits none same = record {
      others = others;
      fits = choice-others room unit others fits;
      spelled = sym (read.only unit (other_tokens others rest) (choice-first room unit others fits) same);
    }

choice-taken : (room : ℕ) (tokens left inner behind : List Token) (first meaning : Meaning) (taken further : List Meaning) → further ≡ taken ++ meaning ∷ []
    → IsChoiceFront room tokens left first taken
    → left ≡ Name (codes "ORELSE") ∷ inner → IsUnit room inner behind meaning → IsChoiceFront room tokens behind first further
choice-taken room tokens left inner behind first meaning taken further added front begins read = record { completes = completes; goes = goes }
  where
    completes : (others : OtherTactics TermTree) (rest : List Token) → FitsOthers room others → behind ≡ other_tokens others rest
        → IsChoiceOf room tokens rest (or_else first (listed further (others_of steps_of_tree others)))
    completes others rest fits same =
        let known = front.completes (grammar.orelse read.tree others) rest (record { nested = max-le read.fits.nested fits.nested; quotable = (read.fits.quotable, fits.quotable) })
        (begins ∙ ap (λ (ts : List Token). Name (codes "ORELSE") ∷ ts) (read.spelled ∙ ap (tactic_unit_tokens read.tree) same)) in
        let list : listed further (others_of steps_of_tree others) ≡ listed taken (others_of steps_of_tree (grammar.orelse read.tree others)) =
        ap (λ (ms : List Meaning). listed ms (others_of steps_of_tree others)) added ∙ listed-more taken meaning (others_of steps_of_tree others)
        ∙ ap (λ (m : Meaning). listed taken (more m (others_of steps_of_tree others))) read.means in
        record { tree = known.tree; fits = known.fits; spelled = known.spelled; means = ap (or_else first) list ∙ known.means }

    goes : (tree : TacticChoice TermTree) (rest : List Token) → FitsChoice room tree → Without (codes "ORELSE") rest → tokens ≡ choice_tokens tree rest → HasOthers room behind rest
    goes tree rest fits none same = go known.others known.fits known.spelled
      where
        known : HasOthers room left rest
        known = front.goes tree rest fits none same

        go : (others : OtherTactics TermTree) → FitsOthers room others → left ≡ other_tokens others rest → HasOthers room behind rest
        go no_more_orelse small is = absurd (none inner (sym is ∙ begins))
        go (grammar.orelse unit others) small is =
            let both : Name (codes "ORELSE") ∷ inner ≡ Name (codes "ORELSE") ∷ tactic_unit_tokens unit (other_tokens others rest) = sym begins ∙ is in
            let next : inner ≡ tactic_unit_tokens unit (other_tokens others rest) = cc in
            record { others = others; fits = others-rest room unit others small; spelled = sym (read.only unit (other_tokens others rest) (others-first room unit others small) next) }

pub choice-ended : (room : ℕ) (tokens left : List Token) (first meaning : Meaning) (taken : List Meaning) → IsChoiceFront room tokens left first taken → Without (codes "ORELSE") left
    → meaning ≡ or_else first (all_expressions taken) → IsChoice room tokens left meaning
choice-ended room tokens left first meaning taken front ended means = record {
  tree = known.tree;
  fits = known.fits;
  spelled = known.spelled;
  means = means ∙ ap (or_else first)
      (sym (listed-all taken)) ∙ known.means;
  only = only;
}
  where
    known : IsChoiceOf room tokens left (or_else first (listed taken no_more))
    known = front.completes no_more_orelse left (record { nested = omega arith; quotable = tt }) refl

    go : (others : OtherTactics TermTree) (rest : List Token) → left ≡ other_tokens others rest → rest ≡ left
    go no_more_orelse rest is = sym is
    go (grammar.orelse unit others) rest is = absurd (ended _ is)

    only : (other : TacticChoice TermTree) (rest : List Token) → FitsChoice room other → Without (codes "ORELSE") rest → tokens ≡ choice_tokens other rest → rest ≡ left
    only other rest fits none same = (let others = front.goes other rest fits none same in go others.others rest others.spelled)

pub choice-broken : (room : ℕ) (tokens left inner : List Token) (first : Meaning) (taken : List Meaning) → IsChoiceFront room tokens left first taken → left ≡ Name (codes "ORELSE") ∷ inner
    → IsNoUnit room inner
    → IsNoChoice room tokens
choice-broken room tokens left inner first taken front begins refused tree rest fits none same = go known.others known.fits known.spelled
  where
    known : HasOthers room left rest
    known = front.goes tree rest fits none same

    go : (others : OtherTactics TermTree) → FitsOthers room others → left ≡ other_tokens others rest → ⊥
    go no_more_orelse small is = none inner (sym is ∙ begins)
    go (grammar.orelse unit others) small is =
        let both : Name (codes "ORELSE") ∷ inner ≡ Name (codes "ORELSE") ∷ tactic_unit_tokens unit (other_tokens others rest) = sym begins ∙ is in
        let next : inner ≡ tactic_unit_tokens unit (other_tokens others rest) = cc in
        refused unit (other_tokens others rest) (others-first room unit others small) next

pub choice-refused : (room : ℕ) (tokens : List Token) → IsNoUnit room tokens → IsNoChoice room tokens
choice-refused room tokens refused = go
  where
    go : IsNoChoice room tokens
    go (orelse_chain unit others) rest fits none same = refused unit (other_tokens others rest) (choice-first room unit others fits) same

-- ---- chains of THEN and THENL

chained-more : (meanings : List (Joint (List FlatStep))) (meaning : Joint (List FlatStep)) (others : Links (List FlatStep))
    → chained (meanings ++ meaning ∷ []) others ≡ chained meanings (link meaning others)
chained-more [] meaning others = refl
chained-more (first ∷ meanings) meaning others = ap (link first) (chained-more meanings meaning others)

chained-all : (meanings : List (Joint (List FlatStep))) → chained meanings no_link ≡ all_links meanings
chained-all [] = refl
chained-all (first ∷ meanings) = ap (link first) (chained-all meanings)

links-without : (links : TacticLinks TermTree) (rest : List Token) → Ends rest → Without (codes "ORELSE") (link_tokens links rest)
links-without no_more_then rest ends = ends.else
links-without (then_all choice links) rest ends = λ others same. cc
links-without (then_each list links) rest ends = λ others same. cc

whole-begun : (room : ℕ) (tokens left : List Token) (first : Meaning) → IsChoice room tokens left first → IsChainFront room tokens left first []
whole-begun room tokens left first read = record { completes = completes; goes = goes }
  where
    completes : (links : TacticLinks TermTree) (rest : List Token) → FitsLinks room links → left ≡ link_tokens links rest
        → IsChainOf room tokens rest (then_on first (chained [] (links_of steps_of_tree links)))
    completes links rest fits same = record {
      tree = then_chain read.tree links;
      fits = record { nested = max-le read.fits.nested fits.nested; quotable = (read.fits.quotable, fits.quotable) };
      spelled = read.spelled ∙ ap (choice_tokens read.tree) same;
      means = ap (λ (m : Meaning). then_on m (links_of steps_of_tree links)) read.means;
    }

    goes : (tree : Tactic TermTree) (rest : List Token) → Fits room tree → Ends rest → tokens ≡ tactic_tokens tree rest → HasLinks room left rest
    goes (then_chain choice links) rest fits ends same = record {
      links = links;
      fits = whole-links room choice links fits;
      spelled = sym (read.only choice (link_tokens links rest) (whole-first room choice links fits) (links-without links rest ends) same);
    }

-- a link does not begin what ends a chain
joint-begins : {A : Type 0} (joint : LinkTree) (left behind rest : List Token) → left ≡ joint_tokens joint behind → left ≡ rest → Ends rest → A
joint-begins (with_choice choice) left behind rest begins same ends = absurd (ends.then _ (sym same ∙ begins))
joint-begins (with_list list) left behind rest begins same ends = absurd (ends.thenl _ (sym same ∙ begins))

whole-taken : (room : ℕ) (tokens left behind : List Token) (first : Meaning) (meaning : Joint (List FlatStep)) (taken further : List (Joint (List FlatStep))) → further ≡ taken ++ meaning ∷ []
    → IsChainFront room tokens left first taken → IsLink room left behind meaning → IsChainFront room tokens behind first further
whole-taken room tokens left behind first meaning taken further added front read = record { completes = completes; goes = goes }
  where
    completes : (links : TacticLinks TermTree) (rest : List Token) → FitsLinks room links → behind ≡ link_tokens links rest
        → IsChainOf room tokens rest (then_on first (chained further (links_of steps_of_tree links)))
    completes links rest fits same =
        let known = front.completes (linked read.tree links) rest (links-fit room read.tree links read.fits fits) (read.spelled ∙ ap (joint_tokens read.tree) same ∙ linked-tokens read.tree
        links rest) in
        let list : chained further (links_of steps_of_tree links) ≡ chained taken (links_of steps_of_tree (linked read.tree links)) =
        ap (λ (ms : List (Joint (List FlatStep))). chained ms (links_of steps_of_tree links)) added ∙ chained-more taken meaning (links_of steps_of_tree links)
        ∙ ap (λ (m : Joint (List FlatStep)). chained taken (link m (links_of steps_of_tree links))) read.means ∙ ap (chained taken) (sym (linked-means read.tree links)) in
        record { tree = known.tree; fits = known.fits; spelled = known.spelled; means = ap (then_on first) list ∙ known.means }

    step : (joint : LinkTree) (links : TacticLinks TermTree) (rest : List Token) → Ends rest → FitsLinks room (linked joint links) → left ≡ link_tokens (linked joint links) rest
        → HasLinks room behind rest
    step joint links rest ends small is = record {
      links = links;
      fits = links-rest room joint links small;
      spelled = sym (read.only joint (link_tokens links rest) (links-first room joint links small) (links-without links rest ends) (is ∙ sym (linked-tokens joint links rest)));
    }

    goes : (tree : Tactic TermTree) (rest : List Token) → Fits room tree → Ends rest → tokens ≡ tactic_tokens tree rest → HasLinks room behind rest
    goes tree rest fits ends same = go known.links known.fits known.spelled
      where
        known : HasLinks room left rest
        known = front.goes tree rest fits ends same

        go : (links : TacticLinks TermTree) → FitsLinks room links → left ≡ link_tokens links rest → HasLinks room behind rest
        go no_more_then small is = joint-begins read.tree left behind rest read.spelled is ends
        go (then_all choice links) small is = step (with_choice choice) links rest ends small is
        go (then_each list links) small is = step (with_list list) links rest ends small is

pub whole-ended : (room : ℕ) (tokens left : List Token) (first meaning : Meaning) (taken : List (Joint (List FlatStep))) → IsChainFront room tokens left first taken
    → Without (codes "THEN") left → Without (codes "THENL") left
    → meaning ≡ then_on first (all_links taken) → IsWhole room tokens left meaning
whole-ended room tokens left first meaning taken front no_then no_thenl means = record {
  tree = known.tree;
  fits = known.fits;
  spelled = known.spelled;
  means = means ∙ ap (then_on first)
      (sym (chained-all taken)) ∙ known.means;
  only = only;
}
  where
    known : IsChainOf room tokens left (then_on first (chained taken no_link))
    known = front.completes no_more_then left (record { nested = omega arith; quotable = tt }) refl

    go : (links : TacticLinks TermTree) (rest : List Token) → left ≡ link_tokens links rest → rest ≡ left
    go no_more_then rest is = sym is
    go (then_all choice links) rest is = absurd (no_then _ is)
    go (then_each list links) rest is = absurd (no_thenl _ is)

    only : (other : Tactic TermTree) (rest : List Token) → Fits room other → Ends rest → tokens ≡ tactic_tokens other rest → rest ≡ left
    only other rest fits ends same = (let links = front.goes other rest fits ends same in go links.links rest links.spelled)

pub whole-broken : (room : ℕ) (tokens left : List Token) (first : Meaning) (taken : List (Joint (List FlatStep))) → IsChainFront room tokens left first taken
    → ((rest : List Token) → left ≡ rest → Ends rest → ⊥)
    → IsNoLink room left → IsNoWhole room tokens
whole-broken room tokens left first taken front begins refused tree rest fits ends same = go known.links known.fits known.spelled
  where
    known : HasLinks room left rest
    known = front.goes tree rest fits ends same

    step : (joint : LinkTree) (links : TacticLinks TermTree) → FitsLinks room (linked joint links) → left ≡ link_tokens (linked joint links) rest → ⊥
    step joint links small is = refused joint (link_tokens links rest) (links-first room joint links small) (links-without links rest ends) (is ∙ sym (linked-tokens joint links rest))

    go : (links : TacticLinks TermTree) → FitsLinks room links → left ≡ link_tokens links rest → ⊥
    go no_more_then small is = begins rest is ends
    go (then_all choice links) small is = step (with_choice choice) links small is
    go (then_each list links) small is = step (with_list list) links small is

pub whole-refused : (room : ℕ) (tokens : List Token) → IsNoChoice room tokens → IsNoWhole room tokens
whole-refused room tokens refused = go
  where
    go : IsNoWhole room tokens
    go (then_chain choice links) rest fits ends same = refused choice (link_tokens links rest) (whole-first room choice links fits) (links-without links rest ends) same

-- ---- links

pub then-read : (room : ℕ) (tokens inner rest : List Token) (meaning : Meaning) → tokens ≡ Name (codes "THEN") ∷ inner → IsChoice room inner rest meaning → IsLink room tokens rest (on_all meaning)
then-read room tokens inner rest meaning begins read = record {
  tree = with_choice read.tree;
  fits = record { nested = read.fits.nested; quotable = read.fits.quotable };
  spelled = begins ∙ ap (λ (ts : List Token). Name (codes "THEN") ∷ ts) read.spelled;
  means = ap (λ (m : Meaning). on_all m) read.means;
  only = only;
}
  where
    only : (other : LinkTree) (left : List Token) → FitsJoint room other → Without (codes "ORELSE") left → tokens ≡ joint_tokens other left → left ≡ rest
    only (with_choice choice) left fits none same =
        let both : Name (codes "THEN") ∷ inner ≡ Name (codes "THEN") ∷ choice_tokens choice left = sym begins ∙ same in
        let further : inner ≡ choice_tokens choice left = cc in
        read.only choice left (record { nested = fits.nested; quotable = fits.quotable }) none further
    only (with_list list) left fits none same = (let both : Name (codes "THEN") ∷ inner ≡ Name (codes "THENL") ∷ Mark OpenBracket ∷ first_tokens list left = sym begins ∙ same in cc)

pub thenl-read : (room less : ℕ) (tokens inner rest : List Token) (meaning : Expressions (List FlatStep)) (made : Joint (List FlatStep)) → made ≡ on_each meaning → less + 1 ≡ room
    → tokens ≡ Name (codes "THENL") ∷ inner
    → IsList less inner rest meaning → IsLink room tokens rest made
thenl-read room less tokens inner rest meaning made is deeper begins read = record {
  tree = with_list read.tree;
  fits = record { nested = omega (arith, read.fits.nested, deeper); quotable = read.fits.quotable };
  spelled = begins ∙ ap (λ (ts : List Token). Name (codes "THENL") ∷ ts) read.spelled;
  means = is ∙ ap (λ (m : Expressions (List FlatStep)). on_each m) read.means;
  only = only;
}
  where
    only : (other : LinkTree) (left : List Token) → FitsJoint room other → Without (codes "ORELSE") left → tokens ≡ joint_tokens other left → left ≡ rest
    only (with_choice choice) left fits none same = (let both : Name (codes "THENL") ∷ inner ≡ Name (codes "THEN") ∷ choice_tokens choice left = sym begins ∙ same in cc)
    only (with_list list) left fits none same =
        let both : Name (codes "THENL") ∷ inner ≡ Name (codes "THENL") ∷ Mark OpenBracket ∷ first_tokens list left = sym begins ∙ same in
        let further : inner ≡ Mark OpenBracket ∷ first_tokens list left = cc in
        read.only list left (record { nested = omega (arith, fits.nested, deeper); quotable = fits.quotable }) further

-- ---- lists in brackets

further-ends : (list : Tactics TermTree) (rest : List Token) → Ends (further_tokens list rest)
further-ends no_tactics rest = record { then = λ others same. cc; thenl = λ others same. cc; else = λ others same. cc }
further-ends (tactic_and tactic list) rest = record { then = λ others same. cc; thenl = λ others same. cc; else = λ others same. cc }

pub list-begins : (room : ℕ) (inner : List Token) → ((rest : List Token) → inner ≢ Mark CloseBracket ∷ rest) → IsListPlace room (Mark OpenBracket ∷ inner) inner []
list-begins room inner some = record { completes = completes; goes = goes }
  where
    completes : (next : Tactic TermTree) (list : Tactics TermTree) (rest : List Token) → Fits room next → FitsList room list → inner ≡ tactic_tokens next (further_tokens list rest)
        → IsListOf room (Mark OpenBracket ∷ inner) rest (listed [] (more (expression_of steps_of_tree next) (expressions_of steps_of_tree list)))
    completes next list rest fits small same = record {
      tree = tactic_and next list;
      fits = record { nested = max-le fits.nested small.nested; quotable = (fits.quotable, small.quotable) };
      spelled = ap (λ (ts : List Token). Mark OpenBracket ∷ ts) same;
      means = refl;
    }

    goes : (tree : Tactics TermTree) (rest : List Token) → FitsList room tree → Mark OpenBracket ∷ inner ≡ Mark OpenBracket ∷ first_tokens tree rest → HasNext room inner rest
    goes no_tactics rest fits same = (let further : inner ≡ Mark CloseBracket ∷ rest = cc in absurd (some rest further))
    goes (tactic_and next list) rest fits same =
        let further : inner ≡ tactic_tokens next (further_tokens list rest) = cc in
        record { next = next; list = list; next_fits = list-first room next list fits; list_fits = list-rest room next list fits; spelled = further }

pub list-goes-on : (room : ℕ) (tokens inner : List Token) (taken : List Meaning) → IsListFront room tokens (Mark Semicolon ∷ inner) taken → IsListPlace room tokens inner taken
list-goes-on room tokens inner taken front = record { completes = completes; goes = goes }
  where
    completes : (next : Tactic TermTree) (list : Tactics TermTree) (rest : List Token) → Fits room next → FitsList room list → inner ≡ tactic_tokens next (further_tokens list rest)
        → IsListOf room tokens rest (listed taken (more (expression_of steps_of_tree next) (expressions_of steps_of_tree list)))
    completes next list rest fits small same =
        front.completes (tactic_and next list) rest (record { nested = max-le fits.nested small.nested; quotable = (fits.quotable, small.quotable) })
        (ap (λ (ts : List Token). Mark Semicolon ∷ ts) same)

    goes : (tree : Tactics TermTree) (rest : List Token) → FitsList room tree → tokens ≡ Mark OpenBracket ∷ first_tokens tree rest → HasNext room inner rest
    goes tree rest fits same = go known.list known.fits known.spelled
      where
        known : HasFurther room (Mark Semicolon ∷ inner) rest
        known = front.goes tree rest fits same

        go : (list : Tactics TermTree) → FitsList room list → Mark Semicolon ∷ inner ≡ further_tokens list rest → HasNext room inner rest
        go no_tactics small is = cc
        go (tactic_and next list) small is =
            let further : inner ≡ tactic_tokens next (further_tokens list rest) = cc in
            record { next = next; list = list; next_fits = list-first room next list small; list_fits = list-rest room next list small; spelled = further }

pub list-taken : (room : ℕ) (tokens inner left : List Token) (meaning : Meaning) (taken further : List Meaning) → further ≡ taken ++ meaning ∷ [] → IsListPlace room tokens inner taken
    → IsWhole room inner left meaning → IsListFront room tokens left further
list-taken room tokens inner left meaning taken further added place read = record { completes = completes; goes = goes }
  where
    completes : (list : Tactics TermTree) (rest : List Token) → FitsList room list → left ≡ further_tokens list rest → IsListOf room tokens rest (listed further (expressions_of steps_of_tree list))
    completes list rest fits same =
        let known = place.completes read.tree list rest read.fits fits (read.spelled ∙ ap (tactic_tokens read.tree) same) in
        let same_list : listed further (expressions_of steps_of_tree list) ≡ listed taken (more (expression_of steps_of_tree read.tree) (expressions_of steps_of_tree list)) =
        ap (λ (ms : List Meaning). listed ms (expressions_of steps_of_tree list)) added ∙ listed-more taken meaning (expressions_of steps_of_tree list)
        ∙ ap (λ (m : Meaning). listed taken (more m (expressions_of steps_of_tree list))) read.means in
        record { tree = known.tree; fits = known.fits; spelled = known.spelled; means = same_list ∙ known.means }

    goes : (tree : Tactics TermTree) (rest : List Token) → FitsList room tree → tokens ≡ Mark OpenBracket ∷ first_tokens tree rest → HasFurther room left rest
    goes tree rest fits same =
        let known = place.goes tree rest fits same in
        record {
          list = known.list;
          fits = known.list_fits;
          spelled = sym (read.only known.next (further_tokens known.list rest) known.next_fits
              (further-ends known.list rest) known.spelled);
        }

pub list-ended : (room : ℕ) (tokens left rest : List Token) (taken : List Meaning) → IsListFront room tokens left taken → left ≡ Mark CloseBracket ∷ rest
    → IsList room tokens rest (all_expressions taken)
list-ended room tokens left rest taken front ends = record { tree = known.tree; fits = known.fits; spelled = known.spelled; means = sym (listed-all taken) ∙ known.means; only = only }
  where
    known : IsListOf room tokens rest (listed taken no_more)
    known = front.completes no_tactics rest (record { nested = omega arith; quotable = tt }) ends

    go : (list : Tactics TermTree) (behind : List Token) → left ≡ further_tokens list behind → behind ≡ rest
    go no_tactics behind is = (let both : ◌≡◌ {A = List Token} (Mark CloseBracket ∷ rest) (Mark CloseBracket ∷ behind) = sym ends ∙ is in cc)
    go (tactic_and tactic list) behind is = (let both : Mark CloseBracket ∷ rest ≡ Mark Semicolon ∷ tactic_tokens tactic (further_tokens list behind) = sym ends ∙ is in cc)

    only : (other : Tactics TermTree) (behind : List Token) → FitsList room other → tokens ≡ Mark OpenBracket ∷ first_tokens other behind → behind ≡ rest
    only other behind fits same = (let further = front.goes other behind fits same in go further.list behind further.spelled)

pub list-open : (room : ℕ) (tokens left : List Token) (taken : List Meaning) → IsListFront room tokens left taken → ((rest : List Token) → left ≢ Mark CloseBracket ∷ rest)
    → ((rest : List Token) → left ≢ Mark Semicolon ∷ rest)
    → IsNoList room tokens
list-open room tokens left taken front no_end no_semicolon tree rest fits same = (let known = front.goes tree rest fits same in go known.list known.fits known.spelled)
  where
    go : (list : Tactics TermTree) → FitsList room list → left ≡ further_tokens list rest → ⊥
    go no_tactics small is = no_end rest is
    go (tactic_and tactic list) small is = no_semicolon _ is

pub list-refused : (room : ℕ) (tokens left : List Token) (taken : List Meaning) → IsListPlace room tokens left taken → IsNoWhole room left → IsNoList room tokens
list-refused room tokens left taken place refused tree rest fits same =
    let known = place.goes tree rest fits same in
    refused known.next (further_tokens known.list rest) known.next_fits (further-ends known.list rest) known.spelled

leaf-no_bracket : {A : Type 0} (tactic : TacticLeaf TermTree) (rest r : List Token) → leaf_tokens tactic rest ≡ Mark CloseBracket ∷ r → A
leaf-no_bracket (grammar.plain other) rest r same = cc
leaf-no_bracket (grammar.by_name other name) rest r same = cc
leaf-no_bracket (grammar.by_quote other tree) rest r same = cc
leaf-no_bracket (grammar.conv_tac conversion) rest r same = cc
leaf-no_bracket (grammar.rewrite_tac names) rest r same = cc

unit-no_bracket : {A : Type 0} (unit : TacticUnit TermTree) (rest r : List Token) → tactic_unit_tokens unit rest ≡ Mark CloseBracket ∷ r → A
unit-no_bracket (repeated operand) rest r same = cc
unit-no_bracket (tried operand) rest r same = cc
unit-no_bracket (enclosed tactic) rest r same = cc
unit-no_bracket (leaf tactic) rest r same = leaf-no_bracket tactic rest r same

tactic-no_bracket : {A : Type 0} (tactic : Tactic TermTree) (rest r : List Token) → tactic_tokens tactic rest ≡ Mark CloseBracket ∷ r → A
tactic-no_bracket (then_chain (orelse_chain first others) links) rest r same = unit-no_bracket first (other_tokens others (link_tokens links rest)) r same

pub list-empty : (room : ℕ) (tokens inner rest : List Token) → tokens ≡ Mark OpenBracket ∷ inner → inner ≡ Mark CloseBracket ∷ rest → IsList room tokens rest no_more
list-empty room tokens inner rest begins ends = record { tree = no_tactics; fits = record { nested = omega arith; quotable = tt }; spelled = whole; means = refl; only = only }
  where
    whole : tokens ≡ Mark OpenBracket ∷ Mark CloseBracket ∷ rest
    whole = begins ∙ ap (λ (ts : List Token). Mark OpenBracket ∷ ts) ends

    only : (other : Tactics TermTree) (left : List Token) → FitsList room other → tokens ≡ Mark OpenBracket ∷ first_tokens other left → left ≡ rest
    only no_tactics left fits same = (let both : ◌≡◌ {A = List Token} (Mark OpenBracket ∷ Mark CloseBracket ∷ rest) (Mark OpenBracket ∷ Mark CloseBracket ∷ left) = sym whole ∙ same in cc)
    only (tactic_and tactic list) left fits same =
        let both : Mark OpenBracket ∷ Mark CloseBracket ∷ rest ≡ Mark OpenBracket ∷ tactic_tokens tactic (further_tokens list left) = sym whole ∙ same in
        let further : tactic_tokens tactic (further_tokens list left) ≡ Mark CloseBracket ∷ rest = cc in
        tactic-no_bracket tactic (further_tokens list left) rest further

-- ---- readings

pub or_else-several : (first : Meaning) (others : List (Tac Kept)) (count : ℕ) → count ≡ length others → false ≡ (count == 0)
    → orelse first (all_expressions (map expression_here others)) ≡ or_else first (all_expressions (map expression_here others))
or_else-several first [] count is some = (let none : false ≡ (0 == 0) = some ∙ ap (λ (n : ℕ). n == 0) is in cc)
or_else-several first (other ∷ others) count is some = refl

pub then_on-several : (first : Meaning) (links : List (Link Kept)) (count : ℕ) → count ≡ length links → false ≡ (count == 0)
    → chain first (all_links (map joint_here links)) ≡ then_on first (all_links (map joint_here links))
then_on-several first [] count is some = (let none : false ≡ (0 == 0) = some ∙ ap (λ (n : ℕ). n == 0) is in cc)
then_on-several first (other ∷ others) count is some = refl

pub mapped : (taken : List (Tac Kept)) (tactic : Tac Kept) → map expression_here (taken ++ tactic ∷ []) ≡ map expression_here taken ++ expression_here tactic ∷ []
mapped [] tactic = refl
mapped (first ∷ taken) tactic = ap (λ (ms : List Meaning). expression_here first ∷ ms) (mapped taken tactic)

mapped-links : (taken : List (Link Kept)) (joint : Link Kept) → map joint_here (taken ++ joint ∷ []) ≡ map joint_here taken ++ joint_here joint ∷ []
mapped-links [] joint = refl
mapped-links (first ∷ taken) joint = ap (λ (ms : List (Joint (List FlatStep))). joint_here first ∷ ms) (mapped-links taken joint)

pub choice-begins : (room : ℕ) (tokens left : List Token) (first : Meaning) (taken : List (Tac Kept)) → taken ≡ [] → IsUnit room tokens left first
    → IsChoiceFront room tokens left first (map expression_here taken)
choice-begins room tokens left first taken none read = subst (λ (ts : List (Tac Kept)). IsChoiceFront room tokens left first (map expression_here ts)) (sym none) (choice-begun room tokens
    left first read)

pub choice-goes-on : (room : ℕ) (tokens left inner behind : List Token) (first : Meaning) (taken further : List (Tac Kept)) (tactic : Tac Kept) → further ≡ taken ++ tactic ∷ []
    → IsChoiceFront room tokens left first (map expression_here taken)
    → left ≡ Name (codes "ORELSE") ∷ inner → IsUnit room inner behind (expression_here tactic) → IsChoiceFront room tokens behind first (map expression_here further)
choice-goes-on room tokens left inner behind first taken further tactic added front begins read =
    choice-taken room tokens left inner behind first (expression_here tactic) (map expression_here taken) (map expression_here further) (ap (map expression_here) added ∙ mapped taken
    tactic) front begins read

pub whole-begins : (room : ℕ) (tokens left : List Token) (first : Meaning) (taken : List (Link Kept)) → taken ≡ [] → IsChoice room tokens left first
    → IsChainFront room tokens left first (map joint_here taken)
whole-begins room tokens left first taken none read = subst (λ (ls : List (Link Kept)). IsChainFront room tokens left first (map joint_here ls)) (sym none) (whole-begun room tokens left first read)

pub whole-goes-on : (room : ℕ) (tokens left behind : List Token) (first : Meaning) (taken further : List (Link Kept)) (joint : Link Kept) → further ≡ taken ++ joint ∷ []
    → IsChainFront room tokens left first (map joint_here taken)
    → IsLink room left behind (joint_here joint) → IsChainFront room tokens behind first (map joint_here further)
whole-goes-on room tokens left behind first taken further joint added front read =
    whole-taken room tokens left behind first (joint_here joint) (map joint_here taken) (map joint_here further) (ap (map joint_here) added ∙ mapped-links taken joint) front read

-- ---- all tokens

pub empty-ends : Ends []
empty-ends = record { then = λ others same. cc; thenl = λ others same. cc; else = λ others same. cc }

pub some-behind : (tokens : List TokenHere) (next : ℕ) → next < length tokens → behind next tokens ≡ [] → ⊥
some-behind [] next within same = omega (arith, within)
some-behind (first ∷ tokens) zero within same = cc
some-behind (first ∷ tokens) (suc next) within same = some-behind tokens next (omega (arith, within)) same

pub fits-whole : (tree : Tactic TermTree) → IsTactic tree → Fits EXPRESSION_NESTING_LIMIT tree
fits-whole tree grammatical = record { nested = grammatical.depth; quotable = grammatical.quotable }
