-- A text is one sequent's.
use Rattle.std.proofs.Common.{◌≡◌, List, [], ◌∷◌, Bool, true, false, refl, sym, ap, ◌∙◌, subst}
use Rattle.std.specs.List.{slice_split}
use Rattle.hol_model.specs.declared.symbol.Symbol.TheVariants.{Turnstile}
use Rattle.hol_model.specs.Texts.Token.{Token, Mark}
use Rattle.hol_model.specs.Texts.TermGrammar.{TermTree, Leaf, Enclosed, Apply, Not, Join, Bind, Bare, Variable, Constant, Lexeme, pieces, all_tokens, IsReadTerm}
use Rattle.hol_model.specs.Texts.SequentGrammar.{with_commas, AreReadTerms, IsReadSequent}
use Rattle.hol_syntax.specs.declared.sequents.Separator.TheVariants.{Comma as CommaHere, Turnstile as TurnstileHere}
use Rattle.hol_syntax.specs.SequentStates.{separates}
use Rattle.hol_syntax.specs.UniqueSequents.{SequentsAreUnambiguous}
use Rattle.hol_syntax.proofs.Separators.{split_parts, list_without, cut_same}
use Rattle.hol_syntax.proofs.Unambiguous.{one_list, one_term}

abbrev is_some : List Token → Bool
is_some [] = false
is_some (token ∷ tokens) = true

-- a term has a token
term-some : (tree : TermTree) (rest : List Lexeme) → is_some (all_tokens (pieces tree rest)) ≡ true
term-some (Leaf (Bare name)) rest = refl
term-some (Leaf (Variable name ty)) rest = refl
term-some (Leaf (Constant name ty)) rest = refl
term-some (Enclosed tree) rest = refl
term-some (Apply function argument) rest = term-some function (pieces argument rest)
term-some (Not tree) rest = refl
term-some (Join infix' left right) rest = term-some left _
term-some (Bind binder name ty body) rest = refl

part-some : (part : List Token) (tree : TermTree) → IsReadTerm part tree → part ≡ [] → ⊥
part-some part tree read none =
    let some : is_some part ≡ true = ap is_some read.spelled ∙ term-some tree [] in
    let other : is_some part ≡ false = ap is_some none in
    cc

list-some : (part : List Token) (parts : List (List Token)) (trees : List TermTree) → AreReadTerms (part ∷ parts) trees → with_commas (part ∷ parts) ≡ [] → ⊥
list-some part parts [] read none = absurd read
list-some part [] (tree ∷ trees) read none = part-some part tree read.0 none
list-some [] (next ∷ parts) (tree ∷ trees) read none = part-some [] tree read.0 refl
list-some (token ∷ part) (next ∷ parts) (tree ∷ trees) read none = cc

-- the parts are those between the commas, on both sides
same-parts : (a b : List (List Token)) (trees others : List TermTree) → AreReadTerms a trees → AreReadTerms b others → with_commas a ≡ with_commas b → a ≡ b
same-parts [] [] trees others h k same = refl
same-parts [] (part ∷ parts) trees others h k same = absurd (list-some part parts others k (sym same))
same-parts (part ∷ parts) [] trees others h k same = absurd (list-some part parts trees h same)
same-parts (part ∷ parts) (other ∷ more) trees others h k same =
    sym (split_parts part parts trees h) ∙ ap (slice_split (separates CommaHere)) same ∙ split_parts other more others k

same-trees : (parts : List (List Token)) (a b : List TermTree) → AreReadTerms parts a → AreReadTerms parts b → a ≡ b
same-trees [] [] [] h k = refl
same-trees [] [] (tree ∷ b) h k = absurd k
same-trees [] (tree ∷ a) b h k = absurd h
same-trees (part ∷ parts) [] b h k = absurd h
same-trees (part ∷ parts) (tree ∷ a) [] h k = absurd k
same-trees (part ∷ parts) (tree ∷ a) (other ∷ b) h k =
    let first = one_term part tree other h.0 k.0 in
    let rest = same-trees parts a b h.1 k.1 in
    λ i. first i ∷ rest i

pub one_sequent : (tokens : List Token) (a b : List TermTree × TermTree) → IsReadSequent tokens a → IsReadSequent tokens b → a ≡ b
one_sequent tokens a b h k =
    let cut = cut_same (separates TurnstileHere) (with_commas h.parts) (with_commas k.parts) h.last k.last (Mark Turnstile) (Mark Turnstile)
    (list_without h.parts a.0 h.hypotheses) (list_without k.parts b.0 k.hypotheses) refl refl (sym h.spelled ∙ k.spelled) in
    let parts = same-parts h.parts k.parts a.0 b.0 h.hypotheses k.hypotheses cut.0 in
    let hypotheses = same-trees h.parts a.0 b.0 h.hypotheses (subst (λ l. AreReadTerms l b.0) (sym parts) k.hypotheses) in
    let conclusion = one_term h.last a.1 b.1 h.conclusion (subst (λ l. IsReadTerm l b.1) (sym cut.1) k.conclusion) in
    λ i. (hypotheses i, conclusion i)

pub sequents_are_unambiguous : SequentsAreUnambiguous
sequents_are_unambiguous text a b h k =
    let tokens : h.tokens ≡ k.tokens = one_list text h.tokens k.tokens h.lexed k.lexed in
    one_sequent h.tokens a b h.read (subst (λ l. IsReadSequent l b) (sym tokens) k.read)
