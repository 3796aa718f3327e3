-- The terms of a sequent that are parsed are those of its tree.
use Rattle.std.proofs.Common.{◌≡◌, ℕ, ◌+◌, ◌-◌, ◌≤◌, List, [], ◌∷◌, ◌++◌, length, take, drop, true, false, ◌==◌, Vec, Global, None, Some, Ok, Err, refl, sym, ap, ◌∙◌, subst, arith, append_assoc}
use Rattle.std.specs.List.{slice_split}
use Rattle.std.proofs.lemmas.Bool.{eqb-true}
use Rattle.std.proofs.lemmas.List.{drop-drop, drop-map, take-map, length-map, length-drop, nil_from_length}
use Rattle.hol_model.specs.Texts.Token.{Token, Mark}
use Rattle.hol_model.specs.declared.symbol.Symbol.TheVariants.{Turnstile}
use Rattle.hol_model.specs.Texts.TermGrammar.{TermTree, IsReadTerm}
use Rattle.hol_model.specs.Texts.SequentGrammar.{with_commas, AreReadTerms, IsReadSequent}
use Rattle.hol_syntax_grammar.specs.declared.token.Token.{Token as TokenHere}
use Rattle.hol_syntax_grammar.specs.declared.steps.TermStep.{TermStep}
use Rattle.hol_syntax_grammar.specs.declared.type_reader.ReadError.{ReadError}
use Rattle.hol_syntax_grammar.specs.declared.type_reader.ReadError.TheVariants.{Memory, Syntax}
use Rattle.hol_syntax.specs.declared.sequents.Separator.TheVariants.{Comma as CommaHere, Turnstile as TurnstileHere}
use Rattle.hol_syntax_grammar.specs.Views.{token_of, tokens_of}
use Rattle.hol_syntax_grammar.specs.TermStates.{Parses}
use Rattle.hol_syntax.specs.SequentStates.{separates, Without, IsFound, AreSteps, ParsesList, ParsesSequent}
use Rattle.hol_syntax.proofs.Separators.{split_found, split_none, split_parts, rejoined, found_cuts, found_within, is_turnstile, list_without, cut_same, uncut}

-- the steps of each part are those of a tree of it
abbrev pub AreParsed : List (Vec TermStep Global) → List (List Token) → Type 0
AreParsed [] [] = Unit {0}
AreParsed (steps ∷ parsed) (part ∷ parts) = Parses (Ok steps) part × AreParsed parsed parts
AreParsed _ _ = ⊥

parsed_more : (parsed : List (Vec TermStep Global)) (parts : List (List Token)) (steps : Vec TermStep Global) (part : List Token) → AreParsed parsed parts → Parses (Ok steps) part
    → AreParsed (parsed ++ steps ∷ []) (parts ++ part ∷ [])
parsed_more [] [] steps part h k = (k, tt)
parsed_more [] (p ∷ parts) steps part h k = absurd h
parsed_more (s ∷ parsed) [] steps part h k = absurd h
parsed_more (s ∷ parsed) (p ∷ parts) steps part h k = (h.0, parsed_more parsed parts steps part h.1 k)

parsed_trees : (parsed : List (Vec TermStep Global)) (parts : List (List Token)) → AreParsed parsed parts → (trees : List TermTree) × AreReadTerms parts trees × AreSteps parsed trees
parsed_trees [] [] h = ([], tt, tt)
parsed_trees [] (p ∷ parts) h = absurd h
parsed_trees (s ∷ parsed) [] h = absurd h
parsed_trees (s ∷ parsed) (p ∷ parts) h =
    let more = parsed_trees parsed parts h.1 in (h.0.0 ∷ more.0, (h.0.1, more.1), (h.0.2, more.2))

-- the tokens up to here are parsed
pub record IsListed (tokens : List Token) (at : ℕ) (parsed : List (Vec TermStep Global)) : Type 0 where
  pub parts : List (List Token)
  pub done : AreParsed parsed parts
  pub left : slice_split (separates CommaHere) tokens ≡ parts ++ slice_split (separates CommaHere) (drop at tokens)

pub listed_more : (tokens : List Token) (at n : ℕ) (parsed new : List (Vec TermStep Global)) (steps : Vec TermStep Global) → IsListed tokens at parsed → IsFound (Some n) CommaHere (drop at tokens)
    → Parses (Ok steps) (take n (drop at tokens)) → new ≡ parsed ++ steps ∷ [] → IsListed tokens (at + (n + 1)) new
listed_more tokens at n parsed new steps h f k e = record {
  parts = h.parts ++ take n (drop at tokens) ∷ [];
  done = subst (λ p. AreParsed p (h.parts ++ take n (drop at tokens) ∷ [])) (sym e) (parsed_more parsed h.parts steps (take n (drop at tokens)) h.done k);
  left = h.left ∙ ap (λ l. h.parts ++ l) (split_found n CommaHere (drop at tokens) f)
      ∙ sym (append_assoc h.parts (take n (drop at tokens) ∷ []) (slice_split (separates CommaHere) (drop (n + 1) (drop at tokens))))
      ∙ ap (λ l. (h.parts ++ take n (drop at tokens) ∷ []) ++ slice_split (separates CommaHere) l) (drop-drop (n + 1) at tokens);
}

-- a part that is no term
a_part : (done : List (List Token)) (part : List Token) (more : List (List Token)) (trees : List TermTree) → AreReadTerms (done ++ part ∷ more) trees → (tree : TermTree) × IsReadTerm part tree
a_part [] part more [] h = absurd h
a_part [] part more (tree ∷ trees) h = (tree, h.0)
a_part (d ∷ done) part more [] h = absurd h
a_part (d ∷ done) part more (tree ∷ trees) h = a_part done part more trees h.1

unlisted : (tokens : List Token) (done : List (List Token)) (part : List Token) (more : List (List Token)) → (tokens ≡ [] → ⊥) → slice_split (separates CommaHere) tokens ≡ done ++ part ∷ more
    → ((tree : TermTree) → ¬ (IsReadTerm part tree)) → (parts : List (List Token)) (trees : List TermTree) → AreReadTerms parts trees → tokens ≡ with_commas parts → ⊥
unlisted tokens done part more some split unread [] trees h e = some e
unlisted tokens done part more some split unread (p ∷ parts) trees h e =
    let same : p ∷ parts ≡ done ++ part ∷ more = sym (split_parts p parts trees h) ∙ ap (slice_split (separates CommaHere)) (sym e) ∙ split in
    let found = a_part done part more trees (subst (λ l. AreReadTerms l trees) same h) in
    unread found.0 found.1

pub fails_within : (error : ReadError) (tokens : List Token) (at n : ℕ) (parsed : List (Vec TermStep Global)) → (tokens ≡ [] → ⊥) → IsListed tokens at parsed →
    IsFound (Some n) CommaHere (drop at tokens)
    → Parses (Err error) (take n (drop at tokens)) → ParsesList (Err error) tokens
fails_within Memory tokens at n parsed some h f k = tt
fails_within Syntax tokens at n parsed some h f k =
    unlisted tokens h.parts (take n (drop at tokens)) (slice_split (separates CommaHere) (drop (n + 1) (drop at tokens))) some
    (h.left ∙ ap (λ l. h.parts ++ l) (split_found n CommaHere (drop at tokens) f)) k

pub fails_last : (error : ReadError) (tokens : List Token) (at : ℕ) (parsed : List (Vec TermStep Global)) → (tokens ≡ [] → ⊥) → IsListed tokens at parsed
    → IsFound None CommaHere (drop at tokens) → Parses (Err error) (drop at tokens) → ParsesList (Err error) tokens
fails_last Memory tokens at parsed some h f k = tt
fails_last Syntax tokens at parsed some h f k =
    unlisted tokens h.parts (drop at tokens) [] some (h.left ∙ ap (λ l. h.parts ++ l) (split_none (separates CommaHere) (drop at tokens) f)) k

pub lists_all : (tokens : List Token) (at : ℕ) (parsed new : List (Vec TermStep Global)) (steps : Vec TermStep Global) → IsListed tokens at parsed → IsFound None CommaHere (drop at tokens)
    → Parses (Ok steps) (drop at tokens) → new ≡ parsed ++ steps ∷ []
    → (parts : List (List Token)) × (trees : List TermTree) × AreReadTerms parts trees × (tokens ≡ with_commas parts) × AreSteps new trees
lists_all tokens at parsed new steps h f k e =
    let parts = h.parts ++ drop at tokens ∷ [] in
    let trees = parsed_trees (parsed ++ steps ∷ []) parts (parsed_more parsed h.parts steps (drop at tokens) h.done k) in
    let split : slice_split (separates CommaHere) tokens ≡ parts = h.left ∙ ap (λ l. h.parts ++ l) (split_none (separates CommaHere) (drop at tokens) f) in
    (parts, trees.0, trees.1, sym (rejoined tokens) ∙ ap with_commas split, subst (λ l. AreSteps l trees.0) (sym e) trees.2)

-- the turnstile stands in one place
pub no_turnstile : (tokens : List Token) → IsFound None TurnstileHere tokens → (sequent : List TermTree × TermTree) → ¬ (IsReadSequent tokens sequent)
no_turnstile tokens f sequent r = uncut (separates TurnstileHere) (with_commas r.parts) r.last (Mark Turnstile) refl (subst (λ l. Without (separates TurnstileHere) l) r.spelled f)

same_cut : (tokens : List Token) (n : ℕ) (sequent : List TermTree × TermTree) → IsFound (Some n) TurnstileHere tokens → (r : IsReadSequent tokens sequent)
    → (take n tokens ≡ with_commas r.parts) × (drop (n + 1) tokens ≡ r.last)
same_cut tokens n sequent f r =
    cut_same (separates TurnstileHere) (take n tokens) (with_commas r.parts) (drop (n + 1) tokens) r.last f.0 (Mark Turnstile) f.3 (list_without r.parts sequent.0 r.hypotheses) f.1 refl
    (sym (found_cuts n TurnstileHere tokens f) ∙ r.spelled)

pub fails_hypotheses : (error : ReadError) (tokens : List Token) (n : ℕ) → IsFound (Some n) TurnstileHere tokens → ParsesList (Err error) (take n tokens) → ParsesSequent (Err error) tokens
fails_hypotheses Memory tokens n f k = tt
fails_hypotheses Syntax tokens n f k = λ sequent r. k r.parts sequent.0 r.hypotheses (same_cut tokens n sequent f r).0

pub fails_conclusion : (error : ReadError) (tokens : List Token) (n : ℕ) → IsFound (Some n) TurnstileHere tokens → Parses (Err error) (drop (n + 1) tokens) → ParsesSequent (Err error) tokens
fails_conclusion Memory tokens n f k = tt
fails_conclusion Syntax tokens n f k = λ sequent r. k sequent.1 (subst (λ l. IsReadTerm l sequent.1) (sym (same_cut tokens n sequent f r).1) r.conclusion)

pub reads_sequent : (tokens : List Token) (n : ℕ) (parsed : Vec (Vec TermStep Global) Global) (last : Vec TermStep Global) → IsFound (Some n) TurnstileHere tokens
    → ParsesList (Ok parsed) (take n tokens) → Parses (Ok last) (drop (n + 1) tokens) → ParsesSequent (Ok (parsed, last)) tokens
reads_sequent tokens n parsed last f h k = (
  (h.1, k.0),
  record {
    parts = h.0;
    last = drop (n + 1) tokens;
    hypotheses = h.2;
    conclusion = k.1;
    spelled = found_cuts n TurnstileHere tokens f ∙ ap (λ t. take n tokens ++ t ∷ drop (n + 1) tokens) (is_turnstile f.0 f.1)
        ∙ ap (λ l. l ++ Mark Turnstile ∷ drop (n + 1) tokens) h.3;
  },
  h.4,
  k.2,
)

-- the same over the tokens of the code
pub front_here : (n : ℕ) (tokens : List TokenHere) → tokens_of (take n tokens) ≡ take n (tokens_of tokens)
front_here n tokens = sym (take-map token_of n tokens)

pub part_here : (at n : ℕ) (tokens : List TokenHere) → tokens_of (take ((at + n) - at) (drop at tokens)) ≡ take n (drop at (tokens_of tokens))
part_here at n tokens =
    let size : (at + n) - at ≡ n = omega arith in
    ap (λ k. tokens_of (take k (drop at tokens))) size ∙ front_here n (drop at tokens) ∙ ap (take n) (sym (drop-map token_of at tokens))

pub within_more : (tokens : List TokenHere) (at n : ℕ) → at ≤ length tokens → IsFound (Some n) CommaHere (drop at (tokens_of tokens)) → at + (n + 1) ≤ length tokens
within_more tokens at n h f =
    let here = found_within n CommaHere (drop at (tokens_of tokens)) f in
    let left : length (drop at (tokens_of tokens)) ≡ length (tokens_of tokens) - at = length-drop at (tokens_of tokens) in
    let all : length (tokens_of tokens) ≡ length tokens = length-map tokens token_of in
    omega (arith, here, left, all, h)

pub not_empty : (tokens : List TokenHere) → false ≡ (length tokens == 0) → tokens_of tokens ≡ [] → ⊥
not_empty [] e = λ h. cc
not_empty (token ∷ tokens) e = λ h. let bad : token_of token ∷ tokens_of tokens ≡ [] = h in cc

pub is_nil : (tokens : List TokenHere) → true ≡ (length tokens == 0) → tokens_of tokens ≡ []
is_nil tokens e = ap tokens_of (nil_from_length tokens (eqb-true (length tokens) 0 (sym e)))
