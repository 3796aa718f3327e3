-- Whether a text begins with a name and a colon: theorems' lines do, no other line does.
use Rattle.std.proofs.Common.{◌≡◌, ℕ, zero, suc, ◌+◌, ◌<◌, ◌/◌, ◌%◌, List, [], ◌∷◌, ◌++◌, Bool, true, false, ◌||◌, ◌==◌, if◌then◌else◌, refl, ap, ◌∙◌, append_assoc, codes, decimal, Option, Some}
use Rattle.std.proofs.Common.{None, arith}
use Rattle.std.specs.Prelude.{nat_eq, length}
use Rattle.std.specs.Fmt.{digits, digits_onto, digit_glyph}
use Rattle.hol_model.specs.Terms.Name.{is_capital, is_small, continues_name, all_continue, is_identifier}
use Rattle.hol_model.specs.Terms.HolType.{HolType}
use Rattle.hol_model.specs.Terms.NamedTerm.{NamedTerm, variable, constant, combination, abstraction}
use Rattle.hol_model.specs.Texts.Token.{symbol_text}
use Rattle.hol_model.specs.Texts.TermGrammar.{Infix, Binder, Lambda, ForAll, Exists, Choice, Bare, Variable, Constant, TermTree, Leaf, Apply, Not, Join, Bind, infix_level, infix_symbol, level}
use Rattle.hol_model.specs.Texts.TermGrammar.{Enclosed as EnclosedTerm}
use Rattle.hol_model.specs.Texts.Reading.{Scope, is_closed_type}
use Rattle.hol_model.specs.Texts.Printing.{enclose, typed_constant, bare_tree, constant_tree, infix_of, Prefix, NotPrefix, BinderPrefix, NoPrefix, prefix_of, binder_tree, prefix_tree, infix_tree}
use Rattle.hol_model.specs.Texts.Printing.{term_tree}
use Rattle.hol_model.specs.Texts.Texts.{term_bytes, further_bytes, text_of_term, text_of_goal}
use Rattle.hol_model_sessions.specs.Replies.{count_text}
use Rattle.hol_model.specs.Goals.Goals.{Goal}
use Rattle.std.specs.Prelude.{nat_le}
use Rattle.hol_model.proofs.Tests.{first_of_both, second_of_both}

-- what stands behind the bytes of names at the front
abbrev pub behind_name : List ℕ → List ℕ
behind_name [] = []
behind_name (byte ∷ bytes) = if continues_name byte then behind_name bytes else byte ∷ bytes

abbrev first_byte : List ℕ → ℕ
first_byte [] = 0
first_byte (byte ∷ bytes) = byte

-- a colon is the first byte that is of no name
abbrev pub has_colon : List ℕ → Bool
has_colon text = nat_eq (first_byte (behind_name text)) 58

behind-continued : (bytes rest : List ℕ) → all_continue bytes ≡ true → behind_name (bytes ++ rest) ≡ behind_name rest
behind-continued [] rest all = refl
behind-continued (byte ∷ bytes) rest all =
    let first : continues_name byte ≡ true = first_of_both (continues_name byte) (all_continue bytes) all in
    rw first (behind-continued bytes rest (second_of_both (continues_name byte) (all_continue bytes) all))

behind-identifier : (name rest : List ℕ) → is_identifier name ≡ true → behind_name (name ++ rest) ≡ behind_name rest
behind-identifier [] rest is = refl
behind-identifier (byte ∷ bytes) rest is =
    let letter : (is_capital byte || is_small byte) ≡ true = first_of_both (is_capital byte || is_small byte) (all_continue bytes) is in
    let first : continues_name byte ≡ true = rw letter refl in
    rw first (behind-continued bytes rest (second_of_both (is_capital byte || is_small byte) (all_continue bytes) is))

-- ---- theorems

pub theorem-colon : (name rest : List ℕ) → is_identifier name ≡ true → has_colon (name ++ codes ": " ++ rest) ≡ true
theorem-colon name rest is =
    ap has_colon (append_assoc name (codes ": ") rest) ∙ ap (λ (text : List ℕ). nat_eq (first_byte text) 58) (behind-identifier name (58 ∷ (32 ∷ rest)) is)

-- ---- texts of terms

-- the name that the text of a tree begins with, if any, is an identifier
abbrev BeginsWell : TermTree → Type 0
BeginsWell (Leaf (Bare name)) = is_identifier name ≡ true
BeginsWell (Leaf (Variable name ty)) = Unit {0}
BeginsWell (Leaf (Constant name ty)) = Unit {0}
BeginsWell (EnclosedTerm tree) = Unit {0}
BeginsWell (Apply function argument) = BeginsWell function
BeginsWell (Not tree) = Unit {0}
BeginsWell (Join infix' left right) = BeginsWell left
BeginsWell (Bind binder name ty body) = Unit {0}

enclose-begins : (n : ℕ) (tree : TermTree) → BeginsWell tree → BeginsWell (enclose n tree)
enclose-begins n tree begins = go (nat_le n (level tree))
  where
    go : (test : Bool) → BeginsWell (if test then tree else EnclosedTerm tree)
    go true = begins
    go false = tt

bare-begins : (generic : Option HolType) (name : List ℕ) (ty : HolType) → is_identifier name ≡ true → BeginsWell (bare_tree generic None name ty)
bare-begins None name ty is = tt
bare-begins (Some generic) name ty is = go (is_closed_type generic)
  where
    go : (test : Bool) → BeginsWell (if test then Leaf (Bare name) else typed_constant name ty)
    go true = is
    go false = tt

constant-begins : (scope : Scope) (name : List ℕ) (ty : HolType) → BeginsWell (constant_tree scope [] name ty)
constant-begins scope name ty = go (is_identifier name) refl
  where
    go : (test : Bool) → is_identifier name ≡ test → BeginsWell (if test then bare_tree (scope.generic_type name) None name ty else typed_constant name ty)
    go true is = bare-begins (scope.generic_type name) name ty is
    go false is = tt

binder-begins : (binder : Binder) (function argument : TermTree) → BeginsWell function → BeginsWell (binder_tree binder function argument)
binder-begins binder function (Bind Lambda name ty body) begins = tt
binder-begins binder function (Bind ForAll name ty body) begins = enclose-begins 16 function begins
binder-begins binder function (Bind Exists name ty body) begins = enclose-begins 16 function begins
binder-begins binder function (Bind Choice name ty body) begins = enclose-begins 16 function begins
binder-begins binder function (Leaf atom) begins = enclose-begins 16 function begins
binder-begins binder function (EnclosedTerm tree) begins = enclose-begins 16 function begins
binder-begins binder function (Apply f a) begins = enclose-begins 16 function begins
binder-begins binder function (Not tree) begins = enclose-begins 16 function begins
binder-begins binder function (Join infix' left right) begins = enclose-begins 16 function begins

prefix-begins : (prefix : Prefix) (function argument : TermTree) → BeginsWell function → BeginsWell (prefix_tree prefix function argument)
prefix-begins NotPrefix function argument begins = tt
prefix-begins (BinderPrefix binder) function argument begins = binder-begins binder function argument begins
prefix-begins NoPrefix function argument begins = enclose-begins 16 function begins

infix-begins : (infix' : Option Infix) (function left right : TermTree) → BeginsWell function → BeginsWell left → BeginsWell (infix_tree infix' function left right)
infix-begins (Some infix') function left right begins left_begins = enclose-begins (infix_level infix' + 1) left left_begins
infix-begins None function left right begins left_begins = enclose-begins 16 function begins

term-begins : (scope : Scope) (term : NamedTerm) → BeginsWell (term_tree scope [] term)
term-begins scope (variable name ty) = tt
term-begins scope (constant name ty) = constant-begins scope name ty
term-begins scope (abstraction name ty body) = tt
term-begins scope (combination (constant name ty) a) = prefix-begins (prefix_of name ty) (constant_tree scope [] name ty) (term_tree scope [] a) (constant-begins scope name ty)
term-begins scope (combination (combination (constant name ty) a) b) =
    infix-begins (infix_of name ty) (prefix_tree (prefix_of name ty) (constant_tree scope [] name ty) (term_tree scope [] a)) (term_tree scope [] a) (term_tree scope [] b)
    (prefix-begins (prefix_of name ty) (constant_tree scope [] name ty) (term_tree scope [] a) (constant-begins scope name ty)) (term-begins scope a)
term-begins scope (combination f a) = enclose-begins 16 (term_tree scope [] f) (term-begins scope f)

-- no colon stands behind the name that the text of a tree begins with, where none does behind the text
tree-no_colon : (tree : TermTree) (rest : List ℕ) → BeginsWell tree → has_colon rest ≡ false → has_colon (term_bytes tree rest) ≡ false
tree-no_colon (Leaf (Bare name)) rest begins more = ap (λ (text : List ℕ). nat_eq (first_byte text) 58) (behind-identifier name rest begins) ∙ more
tree-no_colon (Leaf (Variable name ty)) rest begins more = refl
tree-no_colon (Leaf (Constant name ty)) rest begins more = refl
tree-no_colon (EnclosedTerm tree) rest begins more = refl
tree-no_colon (Apply function argument) rest begins more = tree-no_colon function (32 ∷ term_bytes argument rest) begins refl
tree-no_colon (Not tree) rest begins more = refl
tree-no_colon (Join infix' left right) rest begins more = tree-no_colon left (32 ∷ (symbol_text (infix_symbol infix') ++ 32 ∷ term_bytes right rest)) begins refl
tree-no_colon (Bind Lambda name ty body) rest begins more = refl
tree-no_colon (Bind ForAll name ty body) rest begins more = refl
tree-no_colon (Bind Exists name ty body) rest begins more = refl
tree-no_colon (Bind Choice name ty body) rest begins more = refl

-- ---- lines of goals

line-no_colon : (text : List ℕ) → has_colon text ≡ false → has_colon (text ++ codes "\n") ≡ false
line-no_colon [] none = refl
line-no_colon (byte ∷ bytes) none = go (continues_name byte) (λ rest. line-no_colon bytes rest) none
  where
    go : (test : Bool) → (has_colon bytes ≡ false → has_colon (bytes ++ codes "\n") ≡ false) → nat_eq (first_byte (if test then behind_name bytes else byte ∷ bytes)) 58 ≡ false
        → nat_eq (first_byte (if test then behind_name (bytes ++ codes "\n") else byte ∷ (bytes ++ codes "\n"))) 58 ≡ false
    go true more none = more none
    go false more none = none

further-no_colon : (scope : Scope) (terms : List NamedTerm) (rest : List ℕ) → has_colon rest ≡ false → has_colon (further_bytes scope terms rest) ≡ false
further-no_colon scope [] rest none = none
further-no_colon scope (term ∷ terms) rest none = refl

pub goal-no_colon : (scope : Scope) (assumptions : List NamedTerm) (target : NamedTerm) → has_colon (text_of_goal scope assumptions target ++ codes "\n") ≡ false
goal-no_colon scope [] target = refl
goal-no_colon scope (term ∷ terms) target =
    let turned : List ℕ = 63 ∷ 45 ∷ 32 ∷ text_of_term scope target in
    line-no_colon (text_of_goal scope (term ∷ terms) target)
    (tree-no_colon (term_tree scope [] term) (further_bytes scope terms (32 ∷ turned)) (term-begins scope term) (further-no_colon scope terms (32 ∷ turned) refl))

-- ---- numbers

pub digit-continues : (d : ℕ) → d < 10 → continues_name (digit_glyph false d) ≡ true
digit-continues zero below = refl
digit-continues (suc zero) below = refl
digit-continues (suc (suc zero)) below = refl
digit-continues (suc (suc (suc zero))) below = refl
digit-continues (suc (suc (suc (suc zero)))) below = refl
digit-continues (suc (suc (suc (suc (suc zero))))) below = refl
digit-continues (suc (suc (suc (suc (suc (suc zero)))))) below = refl
digit-continues (suc (suc (suc (suc (suc (suc (suc zero))))))) below = refl
digit-continues (suc (suc (suc (suc (suc (suc (suc (suc zero)))))))) below = refl
digit-continues (suc (suc (suc (suc (suc (suc (suc (suc (suc zero))))))))) below = refl
digit-continues (suc (suc (suc (suc (suc (suc (suc (suc (suc (suc d)))))))))) below = absurd (omega (arith, below))

digits-behind : (k n : ℕ) (acc rest : List ℕ) → behind_name (digits_onto k 10 false n acc ++ rest) ≡ behind_name (acc ++ rest)
digits-behind zero n acc rest = refl
digits-behind (suc k) n acc rest =
    let glyph : continues_name (digit_glyph false (n % 10)) ≡ true = digit-continues (n % 10) (omega arith) in
    let one : behind_name (digit_glyph false (n % 10) ∷ acc ++ rest) ≡ behind_name (acc ++ rest) = rw glyph refl in
    go (n / 10 == 0) one (digits-behind k (n / 10) (digit_glyph false (n % 10) ∷ acc) rest)
  where
    go : (test : Bool) → behind_name (digit_glyph false (n % 10) ∷ acc ++ rest) ≡ behind_name (acc ++ rest)
        → behind_name (digits_onto k 10 false (n / 10) (digit_glyph false (n % 10) ∷ acc) ++ rest) ≡ behind_name (digit_glyph false (n % 10) ∷ acc ++ rest)
        → behind_name ((if test then digit_glyph false (n % 10) ∷ acc else digits_onto k 10 false (n / 10) (digit_glyph false (n % 10) ∷ acc)) ++ rest) ≡ behind_name (acc ++ rest)
    go true one more = one
    go false one more = more ∙ one

decimal-behind : (n : ℕ) (rest : List ℕ) → behind_name (decimal n ++ rest) ≡ behind_name rest
unfolding digits
decimal-behind n rest = digits-behind 64 n [] rest

pub count-no_colon : (goals : List Goal) → has_colon (count_text goals) ≡ false
count-no_colon [] = refl
count-no_colon (goal ∷ []) = refl
count-no_colon (goal ∷ next ∷ goals) =
    ap (λ (text : List ℕ). nat_eq (first_byte text) 58) (decimal-behind (length (goal ∷ next ∷ goals)) (codes " subgoals\n"))
