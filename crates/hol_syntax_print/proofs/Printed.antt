-- What the parts of the printer put at the end of a text is the text of the tree.
use Rattle.std.proofs.Common.{OnOk, Result, Ok, Err, inl, inr, ◌⊎◌, ◌≤◌, ◌<◌, arith, ◌≡◌, ℕ, Bool, true, false, List, [], ◌++◌, refl, sym, ap, ◌∙◌, if◌then◌else◌, codes}
use Rattle.std.proofs.Common.{nat_le, ◌||◌}
use Rattle.std.specs.Str.{bytes_eq}
use Rattle.std.proofs.lemmas.Slice.Eq.{bytes_eq-Decides}
use Rattle.std.proofs.lemmas.List.{append-nil}
use Rattle.std.proofs.lemmas.Bool.Decides.{leb_tells}
use Rattle.hol_model.specs.Terms.Name.{is_identifier, is_symbol, is_constant_name}
use Rattle.hol_model.specs.Texts.TermGrammar.{TermTree, Enclosed, level}
use Rattle.hol_model.specs.Texts.Token.{Token, Name, Mark, token_text}
use Rattle.hol_model.specs.declared.symbol.Symbol.TheVariants.{Implies, And, Or, Equal, Exclamation, Question, At, Tilde}
use Rattle.hol_model.specs.Texts.Printing.{enclose, name_token}
use Rattle.hol_syntax_print.specs.Output.{Appends}

pub joined : {a b c : List ℕ} {f g : List ℕ → List ℕ} → Appends a b f → Appends b c g → Appends a c (λ rest. f (g rest))
joined {f} {g} h k = record { appended = λ rest. k.appended rest ∙ h.appended (g rest) }

-- what is put at the end of a text, with nothing behind it
pub appended : (old new : List ℕ) (f : List ℕ → List ℕ) → Appends old new f → new ≡ old ++ f []
appended old new f h = sym (append-nil new) ∙ h.appended []

-- what is put at the end of no text
pub from_nothing : (old new : List ℕ) (f : List ℕ → List ℕ) → old ≡ [] → Appends old new f → new ≡ f []
from_nothing old new f e h = appended old new f h ∙ ap (λ o. o ++ f []) e

-- one of the symbols, or a later one
named_or : (name : List ℕ) (b : Bool) (text : List ℕ) (t u : Token) (more : Bool) → bytes_eq name text ≡ b → token_text t ≡ text
    → b || more ≡ true → (more ≡ true → token_text u ≡ name) → token_text (if b then t else u) ≡ name
named_or name true text t u more e s h later = s ∙ sym ((bytes_eq-Decides name text).0 e)
named_or name false text t u more e s h later = later h

symbol_named : (name : List ℕ) → is_symbol name ≡ true → token_text (if bytes_eq name (codes "=") then Mark Equal else
    (if bytes_eq name (codes "@") then Mark At else
    (if bytes_eq name (codes "/\\") then Mark And else
    (if bytes_eq name (codes "\\/") then Mark Or else
    (if bytes_eq name (codes "==>") then Mark Implies else
    (if bytes_eq name (codes "~") then Mark Tilde else
    (if bytes_eq name (codes "!") then Mark Exclamation else Mark Question))))))) ≡ name
symbol_named name h =
    named_or name _ (codes "=") (Mark Equal) _ _ refl refl h (λ h.
    named_or name _ (codes "@") (Mark At) _ _ refl refl h (λ h.
    named_or name _ (codes "/\\") (Mark And) _ _ refl refl h (λ h.
    named_or name _ (codes "\\/") (Mark Or) _ _ refl refl h (λ h.
    named_or name _ (codes "==>") (Mark Implies) _ _ refl refl h (λ h.
    named_or name _ (codes "~") (Mark Tilde) _ _ refl refl h (λ h.
    named_or name _ (codes "!") (Mark Exclamation) (Mark Question) _ refl refl h (λ h.
    last (bytes_eq name (codes "?")) refl h)))))))
  where
    last : (b : Bool) → bytes_eq name (codes "?") ≡ b → b || false ≡ true → token_text (Mark Question) ≡ name
    last true e h = sym ((bytes_eq-Decides name (codes "?")).0 e)
    last false e h = absurd (let bad : false ≡ true = h in cc)

identifier_or : (b : Bool) (name : List ℕ) (other : Token) (more : Bool) → b || more ≡ true → (more ≡ true → token_text other ≡ name)
    → token_text (if b then Name name else other) ≡ name
identifier_or true name other more h later = refl
identifier_or false name other more h later = later h

-- the token that names a constant is spelled as its name
pub token_named : (name : List ℕ) → is_constant_name name ≡ true → token_text (name_token name) ≡ name
token_named name h = identifier_or (is_identifier name) name _ (is_symbol name) h (symbol_named name)

-- an answer that holds where another does
pub on_ok : {P Q E : Type 0} (result : Result (Unit {0}) E) → OnOk result P → (P → Q) → OnOk result Q
on_ok (Ok x) h f = f h
on_ok (Err error) h f = tt

-- every tree stands where no level is asked for
pub enclose_none : (tree : TermTree) → enclose 0 tree ≡ tree
enclose_none tree = ap (λ b. if b then tree else Enclosed tree) (go (nat_le 0 (level tree)) (leb_tells 0 (level tree)))
  where
    go : (b : Bool) → ((b ≡ true) × (0 ≤ level tree)) ⊎ ((b ≡ false) × (level tree < 0)) → b ≡ true
    go true h = refl
    go false h = elim h [ inl x ↦ x.0 | inr x ↦ absurd (omega (arith, x.1)) ]
