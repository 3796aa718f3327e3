-- What the texts of a review say.
use Rattle.std.specs.Prelude.{◌≡◌, ℕ, List, [], ◌∷◌, ◌++◌, Some, codes}
use Rattle.hol_model.specs.Terms.HolType.{HolType}
use Rattle.hol_model.specs.Terms.NamedTerm.{NamedTerm, type_of}
use Rattle.hol_model.specs.Terms.Nameless.{Nameless, image}
use Rattle.hol_model.specs.Logic.Theory.{Entry, definition, declaration_of_type, declaration_of_constant}
use Rattle.hol_model.specs.Goals.Goals.{Sequent}
use Rattle.hol_model.specs.Logs.LogState.{LogClaim}
use Rattle.hol_model.specs.Texts.Reading.{Scope}
use Rattle.hol_model.specs.Texts.Texts.{ReadsType, ReadsTerm}
use Rattle.hol_model.specs.Texts.SequentGrammar.{ReadsSequent}
use Rattle.hol_model.specs.Texts.SequentTexts.{IsReadableFormula}
use Rattle.hol_check_review.specs.declared.usual.Remark.{Remark}
use Rattle.hol_check_review.specs.Usual.{IsRemark, mark}

-- a formula that can be read back, with this image
pub record IsNamedFormula (scope : Scope) (shown : Nameless) (term : NamedTerm) : Type 0 where
  pub is_image : image term ≡ shown
  pub readable : IsReadableFormula scope term

-- one by one
abbrev pub AreNamedFormulas : Scope → List Nameless → List NamedTerm → Type 0
AreNamedFormulas scope [] [] = Unit {0}
AreNamedFormulas scope (shown ∷ more) (term ∷ terms) = IsNamedFormula scope shown term × AreNamedFormulas scope more terms
AreNamedFormulas scope _ _ = ⊥

-- the text is read as a sequent whose terms have the images that the sequent of a claim consists of
pub record IsClaimText (scope : Scope) (sequent : Sequent) (text : List ℕ) : Type 0 where
  pub hypotheses : List NamedTerm
  pub conclusion : NamedTerm
  pub reads : ReadsSequent scope text (hypotheses, conclusion)
  pub assumed : AreNamedFormulas scope sequent.hypotheses hypotheses
  pub concluded : IsNamedFormula scope sequent.conclusion conclusion

-- the text is read as a term of this type and with this image
pub record IsBodyText (scope : Scope) (ty : HolType) (body : Nameless) (text : List ℕ) : Type 0 where
  pub term : NamedTerm
  pub reads : ReadsTerm scope text term
  pub typed : type_of term ≡ Some ty
  pub is_image : image term ≡ body

-- the text is read as this type
abbrev pub IsTypeText : Scope → HolType → List ℕ → Type 0
IsTypeText scope ty text = ReadsType scope text ty

-- the text is the command that defines a constant by a body
pub record IsDefinitionText (scope : Scope) (name : List ℕ) (ty : HolType) (body : Nameless) (text : List ℕ) : Type 0 where
  pub quoted : List ℕ
  pub spelled : text ≡ codes "def " ++ (name ++ (codes " = `" ++ (quoted ++ codes "` ;;")))
  pub means : IsBodyText scope ty body quoted

-- the text is the command that declares a constant at a type
pub record IsDeclarationText (scope : Scope) (name : List ℕ) (ty : HolType) (text : List ℕ) : Type 0 where
  pub written : List ℕ
  pub spelled : text ≡ codes "newconst " ++ (name ++ (codes " : " ++ (written ++ codes " ;;")))
  pub means : IsTypeText scope ty written

-- the text is the command that makes the entry
abbrev pub IsEntryText : Scope → Entry → List ℕ → Type 0
IsEntryText scope (definition name ty body) text = IsDefinitionText scope name ty body text
IsEntryText scope (declaration_of_type name) text = text ≡ codes "newtype " ++ (name ++ codes " ;;")
IsEntryText scope (declaration_of_constant name ty) text = IsDeclarationText scope name ty text

-- the line is the name of a claim, `: `, and a text of its sequent
pub record IsClaimLine (scope : Scope) (claim : LogClaim) (line : List ℕ) : Type 0 where
  pub text : List ℕ
  pub means : IsClaimText scope claim.sequent text
  pub spelled : line ≡ claim.name ++ (codes ": " ++ text)

-- the line is the command that makes an entry, and what is remarked on it
pub record IsEntryLine (scope : Scope) (entry : Entry) (line : List ℕ) : Type 0 where
  pub text : List ℕ
  pub means : IsEntryText scope entry text
  pub remark : Remark
  pub remarked : IsRemark entry remark
  pub spelled : line ≡ text ++ mark remark
