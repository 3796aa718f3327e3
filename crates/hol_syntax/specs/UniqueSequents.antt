-- The statement that a text is one sequent's or none's.
use Rattle.std.specs.Prelude.{◌≡◌, ℕ, List}
use Rattle.hol_model.specs.Texts.TermGrammar.{TermTree}
use Rattle.hol_model.specs.Texts.SequentGrammar.{SpellsSequent}

-- A text is spelled as one tree of a sequent.
abbrev pub SequentsAreUnambiguous : Type 0
SequentsAreUnambiguous = (text : List ℕ) (a b : List TermTree × TermTree) → SpellsSequent text a → SpellsSequent text b → a ≡ b
