-- Grammars, readings and texts.
pub mod Token
pub mod Lexing
pub mod TypeGrammar
pub mod TermGrammar
pub mod Reading
pub mod Printing
pub mod SequentGrammar
pub mod Texts
pub mod SequentTexts
pub mod KnownText
pub mod Scopes
