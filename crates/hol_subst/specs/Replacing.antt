-- What a replacement makes of terms.
use Rattle.std.specs.Prelude.{List}
use Rattle.hol_model.specs.Terms.NamedTerm.{NamedTerm, Binder}
use Rattle.hol_model.specs.Terms.Nameless.{Nameless, image_under}
use Rattle.hol_subst.specs.Entries.{replaced}
use Rattle.hol_subst.specs.Replacements.{entries_of}
use Rattle.hol_subst.specs.declared.replacing.Replacing.{Replacing}

-- what becomes of a term that stands under binders
abbrev pub term_after : Replacing → List Binder → NamedTerm → Nameless
term_after replacing binders term = replaced (entries_of replacing.replacements.now) replacing.types.now (image_under binders term)
