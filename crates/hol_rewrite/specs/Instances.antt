-- What a match replaces.
use Rattle.hol_model.specs.Rewrites.Rewriting.{Replacements}
use Rattle.hol_match.specs.declared.matching.Match.{Match}

abbrev pub replacements_of : Match → Replacements
replacements_of found = record { types = found.types.items; terms = found.terms.items }
