use Rattle.std.proofs.Common.{[], ◌∷◌, ◌++◌, reverse, ap, ◌∙◌}
use Rattle.hol_tactic_grammar.specs.declared.conversions.Open.{Open}
use Rattle.hol_tactic_grammar.specs.declared.conversions.Open.TheVariants.{Prefixed}
use Rattle.hol_tactic_grammar.proofs.OpenConversionLemmas.{newest, prefixed-closed}
use Rattle.hol_tactic_grammar.proofs.conversions.close.Goals as goal

pub returns-in-Ok : goal.returns-in-Ok
returns-in-Ok c = λ start limit held.
    let places = c.pop.new.self.items in
    prefixed-closed c.in-Some-Prefixed.prefix c.args.unit c.in-Ok.conv (reverse c.args.places.now.items) (reverse places) c.args.next start limit c.args.tokens.now
    (newest places c.args.places.now.items (Prefixed c.in-Some-Prefixed.prefix) (c.in-Some-Prefixed.ensures.items ∙ ap (λ (place : Open). places ++ place ∷ []) c.in-Some-Prefixed.field-0-is))
    c.in-Ok.ensures.ok held
