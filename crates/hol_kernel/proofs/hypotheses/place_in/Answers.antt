use Rattle.std.proofs.Common.{rules}
use Rattle.std.proofs.lemmas.Fn.{always_returns_same}
use Rattle.hol_model.specs.Terms.NamedTerm.{NamedTerm}
use Rattle.hol_model.specs.Terms.Nameless.{image, nameless_cmp}
use Rattle.hol_kernel.proofs.PlaceLemmas.{place-searched}
use Rattle.hol_kernel.proofs.hypotheses.place_in.Goals as goal

pub returns-clause-place : goal.returns-clause-place
returns-clause-place c =
    place-searched c.args.hypotheses.now c.args.term.now c.binary_search_by.result c.requires c.binary_search_by.ensures.bound
    (c.binary_search_by.ensures.position (λ (y : NamedTerm). nameless_cmp (image y) (image c.args.term.now)) (always_returns_same _ _ _ (λ a r f k. search rules)))
