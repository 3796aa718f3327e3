use Rattle.std.proofs.Common.{◌∙◌, ap}
use Rattle.std.specs.List.{list_any}
use Rattle.hol_model.specs.Kernel.Theorem.{are_alpha_equivalent}
use Rattle.hol_refine.proofs.Among.{among_images}
use Rattle.hol_refine.proofs.assumed.is_assumed.Goals as goal

pub returns : goal.returns
returns c =
    c.is_among.ensures ∙ ap (list_any (λ other. are_alpha_equivalent c.args.term.now other)) c.deref.ensures.value
    ∙ among_images c.args.term.now c.args.goal.now.asms.items
