use Rattle.hol_conv.proofs.converted.of_argument.Goals as goal

pub of_parts-requires-clause-first : goal.of_parts-requires-clause-first
of_parts-requires-clause-first c = c.in_ok-same.ensures.answer c.args.library.now
