use Rattle.hol_conv.proofs.converted.of_function.Goals as goal

pub of_parts-requires-clause-second : goal.of_parts-requires-clause-second
of_parts-requires-clause-second c = c.in_ok-same.ensures.answer c.args.library.now
