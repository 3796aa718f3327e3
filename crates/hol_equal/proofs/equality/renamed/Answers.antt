use Rattle.std.proofs.Common.{[], ◌∙◌, ap, sym}
use Rattle.hol_model.specs.Terms.HolType.{bool_type}
use Rattle.hol_model.specs.Terms.Nameless.{image}
use Rattle.hol_model.specs.Terms.Measures.{nameless_within_limits}
use Rattle.hol_model.specs.Logic.Derivable.{nameless_equation}
use Rattle.hol_model.proofs.Terms.Images.{image-equation}
use Rattle.hol_journal.proofs.GrowthLemmas.{journals-grow}
use Rattle.hol_equal.proofs.CutLemmas.{itself-names, given-derives}
use Rattle.hol_equal.proofs.StepLemmas.{formula-known, passed_on}
use Rattle.hol_equal.proofs.equality.renamed.Goals as goal

pub refl_known-requires : goal.refl_known-requires
refl_known-requires c = (formula-known c.args.recorder.now.theory c.args.term.now c.requires.formula).known

pub returns-in_err-reflexive-clause-derives : goal.returns-in_err-reflexive-clause-derives
returns-in_err-reflexive-clause-derives c h shown =
    rw (passed_on c.from_residual.result c.in_err-reflexive.field-0.0 c.from_residual.ensures.1)
    (c.in_err-reflexive.ensures.derives bool_type c.requires.formula.known)

pub eq_mp_known-requires-clause-second : goal.eq_mp_known-requires-clause-second
eq_mp_known-requires-clause-second c = journals-grow.stays c.args.recorder.now c.refl_known.new.recorder c.args.premise.now c.in_ok-reflexive.ensures.continues.grown c.requires.premise

pub returns-clause-names : goal.returns-clause-names
returns-clause-names c =
    itself-names c.eq_mp_known.result c.in_ok-reflexive.reflexive.theorem.conclusion c.args.term.now bool_type c.requires.formula.typed c.in_ok-reflexive.ensures.names c.eq_mp_known.ensures.names

pub returns-clause-derives : goal.returns-clause-derives
returns-clause-derives c h shown =
    let t = image c.args.term.now in
    given-derives (nameless_within_limits (nameless_equation bool_type t t)) c.eq_mp_known.result h t (c.eq_mp_known.ensures.gives [] h t t (c.in_ok-reflexive.ensures.derives bool_type c.requires.formula.known) shown)

pub eq_mp_known-requires-clause-fits : goal.eq_mp_known-requires-clause-fits
eq_mp_known-requires-clause-fits c =
    let t = c.args.term.now in
    record {
      right = image t;
      first_is = ap image c.in_ok-reflexive.ensures.names ∙ image-equation t t bool_type c.requires.formula.typed ∙ (λ i. nameless_equation bool_type (sym c.requires.same i) (image t));
    }
