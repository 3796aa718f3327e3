use Rattle.std.proofs.Common.{[], ◌∷◌, ◌++◌, map}
use Rattle.std.specs.List.{list_all}
use Rattle.hol_model.specs.Terms.HolType.{bool_type}
use Rattle.hol_model.specs.Terms.Measures.{nameless_within_limits}
use Rattle.hol_model.specs.Kernel.Instantiation.{instantiate_all}
use Rattle.hol_model.specs.Logic.Derivable.{without, nameless_equation}
use Rattle.hol_journal.proofs.GrowthLemmas.{journals-grow}
use Rattle.hol_equal.specs.Sequents.{instance_of}
use Rattle.hol_equal.proofs.StepLemmas.{passed_on}
use Rattle.hol_equal.proofs.Sizes.{past-room}
use Rattle.hol_equal.proofs.CutLemmas.{derives-where}
use Rattle.hol_equal.proofs.LemmaLemmas.{without-itself, premise-fits, derives-same, fifth, first_four}
use Rattle.hol_equal.proofs.lemma.by_fitting_lemma.Goals as goal

pub returns-in_err-stated-clause-derives : goal.returns-in_err-stated-clause-derives
returns-in_err-stated-clause-derives c types_pass terms_pass h p d shown premise =
    let typing = instantiate_all c.args.types.now in
    let both = instance_of c.args.types.now c.args.terms.now in
    let equivalence = nameless_equation bool_type (both p) (both d) in
    rw (passed_on c.from_residual.result c.in_err-stated.field-0.0 c.from_residual.ensures.1)
    (past-room c.in_err-stated.field-0.0 (list_all nameless_within_limits (map typing (d ∷ p ∷ []) ++ map both (d ∷ p ∷ [])))
    (list_all nameless_within_limits (typing d ∷ typing p ∷ both d ∷ both p ∷ equivalence ∷ []))
    (c.in_err-stated.ensures.derives types_pass terms_pass (p ∷ []) d shown)
    (first_four (nameless_within_limits (typing d)) (nameless_within_limits (typing p)) (nameless_within_limits (both d)) (nameless_within_limits (both p)) (nameless_within_limits equivalence)))

pub cut_known-requires-clause-first : goal.cut_known-requires-clause-first
cut_known-requires-clause-first c = journals-grow.stays c.args.recorder.now c.instance_known.new.recorder c.args.premise.now c.in_ok-stated.ensures.continues.grown c.requires.premise

pub returns-clause-derives : goal.returns-clause-derives
returns-clause-derives c types_pass terms_pass h p d shown premise =
    let typing = instantiate_all c.args.types.now in
    let both = instance_of c.args.types.now c.args.terms.now in
    let equivalence = nameless_equation bool_type (both p) (both d) in
    let stated = c.in_ok-stated.ensures.derives types_pass terms_pass (p ∷ []) d shown in
    derives-where (nameless_within_limits equivalence) (list_all nameless_within_limits (typing d ∷ typing p ∷ both d ∷ both p ∷ equivalence ∷ [])) c.cut_known.result h (both d)
    (fifth (nameless_within_limits (typing d)) (nameless_within_limits (typing p)) (nameless_within_limits (both d)) (nameless_within_limits (both p)) (nameless_within_limits equivalence))
    (derives-same (nameless_within_limits equivalence) c.cut_known.result (h ++ without (both p) (both p ∷ [])) h (both d) (without-itself h (both p))
    (c.cut_known.ensures.derives h (both p ∷ []) (both p) (both d) premise stated))

pub cut_known-requires-clause-fits : goal.cut_known-requires-clause-fits
cut_known-requires-clause-fits c =
    let fits = c.requires.fits in
    let both = instance_of c.args.types.now c.args.terms.now in
    premise-fits c.args.premise.now.theorem c.in_ok-stated.stated.theorem (both fits.hypothesis) (both fits.conclusion) fits.premise_is
    (c.in_ok-stated.ensures.derives c.requires.types c.requires.known (fits.hypothesis ∷ []) fits.conclusion fits.lemma_shows)
