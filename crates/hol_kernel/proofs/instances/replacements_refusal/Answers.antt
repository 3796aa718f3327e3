use Rattle.std.proofs.Common.{sym, ◌∙◌, Some}
use Rattle.hol_model.specs.declared.fault.Fault.TheVariants.{UnknownType, UnknownConst}
use Rattle.hol_kernel.proofs.KnownLemmas.{known-refusal, unknown-refusal}
use Rattle.hol_kernel.proofs.instances.replacements_refusal.Goals as goal

pub returns-then-all_known : goal.returns-then-all_known
returns-then-all_known c =
    let replaces = sym c.replaces_variables.ensures ∙ c.if-not-replaces_variables.false in
    let keeps = sym c.keeps_types.ensures ∙ c.if-not-keeps_types.false in
    let known = sym c.all_known.ensures ∙ c.if-all_known.true in
    rw (replaces, keeps) (known-refusal c.args.theory.now c.args.theta.now (Some UnknownType) (Some UnknownConst) known)

pub returns-else-not-all_know_constants : goal.returns-else-not-all_know_constants
returns-else-not-all_know_constants c =
    let replaces = sym c.replaces_variables.ensures ∙ c.if-not-replaces_variables.false in
    let keeps = sym c.keeps_types.ensures ∙ c.if-not-keeps_types.false in
    let known = sym c.all_known.ensures ∙ c.if-all_known.false in
    let types = sym c.all_know_types.ensures ∙ c.if-not-all_know_types.false in
    let constants = sym c.all_know_constants.ensures ∙ c.if-not-all_know_constants.false in
    rw (replaces, keeps) (unknown-refusal c.args.theory.now c.args.theta.now (Some UnknownType) (Some UnknownConst) known types constants)
