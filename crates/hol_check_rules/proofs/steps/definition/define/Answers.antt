use Rattle.std.proofs.Common.{sym, ◌∙◌, ap}
use Rattle.hol_model.specs.Terms.Measures.{nameless_within_limits}
use Rattle.std.specs.Prelude.{Some}
use Rattle.hol_check_terms.specs.Terms.{name_at, term_at}
use Rattle.hol_check_rules.proofs.AxiomLemmas.{grown-twice}
use Rattle.hol_check_rules.proofs.DefinitionLemmas.{definition-fits, definition-large, definition-is, definable-is, past-only}
use Rattle.hol_check_rules.proofs.steps.definition.define.Goals as goal
use Rattle.hol_check_terms.proofs.GrowthLemmas.{type-place, IsGrown-trans}

pub returns-in-Ok-clause-defined : goal.returns-in-Ok-clause-defined
returns-in-Ok-clause-defined c =
    let t0 = c.args.terms.now in
    let t1 = c.fitting_type.new.terms in
    let t3 = c.constant.new.self in
    let first = c.fitting_type.ensures.grows in
    let second = c.constant.ensures.grows in
    let is = definition-is t0 t1 t3 first second c.args.name c.in_ok-ty.ty c.in_ok-constant.constant c.args.body c.requires.name c.requires.body c.in_ok-ty.ensures.number
    c.in_ok-constant.ensures.number in
    let definable = sym (definable-is t0 t1 t3 first second c.args.name c.in_ok-ty.ty c.in_ok-constant.constant c.args.body c.requires.name c.requires.body c.in_ok-ty.ensures.number
    c.in_ok-constant.ensures.number)
    ∙ (sym c.in_ok-definable.ensures.definable ∙ c.if-not-definable.false) in
    let t4 = c.equation_of.new.terms in (
      definition-fits (name_at t0.names c.args.name) (term_at t0.terms c.args.body) definable (sym (ap nameless_within_limits is) ∙ c.in-Ok.ensures.formed.fits),
      type-place t1.types t4.types c.in_ok-ty.ty _ (IsGrown-trans t1 t3 t4 second c.equation_of.ensures.grows).types c.in_ok-ty.ensures.number,
      c.in-Ok.ensures.formed.number ∙ ap Some is,
    )

pub returns-in-Ok-clause-grows : goal.returns-in-Ok-clause-grows
returns-in-Ok-clause-grows c = grown-twice c.args.terms.now c.fitting_type.new.terms c.constant.new.self c.equation_of.new.terms c.fitting_type.ensures.grows c.constant.ensures.grows
    c.equation_of.ensures.grows

pub returns-in-Err-TooLarge-clause-defined : goal.returns-in-Err-TooLarge-clause-defined
returns-in-Err-TooLarge-clause-defined c =
    let t0 = c.args.terms.now in
    let t1 = c.fitting_type.new.terms in
    let t3 = c.constant.new.self in
    let first = c.fitting_type.ensures.grows in
    let second = c.constant.ensures.grows in
    let is = definition-is t0 t1 t3 first second c.args.name c.in_ok-ty.ty c.in_ok-constant.constant c.args.body c.requires.name c.requires.body c.in_ok-ty.ensures.number
    c.in_ok-constant.ensures.number in
    let definable = sym (definable-is t0 t1 t3 first second c.args.name c.in_ok-ty.ty c.in_ok-constant.constant c.args.body c.requires.name c.requires.body c.in_ok-ty.ensures.number
    c.in_ok-constant.ensures.number)
    ∙ (sym c.in_ok-definable.ensures.definable ∙ c.if-not-definable.false) in
    let formed = rw c.in-Err-TooLarge.field-0-is at c.in-Err-TooLarge.ensures.formed in
    definition-large (name_at t0.names c.args.name) (term_at t0.terms c.args.body) definable (sym (ap nameless_within_limits is) ∙ past-only _ _ formed)
