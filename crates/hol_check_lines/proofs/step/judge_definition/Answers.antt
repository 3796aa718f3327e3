use Rattle.std.proofs.Common.{sym, ◌∙◌, subst}
use Rattle.hol_check_terms.specs.Terms.{name_at, term_at}
use Rattle.hol_check_rules.specs.State.{theory_in}
use Rattle.hol_check_rules.specs.Steps.{definition_step}
use Rattle.hol_check_rules.specs.Definitions.{IsDefined}
use Rattle.std.proofs.lemmas.Result.{err_from_is_err_and}
use Rattle.hol_check_terms.proofs.GrowthLemmas.{IsGrown-trans}
use Rattle.hol_check_terms.proofs.TableLemmas.{is_within}
use Rattle.hol_check_rules.proofs.StateLemmas.{fitting-grown}
use Rattle.hol_check_lines.proofs.JudgedDefinitions.{refused-definition, full-definition, new-definition}
use Rattle.hol_check_lines.specs.NewNames.{FindsNewName}
use Rattle.hol_check_lines.proofs.step.judge_definition.Goals as goal

pub define-requires-clause-name : goal.define-requires-clause-name
define-requires-clause-name c = is_within c.new_name.new.terms.names c.in-Some-2.number _
    (subst (FindsNewName c.is_constant_name-is_legal.result (theory_in c.args.terms.now c.args.contents.now.entries.items) c.args.name.now
    c.new_name.new.terms.names) c.in-Some-2.is c.in_ok-number.ensures.found).named

pub define-requires-clause-body : goal.define-requires-clause-body
define-requires-clause-body c =
    fitting-grown c.args.terms.now c.new_name.new.terms c.in_ok-number.ensures.grows c.in-Some.body
    (c.in-Some.ensures c.args.terms.now c.requires.contents c.requires.made).fits

pub returns-in_err-given : goal.returns-in_err-given
returns-in_err-given c =
    let p = err_from_is_err_and c.from_residual-in_err-given.result c.from_residual-in_err-given.ensures.1 in
    rw (p.1, p.2)
    (record {
      judged = tt;
      refused = c.in_err-given.ensures.refused;
      grows = IsGrown-trans c.args.terms.now c.new_name.new.terms c.define.new.terms c.in_ok-number.ensures.grows c.define.ensures.grows;
    })

pub returns-in-Err : goal.returns-in-Err
returns-in-Err c =
    let t0 = c.args.terms.now in
    let t1 = c.new_name.new.terms in
    let named = c.in-Some.ensures t0 c.requires.contents c.requires.made in
    let found = subst (FindsNewName c.is_constant_name-is_legal.result (theory_in c.args.terms.now c.args.contents.now.entries.items) c.args.name.now
    c.new_name.new.terms.names) c.in-Some-2.is c.in_ok-number.ensures.found in
    let legal = sym c.is_constant_name-is_legal.ensures ∙ found.legal in
    let made = definition_step (name_at t1.names c.in-Some-2.number) (term_at t1.terms c.in-Some.body) in
    let body = term_at t1.terms c.in-Some.body in
    let defined = subst (IsDefined made body c.define.new.terms) c.in-Err.is c.in_ok-given.ensures.defined in
    refused-definition t0 t1 c.args.contents.now c.requires.contents c.args.name.now c.in-Some-2.number c.args.body c.in-Some.body c.in_ok-number.ensures.grows
    found.named named legal
    c.define.new.terms c.define.ensures.grows found.new c.in-Err.cause defined

pub returns-then-is_full : goal.returns-then-is_full
returns-then-is_full c =
    let t0 = c.args.terms.now in
    let t1 = c.new_name.new.terms in
    let named = c.in-Some.ensures t0 c.requires.contents c.requires.made in
    let found = subst (FindsNewName c.is_constant_name-is_legal.result (theory_in c.args.terms.now c.args.contents.now.entries.items) c.args.name.now
    c.new_name.new.terms.names) c.in-Some-2.is c.in_ok-number.ensures.found in
    let legal = sym c.is_constant_name-is_legal.ensures ∙ found.legal in
    let made = definition_step (name_at t1.names c.in-Some-2.number) (term_at t1.terms c.in-Some.body) in
    let body = term_at t1.terms c.in-Some.body in
    let defined = subst (IsDefined made body c.define.new.terms) c.in-Ok.is c.in_ok-given.ensures.defined in
    full-definition t0 t1 c.args.contents.now c.requires.contents c.args.name.now c.in-Some-2.number c.args.body c.in-Some.body c.in_ok-number.ensures.grows
    found.named named legal
    c.define.new.terms c.define.ensures.grows found.new c.in-Ok.given.ty c.in-Ok.given.conclusion defined (sym c.is_full.ensures ∙ c.if-is_full.true)

pub returns : goal.returns
returns c =
    let t0 = c.args.terms.now in
    let t1 = c.new_name.new.terms in
    let named = c.in-Some.ensures t0 c.requires.contents c.requires.made in
    let found = subst (FindsNewName c.is_constant_name-is_legal.result (theory_in c.args.terms.now c.args.contents.now.entries.items) c.args.name.now
    c.new_name.new.terms.names) c.in-Some-2.is c.in_ok-number.ensures.found in
    let legal = sym c.is_constant_name-is_legal.ensures ∙ found.legal in
    let made = definition_step (name_at t1.names c.in-Some-2.number) (term_at t1.terms c.in-Some.body) in
    let body = term_at t1.terms c.in-Some.body in
    let defined = subst (IsDefined made body c.define.new.terms) c.in-Ok.is c.in_ok-given.ensures.defined in
    new-definition t0 t1 c.args.contents.now c.requires.contents c.args.name.now c.in-Some-2.number c.args.body c.in-Some.body c.in_ok-number.ensures.grows
    found.named named legal
    c.define.new.terms c.define.ensures.grows found.new c.in-Ok.given.ty c.in-Ok.given.conclusion defined (sym c.is_full.ensures ∙ c.if-is_full.false)
