use Rattle.std.proofs.Common.{rules, ◌≡◌, inl, length, true, false, sym, ap, subst, Result, Ok}
use Rattle.hol_model.specs.declared.fault.Fault.{Fault}
use Rattle.hol_model.specs.declared.fault.Fault.TheVariants.{Memory}
use Rattle.hol_model.specs.Terms.NamedTerm.{NamedTerm}
use Rattle.hol_model.specs.Logic.KnownTerm.{is_known}
use Rattle.hol_model.specs.Refining.Conversions.{is_caught}
use Rattle.hol_model.specs.Kernel.Theorem.{Theorem}
use Rattle.hol_laws_refiners.proofs.Repeating.{joined_from}
use Rattle.hol_conv.specs.Makes.{Joins}
use Rattle.hol_conv.specs.Converted.{same_theorem, answered}
use Rattle.hol_conv.specs.Chains.{theorems}
use Rattle.hol_conv.proofs.Making.{makes_nothing, makes_then}
use Rattle.hol_conv.proofs.Standing.{said-so, said-not}
use Rattle.hol_conv.proofs.Leading.{leads-up, reflects-equates}
use Rattle.hol_conv.proofs.Chaining.{made-later, no-theorems, ends-empty, ends-joined, ends-here, ends-unmade, joined-answer}
use Rattle.hol_conv.proofs.chain.finish.Goals as goal

pub same-requires-clause-known : goal.same-requires-clause-known
same-requires-clause-known c =
    let none : length c.args.chain.theorems.items ≡ 0 = search rules in
    let empty = no-theorems c.args.chain.theorems.items none in
    subst (λ (u : NamedTerm). is_known c.args.library.now.recorder.theory u ≡ true) (c.requires.chain.begun empty) c.requires.chain.held.known

pub returns-then-is_empty-clause-finishes : goal.returns-then-is_empty-clause-finishes
returns-then-is_empty-clause-finishes c =
    let none : length c.args.chain.theorems.items ≡ 0 = search rules in
    let empty = no-theorems c.args.chain.theorems.items none in
    let caught : is_caught c.args.fault ≡ true = search rules in
    ends-empty c.args.chain c.args.fault (answered c.args.library.now.recorder.theory c.args.t.now c.same.result) caught empty (c.requires.chain.begun empty) c.requires.chain.held.known
    c.same.ensures.reflects

pub returns-in-Ok-theorem-clause-finishes : goal.returns-in-Ok-theorem-clause-finishes
returns-in-Ok-theorem-clause-finishes c =
    let caught : is_caught c.args.fault ≡ true = search rules in
    ends-joined c.args.chain c.args.fault (answered c.args.library.now.recorder.theory c.args.chain.current c.same-last.result) c.in-Ok-theorem.last.theorem caught c.requires.chain.held.known
    c.same-last.ensures.reflects c.in-Ok-theorem.ensures.joins
    (joined-answer c.args.t.now c.args.chain.theorems.items c.in-Ok-theorem.last.theorem false c.joined.result c.as_answer-in-Ok-theorem.result
    c.in-Ok-theorem.ensures.makes.continued c.joined.ensures.joins c.as_answer-in-Ok-theorem.ensures.same)

pub returns-in-Ok-theorem-clause-makes : goal.returns-in-Ok-theorem-clause-makes
returns-in-Ok-theorem-clause-makes c =
    c.as_answer-in-Ok-theorem.ensures.made c.args.library.now c.joined.new.library c.args.t.now
    (makes_then c.args.library.now c.theorem.new.library c.joined.new.library c.theorem.result c.joined.result c.theorem.ensures.makes c.joined.ensures.makes) (said-not _ c.joined.result)

pub returns-in-Err-theorem-clause-finishes : goal.returns-in-Err-theorem-clause-finishes
returns-in-Err-theorem-clause-finishes c =
    let caught : is_caught c.args.fault ≡ true = search rules in
    ends-unmade c.args.chain c.args.fault (answered c.args.library.now.recorder.theory c.args.chain.current c.same-last.result) _ caught c.same-last.ensures.reflects c.in-Err-theorem.ensures.joins

pub joined-requires-clause-theorems : goal.joined-requires-clause-theorems
joined-requires-clause-theorems c = made-later c.args.chain.theorems.items c.in-Ok-theorem.ensures.makes.continued c.requires.chain.held.made

pub joined-requires-clause-lead : goal.joined-requires-clause-lead
joined-requires-clause-lead c = leads-up c.requires.chain.held.lead (reflects-equates c.same-last.ensures.reflects c.in-Ok-theorem.ensures.joins)

pub ended-requires-clause-chain : goal.ended-requires-clause-chain
ended-requires-clause-chain c = c.requires.chain.held

pub returns-in-Ok-clause-finishes : goal.returns-in-Ok-clause-finishes
returns-in-Ok-clause-finishes c =
    let theory = c.args.library.now.recorder.theory in
    let chain = c.args.chain in
    let caught : is_caught c.args.fault ≡ true = search rules in
    ends-here chain c.args.fault (answered theory chain.current c.same-last.result) _ caught c.requires.chain.held.known c.same-last.ensures.reflects
    (ap (answered theory chain.current) c.in-Ok.is)
    (subst (λ (answer : Result Theorem Fault). Joins (joined_from theory (theorems chain.theorems.items) (Ok (same_theorem theory chain.current))) answer)
    (sym (c.as_answer.ensures.answered theory c.args.t.now)) c.ended.ensures.joins)

pub returns-in-Ok-clause-makes : goal.returns-in-Ok-clause-makes
returns-in-Ok-clause-makes c =
    c.as_answer.ensures.made c.args.library.now c.ended.new.library c.args.t.now c.ended.ensures.makes (said-so _ c.ended.result c.ended.ensures.stands)

pub returns-in-Err-clause-finishes : goal.returns-in-Err-clause-finishes
returns-in-Err-clause-finishes c =
    let theory = c.args.library.now.recorder.theory in
    let caught : is_caught c.args.fault ≡ true = search rules in
    ends-unmade c.args.chain c.args.fault (answered theory c.args.chain.current c.same-last.result) _ caught c.same-last.ensures.reflects
    (inl (sym (ap (answered theory c.args.chain.current) c.in-Err.is)))

pub returns-in-Err-clause-makes : goal.returns-in-Err-clause-makes
returns-in-Err-clause-makes c = record {
  library = c.requires.library;
  continued = (makes_nothing c.args.library.now Memory c.requires.library).continued;
  made = tt;
}
