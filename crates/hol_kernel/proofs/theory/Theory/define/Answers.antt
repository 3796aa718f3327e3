use Rattle.std.proofs.Common.{◌≡◌, [], true, false, None, Some, sym, ◌∙◌, ap, inl, inr, Ok}
use Rattle.std.proofs.lemmas.Result.{err_from_is_err_and}
use Rattle.hol_model.specs.Terms.Name.{is_constant_name}
use Rattle.hol_model.specs.Terms.Nameless.{image}
use Rattle.hol_model.specs.Terms.NamedTerm.{constant, equation, type_of}
use Rattle.hol_model.specs.Logic.Theory.{definition}
use Rattle.hol_model.specs.Logic.Legality.{is_closed, reflects, is_new_name, own_type}
use Rattle.hol_model.specs.Kernel.Rules.{first_unknown, is_full, with_definition}
use Rattle.hol_model.proofs.Logic.Earlier.{earlier-more}
use Rattle.hol_kernel.proofs.RuleLemmas.{theorem-alike}
use Rattle.hol_kernel.proofs.LimitLemmas.{limited-is, concluded-refused, concluded-made}
use Rattle.hol_kernel.proofs.DefinitionLemmas.{own_type-is, definition-legal, definition-theorem, define-concluded}
use Rattle.hol_kernel.proofs.theory.Theory.define.Goals as goal

pub returns-in_err-conclusion-clause-outcome : goal.returns-in_err-conclusion-clause-outcome
returns-in_err-conclusion-clause-outcome c =
    let own = own_type c.args.term.now in
    let same : own ≡ c.ty.result.now = own_type-is c.args.term.now c.ty.result.now c.ty.ensures in
    let typed : type_of c.args.term.now ≡ Some own = c.ty.ensures ∙ ap Some (sym same) in
    let named : is_constant_name c.args.name.now ≡ true = cc (c.is_constant_name.ensures, c.if-not-is_constant_name.false, c.as_bytes.ensures.value) in
    let known : first_unknown c.args.self.now c.args.term.now ≡ None = cc (c.first_unknown.ensures) in
    let closed : is_closed c.args.term.now ≡ true = cc (c.is_closed.ensures, c.if-not-is_closed.false) in
    let reflected : reflects own c.args.term.now ≡ true = cc (c.reflects.ensures, c.if-not-reflects.false, same) in
    let new : is_new_name c.args.self.now c.args.name.now ≡ true = cc (c.is_new_name.ensures, c.if-not-is_new_name.false) in
    let room : is_full c.args.self.now ≡ false = cc (c.is_full.ensures, c.if-is_full.false) in
    let p = err_from_is_err_and c.from_residual.result c.from_residual.ensures.1 in
    rw (p.1, p.2) (elim c.in_err-conclusion.ensures [
      | inl memory ↦ inl memory
      | inr refused ↦ inr (define-concluded c.args.self.now c.args.name.now c.args.term.now own typed named known closed reflected new room
          ∙ concluded-refused (with_definition c.args.self.now c.args.name.now c.args.term.now) [] (equation (constant c.args.name.now own) c.args.term.now) _ refused)
    ])

pub new-requires-2 : goal.new-requires-2
new-requires-2 c =
    let own = own_type c.args.term.now in
    let same : own ≡ c.ty.result.now = own_type-is c.args.term.now c.ty.result.now c.ty.ensures in
    let typed : type_of c.args.term.now ≡ Some own = c.ty.ensures ∙ ap Some (sym same) in
    let named : is_constant_name c.args.name.now ≡ true = cc (c.is_constant_name.ensures, c.if-not-is_constant_name.false, c.as_bytes.ensures.value) in
    let known : first_unknown c.args.self.now c.args.term.now ≡ None = cc (c.first_unknown.ensures) in
    let closed : is_closed c.args.term.now ≡ true = cc (c.is_closed.ensures, c.if-not-is_closed.false) in
    let reflected : reflects own c.args.term.now ≡ true = cc (c.reflects.ensures, c.if-not-reflects.false, same) in
    let new : is_new_name c.args.self.now c.args.name.now ≡ true = cc (c.is_new_name.ensures, c.if-not-is_new_name.false) in
    let entries : c.in_ok-entries.entries ≡ with_definition c.args.self.now c.args.name.now c.args.term.now = cc (c.in_ok-entries.ensures.ok, c.entries.ensures.value) in
    let conclusion = limited-is (equation (constant c.args.name.now own) c.args.term.now) c.in_ok-conclusion.conclusion c.in_ok-conclusion.ensures in
    theorem-alike _ _ _ _ _ _ entries c.new.ensures.items conclusion
    (definition-theorem c.args.self.now c.args.name.now c.args.term.now own
    (definition-legal c.args.self.now c.entries.ensures.legal c.args.name.now c.args.term.now own typed named known closed reflected new))

pub returns-clause-outcome : goal.returns-clause-outcome
returns-clause-outcome c =
    let own = own_type c.args.term.now in
    let same : own ≡ c.ty.result.now = own_type-is c.args.term.now c.ty.result.now c.ty.ensures in
    let typed : type_of c.args.term.now ≡ Some own = c.ty.ensures ∙ ap Some (sym same) in
    let named : is_constant_name c.args.name.now ≡ true = cc (c.is_constant_name.ensures, c.if-not-is_constant_name.false, c.as_bytes.ensures.value) in
    let known : first_unknown c.args.self.now c.args.term.now ≡ None = cc (c.first_unknown.ensures) in
    let closed : is_closed c.args.term.now ≡ true = cc (c.is_closed.ensures, c.if-not-is_closed.false) in
    let reflected : reflects own c.args.term.now ≡ true = cc (c.reflects.ensures, c.if-not-reflects.false, same) in
    let new : is_new_name c.args.self.now c.args.name.now ≡ true = cc (c.is_new_name.ensures, c.if-not-is_new_name.false) in
    let room : is_full c.args.self.now ≡ false = cc (c.is_full.ensures, c.if-is_full.false) in
    let entries : c.in_ok-entries.entries ≡ with_definition c.args.self.now c.args.name.now c.args.term.now = cc (c.in_ok-entries.ensures.ok, c.entries.ensures.value) in
    let conclusion = limited-is (equation (constant c.args.name.now own) c.args.term.now) c.in_ok-conclusion.conclusion c.in_ok-conclusion.ensures in
    define-concluded c.args.self.now c.args.name.now c.args.term.now own typed named known closed reflected new room
    ∙ concluded-made (with_definition c.args.self.now c.args.name.now c.args.term.now) [] (equation (constant c.args.name.now own) c.args.term.now) c.in_ok-conclusion.conclusion
    c.in_ok-conclusion.ensures
    ∙ ap Ok (sym (c.in_ok-theorem.ensures.ok ∙ (λ i. record { theory = entries i; hypotheses = c.new.ensures.items i; conclusion = conclusion i })))

pub returns-clause-earlier : goal.returns-clause-earlier
returns-clause-earlier c =
    let entries : c.in_ok-entries.entries ≡ with_definition c.args.self.now c.args.name.now c.args.term.now = cc (c.in_ok-entries.ensures.ok, c.entries.ensures.value) in
    earlier-more (definition c.args.name.now (own_type c.args.term.now) (image c.args.term.now)) c.args.self.now c.grow_by_constant.new.self (c.in_ok-grow_by_constant.ensures.ok ∙ entries)
