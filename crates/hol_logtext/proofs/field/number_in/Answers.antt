use Rattle.std.proofs.Common.{◌≡◌, sym, ◌∙◌, ap, arith}
use Rattle.std.specs.Prelude.{decimal}
use Rattle.std.proofs.lemmas.Slice.Eq.{bytes_eq-Decides}
use Rattle.hol_logtext.proofs.FieldLemmas.{decimal-utf8, parsed, number_of-none, number_of-written}
use Rattle.hol_logtext.proofs.field.number_in.Goals as goal

pub returns-in_default : goal.returns-in_default
returns-in_default c = number_of-none c.args.field.now (λ number small same. c.in_default.ensures.cases.0 (decimal-utf8 number c.args.field.now small same))

pub returns-in_default-parse : goal.returns-in_default-parse
returns-in_default-parse c = number_of-none c.args.field.now (λ number small same.
    let text = c.in-Ok.ensures.cases.0 in
    let is = parsed number c.in-Ok.text.now c.parse.result small (text ∙ same) c.parse.ensures.value.0 in
    cc)

pub returns-then-eq : goal.returns-then-eq
returns-then-eq c =
    let same = (bytes_eq-Decides c.as_bytes.result.now c.args.field.now).0 (sym c.eq.ensures ∙ c.if-eq.true) in
    number_of-written c.args.field.now c.in-Ok-parse.number (omega arith) (sym same ∙ (c.as_bytes.ensures.value ∙ c.format.ensures.text))

pub returns-else-eq : goal.returns-else-eq
returns-else-eq c = number_of-none c.args.field.now (λ number small same.
    let text = c.in-Ok.ensures.cases.0 in
    let is = parsed number c.in-Ok.text.now c.parse.result small (text ∙ same) c.parse.ensures.value.0 in
    let one : c.in-Ok-parse.number ≡ number = cc in
    let equal : c.as_bytes.result.now ≡ c.args.field.now = c.as_bytes.ensures.value ∙ (c.format.ensures.text ∙ (ap decimal one ∙ sym same)) in
    let passes = (bytes_eq-Decides c.as_bytes.result.now c.args.field.now).1 equal in
    let tested = c.eq.ensures in
    let failed = c.if-eq.false in
    cc)
