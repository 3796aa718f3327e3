use Rattle.std.proofs.Common.{◌+◌, ◌*◌, ◌-◌, ◌∷◌, length, Bool, Ok, subst, arith, vec_len}
use Rattle.hol_tactic_exprs.specs.declared.tac.Link.{Thenl}
use Rattle.hol_syntax_grammar.specs.Views.{tokens_of}
use Rattle.hol_tactic_grammar.specs.declared.tactic_reader.Open.TheVariants.{Listed}
use Rattle.hol_tactic_grammar.specs.OpenTactics.{opens_of, AddsElement}
use Rattle.hol_tactic_grammar.proofs.Rows.{thenl_means}
use Rattle.hol_tactic_grammar.proofs.OpenTacticLemmas.{room-within, goes-sooner, waits, list-waits, list-broken-at, list-closes}
use Rattle.hol_tactic_grammar.proofs.tactic_reader.Reader.take_element.Goals as goal

pub returns-in-Ok-true : goal.returns-in-Ok-true
returns-in-Ok-true c =
    let reader = c.args.self.now in
    let tokens = c.args.tokens.now in
    let added = subst (λ (more : Bool). AddsElement (Ok more) c.args.tactic c.args.each.items c.add_element.new.each.items c.args.next tokens) c.in-Ok-true.field-0-test c.in-Ok-true.ensures in
    waits c.wait.result reader c.wait.new.self (Listed c.args.first c.args.links c.add_element.new.each) (c.args.next + 1) (8 * (length tokens - c.args.next) + 4 * vec_len reader.opens + 2)
    tokens c.wait.ensures
    (list-waits (opens_of reader) reader.room c.args.next (tokens_of tokens) c.args.first c.args.tactic c.args.links c.args.each c.add_element.new.each tokens added.0 c.requires added.1)
    (omega (arith, added.1.within))

pub overflow_add-self : goal.overflow_add-self
overflow_add-self c =
    let reader = c.args.self.now in
    omega (arith, room-within (Listed c.args.first c.args.links c.args.each ∷ opens_of reader) reader.room (tokens_of c.args.tokens.now) c.requires.tokens c.requires.opened)

pub returns-in-Ok-false : goal.returns-in-Ok-false
returns-in-Ok-false c =
    let reader = c.args.self.now in
    let tokens = c.args.tokens.now in
    let added = subst (λ (more : Bool). AddsElement (Ok more) c.args.tactic c.args.each.items c.add_element.new.each.items c.args.next tokens) c.in-Ok-false.field-0-test c.in-Ok-false.ensures in
    let each = c.add_element.new.each in
    goes-sooner c.chain_with.result (record { opens = reader.opens; room = reader.room + 1 }) tokens (8 * (length tokens - (c.args.next + 1)) + 4 * vec_len reader.opens + 7)
    (8 * (length tokens - c.args.next) + 4 * vec_len reader.opens + 2) (omega (arith, added.1.within))
    (c.chain_with.ensures (record { opens = reader.opens; room = reader.room + 1 }) tokens (λ all joined. list-closes (opens_of reader) reader.room c.args.next (tokens_of tokens)
    c.args.first c.args.tactic c.args.links c.args.each each all (Thenl each) tokens added.0 (thenl_means each) joined c.requires added.1))

pub returns-in-Err : goal.returns-in-Err
returns-in-Err c =
    let reader = c.args.self.now in
    list-broken-at c.in-Err.error (opens_of reader) reader.room c.args.next c.args.tokens.now c.args.first c.args.tactic c.args.links c.args.each c.add_element.new.each.items c.in-Err.ensures
    c.requires
