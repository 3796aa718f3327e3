use Rattle.std.proofs.Common.{◌∙◌, map, length, drop, arith, ap, sym}
use Rattle.std.proofs.lemmas.List.{length-drop, take_rest}
use Rattle.hol_syntax_grammar.specs.Views.{tokens_of}
use Rattle.hol_script_commands.specs.Pairs.{parts_of}
use Rattle.hol_script_commands.proofs.PairLemmas.{begun_with, taken_with, ended, broken_off, left-slice}
use Rattle.hol_script_commands.proofs.pairs.take_pairs.Goals as goal

pub loop-pair-init : goal.loop-pair-init
loop-pair-init c =
    let read = c.in-Some-take_pair.ensures in
    let begun = begun_with c.args.tokens.now c.push.new.self.items c.new-pairs.result.items c.in-Some-take_pair.first c.in-Some-take_pair.at in
    (read.3, begun c.new-pairs.ensures.items c.in_ok-push.ensures.items read.0 read.1)

pub loop-pair-preserved : goal.loop-pair-preserved
loop-pair-preserved c =
    let read = c.in-Some-take_pair-2.ensures in
    let tokens = c.args.tokens.now in
    let at = c.loop-pair.at in
    let whole = ap length (take_rest tokens at) ∙ length-drop at tokens in
    let taken = taken_with tokens c.push-in-Some-take_pair-2.new.self.items c.loop-pair.pairs.items c.in-Some-take_pair-2.pair at c.in-Some-take_pair-2.count in
    (omega (arith, whole, read.3, c.loop-pair.invariant.0), taken c.in_ok-push-2.ensures.items c.loop-pair.invariant.1 read.0 read.1)

pub returns-in-Some-take_mark : goal.returns-in-Some-take_mark
returns-in-Some-take_mark c =
    let tokens = c.args.tokens.now in
    let at = c.loop-pair.at in
    let front = c.loop-pair.invariant.1 in
    let rest = tokens_of c.in-Some-take_mark.rest.now in
    (front.unquoted, ended (tokens_of tokens) (tokens_of (drop at tokens)) rest (map parts_of c.loop-pair.pairs.items) front (left-slice tokens at ∙ c.in-Some-take_mark.ensures))

pub returns : goal.returns
returns c =
    let tokens = c.args.tokens.now in
    let at = c.loop-pair.at in
    broken_off (tokens_of tokens) (tokens_of (drop at tokens)) (map parts_of c.loop-pair.pairs.items) c.loop-pair.invariant.1
    (λ pair rest none same. c.in_default-take_pair-2.ensures pair rest none (sym (left-slice tokens at) ∙ same))
    (λ rest same. c.in-None.ensures rest (sym (left-slice tokens at) ∙ same))
