use Rattle.std.proofs.Common.{◌≡◌, ◌∙◌, ◌-◌, ℕ, List, length, take, drop, false, sym, subst, Bor}
use Rattle.std.proofs.lemmas.List.{take_rest}
use Rattle.hol_model_sessions.specs.Script.{has_mark, IsCut}
use Rattle.hol_script.proofs.CourseLemmas.{uncut, no-new-mark}
use Rattle.hol_script.proofs.course.has_new_mark.Goals as goal

pub returns : goal.returns
returns c = λ none before.
    let slice : List ℕ = take (length c.args.text.now - c.saturating_sub.result) (drop c.saturating_sub.result c.args.text.now) in
    let in_slice : has_mark slice ≡ false =
    uncut slice (λ (parts : Bor (List ℕ) × Bor (List ℕ)). IsCut slice parts.0.now parts.1.now) c.cut.result c.cut.ensures (sym c.is_some.ensures ∙ none) in
    let behind : has_mark (drop c.saturating_sub.result c.args.text.now) ≡ false =
    subst (λ (l : List ℕ). has_mark l ≡ false) (take_rest c.args.text.now c.saturating_sub.result) in_slice in
    no-new-mark c.args.known c.args.text.now (subst (λ (n : ℕ). has_mark (drop n c.args.text.now) ≡ false) c.saturating_sub.ensures behind) before
