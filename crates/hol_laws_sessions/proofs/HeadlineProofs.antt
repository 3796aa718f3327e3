-- No line of a script's output tells falsity, and the lines of refusals and of goals are no theorems'.
use Rattle.std.proofs.Common.{◌≡◌, ℕ, List, [], ◌∷◌, ◌++◌, true, false, map, refl, ap, ◌∙◌, subst, append_assoc, codes, decimal}
use Rattle.hol_model.specs.Kernel.Fault.{number_of, name_of}
use Rattle.hol_model.specs.Terms.Nameless.{Nameless, image}
use Rattle.hol_model.specs.Logic.Theory.{Theory, IsLegal}
use Rattle.hol_model.specs.Logic.Derivable.{Derivable}
use Rattle.hol_model.specs.Logic.Logic.{false_term}
use Rattle.hol_model.specs.Texts.Texts.{text_of_sequent, text_of_goal}
use Rattle.hol_model.specs.Texts.Scopes.{scope_over}
use Rattle.hol_sound.specs.Laws.{IsConsistent}
use Rattle.hol_model_sessions.specs.Replies.{count_text, row_text}
use Rattle.hol_model_sessions.specs.Headline.{IsTheoremLine, IsTold, of_theorem, of_refusal, of_count, of_goal, of_proof}
use Rattle.hol_laws_sessions.specs.HeadlineLaws.{NoLineIsFalsity, BeginsAsTheorem, RefusalsAreNoTheorems, GoalsAreNoTheorems, TheoremsAreSeen}
use Rattle.hol_laws_sessions.proofs.Beginnings.{has_colon, theorem-colon, goal-no_colon, count-no_colon}

pub no_line-falsity : IsConsistent → NoLineIsFalsity
no_line-falsity consistent theory line later told none falsity =
    consistent later.added (subst IsLegal later.is_added told.legal)
    (subst (λ (t : Theory). Derivable t [] false_term) later.is_added
    (subst (λ (c : Nameless). Derivable theory [] c) falsity
    (subst (λ (h : List _). Derivable theory (map image h) (image told.theorem.conclusion)) none told.derivable)))

-- ---- which lines are theorems'

-- a line that begins as a theorem's has a colon behind its name
colon-seen : (line : List ℕ) → BeginsAsTheorem line → has_colon line ≡ true
colon-seen line begins = ap has_colon begins.spelled ∙ theorem-colon begins.name begins.rest begins.named

-- a line that has none does not begin so
no_theorem : (line other : List ℕ) → BeginsAsTheorem line → line ≡ other → has_colon other ≡ false → ⊥
no_theorem line other begins same none =
    let one = colon-seen line begins in
    let two : has_colon line ≡ false = ap has_colon same ∙ none in
    cc

-- a refusal's line begins with a word and a space
refusal-begins : (a b c d e f g : List ℕ) → codes "line " ++ a ++ b ++ c ++ d ++ e ++ f ++ g ≡ codes "line " ++ (a ++ (b ++ (c ++ (d ++ (e ++ (f ++ g))))))
refusal-begins a b c d e f g =
    append_assoc (codes "line " ++ a ++ b ++ c ++ d ++ e) f g
    ∙ append_assoc (codes "line " ++ a ++ b ++ c ++ d) e (f ++ g)
    ∙ append_assoc (codes "line " ++ a ++ b ++ c) d (e ++ (f ++ g))
    ∙ append_assoc (codes "line " ++ a ++ b) c (d ++ (e ++ (f ++ g)))
    ∙ append_assoc (codes "line " ++ a) b (c ++ (d ++ (e ++ (f ++ g))))
    ∙ append_assoc (codes "line ") a (b ++ (c ++ (d ++ (e ++ (f ++ g)))))

pub refusals-no_theorems : RefusalsAreNoTheorems
refusals-no_theorems theory line begins refused =
    let number = decimal refused.number in
    let fault = decimal (number_of refused.refusal.fault) in
    let row = row_text (scope_over theory) refused.refusal.row in
    let rest = number ++ (codes ": E" ++ (fault ++ (codes " " ++ (name_of refused.refusal.fault ++ (row ++ codes "\n"))))) in
    no_theorem line (codes "line " ++ rest) begins
    (refused.spelled ∙ refusal-begins number (codes ": E") fault (codes " ") (name_of refused.refusal.fault) row (codes "\n")) refl

pub goals-no_theorems : GoalsAreNoTheorems
goals-no_theorems = record {
  goals = λ theory line begins is. no_theorem line (text_of_goal (scope_over theory) is.goal.assumptions is.goal.target ++ codes "\n") begins is.spelled
      (goal-no_colon (scope_over theory) is.goal.assumptions is.goal.target);
  counts = λ line begins is. no_theorem line (count_text (is.first ∷ is.others)) begins is.spelled (count-no_colon (is.first ∷ is.others));
  proofs = λ texts theory line begins is. no_theorem line (count_text []) begins is.spelled refl;
}

theorem-seen : (texts : List (List ℕ)) (theory : Theory) (line : List ℕ) → BeginsAsTheorem line → IsTold texts theory line → IsTheoremLine theory line
theorem-seen texts theory line begins (of_theorem is) = is
theorem-seen texts theory line begins (of_refusal is) = absurd (refusals-no_theorems theory line begins is)
theorem-seen texts theory line begins (of_count is) = absurd (goals-no_theorems.counts line begins is)
theorem-seen texts theory line begins (of_goal is) = absurd (goals-no_theorems.goals theory line begins is)
theorem-seen texts theory line begins (of_proof is) = absurd (goals-no_theorems.proofs texts theory line begins is)

pub theorems-seen : TheoremsAreSeen
theorems-seen = record {
  are_theorems = theorem-seen;
  begin_so = λ theory line told. (let text = text_of_sequent (scope_over theory) told.theorem.hypotheses told.theorem.conclusion in record {
    name = told.name;
    rest = text ++ codes "\n";
    named = told.named;
    spelled = told.spelled ∙ append_assoc (told.name ++ codes ": ") text (codes "\n");
  });
}
