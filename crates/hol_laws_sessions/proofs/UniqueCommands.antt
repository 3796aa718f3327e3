-- A text is one command's.
use Rattle.std.proofs.Common.{◌≡◌, ℕ, List, [], ◌∷◌, refl, sym, ap, ◌∙◌, Option, None, Some}
use Rattle.std.specs.Prelude.{codes}
use Rattle.hol_model.specs.Texts.TypeGrammar.{type_tokens}
use Rattle.hol_model.specs.Texts.TermGrammar.{TermTree}
use Rattle.hol_model_rules.specs.RuleForms.{IsRuleOf}
use Rattle.hol_model_rules.proofs.Words.{found-word}
use Rattle.hol_model_sessions.specs.Commands.{quote_tokens, IsQuotable}
use Rattle.hol_model_sessions.specs.ConversionGrammar.{unit_tokens}
use Rattle.hol_model_sessions.specs.TacticGrammar.{tactic_tokens}
use Rattle.hol_model_sessions.specs.CommandGrammar.{TheoremTree, by_rule, by_tautology, by_conversion, CommandTree, var_command, newtype_command, newconst_command, def_command, thm_command}
use Rattle.hol_model_sessions.specs.CommandGrammar.{show_command, goal_command, e_command, b_command, p_command, r_command, save_command, theorem_tokens, command_tokens, IsTheoremTree}
use Rattle.hol_model_sessions.specs.CommandGrammar.{IsCommandTree}
use Rattle.hol_laws_sessions.specs.UniqueReadings.{QuotesAreUnambiguous, PartsAreUnambiguous, CommandsAreUnambiguous}
use Rattle.hol_laws_sessions.proofs.UniqueConversions.{look_up_first, begins_otherwise, conversions-unambiguous}
use Rattle.hol_laws_sessions.proofs.UniqueTactics.{tactics-unambiguous}
use Rattle.hol_laws_sessions.proofs.UniqueRules.{begins_no_rule, rules-unambiguous}

-- ---- what `thm` asks for

one_quote : QuotesAreUnambiguous → (a b : TermTree) → IsQuotable a → IsQuotable b → quote_tokens a [] ≡ quote_tokens b [] → a ≡ b
one_quote quotes a b qa qb same = (quotes a b [] [] qa qb same).same

taut-unknown : IsRuleOf (codes "TAUT") None
taut-unknown = found-word (codes "TAUT") None refl

conv-unknown : IsRuleOf (codes "CONV") None
conv-unknown = found-word (codes "CONV") None refl

theorem-same : PartsAreUnambiguous → (a b : TheoremTree) → IsTheoremTree a → IsTheoremTree b → theorem_tokens a ≡ theorem_tokens b → a ≡ b
theorem-same parts (by_rule a) (by_rule b) ga gb same = ap by_rule (rules-unambiguous parts.quotes parts.type_quotes a b ga gb same)
theorem-same parts (by_rule a) (by_tautology b) ga gb same = begins_no_rule a (codes "TAUT") _ taut-unknown refl same
theorem-same parts (by_rule a) (by_conversion c b) ga gb same = begins_no_rule a (codes "CONV") _ conv-unknown refl same
theorem-same parts (by_tautology a) (by_rule b) ga gb same = begins_no_rule b (codes "TAUT") _ taut-unknown refl (sym same)
theorem-same parts (by_tautology a) (by_tautology b) ga gb same = (let behind : quote_tokens a [] ≡ quote_tokens b [] = cc in ap by_tautology (one_quote parts.quotes a b ga gb behind))
theorem-same parts (by_tautology a) (by_conversion c b) ga gb same = begins_otherwise (codes "CONV") (theorem_tokens (by_tautology a)) (theorem_tokens (by_conversion c b)) refl same refl
theorem-same parts (by_conversion c a) (by_rule b) ga gb same = begins_no_rule b (codes "CONV") _ conv-unknown refl (sym same)
theorem-same parts (by_conversion c a) (by_tautology b) ga gb same = begins_otherwise (codes "CONV") (theorem_tokens (by_tautology b)) (theorem_tokens (by_conversion c a)) refl (sym same) refl
theorem-same parts (by_conversion c a) (by_conversion d b) ga gb same =
    let behind : unit_tokens c (quote_tokens a []) ≡ unit_tokens d (quote_tokens b []) = cc in
    let conversion = conversions-unambiguous c d (quote_tokens a []) (quote_tokens b []) behind in
    let term = one_quote parts.quotes a b ga.1 gb.1 conversion.rest in
    λ i. by_conversion (conversion.same i) (term i)

-- ---- commands by their words

data Start : Type 0 where
  var_start : Start
  newtype_start : Start
  newconst_start : Start
  def_start : Start
  thm_start : Start
  show_start : Start
  goal_start : Start
  e_start : Start
  b_start : Start
  p_start : Start
  r_start : Start
  save_start : Start

abbrev starts : List (List ℕ × Start)
starts = (codes "var", var_start) ∷ (codes "newtype", newtype_start) ∷ (codes "newconst", newconst_start) ∷ (codes "def", def_start) ∷ (codes "thm", thm_start) ∷ (codes "show", show_start)
    ∷ (codes "goal", goal_start) ∷ (codes "e", e_start) ∷ (codes "b", b_start) ∷ (codes "p", p_start) ∷ (codes "r", r_start) ∷ (codes "save", save_start) ∷ []

abbrev start_of : CommandTree → Start
start_of (var_command name tree) = var_start
start_of (newtype_command name) = newtype_start
start_of (newconst_command name tree) = newconst_start
start_of (def_command name tree) = def_start
start_of (thm_command name tree) = thm_start
start_of (show_command name) = show_start
start_of (goal_command tree) = goal_start
start_of (e_command tactic) = e_start
start_of b_command = b_start
start_of p_command = p_start
start_of (r_command digits) = r_start
start_of (save_command name) = save_start

command-starts : (tree : CommandTree) → look_up_first starts (command_tokens tree) ≡ Some (start_of tree)
command-starts (var_command name tree) = refl
command-starts (newtype_command name) = refl
command-starts (newconst_command name tree) = refl
command-starts (def_command name tree) = refl
command-starts (thm_command name tree) = refl
command-starts (show_command name) = refl
command-starts (goal_command tree) = refl
command-starts (e_command tactic) = refl
command-starts b_command = refl
command-starts p_command = refl
command-starts (r_command digits) = refl
command-starts (save_command name) = refl

one_start : (a b : CommandTree) → command_tokens a ≡ command_tokens b → start_of a ≡ start_of b
one_start a b same =
    let whole : ◌≡◌ {A = Option Start} (Some (start_of a)) (Some (start_of b)) = sym (command-starts a) ∙ ap (look_up_first starts) same ∙ command-starts b in
    cc

command-same : PartsAreUnambiguous → (a b : CommandTree) → IsCommandTree a → IsCommandTree b → command_tokens a ≡ command_tokens b → start_of a ≡ start_of b → a ≡ b
command-same parts (var_command n a) (var_command m b) ga gb same starts =
    let name : n ≡ m = cc in
    let behind : type_tokens a [] ≡ type_tokens b [] = cc in
    let tree = parts.types a b ga gb behind in
    λ i. var_command (name i) (tree i)
command-same parts (newtype_command n) (newtype_command m) ga gb same starts = (let name : n ≡ m = cc in ap newtype_command name)
command-same parts (newconst_command n a) (newconst_command m b) ga gb same starts =
    let name : n ≡ m = cc in
    let behind : type_tokens a [] ≡ type_tokens b [] = cc in
    let tree = parts.types a b ga gb behind in
    λ i. newconst_command (name i) (tree i)
command-same parts (def_command n a) (def_command m b) ga gb same starts =
    let name : n ≡ m = cc in
    let behind : quote_tokens a [] ≡ quote_tokens b [] = cc in
    let tree = one_quote parts.quotes a b ga gb behind in
    λ i. def_command (name i) (tree i)
command-same parts (thm_command n a) (thm_command m b) ga gb same starts =
    let name : n ≡ m = cc in
    let behind : theorem_tokens a ≡ theorem_tokens b = cc in
    let tree = theorem-same parts a b ga gb behind in
    λ i. thm_command (name i) (tree i)
command-same parts (show_command n) (show_command m) ga gb same starts = (let name : n ≡ m = cc in ap show_command name)
command-same parts (goal_command a) (goal_command b) ga gb same starts = (let behind : quote_tokens a [] ≡ quote_tokens b [] = cc in ap goal_command (one_quote parts.quotes a b ga gb behind))
command-same parts (e_command a) (e_command b) ga gb same starts = (let behind : tactic_tokens a [] ≡ tactic_tokens b [] = cc in
    ap e_command (tactics-unambiguous parts.quotes a b ga.quotable gb.quotable behind))
command-same parts b_command b_command ga gb same starts = refl
command-same parts p_command p_command ga gb same starts = refl
command-same parts (r_command n) (r_command m) ga gb same starts = (let digits : n ≡ m = cc in ap r_command digits)
command-same parts (save_command n) (save_command m) ga gb same starts = (let name : n ≡ m = cc in ap save_command name)
command-same parts a b ga gb same starts = cc

pub commands-unambiguous : PartsAreUnambiguous → CommandsAreUnambiguous
commands-unambiguous parts text a b spells_a spells_b =
    let tokens : spells_a.tokens ≡ spells_b.tokens = parts.tokens text spells_a.tokens spells_b.tokens spells_a.lexed spells_b.lexed in
    let same : command_tokens a ≡ command_tokens b = sym spells_a.read.spelled ∙ tokens ∙ spells_b.read.spelled in
    command-same parts a b spells_a.read.grammatical spells_b.read.grammatical same (one_start a b same)
