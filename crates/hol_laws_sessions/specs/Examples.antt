-- What the definitions say of small texts.
use Rattle.std.specs.Prelude.{◌≡◌, true, false, [], ◌∷◌, Some, Ok, Err, codes}
use Rattle.hol_model.specs.declared.fault.Fault.TheVariants.{NotTautology, NothingToUndo}
use Rattle.hol_model.specs.declared.symbol.Symbol.TheVariants.{OpenParenthesis, CloseParenthesis, OpenBracket, CloseBracket, Semicolon}
use Rattle.hol_model.specs.Terms.HolType.{bool_type}
use Rattle.hol_model.specs.Terms.NamedTerm.{NamedTerm, variable, constant}
use Rattle.hol_model.specs.Texts.Token.{Name, Mark}
use Rattle.hol_model.specs.Texts.TermGrammar.{TermTree}
use Rattle.hol_model.specs.Texts.Reading.{truth_operation, infix_term}
use Rattle.hol_model.specs.Goals.Justifications.{sub}
use Rattle.hol_model.specs.Goals.ValidSteps.{Step}
use Rattle.hol_model_sessions.specs.ConversionGrammar.{thenc_chain, no_more_thenc, orelsec_chain, no_more_orelsec, Repeatc, rewr_conv, prefixed}
use Rattle.hol_model_sessions.specs.ConversionGrammar.{enclosed as enclosed_conversion, leaf as conversion_leaf}
use Rattle.hol_model_sessions.specs.TacticGrammar.{Tactic, then_chain, no_more_then, then_all, then_each, no_tactics, tactic_and, TacticChoice, orelse_chain, no_more_orelse, orelse, TacticUnit}
use Rattle.hol_model_sessions.specs.TacticGrammar.{repeated, leaf, plain, conv_tac, rewrite_tac, GenTac, DischTac, AssumptionTac, ConjTac, AllTac, tactic_tokens, tactic_depth}
use Rattle.hol_model.specs.Goals.GoalStates.{underway, Proof, goal_of, begun, advanced, rotated, back_outcome, rotate_outcome}
use Rattle.hol_model_sessions.specs.Replies.{text_of_goals, goals_text, row_text}
use Rattle.hol_model_sessions.specs.ScriptSessions.{start, scope_in, row_of_fault}

-- ---- expressions

abbrev pub one : TacticUnit TermTree → TacticChoice TermTree
one unit = orelse_chain unit no_more_orelse

abbrev pub alone : TacticUnit TermTree → Tactic TermTree
alone unit = then_chain (one unit) no_more_then

-- GEN_TAC THEN REPEAT DISCH_TAC THEN ASSUMPTION_TAC
abbrev pub introduction : Tactic TermTree
introduction =
    then_chain (one (leaf (plain GenTac))) (then_all (one (repeated (leaf (plain DischTac)))) (then_all (one (leaf (plain AssumptionTac))) no_more_then))

-- CONJ_TAC THENL [ALL_TAC; REWRITE_TAC [a; b]]
abbrev pub apart : Tactic TermTree
apart =
    then_chain (one (leaf (plain ConjTac)))
    (then_each (tactic_and (alone (leaf (plain AllTac))) (tactic_and (alone (leaf (rewrite_tac (codes "a" ∷ codes "b" ∷ [])))) no_tactics)) no_more_then)

-- CONV_TAC (REPEATC (REWR_CONV comm)) ORELSE ALL_TAC
abbrev pub conversion_or_none : Tactic TermTree
conversion_or_none =
    then_chain
    (orelse_chain
    (leaf (conv_tac (enclosed_conversion (thenc_chain (orelsec_chain (prefixed Repeatc
    (enclosed_conversion (thenc_chain (orelsec_chain (conversion_leaf (rewr_conv (codes "comm"))) no_more_orelsec) no_more_thenc))) no_more_orelsec) no_more_thenc))))
    (orelse (leaf (plain AllTac)) no_more_orelse))
    no_more_then

pub record ExpressionsAreSpelled : Type 0 where
  pub first : tactic_tokens introduction []
      ≡ Name (codes "GEN_TAC") ∷ Name (codes "THEN") ∷ Name (codes "REPEAT") ∷ Name (codes "DISCH_TAC") ∷ Name (codes "THEN") ∷ Name (codes "ASSUMPTION_TAC") ∷ []
  pub second : tactic_tokens apart []
      ≡ Name (codes "CONJ_TAC") ∷ Name (codes "THENL") ∷ Mark OpenBracket ∷ Name (codes "ALL_TAC") ∷ Mark Semicolon ∷ Name (codes "REWRITE_TAC") ∷ Mark OpenBracket
      ∷ Name (codes "a") ∷ Mark Semicolon ∷ Name (codes "b") ∷ Mark CloseBracket ∷ Mark CloseBracket ∷ []
  pub second_depth : tactic_depth apart ≡ 2
  pub third : tactic_tokens conversion_or_none []
      ≡ Name (codes "CONV_TAC") ∷ Mark OpenParenthesis ∷ Name (codes "REPEATC") ∷ Mark OpenParenthesis ∷ Name (codes "REWR_CONV") ∷ Name (codes "comm")
      ∷ Mark CloseParenthesis ∷ Mark CloseParenthesis ∷ Name (codes "ORELSE") ∷ Name (codes "ALL_TAC") ∷ []
  pub third_depth : tactic_depth conversion_or_none ≡ 3

-- ---- goals

abbrev pub truth : NamedTerm
truth = constant (codes "T") bool_type

abbrev pub truth_twice : NamedTerm
truth_twice = infix_term (codes "==>") truth_operation truth truth

abbrev pub p : NamedTerm
p = variable (codes "p") bool_type

-- the goals T and T ==> T are open
abbrev pub two_open : Step
two_open = record { goals = goal_of truth ∷ goal_of truth_twice ∷ []; justification = sub 0 }

abbrev pub two_goals : Proof
two_goals = advanced (begun (goal_of truth)) (underway two_open)

abbrev pub turned : Step
turned = record { goals = goal_of truth_twice ∷ goal_of truth ∷ []; justification = sub 1 }

pub record GoalsAreKept : Type 0 where
  pub stays : rotated 2 two_open ≡ two_open
  pub turns : rotate_outcome (Some two_goals) 1 ≡ Ok (advanced two_goals (underway turned))
  pub goes_back : back_outcome (Some (advanced two_goals (underway turned))) ≡ Ok two_goals
  pub goes_back_again : back_outcome (Some two_goals) ≡ Ok (begun (goal_of truth))
  pub ends : back_outcome (Some (begun (goal_of truth))) ≡ Err NothingToUndo

-- ---- texts

pub record TextsAreSaid : Type 0 where
  pub none : text_of_goals (scope_in start) [] ≡ codes "No subgoals\n"
  pub first : text_of_goals (scope_in start) (goal_of truth_twice ∷ []) ≡ codes "1 subgoal\n?- T ==> T\n"
  pub lines : goals_text (scope_in start) (record { assumptions = p ∷ p ∷ []; target = p } ∷ goal_of truth ∷ []) ≡ codes "(p:bool), (p:bool) ?- (p:bool)\n?- T\n"
  pub row : row_text (scope_in start) (row_of_fault (p ∷ variable (codes "q") bool_type ∷ []) (NotTautology 2 (true ∷ false ∷ false ∷ []))) ≡ codes " (p:bool)=T, (q:bool)=F"
  pub no_atoms : row_text (scope_in start) (row_of_fault [] (NotTautology 0 (false ∷ []))) ≡ []
