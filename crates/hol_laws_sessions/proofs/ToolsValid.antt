-- Refiners answer valid steps in a session.
use Rattle.std.proofs.Common.{◌≡◌, ℕ, List, [], sym, subst, Result, Ok}
use Rattle.hol_model.specs.declared.fault.Fault.{Fault}
use Rattle.hol_model.specs.Terms.HolType.{HolType}
use Rattle.hol_model.specs.Terms.NamedTerm.{NamedTerm}
use Rattle.hol_model.specs.Terms.Nameless.{image}
use Rattle.hol_model.specs.Logic.Theory.{Theory, IsKnown}
use Rattle.hol_model.specs.Texts.TermGrammar.{TermTree}
use Rattle.hol_model.specs.Texts.Reading.{meaning, ◌>>=◌}
use Rattle.hol_model.proofs.Logic.KnownTerms.{image-known}
use Rattle.hol_model.specs.Goals.Replays.{sequents_in, has_room}
use Rattle.hol_model.specs.Refining.HostFunctions.{Host as HostFunctions}
use Rattle.hol_model.specs.Refining.Combinators as combinators
use Rattle.hol_model.specs.Refining.Combinators.{Stage, at}
use Rattle.hol_model_sessions.specs.TacticGrammar.{PlainTactic, AllTac, NoTac, AssumptionTac, ReflTac, ConjTac, EqTac, Disj1Tac, Disj2Tac, DischTac, GenTac, TautTac, NamedTactic, AcceptTac}
use Rattle.hol_model_sessions.specs.TacticGrammar.{AssumeTac, MpTac, DisjCasesTac, ChooseTac, Host, QuotedTactic, ExistsTac, UndischTac, TacticLeaf, plain, by_name, by_quote, conv_tac}
use Rattle.hol_model_sessions.specs.TacticGrammar.{rewrite_tac, Tactic, then_chain, TacticLinks, no_more_then, then_all, then_each, Tactics, no_tactics, tactic_and, TacticChoice, orelse_chain}
use Rattle.hol_model_sessions.specs.TacticGrammar.{OtherTactics, no_more_orelse, orelse, TacticUnit, repeated, tried, enclosed, leaf, read_leaf, read_tactic, read_links, read_tactics}
use Rattle.hol_model_sessions.specs.TacticGrammar.{read_choice, read_others, read_unit}
use Rattle.hol_model.specs.Goals.GoalStates.{Expansion}
use Rattle.hol_model.specs.Kernel.Answers.{goes_on, stops}
use Rattle.hol_laws_sessions.specs.ReadTerms.{IsKnownTyped}
use Rattle.hol_model_sessions.specs.ScriptSessions.{scope_in, store_in, with_lemmas}
use Rattle.hol_laws_refiners.proofs.Lemmas.{refiners-answer-valid}
use Rattle.hol_laws_refiners.proofs.StopsRunning.{refiners-spend}
use Rattle.hol_laws_goals.proofs.Passing.{followed, passes_tests}
use Rattle.hol_laws_sessions.proofs.KnownReadings.{read_terms-known}
use Rattle.hol_model_sessions.specs.SessionTools.{over_lemmas, of_plain, of_named, of_quoted, tactic_of_leaf, then_on, or_else, tactic_of, links_of, tactics_of, tactic_of_choice, others_of}
use Rattle.hol_model_sessions.specs.SessionTools.{tactic_of_unit}
use Rattle.hol_model.specs.Refining.RefinerConditions.{HasKnownWitness, HasKnownWitnesses, HaveKnownWitnesses, HaveKnownWitnessesInLinks}
use Rattle.hol_laws_sessions.specs.ToolLaws.{ToolsRefineValidly, ExpansionSpends, ExpansionsSpend}

same_ok : {A : Type 0} (x y : A) → ◌≡◌ {A = Result A Fault} (Ok x) (Ok y) → y ≡ x
same_ok x y same = cc

module _ (theory : Theory) (read : TermTree → Result NamedTerm Fault) (reads : (tree : TermTree) (term : NamedTerm) → read tree ≡ Ok term → IsKnownTyped theory term) where
  then_on-known : (first : combinators.Tactic) (links : combinators.Links) → HasKnownWitnesses theory first → HaveKnownWitnessesInLinks theory links → HasKnownWitnesses theory (then_on first links)
  then_on-known first combinators.no_link known more = known
  then_on-known first (combinators.link next links) known more = (known, more)

  or_else-known : (first : combinators.Tactic) (others : combinators.Tactics) → HasKnownWitnesses theory first → HaveKnownWitnesses theory others → HasKnownWitnesses theory (or_else first others)
  or_else-known first combinators.no_more known more = known
  or_else-known first (combinators.more next others) known more = (known, more)

  plain-known : (tactic : PlainTactic) → HasKnownWitness theory (of_plain tactic)
  plain-known AllTac = tt
  plain-known NoTac = tt
  plain-known AssumptionTac = tt
  plain-known ReflTac = tt
  plain-known ConjTac = tt
  plain-known EqTac = tt
  plain-known Disj1Tac = tt
  plain-known Disj2Tac = tt
  plain-known DischTac = tt
  plain-known GenTac = tt
  plain-known TautTac = tt

  named-known : (tactic : NamedTactic) (name : List ℕ) → HasKnownWitnesses theory (of_named tactic name)
  named-known AcceptTac name = tt
  named-known AssumeTac name = tt
  named-known MpTac name = tt
  named-known DisjCasesTac name = tt
  named-known ChooseTac name = tt
  named-known Host name = tt

  term-known : (tree : TermTree) (term : NamedTerm) → read tree ≡ Ok term → (ty : HolType) × IsKnown theory (image term) ty
  term-known tree term is =
      let known = reads tree term is in
      let tests = passes_tests theory term known.known in
      (known.ty, image-known theory term known.ty known.typed tests.types tests.instances)

  quoted-known : (tactic : QuotedTactic) (tree : TermTree) (term : NamedTerm) → read tree ≡ Ok term → HasKnownWitness theory (of_quoted tactic term)
  quoted-known ExistsTac tree term is = term-known tree term is
  quoted-known UndischTac tree term is = tt

  leaf-known : (tree : TacticLeaf TermTree) (tactic : TacticLeaf NamedTerm) → read_leaf read tree ≡ Ok tactic → HasKnownWitnesses theory (tactic_of_leaf tactic)
  leaf-known (plain t) tactic is = subst (λ (l : TacticLeaf NamedTerm). HasKnownWitnesses theory (tactic_of_leaf l)) (sym (same_ok (plain t) tactic is)) (plain-known t)
  leaf-known (by_name t name) tactic is = subst (λ (l : TacticLeaf NamedTerm). HasKnownWitnesses theory (tactic_of_leaf l)) (sym (same_ok (by_name t name) tactic is)) (named-known t name)
  leaf-known (by_quote t tree) tactic is =
      let f = followed (read tree) (λ term. Ok (by_quote t term)) tactic is in
      subst (λ (l : TacticLeaf NamedTerm). HasKnownWitnesses theory (tactic_of_leaf l)) (sym (same_ok (by_quote t f.value) tactic f.is)) (quoted-known t tree f.value f.is_read)
  leaf-known (conv_tac c) tactic is = subst (λ (l : TacticLeaf NamedTerm). HasKnownWitnesses theory (tactic_of_leaf l)) (sym (same_ok (conv_tac c) tactic is)) tt
  leaf-known (rewrite_tac names) tactic is = subst (λ (l : TacticLeaf NamedTerm). HasKnownWitnesses theory (tactic_of_leaf l)) (sym (same_ok (rewrite_tac names) tactic is)) tt

  mutual
    pub tactic-known : (tree : Tactic TermTree) (tactic : Tactic NamedTerm) → read_tactic read tree ≡ Ok tactic → HasKnownWitnesses theory (tactic_of tactic)
    tactic-known (then_chain first links) tactic is =
        let f = followed (read_choice read first) (λ choice. read_links read links >>= λ others. Ok (then_chain choice others)) tactic is in
        let g = followed (read_links read links) (λ others. Ok (then_chain f.value others)) tactic f.is in
        subst (λ (t : Tactic NamedTerm). HasKnownWitnesses theory (tactic_of t)) (sym (same_ok (then_chain f.value g.value) tactic g.is))
        (then_on-known (tactic_of_choice f.value) (links_of g.value) (choice-known first f.value f.is_read) (links-known links g.value g.is_read))

    links-known : (tree : TacticLinks TermTree) (links : TacticLinks NamedTerm) → read_links read tree ≡ Ok links → HaveKnownWitnessesInLinks theory (links_of links)
    links-known no_more_then links is = subst (λ (l : TacticLinks NamedTerm). HaveKnownWitnessesInLinks theory (links_of l)) (sym (same_ok no_more_then links is)) tt
    links-known (then_all choice more) links is =
        let f = followed (read_choice read choice) (λ first. read_links read more >>= λ others. Ok (then_all first others)) links is in
        let g = followed (read_links read more) (λ others. Ok (then_all f.value others)) links f.is in
        subst (λ (l : TacticLinks NamedTerm). HaveKnownWitnessesInLinks theory (links_of l)) (sym (same_ok (then_all f.value g.value) links g.is))
        (choice-known choice f.value f.is_read, links-known more g.value g.is_read)
    links-known (then_each list more) links is =
        let f = followed (read_tactics read list) (λ first. read_links read more >>= λ others. Ok (then_each first others)) links is in
        let g = followed (read_links read more) (λ others. Ok (then_each f.value others)) links f.is in
        subst (λ (l : TacticLinks NamedTerm). HaveKnownWitnessesInLinks theory (links_of l)) (sym (same_ok (then_each f.value g.value) links g.is))
        (list-known list f.value f.is_read, links-known more g.value g.is_read)

    list-known : (tree : Tactics TermTree) (list : Tactics NamedTerm) → read_tactics read tree ≡ Ok list → HaveKnownWitnesses theory (tactics_of list)
    list-known no_tactics list is = subst (λ (l : Tactics NamedTerm). HaveKnownWitnesses theory (tactics_of l)) (sym (same_ok no_tactics list is)) tt
    list-known (tactic_and tactic more) list is =
        let f = followed (read_tactic read tactic) (λ first. read_tactics read more >>= λ others. Ok (tactic_and first others)) list is in
        let g = followed (read_tactics read more) (λ others. Ok (tactic_and f.value others)) list f.is in
        subst (λ (l : Tactics NamedTerm). HaveKnownWitnesses theory (tactics_of l)) (sym (same_ok (tactic_and f.value g.value) list g.is))
        (tactic-known tactic f.value f.is_read, list-known more g.value g.is_read)

    choice-known : (tree : TacticChoice TermTree) (choice : TacticChoice NamedTerm) → read_choice read tree ≡ Ok choice → HasKnownWitnesses theory (tactic_of_choice choice)
    choice-known (orelse_chain first more) choice is =
        let f = followed (read_unit read first) (λ unit. read_others read more >>= λ others. Ok (orelse_chain unit others)) choice is in
        let g = followed (read_others read more) (λ others. Ok (orelse_chain f.value others)) choice f.is in
        subst (λ (c : TacticChoice NamedTerm). HasKnownWitnesses theory (tactic_of_choice c)) (sym (same_ok (orelse_chain f.value g.value) choice g.is))
        (or_else-known (tactic_of_unit f.value) (others_of g.value) (unit-known first f.value f.is_read) (others-known more g.value g.is_read))

    others-known : (tree : OtherTactics TermTree) (others : OtherTactics NamedTerm) → read_others read tree ≡ Ok others → HaveKnownWitnesses theory (others_of others)
    others-known no_more_orelse others is = subst (λ (l : OtherTactics NamedTerm). HaveKnownWitnesses theory (others_of l)) (sym (same_ok no_more_orelse others is)) tt
    others-known (orelse unit more) others is =
        let f = followed (read_unit read unit) (λ first. read_others read more >>= λ rest. Ok (orelse first rest)) others is in
        let g = followed (read_others read more) (λ rest. Ok (orelse f.value rest)) others f.is in
        subst (λ (l : OtherTactics NamedTerm). HaveKnownWitnesses theory (others_of l)) (sym (same_ok (orelse f.value g.value) others g.is))
        (unit-known unit f.value f.is_read, others-known more g.value g.is_read)

    unit-known : (tree : TacticUnit TermTree) (unit : TacticUnit NamedTerm) → read_unit read tree ≡ Ok unit → HasKnownWitnesses theory (tactic_of_unit unit)
    unit-known (repeated operand) unit is =
        let f = followed (read_unit read operand) (λ u. Ok (repeated u)) unit is in
        subst (λ (u : TacticUnit NamedTerm). HasKnownWitnesses theory (tactic_of_unit u)) (sym (same_ok (repeated f.value) unit f.is)) (unit-known operand f.value f.is_read)
    unit-known (tried operand) unit is =
        let f = followed (read_unit read operand) (λ u. Ok (tried u)) unit is in
        subst (λ (u : TacticUnit NamedTerm). HasKnownWitnesses theory (tactic_of_unit u)) (sym (same_ok (tried f.value) unit f.is)) (unit-known operand f.value f.is_read)
    unit-known (enclosed tactic) unit is =
        let f = followed (read_tactic read tactic) (λ inner. Ok (enclosed inner)) unit is in
        subst (λ (u : TacticUnit NamedTerm). HasKnownWitnesses theory (tactic_of_unit u)) (sym (same_ok (enclosed f.value) unit f.is)) (tactic-known tactic f.value f.is_read)
    unit-known (leaf tactic) unit is =
        let f = followed (read_leaf read tactic) (λ refiner. Ok (leaf refiner)) unit is in
        subst (λ (u : TacticUnit NamedTerm). HasKnownWitnesses theory (tactic_of_unit u)) (sym (same_ok (leaf f.value) unit f.is)) (leaf-known tactic f.value f.is_read)

pub tools-valid : (host : HostFunctions) → ToolsRefineValidly host
tools-valid host steps state logic store over = record {
  room = λ lemmas justification. has_room state.library.theory (sequents_in (store_in (with_lemmas state lemmas))) [] justification;
  valid = λ tree tactic goal refinement is_read known runs.
      let good = refiners-answer-valid host state.library.theory (at (store_in state) steps) (at (over_lemmas (store_in state) refinement.lemmas) refinement.left) (tactic_of tactic) goal
      refinement.step logic store
      (tactic-known state.library.theory (meaning (scope_in state) []) (λ term_tree term is. read_terms-known state.library.theory (scope_in state) logic.legal over term_tree term is) tree
      tactic is_read)
      known runs in
      record { valid = good.valid; known = good.known };
  lemmas = λ tactic goal refinement runs.
      let later = (refiners-spend host state.library.theory).spends (at (store_in state) steps) (at (over_lemmas (store_in state) refinement.lemmas) refinement.left) (tactic_of tactic) goal
      (Ok refinement.step) runs in
      record { added = later.added; is_added = later.lemmas };
  replays = λ lemmas justification answer is. is;
}

pub expansions-spend : (host : HostFunctions) → ExpansionsSpend host
expansions-spend host theory before tactic found expansion (stops fault is same) = cc
expansions-spend host theory before tactic found expansion (goes_on focus is_focus (stops fault is same)) = cc
expansions-spend host theory before tactic found expansion (goes_on focus is_focus (goes_on refinement is_refined (stops fault is same))) = cc
expansions-spend host theory before tactic found expansion (goes_on focus is_focus (goes_on refinement is_refined (goes_on proof is_expanded same))) =
    let law = refiners-spend host theory in
    let reached : Stage = at (over_lemmas before.store refinement.lemmas) refinement.left in
    let made : Expansion = record { proof = proof; lemmas = refinement.lemmas; left = refinement.left } in
    let one : expansion ≡ made = cc in
    subst (λ (e : Expansion). ExpansionSpends host theory before tactic found e) (sym one) (record {
      later = law.spends before reached tactic focus.goal (Ok refinement.step) is_refined;
      costs = law.costs before reached tactic focus.goal (Ok refinement.step) is_refined;
    })
