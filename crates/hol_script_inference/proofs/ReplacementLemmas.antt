-- What arguments are read as one after another, and what INST and INST_TYPE answer for their pairs.
use Rattle.std.proofs.Common.{◌≡◌, ◌⊎◌, inl, inr, ℕ, List, [], ◌∷◌, ◌++◌, refl, sym, ◌∙◌, ap, subst, Option, None, Some, Result, Ok, Err}
use Rattle.std.proofs.lemmas.List.{append_assoc}
use Rattle.hol_model.specs.declared.fault.Fault.{Fault}
use Rattle.hol_model.specs.declared.fault.Fault.TheVariants.{Memory, UnknownName}
use Rattle.hol_model.specs.Kernel.Outcome.{given, AnswersSuch}
use Rattle.hol_model.specs.Terms.HolType.{HolType}
use Rattle.hol_model.specs.Terms.NamedTerm.{NamedTerm}
use Rattle.hol_model.specs.Texts.TypeGrammar.{TypeTree}
use Rattle.hol_model.specs.Texts.TermGrammar.{TermTree}
use Rattle.hol_model.specs.Texts.Reading.{◌>>=◌}
use Rattle.hol_model.specs.Kernel.Instantiation.{inst_refusal, IsInst, inst_type_refusal, IsInstType}
use Rattle.hol_model_sessions.specs.Commands.{by_inst, by_inst_type}
use Rattle.hol_model.specs.Kernel.Theorem.{Theorem}
use Rattle.hol_model_sessions.specs.Sessions.{State, scope_in, replacement, type_replacement, each, with_stored, IsAnswerFor}
use Rattle.hol_script_inference.specs.Answers.{AnswersRule}
use Rattle.hol_script_commands.specs.Views.{Match}

-- ---- one argument after another

-- what was read goes before what the others are read as
abbrev pub preceded : {B : Type 0} → List B → Result (List B) Fault → Result (List B) Fault
preceded done (Ok others) = Ok (done ++ others)
preceded done (Err fault) = Err fault

pub preceded-more : {B : Type 0} → (done : List B) (first : B) (read : Result (List B) Fault) → preceded done (read >>= λ others. Ok (first ∷ others)) ≡ preceded (done ++ first ∷ []) read
preceded-more done first (Ok others) = ap (λ xs. Ok xs) (sym (append_assoc done (first ∷ []) others))
preceded-more done first (Err fault) = refl

-- the items up to what is left were read as what is done
pub record IsReadTo {A X B : Type 0} (fact : X → A → Type 0) (read : A → Result B Fault) (left : List X) (done : List B) (trees : List A) : Type 0 where
  pub later : List A
  pub matched : Match fact left later
  pub same : each read trees ≡ preceded done (each read later)

pub read-further : {A X B : Type 0}
    → (fact : X → A → Type 0) (read : A → Result B Fault) (item : X) (left : List X) (done : List B) (first : B) (trees : List A)
    → IsReadTo fact read (item ∷ left) done trees
    → ((tree : A) → fact item tree → read tree ≡ Ok first) → IsReadTo fact read left (done ++ first ∷ []) trees
read-further fact read item left done first trees under reads = go under.later under.matched under.same
  where
    go : (later : List _) → Match fact (item ∷ left) later → each read trees ≡ preceded done (each read later) → IsReadTo fact read left (done ++ first ∷ []) trees
    go [] matched same = absurd matched
    go (tree ∷ later) matched same = record {
      later = later;
      matched = matched.1;
      same = same ∙ ap (λ r. preceded done (r >>= λ x. each read later >>= λ others. Ok (x ∷ others))) (reads tree matched.0) ∙ preceded-more done first (each read later);
    }

-- ---- what the rules answer

stored-is : {A : Type 0} → (read : Result A Fault) (theta : A) (state : State) (a : List ℕ) (found : Option Theorem) → read ≡ Ok theta → state.theorems a ≡ found
    → with_stored read state a ≡ given found UnknownName (λ theorem. Ok (theta, theorem))
stored-is read theta state a found is known =
    ap (λ r. with_stored r state a) is ∙ ap (λ (f : Option Theorem). given f UnknownName (λ theorem. Ok (theta, theorem))) known

-- what the rule answers for the pairs and the theorem
rule-answers : {A : Type 0} → (refusal : A → Theorem → Option Fault) (fact : A → Theorem → Theorem → Type 0) (read : Result A Fault) (theta : A) (state : State) (a : List ℕ) (theorem answer : Theorem)
    → read ≡ Ok theta → state.theorems a ≡ Some theorem → (refusal theta theorem ≡ None) × fact theta theorem answer → IsAnswerFor refusal fact (with_stored read state a) (Ok answer)
rule-answers refusal fact read theta state a theorem answer is known settled =
    subst (λ (r : Result (_ × Theorem) Fault). IsAnswerFor refusal fact r (Ok answer)) (sym (stored-is read theta state a (Some theorem) is known)) settled

rule-refused : {A : Type 0} → (refusal : A → Theorem → Option Fault) (fact : A → Theorem → Theorem → Type 0) (read : Result A Fault) (theta : A)
    (state : State) (a : List ℕ) (theorem : Theorem) (fault : Fault)
    → read ≡ Ok theta → state.theorems a ≡ Some theorem → (fault ≡ Memory) ⊎ (refusal theta theorem ≡ Some fault)
    → (fault ≡ Memory) ⊎ IsAnswerFor refusal fact (with_stored read state a) (Err fault)
rule-refused refusal fact read theta state a theorem fault is known (inl memory) = inl memory
rule-refused refusal fact read theta state a theorem fault is known (inr because) =
    inr (subst (λ (r : Result (_ × Theorem) Fault). IsAnswerFor refusal fact r (Err fault)) (sym (stored-is read theta state a (Some theorem) is known)) because)

pub inst-answers : (result : Result Theorem Fault) (state : State) (pairs : List (TermTree × TermTree)) (a : List ℕ)
    (theta : List (NamedTerm × NamedTerm)) (theorem : Theorem) → each (replacement (scope_in state)) pairs ≡ Ok theta
    → state.theorems a ≡ Some theorem → AnswersSuch result (inst_refusal state.theory theta theorem) (IsInst state.theory theta theorem) → AnswersRule result state (by_inst pairs a)
inst-answers (Ok answer) state pairs a theta theorem is known settled =
    rule-answers (inst_refusal state.theory) (IsInst state.theory) (each (replacement (scope_in state)) pairs) theta state a theorem answer is known settled
inst-answers (Err fault) state pairs a theta theorem is known settled =
    rule-refused (inst_refusal state.theory) (IsInst state.theory) (each (replacement (scope_in state)) pairs) theta state a theorem fault is known settled

pub inst_type-answers : (result : Result Theorem Fault) (state : State) (pairs : List (TypeTree × List ℕ)) (a : List ℕ)
    (theta : List (HolType × HolType)) (theorem : Theorem) → each (type_replacement (scope_in state)) pairs ≡ Ok theta
    → state.theorems a ≡ Some theorem → AnswersSuch result (inst_type_refusal state.theory theta theorem) (IsInstType state.theory theta theorem) → AnswersRule result state (by_inst_type pairs a)
inst_type-answers (Ok answer) state pairs a theta theorem is known settled =
    rule-answers (inst_type_refusal state.theory) (IsInstType state.theory) (each (type_replacement (scope_in state)) pairs) theta state a theorem answer is known settled
inst_type-answers (Err fault) state pairs a theta theorem is known settled =
    rule-refused (inst_type_refusal state.theory) (IsInstType state.theory) (each (type_replacement (scope_in state)) pairs) theta state a theorem fault is known settled
