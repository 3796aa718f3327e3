-- The steps of the code, with the steps of their types, do what the steps of a tree do.
use Rattle.std.proofs.Common.{◌≡◌, inl, inr, ⊎_elim, ℕ, suc, ◌+◌, ◌<◌, ◌≤◌, List, [], ◌∷◌, reverse, length, drop, get_or, Result, Ok, Err, refl, sym, ap, ◌∙◌, subst, arith, drop-cons, add-one}
use Rattle.std.proofs.Common.{Bool, true, false, if◌then◌else◌}
use Rattle.std.proofs.lemmas.List.{drop-map, nil_from_length, length-drop, length-map}
use Rattle.hol_model.specs.declared.fault.Fault.{Fault}
use Rattle.hol_model.specs.declared.fault.Fault.TheVariants.{BadName}
use Rattle.hol_model.specs.Terms.Name.{is_identifier}
use Rattle.hol_model.specs.Terms.HolType.{HolType}
use Rattle.hol_model.specs.Terms.NamedTerm.{NamedTerm, variable}
use Rattle.hol_model.specs.Texts.Token.{Token, token_text}
use Rattle.hol_model.specs.Texts.TypeGrammar.{TypeTree, type_steps}
use Rattle.hol_model.specs.Texts.TermGrammar.{Bare, Variable, Constant, TermTree}
use Rattle.hol_model.specs.Texts.Reading.{Scope, ◌>>=◌, named_variable, named_binding, meaning}
use Rattle.hol_model.specs.Kernel.Outcome.{Answers}
use Rattle.hol_syntax_grammar.specs.declared.steps.TermStep.{TermStep as HeldStep}
use Rattle.hol_syntax.specs.declared.evaluate.Evaluator.{Evaluator}
use Rattle.hol_syntax_grammar.specs.Steps.{flat_step_of, flat_steps_of}
use Rattle.hol_syntax_grammar.specs.TermSteps.{TermStep, TakeAtom, MakeApply, MakeNot, MakeJoin, EnterBinder, LeaveBinder, FlatStep, FlatBare, FlatVariable, FlatConstant, FlatApply, FlatNot}
use Rattle.hol_syntax_grammar.specs.TermSteps.{FlatJoin, FlatEnter, FlatLeave, flat_step, flat_steps, term_steps, Workspace, enter, take_step, exec_term}
use Rattle.hol_syntax.specs.OpenBinders.{IsOpened, Enters}
use Rattle.hol_syntax.specs.Evaluating.{IsHeld, Arrives}
use Rattle.hol_syntax.proofs.TermBuilding.{builds_all}

-- which steps have this flat form
abbrev pub Unflattens : FlatStep → TermStep → Type 0
Unflattens (FlatBare name) step = step ≡ TakeAtom (Bare name)
Unflattens (FlatVariable name types) step = (tree : TypeTree) × (step ≡ TakeAtom (Variable name tree)) × (types ≡ type_steps tree)
Unflattens (FlatConstant name types) step = (token : Token) × (tree : TypeTree) × (step ≡ TakeAtom (Constant token tree)) × (name ≡ token_text token) × (types ≡ type_steps tree)
Unflattens FlatApply step = step ≡ MakeApply
Unflattens FlatNot step = step ≡ MakeNot
Unflattens (FlatJoin i) step = step ≡ MakeJoin i
Unflattens (FlatEnter name types) step = (tree : TypeTree) × (step ≡ EnterBinder name tree) × (types ≡ type_steps tree)
Unflattens (FlatLeave q) step = step ≡ LeaveBinder q

unflattened : (step : TermStep) → Unflattens (flat_step step) step
unflattened (TakeAtom (Bare name)) = refl
unflattened (TakeAtom (Variable name tree)) = (tree, refl, refl)
unflattened (TakeAtom (Constant token tree)) = (token, tree, refl, refl, refl)
unflattened MakeApply = refl
unflattened MakeNot = refl
unflattened (MakeJoin i) = refl
unflattened (EnterBinder name tree) = (tree, refl, refl)
unflattened (LeaveBinder q) = refl

pub unflatten : (flat : FlatStep) (step : TermStep) → flat ≡ flat_step step → Unflattens flat step
unflatten flat step e = let P : FlatStep → Type 0 = λ f. Unflattens f step in subst P (sym e) (unflattened step)

-- the code holds what all the steps but the rest made, from nothing
pub record IsUnderway (scope : Scope) (here : Evaluator) (rest whole : List TermStep) : Type 0 where
  pub work : Workspace
  pub held : IsHeld here work
  pub same : exec_term scope rest work ≡ exec_term scope whole ([], [])

pub begun : (scope : Scope) (here : Evaluator) (whole : List TermStep) → IsOpened here.binders [] → here.terms.items ≡ [] → IsUnderway scope here whole whole
begun scope here whole b t = record {
  work = ([], []);
  held = record { binders = b; terms = ap reverse t };
  same = refl;
}

cons_same : {A : Type 0} (x : A) (xs ys : List A) → (y : A) → x ∷ xs ≡ y ∷ ys → (x ≡ y) × (xs ≡ ys)
cons_same x xs ys y e = (cc, cc)

-- Where the first of the rest is taken.
pub record IsNext (flat : FlatStep) (others : List FlatStep) (rest : List TermStep) : Type 0 where
  pub step : TermStep
  pub later : List TermStep
  pub is : rest ≡ step ∷ later
  pub first : flat ≡ flat_step step
  pub further : others ≡ flat_steps later

pub next : (flat : FlatStep) (others : List FlatStep) (rest : List TermStep) → flat ∷ others ≡ flat_steps rest → IsNext flat others rest
next flat others [] e = absurd (let bad : flat ∷ others ≡ [] = e in cc)
next flat others (step ∷ later) e =
    let same = cons_same flat others (flat_steps later) (flat_step step) e in
    record { step = step; later = later; is = refl; first = same.0; further = same.1 }

-- a step that is taken
pub goes_on : (scope : Scope) (here now : Evaluator) (flat : FlatStep) (others : List FlatStep) (rest whole : List TermStep) (x : Unit {0})
    → ((taken : TermStep) (work : Workspace) → flat ≡ flat_step taken → IsHeld here work → Arrives (Ok x) now (take_step scope taken work))
    → flat ∷ others ≡ flat_steps rest → IsUnderway scope here rest whole → (later : List TermStep) × (others ≡ flat_steps later) × IsUnderway scope now later whole
goes_on scope here now flat others rest whole x takes e under =
    let n = next flat others rest e in
    let arrived = takes n.step under.work n.first under.held in (
      n.later,
      n.further,
      record {
        work = arrived.work;
        held = arrived.held;
        same = sym (ap (λ r. r >>= exec_term scope n.later) arrived.is) ∙ sym (ap (λ l. exec_term scope l under.work) n.is) ∙ under.same;
      },
    )

-- a term by itself
abbrev alone : NamedTerm → Result Workspace Fault
alone t = Ok ([], t ∷ [])

-- a step that is refused
pub refused : (scope : Scope) (here now : Evaluator) (flat : FlatStep) (others : List FlatStep) (rest : List TermStep) (tree : TermTree) (fault : Fault)
    → ((taken : TermStep) (work : Workspace) → flat ≡ flat_step taken → IsHeld here work → Arrives (Err fault) now (take_step scope taken work))
    → flat ∷ others ≡ flat_steps rest → IsUnderway scope here rest (term_steps tree) → Answers {A = NamedTerm} (Err fault) (meaning scope [] tree)
refused scope here now flat others rest tree fault takes e under =
    let n = next flat others rest e in
    ⊎_elim (λ m. inl m)
    (λ is.
    let made : exec_term scope rest under.work ≡ Err fault = ap (λ l. exec_term scope l under.work) n.is ∙ ap (λ r. r >>= exec_term scope n.later) is in
    inr (go (meaning scope [] tree) (sym (builds_all scope tree) ∙ sym under.same ∙ made)))
    (takes n.step under.work n.first under.held)
  where
    go : (found : Result NamedTerm Fault) → (found >>= alone) ≡ Err fault → found ≡ Err fault
    go (Ok t) k = absurd (let bad : ◌≡◌ {A = Result Workspace Fault} (alone t) (Err fault) = k in cc)
    go (Err f) k = let bad : ◌≡◌ {A = Result Workspace Fault} (Err f) (Err fault) = k in let same : f ≡ fault = cc in ap (λ y. Err y) same

-- at the end the term of the tree waits alone
pub ended : (scope : Scope) (here : Evaluator) (rest : List TermStep) (tree : TermTree) → [] ≡ flat_steps rest → IsUnderway scope here rest (term_steps tree)
    → (term : NamedTerm) × (meaning scope [] tree ≡ Ok term) × (reverse here.terms.items ≡ term ∷ [])
ended scope here (step ∷ rest) tree e under = absurd (let bad : [] ≡ flat_step step ∷ flat_steps rest = e in cc)
ended scope here [] tree e under = go (meaning scope [] tree) (sym (builds_all scope tree) ∙ sym under.same)
  where
    go : (found : Result NamedTerm Fault) → (found >>= alone) ≡ Ok under.work → (term : NamedTerm) × (found ≡ Ok term) × (reverse here.terms.items ≡ term ∷ [])
    go (Err f) k = absurd (let bad : ◌≡◌ {A = Result Workspace Fault} (Err f) (Ok under.work) = k in cc)
    go (Ok t) k =
        let whole : ◌≡◌ {A = Result Workspace Fault} (Ok ([], t ∷ [])) (Ok under.work) = k in
        let same : ◌≡◌ {A = Workspace} ([], t ∷ []) under.work = cc in
        (t, refl, under.held.terms ∙ sym (ap (λ w. w.1) same))

-- the step at an index, and what follows it
pub step_at : (steps : List HeldStep) (i : ℕ) (step : HeldStep) → i < length steps → step ≡ get_or steps i step
    → drop i (flat_steps_of steps) ≡ flat_step_of step ∷ drop (i + 1) (flat_steps_of steps)
step_at steps i step h e =
    drop-map flat_step_of i steps ∙ ap flat_steps_of (drop-cons steps i step h) ∙ ap (λ s. flat_step_of s ∷ flat_steps_of (drop (suc i) steps)) (sym e)
    ∙ ap (λ r. flat_step_of step ∷ r) (sym (drop-map flat_step_of (suc i) steps)) ∙ ap (λ k. flat_step_of step ∷ drop k (flat_steps_of steps)) (sym (add-one i))

-- no step is left past the last
pub all_taken : (steps : List HeldStep) (i : ℕ) → length steps ≤ i → drop i (flat_steps_of steps) ≡ []
all_taken steps i h = nil_from_length (drop i (flat_steps_of steps)) (omega (arith, length-drop i (flat_steps_of steps), length-map steps flat_step_of))

-- a binder is opened where its variable is made
pub entered : (meant : Result HolType Fault) (name : List ℕ) (ty : HolType) (made : NamedTerm) (result : Result (Unit {0}) Fault) (now : Evaluator) (work : Workspace)
    → meant ≡ Ok ty → named_variable name ty ≡ Ok made → reverse now.terms.items ≡ work.1 → (made ≡ variable name ty → Enters result now.binders name ty work.0)
    → Arrives result now ((meant >>= named_binding name) >>= enter work)
entered meant name ty made result now work typed named terms enters =
    subst (λ r. Arrives result now ((r >>= named_binding name) >>= enter work)) (sym typed) (go (is_identifier name) named)
  where
    here : (answer : Result (Unit {0}) Fault) → Enters answer now.binders name ty work.0 → Arrives answer now (Ok ((name, ty) ∷ work.0, work.1))
    here (Ok x) opened = record { work = ((name, ty) ∷ work.0, work.1); is = refl; held = record { binders = opened; terms = terms } }
    here (Err fault) memory = inl memory

    go : (b : Bool) → (if b then Ok (variable name ty) else Err BadName) ≡ Ok made → Arrives result now ((if b then Ok (name, ty) else Err BadName) >>= enter work)
    go true k =
        let whole : ◌≡◌ {A = Result NamedTerm Fault} (Ok (variable name ty)) (Ok made) = k in
        let same : made ≡ variable name ty = cc in
        here result (enters same)
    go false k = absurd (let bad : ◌≡◌ {A = Result NamedTerm Fault} (Err BadName) (Ok made) = k in cc)

-- a binder whose variable is not made
pub unentered : (meant : Result HolType Fault) (name : List ℕ) (ty : HolType) (fault : Fault) (now : Evaluator) (work : Workspace)
    → meant ≡ Ok ty → Answers {A = NamedTerm} (Err fault) (named_variable name ty) → Arrives (Err fault) now ((meant >>= named_binding name) >>= enter work)
unentered meant name ty fault now work typed =
    subst (λ r. Answers {A = NamedTerm} (Err fault) (named_variable name ty) → Arrives (Err fault) now ((r >>= named_binding name) >>= enter work)) (sym typed)
    (⊎_elim (λ memory. inl memory) (λ e. inr (go (is_identifier name) e)))
  where
    go : (b : Bool) → (if b then Ok (variable name ty) else Err BadName) ≡ Err fault → ((if b then Ok (name, ty) else Err BadName) >>= enter work) ≡ Err fault
    go true k = absurd (let bad : ◌≡◌ {A = Result NamedTerm Fault} (Ok (variable name ty)) (Err fault) = k in cc)
    go false k =
        let whole : ◌≡◌ {A = Result NamedTerm Fault} (Err BadName) (Err fault) = k in
        let same : BadName ≡ fault = cc in
        ap (λ y. Err y) same
