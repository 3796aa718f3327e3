-- REPEATC and TOP_DEPTH_CONV by chains.
use Rattle.std.proofs.Common.{◌≡◌, ℕ, ◌<◌, ◌≤◌, List, [], Bool, true, false, not, ◌&&◌, inl, inr, refl, sym, ap, subst, arith, if◌then◌else◌, Some, None, Result, Ok, Err}
use Rattle.hol_model.specs.declared.fault.Fault.{Fault}
use Rattle.hol_model.specs.declared.fault.Fault.TheVariants.{Memory, TooLarge, UnknownType, UnknownConst, NotInstance}
use Rattle.hol_model.specs.Terms.NamedTerm.{NamedTerm, equation, is_within_limits}
use Rattle.hol_model.specs.Logic.Theory.{Theory}
use Rattle.hol_model.specs.Logic.KnownTerm.{knows_types, knows_constants, has_instances, is_known}
use Rattle.hol_model.specs.Kernel.Outcome.{unless, refused}
use Rattle.hol_model.specs.Kernel.Theorem.{Theorem}
use Rattle.hol_model.specs.Kernel.Rules.{refl_outcome}
use Rattle.hol_model.specs.Goals.Replays.{Store}
use Rattle.hol_model.specs.Refining.HostFunctions.{HostConversions}
use Rattle.hol_model.specs.Refining.Conversions.{Conversion, one_more, all_conv, thenc, orelsec, Converts, is_caught, first_is_refused}
use Rattle.hol_laws_refiners.proofs.Costs.{converts-costs}
use Rattle.hol_laws_refiners.proofs.Spending.{converts-spends}
use Rattle.hol_laws_refiners.proofs.Repeating.{IsFinal, JoinedSoFar, joined_tried, joined_next, joined_end, joined_stop, joined_starves}
use Rattle.hol_conv.specs.Makes.{Joins}
use Rattle.hol_conv.specs.declared.converted.Converted.{Converted}
use Rattle.hol_conv.specs.Converted.{answered}
use Rattle.hol_conv.specs.Chains.{Reflects, without_step, by_refl, FinishesBy, Links, proved_by}
use Rattle.hol_conv.specs.declared.chain.Chain.{Chain}
use Rattle.hol_conv.specs.declared.chain.Linked.TheVariants.{GoesOn, Ends}
use Rattle.hol_conv.proofs.Answering.{reflects-all}

-- REFL of a known term is refused for its size alone
refl-final : (theory : Theory) (t : NamedTerm) → is_known theory t ≡ true → IsFinal (refl_outcome theory t)
refl-final theory t known = go (knows_types theory t) (knows_constants theory t) (has_instances theory t) (is_within_limits (equation t t)) known
  where
    same : Theorem
    same = record { theory = theory; hypotheses = []; conclusion = equation t t }

    go : (a b d fits : Bool) → (a && b && d) ≡ true
        → IsFinal (refused (if not a then Some UnknownType else (if not b then Some UnknownConst else (if not d then Some NotInstance else None))) (unless fits TooLarge (Ok same)))
    go true true true true e = tt
    go true true true false e = refl
    go true true false fits e = cc
    go true false d fits e = cc
    go false b d fits e = cc

reflects-final : {theory : Theory} {t : NamedTerm} {steps left : ℕ} {answer : Result Theorem Fault} → is_known theory t ≡ true → Reflects theory t steps answer left → IsFinal answer
reflects-final known without_step = refl
reflects-final {theory} {t} known (by_refl (inl is)) = subst (λ (a : Result Theorem Fault). IsFinal a) (sym is) (refl-final theory t known)
reflects-final known (by_refl (inr is)) = subst (λ (a : Result Theorem Fault). IsFinal a) (sym is) refl

module _ (theory : Theory) (store : Store) (hosts : HostConversions) (depth : ℕ) where
  abbrev AnswersLast : ℕ → Conversion → NamedTerm → Result Theorem Fault → ℕ → Type 0
  AnswersLast first whole t answer left = Converts theory store hosts depth first whole t answer left × IsFinal answer

  answers-as : {first left : ℕ} {whole : Conversion} {t : NamedTerm} {a b : Result Theorem Fault} → b ≡ a → AnswersLast first whole t a left → AnswersLast first whole t b left
  answers-as {first} {left} {whole} {t} is both = subst (λ (a : Result Theorem Fault). AnswersLast first whole t a left) (sym is) both

  -- one more theorem
  pub links-on : {first steps mid left : ℕ} {whole c d : Conversion} {t current : NamedTerm} {proved : List Theorem} (made : Result Theorem Fault) (chain : Chain)
      → JoinedSoFar theory store hosts depth first whole t steps (thenc c (one_more d)) proved current → Converts theory store hosts depth steps c current made mid
      → Links theory proved t current made mid (GoesOn chain) left
      → JoinedSoFar theory store hosts depth first whole t left d (proved_by theory chain) chain.current
  links-on {first} {mid} {whole} {d} {t} (Ok theorem) chain so_far r is =
      let next = joined_next theory store hosts depth so_far r is.0.right.is in
      subst (λ (n : ℕ). JoinedSoFar theory store hosts depth first whole t n d (proved_by theory chain) chain.current) (sym is.1)
      (subst (λ (all : List Theorem). JoinedSoFar theory store hosts depth first whole t mid d all chain.current) (sym is.0.proved) next)
  links-on (Err fault) chain so_far r is = absurd is

  unless-starved : {first left : ℕ} {whole : Conversion} {t : NamedTerm} {outcome answer : Result Theorem Fault} → Joins outcome answer → AnswersLast first whole t outcome left
      → Converts theory store hosts depth first whole t (Err Memory) left → AnswersLast first whole t answer left
  unless-starved (inl is) both memory = answers-as is both
  unless-starved (inr is) both memory = answers-as is (memory, refl)

  no-more : {left mid steps : ℕ} → left ≤ mid → mid ≤ steps → left ≤ steps
  no-more a b = omega (arith, a, b)

  -- a refusal of what is tried
  finished : {first steps mid left : ℕ} {whole c : Conversion} {t current : NamedTerm} {proved : List Theorem} {fault : Fault} {answer : Result Theorem Fault} (caught : Bool)
      → is_caught fault ≡ caught → is_known theory current ≡ true → JoinedSoFar theory store hosts depth first whole t steps (orelsec c (one_more all_conv)) proved current
      → Converts theory store hosts depth steps c current (Err fault) mid → FinishesBy caught theory proved current fault mid answer left → AnswersLast first whole t answer left
  finished {first} {left} {whole} {t} {fault} false passes known so_far r is =
      let stopped = joined_stop theory store hosts depth (joined_tried theory store hosts depth so_far) r passes in
      answers-as is.0 (subst (λ (n : ℕ). Converts theory store hosts depth first whole t (Err fault) n) (sym is.1) stopped, passes)
  finished {steps} {mid} {left} true caught known so_far r is =
      let s = reflects-all theory store hosts is.reflects in
      unless-starved is.joins (joined_end theory store hosts depth is.same so_far r caught s (reflects-final known is.reflects))
      (joined_starves theory store hosts depth so_far (no-more (converts-spends theory store hosts s) (converts-spends theory store hosts r)))

  starved : {first steps mid left : ℕ} {whole c d : Conversion} {t current : NamedTerm} {proved : List Theorem} {answer : Result Theorem Fault} (result : Result Converted Fault)
      → JoinedSoFar theory store hosts depth first whole t steps c proved current → Converts theory store hosts depth steps d current answer mid
      → (result ≡ Err Memory) × (left ≡ mid) → AnswersLast first whole t (answered theory t result) left
  starved {first} {steps} {mid} {whole} {t} result so_far r is =
      let le : mid ≤ steps = converts-spends theory store hosts r in
      let ends = joined_starves theory store hosts depth so_far le in
      answers-as (ap (answered theory t) is.0) (subst (λ (n : ℕ). Converts theory store hosts depth first whole t (Err Memory) n) (sym is.1) ends, refl)

  -- what is tried ends the chain
  pub links-end : {first steps mid left : ℕ} {whole c d : Conversion} {t current : NamedTerm} {proved : List Theorem} (made : Result Theorem Fault) (result : Result Converted Fault)
      → is_known theory current ≡ true → JoinedSoFar theory store hosts depth first whole t steps (orelsec (thenc c (one_more d)) (one_more all_conv)) proved current
      → Converts theory store hosts depth steps c current made mid → Links theory proved t current made mid (Ends result) left
      → Converts theory store hosts depth first whole t (answered theory t result) left × IsFinal (answered theory t result)
  links-end (Ok theorem) result known so_far r is = starved result so_far r is
  links-end (Err fault) result known so_far r is = finished (is_caught fault) refl known so_far (first_is_refused r) is

  -- what is not tried, and is refused only so that it is not caught
  pub links-stop : {first steps mid left : ℕ} {whole c d : Conversion} {t current : NamedTerm} {proved : List Theorem} (made : Result Theorem Fault) (result : Result Converted Fault)
      → JoinedSoFar theory store hosts depth first whole t steps (thenc c (one_more d)) proved current → Converts theory store hosts depth steps c current made mid → IsFinal made
      → Links theory proved t current made mid (Ends result) left → Converts theory store hosts depth first whole t (answered theory t result) left × IsFinal (answered theory t result)
  links-stop (Ok theorem) result so_far r final is = starved result so_far r is
  links-stop {first} {mid} {left} {whole} {t} {current} {proved} (Err fault) result so_far r final is =
      let stays = subst (λ (caught : Bool). FinishesBy caught theory proved current fault mid (answered theory t result) left) final is in
      let stopped = joined_stop theory store hosts depth so_far (first_is_refused r) final in
      answers-as stays.0 (subst (λ (n : ℕ). Converts theory store hosts depth first whole t (Err fault) n) (sym stays.1) stopped, final)

-- a theorem has cost a step
pub costs : {theory : Theory} {store : Store} {hosts : HostConversions} {depth steps left : ℕ} {c : Conversion} {t : NamedTerm} {theorem : Theorem}
    → Converts theory store hosts depth steps c t (Ok theorem) left → left < steps
costs {theory} {store} {hosts} r = converts-costs theory store hosts r
