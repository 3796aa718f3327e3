-- Splits over the atoms of a formula that is always true.
use Rattle.std.proofs.Common.{◌≡◌, ◌⊎◌, List, [], ◌∷◌, Bool, true, false, Option, Some, None, Ok, Err, refl, sym, ◌∙◌, ap, inl, inr, if◌then◌else◌}
use Rattle.std.specs.Prelude.{unwrap_or}
use Rattle.std.specs.Option.{is_some}
use Rattle.hol_model.specs.declared.fault.Fault.{Fault}
use Rattle.hol_model.specs.Terms.NamedTerm.{NamedTerm}
use Rattle.hol_model.specs.Logic.NamedLogic.{false_term}
use Rattle.hol_model.specs.Terms.Nameless.{Nameless, image, same_term}
use Rattle.hol_model.specs.Logic.Logic as nameless
use Rattle.hol_model.specs.Kernel.Theorem.{Theorem}
use Rattle.hol_model.specs.Logic.Theory.{Theory}
use Rattle.hol_journal.specs.Journal.{Recorded}
use Rattle.hol_bool.specs.PreludeInstances.{at_p_q}
use Rattle.hol_equal.specs.Formulas.{IsFormula}
use Rattle.hol_equal.specs.Room.{FitsIf}
use Rattle.hol_equal.specs.Sequents.{Gives, IsPast}
use Rattle.hol_prelude.specs.Prelude.{p}
use Rattle.hol_taut.proofs.LawLemmas.{leads-p_q}
use Rattle.hol_taut.specs.LawSteps.{LeadsTo}
use Rattle.hol_taut_formulas.specs.declared.law.Law.TheVariants.{Contr}
use Rattle.hol_taut.specs.declared.facts.Facts.{Facts, Nothing, Fact'}
use Rattle.hol_model.specs.Propositional.Connectives.{fact}
use Rattle.hol_taut.specs.FactLists.{value_of, known_by, AreProved}
use Rattle.hol_model.specs.Propositional.Propositions.{Proposition}
use Rattle.hol_model.specs.Kernel.Theorem.{are_alpha_equivalent}
use Rattle.hol_taut.specs.Proved.{Proves}
use Rattle.hol_taut.specs.Refuted.{IsByImage, IsAlwaysTrue, is_listed, AreTold, AreAllSmall}
use Rattle.hol_taut.proofs.ProvedLemmas.{gives-proves}
use Rattle.hol_taut.proofs.WayLemmas.{small-nowhere}
use Rattle.hol_taut.proofs.KnownValues.{Agrees, known-right, known-full}

-- ---- theorems

-- a formula from `F`
pub contradiction-leads : (theory : Theory) (a : NamedTerm) (room : Bool) → IsFormula theory a → FitsIf room nameless.false_term → FitsIf room (image a)
    → LeadsTo theory Contr (at_p_q a a) room nameless.false_term (image a)
contradiction-leads theory a room formula falsity fits = leads-p_q theory Contr false_term p a a (at_p_q a a) refl refl formula formula refl room nameless.false_term (image a) refl refl falsity fits

-- an assumption that is allowed
pub assumed-proves : (theorem : Recorded) (a : Nameless) (allowed : List Nameless) → Gives (Ok theorem) (a ∷ []) a → Proves theorem.theorem (a ∷ allowed) a
assumed-proves theorem a allowed shows = gives-proves true (Ok theorem) (a ∷ []) (a ∷ allowed) a (λ x m. elim m [ inl same ↦ inl same | inr none ↦ absurd none ]) shows

pub memory-past : (fault : Fault) (h : List Nameless) (c : Nameless) (room : Bool) → Gives (Err fault) h c → IsPast fault room
memory-past fault h c room memory = inl memory

-- where there is no room, nothing has to be small
pub all-small-nowhere : (atoms : List NamedTerm) → AreAllSmall false atoms
all-small-nowhere atoms = record { each = λ atom m. small-nowhere (image atom) }

-- one hypothesis more may be allowed

pub proves-more : (theorem : Theorem) (a : Nameless) (allowed : List Nameless) (c : Nameless) → Proves theorem allowed c → Proves theorem (a ∷ allowed) c
proves-more theorem a allowed c proves = record { within = λ x m. inr (proves.within x m); concludes = proves.concludes }

pub all-proved-more : (facts : Facts) (a : Nameless) (allowed : List Nameless) → AreProved allowed facts → AreProved (a ∷ allowed) facts
all-proved-more Nothing a allowed proved = tt
all-proved-more (Fact' known value theorem at earlier) a allowed
    proved = (proves-more theorem.now.theorem a allowed (fact value (image known.now)) proved.0, all-proved-more earlier a allowed proved.1)

-- ---- values

pub value-same : (facts : Facts) (a b : NamedTerm) → image a ≡ image b → value_of facts a ≡ value_of facts b
value-same Nothing a b is = refl
value-same (Fact' known value theorem at earlier) a b is =
    ap (λ t. if same_term (image known.now) t then Some value else value_of earlier a) is
    ∙ ap (λ o. if are_alpha_equivalent known.now b then Some value else o) (value-same earlier a b is)

pub value-true : (known : Option Bool) → unwrap_or known false ≡ true → known ≡ Some true
value-true (Some true) is = refl
value-true (Some false) is = cc
value-true None is = cc

none-left : (facts : Facts) (place : NamedTerm) → (is_some (value_of facts place) ≡ true) ⊎ (is_listed place [] ≡ true) → is_some (value_of facts place) ≡ true
none-left facts place (inl known) = known
none-left facts place (inr listed) = cc

-- where no atom is left, the facts tell that the formula is true
pub all-told : (facts : Facts) (formula : Proposition) → IsAlwaysTrue formula → AreTold facts [] formula → unwrap_or (known_by (value_of facts) formula) false ≡ true
all-told facts formula always told = go (known_by (value_of facts) formula) refl (known-full (value_of facts) formula (λ place m. none-left facts place (told.each place m)))
  where
    total : NamedTerm → Bool
    total t = unwrap_or (value_of facts t) false

    agrees : Agrees (value_of facts) (λ t. unwrap_or (value_of facts t) false)
    agrees = record { at = λ t v is. ap (λ o. unwrap_or o false) is }

    by : IsByImage (λ t. unwrap_or (value_of facts t) false)
    by = record { same = λ a b is. ap (λ o. unwrap_or o false) (value-same facts a b is) }

    go : (known : Option Bool) → known_by (value_of facts) formula ≡ known → is_some (known_by (value_of facts) formula) ≡ true → unwrap_or (known_by (value_of facts) formula) false ≡ true
    go (Some v) is there =
        ap (λ o. unwrap_or o false) is ∙ sym (known-right (value_of facts) (λ t. unwrap_or (value_of facts t) false) agrees formula v is) ∙ always.each (λ t. unwrap_or (value_of facts t) false) by
    go None is there = let e : false ≡ true = sym (ap is_some is) ∙ there in cc
