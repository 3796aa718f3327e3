-- What is asked of the theory and of the terms before a refiner expression runs.
use Rattle.hol_model.specs.Terms.HolType.{HolType}
use Rattle.hol_model.specs.Terms.Nameless.{image}
use Rattle.hol_model.specs.Logic.Theory.{Theory, IsEarlier, IsLegal, IsKnown}
use Rattle.hol_model.specs.Logic.Logic.{logical_definitions}
use Rattle.hol_model.specs.Refining.Refiners.{Leaf, exists_tac}
use Rattle.hol_model.specs.Refining.Combinators.{Tactic, Tactics, Link, Links, leaf, host_tac, chain, orelse, repeat, try, no_more, more, then_all, then_each, no_link, link}

-- the witness that the refiner takes is a known term
abbrev pub HasKnownWitness : Theory → Leaf → Type 0
HasKnownWitness theory (exists_tac witness) = (ty : HolType) × IsKnown theory (image witness) ty
HasKnownWitness theory _ = Unit {0}

-- so is each in the expression
abbrev mutual
  pub HasKnownWitnesses : Theory → Tactic → Type 0
  HasKnownWitnesses theory (leaf l) = HasKnownWitness theory l
  HasKnownWitnesses theory (host_tac name) = Unit {0}
  HasKnownWitnesses theory (chain t links) = HasKnownWitnesses theory t × HaveKnownWitnessesInLinks theory links
  HasKnownWitnesses theory (orelse t ts) = HasKnownWitnesses theory t × HaveKnownWitnesses theory ts
  HasKnownWitnesses theory (repeat t) = HasKnownWitnesses theory t
  HasKnownWitnesses theory (try t) = HasKnownWitnesses theory t

  pub HaveKnownWitnesses : Theory → Tactics → Type 0
  HaveKnownWitnesses theory no_more = Unit {0}
  HaveKnownWitnesses theory (more t ts) = HasKnownWitnesses theory t × HaveKnownWitnesses theory ts

  pub HasKnownWitnessesInLink : Theory → Link → Type 0
  HasKnownWitnessesInLink theory (then_all t) = HasKnownWitnesses theory t
  HasKnownWitnessesInLink theory (then_each ts) = HaveKnownWitnesses theory ts

  pub HaveKnownWitnessesInLinks : Theory → Links → Type 0
  HaveKnownWitnessesInLinks theory no_link = Unit {0}
  HaveKnownWitnessesInLinks theory (link l ls) = HasKnownWitnessesInLink theory l × HaveKnownWitnessesInLinks theory ls

-- a legal theory with the logical definitions
pub record HasLogic (theory : Theory) : Type 0 where
  pub legal : IsLegal theory
  pub logic : IsEarlier logical_definitions theory
