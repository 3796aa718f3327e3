-- The size of a derivation: each is greater than those that it is made from.
use Rattle.std.proofs.Common.{ℕ, ◌+◌}
use Rattle.hol_prelude_derivations.specs.declared.derivation.Derivation as derivations
use Rattle.hol_prelude_derivations.specs.declared.derivation.Derivation.{Derivation}

abbrev pub size : Derivation → ℕ
size (derivations.Earlier number) = 1
size (derivations.Axiom rule) = 1
size (derivations.Term rule term) = 1
size (derivations.Pair' rule p first q second) = size first + size second + 1
size (derivations.Sym' p theorem) = size theorem + 1
size (derivations.ApTerm' function p theorem) = size theorem + 1
size (derivations.ApThm' p theorem argument) = size theorem + 1
size (derivations.Abs' variable p theorem) = size theorem + 1
size (derivations.Inst' new old p theorem conclusion) = size theorem + 1
size (derivations.InstType' new old p theorem conclusion) = size theorem + 1
