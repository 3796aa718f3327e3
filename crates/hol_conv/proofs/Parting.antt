-- Parts to which no conversion goes down.
use Rattle.std.proofs.Common.{◌≡◌, ℕ, ◌≤◌, Some}
use Rattle.hol_model.specs.declared.fault.Fault.TheVariants.{TooLarge}
use Rattle.hol_model.specs.declared.limits.TheConstants.{DESCENTS_LIMIT}
use Rattle.hol_model.specs.Terms.NamedTerm.{NamedTerm, variable, constant, combination, abstraction, dest_combination, dest_abstraction}
use Rattle.hol_conv.specs.Parts.{RefusesParts, combination_is_too_deep, RefusesBoundParts, abstraction_is_too_deep}

pub deep-combination : {depth : ℕ} (t : NamedTerm) (parts : NamedTerm × NamedTerm) → dest_combination t ≡ Some parts → DESCENTS_LIMIT ≤ depth → RefusesParts t depth TooLarge
deep-combination (combination f x) parts is deep = combination_is_too_deep deep
deep-combination (variable name ty) parts is deep = cc
deep-combination (constant name ty) parts is deep = cc
deep-combination (abstraction name ty body) parts is deep = cc

pub deep-abstraction : {depth : ℕ} (t : NamedTerm) (parts : NamedTerm × NamedTerm) → dest_abstraction t ≡ Some parts → DESCENTS_LIMIT ≤ depth → RefusesBoundParts t depth TooLarge
deep-abstraction (abstraction name ty body) parts is deep = abstraction_is_too_deep deep
deep-abstraction (variable name ty) parts is deep = cc
deep-abstraction (constant name ty) parts is deep = cc
deep-abstraction (combination f x) parts is deep = cc
