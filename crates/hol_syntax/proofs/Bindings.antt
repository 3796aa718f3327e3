-- What a bare name stands for, by the variables of the binders.
use Rattle.std.proofs.Common.{◌≡◌, inl, ℕ, List, true, Option, None, Some, Result, Ok, Err, IfOk, IfErr, sym, ap, ◌∙◌, subst, if◌then◌else◌}
use Rattle.std.specs.Option.{option_map}
use Rattle.hol_model.specs.declared.fault.Fault.{Fault}
use Rattle.hol_model.specs.declared.fault.Fault.TheVariants.{Memory, BadName}
use Rattle.hol_model.specs.Terms.Name.{is_identifier}
use Rattle.hol_model.specs.Terms.HolType.{HolType}
use Rattle.hol_model.specs.Terms.NamedTerm.{NamedTerm, variable}
use Rattle.hol_model.specs.Texts.Reading.{Scope, bare_name, bare_constant, bare_identifier}
use Rattle.hol_model.specs.Kernel.Outcome.{Answers}

pub bare_found : (scope : Scope) (bound : Option HolType) (name : List ℕ) (found : NamedTerm) (result : Result NamedTerm Fault)
    → Some found ≡ option_map (variable name) bound → is_identifier name ≡ true
    → IfOk result (λ t. t ≡ found) → IfErr result (λ fault. fault ≡ Memory) → Answers result (bare_name scope bound name)
bare_found scope None name found result e i ok err = absurd (let bad : ◌≡◌ {A = Option NamedTerm} (Some found) None = e in cc)
bare_found scope (Some ty) name found (Ok t) e i ok err =
    let same : found ≡ variable name ty = cc in
    ap (λ b. if b then bare_identifier scope (Some ty) name else Err BadName) i ∙ ap (λ x. Ok x) (sym same ∙ sym ok)
bare_found scope (Some ty) name found (Err fault) e i ok err = inl err

pub bare_free : (scope : Scope) (bound : Option HolType) (name : List ℕ) (result : Result NamedTerm Fault)
    → None ≡ option_map (variable name) bound → is_identifier name ≡ true
    → Answers result (bare_constant scope (scope.generic_type name) name) → Answers result (bare_name scope bound name)
bare_free scope None name result e i h = subst (λ w. Answers result w) (sym (ap (λ b. if b then bare_identifier scope None name else Err BadName) i)) h
bare_free scope (Some ty) name result e i h = absurd (let bad : ◌≡◌ {A = Option NamedTerm} None (Some (variable name ty)) = e in cc)
