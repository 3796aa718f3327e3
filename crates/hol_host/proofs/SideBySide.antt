-- Names of two hosts side by side.
use Rattle.std.proofs.Common.{◌≡◌, ◌⊎◌, inl, inr, ℕ, List, ◌++◌, Contains, true, false, Option, Some, None, IfSome}
use Rattle.std.specs.Prelude.{◌↔◌, IsSome}
use Rattle.std.proofs.lemmas.List.Elements.{Contains-append_right, Contains-append_cases}
use Rattle.hol_host.specs.Host.{FirstThatHas}

module _ (names others : List (List ℕ)) (name : List ℕ) where
  pub lacking : (false ≡ true) ↔ Contains names name → Contains names name → ⊥
  lacking there listed = let no : false ≡ true = there.1 listed in cc

  -- the second host has the name where the first has not
  pub second-there : {X : Type 0} (second : Option X) → (Contains names name → ⊥) → IsSome second ↔ Contains others name → IsSome second ↔ Contains (names ++ others) name
  second-there second lacks there = (λ some. Contains-append_right names others name (there.0 some), λ listed. go (Contains-append_cases names others name listed))
    where
      go : Contains names name ⊎ Contains others name → IsSome second
      go (inl here) = absurd (lacks here)
      go (inr listed) = there.1 listed

  -- the first host has the name
  pub first-answers : {X : Type 0} (P Q : X → Type 0) (told : Option X) → Contains names name → IfSome told P → IfSome told (λ x. FirstThatHas names name (P x) (Q x))
  first-answers P Q (Some x) here p = inl (here, p)
  first-answers P Q None here p = tt
