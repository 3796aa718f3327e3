-- What it takes to pass the tests of an outcome.
use Rattle.std.proofs.Common.{◌≡◌, Bool, true, false, refl, Option, None, Some, Result, Ok, Err, if◌then◌else◌}
use Rattle.std.specs.Prelude.{not}
use Rattle.hol_model.specs.declared.fault.Fault.{Fault}
use Rattle.hol_model.specs.declared.fault.Fault.TheVariants.{UnknownType, UnknownConst, NotInstance}
use Rattle.hol_model.specs.Terms.NamedTerm.{NamedTerm}
use Rattle.hol_model.specs.Logic.Theory.{Theory}
use Rattle.hol_model.specs.Logic.KnownTerm.{knows_types, knows_constants, has_instances}
use Rattle.hol_model.specs.Kernel.Outcome.{unless, refused}
use Rattle.hol_model.specs.Kernel.Rules.{first_unknown}
use Rattle.hol_model.specs.Texts.Reading.{◌>>=◌}

pub passed : {A : Type 0} (test : Bool) (fault : Fault) (next : Result A Fault) (x : A) → unless test fault next ≡ Ok x → (test ≡ true) × (next ≡ Ok x)
passed true fault next x same = (refl, same)
passed false fault next x same = cc

pub not_refused : {A : Type 0} (refusal : Option Fault) (next : Result A Fault) (x : A) → refused refusal next ≡ Ok x → (refusal ≡ None) × (next ≡ Ok x)
not_refused None next x same = (refl, same)
not_refused (Some fault) next x same = cc

-- what an answer goes on with
pub record Follows {A B : Type 0} (read : Result A Fault) (next : A → Result B Fault) (answer : B) : Type 0 where
  pub value : A
  pub is_read : read ≡ Ok value
  pub is : next value ≡ Ok answer

pub followed : {A B : Type 0} (read : Result A Fault) (next : A → Result B Fault) (answer : B) → (read >>= next) ≡ Ok answer → Follows read next answer
followed (Ok x) next answer same = record { value = x; is_read = refl; is = same }
followed (Err fault) next answer same = cc

-- the term passes the tests of known terms
pub record PassesTests (theory : Theory) (term : NamedTerm) : Type 0 where
  pub types : knows_types theory term ≡ true
  pub instances : has_instances theory term ≡ true

pub passes_tests : (theory : Theory) (term : NamedTerm) → first_unknown theory term ≡ None → PassesTests theory term
passes_tests theory term none = go (knows_types theory term) refl (knows_constants theory term) (has_instances theory term) refl none
  where
    go : (types : Bool) → knows_types theory term ≡ types → (constants instances : Bool) → has_instances theory term ≡ instances
        → (if not types then Some UnknownType else (if not constants then Some UnknownConst else (if not instances then Some NotInstance else None))) ≡ None
        → PassesTests theory term
    go false is_types constants instances is_instances none = cc
    go true is_types false instances is_instances none = cc
    go true is_types true false is_instances none = cc
    go true is_types true true is_instances none = record { types = is_types; instances = is_instances }
