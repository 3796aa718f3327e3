-- Rules that are made before a conversion is tried.
use Rattle.std.proofs.Common.{◌≡◌, List, [], ◌∷◌, ◌++◌, Bool, true, false, if◌then◌else◌, sym, subst}
use Rattle.std.proofs.lemmas.List.Elements.{All-push}
use Rattle.hol_theorem_library.specs.Library.{IsLibrary, IsContinued}
use Rattle.hol_theorem_library.specs.declared.library.Library.{Library}
use Rattle.hol_conv.specs.declared.prepared.NamedRules.{NamedRules}
use Rattle.hol_conv.specs.Prepared.{IsPrepared, ArePrepared, stay-prepared}
use Rattle.hol_conv.specs.Prepares.{Prepares}

-- a name that has no rules
pub prepares-none : {old new : Library} {all : List NamedRules} → IsLibrary new → IsContinued old new → ArePrepared old all → Prepares old new all
prepares-none {old} {new} {all} is continued ready = record { library = is; continued = continued; ready = stay-prepared all old new continued ready }

-- the rules of one name more
prepares-one : {old new : Library} (all : List NamedRules) (named : NamedRules) → IsLibrary new → IsContinued old new → ArePrepared old all → IsPrepared new named
    → Prepares old new (all ++ named ∷ [])
prepares-one {old} {new} all named is continued ready prepared = record {
  library = is;
  continued = continued;
  ready = All-push (IsPrepared new) all named (stay-prepared all old new continued ready) prepared;
}

-- where there may be no room for them
pub prepares-pushed : {old new : Library} (all after : List NamedRules) (named : NamedRules) (put : Bool) → IsLibrary new → IsContinued old new → ArePrepared old all → IsPrepared new named
    → after ≡ (if put then all ++ named ∷ [] else all) → Prepares old new after
prepares-pushed {old} {new} all after named true is continued ready prepared pushed =
    subst (λ (l : List NamedRules). Prepares old new l) (sym pushed) (prepares-one all named is continued ready prepared)
prepares-pushed {old} {new} all after named false is continued ready prepared pushed =
    subst (λ (l : List NamedRules). Prepares old new l) (sym pushed) (prepares-none is continued ready)
