-- What instantiation changes in terms without bound names.
use Rattle.std.specs.Prelude.{◌≡◌, true}
use Rattle.hol_model.specs.Terms.HolType.{replaces_type_variables}
use Rattle.hol_model.specs.Terms.Nameless.{Nameless}
use Rattle.hol_model.specs.Terms.Substitution.{put_all, replaces_variables, keeps_types}
use Rattle.hol_model.specs.Kernel.Instantiation.{instantiate_all}
use Rattle.hol_kernel.specs.declared.instances.Change.{Change}
use Rattle.hol_kernel.specs.declared.instances.Change.TheVariants.{Variables, Types}

abbrev pub change_of : Change → Nameless → Nameless
change_of (Variables theta) term = put_all theta.now term
change_of (Types theta) term = instantiate_all theta.now term

-- the pairs may be used as replacements
abbrev pub MayChange : Change → Type 0
MayChange (Variables theta) = (replaces_variables theta.now ≡ true) × (keeps_types theta.now ≡ true)
MayChange (Types theta) = replaces_type_variables theta.now ≡ true
