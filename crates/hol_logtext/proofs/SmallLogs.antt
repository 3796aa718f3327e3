-- Small logs are answered as they should be, by computation.
use Rattle.std.proofs.Common.{refl}
use Rattle.std.specs.Fmt.{digits}
use Rattle.hol_logtext.specs.SmallLogs.{SmallLogs}

pub small_logs : SmallLogs
unfolding digits
small_logs = record {
  accepted = refl;
  without_last_byte = refl;
  without_end = refl;
  other_claim = refl;
  claimed_twice = refl;
  middle_differs = refl;
  nothing_earlier = refl;
  declared_constant = refl;
  second_version_alone = refl;
  undeclared_type = refl;
  no_line = refl;
  other_first_line = refl;
  header_cut = refl;
  header_alone = refl;
  no_claim = refl;
  behind_the_end = refl;
  blank_behind_the_end = refl;
  abstraction_of_nothing = refl;
  ordered_hypotheses = refl;
  other_number_of_claims = refl;
  small_type_variable = refl;
  no_instance = refl;
  known_name = refl;
  open_definition = refl;
  arguments_misfit = refl;
  no_equation = refl;
  redex_of_another_variable = refl;
  redex_with_its_argument_free = refl;
}
