-- How a proof tells states of logs apart: a state is stored as the tuple of its fields.
use Rattle.std.specs.Prelude.{◌≡◌, ℕ, List, Bool, true, false, refl}
use Rattle.std.specs.Coded.{Coded, code_by, coded×, coded_ℕ, coded_list, coded_bool}
use Rattle.hol_model.specs.Terms.HolType.{HolType}
use Rattle.hol_model.specs.Terms.HolTypeCode.{type_code}
use Rattle.hol_model.specs.Terms.Nameless.{Nameless}
use Rattle.hol_model.specs.Terms.NamelessCode.{nameless_code, theory_code}
use Rattle.hol_model.specs.Logic.Theory.{Theory}
use Rattle.hol_model.specs.Goals.Goals.{Sequent}
use Rattle.hol_model.specs.Logs.LogLine.{LogVersion, first_version, second_version}
use Rattle.hol_model.specs.Logs.LogState.{LogState, LogClaim}
use Rattle.hol_model.specs.Logs.LogFaults.{is_first_version}

abbrev sequent_code : Coded Sequent
sequent_code =
    code_by (List Nameless × Nameless) (coded× (coded_list nameless_code) nameless_code)
    (λ s. (s.hypotheses, s.conclusion)) (λ p. record { hypotheses = p.0; conclusion = p.1 }) (λ _. refl)

abbrev pub claim_code : Coded LogClaim
claim_code =
    code_by (List ℕ × Sequent) (coded× (coded_list coded_ℕ) sequent_code)
    (λ c. (c.name, c.sequent)) (λ p. record { name = p.0; sequent = p.1 }) (λ _. refl)

abbrev version_from : Bool → LogVersion
version_from true = first_version
version_from false = second_version

pub version_back : (version : LogVersion) → version_from (is_first_version version) ≡ version
version_back first_version = refl
version_back second_version = refl

abbrev version_code : Coded LogVersion
version_code = code_by Bool coded_bool is_first_version version_from version_back

abbrev pub log_code : Coded LogState
log_code =
    code_by (LogVersion × (List HolType × (List Nameless × (List Sequent × (Theory × (List LogClaim × Bool))))))
    (coded× version_code (coded× (coded_list type_code) (coded× (coded_list nameless_code) (coded× (coded_list sequent_code) (coded× theory_code (coded× (coded_list claim_code) coded_bool))))))
    (λ s. (s.version, (s.types, (s.terms, (s.theorems, (s.theory, (s.claims, s.is_ended)))))))
    (λ p. record { version = p.0; types = p.1.0; terms = p.1.1.0; theorems = p.1.1.1.0; theory = p.1.1.1.1.0; claims = p.1.1.1.1.1.0; is_ended = p.1.1.1.1.1.1 })
    (λ _. refl)
