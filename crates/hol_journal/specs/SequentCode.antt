-- How a proof tells sequents apart.
use Rattle.std.specs.Prelude.{List, refl}
use Rattle.std.specs.Coded.{Coded, code_by, coded_list, coded×}
use Rattle.hol_model.specs.Terms.Nameless.{Nameless}
use Rattle.hol_model.specs.Terms.NamelessCode.{nameless_code}
use Rattle.hol_model.specs.Goals.Goals.{Sequent}

abbrev pub sequent_code : Coded Sequent
sequent_code =
    code_by (List Nameless × Nameless) (coded× (coded_list nameless_code) nameless_code)
    (λ s. (s.hypotheses, s.conclusion)) (λ p. record { hypotheses = p.0; conclusion = p.1 }) (λ _. refl)
