-- How a proof tells theorems apart: a theorem is stored as the tuple of its fields.
use Rattle.std.specs.Prelude.{List, refl}
use Rattle.std.specs.Coded.{Coded, code_by, coded×, coded_list}
use Rattle.hol_model.specs.Terms.NamedTerm.{NamedTerm}
use Rattle.hol_model.specs.Terms.NamedTermCode.{term_code}
use Rattle.hol_model.specs.Terms.NamelessCode.{theory_code}
use Rattle.hol_model.specs.Logic.Theory.{Theory}
use Rattle.hol_model.specs.Kernel.Theorem.{Theorem}

abbrev pub theorem_code : Coded Theorem
theorem_code =
    code_by (Theory × (List NamedTerm × NamedTerm)) (coded× theory_code (coded× (coded_list term_code) term_code))
    (λ t. (t.theory, (t.hypotheses, t.conclusion)))
    (λ p. record { theory = p.0; hypotheses = p.1.0; conclusion = p.1.1 })
    (λ _. refl)
