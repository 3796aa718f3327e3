use Rattle.std.proofs.Common.{refl}
use Rattle.std.proofs.lemmas.List.Elements.{Contains-append_left}
use Rattle.hol_host.specs.Host.{equation_answered}
use Rattle.hol_host.proofs.SideBySide.{lacking, second-there, first-answers}
use Rattle.hol_host.proofs.beside.BesideConverters.convert.Goals as goal

pub returns-in-Some-clause-there : goal.returns-in-Some-clause-there
returns-in-Some-clause-there g c =
    let first = g.A.Converters.conversions c.args.self.now.first in
    let second = g.B.Converters.conversions c.args.self.now.second in
    (λ some. Contains-append_left first.names second.names c.args.name.now (c.in-Some.ensures.there.0 refl), λ listed. refl)

pub returns-in-Some-clause-answer : goal.returns-in-Some-clause-answer
returns-in-Some-clause-answer g c =
    let first = g.A.Converters.conversions c.args.self.now.first in
    let second = g.B.Converters.conversions c.args.self.now.second in
    let name = c.args.name.now in
    first-answers first.names second.names name (first.converts name c.args.term.now) (second.converts name c.args.term.now) (equation_answered c.in-Some.answer)
    (c.in-Some.ensures.there.0 refl) c.in-Some.ensures.answer

pub returns-in-None-clause-there : goal.returns-in-None-clause-there
returns-in-None-clause-there g c =
    let first = g.A.Converters.conversions c.args.self.now.first in
    let second = g.B.Converters.conversions c.args.self.now.second in
    let name = c.args.name.now in
    second-there first.names second.names name c.convert-in-None.result (lacking first.names second.names name c.in-None.ensures.there) c.convert-in-None.ensures.there
