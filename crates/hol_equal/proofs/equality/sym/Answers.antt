use Rattle.std.proofs.Common.{[], ◌++◌, refl, ◌∙◌, ap, Ok}
use Rattle.hol_model.specs.Terms.HolType.{bool_type, function_type}
use Rattle.hol_model.specs.Terms.Nameless.{Nameless, app, image}
use Rattle.hol_model.specs.Terms.Measures.{nameless_within_limits}
use Rattle.hol_model.specs.Logic.Theory.{equality_type}
use Rattle.hol_model.specs.Logic.Derivable.{nameless_equation}
use Rattle.hol_model.specs.Derived.DerivedRules.{images}
use Rattle.hol_journal.proofs.GrowthLemmas.{journals-grow}
use Rattle.hol_equal.proofs.StepLemmas.{continues-twice, is_known-where, eq_mp-fits, passed_on}
use Rattle.hol_equal.proofs.SymLemmas.{equality_at, sym-parts-at, known_in, relation-shows, relation-within, applied-within, left-within, congruence-within, sym-past, sym-stated, sym-names}
use Rattle.hol_equal.proofs.equality.sym.Goals as goal
use Rattle.hol_equal.proofs.InferredEquality.{infers_sym}

pub refl_known-requires : goal.refl_known-requires
refl_known-requires c =
    let journal = c.args.recorder.now in
    let premise = c.args.premise.now.theorem in
    let relation = c.in-Some.parts.relation.now in
    let a = c.in-Some.parts.left.now in
    let b = c.in-Some.parts.right.now in
    let parts =
    sym-parts-at journal c.conclusion_of.ensures.legal c.args.premise.now c.requires c.args.premise.now.theorem refl c.conclusion_of.ensures.theorem
    c.conclusion_of.result.now relation a b c.conclusion_of.ensures.value c.in-Some.ensures.whole c.in-Some.ensures.sides in
    is_known-where journal.theory relation (equality_type parts.ty) parts.relation_known

pub returns-in_err-same-clause-outcome : goal.returns-in_err-same-clause-outcome
returns-in_err-same-clause-outcome c =
    let journal = c.args.recorder.now in
    let premise = c.args.premise.now.theorem in
    let relation = c.in-Some.parts.relation.now in
    let a = c.in-Some.parts.left.now in
    let b = c.in-Some.parts.right.now in
    let parts =
    sym-parts-at journal c.conclusion_of.ensures.legal c.args.premise.now c.requires c.args.premise.now.theorem refl c.conclusion_of.ensures.theorem
    c.conclusion_of.result.now relation a b c.conclusion_of.ensures.value c.in-Some.ensures.whole c.in-Some.ensures.sides in
    let at = equality_at parts.ty in
    rw (passed_on c.from_residual.result c.in_err-same.field-0.0 c.from_residual.ensures.1)
    (sym-past c.in_err-same.field-0.0 journal.theory premise relation a b parts (nameless_within_limits (nameless_equation (equality_type parts.ty) (image relation) (image relation)))
    (c.in_err-same.ensures.derives (equality_type parts.ty) parts.relation_known)
    (λ roomy. ap (λ (t : Nameless). nameless_within_limits (nameless_equation (equality_type parts.ty) t t)) parts.relation_image ∙ relation-within parts.ty (image a) (image b) roomy))

pub returns-in_err-same-clause-inferred : goal.returns-in_err-same-clause-inferred
returns-in_err-same-clause-inferred c = infers_sym c.conclusion_of.ensures.legal c.conclusion_of.ensures.formula (returns-in_err-same-clause-outcome c)

pub mk_comb-requires-clause-second : goal.mk_comb-requires-clause-second
mk_comb-requires-clause-second c =
    journals-grow.stays c.args.recorder.now c.refl_known.new.recorder c.args.premise.now c.in_ok-same.ensures.continues.grown c.requires

pub returns-in_err-applied-clause-outcome : goal.returns-in_err-applied-clause-outcome
returns-in_err-applied-clause-outcome c =
    let journal = c.args.recorder.now in
    let premise = c.args.premise.now.theorem in
    let relation = c.in-Some.parts.relation.now in
    let a = c.in-Some.parts.left.now in
    let b = c.in-Some.parts.right.now in
    let parts =
    sym-parts-at journal c.conclusion_of.ensures.legal c.args.premise.now c.requires c.args.premise.now.theorem refl c.conclusion_of.ensures.theorem
    c.conclusion_of.result.now relation a b c.conclusion_of.ensures.value c.in-Some.ensures.whole c.in-Some.ensures.sides in
    let at = equality_at parts.ty in
    let same = relation-shows journal.theory premise relation a b parts c.in_ok-same.same.theorem (c.in_ok-same.ensures.derives (equality_type parts.ty) parts.relation_known) in
    rw (passed_on c.from_residual-in_err-applied.result c.in_err-applied.field-0.0 c.from_residual-in_err-applied.ensures.1)
    (sym-past c.in_err-applied.field-0.0 journal.theory premise relation a b parts (nameless_within_limits (nameless_equation (function_type parts.ty bool_type) (app at (image a)) (app at (image b))))
    (c.in_err-applied.ensures.derives [] (images premise) parts.ty (function_type parts.ty bool_type) at at (image a) (image b) same parts.shows)
    (applied-within parts.ty (image a) (image b)))

pub returns-in_err-applied-clause-inferred : goal.returns-in_err-applied-clause-inferred
returns-in_err-applied-clause-inferred c = infers_sym c.conclusion_of.ensures.legal c.conclusion_of.ensures.formula (returns-in_err-applied-clause-outcome c)

pub refl_known-requires-2 : goal.refl_known-requires-2
refl_known-requires-2 c =
    let journal = c.args.recorder.now in
    let premise = c.args.premise.now.theorem in
    let relation = c.in-Some.parts.relation.now in
    let a = c.in-Some.parts.left.now in
    let b = c.in-Some.parts.right.now in
    let parts =
    sym-parts-at journal c.conclusion_of.ensures.legal c.args.premise.now c.requires c.args.premise.now.theorem refl c.conclusion_of.ensures.theorem
    c.conclusion_of.result.now relation a b c.conclusion_of.ensures.value c.in-Some.ensures.whole c.in-Some.ensures.sides in
    is_known-where c.mk_comb.new.recorder.theory a parts.ty
    (known_in c.mk_comb.new.recorder.theory journal.theory (image a) parts.ty (c.in_ok-applied.ensures.continues.theory ∙ c.in_ok-same.ensures.continues.theory) parts.left_known)

pub returns-in_err-reflexive-clause-outcome : goal.returns-in_err-reflexive-clause-outcome
returns-in_err-reflexive-clause-outcome c =
    let journal = c.args.recorder.now in
    let premise = c.args.premise.now.theorem in
    let relation = c.in-Some.parts.relation.now in
    let a = c.in-Some.parts.left.now in
    let b = c.in-Some.parts.right.now in
    let parts =
    sym-parts-at journal c.conclusion_of.ensures.legal c.args.premise.now c.requires c.args.premise.now.theorem refl c.conclusion_of.ensures.theorem
    c.conclusion_of.result.now relation a b c.conclusion_of.ensures.value c.in-Some.ensures.whole c.in-Some.ensures.sides in
    let at = equality_at parts.ty in
    let known = known_in c.mk_comb.new.recorder.theory journal.theory (image a) parts.ty (c.in_ok-applied.ensures.continues.theory ∙ c.in_ok-same.ensures.continues.theory) parts.left_known in
    rw (passed_on c.from_residual-in_err-reflexive.result c.in_err-reflexive.field-0.0 c.from_residual-in_err-reflexive.ensures.1)
    (sym-past c.in_err-reflexive.field-0.0 journal.theory premise relation a b parts (nameless_within_limits (nameless_equation parts.ty (image a) (image a)))
    (c.in_err-reflexive.ensures.derives parts.ty known)
    (left-within parts.ty (image a) (image b)))

pub returns-in_err-reflexive-clause-inferred : goal.returns-in_err-reflexive-clause-inferred
returns-in_err-reflexive-clause-inferred c = infers_sym c.conclusion_of.ensures.legal c.conclusion_of.ensures.formula (returns-in_err-reflexive-clause-outcome c)

pub mk_comb-requires-2-clause-first : goal.mk_comb-requires-2-clause-first
mk_comb-requires-2-clause-first c =
    journals-grow.stays c.mk_comb.new.recorder c.refl_known-2.new.recorder c.in_ok-applied.applied c.in_ok-reflexive.ensures.continues.grown c.in_ok-applied.ensures.continues.held.made

pub returns-in_err-congruence-clause-outcome : goal.returns-in_err-congruence-clause-outcome
returns-in_err-congruence-clause-outcome c =
    let journal = c.args.recorder.now in
    let premise = c.args.premise.now.theorem in
    let relation = c.in-Some.parts.relation.now in
    let a = c.in-Some.parts.left.now in
    let b = c.in-Some.parts.right.now in
    let parts =
    sym-parts-at journal c.conclusion_of.ensures.legal c.args.premise.now c.requires c.args.premise.now.theorem refl c.conclusion_of.ensures.theorem
    c.conclusion_of.result.now relation a b c.conclusion_of.ensures.value c.in-Some.ensures.whole c.in-Some.ensures.sides in
    let at = equality_at parts.ty in
    let same = relation-shows journal.theory premise relation a b parts c.in_ok-same.same.theorem (c.in_ok-same.ensures.derives (equality_type parts.ty) parts.relation_known) in
    let applied =
    c.in_ok-applied.ensures.derives [] (images premise) parts.ty (function_type parts.ty bool_type) at at (image a) (image b) same parts.shows in
    let known = known_in c.mk_comb.new.recorder.theory journal.theory (image a) parts.ty (c.in_ok-applied.ensures.continues.theory ∙ c.in_ok-same.ensures.continues.theory) parts.left_known in
    let reflexive = c.in_ok-reflexive.ensures.derives parts.ty known in
    rw (passed_on c.from_residual-in_err-congruence.result c.in_err-congruence.field-0.0 c.from_residual-in_err-congruence.ensures.1)
    (sym-past c.in_err-congruence.field-0.0 journal.theory premise relation a b parts
    (nameless_within_limits (nameless_equation bool_type (nameless_equation parts.ty (image a) (image a))
    (nameless_equation parts.ty (image b) (image a))))
    (c.in_err-congruence.ensures.derives ([] ++ images premise) [] parts.ty bool_type (app at (image a)) (app at (image b)) (image a) (image a) applied reflexive)
    (congruence-within parts.ty (image a) (image b)))

pub returns-in_err-congruence-clause-inferred : goal.returns-in_err-congruence-clause-inferred
returns-in_err-congruence-clause-inferred c = infers_sym c.conclusion_of.ensures.legal c.conclusion_of.ensures.formula (returns-in_err-congruence-clause-outcome c)

pub eq_mp_known-requires-clause-second : goal.eq_mp_known-requires-clause-second
eq_mp_known-requires-clause-second c =
    journals-grow.stays c.refl_known-2.new.recorder c.mk_comb-2.new.recorder c.in_ok-reflexive.reflexive c.in_ok-congruence.ensures.continues.grown c.in_ok-reflexive.ensures.continues.held.made

pub eq_mp_known-requires-clause-fits : goal.eq_mp_known-requires-clause-fits
eq_mp_known-requires-clause-fits c =
    let journal = c.args.recorder.now in
    let premise = c.args.premise.now.theorem in
    let relation = c.in-Some.parts.relation.now in
    let a = c.in-Some.parts.left.now in
    let b = c.in-Some.parts.right.now in
    let parts =
    sym-parts-at journal c.conclusion_of.ensures.legal c.args.premise.now c.requires c.args.premise.now.theorem refl c.conclusion_of.ensures.theorem
    c.conclusion_of.result.now relation a b c.conclusion_of.ensures.value c.in-Some.ensures.whole c.in-Some.ensures.sides in
    let at = equality_at parts.ty in
    let same = relation-shows journal.theory premise relation a b parts c.in_ok-same.same.theorem (c.in_ok-same.ensures.derives (equality_type parts.ty) parts.relation_known) in
    let applied =
    c.in_ok-applied.ensures.derives [] (images premise) parts.ty (function_type parts.ty bool_type) at at (image a) (image b) same parts.shows in
    let known = known_in c.mk_comb.new.recorder.theory journal.theory (image a) parts.ty (c.in_ok-applied.ensures.continues.theory ∙ c.in_ok-same.ensures.continues.theory) parts.left_known in
    let reflexive = c.in_ok-reflexive.ensures.derives parts.ty known in
    let congruence = c.in_ok-congruence.ensures.derives ([] ++ images premise) [] parts.ty bool_type (app at (image a)) (app at (image b)) (image a) (image a) applied reflexive in
    eq_mp-fits c.in_ok-congruence.congruence.theorem c.in_ok-reflexive.reflexive.theorem (([] ++ images premise) ++ []) []
    (nameless_equation parts.ty (image a) (image a)) (nameless_equation parts.ty (image b) (image a)) congruence reflexive

pub returns-clause-continues : goal.returns-clause-continues
returns-clause-continues c =
    continues-twice c.args.recorder.now c.refl_known.new.recorder c.eq_mp_known.new.recorder (Ok c.in_ok-same.same) c.eq_mp_known.result c.in_ok-same.ensures.continues
    (continues-twice c.refl_known.new.recorder c.mk_comb.new.recorder c.eq_mp_known.new.recorder (Ok c.in_ok-applied.applied) c.eq_mp_known.result c.in_ok-applied.ensures.continues
    (continues-twice c.mk_comb.new.recorder c.refl_known-2.new.recorder c.eq_mp_known.new.recorder (Ok c.in_ok-reflexive.reflexive) c.eq_mp_known.result c.in_ok-reflexive.ensures.continues
    (continues-twice c.refl_known-2.new.recorder c.mk_comb-2.new.recorder c.eq_mp_known.new.recorder (Ok c.in_ok-congruence.congruence)
    c.eq_mp_known.result c.in_ok-congruence.ensures.continues c.eq_mp_known.ensures.continues)))

pub returns-clause-outcome : goal.returns-clause-outcome
returns-clause-outcome c =
    let journal = c.args.recorder.now in
    let premise = c.args.premise.now.theorem in
    let relation = c.in-Some.parts.relation.now in
    let a = c.in-Some.parts.left.now in
    let b = c.in-Some.parts.right.now in
    let parts =
    sym-parts-at journal c.conclusion_of.ensures.legal c.args.premise.now c.requires c.args.premise.now.theorem refl c.conclusion_of.ensures.theorem
    c.conclusion_of.result.now relation a b c.conclusion_of.ensures.value c.in-Some.ensures.whole c.in-Some.ensures.sides in
    let at = equality_at parts.ty in
    let same = relation-shows journal.theory premise relation a b parts c.in_ok-same.same.theorem (c.in_ok-same.ensures.derives (equality_type parts.ty) parts.relation_known) in
    let applied =
    c.in_ok-applied.ensures.derives [] (images premise) parts.ty (function_type parts.ty bool_type) at at (image a) (image b) same parts.shows in
    let known = known_in c.mk_comb.new.recorder.theory journal.theory (image a) parts.ty (c.in_ok-applied.ensures.continues.theory ∙ c.in_ok-same.ensures.continues.theory) parts.left_known in
    let reflexive = c.in_ok-reflexive.ensures.derives parts.ty known in
    let congruence = c.in_ok-congruence.ensures.derives ([] ++ images premise) [] parts.ty bool_type (app at (image a)) (app at (image b)) (image a) (image a) applied reflexive in
    sym-stated c.eq_mp_known.result journal.theory premise relation a b parts
    (c.eq_mp_known.ensures.gives (([] ++ images premise) ++ []) [] (nameless_equation parts.ty (image a) (image a)) (nameless_equation parts.ty (image b) (image a)) congruence reflexive)
    (sym-names c.eq_mp_known.result journal.theory premise c.in_ok-same.same.theorem c.in_ok-applied.applied.theorem c.in_ok-reflexive.reflexive.theorem
    c.in_ok-congruence.congruence.theorem relation a b parts
    c.in_ok-same.ensures.names c.in_ok-applied.ensures.names c.in_ok-reflexive.ensures.names c.in_ok-congruence.ensures.names c.eq_mp_known.ensures.names)

pub returns-clause-inferred : goal.returns-clause-inferred
returns-clause-inferred c = infers_sym c.conclusion_of.ensures.legal c.conclusion_of.ensures.formula (returns-clause-outcome c)
