use Rattle.std.proofs.Common.{[], ◌∷◌, Ok}
use Rattle.hol_model.specs.Kernel.Rules.{refl_outcome, assume_outcome, beta_outcome, trans_outcome, eq_mp_outcome, mk_comb_outcome, abs_outcome, deduct_antisym_outcome}
use Rattle.hol_model.specs.declared.rule.Rule.TheVariants as rules
use Rattle.hol_model.specs.Kernel.NamedAxioms.{eta_theorem, select_theorem}
use Rattle.hol_bool.proofs.DrawnPrimitives.{answers-infer, refl-drawn, assume-drawn, beta-drawn, trans-drawn, eq_mp-drawn, mk_comb-drawn, abs-drawn}
use Rattle.hol_bool.proofs.DrawnPrimitives.{deduct_antisym-drawn, inst-drawn, inst_type-drawn, eta-drawn, select-drawn}
use Rattle.hol_bool.proofs.table.primitive_rules_infer.Goals as goal

pub returns : goal.returns
returns c = λ theory legal. record {
  refl = λ t ty typed result. answers-infer theory (rules.Refl t) [] (refl_outcome theory t) result (refl-drawn theory t ty typed);
  assume = λ p ty typed result. answers-infer theory (rules.Assume p) [] (assume_outcome theory p) result (assume-drawn theory p ty typed);
  beta = λ t ty typed result. answers-infer theory (rules.Beta t) [] (beta_outcome theory t) result (beta-drawn theory t ty typed);
  trans = λ a b first second result. answers-infer theory rules.Trans (a ∷ b ∷ []) (trans_outcome theory a b) result (trans-drawn theory legal a b first second);
  eq_mp = λ a b first second result. answers-infer theory rules.EqMp (a ∷ b ∷ []) (eq_mp_outcome theory a b) result (eq_mp-drawn theory legal a b first second);
  mk_comb = λ a b first second result. answers-infer theory rules.MkComb (a ∷ b ∷ []) (mk_comb_outcome theory a b) result (mk_comb-drawn theory legal a b first second);
  abs = λ x a premise result. answers-infer theory (rules.Abs x) (a ∷ []) (abs_outcome theory x a) result (abs-drawn theory legal x a premise);
  deduct_antisym = λ a b first result. answers-infer theory rules.DeductAntisym (a ∷ b ∷ []) (deduct_antisym_outcome theory a b) result (deduct_antisym-drawn theory a b first);
  inst = inst-drawn theory;
  inst_type = inst_type-drawn theory;
  eta = λ result. answers-infer theory rules.EtaAxiom [] (Ok (eta_theorem theory)) result (eta-drawn theory);
  select = λ result. answers-infer theory rules.SelectAxiom [] (Ok (select_theorem theory)) result (select-drawn theory);
}
