use Rattle.std.proofs.Common.{refl}
use Rattle.hol_script_manager.proofs.manager.Manager.forget.Goals as goal

pub returns : goal.returns
returns c = record {
  stack = refl;
  scope = refl;
  recorder = c.give_back.ensures;
  logic = refl;
  laws = refl;
  theorems = c.keep_lemmas.ensures.theorems;
  lemmas = c.keep_lemmas.ensures.lemmas;
  stored = c.keep_lemmas.ensures.made;
}
