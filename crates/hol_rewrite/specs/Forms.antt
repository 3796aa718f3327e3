-- What a form that the code tells stands for.
use Rattle.hol_rewrite.specs.declared.forms.Form.{Form}
use Rattle.hol_rewrite.specs.declared.forms.Form.TheVariants.{Both, Every, Equal, Denied, Stated}
use Rattle.hol_model.specs.Rewrites.RewriteRules.{RuleForm, both, every, equal, denied, stated}

abbrev pub form_of : Form → RuleForm
form_of (Both p q) = both p.now q.now
form_of (Every name ty body) = every (record { name = name.now; ty = ty.now; body = body.now })
form_of (Equal a b) = equal a.now b.now
form_of (Denied p) = denied p.now
form_of (Stated p) = stated p.now
