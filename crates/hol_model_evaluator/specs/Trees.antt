-- What the trees stand for.
use Rattle.std.specs.Prelude.{List, [], ◌∷◌}
use Rattle.hol_model.specs.Terms.HolType.{HolType, type_variable, bool_type, function_type, declared_type}
use Rattle.hol_model.specs.Terms.Nameless.{Nameless, free, const, bound, app, lam}
use Rattle.hol_model.specs.Logic.Theory.{Theory, Entry, definition, declaration_of_type, declaration_of_constant}
use Rattle.hol_model_evaluator.specs.declared.tree.TypeTree.{TypeTree, Variable, Bool, Function', Declared}
use Rattle.hol_model_evaluator.specs.declared.tree.TermTree.{TermTree, Free, Const, Bound, App', Lam'}
use Rattle.hol_model_evaluator.specs.declared.tree.EntryTree.{EntryTree}
use Rattle.hol_model_evaluator.specs.declared.tree.EntryTree.TheVariants.{Definition, DeclaredType, DeclaredConstant}

abbrev pub hol_type : TypeTree → HolType
hol_type (Variable name) = type_variable name.now
hol_type Bool = bool_type
hol_type (Function' p a q b) = function_type (hol_type a) (hol_type b)
hol_type (Declared name) = declared_type name.now

abbrev pub nameless : TermTree → Nameless
nameless (Free name ty) = free name.now (hol_type ty.now)
nameless (Const name ty) = const name.now (hol_type ty.now)
nameless (Bound index) = bound index
nameless (App' p f q x) = app (nameless f) (nameless x)
nameless (Lam' ty p body) = lam (hol_type ty.now) (nameless body)

abbrev pub nameless_terms : List TermTree → List Nameless
nameless_terms [] = []
nameless_terms (term ∷ terms) = nameless term ∷ nameless_terms terms

abbrev pub entry_of : EntryTree → Entry
entry_of (Definition name ty body) = definition name.now (hol_type ty.now) (nameless body.now)
entry_of (DeclaredType name) = declaration_of_type name.now
entry_of (DeclaredConstant name ty) = declaration_of_constant name.now (hol_type ty.now)

-- the entries, the newest first
abbrev pub theory_of : List EntryTree → Theory
theory_of [] = []
theory_of (entry ∷ entries) = entry_of entry ∷ theory_of entries
