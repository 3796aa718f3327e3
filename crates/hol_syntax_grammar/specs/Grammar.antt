-- The infixes and the binders of the code as those of the grammar.
use Rattle.hol_model.specs.Texts.TermGrammar.{Infix, IffInfix, ImpliesInfix, OrInfix, AndInfix, EqualInfix, Binder, Lambda, ForAll, Exists, Choice}
use Rattle.hol_syntax_grammar.specs.declared.grammar.Infix.{Infix as InfixHere}
use Rattle.hol_syntax_grammar.specs.declared.grammar.Infix.TheVariants.{Iff, Implies, Or, And, Equal}
use Rattle.hol_syntax_grammar.specs.declared.grammar.Binder.{Binder as BinderHere}
use Rattle.hol_syntax_grammar.specs.declared.grammar.Binder.TheVariants.{Lambda as LambdaHere, ForAll as ForAllHere, Exists as ExistsHere, Choice as ChoiceHere}

abbrev pub infix_here : InfixHere → Infix
infix_here Iff = IffInfix
infix_here Implies = ImpliesInfix
infix_here Or = OrInfix
infix_here And = AndInfix
infix_here Equal = EqualInfix

abbrev pub binder_here : BinderHere → Binder
binder_here LambdaHere = Lambda
binder_here ForAllHere = ForAll
binder_here ExistsHere = Exists
binder_here ChoiceHere = Choice
