-- What the values of the code mean.
use Rattle.std.specs.Prelude.{List, map}
use Rattle.hol_syntax_grammar.specs.declared.token.Token.{Token}
use Rattle.hol_syntax_grammar.specs.declared.token.Token.TheVariants.{Name, Number, Mark}
use Rattle.hol_syntax_grammar.specs.declared.type_reader.TypeStep.{TypeStep}
use Rattle.hol_syntax_grammar.specs.declared.type_reader.TypeStep.TheVariants.{TakeName, MakeFunction}
use Rattle.hol_syntax_grammar.specs.declared.type_reader.Role.{Role as RoleHere}
use Rattle.hol_syntax_grammar.specs.declared.type_reader.Role.TheVariants.{Name as PartName, Opens as PartOpens, Closes as PartCloses, Continues as PartContinues, Stops as PartStops}
use Rattle.hol_model.specs.Texts.Token.{Token as TokenModel, Name as NameModel, Number as NumberModel, Mark as MarkModel}
use Rattle.hol_model.specs.Texts.TypeGrammar.{TypeStep as StepModel, TakeName as TakeNameModel, MakeFunction as MakeFunctionModel}
use Rattle.hol_syntax_grammar.specs.TypeReader.{Role, IsName, Opens, Closes, Continues, Stops}

abbrev pub token_of : Token → TokenModel
token_of (Name bytes) = NameModel bytes.now
token_of (Number bytes) = NumberModel bytes.now
token_of (Mark symbol) = MarkModel symbol

abbrev pub tokens_of : List Token → List TokenModel
tokens_of tokens = map token_of tokens

abbrev pub step_of : TypeStep → StepModel
step_of (TakeName bytes) = TakeNameModel bytes.now
step_of MakeFunction = MakeFunctionModel

abbrev pub steps_of : List TypeStep → List StepModel
steps_of steps = map step_of steps

abbrev pub role_of : RoleHere → Role
role_of (PartName bytes) = IsName bytes.now
role_of PartOpens = Opens
role_of PartCloses = Closes
role_of PartContinues = Continues
role_of PartStops = Stops
