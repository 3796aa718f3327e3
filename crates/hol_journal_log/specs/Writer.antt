-- What a writer has written.
use Rattle.std.specs.Prelude.{map}
use Rattle.hol_model.specs.Logs.LogLine.{LogLine}
use Rattle.hol_model.specs.Logs.LogLine.LogLine.{type_variable_line, bool_line, function_type_line, declared_type_line, variable_line, constant_line, combination_line, abstraction_line}
use Rattle.hol_journal_log.specs.LogWriting.{Written}
use Rattle.hol_journal_log.specs.declared.lines.TypeLine.{TypeLine}
use Rattle.hol_journal_log.specs.declared.lines.TypeLine.TheVariants as types
use Rattle.hol_journal_log.specs.declared.lines.TermLine.{TermLine}
use Rattle.hol_journal_log.specs.declared.lines.TermLine.TheVariants as terms
use Rattle.hol_journal_log.specs.declared.writer.Writer.{Writer}

abbrev pub line_of_type : TypeLine → LogLine
line_of_type (types.Variable name) = type_variable_line name.now
line_of_type types.Bool = bool_line
line_of_type (types.Function domain codomain) = function_type_line domain codomain
line_of_type (types.Declared name) = declared_type_line name.now

abbrev pub line_of_term : TermLine → LogLine
line_of_term (terms.Variable name ty) = variable_line name.now ty
line_of_term (terms.Constant name ty) = constant_line name.now ty
line_of_term (terms.Combination function argument) = combination_line function argument
line_of_term (terms.Abstraction binder body) = abstraction_line binder body

abbrev pub written : Writer → Written
written writer = record {
  types = map line_of_type writer.types.keys;
  terms = map line_of_term writer.terms.keys;
  theorems = writer.theorems;
  lines = writer.log;
}
