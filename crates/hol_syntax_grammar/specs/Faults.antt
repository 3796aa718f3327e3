-- Why a call is refused whose text is not read.
use Rattle.hol_model.specs.declared.fault.Fault.{Fault}
use Rattle.hol_model.specs.declared.fault.Fault.TheVariants as faults
use Rattle.hol_syntax_grammar.specs.declared.type_reader.ReadError.{ReadError}
use Rattle.hol_syntax_grammar.specs.declared.type_reader.ReadError.TheVariants.{Memory, Syntax}

abbrev pub fault_of : ReadError → Fault
fault_of Memory = faults.Memory
fault_of Syntax = faults.Syntax
