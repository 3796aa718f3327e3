-- The number and the name by which a program reports a refusal.
use Rattle.std.specs.Prelude.{ℕ, List, codes}
use Rattle.hol_model.specs.declared.fault.Fault.{Fault}
use Rattle.hol_model.specs.declared.fault.Fault.TheVariants.{Memory, TooLarge, BadName, TypeMismatch, UnknownConst, NotInstance, NotBool, NotEquation, NotAlpha, NotVariable, FreeInHypothesis}
use Rattle.hol_model.specs.declared.fault.Fault.TheVariants.{NotTrivialBeta, NotClosed, TypeVarsNotReflected, AlreadyDefined, BadShape, ConvFails, RefineFails, LengthMismatch, StepLimit}
use Rattle.hol_model.specs.declared.fault.Fault.TheVariants.{UnknownName, NoGoal, GoalsRemain, NothingToUndo, InvalidStep, NotTautology, TooManyAtoms, Syntax, NameTaken, LogFault, ReadFault}
use Rattle.hol_model.specs.declared.fault.Fault.TheVariants.{WriteFault, TooLong, NoMatch, UnknownType}

abbrev pub number_of : Fault → ℕ
number_of Memory = 1
number_of TooLarge = 2
number_of BadName = 3
number_of TypeMismatch = 4
number_of UnknownConst = 5
number_of NotInstance = 6
number_of NotBool = 7
number_of NotEquation = 8
number_of NotAlpha = 9
number_of NotVariable = 10
number_of FreeInHypothesis = 11
number_of NotTrivialBeta = 12
number_of NotClosed = 13
number_of TypeVarsNotReflected = 14
number_of AlreadyDefined = 15
number_of BadShape = 16
number_of ConvFails = 17
number_of RefineFails = 18
number_of LengthMismatch = 19
number_of StepLimit = 20
number_of UnknownName = 21
number_of NoGoal = 22
number_of GoalsRemain = 23
number_of NothingToUndo = 24
number_of InvalidStep = 25
number_of (NotTautology atoms row) = 26
number_of TooManyAtoms = 27
number_of Syntax = 28
number_of NameTaken = 29
number_of (LogFault line cause) = 30
number_of ReadFault = 31
number_of WriteFault = 32
number_of TooLong = 33
number_of NoMatch = 34
number_of UnknownType = 35

abbrev pub name_of : Fault → List ℕ
name_of Memory = codes "Memory"
name_of TooLarge = codes "TooLarge"
name_of BadName = codes "BadName"
name_of TypeMismatch = codes "TypeMismatch"
name_of UnknownConst = codes "UnknownConst"
name_of NotInstance = codes "NotInstance"
name_of NotBool = codes "NotBool"
name_of NotEquation = codes "NotEquation"
name_of NotAlpha = codes "NotAlpha"
name_of NotVariable = codes "NotVariable"
name_of FreeInHypothesis = codes "FreeInHypothesis"
name_of NotTrivialBeta = codes "NotTrivialBeta"
name_of NotClosed = codes "NotClosed"
name_of TypeVarsNotReflected = codes "TypeVarsNotReflected"
name_of AlreadyDefined = codes "AlreadyDefined"
name_of BadShape = codes "BadShape"
name_of ConvFails = codes "ConvFails"
name_of RefineFails = codes "RefineFails"
name_of LengthMismatch = codes "LengthMismatch"
name_of StepLimit = codes "StepLimit"
name_of UnknownName = codes "UnknownName"
name_of NoGoal = codes "NoGoal"
name_of GoalsRemain = codes "GoalsRemain"
name_of NothingToUndo = codes "NothingToUndo"
name_of InvalidStep = codes "InvalidStep"
name_of (NotTautology atoms row) = codes "NotTautology"
name_of TooManyAtoms = codes "TooManyAtoms"
name_of Syntax = codes "Syntax"
name_of NameTaken = codes "NameTaken"
name_of (LogFault line cause) = codes "LogFault"
name_of ReadFault = codes "ReadFault"
name_of WriteFault = codes "WriteFault"
name_of TooLong = codes "TooLong"
name_of NoMatch = codes "NoMatch"
name_of UnknownType = codes "UnknownType"
