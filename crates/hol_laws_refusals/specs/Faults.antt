-- What conversions and refiner expressions may be refused for.
use Rattle.hol_model.specs.declared.fault.Fault.{Fault}
use Rattle.hol_model.specs.declared.fault.Fault.TheVariants.{Memory, TooLarge, TypeMismatch, BadShape, ConvFails, RefineFails, LengthMismatch, StepLimit, UnknownName, InvalidStep, NotTautology}
use Rattle.hol_model.specs.declared.fault.Fault.TheVariants.{TooManyAtoms, NoMatch}

-- the refusals that no expression catches, which alone are those of TOP_DEPTH_CONV
abbrev pub IsUncaughtFault : Fault → Type 0
-- no step is left
IsUncaughtFault StepLimit = Unit {0}
-- a limit on terms or descents is passed, or a rule finds no room
IsUncaughtFault TooLarge = Unit {0}
-- there is no memory
IsUncaughtFault Memory = Unit {0}
IsUncaughtFault _ = ⊥

-- the refusals of a conversion: those, and these
abbrev pub IsConversionFault : Fault → Type 0
-- no theorem and no conversion of the host has the name
IsConversionFault UnknownName = Unit {0}
-- the conversion fails: it does so always, the term lacks a part or is no redex, nothing changes, a variable is free in a
-- hypothesis, or a host's function says so
IsConversionFault ConvFails = Unit {0}
-- no rule applies
IsConversionFault NoMatch = Unit {0}
-- a host's justification does not give its equation
IsConversionFault InvalidStep = Unit {0}
IsConversionFault fault = IsUncaughtFault fault

-- the refusals of a refiner expression: those of conversions, and these
abbrev pub IsRefinerFault : Fault → Type 0
-- the goal or a theorem is of another form
IsRefinerFault BadShape = Unit {0}
-- a witness is of another type
IsRefinerFault TypeMismatch = Unit {0}
-- the refiner fails: it does so always, what it asks of the goal does not hold, or a host's function says so
IsRefinerFault RefineFails = Unit {0}
-- a formula is no tautology, or has too many atoms
IsRefinerFault (NotTautology atoms row) = Unit {0}
IsRefinerFault TooManyAtoms = Unit {0}
-- a list is not as long as that of the subgoals
IsRefinerFault LengthMismatch = Unit {0}
IsRefinerFault fault = IsConversionFault fault
