-- What an error of the check says of the faults.
use Rattle.std.specs.Prelude.{List}
use Rattle.tdl_check.specs.declared.error.CheckError.{CheckError}
use Rattle.tdl_check.specs.declared.error.CheckError.TheVariants.{BadProgram, NoMemory}
use Rattle.tdl_rules.specs.declared.fault.Fault.{Fault}
use Rattle.tdl_rules.specs.Earliest.{IsFirst}

-- the fault is the first of them; nothing where memory is wanting
abbrev pub TellsFirst : CheckError → List Fault → Type 0
TellsFirst (BadProgram f) faults = IsFirst f faults
TellsFirst NoMemory faults = Unit {0}
