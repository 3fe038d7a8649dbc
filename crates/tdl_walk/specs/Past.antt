-- Faults that come too late to be the first.
use Rattle.std.specs.Prelude.{Bool, Option, Some, None, false, not}
use Rattle.tdl_rules.specs.declared.fault.Fault.{Fault}
use Rattle.tdl_rules.specs.Earliest.{is_before}

-- f does not come before a fault that is there
abbrev pub is_past : Option Fault → Fault → Bool
is_past None f = false
is_past (Some best) f = not (is_before f best)
