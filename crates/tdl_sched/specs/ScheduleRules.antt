-- The rules of a schedule's text: what each line breaks after so many lines of the window's form.
use Rattle.std.specs.Prelude.{ℕ, ◌+◌, Bool, true, false, nat_le, ◌||◌, List, [], ◌∷◌, ◌++◌, is_none}
use Rattle.tdl_base.specs.declared.limits.TheConstants.{WINDOWS}
use Rattle.tdl_mode.specs.declared.program.Program.{Program}
use Rattle.tdl_lines.specs.declared.fault.Fault.{Fault}
use Rattle.tdl_lines.specs.declared.said.Said.{Said}
use Rattle.tdl_lines.specs.Faults.{fault_if}
use Rattle.tdl_lines.specs.SaidLines.{statements}
use Rattle.tdl_sched.specs.declared.entry.Entry.{Entry}
use Rattle.tdl_sched.specs.declared.entry.Entry.TheVariants.{Formless, Reserve}
use Rattle.tdl_sched.specs.Entries.{entry_of}

-- one for a line of the window's form, nothing for another
abbrev pub forms_in : Entry → ℕ
forms_in Formless = 0
forms_in (Reserve resource called span) = 1

-- S0: the line is of no form, a number of its span is too great, or as many lines as may stand before it
abbrev pub breaks_form : ℕ → Entry → Bool
breaks_form before Formless = true
breaks_form before (Reserve resource called span) = is_none span || nat_le WINDOWS before

-- S1: the module, mode or invocation is not there
abbrev pub is_unknown : Entry → Bool
is_unknown Formless = false
is_unknown (Reserve resource called span) = is_none called

-- the faults of a line, rule by rule
abbrev pub line_faults : ℕ → Said Entry → List Fault
line_faults before x = fault_if (breaks_form before x.what) x.line 0 ++ fault_if (is_unknown x.what) x.line 1

-- the faults of lines after so many lines of the form
abbrev pub faults_after : ℕ → List (Said Entry) → List Fault
faults_after before [] = []
faults_after before (x ∷ xs) = line_faults before x ++ faults_after (before + forms_in x.what) xs

-- the faults of lines
abbrev pub faults_of : List (Said Entry) → List Fault
faults_of lines = faults_after 0 lines

-- what the lines of a file say
abbrev pub lines_said : Program → List ℕ → List (Said Entry)
lines_said program bytes = statements (entry_of program) bytes

-- the faults of a file
abbrev pub schedule_faults : Program → List ℕ → List Fault
schedule_faults program bytes = faults_of (lines_said program bytes)
