-- What the reader tells of the faults of a file.
use Rattle.std.proofs.Common.{◌≡◌, ℕ, List, [], Option, Some, None, sym, ap, ◌∙◌}
use Rattle.tdl_lines.specs.declared.fault.Fault.{Fault}
use Rattle.tdl_lines.specs.declared.said.Said.{Said}
use Rattle.tdl_lines.specs.Faults.{earliest, IsFirst}
use Rattle.tdl_lines.proofs.FirstFault.{none_is, first_is}
use Rattle.tdl_mode.specs.declared.program.Program.{Program}
use Rattle.tdl_sched.specs.declared.entry.Entry.{Entry}
use Rattle.tdl_sched.specs.ScheduleRules.{faults_of, lines_said, schedule_faults}

-- the earliest fault of the lines that were read is that of the file
earliest_is : (program : Program) (bytes : List ℕ) (lines : List (Said Entry)) (found : Option Fault) →
    lines ≡ lines_said program bytes → found ≡ earliest None (faults_of lines) →
    earliest None (schedule_faults program bytes) ≡ found
earliest_is program bytes lines found same e =
    sym (e ∙ ap (λ (ls : List (Said Entry)). earliest None (faults_of ls)) same)

-- where none is found there is none
pub no_fault : (program : Program) (bytes : List ℕ) (lines : List (Said Entry)) (found : Option Fault) →
    lines ≡ lines_said program bytes → found ≡ earliest None (faults_of lines) → found ≡ None →
    schedule_faults program bytes ≡ []
no_fault program bytes lines found same e none =
    none_is (schedule_faults program bytes) (earliest_is program bytes lines found same e ∙ none)

-- where one is found it is the first
pub first_found : (program : Program) (bytes : List ℕ) (lines : List (Said Entry)) (found : Option Fault) (f : Fault) →
    lines ≡ lines_said program bytes → found ≡ earliest None (faults_of lines) → found ≡ Some f →
    IsFirst f (schedule_faults program bytes)
first_found program bytes lines found f same e is =
    first_is (schedule_faults program bytes) f (earliest_is program bytes lines found same e ∙ is)
