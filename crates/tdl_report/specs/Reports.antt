-- What the error sink holds after a line was put into it.
use Rattle.std.specs.Prelude.{◌≡◌, ℕ, List, ◌≤◌, ◌⊎◌}
use Rattle.tdl_io.specs.Outside.{Rose, Appends, AppendsPart}
use Rattle.tdl_report.specs.Calls.{SinkCall}
use Rattle.tdl_report.specs.declared.status.Status.{Status}
use Rattle.tdl_report.specs.declared.status.Status.TheVariants.{SaveFailed}
use Rattle.tdl_words.specs.Words.{Words}
use Rattle.tdl_report.specs.Statuses.{error_line}

-- the line was put once: it was taken whole, or its sink failed and took a first part of it
pub record IsSaid (err : SinkCall) (line : List ℕ) : Type 0 where
  pub put : Appends err.before.contents err.after.contents line ⊎
      (Rose err.before.faults err.after.faults × AppendsPart err.before.contents err.after.contents line)
  pub later : err.before.faults ≤ err.after.faults

-- nothing was put
pub record IsQuiet (err : SinkCall) : Type 0 where
  pub contents : err.after.contents ≡ err.before.contents
  pub count : err.after.faults ≡ err.before.faults

-- of a refused call the line of a failed save was put, and no other line yet
abbrev pub IsToldOfSave : Words → SinkCall → Status → Type 0
IsToldOfSave words err (SaveFailed w) = IsSaid err (error_line words (SaveFailed w))
IsToldOfSave words err status = IsQuiet err
