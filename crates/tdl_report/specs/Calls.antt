-- What a call finds and leaves in the objects that it is handed.
use Rattle.std.specs.Prelude.{◌≡◌, ◌≤◌}
use Rattle.tdl_io.specs.Outside.{NoCountFalls, NoCountChanges}
use Rattle.tdl_io.specs.Told.{FilesTold, SinkTold}

-- what files tell before a call and after it
pub record FilesCall : Type 0 where
  pub before : FilesTold
  pub after : FilesTold

-- what a sink tells before a call and after it
pub record SinkCall : Type 0 where
  pub before : SinkTold
  pub after : SinkTold

-- a call on files that tell this, by the files before it and after it
abbrev pub files_call : {T : Type 0} → (T → FilesTold) → T → T → FilesCall
files_call told old new = record { before = told old; after = told new }

-- a call on a sink that tells this, by the sink before it and after it
abbrev pub sink_call : {T : Type 0} → (T → SinkTold) → T → T → SinkCall
sink_call told old new = record { before = told old; after = told new }

-- no file changes
abbrev pub IsUnchanged : FilesCall → Type 0
IsUnchanged files = files.after.holds ≡ files.before.holds

-- nothing is printed
abbrev pub IsSilent : SinkCall → Type 0
IsSilent sink = sink.after.contents ≡ sink.before.contents

-- files were loaded, and no file was saved
pub record OnlyLoads (files : FilesCall) : Type 0 where
  pub held : files.after.holds ≡ files.before.holds
  pub later : files.before.faults ≤ files.after.faults
  pub loads : NoCountFalls files.before.failed_loads files.after.failed_loads
  pub saves : NoCountChanges files.before.failed_saves files.after.failed_saves
