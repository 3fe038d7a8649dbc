-- Files in memory that never fail: what they are.
use Rattle.std.specs.Prelude.{List, Bool}
use Rattle.tdl_io.specs.MemFiles.{Entry}

-- the entries, which no save changes, and whether a save was made
pub record QuietState : Type 0 where
  pub entries : List Entry
  pub saved : Bool
