-- Sinks in memory: what they are, and what a put makes of them.
use Rattle.std.specs.Prelude.{ℕ, ◌+◌, ◌==◌, ◌||◌, List, ◌++◌, length, Bool, if◌then◌else◌, nat_lt}
use Rattle.std.specs.List.{list_any}
use Rattle.tdl_io.specs.Outside.{raised}

-- the bytes that are held, the greatest number of them, the numbers of the puts that are told to fail, and how many
-- were made and failed
pub record SinkState : Type 0 where
  pub bytes : List ℕ
  pub room : ℕ
  pub fail : List ℕ
  pub puts : ℕ
  pub faults : ℕ

-- the next put fails: by its number, or for want of room
abbrev pub put_fails : SinkState → List ℕ → Bool
put_fails s bytes = list_any (λ k. k == raised s.puts) s.fail || nat_lt s.room (length s.bytes + length bytes)

-- the sink after a put: one that fails takes no byte
abbrev pub after_put : SinkState → List ℕ → SinkState
after_put s bytes =
    if put_fails s bytes
    then record s { puts = raised s.puts; faults = raised s.faults }
    else record s { puts = raised s.puts; bytes = s.bytes ++ bytes }
