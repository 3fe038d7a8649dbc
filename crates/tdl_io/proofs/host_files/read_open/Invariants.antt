use Rattle.std.proofs.Common.{◌+◌, ◌-◌, ◌≤◌, [], vec_len}
use Rattle.tdl_io.specs.Reading.{Moves}
use Rattle.tdl_io.proofs.host_files.read_open.Given as goal

abbrev pub invariant-turns : goal.invariant-turns
invariant-turns g l = record {
  bounded : vec_len l.into ≤ l.limit + 1;
  moved : Moves (g.R.Read.remaining l.initial.file) (g.R.Read.remaining l.file) [] l.into.items;
}

abbrev pub decreases-turns : goal.decreases-turns
decreases-turns g l = l.limit + 1 - vec_len l.into
