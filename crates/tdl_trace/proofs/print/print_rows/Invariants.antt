use Rattle.std.proofs.Common.{◌≤◌, take}
use Rattle.tdl_io.specs.Outside.{Appends}
use Rattle.tdl_trace.specs.Lines.{text_of}
use Rattle.tdl_trace.proofs.print.print_rows.Given as goal

abbrev pub invariant-loop-i : goal.invariant-loop-i
invariant-loop-i g l = record {
  held : Appends (g.O.Sink.told l.fn.out).contents (g.O.Sink.told l.out).contents (text_of l.names (take l.i l.rows));
  later : (g.O.Sink.told l.fn.out).faults ≤ (g.O.Sink.told l.out).faults;
}
