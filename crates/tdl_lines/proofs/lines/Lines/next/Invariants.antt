use Rattle.std.proofs.Common.{◌≡◌, ◌+◌, ◌≤◌, length}
use Rattle.tdl_scen.specs.Lines.{lines_of}
use Rattle.tdl_lines.specs.SaidLines.{said_from}
use Rattle.tdl_lines.specs.declared.lines.TheConstants.{FILE_BYTES}
use Rattle.tdl_lines.proofs.lines.Lines.next.Given as goal

abbrev pub invariant-loop-text : goal.invariant-loop-text
invariant-loop-text l =
    (said_from (l.self-inside.passed + 1) (lines_of l.self-inside.rest.now)
    ≡ said_from (l.initial.self-inside.passed + 1) (lines_of l.initial.self-inside.rest.now))
    × (l.self-inside.passed + length l.self-inside.rest.now ≤ FILE_BYTES)

abbrev pub decreases-loop-text : goal.decreases-loop-text
decreases-loop-text l = length l.self-inside.rest.now
