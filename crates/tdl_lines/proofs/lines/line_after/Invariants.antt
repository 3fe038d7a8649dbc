use Rattle.std.proofs.Common.{◌≡◌, ◌+◌, ◌≤◌, length}
use Rattle.tdl_scen.specs.Lines.{lines_of}
use Rattle.tdl_lines.specs.declared.lines.TheConstants.{FILE_BYTES}
use Rattle.tdl_lines.proofs.lines.line_after.Given as goal

abbrev pub invariant-loop-after : goal.invariant-loop-after
invariant-loop-after l =
    (l.number + length (lines_of l.rest) ≡ length (lines_of l.bytes) + 1)
    × (l.number + length l.rest ≤ FILE_BYTES + 1)

abbrev pub decreases-loop-after : goal.decreases-loop-after
decreases-loop-after l = length l.rest
