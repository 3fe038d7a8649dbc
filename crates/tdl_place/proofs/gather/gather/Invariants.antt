use Rattle.std.proofs.Common.{◌≡◌, length, map}
use Rattle.tdl_lines.specs.SaidLines.{NumberedLine, words_said}
use Rattle.tdl_place.specs.Entries.{entry_of}
use Rattle.tdl_place.specs.Gathering.{all_gathered, with_more}
use Rattle.tdl_place.specs.PlacementRules.{lines_said}
use Rattle.tdl_place.proofs.gather.gather.Given as goal

abbrev pub invariant-loop-line : goal.invariant-loop-line
invariant-loop-line l =
    with_more l.gathered (map (λ (line : NumberedLine). record {
      line = line.number;
      what = entry_of l.program (words_said line.text);
    }) l.lines)
    ≡ all_gathered (lines_said l.program l.bytes)

abbrev pub decreases-loop-line : goal.decreases-loop-line
decreases-loop-line l = length l.lines
