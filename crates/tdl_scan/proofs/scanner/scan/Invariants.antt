use Rattle.std.proofs.Common.{length}
use Rattle.tdl_scan.proofs.Found.{IsScanned}
use Rattle.tdl_scan.proofs.scanner.scan.Given as goal

abbrev pub invariant-loop-left : goal.invariant-loop-left
invariant-loop-left l = IsScanned l.tokens.items l.place l.from l.left l.source

abbrev pub decreases-loop-left : goal.decreases-loop-left
decreases-loop-left l = length l.left
