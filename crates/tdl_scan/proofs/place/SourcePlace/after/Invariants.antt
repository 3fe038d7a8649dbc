use Rattle.std.proofs.Common.{◌≡◌, ◌≤◌, ◌+◌, ℕ, List, ◌++◌, take}
use Rattle.tdl_scan.specs.Places.{place_after}
use Rattle.tdl_scan.proofs.place.SourcePlace.after.Given as goal

abbrev pub invariant-loop-c : goal.invariant-loop-c
invariant-loop-c l = record {
  here : (front : List ℕ) → l.fn.self ≡ place_after front → l.place ≡ place_after (front ++ take l.c-index l.bytes);
  lines : l.place.line ≤ l.fn.self.line + l.c-index;
  cols : l.place.col ≤ l.fn.self.col + l.c-index;
}
