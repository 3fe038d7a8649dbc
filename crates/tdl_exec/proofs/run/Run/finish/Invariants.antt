use Rattle.std.proofs.Common.{◌≡◌}
use Rattle.tdl_exec.specs.Going.{end_of, steps_of, IsGoing, going}
use Rattle.tdl_exec.proofs.run.Run.finish.Given as goal

-- the end is the same
abbrev pub invariant-loop : goal.invariant-loop
invariant-loop g l = record {
  same : end_of (g.V.View.outer l.view) (going l.self (g.C.CellStore.cells l.cells))
      ≡ end_of (g.V.View.outer l.view) (going l.fn.self (g.C.CellStore.cells l.fn.cells));
  goes : IsGoing (going l.self (g.C.CellStore.cells l.cells));
}

abbrev pub decreases-loop : goal.decreases-loop
decreases-loop g l = steps_of (going l.self (g.C.CellStore.cells l.cells))
