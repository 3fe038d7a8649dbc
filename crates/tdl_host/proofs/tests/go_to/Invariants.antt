use Rattle.std.proofs.Common.{◌≡◌, []}
use Rattle.tdl_host.proofs.tests.go_to.Given as goal

abbrev pub invariant-loop-at : goal.invariant-loop-at
invariant-loop-at g l = record { ready : g.M.Machine.ready l.machine l.at; rows : l.rows ≡ [] }
