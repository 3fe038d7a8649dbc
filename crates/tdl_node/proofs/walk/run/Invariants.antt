use Rattle.std.proofs.Common.{◌≡◌, ◌≤◌, suc}
use Rattle.tdl_scen.specs.Scenario.{course_of}
use Rattle.tdl_scen.specs.Senses.{IsUpTo}
use Rattle.tdl_node.proofs.Reaching.{Reaches}
use Rattle.tdl_node.proofs.walk.run.Given as goal

abbrev pub invariant-loop-from : goal.invariant-loop-from
invariant-loop-from g l = record {
  at : Reaches l.bundle l.horizon (course_of l.senses) (g.M.Machine.times l.fn.machine) l.names l.from
      (g.M.Machine.declared l.machine) (g.M.Machine.parts l.machine) (g.O.Sink.told l.fn.out).contents
      (g.O.Sink.told l.out).contents;
  up_to : IsUpTo l.senses l.from l.sensed;
  ready : g.M.Machine.ready l.machine (suc l.from);
  same_times : g.M.Machine.times l.machine ≡ g.M.Machine.times l.fn.machine;
  later : (g.O.Sink.told l.fn.out).faults ≤ (g.O.Sink.told l.out).faults;
}
