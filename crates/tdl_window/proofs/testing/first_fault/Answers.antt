use Rattle.std.proofs.Common.{Some, ap, ◌∙◌}
use Rattle.tdl_base.specs.Lists.{first_of}
use Rattle.tdl_window.specs.Faults.{window_faults, call_faults, frame_faults, pair_faults, sched_faults}
use Rattle.tdl_window.proofs.FirstPlaces.{in_first, in_second}
use Rattle.tdl_window.proofs.testing.first_fault.Goals as goal

pub returns-in-Some : goal.returns-in-Some
unfolding sched_faults
returns-in-Some c =
    in_first (window_faults c.args.program.now c.args.schedule.now) _ c.window_fault.result c.in-Some.fault
    c.window_fault.ensures c.in-Some.is

pub returns-in-Some-call_fault : goal.returns-in-Some-call_fault
unfolding sched_faults
returns-in-Some-call_fault c =
    in_second (window_faults c.args.program.now c.args.schedule.now) _ c.window_fault.result
    (Some c.in-Some-call_fault.fault) c.window_fault.ensures c.in_default.is
    (in_first (call_faults c.args.program.now c.args.placement.now c.args.schedule.now) _ c.call_fault.result
    c.in-Some-call_fault.fault c.call_fault.ensures c.in-Some-call_fault.is)

pub returns-in-Some-frame_fault : goal.returns-in-Some-frame_fault
unfolding sched_faults
returns-in-Some-frame_fault c =
    in_second (window_faults c.args.program.now c.args.schedule.now) _ c.window_fault.result
    (Some c.in-Some-frame_fault.fault) c.window_fault.ensures c.in_default.is
    (in_second (call_faults c.args.program.now c.args.placement.now c.args.schedule.now) _ c.call_fault.result
    (Some c.in-Some-frame_fault.fault) c.call_fault.ensures c.in_default-call_fault.is
    (in_first (frame_faults c.args.program.now c.args.placement.now c.args.schedule.now) _ c.frame_fault.result
    c.in-Some-frame_fault.fault c.frame_fault.ensures c.in-Some-frame_fault.is))

pub returns : goal.returns
unfolding sched_faults
returns c =
    in_second (window_faults c.args.program.now c.args.schedule.now) _ c.window_fault.result c.pair_fault.result
    c.window_fault.ensures c.in_default.is
    (in_second (call_faults c.args.program.now c.args.placement.now c.args.schedule.now) _ c.call_fault.result
    c.pair_fault.result c.call_fault.ensures c.in_default-call_fault.is
    (in_second (frame_faults c.args.program.now c.args.placement.now c.args.schedule.now) _ c.frame_fault.result
    c.pair_fault.result c.frame_fault.ensures c.in_default-frame_fault.is
    (c.pair_fault.ensures
    ∙ ap (λ gs. first_of (pair_faults c.args.placement.now gs c.args.schedule.now)) c.requires.grains)))
