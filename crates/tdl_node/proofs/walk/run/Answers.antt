use Rattle.std.proofs.Common.{ℕ, suc, ◌+◌, subst, sym, ◌∙◌, arith, add-one}
use Rattle.tdl_scen.specs.Scenario.{course_of}
use Rattle.tdl_scen.specs.Senses.{IsUpTo}
use Rattle.tdl_scen.proofs.SensesLemmas.{none_over}
use Rattle.tdl_trace.proofs.Printing.{on_err}
use Rattle.tdl_node.proofs.Reaching.{first_reached, first_unprinted, first_trapped, first_reason, next_reached, next_unprinted, next_trapped, next_reason, stops_at, ends_at, ends_alive, rose_before, write_failed}
use Rattle.tdl_node.proofs.walk.run.Goals as goal

-- ---- instant 0

pub returns-in_err-first-clause-trapped : goal.returns-in_err-first-clause-trapped
returns-in_err-first-clause-trapped g c =
    first_trapped c.args.bundle.now c.args.horizon (course_of c.args.senses.now) (g.M.Machine.times c.args.machine.now)
    c.args.names.now
    (g.M.Machine.declared c.args.machine.now) (g.M.Machine.parts c.args.machine.now) c.in_err-first.field-0.0
    c.from_residual.result
    c.requires.begun c.from_residual.ensures.1 c.in_err-first.ensures.trapped

pub returns-in_err-first-clause-reason : goal.returns-in_err-first-clause-reason
returns-in_err-first-clause-reason g c =
    first_reason c.args.bundle.now c.args.horizon (course_of c.args.senses.now) (g.M.Machine.times c.args.machine.now)
    c.args.names.now
    (g.M.Machine.declared c.args.machine.now) (g.M.Machine.parts c.args.machine.now) c.in_err-first.field-0.0
    c.from_residual.result
    c.requires.begun c.from_residual.ensures.1 c.in_err-first.ensures.trapped

pub returns-in_err-print_rows-clause-err : goal.returns-in_err-print_rows-clause-err
returns-in_err-print_rows-clause-err g c =
    on_err c.from_residual-in_err-print_rows.result
    (first_unprinted c.args.bundle.now c.args.horizon (course_of c.args.senses.now)
    (g.M.Machine.times c.args.machine.now) c.args.names.now
    (g.M.Machine.declared c.args.machine.now) (g.M.Machine.parts c.args.machine.now)
    (g.M.Machine.parts c.turn.new.machine) c.in_ok-first.first
    (g.O.Sink.told c.args.out.now).contents (g.O.Sink.told c.print_rows.new.out).contents
    c.requires.begun (c.in_ok-first.ensures.off_bus c.requires.off_bus) c.in_ok-first.ensures.ok
    c.in_err-print_rows.ensures.err)

pub loop-from-init : goal.loop-from-init
loop-from-init g c = record {
  at = first_reached c.args.bundle.now c.args.horizon (course_of c.args.senses.now)
      (g.M.Machine.times c.args.machine.now) c.args.names.now
      (g.M.Machine.declared c.args.machine.now) (g.M.Machine.declared c.turn.new.machine)
      (g.M.Machine.parts c.args.machine.now) (g.M.Machine.parts c.turn.new.machine) c.in_ok-first.first
      (g.O.Sink.told c.args.out.now).contents (g.O.Sink.told c.print_rows.new.out).contents
      c.requires.begun (c.in_ok-first.ensures.off_bus c.requires.off_bus) c.in_ok-first.ensures.ok
      c.turn.ensures.same_count c.in_ok-print_rows.ensures.ok;
  up_to = c.in_ok-first.ensures.up_to;
  ready = c.in_ok-first.ensures.later;
  same_times = c.turn.ensures.same_times;
  later = c.print_rows.ensures.later;
}

-- ---- one more instant

pub returns-in_err-rows-clause-err : goal.returns-in_err-rows-clause-err
returns-in_err-rows-clause-err g c =
    on_err c.from_residual-in_err-rows.result
    (stops_at c.args.bundle.now c.args.horizon (course_of c.args.senses.now) (g.M.Machine.times c.args.machine.now)
    c.args.names.now
    c.loop-from.from (g.M.Machine.declared c.loop-from.machine) (g.M.Machine.parts c.loop-from.machine)
    (g.O.Sink.told c.args.out.now).contents (g.O.Sink.told c.loop-from.out).contents c.loop-from.invariant.at
    (omega (arith, c.loop-from-test.true)))

pub returns-in_err-rows-clause-trapped : goal.returns-in_err-rows-clause-trapped
returns-in_err-rows-clause-trapped g c =
    next_trapped c.args.bundle.now c.args.horizon (course_of c.args.senses.now) (g.M.Machine.times c.args.machine.now)
    c.args.names.now
    c.loop-from.from (g.M.Machine.declared c.loop-from.machine) (g.M.Machine.parts c.loop-from.machine)
    (g.M.Machine.times c.loop-from.machine)
    (g.O.Sink.told c.args.out.now).contents (g.O.Sink.told c.loop-from.out).contents c.in_err-rows.field-0.0
    c.from_residual-in_err-rows.result
    c.loop-from.invariant.at c.loop-from.invariant.same_times (omega (arith, c.loop-from-test.true))
    c.from_residual-in_err-rows.ensures.1 c.in_err-rows.ensures.trapped

pub returns-in_err-rows-clause-reason : goal.returns-in_err-rows-clause-reason
returns-in_err-rows-clause-reason g c =
    next_reason c.args.bundle.now c.args.horizon (course_of c.args.senses.now) (g.M.Machine.times c.args.machine.now)
    c.args.names.now
    c.loop-from.from (g.M.Machine.declared c.loop-from.machine) (g.M.Machine.parts c.loop-from.machine)
    (g.M.Machine.times c.loop-from.machine)
    (g.O.Sink.told c.args.out.now).contents (g.O.Sink.told c.loop-from.out).contents c.in_err-rows.field-0.0
    c.from_residual-in_err-rows.result
    c.loop-from.invariant.at c.loop-from.invariant.same_times (omega (arith, c.loop-from-test.true))
    c.from_residual-in_err-rows.ensures.1 c.in_err-rows.ensures.trapped

pub returns-in_err-print_rows-2-clause-err : goal.returns-in_err-print_rows-2-clause-err
returns-in_err-print_rows-2-clause-err g c =
    on_err c.from_residual-in_err-print_rows-2.result
    (next_unprinted c.args.bundle.now c.args.horizon (course_of c.args.senses.now)
    (g.M.Machine.times c.args.machine.now) c.args.names.now
    c.loop-from.from (g.M.Machine.declared c.loop-from.machine) (g.M.Machine.parts c.loop-from.machine)
    (g.M.Machine.parts c.step.new.machine) c.in_ok-rows.rows
    (g.M.Machine.times c.loop-from.machine)
    (g.O.Sink.told c.args.out.now).contents (g.O.Sink.told c.loop-from.out).contents
    (g.O.Sink.told c.print_rows-in-loop-from.new.out).contents
    c.loop-from.invariant.at (c.in_ok-rows.ensures.off_bus c.loop-from.invariant.at.off)
    c.loop-from.invariant.same_times c.in_ok-rows.ensures.ok
    (omega (arith, c.loop-from-test.true)) c.in_err-print_rows-2.ensures.err)

pub returns-in_err-print_rows-2-clause-cause : goal.returns-in_err-print_rows-2-clause-cause
returns-in_err-print_rows-2-clause-cause g c failed =
    rose_before (g.O.Sink.told c.args.out.now).faults (g.O.Sink.told c.loop-from.out).faults
    (g.O.Sink.told c.print_rows-in-loop-from.new.out).faults
    c.loop-from.invariant.later
    (c.in_err-print_rows-2.ensures.cause
    (write_failed c.in_err-print_rows-2.field-0.0 c.from_residual-in_err-print_rows-2.result
    c.from_residual-in_err-print_rows-2.ensures.1 failed))

pub loop-from-preserved : goal.loop-from-preserved
loop-from-preserved g c = record {
  at = next_reached c.args.bundle.now c.args.horizon (course_of c.args.senses.now)
      (g.M.Machine.times c.args.machine.now) c.args.names.now
      c.loop-from.from (c.loop-from.from + 1) (g.M.Machine.declared c.loop-from.machine)
      (g.M.Machine.declared c.step.new.machine)
      (g.M.Machine.parts c.loop-from.machine) (g.M.Machine.parts c.step.new.machine) c.in_ok-rows.rows
      (g.M.Machine.times c.loop-from.machine)
      (g.O.Sink.told c.args.out.now).contents (g.O.Sink.told c.loop-from.out).contents
      (g.O.Sink.told c.print_rows-in-loop-from.new.out).contents
      c.loop-from.invariant.at (c.in_ok-rows.ensures.off_bus c.loop-from.invariant.at.off)
      c.loop-from.invariant.same_times c.in_ok-rows.ensures.ok
      (add-one c.loop-from.from) c.step.ensures.same_count c.in_ok-print_rows-2.ensures.ok;
  up_to = subst (λ (x : ℕ). IsUpTo c.args.senses.now x c.step.new.sensed) (sym (add-one c.loop-from.from))
      c.in_ok-rows.ensures.up_to;
  ready = subst (λ (x : ℕ). g.M.Machine.ready c.step.new.machine (suc x)) (sym (add-one c.loop-from.from))
      c.in_ok-rows.ensures.later;
  same_times = c.step.ensures.same_times ∙ c.loop-from.invariant.same_times;
  later = omega (arith, c.loop-from.invariant.later, c.print_rows-in-loop-from.ensures.later);
}

-- ---- the end

pub returns-clause-ok : goal.returns-clause-ok
returns-clause-ok g c =
    ends_at c.args.bundle.now c.args.horizon (course_of c.args.senses.now) (g.M.Machine.times c.args.machine.now)
    c.args.names.now
    c.loop-from.from (g.M.Machine.declared c.loop-from.machine) (g.M.Machine.parts c.loop-from.machine)
    (g.O.Sink.told c.args.out.now).contents (g.O.Sink.told c.loop-from.out).contents c.loop-from.invariant.at
    (omega (arith, c.loop-from-test.false, c.loop-from.auto.from-end))

pub returns-clause-alive : goal.returns-clause-alive
returns-clause-alive g c =
    ends_alive c.args.bundle.now c.args.horizon (course_of c.args.senses.now) (g.M.Machine.times c.args.machine.now)
    c.args.names.now
    c.loop-from.from (g.M.Machine.declared c.loop-from.machine) (g.M.Machine.parts c.loop-from.machine)
    (g.O.Sink.told c.args.out.now).contents (g.O.Sink.told c.loop-from.out).contents c.loop-from.invariant.at
    (omega (arith, c.loop-from-test.false, c.loop-from.auto.from-end))

pub turn-requires-clause-up_to : goal.turn-requires-clause-up_to
turn-requires-clause-up_to g c = rw c.new-sensed.ensures (none_over c.args.senses.now 0)
