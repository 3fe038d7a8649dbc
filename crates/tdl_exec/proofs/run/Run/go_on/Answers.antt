use Rattle.std.proofs.Common.{Some, sym, ap, ◌∙◌, arith, subst}
use Rattle.tdl_exec.specs.Stepping.{state_of, stepped}
use Rattle.tdl_exec.specs.Going.{IsNearer, going}
use Rattle.tdl_exec.proofs.Standing.{next-rep}
use Rattle.tdl_exec.proofs.Nearer.{skipped, nearer_by_skip, nearer_by_rep}
use Rattle.tdl_exec.proofs.InStep.{going_by_skip, going_by_rep, going_at_rep, going_at, going_some, going_may, going_room}
use Rattle.tdl_exec.proofs.run.Run.go_on.Goals as goal

pub returns-then-self-eq0-clause-step : goal.returns-then-self-eq0-clause-step
returns-then-self-eq0-clause-step g c =
    c.repeat.ensures.step (g.V.View.outer c.args.view.now) (g.C.CellStore.cells c.args.cells.now)

pub returns-then-self-eq0-clause-going : goal.returns-then-self-eq0-clause-going
returns-then-self-eq0-clause-going g c = c.repeat.ensures.going (g.C.CellStore.cells c.args.cells.now)

pub returns-in_default-clause-step : goal.returns-in_default-clause-step
returns-in_default-clause-step g c =
    absurd (going_some (going c.args.self.now (g.C.CellStore.cells c.args.cells.now)) c.requires (omega arith)
    (sym c.instr_at.ensures ∙ c.in_default.is))

pub step-requires-clause-supplied : goal.step-requires-clause-supplied
step-requires-clause-supplied g c =
    going_may (going c.args.self.now (g.C.CellStore.cells c.args.cells.now)) c.in-Some.instr c.requires
    (sym c.instr_at.ensures ∙ c.in-Some.is)

pub step-requires-clause-room : goal.step-requires-clause-room
step-requires-clause-room g c =
    going_room (going c.args.self.now (g.C.CellStore.cells c.args.cells.now)) c.in-Some.instr c.requires
    (sym c.instr_at.ensures ∙ c.in-Some.is)

pub overflow_add-self : goal.overflow_add-self
overflow_add-self g c =
    let l = (going_by_skip (going c.args.self.now (g.C.CellStore.cells c.args.cells.now)) c.in-Some.instr c.in-Skip.count
    (state_of c.step.new.stack (g.C.CellStore.cells c.step.new.cells)) c.requires
    (sym c.instr_at.ensures ∙ c.in-Some.is) (omega arith) (sym c.in-Skip.is ∙ c.step.ensures.next)
    c.step.ensures.height).0 in
    omega (arith, l)

pub overflow_add-self-in-Skip : goal.overflow_add-self-in-Skip
overflow_add-self-in-Skip g c =
    let l = (going_by_skip (going c.args.self.now (g.C.CellStore.cells c.args.cells.now)) c.in-Some.instr c.in-Skip.count
    (state_of c.step.new.stack (g.C.CellStore.cells c.step.new.cells)) c.requires
    (sym c.instr_at.ensures ∙ c.in-Some.is) (omega arith) (sym c.in-Skip.is ∙ c.step.ensures.next)
    c.step.ensures.height).0 in
    let m = going_at (going c.args.self.now (g.C.CellStore.cells c.args.cells.now)) c.requires in
    omega (arith, l, m)

pub overflow_add-self-in-Skip-2 : goal.overflow_add-self-in-Skip-2
overflow_add-self-in-Skip-2 g c =
    let l = (going_by_skip (going c.args.self.now (g.C.CellStore.cells c.args.cells.now)) c.in-Some.instr c.in-Skip.count
    (state_of c.step.new.stack (g.C.CellStore.cells c.step.new.cells)) c.requires
    (sym c.instr_at.ensures ∙ c.in-Some.is) (omega arith) (sym c.in-Skip.is ∙ c.step.ensures.next)
    c.step.ensures.height).0 in
    omega (arith, l)

pub overflow_sub-self : goal.overflow_sub-self
overflow_sub-self g c =
    let l = (going_by_skip (going c.args.self.now (g.C.CellStore.cells c.args.cells.now)) c.in-Some.instr c.in-Skip.count
    (state_of c.step.new.stack (g.C.CellStore.cells c.step.new.cells)) c.requires
    (sym c.instr_at.ensures ∙ c.in-Some.is) (omega arith) (sym c.in-Skip.is ∙ c.step.ensures.next)
    c.step.ensures.height).0 in
    omega (arith, l)

pub push-requires : goal.push-requires
push-requires g c =
    let is = next-rep c.in-Some.instr (state_of c.args.self.now.stack (g.C.CellStore.cells c.args.cells.now))
    c.in-Repeat.times c.in-Repeat.count (sym c.step.ensures.next ∙ c.in-Repeat.is) in
    (going_by_rep (going c.args.self.now (g.C.CellStore.cells c.args.cells.now)) c.in-Repeat.times c.in-Repeat.count
    c.requires (sym c.instr_at.ensures ∙ c.in-Some.is ∙ ap Some is) (omega arith)).0

pub overflow_add-self-in-Repeat-2 : goal.overflow_add-self-in-Repeat-2
overflow_add-self-in-Repeat-2 g c =
    let is = next-rep c.in-Some.instr (state_of c.args.self.now.stack (g.C.CellStore.cells c.args.cells.now))
    c.in-Repeat.times c.in-Repeat.count (sym c.step.ensures.next ∙ c.in-Repeat.is) in
    let l = (going_by_rep (going c.args.self.now (g.C.CellStore.cells c.args.cells.now)) c.in-Repeat.times
    c.in-Repeat.count c.requires (sym c.instr_at.ensures ∙ c.in-Some.is ∙ ap Some is) (omega arith)).1.0 in
    omega (arith, l)

pub overflow_add-self-in-Repeat-3 : goal.overflow_add-self-in-Repeat-3
overflow_add-self-in-Repeat-3 g c =
    let is = next-rep c.in-Some.instr (state_of c.args.self.now.stack (g.C.CellStore.cells c.args.cells.now))
    c.in-Repeat.times c.in-Repeat.count (sym c.step.ensures.next ∙ c.in-Repeat.is) in
    let l = (going_by_rep (going c.args.self.now (g.C.CellStore.cells c.args.cells.now)) c.in-Repeat.times
    c.in-Repeat.count c.requires (sym c.instr_at.ensures ∙ c.in-Some.is ∙ ap Some is) (omega arith)).1.0 in
    let m = going_at (going c.args.self.now (g.C.CellStore.cells c.args.cells.now)) c.requires in
    omega (arith, l, m)

pub returns-in-Skip-clause-step : goal.returns-in-Skip-clause-step
returns-in-Skip-clause-step g c =
    subst (λ s. IsNearer (g.V.View.outer c.args.view.now) (going c.args.self.now (g.C.CellStore.cells c.args.cells.now))
    (skipped (going c.args.self.now (g.C.CellStore.cells c.args.cells.now)) c.in-Skip.count s))
    (sym c.step.ensures.state)
    (nearer_by_skip (g.V.View.outer c.args.view.now) (going c.args.self.now (g.C.CellStore.cells c.args.cells.now))
    c.in-Some.instr c.in-Skip.count (sym c.instr_at.ensures ∙ c.in-Some.is) (omega arith)
    (sym c.in-Skip.is ∙ c.step.ensures.next))

pub returns-in-Skip-clause-going : goal.returns-in-Skip-clause-going
returns-in-Skip-clause-going g c =
    (going_by_skip (going c.args.self.now (g.C.CellStore.cells c.args.cells.now)) c.in-Some.instr c.in-Skip.count
    (state_of c.step.new.stack (g.C.CellStore.cells c.step.new.cells)) c.requires
    (sym c.instr_at.ensures ∙ c.in-Some.is) (omega arith) (sym c.in-Skip.is ∙ c.step.ensures.next)
    c.step.ensures.height).1

pub returns-in-Repeat-clause-step : goal.returns-in-Repeat-clause-step
returns-in-Repeat-clause-step g c =
    let is = next-rep c.in-Some.instr (state_of c.args.self.now.stack (g.C.CellStore.cells c.args.cells.now))
    c.in-Repeat.times c.in-Repeat.count (sym c.step.ensures.next ∙ c.in-Repeat.is) in
    nearer_by_rep (g.V.View.outer c.args.view.now) (going c.args.self.now (g.C.CellStore.cells c.args.cells.now))
    c.in-Repeat.times c.in-Repeat.count c.push.new.self
    (state_of c.step.new.stack (g.C.CellStore.cells c.step.new.cells))
    (sym c.instr_at.ensures ∙ c.in-Some.is ∙ ap Some is) (omega arith) c.push.ensures
    (c.step.ensures.state
    ∙ ap (λ i. stepped (g.V.View.outer c.args.view.now) i
    (state_of c.args.self.now.stack (g.C.CellStore.cells c.args.cells.now))) is)

pub returns-in-Repeat-clause-going : goal.returns-in-Repeat-clause-going
returns-in-Repeat-clause-going g c =
    let is = next-rep c.in-Some.instr (state_of c.args.self.now.stack (g.C.CellStore.cells c.args.cells.now))
    c.in-Repeat.times c.in-Repeat.count (sym c.step.ensures.next ∙ c.in-Repeat.is) in
    going_at_rep (going c.args.self.now (g.C.CellStore.cells c.args.cells.now)) c.in-Repeat.times c.in-Repeat.count
    c.push.new.self (state_of c.step.new.stack (g.C.CellStore.cells c.step.new.cells)) c.requires
    (sym c.instr_at.ensures ∙ c.in-Some.is ∙ ap Some is) (omega arith) c.push.ensures
    (c.step.ensures.state
    ∙ ap (λ i. stepped (g.V.View.outer c.args.view.now) i
    (state_of c.args.self.now.stack (g.C.CellStore.cells c.args.cells.now))) is)
