use Rattle.std.proofs.Common.{refl, arith}
use Rattle.tdl_exec.specs.Stepping.{state_of}
use Rattle.tdl_exec.specs.Going.{going}
use Rattle.tdl_exec.proofs.Nearer.{nearer_by_end, nearer_by_turn}
use Rattle.tdl_exec.proofs.InStep.{going_by_end, going_by_turn, going_on_any}
use Rattle.tdl_exec.proofs.run.Run.repeat.Goals as goal

pub returns-then-times-eq0-clause-step : goal.returns-then-times-eq0-clause-step
returns-then-times-eq0-clause-step c = λ outer cells.
    nearer_by_end outer (going c.args.self.now cells) c.in-Some.repetition c.pop.new.self c.requires.end
    c.in-Some.ensures.items (omega arith)

pub returns-then-times-eq0-clause-going : goal.returns-then-times-eq0-clause-going
returns-then-times-eq0-clause-going c = λ cells.
    going_by_end (going c.args.self.now cells) c.in-Some.repetition c.pop.new.self
    (going_on_any (going c.args.self.now c.requires.going.0) (state_of c.args.self.now.stack cells) refl
    c.requires.going.1)
    c.requires.end c.in-Some.ensures.items

pub returns-clause-step : goal.returns-clause-step
returns-clause-step c = λ outer cells.
    nearer_by_turn outer (going c.args.self.now cells) c.in-Some.repetition c.pop.new.self c.push.new.self
    c.requires.end c.in-Some.ensures.items (omega arith) c.push.ensures

pub returns-clause-going : goal.returns-clause-going
returns-clause-going c = λ cells.
    going_by_turn (going c.args.self.now cells) c.in-Some.repetition c.pop.new.self c.push.new.self
    (going_on_any (going c.args.self.now c.requires.going.0) (state_of c.args.self.now.stack cells) refl
    c.requires.going.1)
    c.requires.end c.in-Some.ensures.items c.push.ensures
