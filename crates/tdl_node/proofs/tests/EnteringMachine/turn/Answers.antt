use Rattle.tdl_scen.specs.Scenario.{course_of}
use Rattle.tdl_node.proofs.Entering.{rests, begins}
use Rattle.tdl_node.proofs.tests.EnteringMachine.turn.Goals as goal

pub returns-then-self-clause-ok : goal.returns-then-self-clause-ok
returns-then-self-clause-ok c =
    rests c.args.self.now.has_entered c.args.at (course_of c.args._senses.now c.args.at) _ c.args.rows.now
    c.if-self.true c.requires.empty

pub returns-in-Ok-clause-ok : goal.returns-in-Ok-clause-ok
returns-in-Ok-clause-ok c =
    begins c.args.self.now.has_entered c.args.at (course_of c.args._senses.now c.args.at) _ c.args.rows.now
    c.push.new.self c.if-self.false c.requires.ready
    c.requires.empty c.in-Ok.ensures.ok
