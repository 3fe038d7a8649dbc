use Rattle.std.proofs.Common.{arith}
use Rattle.tdl_scenario.specs.Rules.{seen_in}
use Rattle.tdl_scenario.proofs.Walking.{one_more, all_over}
use Rattle.tdl_scenario.proofs.faults.first_in_lines.Goals as goal

pub loop-said-preserved : goal.loop-said-preserved
loop-said-preserved c =
    one_more c.args.nodes c.args.lines.now c.loop-said.said-index (seen_in c.loop-said.seen) (seen_in c.learn.new.self)
    c.loop-said.best c.note_line.new.best c.said-item.result c.loop-said-test.true c.said-item.is c.loop-said.invariant
    c.note_line.ensures c.in_ok-learn.ensures

pub returns : goal.returns
returns c =
    all_over c.args.nodes c.args.lines.now c.loop-said.said-index (seen_in c.loop-said.seen) c.loop-said.best
    (omega (arith, c.loop-said-test.false)) c.loop-said.invariant
