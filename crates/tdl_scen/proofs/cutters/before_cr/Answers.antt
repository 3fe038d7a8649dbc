use Rattle.std.proofs.Common.{rules}
use Rattle.tdl_scen.proofs.CutLemmas.{before_cr-cr, before_cr-other}
use Rattle.tdl_scen.proofs.cutters.before_cr.Goals as goal

pub returns-then-last-eq13 : goal.returns-then-last-eq13
returns-then-last-eq13 c =
    before_cr-cr c.args.line.now c.in-Some.front.now c.in-Some.last.now c.in-Some.ensures.cases.0 (search rules)

pub returns : goal.returns
returns c =
    before_cr-other c.args.line.now c.in-Some.front.now c.in-Some.last.now c.in-Some.ensures.cases.0 (search rules)
