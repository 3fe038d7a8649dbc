use Rattle.tdl_base.specs.declared.limits.TheConstants.{EXPRESSION_TOKENS}
use Rattle.tdl_parse.proofs.Cuts.{take_least}
use Rattle.tdl_parse.proofs.outermost.cut.Goals as goal

pub returns : goal.returns
returns c = rw c.least.ensures (take_least EXPRESSION_TOKENS c.args.words.now)
