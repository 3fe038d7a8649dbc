use Rattle.tdl_ecode.proofs.Apart.{nothing_after, same_instr, same_after}
use Rattle.tdl_ecode.proofs.laws.prefix_free.Goals as goal

pub returns-clause-whole : goal.returns-clause-whole
returns-clause-whole c = nothing_after

pub returns-clause-instr : goal.returns-clause-instr
returns-clause-instr c = same_instr

pub returns-clause-follows : goal.returns-clause-follows
returns-clause-follows c = same_after
