use Rattle.tdl_gen.proofs.EntryTables.{due_at_end}
use Rattle.tdl_gen.proofs.laws.entries.Goals as goal

pub returns : goal.returns
returns c p pl s k r m e at = due_at_end p pl s k m r e at
