use Rattle.tdl_parse.proofs.Sentences as sentences
use Rattle.tdl_parse.proofs.laws.one_tree.Goals as goal

pub returns : goal.returns
returns c = sentences.one_tree
