use Rattle.std.proofs.Common.{◌∙◌}
use Rattle.tdl_words.proofs.Reading.{are_options-short}
use Rattle.tdl_words.proofs.words.are_options.Goals as goal

pub returns : goal.returns
returns c = are_options-short c.args.allowed c.loop-left.left.now c.in_default.len_below ∙ c.loop-left.invariant
