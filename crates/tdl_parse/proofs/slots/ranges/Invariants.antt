use Rattle.std.proofs.Common.{◌≡◌, ◌<◌, length}
use Rattle.tdl_grammar.specs.Parsing.{repeat, separated, with_front}
use Rattle.tdl_tree.specs.declared.words.WordKind.TheVariants as k
use Rattle.tdl_tree.specs.Kinds.{is}
use Rattle.tdl_parse.specs.Reading.{after}
use Rattle.tdl_parse.specs.ReadingActivities.{range}
use Rattle.tdl_parse.proofs.slots.ranges.Given as goal

abbrev pub invariant-loop-more : goal.invariant-loop-more
invariant-loop-more l =
    (with_front l.items.items (repeat (is k.Comma) (after k.Comma range) l.more l.rest) ≡ separated (is k.Comma) range l.words)
    × (length l.rest < length l.words)

abbrev pub decreases-loop-more : goal.decreases-loop-more
decreases-loop-more l = l.more
