use Rattle.std.proofs.Common.{◌≡◌, ◌≤◌, length}
use Rattle.tdl_grammar.specs.Parsing.{repeat, many, with_front}
use Rattle.tdl_parse.specs.ReadingDeclarations.{begins_port, port}
use Rattle.tdl_parse.proofs.ports.ports.Given as goal

abbrev pub invariant-loop-more : goal.invariant-loop-more
invariant-loop-more l =
    (with_front l.items.items (repeat begins_port port l.more l.rest) ≡ many begins_port port l.words)
    × (length l.rest ≤ length l.words)

abbrev pub decreases-loop-more : goal.decreases-loop-more
decreases-loop-more l = l.more
