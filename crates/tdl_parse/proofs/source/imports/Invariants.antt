use Rattle.std.proofs.Common.{◌≡◌, ◌≤◌, length}
use Rattle.tdl_grammar.specs.Parsing.{repeat, many, with_front}
use Rattle.tdl_tree.specs.declared.words.WordKind.TheVariants as k
use Rattle.tdl_tree.specs.Kinds.{is}
use Rattle.tdl_parse.specs.ReadingDeclarations.{import_name}
use Rattle.tdl_parse.proofs.source.imports.Given as goal

abbrev pub invariant-loop-more : goal.invariant-loop-more
invariant-loop-more l =
    (with_front l.items.items (repeat (is k.Import) import_name l.more l.rest) ≡ many (is k.Import) import_name l.words)
    × (length l.rest ≤ length l.words)

abbrev pub decreases-loop-more : goal.decreases-loop-more
decreases-loop-more l = l.more
