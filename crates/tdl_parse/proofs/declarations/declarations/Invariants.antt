use Rattle.std.proofs.Common.{◌≡◌, ◌≤◌, length}
use Rattle.tdl_grammar.specs.Parsing.{repeat, many, with_front}
use Rattle.tdl_base.specs.declared.limits.TheConstants.{NESTED_BLOCKS}
use Rattle.tdl_parse.specs.ReadingExpressions.{outermost}
use Rattle.tdl_parse.specs.ReadingStatements.{block}
use Rattle.tdl_parse.specs.ReadingDeclarations.{begins_decl, decl}
use Rattle.tdl_parse.proofs.declarations.declarations.Given as goal

abbrev pub invariant-loop-more : goal.invariant-loop-more
invariant-loop-more l =
    (with_front l.items.items (repeat begins_decl (decl outermost (block NESTED_BLOCKS outermost)) l.more l.rest) ≡ many begins_decl (decl outermost (block NESTED_BLOCKS outermost)) l.words)
    × (length l.rest ≤ length l.words)

abbrev pub decreases-loop-more : goal.decreases-loop-more
decreases-loop-more l = l.more
