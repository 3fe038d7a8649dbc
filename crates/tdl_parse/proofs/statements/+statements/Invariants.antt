use Rattle.std.proofs.Common.{◌≡◌, ◌≤◌, ◌+◌, ◌*◌, length}
use Rattle.tdl_grammar.specs.Parsing.{repeat, many, with_front}
use Rattle.tdl_parse.specs.ReadingExpressions.{outermost}
use Rattle.tdl_parse.specs.ReadingStatements.{begins_stmt, stmt, block}
use Rattle.tdl_parse.proofs.statements.+statements.Given as goal

abbrev pub decreases-if_statement : goal.decreases-if_statement
decreases-if_statement l = 3 * length l.words.now + 0

abbrev pub decreases-repeat_statement : goal.decreases-repeat_statement
decreases-repeat_statement l = 3 * length l.words.now + 0

abbrev pub decreases-statement : goal.decreases-statement
decreases-statement l = 3 * length l.words.now + 1

abbrev pub decreases-statements : goal.decreases-statements
decreases-statements l = 3 * length l.words.now + 2

abbrev pub decreases-block : goal.decreases-block
decreases-block l = 3 * length l.words.now + 0

abbrev pub invariant-statements-loop-more : goal.invariant-statements-loop-more
invariant-statements-loop-more l =
    (with_front l.items.items (repeat begins_stmt (stmt outermost (block l.nested outermost)) l.more l.rest)
    ≡ many begins_stmt (stmt outermost (block l.nested outermost)) l.words)
    × (length l.rest ≤ length l.words)

abbrev pub decreases-statements-loop-more : goal.decreases-statements-loop-more
decreases-statements-loop-more l = l.more
