use Rattle.std.proofs.Common.{rules, arith, ◌≡◌, ◌≤◌, ◌<◌, ◌∙◌, sym, true, false, length, inl, inr}
use Rattle.tdl_grammar.specs.Parsing.{opens}
use Rattle.tdl_parse.specs.ReadingExpressions.{outermost}
use Rattle.tdl_parse.specs.ReadingStatements.{begins_stmt, stmt, block}
use Rattle.tdl_parse.proofs.Loops.{repeat_next, repeat_end}
use Rattle.tdl_parse.proofs.statements.+statements.Goals as goal

pub statements-loop-more-preserved : goal.statements-loop-more-preserved
statements-loop-more-preserved t c =
    let begun : opens begins_stmt c.loop-more.rest.now ≡ true = search rules in
    let before : length c.loop-more.rest.now ≤ length c.args.words.now = c.loop-more.invariant.1 in
    let shorter : length c.in_ok-item.after.now < length c.loop-more.rest.now = c.in_ok-item.ensures.shorter in (
      rw c.in_ok-push.ensures.items
          (repeat_next begins_stmt (stmt outermost (block c.args.nested outermost)) c.loop-more.more c.loop-more.items.items c.in_ok-item.item
          c.loop-more.rest.now c.in_ok-item.after.now (omega arith) begun c.in_ok-item.ensures.value
          ∙ c.loop-more.invariant.0),
      omega arith,
    )

pub statements-returns-then-not-begins_statement-clause-value :
    goal.statements-returns-then-not-begins_statement-clause-value
statements-returns-then-not-begins_statement-clause-value t c =
    let stop : opens begins_stmt c.loop-more.rest.now ≡ false = search rules in
    sym c.loop-more.invariant.0
    ∙ repeat_end begins_stmt (stmt outermost (block c.args.nested outermost)) c.loop-more.more c.loop-more.items.items c.loop-more.rest.now (inr stop)

pub statements-returns-clause-value : goal.statements-returns-clause-value
statements-returns-clause-value t c =
    let none : c.loop-more.more ≡ 0 = omega arith in
    sym c.loop-more.invariant.0
    ∙ repeat_end begins_stmt (stmt outermost (block c.args.nested outermost)) c.loop-more.more c.loop-more.items.items c.loop-more.rest.now (inl none)
