use Rattle.std.proofs.Common.{rules, arith, ◌≡◌, ◌≤◌, ◌<◌, ◌∙◌, sym, true, false, length, inl, inr}
use Rattle.tdl_grammar.specs.Parsing.{opens}
use Rattle.tdl_tree.specs.declared.words.WordKind.TheVariants as k
use Rattle.tdl_tree.specs.Kinds.{is}
use Rattle.tdl_parse.specs.ReadingDeclarations.{import_name}
use Rattle.tdl_parse.proofs.Loops.{repeat_next, repeat_end}
use Rattle.tdl_parse.proofs.source.imports.Goals as goal

pub loop-more-preserved : goal.loop-more-preserved
loop-more-preserved c =
    let begun : opens (is k.Import) c.loop-more.rest.now ≡ true = search rules in
    let before : length c.loop-more.rest.now ≤ length c.args.words.now = c.loop-more.invariant.1 in
    let shorter : length c.in_ok-item.after.now < length c.loop-more.rest.now = c.in_ok-item.ensures.shorter in (
      rw c.in_ok-push.ensures.items
          (repeat_next (is k.Import) import_name c.loop-more.more c.loop-more.items.items c.in_ok-item.item
          c.loop-more.rest.now c.in_ok-item.after.now (omega arith) begun c.in_ok-item.ensures.value
          ∙ c.loop-more.invariant.0),
      omega arith,
    )

pub returns-then-not-opens-clause-value : goal.returns-then-not-opens-clause-value
returns-then-not-opens-clause-value c =
    let stop : opens (is k.Import) c.loop-more.rest.now ≡ false = search rules in
    sym c.loop-more.invariant.0
    ∙ repeat_end (is k.Import) import_name c.loop-more.more c.loop-more.items.items c.loop-more.rest.now (inr stop)

pub returns-clause-value : goal.returns-clause-value
returns-clause-value c =
    let none : c.loop-more.more ≡ 0 = omega arith in
    sym c.loop-more.invariant.0
    ∙ repeat_end (is k.Import) import_name c.loop-more.more c.loop-more.items.items c.loop-more.rest.now (inl none)
