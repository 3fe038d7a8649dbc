use Rattle.tdl_lines.proofs.DotLemmas.{cut_twice}
use Rattle.tdl_lines.proofs.dots.dotted_pair.Goals as goal

pub returns-in-Some : goal.returns-in-Some
returns-in-Some c =
    cut_twice c.args.word.now c.in_ok-first.first.now c.in-Some.field-0.0.now c.in_ok-first.rest.now
    c.in-Some.field-0.1.now c.in_ok-first.ensures c.in-Some.ensures
