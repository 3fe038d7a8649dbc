use Rattle.std.proofs.Common.{sym, subst}
use Rattle.tdl_body.specs.Bounds.{IsBounded}
use Rattle.tdl_body.proofs.BoundExamples.{bounded-choice}
use Rattle.tdl_lower.proofs.tests.a_choice_skips_one_block.Goals as goal

pub lower-requires : goal.lower-requires
lower-requires g c = subst IsBounded (sym c.in_ok-body.ensures) bounded-choice
