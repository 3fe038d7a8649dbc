use Rattle.tdl_window.proofs.SampleFacts.{has_call}
use Rattle.tdl_window.proofs.tests.module.Goals as goal

pub returns : goal.returns
returns c =
    has_call _ c.in_ok-mode.field-0 c.in_ok-task.field-0 c.in_ok-only-2.ensures c.in_ok-only.ensures
    c.in_ok-mode.ensures
