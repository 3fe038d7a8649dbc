use Rattle.std.proofs.Common.{ap, ◌∙◌, ◌++◌, ◌∷◌, []}
use Rattle.tdl_window.proofs.SampleFacts.{has_two}
use Rattle.tdl_window.proofs.tests.program.Goals as goal

pub returns : goal.returns
returns c =
    has_two _ c.in_ok-exporter.exporter c.in_ok-importer.importer
    (c.in_ok-push.ensures.ok ∙ ap (λ ms. ms ++ c.in_ok-importer.importer ∷ []) c.in_ok-modules.ensures)
    c.in_ok-exporter.ensures c.in_ok-importer.ensures
