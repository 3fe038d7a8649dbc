use Rattle.tdl_meaning.proofs.ExampleWellFormed.{three_form}
use Rattle.tdl_meaning.proofs.ExampleWindows.{three_placed}
use Rattle.tdl_meaning.proofs.ExamplePasses.{three_passes}
use Rattle.tdl_meaning.proofs.ExampleRuns.{three_runs}
use Rattle.tdl_meaning.proofs.laws.three_modules_on_two_nodes.Goals as goal

pub returns : goal.returns
returns c = record {
  formed = three_form;
  placed = three_placed;
  passes = three_passes;
  runs = three_runs;
}
