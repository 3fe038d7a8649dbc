use Rattle.std.proofs.Common.{◌+◌, ◌-◌}
use Rattle.tdl_words.specs.Words.{texts}
use Rattle.tdl_report.specs.Calls.{OnlyLoads, files_call}
use Rattle.tdl_top.proofs.InTurn.{AreReadTo}
use Rattle.tdl_top.proofs.sources.read_trees.Given as goal

abbrev pub invariant-loop-k : goal.invariant-loop-k
invariant-loop-k g l = record {
  so_far : AreReadTo (g.F.Files.told l.fn.files).holds (texts l.words) l.count (1 + l.k) (l.count - l.k) l.left l.trees;
  loads : OnlyLoads (files_call g.F.Files.told l.fn.files l.files);
}
