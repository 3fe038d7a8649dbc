use Rattle.std.proofs.Common.{◌≡◌, ◌++◌, map, drop}
use Rattle.tdl_window.specs.GrainOf.{grain_of, grains_of}
use Rattle.tdl_window.proofs.modulo.grains_of.Given as goal

abbrev pub invariant-loop-module : goal.invariant-loop-module
invariant-loop-module l = l.grains.items ++ map grain_of (drop l.module-index l.program.modules) ≡ grains_of l.program
