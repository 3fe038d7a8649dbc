-- Two small sources, for tests: `far`, which has a constant and a task, and `near`, which imports it.
use Rattle.std.specs.Prelude.{true, false, [], ◌∷◌, Some, codes}
use Rattle.tdl_base.specs.declared.kinds.Kind.TheVariants as kind
use Rattle.tdl_tree.specs.declared.declarations.Decl.TheVariants as decl
use Rattle.tdl_tree.specs.declared.declarations.Sort.TheVariants as sort
use Rattle.tdl_tree.specs.declared.declarations.Tree.{Tree}
use Rattle.tdl_program.specs.Examples.{named, literal, micros, port, mix_ports}

-- module far { public const int top = 7; public task feed wcet 2us { output int o = 5; } start mode only period 8us {} }
abbrev pub far : Tree
far = record {
  name = named (codes "far");
  imports = [];
  decls =
      decl.Const true kind.Int (named (codes "top")) (literal 7) ∷
      decl.Task true (named (codes "feed")) (micros 2)
      (record (port sort.Output kind.Int (codes "o")) { initial = Some (literal 5) } ∷ []) [] ∷
      decl.Mode true (named (codes "only")) (micros 8) [] ∷ [];
}

-- module near { import far; sensor int level; task mix wcet 3us { .. } sensor boolean on; start mode work period 12us {} }
abbrev pub near : Tree
near = record {
  name = named (codes "near");
  imports = named (codes "far") ∷ [];
  decls =
      decl.Sensor kind.Int (named (codes "level")) ∷
      decl.Task false (named (codes "mix")) (micros 3) mix_ports [] ∷
      decl.Sensor kind.Boolean (named (codes "on")) ∷
      decl.Mode true (named (codes "work")) (micros 12) [] ∷ [];
}
