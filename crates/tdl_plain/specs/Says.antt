-- What program the tree of a source says.
use Rattle.std.specs.Prelude.{◌≡◌}
use Rattle.tdl_mode.specs.declared.program.Program.{Program}
use Rattle.tdl_tree.specs.declared.declarations.Tree.{Tree}
use Rattle.tdl_plain.specs.declared.form.Form.{Form}
use Rattle.tdl_plain.specs.PlainTree.{IsPlainTree}
use Rattle.tdl_plain.specs.PlainProgram.{program_of}

-- the tree says a form, and the program is that of the form
pub record Says (tree : Tree) (program : Program) : Type 0 where
  pub form : Form
  pub plain : IsPlainTree form tree
  pub is : program ≡ program_of form
