-- What a body does to its cells.
use Rattle.std.specs.Prelude.{pos, List, [], ◌∷◌, if◌then◌else◌, slice_index_or, Option, Some, None}
use Rattle.tdl_base.specs.Numbers.{is_true}
use Rattle.tdl_base.specs.Cells.{Cells, stored, repeated}
use Rattle.tdl_body.specs.declared.tree.Body.{Body}
use Rattle.tdl_body.specs.declared.tree.Stmt.TheOpen.{Stmt-F, Body-F}
use Rattle.tdl_body.specs.declared.tree.Stmt.TheFolds.{fold-Body}
use Rattle.tdl_body.specs.Values.{Look, value_of}

-- a body reads its cells alone
abbrev pub look_of_cells : Cells → Look
look_of_cells cells = record {
  cell = λ k. slice_index_or cells.values k (pos 0);
  sensor = λ _. pos 0;
  port = λ _. pos 0;
}

-- what each does, one after the other
abbrev pub in_turn : List (Cells → Cells) → Cells → Cells
in_turn [] cells = cells
in_turn (f ∷ fs) cells = in_turn fs (f cells)

-- a second block that may be absent
abbrev pub or_nothing : Option (Cells → Cells) → Cells → Cells
or_nothing None cells = cells
or_nothing (Some f) cells = f cells

-- what one statement does, given what its blocks do
abbrev pub stmt_step : Stmt-F (Cells → Cells) (Cells → Cells) → Cells → Cells
stmt_step (Stmt-F.Assign k value) cells = stored k (value_of value (look_of_cells cells)) cells
stmt_step (Stmt-F.If test then' other) cells =
    if is_true (value_of test (look_of_cells cells)) then then' cells else or_nothing other cells
stmt_step (Stmt-F.Repeat count block) cells = repeated count block cells

-- what a block does, given what its statements do
abbrev pub block_step : Body-F (Cells → Cells) (Cells → Cells) → Cells → Cells
block_step block = in_turn block.stmts

-- what a body does to the cells of a job
unfoldable pub effect_of : Body → Cells → Cells
effect_of = fold-Body (Cells → Cells) (Cells → Cells) stmt_step block_step
