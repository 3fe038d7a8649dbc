-- What a code looks at and its cells, as what a tree looks at.
use Rattle.std.specs.Prelude.{pos, slice_index_or}
use Rattle.tdl_base.specs.Cells.{Cells}
use Rattle.tdl_body.specs.Values.{Look}
use Rattle.tdl_stack.specs.Running.{Outer}

-- what a tree may read where a code reads these
abbrev pub looked : Outer → Cells → Look
looked outer cells =
    record { cell = λ k. slice_index_or cells.values k (pos 0); sensor = outer.sensor; port = outer.port }
