-- What an `Outer` shows.
use Rattle.std.specs.Prelude.{ℕ, ◌==◌, ◌&&◌, Bool, List, ℤ, pos, Option, None, Some, position, slice_index_or}
use Rattle.tdl_base.specs.Sensed.{sensed_at}
use Rattle.tdl_base.specs.declared.numbers.PortKey.{PortKey}
use Rattle.tdl_stack.specs.Running as running
use Rattle.tdl_exec.specs.declared.outer.Outer.{Outer}

-- two keys name one output
abbrev pub is_same : PortKey → PortKey → Bool
is_same a b = a.module.0 == b.module.0 && (a.task.0 == b.task.0 && a.output == b.output)

-- the number at a place that was looked for; 0 where there is none
abbrev pub number_at : Option ℕ → List ℤ → ℤ
number_at None values = pos 0
number_at (Some place) values = slice_index_or values place (pos 0)

-- the number beside a key; 0 where the key is not among them
abbrev pub number_of : List PortKey → List ℤ → PortKey → ℤ
number_of keys values key = number_at (position (λ k. is_same k key) keys) values

-- the sensors of the module and the outputs
abbrev pub shown : Outer → running.Outer
shown o = record {
  sensor = sensed_at o.sensed.now o.module.0;
  port = number_of o.keys.now o.values.now;
}
