-- What an expression of a shape may read.
use Rattle.std.specs.Prelude.{◌<◌, Contains}
use Rattle.tdl_base.specs.declared.numbers.Place.{Place}
use Rattle.tdl_base.specs.declared.numbers.Place.TheVariants.{Sensor, Port, Cell}
use Rattle.tdl_stack.specs.Lawful.{CodeShape}

-- a sensor or an output that is there, and no cell
abbrev pub IsReadable : CodeShape → Place → Type 0
IsReadable shape (Sensor k) = k < shape.sensors
IsReadable shape (Port key) = Contains shape.keys key
IsReadable shape (Cell k) = ⊥
