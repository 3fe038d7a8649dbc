-- The names of the declarations of one part.
use Rattle.std.specs.Prelude.{List, [], ◌∷◌, Option, Some, None}
use Rattle.tdl_tree.specs.declared.declarations.Decl.{Decl}
use Rattle.tdl_tree.specs.declared.names.Id.{Id}
use Rattle.tdl_bounds.specs.declared.parts.Part.{Part}
use Rattle.tdl_bounds.specs.declared.parts.Part.TheVariants as part
use Rattle.tdl_rules.specs.BoundRules.{task_names, mode_names, constant_names, sensor_names, actuator_names}

-- an item as a list, where it is there
abbrev pub alone : {A : Type 0} → Option A → List A
alone None = []
alone (Some x) = x ∷ []

-- the name of a declaration of a part
abbrev pub names_of : Part → Decl → List Id
names_of part.Task = task_names
names_of part.Mode = mode_names
names_of part.Constant = constant_names
names_of part.Sensor = sensor_names
names_of part.Actuator = actuator_names
