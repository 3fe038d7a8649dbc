-- The numbers of parts of one sort among the declarations of a module and among the ports of a task.
use Rattle.std.specs.Prelude.{ℕ, ◌+◌, Bool, true, false, List, [], filter, length, take, option_map, slice_get, unwrap_or}
use Rattle.tdl_tree.specs.declared.declarations.Decl.{Decl}
use Rattle.tdl_tree.specs.declared.declarations.Decl.TheVariants as decl
use Rattle.tdl_tree.specs.declared.declarations.PortDecl.{PortDecl}
use Rattle.tdl_tree.specs.declared.declarations.Sort.{Sort}
use Rattle.tdl_tree.specs.declared.declarations.Sort.TheVariants as sort
use Rattle.tdl_tree.specs.declared.declarations.Tree.{Tree}
use Rattle.tdl_rules.specs.Naming.{ports_in}

-- how many of the items before item k pass: the number of item k among those that pass
abbrev pub ordinal : {A : Type 0} → (A → Bool) → List A → ℕ → ℕ
ordinal passes xs k = length (filter passes (take k xs))

-- ---- declarations

-- a declaration of a sensor
abbrev pub is_sensor : Decl → Bool
is_sensor (decl.Sensor kind name) = true
is_sensor _ = false

-- a declaration of an actuator
abbrev pub is_actuator : Decl → Bool
is_actuator (decl.Actuator kind name initial) = true
is_actuator _ = false

-- a declaration of a task
abbrev pub is_task : Decl → Bool
is_task (decl.Task public name worst ports body) = true
is_task _ = false

-- a declaration of a mode
abbrev pub is_mode : Decl → Bool
is_mode (decl.Mode start name period acts) = true
is_mode _ = false

-- ---- ports

-- a port of this sort
abbrev pub is_sort : Sort → Sort → Bool
is_sort sort.Input sort.Input = true
is_sort sort.Output sort.Output = true
is_sort sort.Local sort.Local = true
is_sort a b = false

-- the ports of a sort, in order
abbrev pub ports_of : Sort → List PortDecl → List PortDecl
ports_of wanted ports = filter (λ port. is_sort wanted port.sort) ports

-- how many cells stand before those of a sort: inputs come first, then outputs, then locals
abbrev pub cells_before : Sort → List PortDecl → ℕ
cells_before sort.Input ports = 0
cells_before sort.Output ports = length (ports_of sort.Input ports)
cells_before sort.Local ports = length (ports_of sort.Input ports) + length (ports_of sort.Output ports)

-- the number of port k among those of its sort
abbrev pub port_ordinal : Sort → List PortDecl → ℕ → ℕ
port_ordinal wanted ports k = ordinal (λ port. is_sort wanted port.sort) ports k

-- the cell of port k, of this sort
abbrev pub cell_at : List PortDecl → ℕ → Sort → ℕ
cell_at ports k wanted = cells_before wanted ports + port_ordinal wanted ports k

-- the cell of port k of a task; 0 where there is none
abbrev pub cell_of : List PortDecl → ℕ → ℕ
cell_of ports k = unwrap_or (option_map (λ port. cell_at ports k port.sort) (slice_get ports k)) 0

-- ---- other modules

-- the declarations of source m
abbrev pub declarations_of : List Tree → ℕ → List Decl
declarations_of sources m = unwrap_or (option_map (λ tree. tree.decls) (slice_get sources m)) []

-- the ports of declaration k of source m
abbrev pub ports_at : List Tree → ℕ → ℕ → List PortDecl
ports_at sources m k = unwrap_or (option_map ports_in (slice_get (declarations_of sources m) k)) []
