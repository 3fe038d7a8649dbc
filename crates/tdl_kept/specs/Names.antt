-- Names that are identifiers and differ, and modules that are imported once.
use Rattle.std.specs.Prelude.{◌≡◌, ℕ, ◌++◌, All, List, map, Some, slice_get}
use Rattle.tdl_mode.specs.declared.program.Program.{Program}
use Rattle.tdl_mode.specs.declared.program.Module.{Module}
use Rattle.tdl_mode.specs.declared.program.Task.{Task}
use Rattle.tdl_size.specs.Sized.{IsIdentifier}

-- no item stands at two places
abbrev pub Differ : {A : Type 0} → List A → Type 0
Differ xs = (p q : ℕ) (x : _) → slice_get xs p ≡ Some x → slice_get xs q ≡ Some x → p ≡ q

-- the names of the parts of a module, sort by sort
abbrev pub part_names : Module → List (List ℕ)
part_names m =
    map (λ constant. constant.name) m.constants
    ++ (map (λ port. port.name) m.sensors
    ++ (map (λ port. port.name) m.actuators
    ++ (map (λ task. task.name) m.tasks ++ map (λ mode. mode.name) m.modes)))

-- the names of the ports of a task
abbrev pub port_names : Task → List (List ℕ)
port_names task =
    map (λ port. port.name) task.inputs
    ++ (map (λ port. port.name) task.outputs ++ map (λ port. port.name) task.locals)

-- the names of a module differ, and its imports
pub record ModuleNames (m : Module) : Type 0 where
  pub parts : Differ (part_names m)
  pub ports : (n : ℕ) (task : Task) → slice_get m.tasks n ≡ Some task → Differ (port_names task)
  pub imports : Differ m.imports

-- the names of modules differ, and those in each
pub record KeepsNames (program : Program) : Type 0 where
  pub names : Differ (map (λ m. m.name) program.modules)
  pub modules : (k : ℕ) (m : Module) → slice_get program.modules k ≡ Some m → ModuleNames m

-- the names of a module are identifiers
pub record ModuleIdentifiers (m : Module) : Type 0 where
  pub own : IsIdentifier m.name
  pub parts : All IsIdentifier (part_names m)
  pub ports : (n : ℕ) (task : Task) → slice_get m.tasks n ≡ Some task → All IsIdentifier (port_names task)

-- those of each module are
pub record HasIdentifiers (program : Program) : Type 0 where
  pub modules : (k : ℕ) (m : Module) → slice_get program.modules k ≡ Some m → ModuleIdentifiers m
