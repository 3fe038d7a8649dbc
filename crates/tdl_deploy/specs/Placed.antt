-- What a placement says: which node hosts, imports and sees a module, and what its frames take.
use Rattle.std.specs.Prelude.{ℕ, ◌+◌, ◌*◌, Bool, not, ◌&&◌, ◌||◌, List, [], option_map, unwrap_or, slice_get, map, sum}
use Rattle.std.specs.List.{list_any}
use Rattle.tdl_base.specs.declared.numbers.ModuleId.{ModuleId}
use Rattle.tdl_base.specs.Numbers.{width_of}
use Rattle.tdl_mode.specs.declared.program.Program.{Program}
use Rattle.tdl_mode.specs.declared.program.Task.{Task}
use Rattle.tdl_mode.specs.Imports.{is_among, imports_of}
use Rattle.tdl_deploy.specs.declared.placement.Placement.{Placement}
use Rattle.tdl_deploy.specs.declared.placement.PlacedNode.{PlacedNode}

-- the modules that a node hosts
abbrev pub modules_on : Placement → ℕ → List ModuleId
modules_on placement node = unwrap_or (option_map (λ n. n.modules) (slice_get placement.nodes node)) []

-- the node hosts module m
abbrev pub hosts : Placement → ℕ → ℕ → Bool
hosts placement node m = is_among m (modules_on placement node)

-- some module that the node hosts imports module m directly
abbrev pub imports : Program → Placement → ℕ → ℕ → Bool
imports program placement node m = list_any (λ h. is_among m (imports_of program h.0)) (modules_on placement node)

-- the node sees a task of module m: its own, or a public one of a module that its own import directly
abbrev pub sees : Program → Placement → ℕ → ℕ → Task → Bool
sees program placement node m task = hosts placement node m || (task.public && imports program placement node m)

-- a public task is remote where some node without its module has an importer of it
abbrev pub is_remote : Program → Placement → ℕ → Task → Bool
is_remote program placement m task = task.public && list_any elsewhere placement.nodes
  where
    elsewhere : PlacedNode → Bool
    elsewhere n = not (is_among m n.modules) && list_any (λ h. is_among m (imports_of program h.0)) n.modules

-- the bytes of a frame of a task
abbrev pub frame_len : Task → ℕ
frame_len task = 7 + sum (map (λ o. width_of o.kind) task.outputs)

-- the microseconds that a frame takes on the bus
abbrev pub duration_of : Placement → Task → ℕ
duration_of placement task =
    unwrap_or (option_map (λ c. c.overhead) placement.bus) 0 + frame_len task * unwrap_or (option_map (λ c. c.per_byte) placement.bus) 0
