-- The ports of plants.
use Rattle.std.specs.Prelude.{ℕ, Bool, nat_lt, List, Option, Some, None, option_and_then, slice_get, if◌then◌else◌}
use Rattle.tdl_scenario.specs.declared.plants.PlantPorts.{PlantPorts}
use Rattle.tdl_scenario.specs.declared.entry.Plug.{Plug}

-- how many ports of a plant a sensor can take, or else an actuator
abbrev pub port_count : PlantPorts → Bool → ℕ
port_count ports sensor = if sensor then ports.senses else ports.settles

-- the port of a plant, where the plant has it
abbrev pub plug_at : ℕ → ℕ → Bool → PlantPorts → Option Plug
plug_at plant port sensor ports =
    if nat_lt port (port_count ports sensor) then Some (record { plant = plant; port = port }) else None

-- the port of a plant by their numbers, where both exist
abbrev pub plug_of : List PlantPorts → Bool → ℕ → ℕ → Option Plug
plug_of plants sensor plant port = option_and_then (plug_at plant port sensor) (slice_get plants plant)
