-- What a module reads at an instant.
use Rattle.std.specs.Prelude.{ℕ, ℤ, pos, List, option_map, unwrap_or, slice_get}
use Rattle.tdl_base.specs.declared.numbers.PortKey.{PortKey}
use Rattle.tdl_base.specs.Sensed.{Sensed, sensed_at}
use Rattle.tdl_body.specs.Values.{Look}
use Rattle.tdl_mode.specs.States.{TaskState, output_at}
use Rattle.tdl_logic.specs.declared.seen.Seen.{Seen}

-- an output among those of the tasks of all modules, 0 where there is none
abbrev pub output_in : List (List TaskState) → PortKey → ℤ
output_in all key =
    unwrap_or (option_map (λ tasks. output_at tasks key.task.0 key.output) (slice_get all key.module.0)) (pos 0)

-- the sensors of module k, and the outputs of all tasks
abbrev pub look_at : ℕ → Sensed → List (List TaskState) → Look
look_at k sensed all = record { cell = λ _. pos 0; sensor = sensed k; port = output_in all }

-- the same as a reader shows it
abbrev pub shown : Seen → Look
shown seen = look_at seen.module.0 (sensed_at seen.sensed.now) seen.tasks.now
