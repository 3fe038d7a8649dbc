-- The text of a schedule.
use Rattle.std.specs.Prelude.{ℕ, List, [], ◌∷◌, ◌++◌, option_map, option_and_then, unwrap_or, slice_get, codes}
use Rattle.std.specs.List.{flat_map}
use Rattle.std.specs.Fmt.{decimal}
use Rattle.tdl_mode.specs.declared.program.Program.{Program}
use Rattle.tdl_deploy.specs.declared.schedule.Schedule.{Schedule}
use Rattle.tdl_deploy.specs.declared.schedule.Window.{Window}
use Rattle.tdl_deploy.specs.declared.schedule.Resource.{Resource}
use Rattle.tdl_deploy.specs.declared.schedule.Resource.TheVariants.{Cpu, Bus}

-- the word of what a window reserves
abbrev pub resource_word : Resource → List ℕ
resource_word Cpu = codes "cpu"
resource_word Bus = codes "bus"

-- the name of module m, empty where there is none
abbrev pub module_name : Program → ℕ → List ℕ
module_name program m = unwrap_or (option_map (λ owner. owner.name) (slice_get program.modules m)) []

-- the name of mode k of module m, empty where there is none
abbrev pub mode_name : Program → ℕ → ℕ → List ℕ
mode_name program m k =
    unwrap_or (option_map (λ mode. mode.name) (option_and_then (λ owner. slice_get owner.modes k)
    (slice_get program.modules m))) []

-- a space and what follows it
abbrev pub after_space : List ℕ → List ℕ
after_space text = 32 ∷ text

-- words with one space between them
abbrev pub spaced : List (List ℕ) → List ℕ
spaced [] = []
spaced (word ∷ []) = word
spaced (word ∷ next ∷ words) = word ++ after_space (spaced (next ∷ words))

-- the words of a window
abbrev pub words_of_window : Program → Window → List (List ℕ)
words_of_window program w =
    resource_word w.resource ∷ module_name program w.«module».0 ∷ mode_name program w.«module».0 w.mode.0
    ∷ decimal w.invocation ∷ decimal w.offset ∷ decimal w.length ∷ []

-- the line of a window, with its line end
abbrev pub window_line : Program → Window → List ℕ
window_line program w = spaced (words_of_window program w) ++ codes "\n"

-- the lines of all windows, in order
abbrev pub schedule_text : Schedule → Program → List ℕ
schedule_text schedule program = flat_map (window_line program) schedule.windows
