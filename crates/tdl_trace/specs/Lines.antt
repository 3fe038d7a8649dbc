-- The lines in which rows are printed.
use Rattle.std.specs.Prelude.{ℕ, ◌+◌, ◌/◌, ◌%◌, nat_lt, if◌then◌else◌, ℤ, List, [], ◌∷◌, ◌++◌, Option, option_map, option_and_then, unwrap_or, slice_get, find, codes, ◌==◌}
use Rattle.std.specs.List.{flat_map}
use Rattle.std.specs.Fmt.{decimal, signed_decimal}
use Rattle.tdl_trace.specs.declared.names.Names.{Names}
use Rattle.tdl_trace.specs.declared.why.Why.{Why}
use Rattle.tdl_trace.specs.declared.why.Why.TheVariants.{Late, Busy, Clash, Budget, Lost}
use Rattle.tdl_trace.specs.declared.names.ModuleNames.{ModuleNames}
use Rattle.tdl_trace.specs.declared.names.TaskNames.{TaskNames}
use Rattle.tdl_trace.specs.Shown.{Shown}

-- a text is a list of bytes
abbrev pub Bytes : Type 0
Bytes = List ℕ

-- a name that is there, or no bytes
abbrev pub or_empty : Option Bytes → Bytes
or_empty name = unwrap_or name []

-- the names of module m, where it has some
abbrev pub module_at : Names → ℕ → Option ModuleNames
module_at names m = find (λ n. n.number.0 == m) names.modules

-- the names of task t of module m, where it has some
abbrev pub task_at : Names → ℕ → ℕ → Option TaskNames
task_at names m t = option_and_then (λ n. slice_get n.tasks t) (module_at names m)

-- the name of a node
abbrev pub node_name : Names → ℕ → Bytes
node_name names node = or_empty (slice_get names.nodes node)

-- the name of module m
abbrev pub module_name : Names → ℕ → Bytes
module_name names m = or_empty (option_map (λ n. n.name) (module_at names m))

-- the name of a mode of module m
abbrev pub mode_name : Names → ℕ → ℕ → Bytes
mode_name names m mode = or_empty (option_and_then (λ n. slice_get n.modes mode) (module_at names m))

-- the name of actuator a of module m
abbrev pub actuator_name : Names → ℕ → ℕ → Bytes
actuator_name names m a =
    or_empty (option_map (λ n. n.name) (option_and_then (λ n. slice_get n.actuators a) (module_at names m)))

-- the name of task t of module m
abbrev pub task_name : Names → ℕ → ℕ → Bytes
task_name names m t = or_empty (option_map (λ n. n.name) (task_at names m t))

-- the name of output o of task t of module m
abbrev pub output_name : Names → ℕ → ℕ → ℕ → Bytes
output_name names m t o =
    or_empty (option_map (λ n. n.name) (option_and_then (λ n. slice_get n.outputs o) (task_at names m t)))

-- the name of sensor k of module m
abbrev pub sensor_name : Names → ℕ → ℕ → Bytes
sensor_name names m k =
    or_empty (option_map (λ n. n.name) (option_and_then (λ n. slice_get n.sensors k) (module_at names m)))

-- why a run ends
abbrev pub why_name : Why → Bytes
why_name Late = codes "Late"
why_name Busy = codes "Busy"
why_name Clash = codes "Clash"
why_name Budget = codes "Budget"
why_name Lost = codes "Lost"

-- a number after a space
abbrev pub operand : ℕ → Bytes
operand n = codes " " ++ decimal n

-- the text of an instruction, from its opcode and its operands
abbrev pub instruction_text : ℕ → ℕ → ℕ → Bytes
instruction_text op a b =
    if op == 0 then codes "return"
    else if op == 1 then codes "call" ++ operand a
    else if op == 2 then codes "release" ++ operand a
    else if op == 3 then codes "end" ++ operand a
    else if op == 4 then codes "take" ++ operand a
    else if op == 5 then codes "mode" ++ operand a
    else if op == 6 then codes "if" ++ operand a ++ operand b
    else if op == 7 then codes "jump" ++ operand a
    else codes "future" ++ operand a ++ operand b

-- a digit of a number below 16, in lower case
abbrev pub hex_digit : ℕ → ℕ
hex_digit n = if nat_lt n 10 then 48 + n else 87 + n

-- two digits for each byte
abbrev pub hex_of : List ℕ → Bytes
hex_of [] = []
hex_of (b ∷ bs) = hex_digit (b / 16) ∷ hex_digit (b % 16) ∷ hex_of bs

-- how a line begins: the instant, the node and what the row is
abbrev pub head_of : Names → ℕ → ℕ → Bytes → Bytes
head_of names at node word = decimal at ++ codes " " ++ node_name names node ++ word

-- how a line with a number ends
abbrev pub value_end : ℤ → Bytes
value_end v = codes " " ++ signed_decimal v ++ codes "\n"

-- the printed line of a row, with its line end
abbrev pub line_of : Names → Shown → Bytes
line_of names (Shown.Port at node m t o v) =
    head_of names at node (codes " port ") ++ module_name names m ++ codes "." ++ task_name names m t ++ codes "."
    ++ output_name names m t o ++ value_end v
line_of names (Shown.Act at node m a v) =
    head_of names at node (codes " act ") ++ module_name names m ++ codes "." ++ actuator_name names m a ++ value_end v
line_of names (Shown.Mode at node m mode) =
    head_of names at node (codes " mode ") ++ module_name names m ++ codes " " ++ mode_name names m mode ++ codes "\n"
line_of names (Shown.Sense at node m k v) =
    head_of names at node (codes " sense ") ++ module_name names m ++ codes "." ++ sensor_name names m k ++ value_end v
line_of names (Shown.Trap at node why) = head_of names at node (codes " trap ") ++ why_name why ++ codes "\n"
line_of names (Shown.Step at node m block index op a b) =
    head_of names at node (codes " step ") ++ module_name names m ++ operand block ++ operand index ++ codes " "
    ++ instruction_text op a b ++ codes "\n"
line_of names (Shown.Send at node m mode invocation frame) =
    head_of names at node (codes " send ") ++ module_name names m ++ codes " " ++ mode_name names m mode
    ++ operand invocation ++ codes " " ++ hex_of frame ++ codes "\n"
line_of names (Shown.Ran at node m t from) =
    head_of names at node (codes " ran ") ++ module_name names m ++ codes "." ++ task_name names m t ++ operand from
    ++ codes "\n"

-- the lines of rows, in order
unfoldable pub text_of : Names → List Shown → Bytes
text_of names rows = flat_map (line_of names) rows

-- the line of row i, where it is there
abbrev pub line_at : Names → List Shown → ℕ → Bytes
line_at names rows i = or_empty (option_map (line_of names) (slice_get rows i))
