-- What a line of a placement says.
use Rattle.std.specs.Prelude.{ℕ, suc, nat_le, List, [], ◌∷◌, Option, Some, None, option_map, option_and_then, unwrap_or, is_none, filter_map, if◌then◌else◌, bytes_eq, codes}
use Rattle.std.specs.List.{list_any}
use Rattle.tdl_base.specs.declared.numbers.ModuleId.{ModuleId}
use Rattle.tdl_mode.specs.declared.program.Program.{Program}
use Rattle.tdl_mode.specs.declared.program.Module.{Module}
use Rattle.tdl_scan.specs.Lexemes.{is_identifier}
use Rattle.tdl_scen.specs.Lines.{number_of}
use Rattle.tdl_deploy.specs.declared.placement.PlacedNode.{PlacedNode}
use Rattle.tdl_place.specs.declared.entry.Entry.{Entry}
use Rattle.tdl_place.specs.declared.entry.Entry.TheVariants.{Formless, Node, Bus}
use Rattle.tdl_place.specs.declared.limits.TheConstants.{COST_US}

-- the first of these modules that has the name; the first of all has the number k
abbrev pub module_from : ℕ → List Module → List ℕ → Option ModuleId
module_from k [] name = None
module_from k (m ∷ ms) name = if bytes_eq m.name name then Some (record { 0 = k }) else module_from (suc k) ms name

-- the first module of a name
abbrev pub module_named : Program → List ℕ → Option ModuleId
module_named program name = module_from 0 program.modules name

-- a number that is not too great
abbrev pub within_cost : ℕ → Option ℕ
within_cost n = if nat_le n COST_US then Some n else None

-- the cost that a word is
abbrev pub cost_of : List ℕ → Option ℕ
cost_of word = option_and_then within_cost (number_of word)

-- the node of a name with the modules that words name
abbrev pub node_of : Program → List ℕ → List (List ℕ) → PlacedNode
node_of program name words = record { name = name; modules = filter_map (module_named program) words }

-- `node NAME MODULE MODULE`, with any number of modules
abbrev pub node_said : Program → List (List ℕ) → Option Entry
node_said program [] = None
node_said program (name ∷ words) =
    if is_identifier name
    then Some (Node (node_of program name words) (list_any (λ word. is_none (module_named program word)) words))
    else None

-- a cost of the bus
abbrev pub bus_entry : ℕ → ℕ → Entry
bus_entry overhead per_byte = Bus (record { overhead = overhead; per_byte = per_byte })

-- `bus OVERHEAD PER_BYTE`
abbrev pub bus_said : List (List ℕ) → Option Entry
bus_said (overhead ∷ per_byte ∷ []) =
    option_and_then (λ o. option_map (λ b. bus_entry o b) (cost_of per_byte)) (cost_of overhead)
bus_said words = None

-- what words say after their first
abbrev pub said_after : Program → List ℕ → List (List ℕ) → Option Entry
said_after program key words =
    if bytes_eq key (codes "node") then node_said program words
    else if bytes_eq key (codes "bus") then bus_said words
    else None

-- what the words of a line say, where there are these modules
abbrev pub entry_of : Program → List (List ℕ) → Entry
entry_of program [] = Formless
entry_of program (key ∷ words) = unwrap_or (said_after program key words) Formless
