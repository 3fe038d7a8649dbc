-- Which modules a module imports.
use Rattle.std.specs.Prelude.{ℕ, ◌==◌, Bool, List, [], option_map, unwrap_or, slice_get}
use Rattle.std.specs.List.{list_any}
use Rattle.tdl_base.specs.declared.numbers.ModuleId.{ModuleId}
use Rattle.tdl_mode.specs.declared.program.Program.{Program}

-- m is one of these modules
abbrev pub is_among : ℕ → List ModuleId → Bool
is_among m ids = list_any (λ i. i.0 == m) ids

-- the modules that module m imports directly
abbrev pub imports_of : Program → ℕ → List ModuleId
imports_of program m = unwrap_or (option_map (λ d. d.imports) (slice_get program.modules m)) []
