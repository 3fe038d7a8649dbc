-- Where a module is imported.
use Rattle.std.specs.Prelude.{ℕ, Bool, not, ◌&&◌, List}
use Rattle.std.specs.List.{list_any}
use Rattle.tdl_base.specs.declared.numbers.ModuleId.{ModuleId}
use Rattle.tdl_mode.specs.Imports.{is_among, imports_of}
use Rattle.tdl_mode.specs.declared.program.Program.{Program}
use Rattle.tdl_deploy.specs.declared.placement.PlacedNode.{PlacedNode}

-- one of these modules imports module m directly
abbrev pub is_imported_among : Program → ℕ → List ModuleId → Bool
is_imported_among program m modules = list_any (λ h. is_among m (imports_of program h.0)) modules

-- a node has an importer of module m, and does not host it
abbrev pub imports_afar : Program → ℕ → PlacedNode → Bool
imports_afar program m n = not (is_among m n.modules) && is_imported_among program m n.modules
